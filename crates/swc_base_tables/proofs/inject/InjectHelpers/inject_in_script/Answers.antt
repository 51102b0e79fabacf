use Rattle.std.proofs.Common.{rules}
use Rattle.swc_tree_modules.specs.Nodes.{script_node}
use Rattle.swc_base_tables.proofs.Kept.{script_stays_well_scoped}
use Rattle.swc_base_tables.proofs.inject.InjectHelpers.inject_in_script.Goals as goal

-- src/inject.rt
pub returns-clause-well_scoped : goal.returns-clause-well_scoped
returns-clause-well_scoped c = λ untyped bodies is fit. script_stays_well_scoped c.injection_keeps_a_script_well_scoped.ensures c.types_are_told.ensures c.args.self.now.global c.args.self.now.helpers bodies c.args.globals.now
    c.given.new.globals (script_node c.args.program.now) (script_node c.from_node.result) untyped (search rules) fit
