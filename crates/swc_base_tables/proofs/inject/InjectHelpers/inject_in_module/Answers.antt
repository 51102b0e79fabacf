use Rattle.std.proofs.Common.{rules}
use Rattle.swc_tree_modules.specs.Nodes.{module_node}
use Rattle.swc_base_tables.proofs.Kept.{stays_well_scoped}
use Rattle.swc_base_tables.proofs.inject.InjectHelpers.inject_in_module.Goals as goal

-- src/inject.rt
pub returns-clause-well_scoped : goal.returns-clause-well_scoped
returns-clause-well_scoped c = λ bodies is fit. stays_well_scoped c.injection_keeps_a_module_well_scoped.ensures c.args.self.now.global c.args.self.now.helpers bodies c.args.globals.now c.given.new.globals
    (module_node c.args.program.now) (module_node c.from_node.result) (search rules) fit
