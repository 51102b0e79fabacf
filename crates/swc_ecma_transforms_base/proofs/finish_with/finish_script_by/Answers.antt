use Rattle.std.proofs.Common.{refl, sym, ◌∙◌}
use Rattle.swc_tree_modules.specs.Nodes.{script_node}
use Rattle.swc_tree_sites_kept.specs.Scripts.{script_place}
use Rattle.swc_ecma_transforms_base_chains.proofs.Finishing.{no_types_left}
use Rattle.swc_ecma_transforms_base.proofs.finish_with.finish_script_by.Goals as goal

-- src/finish_with.rt
pub returns-clause-asked : goal.returns-clause-asked
returns-clause-asked g c = λ none. c.finish_typeless_script_by.ensures.asked

pub returns-clause-unasked : goal.returns-clause-unasked
returns-clause-unasked g c = λ some. absurd (cc (c.types_in_script.ensures, c.if-types_in_script.false, some))

pub returns-then-types_in_script-clause-no_target : goal.returns-then-types_in_script-clause-no_target
returns-then-types_in_script-clause-no_target g c =
    λ f. absurd (no_types_left c.args.config script_place (script_node c.args.program.now) refl c.script_fits.ensures f (sym c.types_in_script.ensures ∙ c.if-types_in_script.true))
