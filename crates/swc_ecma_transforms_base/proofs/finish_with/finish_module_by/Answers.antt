use Rattle.std.proofs.Common.{refl, sym, ◌∙◌}
use Rattle.swc_tree_modules.specs.Nodes.{module_node}
use Rattle.swc_base_renaming_laws.proofs.IdsPrograms.{module_place}
use Rattle.swc_ecma_transforms_base_chains.proofs.Finishing.{no_types_left}
use Rattle.swc_ecma_transforms_base.proofs.finish_with.finish_module_by.Goals as goal

-- src/finish_with.rt
pub returns-clause-asked : goal.returns-clause-asked
returns-clause-asked g c = λ none. c.finish_typeless_module_by.ensures.asked

pub returns-clause-unasked : goal.returns-clause-unasked
returns-clause-unasked g c = λ some. absurd (cc (c.types_in_module.ensures, c.if-types_in_module.false, some))

pub returns-then-types_in_module-clause-no_target : goal.returns-then-types_in_module-clause-no_target
returns-then-types_in_module-clause-no_target g c =
    λ f. absurd (no_types_left c.args.config module_place (module_node c.args.program.now) refl c.module_fits.ensures f (sym c.types_in_module.ensures ∙ c.if-types_in_module.true))
