use Rattle.std.proofs.Common.{◌≡◌, ◌∙◌, ap, refl, sym}
use Rattle.std.proofs.lemmas.Result.{err_from_is_err_and}
use Rattle.swc_tree_node.specs.declared.kind.Class.TheVariants as class
use Rattle.swc_tree_node.specs.declared.slot.Content.TheVariants as content
use Rattle.swc_tree_node.specs.declared.slot.Slot.TheVariants as slot
use Rattle.swc_tree_modules.specs.Nodes.{module_node}
use Rattle.swc_tree_scoping.proofs.Program.{module_opens}
use Rattle.swc_tree_spaces.specs.Spaces.{has_types}
use Rattle.swc_ecma_transforms_base.proofs.Made.{gained_of, made_of, none_gained, refused_of}
use Rattle.swc_ecma_transforms_base.proofs.programs.make_module.Goals as goal

pub mangle_node-requires-clause-program : goal.mangle_node-requires-clause-program
mangle_node-requires-clause-program c = module_opens c.in_ok-node.node c.in_ok-node.ensures.1

pub mangle_node-requires-clause-no_types : goal.mangle_node-requires-clause-no_types
mangle_node-requires-clause-no_types c = ap has_types (c.in_ok-node.ensures.0 ∙ ap module_node c.replace-module.ensures.value) ∙ sym c.types_in_module.ensures ∙ c.if-types_in_module.false

pub from_node-requires : goal.from_node-requires
from_node-requires c = c.in_ok-answer.ensures.fits (slot.One (content.Node class.Module)) refl c.in_ok-node.ensures.1

pub returns-in_err-node-clause-marks : goal.returns-in_err-node-clause-marks
returns-in_err-node-clause-marks c = none_gained c.args.config.now.top_level_mark c.args.globals.now (module_node c.args.program.now)

pub returns-in_err-answer-clause-cause : goal.returns-in_err-answer-clause-cause
returns-in_err-answer-clause-cause c =
    let t = module_node c.args.program.now in
    let before : c.in_ok-node.node ≡ t = c.in_ok-node.ensures.0 ∙ ap module_node c.replace-module.ensures.value in
    let refused = err_from_is_err_and c.from_residual-in_err-answer.result c.from_residual-in_err-answer.ensures.1 in
    rw (refused.1, refused.2) (refused_of c.args.unresolved c.args.config.now c.args.keeps_top c.args.globals.now c.mangle_node.new.globals c.in_ok-node.node t before c.in_err-answer.field-0.0 c.in_err-answer.ensures.cause)

pub returns-in_err-answer-clause-marks : goal.returns-in_err-answer-clause-marks
returns-in_err-answer-clause-marks c =
    let t = module_node c.args.program.now in
    let before : c.in_ok-node.node ≡ t = c.in_ok-node.ensures.0 ∙ ap module_node c.replace-module.ensures.value in
    gained_of c.args.unresolved c.args.config.now c.args.keeps_top c.args.globals.now c.mangle_node.new.globals c.in_ok-node.node t before c.mangle_node.ensures.marks

pub returns-clause-done : goal.returns-clause-done
returns-clause-done c =
    let t = module_node c.args.program.now in
    let before : c.in_ok-node.node ≡ t = c.in_ok-node.ensures.0 ∙ ap module_node c.replace-module.ensures.value in
    made_of c.args.unresolved c.args.config.now c.args.keeps_top c.args.globals.now c.mangle_node.new.globals c.in_ok-node.node t before c.in_ok-answer.answer (module_node c.from_node.result) c.from_node.ensures c.in_ok-answer.ensures.done

pub returns-clause-marks : goal.returns-clause-marks
returns-clause-marks c =
    let t = module_node c.args.program.now in
    let before : c.in_ok-node.node ≡ t = c.in_ok-node.ensures.0 ∙ ap module_node c.replace-module.ensures.value in
    gained_of c.args.unresolved c.args.config.now c.args.keeps_top c.args.globals.now c.mangle_node.new.globals c.in_ok-node.node t before c.mangle_node.ensures.marks

pub returns-then-types_in_module-clause-marks : goal.returns-then-types_in_module-clause-marks
returns-then-types_in_module-clause-marks c = none_gained c.args.config.now.top_level_mark c.args.globals.now (module_node c.args.program.now)
