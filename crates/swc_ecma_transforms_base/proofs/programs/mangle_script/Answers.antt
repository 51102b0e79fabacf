use Rattle.std.proofs.Common.{◌≢◌, refl}
use Rattle.std.proofs.lemmas.Result.{IfErr-weaker, on_ok_weaker}
use Rattle.swc_tree_marks.specs.declared.error.PassError.TheVariants as error
use Rattle.swc_tree_node.specs.declared.kind.Class.TheVariants as class
use Rattle.swc_tree_node.specs.declared.slot.Content.TheVariants as content
use Rattle.swc_tree_node.specs.declared.slot.Slot.TheVariants as slot
use Rattle.swc_tree_modules.specs.Nodes.{script_node}
use Rattle.swc_ecma_transforms_base.specs.Mangled.{IsRefusal}
use Rattle.swc_ecma_transforms_base.proofs.Made.{form_kept, source_kept, spared}
use Rattle.swc_ecma_transforms_base.proofs.programs.mangle_script.Goals as goal

pub returns-clause-form : goal.returns-clause-form
returns-clause-form c = λ source.
    let t = script_node c.args.program.now in
    on_ok_weaker c.make_script.result
    (λ made. form_kept c.args.unresolved c.args.config.now c.args.keeps_top c.args.globals.now c.make_script.new.globals (slot.One (content.Node class.Script)) t refl c.script_fits.ensures
    c.mangled_sources_keep_forms.ensures (script_node c.make_script.new.program) made source)
    c.make_script.ensures.done

pub returns-clause-promises : goal.returns-clause-promises
returns-clause-promises c = λ source plain.
    let t = script_node c.args.program.now in
    on_ok_weaker c.make_script.result
    (λ made. source_kept c.args.unresolved c.args.config.now c.args.keeps_top c.args.globals.now c.make_script.new.globals (slot.One (content.Node class.Script)) t refl c.script_fits.ensures
    c.mangled_sources_are_kept.ensures c.requires.0.1 (script_node c.make_script.new.program) made source (λ _. plain))
    c.make_script.ensures.done

pub returns-clause-no_target : goal.returns-clause-no_target
returns-clause-no_target c = λ source.
    let t = script_node c.args.program.now in
    IfErr-weaker c.make_script.result (IsRefusal c.args.unresolved c.args.config.now c.args.keeps_top c.args.globals.now t c.make_script.new.globals) (λ e. e ≢ error.NotAssignable)
    (λ e cause. spared c.args.unresolved c.args.config.now c.args.keeps_top c.args.globals.now c.make_script.new.globals (slot.One (content.Node class.Script)) t refl c.script_fits.ensures
    c.mangled_sources_keep_forms.ensures source e cause)
    c.make_script.ensures.cause
