use Rattle.std.proofs.Common.{◌≡◌, ap, arith, refl, subst, sym, ◌∙◌}
use Rattle.std.proofs.lemmas.Result.{err_from_is_err_and}
use Rattle.swc_tree_node.specs.declared.kind.Class.TheVariants as class
use Rattle.swc_tree_node.specs.declared.slot.Content.TheVariants as content
use Rattle.swc_tree_node.specs.declared.slot.Slot.TheVariants as slot
use Rattle.swc_tree_node.specs.Fits.{Fits}
use Rattle.swc_tree_modules.specs.Nodes.{module_node}
use Rattle.swc_base_rename_naming.specs.Ids.{HasJust}
use Rattle.swc_base_rename_program.specs.Renamed.{IsRenameRefusal, IsRenamedBy}
use Rattle.swc_base_rename.specs.Renamers.{renaming_in}
use Rattle.swc_base_rename.proofs.Renamed.{refused_by, renamed_by}
use Rattle.swc_base_rename.proofs.renaming.RenamePass.rename_module.Goals as goal

pub returns-in_err-answer-clause-cause : goal.returns-in_err-answer-clause-cause
returns-in_err-answer-clause-cause g c =
    let t = module_node c.args.program.now in
    let r = renaming_in g.R.Renamer.text g.R.Renamer.preserved g.R.Renamer.asked g.R.Renamer.MANGLE g.R.Renamer.RESET_N c.args.self.now.renamer c.preserved_ids_for_module.new.self t in
    let before : c.in_ok-node.node ≡ t = c.in_ok-node.ensures.0 ∙ ap module_node c.replace-module.ensures.value in
    let just : HasJust (g.R.Renamer.preserved c.args.self.now.renamer t) c.in_ok-preserved.preserved = λ x. c.in_ok-preserved.ensures.just x ∙ ap (λ p. g.R.Renamer.preserved c.args.self.now.renamer (module_node p) x) c.replace-module.ensures.value in
    let asked : g.R.Renamer.asked c.args.self.now.renamer t c.preserved_ids_for_module.new.self = subst (λ p. g.R.Renamer.asked c.args.self.now.renamer (module_node p) c.preserved_ids_for_module.new.self) c.replace-module.ensures.value c.in_ok-preserved.ensures.asked in
    let refused = err_from_is_err_and c.from_residual-in_err-answer.result c.from_residual-in_err-answer.ensures.1 in
    let refusal : IsRenameRefusal c.args.globals.now c.args.self.now.config r t c.in_err-answer.field-0.0 = refused_by (g.R.Renamer.text c.preserved_ids_for_module.new.self) c.mode_of-mode.result (record { mangles = g.R.Renamer.MANGLE; resets = g.R.Renamer.RESET_N }) c.in_ok-preserved.preserved
    (g.R.Renamer.preserved c.args.self.now.renamer t) c.mode_of-mode.ensures just c.args.globals.now c.args.self.now.config c.in_ok-node.node t c.in_err-answer.field-0.0 before c.in_err-answer.ensures.refused in
    rw (refused.1, refused.2) (record {
      refusal = refusal;
      crowded = c.refusals_are_of_crowding.ensures c.args.globals.now c.args.self.now.config r t c.in_err-answer.field-0.0 refusal;
      apart = λ x m n under over same. g.met.R.Renamer.differ c.preserved_ids_for_module.new.self x m n (omega (arith, under)) (omega (arith, over)) same;
      once = asked;
      same = refl;
      marks = refl;
    })

pub returns-clause-done : goal.returns-clause-done
returns-clause-done g c =
    let t = module_node c.args.program.now in
    let r = renaming_in g.R.Renamer.text g.R.Renamer.preserved g.R.Renamer.asked g.R.Renamer.MANGLE g.R.Renamer.RESET_N c.args.self.now.renamer c.preserved_ids_for_module.new.self t in
    let before : c.in_ok-node.node ≡ t = c.in_ok-node.ensures.0 ∙ ap module_node c.replace-module.ensures.value in
    let just : HasJust (g.R.Renamer.preserved c.args.self.now.renamer t) c.in_ok-preserved.preserved = λ x. c.in_ok-preserved.ensures.just x ∙ ap (λ p. g.R.Renamer.preserved c.args.self.now.renamer (module_node p) x) c.replace-module.ensures.value in
    let asked : g.R.Renamer.asked c.args.self.now.renamer t c.preserved_ids_for_module.new.self = subst (λ p. g.R.Renamer.asked c.args.self.now.renamer (module_node p) c.preserved_ids_for_module.new.self) c.replace-module.ensures.value c.in_ok-preserved.ensures.asked in
    let renamed : IsRenamedBy c.args.globals.now c.args.self.now.config r t (module_node c.from_node.result) = renamed_by (g.R.Renamer.text c.preserved_ids_for_module.new.self) c.mode_of-mode.result (record { mangles = g.R.Renamer.MANGLE; resets = g.R.Renamer.RESET_N }) c.in_ok-preserved.preserved
    (g.R.Renamer.preserved c.args.self.now.renamer t) c.mode_of-mode.ensures just c.args.globals.now c.args.self.now.config c.in_ok-node.node t c.in_ok-answer.answer (module_node c.from_node.result) before (sym c.from_node.ensures) c.in_ok-answer.ensures.renamed in
    let fits : Fits t (slot.One (content.Node class.Module)) = subst (λ n. Fits n (slot.One (content.Node class.Module))) before c.in_ok-node.ensures.1 in
    let bounds = c.maps_have_bounds.ensures c.args.globals.now c.args.self.now.config r t (module_node c.from_node.result) (slot.One (content.Node class.Module)) fits renamed in
    record {
      renamed = renamed;
      few = bounds.0;
      apart = λ x m n under over same. g.met.R.Renamer.differ c.preserved_ids_for_module.new.self x m n (omega (arith, under)) (omega (arith, over)) same;
      flat = bounds.1;
      once = asked;
      same = refl;
      marks = refl;
    }
