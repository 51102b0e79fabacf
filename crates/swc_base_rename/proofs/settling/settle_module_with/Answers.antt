use Rattle.std.proofs.Common.{◌≡◌, ap, refl, subst, sym, ◌∙◌}
use Rattle.std.proofs.lemmas.Result.{err_from_is_err_and}
use Rattle.swc_tree_modules.specs.Nodes.{module_node}
use Rattle.swc_base_rename_naming.specs.Ids.{HasJust}
use Rattle.swc_base_rename_program.specs.declared.mode.Mode.{Mode}
use Rattle.swc_base_rename.proofs.Renamed.{refused_by, settled_by}
use Rattle.swc_base_rename.proofs.settling.settle_module_with.Goals as goal

-- src/settling.rt
pub returns-in_err-answer-clause-cause : goal.returns-in_err-answer-clause-cause
returns-in_err-answer-clause-cause g c =
    let t = module_node c.args.program.now in
    let before : c.in_ok-node.node ≡ t = c.in_ok-node.ensures.0 ∙ ap module_node c.replace-module.ensures.value in
    let just : HasJust (g.R.Renamer.preserved c.args.renamer.now t) c.in_ok-preserved.preserved = λ x. c.in_ok-preserved.ensures.just x ∙ ap (λ p. g.R.Renamer.preserved c.args.renamer.now (module_node p) x) c.replace-module.ensures.value in
    let asked : g.R.Renamer.asked c.args.renamer.now t c.preserved_ids_for_module.new.self = subst (λ p. g.R.Renamer.asked c.args.renamer.now (module_node p) c.preserved_ids_for_module.new.self) c.replace-module.ensures.value c.in_ok-preserved.ensures.asked in
    let mode : Mode = record { mangles = g.R.Renamer.MANGLE; resets = g.R.Renamer.RESET_N } in
    let refused = err_from_is_err_and c.from_residual-in_err-answer.result c.from_residual-in_err-answer.ensures.1 in
    rw (refused.1, refused.2) (record {
      refusal = refused_by (g.R.Renamer.text c.preserved_ids_for_module.new.self) mode mode c.in_ok-preserved.preserved (g.R.Renamer.preserved c.args.renamer.now t) refl just c.args.globals.now c.args.config.now c.in_ok-node.node t
          c.in_err-answer.field-0.0 before c.in_err-answer.ensures.refused;
      once = asked;
    })

pub returns-clause-done : goal.returns-clause-done
returns-clause-done g c =
    let t = module_node c.args.program.now in
    let before : c.in_ok-node.node ≡ t = c.in_ok-node.ensures.0 ∙ ap module_node c.replace-module.ensures.value in
    let just : HasJust (g.R.Renamer.preserved c.args.renamer.now t) c.in_ok-preserved.preserved = λ x. c.in_ok-preserved.ensures.just x ∙ ap (λ p. g.R.Renamer.preserved c.args.renamer.now (module_node p) x) c.replace-module.ensures.value in
    let asked : g.R.Renamer.asked c.args.renamer.now t c.preserved_ids_for_module.new.self = subst (λ p. g.R.Renamer.asked c.args.renamer.now (module_node p) c.preserved_ids_for_module.new.self) c.replace-module.ensures.value c.in_ok-preserved.ensures.asked in
    let mode : Mode = record { mangles = g.R.Renamer.MANGLE; resets = g.R.Renamer.RESET_N } in
    record {
      named = settled_by (g.R.Renamer.text c.preserved_ids_for_module.new.self) mode c.in_ok-preserved.preserved (g.R.Renamer.preserved c.args.renamer.now t) just c.args.globals.now c.args.config.now c.in_ok-node.node t
          c.in_ok-answer.answer (module_node c.from_node.result) before (sym c.from_node.ensures) c.in_ok-answer.ensures.named;
      once = asked;
    }

pub returns-in_err-preserved-clause-lawful : goal.returns-in_err-preserved-clause-lawful
returns-in_err-preserved-clause-lawful g c = record {
  identifiers = g.met.R.Renamer.identifiers c.preserved_ids_for_module.new.self;
  no_eval = g.met.R.Renamer.no_eval c.preserved_ids_for_module.new.self;
  no_arguments = g.met.R.Renamer.no_arguments c.preserved_ids_for_module.new.self;
}

pub returns-in_err-node-clause-lawful : goal.returns-in_err-node-clause-lawful
returns-in_err-node-clause-lawful g c = record {
  identifiers = g.met.R.Renamer.identifiers c.preserved_ids_for_module.new.self;
  no_eval = g.met.R.Renamer.no_eval c.preserved_ids_for_module.new.self;
  no_arguments = g.met.R.Renamer.no_arguments c.preserved_ids_for_module.new.self;
}

pub returns-in_err-answer-clause-lawful : goal.returns-in_err-answer-clause-lawful
returns-in_err-answer-clause-lawful g c = record {
  identifiers = g.met.R.Renamer.identifiers c.preserved_ids_for_module.new.self;
  no_eval = g.met.R.Renamer.no_eval c.preserved_ids_for_module.new.self;
  no_arguments = g.met.R.Renamer.no_arguments c.preserved_ids_for_module.new.self;
}

pub returns-clause-lawful : goal.returns-clause-lawful
returns-clause-lawful g c = record {
  identifiers = g.met.R.Renamer.identifiers c.preserved_ids_for_module.new.self;
  no_eval = g.met.R.Renamer.no_eval c.preserved_ids_for_module.new.self;
  no_arguments = g.met.R.Renamer.no_arguments c.preserved_ids_for_module.new.self;
}
