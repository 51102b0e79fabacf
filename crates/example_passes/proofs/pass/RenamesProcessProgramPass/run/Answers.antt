use Rattle.std.proofs.Common.{◌∙◌, refl, subst, option_map, [], false}
use Rattle.swc_base_rename_substitution.specs.Names.{if_other_text}
use Rattle.swc_base_rename_substitution.specs.Substituted.{Substituted}
use Rattle.swc_base_resolver.proofs.Extended.{with_fresh_marks-extended}
use Rattle.swc_base_resolver.proofs.Opens.{opens}
use Rattle.example_passes.proofs.pass.RenamesProcessProgramPass.run.Goals as goal

pub returns-in_err-resolved-clause-marks : goal.returns-in_err-resolved-clause-marks
returns-in_err-resolved-clause-marks c =
    let gained = c.resolve_program.ensures.table in
    let more = with_fresh_marks-extended c.args.globals.now c.args.self.now.top gained.0 in
    (more.0, gained.2 ∙ more.1)

pub returns-in_err-names-clause-marks : goal.returns-in_err-names-clause-marks
returns-in_err-names-clause-marks c =
    let gained = c.resolve_program.ensures.table in
    let more = with_fresh_marks-extended c.args.globals.now c.args.self.now.top gained.0 in
    (more.0, gained.2 ∙ more.1)

pub returns-in_err-answer-clause-marks : goal.returns-in_err-answer-clause-marks
returns-in_err-answer-clause-marks c =
    let gained = c.resolve_program.ensures.table in
    let more = with_fresh_marks-extended c.args.globals.now c.args.self.now.top gained.0 in
    (more.0, gained.2 ∙ more.1)

pub returns-clause-marks : goal.returns-clause-marks
returns-clause-marks c =
    let gained = c.resolve_program.ensures.table in
    let more = with_fresh_marks-extended c.args.globals.now c.args.self.now.top gained.0 in
    (more.0, gained.2 ∙ more.1)

pub returns-clause-done : goal.returns-clause-done
returns-clause-done c = (
  refl,
  λ known. record {
    between = c.in_ok-resolved.resolved;
    resolved = c.in_ok-resolved.ensures.resolved (opens c.args.program c.requires.program) known;
    renamed = subst (λ m. Substituted m false c.in_ok-resolved.resolved c.in_ok-answer.answer) (λ j x. if_other_text x (option_map (λ text. (text, [])) (c.in_ok-names.ensures x j))) c.in_ok-answer.ensures.answer;
  },
)
