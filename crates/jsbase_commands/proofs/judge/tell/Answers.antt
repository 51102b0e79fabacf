use Rattle.std.proofs.Common.{◌≡◌, Bool, true, false, None, Ok, Err, ap, refl, subst, sym}
use Rattle.std.proofs.lemmas.Result.{err_from_is_err_and}
use Rattle.swc_base_alpha.specs.declared.verdict.Verdict.TheVariants as verdict
use Rattle.swc_base_alpha.specs.Verdict.{IsCleanProgram, TellsWhy, word_in}
use Rattle.jsbase_commands.specs.Judge.{as_compared}
use Rattle.jsbase_commands.proofs.CleanPrograms.{clean_compared}
use Rattle.jsbase_commands.proofs.Shown.{none_compared, shown_told, told_compared, untold_compared}
use Rattle.jsbase_commands.proofs.judge.tell.Goals as goal

false_unless : (b : Bool) → (b ≡ true → ⊥) → b ≡ false
false_unless true h = absurd (h refl)
false_unless false h = refl

never : {A E : Type 0} (x : A) (e : E) → Ok x ≡ Err e → ⊥
never x e h = absurd (cc)

pub returns-in_ok-write_same-in-None : goal.returns-in_ok-write_same-in-None
returns-in_ok-write_same-in-None c =
    let v = c.args.versions in
    let before = c.in_ok-before.before in
    let after = c.in_ok-after.after in
    let first : IsCleanProgram before = subst IsCleanProgram (sym c.in_ok-before.ensures) (clean_compared v.spelling v.before c.requires.before) in
    let second : IsCleanProgram after = subst IsCleanProgram (sym c.in_ok-after.ensures) (clean_compared v.spelling v.after c.requires.after) in
    record {
      no_types = none_compared v before after c.in_ok-before.ensures c.in_ok-after.ensures (false_unless _ (λ types. never _ _ (c.in_ok-why_different.ensures.types types)));
      said = verdict.Same;
      tells = told_compared v before after c.in_ok-before.ensures c.in_ok-after.ensures None (subst (TellsWhy v.keep_top before after) (ap word_in c.in-None.is) (c.in_ok-why_different.ensures.why first second));
      paths = tt;
      written = c.in_ok-write_same-in-None.ensures;
    }

pub returns-in_ok-tell_difference-in-Some : goal.returns-in_ok-tell_difference-in-Some
returns-in_ok-tell_difference-in-Some c =
    let v = c.args.versions in
    let before = c.in_ok-before.before in
    let after = c.in_ok-after.after in
    let first : IsCleanProgram before = subst IsCleanProgram (sym c.in_ok-before.ensures) (clean_compared v.spelling v.before c.requires.before) in
    let second : IsCleanProgram after = subst IsCleanProgram (sym c.in_ok-after.ensures) (clean_compared v.spelling v.after c.requires.after) in
    shown_told _ c.args.input.now _ v c.in_ok-why_different.field-0 c.in-Some.cause c.requires.read
    (none_compared v before after c.in_ok-before.ensures c.in_ok-after.ensures (false_unless _ (λ types. never _ _ (c.in_ok-why_different.ensures.types types))))
    c.in-Some.is (told_compared v before after c.in_ok-before.ensures c.in_ok-after.ensures _ (c.in_ok-why_different.ensures.why first second)) c.in_ok-tell_difference-in-Some.ensures

pub returns-in_err-why_different : goal.returns-in_err-why_different
returns-in_err-why_different c =
    let refused = err_from_is_err_and c.from_residual-in_err-why_different.result c.from_residual-in_err-why_different.ensures.1 in
    rw (refused.1, refused.2) (untold_compared c.args.versions c.in_ok-before.before c.in_ok-after.after c.in_ok-before.ensures c.in_ok-after.ensures c.in_err-why_different.field-0.0 c.in_err-why_different.ensures.refusal)
