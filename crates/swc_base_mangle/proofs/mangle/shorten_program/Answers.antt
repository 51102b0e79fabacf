use Rattle.std.proofs.Common.{true, false, inl, inr, ⊎_elim, refl, sym, ◌∙◌}
use Rattle.std.proofs.lemmas.Result.{err_from_is_err_and}
use Rattle.swc_base_mangle.proofs.mangle.shorten_program.Goals as goal

pub returns-then-keeps_all-clause-named : goal.returns-then-keeps_all-clause-named
returns-then-keeps_all-clause-named c = inl (c.in_ok-keeps_all.ensures.0 c.if-keeps_all.true, refl)

pub returns-clause-named : goal.returns-clause-named
returns-clause-named c = inr (λ strays. (let z = sym (c.in_ok-keeps_all.ensures.1 strays) ∙ c.if-keeps_all.false in absurd (cc)), c.in_ok-given.ensures.renamed)

pub returns-in_err-given-clause-refused : goal.returns-in_err-given-clause-refused
returns-in_err-given-clause-refused c =
    let refused = err_from_is_err_and c.from_residual-in_err-given.result c.from_residual-in_err-given.ensures.1 in
    rw (refused.1, refused.2) (⊎_elim inl (λ why. inr (λ strays. (let z = sym (c.in_ok-keeps_all.ensures.1 strays) ∙ c.if-keeps_all.false in absurd (cc)), why)) c.in_err-given.ensures.refused)
