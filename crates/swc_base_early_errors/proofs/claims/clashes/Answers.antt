use Rattle.std.proofs.Common.{ap, sym, ◌∙◌}
use Rattle.swc_base_early_errors.specs.Claims.{note_in}
use Rattle.swc_base_early_errors.proofs.Noted.{given_walked, noted_alone, noted_beside}
use Rattle.swc_base_early_errors.proofs.claims.clashes.Goals as goal

pub returns-then-alone : goal.returns-then-alone
returns-then-alone c =
    given_walked c.args.claim c.in-Some.claim c.args.name.now c.in-Some-noted.alone c.args.tables.now.items c.args.tables.now.items c.in-Some.is
    (noted_alone c.args.tables.now.items c.in-Some.claim c.args.name.now c.in-Some-noted.alone (ap (λ ss. note_in ss c.in-Some.claim.scope c.args.name.now) (sym c.as_slice.ensures.value) ∙ sym c.noted.ensures ∙ c.in-Some-noted.is) c.if-alone.true)

pub returns-else-alone : goal.returns-else-alone
returns-else-alone c =
    given_walked c.args.claim c.in-Some.claim c.args.name.now c.in-Some.claim.alone c.args.tables.now.items c.args.tables.now.items c.in-Some.is
    (noted_beside c.args.tables.now.items c.in-Some.claim c.args.name.now c.in-Some-noted.alone (ap (λ ss. note_in ss c.in-Some.claim.scope c.args.name.now) (sym c.as_slice.ensures.value) ∙ sym c.noted.ensures ∙ c.in-Some-noted.is) c.if-alone.false)
