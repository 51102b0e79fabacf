use Rattle.std.proofs.Common.{rules, ◌≡◌, ◌<◌, ◌≤◌, length, refl, sym, ◌∙◌, subst}
use Rattle.mucwathi_looks.proofs.Beside.{all_named, as_many, one_more, one_there}
use Rattle.mucwathi_looks.proofs.MappedNaming.{no_spot}
use Rattle.mucwathi_looks.proofs.spots.same_names.Goals as goal

pub returns-then-ones-others : goal.returns-then-ones-others
returns-then-ones-others c = (λ h. absurd (cc), λ e. absurd (c.if-ones-others.true (as_many c.args.ones.now c.args.others.now e)))

pub loop-i-init : goal.loop-i-init
loop-i-init c = refl

pub returns-then-not-same_name : goal.returns-then-not-same_name
returns-then-not-same_name c =
    let long : length c.args.ones.now ≡ length c.args.others.now = search rules in
    (λ h. absurd (cc), λ e. sym c.if-not-same_name.true ∙ c.same_name.ensures.1 (one_there c.args.ones.now c.args.others.now c.loop-i.i no_spot c.loop-i-test.true (subst (λ n. c.loop-i.i < n) long c.loop-i-test.true) e))

pub loop-i-preserved : goal.loop-i-preserved
loop-i-preserved c =
    let long : length c.args.ones.now ≡ length c.args.others.now = search rules in
    one_more c.args.ones.now c.args.others.now c.loop-i.i no_spot c.loop-i-test.true (subst (λ n. c.loop-i.i < n) long c.loop-i-test.true) c.loop-i.invariant (c.same_name.ensures.0 c.if-not-same_name.false)

pub returns : goal.returns
returns c =
    let long : length c.args.ones.now ≡ length c.args.others.now = search rules in
    let whole : length c.args.ones.now ≤ c.loop-i.i = search rules in
    (λ h. all_named c.args.ones.now c.args.others.now c.loop-i.i whole (subst (λ n. n ≤ c.loop-i.i) long whole) c.loop-i.invariant, λ e. refl)
