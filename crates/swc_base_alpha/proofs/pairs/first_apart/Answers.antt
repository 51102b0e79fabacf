use Rattle.std.proofs.Common.{rules, ◌≡◌, ◌<◌, ◌≤◌, length, refl, subst}
use Rattle.swc_base_alpha.specs.Pairs.{EachPair, Meets}
use Rattle.swc_base_alpha.proofs.Passed.{all_passed, begun, fails_there, one_more}
use Rattle.swc_base_alpha.proofs.SideBySide.{Left, all_left, all_so, none_left, none_so, one_less, pair_at}
use Rattle.swc_base_alpha.proofs.pairs.first_apart.Goals as goal

pub loop-i-init : goal.loop-i-init
loop-i-init c = begun (Left (Meets c.args.question)) _ (all_left (Meets c.args.question))

pub loop-i-preserved : goal.loop-i-preserved
loop-i-preserved c =
    let long : length c.args.ones.now ≡ length c.args.others.now = search rules in
    one_more (Left (Meets c.args.question)) (Left (Meets c.args.question)) _ _ _ _ _ (pair_at c.args.ones.now c.args.others.now c.loop-i.i c.index-ones-i.result c.index-others-i.result c.loop-i-test.true (subst (λ n. c.loop-i.i < n) long c.loop-i-test.true) c.index-ones-i.is c.index-others-i.is)
    (λ all later. one_less (Meets c.args.question) all _ later _ _ refl (c.are_alike.ensures.0 c.if-not-are_alike.false)) c.loop-i.invariant

pub returns-then-not-are_alike : goal.returns-then-not-are_alike
returns-then-not-are_alike c =
    let long : length c.args.ones.now ≡ length c.args.others.now = search rules in
    fails_there (EachPair (Meets c.args.question)) (Left (Meets c.args.question)) (λ all. all_so (Meets c.args.question) all _ refl) _ _ _ _ _ (pair_at c.args.ones.now c.args.others.now c.loop-i.i c.index-ones-i.result c.index-others-i.result c.loop-i-test.true (subst (λ n. c.loop-i.i < n) long c.loop-i-test.true) c.index-ones-i.is c.index-others-i.is)
    (λ all later. none_so (Meets c.args.question) all _ later _ _ refl (λ alike. let wrong = c.are_alike.ensures.1 alike in absurd (cc))) c.loop-i.invariant

pub returns : goal.returns
returns c =
    let whole : length c.args.ones.now ≤ c.loop-i.i = search rules in
    all_passed (EachPair (Meets c.args.question)) (Left (Meets c.args.question)) (λ all. all_so (Meets c.args.question) all _ refl) _ _ (none_left c.args.ones.now c.args.others.now c.loop-i.i whole) c.loop-i.invariant
