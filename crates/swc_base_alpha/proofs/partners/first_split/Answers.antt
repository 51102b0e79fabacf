use Rattle.std.proofs.Common.{rules, ◌≡◌, ◌<◌, ◌≤◌, length, refl, subst}
use Rattle.swc_base_alpha.specs.Pairs.{StaysOne}
use Rattle.swc_base_alpha.proofs.Passed.{all_passed, begun, fails_there, one_more}
use Rattle.swc_base_alpha.proofs.SideBySide.{none_left, pair_at}
use Rattle.swc_base_alpha.proofs.Tables.{breaks, ends, goes_on, starts}
use Rattle.swc_base_alpha.proofs.partners.first_split.Goals as goal

pub loop-i-init : goal.loop-i-init
loop-i-init c = begun _ _ (λ later. starts later _ c.new-partners.ensures)

pub loop-i-preserved : goal.loop-i-preserved
loop-i-preserved c =
    let long : length c.args.ones.now ≡ length c.args.others.now = search rules in
    one_more _ _ _ _ _ _ _ (pair_at c.args.ones.now c.args.others.now c.loop-i.i c.index-ones-i.result c.index-others-i.result c.loop-i-test.true (subst (λ n. c.loop-i.i < n) long c.loop-i-test.true) c.index-ones-i.is c.index-others-i.is)
    (λ all later. goes_on all _ later _ _ _ _ refl (c.in_ok-agree.ensures.agrees.0 c.if-not-agree.false) c.in_ok-agree.ensures.next) c.loop-i.invariant

pub returns-then-not-agree : goal.returns-then-not-agree
returns-then-not-agree c =
    let long : length c.args.ones.now ≡ length c.args.others.now = search rules in
    fails_there StaysOne _ (λ all. ends all _ _ refl) _ _ _ _ _ (pair_at c.args.ones.now c.args.others.now c.loop-i.i c.index-ones-i.result c.index-others-i.result c.loop-i-test.true (subst (λ n. c.loop-i.i < n) long c.loop-i-test.true) c.index-ones-i.is c.index-others-i.is)
    (λ all later. breaks all _ later _ _ _ refl (λ agrees. let wrong = c.in_ok-agree.ensures.agrees.1 agrees in absurd (cc))) c.loop-i.invariant

pub returns : goal.returns
returns c =
    let whole : length c.args.ones.now ≤ c.loop-i.i = search rules in
    all_passed StaysOne _ (λ all. ends all _ _ refl) _ _ (none_left c.args.ones.now c.args.others.now c.loop-i.i whole) c.loop-i.invariant
