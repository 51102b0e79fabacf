use Rattle.std.proofs.Common.{◌≤◌, length, arith, sym, ◌∙◌}
use Rattle.swc_base_alpha.proofs.CatchTexts.{none_asked, none_meet, one_none}
use Rattle.swc_base_alpha.proofs.caught.may_be_caught.Goals as goal

pub loop-site-init : goal.loop-site-init
loop-site-init c = none_asked _

pub loop-site-preserved : goal.loop-site-preserved
loop-site-preserved c = one_none c.args.sites.now c.loop-site.site-index c.site-item.result c.in_ok-texts.texts c.loop-site-test.true c.site-item.is c.loop-site.invariant (sym c.may_meet.ensures ∙ c.if-may_meet.false)

pub returns-then-may_meet : goal.returns-then-may_meet
returns-then-may_meet c = λ not_so. absurd (cc)

pub returns : goal.returns
returns c =
    let ended : length c.args.sites.now ≤ c.loop-site.site-index = omega arith in
    λ none. none_meet c.args.sites.now c.loop-site.site-index c.in_ok-texts.texts ended c.in_ok-texts.ensures c.loop-site.invariant
