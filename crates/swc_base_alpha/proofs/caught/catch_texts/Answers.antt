use Rattle.std.proofs.Common.{◌≤◌, length, arith}
use Rattle.swc_base_alpha.proofs.CatchTexts.{all_texts, no_texts, one_text}
use Rattle.swc_base_alpha.proofs.caught.catch_texts.Goals as goal

pub loop-site-init : goal.loop-site-init
loop-site-init c = no_texts _

pub loop-site-preserved : goal.loop-site-preserved
loop-site-preserved c = one_text c.args.sites.now c.loop-site.site-index c.site-item.result c.loop-site.texts _ c.loop-site-test.true c.site-item.is c.loop-site.invariant c.in_ok-note.ensures.kept c.in_ok-note.ensures.noted

pub returns : goal.returns
returns c =
    let ended : length c.args.sites.now ≤ c.loop-site.site-index = omega arith in
    all_texts c.args.sites.now c.loop-site.site-index c.loop-site.texts ended c.loop-site.invariant
