use Rattle.std.proofs.Common.{arith}
use Rattle.mucwathi_looks.proofs.PagedNaming.{news_end, news_none, news_step}
use Rattle.mucwathi_looks.proofs.variables.news_of.Goals as goal

pub loop-change-init : goal.loop-change-init
loop-change-init c = news_none c.new-news.result c.new-news.ensures.empty

pub loop-change-preserved : goal.loop-change-preserved
loop-change-preserved c =
    news_step c.args.changes.now c.loop-change.change-index c.change-item.result c.as_str.result c.loop-change.news c.insert.new.self c.loop-change-test.true c.change-item.is c.as_str.ensures.value c.loop-change.invariant c.in_ok-insert.ensures.updates

pub returns : goal.returns
returns c = news_end c.args.changes.now c.loop-change.change-index c.loop-change.news (omega arith) c.loop-change.invariant
