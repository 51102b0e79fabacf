use Rattle.swc_base_fixer_due.specs.Record.{place_in}
use Rattle.swc_base_fixer_due.proofs.Rows.{odd_by_last}
use Rattle.swc_base_fixer_due.proofs.levels.odd_items.Goals as goal

pub returns-in_ok-push-in-Some : goal.returns-in_ok-push-in-Some
returns-in_ok-push-in-Some c = odd_by_last (place_in c.args.recorded.now) c.args.exprs _ _ _ c.in-Some.last c.in-Some.ensures c.in_ok-exprs-in-Some.ensures c.in_ok-push-in-Some.ensures.ok
