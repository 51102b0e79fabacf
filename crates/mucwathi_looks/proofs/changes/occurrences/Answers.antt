use Rattle.std.proofs.Common.{ap, arith}
use Rattle.mucwathi_looks.proofs.Standing.{seen_all, seen_push}
use Rattle.mucwathi_looks.proofs.changes.occurrences.Goals as goal

pub loop-site-preserved : goal.loop-site-preserved
loop-site-preserved c =
    seen_push c.args.found.now c.loop-site.site-index c.site-item.result c.loop-site.names.items c.push.new.self.items (record { lo = c.site-item.result.ident.now.span.lo; text = c.as_str.result }) c.loop-site-test.true c.site-item.is
    (ap (λ t. (c.site-item.result.ident.now.span.lo, t)) c.as_str.ensures) c.in_ok-push.ensures.items c.loop-site.invariant

pub returns : goal.returns
returns c = seen_all c.args.found.now c.loop-site.site-index c.loop-site.names.items (omega arith) c.loop-site.invariant
