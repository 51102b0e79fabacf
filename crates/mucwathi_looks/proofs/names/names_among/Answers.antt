use Rattle.std.proofs.Common.{◌≤◌, [], length, arith, subst, sym}
use Rattle.mucwathi_looks.proofs.Noted.{HasSeen, all_noted, nothing_seen, one_noted}
use Rattle.mucwathi_looks.proofs.LookedTexts.{no_text}
use Rattle.mucwathi_looks.proofs.names.names_among.Goals as goal

pub loop-site-init : goal.loop-site-init
loop-site-init c =
    subst (λ l. HasSeen [] c.new-seen.result l) (sym c.new-names.ensures.items) (nothing_seen c.new-seen.result (no_text c.new-seen.result c.new-seen.ensures.empty))

pub loop-site-preserved : goal.loop-site-preserved
loop-site-preserved c =
    one_noted c.args.found.now c.loop-site.site-index c.site-item.result c.loop-site.seen c.note.new.seen c.loop-site.names.items c.note.new.names.items c.loop-site-test.true c.site-item.is
    c.in_ok-note.ensures c.loop-site.invariant

pub returns : goal.returns
returns c =
    let ended : length c.args.found.now ≤ c.loop-site.site-index = omega arith in
    all_noted c.args.found.now c.loop-site.site-index c.loop-site.seen c.loop-site.names.items ended c.loop-site.invariant
