use Rattle.std.proofs.Common.{◌∙◌, arith}
use Rattle.mucwathi_looks.proofs.Rows.{end_more, ends_done}
use Rattle.mucwathi_looks.proofs.behind.ends_among.Goals as goal

pub sites-preserved : goal.sites-preserved
sites-preserved c =
    let l = c.sites in
    end_more c.args.found.now l.i _ l.places.items _ _ (omega arith) c.saturating_sub.ensures c.in_ok-push.ensures.items ∙ l.invariant

pub returns : goal.returns
returns c = ends_done c.args.found.now c.sites.i c.sites.places.items (omega arith) ∙ c.sites.invariant
