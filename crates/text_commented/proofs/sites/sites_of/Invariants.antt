use Rattle.std.proofs.Common.{◌≡◌, ◌++◌, false, true, drop, map}
use Rattle.text_pieces.specs.Tokens.{piece_view}
use Rattle.text_commented.specs.Places.{places_from}
use Rattle.text_commented.specs.Sites.{leads_in, trails_in}
use Rattle.text_commented.proofs.sites.sites_of.Given as goal

abbrev pub invariant-pieces : goal.invariant-pieces
invariant-pieces l = record {
  begun : l.all.begun.items ++ leads_in (places_from false l.line (map piece_view (drop l.i l.pieces))) ≡ leads_in (places_from false l.initial.line (map piece_view l.pieces));
  stopped : l.all.stopped.items ++ trails_in (places_from false l.line (map piece_view (drop l.i l.pieces))) ≡ trails_in (places_from false l.initial.line (map piece_view l.pieces));
  tight_begun : l.tight.begun.items ++ leads_in (places_from true l.line (map piece_view (drop l.i l.pieces))) ≡ leads_in (places_from true l.initial.line (map piece_view l.pieces));
  tight_stopped : l.tight.stopped.items ++ trails_in (places_from true l.line (map piece_view (drop l.i l.pieces))) ≡ trails_in (places_from true l.initial.line (map piece_view l.pieces));
}
