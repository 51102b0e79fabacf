use Rattle.std.proofs.Common.{◌≡◌, List, ◌++◌, drop, map}
use Rattle.std.specs.List.{All, slice_get}
use Rattle.text_pieces.specs.Tokens.{Piece}
use Rattle.text_commented.specs.Places.{all_places, tight_places}
use Rattle.text_commented.specs.Sites.{IsSites}
use Rattle.text_commented.specs.Why.{IsTold}
use Rattle.text_commented.proofs.left.left_by.Given as goal

abbrev pub invariant-numbers : goal.invariant-numbers
invariant-numbers l = record {
  each : map (λ x. x.number) l.left.items ++ drop l.i l.numbers ≡ l.numbers;
  told : (ps : List Piece) → IsSites l.all (all_places ps) → IsSites l.tight (tight_places ps) → All (λ x. IsTold l.comments ps (slice_get l.remarks x.number) x.why) l.left.items;
}
