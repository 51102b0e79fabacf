use Rattle.std.proofs.Common.{List, ◌++◌, drop}
use Rattle.text_pieces.specs.Tokens.{Piece}
use Rattle.text_commented.specs.Chosen.{AreChosen}
use Rattle.text_commented.specs.Places.{all_places, tight_places}
use Rattle.text_commented.specs.Sites.{IsSites}
use Rattle.text_commented.specs.declared.remark.Remark.{Remark}
use Rattle.text_commented.proofs.choose.remarks_by.Given as goal

abbrev pub invariant-comments : goal.invariant-comments
invariant-comments l =
    (ps : List Piece) (more : List Remark) → IsSites l.both.all (all_places ps) → IsSites l.both.tight (tight_places ps) → AreChosen l.text ps (drop l.i l.comments) more → AreChosen l.text ps l.comments (l.remarks.items ++ more)
