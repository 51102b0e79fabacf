-- Why comments are left.
use Rattle.std.specs.Prelude.{◌≡◌, true, false, List, Option, Some, None}
use Rattle.std.specs.List.{Contains}
use Rattle.text_comments.specs.Lines.{ends_line, is_one_comment}
use Rattle.text_lexer.specs.declared.blank.Comments.{Comments}
use Rattle.text_pieces.specs.Tokens.{Piece}
use Rattle.text_commented.specs.Places.{all_places, tight_places}
use Rattle.text_commented.specs.declared.left.Why.{Why}
use Rattle.text_commented.specs.declared.left.Why.TheVariants as why
use Rattle.text_commented.specs.declared.remark.Remark.{Remark}

-- It is not one comment; or it is, and no node begins or stops where it stands; or it ends a line, and stands between tokens between which
-- none may end.
abbrev pub IsWhy : Comments → List Piece → Remark → Why → Type 0
IsWhy c ps r why.NoPlace = (is_one_comment c r.text.now ≡ true) × ¬ Contains (all_places ps) r.at
IsWhy c ps r why.NoLineEnd = (is_one_comment c r.text.now ≡ true) × (ends_line r.text.now ≡ true) × Contains (tight_places ps) r.at
IsWhy c ps r why.NoComment = is_one_comment c r.text.now ≡ false

abbrev pub IsTold : Comments → List Piece → Option Remark → Why → Type 0
IsTold c ps None w = ⊥
IsTold c ps (Some r) w = IsWhy c ps r w
