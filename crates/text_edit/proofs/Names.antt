-- Where two lists of pieces differ in names alone, an edited text does too.
use Rattle.std.proofs.Common.{◌≡◌, ℕ, zero, suc, Bool, true, false, ◌&&◌, List, [], ◌∷◌, ◌++◌, refl, sym, ap, ◌∙◌, inl, inr}
use Rattle.std.specs.Cmp.Lexicographic.{pointwise}
use Rattle.text_lexer.specs.declared.blank.Comments.{Comments}
use Rattle.text_pieces.specs.declared.item.Ending.{Ending}
use Rattle.text_pieces.specs.declared.item.Ending.TheVariants as ending
use Rattle.text_pieces.specs.Tokens.{Piece}
use Rattle.text_follow.specs.Endings.{ending_behind}
use Rattle.text_follow.specs.Follows.{fresh_behind}
use Rattle.text_edit.specs.declared.align.Step.{Step}
use Rattle.text_edit.specs.declared.align.Step.TheVariants as step
use Rattle.text_edit.specs.Alike.{alike, begin_alike}
use Rattle.text_edit.specs.Edits.{EditedFrom, IsEdited, IsRenamed, RenamedFrom}

first_of : (a b : Bool) → a && b ≡ true → a ≡ true
first_of true b h = refl
first_of false b h = absurd (cc)

second_of : (a b : Bool) → a && b ≡ true → b ≡ true
second_of true b h = h
second_of false b h = absurd (cc)

begins : (n : ℕ) (ps qs : List Piece) → pointwise alike ps qs ≡ true → begin_alike n ps qs ≡ true
begins zero ps qs h = refl
begins (suc n) [] [] h = refl
begins (suc n) [] (q ∷ qs) h = absurd (cc)
begins (suc n) (p ∷ ps) [] h = absurd (cc)
begins (suc n) (p ∷ ps) (q ∷ qs) h =
    rw (first_of (alike p q) (pointwise alike ps qs) h, begins n ps qs (second_of (alike p q) (pointwise alike ps qs) h)) refl

none : (ps qs : List Piece) → pointwise alike ps qs ≡ true → begin_alike 3 ps qs ≡ false → ⊥
none ps qs h parts = let so : begin_alike 3 ps qs ≡ true = begins 3 ps qs h in cc

renamed_from : (c : Comments) (fresh : Bool) (e : Ending) (ss : List Step) (ps qs : List Piece) (text out : List ℕ) → pointwise alike ps qs ≡ true
    → EditedFrom c fresh e false ss ps qs text out → RenamedFrom c fresh e ps qs text out
renamed_from c fresh e [] [] [] text out h edited = edited
renamed_from c fresh e [] (p ∷ ps) qs text out h edited = absurd edited
renamed_from c fresh e [] [] (q ∷ qs) text out h edited = absurd edited
renamed_from c fresh e (step.Both ∷ ss) (p ∷ ps) (q ∷ qs) text out h (allowed, rest, new, more, takes, stays, is, behind) =
    (rest, more, takes, is ∙ ap (λ l. l ++ more) (stays refl), renamed_from c (fresh_behind fresh p) (ending_behind e p) ss ps qs rest more (second_of (alike p q) (pointwise alike ps qs) h) behind)
renamed_from c fresh e (step.Both ∷ ss) [] qs text out h edited = absurd edited
renamed_from c fresh e (step.Both ∷ ss) (p ∷ ps) [] text out h edited = absurd edited
renamed_from c fresh e (step.Insert ∷ ss) ps (q ∷ qs) text out h edited = absurd (none ps (q ∷ qs) h edited.0.0)
renamed_from c fresh e (step.Insert ∷ ss) ps [] text out h edited = absurd edited
renamed_from c fresh e (step.Remove ∷ ss) (p ∷ ps) qs text out h edited = absurd (none (p ∷ ps) qs h edited.0.0)
renamed_from c fresh e (step.Remove ∷ ss) [] qs text out h edited = absurd edited

pub renamed : (c : Comments) (ps qs : List Piece) (text out : List ℕ) → IsEdited c ps qs text out → pointwise alike ps qs ≡ true → IsRenamed c ps qs text out
renamed c ps qs text out (inl same) h = inl same
renamed c ps qs text out (inr (ss, edited)) h = inr (renamed_from c true ending.Closed ss ps qs text out h edited)
