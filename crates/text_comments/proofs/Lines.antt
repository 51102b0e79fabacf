-- Bytes of a comment, one after another.
use Rattle.std.proofs.Common.{◌≡◌, ℕ, ◌<◌, ◌≤◌, ◌+◌, ◌||◌, Bool, false, List, [], ◌∷◌, length, drop, get_or, refl}
use Rattle.std.proofs.lemmas.List.{drop_more, drop_all}
use Rattle.text_characters.specs.Characters.{begins_line_end}
use Rattle.text_comments.specs.Lines.{has_line_end}

has_line_end_cons : (c : ℕ) (cs xs : List ℕ) → xs ≡ c ∷ cs → has_line_end xs ≡ begins_line_end xs || has_line_end cs
unfolding has_line_end
has_line_end_cons c cs xs e = rw e refl

pub has_line_end_drop : (xs : List ℕ) (i : ℕ) → i < length xs → has_line_end (drop i xs) ≡ begins_line_end (drop i xs) || has_line_end (drop (i + 1) xs)
has_line_end_drop xs i h = has_line_end_cons (get_or xs i 0) (drop (i + 1) xs) (drop i xs) (drop_more xs i 0 h)

pub has_line_end_none : (xs : List ℕ) (i : ℕ) → length xs ≤ i → has_line_end (drop i xs) ≡ false
unfolding has_line_end
has_line_end_none xs i h = rw (drop_all i xs h) refl
