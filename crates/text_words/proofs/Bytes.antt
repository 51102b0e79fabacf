-- Walks a byte at a time: one turn at an index, and the end.
use Rattle.std.proofs.Common.{◌≡◌, ap, ◌∙◌, ℕ, ◌<◌, ◌≤◌, ◌+◌, ◌&&◌, ◌||◌, ◌==◌, not, true, false, Bool, cond, List, [], ◌∷◌, length, drop, get_or, refl, add-zero, get_or-drop}
use Rattle.std.proofs.lemmas.List.{drop_more, drop_all}
use Rattle.text_characters.specs.Characters.{begins_line_end}
use Rattle.text_words.specs.Bodies.{pattern_from, characters_from}

next_is : (xs : List ℕ) (i : ℕ) → get_or (drop (i + 1) xs) 0 0 ≡ get_or xs (i + 1) 0
next_is xs i = rw (get_or-drop (i + 1) xs 0 0, add-zero) refl

-- patterns
pub pattern_cons : (in_class escaped : Bool) (c : ℕ) (cs xs : List ℕ) → xs ≡ c ∷ cs
    → pattern_from in_class escaped xs ≡ cond (begins_line_end xs) false (cond escaped (pattern_from in_class false cs) (cond (c == 47 && not in_class) false (pattern_from (c == 91 || (in_class && not (c == 93))) (c == 92) cs)))
unfolding pattern_from
pattern_cons in_class escaped c cs xs e = rw e refl

pub pattern_drop : (in_class escaped : Bool) (xs : List ℕ) (i : ℕ) → i < length xs
    → let c = get_or xs i 0 in
    pattern_from in_class escaped (drop i xs) ≡ cond (begins_line_end (drop i xs)) false (cond escaped (pattern_from in_class false (drop (i + 1) xs)) (cond (c == 47 && not in_class) false (pattern_from (c == 91 || (in_class && not (c == 93))) (c == 92) (drop (i + 1) xs))))
pattern_drop in_class escaped xs i h = pattern_cons in_class escaped (get_or xs i 0) (drop (i + 1) xs) (drop i xs) (drop_more xs i 0 h)

pub pattern_end : (in_class escaped : Bool) (xs : List ℕ) (i : ℕ) → length xs ≤ i → pattern_from in_class escaped (drop i xs) ≡ (not in_class && not escaped)
unfolding pattern_from
pattern_end in_class escaped xs i h = rw (drop_all i xs h) refl

-- texts of templates
pub characters_cons : (escaped : Bool) (c d : ℕ) (cs xs : List ℕ) → xs ≡ c ∷ cs → get_or cs 0 0 ≡ d
    → characters_from escaped xs ≡ cond (not escaped && c == 96) false (cond (not escaped && (c == 36 && d == 123)) false (characters_from (not escaped && c == 92) cs))
unfolding characters_from
characters_cons escaped c d cs xs e f = rw (e, ← f) refl

pub characters_drop : (escaped : Bool) (xs : List ℕ) (i : ℕ) → i < length xs
    → let c = get_or xs i 0 in
    characters_from escaped (drop i xs) ≡ cond (not escaped && c == 96) false (cond (not escaped && (c == 36 && get_or xs (i + 1) 0 == 123)) false (characters_from (not escaped && c == 92) (drop (i + 1) xs)))
characters_drop escaped xs i h = characters_cons escaped (get_or xs i 0) (get_or xs (i + 1) 0) (drop (i + 1) xs) (drop i xs) (drop_more xs i 0 h) (next_is xs i)

pub characters_end : (escaped : Bool) (xs : List ℕ) (i : ℕ) → length xs ≤ i → characters_from escaped (drop i xs) ≡ not escaped
unfolding characters_from
characters_end escaped xs i h = rw (drop_all i xs h) refl
