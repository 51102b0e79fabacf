-- Walks a byte at a time: one turn at an index, and the end.
use Rattle.std.proofs.Common.{◌≡◌, ap, ◌∙◌, ℕ, ◌<◌, ◌≤◌, ◌+◌, ◌&&◌, ◌||◌, ◌==◌, not, true, false, Bool, Some, None, Ok, Err, cond, List, [], ◌∷◌, length, drop, get_or, refl, add-zero, get_or-drop, arith}
use Rattle.std.proofs.lemmas.List.{drop_more, drop_all, drop-drop}
use Rattle.text_characters.specs.Characters.{begins_line_end}
use Rattle.text_lexer.specs.declared.mark.Mark.{Mark}
use Rattle.text_lexer.specs.declared.token.Fault.TheVariants.{Unexpected}
use Rattle.text_lexer.specs.Marks.{spelling}
use Rattle.text_lexer.specs.Tokens.{punctuator}
use Rattle.text_lexer.specs.Numbers.{after_digits}
use Rattle.text_lexer.specs.Literals.{template_rest, regex_rest}
use Rattle.text_lexer.specs.Blanks.{line_rest, block_rest}
use Rattle.text_lexer.specs.Lexical.{begins_mark, mark_among}

next_is : (xs : List ℕ) (i : ℕ) → get_or (drop (i + 1) xs) 0 0 ≡ get_or xs (i + 1) 0
next_is xs i = rw (get_or-drop (i + 1) xs 0 0, add-zero) refl

past_two : (xs : List ℕ) (i : ℕ) → drop 1 (drop (i + 1) xs) ≡ drop (i + 2) xs
past_two xs i = drop-drop 1 (i + 1) xs ∙ ap (λ k. drop k xs) (omega arith)

-- digits
after_digits_cons : (p : ℕ → Bool) (c d : ℕ) (cs xs : List ℕ) → xs ≡ c ∷ cs → get_or cs 0 0 ≡ d
    → after_digits p xs ≡ cond (p c || (c == 95 && p d)) (after_digits p cs) xs
unfolding after_digits
after_digits_cons p c d cs xs e f = rw (e, ← f) refl

pub after_digits_drop : (p : ℕ → Bool) (xs : List ℕ) (i : ℕ) → i < length xs
    → after_digits p (drop i xs) ≡ cond (p (get_or xs i 0) || (get_or xs i 0 == 95 && p (get_or xs (i + 1) 0))) (after_digits p (drop (i + 1) xs)) (drop i xs)
after_digits_drop p xs i h = after_digits_cons p (get_or xs i 0) (get_or xs (i + 1) 0) (drop (i + 1) xs) (drop i xs) (drop_more xs i 0 h) (next_is xs i)

pub after_digits_end : (p : ℕ → Bool) (xs : List ℕ) (i : ℕ) → length xs ≤ i → after_digits p (drop i xs) ≡ []
unfolding after_digits
after_digits_end p xs i h = rw (drop_all i xs h) refl

-- templates
template_rest_cons : (escaped : Bool) (c d : ℕ) (cs es xs : List ℕ) → xs ≡ c ∷ cs → get_or cs 0 0 ≡ d → drop 1 cs ≡ es
    → template_rest escaped xs ≡ cond (not escaped && c == 96) (Some (false, cs)) (cond (not escaped && (c == 36 && d == 123)) (Some (true, es)) (template_rest (not escaped && c == 92) cs))
unfolding template_rest
template_rest_cons escaped c d cs es xs e f g = rw (e, ← f, ← g) refl

pub template_rest_drop : (escaped : Bool) (xs : List ℕ) (i : ℕ) → i < length xs
    → let c = get_or xs i 0 in
    template_rest escaped (drop i xs) ≡ cond (not escaped && c == 96) (Some (false, drop (i + 1) xs)) (cond (not escaped && (c == 36 && get_or xs (i + 1) 0 == 123)) (Some (true, drop (i + 2) xs)) (template_rest (not escaped && c == 92) (drop (i + 1) xs)))
template_rest_drop escaped xs i h =
    template_rest_cons escaped (get_or xs i 0) (get_or xs (i + 1) 0) (drop (i + 1) xs) (drop (i + 2) xs) (drop i xs) (drop_more xs i 0 h) (next_is xs i) (past_two xs i)

pub template_rest_end : (escaped : Bool) (xs : List ℕ) (i : ℕ) → length xs ≤ i → template_rest escaped (drop i xs) ≡ None
unfolding template_rest
template_rest_end escaped xs i h = rw (drop_all i xs h) refl

-- regular expressions
regex_rest_cons : (in_class escaped : Bool) (c : ℕ) (cs xs : List ℕ) → xs ≡ c ∷ cs
    → regex_rest in_class escaped xs ≡ cond (begins_line_end xs) None (cond escaped (regex_rest in_class false cs) (cond (c == 47 && not in_class) (Some cs) (regex_rest (c == 91 || (in_class && not (c == 93))) (c == 92) cs)))
unfolding regex_rest
regex_rest_cons in_class escaped c cs xs e = rw e refl

pub regex_rest_drop : (in_class escaped : Bool) (xs : List ℕ) (i : ℕ) → i < length xs
    → let c = get_or xs i 0 in
    regex_rest in_class escaped (drop i xs) ≡ cond (begins_line_end (drop i xs)) None (cond escaped (regex_rest in_class false (drop (i + 1) xs)) (cond (c == 47 && not in_class) (Some (drop (i + 1) xs)) (regex_rest (c == 91 || (in_class && not (c == 93))) (c == 92) (drop (i + 1) xs))))
regex_rest_drop in_class escaped xs i h = regex_rest_cons in_class escaped (get_or xs i 0) (drop (i + 1) xs) (drop i xs) (drop_more xs i 0 h)

pub regex_rest_end : (in_class escaped : Bool) (xs : List ℕ) (i : ℕ) → length xs ≤ i → regex_rest in_class escaped (drop i xs) ≡ None
unfolding regex_rest
regex_rest_end in_class escaped xs i h = rw (drop_all i xs h) refl

-- comments
line_rest_cons : (c : ℕ) (cs xs : List ℕ) → xs ≡ c ∷ cs → line_rest xs ≡ cond (begins_line_end xs) xs (line_rest cs)
unfolding line_rest
line_rest_cons c cs xs e = rw e refl

pub line_rest_drop : (xs : List ℕ) (i : ℕ) → i < length xs → line_rest (drop i xs) ≡ cond (begins_line_end (drop i xs)) (drop i xs) (line_rest (drop (i + 1) xs))
line_rest_drop xs i h = line_rest_cons (get_or xs i 0) (drop (i + 1) xs) (drop i xs) (drop_more xs i 0 h)

pub line_rest_end : (xs : List ℕ) (i : ℕ) → length xs ≤ i → line_rest (drop i xs) ≡ []
unfolding line_rest
line_rest_end xs i h = rw (drop_all i xs h) refl

block_rest_cons : (ended : Bool) (c d : ℕ) (cs es xs : List ℕ) → xs ≡ c ∷ cs → get_or cs 0 0 ≡ d → drop 1 cs ≡ es
    → block_rest ended xs ≡ cond (c == 42 && d == 47) (Some (ended, es)) (block_rest (ended || begins_line_end xs) cs)
unfolding block_rest
block_rest_cons ended c d cs es xs e f g = rw (e, ← f, ← g) refl

pub block_rest_drop : (ended : Bool) (xs : List ℕ) (i : ℕ) → i < length xs
    → block_rest ended (drop i xs) ≡ cond (get_or xs i 0 == 42 && get_or xs (i + 1) 0 == 47) (Some (ended, drop (i + 2) xs)) (block_rest (ended || begins_line_end (drop i xs)) (drop (i + 1) xs))
block_rest_drop ended xs i h =
    block_rest_cons ended (get_or xs i 0) (get_or xs (i + 1) 0) (drop (i + 1) xs) (drop (i + 2) xs) (drop i xs) (drop_more xs i 0 h) (next_is xs i) (past_two xs i)

pub block_rest_end : (ended : Bool) (xs : List ℕ) (i : ℕ) → length xs ≤ i → block_rest ended (drop i xs) ≡ None
unfolding block_rest
block_rest_end ended xs i h = rw (drop_all i xs h) refl

-- punctuators
pub mark_among_drop : (marks : List Mark) (text : List ℕ) (i : ℕ) (d : Mark) → i < length marks
    → let m = get_or marks i d in
    mark_among (drop i marks) text ≡ cond (begins_mark m text) (Ok (punctuator m, drop (length (spelling m)) text)) (mark_among (drop (i + 1) marks) text)
unfolding mark_among
mark_among_drop marks text i d h = rw (drop_more marks i d h)

pub mark_among_end : (marks : List Mark) (text : List ℕ) (i : ℕ) → length marks ≤ i → mark_among (drop i marks) text ≡ Err Unexpected
unfolding mark_among
mark_among_end marks text i h = rw (drop_all i marks h) refl
