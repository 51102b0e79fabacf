-- A text between backquotes is one token exactly if nothing in it closes it, and the backquote behind it does.
use Rattle.std.proofs.Common.{◌≡◌, ap, sym, ◌∙◌, ℕ, suc, ◌+◌, ◌-◌, ◌&&◌, ◌==◌, not, true, false, Bool, Option, Some, None, cond, List, [], ◌∷◌, ◌++◌, length, drop, get_or, refl, arith}
use lib.Dec.{eqb-suc-zero}
use Rattle.std.specs.Prelude.{bytes_eq}
use Rattle.std.proofs.lemmas.List.{length-append, take_at}
use Rattle.text_values.specs.Values.{template_raw}
use Rattle.text_lexer.specs.Literals.{before, template_before, template_rest}
use Rattle.text_words.specs.Words.{alone, is_cooked, is_template, is_template_token}
use Rattle.text_words.specs.Bodies.{characters_from}
use Rattle.text_words.proofs.Bytes.{characters_cons}
use Rattle.text_words.proofs.Begun.{begun_template}

abbrev Rest : Type 0
Rest = Option (Bool × List ℕ)

-- one byte more of what is read
rest_cons : (escaped : Bool) (c : ℕ) (cs : List ℕ)
    → template_rest escaped (c ∷ cs) ≡ cond (not escaped && c == 96) (Some (false, cs)) (cond (not escaped && (c == 36 && get_or cs 0 0 == 123)) (Some (true, drop 1 cs)) (template_rest (not escaped && c == 92) cs))
unfolding template_rest
rest_cons escaped c cs = refl

-- the byte behind is no brace where there is none
brace_same : (cs : List ℕ) → (get_or (cs ++ 96 ∷ []) 0 0 == 123) ≡ (get_or cs 0 0 == 123)
brace_same [] = refl
brace_same (c ∷ cs) = refl

closed_here : template_rest false (96 ∷ []) ≡ Some (false, [])
unfolding template_rest
closed_here = refl

not_closed_here : template_rest true (96 ∷ []) ≡ None
unfolding template_rest
not_closed_here = refl

at_end : (escaped : Bool) → characters_from escaped [] ≡ not escaped
unfolding characters_from
at_end escaped = refl

-- one byte more that closes nothing; `b` says that a brace is behind it
closed_by : (cs : List ℕ) (o : Rest) (a n m b k : Bool) → (a ≡ true → o ≡ Some (false, [])) → b ≡ k → cond n false (cond (m && k) false a) ≡ true
    → cond n (Some (false, cs ++ 96 ∷ [])) (cond (m && b) (Some (true, drop 1 (cs ++ 96 ∷ []))) o) ≡ Some (false, [])
closed_by cs o a true m b k f same h = absurd (cc)
closed_by cs o a false false b k f same h = f h
closed_by cs o a false true b true f same h = absurd (cc)
closed_by cs o a false true true false f same h = absurd (cc)
closed_by cs o a false true false false f same h = f h

split : (e x b : Bool) → (e && (x && b)) ≡ ((e && x) && b)
split true x b = refl
split false x b = refl

rest_split : (escaped : Bool) (c : ℕ) (cs : List ℕ)
    → template_rest escaped (c ∷ cs) ≡ cond (not escaped && c == 96) (Some (false, cs)) (cond ((not escaped && c == 36) && (get_or cs 0 0 == 123)) (Some (true, drop 1 cs)) (template_rest (not escaped && c == 92) cs))
rest_split escaped c cs =
    rest_cons escaped c cs
    ∙ ap (λ b. cond (not escaped && c == 96) (Some (false, cs)) (cond b (Some (true, drop 1 cs)) (template_rest (not escaped && c == 92) cs))) (split (not escaped) (c == 36) (get_or cs 0 0 == 123))

characters_split : (escaped : Bool) (c : ℕ) (cs : List ℕ)
    → characters_from escaped (c ∷ cs) ≡ cond (not escaped && c == 96) false (cond ((not escaped && c == 36) && (get_or cs 0 0 == 123)) false (characters_from (not escaped && c == 92) cs))
characters_split escaped c cs =
    characters_cons escaped c (get_or cs 0 0) cs (c ∷ cs) refl refl
    ∙ ap (λ b. cond (not escaped && c == 96) false (cond b false (characters_from (not escaped && c == 92) cs))) (split (not escaped) (c == 36) (get_or cs 0 0 == 123))

closed : (escaped : Bool) (raw : List ℕ) → characters_from escaped raw ≡ true → template_rest escaped (raw ++ 96 ∷ []) ≡ Some (false, [])
closed true [] h = let never = sym (at_end true) ∙ h in absurd (cc)
closed false [] h = closed_here
closed escaped (c ∷ cs) h =
    rest_split escaped c (cs ++ 96 ∷ [])
    ∙ closed_by cs (template_rest (not escaped && c == 92) (cs ++ 96 ∷ [])) (characters_from (not escaped && c == 92) cs) (not escaped && c == 96) (not escaped && c == 36)
    (get_or (cs ++ 96 ∷ []) 0 0 == 123) (get_or cs 0 0 == 123) (closed (not escaped && c == 92) cs) (brace_same cs) (sym (characters_split escaped c cs) ∙ h)

-- where nothing is left, a backquote behind the text has closed it
abbrev Left : Rest → Type 0
Left o = (b : Bool) (r : List ℕ) → o ≡ Some (b, r) → length r ≡ 0 → ⊥

abbrev rest_in : Rest → List ℕ
rest_in None = []
rest_in (Some q) = q.1

pair_same : (a b : Bool) (r s : List ℕ) → ◌≡◌ {A = Rest} (Some (a, r)) (Some (b, s)) → r ≡ s
pair_same a b r s h = ap rest_in h

some_left : (cs : List ℕ) → length (cs ++ 96 ∷ []) ≡ 0 → ⊥
some_left cs n = let l = length-append cs (96 ∷ []) in omega (arith, l, n)

-- behind a brace
dropped_left : (cs : List ℕ) → (get_or (cs ++ 96 ∷ []) 0 0 == 123) ≡ true → length (drop 1 (cs ++ 96 ∷ [])) ≡ 0 → ⊥
dropped_left [] h n = absurd (cc)
dropped_left (c ∷ cs) h n = some_left cs n

left_by : (cs r : List ℕ) (o : Rest) (a n m b k q : Bool) → length r ≡ 0 → (b ≡ true → length (drop 1 (cs ++ 96 ∷ [])) ≡ 0 → ⊥) → (a ≡ false → o ≡ Some (q, r) → ⊥) → b ≡ k
    → cond n false (cond (m && k) false a) ≡ false → cond n (Some (false, cs ++ 96 ∷ [])) (cond (m && b) (Some (true, drop 1 (cs ++ 96 ∷ []))) o) ≡ Some (q, r) → ⊥
left_by cs r o a true m b k q e d f same h g = some_left cs (ap length (pair_same false q (cs ++ 96 ∷ []) r g) ∙ e)
left_by cs r o a false false b k q e d f same h g = f h g
left_by cs r o a false true true k q e d f same h g = d refl (ap length (pair_same true q (drop 1 (cs ++ 96 ∷ [])) r g) ∙ e)
left_by cs r o a false true false true q e d f same h g = absurd (cc)
left_by cs r o a false true false false q e d f same h g = f h g

open_left : (escaped : Bool) (raw : List ℕ) → characters_from escaped raw ≡ false → Left (template_rest escaped (raw ++ 96 ∷ []))
open_left false [] h b r o n = let never = sym (at_end false) ∙ h in absurd (cc)
open_left true [] h b r o n = let never = sym not_closed_here ∙ o in absurd (cc)
open_left escaped (c ∷ cs) h b r o n =
    left_by cs r (template_rest (not escaped && c == 92) (cs ++ 96 ∷ [])) (characters_from (not escaped && c == 92) cs) (not escaped && c == 96) (not escaped && c == 36)
    (get_or (cs ++ 96 ∷ []) 0 0 == 123) (get_or cs 0 0 == 123) b n (dropped_left cs) (λ g q. open_left (not escaped && c == 92) cs g b r q n) (brace_same cs)
    (sym (characters_split escaped c cs) ∙ h) (sym (rest_split escaped c (cs ++ 96 ∷ [])) ∙ o)

-- ---- the token

module _ (value : Option (List ℕ)) (raw : List ℕ) where
  abbrev inner : List ℕ
  inner = raw ++ 96 ∷ []

  abbrev told : Rest → Bool
  told o = alone (is_template_token value raw) (template_before true inner o)

  abbrev kept : Bool
  kept = bytes_eq (template_raw raw) raw && is_cooked raw value

  body_is : before 1 inner [] ≡ raw
  body_is = take_at raw (96 ∷ []) (length inner - 0 - 1) (let l = length-append raw (96 ∷ []) in omega (arith, l))

  and_true : (b : Bool) → (b && true) ≡ b
  and_true true = refl
  and_true false = refl

  and_false : (b : Bool) → (b && false) ≡ false
  and_false true = refl
  and_false false = refl

  whole : told (Some (false, [])) ≡ kept
  whole = ap (λ a. (bytes_eq (template_raw a) raw && is_cooked a value) && true) body_is ∙ and_true kept

  some_is : (r : List ℕ) → (length r ≡ 0 → ⊥) → (length r == 0) ≡ false
  some_is [] h = absurd (h refl)
  some_is (c ∷ cs) h = eqb-suc-zero (length cs)

  not_closed : (o : Rest) → Left o → told o ≡ false
  not_closed None h = refl
  not_closed (Some (false, r)) h =
      ap (λ b. (bytes_eq (template_raw (before 1 inner r)) raw && is_cooked (before 1 inner r) value) && b) (some_is r (h false r refl))
      ∙ and_false (bytes_eq (template_raw (before 1 inner r)) raw && is_cooked (before 1 inner r) value)
  not_closed (Some (true, r)) h =
      ap (λ b. (bytes_eq (template_raw (before 2 inner r)) raw && is_cooked (before 2 inner r) value) && b) (some_is r (h true r refl))
      ∙ and_false (bytes_eq (template_raw (before 2 inner r)) raw && is_cooked (before 2 inner r) value)

  core : (b : Bool) → characters_from false raw ≡ b → told (template_rest false inner) ≡ (b && kept)
  core true h = ap told (closed false raw h) ∙ whole
  core false h = not_closed (template_rest false inner) (open_left false raw h)

pub template_is : (value : Option (List ℕ)) (raw : List ℕ) → is_template value raw ≡ (characters_from false raw && (bytes_eq (template_raw raw) raw && is_cooked raw value))
template_is value raw = ap (alone (is_template_token value raw)) (begun_template (raw ++ 96 ∷ [])) ∙ core value raw (characters_from false raw) refl

-- the same by what each test says
pub by_parts : (value : Option (List ℕ)) (raw : List ℕ) (a b k : Bool) → a ≡ characters_from false raw → b ≡ bytes_eq (template_raw raw) raw → k ≡ is_cooked raw value → (a && (b && k)) ≡ is_template value raw
by_parts value raw a b k closes kept cooks =
    ap (λ x. x && (b && k)) closes ∙ ap (λ x. characters_from false raw && (x && k)) kept ∙ ap (λ x. characters_from false raw && (bytes_eq (template_raw raw) raw && x)) cooks ∙ sym (template_is value raw)
