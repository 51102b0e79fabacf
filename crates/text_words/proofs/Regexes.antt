-- A pattern and flags are one token exactly if no slash closes the pattern, the one behind it does, and the flags are some.
use Rattle.std.proofs.Common.{◌≡◌, ap, sym, ◌∙◌, ℕ, suc, ◌<◌, ◌≤◌, ◌+◌, ◌-◌, ◌&&◌, ◌||◌, ◌==◌, not, true, false, Bool, Option, Some, None, cond, List, [], ◌∷◌, ◌++◌, length, take, refl, arith}
use lib.Dec.{eqb-suc-zero}
use Rattle.std.specs.Prelude.{bytes_eq, Err, if◌then◌else◌}
use Rattle.std.proofs.lemmas.Bool.{eqb-true}
use Rattle.std.proofs.lemmas.List.{length-append, length-take-le, take_at, take_all}
use Rattle.std.proofs.lemmas.Slice.Eq.{bytes_eq-Decides}
use Rattle.text_characters.specs.Characters.{begins_line_end}
use Rattle.text_lexer.specs.declared.token.Fault.TheVariants.{BadRegex}
use Rattle.text_lexer.specs.Names.{up_to}
use Rattle.text_lexer.specs.Literals.{after_flags, before, regex_before, regex_behind, regex_rest}
use Rattle.text_words.specs.Words.{alone, is_regex, is_regex_token}
use Rattle.text_words.specs.Bodies.{are_flags, is_pattern, pattern_from}
use Rattle.text_words.proofs.Bytes.{pattern_cons}
use Rattle.text_words.proofs.Begun.{begun_regex}

and_false : (b : Bool) → (b && false) ≡ false
and_false true = refl
and_false false = refl

neither : (x y z : Bool) → ((x && false) && y) ≡ ((x && false) && z)
neither true y z = refl
neither false y z = refl

-- no line ends across a slash
line_end_same : (c : ℕ) (cs ys : List ℕ) → begins_line_end (c ∷ cs ++ 47 ∷ ys) ≡ begins_line_end (c ∷ cs)
unfolding begins_line_end
line_end_same c [] ys = ap (λ b. (c == 10 || c == 13) || b) (neither (c == 0xE2) _ _)
line_end_same c (d ∷ []) ys = refl
line_end_same c (d ∷ e ∷ cs) ys = refl

nothing_rest : (in_class escaped : Bool) → regex_rest in_class escaped [] ≡ None
unfolding regex_rest
nothing_rest in_class escaped = refl

regex_rest_cons : (in_class escaped : Bool) (c : ℕ) (cs : List ℕ)
    → regex_rest in_class escaped (c ∷ cs) ≡ cond (begins_line_end (c ∷ cs)) None (cond escaped (regex_rest in_class false cs) (cond (c == 47 && not in_class) (Some cs) (regex_rest (c == 91 || (in_class && not (c == 93))) (c == 92) cs)))
unfolding regex_rest
regex_rest_cons in_class escaped c cs = refl

some_same : {r s : List ℕ} → Some r ≡ Some s → r ≡ s
some_same h = cc

longer : (m n : ℕ) → m < n → m < suc n
longer m n h = omega (arith, h)

-- what is left is shorter
shorter_by : (cs r : List ℕ) (o p : Option (List ℕ)) → (o ≡ Some r → length r < length cs) → (p ≡ Some r → length r < length cs) → (l e z : Bool)
    → cond l None (cond e o (cond z (Some cs) p)) ≡ Some r → length r < suc (length cs)
shorter_by cs r o p f g true e z h = absurd (cc)
shorter_by cs r o p f g false true z h = longer (length r) (length cs) (f h)
shorter_by cs r o p f g false false true h = let same : cs ≡ r = some_same h in let n = ap length same in omega (arith, n)
shorter_by cs r o p f g false false false h = longer (length r) (length cs) (g h)

shorter : (in_class escaped : Bool) (text r : List ℕ) → regex_rest in_class escaped text ≡ Some r → length r < length text
shorter in_class escaped [] r h = let never = sym (nothing_rest in_class escaped) ∙ h in absurd (cc)
shorter in_class escaped (c ∷ cs) r h =
    shorter_by cs r (regex_rest in_class false cs) (regex_rest (c == 91 || (in_class && not (c == 93))) (c == 92) cs) (shorter in_class false cs r) (shorter (c == 91 || (in_class && not (c == 93))) (c == 92) cs r)
    (begins_line_end (c ∷ cs)) escaped (c == 47 && not in_class) (sym (regex_rest_cons in_class escaped c cs) ∙ h)

-- a slash closes a pattern, or is passed
closing_slash : (ys : List ℕ) → regex_rest false false (47 ∷ ys) ≡ Some ys
unfolding regex_rest begins_line_end
closing_slash ys = refl

in_class_slash : (ys : List ℕ) → regex_rest true false (47 ∷ ys) ≡ regex_rest true false ys
unfolding regex_rest begins_line_end
in_class_slash ys = refl

escaped_slash : (in_class : Bool) (ys : List ℕ) → regex_rest in_class true (47 ∷ ys) ≡ regex_rest in_class false ys
unfolding regex_rest begins_line_end
escaped_slash in_class ys = refl

at_end : (in_class escaped : Bool) → pattern_from in_class escaped [] ≡ (not in_class && not escaped)
unfolding pattern_from
at_end in_class escaped = refl

-- where the slash behind a pattern closes it, the flags are left
closed_by : (o p v : Option (List ℕ)) (a b k : Bool) (ys : List ℕ) → (a ≡ true → o ≡ Some ys) → (b ≡ true → p ≡ Some ys) → (l e z : Bool) → l ≡ k → cond k false (cond e a (cond z false b)) ≡ true
    → cond l None (cond e o (cond z v p)) ≡ Some ys
closed_by o p v a b true ys f g l e z same h = absurd (cc)
closed_by o p v a b false ys f g true e z same h = absurd (cc)
closed_by o p v a b false ys f g false true z same h = f h
closed_by o p v a b false ys f g false false true same h = absurd (cc)
closed_by o p v a b false ys f g false false false same h = g h

closed : (in_class escaped : Bool) (p ys : List ℕ) → pattern_from in_class escaped p ≡ true → regex_rest in_class escaped (p ++ 47 ∷ ys) ≡ Some ys
closed false false [] ys h = closing_slash ys
closed true false [] ys h = let never = sym (at_end true false) ∙ h in absurd (cc)
closed false true [] ys h = let never = sym (at_end false true) ∙ h in absurd (cc)
closed true true [] ys h = let never = sym (at_end true true) ∙ h in absurd (cc)
closed in_class escaped (c ∷ cs) ys h =
    let in_class' = c == 91 || (in_class && not (c == 93)) in
    regex_rest_cons in_class escaped c (cs ++ 47 ∷ ys)
    ∙ closed_by (regex_rest in_class false (cs ++ 47 ∷ ys)) (regex_rest in_class' (c == 92) (cs ++ 47 ∷ ys)) (Some (cs ++ 47 ∷ ys)) (pattern_from in_class false cs) (pattern_from in_class' (c == 92) cs)
    (begins_line_end (c ∷ cs)) ys (closed in_class false cs ys) (closed in_class' (c == 92) cs ys)
    (begins_line_end (c ∷ cs ++ 47 ∷ ys)) escaped (c == 47 && not in_class) (line_end_same c cs ys) (sym (pattern_cons in_class escaped c cs (c ∷ cs) refl) ∙ h)

-- where it doesn't, something else is left, if anything
beyond : (in_class escaped : Bool) (ys r : List ℕ) → regex_rest in_class escaped ys ≡ Some r → length r ≡ length ys → ⊥
beyond in_class escaped ys r g n = let less = shorter in_class escaped ys r g in omega (arith, less, n)

too_long : (cs ys r : List ℕ) → Some (cs ++ 47 ∷ ys) ≡ Some r → length r ≡ length ys → ⊥
too_long cs ys r h n =
    let same : cs ++ 47 ∷ ys ≡ r = some_same h in
    let len = length-append cs (47 ∷ ys) in
    let all = ap length same in
    omega (arith, len, all, n)

open_by : (cs ys r : List ℕ) (o p : Option (List ℕ)) (a b k : Bool) → length r ≡ length ys → (a ≡ false → o ≡ Some r → ⊥) → (b ≡ false → p ≡ Some r → ⊥) → (l e z : Bool) → l ≡ k
    → cond k false (cond e a (cond z false b)) ≡ false → cond l None (cond e o (cond z (Some (cs ++ 47 ∷ ys)) p)) ≡ Some r → ⊥
open_by cs ys r o p a b k n f g true e z same h q = absurd (cc)
open_by cs ys r o p a b true n f g false e z same h q = absurd (cc)
open_by cs ys r o p a b false n f g false true z same h q = f h q
open_by cs ys r o p a b false n f g false false true same h q = too_long cs ys r q n
open_by cs ys r o p a b false n f g false false false same h q = g h q

open_rest : (in_class escaped : Bool) (p ys r : List ℕ) → length r ≡ length ys → pattern_from in_class escaped p ≡ false → regex_rest in_class escaped (p ++ 47 ∷ ys) ≡ Some r → ⊥
open_rest false false [] ys r n h g = let never = sym (at_end false false) ∙ h in absurd (cc)
open_rest true false [] ys r n h g = beyond true false ys r (sym (in_class_slash ys) ∙ g) n
open_rest in_class true [] ys r n h g = beyond in_class false ys r (sym (escaped_slash in_class ys) ∙ g) n
open_rest in_class escaped (c ∷ cs) ys r n h g =
    let in_class' = c == 91 || (in_class && not (c == 93)) in
    open_by cs ys r (regex_rest in_class false (cs ++ 47 ∷ ys)) (regex_rest in_class' (c == 92) (cs ++ 47 ∷ ys)) (pattern_from in_class false cs) (pattern_from in_class' (c == 92) cs) (begins_line_end (c ∷ cs)) n
    (open_rest in_class false cs ys r n) (open_rest in_class' (c == 92) cs ys r n)
    (begins_line_end (c ∷ cs ++ 47 ∷ ys)) escaped (c == 47 && not in_class) (line_end_same c cs ys) (sym (pattern_cons in_class escaped c cs (c ∷ cs) refl) ∙ h)
    (sym (regex_rest_cons in_class escaped c (cs ++ 47 ∷ ys)) ∙ g)

-- ---- the token

same_bytes : (xs : List ℕ) → bytes_eq xs xs ≡ true
same_bytes xs = (bytes_eq-Decides xs xs).1 refl

module _ (c : ℕ) (cs f : List ℕ) where
  abbrev p : List ℕ
  p = c ∷ cs

  abbrev inner : List ℕ
  inner = c ∷ cs ++ 47 ∷ f

  abbrev told : Option (List ℕ) → Bool
  told o = alone (is_regex_token p f) (regex_before inner o)

  inner_length : length inner ≡ suc (length cs + suc (length f))
  inner_length = ap suc (length-append cs (47 ∷ f))

  body_is : before 1 inner f ≡ p
  body_is = take_at p (47 ∷ f) (length inner - length f - 1) (let l = inner_length in omega (arith, l))

  flags_are : length (after_flags f) ≡ 0 → up_to f (after_flags f) ≡ f
  flags_are e = take_all (length f - length (after_flags f)) f (omega (arith, e))

  whole : (b : Bool) → (length (after_flags f) == 0) ≡ b → told (Some f) ≡ b
  whole true e =
      ap (λ a. (bytes_eq a p && bytes_eq (up_to f (after_flags f)) f) && length (after_flags f) == 0) body_is
      ∙ ap (λ a. (bytes_eq p p && bytes_eq a f) && length (after_flags f) == 0) (flags_are (eqb-true (length (after_flags f)) 0 e))
      ∙ ap (λ b. (b && bytes_eq f f) && length (after_flags f) == 0) (same_bytes p)
      ∙ ap (λ b. (true && b) && length (after_flags f) == 0) (same_bytes f) ∙ e
  whole false e = ap (λ b. (bytes_eq (before 1 inner f) p && bytes_eq (up_to f (after_flags f)) f) && b) e ∙ and_false (bytes_eq (before 1 inner f) p && bytes_eq (up_to f (after_flags f)) f)

  as_long : (r : List ℕ) → length r < length inner → before 1 inner r ≡ p → length r ≡ length f
  as_long r less same =
      let size = ap length same in
      let taken = length-take-le (length inner - length r - 1) inner (omega (arith, less)) in
      let l = inner_length in
      omega (arith, size, taken, l, less)

  apart_by : (r : List ℕ) → length r < length inner → (length r ≡ length f → ⊥) → (b : Bool) → bytes_eq (before 1 inner r) p ≡ b → bytes_eq (before 1 inner r) p ≡ false
  apart_by r less other true e = absurd (other (as_long r less ((bytes_eq-Decides (before 1 inner r) p).0 e)))
  apart_by r less other false e = e

  not_closed : pattern_from false false p ≡ false → (o : Option (List ℕ)) → regex_rest false false inner ≡ o → told o ≡ false
  not_closed h None e = refl
  not_closed h (Some r) e =
      ap (λ b. (b && bytes_eq (up_to r (after_flags r)) f) && length (after_flags r) == 0)
      (apart_by r (shorter false false inner r e) (λ n. open_rest false false p f r n h e) (bytes_eq (before 1 inner r) p) refl)

  core : (b : Bool) → pattern_from false false p ≡ b → told (regex_rest false false inner) ≡ (b && are_flags f)
  core true h = ap told (closed false false p f h) ∙ whole (are_flags f) refl
  core false h = not_closed h (regex_rest false false inner) refl

  none_either : (b : Bool) → cond b false false ≡ false
  none_either true = refl
  none_either false = refl

  -- a slash that comes first closes the pattern
  slash_first : (c == 47) ≡ true → pattern_from false false p ≡ false
  slash_first e =
      pattern_cons false false c cs p refl
      ∙ ap (λ b. cond (begins_line_end p) false (cond (b && true) false (pattern_from (c == 91 || (false && not (c == 93))) (c == 92) cs))) e ∙ none_either (begins_line_end p)

  by_first : (x y q : Bool) → (x ≡ true → q ≡ false) → told (regex_rest false false inner) ≡ (q && are_flags f)
      → alone (is_regex_token p f) (if x || y then Err BadRegex else regex_before inner (regex_rest false false inner)) ≡ ((not y && q) && are_flags f)
  by_first true true q h e = refl
  by_first true false q h e = sym (ap (λ b. b && are_flags f) (h refl))
  by_first false true q h e = refl
  by_first false false q h e = e

by_pattern : (p f : List ℕ) → alone (is_regex_token p f) (regex_behind (p ++ 47 ∷ f)) ≡ (is_pattern p && are_flags f)
by_pattern [] f = refl
by_pattern (c ∷ cs) f =
    by_first c cs f (c == 47) (c == 42) (pattern_from false false (c ∷ cs)) (slash_first c cs f) (core c cs f (pattern_from false false (c ∷ cs)) refl)
    ∙ ap (λ b. (not b && (not (c == 42) && pattern_from false false (c ∷ cs))) && are_flags f) (sym (eqb-suc-zero (length cs)))

pub regex_is : (p f : List ℕ) → is_regex p f ≡ (is_pattern p && are_flags f)
regex_is p f = ap (alone (is_regex_token p f)) (begun_regex (p ++ 47 ∷ f)) ∙ by_pattern p f
