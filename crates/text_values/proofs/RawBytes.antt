-- The raw text of a template, a byte at a time.
use Rattle.std.proofs.Common.{◌≡◌, ap, sym, ◌∙◌, ℕ, ◌<◌, ◌≤◌, ◌+◌, ◌&&◌, ◌==◌, nat_eq, true, false, Bool, Option, Some, None, cond, List, [], ◌∷◌, ◌++◌, length, drop, get_or, refl, add-zero, get_or-drop, append_assoc}
use lib.Dec.{eqb-suc-zero}
use Rattle.std.proofs.lemmas.List.{drop_more, drop_all, append-nil}
use Rattle.std.specs.Prelude.{bytes_eq, option_to_list}
use Rattle.text_values.specs.Values.{raw_byte, template_raw, past_raw}

template_raw_cons : (c d : ℕ) (cs xs : List ℕ) → xs ≡ c ∷ cs → get_or cs 0 0 ≡ d → template_raw xs ≡ option_to_list (raw_byte c d) ++ template_raw cs
unfolding template_raw
template_raw_cons c d cs xs e f = rw (e, ← f) refl

next_is : (xs : List ℕ) (i : ℕ) → get_or (drop (i + 1) xs) 0 0 ≡ get_or xs (i + 1) 0
next_is xs i = rw (get_or-drop (i + 1) xs 0 0, add-zero) refl

pub template_raw_drop : (xs : List ℕ) (i : ℕ) → i < length xs
    → template_raw (drop i xs) ≡ option_to_list (raw_byte (get_or xs i 0) (get_or xs (i + 1) 0)) ++ template_raw (drop (i + 1) xs)
template_raw_drop xs i h = template_raw_cons (get_or xs i 0) (get_or xs (i + 1) 0) (drop (i + 1) xs) (drop i xs) (drop_more xs i 0 h) (next_is xs i)

pub template_raw_end : (xs : List ℕ) (i : ℕ) → length xs ≤ i → template_raw (drop i xs) ≡ []
unfolding template_raw
template_raw_end xs i h = rw (drop_all i xs h) refl

same_rest : (b : Bool) (xs rest more : List ℕ) → cond b (Some xs) None ≡ Some rest → (b && bytes_eq more xs) ≡ bytes_eq more rest
same_rest true xs rest more is = cc
same_rest false xs rest more is = absurd (cc)

-- what is left of both once a byte is taken off
pub raw_more : (o : Option ℕ) (more left rest : List ℕ) → past_raw left o ≡ Some rest → bytes_eq (option_to_list o ++ more) left ≡ bytes_eq more rest
raw_more None more left rest is = cc
raw_more (Some b) more [] rest is = absurd (cc)
raw_more (Some b) more (c ∷ cs) rest is = same_rest (nat_eq b c) cs rest more is

none_if : (b t : Bool) (xs : List ℕ) → cond b (Some xs) None ≡ None → (b && t) ≡ false
none_if true t xs is = absurd (cc)
none_if false t xs is = refl

pub raw_stop : (o : Option ℕ) (more left : List ℕ) → past_raw left o ≡ None → bytes_eq (option_to_list o ++ more) left ≡ false
raw_stop None more left is = absurd (cc)
raw_stop (Some b) more [] is = refl
raw_stop (Some b) more (c ∷ cs) is = none_if (nat_eq b c) _ cs is

pub raw_done : (left : List ℕ) → bytes_eq [] left ≡ (length left == 0)
raw_done [] = refl
raw_done (c ∷ cs) = sym (eqb-suc-zero (length cs))
