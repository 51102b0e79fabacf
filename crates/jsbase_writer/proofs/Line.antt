-- A line feed at the end of a text changes nothing of what the text reads as.
use Rattle.std.proofs.Common.{◌≡◌, ◌+◌, ◌-◌, ℕ, List, [], ◌∷◌, ◌++◌, Bool, true, false, not, ◌&&◌, ◌||◌, ◌==◌, nat_eq, cond, length, take, drop, Option, Some, None, option_map, option_and_then, refl, ap, ◌∙◌, arith}
use Rattle.std.specs.List.{prefix_len, starts_with}
use Rattle.std.specs.Char.{is_ascii_digit, is_digit}
use Rattle.std.proofs.lemmas.List.{drop-append-le, take-append-le, length-append}
use Rattle.std.proofs.lemmas.List.Sums.{prefix_len-le-length}
use Rattle.json.specs.Token.{Token, boolean, null, bad}
use Rattle.json.specs.Text.{Within, plain, after_backslash, after_u, after_high, content, code_unit, short_escape}
use Rattle.json.specs.Ascii as ascii
use Rattle.json.specs.Word.{ends_word, after_digits, after_minus, after_sign, after_whole, after_fraction, after_exponent, after_number, number_before, literal, word}
use Rattle.json.specs.Lex.{Mode, between, in_word, in_string, in_escape, Class, quote, backslash, operator, space, other, class, lex_byte, lex, punctuate, fresh}
use Rattle.json.specs.Json.{if_last, value}
use Rattle.jsbase_reader.specs.Envelopes.{document, max_depth}

abbrev ended : List ℕ → List ℕ
ended t = t ++ 10 ∷ []

-- ---- strings

none_of : {A : Type 0} (p q r : Bool) (x : A) → cond (p && q && r && false) (Some x) None ≡ None
none_of true true true x = refl
none_of true true false x = refl
none_of true false r x = refl
none_of false q r x = refl

no_unit : (a b c : ℕ) → code_unit a b c 10 ≡ None
unfolding code_unit
no_unit a b c = none_of (is_digit a 16) (is_digit b 16) (is_digit c 16) _

none_either : {A : Type 0} (b : Bool) (o : Option A) → o ≡ None → cond b o None ≡ None
none_either true o e = e
none_either false o e = refl

same_then : {A B : Type 0} (o : Option A) (f g : A → Option B) → ((a : A) → f a ≡ g a) → option_and_then f o ≡ option_and_then g o
same_then (Some a) f g h = h a
same_then None f g h = refl

content_line : (w : Within) (t : List ℕ) → content w (ended t) ≡ content w t
unfolding content short_escape
content_line plain [] = refl
content_line plain (x ∷ xs) = rw (content_line after_backslash xs, content_line plain xs) refl
content_line after_backslash [] = refl
content_line after_backslash (x ∷ xs) = rw (content_line after_u xs, content_line plain xs) refl
content_line after_u [] = refl
content_line after_u (a ∷ []) = refl
content_line after_u (a ∷ b ∷ []) = refl
content_line after_u (a ∷ b ∷ c ∷ []) = rw (no_unit a b c) refl
content_line after_u (a ∷ b ∷ c ∷ d ∷ xs) = same_then (code_unit a b c d) _ _ (λ u. rw (content_line (after_high u) xs, content_line plain xs) refl)
content_line (after_high h) [] = refl
content_line (after_high h) (s ∷ []) = refl
content_line (after_high h) (s ∷ u ∷ []) = refl
content_line (after_high h) (s ∷ u ∷ a ∷ []) = refl
content_line (after_high h) (s ∷ u ∷ a ∷ b ∷ []) = refl
content_line (after_high h) (s ∷ u ∷ a ∷ b ∷ c ∷ []) = rw (no_unit a b c) (none_either _ None refl)
content_line (after_high h) (s ∷ u ∷ a ∷ b ∷ c ∷ d ∷ xs) = rw (content_line plain xs) refl

-- ---- words

ends_line : (t : List ℕ) → ends_word (ended t) ≡ ends_word t
ends_line [] = refl
ends_line (x ∷ xs) = refl

abbrev matched : List ℕ → List ℕ → Bool
matched name t = starts_with nat_eq t name && ends_word (drop (length name) t)

abbrev no_feed : List ℕ → Bool
no_feed [] = true
no_feed (n ∷ ns) = not (nat_eq n 10) && no_feed ns

and_step : (b p q r s : Bool) → p && r ≡ q && s → (b && p) && r ≡ (b && q) && s
and_step true p q r s h = h
and_step false p q r s h = refl

not_first : (n : ℕ) (p r rest : Bool) → (not (nat_eq n 10) && rest) ≡ true → (nat_eq n 10 && p) && r ≡ false
not_first n p r rest h = at_test (nat_eq n 10) h
  where
    at_test : (b : Bool) → (not b && rest) ≡ true → (b && p) && r ≡ false
    at_test true h = absurd (cc)
    at_test false h = refl

rest_of : (b rest : Bool) → (b && rest) ≡ true → rest ≡ true
rest_of true rest h = h
rest_of false rest h = absurd (cc)

matched_line : (name t : List ℕ) → no_feed name ≡ true → matched name (ended t) ≡ matched name t
matched_line [] t h = ends_line t
matched_line (n ∷ ns) [] h = not_first n _ _ (no_feed ns) h
matched_line (n ∷ ns) (x ∷ xs) h = and_step (nat_eq n x) _ _ _ _ (matched_line ns xs (rest_of (not (nat_eq n 10)) (no_feed ns) h))

literal_line : (name : List ℕ) (token : Token) (t : List ℕ) → no_feed name ≡ true → literal name token (ended t) ≡ literal name token t
literal_line name token t h = ap (λ b. cond b token bad) (matched_line name t h)

-- ---- numbers

rest_ended : (b : Bool) (x : ℕ) (xs : List ℕ) → cond b (ended xs) (ended (x ∷ xs)) ≡ ended (cond b xs (x ∷ xs))
rest_ended true x xs = refl
rest_ended false x xs = refl

choice_ended : (b : Bool) (p q r s : Option (List ℕ)) → p ≡ option_map ended r → q ≡ option_map ended s → cond b p q ≡ option_map ended (cond b r s)
choice_ended true p q r s e f = e
choice_ended false p q r s e f = f

digits_line : (t : List ℕ) → prefix_len is_ascii_digit (ended t) ≡ prefix_len is_ascii_digit t
digits_line [] = refl
digits_line (x ∷ xs) = ap (λ n. cond (is_ascii_digit x) (1 + n) 0) (digits_line xs)

after_digits_line : (t : List ℕ) → after_digits (ended t) ≡ option_map ended (after_digits t)
after_digits_line t = rw (digits_line t) (choice_ended (prefix_len is_ascii_digit t == 0) _ _ _ _ refl (ap Some (drop-append-le (prefix_len is_ascii_digit t) t (10 ∷ []) (prefix_len-le-length is_ascii_digit t))))

after_minus_line : (t : List ℕ) → after_minus (ended t) ≡ ended (after_minus t)
after_minus_line [] = refl
after_minus_line (x ∷ xs) = rest_ended (x == 45) x xs

after_sign_line : (t : List ℕ) → after_sign (ended t) ≡ ended (after_sign t)
after_sign_line [] = refl
after_sign_line (x ∷ xs) = rest_ended ((x == 45) || (x == 43)) x xs

after_whole_line : (t : List ℕ) → after_whole (ended t) ≡ option_map ended (after_whole t)
after_whole_line [] = refl
after_whole_line (x ∷ xs) = choice_ended (x == 48) _ _ _ _ refl (after_digits_line (x ∷ xs))

after_fraction_line : (t : List ℕ) → after_fraction (ended t) ≡ option_map ended (after_fraction t)
after_fraction_line [] = refl
after_fraction_line (x ∷ xs) = choice_ended (x == 46) _ _ _ _ (after_digits_line xs) refl

after_exponent_line : (t : List ℕ) → after_exponent (ended t) ≡ option_map ended (after_exponent t)
after_exponent_line [] = refl
after_exponent_line (x ∷ xs) = choice_ended ((x == 101) || (x == 69)) _ _ _ _ (ap after_digits (after_sign_line xs) ∙ after_digits_line (after_sign xs)) refl

then_line : (f : List ℕ → Option (List ℕ)) → ((t : List ℕ) → f (ended t) ≡ option_map ended (f t)) → (o : Option (List ℕ)) → option_and_then f (option_map ended o) ≡ option_map ended (option_and_then f o)
then_line f h (Some t) = h t
then_line f h None = refl

after_number_line : (t : List ℕ) → after_number (ended t) ≡ option_map ended (after_number t)
unfolding after_number
after_number_line t =
    let whole : after_whole (after_minus (ended t)) ≡ option_map ended (after_whole (after_minus t)) = ap after_whole (after_minus_line t) ∙ after_whole_line (after_minus t) in
    let fraction : option_and_then after_fraction (after_whole (after_minus (ended t))) ≡ option_map ended (option_and_then after_fraction (after_whole (after_minus t))) =
    ap (option_and_then after_fraction) whole ∙ then_line after_fraction after_fraction_line (after_whole (after_minus t)) in
    ap (option_and_then after_exponent) fraction ∙ then_line after_exponent after_exponent_line (option_and_then after_fraction (after_whole (after_minus t)))

number_line : (t : List ℕ) (o : Option (List ℕ)) → number_before (ended t) (option_map ended o) ≡ number_before t o
number_line t None = refl
number_line t (Some rest) =
    let longer = length-append t (10 ∷ []) in
    let rest_longer = length-append rest (10 ∷ []) in
    let before : length (ended t) - length (ended rest) ≡ length t - length rest = omega (arith, longer, rest_longer) in
    let taken : take (length t - length rest) (ended t) ≡ take (length t - length rest) t = take-append-le (length t - length rest) t (10 ∷ []) (omega arith) in
    rw (ends_line rest, before, taken) refl

word_line : (t : List ℕ) → word (ended t) ≡ word t
unfolding word after_number
word_line [] = refl
word_line (x ∷ xs) =
    let number : number_before (ended (x ∷ xs)) (after_number (ended (x ∷ xs))) ≡ number_before (x ∷ xs) (after_number (x ∷ xs)) =
    ap (number_before (ended (x ∷ xs))) (after_number_line (x ∷ xs)) ∙ number_line (x ∷ xs) (after_number (x ∷ xs)) in
    rw (literal_line ascii.true_text (boolean true) (x ∷ xs) refl, literal_line ascii.false_text (boolean false) (x ∷ xs) refl, literal_line ascii.null_text null (x ∷ xs) refl, number) refl

-- ---- texts

byte_line : (m : Mode) (c : Class) (x : ℕ) (xs : List ℕ) → ((next : Mode) → lex next (ended xs) ≡ lex next xs) → lex_byte m c x (ended xs) (λ next. lex next (ended xs)) ≡ lex_byte m c x xs (λ next. lex next xs)
byte_line between quote x xs h = rw (content_line plain xs, h in_string) refl
byte_line between backslash x xs h = rw (h in_word) refl
byte_line between operator x xs h = rw (h between) refl
byte_line between space x xs h = h between
byte_line between other x xs h = rw (word_line (x ∷ xs), h in_word) refl
byte_line in_word quote x xs h = h in_word
byte_line in_word backslash x xs h = h in_word
byte_line in_word operator x xs h = rw (h between) refl
byte_line in_word space x xs h = h between
byte_line in_word other x xs h = h in_word
byte_line in_string quote x xs h = h between
byte_line in_string backslash x xs h = h in_escape
byte_line in_string operator x xs h = h in_string
byte_line in_string space x xs h = h in_string
byte_line in_string other x xs h = h in_string
byte_line in_escape c x xs h = h in_string

lex_line : (t : List ℕ) (m : Mode) → lex m (ended t) ≡ lex m t
unfolding lex
lex_line [] between = refl
lex_line [] in_word = refl
lex_line [] in_string = refl
lex_line [] in_escape = refl
lex_line (x ∷ xs) m = byte_line m (class x) x xs (lex_line xs)

-- the text with a line feed reads as the text
pub read_line : (t : List ℕ) → document (ended t) ≡ document t
read_line t = ap (λ ls. option_and_then (λ p. if_last p.0 p.1) (value max_depth (punctuate fresh ls))) (lex_line t between)
