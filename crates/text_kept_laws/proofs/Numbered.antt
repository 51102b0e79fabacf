-- A number behind a name in UTF-8 makes a name, and no reserved word.
use Rattle.std.proofs.Common.{◌≡◌, ◌≢◌, ℕ, zero, suc, ◌+◌, ◌-◌, ◌%◌, ◌<◌, ◌≤◌, ◌^◌, Bool, true, false, not, cond, ◌&&◌, ◌||◌, ◌==◌, Option, Some, None, Result, Ok, Err, List, [], ◌∷◌, ◌++◌, length, take, drop, decimal, eqb-true, refl, sym, ap, ◌∙◌, subst, arith, append_assoc, append-nil, length-append, nat_eq}
use Rattle.std.specs.Prelude.{IsUtf8, encode_utf8_all, is_some, nat_le}
use Rattle.std.specs.Char.{encode_utf8}
use Rattle.std.specs.List.{list_all, list_any}
use Rattle.std.specs.Cmp.Lexicographic.{pointwise}
use Rattle.std.proofs.lemmas.Bool.{and_from, and_parts, cond-false, cond-true, false_from_ne_true, or_from, or_parts}
use Rattle.std.proofs.lemmas.Bool.Decides.{nat_tests}
use Rattle.std.proofs.lemmas.Fmt.{IsAscii-decimal, decimal_by_steps}
use Rattle.std.proofs.lemmas.List.Folds.{list_all-append, list_any-append}
use Rattle.std.proofs.lemmas.Slice.Eq.{bytes_eq-Decides}
use Rattle.std.specs.Str.{is_utf8}
use Rattle.std.proofs.lemmas.Str.{IsUtf8-append, IsUtf8-from_ascii, IsUtf8-from_is_utf8, is_utf8-from_IsUtf8, encode_ascii, encodes-append, encodes-IsAscii, length-le-encodes}
use lib.Dec.{eqb-suc-zero}
use lib.Utf8.{scalar, scalars}
use Rattle.text_characters.specs.Characters.{first, is_name_part, is_name_start, point_of}
use Rattle.text_lexer.specs.declared.mark.Mark.{Mark}
use Rattle.text_lexer.specs.declared.token.Fault.{Fault}
use Rattle.text_lexer.specs.declared.token.Fault.TheVariants.{BadEscape, BadNumber, BadRegex, Unexpected}
use Rattle.text_lexer.specs.declared.token.Goal.TheVariants as goal
use Rattle.text_lexer.specs.Tokens as token
use Rattle.text_lexer.specs.Tokens.{Token}
use Rattle.text_lexer.specs.Marks.{marks_from, spelling}
use Rattle.text_lexer.specs.Names.{after_name, after_parts, begins_name, has_escape, is_named, name_at, name_behind, name_character, name_rest, named, up_to}
use Rattle.text_lexer.specs.Numbers.{begins_number, ends_number, number_at, number_before, number_rest}
use Rattle.text_lexer.specs.Literals.{regex_before, regex_behind, regex_rest, string_before, template_before}
use Rattle.text_lexer.specs.Lexical.{begins_mark, hash_at, mark_among, sign_at, token_at}
use Rattle.text_lexer.proofs.Walks.{name_rest_end, name_rest_more, name_rest_stop}
use Rattle.text_words.specs.Words.{alone, is_name, is_name_token, reads_name, reserved}
use Rattle.swc_base_rename_naming.specs.Texts.{numbered}
use Rattle.text_kept_laws.specs.Spelling.{IsWord}
use Rattle.text_kept_laws.proofs.Characters.{bytes_plain, character}

abbrev Read : Type 0
Read = Result (Token × List ℕ) Fault

abbrev Named : Read → Bool
Named r = alone is_name_token r

-- ---- what begins as no name is none

if_none : (b : Bool) (x y : Read) → Named x ≡ false → Named y ≡ false → Named (cond b x y) ≡ false
if_none true x y h g = h
if_none false x y h g = g

number_none : (text : List ℕ) (o : Option (Bool × List ℕ)) → Named (number_before text o) ≡ false
number_none text None = refl
number_none text (Some (true, rest)) = if_none (ends_number rest) (Ok (token.big_integer (up_to text rest), rest)) (Err BadNumber) refl refl
number_none text (Some (false, rest)) = if_none (ends_number rest) (Ok (token.number (up_to text rest), rest)) (Err BadNumber) refl refl

string_none : (inner : List ℕ) (r : Result (List ℕ) Fault) → Named (string_before inner r) ≡ false
string_none inner (Err fault) = refl
string_none inner (Ok rest) = refl

template_none : (b : Bool) (inner : List ℕ) (o : Option (Bool × List ℕ)) → Named (template_before b inner o) ≡ false
template_none b inner None = refl
template_none b inner (Some (false, rest)) = refl
template_none b inner (Some (true, rest)) = refl

regex_none : (inner : List ℕ) (o : Option (List ℕ)) → Named (regex_before inner o) ≡ false
regex_none inner None = refl
regex_none inner (Some rest) = refl

regexes_none : (inner : List ℕ) → Named (regex_behind inner) ≡ false
regexes_none inner = if_none (first inner == 47 || first inner == 42) (Err BadRegex) (regex_before inner (regex_rest false false inner)) refl (regex_none inner (regex_rest false false inner))

hash_none : (text : List ℕ) → Named (hash_at goal.Div text) ≡ false
hash_none text = if_none (begins_name text) (Ok (token.private_name (up_to text (after_name text)), after_name text)) (Err Unexpected) refl refl

marks_none : (ms : List Mark) (text : List ℕ) → Named (mark_among ms text) ≡ false
unfolding mark_among
marks_none [] text = refl
marks_none (m ∷ ms) text = if_none (begins_mark m text) (Ok (token.punctuator m, drop (length (spelling m)) text)) (mark_among ms text) refl (marks_none ms text)

sign_none : (text : List ℕ) → Named (sign_at goal.Div text) ≡ false
unfolding sign_at
sign_none text =
    if_none (first text == 34 || first text == 39) _ _ (string_none (drop 1 text) _)
    (if_none (first text == 96 || (first text == 125 && false)) _ _ (template_none (first text == 96) (drop 1 text) _)
    (if_none (first text == 47 && false) _ _ (regexes_none (drop 1 text))
    (if_none (first text == 35) _ _ (hash_none (drop 1 text))
    (if_none (first text == 92) (Err BadEscape) _ refl (marks_none (marks_from (first text)) text)))))

named_by : (a b c : Bool) (n s : Read) (text : List ℕ) → Named n ≡ false → Named s ≡ false
    → Named (cond a (Ok (token.end, [])) (cond b (Ok (name_at text)) (cond c n s))) ≡ true → (b ≡ true) × (Named (Ok (name_at text)) ≡ true)
named_by true b c n s text h g e = absurd (cc)
named_by false true c n s text h g e = (refl, e)
named_by false false c n s text h g e = (let never : Named (cond c n s) ≡ false = if_none c n s h g in absurd (cc))

record BeginsName (text : List ℕ) : Type 0 where
  begun : begins_name text ≡ true
  nothing_left : after_name text ≡ []
  no_escape : has_escape text ≡ false

empty : (xs : List ℕ) → (length xs == 0) ≡ true → xs ≡ []
empty [] h = refl
empty (x ∷ xs) h = let never : (length (x ∷ xs) == 0) ≡ false = eqb-suc-zero (length xs) in absurd (cc)

up_to_end : (text rest : List ℕ) → rest ≡ [] → up_to text rest ≡ text
up_to_end text rest e = let whole : length text - 0 ≡ length text = omega arith in ap (up_to text) e ∙ ap (λ n. take n text) whole ∙ all_taken text
  where
    all_taken : (text : List ℕ) → take (length text) text ≡ text
    all_taken [] = refl
    all_taken (c ∷ cs) = ap (λ l. c ∷ l) (all_taken cs)

plain_by : (b : Bool) (text : List ℕ) → is_name_token (cond b (token.escaped_name text) (token.name text)) ≡ true → b ≡ false
plain_by true text h = absurd (cc)
plain_by false text h = refl

begins_name_of : (text : List ℕ) → reads_name text ≡ true → BeginsName text
unfolding token_at
begins_name_of text h =
    let n = named_by (length text == 0) (begins_name text) (begins_number text) (number_at text) (sign_at goal.Div text) text (number_none text (number_rest text)) (sign_none text) h in
    let parts = and_parts (is_name_token (named (up_to text (after_name text)))) (length (after_name text) == 0) n.1 in
    let left : after_name text ≡ [] = empty (after_name text) parts.1 in
    record {
      begun = n.0;
      nothing_left = left;
      no_escape = plain_by (has_escape text) text (sym (ap (λ l. is_name_token (named l)) (up_to_end text (after_name text) left)) ∙ parts.0);
    }

-- ---- and what begins as one and leaves nothing is one

is_named_by : (text rest : List ℕ) → rest ≡ [] → has_escape text ≡ false → Named (Ok (named (up_to text rest), rest)) ≡ true
is_named_by text rest e h =
    let token : named (up_to text rest) ≡ token.name text = ap named (up_to_end text rest e) ∙ cond-false (has_escape text) _ _ h in
    ap (λ t. is_name_token t && length rest == 0) token ∙ ap (λ l. length l == 0) e

name_of_begins : (c : ℕ) (cs : List ℕ) → BeginsName (c ∷ cs) → reads_name (c ∷ cs) ≡ true
unfolding token_at
name_of_begins c cs b =
    ap (λ x. Named (cond x (Ok (token.end, [])) (cond (begins_name (c ∷ cs)) (Ok (name_at (c ∷ cs))) (cond (begins_number (c ∷ cs)) (number_at (c ∷ cs)) (sign_at goal.Div (c ∷ cs)))))) (eqb-suc-zero (length cs))
    ∙ ap (λ x. Named (cond x (Ok (name_at (c ∷ cs))) (cond (begins_number (c ∷ cs)) (number_at (c ∷ cs)) (sign_at goal.Div (c ∷ cs))))) b.begun
    ∙ is_named_by (c ∷ cs) (after_name (c ∷ cs)) b.nothing_left b.no_escape

-- ---- the characters of a name

-- the first may begin a name, and the others go on with it
abbrev are_parts : List ℕ → Bool
are_parts cs = list_all is_name_part cs

never_backslash : (start : Bool) → is_named start 92 ≡ true → ⊥
unfolding is_name_part is_name_start
never_backslash true h = absurd (cc)
never_backslash false h = absurd (cc)

no_backslash : (start : Bool) (c : ℕ) → is_named start c ≡ true → (c == 92) ≡ false
no_backslash start c h = false_from_ne_true (c == 92) (λ e. never_backslash start (subst (λ c. is_named start c ≡ true) (eqb-true c 92 e) h))

first_plain : (c : ℕ) (z : List ℕ) → has_escape (encode_utf8 c ++ z) ≡ false → ((c == 92) ≡ false) × (has_escape z ≡ false)
first_plain c z h =
    let parts = or_parts (has_escape (encode_utf8 c)) (has_escape z) (sym (list_any-append (λ c. c == 92) (encode_utf8 c) z) ∙ h) in (
      false_from_ne_true (c == 92) (λ e. (
          let is : c ≡ 92 = eqb-true c 92 e in
          let one : encode_utf8 c ≡ c ∷ [] = encode_ascii c (omega (arith, is)) in
          let yes : has_escape (encode_utf8 c) ≡ true = ap has_escape (one ∙ ap (λ c. c ∷ []) is) in
          let no : has_escape (encode_utf8 c) ≡ false = parts.0 in absurd (cc))),
      parts.1,
    )

some_named : (b : Bool) (z : List ℕ) → is_some (cond b (Some z) None) ≡ true → b ≡ true
some_named true z h = refl
some_named false z h = absurd (cc)

longer : (c : ℕ) (ds : List ℕ) → 1 ≤ length (encode_utf8_all (c ∷ ds))
longer c ds = omega (arith, length-le-encodes (c ∷ ds))

shorter : (c : ℕ) (ds : List ℕ) → length (encode_utf8_all ds) + 1 ≤ length (encode_utf8_all (c ∷ ds))
shorter c ds = omega (arith, length-append (encode_utf8 c) (encode_utf8_all ds), length-le-encodes (c ∷ []), ap length (sym (append-nil (encode_utf8 c))))

left_none : (c : ℕ) (ds : List ℕ) → encode_utf8_all (c ∷ ds) ≡ [] → ⊥
left_none c ds e = omega (arith, longer c ds, ap length e)

parts_from : (n : ℕ) (ds : List ℕ) → scalars ds ≡ true → has_escape (encode_utf8_all ds) ≡ false → length (encode_utf8_all ds) ≤ n → name_rest n (encode_utf8_all ds) ≡ [] → are_parts ds ≡ true
parts_from n [] s h l e = refl
parts_from zero (d ∷ ds) s h l e = absurd (omega (arith, l, longer d ds))
parts_from (suc n) (d ∷ ds) s h l e =
    let plain = first_plain d (encode_utf8_all ds) h in
    let both = and_parts (scalar d) (scalars ds) s in
    by (is_name_part d) refl (character false d (encode_utf8_all ds) both.0 plain.0) (λ r. parts_from n ds both.1 plain.1 (omega (arith, l, shorter d ds)) r)
  where
    by : (b : Bool) → is_name_part d ≡ b → name_character false (encode_utf8_all (d ∷ ds)) ≡ cond (is_named false d) (Some (encode_utf8_all ds)) None
        → (name_rest n (encode_utf8_all ds) ≡ [] → are_parts ds ≡ true) → are_parts (d ∷ ds) ≡ true
    by true f g further =
        and_from (is_name_part d) (are_parts ds) f
        (further (sym (name_rest_more (suc n) n (encode_utf8_all (d ∷ ds)) (encode_utf8_all ds) refl (g ∙ ap (λ b. cond b (Some (encode_utf8_all ds)) None) f)) ∙ e))
    by false f g further =
        absurd (left_none d ds (sym (name_rest_stop (suc n) n (encode_utf8_all (d ∷ ds)) refl (g ∙ ap (λ b. cond b (Some (encode_utf8_all ds)) None) f)) ∙ e))

no_character : name_character false [] ≡ None
unfolding name_character point_of is_name_part
no_character = refl

nothing_rest : (n : ℕ) → name_rest n [] ≡ []
nothing_rest zero = name_rest_end zero [] refl
nothing_rest (suc n) = name_rest_stop (suc n) n [] refl no_character

rest_none : (n : ℕ) (ds : List ℕ) → scalars ds ≡ true → are_parts ds ≡ true → length (encode_utf8_all ds) ≤ n → name_rest n (encode_utf8_all ds) ≡ []
rest_none n [] s p l = nothing_rest n
rest_none zero (d ∷ ds) s p l = absurd (omega (arith, l, longer d ds))
rest_none (suc n) (d ∷ ds) s p l =
    let both = and_parts (scalar d) (scalars ds) s in
    let named = and_parts (is_name_part d) (are_parts ds) p in
    let more : name_character false (encode_utf8_all (d ∷ ds)) ≡ Some (encode_utf8_all ds)
    = character false d (encode_utf8_all ds) both.0 (no_backslash false d named.0) ∙ ap (λ b. cond b (Some (encode_utf8_all ds)) None) named.0 in
    name_rest_more (suc n) n (encode_utf8_all (d ∷ ds)) (encode_utf8_all ds) refl more ∙ rest_none n ds both.1 named.1 (omega (arith, l, shorter d ds))

escapes_none : (ds : List ℕ) → scalars ds ≡ true → list_all (λ c. not (c == 92)) ds ≡ true → has_escape (encode_utf8_all ds) ≡ false
escapes_none [] s p = refl
escapes_none (d ∷ ds) s p =
    let both = and_parts (scalar d) (scalars ds) s in
    let others = and_parts (not (d == 92)) (list_all (λ c. not (c == 92)) ds) p in
    list_any-append (λ c. c == 92) (encode_utf8 d) (encode_utf8_all ds)
    ∙ or_from (has_escape (encode_utf8 d)) (has_escape (encode_utf8_all ds)) (bytes_plain d both.0 (not_true (d == 92) others.0)) (escapes_none ds both.1 others.1)
  where
    not_true : (b : Bool) → not b ≡ true → b ≡ false
    not_true true h = absurd (cc)
    not_true false h = refl

parts_plain : (ds : List ℕ) → are_parts ds ≡ true → list_all (λ c. not (c == 92)) ds ≡ true
parts_plain [] p = refl
parts_plain (d ∷ ds) p =
    let named = and_parts (is_name_part d) (are_parts ds) p in
    and_from (not (d == 92)) (list_all (λ c. not (c == 92)) ds) (ap not (no_backslash false d named.0)) (parts_plain ds named.1)

-- a first character and others make a name
pub name_of : (c : ℕ) (ds : List ℕ) → scalars (c ∷ ds) ≡ true → is_name_start c ≡ true → are_parts ds ≡ true → reads_name (encode_utf8_all (c ∷ ds)) ≡ true
name_of c ds s starts p = by (encode_utf8_all (c ∷ ds)) refl
  where
    both : (scalar c ≡ true) × (scalars ds ≡ true)
    both = and_parts (scalar c) (scalars ds) s

    first_is : name_character true (encode_utf8_all (c ∷ ds)) ≡ Some (encode_utf8_all ds)
    first_is = character true c (encode_utf8_all ds) both.0 (no_backslash true c starts) ∙ ap (λ b. cond b (Some (encode_utf8_all ds)) None) starts

    facts : BeginsName (encode_utf8_all (c ∷ ds))
    facts = record {
      begun = ap is_some first_is;
      nothing_left = ap (name_behind after_parts (encode_utf8_all (c ∷ ds))) first_is ∙ rest_none (length (encode_utf8_all ds)) ds both.1 p (omega arith);
      no_escape = escapes_none (c ∷ ds) s (and_from (not (c == 92)) _ (ap not (no_backslash true c starts)) (parts_plain ds p));
    }

    by : (text : List ℕ) → encode_utf8_all (c ∷ ds) ≡ text → reads_name (encode_utf8_all (c ∷ ds)) ≡ true
    by [] e = absurd (left_none c ds e)
    by (b ∷ bs) e = ap reads_name e ∙ name_of_begins b bs (subst BeginsName e facts)

-- ---- a number behind it

abbrev is_digit : ℕ → Bool
is_digit c = nat_le 48 c && nat_le c 57

digit-of : (d : ℕ) → d < 10 → is_digit (48 + d) ≡ true
digit-of d small = grind (arith, nat_tests)

digits-decimal : (n : ℕ) → n < 2 ^ 64 → list_all is_digit (decimal n) ≡ true
digits-decimal = decimal_by_steps (λ n ds. list_all is_digit ds ≡ true)
    (λ n small. and_from (is_digit (48 + n)) true (digit-of n small) refl)
    (λ n ds ten before. list_all-append is_digit ds ((48 + n % 10) ∷ []) ∙ and_from _ _ before (and_from (is_digit (48 + n % 10)) true (digit-of (n % 10) (omega arith)) refl))

digit_part : (c : ℕ) → is_digit c ≡ true → is_name_part c ≡ true
unfolding is_name_part
digit_part c h = grind (arith, nat_tests)

digit_scalar : (c : ℕ) → is_digit c ≡ true → scalar c ≡ true
digit_scalar c h = grind (arith, nat_tests)

all_from : (p q : ℕ → Bool) → ((c : ℕ) → p c ≡ true → q c ≡ true) → (ds : List ℕ) → list_all p ds ≡ true → list_all q ds ≡ true
all_from p q h [] g = refl
all_from p q h (d ∷ ds) g = let parts = and_parts (p d) (list_all p ds) g in and_from (q d) (list_all q ds) (h d parts.0) (all_from p q h ds parts.1)

scalars_all : (ds : List ℕ) → list_all scalar ds ≡ true → scalars ds ≡ true
scalars_all [] h = refl
scalars_all (d ∷ ds) h = let parts = and_parts (scalar d) (list_all scalar ds) h in and_from (scalar d) (scalars ds) parts.0 (scalars_all ds parts.1)

scalars-append : (cs ds : List ℕ) → scalars cs ≡ true → scalars ds ≡ true → scalars (cs ++ ds) ≡ true
scalars-append [] ds h g = g
scalars-append (c ∷ cs) ds h g = let parts = and_parts (scalar c) (scalars cs) h in and_from (scalar c) (scalars (cs ++ ds)) parts.0 (scalars-append cs ds parts.1 g)

-- what a name in UTF-8 is made of
name_parts : (c : ℕ) (ds : List ℕ) → scalars (c ∷ ds) ≡ true → reads_name (encode_utf8_all (c ∷ ds)) ≡ true → (is_name_start c ≡ true) × (are_parts ds ≡ true)
name_parts c ds s h =
    let b = begins_name_of (encode_utf8_all (c ∷ ds)) h in
    let both = and_parts (scalar c) (scalars ds) s in
    let plain = first_plain c (encode_utf8_all ds) b.no_escape in
    let at : name_character true (encode_utf8_all (c ∷ ds)) ≡ cond (is_named true c) (Some (encode_utf8_all ds)) None = character true c (encode_utf8_all ds) both.0 plain.0 in
    let starts : is_name_start c ≡ true = some_named (is_name_start c) (encode_utf8_all ds) (sym (ap is_some at) ∙ b.begun) in
    let left : name_rest (length (encode_utf8_all ds)) (encode_utf8_all ds) ≡ []
    = sym (ap (name_behind after_parts (encode_utf8_all (c ∷ ds))) (at ∙ ap (λ b. cond b (Some (encode_utf8_all ds)) None) starts)) ∙ b.nothing_left in
    (starts, parts_from (length (encode_utf8_all ds)) ds both.1 plain.1 (omega arith) left)

nothing_named : reads_name [] ≡ true → ⊥
unfolding token_at
nothing_named h = absurd (cc)

with_digits : (cs : List ℕ) (n : ℕ) → n < 2 ^ 64 → scalars cs ≡ true → reads_name (encode_utf8_all cs) ≡ true → reads_name (encode_utf8_all cs ++ decimal n) ≡ true
with_digits [] n within s h = absurd (nothing_named h)
with_digits (c ∷ ds) n within s h =
    let w = name_parts c ds s h in
    let digits = digits-decimal n within in
    let more : scalars (decimal n) ≡ true = scalars_all (decimal n) (all_from is_digit scalar digit_scalar (decimal n) digits) in
    let same : encode_utf8_all (c ∷ ds) ++ decimal n ≡ encode_utf8_all (c ∷ (ds ++ decimal n))
    = ap (λ l. encode_utf8_all (c ∷ ds) ++ l) (sym (encodes-IsAscii (decimal n) (IsAscii-decimal n within))) ∙ sym (encodes-append (c ∷ ds) (decimal n)) in
    ap reads_name same
    ∙ name_of c (ds ++ decimal n) (scalars-append (c ∷ ds) (decimal n) s more) w.0
    (list_all-append is_name_part ds (decimal n) ∙ and_from _ _ w.1 (all_from is_digit is_name_part digit_part (decimal n) digits))

-- ---- no reserved word ends in a digit

abbrev ends_from : Bool → List ℕ → Bool
ends_from b [] = b
ends_from b (c ∷ cs) = ends_from (is_digit c) cs

ends-append : (b : Bool) (xs : List ℕ) (d : ℕ) → ends_from b (xs ++ d ∷ []) ≡ is_digit d
ends-append b [] d = refl
ends-append b (x ∷ xs) d = ends-append (is_digit x) xs d

ends-decimal : (n : ℕ) → n < 2 ^ 64 → (xs : List ℕ) → ends_from false (xs ++ decimal n) ≡ true
ends-decimal = decimal_by_steps (λ n ds. (xs : List ℕ) → ends_from false (xs ++ ds) ≡ true)
    (λ n small xs. ends-append false xs (48 + n) ∙ digit-of n small)
    (λ n ds ten before xs. ap (ends_from false) (sym (append_assoc xs ds ((48 + n % 10) ∷ []))) ∙ ends-append false (xs ++ ds) (48 + n % 10) ∙ digit-of (n % 10) (omega arith))

apart : (text word : List ℕ) → ends_from false text ≡ true → ends_from false word ≡ false → pointwise nat_eq text word ≡ false
apart text word digit other = false_from_ne_true (pointwise nat_eq text word) (λ same. (
    let never : true ≡ false = sym digit ∙ ap (ends_from false) ((bytes_eq-Decides text word).0 same) ∙ other in absurd (cc)))

is_none_of : (text : List ℕ) → ends_from false text ≡ true → (words : List (List ℕ)) → list_any (ends_from false) words ≡ false → list_any (pointwise nat_eq text) words ≡ false
is_none_of text digit [] none = refl
is_none_of text digit (w ∷ ws) none =
    let others = or_parts (ends_from false w) (list_any (ends_from false) ws) none in
    or_from _ _ (apart text w digit others.0) (is_none_of text digit ws others.1)

-- what is read as a name and is in UTF-8 is one
pub name_of_characters : (cs : List ℕ) → scalars cs ≡ true → reads_name (encode_utf8_all cs) ≡ true → is_name (encode_utf8_all cs) ≡ true
name_of_characters cs s h = and_from (is_utf8 (encode_utf8_all cs)) (reads_name (encode_utf8_all cs)) (is_utf8-from_IsUtf8 (encode_utf8_all cs) (cs, (s, refl))) h

pub numbered_word : (text : List ℕ) (n : ℕ) → is_name text ≡ true → n < 2 ^ 64 → numbered text n ≢ text → IsWord (numbered text n)
numbered_word text n named within other = by (n == 0) refl
  where
    parts : (is_utf8 text ≡ true) × (reads_name text ≡ true)
    parts = and_parts (is_utf8 text) (reads_name text) named

    utf8 : IsUtf8 text
    utf8 = IsUtf8-from_is_utf8 text parts.0

    by : (b : Bool) → (n == 0) ≡ b → IsWord (numbered text n)
    by true e = absurd (other (cond-true (n == 0) text (text ++ decimal n) e))
    by false e =
        let is : numbered text n ≡ text ++ decimal n = cond-false (n == 0) text (text ++ decimal n) e in
        let read : reads_name (text ++ decimal n) ≡ true = subst (λ l. reads_name (l ++ decimal n) ≡ true) utf8.1.1 (with_digits utf8.0 n within utf8.1.0 (ap reads_name utf8.1.1 ∙ parts.1)) in
        let longer : is_utf8 (text ++ decimal n) ≡ true = is_utf8-from_IsUtf8 (text ++ decimal n) (IsUtf8-append text (decimal n) utf8 (IsUtf8-from_ascii (decimal n) (IsAscii-decimal n within))) in
        subst IsWord (sym is) (and_from (is_utf8 (text ++ decimal n)) (reads_name (text ++ decimal n)) longer read, is_none_of (text ++ decimal n) (ends-decimal n within text) reserved refl)
