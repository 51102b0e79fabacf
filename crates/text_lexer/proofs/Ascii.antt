-- What is told by bytes below 128 alone is as the grammar has it.
use Rattle.std.proofs.Common.{◌≡◌, ap, sym, ◌∙◌, ℕ, suc, ◌<◌, ◌≤◌, ◌+◌, ◌-◌, ◌&&◌, ◌||◌, ◌==◌, not, true, false, Bool, Option, Some, None, Ok, cond, List, [], ◌∷◌, length, take, drop, get_or, refl, IfSome, arith, length-drop}
use lib.Dec.{eqb-suc-zero}
use Rattle.std.specs.Prelude.{codes, nat_eq, nat_lt, is_some}
use Rattle.std.specs.Char.{is_ascii_alphabetic, is_ascii_digit}
use Rattle.std.specs.List.{prefix_len, starts_with}
use Rattle.std.proofs.lemmas.Bool.{and_left, and_parts, and_right, cond-false, cond-true, eqb-true, or_from, or_parts}
use Rattle.std.proofs.lemmas.Bool.Decides.{nat_tests}
use Rattle.std.proofs.lemmas.List.{drop_more}
use Rattle.std.proofs.lemmas.List.Sums.{prefix_len-le-length}
use Rattle.text_characters.specs.Characters.{point, point_of, behind, begins_line_end, after_line_end, is_name_part, is_name_start, is_space}
use Rattle.text_lexer.specs.declared.blank.Comments.{Comments}
use Rattle.text_lexer.specs.declared.mark.Mark.{Mark}
use Rattle.text_lexer.specs.declared.mark.Mark.TheVariants as mark
use Rattle.text_lexer.specs.declared.token.Goal.{Goal}
use Rattle.text_lexer.specs.Blanks.{stop, past, skip_piece, blank, begins_line_comment}
use Rattle.text_lexer.specs.Lexical.{begins_mark, has_template_tail, mark_among, sign_at, token_at}
use Rattle.text_lexer.specs.Names.{after_name, after_parts, begins_name, has_escape, is_named, name_at, name_behind, name_character, name_rest, named, up_to}
use Rattle.text_lexer.specs.Plain.{is_plain_blank, is_plain_end, is_plain_part, is_plain_start, is_plain_stop, lone_mark}
use Rattle.text_lexer.specs.Tokens.{name, punctuator}
use Rattle.text_lexer.proofs.Walks.{blank_from_past, blank_from_stop, name_rest_more, name_rest_stop}

-- ---- a character below 128

point_small : (c : ℕ) (cs : List ℕ) → nat_lt c 128 ≡ true → point (c ∷ cs) ≡ c
unfolding point_of
point_small c cs h = cond-true (nat_lt c 128) _ _ h

behind_small : (c : ℕ) (cs : List ℕ) → nat_lt c 128 ≡ true → behind (c ∷ cs) ≡ cs
behind_small c cs h = ap (λ n. drop n (c ∷ cs)) (cond-true (nat_lt c 128) 1 _ h)

no_escape : (start : Bool) (c : ℕ) (cs : List ℕ) → (c == 92) ≡ false
    → name_character start (c ∷ cs) ≡ cond (is_named start (point (c ∷ cs))) (Some (behind (c ∷ cs))) None
unfolding name_character
no_escape start c cs h = cond-false (c == 92) _ _ h

-- ---- names

part_small : (c : ℕ) → is_plain_part c ≡ true → nat_lt c 128 ≡ true
part_small c h = grind (arith, nat_tests)

part_other : (c : ℕ) → is_plain_part c ≡ true → (c == 92) ≡ false
part_other c h = grind (arith, nat_tests)

part_named : (c : ℕ) → is_plain_part c ≡ true → is_name_part c ≡ true
unfolding is_name_part
part_named c h = cond-true (nat_lt c 128) (is_plain_part c) _ (part_small c h) ∙ h

start_part_by : (a d s : Bool) → (a || s) ≡ true → ((a || d) || s) ≡ true
start_part_by true d s h = refl
start_part_by false true s h = refl
start_part_by false false s h = h

start_part : (c : ℕ) → is_plain_start c ≡ true → is_plain_part c ≡ true
start_part c h = start_part_by (is_ascii_alphabetic c) (is_ascii_digit c) (c == 36 || c == 95) h

start_named : (c : ℕ) → is_plain_start c ≡ true → is_name_start c ≡ true
unfolding is_name_start
start_named c h = cond-true (nat_lt c 128) (is_plain_start c) _ (part_small c (start_part c h)) ∙ h

part_is : (c : ℕ) (cs : List ℕ) → is_plain_part c ≡ true → name_character false (c ∷ cs) ≡ Some cs
part_is c cs h =
    no_escape false c cs (part_other c h)
    ∙ ap (λ p. cond (is_name_part p) (Some (behind (c ∷ cs))) None) (point_small c cs (part_small c h))
    ∙ cond-true (is_name_part c) _ _ (part_named c h) ∙ ap Some (behind_small c cs (part_small c h))

start_is : (c : ℕ) (cs : List ℕ) → is_plain_start c ≡ true → name_character true (c ∷ cs) ≡ Some cs
start_is c cs h =
    let small : nat_lt c 128 ≡ true = part_small c (start_part c h) in
    no_escape true c cs (part_other c (start_part c h))
    ∙ ap (λ p. cond (is_name_start p) (Some (behind (c ∷ cs))) None) (point_small c cs small)
    ∙ cond-true (is_name_start c) _ _ (start_named c h) ∙ ap Some (behind_small c cs small)

end_small : (c : ℕ) → is_plain_end c ≡ true → nat_lt c 128 ≡ true
end_small c h = (and_parts _ _ h).0

end_other : (c : ℕ) → is_plain_end c ≡ true → (c == 92) ≡ false
end_other c h = grind (arith, nat_tests)

end_named : (c : ℕ) → is_plain_end c ≡ true → is_plain_part c ≡ false → is_name_part c ≡ false
unfolding is_name_part
end_named c h none = cond-true (nat_lt c 128) (is_plain_part c) _ (end_small c h) ∙ none

end_is : (c : ℕ) (cs : List ℕ) → is_plain_end c ≡ true → is_plain_part c ≡ false → name_character false (c ∷ cs) ≡ None
end_is c cs h none =
    no_escape false c cs (end_other c h)
    ∙ ap (λ p. cond (is_name_part p) (Some (behind (c ∷ cs))) None) (point_small c cs (end_small c h))
    ∙ cond-false (is_name_part c) _ _ (end_named c h none)

one_more : (k : ℕ) → 1 + k ≡ suc k
one_more k = omega arith

parts_by : (b : Bool) (c : ℕ) (cs : List ℕ) → is_plain_part c ≡ b → is_plain_end (get_or (c ∷ cs) (cond b (1 + prefix_len is_plain_part cs) 0) 0) ≡ true
    → (is_plain_end (get_or cs (prefix_len is_plain_part cs) 0) ≡ true → name_rest (length cs) cs ≡ drop (prefix_len is_plain_part cs) cs)
    → name_rest (suc (length cs)) (c ∷ cs) ≡ drop (cond b (1 + prefix_len is_plain_part cs) 0) (c ∷ cs)
parts_by true c cs is ends more =
    let len : 1 + prefix_len is_plain_part cs ≡ suc (prefix_len is_plain_part cs) = one_more (prefix_len is_plain_part cs) in
    let ended : is_plain_end (get_or cs (prefix_len is_plain_part cs) 0) ≡ true = ap (λ n. is_plain_end (get_or (c ∷ cs) n 0)) (sym len) ∙ ends in
    name_rest_more (suc (length cs)) (length cs) (c ∷ cs) cs refl (part_is c cs is) ∙ more ended ∙ ap (λ n. drop n (c ∷ cs)) (sym len)
parts_by false c cs is ends more = name_rest_stop (suc (length cs)) (length cs) (c ∷ cs) refl (end_is c cs ends is)

nothing_rest : name_rest 0 [] ≡ []
unfolding name_rest
nothing_rest = refl

parts_are : (text : List ℕ) → is_plain_end (get_or text (prefix_len is_plain_part text) 0) ≡ true → name_rest (length text) text ≡ drop (prefix_len is_plain_part text) text
parts_are [] ends = nothing_rest
parts_are (c ∷ cs) ends = parts_by (is_plain_part c) c cs refl ends (parts_are cs)

none_by : (b : Bool) (c : ℕ) (cs : List ℕ) → is_plain_part c ≡ b → has_escape (take (prefix_len is_plain_part cs) cs) ≡ false
    → has_escape (take (cond b (1 + prefix_len is_plain_part cs) 0) (c ∷ cs)) ≡ false
none_by true c cs is none =
    ap (λ n. has_escape (take n (c ∷ cs))) (one_more (prefix_len is_plain_part cs))
    ∙ or_from (c == 92) (has_escape (take (prefix_len is_plain_part cs) cs)) (part_other c is) none
none_by false c cs is none = refl

none_in : (text : List ℕ) → has_escape (take (prefix_len is_plain_part text) text) ≡ false
none_in [] = refl
none_in (c ∷ cs) = none_by (is_plain_part c) c cs refl (none_in cs)

module _ (c : ℕ) (cs : List ℕ) (starts : is_plain_start c ≡ true) (ends : is_plain_end (get_or cs (prefix_len is_plain_part cs) 0) ≡ true) where
  abbrev k : ℕ
  k = prefix_len is_plain_part cs

  text_after : after_name (c ∷ cs) ≡ drop k cs
  text_after = ap (name_behind after_parts (c ∷ cs)) (start_is c cs starts) ∙ parts_are cs ends

  front : up_to (c ∷ cs) (drop k cs) ≡ c ∷ take k cs
  front =
      let within = prefix_len-le-length is_plain_part cs in
      let left = length-drop k cs in
      let n : suc (length cs) - length (drop k cs) ≡ suc k = omega (arith, within, left) in
      ap (λ n. take n (c ∷ cs)) n

  whole : named (c ∷ take k cs) ≡ name (c ∷ take k cs)
  whole = cond-false (has_escape (c ∷ take k cs)) _ _ (or_from (c == 92) _ (part_other c (start_part c starts)) (none_in cs))

  front_named : name_at (c ∷ cs) ≡ (name (c ∷ take k cs), drop k cs)
  front_named = ap (λ rest. (named (up_to (c ∷ cs) rest), rest)) text_after ∙ ap (λ t. (t, drop k cs)) (ap named front ∙ whole)

  token_is : (goal : Goal) → token_at goal (c ∷ cs) ≡ Ok (name (c ∷ take k cs), drop k cs)
  unfolding token_at
  token_is goal =
      cond-false (suc (length cs) == 0) _ _ (eqb-suc-zero (length cs))
      ∙ cond-true (begins_name (c ∷ cs)) _ _ (ap is_some (start_is c cs starts)) ∙ ap Ok front_named

name_by : (goal : Goal) (c : ℕ) (cs : List ℕ) (n : ℕ) → n ≡ prefix_len is_plain_part (c ∷ cs) → is_plain_start c ≡ true → is_plain_end (get_or (c ∷ cs) n 0) ≡ true
    → token_at goal (c ∷ cs) ≡ Ok (name (take n (c ∷ cs)), drop n (c ∷ cs))
name_by goal c cs n is starts ends =
    let len : n ≡ suc (prefix_len is_plain_part cs) = is ∙ cond-true (is_plain_part c) (1 + prefix_len is_plain_part cs) 0 (start_part c starts) ∙ one_more (prefix_len is_plain_part cs) in
    let ended : is_plain_end (get_or cs (prefix_len is_plain_part cs) 0) ≡ true = ap (λ m. is_plain_end (get_or (c ∷ cs) m 0)) (sym len) ∙ ends in
    token_is c cs starts ended goal ∙ ap (λ m. Ok (name (take m (c ∷ cs)), drop m (c ∷ cs))) (sym len)

pub name_is : (goal : Goal) (text : List ℕ) (n : ℕ) → n ≡ prefix_len is_plain_part text → is_plain_start (get_or text 0 0) ≡ true → is_plain_end (get_or text n 0) ≡ true
    → token_at goal text ≡ Ok (name (take n text), drop n text)
name_is goal [] n is starts ends = absurd (cc)
name_is goal (c ∷ cs) n is starts ends = name_by goal c cs n is starts ends

-- ---- punctuators

swapped : (c d : ℕ) → (c == d) ≡ false → (d == c) ≡ false
swapped c d ne = grind (arith, nat_tests)

second_by : (d e : ℕ) (cs more : List ℕ) → (get_or cs 0 0 == e) ≡ false → starts_with nat_eq (d ∷ cs) (d ∷ e ∷ more) ≡ false
second_by d e [] more h = and_right (d == d) _ refl
second_by d e (c ∷ cs) more h = and_right (d == d) _ (and_left (e == c) _ (swapped c e h))

module _ (goal : Goal) (cs : List ℕ) where
  not_empty : (suc (length cs) == 0) ≡ false
  not_empty = eqb-suc-zero (length cs)

  left_paren : token_at goal (40 ∷ cs) ≡ Ok (punctuator mark.LeftParen, cs)
  unfolding token_at name_character point_of is_name_start sign_at mark_among begins_mark
  left_paren = cond-false (suc (length cs) == 0) _ _ not_empty

  right_paren : token_at goal (41 ∷ cs) ≡ Ok (punctuator mark.RightParen, cs)
  unfolding token_at name_character point_of is_name_start sign_at mark_among begins_mark
  right_paren = cond-false (suc (length cs) == 0) _ _ not_empty

  comma : token_at goal (44 ∷ cs) ≡ Ok (punctuator mark.Comma, cs)
  unfolding token_at name_character point_of is_name_start sign_at mark_among begins_mark
  comma = cond-false (suc (length cs) == 0) _ _ not_empty

  semicolon : token_at goal (59 ∷ cs) ≡ Ok (punctuator mark.Semicolon, cs)
  unfolding token_at name_character point_of is_name_start sign_at mark_among begins_mark
  semicolon = cond-false (suc (length cs) == 0) _ _ not_empty

  left_brace : token_at goal (123 ∷ cs) ≡ Ok (punctuator mark.LeftBrace, cs)
  unfolding token_at name_character point_of is_name_start sign_at mark_among begins_mark
  left_brace = cond-false (suc (length cs) == 0) _ _ not_empty

  colon : token_at goal (58 ∷ cs) ≡ Ok (punctuator mark.Colon, cs)
  unfolding token_at name_character point_of is_name_start sign_at mark_among begins_mark
  colon = cond-false (suc (length cs) == 0) _ _ not_empty

  left_bracket : token_at goal (91 ∷ cs) ≡ Ok (punctuator mark.LeftBracket, cs)
  unfolding token_at name_character point_of is_name_start sign_at mark_among begins_mark
  left_bracket = cond-false (suc (length cs) == 0) _ _ not_empty

  right_bracket : token_at goal (93 ∷ cs) ≡ Ok (punctuator mark.RightBracket, cs)
  unfolding token_at name_character point_of is_name_start sign_at mark_among begins_mark
  right_bracket = cond-false (suc (length cs) == 0) _ _ not_empty

  right_brace_by : (b : Bool) → has_template_tail goal ≡ b → b ≡ false → token_at goal (125 ∷ cs) ≡ Ok (punctuator mark.RightBrace, cs)
  unfolding token_at name_character point_of is_name_start sign_at mark_among begins_mark
  right_brace_by b is none = cond-false (suc (length cs) == 0) _ _ not_empty ∙ cond-false (has_template_tail goal) _ _ (is ∙ none)

  -- the second byte is another than that of each longer one
  other_second : (d e : ℕ) (more : List ℕ) → (get_or cs 0 0 == e) ≡ false → starts_with nat_eq (d ∷ cs) (d ∷ e ∷ more) ≡ false
  other_second d e more h = second_by d e cs more h

  dot : (get_or cs 0 0 == 46 || is_ascii_digit (get_or cs 0 0)) ≡ false → token_at goal (46 ∷ cs) ≡ Ok (punctuator mark.Dot, cs)
  unfolding token_at name_character point_of is_name_start sign_at mark_among begins_mark
  dot h =
      let parts = or_parts _ _ h in
      cond-false (suc (length cs) == 0) _ _ not_empty
      ∙ cond-false (is_ascii_digit (get_or cs 0 0)) _ _ parts.1
      ∙ cond-false (starts_with nat_eq (46 ∷ cs) (codes "...") && true) _ _ (and_left _ true (other_second 46 46 (46 ∷ []) parts.0))

  assign : (get_or cs 0 0 == 61 || get_or cs 0 0 == 62) ≡ false → token_at goal (61 ∷ cs) ≡ Ok (punctuator mark.Assign, cs)
  unfolding token_at name_character point_of is_name_start sign_at mark_among begins_mark
  assign h =
      let parts = or_parts _ _ h in
      cond-false (suc (length cs) == 0) _ _ not_empty
      ∙ cond-false (starts_with nat_eq (61 ∷ cs) (codes "===") && true) _ _ (and_left _ true (other_second 61 61 (61 ∷ []) parts.0))
      ∙ cond-false (starts_with nat_eq (61 ∷ cs) (codes "=>") && true) _ _ (and_left _ true (other_second 61 62 [] parts.1))
      ∙ cond-false (starts_with nat_eq (61 ∷ cs) (codes "==") && true) _ _ (and_left _ true (other_second 61 61 [] parts.0))

  abbrev Is : ℕ → Mark → Type 0
  Is c m = token_at goal (c ∷ cs) ≡ Ok (punctuator m, cs)

  same : (k : ℕ) (n m : Mark) → Is k n → Some n ≡ Some m → Is k m
  same k n m is e = let s : n ≡ m = cc in is ∙ ap (λ x. Ok (punctuator x, cs)) s

  unless : (k : ℕ) (b : Bool) (n m : Mark) → (b ≡ false → Is k n) → cond b None (Some n) ≡ Some m → Is k m
  unless k true n m is e = absurd (cc)
  unless k false n m is e = same k n m (is refl) e

  row_by : (b : Bool) (c k : ℕ) (here rest : Option Mark) (m : Mark) → (c == k) ≡ b → (here ≡ Some m → Is k m) → (rest ≡ Some m → Is c m) → cond b here rest ≡ Some m → Is c m
  row_by true c k here rest m is at more e = ap (λ x. token_at goal (x ∷ cs)) (eqb-true c k is) ∙ at e
  row_by false c k here rest m is at more e = more e

  row : (c k : ℕ) (here rest : Option Mark) (m : Mark) → (here ≡ Some m → Is k m) → (rest ≡ Some m → Is c m) → cond (c == k) here rest ≡ Some m → Is c m
  row c k here rest m at more e = row_by (c == k) c k here rest m refl at more e

  sole : (c k : ℕ) (n : Mark) (rest : Option Mark) (m : Mark) → Is k n → (rest ≡ Some m → Is c m) → cond (c == k) (Some n) rest ≡ Some m → Is c m
  sole c k n rest m is more e = row c k (Some n) rest m (same k n m is) more e

  lone_is : (c : ℕ) (m : Mark) → lone_mark goal c (get_or cs 0 0) ≡ Some m → Is c m
  lone_is c m =
      sole c 40 mark.LeftParen _ m left_paren
      (sole c 41 mark.RightParen _ m right_paren
      (row c 46 _ _ m (unless 46 (get_or cs 0 0 == 46 || is_ascii_digit (get_or cs 0 0)) mark.Dot m dot)
      (sole c 44 mark.Comma _ m comma
      (sole c 59 mark.Semicolon _ m semicolon
      (row c 61 _ _ m (unless 61 (get_or cs 0 0 == 61 || get_or cs 0 0 == 62) mark.Assign m assign)
      (sole c 123 mark.LeftBrace _ m left_brace
      (row c 125 _ _ m (unless 125 (has_template_tail goal) mark.RightBrace m (right_brace_by (has_template_tail goal) refl))
      (sole c 58 mark.Colon _ m colon
      (sole c 91 mark.LeftBracket _ m left_bracket
      (sole c 93 mark.RightBracket None m right_bracket (λ e. absurd (cc))))))))))))

lone_nothing : (goal : Goal) → lone_mark goal 0 0 ≡ None
lone_nothing goal = refl

pub mark_is : (goal : Goal) (text : List ℕ) (o : Option Mark) → o ≡ lone_mark goal (get_or text 0 0) (get_or text 1 0) → IfSome o (λ m. token_at goal text ≡ Ok (punctuator m, drop 1 text))
mark_is goal text None e = tt
mark_is goal [] (Some m) e = absurd (cc (lone_nothing goal))
mark_is goal (c ∷ cs) (Some m) e = lone_is goal cs c m (sym e)

pub mark_some : (goal : Goal) (text : List ℕ) (o : Option Mark) → o ≡ lone_mark goal (get_or text 0 0) (get_or text 1 0) → IfSome o (λ m. 0 < length text)
mark_some goal text None e = tt
mark_some goal [] (Some m) e = absurd (cc (lone_nothing goal))
mark_some goal (c ∷ cs) (Some m) e = omega arith

-- ---- blanks

module _ (comments : Comments) (ended : Bool) where
  space : (cs : List ℕ) → skip_piece comments ended (32 ∷ cs) ≡ past ended cs
  unfolding skip_piece begins_line_end is_space point_of
  space cs = refl

  tab : (cs : List ℕ) → skip_piece comments ended (9 ∷ cs) ≡ past ended cs
  unfolding skip_piece begins_line_end is_space point_of
  tab cs = refl

  line_feed : (cs : List ℕ) → skip_piece comments ended (10 ∷ cs) ≡ past true cs
  unfolding skip_piece begins_line_end after_line_end
  line_feed cs = refl

  or_false : (b : Bool) → (b || false) ≡ b
  or_false true = refl
  or_false false = refl

  or_true : (b : Bool) → (b || true) ≡ true
  or_true true = refl
  or_true false = refl

  no_line : (c k : ℕ) (cs : List ℕ) → c ≡ k → (k == 10) ≡ false → past ended cs ≡ past (ended || c == 10) cs
  no_line c k cs is other = ap (λ b. past b cs) (sym (ap (λ b. ended || b) (ap (λ x. x == 10) is ∙ other) ∙ or_false ended))

  line : (c : ℕ) (cs : List ℕ) → c ≡ 10 → past true cs ≡ past (ended || c == 10) cs
  line c cs is = ap (λ b. past b cs) (sym (ap (λ x. ended || x == 10) is ∙ or_true ended))

  blank_by : (x y z : Bool) (c : ℕ) (cs : List ℕ) → (c == 32) ≡ x → (c == 10) ≡ y → (c == 9) ≡ z → (x || (y || z)) ≡ true → skip_piece comments ended (c ∷ cs) ≡ past (ended || c == 10) cs
  blank_by true y z c cs p q r h =
      let is : c ≡ 32 = eqb-true c 32 p in
      ap (λ x. skip_piece comments ended (x ∷ cs)) is ∙ space cs ∙ no_line c 32 cs is refl
  blank_by false true z c cs p q r h =
      let is : c ≡ 10 = eqb-true c 10 q in
      ap (λ x. skip_piece comments ended (x ∷ cs)) is ∙ line_feed cs ∙ line c cs is
  blank_by false false true c cs p q r h =
      let is : c ≡ 9 = eqb-true c 9 r in
      ap (λ x. skip_piece comments ended (x ∷ cs)) is ∙ tab cs ∙ no_line c 9 cs is refl
  blank_by false false false c cs p q r h = absurd (cc)

  blank_character : (c : ℕ) (cs : List ℕ) → is_plain_blank c ≡ true → skip_piece comments ended (c ∷ cs) ≡ past (ended || c == 10) cs
  blank_character c cs h = blank_by (c == 32) (c == 10) (c == 9) c cs refl refl refl h

pub blank_is : (comments : Comments) (ended : Bool) (text : List ℕ) → is_plain_blank (get_or text 0 0) ≡ true → skip_piece comments ended text ≡ past (ended || get_or text 0 0 == 10) (drop 1 text)
blank_is comments ended [] h = absurd (cc)
blank_is comments ended (c ∷ cs) h = blank_character comments ended c cs h

pub blank_step : (comments : Comments) (ended : Bool) (text : List ℕ) (i : ℕ) → i < length text → is_plain_blank (get_or text i 0) ≡ true
    → blank comments ended (drop i text) ≡ blank comments (ended || get_or text i 0 == 10) (drop (i + 1) text)
blank_step comments ended text i within h =
    let c = get_or text i 0 in
    let cs = drop (i + 1) text in
    ap (blank comments ended) (drop_more text i 0 within)
    ∙ blank_from_past (suc (length cs)) (length cs) comments ended (ended || c == 10) (c ∷ cs) cs refl (blank_character comments ended c cs h)

-- ---- what is no blank

module _ (c : ℕ) (h : is_plain_stop c ≡ true) where
  is_above : 32 < c
  is_above = grind (arith, nat_tests)

  is_below : nat_lt c 128 ≡ true
  is_below = grind (arith, nat_tests)

  other : (k : ℕ) → k ≤ 32 → (c == k) ≡ false
  other k low = let above = is_above in grind (arith, nat_tests)

  no_slash : (c == 47) ≡ false
  no_slash = grind (arith, nat_tests)

  no_less : (c == 60) ≡ false
  no_less = grind (arith, nat_tests)

  no_minus : (c == 45) ≡ false
  no_minus = grind (arith, nat_tests)

  no_separator : (c == 0xE2) ≡ false
  no_separator = grind (arith, nat_tests)

  no_line_end : (cs : List ℕ) → begins_line_end (c ∷ cs) ≡ false
  unfolding begins_line_end
  no_line_end cs = or_from _ _ (or_from _ _ (other 10 (omega arith)) (other 13 (omega arith))) (and_left _ _ (and_left _ _ no_separator))

  no_space_itself : is_space c ≡ false
  unfolding is_space
  no_space_itself =
      cond-true (nat_lt c 128) _ _ is_below
      ∙ or_from _ _ (or_from _ _ (other 32 (omega arith)) (other 9 (omega arith))) (or_from _ _ (other 11 (omega arith)) (other 12 (omega arith)))

  no_space : (cs : List ℕ) → is_space (point (c ∷ cs)) ≡ false
  no_space cs = ap is_space (point_small c cs is_below) ∙ no_space_itself

  other_first : (d : ℕ) (cs more : List ℕ) → (c == d) ≡ false → starts_with nat_eq (c ∷ cs) (d ∷ more) ≡ false
  other_first d cs more ne = and_left (d == c) _ (swapped c d ne)

  no_comment : (comments : Comments) (ended : Bool) (cs : List ℕ) → begins_line_comment comments ended (c ∷ cs) ≡ false
  no_comment comments ended cs =
      or_from _ _ (other_first 47 cs (47 ∷ []) no_slash)
      (and_right _ _ (or_from _ _ (other_first 60 cs (33 ∷ 45 ∷ 45 ∷ []) no_less) (and_right _ _ (other_first 45 cs (45 ∷ 62 ∷ []) no_minus))))

  no_piece : (comments : Comments) (ended : Bool) (cs : List ℕ) → skip_piece comments ended (c ∷ cs) ≡ stop
  unfolding skip_piece
  no_piece comments ended cs =
      cond-false (begins_line_end (c ∷ cs)) _ _ (no_line_end cs)
      ∙ cond-false (is_space (point (c ∷ cs))) _ _ (no_space cs)
      ∙ cond-false (begins_line_comment comments ended (c ∷ cs)) _ _ (no_comment comments ended cs)
      ∙ cond-false (starts_with nat_eq (c ∷ cs) (codes "/*")) _ _ (other_first 47 cs (42 ∷ []) no_slash)

pub stop_is : (comments : Comments) (ended : Bool) (text : List ℕ) → is_plain_stop (get_or text 0 0) ≡ true → skip_piece comments ended text ≡ stop
stop_is comments ended [] h = absurd (cc)
stop_is comments ended (c ∷ cs) h = no_piece c h comments ended cs

pub blank_stop : (comments : Comments) (ended : Bool) (text : List ℕ) → is_plain_stop (get_or text 0 0) ≡ true → blank comments ended text ≡ Some (ended, text)
blank_stop comments ended [] h = absurd (cc)
blank_stop comments ended (c ∷ cs) h = blank_from_stop (suc (length cs)) (length cs) comments ended (c ∷ cs) refl (no_piece c h comments ended cs)
