-- Walks a character or a unit at a time: what one more turn makes of what is left.
use Rattle.std.proofs.Common.{◌≡◌, ap, ◌∙◌, ℕ, suc, ◌||◌, ◌==◌, true, false, Bool, Some, None, Ok, Err, cond, List, length, drop, refl}
use Rattle.text_characters.specs.Characters.{first, point, behind, is_name_part}
use Rattle.text_strings.specs.declared.escape.Reading.TheVariants.{Quoted}
use Rattle.text_strings.specs.declared.escape.Unit.{Unit}
use Rattle.text_strings.specs.Escapes.{next_unit}
use Rattle.text_lexer.specs.declared.blank.Comments.{Comments}
use Rattle.text_lexer.specs.declared.token.Fault.TheVariants.{Unterminated, BadEscape}
use Rattle.text_lexer.specs.Names.{name_character, name_behind, name_rest}
use Rattle.text_lexer.specs.Literals.{string_behind, string_rest, flags_rest}
use Rattle.text_lexer.specs.Blanks.{stop, past, unclosed, skip_piece, blank_behind, blank_from}

-- names
name_rest_step : (n m : ℕ) (rest : List ℕ) → n ≡ suc m → name_rest n rest ≡ name_behind (name_rest m) rest (name_character false rest)
unfolding name_rest
name_rest_step n m rest e = rw e refl

pub name_rest_more : (n m : ℕ) (rest left : List ℕ) → n ≡ suc m → name_character false rest ≡ Some left → name_rest n rest ≡ name_rest m left
name_rest_more n m rest left e is = name_rest_step n m rest e ∙ ap (name_behind (name_rest m) rest) is

pub name_rest_stop : (n m : ℕ) (rest : List ℕ) → n ≡ suc m → name_character false rest ≡ None → name_rest n rest ≡ rest
name_rest_stop n m rest e is = name_rest_step n m rest e ∙ ap (name_behind (name_rest m) rest) is

pub name_rest_end : (n : ℕ) (rest : List ℕ) → n ≡ 0 → name_rest n rest ≡ rest
unfolding name_rest
name_rest_end n rest e = rw e refl

-- flags
pub flags_rest_step : (n m : ℕ) (rest : List ℕ) → n ≡ suc m → flags_rest n rest ≡ cond (is_name_part (point rest)) (flags_rest m (behind rest)) rest
unfolding flags_rest
flags_rest_step n m rest e = rw e refl

pub flags_rest_more : (n m : ℕ) (rest : List ℕ) → n ≡ suc m → is_name_part (point rest) ≡ true → flags_rest n rest ≡ flags_rest m (behind rest)
flags_rest_more n m rest e part = rw (flags_rest_step n m rest e, part) refl

pub flags_rest_stop : (n m : ℕ) (rest : List ℕ) → n ≡ suc m → is_name_part (point rest) ≡ false → flags_rest n rest ≡ rest
flags_rest_stop n m rest e part = rw (flags_rest_step n m rest e, part) refl

pub flags_rest_end : (n : ℕ) (rest : List ℕ) → n ≡ 0 → flags_rest n rest ≡ rest
unfolding flags_rest
flags_rest_end n rest e = rw e refl

-- strings
pub string_rest_step : (n m quote : ℕ) (rest : List ℕ) → n ≡ suc m
    → string_rest n quote rest ≡ cond (length rest == 0) (Err Unterminated) (cond (first rest == quote) (Ok (drop 1 rest)) (cond (first rest == 10 || first rest == 13) (Err Unterminated) (string_behind (string_rest m quote) (next_unit Quoted rest))))
unfolding string_rest
string_rest_step n m quote rest e = rw e refl

pub string_rest_empty : (n m quote : ℕ) (rest : List ℕ) → n ≡ suc m → (length rest == 0) ≡ true → string_rest n quote rest ≡ Err Unterminated
string_rest_empty n m quote rest e empty = rw (string_rest_step n m quote rest e, empty) refl

pub string_rest_closed : (n m quote : ℕ) (rest : List ℕ) → n ≡ suc m → (length rest == 0) ≡ false → (first rest == quote) ≡ true
    → string_rest n quote rest ≡ Ok (drop 1 rest)
string_rest_closed n m quote rest e some closed = rw (string_rest_step n m quote rest e, some, closed) refl

pub string_rest_broken : (n m quote : ℕ) (rest : List ℕ) → n ≡ suc m → (length rest == 0) ≡ false → (first rest == quote) ≡ false
    → (first rest == 10 || first rest == 13) ≡ true → string_rest n quote rest ≡ Err Unterminated
string_rest_broken n m quote rest e some other broken = rw (string_rest_step n m quote rest e, some, other, broken) refl

string_rest_unit : (n m quote : ℕ) (rest : List ℕ) → n ≡ suc m → (length rest == 0) ≡ false → (first rest == quote) ≡ false
    → (first rest == 10 || first rest == 13) ≡ false → string_rest n quote rest ≡ string_behind (string_rest m quote) (next_unit Quoted rest)
string_rest_unit n m quote rest e some other whole = rw (string_rest_step n m quote rest e, some, other, whole) refl

pub string_rest_more : (n m quote : ℕ) (rest : List ℕ) (found : Unit × List ℕ) → n ≡ suc m → (length rest == 0) ≡ false → (first rest == quote) ≡ false
    → (first rest == 10 || first rest == 13) ≡ false → next_unit Quoted rest ≡ Some found → string_rest n quote rest ≡ string_rest m quote found.1
string_rest_more n m quote rest found e some other whole next =
    string_rest_unit n m quote rest e some other whole ∙ ap (string_behind (string_rest m quote)) next

pub string_rest_bad : (n m quote : ℕ) (rest : List ℕ) → n ≡ suc m → (length rest == 0) ≡ false → (first rest == quote) ≡ false
    → (first rest == 10 || first rest == 13) ≡ false → next_unit Quoted rest ≡ None → string_rest n quote rest ≡ Err BadEscape
string_rest_bad n m quote rest e some other whole next =
    string_rest_unit n m quote rest e some other whole ∙ ap (string_behind (string_rest m quote)) next

pub string_rest_end : (n quote : ℕ) (rest : List ℕ) → n ≡ 0 → string_rest n quote rest ≡ Err Unterminated
unfolding string_rest
string_rest_end n quote rest e = rw e refl

-- blanks
blank_from_step : (n m : ℕ) (comments : Comments) (ended : Bool) (rest : List ℕ) → n ≡ suc m
    → blank_from n comments ended rest ≡ blank_behind (blank_from m comments) ended rest (skip_piece comments ended rest)
unfolding blank_from
blank_from_step n m comments ended rest e = rw e refl

pub blank_from_past : (n m : ℕ) (comments : Comments) (ended now_ended : Bool) (rest left : List ℕ) → n ≡ suc m → skip_piece comments ended rest ≡ past now_ended left
    → blank_from n comments ended rest ≡ blank_from m comments now_ended left
blank_from_past n m comments ended now_ended rest left e is = blank_from_step n m comments ended rest e ∙ ap (blank_behind (blank_from m comments) ended rest) is

pub blank_from_stop : (n m : ℕ) (comments : Comments) (ended : Bool) (rest : List ℕ) → n ≡ suc m → skip_piece comments ended rest ≡ stop
    → blank_from n comments ended rest ≡ Some (ended, rest)
blank_from_stop n m comments ended rest e is = blank_from_step n m comments ended rest e ∙ ap (blank_behind (blank_from m comments) ended rest) is

pub blank_from_unclosed : (n m : ℕ) (comments : Comments) (ended : Bool) (rest : List ℕ) → n ≡ suc m → skip_piece comments ended rest ≡ unclosed
    → blank_from n comments ended rest ≡ None
blank_from_unclosed n m comments ended rest e is = blank_from_step n m comments ended rest e ∙ ap (blank_behind (blank_from m comments) ended rest) is

pub blank_from_end : (n : ℕ) (comments : Comments) (ended : Bool) (rest : List ℕ) → n ≡ 0 → blank_from n comments ended rest ≡ Some (ended, rest)
unfolding blank_from
blank_from_end n comments ended rest e = rw e refl
