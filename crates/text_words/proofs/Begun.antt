-- The token of a text that begins with a sign.
use Rattle.std.proofs.Common.{◌≡◌, ap, ◌∙◌, ℕ, ◌==◌, true, false, cond, List, [], ◌∷◌, length, Ok}
use lib.Dec.{eqb-suc-zero}
use Rattle.text_characters.specs.Characters.{point_of, is_name_start}
use Rattle.text_lexer.specs.declared.token.Goal.{Goal}
use Rattle.text_lexer.specs.declared.token.Goal.TheVariants as goal
use Rattle.text_lexer.specs.Tokens.{hashbang, end}
use Rattle.text_lexer.specs.Names.{begins_name, name_at, name_character, up_to}
use Rattle.text_lexer.specs.Numbers.{begins_number, number_at}
use Rattle.text_lexer.specs.Blanks.{line_rest}
use Rattle.text_lexer.specs.Lexical.{token_at, sign_at}
use Rattle.text_lexer.specs.Literals.{regex_behind, template_before, template_rest}
use Rattle.text_words.specs.Words.{alone, is_hashbang, is_hashbang_token}

begun : (g : Goal) (c : ℕ) (cs : List ℕ)
    → token_at g (c ∷ cs) ≡ cond (begins_name (c ∷ cs)) (Ok (name_at (c ∷ cs))) (cond (begins_number (c ∷ cs)) (number_at (c ∷ cs)) (sign_at g (c ∷ cs)))
unfolding token_at
begun g c cs =
    ap (λ b. cond b (Ok (end, [])) (cond (begins_name (c ∷ cs)) (Ok (name_at (c ∷ cs))) (cond (begins_number (c ∷ cs)) (number_at (c ∷ cs)) (sign_at g (c ∷ cs))))) (eqb-suc-zero (length cs))

-- a slash where a regular expression may stand
pub begun_regex : (inner : List ℕ) → token_at goal.RegExp (47 ∷ inner) ≡ regex_behind inner
unfolding sign_at name_character point_of is_name_start
begun_regex inner = begun goal.RegExp 47 inner

pub begun_template : (inner : List ℕ) → token_at goal.Div (96 ∷ inner) ≡ template_before true inner (template_rest false inner)
unfolding sign_at name_character point_of is_name_start
begun_template inner = begun goal.Div 96 inner

begun_hashbang : (text : List ℕ) → token_at goal.HashbangOrRegExp (35 ∷ 33 ∷ text) ≡ Ok (hashbang (up_to text (line_rest text)), line_rest text)
unfolding sign_at name_character point_of is_name_start
begun_hashbang text = begun goal.HashbangOrRegExp 35 (33 ∷ text)

pub hashbang_is : (text : List ℕ) → is_hashbang text ≡ (length (line_rest text) == 0)
hashbang_is text = ap (alone is_hashbang_token) (begun_hashbang text)
