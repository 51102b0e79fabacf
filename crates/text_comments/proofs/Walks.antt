-- Blanks and tokens one after another: what one more turn makes of what is left.
use Rattle.std.proofs.Common.{◌≡◌, ℕ, suc, ◌+◌, ◌<◌, ◌≤◌, Bool, true, false, List, [], ◌∷◌, ◌++◌, length, map, drop, get_or, refl, sym, ap, subst, ◌∙◌, arith, nat_le}
use Rattle.std.proofs.lemmas.List.{append_assoc, append-nil, drop_more, drop_all}
use Rattle.std.proofs.lemmas.Bool.Decides.{nat_tests}
use Rattle.text_lexer.specs.declared.blank.Comments.{Comments}
use Rattle.text_lexer.specs.declared.token.Goal.{Goal}
use Rattle.text_lexer.specs.Blanks.{past, skip_piece, stop, unclosed}
use Rattle.text_follow.specs.Endings.{ending_behind}
use Rattle.text_follow.specs.Follows.{Takes, fresh_behind, goal_of}
use Rattle.text_pieces.specs.declared.item.Ending.{Ending}
use Rattle.text_pieces.specs.declared.piece.Piece as code
use Rattle.text_pieces.specs.Tokens.{piece_view}
use Rattle.text_comments.specs.Comments.{HasCommentsFrom, among, among_behind, before_token, before_tokens, behind_token, skipped}
use Rattle.text_comments.specs.declared.comment.Comment.{Comment}

-- nothing more is found
pub stopped : (found before left all : List Comment) → left ≡ [] → found ++ left ≡ before ++ all → found ≡ before ++ all
stopped found before left all none same = sym (append-nil found) ∙ ap (λ l. found ++ l) (sym none) ∙ same

-- some more is found
pub added : (found before left all now gone after : List Comment) → now ≡ found ++ gone → left ≡ gone ++ after → found ++ left ≡ before ++ all → now ++ after ≡ before ++ all
added found before left all now gone after is parts same =
    ap (λ l. l ++ after) is ∙ append_assoc found gone after ∙ ap (λ l. found ++ l) (sym parts) ∙ same

among_step : (n m : ℕ) (c : Comments) (whole : List ℕ) (t l : ℕ) (e : Bool) (text : List ℕ) → n ≡ suc m
    → among n c whole t l e text ≡ among_behind (among m c whole t l) (skipped whole t l text) (skip_piece c e text)
unfolding among
among_step n m c whole t l e text is = rw is refl

pub among_past : (n m : ℕ) (c : Comments) (whole : List ℕ) (t l : ℕ) (e now : Bool) (text rest : List ℕ) → n ≡ suc m → skip_piece c e text ≡ past now rest
    → among n c whole t l e text ≡ skipped whole t l text rest ++ among m c whole t l now rest
among_past n m c whole t l e now text rest is skip =
    among_step n m c whole t l e text is ∙ ap (among_behind (among m c whole t l) (skipped whole t l text)) skip

pub among_stop : (n m : ℕ) (c : Comments) (whole : List ℕ) (t l : ℕ) (e : Bool) (text : List ℕ) → n ≡ suc m → skip_piece c e text ≡ stop → among n c whole t l e text ≡ []
among_stop n m c whole t l e text is skip =
    among_step n m c whole t l e text is ∙ ap (among_behind (among m c whole t l) (skipped whole t l text)) skip

pub among_unclosed : (n m : ℕ) (c : Comments) (whole : List ℕ) (t l : ℕ) (e : Bool) (text : List ℕ) → n ≡ suc m → skip_piece c e text ≡ unclosed → among n c whole t l e text ≡ []
among_unclosed n m c whole t l e text is skip =
    among_step n m c whole t l e text is ∙ ap (among_behind (among m c whole t l) (skipped whole t l text)) skip

pub among_end : (n : ℕ) (c : Comments) (whole : List ℕ) (t l : ℕ) (e : Bool) (text : List ℕ) → n ≡ 0 → among n c whole t l e text ≡ []
unfolding among
among_end n c whole t l e text is = rw is refl

is_longer : (a b : ℕ) → b < a → nat_le a b ≡ false
is_longer a b h = grind (arith, nat_tests)

is_not_longer : (a b : ℕ) → a ≤ b → nat_le a b ≡ true
is_not_longer a b h = grind (arith, nat_tests)

tokens_step : (n m : ℕ) (c : Comments) (goal : Goal) (whole : List ℕ) (fresh : Bool) (text rest : List ℕ) → n ≡ suc m → length rest < length text
    → before_tokens n c goal whole fresh text rest ≡ before_token c whole fresh text ++ before_tokens m c goal whole false (behind_token c goal fresh text) rest
unfolding before_tokens
tokens_step n m c goal whole fresh text rest is more = rw (is, is_longer (length text) (length rest) more) refl

pub tokens_more : (n m : ℕ) (c : Comments) (goal : Goal) (whole : List ℕ) (fresh : Bool) (text rest left : List ℕ) → n ≡ suc m → length rest < length text
    → left ≡ behind_token c goal fresh text → before_tokens n c goal whole fresh text rest ≡ before_token c whole fresh text ++ before_tokens m c goal whole false left rest
tokens_more n m c goal whole fresh text rest left is more next = tokens_step n m c goal whole fresh text rest is more ∙ ap (λ l. before_token c whole fresh text ++ before_tokens m c goal whole false l rest) (sym next)

pub tokens_stop : (n m : ℕ) (c : Comments) (goal : Goal) (whole : List ℕ) (fresh : Bool) (text rest : List ℕ) → n ≡ suc m → length text ≤ length rest
    → before_tokens n c goal whole fresh text rest ≡ []
unfolding before_tokens
tokens_stop n m c goal whole fresh text rest is none = rw (is, is_not_longer (length text) (length rest) none) refl

pub tokens_end : (n : ℕ) (c : Comments) (goal : Goal) (whole : List ℕ) (fresh : Bool) (text rest : List ℕ) → n ≡ 0 → before_tokens n c goal whole fresh text rest ≡ []
unfolding before_tokens
tokens_end n c goal whole fresh text rest is = rw is refl

-- what is found before a piece, and what behind it
pub one_more : (c : Comments) (whole : List ℕ) (fresh now_fresh : Bool) (e now_e : Ending) (goal : Goal) (ps : List code.Piece) (i : ℕ) (d : code.Piece) (text rest : List ℕ) (more : List Comment) → i < length ps
    → Takes c true fresh e (piece_view (get_or ps i d)) text rest → goal ≡ goal_of (piece_view (get_or ps i d))
    → now_fresh ≡ fresh_behind fresh (piece_view (get_or ps i d)) → now_e ≡ ending_behind e (piece_view (get_or ps i d))
    → HasCommentsFrom c whole now_fresh now_e (map piece_view (drop (i + 1) ps)) rest more
    → HasCommentsFrom c whole fresh e (map piece_view (drop i ps)) text (before_tokens (length text) c goal whole fresh text rest ++ more)
one_more c whole fresh now_fresh e now_e goal ps i d text rest more within takes is_goal is_fresh is_ending after =
    let p = piece_view (get_or ps i d) in
    let ended = subst (λ (x : Ending). HasCommentsFrom c whole now_fresh x (map piece_view (drop (i + 1) ps)) rest more) is_ending after in
    let behind = subst (λ (f : Bool). HasCommentsFrom c whole f (ending_behind e p) (map piece_view (drop (i + 1) ps)) rest more) is_fresh ended in
    subst (λ l. HasCommentsFrom c whole fresh e (map piece_view l) text (before_tokens (length text) c goal whole fresh text rest ++ more)) (sym (drop_more ps i d within))
    (rest, more, takes, ap (λ g. before_tokens (length text) c g whole fresh text rest ++ more) is_goal, behind)

-- what is found behind the last piece
pub at_end : (c : Comments) (whole : List ℕ) (fresh : Bool) (e : Ending) (ps : List code.Piece) (i : ℕ) (text : List ℕ) → length ps ≤ i
    → HasCommentsFrom c whole fresh e (map piece_view (drop i ps)) text (before_token c whole fresh text)
at_end c whole fresh e ps i text none = subst (λ l. HasCommentsFrom c whole fresh e (map piece_view l) text (before_token c whole fresh text)) (sym (drop_all i ps none)) refl
