-- Lists of pieces held against each other.
use Rattle.std.proofs.Common.{◌≡◌, ◌≢◌, ℕ, zero, suc, ◌<◌, ◌+◌, ◌-◌, Bool, true, false, ◌&&◌, List, [], ◌∷◌, length, map, drop, get_or, Option, Some, None, refl, sym, ap, subst, ◌∙◌, arith, nat_eq}
use Rattle.std.proofs.lemmas.List.{drop_more, drop_all, length-map}
use Rattle.std.specs.Cmp.Lexicographic.{pointwise, unequal}
use Rattle.std.specs.Cmp.Lexicographic.{other_text as texts_differ}
use Rattle.text_lexer.specs.Marks.{spelling}
use Rattle.text_lexer.specs.declared.token.TemplatePart.{TemplatePart}
use Rattle.text_lexer.specs.declared.token.TemplatePart.TheVariants as part
use Rattle.text_pieces.specs.declared.piece.Gap.{Gap}
use Rattle.text_pieces.specs.declared.piece.Gap.TheVariants as line
use Rattle.text_pieces.specs.declared.piece.Piece as code
use Rattle.text_pieces.specs.Tokens.{Piece, attribute, big_integer, closes, ends, frame, gap, hashbang, here, may_braces, may_comma, may_from, name, never, number, parameter, piece_view, private_name, punctuator, quoted, regex, template, word}
use Rattle.text_edit.specs.Alike.{alike, begin_alike, is_same, new_name, other_text, same_gap, same_part, same_raw, same_text}

text_self : (a : List ℕ) → same_text a a ≡ true
text_self a = by (same_text a a) refl
  where
    by : (r : Bool) → r ≡ same_text a a → same_text a a ≡ true
    by true e = sym e
    by false e = absurd (texts_differ a a e refl)

both_true : (a b : Bool) → a ≡ true → b ≡ true → a && b ≡ true
both_true a b is also = rw (is, also) refl

raw_self : (a : Option (List ℕ)) → same_raw a a ≡ true
raw_self (Some a) = text_self a
raw_self None = refl

part_self : (p : TemplatePart) → same_part p p ≡ true
part_self part.Whole = refl
part_self part.Head = refl
part_self part.Middle = refl
part_self part.Tail = refl

gap_self : (g : Gap) → same_gap g g ≡ true
gap_self line.Line = refl
gap_self line.In = refl
gap_self line.Out = refl

alike_self : (p : Piece) → alike p p ≡ true
alike_self (word a) = text_self a
alike_self (name a) = refl
alike_self (private_name a) = text_self a
alike_self (punctuator m) = text_self (spelling m)
alike_self (number a) = text_self a
alike_self (big_integer a) = text_self a
alike_self (quoted a raw) = both_true _ _ (text_self a) (raw_self raw)
alike_self (template p a raw) = both_true _ _ (part_self p) (text_self raw)
alike_self (regex a flags) = both_true _ _ (text_self a) (text_self flags)
alike_self (hashbang a) = text_self a
alike_self (attribute key value) = both_true _ _ (text_self key) (text_self value)
alike_self may_comma = refl
alike_self may_from = refl
alike_self may_braces = refl
alike_self (parameter a) = refl
alike_self here = refl
alike_self (closes e) = refl
alike_self ends = refl
alike_self (gap g) = gap_self g
alike_self (frame f) = refl
alike_self never = refl

no_other : (a : List ℕ) → other_text a a ≡ None
no_other a = rw (text_self a) refl

named_self : (p : Piece) → new_name p p ≡ None
named_self (name a) = no_other a
named_self (parameter a) = no_other a
named_self (word a) = refl
named_self (private_name a) = refl
named_self (punctuator m) = refl
named_self (number a) = refl
named_self (big_integer a) = refl
named_self (quoted a raw) = refl
named_self (template p a raw) = refl
named_self (regex a flags) = refl
named_self (hashbang a) = refl
named_self (attribute key value) = refl
named_self may_comma = refl
named_self may_from = refl
named_self may_braces = refl
named_self here = refl
named_self (closes e) = refl
named_self ends = refl
named_self (gap g) = refl
named_self (frame f) = refl
named_self never = refl

one_self : (p : Piece) → is_same p p ≡ true
one_self p = rw (named_self p, alike_self p) refl

pub same_self : (ps : List Piece) → pointwise is_same ps ps ≡ true
same_self [] = refl
same_self (p ∷ ps) = rw (one_self p, same_self ps) refl

pub differ : (ps qs : List Piece) → pointwise is_same ps qs ≡ false → ps ≢ qs
differ ps qs h e = let so : pointwise is_same ps qs ≡ true = subst (λ l. pointwise is_same ps l ≡ true) e (same_self ps) in cc

pub same_more : (ps qs : List code.Piece) (i : ℕ) (d e : code.Piece) → i < length ps → i < length qs
    → pointwise is_same (map piece_view (drop i ps)) (map piece_view (drop i qs))
    ≡ is_same (piece_view (get_or ps i d)) (piece_view (get_or qs i e)) && pointwise is_same (map piece_view (drop (i + 1) ps)) (map piece_view (drop (i + 1) qs))
same_more ps qs i d e p q = rw (drop_more ps i d p, drop_more qs i e q) refl

pub same_end : (ps qs : List code.Piece) (i : ℕ) → i ≡ length ps → i ≡ length qs → pointwise is_same (map piece_view (drop i ps)) (map piece_view (drop i qs)) ≡ true
same_end ps qs i p q = rw (drop_all i ps (omega arith), drop_all i qs (omega arith)) refl

pub not_as_long : (ps qs : List code.Piece) → (length ps ≢ length qs) → pointwise is_same (map piece_view ps) (map piece_view qs) ≡ false
not_as_long ps qs differ = unequal is_same (map piece_view ps) (map piece_view qs) (λ e. differ (sym (length-map ps piece_view) ∙ e ∙ length-map qs piece_view))

pub no_pieces : (ps : List code.Piece) → length ps ≡ 0 → map piece_view ps ≡ []
no_pieces [] e = refl
no_pieces (p ∷ ps) e = absurd (omega arith)

pub first_and_rest : (ps : List code.Piece) (d : code.Piece) → 0 < length ps → map piece_view ps ≡ piece_view (get_or ps 0 d) ∷ map piece_view (drop 1 ps)
first_and_rest [] d some = absurd (omega arith)
first_and_rest (p ∷ ps) d some = refl

-- one piece more at the front
pub begin_more : (n : ℕ) (p q : Piece) (ps qs : List Piece) → 0 < n → begin_alike n (p ∷ ps) (q ∷ qs) ≡ alike p q && begin_alike (n - 1) ps qs
begin_more zero p q ps qs some = absurd (omega arith)
begin_more (suc n) p q ps qs some =
    let e : suc n - 1 ≡ n = omega arith in ap (λ k. alike p q && begin_alike k ps qs) (sym e)

-- the first piece of each tells whether one is alike
pub begin_first : (ps qs : List code.Piece) (d e : code.Piece) → 0 < length ps → 0 < length qs
    → begin_alike 1 (map piece_view ps) (map piece_view qs) ≡ alike (piece_view (get_or ps 0 d)) (piece_view (get_or qs 0 e))
begin_first [] qs d e some other = absurd (omega arith)
begin_first (p ∷ ps) [] d e some other = absurd (omega arith)
begin_first (p ∷ ps) (q ∷ qs) d e some other = by (alike (piece_view p) (piece_view q))
  where
    by : (b : Bool) → b && true ≡ b
    by true = refl
    by false = refl

pub begin_ended : (n : ℕ) → begin_alike n [] [] ≡ true
begin_ended zero = refl
begin_ended (suc n) = refl

pub old_ended : (n : ℕ) (q : Piece) (qs : List Piece) → 0 < n → begin_alike n [] (q ∷ qs) ≡ false
old_ended zero q qs some = absurd (omega arith)
old_ended (suc n) q qs some = refl

pub new_ended : (n : ℕ) (p : Piece) (ps : List Piece) → 0 < n → begin_alike n (p ∷ ps) [] ≡ false
new_ended zero p ps some = absurd (omega arith)
new_ended (suc n) p ps some = refl

pub parts_from_none : (ps qs : List Piece) → length ps ≡ 0 → 0 < length qs → begin_alike 3 ps qs ≡ false
parts_from_none [] (q ∷ qs) e some = refl
parts_from_none [] [] e some = absurd (omega arith)
parts_from_none (p ∷ ps) qs e some = absurd (omega arith)

pub parts_from_some : (ps qs : List Piece) → 0 < length ps → length qs ≡ 0 → begin_alike 3 ps qs ≡ false
parts_from_some (p ∷ ps) [] some e = refl
parts_from_some [] qs some e = absurd (omega arith)
parts_from_some (p ∷ ps) (q ∷ qs) some e = absurd (omega arith)

-- lists that begin with three that are alike begin with one
pub begin_one : (ps qs : List Piece) → begin_alike 3 ps qs ≡ true → begin_alike 1 ps qs ≡ true
begin_one [] [] h = h
begin_one (p ∷ ps) [] h = absurd (cc)
begin_one [] (q ∷ qs) h = absurd (cc)
begin_one (p ∷ ps) (q ∷ qs) h = by (alike p q) h
  where
    by : (b : Bool) → b && begin_alike 2 ps qs ≡ true → b && true ≡ true
    by true e = refl
    by false e = absurd (cc)

-- what differs in the first piece differs in the first three
pub parted : (ps qs : List Piece) → begin_alike 1 ps qs ≡ false → begin_alike 3 ps qs ≡ false
parted [] [] h = h
parted (p ∷ ps) [] h = refl
parted [] (q ∷ qs) h = refl
parted (p ∷ ps) (q ∷ qs) h = by (alike p q) h
  where
    by : (b : Bool) → b && true ≡ false → b && begin_alike 2 ps qs ≡ false
    by true e = absurd (cc)
    by false e = refl
