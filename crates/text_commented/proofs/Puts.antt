-- Comments put at places, one after another.
use Rattle.std.proofs.Common.{◌≡◌, ℕ, ◌+◌, ◌-◌, ◌<◌, ◌≤◌, suc, Bool, true, false, List, [], ◌∷◌, ◌++◌, length, map, drop, take, get_or, slice_set, Some, refl, sym, ap, subst, arith, ◌∙◌}
use Rattle.std.proofs.lemmas.List.{append_assoc, append-nil, drop_more, drop_all, map-append}
use Rattle.std.specs.List.{slice_get}
use Rattle.text_commented.specs.declared.remark.At.{At}
use Rattle.text_commented.specs.declared.remark.Placed as placed_code
use Rattle.text_commented.specs.declared.remark.Remark.{Remark}
use Rattle.text_commented.specs.Commented.{ArePut, PutsAmong, Stands, remark, token}
use Rattle.text_commented.specs.Places.{places}
use Rattle.text_commented.specs.Steps.{IsBehind, Placed, PutsAt, PutsBehind, PutsFrom, behind_all, merged, placed_at, placed_view}
use Rattle.text_pieces.specs.declared.piece.Piece as code
use Rattle.text_pieces.specs.Tokens.{Piece, piece_view}

-- none is put
pub none_from : (rs : List Remark) (a : At) (before from : ℕ) (used : List Bool) (placed : List Placed) → PutsFrom rs a before from used placed used placed from
none_from rs a before from used placed = record { numbers = []; is = sym (append-nil placed); are = refl; next = refl }

pub none_there : (rs : List Remark) (a : At) (before : ℕ) (used : List Bool) (placed : List Placed) → PutsAt rs a before used placed used placed
none_there rs a before used placed = record { numbers = []; is = sym (append-nil placed); are = refl }

pub none_behind : (rs : List Remark) (before : ℕ) (used : List Bool) (placed : List Placed) → PutsBehind rs [] before used placed used placed
none_behind rs before used placed = record { numbers = []; is = sym (append-nil placed); are = (refl, refl) }

-- one is put
pub one_from : (rs : List Remark) (a : At) (before from : ℕ) (used : List Bool) (placed : List placed_code.Placed) (r : placed_code.Placed) (n : ℕ) → placed_view r ≡ placed_at before n → from ≤ n → slice_get used n ≡ Some false
    → Stands (slice_get rs n) a → PutsFrom rs a before from used (map placed_view placed) (slice_set used n true) (map placed_view (placed ++ r ∷ [])) (n + 1)
one_from rs a before from used placed r n is rises free stands = record {
  numbers = n ∷ [];
  is = map-append placed_view placed (r ∷ []) ∙ ap (λ x. map placed_view placed ++ x ∷ []) is;
  are = (rises, free, stands, refl);
  next = refl;
}

are_put_then : (rs : List Remark) (a : At) (from mid : ℕ) (used next now : List Bool) (ns ms : List ℕ) → ArePut rs a from used ns next → behind_all from ns ≡ mid → ArePut rs a mid next ms now
    → ArePut rs a from used (ns ++ ms) now
are_put_then rs a from mid used next now [] ms same is after = subst (λ u. ArePut rs a from u ms now) same (subst (λ f. ArePut rs a f next ms now) (sym is) after)
are_put_then rs a from mid used next now (n ∷ ns) ms (rises, free, stands, more) is after =
    (rises, free, stands, are_put_then rs a (n + 1) mid (slice_set used n true) next now ns ms more is after)

behind_then : (from : ℕ) (ns ms : List ℕ) → behind_all from (ns ++ ms) ≡ behind_all (behind_all from ns) ms
behind_then from [] ms = refl
behind_then from (n ∷ ns) ms = behind_then (n + 1) ns ms

-- those that are put behind so many pieces, and others
made_then : (before : ℕ) (placed made all : List Placed) (ns ms : List ℕ) → made ≡ placed ++ map (placed_at before) ns → all ≡ made ++ map (placed_at before) ms → all ≡ placed ++ map (placed_at before) (ns ++ ms)
made_then before placed made all ns ms one more =
    more ∙ ap (λ l. l ++ map (placed_at before) ms) one ∙ append_assoc placed (map (placed_at before) ns) (map (placed_at before) ms)
    ∙ ap (λ l. placed ++ l) (sym (map-append (placed_at before) ns ms))

-- some are put, and then others there
pub put_then : (rs : List Remark) (a : At) (before from mid to : ℕ) (used next now : List Bool) (placed made all : List Placed) → PutsFrom rs a before from used placed next made mid → PutsFrom rs a before mid next made now all to
    → PutsFrom rs a before from used placed now all to
put_then rs a before from mid to used next now placed made all one more = record {
  numbers = one.numbers ++ more.numbers;
  is = made_then before placed made all one.numbers more.numbers one.is more.is;
  are = are_put_then rs a from mid used next now one.numbers more.numbers one.are one.next more.are;
  next = behind_then from one.numbers more.numbers ∙ ap (λ f. behind_all f more.numbers) one.next ∙ more.next;
}

-- all that are put at a place have been
pub put_there : (rs : List Remark) (a : At) (before : ℕ) (used now : List Bool) (placed made : List Placed) (to : ℕ) → PutsFrom rs a before 0 used placed now made to → PutsAt rs a before used placed now made
put_there rs a before used now placed made to puts = record { numbers = puts.numbers; is = puts.is; are = puts.are }

-- at the only place of a piece
pub put_at_one : (rs : List Remark) (a : At) (before : ℕ) (used now : List Bool) (placed made : List Placed) → PutsAt rs a before used placed now made → PutsBehind rs (a ∷ []) before used placed now made
put_at_one rs a before used now placed made puts =
    record { numbers = puts.numbers; is = puts.is; are = (puts.numbers, now, [], sym (append-nil (map remark puts.numbers)), puts.are, (refl, refl)) }

-- at both places of a piece
pub put_at_both : (rs : List Remark) (a b : At) (before : ℕ) (used next now : List Bool) (placed made all : List Placed) → PutsAt rs a before used placed next made → PutsAt rs b before next made now all
    → PutsBehind rs (a ∷ b ∷ []) before used placed now all
put_at_both rs a b before used next now placed made all one more = record {
  numbers = one.numbers ++ more.numbers;
  is = made_then before placed made all one.numbers more.numbers one.is more.is;
  are = (
    one.numbers,
    next,
    map remark more.numbers,
    map-append remark one.numbers more.numbers,
    one.are,
    (more.numbers, now, [], sym (append-nil (map remark more.numbers)), more.are, (refl, refl)),
  );
}

-- those that are put right there come first
merged_here : (at : ℕ) (ps : List Piece) (ns : List ℕ) (more : List Placed) → merged at ps (map (placed_at at) ns ++ more) ≡ map remark ns ++ merged at ps more
merged_here at ps [] more = refl
merged_here at ps (n ∷ ns) more =
    let none : at - at ≡ 0 = omega arith in
    ap (λ k. map token (take k ps) ++ remark n ∷ merged at (drop k ps) (map (placed_at at) ns ++ more)) none ∙ ap (λ l. remark n ∷ l) (merged_here at ps ns more)

-- before those that are put behind it, the first piece does
merged_token : (at : ℕ) (p : Piece) (ps : List Piece) (placed : List Placed) → IsBehind (at + 1) placed → merged at (p ∷ ps) placed ≡ token p ∷ merged (at + 1) ps placed
merged_token at p ps [] behind = refl
merged_token at p ps (r ∷ more) behind =
    let least : at + 1 ≤ r.0 = behind in
    let one : r.0 - at ≡ suc (r.0 - (at + 1)) = omega arith in
    ap (λ k. map token (take k (p ∷ ps)) ++ remark r.1 ∷ merged r.0 (drop k (p ∷ ps)) more) one

behind_those : (at : ℕ) (ns : List ℕ) (more : List Placed) → IsBehind at more → IsBehind at (map (placed_at at) ns ++ more)
behind_those at [] more behind = behind
behind_those at (n ∷ ns) more behind = omega arith

behind_less : (at : ℕ) (placed : List Placed) → IsBehind (at + 1) placed → IsBehind at placed
behind_less at [] behind = tt
behind_less at (r ∷ more) behind = let least : at + 1 ≤ r.0 = behind in omega arith

-- one piece more, with the comments that are put behind it
merged_on : (at : ℕ) (p : Piece) (ps : List Piece) (ns : List ℕ) (more : List Placed) → IsBehind (at + 1) more
    → merged at (p ∷ ps) (map (placed_at (at + 1)) ns ++ more) ≡ token p ∷ (map remark ns ++ merged (at + 1) ps more)
merged_on at p ps ns more behind =
    merged_token at p ps (map (placed_at (at + 1)) ns ++ more) (behind_those (at + 1) ns more behind) ∙ ap (λ l. token p ∷ l) (merged_here (at + 1) ps ns more)

pub one_piece : (rs : List Remark) (start : List Bool) (all : List Piece) (ps : List code.Piece) (i : ℕ) (d : code.Piece) (placed made more : List Placed) (used next now : List Bool) → i < length ps
    → PutsBehind rs (places (piece_view (get_or ps i d))) (i + 1) used placed next made → IsBehind (i + 1) more
    → PutsAmong rs next (map piece_view (drop (i + 1) ps)) (merged (i + 1) (map piece_view (drop (i + 1) ps)) more) now
    → ((m : List Placed) (n : List Bool) → IsBehind i m → PutsAmong rs used (map piece_view (drop i ps)) (merged i (map piece_view (drop i ps)) m) n → PutsAmong rs start all (merged 0 all (placed ++ m)) n)
    → PutsAmong rs start all (merged 0 all (made ++ more)) now
one_piece rs start all ps i d placed made more used next now within puts behind after step =
    let p = piece_view (get_or ps i d) in
    let rest = map piece_view (drop (i + 1) ps) in
    let ns = puts.numbers in
    let put = map (placed_at (i + 1)) ns ++ more in
    let one : PutsAmong rs used (p ∷ rest) (merged i (p ∷ rest) put) now = (map remark ns, next, merged (i + 1) rest more, merged_on i p rest ns more behind, puts.are, after) in
    let here = subst (λ l. PutsAmong rs used (map piece_view l) (merged i (map piece_view l) put) now) (sym (drop_more ps i d within)) one in
    let same : made ++ more ≡ placed ++ put = ap (λ l. l ++ more) puts.is ∙ append_assoc placed (map (placed_at (i + 1)) ns) more in
    subst (λ l. PutsAmong rs start all (merged 0 all l) now) (sym same) (step put now (behind_less i put (behind_those (i + 1) ns more behind)) here)

-- no piece is left
pub all_put : (rs : List Remark) (start : List Bool) (all : List Piece) (ps : List code.Piece) (i : ℕ) (placed : List Placed) (used : List Bool) → length ps ≤ i
    → ((m : List Placed) (n : List Bool) → IsBehind i m → PutsAmong rs used (map piece_view (drop i ps)) (merged i (map piece_view (drop i ps)) m) n → PutsAmong rs start all (merged 0 all (placed ++ m)) n)
    → PutsAmong rs start all (merged 0 all placed) used
all_put rs start all ps i placed used none step =
    subst (λ l. PutsAmong rs start all (merged 0 all l) used) (append-nil placed)
    (step [] used tt (subst (λ l. PutsAmong rs used (map piece_view l) (merged i (map piece_view l) []) used) (sym (drop_all i ps none)) (refl, refl)))
