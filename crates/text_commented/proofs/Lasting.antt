-- Comments that trail, each behind the last node that stops there.
use Rattle.std.proofs.Common.{◌≡◌, ℕ, zero, suc, ◌+◌, ◌-◌, ◌<◌, ◌≤◌, List, [], ◌∷◌, ◌++◌, Some, All, Contains, inl, inr, length, map, option_map, take, drop, get_or, slice_get, refl, sym, ap, subst, arith, ◌∙◌}
use Rattle.std.proofs.lemmas.Bool.{cases_lt}
use Rattle.std.proofs.lemmas.List.{append-nil, append_assoc, drop-drop, length-map, map_more, take-append-drop, take_all}
use Rattle.std.proofs.lemmas.List.Elements.{All-head, All-push, All-tail, Contains-append_cases}
use Rattle.std.proofs.lemmas.Option.{slice_get-get_or, slice_get-map, slice_get_within}
use Rattle.std.specs.BTreeMap.{BTreeMap, get}
use Rattle.std.specs.List.{flat_map}
use Rattle.std.specs.Ordering.{nat_cmp}
use Rattle.text_pieces.specs.declared.piece.Piece as code
use Rattle.text_pieces.specs.Tokens.{Piece, piece_view}
use Rattle.text_commented.specs.Commented.{AreLast, Item, Stands, places_in, remark, token}
use Rattle.text_commented.specs.Places.{places}
use Rattle.text_commented.specs.Steps.{AreListed, AreStopped, IsKept, IsNoted, NotesOf, Placed, StopsBefore, StopsIn, merged, placed_view}
use Rattle.text_commented.specs.declared.noted.Noted.{Noted}
use Rattle.text_commented.specs.declared.remark.At.{At}
use Rattle.text_commented.specs.declared.remark.At.TheVariants as stand
use Rattle.text_commented.specs.declared.remark.Placed as placed_code
use Rattle.text_commented.specs.declared.remark.Remark.{Remark}

-- ---- comments that are noted

no_trail : (n a : ℕ) → stand.Leads n ≡ stand.Trails a → ⊥
no_trail n a is = cc

trails_same : (n a : ℕ) → stand.Trails n ≡ stand.Trails a → n ≡ a
trails_same n a is = cc

pub leads_noted : (rs : List Remark) (s : Noted) (p : Placed) (r : Remark) (n : ℕ) → slice_get rs p.1 ≡ Some r → r.at ≡ stand.Leads n → NotesOf rs s s p
leads_noted rs s p r n is at = record {
  kept = λ a b h. h;
  noted = λ a stands. absurd (no_trail n a (sym at ∙ subst (λ o. Stands o (stand.Trails a)) is stands));
  listed = λ are. are;
}

pub trails_noted : (rs : List Remark) (old new : Noted) (p : Placed) (r : Remark) (n : ℕ) → slice_get rs p.1 ≡ Some r → r.at ≡ stand.Trails n → IsKept old.behind new.behind → get nat_cmp new.behind n ≡ Some p.0
    → (AreListed old → AreListed new) → NotesOf rs old new p
trails_noted rs old new p r n is at kept noted listed = record {
  kept = kept;
  noted = λ a stands. ap (get nat_cmp new.behind) (sym (trails_same n a (sym at ∙ subst (λ o. Stands o (stand.Trails a)) is stands))) ∙ noted;
  listed = listed;
}

all_kept : (rs : List Remark) (old new : BTreeMap ℕ ℕ) (ps : List Placed) → IsKept old new → All (IsNoted rs old) ps → All (IsNoted rs new) ps
all_kept rs old new ps kept all = λ i d within a stands. kept a _ (all i d within a stands)

pub noted_more : (rs : List Remark) (old new : Noted) (ps : List Placed) (p : Placed) → All (IsNoted rs old.behind) ps → NotesOf rs old new p → All (IsNoted rs new.behind) (ps ++ p ∷ [])
noted_more rs old new ps p all notes = All-push (IsNoted rs new.behind) ps p (all_kept rs old.behind new.behind ps notes.kept all) notes.noted

-- ---- nodes that stop

pub stops_here : (behind : BTreeMap ℕ ℕ) (n a : ℕ) → StopsBefore behind n a → StopsIn behind n (stand.Trails a ∷ [])
stops_here behind n a stops b (zero, within, is) = subst (StopsBefore behind n) (trails_same a b is) stops
stops_here behind n a stops b (suc k, within, is) = absurd (omega (arith, within))

pub none_stops_here : (behind : BTreeMap ℕ ℕ) (n l : ℕ) → StopsIn behind n (stand.Leads l ∷ [])
none_stops_here behind n l b (zero, within, is) = absurd (no_trail l b is)
none_stops_here behind n l b (suc k, within, is) = absurd (omega (arith, within))

pub one_stops_here : (behind : BTreeMap ℕ ℕ) (n l a : ℕ) → StopsBefore behind n a → StopsIn behind n (stand.Leads l ∷ stand.Trails a ∷ [])
one_stops_here behind n l a stops b (zero, within, is) = absurd (no_trail l b is)
one_stops_here behind n l a stops b (suc k, within, is) = stops_here behind n a stops b (k, omega (arith, within), is)

pub none_stops : (behind : BTreeMap ℕ ℕ) (n : ℕ) → StopsIn behind n []
none_stops behind n b (k, within, is) = absurd (omega (arith, within))

-- ---- the whole

last_tokens : (rs : List Remark) (ps : List Piece) (items : List Item) → AreLast rs items → AreLast rs (map token ps ++ items)
last_tokens rs [] items h = h
last_tokens rs (p ∷ ps) items h = last_tokens rs ps items h

places_tokens : (ps : List Piece) (items : List Item) → places_in (map token ps ++ items) ≡ flat_map places ps ++ places_in items
places_tokens [] items = refl
places_tokens (p ∷ ps) items = ap (λ l. places p ++ l) (places_tokens ps items) ∙ sym (append_assoc (places p) (flat_map places ps) (places_in items))

flat_append : (ps qs : List Piece) → flat_map places (ps ++ qs) ≡ flat_map places ps ++ flat_map places qs
flat_append [] qs = refl
flat_append (p ∷ ps) qs = ap (λ l. places p ++ l) (flat_append ps qs) ∙ sym (append_assoc (places p) (flat_map places ps) (flat_map places qs))

places_merged : (at : ℕ) (ps : List Piece) (placed : List Placed) → places_in (merged at ps placed) ≡ flat_map places ps
places_merged at ps [] = ap places_in (sym (append-nil (map token ps))) ∙ places_tokens ps [] ∙ append-nil (flat_map places ps)
places_merged at ps (r ∷ more) =
    let front = take (r.0 - at) ps in
    let rest = drop (r.0 - at) ps in
    places_tokens front (remark r.1 ∷ merged r.0 rest more) ∙ ap (λ l. flat_map places front ++ l) (places_merged r.0 rest more) ∙ sym (flat_append front rest) ∙ ap (flat_map places) (take-append-drop (r.0 - at) ps)

-- where a place is, behind so many pieces
abbrev IsPlaceOf : List Piece → ℕ → At → Type 0
IsPlaceOf all from x = (k : ℕ) × (p : Piece) × (from ≤ k) × (slice_get all k ≡ Some p) × Contains (places p) x

placed_in : (ps : List Piece) (x : At) → Contains (flat_map places ps) x → IsPlaceOf ps 0 x
placed_in [] x (k, within, is) = absurd (omega (arith, within))
placed_in (p ∷ ps) x among = elim (Contains-append_cases (places p) (flat_map places ps) x among) [
  | inl here ↦ (zero, p, omega arith, refl, here)
  | inr later ↦ let (k, q, low, at, there) = placed_in ps x later in (suc k, q, omega arith, at, there)
]

placed_behind : (all : List Piece) (from : ℕ) (x : At) → Contains (flat_map places (drop from all)) x → IsPlaceOf all from x
placed_behind all zero x among = placed_in all x among
placed_behind [] (suc from) x (k, within, is) = absurd (omega (arith, within))
placed_behind (p ∷ all) (suc from) x among =
    let (k, q, low, at, there) = placed_behind all from x among in
    (suc k, q, omega (arith, low), at, there)

last_merged : (rs : List Remark) (all : List Piece) (behind : BTreeMap ℕ ℕ) → ((n : ℕ) (p : Piece) → slice_get all n ≡ Some p → AreStopped behind n p) → (at from : ℕ) (ps : List Piece) (placed : List Placed) → at ≤ from → ps ≡ drop from all
    → All (IsNoted rs behind) placed → AreLast rs (merged at ps placed)
last_merged rs all behind stop at from ps [] low is noted = subst (AreLast rs) (append-nil (map token ps)) (last_tokens rs ps [] tt)
last_merged rs all behind stop at from ps (r ∷ more) low is noted =
    let next : ℕ = from + (r.0 - at) in
    let no_less : r.0 ≤ next = omega arith in
    let rest : drop (r.0 - at) ps ≡ drop next all = ap (drop (r.0 - at)) is ∙ drop-drop (r.0 - at) from all in
    last_tokens rs (take (r.0 - at) ps) (remark r.1 ∷ merged r.0 (drop (r.0 - at) ps) more) (
      λ a stands among.
          let there : Contains (flat_map places (drop next all)) (stand.Trails a) = subst (λ l. Contains l (stand.Trails a)) (places_merged r.0 (drop (r.0 - at) ps) more ∙ ap (flat_map places) rest) among in
          let (k, p, far, at_k, here) = placed_behind all next (stand.Trails a) there in
          let less : k < r.0 = stop k p at_k a here r.0 (All-head (IsNoted rs behind) r more noted a stands) in
          absurd (omega arith),
      last_merged rs all behind stop r.0 next (drop (r.0 - at) ps) more no_less rest (All-tail (IsNoted rs behind) r more noted),
    )

pub all_last : (rs : List Remark) (all : List Piece) (behind : BTreeMap ℕ ℕ) (placed : List Placed) → ((n : ℕ) (p : Piece) → slice_get all n ≡ Some p → AreStopped behind n p) → All (IsNoted rs behind) placed → AreLast rs (merged 0 all placed)
all_last rs all behind placed stop noted = last_merged rs all behind stop 0 0 all placed (omega arith) refl noted

-- one piece more
pub stop_more : (start mid : BTreeMap ℕ ℕ) (ps : List code.Piece) (i : ℕ) (d : code.Piece) → i < length ps → mid ≡ start → AreStopped mid i (piece_view (get_or ps i d))
    → ((n : ℕ) (p : Piece) → n < i → slice_get (map piece_view ps) n ≡ Some p → AreStopped start n p) → (n : ℕ) (p : Piece) → n < i + 1 → slice_get (map piece_view ps) n ≡ Some p → AreStopped start n p
stop_more start mid ps i d within same one before n p less at = elim (cases_lt n i) [
  | inl low ↦ before n p low at
  | inr high ↦
      let here : n ≡ i = omega arith in
      let there : slice_get (map piece_view ps) i ≡ Some (piece_view (get_or ps i d)) = slice_get-map piece_view ps i ∙ ap (option_map piece_view) (slice_get-get_or ps i d within) in
      let found : Some (piece_view (get_or ps i d)) ≡ Some p = sym there ∙ ap (slice_get (map piece_view ps)) (sym here) ∙ at in
      let is : piece_view (get_or ps i d) ≡ p = cc in
      subst (λ m. AreStopped m n p) same (subst (λ k. AreStopped mid k p) (sym here) (subst (AreStopped mid i) is one))
]

pub stop_all : (start : BTreeMap ℕ ℕ) (ps : List code.Piece) (i : ℕ) → length ps ≤ i → ((n : ℕ) (p : Piece) → n < i → slice_get (map piece_view ps) n ≡ Some p → AreStopped start n p)
    → (n : ℕ) (p : Piece) → slice_get (map piece_view ps) n ≡ Some p → AreStopped start n p
stop_all start ps i ended before n p at =
    let within : n < length (map piece_view ps) = slice_get_within (map piece_view ps) n p at in
    let long : length (map piece_view ps) ≡ length ps = length-map ps piece_view in
    before n p (omega arith) at

-- one comment more
pub note_step : (rs : List Remark) (placed : List placed_code.Placed) (i : ℕ) (d : placed_code.Placed) (old new : Noted) → i < length placed → All (IsNoted rs old.behind) (map placed_view (take i placed)) → NotesOf rs old new (placed_view (get_or placed i d))
    → All (IsNoted rs new.behind) (map placed_view (take (i + 1) placed))
note_step rs placed i d old new within all notes =
    subst (All (IsNoted rs new.behind)) (sym (map_more placed_view placed i d within)) (noted_more rs old new (map placed_view (take i placed)) (placed_view (get_or placed i d)) all notes)

pub note_all : (rs : List Remark) (placed : List placed_code.Placed) (i : ℕ) (old new : BTreeMap ℕ ℕ) → length placed ≤ i → new ≡ old → All (IsNoted rs old) (map placed_view (take i placed)) → All (IsNoted rs new) (map placed_view placed)
note_all rs placed i old new ended same all =
    subst (λ m. All (IsNoted rs m) (map placed_view placed)) (sym same) (subst (λ l. All (IsNoted rs old) (map placed_view l)) (take_all i placed ended) all)
