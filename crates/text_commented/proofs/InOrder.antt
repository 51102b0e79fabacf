-- Comments of one place, in their order between two tokens.
use Rattle.std.proofs.Common.{◌≡◌, ℕ, zero, suc, ◌+◌, ◌-◌, ◌<◌, ◌≤◌, ◌||◌, Bool, true, false, List, [], ◌∷◌, ◌++◌, Some, Result, Ok, Err, OnOk, Contains, inl, inr, if◌then◌else◌, length, map, take, drop, get_or, slice_get, refl, sym, ap, subst, ◌∙◌, arith}
use Rattle.std.proofs.lemmas.List.{append-nil, drop_more, drop_all}
use Rattle.std.proofs.lemmas.List.Elements.{Contains-append_left, Contains-push, Contains-push_cases}
use Rattle.std.specs.List.{list_any}
use Rattle.text_pieces.specs.declared.piece.Piece as code
use Rattle.text_pieces.specs.Tokens.{Piece, piece_view}
use Rattle.text_commented.specs.Commented.{ComesBefore, Item, KeepsOrder, Stands, remark, token}
use Rattle.text_commented.specs.Places.{is_token}
use Rattle.text_commented.specs.Steps.{Covers, GoesBehind, KeepsOn, merged, placed_view}
use Rattle.text_commented.specs.declared.remark.At.{At}
use Rattle.text_commented.specs.declared.remark.Placed as placed_code
use Rattle.text_commented.specs.declared.remark.Remark.{Remark}
use Rattle.text_commented.proofs.Sets.{merged_more}

-- comments at two places come in any order
pub are_apart : (rs : List Remark) (m n : ℕ) (one other : Remark) → slice_get rs m ≡ Some one → slice_get rs n ≡ Some other → ¬ (one.at ≡ other.at) → ComesBefore rs m n
are_apart rs m n one other is also apart = λ a here there.
    let first : one.at ≡ a = subst (λ o. Stands o a) is here in
    let second : other.at ≡ a = subst (λ o. Stands o a) also there in
    absurd (apart (first ∙ sym second))

-- a comment stands where another does
pub goes_there : (rs : List Remark) (m n : ℕ) (one : Remark) → slice_get rs m ≡ Some one → Stands (slice_get rs n) one.at → (a : At) → Stands (slice_get rs m) a → Stands (slice_get rs n) a
goes_there rs m n one is there a here = subst (λ p. Stands (slice_get rs n) p) (subst (λ o. Stands o a) is here) there

-- those that are covered come before where the others do
covered_before : (rs : List Remark) (others near : List ℕ) (n : ℕ) → Covers rs others near → ((m : ℕ) → Contains others m → ComesBefore rs m n) → (m : ℕ) → Contains near m → ComesBefore rs m n
covered_before rs others near n covers come m among = λ a one other.
    let (k, here, behind) = covers m among in
    let no_less : m ≤ k = behind.0 in
    let less : k < n = come k here a (behind.1 a one) other in
    omega arith

pub none_covered : (rs : List Remark) (others : List ℕ) → Covers rs others []
none_covered rs others m (k, within, is) = absurd (omega arith)

goes_behind_itself : (rs : List Remark) (m n : ℕ) → n ≡ m → GoesBehind rs m n
goes_behind_itself rs m n is = (omega arith, λ a stands. subst (λ x. Stands (slice_get rs x) a) (sym is) stands)

-- one more is near
pub covers_more : (rs : List Remark) (others near : List ℕ) (n : ℕ) → Covers rs others near → Covers rs (others ++ n ∷ []) (n ∷ near)
covers_more rs others near n covers m (zero, within, is) = (n, Contains-push others n, goes_behind_itself rs m n is)
covers_more rs others near n covers m (suc k, within, is) =
    let (o, here, behind) = covers m (k, omega arith, is) in
    (o, Contains-append_left others (n ∷ []) o here, behind)

then_behind : (rs : List Remark) (m o last n : ℕ) → last ≡ o → GoesBehind rs m o → GoesBehind rs last n → GoesBehind rs m n
then_behind rs m o last n same first later =
    let one : m ≤ o = first.0 in
    let two : last ≤ n = later.0 in
    (omega arith, λ a stands. later.1 a (subst (λ x. Stands (slice_get rs x) a) (sym same) (first.1 a stands)))

covers_by : (rs : List Remark) (front : List ℕ) (last n m o : ℕ) → GoesBehind rs last n → GoesBehind rs m o → Contains (front ++ last ∷ []) o → (k : ℕ) × Contains (front ++ n ∷ []) k × GoesBehind rs m k
covers_by rs front last n m o later behind here =
    elim (Contains-push_cases front last o here) [
      | inl before ↦ (o, Contains-append_left front (n ∷ []) o before, behind)
      | inr same ↦ (n, Contains-push front n, then_behind rs m o last n same behind later)
    ]

-- ... in place of one that it goes behind
pub covers_instead : (rs : List Remark) (front near : List ℕ) (last n : ℕ) → Covers rs (front ++ last ∷ []) near → GoesBehind rs last n → Covers rs (front ++ n ∷ []) (n ∷ near)
covers_instead rs front near last n covers later m (zero, within, is) = (n, Contains-push front n, goes_behind_itself rs m n is)
covers_instead rs front near last n covers later m (suc k, within, is) =
    let (o, here, behind) = covers m (k, omega arith, is) in
    covers_by rs front last n m o later behind here

-- ... once that is taken away
pub room_made : {T E : Type 0} (rs : List Remark) (old given made : List ℕ) (n : ℕ) (r : Result T E) → old ≡ given
    → OnOk r ((those : List ℕ) → Covers rs given those → Covers rs (made ++ n ∷ []) (n ∷ those)) → OnOk r ((those : List ℕ) → Covers rs old those → Covers rs (made ++ n ∷ []) (n ∷ those))
room_made rs old given made n (Ok done) is made_so = λ those covers. made_so those (subst (λ l. Covers rs l those) is covers)
room_made rs old given made n (Err e) is made_so = tt

covers_past : (rs : List Remark) (b : Bool) (others now near : List ℕ) → now ≡ (if b then [] else others) → Covers rs others near → Covers rs now (if b then [] else near)
covers_past rs true others now near is covers = none_covered rs now
covers_past rs false others now near is covers = subst (λ l. Covers rs l near) (sym is) covers

-- behind pieces
past_both : (b c : Bool) (near : List ℕ) → (if b || c then [] else near) ≡ (if c then [] else (if b then [] else near))
past_both true true near = refl
past_both true false near = refl
past_both false true near = refl
past_both false false near = refl

tokens_kept : (rs : List Remark) (ps : List Piece) (near : List ℕ) (items : List Item) → KeepsOrder rs (if list_any is_token ps then [] else near) items → KeepsOrder rs near (map token ps ++ items)
tokens_kept rs [] near items kept = kept
tokens_kept rs (p ∷ ps) near items kept =
    tokens_kept rs ps (if is_token p then [] else near) items (subst (λ l. KeepsOrder rs l items) (past_both (is_token p) (list_any is_token ps) near) kept)

-- one comment more, and the pieces before it
pub one_kept : (rs : List Remark) (ps here : List code.Piece) (placed : List placed_code.Placed) (i : ℕ) (d : placed_code.Placed) (at : ℕ) (near now made : List ℕ) → i < length placed
    → at ≤ (get_or placed i d).before → here ≡ take ((get_or placed i d).before - at) (drop at ps) → now ≡ (if list_any is_token (map piece_view here) then [] else near)
    → ((m : ℕ) → Contains now m → ComesBefore rs m (get_or placed i d).number) → ((those : List ℕ) → Covers rs now those → Covers rs made ((get_or placed i d).number ∷ those))
    → KeepsOn rs made (merged (get_or placed i d).before (map piece_view (drop (get_or placed i d).before ps)) (map placed_view (drop (i + 1) placed)))
    → KeepsOn rs near (merged at (map piece_view (drop at ps)) (map placed_view (drop i placed)))
one_kept rs ps here placed i d at near now made within rises is past come makes after = λ those covers.
    let one = get_or placed i d in
    let more = map placed_view (drop (i + 1) placed) in
    let items = merged one.before (map piece_view (drop one.before ps)) more in
    let front = map piece_view here in
    let left : List ℕ = if list_any is_token front then [] else those in
    let covered : Covers rs now left = covers_past rs (list_any is_token front) near now those past covers in
    let kept : KeepsOrder rs left (remark one.number ∷ items) = (covered_before rs now left one.number covered come, after (one.number ∷ left) (makes left covered)) in
    subst (λ l. KeepsOrder rs those (merged at (map piece_view (drop at ps)) (map placed_view l))) (sym (drop_more placed i d within))
    (subst (λ l. KeepsOrder rs those l) (merged_more ps here at one.before one.number more rises is) (tokens_kept rs front those (remark one.number ∷ items) kept))

-- no comment is left
pub all_kept : (rs : List Remark) (ps : List code.Piece) (placed : List placed_code.Placed) (i at : ℕ) (near : List ℕ) → length placed ≤ i → KeepsOn rs near (merged at (map piece_view (drop at ps)) (map placed_view (drop i placed)))
all_kept rs ps placed i at near none = λ those covers.
    let rest = map piece_view (drop at ps) in
    subst (λ l. KeepsOrder rs those (merged at rest (map placed_view l))) (sym (drop_all i placed none))
    (subst (λ l. KeepsOrder rs those l) (append-nil (map token rest)) (tokens_kept rs rest those [] tt))

-- whether a token is among pieces
any_drop : (ps : List code.Piece) (i : ℕ) (d : code.Piece) → i < length ps
    → list_any is_token (map piece_view (drop i ps)) ≡ is_token (piece_view (get_or ps i d)) || list_any is_token (map piece_view (drop (i + 1) ps))
any_drop ps i d within = ap (λ l. list_any is_token (map piece_view l)) (drop_more ps i d within)

pub one_is_token : (ps : List code.Piece) (i : ℕ) (d : code.Piece) → i < length ps → is_token (piece_view (get_or ps i d)) ≡ true → list_any is_token (map piece_view (drop i ps)) ≡ true
one_is_token ps i d within is = any_drop ps i d within ∙ ap (λ b. b || list_any is_token (map piece_view (drop (i + 1) ps))) is

pub one_is_none : (ps : List code.Piece) (i : ℕ) (d : code.Piece) → i < length ps → is_token (piece_view (get_or ps i d)) ≡ false
    → list_any is_token (map piece_view (drop i ps)) ≡ list_any is_token (map piece_view (drop (i + 1) ps))
one_is_none ps i d within is = any_drop ps i d within ∙ ap (λ b. b || list_any is_token (map piece_view (drop (i + 1) ps))) is

pub none_is_left : (ps : List code.Piece) (i : ℕ) → length ps ≤ i → list_any is_token (map piece_view (drop i ps)) ≡ false
none_is_left ps i none = ap (λ l. list_any is_token (map piece_view l)) (drop_all i ps none)
