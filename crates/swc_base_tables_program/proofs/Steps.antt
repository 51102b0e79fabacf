-- Loops over the helpers of the table, and over those of a set.
use Rattle.std.proofs.Common.{◌≡◌, ℕ, zero, suc, ◌+◌, ◌<◌, ◌≤◌, Bool, true, false, IsTrue, ◌↔◌, Option, None, Some, IsSome, List, [], ◌∷◌, ◌++◌, length, filter, take, get_or, is_some, refl, sym, ap, ◌∙◌, subst, arith, rules, if◌then◌else◌}
use Rattle.std.specs.List.{All, AllPairs}
use Rattle.std.specs.Cmp.{unsigned_Decides}
use Rattle.std.specs.Int.{bit_at}
use Rattle.std.specs.Prelude.{◌==◌}
use Rattle.std.proofs.lemmas.List.{append-nil, take_more}
use Rattle.std.proofs.lemmas.List.Elements.{All-cons, All-push, All-weaker, filter-append}
use Rattle.std.proofs.lemmas.List.Kept.{AllPairs-cons, AllPairs-filter}
use Rattle.swc_tree_node.specs.declared.node.Node.{Node}
use Rattle.swc_tree_node.specs.declared.slot.Slot.{Slot}
use Rattle.swc_tree_node.specs.Fits.{AllFit}
use Rattle.swc_base_tables_helpers.specs.Sets.{Holds}
use Rattle.swc_base_tables_helpers.specs.Table.{Row, numbers_from, table}
use Rattle.swc_base_tables_injection.specs.Alone.{all_bodies}
use Rattle.swc_base_tables_program.specs.Given.{Covers, body_of, in_order, is_in}
use Rattle.swc_base_tables_program.specs.declared.bodies.Bodies.{Bodies}

-- ---- one more element

module _ {X : Type 0} (p : X → Bool) (xs : List X) (i : ℕ) (x : X) (within : i < length xs) (here : x ≡ get_or xs i x) where
  more : filter p (take (i + 1) xs) ≡ filter p (take i xs) ++ filter p (x ∷ [])
  more = ap (filter p) (take_more xs i x within) ∙ filter-append p (take i xs) (get_or xs i x ∷ []) ∙ ap (λ y. filter p (take i xs) ++ filter p (y ∷ [])) (sym here)

  pub one_in : p x ≡ true → filter p (take (i + 1) xs) ≡ filter p (take i xs) ++ x ∷ []
  one_in h = more ∙ ap (λ b. filter p (take i xs) ++ (if b then x ∷ [] else [])) h

  pub one_out : p x ≡ false → filter p (take (i + 1) xs) ≡ filter p (take i xs)
  one_out h = more ∙ ap (λ b. filter p (take i xs) ++ (if b then x ∷ [] else [])) h ∙ append-nil (filter p (take i xs))

-- ---- whether a set has a helper

pub tested : (set helper : ℕ) (b : Bool) → IsTrue b ↔ Holds set helper → is_in set helper ≡ b
tested set helper true h = (unsigned_Decides (bit_at set helper) 1).1 (h.0 refl)
tested set helper false h = by (is_in set helper) refl
  where
    by : (b : Bool) → is_in set helper ≡ b → is_in set helper ≡ false
    by true e = absurd (let holds : Holds set helper = (unsigned_Decides (bit_at set helper) 1).0 e in let never = h.1 holds in cc)
    by false e = e

-- what holds of all that pass a test holds of one that does
tail_kept : {X : Type 0} (P : X → Type 0) (b : Bool) (x : X) (ys : List X) → All P (if b then x ∷ ys else ys) → All P ys
tail_kept P true x ys h = λ k d w. h (suc k) d (omega (arith, w))
tail_kept P false x ys h = h

kept_at : {X : Type 0} (P : X → Type 0) (p : X → Bool) (xs : List X) (i : ℕ) (d : X) → All P (filter p xs) → i < length xs → p (get_or xs i d) ≡ true → P (get_or xs i d)
kept_at P p [] i d a w h = absurd (omega (arith, w))
kept_at P p (x ∷ xs) zero d a w h =
    let all : All P (x ∷ filter p xs) = subst (λ b. All P (if b then x ∷ filter p xs else filter p xs)) h a in
    all 0 x (omega arith)
kept_at P p (x ∷ xs) (suc i) d a w h = kept_at P p xs i d (tail_kept P (p x) x (filter p xs) a) (omega (arith, w)) h

pub not_covered : (bodies : Bodies) (set : ℕ) (items : List ℕ) (i helper : ℕ) → items ≡ numbers_from 1 table → i < length items → helper ≡ get_or items i helper
    → is_in set helper ≡ true → is_some (body_of bodies helper) ≡ false → Covers bodies set → ⊥
not_covered bodies set items i helper are within here chosen none covers =
    let all : All (λ h. IsSome (body_of bodies h)) (filter (is_in set) items) = subst (λ hs. All (λ h. IsSome (body_of bodies h)) (filter (is_in set) hs)) (sym are) covers in
    let some : IsSome (body_of bodies (get_or items i helper)) = kept_at (λ h. IsSome (body_of bodies h)) (is_in set) items i helper all within (subst (λ h. is_in set h ≡ true) here chosen) in
    never (body_of bodies helper) none (subst (λ h. IsSome (body_of bodies h)) (sym here) some)
  where
    never : {X : Type 0} (o : Option X) → is_some o ≡ false → IsSome o → ⊥
    never None e h = absurd (cc)
    never (Some x) e h = absurd (cc)

some_is : {X : Type 0} (o : Option X) → is_some o ≡ true → IsSome o
some_is None e = absurd (cc)
some_is (Some x) e = search rules

module _ (bodies : Bodies) (set : ℕ) (items : List ℕ) (i helper : ℕ) (within : i < length items) (here : helper ≡ get_or items i helper) (before : All (λ h. IsSome (body_of bodies h)) (filter (is_in set) (take i items))) where
  pub still_in : is_in set helper ≡ true → is_some (body_of bodies helper) ≡ true → All (λ h. IsSome (body_of bodies h)) (filter (is_in set) (take (i + 1) items))
  still_in chosen some =
      subst (All (λ h. IsSome (body_of bodies h))) (sym (one_in (is_in set) items i helper within here chosen))
      (All-push (λ h. IsSome (body_of bodies h)) (filter (is_in set) (take i items)) helper before (some_is (body_of bodies helper) some))

  pub still_out : is_in set helper ≡ false → All (λ h. IsSome (body_of bodies h)) (filter (is_in set) (take (i + 1) items))
  still_out out = subst (All (λ h. IsSome (body_of bodies h))) (sym (one_out (is_in set) items i helper within here out)) before

-- ---- bodies of statements

all_append : (s : Slot) (ts us : List Node) → AllFit s ts → AllFit s us → AllFit s (ts ++ us)
all_append s [] us h g = g
all_append s (t ∷ ts) us h g = (h.0, all_append s ts us h.1 g)

pub bodies_fit : (s : Slot) (bodies : List (List Node)) → All (λ body. AllFit s body) bodies → AllFit s (all_bodies bodies)
bodies_fit s [] h = tt
bodies_fit s (body ∷ bodies) h = all_append s body (all_bodies bodies) (h 0 body (omega arith)) (bodies_fit s bodies (λ k d w. h (suc k) d (omega (arith, w))))

-- ---- the order of the table

rising_from : (n : ℕ) (rows : List Row) → All (λ m. n ≤ m) (numbers_from n rows)
rising_from n [] = λ k d h. absurd (omega (arith, h))
rising_from n (row ∷ rows) = All-cons (λ m. n ≤ m) n (numbers_from (n + 1) rows) (omega arith)
    (All-weaker (λ m. n + 1 ≤ m) (λ m. n ≤ m) (λ m h. omega (arith, h)) (numbers_from (n + 1) rows) (rising_from (n + 1) rows))

rising : (n : ℕ) (rows : List Row) → AllPairs (λ a b. a < b) (numbers_from n rows)
rising n [] = λ i j d before within. absurd (omega (arith, within))
rising n (row ∷ rows) = AllPairs-cons (λ a b. a < b) n (numbers_from (n + 1) rows)
    (All-weaker (λ m. n + 1 ≤ m) (λ m. n < m) (λ m h. omega (arith, h)) (numbers_from (n + 1) rows) (rising_from (n + 1) rows)) (rising (n + 1) rows)

pub in_order_rises : (set : ℕ) (hs : List ℕ) → hs ≡ in_order set → AllPairs (λ a b. a < b) hs
in_order_rises set hs e = subst (AllPairs (λ a b. a < b)) (sym e) (AllPairs-filter (λ a b. a < b) (is_in set) (numbers_from 1 table) (rising 1 table))

-- ---- a body that is taken out for each helper

abbrev pub Bodied : Type 0
Bodied = ℕ → Option (List Node)

-- from a number on, the helpers have their bodies yet
abbrev pub HaveYet : Bodied → Bodied → List ℕ → ℕ → Type 0
HaveYet now old helpers i = (k : ℕ) → i ≤ k → k < length helpers → now (get_or helpers k 0) ≡ old (get_or helpers k 0)

get_or_any : (xs : List ℕ) (i d e : ℕ) → i < length xs → get_or xs i d ≡ get_or xs i e
get_or_any [] i d e h = absurd (omega (arith, h))
get_or_any (x ∷ xs) zero d e h = refl
get_or_any (x ∷ xs) (suc i) d e h = get_or_any xs i d e (omega (arith, h))

apart : (a b : ℕ) → b < a → (a == b) ≡ false
apart a b h = by (a == b) refl
  where
    by : (c : Bool) → (a == b) ≡ c → (a == b) ≡ false
    by true e = absurd (let same : a ≡ b = (unsigned_Decides a b).0 e in omega (arith, same, h))
    by false e = e

pub body_here : (hs : List ℕ) (i helper : ℕ) (now old : Bodied) → i < length hs → helper ≡ get_or hs i helper → HaveYet now old hs i → now helper ≡ old helper
body_here hs i helper now old within here have =
    subst (λ h. now h ≡ old h) (sym (here ∙ get_or_any hs i helper 0 within)) (have i (omega arith) within)

pub yet_after : (hs : List ℕ) (i helper : ℕ) (now old new : Bodied) → AllPairs (λ a b. a < b) hs → i < length hs → helper ≡ get_or hs i helper
    → ((other : ℕ) → new other ≡ (if other == helper then None else now other)) → HaveYet now old hs i → HaveYet new old hs (i + 1)
yet_after hs i helper now old new rises within here left have k after inside =
    let lower : get_or hs i 0 < get_or hs k 0 = rises i k 0 (omega (arith, after)) inside in
    let found : get_or hs i 0 ≡ get_or hs i helper = get_or_any hs i 0 helper within in
    let other : (get_or hs k 0 == helper) ≡ false = apart (get_or hs k 0) helper (omega (arith, lower, found, here)) in
    left (get_or hs k 0) ∙ ap (λ b. if b then None else now (get_or hs k 0)) other ∙ have k (omega (arith, after)) inside
