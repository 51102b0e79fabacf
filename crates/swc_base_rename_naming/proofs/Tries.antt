-- A search tries at most one text more than are taken, since different counters have different texts.
use Rattle.std.proofs.Common.{◌≡◌, ℕ, zero, suc, ◌+◌, ◌<◌, ◌≤◌, ◌⊎◌, Bool, true, false, ◌||◌, List, [], ◌∷◌, length, refl, ◌∙◌, ap, inl, inr, arith}
use Rattle.std.specs.List.{AllByRecursion, IsDistinct, list_any}
use Rattle.std.specs.Str.{bytes_eq}
use Rattle.std.specs.Cmp.Lexicographic.{nat_list_eq_equiv}
use Rattle.std.proofs.lemmas.Bool.{false_from_ne_true}
use Rattle.std.proofs.lemmas.Map.Made.{length-le_from_is_member}
use Rattle.std.proofs.lemmas.Slice.Eq.{bytes_eq-Decides}
use Rattle.swc_base_rename_naming.specs.Free.{AllTaken, Covers, Test, Texts}

-- the texts of so many counters from the start on
abbrev tried : Texts → ℕ → ℕ → List (List ℕ)
tried text start zero = []
tried text start (suc count) = text start ∷ tried text (suc start) count

length-tried : (text : Texts) (start count : ℕ) → length (tried text start count) ≡ count
length-tried text start zero = refl
length-tried text start (suc count) = ap suc (length-tried text (suc start) count)

either : (a b : Bool) → (a || b) ≡ true → (a ≡ true) ⊎ (b ≡ true)
either true b h = inl refl
either false b h = inr h

taken_of : (text : Texts) (taken : Test) (start count : ℕ) → AllTaken text taken start (start + count) → (x : List ℕ) → list_any (bytes_eq x) (tried text start count) ≡ true → taken x ≡ true
taken_of text taken start zero all x h = absurd (cc)
taken_of text taken start (suc count) all x h =
    elim (either (bytes_eq x (text start)) (list_any (bytes_eq x) (tried text (suc start) count)) h) [
      | inl same ↦ ap taken ((bytes_eq-Decides x (text start)).0 same) ∙ all start (omega arith) (omega arith)
      | inr later ↦ taken_of text taken (suc start) count (λ k from below. all k (omega arith) (omega arith)) x later
    ]

-- the texts differ below a counter
abbrev pub DifferBelow : Texts → ℕ → Type 0
DifferBelow text end = (m n : ℕ) → m < end → n < end → text m ≡ text n → m ≡ n

apart : (text : Texts) (end : ℕ) → DifferBelow text end → (k start count : ℕ) → k < start → start + count ≤ end → AllByRecursion (λ y. bytes_eq (text k) y ≡ false) (tried text start count)
apart text end differ k start zero below fits = tt
apart text end differ k start (suc count) below fits = (
  false_from_ne_true (bytes_eq (text k) (text start)) (λ same.
      let met : k ≡ start = differ k start (omega arith) (omega arith) ((bytes_eq-Decides (text k) (text start)).0 same) in omega arith),
  apart text end differ k (suc start) count (omega arith) (omega arith),
)

distinct : (text : Texts) (end : ℕ) → DifferBelow text end → (start count : ℕ) → start + count ≤ end → IsDistinct bytes_eq (tried text start count)
unfolding IsDistinct
distinct text end differ start zero fits = tt
distinct text end differ start (suc count) fits = (apart text end differ start (suc start) count (omega arith) (omega arith), distinct text end differ (suc start) count (omega arith))

-- so many counters from the start on have texts that are taken: then at least so many texts are
pub tries : (text : Texts) (taken : Test) (start count : ℕ) (texts : List (List ℕ)) → DifferBelow text (start + count) → AllTaken text taken start (start + count) → Covers texts taken → count ≤ length texts
tries text taken start count texts differ all covers =
    let bound : length (tried text start count) ≤ length texts =
    length-le_from_is_member nat_list_eq_equiv (tried text start count) texts (distinct text (start + count) differ start count (omega arith))
    (λ x among. covers x (taken_of text taken start count all x among)) in
    omega (arith, length-tried text start count)
