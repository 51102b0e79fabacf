-- Places in two lists: where nodes begin, and where they stop.
use Rattle.std.specs.List.{Contains}
use Rattle.std.specs.Prelude.{ℕ, ◌^◌, ◌<◌, ◌≤◌, List, [], ◌∷◌}
use Rattle.std.specs.List.Sorted.{IsNonDecreasing, IsPermutation}
use Rattle.text_commented.specs.declared.remark.At.{At}
use Rattle.text_commented.specs.declared.remark.At.TheVariants as stand
use Rattle.text_commented.specs.declared.sites.Sites.{Sites}

abbrev pub leads_in : List At → List ℕ
leads_in [] = []
leads_in (stand.Leads n ∷ more) = n ∷ leads_in more
leads_in (stand.Trails n ∷ more) = leads_in more

abbrev pub trails_in : List At → List ℕ
trails_in [] = []
trails_in (stand.Leads n ∷ more) = trails_in more
trails_in (stand.Trails n ∷ more) = n ∷ trails_in more

-- just these places, in the order of the text
pub record IsSites (s : Sites) (all : List At) : Type 0 where
  pub begun : IsPermutation (leads_in all) s.begun.items
  pub stopped : IsPermutation (trails_in all) s.stopped.items
  pub begun_rise : IsNonDecreasing s.begun.items
  pub stopped_rise : IsNonDecreasing s.stopped.items

-- the last of some numbers that is no greater than one, and the first that is no smaller
abbrev pub IsLast : List ℕ → ℕ → ℕ → Type 0
IsLast xs limit n = (n ≤ limit) × Contains xs n × ((m : ℕ) → n < m → m ≤ limit → ¬ Contains xs m)

abbrev pub IsFirst : List ℕ → ℕ → ℕ → Type 0
IsFirst xs limit n = (limit ≤ n) × Contains xs n × ((m : ℕ) → limit ≤ m → m < n → ¬ Contains xs m)

-- Where the last node stops, or begins, that does so at a place or before, and where the first begins at it or behind. 0 is no place,
-- and places have 32 bits.
abbrev pub IsLastStop : List At → ℕ → ℕ → Type 0
IsLastStop all limit n = (0 < n) × (n ≤ limit) × Contains all (stand.Trails n) × ((m : ℕ) → n < m → m ≤ limit → ¬ Contains all (stand.Trails m))

abbrev pub IsLastBegun : List At → ℕ → ℕ → Type 0
IsLastBegun all limit n = (0 < n) × (n ≤ limit) × Contains all (stand.Leads n) × ((m : ℕ) → n < m → m ≤ limit → ¬ Contains all (stand.Leads m))

abbrev pub IsFirstBegun : List At → ℕ → ℕ → Type 0
IsFirstBegun all limit n = (limit ≤ n) × (n < 2 ^ 32) × Contains all (stand.Leads n) × ((m : ℕ) → limit ≤ m → m < n → ¬ Contains all (stand.Leads m))
