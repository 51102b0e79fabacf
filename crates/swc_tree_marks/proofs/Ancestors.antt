-- The way from a mark up to the root.
use Rattle.std.proofs.Common.{◌≡◌, ◌≢◌, ℕ, ◌<◌, ◌≤◌, ◌↔◌, zero, suc, inl, inr, sym, refl, ◌∙◌, arith, take}
use Rattle.std.proofs.lemmas.Bool.{cases_eq}
use Rattle.swc_tree_marks.specs.Globals.{Table, greatest, Knows, IsTable, parent_in, ancestor_at, IsDescendant}
use Rattle.swc_tree_marks.proofs.Tables.{Contains-le-greatest, root_has_no_place}
use Rattle.swc_tree_marks.proofs.Search.{placed, parent_in-at, parent_in-unknown}

-- a mark lies above its parent's number
known_below : (before : Table) (number parent : ℕ) → greatest before < number → Knows before parent → parent < number
known_below before number parent above (inl root) = omega arith
known_below before number parent above (inr has) = let below = Contains-le-greatest before parent has in omega arith

pub parent_in-below : (t : Table) → IsTable t → (mark : ℕ) → mark ≢ 0 → parent_in t mark < mark
parent_in-below t table mark some = elim (placed t mark) [
  | inl found ↦
      let (i, place) = found in
      let follows = table i place.within in
      let is_parent = parent_in-at t table mark i place in
      let below = known_below (take i t) _ _ follows.0 follows.1 in
      omega (arith, is_parent, place.is, below)
  | inr none ↦ let root = parent_in-unknown t mark none in omega arith
]

-- above the root there is nothing but the root
pub ancestor_at-root : (t : Table) → IsTable t → (steps : ℕ) → ancestor_at t 0 steps ≡ 0
ancestor_at-root t table zero = refl
ancestor_at-root t table (suc steps) = rw (parent_in-unknown t 0 (root_has_no_place t table)) (ancestor_at-root t table steps)

pub only_root_above_root : (t : Table) → IsTable t → (ancestor : ℕ) → IsDescendant t 0 ancestor → ancestor ≡ 0
only_root_above_root t table ancestor (steps, met) = sym met ∙ ancestor_at-root t table steps

pub IsDescendant-itself : (t : Table) (mark : ℕ) → IsDescendant t mark mark
IsDescendant-itself t mark = (0, refl)

-- another mark lies above a mark exactly where it is or lies above its parent
pub IsDescendant-up : (t : Table) (mark ancestor : ℕ) → mark ≢ ancestor → IsDescendant t mark ancestor ↔ IsDescendant t (parent_in t mark) ancestor
IsDescendant-up t mark ancestor other = (up other, λ above. (suc above.0, above.1)) where
  up : mark ≢ ancestor → IsDescendant t mark ancestor → IsDescendant t (parent_in t mark) ancestor
  up other (zero, met) = absurd (other met)
  up other (suc steps, met) = (steps, met)

-- every mark lies under the root
root_met_below : (t : Table) → IsTable t → (bound mark : ℕ) → mark ≤ bound → IsDescendant t mark 0
root_met_below t table zero mark within = (0, omega arith)
root_met_below t table (suc less) mark within = elim (cases_eq mark 0) [
  | inl root ↦ (0, root)
  | inr some ↦
      let below = parent_in-below t table mark some in
      let (steps, met) = root_met_below t table less (parent_in t mark) (omega arith) in
      (suc steps, met)
]

pub IsDescendant-root : (t : Table) → IsTable t → (mark : ℕ) → IsDescendant t mark 0
IsDescendant-root t table mark = root_met_below t table mark mark (omega arith)
