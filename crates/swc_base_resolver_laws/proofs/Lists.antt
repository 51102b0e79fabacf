-- Elements of lists, and the first of some scopes with a property.
use Rattle.std.proofs.Common.{◌≡◌, ℕ, Bool, true, inl, inr, ⊎_elim, IsTrue, Option, Some, None, List, [], ◌∷◌, Contains, refl, sym, subst}
use Rattle.std.specs.Option.{is_some}
use Rattle.swc_tree_marks.specs.Globals.{Table, numbers}
use Rattle.swc_tree_scoping.specs.declared.places.Standing.{Standing}
use Rattle.swc_tree_scoping.specs.declared.places.Scope.{Scope}
use Rattle.swc_tree_scoping.specs.Places.{Path}
use Rattle.swc_tree_scoping.specs.Scopes.{Round, is_taken}
use Rattle.swc_tree_scoping.specs.Declares.{First}
use Rattle.swc_tree_scoping.proofs.First.{Each}
use Rattle.swc_tree_renaming.proofs.Core.{cases_in, head_in, none_in, tail_in}
use Rattle.swc_base_resolver_laws.proofs.Same.{some_same}

pub each_at : (P : Round → Type 0) (ss : List Round) (s : Round) → Each P ss → Contains ss s → P s
each_at P [] s h e = absurd (none_in s e)
each_at P (u ∷ us) s h e = ⊎_elim (λ (is : u ≡ s). subst P is h.0) (λ later. each_at P us s h.1 later) (cases_in u s us e)

-- a mark of the table has a row
pub row_of : (rows : Table) (mark : ℕ) → Contains (numbers rows) mark → (parent : ℕ) × Contains rows (mark, parent)
row_of [] mark h = absurd (none_in mark h)
row_of (row ∷ rest) mark h = ⊎_elim
    (λ (is : row.0 ≡ mark). (row.1, subst (λ m. Contains (row ∷ rest) (m, row.1)) is (head_in row rest)))
    (λ later. let (parent, there) = row_of rest mark later in (parent, tail_in row (mark, parent) rest there))
    (cases_in row.0 mark (numbers rest) h)

-- the first with a property is one of the list and has it; if there is none, no scope of the list has it
pub found : (P : Round → Type 0) (ss : List Round) (s : Path) → First P ss (Some s) → (whole : Bool) × Contains ss (s, whole) × P (s, whole)
found P [] s f = absurd (cc)
found P (u ∷ us) s (inl (here, e)) =
    let is : u.0 ≡ s = sym (some_same s u.0 e) in
    (u.1, subst (λ q. Contains (u ∷ us) (q, u.1)) is (head_in u us), subst (λ q. P (q, u.1)) is here)
found P (u ∷ us) s (inr (none, f)) = let (whole, there, p) = found P us s f in (whole, tail_in u (s, whole) us there, p)

pub found_none : (P : Round → Type 0) (ss : List Round) (s : Round) → First P ss None → Contains ss s → P s → ⊥
found_none P [] s f there p = none_in s there
found_none P (u ∷ us) s (inl (here, e)) there p = absurd (cc)
found_none P (u ∷ us) s (inr (none, f)) there p = ⊎_elim (λ (is : u ≡ s). none (subst P (sym is) p)) (λ later. found_none P us s f later p) (cases_in u s us there)

pub taken_there : (r : Standing) (o : Option Scope) → is_taken r o ≡ true → IsTrue (is_some o)
taken_there r None h = absurd (cc)
taken_there r (Some s) h = refl
