-- What stands in a program that was resolved.
use Rattle.std.proofs.Common.{◌≡◌, ℕ, IsTrue, List, [], ◌∷◌, Contains, refl, sym, ap, subst, ◌↔◌, eqb-true, eq-eqb}
use Rattle.swc_tree_marks.specs.declared.ident.Ident.{Ident}
use Rattle.swc_tree_marks.specs.Globals.{Table}
use Rattle.swc_tree_node.specs.declared.node.Node.{Node}
use Rattle.swc_tree_node.proofs.Fit.{and_both, both}
use Rattle.swc_tree_scoping.specs.declared.places.Standing.{Standing}
use Rattle.swc_tree_scoping.specs.Places.{program_place}
use Rattle.swc_tree_scoping.specs.Scopes.{is_reference}
use Rattle.swc_tree_spaces.specs.Spaces.{ResolvedBy}
use Rattle.swc_tree_walk.specs.Sites.{StandsIn, sites}
use Rattle.mucwathi_passes.specs.Passes.{own_table}
use Rattle.mucwathi_lists.specs.declared.lists.FreeName.{FreeName}
use Rattle.mucwathi_looks.specs.Names.{AreNamesOf, HasNamesOf, IsFirstUse, IsFree, IsFreeAmong, Seen, is_only}

only_is : (c : List ℕ) → IsTrue (is_only 1 c) → c ≡ 1 ∷ []
only_is [] h = absurd (cc)
only_is (m ∷ []) h = ap (λ m. m ∷ []) (eqb-true m 1 h)
only_is (m ∷ n ∷ c) h = absurd (cc)

is_only_one : (c : List ℕ) → c ≡ 1 ∷ [] → IsTrue (is_only 1 c)
is_only_one c h = subst (λ c. IsTrue (is_only 1 c)) (sym h) (eq-eqb 1 1 refl)

abbrev EachStands : Node → List Seen → Type 0
EachStands t ss = (r : Standing) (i : Ident) → Contains ss (r, i) ↔ StandsIn program_place t r i

free_in : (t : Node) (ss : List Seen) → EachStands t ss → (x : List ℕ) → IsFreeAmong ss x → IsFree t x
free_in t ss each x (s, among, free, same) =
    let parts = both (is_reference s.0) (is_only 1 s.1.ctxt) free in
    (s.0, s.1, (each s.0 s.1).0 among, parts.0, only_is s.1.ctxt parts.1, same)

free_among : (t : Node) (ss : List Seen) → EachStands t ss → (x : List ℕ) → IsFree t x → IsFreeAmong ss x
free_among t ss each x (r, i, stands, refers, marked, same) =
    ((r, i), (each r i).1 stands, and_both (is_reference r) (is_only 1 i.ctxt) refers (is_only_one i.ctxt marked), same)

pub names_of_program : (source : Node) (table : Table) (resolved : Node) (ss : List Seen) (names : List FreeName) → ResolvedBy 1 2 own_table table source resolved → ss ≡ sites program_place resolved → EachStands resolved ss → AreNamesOf ss names → HasNamesOf source names
names_of_program source table resolved ss names is all each h = record {
  table = table;
  resolved = resolved;
  is_resolved = is;
  sound = λ x there. free_in resolved ss each x (h.sound x there);
  complete = λ x free. h.complete x (free_among resolved ss each x free);
  once = h.once;
  first = λ n there. subst (λ (ss : List Seen). IsFirstUse ss n) all (h.first n there);
}
