-- When two programs are one but for the choice of the names that they bind.
use Rattle.std.specs.Prelude.{◌≡◌, ℕ, ◌↔◌, IsTrue, Option, Some, None, List, [], ◌∷◌}
use Rattle.swc_tree_marks.specs.declared.ident.Ident.{Ident}
use Rattle.swc_tree_node.specs.declared.kind.Kind.{Kind}
use Rattle.swc_tree_node.specs.declared.node.Node.{Node, Identifier}
use Rattle.swc_tree_scoping.specs.declared.places.Standing.{Standing}
use Rattle.swc_tree_scoping.specs.declared.places.Standing.TheVariants as standing
use Rattle.swc_tree_scoping.specs.declared.places.Place.{Place}
use Rattle.swc_tree_scoping.specs.Places.{Path, place_at, program_place}
use Rattle.swc_tree_scoping.specs.Scopes.{is_binding, is_name, is_reference}
use Rattle.swc_tree_scoping.specs.Declares.{DeclaredBy, Means, Meets}
use Rattle.swc_tree_scoping.specs.Resolved.{own_meaning}
use Rattle.swc_tree_renaming.specs.Apart.{NameAt, SameId}
use Rattle.swc_tree_grammar.specs.Normal.{normal_form}
use Rattle.swc_base_rename_laws.specs.NewNames.{outline}

-- what a name stands for: a binding for the scope that declares it, a reference for the one that it means, or for none, where it
-- is free; in a script `undefined`, `NaN` and `Infinity` are free though the program declares them
pub record StandsFor (t : Node) (p : Path) (r : Standing) (name : List ℕ) (o : Option Path) : Type 0 where
  pub binding : IsTrue (is_binding r) → (s : Path) × DeclaredBy t p r name s × (o ≡ Some s)
  pub reference : IsTrue (is_reference r) → (m : Option Path) × Means t p name m × (o ≡ own_meaning t name m)

-- two names have one text and stand for one scope, or have one text and are both free
abbrev pub StandForOne : (t : Node) (p q : Path) (i j : Ident) → NameAt t p i → NameAt t q j → Type 0
StandForOne t p q i j m n = (i.sym ≡ j.sym) × ((o : Option Path) × StandsFor t p m.0.standing i.sym o × StandsFor t q n.0.standing j.sym o)

-- where a `var` writes what initialises it: to the nearest catch clause whose parameter has its name, or to its scope (B.3.4)
abbrev pub Writes : (t : Node) (p : Path) (i : Ident) → NameAt t p i → Option Path → Type 0
Writes t p i m o = (m.0.standing ≡ standing.Variable) × Meets t p i.sym o

-- a name is free
abbrev pub IsFreeThere : (t : Node) (p : Path) (i : Ident) → NameAt t p i → Type 0
IsFreeThere t p i m = StandsFor t p m.0.standing i.sym None

-- keys, labels, imported and exported names
abbrev pub OtherTextsStay : Node → Node → Type 0
OtherTextsStay t u = (p : Path) (w v : Place) (k l : Kind) (i j : Ident) → place_at program_place t p ≡ Some (w, Identifier k i) → place_at program_place u p ≡ Some (v, Identifier l j)
    → ¬ IsTrue (is_name w.standing) → i.sym ≡ j.sym

-- each name keeps its text
abbrev pub NamesStay : Node → Node → Type 0
NamesStay t u = (p : Path) (i a : Ident) → NameAt t p i → NameAt u p a → i.sym ≡ a.sym

-- a name is free in one tree exactly if in the other, and then has one text in both
abbrev pub FreeNamesStay : Node → Node → Type 0
FreeNamesStay t u = (p : Path) (i a : Ident) (m : NameAt t p i) (x : NameAt u p a) → (IsFreeThere t p i m ↔ IsFreeThere u p a x) × (IsFreeThere t p i m → i.sym ≡ a.sym)

-- two names stand for one thing in one tree exactly if in the other
abbrev pub StandForTheSame : Node → Node → Type 0
StandForTheSame t u = (p q : Path) (i j a b : Ident) (m : NameAt t p i) (n : NameAt t q j) (x : NameAt u p a) (y : NameAt u q b) → StandForOne t p q i j m n ↔ StandForOne u p q a b x y

-- a variable writes to one scope in both trees
abbrev pub WritesStay : Node → Node → Type 0
WritesStay t u = (p : Path) (i a : Ident) (m : NameAt t p i) (x : NameAt u p a) (o : Option Path) → Writes t p i m o ↔ Writes u p a x o

-- one tree but for the choice of the names that it binds
pub record AlphaVariants (t u : Node) : Type 0 where
  pub shape : outline t ≡ outline u
  pub others : OtherTextsStay t u
  pub free : FreeNamesStay t u
  pub meanings : StandForTheSame t u
  pub writes : WritesStay t u

abbrev pub AlphaEquivalent : Node → Node → Type 0
AlphaEquivalent before after = AlphaVariants (normal_form before) (normal_form after)

-- what stands at one path in two trees, identifiers both: as what the first one stands
pub record Beside (t u : Node) (r : Standing) (a b : Ident) : Type 0 where
  pub path : Path
  pub place : Place
  pub kind : Kind
  pub other : Place
  pub its_kind : Kind
  pub stands : place_at program_place t path ≡ Some (place, Identifier kind a)
  pub stands_there : place_at program_place u path ≡ Some (other, Identifier its_kind b)
  pub stands_so : place.standing ≡ r

-- the id of a free name
abbrev pub HasFreeId : ℕ → Ident → Type 0
HasFreeId unresolved i = i.ctxt ≡ unresolved ∷ []

-- what is seen of two trees that were resolved: other texts are the same, free names are free names of the same text, and ids fall
-- together in one exactly if in the other
pub record IdsCorrespond (unresolved free : ℕ) (t u : Node) : Type 0 where
  pub others : (r : Standing) (a b : Ident) → Beside t u r a b → ¬ IsTrue (is_name r) → a.sym ≡ b.sym
  pub free_both : (r : Standing) (a b : Ident) → Beside t u r a b → IsTrue (is_name r) → HasFreeId unresolved a ↔ HasFreeId free b
  pub free_stays : (r : Standing) (a b : Ident) → Beside t u r a b → IsTrue (is_name r) → HasFreeId unresolved a → a.sym ≡ b.sym
  pub one_to_one : (r v : Standing) (a b c d : Ident) → Beside t u r a b → IsTrue (is_name r) → Beside t u v c d → IsTrue (is_name v) → SameId a c ↔ SameId b d
