-- Identifiers at their paths: as ids, and as the tree is read by ids.
use Rattle.std.proofs.Common.{◌≡◌, ℕ, Some, None, Option, List, [], refl, sym, ap, ◌∙◌}
use Rattle.std.specs.Option.{option_and_then, option_map}
use Rattle.swc_tree_marks.specs.declared.ident.Ident.{Ident}
use Rattle.swc_tree_node.specs.declared.kind.Kind.{Kind}
use Rattle.swc_tree_node.specs.declared.node.Node.{Node, Identifier, out-Node}
use Rattle.swc_tree_node.specs.declared.node.Node.TheOpen.{Node-F}
use Rattle.swc_tree_node.specs.declared.node.Node.TheVariants.{outs-Identifier}
use Rattle.swc_tree_scoping.specs.declared.places.Standing.{Standing}
use Rattle.swc_tree_scoping.specs.declared.places.Place.{Place}
use Rattle.swc_tree_scoping.specs.declared.places.Scope.{Scope}
use Rattle.swc_tree_scoping.specs.Places.{Path, place_at, program_place}
use Rattle.swc_tree_scoping.specs.Scopes.{first_that, is_taken, rounds, scope_at, taker}
use Rattle.swc_tree_scoping.specs.BoundNames.{Id, name_in}
use Rattle.swc_tree_scoping.specs.Readings.{by_ids, id_name}
use Rattle.swc_tree_scoping.specs.WellScoped.{Stands}
use Rattle.swc_tree_scoping.proofs.Remarked.{identifier_is}
use Rattle.swc_tree_renaming.proofs.Blank.{rounds_same, scope_at_same}
use Rattle.swc_tree_renaming.proofs.Shape.{nameless_by_ids, same_scopes, some_same}
use Rattle.swc_tree_renaming.proofs.Whole.{id_name_apart, stands_by_id}
use Rattle.swc_base_rename_analysis.specs.Ids.{id_at}

abbrev pub by_id : Ident → Ident
by_id i = record i { sym = id_name i; ctxt = [] }

abbrev pub id_of : Ident → Id
id_of i = (i.sym, i.ctxt)

-- an identifier stands at a path
pub record IsAt (t : Node) (p : Path) (r : Standing) (i : Ident) : Type 0 where
  pub place : Place
  pub kind : Kind
  pub stands : place_at program_place t p ≡ Some (place, Identifier kind i)
  pub stands_so : place.standing ≡ r

identifier_same : (k l : Kind) (i j : Ident) → Identifier k i ≡ Identifier l j → i ≡ j
identifier_same k l i j e = let o = sym (outs-Identifier k i) ∙ ap out-Node e ∙ outs-Identifier l j in cc

-- what is read by ids stands there
pub from_ids : (t : Node) (p : Path) (r : Standing) (x : List ℕ) → Stands (by_ids t) p r x → (i : Ident) × IsAt t p r i × (id_name i ≡ x)
from_ids t p r x s =
    let same = same_scopes t (by_ids t) (sym (nameless_by_ids t)) in
    let (l, j, e) = same.back p s.place s.kind s.identifier s.stands in
    let node : Identifier s.kind s.identifier ≡ Identifier l (by_id j)
    = ap (λ (q : Place × Node). q.1) (some_same (s.place, Identifier s.kind s.identifier) (s.place, Identifier l (by_id j)) (sym s.stands ∙ stands_by_id t p s.place l j e)) in
    let is : s.identifier ≡ by_id j = identifier_same s.kind l s.identifier (by_id j) node in
    (j, record { place = s.place; kind = l; stands = e; stands_so = s.stands_so }, ap (λ (i : Ident). i.sym) (sym is) ∙ s.named)

pub to_ids : (t : Node) (p : Path) (r : Standing) (i : Ident) → IsAt t p r i → Stands (by_ids t) p r (id_name i)
to_ids t p r i a = record { place = a.place; kind = a.kind; identifier = by_id i; stands = stands_by_id t p a.place a.kind i a.stands; stands_so = a.stands_so; named = refl }

-- an id at a path
pub to_id : (t : Node) (p : Path) (r : Standing) (i : Ident) → IsAt t p r i → id_at t p ≡ Some (r, id_of i)
to_id t p r i a =
    ap (option_and_then (λ (q : Place × Node). option_map (λ i. (q.0.standing, (i.sym, i.ctxt))) (name_in (out-Node q.1)))) a.stands
    ∙ ap (λ y. option_map (λ i. (a.place.standing, (i.sym, i.ctxt))) (name_in y)) (outs-Identifier a.kind i)
    ∙ ap (λ r. Some (r, (i.sym, i.ctxt))) a.stands_so

abbrev read_in : Place → Node-F Node → Option (Standing × Id)
read_in v y = option_map (λ i. (v.standing, (i.sym, i.ctxt))) (name_in y)

abbrev read_id : Place × Node → Option (Standing × Id)
read_id q = read_in q.0 (out-Node q.1)

some_pair : {a b : Standing × Id} → Some a ≡ Some b → a ≡ b
some_pair e = cc

pub from_id : (t : Node) (p : Path) (r : Standing) (x : Id) → id_at t p ≡ Some (r, x) → (i : Ident) × IsAt t p r i × (id_of i ≡ x)
from_id t p r x h = at (place_at program_place t p) refl h
  where
    at : (o : Option (Place × Node)) → place_at program_place t p ≡ o → option_and_then read_id o ≡ Some (r, x)
        → (i : Ident) × IsAt t p r i × (id_of i ≡ x)
    at None e h = absurd (cc)
    at (Some (v, n)) e h = by (out-Node n) refl h
      where
        by : (y : Node-F Node) → out-Node n ≡ y → read_in v y ≡ Some (r, x) → (i : Ident) × IsAt t p r i × (id_of i ≡ x)
        by (Node-F.Identifier k i) o h =
            let both : (v.standing, id_of i) ≡ (r, x) = some_pair h in
            (i, record { place = v; kind = k; stands = e ∙ ap (λ n. Some (v, n)) (identifier_is n k i o); stands_so = ap (λ z. z.0) both }, ap (λ z. z.1) both)
        by Node-F.Absent o h = absurd (cc)
        by _ o h = absurd (cc)

-- one id has one name
pub one_name : (i j : Ident) → id_of i ≡ id_of j → id_name i ≡ id_name j
one_name i j e = ap (λ (x : Id). id_name (record { span = i.span; sym = x.0; ctxt = x.1 })) e

pub one_id : (i j : Ident) → id_name i ≡ id_name j → id_of i ≡ id_of j
one_id i j e = let (s, c) = id_name_apart i j e in λ l. (s l, c l)

-- scopes are those of the tree
pub rounds_by_ids : (t : Node) (p : Path) → rounds program_place (by_ids t) p ≡ rounds program_place t p
rounds_by_ids t p = rounds_same by_id p program_place t

pub taker_by_ids : (t : Node) (r : Standing) (p : Path) → taker r (by_ids t) p ≡ taker r t p
taker_by_ids t r p =
    ap (first_that (λ s. is_taken r (scope_at program_place (by_ids t) s.0))) (rounds_by_ids t p)
    ∙ ap (λ (f : Path → Option Scope). first_that (λ s. is_taken r (f s.0)) (rounds program_place t p)) (λ l s. scope_at_same by_id program_place t s l)
