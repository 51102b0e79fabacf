-- Where a unit stands in a tree that fits: as no default export, and not as the body of a `for` statement.
use Rattle.std.proofs.Common.{◌≡◌, ℕ, Bool, true, false, Option, Some, None, List, [], ◌∷◌, refl, sym, ap, ◌∙◌, subst, map}
use Rattle.std.specs.List.{slice_get}
use Rattle.std.specs.Prelude.{IsTrue, zero, suc}
use Rattle.swc_tree_node.specs.declared.kind.Kind.{Kind}
use Rattle.swc_tree_node.specs.declared.kind.Kind.TheVariants as kind
use Rattle.swc_tree_node.specs.declared.kind.Class.{Class}
use Rattle.swc_tree_node.specs.declared.kind.Class.TheVariants as class
use Rattle.swc_tree_node.specs.declared.slot.Content.TheVariants as content
use Rattle.swc_tree_node.specs.declared.slot.Slot.{Slot}
use Rattle.swc_tree_node.specs.declared.slot.Slot.TheVariants as slot
use Rattle.swc_tree_node.specs.declared.node.Node.{Node, out-Node}
use Rattle.swc_tree_node.specs.declared.node.Node.TheOpen.{Node-F}
use Rattle.swc_tree_node.specs.Table.{fields_of}
use Rattle.swc_tree_node.specs.Fits.{Fits, Test, fits, identifier_fits, tree_fits}
use Rattle.swc_tree_scoping.specs.declared.places.Place.{Place}
use Rattle.swc_tree_scoping.specs.Places.{Path, child, given, is_at, place_at, place_below, place_in, program_place}
use Rattle.swc_tree_scoping.proofs.Under.{place_under}
use Rattle.swc_tree_sites.proofs.Leaves.{Field}
use Rattle.swc_base_rename_units.specs.Eval.{node_at}
use Rattle.swc_base_rename_units.specs.Units.{IsUnit, is_unit_below, is_unit_in, is_unit_kind}
use Rattle.swc_base_rename_analysis.specs.Analysis.{body_field, is_default_export, is_for_body}
use Rattle.swc_base_rename_analysis.specs.Laws.{is_body_at}
use Rattle.swc_base_rename_analysis_laws.proofs.Items.{some_same}
use Rattle.swc_base_rename_analysis_laws.proofs.Paths.{body_below, place_below_at}
use Rattle.swc_base_rename_scoped_laws.proofs.Fields.{field_at, item_at, layer}
use Rattle.swc_base_rename_scoped_laws.proofs.Openings.{field_stands}
use Rattle.swc_base_rename_scoped_laws.proofs.Takers.{body_number, no_child}
use Rattle.swc_base_renaming_laws.proofs.UnitsFitting.{IsDefaultThere, field_default, fits_below, list_elsewhere, no, part_default}
use Rattle.swc_base_renaming_laws.proofs.Roots.{IsAloneAt, is_alone}

-- a node at a path has a place
place_of : (p : Path) (w : Place) (t n : Node) → node_at t p ≡ Some n → (x : Place) × (place_at w t p ≡ Some (x, n))
place_of [] w t n h = (w, ap (λ n. Some (w, n)) (some_same h))
place_of (i ∷ p) w t n h = at (child t i) refl (λ c. place_of p (place_below w t i) c n)
  where
    nothing : (n : Node) → None ≡ Some n → ⊥
    nothing n e = absurd (cc)

    at : (o : Option Node) → child t i ≡ o → ((c : Node) → node_at c p ≡ Some n → (x : Place) × (place_at (place_below w t i) c p ≡ Some (x, n))) → (x : Place) × (place_at w t (i ∷ p) ≡ Some (x, n))
    at None e more = absurd (nothing n (sym (ap (λ o. given o None (λ c. node_at c p)) e) ∙ h))
    at (Some c) e more = let (x, there) = more c (sym (ap (λ o. given o None (λ c. node_at c p)) e) ∙ h) in (x, place_under w t c i p e ∙ there)

-- a tree of the kinds
abbrev pub IsOfKind : (Kind → Bool) → Node → Type 0
IsOfKind test v = (k : Kind) × (ts : List Node) × (out-Node v ≡ Node-F.Tree k ts) × (test k ≡ true)

unit_kind : (v : Node) (y : Node-F Node) → out-Node v ≡ y → is_unit_in y ≡ true → IsOfKind is_unit_kind v
unit_kind v (Node-F.Tree k ts) o h = (k, ts, o, h)
unit_kind v Node-F.Absent o h = no h
unit_kind v _ o h = no h

-- what a declaration has that is named alone
function_kind : (k : Kind) (fs : List Test) → IsTrue (tree_fits k fs (Some (content.Node class.Function))) → is_alone k ≡ true
function_kind kind.Function fs h = refl
function_kind _ fs h = absurd (cc)

class_kind : (k : Kind) (fs : List Test) → IsTrue (tree_fits k fs (Some (content.Node class.Class))) → is_alone k ≡ true
class_kind kind.Class fs h = refl
class_kind _ fs h = absurd (cc)

function_named : (k : Kind) → IsTrue (identifier_fits k (Some (content.Node class.Function))) → ⊥
function_named kind.Ident h = absurd (cc)
function_named _ h = absurd (cc)

class_named : (k : Kind) → IsTrue (identifier_fits k (Some (content.Node class.Class))) → ⊥
class_named kind.Ident h = absurd (cc)
class_named _ h = absurd (cc)

only_trees : (c : Class) → ((k : Kind) (fs : List Test) → IsTrue (tree_fits k fs (Some (content.Node c))) → is_alone k ≡ true) → ((k : Kind) → IsTrue (identifier_fits k (Some (content.Node c))) → ⊥)
    → (v : Node) (y : Node-F Node) → out-Node v ≡ y → Fits v (slot.One (content.Node c)) → IsOfKind is_alone v
only_trees c trees names v (Node-F.Tree k ts) o h = (k, ts, o, trees k (map fits ts) (layer v (Node-F.Tree k ts) (slot.One (content.Node c)) o h))
only_trees c trees names v (Node-F.Identifier k i) o h = absurd (names k (layer v (Node-F.Identifier k i) (slot.One (content.Node c)) o h))
only_trees c trees names v Node-F.Absent o h = no (layer v Node-F.Absent (slot.One (content.Node c)) o h)
only_trees c trees names v (Node-F.Flag x) o h = no (layer v (Node-F.Flag x) (slot.One (content.Node c)) o h)
only_trees c trees names v (Node-F.Word x) o h = no (layer v (Node-F.Word x) (slot.One (content.Node c)) o h)
only_trees c trees names v (Node-F.Text x) o h = no (layer v (Node-F.Text x) (slot.One (content.Node c)) o h)
only_trees c trees names v (Node-F.Span x) o h = no (layer v (Node-F.Span x) (slot.One (content.Node c)) o h)
only_trees c trees names v (Node-F.List x) o h = no (layer v (Node-F.List x) (slot.One (content.Node c)) o h)

units_are_alone : (k : Kind) → is_unit_kind k ≡ true → is_alone k ≡ true
units_are_alone kind.ArrowExpr h = refl
units_are_alone kind.FnExpr h = refl
units_are_alone kind.MethodProp h = refl
units_are_alone kind.GetterProp h = refl
units_are_alone kind.SetterProp h = refl
units_are_alone kind.ClassMethod h = refl
units_are_alone kind.PrivateMethod h = refl
units_are_alone kind.Constructor h = refl
units_are_alone _ h = absurd (cc)

unit_alone : (v : Node) → is_unit_in (out-Node v) ≡ true → IsOfKind is_alone v
unit_alone v h = let (k, ts, o, is) = unit_kind v (out-Node v) refl h in (k, ts, o, units_are_alone k is)

-- no unit is a statement
no_statement : (k : Kind) (fs : List Test) → is_unit_kind k ≡ true → IsTrue (tree_fits k fs (Some (content.Node class.Stmt))) → ⊥
no_statement kind.ArrowExpr fs u h = absurd (cc)
no_statement kind.FnExpr fs u h = absurd (cc)
no_statement kind.MethodProp fs u h = absurd (cc)
no_statement kind.GetterProp fs u h = absurd (cc)
no_statement kind.SetterProp fs u h = absurd (cc)
no_statement kind.ClassMethod fs u h = absurd (cc)
no_statement kind.PrivateMethod fs u h = absurd (cc)
no_statement kind.Constructor fs u h = absurd (cc)
no_statement _ fs u h = absurd (cc)

unit_no_statement : (v : Node) → is_unit_in (out-Node v) ≡ true → Fits v (slot.One (content.Node class.Stmt)) → ⊥
unit_no_statement v h fit = let (k, ts, o, is) = unit_kind v (out-Node v) refl h in no_statement k (map fits ts) is (layer v (Node-F.Tree k ts) (slot.One (content.Node class.Stmt)) o fit)

-- of a field: what it is, and that it is no default export and no body of a `for` statement
abbrev IsUnitThere : Kind → ℕ → Node → Type 0
IsUnitThere k i v = IsOfKind is_alone v × ((k ≡ kind.ExportDefaultDecl → ⊥) × (is_at (body_field k) i ≡ true → Fits v (slot.One (content.Node class.Stmt)) → ⊥))

field_unit : (k : Kind) (ts : List Node) (i : ℕ) (f : Field) (v : Node) → slice_get (fields_of k) i ≡ Some f → Fits v f.1 → is_unit_below (Node-F.Tree k ts) i (out-Node v) ≡ true → IsUnitThere k i v
field_unit kind.FnDecl ts zero f v e fit h = no h
field_unit kind.FnDecl ts (suc zero) f v e fit h =
    (only_trees class.Function function_kind function_named v (out-Node v) refl (subst (Fits v) (sym (ap (λ (f : Field). f.1) (some_same e))) fit), ((λ d. absurd (cc)), λ b. no b))
field_unit kind.FnDecl ts (suc (suc i)) f v e fit h = absurd (cc)
field_unit kind.ClassDecl ts zero f v e fit h = no h
field_unit kind.ClassDecl ts (suc zero) f v e fit h =
    (only_trees class.Class class_kind class_named v (out-Node v) refl (subst (Fits v) (sym (ap (λ (f : Field). f.1) (some_same e))) fit), ((λ d. absurd (cc)), λ b. no b))
field_unit kind.ClassDecl ts (suc (suc i)) f v e fit h = absurd (cc)
field_unit kind.ExportDefaultDecl ts i f v e fit h = no h
field_unit _ ts i f v e fit h = (unit_alone v h, ((λ d. absurd (cc)), λ b. unit_no_statement v h))

-- a unit stands in a tree that fits as one that is named alone may
pub record IsUnitAt (t : Node) (p : Path) (v : Node) : Type 0 where
  pub place : Place
  pub there : place_at program_place t p ≡ Some (place, v)
  pub alone : IsAloneAt place v
  pub no_body : is_body_at false t p ≡ false

is_false : (b : Bool) → (b ≡ true → ⊥) → b ≡ false
is_false true h = absurd (h refl)
is_false false h = refl

pub unit_at : (t : Node) (s : Slot) (p : Path) (v : Node) → Fits t s → IsUnit t p v → IsUnitAt t p v
unit_at t s p v fit unit = at (place_of unit.above program_place t unit.parent unit.parent_there)
  where
    at : (x : Place) × (place_at program_place t unit.above ≡ Some (x, unit.parent)) → IsUnitAt t p v
    at (x, above) = by (fits_below unit.above program_place x t unit.parent s fit (λ h. no h) above)
      where
        there : place_at program_place t p ≡ Some (place_below x unit.parent unit.index, v)
        there = ap (place_at program_place t) unit.path ∙ place_below_at unit.above unit.index program_place t x unit.parent v above unit.there

        body : is_body_at false t p ≡ is_for_body (out-Node unit.parent) unit.index
        body = ap (is_body_at false t) unit.path ∙ body_below unit.above unit.index false program_place t x unit.parent v above unit.there

        by : (u : Slot) × Fits unit.parent u × IsDefaultThere x u → IsUnitAt t p v
        by (u, fits_it, default) = forms (out-Node unit.parent) refl
          where
            made : (y : Slot) → IsOfKind is_alone v → Fits v y → is_default_export (place_below x unit.parent unit.index).standing ≡ false → is_for_body (out-Node unit.parent) unit.index ≡ false → IsUnitAt t p v
            made y (k, ts, o, is) fit elsewhere nobody = record {
              place = place_below x unit.parent unit.index;
              there = there;
              alone = record { kind = k; fields = ts; form = o; alone = is; slot = y; fits = fit; elsewhere = elsewhere };
              no_body = body ∙ nobody;
            }

            forms : (y : Node-F Node) → out-Node unit.parent ≡ y → IsUnitAt t p v
            forms (Node-F.Tree k ts) o =
                let (f, number, fits_v) = field_at unit.parent v k ts u unit.index o fits_it unit.there in
                let (alone, (no_export, no_stmt)) = field_unit k ts unit.index f v number fits_v (sym (ap (λ y. is_unit_below y unit.index (out-Node v)) o) ∙ unit.is_unit) in
                made f.1 alone fits_v
                (is_false _ (λ d. no_export (field_default x k ts unit.index f u number (layer unit.parent (Node-F.Tree k ts) u o fits_it) default (ap is_default_export (sym (field_stands x unit.parent k ts unit.index f o number)) ∙ d)).0))
                (is_false _ (λ b.
                let number_is = sym (ap (λ y. is_for_body y unit.index) o) ∙ b in
                no_stmt number_is (subst (Fits v) (body_number k unit.index f x ts number_is number).0 fits_v)))
            forms (Node-F.List ts) o =
                let (y, fits_v, one) = item_at unit.parent v ts u unit.index o fits_it unit.there in
                made y (unit_alone v (sym (ap (λ y. is_unit_below y unit.index (out-Node v)) o) ∙ unit.is_unit)) fits_v
                (is_false _ (λ d. list_elsewhere unit.parent ts u o fits_it (default (part_default x.standing (slice_get ts unit.index) (ap (λ y. is_default_export (place_in x y unit.index).standing) (sym o) ∙ d)))))
                (ap (λ y. is_for_body y unit.index) o)
            forms Node-F.Absent o = no_child unit.parent v unit.index Node-F.Absent o refl unit.there
            forms (Node-F.Flag a) o = no_child unit.parent v unit.index (Node-F.Flag a) o refl unit.there
            forms (Node-F.Word a) o = no_child unit.parent v unit.index (Node-F.Word a) o refl unit.there
            forms (Node-F.Text a) o = no_child unit.parent v unit.index (Node-F.Text a) o refl unit.there
            forms (Node-F.Span a) o = no_child unit.parent v unit.index (Node-F.Span a) o refl unit.there
            forms (Node-F.Identifier l i) o = no_child unit.parent v unit.index (Node-F.Identifier l i) o refl unit.there
