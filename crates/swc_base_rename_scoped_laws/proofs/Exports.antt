-- Nothing in an export list stands as the body of a function.
use Rattle.std.proofs.Common.{◌≡◌, ◌≢◌, ℕ, zero, suc, Bool, true, false, not, ◌&&◌, ◌||◌, ◌==◌, IsTrue, Option, Some, None, List, [], ◌∷◌, ◌++◌, map, refl, sym, ap, ◌∙◌, subst, cond, true≢false}
use Rattle.std.specs.List.{slice_get}
use Rattle.std.specs.Option.{option_map, unwrap_or}
use Rattle.swc_tree_marks.specs.declared.ident.Ident.{Ident}
use Rattle.swc_tree_node.specs.declared.kind.Kind.{Kind}
use Rattle.swc_tree_node.specs.declared.kind.Kind.TheVariants as kind
use Rattle.swc_tree_node.specs.declared.kind.Class.{Class}
use Rattle.swc_tree_node.specs.declared.kind.Class.TheVariants as class
use Rattle.swc_tree_node.specs.declared.slot.Content.TheVariants as content
use Rattle.swc_tree_node.specs.declared.slot.Slot.{Slot}
use Rattle.swc_tree_node.specs.declared.slot.Slot.TheVariants as slot
use Rattle.swc_tree_node.specs.declared.slot.Role.{Role}
use Rattle.swc_tree_node.specs.declared.slot.Role.TheVariants as role
use Rattle.swc_tree_node.specs.declared.node.Node.{Node, Identifier, Tree, out-Node}
use Rattle.swc_tree_node.specs.declared.node.Node.TheOpen.{Node-F}
use Rattle.swc_tree_node.specs.declared.node.Node.TheVariants.{outs-Tree}
use Rattle.swc_tree_node.specs.Table.{fields_of, is_identifier, slots_of}
use Rattle.swc_tree_node.specs.Fits.{Fits, Test, belongs, each_fits, fits, single, tree_fits}
use Rattle.swc_tree_node.proofs.Fit.{both}
use Rattle.swc_tree_scoping.specs.declared.places.Standing.{Standing}
use Rattle.swc_tree_scoping.specs.declared.places.Standing.TheVariants as standing
use Rattle.swc_tree_scoping.specs.declared.places.Place.{Place}
use Rattle.swc_tree_scoping.specs.Places.{Path, child, children_in, place_at, place_below, place_in, plain_standing, program_place, standing_below}
use Rattle.swc_tree_scoping.specs.WellScoped.{InExportList}
use Rattle.swc_tree_scoping.proofs.Under.{no_place_under, place_under}
use Rattle.swc_tree_sites.proofs.Leaves.{Field}
use Rattle.swc_base_rename_scoped_laws.proofs.ByIds.{IsAt}
use Rattle.swc_base_rename_scoped_laws.proofs.Fields.{field_at, item_at, item_of, layer}
use Rattle.swc_base_rename_scoped_laws.proofs.Openings.{field_stands}

-- what may stand in an export list
abbrev is_listed : Class → Bool
is_listed class.ExportSpecifier = true
is_listed class.ModuleExportName = true
is_listed _ = false

abbrev is_quiet : Slot → Bool
is_quiet (slot.One (content.Node c)) = is_listed c
is_quiet (slot.Optional (content.Node c)) = is_listed c
is_quiet (slot.List (content.Node c)) = is_listed c
is_quiet (slot.One content.Span) = true
is_quiet (slot.One content.Text) = true
is_quiet (slot.Optional content.Text) = true
is_quiet _ = false

abbrev is_quiet_kind : Kind → Bool
is_quiet_kind kind.ExportNamespaceSpecifier = true
is_quiet_kind kind.ExportNamedSpecifier = true
is_quiet_kind kind.Ident = true
is_quiet_kind kind.Str = true
is_quiet_kind _ = false

abbrev is_still : Role → Bool
is_still role.Plain = true
is_still role.Inherited = true
is_still role.Exported = true
is_still _ = false

abbrev is_list_role : Role → Bool
is_list_role role.ExportLocal = true
is_list_role _ = false

abbrev implies : Bool → Bool → Bool
implies a b = cond a b true

abbrev field_quiet : Kind → Field → Bool
field_quiet k f = implies (is_quiet_kind k) (is_quiet f.1 && is_still f.2) && implies (is_list_role f.2) (is_quiet f.1)

abbrev all_quiet : Kind → List Field → Bool
all_quiet k [] = true
all_quiet k (f ∷ fs) = field_quiet k f && all_quiet k fs

kind_quiet : (k : Kind) → all_quiet k (fields_of k) ≡ true
kind_quiet kind.Module = refl
kind_quiet _ = refl

first_true : (a b : Bool) → (a && b) ≡ true → a ≡ true
first_true true b h = refl
first_true false b h = absurd (cc)

second_true : (a b : Bool) → (a && b) ≡ true → b ≡ true
second_true true b h = h
second_true false b h = absurd (cc)

quiet_at : (k : Kind) (fs : List Field) (i : ℕ) (f : Field) → all_quiet k fs ≡ true → slice_get fs i ≡ Some f → field_quiet k f ≡ true
quiet_at k [] i f h e = absurd (cc)
quiet_at k (x ∷ fs) zero f h e = let same : x ≡ f = cc in ap (field_quiet k) (sym same) ∙ first_true (field_quiet k x) (all_quiet k fs) h
quiet_at k (x ∷ fs) (suc i) f h e = quiet_at k fs i f (second_true (field_quiet k x) (all_quiet k fs) h) e

then_so : (a b : Bool) → implies a b ≡ true → a ≡ true → b ≡ true
then_so true b h e = h
then_so false b h e = absurd (cc)

-- the kinds that stand there
specifier_kind : (k : Kind) → IsTrue (belongs k class.ExportSpecifier) → is_quiet_kind k ≡ true
specifier_kind kind.ExportNamespaceSpecifier h = refl
specifier_kind kind.ExportNamedSpecifier h = refl
specifier_kind _ h = absurd (true≢false (sym h))

name_kind : (k : Kind) → IsTrue (belongs k class.ModuleExportName) → is_quiet_kind k ≡ true
name_kind kind.Ident h = refl
name_kind kind.Str h = refl
name_kind _ h = absurd (true≢false (sym h))

class_kind : (k : Kind) (c : Class) → is_listed c ≡ true → IsTrue (belongs k c) → is_quiet_kind k ≡ true
class_kind k class.ExportSpecifier q h = specifier_kind k h
class_kind k class.ModuleExportName q h = name_kind k h
class_kind k _ q h = absurd (cc)

tree_kind : (k : Kind) (fs : List Test) (s : Slot) → is_quiet s ≡ true → IsTrue (tree_fits k fs (single s)) → is_quiet_kind k ≡ true
tree_kind k fs (slot.One (content.Node c)) q h = class_kind k c q (both (belongs k c) (each_fits (slots_of k) fs) (both (not (is_identifier k)) (belongs k c && each_fits (slots_of k) fs) h).1).0
tree_kind k fs (slot.Optional (content.Node c)) q h = class_kind k c q (both (belongs k c) (each_fits (slots_of k) fs) (both (not (is_identifier k)) (belongs k c && each_fits (slots_of k) fs) h).1).0
tree_kind k fs (slot.One content.Span) q h = absurd (cc)
tree_kind k fs (slot.One content.Text) q h = absurd (cc)
tree_kind k fs (slot.Optional content.Text) q h = absurd (cc)
tree_kind k fs (slot.List c) q h = absurd (cc)
tree_kind k fs (slot.One _) q h = absurd (cc)
tree_kind k fs (slot.Optional _) q h = absurd (cc)
tree_kind k fs _ q h = absurd (cc)

item_quiet : (s u : Slot) → item_of s u → is_quiet s ≡ true → is_quiet u ≡ true
item_quiet (slot.List (content.Node c)) u e q = ap is_quiet e ∙ q
item_quiet (slot.List _) u e q = absurd (cc)
item_quiet (slot.One c) u e q = absurd e
item_quiet (slot.Optional c) u e q = absurd e
item_quiet _ u e q = absurd (cc)

-- as what it stands
chosen : (b : Bool) (r : Standing) → r ≢ standing.Body → cond b standing.Reference r ≢ standing.Body
chosen true r h e = absurd (cc)
chosen false r h e = h e

branch_not : (b : Bool) → cond b standing.Branch standing.Plain ≢ standing.Body
branch_not true e = absurd (cc)
branch_not false e = absurd (cc)

default_not : (b : Bool) → cond b standing.DefaultExport standing.Plain ≢ standing.Body
default_not true e = absurd (cc)
default_not false e = absurd (cc)

plain_not : (k : Kind) (i : ℕ) → plain_standing k i ≢ standing.Body
plain_not kind.IfStmt i = branch_not (i == 2 || i == 3)
plain_not kind.ExportDefaultDecl i = default_not (i == 1)
plain_not _ i = λ e. absurd (cc)

still_not : (w : Place) (k : Kind) (ts : List Node) (i : ℕ) (x : Role) → is_still x ≡ true → w.standing ≢ standing.Body → standing_below w k ts i x ≢ standing.Body
still_not w k ts i role.Plain q h = plain_not k i
still_not w k ts i role.Inherited q h = chosen _ w.standing h
still_not w k ts i role.Exported q h = λ e. absurd (cc)
still_not w k ts i _ q h = absurd (cc)

list_not : (b : Bool) → cond b standing.Imported standing.Reference ≢ standing.Body
list_not true e = absurd (cc)
list_not false e = absurd (cc)

no_child : {A : Type 0} (t c : Node) (j : ℕ) (y : Node-F Node) → out-Node t ≡ y → slice_get (children_in y) j ≡ None → child t j ≡ Some c → A
no_child t c j y o n e = let z : Some c ≡ None = sym e ∙ ap (λ y. slice_get (children_in y) j) o ∙ n in absurd (cc)

no_place : (z : Place × Node) → Some z ≡ None → ⊥
no_place z e = absurd (cc)

first_place : (a b : Place × Node) → Some a ≡ Some b → a.0 ≡ b.0
first_place a b e = ap (λ (z : Place × Node). z.0) (same a b e)
  where
    same : (a b : Place × Node) → Some a ≡ Some b → a ≡ b
    same a b e = cc

quiet_below : (p : Path) (w v : Place) (t n : Node) (s : Slot) → Fits t s → is_quiet s ≡ true → w.standing ≢ standing.Body → place_at w t p ≡ Some (v, n) → v.standing ≢ standing.Body
quiet_below [] w v t n s fit q h e = subst (λ (z : Place). z.standing ≢ standing.Body) (first_place (w, t) (v, n) e) h
quiet_below (j ∷ p) w v t n s fit q h e = at (child t j) refl (λ c u. quiet_below p (place_below w t j) v c n u)
  where
    at : (o : Option Node) → child t j ≡ o → ((c : Node) (u : Slot) → Fits c u → is_quiet u ≡ true → (place_below w t j).standing ≢ standing.Body → place_at (place_below w t j) c p ≡ Some (v, n) → v.standing ≢ standing.Body)
        → v.standing ≢ standing.Body
    at None z more = absurd (no_place (v, n) (sym e ∙ no_place_under w t j p z))
    at (Some c) z more = forms (out-Node t) refl
      where
        below : place_at (place_below w t j) c p ≡ Some (v, n)
        below = sym (place_under w t c j p z) ∙ e

        forms : (y : Node-F Node) → out-Node t ≡ y → v.standing ≢ standing.Body
        forms (Node-F.Tree k ts) o =
            let (f, number, fits_it) = field_at t c k ts s j o fit z in
            let test = quiet_at k (fields_of k) j f (kind_quiet k) number in
            let parts = then_so (is_quiet_kind k) (is_quiet f.1 && is_still f.2) (first_true (implies (is_quiet_kind k) (is_quiet f.1 && is_still f.2)) (implies (is_list_role f.2) (is_quiet f.1)) test)
            (tree_kind k (map fits ts) s q (layer t (Node-F.Tree k ts) s o fit)) in
            more c f.1 fits_it (first_true (is_quiet f.1) (is_still f.2) parts)
            (subst (λ r. r ≢ standing.Body) (sym (field_stands w t k ts j f o number)) (still_not w k ts j f.2 (second_true (is_quiet f.1) (is_still f.2) parts) h)) below
        forms (Node-F.List ts) o =
            let (u, fits_it, one) = item_at t c ts s j o fit z in
            more c u fits_it (item_quiet s u one q) (subst (λ y. (place_in w y j).standing ≢ standing.Body) (sym o) (chosen _ w.standing h)) below
        forms Node-F.Absent o = no_child t c j Node-F.Absent o refl z
        forms (Node-F.Flag x) o = no_child t c j (Node-F.Flag x) o refl z
        forms (Node-F.Word x) o = no_child t c j (Node-F.Word x) o refl z
        forms (Node-F.Text x) o = no_child t c j (Node-F.Text x) o refl z
        forms (Node-F.Span x) o = no_child t c j (Node-F.Span x) o refl z
        forms (Node-F.Identifier l i) o = no_child t c j (Node-F.Identifier l i) o refl z

-- what fits has parts that fit
abbrev pub Part : Path → Path → Place → Place → Node → Node → Type 0
Part q p w v t n = (x : Place) × (m : Node) × (u : Slot) × (place_at w t q ≡ Some (x, m)) × Fits m u × (place_at x m p ≡ Some (v, n))

pub part_fits : (q p : Path) (w v : Place) (t n : Node) (s : Slot) → Fits t s → place_at w t (q ++ p) ≡ Some (v, n) → Part q p w v t n
part_fits [] p w v t n s fit e = (w, t, s, refl, fit, e)
part_fits (j ∷ q) p w v t n s fit e = at (child t j) refl (λ c u. part_fits q p (place_below w t j) v c n u)
  where
    at : (o : Option Node) → child t j ≡ o
        → ((c : Node) (u : Slot) → Fits c u → place_at (place_below w t j) c (q ++ p) ≡ Some (v, n) → Part q p (place_below w t j) v c n) → Part (j ∷ q) p w v t n
    at None z more = absurd (no_place (v, n) (sym e ∙ no_place_under w t j (q ++ p) z))
    at (Some c) z more = forms (out-Node t) refl
      where
        lifted : (u : Slot) → Fits c u → Part (j ∷ q) p w v t n
        lifted u f = let (x, m, y, there, g, on) = more c u f (sym (place_under w t c j (q ++ p) z) ∙ e) in (x, m, y, place_under w t c j q z ∙ there, g, on)

        forms : (y : Node-F Node) → out-Node t ≡ y → Part (j ∷ q) p w v t n
        forms (Node-F.Tree k ts) o = let (f, number, fits_it) = field_at t c k ts s j o fit z in lifted f.1 fits_it
        forms (Node-F.List ts) o = let (u, fits_it, one) = item_at t c ts s j o fit z in lifted u fits_it
        forms Node-F.Absent o = no_child t c j Node-F.Absent o refl z
        forms (Node-F.Flag x) o = no_child t c j (Node-F.Flag x) o refl z
        forms (Node-F.Word x) o = no_child t c j (Node-F.Word x) o refl z
        forms (Node-F.Text x) o = no_child t c j (Node-F.Text x) o refl z
        forms (Node-F.Span x) o = no_child t c j (Node-F.Span x) o refl z
        forms (Node-F.Identifier l i) o = no_child t c j (Node-F.Identifier l i) o refl z

same_part : (a b : Place × Node) → Some a ≡ Some b → a ≡ b
same_part a b e = cc

pub no_body_exported : (t : Node) (s : Slot) → Fits t s → (p : Path) (i : Ident) → InExportList t p → IsAt t p standing.Body i → ⊥
no_body_exported t s fit p i (q, below, j, w, k, ts, path, there, listed) a =
    by (part_fits q (j ∷ below) program_place a.place t (Identifier a.kind i) s fit (ap (place_at program_place t) (sym path) ∙ a.stands))
  where
    by : Part q (j ∷ below) program_place a.place t (Identifier a.kind i) → ⊥
    by (x, m, u, here, g, on) = at (child m j) refl
      where
        one : m ≡ Tree k ts
        one = ap (λ (z : Place × Node). z.1) (same_part (x, m) (w, Tree k ts) (sym here ∙ there))

        form : out-Node m ≡ Node-F.Tree k ts
        form = ap out-Node one ∙ outs-Tree k ts

        at : (o : Option Node) → child m j ≡ o → ⊥
        at None z = no_place (a.place, Identifier a.kind i) (sym on ∙ no_place_under x m j below z)
        at (Some c) z =
            let (f, number, fits_it) = field_at m c k ts u j form g z in
            let test = quiet_at k (fields_of k) j f (kind_quiet k) number in
            let is_list : f.2 ≡ role.ExportLocal = sym (ap (λ o. unwrap_or (option_map (λ (f : Field). f.2) o) role.Plain) number) ∙ listed in
            let quiet = then_so (is_list_role f.2) (is_quiet f.1) (second_true (implies (is_quiet_kind k) (is_quiet f.1 && is_still f.2)) (implies (is_list_role f.2) (is_quiet f.1)) test) (ap is_list_role is_list) in
            quiet_below below (place_below x m j) a.place c (Identifier a.kind i) f.1 fits_it quiet
            (subst (λ r. r ≢ standing.Body) (sym (field_stands x m k ts j f form number ∙ ap (standing_below x k ts j) is_list)) (list_not _)) (sym (place_under x m c j below z) ∙ on) a.stands_so
