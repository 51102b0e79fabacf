-- What stands at a path of a tree that fits: it fits its own place, and it stands as a default export only there.
use Rattle.std.proofs.Common.{◌≡◌, ℕ, Bool, true, false, not, ◌&&◌, ◌||◌, ◌==◌, Option, Some, None, List, [], ◌∷◌, refl, sym, ap, ◌∙◌, subst, cond, map}
use Rattle.std.specs.List.{list_any, slice_get}
use Rattle.std.specs.Prelude.{IsTrue, zero, suc}
use Rattle.swc_tree_node.specs.declared.kind.Kind.{Kind}
use Rattle.swc_tree_node.specs.declared.kind.Kind.TheVariants as kind
use Rattle.swc_tree_node.specs.declared.kind.Class.TheVariants as class
use Rattle.swc_tree_node.specs.declared.kind.Word.{Word}
use Rattle.swc_tree_node.specs.declared.kind.Word.TheVariants as word
use Rattle.swc_tree_node.specs.declared.slot.Content.TheVariants as content
use Rattle.swc_tree_node.specs.declared.slot.Role.{Role}
use Rattle.swc_tree_node.specs.declared.slot.Role.TheVariants as role
use Rattle.swc_tree_node.specs.declared.slot.Slot.{Slot}
use Rattle.swc_tree_node.specs.declared.slot.Slot.TheVariants as slot
use Rattle.swc_tree_node.specs.declared.node.Node.{Node, out-Node}
use Rattle.swc_tree_node.specs.declared.node.Node.TheOpen.{Node-F}
use Rattle.swc_tree_node.specs.declared.fields.modules.named_export.TheConstants as named_export
use Rattle.swc_tree_node.specs.declared.fields.statements.fn_decl.TheConstants as fn_decl
use Rattle.swc_tree_node.specs.Table.{fields_of}
use Rattle.swc_tree_node.specs.Fits.{Fits, Test, fits, single, tree_fits}
use Rattle.swc_tree_scoping.specs.declared.places.Standing.{Standing}
use Rattle.swc_tree_scoping.specs.declared.places.Standing.TheVariants as standing
use Rattle.swc_tree_scoping.specs.declared.places.Place.{Place}
use Rattle.swc_tree_scoping.specs.Places.{Path, binds_patterns, by_keyword, by_word, child, is_identifier_expression, is_plain_function, is_there, keyword_in, own_block, own_name, part_standing, place_at, place_below, place_in, plain_standing, standing_below}
use Rattle.swc_tree_scoping.proofs.Under.{no_place_under, place_under}
use Rattle.swc_tree_sites.proofs.Leaves.{Field}
use Rattle.swc_base_rename_analysis.specs.Analysis.{is_default_export}
use Rattle.swc_base_rename_analysis_laws.proofs.Items.{some_same}
use Rattle.swc_base_rename_scoped_laws.proofs.Fields.{field_at, item_at, layer}
use Rattle.swc_base_rename_scoped_laws.proofs.Openings.{field_stands}
use Rattle.swc_base_rename_scoped_laws.proofs.Takers.{no_child}

pub no : {A : Type 0} → false ≡ true → A
no h = absurd (cc)

-- fields whose standing is that of the node
abbrev pub is_inherited : Role → Bool
is_inherited role.Inherited = true
is_inherited _ = false

abbrev pub any_inherited : List Field → Bool
any_inherited fs = list_any (λ f. is_inherited f.2) fs

either : (a b : Bool) → (a || b) ≡ false → (a ≡ false) × (b ≡ false)
either true b h = absurd (cc)
either false b h = (refl, h)

pub none_inherited : (fs : List Field) (i : ℕ) (f : Field) → any_inherited fs ≡ false → slice_get fs i ≡ Some f → is_inherited f.2 ≡ false
none_inherited [] i f h e = absurd (cc)
none_inherited (g ∷ fs) zero f h e = sym (ap (λ (f : Field). is_inherited f.2) (some_same e)) ∙ (either (is_inherited g.2) (any_inherited fs) h).0
none_inherited (g ∷ fs) (suc i) f h e = none_inherited fs i f (either (is_inherited g.2) (any_inherited fs) h).1 e

-- the place of what is exported as default
abbrev pub default_slot : Slot
default_slot = slot.One (content.Node class.DefaultDecl)

-- what stands as a default export does so there
abbrev pub IsDefaultThere : Place → Slot → Type 0
IsDefaultThere w s = is_default_export w.standing ≡ true → s ≡ default_slot

chosen : (b : Bool) (r q : Standing) → is_default_export r ≡ false → is_default_export q ≡ false → is_default_export (cond b r q) ≡ false
chosen true r q h g = h
chosen false r q h g = g

function_not : (a b : Bool) → is_default_export (cond a standing.Function (cond b standing.SloppyFunction standing.BlockFunction)) ≡ false
function_not true b = refl
function_not false true = refl
function_not false false = refl

word_not : (x : Word) → is_default_export (by_word x) ≡ false
word_not word.Var = refl
word_not _ = refl

keyword_not : (ts : List Node) → is_default_export (by_keyword ts) ≡ false
keyword_not [] = refl
keyword_not (t ∷ ts) = by (out-Node t) (keyword_not ts)
  where
    by : (y : Node-F Node) → is_default_export (by_keyword ts) ≡ false → is_default_export (keyword_in y (by_keyword ts)) ≡ false
    by (Node-F.Word x) h = word_not x
    by Node-F.Absent h = h
    by _ h = h

-- by the standing alone, then by the kind: both at once have some 2,500 cases
own_not_of_default : (k : Kind) → is_default_export (own_name standing.DefaultExport k) ≡ false
own_not_of_default kind.FnExpr = refl
own_not_of_default _ = refl

own_not_of_expression : (k : Kind) → is_default_export (own_name standing.Plain k) ≡ false
own_not_of_expression kind.FnExpr = refl
own_not_of_expression _ = refl

own_not : (r : Standing) (k : Kind) → is_default_export (own_name r k) ≡ false
own_not standing.DefaultExport k = own_not_of_default k
own_not _ k = own_not_of_expression k

pub part_default : (r : Standing) (o : Option Node) → is_default_export (part_standing r o) ≡ true → is_default_export r ≡ true
part_default r o h = by (binds_patterns r && is_identifier_expression o) h
  where
    by : (b : Bool) → is_default_export (cond b standing.Reference r) ≡ true → is_default_export r ≡ true
    by true h = no h
    by false h = h

-- a default export is none of those whose fields inherit
default_kinds : (k : Kind) (fs : List Test) → IsTrue (tree_fits k fs (single default_slot)) → any_inherited (fields_of k) ≡ false
default_kinds kind.ClassExpr fs h = refl
default_kinds kind.FnExpr fs h = refl
default_kinds _ fs h = absurd (cc)

abbrev IsExported : Kind → Field → Type 0
IsExported k f = (k ≡ kind.ExportDefaultDecl) × (f.1 ≡ default_slot)

plain_default : (k : Kind) (i : ℕ) (f : Field) → slice_get (fields_of k) i ≡ Some f → is_default_export (plain_standing k i) ≡ true → IsExported k f
plain_default kind.IfStmt i f e h = no (sym (chosen (i == 2 || i == 3) standing.Branch standing.Plain refl refl) ∙ h)
plain_default kind.ExportDefaultDecl zero f e h = no h
plain_default kind.ExportDefaultDecl (suc zero) f e h = (refl, sym (ap (λ (f : Field). f.1) (some_same e)))
plain_default kind.ExportDefaultDecl (suc (suc i)) f e h = absurd (cc)
plain_default _ i f e h = no h

-- a field that stands as a default export is the declaration of one
pub field_default : (w : Place) (k : Kind) (ts : List Node) (i : ℕ) (f : Field) (s : Slot) → slice_get (fields_of k) i ≡ Some f → IsTrue (tree_fits k (map fits ts) (single s)) → IsDefaultThere w s
    → is_default_export (standing_below w k ts i f.2) ≡ true → IsExported k f
field_default w k ts i f s e fit there h = by f.2 refl h
  where
    by : (a : Role) → f.2 ≡ a → is_default_export (standing_below w k ts i a) ≡ true → IsExported k f
    by role.Plain is h = plain_default k i f e h
    by role.Inherited is h =
        let here = there (part_default w.standing (slice_get ts i) h) in
        let none = none_inherited (fields_of k) i f (default_kinds k (map fits ts) (subst (λ s. IsTrue (tree_fits k (map fits ts) (single s))) here fit)) e in
        no (sym none ∙ ap is_inherited is)
    by role.Declared is h = no (sym (keyword_not ts) ∙ h)
    by role.Function is h = no (sym (function_not (not (w.nested || own_block w)) (not w.strict && is_plain_function (slice_get ts fn_decl.FUNCTION))) ∙ h)
    by role.OwnName is h = no (sym (own_not w.standing k) ∙ h)
    by role.Parameter is h = no (sym (chosen (is_identifier_expression (slice_get ts i)) standing.Reference standing.Parameter refl refl) ∙ h)
    by role.Catch is h = no (sym (chosen (is_identifier_expression (slice_get ts i)) standing.Reference standing.CatchParameter refl refl) ∙ h)
    by role.ExportLocal is h = no (sym (chosen (is_there (slice_get ts named_export.SRC)) standing.Imported standing.Reference refl refl) ∙ h)
    by _ is h = no h

pub list_elsewhere : (t : Node) (ts : List Node) (s : Slot) → out-Node t ≡ Node-F.List ts → Fits t s → s ≡ default_slot → ⊥
list_elsewhere t ts s o fit e = let h = layer t (Node-F.List ts) default_slot o (subst (Fits t) e fit) in absurd (cc)

-- what stands at a path
abbrev pub IsFitting : Place → Node → Type 0
IsFitting x n = (u : Slot) × Fits n u × IsDefaultThere x u

pub fits_below : (p : Path) (w x : Place) (t n : Node) (s : Slot) → Fits t s → IsDefaultThere w s → place_at w t p ≡ Some (x, n) → IsFitting x n
fits_below [] w x t n s fit there e =
    (s, subst (λ (z : Place × Node). Fits z.1 s) (some_same e) fit, λ h. there (ap (λ (z : Place × Node). is_default_export z.0.standing) (some_same e) ∙ h))
fits_below (j ∷ p) w x t n s fit there e = at (child t j) refl (λ c u. fits_below p (place_below w t j) x c n u)
  where
    nothing : (z : Place × Node) → Some z ≡ None → ⊥
    nothing z e = absurd (cc)

    at : (o : Option Node) → child t j ≡ o → ((c : Node) (u : Slot) → Fits c u → IsDefaultThere (place_below w t j) u → place_at (place_below w t j) c p ≡ Some (x, n) → IsFitting x n) → IsFitting x n
    at None z more = absurd (nothing (x, n) (sym e ∙ no_place_under w t j p z))
    at (Some c) z more = forms (out-Node t) refl
      where
        below : place_at (place_below w t j) c p ≡ Some (x, n)
        below = sym (place_under w t c j p z) ∙ e

        forms : (y : Node-F Node) → out-Node t ≡ y → IsFitting x n
        forms (Node-F.Tree k ts) o =
            let (f, number, fits_it) = field_at t c k ts s j o fit z in
            more c f.1 fits_it (λ h. (field_default w k ts j f s number (layer t (Node-F.Tree k ts) s o fit) there (ap is_default_export (sym (field_stands w t k ts j f o number)) ∙ h)).1) below
        forms (Node-F.List ts) o =
            let (u, fits_it, one) = item_at t c ts s j o fit z in
            more c u fits_it (λ h. absurd (list_elsewhere t ts s o fit (there (part_default w.standing (slice_get ts j) (ap (λ y. is_default_export (place_in w y j).standing) (sym o) ∙ h))))) below
        forms Node-F.Absent o = no_child t c j Node-F.Absent o refl z
        forms (Node-F.Flag a) o = no_child t c j (Node-F.Flag a) o refl z
        forms (Node-F.Word a) o = no_child t c j (Node-F.Word a) o refl z
        forms (Node-F.Text a) o = no_child t c j (Node-F.Text a) o refl z
        forms (Node-F.Span a) o = no_child t c j (Node-F.Span a) o refl z
        forms (Node-F.Identifier l i) o = no_child t c j (Node-F.Identifier l i) o refl z
