-- Nodes that fit some place, with all that is below them; and lists whose place takes no exported declaration.
use Rattle.std.proofs.Common.{◌≡◌, ℕ, Bool, true, false, not, ◌&&◌, ◌||◌, IsTrue, Option, Some, None, List, [], ◌∷◌, map, refl, sym, ap, ◌∙◌, subst}
use Rattle.std.specs.List.{list_all, list_any}
use Rattle.swc_tree_node.specs.declared.kind.Kind.{Kind}
use Rattle.swc_tree_node.specs.declared.kind.Kind.TheVariants as kind
use Rattle.swc_tree_node.specs.declared.slot.Content.{Content}
use Rattle.swc_tree_node.specs.declared.slot.Content.TheVariants as content
use Rattle.swc_tree_node.specs.declared.slot.Slot.{Slot}
use Rattle.swc_tree_node.specs.declared.slot.Slot.TheVariants as slot
use Rattle.swc_tree_node.specs.declared.node.Node.{Node, List as Many, Tree, out-Node}
use Rattle.swc_tree_node.specs.declared.node.Node.TheOpen.{Node-F}
use Rattle.swc_tree_node.specs.Table.{slots_of}
use Rattle.swc_tree_node.specs.Fits.{AllFit, FieldsFit, Fits, belongs, fits, list_fits, single}
use Rattle.swc_tree_node.proofs.Fit.{all_open, fields_open, fits-List}
use Rattle.swc_tree_scoping.proofs.Remarked.{list_is, tree_is}
use Rattle.swc_tree_grammar.specs.Shapes.{items_in, items_of}
use Rattle.swc_tree_grammar.proofs.Induction.{Each}
use Rattle.swc_base_rename_substitution.specs.Walk.{is_exported_declaration, is_exported_in}
use Rattle.swc_base_rename_substitution.proofs.Room.{tree_open}

abbrev pub Fitting : Node → Type 0
Fitting t = (s : Slot) × Fits t s

pub all_fitting : (s : Slot) (ts : List Node) → AllFit s ts → Each Fitting ts
all_fitting s [] h = tt
all_fitting s (t ∷ ts) h = ((s, h.0), all_fitting s ts h.1)

pub fields_fitting : (ss : List Slot) (ts : List Node) → FieldsFit ss ts → Each Fitting ts
fields_fitting [] [] h = tt
fields_fitting [] (t ∷ ts) h = absurd h
fields_fitting (s ∷ ss) [] h = absurd h
fields_fitting (s ∷ ss) (t ∷ ts) h = ((s, h.0), fields_fitting ss ts h.1)

-- what the items of a list fit
items_in_fit : (ts : List Node) (s : Slot) → IsTrue (list_fits (map fits ts) s) → Each Fitting ts
items_in_fit ts (slot.List c) h = all_fitting (slot.One c) ts (all_open (slot.One c) ts h)
items_in_fit ts (slot.Holes c) h = all_fitting (slot.Optional c) ts (all_open (slot.Optional c) ts h)
items_in_fit ts (slot.OptionalList c) h = all_fitting (slot.One c) ts (all_open (slot.One c) ts h)
items_in_fit ts slot.Pair h = fields_fitting (slot.One content.Text ∷ slot.One content.Text ∷ []) ts (fields_open (slot.One content.Text ∷ slot.One content.Text ∷ []) ts h)
items_in_fit ts slot.Pairs h = all_fitting slot.Pair ts (all_open slot.Pair ts h)
items_in_fit ts (slot.One c) h = absurd (cc)
items_in_fit ts (slot.Optional c) h = absurd (cc)

pub list_fitting : (ts : List Node) → Fitting (Many ts) → Each Fitting ts
list_fitting ts f = items_in_fit ts f.0 (rw (← fits-List ts f.0) f.1)

pub tree_fields : (k : Kind) (ts : List Node) → Fitting (Tree k ts) → FieldsFit (slots_of k) ts
tree_fields k ts f = (tree_open k ts f.0 f.1).4

pub tree_fitting : (k : Kind) (ts : List Node) → Fitting (Tree k ts) → Each Fitting ts
tree_fitting k ts f = fields_fitting (slots_of k) ts (tree_fields k ts f)

-- ---- lists without exported declarations

abbrev pub takes_no_export : Option Content → Bool
takes_no_export (Some (content.Node c)) = not (belongs kind.ExportDecl c)
takes_no_export c = true

-- no exported declaration may stand among the items of a list there
abbrev pub is_quiet : Slot → Bool
is_quiet (slot.List c) = takes_no_export (Some c)
is_quiet (slot.Holes c) = takes_no_export (Some c)
is_quiet (slot.OptionalList c) = takes_no_export (Some c)
is_quiet s = true

abbrev pub are_quiet : Kind → Bool
are_quiet k = list_all is_quiet (slots_of k)

no_export : (t : Node) (s : Slot) → takes_no_export (single s) ≡ true → Fits t s → is_exported_declaration t ≡ false
no_export t s q f = at (out-Node t) refl
  where
    at : (y : Node-F Node) → out-Node t ≡ y → is_exported_in y ≡ false
    at (Node-F.Tree kind.ExportDecl ts) o =
        let w = tree_open kind.ExportDecl ts s (subst (λ u. Fits u s) (tree_is t kind.ExportDecl ts o) f) in
        let never : not (belongs kind.ExportDecl w.0) ≡ true = ap takes_no_export (sym w.1) ∙ q in
        let always : not (belongs kind.ExportDecl w.0) ≡ false = ap not w.3 in
        absurd (cc)
    at (Node-F.Tree k ts) o = refl
    at y o = refl

no_exports : (s : Slot) (ts : List Node) → takes_no_export (single s) ≡ true → AllFit s ts → list_any is_exported_declaration ts ≡ false
no_exports s [] q f = refl
no_exports s (t ∷ ts) q f = ap (λ b. b || list_any is_exported_declaration ts) (no_export t s q f.0) ∙ no_exports s ts q f.1

pairs_none : (ts : List Node) → FieldsFit (slot.One content.Text ∷ slot.One content.Text ∷ []) ts → list_any is_exported_declaration ts ≡ false
pairs_none [] h = refl
pairs_none (a ∷ []) h = absurd h.1
pairs_none (a ∷ b ∷ []) h = ap (λ x. x || (is_exported_declaration b || false)) (no_export a (slot.One content.Text) refl h.0) ∙ ap (λ x. x || false) (no_export b (slot.One content.Text) refl h.1.0)
pairs_none (a ∷ b ∷ c ∷ ts) h = absurd h.1.1

quiet_items : (ts : List Node) (s : Slot) → is_quiet s ≡ true → IsTrue (list_fits (map fits ts) s) → list_any is_exported_declaration ts ≡ false
quiet_items ts (slot.List c) q h = no_exports (slot.One c) ts q (all_open (slot.One c) ts h)
quiet_items ts (slot.Holes c) q h = no_exports (slot.Optional c) ts q (all_open (slot.Optional c) ts h)
quiet_items ts (slot.OptionalList c) q h = no_exports (slot.One c) ts q (all_open (slot.One c) ts h)
quiet_items ts slot.Pair q h = pairs_none ts (fields_open (slot.One content.Text ∷ slot.One content.Text ∷ []) ts h)
quiet_items ts slot.Pairs q h = no_exports slot.Pair ts refl (all_open slot.Pair ts h)
quiet_items ts (slot.One c) q h = absurd (cc)
quiet_items ts (slot.Optional c) q h = absurd (cc)

abbrev pub Quiet : Node → Type 0
Quiet t = list_any is_exported_declaration (items_of t) ≡ false

pub quiet : (t : Node) (s : Slot) → is_quiet s ≡ true → Fits t s → Quiet t
quiet t s q f = at (out-Node t) refl
  where
    none : (y : Node-F Node) → out-Node t ≡ y → items_in y ≡ [] → Quiet t
    none y o e = ap (λ y. list_any is_exported_declaration (items_in y)) o ∙ ap (list_any is_exported_declaration) e

    at : (y : Node-F Node) → out-Node t ≡ y → Quiet t
    at (Node-F.List ts) o =
        ap (λ y. list_any is_exported_declaration (items_in y)) o
        ∙ quiet_items ts s q (rw (← fits-List ts s) (subst (λ u. Fits u s) (list_is t ts o) f))
    at Node-F.Absent o = none _ o refl
    at (Node-F.Flag x) o = none _ o refl
    at (Node-F.Word x) o = none _ o refl
    at (Node-F.Text x) o = none _ o refl
    at (Node-F.Span x) o = none _ o refl
    at (Node-F.Identifier k i) o = none _ o refl
    at (Node-F.Tree k ts) o = none _ o refl

-- the items of what stands in a place
pub items_fitting : (t : Node) (s : Slot) → Fits t s → Each Fitting (items_of t)
items_fitting t s f = at (out-Node t) refl
  where
    none : (y : Node-F Node) → out-Node t ≡ y → items_in y ≡ [] → Each Fitting (items_of t)
    none y o e = subst (Each Fitting) (sym (ap items_in o ∙ e)) tt

    at : (y : Node-F Node) → out-Node t ≡ y → Each Fitting (items_of t)
    at (Node-F.List ts) o = subst (Each Fitting) (sym (ap items_in o)) (list_fitting ts (s, subst (λ u. Fits u s) (list_is t ts o) f))
    at Node-F.Absent o = none _ o refl
    at (Node-F.Flag x) o = none _ o refl
    at (Node-F.Word x) o = none _ o refl
    at (Node-F.Text x) o = none _ o refl
    at (Node-F.Span x) o = none _ o refl
    at (Node-F.Identifier k i) o = none _ o refl
    at (Node-F.Tree k ts) o = none _ o refl

both_left : (a b : Bool) → (a && b) ≡ true → a ≡ true
both_left true b h = refl
both_left false b h = h

both_right : (a b : Bool) → (a && b) ≡ true → b ≡ true
both_right true b h = h
both_right false b h = absurd (cc)

pub fields_quiet : (ss : List Slot) (ts : List Node) → list_all is_quiet ss ≡ true → FieldsFit ss ts → Each Quiet ts
fields_quiet [] [] q h = tt
fields_quiet [] (t ∷ ts) q h = absurd h
fields_quiet (s ∷ ss) [] q h = absurd h
fields_quiet (s ∷ ss) (t ∷ ts) q h = (quiet t s (both_left (is_quiet s) _ q) h.0, fields_quiet ss ts (both_right (is_quiet s) _ q) h.1)
