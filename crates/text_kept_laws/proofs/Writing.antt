-- Pieces of a tree that is written out.
use Rattle.std.proofs.Common.{◌≡◌, Bool, true, false, not, ◌&&◌, IsTrue, None, List, [], ◌∷◌, ◌++◌, map, refl, sym, ap, ◌∙◌, subst, cond, rules}
use Rattle.std.specs.List.{flat_map}
use Rattle.swc_tree_marks.specs.declared.ident.Ident.{Ident}
use Rattle.swc_tree_node.specs.declared.kind.Kind.{Kind}
use Rattle.swc_tree_node.specs.declared.kind.Kind.TheVariants as kind
use Rattle.swc_tree_node.specs.declared.kind.Class.{Class}
use Rattle.swc_tree_node.specs.declared.kind.Class.TheVariants as class
use Rattle.swc_tree_node.specs.declared.slot.Content.TheVariants as content
use Rattle.swc_tree_node.specs.declared.slot.Slot.{Slot}
use Rattle.swc_tree_node.specs.declared.slot.Slot.TheVariants as slot
use Rattle.swc_tree_node.specs.declared.node.Node.{Node, Absent, Flag, Word, Text, Span, List as Many, Identifier, Tree, out-Node, the_lemmas}
use Rattle.swc_tree_node.specs.declared.node.Node.TheOpen.{Node-F}
use Rattle.swc_tree_node.specs.declared.node.Node.TheVariants.{outs-Absent, outs-Identifier, outs-Tree, rolls-Tree}
use Rattle.swc_tree_node.specs.Table.{is_identifier, slots_of}
use Rattle.swc_tree_node.specs.Fits.{AllFit, FieldsFit, Fits, absent_fits, belongs, fits, flag_fits, identifier_fits, single, span_fits, text_fits, tree_fits, word_fits}
use Rattle.swc_tree_node.proofs.Fit.{fits-Absent, fits-Flag, fits-Identifier, fits-List, fits-Span, fits-Text, fits-Tree, fits-Word, tree_opens}
use Rattle.swc_tree_grammar.specs.Levels.{is_absent, is_absent_in}
use Rattle.swc_tree_grammar.specs.Normal.{as_pattern, opened, pattern_property_in, property, specifier, specifier_in, split, written_out, written_step}
use Rattle.swc_tree_grammar.specs.Shapes.{items_of}
use Rattle.swc_tree_grammar.proofs.Induction.{Each, by_children}
use Rattle.swc_tree_grammar.proofs.Items.{items_of_list, listed}
use Rattle.swc_tree_grammar.proofs.Places.{one}
use Rattle.swc_base_rename_substitution.proofs.Room.{tree_open}
use Rattle.swc_tree_sites_written.proofs.Written.{written_list, written_looks, written_name, written_tree}
use Rattle.text_lexer.specs.declared.mark.Mark.TheVariants as mark
use Rattle.text_pieces.specs.declared.item.Form.TheVariants as form
use Rattle.text_pieces.specs.declared.keyword.Keyword.TheVariants as keyword
use Rattle.text_pieces.specs.Forms.{form_pieces, word_piece}
use Rattle.text_pieces.specs.Layouts.{apart_layout_of, layout_of}
use Rattle.text_pieces.specs.Leaves.{bound_name, is_set}
use Rattle.text_pieces.specs.Pieces.{lines, written_with}
use Rattle.text_pieces.specs.Tokens.{Piece, punctuator}
use Rattle.text_walk.proofs.Walked.{list_pieces, tree_pieces}
use Rattle.text_kept_laws.proofs.PiecesRows.{AllKept, Kept, layout_free, list_kept, tree_kept}
use Rattle.text_kept_laws.proofs.Plain.{never, plain_tree}
use Rattle.text_kept_laws.proofs.Then.{kept_then}
use Rattle.text_kept_laws.specs.Written.AsWritten.{after, join}
use Rattle.text_kept_laws.proofs.Steps.{R, before, behind, even, plain_kept, stated}
use Rattle.text_kept_laws.proofs.Places.{Any, Holds, all_below, all_leaf, all_list, all_tree, is_narrow, wide, wide_there}
use Rattle.text_kept_laws.proofs.Items.{Single, W, branch, export_kept, import_kept, key_kept, lines_split, name_single, opened_kept, property_kept, still, string_single}
use Rattle.text_kept_laws.proofs.Arrows.{arrow_kept, pattern_kept, patterns_kept}

pub bound : (t : Node) (s : Slot) → Any t → Fits t s → bound_name (out-Node t) ≡ bound_name (out-Node (written_out t))
bound t s q h = sym (written_looks bound_name None (λ k ts. refl) (λ ts. refl) t)

abbrev pub Stays : Node → Type 0
Stays t = Holds written_out bound t

-- what a step makes of a node of a kind whose fields are written out
abbrev Steps : Kind → List Node → Type 0
Steps k ts = Kept R true (Tree k (map written_out ts)) (written_step (Node-F.Tree k (map written_out ts)))

-- ---- as many fields as a kind has

two : (P : List Node → Type 0) (x y : Slot) → ((a c : Node) → FieldsFit (x ∷ y ∷ []) (a ∷ c ∷ []) → P (a ∷ c ∷ [])) → (ts : List Node) → FieldsFit (x ∷ y ∷ []) ts → P ts
two P x y g [] f = absurd f
two P x y g (a ∷ []) f = absurd f.1
two P x y g (a ∷ c ∷ []) f = g a c f
two P x y g (a ∷ c ∷ d ∷ ts) f = absurd f.1.1

three : (P : List Node → Type 0) (x y z : Slot) → ((a c d : Node) → FieldsFit (x ∷ y ∷ z ∷ []) (a ∷ c ∷ d ∷ []) → P (a ∷ c ∷ d ∷ [])) → (ts : List Node) → FieldsFit (x ∷ y ∷ z ∷ []) ts → P ts
three P x y z g [] f = absurd f
three P x y z g (a ∷ ts) f = two (λ ts. P (a ∷ ts)) y z (λ c d h. g a c d (f.0, h)) ts f.1

four : (P : List Node → Type 0) (x y z w : Slot) → ((a c d e : Node) → FieldsFit (x ∷ y ∷ z ∷ w ∷ []) (a ∷ c ∷ d ∷ e ∷ []) → P (a ∷ c ∷ d ∷ e ∷ [])) → (ts : List Node) → FieldsFit (x ∷ y ∷ z ∷ w ∷ []) ts → P ts
four P x y z w g [] f = absurd f
four P x y z w g (a ∷ ts) f = three (λ ts. P (a ∷ ts)) y z w (λ c d e h. g a c d e (f.0, h)) ts f.1

five : (P : List Node → Type 0) (x y z w v : Slot) → ((a c d e b : Node) → FieldsFit (x ∷ y ∷ z ∷ w ∷ v ∷ []) (a ∷ c ∷ d ∷ e ∷ b ∷ []) → P (a ∷ c ∷ d ∷ e ∷ b ∷ [])) → (ts : List Node) → FieldsFit (x ∷ y ∷ z ∷ w ∷ v ∷ []) ts → P ts
five P x y z w v g [] f = absurd f
five P x y z w v g (a ∷ ts) f = four (λ ts. P (a ∷ ts)) y z w v (λ c d e b h. g a c d e b (f.0, h)) ts f.1

-- ---- lists

a_list : (t : Node) (s : Slot) → single s ≡ None → absent_fits s ≡ false → Fits t s → (ts : List Node) × (t ≡ Many ts)
a_list t s e a = by_children (λ t. Fits t s → (ts : List Node) × (t ≡ Many ts)) (
  λ h. never (sym h ∙ fits-Absent s ∙ a),
  λ x h. never (sym h ∙ fits-Flag x s ∙ ap flag_fits e),
  λ w h. never (sym h ∙ fits-Word w s ∙ ap (word_fits w) e),
  λ x h. never (sym h ∙ fits-Text x s ∙ ap text_fits e),
  λ r h. never (sym h ∙ fits-Span r s ∙ ap span_fits e),
  λ k i h. never (sym h ∙ fits-Identifier k i s ∙ ap (identifier_fits k) e),
)
    (λ ts l h. (ts, refl))
    (λ k ts l h. never (sym h ∙ fits-Tree k ts s ∙ ap (tree_fits k (map fits ts)) e)) t

written_is : (t : Node) (ts : List Node) → t ≡ Many ts → written_out t ≡ Many (map written_out ts)
written_is t ts e = ap written_out e ∙ written_list ts

all_kept : (g : Node → Node) → ((t : Node) → Kept R true t (g t)) → (ts : List Node) → AllKept R (λ n. true) ts (map g ts)
all_kept g kept [] = tt
all_kept g kept (t ∷ ts) = (kept t, all_kept g kept ts)

items_kept : (g : Node → Node) (t : Node) (ts : List Node) → t ≡ Many ts → AllKept R (λ n. true) ts (map g ts) → Kept R true t (Many (map g (items_of t)))
items_kept g t ts is h =
    subst (λ t. Kept R true t (Many (map g (items_of t)))) (sym is)
    (subst (λ (l : List Node). Kept R true (Many ts) (Many (map g l))) (sym (items_of_list ts)) (list_kept R even join (λ n. true) true ts (map g ts) (λ o. never o) (λ o. never o) h))

-- ---- one field is another

altered : (k : Kind) (us vs : List Node) → layout_free (λ n. true) (layout_of k) ≡ true → layout_free (λ n. true) (apart_layout_of k) ≡ true → AllKept R (λ n. true) us vs → Kept R true (Tree k us) (Tree k vs)
altered k us vs q a h = tree_kept R even join (λ n. true) true k us vs q a h

abbrev O : Node → Node
O t = written_out t

abbrev P : Node → Node
P t = as_pattern (written_out t)

rest_step : (a c : Node) → FieldsFit (slots_of kind.RestPat) (a ∷ c ∷ []) → Steps kind.RestPat (a ∷ c ∷ [])
rest_step a c f = altered kind.RestPat (O a ∷ O c ∷ []) (O a ∷ P c ∷ []) refl refl (still (O a), (pattern_kept (O c), tt))

value_step : (a c : Node) → FieldsFit (slots_of kind.KeyValuePatProp) (a ∷ c ∷ []) → Steps kind.KeyValuePatProp (a ∷ c ∷ [])
value_step a c f = altered kind.KeyValuePatProp (O a ∷ O c ∷ []) (O a ∷ P c ∷ []) refl refl (still (O a), (pattern_kept (O c), tt))

parameter_step : (a c : Node) → FieldsFit (slots_of kind.Param) (a ∷ c ∷ []) → Steps kind.Param (a ∷ c ∷ [])
parameter_step a c f = altered kind.Param (O a ∷ O c ∷ []) (O a ∷ P c ∷ []) refl refl (still (O a), (pattern_kept (O c), tt))

default_step : (a c d : Node) → FieldsFit (slots_of kind.AssignPat) (a ∷ c ∷ d ∷ []) → Steps kind.AssignPat (a ∷ c ∷ d ∷ [])
default_step a c d f = altered kind.AssignPat (O a ∷ O c ∷ O d ∷ []) (O a ∷ P c ∷ O d ∷ []) refl refl (still (O a), (pattern_kept (O c), (still (O d), tt)))

declarator_step : (a c d : Node) → FieldsFit (slots_of kind.VarDeclarator) (a ∷ c ∷ d ∷ []) → Steps kind.VarDeclarator (a ∷ c ∷ d ∷ [])
declarator_step a c d f = altered kind.VarDeclarator (O a ∷ O c ∷ O d ∷ []) (O a ∷ P c ∷ O d ∷ []) refl refl (still (O a), (pattern_kept (O c), (still (O d), tt)))

catch_step : (a c d : Node) → FieldsFit (slots_of kind.CatchClause) (a ∷ c ∷ d ∷ []) → Steps kind.CatchClause (a ∷ c ∷ d ∷ [])
catch_step a c d f = altered kind.CatchClause (O a ∷ O c ∷ O d ∷ []) (O a ∷ P c ∷ O d ∷ []) refl refl (still (O a), (pattern_kept (O c), (still (O d), tt)))

setter_step : (a k c d : Node) → FieldsFit (slots_of kind.SetterProp) (a ∷ k ∷ c ∷ d ∷ []) → Steps kind.SetterProp (a ∷ k ∷ c ∷ d ∷ [])
setter_step a k c d f = altered kind.SetterProp (O a ∷ O k ∷ O c ∷ O d ∷ []) (O a ∷ O k ∷ P c ∷ O d ∷ []) refl refl (still (O a), (still (O k), (pattern_kept (O c), (still (O d), tt))))

for_in_step : (a c d e : Node) → FieldsFit (slots_of kind.ForInStmt) (a ∷ c ∷ d ∷ e ∷ []) → Steps kind.ForInStmt (a ∷ c ∷ d ∷ e ∷ [])
for_in_step a c d e f = altered kind.ForInStmt (O a ∷ O c ∷ O d ∷ O e ∷ []) (O a ∷ P c ∷ O d ∷ O e ∷ []) refl refl (still (O a), (pattern_kept (O c), (still (O d), (still (O e), tt))))

for_of_step : (a b c d e : Node) → FieldsFit (slots_of kind.ForOfStmt) (a ∷ b ∷ c ∷ d ∷ e ∷ []) → Steps kind.ForOfStmt (a ∷ b ∷ c ∷ d ∷ e ∷ [])
for_of_step a b c d e f =
    altered kind.ForOfStmt (O a ∷ O b ∷ O c ∷ O d ∷ O e ∷ []) (O a ∷ O b ∷ P c ∷ O d ∷ O e ∷ []) refl refl (still (O a), (still (O b), (pattern_kept (O c), (still (O d), (still (O e), tt)))))

array_step : (a e : Node) → FieldsFit (slots_of kind.ArrayPat) (a ∷ e ∷ []) → Steps kind.ArrayPat (a ∷ e ∷ [])
array_step a e f =
    let l = a_list e (slot.Holes (content.Node class.Pat)) refl refl f.1.0 in
    altered kind.ArrayPat (O a ∷ O e ∷ []) (O a ∷ Many (map as_pattern (items_of (O e))) ∷ []) refl refl
    (still (O a), (items_kept as_pattern (O e) (map written_out l.0) (written_is e l.0 l.1) (patterns_kept (map written_out l.0)), tt))

object_step : (a e : Node) → FieldsFit (slots_of kind.ObjectLit) (a ∷ e ∷ []) → Steps kind.ObjectLit (a ∷ e ∷ [])
object_step a e f =
    let l = a_list e (slot.List (content.Node class.PropOrSpread)) refl refl f.1.0 in
    altered kind.ObjectLit (O a ∷ O e ∷ []) (O a ∷ Many (map property (items_of (O e))) ∷ []) refl refl
    (still (O a), (items_kept property (O e) (map written_out l.0) (written_is e l.0 l.1) (all_kept property property_kept (map written_out l.0)), tt))

arrow_step : (a e b y : Node) → FieldsFit (slots_of kind.ArrowExpr) (a ∷ e ∷ b ∷ y ∷ []) → Steps kind.ArrowExpr (a ∷ e ∷ b ∷ y ∷ [])
arrow_step a e b y f =
    let l = a_list e (slot.List (content.Node class.Pat)) refl refl f.1.0 in
    let ts : List Node = map written_out l.0 in
    subst (λ e. Kept R true (Tree kind.ArrowExpr (O a ∷ e ∷ O b ∷ O y ∷ [])) (Tree kind.ArrowExpr (O a ∷ Many (map as_pattern (items_of e)) ∷ O b ∷ O y ∷ []))) (sym (written_is e l.0 l.1))
    (subst (λ (us : List Node). Kept R true (Tree kind.ArrowExpr (O a ∷ Many ts ∷ O b ∷ O y ∷ [])) (Tree kind.ArrowExpr (O a ∷ Many (map as_pattern us) ∷ O b ∷ O y ∷ []))) (sym (items_of_list ts)) (arrow_kept (O a) (O b) (O y) ts))

-- ---- keys

-- what stands in the place of an expression is there unless it is left out
there : (v : Node) → Fits v (slot.Optional (content.Node class.Expr)) → is_absent v ≡ false → is_set (out-Node v) ≡ true
there v = by_children (λ v. Fits v (slot.Optional (content.Node class.Expr)) → is_absent v ≡ false → is_set (out-Node v) ≡ true) (
  λ f h. never (sym (ap is_absent_in outs-Absent) ∙ h),
  λ x f h. never (sym f ∙ fits-Flag x (slot.Optional (content.Node class.Expr))),
  λ w f h. never (sym f ∙ fits-Word w (slot.Optional (content.Node class.Expr))),
  λ x f h. never (sym f ∙ fits-Text x (slot.Optional (content.Node class.Expr))),
  λ r f h. never (sym f ∙ fits-Span r (slot.Optional (content.Node class.Expr))),
  λ k i f h. ap is_set (outs-Identifier k i),
)
    (λ ts l f h. never (sym f ∙ fits-List ts (slot.Optional (content.Node class.Expr))))
    (λ k ts l f h. ap is_set (outs-Tree k ts)) v

written_there : (v : Node) → Fits v (slot.Optional (content.Node class.Expr)) → is_absent (written_out v) ≡ false → is_set (out-Node (written_out v)) ≡ true
written_there v f h = written_looks is_set true (λ k ts. refl) (λ ts. refl) v ∙ there v f (sym (written_looks is_absent_in false (λ k ts. refl) (λ ts. refl) v) ∙ h)

-- what stands where names alone do is one
a_name : (c : Class) → ((k : Kind) → IsTrue (not (is_identifier k)) → IsTrue (belongs k c) → ⊥) → (t : Node) → Fits t (slot.One (content.Node c)) → (k : Kind) × (i : Ident) × (t ≡ Identifier k i)
a_name c none t = by_children (λ t. Fits t (slot.One (content.Node c)) → (k : Kind) × (i : Ident) × (t ≡ Identifier k i)) (
  λ f. never (sym f ∙ fits-Absent (slot.One (content.Node c))),
  λ x f. never (sym f ∙ fits-Flag x (slot.One (content.Node c))),
  λ w f. never (sym f ∙ fits-Word w (slot.One (content.Node c))),
  λ x f. never (sym f ∙ fits-Text x (slot.One (content.Node c))),
  λ r f. never (sym f ∙ fits-Span r (slot.One (content.Node c))),
  λ k i f. (k, i, refl),
)
    (λ ts l f. never (sym f ∙ fits-List ts (slot.One (content.Node c))))
    (λ k ts l f. let o = tree_opens k ts c f in absurd (none k o.0 o.1)) t

no_binding : (k : Kind) → IsTrue (not (is_identifier k)) → IsTrue (belongs k class.BindingIdent) → ⊥
no_binding kind.BindingIdent a b = never (sym a)
no_binding k a b = never (sym b)

no_ident : (k : Kind) → IsTrue (not (is_identifier k)) → IsTrue (belongs k class.Ident) → ⊥
no_ident kind.Ident a b = never (sym a)
no_ident k a b = never (sym b)

named : (t : Node) (k : Kind) (i : Ident) → t ≡ Identifier k i → written_out t ≡ Identifier k i
named t k i e = ap written_out e ∙ written_name k i

key_step : (a c v : Node) → FieldsFit (slots_of kind.AssignPatProp) (a ∷ c ∷ v ∷ []) → Steps kind.AssignPatProp (a ∷ c ∷ v ∷ [])
key_step a c v f =
    let (k, i, is) = a_name class.BindingIdent no_binding c f.1.0 in
    subst (λ c. Kept R true (Tree kind.AssignPatProp (O a ∷ c ∷ O v ∷ [])) (pattern_property_in (O a) c (O v) (out-Node c))) (sym (named c k i is))
    (subst (λ x. Kept R true (Tree kind.AssignPatProp (O a ∷ Identifier k i ∷ O v ∷ [])) (pattern_property_in (O a) (Identifier k i) (O v) x)) (sym (outs-Identifier k i)) (key_kept (O a) (O v) k i (written_there v f.1.1.0)))

-- ---- imports and exports

import_step : (a l u : Node) → FieldsFit (slots_of kind.ImportNamedSpecifier) (a ∷ l ∷ u ∷ []) → Steps kind.ImportNamedSpecifier (a ∷ l ∷ u ∷ [])
import_step a l u f = let (k, i, is) = a_name class.Ident no_ident l f.1.0 in import_kept (O a) (O l) (O u) (subst Single (sym (named l k i is)) (name_single k i))

outer : (t : Node) → Fits t (one class.ModuleExportName) → Single (written_out t)
outer t = by_children (λ t. Fits t (one class.ModuleExportName) → Single (written_out t)) (
  λ f. never (sym f ∙ fits-Absent (one class.ModuleExportName)),
  λ x f. never (sym f ∙ fits-Flag x (one class.ModuleExportName)),
  λ w f. never (sym f ∙ fits-Word w (one class.ModuleExportName)),
  λ x f. never (sym f ∙ fits-Text x (one class.ModuleExportName)),
  λ r f. never (sym f ∙ fits-Span r (one class.ModuleExportName)),
  λ k i f. subst Single (sym (written_name k i)) (name_single k i),
)
    (λ ts l f. never (sym f ∙ fits-List ts (one class.ModuleExportName)))
    (λ k ts l f. let o = tree_opens k ts class.ModuleExportName f in string k ts o.0 o.1) t
  where
    string : (k : Kind) (ts : List Node) → IsTrue (not (is_identifier k)) → IsTrue (belongs k class.ModuleExportName) → Single (written_out (Tree k ts))
    string kind.Str ts a b = subst Single (sym (written_tree kind.Str ts ∙ rolls-Tree kind.Str (map written_out ts))) (string_single (map written_out ts))
    string kind.Ident ts a b = never (sym a)
    string k ts a b = never (sym b)

specifier_kept : (t : Node) → Fits t (one class.ExportSpecifier) → Kept R true (written_out t) (specifier (written_out t))
specifier_kept t = by_children (λ t. Fits t (one class.ExportSpecifier) → Kept R true (written_out t) (specifier (written_out t))) (
  λ f. never (sym f ∙ fits-Absent (one class.ExportSpecifier)),
  λ x f. never (sym f ∙ fits-Flag x (one class.ExportSpecifier)),
  λ w f. never (sym f ∙ fits-Word w (one class.ExportSpecifier)),
  λ x f. never (sym f ∙ fits-Text x (one class.ExportSpecifier)),
  λ r f. never (sym f ∙ fits-Span r (one class.ExportSpecifier)),
  λ k i f. never (sym f ∙ fits-Identifier k i (one class.ExportSpecifier) ∙ no_name k),
)
    (λ ts l f. never (sym f ∙ fits-List ts (one class.ExportSpecifier)))
    (λ k ts l f. let o = tree_opens k ts class.ExportSpecifier f in of_kind k ts o.1 o.2) t
  where
    no_name : (k : Kind) → (is_identifier k && belongs k class.ExportSpecifier) ≡ false
    no_name kind.Ident = refl
    no_name k = refl

    by_form : (t : Node) (y : Node-F Node) → out-Node t ≡ y → Kept R true t (specifier_in t y) → Kept R true t (specifier t)
    by_form t y o h = subst (λ y. Kept R true t (specifier_in t y)) (sym o) h

    named_there : (a o e : Node) → FieldsFit (slots_of kind.ExportNamedSpecifier) (a ∷ o ∷ e ∷ []) → Kept R true (written_out (Tree kind.ExportNamedSpecifier (a ∷ o ∷ e ∷ []))) (specifier (written_out (Tree kind.ExportNamedSpecifier (a ∷ o ∷ e ∷ []))))
    named_there a o e f =
        let us : List Node = O a ∷ O o ∷ O e ∷ [] in
        subst (λ t. Kept R true t (specifier t)) (sym (written_tree kind.ExportNamedSpecifier (a ∷ o ∷ e ∷ []) ∙ rolls-Tree kind.ExportNamedSpecifier us))
        (by_form (Tree kind.ExportNamedSpecifier us) (Node-F.Tree kind.ExportNamedSpecifier us) (outs-Tree kind.ExportNamedSpecifier us) (export_kept (O a) (O o) (O e) (outer o f.1.0)))

    of_kind : (k : Kind) (ts : List Node) → IsTrue (belongs k class.ExportSpecifier) → FieldsFit (slots_of k) ts → Kept R true (written_out (Tree k ts)) (specifier (written_out (Tree k ts)))
    of_kind kind.ExportNamedSpecifier ts b f = three (λ ts. Kept R true (written_out (Tree kind.ExportNamedSpecifier ts)) (specifier (written_out (Tree kind.ExportNamedSpecifier ts)))) _ _ _ named_there ts f
    of_kind kind.ExportNamespaceSpecifier ts b f =
        let us : List Node = map written_out ts in
        subst (λ t. Kept R true t (specifier t)) (sym (written_tree kind.ExportNamespaceSpecifier ts ∙ rolls-Tree kind.ExportNamespaceSpecifier us))
        (by_form (Tree kind.ExportNamespaceSpecifier us) (Node-F.Tree kind.ExportNamespaceSpecifier us) (outs-Tree kind.ExportNamespaceSpecifier us) (still (Tree kind.ExportNamespaceSpecifier us)))
    of_kind k ts b f = never (sym b)

specifiers_kept : (ts : List Node) → AllFit (one class.ExportSpecifier) ts → AllKept R (λ n. true) (map written_out ts) (map specifier (map written_out ts))
specifiers_kept [] f = tt
specifiers_kept (t ∷ ts) f = (specifier_kept t f.0, specifiers_kept ts f.1)

export_step : (a s c d : Node) → FieldsFit (slots_of kind.NamedExport) (a ∷ s ∷ c ∷ d ∷ []) → Steps kind.NamedExport (a ∷ s ∷ c ∷ d ∷ [])
export_step a s c d f = by (is_absent (O c))
  where
    by : (b : Bool) → Kept R true (Tree kind.NamedExport (O a ∷ O s ∷ O c ∷ O d ∷ [])) (Tree kind.NamedExport (O a ∷ cond b (Many (map specifier (items_of (O s)))) (O s) ∷ O c ∷ O d ∷ []))
    by true =
        let l = listed s (content.Node class.ExportSpecifier) f.1.0 in
        altered kind.NamedExport (O a ∷ O s ∷ O c ∷ O d ∷ []) (O a ∷ Many (map specifier (items_of (O s))) ∷ O c ∷ O d ∷ []) refl refl
        (still (O a), (items_kept specifier (O s) (map written_out l.items) (written_is s l.items l.is) (specifiers_kept l.items l.fit), (still (O c), (still (O d), tt))))
    by false = still (Tree kind.NamedExport (O a ∷ O s ∷ O c ∷ O d ∷ []))

-- ---- branches

module _ (a x c d : Node) where
  abbrev conditional : Node → Node
  conditional t = Tree kind.IfStmt (a ∷ x ∷ t ∷ d ∷ [])

  abbrev otherwise : List Piece
  otherwise = form_pieces (form.WordIf keyword.Else) d ++ (branch d ++ [])

  abbrev led : List Piece → List Piece
  led ps = word_piece keyword.If ∷ punctuator mark.LeftParen ∷ W x ++ (punctuator mark.RightParen ∷ ps)

  if_pieces : (t : Node) → W (conditional t) ≡ led (branch t ++ otherwise)
  if_pieces t = tree_pieces false kind.IfStmt (a ∷ x ∷ t ∷ d ∷ [])

  if_kept : Kept R true (Tree kind.IfStmt (a ∷ x ∷ c ∷ d ∷ [])) (Tree kind.IfStmt (a ∷ x ∷ opened c ∷ d ∷ []))
  if_kept =
      plain_kept false (conditional c) (conditional (opened c)) (plain_tree kind.IfStmt (a ∷ x ∷ c ∷ d ∷ []) refl) (plain_tree kind.IfStmt (a ∷ x ∷ opened c ∷ d ∷ []) refl)
      (stated (W (conditional c)) (W (conditional (opened c))) (led (branch c ++ otherwise)) (led (branch (opened c) ++ otherwise)) (if_pieces c) (if_pieces (opened c))
      (behind (word_piece keyword.If ∷ punctuator mark.LeftParen ∷ []) (W x ++ (punctuator mark.RightParen ∷ branch c ++ otherwise)) (W x ++ (punctuator mark.RightParen ∷ branch (opened c) ++ otherwise))
      (behind (W x) (punctuator mark.RightParen ∷ branch c ++ otherwise) (punctuator mark.RightParen ∷ branch (opened c) ++ otherwise)
      (behind (punctuator mark.RightParen ∷ []) (branch c ++ otherwise) (branch (opened c) ++ otherwise) (before otherwise (branch c) (branch (opened c)) (opened_kept c))))))

if_step : (a x c d : Node) → FieldsFit (slots_of kind.IfStmt) (a ∷ x ∷ c ∷ d ∷ []) → Steps kind.IfStmt (a ∷ x ∷ c ∷ d ∷ [])
if_step a x c d f = if_kept (O a) (O x) (O c) (O d)

-- ---- modules

module _ (a b : Node) where
  abbrev program : List Node → Node
  program ts = Tree kind.Module (a ∷ Many ts ∷ b ∷ [])

  abbrev body : List Node → List Piece
  body ts = lines (map (written_with false) ts)

  module_pieces : (ts : List Node) → W (program ts) ≡ form_pieces form.Hashbang b ++ (body ts ++ [])
  module_pieces ts = tree_pieces false kind.Module (a ∷ Many ts ∷ b ∷ []) ∙ ap (λ l. form_pieces form.Hashbang b ++ (l ++ [])) (list_pieces false ts)

  body_kept : (ts : List Node) → Kept R true (Tree kind.Module (a ∷ Many ts ∷ b ∷ [])) (Tree kind.Module (a ∷ Many (flat_map split ts) ∷ b ∷ []))
  body_kept ts =
      plain_kept false (program ts) (program (flat_map split ts)) (plain_tree kind.Module (a ∷ Many ts ∷ b ∷ []) refl) (plain_tree kind.Module (a ∷ Many (flat_map split ts) ∷ b ∷ []) refl)
      (stated (W (program ts)) (W (program (flat_map split ts))) (form_pieces form.Hashbang b ++ (body ts ++ [])) (form_pieces form.Hashbang b ++ (body (flat_map split ts) ++ [])) (module_pieces ts) (module_pieces (flat_map split ts))
      (behind (form_pieces form.Hashbang b) (body ts ++ []) (body (flat_map split ts) ++ []) (before [] (body ts) (body (flat_map split ts)) (lines_split ts))))

module_step : (a e b : Node) → FieldsFit (slots_of kind.Module) (a ∷ e ∷ b ∷ []) → Steps kind.Module (a ∷ e ∷ b ∷ [])
module_step a e b f =
    let l = listed e (content.Node class.ModuleItem) f.1.0 in
    let ts : List Node = map written_out l.items in
    subst (λ e. Kept R true (Tree kind.Module (O a ∷ e ∷ O b ∷ [])) (Tree kind.Module (O a ∷ Many (flat_map split (items_of e)) ∷ O b ∷ []))) (sym (written_is e l.items l.is))
    (subst (λ (us : List Node). Kept R true (Tree kind.Module (O a ∷ Many ts ∷ O b ∷ [])) (Tree kind.Module (O a ∷ Many (flat_map split us) ∷ O b ∷ []))) (sym (items_of_list ts)) (body_kept (O a) (O b) ts))

-- ---- each node

written_kept : (k : Kind) (ts : List Node) → is_narrow k ≡ false → Each Stays ts → (FieldsFit (slots_of k) ts → Steps k ts) → Stays (Tree k ts)
written_kept k ts n l g s q h =
    let w : wide s ≡ true = wide_there k ts s n h in
    let below : Kept R true (Tree k ts) (Tree k (map written_out ts)) = subst (λ (w : Bool). Kept R w (Tree k ts) (Tree k (map written_out ts))) w (all_below written_out bound s k ts l h) in
    let all : Kept R true (Tree k ts) (written_step (Node-F.Tree k (map written_out ts)))
    = kept_then R after true (Tree k ts) (Tree k (map written_out ts)) (written_step (Node-F.Tree k (map written_out ts))) below (g (tree_open k ts s h).4) in
    subst (λ (w : Bool). Kept R w (Tree k ts) (written_out (Tree k ts))) (sym w) (subst (Kept R true (Tree k ts)) (sym (written_tree k ts)) all)

each_tree : (k : Kind) (ts : List Node) → Each Stays ts → Stays (Tree k ts)
each_tree kind.IfStmt ts l = written_kept kind.IfStmt ts refl l (λ f. four (Steps kind.IfStmt) _ _ _ _ if_step ts f)
each_tree kind.ObjectLit ts l = written_kept kind.ObjectLit ts refl l (λ f. two (Steps kind.ObjectLit) _ _ object_step ts f)
each_tree kind.AssignPatProp ts l = written_kept kind.AssignPatProp ts refl l (λ f. three (Steps kind.AssignPatProp) _ _ _ key_step ts f)
each_tree kind.ArrayPat ts l = written_kept kind.ArrayPat ts refl l (λ f. two (Steps kind.ArrayPat) _ _ array_step ts f)
each_tree kind.RestPat ts l = written_kept kind.RestPat ts refl l (λ f. two (Steps kind.RestPat) _ _ rest_step ts f)
each_tree kind.KeyValuePatProp ts l = written_kept kind.KeyValuePatProp ts refl l (λ f. two (Steps kind.KeyValuePatProp) _ _ value_step ts f)
each_tree kind.AssignPat ts l = written_kept kind.AssignPat ts refl l (λ f. three (Steps kind.AssignPat) _ _ _ default_step ts f)
each_tree kind.Param ts l = written_kept kind.Param ts refl l (λ f. two (Steps kind.Param) _ _ parameter_step ts f)
each_tree kind.ArrowExpr ts l = written_kept kind.ArrowExpr ts refl l (λ f. four (Steps kind.ArrowExpr) _ _ _ _ arrow_step ts f)
each_tree kind.SetterProp ts l = written_kept kind.SetterProp ts refl l (λ f. four (Steps kind.SetterProp) _ _ _ _ setter_step ts f)
each_tree kind.VarDeclarator ts l = written_kept kind.VarDeclarator ts refl l (λ f. three (Steps kind.VarDeclarator) _ _ _ declarator_step ts f)
each_tree kind.CatchClause ts l = written_kept kind.CatchClause ts refl l (λ f. three (Steps kind.CatchClause) _ _ _ catch_step ts f)
each_tree kind.ForInStmt ts l = written_kept kind.ForInStmt ts refl l (λ f. four (Steps kind.ForInStmt) _ _ _ _ for_in_step ts f)
each_tree kind.ForOfStmt ts l = written_kept kind.ForOfStmt ts refl l (λ f. five (Steps kind.ForOfStmt) _ _ _ _ _ for_of_step ts f)
each_tree kind.ImportNamedSpecifier ts l = written_kept kind.ImportNamedSpecifier ts refl l (λ f. three (Steps kind.ImportNamedSpecifier) _ _ _ import_step ts f)
each_tree kind.NamedExport ts l = written_kept kind.NamedExport ts refl l (λ f. four (Steps kind.NamedExport) _ _ _ _ export_step ts f)
each_tree kind.Module ts l = written_kept kind.Module ts refl l (λ f. three (Steps kind.Module) _ _ _ module_step ts f)
each_tree k ts l = all_tree written_out bound k ts (written_tree k ts ∙ rolls-Tree k (map written_out ts)) l

pub written_out_kept : (t : Node) → Stays t
written_out_kept t = by_children Stays (
  all_leaf written_out bound Absent (search (rules, the_lemmas)),
  λ x. all_leaf written_out bound (Flag x) (search (rules, the_lemmas)),
  λ w. all_leaf written_out bound (Word w) (search (rules, the_lemmas)),
  λ x. all_leaf written_out bound (Text x) (search (rules, the_lemmas)),
  λ r. all_leaf written_out bound (Span r) (search (rules, the_lemmas)),
  λ k i. all_leaf written_out bound (Identifier k i) (written_name k i),
)
    (λ ts l. all_list written_out bound ts (written_list ts) l) each_tree t
