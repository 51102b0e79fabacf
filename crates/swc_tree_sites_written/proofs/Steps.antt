-- A tree that is tame, written out, has the names that it had.
use Rattle.std.proofs.Common.{◌≡◌, Bool, true, false, not, IsTrue, Some, List, [], ◌∷◌, map, refl, sym, ap, ◌∙◌, subst, cond, rules, true≢false}
use Rattle.swc_tree_marks.specs.declared.ident.Ident.{Ident}
use Rattle.swc_tree_node.specs.declared.kind.Kind.{Kind}
use Rattle.swc_tree_node.specs.declared.slot.Slot.{Slot}
use Rattle.swc_tree_node.specs.declared.node.Node.{Node, Absent, Flag, Word, Text, Span, List as Many, Identifier, Tree, out-Node, the_lemmas}
use Rattle.swc_tree_node.specs.declared.node.Node.TheOpen.{Node-F}
use Rattle.swc_tree_node.specs.declared.node.Node.TheVariants.{outs-Absent, outs-Flag, outs-Word, outs-Text, outs-Span, outs-List, outs-Tree, outs-Identifier, rolls-Tree}
use Rattle.swc_tree_node.specs.Table.{is_identifier, slots_of}
use Rattle.swc_tree_node.specs.Fits.{AllFit, FieldsFit, Fits, belongs, fits, list_fits}
use Rattle.swc_tree_node.proofs.Fit.{all_open, both as both_are, fields_open, fits-Absent, fits-Flag, fits-Word, fits-Text, fits-Span, fits-List, fits-Identifier, tree_opens}
use Rattle.swc_tree_scoping.specs.declared.places.Standing.{Standing}
use Rattle.swc_tree_scoping.specs.Places.{binds_patterns, field_role, is_there}
use Rattle.swc_tree_grammar.specs.Places.{content_of}
use Rattle.swc_tree_grammar.specs.Shapes.{items_of}
use Rattle.swc_tree_grammar.specs.Levels.{is_absent}
use Rattle.swc_tree_grammar.specs.Normal.{again, opened as opened_branch, pattern_property_in, specifier, written_out}
use Rattle.swc_tree_grammar.proofs.Induction.{Each, by_children}
use Rattle.swc_tree_grammar.proofs.Items.{items_of_list, listed}
use Rattle.swc_tree_grammar.proofs.Places.{one, stands}
use Rattle.swc_tree_sites.specs.Sites.{both, joined, nothing}
use Rattle.swc_tree_sites_written.specs.Tame.{branch_tame, fields_tame, is_tame}
use Rattle.swc_tree_sites.proofs.Kept.{E, S, out_step}
use Rattle.swc_tree_sites_laws.proofs.Expressions.{P}
use Rattle.swc_tree_sites_written.proofs.Written.{of, tame_list, tame_tree, written_list, written_name, written_tree}
use Rattle.swc_tree_sites_written.proofs.WrittenForms.{StepSame, array_same, arrow_same, catch_same, declarator_same, default_same, for_in_same, for_of_same, object_same, parameter_same, rest_same, setter_same, value_same}
use Rattle.swc_tree_node.specs.declared.kind.Kind.TheVariants as kind
use Rattle.swc_tree_node.specs.declared.kind.Class.TheVariants as class
use Rattle.swc_tree_node.specs.declared.slot.Content.TheVariants as content
use Rattle.swc_tree_node.specs.declared.slot.Slot.TheVariants as slot
use Rattle.swc_tree_scoping.specs.declared.places.Standing.TheVariants as standing
use Rattle.swc_tree_sites_laws.proofs.Parts.{has_parts, is_part_kind, single_content}
use Rattle.swc_tree_sites_written.proofs.WrittenFields.{Claim, fields_written, is_free_slot, items_written, modules_in, own_link, tame_at}
use Rattle.swc_tree_sites_written.proofs.WrittenNames.{again_quiet, outer_quiet, shorthand_same}
use Rattle.swc_tree_sites_written.proofs.Branches.{identifier_class}
use Rattle.swc_tree_sites_written.proofs.Lists.{texts_fit}
use Rattle.swc_tree_sites_written.proofs.Opened.{Known, claims, export_list_same, opened_same, span_quiet, statements_in, tame_of}

-- what a step makes of a node of a kind, with these fields
abbrev Steps : Kind → List Node → Type 0
Steps k ts = (p : Standing) (n b : Bool) → Each Known ts → FieldsFit (slots_of k) ts → branch_tame (Node-F.Tree k (map of ts)) ≡ true → fields_tame (field_role k) b (map of ts) ≡ true
    → (is_part_kind k ≡ true → binds_patterns p ≡ b) → StepSame p n k (map written_out ts)

two : (k : Kind) (x y : Slot) → ((a c : Node) → Steps k (a ∷ c ∷ [])) → (ts : List Node) → FieldsFit (x ∷ y ∷ []) ts → Steps k ts
two k x y g [] f = absurd f
two k x y g (a ∷ []) f = absurd f.1
two k x y g (a ∷ c ∷ []) f = g a c
two k x y g (a ∷ c ∷ d ∷ ts) f = absurd f.1.1

three : (k : Kind) (x y z : Slot) → ((a c d : Node) → Steps k (a ∷ c ∷ d ∷ [])) → (ts : List Node) → FieldsFit (x ∷ y ∷ z ∷ []) ts → Steps k ts
three k x y z g [] f = absurd f
three k x y z g (a ∷ []) f = absurd f.1
three k x y z g (a ∷ c ∷ []) f = absurd f.1.1
three k x y z g (a ∷ c ∷ d ∷ []) f = g a c d
three k x y z g (a ∷ c ∷ d ∷ e ∷ ts) f = absurd f.1.1.1

four : (k : Kind) (x y z w : Slot) → ((a c d e : Node) → Steps k (a ∷ c ∷ d ∷ e ∷ [])) → (ts : List Node) → FieldsFit (x ∷ y ∷ z ∷ w ∷ []) ts → Steps k ts
four k x y z w g [] f = absurd f
four k x y z w g (a ∷ []) f = absurd f.1
four k x y z w g (a ∷ c ∷ []) f = absurd f.1.1
four k x y z w g (a ∷ c ∷ d ∷ []) f = absurd f.1.1.1
four k x y z w g (a ∷ c ∷ d ∷ e ∷ []) f = g a c d e
four k x y z w g (a ∷ c ∷ d ∷ e ∷ v ∷ ts) f = absurd f.1.1.1.1

five : (k : Kind) (x y z w v : Slot) → ((a c d e g : Node) → Steps k (a ∷ c ∷ d ∷ e ∷ g ∷ [])) → (ts : List Node) → FieldsFit (x ∷ y ∷ z ∷ w ∷ v ∷ []) ts → Steps k ts
five k x y z w v g [] f = absurd f
five k x y z w v g (a ∷ []) f = absurd f.1
five k x y z w v g (a ∷ c ∷ []) f = absurd f.1.1
five k x y z w v g (a ∷ c ∷ d ∷ []) f = absurd f.1.1.1
five k x y z w v g (a ∷ c ∷ d ∷ e ∷ []) f = absurd f.1.1.1.1
five k x y z w v g (a ∷ c ∷ d ∷ e ∷ u ∷ []) f = g a c d e u
five k x y z w v g (a ∷ c ∷ d ∷ e ∷ u ∷ s ∷ ts) f = absurd f.1.1.1.1.1

array_step : (a e : Node) → Steps kind.ArrayPat (a ∷ e ∷ [])
array_step a e p n b h f br t own = array_same p n b a e f.1.0 (own refl) (tame_of b e (tame_at (field_role kind.ArrayPat) b (a ∷ e ∷ []) 1 e t refl))

rest_step : (a c : Node) → Steps kind.RestPat (a ∷ c ∷ [])
rest_step a c p n b h f br t own = rest_same p n b a c (own refl) (tame_at (field_role kind.RestPat) b (a ∷ c ∷ []) 1 c t refl)

value_step : (a c : Node) → Steps kind.KeyValuePatProp (a ∷ c ∷ [])
value_step a c p n b h f br t own = value_same p n b a c (own refl) (tame_at (field_role kind.KeyValuePatProp) b (a ∷ c ∷ []) 1 c t refl)

parameter_step : (a c : Node) → Steps kind.Param (a ∷ c ∷ [])
parameter_step a c p n b h f br t own = parameter_same p n b a c (tame_at (field_role kind.Param) b (a ∷ c ∷ []) 1 c t refl)

default_step : (a c d : Node) → Steps kind.AssignPat (a ∷ c ∷ d ∷ [])
default_step a c d p n b h f br t own = default_same p n b a c d (own refl) (tame_at (field_role kind.AssignPat) b (a ∷ c ∷ d ∷ []) 1 c t refl)

declarator_step : (a c d : Node) → Steps kind.VarDeclarator (a ∷ c ∷ d ∷ [])
declarator_step a c d p n b h f br t own = declarator_same p n b a c d (own refl) (tame_at (field_role kind.VarDeclarator) b (a ∷ c ∷ d ∷ []) 1 c t refl)

catch_step : (a c d : Node) → Steps kind.CatchClause (a ∷ c ∷ d ∷ [])
catch_step a c d p n b h f br t own = catch_same p n b a c d (tame_at (field_role kind.CatchClause) b (a ∷ c ∷ d ∷ []) 1 c t refl)

setter_step : (a k c d : Node) → Steps kind.SetterProp (a ∷ k ∷ c ∷ d ∷ [])
setter_step a k c d p n b h f br t own = setter_same p n b a k c d (tame_at (field_role kind.SetterProp) b (a ∷ k ∷ c ∷ d ∷ []) 2 c t refl)

arrow_step : (a e c d : Node) → Steps kind.ArrowExpr (a ∷ e ∷ c ∷ d ∷ [])
arrow_step a e c d p n b h f br t own = arrow_same p n b a e c d f.1.0 (tame_of true e (tame_at (field_role kind.ArrowExpr) b (a ∷ e ∷ c ∷ d ∷ []) 1 e t refl))

for_in_step : (a c d e : Node) → Steps kind.ForInStmt (a ∷ c ∷ d ∷ e ∷ [])
for_in_step a c d e p n b h f br t own = for_in_same p n b (written_out a) (written_out c) (written_out d) (written_out e)

for_of_step : (a g c d e : Node) → Steps kind.ForOfStmt (a ∷ g ∷ c ∷ d ∷ e ∷ [])
for_of_step a g c d e p n b h f br t own = for_of_same p n b (written_out a) (written_out g) (written_out c) (written_out d) (written_out e)

object_step : (a e : Node) → Steps kind.ObjectLit (a ∷ e ∷ [])
object_step a e p n b h f br t own = let l = listed e (content.Node class.PropOrSpread) f.1.0 in object_same p n b (written_out a) e l.items l.is

-- the identifier that a pattern binds
binding_class : (t : Node) → Fits t (one class.BindingIdent) → (i : Ident) × (t ≡ Identifier kind.BindingIdent i)
binding_class t = by_children (λ t. Fits t (one class.BindingIdent) → (i : Ident) × (t ≡ Identifier kind.BindingIdent i)) (
  λ f. absurd (cc (sym (fits-Absent (one class.BindingIdent)) ∙ f)),
  λ x f. absurd (cc (sym (fits-Flag x (one class.BindingIdent)) ∙ f)),
  λ v f. absurd (cc (sym (fits-Word v (one class.BindingIdent)) ∙ f)),
  λ x f. absurd (cc (sym (fits-Text x (one class.BindingIdent)) ∙ f)),
  λ s f. absurd (cc (sym (fits-Span s (one class.BindingIdent)) ∙ f)),
  λ k i f. (i, ap (λ k. Identifier k i) (named_so k (both_are (is_identifier k) (belongs k class.BindingIdent) (sym (fits-Identifier k i (one class.BindingIdent)) ∙ f)).1)),
)
    (λ ts b f. absurd (cc (sym (fits-List ts (one class.BindingIdent)) ∙ f)))
    (λ k ts b f. absurd (no_tree_in k (tree_opens k ts class.BindingIdent f).0 (tree_opens k ts class.BindingIdent f).1)) t
  where
    named_so : (k : Kind) → IsTrue (belongs k class.BindingIdent) → k ≡ kind.BindingIdent
    named_so kind.BindingIdent b = refl
    named_so _ b = absurd (true≢false (sym b))

    no_tree_in : (k : Kind) → IsTrue (not (is_identifier k)) → IsTrue (belongs k class.BindingIdent) → ⊥
    no_tree_in kind.BindingIdent a b = absurd (cc)
    no_tree_in _ a b = absurd (cc)

shorthand_step : (a c v : Node) → Steps kind.AssignPatProp (a ∷ c ∷ v ∷ [])
shorthand_step a c v p n b h f br t own =
    let (i, is) = binding_class c f.1.0 in
    let e : written_out c ≡ Identifier kind.BindingIdent i = ap written_out is ∙ written_name kind.BindingIdent i in
    subst (λ z. S (P p n) (pattern_property_in (written_out a) z (written_out v) (out-Node z)) ≡ S (P p n) (Tree kind.AssignPatProp (written_out a ∷ z ∷ written_out v ∷ []))) (sym e)
    (ap (λ y. S (P p n) (pattern_property_in (written_out a) (Identifier kind.BindingIdent i) (written_out v) y)) (outs-Identifier kind.BindingIdent i)
    ∙ shorthand_same p n (written_out a) (written_out v) i (span_quiet (P standing.Plain n) a f.0))

import_step : (a l u : Node) → Steps kind.ImportNamedSpecifier (a ∷ l ∷ u ∷ [])
import_step a l u p n b h f br t own =
    let (k, i, is) = identifier_class l f.1.0 in
    let quiet : S (P standing.Imported n) (written_out l) ≡ nothing = ap (S (P standing.Imported n)) (ap written_out is ∙ written_name k i) ∙ outer_quiet standing.Imported n k i refl in
    out_step (P p n) (Tree kind.ImportNamedSpecifier (written_out a ∷ written_out l ∷ again (written_out l) (written_out u) ∷ [])) _ (outs-Tree kind.ImportNamedSpecifier (written_out a ∷ written_out l ∷ again (written_out l) (written_out u) ∷ []))
    ∙ ap (λ x. both (S (P standing.Plain n) (written_out a)) (both (S (P standing.Import n) (written_out l)) (both x nothing))) (again_quiet standing.Imported n (written_out l) (written_out u) refl quiet)
    ∙ sym (out_step (P p n) (Tree kind.ImportNamedSpecifier (written_out a ∷ written_out l ∷ written_out u ∷ [])) _ (outs-Tree kind.ImportNamedSpecifier (written_out a ∷ written_out l ∷ written_out u ∷ [])))

-- as what the names of an export list stand
abbrev export_local : Node → Standing
export_local c = cond (is_there (Some c)) standing.Imported standing.Reference

binds_none : (c : Node) → binds_patterns (export_local c) ≡ false
binds_none c = at (is_there (Some c))
  where
    at : (z : Bool) → binds_patterns (cond z standing.Imported standing.Reference) ≡ false
    at true = refl
    at false = refl

export_step : (a s c d : Node) → Steps kind.NamedExport (a ∷ s ∷ c ∷ d ∷ [])
export_step a s c d p n b h f br t own = at (is_absent (written_out c)) refl
  where
    fields : Node → List Node
    fields x = written_out a ∷ x ∷ written_out c ∷ written_out d ∷ []

    opens : (x : Node) → S (P p n) (Tree kind.NamedExport (written_out a ∷ x ∷ written_out c ∷ written_out d ∷ []))
        ≡ both (S (P standing.Plain n) (written_out a)) (both (S (P (export_local (written_out c)) n) x) (both (S (P standing.Plain n) (written_out c)) (both (S (P standing.Plain n) (written_out d)) nothing)))
    opens x = out_step (P p n) (Tree kind.NamedExport (written_out a ∷ x ∷ written_out c ∷ written_out d ∷ [])) _ (outs-Tree kind.NamedExport (written_out a ∷ x ∷ written_out c ∷ written_out d ∷ []))

    at : (z : Bool) → is_absent (written_out c) ≡ z → S (P p n) (Tree kind.NamedExport (written_out a ∷ cond (is_absent (written_out c)) (Many (map specifier (items_of (written_out s)))) (written_out s) ∷ written_out c ∷ written_out d ∷ []))
        ≡ S (P p n) (Tree kind.NamedExport (written_out a ∷ written_out s ∷ written_out c ∷ written_out d ∷ []))
    at false e = ap (λ z. S (P p n) (Tree kind.NamedExport (written_out a ∷ cond z (Many (map specifier (items_of (written_out s)))) (written_out s) ∷ written_out c ∷ written_out d ∷ []))) e
    at true e =
        ap (λ z. S (P p n) (Tree kind.NamedExport (written_out a ∷ cond z (Many (map specifier (items_of (written_out s)))) (written_out s) ∷ written_out c ∷ written_out d ∷ []))) e
        ∙ opens (Many (map specifier (items_of (written_out s))))
        ∙ ap (λ x. both (S (P standing.Plain n) (written_out a)) (both x (both (S (P standing.Plain n) (written_out c)) (both (S (P standing.Plain n) (written_out d)) nothing))))
        (export_list_same (export_local (written_out c)) n s (binds_none (written_out c)) f.1.0)
        ∙ sym (opens (written_out s))

if_step : (a x c d : Node) → Steps kind.IfStmt (a ∷ x ∷ c ∷ d ∷ [])
if_step a x c d p n b h f br t own =
    out_step (P p n) (Tree kind.IfStmt (written_out a ∷ written_out x ∷ opened_branch (written_out c) ∷ written_out d ∷ [])) _ (outs-Tree kind.IfStmt (written_out a ∷ written_out x ∷ opened_branch (written_out c) ∷ written_out d ∷ []))
    ∙ ap (λ z. both (S (P standing.Plain n) (written_out a)) (both (S (E n) (written_out x)) (both z (both (S (P standing.Branch n) (written_out d)) nothing))))
    (opened_same c n f.1.1.0 h.1.1.0 (tame_of false c (tame_at (field_role kind.IfStmt) b (a ∷ x ∷ c ∷ d ∷ []) 2 c t refl)) br)
    ∙ sym (out_step (P p n) (Tree kind.IfStmt (written_out a ∷ written_out x ∷ written_out c ∷ written_out d ∷ [])) _ (outs-Tree kind.IfStmt (written_out a ∷ written_out x ∷ written_out c ∷ written_out d ∷ [])))

abbrev is_module_kind : Kind → Bool
is_module_kind kind.Module = true
is_module_kind _ = false

step : (k : Kind) (ts : List Node) → is_module_kind k ≡ false → FieldsFit (slots_of k) ts → Steps k ts
step kind.IfStmt ts m f = four kind.IfStmt _ _ _ _ if_step ts f
step kind.ObjectLit ts m f = two kind.ObjectLit _ _ object_step ts f
step kind.AssignPatProp ts m f = three kind.AssignPatProp _ _ _ shorthand_step ts f
step kind.ArrayPat ts m f = two kind.ArrayPat _ _ array_step ts f
step kind.RestPat ts m f = two kind.RestPat _ _ rest_step ts f
step kind.KeyValuePatProp ts m f = two kind.KeyValuePatProp _ _ value_step ts f
step kind.AssignPat ts m f = three kind.AssignPat _ _ _ default_step ts f
step kind.Param ts m f = two kind.Param _ _ parameter_step ts f
step kind.ArrowExpr ts m f = four kind.ArrowExpr _ _ _ _ arrow_step ts f
step kind.SetterProp ts m f = four kind.SetterProp _ _ _ _ setter_step ts f
step kind.VarDeclarator ts m f = three kind.VarDeclarator _ _ _ declarator_step ts f
step kind.CatchClause ts m f = three kind.CatchClause _ _ _ catch_step ts f
step kind.ForInStmt ts m f = four kind.ForInStmt _ _ _ _ for_in_step ts f
step kind.ForOfStmt ts m f = five kind.ForOfStmt _ _ _ _ _ for_of_step ts f
step kind.ImportNamedSpecifier ts m f = three kind.ImportNamedSpecifier _ _ _ import_step ts f
step kind.NamedExport ts m f = four kind.NamedExport _ _ _ _ export_step ts f
step kind.Module ts m f = absurd (cc)
step k ts m f = λ p n b h g br t own. ap (S (P p n)) (rolls-Tree k (map written_out ts))

-- lists
list_items : (s : Slot) (ts : List Node) → IsTrue (list_fits (map fits ts) s) → is_free_slot s ≡ true → (u : Slot) × AllFit u ts × (has_parts u ≡ true → has_parts s ≡ true) × (is_free_slot u ≡ true)
list_items (slot.List c) ts f free = (slot.One c, all_open (slot.One c) ts f, λ e. e, free)
list_items (slot.OptionalList c) ts f free = (slot.One c, all_open (slot.One c) ts f, λ e. e, free)
list_items (slot.Holes c) ts f free = (slot.Optional c, all_open (slot.Optional c) ts f, λ e. e, free)
list_items slot.Pairs ts f free = (slot.Pair, all_open slot.Pair ts f, λ e. e, refl)
list_items slot.Pair ts f free = (slot.One content.Text, texts_fit ts (fields_open (slot.One content.Text ∷ slot.One content.Text ∷ []) ts f), λ e. absurd (cc), refl)
list_items (slot.One c) ts f free = absurd (cc)
list_items (slot.Optional c) ts f free = absurd (cc)

list_claim : (ts : List Node) → Each Claim ts → Claim (Many ts)
list_claim ts h p n b s f free tame link =
    let (u, items, parts, still) = list_items s ts (sym (fits-List ts s) ∙ f) free in
    ap (S (P p n)) (written_list ts) ∙ out_step (P p n) (Many (map written_out ts)) _ (outs-List (map written_out ts))
    ∙ ap joined (items_written p n b u ts h items still (sym (tame_list ts b) ∙ tame) (λ e. link (parts e)))
    ∙ sym (out_step (P p n) (Many ts) _ (outs-List ts))

-- trees
tree_claim : (k : Kind) (ts : List Node) → is_module_kind k ≡ false → Each Known ts → Claim (Tree k ts)
tree_claim k ts m h p n b s f free tame link =
    let w = stands k ts s f in
    let parts = both_are (branch_tame (Node-F.Tree k (map of ts))) (fields_tame (field_role k) b (map of ts)) (sym (tame_tree k ts b) ∙ tame) in
    let own = own_link k ts s p b w link in
    ap (S (P p n)) (written_tree k ts) ∙ step k ts m w.fields p n b h w.fields parts.0 parts.1 own ∙ fields_written k ts p n b (claims ts h) w.fields parts.1 own

module_claim : (ts : List Node) → Claim (Tree kind.Module ts)
module_claim ts p n b s f free tame link =
    let w = stands kind.Module ts s f in
    let held : modules_in (content_of s) ≡ true = ap modules_in (single_content s (content.Node w.in_class) w.place) ∙ w.belonging in
    let z = sym (ap not held) ∙ free in absurd (cc)

kind_claim : (k : Kind) (ts : List Node) → Each Known ts → Claim (Tree k ts)
kind_claim kind.Module ts h = module_claim ts
kind_claim k ts h = tree_claim k ts refl h

statements_known : (k : Kind) (ts : List Node) → Each Known ts → Each Claim (statements_in (Node-F.Tree k ts))
statements_known kind.BlockStmt [] h = tt
statements_known kind.BlockStmt (a ∷ []) h = tt
statements_known kind.BlockStmt (a ∷ b ∷ []) h = h.1.0.1
statements_known kind.BlockStmt (a ∷ b ∷ c ∷ ts) h = tt
statements_known kind.Module ts h = tt
statements_known _ ts h = tt

leaf_known : (t : Node) → written_out t ≡ t → items_of t ≡ [] → statements_in (out-Node t) ≡ [] → Known t
leaf_known t same i s = (λ p n b s f free tame link. ap (S (P p n)) same, subst (Each Claim) (sym i) tt, subst (Each Claim) (sym s) tt)

none_of_tree : (k : Kind) (ts : List Node) → items_of (Tree k ts) ≡ []
none_of_tree k ts = search (rules, the_lemmas)

pub known : (t : Node) → Known t
known t = by_children Known (
  leaf_known Absent (search (rules, the_lemmas)) (search (rules, the_lemmas)) (ap statements_in outs-Absent),
  λ x. leaf_known (Flag x) (search (rules, the_lemmas)) (search (rules, the_lemmas)) (ap statements_in (outs-Flag x)),
  λ v. leaf_known (Word v) (search (rules, the_lemmas)) (search (rules, the_lemmas)) (ap statements_in (outs-Word v)),
  λ x. leaf_known (Text x) (search (rules, the_lemmas)) (search (rules, the_lemmas)) (ap statements_in (outs-Text x)),
  λ r. leaf_known (Span r) (search (rules, the_lemmas)) (search (rules, the_lemmas)) (ap statements_in (outs-Span r)),
  λ k i. leaf_known (Identifier k i) (written_name k i) (search (rules, the_lemmas)) (ap statements_in (outs-Identifier k i)),
)
    (λ ts h. (list_claim ts (claims ts h), subst (Each Claim) (sym (items_of_list ts)) (claims ts h), subst (Each Claim) (sym (ap statements_in (outs-List ts))) tt))
    (λ k ts h. (kind_claim k ts h, subst (Each Claim) (sym (none_of_tree k ts)) tt, subst (Each Claim) (sym (ap statements_in (outs-Tree k ts))) (statements_known k ts h))) t

-- an item of a module
pub item_keeps : (t : Node) (r : Standing) (n : Bool) → Fits t (one class.ModuleItem) → IsTrue (is_tame t false) → S (P r n) (written_out t) ≡ S (P r n) t
item_keeps t r n f tame = (known t).0 r n false (one class.ModuleItem) f refl tame (λ e. absurd (cc))
