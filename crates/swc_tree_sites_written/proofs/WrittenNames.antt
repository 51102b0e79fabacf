-- Names that are written out anew are no bindings and no references.
use Rattle.std.proofs.Common.{◌≡◌, Bool, true, false, not, ◌&&◌, IsTrue, Some, List, [], ◌∷◌, refl, sym, ap, ◌∙◌, cond}
use Rattle.swc_tree_marks.specs.declared.ident.Ident.{Ident}
use Rattle.swc_tree_node.specs.declared.kind.Kind.{Kind}
use Rattle.swc_tree_node.specs.declared.node.Node.{Node, Absent, Flag, Word, Text, Span, List as Many, Identifier, Tree, out-Node}
use Rattle.swc_tree_node.specs.declared.node.Node.TheOpen.{Node-F}
use Rattle.swc_tree_node.specs.declared.node.Node.TheVariants.{outs-Absent, outs-Flag, outs-Word, outs-Text, outs-Span, outs-List, outs-Tree, outs-Identifier}
use Rattle.swc_tree_node.specs.Table.{is_identifier, slots_of}
use Rattle.swc_tree_node.specs.Fits.{FieldsFit, Fits, belongs}
use Rattle.swc_tree_node.proofs.Fit.{fits-Absent, fits-Flag, fits-Word, fits-Text, fits-Span, fits-List, fits-Identifier, fits-Tree, tree_opens}
use Rattle.swc_tree_scoping.specs.declared.places.Standing.{Standing}
use Rattle.swc_tree_scoping.specs.declared.places.Place.{Place}
use Rattle.swc_tree_scoping.specs.Places.{binds_patterns, is_expression_in, part_standing}
use Rattle.swc_tree_grammar.specs.Levels.{is_absent, is_absent_in}
use Rattle.swc_tree_grammar.specs.Normal.{again, again_in, pattern_property_in}
use Rattle.swc_tree_scoping.specs.Shorthands.{key_of}
use Rattle.swc_tree_grammar.proofs.Induction.{by_children}
use Rattle.swc_tree_grammar.proofs.Places.{one}
use Rattle.swc_tree_sites.specs.Sites.{both, nothing}
use Rattle.swc_tree_sites.proofs.Kept.{E, S, both_nothing, out_step}
use Rattle.swc_tree_sites_laws.proofs.Expressions.{P, of_identifier}
use Rattle.swc_tree_sites_laws.proofs.StrippedFewer.{of_absent, of_leaf}
use Rattle.swc_tree_sites_written.proofs.WrittenForms.{key_quiet}
use Rattle.swc_tree_node.specs.declared.kind.Kind.TheVariants as kind
use Rattle.swc_tree_node.specs.declared.kind.Class.TheVariants as class
use Rattle.swc_tree_node.specs.declared.slot.Content.TheVariants as content
use Rattle.swc_tree_node.specs.declared.slot.Slot.TheVariants as slot
use Rattle.swc_tree_scoping.specs.declared.places.Standing.TheVariants as standing

-- what is not there has no names
pub absent_nothing : (w : Place) (t : Node) → is_absent t ≡ true → S w t ≡ nothing
absent_nothing w t = by_children (λ t. is_absent t ≡ true → S w t ≡ nothing) (
  λ h. of_absent w,
  λ x h. absurd (cc (sym (ap is_absent_in (outs-Flag x)) ∙ h)),
  λ v h. absurd (cc (sym (ap is_absent_in (outs-Word v)) ∙ h)),
  λ x h. absurd (cc (sym (ap is_absent_in (outs-Text x)) ∙ h)),
  λ r h. absurd (cc (sym (ap is_absent_in (outs-Span r)) ∙ h)),
  λ k i h. absurd (cc (sym (ap is_absent_in (outs-Identifier k i)) ∙ h)),
)
    (λ ts b h. absurd (cc (sym (ap is_absent_in (outs-List ts)) ∙ h)))
    (λ k ts b h. absurd (cc (sym (ap is_absent_in (outs-Tree k ts)) ∙ h))) t

pub tree_part : (r : Standing) (k : Kind) (us : List Node) → part_standing r (Some (Tree k us)) ≡ r
tree_part r k us = ap (λ x. cond (binds_patterns r && x) standing.Reference r) (ap is_expression_in (outs-Tree k us)) ∙ at (binds_patterns r)
  where
    at : (x : Bool) → cond (x && false) standing.Reference r ≡ r
    at true = refl
    at false = refl

-- the shorthand of a pattern
pub shorthand_same : (p : Standing) (n : Bool) (a v : Node) (i : Ident) → S (P standing.Plain n) a ≡ nothing
    → S (P p n) (pattern_property_in a (Identifier kind.BindingIdent i) v (Node-F.Identifier kind.BindingIdent i)) ≡ S (P p n) (Tree kind.AssignPatProp (a ∷ Identifier kind.BindingIdent i ∷ v ∷ []))
shorthand_same p n a v i quiet = at (is_absent v) refl
  where
    before : S (P p n) (Tree kind.AssignPatProp (a ∷ Identifier kind.BindingIdent i ∷ v ∷ []))
        ≡ both (S (P (part_standing p (Some (Identifier kind.BindingIdent i))) n) (Identifier kind.BindingIdent i)) (both (S (E n) v) nothing)
    before = out_step (P p n) (Tree kind.AssignPatProp (a ∷ Identifier kind.BindingIdent i ∷ v ∷ [])) _ (outs-Tree kind.AssignPatProp (a ∷ Identifier kind.BindingIdent i ∷ v ∷ []))
        ∙ ap (λ x. both x (both (S (P (part_standing p (Some (Identifier kind.BindingIdent i))) n) (Identifier kind.BindingIdent i)) (both (S (E n) v) nothing))) quiet

    after : (d : Node) → S (P p n) (Tree kind.KeyValuePatProp (key_of i ∷ d ∷ [])) ≡ both (S (P (part_standing p (Some d)) n) d) nothing
    after d = out_step (P p n) (Tree kind.KeyValuePatProp (key_of i ∷ d ∷ [])) _ (outs-Tree kind.KeyValuePatProp (key_of i ∷ d ∷ [])) ∙ ap (λ x. both x (both (S (P (part_standing p (Some d)) n) d) nothing)) (key_quiet standing.Plain n true i)

    given : S (P (part_standing p (Some (Tree kind.AssignPat (Span i.span ∷ Identifier kind.BindingIdent i ∷ v ∷ [])))) n) (Tree kind.AssignPat (Span i.span ∷ Identifier kind.BindingIdent i ∷ v ∷ []))
        ≡ both (S (P (part_standing p (Some (Identifier kind.BindingIdent i))) n) (Identifier kind.BindingIdent i)) (both (S (E n) v) nothing)
    given = ap (λ r. S (P r n) (Tree kind.AssignPat (Span i.span ∷ Identifier kind.BindingIdent i ∷ v ∷ []))) (tree_part p kind.AssignPat (Span i.span ∷ Identifier kind.BindingIdent i ∷ v ∷ []))
        ∙ out_step (P p n) (Tree kind.AssignPat (Span i.span ∷ Identifier kind.BindingIdent i ∷ v ∷ [])) _ (outs-Tree kind.AssignPat (Span i.span ∷ Identifier kind.BindingIdent i ∷ v ∷ []))
        ∙ ap (λ x. both x (both (S (P (part_standing p (Some (Identifier kind.BindingIdent i))) n) (Identifier kind.BindingIdent i)) (both (S (E n) v) nothing))) (out_step (P standing.Plain n) (Span i.span) _ (outs-Span i.span))

    at : (b : Bool) → is_absent v ≡ b → S (P p n) (Tree kind.KeyValuePatProp (key_of i ∷ cond (is_absent v) (Identifier kind.BindingIdent i) (Tree kind.AssignPat (Span i.span ∷ Identifier kind.BindingIdent i ∷ v ∷ [])) ∷ []))
        ≡ S (P p n) (Tree kind.AssignPatProp (a ∷ Identifier kind.BindingIdent i ∷ v ∷ []))
    at true e =
        ap (λ z. S (P p n) (Tree kind.KeyValuePatProp (key_of i ∷ cond z (Identifier kind.BindingIdent i) (Tree kind.AssignPat (Span i.span ∷ Identifier kind.BindingIdent i ∷ v ∷ [])) ∷ []))) e
        ∙ after (Identifier kind.BindingIdent i)
        ∙ ap (λ x. both (S (P (part_standing p (Some (Identifier kind.BindingIdent i))) n) (Identifier kind.BindingIdent i)) (both x nothing)) (sym (absent_nothing (E n) v e)) ∙ sym before
    at false e =
        ap (λ z. S (P p n) (Tree kind.KeyValuePatProp (key_of i ∷ cond z (Identifier kind.BindingIdent i) (Tree kind.AssignPat (Span i.span ∷ Identifier kind.BindingIdent i ∷ v ∷ [])) ∷ []))) e
        ∙ after (Tree kind.AssignPat (Span i.span ∷ Identifier kind.BindingIdent i ∷ v ∷ []))
        ∙ ap (λ x. both x nothing) given ∙ both_nothing (both (S (P (part_standing p (Some (Identifier kind.BindingIdent i))) n) (Identifier kind.BindingIdent i)) (both (S (E n) v) nothing)) ∙ sym before

-- what stands as no name has none
abbrev is_outer : Standing → Bool
is_outer standing.Imported = true
is_outer standing.Exported = true
is_outer _ = false

pub outer_quiet : (r : Standing) (n : Bool) (k : Kind) (i : Ident) → is_outer r ≡ true → S (P r n) (Identifier k i) ≡ nothing
outer_quiet standing.Imported n k i h = of_identifier (P standing.Imported n) k i
outer_quiet standing.Exported n k i h = of_identifier (P standing.Exported n) k i
outer_quiet _ n k i h = absurd (cc)

-- what a specifier leaves out, the other name again
pub again_quiet : (r : Standing) (n : Bool) (l u : Node) → is_outer r ≡ true → S (P r n) l ≡ nothing → S (P r n) (again l u) ≡ S (P r n) u
again_quiet r n l u outer quiet = at (is_absent u) refl
  where
    same : (l : Node) → S (P r n) l ≡ nothing → S (P r n) (again_in l (out-Node l)) ≡ nothing
    same l = by_children (λ l. S (P r n) l ≡ nothing → S (P r n) (again_in l (out-Node l)) ≡ nothing) (
      λ h. ap (λ y. S (P r n) (again_in Absent y)) outs-Absent ∙ h,
      λ x h. ap (λ y. S (P r n) (again_in (Flag x) y)) (outs-Flag x) ∙ h,
      λ v h. ap (λ y. S (P r n) (again_in (Word v) y)) (outs-Word v) ∙ h,
      λ x h. ap (λ y. S (P r n) (again_in (Text x) y)) (outs-Text x) ∙ h,
      λ s h. ap (λ y. S (P r n) (again_in (Span s) y)) (outs-Span s) ∙ h,
      λ k i h. ap (λ y. S (P r n) (again_in (Identifier k i) y)) (outs-Identifier k i) ∙ outer_quiet r n kind.Ident (record { span = i.span; ctxt = []; sym = i.sym }) outer,
    )
        (λ ts b h. ap (λ y. S (P r n) (again_in (Many ts) y)) (outs-List ts) ∙ h)
        (λ k ts b h. ap (λ y. S (P r n) (again_in (Tree k ts) y)) (outs-Tree k ts) ∙ h) l

    at : (b : Bool) → is_absent u ≡ b → S (P r n) (cond (is_absent u) (again_in l (out-Node l)) u) ≡ S (P r n) u
    at true e = ap (λ z. S (P r n) (cond z (again_in l (out-Node l)) u)) e ∙ same l quiet ∙ sym (absent_nothing (P r n) u e)
    at false e = ap (λ z. S (P r n) (cond z (again_in l (out-Node l)) u)) e

-- a name of a module, as it stands outside of it
abbrev OuterQuiet : Node → Type 0
OuterQuiet t = (r : Standing) (n : Bool) → Fits t (one class.ModuleExportName) → is_outer r ≡ true → S (P r n) t ≡ nothing

pub optional_text : (w : Place) (t : Node) → Fits t (slot.Optional content.Text) → S w t ≡ nothing
optional_text w t = by_children (λ t. Fits t (slot.Optional content.Text) → S w t ≡ nothing) (
  λ f. of_absent w,
  λ x f. out_step w (Flag x) _ (outs-Flag x),
  λ v f. out_step w (Word v) _ (outs-Word v),
  λ x f. out_step w (Text x) _ (outs-Text x),
  λ r f. out_step w (Span r) _ (outs-Span r),
  λ k i f. absurd (cc (sym (fits-Identifier k i (slot.Optional content.Text)) ∙ f)),
)
    (λ ts b f. absurd (cc (sym (fits-List ts (slot.Optional content.Text)) ∙ f)))
    (λ k ts b f. absurd (cc (sym (fits-Tree k ts (slot.Optional content.Text)) ∙ f))) t

pub outer_name : (t : Node) → OuterQuiet t
outer_name t = by_children OuterQuiet (
  λ r n f h. absurd (cc (sym (fits-Absent (one class.ModuleExportName)) ∙ f)),
  λ x r n f h. absurd (cc (sym (fits-Flag x (one class.ModuleExportName)) ∙ f)),
  λ v r n f h. absurd (cc (sym (fits-Word v (one class.ModuleExportName)) ∙ f)),
  λ x r n f h. absurd (cc (sym (fits-Text x (one class.ModuleExportName)) ∙ f)),
  λ s r n f h. absurd (cc (sym (fits-Span s (one class.ModuleExportName)) ∙ f)),
  λ k i r n f h. outer_quiet r n k i h,
)
    (λ ts b r n f h. absurd (cc (sym (fits-List ts (one class.ModuleExportName)) ∙ f)))
    (λ k ts b r n f h. at k ts (tree_opens k ts class.ModuleExportName f).0 (tree_opens k ts class.ModuleExportName f).1 (tree_opens k ts class.ModuleExportName f).2 r n) t
  where
    at : (k : Kind) (ts : List Node) → IsTrue (not (is_identifier k)) → IsTrue (belongs k class.ModuleExportName) → FieldsFit (slots_of k) ts → (r : Standing) (n : Bool) → S (P r n) (Tree k ts) ≡ nothing
    at kind.Str (a ∷ v ∷ w ∷ []) i c f r n =
        out_step (P r n) (Tree kind.Str (a ∷ v ∷ w ∷ [])) _ (outs-Tree kind.Str (a ∷ v ∷ w ∷ []))
        ∙ ap (λ x. both x (both (S (P standing.Plain n) v) (both (S (P standing.Plain n) w) nothing))) (of_leaf (P standing.Plain n) content.Span a refl f.0)
        ∙ ap (λ x. both x (both (S (P standing.Plain n) w) nothing)) (of_leaf (P standing.Plain n) content.Text v refl f.1.0)
        ∙ ap (λ x. both x nothing) (optional_text (P standing.Plain n) w f.1.1.0)
    at kind.Str [] i c f r n = absurd f
    at kind.Str (a ∷ []) i c f r n = absurd f.1
    at kind.Str (a ∷ v ∷ []) i c f r n = absurd f.1.1
    at kind.Str (a ∷ v ∷ w ∷ x ∷ ts) i c f r n = absurd f.1.1.1
    at kind.Ident ts i c f r n = absurd (cc)
    at _ ts i c f r n = absurd (cc)
