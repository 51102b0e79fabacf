-- Each form that writing out changes has the names that it had.
use Rattle.std.proofs.Common.{◌≡◌, Bool, true, false, ◌&&◌, Some, List, [], ◌∷◌, map, refl, sym, ap, ◌∙◌, subst, cond, rules}
use Rattle.std.specs.List.{slice_get}
use Rattle.swc_tree_marks.specs.declared.ident.Ident.{Ident}
use Rattle.swc_tree_node.specs.declared.kind.Kind.{Kind}
use Rattle.swc_tree_node.specs.declared.slot.Content.{Content}
use Rattle.swc_tree_node.specs.declared.node.Node.{Node, Absent, Text, Span, List as Many, Identifier, Tree, the_lemmas}
use Rattle.swc_tree_node.specs.declared.node.Node.TheOpen.{Node-F}
use Rattle.swc_tree_node.specs.declared.node.Node.TheVariants.{outs-Text, outs-Span, outs-List, outs-Tree, outs-Identifier}
use Rattle.swc_tree_node.specs.Fits.{Fits}
use Rattle.swc_tree_node.proofs.Fit.{both as both_are, fits-Absent, fits-Flag, fits-Word, fits-Text, fits-Span, fits-Identifier, fits-Tree}
use Rattle.swc_tree_scoping.specs.declared.places.Standing.{Standing}
use Rattle.swc_tree_scoping.specs.Places.{binds_patterns, is_expression_in, is_identifier_expression, part_standing, view_from}
use Rattle.swc_tree_scoping.specs.Folds.{each_in}
use Rattle.swc_tree_grammar.specs.Shapes.{items_of}
use Rattle.swc_tree_grammar.specs.Normal.{as_pattern, property, property_in, written_out, written_step}
use Rattle.swc_tree_scoping.specs.Shorthands.{computed_key, key_of, shorthand_key}
use Rattle.swc_tree_grammar.proofs.Induction.{by_children}
use Rattle.swc_tree_grammar.proofs.Items.{items_of_list, listed}
use Rattle.swc_tree_sites.specs.Sites.{both, in_scope, joined, nothing}
use Rattle.swc_tree_sites_written.specs.Tame.{is_tame, items_tame, part_tame}
use Rattle.swc_tree_sites.proofs.Kept.{E, S, all, both_nothing, of_list, out_step}
use Rattle.swc_tree_sites_laws.proofs.Expressions.{P}
use Rattle.swc_tree_sites_laws.proofs.StrippedFewer.{of_absent}
use Rattle.swc_tree_sites_written.proofs.Written.{expression_written, of, pattern_same, tame_list, written_list}
use Rattle.swc_tree_sites_written.proofs.WrittenFields.{no_expression}
use Rattle.swc_tree_node.specs.declared.kind.Kind.TheVariants as kind
use Rattle.swc_tree_node.specs.declared.kind.Class.TheVariants as class
use Rattle.swc_tree_node.specs.declared.slot.Content.TheVariants as content
use Rattle.swc_tree_node.specs.declared.slot.Slot.TheVariants as slot
use Rattle.swc_tree_scoping.specs.declared.places.Standing.TheVariants as standing
use Rattle.swc_tree_scoping.specs.declared.places.Scope.TheVariants as scope

-- what is known of a node below
pat_cond : (r : Standing) (b : Bool) (c : Node) → binds_patterns r ≡ b → part_tame b (of c) ≡ true → binds_patterns r ≡ true → is_identifier_expression (Some (written_out c)) ≡ false
pat_cond r b c e h z = expression_written c ∙ no_expression b c h (sym e ∙ z)

-- a pattern in a field
field_pattern : (r : Standing) (n b : Bool) (c : Node) → binds_patterns r ≡ b → part_tame b (of c) ≡ true → S (P (part_standing r (Some (as_pattern (written_out c)))) n) (as_pattern (written_out c)) ≡ S (P (part_standing r (Some (written_out c))) n) (written_out c)
field_pattern r n b c e h = pattern_same (written_out c) r n (pat_cond r b c e h)

-- patterns in a list
list_patterns : (r : Standing) (n b : Bool) (ts : List Node) → binds_patterns r ≡ b → items_tame b (map of ts) ≡ true
    → each_in S (λ i. P (part_standing r (slice_get (map as_pattern (map written_out ts)) i)) n) (map as_pattern (map written_out ts)) ≡ each_in S (λ i. P (part_standing r (slice_get (map written_out ts) i)) n) (map written_out ts)
list_patterns r n b [] e h = refl
list_patterns r n b (c ∷ ts) e h =
    let z = both_are (part_tame b (of c)) (items_tame b (map of ts)) h in
    ap (λ a. a ∷ each_in S (λ i. P (part_standing r (slice_get (map as_pattern (map written_out ts)) i)) n) (map as_pattern (map written_out ts))) (field_pattern r n b c e z.0)
    ∙ ap (λ l. S (P (part_standing r (Some (written_out c))) n) (written_out c) ∷ l) (list_patterns r n b ts e z.1)

list_part : (r : Standing) (us : List Node) → part_standing r (Some (Many us)) ≡ r
list_part r us = ap (λ x. cond (binds_patterns r && x) standing.Reference r) (ap is_expression_in (outs-List us)) ∙ at (binds_patterns r)
  where
    at : (x : Bool) → cond (x && false) standing.Reference r ≡ r
    at true = refl
    at false = refl

pub list_of_patterns : (r : Standing) (n b : Bool) (ts : List Node) → binds_patterns r ≡ b → items_tame b (map of ts) ≡ true
    → S (P (part_standing r (Some (Many (map as_pattern (items_of (written_out (Many ts))))))) n) (Many (map as_pattern (items_of (written_out (Many ts))))) ≡ S (P (part_standing r (Some (written_out (Many ts)))) n) (written_out (Many ts))
list_of_patterns r n b ts e h =
    let items : items_of (written_out (Many ts)) ≡ map written_out ts = ap items_of (written_list ts) ∙ items_of_list (map written_out ts) in
    ap (λ us. S (P (part_standing r (Some (Many (map as_pattern us)))) n) (Many (map as_pattern us))) items
    ∙ ap (λ r. S (P r n) (Many (map as_pattern (map written_out ts)))) (list_part r (map as_pattern (map written_out ts)))
    ∙ out_step (P r n) (Many (map as_pattern (map written_out ts))) _ (outs-List (map as_pattern (map written_out ts)))
    ∙ ap joined (list_patterns r n b ts e h)
    ∙ sym (out_step (P r n) (Many (map written_out ts)) _ (outs-List (map written_out ts)))
    ∙ ap (λ r. S (P r n) (Many (map written_out ts))) (sym (list_part r (map written_out ts)))
    ∙ ap (λ u. S (P (part_standing r (Some u)) n) u) (sym (written_list ts))

-- what stands where a list with holes does is a list
holes_list : (t : Node) (c : Content) → Fits t (slot.Holes c) → (ts : List Node) × (t ≡ Many ts)
holes_list t c = by_children (λ t. Fits t (slot.Holes c) → (ts : List Node) × (t ≡ Many ts)) (
  λ h. absurd (cc (sym (fits-Absent (slot.Holes c)) ∙ h)),
  λ x h. absurd (cc (sym (fits-Flag x (slot.Holes c)) ∙ h)),
  λ w h. absurd (cc (sym (fits-Word w (slot.Holes c)) ∙ h)),
  λ x h. absurd (cc (sym (fits-Text x (slot.Holes c)) ∙ h)),
  λ r h. absurd (cc (sym (fits-Span r (slot.Holes c)) ∙ h)),
  λ k i h. absurd (cc (sym (fits-Identifier k i (slot.Holes c)) ∙ h)),
)
    (λ ts h g. (ts, refl))
    (λ k ts h g. absurd (cc (sym (fits-Tree k ts (slot.Holes c)) ∙ g))) t

-- what a step does to a node whose fields are written out
abbrev pub StepSame : Standing → Bool → Kind → List Node → Type 0
StepSame p n k us = S (P p n) (written_step (Node-F.Tree k us)) ≡ S (P p n) (Tree k us)

module _ (p : Standing) (n b : Bool) where
  pub array_same : (a e : Node) → Fits e (slot.Holes (content.Node class.Pat)) → binds_patterns p ≡ b → is_tame e b ≡ true → StepSame p n kind.ArrayPat (written_out a ∷ written_out e ∷ [])
  array_same a e f link t =
      let (ts, is) = holes_list e (content.Node class.Pat) f in
      subst (λ e. StepSame p n kind.ArrayPat (written_out a ∷ written_out e ∷ [])) (sym is)
      (out_step (P p n) (Tree kind.ArrayPat (written_out a ∷ Many (map as_pattern (items_of (written_out (Many ts)))) ∷ [])) _ (outs-Tree kind.ArrayPat (written_out a ∷ Many (map as_pattern (items_of (written_out (Many ts)))) ∷ []))
      ∙ ap (λ x. both (S (P standing.Plain n) (written_out a)) (both x nothing)) (list_of_patterns p n b ts link (sym (tame_list ts b) ∙ sym (ap (λ e. is_tame e b) is) ∙ t))
      ∙ sym (out_step (P p n) (Tree kind.ArrayPat (written_out a ∷ written_out (Many ts) ∷ [])) _ (outs-Tree kind.ArrayPat (written_out a ∷ written_out (Many ts) ∷ []))))

  pub arrow_same : (a e c d : Node) → Fits e (slot.List (content.Node class.Pat)) → is_tame e true ≡ true → StepSame p n kind.ArrowExpr (written_out a ∷ written_out e ∷ written_out c ∷ written_out d ∷ [])
  arrow_same a e c d f t =
      let l = listed e (content.Node class.Pat) f in
      subst (λ e. StepSame p n kind.ArrowExpr (written_out a ∷ written_out e ∷ written_out c ∷ written_out d ∷ [])) (sym l.is)
      (out_step (P p n) (Tree kind.ArrowExpr (written_out a ∷ Many (map as_pattern (items_of (written_out (Many l.items)))) ∷ written_out c ∷ written_out d ∷ [])) _
      (outs-Tree kind.ArrowExpr (written_out a ∷ Many (map as_pattern (items_of (written_out (Many l.items)))) ∷ written_out c ∷ written_out d ∷ []))
      ∙ ap (λ x. in_scope (Some scope.Function) (view_from kind.ArrowExpr) (S (P standing.Plain false) (written_out a) ∷ x ∷ S (P standing.Body false) (written_out c) ∷ S (P standing.Plain false) (written_out d) ∷ []))
      (list_of_patterns standing.Parameter false true l.items refl (sym (tame_list l.items true) ∙ sym (ap (λ e. is_tame e true) l.is) ∙ t))
      ∙ sym (out_step (P p n) (Tree kind.ArrowExpr (written_out a ∷ written_out (Many l.items) ∷ written_out c ∷ written_out d ∷ [])) _ (outs-Tree kind.ArrowExpr (written_out a ∷ written_out (Many l.items) ∷ written_out c ∷ written_out d ∷ []))))

  pub rest_same : (a c : Node) → binds_patterns p ≡ b → part_tame b (of c) ≡ true → StepSame p n kind.RestPat (written_out a ∷ written_out c ∷ [])
  rest_same a c link t =
      out_step (P p n) (Tree kind.RestPat (written_out a ∷ as_pattern (written_out c) ∷ [])) _ (outs-Tree kind.RestPat (written_out a ∷ as_pattern (written_out c) ∷ []))
      ∙ ap (λ x. both (S (P standing.Plain n) (written_out a)) (both x nothing)) (field_pattern p n b c link t)
      ∙ sym (out_step (P p n) (Tree kind.RestPat (written_out a ∷ written_out c ∷ [])) _ (outs-Tree kind.RestPat (written_out a ∷ written_out c ∷ [])))

  pub value_same : (a c : Node) → binds_patterns p ≡ b → part_tame b (of c) ≡ true → StepSame p n kind.KeyValuePatProp (written_out a ∷ written_out c ∷ [])
  value_same a c link t =
      out_step (P p n) (Tree kind.KeyValuePatProp (written_out a ∷ as_pattern (written_out c) ∷ [])) _ (outs-Tree kind.KeyValuePatProp (written_out a ∷ as_pattern (written_out c) ∷ []))
      ∙ ap (λ x. both (S (P standing.Plain n) (written_out a)) (both x nothing)) (field_pattern p n b c link t)
      ∙ sym (out_step (P p n) (Tree kind.KeyValuePatProp (written_out a ∷ written_out c ∷ [])) _ (outs-Tree kind.KeyValuePatProp (written_out a ∷ written_out c ∷ [])))

  pub parameter_same : (a c : Node) → part_tame true (of c) ≡ true → StepSame p n kind.Param (written_out a ∷ written_out c ∷ [])
  parameter_same a c t =
      out_step (P p n) (Tree kind.Param (written_out a ∷ as_pattern (written_out c) ∷ [])) _ (outs-Tree kind.Param (written_out a ∷ as_pattern (written_out c) ∷ []))
      ∙ ap (λ x. both (S (P standing.Plain n) (written_out a)) (both x nothing)) (field_pattern standing.Parameter n true c refl t)
      ∙ sym (out_step (P p n) (Tree kind.Param (written_out a ∷ written_out c ∷ [])) _ (outs-Tree kind.Param (written_out a ∷ written_out c ∷ [])))

  pub default_same : (a c d : Node) → binds_patterns p ≡ b → part_tame b (of c) ≡ true → StepSame p n kind.AssignPat (written_out a ∷ written_out c ∷ written_out d ∷ [])
  default_same a c d link t =
      out_step (P p n) (Tree kind.AssignPat (written_out a ∷ as_pattern (written_out c) ∷ written_out d ∷ [])) _ (outs-Tree kind.AssignPat (written_out a ∷ as_pattern (written_out c) ∷ written_out d ∷ []))
      ∙ ap (λ x. both (S (P standing.Plain n) (written_out a)) (both x (both (S (E n) (written_out d)) nothing))) (field_pattern p n b c link t)
      ∙ sym (out_step (P p n) (Tree kind.AssignPat (written_out a ∷ written_out c ∷ written_out d ∷ [])) _ (outs-Tree kind.AssignPat (written_out a ∷ written_out c ∷ written_out d ∷ [])))

  pub declarator_same : (a c d : Node) → binds_patterns p ≡ b → part_tame b (of c) ≡ true → StepSame p n kind.VarDeclarator (written_out a ∷ written_out c ∷ written_out d ∷ [])
  declarator_same a c d link t =
      out_step (P p n) (Tree kind.VarDeclarator (written_out a ∷ as_pattern (written_out c) ∷ written_out d ∷ [])) _ (outs-Tree kind.VarDeclarator (written_out a ∷ as_pattern (written_out c) ∷ written_out d ∷ []))
      ∙ ap (λ x. both (S (P standing.Plain n) (written_out a)) (both x (both (S (E n) (written_out d)) nothing))) (field_pattern p n b c link t)
      ∙ sym (out_step (P p n) (Tree kind.VarDeclarator (written_out a ∷ written_out c ∷ written_out d ∷ [])) _ (outs-Tree kind.VarDeclarator (written_out a ∷ written_out c ∷ written_out d ∷ [])))

  pub setter_same : (a k c d : Node) → part_tame true (of c) ≡ true → StepSame p n kind.SetterProp (written_out a ∷ written_out k ∷ written_out c ∷ written_out d ∷ [])
  setter_same a k c d t =
      out_step (P p n) (Tree kind.SetterProp (written_out a ∷ written_out k ∷ as_pattern (written_out c) ∷ written_out d ∷ [])) _ (outs-Tree kind.SetterProp (written_out a ∷ written_out k ∷ as_pattern (written_out c) ∷ written_out d ∷ []))
      ∙ ap (λ x. in_scope (Some scope.Function) (view_from kind.SetterProp) (S (P standing.Plain false) (written_out a) ∷ S (P standing.Plain n) (written_out k) ∷ x ∷ S (P standing.Body false) (written_out d) ∷ [])) (field_pattern standing.Parameter false true c refl t)
      ∙ sym (out_step (P p n) (Tree kind.SetterProp (written_out a ∷ written_out k ∷ written_out c ∷ written_out d ∷ [])) _ (outs-Tree kind.SetterProp (written_out a ∷ written_out k ∷ written_out c ∷ written_out d ∷ [])))

  pub catch_same : (a c d : Node) → part_tame true (of c) ≡ true → StepSame p n kind.CatchClause (written_out a ∷ written_out c ∷ written_out d ∷ [])
  catch_same a c d t =
      out_step (P p n) (Tree kind.CatchClause (written_out a ∷ as_pattern (written_out c) ∷ written_out d ∷ [])) _ (outs-Tree kind.CatchClause (written_out a ∷ as_pattern (written_out c) ∷ written_out d ∷ []))
      ∙ ap (λ x. in_scope (Some scope.Catch) (view_from kind.CatchClause) (S (P standing.Plain true) (written_out a) ∷ x ∷ S (P standing.Body true) (written_out d) ∷ [])) (field_pattern standing.CatchParameter true true c refl t)
      ∙ sym (out_step (P p n) (Tree kind.CatchClause (written_out a ∷ written_out c ∷ written_out d ∷ [])) _ (outs-Tree kind.CatchClause (written_out a ∷ written_out c ∷ written_out d ∷ [])))

  pub for_in_same : (a c d e : Node) → StepSame p n kind.ForInStmt (a ∷ c ∷ d ∷ e ∷ [])
  for_in_same a c d e =
      out_step (P p n) (Tree kind.ForInStmt (a ∷ as_pattern c ∷ d ∷ e ∷ [])) _ (outs-Tree kind.ForInStmt (a ∷ as_pattern c ∷ d ∷ e ∷ []))
      ∙ ap (λ x. in_scope (Some scope.For) (view_from kind.ForInStmt) (S (P standing.Plain n) a ∷ x ∷ S (E n) d ∷ S (P standing.Plain n) e ∷ [])) (pattern_same c standing.Reference n (λ z. absurd (cc)))
      ∙ sym (out_step (P p n) (Tree kind.ForInStmt (a ∷ c ∷ d ∷ e ∷ [])) _ (outs-Tree kind.ForInStmt (a ∷ c ∷ d ∷ e ∷ [])))

  pub for_of_same : (a g c d e : Node) → StepSame p n kind.ForOfStmt (a ∷ g ∷ c ∷ d ∷ e ∷ [])
  for_of_same a g c d e =
      out_step (P p n) (Tree kind.ForOfStmt (a ∷ g ∷ as_pattern c ∷ d ∷ e ∷ [])) _ (outs-Tree kind.ForOfStmt (a ∷ g ∷ as_pattern c ∷ d ∷ e ∷ []))
      ∙ ap (λ x. in_scope (Some scope.For) (view_from kind.ForOfStmt) (S (P standing.Plain n) a ∷ S (P standing.Plain n) g ∷ x ∷ S (E n) d ∷ S (P standing.Plain n) e ∷ [])) (pattern_same c standing.Reference n (λ z. absurd (cc)))
      ∙ sym (out_step (P p n) (Tree kind.ForOfStmt (a ∷ g ∷ c ∷ d ∷ e ∷ [])) _ (outs-Tree kind.ForOfStmt (a ∷ g ∷ c ∷ d ∷ e ∷ [])))

  -- properties
  pub key_quiet : (i : Ident) → S (P standing.Plain n) (key_of i) ≡ nothing
  key_quiet i = out_step (P standing.Plain n) (key_of i) _ (outs-Tree kind.IdentName (Span i.span ∷ Text i.sym ∷ [])) ∙ ap (λ x. both x (both (S (P standing.Plain n) (Text i.sym)) nothing)) (out_step (P standing.Plain n) (Span i.span) _ (outs-Span i.span))
      ∙ ap (λ x. both x nothing) (out_step (P standing.Plain n) (Text i.sym) _ (outs-Text i.sym))

  string_quiet : (i : Ident) (r : Standing) → S (P r n) (Tree kind.Str (Span i.span ∷ Text i.sym ∷ Absent ∷ [])) ≡ nothing
  string_quiet i r = out_step (P r n) (Tree kind.Str (Span i.span ∷ Text i.sym ∷ Absent ∷ [])) _ (outs-Tree kind.Str (Span i.span ∷ Text i.sym ∷ Absent ∷ []))
      ∙ ap (λ x. both x (both (S (P standing.Plain n) (Text i.sym)) (both (S (P standing.Plain n) Absent) nothing))) (out_step (P standing.Plain n) (Span i.span) _ (outs-Span i.span))
      ∙ ap (λ x. both x (both (S (P standing.Plain n) Absent) nothing)) (out_step (P standing.Plain n) (Text i.sym) _ (outs-Text i.sym)) ∙ ap (λ x. both x nothing) (of_absent (P standing.Plain n))

  computed_quiet : (i : Ident) → S (P standing.Plain n) (computed_key i) ≡ nothing
  computed_quiet i = out_step (P standing.Plain n) (computed_key i) _ (outs-Tree kind.ComputedPropName (Span i.span ∷ Tree kind.Str (Span i.span ∷ Text i.sym ∷ Absent ∷ []) ∷ []))
      ∙ ap (λ x. both x (both (S (E n) (Tree kind.Str (Span i.span ∷ Text i.sym ∷ Absent ∷ []))) nothing)) (out_step (P standing.Plain n) (Span i.span) _ (outs-Span i.span))
      ∙ ap (λ x. both x nothing) (string_quiet i standing.Reference)

  shorthand_quiet : (x : Bool) (i : Ident) → S (P standing.Plain n) (cond x (computed_key i) (key_of i)) ≡ nothing
  shorthand_quiet true i = computed_quiet i
  shorthand_quiet false i = key_quiet i

  pub property_same : (t : Node) → S (E n) (property t) ≡ S (E n) t
  property_same t = by_children (λ t. S (E n) (property t) ≡ S (E n) t) (
    ap (S (E n)) (search (rules, the_lemmas)),
    λ x. ap (S (E n)) (search (rules, the_lemmas)),
    λ w. ap (S (E n)) (search (rules, the_lemmas)),
    λ x. ap (S (E n)) (search (rules, the_lemmas)),
    λ r. ap (S (E n)) (search (rules, the_lemmas)),
    λ k i. ap (λ y. S (E n) (property_in (Identifier k i) y)) (outs-Identifier k i)
        ∙ out_step (E n) (Tree kind.KeyValueProp (shorthand_key i ∷ Identifier k i ∷ [])) _ (outs-Tree kind.KeyValueProp (shorthand_key i ∷ Identifier k i ∷ []))
        ∙ ap (λ x. both x (both (S (E n) (Identifier k i)) nothing)) (shorthand_quiet _ i) ∙ both_nothing (S (E n) (Identifier k i)),
  )
      (λ ts h. ap (λ y. S (E n) (property_in (Many ts) y)) (outs-List ts))
      (λ k ts h. ap (λ y. S (E n) (property_in (Tree k ts) y)) (outs-Tree k ts)) t

  pub properties_same : (us : List Node) → all (E n) (map property us) ≡ all (E n) us
  properties_same [] = refl
  properties_same (u ∷ us) = ap (λ a. both a (all (E n) (map property us))) (property_same u) ∙ ap (both (S (E n) u)) (properties_same us)

  pub object_same : (a e : Node) (ts : List Node) → e ≡ Many ts → StepSame p n kind.ObjectLit (a ∷ written_out e ∷ [])
  object_same a e ts is =
      let items : items_of (written_out e) ≡ map written_out ts = ap (λ e. items_of (written_out e)) is ∙ ap items_of (written_list ts) ∙ items_of_list (map written_out ts) in
      let props : S (E n) (Many (map property (items_of (written_out e)))) ≡ S (E n) (written_out e)
      = ap (λ us. S (E n) (Many (map property us))) items ∙ of_list (E n) (map property (map written_out ts)) refl ∙ properties_same (map written_out ts) ∙ sym (of_list (E n) (map written_out ts) refl) ∙ ap (S (E n)) (sym (ap written_out is ∙ written_list ts)) in
      out_step (P p n) (Tree kind.ObjectLit (a ∷ Many (map property (items_of (written_out e))) ∷ [])) _ (outs-Tree kind.ObjectLit (a ∷ Many (map property (items_of (written_out e))) ∷ []))
      ∙ ap (λ x. both (S (P standing.Plain n) a) (both x nothing)) props
      ∙ sym (out_step (P p n) (Tree kind.ObjectLit (a ∷ written_out e ∷ [])) _ (outs-Tree kind.ObjectLit (a ∷ written_out e ∷ [])))
