-- Where the ids stand that a declaration declares: as bindings, with no scope on the way to them.
use Rattle.std.proofs.Common.{◌≡◌, ℕ, zero, suc, Bool, true, false, ◌&&◌, Some, None, List, [], ◌∷◌, ◌++◌, map, refl, sym, ap, ◌∙◌, subst}
use Rattle.std.specs.Prelude.{slice_get, if◌then◌else◌}
use Rattle.std.specs.List.{flat_map}
use Rattle.swc_tree_marks.specs.declared.ident.Ident.{Ident}
use Rattle.swc_tree_node.specs.declared.kind.Kind.{Kind}
use Rattle.swc_tree_node.specs.declared.kind.Kind.TheVariants as kind
use Rattle.swc_tree_node.specs.declared.kind.Word.{Word}
use Rattle.swc_tree_node.specs.declared.kind.Word.TheVariants as word
use Rattle.swc_tree_node.specs.declared.slot.Role.{Role}
use Rattle.swc_tree_node.specs.declared.slot.Role.TheVariants as role
use Rattle.swc_tree_node.specs.declared.node.Node.{Node, List as Many, Identifier, Tree, out-Node}
use Rattle.swc_tree_node.specs.declared.node.Node.TheVariants.{outs-List, outs-Identifier, outs-Tree}
use Rattle.swc_tree_node.specs.declared.node.Node.TheOpen.{Node-F}
use Rattle.swc_tree_scoping.specs.declared.places.Standing.{Standing}
use Rattle.swc_tree_scoping.specs.declared.places.Standing.TheVariants as standing
use Rattle.swc_tree_scoping.specs.declared.places.Place.{Place}
use Rattle.swc_tree_scoping.specs.Places.{Path, binds_patterns, by_keyword, by_word, child, children_in, field_role, given, has_own_name, is_expression_in, keyword_in, opened, opened_as, opened_in, part_standing, place_at, place_below, place_in, standing_below, view_from}
use Rattle.swc_tree_scoping.specs.Scopes.{is_binding, rounds, seen_as, view_in}
use Rattle.swc_tree_scoping.specs.BoundNames.{Id, own_id, in_part, in_parts, bound_ids, name_in}
use Rattle.swc_tree_scoping.proofs.BoundNames.{bound-Absent, bound-Flag, bound-Word, bound-Text, bound-Span, bound-Identifier, bound-List, bound-Tree}
use Rattle.swc_tree_scoping.proofs.Under.{lower, place_under}
use Rattle.swc_tree_grammar.proofs.Induction.{Each, by_children}
use Rattle.swc_base_rename_analysis.specs.Analysis.{Around, is_for_body, opened_round, scopes_below}
use Rattle.swc_base_rename_laws.proofs.Impossible.{impossible}
use Rattle.swc_base_rename_laws.proofs.WritableStaysNames.{binds, unbound}

-- an identifier of the id stands below a node as a binding, and no scope on the way
pub record Found (w : Place) (t : Node) (x : Id) : Type 0 where
  pub path : Path
  pub place : Place
  pub node : Node
  pub there : place_at w t path ≡ Some (place, node)
  pub name : Ident
  pub named : name_in (out-Node node) ≡ Some name
  pub same : (name.sym, name.ctxt) ≡ x
  pub binding : is_binding place.standing ≡ true
  pub alone : scopes_below false w t path ≡ []
  pub inside : rounds w t path ≡ []

abbrev pub AllOf : (Id → Type 0) → List Id → Type 0
AllOf P [] = Unit {0}
AllOf P (x ∷ xs) = P x × AllOf P xs

all_map : {P Q : Id → Type 0} → ((x : Id) → P x → Q x) → (xs : List Id) → AllOf P xs → AllOf Q xs
all_map f [] l = tt
all_map f (x ∷ xs) l = (f x l.0, all_map f xs l.1)

all_append : (P : Id → Type 0) (xs ys : List Id) → AllOf P xs → AllOf P ys → AllOf P (xs ++ ys)
all_append P [] ys l m = m
all_append P (x ∷ xs) ys l m = (l.0, all_append P xs ys l.1 m)

abbrev pub lift : ℕ → Around → Around
lift i s = (i ∷ s.0, s.1)

-- what is below a child is below the node
pub under : (w : Place) (t : Node) (i : ℕ) (c : Node) (x : Id) → child t i ≡ Some c → is_for_body (out-Node t) i ≡ false → opened_round false w (out-Node t) i ≡ [] → seen_as (opened w t) (view_in (out-Node t) i) ≡ []
    → Found (place_below w t i) c x → Found w t x
under w t i c x e body opens seen f = record {
  path = i ∷ f.path;
  place = f.place;
  node = f.node;
  there = place_under w t c i f.path e ∙ f.there;
  name = f.name;
  named = f.named;
  same = f.same;
  binding = f.binding;
  alone = ap (λ o. map (lift i) (given o [] (λ c. scopes_below (is_for_body (out-Node t) i) (place_below w t i) c f.path)) ++ opened_round false w (out-Node t) i) e
      ∙ ap (λ b. map (lift i) (scopes_below b (place_below w t i) c f.path) ++ opened_round false w (out-Node t) i) body
      ∙ ap (λ l. map (lift i) l ++ opened_round false w (out-Node t) i) f.alone
      ∙ opens;
  inside = ap (λ o. map (lower i) (given o [] (λ c. rounds (place_below w t i) c f.path)) ++ seen_as (opened w t) (view_in (out-Node t) i)) e
      ∙ ap (λ l. map (lower i) l ++ seen_as (opened w t) (view_in (out-Node t) i)) f.inside
      ∙ seen;
}

-- ---- places

pattern_binding : (r : Standing) → binds_patterns r ≡ true → is_binding r ≡ true
pattern_binding standing.Variable h = refl
pattern_binding standing.Lexical h = refl
pattern_binding standing.Parameter h = refl
pattern_binding standing.CatchParameter h = refl
pattern_binding r h = impossible h

word_row : (w : Word) → binds_patterns (by_word w) ≡ true
word_row word.Var = refl
word_row w = refl

keyword_row : (y : Node-F Node) (rest : Standing) → binds_patterns rest ≡ true → binds_patterns (keyword_in y rest) ≡ true
keyword_row (Node-F.Word w) rest h = word_row w
keyword_row y rest h = h

keyword_binds : (ts : List Node) → binds_patterns (by_keyword ts) ≡ true
keyword_binds [] = refl
keyword_binds (t ∷ ts) = keyword_row (out-Node t) (by_keyword ts) (keyword_binds ts)

expression_name : (k : Kind) (i : Ident) → is_expression_in (Node-F.Identifier k i) ≡ true → own_id k i ≡ []
expression_name kind.Ident i h = refl
expression_name k i h = impossible h

-- an identifier expression binds nothing
no_expression : (t : Node) → is_expression_in (out-Node t) ≡ true → bound_ids t ≡ []
no_expression t = by_children (λ t. is_expression_in (out-Node t) ≡ true → bound_ids t ≡ [])
    (λ h. bound-Absent, λ x h. bound-Flag x, λ w h. bound-Word w, λ x h. bound-Text x, λ s h. bound-Span s, λ k i h. bound-Identifier k i ∙ expression_name k i (sym (ap is_expression_in (outs-Identifier k i)) ∙ h))
    (λ ts l h. impossible (sym (ap is_expression_in (outs-List ts)) ∙ h))
    (λ k ts l h. impossible (sym (ap is_expression_in (outs-Tree k ts)) ∙ h)) t

-- ---- patterns

abbrev pub Patterns : Node → Type 0
Patterns t = (w : Place) → binds_patterns w.standing ≡ true → AllOf (Found w t) (bound_ids t)

-- a part of a pattern
part_found : (v : Place) (r : Standing) (c : Node) → binds_patterns r ≡ true → v.standing ≡ part_standing r (Some c) → Patterns c → AllOf (Found v c) (bound_ids c)
part_found v r c h e p = by (is_expression_in (out-Node c)) refl
  where
    by : (b : Bool) → is_expression_in (out-Node c) ≡ b → AllOf (Found v c) (bound_ids c)
    by true g = subst (AllOf (Found v c)) (sym (no_expression c g)) tt
    by false g =
        let stands : v.standing ≡ r = e ∙ ap (λ b. if binds_patterns r && b then standing.Reference else r) g ∙ ap (λ b. if b && false then standing.Reference else r) h in
        p v (ap binds_patterns stands ∙ h)

part_of : (r : Role) (P : Id → Type 0) (ids : List Id) → (r ≡ role.Declared → AllOf P ids) → (r ≡ role.Lexical → AllOf P ids) → (r ≡ role.Inherited → AllOf P ids) → AllOf P (in_part r ids)
part_of role.Declared P ids d l i = d refl
part_of role.Lexical P ids d l i = l refl
part_of role.Inherited P ids d l i = i refl
part_of r P ids d l i = tt

all_parts : (P : Id → Type 0) (roles : ℕ → Role) (us : List Node) → ((i : ℕ) (c : Node) → slice_get us i ≡ Some c → AllOf P (in_part (roles i) (bound_ids c))) → AllOf P (in_parts roles (map bound_ids us))
all_parts P roles [] h = tt
all_parts P roles (u ∷ us) h = all_append P (in_part (roles zero) (bound_ids u)) (in_parts (λ i. roles (suc i)) (map bound_ids us)) (h zero u refl) (all_parts P (λ i. roles (suc i)) us (λ i c e. h (suc i) c e))

all_items : (P : Id → Type 0) (us : List Node) → ((i : ℕ) (c : Node) → slice_get us i ≡ Some c → AllOf P (bound_ids c)) → AllOf P (flat_map bound_ids us)
all_items P [] h = tt
all_items P (u ∷ us) h = all_append P (bound_ids u) (flat_map bound_ids us) (h zero u refl) (all_items P us (λ i c e. h (suc i) c e))

each_at : (P : Node → Type 0) (ts : List Node) → Each P ts → (i : ℕ) (c : Node) → slice_get ts i ≡ Some c → P c
each_at P [] l i c e = absurd (cc)
each_at P (t ∷ ts) l zero c e = let same : t ≡ c = cc in subst P same l.0
each_at P (t ∷ ts) l (suc i) c e = each_at P ts l.1 i c e

-- nodes that bind in their parts open no scope
opens_none : (k : Kind) → binds k ≡ true → (w : Place) (ts : List Node) (i : ℕ) → opened_round false w (Node-F.Tree k ts) i ≡ []
opens_none kind.VarDecl h w ts i = refl
opens_none kind.UsingDecl h w ts i = refl
opens_none kind.VarDeclarator h w ts i = refl
opens_none kind.ArrayPat h w ts i = refl
opens_none kind.ObjectPat h w ts i = refl
opens_none kind.RestPat h w ts i = refl
opens_none kind.AssignPat h w ts i = refl
opens_none kind.AssignPatProp h w ts i = refl
opens_none kind.KeyValuePatProp h w ts i = refl
opens_none kind.ExportNamedSpecifier h w ts i = refl
opens_none k h w ts i = impossible h

-- ... nor one of the language
no_scope : (k : Kind) → binds k ≡ true → (w : Place) (ts : List Node) → opened_as w k (has_own_name ts) ≡ None
no_scope kind.VarDecl h w ts = refl
no_scope kind.UsingDecl h w ts = refl
no_scope kind.VarDeclarator h w ts = refl
no_scope kind.ArrayPat h w ts = refl
no_scope kind.ObjectPat h w ts = refl
no_scope kind.RestPat h w ts = refl
no_scope kind.AssignPat h w ts = refl
no_scope kind.AssignPatProp h w ts = refl
no_scope kind.KeyValuePatProp h w ts = refl
no_scope kind.ExportNamedSpecifier h w ts = refl
no_scope k h w ts = impossible h

-- where a node opens no scope, none is seen from its fields
pub none_seen : (w : Place) (k : Kind) (ts : List Node) (i : ℕ) → opened_as w k (has_own_name ts) ≡ None → seen_as (opened w (Tree k ts)) (view_in (out-Node (Tree k ts)) i) ≡ []
none_seen w k ts i e = ap (λ y. seen_as (opened_in w y) (view_in y i)) (outs-Tree k ts) ∙ ap (λ o. seen_as o (view_from k i)) e

no_body : (k : Kind) → binds k ≡ true → (ts : List Node) (i : ℕ) → is_for_body (Node-F.Tree k ts) i ≡ false
no_body kind.VarDecl h ts i = refl
no_body kind.UsingDecl h ts i = refl
no_body kind.VarDeclarator h ts i = refl
no_body kind.ArrayPat h ts i = refl
no_body kind.ObjectPat h ts i = refl
no_body kind.RestPat h ts i = refl
no_body kind.AssignPat h ts i = refl
no_body kind.AssignPatProp h ts i = refl
no_body kind.KeyValuePatProp h ts i = refl
no_body kind.ExportNamedSpecifier h ts i = refl
no_body k h ts i = impossible h

module _ (w : Place) (k : Kind) (ts : List Node) (h : binds k ≡ true) where
  child_is : (i : ℕ) (c : Node) → slice_get ts i ≡ Some c → child (Tree k ts) i ≡ Some c
  child_is i c e = ap (λ y. slice_get (children_in y) i) (outs-Tree k ts) ∙ e

  stands_as : (i : ℕ) → (place_below w (Tree k ts) i).standing ≡ standing_below w k ts i (field_role k i)
  stands_as i = ap (λ y. (place_in w y i).standing) (outs-Tree k ts)

  below : (i : ℕ) (c : Node) (x : Id) → slice_get ts i ≡ Some c → Found (place_below w (Tree k ts) i) c x → Found w (Tree k ts) x
  below i c x e f = under w (Tree k ts) i c x (child_is i c e) (ap (λ y. is_for_body y i) (outs-Tree k ts) ∙ no_body k h ts i) (ap (λ y. opened_round false w y i) (outs-Tree k ts) ∙ opens_none k h w ts i) (none_seen w k ts i (no_scope k h w ts)) f

  field_found : (i : ℕ) (c : Node) → slice_get ts i ≡ Some c → (field_role k i ≡ role.Inherited → binds_patterns w.standing ≡ true) → Patterns c → AllOf (Found (place_below w (Tree k ts) i) c) (in_part (field_role k i) (bound_ids c))
  field_found i c e inherits p =
      let v = place_below w (Tree k ts) i in
      part_of (field_role k i) (Found v c) (bound_ids c)
      (λ r. p v (ap binds_patterns (stands_as i ∙ ap (standing_below w k ts i) r) ∙ keyword_binds ts))
      (λ r. p v (ap binds_patterns (stands_as i ∙ ap (standing_below w k ts i) r)))
      (λ r. part_found v w.standing c (inherits r) (stands_as i ∙ ap (standing_below w k ts i) r ∙ ap (part_standing w.standing) e) p)

  pub tree_found : Each Patterns ts → ((i : ℕ) → field_role k i ≡ role.Inherited → binds_patterns w.standing ≡ true) → AllOf (Found w (Tree k ts)) (bound_ids (Tree k ts))
  tree_found l inherits = subst (AllOf (Found w (Tree k ts))) (sym (bound-Tree k ts))
      (all_parts (Found w (Tree k ts)) (field_role k) ts (λ i c e. all_map (λ x f. below i c x e f) (in_part (field_role k i) (bound_ids c)) (field_found i c e (inherits i) (each_at Patterns ts l i c e))))

name_found : (k : Kind) (i : Ident) (w : Place) → binds_patterns w.standing ≡ true → AllOf (Found w (Identifier k i)) (own_id k i)
name_found kind.BindingIdent i w h = (record { path = []; place = w; node = Identifier kind.BindingIdent i; there = refl; name = i; named = ap name_in (outs-Identifier kind.BindingIdent i); same = refl; binding = pattern_binding w.standing h; alone = refl; inside = refl }, tt)
name_found k i w h = tt

list_found : (ts : List Node) → Each Patterns ts → Patterns (Many ts)
list_found ts l w h = subst (AllOf (Found w (Many ts))) (sym (bound-List ts))
    (all_items (Found w (Many ts)) ts (λ i c e. all_map (λ x f. under w (Many ts) i c x (ap (λ y. slice_get (children_in y) i) (outs-List ts) ∙ e) (ap (λ y. is_for_body y i) (outs-List ts)) (ap (λ y. opened_round false w y i) (outs-List ts)) (ap (λ y. seen_as (opened_in w y) (view_in y i)) (outs-List ts)) f) (bound_ids c)
    (part_found (place_below w (Many ts) i) w.standing c h (ap (λ y. (place_in w y i).standing) (outs-List ts) ∙ ap (part_standing w.standing) e) (each_at Patterns ts l i c e))))

pattern_tree : (b : Bool) (k : Kind) (ts : List Node) → binds k ≡ b → Each Patterns ts → Patterns (Tree k ts)
pattern_tree true k ts h l w s = tree_found w k ts h l (λ i r. s)
pattern_tree false k ts h l w s = subst (AllOf (Found w (Tree k ts))) (sym (unbound k ts h)) tt

-- what a pattern binds stands in it
pub patterns : (t : Node) → Patterns t
patterns t = by_children Patterns (
  λ w s. subst (AllOf _) (sym bound-Absent) tt,
  λ x w s. subst (AllOf _) (sym (bound-Flag x)) tt,
  λ x w s. subst (AllOf _) (sym (bound-Word x)) tt,
  λ x w s. subst (AllOf _) (sym (bound-Text x)) tt,
  λ x w s. subst (AllOf _) (sym (bound-Span x)) tt,
  λ k i w s. subst (AllOf (Found w (Identifier k i))) (sym (bound-Identifier k i)) (name_found k i w s),
)
    list_found (λ k ts l. pattern_tree (binds k) k ts refl l) t
