-- What is closed holds of a tree that is written out, and so of the normal form.
use Rattle.std.proofs.Common.{◌≡◌, ℕ, zero, suc, Bool, true, false, not, List, [], ◌∷◌, ◌++◌, map, refl, subst, nat_eq, rules}
use Rattle.std.specs.Prelude.{codes, if◌then◌else◌, slice_get}
use Rattle.std.specs.List.{filter, flat_map}
use Rattle.std.specs.Cmp.Lexicographic.{pointwise}
use Rattle.swc_tree_marks.specs.declared.ident.Ident.{Ident}
use Rattle.swc_tree_node.specs.declared.kind.Kind.{Kind}
use Rattle.swc_tree_node.specs.declared.kind.Kind.TheVariants as kind
use Rattle.swc_tree_node.specs.declared.slot.Role.{Role}
use Rattle.swc_tree_node.specs.declared.slot.Role.TheVariants as role
use Rattle.swc_tree_node.specs.declared.node.Node.{Node, Absent, Flag, Word, Text, Span, List as Many, Identifier, Tree, out-Node, the_lemmas}
use Rattle.swc_tree_node.specs.declared.node.Node.TheVariants.{rolls-Tree}
use Rattle.swc_tree_node.specs.declared.node.Node.TheOpen.{Node-F}
use Rattle.swc_tree_scoping.specs.BoundNames.{Id, bound_ids, declared_ids, declared_in, id_of, in_part, in_parts, name_in, name_of, own_id}
use Rattle.swc_tree_scoping.specs.Places.{field_role}
use Rattle.swc_tree_scoping.specs.Shorthands.{computed_key, key_of, shorthand_key}
use Rattle.swc_tree_grammar.specs.Blocks.{no_span, takes_else}
use Rattle.swc_tree_grammar.specs.Levels.{is_absent}
use Rattle.swc_tree_grammar.specs.Normal.{again, again_in, as_pattern, each_once, export_list, exported_as_itself, made, normal_form, only_in, opened, opened_in, pattern_in, pattern_property_in, plain_name, property, property_in, same_id, specifier, specifier_in, split, split_in, with_default, written_out, written_step}
use Rattle.swc_tree_grammar.specs.Shapes.{items_of}
use Rattle.swc_tree_grammar.specs.Stripped.{stripped}
use Rattle.swc_tree_grammar.proofs.Induction.{Each, Leaves, by_children}
use Rattle.swc_base_normal_form_laws.proofs.Closed.{Closed, name_is, tree_is}
use Rattle.swc_base_normal_form_laws.proofs.Lists.{flat, mapped}
use Rattle.swc_base_normal_form_laws.proofs.Stripping.{items, stripped_keeps}

leaves_stay : Leaves (λ t. written_out t ≡ t)
leaves_stay =
    (search (rules, the_lemmas), (λ x. search (rules, the_lemmas)), (λ w. search (rules, the_lemmas)), (λ x. search (rules, the_lemmas)), (λ s. search (rules, the_lemmas)), (λ k i. search (rules, the_lemmas)))

pub written_of_tree : (k : Kind) (ts : List Node) → written_out (Tree k ts) ≡ written_step (Node-F.Tree k (map written_out ts))
written_of_tree k ts = search (rules, the_lemmas)

written_of_list : (ts : List Node) → written_out (Many ts) ≡ Many (map written_out ts)
written_of_list ts = search (rules, the_lemmas)

bound_of_tree : (k : Kind) (ts : List Node) → bound_ids (Tree k ts) ≡ in_parts (field_role k) (map bound_ids ts)
bound_of_tree k ts = search (rules, the_lemmas)

bound_of_list : (ts : List Node) → bound_ids (Many ts) ≡ flat_map (λ ids. ids) (map bound_ids ts)
bound_of_list ts = search (rules, the_lemmas)

bound_of_name : (k : Kind) (i : Ident) → bound_ids (Identifier k i) ≡ own_id k i
bound_of_name k i = search (rules, the_lemmas)

-- what holds of each of some ids
abbrev AllOf : {X : Type 0} → (X → Type 0) → List X → Type 0
AllOf Q [] = Unit {0}
AllOf Q (x ∷ xs) = Q x × AllOf Q xs

all_append : {X : Type 0} (Q : X → Type 0) (xs ys : List X) → AllOf Q xs → AllOf Q ys → AllOf Q (xs ++ ys)
all_append Q [] ys h g = g
all_append Q (x ∷ xs) ys h g = (h.0, all_append Q xs ys h.1 g)

module _ (P : Node → Type 0) (Good : Kind → Type 0) (Named : Ident → Type 0) (c : Closed P Good Named) where
  -- ---- ids that a declaration binds
  abbrev Ids : List Id → Type 0
  Ids ids = AllOf (λ (x : Id). Named (made x)) ids

  one_id : (i : Ident) → Named i → Ids ((i.sym, i.ctxt) ∷ [])
  one_id i h = (c.moved i no_span h, tt)

  own : (k : Kind) (i : Ident) → Named i → Ids (own_id k i)
  own kind.BindingIdent i h = one_id i h
  own k i h = tt

  flattened : (ids : List (List Id)) → AllOf Ids ids → Ids (flat_map (λ ids. ids) ids)
  flattened [] h = tt
  flattened (x ∷ xs) h = all_append (λ (x : Id). Named (made x)) x (flat_map (λ ids. ids) xs) h.0 (flattened xs h.1)

  part : (r : Role) (ids : List Id) → Ids ids → Ids (in_part r ids)
  part role.Declared ids h = h
  part role.Lexical ids h = h
  part role.Inherited ids h = h
  part r ids h = tt

  all_parts : (roles : ℕ → Role) (ids : List (List Id)) → AllOf Ids ids → Ids (in_parts roles ids)
  all_parts roles [] h = tt
  all_parts roles (x ∷ xs) h = all_append (λ (x : Id). Named (made x)) (in_part (roles zero) x) (in_parts (λ i. roles (suc i)) xs) (part (roles zero) x h.0) (all_parts (λ i. roles (suc i)) xs h.1)

  abbrev Binds : Node → Type 0
  Binds t = P t → Ids (bound_ids t)

  each_binds : (ts : List Node) → Each Binds ts → Each P ts → AllOf Ids (map bound_ids ts)
  each_binds [] l h = tt
  each_binds (t ∷ ts) l h = (l.0 h.0, each_binds ts l.1 h.1)

  none : (t : Node) → bound_ids t ≡ [] → Binds t
  none t e h = rw e tt

  bound : (t : Node) → Binds t
  bound t = by_children Binds
      (none Absent (search (rules, the_lemmas)), (λ x. none (Flag x) (search (rules, the_lemmas))), (λ w. none (Word w) (search (rules, the_lemmas))), (λ x. none (Text x) (search (rules, the_lemmas))), (λ s. none (Span s) (search (rules, the_lemmas))), (λ k i h. rw (bound_of_name k i) (own k i (c.named k i h))))
      (λ ts l h. rw (bound_of_list ts) (flattened (map bound_ids ts) (each_binds ts l (c.items ts h))))
      (λ k ts l h. rw (bound_of_tree k ts) (all_parts (field_role k) (map bound_ids ts) (each_binds ts l (c.fields k ts h)))) t

  named_at : (t : Node) (y : Node-F Node) → out-Node t ≡ y → P t → Ids (id_of (name_in y))
  named_at t (Node-F.Identifier k i) o h = one_id i (c.named k i (subst P (name_is t k i o) h))
  named_at t y o h = tt

  first_name : (ts : List Node) → Each P ts → Ids (id_of (name_of (slice_get ts 0)))
  first_name [] h = tt
  first_name (t ∷ ts) h = named_at t (out-Node t) refl h.0

  declared_at : (t : Node) (y : Node-F Node) → out-Node t ≡ y → P t → Ids (declared_in t y)
  declared_at t (Node-F.Tree kind.FnDecl ts) o h = first_name ts (c.fields kind.FnDecl ts (subst P (tree_is t kind.FnDecl ts o) h))
  declared_at t (Node-F.Tree kind.ClassDecl ts) o h = first_name ts (c.fields kind.ClassDecl ts (subst P (tree_is t kind.ClassDecl ts o) h))
  declared_at t (Node-F.Tree k ts) o h = bound t h
  declared_at t y o h = bound t h

  -- ---- names, keys and specifiers
  plain : (i : Ident) → P (plain_name i)
  plain i = c.name kind.Ident (record { span = i.span; ctxt = []; sym = i.sym }) (c.plain i.span i.sym)

  key : (i : Ident) → P (key_of i)
  key i = c.tree kind.IdentName (Span i.span ∷ Text i.sym ∷ []) c.brought.0 (c.span i.span, (c.text i.sym, tt))

  computed : (i : Ident) → P (computed_key i)
  computed i =
      let string : P (Tree kind.Str (Span i.span ∷ Text i.sym ∷ Absent ∷ [])) = c.tree kind.Str (Span i.span ∷ Text i.sym ∷ Absent ∷ []) c.brought.1 (c.span i.span, (c.text i.sym, (c.absent, tt))) in
      c.tree kind.ComputedPropName (Span i.span ∷ Tree kind.Str (Span i.span ∷ Text i.sym ∷ Absent ∷ []) ∷ []) c.brought.2 (c.span i.span, (string, tt))

  either : (b : Bool) (t u : Node) → P t → P u → P (if b then t else u)
  either true t u h g = h
  either false t u h g = g

  shorthand : (i : Ident) → P (shorthand_key i)
  shorthand i = either (pointwise nat_eq i.sym (codes "__proto__")) (computed_key i) (key_of i) (computed i) (key i)

  again_at : (t : Node) (y : Node-F Node) → P t → P (again_in t y)
  again_at t (Node-F.Identifier k i) h = plain i
  again_at t y h = h

  repeated : (name other : Node) → P name → P other → P (again name other)
  repeated name other h g = either (is_absent other) (again_in name (out-Node name)) other (again_at name (out-Node name) h) g

  specifier_at : (t : Node) (y : Node-F Node) → out-Node t ≡ y → P t → P (specifier_in t y)
  specifier_at t (Node-F.Tree kind.ExportNamedSpecifier (a ∷ n ∷ o ∷ [])) e h =
      let p = subst P (tree_is t kind.ExportNamedSpecifier (a ∷ n ∷ o ∷ []) e) h in
      let f = c.fields kind.ExportNamedSpecifier (a ∷ n ∷ o ∷ []) p in
      c.tree kind.ExportNamedSpecifier (a ∷ n ∷ again n o ∷ []) (c.good kind.ExportNamedSpecifier (a ∷ n ∷ o ∷ []) p) (f.0, (f.1.0, (repeated n o f.1.0 f.1.1.0, tt)))
  specifier_at t (Node-F.Tree k ts) e h = h
  specifier_at t y e h = h

  in_specifier : (t : Node) → P t → P (specifier t)
  in_specifier t h = specifier_at t (out-Node t) refl h

  property_at : (t : Node) (y : Node-F Node) → P t → P (property_in t y)
  property_at t (Node-F.Identifier k i) h = c.tree kind.KeyValueProp (shorthand_key i ∷ t ∷ []) c.brought.3 (shorthand i, (h, tt))
  property_at t y h = h

  in_property : (t : Node) → P t → P (property t)
  in_property t h = property_at t (out-Node t) h

  -- ---- patterns and blocks
  pattern_at : (t : Node) (y : Node-F Node) → out-Node t ≡ y → P t → P (pattern_in t y)
  pattern_at t (Node-F.Identifier kind.Ident i) o h = c.name kind.BindingIdent i (c.named kind.Ident i (subst P (name_is t kind.Ident i o) h))
  pattern_at t (Node-F.Identifier k i) o h = h
  pattern_at t y o h = h

  in_pattern : (t : Node) → P t → P (as_pattern t)
  in_pattern t h = pattern_at t (out-Node t) refl h

  in_default : (a n v : Node) → P a → P n → P v → P (with_default a n v)
  in_default a n v h g f = either (is_absent v) n (Tree kind.AssignPat (a ∷ n ∷ v ∷ [])) g (c.tree kind.AssignPat (a ∷ n ∷ v ∷ []) c.brought.5 (h, (g, (f, tt))))

  shorthand_at : (a t v : Node) (y : Node-F Node) → Good kind.AssignPatProp → P a → P t → P v → P (pattern_property_in a t v y)
  shorthand_at a t v (Node-F.Identifier k i) g h n f =
      c.tree kind.KeyValuePatProp (key_of i ∷ with_default (Span i.span) t v ∷ []) c.brought.4 (key i, (in_default (Span i.span) t v (c.span i.span) n f, tt))
  shorthand_at a t v y g h n f = c.tree kind.AssignPatProp (a ∷ t ∷ v ∷ []) g (h, (n, (f, tt)))

  only : (t : Node) (ss : List Node) → P t → Each P ss → P (only_in t ss)
  only t [] h g = h
  only t (s ∷ []) h g = either (takes_else s) s t g.0 h
  only t (s ∷ u ∷ ss) h g = h

  opened_at : (t : Node) (y : Node-F Node) → out-Node t ≡ y → P t → P (opened_in t y)
  opened_at t (Node-F.Tree kind.BlockStmt (a ∷ e ∷ [])) o h = only t (items_of e) h (items P Good Named c e ((c.fields kind.BlockStmt (a ∷ e ∷ []) (subst P (tree_is t kind.BlockStmt (a ∷ e ∷ []) o) h)).1.0))
  opened_at t (Node-F.Tree k ts) o h = h
  opened_at t y o h = h

  -- ---- exported declarations
  filter_if : (b : Bool) (i : Ident) (is : List Ident) → Named i → AllOf Named is → AllOf Named (if b then i ∷ is else is)
  filter_if true i is h g = (h, g)
  filter_if false i is h g = g

  filtered : (p : Ident → Bool) (is : List Ident) → AllOf Named is → AllOf Named (filter p is)
  filtered p [] h = tt
  filtered p (i ∷ is) h = filter_if (p i) i (filter p is) h.0 (filtered p is h.1)

  once : (is : List Ident) → AllOf Named is → AllOf Named (each_once is)
  once [] h = tt
  once (i ∷ is) h = (h.0, filtered (λ j. not (same_id i j)) (each_once is) (once is h.1))

  all_made : (ids : List Id) → Ids ids → AllOf Named (map made ids)
  all_made [] h = tt
  all_made (x ∷ xs) h = (h.0, all_made xs h.1)

  itself : (i : Ident) → Named i → P (exported_as_itself i)
  itself i h = c.tree kind.ExportNamedSpecifier (Span no_span ∷ Identifier kind.Ident i ∷ plain_name i ∷ []) c.brought.6 (c.span no_span, (c.name kind.Ident i h, (plain i, tt)))

  each_itself : (is : List Ident) → AllOf Named is → Each P (map exported_as_itself is)
  each_itself [] h = tt
  each_itself (i ∷ is) h = (itself i h.0, each_itself is h.1)

  exported : (is : List Ident) → AllOf Named is → P (export_list is)
  exported is h =
      c.tree kind.NamedExport (Span no_span ∷ Many (map exported_as_itself is) ∷ Absent ∷ Absent ∷ []) c.brought.7
      (c.span no_span, (c.list (map exported_as_itself is) (each_itself is h), (c.absent, (c.absent, tt))))

  split_at : (t : Node) (y : Node-F Node) → out-Node t ≡ y → P t → Each P (split_in t y)
  split_at t (Node-F.Tree kind.ExportDecl (a ∷ d ∷ [])) o h =
      let f = (c.fields kind.ExportDecl (a ∷ d ∷ []) (subst P (tree_is t kind.ExportDecl (a ∷ d ∷ []) o) h)).1.0 in
      let is = map made (declared_ids d) in
      (f, (exported (each_once is) (once is (all_made (declared_ids d) (declared_at d (out-Node d) refl f))), tt))
  split_at t (Node-F.Tree k ts) o h = (h, tt)
  split_at t y o h = (h, tt)

  in_split : (t : Node) → P t → Each P (split t)
  in_split t h = split_at t (out-Node t) refl h

  -- ---- the step
  each_of : (f : Node → Node) → ((t : Node) → P t → P (f t)) → (t : Node) → P t → P (Many (map f (items_of t)))
  each_of f l t h = c.list (map f (items_of t)) (mapped P f l (items_of t) (items P Good Named c t h))

  step : (k : Kind) (us : List Node) → Good k → Each P us → P (written_step (Node-F.Tree k us))
  step kind.IfStmt (a ∷ t ∷ s ∷ e ∷ []) g h = c.tree kind.IfStmt (a ∷ t ∷ opened s ∷ e ∷ []) g (h.0, (h.1.0, (opened_at s (out-Node s) refl h.1.1.0, h.1.1.1)))
  step kind.ObjectLit (a ∷ p ∷ []) g h = c.tree kind.ObjectLit (a ∷ Many (map property (items_of p)) ∷ []) g (h.0, (each_of property in_property p h.1.0, tt))
  step kind.AssignPatProp (a ∷ t ∷ v ∷ []) g h = shorthand_at a t v (out-Node t) g h.0 h.1.0 h.1.1.0
  step kind.ArrayPat (a ∷ p ∷ []) g h = c.tree kind.ArrayPat (a ∷ Many (map as_pattern (items_of p)) ∷ []) g (h.0, (each_of as_pattern in_pattern p h.1.0, tt))
  step kind.RestPat (a ∷ p ∷ []) g h = c.tree kind.RestPat (a ∷ as_pattern p ∷ []) g (h.0, (in_pattern p h.1.0, tt))
  step kind.KeyValuePatProp (a ∷ p ∷ []) g h = c.tree kind.KeyValuePatProp (a ∷ as_pattern p ∷ []) g (h.0, (in_pattern p h.1.0, tt))
  step kind.AssignPat (a ∷ p ∷ r ∷ []) g h = c.tree kind.AssignPat (a ∷ as_pattern p ∷ r ∷ []) g (h.0, (in_pattern p h.1.0, h.1.1))
  step kind.Param (a ∷ p ∷ []) g h = c.tree kind.Param (a ∷ as_pattern p ∷ []) g (h.0, (in_pattern p h.1.0, tt))
  step kind.ArrowExpr (a ∷ p ∷ b ∷ s ∷ []) g h = c.tree kind.ArrowExpr (a ∷ Many (map as_pattern (items_of p)) ∷ b ∷ s ∷ []) g (h.0, (each_of as_pattern in_pattern p h.1.0, h.1.1))
  step kind.SetterProp (a ∷ n ∷ p ∷ b ∷ []) g h = c.tree kind.SetterProp (a ∷ n ∷ as_pattern p ∷ b ∷ []) g (h.0, (h.1.0, (in_pattern p h.1.1.0, h.1.1.1)))
  step kind.VarDeclarator (a ∷ p ∷ i ∷ []) g h = c.tree kind.VarDeclarator (a ∷ as_pattern p ∷ i ∷ []) g (h.0, (in_pattern p h.1.0, h.1.1))
  step kind.CatchClause (a ∷ p ∷ b ∷ []) g h = c.tree kind.CatchClause (a ∷ as_pattern p ∷ b ∷ []) g (h.0, (in_pattern p h.1.0, h.1.1))
  step kind.ForInStmt (a ∷ p ∷ r ∷ b ∷ []) g h = c.tree kind.ForInStmt (a ∷ as_pattern p ∷ r ∷ b ∷ []) g (h.0, (in_pattern p h.1.0, h.1.1))
  step kind.ForOfStmt (a ∷ w ∷ p ∷ r ∷ b ∷ []) g h = c.tree kind.ForOfStmt (a ∷ w ∷ as_pattern p ∷ r ∷ b ∷ []) g (h.0, (h.1.0, (in_pattern p h.1.1.0, h.1.1.1)))
  step kind.ImportNamedSpecifier (a ∷ l ∷ i ∷ []) g h = c.tree kind.ImportNamedSpecifier (a ∷ l ∷ again l i ∷ []) g (h.0, (h.1.0, (repeated l i h.1.0 h.1.1.0, tt)))
  step kind.NamedExport (a ∷ l ∷ r ∷ w ∷ []) g h =
      let list = either (is_absent r) (Many (map specifier (items_of l))) l (each_of specifier in_specifier l h.1.0) h.1.0 in
      c.tree kind.NamedExport (a ∷ (if is_absent r then Many (map specifier (items_of l)) else l) ∷ r ∷ w ∷ []) g (h.0, (list, h.1.1))
  step kind.Module (a ∷ b ∷ s ∷ []) g h =
      c.tree kind.Module (a ∷ Many (flat_map split (items_of b)) ∷ s ∷ []) g (h.0, (c.list (flat_map split (items_of b)) (flat P split in_split (items_of b) (items P Good Named c b h.1.0)), h.1.1))
  step k us g h = rw (rolls-Tree k us) (c.tree k us g h)

  abbrev Keeps : Node → Type 0
  Keeps t = P t → P (written_out t)

  each_keeps : (ts : List Node) → Each Keeps ts → Each P ts → Each P (map written_out ts)
  each_keeps [] l h = tt
  each_keeps (t ∷ ts) l h = (l.0 h.0, each_keeps ts l.1 h.1)

  written_keeps : (t : Node) → Keeps t
  written_keeps t = by_children Keeps
      (λ h. rw leaves_stay.0 h, λ x h. rw (leaves_stay.1 x) h, λ w h. rw (leaves_stay.2 w) h, λ x h. rw (leaves_stay.3 x) h, λ s h. rw (leaves_stay.4 s) h, λ k i h. rw (leaves_stay.5 k i) h)
      (λ ts l h. rw (written_of_list ts) (c.list (map written_out ts) (each_keeps ts l (c.items ts h))))
      (λ k ts l h. rw (written_of_tree k ts) (step k (map written_out ts) (c.good k ts h) (each_keeps ts l (c.fields k ts h)))) t

  pub normal_keeps : (t : Node) → P t → P (normal_form t)
  normal_keeps t h = written_keeps (stripped t) (stripped_keeps P Good Named c t h)
