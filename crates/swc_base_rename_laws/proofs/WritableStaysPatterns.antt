-- Targets and the parts of patterns stay what they are when names are given anew.
use Rattle.std.proofs.Common.{◌≡◌, Bool, true, false, not, ◌&&◌, ◌||◌, List, [], ◌∷◌, ◌++◌, map, rules, refl, sym, ap, ◌∙◌}
use Rattle.swc_tree_marks.specs.declared.ident.Ident.{Ident}
use Rattle.swc_tree_node.specs.declared.kind.Kind.{Kind}
use Rattle.swc_tree_node.specs.declared.kind.Kind.TheVariants as kind
use Rattle.swc_tree_node.specs.declared.node.Node.{Node, List as Many, Identifier, Tree, out-Node, roll-Node, roll-out-Node, the_lemmas}
use Rattle.swc_tree_node.specs.declared.node.Node.TheVariants.{outs-Tree, rolls-Tree}
use Rattle.swc_tree_node.specs.declared.node.Node.TheOpen.{Node-F}
use Rattle.swc_tree_grammar.specs.Kinds.{has_kind, is_rest}
use Rattle.swc_tree_grammar.specs.Targets.{is_simple, is_target, seen, target_in}
use Rattle.swc_tree_grammar.specs.Writable.{Round, element, elements, is_element, one_bare, one_without_rest, pattern, pattern_of, pattern_of_param_in}
use Rattle.swc_tree_grammar.proofs.Induction.{Each, by_children}
use Rattle.swc_base_rename_substitution.specs.declared.place.Place.{Place}
use Rattle.swc_base_rename_substitution.specs.declared.place.Place.TheVariants as place
use Rattle.swc_base_rename_substitution.specs.Identifiers.{Changes, changed}
use Rattle.swc_base_rename_substitution.specs.Substituted.{substituted}
use Rattle.swc_base_rename_substitution.specs.Walk.{each_substituted, items_substituted}
use Rattle.swc_base_rename_substitution.proofs.Equations.{substituted-Absent, substituted-Flag, substituted-Word, substituted-Text, substituted-Span, substituted_identifier, substituted_list}
use Rattle.swc_base_rename_substitution.proofs.Room.{is_short}
use Rattle.swc_base_rename_laws.specs.Laws.{GivesNames}
use Rattle.swc_base_rename_laws.proofs.WritableStaysShape.{Even, even_at, fields, plain_tree, renamed}
use Rattle.swc_base_rename_laws.proofs.WritableStaysForms.{absent_same, default_same, initialised_same, kind_same, plain_same, property_same}
use Rattle.swc_base_rename_laws.proofs.WritableStaysLists.{Le, items_by}
use Rattle.swc_base_rename_laws.proofs.Impossible.{impossible}

-- ---- orders of tests

pub and_le : {a a' b b' : Bool} → Le a a' → Le b b' → Le (a && b) (a' && b')
and_le {a = true} {a' = true} f g h = g h
and_le {a = true} {a' = false} f g h = f refl
and_le {a = false} f g h = absurd (cc)

pub or_le : {a a' b b' : Bool} → Le a a' → Le b b' → Le (a || b) (a' || b')
or_le {a' = true} f g h = refl
or_le {a = true} {a' = false} f g h = let never : false ≡ true = f refl in absurd (cc)
or_le {a = false} {a' = false} f g h = g h

-- what is the same
pub same_le : {a a' : Bool} → a' ≡ a → Le a a'
same_le e h = e ∙ h

pub self_le : (a : Bool) → Le a a
self_le a h = h

abbrev is_param_in : Node-F Node → Bool
is_param_in (Node-F.Tree kind.Param (span ∷ pat ∷ [])) = true
is_param_in _ = false

param_itself : (t : Node) (y : Node-F Node) → is_param_in y ≡ false → pattern_of_param_in t y ≡ t
param_itself t (Node-F.Tree kind.Param (a ∷ b ∷ [])) h = absurd (cc)
param_itself t (Node-F.Tree k ts) h = refl
param_itself t y h = refl

param_is : (t : Node) (y : Node-F Node) → out-Node t ≡ y → is_param_in y ≡ true → (a : Node) × (b : Node) × (t ≡ Tree kind.Param (a ∷ b ∷ []))
param_is t (Node-F.Tree kind.Param (a ∷ b ∷ [])) e h = (a, b, sym (roll-out-Node t) ∙ ap roll-Node e ∙ rolls-Tree kind.Param (a ∷ b ∷ []))
param_is t y e h = absurd (cc)

param_pattern : (a b : Node) → pattern_of (Tree kind.Param (a ∷ b ∷ [])) ≡ b
param_pattern a b = ap (pattern_of_param_in (Tree kind.Param (a ∷ b ∷ []))) (outs-Tree kind.Param (a ∷ b ∷ []))

module _ (m : Changes) (g : GivesNames m) where
  -- ---- targets

  target_tree : (k : Kind) (ts : List Node) → is_target (Tree k ts) ≡ target_in (Node-F.Tree k (map seen ts))
  target_tree k ts = search (rules, the_lemmas)

  target_list : (ts : List Node) → is_target (Many ts) ≡ target_in (Node-F.List (map seen ts))
  target_list ts = search (rules, the_lemmas)

  target_name : (k : Kind) (i : Ident) → is_target (Identifier k i) ≡ is_simple k
  target_name k i = search (rules, the_lemmas)

  abbrev Target : Node → Type 0
  Target t = (p : Place) → is_short p ≡ false → Le (is_target t) (is_target (substituted m false p t))

  target_row : (p : Place) (k : Kind) (ts : List Node) → Each Target ts → target_in (Node-F.Tree k (map seen ts)) ≡ true → is_target (substituted m false p (Tree k ts)) ≡ true
  target_row p kind.ParenExpr (a ∷ b ∷ []) l h = ap is_target (plain_tree m p kind.ParenExpr (a ∷ b ∷ []) refl) ∙ target_tree kind.ParenExpr _ ∙ l.1.0 place.Name refl h
  target_row p kind.SeqExpr (a ∷ b ∷ []) l h = ap is_target (plain_tree m p kind.SeqExpr (a ∷ b ∷ []) refl) ∙ target_tree kind.SeqExpr _ ∙ l.1.0 place.Name refl h
  target_row p kind.MemberExpr ts l h = ap is_target (plain_tree m p kind.MemberExpr ts refl) ∙ target_tree kind.MemberExpr _
  target_row p kind.SuperPropExpr ts l h = ap is_target (plain_tree m p kind.SuperPropExpr ts refl) ∙ target_tree kind.SuperPropExpr _
  target_row p kind.Ident ts l h = ap is_target (plain_tree m p kind.Ident ts refl) ∙ target_tree kind.Ident _
  target_row p k ts l h = impossible h

  no_target_declaration : (a d : Node) → is_target (Tree kind.ExportDecl (a ∷ d ∷ [])) ≡ false
  no_target_declaration a d = target_tree kind.ExportDecl (a ∷ d ∷ [])

  target_items : (p : Place) (ts : List Node) → is_short p ≡ false → Each Target ts → target_in (Node-F.List (map seen ts)) ≡ true → is_target (Many (items_substituted m false p ts)) ≡ true
  target_items p [] n l h = absurd (cc)
  target_items p (t ∷ []) n l h = items_by m g (λ us. is_target (Many (us ++ [])) ≡ true) p t
      (target_list _ ∙ l.0 p n h) (λ s. let never : is_target t ≡ false = ap is_target s.is ∙ no_target_declaration s.start s.decl in absurd (cc))
  target_items p (t ∷ u ∷ ts) n l h = absurd (cc)

  pub target_le : (t : Node) → Target t
  target_le t = by_children Target (
    λ p n. same_le (ap is_target (substituted-Absent m false p)),
    λ x p n. same_le (ap is_target (substituted-Flag m false p x)),
    λ w p n. same_le (ap is_target (substituted-Word m false p w)),
    λ x p n. same_le (ap is_target (substituted-Text m false p x)),
    λ s p n. same_le (ap is_target (substituted-Span m false p s)),
    λ k i p n. (let r = renamed m g p k i (changed m p i) n refl in
        same_le (ap is_target (substituted_identifier m false p k i ∙ r.1) ∙ target_name k r.0 ∙ sym (target_name k i))),
  )
      (λ ts l p n h. ap is_target (substituted_list m false p ts) ∙ target_items p ts n l (sym (target_list ts) ∙ h))
      (λ k ts l p n h. target_row p k ts l (sym (target_tree k ts) ∙ h)) t

  -- ---- parts of patterns

  pub pattern_le : (p : Place) → is_short p ≡ false → (t : Node) (r : Round) → Le (pattern t r) (pattern (substituted m false p t) r)
  pattern_le p n t r = or_le (same_le (plain_same m g p n t)) (and_le (self_le r.assigned) (target_le t p n))

  pub element_le : (p : Place) → is_short p ≡ false → (t : Node) (r : Round) → Le (element t r) (element (substituted m false p t) r)
  element_le p n t r = or_le (same_le (default_same m g p n t)) (pattern_le p n t r)

  param_trees : (p : Place) (k : Kind) (ts : List Node) → is_param_in (Node-F.Tree k (fields m p k ts)) ≡ is_param_in (Node-F.Tree k ts)
  param_trees p kind.Param [] = refl
  param_trees p kind.Param (a ∷ []) = refl
  param_trees p kind.Param (a ∷ b ∷ []) = refl
  param_trees p kind.Param (a ∷ b ∷ c ∷ ts) = refl
  param_trees p k ts = refl

  params : Even m is_param_in
  params = record { trees = param_trees; properties = λ us vs. refl; imports = λ i us. refl; exports = λ i us. refl; names = λ k i j. refl; lists = λ p ts. refl }

  param_same : (p : Place) → is_short p ≡ false → (t : Node) → is_param_in (out-Node (substituted m false p t)) ≡ is_param_in (out-Node t)
  param_same = even_at m is_param_in params g

  -- the pattern of a parameter becomes that of what the parameter becomes
  pub pattern_of_same : (p : Place) → is_short p ≡ false → (t : Node) → (q : Place) × (is_short q ≡ false) × (pattern_of (substituted m false p t) ≡ substituted m false q (pattern_of t))
  pattern_of_same p n t = at (is_param_in (out-Node t)) refl
    where
      at : (b : Bool) → is_param_in (out-Node t) ≡ b → (q : Place) × (is_short q ≡ false) × (pattern_of (substituted m false p t) ≡ substituted m false q (pattern_of t))
      at false e = (p, n, param_itself (substituted m false p t) (out-Node (substituted m false p t)) (param_same p n t ∙ e) ∙ ap (substituted m false p) (sym (param_itself t (out-Node t) e)))
      at true e =
          let w = param_is t (out-Node t) refl e in (
            place.Name,
            refl,
            ap (λ u. pattern_of (substituted m false p u)) w.2 ∙ ap pattern_of (plain_tree m p kind.Param (w.0 ∷ w.1 ∷ []) refl) ∙ param_pattern _ _
                ∙ ap (substituted m false place.Name) (sym (ap pattern_of w.2 ∙ param_pattern w.0 w.1)),
          )

  element_of_le : (p : Place) → is_short p ≡ false → (t : Node) (r : Round) → Le (element (pattern_of t) r) (element (pattern_of (substituted m false p t)) r)
  element_of_le p n t r h = let q = pattern_of_same p n t in ap (λ u. element u r) q.2 ∙ element_le q.0 q.1 (pattern_of t) r h

  rest_same : (p : Place) → is_short p ≡ false → (t : Node) → has_kind is_rest (pattern_of (substituted m false p t)) ≡ has_kind is_rest (pattern_of t)
  rest_same p n t = let q = pattern_of_same p n t in ap (has_kind is_rest) q.2 ∙ kind_same m g is_rest refl q.0 q.1 (pattern_of t)

  is_element_le : (p : Place) → is_short p ≡ false → (t : Node) (r : Round) → Le (is_element r t) (is_element r (substituted m false p t))
  is_element_le p n t r = or_le (same_le (absent_same m g p n t)) (or_le (same_le (property_same m g p n t)) (element_of_le p n t r))

  pub elements_le : (p : Place) → is_short p ≡ false → (ts : List Node) (r : Round) → Le (elements r ts) (elements r (each_substituted m false (λ i. p) ts))
  elements_le p n [] r h = h
  elements_le p n (t ∷ []) r h = or_le (same_le (rest_same p n t)) (is_element_le p n t r) h
  elements_le p n (t ∷ u ∷ ts) r h = and_le (is_element_le p n t r) (elements_le p n (u ∷ ts) r) h

  pub one_without_rest_le : (p : Place) → is_short p ≡ false → (ts : List Node) → Le (one_without_rest ts) (one_without_rest (each_substituted m false (λ i. p) ts))
  one_without_rest_le p n [] h = h
  one_without_rest_le p n (t ∷ []) h = ap not (rest_same p n t) ∙ h
  one_without_rest_le p n (t ∷ u ∷ ts) h = h

  pub one_bare_le : (p : Place) → is_short p ≡ false → (ts : List Node) → Le (one_bare ts) (one_bare (each_substituted m false (λ i. p) ts))
  one_bare_le p n [] h = h
  one_bare_le p n (t ∷ []) h = ap not (initialised_same m g true p n t) ∙ h
  one_bare_le p n (t ∷ u ∷ ts) h = h
