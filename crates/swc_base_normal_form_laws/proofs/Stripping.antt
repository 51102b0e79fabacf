-- What is closed holds of a stripped tree.
use Rattle.std.proofs.Common.{◌≡◌, Bool, true, false, not, List, [], ◌∷◌, map, take, refl, subst, rules}
use Rattle.std.specs.Prelude.{if◌then◌else◌}
use Rattle.std.specs.List.{filter, flat_map, list_all}
use Rattle.swc_tree_marks.specs.declared.ident.Ident.{Ident}
use Rattle.swc_tree_node.specs.declared.kind.Kind.{Kind}
use Rattle.swc_tree_node.specs.declared.kind.Kind.TheVariants as kind
use Rattle.swc_tree_node.specs.declared.node.Node.{Node, List as Many, Identifier, Tree, out-Node, the_lemmas}
use Rattle.swc_tree_node.specs.declared.node.Node.TheVariants.{rolls-Tree}
use Rattle.swc_tree_node.specs.declared.node.Node.TheOpen.{Node-F}
use Rattle.swc_tree_grammar.specs.Shapes.{items_in, items_of}
use Rattle.swc_tree_grammar.specs.Stripped.{busy, effects, end, front, is_idle, is_member, is_void, parts, parts_in, sequence, settled, strip_step, stripped, target, target_in}
use Rattle.swc_tree_grammar.proofs.Induction.{Each, Leaves, by_children}
use Rattle.swc_tree_grammar.proofs.Stripped.{effects_of_absent, effects_of_flag, effects_of_identifier, effects_of_list, effects_of_other, effects_of_sequence, effects_of_span, effects_of_text, effects_of_tree, effects_of_void, effects_of_word, stripped_of_list, stripped_of_tree}
use Rattle.swc_base_normal_form_laws.proofs.Closed.{Closed, list_is, name_is, tree_is}
use Rattle.swc_base_normal_form_laws.proofs.Lists.{append, at_end, filtered, first, flat, in_front}

leaves_stay : Leaves (λ t. stripped t ≡ t)
leaves_stay =
    (search (rules, the_lemmas), (λ x. search (rules, the_lemmas)), (λ w. search (rules, the_lemmas)), (λ x. search (rules, the_lemmas)), (λ s. search (rules, the_lemmas)), (λ k i. search (rules, the_lemmas)))

module _ (P : Node → Type 0) (Good : Kind → Type 0) (Named : Ident → Type 0) (c : Closed P Good Named) where
  items_at : (t : Node) (y : Node-F Node) → out-Node t ≡ y → P t → Each P (items_in y)
  items_at t (Node-F.List ts) o h = c.items ts (subst P (list_is t ts o) h)
  items_at t y o h = tt

  pub items : (t : Node) → P t → Each P (items_of t)
  items t h = items_at t (out-Node t) refl h

  parts_at : (t : Node) (y : Node-F Node) → out-Node t ≡ y → P t → Each P (parts_in t y)
  parts_at t (Node-F.Tree kind.SeqExpr (a ∷ e ∷ [])) o h = items e ((c.fields kind.SeqExpr (a ∷ e ∷ []) (subst P (tree_is t kind.SeqExpr (a ∷ e ∷ []) o) h)).1.0)
  parts_at t (Node-F.Tree k ts) o h = (h, tt)
  parts_at t y o h = (h, tt)

  in_parts : (t : Node) → P t → Each P (parts t)
  in_parts t h = parts_at t (out-Node t) refl h

  abbrev Left : Node → Type 0
  Left t = P t → Each P (effects t)

  each_left : (ts : List Node) → Each Left ts → Each P ts → Each P (flat_map effects ts)
  each_left [] l h = tt
  each_left (t ∷ ts) l h = append P (effects t) (flat_map effects ts) (l.0 h.0) (each_left ts l.1 h.1)

  void_left : (b : Bool) (a op arg : Node) → is_void op ≡ b → Left arg → Left (Tree kind.UnaryExpr (a ∷ op ∷ arg ∷ []))
  void_left true a op arg e l h = rw (effects_of_void a op arg e) (l ((c.fields kind.UnaryExpr (a ∷ op ∷ arg ∷ []) h).1.1.0))
  void_left false a op arg e l h = rw (effects_of_other a op arg e) (h, tt)

  tree_left : (k : Kind) (ts : List Node) → Each Left ts → Left (Tree k ts)
  tree_left kind.SeqExpr (a ∷ e ∷ []) l h = rw (effects_of_sequence a e) (l.1.0 ((c.fields kind.SeqExpr (a ∷ e ∷ []) h).1.0))
  tree_left kind.UnaryExpr (a ∷ op ∷ arg ∷ []) l h = void_left (is_void op) a op arg refl l.1.1.0 h
  tree_left k ts l h = rw (effects_of_tree k ts) (h, tt)

  left : (t : Node) → Left t
  left t = by_children Left
      (λ h. rw effects_of_absent (h, tt), λ x h. rw (effects_of_flag x) (h, tt), λ w h. rw (effects_of_word w) (h, tt), λ x h. rw (effects_of_text x) (h, tt), λ s h. rw (effects_of_span s) (h, tt), λ k i h. rw (effects_of_identifier k i) (h, tt))
      (λ ts l h. rw (effects_of_list ts) (each_left ts l (c.items ts h)))
      tree_left t

  busy_if : (b : Bool) (es : List Node) → Each P es → Each P (if b then take 1 es else filter (λ e. not (is_idle e)) es)
  busy_if true es h = first P es h
  busy_if false es h = filtered P (λ e. not (is_idle e)) es h

  in_settled : (es : List Node) → Each P es → Each P (settled es)
  in_settled es h =
      let before = flat_map effects (front es) in
      append P (busy before) (end es) (busy_if (list_all is_idle before) before (flat P effects left (front es) (in_front P es h))) (at_end P es h)

  in_sequence : (a : Node) (ts : List Node) → Good kind.SeqExpr → P a → Each P ts → P (sequence a ts)
  in_sequence a [] g s h = c.tree kind.SeqExpr (a ∷ Many [] ∷ []) g (s, (c.list [] h, tt))
  in_sequence a (t ∷ []) g s h = h.0
  in_sequence a (t ∷ u ∷ ts) g s h = c.tree kind.SeqExpr (a ∷ Many (t ∷ u ∷ ts) ∷ []) g (s, (c.list (t ∷ u ∷ ts) h, tt))

  target_at : (t : Node) (y : Node-F Node) → out-Node t ≡ y → P t → P (target_in t y)
  target_at t (Node-F.Identifier kind.Ident i) o h = c.name kind.BindingIdent i (c.named kind.Ident i (subst P (name_is t kind.Ident i o) h))
  target_at t (Node-F.Identifier k i) o h = h
  target_at t y o h = h

  step : (k : Kind) (us : List Node) → Good k → Each P us → P (strip_step (Node-F.Tree k us))
  step kind.ParenExpr (a ∷ e ∷ []) g h = h.1.0
  step kind.SeqExpr (a ∷ e ∷ []) g h = in_sequence a (settled (flat_map parts (items_of e))) g h.0 (in_settled (flat_map parts (items_of e)) (flat P parts in_parts (items_of e) (items e h.1.0)))
  step kind.AssignExpr (a ∷ o ∷ l ∷ r ∷ []) g h = c.tree kind.AssignExpr (a ∷ o ∷ target l ∷ r ∷ []) g (h.0, (h.1.0, (target_at l (out-Node l) refl h.1.1.0, h.1.1.1)))
  step kind.Class (a ∷ s ∷ b ∷ []) g h =
      let members = filter is_member (items_of b) in
      c.tree kind.Class (a ∷ s ∷ Many members ∷ []) g (h.0, (h.1.0, (c.list members (filtered P is_member (items_of b) (items b h.1.1.0)), tt)))
  step k us g h = rw (rolls-Tree k us) (c.tree k us g h)

  abbrev Keeps : Node → Type 0
  Keeps t = P t → P (stripped t)

  each_keeps : (ts : List Node) → Each Keeps ts → Each P ts → Each P (map stripped ts)
  each_keeps [] l h = tt
  each_keeps (t ∷ ts) l h = (l.0 h.0, each_keeps ts l.1 h.1)

  pub stripped_keeps : (t : Node) → P t → P (stripped t)
  stripped_keeps t = by_children Keeps
      (λ h. rw leaves_stay.0 h, λ x h. rw (leaves_stay.1 x) h, λ w h. rw (leaves_stay.2 w) h, λ x h. rw (leaves_stay.3 x) h, λ s h. rw (leaves_stay.4 s) h, λ k i h. rw (leaves_stay.5 k i) h)
      (λ ts l h. rw (stripped_of_list ts) (c.list (map stripped ts) (each_keeps ts l (c.items ts h))))
      (λ k ts l h. rw (stripped_of_tree k ts) (step k (map stripped ts) (c.good k ts h) (each_keeps ts l (c.fields k ts h)))) t
