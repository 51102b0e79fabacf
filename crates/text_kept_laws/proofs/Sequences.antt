-- What holds of the items of a sequence holds of those that are left of them.
use Rattle.std.proofs.Common.{◌≡◌, ℕ, Bool, true, false, not, cond, List, [], ◌∷◌, ◌++◌, length, take, map, rules, refl, sym, ap, ◌∙◌, subst, arith, ◌<◌, ◌≤◌}
use Rattle.std.specs.List.{filter, flat_map, list_all}
use Rattle.swc_tree_marks.specs.declared.ident.Ident.{Ident}
use Rattle.swc_tree_node.specs.declared.kind.Kind.{Kind}
use Rattle.swc_tree_node.specs.declared.kind.Kind.TheVariants as kind
use Rattle.swc_tree_node.specs.declared.node.Node.{Node, Absent, Flag, Word, Text, Span, List as Many, Identifier, Tree, out-Node, the_lemmas}
use Rattle.swc_tree_node.specs.declared.node.Node.TheOpen.{Node-F}
use Rattle.swc_tree_scoping.proofs.Remarked.{list_is, tree_is}
use Rattle.swc_tree_grammar.specs.Shapes.{items_in, items_of}
use Rattle.swc_tree_grammar.specs.Stripped.{busy, effects, end, front, is_idle, is_void, parts, parts_in, settled}
use Rattle.swc_tree_grammar.proofs.Induction.{Each, by_children}
use Rattle.swc_tree_grammar.proofs.Stripped.{effects_of_list, effects_of_other, effects_of_sequence, effects_of_tree, effects_of_void}

pub joined : (P : Node → Type 0) (ts us : List Node) → Each P ts → Each P us → Each P (ts ++ us)
joined P [] us f g = g
joined P (t ∷ ts) us f g = (f.0, joined P ts us f.1 g)

pub each_flat : (P : Node → Type 0) (g : Node → List Node) (ts : List Node) → Each (λ t. Each P (g t)) ts → Each P (flat_map g ts)
each_flat P g [] l = tt
each_flat P g (t ∷ ts) l = joined P (g t) (flat_map g ts) l.0 (each_flat P g ts l.1)

pub each_map : (P Q : Node → Type 0) → ((t : Node) → P t → Q t) → (ts : List Node) → Each P ts → Each Q ts
each_map P Q h [] l = tt
each_map P Q h (t ∷ ts) l = (h t l.0, each_map P Q h ts l.1)

pub filtered : (P : Node → Type 0) (q : Node → Bool) (ts : List Node) → Each P ts → Each P (filter q ts)
filtered P q [] l = tt
filtered P q (t ∷ ts) l = by (q t) (filtered P q ts l.1)
  where
    by : (b : Bool) → Each P (filter q ts) → Each P (cond b (t ∷ filter q ts) (filter q ts))
    by true rest = (l.0, rest)
    by false rest = rest

-- a property of sequences that their items have, of `void` that its operand has, and of lists that their items have
pub record Inherited (P : Node → Type 0) : Type 0 where
  pub of_list : (ts : List Node) → P (Many ts) → Each P ts
  pub of_sequence : (a b : Node) → P (Tree kind.SeqExpr (a ∷ b ∷ [])) → P b
  pub of_void : (a b c : Node) → P (Tree kind.UnaryExpr (a ∷ b ∷ c ∷ [])) → P c

module _ (P : Node → Type 0) (inherited : Inherited P) where
  fronts : (ts : List Node) → Each P ts → Each P (front ts)
  fronts [] l = tt
  fronts (t ∷ []) l = tt
  fronts (t ∷ u ∷ ts) l = (l.0, fronts (u ∷ ts) l.1)

  ends : (ts : List Node) → Each P ts → Each P (end ts)
  ends [] l = tt
  ends (t ∷ []) l = l
  ends (t ∷ u ∷ ts) l = ends (u ∷ ts) l.1

  firsts : (ts : List Node) → Each P ts → Each P (take 1 ts)
  firsts [] l = tt
  firsts (t ∷ ts) l = (l.0, tt)

  busied : (ts : List Node) → Each P ts → Each P (busy ts)
  busied ts l = by (list_all is_idle ts)
    where
      by : (b : Bool) → Each P (cond b (take 1 ts) (filter (λ e. not (is_idle e)) ts))
      by true = firsts ts l
      by false = filtered P (λ e. not (is_idle e)) ts l

  abbrev Effects : Node → Type 0
  Effects t = P t → Each P (effects t)

  own : (t : Node) → effects t ≡ t ∷ [] → Effects t
  own t e f = subst (Each P) (sym e) (f, tt)

  items_effects : (ts : List Node) → Each Effects ts → Each P ts → Each (λ t. Each P (effects t)) ts
  items_effects [] l f = tt
  items_effects (t ∷ ts) l f = (l.0 f.0, items_effects ts l.1 f.1)

  tree_effects : (k : Kind) (ts : List Node) → Each Effects ts → Effects (Tree k ts)
  tree_effects kind.SeqExpr (a ∷ b ∷ []) l f = subst (Each P) (sym (effects_of_sequence a b)) (l.1.0 (inherited.of_sequence a b f))
  tree_effects kind.SeqExpr [] l f = own _ (effects_of_tree kind.SeqExpr []) f
  tree_effects kind.SeqExpr (a ∷ []) l f = own _ (effects_of_tree kind.SeqExpr (a ∷ [])) f
  tree_effects kind.SeqExpr (a ∷ b ∷ c ∷ ts) l f = own _ (effects_of_tree kind.SeqExpr (a ∷ b ∷ c ∷ ts)) f
  tree_effects kind.UnaryExpr (a ∷ b ∷ c ∷ []) l f = by (is_void b) refl
    where
      by : (v : Bool) → is_void b ≡ v → Each P (effects (Tree kind.UnaryExpr (a ∷ b ∷ c ∷ [])))
      by true e = subst (Each P) (sym (effects_of_void a b c e)) (l.1.1.0 (inherited.of_void a b c f))
      by false e = own (Tree kind.UnaryExpr (a ∷ b ∷ c ∷ [])) (effects_of_other a b c e) f
  tree_effects kind.UnaryExpr [] l f = own _ (effects_of_tree kind.UnaryExpr []) f
  tree_effects kind.UnaryExpr (a ∷ []) l f = own _ (effects_of_tree kind.UnaryExpr (a ∷ [])) f
  tree_effects kind.UnaryExpr (a ∷ b ∷ []) l f = own _ (effects_of_tree kind.UnaryExpr (a ∷ b ∷ [])) f
  tree_effects kind.UnaryExpr (a ∷ b ∷ c ∷ d ∷ ts) l f = own _ (effects_of_tree kind.UnaryExpr (a ∷ b ∷ c ∷ d ∷ ts)) f
  tree_effects k ts l f = own (Tree k ts) (effects_of_tree k ts) f

  effects_have : (t : Node) → Effects t
  effects_have t = by_children Effects (
    own Absent (search (rules, the_lemmas)),
    λ x. own (Flag x) (search (rules, the_lemmas)),
    λ w. own (Word w) (search (rules, the_lemmas)),
    λ x. own (Text x) (search (rules, the_lemmas)),
    λ s. own (Span s) (search (rules, the_lemmas)),
    λ k i. own (Identifier k i) (search (rules, the_lemmas)),
  )
      (λ ts l f. subst (Each P) (sym (effects_of_list ts)) (each_flat P effects ts (items_effects ts l (inherited.of_list ts f))))
      tree_effects t

  pub settled_have : (ts : List Node) → Each P ts → Each P (settled ts)
  settled_have ts l = joined P (busy (flat_map effects (front ts))) (end ts) (busied (flat_map effects (front ts)) (each_flat P effects (front ts) (each_map P (λ t. Each P (effects t)) effects_have (front ts) (fronts ts l)))) (ends ts l)

  pub items_have : (t : Node) → P t → Each P (items_of t)
  items_have t f = by (out-Node t) refl
    where
      by : (y : Node-F Node) → out-Node t ≡ y → Each P (items_in y)
      by (Node-F.List ts) o = inherited.of_list ts (subst P (list_is t ts o) f)
      by (Node-F.Tree k ts) o = tt
      by (Node-F.Identifier k i) o = tt
      by Node-F.Absent o = tt
      by (Node-F.Flag x) o = tt
      by (Node-F.Word x) o = tt
      by (Node-F.Text x) o = tt
      by (Node-F.Span x) o = tt

  pub parts_have : (t : Node) → P t → Each P (parts t)
  parts_have t f = by (out-Node t) refl
    where
      by : (y : Node-F Node) → out-Node t ≡ y → Each P (parts_in t y)
      by (Node-F.Tree kind.SeqExpr (a ∷ b ∷ [])) o = items_have b (inherited.of_sequence a b (subst P (tree_is t kind.SeqExpr (a ∷ b ∷ []) o) f))
      by (Node-F.Tree kind.SeqExpr []) o = (f, tt)
      by (Node-F.Tree kind.SeqExpr (a ∷ [])) o = (f, tt)
      by (Node-F.Tree kind.SeqExpr (a ∷ b ∷ c ∷ ts)) o = (f, tt)
      by (Node-F.Tree k ts) o = (f, tt)
      by (Node-F.List ts) o = (f, tt)
      by (Node-F.Identifier k i) o = (f, tt)
      by Node-F.Absent o = (f, tt)
      by (Node-F.Flag x) o = (f, tt)
      by (Node-F.Word x) o = (f, tt)
      by (Node-F.Text x) o = (f, tt)
      by (Node-F.Span x) o = (f, tt)

-- ---- something is left

abbrev pub Some : List Node → Type 0
Some ts = 0 < length ts

append_some : (ts us : List Node) → Some us → Some (ts ++ us)
append_some [] us h = h
append_some (t ∷ ts) us h = omega arith

append_left : (ts us : List Node) → Some ts → Some (ts ++ us)
append_left [] us h = absurd (omega (arith, h))
append_left (t ∷ ts) us h = omega arith

end_some : (ts : List Node) → Some ts → Some (end ts)
end_some [] h = h
end_some (t ∷ []) h = h
end_some (t ∷ u ∷ ts) h = end_some (u ∷ ts) (omega arith)

pub settled_some : (ts : List Node) → Some ts → Some (settled ts)
settled_some ts h = append_some (busy (flat_map effects (front ts))) (end ts) (end_some ts h)

pub flat_some : (g : Node → List Node) (ts : List Node) → Some ts → Each (λ t. Some (g t)) ts → Some (flat_map g ts)
flat_some g [] h l = h
flat_some g (t ∷ ts) h l = append_left (g t) (flat_map g ts) l.0
