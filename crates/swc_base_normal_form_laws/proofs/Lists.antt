-- What holds of each item of a list, holds of each item of what is taken from it.
use Rattle.std.proofs.Common.{Bool, true, false, List, [], ◌∷◌, ◌++◌, map, take}
use Rattle.std.specs.Prelude.{if◌then◌else◌}
use Rattle.std.specs.List.{flat_map, filter}
use Rattle.swc_tree_node.specs.declared.node.Node.{Node}
use Rattle.swc_tree_grammar.specs.Stripped.{front, end}
use Rattle.swc_tree_grammar.proofs.Induction.{Each}

module _ (P : Node → Type 0) where
  pub append : (ts us : List Node) → Each P ts → Each P us → Each P (ts ++ us)
  append [] us h g = g
  append (t ∷ ts) us h g = (h.0, append ts us h.1 g)

  pub flat : (f : Node → List Node) → ((t : Node) → P t → Each P (f t)) → (ts : List Node) → Each P ts → Each P (flat_map f ts)
  flat f l [] h = tt
  flat f l (t ∷ ts) h = append (f t) (flat_map f ts) (l t h.0) (flat f l ts h.1)

  pub mapped : (f : Node → Node) → ((t : Node) → P t → P (f t)) → (ts : List Node) → Each P ts → Each P (map f ts)
  mapped f l [] h = tt
  mapped f l (t ∷ ts) h = (l t h.0, mapped f l ts h.1)

  filter_if : (b : Bool) (t : Node) (ts : List Node) → P t → Each P ts → Each P (if b then t ∷ ts else ts)
  filter_if true t ts h g = (h, g)
  filter_if false t ts h g = g

  pub filtered : (p : Node → Bool) (ts : List Node) → Each P ts → Each P (filter p ts)
  filtered p [] h = tt
  filtered p (t ∷ ts) h = filter_if (p t) t (filter p ts) h.0 (filtered p ts h.1)

  pub first : (ts : List Node) → Each P ts → Each P (take 1 ts)
  first [] h = tt
  first (t ∷ ts) h = (h.0, tt)

  pub in_front : (ts : List Node) → Each P ts → Each P (front ts)
  in_front [] h = tt
  in_front (t ∷ []) h = tt
  in_front (t ∷ u ∷ ts) h = (h.0, in_front (u ∷ ts) h.1)

  pub at_end : (ts : List Node) → Each P ts → Each P (end ts)
  at_end [] h = tt
  at_end (t ∷ []) h = h
  at_end (t ∷ u ∷ ts) h = at_end (u ∷ ts) h.1
