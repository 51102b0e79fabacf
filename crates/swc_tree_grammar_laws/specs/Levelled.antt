-- What the first step of the due pairs settles alone: each expression is what its place asks.
use Rattle.std.specs.Prelude.{List, ◌∷◌, Bool, true, false, ◌&&◌}
use Rattle.std.specs.List.{list_all}
use Rattle.swc_tree_node.specs.declared.node.Node.{Node, fold-Node, map-Node, roll-Node}
use Rattle.swc_tree_node.specs.declared.node.Node.TheOpen.{Node-F}
use Rattle.swc_tree_grammar.specs.Shapes.{children_in}
use Rattle.swc_tree_grammar.specs.Kinds.{is_opt_chain}
use Rattle.swc_tree_grammar.specs.Demands.{Demand, demands, meets}

abbrev pub each_meets : List Demand → List Node → Bool
each_meets (d ∷ ds) (t ∷ ts) = meets d t && each_meets ds ts
each_meets _ _ = true

abbrev pub is_chain_in : {X : Type 0} → Node-F X → Bool
is_chain_in (Node-F.Tree k ts) = is_opt_chain k
is_chain_in _ = false

-- a node, and whether it is levelled, where it may be the base of an optional chain
pub record Levelled : Type 0 where
  pub whole : Node
  pub holds : Bool → Bool

abbrev pub levelled_step : Node-F Levelled → Levelled
levelled_step x = (
    let t = map-Node Levelled Node (λ e. e.whole) x in
    record { whole = roll-Node t; holds = λ b. each_meets (demands b t) (children_in t) && list_all (λ e. e.holds (is_chain_in x)) (children_in x) })

abbrev pub levelled : Node → Bool → Bool
levelled t = (fold-Node Levelled levelled_step t).holds
