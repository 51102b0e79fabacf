-- A test that each node of a tree meets.
use Rattle.std.specs.Prelude.{Bool, ◌&&◌}
use Rattle.std.specs.List.{list_all}
use Rattle.swc_tree_node.specs.declared.node.Node.{Node, fold-Node, map-Node, roll-Node}
use Rattle.swc_tree_node.specs.declared.node.Node.TheOpen.{Node-F}
use Rattle.swc_tree_grammar.specs.Shapes.{children_in}

pub record Tested : Type 0 where
  pub whole : Node
  pub holds : Bool

abbrev pub tested_step : (Node-F Node → Bool) → Node-F Tested → Tested
tested_step test x = (
    let t = map-Node Tested Node (λ e. e.whole) x in
    record { whole = roll-Node t; holds = test t && list_all (λ e. e.holds) (children_in x) })

abbrev pub every : (Node-F Node → Bool) → Node → Bool
every test t = (fold-Node Tested (tested_step test) t).holds
