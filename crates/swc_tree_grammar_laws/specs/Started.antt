-- What the third step of the due pairs settles alone: statements, default exports and arrow bodies begin as they may.
use Rattle.std.specs.Prelude.{Bool, true, ◌&&◌, ◌||◌}
use Rattle.std.specs.List.{list_all}
use Rattle.swc_tree_node.specs.declared.node.Node.{Node, fold-Node, map-Node, roll-Node}
use Rattle.swc_tree_node.specs.declared.node.Node.TheOpen.{Node-F}
use Rattle.swc_tree_grammar.specs.Shapes.{Statement, ExportDefault, Arrow, children_in}
use Rattle.swc_tree_grammar.specs.Kinds.{has_kind, is_block}
use Rattle.swc_tree_grammar.specs.Starts.{start}
use Rattle.swc_tree_grammar.specs.Grammar.{may_begin_statement, may_begin_export, may_begin_body}

abbrev pub starts_in : Node-F Node → Bool
starts_in (Statement span expr) = may_begin_statement (start expr)
starts_in (ExportDefault span expr) = may_begin_export (start expr)
starts_in (Arrow span params body is_async) = has_kind is_block body || may_begin_body (start body)
starts_in _ = true

pub record Started : Type 0 where
  pub whole : Node
  pub holds : Bool

abbrev pub started_step : Node-F Started → Started
started_step x = (
    let t = map-Node Started Node (λ e. e.whole) x in
    record { whole = roll-Node t; holds = starts_in t && list_all (λ e. e.holds) (children_in x) })

abbrev pub started : Node → Bool
started t = (fold-Node Started started_step t).holds
