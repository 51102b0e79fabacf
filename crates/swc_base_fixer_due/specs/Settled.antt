-- What stands in a place once the pairs that it asks for are set.
use Rattle.swc_tree_node.specs.declared.node.Node.{Node, List as Many}
use Rattle.swc_tree_grammar.specs.Demands.Demand.{Each, Key, NewCallee}
use Rattle.swc_tree_grammar.specs.Due.{Places, odd_items, pair_if, settled}
use Rattle.swc_tree_grammar.specs.Kinds.{has_kind, is_literal}
use Rattle.swc_tree_grammar.specs.Readers.{is_odd_item, none}
use Rattle.swc_tree_grammar.specs.Shapes.{items_of}
use Rattle.swc_base_fixer_due.specs.declared.row.Ask.{Ask}
use Rattle.swc_base_fixer_due.specs.declared.row.Ask.TheVariants as ask
use Rattle.swc_base_fixer_due.specs.Naming.{named}
use Rattle.swc_base_fixer_demands.specs.Test.{asked}

abbrev pub settled_by : Places → Node → Ask → Node
settled_by place e ask.Nothing = e
settled_by place e (ask.Each n) = settled place (Each n) none e
settled_by place e ask.Key = settled place Key none e
settled_by place e (ask.NewCallee bare) = settled place (NewCallee bare) (has_kind is_literal) e
settled_by place e (ask.Single test naming) = settled place (asked test) (named naming) e

-- an item before the last of a sequence that is a statement, and the list of its items
abbrev pub odd_item : Places → Node → Node
odd_item place e = pair_if (is_odd_item e) place e

-- what is no list has no items, so it becomes the list of none; in each tree of the grammar a list stands there
abbrev pub odd_list : Places → Node → Node
odd_list place es = Many (odd_items place (items_of es))
