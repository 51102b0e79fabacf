-- How tightly an expression binds at least, with no look at its spine.
use Rattle.std.specs.Prelude.{ℕ, Bool, false, not}
use Rattle.swc_tree_node.specs.declared.node.Node.{Node, out-Node}
use Rattle.swc_tree_node.specs.declared.node.Node.TheOpen.{Node-F}
use Rattle.swc_tree_grammar.specs.Shapes.{Member, TaggedTpl}
use Rattle.swc_tree_grammar.specs.Levels.{level_in, is_called}

abbrev pub least_in : Node-F Node → ℕ
least_in (Member span obj prop) = 17
least_in (TaggedTpl span tag tpl) = 17
least_in t = level_in t

-- the level, but of a member or a tagged template that of a call
abbrev pub least : Node → ℕ
least t = least_in (out-Node t)

abbrev pub uncalled_in : Node-F Node → Bool
uncalled_in (Member span obj prop) = not (is_called obj)
uncalled_in (TaggedTpl span tag tpl) = not (is_called tag)
uncalled_in _ = false

-- a member or a tagged template whose objects and tags lead to no call
abbrev pub uncalled : Node → Bool
uncalled t = uncalled_in (out-Node t)
