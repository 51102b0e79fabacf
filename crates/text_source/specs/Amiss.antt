-- What one walk looks for.
use Rattle.std.specs.Prelude.{Bool, true, false, ◌||◌, List, [], ◌∷◌, ℕ}
use Rattle.swc_tree_node.specs.declared.node.Node.{Node}
use Rattle.swc_tree_node.specs.declared.node.Node.TheOpen.{Node-F}
use Rattle.text_grammar.specs.Shaped.{is_misshapen}
use Rattle.text_checks.specs.Pinned.{is_astray}
use Rattle.text_spans.specs.Leaves.{is_misplaced}
use Rattle.text_checks.specs.Spelled.{is_misspelled}

abbrev pub has_marks : List ℕ → Bool
has_marks [] = false
has_marks (m ∷ marks) = true

-- an identifier has a context, which no text tells
abbrev pub is_marked : Node-F Node → Bool
is_marked (Node-F.Identifier kind ident) = has_marks ident.ctxt
is_marked x = false

-- a node whose lengths are those of no production, that is no token of its kind, stands elsewhere than it says, is astray, or has a context
abbrev pub is_amiss : List ℕ → Node-F Node → Bool
is_amiss text node = is_misshapen node || (is_misspelled node || (is_misplaced text node || (is_astray node || is_marked node)))
