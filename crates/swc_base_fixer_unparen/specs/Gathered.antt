-- Items of a sequence that are gathered, with those of the sequences and pairs of parentheses among them.
use Rattle.std.specs.Prelude.{◌≡◌, Bool, true, false, not, List, [], ◌∷◌, ◌++◌, take}
use Rattle.std.specs.List.{flat_map, filter, list_all}
use Rattle.swc_tree_node.specs.declared.kind.Kind.{Kind}
use Rattle.swc_tree_node.specs.declared.kind.Kind.TheVariants as kind
use Rattle.swc_tree_node.specs.declared.node.Node.{Node, out-Node}
use Rattle.swc_tree_node.specs.declared.node.Node.TheOpen.{Node-F}
use Rattle.swc_tree_grammar.specs.Stripped.{effects, end, front, is_idle, parts, stripped}

-- a pair of parentheses, by its kind and fields
abbrev pub is_pair : Kind → List Node → Bool
is_pair kind.ParenExpr (span ∷ expr ∷ []) = true
is_pair _ _ = false

-- a sequence
abbrev pub is_sequence : Kind → List Node → Bool
is_sequence kind.SeqExpr (span ∷ exprs ∷ []) = true
is_sequence _ _ = false

abbrev is_sequence_in : Node-F Node → Bool
is_sequence_in (Node-F.Tree k ts) = is_sequence k ts
is_sequence_in _ = false

abbrev pub is_sequence_node : Node → Bool
is_sequence_node t = is_sequence_in (out-Node t)

-- what an expression, stripped, adds to a sequence as an item
abbrev pub parts_left : Node → List Node
parts_left t = parts (stripped t)

-- lists of which the same is busy, whatever stands round them
abbrev pub Same : List Node → List Node → Type 0
Same es fs = (filter (λ e. not (is_idle e)) es ≡ filter (λ e. not (is_idle e)) fs)
    × (list_all is_idle es ≡ list_all is_idle fs)
    × (list_all is_idle es ≡ true → take 1 es ≡ take 1 fs)

-- items of which the same is left, whatever stands round them: the last is the same, and what those before it and all of them do
abbrev pub Alike : List Node → List Node → Type 0
Alike es fs = (end es ≡ end fs) × Same (flat_map effects (front es)) (flat_map effects (front fs)) × Same (flat_map effects es) (flat_map effects fs)

-- a list to which items were added that are alike to these
abbrev pub Gathered : List Node → List Node → List Node → Type 0
Gathered before es now = (added : List Node) × (now ≡ before ++ added) × Alike added es
