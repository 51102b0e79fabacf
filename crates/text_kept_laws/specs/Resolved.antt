-- What a text asks of a tree rests on no context, so that a resolver keeps it.
use Rattle.std.specs.Prelude.{ℕ, ◌↔◌, List}
use Rattle.swc_tree_node.specs.declared.node.Node.{Node}
use Rattle.swc_tree_scoping.specs.Readings.{by_texts}
use Rattle.swc_tree_scoping.specs.Resolved.{Resolved}
use Rattle.text_grammar.specs.Shaped.{Shaped}
use Rattle.text_checks.specs.Spelled.{Spelled}

-- lengths rest on no context
abbrev pub TextsAreAsShaped : Type 0
TextsAreAsShaped = (t : Node) → Shaped (by_texts t) ↔ Shaped t

-- nor do leaves and names
abbrev pub TextsAreAsSpelled : Type 0
TextsAreAsSpelled = (t : Node) → Spelled (by_texts t) ↔ Spelled t

-- a resolver keeps both
abbrev pub ResolvedIsAsShaped : Type 0
ResolvedIsAsShaped = (unresolved top : ℕ) (old new : List (ℕ × ℕ)) (t answer : Node) → Resolved unresolved top old new t answer → Shaped answer ↔ Shaped t

abbrev pub ResolvedIsAsSpelled : Type 0
ResolvedIsAsSpelled = (unresolved top : ℕ) (old new : List (ℕ × ℕ)) (t answer : Node) → Resolved unresolved top old new t answer → Spelled answer ↔ Spelled t
