use Rattle.std.proofs.Common.{◌≡◌, drop}
use Rattle.swc_tree_grammar.specs.Blocks.{no_span}
use Rattle.swc_base_alpha.specs.Shapes.{nearest}
use Rattle.swc_base_alpha.specs.declared.spans.Unplaced.TheVariants as unplaced
use Rattle.mucwathi_commands.proofs.Nearest.{onward}
use Rattle.mucwathi_commands.proofs.places.span_at.Given as goal

-- the span of the whole path is that of what is left, from here on
abbrev pub invariant-loop-number : goal.invariant-loop-number
invariant-loop-number l = nearest unplaced.IsUnknown no_span l.fn.tree l.path ≡ onward l.near l.node (drop l.number-index l.path)
