use Rattle.std.proofs.Common.{◌<◌, ◌≡◌, length}
use Rattle.text_patterns.proofs.patterns.+pattern.Given as goal

abbrev pub decreases-as_default : goal.decreases-as_default
decreases-as_default l = l.depth

abbrev pub decreases-as_element : goal.decreases-as_element
decreases-as_element l = l.depth

abbrev pub decreases-as_last : goal.decreases-as_last
decreases-as_last l = l.depth

abbrev pub decreases-as_list : goal.decreases-as_list
decreases-as_list l = l.depth

abbrev pub decreases-as_many : goal.decreases-as_many
decreases-as_many l = l.depth

abbrev pub decreases-as_pattern : goal.decreases-as_pattern
decreases-as_pattern l = l.depth

abbrev pub decreases-as_property : goal.decreases-as_property
decreases-as_property l = l.depth

abbrev pub invariant-as_list-loop-i : goal.invariant-as_list-loop-i
invariant-as_list-loop-i l = (0 < l.depth) × (length l.items ≡ l.i-end)
