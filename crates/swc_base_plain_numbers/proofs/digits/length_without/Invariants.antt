use Rattle.std.proofs.Common.{◌≡◌, ◌+◌, ◌≤◌, length, take}
use Rattle.std.specs.Prelude.{nat_eq}
use Rattle.std.specs.List.{suffix_len}
use Rattle.swc_base_plain_numbers.proofs.digits.length_without.Given as goal

abbrev pub invariant-loop-length : goal.invariant-loop-length
invariant-loop-length l = (l.length ≤ length l.text) × (l.length + suffix_len (λ c. nat_eq c l.character) l.text ≡ length l.text + suffix_len (λ c. nat_eq c l.character) (take l.length l.text))

abbrev pub decreases-loop-length : goal.decreases-loop-length
decreases-loop-length l = l.length
