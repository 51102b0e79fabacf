use Rattle.std.proofs.Common.{◌≡◌, take}
use Rattle.swc_base_fixer_due.specs.Keyed.{hashed}
use Rattle.swc_base_fixer_due.proofs.keyed.digest_of.Given as goal

abbrev pub invariant-loop-pair : goal.invariant-loop-pair
invariant-loop-pair l = l.hasher ≡ hashed l.beginning (take l.pair-index l.pairs)
