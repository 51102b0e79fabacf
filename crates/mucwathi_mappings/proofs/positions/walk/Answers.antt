use Rattle.std.proofs.Common.{◌≡◌, arith, subst}
use Rattle.mucwathi_mappings.specs.Positions.{IsPosition}
use Rattle.mucwathi_mappings.proofs.positions.walk.Goals as goal

pub returns : goal.returns
returns c = let same : c.loop-at.at ≡ c.args.to = omega arith in subst (λ n. IsPosition c.args.text.now n c.loop-at.there) same c.loop-at.invariant
