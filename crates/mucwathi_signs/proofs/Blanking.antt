-- Places between two.
use Rattle.std.proofs.Common.{◌≡◌, ◌⊎◌, ◌<◌, ◌≤◌, ℕ, min, arith}
use Rattle.std.proofs.lemmas.Grind.{common_steps}
use Rattle.mucwathi_signs.specs.Blanked.{is_between}

pub same_between : (from to n i k : ℕ) → k < n → min to n ≤ i → (i ≡ from) ⊎ (i ≤ min to n) → is_between from i k ≡ is_between from to k
same_between from to n i k within far near = grind (arith, common_steps)
