use Rattle.std.proofs.Common.{◌≡◌, ◌++◌, ℕ, List, drop, map}
use Rattle.std.specs.Borrow.{Bor}
use Rattle.std.specs.List.{flat_map}
use Rattle.mucwathi_looks.proofs.reports.add_line.Given as goal

abbrev pub invariant-loop-part : goal.invariant-loop-part
invariant-loop-part l =
    l.out.items ++ flat_map (λ p. p) (map (λ (p : Bor (List ℕ)). p.now) (drop l.part-index l.parts)) ≡ l.initial.out.items ++ flat_map (λ p. p) (map (λ (p : Bor (List ℕ)). p.now) l.parts)
