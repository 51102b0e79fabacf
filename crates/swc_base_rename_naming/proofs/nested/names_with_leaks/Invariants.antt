use Rattle.std.proofs.Common.{◌-◌, ◌≤◌, ℕ, Bool, length, nat_cmp}
use Rattle.std.specs.BTreeSet.{contains}
use Rattle.swc_base_rename_naming.specs.Places.{AreMarked}
use Rattle.swc_base_rename_naming.specs.Steps.{Naming, counts_with, naming}
use Rattle.swc_base_rename_naming.proofs.Inside.{NoneOpen}
use Rattle.swc_base_rename_naming.proofs.nested.names_with_leaks.Given as goal

abbrev pub invariant-loop-at : goal.invariant-loop-at
invariant-loop-at g l =
    let leaks : ℕ → Bool = contains nat_cmp l.leaks in
    let surrounds = g.A.Nesting.surrounds l.asked in
    let n : Naming = naming (g.N.NewTexts.text l.texts) l.counter_goes_on (g.A.Asked.keeps l.asked) (g.A.Asked.preserved l.asked) (g.A.Asked.occurs l.asked) (counts_with leaks surrounds) (g.A.Asked.id_of l.asked) in
    record { fits : l.at ≤ length l.sites; leaked : NoneOpen n leaks surrounds l.sites l.at l.in_program.names l.in_program.leaked.holders; marked : AreMarked (g.A.Asked.positions l.asked) l.in_program.leaked }

abbrev pub decreases-loop-at : goal.decreases-loop-at
decreases-loop-at g l = length l.sites - l.at
