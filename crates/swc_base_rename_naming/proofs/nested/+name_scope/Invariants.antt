use Rattle.std.proofs.Common.{◌≡◌, ◌-◌, ◌≤◌, ℕ, Bool, List, length, nat_cmp}
use Rattle.std.specs.BTreeSet.{contains}
use Rattle.swc_base_rename_naming.specs.InOrder.{Choice}
use Rattle.swc_base_rename_naming.specs.Inside.{MayBegin, scope_at}
use Rattle.swc_base_rename_naming.specs.Places.{AreMarked}
use Rattle.swc_base_rename_naming.specs.Planned.{planned}
use Rattle.swc_base_rename_naming.specs.Steps.{HasMore, Naming, counts_with}
use Rattle.swc_base_rename_naming.specs.Tried.{IsTried}
use Rattle.swc_base_rename_naming.proofs.Inside.{Half}
use Rattle.swc_base_rename_naming.proofs.nested.+name_scope.Given as goal

abbrev pub decreases-name_scope : goal.decreases-name_scope
decreases-name_scope g l = length l.sites.now - l.from

abbrev pub invariant-loop-at : goal.invariant-loop-at
invariant-loop-at g l =
    let leaks : ℕ → Bool = contains nat_cmp l.plan.leaks.now in
    let surrounds = g.A.Nesting.surrounds l.plan.asked.now in
    let n : Naming = planned g.N.NewTexts.text g.A.Asked.keeps g.A.Asked.preserved g.A.Asked.occurs g.A.Asked.id_of l.plan (counts_with leaks surrounds) in
    record {
      begun : l.from ≤ l.at;
      fits : l.at ≤ length l.sites;
      scope : l.scope ≡ scope_at l.sites l.from;
      half : (choices : List Choice) → MayBegin n leaks surrounds l.sites l.from choices l.fn.in_program.names (l.outer, l.fn.in_program.leaked.holders) → Half n leaks surrounds l.sites l.from l.at choices l.in_program.names (l.in_scope.holders, l.in_program.leaked.holders);
      more : HasMore l.fn.in_program.leaked.holders l.in_program.leaked.holders;
      tried : IsTried (g.N.NewTexts.text l.plan.texts.now) (g.A.Asked.preserved l.plan.asked.now) (g.A.Asked.occurs l.plan.asked.now) (l.in_scope.holders, l.in_program.leaked.holders) l.in_scope.tried;
      marked : AreMarked (g.A.Asked.positions l.plan.asked.now) l.in_program.leaked;
    }

abbrev pub decreases-loop-at : goal.decreases-loop-at
decreases-loop-at g l = length l.sites - l.at
