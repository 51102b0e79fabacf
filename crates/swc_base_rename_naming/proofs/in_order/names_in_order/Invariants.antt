use Rattle.std.proofs.Common.{List, true, false, take}
use Rattle.swc_base_rename_naming.specs.InOrder.{Choice}
use Rattle.swc_base_rename_naming.specs.Places.{AreMarked}
use Rattle.swc_base_rename_naming.specs.Steps.{Holds, Naming, Stands, all_count, naming}
use Rattle.swc_base_rename_naming.specs.Tried.{IsTried}
use Rattle.swc_base_rename_naming.proofs.in_order.names_in_order.Given as goal

abbrev pub invariant-loop-site : goal.invariant-loop-site
invariant-loop-site g l =
    let n : Naming = naming (g.N.NewTexts.text l.texts) l.counter_goes_on (g.A.Asked.keeps l.asked) (g.A.Asked.preserved l.asked) (g.A.Asked.occurs l.asked) all_count (g.A.Asked.id_of l.asked) in
    record {
      stood : (choices : List Choice) × Stands n (take l.site-index l.sites) choices l.in_program.names × Holds n (λ u. true) choices l.in_scope.holders × Holds n (λ u. false) choices l.in_program.leaked.holders;
      tried : IsTried (g.N.NewTexts.text l.texts) (g.A.Asked.preserved l.asked) (g.A.Asked.occurs l.asked) (l.in_scope.holders, l.in_program.leaked.holders) l.in_scope.tried;
      marked : AreMarked (g.A.Asked.positions l.asked) l.in_program.leaked;
    }
