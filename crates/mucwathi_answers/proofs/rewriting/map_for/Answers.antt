use Rattle.std.proofs.Common.{MatchResult, subst, sym}
use Rattle.mucwathi_commands.specs.Faults.{IsRunFault}
use Rattle.mucwathi_answers.specs.Answers.{HasMap}
use Rattle.mucwathi_answers.proofs.rewriting.map_for.Goals as goal

pub returns-in-None : goal.returns-in-None
returns-in-None c = subst (λ m. HasMap m c.args.order.now c.args.of c.args.out.now c.new.result.items) (sym c.in-None.is) tt

pub returns-in-Some : goal.returns-in-Some
returns-in-Some c =
    subst (λ m. MatchResult c.source_map.result (λ map. HasMap m c.args.order.now c.args.of c.args.out.now map.items) (IsRunFault c.args.order.now c.args.of.text.now)) (sym c.in-Some.is) c.source_map.ensures
