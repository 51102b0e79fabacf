use Rattle.std.proofs.Common.{true, refl, subst}
use Rattle.std.proofs.lemmas.Result.{on_ok_weaker}
use Rattle.swc_base_rename_naming.specs.Steps.{HasAlso}
use Rattle.swc_base_rename_naming.specs.declared.leaked.Leaked.{Leaked}
use Rattle.swc_base_rename_naming.proofs.Marks.{marked_pushed}
use Rattle.swc_base_rename_naming.proofs.Stands.{has_also}
use Rattle.swc_base_rename_naming.proofs.leaked.Leaked.push.Goals as goal

pub returns-clause-pushed : goal.returns-clause-pushed
returns-clause-pushed g c =
    let text = c.args.text in
    on_ok_weaker c.push_entry.result
    (λ pushed. subst (λ was. HasAlso true text c.args.id was c.push_entry.new.self) c.in_ok-mark.ensures.holders (has_also text c.args.id c.mark.new.self.holders c.push_entry.new.self pushed))
    c.push_entry.ensures.pushed

pub returns-clause-marked : goal.returns-clause-marked
returns-clause-marked g c =
    let text = c.args.text in
    let is : Leaked = record { holders = c.push_entry.new.self; places = c.mark.new.self.places } in
    on_ok_weaker c.push_entry.result
    (λ pushed. marked_pushed (g.A.Asked.positions c.args.asked.now) text c.args.id c.args.self.now c.mark.new.self is c.in_ok-mark.ensures.marked refl
    (subst (λ was. HasAlso true text c.args.id was c.push_entry.new.self) c.in_ok-mark.ensures.holders (has_also text c.args.id c.mark.new.self.holders c.push_entry.new.self pushed)))
    c.push_entry.ensures.pushed
