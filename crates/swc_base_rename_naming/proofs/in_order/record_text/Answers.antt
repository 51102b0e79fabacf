use Rattle.std.proofs.Common.{nat_cmp, sym, ◌∙◌}
use Rattle.std.specs.BTreeSet.{contains}
use Rattle.std.proofs.lemmas.Result.{on_ok_weaker}
use Rattle.swc_base_rename_naming.proofs.Stands.{recorded_in_scope, recorded_leaked}
use Rattle.swc_base_rename_naming.proofs.in_order.record_text.Goals as goal

pub returns-then-leaks-clause-recorded : goal.returns-then-leaks-clause-recorded
returns-then-leaks-clause-recorded g c =
    let leaks = contains nat_cmp c.args.plan.now.leaks.now c.args.site.scope in
    on_ok_weaker c.push.result
    (λ also. recorded_leaked leaks c.args.text c.args.site.id c.args.holders.now c.args.leaked.now.holders c.push.new.self.holders (sym c.contains-leaks.ensures ∙ c.if-leaks.true) also)
    c.push.ensures.pushed

pub returns-else-leaks-clause-recorded : goal.returns-else-leaks-clause-recorded
returns-else-leaks-clause-recorded g c =
    let leaks = contains nat_cmp c.args.plan.now.leaks.now c.args.site.scope in
    on_ok_weaker c.push_entry.result
    (λ pushed. recorded_in_scope leaks c.args.text c.args.site.id c.args.holders.now c.push_entry.new.self c.args.leaked.now.holders (sym c.contains-leaks.ensures ∙ c.if-leaks.false) pushed)
    c.push_entry.ensures.pushed
