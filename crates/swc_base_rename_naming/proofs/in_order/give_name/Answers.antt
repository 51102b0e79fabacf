use Rattle.std.proofs.Common.{nat_cmp, rules}
use Rattle.std.specs.BTreeSet.{contains}
use Rattle.swc_base_rename_naming.proofs.GoesOn.{has_more, tried_recorded}
use Rattle.swc_base_rename_naming.proofs.in_order.give_name.Goals as goal

pub returns-clause-tried : goal.returns-clause-tried
returns-clause-tried g c =
    tried_recorded (g.N.NewTexts.text c.args.plan.now.texts.now) (g.A.Asked.preserved c.args.plan.now.asked.now) (g.A.Asked.occurs c.args.plan.now.asked.now) (c.args.in_scope.now.holders, c.args.in_program.now.leaked.holders) (c.record_text.new.holders, c.record_text.new.leaked.holders) c.search.new.in_scope.tried
    (contains nat_cmp c.args.plan.now.leaks.now c.args.site.scope) c.in_ok-clone.field-0 c.args.site.id (search rules) (search rules)

pub returns-clause-more : goal.returns-clause-more
returns-clause-more g c = has_more (contains nat_cmp c.args.plan.now.leaks.now c.args.site.scope) c.in_ok-clone.field-0 c.args.site.id c.args.in_program.now.leaked.holders c.record_text.new.leaked.holders (search rules)
