use Rattle.std.proofs.Common.{ℕ, Bool, nat_cmp}
use Rattle.std.specs.BTreeSet.{contains}
use Rattle.std.proofs.lemmas.Result.{MatchResult-weaker, on_ok_weaker}
use Rattle.swc_base_rename_naming.specs.Planned.{planned}
use Rattle.swc_base_rename_naming.specs.Sites.{pair_of}
use Rattle.swc_base_rename_naming.specs.Steps.{Naming}
use Rattle.swc_base_rename_naming.proofs.GoesOn.{no_less}
use Rattle.swc_base_rename_naming.proofs.Stands.{done_named, done_passed, refused_at}
use Rattle.swc_base_rename_naming.proofs.in_order.name_site.Goals as goal

pub returns-in-Some-clause-named : goal.returns-in-Some-clause-named
returns-in-Some-clause-named g c =
    let plan = c.args.plan.now in
    let n : (ℕ → ℕ → Bool) → Naming = planned g.N.NewTexts.text g.A.Asked.keeps g.A.Asked.preserved g.A.Asked.occurs g.A.Asked.id_of plan in
    let found = c.in-Some.ensures in
    on_ok_weaker c.give_name.result
    (λ name_given counts done choices.
    done_named (n counts) done choices (pair_of c.args.site) c.in-Some.id.now (contains nat_cmp plan.leaks.now c.args.site.scope) c.args.in_program.now.names c.give_name.new.in_program.names (c.args.in_scope.now.holders, c.args.in_program.now.leaked.holders) (c.give_name.new.in_scope.holders, c.give_name.new.in_program.leaked.holders)
    found.0 found.1.0 found.1.1 name_given)
    c.give_name.ensures.named

pub returns-in-Some-clause-refused : goal.returns-in-Some-clause-refused
returns-in-Some-clause-refused g c =
    let n : (ℕ → ℕ → Bool) → Naming = planned g.N.NewTexts.text g.A.Asked.keeps g.A.Asked.preserved g.A.Asked.occurs g.A.Asked.id_of c.args.plan.now in
    let found = c.in-Some.ensures in
    MatchResult-weaker c.give_name.result c.give_name.ensures.refused (λ x h. h)
    (λ e why counts done after choices. refused_at (n counts) done after choices (pair_of c.args.site) c.in-Some.id.now c.args.in_program.now.names (c.args.in_scope.now.holders, c.args.in_program.now.leaked.holders) e found.0 found.1.0 found.1.1 why)

pub returns-in-None-clause-named : goal.returns-in-None-clause-named
returns-in-None-clause-named g c = λ counts done choices stands holds. done_passed _ _ done choices (pair_of c.args.site) c.args.in_program.now.names (c.args.in_scope.now.holders, c.args.in_program.now.leaked.holders) c.in-None.ensures stands holds

pub returns-in-None-clause-more : goal.returns-in-None-clause-more
returns-in-None-clause-more g c = no_less c.args.in_program.now.leaked.holders
