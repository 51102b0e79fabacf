use Rattle.std.proofs.Common.{[], ◌++◌, ◌+◌, ◌<◌, ◌≤◌, ◌≡◌, not, false, true, drop, get_or, length, nat_cmp, ap, arith, refl, sym}
use Rattle.std.specs.BTreeSet.{contains}
use Rattle.std.proofs.lemmas.List.{take_all}
use Rattle.std.proofs.lemmas.Result.{err_from_is_err_and}
use Rattle.swc_base_rename_naming.specs.Steps.{Naming, all_count, naming}
use Rattle.swc_base_rename_naming.proofs.GoesOn.{tried_first}
use Rattle.swc_base_rename_naming.proofs.Stands.{held_of, holds_first, next_taken, none_leaks, split_at, stands_first}
use Rattle.swc_base_rename_naming.proofs.in_order.names_in_order.Goals as goal

pub loop-site-init : goal.loop-site-init
loop-site-init g c =
    let n : Naming = naming (g.N.NewTexts.text c.args.texts.now) c.args.counter_goes_on (g.A.Asked.keeps c.args.asked.now) (g.A.Asked.preserved c.args.asked.now) (g.A.Asked.occurs c.args.asked.now) all_count (g.A.Asked.id_of c.args.asked.now) in
    record {
      stood = ([], stands_first n c.new-in_program.result.names c.new-in_program.ensures.texts c.new-in_program.ensures.next, holds_first n (λ u. true) c.new-in_scope.result.holders (rw c.new-in_scope.ensures.holders c.new-holders.ensures), holds_first n (λ u. false) c.new-in_program.result.leaked.holders c.new-in_program.ensures.holders);
      tried = tried_first (g.N.NewTexts.text c.args.texts.now) (g.A.Asked.preserved c.args.asked.now) (g.A.Asked.occurs c.args.asked.now) (c.new-in_scope.result.holders, c.new-in_program.result.leaked.holders) c.new-in_scope.result.tried c.new-in_scope.ensures.tried;
      marked = c.new-in_program.ensures.marked (g.A.Asked.positions c.args.asked.now);
    }

pub returns-in_err-name_site-clause-refused : goal.returns-in_err-name_site-clause-refused
returns-in_err-name_site-clause-refused g c =
    let n : Naming = naming (g.N.NewTexts.text c.args.texts.now) c.args.counter_goes_on (g.A.Asked.keeps c.args.asked.now) (g.A.Asked.preserved c.args.asked.now) (g.A.Asked.occurs c.args.asked.now) all_count (g.A.Asked.id_of c.args.asked.now) in
    let within : c.loop-site.site-index < length c.args.sites.now = omega arith in
    let (choices, stands, holders, leaked) = c.loop-site.invariant.stood in
    let why = c.in_err-name_site.ensures.refused all_count _ (drop (c.loop-site.site-index + 1) c.args.sites.now) choices stands (held_of n (get_or c.args.sites.now c.loop-site.site-index (0, 0)).0 (λ u. true) (λ u. false) choices (c.loop-site.in_scope.holders, c.loop-site.in_program.leaked.holders) (λ u. refl) holders leaked) in
    let split = split_at c.args.sites.now c.loop-site.site-index within in
    let refused = err_from_is_err_and c.from_residual.result c.from_residual.ensures.1 in
    rw (refused.1, refused.2, split) why

pub loop-site-preserved : goal.loop-site-preserved
loop-site-preserved g c =
    let n : Naming = naming (g.N.NewTexts.text c.args.texts.now) c.args.counter_goes_on (g.A.Asked.keeps c.args.asked.now) (g.A.Asked.preserved c.args.asked.now) (g.A.Asked.occurs c.args.asked.now) all_count (g.A.Asked.id_of c.args.asked.now) in
    let within : c.loop-site.site-index < length c.args.sites.now = omega arith in
    let next = next_taken c.args.sites.now c.loop-site.site-index within in
    let site = get_or c.args.sites.now c.loop-site.site-index (0, 0) in
    let none : contains nat_cmp c.new-leaks.result site.0 ≡ false = none_leaks c.new-leaks.result c.new-leaks.ensures.empty site.0 in
    let (choices, stands, holders, leaked) = c.loop-site.invariant.stood in
    let done = c.in_ok-name_site.ensures.named all_count _ choices stands (held_of n (get_or c.args.sites.now c.loop-site.site-index (0, 0)).0 (λ u. true) (λ u. false) choices (c.loop-site.in_scope.holders, c.loop-site.in_program.leaked.holders) (λ u. refl) holders leaked) in
    record {
      stood = rw next (choices ++ done.more, done.stands, done.holders (λ u. true) (ap not (sym none)) holders, done.leaked (λ u. false) (sym none) leaked);
      tried = c.in_ok-name_site.ensures.tried;
      marked = c.in_ok-name_site.ensures.marked;
    }

pub returns-clause-named : goal.returns-clause-named
returns-clause-named g c =
    let n : Naming = naming (g.N.NewTexts.text c.args.texts.now) c.args.counter_goes_on (g.A.Asked.keeps c.args.asked.now) (g.A.Asked.preserved c.args.asked.now) (g.A.Asked.occurs c.args.asked.now) all_count (g.A.Asked.id_of c.args.asked.now) in
    let ended : length c.args.sites.now ≤ c.loop-site.site-index = omega arith in
    let all = take_all c.loop-site.site-index c.args.sites.now ended in
    let (choices, stands, held, leaked) = c.loop-site.invariant.stood in
    record {
      choices = choices;
      chosen = rw all at stands.chosen;
      names = rw c.into_texts.ensures stands.texts;
    }
