use Rattle.std.proofs.Common.{true, ◌≡◌, ◌++◌, ◌+◌, ◌<◌, ◌≤◌, ℕ, Bool, drop, length, take, nat_cmp, arith, refl, sym}
use Rattle.std.specs.BTreeSet.{contains}
use Rattle.std.proofs.lemmas.Result.{err_from_is_err_and}
use Rattle.swc_base_rename_naming.specs.Inside.{scope_at}
use Rattle.swc_base_rename_naming.specs.Planned.{planned}
use Rattle.swc_base_rename_naming.specs.Steps.{Naming, counts_with}
use Rattle.swc_base_rename_naming.proofs.GoesOn.{no_less, tried_first, tried_more_holders}
use Rattle.swc_base_rename_naming.proofs.Inside.{Laws, child_begins, half_child, half_first, half_held, half_site}
use Rattle.swc_base_rename_naming.proofs.Stands.{split_at}
use Rattle.swc_base_rename_naming.proofs.nested.+name_scope.Goals as goal

pub loop-at-init : goal.loop-at-init
loop-at-init g t c =
    let plan = c.args.plan.now in
    let leaks : ℕ → Bool = contains nat_cmp plan.leaks.now in
    let surrounds = g.A.Nesting.surrounds plan.asked.now in
    let naming : (ℕ → ℕ → Bool) → Naming = planned g.N.NewTexts.text g.A.Asked.keeps g.A.Asked.preserved g.A.Asked.occurs g.A.Asked.id_of plan in
    let n : Naming = naming (counts_with leaks surrounds) in
    let sites = c.args.sites.now in
    let leaked = c.args.in_program.now.leaked.holders in
    record {
      begun = omega arith;
      fits = omega (arith, c.requires.within);
      scope = refl;
      half = λ choices begins. half_first n leaks surrounds sites c.args.from choices c.args.in_program.now.names c.args.outer.now c.new-in_scope.result.holders leaked (rw c.new-in_scope.ensures.holders c.next-holders.ensures) begins;
      more = no_less leaked;
      tried = tried_first (g.N.NewTexts.text plan.texts.now) (g.A.Asked.preserved plan.asked.now) (g.A.Asked.occurs plan.asked.now) (c.new-in_scope.result.holders, leaked) c.new-in_scope.result.tried c.new-in_scope.ensures.tried;
      marked = c.requires.marked;
    }

pub returns-in_err-name_site-clause-refused : goal.returns-in_err-name_site-clause-refused
returns-in_err-name_site-clause-refused g t c =
    let plan = c.args.plan.now in
    let leaks : ℕ → Bool = contains nat_cmp plan.leaks.now in
    let surrounds = g.A.Nesting.surrounds plan.asked.now in
    let naming : (ℕ → ℕ → Bool) → Naming = planned g.N.NewTexts.text g.A.Asked.keeps g.A.Asked.preserved g.A.Asked.occurs g.A.Asked.id_of plan in
    let n : Naming = naming (counts_with leaks surrounds) in
    let sites = c.args.sites.now in
    let at = c.loop-at.at in
    let within : at < length sites = omega arith in
    let stood = c.loop-at.invariant in
    let own : scope_at sites at ≡ scope_at sites c.args.from = c.if-site-scope.true in
    let split = split_at sites at within in
    let refused = err_from_is_err_and c.from_residual.result c.from_residual.ensures.1 in
    rw (refused.1, refused.2) (λ choices begins.
    let half = stood.half choices begins in
    rw split (c.in_err-name_site.ensures.refused (counts_with leaks surrounds) (take at sites) (drop (at + 1) sites) (choices ++ half.more) half.stands
    (half_held naming leaks surrounds (λ u s. refl) sites c.args.from at choices _ _ own half)))

pub loop-at-preserved-then-site-scope : goal.loop-at-preserved-then-site-scope
loop-at-preserved-then-site-scope g t c =
    let plan = c.args.plan.now in
    let leaks : ℕ → Bool = contains nat_cmp plan.leaks.now in
    let surrounds = g.A.Nesting.surrounds plan.asked.now in
    let naming : (ℕ → ℕ → Bool) → Naming = planned g.N.NewTexts.text g.A.Asked.keeps g.A.Asked.preserved g.A.Asked.occurs g.A.Asked.id_of plan in
    let n : Naming = naming (counts_with leaks surrounds) in
    let sites = c.args.sites.now in
    let laws : Laws surrounds = record { own = g.met.A.Nesting.own plan.asked.now; through = g.met.A.Nesting.through plan.asked.now; same = g.met.A.Nesting.same plan.asked.now } in
    let at = c.loop-at.at in
    let within : at < length sites = omega arith in
    let stood = c.loop-at.invariant in
    let own : scope_at sites at ≡ scope_at sites c.args.from = c.if-site-scope.true in
    record {
      begun = omega (arith, stood.begun);
      fits = omega (arith, within);
      scope = refl;
      half = λ choices begins.
          let half = stood.half choices begins in
          let done = c.in_ok-name_site.ensures.named (counts_with leaks surrounds) (take at sites) (choices ++ half.more) half.stands (half_held naming leaks surrounds (λ u s. refl) sites c.args.from at choices _ _ own half) in
          half_site n leaks surrounds sites c.args.from at choices _ _ _ _ laws within own half done;
      more = λ x f h. c.in_ok-name_site.ensures.more x f (stood.more x f h);
      tried = c.in_ok-name_site.ensures.tried;
      marked = c.in_ok-name_site.ensures.marked;
    }

pub returns-in_err-at-clause-refused : goal.returns-in_err-at-clause-refused
returns-in_err-at-clause-refused g t c =
    let plan = c.args.plan.now in
    let leaks : ℕ → Bool = contains nat_cmp plan.leaks.now in
    let surrounds = g.A.Nesting.surrounds plan.asked.now in
    let naming : (ℕ → ℕ → Bool) → Naming = planned g.N.NewTexts.text g.A.Asked.keeps g.A.Asked.preserved g.A.Asked.occurs g.A.Asked.id_of plan in
    let n : Naming = naming (counts_with leaks surrounds) in
    let sites = c.args.sites.now in
    let laws : Laws surrounds = record { own = g.met.A.Nesting.own plan.asked.now; through = g.met.A.Nesting.through plan.asked.now; same = g.met.A.Nesting.same plan.asked.now } in
    let at = c.loop-at.at in
    let within : at < length sites = omega arith in
    let stood = c.loop-at.invariant in
    let round : surrounds (scope_at sites c.args.from) (scope_at sites at) ≡ true = sym c.if-surrounds.ensures in
    let refused = err_from_is_err_and c.from_residual-in_err-at.result c.from_residual-in_err-at.ensures.1 in
    rw (refused.1, refused.2) (λ choices begins.
    let half = stood.half choices begins in
    c.in_err-at.ensures.refused (choices ++ half.more) (child_begins n leaks surrounds sites c.args.from at choices _ _ laws within round half))

pub loop-at-preserved : goal.loop-at-preserved
loop-at-preserved g t c =
    let plan = c.args.plan.now in
    let leaks : ℕ → Bool = contains nat_cmp plan.leaks.now in
    let surrounds = g.A.Nesting.surrounds plan.asked.now in
    let naming : (ℕ → ℕ → Bool) → Naming = planned g.N.NewTexts.text g.A.Asked.keeps g.A.Asked.preserved g.A.Asked.occurs g.A.Asked.id_of plan in
    let n : Naming = naming (counts_with leaks surrounds) in
    let sites = c.args.sites.now in
    let laws : Laws surrounds = record { own = g.met.A.Nesting.own plan.asked.now; through = g.met.A.Nesting.through plan.asked.now; same = g.met.A.Nesting.same plan.asked.now } in
    let at = c.loop-at.at in
    let within : at < length sites = omega arith in
    let stood = c.loop-at.invariant in
    let round : surrounds (scope_at sites c.args.from) (scope_at sites at) ≡ true = sym c.if-surrounds.ensures in
    let done = c.in_ok-at.ensures.named in
    let later : at ≤ c.in_ok-at.at = omega (arith, done.further) in
    record {
      begun = omega (arith, stood.begun, later);
      fits = done.fits;
      scope = refl;
      half = λ choices begins.
          let half = stood.half choices begins in
          half_child n leaks surrounds sites c.args.from at c.in_ok-at.at choices _ _ _ _ _ laws c.requires.order later round c.if-site-scope.false half
          (done.done (choices ++ half.more) (child_begins n leaks surrounds sites c.args.from at choices _ _ laws within round half));
      more = λ x f h. c.in_ok-at.ensures.more x f (stood.more x f h);
      tried = tried_more_holders (g.N.NewTexts.text plan.texts.now) (g.A.Asked.preserved plan.asked.now) (g.A.Asked.occurs plan.asked.now) (c.loop-at.in_scope.holders, c.loop-at.in_program.leaked.holders) (c.loop-at.in_scope.holders, c.name_scope.new.in_program.leaked.holders) c.loop-at.in_scope.tried
          (no_less c.loop-at.in_scope.holders) c.in_ok-at.ensures.more stood.tried;
      marked = c.in_ok-at.ensures.marked;
    }
