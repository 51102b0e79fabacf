use Rattle.std.proofs.Common.{◌<◌, ◌≤◌, ℕ, Bool, [], length, nat_cmp, arith}
use Rattle.std.specs.BTreeSet.{contains}
use Rattle.std.proofs.lemmas.Result.{err_from_is_err_and}
use Rattle.swc_base_rename_naming.specs.Steps.{Naming, counts_with, naming}
use Rattle.swc_base_rename_naming.proofs.Inside.{Laws, root_begins, root_done}
use Rattle.swc_base_rename_naming.proofs.Stands.{holds_first, stands_first}
use Rattle.swc_base_rename_naming.proofs.nested.names_with_leaks.Goals as goal

pub loop-at-init : goal.loop-at-init
loop-at-init g c =
    let leaks : ℕ → Bool = contains nat_cmp c.args.leaks.now in
    let surrounds = g.A.Nesting.surrounds c.args.asked.now in
    let n : Naming = naming (g.N.NewTexts.text c.args.texts.now) c.args.counter_goes_on (g.A.Asked.keeps c.args.asked.now) (g.A.Asked.preserved c.args.asked.now) (g.A.Asked.occurs c.args.asked.now) (counts_with leaks surrounds) (g.A.Asked.id_of c.args.asked.now) in
    let sites = c.args.sites.now in
    record {
      fits = omega arith;
      leaked = record { choices = []; stands = stands_first n c.new-in_program.result.names c.new-in_program.ensures.texts c.new-in_program.ensures.next; leaked = holds_first n leaks c.new-in_program.result.leaked.holders c.new-in_program.ensures.holders; over = tt };
      marked = c.new-in_program.ensures.marked (g.A.Asked.positions c.args.asked.now);
    }

pub returns-in_err-at-clause-refused : goal.returns-in_err-at-clause-refused
returns-in_err-at-clause-refused g c =
    let leaks : ℕ → Bool = contains nat_cmp c.args.leaks.now in
    let surrounds = g.A.Nesting.surrounds c.args.asked.now in
    let n : Naming = naming (g.N.NewTexts.text c.args.texts.now) c.args.counter_goes_on (g.A.Asked.keeps c.args.asked.now) (g.A.Asked.preserved c.args.asked.now) (g.A.Asked.occurs c.args.asked.now) (counts_with leaks surrounds) (g.A.Asked.id_of c.args.asked.now) in
    let sites = c.args.sites.now in
    let within : c.loop-at.at < length sites = omega arith in
    let leaked = c.loop-at.invariant.leaked in
    let refused = err_from_is_err_and c.from_residual.result c.from_residual.ensures.1 in
    rw (refused.1, refused.2) (c.in_err-at.ensures.refused leaked.choices (root_begins n leaks surrounds sites c.loop-at.at c.loop-at.in_program.names c.new-outer.result c.loop-at.in_program.leaked.holders within c.new-outer.ensures leaked))

pub loop-at-preserved : goal.loop-at-preserved
loop-at-preserved g c =
    let leaks : ℕ → Bool = contains nat_cmp c.args.leaks.now in
    let surrounds = g.A.Nesting.surrounds c.args.asked.now in
    let n : Naming = naming (g.N.NewTexts.text c.args.texts.now) c.args.counter_goes_on (g.A.Asked.keeps c.args.asked.now) (g.A.Asked.preserved c.args.asked.now) (g.A.Asked.occurs c.args.asked.now) (counts_with leaks surrounds) (g.A.Asked.id_of c.args.asked.now) in
    let sites = c.args.sites.now in
    let laws : Laws surrounds = record { own = g.met.A.Nesting.own c.args.asked.now; through = g.met.A.Nesting.through c.args.asked.now; same = g.met.A.Nesting.same c.args.asked.now } in
    let within : c.loop-at.at < length sites = omega arith in
    let leaked = c.loop-at.invariant.leaked in
    let done = c.in_ok-at.ensures.named in
    let later : c.loop-at.at ≤ c.in_ok-at.at = omega (arith, done.further) in
    record {
      fits = done.fits;
      leaked = root_done n leaks surrounds sites c.loop-at.at c.in_ok-at.at c.loop-at.in_program.names c.name_scope.new.in_program.names c.loop-at.in_program.leaked.holders c.name_scope.new.in_program.leaked.holders laws c.requires later leaked
          (done.done leaked.choices (root_begins n leaks surrounds sites c.loop-at.at c.loop-at.in_program.names c.new-outer.result c.loop-at.in_program.leaked.holders within c.new-outer.ensures leaked));
      marked = c.in_ok-at.ensures.marked;
    }
