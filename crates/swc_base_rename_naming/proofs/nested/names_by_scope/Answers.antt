use Rattle.std.proofs.Common.{◌≡◌, ◌||◌, ℕ, Bool, false, nat_cmp, IfErr, IfOk, ap, subst}
use Rattle.std.specs.BTreeSet.{contains}
use Rattle.swc_base_rename_naming.specs.InOrder.{IsRefused, NamedInOrder}
use Rattle.swc_base_rename_naming.specs.Steps.{Naming, counts_with, naming, rules, text_at}
use Rattle.swc_base_rename_naming.proofs.Stands.{none_leaks}
use Rattle.swc_base_rename_naming.proofs.nested.names_by_scope.Goals as goal

-- where no scope leaks, those that lie round a scope count
none_leak : (leaks : ℕ → Bool) (surrounds : ℕ → ℕ → Bool) → ((u : ℕ) → leaks u ≡ false) → counts_with leaks surrounds ≡ surrounds
none_leak leaks surrounds none i = λ u s. ap (λ b. b || surrounds u s) (none u) i

pub returns-clause-named : goal.returns-clause-named
returns-clause-named g c =
    let n : (ℕ → ℕ → Bool) → Naming = λ counts. naming (g.N.NewTexts.text c.args.texts.now) c.args.counter_goes_on (g.A.Asked.keeps c.args.asked.now) (g.A.Asked.preserved c.args.asked.now) (g.A.Asked.occurs c.args.asked.now) counts (g.A.Asked.id_of c.args.asked.now) in
    subst (λ counts. IfOk c.names_with_leaks.result (λ found. NamedInOrder (rules (n counts)) c.args.sites.now (text_at found)))
    (none_leak (contains nat_cmp c.new-leaks.result) (g.A.Nesting.surrounds c.args.asked.now) (none_leaks c.new-leaks.result c.new-leaks.ensures.empty))
    c.names_with_leaks.ensures.named

pub returns-clause-refused : goal.returns-clause-refused
returns-clause-refused g c =
    let n : (ℕ → ℕ → Bool) → Naming = λ counts. naming (g.N.NewTexts.text c.args.texts.now) c.args.counter_goes_on (g.A.Asked.keeps c.args.asked.now) (g.A.Asked.preserved c.args.asked.now) (g.A.Asked.occurs c.args.asked.now) counts (g.A.Asked.id_of c.args.asked.now) in
    subst (λ counts. IfErr c.names_with_leaks.result (IsRefused (rules (n counts)) c.args.sites.now))
    (none_leak (contains nat_cmp c.new-leaks.result) (g.A.Nesting.surrounds c.args.asked.now) (none_leaks c.new-leaks.result c.new-leaks.ensures.empty))
    c.names_with_leaks.ensures.refused
