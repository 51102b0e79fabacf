use Rattle.std.proofs.Common.{◌≡◌, ℕ, Bool, true, false, length, subst, sym, take, ap, ◌∙◌, arith}
use Rattle.std.proofs.Math.Seq.{take-length}
use Rattle.std.specs.List.{list_any}
use Rattle.std.proofs.lemmas.List.Folds.{list_any_at}
use Rattle.swc_base_tables_program.specs.Given.{brings_types}
use Rattle.swc_base_tables_program.proofs.Types.{any_brings}
use Rattle.swc_base_tables_program.proofs.bodies.Bodies.have_types.Goals as goal

pub returns-then-brings_types : goal.returns-then-brings_types
returns-then-brings_types c =
    let brings : ℕ → Bool = brings_types c.args.self.now c.args.helpers.now.enabled in
    let here : brings c.helper-item.result ≡ true = sym (rw (← c.helper-item.is) at c.brings_types.ensures) ∙ c.if-brings_types.true in
    let found = subst (λ helper. brings helper ≡ true) c.helper-item.is here in
    sym (any_brings c.args.self.now c.args.helpers.now.enabled ∙ ap (list_any brings) (sym c.all-helper-items.ensures)
    ∙ list_any_at brings c.all-helper-items.result c.loop-helper.helper-index c.helper-item.result (omega arith) found)

pub returns : goal.returns
returns c =
    let brings : ℕ → Bool = brings_types c.args.self.now c.args.helpers.now.enabled in
    let items = c.all-helper-items.result in
    let ended : c.loop-helper.helper-index ≡ length items = omega arith in
    let all : take c.loop-helper.helper-index items ≡ items = ap (λ i. take i items) ended ∙ take-length items in
    let none : list_any brings items ≡ false = ap (list_any brings) (sym all) ∙ c.loop-helper.invariant in
    sym (any_brings c.args.self.now c.args.helpers.now.enabled ∙ ap (list_any brings) (sym c.all-helper-items.ensures) ∙ none)
