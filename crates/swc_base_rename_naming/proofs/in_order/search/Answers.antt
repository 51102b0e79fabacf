use Rattle.std.proofs.Common.{◌≡◌, ◌-◌, true, arith, rules}
use Rattle.swc_base_rename_naming.specs.Free.{AllTaken, FindsFree}
use Rattle.swc_base_rename_naming.specs.Steps.{Maps, taken_at}
use Rattle.swc_base_rename_naming.proofs.GoesOn.{found_earlier, tried_more}
use Rattle.swc_base_rename_naming.proofs.in_order.search.Goals as goal

pub returns-clause-tried : goal.returns-clause-tried
returns-clause-tried g c =
    let text = g.N.NewTexts.text c.args.plan.now.texts.now in
    let preserved = g.A.Asked.preserved c.args.plan.now.asked.now in
    let occurs = g.A.Asked.occurs c.args.plan.now.asked.now in
    let maps : Maps = (c.args.in_scope.now.holders, c.args.in_program.now.leaked.holders) in
    let id = c.args.id.now in
    let next = c.free_at.new.next in
    let f : FindsFree (text id) (taken_at preserved occurs maps c.args.scope) c.next_at-start.result next c.in_ok-text.text =
    found_earlier text preserved occurs maps c.args.in_scope.now.tried c.args.scope id c.next_at-start.result next c.in_ok-text.text c.requires.tried (search rules) in
    let past = f.past in
    let taken : AllTaken (text id) (taken_at preserved occurs maps c.args.scope) 0 (next - 1) = λ k from below. f.least.least k (omega arith) (omega (arith, past, below)) in
    let told : c.are_alike.result ≡ true = search rules in
    tried_more text preserved occurs maps c.args.in_scope.now.tried c.put.new.self c.args.scope id c.in_ok-clone.field-0 (next - 1) (c.are_alike.ensures told) (search rules) taken (search rules) c.requires.tried
