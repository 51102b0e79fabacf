use Rattle.std.proofs.Common.{◌≡◌, Some, None, sym, subst, ◌∙◌, arith}
use Rattle.json.specs.Json.{read_key}
use Rattle.json.specs.Value.{members_view}
use Rattle.jsbase_reader.proofs.OneByOne.{Reading, reading_asked, reading_ends, reading_fails, reading_first, reading_more, reading_stops}
use Rattle.jsbase_reader.proofs.streamed.members_until.Goals as goal

pub loop-before-init : goal.loop-before-init
loop-before-init c = λ n le. subst (λ vs. Reading c.args.depth n c.args.reader.now (members_view vs) c.args.reader.now) (sym c.new-before.ensures.items) (reading_first c.args.depth n c.args.reader.now le)

pub loop-before-preserved : goal.loop-before-preserved
loop-before-preserved c = λ n le.
    let key : read_key c.loop-before.reader ≡ Some (Some c.in-Some.next.now, c.next_key.new.self) = grind arith in
    let m = c.in_ok-read_value.ensures.read in
    let there : read_key c.loop-before.reader ≡ Some (Some m.key.now, c.next_key.new.self) = rw m.named key in
    reading_more c.args.depth n c.args.reader.now c.loop-before.reader c.next_key.new.self c.read_value.new.reader c.loop-before.before.items c.read_value.new.members.items (m.key, m.item) (c.loop-before.invariant n le) there m.read m.shorter m.pushed

pub returns-then-eq-clause-read : goal.returns-then-eq-clause-read
returns-then-eq-clause-read c =
    let key : read_key c.loop-before.reader ≡ Some (Some c.in-Some.next.now, c.next_key.new.self) = grind arith in
    reading_asked c.args.depth c.args.reader.now c.loop-before.reader c.next_key.new.self (members_view c.loop-before.before.items) c.args.key c.in-Some.next (sym c.eq.ensures ∙ c.if-eq.true) (c.loop-before.invariant _ (omega arith)) key

pub returns-clause-read : goal.returns-clause-read
returns-clause-read c = λ n le.
    let ends : read_key c.loop-before.reader ≡ Some (None, c.next_key.new.self) = grind arith in
    reading_ends c.args.depth n c.args.reader.now c.loop-before.reader c.next_key.new.self (members_view c.loop-before.before.items) (c.loop-before.invariant n le) ends

pub returns-in_err-next-clause-json : goal.returns-in_err-next-clause-json
returns-in_err-next-clause-json c = λ _ n le.
    let stops : read_key c.loop-before.reader ≡ None = grind arith in
    reading_stops c.args.depth n c.args.reader.now c.loop-before.reader (members_view c.loop-before.before.items) (c.loop-before.invariant n le) stops

pub returns-in_err-read_value-clause-json : goal.returns-in_err-read_value-clause-json
returns-in_err-read_value-clause-json c = λ stop n le.
    let key : read_key c.loop-before.reader ≡ Some (Some c.in-Some.next.now, c.next_key.new.self) = grind arith in
    reading_fails c.args.depth n c.args.reader.now c.loop-before.reader c.next_key.new.self (members_view c.loop-before.before.items) c.in-Some.next.now (c.loop-before.invariant n le) key (grind (arith, c.read_value.ensures.json))
