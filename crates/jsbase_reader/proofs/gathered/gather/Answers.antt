use Rattle.std.proofs.Common.{◌≡◌, Some, None, refl, arith}
use Rattle.json.specs.Json.{read_key, no_members}
use Rattle.jsbase_reader.proofs.OneByOne.{reading_ends, reading_fails, reading_first, reading_stops}
use Rattle.jsbase_reader.proofs.OfTwo.{none_yet, reading_on}
use Rattle.jsbase_reader.proofs.gathered.gather.Goals as goal

pub loop-gathered-init : goal.loop-gathered-init
loop-gathered-init c = (no_members, λ n le. reading_first 126 n c.args.reader.now le, none_yet c.args.globals.now c.args.class _ c.new.ensures.items refl refl)

pub loop-gathered-preserved : goal.loop-gathered-preserved
loop-gathered-preserved c =
    let key : read_key c.loop-gathered.reader ≡ Some (Some c.in-Some.key.now, c.next_key.new.self) = grind arith in
    let m = c.in_ok-gather_member.ensures.read in
    let was = c.loop-gathered.invariant in (
      _,
      λ n le. reading_on 126 n c.args.reader.now c.loop-gathered.reader c.next_key.new.self c.gather_member.new.reader c.in-Some.key.now m.item was.0 (was.1 n le) key m.read m.shorter,
      m.behind was.0 was.2,
    )

pub returns-clause-read : goal.returns-clause-read
returns-clause-read c =
    let ends : read_key c.loop-gathered.reader ≡ Some (None, c.next_key.new.self) = grind arith in
    let was = c.loop-gathered.invariant in
    record { members = was.0; read = λ n le. reading_ends 126 n c.args.reader.now c.loop-gathered.reader c.next_key.new.self was.0 (was.1 n le) ends; are = was.2 }

pub returns-in_err-key-clause-json : goal.returns-in_err-key-clause-json
returns-in_err-key-clause-json c = λ _ n le.
    let stops : read_key c.loop-gathered.reader ≡ None = grind arith in
    let was = c.loop-gathered.invariant in
    reading_stops 126 n c.args.reader.now c.loop-gathered.reader was.0 (was.1 n le) stops

pub returns-in_err-gather_member-clause-json : goal.returns-in_err-gather_member-clause-json
returns-in_err-gather_member-clause-json c = λ stop n le.
    let key : read_key c.loop-gathered.reader ≡ Some (Some c.in-Some.key.now, c.next_key.new.self) = grind arith in
    let was = c.loop-gathered.invariant in
    reading_fails 126 n c.args.reader.now c.loop-gathered.reader c.next_key.new.self was.0 c.in-Some.key.now (was.1 n le) key (grind (arith, c.gather_member.ensures.json))
