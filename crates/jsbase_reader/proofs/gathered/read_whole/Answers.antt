use Rattle.std.proofs.Common.{arith, subst}
use Rattle.std.specs.Prelude.{IsErrOf}
use Rattle.json.specs.Json.{object}
use Rattle.jsbase_reader.specs.Gathered.{AreOf}
use Rattle.jsbase_reader.specs.declared.streamed.Stop.TheVariants as stop
use Rattle.jsbase_reader.proofs.OneByOne.{members_are, object_ended, object_unread}
use Rattle.jsbase_reader.proofs.OfTwo.{versions_are}
use Rattle.jsbase_reader.proofs.gathered.read_whole.Goals as goal

pub returns-clause-read : goal.returns-clause-read
returns-clause-read c =
    let g = c.in_ok-gathered.gathered in
    let read = c.in_ok-gathered.ensures.read in
    let are = subst (λ table. AreOf table c.args.class read.members g) c.new-no_marks.ensures read.are in
    let asked = c.in_ok-keep_top.ensures.read _ c.read_asked.ensures in
    record {
      whole = object read.members;
      read = object_ended 126 c.args.reader.now c.object_begins.new.reader c.gather.new.reader read.members c.in_ok-object_begins.ensures.begins read.read;
      are = versions_are c.args.class read.members _ g c.in_ok-keep_top.keep_top c.in_ok-keep_top.spelling c.in_ok-before.before c.in_ok-after.after are (members_are g.others) c.in_ok-before.ensures.is c.in_ok-after.ensures.is asked;
    }

pub returns-in_err-gathered-clause-json : goal.returns-in_err-gathered-clause-json
returns-in_err-gathered-clause-json c = λ is.
    let e : IsErrOf c.gather.result stop.NoJson = grind arith in
    object_unread 126 c.args.reader.now c.object_begins.new.reader c.in_ok-object_begins.ensures.begins (c.gather.ensures.json e)
