use Rattle.std.proofs.Common.{◌≡◌, false, codes, bytes_eq, refl, sym, ap, ◌∙◌, rules, arith}
use Rattle.std.specs.Prelude.{IsErrOf}
use Rattle.std.specs.List.{list_any}
use Rattle.json.specs.Json.{Members, array, member, object}
use Rattle.json.specs.Find.{get_member}
use Rattle.json.specs.Value.{members_view, value_view}
use Rattle.jsbase_reader.specs.declared.streamed.Stop.TheVariants as stop
use Rattle.jsbase_reader.specs.Parts.{members_in}
use Rattle.jsbase_reader.specs.Streamed.{Ends, Leads, joined}
use Rattle.jsbase_reader.proofs.OneByOne.{all_left, array_read, array_unread, look_other, look_special, members_are, none_has, object_cut, object_read, object_unread, object_without, program_made}
use Rattle.jsbase_reader.proofs.streamed.read_program.Goals as goal

pub returns-clause-read : goal.returns-clause-read
returns-clause-read c =
    let before : Members = members_view c.in_ok-before.before.items in
    let behind = c.in_ok-behind.behind.items in
    let items = c.in_ok-body.ensures.read in
    let leads : Leads 125 (codes "body") before c.object_begins.new.reader c.members_until.new.reader = rw c.if-not-has_body.false at c.in_ok-before.ensures.read in
    let ms : Members = joined before (member (codes "body") (array items.each) (members_view behind)) in
    let absent : list_any (λ m. bytes_eq m.0.now (codes "body")) behind ≡ false = search (rules, c.as_slice.ensures.value) in
    let none = none_has (codes "body") behind absent in
    let ends : Ends 125 (members_view behind) c.read_items.new.reader c.members_until-2.new.reader = all_left _ c.in_ok-behind.ensures.read in
    let others : members_in (value_view c.in_ok-others.others) ≡ joined before (members_view behind) = c.in_ok-others.ensures.all ∙ ap (λ ms. joined ms (members_view behind)) (members_are c.in_ok-before.before) in
    record {
      program = object ms;
      read = object_read 125 c.args.reader.now c.object_begins.new.reader c.members_until.new.reader c.members_until-2.new.reader c.read_items.new.reader before (members_view behind) (codes "body") (array items.each) c.in_ok-object_begins.ensures.begins
          leads (array_read 124 c.members_until.new.reader c.array_begins.new.reader c.read_items.new.reader items.each c.in_ok-array_begins.ensures.begins items.read) ends;
      seen = program_made c.args.globals.now c.args.class c.in_ok-statements.statements ms (members_in (value_view c.in_ok-others.others)) items.each c.in_ok-body.body c.in_ok-tree.tree c.in_ok-statements.ensures.content
          (λ k e. look_other k (codes "body") (array items.each) before (members_view behind) e ∙ ap (get_member k) (sym others)) (look_special (codes "body") (array items.each) before (members_view behind) refl none) items.seen c.in_ok-tree.ensures.made;
    }

pub returns-in_err-before-clause-json : goal.returns-in_err-before-clause-json
returns-in_err-before-clause-json c = λ is.
    let e : IsErrOf c.members_until.result stop.NoJson = grind arith in
    object_unread 125 c.args.reader.now c.object_begins.new.reader c.in_ok-object_begins.ensures.begins (c.members_until.ensures.json e)

pub returns-in_err-body-clause-json : goal.returns-in_err-body-clause-json
returns-in_err-body-clause-json c = λ is.
    let e : IsErrOf c.read_items.result stop.NoJson = grind arith in
    let before : Members = members_view c.in_ok-before.before.items in
    let leads : Leads 125 (codes "body") before c.object_begins.new.reader c.members_until.new.reader = rw c.if-not-has_body.false at c.in_ok-before.ensures.read in
    object_without 125 c.args.reader.now c.object_begins.new.reader c.members_until.new.reader before (codes "body") c.in_ok-object_begins.ensures.begins leads
    (array_unread 124 c.members_until.new.reader c.array_begins.new.reader c.in_ok-array_begins.ensures.begins (c.read_items.ensures.json e))

pub returns-in_err-behind-clause-json : goal.returns-in_err-behind-clause-json
returns-in_err-behind-clause-json c = λ is.
    let e : IsErrOf c.members_until-2.result stop.NoJson = grind arith in
    let before : Members = members_view c.in_ok-before.before.items in
    let items = c.in_ok-body.ensures.read in
    let leads : Leads 125 (codes "body") before c.object_begins.new.reader c.members_until.new.reader = rw c.if-not-has_body.false at c.in_ok-before.ensures.read in
    object_cut 125 c.args.reader.now c.object_begins.new.reader c.members_until.new.reader c.read_items.new.reader before (codes "body") (array items.each) c.in_ok-object_begins.ensures.begins leads
    (array_read 124 c.members_until.new.reader c.array_begins.new.reader c.read_items.new.reader items.each c.in_ok-array_begins.ensures.begins items.read) (c.members_until-2.ensures.json e)
