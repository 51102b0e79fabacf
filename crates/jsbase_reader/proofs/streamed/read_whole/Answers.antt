use Rattle.std.proofs.Common.{◌≡◌, false, codes, bytes_eq, refl, sym, ap, ◌∙◌, rules, arith, subst, Ok}
use Rattle.std.specs.Prelude.{IsErrOf, unwrap_or}
use Rattle.std.specs.List.{list_any}
use Rattle.json.specs.Json.{Members, member, null, object}
use Rattle.json.specs.Find.{get_member}
use Rattle.json.specs.Value.{members_view, value_view}
use Rattle.jsbase_form.specs.Reads.{at, key}
use Rattle.jsbase_form.specs.Tables.{table_at}
use Rattle.jsbase_reader.specs.declared.streamed.Stop.TheVariants as stop
use Rattle.jsbase_reader.specs.Answers.{Gives}
use Rattle.jsbase_reader.specs.Envelopes.{envelope_of}
use Rattle.jsbase_reader.specs.Parts.{members_in}
use Rattle.jsbase_reader.specs.Streamed.{Ends, Leads, joined, table_among}
use Rattle.jsbase_reader.proofs.OneByOne.{all_left, envelope_made, look_before, look_other, look_special, members_are, none_has, object_cut, object_ended, object_read, object_unread, object_without}
use Rattle.jsbase_reader.proofs.streamed.read_whole.Goals as goal

pub returns-clause-read : goal.returns-clause-read
returns-clause-read c =
    let before : Members = members_view c.in_ok-before.before.items in
    let behind = c.in_ok-behind.behind.items in
    let p = c.in_ok-tree.ensures.read in
    let g = c.in_ok-globals.globals in
    let leads : Leads 126 (codes "tree") before c.object_begins.new.reader c.members_until.new.reader = rw c.if-not-has_tree.false at c.in_ok-before.ensures.read in
    let ms : Members = joined before (member (codes "tree") p.program (members_view behind)) in
    let os : Members = members_in (value_view c.in_ok-others.others) in
    let others : os ≡ joined before (members_view behind) = c.in_ok-others.ensures.all ∙ ap (λ ms. joined ms (members_view behind)) (members_are c.in_ok-before.before) in
    let no_tree : list_any (λ m. bytes_eq m.0.now (codes "tree")) behind ≡ false = search (rules, c.as_slice.ensures.value) in
    let no_marks : list_any (λ m. bytes_eq m.0.now (codes "marks")) behind ≡ false = search (rules, c.as_slice-else-has_key.ensures.value) in
    let ends : Ends 126 (members_view behind) c.read_program.new.reader c.members_until-2.new.reader = all_left _ c.in_ok-behind.ensures.read in
    let marks_are : get_member (codes "marks") os ≡ get_member (codes "marks") before = ap (get_member (codes "marks")) others ∙ look_before (codes "marks") before (members_view behind) (none_has (codes "marks") behind no_marks) in
    let marks : table_among os ≡ Ok g = ap (λ o. at (key (codes "marks")) (table_at (unwrap_or o null))) marks_are ∙ ap table_among (sym (members_are c.in_ok-before.before)) ∙ c.in_ok-globals.ensures.table in
    let is = envelope_made c.args.class ms os g p.program c.in_ok-tree.tree (λ k e. look_other k (codes "tree") p.program before (members_view behind) e ∙ ap (get_member k) (sym others)) marks
    (look_special (codes "tree") p.program before (members_view behind) refl (none_has (codes "tree") behind no_tree)) p.seen in
    record {
      whole = object ms;
      read = object_read 126 c.args.reader.now c.object_begins.new.reader c.members_until.new.reader c.members_until-2.new.reader c.read_program.new.reader before (members_view behind) (codes "tree") p.program c.in_ok-object_begins.ensures.begins
          leads p.read ends;
      gives = subst (Gives c.read_around.result) (sym is) c.read_around.ensures;
    }

pub returns-then-not-has_tree-clause-read : goal.returns-then-not-has_tree-clause-read
returns-then-not-has_tree-clause-read c =
    let before : Members = members_view c.in_ok-before.before.items in
    let ends : Ends 126 before c.object_begins.new.reader c.members_until.new.reader = rw c.if-not-has_tree.true at c.in_ok-before.ensures.read in
    record {
      whole = object before;
      read = object_ended 126 c.args.reader.now c.object_begins.new.reader c.members_until.new.reader before c.in_ok-object_begins.ensures.begins ends;
      gives = subst (λ ms. Gives c.read_members.result (envelope_of c.args.class ms)) (members_are c.in_ok-before.before) c.read_members.ensures;
    }

pub returns-in_err-before-clause-json : goal.returns-in_err-before-clause-json
returns-in_err-before-clause-json c = λ is.
    let e : IsErrOf c.members_until.result stop.NoJson = grind arith in
    object_unread 126 c.args.reader.now c.object_begins.new.reader c.in_ok-object_begins.ensures.begins (c.members_until.ensures.json e)

pub returns-in_err-tree-clause-json : goal.returns-in_err-tree-clause-json
returns-in_err-tree-clause-json c = λ is.
    let e : IsErrOf c.read_program.result stop.NoJson = grind arith in
    let before : Members = members_view c.in_ok-before.before.items in
    let leads : Leads 126 (codes "tree") before c.object_begins.new.reader c.members_until.new.reader = rw c.if-not-has_tree.false at c.in_ok-before.ensures.read in
    object_without 126 c.args.reader.now c.object_begins.new.reader c.members_until.new.reader before (codes "tree") c.in_ok-object_begins.ensures.begins leads (c.read_program.ensures.json e)

pub returns-in_err-behind-clause-json : goal.returns-in_err-behind-clause-json
returns-in_err-behind-clause-json c = λ is.
    let e : IsErrOf c.members_until-2.result stop.NoJson = grind arith in
    let before : Members = members_view c.in_ok-before.before.items in
    let p = c.in_ok-tree.ensures.read in
    let leads : Leads 126 (codes "tree") before c.object_begins.new.reader c.members_until.new.reader = rw c.if-not-has_tree.false at c.in_ok-before.ensures.read in
    object_cut 126 c.args.reader.now c.object_begins.new.reader c.members_until.new.reader c.read_program.new.reader before (codes "tree") p.program c.in_ok-object_begins.ensures.begins leads p.read (c.members_until-2.ensures.json e)
