-- The two marks of an envelope that was read stand in its table.
use Rattle.std.proofs.Common.{◌≡◌, ℕ, List, true, not, ◌==◌, Ok, IsTrue, nat_eq, codes, subst, rules, arith}
use Rattle.std.specs.List.{list_any}
use Rattle.json.specs.Json.{Json, Members}
use Rattle.json.specs.Find.{as_object}
use Rattle.swc_tree_marks.specs.Globals.{Table, numbers}
use Rattle.swc_tree_node.specs.declared.kind.Class.{Class}
use Rattle.swc_tree_node.specs.declared.slot.Content.TheVariants as content
use Rattle.swc_tree_node.specs.declared.slot.Slot.TheVariants as slot
use Rattle.swc_base_resolver_program.specs.Marked.{IsMark, MarksOk}
use Rattle.jsbase_form.specs.Reads.{at, found, key}
use Rattle.jsbase_form.specs.Leaves.{is_marked, number_at, marked, mark_at}
use Rattle.jsbase_form.specs.Tables.{table_at}
use Rattle.jsbase_form.specs.Trees.{seen, value_of}
use Rattle.jsbase_form.proofs.Successes.{bound, at_ok, ok_same, chosen}
use Rattle.jsbase_form.proofs.Members.{split}
use Rattle.jsbase_reader.proofs.Marks.{same_number}
use Rattle.std.proofs.lemmas.Map.Views.{Contains-from_any}
use Rattle.jsbase_reader.specs.declared.envelope.Envelope.{Envelope}
use Rattle.jsbase_reader.specs.Envelopes.{marks_in, options_in, envelope_of, envelope_in, text_in, envelope_in_text}

marked_is : (table : Table) (mark : ℕ) → is_marked table mark ≡ true → IsMark table mark
marked_is table mark h =
    let parts = split (not (mark == 0)) (list_any (nat_eq mark) (numbers table)) h in
    (λ root. not_root mark root parts.0, Contains-from_any same_number mark (numbers table) parts.1)
  where
    not_root : (n : ℕ) → n ≡ 0 → IsTrue (not (n == 0)) → ⊥
    not_root n e h = grind (arith, rules, e, h)

mark_ok : (table : Table) (d : Json) (mark : ℕ) → mark_at table d ≡ Ok mark → IsMark table mark
unfolding mark_at
mark_ok table d mark h =
    let number = bound (number_at d) (marked table) mark h in
    let is = chosen (is_marked table number.0) number.0 mark number.2 in
    subst (IsMark table) is.1 (marked_is table number.0 is.0)

marks_ok : (table : Table) (ms : Members) (marks : ℕ × ℕ) → marks_in table ms ≡ Ok marks → MarksOk table marks.0 marks.1
marks_ok table ms marks h =
    let unresolved = bound (at (key (codes "unresolved")) (mark_at table (value_of (codes "unresolved") ms))) _ marks h in
    let top = bound (at (key (codes "top")) (mark_at table (value_of (codes "top") ms))) _ marks unresolved.2 in
    let same = ok_same (unresolved.0, top.0) marks top.2 in
    subst (λ m. MarksOk table m.0 m.1) same (
      mark_ok table (value_of (codes "unresolved") ms) unresolved.0 (at_ok (key (codes "unresolved")) _ unresolved.0 unresolved.1),
      mark_ok table (value_of (codes "top") ms) top.0 (at_ok (key (codes "top")) _ top.0 top.1),
    )

abbrev HasMarks : Envelope → Type 0
HasMarks e = MarksOk e.globals e.unresolved e.top

members_marks : (class : Class) (ms : Members) (e : Envelope) → envelope_of class ms ≡ Ok e → HasMarks e
unfolding envelope_of
members_marks class ms e h =
    let table = bound (at (key (codes "marks")) (table_at (value_of (codes "marks") ms))) _ e h in
    let marks = bound (marks_in table.0 ms) _ e table.2 in
    let options = bound (options_in ms) _ e marks.2 in
    let tree = bound (at (key (codes "tree")) (seen table.0 (value_of (codes "tree") ms) (slot.One (content.Node class)))) _ e options.2 in
    let same = ok_same (record { globals = table.0; unresolved = marks.0.0; top = marks.0.1; keep_class_names = options.0.0; ignore_eval = options.0.1; keep_top = options.0.2; tree = tree.0 }) e tree.2 in
    subst HasMarks same (marks_ok table.0 ms marks.0 marks.1)

pub envelope_marks : (class : Class) (bytes : List ℕ) (e : Envelope) → envelope_in_text class bytes ≡ Ok e → MarksOk e.globals e.unresolved e.top
envelope_marks class bytes e h =
    let d = bound (text_in bytes) (envelope_in class) e h in
    let ms = bound (found (as_object d.0)) (envelope_of class) e d.2 in
    members_marks class ms.0 e ms.2
