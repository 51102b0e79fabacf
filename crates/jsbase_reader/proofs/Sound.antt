-- The tree of an envelope fits its class, and the table knows its marks.
use Rattle.std.proofs.Common.{◌≡◌, Ok, codes, subst}
use Rattle.json.specs.Json.{Json, Members}
use Rattle.json.specs.Find.{as_object}
use Rattle.swc_tree_node.specs.declared.kind.Class.{Class}
use Rattle.swc_tree_node.specs.declared.slot.Content.TheVariants as content
use Rattle.swc_tree_node.specs.declared.slot.Slot.TheVariants as slot
use Rattle.swc_tree_node.specs.Fits.{Fits}
use Rattle.jsbase_form.specs.Reads.{at, found, key}
use Rattle.jsbase_form.specs.Known.{MarksKnown}
use Rattle.jsbase_form.specs.Tables.{table_at}
use Rattle.jsbase_form.specs.Trees.{seen, value_of}
use Rattle.jsbase_form.proofs.Successes.{bound, at_ok, ok_same}
use Rattle.jsbase_form.proofs.Seen.{Sound, seen_sound}
use Rattle.jsbase_reader.specs.declared.envelope.Envelope.{Envelope}
use Rattle.jsbase_reader.specs.Envelopes.{marks_in, options_in, envelope_of, envelope_in}

abbrev IsSound : Class → Envelope → Type 0
IsSound class e = Sound e.globals (slot.One (content.Node class)) e.tree

members_sound : (class : Class) (ms : Members) (e : Envelope) → envelope_of class ms ≡ Ok e → IsSound class e
unfolding envelope_of
members_sound class ms e h =
    let table = bound (at (key (codes "marks")) (table_at (value_of (codes "marks") ms))) _ e h in
    let marks = bound (marks_in table.0 ms) _ e table.2 in
    let options = bound (options_in ms) _ e marks.2 in
    let tree = bound (at (key (codes "tree")) (seen table.0 (value_of (codes "tree") ms) (slot.One (content.Node class)))) _ e options.2 in
    let same = ok_same (record { globals = table.0; unresolved = marks.0.0; top = marks.0.1; keep_class_names = options.0.0; ignore_eval = options.0.1; keep_top = options.0.2; tree = tree.0 }) e tree.2 in
    subst (IsSound class) same (seen_sound table.0 (value_of (codes "tree") ms) (slot.One (content.Node class)) tree.0 (at_ok (key (codes "tree")) _ tree.0 tree.1))

envelope_sound : (class : Class) (d : Json) (e : Envelope) → envelope_in class d ≡ Ok e → IsSound class e
envelope_sound class d e h = let ms = bound (found (as_object d)) (envelope_of class) e h in members_sound class ms.0 e ms.2

pub envelope_fits : (class : Class) (d : Json) (e : Envelope) → envelope_in class d ≡ Ok e → Fits e.tree (slot.One (content.Node class))
envelope_fits class d e h = (envelope_sound class d e h).0

pub envelope_known : (class : Class) (d : Json) (e : Envelope) → envelope_in class d ≡ Ok e → MarksKnown e.globals e.tree
envelope_known class d e h = (envelope_sound class d e h).1
