-- Both versions fit their class, and no table is needed for their marks.
use Rattle.std.proofs.Common.{◌≡◌, ℕ, List, Ok, codes, subst}
use Rattle.json.specs.Find.{as_object}
use Rattle.swc_tree_node.specs.declared.kind.Class.{Class}
use Rattle.swc_tree_node.specs.declared.slot.Content.TheVariants as content
use Rattle.swc_tree_node.specs.declared.slot.Slot.TheVariants as slot
use Rattle.jsbase_form.specs.Reads.{found, key}
use Rattle.jsbase_form.specs.Trees.{value_of}
use Rattle.jsbase_form.proofs.Successes.{bound, at_ok, ok_same}
use Rattle.jsbase_form.proofs.Seen.{Sound, seen_sound}
use Rattle.jsbase_reader.specs.declared.versions.Versions.{Versions}
use Rattle.jsbase_reader.specs.Envelopes.{text_in}
use Rattle.jsbase_reader.specs.Versions.{asked_in, no_marks, tree_in, versions_in, versions_in_text, versions_of}

pub record AreSound (class : Class) (v : Versions) : Type 0 where
  pub before : Sound no_marks (slot.One (content.Node class)) v.before
  pub after : Sound no_marks (slot.One (content.Node class)) v.after

pub versions_sound : (class : Class) (bytes : List ℕ) (v : Versions) → versions_in_text class bytes ≡ Ok v → AreSound class v
versions_sound class bytes v h =
    let d = bound (text_in bytes) (versions_in class) v h in
    let ms = bound (found (as_object d.0)) (versions_of class) v d.2 in
    let asked = bound (asked_in ms.0) _ v ms.2 in
    let before = bound (tree_in no_marks class (codes "before") ms.0) _ v asked.2 in
    let after = bound (tree_in no_marks class (codes "after") ms.0) _ v before.2 in
    let same = ok_same (record { keep_top = asked.0.0; spelling = asked.0.1; before = before.0; after = after.0 }) v after.2 in
    let first = seen_sound no_marks (value_of (codes "before") ms.0) (slot.One (content.Node class)) before.0 (at_ok (key (codes "before")) _ before.0 before.1) in
    let second = seen_sound no_marks (value_of (codes "after") ms.0) (slot.One (content.Node class)) after.0 (at_ok (key (codes "after")) _ after.0 after.1) in
    subst (AreSound class) same (record { before = first; after = second })
