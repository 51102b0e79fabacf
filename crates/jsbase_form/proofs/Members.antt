-- How the value of a key is read, and keys that differ.
use Rattle.std.proofs.Common.{◌≡◌, ◌≢◌, ℕ, List, ◌∷◌, Bool, true, false, not, ◌&&◌, ◌||◌, cond, IsTrue, map, codes, Option, Some, None, bytes_eq, refl, sym, ap, ◌∙◌}
use Rattle.std.proofs.lemmas.Slice.Eq.{bytes_eq-Decides}
use Rattle.json.specs.Json.{Json, Members, no_members, member}
use Rattle.json.specs.Find.{get_member}
use Rattle.swc_tree_marks.specs.Globals.{Table}
use Rattle.swc_tree_node.specs.declared.kind.Kind.{Kind}
use Rattle.swc_tree_node.specs.declared.kind.Kind.TheVariants as kind
use Rattle.swc_tree_node.specs.declared.slot.Slot.{Slot}
use Rattle.swc_tree_node.specs.declared.node.Node.{Node}
use Rattle.swc_tree_node.specs.Table.{fields_of}
use Rattle.jsbase_form.specs.Reads.{Read}
use Rattle.jsbase_form.specs.Keys.{all_differ}
use Rattle.jsbase_form.specs.Trees.{seen, null_as, members_seen, value_of}

abbrev value_seen : Table → Option Json → Slot → Read Node
value_seen table (Some d) s = seen table d s
value_seen table None s = null_as s

chosen : (b : Bool) (table : Table) (d : Json) (s : Slot) → cond b (seen table d s) (null_as s) ≡ value_seen table (cond b (Some d) None) s
chosen true table d s = refl
chosen false table d s = refl

members_seen_is : (table : Table) (ms : Members) (k : List ℕ) (s : Slot) → members_seen table ms k s ≡ value_seen table (get_member k ms) s
members_seen_is table no_members k s = refl
members_seen_is table (member l d ms) k s = at (get_member k ms) refl (members_seen_is table ms k s)
  where
    at : (o : Option Json) → get_member k ms ≡ o → members_seen table ms k s ≡ value_seen table (get_member k ms) s → members_seen table (member l d ms) k s ≡ value_seen table (get_member k (member l d ms)) s
    at (Some e) h rest = rw h (rest ∙ ap (λ o. value_seen table o s) h)
    at None h rest = rw h (chosen (bytes_eq l k) table d s)

found_seen : (table : Table) (o : Option Json) (s : Slot) (ms : Members) (k : List ℕ) → get_member k ms ≡ o → value_seen table o s ≡ seen table (value_of k ms) s
found_seen table None s ms k e = rw e refl
found_seen table (Some d) s ms k e = rw e refl

-- a key reads as its value does
pub member_seen : (table : Table) (ms : Members) (k : List ℕ) (s : Slot) → members_seen table ms k s ≡ seen table (value_of k ms) s
member_seen table ms k s = members_seen_is table ms k s ∙ found_seen table (get_member k ms) s ms k refl

-- the keys of a kind differ, and none is `type`
pub table_differs : (k : Kind) → IsTrue (all_differ (codes "type" ∷ map (λ f. f.0) (fields_of k)))
table_differs kind.Module = refl
table_differs _ = refl

differs : (b : Bool) → b ≡ false → b ≡ true → ⊥
differs b is_false is_true = cc

pub apart : (k l : List ℕ) → bytes_eq k l ≡ false → l ≢ k
apart k l h e = absurd (differs (bytes_eq k l) h ((bytes_eq-Decides k l).1 (sym e)))

pub neither : (a b : Bool) → IsTrue (not (a || b)) → (a ≡ false) × IsTrue (not b)
neither true b h = absurd (cc)
neither false b h = (refl, h)

pub split : (a b : Bool) → IsTrue (a && b) → IsTrue a × IsTrue b
split true b h = (refl, h)
split false b h = absurd (cc)
