-- The members of an object of which two, trees, are read by themselves, in whichever order they stand.
use Rattle.std.specs.Prelude.{◌≡◌, ℕ, ◌<◌, List, length, codes, false, Ok, Option, Some, None}
use Rattle.std.specs.Str.{bytes_eq}
use Rattle.json.specs.Token.{Token}
use Rattle.json.specs.Json.{Json, Members, no_members, member, value}
use Rattle.json.specs.Find.{get_member}
use Rattle.json.specs.Value.{members_view}
use Rattle.swc_tree_marks.specs.Globals.{Table}
use Rattle.swc_tree_node.specs.declared.kind.Class.{Class}
use Rattle.swc_tree_node.specs.declared.node.Node.{Node}
use Rattle.swc_tree_node.specs.declared.slot.Content.TheVariants as content
use Rattle.swc_tree_node.specs.declared.slot.Slot.TheVariants as slot
use Rattle.jsbase_form.specs.Trees.{seen}
use Rattle.jsbase_reader.specs.Streamed.{Ends, joined}
use Rattle.jsbase_reader.specs.Versions.{versions_in}
use Rattle.jsbase_reader.specs.declared.gathered.Gathered.{Gathered}
use Rattle.jsbase_reader.specs.declared.versions.Versions.{Versions}

-- the tree that the members have at a key; no tree where they don't have the key
abbrev pub IsTreeOf : Table → Class → List ℕ → Members → Option Node → Type 0
IsTreeOf table c k ms None = get_member k ms ≡ None
IsTreeOf table c k ms (Some t) = (d : Json) × (get_member k ms ≡ Some d) × (seen table d (slot.One (content.Node c)) ≡ Ok t)

-- the members by the two trees and by the others
pub record AreOf (table : Table) (class : Class) (ms : Members) (g : Gathered) : Type 0 where
  pub others : (k : List ℕ) → bytes_eq (codes "before") k ≡ false → bytes_eq (codes "after") k ≡ false → get_member k ms ≡ get_member k (members_view g.others.items)
  pub before : IsTreeOf table class (codes "before") ms g.before
  pub after : IsTreeOf table class (codes "after") ms g.after

-- a value was read, and with its key it stands behind the members before it
pub record IsGathered (d : ℕ) (table : Table) (class : Class) (k : List ℕ) (old new : List Token) (one more : Gathered) : Type 0 where
  pub item : Json
  pub read : value d old ≡ Some (item, new)
  pub shorter : length new < length old
  pub behind : (ms : Members) → AreOf table class ms one → AreOf table class (joined ms (member k item no_members)) more

-- the tokens are the members of an object, and its end
pub record AreGathered (d : ℕ) (table : Table) (class : Class) (old new : List Token) (g : Gathered) : Type 0 where
  pub members : Members
  pub read : Ends d members old new
  pub are : AreOf table class members g

-- a value was read, and has the two versions
pub record HasVersions (d : ℕ) (class : Class) (old new : List Token) (versions : Versions) : Type 0 where
  pub whole : Json
  pub read : value d old ≡ Some (whole, new)
  pub are : versions_in class whole ≡ Ok versions
