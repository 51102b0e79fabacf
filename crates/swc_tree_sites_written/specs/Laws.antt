-- What is left of a module, and of an item of it, that is written out.
use Rattle.std.specs.Prelude.{◌≡◌, Bool, true, false, IsTrue}
use Rattle.swc_tree_node.specs.declared.kind.Class.TheVariants as class
use Rattle.swc_tree_node.specs.declared.slot.Content.TheVariants as content
use Rattle.swc_tree_node.specs.declared.slot.Slot.TheVariants as slot
use Rattle.swc_tree_node.specs.declared.node.Node.{Node}
use Rattle.swc_tree_node.specs.Fits.{Fits}
use Rattle.swc_tree_scoping.specs.declared.places.Place.{Place}
use Rattle.swc_tree_scoping.specs.declared.places.Standing.{Standing}
use Rattle.swc_tree_scoping.specs.Places.{program_place}
use Rattle.swc_tree_grammar.specs.Normal.{normal_form, written_out}
use Rattle.swc_tree_grammar.specs.Stripped.{stripped}
use Rattle.swc_tree_grammar.specs.Targets.{all_bare}
use Rattle.swc_tree_sites.specs.Sites.{Site, sites_of, taken_at}
use Rattle.swc_tree_sites.specs.Smaller.{In, IsLeftOf}
use Rattle.swc_tree_sites_written.specs.Tame.{is_tame}

-- a place in strict code
abbrev pub strict_place : Standing → Bool → Place
strict_place r n = record { standing = r; strict = true; nested = n }

-- A statement, import or export of strict code that is tame, written out, has the very names that it had, each with
-- the same scopes round it; it leaves the same to outer scopes, and each scope in it takes what it took.
abbrev pub WrittenItemKeepsNames : Type 0
WrittenItemKeepsNames = (t : Node) (r : Standing) (n : Bool) → Fits t (slot.One (content.Node class.ModuleItem)) → IsTrue (is_tame t false) → sites_of (strict_place r n) (written_out t) ≡ sites_of (strict_place r n) t

-- A module that is tame, written out, is left of the module: each name in it is a name of the module, with the same
-- scopes round it, or a copy in an export list of what is declared beside it, and its scopes take what they took. The
-- program takes the same.
abbrev pub WrittenOutIsLeft : Type 0
WrittenOutIsLeft = (t : Node) → Fits t (slot.One (content.Node class.Module)) → IsTrue (is_tame t false) → IsLeftOf (written_out t) t × (taken_at program_place (written_out t) ≡ taken_at program_place t)

-- ... and the module written out has all names of the module, with the same scopes round them, and the same scopes in it.
abbrev pub WrittenOutLosesNone : Type 0
WrittenOutLosesNone = (t : Node) → Fits t (slot.One (content.Node class.Module)) → IsTrue (is_tame t false)
    → ((s : Site) → In s (sites_of program_place t).sites → In s (sites_of program_place (written_out t)).sites) × ((sites_of program_place (written_out t)).sets ≡ (sites_of program_place t).sets)

-- The normal form of a module is left of the module, where each parenthesised target of it can stand bare and the
-- stripped module is tame.
abbrev pub NormalFormIsLeft : Type 0
NormalFormIsLeft = (t : Node) → Fits t (slot.One (content.Node class.Module)) → IsTrue (all_bare t) → IsTrue (is_tame (stripped t) false) → IsLeftOf (normal_form t) t
