-- What stripping, writing out and setting pairs keep of the names of a script in which no plain function stands in a block, catch body
-- or case list of sloppy code, and no label names a function.
use Rattle.std.specs.Prelude.{◌≡◌}
use Rattle.swc_tree_node.specs.declared.kind.Class.TheVariants as class
use Rattle.swc_tree_node.specs.declared.slot.Content.TheVariants as content
use Rattle.swc_tree_node.specs.declared.slot.Slot.{Slot}
use Rattle.swc_tree_node.specs.declared.slot.Slot.TheVariants as slot
use Rattle.swc_tree_node.specs.declared.node.Node.{Node}
use Rattle.swc_tree_node.specs.Fits.{Fits}
use Rattle.swc_tree_scoping.specs.Places.{program_place}
use Rattle.swc_tree_renaming.specs.Apart.{IsSettled}
use Rattle.swc_tree_grammar.specs.Due.{Places}
use Rattle.swc_tree_grammar.specs.Fixed.{fixed}
use Rattle.swc_tree_grammar.specs.Normal.{normal_form}
use Rattle.swc_tree_grammar.specs.Writable.{Writable}
use Rattle.swc_tree_sites.specs.Sites.{Site, sites_of, taken_at}
use Rattle.swc_tree_sites.specs.Smaller.{In, IsLeftOf}

abbrev pub script_place : Slot
script_place = slot.One (content.Node class.Script)

-- the normal form is left of the script, its program takes the same, and neither stands in it
pub record IsPlainlyLeft (t : Node) : Type 0 where
  pub left : IsLeftOf (normal_form t) t
  pub takes : taken_at program_place (normal_form t) ≡ taken_at program_place t
  pub settled : IsSettled (normal_form t)

-- so it is of each such script that can be written down
abbrev pub PlainScriptsAreLeft : Type 0
PlainScriptsAreLeft = (t : Node) → Fits t script_place → Writable t → IsSettled t → IsPlainlyLeft t

-- neither stands in the fixer's answer, and its normal form has all its names, with the same scopes round them, and the
-- same scopes in it
pub record LosesNoName (answer : Node) : Type 0 where
  pub settled : IsSettled answer
  pub names : (s : Site) → In s (sites_of program_place answer).sites → In s (sites_of program_place (normal_form answer)).sites
  pub sets : (sites_of program_place (normal_form answer)).sets ≡ (sites_of program_place answer).sets

-- so it is of what the fixer answers to such a script
abbrev pub FixedScriptsLoseNoName : Type 0
FixedScriptsLoseNoName = (place : Places) (t : Node) → Fits t script_place → Writable t → IsSettled t → LosesNoName (fixed place t)
