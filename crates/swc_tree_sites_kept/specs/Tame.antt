-- A module that can be written down is tame, and so its normal form is left of it; a script is tame too.
use Rattle.std.specs.Prelude.{false, IsTrue}
use Rattle.swc_tree_node.specs.declared.kind.Class.TheVariants as class
use Rattle.swc_tree_node.specs.declared.slot.Content.TheVariants as content
use Rattle.swc_tree_node.specs.declared.slot.Slot.TheVariants as slot
use Rattle.swc_tree_node.specs.declared.node.Node.{Node}
use Rattle.swc_tree_node.specs.Fits.{Fits}
use Rattle.swc_tree_renaming.specs.Apart.{HasNoSloppy}
use Rattle.swc_tree_grammar.specs.Normal.{normal_form}
use Rattle.swc_tree_grammar.specs.Stripped.{stripped}
use Rattle.swc_tree_grammar.specs.Writable.{is_writable}
use Rattle.swc_tree_sites.specs.Smaller.{IsLeftOf}
use Rattle.swc_tree_sites_written.specs.Tame.{is_tame}

-- A module that can be written down, stripped, binds names by patterns alone, and a block in it that goes held nothing
-- that a block takes.
abbrev pub WritableModulesAreTame : Type 0
WritableModulesAreTame = (t : Node) → Fits t (slot.One (content.Node class.Module)) → IsTrue (is_writable t) → IsTrue (is_tame (stripped t) false)

-- So is a script, where no plain function stands in a block of sloppy code once it is stripped.
abbrev pub WritableScriptsAreTame : Type 0
WritableScriptsAreTame = (t : Node) → Fits t (slot.One (content.Node class.Script)) → IsTrue (is_writable t) → HasNoSloppy (stripped t) → IsTrue (is_tame (stripped t) false)

-- The normal form of a module that can be written down is left of the module: each name in it is a name of the module,
-- with the same scopes round it, or a copy in an export list of what is declared beside it.
abbrev pub WritableNormalFormIsLeft : Type 0
WritableNormalFormIsLeft = (t : Node) → Fits t (slot.One (content.Node class.Module)) → IsTrue (is_writable t) → IsLeftOf (normal_form t) t
