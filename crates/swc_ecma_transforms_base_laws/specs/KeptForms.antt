-- What is said of two programs that are one but for names, by the names that the first one binds.
use Rattle.std.specs.Prelude.{IsTrue}
use Rattle.swc_tree_node.specs.declared.slot.Slot.{Slot}
use Rattle.swc_tree_node.specs.declared.node.Node.{Node}
use Rattle.swc_tree_node.specs.Fits.{Fits}
use Rattle.swc_tree_scoping.specs.WellScoped.{IsClean}
use Rattle.swc_tree_renaming.specs.Apart.{is_goal}
use Rattle.swc_tree_grammar.specs.Same.{SameButForBoundNames}
use Rattle.swc_tree_grammar.specs.Writable.{Writable}
use Rattle.swc_base_renaming_laws.specs.Ids.{IsSettledIfScript}
use Rattle.swc_base_alpha_laws.specs.Alpha.{AlphaEquivalent}

-- A program without contexts that can be written down has the normal form of each that it is one with but for names, but for the
-- names that it binds.
abbrev pub AlphaKeepsForms : Type 0
AlphaKeepsForms = (goal : Slot) (t u : Node) → IsTrue (is_goal goal) → Fits t goal → Writable t → IsSettledIfScript t → IsClean t → AlphaEquivalent t u → SameButForBoundNames t u
