-- What is told of a copy is told of the program; and what is covered is a source, and plain if it is a script.
use Rattle.std.proofs.Common.{◌≡◌, Option, None, List, IsTrue, refl, subst}
use Rattle.swc_tree_node.specs.declared.kind.Kind.TheVariants as kind
use Rattle.swc_tree_node.specs.declared.node.Node.{Node, Tree}
use Rattle.swc_tree_node.specs.declared.node.Node.TheVariants.{outs-Tree}
use Rattle.swc_tree_modules.specs.declared.script.Script.{Script}
use Rattle.swc_tree_modules.specs.Nodes.{script_node}
use Rattle.swc_tree_scoping.specs.Resolved.{is_script}
use Rattle.swc_tree_renaming.specs.Apart.{IsPlainScript}
use Rattle.swc_base_rename_substitution.specs.declared.config.Config.{Config}
use Rattle.swc_base_covers.specs.declared.gap.Gap.{Gap}
use Rattle.swc_base_covers.specs.Covered.{IsCovered, Tells}
use Rattle.swc_ecma_transforms_base_laws.specs.Sources.{IsSource}

source_of : (config : Config) (t : Node) → IsCovered config t → IsSource config t
source_of config t h = record { clean = h.clean; fair = h.fair; writable = h.writable; plain = record { renames_classes = h.renames_classes; unread = h.unread } }

pub told_source : (config : Config) (t : Node) (gap : Option Gap) → Tells config t gap → gap ≡ None → IsSource config t
told_source config t gap told none = source_of config t (subst (Tells config t) none told)

tree_is_script : (ts : List Node) → IsTrue (is_script (Tree kind.Script ts))
tree_is_script ts = rw (outs-Tree kind.Script ts) refl

pub told_plain : (config : Config) (s : Script) (gap : Option Gap) → Tells config (script_node s) gap → gap ≡ None → IsPlainScript (script_node s)
told_plain config s gap told none = (subst (Tells config (script_node s)) none told).plain (tree_is_script _)
