-- What is told of a program that was read.
use Rattle.std.proofs.Common.{Option, Some, None}
use Rattle.swc_tree_node.specs.declared.node.Node.{Node}
use Rattle.swc_base_covers.specs.Covered.{Tells}
use Rattle.swc_base_covers.specs.declared.gap.Gap.{Gap}
use Rattle.swc_base_rename_substitution.specs.declared.config.Config.{Config}
use Rattle.mucwathi_commands.specs.Looks.{TellsCause, cause_of}

pub cause_told : (config : Config) (t : Node) (gap : Option Gap) → Tells config t gap → TellsCause config t (cause_of gap)
cause_told config t None h = h
cause_told config t (Some gap) h = h
