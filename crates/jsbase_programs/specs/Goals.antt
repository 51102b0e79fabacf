-- What a program of a goal is in the tree.
use Rattle.swc_tree_node.specs.declared.kind.Class.{Class}
use Rattle.swc_tree_node.specs.declared.kind.Class.TheVariants as class
use Rattle.jsbase_programs.specs.declared.programs.Goal.{Goal}
use Rattle.jsbase_programs.specs.declared.programs.Goal.TheVariants as goal

abbrev pub class_of : Goal → Class
class_of goal.Module = class.Module
class_of goal.Script = class.Script
