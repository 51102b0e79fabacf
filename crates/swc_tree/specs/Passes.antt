-- What a pass is run on, and what every pass leaves.
use Rattle.std.specs.Prelude.{◌≡◌, ◌⊎◌, List, [], ◌++◌, None}
use Rattle.swc_tree_marks.specs.Globals.{Table}
use Rattle.swc_tree_node.specs.declared.kind.Kind.TheVariants as kind
use Rattle.swc_tree_node.specs.declared.node.Node.{Node, Tree}
use Rattle.swc_tree_modules.specs.declared.module_.Module.{Module}
use Rattle.swc_tree_modules.specs.declared.script.Script.{Script}

-- the program as a refused pass leaves it: of the same span, with no item and no `#!` line
pub record IsEmptied (before after : Module) : Type 0 where
  pub span : after.span ≡ before.span
  pub no_body : after.body ≡ []
  pub no_shebang : after.shebang ≡ None

pub record IsEmptiedScript (before after : Script) : Type 0 where
  pub span : after.span ≡ before.span
  pub no_body : after.body ≡ []
  pub no_shebang : after.shebang ≡ None

-- the table has all that it had, and perhaps more after it
abbrev pub IsExtended : Table → Table → Type 0
IsExtended before after = (more : Table) × (after ≡ before ++ more)

-- the tree of a module or of a script
abbrev pub IsProgram : Node → Type 0
IsProgram t = (fields : List Node) × ((t ≡ Tree kind.Module fields) ⊎ (t ≡ Tree kind.Script fields))
