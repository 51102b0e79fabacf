-- The words of the command line.
use Rattle.std.specs.Prelude.{ℕ, List, codes}
use Rattle.jsbase_commands.specs.declared.arguments.Command.{Command}
use Rattle.jsbase_commands.specs.declared.arguments.Command.TheVariants as command
use Rattle.jsbase_commands.specs.declared.arguments.Kind.{Kind}
use Rattle.jsbase_commands.specs.declared.arguments.Kind.TheVariants as kind

abbrev pub command_word : Command → List ℕ
command_word command.Resolve = codes "resolve"
command_word command.Hygiene = codes "hygiene"
command_word command.Unparen = codes "unparen"
command_word command.Fix = codes "fix"
command_word command.Chain = codes "chain"
command_word command.Mangle = codes "mangle"
command_word command.Judge = codes "judge"
command_word command.Covers = codes "covers"

abbrev pub kind_word : Kind → List ℕ
kind_word kind.Module = codes "module"
kind_word kind.Script = codes "script"
