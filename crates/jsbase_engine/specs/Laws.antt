-- What the laws of the passes say of what a command makes.
use Rattle.std.specs.Prelude.{ℕ, List}
use Rattle.jsbase_commands.specs.declared.arguments.Command.{Command}
use Rattle.jsbase_commands.specs.declared.arguments.Kind.{Kind}
use Rattle.jsbase_commands.specs.declared.fault.Fault.{Fault}
use Rattle.jsbase_commands.specs.Run.{Makes, IsRunFault}
use Rattle.jsbase_engine.specs.Run.{Answers, IsFaultOf}

-- what a command makes of an input has all that is promised of it
abbrev pub PromisesAreKept : Type 0
PromisesAreKept = (c : Command) (k : Kind) (input output : List ℕ) → Makes c k input output → Answers c k input output

-- and where it is refused, targets are spared
abbrev pub TargetsAreSpared : Type 0
TargetsAreSpared = (c : Command) (k : Kind) (input : List ℕ) (fault : Fault) → IsRunFault c k input fault → IsFaultOf c k input fault
