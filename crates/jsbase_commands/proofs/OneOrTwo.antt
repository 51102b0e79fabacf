-- What a command makes, by whether it is about one program or about two versions of one.
use Rattle.std.proofs.Common.{◌≡◌, ℕ, List, true, false}
use Rattle.jsbase_commands.specs.declared.arguments.Command.{Command}
use Rattle.jsbase_commands.specs.declared.arguments.Command.TheVariants as command
use Rattle.jsbase_commands.specs.declared.arguments.Kind.{Kind}
use Rattle.jsbase_commands.specs.declared.fault.Fault.{Fault}
use Rattle.jsbase_commands.specs.Judge.{IsToldOf, IsUntoldOf}
use Rattle.jsbase_commands.specs.Run.{IsFaultOfOne, IsRunFault, Makes, MakesOfOne, class_of, takes_one}

pub made : (c : Command) (k : Kind) (input output : List ℕ) → takes_one c ≡ true → MakesOfOne c k input output → Makes c k input output
made command.Resolve k input output one h = h
made command.Hygiene k input output one h = h
made command.Unparen k input output one h = h
made command.Fix k input output one h = h
made command.Chain k input output one h = h
made command.Mangle k input output one h = h
made command.Covers k input output one h = h
made command.Judge k input output one h = absurd (cc)

pub refused : (c : Command) (k : Kind) (input : List ℕ) → takes_one c ≡ true → (fault : Fault) → IsFaultOfOne c k input fault → IsRunFault c k input fault
refused command.Resolve k input one fault h = h
refused command.Hygiene k input one fault h = h
refused command.Unparen k input one fault h = h
refused command.Fix k input one fault h = h
refused command.Chain k input one fault h = h
refused command.Mangle k input one fault h = h
refused command.Covers k input one fault h = h
refused command.Judge k input one fault h = absurd (cc)

pub told : (c : Command) (k : Kind) (input output : List ℕ) → takes_one c ≡ false → IsToldOf (class_of k) input output → Makes c k input output
told command.Judge k input output two h = h
told command.Resolve k input output two h = absurd (cc)
told command.Hygiene k input output two h = absurd (cc)
told command.Unparen k input output two h = absurd (cc)
told command.Fix k input output two h = absurd (cc)
told command.Chain k input output two h = absurd (cc)
told command.Mangle k input output two h = absurd (cc)
told command.Covers k input output two h = absurd (cc)

pub untold : (c : Command) (k : Kind) (input : List ℕ) → takes_one c ≡ false → (fault : Fault) → IsUntoldOf (class_of k) input fault → IsRunFault c k input fault
untold command.Judge k input two fault h = h
untold command.Resolve k input two fault h = absurd (cc)
untold command.Hygiene k input two fault h = absurd (cc)
untold command.Unparen k input two fault h = absurd (cc)
untold command.Fix k input two fault h = absurd (cc)
untold command.Chain k input two fault h = absurd (cc)
untold command.Mangle k input two fault h = absurd (cc)
untold command.Covers k input two fault h = absurd (cc)
