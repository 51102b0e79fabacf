-- What becomes of a reader and a writer where the engine's answer to what the one gives is given to the other.
use Rattle.std.specs.Prelude.{ℕ, Option, List}
use Rattle.jsbase_commands.specs.declared.arguments.Command.{Command}
use Rattle.jsbase_commands.specs.declared.arguments.Kind.{Kind}
use Rattle.jsbase_commands.specs.declared.fault.ServeFault.{ServeFault}
use Rattle.jsbase_commands.specs.Served as by
use Rattle.jsbase_engine.specs.Run.{Answers, IsFaultOf}

module _ (command : Command) (kind : Kind) (left rest : Option (List ℕ)) where
  -- the writer took the whole answer to what the reader gave to its end, and nothing else
  abbrev pub IsServed : Option (List ℕ) → Option (List ℕ) → Type 0
  IsServed old new = by.IsServed (Answers command kind) left rest old new

  -- a fault, by what became of the reader and of the writer
  abbrev pub IsServeFault : {W : Type 0} → (W → Option (List ℕ)) → W → W → ServeFault → Type 0
  IsServeFault contents old new fault = by.IsServeFault (Answers command kind) (IsFaultOf command kind) left rest contents old new fault
