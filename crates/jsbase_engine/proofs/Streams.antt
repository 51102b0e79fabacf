-- Where more is said of answers and of faults, more is said of a reader and a writer.
use Rattle.std.proofs.Common.{ℕ, Option, List}
use Rattle.jsbase_commands.specs.declared.fault.Fault.{Fault}
use Rattle.jsbase_commands.specs.declared.fault.ServeFault.{ServeFault}
use Rattle.jsbase_commands.specs.declared.fault.ServeFault.TheVariants.{Run, Read, Write, NoMemory}
use Rattle.jsbase_commands.specs.Served.{IsServed, IsServeFault}

module _ (A B : List ℕ → List ℕ → Type 0) (answers : (input answer : List ℕ) → A input answer → B input answer) (left rest : Option (List ℕ)) where
  pub served : (old new : Option (List ℕ)) → IsServed A left rest old new → IsServed B left rest old new
  served old new h = record { input = h.input; answer = h.answer; is_read = h.is_read; answers = answers h.input h.answer h.answers; written = h.written }

  pub faulted : (F G : List ℕ → Fault → Type 0) → ((input : List ℕ) (fault : Fault) → F input fault → G input fault) → {W : Type 0} (contents : W → Option (List ℕ)) (old new : W) (fault : ServeFault)
      → IsServeFault A F left rest contents old new fault → IsServeFault B G left rest contents old new fault
  faulted F G faults contents old new (Run fault) (h, same) = (record { input = h.input; is_read = h.is_read; is_fault = faults h.input fault h.is_fault }, same)
  faulted F G faults contents old new Read h = h
  faulted F G faults contents old new NoMemory h = h
  faulted F G faults contents old new (Write n) h = record { input = h.input; answer = h.answer; is_read = h.is_read; answers = answers h.input h.answer h.answers; written = h.written }
