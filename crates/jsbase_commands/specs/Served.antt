-- What becomes of a reader and a writer where what the one gives is answered to the other.
use Rattle.std.specs.Prelude.{◌≡◌, ℕ, Option, List}
use Rattle.std.specs.Io.KnownBytes.{Appends}
use Rattle.jsbase_stream.specs.Bytes.{IsRead, LosesBeginning, TakesBeginning}
use Rattle.jsbase_commands.specs.declared.fault.Fault.{Fault}
use Rattle.jsbase_commands.specs.declared.fault.ServeFault.{ServeFault}
use Rattle.jsbase_commands.specs.declared.fault.ServeFault.TheVariants.{Run, Read, Write, NoMemory}

module _ (Answers : List ℕ → List ℕ → Type 0) (left rest : Option (List ℕ)) where
  -- the reader gave an input to its end, and the writer took the whole answer to it, and nothing else
  pub record IsServed (old new : Option (List ℕ)) : Type 0 where
    pub input : List ℕ
    pub answer : List ℕ
    pub is_read : IsRead left rest input
    pub answers : Answers input answer
    pub written : Appends old new answer

  -- of the answer it took the first n bytes, which are not all, and nothing else
  pub record IsCutOff (old new : Option (List ℕ)) (n : ℕ) : Type 0 where
    pub input : List ℕ
    pub answer : List ℕ
    pub is_read : IsRead left rest input
    pub answers : Answers input answer
    pub written : TakesBeginning old new answer n

module _ (IsFaultOf : List ℕ → Fault → Type 0) (left rest : Option (List ℕ)) where
  -- the reader gave an input to its end, to which there is no answer
  pub record IsUnanswered (fault : Fault) : Type 0 where
    pub input : List ℕ
    pub is_read : IsRead left rest input
    pub is_fault : IsFaultOf input fault

module _ (Answers : List ℕ → List ℕ → Type 0) (IsFaultOf : List ℕ → Fault → Type 0) (left rest : Option (List ℕ)) where
  -- a fault, by what became of the reader and of the writer: unless that failed, it is as it was
  abbrev pub IsServeFault : {W : Type 0} → (W → Option (List ℕ)) → W → W → ServeFault → Type 0
  IsServeFault contents old new (Run fault) = IsUnanswered IsFaultOf left rest fault × (new ≡ old)
  IsServeFault contents old new Read = LosesBeginning left rest × (new ≡ old)
  IsServeFault contents old new NoMemory = LosesBeginning left rest × (new ≡ old)
  IsServeFault contents old new (Write n) = IsCutOff Answers left rest (contents old) (contents new) n
