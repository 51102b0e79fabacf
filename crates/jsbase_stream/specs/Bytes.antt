-- What becomes of the bytes of a reader that is read to its end, and of a writer to which bytes are written, where those are known.
use Rattle.std.specs.Prelude.{◌<◌, ℕ, Option, List, length, take}
use Rattle.std.specs.Io.KnownBytes.{Appends, Consumes, IsAtEnd}

-- the reader gave these bytes, and has no other left
pub record IsRead (old new : Option (List ℕ)) (bytes : List ℕ) : Type 0 where
  pub given : Consumes old new bytes
  pub ended : IsAtEnd new

-- the reader gave some bytes, and has left what comes behind them
abbrev pub LosesBeginning : Option (List ℕ) → Option (List ℕ) → Type 0
LosesBeginning old new = (given : List ℕ) × Consumes old new given

-- the writer took the first n of the bytes, which are fewer than all
abbrev pub TakesBeginning : Option (List ℕ) → Option (List ℕ) → List ℕ → ℕ → Type 0
TakesBeginning old new bytes n = (n < length bytes) × Appends old new (take n bytes)
