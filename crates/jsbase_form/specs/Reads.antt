-- What reading answers: a value, or the path to the first fault.
use Rattle.std.specs.Prelude.{ℕ, List, [], ◌∷◌, ◌++◌, codes, decimal, Option, Some, None, Result, Ok, Err}

-- a step from a JSON value into a part of it
pub data Part : Type 0 where
  key : List ℕ → Part
  index : ℕ → Part

-- from the outside in
abbrev pub Path : Type 0
Path = List Part

abbrev pub Read : Type 0 → Type 0
Read A = Result A Path

infixl 10 ◌>>=◌
-- the next thing to read, where nothing was at fault before it
abbrev pub ◌>>=◌ : {A B : Type 0} → Read A → (A → Read B) → Read B
(Ok x) >>= f = f x
(Err path) >>= f = Err path

-- what is read of a part, as seen from the whole
abbrev pub at : {A : Type 0} → Part → Read A → Read A
at part (Ok x) = Ok x
at part (Err path) = Err (part ∷ path)

-- nothing found is a fault right here
abbrev pub found : {A : Type 0} → Option A → Read A
found (Some x) = Ok x
found None = Err []

abbrev pub part_text : Part → List ℕ
part_text (key k) = codes "." ++ k
part_text (index i) = codes "[" ++ decimal i ++ codes "]"

abbrev pub parts_text : Path → List ℕ
parts_text [] = []
parts_text (part ∷ path) = part_text part ++ parts_text path

-- a path as it is shown: `$.body[0].span`
abbrev pub path_text : Path → List ℕ
path_text path = codes "$" ++ parts_text path
