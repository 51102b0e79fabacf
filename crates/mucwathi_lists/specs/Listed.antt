-- Lists of names.
use Rattle.std.specs.Prelude.{ℕ, List, [], ◌∷◌, ◌++◌, length, min, codes, decimal, string_bytes}
use Rattle.text_places.specs.Places.{line, column}
use Rattle.mucwathi_lists.specs.declared.changes.Change.{Change}
use Rattle.mucwathi_lists.specs.declared.lists.FreeName.{FreeName}

-- a place as it is written: `2:7`
abbrev pub place_text : List ℕ → ℕ → List ℕ
place_text text at = decimal (line text (min at (length text))) ++ 58 ∷ decimal (column text (min at (length text)))

-- `2:7 name`, with a line end
abbrev pub name_line : List ℕ → FreeName → List ℕ
name_line text n = place_text text n.at ++ 32 ∷ string_bytes n.text ++ 10 ∷ []

-- names, each in its line, in order
abbrev pub names_listed : List ℕ → List FreeName → List ℕ
names_listed text [] = []
names_listed text (n ∷ ns) = name_line text n ++ names_listed text ns

-- `2:7 old new`, behind what each line begins with
abbrev pub change_line : List ℕ → List ℕ → Change → List ℕ
change_line prefix text c = prefix ++ place_text text c.at ++ 32 ∷ string_bytes c.old ++ 32 ∷ string_bytes c.new ++ 10 ∷ []

-- names that are given anew, each in its line, in order
abbrev pub changes_listed : List ℕ → List ℕ → List Change → List ℕ
changes_listed prefix text [] = []
changes_listed prefix text (c ∷ cs) = change_line prefix text c ++ changes_listed prefix text cs

-- `a.js:2:7: this comment is not written`, with a line end
abbrev pub lost_line : List ℕ → List ℕ → ℕ → List ℕ
lost_line name text at = name ++ 58 ∷ place_text text at ++ codes ": this comment is not written" ++ 10 ∷ []

-- comments that are not written, each in its line, in order
abbrev pub lost_listed : List ℕ → List ℕ → List ℕ → List ℕ
lost_listed name text [] = []
lost_listed name text (at ∷ more) = lost_line name text at ++ lost_listed name text more
