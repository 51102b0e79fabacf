-- The JSON of whether a promise covers a program.
use Rattle.std.specs.Prelude.{ℕ, List, [], ◌∷◌, ◌++◌, codes, true, false}
use Rattle.json.specs.Json.{Json, boolean, string, object, no_members, member}
use Rattle.jsbase_writer.specs.Envelopes.{text_of}

-- it does
abbrev pub covered_json : Json
covered_json = object (member (codes "covered") (boolean true) no_members)

-- it does not: a word for what fails
abbrev pub gap_json : List ℕ → Json
gap_json word = object (member (codes "covered") (boolean false) (member (codes "gap") (string word) no_members))

-- ... and the path to where it shows
abbrev pub placed_gap_json : List ℕ → List ℕ → Json
placed_gap_json word path =
    object (member (codes "covered") (boolean false)
    (member (codes "gap") (string word)
    (member (codes "path") (string path) no_members)))

-- one line
abbrev pub covered_text : List ℕ
covered_text = text_of covered_json ++ 10 ∷ []

abbrev pub gap_text : List ℕ → List ℕ
gap_text word = text_of (gap_json word) ++ 10 ∷ []

abbrev pub placed_gap_text : List ℕ → List ℕ → List ℕ
placed_gap_text word path = text_of (placed_gap_json word path) ++ 10 ∷ []
