-- The JSON of what is said of two programs.
use Rattle.std.specs.Prelude.{ℕ, List, [], ◌∷◌, ◌++◌, codes, true, false}
use Rattle.json.specs.Json.{Json, boolean, string, object, no_members, member}
use Rattle.jsbase_writer.specs.Envelopes.{text_of}

-- they are the same
abbrev pub same_json : Json
same_json = object (member (codes "same") (boolean true) no_members)

-- they differ: the path in each, and a word for why
abbrev pub difference_json : List ℕ → List ℕ → List ℕ → Json
difference_json after before why =
    object (member (codes "after") (string after)
    (member (codes "before") (string before)
    (member (codes "same") (boolean false)
    (member (codes "why") (string why) no_members))))

-- one line
abbrev pub same_text : List ℕ
same_text = text_of same_json ++ 10 ∷ []

abbrev pub difference_text : List ℕ → List ℕ → List ℕ → List ℕ
difference_text after before why = text_of (difference_json after before why) ++ 10 ∷ []
