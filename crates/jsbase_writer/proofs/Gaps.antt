-- The tokens of whether a promise covers a program.
use Rattle.std.proofs.Common.{◌≡◌, ℕ, List, [], ◌∷◌, ◌++◌, codes, true, false, refl, append_assoc}
use Rattle.json.specs.Token as token
use Rattle.json.specs.Token.{Token}
use Rattle.jsbase_writer.specs.Gaps.{covered_json, gap_json, placed_gap_json}
use Rattle.jsbase_writer.specs.Tokens.{tokens_of}

of_covered : tokens_of covered_json ≡ token.begin_object ∷ token.key (codes "covered") ∷ token.boolean true ∷ token.end_object ∷ []
unfolding tokens_of
of_covered = refl

pub covered_written : (o a b c z : List Token) → a ≡ o ++ token.begin_object ∷ [] → b ≡ a ++ token.key (codes "covered") ∷ [] → c ≡ b ++ token.boolean true ∷ [] → z ≡ c ++ token.end_object ∷ [] → z ≡ o ++ tokens_of covered_json
covered_written o a b c z ea eb ec ez = rw (ez, ec, eb, ea, of_covered) (simp append_assoc)

of_gap : (word : List ℕ) → tokens_of (gap_json word) ≡ token.begin_object ∷ token.key (codes "covered") ∷ token.boolean false ∷ token.key (codes "gap") ∷ token.string word ∷ token.end_object ∷ []
unfolding tokens_of
of_gap word = refl

pub gap_written : (o a b c d e z : List Token) (word : List ℕ) → a ≡ o ++ token.begin_object ∷ [] → b ≡ a ++ token.key (codes "covered") ∷ [] → c ≡ b ++ token.boolean false ∷ []
    → d ≡ c ++ token.key (codes "gap") ∷ [] → e ≡ d ++ token.string word ∷ [] → z ≡ e ++ token.end_object ∷ [] → z ≡ o ++ tokens_of (gap_json word)
gap_written o a b c d e z word ea eb ec ed ee ez = rw (ez, ee, ed, ec, eb, ea, of_gap word) (simp append_assoc)

of_placed_gap : (word path : List ℕ)
    → tokens_of (placed_gap_json word path) ≡ token.begin_object ∷ token.key (codes "covered") ∷ token.boolean false ∷ token.key (codes "gap") ∷ token.string word
    ∷ token.key (codes "path") ∷ token.string path ∷ token.end_object ∷ []
unfolding tokens_of
of_placed_gap word path = refl

pub placed_gap_written : (o a b c d e f g z : List Token) (word path : List ℕ) → a ≡ o ++ token.begin_object ∷ [] → b ≡ a ++ token.key (codes "covered") ∷ [] → c ≡ b ++ token.boolean false ∷ []
    → d ≡ c ++ token.key (codes "gap") ∷ [] → e ≡ d ++ token.string word ∷ [] → f ≡ e ++ token.key (codes "path") ∷ [] → g ≡ f ++ token.string path ∷ []
    → z ≡ g ++ token.end_object ∷ [] → z ≡ o ++ tokens_of (placed_gap_json word path)
placed_gap_written o a b c d e f g z word path ea eb ec ed ee ef eg ez = rw (ez, eg, ef, ee, ed, ec, eb, ea, of_placed_gap word path) (simp append_assoc)
