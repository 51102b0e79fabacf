-- The tokens of what is said of two programs.
use Rattle.std.proofs.Common.{◌≡◌, ℕ, List, [], ◌∷◌, ◌++◌, codes, true, false, refl, append_assoc}
use Rattle.json.specs.Token as token
use Rattle.json.specs.Token.{Token}
use Rattle.jsbase_writer.specs.Tokens.{tokens_of}
use Rattle.jsbase_writer.specs.Verdicts.{difference_json, same_json}

of_same : tokens_of same_json ≡ token.begin_object ∷ token.key (codes "same") ∷ token.boolean true ∷ token.end_object ∷ []
unfolding tokens_of
of_same = refl

pub same_written : (o a b c z : List Token) → a ≡ o ++ token.begin_object ∷ [] → b ≡ a ++ token.key (codes "same") ∷ [] → c ≡ b ++ token.boolean true ∷ [] → z ≡ c ++ token.end_object ∷ [] → z ≡ o ++ tokens_of same_json
same_written o a b c z ea eb ec ez = rw (ez, ec, eb, ea, of_same) (simp append_assoc)

of_difference : (after before why : List ℕ)
    → tokens_of (difference_json after before why) ≡ token.begin_object ∷ token.key (codes "after") ∷ token.string after ∷ token.key (codes "before") ∷ token.string before ∷ token.key (codes "same") ∷ token.boolean false
    ∷ token.key (codes "why") ∷ token.string why ∷ token.end_object ∷ []
unfolding tokens_of
of_difference after before why = refl

pub difference_written : (o a b c d e f g h i z : List Token) (after before why : List ℕ) → a ≡ o ++ token.begin_object ∷ [] → b ≡ a ++ token.key (codes "after") ∷ [] → c ≡ b ++ token.string after ∷ []
    → d ≡ c ++ token.key (codes "before") ∷ [] → e ≡ d ++ token.string before ∷ [] → f ≡ e ++ token.key (codes "same") ∷ [] → g ≡ f ++ token.boolean false ∷ []
    → h ≡ g ++ token.key (codes "why") ∷ [] → i ≡ h ++ token.string why ∷ [] → z ≡ i ++ token.end_object ∷ [] → z ≡ o ++ tokens_of (difference_json after before why)
difference_written o a b c d e f g h i z after before why ea eb ec ed ee ef eg eh ei ez = rw (ez, ei, eh, eg, ef, ee, ed, ec, eb, ea, of_difference after before why) (simp append_assoc)
