-- Texts of ids, where they were by number.
use Rattle.std.specs.Prelude.{◌≡◌, ℕ, zero, suc, ◌<◌, nat_eq, Bool, true, false, ◌&&◌, ◌||◌, Option, Some, None, is_some, List, if◌then◌else◌}
use Rattle.std.specs.BTreeMap.{BTreeMap}
use Rattle.std.specs.Cmp.Lexicographic.{pointwise}
use Rattle.swc_base_rename_substitution.specs.Names.{Id, found_in, same_id}

-- no two numbers are of one id
abbrev pub AreApart : (ℕ → Option Id) → Type 0
AreApart id_of = (j k : ℕ) (x y : Id) → (j ≡ k → ⊥) → id_of j ≡ Some x → id_of k ≡ Some y → same_id x y ≡ false

-- the map has for the id of a number below the count what the number has, and nothing for other ids
pub record AreTexts (id_of : ℕ → Option Id) (count : ℕ) (texts : ℕ → Option (List ℕ)) (new_texts : Id → Option (List ℕ)) : Type 0 where
  pub each : (k : ℕ) (x : Id) → k < count → id_of k ≡ Some x → new_texts x ≡ texts k
  pub no_other : (x : Id) → ((k : ℕ) (y : Id) → k < count → id_of k ≡ Some y → same_id y x ≡ false) → new_texts x ≡ None

-- the text of one number's id, and of other ids what they had
abbrev pub with_text : Option Id → Option (List ℕ) → Option (List ℕ) → Id → Option (List ℕ)
with_text (Some y) (Some text) before x = if same_id y x then Some text else before
with_text _ _ before x = before

-- the texts of the ids of the numbers below a count
abbrev pub text_below : (ℕ → Option Id) → (ℕ → Option (List ℕ)) → ℕ → Id → Option (List ℕ)
text_below id_of texts zero x = None
text_below id_of texts (suc k) x = with_text (id_of k) (texts k) (text_below id_of texts k x) x

-- whether one of them has a text
abbrev pub any_below : (ℕ → Option Id) → (ℕ → Option (List ℕ)) → ℕ → Bool
any_below id_of texts zero = false
any_below id_of texts (suc k) = any_below id_of texts k || is_some (id_of k) && is_some (texts k)

-- a text counts where it is another than the id's own
abbrev pub if_other : Id → Option (List ℕ) → Option (List ℕ)
if_other x None = None
if_other x (Some text) = if pointwise nat_eq text x.0 then None else Some text

-- the table has the texts that are other than the ids' own; there is none where no id has a text
abbrev pub AreChanged : (ℕ → Option Id) → ℕ → (ℕ → Option (List ℕ)) → Option (BTreeMap Id (List ℕ)) → Type 0
AreChanged id_of count texts None = any_below id_of texts count ≡ false
AreChanged id_of count texts (Some m) = (any_below id_of texts count ≡ true) × ((x : Id) → found_in m x ≡ if_other x (text_below id_of texts count x))
