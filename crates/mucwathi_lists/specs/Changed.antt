-- Names that are given anew.
use Rattle.std.specs.Borrow.{Bor}
use Rattle.std.specs.BTreeMap.{BTreeMap, get}
use Rattle.std.specs.Cmp.Lexicographic.{pointwise}
use Rattle.std.specs.Option.{option_map}
use Rattle.std.specs.Ordering.{nat_cmp}
use Rattle.std.specs.Prelude.{◌≡◌, ℕ, ◌-◌, nat_eq, List, [], ◌∷◌, ◌++◌, Option, Some, None, if◌then◌else◌, string_bytes}
use Rattle.mucwathi_lists.specs.declared.changes.Change.{Change}
use Rattle.mucwathi_lists.specs.declared.changes.Occurrence.{Occurrence}

-- where an identifier stands, and its text
abbrev pub Placed : Type 0
Placed = ℕ × List ℕ

abbrev pub seen : Occurrence → Placed
seen o = (o.lo, o.text.now)

-- a name that is given anew: how many bytes are before it, its old text and its new one
abbrev pub Renamed : Type 0
Renamed = ℕ × List ℕ × List ℕ

abbrev pub told : Change → Renamed
told c = (c.at, string_bytes c.old, string_bytes c.new)

-- the first that is there
abbrev pub or_else : Option (List ℕ) → Option (List ℕ) → Option (List ℕ)
or_else (Some t) other = Some t
or_else None other = other

-- the text that stands at a place: that of the last identifier there
abbrev pub text_at : List Placed → ℕ → Option (List ℕ)
text_at [] place = None
text_at (s ∷ ss) place = or_else (text_at ss place) (if nat_eq s.0 place then Some s.1 else None)

-- an identifier is told if another text stood at its place
abbrev pub changed_from : Option (List ℕ) → Placed → List Renamed
changed_from None s = []
changed_from (Some old) s = if pointwise nat_eq old s.1 then [] else ((s.0 - 1, old, s.1) ∷ [])

abbrev pub changed : List Placed → Placed → List Renamed
changed olds s = changed_from (text_at olds s.0) s

-- each that is, in order
abbrev pub all_changed : List Placed → List Placed → List Renamed
all_changed olds [] = []
all_changed olds (s ∷ ss) = changed olds s ++ all_changed olds ss

-- texts as the code keeps them, by place
abbrev pub HasTexts : List Placed → BTreeMap ℕ (Bor (List ℕ)) → Type 0
HasTexts olds texts = (place : ℕ) → option_map (λ t. t.now) (get nat_cmp texts place) ≡ text_at olds place
