-- Lines and columns behind one more byte.
use Rattle.std.specs.Prelude.{slice_index, if◌then◌else◌}
use Rattle.std.proofs.Common.{◌≡◌, ℕ, ◌+◌, List, true, false, refl, ap, ◌∙◌, add-one}
use Rattle.text_places.specs.Places.{begins_character, column, ends_line, line}

pub line_ended : (text : List ℕ) (i : ℕ) → ends_line text i ≡ true → line text (i + 1) ≡ line text i + 1
line_ended text i h = rw add-one (ap (λ b. if b then line text i + 1 else line text i) h)

pub line_goes_on : (text : List ℕ) (i : ℕ) → ends_line text i ≡ false → line text (i + 1) ≡ line text i
line_goes_on text i h = rw add-one (ap (λ b. if b then line text i + 1 else line text i) h)

pub column_ended : (text : List ℕ) (i : ℕ) → ends_line text i ≡ true → column text (i + 1) ≡ 1
column_ended text i h = rw add-one (ap (λ b. if b then 1 else if begins_character (slice_index text i) then column text i + 1 else column text i) h)

pub column_begins : (text : List ℕ) (i : ℕ) → ends_line text i ≡ false → begins_character (slice_index text i) ≡ true → column text (i + 1) ≡ column text i + 1
column_begins text i h g =
    rw add-one (ap (λ b. if b then 1 else if begins_character (slice_index text i) then column text i + 1 else column text i) h
    ∙ ap (λ b. if b then column text i + 1 else column text i) g)

pub column_goes_on : (text : List ℕ) (i : ℕ) → ends_line text i ≡ false → begins_character (slice_index text i) ≡ false → column text (i + 1) ≡ column text i
column_goes_on text i h g =
    rw add-one (ap (λ b. if b then 1 else if begins_character (slice_index text i) then column text i + 1 else column text i) h
    ∙ ap (λ b. if b then column text i + 1 else column text i) g)
