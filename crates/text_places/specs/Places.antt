-- Lines and columns of a text (ECMA-262, 12.3).
use Rattle.std.specs.Prelude.{ℕ, zero, suc, ◌+◌, ◌-◌, List, Bool, not, ◌&&◌, ◌||◌, nat_eq, nat_le, if◌then◌else◌, slice_index}

-- a line ends with the byte at an index: LF, CR that no LF follows, and the last byte of LS and of PS
abbrev pub ends_line : List ℕ → ℕ → Bool
ends_line text i =
    nat_eq (slice_index text i) 10
    || ((nat_eq (slice_index text i) 13 && not (nat_eq (slice_index text (i + 1)) 10))
    || ((nat_eq (slice_index text i) 168 || nat_eq (slice_index text i) 169) && (nat_eq (slice_index text (i - 1)) 128 && nat_eq (slice_index text (i - 2)) 226)))

-- bytes behind the first of a character are 128 to 191
abbrev pub begins_character : ℕ → Bool
begins_character b = not (nat_le 128 b && nat_le b 191)

-- the line of what stands behind so many bytes, from 1
abbrev pub line : List ℕ → ℕ → ℕ
line text zero = 1
line text (suc i) = if ends_line text i then line text i + 1 else line text i

-- its column: how many characters of its line are before it, and 1
abbrev pub column : List ℕ → ℕ → ℕ
column text zero = 1
column text (suc i) = if ends_line text i then 1 else if begins_character (slice_index text i) then column text i + 1 else column text i
