-- How a table of marks is read: all its pairs, and then whether they make a table.
use Rattle.std.specs.Prelude.{ℕ, suc, [], ◌∷◌, ◌++◌, Bool, ◌&&◌, ◌||◌, ◌==◌, nat_eq, nat_lt, if◌then◌else◌, Ok, Err}
use Rattle.std.specs.List.{list_any}
use Rattle.json.specs.Json.{Json, Items, no_items, item}
use Rattle.json.specs.Find.{as_array}
use Rattle.swc_tree_marks.specs.Globals.{Table, numbers, greatest}
use Rattle.jsbase_form.specs.Reads.{Read, ◌>>=◌, at, found, index}
use Rattle.jsbase_form.specs.Leaves.{number_at}

-- a mark's number and its parent's
abbrev pub pair_of : Items → Read (ℕ × ℕ)
pair_of (item mark (item parent no_items)) = at (index 0) (number_at mark) >>= (λ m. at (index 1) (number_at parent) >>= (λ p. Ok (m, p)))
pair_of _ = Err []

unfoldable pub pair_at : Json → Read (ℕ × ℕ)
pair_at d = found (as_array d) >>= pair_of

-- the pairs of the items, the first of which stands at index i
abbrev pub pairs_of : ℕ → Items → Read Table
pairs_of i no_items = Ok []
pairs_of i (item d ds) = at (index i) (pair_at d) >>= (λ row. pairs_of (suc i) ds >>= (λ rows. Ok (row ∷ rows)))

unfoldable pub pairs_at : Json → Read Table
pairs_at d = found (as_array d) >>= pairs_of 0

-- the pair may stand after the others: its number is above theirs, and its parent is the root or one of them
abbrev pub may_follow : Table → ℕ × ℕ → Bool
may_follow before row = nat_lt (greatest before) row.0 && (row.1 == 0 || list_any (nat_eq row.1) (numbers before))

-- the whole table, if each of the rows from index i on may follow those before it
abbrev pub checked : Table → ℕ → Table → Read Table
checked before i [] = Ok before
checked before i (row ∷ rest) = if may_follow before row then checked (before ++ row ∷ []) (suc i) rest else Err (index i ∷ [])

unfoldable pub table_at : Json → Read Table
table_at d = pairs_at d >>= checked [] 0
