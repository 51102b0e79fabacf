-- A number that ids have by their texts and contexts: the hash of Fowler, Noll and Vo over 64 bits.
use Rattle.std.specs.Prelude.{ℕ, List, [], ◌∷◌, ◌*◌, ◌%◌, bit_xor}
use Rattle.swc_tree_scoping.specs.BoundNames.{Id}

abbrev pub mixed : ℕ → ℕ → ℕ
mixed h n = (bit_xor h n * 1099511628211) % 18446744073709551616

abbrev pub mixed_all : ℕ → List ℕ → ℕ
mixed_all h [] = h
mixed_all h (n ∷ ns) = mixed_all (mixed h n) ns

abbrev pub hash_of : Id → ℕ
hash_of x = mixed_all (mixed_all 14695981039346656037 x.0) x.1
