-- What the hashes of a record's contents begin with.
use Rattle.std.specs.Prelude.{ℕ, ◌+◌, ◌*◌, ◌^◌, List, ◌++◌}
use Rattle.std.specs.List.{fold, flat_map}
use Rattle.std.specs.Hash as fed
use Rattle.std.specs.Hash.DefaultHasher as sip
use Rattle.std.specs.declared.hash.DefaultHasher.{DefaultHasher}
use Rattle.swc_tree_marks.specs.declared.span.Span.{Span as Range}
use Rattle.swc_tree_grammar.specs.declared.pairs.Pair.{Pair}

-- a span as one word: its first byte, and above it the one behind its last
abbrev pub word_of : Range → ℕ
word_of s = s.lo + s.hi * 2 ^ 32

-- a hasher that was fed a number and the contents of the pairs
abbrev pub hashed : ℕ → List Pair → DefaultHasher
hashed b ps = fold sip.write sip.initial (fed.u64 b ++ flat_map (λ p. fed.u64 (word_of p.content)) ps)

-- a digest of the contents of all pairs
abbrev pub digest : ℕ → List Pair → ℕ
digest b ps = sip.finish (hashed b ps)

-- a hasher that was fed two numbers
abbrev pub begun_with : ℕ → ℕ → DefaultHasher
begun_with a b = fold sip.write sip.initial (fed.u64 a ++ fed.u64 b)
