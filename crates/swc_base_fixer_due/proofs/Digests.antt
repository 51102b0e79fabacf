-- What a digest has taken in once it has one pair more.
use Rattle.std.proofs.Common.{◌≡◌, ℕ, ◌+◌, ◌<◌, List, [], ◌∷◌, ◌++◌, length, take, get_or, sym, subst, add-one}
use Rattle.std.specs.List.{fold, flat_map}
use Rattle.std.specs.Hash as fed
use Rattle.std.specs.Hash.{fed_then}
use Rattle.std.specs.Hash.DefaultHasher as sip
use Rattle.std.specs.declared.hash.DefaultHasher.{DefaultHasher}
use Rattle.std.proofs.Math.Seq.{take-suc}
use Rattle.std.proofs.lemmas.Grind.{flat_map-append}
use Rattle.swc_tree_grammar.specs.declared.pairs.Pair.{Pair}
use Rattle.swc_base_fixer_due.specs.Keyed.{hashed, word_of}

abbrev fed_in : Pair → List (List ℕ)
fed_in p = fed.u64 (word_of p.content)

pub one_hashed : (b : ℕ) (ps : List Pair) (o : Pair) (i : ℕ) (h n : DefaultHasher) → i < length ps → h ≡ hashed b (take i ps)
    → n ≡ fold sip.write h (fed.u64 (word_of (get_or ps i o).content)) → n ≡ hashed b (take (i + 1) ps)
one_hashed b ps o i h n lt before one = (
    let last : take (i + 1) ps ≡ take i ps ++ get_or ps i o ∷ [] = rw add-one (take-suc ps i o lt) in
    subst (λ xs. n ≡ hashed b xs) (sym last) (subst (λ us. n ≡ fold sip.write sip.initial (fed.u64 b ++ us)) (sym (flat_map-append fed_in (take i ps) (get_or ps i o ∷ [])))
    (fed_then sip.write sip.initial h n (fed.u64 b ++ flat_map fed_in (take i ps)) (fed_in (get_or ps i o)) before one)))
