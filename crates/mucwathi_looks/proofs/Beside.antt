-- Names, one beside another.
use Rattle.std.proofs.Common.{◌≡◌, ℕ, ◌+◌, ◌<◌, ◌≤◌, List, [], ◌∷◌, ◌++◌, Option, Some, map, take, length, get_or, option_map, refl, sym, ap, ◌∙◌}
use Rattle.std.proofs.lemmas.List.{length-map, map_more, take_all}
use Rattle.std.proofs.lemmas.Option.{slice_get-get_or, slice_get-map}
use Rattle.std.specs.List.{slice_get}
use Rattle.mucwathi_looks.specs.declared.spots.Spot.{Spot}
use Rattle.mucwathi_looks.specs.Spots.{names, seen}

abbrev pub Name : Type 0
Name = Option (List ℕ)

-- the name of a spot
abbrev pub named : Spot → Name
named s = (seen s).1

names_named : (ss : List Spot) → names (map seen ss) ≡ map named ss
names_named [] = refl
names_named (s ∷ ss) = ap (λ (l : List Name). named s ∷ l) (names_named ss)

pub one_more : (ss os : List Spot) (i : ℕ) (d : Spot) → i < length ss → i < length os → map named (take i ss) ≡ map named (take i os) → named (get_or ss i d) ≡ named (get_or os i d) → map named (take (i + 1) ss) ≡ map named (take (i + 1) os)
one_more ss os i d below within before same =
    map_more named ss i d below ∙ ap (λ (l : List Name). l ++ named (get_or ss i d) ∷ []) before ∙ ap (λ (n : Name). map named (take i os) ++ n ∷ []) same ∙ sym (map_more named os i d within)

pub one_there : (ss os : List Spot) (i : ℕ) (d : Spot) → i < length ss → i < length os → names (map seen ss) ≡ names (map seen os) → named (get_or ss i d) ≡ named (get_or os i d)
one_there ss os i d below within same =
    some_same (named (get_or ss i d)) (named (get_or os i d)) (sym (at ss below) ∙ ap (λ l. slice_get l i) (sym (names_named ss) ∙ same ∙ names_named os) ∙ at os within)
  where
    some_same : (n m : Name) → Some n ≡ Some m → n ≡ m
    some_same n m e = cc

    at : (ss : List Spot) → i < length ss → slice_get (map named ss) i ≡ Some (named (get_or ss i d))
    at ss below = slice_get-map named ss i ∙ ap (option_map named) (slice_get-get_or ss i d below)

pub all_named : (ss os : List Spot) (n : ℕ) → length ss ≤ n → length os ≤ n → map named (take n ss) ≡ map named (take n os) → names (map seen ss) ≡ names (map seen os)
all_named ss os n ended past e =
    names_named ss ∙ ap (map named) (sym (take_all n ss ended)) ∙ e ∙ ap (map named) (take_all n os past) ∙ sym (names_named os)

pub as_many : (ss os : List Spot) → names (map seen ss) ≡ names (map seen os) → length ss ≡ length os
as_many ss os same = sym (length-map ss named) ∙ ap length (sym (names_named ss) ∙ same ∙ names_named os) ∙ length-map os named
