use Rattle.std.proofs.lemmas.List.Sorted.{Contains-permutation, IsPermutation-sym}
use Rattle.mucwathi_looks.specs.Given.{ends}
use Rattle.mucwathi_looks.proofs.given.are_signs.Goals as goal

pub returns-clause-behind : goal.returns-clause-behind
returns-clause-behind c = λ so k d within.
    let listed = rw c.deref.ensures.value at c.are_behind.ensures in
    Contains-permutation c.in_ok-places.places.items (ends c.args.tree.now) _ (IsPermutation-sym (ends c.args.tree.now) c.in_ok-places.places.items c.in_ok-places.ensures) (listed so k d within)
