use Rattle.std.proofs.Common.{map, rules, subst}
use Rattle.std.proofs.lemmas.List.Sorted.{IsNonDecreasingBy-from_sort_by_key, IsPermutation-map}
use Rattle.std.specs.List.Sorted.{IsPermutation}
use Rattle.mucwathi_signs.specs.declared.sign.Sign.{Sign}
use Rattle.mucwathi_looks.specs.Signs.{told}
use Rattle.mucwathi_looks.proofs.signs.signs_at.Goals as goal

pub returns : goal.returns
returns c = record {
  are = subst (λ l. IsPermutation l (map told c.sort_by_key.new.self.items)) c.in_ok-signs.ensures (IsPermutation-map told c.in_ok-signs.signs.items c.sort_by_key.new.self.items c.in_ok-sort_by_key.ensures.permutation);
  rise = IsNonDecreasingBy-from_sort_by_key (λ (s : Sign). s.at) c.sort_by_key.new.self.items c.in_ok-sort_by_key.ensures.sorted (λ a r q k. search rules);
}
