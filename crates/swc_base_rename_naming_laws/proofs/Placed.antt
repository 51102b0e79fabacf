-- An id occurs in a scope where one of its positions is in the scope's stretch.
use Rattle.std.proofs.Common.{◌≡◌, ℕ, false, Option, Some, None, List, [], ◌∷◌, refl, arith}
use Rattle.std.proofs.lemmas.Bool.Decides.{nat_tests}
use Rattle.std.specs.List.{list_any, slice_get}
use Rattle.swc_base_rename_analysis.specs.declared.analysis.Analysis.{Analysis}
use Rattle.swc_base_rename_analysis.specs.declared.layout.Region.{Region}
use Rattle.swc_base_rename_analysis.specs.declared.numbers.Entry.{Entry}
use Rattle.swc_base_rename_naming.specs.Stretches.{is_within}
use Rattle.swc_base_rename_naming_laws.specs.Rules.{occurs_at, occurs_between}
use Rattle.swc_base_rename_naming_laws.specs.Stretches.{positions_in, positions_of, stretch_in, stretch_of}

none_in_none : (xs : List ℕ) → false ≡ list_any (is_within (0, 0)) xs
none_in_none [] = refl
none_in_none (x ∷ xs) = grind (arith, nat_tests, none_in_none xs)

placed_so : (r : Option Region) (e : Option Entry) → occurs_between r e ≡ list_any (is_within (stretch_of r)) (positions_of e)
placed_so (Some r) (Some e) = refl
placed_so (Some r) None = refl
placed_so None e = none_in_none (positions_of e)

pub placed_in : (a : Analysis) (s k : ℕ) → occurs_at a s k ≡ list_any (is_within (stretch_in a s)) (positions_in a k)
placed_in a s k = placed_so (slice_get a.regions.items s) (slice_get a.ids.items k)
