-- What the maps that a map was made from have.
use Rattle.std.proofs.Common.{◌≡◌, ℕ, List, [], ◌++◌, Bor, refl}
use Rattle.swc_base_rename_naming.specs.declared.reverse_map.IdsByText.{IdsByText}
use Rattle.swc_base_rename_naming.specs.declared.reverse_map.Parents.{Parents, out-Parents, fold_out-Parents}
use Rattle.swc_base_rename_naming.specs.declared.reverse_map.Parents.TheVariants.{Chain, outs-Chain}
use Rattle.swc_base_rename_naming.specs.declared.reverse_map.Parents.TheOpen.{Parents-F}
use Rattle.swc_base_rename_naming.specs.Chained.{ids_held, parents_ids}

pub parents_nobody : (parents : Parents) (x : List ℕ) → out-Parents parents ≡ Parents-F.Nobody → parents_ids parents x ≡ []
parents_nobody parents x o = rw (fold_out-Parents, o) refl

pub parents_out : (parents : Parents) (nearest : Bor IdsByText) (outer : Bor Parents) (x : List ℕ) → out-Parents parents ≡ Parents-F.Chain nearest outer → parents_ids parents x ≡ ids_held nearest.now x ++ parents_ids outer.now x
parents_out parents nearest outer x o = rw (fold_out-Parents, o) refl

-- a chain has what its first map has, and then the others
pub parents_chain : (nearest : Bor IdsByText) (outer : Bor Parents) (x : List ℕ) → parents_ids (Chain nearest outer) x ≡ ids_held nearest.now x ++ parents_ids outer.now x
parents_chain nearest outer x = parents_out (Chain nearest outer) nearest outer x (outs-Chain nearest outer)
