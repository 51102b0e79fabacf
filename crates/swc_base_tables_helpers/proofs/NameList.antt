-- An item of a list of names, or of a table, by the list of what it is read for.
use Rattle.std.proofs.Common.{◌≡◌, ℕ, zero, suc, List, [], ◌∷◌, map, slice_index_or, refl}
use Rattle.std.specs.Borrow.{Bor}
use Rattle.swc_base_tables_helpers.specs.Table.{Row}

index-map : {X Y : Type 0} (f : X → Y) (xs : List X) (i : ℕ) (d : X) → f (slice_index_or xs i d) ≡ slice_index_or (map f xs) i (f d)
index-map f [] i d = refl
index-map f (x ∷ xs) zero d = refl
index-map f (x ∷ xs) (suc i) d = index-map f xs i d

pub text_at : (names : List (Bor (List ℕ))) (i : ℕ) (d : Bor (List ℕ)) → (slice_index_or names i d).now ≡ slice_index_or (map (λ name. name.now) names) i d.now
text_at names i d = index-map (λ name. name.now) names i d

pub name_at : (rows : List Row) (i : ℕ) (d : Row) → (slice_index_or rows i d).0 ≡ slice_index_or (map (λ row. row.0) rows) i d.0
name_at rows i d = index-map (λ row. row.0) rows i d
