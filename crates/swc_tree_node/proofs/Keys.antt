-- Where a key stands among fields that are read through their rows.
use Rattle.std.proofs.Common.{◌≡◌, Bool, List, [], ◌∷◌, map, length, refl, ap, suc, position}
use Rattle.std.specs.List.{position_or_len}

pub places_map : {X Y : Type 0} (g : X → Y) (p : Y → Bool) (xs : List X) → position_or_len p (map g xs) ≡ position_or_len (λ x. p (g x)) xs
places_map g p [] = refl
places_map g p (x ∷ xs) = simp (places_map g p xs)

lengths_map : {X Y : Type 0} (g : X → Y) (xs : List X) → length (map g xs) ≡ length xs
lengths_map g [] = refl
lengths_map g (x ∷ xs) = ap suc (lengths_map g xs)

pub position_map : {X Y : Type 0} (g : X → Y) (p : Y → Bool) (xs : List X) → position p (map g xs) ≡ position (λ x. p (g x)) xs
position_map g p xs = simp (places_map g p xs, lengths_map g xs) refl
