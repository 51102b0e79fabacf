-- Types stand in the bodies of a set of helpers where one of the table's helpers brings them.
use Rattle.std.proofs.Common.{◌≡◌, ℕ, Bool, true, false, ◌&&◌, ◌||◌, List, [], ◌∷◌, filter, map, refl, ap, ◌∙◌, if◌then◌else◌}
use Rattle.std.specs.List.{list_any}
use Rattle.swc_tree_spaces.specs.Spaces.{has_types}
use Rattle.swc_base_tables_helpers.specs.Table.{numbers_from, table}
use Rattle.swc_base_tables_program.specs.Given.{bodies_in, body_or_none, brings_types, have_types, is_in}
use Rattle.swc_base_tables_program.specs.declared.bodies.Bodies.{Bodies}

any_chosen : {X Y : Type 0} (p : X → Bool) (f : X → Y) (q : Y → Bool) (xs : List X) → list_any q (map f (filter p xs)) ≡ list_any (λ x. p x && q (f x)) xs
any_chosen p f q [] = refl
any_chosen {X} p f q (x ∷ xs) = at (p x) ∙ ap (λ b. (p x && q (f x)) || b) (any_chosen p f q xs)
  where
    at : (b : Bool) → list_any q (map f (if b then x ∷ filter p xs else filter p xs)) ≡ ((b && q (f x)) || list_any q (map f (filter p xs)))
    at true = refl
    at false = refl

pub any_brings : (bodies : Bodies) (set : ℕ) → have_types bodies set ≡ list_any (brings_types bodies set) (numbers_from 1 table)
any_brings bodies set = any_chosen (is_in set) (body_or_none bodies) (list_any has_types) (numbers_from 1 table)
