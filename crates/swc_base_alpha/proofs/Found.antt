-- What is found in a list, and in the list of what stands for it.
use Rattle.std.proofs.Common.{◌≡◌, ℕ, Bool, true, false, if◌then◌else◌, Option, Some, List, [], ◌∷◌, map, option_map, find, refl, ap, ◌∙◌}
use Rattle.swc_tree_walk.specs.Sites.{site_of}
use Rattle.swc_tree_walk.specs.declared.identifiers.Site.{Site}
use Rattle.swc_base_alpha.specs.Shown.{binds, bound_at, span_found}

found_mapped : {X Y : Type 0} (p : Y → Bool) (f : X → Y) (xs : List X) → option_map f (find (λ x. p (f x)) xs) ≡ find p (map f xs)
found_mapped p f [] = refl
found_mapped p f (x ∷ xs) = by_first (p (f x)) (found_mapped p f xs)
  where
    by_first : (b : Bool) → option_map f (find (λ x. p (f x)) xs) ≡ find p (map f xs) → option_map f (if b then Some x else find (λ x. p (f x)) xs) ≡ (if b then Some (f x) else find p (map f xs))
    by_first true h = refl
    by_first false h = h

pub bound_found : (text : List ℕ) (sites : List Site) (found : Option Site) → found ≡ find (λ s. binds text (site_of s)) sites → span_found (option_map site_of found) ≡ bound_at text (map site_of sites)
bound_found text sites found is = ap span_found (ap (option_map site_of) is ∙ found_mapped (binds text) site_of sites)
