-- What is among the free names is free.
use Rattle.std.proofs.Common.{◌≡◌, ℕ, Bool, true, false, IsTrue, ◌==◌, ◌⊎◌, inl, inr, List, [], ◌∷◌, Contains, map, ◌↔◌, refl, sym, ap, ◌∙◌, subst, cond, eqb-true, eq-eqb}
use Rattle.std.specs.List.{filter}
use Rattle.std.specs.Str.{bytes_eq}
use Rattle.std.proofs.lemmas.Slice.Eq.{bytes_eq-Decides}
use Rattle.swc_tree_marks.specs.declared.ident.Ident.{Ident}
use Rattle.swc_tree_node.specs.declared.node.Node.{Node}
use Rattle.swc_tree_node.proofs.Fit.{and_both, both}
use Rattle.swc_tree_scoping.specs.declared.places.Standing.{Standing}
use Rattle.swc_tree_scoping.specs.Places.{program_place}
use Rattle.swc_tree_scoping.specs.Scopes.{is_reference}
use Rattle.swc_tree_renaming.proofs.Core.{cases_in, tail_in}
use Rattle.swc_tree_walk.specs.Sites.{StandsIn, sites}
use Rattle.swc_tree_walk_laws.proofs.Filtered.{filtered_sites_stand}
use Rattle.swc_tree_walk_laws.proofs.Lists.{here_in, mapped_from, mapped_to}
use Rattle.example_free_names.specs.Free.{IsFree, free_names, free_texts, is_free, is_only, once, without}

abbrev Site : Type 0
Site = Standing × Ident

within : (y : List ℕ) (l : List (List ℕ)) (x : List ℕ) → Contains (without y l) x → Contains l x
within y [] x h = h
within y (z ∷ l) x h = at (bytes_eq y z) (λ g. within y l x g) h
  where
    by : (Contains (without y l) x → Contains l x) → (z ≡ x) ⊎ Contains (without y l) x → Contains (z ∷ l) x
    by rest (inl same) = here_in z x l same
    by rest (inr later) = tail_in z x l (rest later)

    at : (b : Bool) → (Contains (without y l) x → Contains l x) → Contains (cond b (without y l) (z ∷ without y l)) x → Contains (z ∷ l) x
    at true rest g = tail_in z x l (rest g)
    at false rest g = by rest (cases_in z x (without y l) g)

kept : (y : List ℕ) (l : List (List ℕ)) (x : List ℕ) → Contains l x → (y ≡ x) ⊎ Contains (without y l) x
kept y [] x h = inr h
kept y (z ∷ l) x h = by (λ g. kept y l x g) (cases_in z x l h)
  where
    at_first : (b : Bool) → bytes_eq y z ≡ b → z ≡ x → (y ≡ x) ⊎ Contains (cond b (without y l) (z ∷ without y l)) x
    at_first true e same = inl ((bytes_eq-Decides y z).0 e ∙ same)
    at_first false e same = inr (here_in z x (without y l) same)

    at_later : (b : Bool) → (y ≡ x) ⊎ Contains (without y l) x → (y ≡ x) ⊎ Contains (cond b (without y l) (z ∷ without y l)) x
    at_later b (inl same) = inl same
    at_later true (inr later) = inr later
    at_later false (inr later) = inr (tail_in z x (without y l) later)

    by : (Contains l x → (y ≡ x) ⊎ Contains (without y l) x) → (z ≡ x) ⊎ Contains l x → (y ≡ x) ⊎ Contains (without y (z ∷ l)) x
    by rest (inl same) = at_first (bytes_eq y z) refl same
    by rest (inr later) = at_later (bytes_eq y z) (rest later)

once_within : (xs : List (List ℕ)) (x : List ℕ) → Contains (once xs) x → Contains xs x
once_within [] x h = h
once_within (y ∷ xs) x h = by (λ g. once_within xs x g) (cases_in y x (without y (once xs)) h)
  where
    by : (Contains (once xs) x → Contains xs x) → (y ≡ x) ⊎ Contains (without y (once xs)) x → Contains (y ∷ xs) x
    by rest (inl same) = here_in y x xs same
    by rest (inr later) = tail_in y x xs (rest (within y (once xs) x later))

within_once : (xs : List (List ℕ)) (x : List ℕ) → Contains xs x → Contains (once xs) x
within_once [] x h = h
within_once (y ∷ xs) x h = by (λ g. within_once xs x g) (cases_in y x xs h)
  where
    both_ways : (y ≡ x) ⊎ Contains (without y (once xs)) x → Contains (y ∷ without y (once xs)) x
    both_ways (inl same) = here_in y x (without y (once xs)) same
    both_ways (inr later) = tail_in y x (without y (once xs)) later

    by : (Contains xs x → Contains (once xs) x) → (y ≡ x) ⊎ Contains xs x → Contains (y ∷ without y (once xs)) x
    by rest (inl same) = here_in y x (without y (once xs)) same
    by rest (inr later) = both_ways (kept y (once xs) x (rest later))

-- the text behind a name, and those of the free ones
abbrev text_at : Site → List ℕ
text_at s = s.1.sym

free_texts_are : (u : ℕ) (ss : List Site) → free_texts u ss ≡ map text_at (filter (is_free u) ss)
free_texts_are u [] = refl
free_texts_are u (s ∷ ss) = at (is_free u s) (free_texts_are u ss)
  where
    at : (b : Bool) → free_texts u ss ≡ map text_at (filter (is_free u) ss)
        → cond b (s.1.sym ∷ free_texts u ss) (free_texts u ss) ≡ map text_at (cond b (s ∷ filter (is_free u) ss) (filter (is_free u) ss))
    at true same = ap (λ l. s.1.sym ∷ l) same
    at false same = same

only_is : (u : ℕ) (c : List ℕ) → IsTrue (is_only u c) → c ≡ u ∷ []
only_is u [] h = absurd (cc)
only_is u (m ∷ []) h = ap (λ m. m ∷ []) (eqb-true m u h)
only_is u (m ∷ n ∷ c) h = absurd (cc)

is_only_one : (u : ℕ) (c : List ℕ) → c ≡ u ∷ [] → IsTrue (is_only u c)
is_only_one u c h = subst (λ c. IsTrue (is_only u c)) (sym h) (eq-eqb u u refl)

pub each_is_free : (u : ℕ) (t : Node) (names : List (List ℕ)) → names ≡ free_names u t → (x : List ℕ) → Contains names x ↔ IsFree u t x
each_is_free u t names is x = (
  λ h. down (mapped_from text_at (filter (is_free u) (sites program_place t)) x (subst (λ l. Contains l x) (free_texts_are u (sites program_place t)) (once_within (free_texts u (sites program_place t)) x (subst (λ l. Contains l x) is h)))),
  λ g. subst (λ l. Contains l x) (sym is) (within_once (free_texts u (sites program_place t)) x (subst (λ l. Contains l x) (sym (free_texts_are u (sites program_place t))) (up g))),
)
  where
    down : ((s : Site) × Contains (filter (is_free u) (sites program_place t)) s × (text_at s ≡ x)) → IsFree u t x
    down ((r, i), among, same) =
        let (stands, free) = (filtered_sites_stand (is_free u) t r i).0 among in
        let parts = both (is_reference r) (is_only u i.ctxt) free in
        (r, i, stands, parts.0, only_is u i.ctxt parts.1, same)

    up : IsFree u t x → Contains (map text_at (filter (is_free u) (sites program_place t))) x
    up (r, i, stands, refers, marked, same) =
        let free = and_both (is_reference r) (is_only u i.ctxt) refers (is_only_one u i.ctxt marked) in
        subst (λ x. Contains (map text_at (filter (is_free u) (sites program_place t))) x) same
        (mapped_to text_at (filter (is_free u) (sites program_place t)) (r, i) ((filtered_sites_stand (is_free u) t r i).1 (stands, free)))
