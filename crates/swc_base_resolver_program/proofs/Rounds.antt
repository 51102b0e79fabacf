-- The scopes that are open at a path are those round it, and what is found there is what the scopes say.
use Rattle.std.proofs.Common.{◌≡◌, ℕ, ◌+◌, Bool, true, false, IsTrue, ◌↔◌, inl, inr, Option, Some, None, List, [], ◌∷◌, ◌++◌, map, refl, sym, ap, ◌∙◌, arith, cond, subst}
use Rattle.std.specs.Option.{option_map}
use Rattle.swc_tree_node.specs.declared.node.Node.{Node, out-Node}
use Rattle.swc_tree_scoping.specs.declared.places.Place.{Place}
use Rattle.swc_tree_scoping.specs.Places.{Path, child, given, opened, place_below}
use Rattle.swc_tree_scoping.specs.Scopes.{Round, first_that, rounds, scope_at, seen_as, view_in}
use Rattle.swc_tree_scoping.specs.Declares.{First}
use Rattle.swc_tree_scoping.proofs.Under.{lower, scope_under}
use Rattle.swc_tree_scoping.proofs.First.{Each, Nested, Opens}
use Rattle.swc_base_resolver_program.specs.Lookup.{Open, found}
use Rattle.swc_base_resolver_program.specs.Walks.{before, number, open_at, entered, open_round}

map_map : {A B C : Type 0} (g : B → C) (f : A → B) (xs : List A) → map g (map f xs) ≡ map (λ x. g (f x)) xs
map_map g f [] = refl
map_map g f (x ∷ xs) = ap (λ l. g (f x) ∷ l) (map_map g f xs)

map_both : {A B : Type 0} (g : A → B) (xs ys : List A) (zs : List B) → map g (xs ++ ys) ++ zs ≡ map g xs ++ (map g ys ++ zs)
map_both g [] ys zs = refl
map_both g (x ∷ xs) ys zs = ap (λ l. g x ∷ l) (map_both g xs ys zs)

-- the scope at a path, from the node's side and from the child's
open_under : (n : ℕ) (w : Place) (t c : Node) (i : ℕ) (s : Round) → child t i ≡ Some c → open_at n w t (lower i s) ≡ open_at (n + before w t i) (place_below w t i) c s
open_under n w t c i s h =
    ap (λ z. record { scope = z; number = n + number w t (i ∷ s.0); whole = s.1 }) (scope_under w t c i s.0 h)
    ∙ ap (λ m. record { scope = scope_at (place_below w t i) c s.0; number = m; whole = s.1 }) shift
  where
    down : number w t (i ∷ s.0) ≡ before w t i + number (place_below w t i) c s.0
    down = ap (λ o. before w t i + given o 0 (λ c. number (place_below w t i) c s.0)) h

    shift : n + number w t (i ∷ s.0) ≡ n + before w t i + number (place_below w t i) c s.0
    shift = omega (arith, down)

pub rounds_are : (p : Path) (n : ℕ) (w : Place) (t : Node) (env : List Open) → open_round env n w t p ≡ map (open_at n w t) (rounds w t p) ++ env
rounds_are [] n w t env = refl
rounds_are (i ∷ p) n w t env =
    at (child t i) refl (λ c. rounds_are p (n + before w t i) (place_below w t i) c (entered env n w t i))
    ∙ sym (map_both (open_at n w t) (map (lower i) (given (child t i) [] (λ c. rounds (place_below w t i) c p))) (seen_as (opened w t) (view_in (out-Node t) i)) env)
  where
    at : (o : Option Node) → child t i ≡ o
        → ((c : Node) → open_round (entered env n w t i) (n + before w t i) (place_below w t i) c p ≡ map (open_at (n + before w t i) (place_below w t i) c) (rounds (place_below w t i) c p) ++ entered env n w t i)
        → given o (entered env n w t i) (λ c. open_round (entered env n w t i) (n + before w t i) (place_below w t i) c p)
        ≡ map (open_at n w t) (map (lower i) (given o [] (λ c. rounds (place_below w t i) c p))) ++ entered env n w t i
    at None h below = refl
    at (Some c) h below =
        below c ∙ ap (λ l. l ++ entered env n w t i)
        (ap (λ f. map f (rounds (place_below w t i) c p)) (λ j s. sym (open_under n w t c i s h) j) ∙ sym (map_map (open_at n w t) (lower i) (rounds (place_below w t i) c p)))

module _ (w : Place) (t : Node) where
  abbrev pub there : Round → Open
  there = open_at 0 w t

  abbrev pub number_of : Path → ℕ
  number_of s = 0 + number w t s

  -- the number of the first that passes a test of the scope alone
  pub found_first : (f : Open → Bool) (ss : List Round) → found (λ o os. f o) (map there ss ++ []) ≡ option_map number_of (first_that (λ s. f (there s)) ss)
  found_first f [] = refl
  found_first f (s ∷ ss) = next (f (there s)) (found_first f ss)
    where
      next : (b : Bool) → found (λ o os. f o) (map there ss ++ []) ≡ option_map number_of (first_that (λ s. f (there s)) ss)
          → cond b (Some (number_of s.0)) (found (λ o os. f o) (map there ss ++ [])) ≡ option_map number_of (cond b (Some s.0) (first_that (λ s. f (there s)) ss))
      next true h = refl
      next false h = h

  -- of one that has a property, where the test decides it
  pub found_holds : (P : Round → Type 0) (f : Open → List Open → Bool) → ((s : Round) → Opens w t s.0 → IsTrue (f (there s) (map there (rounds w t s.0) ++ [])) ↔ P s)
      → (ss : List Round) → Each (λ s. Opens w t s.0) ss → Nested w t ss → (m : Option Path) × First P ss m × (found f (map there ss ++ []) ≡ option_map number_of m)
  found_holds P f h [] e n = (None, refl, refl)
  found_holds P f h (s ∷ ss) e n = next (f (there s) (map there ss ++ [])) refl (found_holds P f h ss e.1 n.1)
    where
      here : (b : Bool) → f (there s) (map there ss ++ []) ≡ b → f (there s) (map there (rounds w t s.0) ++ []) ≡ b
      here b g = ap (λ l. f (there s) (map there l ++ [])) (sym n.0) ∙ g

      next : (b : Bool) → f (there s) (map there ss ++ []) ≡ b → (m : Option Path) × First P ss m × (found f (map there ss ++ []) ≡ option_map number_of m)
          → (m : Option Path) × First P (s ∷ ss) m × (cond (f (there s) (map there ss ++ [])) (Some (number_of s.0)) (found f (map there ss ++ [])) ≡ option_map number_of m)
      next true g rest = (Some s.0, inl ((h s e.0).0 (rw (here true g) refl), refl), rw g refl)
      next false g (m, q, r) = (m, inr (λ p. let z = (h s e.0).1 p in let y : true ≡ false = sym z ∙ here false g in absurd (cc), q), rw g r)

-- the first is one
pub first_unique : (P : Round → Type 0) (ss : List Round) (m k : Option Path) → First P ss m → First P ss k → m ≡ k
first_unique P [] m k h g = h ∙ sym g
first_unique P (s ∷ ss) m k (inl (p, h)) (inl (q, g)) = h ∙ sym g
first_unique P (s ∷ ss) m k (inl (p, h)) (inr (nq, g)) = absurd (nq p)
first_unique P (s ∷ ss) m k (inr (np, h)) (inl (q, g)) = absurd (np q)
first_unique P (s ∷ ss) m k (inr (np, h)) (inr (nq, g)) = first_unique P ss m k h g

-- and is among them
pub first_among : (P Q : Round → Type 0) (ss : List Round) (u : Path) → First P ss (Some u) → Each Q ss → (b : Bool) × Q (u, b)
first_among P Q [] u h e = absurd (cc)
first_among P Q (s ∷ ss) u (inl (p, h)) e = let same : s.0 ≡ u = cc in (s.1, subst (λ u. Q (u, s.1)) same e.0)
first_among P Q (s ∷ ss) u (inr (np, h)) e = first_among P Q ss u h e.1

pub that_among : (f : Round → Bool) (Q : Round → Type 0) (ss : List Round) (u : Path) → first_that f ss ≡ Some u → Each Q ss → (b : Bool) × Q (u, b)
that_among f Q [] u h e = absurd (cc)
that_among f Q (s ∷ ss) u h e = next (f s) h (λ g. that_among f Q ss u g e.1)
  where
    next : (b : Bool) → cond b (Some s.0) (first_that f ss) ≡ Some u → (first_that f ss ≡ Some u → (b : Bool) × Q (u, b)) → (b : Bool) × Q (u, b)
    next true g rest = let same : s.0 ≡ u = cc in (s.1, subst (λ u. Q (u, s.1)) same e.0)
    next false g rest = rest g

-- none has the property, so that none passes a test of it
pub none_that : (P : Round → Type 0) (f : Round → Bool) → ((s : Round) → IsTrue (f s) → P s) → (ss : List Round) → First P ss None → first_that f ss ≡ None
none_that P f h [] n = refl
none_that P f h (s ∷ ss) (inl (p, n)) = absurd (cc)
none_that P f h (s ∷ ss) (inr (np, n)) = next (f s) refl (none_that P f h ss n)
  where
    next : (b : Bool) → f s ≡ b → first_that f ss ≡ None → cond (f s) (Some s.0) (first_that f ss) ≡ None
    next true g rest = absurd (np (h s (rw g refl)))
    next false g rest = rw g rest
