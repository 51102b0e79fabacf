-- The numbers of open scopes are below the number of tables, and so is what a stage gives names to.
use Rattle.std.proofs.Common.{◌≡◌, ℕ, ◌<◌, ◌≤◌, Bool, true, false, ◌==◌, Option, Some, None, List, [], ◌∷◌, arith, cond}
use Rattle.swc_tree_scoping.specs.declared.places.Standing.{Standing}
use Rattle.swc_tree_scoping.specs.declared.places.Standing.TheVariants as standing
use Rattle.swc_tree_scoping.specs.declared.places.View.{View}
use Rattle.swc_tree_scoping.specs.declared.places.View.TheVariants as view
use Rattle.swc_base_resolver_program.specs.declared.collect.Stage.{Stage}
use Rattle.swc_base_resolver_program.specs.declared.collect.Stage.TheVariants as stage
use Rattle.swc_base_resolver_program.specs.Lookup.{Open, found, hoists_in, meets_in, names_in, same_number, taker_in}
use Rattle.swc_base_resolver_program.specs.Walks.{AreBelow, pick, target_in}

pub below_more : (n m : ℕ) (env : List Open) → n ≤ m → AreBelow n env → AreBelow m env
below_more n m [] l b = tt
below_more n m (o ∷ env) l b = (omega (arith, l, b.0), below_more n m env l b.1)

pub pick_below : (n : ℕ) (x y z : List Open) → AreBelow n x → AreBelow n y → AreBelow n z → (v : View) → AreBelow n (pick v x y z)
pick_below n x y z a b c view.Outside = a
pick_below n x y z a b c view.Parameters = b
pick_below n x y z a b c view.Whole = c

found_below : (f : Open → List Open → Bool) (n k : ℕ) (env : List Open) → AreBelow n env → found f env ≡ Some k → k < n
found_below f n k [] b h = absurd (cc)
found_below f n k (o ∷ env) b h = next (f o env) h (found_below f n k env b.1)
  where
    next : (c : Bool) → cond c (Some o.number) (found f env) ≡ Some k → (found f env ≡ Some k → k < n) → k < n
    next true g later = let same : o.number ≡ k = cc in omega (arith, same, b.0)
    next false g later = later g

same_is : (a b : Option ℕ) (k : ℕ) → same_number a b ≡ Some k → a ≡ Some k
same_is None b k h = absurd (cc)
same_is (Some a) None k h = absurd (cc)
same_is (Some a) (Some b) k h = next (b == a) h
  where
    next : (c : Bool) → cond c (Some a) None ≡ Some k → Some a ≡ Some k
    next true g = g
    next false g = absurd (cc)

pub target_below : (s : Stage) (r : Standing) (x : List ℕ) (n k : ℕ) (env : List Open) → AreBelow n env → target_in s r x env ≡ Some k → k < n
target_below stage.Bind r x n k env b h = found_below _ n k env b h
target_below (stage.Settle names) standing.SloppyFunction x n k env b h = next (hoists_in (names_in names) x env) h
  where
    next : (c : Bool) → cond c (taker_in standing.Variable env) None ≡ Some k → k < n
    next true g = found_below _ n k env b g
    next false g = absurd (cc)
target_below (stage.Settle names) standing.Variable x n k env b h = found_below _ n k env b (same_is (taker_in standing.Variable env) (meets_in (names_in names) x env) k h)
target_below (stage.Settle names) _ x n k env b h = absurd (cc)
