-- Places one after another.
use Rattle.std.proofs.Common.{◌≡◌, ℕ, zero, suc, ◌≤◌, ◌<◌, List, [], ◌∷◌, ◌++◌, Option, Some, Bor, All, get_or, length, map, min, arith, subst, sym, ◌∙◌}
use Rattle.std.proofs.lemmas.Bool.Decides.{nat_tests}
use Rattle.std.proofs.lemmas.List.{length-map, map_push}
use Rattle.std.proofs.lemmas.List.Elements.{All-cons, All-contains, All-nil, Contains-push}
use Rattle.std.proofs.lemmas.Map.Iter.{btree_map_turn, rest_so_far}
use Rattle.std.specs.BTreeMap.{BTreeMap, IsOrdered}
use Rattle.std.specs.Cmp.{nat_cmp_total}
use Rattle.std.specs.Iterator.{Yields}
use Rattle.std.specs.Map.Iter.{TakesFirst, deref_pair}
use Rattle.std.specs.Ordering.{nat_cmp}
use Rattle.std.specs.declared.cmp.Ordering.TheVariants.{Less}
use Rattle.mucwathi_mappings.specs.declared.nodes.Mapped.{Mapped}
use Rattle.mucwathi_mappings.specs.Positions.{line}
use Rattle.mucwathi_mappings.proofs.Steps.{lines_rise}

abbrev pub IsNoFurther : ℕ → ℕ × Mapped → Type 0
IsNoFurther place e = e.0 ≤ place

-- a line is no further than that of any place which none that was passed is behind
abbrev pub Reaches : List ℕ → List (ℕ × Mapped) → ℕ → Type 0
Reaches text passed at = (place : ℕ) → All (IsNoFurther place) passed → at ≤ line text (min place (length text))

pub reaches_none : (text : List ℕ) → Reaches text [] 0
reaches_none text place h = omega arith

pub reaches_more : (text : List ℕ) (passed : List (ℕ × Mapped)) (e : ℕ × Mapped) (at : ℕ) → at ≡ line text (min e.0 (length text)) → Reaches text (passed ++ e ∷ []) at
reaches_more text passed e at is place h =
    let last : e.0 ≤ place = All-contains (IsNoFurther place) (passed ++ e ∷ []) e h (Contains-push passed e) in
    let low : min e.0 (length text) ≤ min place (length text) = omega arith in
    subst (λ n. n ≤ line text (min place (length text))) (sym is) (lines_rise text (min e.0 (length text)) (min place (length text)) low)

less_below : (a b : ℕ) → nat_cmp a b ≡ Less → a ≤ b
less_below a b h = grind (arith, nat_tests)

-- keys that are less
pub all_before : (passed left : List (ℕ × Mapped)) (place : ℕ) → ((i : ℕ) (d : ℕ) → i < length passed → nat_cmp (get_or (map (λ (e : ℕ × Mapped). e.0) (passed ++ left)) i d) place ≡ Less) → All (IsNoFurther place) passed
all_before [] left place h = All-nil (IsNoFurther place)
all_before (e ∷ passed) left place h =
    All-cons (IsNoFurther place) e passed (less_below e.0 place (h zero 0 (omega arith))) (all_before passed left place (λ i d below. h (suc i) d (omega (arith, below))))

-- ... at the next place
pub reached : (text : List ℕ) (m : BTreeMap ℕ Mapped) (xs : List (Bor ℕ × Bor Mapped)) (s t u : List (ℕ × Mapped)) (r : Option (Bor ℕ × Bor Mapped)) (x : Bor ℕ × Bor Mapped) (at : ℕ) → s ≡ m.entries → IsOrdered nat_cmp m
    → Yields (TakesFirst deref_pair) s xs t → r ≡ Some x → TakesFirst deref_pair t r u → Reaches text (map deref_pair xs) at → at ≤ line text (min x.0.now (length text))
reached text m xs s t u r x at all rise y is step h =
    let turn = btree_map_turn deref_pair xs s t u r x y is step nat_cmp_total m all rise in
    let so_far : m.entries ≡ map deref_pair xs ++ t = sym all ∙ rest_so_far deref_pair xs s t y in
    h x.0.now (all_before (map deref_pair xs) t x.0.now (λ i d below.
    let low : i < length xs = subst (λ n. i < n) (length-map xs deref_pair) below in
    subst (λ (es : List (ℕ × Mapped)). nat_cmp (get_or (map (λ (e : ℕ × Mapped). e.0) es) i d) x.0.now ≡ Less) so_far (turn.2 i d low)))

pub reaches_step : (text : List ℕ) (xs : List (Bor ℕ × Bor Mapped)) (x : Bor ℕ × Bor Mapped) (at : ℕ) → at ≡ line text (min x.0.now (length text)) → Reaches text (map deref_pair (xs ++ x ∷ [])) at
reaches_step text xs x at is = subst (λ l. Reaches text l at) (sym (map_push deref_pair xs x)) (reaches_more text (map deref_pair xs) (deref_pair x) at is)
