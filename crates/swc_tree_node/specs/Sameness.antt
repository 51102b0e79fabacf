-- Whether two nodes are equal, as a test.
use base.Stored.{Gv, gnil, gnum, gcons}
use mathlib.Core.Bool.{true≢false}
use mathlib.Core.Path.{sym, ap, subst}
use Rattle.std.specs.Cmp.Lexicographic.{pointwise, pointwise_decides}
use Rattle.std.specs.Prelude.{◌≡◌, List, Bool, true, false, ◌&&◌, ◌==◌, refl}
use Rattle.std.specs.Bool.{Decides}
use Rattle.std.specs.Cmp.{IsEquivalence, IsPartialEquivalence, decided, first_so, second_so, partial_equiv_from_equiv, unsigned_Decides}
use Rattle.swc_tree_node.specs.declared.node.Node.{Node}
use Rattle.swc_tree_node.specs.contracts.node.Node as stored

-- the two codes are one
abbrev pub same_code : Gv → Gv → Bool
same_code gnil gnil = true
same_code (gnum n) (gnum m) = n == m
same_code (gcons a b) (gcons c d) = same_code a c && same_code b d
same_code _ _ = false

-- the nodes have one code; so they are equal, as `same_decides` says
abbrev pub same : Node → Node → Bool
same t u = same_code (stored.the_row.coded.code t) (stored.the_row.coded.code u)

sound : (a b : Gv) → same_code a b ≡ true → a ≡ b
sound gnil gnil h = refl
sound gnil (gnum m) h = absurd (true≢false (sym h))
sound gnil (gcons c d) h = absurd (true≢false (sym h))
sound (gnum n) gnil h = absurd (true≢false (sym h))
sound (gnum n) (gnum m) h = ap gnum ((unsigned_Decides n m).0 h)
sound (gnum n) (gcons c d) h = absurd (true≢false (sym h))
sound (gcons a b) gnil h = absurd (true≢false (sym h))
sound (gcons a b) (gnum m) h = absurd (true≢false (sym h))
sound (gcons a b) (gcons c d) h =
    let left = sound a c (first_so (same_code a c) (same_code b d) h) in
    let right = sound b d (second_so (same_code a c) (same_code b d) h) in
    λ i. gcons (left i) (right i)

reflexive : (a : Gv) → same_code a a ≡ true
reflexive gnil = refl
reflexive (gnum n) = (unsigned_Decides n n).1 refl
reflexive (gcons a b) = λ i. reflexive a i && reflexive b i

-- two nodes are the same exactly where they are equal
pub same_decides : (t u : Node) → Decides (same t u) (t ≡ u)
same_decides t u = (
  λ h. stored.the_row.coded.inj t u (sound (stored.the_row.coded.code t) (stored.the_row.coded.code u) h),
  λ e. subst (λ v. same t v ≡ true) e (reflexive (stored.the_row.coded.code t)),
)

pub same_equiv : IsEquivalence same
same_equiv = decided same same_decides

pub same_per : IsPartialEquivalence same
same_per = partial_equiv_from_equiv same_equiv

-- the nodes of two lists are the same, each in its place, and there are as many
abbrev pub all_same : List Node → List Node → Bool
all_same = pointwise same

pub all_same_decides : (ts us : List Node) → Decides (all_same ts us) (ts ≡ us)
all_same_decides = pointwise_decides same_decides

pub all_same_equiv : IsEquivalence all_same
all_same_equiv = decided all_same all_same_decides

pub all_same_per : IsPartialEquivalence all_same
all_same_per = partial_equiv_from_equiv all_same_equiv
