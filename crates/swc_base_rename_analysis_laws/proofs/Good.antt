-- Scopes and names that some walk adds: which of them come first, and which names stand in which scope. What holds of two
-- walks, one after the other, and of a scope with what is in it.
use Rattle.std.proofs.Common.{◌≡◌, ◌↔◌, ℕ, ◌+◌, ◌≤◌, Bool, true, false, IsTrue, ◌⊎◌, inl, inr, List, [], ◌∷◌, ◌++◌, length, length-append, sym, ap, ◌∙◌, arith, append-nil, Less, nat_cmp}
use Rattle.std.specs.Cmp.Lexicographic.{slice_cmp}
use Rattle.swc_tree_node.specs.declared.node.Node.{Node}
use Rattle.swc_tree_scoping.specs.Places.{Path}
use Rattle.swc_base_rename_analysis.specs.Analysis.{IsRound}
use Rattle.swc_base_rename_analysis.specs.Order.{entry, turns}
use Rattle.swc_base_rename_analysis_laws.specs.Placed.{IsBetween, Use, at_path, own_at}
use Rattle.swc_base_rename_analysis_laws.proofs.Lists.{All, AllFrom, Cross, Pairs, all_joined, all_so, cross_and, cross_of, from_joined, from_of, pairs_joined}
use Rattle.swc_base_rename_analysis_laws.proofs.Marked.{MarkedScope, name_beside}
use Rattle.swc_base_rename_analysis_laws.proofs.Rounded.{round_goes_on}

-- where a name is met: at its identifier, or at the function that uses its own name
pub record Home : Type 0 where
  pub place : Path
  pub owned : Bool

abbrev pub use_as : Bool → Path → Use
use_as false p = at_path p
use_as true p = own_at (name_beside p)

abbrev pub use_of : Home → Use
use_of x = use_as x.owned x.place

-- the name stands in the scope
abbrev pub InHome : Node → Path → Home → Type 0
InHome t s x = IsRound t s x.place ⊎ (IsTrue x.owned × (s ≡ x.place))

abbrev pub Bounded : ℕ → ℕ → MarkedScope → Type 0
Bounded low high s = (low ≤ s.region.start) × (s.region.start ≤ s.region.end) × (s.region.end ≤ high)

abbrev pub EntersFirst : Node → MarkedScope → MarkedScope → Type 0
EntersFirst t s u = slice_cmp nat_cmp (turns entry t s.path) (turns entry t u.path) ≡ Less

abbrev pub StandApart : MarkedScope → MarkedScope → Type 0
StandApart s u = (s.region.start ≤ u.region.start) × ((u.region.end ≤ s.region.end) ⊎ (s.region.end ≤ u.region.start))

abbrev pub ScopeFirst : Node → MarkedScope → MarkedScope → Type 0
ScopeFirst t s u = EntersFirst t s u × StandApart s u

abbrev pub NameFirst : Node → Home → Home → Type 0
NameFirst t x y = x.owned ≡ false → y.owned ≡ false → slice_cmp nat_cmp (turns (λ _. []) t x.place) (turns (λ _. []) t y.place) ≡ Less

-- a name of a position stands in the scope just if the position is one of the scope's
abbrev pub Fits : Node → MarkedScope → ℕ → Home → Type 0
Fits t s k x = IsBetween s.region k ↔ InHome t s.path x

-- the first name has the position
pub record Good (t : Node) (a : ℕ) (names : List Home) (scopes : List MarkedScope) : Type 0 where
  pub bounded : All (Bounded a (a + length names)) scopes
  pub rising : Pairs (ScopeFirst t) scopes
  pub in_turn : Pairs (NameFirst t) names
  pub fits : All (λ s. AllFrom (Fits t s) a names) scopes

pub good_none : (t : Node) (a : ℕ) → Good t a [] []
good_none t a = record { bounded = tt; rising = tt; in_turn = tt; fits = tt }

pub good_name : (t : Node) (a : ℕ) (x : Home) → Good t a (x ∷ []) []
good_name t a x = record { bounded = tt; rising = tt; in_turn = (tt, tt); fits = tt }

abbrev pub IsNotIn : Node → MarkedScope → Home → Type 0
IsNotIn t s x = InHome t s.path x → ⊥

-- one walk after the other
pub joined : (t : Node) (a : ℕ) (xs ys : List Home) (ss us : List MarkedScope) → Good t a xs ss → Good t (a + length xs) ys us
    → Cross (EntersFirst t) ss us → Cross (NameFirst t) xs ys → Cross (IsNotIn t) ss ys → Cross (IsNotIn t) us xs → Good t a (xs ++ ys) (ss ++ us)
joined t a xs ys ss us g f first named not_after not_before = record {
  bounded = all_joined (Bounded a (a + length (xs ++ ys))) ss us (all_so (λ s (b : Bounded a (a + length xs) s). (b.0, b.1, omega (arith, b.2, both))) ss g.bounded) (all_so (λ s (b : Bounded (a + length xs) (a + length xs + length ys) s). (omega (arith, b.0), b.1, omega (arith, b.2, both))) us f.bounded);
  rising = pairs_joined (ScopeFirst t) ss us g.rising f.rising (cross_and (λ s u e a. (e, a)) ss us first (cross_of apart ss us g.bounded f.bounded));
  in_turn = pairs_joined (NameFirst t) xs ys g.in_turn f.in_turn named;
  fits = all_joined (λ s. AllFrom (Fits t s) a (xs ++ ys)) ss us (before ss g.bounded g.fits not_after) (after us f.bounded f.fits not_before);
}
  where
    both : length (xs ++ ys) ≡ length xs + length ys
    both = length-append xs ys

    apart : (s u : MarkedScope) → Bounded a (a + length xs) s → Bounded (a + length xs) (a + length xs + length ys) u → StandApart s u
    apart s u b c = (omega (arith, b.1, b.2, c.0), inr (omega (arith, b.2, c.0)))

    before : (ss : List MarkedScope) → All (Bounded a (a + length xs)) ss → All (λ s. AllFrom (Fits t s) a xs) ss → Cross (IsNotIn t) ss ys → All (λ s. AllFrom (Fits t s) a (xs ++ ys)) ss
    before [] b h n = tt
    before (s ∷ ss) (b, bs) (h, hs) (n, ns) = (from_joined (Fits t s) a xs ys h (from_of (a + length xs) ys (λ k x low high not_in. (λ between. absurd (omega (arith, between.1, b.2, low)), λ inside. absurd (not_in inside))) n), before ss bs hs ns)

    after : (us : List MarkedScope) → All (Bounded (a + length xs) (a + length xs + length ys)) us → All (λ s. AllFrom (Fits t s) (a + length xs) ys) us → Cross (IsNotIn t) us xs → All (λ s. AllFrom (Fits t s) a (xs ++ ys)) us
    after [] b h n = tt
    after (u ∷ us) (b, bs) (h, hs) (n, ns) = (from_joined (Fits t u) a xs ys (from_of a xs (λ k x low high not_in. (λ between. absurd (omega (arith, between.0, b.0, high)), λ inside. absurd (not_in inside))) n) h, after us bs hs ns)

-- a path is another one or goes on from it
abbrev pub IsUnder : Path → Path → Type 0
IsUnder h p = (q : Path) × (p ≡ h ++ q)

-- a path below one of the children of the node at a path
abbrev pub StartsWith : (ℕ → Type 0) → Path → Path → Type 0
StartsWith F h p = (j : ℕ) × (q : Path) × (p ≡ h ++ (j ∷ q)) × F j

-- paths below different children
parts : (h : Path) (i j : ℕ) (p q r : Path) → h ++ (j ∷ q) ≡ (h ++ (i ∷ p)) ++ r → j ≡ i
parts [] i j p q r e = cc
parts (k ∷ h) i j p q r e = parts h i j p q r (cc)

pub longer : (h p : Path) (j : ℕ) (q r : Path) → h ≡ (h ++ (j ∷ q)) ++ r → ⊥
longer h p j q r e = omega (arith, ap length e, length-append (h ++ (j ∷ q)) r, length-append h (j ∷ q))

-- what stands in a scope stands below it or at it
pub in_goes_on : (t : Node) (s : Path) (x : Home) → InHome t s x → (r : Path) × (x.place ≡ s ++ r)
in_goes_on t s x (inl round) = let (j, q, e) = round_goes_on t s x.place round in (j ∷ q, e)
in_goes_on t s x (inr (_, same)) = ([], sym same ∙ sym (append-nil s))

pub not_in_other : (t : Node) (h : Path) (F G : ℕ → Type 0) → ((i j : ℕ) → F i → G j → i ≡ j → ⊥) → (s : MarkedScope) (x : Home) → StartsWith F h s.path → StartsWith G h x.place → IsNotIn t s x
not_in_other t h F G different s x (i, p, at, f) (j, q, there, g) inside =
    let (r, e) = in_goes_on t s.path x inside in
    different i j f g (sym (parts h i j p q r (sym there ∙ e ∙ ap (λ p. p ++ r) at)))

pub not_in_below : (t : Node) (h : Path) (F : ℕ → Type 0) → (s : MarkedScope) (x : Home) → StartsWith F h s.path → x.place ≡ h → IsNotIn t s x
not_in_below t h F s x (i, p, at, f) here inside =
    let (r, e) = in_goes_on t s.path x inside in
    longer h h i p r (sym here ∙ e ∙ ap (λ p. p ++ r) at)
