-- What meets in a part of what a node holds, met in it or is pending there: so it is of what stands together, of what a scope
-- encloses, and of what a scope is put round.
use Rattle.std.proofs.Common.{◌≡◌, ℕ, zero, suc, Bool, true, false, not, ◌⊎◌, inl, inr, ⊎_elim, Option, Some, None, List, [], ◌∷◌, ◌++◌, map, refl, sym, ap, ◌∙◌, subst, cond}
use Rattle.std.specs.List.{filter, flat_map}
use Rattle.std.specs.Prelude.{if◌then◌else◌}
use Rattle.swc_tree_marks.specs.declared.ident.Ident.{Ident}
use Rattle.swc_tree_scoping.specs.BoundNames.{Id}
use Rattle.swc_tree_sites.specs.Smaller.{In}
use Rattle.swc_tree_sites.proofs.Loose.{in_cases, in_left, in_right}
use Rattle.swc_tree_sites.proofs.Found.{in_map, map_in}
use Rattle.swc_base_rename_analysis.specs.declared.scopes.ScopeKind.{ScopeKind}
use Rattle.swc_base_renaming_laws.specs.Meetings.{Bound, Met, beside, both, enclosed, in_scope, nothing, takes_so, used}

-- ---- lists

abbrev pub Subset : {X : Type 0} → List X → List X → Type 0
Subset {X} xs ys = (x : X) → In x xs → In x ys

pub in_filter : {X : Type 0} (f : X → Bool) (x : X) (xs : List X) → In x (filter f xs) → In x xs × (f x ≡ true)
in_filter f x [] h = absurd h
in_filter f x (y ∷ ys) h = next (f y) refl h (in_filter f x ys)
  where
    next : (b : Bool) → f y ≡ b → In x (cond b (y ∷ filter f ys) (filter f ys)) → (In x (filter f ys) → In x ys × (f x ≡ true)) → ((y ≡ x) ⊎ In x ys) × (f x ≡ true)
    next true e (inl g) rest = (inl g, subst (λ z. f z ≡ true) g e)
    next true e (inr g) rest = let (a, b) = rest g in (inr a, b)
    next false e g rest = let (a, b) = rest g in (inr a, b)

pub filter_in : {X : Type 0} (f : X → Bool) (x : X) (xs : List X) → In x xs → f x ≡ true → In x (filter f xs)
filter_in f x [] h e = absurd h
filter_in f x (y ∷ ys) h e = next (f y) refl h (λ g. filter_in f x ys g e)
  where
    next : (b : Bool) → f y ≡ b → (y ≡ x) ⊎ In x ys → (In x ys → In x (filter f ys)) → In x (cond b (y ∷ filter f ys) (filter f ys))
    next true g (inl h) rest = inl h
    next true g (inr h) rest = inr (rest h)
    next false g (inl h) rest = let z : f x ≡ false = subst (λ z. f z ≡ false) h g in absurd (cc)
    next false g (inr h) rest = rest h

filter_subset : {X : Type 0} (f : X → Bool) (xs ys : List X) → Subset xs ys → Subset (filter f xs) (filter f ys)
filter_subset f xs ys h x i = let (j, t) = in_filter f x xs i in filter_in f x ys (h x j) t

append_subset : {X : Type 0} (xs ys zs ws : List X) → Subset xs ys → Subset zs ws → Subset (xs ++ zs) (ys ++ ws)
append_subset xs ys zs ws h g x i = ⊎_elim (λ j. in_left x ys ws (h x j)) (λ j. in_right x ys ws (g x j)) (in_cases x xs zs i)

-- a pair of a binding and a name
pub beside_in : (b : Bound) (n : Id) (bs : List Bound) (ns : List Id) → In b bs → In n ns → In {X = Id × Id} (b.1, n) (beside bs ns)
beside_in b n [] ns h g = absurd h
beside_in b n (c ∷ bs) ns (inl same) g =
    in_left {X = Id × Id} (b.1, n) (map (λ n. (c.1, n)) ns) (beside bs ns) (subst (λ (b : Bound). In {X = Id × Id} (b.1, n) (map (λ n. (c.1, n)) ns)) same (map_in {X = Id} {Y = Id × Id} (λ n. (c.1, n)) n ns g))
beside_in b n (c ∷ bs) ns (inr h) g = in_right {X = Id × Id} (b.1, n) (map (λ n. (c.1, n)) ns) (beside bs ns) (beside_in b n bs ns h g)

abbrev pub IsBeside : Id × Id → List Bound → List Id → Type 0
IsBeside z bs ns = (b : Bound) × In b bs × (b.1 ≡ z.0) × In z.1 ns

pub in_beside : (z : Id × Id) (bs : List Bound) (ns : List Id) → In z (beside bs ns) → IsBeside z bs ns
in_beside z [] ns h = absurd h
in_beside z (c ∷ bs) ns h = ⊎_elim here (λ g. let (b, i, e, n) = in_beside z bs ns g in (b, inr i, e, n)) (in_cases z (map (λ n. (c.1, n)) ns) (beside bs ns) h)
  where
    here : In z (map (λ n. (c.1, n)) ns) → IsBeside z (c ∷ bs) ns
    here g = let (n, i, e) = in_map {X = Id} {Y = Id × Id} (λ n. (c.1, n)) z ns g in (c, inl refl, ap (λ (z : Id × Id). z.0) e, subst (λ n. In n ns) (ap (λ (z : Id × Id). z.1) e) i)

to_beside : (z : Id × Id) (bs : List Bound) (ns : List Id) → IsBeside z bs ns → In z (beside bs ns)
to_beside z bs ns (b, i, e, n) = subst (λ (x : Id). In {X = Id × Id} (x, z.1) (beside bs ns)) e (beside_in b z.1 bs ns i n)

-- ---- within

-- nothing else is pending, no other names, and what meets met, or the one was pending and the other a name
pub record Within (a b : Met) : Type 0 where
  pub pending : Subset a.pending b.pending
  pub names : Subset a.names b.names
  pub pairs : (z : Id × Id) → In z a.pairs → In z b.pairs ⊎ IsBeside z b.pending b.names

pub within_same : (a : Met) → Within a a
within_same a = record { pending = λ x h. h; names = λ x h. h; pairs = λ z h. inl h }

pub within_is : (a b : Met) → a ≡ b → Within a b
within_is a b e = subst (Within a) e (within_same a)

pub within_through : (a b c : Met) → Within a b → Within b c → Within a c
within_through a b c h g = record {
  pending = λ x i. g.pending x (h.pending x i);
  names = λ x i. g.names x (h.names x i);
  pairs = λ z i. ⊎_elim (λ j. g.pairs z j) (λ (j : IsBeside z b.pending b.names). inr (j.0, g.pending j.0 j.1, j.2, g.names z.1 j.3)) (h.pairs z i);
}

pub nothing_within : (b : Met) → Within nothing b
nothing_within b = record { pending = λ x h. absurd h; names = λ x h. absurd h; pairs = λ z h. absurd h }

beside_left : (z : Id × Id) (a b : Met) → IsBeside z a.pending a.names → IsBeside z (both a b).pending (both a b).names
beside_left z a b (c, i, e, n) = (c, in_left c a.pending b.pending i, e, in_left z.1 a.names b.names n)

beside_right : (z : Id × Id) (a b : Met) → IsBeside z b.pending b.names → IsBeside z (both a b).pending (both a b).names
beside_right z a b (c, i, e, n) = (c, in_right c a.pending b.pending i, e, in_right z.1 a.names b.names n)

-- what stands together
pub both_within : (a b c d : Met) → Within a b → Within c d → Within (both a c) (both b d)
both_within a b c d h g = record {
  pending = append_subset a.pending b.pending c.pending d.pending h.pending g.pending;
  names = append_subset a.names b.names c.names d.names h.names g.names;
  pairs = λ z i. ⊎_elim
      (λ j. ⊎_elim (λ k. inl (in_left z b.pairs d.pairs k)) (λ k. inr (beside_left z b d k)) (h.pairs z j))
      (λ j. ⊎_elim (λ k. inl (in_right z b.pairs d.pairs k)) (λ k. inr (beside_right z b d k)) (g.pairs z j)) (in_cases z a.pairs c.pairs i);
}

pub left_within : (a b c : Met) → Within a b → Within a (both b c)
left_within a b c h = record {
  pending = λ x i. in_left x b.pending c.pending (h.pending x i);
  names = λ x i. in_left x b.names c.names (h.names x i);
  pairs = λ z i. ⊎_elim (λ j. inl (in_left z b.pairs c.pairs j)) (λ j. inr (beside_left z b c j)) (h.pairs z i);
}

pub right_within : (a b c : Met) → Within a c → Within a (both b c)
right_within a b c h = record {
  pending = λ x i. in_right x b.pending c.pending (h.pending x i);
  names = λ x i. in_right x b.names c.names (h.names x i);
  pairs = λ z i. ⊎_elim (λ j. inl (in_right z b.pairs c.pairs j)) (λ j. inr (beside_right z b c j)) (h.pairs z i);
}

pub both_twice : (c : Met) → Within (both c c) c
both_twice c = record {
  pending = λ x i. ⊎_elim (λ j. j) (λ j. j) (in_cases x c.pending c.pending i);
  names = λ x i. ⊎_elim (λ j. j) (λ j. j) (in_cases x c.names c.names i);
  pairs = λ z i. inl (⊎_elim (λ j. j) (λ j. j) (in_cases z c.pairs c.pairs i));
}

-- what a scope encloses
module _ (k : ScopeKind) (own : Option Ident) (a b : Met) (h : Within a b) where
  abbrev Taken : Bound → Bool
  Taken c = takes_so k c.0

  stays_or_meets : (z : Id × Id) → IsBeside z b.pending b.names → In z (enclosed k own b).pairs ⊎ IsBeside z (enclosed k own b).pending b.names
  stays_or_meets z (c, i, e, n) = by (takes_so k c.0) refl
    where
      by : (t : Bool) → takes_so k c.0 ≡ t → In z (enclosed k own b).pairs ⊎ IsBeside z (enclosed k own b).pending b.names
      by true t = inl (in_right z b.pairs (beside (filter Taken b.pending) (used own ++ b.names)) (to_beside z (filter Taken b.pending) (used own ++ b.names) (c, filter_in Taken c b.pending i t, e, in_right z.1 (used own) b.names n)))
      by false t = inr (c, filter_in (λ c. not (takes_so k c.0)) c b.pending i (ap not t), e, n)

  enclosed_pairs : (z : Id × Id) → In z (enclosed k own a).pairs → In z (enclosed k own b).pairs ⊎ IsBeside z (enclosed k own b).pending b.names
  enclosed_pairs z i = ⊎_elim
      (λ j. ⊎_elim (λ m. inl (in_left z b.pairs (beside (filter Taken b.pending) (used own ++ b.names)) m)) (stays_or_meets z) (h.pairs z j))
      (λ j.
      let (c, taken, e, n) = in_beside z (filter Taken a.pending) (used own ++ a.names) j in
      inl (in_right z b.pairs (beside (filter Taken b.pending) (used own ++ b.names))
      (to_beside z (filter Taken b.pending) (used own ++ b.names)
      (c, filter_subset Taken a.pending b.pending h.pending c taken, e, append_subset (used own) (used own) a.names b.names (λ x i. i) h.names z.1 n))))
      (in_cases z a.pairs (beside (filter Taken a.pending) (used own ++ a.names)) i)

  pub enclosed_within : Within (enclosed k own a) (enclosed k own b)
  enclosed_within = record { pending = filter_subset (λ c. not (takes_so k c.0)) a.pending b.pending h.pending; names = h.names; pairs = enclosed_pairs }

pub in_scope_within : (o : Option ScopeKind) (own : Option Ident) (a b : Met) → Within a b → Within (in_scope o own a) (in_scope o own b)
in_scope_within None own a b h = h
in_scope_within (Some k) own a b h = enclosed_within k own a b h

-- what a scope is put round
pub put_round : (k : ScopeKind) (a b : Met) → Within a b → Within (enclosed k None a) b
put_round k a b h = record {
  pending = λ x i. h.pending x (in_filter (λ c. not (takes_so k c.0)) x a.pending i).0;
  names = h.names;
  pairs = λ z i. ⊎_elim (λ j. h.pairs z j)
      (λ j.
      let (c, taken, e, n) = in_beside z (filter (λ c. takes_so k c.0) a.pending) a.names j in
      inr (c, h.pending c (in_filter (λ c. takes_so k c.0) c a.pending taken).0, e, h.names z.1 n)) (in_cases z a.pairs (beside (filter (λ c. takes_so k c.0) a.pending) a.names) i);
}

-- where nothing is pending, what meets met
pub pairs_within : (a b : Met) → Within a b → b.pending ≡ [] → Subset a.pairs b.pairs
pairs_within a b h none z i = ⊎_elim (λ j. j) (λ (j : IsBeside z b.pending b.names). absurd (subst (In j.0) none j.1)) (h.pairs z i)
