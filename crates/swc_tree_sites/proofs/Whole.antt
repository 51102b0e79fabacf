-- A tree with fewer names has each name in one scope, where the other has.
use Rattle.std.proofs.Common.{◌≡◌, ◌≢◌, ℕ, zero, suc, Bool, true, false, inl, inr, ⊎_elim, Some, List, [], ◌∷◌, map, refl, sym, ◌∙◌, subst}
use Rattle.std.specs.List.{flat_map, slice_get}
use Rattle.std.specs.Prelude.{nat_eq}
use Rattle.std.specs.Cmp.Lexicographic.{pointwise, same_text, other_text}
use Rattle.swc_tree_node.specs.declared.node.Node.{Node, out-Node}
use Rattle.swc_tree_scoping.specs.declared.places.Standing.{Standing}
use Rattle.swc_tree_scoping.specs.declared.places.Standing.TheVariants as standing
use Rattle.swc_tree_scoping.specs.Places.{Path, children_in, program_place}
use Rattle.swc_tree_scoping.specs.Scopes.{taker}
use Rattle.swc_tree_scoping.specs.Declares.{Bound, DeclaredBy}
use Rattle.swc_tree_scoping.specs.WellScoped.{Binds, EachInOneScope, Stands}
use Rattle.swc_tree_scoping.proofs.Under.{by_children}
use Rattle.swc_tree_sites.specs.Sites.{Binding, set_of}
use Rattle.swc_tree_sites.proofs.Loose.{S, in_cases}
use Rattle.swc_tree_sites.proofs.Found.{in_map}
use Rattle.swc_tree_sites.proofs.Round.{taken_by}
use Rattle.swc_tree_sites.proofs.Transport.{fewer_kept, OneTaker, bound_binds, each_in_one_scope, flat_from, in_bound, not_sloppy}
use Rattle.swc_tree_sites.proofs.Apart.{AllApart, all_paths, all_paths_out, apart_append, each_at, each_of, scopes_apart, sets_are, spread, sub_apart}
use Rattle.swc_tree_sites.specs.Smaller.{AreKept, Fewer, In, IsPlain, Sub}

-- the paths of a tree are different
from_spread : (f : ℕ → ℕ) (pss : List (List Path)) (p : Path) → In p (spread f pss) → (i : ℕ) × (q : Path) × (f i ∷ q ≡ p)
from_spread f [] p h = absurd h
from_spread f (ps ∷ pss) p h = ⊎_elim
    (λ g. let (q, i, e) = in_map (λ p. f zero ∷ p) p ps g in (zero, q, e))
    (λ g. let (i, q, e) = from_spread (λ i. f (suc i)) pss p g in (suc i, q, e))
    (in_cases p (map (λ p. f zero ∷ p) ps) (spread (λ i. f (suc i)) pss) h)

under_apart : (k : ℕ) (ps : List Path) → AllApart (λ p q. p ≢ q) ps → AllApart (λ (p q : Path). p ≢ q) (map (λ p. k ∷ p) ps)
under_apart k [] h = tt
under_apart k (p ∷ ps) h = (each_of (λ q. k ∷ p ≢ q) (map (λ p. k ∷ p) ps) (λ q i e. let (z, j, is) = in_map (λ p. k ∷ p) q ps i in each_at (λ q. p ≢ q) z ps h.0 j (tails k p z (e ∙ sym is))), under_apart k ps h.1)
  where
    tails : (k : ℕ) (p z : Path) → k ∷ p ≡ k ∷ z → p ≡ z
    tails k p z e = cc

spread_apart : (f : ℕ → ℕ) (ts : List Node) → ((i j : ℕ) → f i ≡ f j → i ≡ j) → ((i : ℕ) (c : Node) → slice_get ts i ≡ Some c → AllApart (λ p q. p ≢ q) (all_paths c)) → AllApart (λ (p q : Path). p ≢ q) (spread f (map all_paths ts))
spread_apart f [] inj h = tt
spread_apart f (t ∷ ts) inj h =
    apart_append (λ (p q : Path). p ≢ q) (map (λ p. f zero ∷ p) (all_paths t)) (spread (λ i. f (suc i)) (map all_paths ts)) (under_apart (f zero) (all_paths t) (h zero t refl))
    (spread_apart (λ i. f (suc i)) ts (λ i j e. before i j (inj (suc i) (suc j) e)) (λ i. h (suc i)))
    (λ p q i j e.
    let (a, x, is) = in_map (λ p. f zero ∷ p) p (all_paths t) i in
    let (k, y, one) = from_spread (λ i. f (suc i)) (map all_paths ts) q j in
    none k (inj zero (suc k) (heads (f zero) (f (suc k)) a y (is ∙ e ∙ sym one))))
  where
    before : (i j : ℕ) → suc i ≡ suc j → i ≡ j
    before i j e = cc

    none : (k : ℕ) → zero ≡ suc k → ⊥
    none k e = absurd (cc)

    heads : (a b : ℕ) (x y : Path) → a ∷ x ≡ b ∷ y → a ≡ b
    heads a b x y e = cc

pub paths_apart : (t : Node) → AllApart (λ (p q : Path). p ≢ q) (all_paths t)
paths_apart = by_children (λ t. AllApart (λ (p q : Path). p ≢ q) (all_paths t))
    (λ t below. subst (AllApart (λ (p q : Path). p ≢ q)) (sym (all_paths_out t)) (
      each_of (λ q. [] ≢ q) (spread (λ i. i) (map all_paths (children_in (out-Node t)))) (λ q i e. let (k, y, one) = from_spread (λ i. i) (map all_paths (children_in (out-Node t))) q i in nil k y (e ∙ sym one)),
      spread_apart (λ i. i) (children_in (out-Node t)) (λ i j e. e) below,
    ))
  where
    nil : (k : ℕ) (y : Path) → [] ≡ k ∷ y → ⊥
    nil k y e = absurd (cc)

-- the sets of different paths
pub sets_apart : (Q : List Binding → List Binding → Type 0) (G : Path → List Binding) → ((s u : Path) (b c : Binding) → s ≢ u → In b (G s) → In c (G u) → Q (G s) (G u)) → (ps : List Path) → AllApart (λ p q. p ≢ q) ps
    → AllApart Q (flat_map (λ s. set_of (G s)) ps)
sets_apart Q G h [] a = tt
sets_apart Q G h (p ∷ ps) a =
    apart_append Q (set_of (G p)) (flat_map (λ s. set_of (G s)) ps) (alone (G p)) (sets_apart Q G h ps a.1)
    (λ x y i j. let (u, k, l) = flat_from (λ s. set_of (G s)) y ps j in
    let (b, z, is) = of_set (G p) x i in
    let (c, v, one) = of_set (G u) y l in
    subst (λ x. Q x y) is (subst (Q (G p)) one (h p u b c (each_at (λ q. p ≢ q) u ps a.0 k) z v)))
  where
    alone : (T : List Binding) → AllApart Q (set_of T)
    alone [] = tt
    alone (b ∷ bs) = (tt, tt)

    of_set : (T x : List Binding) → In x (set_of T) → (b : Binding) × In b T × (T ≡ x)
    of_set [] x h = absurd h
    of_set (b ∷ bs) x (inl e) = (b, inl refl, e)
    of_set (b ∷ bs) x (inr h) = absurd h

abbrev NoneShared : List Binding → List Binding → Type 0
NoneShared xs ys = (b c : Binding) → In b xs → In c ys → b.1.sym ≡ c.1.sym → ⊥

-- where each name is taken by one scope, so it is in a tree whose sets are fewer
pub one_taker_of_fewer : (t n : Node) → Sub (S program_place n).sets (S program_place t).sets → OneTaker t → OneTaker n
one_taker_of_fewer t n sets one s u b c i j same = by_case (pointwise nat_eq s u) refl
  where
    in_t : AllApart NoneShared (S program_place t).sets
    in_t = subst (AllApart NoneShared) (sym (sets_are t program_place)) (sets_apart NoneShared (taken_by program_place t) (λ s u d e ne x y b c i j same. ne (one s u b c i j same)) (all_paths t) (paths_apart t))

    in_n : AllApart NoneShared (S program_place n).sets
    in_n = sub_apart NoneShared (S program_place n).sets (S program_place t).sets sets in_t

    by_case : (z : Bool) → pointwise nat_eq s u ≡ z → s ≡ u
    by_case true e = same_text s u (sym e)
    by_case false e = absurd (⊎_elim (λ q. q b c i j same) (λ q. q c b j i (sym same)) (scopes_apart NoneShared program_place n in_n s u b c (other_text s u (sym e)) i j))

-- a name of one scope is taken by one scope
pub as_taken : (t : Node) (r : Standing) (p s : Path) (x : List ℕ) → r ≢ standing.SloppyFunction → DeclaredBy t p r x s → taker r t p ≡ Some s
as_taken t standing.SloppyFunction p s x n h = absurd (n refl)
as_taken t _ p s x n h = h

some_path : (s u : Path) → Some s ≡ Some u → s ≡ u
some_path s u e = cc

pub one_taker : (t : Node) → IsPlain t → EachInOneScope t → OneTaker t
one_taker t plain each s u b c i j same = some_path s u (sym (second u c j same))
  where
    stands : (s : Path) (b : Binding) (h : Bound t s b.0 b.1.sym) → Stands t h.path b.0 b.1.sym
    stands s b h = record { place = h.place; kind = h.kind; identifier = h.identifier; stands = h.stands; stands_so = h.stands_so; named = h.named }

    second : (u : Path) (c : Binding) → In c (taken_by program_place t u) → b.1.sym ≡ c.1.sym → Some u ≡ Some s
    second u c j same =
        let x = in_bound t plain s b i in
        let y = in_bound t plain u c j in
        let bx : Binds t x.path b.0 b.1.sym = record { at = stands s b x; binds = bound_binds t s b.0 b.1.sym x } in
        let st : Stands t y.path c.0 b.1.sym = record { place = y.place; kind = y.kind; identifier = y.identifier; stands = y.stands; stands_so = y.stands_so; named = y.named ∙ sym same } in
        let by : Binds t y.path c.0 b.1.sym = record { at = st; binds = bound_binds t u c.0 c.1.sym y } in
        let o = each b.1.sym (x.path, b.0, bx) in
        let mine = as_taken t b.0 x.path o.scope b.1.sym (not_sloppy t plain x.path b.0 b.1.sym bx.at) (o.bindings x.path b.0 bx) in
        let theirs = as_taken t c.0 y.path o.scope b.1.sym (not_sloppy t plain y.path c.0 b.1.sym st) (o.bindings y.path c.0 by) in
        sym y.taken ∙ theirs ∙ sym mine ∙ x.taken

-- what has fewer names, and copies of some, has each in one scope too
pub scopes_of_kept : (t n : Node) → IsPlain t → IsPlain n → AreKept (S program_place n).sites (S program_place t).sites → Sub (S program_place n).sets (S program_place t).sets → EachInOneScope t → EachInOneScope n
scopes_of_kept t n p q kept sets each = each_in_one_scope t n p q kept (one_taker_of_fewer t n sets (one_taker t p each)) each

pub scopes_of_fewer : (t n : Node) → IsPlain t → IsPlain n → Fewer (S program_place n) (S program_place t) → EachInOneScope t → EachInOneScope n
scopes_of_fewer t n p q fewer each = scopes_of_kept t n p q (fewer_kept (S program_place n).sites (S program_place t).sites fewer.sites) fewer.sets each
