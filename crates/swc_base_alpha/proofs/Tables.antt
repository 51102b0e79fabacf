-- A table of partners: one more look into it, and what it tells of the pairs that were seen.
use Rattle.std.proofs.Common.{◌≡◌, ℕ, Bool, true, false, ◌&&◌, IsTrue, ◌↔◌, ⊎_elim, Option, Some, None, List, [], ◌∷◌, Bor, Contains, cond, refl, sym, ap, ◌∙◌, subst}
use Rattle.std.specs.Prelude.{nat_eq}
use Rattle.std.specs.Option.{IfSome, option_map}
use Rattle.std.specs.Cmp.{IsTotalOrder}
use Rattle.std.specs.Ordering.{is_eq, nat_cmp, ordering_then}
use Rattle.std.specs.declared.cmp.Ordering.{Ordering}
use Rattle.std.specs.declared.cmp.Ordering.TheVariants.{Less, Equal, Greater}
use Rattle.std.specs.Cmp.Lexicographic.{pointwise, slice_cmp, bytes_decides, nat_list_cmp_total}
use Rattle.std.specs.Map.{AreApart, IsKeyTest, KeepsOthers, lookup}
use Rattle.std.specs.BTreeMap as tree
use Rattle.std.specs.BTreeMap.{BTreeMap, get_by, is_at}
use Rattle.std.proofs.lemmas.Cmp.{eq_by_cmp_equiv, on_total, then_total}
use Rattle.std.proofs.lemmas.Map.Text.{is_eq-slice_cmp}
use Rattle.swc_tree_marks.specs.declared.ident.Ident.{Ident}
use Rattle.swc_tree_scoping.specs.Scopes.{is_name}
use Rattle.swc_tree_renaming.specs.Apart.{SameId}
use Rattle.swc_tree_renaming.proofs.Core.{cases_in, head_in, none_in, tail_in}
use Rattle.swc_base_alpha.specs.Side.{Seen}
use Rattle.swc_base_alpha.specs.Pairs.{EachPair, StaysOne}
use Rattle.swc_base_alpha.specs.Partners.{Agrees, Id, Table, id_of, is_same, or_else, with_pair}
use Rattle.swc_base_alpha.proofs.SideBySide.{each_later, each_more, each_none}

-- ---- ids

both_so : (a b : Bool) → (a && b) ≡ true → (a ≡ true) × (b ≡ true)
both_so true b h = (refl, h)
both_so false b h = absurd (cc)

so_both : (a b : Bool) → a ≡ true → b ≡ true → (a && b) ≡ true
so_both true b h k = k
so_both false b h k = absurd (cc)

one_id : (x y : Id) → is_same x y ≡ true → x ≡ y
one_id x y h = let (e, f) = both_so (pointwise nat_eq x.0 y.0) (pointwise nat_eq x.1 y.1) h in λ j. ((bytes_decides x.0 y.0).0 e j, (bytes_decides x.1 y.1).0 f j)

same_one : (x y : Id) → x ≡ y → is_same x y ≡ true
same_one x y e = subst (λ y. is_same x y ≡ true) e (so_both (pointwise nat_eq x.0 x.0) (pointwise nat_eq x.1 x.1) ((bytes_decides x.0 x.0).1 refl) ((bytes_decides x.1 x.1).1 refl))

-- one id, as identifiers have it
ids_same : (i j : Ident) → SameId i j → id_of i ≡ id_of j
ids_same i j (text, context) = λ k. (context k, text k)

same_ids : (i j : Ident) → id_of i ≡ id_of j → SameId i j
same_ids i j e = (ap (λ (x : Id). x.1) e, ap (λ (x : Id). x.0) e)

-- ---- the map

abbrev id_cmp : Id → Id → Ordering
id_cmp x y = ordering_then (slice_cmp nat_cmp x.0 y.0) (slice_cmp nat_cmp x.1 y.1)

both_equal : (o p : Ordering) → is_eq (ordering_then o p) ≡ (is_eq o && is_eq p)
both_equal Less p = refl
both_equal Equal p = refl
both_equal Greater p = refl

compared_same : (x y : Id) → is_eq (id_cmp x y) ≡ is_same x y
compared_same x y = both_equal (slice_cmp nat_cmp x.0 y.0) (slice_cmp nat_cmp x.1 y.1) ∙ (λ j. is_eq-slice_cmp x.0 y.0 j && is_eq-slice_cmp x.1 y.1 j)

ids_total : IsTotalOrder id_cmp
ids_total = then_total (on_total (λ (x : Id). x.0) nat_list_cmp_total) (on_total (λ (x : Id). x.1) nat_list_cmp_total)

abbrev pub Key : Type 0
Key = Bor (List ℕ) × Bor (List ℕ)

abbrev pub id_in : Key → Id
id_in k = (k.0.now, k.1.now)

abbrev pub found : {X : Type 0} → BTreeMap Key X → Id → Option X
found m x = get_by (λ k. id_cmp x (id_in k)) m

impossible : {A : Type 0} → false ≡ true → A
impossible h = absurd (cc)

module _ {X : Type 0} (eq : Key → Key → Bool) (test : Key → Bool) where
  other_entries : (old new : List (Key × X)) → KeepsOthers eq test old new → (other : Key → Bool) → IsKeyTest eq other → AreApart test other → lookup other new ≡ lookup other old
  unfolding KeepsOthers
  other_entries old new h = h

-- the map has what was put at the id, and of others what it had
updated : {X : Type 0} (m n : BTreeMap Key X) (k : Key) (v : X) → tree.Updates (λ a b. id_cmp (id_in a) (id_in b)) m n k (Some v) → (x : Id) → found n x ≡ cond (is_same (id_in k) x) (Some v) (found m x)
updated m n k v h x = by (is_same (id_in k) x) refl
  where
    no_other : is_same (id_in k) x ≡ false → (a : Key) → is_at (λ b. id_cmp (id_in k) (id_in b)) a ≡ true → (b : Bool) → is_at (λ b. id_cmp x (id_in b)) a ≡ b → b ≡ false
    no_other apart a e false f = refl
    no_other apart a e true f =
        let one : id_in k ≡ id_in a = one_id (id_in k) (id_in a) (sym (compared_same (id_in k) (id_in a)) ∙ e) in
        let other : x ≡ id_in a = one_id x (id_in a) (sym (compared_same x (id_in a)) ∙ f) in
        impossible (sym apart ∙ same_one (id_in k) x (one ∙ sym other))

    by : (b : Bool) → is_same (id_in k) x ≡ b → found n x ≡ cond b (Some v) (found m x)
    by true e = ap (found n) (sym (one_id (id_in k) x e)) ∙ h.1
    by false e = other_entries _ _ _ _ h.3 (is_at (λ b. id_cmp x (id_in b))) (λ a b. (eq_by_cmp_equiv ids_total).congr x (id_in a) (id_in b)) (λ a f. no_other e a f (is_at (λ b. id_cmp x (id_in b)) a) refl)

-- ---- the table

or_none : (o : Option Ident) → o ≡ or_else o None
or_none None = refl
or_none (Some b) = refl

-- what is no name changes nothing
pub unnamed_agrees : (table : Table) (x y : Seen) → is_name x.0 ≡ false → Agrees table x y
unnamed_agrees table x y none name = impossible (sym none ∙ name)

pub unnamed_stays : (table : Table) (x y : Seen) → is_name x.0 ≡ false → (z : Id) → table z ≡ with_pair table x y z
unnamed_stays table x y none z = or_none (table z) ∙ ap (λ b. or_else (table z) (cond (b && is_same (id_of x.1) z) (Some y.1) None)) (sym none)

-- a name whose id has a partner changes nothing
pub known_agrees : (table : Table) (x y : Seen) (b : Ident) (r : Bool) → IsTrue (is_name x.0) → table (id_of x.1) ≡ Some b → IsTrue r ↔ SameId b y.1 → IsTrue r ↔ Agrees table x y
known_agrees table x y b r name known told = (
  λ h n. subst (λ o. IfSome o (λ b. SameId b y.1)) (sym known) (told.0 h),
  λ h. told.1 (subst (λ o. IfSome o (λ b. SameId b y.1)) known (h name)),
)

pub known_stays : (table : Table) (x y : Seen) (b : Ident) → table (id_of x.1) ≡ Some b → (z : Id) → table z ≡ with_pair table x y z
known_stays table x y b known z = by (is_name x.0) (is_same (id_of x.1) z) refl
  where
    by : (n c : Bool) → is_same (id_of x.1) z ≡ c → table z ≡ or_else (table z) (cond (n && c) (Some y.1) None)
    by n true e =
        let there : table z ≡ Some b = ap table (sym (one_id (id_of x.1) z e)) ∙ known in
        there ∙ ap (λ o. or_else o (cond (n && true) (Some y.1) None)) (sym there)
    by true false e = or_none (table z)
    by false false e = or_none (table z)

-- one whose id has none gets it
pub new_agrees : (table : Table) (x y : Seen) → table (id_of x.1) ≡ None → Agrees table x y
new_agrees table x y absent name = subst (λ o. IfSome o (λ b. SameId b y.1)) (sym absent) tt

pub new_known : (table later : Table) (x y : Seen) → IsTrue (is_name x.0) → table (id_of x.1) ≡ None → ((z : Id) → later z ≡ cond (is_same (id_of x.1) z) (Some y.1) (table z)) → (z : Id) → later z ≡ with_pair table x y z
new_known table later x y name absent updates z = updates z ∙ by (is_same (id_of x.1) z) refl ∙ ap (λ b. or_else (table z) (cond (b && is_same (id_of x.1) z) (Some y.1) None)) (sym name)
  where
    by : (c : Bool) → is_same (id_of x.1) z ≡ c → cond c (Some y.1) (table z) ≡ or_else (table z) (cond c (Some y.1) None)
    by true e = ap (λ o. or_else o (Some y.1)) (sym (ap table (sym (one_id (id_of x.1) z e)) ∙ absent))
    by false e = or_none (table z)

-- the same of the map
pub new_found : (m n : BTreeMap Key (Bor Ident)) (k : Key) (v : Bor Ident) (i : Ident) → k.0.now ≡ i.ctxt → k.1.now ≡ i.sym → tree.Updates (λ a b. id_cmp (id_in a) (id_in b)) m n k (Some v)
    → (z : Id) → option_map (λ (b : Bor Ident). b.now) (found n z) ≡ cond (is_same (id_of i) z) (Some v.now) (option_map (λ (b : Bor Ident). b.now) (found m z))
new_found m n k v i context text updates z = ap (option_map (λ (b : Bor Ident). b.now)) (updated m n k v updates z) ∙ by (is_same (id_in k) z) ∙ ap (λ x. cond (is_same x z) (Some v.now) (option_map (λ (b : Bor Ident). b.now) (found m z))) (λ j. (context j, text j))
  where
    by : (c : Bool) → option_map (λ (b : Bor Ident). b.now) (cond c (Some v) (found m z)) ≡ cond c (Some v.now) (option_map (λ (b : Bor Ident). b.now) (found m z))
    by true = refl
    by false = refl

pub looked_up : (m : BTreeMap Key (Bor Ident)) (k : Key) (i : Ident) → k.0.now ≡ i.ctxt → k.1.now ≡ i.sym → (o : Option (Bor Ident)) → o ≡ get_by (λ b. id_cmp (id_in k) (id_in b)) m
    → option_map (λ (b : Bor Ident). b.now) (found m (id_of i)) ≡ option_map (λ (b : Bor Ident). b.now) o
looked_up m k i context text o is = ap (λ x. option_map (λ (b : Bor Ident). b.now) (found m x)) (λ j. (sym context j, sym text j)) ∙ ap (option_map (λ (b : Bor Ident). b.now)) (sym is)

-- ---- what the table tells of pairs

module _ (table later : Table) (x y : Seen) (rest : List (Seen × Seen)) (next : (z : Id) → later z ≡ with_pair table x y z) where
  abbrev Has : Seen → Option Ident → Type 0
  Has w o = IfSome o (λ b. SameId b w.1)

  abbrev new : Seen → Option Ident
  new z = cond (is_name x.0 && is_same (id_of x.1) (id_of z.1)) (Some y.1) None

  step : EachPair (Agrees table) ((x, y) ∷ rest) → StaysOne ((x, y) ∷ rest) → EachPair (Agrees later) rest
  step agree one z w there name = subst (Has w) (sym (next (id_of z.1))) (by (table (id_of z.1)) refl (is_name x.0 && is_same (id_of x.1) (id_of z.1)) refl)
    where
      by : (o : Option Ident) → table (id_of z.1) ≡ o → (b : Bool) → (is_name x.0 && is_same (id_of x.1) (id_of z.1)) ≡ b → Has w (or_else o (cond b (Some y.1) None))
      by (Some b) e c f = subst (Has w) e (agree z w (tail_in (x, y) (z, w) rest there) name)
      by None e true f =
          let (first, same) = both_so (is_name x.0) (is_same (id_of x.1) (id_of z.1)) f in
          one x y z w (head_in (x, y) rest) (tail_in (x, y) (z, w) rest there) first name (same_ids x.1 z.1 (one_id (id_of x.1) (id_of z.1) same))
      by None e false f = tt

  only_rest : StaysOne ((x, y) ∷ rest) → StaysOne rest
  only_rest one a b z w h k = one a b z w (tail_in (x, y) (a, b) rest h) (tail_in (x, y) (z, w) rest k)

  earlier : EachPair (Agrees later) rest → EachPair (Agrees table) rest
  earlier agree z w there name = by (table (id_of z.1)) (new z) (subst (Has w) (next (id_of z.1)) (agree z w there name))
    where
      by : (o p : Option Ident) → Has w (or_else o p) → Has w o
      by (Some b) p h = h
      by None p h = tt

  -- a name later that has the first one's id stands beside one that has the id beside it
  meets : Agrees table x y → EachPair (Agrees later) rest → (z w : Seen) → Contains rest (z, w) → IsTrue (is_name x.0) → IsTrue (is_name z.0) → SameId x.1 z.1 → SameId y.1 w.1
  meets here agree z w there first name same = by (table (id_of x.1)) refl
    where
      ids : id_of x.1 ≡ id_of z.1
      ids = ids_same x.1 z.1 same

      has : (o : Option Ident) → table (id_of x.1) ≡ o → Has w (or_else o (new z))
      has o e = subst (Has w) (next (id_of z.1) ∙ ap (λ o. or_else o (new z)) (ap table (sym ids) ∙ e)) (agree z w there name)

      new_is : new z ≡ Some y.1
      new_is = ap (λ b. cond b (Some y.1) None) (so_both (is_name x.0) (is_same (id_of x.1) (id_of z.1)) first (same_one (id_of x.1) (id_of z.1) ids))

      by : (o : Option Ident) → table (id_of x.1) ≡ o → SameId y.1 w.1
      by (Some b) e =
          let before : SameId b y.1 = subst (Has y) e (here first) in
          let after : SameId b w.1 = has (Some b) e in
          (sym before.0 ∙ after.0, sym before.1 ∙ after.1)
      by None e = subst (Has w) new_is (has None e)

  abbrev Together : Seen × Seen → Seen × Seen → Type 0
  Together p q = IsTrue (is_name p.0.0) → IsTrue (is_name q.0.0) → SameId p.0.1 q.0.1 → SameId p.1.1 q.1.1

  both_one : Agrees table x y → EachPair (Agrees later) rest → StaysOne rest → StaysOne ((x, y) ∷ rest)
  both_one here agree one a b z w h k =
      ⊎_elim
      (λ (e : ◌≡◌ {A = Seen × Seen} (x, y) (a, b)). subst (λ p. Together p (z, w)) e (⊎_elim
      (λ (f : ◌≡◌ {A = Seen × Seen} (x, y) (z, w)). subst (Together (x, y)) f (λ n m s. (refl, refl)))
      (λ far n m s. meets here agree z w far n m s)
      (cases_in (x, y) (z, w) rest k)))
      (λ near. ⊎_elim
      (λ (f : ◌≡◌ {A = Seen × Seen} (x, y) (z, w)). subst (Together (a, b)) f (λ n m s. let turned = meets here agree a b near m n (sym s.0, sym s.1) in (sym turned.0, sym turned.1)))
      (λ far. one a b z w near far)
      (cases_in (x, y) (z, w) rest k))
      (cases_in (x, y) (a, b) rest h)

-- a walk over pairs with a table: names that fell together stay one exactly if what is left agrees with the table and stays one
pub record Walk (ps : List (Seen × Seen)) (table : Table) (rest : List (Seen × Seen)) : Type 0 where
  pub forth : StaysOne ps → EachPair (Agrees table) rest × StaysOne rest
  pub back : EachPair (Agrees table) rest → StaysOne rest → StaysOne ps

pub starts : (ps : List (Seen × Seen)) (table : Table) → ((x : Id) → table x ≡ None) → Walk ps table ps
starts ps table none = record { forth = λ h. ((λ x y there. new_agrees table x y (none (id_of x.1))), h); back = λ a h. h }

pub goes_on : (ps rest left : List (Seen × Seen)) (table later : Table) (x y : Seen) → rest ≡ (x, y) ∷ left → Agrees table x y → ((z : Id) → later z ≡ with_pair table x y z) → Walk ps table rest → Walk ps later left
goes_on ps rest left table later x y is here next w = record {
  forth = λ h. let (agree, one) = subst (λ r. EachPair (Agrees table) r × StaysOne r) is (w.forth h) in (step table later x y left next agree one, only_rest table later x y left next one);
  back = λ agree one. w.back
      (subst (EachPair (Agrees table)) (sym is) (each_more (Agrees table) x y left here (earlier table later x y left next agree)))
      (subst StaysOne (sym is) (both_one table later x y left next here agree one));
}

pub breaks : (ps rest left : List (Seen × Seen)) (table : Table) (x y : Seen) → rest ≡ (x, y) ∷ left → ¬ Agrees table x y → Walk ps table rest → ¬ StaysOne ps
breaks ps rest left table x y is none w h = none (each_later (Agrees table) x y left (subst (EachPair (Agrees table)) is (w.forth h).0)).0

pub ends : (ps rest : List (Seen × Seen)) (table : Table) → rest ≡ [] → Walk ps table rest → StaysOne ps
ends ps rest table is w = w.back (subst (EachPair (Agrees table)) (sym is) (each_none (Agrees table))) (subst StaysOne (sym is) (λ x y z w h. absurd (none_in (x, y) h)))
