-- How the scopes of an analysis lie in one another, by their numbers and stretches.
use Rattle.std.proofs.Common.{◌≡◌, ℕ, ◌<◌, ◌≤◌, ◌==◌, ◌⊎◌, inl, inr, Bool, true, false, ◌||◌, nat_le, Option, Some, None, option_map, List, length, get_or, refl, sym, ap, eq-eqb, eqb-true, le-leb, leb-true, ◌∙◌, arith}
use Rattle.std.specs.List.{slice_get}
use Rattle.std.proofs.lemmas.Bool.{and_from, and_parts, or_cases, false_from_ne_true}
use Rattle.std.proofs.lemmas.Option.{slice_get-get_or}
use Rattle.std.proofs.lemmas.Slice.Eq.{bytes_eq-Decides}
use Rattle.swc_tree_node.specs.declared.node.Node.{Node}
use Rattle.swc_tree_scoping.specs.Places.{Path}
use Rattle.swc_tree_scoping.specs.BoundNames.{Id}
use Rattle.swc_base_rename_analysis.specs.declared.analysis.Analysis.{Analysis}
use Rattle.swc_base_rename_analysis.specs.declared.layout.Region.{Region}
use Rattle.swc_base_rename_analysis.specs.declared.numbers.Entry.{Entry}
use Rattle.swc_base_rename_analysis.specs.Numbers.{same_id}
use Rattle.swc_base_rename_analysis_laws.specs.Means.{Means, holds_stretch, surrounds}
use Rattle.swc_base_rename_naming.specs.ByIds.{AreApart}
use Rattle.swc_base_rename_naming.specs.Inside.{IsInPreorder}
use Rattle.swc_base_rename_naming_laws.specs.Rules.{id_in, numbered_sites}
use Rattle.swc_base_rename_naming_laws.proofs.Lists.{from_mapped_at, none_is_some, same_some}

pub is_either : (x y : Bool) → (x ≡ true) ⊎ (y ≡ true) → (x || y) ≡ true
is_either true y h = refl
is_either false y h = elim h [ inl e ↦ absurd (cc) | inr e ↦ e ]

stretch_through : (o p q : Option Region) → holds_stretch o p ≡ true → holds_stretch p q ≡ true → holds_stretch o q ≡ true
stretch_through None p q h g = absurd (cc)
stretch_through (Some a) None q h g = absurd (cc)
stretch_through (Some a) (Some b) None h g = absurd (cc)
stretch_through (Some a) (Some b) (Some c) h g =
    let (i, j) = and_parts (nat_le a.start b.start) (nat_le b.end a.end) h in
    let (k, l) = and_parts (nat_le b.start c.start) (nat_le c.end b.end) g in
    let ab = leb-true a.start b.start i in
    let ba = leb-true b.end a.end j in
    let bc = leb-true b.start c.start k in
    let cb = leb-true c.end b.end l in
    and_from (nat_le a.start c.start) (nat_le c.end a.end) (le-leb a.start c.start (omega (arith, ab, bc))) (le-leb c.end a.end (omega (arith, ba, cb)))

pub one_id : (x y : Id) → same_id x y ≡ true → x ≡ y
one_id x y h = let (e, f) = and_parts _ _ h in λ j. ((bytes_eq-Decides x.0 y.0).0 e j, (bytes_eq-Decides x.1 y.1).0 f j)

pub numbered_at : (o : Option Entry) (x : Id) → option_map (λ e. e.id) o ≡ Some x → (e : Entry) × (o ≡ Some e) × (e.id ≡ x)
numbered_at None x h = none_is_some h
numbered_at (Some e) x h = (e, refl, same_some h)

module _ (a : Analysis) where
  abbrev Lies : ℕ → ℕ → Type 0
  Lies m n = (m ≤ n) × (holds_stretch (slice_get a.regions.items m) (slice_get a.regions.items n) ≡ true)

  told : (m n : ℕ) → surrounds a m n ≡ true → (m ≡ n) ⊎ Lies m n
  told m n h = elim (or_cases (m == n) _ h) [
    | inl e ↦ inl (eqb-true m n e)
    | inr e ↦ let (l, s) = and_parts (nat_le m n) _ e in inr (leb-true m n l, s)
  ]

  lies : (m n : ℕ) → Lies m n → surrounds a m n ≡ true
  lies m n (l, s) = is_either (m == n) _ (inr (and_from (nat_le m n) _ (le-leb m n l) s))

  -- a scope is itself
  pub surrounds_own : (s : ℕ) → surrounds a s s ≡ true
  surrounds_own s = is_either (s == s) _ (inl (eq-eqb s s refl))

  -- what lies in a scope lies in those round it
  pub surrounds_through : (s t u : ℕ) → surrounds a s t ≡ true → surrounds a t u ≡ true → surrounds a s u ≡ true
  surrounds_through s t u h g = elim (told s t h) [
    | inl e ↦ ap (λ k. surrounds a k u) e ∙ g
    | inr l ↦ elim (told t u g) [
      | inl e ↦ ap (surrounds a s) (sym e) ∙ h
      | inr m ↦ let below = l.0 in let then = m.0 in lies s u (omega (arith, below, then), stretch_through (slice_get a.regions.items s) (slice_get a.regions.items t) (slice_get a.regions.items u) l.1 m.1)
    ]
  ]

  -- no two scopes lie in one another
  pub surrounds_same : (s t : ℕ) → surrounds a s t ≡ true → surrounds a t s ≡ true → s ≡ t
  surrounds_same s t h g = elim (told s t h) [
    | inl e ↦ e
    | inr l ↦ elim (told t s g) [ inl e ↦ sym e | inr m ↦ let below = l.0 in let then = m.0 in omega (arith, below, then) ]
  ]

  module _ (t : Node) (scopes places : List Path) (means : Means t a scopes places) where
    site_there : (i : ℕ) → i < length (numbered_sites a) → slice_get (numbered_sites a) i ≡ Some (get_or (numbered_sites a) i (0, 0))
    site_there i l = slice_get-get_or (numbered_sites a) i (0, 0) l

    -- between two sites, the first of whose scopes is that of the second or lies round it, stand only such sites
    pub sites_in_preorder : IsInPreorder (surrounds a) (numbered_sites a)
    sites_in_preorder i j k l m within h =
        let (one, x, e) = from_mapped_at (λ s. (s.scope, s.id)) a.sites.items i (get_or (numbered_sites a) i (0, 0)) (site_there i (omega (arith, l, m, within))) in
        let (between, y, f) = from_mapped_at (λ s. (s.scope, s.id)) a.sites.items j (get_or (numbered_sites a) j (0, 0)) (site_there j (omega (arith, m, within))) in
        let (other, z, g) = from_mapped_at (λ s. (s.scope, s.id)) a.sites.items k (get_or (numbered_sites a) k (0, 0)) (site_there k within) in
        (λ n. surrounds a (sym e n).0 (sym f n).0) ∙ means.in_preorder i j k one between other l m x y z ((λ n. surrounds a (e n).0 (g n).0) ∙ h)

    -- no two numbers are of one id
    pub ids_are_apart : AreApart (id_in a)
    ids_are_apart j k x y other one two =
        false_from_ne_true (same_id x y) (λ h. other (means.apart j k y (numbered_at (slice_get a.ids.items j) y (one ∙ ap Some (one_id x y h))) (numbered_at (slice_get a.ids.items k) y two)))
