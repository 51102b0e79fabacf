-- What is placed in the walk over a whole tree: how many scopes and names there are, in which order they come, and which names
-- stand in which scopes.
use Rattle.std.proofs.Common.{◌≡◌, ◌↔◌, ℕ, ◌<◌, ◌≤◌, Bool, true, false, ◌⊎◌, Some, [], length, map, refl, sym, ap, ◌∙◌, subst, arith, Less, nat_cmp}
use Rattle.std.specs.List.{slice_get}
use Rattle.std.specs.Cmp.Lexicographic.{slice_cmp}
use Rattle.std.proofs.lemmas.List.{length-map}
use Rattle.swc_tree_node.specs.declared.node.Node.{Node}
use Rattle.swc_tree_scoping.specs.Places.{Path}
use Rattle.swc_base_rename_analysis.specs.declared.layout.Region.{Region}
use Rattle.swc_base_rename_analysis.specs.Order.{entry, turns}
use Rattle.swc_base_rename_analysis_laws.specs.Placed.{IsBetween, IsInside, Use, at_path}
use Rattle.swc_base_rename_analysis_laws.proofs.Added.{Added, IsOwnHome, uses_in}
use Rattle.swc_base_rename_analysis_laws.proofs.Good.{IsUnder, Fits, Home, NameFirst, ScopeFirst, use_as, use_of}
use Rattle.swc_base_rename_analysis_laws.proofs.Insides.{inside_home}
use Rattle.swc_base_rename_analysis_laws.proofs.Items.{from_mapped, one_item}
use Rattle.swc_base_rename_analysis_laws.proofs.Lists.{AllFrom, all_at, from_at, pairs_at}
use Rattle.swc_base_rename_analysis_laws.proofs.Marked.{Marked, MarkedScope, marked_out, regions_of}
use Rattle.swc_base_rename_analysis_laws.proofs.Placements.{placement}
use Rattle.swc_base_rename_analysis_laws.proofs.Scoped.{paths_of}

module _ (t : Node) where
  abbrev m : Marked
  m = marked_out t

  a : Added t (IsUnder []) (record { scopes = []; names = [] }) (marked_out t)
  a = placement t

  pub as_many_scopes : length (paths_of (marked_out t)) ≡ length (regions_of (marked_out t))
  as_many_scopes = length-map m.scopes (λ s. s.path) ∙ sym (length-map m.scopes (λ s. s.region))

  pub as_many_uses : length (uses_in (marked_out t)) ≡ length (map (λ n. n.met) (marked_out t).names)
  as_many_uses = length-map m.names (λ n. n.use_) ∙ sym (length-map m.names (λ n. n.met))

  abbrev IsScope : ℕ → MarkedScope → Type 0
  IsScope n s = slice_get a.scopes n ≡ Some s

  scope_at : (n : ℕ) (p : Path) → slice_get (paths_of (marked_out t)) n ≡ Some p → (s : MarkedScope) × IsScope n s × (s.path ≡ p)
  scope_at n p e = let (s, there, same) = from_mapped (λ s. s.path) m.scopes n p e in (s, sym (ap (λ l. slice_get l n) a.scopes_come) ∙ there, same)

  region_at : (n : ℕ) (r : Region) → slice_get (regions_of (marked_out t)) n ≡ Some r → (s : MarkedScope) × IsScope n s × (s.region ≡ r)
  region_at n r e = let (s, there, same) = from_mapped (λ s. s.region) m.scopes n r e in (s, sym (ap (λ l. slice_get l n) a.scopes_come) ∙ there, same)

  home_at : (k : ℕ) (u : Use) → slice_get (uses_in (marked_out t)) k ≡ Some u → (x : Home) × (slice_get a.names k ≡ Some x) × (use_of x ≡ u)
  home_at k u e = from_mapped use_of a.names k u (sym (ap (λ l. slice_get l k) a.uses_come) ∙ e)

  pub inside : (n k : ℕ) (s : Path) (r : Region) (u : Use) → slice_get (paths_of (marked_out t)) n ≡ Some s → slice_get (regions_of (marked_out t)) n ≡ Some r → slice_get (uses_in (marked_out t)) k ≡ Some u → IsBetween r k ↔ IsInside t s u
  inside n k s r u at_scope at_region at_use =
      let (x, there, path) = scope_at n s at_scope in
      let (y, here, region) = region_at n r at_region in
      let (z, named, use_) = home_at k u at_use in
      let one : y ≡ x = one_item (slice_get a.scopes n) y x here there in
      let fits : Fits t x k z = subst (λ i. Fits t x i z) (omega arith) (from_at (Fits t x) 0 a.names (all_at (λ s. AllFrom (Fits t s) 0 a.names) a.scopes a.good.fits n x there) k z named) in
      let own : IsOwnHome t z = all_at (IsOwnHome t) a.names a.owned k z named in
      let other = inside_home t x.path z own in (
        λ b. subst (λ u. IsInside t s u) use_ (subst (λ s. IsInside t s (use_of z)) path (other.0 (fits.0 (subst (λ r. IsBetween r k) (sym region ∙ ap (λ y. y.region) one) b)))),
        λ i. subst (λ r. IsBetween r k) (sym (sym region ∙ ap (λ y. y.region) one)) (fits.1 (other.1 (subst (λ s. IsInside t s (use_of z)) (sym path) (subst (λ u. IsInside t s u) (sym use_) i)))),
      )

  at_place : (b : Bool) (q p : Path) → use_as b q ≡ at_path p → (b ≡ false) × (q ≡ p)
  at_place false q p e = (refl, ap (λ u. u.path) e)
  at_place true q p e = let both : true ≡ false = ap (λ u. u.own) e in absurd (cc)

  pub names_rise : (j k : ℕ) (p q : Path) → j < k → slice_get (uses_in (marked_out t)) j ≡ Some (at_path p) → slice_get (uses_in (marked_out t)) k ≡ Some (at_path q) → slice_cmp nat_cmp (turns (λ _. []) t p) (turns (λ _. []) t q) ≡ Less
  names_rise j k p q less e f =
      let (x, there, use_) = home_at j (at_path p) e in
      let (y, here, other) = home_at k (at_path q) f in
      let (free, at) = at_place x.owned x.place p use_ in
      let (loose, to) = at_place y.owned y.place q other in
      sym (λ i. slice_cmp nat_cmp (turns (λ _. []) t (at i)) (turns (λ _. []) t (to i))) ∙ pairs_at (NameFirst t) a.names a.good.in_turn j k x y less there here free loose

  pub scopes_rise : (i n : ℕ) (s u : Path) → i < n → slice_get (paths_of (marked_out t)) i ≡ Some s → slice_get (paths_of (marked_out t)) n ≡ Some u → slice_cmp nat_cmp (turns entry t s) (turns entry t u) ≡ Less
  scopes_rise i n s u less e f =
      let (x, there, at) = scope_at i s e in
      let (y, here, to) = scope_at n u f in
      sym (λ i. slice_cmp nat_cmp (turns entry t (at i)) (turns entry t (to i))) ∙ (pairs_at (ScopeFirst t) a.scopes a.good.rising i n x y less there here).0

  pub apart : (i n : ℕ) (r q : Region) → i < n → slice_get (regions_of (marked_out t)) i ≡ Some r → slice_get (regions_of (marked_out t)) n ≡ Some q → (r.start ≤ q.start) × ((q.end ≤ r.end) ⊎ (r.end ≤ q.start))
  apart i n r q less e f =
      let (x, there, at) = region_at i r e in
      let (y, here, to) = region_at n q f in
      subst (λ (z : Region × Region). (z.0.start ≤ z.1.start) × ((z.1.end ≤ z.0.end) ⊎ (z.0.end ≤ z.1.start))) (λ i. (at i, to i)) ((pairs_at (ScopeFirst t) a.scopes a.good.rising i n x y less there here).1)

  pub bounds : (n : ℕ) (r : Region) → slice_get (regions_of (marked_out t)) n ≡ Some r → (r.start ≤ r.end) × (r.end ≤ length (map (λ n. n.met) (marked_out t).names))
  bounds n r e =
      let (x, there, at) = region_at n r e in
      let b = all_at _ a.scopes a.good.bounded n x there in
      subst (λ r. (r.start ≤ r.end) × (r.end ≤ length (map (λ n. n.met) (marked_out t).names))) at (b.1, omega (arith, b.2, count, as_many_uses))
    where
      count : length (uses_in (marked_out t)) ≡ length a.names
      count = ap length a.uses_come ∙ length-map a.names use_of
