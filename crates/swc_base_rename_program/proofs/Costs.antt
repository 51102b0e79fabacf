-- What it costs to rename a scope: the ids of the numbers that are counted are those that are declared at it or below it.
use Rattle.std.proofs.Common.{◌≡◌, ℕ, suc, ◌==◌, Bool, ◌&&◌, nat_cmp, option_map, Some, List, [], ◌∷◌, Contains, map, refl, sym, ap, eq-eqb, eqb-true, ◌∙◌, subst, arith}
use Rattle.std.specs.BTreeSet.{BTreeSet, IsOrdered, btree_set_len, contains}
use Rattle.std.specs.List.{list_any, slice_get}
use Rattle.std.specs.List.Sorted.{IsStrictlySortedBy}
use Rattle.std.proofs.lemmas.Bool.{and_from, and_parts}
use Rattle.std.proofs.lemmas.Cmp.{nat_cmp_total}
use Rattle.std.proofs.lemmas.List.{length-map}
use Rattle.std.proofs.lemmas.Map.Keys.{below_from_sorted, sorted_tail}
use Rattle.std.proofs.lemmas.Map.Lookups.{exact_unsigned}
use Rattle.std.proofs.lemmas.Map.Views.{btree_set_contains_iff}
use Rattle.swc_tree_node.specs.declared.node.Node.{Node}
use Rattle.swc_tree_scoping.specs.Places.{Path}
use Rattle.swc_tree_scoping.specs.BoundNames.{Id}
use Rattle.swc_base_rename_analysis.specs.declared.analysis.Analysis.{Analysis}
use Rattle.swc_base_rename_analysis.specs.declared.analysis.Site.{Site}
use Rattle.swc_base_rename_analysis.specs.Analysis.{EachOnce, IsDeclaredWithin, RenameCost}
use Rattle.swc_base_rename_analysis.proofs.Kept.{to_map}
use Rattle.swc_base_rename_analysis_laws.specs.Means.{IsIdOf, Means, surrounds}
use Rattle.swc_base_rename_analysis_laws.proofs.Items.{contained, numbered}
use Rattle.swc_base_rename_naming.specs.Steps.{id_or}
use Rattle.swc_base_rename_naming_laws.specs.Rules.{id_in}
use Rattle.swc_base_rename_naming_laws.proofs.Lists.{any_contained, any_in, contains_here, contains_later, mapped_from}
use Rattle.swc_base_rename_program.specs.Cost.{CostsByNumber, IsSitedWithin}

-- numbers in order stand there once each
each_once : (ks : List ℕ) → IsStrictlySortedBy nat_cmp ks → EachOnce ks
each_once [] h = tt
each_once (k ∷ ks) h = (later, each_once ks (sorted_tail nat_cmp k ks h))
  where
    later : Contains ks k → ⊥
    later (j, l, e) = let less = below_from_sorted (k ∷ ks) 0 (suc j) k h (omega arith) (omega (arith, l)) in omega (arith, less, e)

-- a site declares an id at a scope or below it, all by their numbers
abbrev pub is_sited : Analysis → ℕ → ℕ → Site → Bool
is_sited a scope id site = surrounds a scope site.scope && site.id == id

-- a set of just the numbers that are sited at a scope or below it has as many as the cost
pub counted_by : (a : Analysis) (scope cost : ℕ) (ids : BTreeSet ℕ) → IsOrdered nat_cmp ids → ((id : ℕ) → contains nat_cmp ids id ≡ list_any (is_sited a scope id) a.sites.items) → cost ≡ btree_set_len ids
    → CostsByNumber a scope cost
counted_by a scope cost ids ordered has counted = record {
  ids = ids.keys;
  each_once = each_once ids.keys ordered;
  just_these = λ id. (λ there. to id there, λ sited. from id sited);
  counted = sym counted;
}
  where
    to : (id : ℕ) → Contains ids.keys id → IsSitedWithin a scope id
    to id there =
        let (site, stands, h) = any_contained (is_sited a scope id) a.sites.items (sym (has id) ∙ (btree_set_contains_iff nat_cmp_total exact_unsigned ids id).1 there) in
        let (within, same) = and_parts (surrounds a scope site.scope) (site.id == id) h in
        (site, stands, within, eqb-true site.id id same)

    from : (id : ℕ) → IsSitedWithin a scope id → Contains ids.keys id
    from id (site, stands, within, same) =
        let h = and_from (surrounds a scope site.scope) (site.id == id) within (eq-eqb site.id id same) in
        (btree_set_contains_iff nat_cmp_total exact_unsigned ids id).0 (has id ∙ any_in (is_sited a scope id) a.sites.items site stands h)

module _ (t : Node) (a : Analysis) (scopes places : List Path) (means : Means t a scopes places) where
  -- the id of a number
  abbrev named : ℕ → Id
  named k = id_or (id_in a k)

  named_as : (k : ℕ) (x : Id) → IsIdOf a k x → named k ≡ x
  named_as k x (e, at, is) = ap (λ o. id_or (option_map (λ e. e.id) o)) at ∙ is

  abbrev HaveIds : List ℕ → Type 0
  HaveIds ks = (k : ℕ) → Contains ks k → (x : Id) × IsIdOf a k x

  -- the ids of different numbers differ
  ids_once : (ks : List ℕ) → HaveIds ks → EachOnce ks → EachOnce (map named ks)
  ids_once [] h once = tt
  ids_once (k ∷ ks) h (apart, once) = (later, ids_once ks (λ j there. h j (contains_later k ks j there)) once)
    where
      later : Contains (map named ks) (named k) → ⊥
      later c =
          let (j, there, same) = mapped_from named ks (named k) c in
          let (x, is_x) = h k (contains_here k ks) in
          let (y, is_y) = h j (contains_later k ks j there) in
          let one : y ≡ x = sym (named_as j y is_y) ∙ same ∙ named_as k x is_x in
          apart (subst (Contains ks) (means.apart j k x (subst (IsIdOf a j) one is_y) is_x) there)

  -- a number is sited where its id is declared
  sited_to : (n k : ℕ) (s : Path) → slice_get scopes n ≡ Some s → IsSitedWithin a n k → (x : Id) × IsIdOf a k x × IsDeclaredWithin t s x
  sited_to n k s at_s (site, stands, within, same) =
      let (i, found) = numbered a.sites.items site stands in
      let (u, p, x, is, declares) = means.each_site i site found in
      (x, subst (λ k. IsIdOf a k x) same is.id, (u, p, declares, (means.round n i site s u at_s found is.scope).0 within))

  sited_from : (n : ℕ) (s : Path) (x : Id) → slice_get scopes n ≡ Some s → IsDeclaredWithin t s x → (k : ℕ) × IsIdOf a k x × IsSitedWithin a n k
  sited_from n s x at_s (u, p, declares, within) =
      let (i, site, found, is) = means.all_sites u p x declares in
      (site.id, is.id, (site, contained a.sites.items i site found, (means.round n i site s u at_s found is.scope).1 within, refl))

  costs : (n cost : ℕ) (s : Path) → slice_get scopes n ≡ Some s → CostsByNumber a n cost → RenameCost t s cost
  costs n cost s at_s c = record {
    ids = map named c.ids;
    each_once = ids_once c.ids (λ k there. let (x, is, declared) = sited_to n k s at_s ((c.just_these k).0 there) in (x, is)) c.each_once;
    just_these = λ x. (to x, from x);
    counted = length-map c.ids named ∙ c.counted;
  }
    where
      to : (x : Id) → Contains (map named c.ids) x → IsDeclaredWithin t s x
      to x there =
          let (k, stands, same) = mapped_from named c.ids x there in
          let (y, is, declared) = sited_to n k s at_s ((c.just_these k).0 stands) in
          subst (IsDeclaredWithin t s) (sym (named_as k y is) ∙ same) declared

      from : (x : Id) → IsDeclaredWithin t s x → Contains (map named c.ids) x
      from x declared =
          let (k, is, sited) = sited_from n s x at_s declared in
          subst (Contains (map named c.ids)) (named_as k x is) (to_map named c.ids k ((c.just_these k).1 sited))

-- what is counted by numbers is what it costs to rename a scope
pub costs_are : (t : Node) (a : Analysis) (scopes places : List Path) → Means t a scopes places → (n : ℕ) (s : Path) (cost : ℕ) → slice_get scopes n ≡ Some s → CostsByNumber a n cost → RenameCost t s cost
costs_are t a scopes places means n s cost at_s c = costs t a scopes places means n cost s at_s c
