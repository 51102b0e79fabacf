-- The sites that are read off a layout are those of the definitions.
use Rattle.std.proofs.Common.{◌≡◌, ℕ, zero, suc, ◌<◌, ◌≤◌, ⊎_elim, Bool, true, false, ◌&&◌, IsTrue, Option, Some, None, List, [], ◌∷◌, ◌++◌, length, map, Contains, refl, sym, ap, ◌∙◌, subst, arith}
use Rattle.std.specs.Prelude.{if◌then◌else◌}
use Rattle.std.specs.Option.{unwrap_or}
use Rattle.std.specs.List.{slice_get}
use Rattle.std.proofs.lemmas.List.Elements.{Contains-append_left, Contains-append_right, Contains-append_cases}
use Rattle.std.proofs.lemmas.List.Sorted.{Contains-permutation, IsPermutation-sym}
use Rattle.std.proofs.lemmas.Option.{slice_get_within}
use Rattle.swc_tree_node.specs.declared.node.Node.{Node}
use Rattle.swc_tree_scoping.specs.declared.places.Standing.{Standing}
use Rattle.swc_tree_scoping.specs.declared.places.Standing.TheVariants as standing
use Rattle.swc_tree_scoping.specs.Places.{Path}
use Rattle.swc_tree_scoping.specs.Scopes.{is_binding}
use Rattle.swc_tree_scoping.specs.BoundNames.{Id}
use Rattle.swc_base_rename_analysis.specs.declared.analysis.Analysis.{Analysis}
use Rattle.swc_base_rename_analysis.specs.declared.analysis.Site.{Site}
use Rattle.swc_base_rename_analysis.specs.declared.layout.Region.{Region}
use Rattle.swc_base_rename_analysis.specs.Analysis.{Declares, first_taking, scopes_round}
use Rattle.swc_base_rename_analysis.specs.Numbers.{Known, id_met, is_analysed, known_by, known_of, number_in}
use Rattle.swc_base_rename_analysis.specs.Read.{IsRead, site_of, sites_by, taken_from, taker}
use Rattle.swc_base_rename_analysis.specs.Walk.{Laid, Met}
use Rattle.swc_base_rename_analysis.proofs.Kept.{none_there}
use Rattle.swc_base_rename_analysis_laws.specs.Means.{IsIdOf, IsSiteOf}
use Rattle.swc_base_rename_analysis_laws.specs.Placed.{IsMetAs, IsMetAt, IsNumberOf, IsPlaced, Use, at_path}
use Rattle.swc_base_rename_analysis_laws.proofs.IdsRead.{analysed_from, analysed_to, binding_names, names_or_labels, so_both}
use Rattle.swc_base_rename_analysis_laws.proofs.Items.{contained, from_mapped, item_there, mapped, numbered, one_item, some_same}
use Rattle.swc_base_rename_analysis_laws.proofs.Known.{before_or_last, entry_at, is_numbered, number_stays}

-- a site by the name that it is read off
pub record ReadOff (rs : List Region) (ms : List Met) (n : ℕ) (site : Site) : Type 0 where
  pub met : Met
  pub before : site.position < n
  pub there : slice_get ms site.position ≡ Some met
  pub taken : taker rs met ≡ Some site.scope
  pub known : number_in (known_by ms (suc site.position)) (id_met met) ≡ Some site.id

later : (rs : List Region) (ms : List Met) (n : ℕ) (site : Site) → ReadOff rs ms n site → ReadOff rs ms (suc n) site
later rs ms n site r = record { met = r.met; before = omega (arith, r.before); there = r.there; taken = r.taken; known = r.known }

one_there : {X : Type 0} (x y : X) → Contains (x ∷ []) y → x ≡ y
one_there x y (zero, l, e) = e
one_there x y (suc n, l, e) = absurd (omega (arith, l))

abbrev pub sites_next : List Region → ℕ → Option Met → List Known → List Site → List Site
sites_next rs k None es sites = sites
sites_next rs k (Some m) es sites = sites ++ site_of k (unwrap_or (number_in es (id_met m)) 0) (taker rs m)

pub from_sites : (rs : List Region) (ms : List Met) (n : ℕ) (site : Site) → Contains (sites_by rs ms n) site → ReadOff rs ms n site
from_sites rs ms zero site h = none_there h
from_sites rs ms (suc n) site h = by (slice_get ms n) refl h (λ h. later rs ms n site (from_sites rs ms n site h))
  where
    here : (m : Met) → slice_get ms n ≡ Some m → (o : Option ℕ) → taker rs m ≡ o → Contains (site_of n (unwrap_or (number_in (known_by ms (suc n)) (id_met m)) 0) o) site → ReadOff rs ms (suc n) site
    here m e None taken h = none_there h
    here m e (Some s) taken h =
        let (k, number) = is_numbered ms (suc n) n m (omega arith) e in
        let same : record { scope = s; position = n; id = unwrap_or (number_in (known_by ms (suc n)) (id_met m)) 0 } ≡ site = one_there _ site h in
        let found : ReadOff rs ms (suc n) (record { scope = s; position = n; id = unwrap_or (number_in (known_by ms (suc n)) (id_met m)) 0 }) = record {
          met = m;
          before = omega arith;
          there = e;
          taken = taken;
          known = number ∙ sym (ap (λ o. Some (unwrap_or o 0)) number);
        } in
        subst (ReadOff rs ms (suc n)) same found

    by : (o : Option Met) → slice_get ms n ≡ o → Contains (sites_next rs n o (known_by ms (suc n)) (sites_by rs ms n)) site → (Contains (sites_by rs ms n) site → ReadOff rs ms (suc n) site) → ReadOff rs ms (suc n) site
    by None e h more = more h
    by (Some m) e h more = ⊎_elim more (here m e (taker rs m) refl) (Contains-append_cases (sites_by rs ms n) (site_of n (unwrap_or (number_in (known_by ms (suc n)) (id_met m)) 0) (taker rs m)) site h)

abbrev pub site_at : List Met → ℕ → Met → ℕ → Site
site_at ms k m s = record { scope = s; position = k; id = unwrap_or (number_in (known_by ms (suc k)) (id_met m)) 0 }

pub to_sites : (rs : List Region) (ms : List Met) (n k : ℕ) (m : Met) (s : ℕ) → k < n → slice_get ms k ≡ Some m → taker rs m ≡ Some s → Contains (sites_by rs ms n) (site_at ms k m s)
to_sites rs ms zero k m s less e taken = absurd (omega (arith, less))
to_sites rs ms (suc n) k m s less e taken = ⊎_elim
    (λ (before : k < n). kept (slice_get ms n) (to_sites rs ms n k m s before e taken))
    (λ (same : k ≡ n). last (slice_get ms n) (ap (slice_get ms) (sym same) ∙ e) same)
    (before_or_last k n less)
  where
    kept : (o : Option Met) → Contains (sites_by rs ms n) (site_at ms k m s) → Contains (sites_next rs n o (known_by ms (suc n)) (sites_by rs ms n)) (site_at ms k m s)
    kept None h = h
    kept (Some x) h = Contains-append_left (sites_by rs ms n) (site_of n (unwrap_or (number_in (known_by ms (suc n)) (id_met x)) 0) (taker rs x)) (site_at ms k m s) h

    last : (o : Option Met) → o ≡ Some m → k ≡ n → Contains (sites_next rs n o (known_by ms (suc n)) (sites_by rs ms n)) (site_at ms k m s)
    last None h same = absurd (cc)
    last (Some x) h same =
        let one : x ≡ m = some_same h in
        let new : Contains (site_of k (unwrap_or (number_in (known_by ms (suc k)) (id_met m)) 0) (taker rs m)) (site_at ms k m s) = subst (λ o. Contains (site_of k (unwrap_or (number_in (known_by ms (suc k)) (id_met m)) 0) o) (site_at ms k m s)) (sym taken) (zero, omega arith, refl) in
        Contains-append_right (sites_by rs ms n) (site_of n (unwrap_or (number_in (known_by ms (suc n)) (id_met x)) 0) (taker rs x)) (site_at ms k m s)
        (subst (λ (z : ℕ × Met). Contains (site_of z.0 (unwrap_or (number_in (known_by ms (suc z.0)) (id_met z.1)) 0) (taker rs z.1)) (site_at ms k m s)) (λ i. (same i, sym one i)) new)

-- a number that an id has among some names it has among all
stays_up : (ms : List Met) (x : Id) (k d n : ℕ) → number_in (known_by ms d) x ≡ Some k → d ≤ n → number_in (known_by ms n) x ≡ Some k
stays_up ms x k zero zero h l = h
stays_up ms x k (suc d) zero h l = absurd (omega (arith, l))
stays_up ms x k d (suc n) h l = ⊎_elim
    (λ (before : d < suc n). number_stays ms n x k (stays_up ms x k d n h (omega (arith, before))))
    (λ (same : d ≡ suc n). subst (λ d. number_in (known_by ms d) x ≡ Some k) same h)
    (before_or_last d (suc n) (omega (arith, l)))

id_of_number : (l : Laid) (a : Analysis) → IsRead l a → (x : Id) (k : ℕ) → number_in (known_by l.names (length l.names)) x ≡ Some k → IsIdOf a k x
id_of_number l a read x k h =
    let (e, there, same) = entry_at (known_by l.names (length l.names)) x k h in
    let (entry, here, known) = from_mapped known_of a.ids.items k e (ap (λ es. slice_get es k) read.ids ∙ there) in
    (entry, here, ap (λ (e : Known). e.id) known ∙ same)

number_of : (scopes : List Path) (a : Option ℕ) (b : Option Path) (n : ℕ) → IsNumberOf scopes a b → a ≡ Some n → (s : Path) × (b ≡ Some s) × (slice_get scopes n ≡ Some s)
number_of scopes (Some k) (Some s) n h e = (s, refl, ap (slice_get scopes) (sym (some_same e)) ∙ h)
number_of scopes (Some k) None n h e = absurd h
number_of scopes None b n h e = absurd (cc)

path_of : (scopes : List Path) (a : Option ℕ) (b : Option Path) (s : Path) → IsNumberOf scopes a b → b ≡ Some s → (n : ℕ) × (a ≡ Some n) × (slice_get scopes n ≡ Some s)
path_of scopes (Some k) (Some r) s h e = (k, refl, h ∙ e)
path_of scopes None (Some r) s h e = absurd h
path_of scopes a None s h e = absurd (cc)

-- what a name is taken by
pub taken_parts : (rs : List Region) (m : Met) (n : ℕ) → taker rs m ≡ Some n → IsTrue (is_binding m.standing) × (is_analysed (id_met m) ≡ true) × (taken_from rs m.standing m.scope ≡ Some n)
taken_parts rs m n h = by (is_binding m.standing) (is_analysed (id_met m)) refl refl h
  where
    by : (a b : Bool) → is_binding m.standing ≡ a → is_analysed (id_met m) ≡ b → (if a && b then taken_from rs m.standing m.scope else None) ≡ Some n → IsTrue (is_binding m.standing) × (is_analysed (id_met m) ≡ true) × (taken_from rs m.standing m.scope ≡ Some n)
    by true true e f h = (e, f, h)
    by true false e f h = absurd (cc)
    by false b e f h = absurd (cc)

pub no_binding : {A : Type 0} (r : Standing) → r ≡ standing.Reference → IsTrue (is_binding r) → A
no_binding r e h = let both : false ≡ true = ap is_binding (sym e) ∙ h in absurd (cc)

module _ (t : Node) (a : Analysis) (l : Laid) (scopes : List Path) (uses : List Use) (placed : IsPlaced t l scopes uses) (read : IsRead l a) where
  abbrev places : List Path
  places = map (λ u. u.path) uses

  -- a name that a scope takes declares its id there
  pub declared_at : (own : Bool) (p : Path) (m : Met) (n : ℕ) → IsMetAs t scopes l.regions own p m → taker l.regions m ≡ Some n → (s : Path) × (slice_get scopes n ≡ Some s) × Declares t s p (id_met m)
  declared_at true p m n met taken = no_binding m.standing met.refers ((taken_parts l.regions m n taken).0)
  declared_at false p m n met taken =
      let (binds, analysed, taken_there) = taken_parts l.regions m n taken in
      let (s, first, there) = number_of scopes (taken_from l.regions m.standing m.scope) (first_taking m.standing (scopes_round t p)) n (met.taken m.standing) taken_there in
      (s, there, record { standing = m.standing; stands = met.stands; binds = binds; analysed = analysed_from (id_met m) analysed; taken = first })

  pub read_off : (i : ℕ) (site : Site) → slice_get a.sites.items i ≡ Some site → ReadOff l.regions l.names (length l.names) site
  read_off i site e = from_sites l.regions l.names (length l.names) site (Contains-permutation a.sites.items (sites_by l.regions l.names (length l.names)) site (IsPermutation-sym (sites_by l.regions l.names (length l.names)) a.sites.items read.sites) (contained a.sites.items i site e))

  id_there : (site : Site) (r : ReadOff l.regions l.names (length l.names) site) → IsIdOf a site.id (id_met r.met)
  id_there site r = id_of_number l a read (id_met r.met) site.id (stays_up l.names (id_met r.met) site.id (suc site.position) (length l.names) r.known (omega (arith, r.before)))

  pub use_at : (k : ℕ) → k < length l.names → (u : Use) × (slice_get uses k ≡ Some u)
  use_at k less = item_there uses k (omega (arith, less, placed.as_many_uses))

  pub each_site : (i : ℕ) (site : Site) → slice_get a.sites.items i ≡ Some site → (s p : Path) × (x : Id) × IsSiteOf a scopes places site s p x × Declares t s p x
  each_site i site e =
      let r = read_off i site e in
      let (u, there) = use_at site.position r.before in
      let (s, scope, declares) = declared_at u.own u.path r.met site.scope (placed.met site.position u r.met there r.there) r.taken in
      (s, u.path, id_met r.met, record { scope = scope; place = mapped (λ u. u.path) uses site.position u there; id = id_there site r }, declares)

  pub all_sites : (s p : Path) (x : Id) → Declares t s p x → (i : ℕ) × (site : Site) × (slice_get a.sites.items i ≡ Some site) × IsSiteOf a scopes places site s p x
  all_sites s p x d =
      let (k, there) = numbered uses (at_path p) (placed.all_met p d.standing x d.stands (names_or_labels d.standing (binding_names d.standing d.binds))) in
      let (m, here) = item_there l.names k (omega (arith, slice_get_within uses k (at_path p) there, placed.as_many_uses)) in
      let met : IsMetAt t scopes l.regions p m = placed.met k (at_path p) m there here in
      let same = some_same {a = (m.standing, id_met m)} {b = (d.standing, x)} (sym met.stands ∙ d.stands) in
      let (n, taken, scope) = path_of scopes (taken_from l.regions d.standing m.scope) (first_taking d.standing (scopes_round t p)) s (met.taken d.standing) d.taken in
      let takes : taker l.regions m ≡ Some n = ap (λ b. if b then taken_from l.regions m.standing m.scope else None) (so_both (is_binding m.standing) (is_analysed (id_met m)) (ap (λ z. is_binding z.0) same ∙ d.binds) (ap (λ z. is_analysed z.1) same ∙ analysed_to x d.analysed))
      ∙ ap (λ z. taken_from l.regions z.0 m.scope) same ∙ taken in
      let site = site_at l.names k m n in
      let (i, at) = numbered a.sites.items site (Contains-permutation (sites_by l.regions l.names (length l.names)) a.sites.items site read.sites (to_sites l.regions l.names (length l.names) k m n (slice_get_within l.names k m here) here takes)) in
      let r = read_off i site at in
      let one : r.met ≡ m = one_item (slice_get l.names k) r.met m r.there here in
      (i, site, at, record { scope = scope; place = mapped (λ u. u.path) uses k (at_path p) there; id = subst (IsIdOf a site.id) (ap id_met one ∙ ap (λ z. z.1) same) (id_there site r) })
