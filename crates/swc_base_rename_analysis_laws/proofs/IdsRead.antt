-- What is read off a layout says of ids what the definitions do: each id has one number, and it occurs where it stands as a name.
use Rattle.std.proofs.Common.{◌≡◌, ◌↔◌, ℕ, ◌<◌, ◌≤◌, Bool, true, false, IsTrue, ◌&&◌, ◌||◌, ◌⊎◌, inl, inr, ⊎_elim, Some, List, length, map, Contains, refl, sym, ap, ◌∙◌, subst}
use Rattle.std.specs.Prelude.{not, get_or, codes}
use Rattle.std.specs.List.{slice_get}
use Rattle.std.specs.Str.{bytes_eq}
use Rattle.std.specs.Cmp.Lexicographic.{bytes_decides}
use Rattle.std.proofs.lemmas.Option.{get_or_from_slice_get, slice_get-get_or, slice_get_within}
use Rattle.swc_tree_node.specs.declared.node.Node.{Node}
use Rattle.swc_tree_scoping.specs.declared.places.Standing.{Standing}
use Rattle.swc_tree_scoping.specs.declared.places.Standing.TheVariants as standing
use Rattle.swc_tree_scoping.specs.Places.{Path}
use Rattle.swc_tree_scoping.specs.Scopes.{is_binding, is_name, is_reference}
use Rattle.swc_tree_scoping.specs.BoundNames.{Id}
use Rattle.swc_base_rename_analysis.specs.declared.analysis.Analysis.{Analysis}
use Rattle.swc_base_rename_analysis.specs.declared.layout.Region.{Region}
use Rattle.swc_base_rename_analysis.specs.declared.numbers.Entry.{Entry}
use Rattle.swc_base_rename_analysis.specs.Analysis.{IsAnalysed, IsOwnName, IsRound, OccursIn}
use Rattle.swc_base_rename_analysis.specs.Ids.{id_at}
use Rattle.swc_base_rename_analysis.specs.Numbers.{id_met, is_analysed, known_by, known_of, number_in}
use Rattle.swc_base_rename_analysis.specs.Preserved.{is_name_or_label}
use Rattle.swc_base_rename_analysis.specs.Read.{IsRead, Occurs}
use Rattle.swc_base_rename_analysis.specs.Walk.{Laid, Met}
use Rattle.swc_base_rename_analysis_laws.specs.Means.{IsIdOf}
use Rattle.swc_base_rename_analysis_laws.specs.Placed.{IsBetween, IsInside, IsMetAs, IsMetAt, IsPlaced, IsUsedAt, Use, at_path, own_at}
use Rattle.swc_base_rename_analysis_laws.proofs.Items.{item_there, mapped, numbered, one_item}
use Rattle.swc_base_rename_analysis_laws.proofs.Known.{AllApart, all_known, known_at, number_at, one_known}
use Rattle.swc_base_rename_analysis_laws.proofs.OneKnown.{HasPosition, NamesAt, SomeMet, is_known, positions_told, was_met}

-- standings
pub binding_names : (r : Standing) → IsTrue (is_binding r) → IsTrue (is_name r)
binding_names r h = by (is_binding r) h
  where
    by : (b : Bool) → b ≡ true → (b || is_reference r) ≡ true
    by true g = refl
    by false g = absurd (cc)

pub names_or_labels : (r : Standing) → IsTrue (is_name r) → IsTrue (is_name_or_label r)
names_or_labels standing.Label h = refl
names_or_labels _ h = h

pub reference_names : (r : Standing) → r ≡ standing.Reference → IsTrue (is_name r)
reference_names r h = ap is_name h

pub both_so : (a b : Bool) → (a && b) ≡ true → (a ≡ true) × (b ≡ true)
both_so true b h = (refl, h)
both_so false b h = absurd (cc)

pub so_both : (a b : Bool) → a ≡ true → b ≡ true → (a && b) ≡ true
so_both a b h g = λ j. h j && g j

pub is_not : (b : Bool) → not b ≡ true → b ≡ true → ⊥
is_not true n h = absurd (cc)
is_not false n h = absurd (cc)

pub not_so : (b : Bool) → (b ≡ true → ⊥) → not b ≡ true
not_so true n = absurd (n refl)
not_so false n = refl

pub analysed_from : (x : Id) → is_analysed x ≡ true → IsAnalysed x
analysed_from x h e = is_not (bytes_eq x.0 (codes "arguments")) h ((bytes_decides x.0 (codes "arguments")).1 e)

pub analysed_to : (x : Id) → IsAnalysed x → is_analysed x ≡ true
analysed_to x n = not_so (bytes_eq x.0 (codes "arguments")) (λ e. n ((bytes_decides x.0 (codes "arguments")).0 e))

-- a region of a scope
pub as_long : {X Y : Type 0} (xs : List X) (ys : List Y) (i : ℕ) (x : X) → length xs ≡ length ys → slice_get xs i ≡ Some x → (y : Y) × (slice_get ys i ≡ Some y)
as_long xs ys i x e h = item_there ys i (subst (λ n. i < n) e (slice_get_within xs i x h))

module _ (l : Laid) (a : Analysis) (read : IsRead l a) where
  -- the entries are what is known of their ids
  pub entries_apart : AllApart (map known_of a.ids.items)
  entries_apart = subst AllApart (sym read.ids) (all_known l.names (length l.names)).apart

  pub entry_known : (k : ℕ) (e : Entry) → slice_get a.ids.items k ≡ Some e → known_of e ≡ one_known l.names (length l.names) e.id
  entry_known k e h = known_at (one_known l.names (length l.names)) (known_by l.names (length l.names)) (all_known l.names (length l.names)).all k (known_of e) (ap (λ es. slice_get es k) (sym read.ids) ∙ mapped known_of a.ids.items k e h)

  number_here : (k : ℕ) (x : Id) → IsIdOf a k x → number_in (map known_of a.ids.items) x ≡ Some k
  number_here k x (e, h, same) = ap (number_in (map known_of a.ids.items)) (sym same) ∙ number_at (map known_of a.ids.items) entries_apart k (known_of e) (mapped known_of a.ids.items k e h)

  pub ids_apart : (j k : ℕ) (x : Id) → IsIdOf a j x → IsIdOf a k x → j ≡ k
  ids_apart j k x h g = one_item (number_in (map known_of a.ids.items) x) j k (number_here j x h) (number_here k x g)

-- a use, and what was met there
pub record UseMet (t : Node) (l : Laid) (scopes : List Path) (uses : List Use) (u : Use) : Type 0 where
  pub position : ℕ
  pub name : Met
  pub use_there : slice_get uses position ≡ Some u
  pub name_there : slice_get l.names position ≡ Some name
  pub met : IsMetAs t scopes l.regions u.own u.path name

module _ (t : Node) (l : Laid) (scopes : List Path) (uses : List Use) (placed : IsPlaced t l scopes uses) where
  pub use_met : (u : Use) → Contains uses u → UseMet t l scopes uses u
  use_met u c =
      let (k, there) = numbered uses u c in
      let (m, named) = as_long uses l.names k u placed.as_many_uses there in
      record { position = k; name = m; use_there = there; name_there = named; met = placed.met k u m there named }

  pub met_use : (k : ℕ) (m : Met) → slice_get l.names k ≡ Some m → (u : Use) × (slice_get uses k ≡ Some u) × IsMetAs t scopes l.regions u.own u.path m
  met_use k m h = let (u, there) = as_long l.names uses k m (sym placed.as_many_uses) h in (u, there, placed.met k u m there h)

-- an id stands at a path in one way
pub stands_once : (t : Node) (p : Path) (r q : Standing) (x y : Id) → id_at t p ≡ Some (r, x) → id_at t p ≡ Some (q, y) → (r ≡ q) × (x ≡ y)
stands_once t p r q x y h g =
    let same : (r, x) ≡ (q, y) = one_item (id_at t p) (r, x) (q, y) h g in
    ((ap (λ (z : Standing × Id). z.0) same), (ap (λ (z : Standing × Id). z.1) same))

pub of_that_id : (t : Node) (p : Path) (r : Standing) (x y : Id) → id_at t p ≡ Some (r, x) → x ≡ y → id_at t p ≡ Some (r, y)
of_that_id t p r x y h same = h ∙ ap (λ y. Some (r, y)) same

-- what is met where a name with the id stands
pub as_at : (t : Node) (scopes : List Path) (regions : List Region) (own : Bool) (p : Path) (m : Met) → IsMetAs t scopes regions own p m → (r : Standing) × (id_at t p ≡ Some (r, id_met m)) × (IsTrue (is_name m.standing) → IsTrue (is_name r))
as_at t scopes regions false p m h = (m.standing, h.stands, λ n. n)
as_at t scopes regions true p m h = (h.bound_as, h.stands, λ n. binding_names h.bound_as h.binds)

module _ (t : Node) (a : Analysis) (l : Laid) (scopes : List Path) (uses : List Use) (placed : IsPlaced t l scopes uses) (read : IsRead l a) where
  any_inside : (s : Path) (u : Use) → IsInside t s u → IsRound t s u.path ⊎ IsOwnName t s u.path
  any_inside s u i = ⊎_elim (λ (h : IsRound t s u.path). inl h) (λ (h : IsTrue u.own × IsOwnName t s u.path). inr h.1) i

  occurs_from : (n k : ℕ) (s : Path) (x : Id) → slice_get scopes n ≡ Some s → IsIdOf a k x → Occurs a n k → OccursIn t s x
  occurs_from n k s x scope (f, entry, same) (r, e, region, there, (i, below, start, end)) =
      let e_id : e.id ≡ x = ap (λ (e : Entry). e.id) (one_item (slice_get a.ids.items k) e f there entry) ∙ same in
      let j : ℕ = get_or e.positions.items i 0 in
      let among : HasPosition j (known_of e) = (i, slice_get-get_or e.positions.items i 0 below) in
      let met : SomeMet (NamesAt j) l.names (length l.names) x = was_met (HasPosition j) (NamesAt j) (positions_told j) l.names (length l.names) x
      (subst (HasPosition j) (entry_known l a read k e there ∙ ap (one_known l.names (length l.names)) e_id) among) in
      let (names, analysed) = both_so (is_name met.name.standing) (is_analysed x) met.told.1 in
      let (u, use_there, shown) = met_use t l scopes uses placed met.position met.name met.there in
      let between : IsBetween r met.position = subst (IsBetween r) (sym met.told.0) (start, end) in
      let inside : IsInside t s u = (placed.inside n met.position s r u scope (ap (λ rs. slice_get rs n) (sym read.regions) ∙ region) use_there).0 between in
      let (q, stands, named) = as_at t scopes l.regions u.own u.path met.name shown in
      record {
        path = u.path;
        standing = q;
        stands = of_that_id t u.path q (id_met met.name) x stands met.of_id;
        names = named names;
        analysed = analysed_from x analysed;
        inside = any_inside s u inside;
      }

  -- a use in the scope, where a name with the id was met
  occurs_at : (n k : ℕ) (s : Path) (x : Id) (u : Use) (m : UseMet t l scopes uses u) → slice_get scopes n ≡ Some s → IsIdOf a k x → IsAnalysed x → IsTrue (is_name m.name.standing) → id_met m.name ≡ x → IsInside t s u → Occurs a n k
  occurs_at n k s x u m scope (e, entry, same) analysed names of_id inside =
      let (r, region) = as_long scopes l.regions n s placed.as_many_scopes scope in
      let (start, end) : IsBetween r m.position = (placed.inside n m.position s r u scope region m.use_there).1 inside in
      let met : SomeMet (NamesAt m.position) l.names (length l.names) x = record {
        position = m.position;
        name = m.name;
        before = slice_get_within l.names m.position m.name m.name_there;
        there = m.name_there;
        of_id = of_id;
        told = (refl, so_both (is_name m.name.standing) (is_analysed x) names (analysed_to x analysed));
      } in
      let known : HasPosition m.position (one_known l.names (length l.names) x) = is_known (HasPosition m.position) (NamesAt m.position) (positions_told m.position) l.names (length l.names) x met in
      let (i, there) : HasPosition m.position (known_of e) = subst (HasPosition m.position) (sym (entry_known l a read k e entry ∙ ap (one_known l.names (length l.names)) same)) known in
      let at : get_or e.positions.items i 0 ≡ m.position = get_or_from_slice_get e.positions.items i m.position 0 there in (
        r,
        e,
        ap (λ rs. slice_get rs n) read.regions ∙ region,
        entry,
        (i, slice_get_within e.positions.items i m.position there, subst (λ j. r.start ≤ j) (sym at) start, subst (λ j. j < r.end) (sym at) end),
      )

  occurs_to : (n k : ℕ) (s : Path) (x : Id) → slice_get scopes n ≡ Some s → IsIdOf a k x → OccursIn t s x → Occurs a n k
  occurs_to n k s x scope id o = ⊎_elim
      (λ (round : IsRound t s o.path).
      let m = use_met t l scopes uses placed (at_path o.path) (placed.all_met o.path o.standing x o.stands (names_or_labels o.standing o.names)) in
      let met : IsMetAt t scopes l.regions o.path m.name = m.met in
      let (standing, of_id) = stands_once t o.path m.name.standing o.standing (id_met m.name) x met.stands o.stands in
      occurs_at n k s x (at_path o.path) m scope id o.analysed (ap is_name standing ∙ o.names) of_id (inl round))
      (λ (own : IsOwnName t s o.path).
      let m = use_met t l scopes uses placed (own_at o.path) (placed.all_used s o.path o.standing x o.stands own) in
      let met : IsUsedAt t o.path m.name = m.met in
      let (standing, of_id) = stands_once t o.path met.bound_as o.standing (id_met m.name) x met.stands o.stands in
      occurs_at n k s x (own_at o.path) m scope id o.analysed (reference_names m.name.standing met.refers) of_id (inr (refl, own)))
      o.inside

  pub occurs_so : (n k : ℕ) (s : Path) (x : Id) → slice_get scopes n ≡ Some s → IsIdOf a k x → Occurs a n k ↔ OccursIn t s x
  occurs_so n k s x scope id = (occurs_from n k s x scope id, occurs_to n k s x scope id)
