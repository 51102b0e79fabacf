-- What is read off a layout says of loose and of bound ids what the definitions do.
use Rattle.std.proofs.Common.{◌≡◌, ◌↔◌, ℕ, zero, suc, Bool, true, false, IsTrue, ◌&&◌, ◌||◌, Some, List, [], ◌∷◌, length, refl, sym, ap, ◌∙◌, subst}
use Rattle.std.specs.Prelude.{not}
use Rattle.std.specs.List.{list_any, slice_get}
use Rattle.std.specs.Str.{bytes_eq}
use Rattle.std.specs.BTreeSet.{contains_text}
use Rattle.std.specs.Cmp.Lexicographic.{bytes_decides}
use Rattle.std.proofs.lemmas.Option.{slice_get_within}
use Rattle.swc_tree_node.specs.declared.node.Node.{Node}
use Rattle.swc_tree_scoping.specs.Places.{Path}
use Rattle.swc_tree_scoping.specs.Scopes.{is_binding}
use Rattle.swc_tree_scoping.specs.BoundNames.{Id}
use Rattle.swc_base_rename_analysis.specs.declared.analysis.Analysis.{Analysis}
use Rattle.swc_base_rename_analysis.specs.Ids.{IsBound}
use Rattle.swc_base_rename_analysis.specs.Numbers.{Known, id_met, known_by, known_of}
use Rattle.swc_base_rename_analysis.specs.Preserved.{IsLoose}
use Rattle.swc_base_rename_analysis.specs.Read.{IsRead, is_loose}
use Rattle.swc_base_rename_analysis.specs.Walk.{Laid}
use Rattle.swc_base_rename_analysis_laws.specs.Placed.{IsMetAs, IsMetAt, IsPlaced, Use, at_path}
use Rattle.swc_base_rename_analysis_laws.specs.Means.{IsToldBound}
use Rattle.swc_base_rename_analysis_laws.proofs.Items.{some_same, unmapped}
use Rattle.swc_base_rename_analysis_laws.proofs.Known.{all_known, entry_at, is_numbered, known_at, one_known}
use Rattle.swc_base_rename_analysis_laws.proofs.OneKnown.{Binds, IsBoundIn, IsOutsideIn, SomeMet, StandsOutside, bound_told, id_stays, is_known, outside_told, was_met}
use Rattle.swc_base_rename_analysis_laws.proofs.IdsRead.{binding_names, both_so, entry_known, is_not, met_use, names_or_labels, not_so, of_that_id, so_both, stands_once, use_met}

-- a list that has an item which is so
any_at : {X : Type 0} (p : X → Bool) (xs : List X) → list_any p xs ≡ true → (i : ℕ) × (x : X) × (slice_get xs i ≡ Some x) × (p x ≡ true)
any_at p [] h = absurd (cc)
any_at {X} p (x ∷ xs) h = by (λ g. any_at p xs g) (p x) refl h
  where
    by : (list_any p xs ≡ true → (i : ℕ) × (y : X) × (slice_get xs i ≡ Some y) × (p y ≡ true)) → (b : Bool) → p x ≡ b → (b || list_any p xs) ≡ true → (i : ℕ) × (y : X) × (slice_get (x ∷ xs) i ≡ Some y) × (p y ≡ true)
    by more true e h = (zero, x, refl, e)
    by more false e h = let (i, y, there, so) = more h in (suc i, y, there, so)

any_by : {X : Type 0} (p : X → Bool) (xs : List X) (i : ℕ) (x : X) → slice_get xs i ≡ Some x → p x ≡ true → list_any p xs ≡ true
any_by p [] i x h g = absurd (cc)
any_by p (a ∷ xs) zero x h g = let same : a ≡ x = some_same h in λ j. (ap p same ∙ g) j || list_any p xs
any_by p (a ∷ xs) (suc i) x h g = by (p a) (any_by p xs i x h g)
  where
    by : (b : Bool) → list_any p xs ≡ true → (b || list_any p xs) ≡ true
    by true e = refl
    by false e = e

-- contexts
abbrev any_context : List ℕ → Bool
any_context [] = false
any_context (m ∷ ms) = true

marked_from : (c : List ℕ) → any_context c ≡ true → c ≡ [] → ⊥
marked_from c h e = let both : true ≡ false = sym h ∙ ap any_context e in absurd (cc)

marked_to : (c : List ℕ) → (c ≡ [] → ⊥) → any_context c ≡ true
marked_to [] n = absurd (n refl)
marked_to (m ∷ c) n = refl

module _ (t : Node) (l : Laid) (scopes : List Path) (uses : List Use) (placed : IsPlaced t l scopes uses) where
  -- what an identifier binds is bound
  bound_to : (x : Id) → IsBound t x → IsBoundIn (one_known l.names (length l.names) x)
  bound_to x (p, r, stands, binds) =
      let m = use_met t l scopes uses placed (at_path p) (placed.all_met p r x stands (names_or_labels r (binding_names r binds))) in
      let met : IsMetAt t scopes l.regions p m.name = m.met in
      let (same, of_id) = stands_once t p m.name.standing r (id_met m.name) x met.stands stands in
      let some : SomeMet Binds l.names (length l.names) x = record {
        position = m.position;
        name = m.name;
        before = slice_get_within l.names m.position m.name m.name_there;
        there = m.name_there;
        of_id = of_id;
        told = ap is_binding same ∙ binds;
      } in
      is_known IsBoundIn Binds bound_told l.names (length l.names) x some

  bound_from : (x : Id) → IsBoundIn (one_known l.names (length l.names) x) → IsBound t x
  bound_from x h =
      let some : SomeMet Binds l.names (length l.names) x = was_met IsBoundIn Binds bound_told l.names (length l.names) x h in
      let (u, there, met) = met_use t l scopes uses placed some.position some.name some.there in
      by some u.own u.path met
    where
      by : (some : SomeMet Binds l.names (length l.names) x) (own : Bool) (p : Path) → IsMetAs t scopes l.regions own p some.name → IsBound t x
      by some false p met = (p, some.name.standing, of_that_id t p some.name.standing (id_met some.name) x met.stands some.of_id, some.told)
      by some true p met = (p, met.bound_as, of_that_id t p met.bound_as (id_met some.name) x met.stands some.of_id, met.binds)

  -- a loose id
  loose_from : (x : Id) → is_loose (one_known l.names (length l.names) x) ≡ true → any_context x.1 ≡ true → IsLoose t x
  loose_from x h marked =
      let e : Known = one_known l.names (length l.names) x in
      let (outside, rest) = both_so e.stands_outside (not e.is_bound && any_context e.id.1) h in
      let (free, _) = both_so (not e.is_bound) (any_context e.id.1) rest in
      let some : SomeMet StandsOutside l.names (length l.names) x = was_met IsOutsideIn StandsOutside outside_told l.names (length l.names) x outside in
      let (u, there, met) = met_use t l scopes uses placed some.position some.name some.there in
      by (λ b. is_not e.is_bound free (bound_to x b)) some u.own u.path met
    where
      by : (IsBound t x → ⊥) → (some : SomeMet StandsOutside l.names (length l.names) x) (own : Bool) (p : Path) → IsMetAs t scopes l.regions own p some.name → IsLoose t x
      by free some false p met = record {
        path = p;
        standing = some.name.standing;
        stands = of_that_id t p some.name.standing (id_met some.name) x met.stands some.of_id;
        named = met.named;
        outside = λ i. is_not some.name.exported some.told (met.exported.1 i);
        marked = marked_from x.1 marked;
        unbound = free;
      }
      by free some true p met = absurd (free (p, met.bound_as, of_that_id t p met.bound_as (id_met some.name) x met.stands some.of_id, met.binds))

  loose_to : (x : Id) → IsLoose t x → (k : ℕ) × (e : Known) × (slice_get (known_by l.names (length l.names)) k ≡ Some e) × (e.id ≡ x) × (is_loose e ≡ true)
  loose_to x o =
      let f : Id → Known = one_known l.names (length l.names) in
      let m = use_met t l scopes uses placed (at_path o.path) (placed.all_met o.path o.standing x o.stands o.named) in
      let met : IsMetAt t scopes l.regions o.path m.name = m.met in
      let (_, of_id) = stands_once t o.path m.name.standing o.standing (id_met m.name) x met.stands o.stands in
      let before = slice_get_within l.names m.position m.name m.name_there in
      let some : SomeMet StandsOutside l.names (length l.names) x = record {
        position = m.position;
        name = m.name;
        before = before;
        there = m.name_there;
        of_id = of_id;
        told = not_so m.name.exported (λ i. o.outside (met.exported.0 i));
      } in
      let outside : IsOutsideIn (f x) = is_known IsOutsideIn StandsOutside outside_told l.names (length l.names) x some in
      let free : not (f x).is_bound ≡ true = not_so (f x).is_bound (λ b. o.unbound (bound_from x b)) in
      let context : any_context (f x).id.1 ≡ true = ap (λ (y : Id). any_context y.1) (id_stays l.names (length l.names) x) ∙ marked_to x.1 o.marked in
      let (k, number) = is_numbered l.names (length l.names) m.position m.name before m.name_there in
      let (e, there, same) = entry_at (known_by l.names (length l.names)) (id_met m.name) k number in
      let of_x : e.id ≡ x = same ∙ of_id in
      let known : e ≡ f x = known_at f (known_by l.names (length l.names)) (all_known l.names (length l.names)).all k e there ∙ ap f of_x in
      (k, e, there, of_x, ap is_loose known ∙ so_both (f x).stands_outside (not (f x).is_bound && any_context (f x).id.1) outside (so_both (not (f x).is_bound) (any_context (f x).id.1) free context))

module _ (t : Node) (a : Analysis) (l : Laid) (scopes : List Path) (uses : List Use) (placed : IsPlaced t l scopes uses) (read : IsRead l a) where
  abbrev is_of : List ℕ → Known → Bool
  is_of text e = is_loose e && bytes_eq e.id.0 text

  text_from : (text : List ℕ) → IsTrue (contains_text a.loose text) → (x : Id) × (x.0 ≡ text) × IsLoose t x
  text_from text h =
      let f : Id → Known = one_known l.names (length l.names) in
      let (k, e, there, so) = any_at (is_of text) (known_by l.names (length l.names)) (sym (read.loose text) ∙ h) in
      let (loose, same) = both_so (is_loose e) (bytes_eq e.id.0 text) so in
      let known : e ≡ f e.id = known_at f (known_by l.names (length l.names)) (all_known l.names (length l.names)).all k e there in
      let (_, rest) = both_so e.stands_outside (not e.is_bound && any_context e.id.1) loose in
      let (_, context) = both_so (not e.is_bound) (any_context e.id.1) rest in
      (e.id, (bytes_decides e.id.0 text).0 same, loose_from t l scopes uses placed e.id (ap is_loose (sym known) ∙ loose) context)

  text_to : (text : List ℕ) → (x : Id) × (x.0 ≡ text) × IsLoose t x → IsTrue (contains_text a.loose text)
  text_to text (x, same, o) =
      let (k, e, there, of_x, loose) = loose_to t l scopes uses placed x o in
      read.loose text ∙ any_by (is_of text) (known_by l.names (length l.names)) k e there
      (so_both (is_loose e) (bytes_eq e.id.0 text) loose ((bytes_decides e.id.0 text).1 (ap (λ (y : Id). y.0) of_x ∙ same)))

  pub loose_so : (text : List ℕ) → IsTrue (contains_text a.loose text) ↔ ((x : Id) × (x.0 ≡ text) × IsLoose t x)
  loose_so text = (text_from text, text_to text)

  -- an id is told to be bound where it is
  told_from : (x : Id) → IsToldBound a x → IsBound t x
  told_from x (k, e, there, same, told) = bound_from t l scopes uses placed x (subst IsBoundIn (entry_known l a read k e there ∙ ap (one_known l.names (length l.names)) same) told)

  told_to : (x : Id) → IsBound t x → IsToldBound a x
  told_to x b =
      let (p, r, stands, binds) = b in
      let m = use_met t l scopes uses placed (at_path p) (placed.all_met p r x stands (names_or_labels r (binding_names r binds))) in
      let met : IsMetAt t scopes l.regions p m.name = m.met in
      let (_, of_id) = stands_once t p m.name.standing r (id_met m.name) x met.stands stands in
      let (k, number) = is_numbered l.names (length l.names) m.position m.name (slice_get_within l.names m.position m.name m.name_there) m.name_there in
      let (f, there, same) = entry_at (known_by l.names (length l.names)) (id_met m.name) k number in
      let (e, entry, known) = unmapped known_of a.ids.items k f (ap (λ es. slice_get es k) read.ids ∙ there) in
      let of_x : e.id ≡ x = ap (λ (f : Known). f.id) known ∙ same ∙ of_id in
      (k, e, entry, of_x, subst IsBoundIn (sym (entry_known l a read k e entry ∙ ap (one_known l.names (length l.names)) of_x)) (bound_to t l scopes uses placed x b))

  pub bound_so : (x : Id) → IsToldBound a x ↔ IsBound t x
  bound_so x = (told_from x, told_to x)
