-- The texts that no name may be are those of the definitions.
use Rattle.std.proofs.Common.{◌≡◌, ◌↔◌, ℕ, Bool, true, ◌&&◌, ◌⊎◌, IsTrue, inl, inr, Some, List, length, refl, sym, ap, ◌∙◌}
use Rattle.std.specs.Prelude.{String}
use Rattle.std.specs.List.{list_any, slice_get}
use Rattle.std.specs.Str.{bytes_eq}
use Rattle.std.specs.BTreeSet.{BTreeSet, contains_text}
use Rattle.std.specs.HashSet.{HashSet, contains, keys}
use Rattle.std.proofs.lemmas.Bool.{and_from, and_parts, or_cases}
use Rattle.std.proofs.lemmas.Map.Views.{hash_set_contains_iff}
use Rattle.std.proofs.lemmas.Slice.Eq.{bytes_eq-Decides}
use Rattle.swc_tree_node.specs.declared.node.Node.{Node}
use Rattle.swc_tree_scoping.specs.Places.{Path}
use Rattle.swc_tree_scoping.specs.BoundNames.{Id}
use Rattle.swc_base_rename_analysis.specs.declared.analysis.Analysis.{Analysis}
use Rattle.swc_base_rename_analysis.specs.declared.numbers.Entry.{Entry}
use Rattle.swc_base_rename_analysis.specs.Ids.{IsBound}
use Rattle.swc_base_rename_analysis.specs.Numbers.{Known, known_by, known_of}
use Rattle.swc_base_rename_analysis.specs.Preserved.{IsLoose, IsPreserved}
use Rattle.swc_base_rename_analysis.specs.Read.{IsRead, is_loose}
use Rattle.swc_base_rename_analysis.specs.Walk.{Laid, laid_out}
use Rattle.swc_base_rename_analysis_laws.specs.Means.{Means}
use Rattle.swc_base_rename_analysis_laws.proofs.Items.{unmapped}
use Rattle.swc_base_rename_naming_laws.proofs.Lists.{any_at, any_contained, any_found, any_in}
use Rattle.swc_base_rename_naming_laws.proofs.Surrounds.{is_either, one_id}
use Rattle.swc_base_rename_substitution.specs.Names.{same_id}
use Rattle.swc_base_rename_program.specs.Left.{any_of_text, is_left_text, leaves_text}
use Rattle.swc_base_rename_program.specs.NewTexts.{IsLeft}
use Rattle.swc_base_rename_program.specs.Renamed.{IsPreservedByTop, IsPreservedInUnit, top_context}
use Rattle.swc_base_rename_program.proofs.Maps.{ids_equivalent}

-- the texts of ids of a set
pub of_preserved : {S : Type 0} (ids : HashSet Id S) (text : List ℕ) → (any_of_text (keys ids) text ≡ true) ↔ ((x : Id) × (x.0 ≡ text) × IsTrue (contains same_id ids x))
of_preserved ids text = (to, from)
  where
    to : any_of_text (keys ids) text ≡ true → (x : Id) × (x.0 ≡ text) × IsTrue (contains same_id ids x)
    to h =
        let (x, at, held) = any_contained (λ id. bytes_eq id.0 text) (keys ids) h in
        (x, (bytes_eq-Decides x.0 text).0 held, (hash_set_contains_iff ids_equivalent one_id ids x).1 at)

    from : ((x : Id) × (x.0 ≡ text) × IsTrue (contains same_id ids x)) → any_of_text (keys ids) text ≡ true
    from (x, is, p) = any_in (λ id. bytes_eq id.0 text) (keys ids) x ((hash_set_contains_iff ids_equivalent one_id ids x).0 p) ((bytes_eq-Decides x.0 text).1 is)

-- where just the texts of preserved ids are given
pub left_is_preserved : {S Z : Type 0} (t : Node) (ids : HashSet Id S) (texts : BTreeSet (String Z)) → ((x : List ℕ) → contains_text texts x ≡ any_of_text (keys ids) x)
    → (text : List ℕ) → IsLeft t texts text ↔ IsPreserved t (contains same_id ids) text
left_is_preserved t ids texts has text = (to, from)
  where
    to : IsLeft t texts text → IsPreserved t (contains same_id ids) text
    to h = elim h [
      | inl loose ↦ (let (x, is, l) = loose in (x, is, inl l))
      | inr given ↦ (let (x, is, p) = (of_preserved ids text).0 (sym (has text) ∙ given) in (x, is, inr p))
    ]

    from : IsPreserved t (contains same_id ids) text → IsLeft t texts text
    from (x, is, why) = elim why [
      | inl loose ↦ inl (x, is, loose)
      | inr kept ↦ inr (has text ∙ (of_preserved ids text).1 (x, is, kept))
    ]

-- what is given from the program is preserved in all of it
pub left_by_top : {Z : Type 0} (top : ℕ) (t : Node) (preserves : Id → Bool) (texts : BTreeSet (String Z)) → ((x : List ℕ) → IsTrue (contains_text texts x) ↔ IsPreservedByTop top t preserves x)
    → (text : List ℕ) → IsLeft t texts text ↔ IsPreservedByTop top t preserves text
left_by_top top t preserves texts are text = (to, λ h. inr ((are text).1 h))
  where
    to : IsLeft t texts text → IsPreservedByTop top t preserves text
    to h = elim h [
      | inl loose ↦ (let (x, is, l) = loose in inl (x, is, inl l))
      | inr given ↦ (are text).0 given
    ]

pub left_in_unit : {Z : Type 0} (top : ℕ) (t : Node) (preserves : Id → Bool) (texts : BTreeSet (String Z)) → ((x : List ℕ) → IsTrue (contains_text texts x) ↔ IsPreservedByTop top t preserves x)
    → (unit : Node) (text : List ℕ) → IsLeft unit texts text ↔ IsPreservedInUnit top t preserves unit text
left_in_unit top t preserves texts are unit text = (to, from)
  where
    to : IsLeft unit texts text → IsPreservedInUnit top t preserves unit text
    to h = elim h [
      | inl loose ↦ (let (x, is, l) = loose in inr (x, is, inl l))
      | inr given ↦ inl ((are text).0 given)
    ]

    own : (x : Id) → x.0 ≡ text → (IsLoose unit x ⊎ IsTrue (preserves x)) → IsLeft unit texts text
    own x is why = elim why [
      | inl loose ↦ inl (x, is, loose)
      | inr kept ↦ inr ((are text).1 (inl (x, is, inr kept)))
    ]

    from : IsPreservedInUnit top t preserves unit text → IsLeft unit texts text
    from h = elim h [
      | inl outer ↦ inr ((are text).1 outer)
      | inr here ↦ (let (x, is, why) = here in own x is why)
    ]

module _ {S : Type 0} (top : ℕ) (t : Node) (a : Analysis) (scopes places : List Path) (read : IsRead (laid_out t) a) (means : Means t a scopes places) (ids : HashSet Id S) (text : List ℕ) where
  abbrev Preserved : Type 0
  Preserved = IsPreservedByTop top t (contains same_id ids) text

  abbrev leaves : Entry → Bool
  leaves e = leaves_text top a e && bytes_eq e.id.0 text

  entry_to : (k : ℕ) (e : Entry) → slice_get a.ids.items k ≡ Some e → leaves e ≡ true → Preserved
  entry_to k e there h =
      let (left, same) = and_parts (leaves_text top a e) (bytes_eq e.id.0 text) h in
      let is : e.id.0 ≡ text = (bytes_eq-Decides e.id.0 text).0 same in
      elim (or_cases (e.is_bound && bytes_eq e.id.1 (top_context top)) (contains_text a.loose e.id.0) left) [
        | inl both ↦
            let (bound, context) = and_parts e.is_bound (bytes_eq e.id.1 (top_context top)) both in
            inr (e.id, is, (bytes_eq-Decides e.id.1 (top_context top)).0 context, (means.bound e.id).0 (k, e, there, refl, bound))
        | inr loose ↦ (let (x, own, l) = (means.loose e.id.0).0 loose in inl (x, own ∙ is, inl l))
      ]

  left_to : is_left_text top a ids text ≡ true → Preserved
  left_to h = elim (or_cases (any_of_text (keys ids) text) (list_any leaves a.ids.items) h) [
    | inl kept ↦ (let (x, is, p) = (of_preserved ids text).0 kept in inl (x, is, inr p))
    | inr some ↦ (let (k, e, there, so) = any_found leaves a.ids.items some in entry_to k e there so)
  ]

  entry_from : (k : ℕ) (e : Entry) → slice_get a.ids.items k ≡ Some e → leaves_text top a e ≡ true → e.id.0 ≡ text → is_left_text top a ids text ≡ true
  entry_from k e there left is =
      is_either (any_of_text (keys ids) text) (list_any leaves a.ids.items)
      (inr (any_at leaves a.ids.items k e there (and_from (leaves_text top a e) (bytes_eq e.id.0 text) left ((bytes_eq-Decides e.id.0 text).1 is))))

  abbrev Names : Laid
  Names = laid_out t

  -- a loose id has an entry
  loose_entry : (x : Id) → x.0 ≡ text → IsLoose t x → is_left_text top a ids text ≡ true
  loose_entry x is loose =
      let held = (means.loose text).1 (x, is, loose) in
      let (k, f, there, so) = any_found (λ (f : Known). is_loose f && bytes_eq f.id.0 text) (known_by Names.names (length Names.names)) (sym (read.loose text) ∙ held) in
      let (e, entry, known) = unmapped known_of a.ids.items k f (ap (λ es. slice_get es k) read.ids ∙ there) in
      let (_, same) = and_parts (is_loose f) (bytes_eq f.id.0 text) so in
      let own : e.id.0 ≡ text = ap (λ (f : Known). f.id.0) known ∙ (bytes_eq-Decides f.id.0 text).0 same in
      entry_from k e entry (is_either (e.is_bound && bytes_eq e.id.1 (top_context top)) (contains_text a.loose e.id.0) (inr (ap (contains_text a.loose) own ∙ held))) own

  bound_entry : (x : Id) → x.0 ≡ text → x.1 ≡ top_context top → IsBound t x → is_left_text top a ids text ≡ true
  bound_entry x is context bound =
      let (k, e, there, same, told) = (means.bound x).1 bound in
      let of_top : bytes_eq e.id.1 (top_context top) ≡ true = (bytes_eq-Decides e.id.1 (top_context top)).1 (ap (λ (x : Id). x.1) same ∙ context) in
      entry_from k e there (is_either (e.is_bound && bytes_eq e.id.1 (top_context top)) (contains_text a.loose e.id.0) (inl (and_from e.is_bound (bytes_eq e.id.1 (top_context top)) told of_top)))
      (ap (λ (x : Id). x.0) same ∙ is)

  own_from : (x : Id) → x.0 ≡ text → (IsLoose t x ⊎ IsTrue (contains same_id ids x)) → is_left_text top a ids text ≡ true
  own_from x is why = elim why [
    | inl loose ↦ loose_entry x is loose
    | inr kept ↦ is_either (any_of_text (keys ids) text) (list_any leaves a.ids.items) (inl ((of_preserved ids text).1 (x, is, kept)))
  ]

  left_from : Preserved → is_left_text top a ids text ≡ true
  left_from h = elim h [
    | inl own ↦ (let (x, is, why) = own in own_from x is why)
    | inr bound ↦ (let (x, is, context, b) = bound in bound_entry x is context b)
  ]

  pub left_means : (is_left_text top a ids text ≡ true) ↔ Preserved
  left_means = (left_to, left_from)
