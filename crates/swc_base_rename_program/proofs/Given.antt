-- What is given by what was read off a tree is what the definitions say.
use Rattle.std.proofs.Common.{◌≡◌, ◌↔◌, ℕ, Bool, true, false, IsTrue, ◌||◌, ◌⊎◌, inl, inr, Option, List, refl, sym, ap, ◌∙◌, subst, Less, Equal, Greater, Ordering}
use Rattle.std.specs.Prelude.{String}
use Rattle.std.specs.BTreeMap.{BTreeMap}
use Rattle.std.specs.BTreeSet.{BTreeSet, contains_text}
use Rattle.std.specs.HashSet.{HashSet, contains, keys}
use Rattle.std.specs.List.{slice_get}
use Rattle.std.specs.Ordering.{is_lt, ordering_then}
use Rattle.std.proofs.lemmas.Bool.{or_cases}
use Rattle.std.proofs.lemmas.List.Sorted.{IsNonDecreasingBy-from_sort}
use Rattle.swc_tree_marks.specs.declared.error.PassError.{PassError}
use Rattle.swc_tree_marks.specs.declared.error.PassError.TheVariants as pass
use Rattle.swc_tree_marks.specs.Contexts.{outer_of}
use Rattle.swc_tree_marks.specs.Globals.{IsDescendant, IsTable, Table}
use Rattle.swc_tree_node.specs.declared.node.Node.{Node}
use Rattle.swc_tree_scoping.specs.BoundNames.{Id}
use Rattle.swc_base_rename_analysis.specs.declared.analysis.Analysis.{Analysis}
use Rattle.swc_base_rename_analysis.specs.Named.{Renaming}
use Rattle.swc_base_rename_analysis.specs.Preserved.{IsPreserved}
use Rattle.swc_base_rename_analysis.specs.Read.{IsRead}
use Rattle.swc_base_rename_analysis.specs.Walk.{laid_out}
use Rattle.swc_base_rename_analysis_laws.proofs.Placings.{placed}
use Rattle.swc_base_rename_analysis_laws.proofs.Readings.{reading_means}
use Rattle.swc_base_rename_naming.specs.ByIds.{text_below}
use Rattle.swc_base_rename_naming.specs.InOrder.{IsRefused}
use Rattle.swc_base_rename_naming.proofs.ByIds.{are_below}
use Rattle.swc_base_rename_naming_laws.specs.Rules.{counting, id_in, numbered_sites}
use Rattle.swc_base_rename_naming_laws.proofs.Names.{names_in_order_are_named}
use Rattle.swc_base_rename_naming_laws.proofs.Surrounds.{ids_are_apart, is_either, sites_in_preorder}
use Rattle.swc_base_rename_substitution.specs.Names.{same_id}
use Rattle.swc_base_rename_substitution.specs.declared.config.Config.{Config}
use Rattle.swc_base_rename_units.specs.Units.{HasUnits, RefusesUnit}
use Rattle.swc_base_rename_program.specs.declared.mode.Mode.{Mode}
use Rattle.swc_base_rename_program.specs.Asked.{AreNamedTexts, IsWellRead, is_preserved_text, program_rules}
use Rattle.swc_base_rename_program.specs.Descends.{descends_from}
use Rattle.swc_base_rename_program.specs.Left.{AreLeftTexts, any_of_text, IsTopRefusal, IsTopTable, IsUnitsRefusal}
use Rattle.swc_base_rename_program.specs.NewTexts.{AreNewTexts, IsLeft, IsNameRefusal}
use Rattle.swc_base_rename_program.specs.Renamed.{HasNames, IsPreservedInUnit, IsRead as IsReading, IsRenameRefusal, IsTopRenaming, renaming}
use Rattle.swc_base_rename_program.proofs.Alike.{named_alike, spent_alike}
use Rattle.swc_base_rename_program.proofs.Descends.{descends_is}
use Rattle.swc_base_rename_program.proofs.LeftTexts.{left_by_top, left_in_unit, left_is_preserved}
use Rattle.swc_base_rename_program.proofs.Maps.{table_is_of, texts_are_by_ids}
use Rattle.swc_base_rename_program.proofs.Ruled.{left_test, refusal_means}

-- sites that are in order are in that of their scopes
first_not_less : (o p : Ordering) → is_lt (ordering_then o p) ≡ false → is_lt o ≡ false
first_not_less Less p h = absurd (cc)
first_not_less Equal p h = refl
first_not_less Greater p h = refl

-- names can be given by what is read off any tree
pub well_read : (t : Node) (a : Analysis) → IsRead (laid_out t) a → IsWellRead a
well_read t a read =
    let (scopes, places, means) = reading_means t a read in
    record {
      in_preorder = sites_in_preorder a t scopes places means;
      apart = ids_are_apart a t scopes places means;
      rising = read.rising;
      by_scopes = IsNonDecreasingBy-from_sort (λ s. s.scope) a.sites.items (λ k d from within. first_not_less _ _ (read.in_order k d from within));
      nested = λ m n r q less e f. (placed t).apart m n r q less (ap (λ rs. slice_get rs m) (sym read.regions) ∙ e) (ap (λ rs. slice_get rs n) (sym read.regions) ∙ f);
    }

module _ {S : Type 0} (text : Id → ℕ → List ℕ) (mode : Mode) (keeps : Id → Bool) (t : Node) (a : Analysis) (read : IsRead (laid_out t) a) (left : BTreeSet (String S)) where
  pub named_texts : (table : Option (BTreeMap Id (List ℕ))) → AreNamedTexts (program_rules text mode a keeps left) a table → AreNewTexts (renaming text mode keeps) (IsLeft t left) t table
  named_texts table h =
      let r = renaming text mode keeps in
      let (scopes, places, means) = reading_means t a read in
      let by_id = text_below (id_in a) h.texts h.count in
      record {
        new_texts = by_id;
        named = named_alike (left_test t a scopes places means left) t r (counting t r) by_id
            (names_in_order_are_named t r a scopes places means (is_preserved_text a left) h.texts h.named by_id
            (texts_are_by_ids a h.count h.texts by_id h.enough (are_below (id_in a) h.texts (ids_are_apart a t scopes places means) h.count)));
        is_table = table_is_of (id_in a) h.count h.texts table h.is_table;
      }

  pub refused_texts : (e : PassError) → IsRefused (program_rules text mode a keeps left) (numbered_sites a) e → IsNameRefusal (renaming text mode keeps) (IsLeft t left) t e
  refused_texts e h =
      let (scopes, places, means) = reading_means t a read in
      refusal_means t (renaming text mode keeps) a scopes places means (is_preserved_text a left) (left_test t a scopes places means left) e h

-- ids that keep their texts
or_false : (b : Bool) → (b || false) ≡ b
or_false true = refl
or_false false = refl

-- where no top mark is given, those that the renamer preserves
pub just_preserved : (keeps : Id → Bool) → (λ x. keeps x || false) ≡ keeps
just_preserved keeps j = λ x. or_false (keeps x) j

pub kept_by_top : (table : Table) → IsTable table → (top : ℕ) (text : Id → ℕ → List ℕ) (mode : Mode) (keeps : Id → Bool)
    → IsTopRenaming table top (renaming text mode keeps) (renaming text mode (λ x. keeps x || descends_from table top x))
kept_by_top table ok top text mode keeps = record { same = refl; keeps = λ x. (to x, from x) }
  where
    to : (x : Id) → (keeps x || descends_from table top x) ≡ true → IsTrue (keeps x) ⊎ IsDescendant table (outer_of x.1) top
    to x h = elim (or_cases (keeps x) (descends_from table top x) h) [
      | inl own ↦ inl own
      | inr below ↦ inr ((descends_is table ok (outer_of x.1) top).0 below)
    ]

    from : (x : Id) → (IsTrue (keeps x) ⊎ IsDescendant table (outer_of x.1) top) → (keeps x || descends_from table top x) ≡ true
    from x h = is_either (keeps x) (descends_from table top x) (elim h [
      | inl own ↦ inl own
      | inr below ↦ inr ((descends_is table ok (outer_of x.1) top).1 below)
    ])

-- what is said of texts that are left, said of preserved texts
pub names_alike : {P Q : List ℕ → Type 0} → ((text : List ℕ) → P text ↔ Q text) → (r : Renaming) (keeps : Bool) (before after : Node) → HasNames r P keeps before after → HasNames r Q keeps before after
names_alike same r keeps before after h = record { new_texts = h.new_texts; named = named_alike same before r (counting before r) h.new_texts h.named; given = h.given }

pub refusal_alike : {P Q : List ℕ → Type 0} → ((text : List ℕ) → P text ↔ Q text) → (r : Renaming) (t : Node) (e : PassError) → IsNameRefusal r P t e → IsNameRefusal r Q t e
refusal_alike same r t pass.NoMemory h = tt
refusal_alike same r t pass.CounterSpent h = spent_alike same t r (counting t r) _ h
refusal_alike same r t pass.MarksSpent h = h
refusal_alike same r t pass.NotAssignable h = h
refusal_alike same r t pass.TypesLeft h = h

module _ {S : Type 0} (top : ℕ) (r : Renaming) (t : Node) (left : BTreeSet (String S)) (are : AreLeftTexts top r.preserves t left) where
  pub units_alike : (keeps : Bool) (after : Node) → HasUnits (λ unit. HasNames r (IsLeft unit left) keeps unit) t after → HasUnits (λ unit. HasNames r (IsPreservedInUnit top t r.preserves unit) keeps unit) t after
  units_alike keeps after h = record {
    units = λ p u o. (let (v, at, named) = h.units p u o in (v, at, names_alike (left_in_unit top t r.preserves left are u) r keeps u v named));
    others = h.others;
  }

  pub unit_refused : (table : Table) (e : PassError) → RefusesUnit (λ unit. IsNameRefusal r (IsLeft unit left) unit) t e → IsUnitsRefusal table top r t e
  unit_refused table pass.NoMemory h = tt
  unit_refused table pass.CounterSpent (p, u, o, h) = inr (p, u, o, spent_alike (left_in_unit top t r.preserves left are u) u r (counting u r) _ h)
  unit_refused table pass.MarksSpent (p, u, o, h) = h
  unit_refused table pass.NotAssignable (p, u, o, h) = h
  unit_refused table pass.TypesLeft (p, u, o, h) = h

-- a refusal of the program's names is one of all
pub top_refused : (table : Table) (top : ℕ) (r : Renaming) (t : Node) (e : PassError) → IsTopRefusal table top r t e → IsUnitsRefusal table top r t e
top_refused table top r t pass.NoMemory h = tt
top_refused table top r t pass.CounterSpent h = inl h
top_refused table top r t pass.MarksSpent h = h
top_refused table top r t pass.NotAssignable h = h
top_refused table top r t pass.TypesLeft h = h

pub refused_at_top : {S : Type 0} (table : Table) (ok : IsTable table) (top : ℕ) (text : Id → ℕ → List ℕ) (mode : Mode) (keeps : Id → Bool) (t : Node) (left : BTreeSet (String S)) → AreLeftTexts top keeps t left → (e : PassError)
    → IsNameRefusal (renaming text mode (λ x. keeps x || descends_from table top x)) (IsLeft t left) t e → IsTopRefusal table top (renaming text mode keeps) t e
refused_at_top table ok top text mode keeps t left are pass.NoMemory h = tt
refused_at_top table ok top text mode keeps t left are pass.CounterSpent h =
    let kept = renaming text mode (λ x. keeps x || descends_from table top x) in
    record { kept = kept; is_kept = kept_by_top table ok top text mode keeps; spent = spent_alike (left_by_top top t keeps left are) t kept (counting t kept) _ h }
refused_at_top table ok top text mode keeps t left are pass.MarksSpent h = h
refused_at_top table ok top text mode keeps t left are pass.NotAssignable h = h
refused_at_top table ok top text mode keeps t left are pass.TypesLeft h = h

-- the names of the program, where those are left alone whose outer mark descends from the top mark
module _ {S : Type 0} (table : Table) (ok : IsTable table) (top : ℕ) (text : Id → ℕ → List ℕ) (mode : Mode) (keeps : Id → Bool) (t : Node) (a : Analysis) (read : IsRead (laid_out t) a) (left : BTreeSet (String S))
    (are : AreLeftTexts top keeps t left) where
  abbrev kept : Id → Bool
  kept x = keeps x || descends_from table top x

  pub top_named : (names : Option (BTreeMap Id (List ℕ))) → AreNamedTexts (program_rules text mode a kept left) a names → IsTopTable table top (renaming text mode keeps) t names
  top_named names h =
      let found = named_texts text mode kept t a read left names h in
      let r = renaming text mode kept in
      record {
        kept = r;
        is_kept = kept_by_top table ok top text mode keeps;
        new_texts = found.new_texts;
        named = named_alike (left_by_top top t keeps left are) t r (counting t r) found.new_texts found.named;
        is_table = found.is_table;
      }

  pub top_refusal : (e : PassError) → IsRefused (program_rules text mode a kept left) (numbered_sites a) e → IsTopRefusal table top (renaming text mode keeps) t e
  top_refusal e h = refused_at_top table ok top text mode keeps t left are e (refused_texts text mode kept t a read left e h)

-- a refusal of a program in which nothing reads names, or of one in which something does
pub whole_refused : {S Z : Type 0} (table : Table) (config : Config) (r : Renaming) (t : Node) (ids : HashSet Id S) (left : BTreeSet (String Z)) → r.preserves ≡ contains same_id ids → ((x : List ℕ) → contains_text left x ≡ any_of_text (keys ids) x)
    → ¬ IsReading config t → (e : PassError) → IsNameRefusal r (IsLeft t left) t e → IsRenameRefusal table config r t e
whole_refused table config r t ids left same are not_read pass.NoMemory h = tt
whole_refused table config r t ids left same are not_read pass.CounterSpent h = record {
  whole = λ _. spent_alike (λ text. subst (λ p. IsLeft t left text ↔ IsPreserved t p text) (sym same) (left_is_preserved t ids left are text)) t r (counting t r) _ h;
  by_units = λ read. absurd (not_read read);
}
whole_refused table config r t ids left same are not_read pass.MarksSpent h = h
whole_refused table config r t ids left same are not_read pass.NotAssignable h = h
whole_refused table config r t ids left same are not_read pass.TypesLeft h = h

pub units_refused : (table : Table) (config : Config) (r : Renaming) (t : Node) → IsReading config t → (e : PassError) → IsUnitsRefusal table config.top_level_mark r t e → IsRenameRefusal table config r t e
units_refused table config r t read pass.NoMemory h = tt
units_refused table config r t read pass.CounterSpent h = record { whole = λ not_read. absurd (not_read read); by_units = λ _. h }
units_refused table config r t read pass.MarksSpent h = h
units_refused table config r t read pass.NotAssignable h = h
units_refused table config r t read pass.TypesLeft h = h
