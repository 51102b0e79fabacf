-- Mangling is a lawful renaming that preserves names of the program's scope alone; where there are strays it is one that preserves all.
use Rattle.std.proofs.Common.{◌≡◌, ℕ, ◌<◌, ◌^◌, ◌⊎◌, Bool, true, false, ◌&&◌, ◌||◌, IsTrue, List, [], ◌∷◌, Option, Some, None, inl, inr, ⊎_elim, refl, sym, ap, ◌∙◌, subst}
use Rattle.std.specs.Prelude.{Contains, codes}
use Rattle.std.specs.Str.{bytes_eq}
use Rattle.std.proofs.lemmas.Bool.{and_parts}
use Rattle.std.proofs.lemmas.Slice.Eq.{bytes_eq-Decides}
use Rattle.swc_tree_marks.specs.Globals.{Table, numbers}
use Rattle.swc_tree_node.specs.declared.node.Node.{Node}
use Rattle.swc_tree_scoping.specs.BoundNames.{Id}
use Rattle.swc_tree_scoping.specs.Resolved.{is_global_value}
use Rattle.swc_tree_scoping.specs.WellScoped.{is_module}
use Rattle.swc_tree_renaming.specs.Apart.{IsPlainIfScript}
use Rattle.swc_tree_renaming.proofs.Global.{no_module_is_script}
use Rattle.swc_base_resolver_program.proofs.Ways.{or_cases}
use Rattle.swc_tree_grammar.specs.Fixed.{fixed}
use Rattle.swc_tree_grammar.specs.Writable.{is_identifier_text}
use Rattle.swc_tree_grammar.specs.Targets.{all_bare}
use Rattle.swc_base_rename_analysis.specs.Named.{Renaming}
use Rattle.swc_ecma_transforms_base_laws.specs.Lower.swc_base_renaming_laws.specs.Renamers.{IsLawful, IsRenamedAndCleared, KeepsTopApart, SparesGlobalValues}
use Rattle.swc_base_rename_by_use.specs.ByUse.{moved, own}
use Rattle.swc_base_rename_by_use.specs.ByUseLaws.{below as fits-by_use}
use Rattle.swc_base_rename_by_use.specs.declared.by_use.TextsByUse.{TextsByUse}
use Rattle.swc_base_rename_program.specs.Renamed.{IsRead, IsRenamedBy}
use Rattle.swc_base_rename_by_use.specs.ShortLaws.{identifier-short, none_is_withheld}
use Rattle.swc_base_rename_by_use.specs.ShortTexts.{short_text}
use Rattle.swc_base_rename_substitution.specs.declared.config.Config.{Config}
use Rattle.swc_base_mangle.specs.Mangled.{HasStrays, IsRenamedByUse, mangling}
use Rattle.swc_base_mangle.specs.Own.{is_own, stands_in}
use Rattle.swc_ecma_transforms_base_laws.specs.Headline.{KeepsItsForm, KeepsItsSource}
use Rattle.swc_ecma_transforms_base_laws.specs.Renamers.{LawfulRenamersKeepFormsOfSources, LawfulRenamersKeepSources, PreservesTopNames, RenamersThatPreserveTopNamesSuit}
use Rattle.swc_ecma_transforms_base_laws.specs.Sources.{ResolvedSourcesAreReady, ResolvedSourcesHaveTheirForm}
use Rattle.swc_base_mangle_laws.specs.Laws.{MangledSourcesAreKept, MangledSourcesKeepForms}

-- one of the short texts
abbrev IsShort : List ℕ → Type 0
IsShort text = (n : ℕ) × (n < 2 ^ 64) × (text ≡ short_text n)

module _ (r : Renaming) (short : (x : Id) (n : ℕ) → n < 2 ^ 64 → IsShort (r.text x n)) where
  -- a text that is withheld is none of them
  withheld : {A : Type 0} (word : List ℕ) (x : Id) (n : ℕ) → n < 2 ^ 64 → ((k : ℕ) → k < 2 ^ 64 → short_text k ≡ word → A) → r.text x n ≡ word → A
  withheld word x n fits none same = let (k, below, is) = short x n fits in none k below (sym is ∙ same)

  is_lawful : IsLawful r
  is_lawful = record {
    identifiers = λ x n fits _. let (k, below, is) = short x n fits in subst (λ text. IsTrue (is_identifier_text text)) (sym is) (identifier-short k below);
    no_eval = λ x n fits. withheld (codes "eval") x n fits (λ k below. none_is_withheld k (codes "eval") below refl);
    no_arguments = λ x n fits. withheld (codes "arguments") x n fits (λ k below. none_is_withheld k (codes "arguments") below refl);
  }

  spares : SparesGlobalValues r
  spares x n fits h =
      let text = r.text x n in
      let is : (word : List ℕ) → IsTrue (bytes_eq text word) → text ≡ word = λ word same. (bytes_eq-Decides text word).0 same in
      ⊎_elim (λ same. withheld (codes "undefined") x n fits (λ k below. none_is_withheld k (codes "undefined") below refl) (is (codes "undefined") same))
      (λ rest.
      ⊎_elim (λ same. withheld (codes "NaN") x n fits (λ k below. none_is_withheld k (codes "NaN") below refl) (is (codes "NaN") same))
      (λ same. withheld (codes "Infinity") x n fits (λ k below. none_is_withheld k (codes "Infinity") below refl) (is (codes "Infinity") same))
      (or_cases (bytes_eq text (codes "NaN")) (bytes_eq text (codes "Infinity")) rest))
      (or_cases (bytes_eq text (codes "undefined")) (bytes_eq text (codes "NaN") || bytes_eq text (codes "Infinity")) h)

module _ (texts : TextsByUse) (keeps_top : Bool) (top : ℕ) (t : Node) where
  abbrev by_use : Renaming
  by_use = mangling texts keeps_top top t

  short_by_use : (x : Id) (n : ℕ) → n < 2 ^ 64 → IsShort (by_use.text x n)
  short_by_use x n fits = (moved (own texts x) n, fits-by_use texts x n fits, refl)

  by_use_lawful : IsLawful by_use
  by_use_lawful = is_lawful by_use short_by_use

  by_use_spares : SparesGlobalValues by_use
  by_use_spares = spares by_use short_by_use

  top_names_alone : PreservesTopNames top by_use
  top_names_alone x h =
      let stands = (and_parts keeps_top (is_own top t x) h).1 in
      (bytes_eq-Decides x.1 (top ∷ [])).0 (and_parts (bytes_eq x.1 (top ∷ [])) (stands_in x t) stands).0

  -- two such names of one text are one id
  top_apart : (u : Node) → KeepsTopApart by_use u
  top_apart u m x y bx by px py same = λ j. (same j, (top_names_alone x px ∙ sym (top_names_alone y py)) j)

-- ---- strays

abbrev keeps_all : Renaming
keeps_all = record { text = λ x n. short_text n; mangles = true; resets = false; preserves = λ x. true }

all_lawful : IsLawful keeps_all
all_lawful = is_lawful keeps_all (λ x n fits. (n, fits, refl))

stays : (table : Table) (config : Config) (t : Node) → ¬ IsRead config t → IsRenamedBy table config keeps_all t t
stays table config t unread = record {
  whole = λ _. record {
    new_texts = λ x. None;
    named = record { taken = λ x. 0; each = λ a x named. absurd (named.not_preserved refl); no_other = λ x text e. absurd (cc) };
    given = record { none = λ _. refl; some = λ x text e. absurd (cc) };
  };
  by_units = λ read. absurd (unread read);
}

-- ---- the laws

pub keeps_forms : ResolvedSourcesHaveTheirForm → LawfulRenamersKeepFormsOfSources → MangledSourcesKeepForms
keeps_forms resolves forms config keeps_top place goal unresolved top old new source resolved middle is f s marks h = ⊎_elim stray shortened h.shortened
  where
    stray : HasStrays resolved × (h.given ≡ resolved) → KeepsItsForm source (fixed place middle) × (all_bare middle ≡ true)
    stray (strays, same) =
        let unread = (resolves config goal source resolved unresolved top old new is f s marks).finishable.plain.unread in
        let made : IsRenamedAndCleared new config keeps_all resolved middle = (h.given, subst (IsRenamedBy new config keeps_all resolved) (sym same) (stays new config resolved unread), h.cleared) in
        let whole = forms keeps_all config place goal unresolved top old new source resolved middle all_lawful is f s marks made in
        (whole.0 (λ m. absurd (no_module_is_script resolved m strays.0)), whole.1)

    shortened : ¬ HasStrays resolved × IsRenamedByUse new config keeps_top resolved h.given → KeepsItsForm source (fixed place middle) × (all_bare middle ≡ true)
    shortened (none, (texts, renamed)) =
        let own_top = config.top_level_mark in
        let whole = forms (by_use texts keeps_top own_top resolved) config place goal unresolved top old new source resolved middle (by_use_lawful texts keeps_top own_top resolved) is f s marks (h.given, renamed, h.cleared) in
        (whole.0 (top_apart texts keeps_top own_top resolved resolved), whole.1)

pub keeps_sources : ResolvedSourcesAreReady → LawfulRenamersKeepSources → RenamersThatPreserveTopNamesSuit → MangledSourcesAreKept
keeps_sources resolves sources suit config keeps_top place goal unresolved old new source resolved middle is f s plain known marks h = ⊎_elim (λ x. absurd (plainly x.0)) (λ x. shortened x.1) h.shortened
  where
    plainly : HasStrays resolved → ⊥
    plainly (script, none) = let p = (resolves config goal source resolved unresolved config.top_level_mark old new is f s plain known marks).plain script in none (p.settled, p.no_global_value)

    shortened : IsRenamedByUse new config keeps_top resolved h.given → KeepsItsSource unresolved config.top_level_mark old new source (fixed place middle)
    shortened (texts, renamed) =
        let top = config.top_level_mark in
        let r = by_use texts keeps_top top resolved in
        let suits = suit r config goal source resolved unresolved top old new (top_names_alone texts keeps_top top resolved) (λ _. by_use_spares texts keeps_top top resolved) is f s plain known marks in
        (sources r config place goal unresolved top old new source resolved middle (by_use_lawful texts keeps_top top resolved) suits is f s plain known marks (h.given, renamed, h.cleared)).0
