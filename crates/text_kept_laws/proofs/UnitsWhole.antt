-- The laws.
use Rattle.std.proofs.Common.{◌≡◌, ℕ, Bool, true, false, ◌⊎◌, inl, inr, IsTrue, Option, Some, None, List, refl, sym, ◌∙◌, subst}
use Rattle.swc_tree_marks.specs.Globals.{Table}
use Rattle.swc_tree_node.specs.declared.node.Node.{Node}
use Rattle.swc_tree_node.specs.declared.slot.Slot.{Slot}
use Rattle.swc_tree_node.specs.Fits.{Fits, fits}
use Rattle.swc_tree_scoping.specs.BoundNames.{Id}
use Rattle.swc_base_rename_substitution.specs.declared.config.Config.{Config}
use Rattle.swc_base_rename_substitution.specs.Room.{has_room}
use Rattle.swc_base_rename_substitution.specs.Substituted.{Substituted}
use Rattle.swc_base_rename_substitution.proofs.KeptFits.{substituted_fits}
use Rattle.swc_base_rename_analysis.specs.Named.{Renaming}
use Rattle.swc_base_rename_analysis.specs.Preserved.{IsPreserved}
use Rattle.swc_base_rename_program.specs.Renamed.{HasNames, IsGiven, IsRead, IsRenamedBy, IsRenamedByUnits, hygiene_renaming, new_id_by}
use Rattle.text_grammar.specs.Shaped.{Shaped}
use Rattle.text_checks.specs.Spelled.{Spelled}
use Rattle.text_kept_laws.proofs.ResolvedWhole.{texts_shaped, texts_spelled}
use Rattle.text_kept_laws.proofs.RenamesWhole.{shape_stays}
use Rattle.text_kept_laws.specs.Spelling.{GivesWords}
use Rattle.text_kept_laws.proofs.SpellingWhole.{spelling_stays}
use Rattle.text_kept_laws.specs.Namings.{GivesNewWords}
use Rattle.text_kept_laws.proofs.Found.{gives_words}
use Rattle.text_kept_laws.proofs.NamingsWhole.{hygiene_words}
use Rattle.text_kept_laws.proofs.PairsSeen.{seen_never}
use Rattle.text_kept_laws.specs.Units.{AnyHygieneKeepsTexts, AnyRenamingKeepsTexts}
use Rattle.text_kept_laws.proofs.Paths.{May, either, may_then}
use Rattle.text_kept_laws.proofs.Units.{units_kept}
use Rattle.text_kept_laws.proofs.Named.{unit_kept}

abbrev Texts : Node → Type 0
Texts t = Shaped t × Spelled t

-- ... and it stands in its place
abbrev Sound : Slot → Node → Type 0
Sound s t = Texts t × Fits t s

-- a tree that has its names by a map
given_texts : (new_texts : Id → Option (List ℕ)) (keeps : Bool) (before after : Node) (s : Slot) → IsTrue (has_room s) → GivesWords (new_id_by new_texts) → IsGiven new_texts keeps before after → Sound s before → May (Sound s after)
given_texts new_texts keeps before after s room words given sound refute = refute (subst (Sound s) (sym (given.none none)) sound)
  where
    new : Substituted (new_id_by new_texts) keeps before after → Sound s after
    new e = (
      (shape_stays (new_id_by new_texts) keeps before after s sound.1 e sound.0.0, spelling_stays (new_id_by new_texts) keeps before after s words sound.1 e sound.0.1),
      substituted_fits (new_id_by new_texts) keeps before after e s room sound.1,
    )

    none_at : (x : Id) (o : Option (List ℕ)) → new_texts x ≡ o → new_texts x ≡ None
    none_at x None e = e
    none_at x (Some text) e = absurd (refute (new (given.some x text e)))

    none : (x : Id) → new_texts x ≡ None
    none x = none_at x (new_texts x) refl

by_units : (r : Renaming) (table : Table) (top : ℕ) (keeps : Bool) (before after : Node) (s : Slot) → IsTrue (has_room s) → GivesNewWords r before → IsRenamedByUnits table top r keeps before after → Sound s before → May (Sound s after)
by_units r table top keeps before after s room gives w sound =
    let words : GivesWords (new_id_by w.new_texts) = gives_words before w.kept _ _ w.new_texts w.named (subst (λ k. GivesNewWords k before) (sym w.is_kept.same) gives) in
    may_then (units_kept before w.between _ w.units (λ q p u v at f o n. unit_kept r _ keeps before q p u v (s, sound.1) gives at f o n) s sound.1)
    (λ b. given_texts w.new_texts keeps w.between after s room words w.given ((b.0.shaped sound.0.0, b.0.spelled sound.0.1), b.1 s room sound.1))

either_way : (r : Renaming) (table : Table) (config : Config) (before after : Node) (s : Slot) → IsTrue (has_room s) → GivesNewWords r before → IsRenamedBy table config r before after → Sound s before → May (Sound s after)
either_way r table config before after s room gives renamed sound = may_then (either (IsRead config before)) by
  where
    whole : HasNames r (IsPreserved before r.preserves) config.keep_class_names before after → May (Sound s after)
    whole names = given_texts names.new_texts config.keep_class_names before after s room (gives_words before r _ _ names.new_texts names.named gives) names.given sound

    by : IsRead config before ⊎ (IsRead config before → ⊥) → May (Sound s after)
    by (inl read) = by_units r table config.top_level_mark config.keep_class_names before after s room gives (renamed.by_units read) sound
    by (inr unread) = whole (renamed.whole unread)

pub any_renaming : AnyRenamingKeepsTexts
any_renaming r table config before after s room gives fitting renamed shaped spelled =
    let may = either_way r table config before after s room gives renamed ((shaped, spelled), fitting) in
    (λ bad. may (λ sound. sound.0.0 bad), λ bad. may (λ sound. sound.0.1 bad))

-- ... and the answer stands where the tree does
pub renaming_fits : (r : Renaming) (table : Table) (config : Config) (before after : Node) (s : Slot) → IsTrue (has_room s) → GivesNewWords r before → Fits before s → IsRenamedBy table config r before after → Shaped before → Spelled before
    → Fits after s
renaming_fits r table config before after s room gives fitting renamed shaped spelled = by (fits after s) refl
  where
    by : (b : Bool) → fits after s ≡ b → fits after s ≡ true
    by true e = e
    by false e = absurd (either_way r table config before after s room gives renamed ((shaped, spelled), fitting) (λ sound. seen_never (sym sound.1 ∙ e)))

pub any_hygiene : AnyHygieneKeepsTexts
any_hygiene table config before after s room fitting (given, by, cleared) shaped spelled =
    let texts = any_renaming hygiene_renaming table config before given s room (hygiene_words before spelled) fitting by shaped spelled in
    (subst Shaped (sym cleared) ((texts_shaped given).1 texts.0), subst Spelled (sym cleared) ((texts_spelled given).1 texts.1))
