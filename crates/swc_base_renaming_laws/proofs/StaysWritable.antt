-- A program that can be written down still can.
use Rattle.std.proofs.Common.{◌≡◌, ℕ, Bool, true, false, Option, Some, None, List, [], refl, sym, ap, ◌∙◌, subst}
use Rattle.std.specs.Prelude.{option_map}
use Rattle.swc_tree_marks.specs.Globals.{Table}
use Rattle.swc_tree_node.specs.declared.node.Node.{Node}
use Rattle.swc_tree_scoping.specs.BoundNames.{Id}
use Rattle.swc_tree_grammar.specs.Writable.{is_writable}
use Rattle.swc_tree_grammar_texts.proofs.ClearedSound.{writable_same}
use Rattle.swc_base_rename_substitution.specs.declared.config.Config.{Config}
use Rattle.swc_base_rename_substitution.specs.declared.place.Place.TheVariants as place
use Rattle.swc_base_rename_substitution.specs.Names.{if_other_text}
use Rattle.swc_base_rename_substitution.specs.Substituted.{Substituted}
use Rattle.swc_base_rename_analysis.specs.Named.{Renaming}
use Rattle.swc_base_rename_analysis.specs.Preserved.{IsPreserved}
use Rattle.swc_base_rename_program.specs.Renamed.{HasNames, IsRenamedBy, hygiene_renaming, new_id_by}
use Rattle.swc_base_rename_laws.proofs.Unchanged.{stays}
use Rattle.swc_base_rename_laws.proofs.WritableStays.{writable_stays}
use Rattle.swc_base_renaming_laws.specs.Hygiene.{HygieneStaysWritable, IsPlain, RenamingStaysWritable}
use Rattle.swc_base_renaming_laws.proofs.Hygienic.{hygiene_is_lawful}
use Rattle.swc_base_renaming_laws.proofs.HygieneChanged.{gives_names}

-- a tree that has its names by a map meets a test if it does so with the names substituted: where the map has no ids, that
-- changes nothing
module _ (r : Renaming) (preserved : List ℕ → Type 0) (before given : Node) (h : HasNames r preserved false before given) (test : Node → Bool)
    (changed : Substituted (new_id_by h.new_texts) false before given → test given ≡ true) where
  none : test given ≡ false → (x : Id) (o : Option (List ℕ)) → h.new_texts x ≡ o → h.new_texts x ≡ None
  none fails x None e = e
  none fails x (Some text) e = let passes : test given ≡ true = changed (h.given.some x text e) in absurd (cc)

  no_change : ((x : Id) → h.new_texts x ≡ None) → (x : Id) → new_id_by h.new_texts x ≡ None
  no_change e x = ap (λ o. if_other_text x (option_map (λ text. (text, [])) o)) (e x)

  never : test given ≡ false → ⊥
  never fails =
      let empty : (x : Id) → h.new_texts x ≡ None = λ x. none fails x (h.new_texts x) refl in
      let passes : test given ≡ true = changed (h.given.none empty ∙ sym (stays (new_id_by h.new_texts) (no_change empty) before place.Other refl)) in cc

  pub by_test : test given ≡ true
  by_test = by (test given) refl
    where
      by : (b : Bool) → test given ≡ b → test given ≡ true
      by true e = e
      by false e = absurd (never e)

-- what the tree becomes before its contexts are emptied
abbrev pub Given : Renaming → Node → Node → Type 0
Given r before given = HasNames r (IsPreserved before r.preserves) false before given

pub plain_names : (r : Renaming) (table : Table) (config : Config) (before given : Node) → IsPlain config before → IsRenamedBy table config r before given → Given r before given
plain_names r table config before given plain renamed =
    subst (λ keeps. HasNames r (IsPreserved before r.preserves) keeps before given) plain.renames_classes (renamed.whole plain.unread)

pub renaming_stays_writable : RenamingStaysWritable
renaming_stays_writable r table config place before after lawful plain fits writable (given, renamed, cleared) =
    let names = plain_names r table config before given plain renamed in
    ap is_writable cleared ∙ writable_same given
    ∙ by_test r _ before given names is_writable (λ s. writable_stays (new_id_by names.new_texts) place before given (gives_names before r _ _ names.new_texts names.named lawful) fits writable s)

pub hygiene_stays_writable : HygieneStaysWritable
hygiene_stays_writable table config place before after = renaming_stays_writable hygiene_renaming table config place before after hygiene_is_lawful
