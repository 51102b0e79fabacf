-- The laws.
use Rattle.std.proofs.Common.{◌≡◌, ◌≢◌, ◌<◌, ◌^◌, ℕ, Bool, Option, Some, None, List, [], ◌∷◌, refl, sym, subst}
use Rattle.swc_tree_marks.specs.declared.ident.Ident.{Ident}
use Rattle.swc_tree_node.specs.declared.kind.Kind.{Kind}
use Rattle.swc_tree_node.specs.declared.node.Node.{Node, Identifier, out-Node}
use Rattle.swc_tree_node.specs.declared.node.Node.TheOpen.{Node-F}
use Rattle.swc_tree_node.specs.declared.slot.Slot.{Slot}
use Rattle.swc_tree_node.specs.Fits.{Fits}
use Rattle.swc_tree_scoping.specs.BoundNames.{Id}
use Rattle.swc_tree_scoping.specs.Places.{Path, child, given}
use Rattle.swc_tree_scoping.specs.Readings.{by_texts}
use Rattle.swc_tree_walk.specs.Nodes.{HasNode, node_at}
use Rattle.swc_base_rename_substitution.specs.Substituted.{Substituted}
use Rattle.swc_base_rename_analysis.specs.Named.{Renaming}
use Rattle.swc_base_rename_program.specs.Renamed.{HasNames, hygiene_renaming, new_id_by}
use Rattle.text_grammar.specs.Shaped.{Shaped, is_misshapen}
use Rattle.text_checks.specs.Spelled.{Spelled, is_misspelled}
use Rattle.text_kept_laws.proofs.ResolvedWhole.{texts_shaped, texts_spelled}
use Rattle.text_kept_laws.proofs.Free.{free_child, some_same}
use Rattle.text_kept_laws.proofs.RenamesWhole.{shape_stays}
use Rattle.text_kept_laws.proofs.SpellingBound.{named}
use Rattle.text_kept_laws.proofs.SpellingWhole.{spelling_stays}
use Rattle.text_kept_laws.specs.Namings.{HygieneGivesNewWords, HygieneKeepsShape, HygieneKeepsSpelling, RenamingKeepsShape, RenamingKeepsSpelling}
use Rattle.text_kept_laws.proofs.Found.{gives_words}
use Rattle.text_kept_laws.proofs.Numbered.{numbered_word}

-- what no node of a tree passes none passes with the names of a map, where that is so of a tree whose names are given anew
module _ (test : Node-F Node → Bool) (before after : Node) (r : Renaming) (preserved : List ℕ → Type 0) (keeps : Bool) (names : HasNames r preserved keeps before after) where
  kept : (Substituted (new_id_by names.new_texts) keeps before after → HasNode test after → ⊥) → (HasNode test before → ⊥) → HasNode test after → ⊥
  kept new old bad = old (subst (HasNode test) (names.given.none none) bad)
    where
      none_at : (x : Id) (o : Option (List ℕ)) → names.new_texts x ≡ o → names.new_texts x ≡ None
      none_at x None e = e
      none_at x (Some text) e = absurd (new (names.given.some x text e) bad)

      none : (x : Id) → names.new_texts x ≡ None
      none x = none_at x (names.new_texts x) refl

pub renaming_shape : RenamingKeepsShape
renaming_shape r table config before after s fits unread by shaped =
    let names = by.whole unread in
    kept is_misshapen before after r _ config.keep_class_names names (λ e. shape_stays (new_id_by names.new_texts) config.keep_class_names before after s fits e shaped) shaped

pub renaming_spelling : RenamingKeepsSpelling
renaming_spelling r table config before after s gives fits unread by spelled =
    let names = by.whole unread in
    let words = gives_words before r _ _ names.new_texts names.named gives in
    kept is_misspelled before after r _ config.keep_class_names names (λ e. spelling_stays (new_id_by names.new_texts) config.keep_class_names before after s words fits e spelled) spelled

-- ---- hygiene

pub hygiene_shape : HygieneKeepsShape
hygiene_shape table config before after s fits unread (given, by, cleared) shaped =
    subst Shaped (sym cleared) ((texts_shaped given).1 (renaming_shape hygiene_renaming table config before given s fits unread by shaped))

-- what no node of a tree passes none does of what stands in it
below : (test : Node-F Node → Bool) (p : Path) (t n : Node) → node_at t p ≡ Some n → (HasNode test t → ⊥) → HasNode test n → ⊥
below test [] t n e f h = f (subst (HasNode test) (sym (some_same e)) h)
below test (i ∷ p) t n e f h = by (λ c g k. below test p c n g k h) (child t i) refl e
  where
    by : ((c : Node) → node_at c p ≡ Some n → (HasNode test c → ⊥) → ⊥) → (o : Option Node) → child t i ≡ o → given o None (λ c. node_at c p) ≡ Some n → ⊥
    by further None g e = absurd (cc)
    by further (Some c) g e = further c e (free_child test t c i g f)

pub hygiene_words : HygieneGivesNewWords
hygiene_words t spelled p k i n at within other =
    numbered_word i.sym n (named k i (below is_misspelled p t (Identifier k i) at spelled)) within other

pub hygiene_spelling : HygieneKeepsSpelling
hygiene_spelling table config before after s fits unread (given, by, cleared) spelled =
    subst Spelled (sym cleared) ((texts_spelled given).1 (renaming_spelling hygiene_renaming table config before given s (hygiene_words before spelled) fits unread by spelled))
