-- The laws.
use Rattle.std.proofs.Common.{◌≡◌, ◌↔◌, sym, subst}
use Rattle.swc_tree_node.specs.declared.node.Node.{Node}
use Rattle.swc_tree_scoping.specs.Readings.{by_texts}
use Rattle.swc_tree_scoping.specs.Resolved.{Contexts, remarked}
use Rattle.text_grammar.specs.Shaped.{Shaped, is_misshapen}
use Rattle.text_checks.specs.Spelled.{Spelled, is_misspelled}
use Rattle.text_kept_laws.specs.Resolved.{ResolvedIsAsShaped, ResolvedIsAsSpelled, TextsAreAsShaped, TextsAreAsSpelled}
use Rattle.text_kept_laws.proofs.Cleared.{texts_stay}
use Rattle.text_kept_laws.proofs.Blind.{none_same}
use Rattle.text_kept_laws.proofs.ResolvedLengths.{misshapen_same}
use Rattle.text_kept_laws.proofs.Leaves.{misspelled_same}

pub texts_shaped : TextsAreAsShaped
texts_shaped t = none_same is_misshapen misshapen_same t

pub texts_spelled : TextsAreAsSpelled
texts_spelled t = none_same is_misspelled misspelled_same t

-- what rests on no context is as it was where contexts are given anew
module _ (P : Node → Type 0) (same : (t : Node) → P (by_texts t) ↔ P t) where
  anew : (c : Contexts) (t : Node) → P (remarked c t) ↔ P t
  anew c t = (
    λ h. (same t).0 (subst P (texts_stay t c) ((same (remarked c t)).1 h)),
    λ h. (same (remarked c t)).0 (subst P (sym (texts_stay t c)) ((same t).1 h)),
  )

  answered : (c : Contexts) (t answer : Node) → answer ≡ remarked c t → P answer ↔ P t
  answered c t answer e = (λ h. (anew c t).0 (subst P e h), λ h. subst P (sym e) ((anew c t).1 h))

pub resolved_shaped : ResolvedIsAsShaped
resolved_shaped unresolved top old new t answer r = answered Shaped texts_shaped r.contexts t answer r.only_contexts

pub resolved_spelled : ResolvedIsAsSpelled
resolved_spelled unresolved top old new t answer r = answered Spelled texts_spelled r.contexts t answer r.only_contexts
