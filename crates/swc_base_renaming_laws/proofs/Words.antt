-- A new text is a word that an id gets from itself alone only where it is the old one.
use Rattle.std.proofs.Common.{◌≡◌, ◌<◌, ◌^◌, ℕ, IsTrue, Option, Some, None, List, sym, ◌∙◌, refl, subst}
use Rattle.std.specs.Prelude.{unwrap_or}
use Rattle.swc_tree_marks.specs.declared.ident.Ident.{Ident}
use Rattle.swc_tree_node.specs.declared.node.Node.{Node}
use Rattle.swc_tree_scoping.specs.BoundNames.{Id}
use Rattle.swc_tree_scoping.specs.Resolved.{is_global_value}
use Rattle.swc_base_rename_analysis.specs.Named.{Counting, Named, Renaming}
use Rattle.swc_base_renaming_laws.specs.Renamers.{SparesGlobalValues}
use Rattle.swc_base_renaming_laws.proofs.HygieneChanged.{counted}

-- the text comes under a counter from itself alone
abbrev pub FromItself : Renaming → List ℕ → Type 0
FromItself r word = (x : Id) (n : ℕ) → n < 2 ^ 64 → r.text x n ≡ word → x.0 ≡ word

-- so do those of global values from a renamer that spares them
pub spared : (r : Renaming) → SparesGlobalValues r → (word : List ℕ) → IsTrue (is_global_value word) → FromItself r word
spared r spares word global x n fits e = spares x n fits (subst (λ x. IsTrue (is_global_value x)) (sym e) global) ∙ e

module _ (t : Node) (r : Renaming) (preserved : List ℕ → Type 0) (counts : Counting) (new_texts : Id → Option (List ℕ)) (named : Named t r preserved counts new_texts) where
  pub same_word : (i : Ident) (word : List ℕ) → FromItself r word → unwrap_or (new_texts (i.sym, i.ctxt)) i.sym ≡ word → i.sym ≡ word
  same_word i word alone e = by (new_texts (i.sym, i.ctxt)) refl e
    where
      by : (o : Option (List ℕ)) → new_texts (i.sym, i.ctxt) ≡ o → unwrap_or o i.sym ≡ word → i.sym ≡ word
      by None z e = e
      by (Some text) z e = let c = counted t r preserved counts new_texts named (i.sym, i.ctxt) text z in alone (i.sym, i.ctxt) c.counter c.within (sym c.is ∙ e)
