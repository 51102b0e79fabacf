-- The rules by which names are given are those that follow from what is read off a tree.
use Rattle.std.proofs.Common.{◌≡◌, ◌↔◌, ℕ, Bool, true, not, ◌||◌, inl, inr, List, sym, subst}
use Rattle.std.specs.Prelude.{String, if◌then◌else◌}
use Rattle.std.specs.BTreeSet.{BTreeSet, contains_text}
use Rattle.std.proofs.lemmas.Bool.{or_cases}
use Rattle.swc_tree_marks.specs.declared.error.PassError.{PassError}
use Rattle.swc_tree_marks.specs.declared.error.PassError.TheVariants as pass
use Rattle.swc_tree_node.specs.declared.node.Node.{Node}
use Rattle.swc_tree_scoping.specs.BoundNames.{Id}
use Rattle.swc_tree_scoping.specs.Places.{Path}
use Rattle.swc_base_rename_analysis.specs.declared.analysis.Analysis.{Analysis}
use Rattle.swc_base_rename_analysis.specs.Named.{Renaming}
use Rattle.swc_base_rename_analysis_laws.specs.Means.{Means, surrounds}
use Rattle.swc_base_rename_naming.specs.Counters.{greatest}
use Rattle.swc_base_rename_naming.specs.InOrder.{IsRefused, Rules, Site}
use Rattle.swc_base_rename_naming.specs.Steps.{naming, rules}
use Rattle.swc_base_rename_naming_laws.specs.Rules.{IsAmong, counting, id_in, numbered_sites, occurs_at, rules_of}
use Rattle.swc_base_rename_naming_laws.proofs.Surrounds.{is_either}
use Rattle.swc_base_rename_naming_laws.proofs.Names.{spent_in_order_is_spent}
use Rattle.swc_base_rename_program.specs.Asked.{is_preserved_text, program_rules}
use Rattle.swc_base_rename_program.specs.NewTexts.{IsLeft, IsNameRefusal}
use Rattle.swc_base_rename_program.specs.declared.mode.Mode.{Mode}
use Rattle.swc_base_rename_program.proofs.Alike.{spent_alike}

module _ {S : Type 0} (text : Id → ℕ → List ℕ) (mode : Mode) (a : Analysis) (keeps : Id → Bool) (texts : BTreeSet (String S)) where
  -- by whether scopes beside one another may share texts
  abbrev pub rules_where : Bool → Rules
  rules_where b = rules (naming text (b || not mode.resets) keeps (is_preserved_text a texts) (occurs_at a) (λ m n. if b then surrounds a m n else true) (id_in a))

  ruled : (b : Bool) → mode.mangles ≡ b → rules_where b ≡ program_rules text mode a keeps texts
  ruled b e j = rules_where (sym e j)

  pub by_rules : (b : Bool) → mode.mangles ≡ b → (P : Rules → List Site → Type 0) (sites : List Site) → sites ≡ numbered_sites a → P (rules_where b) sites → P (program_rules text mode a keeps texts) (numbered_sites a)
  by_rules b e P sites same h = subst (P (program_rules text mode a keeps texts)) same (subst (λ r. P r sites) (ruled b e) h)

-- why names are refused
pub refusal_means : {Left : List ℕ → Type 0} (t : Node) (r : Renaming) (a : Analysis) (scopes places : List Path) → Means t a scopes places → (preserved : List ℕ → Bool) → ((text : List ℕ) → IsAmong preserved text ↔ Left text)
    → (e : PassError) → IsRefused (rules_of r a preserved) (numbered_sites a) e → IsNameRefusal r Left t e
refusal_means t r a scopes places means preserved same pass.NoMemory h = tt
refusal_means t r a scopes places means preserved same pass.CounterSpent h = spent_alike same t r (counting t r) greatest (spent_in_order_is_spent t r a scopes places means preserved h)
refusal_means t r a scopes places means preserved same pass.MarksSpent h = h
refusal_means t r a scopes places means preserved same pass.NotAssignable h = h
refusal_means t r a scopes places means preserved same pass.TypesLeft h = h

-- the texts that are asked for are those that are left
pub left_test : {S : Type 0} (t : Node) (a : Analysis) (scopes places : List Path) → Means t a scopes places → (texts : BTreeSet (String S)) (text : List ℕ) → IsAmong (is_preserved_text a texts) text ↔ IsLeft t texts text
left_test t a scopes places means texts text = (to, from)
  where
    to : (contains_text a.loose text || contains_text texts text) ≡ true → IsLeft t texts text
    to h = elim (or_cases (contains_text a.loose text) (contains_text texts text) h) [
      | inl loose ↦ inl ((means.loose text).0 loose)
      | inr given ↦ inr given
    ]

    from : IsLeft t texts text → (contains_text a.loose text || contains_text texts text) ≡ true
    from h = is_either (contains_text a.loose text) (contains_text texts text) (elim h [
      | inl loose ↦ inl ((means.loose text).1 loose)
      | inr given ↦ inr given
    ])
