-- A program that a text can have: what the table, the grammar and its lexical part ask of a tree.
use Rattle.swc_tree_node.specs.declared.node.Node.{Node}
use Rattle.swc_tree_node.specs.declared.slot.Slot.{Slot}
use Rattle.swc_tree_node.specs.Fits.{Fits}
use Rattle.swc_tree_grammar.specs.Grammar.{FitsGrammar}
use Rattle.text_grammar.specs.Shaped.{Shaped}
use Rattle.text_checks.specs.Spelled.{Spelled}
use Rattle.text_checks.specs.declared.check.Lack.{Lack}
use Rattle.text_checks.specs.declared.check.Lack.TheVariants as lack

pub record IsWellFormed (s : Slot) (t : Node) : Type 0 where
  -- each node may stand where it does, by the table
  pub fits : Fits t s
  -- productions have their lengths
  pub shaped : Shaped t
  -- each leaf is one token, and no name a reserved word
  pub spelled : Spelled t
  -- the grammar derives it as it stands, with the parentheses that it has
  pub derived : FitsGrammar t

-- what a tree lacks first, in this order
abbrev pub Lacks : Slot → Node → Lack → Type 0
Lacks s t lack.Fitting = Fits t s → ⊥
Lacks s t lack.Shape = Fits t s × (Shaped t → ⊥)
Lacks s t lack.Spelling = Fits t s × Shaped t × (Spelled t → ⊥)
Lacks s t lack.Derivation = Fits t s × Shaped t × Spelled t × (FitsGrammar t → ⊥)
