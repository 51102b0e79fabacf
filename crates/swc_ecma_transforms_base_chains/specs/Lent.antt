-- What becomes of comments that are lent to a call.
use Rattle.std.specs.Prelude.{◌≡◌, ◌⊎◌, Option, Some, None, true}
use Rattle.std.specs.Borrow.{MutBor}
use Rattle.std.proofs.Common.{inl, inr}
use Rattle.swc_tree_node.specs.declared.node.Node.{Node}
use Rattle.swc_tree_grammar.specs.Targets.{all_bare}
use Rattle.swc_base_fixer_unparen.specs.Moves.{GivenBack, LeadTo, LeadPartlyTo, Moving}
use Rattle.swc_base_fixer_program.specs.Answers.{answer_to, moves_for}

-- comments that are there became what they are when the call is over
abbrev pub Became : {C : Type 0} → (C → C → Type 0) → Option (MutBor C) → GivenBack C → Type 0
Became R None d = Unit {0}
Became R (Some c) (inr (inl d)) = R c.now d.0.now
Became R (Some c) _ = ⊥

module _ {C : Type 0} (R : Moving C) (IsGiven : Node → Type 0) where
  -- the comments of the pairs moved that the tree which the fixer was given had, and the answer has not
  pub record MovesFor (answer : Node) (before after : C) : Type 0 where
    pub given : Node
    pub is_given : IsGiven given
    pub paired : answer ≡ answer_to given
    pub moved : LeadTo R before (moves_for given) after

  -- none moved, or a beginning of them, once the fixer was given a tree each of whose parenthesised targets takes a value
  abbrev pub MovesPartly : C → C → Type 0
  MovesPartly before after = (after ≡ before) ⊎ ((given : Node) × IsGiven given × (all_bare given ≡ true) × LeadPartlyTo R before (moves_for given) after)
