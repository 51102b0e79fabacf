-- Why a pass over parentheses is refused, and what of the comments that it was lent has moved then; of the pass it goes
-- by these comments, and by the moves that it would make.
use Rattle.std.specs.Prelude.{◌≡◌, ◌↔◌, false, List, Option}
use Rattle.std.specs.Borrow.{MutBor}
use Rattle.swc_tree_marks.specs.declared.error.PassError.{PassError}
use Rattle.swc_tree_marks.specs.declared.error.PassError.TheVariants as error
use Rattle.swc_tree_marks.specs.Globals.{Table}
use Rattle.swc_tree_modules.specs.declared.module_.Module.{Module}
use Rattle.swc_tree_modules.specs.declared.script.Script.{Script}
use Rattle.swc_tree_modules.specs.Nodes.{module_node, script_node}
use Rattle.swc_tree_node.specs.declared.node.Node.{Node}
use Rattle.swc_tree_comments.specs.declared.moves.Move.{Move}
use Rattle.swc_tree_grammar.specs.Targets.{all_bare}
use Rattle.swc_tree.specs.Types.{IsDeclined}
use Rattle.swc_tree_spaces.specs.Spaces.{has_types}
use Rattle.swc_base_fixer_unparen.specs.Moves.{LeadPartlyTo, Moving}
use Rattle.swc_base_fixer.specs.Lent.{Behind}
use Rattle.swc_base_fixer.specs.Unparened.{IsRefusal}

module _ {C : Type 0} (R : Moving C) (moves : Node → List Move) where
  -- a program without types is refused for a target that takes no value, where it has one, and else for want of memory; a beginning
  -- of the moves was made, and none where a target is to blame; the table of marks is as it was
  pub record RefusesNode (lent : Option (MutBor C)) (old : Table) (before : Node) (kept : Option (MutBor C)) (new : Table) (e : PassError) : Type 0 where
    pub refusal : IsRefusal e
    pub not_assignable : (e ≡ error.NotAssignable) ↔ (all_bare before ≡ false)
    pub comments : Behind (λ c d. LeadPartlyTo R c (moves before) d) lent kept
    pub unmoved : e ≡ error.NotAssignable → Behind (λ c d. d ≡ c) lent kept
    pub table : new ≡ old

  -- types in the program are to blame before that, and comments and table are then as they were
  abbrev pub Refuses : Option (MutBor C) → Table → Module → Option (MutBor C) → Table → PassError → Type 0
  Refuses lent old before kept new e = IsDeclined (has_types (module_node before)) lent old kept new e (RefusesNode lent old (module_node before) kept new e)

  abbrev pub RefusesScript : Option (MutBor C) → Table → Script → Option (MutBor C) → Table → PassError → Type 0
  RefusesScript lent old before kept new e = IsDeclined (has_types (script_node before)) lent old kept new e (RefusesNode lent old (script_node before) kept new e)
