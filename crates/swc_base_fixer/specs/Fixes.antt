-- What the fixer makes of a program; of the pass it goes by the comments that it was lent.
use Rattle.std.specs.Prelude.{◌≡◌, true, Option}
use Rattle.std.specs.Borrow.{MutBor}
use Rattle.swc_tree_marks.specs.Globals.{Table}
use Rattle.swc_tree_modules.specs.declared.module_.Module.{Module}
use Rattle.swc_tree_modules.specs.declared.script.Script.{Script}
use Rattle.swc_tree_modules.specs.Nodes.{module_node, script_node}
use Rattle.swc_tree_node.specs.declared.node.Node.{Node}
use Rattle.swc_tree_grammar.specs.Targets.{all_bare}
use Rattle.swc_tree.specs.Types.{IsMade}
use Rattle.swc_tree_spaces.specs.Spaces.{has_types}
use Rattle.swc_base_fixer_unparen.specs.Moves.{LeadTo, Moving}
use Rattle.swc_base_fixer_program.specs.Answers.{answer_to, moves_for}
use Rattle.swc_base_fixer.specs.Lent.{Behind}
use Rattle.swc_base_fixer.specs.Promises.{Promises}

module _ {C : Type 0} (R : Moving C) where
  -- the program has its due pairs, and each parenthesised target took a value; what is promised of such an answer holds; the
  -- comments of the pairs that it has no more moved, and the table of marks is as it was
  pub record FixesNode (lent : Option (MutBor C)) (old : Table) (before : Node) (kept : Option (MutBor C)) (new : Table) (after : Node) : Type 0 where
    pub answer : after ≡ answer_to before
    pub assignable : all_bare before ≡ true
    pub comments : Behind (λ c d. LeadTo R c (moves_for before) d) lent kept
    pub table : new ≡ old
    pub promises : Promises before after

  -- so it is of a program in which no types stand
  abbrev pub Fixes : Option (MutBor C) → Table → Module → Option (MutBor C) → Table → Module → Type 0
  Fixes lent old before kept new after = IsMade (has_types (module_node before)) (FixesNode lent old (module_node before) kept new (module_node after))

  abbrev pub FixesScript : Option (MutBor C) → Table → Script → Option (MutBor C) → Table → Script → Type 0
  FixesScript lent old before kept new after = IsMade (has_types (script_node before)) (FixesNode lent old (script_node before) kept new (script_node after))
