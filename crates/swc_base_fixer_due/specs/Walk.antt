-- Words for the walks.
use Rattle.std.specs.Prelude.{ℕ, zero, suc, List, [], ◌∷◌, Bool, true, false, ◌==◌, ◌&&◌}
use Rattle.swc_tree_node.specs.declared.node.Node.{Node, fold-Node}
use Rattle.swc_tree_node.specs.declared.node.Node.TheOpen.{Node-F}
use Rattle.swc_tree_grammar.specs.Shapes.{OptChain, Statement}
use Rattle.swc_tree_grammar.specs.Due.{Places, Pairing, level_step, in_step}

-- each element by what it is told at its index
abbrev pub each_told : {X A : Type 0} → (X → A → X) → (ℕ → A) → List X → List X
each_told f g [] = []
each_told f g (x ∷ xs) = f x (g zero) ∷ each_told f (λ i. g (suc i)) xs

-- the first step, of a node that is told whether it is the base of an optional chain
abbrev pub by_level : Places → Node → Pairing
by_level place = fold-Node Pairing (level_step place)

-- the second step, of a node that is told whether `in` may stand bare there
abbrev pub in_heads : Places → Node → Pairing
in_heads place = fold-Node Pairing (in_step place)

abbrev pub is_chain_in : {X : Type 0} → Node-F X → Bool
is_chain_in (OptChain span optional base) = true
is_chain_in _ = false

-- whether a field of a node is the base of an optional chain
abbrev pub is_base : Bool → ℕ → Bool
is_base in_chain i = in_chain && (i == 2)

abbrev pub is_statement_in : Node-F Node → Bool
is_statement_in (Statement span expr) = true
is_statement_in _ = false
