-- The node of a program opens the program's scope.
use Rattle.std.proofs.Common.{◌≡◌, ◌⊎◌, inl, inr, Some, List, ap, ◌∙◌, rules}
use Rattle.swc_tree_node.specs.declared.kind.Kind.TheVariants as kind
use Rattle.swc_tree_node.specs.declared.node.Node.{Node, Tree, the_lemmas}
use Rattle.swc_tree_scoping.specs.declared.places.Scope.TheVariants as scope
use Rattle.swc_tree_scoping.specs.Places.{opened, program_place}
use Rattle.swc_tree.specs.Passes.{IsProgram}

module_opens : (ts : List Node) → opened program_place (Tree kind.Module ts) ≡ Some scope.Program
module_opens ts = search (rules, the_lemmas)

script_opens : (ts : List Node) → opened program_place (Tree kind.Script ts) ≡ Some scope.Program
script_opens ts = search (rules, the_lemmas)

pub opens : (t : Node) → IsProgram t → opened program_place t ≡ Some scope.Program
opens t p = by p.1
  where
    by : (t ≡ Tree kind.Module p.0) ⊎ (t ≡ Tree kind.Script p.0) → opened program_place t ≡ Some scope.Program
    by (inl e) = ap (opened program_place) e ∙ module_opens p.0
    by (inr e) = ap (opened program_place) e ∙ script_opens p.0
