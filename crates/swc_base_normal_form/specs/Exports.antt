-- Words for the code: exported declarations, and the order of ids.
use Rattle.std.specs.Prelude.{Bool, true, false, List, [], ◌∷◌}
use Rattle.std.specs.Cmp.Lexicographic.{slice_cmp}
use Rattle.std.specs.Ordering.{nat_cmp, ordering_then}
use Rattle.std.specs.declared.cmp.Ordering.{Ordering}
use Rattle.swc_tree_node.specs.declared.kind.Kind.{Kind}
use Rattle.swc_tree_node.specs.declared.kind.Kind.TheVariants as kind
use Rattle.swc_tree_node.specs.declared.node.Node.{Node}
use Rattle.swc_tree_scoping.specs.BoundNames.{Id}

-- ids in order: by their texts, then by their contexts
abbrev pub id_cmp : Id → Id → Ordering
id_cmp x y = ordering_then (slice_cmp nat_cmp x.0 y.0) (slice_cmp nat_cmp x.1 y.1)

-- an exported declaration, by kind and fields
abbrev pub is_exported : Kind → List Node → Bool
is_exported kind.ExportDecl (span ∷ decl ∷ []) = true
is_exported _ _ = false
