-- What a program is once its helpers are brought in.
use Rattle.std.specs.Prelude.{◌≡◌, ℕ, Option, Some, List, [], map}
use Rattle.swc_tree_node.specs.declared.kind.Kind.{Kind}
use Rattle.swc_tree_node.specs.declared.kind.Kind.TheVariants as kind
use Rattle.swc_tree_node.specs.declared.node.Node.{Node}
use Rattle.swc_base_tables_injection.specs.Brought.{import_of, require_of}
use Rattle.swc_base_tables_injection.specs.Members.{with_members}
use Rattle.swc_base_tables_injection.specs.Bodies.{program_kind, put_in}

abbrev pub brought_into : ℕ → ℕ → List (List ℕ) → Node → Option Kind → Node
brought_into helper global names t (Some kind.Module) = put_in (map (import_of helper) names) t
brought_into helper global [] t (Some kind.Script) = t
brought_into helper global names t (Some kind.Script) = put_in (map (require_of helper global) names) (with_members helper t)
brought_into helper global names t _ = t

-- `answer` is the program with the helpers of these names brought in from outside, one statement for each: into a
-- module imports, into a script `var`s with `require`. Where a script requires any helper, the identifiers that name
-- helpers in the rest of it become members
abbrev pub IsBroughtInto : ℕ → ℕ → List (List ℕ) → Node → Node → Type 0
IsBroughtInto helper global names program answer = answer ≡ brought_into helper global names program (program_kind program)
