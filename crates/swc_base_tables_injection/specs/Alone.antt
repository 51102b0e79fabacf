-- Statements in a program of their own, of the kind and strictness of another.
use Rattle.std.specs.Prelude.{◌≡◌, ℕ, ◌-◌, Bool, true, false, Option, Some, None, List, [], ◌∷◌, codes, drop}
use Rattle.std.specs.List.{flat_map}
use Rattle.swc_tree_marks.specs.Globals.{Table}
use Rattle.swc_tree_node.specs.declared.kind.Kind.{Kind}
use Rattle.swc_tree_node.specs.declared.kind.Kind.TheVariants as kind
use Rattle.swc_tree_node.specs.declared.fields.modules.module_.TheConstants as module_
use Rattle.swc_tree_node.specs.declared.node.Node.{Node, Absent, List as Many, Tree, out-Node}
use Rattle.swc_tree_node.specs.declared.node.Node.TheOpen.{Node-F}
use Rattle.swc_tree_scoping.specs.Places.{items_in, place_below, program_place}
use Rattle.swc_tree_scoping.specs.Scopes.{scope_count}
use Rattle.swc_tree_spaces.specs.Spaces.{ResolvedBy}
use Rattle.swc_base_resolver_program.specs.Marked.{OnlyContexts}
use Rattle.swc_base_tables_injection.specs.Brought.{nowhere, string}
use Rattle.swc_base_tables_injection.specs.Bodies.{program_kind, put_in}

-- whether what stands in a program's body is strict code (ECMA-262, 11.2.2)
abbrev pub is_strict_program : Node → Bool
is_strict_program t = (place_below program_place t module_.BODY).strict

-- a first statement by which a script is strict, or by which it is not, whatever comes behind it
abbrev pub opening : Bool → Node
opening true = Tree kind.ExprStmt (nowhere ∷ string (codes "use strict") ∷ [])
opening false = Tree kind.EmptyStmt (nowhere ∷ [])

-- the statements in a program of that kind and strictness, with nothing else in it but what makes it strict or not
abbrev pub alone : Kind → Bool → List Node → Node
alone k strict ts = Tree k (nowhere ∷ Many (opening strict ∷ ts) ∷ Absent ∷ [])

-- a script is strict just if it is said to be, and a module always is
pub record IsOfStrictness (k : Kind) (strict : Bool) (t : Node) : Type 0 where
  pub script : k ≡ kind.Script → is_strict_program t ≡ strict
  pub module_ : k ≡ kind.Module → is_strict_program t ≡ true

-- `after` are the statements `before`, resolved in such a program, over both name spaces: the helper mark is that of the program's scope, and
-- free names have the global mark
abbrev pub ResolvedAlone : ℕ → ℕ → Table → Table → Kind → Bool → List Node → List Node → Type 0
ResolvedAlone helper global old new k strict before after = ResolvedBy global helper old new (alone k strict before) (alone k strict after)

-- only contexts change
abbrev pub MarkedAlone : Kind → Bool → List Node → List Node → Type 0
MarkedAlone k strict before after = OnlyContexts (alone k strict before) (alone k strict after)

-- how many scopes the statements open there, but for the program's
abbrev pub scopes_in : Option Kind → Bool → List Node → ℕ
scopes_in None strict ts = 0
scopes_in (Some k) strict ts = scope_count program_place (alone k strict ts) - 1

-- the bodies as one list
abbrev pub all_bodies : List (List Node) → List Node
all_bodies bodies = flat_map (λ body. body) bodies

-- ... the bodies, injected into a program
abbrev pub scopes_of : Node → List (List Node) → ℕ
scopes_of program bodies = scopes_in (program_kind program) (is_strict_program program) (all_bodies bodies)

-- `answer` is the program with the bodies in it, as one list, once the list became what it becomes
pub record IsInjected (becomes : List Node → List Node → Type 0) (bodies : List (List Node)) (program answer : Node) : Type 0 where
  pub statements : List Node
  pub became : becomes (all_bodies bodies) statements
  pub put_there : answer ≡ put_in statements program

abbrev pub statements_in : Node-F Node → List Node
statements_in (Node-F.Tree k (span ∷ body ∷ rest)) = drop 1 (items_in (out-Node body))
statements_in _ = []

-- the statements of a program but for the first
abbrev pub statements_of : Node → List Node
statements_of t = statements_in (out-Node t)
