-- Which helpers a program was given, and which bodies they have.
use Rattle.std.specs.Prelude.{ℕ, Bool, true, false, ◌==◌, ◌&&◌, Option, List, [], filter, map, unwrap_or, IsSome}
use Rattle.std.specs.Ordering.{nat_cmp}
use Rattle.std.specs.List.{All, list_any}
use Rattle.std.specs.BTreeMap.{get}
use Rattle.std.specs.Int.{bit_at}
use Rattle.swc_tree_node.specs.declared.node.Node.{Node}
use Rattle.swc_tree_spaces.specs.Spaces.{has_types}
use Rattle.swc_base_tables_helpers.specs.Chosen.{Chosen}
use Rattle.swc_base_tables_helpers.specs.Table.{name_of, numbers_from, table}
use Rattle.swc_base_tables_injection.specs.Alone.{scopes_of}
use Rattle.swc_base_tables_program.specs.declared.bodies.Bodies.{Bodies}

-- the body of a helper, if it has one
abbrev pub body_of : Bodies → ℕ → Option (List Node)
body_of bodies helper = get nat_cmp bodies.by_number helper

abbrev pub is_in : ℕ → ℕ → Bool
is_in set helper = bit_at set helper == 1

-- the helpers of a set, in the order of the table
abbrev pub in_order : ℕ → List ℕ
in_order set = filter (is_in set) (numbers_from 1 table)

-- each helper of the set has a body
abbrev pub Covers : Bodies → ℕ → Type 0
Covers bodies set = All (λ helper. IsSome (body_of bodies helper)) (in_order set)

-- the names of the helpers of a set
abbrev pub names_in : ℕ → List (List ℕ)
names_in set = map name_of (in_order set)

abbrev pub body_or_none : Bodies → ℕ → List Node
body_or_none bodies helper = unwrap_or (body_of bodies helper) []

-- their bodies
abbrev pub bodies_in : Bodies → ℕ → List (List Node)
bodies_in bodies set = map (body_or_none bodies) (in_order set)

-- the helper is one of a set, and types stand in its body
abbrev pub brings_types : Bodies → ℕ → ℕ → Bool
brings_types bodies set helper = is_in set helper && list_any has_types (body_or_none bodies helper)

-- types stand in a body of the helpers of a set
abbrev pub have_types : Bodies → ℕ → Bool
have_types bodies set = list_any (list_any has_types) (bodies_in bodies set)

-- how many scopes the bodies of a program's helpers open in it; from a package there are none
abbrev pub scopes_if : Bool → ℕ → ℕ
scopes_if true n = 0
scopes_if false n = n

abbrev pub scopes_given : Chosen → Bodies → Node → ℕ
scopes_given helpers bodies program = scopes_if helpers.external (scopes_of program (bodies_in bodies helpers.enabled))
