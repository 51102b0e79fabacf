-- Identifiers that pass a test, in their places, with the scopes that are open there.
use Rattle.std.specs.Prelude.{◌≡◌, ℕ, ◌+◌, ◌<◌, Bool, true, false, ◌||◌, IsTrue, Some, List, [], ◌∷◌, slice_get, take}
use Rattle.swc_tree_marks.specs.declared.ident.Ident.{Ident}
use Rattle.swc_tree_node.specs.declared.kind.Kind.{Kind}
use Rattle.swc_tree_node.specs.declared.slot.Role.{Role}
use Rattle.swc_tree_node.specs.declared.slot.Role.TheVariants as role
use Rattle.swc_tree_node.specs.declared.node.Node.{Node, out-Node}
use Rattle.swc_tree_node.specs.declared.node.Node.TheOpen.{Node-F}
use Rattle.swc_tree_scoping.specs.declared.places.Place.{Place}
use Rattle.swc_tree_scoping.specs.Places.{Path, child, field_role, given, place_at}
use Rattle.swc_tree_scoping.specs.Folds.{each_in}
use Rattle.swc_tree_scoping.specs.Scopes.{scope_count, total}
use Rattle.swc_base_resolver_program.specs.Lookup.{Open}
use Rattle.swc_base_resolver_program.specs.Walks.{open_round}
use Rattle.swc_base_scope_checks.specs.declared.walk.Listed.{Listed}
use Rattle.swc_base_scope_checks.specs.declared.walk.Listed.TheVariants as listed

-- a test of an identifier: by its place, by whether it stands in an export list, and by the scopes that are open there
abbrev pub Test : Type 0
Test = Place → Ident → Bool → List Open → Bool

abbrev pub is_export_role : Role → Bool
is_export_role role.ExportLocal = true
is_export_role _ = false

-- a field is the list of an export declaration
abbrev pub is_list : Kind → ℕ → Bool
is_list k i = is_export_role (field_role k i)

abbrev pub lists : Node-F Node → ℕ → Bool
lists (Node-F.Tree k ts) i = is_list k i
lists _ i = false

-- as the code keeps it
abbrev pub listed_at : Listed → ℕ → Bool
listed_at (listed.Items x) i = x
listed_at (listed.Fields k x) i = x || is_list k i

-- what stands at a path stands in an export list; the node itself does or does not
abbrev pub in_list : Bool → Node → Path → Bool
in_list x t [] = x
in_list x t (i ∷ p) = given (child t i) (x || lists (out-Node t) i) (λ c. in_list (x || lists (out-Node t) i) c p)

-- a node is an identifier that passes the test
abbrev pub PassesHere : Test → Bool → List Open → Place → Node-F Node → Type 0
PassesHere test x env w (Node-F.Identifier k i) = IsTrue (test w i x env)
PassesHere test x env w _ = ⊥

-- an identifier in a tree passes it; so many scopes begin before the tree, and these are open round it
pub record Passes (test : Test) (x : Bool) (env : List Open) (n : ℕ) (w : Place) (t : Node) : Type 0 where
  pub path : Path
  pub place : Place
  pub node : Node
  pub stands : place_at w t path ≡ Some (place, node)
  pub passes : PassesHere test (in_list x t path) (open_round env n w t path) place (out-Node node)

-- the same in one of the first of several nodes
abbrev pub PassesBelow : Test → (ℕ → Bool) → (ℕ → List Open) → ℕ → (ℕ → Place) → List Node → ℕ → Type 0
PassesBelow test xs envs n places ts m =
    (i : ℕ) × (c : Node) × (i < m) × (slice_get ts i ≡ Some c) × Passes test (xs i) (envs i) (n + total (each_in scope_count places (take i ts))) (places i) c
