-- The members of an object by the numbers of fields: for private clauses.
use Rattle.std.specs.Prelude.{ℕ, Option, Some, None, List, [], ◌∷◌, slice_get, unwrap_or, option_map, codes, ⊤}
use Rattle.json.specs.Json.{Json, string, Members, no_members, member}
use Rattle.swc_tree_node.specs.declared.kind.Kind.{Kind}
use Rattle.swc_tree_node.specs.declared.node.Node.{Node}
use Rattle.swc_tree_node.specs.Table.{fields_of, name_of}
use Rattle.jsbase_form.specs.Known.{NumbersShort}
use Rattle.jsbase_form.specs.Writing.{json}

-- the key of a field; past the last that of the member that names the kind
abbrev pub key_at : Kind → ℕ → List ℕ
key_at k i = unwrap_or (option_map (λ f. f.0) (slice_get (fields_of k) i)) (codes "type")

-- what is written at it
abbrev pub value_at : Kind → List Node → ℕ → Json
value_at k ts i = unwrap_or (option_map json (slice_get ts i)) (string (name_of k))

abbrev pub members_at : Kind → List Node → List ℕ → Members
members_at k ts [] = no_members
members_at k ts (i ∷ is) = member (key_at k i) (value_at k ts i) (members_at k ts is)

abbrev pub ShortOr : Option Node → Type 0
ShortOr None = ⊤
ShortOr (Some t) = NumbersShort t

-- the numbers are short of the nodes that have these numbers
abbrev pub ShortAt : List Node → List ℕ → Type 0
ShortAt ts [] = ⊤
ShortAt ts (i ∷ is) = ShortOr (slice_get ts i) × ShortAt ts is
