-- Nodes of trees, and what a source map tells of them.
use Rattle.std.specs.Borrow.{Bor}
use Rattle.std.specs.BTreeMap.{BTreeMap, get}
use Rattle.std.specs.List.{flat_map}
use Rattle.std.specs.Option.{option_or}
use Rattle.std.specs.Ordering.{nat_cmp}
use Rattle.std.specs.Prelude.{◌≡◌, ℕ, ◌-◌, ◌||◌, List, [], ◌∷◌, ◌++◌, Option, Some, None, drop, map as each, nat_eq, option_map, if◌then◌else◌}
use Rattle.std.specs.Str.{bytes_eq}
use Rattle.swc_tree_node.specs.declared.kind.Kind.{Kind}
use Rattle.swc_tree_node.specs.declared.kind.Kind.TheVariants as kind
use Rattle.swc_tree_node.specs.declared.node.Node.{Node, fold-Node}
use Rattle.swc_tree_node.specs.declared.node.Node.TheOpen.{Node-F}
use Rattle.mucwathi_mappings.specs.declared.nodes.Mapped.{Mapped}
use Rattle.mucwathi_mappings.specs.Names.{text_of}
use Rattle.mucwathi_looks.specs.declared.spots.Spot.{Spot}

-- where the span of a node begins, and its text if it is an identifier
abbrev pub Stood : Type 0
Stood = ℕ × Option (List ℕ)

abbrev pub seen : Spot → Stood
seen s = (s.lo, option_map text_of s.name)

-- how many of a node's fields tell nothing: the span of a binary operation, which begins with its left side, so that the spots of
-- `a || b || c` are the same however it is grouped
abbrev pub untold : Kind → ℕ
untold kind.BinExpr = 1
untold k = 0

abbrev pub spots_step : Node-F (List Stood) → List Stood
spots_step (Node-F.Identifier k i) = (i.span.lo, Some i.sym) ∷ []
spots_step (Node-F.Span s) = (s.lo, None) ∷ []
spots_step (Node-F.List below) = flat_map (λ l. l) below
spots_step (Node-F.Tree k below) = flat_map (λ l. l) (drop (untold k) below)
spots_step _ = []

-- the spans of a tree and its identifiers, each before what is below it
abbrev pub spots : Node → List Stood
spots = fold-Node (List Stood) spots_step

-- which of them are identifiers, and of what texts
abbrev pub names : List Stood → List (Option (List ℕ))
names = each (λ (s : Stood). s.1)

-- the name that stands at a place: that of the last identifier there
abbrev pub name_at : List Stood → ℕ → Option (List ℕ)
name_at [] place = None
name_at (s ∷ ss) place = option_or (name_at ss place) (if nat_eq s.0 place then s.1 else None)

-- a name, if it is another than the new one
abbrev pub other_than : List ℕ → Option (List ℕ) → Option (List ℕ)
other_than new None = None
other_than new (Some old) = if bytes_eq old new then None else Some old

-- the old name of an identifier, by the names that stood at places
abbrev pub old_name : (ℕ → Option (List ℕ)) → Stood → Option (List ℕ)
old_name names (place, None) = None
old_name names (place, Some new) = other_than new (names place)

-- how many bytes are before a node in the source and in what is written, and its old name
abbrev pub ToldNode : Type 0
ToldNode = ℕ × ℕ × Option (List ℕ)

abbrev pub told : Mapped → ToldNode
told m = (m.read, m.written, option_map text_of m.old)

-- a node of an answer and the one that was written for it are told of, unless one of them stands nowhere
abbrev pub told_of : (ℕ → Option (List ℕ)) → Stood → Stood → List ToldNode
told_of names new out = if nat_eq new.0 0 || nat_eq out.0 0 then [] else ((new.0 - 1, out.0 - 1, old_name names new) ∷ [])

-- one beside another
abbrev pub all_told : (ℕ → Option (List ℕ)) → List Stood → List Stood → List ToldNode
all_told names (n ∷ ns) (o ∷ os) = told_of names n o ++ all_told names ns os
all_told names _ _ = []

-- ---- names as the code keeps them

abbrev pub names_in : BTreeMap ℕ (Bor (List ℕ)) → ℕ → Option (List ℕ)
names_in names place = option_map text_of (get nat_cmp names place)

abbrev pub HasNames : List Stood → BTreeMap ℕ (Bor (List ℕ)) → Type 0
HasNames ss names = (place : ℕ) → names_in names place ≡ name_at ss place

abbrev pub Notes : Stood → BTreeMap ℕ (Bor (List ℕ)) → BTreeMap ℕ (Bor (List ℕ)) → Type 0
Notes s old new = (place : ℕ) → names_in new place ≡ option_or (if nat_eq s.0 place then s.1 else None) (names_in old place)
