-- When a program is another one with new names.
use Rattle.std.specs.Prelude.{◌≡◌, Some, [], unwrap_or, if◌then◌else◌}
use Rattle.swc_tree_marks.specs.declared.ident.Ident.{Ident}
use Rattle.swc_tree_node.specs.declared.kind.Kind.{Kind}
use Rattle.swc_tree_node.specs.declared.node.Node.{Node, Span, Identifier, roll-Node, fold-Node}
use Rattle.swc_tree_node.specs.declared.node.Node.TheOpen.{Node-F}
use Rattle.swc_tree_scoping.specs.declared.places.Standing.{Standing}
use Rattle.swc_tree_scoping.specs.declared.places.Place.{Place}
use Rattle.swc_tree_scoping.specs.Places.{Path, place_at, program_place}
use Rattle.swc_tree_scoping.specs.Scopes.{is_name}
use Rattle.swc_tree_grammar.specs.Blocks.{no_span}
use Rattle.swc_base_rename_substitution.specs.Names.{Id}
use Rattle.swc_base_rename_substitution.specs.Identifiers.{Changes, id_of}

abbrev pub no_name : Ident
no_name = record { span = no_span; ctxt = []; sym = [] }

abbrev pub outline_step : Node-F Node → Node
outline_step (Node-F.Span s) = Span no_span
outline_step (Node-F.Identifier k i) = Identifier k no_name
outline_step y = roll-Node y

-- the tree with one identifier for all of a kind, and one span
abbrev pub outline : Node → Node
outline t = fold-Node Node outline_step t

abbrev pub nameless_step : Node-F Node → Node
nameless_step (Node-F.Identifier k i) = Identifier k (record i { ctxt = []; sym = [] })
nameless_step y = roll-Node y

-- the tree with one text for all identifiers, and no context; where they stand in the source stays
abbrev pub nameless : Node → Node
nameless = fold-Node Node nameless_step

-- two trees are the same, spans too, but for the texts and the contexts of identifiers
abbrev pub SameButForNames : Node → Node → Type 0
SameButForNames t u = nameless t ≡ nameless u

-- what the id of an identifier becomes that stands so: the new one, where it is bound or referred to and its id changes
abbrev pub id_anew : Changes → Standing → Id → Id
id_anew m standing x = if is_name standing then unwrap_or (m x) x else x

-- the second tree is the first one but for spans and the new ids at bindings and references
pub record HasNewNames (m : Changes) (t u : Node) : Type 0 where
  pub shape : outline t ≡ outline u
  pub names : (p : Path) (w : Place) (k : Kind) (i : Ident) → place_at program_place t p ≡ Some (w, Identifier k i)
      → (j : Ident) × (place_at program_place u p ≡ Some (w, Identifier k j)) × (id_of j ≡ id_anew m w.standing (id_of i))
