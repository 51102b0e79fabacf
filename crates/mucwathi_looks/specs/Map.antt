-- The source map of what was written for a text.
use Rattle.std.specs.Prelude.{◌≡◌, ℕ, List, Option, Some, None, Vec, map as each}
use Rattle.swc_tree_node.specs.declared.node.Node.{Node}
use Rattle.text_source.specs.Texts.{SpansAreOf}
use Rattle.mucwathi_order.specs.declared.order.Order.{Order}
use Rattle.mucwathi_passes.specs.Passes.{Makes}
use Rattle.mucwathi_commands.specs.Written.{IsReadAs}
use Rattle.mucwathi_mappings.specs.declared.nodes.Mapped.{Mapped}
use Rattle.mucwathi_mappings.specs.Maps.{IsMapOf}
use Rattle.mucwathi_looks.specs.declared.mapping.Texts.{Texts}
use Rattle.mucwathi_looks.specs.Spots.{all_told, name_at, names, spots, told}

-- it tells of the nodes of an answer and of those that were written for it, one beside another: as many, and each identifier beside one
-- of its text
pub record TellsNodes (name text out : List ℕ) (source answer written : Node) (map : List ℕ) : Type 0 where
  pub nodes : List Mapped
  pub named : names (spots answer) ≡ names (spots written)
  pub are : each told nodes ≡ all_told (name_at (spots source)) (spots answer) (spots written)
  pub whole : IsMapOf name text out nodes map

-- what was written is read again, and where its nodes stand is told
pub record TellsWritten (order : Order) (name text out : List ℕ) (source answer : Node) (map : List ℕ) : Type 0 where
  pub written : Node
  pub again : IsReadAs order.goal written out
  pub stands : SpansAreOf order.goal written out
  pub tells : TellsNodes name text out source answer written map

-- what was read is the text of a source, and what the map tells of is what the command makes of it
pub record IsMap (order : Order) (name text out map : List ℕ) : Type 0 where
  pub source : Node
  pub answer : Node
  pub read : IsReadAs order.goal source text
  pub stands : SpansAreOf order.goal source text
  pub made : Makes order.command order.settings source answer
  pub tells : TellsWritten order name text out source answer map

-- ---- as the code has it

abbrev pub IsNoneOrMap : {Z : Type 0} → Texts → Node → Node → Node → Option (Vec ℕ Z) → Type 0
IsNoneOrMap texts source answer written None = Unit {0}
IsNoneOrMap texts source answer written (Some map) = TellsNodes texts.name.now texts.read.now texts.written.now source answer written map.items
