-- Source maps (ECMA-426, version 3).
use Rattle.std.specs.BTreeMap.{BTreeMap, IsOrdered}
use Rattle.std.specs.List.{AllZip}
use Rattle.std.specs.Ordering.{nat_cmp}
use Rattle.std.specs.Prelude.{◌≡◌, ℕ, List, ◌++◌, codes}
use Rattle.mucwathi_mappings.specs.Mappings.{AreMappings, TellsOf, start}
use Rattle.mucwathi_mappings.specs.Nodes.{HasLast, old_names}
use Rattle.mucwathi_mappings.specs.Quoted.{quoted, quoted_all}
use Rattle.mucwathi_mappings.specs.declared.encode.Entry.{Entry}
use Rattle.mucwathi_mappings.specs.declared.nodes.Mapped.{Mapped}

-- the source map of a text that was written for a source of that name: its entries tell of the places of nodes in their order, of the last node at
-- each, and its names are just the old names of these, each once, in the order in which they first stand
pub record IsMapOf (name read written : List ℕ) (mapped : List Mapped) (out : List ℕ) : Type 0 where
  pub names : List (List ℕ)
  pub places : BTreeMap ℕ Mapped
  pub entries : List Entry
  pub mappings : List ℕ
  pub last : HasLast mapped places
  pub rise : IsOrdered nat_cmp places
  pub named : names ≡ old_names places.entries
  pub told : AllZip (TellsOf read written names) places.entries entries
  pub are_mappings : AreMappings start entries mappings
  pub whole : out ≡ codes "{\"version\":3,\"sources\":[" ++ quoted name ++ codes "],\"names\":[" ++ quoted_all names ++ codes "],\"mappings\":\"" ++ mappings ++ codes "\"}\n"
