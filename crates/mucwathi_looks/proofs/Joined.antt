-- Maps of nodes.
use Rattle.std.proofs.Common.{◌≡◌, ℕ, List, Bor, map, sym, ap, ◌∙◌}
use Rattle.std.specs.BTreeMap.{BTreeMap}
use Rattle.swc_tree_node.specs.declared.node.Node.{Node}
use Rattle.mucwathi_mappings.specs.declared.nodes.Mapped.{Mapped}
use Rattle.mucwathi_mappings.specs.Maps.{IsMapOf}
use Rattle.mucwathi_looks.specs.declared.spots.Spot.{Spot}
use Rattle.mucwathi_looks.specs.Map.{TellsNodes}
use Rattle.mucwathi_looks.specs.Spots.{HasNames, Stood, all_told, name_at, names as texts, names_in, seen, spots, told}
use Rattle.mucwathi_looks.proofs.Telling.{told_by}

pub tells_nodes : (name text out : List ℕ) (source answer written : Node) (olds news outs : List Spot) (names : BTreeMap ℕ (Bor (List ℕ))) (nodes : List Mapped) (table : List ℕ)
    → map seen olds ≡ spots source → map seen news ≡ spots answer → map seen outs ≡ spots written → texts (map seen news) ≡ texts (map seen outs) → HasNames (map seen olds) names
    → map told nodes ≡ all_told (names_in names) (map seen news) (map seen outs) → IsMapOf name text out nodes table → TellsNodes name text out source answer written table
tells_nodes name text out source answer written olds news outs names nodes table first second third same has are whole = record {
  nodes = nodes;
  named = sym (ap texts second) ∙ same ∙ ap texts third;
  are = are ∙ told_by (names_in names) (name_at (map seen olds)) (map seen news) (map seen outs) has
      ∙ ap (λ (l : List Stood). all_told (name_at l) (map seen news) (map seen outs)) first
      ∙ ap (λ (l : List Stood). all_told (name_at (spots source)) l (map seen outs)) second
      ∙ ap (λ (l : List Stood). all_told (name_at (spots source)) (spots answer) l) third;
  whole = whole;
}
