use Rattle.std.proofs.Common.{◌≡◌, map}
use Rattle.swc_base_rename_analysis.specs.Numbers.{IsTable, known_by, known_ids}
use Rattle.swc_base_rename_analysis.specs.Read.{sites_by}
use Rattle.swc_base_rename_analysis.specs.Walk.{met_of}
use Rattle.swc_base_rename_analysis.proofs.analysis.gather.Given as goal

abbrev pub invariant-loop-position : goal.invariant-loop-position
invariant-loop-position l = record {
  table : IsTable l.ids;
  ids : known_ids l.ids ≡ known_by (map met_of l.layout.names.items) l.position;
  sites : l.sites.items ≡ sites_by l.layout.regions.items (map met_of l.layout.names.items) l.position;
}
