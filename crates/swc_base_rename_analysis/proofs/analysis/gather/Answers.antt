use Rattle.std.proofs.Common.{◌≡◌, ◌+◌, Some, arith, map, refl, ap, ◌∙◌}
use Rattle.std.specs.List.{slice_get}
use Rattle.std.proofs.lemmas.Option.{slice_get_read}
use Rattle.swc_base_rename_analysis.specs.Numbers.{known_by, known_ids}
use Rattle.swc_base_rename_analysis.specs.Read.{taker}
use Rattle.swc_base_rename_analysis.specs.Walk.{met_of}
use Rattle.swc_base_rename_analysis.proofs.ReadOff.{known_next, sites_next}
use Rattle.swc_base_rename_analysis.proofs.analysis.gather.Goals as goal

pub loop-position-preserved : goal.loop-position-preserved
loop-position-preserved c =
    let here : slice_get c.args.layout.now.names.items c.loop-position.position ≡ Some c.index-name.result.now = slice_get_read c.args.layout.now.names.items _ c.loop-position.position c.index-name.result.now refl (omega arith) c.index-name.ensures in
    let known : known_ids c.meet.new.self ≡ known_by (map met_of c.args.layout.now.names.items) (c.loop-position.position + 1) =
    known_next c.args.layout.now.names.items c.loop-position.position c.index-name.result.now (known_ids c.loop-position.ids) (known_ids c.meet.new.self) here c.loop-position.invariant.ids c.in_ok-id.ensures.ids in
    record {
      table = c.in_ok-id.ensures.table;
      ids = known;
      sites = sites_next c.args.layout.now.regions.items c.args.layout.now.names.items c.loop-position.position c.index-name.result.now (known_ids c.meet.new.self) c.in_ok-id.id c.taker-scope.result
          c.loop-position.sites.items c.add_site.new.sites.items here known c.in_ok-id.ensures.number (c.taker-scope.ensures ∙ ap (λ rs. taker rs (met_of c.index-name.result.now)) c.as_slice.ensures.value) c.loop-position.invariant.sites c.in_ok-add_site.ensures;
    }
