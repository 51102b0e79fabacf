use Rattle.std.proofs.Common.{List, map, sym, ap, ◌∙◌, subst}
use Rattle.mucwathi_mappings.specs.declared.nodes.Mapped.{Mapped}
use Rattle.mucwathi_mappings.specs.Maps.{IsMapOf}
use Rattle.mucwathi_looks.specs.declared.spots.Spot.{Spot}
use Rattle.mucwathi_looks.specs.Spots.{HasNames, seen}
use Rattle.mucwathi_looks.proofs.Beside.{as_many}
use Rattle.mucwathi_looks.proofs.Joined.{tells_nodes}
use Rattle.mucwathi_looks.proofs.mapping.map_of.Goals as goal

pub mapped_of-requires : goal.mapped_of-requires
mapped_of-requires c = as_many c.as_slice-news.result.now c.as_slice-outs.result.now (c.same_names.ensures.0 c.if-not-same_names.false)

pub returns : goal.returns
returns c =
    tells_nodes c.args.texts.name.now c.args.texts.read.now c.args.texts.written.now c.args.source.now c.args.answer.now c.args.written.now c.in_ok-sources.sources.items c.as_slice-news.result.now c.as_slice-outs.result.now c.in_ok-olds.olds
    c.in_ok-mapped.mapped.items c.in_ok-map.map.items c.in_ok-sources.ensures (ap (λ (l : List Spot). map seen l) c.as_slice-news.ensures.value ∙ c.in_ok-answers.ensures)
    (ap (λ (l : List Spot). map seen l) c.as_slice-outs.ensures.value ∙ c.in_ok-writes.ensures) (c.same_names.ensures.0 c.if-not-same_names.false)
    (subst (λ (l : List Spot). HasNames (map seen l) c.in_ok-olds.olds) c.as_slice.ensures.value c.in_ok-olds.ensures) c.in_ok-mapped.ensures
    (subst (λ (l : List Mapped). IsMapOf c.args.texts.name.now c.args.texts.read.now c.args.texts.written.now l c.in_ok-map.map.items) c.as_slice-2.ensures.value c.in_ok-map.ensures)
