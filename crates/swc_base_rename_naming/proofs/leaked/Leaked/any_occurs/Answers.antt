use Rattle.std.proofs.Common.{rules, ◌≡◌, Some, ap, sym, ◌∙◌}
use Rattle.std.specs.BTreeMap.{get_by_text}
use Rattle.std.specs.List.{list_any}
use Rattle.swc_base_rename_naming.specs.Chained.{ids_of}
use Rattle.swc_base_rename_naming.specs.Stretches.{is_within}
use Rattle.swc_base_rename_naming.proofs.Marks.{placed_so}
use Rattle.swc_base_rename_naming.proofs.leaked.Leaked.any_occurs.Goals as goal

pub returns-in-Some : goal.returns-in-Some
returns-in-Some g c =
    let asked = c.args.asked.now in
    let places = c.in-Some.places.now in
    let at : get_by_text c.args.self.now.places c.args.text.now ≡ Some places = search rules in
    placed_so (g.A.Asked.positions asked) (g.A.Asked.occurs asked c.args.scope) c.stretch.result
    (λ k. g.met.A.Asked.placed asked c.args.scope k ∙ ap (λ s. list_any (is_within s) (g.A.Asked.positions asked k)) (sym c.stretch.ensures))
    (ids_of c.args.self.now.holders c.args.text.now) places (c.requires c.args.text.now places at) c.any_within.result c.any_within.ensures.found c.any_within.ensures.missing
