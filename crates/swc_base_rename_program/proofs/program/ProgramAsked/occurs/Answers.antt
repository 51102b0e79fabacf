use Rattle.std.proofs.Common.{◌≡◌, true, ap, sym, ◌∙◌}
use Rattle.std.specs.List.{slice_get}
use Rattle.swc_base_rename_naming_laws.proofs.Names.{occurs_is}
use Rattle.swc_base_rename_program.specs.Spans.{is_apart, spans}
use Rattle.swc_base_rename_program.proofs.Beside.{not_occurring}
use Rattle.swc_base_rename_program.proofs.program.ProgramAsked.occurs.Goals as goal

pub returns-then-is_apart : goal.returns-then-is_apart
returns-then-is_apart c =
    let p = c.args.self.now in
    let a = p.analysis.now in
    let apart : is_apart (slice_get a.regions.items c.args.scope) (slice_get (spans a.ids.items) c.args.id) ≡ true
    = ap (λ rs. is_apart (slice_get rs c.args.scope) (slice_get (spans a.ids.items) c.args.id)) (sym c.as_slice.ensures.value)
    ∙ ap (λ ss. is_apart (slice_get c.as_slice.result.now c.args.scope) (slice_get ss c.args.id)) (sym p.spanned)
    ∙ sym c.is_apart.ensures ∙ c.if-is_apart.true in
    sym (not_occurring a c.args.scope c.args.id p.rising apart)

pub returns : goal.returns
returns c = occurs_is c.args.self.now.analysis.now c.args.scope c.args.id c.occurs.result c.occurs.ensures
