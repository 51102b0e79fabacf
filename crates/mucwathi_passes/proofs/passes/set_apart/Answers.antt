use Rattle.std.proofs.Common.{IfErr, IfOk, subst}
use Rattle.std.proofs.lemmas.Result.{err_from_is_err_and}
use Rattle.swc_base_mangle.specs.Lower.swc_base_rename_program.specs.Renamed.{IsHygienic, IsRenameRefusal, hygiene_renaming}
use Rattle.mucwathi_passes.proofs.Made.{apart_made}
use Rattle.mucwathi_passes.proofs.Refusals.{apart_unresolved}
use Rattle.mucwathi_passes.proofs.passes.set_apart.Goals as goal

pub returns-in_err-globals : goal.returns-in_err-globals
returns-in_err-globals c =
    let refused = err_from_is_err_and c.from_residual.result c.from_residual.ensures.1 in
    rw (refused.1, refused.2) tt

pub returns-in_err-resolved : goal.returns-in_err-resolved
returns-in_err-resolved c =
    let refused = err_from_is_err_and c.from_residual-in_err-resolved.result c.from_residual-in_err-resolved.ensures.1 in
    rw (refused.1, refused.2) (apart_unresolved c.args.settings.now c.args.program c.in_err-resolved.field-0.0 c.in_err-resolved.ensures.refused)

pub returns : goal.returns
returns c =
    apart_made c.args.settings.now c.args.program c.resolve.new.globals c.in_ok-resolved.resolved c.hygiene_program.result (c.in_ok-resolved.ensures.by_values c.requires.types)
    (subst (λ config. IfOk c.hygiene_program.result (IsHygienic c.resolve.new.globals config c.in_ok-resolved.resolved)) c.config_of.ensures c.hygiene_program.ensures.hygienic)
    (subst (λ config. IfErr c.hygiene_program.result (IsRenameRefusal c.resolve.new.globals config hygiene_renaming c.in_ok-resolved.resolved)) c.config_of.ensures c.hygiene_program.ensures.refused)
