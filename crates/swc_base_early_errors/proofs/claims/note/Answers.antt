use Rattle.std.proofs.Common.{refl}
use Rattle.std.proofs.lemmas.Option.{slice_get_read}
use Rattle.std.proofs.lemmas.Result.{IfOk-weaker}
use Rattle.swc_base_early_errors.proofs.Noted.{noted_besides}
use Rattle.swc_base_early_errors.proofs.claims.note.Goals as goal

pub returns-in-Some-clause-notes : goal.returns-in-Some-clause-notes
returns-in-Some-clause-notes c =
    let (is, here, _, within, _) = c.in-Some.ensures.item in
    let got = slice_get_read c.args.tables.now.items _ c.args.claim.scope c.in-Some.names.now refl within.0 here in
    IfOk-weaker c.insert.result _ _ (λ x h. noted_besides c.args.tables.now.items _ c.args.claim c.in-Some.names.now c.insert.new.self c.args.name.now got refl h c.requires.free) c.insert.ensures
