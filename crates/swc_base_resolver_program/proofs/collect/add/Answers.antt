use Rattle.std.proofs.Common.{refl, length-set}
use Rattle.std.proofs.lemmas.Option.{slice_get_read}
use Rattle.std.proofs.lemmas.Result.{IfOk-weaker}
use Rattle.swc_base_resolver_program.proofs.Gathered.{added}
use Rattle.swc_base_resolver_program.proofs.collect.add.Goals as goal

pub returns-in-Some : goal.returns-in-Some
returns-in-Some c =
    let (is, here, _, within, _) = c.in-Some.ensures.item in
    let got = slice_get_read c.args.tables.now.items _ c.args.number c.in-Some.names.now refl within.0 here in
    record {
      size = IfOk-weaker c.insert.result _ _ (λ x h. length-set c.args.tables.now.items c.args.number c.insert.new.self) c.insert.ensures;
      tables = IfOk-weaker c.insert.result _ _ (λ x h. added c.args.tables.now.items _ c.args.number c.in-Some.names.now c.insert.new.self c.args.name.now c.args.ways got refl h) c.insert.ensures;
    }
