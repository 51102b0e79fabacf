use Rattle.std.proofs.lemmas.Result.{IfOk-weaker}
use Rattle.swc_base_rename_substitution.specs.Names.{new_id}
use Rattle.swc_base_rename_substitution.proofs.Trees.{put_back}
use Rattle.swc_base_rename_substitution.proofs.written_out.rename_named.Goals as goal

pub returns-in_ok-name-in-Identifier : goal.returns-in_ok-name-in-Identifier
returns-in_ok-name-in-Identifier c =
    IfOk-weaker c.written_out_if.result _ _ (put_back (new_id c.args.names) c.args.place c.args.kind c.args.fields c.replace.new.self c.set.new.self c.replace.result c.in-Identifier.name_kind c.in-Identifier.name c.in_ok-name-in-Identifier.name
    c.in_ok-name-in-Identifier.old c.replace.ensures.taken c.in-Identifier.is c.replace.ensures.list c.in_ok-name-in-Identifier.ensures.new c.in_ok-name-in-Identifier.ensures.old
    c.set.ensures) c.written_out_if.ensures
