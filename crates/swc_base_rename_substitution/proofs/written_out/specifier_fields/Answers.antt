use Rattle.swc_base_rename_substitution.proofs.Parts.{other_done}
use Rattle.swc_base_rename_substitution.proofs.written_out.specifier_fields.Goals as goal

pub returns : goal.returns
returns c =
    other_done c.args.old c.args.fields c.replace-other.new.self c.set.new.self _ c.replace-other.result c.in_ok-other.other
    c.requires c.replace-other.ensures.taken c.replace-other.ensures.list c.in_ok-other.ensures c.set.ensures
