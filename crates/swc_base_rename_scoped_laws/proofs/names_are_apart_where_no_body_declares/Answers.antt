use Rattle.swc_base_rename_scoped_laws.proofs.names_are_apart_where_no_body_declares.Goals as goal
use Rattle.swc_base_rename_scoped_laws.proofs.Apart.{names_apart}
use Rattle.swc_base_rename_scoped_laws.proofs.Exports.{no_body_exported}

-- src/lib.rt
pub returns : goal.returns
returns c = λ t s fit plain scoped none r new_texts text keeps named texts.
    names_apart t s fit plain scoped none r new_texts text keeps named texts (no_body_exported t s fit)
