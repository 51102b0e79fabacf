use Rattle.swc_base_rename_scoped_laws.proofs.names_are_apart.Goals as goal
use Rattle.swc_base_rename_scoped_laws.proofs.Apart.{names_apart}
use Rattle.swc_base_rename_scoped_laws.proofs.Bare.{no_body_declares}
use Rattle.swc_base_rename_scoped_laws.proofs.Exports.{no_body_exported}

-- src/lib.rt
pub returns : goal.returns
returns c = λ t s fit plain scoped writable r new_texts text keeps named texts.
    names_apart t s fit plain scoped (no_body_declares t s fit writable) r new_texts text keeps named texts
    (no_body_exported t s fit)
