use Rattle.std.proofs.Common.{refl, ap, ◌∙◌}
use Rattle.serde_json.specs.Data.{object}
use Rattle.serde_json.proofs.Views.{view-Object}
use Rattle.swc_base_tables_settings.specs.Assumptions.{flags, keys, members_with, read}
use Rattle.swc_base_tables_settings.proofs.Members.{read_written}
use Rattle.swc_base_tables_settings.proofs.assumptions.Assumptions.to_value.Goals as goal

pub returns-clause-read_back : goal.returns-clause-read_back
returns-clause-read_back c =
    ap read (view-Object c.in_ok-members.members ∙ ap object c.in_ok-members.ensures)
    ∙ ap (λ fs. read (object (members_with keys fs))) c.flags-flags.ensures
    ∙ read_written (flags c.args.self.now) refl
