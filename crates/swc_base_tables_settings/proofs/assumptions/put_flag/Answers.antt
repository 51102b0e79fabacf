use Rattle.std.proofs.Common.{◌≡◌, refl, rules}
use Rattle.serde_json.specs.Data.{boolean}
use Rattle.serde_json.specs.View.{view}
use Rattle.serde_json.specs.declared.value.Value.{Bool, the_lemmas}
use Rattle.serde_json.proofs.Views.{members_view-insert_entry}
use Rattle.swc_base_tables_settings.proofs.assumptions.put_flag.Goals as goal

pub returns : goal.returns
returns c =
    let flagged : view (Bool c.args.flag) ≡ boolean c.args.flag = search (rules, the_lemmas) in
    rw (c.in_ok-insert.ensures.entries, members_view-insert_entry, c.in_ok-key.ensures.ok, flagged) refl
