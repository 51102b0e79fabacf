use Rattle.std.proofs.Common.{ap, length, sym, ◌∙◌}
use Rattle.mucwathi_mappings.proofs.Numbering.{name_added, name_known}
use Rattle.mucwathi_mappings.proofs.names.Names.number.Goals as goal

pub returns-in-Some : goal.returns-in-Some
returns-in-Some c = name_known c.args.self.now c.args.name.now c.in-Some.number c.requires (sym c.known.ensures ∙ c.in-Some.is)

pub returns : goal.returns
returns c =
    name_added c.args.self.now (record { numbers = c.insert.new.self; texts = c.push.new.self }) c.args.name (length c.as_slice-number.result.now) c.requires (sym c.known.ensures ∙ c.in_default.is)
    (ap length c.as_slice-number.ensures.value) c.in_ok-push.ensures.items c.in_ok-insert.ensures.updates
