use Rattle.mucwathi_mappings.proofs.Telling.{continues_entry}
use Rattle.mucwathi_mappings.proofs.encode.add_entry.Goals as goal

pub returns : goal.returns
returns c = (
  continues_entry c.args.told c.args.entry c.in_ok-name.name c.args.out.now.items c.add_comma.new.out.items c.add_way.new.out.items c.push.new.self.items c.add_way-2.new.out.items c.add_way-3.new.out.items c.add_name.new.out.items
      c.requires c.in_ok-add_comma.ensures c.in_ok-add_way.ensures c.in_ok-push.ensures.items c.in_ok-add_way-2.ensures c.in_ok-add_way-3.ensures c.in_ok-name.ensures.0 c.in_ok-name.ensures.1,
  c.requires,
)
