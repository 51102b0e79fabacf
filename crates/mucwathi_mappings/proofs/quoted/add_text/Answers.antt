use Rattle.mucwathi_mappings.proofs.Quoting.{quoted_added}
use Rattle.mucwathi_mappings.proofs.quoted.add_text.Goals as goal

pub returns : goal.returns
returns c =
    quoted_added c.args.text.now c.as_bytes.result.now c.args.out.now.items c.push.new.self.items c.add_bytes.new.out.items c.push-2.new.self.items c.as_bytes.ensures.value c.in_ok-push.ensures.items c.in_ok-add_bytes.ensures
    c.in_ok-push-2.ensures.items
