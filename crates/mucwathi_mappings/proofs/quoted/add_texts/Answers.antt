use Rattle.std.proofs.Common.{[]}
use Rattle.std.proofs.lemmas.Result.{on_ok_weaker}
use Rattle.mucwathi_mappings.proofs.Quoting.{texts_added}
use Rattle.mucwathi_mappings.proofs.quoted.add_texts.Goals as goal

pub returns : goal.returns
returns c =
    on_ok_weaker c.add_more.result (texts_added c.args.texts.now (record { ref_ptr = (0, 0); now = [] }) c.args.out.now.items c.add_text.new.out.items c.add_more.new.out.items c.in-len1-up.len_at_least c.in_ok-add_text.ensures) c.add_more.ensures
