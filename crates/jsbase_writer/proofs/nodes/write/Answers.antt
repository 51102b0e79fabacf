use Rattle.std.proofs.Common.{refl}
use Rattle.jsbase_form.specs.Writing.{json}
use Rattle.jsbase_form.proofs.RoundTrip.{reads_as}
use Rattle.jsbase_writer.proofs.Tokens.{whole_text, whole_read}
use Rattle.jsbase_writer.proofs.nodes.write.Goals as goal

pub returns-clause-text : goal.returns-clause-text
returns-clause-text c = whole_text (json c.args.tree.now) _ _ _ c.new-out.ensures.tokens c.in_ok-write_value.ensures.written c.text_of.ensures.text

pub returns-clause-value : goal.returns-clause-value
returns-clause-value c =
    let written = c.in_ok-write_value.ensures in
    whole_read (json c.args.tree.now) _ _ _ c.new-out.ensures.tokens written.written c.text_of.ensures.reads_back

pub returns-clause-reads_back : goal.returns-clause-reads_back
returns-clause-reads_back c = reads_as (json c.args.tree.now) c.args.tree.now refl c.in_ok-write_value.ensures.short
