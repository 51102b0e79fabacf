use Rattle.std.proofs.Common.{sym, ◌∙◌}
use Rattle.swc_base_fixer_unparen.proofs.Fields.{sequence_of_more, sequence_of_one}
use Rattle.swc_base_fixer_unparen.proofs.sequence.sequence.Goals as goal

pub returns-then-len-eq1 : goal.returns-then-len-eq1
returns-then-len-eq1 c =
    sequence_of_one c.args.fields c.args.exprs c.in_ok-items.items c.replace.result c.in_ok-items.ensures (sym c.len.ensures ∙ c.if-len-eq1.true) c.replace.ensures.taken

pub returns : goal.returns
returns c =
    sequence_of_more c.args.fields c.set.new.self c.args.exprs c.in_ok-items.items c.requires c.in_ok-items.ensures (λ one. c.if-len-eq1.false (c.len.ensures ∙ one)) c.set.ensures
