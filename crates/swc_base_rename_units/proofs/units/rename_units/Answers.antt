use Rattle.swc_base_rename_units.proofs.Walking.{next_kept, whole_refusal}
use Rattle.swc_base_rename_units.proofs.units.rename_units.Goals as goal

pub returns-then-found-clause-renamed : goal.returns-then-found-clause-renamed
returns-then-found-clause-renamed g c = let walked = c.in_ok-found.ensures.walked in walked.named (walked.reads.0 c.if-found.true)

pub returns-clause-refused : goal.returns-clause-refused
returns-clause-refused g c =
    whole_refusal (g.A.Alone.refuses c.args.alone.now) c.args.node c.in_ok-found.node c.name_free.result
    (next_kept (g.A.Alone.becomes c.args.alone.now) c.args.node c.in_ok-found.node c.in_ok-found.found c.if-found.false c.in_ok-found.ensures.walked) c.name_free.ensures.refused
