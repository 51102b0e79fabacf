use Rattle.swc_base_alpha.proofs.Judged.{own_answer, own_outline, own_refusal}
use Rattle.swc_base_alpha.proofs.own.resolved.Goals as goal

pub returns-clause-resolved : goal.returns-clause-resolved
returns-clause-resolved c = λ none opens.
    own_answer c.args.normal c.in_ok-globals.globals c.resolve_program.new.globals c.from_u32-unresolved.result c.from_u32-top.result c.resolve_program.result
    c.in_ok-globals.ensures c.from_u32-unresolved.ensures c.from_u32-top.ensures (c.resolve_program.ensures.by_values none opens)

pub returns-clause-outline : goal.returns-clause-outline
returns-clause-outline c = own_outline c.args.normal c.resolve_program.result c.resolve_program.ensures.contexts

pub returns-clause-refusal : goal.returns-clause-refusal
returns-clause-refusal c = own_refusal c.args.normal c.in_ok-globals.globals c.resolve_program.result c.in_ok-globals.ensures c.resolve_program.ensures.refusal c.resolve_program.ensures.spent
