use Rattle.std.proofs.Common.{sym, ◌∙◌}
use Rattle.swc_base_resolver_program.specs.Lookup.{layers}
use Rattle.swc_base_resolver_program.specs.Walks.{marking_in}
use Rattle.swc_base_resolver_program.proofs.Walked.{unmarked_stays}
use Rattle.swc_base_resolver_program.proofs.walk.mark_identifier.Goals as goal

pub returns-then-not-gets_mark : goal.returns-then-not-gets_mark
returns-then-not-gets_mark c = unmarked_stays (marking_in c.args.answers.now) c.args.around.exported c.args.standing (layers c.args.around.env.now) c.args.ident.now (sym c.gets_mark.ensures ∙ c.if-not-gets_mark.true)
