use Rattle.std.proofs.Common.{sym, ◌∙◌}
use Rattle.swc_tree_grammar.proofs.BlocksKept.{unparened_fits}
use Rattle.swc_tree_grammar.proofs.Pairless.{unparened_pairless}
use Rattle.swc_base_fixer_unparen.proofs.pass.remove_parens_with.Goals as goal

pub returns-clause-fits : goal.returns-clause-fits
returns-clause-fits g c = λ s o f. unparened_fits c.args.node _ s (sym c.all_bare.ensures ∙ c.if-not-all_bare.false) c.in_ok-node.ensures.answer o f

pub returns-clause-pairless : goal.returns-clause-pairless
returns-clause-pairless g c = λ s fit. unparened_pairless c.args.node _ s c.in_ok-node.ensures.answer fit
