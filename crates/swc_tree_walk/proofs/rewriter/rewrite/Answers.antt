use Rattle.std.proofs.lemmas.Result.{IfOk-weaker}
use Rattle.std.proofs.Common.{sym, subst}
use Rattle.swc_tree_node.specs.Fits.{Fits}
use Rattle.swc_tree_scoping.specs.Places.{program_place}
use Rattle.swc_tree_walk.proofs.Rewriting.{rewritten_fits}
use Rattle.swc_tree_walk.proofs.rewriter.rewrite.Goals as goal

pub returns-clause-fits : goal.returns-clause-fits
returns-clause-fits g c s fits =
    IfOk-weaker c.rewrite_node.result _ _
    (λ answer is. subst (λ t. Fits t s) (sym is) (rewritten_fits (g.R.Rewriter.made c.args.rewriter.now) (g.met.R.Rewriter.keeps_fitting c.args.rewriter.now) c.args.program program_place s fits))
    c.rewrite_node.ensures.answer
