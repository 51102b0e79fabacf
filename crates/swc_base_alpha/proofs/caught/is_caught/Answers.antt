use Rattle.std.proofs.Common.{map}
use Rattle.swc_tree_walk.specs.Sites.{site_of}
use Rattle.swc_base_alpha.proofs.CatchTexts.{told_of_plain, told_uncaught}
use Rattle.swc_base_alpha.proofs.caught.is_caught.Goals as goal

pub returns-then-not-branch : goal.returns-then-not-branch
returns-then-not-branch c = λ t ordinary own. told_uncaught t c.args.resolved.now ordinary own (map site_of c.args.sites.now) c.requires (c.in_ok-may_be_caught.ensures c.if-not-branch.true)

pub returns : goal.returns
returns c = λ t ordinary own. told_of_plain t c.args.resolved.now ordinary own c.in_ok-copy.copy c.clear_contexts-plain.result c.in_ok-caught.caught c.in_ok-copy.ensures.cases c.clear_contexts-plain.ensures c.in_ok-caught.ensures
