use Rattle.std.proofs.Common.{map, take}
use Rattle.swc_tree_walk.specs.Sites.{site_of}
use Rattle.swc_base_alpha.proofs.CatchTexts.{NoneHas}
use Rattle.swc_base_alpha.proofs.caught.may_be_caught.Given as goal

abbrev pub invariant-loop-site : goal.invariant-loop-site
invariant-loop-site l = NoneHas l.texts (map site_of (take l.site-index l.sites))
