use Rattle.std.proofs.Common.{map, take}
use Rattle.swc_tree_walk.specs.Sites.{site_of}
use Rattle.swc_base_alpha.specs.CatchTexts.{HasTexts}
use Rattle.swc_base_alpha.proofs.caught.catch_texts.Given as goal

abbrev pub invariant-loop-site : goal.invariant-loop-site
invariant-loop-site l = HasTexts (map site_of (take l.site-index l.sites)) l.texts
