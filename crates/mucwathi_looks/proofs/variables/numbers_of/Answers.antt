use Rattle.std.proofs.Common.{arith, map, subst, take}
use Rattle.std.specs.List.{flat_map}
use Rattle.swc_tree_walk.specs.Sites.{site_of}
use Rattle.mucwathi_looks.specs.Coloured.{variables_at}
use Rattle.mucwathi_looks.specs.Numbered.{AreNumbered}
use Rattle.mucwathi_looks.proofs.PagedNaming.{flat_all, flat_more}
use Rattle.mucwathi_looks.proofs.Numbering.{more_numbered, none_numbered}
use Rattle.mucwathi_looks.proofs.variables.numbers_of.Goals as goal

pub loop-site-init : goal.loop-site-init
loop-site-init c = none_numbered c.new-numbers.result c.new-numbers.ensures.empty

pub loop-site-preserved : goal.loop-site-preserved
loop-site-preserved c =
    more_numbered (flat_map variables_at (map site_of (take c.loop-site.site-index c.args.sites.now))) (variables_at (site_of c.site-item.result)) _ c.loop-site.numbers c.meet.new.numbers
    (flat_more variables_at c.args.sites.now c.loop-site.site-index c.site-item.result c.loop-site-test.true c.site-item.is) c.loop-site.invariant c.in_ok-meet.ensures.apart c.in_ok-meet.ensures.keeps c.in_ok-meet.ensures.known

pub returns : goal.returns
returns c = subst (λ l. AreNumbered l c.loop-site.numbers) (flat_all variables_at c.args.sites.now c.loop-site.site-index (omega arith)) c.loop-site.invariant
