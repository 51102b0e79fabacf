use Rattle.std.proofs.Common.{◌++◌, ap, sym, ◌∙◌, arith}
use Rattle.swc_tree_walk.specs.Sites.{site_of}
use Rattle.mucwathi_looks.specs.Coloured.{told_at}
use Rattle.mucwathi_looks.specs.Numbered.{new_in, number_in}
use Rattle.mucwathi_looks.proofs.PagedNaming.{flat_all, flat_more}
use Rattle.mucwathi_looks.proofs.variables.all_uses.Goals as goal

pub loop-site-preserved : goal.loop-site-preserved
loop-site-preserved c =
    let tell = told_at (number_in c.args.numbers.now) (new_in c.args.news.now) in
    c.in_ok-add_use.ensures ∙ ap (λ l. l ++ tell (site_of c.site-item.result)) c.loop-site.invariant ∙ sym (flat_more tell c.args.sites.now c.loop-site.site-index c.site-item.result c.loop-site-test.true c.site-item.is)

pub returns : goal.returns
returns c = c.loop-site.invariant ∙ flat_all (told_at (number_in c.args.numbers.now) (new_in c.args.news.now)) c.args.sites.now c.loop-site.site-index (omega arith)
