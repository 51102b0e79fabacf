use Rattle.std.proofs.Common.{map, subst}
use Rattle.swc_tree_walk.specs.Sites.{site_of}
use Rattle.swc_base_alpha.specs.Judged.{Decides}
use Rattle.swc_base_alpha.specs.Pairs.{ListAsks}
use Rattle.swc_base_alpha.proofs.FirstWord.{id_fails, of_ids, text_decides}
use Rattle.swc_base_alpha.proofs.differs.sites_differ.Goals as goal

pub returns-in-Some : goal.returns-in-Some
returns-in-Some c =
    id_fails c.args.rules (map site_of c.args.ones.now) (map site_of c.args.others.now) c.each_pair.result c.each_pair.ensures c.if-not-each_pair.false c.in-Some.why (subst (Decides (ListAsks c.args.rules (map site_of c.args.ones.now) (map site_of c.args.others.now)) of_ids) c.in-Some.is c.in_ok-found.ensures)

pub returns-in-None : goal.returns-in-None
returns-in-None c =
    text_decides c.args.rules (map site_of c.args.ones.now) (map site_of c.args.others.now) c.each_pair.result c.each_pair.ensures c.if-not-each_pair.false c.texts_differ.result (subst (Decides (ListAsks c.args.rules (map site_of c.args.ones.now) (map site_of c.args.others.now)) of_ids) c.in-None.is c.in_ok-found.ensures) c.texts_differ.ensures
