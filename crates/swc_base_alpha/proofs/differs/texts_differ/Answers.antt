use Rattle.std.proofs.Common.{map}
use Rattle.swc_tree_walk.specs.Sites.{site_of}
use Rattle.swc_base_alpha.proofs.FirstWord.{caught_fails, reads_fails, texts_stay}
use Rattle.swc_base_alpha.proofs.differs.texts_differ.Goals as goal

pub returns-then-each_pair : goal.returns-then-each_pair
returns-then-each_pair c = texts_stay c.args.rules (map site_of c.args.ones.now) (map site_of c.args.others.now) c.each_pair.result c.each_pair.ensures c.if-each_pair.true

pub returns-then-rules : goal.returns-then-rules
returns-then-rules c = reads_fails c.args.rules (map site_of c.args.ones.now) (map site_of c.args.others.now) c.each_pair.result c.each_pair.ensures c.if-each_pair.false c.if-rules.true

pub returns-then-rules-2 : goal.returns-then-rules-2
returns-then-rules-2 c = caught_fails c.args.rules (map site_of c.args.ones.now) (map site_of c.args.others.now) c.each_pair.result c.each_pair.ensures c.if-each_pair.false c.if-rules.false c.if-rules-2.true
