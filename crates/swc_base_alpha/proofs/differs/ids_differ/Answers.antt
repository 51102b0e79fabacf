use Rattle.std.proofs.Common.{map, true}
use Rattle.swc_tree_walk.specs.Sites.{site_of}
use Rattle.swc_base_alpha.proofs.FirstWord.{all_pass, free_fails, joined_fails, no_top_asked, split_fails, top_fails}
use Rattle.swc_base_alpha.proofs.differs.ids_differ.Goals as goal

pub returns-then-not-each_pair : goal.returns-then-not-each_pair
returns-then-not-each_pair c = free_fails c.args.rules (map site_of c.args.ones.now) (map site_of c.args.others.now) c.each_pair.result true true true c.if-rules.false c.each_pair.ensures c.if-not-each_pair.true

pub returns-then-not-branch : goal.returns-then-not-branch
returns-then-not-branch c = split_fails c.args.rules (map site_of c.args.ones.now) (map site_of c.args.others.now) c.each_pair.result c.in_ok-stays_one.field-0 true true c.if-rules.false c.each_pair.ensures c.if-not-each_pair.false c.in_ok-stays_one.ensures c.if-not-branch.true

pub returns-then-not-branch-2 : goal.returns-then-not-branch-2
returns-then-not-branch-2 c =
    joined_fails c.args.rules (map site_of c.args.ones.now) (map site_of c.args.others.now) c.each_pair.result c.in_ok-stays_one.field-0 c.in_ok-stays_one-2.field-0 true c.if-rules.false c.each_pair.ensures c.if-not-each_pair.false c.in_ok-stays_one.ensures c.if-not-branch.false
    c.in_ok-stays_one-2.ensures c.if-not-branch-2.true

pub returns-then-not-rules : goal.returns-then-not-rules
returns-then-not-rules c =
    no_top_asked c.args.rules (map site_of c.args.ones.now) (map site_of c.args.others.now) c.each_pair.result c.in_ok-stays_one.field-0 c.in_ok-stays_one-2.field-0 true c.if-rules.false c.each_pair.ensures c.if-not-each_pair.false c.in_ok-stays_one.ensures c.if-not-branch.false
    c.in_ok-stays_one-2.ensures c.if-not-branch-2.false c.if-not-rules.true

pub returns-then-each_pair : goal.returns-then-each_pair
returns-then-each_pair c =
    all_pass c.args.rules (map site_of c.args.ones.now) (map site_of c.args.others.now) c.each_pair.result c.in_ok-stays_one.field-0 c.in_ok-stays_one-2.field-0 c.each_pair-2.result c.if-rules.false c.each_pair.ensures c.if-not-each_pair.false c.in_ok-stays_one.ensures c.if-not-branch.false
    c.in_ok-stays_one-2.ensures c.if-not-branch-2.false c.each_pair-2.ensures c.if-each_pair.true

pub returns : goal.returns
returns c =
    top_fails c.args.rules (map site_of c.args.ones.now) (map site_of c.args.others.now) c.each_pair.result c.in_ok-stays_one.field-0 c.in_ok-stays_one-2.field-0 c.each_pair-2.result c.if-rules.false c.each_pair.ensures c.if-not-each_pair.false c.in_ok-stays_one.ensures c.if-not-branch.false
    c.in_ok-stays_one-2.ensures c.if-not-branch-2.false c.each_pair-2.ensures c.if-not-rules.false c.if-each_pair.false
