use Rattle.std.proofs.Common.{rules, ◌∙◌, arith}
use Rattle.std.proofs.lemmas.Result.{err_from_is_err_and}
use Rattle.swc_tree_node.specs.declared.node.Node.{Absent, the_lemmas}
use Rattle.swc_base_rename_units.specs.declared.units.Above.TheVariants.{Items, Fields}
use Rattle.swc_base_rename_units.proofs.Lifted.{leaf_named, list_refused, tree_refused}
use Rattle.swc_base_rename_units.proofs.Readers.{leaf}
use Rattle.swc_base_rename_units.proofs.Steps.{each_refused, named_alone, named_below, one_done, one_refused, one_same, put_length, refused_below}
use Rattle.swc_base_rename_units.proofs.Walking.{free_list_named, free_tree_named, list_free, tree_free}
use Rattle.swc_base_rename_units.proofs.units.+name_free.Goals as goal

pub name_before-returns-in_err-node-clause-refused :
    goal.name_before-returns-in_err-node-clause-refused
name_before-returns-in_err-node-clause-refused g t c =
    let refused = err_from_is_err_and c.from_residual.result c.from_residual.ensures.1 in
    rw (refused.1, refused.2) (one_refused (g.A.Alone.refuses c.args.alone.now) c.args.above c.args.nodes.now c.loop-i.nodes c.loop-i.i c.args.end c.replace-node.result c.in_err-node.field-0.0
    (omega arith) c.replace-node.ensures.taken c.loop-i.invariant.rest c.is_unit-is_unit.result c.is_unit-is_unit.ensures c.in_err-node.ensures.refused)

pub name_before-loop-i-preserved : goal.name_before-loop-i-preserved
name_before-loop-i-preserved g t c = record {
  as_many =
      put_length c.args.nodes.now c.loop-i.nodes c.replace-node.new.self c.set.new.self c.loop-i.i Absent c.replace-node.result c.in_ok-node.node
      c.replace-node.ensures.taken c.replace-node.ensures.list c.set.ensures ∙ c.loop-i.invariant.as_many;
  done = one_done c.args.nodes.now c.loop-i.nodes c.replace-node.new.self c.set.new.self c.loop-i.i Absent c.replace-node.result c.in_ok-node.node
      c.replace-node.ensures.taken c.replace-node.ensures.list c.set.ensures (g.A.Alone.becomes c.args.alone.now) c.args.above
      c.loop-i.invariant.done c.loop-i.invariant.rest c.is_unit-is_unit.result c.is_unit-is_unit.ensures c.in_ok-node.ensures.renamed;
  rest = one_same c.args.nodes.now c.loop-i.nodes c.replace-node.new.self c.set.new.self c.loop-i.i Absent c.replace-node.result c.in_ok-node.node
      c.replace-node.ensures.taken c.replace-node.ensures.list c.set.ensures c.loop-i.invariant.rest;
}

pub name_free-returns-then-is_unit-clause-renamed :
    goal.name_free-returns-then-is_unit-clause-renamed
name_free-returns-then-is_unit-clause-renamed g t c =
    named_alone (g.A.Alone.becomes c.args.alone.now) c.args.is_unit c.args.node c.rename.result c.if-is_unit.true c.requires c.rename.ensures.becomes c.rename.ensures.fits

pub name_free-name_before-requires : goal.name_free-name_before-requires
name_free-name_before-requires g t c κs within =
    (search (rules, the_lemmas), (search rules, (omega (arith, c.len.ensures), list_free c.args.node c.in-List.items c.in-List.is c.requires c.len.result)))

pub name_free-returns-in_err-name_before-in-List-clause-refused :
    goal.name_free-returns-in_err-name_before-in-List-clause-refused
name_free-returns-in_err-name_before-in-List-clause-refused g t c =
    let refused = err_from_is_err_and c.from_residual.result c.from_residual.ensures.1 in
    let refuses = g.A.Alone.refuses c.args.alone.now in
    let e = c.in_err-name_before-in-List.field-0.0 in
    rw (refused.1, refused.2) (refused_below refuses c.args.is_unit c.args.node e c.if-is_unit.false
    (list_refused refuses c.args.node c.in-List.items e c.in-List.is (each_refused refuses Items c.in-List.items c.len.result e c.in_err-name_before-in-List.ensures.refused)))

pub name_free-name_before-requires-in-Tree : goal.name_free-name_before-requires-in-Tree
name_free-name_before-requires-in-Tree g t c κs within =
    (search (rules, the_lemmas), (search rules, (omega (arith, c.len-in-Tree.ensures), tree_free c.args.node c.in-Tree.kind c.in-Tree.fields c.in-Tree.is c.requires c.len-in-Tree.result)))

pub name_free-returns-in_err-name_before-in-Tree-clause-refused :
    goal.name_free-returns-in_err-name_before-in-Tree-clause-refused
name_free-returns-in_err-name_before-in-Tree-clause-refused g t c =
    let refused = err_from_is_err_and c.from_residual-in_err-name_before-in-Tree.result c.from_residual-in_err-name_before-in-Tree.ensures.1 in
    let refuses = g.A.Alone.refuses c.args.alone.now in
    let e = c.in_err-name_before-in-Tree.field-0.0 in
    rw (refused.1, refused.2) (refused_below refuses c.args.is_unit c.args.node e c.if-is_unit.false
    (tree_refused refuses c.args.node c.in-Tree.kind c.in-Tree.fields e c.in-Tree.is (each_refused refuses (Fields c.in-Tree.kind) c.in-Tree.fields c.len-in-Tree.result e c.in_err-name_before-in-Tree.ensures.refused)))

pub name_free-returns-in_ok-name_before-in-List-clause-renamed :
    goal.name_free-returns-in_ok-name_before-in-List-clause-renamed
name_free-returns-in_ok-name_before-in-List-clause-renamed g t c =
    free_list_named (g.A.Alone.becomes c.args.alone.now) c.args.is_unit c.args.node c.in-List.items c.name_before.new.nodes c.len.result c.in-List.is c.if-is_unit.false c.len.ensures c.in_ok-name_before-in-List.ensures.named

pub name_free-returns-in_ok-name_before-in-Tree-clause-renamed :
    goal.name_free-returns-in_ok-name_before-in-Tree-clause-renamed
name_free-returns-in_ok-name_before-in-Tree-clause-renamed g t c =
    free_tree_named (g.A.Alone.becomes c.args.alone.now) c.args.is_unit c.args.node c.in-Tree.kind c.in-Tree.fields c.name_before-in-Tree.new.nodes c.len-in-Tree.result c.in-Tree.is c.if-is_unit.false c.len-in-Tree.ensures
    c.in_ok-name_before-in-Tree.ensures.named

pub name_free-returns-in_default : goal.name_free-returns-in_default
name_free-returns-in_default g t c = record {
  renamed = named_below (g.A.Alone.becomes c.args.alone.now) c.args.is_unit c.args.node c.args.node c.if-is_unit.false
      (leaf_named (g.A.Alone.becomes c.args.alone.now) c.args.node (leaf c.args.node c.in_default.not-List c.in_default.not-Tree).0) (λ s r f. f);
  refused = tt;
}
