use Rattle.std.proofs.Common.{arith, length-set, sym, ap, ◌∙◌}
use Rattle.std.specs.Option.{option_map}
use Rattle.std.proofs.lemmas.Result.{on_ok_weaker}
use Rattle.swc_tree_node.proofs.Lent.{looked_at, none_of_children}
use Rattle.swc_base_fixer_due.specs.Record.{place_in}
use Rattle.swc_base_fixer_due.proofs.Each.{told_left, told_set}
use Rattle.swc_base_fixer_due.proofs.Paired.{list_done, tree_done}
use Rattle.swc_base_fixer_due.proofs.pairing.+pair_node.Goals as goal

pub pair_each-loop-i-preserved : goal.pair_each-loop-i-preserved
pair_each-loop-i-preserved g t c = (
  simp length-set c.loop-i.invariant.0,
  told_set (g.P.Pairing.paired (place_in c.args.recorded.now)) (g.P.Pairing.tells c.args.pairing) c.args.nodes.now c.loop-i.nodes c.loop-i.i c.item_mut.result.now c.pair_node.new.node c.tells.result
      (omega arith) c.loop-i.invariant.1 c.item_mut.ensures.value c.tells.ensures c.in_ok-pair_node.ensures,
)

pub pair_each-loop-i-preserved-then-not-has_parts : goal.pair_each-loop-i-preserved-then-not-has_parts
pair_each-loop-i-preserved-then-not-has_parts g t c =
    let p = place_in c.args.recorded.now in
    let told = g.P.Pairing.tells c.args.pairing in
    let node = c.index-as_slice-i.result in (
      c.loop-i.invariant.0,
      told_left (g.P.Pairing.paired p) told c.args.nodes.now c.loop-i.nodes c.loop-i.i node (omega arith) c.loop-i.invariant.1
          (looked_at c.loop-i.nodes c.as_slice.result.now c.loop-i.i node (omega arith) c.as_slice.ensures c.index-as_slice-i.is)
          (g.met.P.Pairing.stays p (told c.loop-i.i) node (sym c.has_parts.ensures ∙ c.if-not-has_parts.true)),
    )

pub pair_node-returns-in_default : goal.pair_node-returns-in_default
pair_node-returns-in_default g t c =
    let none = sym (ap (option_map (λ r. r.now)) c.in_default.is) ∙ c.children_mut.ensures.value in
    sym (g.met.P.Pairing.stays (place_in c.args.recorded.now) c.args.told c.args.node.now (none_of_children c.args.node.now none))

pub pair_node-returns-in-None : goal.pair_node-returns-in-None
pair_node-returns-in-None g t c =
    let nodes = sym (ap (option_map (λ r. r.now)) c.in-Some.is) ∙ c.children_mut.ensures.value in
    on_ok_weaker c.pair_each-in-None.result
    (list_done g.P.Pairing.paired g.P.Pairing.tells g.P.Pairing.in_list g.met.P.Pairing.list_paired (place_in c.args.recorded.now) c.args.node.now c.in-Some.children.now c.pair_each-in-None.new.nodes c.args.told c.of_list.result
    (sym c.in-None.is ∙ c.kind-kind.ensures) nodes c.of_list.ensures) c.pair_each-in-None.ensures

pub pair_node-returns-in_ok-settle-in-Some-kind : goal.pair_node-returns-in_ok-settle-in-Some-kind
pair_node-returns-in_ok-settle-in-Some-kind g t c =
    let nodes = sym (ap (option_map (λ r. r.now)) c.in-Some.is) ∙ c.children_mut.ensures.value in
    on_ok_weaker c.pair_where.result
    (tree_done g.P.Pairing.paired g.P.Pairing.tells g.P.Pairing.in_tree g.P.Pairing.settled g.P.Pairing.is_due g.met.P.Pairing.tree_paired (place_in c.args.recorded.now) c.args.node.now c.in-Some-kind.kind
    c.in-Some.children.now c.as_slice.result.now c.pair_each.new.nodes c.settle.new.fields c.args.told c.is_due.result c.of_tree-pairing.result
    (sym c.in-Some-kind.is ∙ c.kind-kind.ensures) nodes c.as_slice.ensures c.of_tree-pairing.ensures c.in_ok-pair_each-in-Some-kind.ensures c.in_ok-settle-in-Some-kind.ensures c.is_due.ensures c.pair_where.new.expr) c.pair_where.ensures
