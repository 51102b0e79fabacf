use Rattle.std.proofs.Common.{arith, sym, ◌∙◌, length-set}
use Rattle.std.proofs.lemmas.Result.{IfOk-weaker}
use Rattle.swc_base_rename_substitution.specs.Names.{new_id}
use Rattle.swc_tree_node.proofs.Lent.{looked_at}
use Rattle.swc_base_rename_substitution.proofs.Equations.{substituted_leaf}
use Rattle.swc_base_rename_substitution.proofs.Lists.{one_left, one_more, same_lengths, exports_done}
use Rattle.swc_base_rename_substitution.proofs.Trees.{unnamed_done, class_done, named_done, longer}
use Rattle.swc_base_rename_substitution.proofs.substitution.+substitute.Goals as goal
use Rattle.swc_base_rename_substitution.proofs.substitution.+substitute.Goals.{substitute_all-in-Some+in_ok-substitute_parts-in-Some, substitute_all-in-None+in_ok-node-in-None}
use Rattle.swc_base_rename_substitution.proofs.InPlace.{one_set}
use Rattle.swc_base_rename_substitution.specs.Walk.{place_in}

pub substitute_items-with_all_exports-requires : goal.substitute_items-with_all_exports-requires
substitute_items-with_all_exports-requires t c = same_lengths (new_id c.args.names) c.args.keeps_classes c.args.place c.args.items c.in_ok-items.items c.as_slice-2.result.now c.in_ok-exports.exports
    c.in_ok-items.ensures c.as_slice-2.ensures c.in_ok-exports.ensures

pub substitute_items-returns : goal.substitute_items-returns
substitute_items-returns t c = IfOk-weaker c.with_all_exports.result _ _ (exports_done (new_id c.args.names) c.args.keeps_classes c.args.place c.args.items c.in_ok-items.items c.as_slice-2.result.now c.in_ok-exports.exports
    c.in_ok-items.ensures c.as_slice-2.ensures c.in_ok-exports.ensures) c.with_all_exports.ensures

pub substitute_tree-returns-then-keeps_name : goal.substitute_tree-returns-then-keeps_name
substitute_tree-returns-then-keeps_name t c =
    IfOk-weaker c.kept_class.result _ _ (class_done (new_id c.args.names) c.args.keeps_classes c.args.place c.args.kind c.args.fields c.in_ok-fields.fields c.in_ok-old.old
    (sym c.keeps_name.ensures ∙ c.if-keeps_name.true) c.in_ok-old.ensures (rw c.has_source.ensures at c.in_ok-fields.ensures)) c.kept_class.ensures

pub substitute_tree-returns : goal.substitute_tree-returns
substitute_tree-returns t c =
    unnamed_done (new_id c.args.names) c.args.keeps_classes c.args.place c.args.kind c.args.fields c.in_ok-fields-2.fields
    (sym c.keeps_name.ensures ∙ c.if-keeps_name.false) (sym c.writes_name.ensures ∙ c.if-writes_name.false) (rw c.has_source.ensures at c.in_ok-fields-2.ensures)

pub substitute_named-rename_named-requires : goal.substitute_named-rename_named-requires
substitute_named-rename_named-requires t c =
    longer (new_id c.args.names) c.args.keeps_classes _ c.args.kind c.args.fields c.in_ok-fields.fields c.requires c.in_ok-fields.ensures

pub substitute_named-returns : goal.substitute_named-returns
substitute_named-returns t c =
    IfOk-weaker c.rename_named.result _ _ (named_done (new_id c.args.names) c.args.keeps_classes c.args.place c.args.kind c.args.fields c.in_ok-fields.fields
    c.requires (rw c.has_source-sourced.ensures at c.in_ok-fields.ensures)) (rw (c.place-at.ensures, c.has_source-sourced.ensures) at c.rename_named.ensures)

pub substitute_all-loop-i-preserved : goal.substitute_all-loop-i-preserved
substitute_all-loop-i-preserved t c =
    let m = new_id c.args.names in
    let keeps = c.args.keeps_classes in
    let ps = place_in keeps c.args.below in
    let ts = c.args.nodes.now in
    let ys = c.loop-i.nodes in
    let i = c.loop-i.i in elim c.match-parts_below.branch [
      | substitute_all-in-Some+in_ok-substitute_parts-in-Some b ↦ rw b.nodes-is (record {
        size = simp length-set c.loop-i.invariant.size;
        done = one_set m keeps ps ts ys i b.item_mut-node.result.now _ c.place-place.result (omega arith) c.loop-i.invariant.done b.item_mut-node.ensures.value c.place-place.ensures b.in_ok-substitute_parts-in-Some.ensures;
      })
      | substitute_all-in-None+in_ok-node-in-None b ↦ rw b.nodes-is (record {
        size = simp (b.set.ensures, b.replace-node.ensures.list, length-set) c.loop-i.invariant.size;
        done = one_more m keeps ps ts ys _ _ i _ _ _ c.place-place.result
            (omega arith) c.loop-i.invariant.done b.replace-node.ensures.taken b.replace-node.ensures.list b.set.ensures c.place-place.ensures b.in_ok-node-in-None.ensures;
      })
    ]

pub substitute_all-loop-i-preserved-then-not-may_hold_names : goal.substitute_all-loop-i-preserved-then-not-may_hold_names
substitute_all-loop-i-preserved-then-not-may_hold_names t c = record {
  size = c.loop-i.invariant.size;
  done = one_left (new_id c.args.names) c.args.keeps_classes (place_in c.args.keeps_classes c.args.below) c.args.nodes.now c.loop-i.nodes c.loop-i.i c.index-as_slice-i.result (omega arith) c.loop-i.invariant.done
      (looked_at c.loop-i.nodes c.as_slice.result.now c.loop-i.i c.index-as_slice-i.result (omega arith) c.as_slice.ensures c.index-as_slice-i.is)
      (substituted_leaf (new_id c.args.names) c.args.keeps_classes (place_in c.args.keeps_classes c.args.below c.loop-i.i) c.index-as_slice-i.result (sym c.may_hold_names.ensures ∙ c.if-not-may_hold_names.true));
}
