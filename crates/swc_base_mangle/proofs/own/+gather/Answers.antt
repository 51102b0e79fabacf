use Rattle.std.proofs.Common.{◌≡◌, ◌||◌, Bool, OnOk, sym, ap, ◌∙◌, subst}
use Rattle.std.specs.HashSet.{contains}
use Rattle.swc_tree_node.specs.declared.node.Node.{List as Many, Tree}
use Rattle.swc_base_rename_substitution.specs.Names.{Id, same_id}
use Rattle.swc_base_mangle.proofs.OwnIds.{in_list, in_tree}
use Rattle.swc_base_mangle.proofs.own.+gather.Goals as goal

pub gather-returns-in-List : goal.gather-returns-in-List
gather-returns-in-List t c =
    subst (λ (f : Id → Bool). OnOk c.gather_all.result ((x : Id) → contains same_id c.gather_all.new.ids x ≡ (contains same_id c.args.ids.now x || f x)))
    (λ j x. in_list c.args.top c.args.tree.now c.as_slice.result.now (c.in-List.is ∙ ap (λ ts. Many ts) (sym c.as_slice.ensures)) x j) c.gather_all.ensures

pub gather-returns-in-Tree : goal.gather-returns-in-Tree
gather-returns-in-Tree t c =
    subst (λ (f : Id → Bool). OnOk c.gather_all-in-Tree.result ((x : Id) → contains same_id c.gather_all-in-Tree.new.ids x ≡ (contains same_id c.args.ids.now x || f x)))
    (λ j x. in_tree c.args.top c.args.tree.now c.in-Tree.field-0 c.as_slice-in-Tree.result.now (c.in-Tree.is ∙ ap (λ ts. Tree c.in-Tree.field-0 ts) (sym c.as_slice-in-Tree.ensures)) x j) c.gather_all-in-Tree.ensures
