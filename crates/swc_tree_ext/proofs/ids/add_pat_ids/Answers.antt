use Rattle.std.proofs.Common.{◌≡◌, ◌++◌, OnOk, sym, ap, ◌∙◌, subst}
use Rattle.std.specs.List.{flat_map}
use Rattle.swc_tree_patterns.specs.Nodes.{of_pat}
use Rattle.swc_tree_scoping.specs.BoundNames.{bound_ids}
use Rattle.swc_tree_ext.proofs.Bound.{array, object}
use Rattle.swc_tree_ext.proofs.ids.add_pat_ids.Goals as goal

pub returns-in-Array : goal.returns-in-Array
returns-in-Array c =
    subst (λ ids. OnOk c.add_bound_in_items.result (c.add_bound_in_items.new.ids ≡ c.args.ids.now ++ ids))
    (ap (flat_map bound_ids) c.as_slice.ensures.same ∙ sym (array c.in-Array.array.span c.in-Array.array.elems) ∙ ap (λ p. bound_ids (of_pat p)) (sym c.in-Array.is)) c.add_bound_in_items.ensures.ok

pub returns-in-Object : goal.returns-in-Object
returns-in-Object c =
    subst (λ ids. OnOk c.add_bound_in_items-in-Object.result (c.add_bound_in_items-in-Object.new.ids ≡ c.args.ids.now ++ ids))
    (ap (flat_map bound_ids) c.as_slice-in-Object.ensures.same ∙ sym (object c.in-Object.object.span c.in-Object.object.props) ∙ ap (λ p. bound_ids (of_pat p)) (sym c.in-Object.is)) c.add_bound_in_items-in-Object.ensures.ok
