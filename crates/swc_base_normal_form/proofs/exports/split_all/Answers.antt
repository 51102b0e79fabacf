use Rattle.std.proofs.Common.{◌++◌, sym, ap, ◌∙◌}
use Rattle.swc_tree_grammar.specs.Normal.{split}
use Rattle.swc_base_normal_form.proofs.Once.{split_end}
use Rattle.swc_base_normal_form.proofs.exports.split_all.Goals as goal

pub loop-item-preserved : goal.loop-item-preserved
loop-item-preserved c = c.in_ok-add_split.ensures ∙ ap (λ ts. ts ++ split c.in-Some.item) c.loop-item.invariant ∙ sym (split_end c.loop-item.yielded c.in-Some.item)
