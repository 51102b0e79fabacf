use Rattle.std.proofs.Common.{◌||◌, ap, ◌∙◌}
use Rattle.std.specs.BTreeSet.{contains}
use Rattle.swc_tree_scoping.specs.BoundNames.{same_id}
use Rattle.swc_base_normal_form.specs.Exports.{id_cmp}
use Rattle.swc_base_normal_form.proofs.Once.{met_end, one_more}
use Rattle.swc_base_normal_form.proofs.exports.specifiers.Goals as goal

pub loop-id-preserved : goal.loop-id-preserved
loop-id-preserved c = record {
  specifiers = c.in_ok-add_once.ensures.specifiers ∙ one_more c.loop-id.yielded c.in-Some.id c.loop-id.specifiers (contains id_cmp c.loop-id.met c.in-Some.id) (c.loop-id.invariant.met c.in-Some.id) c.loop-id.invariant.specifiers;
  met = λ x. c.in_ok-add_once.ensures.met x ∙ ap (λ b. same_id c.in-Some.id x || b) (c.loop-id.invariant.met x) ∙ met_end c.loop-id.yielded c.in-Some.id x;
}
