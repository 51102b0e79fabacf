use Rattle.std.proofs.Common.{◌≡◌, List, map, ap, ◌∙◌}
use Rattle.std.proofs.lemmas.Result.{IfOk-weaker}
use Rattle.swc_tree_walk.specs.declared.identifiers.Site.{Site}
use Rattle.swc_tree_walk.specs.Sites.{site_of}
use Rattle.mucwathi_lists.specs.declared.changes.Occurrence.{Occurrence}
use Rattle.mucwathi_lists.specs.Changed.{all_changed, seen, told}
use Rattle.mucwathi_looks.specs.Changes.{changes_between}
use Rattle.mucwathi_looks.proofs.Standing.{between}
use Rattle.mucwathi_looks.proofs.changes.between.Goals as goal

pub returns : goal.returns
returns c =
    IfOk-weaker c.changes_between.result (λ changes. map told changes.items ≡ all_changed (map seen c.as_slice-3.result.now) (map seen c.as_slice-4.result.now))
    (λ changes. map told changes.items ≡ changes_between c.args.source.now c.args.answer.now)
    (λ changes h.
    between c.args.source.now c.args.answer.now c.as_slice.result.now c.as_slice-2.result.now c.as_slice-3.result.now c.as_slice-4.result.now (map told changes.items)
    (ap (λ (l : List Site). map site_of l) c.as_slice.ensures.value ∙ c.in_ok-olds.ensures.all) (ap (λ (l : List Site). map site_of l) c.as_slice-2.ensures.value ∙ c.in_ok-news.ensures.all)
    (ap (λ (l : List Occurrence). map seen l) c.as_slice-3.ensures.value ∙ c.in_ok-before.ensures) (ap (λ (l : List Occurrence). map seen l) c.as_slice-4.ensures.value ∙ c.in_ok-after.ensures)
    h)
    c.changes_between.ensures
