use Rattle.std.proofs.Common.{map, ap, subst, ◌∙◌}
use Rattle.std.specs.List.Sorted.{IsPermutation}
use Rattle.swc_tree_walk.specs.Sites.{site_of}
use Rattle.mucwathi_looks.specs.Given.{end_of}
use Rattle.std.specs.Result.{IfOk}
use Rattle.mucwathi_looks.proofs.behind.ends_of.Goals as goal

pub returns : goal.returns
returns c =
    let same = c.in_ok-places.ensures ∙ ap (λ l. map end_of (map site_of l)) c.as_slice.ensures.value ∙ ap (λ l. map end_of l) c.in_ok-found.ensures.all in
    subst (λ l. IfOk c.ordered.result (λ sorted. IsPermutation l sorted.items)) same c.ordered.ensures
