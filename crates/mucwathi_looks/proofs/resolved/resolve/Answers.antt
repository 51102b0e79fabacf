use Rattle.std.proofs.Common.{List, map, ap, ◌∙◌}
use Rattle.swc_tree_walk.specs.declared.identifiers.Site.{Site}
use Rattle.swc_tree_walk.specs.Sites.{site_of}
use Rattle.mucwathi_looks.proofs.Signed.{own_signs}
use Rattle.mucwathi_looks.proofs.resolved.resolve.Goals as goal

pub returns : goal.returns
returns c = record {
  made = c.in_ok-made.made;
  is_made = c.in_ok-made.ensures.made c.requires;
  signs = c.as_slice-3.result.now;
  are =
      own_signs c.in_ok-made.made.tree (map site_of c.as_slice.result.now) (map site_of c.as_slice-2.result.now) c.in_ok-signs.signs.items c.as_slice-3.result.now
      (ap (λ (l : List Site). map site_of l) c.as_slice.ensures.value ∙ c.in_ok-names.ensures.all) (ap (λ (l : List Site). map site_of l) c.as_slice-2.ensures.value ∙ c.in_ok-names.ensures.all)
      c.as_slice-3.ensures.value c.in_ok-signs.ensures;
  written = c.in_ok-out.ensures;
}
