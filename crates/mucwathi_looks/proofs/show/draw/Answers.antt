use Rattle.std.proofs.Common.{List, map, ap, subst, sym, ◌∙◌}
use Rattle.swc_tree_scoping.specs.Places.{program_place}
use Rattle.swc_tree_walk.specs.declared.identifiers.Site.{Site}
use Rattle.swc_tree_walk.specs.Sites.{site_of, sites}
use Rattle.mucwathi_looks.specs.Coloured.{AreUses}
use Rattle.mucwathi_looks.proofs.show.draw.Goals as goal

pub returns : goal.returns
returns c =
    let resolved = c.in_ok-resolved.resolved in
    let named = subst (λ names. AreUses names c.args.changes.now c.in_ok-uses.uses.items) (ap (λ (l : List Site). map site_of l) c.as_slice.ensures.value ∙ c.in_ok-found.ensures.all) c.in_ok-uses.ensures in
    record {
      table = c.resolve.new.globals;
      resolved = resolved;
      is_resolved = c.in_ok-resolved.ensures.resolved;
      uses = c.as_slice-2.result.now;
      are = subst (AreUses (sites program_place resolved) c.args.changes.now) (sym c.as_slice-2.ensures.value) named;
      drawn = c.in_ok-out.ensures.drawn;
      whole = c.in_ok-out.ensures.shown;
    }
