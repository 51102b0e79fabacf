use Rattle.std.proofs.Common.{map, subst}
use Rattle.swc_tree_walk.specs.Sites.{site_of}
use Rattle.mucwathi_looks.specs.Names.{AreNamesOf}
use Rattle.mucwathi_looks.proofs.Free.{names_of_program}
use Rattle.mucwathi_looks.proofs.names.names_of.Goals as goal

pub returns : goal.returns
returns c =
    names_of_program c.args.source c.resolve.new.globals c.in_ok-resolved.resolved (map site_of c.in_ok-found.found.items) c.in_ok-names.names.items c.in_ok-resolved.ensures.resolved c.in_ok-found.ensures.all c.in_ok-found.ensures.each
    (subst (λ l. AreNamesOf (map site_of l) c.in_ok-names.names.items) c.as_slice.ensures.value c.in_ok-names.ensures)
