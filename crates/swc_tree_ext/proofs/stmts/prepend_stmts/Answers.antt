use Rattle.std.proofs.Common.{◌≤◌, length, subst}
use Rattle.std.proofs.lemmas.List.Sums.{prefix_len-le-length}
use Rattle.swc_tree_ext.specs.Directives.{is_string}
use Rattle.swc_tree_ext.proofs.stmts.prepend_stmts.Goals as goal

pub insert_all-requires : goal.insert_all-requires
insert_all-requires g c =
    subst (λ ts. c.leading_strings-place.result ≤ length ts) c.as_slice.ensures.same
    (rw c.leading_strings-place.ensures (prefix_len-le-length is_string c.as_slice.result.now))
