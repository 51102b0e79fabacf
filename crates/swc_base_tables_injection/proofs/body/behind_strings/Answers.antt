use Rattle.std.proofs.Common.{◌≤◌, length, subst}
use Rattle.std.proofs.lemmas.List.Sums.{prefix_len-le-length}
use Rattle.swc_base_tables_injection.specs.Bodies.{is_string}
use Rattle.swc_base_tables_injection.proofs.body.behind_strings.Goals as goal

pub insert_all-requires : goal.insert_all-requires
insert_all-requires c =
    subst (λ ts. c.leading_strings-place.result ≤ length ts) c.as_slice.ensures
    (rw c.leading_strings-place.ensures (prefix_len-le-length is_string c.as_slice.result.now))
