-- What is looked for as a name that a scope keeps.
use Rattle.std.specs.Prelude.{Bool, not, ◌&&◌, List}
use Rattle.swc_tree_marks.specs.declared.ident.Ident.{Ident}
use Rattle.swc_tree_scoping.specs.declared.places.Place.{Place}
use Rattle.swc_base_resolver_program.specs.Lookup.{Open, names_in}
use Rattle.swc_base_scope_checks.specs.declared.caught.Kept.{Kept}
use Rattle.swc_base_scope_checks.specs.Barriers.{barred, gets_out}
use Rattle.swc_base_scope_checks.specs.Caught.{is_asked}

-- the identifier is asked about, and does not get out
abbrev pub is_kept : Kept → Place → Ident → List Open → Bool
is_kept kept w i env = is_asked kept.functions w.standing && not (gets_out (barred kept.barrier) (names_in kept.bound) i.sym env)
