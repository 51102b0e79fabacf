-- What is looked for as a stray of a script.
use Rattle.std.specs.Prelude.{Bool, ◌&&◌, ◌||◌, List}
use Rattle.swc_tree_marks.specs.declared.ident.Ident.{Ident}
use Rattle.swc_tree_scoping.specs.declared.places.Place.{Place}
use Rattle.swc_tree_scoping.specs.Resolved.{is_global_value}
use Rattle.swc_tree_scoping.specs.Scopes.{is_binding}
use Rattle.swc_base_resolver_program.specs.Lookup.{Open, taker_in}
use Rattle.swc_base_early_errors.specs.Asked.{is_program, is_sloppy}

-- the name of a plain function in a block of sloppy code, or a binding of a global value that the program takes
abbrev pub is_stray : Place → Ident → List Open → Bool
is_stray w i env = is_sloppy w.standing || (is_binding w.standing && (is_global_value i.sym && is_program (taker_in w.standing env)))
