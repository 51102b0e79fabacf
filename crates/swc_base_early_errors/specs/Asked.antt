-- What is looked for among the identifiers of a program.
use Rattle.std.specs.Prelude.{ℕ, Bool, true, false, not, ◌&&◌, ◌||◌, ◌==◌, Option, Some, None, List, codes}
use Rattle.std.specs.Str.{bytes_eq}
use Rattle.swc_tree_marks.specs.declared.ident.Ident.{Ident}
use Rattle.swc_tree_scoping.specs.declared.places.Place.{Place}
use Rattle.swc_tree_scoping.specs.declared.places.Standing.{Standing}
use Rattle.swc_tree_scoping.specs.declared.places.Standing.TheVariants as standing
use Rattle.swc_tree_scoping.specs.Scopes.{is_binding}
use Rattle.swc_tree_scoping.specs.Declares.{is_settled}
use Rattle.swc_tree_scoping.specs.Resolved.{is_global_value}
use Rattle.swc_base_resolver_program.specs.Lookup.{Open, taker_in}
use Rattle.swc_base_resolver_program.specs.Names.{Bindings, any_way}
use Rattle.swc_base_early_errors.specs.declared.sought.Sought.{Sought}
use Rattle.swc_base_early_errors.specs.declared.sought.Sought.TheVariants as sought

abbrev pub is_sloppy : Standing → Bool
is_sloppy standing.SloppyFunction = true
is_sloppy _ = false

abbrev pub is_plain_reference : Standing → Bool
is_plain_reference standing.Reference = true
is_plain_reference _ = false

abbrev pub is_eval_or_arguments : List ℕ → Bool
is_eval_or_arguments x = bytes_eq x (codes "eval") || bytes_eq x (codes "arguments")

-- the scope is the program, which has the number 0
abbrev pub is_program : Option ℕ → Bool
is_program None = false
is_program (Some k) = k == 0

-- an identifier is one of those that are looked for, by its place, by whether it stands in an export list, and by the open scopes
abbrev pub is_found : Sought → Bindings → Place → Ident → Bool → List Open → Bool
is_found sought.SloppyFunction b w i listed env = is_sloppy w.standing
is_found sought.GlobalValue b w i listed env = is_binding w.standing && (is_global_value i.sym && is_program (taker_in w.standing env))
is_found sought.UndeclaredExport b w i listed env = listed && (is_plain_reference w.standing && not (any_way is_settled (b 0 i.sym)))
is_found sought.EvalOrArguments b w i listed env = is_binding w.standing && is_eval_or_arguments i.sym
