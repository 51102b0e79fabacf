-- Bodies of helpers are statements, and a table with fresh marks more holds what it held.
use Rattle.std.proofs.Common.{◌≡◌, ℕ, suc, zero, ◌+◌, ◌++◌, ◌∙◌, append_assoc, append-nil, ◌==◌, Bool, true, false, Option, Some, None, List, [], ◌∷◌, map, unwrap_or, sym, ap, subst, arith, if◌then◌else◌}
use Rattle.std.specs.List.{All}
use Rattle.std.proofs.lemmas.List.Elements.{All-cons}
use Rattle.swc_tree_marks.specs.Globals.{Table, greatest, recorded, with_fresh_marks}
use Rattle.swc_tree_node.specs.declared.node.Node.{Node}
use Rattle.swc_tree.specs.Passes.{IsExtended}
use Rattle.swc_base_tables_program.specs.Given.{bodies_in, body_of, body_or_none, in_order}
use Rattle.swc_base_tables_program.specs.declared.bodies.Bodies.{Bodies}
use Rattle.swc_base_tables.specs.Helpers.{AreStatements, Statements}

fits_as : (now other : Option (List Node)) → now ≡ other → Statements (unwrap_or other []) → Statements (unwrap_or now [])
fits_as now other same fit = subst (λ o. Statements (unwrap_or o [])) (sym same) fit

pub none_fits : (bodies : Bodies) → ((helper : ℕ) → body_of bodies helper ≡ None) → AreStatements bodies
none_fits bodies none helper = fits_as (body_of bodies helper) None (none helper) tt

pub kept_fits : (old new : Bodies) → AreStatements old → ((other : ℕ) → body_of new other ≡ body_of old other) → AreStatements new
kept_fits old new fit same other = fits_as (body_of new other) (body_of old other) (same other) (fit other)

pub inserted_fits : (old new : Bodies) (helper : ℕ) (body : List Node) → AreStatements old → Statements body
    → ((other : ℕ) → body_of new other ≡ (if other == helper then Some body else body_of old other)) → AreStatements new
inserted_fits old new helper body fit given is other =
    fits_as (body_of new other) (if other == helper then Some body else body_of old other) (is other) (by (other == helper))
  where
    by : (b : Bool) → Statements (unwrap_or (if b then Some body else body_of old other) [])
    by true = given
    by false = fit other

mapped_fit : (f : ℕ → List Node) → ((n : ℕ) → Statements (f n)) → (ns : List ℕ) → All Statements (map f ns)
mapped_fit f fit [] = λ k d h. absurd (omega (arith, h))
mapped_fit f fit (n ∷ ns) = All-cons Statements (f n) (map f ns) (fit n) (mapped_fit f fit ns)

pub given_fit : (bodies : Bodies) (set : ℕ) → AreStatements bodies → All Statements (bodies_in bodies set)
given_fit bodies set fit = mapped_fit (body_or_none bodies) fit (in_order set)

pub still_held : (table : Table) (parent count : ℕ) → IsExtended table (with_fresh_marks table parent count)
still_held table parent zero = ([], sym (append-nil table))
still_held table parent (suc count) =
    let earlier = still_held table parent count in
    let before = with_fresh_marks table parent count in
    let row = (greatest before + 1, recorded before parent) ∷ [] in
    (earlier.0 ++ row, ap (λ t. t ++ row) earlier.1 ∙ append_assoc table earlier.0 row)

pub held_as : (table new : Table) (parent count : ℕ) → new ≡ with_fresh_marks table parent count → IsExtended table new
held_as table new parent count same =
    let more = still_held table parent count in
    (more.0, same ∙ more.1)
