-- The walks together.
use Rattle.std.proofs.Common.{◌≡◌, ℕ, zero, suc, ◌+◌, ◌-◌, false, Some, List, [], length, refl, ap, ◌∙◌}
use Rattle.std.proofs.lemmas.List.FromFn.{length-range_with_len}
use Rattle.swc_tree_marks.specs.Globals.{Table, greatest, with_fresh_marks}
use Rattle.swc_tree_node.specs.declared.slot.Slot.{Slot}
use Rattle.swc_tree_node.specs.declared.node.Node.{Node}
use Rattle.swc_tree_node.specs.Fits.{fits}
use Rattle.swc_tree_scoping.specs.declared.places.Scope.TheVariants as scope
use Rattle.swc_tree_scoping.specs.Places.{opened, program_place}
use Rattle.swc_tree_scoping.specs.Scopes.{scope_count}
use Rattle.swc_tree_scoping.specs.Resolved.{is_script, remarked}
use Rattle.swc_tree_spaces.specs.Spaces.{ResolvedBy}
use Rattle.swc_tree_scoping.proofs.Remarked.{fits-remarked}
use Rattle.swc_base_resolver_program.specs.declared.names.ScopeNames.{ScopeNames}
use Rattle.swc_base_resolver_program.specs.declared.collect.Stage.TheVariants as stage
use Rattle.swc_base_resolver_program.specs.declared.lookup.TakenNames.{TakenNames}
use Rattle.swc_base_resolver_program.specs.Names.{ways_in}
use Rattle.swc_base_resolver_program.specs.Lookup.{names_in}
use Rattle.swc_base_resolver_program.specs.Walks.{Marking, Reaches, Takes, marks_from, written}
use Rattle.swc_base_resolver_program.specs.Marked.{MarksOk, OnlyContexts}
use Rattle.swc_base_resolver_program.proofs.Theorem.{contexts_kept, resolves}

pub marks_length : (top first count : ℕ) → length (marks_from top first count) ≡ count
marks_length top first zero = refl
marks_length top first (suc n) = ap suc (length-range_with_len first n)

module _ (t answer : Node) (a : Marking) (e : answer ≡ remarked (written a false [] 0 program_place t) t) where
  pub only_contexts : OnlyContexts t answer
  only_contexts = record { contexts = written a false [] 0 program_place t; only_contexts = e; kept = contexts_kept a t }

  pub fits_alike : (s : Slot) → fits answer s ≡ fits t s
  fits_alike s = ap (λ t. fits t s) e ∙ fits-remarked (written a false [] 0 program_place t) t s

  module _ (bound reached : List ScopeNames) (names : TakenNames) (binds : Takes bound (Reaches stage.Bind [] 0 program_place t))
      (reaches : Takes reached (Reaches (stage.Settle names) [] 0 program_place t)) (same_names : names_in names ≡ ways_in bound)
      (tables : a.tables ≡ record { bound = ways_in bound; reached = ways_in reached }) (script : a.is_script ≡ is_script t) where
    pub program_resolved : (old new : Table) (top count : ℕ) → count ≡ scope_count program_place t → a.marks ≡ marks_from top (greatest old + 1) count → new ≡ with_fresh_marks old top (count - 1)
        → opened program_place t ≡ Some scope.Program → MarksOk old a.unresolved top → ResolvedBy a.unresolved top old new t answer
    program_resolved old new top count n marks gains opens ok =
        resolves a t opens bound reached names same_names binds reaches tables script
        old new top ok.1 (marks ∙ ap (marks_from top (greatest old + 1)) n) (gains ∙ ap (λ n. with_fresh_marks old top (n - 1)) n) answer e
