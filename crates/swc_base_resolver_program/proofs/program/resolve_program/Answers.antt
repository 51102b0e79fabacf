use Rattle.std.proofs.Common.{◌∙◌, ◌+◌, ◌↔◌, ℕ, IsTrue, List, [], ap, length, arith, subst, sym}
use Rattle.swc_tree_scoping.specs.Places.{program_place}
use Rattle.swc_base_resolver_program.specs.declared.collect.Stage.TheVariants as stage
use Rattle.swc_tree_marks.specs.Globals.{greatest}
use Rattle.swc_base_resolver_program.specs.Names.{Bindings, Way, takes_way, ways_in}
use Rattle.swc_base_resolver_program.specs.Lookup.{names_in}
use Rattle.swc_base_resolver_program.specs.Walks.{Reaches}
use Rattle.swc_base_resolver_program.proofs.Together.{marks_length, fits_alike, program_resolved}
use Rattle.swc_base_resolver_program.proofs.program.resolve_program.Goals as goal

pub gather_reached-requires : goal.gather_reached-requires
gather_reached-requires c =
    let same = c.new-bound.ensures ∙ ap ways_in c.as_slice-bound_names.ensures.value in
    subst (λ (names : Bindings). (k : ℕ) (v : Way) (x : List ℕ) → IsTrue (takes_way (names k x) v) ↔ Reaches stage.Bind [] 0 program_place c.args.program k v x) (sym same) c.in_ok-bound.ensures.names

pub write_contexts-requires : goal.write_contexts-requires
write_contexts-requires c =
    let long = ap length (c.as_slice.ensures.value ∙ c.in_ok-marks.ensures.marks) ∙ marks_length c.args.top (greatest c.args.globals.now + 1) _ in
    let some = ap length c.as_slice-bound_names.ensures.value in
    omega (arith, long, some, c.in_ok-bound.ensures.size)

pub returns-clause-place : goal.returns-clause-place
returns-clause-place c = fits_alike c.args.program c.in_ok-answer.answer (record { marks = c.as_slice.result.now; tables = record { bound = names_in c.new-bound.result; reached = names_in c.new-reached.result }; unresolved = c.args.unresolved; is_script = c.is_script.result }) c.in_ok-answer.ensures

resolved_by : goal.returns-clause-resolved
resolved_by c =
    let bound_is = ap ways_in c.as_slice-bound_names.ensures.value in
    let reached_is = ap ways_in c.as_slice-reached_names.ensures.value in
    let count = ap length c.as_slice-bound_names.ensures.value ∙ c.in_ok-bound.ensures.size in
    program_resolved c.args.program c.in_ok-answer.answer (record { marks = c.as_slice.result.now; tables = record { bound = names_in c.new-bound.result; reached = names_in c.new-reached.result }; unresolved = c.args.unresolved; is_script = c.is_script.result }) c.in_ok-answer.ensures c.in_ok-bound.bound.items c.in_ok-reached.reached.items c.new-bound.result
    c.in_ok-bound.ensures.names c.in_ok-reached.ensures (c.new-bound.ensures ∙ bound_is)
    (ap (λ b. record { bound = b; reached = names_in c.new-reached.result }) (c.new-bound.ensures ∙ bound_is) ∙ ap (λ r. record { bound = ways_in c.in_ok-bound.bound.items; reached = r }) (c.new-reached.ensures ∙ reached_is))
    c.is_script.ensures c.args.globals.now c.marks_of.new.globals c.args.top _ count (c.as_slice.ensures.value ∙ c.in_ok-marks.ensures.marks) c.in_ok-marks.ensures.table

pub returns-clause-resolved : goal.returns-clause-resolved
returns-clause-resolved = resolved_by

pub returns-clause-by_values : goal.returns-clause-by_values
returns-clause-by_values c = λ none opens ok. (c.resolved_alike_without_types.ensures c.args.unresolved c.args.top c.args.globals.now c.marks_of.new.globals c.args.program c.in_ok-answer.answer none).1 (resolved_by c opens ok)
