use Rattle.std.proofs.Common.{◌≡◌, ◌∙◌, Err, sym, ap, subst}
use Rattle.std.proofs.lemmas.Result.{err_from_is_err_and}
use Rattle.swc_tree_node.specs.Fits.{Fits}
use Rattle.swc_tree_grammar.specs.Targets.{all_bare}
use Rattle.swc_ecma_transforms_base.specs.Mangled.{OnceMangled}
use Rattle.swc_ecma_transforms_base.proofs.Causes.{answer_fits, fixing_refused, goal_room, mangling_refused, marking_refused, true_unless}
use Rattle.swc_ecma_transforms_base.proofs.nodes.mangle_node.Goals as goal

pub returns-in_err-marked-clause-cause : goal.returns-in_err-marked-clause-cause
returns-in_err-marked-clause-cause c =
    let refused = err_from_is_err_and c.from_residual.result c.from_residual.ensures.1 in
    rw (refused.1, refused.2) (marking_refused c.args.unresolved c.args.config.now c.args.keeps_top c.args.globals.now c.args.tree c.resolve_program.new.globals c.requires.no_types
    c.in_err-marked.field-0.0 c.in_err-marked.ensures.refusal (λ out. c.in_err-marked.ensures.spent (ap (λ e. Err e) out)))

pub returns-in_err-between-clause-cause : goal.returns-in_err-between-clause-cause
returns-in_err-between-clause-cause c =
    let marked = c.in_ok-marked.ensures.by_values ((c.types_are_told.ensures c.args.tree).0 c.requires.no_types) c.requires.program c.requires.marks in
    let refused = err_from_is_err_and c.from_residual-in_err-between.result c.from_residual-in_err-between.ensures.1 in
    rw (refused.1, refused.2) (mangling_refused c.args.unresolved c.args.config.now c.args.keeps_top c.args.globals.now c.args.tree c.resolve_program.new.globals c.requires.no_types
    c.in_ok-marked.marked c.in_err-between.field-0.0 marked c.in_err-between.ensures.refused)

pub returns-in_err-fixed-clause-cause : goal.returns-in_err-fixed-clause-cause
returns-in_err-fixed-clause-cause c =
    let once : OnceMangled c.args.unresolved c.args.config.now c.args.keeps_top c.args.globals.now c.args.tree c.resolve_program.new.globals c.in_ok-between.between = record {
      resolved = c.in_ok-marked.marked;
      marked = c.in_ok-marked.ensures.by_values ((c.types_are_told.ensures c.args.tree).0 c.requires.no_types) c.requires.program c.requires.marks;
      mangled = c.in_ok-between.ensures.mangled;
    } in
    let refused = err_from_is_err_and c.from_residual-in_err-fixed.result c.from_residual-in_err-fixed.ensures.1 in
    rw (refused.1, refused.2) (fixing_refused c.args.unresolved c.args.config.now c.args.keeps_top c.args.globals.now c.args.tree c.resolve_program.new.globals c.requires.no_types
    c.in_ok-between.between c.in_err-fixed.field-0.0 once c.in_err-fixed.ensures.not_assignable.0 c.in_err-fixed.ensures.no_memory)

pub returns-clause-done : goal.returns-clause-done
returns-clause-done c = record {
  no_types = c.requires.no_types;
  between = c.in_ok-between.between;
  once = record {
    resolved = c.in_ok-marked.marked;
    marked = c.in_ok-marked.ensures.by_values ((c.types_are_told.ensures c.args.tree).0 c.requires.no_types) c.requires.program c.requires.marks;
    mangled = c.in_ok-between.ensures.mangled;
  };
  assignable = true_unless (all_bare c.in_ok-between.between) c.in_ok-fixed.ensures.not_assignable.1;
  paired = c.in_ok-fixed.ensures.answer;
}

pub returns-clause-fits : goal.returns-clause-fits
returns-clause-fits c = λ place is fits.
    let resolved : Fits c.in_ok-marked.marked place = c.in_ok-marked.ensures.place place ∙ fits in
    let between = c.in_ok-between.ensures.fits place (goal_room place is) resolved in
    subst (λ t. Fits t place) (sym c.in_ok-fixed.ensures.answer)
    (answer_fits c.fixed_fits_table.ensures place is c.in_ok-between.between between (true_unless (all_bare c.in_ok-between.between) c.in_ok-fixed.ensures.not_assignable.1))
