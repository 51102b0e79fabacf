use Rattle.std.proofs.Common.{true, false, inl, inr, refl}
use Rattle.swc_base_early_errors.proofs.Clauses.{fails, holds, repeated_asked, unlabelled, unlabelled_not}
use Rattle.swc_base_early_errors.proofs.Found.{no_global_is, no_sloppy_is}
use Rattle.swc_base_early_errors.proofs.scripts.first_fault.Goals as goal

pub returns-then-is_sloppy : goal.returns-then-is_sloppy
returns-then-is_sloppy c = λ opens clean. (c.requires.goal, inl (fails c.finds-is_sloppy.result _ c.if-is_sloppy.true (no_sloppy_is c.args.tables.now c.args.script.now c.finds-is_sloppy.result c.finds-is_sloppy.ensures), refl))

pub returns-then-not-is_unlabelled : goal.returns-then-not-is_unlabelled
returns-then-not-is_unlabelled c = λ opens clean.
    let settled = holds c.finds-is_sloppy.result _ c.if-is_sloppy.false (no_sloppy_is c.args.tables.now c.args.script.now c.finds-is_sloppy.result c.finds-is_sloppy.ensures) in
    (c.requires.goal, inr (settled, inl (unlabelled_not c.args.script.now c.labels_no_function-is_unlabelled.result c.labels_no_function-is_unlabelled.ensures c.if-not-is_unlabelled.true, refl)))

pub returns-then-is_global : goal.returns-then-is_global
returns-then-is_global c = λ opens clean.
    let settled = holds c.finds-is_sloppy.result _ c.if-is_sloppy.false (no_sloppy_is c.args.tables.now c.args.script.now c.finds-is_sloppy.result c.finds-is_sloppy.ensures) in
    let labels = unlabelled c.args.script.now c.labels_no_function-is_unlabelled.result c.labels_no_function-is_unlabelled.ensures c.if-not-is_unlabelled.false in
    (c.requires.goal, inr (settled, inr (labels, inl (fails c.finds-is_global.result _ c.if-is_global.true (no_global_is c.args.tables.now c.args.script.now opens c.finds-is_global.result c.requires.goal c.finds-is_global.ensures), refl))))

pub returns-then-is_repeated : goal.returns-then-is_repeated
returns-then-is_repeated c = λ opens clean.
    let settled = holds c.finds-is_sloppy.result _ c.if-is_sloppy.false (no_sloppy_is c.args.tables.now c.args.script.now c.finds-is_sloppy.result c.finds-is_sloppy.ensures) in
    let labels = unlabelled c.args.script.now c.labels_no_function-is_unlabelled.result c.labels_no_function-is_unlabelled.ensures c.if-not-is_unlabelled.false in
    let global = holds c.finds-is_global.result _ c.if-is_global.false (no_global_is c.args.tables.now c.args.script.now opens c.finds-is_global.result c.requires.goal c.finds-is_global.ensures) in
    (c.requires.goal, inr (settled, inr (labels, inr (global, inl (fails c.in_ok-is_repeated.is_repeated _ c.if-is_repeated.true (repeated_asked c.args.script.now clean opens c.in_ok-is_repeated.is_repeated c.in_ok-is_repeated.ensures), refl)))))

pub returns : goal.returns
returns c = λ opens clean script. record {
  settled = holds c.finds-is_sloppy.result _ c.if-is_sloppy.false (no_sloppy_is c.args.tables.now c.args.script.now c.finds-is_sloppy.result c.finds-is_sloppy.ensures);
  unlabelled = unlabelled c.args.script.now c.labels_no_function-is_unlabelled.result c.labels_no_function-is_unlabelled.ensures c.if-not-is_unlabelled.false;
  no_global_value = holds c.finds-is_global.result _ c.if-is_global.false (no_global_is c.args.tables.now c.args.script.now opens c.finds-is_global.result c.requires.goal c.finds-is_global.ensures);
  no_parameter_repeated = holds c.in_ok-is_repeated.is_repeated _ c.if-is_repeated.false (repeated_asked c.args.script.now clean opens c.in_ok-is_repeated.is_repeated c.in_ok-is_repeated.ensures);
}
