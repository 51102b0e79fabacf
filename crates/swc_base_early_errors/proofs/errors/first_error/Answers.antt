use Rattle.std.proofs.Common.{inl, inr, refl}
use Rattle.swc_base_early_errors.proofs.Clauses.{eval_asked, export_asked, fails, holds, parameter_asked, twice_asked, variable_asked}
use Rattle.swc_base_early_errors.proofs.errors.first_error.Goals as goal

pub returns-then-is_undeclared : goal.returns-then-is_undeclared
returns-then-is_undeclared c = λ opens clean plain.
    inl (fails c.finds-is_undeclared.result _ c.if-is_undeclared.true (export_asked c.args.program.now clean opens plain c.args.tables.now c.requires.names c.finds-is_undeclared.result c.finds-is_undeclared.ensures), refl)

pub returns-then-is_twice : goal.returns-then-is_twice
returns-then-is_twice c = λ opens clean plain.
    let export = holds c.finds-is_undeclared.result _ c.if-is_undeclared.false (export_asked c.args.program.now clean opens plain c.args.tables.now c.requires.names c.finds-is_undeclared.result c.finds-is_undeclared.ensures) in
    inr (export, inl (fails c.in_ok-is_twice.is_twice _ c.if-is_twice.true (twice_asked c.args.program.now clean opens plain c.is_module.result c.in_ok-is_twice.is_twice c.is_module.ensures c.in_ok-is_twice.ensures), refl))

pub returns-then-is_kept : goal.returns-then-is_kept
returns-then-is_kept c = λ opens clean plain.
    let export = holds c.finds-is_undeclared.result _ c.if-is_undeclared.false (export_asked c.args.program.now clean opens plain c.args.tables.now c.requires.names c.finds-is_undeclared.result c.finds-is_undeclared.ensures) in
    let twice = holds c.in_ok-is_twice.is_twice _ c.if-is_twice.false (twice_asked c.args.program.now clean opens plain c.is_module.result c.in_ok-is_twice.is_twice c.is_module.ensures c.in_ok-is_twice.ensures) in
    inr (export, inr (twice, inl (fails c.keeps_variable-is_kept.result _ c.if-is_kept.true (variable_asked c.args.program.now clean opens plain c.keeps_variable-is_kept.result (c.keeps_variable-is_kept.ensures opens)), refl)))

pub returns-then-is_repeated : goal.returns-then-is_repeated
returns-then-is_repeated c = λ opens clean plain.
    let export = holds c.finds-is_undeclared.result _ c.if-is_undeclared.false (export_asked c.args.program.now clean opens plain c.args.tables.now c.requires.names c.finds-is_undeclared.result c.finds-is_undeclared.ensures) in
    let twice = holds c.in_ok-is_twice.is_twice _ c.if-is_twice.false (twice_asked c.args.program.now clean opens plain c.is_module.result c.in_ok-is_twice.is_twice c.is_module.ensures c.in_ok-is_twice.ensures) in
    let variable = holds c.keeps_variable-is_kept.result _ c.if-is_kept.false (variable_asked c.args.program.now clean opens plain c.keeps_variable-is_kept.result (c.keeps_variable-is_kept.ensures opens)) in
    inr (export, inr (twice, inr (variable, inl (fails c.in_ok-is_repeated.is_repeated _ c.if-is_repeated.true (parameter_asked c.args.program.now clean opens plain c.in_ok-is_repeated.is_repeated c.in_ok-is_repeated.ensures), refl))))

pub returns-then-is_eval : goal.returns-then-is_eval
returns-then-is_eval c = λ opens clean plain.
    let export = holds c.finds-is_undeclared.result _ c.if-is_undeclared.false (export_asked c.args.program.now clean opens plain c.args.tables.now c.requires.names c.finds-is_undeclared.result c.finds-is_undeclared.ensures) in
    let twice = holds c.in_ok-is_twice.is_twice _ c.if-is_twice.false (twice_asked c.args.program.now clean opens plain c.is_module.result c.in_ok-is_twice.is_twice c.is_module.ensures c.in_ok-is_twice.ensures) in
    let variable = holds c.keeps_variable-is_kept.result _ c.if-is_kept.false (variable_asked c.args.program.now clean opens plain c.keeps_variable-is_kept.result (c.keeps_variable-is_kept.ensures opens)) in
    let parameter = holds c.in_ok-is_repeated.is_repeated _ c.if-is_repeated.false (parameter_asked c.args.program.now clean opens plain c.in_ok-is_repeated.is_repeated c.in_ok-is_repeated.ensures) in
    inr (export, inr (twice, inr (variable, inr (parameter, inl (fails c.finds-is_eval.result _ c.if-is_eval.true (eval_asked c.args.program.now clean c.args.tables.now c.finds-is_eval.result c.finds-is_eval.ensures), refl)))))

pub returns : goal.returns
returns c = λ opens clean plain. record {
  exports_declared = holds c.finds-is_undeclared.result _ c.if-is_undeclared.false (export_asked c.args.program.now clean opens plain c.args.tables.now c.requires.names c.finds-is_undeclared.result c.finds-is_undeclared.ensures);
  no_redeclaration = record {
    none_twice = holds c.in_ok-is_twice.is_twice _ c.if-is_twice.false (twice_asked c.args.program.now clean opens plain c.is_module.result c.in_ok-is_twice.is_twice c.is_module.ensures c.in_ok-is_twice.ensures);
    no_variable_passes = holds c.keeps_variable-is_kept.result _ c.if-is_kept.false (variable_asked c.args.program.now clean opens plain c.keeps_variable-is_kept.result (c.keeps_variable-is_kept.ensures opens));
    no_parameter_twice = holds c.in_ok-is_repeated.is_repeated _ c.if-is_repeated.false (parameter_asked c.args.program.now clean opens plain c.in_ok-is_repeated.is_repeated c.in_ok-is_repeated.ensures);
  };
  no_eval_or_arguments = holds c.finds-is_eval.result _ c.if-is_eval.false (eval_asked c.args.program.now clean c.args.tables.now c.finds-is_eval.result c.finds-is_eval.ensures);
}
