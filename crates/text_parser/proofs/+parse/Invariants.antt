use Rattle.std.proofs.Common.{◌<◌}
use Rattle.text_parser.proofs.+parse.Given as goal

abbrev pub decreases-expressions::parse_assignment : goal.decreases-expressions::parse_assignment
decreases-expressions::parse_assignment l = l.depth

abbrev pub decreases-expressions::parse_binary : goal.decreases-expressions::parse_binary
decreases-expressions::parse_binary l = l.depth

abbrev pub decreases-expressions::parse_conditional : goal.decreases-expressions::parse_conditional
decreases-expressions::parse_conditional l = l.depth

abbrev pub decreases-expressions::parse_expression : goal.decreases-expressions::parse_expression
decreases-expressions::parse_expression l = l.depth

abbrev pub decreases-expressions::parse_unary : goal.decreases-expressions::parse_unary
decreases-expressions::parse_unary l = l.depth

abbrev pub decreases-expressions::parse_yield : goal.decreases-expressions::parse_yield
decreases-expressions::parse_yield l = l.depth

abbrev pub decreases-functions::parse_binding : goal.decreases-functions::parse_binding
decreases-functions::parse_binding l = l.depth

abbrev pub decreases-functions::parse_class : goal.decreases-functions::parse_class
decreases-functions::parse_class l = l.depth

abbrev pub decreases-functions::parse_function : goal.decreases-functions::parse_function
decreases-functions::parse_function l = l.depth

abbrev pub decreases-functions::parse_function_rest : goal.decreases-functions::parse_function_rest
decreases-functions::parse_function_rest l = l.depth

abbrev pub decreases-functions::parse_member : goal.decreases-functions::parse_member
decreases-functions::parse_member l = l.depth

abbrev pub decreases-functions::parse_parameters : goal.decreases-functions::parse_parameters
decreases-functions::parse_parameters l = l.depth

abbrev pub decreases-heads::parse_for : goal.decreases-heads::parse_for
decreases-heads::parse_for l = l.depth

abbrev pub decreases-heads::parse_head : goal.decreases-heads::parse_head
decreases-heads::parse_head l = l.depth

abbrev pub decreases-heads::parse_variables : goal.decreases-heads::parse_variables
decreases-heads::parse_variables l = l.depth

abbrev pub decreases-members::parse_computed : goal.decreases-members::parse_computed
decreases-members::parse_computed l = l.depth

abbrev pub decreases-members::parse_elements : goal.decreases-members::parse_elements
decreases-members::parse_elements l = l.depth

abbrev pub decreases-members::parse_new : goal.decreases-members::parse_new
decreases-members::parse_new l = l.depth

abbrev pub decreases-members::parse_postfix : goal.decreases-members::parse_postfix
decreases-members::parse_postfix l = l.depth

abbrev pub decreases-members::parse_suffix : goal.decreases-members::parse_suffix
decreases-members::parse_suffix l = l.depth

abbrev pub decreases-members::parse_suffixes : goal.decreases-members::parse_suffixes
decreases-members::parse_suffixes l = l.depth

abbrev pub decreases-objects::parse_key : goal.decreases-objects::parse_key
decreases-objects::parse_key l = l.depth

abbrev pub decreases-objects::parse_object : goal.decreases-objects::parse_object
decreases-objects::parse_object l = l.depth

abbrev pub decreases-objects::parse_property : goal.decreases-objects::parse_property
decreases-objects::parse_property l = l.depth

abbrev pub decreases-primary::parse_arrow : goal.decreases-primary::parse_arrow
decreases-primary::parse_arrow l = l.depth

abbrev pub decreases-primary::parse_async : goal.decreases-primary::parse_async
decreases-primary::parse_async l = l.depth

abbrev pub decreases-primary::parse_name : goal.decreases-primary::parse_name
decreases-primary::parse_name l = l.depth

abbrev pub decreases-primary::parse_paren : goal.decreases-primary::parse_paren
decreases-primary::parse_paren l = l.depth

abbrev pub decreases-primary::parse_primary : goal.decreases-primary::parse_primary
decreases-primary::parse_primary l = l.depth

abbrev pub decreases-primary::parse_template : goal.decreases-primary::parse_template
decreases-primary::parse_template l = l.depth

abbrev pub decreases-statements::parse_expression_statement : goal.decreases-statements::parse_expression_statement
decreases-statements::parse_expression_statement l = l.depth

abbrev pub decreases-statements::parse_run : goal.decreases-statements::parse_run
decreases-statements::parse_run l = l.depth

abbrev pub decreases-statements::parse_statement : goal.decreases-statements::parse_statement
decreases-statements::parse_statement l = l.depth

abbrev pub decreases-statements::parse_statement_of : goal.decreases-statements::parse_statement_of
decreases-statements::parse_statement_of l = l.depth

abbrev pub decreases-statements::parse_step : goal.decreases-statements::parse_step
decreases-statements::parse_step l = l.depth

abbrev pub decreases-statements::parse_steps : goal.decreases-statements::parse_steps
decreases-statements::parse_steps l = l.depth

abbrev pub invariant-expressions::parse_binary-loop : goal.invariant-expressions::parse_binary-loop
invariant-expressions::parse_binary-loop l = 0 < l.depth

abbrev pub invariant-expressions::parse_expression-loop : goal.invariant-expressions::parse_expression-loop
invariant-expressions::parse_expression-loop l = 0 < l.depth

abbrev pub invariant-functions::parse_class-loop : goal.invariant-functions::parse_class-loop
invariant-functions::parse_class-loop l = 0 < l.depth

abbrev pub invariant-functions::parse_parameters-loop : goal.invariant-functions::parse_parameters-loop
invariant-functions::parse_parameters-loop l = 0 < l.depth

abbrev pub invariant-heads::parse_variables-loop : goal.invariant-heads::parse_variables-loop
invariant-heads::parse_variables-loop l = 0 < l.depth

abbrev pub invariant-members::parse_elements-loop : goal.invariant-members::parse_elements-loop
invariant-members::parse_elements-loop l = 0 < l.depth

abbrev pub invariant-members::parse_suffixes-loop : goal.invariant-members::parse_suffixes-loop
invariant-members::parse_suffixes-loop l = 0 < l.depth

abbrev pub invariant-objects::parse_object-loop : goal.invariant-objects::parse_object-loop
invariant-objects::parse_object-loop l = 0 < l.depth

abbrev pub invariant-primary::parse_paren-loop : goal.invariant-primary::parse_paren-loop
invariant-primary::parse_paren-loop l = 0 < l.depth

abbrev pub invariant-primary::parse_template-loop : goal.invariant-primary::parse_template-loop
invariant-primary::parse_template-loop l = 0 < l.depth

abbrev pub invariant-statements::parse_run-loop : goal.invariant-statements::parse_run-loop
invariant-statements::parse_run-loop l = 0 < l.depth

abbrev pub invariant-statements::parse_steps-loop-step : goal.invariant-statements::parse_steps-loop-step
invariant-statements::parse_steps-loop-step l = 0 < l.depth
