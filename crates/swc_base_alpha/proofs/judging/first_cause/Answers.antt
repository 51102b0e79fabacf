use Rattle.swc_base_alpha.proofs.Judged.{first_concluded, first_spent}
use Rattle.swc_base_alpha.proofs.Showing.{first_shown}
use Rattle.swc_base_alpha.proofs.judging.first_cause.Goals as goal

pub returns-clause-decides : goal.returns-clause-decides
returns-clause-decides c = λ none here there.
    first_concluded c.normal_form_is_clean.ensures c.normal_form_adds_no_types.ensures c.normal_form_is_program.ensures c.types_are_told.ensures c.args.keep_top c.are_read-reads.result c.args.before c.args.after c.in_ok-first.first c.in_ok-second.second
    c.in_ok-first.ensures c.in_ok-second.ensures none here there c.are_read-reads.ensures c.forms_differ.result c.forms_differ.ensures.decides

pub returns-clause-refusal : goal.returns-clause-refusal
returns-clause-refusal c =
    first_spent c.args.before c.args.after c.in_ok-first.first c.in_ok-second.second c.in_ok-first.ensures c.in_ok-second.ensures c.forms_differ.result c.forms_differ.ensures.refusal

pub returns-clause-shows : goal.returns-clause-shows
returns-clause-shows c = λ none here there.
    first_shown c.normal_form_is_clean.ensures c.normal_form_adds_no_types.ensures c.normal_form_is_program.ensures c.types_are_told.ensures c.args.unplaced c.args.before c.args.after c.in_ok-first.first c.in_ok-second.second
    c.in_ok-first.ensures c.in_ok-second.ensures none here there c.forms_differ.result c.forms_differ.ensures.shows
