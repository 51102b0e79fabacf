use Rattle.std.proofs.Common.{◌≡◌, true, false, bytes_eq, refl, sym, ◌∙◌, option_copied}
use Rattle.text_values.specs.Values.{template_raw}
use Rattle.text_words.specs.Words.{is_cooked}
use Rattle.text_words.proofs.Templates.{by_parts}
use Rattle.text_words.proofs.template.is_template.Goals as goal

pub returns-then-raw_is : goal.returns-then-raw_is
returns-then-raw_is c =
    by_parts (option_copied c.args.value) c.args.raw.now true true c.is_cooked.result
    (sym c.if-is_closed_template.true ∙ c.is_closed_template.ensures) (sym c.if-raw_is.true ∙ c.raw_is.ensures) c.is_cooked.ensures

pub returns-else-raw_is : goal.returns-else-raw_is
returns-else-raw_is c =
    c.if-raw_is.false
    ∙ by_parts (option_copied c.args.value) c.args.raw.now true false (is_cooked c.args.raw.now (option_copied c.args.value))
    (sym c.if-is_closed_template.true ∙ c.is_closed_template.ensures) (sym c.if-raw_is.false ∙ c.raw_is.ensures) refl

pub returns-else-is_closed_template : goal.returns-else-is_closed_template
returns-else-is_closed_template c =
    c.if-is_closed_template.false
    ∙ by_parts (option_copied c.args.value) c.args.raw.now false (bytes_eq (template_raw c.args.raw.now) c.args.raw.now) (is_cooked c.args.raw.now (option_copied c.args.value))
    (sym c.if-is_closed_template.false ∙ c.is_closed_template.ensures) refl refl
