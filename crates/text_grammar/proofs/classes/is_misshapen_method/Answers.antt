use Rattle.std.proofs.Common.{◌||◌, sym, ap, ◌∙◌}
use Rattle.text_grammar.specs.Shaped.{is_odd_method}
use Rattle.text_grammar.proofs.Fields.{method_fields}
use Rattle.text_grammar.proofs.classes.is_misshapen_method.Goals as goal

pub returns-else-is_odd_accessor : goal.returns-else-is_odd_accessor
returns-else-is_odd_accessor c =
    c.is_odd_method.ensures
    ∙ ap (λ b. b || is_odd_method c.index-fields-1.result c.index-fields-4.result) (sym (sym c.is_odd_accessor.ensures ∙ c.if-is_odd_accessor.false))
    ∙ method_fields c.args.fields.now c.index-fields-1.result c.index-fields-2.result c.index-fields-3.result c.index-fields-4.result
    c.requires c.index-fields-1.is c.index-fields-2.is c.index-fields-3.is c.index-fields-4.is
