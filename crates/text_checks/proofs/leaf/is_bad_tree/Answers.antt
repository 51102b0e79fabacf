use Rattle.std.proofs.Common.{sym, ap, ◌∙◌}
use Rattle.swc_tree_node.specs.declared.node.Node.TheOpen.{Node-F}
use Rattle.text_checks.specs.Spelled.{is_bad_leaf}
use Rattle.text_checks.proofs.SpellingFields.{regex_fields, string_fields, template_fields}
use Rattle.text_checks.proofs.leaf.is_bad_tree.Goals as goal

pub returns-in-Str : goal.returns-in-Str
returns-in-Str c =
    c.is_bad_string.ensures
    ∙ string_fields c.args.fields.now c.index-fields-1-in-Str.result c.index-fields-2.result c.if-fields-eq3.true c.index-fields-1-in-Str.is c.index-fields-2.is
    ∙ ap (λ k. is_bad_leaf (Node-F.Tree k c.args.fields.now)) (sym c.in-Str.is)

pub returns-in-Regex : goal.returns-in-Regex
returns-in-Regex c =
    c.is_bad_regex.ensures
    ∙ regex_fields c.args.fields.now c.index-fields-1-in-Regex.result c.index-fields-2-in-Regex.result c.if-fields-eq3-2.true c.index-fields-1-in-Regex.is c.index-fields-2-in-Regex.is
    ∙ ap (λ k. is_bad_leaf (Node-F.Tree k c.args.fields.now)) (sym c.in-Regex.is)

pub returns-in-TplElement : goal.returns-in-TplElement
returns-in-TplElement c =
    c.is_bad_template.ensures
    ∙ template_fields c.args.fields.now c.index-fields-2-in-TplElement.result c.index-fields-3.result c.if-fields-eq4.true c.index-fields-2-in-TplElement.is c.index-fields-3.is
    ∙ ap (λ k. is_bad_leaf (Node-F.Tree k c.args.fields.now)) (sym c.in-TplElement.is)
