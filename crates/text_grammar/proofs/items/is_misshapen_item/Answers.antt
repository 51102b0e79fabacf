use Rattle.std.proofs.Common.{not, sym, ap, ◌∙◌}
use Rattle.swc_tree_node.specs.declared.node.Node.TheOpen.{Node-F}
use Rattle.text_grammar.specs.Shaped.{is_export, is_misshapen_item}
use Rattle.text_grammar.proofs.Fields.{export_fields}
use Rattle.text_grammar.proofs.items.is_misshapen_item.Goals as goal

pub returns-in-NamedExport : goal.returns-in-NamedExport
returns-in-NamedExport c =
    ap not (c.is_export.ensures ∙ ap (λ s. is_export s c.index-fields-2-in-NamedExport.result c.index-fields-3.result) c.items-in-NamedExport.ensures)
    ∙ export_fields c.args.fields.now c.index-fields-1-in-NamedExport.result c.index-fields-2-in-NamedExport.result c.index-fields-3.result
    c.if-fields-eq4-2.true c.index-fields-1-in-NamedExport.is c.index-fields-2-in-NamedExport.is c.index-fields-3.is
    ∙ ap (λ k. is_misshapen_item (Node-F.Tree k c.args.fields.now)) (sym c.in-NamedExport.is)
