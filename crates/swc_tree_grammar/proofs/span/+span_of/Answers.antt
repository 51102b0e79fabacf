use Rattle.swc_tree_grammar.specs.Blocks.{span_of, no_span}
use Rattle.swc_tree_grammar.specs.Spans.{span_field}
use Rattle.swc_tree_grammar.proofs.Fields.{by_field, by_none, span_in_field, no_span_field}
use Rattle.swc_tree_grammar.proofs.span.+span_of.Goals as goal

pub returns-in-Some : goal.returns-in-Some
returns-in-Some t c =
    by_field span_of span_field span_in_field c.args.node.now c.in-Tree.kind c.in-Tree.fields c.as_slice-fields.result.now c.in-Some.index c.index-fields-index.result c.span_of.result
    c.in-Tree.is c.as_slice-fields.ensures c.in-Some.ensures.field c.index-fields-index.is c.span_of.ensures

pub returns-in-None : goal.returns-in-None
returns-in-None t c = by_none span_of span_field no_span no_span_field c.args.node.now c.in-Tree.kind c.in-Tree.fields c.as_slice-fields.result.now c.in-Tree.is c.as_slice-fields.ensures c.in-None.ensures.field
