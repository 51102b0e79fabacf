use Rattle.swc_tree_grammar.specs.Starts.{start}
use Rattle.text_derives.specs.Begin.{start_field}
use Rattle.swc_tree_grammar.proofs.Fields.{by_field}
use Rattle.text_derives.proofs.Begin.{start_in_field, start_by_none}
use Rattle.text_derives.proofs.start.+start_of.Goals as goal

pub returns-in-Some : goal.returns-in-Some
returns-in-Some t c =
    by_field start start_field start_in_field c.args.node.now c.in-Tree.kind c.in-Tree.fields c.as_slice-fields.result.now c.in-Some.index c.index-fields-index.result _
    c.in-Tree.is c.as_slice-fields.ensures c.in-Some.ensures.field c.index-fields-index.is c.start_of-in-Some.ensures

pub returns-in-None : goal.returns-in-None
returns-in-None t c =
    start_by_none c.args.node.now c.in-Tree.kind c.in-Tree.fields c.as_slice-fields.result.now _ c.in-Tree.is c.as_slice-fields.ensures c.in-None.ensures.field c.own_start.ensures
