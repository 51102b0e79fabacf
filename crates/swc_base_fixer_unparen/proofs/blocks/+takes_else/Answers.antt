use Rattle.std.proofs.Common.{false}
use Rattle.swc_tree_grammar.specs.Blocks.{takes_else}
use Rattle.swc_base_fixer_unparen.specs.Fields.{last_statement}
use Rattle.swc_tree_grammar.proofs.Fields.{by_field, by_none}
use Rattle.swc_base_fixer_unparen.proofs.Fields.{else_in_last, no_else}
use Rattle.swc_base_fixer_unparen.proofs.blocks.+takes_else.Goals as goal

pub returns-in-Some : goal.returns-in-Some
returns-in-Some t c =
    by_field takes_else last_statement else_in_last c.args.statement.now c.in-Tree.kind c.in-Tree.fields c.as_slice-fields.result.now c.in-Some.index c.index-fields-index.result c.takes_else.result
    c.in-Tree.is c.as_slice-fields.ensures c.in-Some.ensures.field c.index-fields-index.is c.takes_else.ensures

pub returns-in-None : goal.returns-in-None
returns-in-None t c = by_none takes_else last_statement false no_else c.args.statement.now c.in-Tree.kind c.in-Tree.fields c.as_slice-fields.result.now c.in-Tree.is c.as_slice-fields.ensures c.in-None.ensures.field
