use Rattle.std.proofs.Common.{◌∙◌, ap}
use Rattle.swc_tree_marks.specs.declared.ident.Ident.{Ident}
use Rattle.swc_tree_node.specs.declared.node.Node.{Identifier, Span}
use Rattle.swc_tree_scoping.specs.Shorthands.{key_of}
use Rattle.swc_tree_grammar.specs.Normal.{with_default}
use Rattle.swc_base_normal_form.proofs.Fields.{shorthand_written}
use Rattle.swc_base_normal_form.proofs.patterns.pattern_property.Goals as goal

pub returns-in_ok-node-in-Identifier : goal.returns-in_ok-node-in-Identifier
returns-in_ok-node-in-Identifier c =
    shorthand_written c.args.fields c.replace.new.self c.in-Identifier.kind c.in-Identifier.name c.replace.result c.replace-value.result c.in_ok-key-in-Identifier.key c.in_ok-target-in-Identifier.target c.in_ok-node-in-Identifier.node
    c.requires c.replace.ensures.taken c.replace.ensures.list c.in-Identifier.is c.replace-value.ensures.taken (c.in_ok-key-in-Identifier.ensures ∙ ap key_of c.get-in-Identifier.ensures)
    (c.in_ok-target-in-Identifier.ensures ∙ ap (λ (i : Ident). with_default (Span i.span) (Identifier c.in-Identifier.kind c.in-Identifier.name) c.replace-value.result) c.get.ensures) c.in_ok-node-in-Identifier.ensures
