use Rattle.std.proofs.Common.{false, sym, ap, ◌∙◌}
use Rattle.swc_tree_grammar.specs.Shapes.{items_of}
use Rattle.text_grammar.specs.Shaped.{is_default, no_second}
use Rattle.text_grammar.proofs.Seconds.{at_most_one_is}
use Rattle.text_grammar.proofs.parts.has_one_default.Goals as goal

pub returns : goal.returns
returns c = c.has_no_second.ensures ∙ ap (no_second is_default false) c.items.ensures ∙ sym (at_most_one_is is_default (items_of c.args.cases.now))
