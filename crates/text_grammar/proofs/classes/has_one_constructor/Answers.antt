use Rattle.std.proofs.Common.{false, sym, ap, ◌∙◌}
use Rattle.swc_tree_grammar.specs.Shapes.{items_of}
use Rattle.text_grammar.specs.Shaped.{is_constructor, no_second}
use Rattle.text_grammar.proofs.Seconds.{at_most_one_is}
use Rattle.text_grammar.proofs.classes.has_one_constructor.Goals as goal

pub returns : goal.returns
returns c = c.has_no_second.ensures ∙ ap (no_second is_constructor false) c.items.ensures ∙ sym (at_most_one_is is_constructor (items_of c.args.body.now))
