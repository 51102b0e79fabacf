use Rattle.std.proofs.Common.{subst, sym, ◌∙◌}
use Rattle.swc_tree_node.specs.declared.node.Node.{Node}
use Rattle.mucwathi_commands.specs.Written.{IsReadAs}
use Rattle.mucwathi_looks.proofs.given.give_text.Goals as goal

pub returns : goal.returns
returns c = record {
  read = subst (λ (t : Node). IsReadAs c.args.goal t c.args.text.now) (sym c.envelope_of.ensures.tree) c.in_ok-tree.ensures;
  own = c.envelope_of.ensures.own;
  table = c.envelope_of.ensures.globals ∙ c.in_ok-globals.ensures;
}
