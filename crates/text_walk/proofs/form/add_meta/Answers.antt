use Rattle.std.proofs.Common.{◌≡◌, [], rules}
use Rattle.swc_tree_node.specs.declared.node.Node.{out-Node}
use Rattle.text_pieces.specs.Forms.{meta}
use Rattle.text_walk.proofs.Sinks.{stays}
use Rattle.text_walk.proofs.form.add_meta.Goals as goal

pub returns-in_default : goal.returns-in_default
returns-in_default c =
    let none : meta (out-Node c.args.node.now) ≡ [] = search rules in
    rw none (stays c.args.found.now)
