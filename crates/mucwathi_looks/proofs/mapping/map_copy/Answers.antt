use Rattle.std.proofs.Common.{subst, sym}
use Rattle.std.proofs.lemmas.Result.{MatchResult-weaker}
use Rattle.swc_tree_node.specs.declared.node.Node.{Node}
use Rattle.mucwathi_order.proofs.Programs.{opens}
use Rattle.mucwathi_commands.specs.Written.{IsReadAs}
use Rattle.mucwathi_commands.proofs.Rewritten.{refused, unwritten}
use Rattle.mucwathi_passes.specs.Passes.{Makes}
use Rattle.mucwathi_looks.proofs.mapping.map_copy.Goals as goal

pub make-requires : goal.make-requires
make-requires c = opens c.args.order.now.goal c.args.copy (subst (λ (t : Node). IsReadAs c.args.order.now.goal t c.args.texts.read.now) (sym c.requires.same) c.requires.read).0.fits

pub returns-in-Ok : goal.returns-in-Ok
returns-in-Ok c =
    let made = subst (λ (t : Node). Makes c.args.order.now.command c.args.order.now.settings t c.in-Ok.answer) c.requires.same c.in-Ok.ensures in
    MatchResult-weaker c.map_answer.result c.map_answer.ensures
    (λ map h. record { source = c.args.source.now; answer = c.in-Ok.answer; read = c.requires.read; stands = c.requires.stands; made = made; tells = h })
    (unwritten c.args.order.now c.args.texts.read.now c.args.source.now c.requires.read c.in-Ok.answer made)

pub returns-in-Err : goal.returns-in-Err
returns-in-Err c =
    let read = subst (λ (t : Node). IsReadAs c.args.order.now.goal t c.args.texts.read.now) (sym c.requires.same) c.requires.read in
    refused c.args.order.now c.args.texts.read.now c.args.copy read c.in-Err.error c.in-Err.ensures
