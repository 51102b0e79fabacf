use Rattle.std.proofs.Common.{subst, sym}
use Rattle.std.proofs.lemmas.Result.{MatchResult-weaker}
use Rattle.mucwathi_given.specs.Given.{IsReady}
use Rattle.mucwathi_looks.proofs.Ready.{settings_ready}
use Rattle.mucwathi_looks.proofs.Unread.{unwritten_made}
use Rattle.mucwathi_looks.proofs.Writing.{remade}
use Rattle.mucwathi_looks.proofs.write.rewrite.Goals as goal

pub make-requires : goal.make-requires
make-requires c = subst IsReady (sym c.with_settings-given.ensures) (settings_ready c.args.order.now.settings c.args.program c.requires)

pub returns : goal.returns
returns c =
    MatchResult-weaker c.write.result c.write.ensures
    (λ out h. remade c.args.order.now c.args.program c.with_settings-given.result c.in_ok-made.made c.in_ok-source.source c.args.text.now out.items c.with_settings-given.ensures c.in_ok-made.ensures c.in_ok-source.ensures h)
    (unwritten_made c.args.order.now c.args.program c.with_settings-given.result c.in_ok-made.made c.with_settings-given.ensures c.in_ok-made.ensures)
