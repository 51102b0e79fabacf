use Rattle.std.proofs.Common.{sym, ◌∙◌}
use Rattle.text_checks.proofs.Bare.{bare_holds}
use Rattle.text_checks.proofs.walk.is_token.Goals as goal

pub returns-then-is_bare : goal.returns-then-is_bare
returns-then-is_bare c all =
    bare_holds c.args.fields.now (sym c.are_leaves.ensures ∙ all) c.args.asked c.args.kind c.requires c.if-asked.false c.if-asked-2.false (sym c.is_bare.ensures ∙ c.if-is_bare.true)
