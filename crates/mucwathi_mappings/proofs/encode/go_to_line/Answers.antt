use Rattle.std.proofs.Common.{◌≡◌, refl, ◌∙◌, arith}
use Rattle.mucwathi_mappings.proofs.Telling.{goes_further, goes_nowhere}
use Rattle.mucwathi_mappings.proofs.encode.go_to_line.Goals as goal

pub loop-at-init : goal.loop-at-init
loop-at-init c = (goes_nowhere c.args.told c.args.out.now.items, refl)

pub loop-at-preserved : goal.loop-at-preserved
loop-at-preserved c =
    (goes_further c.args.told c.loop-at.here c.loop-at.at c.args.out.now.items c.loop-at.out.items c.push.new.self.items c.loop-at.invariant.0 c.loop-at.invariant.1 c.in_ok-push.ensures.items, refl)

pub returns : goal.returns
returns c = let end : c.loop-at.at ≡ c.args.line = omega arith in (c.loop-at.invariant.0, c.loop-at.invariant.1 ∙ end)
