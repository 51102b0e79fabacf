use Rattle.std.proofs.Common.{refl, arith, ◌∙◌}
use Rattle.swc_base_tables_settings.specs.Assumptions.{keys}
use Rattle.swc_base_tables_settings.proofs.Members.{put_before}
use Rattle.swc_base_tables_settings.proofs.assumptions.members_of.Goals as goal

pub loop-place-init : goal.loop-place-init
unfolding keys
loop-place-init c = (omega arith, rw c.new-members.ensures.empty refl)

pub loop-place-preserved : goal.loop-place-preserved
loop-place-preserved c =
    let (within, written) = c.loop-place.invariant in
    (omega arith, c.in_ok-put_flag.ensures ∙ rw (c.key_at.ensures, written) (put_before c.loop-place.place c.args.flags.now (omega arith) within c.told-flags))
