use Rattle.std.proofs.Common.{get_or, ap, ◌∙◌}
use Rattle.swc_base_fixer_due.specs.Record.{place_in}
use Rattle.swc_base_fixer_due.proofs.Heading.{head_back}
use Rattle.swc_base_fixer_due.proofs.heads.for_of.Goals as goal

pub returns : goal.returns
returns c =
    head_back (place_in c.args.recorded.now) c.args.fields.now _ c.set.new.self c.replace-left.result _ c.index-as_slice-1.result _ c.requires
    (c.index-as_slice-1.is ∙ ap (λ l. get_or l 1 c.index-as_slice-1.result) c.as_slice.ensures) c.holds-with_await.ensures c.replace-left.ensures.taken c.replace-left.ensures.list c.in_ok-left.ensures c.set.ensures
