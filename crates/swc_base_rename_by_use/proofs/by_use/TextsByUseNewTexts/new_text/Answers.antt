use Rattle.std.proofs.Common.{◌∙◌, ap}
use Rattle.swc_base_rename_by_use.specs.ShortTexts.{short_text}
use Rattle.swc_base_rename_by_use.specs.ByUse.{moved}
use Rattle.swc_base_rename_by_use.proofs.by_use.TextsByUseNewTexts.new_text.Goals as goal

pub returns-clause-made : goal.returns-clause-made
returns-clause-made c = c.in_ok-text.ensures ∙ ap short_text (c.moved.ensures ∙ ap (λ first. moved first c.args.n.now) c.own.ensures)
