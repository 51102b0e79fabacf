use Rattle.std.proofs.Common.{◌≡◌, true, false, sym, ◌∙◌}
use Rattle.swc_base_early_errors.proofs.scripts.unplain_part.Goals as goal

pub returns-then-not-is_script : goal.returns-then-not-is_script
returns-then-not-is_script c = λ opens clean script. let z : false ≡ true = sym (sym c.is_script.ensures ∙ c.if-not-is_script.true) ∙ script in absurd (cc)
