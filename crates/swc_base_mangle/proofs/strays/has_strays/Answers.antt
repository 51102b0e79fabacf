use Rattle.std.proofs.Common.{◌≡◌, true, false, sym, ◌∙◌}
use Rattle.swc_base_mangle.proofs.strays.has_strays.Goals as goal

pub returns-then-not-is_script : goal.returns-then-not-is_script
returns-then-not-is_script c = (λ f. absurd (cc), λ h. let z : false ≡ true = sym (sym c.is_script.ensures ∙ c.if-not-is_script.true) ∙ h.0 in absurd (cc))
