use Rattle.std.proofs.Common.{rules, sym, ◌∙◌}
use denote.Enum.Bare.{same_true}
use Rattle.text_lexer.specs.contracts.token.TemplatePart.{the_type}
use Rattle.text_follow.proofs.spell.same_part.Goals as goal

pub returns : goal.returns
returns c h = same_true the_type (search rules) _ _ (sym c.eq.ensures ∙ h)
