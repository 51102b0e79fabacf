use Rattle.std.proofs.Common.{◌∙◌, ◌||◌, ap, ap₂, map, arith}
use Rattle.clap.specs.Words.{app_of, with_rule}
use Rattle.mucwathi_arguments.specs.Rules.{rule_for, with_rules}
use Rattle.mucwathi_arguments.proofs.Rules.{choices_done, choices_more}
use Rattle.mucwathi_arguments.proofs.offers.with_choices.Goals as goal

pub loop-choice-preserved : goal.loop-choice-preserved
loop-choice-preserved c =
    let l = c.loop-choice in
    let made = c.in_ok-parser.ensures.shape c.in_ok-option.ensures.local ∙ ap (with_rule (app_of l.parser)) c.in_ok-option.ensures.rule in (
      choices_more _ (app_of l.parser) _ c.args.choices.now l.choice-index _ c.loop-choice-test.true made l.invariant.0,
      λ local. c.in_ok-parser.ensures.globals ∙ ap₂ (λ x y. x || y) (l.invariant.1 local) c.in_ok-option.ensures.local,
    )

pub returns-clause-app : goal.returns-clause-app
returns-clause-app c =
    let l = c.loop-choice in
    choices_done (with_rules (app_of c.args.parser) (map rule_for c.args.choices.now)) (app_of l.parser) c.args.choices.now l.choice-index (omega arith) l.invariant.0

pub returns-clause-local : goal.returns-clause-local
returns-clause-local c local = c.loop-choice.invariant.1 local
