use Rattle.std.proofs.Common.{◌≡◌, ◌∙◌, ap, rules, arith}
use Rattle.clap.specs.Simple.{app_of_fields}
use Rattle.clap.specs.Words.{App, app_of, new_app}
use Rattle.mucwathi_arguments.specs.Rules.{rules_in, with_rules}
use Rattle.mucwathi_arguments.proofs.Rules.{tables_done, tables_more}
use Rattle.mucwathi_arguments.proofs.offers.parser_of.Goals as goal

pub loop-choices-preserved : goal.loop-choices-preserved
loop-choices-preserved c =
    let l = c.loop-choices in (
      tables_more _ (app_of l.parser) _ c.args.offer.now.choices.now l.choices-index _ c.loop-choices-test.true c.in_ok-parser.ensures.app l.invariant.0,
      λ local. c.in_ok-parser.ensures.local (l.invariant.1 local),
    )

pub returns-clause-shape : goal.returns-clause-shape
returns-clause-shape c =
    let l = c.loop-choices in
    let begun : app_of c.after_help-parser.result ≡ new_app c.args.offer.now.name.now = ap app_of_fields c.after_help-parser.ensures ∙ ap app_of_fields c.about.ensures ∙ c.new.ensures.app in
    let rules = rules_in c.args.offer.now.choices.now in
    ap (λ (a : App). a.top) (tables_done _ (app_of l.parser) c.args.offer.now.choices.now l.choices-index (omega arith) l.invariant.0 ∙ ap (λ (a : App). with_rules a rules) begun)

pub returns-clause-local : goal.returns-clause-local
returns-clause-local c = c.loop-choices.invariant.1 (search rules)
