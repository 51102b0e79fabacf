use Rattle.std.proofs.Common.{◌≡◌, ◌∙◌, ap, true}
use Rattle.std.specs.Prelude.{fold}
use Rattle.clap.specs.Simple.{app_of_fields}
use Rattle.clap.specs.Words.{App, app_of, with_subcommand}
use Rattle.mucwathi_arguments.specs.Offered.{commands, unoffered}
use Rattle.mucwathi_arguments.proofs.Rules.{offers_done, offers_more}
use Rattle.mucwathi_arguments.proofs.offers.program.Goals as goal

pub loop-offer-preserved : goal.loop-offer-preserved
loop-offer-preserved c =
    let l = c.loop-offer in
    let made = c.in_ok-parser.ensures.shape c.in_ok-command.ensures.local ∙ ap (with_subcommand (app_of l.parser)) c.in_ok-command.ensures.shape in
    offers_more _ (app_of l.parser) _ _ l.offer-index _ c.loop-offer-test.true made l.invariant

pub returns : goal.returns
returns c =
    let l = c.loop-offer in
    let whole : app_of l.parser ≡ fold with_subcommand (app_of c.arg_required_else_help-parser.result) commands = offers_done _ (app_of l.parser) _ l.offer-index c.loop-offer-test.false l.invariant in
    let versioned = ap app_of_fields c.version.ensures ∙ ap (λ (a : App). record a { top = record a.top { has_version = true } }) c.new.ensures.app in
    let told = ap app_of_fields c.about.ensures ∙ versioned in
    let required = ap app_of_fields c.subcommand_required.ensures ∙ ap (λ (a : App). record a { top = record a.top { subcommand_required = true } }) told in
    let begun : app_of c.arg_required_else_help-parser.result ≡ unoffered = ap app_of_fields c.arg_required_else_help-parser.ensures ∙ ap (λ (a : App). record a { top = record a.top { arg_required_else_help = true } }) required in
    whole ∙ ap (λ (a : App). fold with_subcommand a commands) begun
