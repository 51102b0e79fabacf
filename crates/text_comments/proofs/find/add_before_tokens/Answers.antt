use Rattle.std.proofs.Common.{◌≡◌, suc, ◌+◌, ◌-◌, length, refl, arith}
use Rattle.text_comments.specs.Comments.{before_tokens}
use Rattle.text_comments.proofs.Walks.{added, stopped, tokens_end, tokens_more, tokens_stop}
use Rattle.text_comments.proofs.find.add_before_tokens.Goals as goal

pub returns-then-left-rest : goal.returns-then-left-rest
returns-then-left-rest c =
    let l = c.tokens in
    let more : length c.args.text.now - l.turn ≡ suc (length c.args.text.now - (l.turn + 1)) = omega arith in
    stopped l.found.items c.args.found.now.items _ (before_tokens (length c.args.text.now) c.args.source.comments c.args.goal c.args.source.whole.now c.args.fresh c.args.text.now c.args.rest.now) (tokens_stop _ _ c.args.source.comments c.args.goal c.args.source.whole.now l.first l.left.now c.args.rest.now more (omega arith)) l.invariant

pub tokens-preserved : goal.tokens-preserved
tokens-preserved c =
    let l = c.tokens in
    let more : length c.args.text.now - l.turn ≡ suc (length c.args.text.now - (l.turn + 1)) = omega arith in
    added l.found.items c.args.found.now.items _ (before_tokens (length c.args.text.now) c.args.source.comments c.args.goal c.args.source.whole.now c.args.fresh c.args.text.now c.args.rest.now) c.add_before_token.new.found.items _ _ c.in_ok-add_before_token.ensures (tokens_more _ _ c.args.source.comments c.args.goal c.args.source.whole.now l.first l.left.now c.args.rest.now c.behind_token-behind.result.now more (omega arith) c.behind_token-behind.ensures) l.invariant

pub returns : goal.returns
returns c =
    let l = c.tokens in
    let none : length c.args.text.now - l.turn ≡ 0 = omega arith in
    stopped l.found.items c.args.found.now.items _ (before_tokens (length c.args.text.now) c.args.source.comments c.args.goal c.args.source.whole.now c.args.fresh c.args.text.now c.args.rest.now) (tokens_end _ c.args.source.comments c.args.goal c.args.source.whole.now l.first l.left.now c.args.rest.now none) l.invariant
