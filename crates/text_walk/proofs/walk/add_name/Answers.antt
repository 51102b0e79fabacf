use Rattle.std.proofs.Common.{Some, [], ◌∷◌, refl, subst}
use Rattle.text_pieces.specs.Tokens.{name}
use Rattle.text_walk.specs.Sinks.{Gains}
use Rattle.text_walk.proofs.Gained.{in_frame}
use Rattle.text_walk.proofs.Sinks.{then}
use Rattle.text_walk.proofs.walk.add_name.Goals as goal

pub returns : goal.returns
returns c =
    then c.push_stopped.result
    (λ last. in_frame c.args.framed (Some c.args.ident.now.span) (Some c.args.ident.now.span) (Some c.args.ident.now.span) (name c.args.ident.now.sym ∷ []) c.args.found.now c.push_begun.new.found c.push_name-2.new.found c.push_stopped.new.found
    c.if-not-framed.false refl refl c.in_ok-push_begun.ensures (subst (λ a. Gains c.push_begun.new.found (name a ∷ []) c.push_name-2.new.found) c.as_str-2.ensures c.in_ok-push_name.ensures) last)
    c.push_stopped.ensures
