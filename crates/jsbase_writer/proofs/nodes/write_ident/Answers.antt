use Rattle.std.proofs.Common.{[], ◌∷◌, ◌++◌, ap, ◌∙◌}
use Rattle.json.specs.Token.{string}
use Rattle.jsbase_form.specs.Writing.{numbers_json}
use Rattle.jsbase_writer.specs.Tokens.{tokens_of}
use Rattle.jsbase_writer.proofs.Tokens.{ident_written}
use Rattle.jsbase_writer.proofs.nodes.write_ident.Goals as goal

pub returns-clause-written : goal.returns-clause-written
returns-clause-written c =
    let marks = c.in_ok-write_marks.ensures.written ∙ ap (λ ns. c.key.new.self.tokens ++ tokens_of (numbers_json ns)) c.marks.ensures in
    let sym = c.in_ok-string.ensures.ok ∙ ap (λ s. c.key-3.new.self.tokens ++ string s ∷ []) c.as_str.ensures in
    let name = c.in_ok-string-2.ensures.ok ∙ ap (λ s. c.key-4.new.self.tokens ++ string s ∷ []) c.name_of.ensures in
    ident_written c.args.out.now.tokens _ _ _ _ _ _ _ _ _ _ c.args.kind c.args.ident.now c.in_ok-begin_object.ensures.ok c.in_ok-key.ensures.ok marks c.in_ok-key-2.ensures.ok
    c.in_ok-write_pair.ensures.written c.in_ok-key-3.ensures.ok sym c.in_ok-key-4.ensures.ok name c.in_ok-end_object.ensures.ok
