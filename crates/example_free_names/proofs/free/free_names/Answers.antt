use Rattle.std.proofs.Common.{◌∙◌, ap, map}
use Rattle.std.proofs.lemmas.Result.{IfOk-weaker}
use Rattle.swc_tree_walk.specs.Sites.{site_of}
use Rattle.example_free_names.specs.Free.{free_texts, once, text_of}
use Rattle.example_free_names.proofs.Each.{each_is_free}
use Rattle.example_free_names.proofs.free.free_names.Goals as goal

pub returns-clause-each : goal.returns-clause-each
returns-clause-each c x = IfOk-weaker c.names_among.result _ _
    (λ names is. each_is_free c.args.unresolved c.args.program.now (map text_of names.items)
    (is ∙ ap (λ l. once (free_texts c.args.unresolved (map site_of l))) c.as_slice.ensures.value ∙ ap (λ ss. once (free_texts c.args.unresolved ss)) c.in_ok-found.ensures.all) x)
    c.names_among.ensures
