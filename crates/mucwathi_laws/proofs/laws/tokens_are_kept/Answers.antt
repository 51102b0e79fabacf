use Rattle.mucwathi_laws.proofs.Tokens.{tokens_are_kept}
use Rattle.mucwathi_laws.proofs.laws.tokens_are_kept.Goals as goal

pub returns : goal.returns
returns c =
    tokens_are_kept c.chaining_keeps_forms.ensures c.mangled_sources_keep_forms.ensures c.resolved_sources_have_their_form.ensures c.hygiene_stays_fitting.ensures c.short_names_keep_texts.ensures c.targets_stand_bare.ensures
    c.chains_keep_tokens.ensures
