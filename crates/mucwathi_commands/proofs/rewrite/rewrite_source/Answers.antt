use Rattle.std.proofs.Common.{sym, ◌∙◌}
use Rattle.mucwathi_commands.proofs.rewrite.rewrite_source.Goals as goal

pub rewrite_anew-requires-clause-anew : goal.rewrite_anew-requires-clause-anew
rewrite_anew-requires-clause-anew c = sym c.layout.ensures ∙ c.in-Some.is

pub rewrite_in_place-requires-clause-kept : goal.rewrite_in_place-requires-clause-kept
rewrite_in_place-requires-clause-kept c = sym c.layout.ensures ∙ c.in-None.is
