use Rattle.std.proofs.Common.{rules}
use Rattle.std.proofs.lemmas.List.Sorted.{IsNonDecreasingBy-from_sort_by_key}
use Rattle.mucwathi_page.specs.declared.drawn.Use.{Use}
use Rattle.mucwathi_looks.proofs.PagedNaming.{are_uses}
use Rattle.mucwathi_looks.proofs.variables.uses_of.Goals as goal

pub returns : goal.returns
returns c =
    are_uses c.args.sites.now c.args.changes.now c.in_ok-numbers.numbers c.in_ok-news.news c.in_ok-uses.uses.items c.sort_by_key.new.self.items c.in_ok-numbers.ensures c.in_ok-news.ensures c.in_ok-uses.ensures c.in_ok-sort_by_key.ensures.permutation
    (IsNonDecreasingBy-from_sort_by_key (λ (u : Use). u.from) c.sort_by_key.new.self.items c.in_ok-sort_by_key.ensures.sorted (λ a r q k. search rules))
