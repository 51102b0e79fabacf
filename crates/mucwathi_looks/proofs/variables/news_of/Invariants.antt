use Rattle.std.proofs.Common.{take}
use Rattle.mucwathi_looks.specs.Numbered.{HasNews}
use Rattle.mucwathi_looks.proofs.variables.news_of.Given as goal

abbrev pub invariant-loop-change : goal.invariant-loop-change
invariant-loop-change l = HasNews (take l.change-index l.changes) l.news
