use Rattle.std.proofs.Common.{map, take}
use Rattle.mucwathi_lists.specs.Changed.{HasTexts, seen}
use Rattle.mucwathi_lists.proofs.changes.texts_by_place.Given as goal

abbrev pub invariant-loop-old : goal.invariant-loop-old
invariant-loop-old l = HasTexts (map seen (take l.old-index l.olds)) l.texts
