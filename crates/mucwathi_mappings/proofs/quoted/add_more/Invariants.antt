use Rattle.std.proofs.Common.{◌≡◌, ◌++◌, map, take}
use Rattle.mucwathi_mappings.specs.Quoted.{quoted_more}
use Rattle.mucwathi_mappings.specs.Names.{text_of}
use Rattle.mucwathi_mappings.proofs.quoted.add_more.Given as goal

abbrev pub invariant-loop-text : goal.invariant-loop-text
invariant-loop-text l = l.out.items ≡ l.initial.out.items ++ quoted_more (map text_of (take l.text-index l.texts))
