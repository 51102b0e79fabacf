use Rattle.std.proofs.Common.{◌≡◌, map, take}
use Rattle.swc_base_tables_injection.specs.Brought.{require_of}
use Rattle.swc_base_tables_injection.proofs.brought.requires_of.Given as goal

abbrev pub invariant-loop-name : goal.invariant-loop-name
invariant-loop-name l = l.nodes ≡ map (require_of l.helper l.global) (take l.name-index l.names)
