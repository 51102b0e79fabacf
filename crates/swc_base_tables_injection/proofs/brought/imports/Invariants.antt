use Rattle.std.proofs.Common.{◌≡◌, map, take}
use Rattle.swc_base_tables_injection.specs.Brought.{import_of}
use Rattle.swc_base_tables_injection.proofs.brought.imports.Given as goal

abbrev pub invariant-loop-name : goal.invariant-loop-name
invariant-loop-name l = l.nodes ≡ map (import_of l.helper) (take l.name-index l.names)
