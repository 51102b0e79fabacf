-- What can reach a scope from blocks.
use Rattle.std.specs.Prelude.{Bool, ◌||◌}
use Rattle.std.specs.List.{list_any}
use Rattle.std.specs.BTreeMap.{values}
use Rattle.swc_base_resolver_program.specs.declared.names.Ways.{Ways}
use Rattle.swc_base_resolver_program.specs.declared.names.ScopeNames.{ScopeNames}

-- a name is bound by a variable or by a plain function of sloppy code in a block
abbrev pub can_reach : Ways → Bool
can_reach w = w.variable || w.sloppy_function

-- a scope takes such a name
abbrev pub takes_reaching : ScopeNames → Bool
takes_reaching s = list_any can_reach (values s.names)
