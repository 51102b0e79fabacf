use Rattle.std.proofs.Common.{◌≡◌, length}
use Rattle.swc_base_resolver_program.specs.Walks.{Gains, HasMembers}
use Rattle.swc_base_resolver_program.proofs.collect.add_members.Given as goal

abbrev pub invariant-loop-i : goal.invariant-loop-i
invariant-loop-i l = record {
  size : length l.tables.items ≡ length l.initial.tables.items;
  tables : Gains l.initial.tables.items l.tables.items (HasMembers l.number l.members l.i);
}
