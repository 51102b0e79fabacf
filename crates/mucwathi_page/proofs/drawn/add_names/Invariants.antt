use Rattle.std.proofs.Common.{◌≡◌, ◌≤◌, ◌++◌, length, drop, take, All}
use Rattle.mucwathi_page.specs.Drawn.{EndsNoTag, drawn}
use Rattle.mucwathi_page.proofs.drawn.add_names.Given as goal

abbrev pub invariant-loop-each : goal.invariant-loop-each
invariant-loop-each l = record {
  within : l.from ≤ length l.text;
  rest : l.out.items ++ drawn l.text l.from (drop l.each-index l.uses) ≡ l.initial.out.items ++ drawn l.text 0 l.uses;
  inside : All EndsNoTag (take l.each-index l.uses);
}
