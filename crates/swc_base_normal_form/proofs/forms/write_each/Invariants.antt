use Rattle.std.proofs.Common.{◌≡◌, ◌++◌, map, take, drop, length}
use Rattle.swc_base_normal_form.specs.Forms.{as_part}
use Rattle.swc_base_normal_form.proofs.forms.write_each.Given as goal

abbrev pub invariant-loop-i : goal.invariant-loop-i
invariant-loop-i l = record {
  long : length l.items ≡ length l.initial.items;
  written : l.items ≡ map (as_part l.part) (take l.i l.initial.items) ++ drop l.i l.initial.items;
}
