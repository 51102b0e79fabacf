use Rattle.std.proofs.Common.{◌≡◌, drop}
use Rattle.swc_tree_scoping.specs.Places.{has_use_strict}
use Rattle.text_derives.proofs.form.has_use_strict.Given as goal

abbrev pub invariant-loop-statement : goal.invariant-loop-statement
invariant-loop-statement l = has_use_strict l.statements ≡ has_use_strict (drop l.statement-index l.statements)
