use Rattle.std.proofs.Common.{sym}
use Rattle.swc_tree_marks.proofs.Search.{recorded-known, recorded-unknown}
use Rattle.swc_tree_marks.proofs.globals.recorded_parent.Goals as goal

pub returns-then-is_known : goal.returns-then-is_known
returns-then-is_known c = sym (recorded-known c.args.table.now c.args.parent (c.is_known.ensures.0 c.if-is_known.true))

pub returns-else-is_known : goal.returns-else-is_known
returns-else-is_known c = sym (recorded-unknown c.args.table.now c.args.parent (λ known. let told = c.is_known.ensures.1 known in cc))
