use Rattle.std.proofs.Common.{subst, sym}
use Rattle.text_parser.specs.declared.programs.Goal.TheVariants as variant
use Rattle.text_checks.specs.Checked.{IsWellFormed}
use Rattle.text_checks.specs.Pinned.{IsPinned}
use Rattle.text_source.specs.Texts.{IsTextOf, SpansAreOf, slot_of}
use Rattle.text_spans.specs.Leaves.{LeavesStand}
use Rattle.text_modules.proofs.read.read_script.Goals as goal

pub from_node-requires : goal.from_node-requires
from_node-requires c = c.in-Ok.ensures.tree.fits

pub returns-in-Ok-clause-tree : goal.returns-in-Ok-clause-tree
returns-in-Ok-clause-tree c = subst (λ t. IsTextOf variant.Script t c.args.text.now) (sym c.from_node.ensures) c.in-Ok.ensures.tree

pub returns-in-Ok-clause-formed : goal.returns-in-Ok-clause-formed
returns-in-Ok-clause-formed c = subst (IsWellFormed (slot_of variant.Script)) (sym c.from_node.ensures) c.in-Ok.ensures.formed

pub returns-in-Ok-clause-leaves : goal.returns-in-Ok-clause-leaves
returns-in-Ok-clause-leaves c = subst (LeavesStand c.args.text.now) (sym c.from_node.ensures) c.in-Ok.ensures.leaves

pub returns-in-Ok-clause-spans : goal.returns-in-Ok-clause-spans
returns-in-Ok-clause-spans c = subst (λ t. SpansAreOf variant.Script t c.args.text.now) (sym c.from_node.ensures) c.in-Ok.ensures.spans

pub returns-in-Ok-clause-pinned : goal.returns-in-Ok-clause-pinned
returns-in-Ok-clause-pinned c = subst IsPinned (sym c.from_node.ensures) c.in-Ok.ensures.pinned
