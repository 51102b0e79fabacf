-- A version that was read is a program in which no identifier has a context, and so it is as it is compared.
use Rattle.std.proofs.Common.{IsTrue, Bool, true, false, refl}
use Rattle.swc_tree_node.specs.declared.node.Node.{Node}
use Rattle.swc_tree_node.specs.declared.slot.Content.TheVariants as content
use Rattle.swc_tree_node.specs.declared.slot.Slot.TheVariants as slot
use Rattle.swc_tree_node.specs.Fits.{Fits}
use Rattle.swc_tree_renaming.specs.Apart.{is_goal}
use Rattle.swc_base_alpha.specs.Verdict.{IsCleanProgram}
use Rattle.swc_base_plain_form.proofs.Fitting.{plain_fits}
use Rattle.swc_base_plain_form.proofs.Kept.{clean}
use Rattle.jsbase_form.specs.Known.{MarksKnown}
use Rattle.jsbase_reader.specs.Versions.{no_marks}
use Rattle.jsbase_programs.proofs.Clean.{is_clean}
use Rattle.jsbase_commands.specs.declared.arguments.Kind.{Kind}
use Rattle.jsbase_commands.specs.declared.arguments.Kind.TheVariants as kind
use Rattle.jsbase_commands.specs.Judge.{as_compared}
use Rattle.jsbase_commands.specs.Run.{class_of}

pub goal_of : (k : Kind) → IsTrue (is_goal (slot.One (content.Node (class_of k))))
goal_of kind.Module = refl
goal_of kind.Script = refl

pub clean_program : (k : Kind) (t : Node) → Fits t (slot.One (content.Node (class_of k))) → MarksKnown no_marks t → IsCleanProgram t
clean_program k t fits known = record { goal = slot.One (content.Node (class_of k)); is_goal = goal_of k; fits = fits; clean = is_clean t known }

pub clean_compared : (spelling : Bool) (t : Node) → IsCleanProgram t → IsCleanProgram (as_compared spelling t)
clean_compared true t h = h
clean_compared false t h = record { goal = h.goal; is_goal = h.is_goal; fits = plain_fits t h.goal h.fits; clean = clean t h.clean }
