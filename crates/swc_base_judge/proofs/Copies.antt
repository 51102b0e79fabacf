-- Programs, their copies, and what is said of these.
use Rattle.std.proofs.Common.{◌≡◌, Bool, Option, refl, subst}
use Rattle.swc_tree_node.specs.declared.kind.Class.TheVariants as class
use Rattle.swc_tree_node.specs.declared.node.Node.{Node}
use Rattle.swc_tree_node.specs.declared.slot.Content.TheVariants as content
use Rattle.swc_tree_node.specs.declared.slot.Slot.TheVariants as slot
use Rattle.swc_tree_node.specs.Fits.{Fits}
use Rattle.swc_tree_scoping.specs.WellScoped.{IsClean}
use Rattle.swc_base_alpha.specs.declared.verdict.Why.{Why}
use Rattle.swc_base_alpha.specs.Verdict.{IsCleanProgram, TellsWhy}

pub module_program : (t : Node) → Fits t (slot.One (content.Node class.Module)) → IsClean t → IsCleanProgram t
module_program t fits clean = record { goal = slot.One (content.Node class.Module); is_goal = refl; fits = fits; clean = clean }

pub script_program : (t : Node) → Fits t (slot.One (content.Node class.Script)) → IsClean t → IsCleanProgram t
script_program t fits clean = record { goal = slot.One (content.Node class.Script); is_goal = refl; fits = fits; clean = clean }

pub copies_told : (keep_top : Bool) (before after first second : Node) (o : Option Why) → first ≡ before → second ≡ after → TellsWhy keep_top first second o → TellsWhy keep_top before after o
copies_told keep_top before after first second o e f h = subst (λ s. TellsWhy keep_top before s o) f (subst (λ t. TellsWhy keep_top t second o) e h)
