-- What a renamer makes of a program fits where the program does.
use Rattle.std.proofs.Common.{false, IsTrue, refl, sym, subst}
use Rattle.swc_tree_node.specs.declared.kind.Class.TheVariants as class
use Rattle.swc_tree_node.specs.declared.slot.Content.TheVariants as content
use Rattle.swc_tree_node.specs.declared.slot.Slot.{Slot}
use Rattle.swc_tree_node.specs.declared.slot.Slot.TheVariants as slot
use Rattle.swc_tree_node.specs.Fits.{Fits, fits}
use Rattle.swc_tree_renaming.specs.Apart.{is_goal}
use Rattle.swc_base_rename_substitution.specs.Room.{has_room}
use Rattle.swc_base_rename_substitution.proofs.KeptFits.{substituted_fits}
use Rattle.swc_base_rename_laws.proofs.Impossible.{impossible}
use Rattle.swc_base_rename_program.specs.Renamed.{hygiene_renaming, new_id_by}
use Rattle.swc_base_rename_program.proofs.Fitting.{by_texts_fits}
use Rattle.swc_base_renaming_laws.specs.Hygiene.{HygieneStaysFitting, RenamingStaysFitting}
use Rattle.swc_base_renaming_laws.proofs.StaysWritable.{by_test, plain_names}

goal_room : (goal : Slot) → IsTrue (is_goal goal) → IsTrue (has_room goal)
goal_room (slot.One (content.Node class.Module)) g = refl
goal_room (slot.One (content.Node class.Script)) g = refl
goal_room _ g = impossible g

pub renaming_stays_fitting : RenamingStaysFitting
renaming_stays_fitting r table config goal before after g plain f (given, renamed, cleared) =
    let names = plain_names r table config before given plain renamed in
    let room = goal_room goal g in
    let whole = by_test r _ before given names (λ t. fits t goal) (λ s. substituted_fits (new_id_by names.new_texts) false before given s goal room f) in
    subst (λ t. Fits t goal) (sym cleared) (by_texts_fits given given (λ s room h. h) goal room whole)

pub hygiene_stays_fitting : HygieneStaysFitting
hygiene_stays_fitting table config goal before after = renaming_stays_fitting hygiene_renaming table config goal before after
