use Rattle.std.proofs.Common.{◌≡◌, ℕ, true, false, IsTrue, ◌∙◌, refl}
use Rattle.swc_tree_marks.specs.Globals.{Table}
use Rattle.swc_tree_node.specs.declared.kind.Kind.TheVariants as kind
use Rattle.swc_tree_node.specs.declared.kind.Class.TheVariants as class
use Rattle.swc_tree_node.specs.declared.slot.Content.TheVariants as content
use Rattle.swc_tree_node.specs.declared.slot.Slot.{Slot}
use Rattle.swc_tree_node.specs.declared.slot.Slot.TheVariants as slot
use Rattle.swc_tree_node.specs.declared.node.Node.{Node}
use Rattle.swc_tree_node.specs.Fits.{Fits}
use Rattle.swc_tree_scoping.specs.Resolved.{Resolved}
use Rattle.swc_tree_scoping.specs.WellScoped.{IsClean, NoEarlyErrorOfNames, WellScoped}
use Rattle.swc_tree_spaces.specs.NoTypes.{NoNamespaces, NoTypes}
use Rattle.swc_tree_renaming.specs.Apart.{IsPlainIfScript, is_goal}
use Rattle.swc_tree_renaming.proofs.Global.{fits_module, plain_if_module}
use Rattle.swc_base_resolver_program.specs.Marked.{MarksOk}
use Rattle.swc_base_resolver_laws.specs.Laws.{CleanProgramsBecomeWellScoped, ListsAreItemsWithoutNamespaces}
use Rattle.swc_base_resolver.proofs.Extended.{with_fresh_marks-extended}
use Rattle.swc_base_resolver.proofs.Opens.{opens}
use Rattle.swc_base_resolver.proofs.pass.resolve.Goals as goal

pub returns-in_err-answer-clause-marks : goal.returns-in_err-answer-clause-marks
returns-in_err-answer-clause-marks c =
    let gained = c.resolve_program.ensures.table in
    let more = with_fresh_marks-extended c.args.globals.now c.args.top gained.0 in
    (more.0, gained.2 ∙ more.1)

pub returns-clause-marks : goal.returns-clause-marks
returns-clause-marks c =
    let gained = c.resolve_program.ensures.table in
    let more = with_fresh_marks-extended c.args.globals.now c.args.top gained.0 in
    (more.0, gained.2 ∙ more.1)

no_namespaces : (t : Node) → NoTypes t → NoNamespaces t
no_namespaces t none p w ts h = let z : true ≡ false = none p w kind.TsModuleDecl ts h in absurd (cc)

well_scoped : CleanProgramsBecomeWellScoped → ListsAreItemsWithoutNamespaces → (place : Slot) (t u : Node) (unresolved top : ℕ) (old new : Table) → IsTrue (is_goal place) → Fits t place → IsPlainIfScript t → NoTypes t
    → IsClean t → NoEarlyErrorOfNames t → MarksOk old unresolved top → Resolved unresolved top old new t u → WellScoped u
well_scoped becomes lists place t u unresolved top old new program fits plain none clean fair ok resolved =
    becomes place t u unresolved top old new program fits plain (lists place t program fits (no_namespaces t none)) clean fair ok.0.1 resolved

pub returns-clause-done : goal.returns-clause-done
returns-clause-done c =
    let t = c.args.program in
    let u = c.in_ok-answer.answer in
    let resolved = λ (none : NoTypes c.args.program). c.in_ok-answer.ensures.by_values none (opens c.args.program c.requires) in
    let becomes = c.clean_programs_become_well_scoped.ensures in
    let lists = c.lists_are_items_without_namespaces.ensures in
    record {
      resolved = c.in_ok-answer.ensures.resolved (opens c.args.program c.requires);
      by_values = resolved;
      well_scoped = λ none ok fits clean fair.
          well_scoped becomes lists (slot.One (content.Node class.Module)) t u c.args.unresolved c.args.top c.args.globals.now c.resolve_program.new.globals refl fits (plain_if_module t (fits_module t fits)) none clean fair ok (resolved none ok);
      script_well_scoped = λ none ok fits plain clean fair.
          well_scoped becomes lists (slot.One (content.Node class.Script)) t u c.args.unresolved c.args.top c.args.globals.now c.resolve_program.new.globals refl fits (λ s. plain) none clean fair ok (resolved none ok);
      contexts = c.in_ok-answer.ensures.contexts;
      same = refl;
      table = c.in_ok-answer.ensures.gained;
    }
