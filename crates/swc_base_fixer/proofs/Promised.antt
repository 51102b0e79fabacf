-- The promises hold of every answer to a program.
use Rattle.std.proofs.Common.{◌≡◌, ℕ, Option, Some, None, List, refl, sym, ap, subst, ◌∙◌, rules}
use Rattle.swc_tree_marks.specs.declared.span.Span.{Span as Range}
use Rattle.swc_tree_node.specs.declared.kind.Kind.TheVariants as kind
use Rattle.swc_tree_node.specs.declared.kind.Class.TheVariants as class
use Rattle.swc_tree_node.specs.declared.slot.Content.TheVariants as content
use Rattle.swc_tree_node.specs.declared.slot.Slot.TheVariants as slot
use Rattle.swc_tree_node.specs.declared.node.Node.{Node, Span, List as Many}
use Rattle.swc_tree_node.specs.Fits.{Fits}
use Rattle.swc_tree_modules.specs.declared.module_.Module.{Module}
use Rattle.swc_tree_modules.specs.declared.script.Script.{Script}
use Rattle.swc_tree_modules.specs.Nodes.{module_node, script_node}
use Rattle.swc_tree_node.proofs.Fit.{tree_closes, fitting}
use Rattle.swc_tree_handle.specs.Handles.{optional_text}
use Rattle.swc_tree_grammar.specs.Pairs.{pairs}
use Rattle.swc_tree_grammar.specs.Fixed.{fixed, recorded}
use Rattle.swc_base_fixer_laws.proofs.BareStarts.{second_run_changes_nothing}
use Rattle.swc_base_fixer_laws.proofs.Fixed.{fixed_fits}
use Rattle.swc_base_fixer_laws.proofs.AgainLaws.{all_normal_form_stays, all_no_pair_in_pair, all_second_run_changes_spans, all_second_run_keeps_spans}
use Rattle.swc_base_fixer_needs.proofs.StartTrees.{fixed_is_needed}
use Rattle.swc_base_fixer_program.specs.Answers.{answer_to}
use Rattle.swc_base_fixer.specs.Promises.{AnswersKeepPromises, Promises}
use Rattle.swc_base_fixer.proofs.Programs.{program}
use Rattle.swc_base_fixer.proofs.Fixed.{module_answer, script_answer}

span_fits : (s : Range) → Fits (Span s) (slot.One content.Span)
span_fits s = search (rules, fitting)

text_fits : (x : Option (List ℕ)) → Fits (optional_text x) (slot.Optional content.Text)
text_fits None = search (rules, fitting)
text_fits (Some x) = search (rules, fitting)

module_fits : (s : Range) (body : Node) (shebang : Option (List ℕ)) → Fits body (slot.List (content.Node class.ModuleItem)) → Fits (program kind.Module s body shebang) (slot.One (content.Node class.Module))
module_fits s body shebang f = tree_closes kind.Module _ class.Module refl refl (span_fits s, (f, (text_fits shebang, tt)))

script_fits : (s : Range) (body : Node) (shebang : Option (List ℕ)) → Fits body (slot.List (content.Node class.Stmt)) → Fits (program kind.Script s body shebang) (slot.One (content.Node class.Script))
script_fits s body shebang f = tree_closes kind.Script _ class.Script refl refl (span_fits s, (f, (text_fits shebang, tt)))

pub answers_keep_promises : AnswersKeepPromises
unfolding answer_to
answers_keep_promises t s o f = record {
  writable = λ w. (fixed_fits (recorded (pairs t)) t s o f w).0;
  derived = λ w. (fixed_fits (recorded (pairs t)) t s o f w).1;
  needed = λ w. fixed_is_needed (recorded (pairs t)) t s o f w;
  normal_form = all_normal_form_stays (recorded (pairs t)) t s f;
  once = all_no_pair_in_pair (recorded (pairs t)) t s f;
  again = all_second_run_changes_spans (recorded (pairs t)) (recorded (pairs (fixed (recorded (pairs t)) t))) t s f;
  settled = λ b h. all_second_run_keeps_spans (recorded (pairs t)) t s o f b h;
  unchanged = λ w. second_run_changes_nothing (recorded (pairs t)) t s o f w;
}

pub module_promised : (m old : Module) (node body : Node) (after : List Node) → m ≡ old → node ≡ Many m.body → Fits node (slot.List (content.Node class.ModuleItem)) → Many after ≡ body → body ≡ answer_to node
    → Promises (module_node old) (module_node (record { span = m.span; body = after; shebang = m.shebang }))
module_promised m old node body after h e f g a = (
    let fits : Fits (Many m.body) (slot.List (content.Node class.ModuleItem)) = subst (λ t. Fits t (slot.List (content.Node class.ModuleItem))) e f in
    let answer : program kind.Module m.span (Many after) m.shebang ≡ answer_to (program kind.Module m.span (Many m.body) m.shebang) =
    ap (λ t. program kind.Module m.span t m.shebang) (g ∙ a ∙ ap (λ t. answer_to t) e) ∙ sym (module_answer m.span (Many m.body) m.shebang) in
    subst (λ old. Promises (module_node old) (program kind.Module m.span (Many after) m.shebang)) h
    (subst (λ u. Promises (program kind.Module m.span (Many m.body) m.shebang) u) (sym answer)
    (answers_keep_promises (program kind.Module m.span (Many m.body) m.shebang) (slot.One (content.Node class.Module)) refl (module_fits m.span (Many m.body) m.shebang fits))))

pub script_promised : (m old : Script) (node body : Node) (after : List Node) → m ≡ old → node ≡ Many m.body → Fits node (slot.List (content.Node class.Stmt)) → Many after ≡ body → body ≡ answer_to node
    → Promises (script_node old) (script_node (record { span = m.span; body = after; shebang = m.shebang }))
script_promised m old node body after h e f g a = (
    let fits : Fits (Many m.body) (slot.List (content.Node class.Stmt)) = subst (λ t. Fits t (slot.List (content.Node class.Stmt))) e f in
    let answer : program kind.Script m.span (Many after) m.shebang ≡ answer_to (program kind.Script m.span (Many m.body) m.shebang) =
    ap (λ t. program kind.Script m.span t m.shebang) (g ∙ a ∙ ap (λ t. answer_to t) e) ∙ sym (script_answer m.span (Many m.body) m.shebang) in
    subst (λ old. Promises (script_node old) (program kind.Script m.span (Many after) m.shebang)) h
    (subst (λ u. Promises (program kind.Script m.span (Many m.body) m.shebang) u) (sym answer)
    (answers_keep_promises (program kind.Script m.span (Many m.body) m.shebang) (slot.One (content.Node class.Script)) refl (script_fits m.span (Many m.body) m.shebang fits))))
