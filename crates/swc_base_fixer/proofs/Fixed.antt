-- What setting parentheses anew says of a program, by its items.
use Rattle.std.proofs.Common.{◌≡◌, ◌↔◌, ℕ, Bool, true, false, IsTrue, Result, Ok, Err, IfOk, IsErrAnd, Option, Some, None, List, refl, sym, ap, subst, ◌∙◌, rules}
use Rattle.swc_tree_marks.specs.declared.span.Span.{Span as Range}
use Rattle.swc_tree_marks.specs.declared.error.PassError.{PassError}
use Rattle.swc_tree_marks.specs.declared.error.PassError.TheVariants as pass
use Rattle.swc_tree_node.specs.declared.kind.Kind.TheVariants as kind
use Rattle.swc_tree_node.specs.declared.node.Node.{Node, the_lemmas}
use Rattle.swc_tree_node.specs.declared.slot.Slot.{Slot}
use Rattle.swc_tree_node.specs.Fits.{Fits}
use Rattle.swc_tree_grammar.specs.Blocks.{with_blocks}
use Rattle.swc_tree_grammar.specs.Places.{is_open}
use Rattle.swc_tree_grammar.specs.Targets.{all_bare}
use Rattle.swc_tree_grammar.proofs.BlocksKept.{unparened_fits}
use Rattle.swc_base_fixer_laws.proofs.Answer.{due_fits}
use Rattle.swc_tree_grammar.specs.Stripped.{stripped}
use Rattle.swc_tree_grammar.specs.Pairs.{pairs}
use Rattle.swc_tree_grammar.specs.Due.{Places, paired_by_level, paired_in_heads, paired_at_starts, with_due_pairs}
use Rattle.swc_tree_grammar.specs.Fixed.{fixed, recorded}
use Rattle.swc_base_fixer_program.specs.Answers.{answer_to, moves_for}
use Rattle.swc_base_fixer.proofs.Programs.{program, module_unparened, script_unparened, module_found, script_found}

module_levels : (p : Places) (s : Range) (body : Node) (shebang : Option (List ℕ)) → paired_by_level p (program kind.Module s body shebang) ≡ program kind.Module s (paired_by_level p body) shebang
module_levels p s body None = search (rules, the_lemmas)
module_levels p s body (Some x) = search (rules, the_lemmas)

module_heads : (p : Places) (s : Range) (body : Node) (shebang : Option (List ℕ)) → paired_in_heads p (program kind.Module s body shebang) ≡ program kind.Module s (paired_in_heads p body) shebang
module_heads p s body None = search (rules, the_lemmas)
module_heads p s body (Some x) = search (rules, the_lemmas)

module_starts : (p : Places) (s : Range) (body : Node) (shebang : Option (List ℕ)) → paired_at_starts p (program kind.Module s body shebang) ≡ program kind.Module s (paired_at_starts p body) shebang
module_starts p s body None = search (rules, the_lemmas)
module_starts p s body (Some x) = search (rules, the_lemmas)

module_due : (p : Places) (s : Range) (body : Node) (shebang : Option (List ℕ)) → with_due_pairs p (program kind.Module s body shebang) ≡ program kind.Module s (with_due_pairs p body) shebang
module_due p s body shebang =
    ap (λ t. paired_at_starts p (paired_in_heads p t)) (module_levels p s body shebang) ∙ ap (λ t. paired_at_starts p t) (module_heads p s (paired_by_level p body) shebang)
    ∙ module_starts p s (paired_in_heads p (paired_by_level p body)) shebang

pub module_answer : (s : Range) (body : Node) (shebang : Option (List ℕ)) → answer_to (program kind.Module s body shebang) ≡ program kind.Module s (answer_to body) shebang
unfolding answer_to
module_answer s body shebang =
    ap (λ ps. fixed (recorded ps) (program kind.Module s body shebang)) (module_found s body shebang) ∙ ap (λ t. with_due_pairs (recorded (pairs body)) t) (module_unparened s body shebang)
    ∙ module_due (recorded (pairs body)) s (with_blocks (stripped body)) shebang

pub module_moves_for : (s : Range) (body : Node) (shebang : Option (List ℕ)) → moves_for (program kind.Module s body shebang) ≡ moves_for body
unfolding moves_for
module_moves_for s body shebang = rw (module_answer s body shebang, module_found s body shebang, module_found s (answer_to body) shebang) refl

script_levels : (p : Places) (s : Range) (body : Node) (shebang : Option (List ℕ)) → paired_by_level p (program kind.Script s body shebang) ≡ program kind.Script s (paired_by_level p body) shebang
script_levels p s body None = search (rules, the_lemmas)
script_levels p s body (Some x) = search (rules, the_lemmas)

script_heads : (p : Places) (s : Range) (body : Node) (shebang : Option (List ℕ)) → paired_in_heads p (program kind.Script s body shebang) ≡ program kind.Script s (paired_in_heads p body) shebang
script_heads p s body None = search (rules, the_lemmas)
script_heads p s body (Some x) = search (rules, the_lemmas)

script_starts : (p : Places) (s : Range) (body : Node) (shebang : Option (List ℕ)) → paired_at_starts p (program kind.Script s body shebang) ≡ program kind.Script s (paired_at_starts p body) shebang
script_starts p s body None = search (rules, the_lemmas)
script_starts p s body (Some x) = search (rules, the_lemmas)

script_due : (p : Places) (s : Range) (body : Node) (shebang : Option (List ℕ)) → with_due_pairs p (program kind.Script s body shebang) ≡ program kind.Script s (with_due_pairs p body) shebang
script_due p s body shebang =
    ap (λ t. paired_at_starts p (paired_in_heads p t)) (script_levels p s body shebang) ∙ ap (λ t. paired_at_starts p t) (script_heads p s (paired_by_level p body) shebang)
    ∙ script_starts p s (paired_in_heads p (paired_by_level p body)) shebang

pub script_answer : (s : Range) (body : Node) (shebang : Option (List ℕ)) → answer_to (program kind.Script s body shebang) ≡ program kind.Script s (answer_to body) shebang
unfolding answer_to
script_answer s body shebang =
    ap (λ ps. fixed (recorded ps) (program kind.Script s body shebang)) (script_found s body shebang) ∙ ap (λ t. with_due_pairs (recorded (pairs body)) t) (script_unparened s body shebang)
    ∙ script_due (recorded (pairs body)) s (with_blocks (stripped body)) shebang

pub script_moves_for : (s : Range) (body : Node) (shebang : Option (List ℕ)) → moves_for (program kind.Script s body shebang) ≡ moves_for body
unfolding moves_for
script_moves_for s body shebang = rw (script_answer s body shebang, script_found s body shebang, script_found s (answer_to body) shebang) refl

-- the answer fits where the program did
pub answer_fits : (t u : Node) (s : Slot) → all_bare t ≡ true → u ≡ answer_to t → IsTrue (is_open s) → Fits t s → Fits u s
unfolding answer_to
answer_fits t u s b h o f = subst (λ u. Fits u s) (sym h) (due_fits (recorded (pairs t)) (with_blocks (stripped t)) s (unparened_fits t (with_blocks (stripped t)) s b refl o f))

not_false : (b : Bool) → (b ≡ false → ⊥) → b ≡ true
not_false true h = refl
not_false false h = absurd (h refl)

pub still_fits : (t : Node) (r : Result Node PassError) → IfOk r (λ u. u ≡ answer_to t) → (IsErrAnd r (λ e. e ≡ pass.NotAssignable) ↔ (all_bare t ≡ false)) → (s : Slot) → IsTrue (is_open s) → Fits t s → IfOk r (λ u. Fits u s)
still_fits t (Ok u) h g s o f = answer_fits t u s (not_false (all_bare t) g.1) h o f
still_fits t (Err e) h g s o f = tt
