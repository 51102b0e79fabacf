-- What taking parentheses off says of a program, by its items.
use Rattle.std.proofs.Common.{◌≡◌, ℕ, Bool, true, false, ◌&&◌, Option, Some, None, List, [], ◌∷◌, append-nil, refl, ◌∙◌, rules}
use Rattle.swc_tree_marks.specs.declared.span.Span.{Span as Range}
use Rattle.swc_tree_node.specs.declared.kind.Kind.{Kind}
use Rattle.swc_tree_node.specs.declared.kind.Kind.TheVariants as kind
use Rattle.swc_tree_node.specs.declared.node.Node.{Node, Span, Tree, the_lemmas}
use Rattle.swc_tree_handle.specs.Handles.{optional_text}
use Rattle.swc_tree_grammar.specs.Blocks.{with_blocks}
use Rattle.swc_tree_grammar.specs.Pairs.{moves, pairs}
use Rattle.swc_tree_grammar.specs.Stripped.{is_pairless, stripped}
use Rattle.swc_tree_grammar.specs.Targets.{all_bare}
use Rattle.swc_tree_grammar.proofs.Walks.{bare_of_tree, pairs_of_tree}

abbrev pub program : Kind → Range → Node → Option (List ℕ) → Node
program k s body shebang = Tree k (Span s ∷ body ∷ optional_text shebang ∷ [])

pub module_unparened : (s : Range) (body : Node) (shebang : Option (List ℕ)) → with_blocks (stripped (program kind.Module s body shebang)) ≡ program kind.Module s (with_blocks (stripped body)) shebang
module_unparened s body None = search (rules, the_lemmas)
module_unparened s body (Some x) = search (rules, the_lemmas)

pub script_unparened : (s : Range) (body : Node) (shebang : Option (List ℕ)) → with_blocks (stripped (program kind.Script s body shebang)) ≡ program kind.Script s (with_blocks (stripped body)) shebang
script_unparened s body None = search (rules, the_lemmas)
script_unparened s body (Some x) = search (rules, the_lemmas)

and_true : (b : Bool) → (b && true) ≡ b
and_true true = refl
and_true false = refl

module_pairs : (s : Range) (body : Node) (shebang : Option (List ℕ)) → is_pairless (program kind.Module s body shebang) ≡ (is_pairless body && true)
module_pairs s body None = search (rules, the_lemmas)
module_pairs s body (Some x) = search (rules, the_lemmas)

pub module_pairless : (s : Range) (body : Node) (shebang : Option (List ℕ)) → is_pairless (program kind.Module s body shebang) ≡ is_pairless body
module_pairless s body shebang = module_pairs s body shebang ∙ and_true (is_pairless body)

script_pairs : (s : Range) (body : Node) (shebang : Option (List ℕ)) → is_pairless (program kind.Script s body shebang) ≡ (is_pairless body && true)
script_pairs s body None = search (rules, the_lemmas)
script_pairs s body (Some x) = search (rules, the_lemmas)

pub script_pairless : (s : Range) (body : Node) (shebang : Option (List ℕ)) → is_pairless (program kind.Script s body shebang) ≡ is_pairless body
script_pairless s body shebang = script_pairs s body shebang ∙ and_true (is_pairless body)

span_bare : (s : Range) → all_bare (Span s) ≡ true
span_bare s = search (rules, the_lemmas)

text_bare : (x : Option (List ℕ)) → all_bare (optional_text x) ≡ true
text_bare None = search (rules, the_lemmas)
text_bare (Some x) = search (rules, the_lemmas)

pub module_bare : (s : Range) (body : Node) (shebang : Option (List ℕ)) → all_bare (program kind.Module s body shebang) ≡ all_bare body
module_bare s body shebang = bare_of_tree kind.Module (Span s ∷ body ∷ optional_text shebang ∷ []) ∙ rw (span_bare s, text_bare shebang) (and_true (all_bare body))

pub script_bare : (s : Range) (body : Node) (shebang : Option (List ℕ)) → all_bare (program kind.Script s body shebang) ≡ all_bare body
script_bare s body shebang = bare_of_tree kind.Script (Span s ∷ body ∷ optional_text shebang ∷ []) ∙ rw (span_bare s, text_bare shebang) (and_true (all_bare body))

span_pairs : (s : Range) → pairs (Span s) ≡ []
span_pairs s = search (rules, the_lemmas)

text_pairs : (x : Option (List ℕ)) → pairs (optional_text x) ≡ []
text_pairs None = search (rules, the_lemmas)
text_pairs (Some x) = search (rules, the_lemmas)

pub module_found : (s : Range) (body : Node) (shebang : Option (List ℕ)) → pairs (program kind.Module s body shebang) ≡ pairs body
module_found s body shebang = pairs_of_tree kind.Module (Span s ∷ body ∷ optional_text shebang ∷ []) ∙ rw (span_pairs s, text_pairs shebang) (append-nil (pairs body))

pub script_found : (s : Range) (body : Node) (shebang : Option (List ℕ)) → pairs (program kind.Script s body shebang) ≡ pairs body
script_found s body shebang = pairs_of_tree kind.Script (Span s ∷ body ∷ optional_text shebang ∷ []) ∙ rw (span_pairs s, text_pairs shebang) (append-nil (pairs body))

pub module_moves : (s : Range) (body : Node) (shebang : Option (List ℕ)) → moves (program kind.Module s body shebang) ≡ moves body
module_moves s body shebang = rw (module_found s body shebang) refl

pub script_moves : (s : Range) (body : Node) (shebang : Option (List ℕ)) → moves (program kind.Script s body shebang) ≡ moves body
script_moves s body shebang = rw (script_found s body shebang) refl
