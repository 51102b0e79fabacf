-- Pairs leave it as it is where an `else` would go.
use Rattle.std.proofs.Common.{◌≡◌, true, false, IsTrue, List, [], ◌∷◌, map, refl, sym, ◌∙◌, rules, true≢false}
use Rattle.swc_tree_marks.specs.declared.span.Span.{Span as Range}
use Rattle.swc_tree_marks.specs.declared.ident.Ident.{Ident}
use Rattle.swc_tree_node.specs.declared.kind.Kind.{Kind}
use Rattle.swc_tree_node.specs.declared.kind.Kind.TheVariants as kind
use Rattle.swc_tree_node.specs.declared.node.Node.{Node, Absent, Span, List as Many, Identifier, Tree, the_lemmas}
use Rattle.swc_tree_node.specs.declared.node.Node.TheOpen.{Node-F}
use Rattle.swc_tree_grammar.specs.Blocks.{takes_else, takes_else_step}
use Rattle.swc_tree_grammar.proofs.Walks.{takes_else_of_tree}
use Rattle.swc_tree_grammar.proofs.Induction.{by_children}
use Rattle.swc_base_fixer_laws.specs.Sets.{Sets, pairable, can_pair}
use Rattle.swc_base_fixer_laws.specs.Sets.Sets.{same, after, around, named, items, tree}
use Rattle.swc_base_fixer_laws.specs.Sets.FieldsSet.{nil, field}
use Rattle.swc_tree_node.specs.declared.slot.Slot.{Slot}

expression_row : (k : Kind) (ts : List Node) → can_pair k ≡ true → takes_else_step (Node-F.Tree k (map takes_else ts)) ≡ false
expression_row kind.IfStmt ts h = absurd (true≢false (sym h))
expression_row kind.LabeledStmt ts h = absurd (true≢false (sym h))
expression_row kind.WhileStmt ts h = absurd (true≢false (sym h))
expression_row kind.WithStmt ts h = absurd (true≢false (sym h))
expression_row kind.ForStmt ts h = absurd (true≢false (sym h))
expression_row kind.ForInStmt ts h = absurd (true≢false (sym h))
expression_row kind.ForOfStmt ts h = absurd (true≢false (sym h))
expression_row k ts h = refl

pub pairable_tree : (k : Kind) (ts : List Node) → pairable (Tree k ts) ≡ can_pair k
pairable_tree k ts = search (rules, the_lemmas)

not_pairable : (t : Node) → pairable t ≡ false → IsTrue (pairable t) → takes_else t ≡ false
not_pairable t e h = absurd (cc)

of_expression : (t : Node) → IsTrue (pairable t) → takes_else t ≡ false
of_expression t = by_children (λ t. IsTrue (pairable t) → takes_else t ≡ false)
    (not_pairable Absent (search (rules, the_lemmas)), λ x h. search (rules, the_lemmas), λ w h. search (rules, the_lemmas), λ x h. search (rules, the_lemmas), λ s h. search (rules, the_lemmas), λ k i h. search (rules, the_lemmas))
    (λ ts l h. search (rules, the_lemmas))
    (λ k ts l h. takes_else_of_tree k ts ∙ expression_row k ts (sym (pairable_tree k ts) ∙ h)) t

of_list : (ts : List Node) → takes_else (Many ts) ≡ false
of_list ts = search (rules, the_lemmas)

of_name : (k : Kind) (i : Ident) → takes_else (Identifier k i) ≡ false
of_name k i = search (rules, the_lemmas)

of_paren : (s : Range) (u : Node) → takes_else (Tree kind.ParenExpr (Span s ∷ u ∷ [])) ≡ false
of_paren s u = takes_else_of_tree kind.ParenExpr (Span s ∷ u ∷ [])

by_row : (k : Kind) (ts us : List Node) → takes_else_step (Node-F.Tree k (map takes_else us)) ≡ takes_else_step (Node-F.Tree k (map takes_else ts)) → takes_else (Tree k us) ≡ takes_else (Tree k ts)
by_row k ts us e = takes_else_of_tree k us ∙ e ∙ sym (takes_else_of_tree k ts)

pub takes_else_kept : {s : Slot} {t u : Node} → Sets s t u → takes_else u ≡ takes_else t
takes_else_kept (same t) = refl
takes_else_kept (after c d) = takes_else_kept d ∙ takes_else_kept c
takes_else_kept (around r t u p q d) = of_paren r u ∙ sym (of_expression t q)
takes_else_kept (named r k i called) = of_paren r (Identifier kind.Ident i) ∙ sym (of_name k i)
takes_else_kept (items ts us d) = of_list us ∙ sym (of_list ts)
takes_else_kept (tree kind.IfStmt ts us x (field s (field a (field e (field d nil))))) = by_row kind.IfStmt ts us (takes_else_kept d)
takes_else_kept (tree kind.LabeledStmt ts us x (field s (field a (field d nil)))) = by_row kind.LabeledStmt ts us (takes_else_kept d)
takes_else_kept (tree kind.WhileStmt ts us x (field s (field a (field d nil)))) = by_row kind.WhileStmt ts us (takes_else_kept d)
takes_else_kept (tree kind.WithStmt ts us x (field s (field a (field d nil)))) = by_row kind.WithStmt ts us (takes_else_kept d)
takes_else_kept (tree kind.ForStmt ts us x (field s (field a (field e (field f (field d nil)))))) = by_row kind.ForStmt ts us (takes_else_kept d)
takes_else_kept (tree kind.ForInStmt ts us x (field s (field a (field e (field d nil))))) = by_row kind.ForInStmt ts us (takes_else_kept d)
takes_else_kept (tree kind.ForOfStmt ts us x (field s (field a (field e (field f (field d nil)))))) = by_row kind.ForOfStmt ts us (takes_else_kept d)
takes_else_kept (tree k ts us x d) = by_row k ts us refl
