-- With its blocks a tree reads no more.
use Rattle.std.proofs.Common.{◌≡◌, Bool, true, false, ◌⊎◌, inl, inr, List, [], ◌∷◌, map, refl, sym, ap, ◌∙◌, subst, cond, rules}
use Rattle.swc_tree_node.specs.declared.kind.Kind.{Kind}
use Rattle.swc_tree_node.specs.declared.kind.Kind.TheVariants as kind
use Rattle.swc_tree_node.specs.declared.node.Node.{Node, Absent, Flag, Word, Text, Span, List as Many, Identifier, Tree, the_lemmas}
use Rattle.swc_tree_node.specs.declared.node.Node.TheOpen.{Node-F}
use Rattle.swc_tree_node.specs.declared.node.Node.TheVariants.{rolls-Tree}
use Rattle.swc_tree_grammar.specs.Blocks.{block, block_step, branch, span_of, takes_else, with_blocks}
use Rattle.swc_tree_grammar.proofs.Induction.{Each, by_children}
use Rattle.swc_tree_grammar.proofs.Walks.{blocks_of_list, blocks_of_tree}
use Rattle.swc_base_renaming_laws.specs.Readers.{BlocksAddNoReader}
use Rattle.swc_base_renaming_laws.proofs.Calm.{AllCalm, Calm, SomeRead, calm_is, calm_list, calm_through, calm_tree, list_reads, plain_calm, span_reads}
use Rattle.swc_base_rename_units.specs.Eval.{HasEval}

abbrev B : Node → Node
B = with_blocks

abbrev Answers : Node → Type 0
Answers t = Calm (B t) t

each_calm : (ts : List Node) → Each Answers ts → AllCalm (map B ts) ts
each_calm [] l = tt
each_calm (t ∷ ts) l = (l.0, each_calm ts l.1)

block_calm : (u : Node) → Calm (block u) u
block_calm u = plain_calm kind.BlockStmt (Span (span_of u) ∷ Many (u ∷ []) ∷ []) u refl by
  where
    one : SomeRead (u ∷ []) → HasEval u
    one (inl h) = h
    one (inr h) = absurd h

    by : SomeRead (Span (span_of u) ∷ Many (u ∷ []) ∷ []) → HasEval u
    by (inl h) = absurd (span_reads (span_of u) h)
    by (inr (inl h)) = one (list_reads (u ∷ []) h)
    by (inr (inr h)) = absurd h

branch_calm : (u : Node) → Calm (branch u) u
branch_calm u = by (takes_else u)
  where
    by : (b : Bool) → Calm (cond b (block u) u) u
    by true = block_calm u
    by false = calm_is u u refl

tree_calm : (k : Kind) (ts : List Node) → Each Answers ts → Calm (block_step (Node-F.Tree k (map B ts))) (Tree k ts)
tree_calm kind.IfStmt (s ∷ t ∷ c ∷ a ∷ []) l =
    calm_tree kind.IfStmt (B s ∷ B t ∷ branch (B c) ∷ B a ∷ []) (s ∷ t ∷ c ∷ a ∷ []) (l.0, (l.1.0, (calm_through (branch (B c)) (B c) c (branch_calm (B c)) l.1.1.0, (l.1.1.1.0, tt))))
tree_calm k ts l = subst (λ u. Calm u (Tree k ts)) (sym (rolls-Tree k (map B ts))) (calm_tree k (map B ts) ts (each_calm ts l))

pub blocks_calm : (t : Node) → Answers t
blocks_calm t = by_children Answers (
  calm_is (with_blocks Absent) Absent (search (rules, the_lemmas)),
  λ x. calm_is (with_blocks (Flag x)) (Flag x) (search (rules, the_lemmas)),
  λ w. calm_is (with_blocks (Word w)) (Word w) (search (rules, the_lemmas)),
  λ x. calm_is (with_blocks (Text x)) (Text x) (search (rules, the_lemmas)),
  λ s. calm_is (with_blocks (Span s)) (Span s) (search (rules, the_lemmas)),
  λ k i. calm_is (with_blocks (Identifier k i)) (Identifier k i) (search (rules, the_lemmas)),
)
    (λ ts l. subst (λ u. Calm u (Many ts)) (sym (blocks_of_list ts)) (calm_list (map B ts) ts (each_calm ts l)))
    (λ k ts l. subst (λ u. Calm u (Tree k ts)) (sym (blocks_of_tree k ts)) (tree_calm k ts l)) t

pub blocks_add_no_reader : BlocksAddNoReader
blocks_add_no_reader t h = (blocks_calm t).reads h
