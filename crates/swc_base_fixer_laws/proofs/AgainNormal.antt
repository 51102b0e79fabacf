-- What stripping leaves of the fixer's answer, and that a second run makes no other of it.
use Rattle.std.proofs.Common.{◌≡◌, Bool, true, false, not, ◌&&◌, List, [], ◌∷◌, map, refl, sym, ap, ◌∙◌, rules}
use Rattle.std.specs.Prelude.{if◌then◌else◌}
use Rattle.swc_tree_marks.specs.declared.span.Span.{Span as Range}
use Rattle.swc_tree_marks.specs.declared.ident.Ident.{Ident}
use Rattle.swc_tree_node.specs.declared.kind.Kind.{Kind}
use Rattle.swc_tree_node.specs.declared.kind.Kind.TheVariants as kind
use Rattle.swc_tree_node.specs.declared.node.Node.{Node, Absent, Flag, Word, Text, Span, List as Many, Identifier, Tree, out-Node, the_lemmas}
use Rattle.swc_tree_node.specs.declared.node.Node.TheOpen.{Node-F}
use Rattle.swc_tree_grammar.specs.Forms.{holds}
use Rattle.swc_tree_grammar.specs.Grammar.{is_async_name}
use Rattle.swc_tree_grammar.specs.Blocks.{with_blocks, span_of, span_step}
use Rattle.swc_tree_grammar.specs.Stripped.{stripped}
use Rattle.swc_tree_grammar.specs.Normal.{normal_form, written_out}
use Rattle.swc_tree_grammar.specs.Fixed.{fixed}
use Rattle.swc_tree_grammar.specs.Due.{Places, level_step, sequence_statement, paired_by_level, paired_in_heads, with_due_pairs}
use Rattle.swc_tree_grammar.proofs.Induction.{by_children}
use Rattle.swc_tree_grammar.proofs.Walks.{span_of_tree}
use Rattle.swc_tree_grammar_laws.proofs.Levels.{pairing, pairing_tree, pairing_list}
use Rattle.swc_base_fixer_laws.proofs.NormalKeptBlocks.{each_same, map_after, written_blocks}
use Rattle.swc_base_fixer_laws.proofs.AgainStill.{still, well, stripped_still, stripped_stays}
use Rattle.swc_base_fixer_laws.specs.Named.{named, named_fields, expression_in, expression}
use Rattle.swc_base_fixer_laws.proofs.AgainNamed.{named_of_tree, named_mapped, named_still, blocks_still, written_named}
use Rattle.swc_base_fixer_laws.proofs.AgainMore.{more_stripped, levels_more}
use Rattle.swc_base_fixer_laws.proofs.AgainMore.More.{after}
use Rattle.swc_base_fixer_laws.proofs.AgainSet.{is_tree, tree_is, tree_holds, heads_more, starts_more}
use Rattle.swc_base_fixer_laws.proofs.AgainLevel.{Moves, Leaves, asked, stepped, levelled_same}

-- spans stay
span_row : (k : Kind) (vs : List Node) → span_step (Node-F.Tree k (map span_of (named_fields k vs))) ≡ span_step (Node-F.Tree k (map span_of vs))
span_row kind.ForOfStmt (s ∷ w ∷ l ∷ r ∷ b ∷ []) = refl
span_row k vs = refl

pub named_span : (t : Node) → span_of (named t) ≡ span_of t
named_span t = by_children (λ t. span_of (named t) ≡ span_of t)
    (search (rules, the_lemmas), λ x. search (rules, the_lemmas), λ w. search (rules, the_lemmas), λ x. search (rules, the_lemmas), λ s. search (rules, the_lemmas), λ k i. search (rules, the_lemmas))
    (λ ts l. search (rules, the_lemmas))
    (λ k ts l.
    ap span_of (named_of_tree k ts) ∙ span_of_tree k (named_fields k (map named ts)) ∙ span_row k (map named ts)
    ∙ ap (λ ss. span_step (Node-F.Tree k ss)) (map_after span_of named ts ∙ each_same (λ t. span_of (named t)) span_of ts l) ∙ sym (span_of_tree k ts)) t

named_two : (a b : Node) → named (Tree kind.ParenExpr (a ∷ b ∷ [])) ≡ Tree kind.ParenExpr (named a ∷ named b ∷ [])
named_two a b = named_of_tree kind.ParenExpr (a ∷ b ∷ [])

span_stays : (r : Range) → named (Span r) ≡ Span r
span_stays r = search (rules, the_lemmas)

named_moves : (p : Places) → Moves named p p
named_moves p e = named_two (Span (p (span_of e))) e ∙ ap (λ s. Tree kind.ParenExpr (s ∷ named e ∷ [])) (span_stays (p (span_of e))) ∙ ap (λ r. Tree kind.ParenExpr (Span (p r) ∷ named e ∷ [])) (sym (named_span e))

-- the first step leaves the head of `for` of
pub tree_expression : (w : Bool) (t : Node) → is_tree t ≡ true → expression_in w t (out-Node t) ≡ t
tree_expression w t = by_children (λ t. is_tree t ≡ true → expression_in w t (out-Node t) ≡ t)
    (λ h. search (rules, the_lemmas), λ x h. search (rules, the_lemmas), λ w h. search (rules, the_lemmas), λ x h. search (rules, the_lemmas), λ s h. search (rules, the_lemmas), λ k i h. absurd (cc (sym (let e : is_tree (Identifier k i) ≡ false = search (rules, the_lemmas) in e) ∙ h)))
    (λ ts l h. search (rules, the_lemmas)) (λ k ts l h. search (rules, the_lemmas)) t

level_row : (p : Places) (b : Bool) (k : Kind) (ts : List Node) → is_tree (level_step p (Node-F.Tree k (map (pairing p) ts)) b) ≡ true
level_row p b kind.OptChainExpr (s ∷ o ∷ m ∷ []) = tree_is kind.OptChainExpr (pairing p s false ∷ pairing p o false ∷ pairing p m true ∷ [])
level_row p b kind.ExprStmt (s ∷ e ∷ []) = tree_is kind.ExprStmt (pairing p s false ∷ sequence_statement p (pairing p e false) (out-Node (pairing p e false)) ∷ [])
level_row p b k ts = tree_is k (asked p b k (stepped p ts))

level_tree : (p : Places) (b : Bool) (k : Kind) (ts : List Node) → is_tree (pairing p (Tree k ts) b) ≡ true
level_tree p b k ts = ap is_tree (pairing_tree p k ts b) ∙ level_row p b k ts

level_holds : (p : Places) (t : Node) → holds (pairing p t false) ≡ holds t
level_holds p t = by_children (λ t. holds (pairing p t false) ≡ holds t)
    (search (rules, the_lemmas), λ x. search (rules, the_lemmas), λ w. search (rules, the_lemmas), λ x. search (rules, the_lemmas), λ s. search (rules, the_lemmas), λ k i. search (rules, the_lemmas))
    (λ ts l. search (rules, the_lemmas))
    (λ k ts l. tree_holds (pairing p (Tree k ts) false) (level_tree p false k ts) ∙ sym (tree_holds (Tree k ts) (tree_is k ts))) t

name_if : (c : Bool) (p : Places) (k : Kind) (i : Ident) → pairing p (if c then Identifier kind.Ident i else Identifier k i) false ≡ (if c then Identifier kind.Ident i else Identifier k i)
name_if true p k i = search (rules, the_lemmas)
name_if false p k i = search (rules, the_lemmas)

pub expression_of_name : (w : Bool) (k : Kind) (i : Ident) → expression_in w (Identifier k i) (out-Node (Identifier k i)) ≡ (if is_async_name (Identifier k i) && not w then Identifier kind.Ident i else Identifier k i)
expression_of_name w k i = search (rules, the_lemmas)

abbrev LevelHead : Places → Bool → Node → Type 0
LevelHead p w t = pairing p (expression_in w t (out-Node t)) false ≡ expression_in w (pairing p t false) (out-Node (pairing p t false))

head_leaf : (p : Places) (w : Bool) (t : Node) → expression_in w t (out-Node t) ≡ t → pairing p t false ≡ t → LevelHead p w t
head_leaf p w t e g = ap (λ t. pairing p t false) e ∙ g ∙ sym (ap (λ t. expression_in w t (out-Node t)) g ∙ e)

level_head : (p : Places) (w : Bool) (t : Node) → LevelHead p w t
level_head p w t = by_children (LevelHead p w) (
  head_leaf p w Absent (search (rules, the_lemmas)) (search (rules, the_lemmas)),
  λ x. head_leaf p w (Flag x) (search (rules, the_lemmas)) (search (rules, the_lemmas)),
  λ v. head_leaf p w (Word v) (search (rules, the_lemmas)) (search (rules, the_lemmas)),
  λ x. head_leaf p w (Text x) (search (rules, the_lemmas)) (search (rules, the_lemmas)),
  λ s. head_leaf p w (Span s) (search (rules, the_lemmas)) (search (rules, the_lemmas)),
  λ k i. (
      let e = expression_of_name w k i in let g : pairing p (Identifier k i) false ≡ Identifier k i = search (rules, the_lemmas) in
      ap (λ t. pairing p t false) e ∙ name_if (is_async_name (Identifier k i) && not w) p k i ∙ sym (ap (λ t. expression_in w t (out-Node t)) g ∙ e)
      ),
)
    (λ ts l. (
    let us = stepped p ts in let e : expression_in w (Many ts) (out-Node (Many ts)) ≡ Many ts = search (rules, the_lemmas) in let g : expression_in w (Many us) (out-Node (Many us)) ≡ Many us = search (rules, the_lemmas) in
    ap (λ t. pairing p t false) e ∙ pairing_list p ts false ∙ sym (ap (λ t. expression_in w t (out-Node t)) (pairing_list p ts false) ∙ g)
    ))
    (λ k ts l. (
    let e : expression_in w (Tree k ts) (out-Node (Tree k ts)) ≡ Tree k ts = search (rules, the_lemmas) in
    ap (λ t. pairing p t false) e ∙ sym (tree_expression w (pairing p (Tree k ts) false) (level_tree p false k ts))
    )) t

level_left : (p : Places) (w l : Node) → pairing p (expression w l) false ≡ expression (pairing p w false) (pairing p l false)
level_left p w l = level_head p (holds w) l ∙ ap (λ b. expression_in b (pairing p l false) (out-Node (pairing p l false))) (sym (level_holds p w))

named_leaves : (p : Places) → Leaves named_fields p
named_leaves p b kind.ForOfStmt (s ∷ w ∷ l ∷ r ∷ e ∷ []) n = rw (level_left p w l) refl
named_leaves p b kind.ForOfStmt vs n = refl
named_leaves p b kind.IfStmt vs n = refl
named_leaves p b k vs n = absurd (cc)

pub level_named : (p : Places) (t : Node) → paired_by_level p (named t) ≡ named (paired_by_level p t)
level_named p t = levelled_same named_mapped p p (named_moves p) (named_leaves p) t false

-- what is left of the answer
pub stripped_again : (p : Places) (u : Node) → still u ≡ true → stripped (with_due_pairs p u) ≡ named u
stripped_again p u h =
    let v = paired_by_level p u in let w = paired_in_heads p v in
    let d = levels_more p (named u) (named_still u h) in
    more_stripped (after (rw (sym (level_named p u)) d) (after (heads_more p v) (starts_more p w))) ∙ stripped_stays (named u) (named_still u h)

pub stripped_fixed : (p : Places) (t : Node) → well t ≡ true → stripped (fixed p t) ≡ named (with_blocks (stripped t))
stripped_fixed p t h = stripped_again p (with_blocks (stripped t)) (blocks_still (stripped t) (stripped_still t h))

pub normal_form_stays : (p : Places) (t : Node) → well t ≡ true → normal_form (fixed p t) ≡ normal_form t
normal_form_stays p t h =
    let u = with_blocks (stripped t) in
    ap written_out (stripped_fixed p t h) ∙ written_named u (blocks_still (stripped t) (stripped_still t h)) ∙ written_blocks (stripped t)
