-- The answer to an answer is the answer to what was asked first.
use Rattle.std.proofs.Common.{◌≡◌, Bool, true, false, not, ◌&&◌, List, [], ◌∷◌, map, refl, sym, ap, ◌∙◌, rules}
use Rattle.std.specs.Prelude.{if◌then◌else◌}
use Rattle.swc_tree_marks.specs.declared.ident.Ident.{Ident}
use Rattle.swc_tree_node.specs.declared.kind.Kind.{Kind}
use Rattle.swc_tree_node.specs.declared.kind.Kind.TheVariants as kind
use Rattle.swc_tree_node.specs.declared.node.Node.{Node, Absent, Flag, Word, Text, Span, List as Many, Identifier, Tree, out-Node, the_lemmas}
use Rattle.swc_tree_node.specs.declared.node.Node.TheOpen.{Node-F}
use Rattle.swc_tree_grammar.specs.Forms.{holds}
use Rattle.swc_tree_grammar.specs.Grammar.{is_async_name}
use Rattle.swc_tree_grammar.specs.Blocks.{with_blocks, span_of, takes_else, takes_else_step, branch, block}
use Rattle.swc_tree_grammar.specs.Stripped.{stripped}
use Rattle.swc_tree_grammar.specs.Fixed.{fixed}
use Rattle.swc_tree_grammar.specs.Due.{Places, Pairing, pair, in_step, async_in, paired_by_level, paired_in_heads, paired_at_starts, with_due_pairs}
use Rattle.swc_tree_grammar.proofs.Induction.{Each, by_children}
use Rattle.swc_tree_grammar.proofs.Walks.{takes_else_of_tree, blocks_of_list}
use Rattle.swc_tree_grammar_laws.proofs.Heads.{heading, heading_tree, heading_list}
use Rattle.swc_base_fixer_laws.proofs.NormalKeptBlocks.{each_same, map_after, blocks_again}
use Rattle.swc_base_fixer_laws.proofs.AgainStill.{well}
use Rattle.swc_base_fixer_laws.proofs.AgainLooks.{holds_mapped}
use Rattle.swc_base_fixer_laws.specs.Named.{named, named_fields, expression_in, expression}
use Rattle.swc_base_fixer_laws.proofs.AgainNamed.{named_of_tree, named_of_list, block_fields, blocks_fields, blocks_mapped, expression_cases}
use Rattle.swc_base_fixer_laws.proofs.AgainSet.{is_tree, tree_is, tree_holds, more_tree, in_heads}
use Rattle.swc_base_fixer_laws.proofs.AgainNormal.{named_span, level_named, stripped_fixed, expression_of_name, tree_expression}

-- blocks and names
takes_row : (k : Kind) (vs : List Node) → takes_else_step (Node-F.Tree k (map takes_else (named_fields k vs))) ≡ takes_else_step (Node-F.Tree k (map takes_else vs))
takes_row kind.ForOfStmt (s ∷ w ∷ l ∷ r ∷ b ∷ []) = refl
takes_row k vs = refl

named_takes : (t : Node) → takes_else (named t) ≡ takes_else t
named_takes t = by_children (λ t. takes_else (named t) ≡ takes_else t)
    (search (rules, the_lemmas), λ x. search (rules, the_lemmas), λ w. search (rules, the_lemmas), λ x. search (rules, the_lemmas), λ s. search (rules, the_lemmas), λ k i. search (rules, the_lemmas))
    (λ ts l. search (rules, the_lemmas))
    (λ k ts l.
    ap takes_else (named_of_tree k ts) ∙ takes_else_of_tree k (named_fields k (map named ts)) ∙ takes_row k (map named ts)
    ∙ ap (λ bs. takes_else_step (Node-F.Tree k bs)) (map_after takes_else named ts ∙ each_same (λ t. takes_else (named t)) takes_else ts l) ∙ sym (takes_else_of_tree k ts)) t

block_named : (c : Node) → named (block c) ≡ Tree kind.BlockStmt (Span (span_of c) ∷ Many (named c ∷ []) ∷ [])
block_named c = search (rules, the_lemmas)

branch_if : (b : Bool) (c : Node) → named (if b then block c else c) ≡ (if b then block (named c) else named c)
branch_if true c = block_named c ∙ ap (λ r. Tree kind.BlockStmt (Span r ∷ Many (named c ∷ []) ∷ [])) (sym (named_span c))
branch_if false c = refl

branch_named : (c : Node) → named (branch c) ≡ branch (named c)
branch_named c = branch_if (takes_else c) c ∙ ap (λ b. if b then block (named c) else named c) (sym (named_takes c))

blocks_name : (k : Kind) (i : Ident) → with_blocks (Identifier k i) ≡ Identifier k i
blocks_name k i = search (rules, the_lemmas)

name_if : (c : Bool) (k : Kind) (i : Ident) → with_blocks (if c then Identifier kind.Ident i else Identifier k i) ≡ (if c then Identifier kind.Ident i else Identifier k i)
name_if true k i = blocks_name kind.Ident i
name_if false k i = blocks_name k i

abbrev BlockHead : Bool → Node → Type 0
BlockHead w t = with_blocks (expression_in w t (out-Node t)) ≡ expression_in w (with_blocks t) (out-Node (with_blocks t))

head_leaf : (w : Bool) (t : Node) → expression_in w t (out-Node t) ≡ t → with_blocks t ≡ t → BlockHead w t
head_leaf w t e g = ap with_blocks e ∙ g ∙ sym (ap (λ t. expression_in w t (out-Node t)) g ∙ e)

block_head : (w : Bool) (t : Node) → BlockHead w t
block_head w t = by_children (BlockHead w) (
  head_leaf w Absent (search (rules, the_lemmas)) (search (rules, the_lemmas)),
  λ x. head_leaf w (Flag x) (search (rules, the_lemmas)) (search (rules, the_lemmas)),
  λ v. head_leaf w (Word v) (search (rules, the_lemmas)) (search (rules, the_lemmas)),
  λ x. head_leaf w (Text x) (search (rules, the_lemmas)) (search (rules, the_lemmas)),
  λ s. head_leaf w (Span s) (search (rules, the_lemmas)) (search (rules, the_lemmas)),
  λ k i. (
      let e = expression_of_name w k i in
      ap with_blocks e ∙ name_if (is_async_name (Identifier k i) && not w) k i ∙ sym (ap (λ t. expression_in w t (out-Node t)) (blocks_name k i) ∙ e)
      ),
)
    (λ ts l. (
    let us = map with_blocks ts in let e : expression_in w (Many ts) (out-Node (Many ts)) ≡ Many ts = search (rules, the_lemmas) in let g : expression_in w (Many us) (out-Node (Many us)) ≡ Many us = search (rules, the_lemmas) in
    ap with_blocks e ∙ blocks_of_list ts ∙ sym (ap (λ t. expression_in w t (out-Node t)) (blocks_of_list ts) ∙ g)
    ))
    (λ k ts l. (
    let h = ap is_tree (blocks_fields k ts) ∙ tree_is k (block_fields k (map with_blocks ts)) in
    ap with_blocks (tree_expression w (Tree k ts) (tree_is k ts)) ∙ sym (tree_expression w (with_blocks (Tree k ts)) h)
    )) t

block_left : (w l : Node) → with_blocks (expression w l) ≡ expression (with_blocks w) (with_blocks l)
block_left w l = block_head (holds w) l ∙ ap (λ b. expression_in b (with_blocks l) (out-Node (with_blocks l))) (sym (holds_mapped blocks_mapped w))

abbrev Commutes : Node → Type 0
Commutes t = with_blocks (named t) ≡ named (with_blocks t)

fields_commute : (ts : List Node) → Each Commutes ts → map with_blocks (map named ts) ≡ map named (map with_blocks ts)
fields_commute [] l = refl
fields_commute (t ∷ ts) l = rw (l.0, fields_commute ts l.1) refl

commute_row : (k : Kind) (ts : List Node) → Each Commutes ts → block_fields k (map with_blocks (named_fields k (map named ts))) ≡ named_fields k (map named (block_fields k (map with_blocks ts)))
commute_row kind.IfStmt (s ∷ t ∷ c ∷ a ∷ []) l = rw (l.0, l.1.0, l.1.1.0, l.1.1.1.0, branch_named (with_blocks c)) refl
commute_row kind.ForOfStmt (s ∷ w ∷ i ∷ r ∷ b ∷ []) l = rw (block_left (named w) (named i), l.0, l.1.0, l.1.1.0, l.1.1.1.0, l.1.1.1.1.0) refl
commute_row k ts l = fields_commute ts l

blocks_named : (t : Node) → Commutes t
blocks_named t = by_children Commutes
    (search (rules, the_lemmas), λ x. search (rules, the_lemmas), λ w. search (rules, the_lemmas), λ x. search (rules, the_lemmas), λ s. search (rules, the_lemmas), λ k i. search (rules, the_lemmas))
    (λ ts l. ap with_blocks (named_of_list ts) ∙ blocks_of_list (map named ts) ∙ ap Many (fields_commute ts l) ∙ sym (ap named (blocks_of_list ts) ∙ named_of_list (map with_blocks ts)))
    (λ k ts l.
    ap with_blocks (named_of_tree k ts) ∙ blocks_fields k (named_fields k (map named ts)) ∙ ap (Tree k) (commute_row k ts l)
    ∙ sym (ap named (blocks_fields k ts) ∙ named_of_tree k (block_fields k (map with_blocks ts)))) t

-- heads
heading_name : (p : Places) (k : Kind) (i : Ident) (b : Bool) → heading p (Identifier k i) b ≡ Identifier k i
heading_name p k i b = search (rules, the_lemmas)

async_of_name : (p : Places) (w : Bool) (k : Kind) (i : Ident) → async_in p w (Identifier k i) (out-Node (Identifier k i)) ≡ (if is_async_name (Identifier k i) && not w then pair p (Identifier kind.Ident i) else Identifier k i)
async_of_name p w k i = search (rules, the_lemmas)

called_so : (k : Kind) (i : Ident) → is_async_name (Identifier kind.Ident i) ≡ is_async_name (Identifier k i)
called_so k i = search (rules, the_lemmas)

abbrev head_done : Places → Bool → Node → Node
head_done p w t = async_in p w (heading p t false) (out-Node (heading p t false))

done_name : (p : Places) (w : Bool) (k : Kind) (i : Ident) → head_done p w (Identifier k i) ≡ (if is_async_name (Identifier k i) && not w then pair p (Identifier kind.Ident i) else Identifier k i)
done_name p w k i = ap (λ t. async_in p w t (out-Node t)) (heading_name p k i false) ∙ async_of_name p w k i

done_if : (c : Bool) (p : Places) (w : Bool) (k : Kind) (i : Ident) → (is_async_name (Identifier k i) && not w) ≡ c → head_done p w (if c then Identifier kind.Ident i else Identifier k i) ≡ head_done p w (Identifier k i)
done_if false p w k i e = refl
done_if true p w k i e =
    done_name p w kind.Ident i ∙ ap (λ c. if c && not w then pair p (Identifier kind.Ident i) else Identifier kind.Ident i) (called_so k i)
    ∙ ap (λ c. if c then pair p (Identifier kind.Ident i) else Identifier kind.Ident i) e ∙ sym (done_name p w k i ∙ ap (λ c. if c then pair p (Identifier kind.Ident i) else Identifier k i) e)

done_same : (p : Places) (w : Bool) (t : Node) → head_done p w (expression_in w t (out-Node t)) ≡ head_done p w t
done_same p w t = expression_cases (λ t u. head_done p w u ≡ head_done p w t) w (λ t. refl) (λ k i. done_if (is_async_name (Identifier k i) && not w) p w k i refl) t

abbrev Headed : Places → Node → Type 0
Headed p t = heading p (named t) ≡ heading p t

heads_same : (p : Places) (ts : List Node) → Each (Headed p) ts → map (heading p) (map named ts) ≡ map (heading p) ts
heads_same p [] l = refl
heads_same p (t ∷ ts) l = rw (l.0, heads_same p ts l.1) refl

heading_holds : (p : Places) (t : Node) → holds (heading p (named t) true) ≡ holds (named t)
heading_holds p t = by_children (λ t. holds (heading p (named t) true) ≡ holds (named t))
    (search (rules, the_lemmas), λ x. search (rules, the_lemmas), λ w. search (rules, the_lemmas), λ x. search (rules, the_lemmas), λ s. search (rules, the_lemmas), λ k i. search (rules, the_lemmas))
    (λ ts l. search (rules, the_lemmas))
    (λ k ts l. (
    let us = named_fields k (map named ts) in let d = in_heads p (Tree k us) true in let n = ap is_tree (named_of_tree k us) ∙ tree_is k (named_fields k (map named us)) in
    ap (λ t. holds (heading p t true)) (named_of_tree k ts) ∙ tree_holds (heading p (Tree k us) true) (more_tree d n) ∙ sym (ap holds (named_of_tree k ts) ∙ tree_holds (Tree k us) (tree_is k us))
    )) t

head_row : (p : Places) (b : Bool) (k : Kind) (ts : List Node) → Each (Headed p) ts → in_step p (Node-F.Tree k (map (heading p) (named_fields k (map named ts)))) b ≡ in_step p (Node-F.Tree k (map (heading p) ts)) b
head_row p b kind.ForOfStmt (s ∷ w ∷ i ∷ r ∷ e ∷ []) l =
    let h = ap (λ c. async_in p c (heading p (expression (named w) (named i)) false) (out-Node (heading p (expression (named w) (named i)) false))) (heading_holds p w) ∙ done_same p (holds (named w)) (named i) ∙ ap (λ c. head_done p c (named i)) (sym (heading_holds p w)) in
    ap (λ u. Tree kind.ForOfStmt (heading p (named s) true ∷ heading p (named w) true ∷ u ∷ heading p (named r) true ∷ heading p (named e) true ∷ [])) h
    ∙ rw (l.0, l.1.0, l.1.1.0, l.1.1.1.0, l.1.1.1.1.0) refl
head_row p b k ts l = ap (λ hs. in_step p (Node-F.Tree k hs) b) (heads_same p ts l)

head_tree : (p : Places) (k : Kind) (ts : List Node) → Each (Headed p) ts → (b : Bool) → heading p (named (Tree k ts)) b ≡ heading p (Tree k ts) b
head_tree p k ts l b = ap (λ t. heading p t b) (named_of_tree k ts) ∙ heading_tree p k (named_fields k (map named ts)) b ∙ head_row p b k ts l ∙ sym (heading_tree p k ts b)

head_list : (p : Places) (ts : List Node) → Each (Headed p) ts → (b : Bool) → heading p (named (Many ts)) b ≡ heading p (Many ts) b
head_list p ts l b = ap (λ t. heading p t b) (named_of_list ts) ∙ heading_list p (map named ts) b ∙ ap (λ hs. Many (map (λ f. f b) hs)) (heads_same p ts l) ∙ sym (heading_list p ts b)

pointwise : (f g : Pairing) → ((b : Bool) → f b ≡ g b) → f ≡ g
pointwise f g h = λ i b. h b i

heads_named : (p : Places) (t : Node) → Headed p t
heads_named p t = by_children (Headed p)
    (ap (heading p) (search (rules, the_lemmas)), λ x. ap (heading p) (search (rules, the_lemmas)), λ w. ap (heading p) (search (rules, the_lemmas)), λ x. ap (heading p) (search (rules, the_lemmas)), λ s. ap (heading p) (search (rules, the_lemmas)), λ k i. ap (heading p) (search (rules, the_lemmas)))
    (λ ts l. pointwise (heading p (named (Many ts))) (heading p (Many ts)) (head_list p ts l))
    (λ k ts l. pointwise (heading p (named (Tree k ts))) (heading p (Tree k ts)) (head_tree p k ts l)) t

-- the due pairs are the same with the names of either kind
pub due_named : (p : Places) (t : Node) → with_due_pairs p (named t) ≡ with_due_pairs p t
due_named p t = ap (λ u. paired_at_starts p (paired_in_heads p u)) (level_named p t) ∙ ap (λ f. paired_at_starts p (f true)) (heads_named p (paired_by_level p t))

pub fixed_again : (p q : Places) (t : Node) → well t ≡ true → fixed q (fixed p t) ≡ fixed q t
fixed_again p q t h =
    let u = stripped t in
    ap (λ u. with_due_pairs q (with_blocks u)) (stripped_fixed p t h) ∙ ap (with_due_pairs q) (blocks_named (with_blocks u)) ∙ due_named q (with_blocks (with_blocks u)) ∙ ap (with_due_pairs q) (blocks_again u)
