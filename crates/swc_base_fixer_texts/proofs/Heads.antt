-- The due pairs of a tree without contexts are those of the tree, without contexts: the first two steps.
use Rattle.std.proofs.Common.{◌≡◌, Bool, true, false, not, ◌&&◌, List, [], ◌∷◌, map, refl, sym, ap, ◌∙◌, rules}
use Rattle.std.specs.Prelude.{if◌then◌else◌}
use Rattle.swc_tree_marks.specs.declared.span.Span.{Span as Range}
use Rattle.swc_tree_marks.specs.declared.ident.Ident.{Ident}
use Rattle.swc_tree_node.specs.declared.kind.Kind.{Kind}
use Rattle.swc_tree_node.specs.declared.kind.Kind.TheVariants as kind
use Rattle.swc_tree_node.specs.declared.node.Node.{Node, Absent, Flag, Word, Text, Span, List as Many, Identifier, Tree, out-Node, the_lemmas}
use Rattle.swc_tree_node.specs.declared.node.Node.TheVariants.{rolls-Tree}
use Rattle.swc_tree_node.specs.declared.node.Node.TheOpen.{Node-F}
use Rattle.swc_tree_scoping.specs.Readings.{by_texts}
use Rattle.swc_tree_grammar.specs.Forms.{holds}
use Rattle.swc_tree_grammar.specs.Levels.{word_of, is_in}
use Rattle.swc_tree_grammar.specs.Grammar.{is_async_name}
use Rattle.swc_tree_grammar.specs.Blocks.{span_of, span_step}
use Rattle.swc_tree_grammar.specs.Due.{Places, free, pair, in_step, in_binary, of_head, async_in, paired_by_level, paired_in_heads}
use Rattle.swc_tree_grammar.proofs.Induction.{Each, by_children}
use Rattle.swc_tree_grammar.proofs.Walks.{span_of_tree}
use Rattle.swc_tree_grammar_laws.proofs.Heads.{heading, heading_tree, heading_list}
use Rattle.swc_tree_grammar_texts.proofs.Cleared.{text_list, text_name, text_span, text_tree}
use Rattle.swc_base_fixer_laws.proofs.AgainLooks.{word_mapped, holds_mapped}
use Rattle.swc_base_fixer_laws.proofs.AgainMapped.{Mapped}
use Rattle.swc_base_fixer_laws.proofs.AgainNamed.{same_fields}
use Rattle.swc_base_fixer_laws.proofs.AgainLevel.{Moves, Leaves, levelled_same}

pub texts_mapped : Mapped by_texts same_fields
texts_mapped = record {
  spans = λ s. s;
  idents = λ i. record i { ctxt = [] };
  same_text = λ i. refl;
  absent = search (rules, the_lemmas);
  flag = λ x. search (rules, the_lemmas);
  word = λ w. search (rules, the_lemmas);
  text = λ x. search (rules, the_lemmas);
  span = λ s. search (rules, the_lemmas);
  list = text_list;
  name = λ k i. search (rules, the_lemmas);
  tree = text_tree;
  other = λ k us e. refl;
}

-- where a node stands
abbrev Spanned : Node → Type 0
Spanned t = span_of (by_texts t) ≡ span_of t

spans_same : (ts : List Node) → Each Spanned ts → map span_of (map by_texts ts) ≡ map span_of ts
spans_same [] l = refl
spans_same (t ∷ ts) l = rw (l.0, spans_same ts l.1) refl

pub span_same : (t : Node) → Spanned t
span_same t = by_children Spanned
    (search (rules, the_lemmas), λ x. search (rules, the_lemmas), λ w. search (rules, the_lemmas), λ x. search (rules, the_lemmas), λ s. search (rules, the_lemmas), λ k i. search (rules, the_lemmas))
    (λ ts l. search (rules, the_lemmas))
    (λ k ts l. ap span_of (text_tree k ts) ∙ span_of_tree k (map by_texts ts) ∙ ap (λ ss. span_step (Node-F.Tree k ss)) (spans_same ts l) ∙ sym (span_of_tree k ts)) t

pub pair_moves : (p : Places) → Moves by_texts p p
pair_moves p e =
    text_tree kind.ParenExpr (Span (p (span_of e)) ∷ e ∷ []) ∙ ap (λ s. Tree kind.ParenExpr (s ∷ by_texts e ∷ [])) (text_span (p (span_of e)))
    ∙ ap (λ s. Tree kind.ParenExpr (Span (p s) ∷ by_texts e ∷ [])) (sym (span_same e))

-- the first step
nothing_left : (p : Places) → Leaves same_fields p
nothing_left p b k vs e = refl

pub level_texts : (p : Places) (t : Node) → paired_by_level p (by_texts t) ≡ by_texts (paired_by_level p t)
level_texts p t = levelled_same texts_mapped p p (pair_moves p) (nothing_left p) t false

-- the second step
abbrev Headed : Places → Node → Type 0
Headed p t = (b : Bool) → heading p (by_texts t) b ≡ by_texts (heading p t b)

two : (p : Places) (k : Kind) (a b : Node) (x y : Bool) → Headed p a → Headed p b → Tree k (heading p (by_texts a) x ∷ heading p (by_texts b) y ∷ []) ≡ by_texts (Tree k (heading p a x ∷ heading p b y ∷ []))
two p k a b x y f g = rw (f x, g y) (sym (text_tree k (heading p a x ∷ heading p b y ∷ [])))

three : (p : Places) (k : Kind) (a b c : Node) (x y z : Bool) → Headed p a → Headed p b → Headed p c
    → Tree k (heading p (by_texts a) x ∷ heading p (by_texts b) y ∷ heading p (by_texts c) z ∷ []) ≡ by_texts (Tree k (heading p a x ∷ heading p b y ∷ heading p c z ∷ []))
three p k a b c x y z f g h = rw (f x, g y, h z) (sym (text_tree k (heading p a x ∷ heading p b y ∷ heading p c z ∷ [])))

four : (p : Places) (k : Kind) (a b c d : Node) (x y z w : Bool) → Headed p a → Headed p b → Headed p c → Headed p d
    → Tree k (heading p (by_texts a) x ∷ heading p (by_texts b) y ∷ heading p (by_texts c) z ∷ heading p (by_texts d) w ∷ []) ≡ by_texts (Tree k (heading p a x ∷ heading p b y ∷ heading p c z ∷ heading p d w ∷ []))
four p k a b c d x y z w f g h j = rw (f x, g y, h z, j w) (sym (text_tree k (heading p a x ∷ heading p b y ∷ heading p c z ∷ heading p d w ∷ [])))

five : (p : Places) (k : Kind) (a b c d e : Node) (x y z w v : Bool) → Headed p a → Headed p b → Headed p c → Headed p d → Headed p e
    → Tree k (heading p (by_texts a) x ∷ heading p (by_texts b) y ∷ heading p (by_texts c) z ∷ heading p (by_texts d) w ∷ heading p (by_texts e) v ∷ []) ≡ by_texts (Tree k (heading p a x ∷ heading p b y ∷ heading p c z ∷ heading p d w ∷ heading p e v ∷ []))
five p k a b c d e x y z w v f g h j i = rw (f x, g y, h z, j w, i v) (sym (text_tree k (heading p a x ∷ heading p b y ∷ heading p c z ∷ heading p d w ∷ heading p e v ∷ [])))

pub pair_either : (c d : Bool) (p : Places) (t u : Node) → c ≡ d → (if c then pair p (by_texts t) else by_texts u) ≡ by_texts (if d then pair p t else u)
pair_either true true p t u e = sym (pair_moves p t)
pair_either false false p t u e = refl
pair_either true false p t u e = absurd (cc)
pair_either false true p t u e = absurd (cc)

binary : (p : Places) (b : Bool) (s o f g : Node) → Headed p s → Headed p o → Headed p f → Headed p g
    → in_binary p b (heading p (by_texts s) true) (heading p (by_texts f)) (heading p (by_texts g)) (heading p (by_texts o) true) ≡ by_texts (in_binary p b (heading p s true) (heading p f) (heading p g) (heading p o true))
binary p b s o f g x y z w =
    let t = Tree kind.BinExpr (heading p s true ∷ heading p o true ∷ heading p f true ∷ heading p g true ∷ []) in let u = Tree kind.BinExpr (heading p s true ∷ heading p o true ∷ heading p f b ∷ heading p g b ∷ []) in
    let c = is_in (word_of (heading p (by_texts o) true)) && not b in
    let e = ap (λ o. is_in (word_of o) && not b) (y true) ∙ ap (λ w. is_in w && not b) (word_mapped texts_mapped (heading p o true)) in
    ap (λ v. if c then pair p v else Tree kind.BinExpr (heading p (by_texts s) true ∷ heading p (by_texts o) true ∷ heading p (by_texts f) b ∷ heading p (by_texts g) b ∷ [])) (four p kind.BinExpr s o f g true true true true x y z w)
    ∙ ap (λ v. if c then pair p (by_texts t) else v) (four p kind.BinExpr s o f g true true b b x y z w)
    ∙ pair_either c (is_in (word_of (heading p o true)) && not b) p t u e

-- the left side of `for` of
same_name : (k : Kind) (i : Ident) → is_async_name (Identifier k (record i { ctxt = [] })) ≡ is_async_name (Identifier k i)
same_name k i = search (rules, the_lemmas)

async_of_name : (p : Places) (w : Bool) (k : Kind) (i : Ident) → async_in p w (Identifier k i) (out-Node (Identifier k i)) ≡ (if is_async_name (Identifier k i) && not w then pair p (Identifier kind.Ident i) else Identifier k i)
async_of_name p w k i = search (rules, the_lemmas)

abbrev Named : Places → Bool → Node → Type 0
Named p w t = async_in p w (by_texts t) (out-Node (by_texts t)) ≡ by_texts (async_in p w t (out-Node t))

named_leaf : (p : Places) (w : Bool) (t u : Node) → by_texts t ≡ u → async_in p w u (out-Node u) ≡ u → async_in p w t (out-Node t) ≡ t → Named p w t
named_leaf p w t u e g h = ap (λ t. async_in p w t (out-Node t)) e ∙ g ∙ sym e ∙ ap by_texts (sym h)

named_name : (p : Places) (w : Bool) (k : Kind) (i : Ident) → Named p w (Identifier k i)
named_name p w k i =
    let j : Ident = record i { ctxt = [] } in let c = is_async_name (Identifier k j) && not w in
    ap (λ t. async_in p w t (out-Node t)) (text_name k i) ∙ async_of_name p w k j
    ∙ ap (λ t. if c then pair p t else Identifier k j) (sym (text_name kind.Ident i)) ∙ ap (λ t. if c then pair p (by_texts (Identifier kind.Ident i)) else t) (sym (text_name k i))
    ∙ pair_either c (is_async_name (Identifier k i) && not w) p (Identifier kind.Ident i) (Identifier k i) (ap (λ b. b && not w) (same_name k i)) ∙ ap by_texts (sym (async_of_name p w k i))

named_same : (p : Places) (w : Bool) (t : Node) → Named p w t
named_same p w t = by_children (Named p w) (
  named_leaf p w Absent Absent (search (rules, the_lemmas)) (search (rules, the_lemmas)) (search (rules, the_lemmas)),
  λ x. named_leaf p w (Flag x) (Flag x) (search (rules, the_lemmas)) (search (rules, the_lemmas)) (search (rules, the_lemmas)),
  λ v. named_leaf p w (Word v) (Word v) (search (rules, the_lemmas)) (search (rules, the_lemmas)) (search (rules, the_lemmas)),
  λ x. named_leaf p w (Text x) (Text x) (search (rules, the_lemmas)) (search (rules, the_lemmas)) (search (rules, the_lemmas)),
  λ s. named_leaf p w (Span s) (Span s) (text_span s) (search (rules, the_lemmas)) (search (rules, the_lemmas)),
  λ k i. named_name p w k i,
)
    (λ ts l. named_leaf p w (Many ts) (Many (map by_texts ts)) (text_list ts) (search (rules, the_lemmas)) (search (rules, the_lemmas)))
    (λ k ts l. named_leaf p w (Tree k ts) (Tree k (map by_texts ts)) (text_tree k ts) (search (rules, the_lemmas)) (search (rules, the_lemmas))) t

head_same : (p : Places) (w l : Node) → of_head p (by_texts w) (by_texts l) ≡ by_texts (of_head p w l)
head_same p w l = ap (λ b. async_in p b (by_texts l) (out-Node (by_texts l))) (holds_mapped texts_mapped w) ∙ named_same p (holds w) l

each_headed : (p : Places) (ts : List Node) (b : Bool) → Each (Headed p) ts → map (λ f. f b) (map (heading p) (map by_texts ts)) ≡ map by_texts (map (λ f. f b) (map (heading p) ts))
each_headed p [] b l = refl
each_headed p (t ∷ ts) b l = rw (l.0 b, each_headed p ts b l.1) refl

head_row : (p : Places) (b : Bool) (k : Kind) (ts : List Node) → Each (Headed p) ts → in_step p (Node-F.Tree k (map (heading p) (map by_texts ts))) b ≡ by_texts (in_step p (Node-F.Tree k (map (heading p) ts)) b)
head_row p b kind.BinExpr (s ∷ o ∷ f ∷ g ∷ []) l = binary p b s o f g l.0 l.1.0 l.1.1.0 l.1.1.1.0
head_row p b kind.SeqExpr (s ∷ e ∷ []) l = two p kind.SeqExpr s e true b l.0 l.1.0
head_row p b kind.AssignExpr (s ∷ o ∷ f ∷ g ∷ []) l = four p kind.AssignExpr s o f g true true b b l.0 l.1.0 l.1.1.0 l.1.1.1.0
head_row p b kind.CondExpr (s ∷ t ∷ c ∷ a ∷ []) l = four p kind.CondExpr s t c a true b true b l.0 l.1.0 l.1.1.0 l.1.1.1.0
head_row p b kind.UnaryExpr (s ∷ o ∷ a ∷ []) l = three p kind.UnaryExpr s o a true true b l.0 l.1.0 l.1.1.0
head_row p b kind.AwaitExpr (s ∷ a ∷ []) l = two p kind.AwaitExpr s a true b l.0 l.1.0
head_row p b kind.UpdateExpr (s ∷ o ∷ f ∷ a ∷ []) l = four p kind.UpdateExpr s o f a true true true b l.0 l.1.0 l.1.1.0 l.1.1.1.0
head_row p b kind.YieldExpr (s ∷ a ∷ d ∷ []) l = three p kind.YieldExpr s a d true b true l.0 l.1.0 l.1.1.0
head_row p b kind.MemberExpr (s ∷ o ∷ m ∷ []) l = three p kind.MemberExpr s o m true b true l.0 l.1.0 l.1.1.0
head_row p b kind.TaggedTpl (s ∷ o ∷ m ∷ []) l = three p kind.TaggedTpl s o m true b true l.0 l.1.0 l.1.1.0
head_row p b kind.CallExpr (s ∷ o ∷ m ∷ []) l = three p kind.CallExpr s o m true b true l.0 l.1.0 l.1.1.0
head_row p b kind.NewExpr (s ∷ o ∷ m ∷ []) l = three p kind.NewExpr s o m true b true l.0 l.1.0 l.1.1.0
head_row p b kind.OptChainExpr (s ∷ o ∷ m ∷ []) l = three p kind.OptChainExpr s o m true true b l.0 l.1.0 l.1.1.0
head_row p b kind.OptCall (s ∷ o ∷ m ∷ []) l = three p kind.OptCall s o m true b true l.0 l.1.0 l.1.1.0
head_row p b kind.ArrowExpr (s ∷ a ∷ e ∷ f ∷ []) l = four p kind.ArrowExpr s a e f true true b true l.0 l.1.0 l.1.1.0 l.1.1.1.0
head_row p b kind.VarDecl (s ∷ w ∷ d ∷ []) l = three p kind.VarDecl s w d true true b l.0 l.1.0 l.1.1.0
head_row p b kind.VarDeclarator (s ∷ n ∷ i ∷ []) l = three p kind.VarDeclarator s n i true b b l.0 l.1.0 l.1.1.0
head_row p b kind.AssignPat (s ∷ f ∷ a ∷ []) l = three p kind.AssignPat s f a true b b l.0 l.1.0 l.1.1.0
head_row p b kind.RestPat (s ∷ a ∷ []) l = two p kind.RestPat s a true b l.0 l.1.0
head_row p b kind.ForStmt (s ∷ i ∷ t ∷ u ∷ e ∷ []) l = five p kind.ForStmt s i t u e true false true true true l.0 l.1.0 l.1.1.0 l.1.1.1.0 l.1.1.1.1.0
head_row p b kind.ForInStmt (s ∷ i ∷ r ∷ e ∷ []) l = four p kind.ForInStmt s i r e true false true true l.0 l.1.0 l.1.1.0 l.1.1.1.0
head_row p b kind.ForOfStmt (s ∷ w ∷ i ∷ r ∷ e ∷ []) l =
    let h = ap (λ u. of_head p u (heading p (by_texts i) false)) (l.1.0 true) ∙ ap (of_head p (by_texts (heading p w true))) (l.1.1.0 false) ∙ head_same p (heading p w true) (heading p i false) in
    rw (h, l.0 true, l.1.0 true, l.1.1.1.0 true, l.1.1.1.1.0 true) (sym (text_tree kind.ForOfStmt (heading p s true ∷ heading p w true ∷ of_head p (heading p w true) (heading p i false) ∷ heading p r true ∷ heading p e true ∷ [])))
head_row p b k ts l =
    rolls-Tree k (map free (map (heading p) (map by_texts ts))) ∙ ap (Tree k) (each_headed p ts true l) ∙ sym (ap by_texts (rolls-Tree k (map free (map (heading p) ts))) ∙ text_tree k (map free (map (heading p) ts)))

heads_same : (p : Places) (t : Node) → Headed p t
heads_same p t = by_children (Headed p)
    (λ b. search (rules, the_lemmas), λ x b. search (rules, the_lemmas), λ w b. search (rules, the_lemmas), λ x b. search (rules, the_lemmas), λ s b. search (rules, the_lemmas), λ k i b. search (rules, the_lemmas))
    (λ ts l b. ap (λ t. heading p t b) (text_list ts) ∙ heading_list p (map by_texts ts) b ∙ ap Many (each_headed p ts b l) ∙ sym (ap by_texts (heading_list p ts b) ∙ text_list (map (λ f. f b) (map (heading p) ts))))
    (λ k ts l b. ap (λ t. heading p t b) (text_tree k ts) ∙ heading_tree p k (map by_texts ts) b ∙ head_row p b k ts l ∙ ap by_texts (sym (heading_tree p k ts b))) t

pub heads_texts : (p : Places) (t : Node) → paired_in_heads p (by_texts t) ≡ by_texts (paired_in_heads p t)
heads_texts p t = heads_same p t true
