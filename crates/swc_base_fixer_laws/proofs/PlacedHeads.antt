-- The second step of the due pairs for two places: what it makes by the one it makes by the other, with each pair where
-- that one has it.
use Rattle.std.proofs.Common.{◌≡◌, Bool, true, false, not, ◌&&◌, List, [], ◌∷◌, map, refl, sym, ap, ◌∙◌, rules}
use Rattle.std.specs.Prelude.{Option, if◌then◌else◌}
use Rattle.swc_tree_marks.specs.declared.span.Span.{Span as Range}
use Rattle.swc_tree_marks.specs.declared.ident.Ident.{Ident}
use Rattle.swc_tree_node.specs.declared.kind.Kind.{Kind}
use Rattle.swc_tree_node.specs.declared.kind.Kind.TheVariants as kind
use Rattle.swc_tree_node.specs.declared.kind.Word.{Word as Word'}
use Rattle.swc_tree_node.specs.declared.node.Node.{Node, Absent, Flag, Word, Text, Span, List as Many, Identifier, Tree, out-Node, the_lemmas}
use Rattle.swc_tree_node.specs.declared.node.Node.TheVariants.{rolls-Tree}
use Rattle.swc_tree_node.specs.declared.node.Node.TheOpen.{Node-F}
use Rattle.swc_tree_grammar.specs.Forms.{holds}
use Rattle.swc_tree_grammar.specs.Levels.{word_of, is_in}
use Rattle.swc_tree_grammar.specs.Grammar.{is_async_name}
use Rattle.swc_tree_grammar.specs.Blocks.{span_of, span_step}
use Rattle.swc_tree_grammar.specs.Due.{Places, free, pair, in_step, in_binary, of_head, async_in, paired_in_heads}
use Rattle.swc_tree_grammar.proofs.Induction.{Each, by_children}
use Rattle.swc_tree_grammar.proofs.Walks.{span_of_tree}
use Rattle.swc_tree_grammar_laws.proofs.Heads.{heading, heading_tree, heading_list}
use Rattle.swc_base_fixer_laws.proofs.AgainLooks.{word_mapped, holds_mapped}
use Rattle.swc_base_fixer_laws.proofs.AgainNamed.{spanless_mapped}
use Rattle.swc_base_fixer_laws.proofs.Placed.{placed, placed_fields, placed_pair, is_span, put, is_pair, placed_other, seen_same, tree_is_none, list_is_none, placed_of_tree, placed_of_list, placed_of_absent, placed_of_flag, placed_of_word, placed_of_text, placed_of_span, placed_of_name}

-- where a node stands stays
abbrev Stands : Places → Node → Type 0
Stands q t = span_of (heading q t true) ≡ span_of t

each_stands : (q : Places) (ts : List Node) → Each (Stands q) ts → map span_of (map free (map (heading q) ts)) ≡ map span_of ts
each_stands q [] l = refl
each_stands q (t ∷ ts) l = rw (l.0, each_stands q ts l.1) refl

pub first : (k : Kind) (u t : Node) (us ts : List Node) → span_step (Node-F.Tree k (map span_of (u ∷ us))) ≡ span_of u → span_step (Node-F.Tree k (map span_of (t ∷ ts))) ≡ span_of t → span_of u ≡ span_of t → span_of (Tree k (u ∷ us)) ≡ span_of (Tree k (t ∷ ts))
first k u t us ts a b e = span_of_tree k (u ∷ us) ∙ a ∙ e ∙ sym (span_of_tree k (t ∷ ts) ∙ b)

binary_stands : (c : Bool) (q : Places) (s o l r : Node) → Stands q s
    → span_of (if c && false then pair q (Tree kind.BinExpr (heading q s true ∷ heading q o true ∷ heading q l true ∷ heading q r true ∷ [])) else Tree kind.BinExpr (heading q s true ∷ heading q o true ∷ heading q l true ∷ heading q r true ∷ [])) ≡ span_of (Tree kind.BinExpr (s ∷ o ∷ l ∷ r ∷ []))
binary_stands true q s o l r e = first kind.BinExpr (heading q s true) s (heading q o true ∷ heading q l true ∷ heading q r true ∷ []) (o ∷ l ∷ r ∷ []) refl refl e
binary_stands false q s o l r e = first kind.BinExpr (heading q s true) s (heading q o true ∷ heading q l true ∷ heading q r true ∷ []) (o ∷ l ∷ r ∷ []) refl refl e

stands_row : (q : Places) (k : Kind) (ts : List Node) → Each (Stands q) ts → span_of (in_step q (Node-F.Tree k (map (heading q) ts)) true) ≡ span_of (Tree k ts)
stands_row q kind.BinExpr (s ∷ o ∷ l ∷ r ∷ []) h = binary_stands (is_in (word_of (heading q o true))) q s o l r h.0
stands_row q kind.SeqExpr (s ∷ a ∷ []) h = first kind.SeqExpr (heading q s true) s (heading q a true ∷ []) (a ∷ []) refl refl h.0
stands_row q kind.AssignExpr (s ∷ a ∷ b ∷ c ∷ []) h = first kind.AssignExpr (heading q s true) s (heading q a true ∷ heading q b true ∷ heading q c true ∷ []) (a ∷ b ∷ c ∷ []) refl refl h.0
stands_row q kind.CondExpr (s ∷ a ∷ b ∷ c ∷ []) h = first kind.CondExpr (heading q s true) s (heading q a true ∷ heading q b true ∷ heading q c true ∷ []) (a ∷ b ∷ c ∷ []) refl refl h.0
stands_row q kind.UnaryExpr (s ∷ a ∷ b ∷ []) h = first kind.UnaryExpr (heading q s true) s (heading q a true ∷ heading q b true ∷ []) (a ∷ b ∷ []) refl refl h.0
stands_row q kind.AwaitExpr (s ∷ a ∷ []) h = first kind.AwaitExpr (heading q s true) s (heading q a true ∷ []) (a ∷ []) refl refl h.0
stands_row q kind.UpdateExpr (s ∷ a ∷ b ∷ c ∷ []) h = first kind.UpdateExpr (heading q s true) s (heading q a true ∷ heading q b true ∷ heading q c true ∷ []) (a ∷ b ∷ c ∷ []) refl refl h.0
stands_row q kind.YieldExpr (s ∷ a ∷ b ∷ []) h = first kind.YieldExpr (heading q s true) s (heading q a true ∷ heading q b true ∷ []) (a ∷ b ∷ []) refl refl h.0
stands_row q kind.MemberExpr (s ∷ a ∷ b ∷ []) h = first kind.MemberExpr (heading q s true) s (heading q a true ∷ heading q b true ∷ []) (a ∷ b ∷ []) refl refl h.0
stands_row q kind.TaggedTpl (s ∷ a ∷ b ∷ []) h = first kind.TaggedTpl (heading q s true) s (heading q a true ∷ heading q b true ∷ []) (a ∷ b ∷ []) refl refl h.0
stands_row q kind.CallExpr (s ∷ a ∷ b ∷ []) h = first kind.CallExpr (heading q s true) s (heading q a true ∷ heading q b true ∷ []) (a ∷ b ∷ []) refl refl h.0
stands_row q kind.NewExpr (s ∷ a ∷ b ∷ []) h = first kind.NewExpr (heading q s true) s (heading q a true ∷ heading q b true ∷ []) (a ∷ b ∷ []) refl refl h.0
stands_row q kind.OptChainExpr (s ∷ a ∷ b ∷ []) h = first kind.OptChainExpr (heading q s true) s (heading q a true ∷ heading q b true ∷ []) (a ∷ b ∷ []) refl refl h.0
stands_row q kind.OptCall (s ∷ a ∷ b ∷ []) h = first kind.OptCall (heading q s true) s (heading q a true ∷ heading q b true ∷ []) (a ∷ b ∷ []) refl refl h.0
stands_row q kind.ArrowExpr (s ∷ a ∷ b ∷ c ∷ []) h = first kind.ArrowExpr (heading q s true) s (heading q a true ∷ heading q b true ∷ heading q c true ∷ []) (a ∷ b ∷ c ∷ []) refl refl h.0
stands_row q kind.VarDecl (s ∷ a ∷ b ∷ []) h = first kind.VarDecl (heading q s true) s (heading q a true ∷ heading q b true ∷ []) (a ∷ b ∷ []) refl refl h.0
stands_row q kind.VarDeclarator (s ∷ a ∷ b ∷ []) h = first kind.VarDeclarator (heading q s true) s (heading q a true ∷ heading q b true ∷ []) (a ∷ b ∷ []) refl refl h.0
stands_row q kind.AssignPat (s ∷ a ∷ b ∷ []) h = first kind.AssignPat (heading q s true) s (heading q a true ∷ heading q b true ∷ []) (a ∷ b ∷ []) refl refl h.0
stands_row q kind.RestPat (s ∷ a ∷ []) h = first kind.RestPat (heading q s true) s (heading q a true ∷ []) (a ∷ []) refl refl h.0
stands_row q kind.ForStmt (s ∷ a ∷ b ∷ c ∷ d ∷ []) h = first kind.ForStmt (heading q s true) s (heading q a false ∷ heading q b true ∷ heading q c true ∷ heading q d true ∷ []) (a ∷ b ∷ c ∷ d ∷ []) refl refl h.0
stands_row q kind.ForInStmt (s ∷ a ∷ b ∷ c ∷ []) h = first kind.ForInStmt (heading q s true) s (heading q a false ∷ heading q b true ∷ heading q c true ∷ []) (a ∷ b ∷ c ∷ []) refl refl h.0
stands_row q kind.ForOfStmt (s ∷ w ∷ i ∷ r ∷ e ∷ []) h = first kind.ForOfStmt (heading q s true) s (heading q w true ∷ of_head q (heading q w true) (heading q i false) ∷ heading q r true ∷ heading q e true ∷ []) (w ∷ i ∷ r ∷ e ∷ []) refl refl h.0
stands_row q k ts h =
    ap span_of (rolls-Tree k (map free (map (heading q) ts))) ∙ span_of_tree k (map free (map (heading q) ts)) ∙ ap (λ ss. span_step (Node-F.Tree k ss)) (each_stands q ts h)
    ∙ sym (span_of_tree k ts)

pub heading_stands : (q : Places) (t : Node) → Stands q t
heading_stands q t = by_children (Stands q)
    (search (rules, the_lemmas), λ x. search (rules, the_lemmas), λ w. search (rules, the_lemmas), λ x. search (rules, the_lemmas), λ s. search (rules, the_lemmas), λ k i. search (rules, the_lemmas))
    (λ ts l. search (rules, the_lemmas))
    (λ k ts l. ap span_of (heading_tree q k ts true) ∙ stands_row q k ts l) t

-- no other node becomes a span
binary_is : (c : Bool) (q : Places) (s o l r : Node) → is_span (if c && false then pair q (Tree kind.BinExpr (s ∷ o ∷ l ∷ r ∷ [])) else Tree kind.BinExpr (s ∷ o ∷ l ∷ r ∷ [])) ≡ false
binary_is true q s o l r = tree_is_none kind.BinExpr (s ∷ o ∷ l ∷ r ∷ [])
binary_is false q s o l r = tree_is_none kind.BinExpr (s ∷ o ∷ l ∷ r ∷ [])

span_row : (q : Places) (k : Kind) (ts : List Node) → is_span (in_step q (Node-F.Tree k (map (heading q) ts)) true) ≡ false
span_row q kind.BinExpr (s ∷ o ∷ l ∷ r ∷ []) = binary_is (is_in (word_of (heading q o true))) q (heading q s true) (heading q o true) (heading q l true) (heading q r true)
span_row q kind.SeqExpr (s ∷ a ∷ []) = tree_is_none kind.SeqExpr (heading q s true ∷ heading q a true ∷ [])
span_row q kind.AssignExpr (s ∷ a ∷ b ∷ c ∷ []) = tree_is_none kind.AssignExpr (heading q s true ∷ heading q a true ∷ heading q b true ∷ heading q c true ∷ [])
span_row q kind.CondExpr (s ∷ a ∷ b ∷ c ∷ []) = tree_is_none kind.CondExpr (heading q s true ∷ heading q a true ∷ heading q b true ∷ heading q c true ∷ [])
span_row q kind.UnaryExpr (s ∷ a ∷ b ∷ []) = tree_is_none kind.UnaryExpr (heading q s true ∷ heading q a true ∷ heading q b true ∷ [])
span_row q kind.AwaitExpr (s ∷ a ∷ []) = tree_is_none kind.AwaitExpr (heading q s true ∷ heading q a true ∷ [])
span_row q kind.UpdateExpr (s ∷ a ∷ b ∷ c ∷ []) = tree_is_none kind.UpdateExpr (heading q s true ∷ heading q a true ∷ heading q b true ∷ heading q c true ∷ [])
span_row q kind.YieldExpr (s ∷ a ∷ b ∷ []) = tree_is_none kind.YieldExpr (heading q s true ∷ heading q a true ∷ heading q b true ∷ [])
span_row q kind.MemberExpr (s ∷ a ∷ b ∷ []) = tree_is_none kind.MemberExpr (heading q s true ∷ heading q a true ∷ heading q b true ∷ [])
span_row q kind.TaggedTpl (s ∷ a ∷ b ∷ []) = tree_is_none kind.TaggedTpl (heading q s true ∷ heading q a true ∷ heading q b true ∷ [])
span_row q kind.CallExpr (s ∷ a ∷ b ∷ []) = tree_is_none kind.CallExpr (heading q s true ∷ heading q a true ∷ heading q b true ∷ [])
span_row q kind.NewExpr (s ∷ a ∷ b ∷ []) = tree_is_none kind.NewExpr (heading q s true ∷ heading q a true ∷ heading q b true ∷ [])
span_row q kind.OptChainExpr (s ∷ a ∷ b ∷ []) = tree_is_none kind.OptChainExpr (heading q s true ∷ heading q a true ∷ heading q b true ∷ [])
span_row q kind.OptCall (s ∷ a ∷ b ∷ []) = tree_is_none kind.OptCall (heading q s true ∷ heading q a true ∷ heading q b true ∷ [])
span_row q kind.ArrowExpr (s ∷ a ∷ b ∷ c ∷ []) = tree_is_none kind.ArrowExpr (heading q s true ∷ heading q a true ∷ heading q b true ∷ heading q c true ∷ [])
span_row q kind.VarDecl (s ∷ a ∷ b ∷ []) = tree_is_none kind.VarDecl (heading q s true ∷ heading q a true ∷ heading q b true ∷ [])
span_row q kind.VarDeclarator (s ∷ a ∷ b ∷ []) = tree_is_none kind.VarDeclarator (heading q s true ∷ heading q a true ∷ heading q b true ∷ [])
span_row q kind.AssignPat (s ∷ a ∷ b ∷ []) = tree_is_none kind.AssignPat (heading q s true ∷ heading q a true ∷ heading q b true ∷ [])
span_row q kind.RestPat (s ∷ a ∷ []) = tree_is_none kind.RestPat (heading q s true ∷ heading q a true ∷ [])
span_row q kind.ForStmt (s ∷ a ∷ b ∷ c ∷ d ∷ []) = tree_is_none kind.ForStmt (heading q s true ∷ heading q a false ∷ heading q b true ∷ heading q c true ∷ heading q d true ∷ [])
span_row q kind.ForInStmt (s ∷ a ∷ b ∷ c ∷ []) = tree_is_none kind.ForInStmt (heading q s true ∷ heading q a false ∷ heading q b true ∷ heading q c true ∷ [])
span_row q kind.ForOfStmt (s ∷ w ∷ i ∷ r ∷ e ∷ []) = tree_is_none kind.ForOfStmt (heading q s true ∷ heading q w true ∷ of_head q (heading q w true) (heading q i false) ∷ heading q r true ∷ heading q e true ∷ [])
span_row q k ts = ap is_span (rolls-Tree k (map free (map (heading q) ts))) ∙ tree_is_none k (map free (map (heading q) ts))

abbrev Spans : Places → Node → Type 0
Spans q t = is_span (heading q t true) ≡ is_span t

heading_spans : (q : Places) (t : Node) → Spans q t
heading_spans q t = by_children (Spans q)
    (search (rules, the_lemmas), λ x. search (rules, the_lemmas), λ w. search (rules, the_lemmas), λ x. search (rules, the_lemmas), λ s. search (rules, the_lemmas), λ k i. search (rules, the_lemmas))
    (λ ts l. ap is_span (heading_list q ts true) ∙ list_is_none (map (λ f. f true) (map (heading q) ts)) ∙ sym (list_is_none ts))
    (λ k ts l. ap is_span (heading_tree q k ts true) ∙ span_row q k ts ∙ sym (tree_is_none k ts)) t

heading_span : (q : Places) (r : Range) → heading q (Span r) true ≡ Span r
heading_span q r = search (rules, the_lemmas)

put_if : (c d : Bool) (q : Places) (r : Range) (s : Node) → c ≡ d → heading q (if c then Span r else s) true ≡ (if d then Span r else heading q s true)
put_if true true q r s e = heading_span q r
put_if false false q r s e = refl
put_if true false q r s e = absurd (cc)
put_if false true q r s e = absurd (cc)

heading_put : (q : Places) (r : Range) (s : Node) → heading q (put r s) true ≡ put r (heading q s true)
heading_put q r s = put_if (is_span s) (is_span (heading q s true)) q r s (sym (heading_spans q s))

async_of_name : (p : Places) (w : Bool) (k : Kind) (i : Ident) → async_in p w (Identifier k i) (out-Node (Identifier k i)) ≡ (if is_async_name (Identifier k i) && not w then pair p (Identifier kind.Ident i) else Identifier k i)
async_of_name p w k i = search (rules, the_lemmas)

module _ (p q : Places) where
  abbrev m : Node → Node
  m = placed q

  abbrev Headed : Node → Type 0
  Headed t = (b : Bool) → heading q (m t) b ≡ m (heading p t b)

  two : (k : Kind) (n : is_pair k ≡ false) (a b : Node) (x y : Bool) → Headed a → Headed b → Tree k (heading q (m a) x ∷ heading q (m b) y ∷ []) ≡ m (Tree k (heading p a x ∷ heading p b y ∷ []))
  two k n a b x y f g = rw (f x, g y) (sym (placed_other q k (heading p a x ∷ heading p b y ∷ []) n))

  three : (k : Kind) (n : is_pair k ≡ false) (a b c : Node) (x y z : Bool) → Headed a → Headed b → Headed c
      → Tree k (heading q (m a) x ∷ heading q (m b) y ∷ heading q (m c) z ∷ []) ≡ m (Tree k (heading p a x ∷ heading p b y ∷ heading p c z ∷ []))
  three k n a b c x y z f g h = rw (f x, g y, h z) (sym (placed_other q k (heading p a x ∷ heading p b y ∷ heading p c z ∷ []) n))

  four : (k : Kind) (n : is_pair k ≡ false) (a b c d : Node) (x y z w : Bool) → Headed a → Headed b → Headed c → Headed d
      → Tree k (heading q (m a) x ∷ heading q (m b) y ∷ heading q (m c) z ∷ heading q (m d) w ∷ []) ≡ m (Tree k (heading p a x ∷ heading p b y ∷ heading p c z ∷ heading p d w ∷ []))
  four k n a b c d x y z w f g h j = rw (f x, g y, h z, j w) (sym (placed_other q k (heading p a x ∷ heading p b y ∷ heading p c z ∷ heading p d w ∷ []) n))

  five : (k : Kind) (n : is_pair k ≡ false) (a b c d e : Node) (x y z w v : Bool) → Headed a → Headed b → Headed c → Headed d → Headed e
      → Tree k (heading q (m a) x ∷ heading q (m b) y ∷ heading q (m c) z ∷ heading q (m d) w ∷ heading q (m e) v ∷ []) ≡ m (Tree k (heading p a x ∷ heading p b y ∷ heading p c z ∷ heading p d w ∷ heading p e v ∷ []))
  five k n a b c d e x y z w v f g h j i = rw (f x, g y, h z, j w, i v) (sym (placed_other q k (heading p a x ∷ heading p b y ∷ heading p c z ∷ heading p d w ∷ heading p e v ∷ []) n))

  pair_either : (c d : Bool) (t u : Node) → c ≡ d → (if c then pair q (m t) else m u) ≡ m (if d then pair p t else u)
  pair_either true true t u e = sym (placed_pair p q t)
  pair_either false false t u e = refl
  pair_either true false t u e = absurd (cc)
  pair_either false true t u e = absurd (cc)

  word_same : (t : Node) → word_of (m t) ≡ word_of t
  word_same = seen_same q (Option Word') word_of (word_mapped spanless_mapped)

  holds_same : (t : Node) → holds (m t) ≡ holds t
  holds_same = seen_same q Bool holds (holds_mapped spanless_mapped)

  binary : (b : Bool) (s o f g : Node) → Headed s → Headed o → Headed f → Headed g
      → in_binary q b (heading q (m s) true) (heading q (m f)) (heading q (m g)) (heading q (m o) true) ≡ m (in_binary p b (heading p s true) (heading p f) (heading p g) (heading p o true))
  binary b s o f g x y z w =
      let t = Tree kind.BinExpr (heading p s true ∷ heading p o true ∷ heading p f true ∷ heading p g true ∷ []) in let u = Tree kind.BinExpr (heading p s true ∷ heading p o true ∷ heading p f b ∷ heading p g b ∷ []) in
      let c = is_in (word_of (heading q (m o) true)) && not b in
      let e = ap (λ o. is_in (word_of o) && not b) (y true) ∙ ap (λ w. is_in w && not b) (word_same (heading p o true)) in
      ap (λ v. if c then pair q v else Tree kind.BinExpr (heading q (m s) true ∷ heading q (m o) true ∷ heading q (m f) b ∷ heading q (m g) b ∷ [])) (four kind.BinExpr refl s o f g true true true true x y z w)
      ∙ ap (λ v. if c then pair q (m t) else v) (four kind.BinExpr refl s o f g true true b b x y z w)
      ∙ pair_either c (is_in (word_of (heading p o true)) && not b) t u e

  -- the left side of `for` of
  abbrev Named : Bool → Node → Type 0
  Named w t = async_in q w (m t) (out-Node (m t)) ≡ m (async_in p w t (out-Node t))

  named_leaf : (w : Bool) (t u : Node) → m t ≡ u → async_in q w u (out-Node u) ≡ u → async_in p w t (out-Node t) ≡ t → Named w t
  named_leaf w t u e g h = ap (λ t. async_in q w t (out-Node t)) e ∙ g ∙ sym e ∙ ap m (sym h)

  named_name : (w : Bool) (k : Kind) (i : Ident) → Named w (Identifier k i)
  named_name w k i =
      let c = is_async_name (Identifier k i) && not w in
      ap (λ t. async_in q w t (out-Node t)) (placed_of_name q k i) ∙ async_of_name q w k i
      ∙ ap (λ t. if c then pair q t else Identifier k i) (sym (placed_of_name q kind.Ident i)) ∙ ap (λ t. if c then pair q (m (Identifier kind.Ident i)) else t) (sym (placed_of_name q k i))
      ∙ pair_either c c (Identifier kind.Ident i) (Identifier k i) refl ∙ ap m (sym (async_of_name p w k i))

  named_same : (w : Bool) (t : Node) → Named w t
  named_same w t = by_children (Named w) (
    named_leaf w Absent Absent (placed_of_absent q) (search (rules, the_lemmas)) (search (rules, the_lemmas)),
    λ x. named_leaf w (Flag x) (Flag x) (placed_of_flag q x) (search (rules, the_lemmas)) (search (rules, the_lemmas)),
    λ v. named_leaf w (Word v) (Word v) (placed_of_word q v) (search (rules, the_lemmas)) (search (rules, the_lemmas)),
    λ x. named_leaf w (Text x) (Text x) (placed_of_text q x) (search (rules, the_lemmas)) (search (rules, the_lemmas)),
    λ s. named_leaf w (Span s) (Span s) (placed_of_span q s) (search (rules, the_lemmas)) (search (rules, the_lemmas)),
    λ k i. named_name w k i,
  )
      (λ ts l. named_leaf w (Many ts) (Many (map m ts)) (placed_of_list q ts) (search (rules, the_lemmas)) (search (rules, the_lemmas)))
      (λ k ts l. named_leaf w (Tree k ts) (Tree k (placed_fields q k (map m ts))) (placed_of_tree q k ts) (search (rules, the_lemmas)) (search (rules, the_lemmas))) t

  head_same : (w l : Node) → of_head q (m w) (m l) ≡ m (of_head p w l)
  head_same w l = ap (λ b. async_in q b (m l) (out-Node (m l))) (holds_same w) ∙ named_same (holds w) l

  each_headed : (ts : List Node) (b : Bool) → Each Headed ts → map (λ f. f b) (map (heading q) (map m ts)) ≡ map m (map (λ f. f b) (map (heading p) ts))
  each_headed [] b l = refl
  each_headed (t ∷ ts) b l = rw (l.0 b, each_headed ts b l.1) refl

  -- a pair
  paired : (s e : Node) → Headed s → Headed e
      → Tree kind.ParenExpr (heading q (put (q (span_of (m e))) (m s)) true ∷ heading q (m e) true ∷ []) ≡ m (Tree kind.ParenExpr (heading p s true ∷ heading p e true ∷ []))
  paired s e f g =
      ap (λ s. Tree kind.ParenExpr (s ∷ heading q (m e) true ∷ [])) (heading_put q (q (span_of (m e))) (m s))
      ∙ ap (λ r. Tree kind.ParenExpr (put (q r) (heading q (m s) true) ∷ heading q (m e) true ∷ [])) (sym (heading_stands q (m e)))
      ∙ ap (λ e. Tree kind.ParenExpr (put (q (span_of e)) (heading q (m s) true) ∷ e ∷ [])) (g true)
      ∙ ap (λ s. Tree kind.ParenExpr (put (q (span_of (m (heading p e true)))) s ∷ m (heading p e true) ∷ [])) (f true)
      ∙ sym (placed_of_tree q kind.ParenExpr (heading p s true ∷ heading p e true ∷ []))

  head_row : (b : Bool) (k : Kind) (ts : List Node) → Each Headed ts → in_step q (Node-F.Tree k (map (heading q) (placed_fields q k (map m ts)))) b ≡ m (in_step p (Node-F.Tree k (map (heading p) ts)) b)
  head_row b kind.ParenExpr (s ∷ e ∷ []) l = rolls-Tree kind.ParenExpr (heading q (put (q (span_of (m e))) (m s)) true ∷ heading q (m e) true ∷ []) ∙ paired s e l.0 l.1.0 ∙ ap m (sym (rolls-Tree kind.ParenExpr (heading p s true ∷ heading p e true ∷ [])))
  head_row b kind.BinExpr (s ∷ o ∷ f ∷ g ∷ []) l = binary b s o f g l.0 l.1.0 l.1.1.0 l.1.1.1.0
  head_row b kind.SeqExpr (s ∷ e ∷ []) l = two kind.SeqExpr refl s e true b l.0 l.1.0
  head_row b kind.AssignExpr (s ∷ o ∷ f ∷ g ∷ []) l = four kind.AssignExpr refl s o f g true true b b l.0 l.1.0 l.1.1.0 l.1.1.1.0
  head_row b kind.CondExpr (s ∷ t ∷ c ∷ a ∷ []) l = four kind.CondExpr refl s t c a true b true b l.0 l.1.0 l.1.1.0 l.1.1.1.0
  head_row b kind.UnaryExpr (s ∷ o ∷ a ∷ []) l = three kind.UnaryExpr refl s o a true true b l.0 l.1.0 l.1.1.0
  head_row b kind.AwaitExpr (s ∷ a ∷ []) l = two kind.AwaitExpr refl s a true b l.0 l.1.0
  head_row b kind.UpdateExpr (s ∷ o ∷ f ∷ a ∷ []) l = four kind.UpdateExpr refl s o f a true true true b l.0 l.1.0 l.1.1.0 l.1.1.1.0
  head_row b kind.YieldExpr (s ∷ a ∷ d ∷ []) l = three kind.YieldExpr refl s a d true b true l.0 l.1.0 l.1.1.0
  head_row b kind.MemberExpr (s ∷ o ∷ m ∷ []) l = three kind.MemberExpr refl s o m true b true l.0 l.1.0 l.1.1.0
  head_row b kind.TaggedTpl (s ∷ o ∷ m ∷ []) l = three kind.TaggedTpl refl s o m true b true l.0 l.1.0 l.1.1.0
  head_row b kind.CallExpr (s ∷ o ∷ m ∷ []) l = three kind.CallExpr refl s o m true b true l.0 l.1.0 l.1.1.0
  head_row b kind.NewExpr (s ∷ o ∷ m ∷ []) l = three kind.NewExpr refl s o m true b true l.0 l.1.0 l.1.1.0
  head_row b kind.OptChainExpr (s ∷ o ∷ m ∷ []) l = three kind.OptChainExpr refl s o m true true b l.0 l.1.0 l.1.1.0
  head_row b kind.OptCall (s ∷ o ∷ m ∷ []) l = three kind.OptCall refl s o m true b true l.0 l.1.0 l.1.1.0
  head_row b kind.ArrowExpr (s ∷ a ∷ e ∷ f ∷ []) l = four kind.ArrowExpr refl s a e f true true b true l.0 l.1.0 l.1.1.0 l.1.1.1.0
  head_row b kind.VarDecl (s ∷ w ∷ d ∷ []) l = three kind.VarDecl refl s w d true true b l.0 l.1.0 l.1.1.0
  head_row b kind.VarDeclarator (s ∷ n ∷ i ∷ []) l = three kind.VarDeclarator refl s n i true b b l.0 l.1.0 l.1.1.0
  head_row b kind.AssignPat (s ∷ f ∷ a ∷ []) l = three kind.AssignPat refl s f a true b b l.0 l.1.0 l.1.1.0
  head_row b kind.RestPat (s ∷ a ∷ []) l = two kind.RestPat refl s a true b l.0 l.1.0
  head_row b kind.ForStmt (s ∷ i ∷ t ∷ u ∷ e ∷ []) l = five kind.ForStmt refl s i t u e true false true true true l.0 l.1.0 l.1.1.0 l.1.1.1.0 l.1.1.1.1.0
  head_row b kind.ForInStmt (s ∷ i ∷ r ∷ e ∷ []) l = four kind.ForInStmt refl s i r e true false true true l.0 l.1.0 l.1.1.0 l.1.1.1.0
  head_row b kind.ForOfStmt (s ∷ w ∷ i ∷ r ∷ e ∷ []) l =
      let h = ap (λ u. of_head q u (heading q (m i) false)) (l.1.0 true) ∙ ap (of_head q (m (heading p w true))) (l.1.1.0 false) ∙ head_same (heading p w true) (heading p i false) in
      rw (h, l.0 true, l.1.0 true, l.1.1.1.0 true, l.1.1.1.1.0 true) (sym (placed_other q kind.ForOfStmt (heading p s true ∷ heading p w true ∷ of_head p (heading p w true) (heading p i false) ∷ heading p r true ∷ heading p e true ∷ []) refl))
  head_row b k ts l =
      rolls-Tree k (map free (map (heading q) (map m ts))) ∙ ap (Tree k) (each_headed ts true l) ∙ sym (ap m (rolls-Tree k (map free (map (heading p) ts))) ∙ placed_of_tree q k (map free (map (heading p) ts)))

  heads_same : (t : Node) → Headed t
  heads_same t = by_children Headed
      (λ b. search (rules, the_lemmas), λ x b. search (rules, the_lemmas), λ w b. search (rules, the_lemmas), λ x b. search (rules, the_lemmas), λ s b. search (rules, the_lemmas), λ k i b. search (rules, the_lemmas))
      (λ ts l b. ap (λ t. heading q t b) (placed_of_list q ts) ∙ heading_list q (map m ts) b ∙ ap Many (each_headed ts b l) ∙ sym (ap m (heading_list p ts b) ∙ placed_of_list q (map (λ f. f b) (map (heading p) ts))))
      (λ k ts l b. ap (λ t. heading q t b) (placed_of_tree q k ts) ∙ heading_tree q k (placed_fields q k (map m ts)) b ∙ head_row b k ts l ∙ ap m (sym (heading_tree p k ts b))) t

pub heads_placed : (p q : Places) (t : Node) → paired_in_heads q (placed q t) ≡ placed q (paired_in_heads p t)
heads_placed p q t = heads_same p q t true
