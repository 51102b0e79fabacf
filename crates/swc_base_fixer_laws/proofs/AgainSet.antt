-- The second and the third step of the due pairs set pairs, besides what the second makes of `async` before `of`.
use Rattle.std.proofs.Common.{◌≡◌, Bool, true, false, not, ◌&&◌, List, [], ◌∷◌, map, sym, ap, ◌∙◌, rules}
use Rattle.std.specs.Prelude.{if◌then◌else◌}
use Rattle.swc_tree_marks.specs.declared.ident.Ident.{Ident}
use Rattle.swc_tree_node.specs.declared.kind.Kind.{Kind}
use Rattle.swc_tree_node.specs.declared.kind.Kind.TheVariants as kind
use Rattle.swc_tree_node.specs.declared.node.Node.{Node, Absent, Flag, Word, Text, Span, List as Many, Identifier, Tree, out-Node, the_lemmas}
use Rattle.swc_tree_node.specs.declared.node.Node.TheVariants.{rolls-Tree}
use Rattle.swc_tree_node.specs.declared.node.Node.TheOpen.{Node-F}
use Rattle.swc_tree_grammar.specs.Kinds.{has_kind, is_paren, is_block, is_object_pattern}
use Rattle.swc_tree_grammar.specs.Levels.{word_of, is_in}
use Rattle.swc_tree_grammar.specs.Forms.{holds}
use Rattle.swc_tree_grammar.specs.Starts.{Start, start, is_let_bracket}
use Rattle.swc_tree_grammar.specs.Grammar.{is_async_name, may_begin_statement, may_begin_export, may_begin_body}
use Rattle.swc_tree_grammar.specs.Due.{Places, free, pair, in_step, of_head, async_in, paired_in_heads, first_in, begun, begin_step, paired_at_starts}
use Rattle.swc_tree_grammar.proofs.Induction.{Each, by_children}
use Rattle.swc_tree_grammar_laws.proofs.Heads.{heading, heading_tree, heading_list}
use Rattle.swc_tree_grammar_laws.proofs.Begins.{spined, first_paired, spine_whole, first_of_tree, first_empty, first_of_list, starts_of_tree, starts_of_list}
use Rattle.swc_base_fixer_laws.specs.Named.{named, named_fields, expression_in, expression}
use Rattle.swc_base_fixer_laws.proofs.AgainNamed.{named_of_tree, named_of_list}
use Rattle.swc_base_fixer_laws.proofs.AgainMore.{More, AllMore, all_same, more_pair, stays}
use Rattle.swc_base_fixer_laws.proofs.AgainMore.More.{same, after, around, items, tree}
use Rattle.swc_base_fixer_laws.proofs.AgainMore.AllMore.{none, more}

-- a tree stays one
abbrev pub is_tree : Node → Bool
is_tree t = has_kind (λ k. true) t

pub tree_is : (k : Kind) (ts : List Node) → is_tree (Tree k ts) ≡ true
tree_is k ts = search (rules, the_lemmas)

no_tree : (ts : List Node) → is_tree (Many ts) ≡ false
no_tree ts = search (rules, the_lemmas)

pub more_tree : {t u : Node} → More t u → is_tree t ≡ true → is_tree u ≡ true
more_tree (same t) h = h
more_tree (after c d) h = more_tree d (more_tree c h)
more_tree (around r t u d) h = tree_is kind.ParenExpr (Span r ∷ u ∷ [])
more_tree (items ts us d) h = absurd (cc (sym (no_tree ts) ∙ h))
more_tree (tree k ts us d) h = tree_is k us

pub tree_holds : (t : Node) → is_tree t ≡ true → holds t ≡ false
tree_holds t = by_children (λ t. is_tree t ≡ true → holds t ≡ false)
    (λ h. search (rules, the_lemmas), λ x h. absurd (cc (sym (let e : is_tree (Flag x) ≡ false = search (rules, the_lemmas) in e) ∙ h)), λ w h. search (rules, the_lemmas), λ x h. search (rules, the_lemmas), λ s h. search (rules, the_lemmas), λ k i h. search (rules, the_lemmas))
    (λ ts l h. search (rules, the_lemmas)) (λ k ts l h. search (rules, the_lemmas)) t

tree_async : (p : Places) (w : Bool) (t : Node) → is_tree t ≡ true → async_in p w t (out-Node t) ≡ t
tree_async p w t = by_children (λ t. is_tree t ≡ true → async_in p w t (out-Node t) ≡ t)
    (λ h. search (rules, the_lemmas), λ x h. search (rules, the_lemmas), λ w h. search (rules, the_lemmas), λ x h. search (rules, the_lemmas), λ s h. search (rules, the_lemmas), λ k i h. absurd (cc (sym (let e : is_tree (Identifier k i) ≡ false = search (rules, the_lemmas) in e) ∙ h)))
    (λ ts l h. search (rules, the_lemmas)) (λ k ts l h. search (rules, the_lemmas)) t

-- the second step
abbrev Headed : Places → Node → Type 0
Headed p t = (b : Bool) → More (named t) (heading p t b)

tree_named : (k : Kind) (ts : List Node) → is_tree (named (Tree k ts)) ≡ true
tree_named k ts = ap is_tree (named_of_tree k ts) ∙ tree_is k (named_fields k (map named ts))

holds_headed : (p : Places) (t : Node) → Headed p t → holds (heading p t true) ≡ holds (named t)
holds_headed p t = by_children (λ t. Headed p t → holds (heading p t true) ≡ holds (named t))
    (λ h. search (rules, the_lemmas), λ x h. search (rules, the_lemmas), λ w h. search (rules, the_lemmas), λ x h. search (rules, the_lemmas), λ s h. search (rules, the_lemmas), λ k i h. search (rules, the_lemmas))
    (λ ts l h. search (rules, the_lemmas))
    (λ k ts l h. tree_holds (heading p (Tree k ts) true) (more_tree (h true) (tree_named k ts)) ∙ sym (tree_holds (named (Tree k ts)) (tree_named k ts))) t

name_if : (b : Bool) (p : Places) (k : Kind) (i : Ident) → More (if b then Identifier kind.Ident i else Identifier k i) (if b then pair p (Identifier kind.Ident i) else Identifier k i)
name_if true p k i = more_pair p (same (Identifier kind.Ident i))
name_if false p k i = same (Identifier k i)

abbrev HeadOf : Places → Bool → Node → Type 0
HeadOf p w t = Headed p t → More (expression_in w (named t) (out-Node (named t))) (async_in p w (heading p t false) (out-Node (heading p t false)))

leaf_head : (p : Places) (w : Bool) (t : Node) → expression_in w (named t) (out-Node (named t)) ≡ t → async_in p w (heading p t false) (out-Node (heading p t false)) ≡ t → HeadOf p w t
leaf_head p w t e g h = rw (e, g) (same t)

head_of : (p : Places) (w : Bool) (t : Node) → HeadOf p w t
head_of p w t = by_children (HeadOf p w) (
  leaf_head p w Absent (search (rules, the_lemmas)) (search (rules, the_lemmas)),
  λ x. leaf_head p w (Flag x) (search (rules, the_lemmas)) (search (rules, the_lemmas)),
  λ v. leaf_head p w (Word v) (search (rules, the_lemmas)) (search (rules, the_lemmas)),
  λ x. leaf_head p w (Text x) (search (rules, the_lemmas)) (search (rules, the_lemmas)),
  λ s. leaf_head p w (Span s) (search (rules, the_lemmas)) (search (rules, the_lemmas)),
  λ k i h. (
      let n : expression_in w (named (Identifier k i)) (out-Node (named (Identifier k i))) ≡ (if is_async_name (Identifier k i) && not w then Identifier kind.Ident i else Identifier k i) = search (rules, the_lemmas) in
      let a : async_in p w (heading p (Identifier k i) false) (out-Node (heading p (Identifier k i) false)) ≡ (if is_async_name (Identifier k i) && not w then pair p (Identifier kind.Ident i) else Identifier k i) = search (rules, the_lemmas) in
      rw (n, a) (name_if (is_async_name (Identifier k i) && not w) p k i)
      ),
)
    (λ ts l h. (
    let n : expression_in w (Many (map named ts)) (out-Node (Many (map named ts))) ≡ Many (map named ts) = search (rules, the_lemmas) in
    let us = map (λ f. f false) (map (heading p) ts) in let a : async_in p w (Many us) (out-Node (Many us)) ≡ Many us = search (rules, the_lemmas) in
    let e = ap (λ t. expression_in w t (out-Node t)) (named_of_list ts) ∙ n ∙ sym (named_of_list ts) in let g = ap (λ t. async_in p w t (out-Node t)) (heading_list p ts false) ∙ a ∙ sym (heading_list p ts false) in
    rw (e, g) (h false)
    ))
    (λ k ts l h. (
    let us = named_fields k (map named ts) in let n : expression_in w (Tree k us) (out-Node (Tree k us)) ≡ Tree k us = search (rules, the_lemmas) in
    let e = ap (λ t. expression_in w t (out-Node t)) (named_of_tree k ts) ∙ n ∙ sym (named_of_tree k ts) in let g = tree_async p w (heading p (Tree k ts) false) (more_tree (h false) (tree_named k ts)) in
    rw (e, g) (h false)
    )) t

all_headed : (p : Places) (ts : List Node) (b : Bool) → Each (Headed p) ts → AllMore (map named ts) (map (λ f. f b) (map (heading p) ts))
all_headed p [] b l = none
all_headed p (t ∷ ts) b l = more (l.0 b) (all_headed p ts b l.1)

binary_if : (c : Bool) (p : Places) (s o f g : Node) (s' o' : Node) (f' g' : Bool → Node) (b : Bool) → More s s' → More o o' → ((b : Bool) → More f (f' b)) → ((b : Bool) → More g (g' b))
    → More (Tree kind.BinExpr (s ∷ o ∷ f ∷ g ∷ [])) (if c then pair p (Tree kind.BinExpr (s' ∷ o' ∷ f' true ∷ g' true ∷ [])) else Tree kind.BinExpr (s' ∷ o' ∷ f' b ∷ g' b ∷ []))
binary_if true p s o f g s' o' f' g' b x y z w = more_pair p (tree kind.BinExpr (s ∷ o ∷ f ∷ g ∷ []) (s' ∷ o' ∷ f' true ∷ g' true ∷ []) (more x (more y (more (z true) (more (w true) none)))))
binary_if false p s o f g s' o' f' g' b x y z w = tree kind.BinExpr (s ∷ o ∷ f ∷ g ∷ []) (s' ∷ o' ∷ f' b ∷ g' b ∷ []) (more x (more y (more (z b) (more (w b) none))))

two : (p : Places) (k : Kind) (a b : Node) (x y : Bool) → Headed p a → Headed p b → More (Tree k (named a ∷ named b ∷ [])) (Tree k (heading p a x ∷ heading p b y ∷ []))
two p k a b x y f g = tree k (named a ∷ named b ∷ []) (heading p a x ∷ heading p b y ∷ []) (more (f x) (more (g y) none))

three : (p : Places) (k : Kind) (a b c : Node) (x y z : Bool) → Headed p a → Headed p b → Headed p c → More (Tree k (named a ∷ named b ∷ named c ∷ [])) (Tree k (heading p a x ∷ heading p b y ∷ heading p c z ∷ []))
three p k a b c x y z f g h = tree k (named a ∷ named b ∷ named c ∷ []) (heading p a x ∷ heading p b y ∷ heading p c z ∷ []) (more (f x) (more (g y) (more (h z) none)))

four : (p : Places) (k : Kind) (a b c d : Node) (x y z w : Bool) → Headed p a → Headed p b → Headed p c → Headed p d → More (Tree k (named a ∷ named b ∷ named c ∷ named d ∷ [])) (Tree k (heading p a x ∷ heading p b y ∷ heading p c z ∷ heading p d w ∷ []))
four p k a b c d x y z w f g h j = tree k (named a ∷ named b ∷ named c ∷ named d ∷ []) (heading p a x ∷ heading p b y ∷ heading p c z ∷ heading p d w ∷ []) (more (f x) (more (g y) (more (h z) (more (j w) none))))

head_row : (p : Places) (b : Bool) (k : Kind) (ts : List Node) → Each (Headed p) ts → More (Tree k (named_fields k (map named ts))) (in_step p (Node-F.Tree k (map (heading p) ts)) b)
head_row p b kind.BinExpr (s ∷ o ∷ f ∷ g ∷ []) l = binary_if (is_in (word_of (heading p o true)) && not b) p (named s) (named o) (named f) (named g) (heading p s true) (heading p o true) (heading p f) (heading p g) b (l.0 true) (l.1.0 true) l.1.1.0 l.1.1.1.0
head_row p b kind.SeqExpr (s ∷ e ∷ []) l = two p kind.SeqExpr s e true b l.0 l.1.0
head_row p b kind.AssignExpr (s ∷ o ∷ f ∷ g ∷ []) l = four p kind.AssignExpr s o f g true true b b l.0 l.1.0 l.1.1.0 l.1.1.1.0
head_row p b kind.CondExpr (s ∷ t ∷ c ∷ a ∷ []) l = four p kind.CondExpr s t c a true b true b l.0 l.1.0 l.1.1.0 l.1.1.1.0
head_row p b kind.UnaryExpr (s ∷ o ∷ a ∷ []) l = three p kind.UnaryExpr s o a true true b l.0 l.1.0 l.1.1.0
head_row p b kind.AwaitExpr (s ∷ a ∷ []) l = two p kind.AwaitExpr s a true b l.0 l.1.0
head_row p b kind.UpdateExpr (s ∷ o ∷ f ∷ a ∷ []) l = four p kind.UpdateExpr s o f a true true true b l.0 l.1.0 l.1.1.0 l.1.1.1.0
head_row p b kind.YieldExpr (s ∷ a ∷ d ∷ []) l = three p kind.YieldExpr s a d true b true l.0 l.1.0 l.1.1.0
head_row p b kind.MemberExpr (s ∷ o ∷ m ∷ []) l = three p kind.MemberExpr s o m true b true l.0 l.1.0 l.1.1.0
head_row p b kind.TaggedTpl (s ∷ o ∷ m ∷ []) l = three p kind.TaggedTpl s o m true b true l.0 l.1.0 l.1.1.0
head_row p b kind.CallExpr (s ∷ o ∷ m ∷ []) l = three p kind.CallExpr s o m true b true l.0 l.1.0 l.1.1.0
head_row p b kind.NewExpr (s ∷ o ∷ m ∷ []) l = three p kind.NewExpr s o m true b true l.0 l.1.0 l.1.1.0
head_row p b kind.OptChainExpr (s ∷ o ∷ m ∷ []) l = three p kind.OptChainExpr s o m true true b l.0 l.1.0 l.1.1.0
head_row p b kind.OptCall (s ∷ o ∷ m ∷ []) l = three p kind.OptCall s o m true b true l.0 l.1.0 l.1.1.0
head_row p b kind.ArrowExpr (s ∷ a ∷ e ∷ f ∷ []) l = four p kind.ArrowExpr s a e f true true b true l.0 l.1.0 l.1.1.0 l.1.1.1.0
head_row p b kind.VarDecl (s ∷ w ∷ d ∷ []) l = three p kind.VarDecl s w d true true b l.0 l.1.0 l.1.1.0
head_row p b kind.VarDeclarator (s ∷ n ∷ i ∷ []) l = three p kind.VarDeclarator s n i true b b l.0 l.1.0 l.1.1.0
head_row p b kind.AssignPat (s ∷ f ∷ a ∷ []) l = three p kind.AssignPat s f a true b b l.0 l.1.0 l.1.1.0
head_row p b kind.RestPat (s ∷ a ∷ []) l = two p kind.RestPat s a true b l.0 l.1.0
head_row p b kind.ForStmt (s ∷ i ∷ t ∷ u ∷ e ∷ []) l =
    tree kind.ForStmt (named s ∷ named i ∷ named t ∷ named u ∷ named e ∷ []) (heading p s true ∷ heading p i false ∷ heading p t true ∷ heading p u true ∷ heading p e true ∷ [])
    (more (l.0 true) (more (l.1.0 false) (more (l.1.1.0 true) (more (l.1.1.1.0 true) (more (l.1.1.1.1.0 true) none)))))
head_row p b kind.ForInStmt (s ∷ i ∷ r ∷ e ∷ []) l = four p kind.ForInStmt s i r e true false true true l.0 l.1.0 l.1.1.0 l.1.1.1.0
head_row p b kind.ForOfStmt (s ∷ w ∷ i ∷ r ∷ e ∷ []) l =
    let h = head_of p (holds (heading p w true)) i l.1.1.0 in
    tree kind.ForOfStmt (named s ∷ named w ∷ expression (named w) (named i) ∷ named r ∷ named e ∷ []) (heading p s true ∷ heading p w true ∷ of_head p (heading p w true) (heading p i false) ∷ heading p r true ∷ heading p e true ∷ [])
    (more (l.0 true) (more (l.1.0 true) (more (rw (sym (holds_headed p w l.1.0)) h) (more (l.1.1.1.0 true) (more (l.1.1.1.1.0 true) none)))))
head_row p b k ts l = rw (rolls-Tree k (map free (map (heading p) ts))) (tree k (map named ts) (map free (map (heading p) ts)) (all_headed p ts true l))

pub in_heads : (p : Places) (t : Node) → Headed p t
in_heads p t = by_children (Headed p)
    (λ b. stays (search (rules, the_lemmas)), λ x b. stays (search (rules, the_lemmas)), λ w b. stays (search (rules, the_lemmas)), λ x b. stays (search (rules, the_lemmas)), λ s b. stays (search (rules, the_lemmas)), λ k i b. stays (search (rules, the_lemmas)))
    (λ ts l b. rw (heading_list p ts b, named_of_list ts) (items (map named ts) (map (λ f. f b) (map (heading p) ts)) (all_headed p ts b l)))
    (λ k ts l b. rw (heading_tree p k ts b, named_of_tree k ts) (head_row p b k ts l)) t

pub heads_more : (p : Places) (t : Node) → More (named t) (paired_in_heads p t)
heads_more p t = in_heads p t true

-- the third step
abbrev Begun : Places → Node → Type 0
Begun p t = More t (first_paired p t)

choose : (b : Bool) (p : Places) (t u : Node) → More t u → More t (if b then pair p t else u)
choose true p t u d = more_pair p (same t)
choose false p t u d = d

begun_row : (p : Places) (k : Kind) (ts : List Node) → Each (Begun p) ts → More (Tree k ts) (first_in p (Tree k ts) (Node-F.Tree k (map (spined p) ts)))
begun_row p kind.SeqExpr (s ∷ e ∷ []) l = rw (spine_whole p s) (tree kind.SeqExpr (s ∷ e ∷ []) (s ∷ first_paired p e ∷ []) (more (same s) (more l.1.0 none)))
begun_row p kind.AssignExpr (s ∷ o ∷ f ∷ r ∷ []) l =
    rw (spine_whole p s, spine_whole p o, spine_whole p f, spine_whole p r)
    (choose (has_kind is_object_pattern f) p (Tree kind.AssignExpr (s ∷ o ∷ f ∷ r ∷ [])) (Tree kind.AssignExpr (s ∷ o ∷ first_paired p f ∷ r ∷ []))
    (tree kind.AssignExpr (s ∷ o ∷ f ∷ r ∷ []) (s ∷ o ∷ first_paired p f ∷ r ∷ []) (more (same s) (more (same o) (more l.1.1.0 (more (same r) none))))))
begun_row p kind.CondExpr (s ∷ o ∷ f ∷ r ∷ []) l =
    rw (spine_whole p s, spine_whole p f, spine_whole p r) (tree kind.CondExpr (s ∷ o ∷ f ∷ r ∷ []) (s ∷ first_paired p o ∷ f ∷ r ∷ []) (more (same s) (more l.1.0 (more (same f) (more (same r) none)))))
begun_row p kind.BinExpr (s ∷ o ∷ f ∷ r ∷ []) l =
    rw (spine_whole p s, spine_whole p o, spine_whole p r) (tree kind.BinExpr (s ∷ o ∷ f ∷ r ∷ []) (s ∷ o ∷ first_paired p f ∷ r ∷ []) (more (same s) (more (same o) (more l.1.1.0 (more (same r) none)))))
begun_row p kind.UpdateExpr (s ∷ o ∷ f ∷ r ∷ []) l =
    rw (spine_whole p s, spine_whole p o, spine_whole p f) (tree kind.UpdateExpr (s ∷ o ∷ f ∷ r ∷ []) (s ∷ o ∷ f ∷ first_paired p r ∷ []) (more (same s) (more (same o) (more (same f) (more l.1.1.1.0 none)))))
begun_row p kind.MemberExpr (s ∷ o ∷ m ∷ []) l =
    rw (spine_whole p s, spine_whole p m)
    (choose (is_let_bracket (Tree kind.MemberExpr (s ∷ o ∷ m ∷ []))) p (Tree kind.MemberExpr (s ∷ o ∷ m ∷ [])) (Tree kind.MemberExpr (s ∷ first_paired p o ∷ m ∷ []))
    (tree kind.MemberExpr (s ∷ o ∷ m ∷ []) (s ∷ first_paired p o ∷ m ∷ []) (more (same s) (more l.1.0 (more (same m) none)))))
begun_row p kind.TaggedTpl (s ∷ o ∷ m ∷ []) l = rw (spine_whole p s, spine_whole p m) (tree kind.TaggedTpl (s ∷ o ∷ m ∷ []) (s ∷ first_paired p o ∷ m ∷ []) (more (same s) (more l.1.0 (more (same m) none))))
begun_row p kind.CallExpr (s ∷ o ∷ m ∷ []) l = rw (spine_whole p s, spine_whole p m) (tree kind.CallExpr (s ∷ o ∷ m ∷ []) (s ∷ first_paired p o ∷ m ∷ []) (more (same s) (more l.1.0 (more (same m) none))))
begun_row p kind.OptChainExpr (s ∷ o ∷ m ∷ []) l =
    rw (spine_whole p s, spine_whole p o)
    (choose (has_kind is_paren (first_paired p m)) p (Tree kind.OptChainExpr (s ∷ o ∷ m ∷ [])) (Tree kind.OptChainExpr (s ∷ o ∷ first_paired p m ∷ []))
    (tree kind.OptChainExpr (s ∷ o ∷ m ∷ []) (s ∷ o ∷ first_paired p m ∷ []) (more (same s) (more (same o) (more l.1.1.0 none)))))
begun_row p kind.OptCall (s ∷ o ∷ m ∷ []) l = rw (spine_whole p s, spine_whole p m) (tree kind.OptCall (s ∷ o ∷ m ∷ []) (s ∷ first_paired p o ∷ m ∷ []) (more (same s) (more l.1.0 (more (same m) none))))
begun_row p k ts l = more_pair p (same (Tree k ts))

begun_leaf : (p : Places) (t : Node) → first_paired p t ≡ pair p t → Begun p t
begun_leaf p t e = rw e (more_pair p (same t))

begun_list : (p : Places) (ts : List Node) → Each (Begun p) ts → Begun p (Many ts)
begun_list p [] l = rw (first_empty p) (more_pair p (same (Many [])))
begun_list p (t ∷ ts) l = rw (first_of_list p t ts) (items (t ∷ ts) (first_paired p t ∷ ts) (more l.0 (all_same ts)))

begins : (p : Places) (t : Node) → Begun p t
begins p t = by_children (Begun p)
    (begun_leaf p Absent (search (rules, the_lemmas)), λ x. begun_leaf p (Flag x) (search (rules, the_lemmas)), λ w. begun_leaf p (Word w) (search (rules, the_lemmas)), λ x. begun_leaf p (Text x) (search (rules, the_lemmas)), λ s. begun_leaf p (Span s) (search (rules, the_lemmas)), λ k i. begun_leaf p (Identifier k i) (search (rules, the_lemmas)))
    (λ ts l. begun_list p ts l)
    (λ k ts l. rw (first_of_tree p k ts) (begun_row p k ts l)) t

if_begun : (b : Bool) (p : Places) (e : Node) → More e (if b then e else first_paired p e)
if_begun true p e = same e
if_begun false p e = begins p e

begun_more : (p : Places) (may : Start → Bool) (e : Node) → More e (begun p may e)
begun_more p may e = if_begun (may (start e)) p e

body_more : (b : Bool) (p : Places) (e : Node) → More e (if b then e else begun p may_begin_body e)
body_more true p e = same e
body_more false p e = begun_more p may_begin_body e

start_row : (p : Places) (k : Kind) (us : List Node) → More (Tree k us) (begin_step p (Node-F.Tree k us))
start_row p kind.ExprStmt (s ∷ e ∷ []) = tree kind.ExprStmt (s ∷ e ∷ []) (s ∷ begun p may_begin_statement e ∷ []) (more (same s) (more (begun_more p may_begin_statement e) none))
start_row p kind.ExportDefaultExpr (s ∷ e ∷ []) = tree kind.ExportDefaultExpr (s ∷ e ∷ []) (s ∷ begun p may_begin_export e ∷ []) (more (same s) (more (begun_more p may_begin_export e) none))
start_row p kind.ArrowExpr (s ∷ a ∷ e ∷ f ∷ []) =
    tree kind.ArrowExpr (s ∷ a ∷ e ∷ f ∷ []) (s ∷ a ∷ (if has_kind is_block e then e else begun p may_begin_body e) ∷ f ∷ []) (more (same s) (more (same a) (more (body_more (has_kind is_block e) p e) (more (same f) none))))
start_row p k us = rw (rolls-Tree k us) (same (Tree k us))

abbrev Started : Places → Node → Type 0
Started p t = More t (paired_at_starts p t)

all_started : (p : Places) (ts : List Node) → Each (Started p) ts → AllMore ts (map (paired_at_starts p) ts)
all_started p [] l = none
all_started p (t ∷ ts) l = more l.0 (all_started p ts l.1)

pub starts_more : (p : Places) (t : Node) → Started p t
starts_more p t = by_children (Started p)
    (stays (search (rules, the_lemmas)), λ x. stays (search (rules, the_lemmas)), λ w. stays (search (rules, the_lemmas)), λ x. stays (search (rules, the_lemmas)), λ s. stays (search (rules, the_lemmas)), λ k i. stays (search (rules, the_lemmas)))
    (λ ts l. rw (starts_of_list p ts) (items ts (map (paired_at_starts p) ts) (all_started p ts l)))
    (λ k ts l. (let us = map (paired_at_starts p) ts in rw (starts_of_tree p k ts) (after (tree k ts us (all_started p ts l)) (start_row p k us)))) t
