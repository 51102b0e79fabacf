-- The second step keeps what is seen of a node from above, where `in` may stand bare; its clue, anywhere.
use Rattle.std.proofs.Common.{◌≡◌, Bool, true, false, not, ◌&&◌, List, [], ◌∷◌, map, refl, sym, ap, subst, ◌∙◌, rules}
use Rattle.std.specs.Prelude.{if◌then◌else◌}
use Rattle.swc_tree_node.specs.declared.kind.Kind.{Kind}
use Rattle.swc_tree_node.specs.declared.kind.Kind.TheVariants as kind
use Rattle.swc_tree_node.specs.declared.node.Node.{Node, Absent, Flag, Word, Text, Span, List as Many, Identifier, Tree, roll-Node, the_lemmas}
use Rattle.swc_tree_node.specs.declared.node.Node.TheOpen.{Node-F}
use Rattle.swc_tree_node.specs.declared.node.Node.TheVariants.{rolls-Tree}
use Rattle.swc_tree_grammar.specs.Levels.{word_of, is_in}
use Rattle.swc_tree_grammar.specs.Blocks.{span_of}
use Rattle.swc_tree_grammar.specs.Due.{Places, pair as in_pair, free, in_step, of_head}
use Rattle.swc_tree_grammar.proofs.Induction.{Each, by_children}
use Rattle.swc_tree_grammar_laws.proofs.Heads.{heading, heading_tree, heading_list}
use Rattle.swc_base_fixer_needs.specs.Sites.{clue}
use Rattle.swc_base_fixer_needs.proofs.Paths.{clue_of_tree, clue_of_list}
use Rattle.swc_base_fixer_needs.proofs.LevelNodes.{OfKind}
use Rattle.swc_base_fixer_needs.proofs.Views.{View, Parts, Views, view_same, view_of_tree, view_of_list, parts_bin, parts_member, parts_tagged, parts_new, parts_unary, parts_assign, parts_computed, parts_other, looks_below}

abbrev pub headed : Places → Kind → List Node → Bool → Node
headed p k ts v = in_step p (Node-F.Tree k (map (heading p) ts)) v

abbrev pub freed : Places → List Node → List Node
freed p ts = map free (map (heading p) ts)

abbrev pub is_binary : Kind → Bool
is_binary kind.BinExpr = true
is_binary _ = false

-- what is made of a tree is one of its kind, but for the pair round an `in`
abbrev pub headed_kind : (p : Places) (k : Kind) (ts : List Node) (v : Bool) → is_binary k ≡ false → OfKind k (headed p k ts v)
headed_kind p kind.BinExpr ts v n = absurd (cc)
headed_kind p kind.SeqExpr (s ∷ e ∷ []) v h = record { fields = heading p s true ∷ heading p e v ∷ []; same = refl }
headed_kind p kind.AssignExpr (s ∷ o ∷ f ∷ x ∷ []) v h = record { fields = heading p s true ∷ heading p o true ∷ heading p f v ∷ heading p x v ∷ []; same = refl }
headed_kind p kind.CondExpr (s ∷ t ∷ x ∷ y ∷ []) v h = record { fields = heading p s true ∷ heading p t v ∷ heading p x true ∷ heading p y v ∷ []; same = refl }
headed_kind p kind.UnaryExpr (s ∷ o ∷ x ∷ []) v h = record { fields = heading p s true ∷ heading p o true ∷ heading p x v ∷ []; same = refl }
headed_kind p kind.AwaitExpr (s ∷ x ∷ []) v h = record { fields = heading p s true ∷ heading p x v ∷ []; same = refl }
headed_kind p kind.UpdateExpr (s ∷ o ∷ f ∷ x ∷ []) v h = record { fields = heading p s true ∷ heading p o true ∷ heading p f true ∷ heading p x v ∷ []; same = refl }
headed_kind p kind.YieldExpr (s ∷ x ∷ d ∷ []) v h = record { fields = heading p s true ∷ heading p x v ∷ heading p d true ∷ []; same = refl }
headed_kind p kind.MemberExpr (s ∷ o ∷ m ∷ []) v h = record { fields = heading p s true ∷ heading p o v ∷ heading p m true ∷ []; same = refl }
headed_kind p kind.TaggedTpl (s ∷ o ∷ m ∷ []) v h = record { fields = heading p s true ∷ heading p o v ∷ heading p m true ∷ []; same = refl }
headed_kind p kind.CallExpr (s ∷ o ∷ m ∷ []) v h = record { fields = heading p s true ∷ heading p o v ∷ heading p m true ∷ []; same = refl }
headed_kind p kind.NewExpr (s ∷ o ∷ m ∷ []) v h = record { fields = heading p s true ∷ heading p o v ∷ heading p m true ∷ []; same = refl }
headed_kind p kind.OptChainExpr (s ∷ o ∷ b ∷ []) v h = record { fields = heading p s true ∷ heading p o true ∷ heading p b v ∷ []; same = refl }
headed_kind p kind.OptCall (s ∷ o ∷ m ∷ []) v h = record { fields = heading p s true ∷ heading p o v ∷ heading p m true ∷ []; same = refl }
headed_kind p kind.ArrowExpr (s ∷ x ∷ b ∷ f ∷ []) v h = record { fields = heading p s true ∷ heading p x true ∷ heading p b v ∷ heading p f true ∷ []; same = refl }
headed_kind p kind.VarDecl (s ∷ o ∷ d ∷ []) v h = record { fields = heading p s true ∷ heading p o true ∷ heading p d v ∷ []; same = refl }
headed_kind p kind.VarDeclarator (s ∷ n ∷ e ∷ []) v h = record { fields = heading p s true ∷ heading p n v ∷ heading p e v ∷ []; same = refl }
headed_kind p kind.AssignPat (s ∷ f ∷ x ∷ []) v h = record { fields = heading p s true ∷ heading p f v ∷ heading p x v ∷ []; same = refl }
headed_kind p kind.RestPat (s ∷ x ∷ []) v h = record { fields = heading p s true ∷ heading p x v ∷ []; same = refl }
headed_kind p kind.ForStmt (s ∷ i ∷ t ∷ u ∷ b ∷ []) v h = record { fields = heading p s true ∷ heading p i false ∷ heading p t true ∷ heading p u true ∷ heading p b true ∷ []; same = refl }
headed_kind p kind.ForInStmt (s ∷ f ∷ e ∷ b ∷ []) v h = record { fields = heading p s true ∷ heading p f false ∷ heading p e true ∷ heading p b true ∷ []; same = refl }
headed_kind p kind.ForOfStmt (s ∷ o ∷ f ∷ e ∷ b ∷ []) v h = record { fields = heading p s true ∷ heading p o true ∷ of_head p (heading p o true) (heading p f false) ∷ heading p e true ∷ heading p b true ∷ []; same = refl }
headed_kind p k ts v h = record { fields = freed p ts; same = rolls-Tree k (freed p ts) }

and_false : (b : Bool) → (b && false) ≡ false
and_false true = refl
and_false false = refl

-- views
abbrev Viewed : Places → Node → Type 0
Viewed p t = View t (heading p t true)

of_kind : (k : Kind) (ts : List Node) (u : Node) → OfKind k u → looks_below k ≡ false → View (Tree k ts) u
of_kind k ts u x n = subst (λ t. View (Tree k ts) t) (sym x.same) (view_of_tree k ts x.fields (parts_other k ts x.fields n))

loose_view : (k : Kind) (ts us : List Node) → Parts k ts us → View (Tree k ts) (roll-Node (Node-F.Tree k us))
loose_view k ts us x = subst (λ u. View (Tree k ts) u) (sym (rolls-Tree k us)) (view_of_tree k ts us x)

tree_view : (p : Places) (k : Kind) (ts : List Node) → Each (Viewed p) ts → View (Tree k ts) (headed p k ts true)
tree_view p kind.BinExpr (s ∷ o ∷ f ∷ x ∷ []) l =
    let o' : Node = heading p o true in
    rw (and_false (is_in (word_of o'))) (view_of_tree kind.BinExpr (s ∷ o ∷ f ∷ x ∷ []) (heading p s true ∷ o' ∷ heading p f true ∷ heading p x true ∷ []) (parts_bin s o f x (heading p s true) o' (heading p f true) (heading p x true) (ap (λ c. c.word) l.1.0.clue_same)))
tree_view p kind.MemberExpr (s ∷ o ∷ m ∷ []) l = view_of_tree kind.MemberExpr (s ∷ o ∷ m ∷ []) (heading p s true ∷ heading p o true ∷ heading p m true ∷ []) (parts_member s o m (heading p s true) (heading p o true) (heading p m true) l.1.0.called)
tree_view p kind.TaggedTpl (s ∷ o ∷ m ∷ []) l = view_of_tree kind.TaggedTpl (s ∷ o ∷ m ∷ []) (heading p s true ∷ heading p o true ∷ heading p m true ∷ []) (parts_tagged s o m (heading p s true) (heading p o true) (heading p m true) l.1.0.called)
tree_view p kind.NewExpr (s ∷ o ∷ m ∷ []) l = view_of_tree kind.NewExpr (s ∷ o ∷ m ∷ []) (heading p s true ∷ heading p o true ∷ heading p m true ∷ []) (parts_new s o m (heading p s true) (heading p o true) (heading p m true) (ap (λ c. c.absent) l.1.1.0.clue_same))
tree_view p kind.UnaryExpr (s ∷ o ∷ x ∷ []) l = view_of_tree kind.UnaryExpr (s ∷ o ∷ x ∷ []) (heading p s true ∷ heading p o true ∷ heading p x true ∷ []) (parts_unary s o x (heading p s true) (heading p o true) (heading p x true) (ap (λ c. c.word) l.1.0.clue_same))
tree_view p kind.AssignExpr (s ∷ o ∷ f ∷ x ∷ []) l = view_of_tree kind.AssignExpr (s ∷ o ∷ f ∷ x ∷ []) (heading p s true ∷ heading p o true ∷ heading p f true ∷ heading p x true ∷ []) (parts_assign s o f x (heading p s true) (heading p o true) (heading p f true) (heading p x true) l.1.1.0.kinds)
tree_view p kind.ComputedPropName (s ∷ x ∷ []) l = loose_view kind.ComputedPropName (s ∷ x ∷ []) (heading p s true ∷ heading p x true ∷ []) (parts_computed s x (heading p s true) (heading p x true) (l.1.0.least 2))
tree_view p kind.BinExpr [] l = loose_view kind.BinExpr [] (freed p []) (record { level = refl; bare = refl; nullish = refl; called = refl; dropped = refl; assigned = λ q. refl; as_key = refl })
tree_view p kind.BinExpr (a ∷ []) l = loose_view kind.BinExpr (a ∷ []) (freed p (a ∷ [])) (record { level = refl; bare = refl; nullish = refl; called = refl; dropped = refl; assigned = λ q. refl; as_key = refl })
tree_view p kind.BinExpr (a ∷ b ∷ []) l = loose_view kind.BinExpr (a ∷ b ∷ []) (freed p (a ∷ b ∷ [])) (record { level = refl; bare = refl; nullish = refl; called = refl; dropped = refl; assigned = λ q. refl; as_key = refl })
tree_view p kind.BinExpr (a ∷ b ∷ c ∷ []) l = loose_view kind.BinExpr (a ∷ b ∷ c ∷ []) (freed p (a ∷ b ∷ c ∷ [])) (record { level = refl; bare = refl; nullish = refl; called = refl; dropped = refl; assigned = λ q. refl; as_key = refl })
tree_view p kind.BinExpr (a ∷ b ∷ c ∷ d ∷ e ∷ ts) l = loose_view kind.BinExpr (a ∷ b ∷ c ∷ d ∷ e ∷ ts) (freed p (a ∷ b ∷ c ∷ d ∷ e ∷ ts)) (record { level = refl; bare = refl; nullish = refl; called = refl; dropped = refl; assigned = λ q. refl; as_key = refl })
tree_view p kind.MemberExpr [] l = loose_view kind.MemberExpr [] (freed p []) (record { level = refl; bare = refl; nullish = refl; called = refl; dropped = refl; assigned = λ q. refl; as_key = refl })
tree_view p kind.MemberExpr (a ∷ []) l = loose_view kind.MemberExpr (a ∷ []) (freed p (a ∷ [])) (record { level = refl; bare = refl; nullish = refl; called = refl; dropped = refl; assigned = λ q. refl; as_key = refl })
tree_view p kind.MemberExpr (a ∷ b ∷ []) l = loose_view kind.MemberExpr (a ∷ b ∷ []) (freed p (a ∷ b ∷ [])) (record { level = refl; bare = refl; nullish = refl; called = refl; dropped = refl; assigned = λ q. refl; as_key = refl })
tree_view p kind.MemberExpr (a ∷ b ∷ c ∷ d ∷ ts) l = loose_view kind.MemberExpr (a ∷ b ∷ c ∷ d ∷ ts) (freed p (a ∷ b ∷ c ∷ d ∷ ts)) (record { level = refl; bare = refl; nullish = refl; called = refl; dropped = refl; assigned = λ q. refl; as_key = refl })
tree_view p kind.TaggedTpl [] l = loose_view kind.TaggedTpl [] (freed p []) (record { level = refl; bare = refl; nullish = refl; called = refl; dropped = refl; assigned = λ q. refl; as_key = refl })
tree_view p kind.TaggedTpl (a ∷ []) l = loose_view kind.TaggedTpl (a ∷ []) (freed p (a ∷ [])) (record { level = refl; bare = refl; nullish = refl; called = refl; dropped = refl; assigned = λ q. refl; as_key = refl })
tree_view p kind.TaggedTpl (a ∷ b ∷ []) l = loose_view kind.TaggedTpl (a ∷ b ∷ []) (freed p (a ∷ b ∷ [])) (record { level = refl; bare = refl; nullish = refl; called = refl; dropped = refl; assigned = λ q. refl; as_key = refl })
tree_view p kind.TaggedTpl (a ∷ b ∷ c ∷ d ∷ ts) l = loose_view kind.TaggedTpl (a ∷ b ∷ c ∷ d ∷ ts) (freed p (a ∷ b ∷ c ∷ d ∷ ts)) (record { level = refl; bare = refl; nullish = refl; called = refl; dropped = refl; assigned = λ q. refl; as_key = refl })
tree_view p kind.NewExpr [] l = loose_view kind.NewExpr [] (freed p []) (record { level = refl; bare = refl; nullish = refl; called = refl; dropped = refl; assigned = λ q. refl; as_key = refl })
tree_view p kind.NewExpr (a ∷ []) l = loose_view kind.NewExpr (a ∷ []) (freed p (a ∷ [])) (record { level = refl; bare = refl; nullish = refl; called = refl; dropped = refl; assigned = λ q. refl; as_key = refl })
tree_view p kind.NewExpr (a ∷ b ∷ []) l = loose_view kind.NewExpr (a ∷ b ∷ []) (freed p (a ∷ b ∷ [])) (record { level = refl; bare = refl; nullish = refl; called = refl; dropped = refl; assigned = λ q. refl; as_key = refl })
tree_view p kind.NewExpr (a ∷ b ∷ c ∷ d ∷ ts) l = loose_view kind.NewExpr (a ∷ b ∷ c ∷ d ∷ ts) (freed p (a ∷ b ∷ c ∷ d ∷ ts)) (record { level = refl; bare = refl; nullish = refl; called = refl; dropped = refl; assigned = λ q. refl; as_key = refl })
tree_view p kind.UnaryExpr [] l = loose_view kind.UnaryExpr [] (freed p []) (record { level = refl; bare = refl; nullish = refl; called = refl; dropped = refl; assigned = λ q. refl; as_key = refl })
tree_view p kind.UnaryExpr (a ∷ []) l = loose_view kind.UnaryExpr (a ∷ []) (freed p (a ∷ [])) (record { level = refl; bare = refl; nullish = refl; called = refl; dropped = refl; assigned = λ q. refl; as_key = refl })
tree_view p kind.UnaryExpr (a ∷ b ∷ []) l = loose_view kind.UnaryExpr (a ∷ b ∷ []) (freed p (a ∷ b ∷ [])) (record { level = refl; bare = refl; nullish = refl; called = refl; dropped = refl; assigned = λ q. refl; as_key = refl })
tree_view p kind.UnaryExpr (a ∷ b ∷ c ∷ d ∷ ts) l = loose_view kind.UnaryExpr (a ∷ b ∷ c ∷ d ∷ ts) (freed p (a ∷ b ∷ c ∷ d ∷ ts)) (record { level = refl; bare = refl; nullish = refl; called = refl; dropped = refl; assigned = λ q. refl; as_key = refl })
tree_view p kind.AssignExpr [] l = loose_view kind.AssignExpr [] (freed p []) (record { level = refl; bare = refl; nullish = refl; called = refl; dropped = refl; assigned = λ q. refl; as_key = refl })
tree_view p kind.AssignExpr (a ∷ []) l = loose_view kind.AssignExpr (a ∷ []) (freed p (a ∷ [])) (record { level = refl; bare = refl; nullish = refl; called = refl; dropped = refl; assigned = λ q. refl; as_key = refl })
tree_view p kind.AssignExpr (a ∷ b ∷ []) l = loose_view kind.AssignExpr (a ∷ b ∷ []) (freed p (a ∷ b ∷ [])) (record { level = refl; bare = refl; nullish = refl; called = refl; dropped = refl; assigned = λ q. refl; as_key = refl })
tree_view p kind.AssignExpr (a ∷ b ∷ c ∷ []) l = loose_view kind.AssignExpr (a ∷ b ∷ c ∷ []) (freed p (a ∷ b ∷ c ∷ [])) (record { level = refl; bare = refl; nullish = refl; called = refl; dropped = refl; assigned = λ q. refl; as_key = refl })
tree_view p kind.AssignExpr (a ∷ b ∷ c ∷ d ∷ e ∷ ts) l = loose_view kind.AssignExpr (a ∷ b ∷ c ∷ d ∷ e ∷ ts) (freed p (a ∷ b ∷ c ∷ d ∷ e ∷ ts)) (record { level = refl; bare = refl; nullish = refl; called = refl; dropped = refl; assigned = λ q. refl; as_key = refl })
tree_view p kind.ComputedPropName [] l = loose_view kind.ComputedPropName [] (freed p []) (record { level = refl; bare = refl; nullish = refl; called = refl; dropped = refl; assigned = λ q. refl; as_key = refl })
tree_view p kind.ComputedPropName (a ∷ []) l = loose_view kind.ComputedPropName (a ∷ []) (freed p (a ∷ [])) (record { level = refl; bare = refl; nullish = refl; called = refl; dropped = refl; assigned = λ q. refl; as_key = refl })
tree_view p kind.ComputedPropName (a ∷ b ∷ c ∷ ts) l = loose_view kind.ComputedPropName (a ∷ b ∷ c ∷ ts) (freed p (a ∷ b ∷ c ∷ ts)) (record { level = refl; bare = refl; nullish = refl; called = refl; dropped = refl; assigned = λ q. refl; as_key = refl })
tree_view p k ts l = of_kind k ts (headed p k ts true) (headed_kind p k ts true refl) refl

leaf_view : (p : Places) (t : Node) → heading p t true ≡ t → Viewed p t
leaf_view p t e = subst (λ u. View t u) (sym e) (view_same t)

all_views : (p : Places) (ts : List Node) → Each (Viewed p) ts → Views ts (map (λ f. f true) (map (heading p) ts))
all_views p [] l = tt
all_views p (t ∷ ts) l = (l.0, all_views p ts l.1)

pub heading_view : (p : Places) (t : Node) → View t (heading p t true)
heading_view p t = by_children (Viewed p)
    (leaf_view p Absent (search (rules, the_lemmas)), λ x. leaf_view p (Flag x) (search (rules, the_lemmas)), λ w. leaf_view p (Word w) (search (rules, the_lemmas)), λ x. leaf_view p (Text x) (search (rules, the_lemmas)), λ s. leaf_view p (Span s) (search (rules, the_lemmas)), λ k i. leaf_view p (Identifier k i) (search (rules, the_lemmas)))
    (λ ts l. subst (λ u. View (Many ts) u) (sym (heading_list p ts true)) (view_of_list ts (map (λ f. f true) (map (heading p) ts)) (all_views p ts l)))
    (λ k ts l. subst (λ u. View (Tree k ts) u) (sym (heading_tree p k ts true)) (tree_view p k ts l)) t

-- clues
bin_clue : (x : Bool) (p : Places) (e f : Node) (t : Node) → clue e ≡ clue (in_pair p f) → clue t ≡ clue e → clue (if x then in_pair p f else t) ≡ clue e
bin_clue true p e f t h g = sym h
bin_clue false p e f t h g = g

binary_clue : (p : Places) (s o f x : Node) (v : Bool) → clue (headed p kind.BinExpr (s ∷ o ∷ f ∷ x ∷ []) v) ≡ clue (Tree kind.BinExpr (s ∷ o ∷ f ∷ x ∷ []))
binary_clue p s o f x v =
    let s' : Node = heading p s true in let o' : Node = heading p o true in let e : Node = Tree kind.BinExpr (s ∷ o ∷ f ∷ x ∷ []) in
    let u : Node = Tree kind.BinExpr (s' ∷ o' ∷ heading p f true ∷ heading p x true ∷ []) in
    bin_clue (is_in (word_of o') && not v) p e u (Tree kind.BinExpr (s' ∷ o' ∷ heading p f v ∷ heading p x v ∷ []))
    (clue_of_tree kind.BinExpr (s ∷ o ∷ f ∷ x ∷ []) ∙ sym (clue_of_tree kind.ParenExpr (Span (p (span_of u)) ∷ u ∷ []))) (clue_of_tree kind.BinExpr (s' ∷ o' ∷ heading p f v ∷ heading p x v ∷ []) ∙ sym (clue_of_tree kind.BinExpr (s ∷ o ∷ f ∷ x ∷ [])))

kind_clue : (k : Kind) (ts : List Node) (u : Node) → OfKind k u → clue u ≡ clue (Tree k ts)
kind_clue k ts u x = ap clue x.same ∙ clue_of_tree k x.fields ∙ sym (clue_of_tree k ts)

loose_clue : (p : Places) (k : Kind) (ts us : List Node) → clue (roll-Node (Node-F.Tree k us)) ≡ clue (Tree k ts)
loose_clue p k ts us = ap clue (rolls-Tree k us) ∙ clue_of_tree k us ∙ sym (clue_of_tree k ts)

tree_clue : (p : Places) (k : Kind) (ts : List Node) (v : Bool) → clue (headed p k ts v) ≡ clue (Tree k ts)
tree_clue p kind.BinExpr (s ∷ o ∷ f ∷ x ∷ []) v = binary_clue p s o f x v
tree_clue p kind.BinExpr [] v = loose_clue p kind.BinExpr [] (freed p [])
tree_clue p kind.BinExpr (a ∷ []) v = loose_clue p kind.BinExpr (a ∷ []) (freed p (a ∷ []))
tree_clue p kind.BinExpr (a ∷ b ∷ []) v = loose_clue p kind.BinExpr (a ∷ b ∷ []) (freed p (a ∷ b ∷ []))
tree_clue p kind.BinExpr (a ∷ b ∷ c ∷ []) v = loose_clue p kind.BinExpr (a ∷ b ∷ c ∷ []) (freed p (a ∷ b ∷ c ∷ []))
tree_clue p kind.BinExpr (a ∷ b ∷ c ∷ d ∷ e ∷ ts) v = loose_clue p kind.BinExpr (a ∷ b ∷ c ∷ d ∷ e ∷ ts) (freed p (a ∷ b ∷ c ∷ d ∷ e ∷ ts))
tree_clue p k ts v = kind_clue k ts (headed p k ts v) (headed_kind p k ts v refl)

pub heading_clue : (p : Places) (t : Node) (v : Bool) → clue (heading p t v) ≡ clue t
heading_clue p t v = by_children (λ t. clue (heading p t v) ≡ clue t)
    (search (rules, the_lemmas), λ x. search (rules, the_lemmas), λ w. search (rules, the_lemmas), λ x. search (rules, the_lemmas), λ s. search (rules, the_lemmas), λ k i. search (rules, the_lemmas))
    (λ ts l. ap clue (heading_list p ts v) ∙ clue_of_list (map (λ f. f v) (map (heading p) ts)) ts)
    (λ k ts l. ap clue (heading_tree p k ts v) ∙ tree_clue p k ts v) t
