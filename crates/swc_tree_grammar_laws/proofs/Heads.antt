-- What the second step of the due pairs leaves has no bare `in` and no bare `async` in a head.
use Rattle.std.proofs.Common.{◌≡◌, Bool, true, false, not, ◌&&◌, ◌||◌, List, [], ◌∷◌, map, refl, ◌∙◌, rules}
use Rattle.std.specs.Prelude.{if◌then◌else◌}
use Rattle.std.specs.List.{list_all}
use Rattle.swc_tree_marks.specs.declared.ident.Ident.{Ident}
use Rattle.swc_tree_node.specs.declared.kind.Kind.{Kind}
use Rattle.swc_tree_node.specs.declared.kind.Kind.TheVariants as kind
use Rattle.swc_tree_node.specs.declared.node.Node.{Node, List as Many, Identifier, Tree, fold-Node, out-Node, the_lemmas}
use Rattle.swc_tree_node.specs.declared.node.Node.TheVariants.{rolls-Tree}
use Rattle.swc_tree_node.specs.declared.node.Node.TheOpen.{Node-F}
use Rattle.swc_tree_grammar.specs.Levels.{word_of, is_in}
use Rattle.swc_tree_grammar.specs.Forms.{holds as is_held}
use Rattle.swc_tree_grammar.specs.Grammar.{is_async_name}
use Rattle.swc_tree_grammar.specs.Due.{Places, Pairing, pair, in_step, free, of_head, async_in, paired_in_heads}
use Rattle.swc_tree_grammar.proofs.Induction.{Each, by_children}
use Rattle.swc_tree_grammar.proofs.Wholes.{carried}
use Rattle.swc_tree_grammar_laws.specs.Headed.{Headed, headed, headed_step, heads_in}

abbrev pub judged : Node → Headed
judged = fold-Node Headed headed_step

pub whole : (t : Node) → (judged t).whole ≡ t
whole t = carried Headed headed_step (λ e. e.whole) (λ x. refl) t

pub headed_tree : (k : Kind) (ts : List Node) (b : Bool) → headed (Tree k ts) b ≡ heads_in (Node-F.Tree k (map judged ts)) b
headed_tree k ts b = search (rules, the_lemmas)

pub headed_list : (ts : List Node) (b : Bool) → headed (Many ts) b ≡ list_all (λ e. e.holds b) (map judged ts)
headed_list ts b = search (rules, the_lemmas)

abbrev pub heading : Places → Node → Pairing
heading p = fold-Node Pairing (in_step p)

pub heading_tree : (p : Places) (k : Kind) (ts : List Node) (b : Bool) → heading p (Tree k ts) b ≡ in_step p (Node-F.Tree k (map (heading p) ts)) b
heading_tree p k ts b = search (rules, the_lemmas)

pub heading_list : (p : Places) (ts : List Node) (b : Bool) → heading p (Many ts) b ≡ Many (map (λ f. f b) (map (heading p) ts))
heading_list p ts b = search (rules, the_lemmas)

abbrev IsHeaded : Places → Node → Type 0
IsHeaded p t = (b : Bool) → headed (heading p t b) b ≡ true

each_headed : (p : Places) (ts : List Node) (b : Bool) → Each (IsHeaded p) ts → list_all (λ e. e.holds b) (map judged (map (λ f. f b) (map (heading p) ts))) ≡ true
each_headed p [] b l = refl
each_headed p (t ∷ ts) b l = rw (l.0 b) (each_headed p ts b l.1)

-- a pair
headed_pair : (p : Places) (e : Node) (b : Bool) → headed e true ≡ true → headed (pair p e) b ≡ true
headed_pair p e b h = let s : (r : Node) → headed (pair p e) b ≡ (true && (headed e true && true)) = λ r. search (rules, the_lemmas) in s e ∙ rw h refl

bare : (b w : Bool) → (w && not b) ≡ false → (b || not w) ≡ true
bare true w h = refl
bare false false h = refl
bare false true h = absurd (cc)

binary_if : (c : Bool) (p : Places) (b : Bool) (s o : Node) (f g : Pairing) → (is_in (word_of o) && not b) ≡ c
    → headed (f true) true ≡ true → headed (f b) b ≡ true → headed (g true) true ≡ true → headed (g b) b ≡ true
    → headed (if c then pair p (Tree kind.BinExpr (s ∷ o ∷ f true ∷ g true ∷ [])) else Tree kind.BinExpr (s ∷ o ∷ f b ∷ g b ∷ [])) b ≡ true
binary_if true p b s o f g c f1 fb g1 gb = headed_pair p (Tree kind.BinExpr (s ∷ o ∷ f true ∷ g true ∷ [])) b (headed_tree kind.BinExpr (s ∷ o ∷ f true ∷ g true ∷ []) true ∙ rw (f1, g1) refl)
binary_if false p b s o f g c f1 fb g1 gb = headed_tree kind.BinExpr (s ∷ o ∷ f b ∷ g b ∷ []) b ∙ rw (whole o, bare b (is_in (word_of o)) c, fb, gb) refl

-- the left side of `for` of
or_true : (w : Bool) {c : Bool} → c ≡ true → (w || c) ≡ true
or_true true h = refl
or_true false h = h

name_if : (c : Bool) (p : Places) (w : Bool) (k : Kind) (i : Ident) → (is_async_name (Identifier k i) && not w) ≡ c
    → ((w || not (is_async_name (if c then pair p (Identifier kind.Ident i) else Identifier k i))) ≡ true) × (headed (if c then pair p (Identifier kind.Ident i) else Identifier k i) false ≡ true)
name_if true p w k i h = (or_true w (search (rules, the_lemmas)), headed_pair p (Identifier kind.Ident i) false (search (rules, the_lemmas)))
name_if false p w k i h = (bare w (is_async_name (Identifier k i)) h, search (rules, the_lemmas))

abbrev HeadOf : Places → Bool → Node → Type 0
HeadOf p w u = headed u false ≡ true → ((w || not (is_async_name (async_in p w u (out-Node u)))) ≡ true) × (headed (async_in p w u (out-Node u)) false ≡ true)

head_of : (p : Places) (w : Bool) (u : Node) → HeadOf p w u
head_of p w u = by_children (HeadOf p w) (
  λ h. (or_true w (search (rules, the_lemmas)), search (rules, the_lemmas)),
  λ x h. (or_true w (search (rules, the_lemmas)), search (rules, the_lemmas)),
  λ v h. (or_true w (search (rules, the_lemmas)), search (rules, the_lemmas)),
  λ x h. (or_true w (search (rules, the_lemmas)), search (rules, the_lemmas)),
  λ s h. (or_true w (search (rules, the_lemmas)), search (rules, the_lemmas)),
  λ k i h. (let e : async_in p w (Identifier k i) (out-Node (Identifier k i)) ≡ (if is_async_name (Identifier k i) && not w then pair p (Identifier kind.Ident i) else Identifier k i) = search (rules, the_lemmas) in rw e (name_if (is_async_name (Identifier k i) && not w) p w k i refl)),
)
    (λ ts l h. (let e : async_in p w (Many ts) (out-Node (Many ts)) ≡ Many ts = search (rules, the_lemmas) in rw e (or_true w (search (rules, the_lemmas)), h)))
    (λ k ts l h. (let e : async_in p w (Tree k ts) (out-Node (Tree k ts)) ≡ Tree k ts = search (rules, the_lemmas) in rw e (or_true w (search (rules, the_lemmas)), h))) u

row : (p : Places) (b : Bool) (k : Kind) (ts : List Node) → Each (IsHeaded p) ts → headed (in_step p (Node-F.Tree k (map (heading p) ts)) b) b ≡ true
row p b kind.BinExpr (s ∷ o ∷ f ∷ g ∷ []) l =
    binary_if (is_in (word_of (heading p o true)) && not b) p b (heading p s true) (heading p o true) (heading p f) (heading p g) refl (l.1.1.0 true) (l.1.1.0 b) (l.1.1.1.0 true) (l.1.1.1.0 b)
row p b kind.SeqExpr (s ∷ es ∷ []) l = simp (headed_tree, l.1.0 b)
row p b kind.AssignExpr (s ∷ o ∷ f ∷ g ∷ []) l = simp (headed_tree, l.1.1.0 b, l.1.1.1.0 b)
row p b kind.CondExpr (s ∷ t ∷ c ∷ a ∷ []) l = simp (headed_tree, l.1.0 b, l.1.1.0 true, l.1.1.1.0 b)
row p b kind.UnaryExpr (s ∷ o ∷ a ∷ []) l = simp (headed_tree, l.1.1.0 b)
row p b kind.AwaitExpr (s ∷ a ∷ []) l = simp (headed_tree, l.1.0 b)
row p b kind.UpdateExpr (s ∷ o ∷ f ∷ a ∷ []) l = simp (headed_tree, l.1.1.1.0 b)
row p b kind.YieldExpr (s ∷ a ∷ d ∷ []) l = simp (headed_tree, l.1.0 b)
row p b kind.MemberExpr (s ∷ o ∷ m ∷ []) l = simp (headed_tree, l.1.0 b, l.1.1.0 true)
row p b kind.TaggedTpl (s ∷ o ∷ m ∷ []) l = simp (headed_tree, l.1.0 b, l.1.1.0 true)
row p b kind.CallExpr (s ∷ o ∷ m ∷ []) l = simp (headed_tree, l.1.0 b, l.1.1.0 true)
row p b kind.NewExpr (s ∷ o ∷ m ∷ []) l = simp (headed_tree, l.1.0 b, l.1.1.0 true)
row p b kind.OptChainExpr (s ∷ o ∷ m ∷ []) l = simp (headed_tree, l.1.1.0 b)
row p b kind.OptCall (s ∷ o ∷ m ∷ []) l = simp (headed_tree, l.1.0 b, l.1.1.0 true)
row p b kind.ArrowExpr (s ∷ a ∷ e ∷ f ∷ []) l = simp (headed_tree, l.1.0 true, l.1.1.0 b)
row p b kind.VarDecl (s ∷ w ∷ d ∷ []) l = simp (headed_tree, l.1.1.0 b)
row p b kind.VarDeclarator (s ∷ n ∷ i ∷ []) l = simp (headed_tree, l.1.0 b, l.1.1.0 b)
row p b kind.AssignPat (s ∷ f ∷ a ∷ []) l = simp (headed_tree, l.1.0 b, l.1.1.0 b)
row p b kind.RestPat (s ∷ a ∷ []) l = simp (headed_tree, l.1.0 b)
row p b kind.ForStmt (s ∷ i ∷ t ∷ u ∷ e ∷ []) l = simp (headed_tree, l.1.0 false, l.1.1.0 true, l.1.1.1.0 true, l.1.1.1.1.0 true)
row p b kind.ForInStmt (s ∷ i ∷ r ∷ e ∷ []) l = simp (headed_tree, l.1.0 false, l.1.1.0 true, l.1.1.1.0 true)
row p b kind.ForOfStmt (s ∷ w ∷ i ∷ r ∷ e ∷ []) l =
    let q = head_of p (is_held (heading p w true)) (heading p i false) (l.1.1.0 false) in
    headed_tree kind.ForOfStmt (heading p s true ∷ heading p w true ∷ of_head p (heading p w true) (heading p i false) ∷ heading p r true ∷ heading p e true ∷ []) b
    ∙ rw (whole (heading p w true), whole (of_head p (heading p w true) (heading p i false)), q.0, q.1, l.1.1.1.0 true, l.1.1.1.1.0 true) refl
row p b k ts l = rw (rolls-Tree k (map free (map (heading p) ts)), headed_tree k (map free (map (heading p) ts)) b) (each_headed p ts true l)

pub in_heads : (p : Places) (t : Node) → IsHeaded p t
in_heads p t = by_children (IsHeaded p)
    (λ b. search (rules, the_lemmas), λ x b. search (rules, the_lemmas), λ w b. search (rules, the_lemmas), λ x b. search (rules, the_lemmas), λ s b. search (rules, the_lemmas), λ k i b. search (rules, the_lemmas))
    (λ ts l b. rw (heading_list p ts b, headed_list (map (λ f. f b) (map (heading p) ts)) b) (each_headed p ts b l))
    (λ k ts l b. rw (heading_tree p k ts b) (row p b k ts l)) t

pub headed_in_heads : (p : Places) (t : Node) → headed (paired_in_heads p t) true ≡ true
headed_in_heads p t = in_heads p t true
