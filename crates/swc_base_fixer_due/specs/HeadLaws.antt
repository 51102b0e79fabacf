-- What the walk asks of the second step.
use Rattle.std.proofs.Common.{◌≡◌, Bool, true, false, not, ◌&&◌, ◌||◌, List, [], ◌∷◌, None, map, refl, sym, ap, ◌∙◌, rules}
use Rattle.std.specs.Prelude.{if◌then◌else◌}
use Rattle.swc_tree_node.specs.declared.kind.Kind.{Kind}
use Rattle.swc_tree_node.specs.declared.kind.Kind.TheVariants as kind
use Rattle.swc_tree_node.specs.declared.node.Node.{Node, List as Many, Tree, the_lemmas}
use Rattle.swc_tree_node.specs.declared.node.Node.TheVariants.{rolls-Tree}
use Rattle.swc_tree_node.specs.declared.node.Node.TheOpen.{Node-F}
use Rattle.swc_tree_node.specs.Parts.{has_parts}
use Rattle.swc_tree_node.proofs.Leaves.{without_parts}
use Rattle.swc_tree_grammar.specs.Levels.{word_of, is_in}
use Rattle.swc_tree_grammar.specs.Due.{Places, Pairing, free, in_step, of_head, pair, pair_if}
use Rattle.swc_tree_grammar.proofs.Induction.{Each, by_children}
use Rattle.swc_base_fixer_due.specs.declared.heads.Handing.TheVariants as handing
use Rattle.swc_base_fixer_due.specs.Heads.{flag_at, handing_for, headed, is_bare_in, of_headed}
use Rattle.swc_base_fixer_due.specs.Walk.{each_told, in_heads}

word_tree : (k : Kind) (ts : List Node) → word_of (Tree k ts) ≡ None
word_tree k ts = search (rules, the_lemmas)

word_of_headed : (p : Places) (k : Kind) (ts : List Node) → word_of (of_headed p k ts) ≡ None
word_of_headed p kind.ForOfStmt (x ∷ y ∷ z ∷ v ∷ w ∷ []) = word_tree kind.ForOfStmt (x ∷ y ∷ of_head p y z ∷ v ∷ w ∷ [])
word_of_headed p k ts = word_tree k ts

word_headed : (p : Places) (b : Bool) (k : Kind) (ts : List Node) → word_of (headed p b k ts) ≡ None
word_headed p true k ts = search (rules, the_lemmas)
word_headed p false k ts = word_of_headed p k ts

-- a word stays
abbrev Kept : Places → Node → Type 0
Kept p t = (b : Bool) → word_of (in_heads p t b) ≡ word_of t

or_false : (b : Bool) → (b || false) ≡ b
or_false true = refl
or_false false = refl

free_told : (f : Node → Pairing) (ts : List Node) → map free (map f ts) ≡ each_told f (λ i. true) ts
free_told f [] = refl
free_told f (t ∷ ts) = ap (λ us. f t true ∷ us) (free_told f ts)

all_told : (f : Node → Pairing) (b : Bool) (ts : List Node) → map (λ g. g b) (map f ts) ≡ each_told f (λ i. b) ts
all_told f b [] = refl
all_told f b (t ∷ ts) = ap (λ us. f t b ∷ us) (all_told f b ts)

binary : (p : Places) (b w : Bool) (s o : Node) (l r : Pairing)
    → (if w && not b then pair p (Tree kind.BinExpr (s ∷ o ∷ l true ∷ r true ∷ [])) else Tree kind.BinExpr (s ∷ o ∷ l b ∷ r b ∷ []))
    ≡ headed p (w && not b) kind.BinExpr (s ∷ o ∷ l (b || (w && not b)) ∷ r (b || (w && not b)) ∷ [])
binary p true true s o l r = refl
binary p true false s o l r = refl
binary p false true s o l r = refl
binary p false false s o l r = refl

abbrev stepped : Places → Bool → Kind → List Node → Node
stepped p b k ts = (
    let x = Node-F.Tree k ts in
    headed p (is_bare_in b x) k (each_told (in_heads p) (flag_at (handing_for x) (b || is_bare_in b x)) ts))

step : (p : Places) (k : Kind) (ts : List Node) (b : Bool) → Each (Kept p) ts → in_step p (Node-F.Tree k (map (in_heads p) ts)) b ≡ stepped p b k ts
step p kind.BinExpr (x ∷ y ∷ z ∷ v ∷ []) b l = rw (l.1.0 true) (binary p b (is_in (word_of y)) (in_heads p x true) (in_heads p y true) (in_heads p z) (in_heads p v))
step p kind.SeqExpr (x ∷ y ∷ []) b l = rw (or_false b) refl
step p kind.AssignExpr (x ∷ y ∷ z ∷ v ∷ []) b l = rw (or_false b) refl
step p kind.CondExpr (x ∷ y ∷ z ∷ v ∷ []) b l = rw (or_false b) refl
step p kind.UnaryExpr (x ∷ y ∷ z ∷ []) b l = rw (or_false b) refl
step p kind.AwaitExpr (x ∷ y ∷ []) b l = rw (or_false b) refl
step p kind.UpdateExpr (x ∷ y ∷ z ∷ v ∷ []) b l = rw (or_false b) refl
step p kind.YieldExpr (x ∷ y ∷ z ∷ []) b l = rw (or_false b) refl
step p kind.MemberExpr (x ∷ y ∷ z ∷ []) b l = rw (or_false b) refl
step p kind.TaggedTpl (x ∷ y ∷ z ∷ []) b l = rw (or_false b) refl
step p kind.CallExpr (x ∷ y ∷ z ∷ []) b l = rw (or_false b) refl
step p kind.NewExpr (x ∷ y ∷ z ∷ []) b l = rw (or_false b) refl
step p kind.OptCall (x ∷ y ∷ z ∷ []) b l = rw (or_false b) refl
step p kind.OptChainExpr (x ∷ y ∷ z ∷ []) b l = rw (or_false b) refl
step p kind.ArrowExpr (x ∷ y ∷ z ∷ v ∷ []) b l = rw (or_false b) refl
step p kind.VarDecl (x ∷ y ∷ z ∷ []) b l = rw (or_false b) refl
step p kind.VarDeclarator (x ∷ y ∷ z ∷ []) b l = rw (or_false b) refl
step p kind.AssignPat (x ∷ y ∷ z ∷ []) b l = rw (or_false b) refl
step p kind.RestPat (x ∷ y ∷ []) b l = rw (or_false b) refl
step p kind.ForStmt (x ∷ y ∷ z ∷ v ∷ w ∷ []) b l = refl
step p kind.ForInStmt (x ∷ y ∷ z ∷ v ∷ []) b l = refl
step p kind.ForOfStmt (x ∷ y ∷ z ∷ v ∷ w ∷ []) b l = refl
step p k ts b l = rolls-Tree k (map free (map (in_heads p) ts)) ∙ ap (of_headed p k) (free_told (in_heads p) ts)

heads_of_tree : (p : Places) (k : Kind) (ts : List Node) (b : Bool) → in_heads p (Tree k ts) b ≡ in_step p (Node-F.Tree k (map (in_heads p) ts)) b
heads_of_tree p k ts b = search (rules, the_lemmas)

heads_of_list : (p : Places) (ts : List Node) (b : Bool) → in_heads p (Many ts) b ≡ Many (map (λ f. f b) (map (in_heads p) ts))
heads_of_list p ts b = search (rules, the_lemmas)

word_list : (ts : List Node) → word_of (Many ts) ≡ None
word_list ts = search (rules, the_lemmas)

kept : (p : Places) (t : Node) → Kept p t
kept p t = by_children (Kept p)
    (λ b. search (rules, the_lemmas), λ x b. search (rules, the_lemmas), λ w b. search (rules, the_lemmas), λ x b. search (rules, the_lemmas), λ s b. search (rules, the_lemmas), λ k i b. search (rules, the_lemmas))
    (λ ts l b. ap word_of (heads_of_list p ts b) ∙ word_list (map (λ f. f b) (map (in_heads p) ts)) ∙ sym (word_list ts))
    (λ k ts l b. ap word_of (heads_of_tree p k ts b ∙ step p k ts b l) ∙ word_headed p _ k _ ∙ sym (word_tree k ts)) t

all_kept : (p : Places) (ts : List Node) → Each (Kept p) ts
all_kept p [] = tt
all_kept p (t ∷ ts) = (kept p t, all_kept p ts)

-- a list, once its items have their pairs
pub heads_list : (p : Places) (b : Bool) (ts : List Node) → Many (each_told (in_heads p) (flag_at handing.ToAll b) ts) ≡ in_heads p (Many ts) b
heads_list p b ts = ap Many (sym (all_told (in_heads p) b ts)) ∙ sym (heads_of_list p ts b)

bare_head : (p : Places) (b : Bool) (k : Kind) (ts us : List Node) → is_bare_in b (Node-F.Tree k ts) ≡ true → of_headed p k us ≡ Tree k us
bare_head p b kind.BinExpr ts us h = refl
bare_head p b k ts us h = absurd (cc)

paired_head : (p : Places) (b due : Bool) (k : Kind) (ts us : List Node) → due ≡ is_bare_in b (Node-F.Tree k ts) → pair_if due p (of_headed p k us) ≡ headed p due k us
paired_head p b true k ts us h = ap (pair p) (bare_head p b k ts us (sym h))
paired_head p b false k ts us h = refl

-- a tree, once its fields have their pairs, the head of a `for` of has its own, and it has its own
pub heads_tree : (p : Places) (b : Bool) (k : Kind) (ts : List Node)
    → pair_if (is_bare_in b (Node-F.Tree k ts)) p (of_headed p k (each_told (in_heads p) (flag_at (handing_for (Node-F.Tree k ts)) (b || is_bare_in b (Node-F.Tree k ts))) ts)) ≡ in_heads p (Tree k ts) b
heads_tree p b k ts = paired_head p b (is_bare_in b (Node-F.Tree k ts)) k ts _ refl ∙ sym (heads_of_tree p k ts b ∙ step p k ts b (all_kept p ts))

-- a node with nothing below it stays
pub heads_leave : (p : Places) (b : Bool) (t : Node) → has_parts t ≡ false → in_heads p t b ≡ t
heads_leave p b = without_parts (λ t. in_heads p t b ≡ t)
    (search (rules, the_lemmas), (λ x. search (rules, the_lemmas)), (λ w. search (rules, the_lemmas)), (λ x. search (rules, the_lemmas)), (λ s. search (rules, the_lemmas))) (λ k i. search (rules, the_lemmas))
