-- Each pair has a reason after the second step: nodes that set pairs, and what heads hold.
use Rattle.std.proofs.Common.{◌≡◌, Bool, true, false, not, ◌&&◌, ◌||◌, List, [], ◌∷◌, map, refl, sym, ap, subst, ◌∙◌, rules, true≢false}
use Rattle.std.specs.Prelude.{if◌then◌else◌}
use Rattle.swc_tree_node.specs.declared.kind.Kind.{Kind}
use Rattle.swc_tree_node.specs.declared.kind.Kind.TheVariants as kind
use Rattle.swc_tree_node.specs.declared.node.Node.{Node, Absent, Flag, Word, Text, Span, List as Many, Identifier, Tree, out-Node, the_lemmas}
use Rattle.swc_tree_node.specs.declared.node.Node.TheOpen.{Node-F}
use Rattle.swc_tree_grammar.specs.Kinds.{has_kind, is_block, is_destructuring}
use Rattle.swc_tree_grammar.specs.Levels.{word_of, is_in}
use Rattle.swc_tree_grammar.specs.Forms.{holds}
use Rattle.swc_tree_grammar.specs.Demands.Demand.{AtLeast}
use Rattle.swc_tree_grammar.specs.Blocks.{span_of}
use Rattle.swc_tree_grammar.specs.Grammar.{is_async_name}
use Rattle.swc_tree_grammar.specs.Due.{Places, pair as in_pair, of_head, async_in}
use Rattle.swc_tree_grammar.specs.Readers.{assigns_to}
use Rattle.swc_tree_grammar.proofs.Induction.{by_children}
use Rattle.swc_tree_grammar_laws.proofs.Heads.{heading, heading_tree}
use Rattle.swc_base_fixer_needs.specs.Sites.{Mode, Opening, Site, clue, asks, spots, declarator, first_unless, head_site}
use Rattle.swc_base_fixer_needs.specs.Sites.Mode.{Plain, Base, BeforeIn, Head, Declarators, OneDeclarator, Name, Nothing}
use Rattle.swc_base_fixer_needs.specs.Sites.Opening.{Anything, OfBody}
use Rattle.swc_base_fixer_needs.specs.Sites.Spot.{At}
use Rattle.swc_base_fixer_needs.specs.Reasons.{Label, nothing, labels, Due, AllDue, is_bare_in}
use Rattle.swc_base_fixer_needs.specs.Reasons.Label.{Names, OfStatement, OfItems}
use Rattle.swc_base_fixer_needs.specs.Reasons.Reason.{in_head, async_before_of}
use Rattle.swc_base_fixer_needs.specs.Reasons.Extent.{Reasoned}
use Rattle.swc_base_fixer_needs.specs.Reasons.Due.{leaf, unseen, pair, tree}
use Rattle.swc_base_fixer_needs.specs.Reasons.AllDue.{none, more}
use Rattle.swc_base_fixer_needs.proofs.Paths.{clue_of_tree}
use Rattle.swc_base_fixer_needs.proofs.HeadViews.{headed, heading_clue}
use Rattle.swc_tree_marks.specs.declared.ident.Ident.{Ident}
use Rattle.swc_tree_grammar.specs.Demands.Demand.{Body}
use Rattle.swc_tree_grammar_laws.proofs.Levelled.{both}
use Rattle.swc_base_fixer_needs.proofs.HeadRows.{move, Family, Readys, Rows}

pub seq : (p : Places) (l : Label) (a : Site) (s t : Node) → Rows p l a kind.SeqExpr (s ∷ t ∷ [])
seq p (Names g) a s t f w x o y v h = tree kind.SeqExpr (heading p s true ∷ heading p t v ∷ []) refl (λ z. absurd (cc)) (more (unseen (heading p s true) (λ z. absurd (cc))) (more (f.1.0 w false o false v h) none))
seq p OfStatement a s t f w x o y v h = tree kind.SeqExpr (heading p s true ∷ heading p t v ∷ []) refl (λ z. absurd (cc)) (more (unseen (heading p s true) (λ z. absurd (cc))) (more (f.1.0 w false o false v h) none))
seq p OfItems a s t f w x o y v h = tree kind.SeqExpr (heading p s true ∷ heading p t v ∷ []) refl (λ z. absurd (cc)) (more (unseen (heading p s true) (λ z. absurd (cc))) (more (f.1.0 w false o false v h) none))

update_arg : (b : Bool) (p : Places) (l : Label) (a : Site) (t : Node) (w x : Bool) (o : Opening) (y v : Bool) → (v ≡ false → w ≡ false) → Family p l (first_unless b a (asks (AtLeast 17) a.with_in)) t
    → Due Reasoned l (At (first_unless b (move a w x o y) (asks (AtLeast 17) w))) (heading p t v)
update_arg true p l a t w x o y v h f = f w false Anything false v h
update_arg false p l a t w x o y v h f = f w false o false v h

pub update : (p : Places) (l : Label) (a : Site) (s q r t : Node) → Rows p l a kind.UpdateExpr (s ∷ q ∷ r ∷ t ∷ [])
update p l a s q r t f w x o y v h =
    tree kind.UpdateExpr (heading p s true ∷ heading p q true ∷ heading p r true ∷ heading p t v ∷ []) refl (λ z. absurd (cc))
    (rw (ap (λ c. c.flag) (heading_clue p r true)) (more (unseen (heading p s true) (λ z. absurd (cc))) (more (unseen (heading p q true) (λ z. absurd (cc))) (more (unseen (heading p r true) (λ z. absurd (cc))) (more (update_arg (holds r) p nothing a t w x o y v h f.1.1.1.0) none)))))

-- a bare `in`
abbrev sides : Places → Node → Node → Node → Node → Bool → List Node
sides p s q t u v = heading p s true ∷ heading p q true ∷ heading p t v ∷ heading p u v ∷ []

bin_fields : (p : Places) (l m : Label) (a : Site) (s q t u : Node) → Readys p (labels l (Node-F.Tree kind.BinExpr (s ∷ q ∷ t ∷ u ∷ []))) (spots a (Node-F.Tree kind.BinExpr (map clue (s ∷ q ∷ t ∷ u ∷ [])))) (s ∷ q ∷ t ∷ u ∷ [])
    → (w x : Bool) (o : Opening) (y v : Bool) → (v ≡ false → w ≡ false)
    → AllDue Reasoned (labels m (Node-F.Tree kind.BinExpr (sides p s q t u v))) (spots (move a w x o y) (Node-F.Tree kind.BinExpr (map clue (sides p s q t u v)))) (sides p s q t u v)
bin_fields p l m a s q t u f w x o y v h =
    rw (ap (λ c. c.word) (heading_clue p q true)) (more (unseen (heading p s true) (λ z. absurd (cc))) (more (unseen (heading p q true) (λ z. absurd (cc))) (more (f.1.1.0 w false o false v h) (more (f.1.1.1.0 w false Anything false v h) none))))

not_true : (b : Bool) → not b ≡ true → b ≡ false
not_true true h = absurd (cc)
not_true false h = refl

bin_if : (b : Bool) (p : Places) (l : Label) (a : Site) (s q t u : Node) → Readys p (labels l (Node-F.Tree kind.BinExpr (s ∷ q ∷ t ∷ u ∷ []))) (spots a (Node-F.Tree kind.BinExpr (map clue (s ∷ q ∷ t ∷ u ∷ [])))) (s ∷ q ∷ t ∷ u ∷ [])
    → (w x : Bool) (o : Opening) (y v : Bool) → (v ≡ false → w ≡ false) → (is_in (word_of (heading p q true)) && not v) ≡ b
    → Due Reasoned l (At (move a w x o y)) (if b then in_pair p (Tree kind.BinExpr (sides p s q t u true)) else Tree kind.BinExpr (sides p s q t u v))
bin_if true p l a s q t u f w x o y v h e =
    let us : List Node = sides p s q t u true in let d = both (is_in (word_of (heading p q true))) (not v) e in
    let i : is_bare_in (out-Node (Tree kind.BinExpr us)) ≡ is_in (word_of (heading p q true)) = search (rules, the_lemmas) in
    pair (Span (p (span_of (Tree kind.BinExpr us)))) (Tree kind.BinExpr us) (λ z. absurd (cc)) (λ z. absurd (cc)) (clue_of_tree kind.BinExpr us) (in_head (h (not_true v d.1)) (i ∙ d.0)) (λ z. absurd (cc))
    (tree kind.BinExpr us refl (λ z. absurd (cc)) (bin_fields p l nothing a s q t u f true false Anything false true (λ z. absurd (cc))))
bin_if false p l a s q t u f w x o y v h e = tree kind.BinExpr (sides p s q t u v) refl (λ z. absurd (cc)) (bin_fields p l l a s q t u f w x o y v h)

pub bin : (p : Places) (l : Label) (a : Site) (s q t u : Node) → Rows p l a kind.BinExpr (s ∷ q ∷ t ∷ u ∷ [])
bin p l a s q t u f w x o y v h = bin_if (is_in (word_of (heading p q true)) && not v) p l a s q t u f w x o y v h refl

-- arrows
block_row : (p : Places) (k : Kind) (ts : List Node) (v : Bool) → is_block k ≡ true → headed p k ts v ≡ headed p k ts true
block_row p kind.BlockStmt ts v h = refl
block_row p k ts v h = absurd (true≢false (sym h))

no_block : (p : Places) (t : Node) (v : Bool) → has_kind is_block t ≡ false → has_kind is_block t ≡ true → heading p t v ≡ heading p t true
no_block p t v e h = absurd (cc)

block_heading : (p : Places) (t : Node) (v : Bool) → has_kind is_block t ≡ true → heading p t v ≡ heading p t true
block_heading p t v = by_children (λ t. has_kind is_block t ≡ true → heading p t v ≡ heading p t true)
    (no_block p Absent v (search (rules, the_lemmas)), λ x. no_block p (Flag x) v (search (rules, the_lemmas)), λ w. no_block p (Word w) v (search (rules, the_lemmas)), λ x. no_block p (Text x) v (search (rules, the_lemmas)), λ s. no_block p (Span s) v (search (rules, the_lemmas)), λ k i. no_block p (Identifier k i) v (search (rules, the_lemmas)))
    (λ ts l. no_block p (Many ts) v (search (rules, the_lemmas)))
    (λ k ts l h. (let e : has_kind is_block (Tree k ts) ≡ is_block k = search (rules, the_lemmas) in heading_tree p k ts v ∙ block_row p k ts v (sym e ∙ h) ∙ sym (heading_tree p k ts true))) t

or_false : (b : Bool) → (b || false) ≡ b
or_false true = refl
or_false false = refl

body_due : (b : Bool) (p : Places) (l : Label) (a : Site) (t : Node) → has_kind is_block t ≡ b → (w v : Bool) → (v ≡ false → w ≡ false) → Family p l (record (asks Body (a.with_in || b)) { opening = OfBody }) t
    → Due Reasoned l (At (record (asks Body (w || b)) { opening = OfBody })) (heading p t v)
body_due true p l a t e w v h f = subst (λ u. Due Reasoned l (At (record (asks Body (w || true)) { opening = OfBody })) u) (sym (block_heading p t v e)) (f (w || true) false OfBody false true (λ z. absurd (cc)))
body_due false p l a t e w v h f = f (w || false) false OfBody false v (λ z. or_false w ∙ h z)

pub arrow : (p : Places) (l : Label) (a : Site) (s q t u : Node) → Rows p l a kind.ArrowExpr (s ∷ q ∷ t ∷ u ∷ [])
arrow p l a s q t u f w x o y v h =
    tree kind.ArrowExpr (heading p s true ∷ heading p q true ∷ heading p t v ∷ heading p u true ∷ []) refl (λ z. absurd (cc))
    (rw (ap (λ c. c.block) (heading_clue p t v)) (more (unseen (heading p s true) (λ z. absurd (cc))) (more (f.1.0 true false Anything false true (λ z. absurd (cc))) (more (body_due (has_kind is_block t) p (Names (assigns_to is_destructuring)) a t refl w v h f.1.1.0) (more (unseen (heading p u true) (λ z. absurd (cc))) none)))))

-- declarators
decl_fields : (m : Mode) (p : Places) (b : Bool) (s n e : Node) → Readys p (nothing ∷ nothing ∷ nothing ∷ []) (declarator m b) (s ∷ n ∷ e ∷ []) → (w v : Bool) → (v ≡ false → w ≡ false)
    → AllDue Reasoned (nothing ∷ nothing ∷ nothing ∷ []) (declarator m w) (heading p s true ∷ heading p n v ∷ heading p e v ∷ [])
decl_fields Plain p b s n e f w v h = more (unseen (heading p s true) (λ z. absurd (cc))) (more (f.1.0 w false Anything false v h) (more (f.1.1.0 w false Anything false v h) none))
decl_fields Base p b s n e f w v h = more (unseen (heading p s true) (λ z. absurd (cc))) (more (f.1.0 w false Anything false v h) (more (f.1.1.0 w false Anything false v h) none))
decl_fields BeforeIn p b s n e f w v h = more (unseen (heading p s true) (λ z. absurd (cc))) (more (f.1.0 w false Anything false v h) (more (f.1.1.0 w false Anything false v h) none))
decl_fields Head p b s n e f w v h = more (unseen (heading p s true) (λ z. absurd (cc))) (more (f.1.0 w false Anything false v h) (more (f.1.1.0 w false Anything false v h) none))
decl_fields Declarators p b s n e f w v h = more (unseen (heading p s true) (λ z. absurd (cc))) (more (f.1.0 w false Anything false v h) (more (f.1.1.0 w false Anything false v h) none))
decl_fields OneDeclarator p b s n e f w v h = more (unseen (heading p s true) (λ z. absurd (cc))) (more (f.1.0 w false Anything false v h) (more (f.1.1.0 w false Anything false v h) none))
decl_fields Name p b s n e f w v h = more (unseen (heading p s true) (λ z. absurd (cc))) (more (f.1.0 w false Anything false v h) (more (f.1.1.0 w false Anything false v h) none))
decl_fields Nothing p b s n e f w v h = more (unseen (heading p s true) (λ z. absurd (cc))) (more (f.1.0 w false Anything false v h) (more (f.1.1.0 w false Anything false v h) none))

pub one_declarator : (p : Places) (l : Label) (a : Site) (s n e : Node) → Rows p l a kind.VarDeclarator (s ∷ n ∷ e ∷ [])
one_declarator p l a s n e f w x o y v h = tree kind.VarDeclarator (heading p s true ∷ heading p n v ∷ heading p e v ∷ []) refl (λ z. absurd (cc)) (decl_fields a.mode p a.with_in s n e f w v h)

-- the head of a `for` of
name_due : (x : Bool) (p : Places) (b : Bool) (k : Kind) (i : Ident) → (is_async_name (Identifier k i) && not b) ≡ x → Due Reasoned nothing (head_site (not b)) (Identifier k i)
    → Due Reasoned nothing (head_site (not b)) (if x then in_pair p (Identifier kind.Ident i) else Identifier k i)
name_due true p b k i e d =
    let q = both (is_async_name (Identifier k i)) (not b) e in let n : is_async_name (Identifier kind.Ident i) ≡ is_async_name (Identifier k i) = search (rules, the_lemmas) in
    pair (Span (p (span_of (Identifier kind.Ident i)))) (Identifier kind.Ident i) (λ z. absurd (cc)) (λ z. absurd (cc)) (search (rules, the_lemmas)) (async_before_of q.1 (n ∙ q.0)) (λ z. absurd (cc)) (leaf (Identifier kind.Ident i) (search (rules, the_lemmas)))
name_due false p b k i e d = d

abbrev HeadDue : Places → Bool → Node → Type 0
HeadDue p b u = Due Reasoned nothing (head_site (not b)) u → Due Reasoned nothing (head_site (not b)) (async_in p b u (out-Node u))

still : (p : Places) (b : Bool) (u : Node) → async_in p b u (out-Node u) ≡ u → HeadDue p b u
still p b u e d = subst (λ t. Due Reasoned nothing (head_site (not b)) t) (sym e) d

head_due : (p : Places) (b : Bool) (u : Node) → HeadDue p b u
head_due p b u = by_children (HeadDue p b) (
  still p b Absent (search (rules, the_lemmas)),
  λ x. still p b (Flag x) (search (rules, the_lemmas)),
  λ w. still p b (Word w) (search (rules, the_lemmas)),
  λ x. still p b (Text x) (search (rules, the_lemmas)),
  λ s. still p b (Span s) (search (rules, the_lemmas)),
  λ k i d. (let e : async_in p b (Identifier k i) (out-Node (Identifier k i)) ≡ (if is_async_name (Identifier k i) && not b then in_pair p (Identifier kind.Ident i) else Identifier k i) = search (rules, the_lemmas) in subst (λ t. Due Reasoned nothing (head_site (not b)) t) (sym e) (name_due (is_async_name (Identifier k i) && not b) p b k i refl d)),
)
    (λ ts l. still p b (Many ts) (search (rules, the_lemmas)))
    (λ k ts l. still p b (Tree k ts) (search (rules, the_lemmas))) u

pub for_of : (p : Places) (l : Label) (a : Site) (s q t u b : Node) → Rows p l a kind.ForOfStmt (s ∷ q ∷ t ∷ u ∷ b ∷ [])
for_of p l a s q t u b f w x o y v h =
    let q' : Node = heading p q true in
    tree kind.ForOfStmt (heading p s true ∷ q' ∷ of_head p q' (heading p t false) ∷ heading p u true ∷ heading p b true ∷ []) refl (λ z. absurd (cc))
    (more (unseen (heading p s true) (λ z. absurd (cc))) (more (unseen q' (λ z. absurd (cc))) (more (head_due p (holds q') (heading p t false) (f.1.1.0 false (not (holds q')) Anything false false (λ z. refl)))
    (more (f.1.1.1.0 true false Anything false true (λ z. absurd (cc))) (more (f.1.1.1.1.0 true false Anything false true (λ z. absurd (cc))) none)))))
