-- The fixer sets no pair right in another.
use Rattle.std.proofs.Common.{◌≡◌, Bool, true, false, not, ◌&&◌, ◌||◌, List, [], ◌∷◌, map, refl, sym, ap, ◌∙◌, rules, true≢false}
use Rattle.std.specs.Prelude.{Option, if◌then◌else◌}
use Rattle.std.specs.List.{list_all}
use Rattle.swc_tree_marks.specs.declared.ident.Ident.{Ident}
use Rattle.swc_tree_node.specs.declared.kind.Kind.{Kind}
use Rattle.swc_tree_node.specs.declared.kind.Kind.TheVariants as kind
use Rattle.swc_tree_node.specs.declared.kind.Word.{Word as Word'}
use Rattle.swc_tree_node.specs.declared.node.Node.{Node, List as Many, Identifier, Tree, out-Node, the_lemmas}
use Rattle.swc_tree_node.specs.declared.node.Node.TheVariants.{rolls-Tree}
use Rattle.swc_tree_node.specs.declared.node.Node.TheOpen.{Node-F}
use Rattle.swc_tree_grammar.specs.Shapes.{items_of}
use Rattle.swc_tree_grammar.specs.Kinds.{has_kind, is_paren, is_object, is_class, is_function, is_arrow, is_yield, is_await, is_literal, is_destructuring, is_object_pattern}
use Rattle.swc_tree_grammar.specs.Levels.{word_of, is_in, is_absent}
use Rattle.swc_tree_grammar.specs.Forms.{holds}
use Rattle.swc_tree_grammar.specs.Grammar.{is_async_name}
use Rattle.swc_tree_grammar.specs.Demands.{Demand, demands}
use Rattle.swc_tree_grammar.specs.Readers.{named_in, none as nothing, is_odd_item, is_odd_callee, is_odd_object, is_odd_left, is_instance, is_equality, assigns_to}
use Rattle.swc_tree_grammar.specs.Due.{Places, free, pair, each_settled, odd_items, sequence_statement, level_step, in_step, of_head, async_in, paired_by_level, paired_in_heads}
use Rattle.swc_tree_grammar.proofs.Induction.{Each, by_children}
use Rattle.swc_tree_grammar_laws.proofs.Settled.{is_met_by_pairs}
use Rattle.swc_tree_grammar_laws.proofs.Levelled.{both, also_both}
use Rattle.swc_tree_grammar_laws.proofs.Levels.{pairing, pairing_tree, pairing_list}
use Rattle.swc_tree_grammar_laws.proofs.Heads.{heading, heading_tree, heading_list}
use Rattle.swc_tree_grammar_laws.proofs.Every.{every_tree, every_list}
use Rattle.swc_base_fixer_laws.specs.Once.{once_in, paired_once}
use Rattle.swc_base_fixer_laws.proofs.Up.{kind_of_tree, all_up_same}
use Rattle.swc_base_fixer_laws.proofs.Kept.{asks, is_single, single_met}
use Rattle.swc_base_fixer_laws.proofs.AgainStill.{still, still_in}
use Rattle.swc_base_fixer_laws.proofs.AgainLevel.{asked, stepped}
use Rattle.swc_base_fixer_laws.proofs.OnceLevel.{once_tree, once_list, once_pair, once_if, of_paren, Sparing, spare, settled_once, items_once, below, stays}

-- the reader's table names no pair
data AllSparing : List (Node → Bool) → Type 0 where
  nil : AllSparing []
  cons : {x : Node → Bool} {xs : List (Node → Bool)} → Sparing x → AllSparing xs → AllSparing (x ∷ xs)

no_kind : (x : Kind → Bool) → x kind.ParenExpr ≡ false → Sparing (has_kind x)
no_kind x e t h = of_paren (λ t. has_kind x t ≡ false) (λ ts. kind_of_tree x kind.ParenExpr ts ∙ e) t h

and_false : (b : Bool) → (b && false) ≡ false
and_false true = refl
and_false false = refl

no_assign : (x : Kind → Bool) → Sparing (assigns_to x)
no_assign x t h = of_paren (λ t. assigns_to x t ≡ false) (λ ts. search (rules, the_lemmas)) t h

left_of_paren : (op : Option Word') (ts : List Node) → is_odd_left op (Tree kind.ParenExpr ts) ≡ (false || ((is_instance op || is_equality op) && has_kind is_object (Tree kind.ParenExpr ts)))
left_of_paren op ts = search (rules, the_lemmas)

no_left : (op : Option Word') → Sparing (is_odd_left op)
no_left op t h =
    of_paren (λ t. is_odd_left op t ≡ false) (λ ts. left_of_paren op ts ∙ ap (λ b. (is_instance op || is_equality op) && b) (kind_of_tree is_object kind.ParenExpr ts) ∙ and_false (is_instance op || is_equality op)) t h

no_argument : (a : Node) → Sparing (λ e. is_absent a && has_kind is_yield e)
no_argument a t h = ap (λ b. is_absent a && b) (no_kind is_yield refl t h) ∙ and_false (is_absent a)

table_spares : (k : Kind) (ts : List Node) → AllSparing (named_in (Node-F.Tree k ts))
table_spares kind.CallExpr (s ∷ c ∷ a ∷ []) = cons spare (cons (no_kind is_odd_callee refl) (cons spare nil))
table_spares kind.OptCall (s ∷ c ∷ a ∷ []) = cons spare (cons (no_kind is_odd_callee refl) (cons spare nil))
table_spares kind.MemberExpr (s ∷ o ∷ r ∷ []) = cons spare (cons (no_kind is_odd_object refl) (cons spare nil))
table_spares kind.TaggedTpl (s ∷ o ∷ r ∷ []) = cons spare (cons (no_kind is_function refl) (cons spare nil))
table_spares kind.NewExpr (s ∷ o ∷ r ∷ []) = cons spare (cons (no_kind is_literal refl) (cons spare nil))
table_spares kind.BinExpr (s ∷ o ∷ l ∷ r ∷ []) = cons spare (cons spare (cons (no_left (word_of o)) (cons spare nil)))
table_spares kind.ExprOrSpread (a ∷ e ∷ []) = cons spare (cons (no_argument a) nil)
table_spares kind.ArrowExpr (s ∷ a ∷ e ∷ x ∷ []) = cons spare (cons spare (cons (no_assign is_destructuring) (cons spare nil)))
table_spares kind.ExportDefaultExpr (s ∷ e ∷ []) = cons spare (cons (no_kind is_arrow refl) nil)
table_spares kind.ForOfStmt (s ∷ w ∷ l ∷ r ∷ e ∷ []) = cons spare (cons spare (cons spare (cons (no_kind is_await refl) (cons spare nil))))
table_spares k ts = nil

-- the fields of a node
each_once : (p : Places) (ds : List Demand) {xs : List (Node → Bool)} → AllSparing xs → (ts : List Node) → list_all is_met_by_pairs ds ≡ true → list_all paired_once ts ≡ true → list_all paired_once (each_settled p ds xs ts) ≡ true
each_once p [] c ts m h = h
each_once p (d ∷ ds) nil [] m h = refl
each_once p (d ∷ ds) (cons v c) [] m h = refl
each_once p (d ∷ ds) nil (t ∷ ts) m h =
    let a = both (is_met_by_pairs d) (list_all is_met_by_pairs ds) m in let q = both (paired_once t) (list_all paired_once ts) h in
    also_both _ _ (settled_once d p nothing t a.0 spare q.0) (each_once p ds nil ts a.1 q.1)
each_once p (d ∷ ds) (cons {x = x} v c) (t ∷ ts) m h =
    let a = both (is_met_by_pairs d) (list_all is_met_by_pairs ds) m in let q = both (paired_once t) (list_all paired_once ts) h in
    also_both _ _ (settled_once d p x t a.0 v q.0) (each_once p ds c ts a.1 q.1)

all_met : (ds : List Demand) → list_all is_single ds ≡ true → list_all is_met_by_pairs ds ≡ true
all_met [] h = refl
all_met (d ∷ ds) h = let q = both (is_single d) (list_all is_single ds) h in also_both (is_met_by_pairs d) (list_all is_met_by_pairs ds) (single_met d q.0) (all_met ds q.1)

is_asked : (b : Bool) (k : Kind) (us : List Node) → list_all is_met_by_pairs (demands b (Node-F.Tree k us)) ≡ true
is_asked b kind.SeqExpr (s ∷ e ∷ []) = refl
is_asked b kind.SeqExpr [] = refl
is_asked b kind.SeqExpr (s ∷ []) = refl
is_asked b kind.SeqExpr (s ∷ e ∷ f ∷ ts) = refl
is_asked b k us = all_met (demands b (Node-F.Tree k us)) (asks b k (all_up_same us) refl).1

asked_once : (p : Places) (b : Bool) (k : Kind) (us : List Node) → list_all paired_once us ≡ true → list_all paired_once (asked p b k us) ≡ true
asked_once p b k us h = each_once p (demands b (Node-F.Tree k us)) (table_spares k us) us (is_asked b k us) h

-- the items of a sequence that is a statement
odd_kind : (t : Node) → is_odd_item t ≡ true → has_kind is_paren t ≡ false
odd_kind t h = odd_if (has_kind is_paren t) t refl h
  where
    odd_if : (b : Bool) (t : Node) → has_kind is_paren t ≡ b → is_odd_item t ≡ true → has_kind is_paren t ≡ false
    odd_if false t e h = e
    odd_if true t e h = absurd (cc (sym (let f : is_odd_item t ≡ false = rw (no_kind is_object refl t e, no_kind is_class refl t e, no_assign is_object_pattern t e) refl in f) ∙ h))

odd_once : (p : Places) (ts : List Node) → list_all paired_once ts ≡ true → list_all paired_once (odd_items p ts) ≡ true
odd_once p [] h = refl
odd_once p (t ∷ []) h = h
odd_once p (t ∷ u ∷ ts) h = let q = both (paired_once t) (list_all paired_once (u ∷ ts)) h in also_both _ _ (once_if (is_odd_item t) p t (odd_kind t) q.0) (odd_once p (u ∷ ts) q.1)

sequence_row : (p : Places) (k : Kind) (ts : List Node) → paired_once (Tree k ts) ≡ true → paired_once (sequence_statement p (Tree k ts) (Node-F.Tree k ts)) ≡ true
sequence_row p kind.SeqExpr (s ∷ e ∷ []) h =
    let q = both (paired_once s) (paired_once e && true) (below kind.SeqExpr (s ∷ e ∷ []) h) in let us = odd_items p (items_of e) in
    let g = once_list us ∙ odd_once p (items_of e) (items_once e (both (paired_once e) true q.1).0) in
    once_tree kind.SeqExpr (s ∷ Many us ∷ []) ∙ rw (q.0, g) refl
sequence_row p k ts h = h

sequence_once : (p : Places) (t : Node) → paired_once t ≡ true → paired_once (sequence_statement p t (out-Node t)) ≡ true
sequence_once p t = by_children (λ t. paired_once t ≡ true → paired_once (sequence_statement p t (out-Node t)) ≡ true)
    (stays (search (rules, the_lemmas)), λ x. stays (search (rules, the_lemmas)), λ w. stays (search (rules, the_lemmas)), λ x. stays (search (rules, the_lemmas)), λ s. stays (search (rules, the_lemmas)), λ k i. stays (search (rules, the_lemmas)))
    (λ ts l. stays (search (rules, the_lemmas)))
    (λ k ts l h. (let e : sequence_statement p (Tree k ts) (out-Node (Tree k ts)) ≡ sequence_statement p (Tree k ts) (Node-F.Tree k ts) = search (rules, the_lemmas) in rw e (sequence_row p k ts h))) t

-- the first step, in a tree without pairs
abbrev Levelled : Places → Node → Type 0
Levelled p t = still t ≡ true → (b : Bool) → paired_once (pairing p t b) ≡ true

all_levelled : (p : Places) (ts : List Node) → Each (Levelled p) ts → list_all still ts ≡ true → list_all paired_once (stepped p ts) ≡ true
all_levelled p [] l h = refl
all_levelled p (t ∷ ts) l h = let q = both (still t) (list_all still ts) h in also_both _ _ (l.0 q.0 false) (all_levelled p ts l.1 q.1)

level_top : (p : Places) (b : Bool) (k : Kind) (ts : List Node) → still_in (Node-F.Tree k ts) ≡ true → once_in (Node-F.Tree k (asked p b k (stepped p ts))) ≡ true
level_top p b kind.ParenExpr (s ∷ e ∷ []) h = absurd (true≢false (sym h))
level_top p b k ts h = refl

level_row : (p : Places) (b : Bool) (k : Kind) (ts : List Node) → Each (Levelled p) ts → still_in (Node-F.Tree k ts) ≡ true → list_all still ts ≡ true → paired_once (level_step p (Node-F.Tree k (map (pairing p) ts)) b) ≡ true
level_row p b kind.OptChainExpr (s ∷ o ∷ m ∷ []) l g h =
    let q = both (still s) (still o && (still m && true)) h in let r = both (still o) (still m && true) q.1 in
    once_tree kind.OptChainExpr (pairing p s false ∷ pairing p o false ∷ pairing p m true ∷ []) ∙ rw (l.0 q.0 false, l.1.0 r.0 false, l.1.1.0 (both (still m) true r.1).0 true) refl
level_row p b kind.ExprStmt (s ∷ e ∷ []) l g h =
    let q = both (still s) (still e && true) h in let e' = pairing p e false in
    once_tree kind.ExprStmt (pairing p s false ∷ sequence_statement p e' (out-Node e') ∷ []) ∙ rw (l.0 q.0 false, sequence_once p e' (l.1.0 (both (still e) true q.1).0 false)) refl
level_row p b k ts l g h =
    let us = asked p b k (stepped p ts) in
    once_tree k us ∙ also_both (once_in (Node-F.Tree k us)) (list_all paired_once us) (level_top p b k ts g) (asked_once p b k (stepped p ts) (all_levelled p ts l h))

level_once : (p : Places) (t : Node) → Levelled p t
level_once p t = by_children (Levelled p)
    (λ h b. search (rules, the_lemmas), λ x h b. search (rules, the_lemmas), λ w h b. search (rules, the_lemmas), λ x h b. search (rules, the_lemmas), λ s h b. search (rules, the_lemmas), λ k i h b. search (rules, the_lemmas))
    (λ ts l h b. ap paired_once (pairing_list p ts b) ∙ once_list (stepped p ts) ∙ all_levelled p ts l (sym (every_list still_in ts) ∙ h))
    (λ k ts l h b. (let q = both (still_in (Node-F.Tree k ts)) (list_all still ts) (sym (every_tree still_in k ts) ∙ h) in ap paired_once (pairing_tree p k ts b) ∙ level_row p b k ts l q.0 q.1)) t

-- the second step: where `in` may stand, a node keeps its kind
bin_kind : (c : Bool) (p : Places) (us vs : List Node) → c ≡ false → has_kind is_paren (if c then pair p (Tree kind.BinExpr us) else Tree kind.BinExpr vs) ≡ false
bin_kind true p us vs e = absurd (cc)
bin_kind false p us vs e = kind_of_tree is_paren kind.BinExpr vs

kind_row : (p : Places) (k : Kind) (ts : List Node) → has_kind is_paren (in_step p (Node-F.Tree k (map (heading p) ts)) true) ≡ is_paren k
kind_row p kind.BinExpr (s ∷ o ∷ f ∷ g ∷ []) =
    bin_kind (is_in (word_of (heading p o true)) && false) p (heading p s true ∷ heading p o true ∷ heading p f true ∷ heading p g true ∷ []) (heading p s true ∷ heading p o true ∷ heading p f true ∷ heading p g true ∷ []) (and_false (is_in (word_of (heading p o true))))
kind_row p kind.SeqExpr (s ∷ e ∷ []) = kind_of_tree is_paren kind.SeqExpr _
kind_row p kind.AssignExpr (s ∷ o ∷ f ∷ g ∷ []) = kind_of_tree is_paren kind.AssignExpr _
kind_row p kind.CondExpr (s ∷ t ∷ c ∷ a ∷ []) = kind_of_tree is_paren kind.CondExpr _
kind_row p kind.UnaryExpr (s ∷ o ∷ a ∷ []) = kind_of_tree is_paren kind.UnaryExpr _
kind_row p kind.AwaitExpr (s ∷ a ∷ []) = kind_of_tree is_paren kind.AwaitExpr _
kind_row p kind.UpdateExpr (s ∷ o ∷ f ∷ a ∷ []) = kind_of_tree is_paren kind.UpdateExpr _
kind_row p kind.YieldExpr (s ∷ a ∷ d ∷ []) = kind_of_tree is_paren kind.YieldExpr _
kind_row p kind.MemberExpr (s ∷ o ∷ m ∷ []) = kind_of_tree is_paren kind.MemberExpr _
kind_row p kind.TaggedTpl (s ∷ o ∷ m ∷ []) = kind_of_tree is_paren kind.TaggedTpl _
kind_row p kind.CallExpr (s ∷ o ∷ m ∷ []) = kind_of_tree is_paren kind.CallExpr _
kind_row p kind.NewExpr (s ∷ o ∷ m ∷ []) = kind_of_tree is_paren kind.NewExpr _
kind_row p kind.OptChainExpr (s ∷ o ∷ m ∷ []) = kind_of_tree is_paren kind.OptChainExpr _
kind_row p kind.OptCall (s ∷ o ∷ m ∷ []) = kind_of_tree is_paren kind.OptCall _
kind_row p kind.ArrowExpr (s ∷ a ∷ e ∷ f ∷ []) = kind_of_tree is_paren kind.ArrowExpr _
kind_row p kind.VarDecl (s ∷ w ∷ d ∷ []) = kind_of_tree is_paren kind.VarDecl _
kind_row p kind.VarDeclarator (s ∷ n ∷ i ∷ []) = kind_of_tree is_paren kind.VarDeclarator _
kind_row p kind.AssignPat (s ∷ f ∷ a ∷ []) = kind_of_tree is_paren kind.AssignPat _
kind_row p kind.RestPat (s ∷ a ∷ []) = kind_of_tree is_paren kind.RestPat _
kind_row p kind.ForStmt (s ∷ i ∷ t ∷ u ∷ e ∷ []) = kind_of_tree is_paren kind.ForStmt _
kind_row p kind.ForInStmt (s ∷ i ∷ r ∷ e ∷ []) = kind_of_tree is_paren kind.ForInStmt _
kind_row p kind.ForOfStmt (s ∷ w ∷ i ∷ r ∷ e ∷ []) = kind_of_tree is_paren kind.ForOfStmt _
kind_row p k ts = ap (has_kind is_paren) (rolls-Tree k (map free (map (heading p) ts))) ∙ kind_of_tree is_paren k (map free (map (heading p) ts))

head_kind : (p : Places) (t : Node) → has_kind is_paren (heading p t true) ≡ has_kind is_paren t
head_kind p t = by_children (λ t. has_kind is_paren (heading p t true) ≡ has_kind is_paren t)
    (search (rules, the_lemmas), λ x. search (rules, the_lemmas), λ w. search (rules, the_lemmas), λ x. search (rules, the_lemmas), λ s. search (rules, the_lemmas), λ k i. search (rules, the_lemmas))
    (λ ts l. search (rules, the_lemmas))
    (λ k ts l. ap (has_kind is_paren) (heading_tree p k ts true) ∙ kind_row p k ts ∙ sym (kind_of_tree is_paren k ts)) t

abbrev Headed : Places → Node → Type 0
Headed p t = paired_once t ≡ true → (b : Bool) → paired_once (heading p t b) ≡ true

all_headed : (p : Places) (ts : List Node) (b : Bool) → Each (Headed p) ts → list_all paired_once ts ≡ true → list_all paired_once (map (λ f. f b) (map (heading p) ts)) ≡ true
all_headed p [] b l h = refl
all_headed p (t ∷ ts) b l h = let q = both (paired_once t) (list_all paired_once ts) h in also_both _ _ (l.0 q.0 b) (all_headed p ts b l.1 q.1)

two : (p : Places) (k : Kind) (a b : Node) (x y : Bool) → ((us : List Node) → once_in (Node-F.Tree k us) ≡ true) → list_all paired_once (a ∷ b ∷ []) ≡ true → Headed p a → Headed p b → paired_once (Tree k (heading p a x ∷ heading p b y ∷ [])) ≡ true
two p k a b x y e h f g = let q = both (paired_once a) (paired_once b && true) h in once_tree k (heading p a x ∷ heading p b y ∷ []) ∙ rw (e (heading p a x ∷ heading p b y ∷ []), f q.0 x, g (both (paired_once b) true q.1).0 y) refl

three : (p : Places) (k : Kind) (a b c : Node) (x y z : Bool) → ((us : List Node) → once_in (Node-F.Tree k us) ≡ true) → list_all paired_once (a ∷ b ∷ c ∷ []) ≡ true → Headed p a → Headed p b → Headed p c
    → paired_once (Tree k (heading p a x ∷ heading p b y ∷ heading p c z ∷ [])) ≡ true
three p k a b c x y z e h f g j =
    let us : List Node = heading p a x ∷ heading p b y ∷ heading p c z ∷ [] in let q = both (paired_once a) (paired_once b && (paired_once c && true)) h in let r = both (paired_once b) (paired_once c && true) q.1 in
    once_tree k us ∙ rw (e us, f q.0 x, g r.0 y, j (both (paired_once c) true r.1).0 z) refl

four : (p : Places) (k : Kind) (a b c d : Node) (x y z w : Bool) → ((us : List Node) → once_in (Node-F.Tree k us) ≡ true) → list_all paired_once (a ∷ b ∷ c ∷ d ∷ []) ≡ true → Headed p a → Headed p b → Headed p c → Headed p d
    → paired_once (Tree k (heading p a x ∷ heading p b y ∷ heading p c z ∷ heading p d w ∷ [])) ≡ true
four p k a b c d x y z w e h f g j i =
    let us : List Node = heading p a x ∷ heading p b y ∷ heading p c z ∷ heading p d w ∷ [] in
    let q = both (paired_once a) (paired_once b && (paired_once c && (paired_once d && true))) h in let r = both (paired_once b) (paired_once c && (paired_once d && true)) q.1 in let t = both (paired_once c) (paired_once d && true) r.1 in
    once_tree k us ∙ rw (e us, f q.0 x, g r.0 y, j t.0 z, i (both (paired_once d) true t.1).0 w) refl

binary_if : (c : Bool) (p : Places) (us vs : List Node) → paired_once (Tree kind.BinExpr us) ≡ true → paired_once (Tree kind.BinExpr vs) ≡ true → paired_once (if c then pair p (Tree kind.BinExpr us) else Tree kind.BinExpr vs) ≡ true
binary_if true p us vs h g = once_pair p (Tree kind.BinExpr us) (kind_of_tree is_paren kind.BinExpr us) h
binary_if false p us vs h g = g

name_if : (c : Bool) (p : Places) (k : Kind) (i : Ident) → paired_once (if c then pair p (Identifier kind.Ident i) else Identifier k i) ≡ true
name_if true p k i = once_pair p (Identifier kind.Ident i) (search (rules, the_lemmas)) (search (rules, the_lemmas))
name_if false p k i = search (rules, the_lemmas)

async_once : (p : Places) (w : Bool) (t : Node) → paired_once t ≡ true → paired_once (async_in p w t (out-Node t)) ≡ true
async_once p w t = by_children (λ t. paired_once t ≡ true → paired_once (async_in p w t (out-Node t)) ≡ true) (
  stays (search (rules, the_lemmas)),
  λ x. stays (search (rules, the_lemmas)),
  λ v. stays (search (rules, the_lemmas)),
  λ x. stays (search (rules, the_lemmas)),
  λ s. stays (search (rules, the_lemmas)),
  λ k i h. (let e : async_in p w (Identifier k i) (out-Node (Identifier k i)) ≡ (if is_async_name (Identifier k i) && not w then pair p (Identifier kind.Ident i) else Identifier k i) = search (rules, the_lemmas) in rw e (name_if (is_async_name (Identifier k i) && not w) p k i)),
)
    (λ ts l. stays (search (rules, the_lemmas)))
    (λ k ts l. stays (search (rules, the_lemmas))) t

head_row : (p : Places) (b : Bool) (k : Kind) (ts : List Node) → Each (Headed p) ts → once_in (Node-F.Tree k ts) ≡ true → list_all paired_once ts ≡ true → paired_once (in_step p (Node-F.Tree k (map (heading p) ts)) b) ≡ true
head_row p b kind.BinExpr (s ∷ o ∷ f ∷ g ∷ []) l e h =
    binary_if (is_in (word_of (heading p o true)) && not b) p (heading p s true ∷ heading p o true ∷ heading p f true ∷ heading p g true ∷ []) (heading p s true ∷ heading p o true ∷ heading p f b ∷ heading p g b ∷ [])
    (four p kind.BinExpr s o f g true true true true (λ us. refl) h l.0 l.1.0 l.1.1.0 l.1.1.1.0) (four p kind.BinExpr s o f g true true b b (λ us. refl) h l.0 l.1.0 l.1.1.0 l.1.1.1.0)
head_row p b kind.SeqExpr (s ∷ a ∷ []) l e h = two p kind.SeqExpr s a true b (λ us. refl) h l.0 l.1.0
head_row p b kind.AssignExpr (s ∷ o ∷ f ∷ g ∷ []) l e h = four p kind.AssignExpr s o f g true true b b (λ us. refl) h l.0 l.1.0 l.1.1.0 l.1.1.1.0
head_row p b kind.CondExpr (s ∷ t ∷ c ∷ a ∷ []) l e h = four p kind.CondExpr s t c a true b true b (λ us. refl) h l.0 l.1.0 l.1.1.0 l.1.1.1.0
head_row p b kind.UnaryExpr (s ∷ o ∷ a ∷ []) l e h = three p kind.UnaryExpr s o a true true b (λ us. refl) h l.0 l.1.0 l.1.1.0
head_row p b kind.AwaitExpr (s ∷ a ∷ []) l e h = two p kind.AwaitExpr s a true b (λ us. refl) h l.0 l.1.0
head_row p b kind.UpdateExpr (s ∷ o ∷ f ∷ a ∷ []) l e h = four p kind.UpdateExpr s o f a true true true b (λ us. refl) h l.0 l.1.0 l.1.1.0 l.1.1.1.0
head_row p b kind.YieldExpr (s ∷ a ∷ d ∷ []) l e h = three p kind.YieldExpr s a d true b true (λ us. refl) h l.0 l.1.0 l.1.1.0
head_row p b kind.MemberExpr (s ∷ o ∷ m ∷ []) l e h = three p kind.MemberExpr s o m true b true (λ us. refl) h l.0 l.1.0 l.1.1.0
head_row p b kind.TaggedTpl (s ∷ o ∷ m ∷ []) l e h = three p kind.TaggedTpl s o m true b true (λ us. refl) h l.0 l.1.0 l.1.1.0
head_row p b kind.CallExpr (s ∷ o ∷ m ∷ []) l e h = three p kind.CallExpr s o m true b true (λ us. refl) h l.0 l.1.0 l.1.1.0
head_row p b kind.NewExpr (s ∷ o ∷ m ∷ []) l e h = three p kind.NewExpr s o m true b true (λ us. refl) h l.0 l.1.0 l.1.1.0
head_row p b kind.OptChainExpr (s ∷ o ∷ m ∷ []) l e h = three p kind.OptChainExpr s o m true true b (λ us. refl) h l.0 l.1.0 l.1.1.0
head_row p b kind.OptCall (s ∷ o ∷ m ∷ []) l e h = three p kind.OptCall s o m true b true (λ us. refl) h l.0 l.1.0 l.1.1.0
head_row p b kind.ArrowExpr (s ∷ a ∷ d ∷ f ∷ []) l e h = four p kind.ArrowExpr s a d f true true b true (λ us. refl) h l.0 l.1.0 l.1.1.0 l.1.1.1.0
head_row p b kind.VarDecl (s ∷ w ∷ d ∷ []) l e h = three p kind.VarDecl s w d true true b (λ us. refl) h l.0 l.1.0 l.1.1.0
head_row p b kind.VarDeclarator (s ∷ n ∷ i ∷ []) l e h = three p kind.VarDeclarator s n i true b b (λ us. refl) h l.0 l.1.0 l.1.1.0
head_row p b kind.AssignPat (s ∷ f ∷ a ∷ []) l e h = three p kind.AssignPat s f a true b b (λ us. refl) h l.0 l.1.0 l.1.1.0
head_row p b kind.RestPat (s ∷ a ∷ []) l e h = two p kind.RestPat s a true b (λ us. refl) h l.0 l.1.0
head_row p b kind.ForStmt (s ∷ i ∷ t ∷ u ∷ d ∷ []) l e h =
    let q = both (paired_once s) (list_all paired_once (i ∷ t ∷ u ∷ d ∷ [])) h in let r = both (paired_once i) (list_all paired_once (t ∷ u ∷ d ∷ [])) q.1 in
    let x = both (paired_once t) (list_all paired_once (u ∷ d ∷ [])) r.1 in let y = both (paired_once u) (list_all paired_once (d ∷ [])) x.1 in
    once_tree kind.ForStmt (heading p s true ∷ heading p i false ∷ heading p t true ∷ heading p u true ∷ heading p d true ∷ [])
    ∙ rw (l.0 q.0 true, l.1.0 r.0 false, l.1.1.0 x.0 true, l.1.1.1.0 y.0 true, l.1.1.1.1.0 (both (paired_once d) true y.1).0 true) refl
head_row p b kind.ForInStmt (s ∷ i ∷ r ∷ d ∷ []) l e h = four p kind.ForInStmt s i r d true false true true (λ us. refl) h l.0 l.1.0 l.1.1.0 l.1.1.1.0
head_row p b kind.ForOfStmt (s ∷ w ∷ i ∷ u ∷ d ∷ []) l e h =
    let q = both (paired_once s) (list_all paired_once (w ∷ i ∷ u ∷ d ∷ [])) h in let r = both (paired_once w) (list_all paired_once (i ∷ u ∷ d ∷ [])) q.1 in
    let x = both (paired_once i) (list_all paired_once (u ∷ d ∷ [])) r.1 in let y = both (paired_once u) (list_all paired_once (d ∷ [])) x.1 in
    let a = async_once p (holds (heading p w true)) (heading p i false) (l.1.1.0 x.0 false) in
    once_tree kind.ForOfStmt (heading p s true ∷ heading p w true ∷ of_head p (heading p w true) (heading p i false) ∷ heading p u true ∷ heading p d true ∷ [])
    ∙ rw (l.0 q.0 true, l.1.0 r.0 true, a, l.1.1.1.0 y.0 true, l.1.1.1.1.0 (both (paired_once d) true y.1).0 true) refl
head_row p b kind.ParenExpr (s ∷ a ∷ []) l e h =
    let q = both (paired_once s) (paired_once a && true) h in let us : List Node = heading p s true ∷ heading p a true ∷ [] in
    ap paired_once (rolls-Tree kind.ParenExpr us) ∙ once_tree kind.ParenExpr us ∙ rw (head_kind p a, e, l.0 q.0 true, l.1.0 (both (paired_once a) true q.1).0 true) refl
head_row p b k ts l e h =
    let us = map free (map (heading p) ts) in
    ap paired_once (rolls-Tree k us) ∙ once_tree k us ∙ all_headed p ts true l h

heads_once : (p : Places) (t : Node) → Headed p t
heads_once p t = by_children (Headed p)
    (λ h b. search (rules, the_lemmas), λ x h b. search (rules, the_lemmas), λ w h b. search (rules, the_lemmas), λ x h b. search (rules, the_lemmas), λ s h b. search (rules, the_lemmas), λ k i h b. search (rules, the_lemmas))
    (λ ts l h b. ap paired_once (heading_list p ts b) ∙ once_list (map (λ f. f b) (map (heading p) ts)) ∙ all_headed p ts b l (sym (once_list ts) ∙ h))
    (λ k ts l h b. (let q = both (once_in (Node-F.Tree k ts)) (list_all paired_once ts) (sym (once_tree k ts) ∙ h) in ap paired_once (heading_tree p k ts b) ∙ head_row p b k ts l q.0 q.1)) t

pub settled_heads_once : (p : Places) (t : Node) → still t ≡ true → paired_once (paired_in_heads p (paired_by_level p t)) ≡ true
settled_heads_once p t h = heads_once p (paired_by_level p t) (level_once p t h false) true
