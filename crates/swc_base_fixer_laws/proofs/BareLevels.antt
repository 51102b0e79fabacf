-- The first step of the due pairs sets none round an assignment's target.
use Rattle.std.proofs.Common.{◌≡◌, ℕ, Bool, true, false, not, ◌&&◌, ◌||◌, List, [], ◌∷◌, map, refl, sym, ap, ◌∙◌, rules, true≢false}
use Rattle.std.specs.Prelude.{if◌then◌else◌}
use Rattle.std.specs.List.{list_all}
use Rattle.swc_tree_node.specs.declared.kind.Kind.{Kind}
use Rattle.swc_tree_node.specs.declared.kind.Kind.TheVariants as kind
use Rattle.swc_tree_node.specs.declared.node.Node.{Node, Absent, Flag, Word, Text, Span, List as Many, Identifier, Tree, out-Node, the_lemmas}
use Rattle.swc_tree_node.specs.declared.node.Node.TheOpen.{Node-F}
use Rattle.swc_tree_grammar.specs.Shapes.{items_of}
use Rattle.swc_tree_grammar.specs.Kinds.{has_kind, is_paren}
use Rattle.swc_tree_grammar.specs.Blocks.{span_of}
use Rattle.swc_tree_grammar.specs.Stripped.{is_pairless, pairless_step}
use Rattle.swc_tree_grammar.specs.Demands.{Demand, demands, meets, at_least}
use Rattle.swc_tree_grammar.specs.Demands.Demand.{Any, AtLeast, Each as EachOf, Key, Body, Operand, Link, NewCallee, OrSide, NullishSide}
use Rattle.swc_tree_grammar.specs.Readers.{named_in, none as nothing, is_odd_item}
use Rattle.swc_tree_grammar.specs.Due.{Places, pair, pair_if, to_level, key_in, callee_in, call_paired, settled, each_settled, odd_items, sequence_statement, level_step, paired_by_level}
use Rattle.swc_tree_grammar.proofs.Induction.{Each, by_children}
use Rattle.swc_tree_grammar_laws.proofs.Callees.{callee, paired_of}
use Rattle.swc_tree_grammar_laws.proofs.Every.{every_tree, every_list}
use Rattle.swc_tree_grammar_laws.proofs.Levelled.{both, also, also_both}
use Rattle.swc_tree_grammar_laws.proofs.Levels.{pairing, pairing_tree, pairing_list}
use Rattle.swc_base_fixer_laws.specs.Targets.{bare_target_in, has_bare_targets}
use Rattle.swc_base_fixer_laws.proofs.AgainLevel.{asked, stepped}
use Rattle.swc_base_fixer_laws.proofs.AgainMore.{callee_whole, call_of_list}
use Rattle.swc_base_fixer_laws.proofs.OnceLevel.{items_many}
use Rattle.swc_base_fixer_laws.proofs.PlacedLevel.{pairless_of_tree, pairless_of_list}
use Rattle.swc_base_fixer_laws.proofs.Up.{kind_of_tree}

abbrev pub Bare : Node → Type 0
Bare t = has_bare_targets t ≡ true

pub bare_tree : (k : Kind) (ts : List Node) → has_bare_targets (Tree k ts) ≡ (bare_target_in (Node-F.Tree k ts) && list_all has_bare_targets ts)
bare_tree = every_tree bare_target_in

pub bare_list : (ts : List Node) → has_bare_targets (Many ts) ≡ list_all has_bare_targets ts
bare_list = every_list bare_target_in

pub bare_parts : (k : Kind) (ts : List Node) → Bare (Tree k ts) → (bare_target_in (Node-F.Tree k ts) ≡ true) × (list_all has_bare_targets ts ≡ true)
bare_parts k ts h = both (bare_target_in (Node-F.Tree k ts)) (list_all has_bare_targets ts) (sym (bare_tree k ts) ∙ h)

-- a tree without pairs
unpaired_row : (k : Kind) (ts : List Node) → pairless_step (Node-F.Tree k (map is_pairless ts)) ≡ true → (is_paren k ≡ false) × (list_all (λ b. b) (map is_pairless ts) ≡ true)
unpaired_row kind.ParenExpr ts h = absurd (true≢false (sym h))
unpaired_row k ts h = (refl, h)

abbrev Unpaired : Node → Type 0
Unpaired t = is_pairless t ≡ true → (has_kind is_paren t ≡ false) × Bare t

all_unpaired : (ts : List Node) → Each Unpaired ts → list_all (λ b. b) (map is_pairless ts) ≡ true → Each (λ t. has_kind is_paren t ≡ false) ts × (list_all has_bare_targets ts ≡ true)
all_unpaired [] l h = (tt, refl)
all_unpaired (t ∷ ts) l h = let q = both (is_pairless t) (list_all (λ b. b) (map is_pairless ts)) h in let x = l.0 q.0 in let y = all_unpaired ts l.1 q.1 in ((x.0, y.0), also x.1 y.1)

top_row : (k : Kind) (ts : List Node) → Each (λ t. has_kind is_paren t ≡ false) ts → bare_target_in (Node-F.Tree k ts) ≡ true
top_row kind.AssignExpr (s ∷ o ∷ f ∷ r ∷ []) l = ap not l.1.1.0
top_row k ts l = refl

unpaired : (t : Node) → Unpaired t
unpaired t = by_children Unpaired
    (λ h. (search (rules, the_lemmas), search (rules, the_lemmas)), λ x h. (search (rules, the_lemmas), search (rules, the_lemmas)), λ w h. (search (rules, the_lemmas), search (rules, the_lemmas)), λ x h. (search (rules, the_lemmas), search (rules, the_lemmas)), λ s h. (search (rules, the_lemmas), search (rules, the_lemmas)), λ k i h. (search (rules, the_lemmas), search (rules, the_lemmas)))
    (λ ts l h. (search (rules, the_lemmas), bare_list ts ∙ (all_unpaired ts l (sym (pairless_of_list ts) ∙ h)).1))
    (λ k ts l h. (let q = unpaired_row k ts (sym (pairless_of_tree k ts) ∙ h) in let x = all_unpaired ts l q.1 in (kind_of_tree is_paren k ts ∙ q.0, bare_tree k ts ∙ also (top_row k ts x.0) x.1))) t

-- a pair
pub bare_pair : (p : Places) (e : Node) → Bare e → Bare (pair p e)
bare_pair p e h = let s : Bare (Span (p (span_of e))) = search (rules, the_lemmas) in bare_tree kind.ParenExpr (Span (p (span_of e)) ∷ e ∷ []) ∙ rw (s, h) refl

pub bare_if : (c : Bool) (p : Places) (e : Node) → Bare e → Bare (pair_if c p e)
bare_if true p e h = bare_pair p e h
bare_if false p e h = h

levels_bare : (n : ℕ) (p : Places) (ts : List Node) → list_all has_bare_targets ts ≡ true → list_all has_bare_targets (map (to_level n p) ts) ≡ true
levels_bare n p [] h = refl
levels_bare n p (t ∷ ts) h = let q = both (has_bare_targets t) (list_all has_bare_targets ts) h in also (bare_if (not (at_least n t)) p t q.0) (levels_bare n p ts q.1)

items_bare : (t : Node) → Bare t → list_all has_bare_targets (items_of t) ≡ true
items_bare t = by_children (λ t. Bare t → list_all has_bare_targets (items_of t) ≡ true)
    (λ h. search (rules, the_lemmas), λ x h. search (rules, the_lemmas), λ w h. search (rules, the_lemmas), λ x h. search (rules, the_lemmas), λ s h. search (rules, the_lemmas), λ k i h. search (rules, the_lemmas))
    (λ ts l h. rw (items_many ts) (sym (bare_list ts) ∙ h))
    (λ k ts l h. search (rules, the_lemmas)) t

-- callees
abbrev Called : Places → Node → Type 0
Called p t = Bare t → Bare (call_paired p t)

called_row : (p : Places) (k : Kind) (ts : List Node) → Each (Called p) ts → Bare (Tree k ts) → Bare (callee_in p (Tree k ts) (Node-F.Tree k (map (callee p) ts)))
called_row p kind.MemberExpr (s ∷ o ∷ m ∷ []) l h =
    let q = both (has_bare_targets s) (has_bare_targets o && (has_bare_targets m && true)) (bare_parts kind.MemberExpr (s ∷ o ∷ m ∷ []) h).1 in
    let r = both (has_bare_targets o) (has_bare_targets m && true) q.1 in let x = both (has_bare_targets m) true r.1 in
    rw (callee_whole p s, callee_whole p m) (bare_tree kind.MemberExpr (s ∷ call_paired p o ∷ m ∷ []) ∙ rw (q.0, l.1.0 r.0, x.0) refl)
called_row p kind.TaggedTpl (s ∷ o ∷ m ∷ []) l h =
    let q = both (has_bare_targets s) (has_bare_targets o && (has_bare_targets m && true)) (bare_parts kind.TaggedTpl (s ∷ o ∷ m ∷ []) h).1 in
    let r = both (has_bare_targets o) (has_bare_targets m && true) q.1 in let x = both (has_bare_targets m) true r.1 in
    rw (callee_whole p s, callee_whole p m) (bare_tree kind.TaggedTpl (s ∷ call_paired p o ∷ m ∷ []) ∙ rw (q.0, l.1.0 r.0, x.0) refl)
called_row p k ts l h = bare_pair p (Tree k ts) h

leaf_called : (p : Places) (t : Node) → call_paired p t ≡ pair p t → Called p t
leaf_called p t e h = rw e (bare_pair p t h)

called_bare : (p : Places) (t : Node) → Called p t
called_bare p t = by_children (Called p)
    (leaf_called p Absent (search (rules, the_lemmas)), λ x. leaf_called p (Flag x) (search (rules, the_lemmas)), λ w. leaf_called p (Word w) (search (rules, the_lemmas)), λ x. leaf_called p (Text x) (search (rules, the_lemmas)), λ s. leaf_called p (Span s) (search (rules, the_lemmas)), λ k i. leaf_called p (Identifier k i) (search (rules, the_lemmas)))
    (λ ts l. leaf_called p (Many ts) (call_of_list p ts))
    (λ k ts l h. rw (paired_of p k ts) (called_row p k ts l h)) t

callee_if : (a b : Bool) (p : Places) (t : Node) → Bare t → Bare (if a then pair p t else (if b then t else call_paired p t))
callee_if true b p t h = bare_pair p t h
callee_if false true p t h = h
callee_if false false p t h = called_bare p t h

-- keys
key_row : (p : Places) (k : Kind) (ts : List Node) → Bare (Tree k ts) → Bare (key_in p (Tree k ts) (Node-F.Tree k ts))
key_row p kind.ComputedPropName (s ∷ e ∷ []) h =
    let q = both (has_bare_targets s) (has_bare_targets e && true) (bare_parts kind.ComputedPropName (s ∷ e ∷ []) h).1 in let r = both (has_bare_targets e) true q.1 in
    bare_tree kind.ComputedPropName (s ∷ to_level 2 p e ∷ []) ∙ rw (q.0, bare_if (not (at_least 2 e)) p e r.0) refl
key_row p k ts h = h

stays : {t u : Node} → u ≡ t → Bare t → Bare u
stays e h = rw e h

key_bare : (p : Places) (t : Node) → Bare t → Bare (key_in p t (out-Node t))
key_bare p t = by_children (λ t. Bare t → Bare (key_in p t (out-Node t)))
    (stays (search (rules, the_lemmas)), λ x. stays (search (rules, the_lemmas)), λ w. stays (search (rules, the_lemmas)), λ x. stays (search (rules, the_lemmas)), λ s. stays (search (rules, the_lemmas)), λ k i. stays (search (rules, the_lemmas)))
    (λ ts l. stays (search (rules, the_lemmas)))
    (λ k ts l h. (let e : key_in p (Tree k ts) (out-Node (Tree k ts)) ≡ key_in p (Tree k ts) (Node-F.Tree k ts) = search (rules, the_lemmas) in rw e (key_row p k ts h))) t

-- the fields of a node
settled_bare : (d : Demand) (p : Places) (x : Node → Bool) (t : Node) → Bare t → Bare (settled p d x t)
settled_bare (EachOf n) p x t h = bare_list (map (to_level n p) (items_of t)) ∙ levels_bare n p (items_of t) (items_bare t h)
settled_bare Key p x t h = key_bare p t h
settled_bare (NewCallee bare) p x t h = callee_if (x t) (meets (NewCallee bare) t) p t h
settled_bare Any p x t h = bare_if (x t || not (meets Any t)) p t h
settled_bare (AtLeast n) p x t h = bare_if (x t || not (meets (AtLeast n) t)) p t h
settled_bare Body p x t h = bare_if (x t || not (meets Body t)) p t h
settled_bare Operand p x t h = bare_if (x t || not (meets Operand t)) p t h
settled_bare Link p x t h = bare_if (x t || not (meets Link t)) p t h
settled_bare OrSide p x t h = bare_if (x t || not (meets OrSide t)) p t h
settled_bare NullishSide p x t h = bare_if (x t || not (meets NullishSide t)) p t h

each_bare : (p : Places) (ds : List Demand) (xs : List (Node → Bool)) (ts : List Node) → list_all has_bare_targets ts ≡ true → list_all has_bare_targets (each_settled p ds xs ts) ≡ true
each_bare p [] xs ts h = h
each_bare p (d ∷ ds) [] [] h = refl
each_bare p (d ∷ ds) (x ∷ xs) [] h = refl
each_bare p (d ∷ ds) [] (t ∷ ts) h = let q = both (has_bare_targets t) (list_all has_bare_targets ts) h in also_both _ _ (settled_bare d p nothing t q.0) (each_bare p ds [] ts q.1)
each_bare p (d ∷ ds) (x ∷ xs) (t ∷ ts) h = let q = both (has_bare_targets t) (list_all has_bare_targets ts) h in also_both _ _ (settled_bare d p x t q.0) (each_bare p ds xs ts q.1)

asked_bare : (p : Places) (b : Bool) (k : Kind) (us : List Node) → list_all has_bare_targets us ≡ true → list_all has_bare_targets (asked p b k us) ≡ true
asked_bare p b k us h = each_bare p (demands b (Node-F.Tree k us)) (named_in (Node-F.Tree k us)) us h

-- the items of a sequence that is a statement
odd_bare : (p : Places) (ts : List Node) → list_all has_bare_targets ts ≡ true → list_all has_bare_targets (odd_items p ts) ≡ true
odd_bare p [] h = refl
odd_bare p (t ∷ []) h = h
odd_bare p (t ∷ u ∷ ts) h = let q = both (has_bare_targets t) (list_all has_bare_targets (u ∷ ts)) h in also_both _ _ (bare_if (is_odd_item t) p t q.0) (odd_bare p (u ∷ ts) q.1)

sequence_row : (p : Places) (k : Kind) (ts : List Node) → Bare (Tree k ts) → Bare (sequence_statement p (Tree k ts) (Node-F.Tree k ts))
sequence_row p kind.SeqExpr (s ∷ e ∷ []) h =
    let q = both (has_bare_targets s) (has_bare_targets e && true) (bare_parts kind.SeqExpr (s ∷ e ∷ []) h).1 in let r = both (has_bare_targets e) true q.1 in let us = odd_items p (items_of e) in
    let g = bare_list us ∙ odd_bare p (items_of e) (items_bare e r.0) in
    bare_tree kind.SeqExpr (s ∷ Many us ∷ []) ∙ rw (q.0, g) refl
sequence_row p k ts h = h

sequence_bare : (p : Places) (t : Node) → Bare t → Bare (sequence_statement p t (out-Node t))
sequence_bare p t = by_children (λ t. Bare t → Bare (sequence_statement p t (out-Node t)))
    (stays (search (rules, the_lemmas)), λ x. stays (search (rules, the_lemmas)), λ w. stays (search (rules, the_lemmas)), λ x. stays (search (rules, the_lemmas)), λ s. stays (search (rules, the_lemmas)), λ k i. stays (search (rules, the_lemmas)))
    (λ ts l. stays (search (rules, the_lemmas)))
    (λ k ts l h. (let e : sequence_statement p (Tree k ts) (out-Node (Tree k ts)) ≡ sequence_statement p (Tree k ts) (Node-F.Tree k ts) = search (rules, the_lemmas) in rw e (sequence_row p k ts h))) t

-- a node keeps its kind
kind_row : (p : Places) (b : Bool) (k : Kind) (ts : List Node) → has_kind is_paren (level_step p (Node-F.Tree k (map (pairing p) ts)) b) ≡ is_paren k
kind_row p b kind.OptChainExpr (s ∷ o ∷ m ∷ []) = kind_of_tree is_paren kind.OptChainExpr _
kind_row p b kind.ExprStmt (s ∷ e ∷ []) = kind_of_tree is_paren kind.ExprStmt _
kind_row p b k ts = kind_of_tree is_paren k _

level_kind : (p : Places) (t : Node) (b : Bool) → has_kind is_paren (pairing p t b) ≡ has_kind is_paren t
level_kind p t = by_children (λ t. (b : Bool) → has_kind is_paren (pairing p t b) ≡ has_kind is_paren t)
    (λ b. search (rules, the_lemmas), λ x b. search (rules, the_lemmas), λ w b. search (rules, the_lemmas), λ x b. search (rules, the_lemmas), λ s b. search (rules, the_lemmas), λ k i b. search (rules, the_lemmas))
    (λ ts l b. search (rules, the_lemmas))
    (λ k ts l b. ap (has_kind is_paren) (pairing_tree p k ts b) ∙ kind_row p b k ts ∙ sym (kind_of_tree is_paren k ts)) t

-- every node
abbrev Levelled : Places → Node → Type 0
Levelled p t = Bare t → (b : Bool) → Bare (pairing p t b)

all_levelled : (p : Places) (ts : List Node) → Each (Levelled p) ts → list_all has_bare_targets ts ≡ true → list_all has_bare_targets (stepped p ts) ≡ true
all_levelled p [] l h = refl
all_levelled p (t ∷ ts) l h = let q = both (has_bare_targets t) (list_all has_bare_targets ts) h in also_both _ _ (l.0 q.0 false) (all_levelled p ts l.1 q.1)

level_top : (p : Places) (b : Bool) (k : Kind) (ts : List Node) → bare_target_in (Node-F.Tree k ts) ≡ true → bare_target_in (Node-F.Tree k (asked p b k (stepped p ts))) ≡ true
level_top p b kind.AssignExpr (s ∷ o ∷ f ∷ r ∷ []) h = ap not (level_kind p f false) ∙ h
level_top p b k ts h = refl

level_row : (p : Places) (b : Bool) (k : Kind) (ts : List Node) → Each (Levelled p) ts → bare_target_in (Node-F.Tree k ts) ≡ true → list_all has_bare_targets ts ≡ true → Bare (level_step p (Node-F.Tree k (map (pairing p) ts)) b)
level_row p b kind.OptChainExpr (s ∷ o ∷ m ∷ []) l g h =
    let q = both (has_bare_targets s) (has_bare_targets o && (has_bare_targets m && true)) h in let r = both (has_bare_targets o) (has_bare_targets m && true) q.1 in let x = both (has_bare_targets m) true r.1 in
    bare_tree kind.OptChainExpr (pairing p s false ∷ pairing p o false ∷ pairing p m true ∷ []) ∙ rw (l.0 q.0 false, l.1.0 r.0 false, l.1.1.0 x.0 true) refl
level_row p b kind.ExprStmt (s ∷ e ∷ []) l g h =
    let q = both (has_bare_targets s) (has_bare_targets e && true) h in let r = both (has_bare_targets e) true q.1 in let e' = pairing p e false in
    bare_tree kind.ExprStmt (pairing p s false ∷ sequence_statement p e' (out-Node e') ∷ []) ∙ rw (l.0 q.0 false, sequence_bare p e' (l.1.0 r.0 false)) refl
level_row p b k ts l g h =
    let us = asked p b k (stepped p ts) in
    bare_tree k us ∙ also_both (bare_target_in (Node-F.Tree k us)) (list_all has_bare_targets us) (level_top p b k ts g) (asked_bare p b k (stepped p ts) (all_levelled p ts l h))

level_bare : (p : Places) (t : Node) → Levelled p t
level_bare p t = by_children (Levelled p)
    (λ h b. search (rules, the_lemmas), λ x h b. search (rules, the_lemmas), λ w h b. search (rules, the_lemmas), λ x h b. search (rules, the_lemmas), λ s h b. search (rules, the_lemmas), λ k i h b. search (rules, the_lemmas))
    (λ ts l h b. ap has_bare_targets (pairing_list p ts b) ∙ bare_list (stepped p ts) ∙ all_levelled p ts l (sym (bare_list ts) ∙ h))
    (λ k ts l h b. (let q = bare_parts k ts h in ap has_bare_targets (pairing_tree p k ts b) ∙ level_row p b k ts l q.0 q.1)) t

pub levels_set_bare : (p : Places) (t : Node) → is_pairless t ≡ true → Bare (paired_by_level p t)
levels_set_bare p t n = level_bare p t (unpaired t n).1 false
