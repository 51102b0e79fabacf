-- The first step of the due pairs sets no pair right in another.
use Rattle.std.proofs.Common.{◌≡◌, ℕ, Bool, true, false, not, ◌&&◌, ◌||◌, List, [], ◌∷◌, map, refl, sym, ap, ◌∙◌, rules, true≢false}
use Rattle.std.specs.Prelude.{nat_le, if◌then◌else◌}
use Rattle.std.specs.List.{list_all}
use Rattle.swc_tree_node.specs.declared.kind.Kind.{Kind}
use Rattle.swc_tree_node.specs.declared.kind.Kind.TheVariants as kind
use Rattle.swc_tree_node.specs.declared.node.Node.{Node, Absent, Flag, Word, Text, Span, List as Many, Identifier, Tree, out-Node, the_lemmas}
use Rattle.swc_tree_node.specs.declared.node.Node.TheOpen.{Node-F}
use Rattle.swc_tree_grammar.specs.Shapes.{items_of}
use Rattle.swc_tree_grammar.specs.Kinds.{has_kind, is_paren}
use Rattle.swc_tree_grammar.specs.Blocks.{span_of}
use Rattle.swc_tree_grammar.specs.Levels.{is_called, called_step}
use Rattle.swc_tree_grammar.specs.Demands.{Demand, meets, at_least}
use Rattle.swc_tree_grammar.specs.Demands.Demand.{Any, AtLeast, Each as EachOf, Key, Body, Operand, Link, NewCallee, OrSide, NullishSide}
use Rattle.swc_tree_grammar.specs.Readers.{none as nothing}
use Rattle.swc_tree_grammar.specs.Due.{Places, pair, pair_if, to_level, key_in, callee_in, call_paired, settled}
use Rattle.swc_tree_grammar.proofs.Induction.{Each, by_children}
use Rattle.swc_tree_grammar_laws.proofs.Callees.{callee, paired_of}
use Rattle.swc_tree_grammar_laws.proofs.Settled.{is_met_by_pairs}
use Rattle.swc_tree_grammar_laws.proofs.Levelled.{both, also_both}
use Rattle.swc_tree_grammar_laws.proofs.Every.{every_tree, every_list}
use Rattle.swc_base_fixer_laws.specs.Once.{once_in, paired_once}
use Rattle.swc_base_fixer_laws.proofs.AgainMore.{callee_whole, call_of_list}
use Rattle.swc_base_fixer_laws.proofs.Up.{kind_of_tree, called_of_tree}

-- a pair
pub once_tree : (k : Kind) (ts : List Node) → paired_once (Tree k ts) ≡ (once_in (Node-F.Tree k ts) && list_all paired_once ts)
once_tree k ts = every_tree once_in k ts

pub once_list : (ts : List Node) → paired_once (Many ts) ≡ list_all paired_once ts
once_list ts = every_list once_in ts

pub once_pair : (p : Places) (e : Node) → has_kind is_paren e ≡ false → paired_once e ≡ true → paired_once (pair p e) ≡ true
once_pair p e h g =
    let s : paired_once (Span (p (span_of e))) ≡ true = search (rules, the_lemmas) in
    once_tree kind.ParenExpr (Span (p (span_of e)) ∷ e ∷ []) ∙ rw (h, s, g) refl

-- what is a pair is one of its kind
paren_row : (P : Node → Type 0) → ((ts : List Node) → P (Tree kind.ParenExpr ts)) → (k : Kind) (ts : List Node) → is_paren k ≡ true → P (Tree k ts)
paren_row P f kind.ParenExpr ts h = f ts
paren_row P f k ts h = absurd (true≢false (sym h))

no_paren : {A : Type 0} (t : Node) → has_kind is_paren t ≡ false → has_kind is_paren t ≡ true → A
no_paren t e h = absurd (cc)

pub of_paren : (P : Node → Type 0) → ((ts : List Node) → P (Tree kind.ParenExpr ts)) → (t : Node) → has_kind is_paren t ≡ true → P t
of_paren P f t = by_children (λ t. has_kind is_paren t ≡ true → P t)
    (no_paren Absent (search (rules, the_lemmas)), λ x. no_paren (Flag x) (search (rules, the_lemmas)), λ w. no_paren (Word w) (search (rules, the_lemmas)), λ x. no_paren (Text x) (search (rules, the_lemmas)), λ s. no_paren (Span s) (search (rules, the_lemmas)), λ k i. no_paren (Identifier k i) (search (rules, the_lemmas)))
    (λ ts l. no_paren (Many ts) (search (rules, the_lemmas)))
    (λ k ts l h. paren_row P f k ts (sym (kind_of_tree is_paren k ts) ∙ h)) t

least_of_paren : (n : ℕ) (ts : List Node) → at_least n (Tree kind.ParenExpr ts) ≡ (false || nat_le n 19)
least_of_paren n ts = search (rules, the_lemmas)

-- it is whatever is asked
meets_paren : (d : Demand) → is_met_by_pairs d ≡ true → (ts : List Node) → meets d (Tree kind.ParenExpr ts) ≡ true
meets_paren Any m ts = refl
meets_paren (AtLeast n) m ts = least_of_paren n ts ∙ m
meets_paren (EachOf n) m ts = search (rules, the_lemmas)
meets_paren Key m ts = search (rules, the_lemmas)
meets_paren Body m ts = search (rules, the_lemmas)
meets_paren Operand m ts = search (rules, the_lemmas)
meets_paren Link m ts = search (rules, the_lemmas)
meets_paren (NewCallee bare) m ts = search (rules, the_lemmas)
meets_paren OrSide m ts = search (rules, the_lemmas)
meets_paren NullishSide m ts = search (rules, the_lemmas)

-- a test that names no pair
abbrev pub Sparing : (Node → Bool) → Type 0
Sparing x = (t : Node) → has_kind is_paren t ≡ true → x t ≡ false

or_not : (a b : Bool) → a ≡ false → b ≡ true → (a || not b) ≡ true → ⊥
or_not a b e g h = let f : (a || not b) ≡ false = rw (e, g) refl in cc (sym f ∙ h)

bare_if : (c : Bool) (d : Demand) (x : Node → Bool) (t : Node) → has_kind is_paren t ≡ c → is_met_by_pairs d ≡ true → Sparing x → (x t || not (meets d t)) ≡ true → has_kind is_paren t ≡ false
bare_if false d x t e m n h = e
bare_if true d x t e m n h = absurd (or_not (x t) (meets d t) (n t e) (of_paren (λ t. meets d t ≡ true) (meets_paren d m) t e) h)

pub once_if : (c : Bool) (p : Places) (t : Node) → (c ≡ true → has_kind is_paren t ≡ false) → paired_once t ≡ true → paired_once (pair_if c p t) ≡ true
once_if true p t h g = once_pair p t (h refl) g
once_if false p t h g = g

pub spare : Sparing nothing
spare t h = refl

single_once : (d : Demand) (p : Places) (x : Node → Bool) (t : Node) → is_met_by_pairs d ≡ true → Sparing x → paired_once t ≡ true → paired_once (pair_if (x t || not (meets d t)) p t) ≡ true
single_once d p x t m n h = once_if (x t || not (meets d t)) p t (bare_if (has_kind is_paren t) d x t refl m n) h

level_once : (n : ℕ) (p : Places) (t : Node) → nat_le n 19 ≡ true → paired_once t ≡ true → paired_once (to_level n p t) ≡ true
level_once n p t m h = single_once (AtLeast n) p nothing t m spare h

levels_once : (n : ℕ) (p : Places) (ts : List Node) → nat_le n 19 ≡ true → list_all paired_once ts ≡ true → list_all paired_once (map (to_level n p) ts) ≡ true
levels_once n p [] m h = refl
levels_once n p (t ∷ ts) m h = let q = both (paired_once t) (list_all paired_once ts) h in also_both (paired_once (to_level n p t)) (list_all paired_once (map (to_level n p) ts)) (level_once n p t m q.0) (levels_once n p ts m q.1)

pub items_many : (ts : List Node) → items_of (Many ts) ≡ ts
items_many ts = search (rules, the_lemmas)

pub items_once : (t : Node) → paired_once t ≡ true → list_all paired_once (items_of t) ≡ true
items_once t = by_children (λ t. paired_once t ≡ true → list_all paired_once (items_of t) ≡ true)
    (λ h. search (rules, the_lemmas), λ x h. search (rules, the_lemmas), λ w h. search (rules, the_lemmas), λ x h. search (rules, the_lemmas), λ s h. search (rules, the_lemmas), λ k i h. search (rules, the_lemmas))
    (λ ts l h. rw (items_many ts) (sym (once_list ts) ∙ h))
    (λ k ts l h. search (rules, the_lemmas)) t

pub below : (k : Kind) (ts : List Node) → paired_once (Tree k ts) ≡ true → list_all paired_once ts ≡ true
below k ts h = (both (once_in (Node-F.Tree k ts)) (list_all paired_once ts) (sym (once_tree k ts) ∙ h)).1

-- callees
abbrev Called : Places → Node → Type 0
Called p t = is_called t ≡ true → paired_once t ≡ true → paired_once (call_paired p t) ≡ true

three : (k : Kind) (s o m : Node) → once_in (Node-F.Tree k (s ∷ o ∷ m ∷ [])) ≡ true → (list_all paired_once (s ∷ o ∷ m ∷ []) ≡ true) → (u : Node) → once_in (Node-F.Tree k (s ∷ u ∷ m ∷ [])) ≡ true → paired_once u ≡ true → paired_once (Tree k (s ∷ u ∷ m ∷ [])) ≡ true
three k s o m e h u g d = let q = both (paired_once s) (paired_once o && (paired_once m && true)) h in let r = both (paired_once o) (paired_once m && true) q.1 in once_tree k (s ∷ u ∷ m ∷ []) ∙ rw (g, q.0, d) r.1

called_kind : (k : Kind) (ts : List Node) → called_step (Node-F.Tree k (map is_called ts)) ≡ true → is_paren k ≡ false
called_kind kind.ParenExpr ts h = absurd (true≢false (sym h))
called_kind k ts h = refl

called_pair : (p : Places) (k : Kind) (ts : List Node) → is_called (Tree k ts) ≡ true → paired_once (Tree k ts) ≡ true → paired_once (pair p (Tree k ts)) ≡ true
called_pair p k ts c h = once_pair p (Tree k ts) (kind_of_tree is_paren k ts ∙ called_kind k ts (sym (called_of_tree k ts) ∙ c)) h

called_row : (p : Places) (k : Kind) (ts : List Node) → Each (Called p) ts → is_called (Tree k ts) ≡ true → paired_once (Tree k ts) ≡ true → paired_once (callee_in p (Tree k ts) (Node-F.Tree k (map (callee p) ts))) ≡ true
called_row p kind.MemberExpr (s ∷ o ∷ m ∷ []) l c h =
    let b = below kind.MemberExpr (s ∷ o ∷ m ∷ []) h in let q = both (paired_once s) (paired_once o && (paired_once m && true)) b in
    rw (callee_whole p s, callee_whole p m) (three kind.MemberExpr s o m refl b (call_paired p o) refl (l.1.0 (sym (called_of_tree kind.MemberExpr (s ∷ o ∷ m ∷ [])) ∙ c) (both (paired_once o) (paired_once m && true) q.1).0))
called_row p kind.TaggedTpl (s ∷ o ∷ m ∷ []) l c h =
    let b = below kind.TaggedTpl (s ∷ o ∷ m ∷ []) h in let q = both (paired_once s) (paired_once o && (paired_once m && true)) b in
    rw (callee_whole p s, callee_whole p m) (three kind.TaggedTpl s o m refl b (call_paired p o) refl (l.1.0 (sym (called_of_tree kind.TaggedTpl (s ∷ o ∷ m ∷ [])) ∙ c) (both (paired_once o) (paired_once m && true) q.1).0))
called_row p k ts l c h = called_pair p k ts c h

leaf_called : (p : Places) (t : Node) → call_paired p t ≡ pair p t → has_kind is_paren t ≡ false → paired_once t ≡ true → paired_once (call_paired p t) ≡ true
leaf_called p t e n h = rw e (once_pair p t n h)

list_called : (p : Places) (ts : List Node) → paired_once (Many ts) ≡ true → paired_once (call_paired p (Many ts)) ≡ true
list_called p ts h = leaf_called p (Many ts) (call_of_list p ts) (search (rules, the_lemmas)) h

called_once : (p : Places) (t : Node) → Called p t
called_once p t = by_children (Called p)
    (λ c. leaf_called p Absent (search (rules, the_lemmas)) (search (rules, the_lemmas)), λ x c. leaf_called p (Flag x) (search (rules, the_lemmas)) (search (rules, the_lemmas)), λ w c. leaf_called p (Word w) (search (rules, the_lemmas)) (search (rules, the_lemmas)), λ x c. leaf_called p (Text x) (search (rules, the_lemmas)) (search (rules, the_lemmas)), λ s c. leaf_called p (Span s) (search (rules, the_lemmas)) (search (rules, the_lemmas)), λ k i c. leaf_called p (Identifier k i) (search (rules, the_lemmas)) (search (rules, the_lemmas)))
    (λ ts l c. list_called p ts)
    (λ k ts l c h. rw (paired_of p k ts) (called_row p k ts l c h)) t

-- what binds too loosely for `new`
abbrev Loose : Node → Type 0
Loose t = at_least 18 t ≡ false

called_if : (b : Bool) (t : Node) → is_called t ≡ b → (false || nat_le 18 (if is_called t then 17 else 18)) ≡ false → is_called t ≡ true
called_if true t e h = e
called_if false t e h = absurd (cc (sym (ap (λ b. false || nat_le 18 (if b then 17 else 18)) e) ∙ h))

loose_pair : (p : Places) (k : Kind) (ts : List Node) → Loose (Tree k ts) → paired_once (Tree k ts) ≡ true → paired_once (pair p (Tree k ts)) ≡ true
loose_pair p kind.ParenExpr ts c h = absurd (cc (sym (least_of_paren 18 ts) ∙ c))
loose_pair p k ts c h = once_pair p (Tree k ts) (kind_of_tree is_paren k ts) h

least_member : (s o m : Node) → at_least 18 (Tree kind.MemberExpr (s ∷ o ∷ m ∷ [])) ≡ (false || nat_le 18 (if is_called o then 17 else 18))
least_member s o m = search (rules, the_lemmas)

least_tagged : (s o m : Node) → at_least 18 (Tree kind.TaggedTpl (s ∷ o ∷ m ∷ [])) ≡ (false || nat_le 18 (if is_called o then 17 else 18))
least_tagged s o m = search (rules, the_lemmas)

loose_row : (p : Places) (k : Kind) (ts : List Node) → Loose (Tree k ts) → paired_once (Tree k ts) ≡ true → paired_once (callee_in p (Tree k ts) (Node-F.Tree k (map (callee p) ts))) ≡ true
loose_row p kind.MemberExpr (s ∷ o ∷ m ∷ []) c h =
    let b = below kind.MemberExpr (s ∷ o ∷ m ∷ []) h in let q = both (paired_once s) (paired_once o && (paired_once m && true)) b in let d = called_if (is_called o) o refl (sym (least_member s o m) ∙ c) in
    rw (callee_whole p s, callee_whole p m) (three kind.MemberExpr s o m refl b (call_paired p o) refl (called_once p o d (both (paired_once o) (paired_once m && true) q.1).0))
loose_row p kind.TaggedTpl (s ∷ o ∷ m ∷ []) c h =
    let b = below kind.TaggedTpl (s ∷ o ∷ m ∷ []) h in let q = both (paired_once s) (paired_once o && (paired_once m && true)) b in let d = called_if (is_called o) o refl (sym (least_tagged s o m) ∙ c) in
    rw (callee_whole p s, callee_whole p m) (three kind.TaggedTpl s o m refl b (call_paired p o) refl (called_once p o d (both (paired_once o) (paired_once m && true) q.1).0))
loose_row p k ts c h = loose_pair p k ts c h

loose_once : (p : Places) (t : Node) → Loose t → paired_once t ≡ true → paired_once (call_paired p t) ≡ true
loose_once p t = by_children (λ t. Loose t → paired_once t ≡ true → paired_once (call_paired p t) ≡ true)
    (λ c. leaf_called p Absent (search (rules, the_lemmas)) (search (rules, the_lemmas)), λ x c. leaf_called p (Flag x) (search (rules, the_lemmas)) (search (rules, the_lemmas)), λ w c. leaf_called p (Word w) (search (rules, the_lemmas)) (search (rules, the_lemmas)), λ x c. leaf_called p (Text x) (search (rules, the_lemmas)) (search (rules, the_lemmas)), λ s c. leaf_called p (Span s) (search (rules, the_lemmas)) (search (rules, the_lemmas)), λ k i c. leaf_called p (Identifier k i) (search (rules, the_lemmas)) (search (rules, the_lemmas)))
    (λ ts l c. list_called p ts)
    (λ k ts l c h. rw (paired_of p k ts) (loose_row p k ts c h)) t

or_first : (a b : Bool) → (a || b) ≡ false → a ≡ false
or_first true b h = absurd (cc)
or_first false b h = refl

callee_if : (a b : Bool) (p : Places) (bare : Bool) (x : Node → Bool) (t : Node) → Sparing x → x t ≡ a → meets (NewCallee bare) t ≡ b → paired_once t ≡ true → paired_once (if a then pair p t else (if b then t else call_paired p t)) ≡ true
callee_if true b p bare x t n e g h = once_pair p t (bare_if (has_kind is_paren t) Any x t refl refl n (rw e refl)) h
callee_if false true p bare x t n e g h = h
callee_if false false p bare x t n e g h = loose_once p t (or_first (at_least 18 t) _ g) h

-- keys
key_row : (p : Places) (k : Kind) (ts : List Node) → paired_once (Tree k ts) ≡ true → paired_once (key_in p (Tree k ts) (Node-F.Tree k ts)) ≡ true
key_row p kind.ComputedPropName (s ∷ e ∷ []) h =
    let q = both (paired_once s) (paired_once e && true) (below kind.ComputedPropName (s ∷ e ∷ []) h) in
    once_tree kind.ComputedPropName (s ∷ to_level 2 p e ∷ []) ∙ rw (q.0, level_once 2 p e refl (both (paired_once e) true q.1).0) refl
key_row p k ts h = h

pub stays : {t u : Node} → u ≡ t → paired_once t ≡ true → paired_once u ≡ true
stays e h = rw e h

key_once : (p : Places) (t : Node) → paired_once t ≡ true → paired_once (key_in p t (out-Node t)) ≡ true
key_once p t = by_children (λ t. paired_once t ≡ true → paired_once (key_in p t (out-Node t)) ≡ true)
    (stays (search (rules, the_lemmas)), λ x. stays (search (rules, the_lemmas)), λ w. stays (search (rules, the_lemmas)), λ x. stays (search (rules, the_lemmas)), λ s. stays (search (rules, the_lemmas)), λ k i. stays (search (rules, the_lemmas)))
    (λ ts l. stays (search (rules, the_lemmas)))
    (λ k ts l h. (let e : key_in p (Tree k ts) (out-Node (Tree k ts)) ≡ key_in p (Tree k ts) (Node-F.Tree k ts) = search (rules, the_lemmas) in rw e (key_row p k ts h))) t

pub settled_once : (d : Demand) (p : Places) (x : Node → Bool) (t : Node) → is_met_by_pairs d ≡ true → Sparing x → paired_once t ≡ true → paired_once (settled p d x t) ≡ true
settled_once (EachOf n) p x t m v h = once_list (map (to_level n p) (items_of t)) ∙ levels_once n p (items_of t) m (items_once t h)
settled_once Key p x t m v h = key_once p t h
settled_once (NewCallee bare) p x t m v h = callee_if (x t) (meets (NewCallee bare) t) p bare x t v refl refl h
settled_once Any p x t m v h = single_once Any p x t m v h
settled_once (AtLeast n) p x t m v h = single_once (AtLeast n) p x t m v h
settled_once Body p x t m v h = single_once Body p x t m v h
settled_once Operand p x t m v h = single_once Operand p x t m v h
settled_once Link p x t m v h = single_once Link p x t m v h
settled_once OrSide p x t m v h = single_once OrSide p x t m v h
settled_once NullishSide p x t m v h = single_once NullishSide p x t m v h
