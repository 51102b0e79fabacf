-- The last step of the due pairs sets no pair right in another, and so the fixer sets none.
use Rattle.std.proofs.Common.{◌≡◌, Bool, true, false, not, ◌&&◌, List, [], ◌∷◌, map, refl, sym, ap, ◌∙◌, rules}
use Rattle.std.specs.Prelude.{if◌then◌else◌}
use Rattle.std.specs.List.{list_all}
use Rattle.swc_tree_node.specs.declared.kind.Kind.{Kind}
use Rattle.swc_tree_node.specs.declared.kind.Kind.TheVariants as kind
use Rattle.swc_tree_node.specs.declared.node.Node.{Node, Absent, Flag, Word, Text, Span, List as Many, Identifier, Tree, fold-Node, the_lemmas}
use Rattle.swc_tree_node.specs.declared.node.Node.TheVariants.{rolls-Tree}
use Rattle.swc_tree_node.specs.declared.node.Node.TheOpen.{Node-F}
use Rattle.swc_tree_grammar.specs.Kinds.{has_kind, is_paren, is_block, is_object_pattern}
use Rattle.swc_tree_grammar.specs.Forms.{holds}
use Rattle.swc_tree_grammar.specs.Grammar.{may_begin_statement, may_begin_export, may_begin_body}
use Rattle.swc_tree_grammar.specs.Stripped.{stripped}
use Rattle.swc_tree_grammar.specs.Blocks.{with_blocks}
use Rattle.swc_tree_grammar.specs.Fixed.{fixed}
use Rattle.swc_tree_grammar.specs.Starts.{Start, Begun, start, start_in, start_step, is_let_bracket}
use Rattle.swc_tree_grammar.specs.Starts.Start.{LetBracket, Other}
use Rattle.swc_tree_grammar.specs.Due.{Places, pair, first_in, begun, begin_step, paired_by_level, paired_in_heads, paired_at_starts}
use Rattle.swc_tree_grammar.proofs.Induction.{Each, by_children}
use Rattle.swc_tree_grammar.proofs.Wholes.{carried}
use Rattle.swc_tree_grammar_laws.proofs.Levelled.{both, also_both}
use Rattle.swc_tree_grammar_laws.proofs.Begins.{spined, first_paired, spine_whole, first_of_tree, first_empty, first_of_list, start_tree, start_list, starts_of_tree, starts_of_list}
use Rattle.swc_base_fixer_laws.specs.Once.{once_in, paired_once}
use Rattle.swc_base_fixer_laws.proofs.Up.{kind_of_tree}
use Rattle.swc_base_fixer_laws.proofs.AgainStill.{well, stripped_still}
use Rattle.swc_base_fixer_laws.proofs.AgainNamed.{blocks_still}
use Rattle.swc_base_fixer_laws.proofs.OnceLevel.{once_tree, once_list, once_pair, below}
use Rattle.swc_base_fixer_laws.proofs.OnceTrees.{settled_heads_once}

abbrev is_other : Start → Bool
is_other Other = true
is_other _ = false

abbrev begun_of : Node → Begun
begun_of = fold-Node Begun start_step

begun_whole : (t : Node) → (begun_of t).whole ≡ t
begun_whole t = carried Begun start_step (λ e. e.whole) (λ x. refl) t

abbrev Firsts : Places → Node → Type 0
Firsts p t = is_other (start t) ≡ false → paired_once t ≡ true → paired_once (first_paired p t) ≡ true

abbrev Fine : Node → Type 0
Fine t = paired_once t ≡ true

two : (k : Kind) (a b : Node) → ((us : List Node) → once_in (Node-F.Tree k us) ≡ true) → Fine a → Fine b → Fine (Tree k (a ∷ b ∷ []))
two k a b e f g = once_tree k (a ∷ b ∷ []) ∙ rw (e (a ∷ b ∷ []), f, g) refl

three : (k : Kind) (a b c : Node) → ((us : List Node) → once_in (Node-F.Tree k us) ≡ true) → Fine a → Fine b → Fine c → Fine (Tree k (a ∷ b ∷ c ∷ []))
three k a b c e f g h = once_tree k (a ∷ b ∷ c ∷ []) ∙ rw (e (a ∷ b ∷ c ∷ []), f, g, h) refl

four : (k : Kind) (a b c d : Node) → ((us : List Node) → once_in (Node-F.Tree k us) ≡ true) → Fine a → Fine b → Fine c → Fine d → Fine (Tree k (a ∷ b ∷ c ∷ d ∷ []))
four k a b c d e f g h j = once_tree k (a ∷ b ∷ c ∷ d ∷ []) ∙ rw (e (a ∷ b ∷ c ∷ d ∷ []), f, g, h, j) refl

of_two : (k : Kind) (a b : Node) → Fine (Tree k (a ∷ b ∷ [])) → Fine a × Fine b
of_two k a b h = let q = both (paired_once a) (paired_once b && true) (below k (a ∷ b ∷ []) h) in (q.0, (both (paired_once b) true q.1).0)

of_three : (k : Kind) (a b c : Node) → Fine (Tree k (a ∷ b ∷ c ∷ [])) → Fine a × Fine b × Fine c
of_three k a b c h = let q = both (paired_once a) (paired_once b && (paired_once c && true)) (below k (a ∷ b ∷ c ∷ []) h) in let r = both (paired_once b) (paired_once c && true) q.1 in (q.0, r.0, (both (paired_once c) true r.1).0)

of_four : (k : Kind) (a b c d : Node) → Fine (Tree k (a ∷ b ∷ c ∷ d ∷ [])) → Fine a × Fine b × Fine c × Fine d
of_four k a b c d h =
    let q = both (paired_once a) (paired_once b && (paired_once c && (paired_once d && true))) (below k (a ∷ b ∷ c ∷ d ∷ []) h) in
    let r = both (paired_once b) (paired_once c && (paired_once d && true)) q.1 in let x = both (paired_once c) (paired_once d && true) r.1 in (q.0, r.0, x.0, (both (paired_once d) true x.1).0)

-- where another token comes first in one case, it does not in the other
not_first : (b : Bool) (x : Start) → is_other (if b then Other else x) ≡ false → is_other x ≡ false
not_first true x h = absurd (cc)
not_first false x h = h

choose : (b : Bool) (p : Places) (k : Kind) (ts : List Node) (u : Node) → is_paren k ≡ false → Fine (Tree k ts) → (b ≡ false → Fine u) → Fine (if b then pair p (Tree k ts) else u)
choose true p k ts u n h f = once_pair p (Tree k ts) (kind_of_tree is_paren k ts ∙ n) h
choose false p k ts u n h f = f refl

bracket_if : (b : Bool) (x : Start) → b ≡ false → is_other (if b then LetBracket else x) ≡ false → is_other x ≡ false
bracket_if true x e h = absurd (cc)
bracket_if false x e h = h

other_row : (k : Kind) (ts : List Node) → is_other (start_in (Tree k ts) (Node-F.Tree k (map begun_of ts))) ≡ false → is_paren k ≡ false
other_row kind.ParenExpr ts h = absurd (cc)
other_row k ts h = refl

first_row : (p : Places) (k : Kind) (ts : List Node) → Each (Firsts p) ts → is_other (start_in (Tree k ts) (Node-F.Tree k (map begun_of ts))) ≡ false → Fine (Tree k ts) → Fine (first_in p (Tree k ts) (Node-F.Tree k (map (spined p) ts)))
first_row p kind.SeqExpr (s ∷ e ∷ []) l h g = let q = of_two kind.SeqExpr s e g in rw (spine_whole p s) (two kind.SeqExpr s (first_paired p e) (λ us. refl) q.0 (l.1.0 h q.1))
first_row p kind.AssignExpr (s ∷ o ∷ f ∷ r ∷ []) l h g =
    let q = of_four kind.AssignExpr s o f r g in
    rw (spine_whole p s, spine_whole p o, spine_whole p f, spine_whole p r)
    (choose (has_kind is_object_pattern f) p kind.AssignExpr (s ∷ o ∷ f ∷ r ∷ []) (Tree kind.AssignExpr (s ∷ o ∷ first_paired p f ∷ r ∷ [])) refl g (λ e. four kind.AssignExpr s o (first_paired p f) r (λ us. refl) q.0 q.1 (l.1.1.0 h q.2) q.3))
first_row p kind.CondExpr (s ∷ o ∷ f ∷ r ∷ []) l h g =
    let q = of_four kind.CondExpr s o f r g in rw (spine_whole p s, spine_whole p f, spine_whole p r) (four kind.CondExpr s (first_paired p o) f r (λ us. refl) q.0 (l.1.0 h q.1) q.2 q.3)
first_row p kind.BinExpr (s ∷ o ∷ f ∷ r ∷ []) l h g =
    let q = of_four kind.BinExpr s o f r g in rw (spine_whole p s, spine_whole p o, spine_whole p r) (four kind.BinExpr s o (first_paired p f) r (λ us. refl) q.0 q.1 (l.1.1.0 h q.2) q.3)
first_row p kind.UpdateExpr (s ∷ o ∷ f ∷ r ∷ []) l h g =
    let q = of_four kind.UpdateExpr s o f r g in
    rw (spine_whole p s, spine_whole p o, spine_whole p f) (four kind.UpdateExpr s o f (first_paired p r) (λ us. refl) q.0 q.1 q.2 (l.1.1.1.0 (not_first (holds (begun_of f).whole) (start r) h) q.3))
first_row p kind.MemberExpr (s ∷ o ∷ m ∷ []) l h g =
    let q = of_three kind.MemberExpr s o m g in
    rw (spine_whole p s, spine_whole p m)
    (choose (is_let_bracket (Tree kind.MemberExpr (s ∷ o ∷ m ∷ []))) p kind.MemberExpr (s ∷ o ∷ m ∷ []) (Tree kind.MemberExpr (s ∷ first_paired p o ∷ m ∷ [])) refl g
    (λ e. three kind.MemberExpr s (first_paired p o) m (λ us. refl) q.0 (l.1.0 (bracket_if (is_let_bracket (Tree kind.MemberExpr (s ∷ o ∷ m ∷ []))) (start o) e h) q.1) q.2))
first_row p kind.TaggedTpl (s ∷ o ∷ m ∷ []) l h g = let q = of_three kind.TaggedTpl s o m g in rw (spine_whole p s, spine_whole p m) (three kind.TaggedTpl s (first_paired p o) m (λ us. refl) q.0 (l.1.0 h q.1) q.2)
first_row p kind.CallExpr (s ∷ o ∷ m ∷ []) l h g = let q = of_three kind.CallExpr s o m g in rw (spine_whole p s, spine_whole p m) (three kind.CallExpr s (first_paired p o) m (λ us. refl) q.0 (l.1.0 h q.1) q.2)
first_row p kind.OptChainExpr (s ∷ o ∷ m ∷ []) l h g =
    let q = of_three kind.OptChainExpr s o m g in
    rw (spine_whole p s, spine_whole p o)
    (choose (has_kind is_paren (first_paired p m)) p kind.OptChainExpr (s ∷ o ∷ m ∷ []) (Tree kind.OptChainExpr (s ∷ o ∷ first_paired p m ∷ [])) refl g
    (λ e. three kind.OptChainExpr s o (first_paired p m) (λ us. refl) q.0 q.1 (l.1.1.0 (not_first (holds (begun_of o).whole && is_let_bracket (begun_of m).whole) (start m) h) q.2)))
first_row p kind.OptCall (s ∷ o ∷ m ∷ []) l h g = let q = of_three kind.OptCall s o m g in rw (spine_whole p s, spine_whole p m) (three kind.OptCall s (first_paired p o) m (λ us. refl) q.0 (l.1.0 h q.1) q.2)
first_row p k ts l h g = once_pair p (Tree k ts) (kind_of_tree is_paren k ts ∙ other_row k ts h) g

first_leaf : (p : Places) (t : Node) → first_paired p t ≡ pair p t → has_kind is_paren t ≡ false → Firsts p t
first_leaf p t e n h g = rw e (once_pair p t n g)

first_list : (p : Places) (ts : List Node) → Each (Firsts p) ts → Firsts p (Many ts)
first_list p [] l h g = first_leaf p (Many []) (first_empty p) (search (rules, the_lemmas)) h g
first_list p (t ∷ ts) l h g =
    let q = both (paired_once t) (list_all paired_once ts) (sym (once_list (t ∷ ts)) ∙ g) in
    ap paired_once (first_of_list p t ts) ∙ once_list (first_paired p t ∷ ts) ∙ also_both (paired_once (first_paired p t)) (list_all paired_once ts) (l.0 (sym (ap is_other (start_list t ts)) ∙ h) q.0) q.1

first_once : (p : Places) (t : Node) → Firsts p t
first_once p t = by_children (Firsts p)
    (first_leaf p Absent (search (rules, the_lemmas)) (search (rules, the_lemmas)), λ x. first_leaf p (Flag x) (search (rules, the_lemmas)) (search (rules, the_lemmas)), λ w. first_leaf p (Word w) (search (rules, the_lemmas)) (search (rules, the_lemmas)), λ x. first_leaf p (Text x) (search (rules, the_lemmas)) (search (rules, the_lemmas)), λ s. first_leaf p (Span s) (search (rules, the_lemmas)) (search (rules, the_lemmas)), λ k i. first_leaf p (Identifier k i) (search (rules, the_lemmas)) (search (rules, the_lemmas)))
    (λ ts l. first_list p ts l)
    (λ k ts l h g. ap paired_once (first_of_tree p k ts) ∙ first_row p k ts l (sym (ap is_other (start_tree k ts)) ∙ h) g) t

-- the places that ask: none of them minds what is no token that is asked for
abbrev Lenient : (Start → Bool) → Type 0
Lenient may = (x : Start) → may x ≡ false → is_other x ≡ false

statement_lenient : Lenient may_begin_statement
statement_lenient Other h = absurd (cc)
statement_lenient x h = refl

export_lenient : Lenient may_begin_export
export_lenient Other h = absurd (cc)
export_lenient x h = refl

body_lenient : Lenient may_begin_body
body_lenient Other h = absurd (cc)
body_lenient x h = refl

begun_if : (b : Bool) (p : Places) (may : Start → Bool) (e : Node) → Lenient may → may (start e) ≡ b → Fine e → Fine (if b then e else first_paired p e)
begun_if true p may e n h g = g
begun_if false p may e n h g = first_once p e (n (start e) h) g

begun_once : (p : Places) (may : Start → Bool) (e : Node) → Lenient may → Fine e → Fine (begun p may e)
begun_once p may e n g = begun_if (may (start e)) p may e n refl g

body_if : (b : Bool) (p : Places) (e : Node) → Fine e → Fine (if b then e else begun p may_begin_body e)
body_if true p e g = g
body_if false p e g = begun_once p may_begin_body e body_lenient g

-- a node keeps its kind
kind_row : (p : Places) (k : Kind) (us : List Node) → has_kind is_paren (begin_step p (Node-F.Tree k us)) ≡ is_paren k
kind_row p kind.ExprStmt (s ∷ e ∷ []) = kind_of_tree is_paren kind.ExprStmt _
kind_row p kind.ExportDefaultExpr (s ∷ e ∷ []) = kind_of_tree is_paren kind.ExportDefaultExpr _
kind_row p kind.ArrowExpr (s ∷ a ∷ e ∷ f ∷ []) = kind_of_tree is_paren kind.ArrowExpr _
kind_row p k us = ap (has_kind is_paren) (rolls-Tree k us) ∙ kind_of_tree is_paren k us

start_kind : (p : Places) (t : Node) → has_kind is_paren (paired_at_starts p t) ≡ has_kind is_paren t
start_kind p t = by_children (λ t. has_kind is_paren (paired_at_starts p t) ≡ has_kind is_paren t)
    (search (rules, the_lemmas), λ x. search (rules, the_lemmas), λ w. search (rules, the_lemmas), λ x. search (rules, the_lemmas), λ s. search (rules, the_lemmas), λ k i. search (rules, the_lemmas))
    (λ ts l. search (rules, the_lemmas))
    (λ k ts l. ap (has_kind is_paren) (starts_of_tree p k ts) ∙ kind_row p k (map (paired_at_starts p) ts) ∙ sym (kind_of_tree is_paren k ts)) t

begin_row : (p : Places) (k : Kind) (us : List Node) → Fine (Tree k us) → Fine (begin_step p (Node-F.Tree k us))
begin_row p kind.ExprStmt (s ∷ e ∷ []) h = let q = of_two kind.ExprStmt s e h in two kind.ExprStmt s (begun p may_begin_statement e) (λ us. refl) q.0 (begun_once p may_begin_statement e statement_lenient q.1)
begin_row p kind.ExportDefaultExpr (s ∷ e ∷ []) h = let q = of_two kind.ExportDefaultExpr s e h in two kind.ExportDefaultExpr s (begun p may_begin_export e) (λ us. refl) q.0 (begun_once p may_begin_export e export_lenient q.1)
begin_row p kind.ArrowExpr (s ∷ a ∷ e ∷ f ∷ []) h =
    let q = of_four kind.ArrowExpr s a e f h in
    four kind.ArrowExpr s a (if has_kind is_block e then e else begun p may_begin_body e) f (λ us. refl) q.0 q.1 (body_if (has_kind is_block e) p e q.2) q.3
begin_row p k us h = rw (rolls-Tree k us) h

top_row : (p : Places) (k : Kind) (ts : List Node) → once_in (Node-F.Tree k (map (paired_at_starts p) ts)) ≡ once_in (Node-F.Tree k ts)
top_row p kind.ParenExpr (s ∷ e ∷ []) = ap not (start_kind p e)
top_row p k ts = refl

abbrev Started : Places → Node → Type 0
Started p t = Fine t → Fine (paired_at_starts p t)

all_started : (p : Places) (ts : List Node) → Each (Started p) ts → list_all paired_once ts ≡ true → list_all paired_once (map (paired_at_starts p) ts) ≡ true
all_started p [] l h = refl
all_started p (t ∷ ts) l h = let q = both (paired_once t) (list_all paired_once ts) h in also_both (paired_once (paired_at_starts p t)) (list_all paired_once (map (paired_at_starts p) ts)) (l.0 q.0) (all_started p ts l.1 q.1)

starts_once : (p : Places) (t : Node) → Started p t
starts_once p t = by_children (Started p)
    (λ h. search (rules, the_lemmas), λ x h. search (rules, the_lemmas), λ w h. search (rules, the_lemmas), λ x h. search (rules, the_lemmas), λ s h. search (rules, the_lemmas), λ k i h. search (rules, the_lemmas))
    (λ ts l h. ap paired_once (starts_of_list p ts) ∙ once_list (map (paired_at_starts p) ts) ∙ all_started p ts l (sym (once_list ts) ∙ h))
    (λ k ts l h. (
    let us = map (paired_at_starts p) ts in let q = both (once_in (Node-F.Tree k ts)) (list_all paired_once ts) (sym (once_tree k ts) ∙ h) in
    ap paired_once (starts_of_tree p k ts) ∙ begin_row p k us (once_tree k us ∙ also_both (once_in (Node-F.Tree k us)) (list_all paired_once us) (top_row p k ts ∙ q.0) (all_started p ts l q.1))
    )) t

pub fixed_once : (p : Places) (t : Node) → well t ≡ true → paired_once (fixed p t) ≡ true
fixed_once p t h =
    let u = with_blocks (stripped t) in
    starts_once p (paired_in_heads p (paired_by_level p u)) (settled_heads_once p u (blocks_still (stripped t) (stripped_still t h)))
