-- Each pair has a reason after the third step: every node.
use Rattle.std.proofs.Common.{◌≡◌, Bool, true, false, not, ◌&&◌, ◌||◌, List, [], ◌∷◌, map, refl, sym, ap, subst, ◌∙◌, rules}
use Rattle.std.specs.Prelude.{if◌then◌else◌}
use Rattle.std.specs.List.{list_all}
use Rattle.swc_tree_node.specs.declared.kind.Kind.{Kind}
use Rattle.swc_tree_node.specs.declared.kind.Kind.TheVariants as kind
use Rattle.swc_tree_node.specs.declared.node.Node.{Node, List as Many, Tree, roll-Node, fold-Node, map-Node, the_lemmas}
use Rattle.swc_tree_node.specs.declared.node.Node.TheOpen.{Node-F}
use Rattle.swc_tree_node.specs.declared.node.Node.TheVariants.{rolls-Tree}
use Rattle.swc_tree_grammar.specs.Shapes.{Arrow}
use Rattle.swc_tree_grammar.specs.Kinds.{has_kind, is_paren, is_block, is_arrow, is_destructuring, is_object_pattern}
use Rattle.swc_tree_grammar.specs.Readers.{assigns_to}
use Rattle.swc_tree_grammar.specs.Demands.Demand.{Any, AtLeast, Body}
use Rattle.swc_tree_grammar.specs.Grammar.{may_begin_statement, may_begin_export, may_begin_body}
use Rattle.swc_tree_grammar.specs.Starts.{start, is_let_bracket}
use Rattle.swc_tree_grammar.specs.Due.{Places, pair as in_pair, first_in, begun, begin_step, paired_at_starts}
use Rattle.swc_tree_grammar.proofs.Induction.{Each, by_children}
use Rattle.swc_tree_grammar.proofs.Wholes.{all_carried}
use Rattle.swc_tree_grammar_laws.proofs.Begins.{spined, first_paired, first_of_tree, first_empty, first_of_list, starts_of_tree, starts_of_list}
use Rattle.swc_base_fixer_laws.proofs.Up.{kind_of_tree}
use Rattle.swc_base_fixer_needs.specs.Sites.{Site, asks, may_open}
use Rattle.swc_base_fixer_needs.specs.Sites.Opening.{OfStatement as AtStatement, OfExport, OfBody}
use Rattle.swc_base_fixer_needs.specs.Sites.Spot.{At}
use Rattle.swc_base_fixer_needs.specs.Reasons.{Label, labels, Due}
use Rattle.swc_base_fixer_needs.specs.Reasons.Label.{Names, OfStatement, OfItems}
use Rattle.swc_base_fixer_needs.specs.Reasons.Extent.{Reasoned}
use Rattle.swc_base_fixer_needs.specs.Reasons.Due.{tree}
use Rattle.swc_base_fixer_needs.specs.Reasons.AllDue.{none, more}
use Rattle.swc_base_fixer_needs.proofs.HeadSteps.{same_fields, usual_same}
use Rattle.swc_base_fixer_needs.proofs.StartViews.{stepped, starting_view, stepped_clues}
use Rattle.swc_base_fixer_needs.proofs.FirstRows.{led, led_in, led_tree, led_list, lead_of, lead_whole, Free, Dues}
use Rattle.swc_base_fixer_needs.proofs.FirstNodes.{leading}

-- no arrow whose body is an expression begins it with an assignment to an object pattern
pub record Calm : Type 0 where
  pub whole : Node
  pub holds : Bool

abbrev pub calm_in : Node-F Node → Bool
calm_in (Arrow span params body is_async) = has_kind is_block body || not (led body)
calm_in _ = true

abbrev pub calm_below : Node-F Calm → Bool
calm_below (Node-F.List es) = list_all (λ e. e.holds) es
calm_below (Node-F.Tree k es) = list_all (λ e. e.holds) es
calm_below _ = true

abbrev pub calm_step : Node-F Calm → Calm
calm_step x = record { whole = roll-Node (map-Node Calm Node (λ e. e.whole) x); holds = calm_in (map-Node Calm Node (λ e. e.whole) x) && calm_below x }

abbrev pub calm : Node → Bool
calm t = (fold-Node Calm calm_step t).holds

abbrev calmed : Node → Calm
calmed = fold-Node Calm calm_step

all_calm : (ts : List Node) → list_all (λ e. e.holds) (map calmed ts) ≡ list_all calm ts
all_calm [] = refl
all_calm (t ∷ ts) = ap (λ b. calm t && b) (all_calm ts)

whole_of : (ts : List Node) → map (λ e. e.whole) (map calmed ts) ≡ ts
whole_of ts = all_carried Calm calm_step (λ e. e.whole) (λ x. refl) ts

calm_fold : (k : Kind) (ts : List Node) → calm (Tree k ts) ≡ (calm_in (Node-F.Tree k (map (λ e. e.whole) (map calmed ts))) && list_all (λ e. e.holds) (map calmed ts))
calm_fold k ts = search (rules, the_lemmas)

pub calm_tree : (k : Kind) (ts : List Node) → calm (Tree k ts) ≡ (calm_in (Node-F.Tree k ts) && list_all calm ts)
calm_tree k ts = calm_fold k ts ∙ rw (whole_of ts, all_calm ts) refl

calm_fold_list : (ts : List Node) → calm (Many ts) ≡ (true && list_all (λ e. e.holds) (map calmed ts))
calm_fold_list ts = search (rules, the_lemmas)

pub calm_list : (ts : List Node) → calm (Many ts) ≡ list_all calm ts
calm_list ts = calm_fold_list ts ∙ all_calm ts

-- the third step keeps what a node begins with
led_row : (p : Places) (k : Kind) (ts : List Node) → Each (λ t. led (paired_at_starts p t) ≡ led t) ts → led_in (Node-F.Tree k (map lead_of (stepped p ts))) ≡ led_in (Node-F.Tree k (map lead_of ts))
led_row p kind.SeqExpr (s ∷ e ∷ []) l = l.1.0
led_row p kind.AssignExpr (s ∷ o ∷ f ∷ r ∷ []) l = rw (lead_whole (paired_at_starts p f), lead_whole f, (starting_view p f).kinds is_object_pattern, l.1.1.0) refl
led_row p kind.CondExpr (s ∷ t ∷ c ∷ e ∷ []) l = l.1.0
led_row p kind.BinExpr (s ∷ o ∷ f ∷ r ∷ []) l = l.1.1.0
led_row p kind.UpdateExpr (s ∷ o ∷ f ∷ r ∷ []) l = l.1.1.1.0
led_row p kind.MemberExpr (s ∷ o ∷ m ∷ []) l = l.1.0
led_row p kind.TaggedTpl (s ∷ o ∷ m ∷ []) l = l.1.0
led_row p kind.CallExpr (s ∷ o ∷ m ∷ []) l = l.1.0
led_row p kind.OptChainExpr (s ∷ o ∷ m ∷ []) l = l.1.1.0
led_row p kind.OptCall (s ∷ o ∷ m ∷ []) l = l.1.0
led_row p k ts l = refl

led_step_row : (p : Places) (k : Kind) (ts : List Node) → Each (λ t. led (paired_at_starts p t) ≡ led t) ts → led (begin_step p (Node-F.Tree k (stepped p ts))) ≡ led (Tree k ts)
led_step_row p kind.ExprStmt (s ∷ e ∷ []) l = led_tree kind.ExprStmt _ ∙ sym (led_tree kind.ExprStmt (s ∷ e ∷ []))
led_step_row p kind.ExportDefaultExpr (s ∷ e ∷ []) l = led_tree kind.ExportDefaultExpr _ ∙ sym (led_tree kind.ExportDefaultExpr (s ∷ e ∷ []))
led_step_row p kind.ArrowExpr (s ∷ a ∷ e ∷ f ∷ []) l = led_tree kind.ArrowExpr _ ∙ sym (led_tree kind.ArrowExpr (s ∷ a ∷ e ∷ f ∷ []))
led_step_row p k ts l = ap led (rolls-Tree k (stepped p ts)) ∙ led_tree k (stepped p ts) ∙ led_row p k ts l ∙ sym (led_tree k ts)

led_items : (p : Places) (ts : List Node) → Each (λ t. led (paired_at_starts p t) ≡ led t) ts → led (Many (stepped p ts)) ≡ led (Many ts)
led_items p [] l = refl
led_items p (t ∷ ts) l = led_list (paired_at_starts p t) (stepped p ts) ∙ l.0 ∙ sym (led_list t ts)

led_kept : (p : Places) (t : Node) → led (paired_at_starts p t) ≡ led t
led_kept p t = by_children (λ t. led (paired_at_starts p t) ≡ led t)
    (search (rules, the_lemmas), λ x. search (rules, the_lemmas), λ w. search (rules, the_lemmas), λ x. search (rules, the_lemmas), λ s. search (rules, the_lemmas), λ k i. search (rules, the_lemmas))
    (λ ts l. ap led (starts_of_list p ts) ∙ led_items p ts l)
    (λ k ts l. ap led (starts_of_tree p k ts) ∙ led_step_row p k ts l) t

-- the pair goes round no block
block_if : (x : Bool) (p : Places) (t u : Node) → has_kind is_block u ≡ false → has_kind is_block (if x then in_pair p t else u) ≡ false
block_if true p t u h = kind_of_tree is_block kind.ParenExpr _
block_if false p t u h = h

block_row : (p : Places) (k : Kind) (ts : List Node) → has_kind is_block (first_in p (Tree k ts) (Node-F.Tree k (map (spined p) ts))) ≡ false
block_row p kind.SeqExpr (s ∷ e ∷ []) = kind_of_tree is_block kind.SeqExpr _
block_row p kind.AssignExpr (s ∷ o ∷ f ∷ r ∷ []) = block_if (has_kind is_object_pattern (spined p f).whole) p (Tree kind.AssignExpr (s ∷ o ∷ f ∷ r ∷ [])) _ (kind_of_tree is_block kind.AssignExpr _)
block_row p kind.CondExpr (s ∷ t ∷ c ∷ e ∷ []) = kind_of_tree is_block kind.CondExpr _
block_row p kind.BinExpr (s ∷ o ∷ f ∷ r ∷ []) = kind_of_tree is_block kind.BinExpr _
block_row p kind.UpdateExpr (s ∷ o ∷ f ∷ r ∷ []) = kind_of_tree is_block kind.UpdateExpr _
block_row p kind.MemberExpr (s ∷ o ∷ m ∷ []) = block_if (is_let_bracket (Tree kind.MemberExpr (s ∷ o ∷ m ∷ []))) p (Tree kind.MemberExpr (s ∷ o ∷ m ∷ [])) _ (kind_of_tree is_block kind.MemberExpr _)
block_row p kind.TaggedTpl (s ∷ o ∷ m ∷ []) = kind_of_tree is_block kind.TaggedTpl _
block_row p kind.CallExpr (s ∷ o ∷ m ∷ []) = kind_of_tree is_block kind.CallExpr _
block_row p kind.OptChainExpr (s ∷ o ∷ m ∷ []) = block_if (has_kind is_paren (first_paired p m)) p (Tree kind.OptChainExpr (s ∷ o ∷ m ∷ [])) _ (kind_of_tree is_block kind.OptChainExpr _)
block_row p kind.OptCall (s ∷ o ∷ m ∷ []) = kind_of_tree is_block kind.OptCall _
block_row p k ts = kind_of_tree is_block kind.ParenExpr _

first_no_block : (p : Places) (k : Kind) (ts : List Node) → has_kind is_block (first_paired p (Tree k ts)) ≡ false
first_no_block p k ts = ap (has_kind is_block) (first_of_tree p k ts) ∙ block_row p k ts

list_no_block : (p : Places) (ts : List Node) → has_kind is_block (first_paired p (Many ts)) ≡ false
list_no_block p [] = ap (has_kind is_block) (first_empty p) ∙ kind_of_tree is_block kind.ParenExpr _
list_no_block p (t ∷ ts) = ap (has_kind is_block) (first_of_list p t ts) ∙ search (rules, the_lemmas)

no_block : (p : Places) (t : Node) → has_kind is_block (first_paired p t) ≡ false
no_block p t = by_children (λ t. has_kind is_block (first_paired p t) ≡ false)
    (search (rules, the_lemmas), λ x. search (rules, the_lemmas), λ w. search (rules, the_lemmas), λ x. search (rules, the_lemmas), λ s. search (rules, the_lemmas), λ k i. search (rules, the_lemmas))
    (λ ts l. list_no_block p ts)
    (λ k ts l. first_no_block p k ts) t

-- the places that ask
begun_due : (x : Bool) (p : Places) (l : Label) (a : Site) (e : Node) → may_open a.opening (start e) ≡ x → Free a.with_in (led e) → a.optional ≡ false → Due Reasoned l (At a) e → Due Reasoned l (At a) (if x then e else first_paired p e)
begun_due true p l a e m g o d = d
begun_due false p l a e m g o d = (leading p d).first g m (ap (λ b. b && is_let_bracket e) o)

abbrev body_of : Places → Bool → Node → Node
body_of p b e = if b then e else begun p may_begin_body e

body_block : (x : Bool) (p : Places) (e : Node) → has_kind is_block e ≡ false → has_kind is_block (if x then e else first_paired p e) ≡ false
body_block true p e h = h
body_block false p e h = no_block p e

same_block : (b : Bool) (p : Places) (e : Node) → has_kind is_block e ≡ b → has_kind is_block (body_of p b e) ≡ b
same_block true p e h = h
same_block false p e h = body_block (may_begin_body (start e)) p e h

or_calm : (b w : Bool) → (false || not b) ≡ true → Free w b
or_calm true w h z = absurd (cc)
or_calm false w h z = refl

body_due : (b : Bool) (p : Places) (l : Label) (a : Site) (e : Node) → has_kind is_block e ≡ b → a.opening ≡ OfBody → a.optional ≡ false → (b || not (led e)) ≡ true → Due Reasoned l (At a) e → Due Reasoned l (At a) (body_of p b e)
body_due true p l a e h m o c d = d
body_due false p l a e h m o c d = begun_due (may_begin_body (start e)) p l a e (ap (λ x. may_open x (start e)) m) (or_calm (led e) a.with_in c) o d

arrow_due : (p : Places) (l : Label) (a : Site) (s q e f : Node) → (has_kind is_block e || not (led e)) ≡ true → Dues l a kind.ArrowExpr (s ∷ q ∷ e ∷ f ∷ []) → Due Reasoned l (At a) (Tree kind.ArrowExpr (s ∷ q ∷ body_of p (has_kind is_block e) e ∷ f ∷ []))
arrow_due p l a s q e f c (more d (more x (more y (more z none)))) =
    let u : Node = body_of p (has_kind is_block e) e in
    tree kind.ArrowExpr (s ∷ q ∷ u ∷ f ∷ []) refl (λ z. absurd (cc))
    (rw (same_block (has_kind is_block e) p e refl) (more d (more x (more (body_due (has_kind is_block e) p (Names (assigns_to is_destructuring)) (record (asks Body (a.with_in || has_kind is_block e)) { opening = OfBody }) e refl refl refl c y) (more z none)))))

calm_kept : (p : Places) (e : Node) → (has_kind is_block e || not (led e)) ≡ true → (has_kind is_block (paired_at_starts p e) || not (led (paired_at_starts p e))) ≡ true
calm_kept p e h = ap (λ b. b || not (led (paired_at_starts p e))) ((starting_view p e).kinds is_block) ∙ ap (λ b. has_kind is_block e || not b) (led_kept p e) ∙ h

two_due : (p : Places) (l : Label) (a : Site) (s e : Node) → Dues l a kind.ExprStmt (s ∷ e ∷ []) → Due Reasoned l (At a) (Tree kind.ExprStmt (s ∷ begun p may_begin_statement e ∷ []))
two_due p l a s e (more c (more d none)) = tree kind.ExprStmt (s ∷ begun p may_begin_statement e ∷ []) refl (λ z. absurd (cc)) (more c (more (begun_due (may_begin_statement (start e)) p OfStatement (record (asks Any true) { opening = AtStatement }) e refl (λ z. absurd (cc)) refl d) none))

export_due : (p : Places) (l : Label) (a : Site) (s e : Node) → Dues l a kind.ExportDefaultExpr (s ∷ e ∷ []) → Due Reasoned l (At a) (Tree kind.ExportDefaultExpr (s ∷ begun p may_begin_export e ∷ []))
export_due p l a s e (more c (more d none)) = tree kind.ExportDefaultExpr (s ∷ begun p may_begin_export e ∷ []) refl (λ z. absurd (cc)) (more c (more (begun_due (may_begin_export (start e)) p (Names (has_kind is_arrow)) (record (asks (AtLeast 2) true) { opening = OfExport }) e refl (λ z. absurd (cc)) refl d) none))

pub step_row : (p : Places) (l : Label) (a : Site) (k : Kind) (ts : List Node) → is_paren k ≡ false → calm_in (Node-F.Tree k ts) ≡ true → Dues l a k (stepped p ts) → Due Reasoned l (At a) (begin_step p (Node-F.Tree k (stepped p ts)))
step_row p l a kind.ExprStmt (s ∷ e ∷ []) n c d = two_due p l a (paired_at_starts p s) (paired_at_starts p e) d
step_row p l a kind.ExportDefaultExpr (s ∷ e ∷ []) n c d = export_due p l a (paired_at_starts p s) (paired_at_starts p e) d
step_row p l a kind.ArrowExpr (s ∷ q ∷ e ∷ f ∷ []) n c d = arrow_due p l a (paired_at_starts p s) (paired_at_starts p q) (paired_at_starts p e) (paired_at_starts p f) (calm_kept p e c) d
step_row p l a k ts n c d = subst (λ u. Due Reasoned l (At a) u) (sym (rolls-Tree k (stepped p ts))) (tree k (stepped p ts) n (λ z. absurd (cc)) d)

-- labels
seq_kept : (p : Places) (l : Label) (ts : List Node) → labels l (Node-F.Tree kind.SeqExpr (stepped p ts)) ≡ labels l (Node-F.Tree kind.SeqExpr ts)
seq_kept p (Names f) [] = refl
seq_kept p (Names f) (s ∷ []) = refl
seq_kept p (Names f) (s ∷ e ∷ []) = refl
seq_kept p (Names f) (s ∷ e ∷ x ∷ ts) = same_fields [] (s ∷ e ∷ x ∷ ts) (stepped p (s ∷ e ∷ x ∷ ts)) (stepped_clues p (s ∷ e ∷ x ∷ ts))
seq_kept p OfItems [] = refl
seq_kept p OfItems (s ∷ []) = refl
seq_kept p OfItems (s ∷ e ∷ []) = refl
seq_kept p OfItems (s ∷ e ∷ x ∷ ts) = same_fields [] (s ∷ e ∷ x ∷ ts) (stepped p (s ∷ e ∷ x ∷ ts)) (stepped_clues p (s ∷ e ∷ x ∷ ts))
seq_kept p OfStatement [] = refl
seq_kept p OfStatement (s ∷ []) = refl
seq_kept p OfStatement (s ∷ e ∷ []) = refl
seq_kept p OfStatement (s ∷ e ∷ x ∷ ts) = same_fields [] (s ∷ e ∷ x ∷ ts) (stepped p (s ∷ e ∷ x ∷ ts)) (stepped_clues p (s ∷ e ∷ x ∷ ts))

pub labels_kept : (p : Places) (l : Label) (k : Kind) (ts : List Node) → is_paren k ≡ false → labels l (Node-F.Tree k (stepped p ts)) ≡ labels l (Node-F.Tree k ts)
labels_kept p l kind.ParenExpr ts n = absurd (cc)
labels_kept p l kind.OptChainExpr ts n = same_fields [] ts (stepped p ts) (stepped_clues p ts)
labels_kept p l kind.ExprStmt (s ∷ e ∷ []) n = refl
labels_kept p l kind.ExprStmt [] n = refl
labels_kept p l kind.ExprStmt (s ∷ []) n = refl
labels_kept p l kind.ExprStmt (s ∷ e ∷ x ∷ ts) n = same_fields [] (s ∷ e ∷ x ∷ ts) (stepped p (s ∷ e ∷ x ∷ ts)) (stepped_clues p (s ∷ e ∷ x ∷ ts))
labels_kept p (Names f) kind.SeqExpr ts n = seq_kept p (Names f) ts
labels_kept p OfStatement kind.SeqExpr ts n = seq_kept p OfStatement ts
labels_kept p OfItems kind.SeqExpr ts n = seq_kept p OfItems ts
labels_kept p l k ts n = usual_same l k ts (stepped p ts) refl (stepped_clues p ts)
