-- The third step keeps what is seen of a node from above, and what it begins with.
use Rattle.std.proofs.Common.{◌≡◌, Bool, false, List, [], ◌∷◌, map, refl, sym, ap, subst, ◌∙◌, rules}
use Rattle.std.specs.Prelude.{if◌then◌else◌}
use Rattle.swc_tree_node.specs.declared.kind.Kind.{Kind}
use Rattle.swc_tree_node.specs.declared.kind.Kind.TheVariants as kind
use Rattle.swc_tree_node.specs.declared.node.Node.{Node, Absent, Flag, Word, Text, Span, List as Many, Identifier, Tree, out-Node, fold-Node, roll-Node, the_lemmas}
use Rattle.swc_tree_node.specs.declared.node.Node.TheOpen.{Node-F}
use Rattle.swc_tree_node.specs.declared.node.Node.TheVariants.{rolls-Tree}
use Rattle.swc_tree_grammar.specs.Kinds.{has_kind, is_block}
use Rattle.swc_tree_grammar.specs.Levels.{is_in}
use Rattle.swc_tree_grammar.specs.Forms.{holds}
use Rattle.swc_tree_grammar.specs.Starts.{Begun, start, start_in, start_step, is_let_in, is_computed_in, is_let_bracket, let_bracket_in}
use Rattle.swc_tree_grammar.specs.Grammar.{is_async_name, may_begin_statement, may_begin_export, may_begin_body}
use Rattle.swc_tree_grammar.specs.Due.{Places, begun, begin_step, paired_at_starts}
use Rattle.swc_tree_grammar.proofs.Induction.{Each, by_children}
use Rattle.swc_tree_grammar.proofs.Wholes.{carried}
use Rattle.swc_tree_grammar_laws.proofs.Begins.{start_tree, start_list, starts_of_tree, starts_of_list}
use Rattle.swc_base_fixer_needs.specs.Sites.{clue}
use Rattle.swc_base_fixer_needs.specs.Reasons.{is_bare_in}
use Rattle.swc_base_fixer_needs.proofs.LevelNodes.{OfKind}
use Rattle.swc_base_fixer_needs.proofs.Views.{View, Parts, Views, view_same, view_of_tree, view_of_list, parts_bin, parts_member, parts_tagged, parts_new, parts_unary, parts_assign, parts_computed, parts_other, looks_below}

abbrev pub stepped : Places → List Node → List Node
stepped p ts = map (paired_at_starts p) ts

-- what is made of a tree is one of its kind
abbrev pub begun_kind : (p : Places) (k : Kind) (us : List Node) → OfKind k (begin_step p (Node-F.Tree k us))
begun_kind p kind.ExprStmt (s ∷ e ∷ []) = record { fields = s ∷ begun p may_begin_statement e ∷ []; same = refl }
begun_kind p kind.ExportDefaultExpr (s ∷ e ∷ []) = record { fields = s ∷ begun p may_begin_export e ∷ []; same = refl }
begun_kind p kind.ArrowExpr (s ∷ a ∷ e ∷ f ∷ []) = record { fields = s ∷ a ∷ (if has_kind is_block e then e else begun p may_begin_body e) ∷ f ∷ []; same = refl }
begun_kind p k us = record { fields = us; same = rolls-Tree k us }

-- views
abbrev Viewed : Places → Node → Type 0
Viewed p t = View t (paired_at_starts p t)

parts_row : (p : Places) (k : Kind) (ts : List Node) → Each (Viewed p) ts → Parts k ts (stepped p ts)
parts_row p kind.BinExpr (s ∷ o ∷ f ∷ x ∷ []) l = parts_bin s o f x (paired_at_starts p s) (paired_at_starts p o) (paired_at_starts p f) (paired_at_starts p x) (ap (λ c. c.word) l.1.0.clue_same)
parts_row p kind.MemberExpr (s ∷ o ∷ m ∷ []) l = parts_member s o m (paired_at_starts p s) (paired_at_starts p o) (paired_at_starts p m) l.1.0.called
parts_row p kind.TaggedTpl (s ∷ o ∷ m ∷ []) l = parts_tagged s o m (paired_at_starts p s) (paired_at_starts p o) (paired_at_starts p m) l.1.0.called
parts_row p kind.NewExpr (s ∷ o ∷ m ∷ []) l = parts_new s o m (paired_at_starts p s) (paired_at_starts p o) (paired_at_starts p m) (ap (λ c. c.absent) l.1.1.0.clue_same)
parts_row p kind.UnaryExpr (s ∷ o ∷ x ∷ []) l = parts_unary s o x (paired_at_starts p s) (paired_at_starts p o) (paired_at_starts p x) (ap (λ c. c.word) l.1.0.clue_same)
parts_row p kind.AssignExpr (s ∷ o ∷ f ∷ x ∷ []) l = parts_assign s o f x (paired_at_starts p s) (paired_at_starts p o) (paired_at_starts p f) (paired_at_starts p x) l.1.1.0.kinds
parts_row p kind.ComputedPropName (s ∷ x ∷ []) l = parts_computed s x (paired_at_starts p s) (paired_at_starts p x) (l.1.0.least 2)
parts_row p k ts l = record { level = refl; bare = refl; nullish = refl; called = refl; dropped = refl; assigned = λ q. refl; as_key = refl }

made_view : (k : Kind) (ts : List Node) (u : Node) → OfKind k u → looks_below k ≡ false → View (Tree k ts) u
made_view k ts u x n = subst (λ t. View (Tree k ts) t) (sym x.same) (view_of_tree k ts x.fields (parts_other k ts x.fields n))

loose_view : (k : Kind) (ts us : List Node) → Parts k ts us → View (Tree k ts) (roll-Node (Node-F.Tree k us))
loose_view k ts us x = subst (λ u. View (Tree k ts) u) (sym (rolls-Tree k us)) (view_of_tree k ts us x)

tree_view : (p : Places) (k : Kind) (ts : List Node) → Each (Viewed p) ts → View (Tree k ts) (begin_step p (Node-F.Tree k (stepped p ts)))
tree_view p kind.ExprStmt ts l = made_view kind.ExprStmt ts (begin_step p (Node-F.Tree kind.ExprStmt (stepped p ts))) (begun_kind p kind.ExprStmt (stepped p ts)) refl
tree_view p kind.ExportDefaultExpr ts l = made_view kind.ExportDefaultExpr ts (begin_step p (Node-F.Tree kind.ExportDefaultExpr (stepped p ts))) (begun_kind p kind.ExportDefaultExpr (stepped p ts)) refl
tree_view p kind.ArrowExpr ts l = made_view kind.ArrowExpr ts (begin_step p (Node-F.Tree kind.ArrowExpr (stepped p ts))) (begun_kind p kind.ArrowExpr (stepped p ts)) refl
tree_view p k ts l = loose_view k ts (stepped p ts) (parts_row p k ts l)

leaf_view : (p : Places) (t : Node) → paired_at_starts p t ≡ t → Viewed p t
leaf_view p t e = subst (λ u. View t u) (sym e) (view_same t)

all_views : (p : Places) (ts : List Node) → Each (Viewed p) ts → Views ts (stepped p ts)
all_views p [] l = tt
all_views p (t ∷ ts) l = (l.0, all_views p ts l.1)

pub starting_view : (p : Places) (t : Node) → View t (paired_at_starts p t)
starting_view p t = by_children (Viewed p)
    (leaf_view p Absent (search (rules, the_lemmas)), λ x. leaf_view p (Flag x) (search (rules, the_lemmas)), λ w. leaf_view p (Word w) (search (rules, the_lemmas)), λ x. leaf_view p (Text x) (search (rules, the_lemmas)), λ s. leaf_view p (Span s) (search (rules, the_lemmas)), λ k i. leaf_view p (Identifier k i) (search (rules, the_lemmas)))
    (λ ts l. subst (λ u. View (Many ts) u) (sym (starts_of_list p ts)) (view_of_list ts (stepped p ts) (all_views p ts l)))
    (λ k ts l. subst (λ u. View (Tree k ts) u) (sym (starts_of_tree p k ts)) (tree_view p k ts l)) t

pub stepped_clues : (p : Places) (ts : List Node) → map clue (stepped p ts) ≡ map clue ts
stepped_clues p [] = refl
stepped_clues p (t ∷ ts) = rw ((starting_view p t).clue_same, stepped_clues p ts) refl

-- names
abbrev Same : (Node → Bool) → Places → Node → Type 0
Same f p t = f (paired_at_starts p t) ≡ f t

made_same : (f : Node → Bool) (k : Kind) (ts : List Node) (u : Node) → OfKind k u → ((vs : List Node) → f (Tree k vs) ≡ false) → f u ≡ f (Tree k ts)
made_same f k ts u x e = ap f x.same ∙ e x.fields ∙ sym (e ts)

let_kept : (p : Places) (t : Node) → is_let_in (out-Node (paired_at_starts p t)) ≡ is_let_in (out-Node t)
let_kept p t = by_children (Same (λ t. is_let_in (out-Node t)) p)
    (search (rules, the_lemmas), λ x. search (rules, the_lemmas), λ w. search (rules, the_lemmas), λ x. search (rules, the_lemmas), λ s. search (rules, the_lemmas), λ k i. search (rules, the_lemmas))
    (λ ts l. search (rules, the_lemmas))
    (λ k ts l. (let us = stepped p ts in ap (λ t. is_let_in (out-Node t)) (starts_of_tree p k ts) ∙ made_same (λ t. is_let_in (out-Node t)) k ts (begin_step p (Node-F.Tree k us)) (begun_kind p k us) (λ vs. search (rules, the_lemmas)))) t

pub async_kept : (p : Places) (t : Node) → is_async_name (paired_at_starts p t) ≡ is_async_name t
async_kept p t = by_children (Same is_async_name p)
    (search (rules, the_lemmas), λ x. search (rules, the_lemmas), λ w. search (rules, the_lemmas), λ x. search (rules, the_lemmas), λ s. search (rules, the_lemmas), λ k i. search (rules, the_lemmas))
    (λ ts l. search (rules, the_lemmas))
    (λ k ts l. (let us = stepped p ts in ap is_async_name (starts_of_tree p k ts) ∙ made_same is_async_name k ts (begin_step p (Node-F.Tree k us)) (begun_kind p k us) (λ vs. search (rules, the_lemmas)))) t

-- one layer
out_tree : (f : Node-F Node → Bool) (k : Kind) (vs : List Node) → f (out-Node (Tree k vs)) ≡ f (Node-F.Tree k vs)
out_tree f k vs = search (rules, the_lemmas)

made_layer : (f : Node-F Node → Bool) (k : Kind) (u : Node) (x : OfKind k u) → f (out-Node u) ≡ f (Node-F.Tree k x.fields)
made_layer f k u x = ap (λ t. f (out-Node t)) x.same ∙ out_tree f k x.fields

computed_row : (p : Places) (k : Kind) (ts : List Node) → is_computed_in (Node-F.Tree k (begun_kind p k (stepped p ts)).fields) ≡ is_computed_in (Node-F.Tree k ts)
computed_row p kind.ExprStmt ts = refl
computed_row p kind.ExportDefaultExpr ts = refl
computed_row p kind.ArrowExpr ts = refl
computed_row p kind.ComputedPropName (s ∷ e ∷ []) = refl
computed_row p k ts = refl

computed_kept : (p : Places) (t : Node) → is_computed_in (out-Node (paired_at_starts p t)) ≡ is_computed_in (out-Node t)
computed_kept p t = by_children (Same (λ t. is_computed_in (out-Node t)) p)
    (search (rules, the_lemmas), λ x. search (rules, the_lemmas), λ w. search (rules, the_lemmas), λ x. search (rules, the_lemmas), λ s. search (rules, the_lemmas), λ k i. search (rules, the_lemmas))
    (λ ts l. search (rules, the_lemmas))
    (λ k ts l. (let us = stepped p ts in ap (λ t. is_computed_in (out-Node t)) (starts_of_tree p k ts) ∙ made_layer is_computed_in k (begin_step p (Node-F.Tree k us)) (begun_kind p k us) ∙ computed_row p k ts ∙ sym (out_tree is_computed_in k ts))) t

bracket_row : (p : Places) (k : Kind) (ts : List Node) → let_bracket_in (Node-F.Tree k (begun_kind p k (stepped p ts)).fields) ≡ let_bracket_in (Node-F.Tree k ts)
bracket_row p kind.ExprStmt ts = refl
bracket_row p kind.ExportDefaultExpr ts = refl
bracket_row p kind.ArrowExpr ts = refl
bracket_row p kind.MemberExpr (s ∷ o ∷ m ∷ []) = rw (let_kept p o, computed_kept p m) refl
bracket_row p k ts = refl

pub bracket_kept : (p : Places) (t : Node) → is_let_bracket (paired_at_starts p t) ≡ is_let_bracket t
bracket_kept p t = by_children (Same is_let_bracket p)
    (search (rules, the_lemmas), λ x. search (rules, the_lemmas), λ w. search (rules, the_lemmas), λ x. search (rules, the_lemmas), λ s. search (rules, the_lemmas), λ k i. search (rules, the_lemmas))
    (λ ts l. search (rules, the_lemmas))
    (λ k ts l. (let us = stepped p ts in ap is_let_bracket (starts_of_tree p k ts) ∙ made_layer let_bracket_in k (begin_step p (Node-F.Tree k us)) (begun_kind p k us) ∙ bracket_row p k ts ∙ sym (out_tree let_bracket_in k ts))) t

bare_row : (p : Places) (k : Kind) (ts : List Node) → is_bare_in (Node-F.Tree k (begun_kind p k (stepped p ts)).fields) ≡ is_bare_in (Node-F.Tree k ts)
bare_row p kind.ExprStmt ts = refl
bare_row p kind.ExportDefaultExpr ts = refl
bare_row p kind.ArrowExpr ts = refl
bare_row p kind.BinExpr (s ∷ o ∷ f ∷ x ∷ []) = ap (λ c. is_in c.word) (starting_view p o).clue_same
bare_row p k ts = refl

pub bare_kept : (p : Places) (t : Node) → is_bare_in (out-Node (paired_at_starts p t)) ≡ is_bare_in (out-Node t)
bare_kept p t = by_children (Same (λ t. is_bare_in (out-Node t)) p)
    (search (rules, the_lemmas), λ x. search (rules, the_lemmas), λ w. search (rules, the_lemmas), λ x. search (rules, the_lemmas), λ s. search (rules, the_lemmas), λ k i. search (rules, the_lemmas))
    (λ ts l. search (rules, the_lemmas))
    (λ k ts l. (let us = stepped p ts in ap (λ t. is_bare_in (out-Node t)) (starts_of_tree p k ts) ∙ made_layer is_bare_in k (begin_step p (Node-F.Tree k us)) (begun_kind p k us) ∙ bare_row p k ts ∙ sym (out_tree is_bare_in k ts))) t

-- what it begins with
abbrev begun_of : Node → Begun
begun_of = fold-Node Begun start_step

begun_whole : (t : Node) → (begun_of t).whole ≡ t
begun_whole t = carried Begun start_step (λ e. e.whole) (λ x. refl) t

abbrev Begins : Places → Node → Type 0
Begins p t = start (paired_at_starts p t) ≡ start t

member_kept : (p : Places) (s o m : Node) → is_let_bracket (Tree kind.MemberExpr (paired_at_starts p s ∷ paired_at_starts p o ∷ paired_at_starts p m ∷ [])) ≡ is_let_bracket (Tree kind.MemberExpr (s ∷ o ∷ m ∷ []))
member_kept p s o m =
    let us = paired_at_starts p s ∷ paired_at_starts p o ∷ paired_at_starts p m ∷ [] in let ts = s ∷ o ∷ m ∷ [] in
    out_tree let_bracket_in kind.MemberExpr us ∙ bracket_row p kind.MemberExpr ts ∙ sym (out_tree let_bracket_in kind.MemberExpr ts)

flag_kept : (p : Places) (t : Node) → holds (paired_at_starts p t) ≡ holds t
flag_kept p t = ap (λ c. c.flag) (starting_view p t).clue_same

start_row : (p : Places) (k : Kind) (ts : List Node) → Each (Begins p) ts → start_in (Tree k (stepped p ts)) (Node-F.Tree k (map begun_of (stepped p ts))) ≡ start_in (Tree k ts) (Node-F.Tree k (map begun_of ts))
start_row p kind.Function (s ∷ a ∷ b ∷ g ∷ x ∷ []) l = rw (begun_whole (paired_at_starts p x), begun_whole x, flag_kept p x) refl
start_row p kind.FnExpr (i ∷ e ∷ []) l = l.1.0
start_row p kind.SeqExpr (s ∷ e ∷ []) l = l.1.0
start_row p kind.AssignExpr (s ∷ o ∷ e ∷ r ∷ []) l = l.1.1.0
start_row p kind.CondExpr (s ∷ t ∷ c ∷ a ∷ []) l = l.1.0
start_row p kind.BinExpr (s ∷ o ∷ e ∷ r ∷ []) l = l.1.1.0
start_row p kind.UpdateExpr (s ∷ o ∷ f ∷ a ∷ []) l = rw (begun_whole (paired_at_starts p f), begun_whole f, flag_kept p f, l.1.1.1.0) refl
start_row p kind.MemberExpr (s ∷ o ∷ m ∷ []) l = rw (member_kept p s o m, l.1.0) refl
start_row p kind.CallExpr (s ∷ c ∷ a ∷ []) l = l.1.0
start_row p kind.TaggedTpl (s ∷ c ∷ a ∷ []) l = l.1.0
start_row p kind.OptChainExpr (s ∷ o ∷ e ∷ []) l = rw (begun_whole (paired_at_starts p o), begun_whole o, begun_whole (paired_at_starts p e), begun_whole e, flag_kept p o, bracket_kept p e, l.1.1.0) refl
start_row p kind.OptCall (s ∷ c ∷ a ∷ []) l = l.1.0
start_row p k ts l = refl

start_step_row : (p : Places) (k : Kind) (ts : List Node) → Each (Begins p) ts → start (begin_step p (Node-F.Tree k (stepped p ts))) ≡ start (Tree k ts)
start_step_row p kind.ExprStmt (s ∷ e ∷ []) l = start_tree kind.ExprStmt (paired_at_starts p s ∷ begun p may_begin_statement (paired_at_starts p e) ∷ []) ∙ sym (start_tree kind.ExprStmt (s ∷ e ∷ []))
start_step_row p kind.ExportDefaultExpr (s ∷ e ∷ []) l = start_tree kind.ExportDefaultExpr (paired_at_starts p s ∷ begun p may_begin_export (paired_at_starts p e) ∷ []) ∙ sym (start_tree kind.ExportDefaultExpr (s ∷ e ∷ []))
start_step_row p kind.ArrowExpr (s ∷ a ∷ e ∷ f ∷ []) l =
    start_tree kind.ArrowExpr (paired_at_starts p s ∷ paired_at_starts p a ∷ (if has_kind is_block (paired_at_starts p e) then paired_at_starts p e else begun p may_begin_body (paired_at_starts p e)) ∷ paired_at_starts p f ∷ []) ∙ sym (start_tree kind.ArrowExpr (s ∷ a ∷ e ∷ f ∷ []))
start_step_row p k ts l = ap start (rolls-Tree k (stepped p ts)) ∙ start_tree k (stepped p ts) ∙ start_row p k ts l ∙ sym (start_tree k ts)

start_items : (p : Places) (ts : List Node) → Each (Begins p) ts → start (Many (stepped p ts)) ≡ start (Many ts)
start_items p [] l = refl
start_items p (t ∷ ts) l = start_list (paired_at_starts p t) (stepped p ts) ∙ l.0 ∙ sym (start_list t ts)

pub start_kept : (p : Places) (t : Node) → Begins p t
start_kept p t = by_children (Begins p)
    (search (rules, the_lemmas), λ x. search (rules, the_lemmas), λ w. search (rules, the_lemmas), λ x. search (rules, the_lemmas), λ s. search (rules, the_lemmas), λ k i. search (rules, the_lemmas))
    (λ ts l. ap start (starts_of_list p ts) ∙ start_items p ts l)
    (λ k ts l. ap start (starts_of_tree p k ts) ∙ start_step_row p k ts l) t
