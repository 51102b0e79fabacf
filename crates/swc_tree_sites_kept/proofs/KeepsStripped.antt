-- A tree that is settled is settled once it is stripped.
use Rattle.std.proofs.Common.{◌≡◌, ℕ, Bool, true, false, not, ◌||◌, IsTrue, None, List, [], ◌∷◌, map, refl, sym, ap, ◌∙◌, subst, rules}
use Rattle.std.specs.List.{filter, flat_map, list_all}
use Rattle.swc_tree_marks.specs.declared.ident.Ident.{Ident}
use Rattle.swc_tree_node.specs.declared.kind.Kind.{Kind}
use Rattle.swc_tree_node.specs.declared.kind.Kind.TheVariants as kind
use Rattle.swc_tree_node.specs.declared.kind.Class.TheVariants as class
use Rattle.swc_tree_node.specs.declared.slot.Content.TheVariants as content
use Rattle.swc_tree_node.specs.declared.slot.Slot.{Slot}
use Rattle.swc_tree_node.specs.declared.slot.Slot.TheVariants as slot
use Rattle.swc_tree_node.specs.declared.node.Node.{Node, Absent, Flag, Word, Text, Span, List as Many, Identifier, Tree, out-Node, the_lemmas}
use Rattle.swc_tree_node.specs.declared.node.Node.TheOpen.{Node-F}
use Rattle.swc_tree_node.specs.declared.node.Node.TheVariants.{outs-Tree}
use Rattle.swc_tree_node.specs.Table.{slots_of}
use Rattle.swc_tree_node.specs.Fits.{AllFit, FieldsFit, Fits, belongs}
use Rattle.swc_tree_node.proofs.Fit.{both, fits-Absent, fits-Flag, fits-Identifier, fits-List, fits-Span, fits-Text, fits-Tree, fits-Word, list_opens, tree_closes, tree_opens}
use Rattle.swc_tree_scoping.specs.declared.places.Standing.TheVariants as standing
use Rattle.swc_tree_scoping.specs.declared.places.Place.{Place}
use Rattle.swc_tree_scoping.specs.Places.{place_in}
use Rattle.swc_tree_grammar.specs.Shapes.{items_of}
use Rattle.swc_tree_grammar.specs.Stripped.{effects, front, is_member, is_void, parts, parts_in, sequence, settled, stripped, target, target_in}
use Rattle.swc_tree_grammar.specs.Targets.{all_bare, bare_in, seen}
use Rattle.swc_tree_grammar.proofs.Induction.{Each, by_children}
use Rattle.swc_tree_grammar.proofs.Items.{expr, items_of_list, listed}
use Rattle.swc_tree_grammar.proofs.Kept.{stripped_fits}
use Rattle.swc_tree_grammar.proofs.Places.{one, stands}
use Rattle.swc_tree_grammar.proofs.Stripped.{effects_of_identifier, effects_of_list, effects_of_other, effects_of_sequence, effects_of_tree, effects_of_void, is_other, stripped_of_list, stripped_of_tree, stripped_other}
use Rattle.swc_tree_grammar.proofs.Walks.{bare_of_list, bare_of_tree}
use Rattle.swc_tree_grammar_laws.proofs.Levelled.{also, half}
use Rattle.swc_tree_renaming.specs.Apart.{function_in}
use Rattle.swc_base_fixer_laws.specs.Sets.{item}
use Rattle.swc_base_fixer_laws.proofs.SetsRows.{items_open}
use Rattle.swc_base_fixer_laws.proofs.Sequences.{each_filter, each_flat, each_front, each_settled}
use Rattle.swc_tree_sites_kept.proofs.Patterns.{only_node}
use Rattle.swc_tree_sites_kept.proofs.KeepsPlaces.{AllKeep, Calmer, Keeps, Z, all_same, each_list, hidden, is_shown, items_keep, keeps_is, keeps_then, list_each, list_keeps, name_settled, or_left, same, settled_from, settled_parts, span_settled, standing_free, suits_same, tree_keeps}
use Rattle.swc_tree_sites_kept.proofs.KeepsCode.{is_code, mapped_keeps}

-- where the expressions of a node stand
abbrev pub Ref : Place → Place
Ref w = record { standing = standing.Reference; strict = w.strict; nested = w.nested }

pub or_false : (a : Bool) → (a || false) ≡ true → a ≡ true
or_false true h = refl
or_false false h = absurd (cc)

-- an expression is settled wherever it stands
expression_hidden : (k : Kind) → (not (belongs k class.Expr) || not (is_shown k)) ≡ true
expression_hidden kind.Module = refl
expression_hidden _ = refl

pub expression_free : (t : Node) → Fits t expr → (w v : Place) → Calmer v w → Z w t ≡ true → Z v t ≡ true
expression_free t f w v c = only_node class.Expr (λ t. Z w t ≡ true → Z v t ≡ true) (λ k i a b h. name_settled v k i)
    (λ k ts b g x h. standing_free k ts (hidden (belongs k class.Expr) (is_shown k) (expression_hidden k) b) w v c h) t f

-- ---- the items of a sequence

abbrev exprs : Slot
exprs = slot.List (content.Node class.Expr)

abbrev Good : Place → Node → Type 0
Good w t = Fits t expr × (Z (Ref w) t ≡ true)

each_good : (w : Place) (ts : List Node) → AllFit expr ts → Each (λ t. Z (Ref w) t ≡ true) ts → Each (Good w) ts
each_good w [] f h = tt
each_good w (t ∷ ts) f h = ((f.0, h.0), each_good w ts f.1 h.1)

each_settled_there : (w : Place) (ts : List Node) → Each (Good w) ts → Each (λ t. Z (Ref w) t ≡ true) ts
each_settled_there w [] h = tt
each_settled_there w (t ∷ ts) h = (h.0.1, each_settled_there w ts h.1)

items_good : (w : Place) (e : Node) → Fits e exprs → Z (Ref w) e ≡ true → Each (Good w) (items_of e)
items_good w e f h =
    let l = listed e (content.Node class.Expr) f in
    subst (Each (Good w)) (sym (ap items_of l.is ∙ items_of_list l.items)) (each_good w l.items l.fit (list_each (Ref w) l.items (sym (ap (Z (Ref w)) l.is) ∙ h)))

sequence_inner : (w : Place) (a e : Node) → Z w (Tree kind.SeqExpr (a ∷ e ∷ [])) ≡ true → Z (Ref w) e ≡ true
sequence_inner w a e h =
    let p = half (settled_parts w kind.SeqExpr (a ∷ e ∷ []) h).1 in let q = half p.1 in
    same e (place_in w (Node-F.Tree kind.SeqExpr (a ∷ e ∷ [])) 1) (Ref w) (record { strict = or_false w.strict; nested = λ e. e }) (suits_same None) q.0

operand_inner : (w : Place) (a o e : Node) → Z w (Tree kind.UnaryExpr (a ∷ o ∷ e ∷ [])) ≡ true → Z (Ref w) e ≡ true
operand_inner w a o e h =
    let p = half (settled_parts w kind.UnaryExpr (a ∷ o ∷ e ∷ []) h).1 in let q = half p.1 in let r = half q.1 in
    same e (place_in w (Node-F.Tree kind.UnaryExpr (a ∷ o ∷ e ∷ [])) 2) (Ref w) (record { strict = or_false w.strict; nested = λ e. e }) (suits_same None) r.0

pair_inner : (w : Place) (a e : Node) → Z w (Tree kind.ParenExpr (a ∷ e ∷ [])) ≡ true → Z (Ref w) e ≡ true
pair_inner w a e h =
    let p = half (settled_parts w kind.ParenExpr (a ∷ e ∷ []) h).1 in let q = half p.1 in
    same e (place_in w (Node-F.Tree kind.ParenExpr (a ∷ e ∷ [])) 1) (Ref w) (record { strict = or_false w.strict; nested = λ e. e }) (suits_same None) q.0

-- what they add to a sequence round them
parts_of_tree : (k : Kind) (ts : List Node) → parts (Tree k ts) ≡ parts_in (Tree k ts) (Node-F.Tree k ts)
parts_of_tree k ts = search (rules, the_lemmas)

parts_row : (w : Place) (k : Kind) (ts : List Node) → Good w (Tree k ts) → Each (Good w) (parts_in (Tree k ts) (Node-F.Tree k ts))
parts_row w kind.SeqExpr (a ∷ e ∷ []) g = items_good w e (tree_opens kind.SeqExpr (a ∷ e ∷ []) class.Expr g.0).2.1.0 (sequence_inner (Ref w) a e g.1)
parts_row w k ts g = (g, tt)

parts_name : (k : Kind) (i : Ident) → parts (Identifier k i) ≡ Identifier k i ∷ []
parts_name k i = search (rules, the_lemmas)

parts_good : (w : Place) (t : Node) → Good w t → Each (Good w) (parts t)
parts_good w t g = only_node class.Expr (λ t. Good w t → Each (Good w) (parts t)) (λ k i a b g. subst (Each (Good w)) (sym (parts_name k i)) (g, tt))
    (λ k ts b f x g. subst (Each (Good w)) (sym (parts_of_tree k ts)) (parts_row w k ts g)) t g.0 g

all_parts : (w : Place) (ts : List Node) → Each (Good w) ts → Each (λ t. Each (Good w) (parts t)) ts
all_parts w [] g = tt
all_parts w (t ∷ ts) g = (parts_good w t g.0, all_parts w ts g.1)

-- what is left where a value is dropped
abbrev Left : Place → Node → Type 0
Left w t = (Good w t → Each (Good w) (effects t)) × (Fits t exprs → Z (Ref w) t ≡ true → Each (Good w) (effects t))

each_left : (w : Place) (ts : List Node) → Each (Left w) ts → Each (Good w) ts → Each (λ t. Each (Good w) (effects t)) ts
each_left w [] l g = tt
each_left w (t ∷ ts) l g = (l.0.0 g.0, each_left w ts l.1 g.1)

void_left : (w : Place) (b : Bool) (a o e : Node) → is_void o ≡ b → Good w (Tree kind.UnaryExpr (a ∷ o ∷ e ∷ [])) → Left w e → Each (Good w) (effects (Tree kind.UnaryExpr (a ∷ o ∷ e ∷ [])))
void_left w true a o e is g l = subst (Each (Good w)) (sym (effects_of_void a o e is)) (l.0 ((tree_opens kind.UnaryExpr (a ∷ o ∷ e ∷ []) class.Expr g.0).2.1.1.0, operand_inner (Ref w) a o e g.1))
void_left w false a o e is g l = subst (Each (Good w)) (sym (effects_of_other a o e is)) (g, tt)

left_row : (w : Place) (k : Kind) (ts : List Node) → Each (Left w) ts → Good w (Tree k ts) → Each (Good w) (effects (Tree k ts))
left_row w kind.SeqExpr (a ∷ e ∷ []) l g =
    subst (Each (Good w)) (sym (effects_of_sequence a e)) (l.1.0.1 (tree_opens kind.SeqExpr (a ∷ e ∷ []) class.Expr g.0).2.1.0 (sequence_inner (Ref w) a e g.1))
left_row w kind.UnaryExpr (a ∷ o ∷ e ∷ []) l g = void_left w (is_void o) a o e refl g l.1.1.0
left_row w k ts l g = subst (Each (Good w)) (sym (effects_of_tree k ts)) (g, tt)

left : (w : Place) (t : Node) → Left w t
left w t = by_children (Left w) (
  (λ g. absurd (cc (sym (fits-Absent expr) ∙ g.0)), λ f h. absurd (cc (sym (fits-Absent exprs) ∙ f))),
  λ x. (λ g. absurd (cc (sym (fits-Flag x expr) ∙ g.0)), λ f h. absurd (cc (sym (fits-Flag x exprs) ∙ f))),
  λ x. (λ g. absurd (cc (sym (fits-Word x expr) ∙ g.0)), λ f h. absurd (cc (sym (fits-Word x exprs) ∙ f))),
  λ x. (λ g. absurd (cc (sym (fits-Text x expr) ∙ g.0)), λ f h. absurd (cc (sym (fits-Text x exprs) ∙ f))),
  λ x. (λ g. absurd (cc (sym (fits-Span x expr) ∙ g.0)), λ f h. absurd (cc (sym (fits-Span x exprs) ∙ f))),
  λ k i. (λ g. subst (Each (Good w)) (sym (effects_of_identifier k i)) (g, tt), λ f h. absurd (cc (sym (fits-Identifier k i exprs) ∙ f))),
)
    (λ ts l. (
      λ g. absurd (cc (sym (fits-List ts expr) ∙ g.0)),
      λ f h. subst (Each (Good w)) (sym (effects_of_list ts)) (each_flat (Good w) effects ts (each_left w ts l (each_good w ts (list_opens ts (content.Node class.Expr) f) (list_each (Ref w) ts h)))),
    ))
    (λ k ts l. (left_row w k ts l, λ f h. absurd (cc (sym (fits-Tree k ts exprs) ∙ f)))) t

all_left : (w : Place) (ts : List Node) → Each (Good w) ts → Each (λ t. Each (Good w) (effects t)) ts
all_left w [] g = tt
all_left w (t ∷ ts) g = ((left w t).0 g.0, all_left w ts g.1)

items_left : (w : Place) (ts : List Node) → Each (Good w) ts → Each (Good w) (settled (flat_map parts ts))
items_left w ts g =
    let flat = each_flat (Good w) parts ts (all_parts w ts g) in
    each_settled (Good w) (flat_map parts ts) (each_flat (Good w) effects (front (flat_map parts ts)) (all_left w (front (flat_map parts ts)) (each_front (Good w) (flat_map parts ts) flat))) flat

span_free : (t : Node) → Fits t (slot.One content.Span) → (w : Place) → Z w t ≡ true
span_free t f w = by_children (λ t. Fits t (slot.One content.Span) → Z w t ≡ true) (
  λ f. absurd (cc (sym (fits-Absent (slot.One content.Span)) ∙ f)),
  λ x f. absurd (cc (sym (fits-Flag x (slot.One content.Span)) ∙ f)),
  λ x f. absurd (cc (sym (fits-Word x (slot.One content.Span)) ∙ f)),
  λ x f. absurd (cc (sym (fits-Text x (slot.One content.Span)) ∙ f)),
  λ x f. span_settled w x,
  λ k i f. name_settled w k i,
)
    (λ ts l f. absurd (cc (sym (fits-List ts (slot.One content.Span)) ∙ f)))
    (λ k ts l f. absurd (cc (sym (fits-Tree k ts (slot.One content.Span)) ∙ f))) t f

many_settled : (w : Place) (a : Node) (ts : List Node) → Fits a (slot.One content.Span) → Each (Good w) ts → Z (Ref w) (Tree kind.SeqExpr (a ∷ Many ts ∷ [])) ≡ true
many_settled w a ts f g =
    settled_from (Ref w) kind.SeqExpr (a ∷ Many ts ∷ []) refl (also (span_free a f (place_in (Ref w) (Node-F.Tree kind.SeqExpr (a ∷ Many ts ∷ [])) 0))
    (also (same (Many ts) (Ref w) (place_in (Ref w) (Node-F.Tree kind.SeqExpr (a ∷ Many ts ∷ [])) 1) (record { strict = or_left w.strict false; nested = λ e. e }) (suits_same None) (each_list (Ref w) ts (each_settled_there w ts g))) refl))

sequence_settled : (w : Place) (a : Node) (ts : List Node) → Fits a (slot.One content.Span) → Each (Good w) ts → Z (Ref w) (sequence a ts) ≡ true
sequence_settled w a [] f g = many_settled w a [] f g
sequence_settled w a (t ∷ []) f g = g.0.1
sequence_settled w a (t ∷ u ∷ ts) f g = many_settled w a (t ∷ u ∷ ts) f g

-- ---- every node

abbrev Claim : Node → Type 0
Claim t = (s : Slot) → IsTrue (all_bare t) → Fits t s → Keeps t (stripped t)

fields_claim : (ss : List Slot) (ts : List Node) → Each Claim ts → IsTrue (list_all all_bare ts) → FieldsFit ss ts → AllKeep ts (map stripped ts)
fields_claim [] [] l b f = tt
fields_claim [] (t ∷ ts) l b f = absurd f
fields_claim (s ∷ ss) [] l b f = absurd f
fields_claim (s ∷ ss) (t ∷ ts) l b f = let p = both (all_bare t) (list_all all_bare ts) b in (l.0 s p.0 f.0, fields_claim ss ts l.1 p.1 f.1)

items_claim : (s : Slot) (ts : List Node) → Each Claim ts → IsTrue (list_all all_bare ts) → AllFit s ts → AllKeep ts (map stripped ts)
items_claim s [] l b f = tt
items_claim s (t ∷ ts) l b f = let p = both (all_bare t) (list_all all_bare ts) b in (l.0 s p.0 f.0, items_claim s ts l.1 p.1 f.1)

bare_below : (k : Kind) (ts : List Node) → IsTrue (all_bare (Tree k ts)) → IsTrue (list_all all_bare ts)
bare_below k ts b = (both (bare_in (Node-F.Tree k (map seen ts))) (list_all all_bare ts) (sym (bare_of_tree k ts) ∙ b)).1

stays_flag : (x : Bool) → stripped (Flag x) ≡ Flag x
stays_flag x = search (rules, the_lemmas)

stays_text : (x : List ℕ) → stripped (Text x) ≡ Text x
stays_text x = search (rules, the_lemmas)

stays_name : (k : Kind) (i : Ident) → stripped (Identifier k i) ≡ Identifier k i
stays_name k i = search (rules, the_lemmas)

code_other : (k : Kind) → (not (is_code k) || is_other k) ≡ true
code_other kind.Module = refl
code_other _ = refl

statement_other : (k : Kind) → (not (belongs k class.Stmt) || is_other k) ≡ true
statement_other kind.Module = refl
statement_other _ = refl

implied : (a b : Bool) → (not a || b) ≡ true → a ≡ true → b ≡ true
implied true b h e = h
implied false b h e = absurd (cc)

stays_code : (k : Kind) (ts : List Node) → is_code k ≡ true → stripped (Tree k ts) ≡ Tree k (map stripped ts)
stays_code k ts e = stripped_other k ts (implied (is_code k) (is_other k) (code_other k) e)

pub function_kind : (k : Kind) (ts us : List Node) → function_in (Node-F.Tree k us) ≡ function_in (Node-F.Tree k ts)
function_kind kind.FnDecl ts us = refl
function_kind kind.Module ts us = refl
function_kind _ ts us = refl

declared : (t : Node) → Fits t (one class.Stmt) → function_in (out-Node (stripped t)) ≡ true → function_in (out-Node t) ≡ true
declared t f = only_node class.Stmt (λ t. function_in (out-Node (stripped t)) ≡ true → function_in (out-Node t) ≡ true) (λ k i a b h. ap (λ t. function_in (out-Node t)) (sym (stays_name k i)) ∙ h)
    (λ k ts b g x h. ap function_in (outs-Tree k ts) ∙ function_kind k (map stripped ts) ts
    ∙ sym (ap (λ t. function_in (out-Node t)) (stripped_other k ts (implied (belongs k class.Stmt) (is_other k) (statement_other k) b)) ∙ ap function_in (outs-Tree k (map stripped ts))) ∙ h) t f

fields_stripped : (k : Kind) (ts : List Node) → Each Claim ts → IsTrue (all_bare (Tree k ts)) → FieldsFit (slots_of k) ts → Keeps (Tree k ts) (Tree k (map stripped ts))
fields_stripped k ts l b f = mapped_keeps stripped stripped_of_list stays_text stays_flag stays_code declared k ts f (fields_claim (slots_of k) ts l (bare_below k ts b) f)

other_claim : (k : Kind) (ts : List Node) → IsTrue (is_other k) → Each Claim ts → Claim (Tree k ts)
other_claim k ts o l s b f = keeps_is (Tree k ts) (Tree k (map stripped ts)) (stripped (Tree k ts)) (stripped_other k ts o) (fields_stripped k ts l b (stands k ts s f).fields)

list_claim : (ts : List Node) → Each Claim ts → Claim (Many ts)
list_claim ts l s b f =
    keeps_is (Many ts) (Many (map stripped ts)) (stripped (Many ts)) (stripped_of_list ts) (list_keeps ts (map stripped ts) (items_claim (item s) ts l (sym (bare_of_list ts) ∙ b) (items_open s ts (sym (fits-List ts s) ∙ f))))

-- a pair
pair_claim : (a e : Node) → Claim e → FieldsFit (slots_of kind.ParenExpr) (a ∷ e ∷ []) → IsTrue (all_bare (Tree kind.ParenExpr (a ∷ e ∷ []))) → Keeps (Tree kind.ParenExpr (a ∷ e ∷ [])) (stripped (Tree kind.ParenExpr (a ∷ e ∷ [])))
pair_claim a e l f b w v c s h =
    let p = both (all_bare a) (list_all all_bare (e ∷ [])) (bare_below kind.ParenExpr (a ∷ e ∷ []) b) in
    let q = both (all_bare e) true p.1 in
    let inner : Z (Ref v) (stripped e) ≡ true = l expr q.0 f.1.0 (Ref w) (Ref v) (record { strict = c.strict; nested = c.nested }) (suits_same None) (pair_inner w a e h) in
    ap (Z v) (stripped_of_tree kind.ParenExpr (a ∷ e ∷ [])) ∙ expression_free (stripped e) (stripped_fits e expr q.0 refl f.1.0) (Ref v) v (record { strict = λ e. e; nested = λ e. e }) inner

-- a sequence
sequence_claim : (a e : Node) → Claim e → FieldsFit (slots_of kind.SeqExpr) (a ∷ e ∷ []) → IsTrue (all_bare (Tree kind.SeqExpr (a ∷ e ∷ []))) → Keeps (Tree kind.SeqExpr (a ∷ e ∷ [])) (stripped (Tree kind.SeqExpr (a ∷ e ∷ [])))
sequence_claim a e l f b w v c s h =
    let whole = Tree kind.SeqExpr (a ∷ e ∷ []) in
    let p = both (all_bare a) (list_all all_bare (e ∷ [])) (bare_below kind.SeqExpr (a ∷ e ∷ []) b) in
    let q = both (all_bare e) true p.1 in
    let inner : Z (Ref v) (stripped e) ≡ true = l exprs q.0 f.1.0 (Ref w) (Ref v) (record { strict = c.strict; nested = c.nested }) (suits_same None) (sequence_inner w a e h) in
    let items = items_left v (items_of (stripped e)) (items_good v (stripped e) (stripped_fits e exprs q.0 refl f.1.0) inner) in
    let made : Z (Ref v) (stripped whole) ≡ true
    = ap (Z (Ref v)) (stripped_of_tree kind.SeqExpr (a ∷ e ∷ [])) ∙ sequence_settled v (stripped a) (settled (flat_map parts (items_of (stripped e)))) (stripped_fits a (slot.One content.Span) p.0 refl f.0) items in
    expression_free (stripped whole) (stripped_fits whole expr b refl (tree_closes kind.SeqExpr (a ∷ e ∷ []) class.Expr refl refl f)) (Ref v) v (record { strict = λ e. e; nested = λ e. e }) made

-- an assignment
target_keeps : (t : Node) → Keeps t (target t)
target_keeps t = at (out-Node t)
  where
    at : (y : Node-F Node) → Keeps t (target_in t y)
    at (Node-F.Identifier kind.Ident i) = λ w v c s h. name_settled v kind.BindingIdent i
    at _ = same t

tree_claim : (k : Kind) (ts : List Node) → Each Claim ts → Claim (Tree k ts)
tree_claim kind.ParenExpr (a ∷ e ∷ []) l s b f = pair_claim a e l.1.0 (stands kind.ParenExpr (a ∷ e ∷ []) s f).fields b
tree_claim kind.ParenExpr [] l s b f = absurd (stands kind.ParenExpr [] s f).fields
tree_claim kind.ParenExpr (a ∷ []) l s b f = absurd ((stands kind.ParenExpr (a ∷ []) s f).fields.1)
tree_claim kind.ParenExpr (a ∷ e ∷ d ∷ ts) l s b f = absurd ((stands kind.ParenExpr (a ∷ e ∷ d ∷ ts) s f).fields.1.1)
tree_claim kind.SeqExpr (a ∷ e ∷ []) l s b f = sequence_claim a e l.1.0 (stands kind.SeqExpr (a ∷ e ∷ []) s f).fields b
tree_claim kind.SeqExpr [] l s b f = absurd (stands kind.SeqExpr [] s f).fields
tree_claim kind.SeqExpr (a ∷ []) l s b f = absurd ((stands kind.SeqExpr (a ∷ []) s f).fields.1)
tree_claim kind.SeqExpr (a ∷ e ∷ d ∷ ts) l s b f = absurd ((stands kind.SeqExpr (a ∷ e ∷ d ∷ ts) s f).fields.1.1)
tree_claim kind.AssignExpr (a ∷ o ∷ t ∷ e ∷ []) l s b f =
    let us = stripped a ∷ stripped o ∷ stripped t ∷ stripped e ∷ [] in
    let vs = stripped a ∷ stripped o ∷ target (stripped t) ∷ stripped e ∷ [] in
    keeps_is (Tree kind.AssignExpr (a ∷ o ∷ t ∷ e ∷ [])) (Tree kind.AssignExpr vs) (stripped (Tree kind.AssignExpr (a ∷ o ∷ t ∷ e ∷ []))) (stripped_of_tree kind.AssignExpr (a ∷ o ∷ t ∷ e ∷ []))
    (keeps_then (Tree kind.AssignExpr (a ∷ o ∷ t ∷ e ∷ [])) (Tree kind.AssignExpr us) (Tree kind.AssignExpr vs) (fields_stripped kind.AssignExpr (a ∷ o ∷ t ∷ e ∷ []) l b (stands kind.AssignExpr (a ∷ o ∷ t ∷ e ∷ []) s f).fields)
    (tree_keeps kind.AssignExpr us vs (same (stripped a), (same (stripped o), (target_keeps (stripped t), all_same (stripped e ∷ [])))) (λ e. e) (λ w e. e)))
tree_claim kind.AssignExpr [] l s b f = absurd (stands kind.AssignExpr [] s f).fields
tree_claim kind.AssignExpr (a ∷ []) l s b f = absurd ((stands kind.AssignExpr (a ∷ []) s f).fields.1)
tree_claim kind.AssignExpr (a ∷ o ∷ []) l s b f = absurd ((stands kind.AssignExpr (a ∷ o ∷ []) s f).fields.1.1)
tree_claim kind.AssignExpr (a ∷ o ∷ t ∷ []) l s b f = absurd ((stands kind.AssignExpr (a ∷ o ∷ t ∷ []) s f).fields.1.1.1)
tree_claim kind.AssignExpr (a ∷ o ∷ t ∷ e ∷ d ∷ ts) l s b f = absurd ((stands kind.AssignExpr (a ∷ o ∷ t ∷ e ∷ d ∷ ts) s f).fields.1.1.1.1)
tree_claim kind.Class (a ∷ t ∷ d ∷ []) l s b f =
    let us = stripped a ∷ stripped t ∷ stripped d ∷ [] in
    let vs = stripped a ∷ stripped t ∷ Many (filter is_member (items_of (stripped d))) ∷ [] in
    keeps_is (Tree kind.Class (a ∷ t ∷ d ∷ [])) (Tree kind.Class vs) (stripped (Tree kind.Class (a ∷ t ∷ d ∷ []))) (stripped_of_tree kind.Class (a ∷ t ∷ d ∷ []))
    (keeps_then (Tree kind.Class (a ∷ t ∷ d ∷ [])) (Tree kind.Class us) (Tree kind.Class vs) (fields_stripped kind.Class (a ∷ t ∷ d ∷ []) l b (stands kind.Class (a ∷ t ∷ d ∷ []) s f).fields)
    (tree_keeps kind.Class us vs (same (stripped a), (same (stripped t), (items_keep (filter is_member) refl (λ w ts h. each_filter (λ t. Z w t ≡ true) is_member ts h) (stripped d), tt))) (λ e. e) (λ w e. e)))
tree_claim kind.Class [] l s b f = absurd (stands kind.Class [] s f).fields
tree_claim kind.Class (a ∷ []) l s b f = absurd ((stands kind.Class (a ∷ []) s f).fields.1)
tree_claim kind.Class (a ∷ t ∷ []) l s b f = absurd ((stands kind.Class (a ∷ t ∷ []) s f).fields.1.1)
tree_claim kind.Class (a ∷ t ∷ d ∷ e ∷ ts) l s b f = absurd ((stands kind.Class (a ∷ t ∷ d ∷ e ∷ ts) s f).fields.1.1.1)
tree_claim k ts l s b f = other_claim k ts refl l s b f

leaf_claim : (t : Node) → stripped t ≡ t → Claim t
leaf_claim t e s b f = keeps_is t t (stripped t) e (same t)

pub stripped_keeps : (t : Node) → Claim t
stripped_keeps t = by_children Claim (
  leaf_claim Absent (search (rules, the_lemmas)),
  λ x. leaf_claim (Flag x) (search (rules, the_lemmas)),
  λ x. leaf_claim (Word x) (search (rules, the_lemmas)),
  λ x. leaf_claim (Text x) (search (rules, the_lemmas)),
  λ x. leaf_claim (Span x) (search (rules, the_lemmas)),
  λ k i. leaf_claim (Identifier k i) (stays_name k i),
)
    list_claim tree_claim t
