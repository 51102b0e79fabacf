-- The first step sets pairs, and nothing else.
use Rattle.std.proofs.Common.{◌≡◌, Bool, true, false, IsTrue, List, [], ◌∷◌, map, refl, sym, ◌∙◌, rules, true≢false}
use Rattle.std.specs.Prelude.{is_some}
use Rattle.swc_tree_node.specs.declared.kind.Kind.{Kind}
use Rattle.swc_tree_node.specs.declared.kind.Kind.TheVariants as kind
use Rattle.swc_tree_node.specs.declared.kind.Class.TheVariants as class
use Rattle.swc_tree_node.specs.declared.slot.Content.TheVariants as content
use Rattle.swc_tree_node.specs.declared.slot.Slot.{Slot}
use Rattle.swc_tree_node.specs.declared.slot.Slot.TheVariants as slot
use Rattle.swc_tree_node.specs.declared.node.Node.{Node, Absent, Flag, Word, Text, Span, List as Many, Identifier, Tree, out-Node, the_lemmas}
use Rattle.swc_tree_node.specs.declared.node.Node.TheOpen.{Node-F}
use Rattle.swc_tree_node.specs.Table.{slots_of}
use Rattle.swc_tree_node.specs.Fits.{fits, Fits, FieldsFit, AllFit, list_fits}
use Rattle.swc_tree_node.proofs.Fit.{fits-List, all_open, fields_open}
use Rattle.swc_tree_scoping.specs.Places.{literal_in}
use Rattle.swc_tree_grammar.specs.Shapes.{items_of}
use Rattle.swc_tree_grammar.specs.Kinds.{has_kind, is_paren}
use Rattle.swc_tree_grammar.specs.Writable.{is_string}
use Rattle.swc_tree_grammar.specs.Demands.{demands}
use Rattle.swc_tree_grammar.specs.Due.{Places, alone, odd_items, sequence_statement, each_settled, level_step, paired_in, paired_by_level}
use Rattle.swc_tree_grammar.specs.Readers.{named_in}
use Rattle.swc_tree_grammar.proofs.Induction.{Each, by_children}
use Rattle.swc_tree_grammar.proofs.Places.{stands}
use Rattle.swc_tree_grammar_laws.proofs.Levels.{pairing, pairing_tree, pairing_list}
use Rattle.swc_base_fixer_laws.specs.Sets.{Sets, AllSet, FieldsSet, item, is_directive_in}
use Rattle.swc_base_fixer_laws.specs.Sets.Sets.{same, after, items, tree}
use Rattle.swc_base_fixer_laws.specs.Sets.AllSet.{none, more}
use Rattle.swc_base_fixer_laws.specs.Sets.FieldsSet.{nil, field}
use Rattle.swc_base_fixer_laws.proofs.Up.{all_up_same, kind_of_tree}
use Rattle.swc_base_fixer_laws.proofs.Kept.{asks}
use Rattle.swc_base_fixer_laws.proofs.FitsKept.{an_expression, fields_kept}
use Rattle.swc_base_fixer_laws.proofs.SetsLevels.{fields_set, each_set, expressions, of_list}
use Rattle.swc_base_fixer_laws.proofs.SetsNames.{names, odd_set}
use Rattle.swc_base_fixer_laws.proofs.Strings.{string_of_tree, same_string}

pub fields_after : {ss : List Slot} {ts us vs : List Node} → FieldsSet ss ts us → FieldsSet ss us vs → FieldsSet ss ts vs
fields_after nil nil = nil
fields_after (field c x) (field d y) = field (after c d) (fields_after x y)

-- a sequence that is a statement
many_odd : (p : Places) (ts : List Node) → Sets expressions (Many ts) (Many (odd_items p (items_of (Many ts))))
many_odd p ts = let e : items_of (Many ts) ≡ ts = search (rules, the_lemmas) in rw e (items ts (odd_items p ts) (odd_set p ts))

odd_list : (p : Places) (t : Node) → Fits t expressions → Sets expressions t (Many (odd_items p (items_of t)))
odd_list p t f = of_list (λ t. Sets expressions t (Many (odd_items p (items_of t)))) (many_odd p) t f

sequence_row : (p : Places) (s : Slot) (k : Kind) (ts : List Node) → FieldsFit (slots_of k) ts → Sets s (Tree k ts) (sequence_statement p (Tree k ts) (Node-F.Tree k ts))
sequence_row p s kind.SeqExpr (a ∷ e ∷ []) f = tree kind.SeqExpr (a ∷ e ∷ []) (a ∷ Many (odd_items p (items_of e)) ∷ []) refl (field (same a) (field (odd_list p e f.1.0) nil))
sequence_row p s k ts f = same (Tree k ts)

sequence_leaf : (p : Places) (s : Slot) (t : Node) → sequence_statement p t (out-Node t) ≡ t → Sets s t (sequence_statement p t (out-Node t))
sequence_leaf p s t e = rw e (same t)

sequence_of_tree : (p : Places) (k : Kind) (ts : List Node) → sequence_statement p (Tree k ts) (out-Node (Tree k ts)) ≡ sequence_statement p (Tree k ts) (Node-F.Tree k ts)
sequence_of_tree p k ts = search (rules, the_lemmas)

sequence_set : (p : Places) (s : Slot) (t : Node) → Fits t s → Sets s t (sequence_statement p t (out-Node t))
sequence_set p s t = by_children (λ t. Fits t s → Sets s t (sequence_statement p t (out-Node t)))
    (λ f. sequence_leaf p s Absent (search (rules, the_lemmas)), λ x f. sequence_leaf p s (Flag x) (search (rules, the_lemmas)), λ w f. sequence_leaf p s (Word w) (search (rules, the_lemmas)), λ x f. sequence_leaf p s (Text x) (search (rules, the_lemmas)), λ r f. sequence_leaf p s (Span r) (search (rules, the_lemmas)), λ k i f. sequence_leaf p s (Identifier k i) (search (rules, the_lemmas)))
    (λ ts l f. sequence_leaf p s (Many ts) (search (rules, the_lemmas)))
    (λ k ts l f. rw (sequence_of_tree p k ts) (sequence_row p s k ts (stands k ts s f).fields)) t

-- strings get no pair
pub string_bare : (k : Kind) (ts : List Node) → is_some (literal_in (Node-F.Tree k ts)) ≡ true → is_paren k ≡ false
string_bare kind.ParenExpr ts h = absurd (true≢false (sym h))
string_bare k ts h = refl

sequence_bare_row : (p : Places) (k : Kind) (ts : List Node) → is_some (literal_in (Node-F.Tree k ts)) ≡ true → has_kind is_paren (sequence_statement p (Tree k ts) (Node-F.Tree k ts)) ≡ false
sequence_bare_row p kind.SeqExpr (a ∷ e ∷ []) h = absurd (true≢false (sym h))
sequence_bare_row p k ts h = kind_of_tree is_paren k ts ∙ string_bare k ts h

pub no_string : (t : Node) → is_string t ≡ false → {A : Type 0} → is_string t ≡ true → A
no_string t e h = absurd (cc)

sequence_bare : (p : Places) (t : Node) → is_string t ≡ true → has_kind is_paren (sequence_statement p t (out-Node t)) ≡ false
sequence_bare p t = by_children (λ t. is_string t ≡ true → has_kind is_paren (sequence_statement p t (out-Node t)) ≡ false)
    (λ h. no_string Absent (search (rules, the_lemmas)) h, λ x h. no_string (Flag x) (search (rules, the_lemmas)) h, λ w h. no_string (Word w) (search (rules, the_lemmas)) h, λ x h. no_string (Text x) (search (rules, the_lemmas)) h, λ r h. no_string (Span r) (search (rules, the_lemmas)) h, λ k i h. no_string (Identifier k i) (search (rules, the_lemmas)) h)
    (λ ts l h. no_string (Many ts) (search (rules, the_lemmas)) h)
    (λ k ts l h. rw (sequence_of_tree p k ts) (sequence_bare_row p k ts (sym (string_of_tree k ts) ∙ h))) t

bare_row : (p : Places) (b : Bool) (k : Kind) (ts : List Node) → is_some (literal_in (Node-F.Tree k ts)) ≡ true → has_kind is_paren (level_step p (Node-F.Tree k (map (pairing p) ts)) b) ≡ false
bare_row p b kind.Str ts h = search (rules, the_lemmas)
bare_row p b k ts h = absurd (true≢false (sym h))

level_bare : (p : Places) (b : Bool) (t : Node) → is_string t ≡ true → has_kind is_paren (pairing p t b) ≡ false
level_bare p b t = by_children (λ t. is_string t ≡ true → has_kind is_paren (pairing p t b) ≡ false)
    (λ h. no_string Absent (search (rules, the_lemmas)) h, λ x h. no_string (Flag x) (search (rules, the_lemmas)) h, λ w h. no_string (Word w) (search (rules, the_lemmas)) h, λ x h. no_string (Text x) (search (rules, the_lemmas)) h, λ r h. no_string (Span r) (search (rules, the_lemmas)) h, λ k i h. no_string (Identifier k i) (search (rules, the_lemmas)) h)
    (λ ts l h. no_string (Many ts) (search (rules, the_lemmas)) h)
    (λ k ts l h. rw (pairing_tree p k ts b) (bare_row p b k ts (sym (string_of_tree k ts) ∙ h))) t

-- a node whose parts have their pairs
settled_fields : (p : Places) (b : Bool) (k : Kind) (ts : List Node) → FieldsFit (slots_of k) ts → FieldsSet (slots_of k) ts (each_settled p (demands b (Node-F.Tree k ts)) (named_in (Node-F.Tree k ts)) ts)
settled_fields p b kind.SeqExpr (s ∷ e ∷ []) f = field (same s) (field (each_set 2 p e refl f.1.0) nil)
settled_fields p b kind.SeqExpr [] f = absurd f
settled_fields p b kind.SeqExpr (s ∷ []) f = absurd f.1
settled_fields p b kind.SeqExpr (s ∷ e ∷ d ∷ ts) f = absurd f.1.1
settled_fields p b k ts f = let a = asks b k (all_up_same ts) refl in fields_set p (slots_of k) (demands b (Node-F.Tree k ts)) (named_in (Node-F.Tree k ts)) ts a.1 a.2 (names k ts) f

directive_row : (k : Kind) (us : List Node) → FieldsFit (slots_of k) us → (p : Places) (b : Bool) → is_directive_in (Node-F.Tree k (each_settled p (demands b (Node-F.Tree k us)) (named_in (Node-F.Tree k us)) us)) ≡ is_directive_in (Node-F.Tree k us)
directive_row kind.ExprStmt (s ∷ e ∷ []) f p b = refl
directive_row k us f p b = refl

pub row : (p : Places) (s : Slot) (b : Bool) (k : Kind) {ts us : List Node} → FieldsSet (slots_of k) ts us → FieldsFit (slots_of k) us → is_directive_in (Node-F.Tree k us) ≡ is_directive_in (Node-F.Tree k ts) → Sets s (Tree k ts) (paired_in p b (Node-F.Tree k us))
row p s b kind.ExprStmt (field {t = a} {u = a'} x (field {t = e} {u = e'} y nil)) f h =
    let d = sequence_set p an_expression e' f.1.0 in
    tree kind.ExprStmt (a ∷ e ∷ []) (a' ∷ sequence_statement p e' (out-Node e') ∷ []) (same_string e' (sequence_statement p e' (out-Node e')) d f.1.0 (sequence_bare p e') ∙ h) (field x (field (after y d) nil))
row p s b k {ts = ts} {us = us} d f h =
    tree k ts (each_settled p (demands b (Node-F.Tree k us)) (named_in (Node-F.Tree k us)) us) (directive_row k us f p b ∙ h) (fields_after d (settled_fields p b k us f))

abbrev Paired : Places → Node → Type 0
Paired p t = (s : Slot) → Fits t s → (b : Bool) → Sets s t (pairing p t b)

all_set : (p : Places) (s : Slot) (ts : List Node) → Each (Paired p) ts → AllFit s ts → AllSet s ts (map alone (map (pairing p) ts))
all_set p s [] l f = none
all_set p s (t ∷ ts) l f = more (l.0 s f.0 false) (all_set p s ts l.1 f.1)

fields_of : (p : Places) (ss : List Slot) (ts : List Node) → Each (Paired p) ts → FieldsFit ss ts → FieldsSet ss ts (map alone (map (pairing p) ts))
fields_of p [] [] l f = nil
fields_of p [] (t ∷ ts) l f = absurd f
fields_of p (s ∷ ss) [] l f = absurd f
fields_of p (s ∷ ss) (t ∷ ts) l f = field (l.0 s f.0 false) (fields_of p ss ts l.1 f.1)

-- the items of what fits fit
texts : (ts : List Node) → FieldsFit (slot.One content.Text ∷ slot.One content.Text ∷ []) ts → AllFit (slot.One content.Text) ts
texts [] f = absurd f
texts (a ∷ []) f = absurd f.1
texts (a ∷ b ∷ []) f = (f.0, (f.1.0, tt))
texts (a ∷ b ∷ c ∷ ts) f = absurd f.1.1

pub items_open : (s : Slot) (ts : List Node) → IsTrue (list_fits (map fits ts) s) → AllFit (item s) ts
items_open (slot.List c) ts f = all_open (slot.One c) ts f
items_open (slot.OptionalList c) ts f = all_open (slot.One c) ts f
items_open (slot.Holes c) ts f = all_open (slot.Optional c) ts f
items_open slot.Pairs ts f = all_open slot.Pair ts f
items_open slot.Pair ts f = texts ts (fields_open (slot.One content.Text ∷ slot.One content.Text ∷ []) ts f)
items_open (slot.One c) ts f = absurd (cc)
items_open (slot.Optional c) ts f = absurd (cc)

directive : (p : Places) (k : Kind) (ts : List Node) → Each (Paired p) ts → FieldsFit (slots_of k) ts → is_directive_in (Node-F.Tree k (map alone (map (pairing p) ts))) ≡ is_directive_in (Node-F.Tree k ts)
directive p kind.ExprStmt (s ∷ e ∷ []) l f = same_string e (pairing p e false) (l.1.0 an_expression f.1.0 false) f.1.0 (level_bare p false e)
directive p k ts l f = refl

step : (p : Places) (s : Slot) (b : Bool) (k : Kind) (ts : List Node) → FieldsFit (slots_of k) ts → Each (Paired p) ts → Sets s (Tree k ts) (level_step p (Node-F.Tree k (map (pairing p) ts)) b)
step p s b kind.OptChainExpr (a ∷ o ∷ m ∷ []) f l =
    tree kind.OptChainExpr (a ∷ o ∷ m ∷ []) (pairing p a false ∷ pairing p o false ∷ pairing p m true ∷ []) refl
    (field (l.0 (slot.One content.Span) f.0 false) (field (l.1.0 (slot.One content.Flag) f.1.0 false) (field (l.1.1.0 (slot.One (content.Node class.OptChainBase)) f.1.1.0 true) nil)))
step p s b kind.OptChainExpr [] f l = absurd f
step p s b kind.OptChainExpr (a ∷ []) f l = absurd f.1
step p s b kind.OptChainExpr (a ∷ o ∷ []) f l = absurd f.1.1
step p s b kind.OptChainExpr (a ∷ o ∷ m ∷ e ∷ ts) f l = absurd f.1.1.1
step p s b k ts f l = let d = fields_of p (slots_of k) ts l f in row p s b k d (fields_kept d f) (directive p k ts l f)

leaf_set : (p : Places) (t : Node) → ((b : Bool) → pairing p t b ≡ t) → Paired p t
leaf_set p t e s f b = rw (e b) (same t)

paired : (p : Places) (t : Node) → Paired p t
paired p t = by_children (Paired p)
    (leaf_set p Absent (λ b. search (rules, the_lemmas)), λ x. leaf_set p (Flag x) (λ b. search (rules, the_lemmas)), λ w. leaf_set p (Word w) (λ b. search (rules, the_lemmas)), λ x. leaf_set p (Text x) (λ b. search (rules, the_lemmas)), λ s. leaf_set p (Span s) (λ b. search (rules, the_lemmas)), λ k i. leaf_set p (Identifier k i) (λ b. search (rules, the_lemmas)))
    (λ ts l s f b. rw (pairing_list p ts b) (items ts (map alone (map (pairing p) ts)) (all_set p (item s) ts l (items_open s ts (sym (fits-List ts s) ∙ f)))))
    (λ k ts l s f b. rw (pairing_tree p k ts b) (step p s b k ts (stands k ts s f).fields l)) t

pub levels_set : (p : Places) (t : Node) (s : Slot) → Fits t s → Sets s t (paired_by_level p t)
levels_set p t s f = paired p t s f false
