-- The third step sets pairs, and nothing else.
use Rattle.std.proofs.Common.{◌≡◌, Bool, true, false, List, [], ◌∷◌, map, refl, rules, sym, ◌∙◌, true≢false}
use Rattle.std.specs.Prelude.{if◌then◌else◌}
use Rattle.swc_tree_node.specs.declared.kind.Kind.{Kind}
use Rattle.swc_tree_node.specs.declared.kind.Kind.TheVariants as kind
use Rattle.swc_tree_node.specs.declared.node.Node.{Node, Absent, Flag, Word, Text, Span, Identifier, Tree, the_lemmas, List as Many}
use Rattle.swc_tree_node.specs.declared.node.Node.TheVariants.{rolls-Tree}
use Rattle.swc_tree_node.specs.declared.node.Node.TheOpen.{Node-F}
use Rattle.swc_tree_grammar.specs.Kinds.{has_kind, is_block, is_paren}
use Rattle.swc_tree_grammar.specs.Starts.{Start, start}
use Rattle.swc_tree_grammar.specs.Starts.Start.{Other}
use Rattle.swc_tree_grammar.specs.Grammar.{may_begin_statement, may_begin_export, may_begin_body}
use Rattle.swc_tree_grammar.specs.Due.{Places, begun, begin_step, paired_at_starts}
use Rattle.swc_tree_grammar.proofs.Induction.{Each, by_children}
use Rattle.swc_tree_grammar_laws.proofs.Begins.{first_paired, starts_of_tree, starts_of_list}
use Rattle.swc_base_fixer_laws.specs.Sets.{Sets, AllSet, FieldsSet, item}
use Rattle.swc_base_fixer_laws.specs.Sets.Sets.{same, after, items, tree}
use Rattle.swc_base_fixer_laws.specs.Sets.AllSet.{none, more}
use Rattle.swc_base_fixer_laws.proofs.SetsStarts.{first, in_expr, blocked}
use Rattle.swc_base_fixer_laws.specs.Sets.FieldsSet.{nil, field}
use Rattle.swc_base_fixer_laws.proofs.Kept.{off}
use Rattle.swc_base_fixer_laws.proofs.Up.{kind_of_tree}
use Rattle.swc_base_fixer_laws.proofs.FitsKept.{an_expression, fits_kept}
use Rattle.swc_base_fixer_laws.proofs.SetsRows.{items_open, string_bare, no_string}
use Rattle.swc_base_fixer_laws.proofs.Strings.{string_of_tree, same_string}
use Rattle.std.specs.Prelude.{is_some}
use Rattle.swc_tree_node.specs.declared.kind.Class.TheVariants as class
use Rattle.swc_tree_node.specs.declared.slot.Content.TheVariants as content
use Rattle.swc_tree_node.specs.declared.slot.Slot.{Slot}
use Rattle.swc_tree_node.specs.declared.slot.Slot.TheVariants as slot
use Rattle.swc_tree_node.specs.Table.{slots_of}
use Rattle.swc_tree_node.specs.Fits.{Fits, FieldsFit, AllFit}
use Rattle.swc_tree_node.proofs.Fit.{fits-List}
use Rattle.swc_tree_scoping.specs.Places.{literal_in}
use Rattle.swc_tree_grammar.specs.Writable.{is_string}
use Rattle.swc_tree_grammar.proofs.Places.{one, stands}

-- a place that refuses a start
abbrev Blocks : (Start → Bool) → Type 0
Blocks may = (s : Start) → may s ≡ false → blocked s ≡ true

statement_blocks : Blocks may_begin_statement
statement_blocks Other h = absurd (cc)
statement_blocks s h = refl

export_blocks : Blocks may_begin_export
export_blocks Other h = absurd (cc)
export_blocks s h = refl

body_blocks : Blocks may_begin_body
body_blocks Other h = absurd (cc)
body_blocks s h = refl

begun_if : (b : Bool) (p : Places) (may : Start → Bool) (e : Node) → Blocks may → Fits e an_expression → may (start e) ≡ b → Sets an_expression e (if b then e else first_paired p e)
begun_if true p may e w f h = same e
begun_if false p may e w f h = in_expr p e (first p e) f (w (start e) h)

begun_set : (p : Places) (may : Start → Bool) (e : Node) → Blocks may → Fits e an_expression → Sets an_expression e (begun p may e)
begun_set p may e w f = begun_if (may (start e)) p may e w f refl

-- what an arrow returns
abbrev a_body : Slot
a_body = one class.BlockStmtOrExpr

returned_if : (b : Bool) (p : Places) (e : Node) → Fits e a_body → may_begin_body (start e) ≡ b → Sets a_body e (if b then e else first_paired p e)
returned_if true p e f h = same e
returned_if false p e f h = (first p e).0 class.BlockStmtOrExpr f (refl, λ x. off x) (body_blocks (start e) h) (λ x. off (sym x))

body_if : (b : Bool) (p : Places) (e : Node) → Fits e a_body → Sets a_body e (if b then e else begun p may_begin_body e)
body_if true p e f = same e
body_if false p e f = returned_if (may_begin_body (start e)) p e f refl

-- strings get no pair
string_start_row : (k : Kind) (ts : List Node) → is_some (literal_in (Node-F.Tree k ts)) ≡ true → start (Tree k ts) ≡ Other
string_start_row kind.Str ts h = search (rules, the_lemmas)
string_start_row k ts h = absurd (true≢false (sym h))

string_start : (t : Node) → is_string t ≡ true → (start t ≡ Other) × (has_kind is_paren t ≡ false)
string_start t = by_children (λ t. is_string t ≡ true → (start t ≡ Other) × (has_kind is_paren t ≡ false))
    (λ h. no_string Absent (search (rules, the_lemmas)) h, λ x h. no_string (Flag x) (search (rules, the_lemmas)) h, λ w h. no_string (Word w) (search (rules, the_lemmas)) h, λ x h. no_string (Text x) (search (rules, the_lemmas)) h, λ r h. no_string (Span r) (search (rules, the_lemmas)) h, λ k i h. no_string (Identifier k i) (search (rules, the_lemmas)) h)
    (λ ts l h. no_string (Many ts) (search (rules, the_lemmas)) h)
    (λ k ts l h. (let g = sym (string_of_tree k ts) ∙ h in (string_start_row k ts g, kind_of_tree is_paren k ts ∙ string_bare k ts g))) t

begun_bare : (p : Places) (e : Node) → is_string e ≡ true → has_kind is_paren (begun p may_begin_statement e) ≡ false
begun_bare p e h = let q = string_start e h in rw (q.0) q.1

bare_row : (p : Places) (k : Kind) (ts : List Node) → is_some (literal_in (Node-F.Tree k ts)) ≡ true → has_kind is_paren (begin_step p (Node-F.Tree k (map (paired_at_starts p) ts))) ≡ false
bare_row p kind.Str ts h = search (rules, the_lemmas)
bare_row p k ts h = absurd (true≢false (sym h))

starts_bare : (p : Places) (t : Node) → is_string t ≡ true → has_kind is_paren (paired_at_starts p t) ≡ false
starts_bare p t = by_children (λ t. is_string t ≡ true → has_kind is_paren (paired_at_starts p t) ≡ false)
    (λ h. no_string Absent (search (rules, the_lemmas)) h, λ x h. no_string (Flag x) (search (rules, the_lemmas)) h, λ w h. no_string (Word w) (search (rules, the_lemmas)) h, λ x h. no_string (Text x) (search (rules, the_lemmas)) h, λ r h. no_string (Span r) (search (rules, the_lemmas)) h, λ k i h. no_string (Identifier k i) (search (rules, the_lemmas)) h)
    (λ ts l h. no_string (Many ts) (search (rules, the_lemmas)) h)
    (λ k ts l h. rw (starts_of_tree p k ts) (bare_row p k ts (sym (string_of_tree k ts) ∙ h))) t

-- every node
abbrev BegunSet : Places → Node → Type 0
BegunSet p t = (s : Slot) → Fits t s → Sets s t (paired_at_starts p t)

all_set : (p : Places) (s : Slot) (ts : List Node) → Each (BegunSet p) ts → AllFit s ts → AllSet s ts (map (paired_at_starts p) ts)
all_set p s [] l f = none
all_set p s (t ∷ ts) l f = more (l.0 s f.0) (all_set p s ts l.1 f.1)

fields_of : (p : Places) (ss : List Slot) (ts : List Node) → Each (BegunSet p) ts → FieldsFit ss ts → FieldsSet ss ts (map (paired_at_starts p) ts)
fields_of p [] [] l f = nil
fields_of p [] (t ∷ ts) l f = absurd f
fields_of p (s ∷ ss) [] l f = absurd f
fields_of p (s ∷ ss) (t ∷ ts) l f = field (l.0 s f.0) (fields_of p ss ts l.1 f.1)

row : (p : Places) (s : Slot) (k : Kind) (ts : List Node) → Each (BegunSet p) ts → FieldsFit (slots_of k) ts → Sets s (Tree k ts) (begin_step p (Node-F.Tree k (map (paired_at_starts p) ts)))
row p q kind.ExprStmt (s ∷ e ∷ []) l f =
    let d = l.1.0 an_expression f.1.0 in let g = fits_kept d f.1.0 in let b = begun_set p may_begin_statement (paired_at_starts p e) statement_blocks g in
    tree kind.ExprStmt (s ∷ e ∷ []) (paired_at_starts p s ∷ begun p may_begin_statement (paired_at_starts p e) ∷ [])
    (same_string (paired_at_starts p e) (begun p may_begin_statement (paired_at_starts p e)) b g (begun_bare p (paired_at_starts p e)) ∙ same_string e (paired_at_starts p e) d f.1.0 (starts_bare p e))
    (field (l.0 (slot.One content.Span) f.0) (field (after d b) nil))
row p q kind.ExportDefaultExpr (s ∷ e ∷ []) l f =
    let d = l.1.0 an_expression f.1.0 in
    tree kind.ExportDefaultExpr (s ∷ e ∷ []) (paired_at_starts p s ∷ begun p may_begin_export (paired_at_starts p e) ∷ []) refl
    (field (l.0 (slot.One content.Span) f.0) (field (after d (begun_set p may_begin_export (paired_at_starts p e) export_blocks (fits_kept d f.1.0))) nil))
row p q kind.ArrowExpr (s ∷ a ∷ e ∷ b ∷ []) l f =
    let d = l.1.1.0 a_body f.1.1.0 in
    tree kind.ArrowExpr (s ∷ a ∷ e ∷ b ∷ []) (paired_at_starts p s ∷ paired_at_starts p a ∷ (if has_kind is_block (paired_at_starts p e) then paired_at_starts p e else begun p may_begin_body (paired_at_starts p e)) ∷ paired_at_starts p b ∷ []) refl
    (field (l.0 (slot.One content.Span) f.0) (field (l.1.0 (slot.List (content.Node class.Pat)) f.1.0) (field (after d (body_if (has_kind is_block (paired_at_starts p e)) p (paired_at_starts p e) (fits_kept d f.1.1.0))) (field (l.1.1.1.0 (slot.One content.Flag) f.1.1.1.0) nil))))
row p q kind.ExprStmt [] l f = absurd f
row p q kind.ExprStmt (s ∷ []) l f = absurd f.1
row p q kind.ExprStmt (s ∷ e ∷ a ∷ ts) l f = absurd f.1.1
row p q k ts l f = rw (rolls-Tree k (map (paired_at_starts p) ts)) (tree k ts (map (paired_at_starts p) ts) refl (fields_of p (slots_of k) ts l f))

leaf_set : (p : Places) (t : Node) → paired_at_starts p t ≡ t → BegunSet p t
leaf_set p t e s f = rw e (same t)

begun_by : (p : Places) (t : Node) → BegunSet p t
begun_by p t = by_children (BegunSet p)
    (leaf_set p Absent (search (rules, the_lemmas)), λ x. leaf_set p (Flag x) (search (rules, the_lemmas)), λ w. leaf_set p (Word w) (search (rules, the_lemmas)), λ x. leaf_set p (Text x) (search (rules, the_lemmas)), λ s. leaf_set p (Span s) (search (rules, the_lemmas)), λ k i. leaf_set p (Identifier k i) (search (rules, the_lemmas)))
    (λ ts l s f. rw (starts_of_list p ts) (items ts (map (paired_at_starts p) ts) (all_set p (item s) ts l (items_open s ts (sym (fits-List ts s) ∙ f)))))
    (λ k ts l s f. rw (starts_of_tree p k ts) (row p s k ts l (stands k ts s f).fields)) t

pub starts_set : (p : Places) (t : Node) (s : Slot) → Fits t s → Sets s t (paired_at_starts p t)
starts_set p t s f = begun_by p t s f
