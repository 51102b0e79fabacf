-- What is read off a node, and stays where the node is stripped.
use Rattle.std.proofs.Common.{◌≡◌, ℕ, zero, suc, Bool, true, false, not, ◌&&◌, ◌||◌, ◌==◌, IsTrue, Option, Some, None, List, [], ◌∷◌, map, refl, sym, ap, ◌∙◌, subst, cond, rules}
use Rattle.std.specs.List.{list_all, list_any, slice_get}
use Rattle.std.specs.Option.{is_some, option_map}
use Rattle.std.proofs.lemmas.Option.{slice_get-map}
use Rattle.swc_tree_marks.specs.declared.ident.Ident.{Ident}
use Rattle.swc_tree_node.specs.declared.fields.statements.fn_decl.TheConstants as fn_decl
use Rattle.swc_tree_node.specs.declared.fields.functions.param.TheConstants as param
use Rattle.swc_tree_node.specs.declared.kind.Kind.{Kind}
use Rattle.swc_tree_node.specs.declared.kind.Kind.TheVariants as kind
use Rattle.swc_tree_node.specs.declared.kind.Class.TheVariants as class
use Rattle.swc_tree_node.specs.declared.slot.Content.TheVariants as content
use Rattle.swc_tree_node.specs.declared.slot.Slot.{Slot}
use Rattle.swc_tree_node.specs.declared.slot.Slot.TheVariants as slot
use Rattle.swc_tree_node.specs.declared.node.Node.{Node, Identifier, Tree, out-Node, the_lemmas}
use Rattle.swc_tree_node.specs.declared.node.Node.TheOpen.{Node-F}
use Rattle.swc_tree_node.specs.declared.node.Node.TheVariants.{outs-Identifier, outs-List, outs-Tree}
use Rattle.swc_tree_node.specs.Table.{fields_of, slots_of}
use Rattle.swc_tree_node.specs.Fits.{AllFit, FieldsFit, Fits, belongs}
use Rattle.swc_tree_node.proofs.Fit.{both as both_are, fits-Absent, fits-Flag, fits-Word, fits-Text, fits-Span, fits-List, tree_closes, tree_opens}
use Rattle.swc_tree_scoping.specs.Places.{absent_in, by_keyword, given, is_there, items_in, keyword_in}
use Rattle.swc_tree_scoping.specs.BoundNames.{name_in, name_of}
use Rattle.swc_tree_grammar.specs.Stripped.{stripped}
use Rattle.swc_tree_grammar.specs.Targets.{all_bare, bare_in, seen}
use Rattle.swc_tree_grammar.proofs.Induction.{by_children}
use Rattle.swc_tree_grammar.proofs.Items.{expr, listed}
use Rattle.swc_tree_grammar.proofs.Kept.{stripped_fits}
use Rattle.swc_tree_grammar.proofs.Places.{Stands, stands}
use Rattle.swc_tree_grammar.proofs.Stripped.{stripped_of_list, stripped_other}
use Rattle.swc_tree_grammar.proofs.Walks.{bare_of_list, bare_of_tree}
use Rattle.swc_tree_sites.proofs.Leaves.{Field}
use Rattle.swc_tree_sites.proofs.Pending.{field_at}
use Rattle.swc_tree_sites_laws.proofs.Parts.{has_pairs, pairs_in, single_content}
use Rattle.swc_tree_sites_laws.proofs.Stripping.{is_pair, is_pair_kind, pair_in, looks as looks_alike, tree_stays}
use Rattle.swc_base_rename_analysis.specs.Analysis.{function_has_rest_or_default, has_identifier, is_rest_or_default, parameter_is_rest_or_default, uses_own_name}
use Rattle.swc_base_rename_analysis.specs.Walk.{own_name_below}

abbrev pub Bares : List Node → Type 0
Bares ts = IsTrue (list_all all_bare ts)

pub bare_below : (k : Kind) (ts : List Node) → IsTrue (all_bare (Tree k ts)) → Bares ts
bare_below k ts b = (both_are (bare_in (Node-F.Tree k (map seen ts))) (list_all all_bare ts) (sym (bare_of_tree k ts) ∙ b)).1

pub bare_at : (ts : List Node) (i : ℕ) (c : Node) → Bares ts → slice_get ts i ≡ Some c → IsTrue (all_bare c)
bare_at [] i c b e = absurd (cc)
bare_at (t ∷ ts) zero c b e = let same : t ≡ c = cc in subst (λ c. IsTrue (all_bare c)) same (both_are (all_bare t) (list_all all_bare ts) b).0
bare_at (t ∷ ts) (suc i) c b e = bare_at ts i c (both_are (all_bare t) (list_all all_bare ts) b).1 e

pub own_expression : (k : Kind) (ts : List Node) (s : Slot) → is_pair_kind k ≡ true → Fits (Tree k ts) s → Fits (Tree k ts) expr
own_expression kind.ParenExpr ts s e f = let w = stands kind.ParenExpr ts s f in tree_closes kind.ParenExpr ts class.Expr refl refl w.fields
own_expression kind.SeqExpr ts s e f = let w = stands kind.SeqExpr ts s f in tree_closes kind.SeqExpr ts class.Expr refl refl w.fields
own_expression _ ts s e f = absurd (cc)

-- ---- the name that stands first

pair_belongs : (k : Kind) → is_pair_kind k ≡ true → (b : Bool) → (c : _) → IsTrue (belongs k c) → (belongs kind.ParenExpr c || belongs kind.SeqExpr c) ≡ true
pair_belongs kind.ParenExpr e b c h = grind rules
pair_belongs kind.SeqExpr e b c h = grind rules
pair_belongs _ e b c h = absurd (cc)

-- what stands where no pair may is none
firm : (t : Node) (s : Slot) → Fits t s → has_pairs s ≡ false → is_pair t ≡ false
firm t s = by_children (λ t. Fits t s → has_pairs s ≡ false → is_pair t ≡ false) (
  λ f h. search (rules, the_lemmas),
  λ x f h. search (rules, the_lemmas),
  λ w f h. search (rules, the_lemmas),
  λ x f h. search (rules, the_lemmas),
  λ r f h. search (rules, the_lemmas),
  λ k i f h. ap pair_in (outs-Identifier k i),
)
    (λ ts b f h. ap pair_in (outs-List ts))
    (λ k ts b f h. ap pair_in (outs-Tree k ts) ∙ at k ts (stands k ts s f) h (is_pair_kind k) refl) t
  where
    at : (k : Kind) (ts : List Node) → Stands k ts s → has_pairs s ≡ false → (b : Bool) → is_pair_kind k ≡ b → is_pair_kind k ≡ false
    at k ts w h false e = e
    at k ts w h true e = let z = sym h ∙ ap pairs_in (single_content s (content.Node w.in_class) w.place) ∙ pair_belongs k e true w.in_class w.belonging in absurd (cc)

name_kept : (t : Node) → is_pair t ≡ false → name_in (out-Node (stripped t)) ≡ name_in (out-Node t)
name_kept t = by_children (λ t. is_pair t ≡ false → name_in (out-Node (stripped t)) ≡ name_in (out-Node t)) (
  λ h. ap (λ t. name_in (out-Node t)) (search (rules, the_lemmas)),
  λ x h. ap (λ t. name_in (out-Node t)) (search (rules, the_lemmas)),
  λ w h. ap (λ t. name_in (out-Node t)) (search (rules, the_lemmas)),
  λ x h. ap (λ t. name_in (out-Node t)) (search (rules, the_lemmas)),
  λ r h. ap (λ t. name_in (out-Node t)) (search (rules, the_lemmas)),
  λ k i h. ap (λ t. name_in (out-Node t)) (search (rules, the_lemmas)),
)
    (λ ts b h. ap (λ t. name_in (out-Node t)) (stripped_of_list ts) ∙ ap name_in (outs-List (map stripped ts)) ∙ sym (ap name_in (outs-List ts)))
    (λ k ts b h. let (us, is) = tree_stays k ts (sym (ap pair_in (outs-Tree k ts)) ∙ h) in ap (λ t. name_in (out-Node t)) is ∙ ap name_in (outs-Tree k us) ∙ sym (ap name_in (outs-Tree k ts))) t

abbrev first_takes_pairs : List Field → Bool
first_takes_pairs [] = false
first_takes_pairs (f ∷ fs) = has_pairs f.1

no_first_pairs : (k : Kind) → first_takes_pairs (fields_of k) ≡ false
no_first_pairs kind.Module = refl
no_first_pairs _ = refl

first_field : (fs : List Field) (f : Field) → first_takes_pairs fs ≡ false → slice_get fs 0 ≡ Some f → has_pairs f.1 ≡ false
first_field [] f h e = absurd (cc)
first_field (x ∷ fs) f h e = let same : x ≡ f = cc in ap (λ (f : Field). has_pairs f.1) (sym same) ∙ h

pub name_first : (k : Kind) (ts : List Node) → FieldsFit (slots_of k) ts → name_of (slice_get (map stripped ts) 0) ≡ name_of (slice_get ts 0)
name_first k ts f = ap name_of (slice_get-map stripped ts 0) ∙ at (slice_get ts 0) refl
  where
    at : (o : Option Node) → slice_get ts 0 ≡ o → name_of (option_map stripped o) ≡ name_of o
    at None e = refl
    at (Some c) e = let (x, z, fit) = field_at (fields_of k) ts 0 c f e in name_kept c (firm c x.1 fit (first_field (fields_of k) x (no_first_pairs k) z))

-- ---- functions that count as using their names

-- what is true of no expression
expression_none : (g : Node-F Node → Bool) → ((k : Kind) (i : Ident) → g (Node-F.Identifier k i) ≡ false) → ((k : Kind) (ts : List Node) → IsTrue (belongs k class.Expr) → g (Node-F.Tree k ts) ≡ false) → (u : Node) → Fits u expr → g (out-Node u) ≡ false
expression_none g names trees u = by_children (λ u. Fits u expr → g (out-Node u) ≡ false) (
  λ f. absurd (cc (sym (fits-Absent expr) ∙ f)),
  λ x f. absurd (cc (sym (fits-Flag x expr) ∙ f)),
  λ w f. absurd (cc (sym (fits-Word w expr) ∙ f)),
  λ x f. absurd (cc (sym (fits-Text x expr) ∙ f)),
  λ r f. absurd (cc (sym (fits-Span r expr) ∙ f)),
  λ k i f. ap g (outs-Identifier k i) ∙ names k i,
)
    (λ ts b f. absurd (cc (sym (fits-List ts expr) ∙ f)))
    (λ k ts b f. ap g (outs-Tree k ts) ∙ trees k ts (tree_opens k ts class.Expr f).1) u

pair_expression : (k : Kind) → is_pair_kind k ≡ true → IsTrue (belongs k class.Expr)
pair_expression kind.ParenExpr h = refl
pair_expression kind.SeqExpr h = refl
pair_expression _ h = absurd (cc)

module _ (g : Node-F Node → Bool) (names : (k : Kind) (i : Ident) → g (Node-F.Identifier k i) ≡ false) (lists : (ts : List Node) → g (Node-F.List ts) ≡ false)
    (trees : (k : Kind) (ts : List Node) → IsTrue (belongs k class.Expr) → g (Node-F.Tree k ts) ≡ false)
    (rows : (k : Kind) (ts : List Node) → is_pair_kind k ≡ false → FieldsFit (slots_of k) ts → Bares ts → g (out-Node (stripped (Tree k ts))) ≡ g (Node-F.Tree k ts)) where
  of_tree : (k : Kind) (ts : List Node) (s : Slot) (b : Bool) → is_pair_kind k ≡ b → Fits (Tree k ts) s → IsTrue (all_bare (Tree k ts)) → g (out-Node (stripped (Tree k ts))) ≡ g (Node-F.Tree k ts)
  of_tree k ts s false e f h = rows k ts e (stands k ts s f).fields (bare_below k ts h)
  of_tree k ts s true e f h = expression_none g names trees (stripped (Tree k ts)) (stripped_fits (Tree k ts) expr h refl (own_expression k ts s e f)) ∙ sym (trees k ts (pair_expression k e))

  looks : (t : Node) (s : Slot) → Fits t s → IsTrue (all_bare t) → g (out-Node (stripped t)) ≡ g (out-Node t)
  looks t = by_children (λ t. (s : Slot) → Fits t s → IsTrue (all_bare t) → g (out-Node (stripped t)) ≡ g (out-Node t)) (
    λ s f h. ap (λ t. g (out-Node t)) (search (rules, the_lemmas)),
    λ x s f h. ap (λ t. g (out-Node t)) (search (rules, the_lemmas)),
    λ w s f h. ap (λ t. g (out-Node t)) (search (rules, the_lemmas)),
    λ x s f h. ap (λ t. g (out-Node t)) (search (rules, the_lemmas)),
    λ r s f h. ap (λ t. g (out-Node t)) (search (rules, the_lemmas)),
    λ k i s f h. ap (λ t. g (out-Node t)) (search (rules, the_lemmas)),
  )
      (λ ts b s f h. ap (λ t. g (out-Node t)) (stripped_of_list ts) ∙ ap g (outs-List (map stripped ts)) ∙ lists (map stripped ts) ∙ sym (ap g (outs-List ts) ∙ lists ts))
      (λ k ts b s f h. of_tree k ts s (is_pair_kind k) refl f h ∙ sym (ap g (outs-Tree k ts))) t

given_kept : (g : Node-F Node → Bool) → ((c : Node) (s : Slot) → Fits c s → IsTrue (all_bare c) → g (out-Node (stripped c)) ≡ g (out-Node c)) → (k : Kind) (ts : List Node) (i : ℕ) → FieldsFit (slots_of k) ts → Bares ts
    → given (slice_get (map stripped ts) i) false (λ c. g (out-Node c)) ≡ given (slice_get ts i) false (λ c. g (out-Node c))
given_kept g h k ts i f b = ap (λ o. given o false (λ c. g (out-Node c))) (slice_get-map stripped ts i) ∙ at (slice_get ts i) refl
  where
    at : (o : Option Node) → slice_get ts i ≡ o → given (option_map stripped o) false (λ c. g (out-Node c)) ≡ given o false (λ c. g (out-Node c))
    at None e = refl
    at (Some c) e = let (x, z, fit) = field_at (fields_of k) ts i c f e in h c x.1 fit (bare_at ts i c b e)

rest_expression : (k : Kind) (ts : List Node) → IsTrue (belongs k class.Expr) → is_rest_or_default (Node-F.Tree k ts) ≡ false
rest_expression kind.RestPat ts h = absurd (cc)
rest_expression kind.AssignPat ts h = absurd (cc)
rest_expression _ ts h = refl

rest_row : (k : Kind) (us ts : List Node) → is_rest_or_default (Node-F.Tree k us) ≡ is_rest_or_default (Node-F.Tree k ts)
rest_row kind.RestPat us ts = refl
rest_row kind.AssignPat us ts = refl
rest_row _ us ts = refl

rest_rows : (k : Kind) (ts : List Node) → is_pair_kind k ≡ false → FieldsFit (slots_of k) ts → Bares ts → is_rest_or_default (out-Node (stripped (Tree k ts))) ≡ is_rest_or_default (Node-F.Tree k ts)
rest_rows k ts h f b = let (us, is) = tree_stays k ts h in ap (λ t. is_rest_or_default (out-Node t)) is ∙ ap is_rest_or_default (outs-Tree k us) ∙ rest_row k us ts

rest_kept : (t : Node) (s : Slot) → Fits t s → IsTrue (all_bare t) → is_rest_or_default (out-Node (stripped t)) ≡ is_rest_or_default (out-Node t)
rest_kept = looks is_rest_or_default (λ k i. refl) (λ ts. refl) rest_expression rest_rows

parameter_expression : (k : Kind) (ts : List Node) → IsTrue (belongs k class.Expr) → parameter_is_rest_or_default (Node-F.Tree k ts) ≡ false
parameter_expression kind.Param ts h = absurd (cc)
parameter_expression _ ts h = refl

parameter_rows : (k : Kind) (ts : List Node) → is_pair_kind k ≡ false → FieldsFit (slots_of k) ts → Bares ts → parameter_is_rest_or_default (out-Node (stripped (Tree k ts))) ≡ parameter_is_rest_or_default (Node-F.Tree k ts)
parameter_rows kind.Param ts h f b =
    ap (λ t. parameter_is_rest_or_default (out-Node t)) (stripped_other kind.Param ts refl) ∙ ap parameter_is_rest_or_default (outs-Tree kind.Param (map stripped ts)) ∙ given_kept is_rest_or_default rest_kept kind.Param ts param.PAT f b
parameter_rows k ts h f b = let (us, is) = tree_stays k ts h in ap (λ t. parameter_is_rest_or_default (out-Node t)) is ∙ ap parameter_is_rest_or_default (outs-Tree k us)

parameter_kept : (t : Node) (s : Slot) → Fits t s → IsTrue (all_bare t) → parameter_is_rest_or_default (out-Node (stripped t)) ≡ parameter_is_rest_or_default (out-Node t)
parameter_kept = looks parameter_is_rest_or_default (λ k i. refl) (λ ts. refl) parameter_expression parameter_rows

abbrev is_such : Node → Bool
is_such c = parameter_is_rest_or_default (out-Node c)

any_kept : (s : Slot) (ts : List Node) → AllFit s ts → Bares ts → list_any is_such (map stripped ts) ≡ list_any is_such ts
any_kept s [] f b = refl
any_kept s (t ∷ ts) f b =
    let p = both_are (all_bare t) (list_all all_bare ts) b in
    ap (λ x. x || list_any is_such (map stripped ts)) (parameter_kept t s f.0 p.0) ∙ ap (λ x. is_such t || x) (any_kept s ts f.1 p.1)

items_kept : (t : Node) → Fits t (slot.List (content.Node class.Param)) → IsTrue (all_bare t) → list_any is_such (items_in (out-Node (stripped t))) ≡ list_any is_such (items_in (out-Node t))
items_kept t f b =
    let l = listed t (content.Node class.Param) f in
    let bares : Bares l.items = sym (bare_of_list l.items) ∙ subst (λ t. IsTrue (all_bare t)) l.is b in
    ap (λ t. list_any is_such (items_in (out-Node (stripped t)))) l.is ∙ ap (λ t. list_any is_such (items_in (out-Node t))) (stripped_of_list l.items)
    ∙ ap (λ y. list_any is_such (items_in y)) (outs-List (map stripped l.items)) ∙ any_kept (slot.One (content.Node class.Param)) l.items l.fit bares
    ∙ sym (ap (λ t. list_any is_such (items_in (out-Node t))) l.is ∙ ap (λ y. list_any is_such (items_in y)) (outs-List l.items))

function_fields : (ts : List Node) → FieldsFit (slots_of kind.Function) ts → Bares ts → function_has_rest_or_default (Node-F.Tree kind.Function (map stripped ts)) ≡ function_has_rest_or_default (Node-F.Tree kind.Function ts)
function_fields [] f b = absurd f
function_fields (x ∷ []) f b = absurd f.1
function_fields (x ∷ p ∷ ts) f b =
    let q = both_are (all_bare x) (list_all all_bare (p ∷ ts)) b in
    items_kept p f.1.0 (both_are (all_bare p) (list_all all_bare ts) q.1).0

function_expression : (k : Kind) (ts : List Node) → IsTrue (belongs k class.Expr) → function_has_rest_or_default (Node-F.Tree k ts) ≡ false
function_expression kind.Function ts h = absurd (cc)
function_expression _ ts h = refl

function_rows : (k : Kind) (ts : List Node) → is_pair_kind k ≡ false → FieldsFit (slots_of k) ts → Bares ts → function_has_rest_or_default (out-Node (stripped (Tree k ts))) ≡ function_has_rest_or_default (Node-F.Tree k ts)
function_rows kind.Function ts h f b =
    ap (λ t. function_has_rest_or_default (out-Node t)) (stripped_other kind.Function ts refl) ∙ ap function_has_rest_or_default (outs-Tree kind.Function (map stripped ts)) ∙ function_fields ts f b
function_rows k ts h f b = let (us, is) = tree_stays k ts h in ap (λ t. function_has_rest_or_default (out-Node t)) is ∙ ap function_has_rest_or_default (outs-Tree k us)

function_kept : (t : Node) (s : Slot) → Fits t s → IsTrue (all_bare t) → function_has_rest_or_default (out-Node (stripped t)) ≡ function_has_rest_or_default (out-Node t)
function_kept = looks function_has_rest_or_default (λ k i. refl) (λ ts. refl) function_expression function_rows

uses_kept : (k : Kind) (ts : List Node) → FieldsFit (slots_of k) ts → Bares ts → uses_own_name (Node-F.Tree k (map stripped ts)) ≡ uses_own_name (Node-F.Tree k ts)
uses_kept kind.FnDecl ts f b = given_kept function_has_rest_or_default function_kept kind.FnDecl ts fn_decl.FUNCTION f b
uses_kept kind.FnExpr ts f b = given_kept function_has_rest_or_default function_kept kind.FnExpr ts fn_decl.FUNCTION f b
uses_kept _ ts f b = refl

pub own_kept : (k : Kind) (ts : List Node) → FieldsFit (slots_of k) ts → Bares ts → (i : ℕ) → own_name_below k (map stripped ts) i ≡ own_name_below k ts i
own_kept k ts f b i =
    ap (λ x. cond (i == fn_decl.FUNCTION && x) (name_of (slice_get (map stripped ts) 0)) None) (uses_kept k ts f b) ∙ ap (λ o. cond (i == fn_decl.FUNCTION && uses_own_name (Node-F.Tree k ts)) o None) (name_first k ts f)

pub identifier_kept : (k : Kind) (ts : List Node) → FieldsFit (slots_of k) ts → has_identifier (map stripped ts) ≡ has_identifier ts
identifier_kept k ts f = ap is_some (name_first k ts f)

-- ---- what is there, and the keyword

pub keyword_kept : (fs : List Field) (ts : List Node) → Bares ts → FieldsFit (map (λ f. f.1) fs) ts → by_keyword (map stripped ts) ≡ by_keyword ts
keyword_kept [] [] b f = refl
keyword_kept [] (t ∷ ts) b f = absurd f
keyword_kept (x ∷ fs) [] b f = absurd f
keyword_kept (x ∷ fs) (t ∷ ts) b f =
    let z = both_are (all_bare t) (list_all all_bare ts) b in
    ap (keyword_in (out-Node (stripped t))) (keyword_kept fs ts z.1 f.1)
    ∙ looks_alike (λ y. keyword_in y (by_keyword ts)) (by_keyword ts) (λ k ts. refl) (λ ts. refl) (λ k i. refl) t x.1 f.0 z.0

pub there_kept : (fs : List Field) (ts : List Node) (i : ℕ) → Bares ts → FieldsFit (map (λ f. f.1) fs) ts → is_there (slice_get (map stripped ts) i) ≡ is_there (slice_get ts i)
there_kept fs ts i b f = ap is_there (slice_get-map stripped ts i) ∙ at (slice_get ts i) refl
  where
    at : (o : Option Node) → slice_get ts i ≡ o → is_there (option_map stripped o) ≡ is_there o
    at None e = refl
    at (Some c) e = let (x, z, fit) = field_at fs ts i c f e in ap not (looks_alike absent_in false (λ k ts. refl) (λ ts. refl) (λ k i. refl) c x.1 fit (bare_at ts i c b e))
