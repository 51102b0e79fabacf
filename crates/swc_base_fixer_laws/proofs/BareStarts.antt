-- In the answer to what can be written down no assignment's target stands in a pair, so a second run gives it again.
use Rattle.std.proofs.Common.{◌≡◌, Bool, true, false, not, ◌&&◌, List, [], ◌∷◌, map, refl, sym, ap, ◌∙◌, rules, true≢false}
use Rattle.std.specs.Prelude.{if◌then◌else◌}
use Rattle.std.specs.List.{list_all}
use Rattle.swc_tree_node.specs.declared.kind.Kind.{Kind}
use Rattle.swc_tree_node.specs.declared.kind.Kind.TheVariants as kind
use Rattle.swc_tree_node.specs.declared.kind.Class.TheVariants as class
use Rattle.swc_tree_node.specs.declared.slot.Slot.{Slot}
use Rattle.swc_tree_node.specs.declared.node.Node.{Node, Absent, Flag, Word, Text, Span, List as Many, Identifier, Tree, fold-Node, out-Node, the_lemmas}
use Rattle.swc_tree_node.specs.declared.node.Node.TheVariants.{rolls-Tree}
use Rattle.swc_tree_node.specs.declared.node.Node.TheOpen.{Node-F}
use Rattle.swc_tree_node.specs.Table.{slots_of}
use Rattle.swc_tree_node.specs.Fits.{Fits, FieldsFit, belongs}
use Rattle.swc_tree_node.proofs.Fit.{fits-List, tree_opens}
use Rattle.swc_tree_grammar.specs.Kinds.{has_kind, is_paren, is_block, is_object_pattern}
use Rattle.swc_tree_grammar.specs.Forms.{holds}
use Rattle.swc_tree_grammar.specs.Grammar.{may_begin_statement, may_begin_export, may_begin_body}
use Rattle.swc_tree_grammar.specs.Stripped.{stripped, is_pairless}
use Rattle.swc_tree_grammar.specs.Blocks.{with_blocks}
use Rattle.swc_tree_grammar.specs.Writable.{Writable}
use Rattle.swc_tree_grammar.specs.Starts.{Start, Begun, start, start_in, start_step, is_let_in, is_computed_in, is_let_bracket}
use Rattle.swc_tree_grammar.specs.Starts.Start.{LetBracket, Other}
use Rattle.swc_tree_grammar.specs.Due.{Places, pair, first_in, begun, begin_step, paired_by_level, paired_in_heads, paired_at_starts, with_due_pairs}
use Rattle.swc_tree_grammar.proofs.Induction.{Each, by_children}
use Rattle.swc_tree_grammar.proofs.Kept.{stripped_fits}
use Rattle.swc_tree_grammar.proofs.BlocksKept.{blocks_fit}
use Rattle.swc_tree_grammar.proofs.Pairless.{unparened_pairless}
use Rattle.swc_tree_grammar.proofs.Places.{one, stands}
use Rattle.swc_tree_grammar_laws.proofs.Blocked.{Somewhere, fields_fit, items_fit, no}
use Rattle.swc_tree_grammar_laws.proofs.Levelled.{both, half}
use Rattle.swc_tree_grammar_laws.proofs.Begins.{spined, first_paired, spine_whole, first_of_tree, first_empty, first_of_list, start_tree, start_list, starts_of_tree, starts_of_list}
use Rattle.swc_base_fixer_laws.specs.Targets.{bare_target_in, has_bare_targets}
use Rattle.swc_base_fixer_laws.specs.Laws.{SecondRunChangesNothing, TargetsStayBare}
use Rattle.swc_base_fixer_laws.proofs.BareHeads.{each_bare, node, heads_bare}
use Rattle.swc_base_fixer_laws.proofs.BareLevels.{Bare, bare_list, bare_parts, bare_pair, levels_set_bare}
use Rattle.swc_base_fixer_laws.proofs.Blocking.{blocks_keep_writable}
use Rattle.swc_base_fixer_laws.proofs.Fixed.{targets_stand_bare, stripping_keeps_writable}
use Rattle.swc_base_fixer_laws.proofs.FitsKept.{fits_kept}
use Rattle.swc_base_fixer_laws.proofs.PlacedAgain.{spans_stay}
use Rattle.swc_base_fixer_laws.proofs.PlainMembers.{is_plain, plain_tree, plain_list, plain_object, plain_kept, written_is_plain}
use Rattle.swc_base_fixer_laws.proofs.SetsHeads.{heads_set}
use Rattle.swc_base_fixer_laws.proofs.SetsRows.{levels_set}
use Rattle.swc_base_fixer_laws.proofs.Starts.{starts_set}
use Rattle.swc_base_fixer_laws.proofs.Up.{kind_of_tree}

-- a tree of the table, whose targets are bare and none of whose members is one of the name `let`
record Good (t : Node) : Type 0 where
  bare : Bare t
  plain : is_plain t ≡ true
  place : Slot
  fits : Fits t place

each_good : (ts : List Node) → list_all has_bare_targets ts ≡ true → list_all is_plain ts ≡ true → Each Somewhere ts → Each Good ts
each_good [] h g f = tt
each_good (t ∷ ts) h g f =
    let p = both (has_bare_targets t) (list_all has_bare_targets ts) h in let q = both (is_plain t) (list_all is_plain ts) g in
    (record { bare = p.0; plain = q.0; place = f.0.0; fits = f.0.1 }, each_good ts p.1 q.1 f.1)

fields_good : (k : Kind) (ts : List Node) → Good (Tree k ts) → Each Good ts
fields_good k ts g = each_good ts (bare_parts k ts g.bare).1 (half (sym (plain_tree k ts) ∙ g.plain)).1 (fields_fit (slots_of k) ts (stands k ts g.place g.fits).fields)

items_good : (ts : List Node) → Good (Many ts) → Each Good ts
items_good ts g = each_good ts (sym (bare_list ts) ∙ g.bare) (sym (plain_list ts) ∙ g.plain) (items_fit g.place ts (sym (fits-List ts g.place) ∙ g.fits))

bares : (ts : List Node) → Each Good ts → Each Bare ts
bares [] g = tt
bares (t ∷ ts) g = (g.0.bare, bares ts g.1)

-- the token that comes first
abbrev is_other : Start → Bool
is_other Other = true
is_other _ = false

abbrev begun_of : Node → Begun
begun_of = fold-Node Begun start_step

not_first : (b : Bool) (x : Start) → is_other (if b then Other else x) ≡ false → is_other x ≡ false
not_first true x h = absurd (cc)
not_first false x h = h

bracket_if : (b : Bool) (x : Start) → b ≡ false → is_other (if b then LetBracket else x) ≡ false → is_other x ≡ false
bracket_if true x e h = absurd (cc)
bracket_if false x e h = h

choose : (b : Bool) (p : Places) (t u : Node) → Bare t → (b ≡ false → Bare u) → Bare (if b then pair p t else u)
choose true p t u h f = bare_pair p t h
choose false p t u h f = f refl

-- an assignment's target that begins as its place forbids is a member, and gets no pair itself
no_bracket : (s o m : Node) → is_plain (Tree kind.MemberExpr (s ∷ o ∷ m ∷ [])) ≡ true → is_let_bracket (Tree kind.MemberExpr (s ∷ o ∷ m ∷ [])) ≡ false
no_bracket s o m h =
    let e : is_let_bracket (Tree kind.MemberExpr (s ∷ o ∷ m ∷ [])) ≡ (is_let_in (out-Node o) && is_computed_in (out-Node m)) = search (rules, the_lemmas) in e ∙ rw (plain_object s o m h) refl

member_if : (b : Bool) (p : Places) (us vs : List Node) → b ≡ false → has_kind is_paren (if b then pair p (Tree kind.MemberExpr us) else Tree kind.MemberExpr vs) ≡ false
member_if true p us vs e = absurd (cc)
member_if false p us vs e = kind_of_tree is_paren kind.MemberExpr vs

target_row : (p : Places) (k : Kind) (ts : List Node) → belongs k class.AssignTarget ≡ true → is_object_pattern k ≡ false → is_other (start_in (Tree k ts) (Node-F.Tree k (map begun_of ts))) ≡ false → is_plain (Tree k ts) ≡ true
    → has_kind is_paren (first_in p (Tree k ts) (Node-F.Tree k (map (spined p) ts))) ≡ false
target_row p kind.MemberExpr (s ∷ o ∷ m ∷ []) c n h g = member_if (is_let_bracket (Tree kind.MemberExpr (s ∷ o ∷ m ∷ []))) p (s ∷ o ∷ m ∷ []) _ (no_bracket s o m g)
target_row p kind.MemberExpr ts c n h g = absurd (cc)
target_row p kind.ObjectPat ts c n h g = absurd (true≢false n)
target_row p kind.SuperPropExpr ts c n h g = absurd (cc)
target_row p kind.BindingIdent ts c n h g = absurd (cc)
target_row p kind.ArrayPat ts c n h g = absurd (cc)
target_row p kind.ParenExpr ts c n h g = absurd (cc)
target_row p k ts c n h g = absurd (true≢false (sym c))

other_leaf : (p : Places) (t : Node) → is_other (start t) ≡ true → is_other (start t) ≡ false → has_kind is_paren (first_paired p t) ≡ false
other_leaf p t e h = absurd (cc)

target_first : (p : Places) (t : Node) → Fits t (one class.AssignTarget) → has_kind is_object_pattern t ≡ false → is_plain t ≡ true → is_other (start t) ≡ false → has_kind is_paren (first_paired p t) ≡ false
target_first p t = by_children (λ t. Fits t (one class.AssignTarget) → has_kind is_object_pattern t ≡ false → is_plain t ≡ true → is_other (start t) ≡ false → has_kind is_paren (first_paired p t) ≡ false)
    (λ f n g. other_leaf p Absent (search (rules, the_lemmas)), λ x f n g. other_leaf p (Flag x) (search (rules, the_lemmas)), λ w f n g. other_leaf p (Word w) (search (rules, the_lemmas)), λ x f n g. other_leaf p (Text x) (search (rules, the_lemmas)), λ s f n g. other_leaf p (Span s) (search (rules, the_lemmas)), λ k i f n g. other_leaf p (Identifier k i) (search (rules, the_lemmas)))
    (λ ts l f n g h. absurd (no (sym (fits-List ts (one class.AssignTarget)) ∙ f)))
    (λ k ts l f n g h. ap (has_kind is_paren) (first_of_tree p k ts) ∙ target_row p k ts (tree_opens k ts class.AssignTarget f).1 (sym (kind_of_tree is_object_pattern k ts) ∙ n) (sym (ap is_other (start_tree k ts)) ∙ h) g) t

-- the pair round what comes first
abbrev First : Places → Node → Type 0
First p t = Good t → is_other (start t) ≡ false → Bare (first_paired p t)

first_row : (p : Places) (k : Kind) (ts : List Node) → Each (First p) ts → Each Good ts → FieldsFit (slots_of k) ts → is_other (start_in (Tree k ts) (Node-F.Tree k (map begun_of ts))) ≡ false → Bare (Tree k ts)
    → Bare (first_in p (Tree k ts) (Node-F.Tree k (map (spined p) ts)))
first_row p kind.SeqExpr (s ∷ e ∷ []) l q x h g = rw (spine_whole p s) (node kind.SeqExpr (s ∷ first_paired p e ∷ []) refl (q.0.bare, (l.1.0 q.1.0 h, tt)))
first_row p kind.AssignExpr (s ∷ o ∷ f ∷ r ∷ []) l q x h g =
    rw (spine_whole p s, spine_whole p o, spine_whole p f, spine_whole p r)
    (choose (has_kind is_object_pattern f) p (Tree kind.AssignExpr (s ∷ o ∷ f ∷ r ∷ [])) (Tree kind.AssignExpr (s ∷ o ∷ first_paired p f ∷ r ∷ [])) g
    (λ e. node kind.AssignExpr (s ∷ o ∷ first_paired p f ∷ r ∷ []) (ap not (target_first p f x.1.1.0 e q.1.1.0.plain h)) (q.0.bare, (q.1.0.bare, (l.1.1.0 q.1.1.0 h, (q.1.1.1.0.bare, tt))))))
first_row p kind.CondExpr (s ∷ o ∷ f ∷ r ∷ []) l q x h g =
    rw (spine_whole p s, spine_whole p f, spine_whole p r) (node kind.CondExpr (s ∷ first_paired p o ∷ f ∷ r ∷ []) refl (q.0.bare, (l.1.0 q.1.0 h, (q.1.1.0.bare, (q.1.1.1.0.bare, tt)))))
first_row p kind.BinExpr (s ∷ o ∷ f ∷ r ∷ []) l q x h g =
    rw (spine_whole p s, spine_whole p o, spine_whole p r) (node kind.BinExpr (s ∷ o ∷ first_paired p f ∷ r ∷ []) refl (q.0.bare, (q.1.0.bare, (l.1.1.0 q.1.1.0 h, (q.1.1.1.0.bare, tt)))))
first_row p kind.UpdateExpr (s ∷ o ∷ f ∷ r ∷ []) l q x h g =
    rw (spine_whole p s, spine_whole p o, spine_whole p f)
    (node kind.UpdateExpr (s ∷ o ∷ f ∷ first_paired p r ∷ []) refl (q.0.bare, (q.1.0.bare, (q.1.1.0.bare, (l.1.1.1.0 q.1.1.1.0 (not_first (holds (begun_of f).whole) (start r) h), tt)))))
first_row p kind.MemberExpr (s ∷ o ∷ m ∷ []) l q x h g =
    rw (spine_whole p s, spine_whole p m)
    (choose (is_let_bracket (Tree kind.MemberExpr (s ∷ o ∷ m ∷ []))) p (Tree kind.MemberExpr (s ∷ o ∷ m ∷ [])) (Tree kind.MemberExpr (s ∷ first_paired p o ∷ m ∷ [])) g
    (λ e. node kind.MemberExpr (s ∷ first_paired p o ∷ m ∷ []) refl (q.0.bare, (l.1.0 q.1.0 (bracket_if (is_let_bracket (Tree kind.MemberExpr (s ∷ o ∷ m ∷ []))) (start o) e h), (q.1.1.0.bare, tt)))))
first_row p kind.TaggedTpl (s ∷ o ∷ m ∷ []) l q x h g = rw (spine_whole p s, spine_whole p m) (node kind.TaggedTpl (s ∷ first_paired p o ∷ m ∷ []) refl (q.0.bare, (l.1.0 q.1.0 h, (q.1.1.0.bare, tt))))
first_row p kind.CallExpr (s ∷ o ∷ m ∷ []) l q x h g = rw (spine_whole p s, spine_whole p m) (node kind.CallExpr (s ∷ first_paired p o ∷ m ∷ []) refl (q.0.bare, (l.1.0 q.1.0 h, (q.1.1.0.bare, tt))))
first_row p kind.OptChainExpr (s ∷ o ∷ m ∷ []) l q x h g =
    rw (spine_whole p s, spine_whole p o)
    (choose (has_kind is_paren (first_paired p m)) p (Tree kind.OptChainExpr (s ∷ o ∷ m ∷ [])) (Tree kind.OptChainExpr (s ∷ o ∷ first_paired p m ∷ [])) g
    (λ e. node kind.OptChainExpr (s ∷ o ∷ first_paired p m ∷ []) refl (q.0.bare, (q.1.0.bare, (l.1.1.0 q.1.1.0 (not_first (holds (begun_of o).whole && is_let_bracket (begun_of m).whole) (start m) h), tt)))))
first_row p kind.OptCall (s ∷ o ∷ m ∷ []) l q x h g = rw (spine_whole p s, spine_whole p m) (node kind.OptCall (s ∷ first_paired p o ∷ m ∷ []) refl (q.0.bare, (l.1.0 q.1.0 h, (q.1.1.0.bare, tt))))
first_row p k ts l q x h g = bare_pair p (Tree k ts) g

first_leaf : (p : Places) (t : Node) → first_paired p t ≡ pair p t → First p t
first_leaf p t e g h = rw e (bare_pair p t g.bare)

items : (ts : List Node) → Each Bare ts → Bare (Many ts)
items ts l = bare_list ts ∙ each_bare ts l

first_list : (p : Places) (ts : List Node) → Each (First p) ts → First p (Many ts)
first_list p [] l g h = first_leaf p (Many []) (first_empty p) g h
first_list p (t ∷ ts) l g h = let q = items_good (t ∷ ts) g in ap has_bare_targets (first_of_list p t ts) ∙ items (first_paired p t ∷ ts) (l.0 q.0 (sym (ap is_other (start_list t ts)) ∙ h), bares ts q.1)

first_bare : (p : Places) (t : Node) → First p t
first_bare p t = by_children (First p)
    (first_leaf p Absent (search (rules, the_lemmas)), λ x. first_leaf p (Flag x) (search (rules, the_lemmas)), λ w. first_leaf p (Word w) (search (rules, the_lemmas)), λ x. first_leaf p (Text x) (search (rules, the_lemmas)), λ s. first_leaf p (Span s) (search (rules, the_lemmas)), λ k i. first_leaf p (Identifier k i) (search (rules, the_lemmas)))
    (λ ts l. first_list p ts l)
    (λ k ts l g h. ap has_bare_targets (first_of_tree p k ts) ∙ first_row p k ts l (fields_good k ts g) (stands k ts g.place g.fits).fields (sym (ap is_other (start_tree k ts)) ∙ h) g.bare) t

-- the places that ask
abbrev Lenient : (Start → Bool) → Type 0
Lenient may = (x : Start) → may x ≡ false → is_other x ≡ false

statement_lenient : Lenient may_begin_statement
statement_lenient Other h = absurd (cc)
statement_lenient x h = refl

export_lenient : Lenient may_begin_export
export_lenient Other h = absurd (cc)
export_lenient x h = refl

body_lenient : Lenient may_begin_body
body_lenient Other h = absurd (cc)
body_lenient x h = refl

begun_if : (b : Bool) (p : Places) (may : Start → Bool) (e : Node) → Lenient may → may (start e) ≡ b → Good e → Bare (if b then e else first_paired p e)
begun_if true p may e n h g = g.bare
begun_if false p may e n h g = first_bare p e g (n (start e) h)

begun_bare : (p : Places) (may : Start → Bool) (e : Node) → Lenient may → Good e → Bare (begun p may e)
begun_bare p may e n g = begun_if (may (start e)) p may e n refl g

body_if : (b : Bool) (p : Places) (e : Node) → Good e → Bare (if b then e else begun p may_begin_body e)
body_if true p e g = g.bare
body_if false p e g = begun_bare p may_begin_body e body_lenient g

-- a node keeps its kind
kind_row : (p : Places) (k : Kind) (us : List Node) → has_kind is_paren (begin_step p (Node-F.Tree k us)) ≡ is_paren k
kind_row p kind.ExprStmt (s ∷ e ∷ []) = kind_of_tree is_paren kind.ExprStmt _
kind_row p kind.ExportDefaultExpr (s ∷ e ∷ []) = kind_of_tree is_paren kind.ExportDefaultExpr _
kind_row p kind.ArrowExpr (s ∷ a ∷ e ∷ f ∷ []) = kind_of_tree is_paren kind.ArrowExpr _
kind_row p k us = ap (has_kind is_paren) (rolls-Tree k us) ∙ kind_of_tree is_paren k us

start_kind : (p : Places) (t : Node) → has_kind is_paren (paired_at_starts p t) ≡ has_kind is_paren t
start_kind p t = by_children (λ t. has_kind is_paren (paired_at_starts p t) ≡ has_kind is_paren t)
    (search (rules, the_lemmas), λ x. search (rules, the_lemmas), λ w. search (rules, the_lemmas), λ x. search (rules, the_lemmas), λ s. search (rules, the_lemmas), λ k i. search (rules, the_lemmas))
    (λ ts l. search (rules, the_lemmas))
    (λ k ts l. ap (has_kind is_paren) (starts_of_tree p k ts) ∙ kind_row p k (map (paired_at_starts p) ts) ∙ sym (kind_of_tree is_paren k ts)) t

-- every node
begin_row : (p : Places) (k : Kind) (us : List Node) → bare_target_in (Node-F.Tree k us) ≡ true → Each Good us → Bare (begin_step p (Node-F.Tree k us))
begin_row p kind.ExprStmt (s ∷ e ∷ []) b g = node kind.ExprStmt (s ∷ begun p may_begin_statement e ∷ []) refl (g.0.bare, (begun_bare p may_begin_statement e statement_lenient g.1.0, tt))
begin_row p kind.ExportDefaultExpr (s ∷ e ∷ []) b g = node kind.ExportDefaultExpr (s ∷ begun p may_begin_export e ∷ []) refl (g.0.bare, (begun_bare p may_begin_export e export_lenient g.1.0, tt))
begin_row p kind.ArrowExpr (s ∷ a ∷ e ∷ f ∷ []) b g = node kind.ArrowExpr (s ∷ a ∷ (if has_kind is_block e then e else begun p may_begin_body e) ∷ f ∷ []) refl (g.0.bare, (g.1.0.bare, (body_if (has_kind is_block e) p e g.1.1.0, (g.1.1.1.0.bare, tt))))
begin_row p k us b g = rw (rolls-Tree k us) (node k us b (bares us g))

top_row : (p : Places) (k : Kind) (ts : List Node) → bare_target_in (Node-F.Tree k (map (paired_at_starts p) ts)) ≡ bare_target_in (Node-F.Tree k ts)
top_row p kind.AssignExpr (s ∷ o ∷ f ∷ r ∷ []) = ap not (start_kind p f)
top_row p k ts = refl

abbrev Started : Places → Node → Type 0
Started p t = Good t → Bare (paired_at_starts p t)

all_started : (p : Places) (ts : List Node) → Each (Started p) ts → Each Good ts → Each Good (map (paired_at_starts p) ts)
all_started p [] l g = tt
all_started p (t ∷ ts) l g = let x = g.0 in let d = starts_set p t x.place x.fits in (record { bare = l.0 x; plain = plain_kept d x.plain; place = x.place; fits = fits_kept d x.fits }, all_started p ts l.1 g.1)

starts_bare : (p : Places) (t : Node) → Started p t
starts_bare p t = by_children (Started p)
    (λ g. search (rules, the_lemmas), λ x g. search (rules, the_lemmas), λ w g. search (rules, the_lemmas), λ x g. search (rules, the_lemmas), λ s g. search (rules, the_lemmas), λ k i g. search (rules, the_lemmas))
    (λ ts l g. (let us = map (paired_at_starts p) ts in ap has_bare_targets (starts_of_list p ts) ∙ items us (bares us (all_started p ts l (items_good ts g)))))
    (λ k ts l g. ap has_bare_targets (starts_of_tree p k ts) ∙ begin_row p k (map (paired_at_starts p) ts) (top_row p k ts ∙ (bare_parts k ts g.bare).0) (all_started p ts l (fields_good k ts g))) t

due_bare : (p : Places) (t : Node) (s : Slot) → Fits t s → is_pairless t ≡ true → Writable t → Bare (with_due_pairs p t)
due_bare p t s f n w =
    let u = paired_by_level p t in let c = levels_set p t s f in let g = fits_kept c f in let d = heads_set p u s g in
    starts_bare p (paired_in_heads p u) (record { bare = heads_bare p u s g (levels_set_bare p t n) true; plain = plain_kept d (plain_kept c (written_is_plain t s f w)); place = s; fits = fits_kept d g })

-- the answer
pub targets_stay_bare : TargetsStayBare
targets_stay_bare p t s o f w =
    let u = with_blocks (stripped t) in let g = stripped_fits t s (targets_stand_bare t s f w) o f in
    due_bare p u s (blocks_fit (stripped t) s g) (unparened_pairless t u s refl f) (blocks_keep_writable (stripped t) s g (stripping_keeps_writable t s f w))

pub second_run_changes_nothing : SecondRunChangesNothing
second_run_changes_nothing p t s o f w = spans_stay p t s o f (targets_stand_bare t s f w) (targets_stay_bare p t s o f w)
