-- The name `async` before `of` as the expression that its pair makes of it, and the functions that keep what is seen.
use Rattle.std.proofs.Common.{◌≡◌, Bool, true, false, not, ◌&&◌, List, [], ◌∷◌, map, refl, sym, ap, ◌∙◌, rules, true≢false}
use Rattle.std.specs.Prelude.{if◌then◌else◌}
use Rattle.std.specs.List.{list_all}
use Rattle.swc_tree_marks.specs.declared.ident.Ident.{Ident}
use Rattle.swc_tree_node.specs.declared.kind.Kind.{Kind}
use Rattle.swc_tree_node.specs.declared.kind.Kind.TheVariants as kind
use Rattle.swc_tree_node.specs.declared.node.Node.{Node, Absent, Flag, Word, Text, Span, List as Many, Identifier, Tree, out-Node, the_lemmas}
use Rattle.swc_tree_node.specs.declared.node.Node.TheVariants.{rolls-Tree}
use Rattle.swc_tree_node.specs.declared.node.Node.TheOpen.{Node-F}
use Rattle.swc_tree_node.specs.Table.{is_identifier}
use Rattle.swc_tree_grammar.specs.Forms.{holds}
use Rattle.swc_tree_grammar.specs.Grammar.{is_async_name}
use Rattle.swc_tree_grammar.specs.Spanless.{spanless}
use Rattle.swc_tree_grammar.specs.Blocks.{with_blocks, block_step, branch, block, takes_else, span_of, no_span}
use Rattle.swc_tree_grammar.specs.Normal.{written_out, written_step, as_pattern, pattern_in}
use Rattle.swc_base_fixer_laws.specs.Named.{expression_in, named_fields, named}
use Rattle.swc_tree_grammar.proofs.Induction.{Each, by_children}
use Rattle.swc_tree_grammar.proofs.Walks.{blocks_of_tree, blocks_of_list}
use Rattle.swc_tree_grammar_laws.proofs.Every.{every_tree, every_list}
use Rattle.swc_tree_grammar_laws.proofs.Levelled.{both, also_both}
use Rattle.swc_base_fixer_laws.proofs.NormalKeptBlocks.{each_same, map_after, written_of_tree, written_of_list}
use Rattle.swc_base_fixer_laws.proofs.AgainStill.{still, still_in}
use Rattle.swc_base_fixer_laws.proofs.AgainMapped.{Mapped, is_changed, still_mapped}

pub named_of_tree : (k : Kind) (ts : List Node) → named (Tree k ts) ≡ Tree k (named_fields k (map named ts))
named_of_tree k ts = search (rules, the_lemmas)

pub named_of_list : (ts : List Node) → named (Many ts) ≡ Many (map named ts)
named_of_list ts = search (rules, the_lemmas)

named_other : (k : Kind) (us : List Node) → is_changed k ≡ false → named_fields k us ≡ us
named_other kind.ForOfStmt us e = absurd (cc)
named_other k us e = refl

pub named_mapped : Mapped named named_fields
named_mapped = record {
  spans = λ s. s;
  idents = λ i. i;
  same_text = λ i. refl;
  absent = search (rules, the_lemmas);
  flag = λ x. search (rules, the_lemmas);
  word = λ w. search (rules, the_lemmas);
  text = λ x. search (rules, the_lemmas);
  span = λ s. search (rules, the_lemmas);
  list = named_of_list;
  name = λ k i. search (rules, the_lemmas);
  tree = named_of_tree;
  other = named_other;
}

-- blocks
abbrev pub block_fields : Kind → List Node → List Node
block_fields kind.IfStmt (span ∷ test ∷ cons ∷ alt ∷ []) = span ∷ test ∷ branch cons ∷ alt ∷ []
block_fields k ts = ts

block_row : (k : Kind) (us : List Node) → block_step (Node-F.Tree k us) ≡ Tree k (block_fields k us)
block_row kind.IfStmt (s ∷ t ∷ c ∷ a ∷ []) = refl
block_row k us = rolls-Tree k us

pub blocks_fields : (k : Kind) (ts : List Node) → with_blocks (Tree k ts) ≡ Tree k (block_fields k (map with_blocks ts))
blocks_fields k ts = blocks_of_tree k ts ∙ block_row k (map with_blocks ts)

block_other : (k : Kind) (us : List Node) → is_changed k ≡ false → block_fields k us ≡ us
block_other kind.IfStmt us e = absurd (cc)
block_other k us e = refl

pub blocks_mapped : Mapped with_blocks block_fields
blocks_mapped = record {
  spans = λ s. s;
  idents = λ i. i;
  same_text = λ i. refl;
  absent = search (rules, the_lemmas);
  flag = λ x. search (rules, the_lemmas);
  word = λ w. search (rules, the_lemmas);
  text = λ x. search (rules, the_lemmas);
  span = λ s. search (rules, the_lemmas);
  list = blocks_of_list;
  name = λ k i. search (rules, the_lemmas);
  tree = blocks_fields;
  other = block_other;
}

-- spans
abbrev pub same_fields : Kind → List Node → List Node
same_fields k us = us

pub spanless_of_tree : (k : Kind) (ts : List Node) → spanless (Tree k ts) ≡ Tree k (map spanless ts)
spanless_of_tree k ts = search (rules, the_lemmas)

pub spanless_of_list : (ts : List Node) → spanless (Many ts) ≡ Many (map spanless ts)
spanless_of_list ts = search (rules, the_lemmas)

pub spanless_mapped : Mapped spanless same_fields
spanless_mapped = record {
  spans = λ s. no_span;
  idents = λ i. record i { span = no_span };
  same_text = λ i. refl;
  absent = search (rules, the_lemmas);
  flag = λ x. search (rules, the_lemmas);
  word = λ w. search (rules, the_lemmas);
  text = λ x. search (rules, the_lemmas);
  span = λ s. search (rules, the_lemmas);
  list = spanless_of_list;
  name = λ k i. search (rules, the_lemmas);
  tree = spanless_of_tree;
  other = λ k us e. refl;
}

-- what is stripped stays so
expression_if : (b : Bool) (k : Kind) (i : Ident) → still (Identifier k i) ≡ true → still (if b then Identifier kind.Ident i else Identifier k i) ≡ true
expression_if true k i h = search (rules, the_lemmas)
expression_if false k i h = h

expression_of_name : (w : Bool) (k : Kind) (i : Ident) → expression_in w (Identifier k i) (out-Node (Identifier k i)) ≡ (if is_async_name (Identifier k i) && not w then Identifier kind.Ident i else Identifier k i)
expression_of_name w k i = search (rules, the_lemmas)

-- a node of no name stays
pub expression_cases : (P : Node → Node → Type 0) (w : Bool) → ((t : Node) → P t t) → ((k : Kind) (i : Ident) → P (Identifier k i) (if is_async_name (Identifier k i) && not w then Identifier kind.Ident i else Identifier k i)) → (t : Node) → P t (expression_in w t (out-Node t))
expression_cases P w s n t = by_children (λ t. P t (expression_in w t (out-Node t))) (
  (let e : expression_in w Absent (out-Node Absent) ≡ Absent = search (rules, the_lemmas) in rw e (s Absent)),
  λ x. (let e : expression_in w (Flag x) (out-Node (Flag x)) ≡ Flag x = search (rules, the_lemmas) in rw e (s (Flag x))),
  λ v. (let e : expression_in w (Word v) (out-Node (Word v)) ≡ Word v = search (rules, the_lemmas) in rw e (s (Word v))),
  λ x. (let e : expression_in w (Text x) (out-Node (Text x)) ≡ Text x = search (rules, the_lemmas) in rw e (s (Text x))),
  λ r. (let e : expression_in w (Span r) (out-Node (Span r)) ≡ Span r = search (rules, the_lemmas) in rw e (s (Span r))),
  λ k i. rw (expression_of_name w k i) (n k i),
)
    (λ ts l. (let e : expression_in w (Many ts) (out-Node (Many ts)) ≡ Many ts = search (rules, the_lemmas) in rw e (s (Many ts))))
    (λ k ts l. (let e : expression_in w (Tree k ts) (out-Node (Tree k ts)) ≡ Tree k ts = search (rules, the_lemmas) in rw e (s (Tree k ts)))) t

expression_still : (w : Bool) (t : Node) → still t ≡ true → still (expression_in w t (out-Node t)) ≡ true
expression_still w t = expression_cases (λ t u. still t ≡ true → still u ≡ true) w (λ t h. h) (λ k i h. expression_if (is_async_name (Identifier k i) && not w) k i h) t

named_fields_still : (k : Kind) (us : List Node) → list_all still us ≡ true → list_all still (named_fields k us) ≡ true
named_fields_still kind.ForOfStmt (s ∷ w ∷ l ∷ r ∷ b ∷ []) h =
    let p = both (still s) (still w && (still l && (still r && (still b && true)))) h in let q = both (still w) (still l && (still r && (still b && true))) p.1 in let x = both (still l) (still r && (still b && true)) q.1 in
    rw (p.0, q.0, expression_still (holds w) l x.0) x.1
named_fields_still k us h = h

pub named_still : (t : Node) → still t ≡ true → still (named t) ≡ true
named_still t = still_mapped named_mapped named_fields_still t

branch_still : (b : Bool) (c : Node) → still c ≡ true → still (if b then block c else c) ≡ true
branch_still true c h =
    let e : still (Many (c ∷ [])) ≡ true = every_list still_in (c ∷ []) ∙ also_both (still c) true h refl in let s : still (Span (span_of c)) ≡ true = search (rules, the_lemmas) in
    every_tree still_in kind.BlockStmt (Span (span_of c) ∷ Many (c ∷ []) ∷ []) ∙ rw (s, e) refl
branch_still false c h = h

block_fields_still : (k : Kind) (us : List Node) → list_all still us ≡ true → list_all still (block_fields k us) ≡ true
block_fields_still kind.IfStmt (s ∷ t ∷ c ∷ a ∷ []) h =
    let p = both (still s) (still t && (still c && (still a && true))) h in let q = both (still t) (still c && (still a && true)) p.1 in let x = both (still c) (still a && true) q.1 in
    rw (p.0, q.0, branch_still (takes_else c) c x.0) x.1
block_fields_still k us h = h

pub blocks_still : (t : Node) → still t ≡ true → still (with_blocks t) ≡ true
blocks_still t = still_mapped blocks_mapped block_fields_still t

-- the normal form has names of either kind as patterns there
written_name : (k : Kind) (i : Ident) → written_out (Identifier k i) ≡ Identifier k i
written_name k i = search (rules, the_lemmas)

pattern_name : (k : Kind) (i : Ident) → as_pattern (Identifier k i) ≡ pattern_in (Identifier k i) (Node-F.Identifier k i)
pattern_name k i = search (rules, the_lemmas)

pattern_row : (k : Kind) (i : Ident) → is_identifier k ≡ true → pattern_in (Identifier k i) (Node-F.Identifier k i) ≡ Identifier kind.BindingIdent i
pattern_row kind.Ident i h = refl
pattern_row kind.BindingIdent i h = refl
pattern_row k i h = absurd (true≢false (sym h))

still_name : (k : Kind) (i : Ident) → still (Identifier k i) ≡ is_identifier k
still_name k i = search (rules, the_lemmas)

pattern_if : (b : Bool) (k : Kind) (i : Ident) → is_identifier k ≡ true → as_pattern (if b then Identifier kind.Ident i else Identifier k i) ≡ as_pattern (Identifier k i)
pattern_if true k i h = pattern_name kind.Ident i ∙ sym (pattern_name k i ∙ pattern_row k i h)
pattern_if false k i h = refl

choice_out : (b : Bool) (k : Kind) (i : Ident) → written_out (if b then Identifier kind.Ident i else Identifier k i) ≡ (if b then Identifier kind.Ident i else Identifier k i)
choice_out true k i = written_name kind.Ident i
choice_out false k i = written_name k i

same_pattern : (w : Bool) (t : Node) → still t ≡ true → as_pattern (written_out (expression_in w t (out-Node t))) ≡ as_pattern (written_out t)
same_pattern w t = expression_cases (λ t u. still t ≡ true → as_pattern (written_out u) ≡ as_pattern (written_out t)) w (λ t h. refl)
    (λ k i h. ap as_pattern (choice_out (is_async_name (Identifier k i) && not w) k i) ∙ pattern_if (is_async_name (Identifier k i) && not w) k i (sym (still_name k i) ∙ h) ∙ sym (ap as_pattern (written_name k i))) t

named_row : (k : Kind) (us : List Node) → list_all still us ≡ true → written_step (Node-F.Tree k (map written_out (named_fields k us))) ≡ written_step (Node-F.Tree k (map written_out us))
named_row kind.ForOfStmt (s ∷ w ∷ l ∷ r ∷ b ∷ []) h =
    let p = both (still s) (still w && (still l && (still r && (still b && true)))) h in let q = both (still w) (still l && (still r && (still b && true))) p.1 in let x = both (still l) (still r && (still b && true)) q.1 in
    ap (λ l. Tree kind.ForOfStmt (written_out s ∷ written_out w ∷ l ∷ written_out r ∷ written_out b ∷ [])) (same_pattern (holds w) l x.0)
named_row k us h = refl

abbrev Written : Node → Type 0
Written t = still t ≡ true → written_out (named t) ≡ written_out t

each_written : (ts : List Node) → Each Written ts → list_all still ts ≡ true → Each (λ t. written_out (named t) ≡ written_out t) ts
each_written [] l h = tt
each_written (t ∷ ts) l h = let p = both (still t) (list_all still ts) h in (l.0 p.0, each_written ts l.1 p.1)

each_named : (ts : List Node) → list_all still ts ≡ true → list_all still (map named ts) ≡ true
each_named [] h = refl
each_named (t ∷ ts) h = let p = both (still t) (list_all still ts) h in also_both (still (named t)) (list_all still (map named ts)) (named_still t p.0) (each_named ts p.1)

pub written_named : (t : Node) → Written t
written_named t = by_children Written
    (λ h. search (rules, the_lemmas), λ x h. search (rules, the_lemmas), λ w h. search (rules, the_lemmas), λ x h. search (rules, the_lemmas), λ r h. search (rules, the_lemmas), λ k i h. search (rules, the_lemmas))
    (λ ts l h. rw (named_of_list ts, written_of_list ts, written_of_list (map named ts)) (ap Many (map_after written_out named ts ∙ each_same (λ t. written_out (named t)) written_out ts (each_written ts l (sym (every_list still_in ts) ∙ h)))))
    (λ k ts l h.
    (let p = both (still_in (Node-F.Tree k ts)) (list_all still ts) (sym (every_tree still_in k ts) ∙ h) in
    ap written_out (named_of_tree k ts) ∙ written_of_tree k (named_fields k (map named ts)) ∙ named_row k (map named ts) (each_named ts p.1)
    ∙ ap (λ us. written_step (Node-F.Tree k us)) (map_after written_out named ts ∙ each_same (λ t. written_out (named t)) written_out ts (each_written ts l p.1))
    ∙ sym (written_of_tree k ts))) t
