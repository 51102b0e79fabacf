-- What stripping says at each form of a node.
use Rattle.std.proofs.Common.{◌≡◌, ℕ, Bool, true, false, IsTrue, List, [], ◌∷◌, ◌++◌, map, refl, ap, ◌∙◌, rules}
use Rattle.std.specs.List.{flat_map}
use Rattle.swc_tree_node.specs.Lower.swc_tree_marks.specs.declared.span.Span.{Span as Range}
use Rattle.swc_tree_node.specs.Lower.swc_tree_marks.specs.declared.ident.Ident.{Ident}
use Rattle.swc_tree_node.specs.declared.kind.Kind.{Kind}
use Rattle.swc_tree_node.specs.declared.kind.Kind.TheVariants as kind
use Rattle.swc_tree_node.specs.declared.kind.Word.{Word as Word'}
use Rattle.swc_tree_node.specs.declared.node.Node.{Node, Absent, Flag, Word, Text, Span, List as Many, Identifier, Tree, fold-Node, the_lemmas}
use Rattle.swc_tree_node.specs.declared.node.Node.TheVariants.{rolls-Tree}
use Rattle.swc_tree_node.specs.declared.node.Node.TheOpen.{Node-F}
use Rattle.swc_tree_grammar.specs.Stripped.{Dropped, dropped_step, effects_in, effects, is_void, strip_step, stripped}
use Rattle.swc_tree_grammar.proofs.Induction.{Each, by_children}

abbrev dropped : Node → Dropped
dropped = fold-Node Dropped dropped_step

abbrev Whole : Node → Type 0
Whole t = (dropped t).whole ≡ t

wholes : (ts : List Node) → Each Whole ts → map (λ e. e.whole) (map dropped ts) ≡ ts
wholes [] h = refl
wholes (t ∷ ts) h = rw (h.0, wholes ts h.1) refl

whole_many : (ts : List Node) → (dropped (Many ts)).whole ≡ Many (map (λ e. e.whole) (map dropped ts))
whole_many ts = search (rules, the_lemmas)

whole_tree : (k : Kind) (ts : List Node) → (dropped (Tree k ts)).whole ≡ Tree k (map (λ e. e.whole) (map dropped ts))
whole_tree k ts = search (rules, the_lemmas)

whole : (t : Node) → Whole t
whole t = by_children Whole
    (search (rules, the_lemmas), λ x. search (rules, the_lemmas), λ w. search (rules, the_lemmas), λ x. search (rules, the_lemmas), λ s. search (rules, the_lemmas), λ k i. search (rules, the_lemmas))
    (λ ts h. whole_many ts ∙ ap Many (wholes ts h))
    (λ k ts h. whole_tree k ts ∙ ap (Tree k) (wholes ts h)) t

effects_many : (ts : List Node) → effects (Many ts) ≡ flat_map (λ e. e.effects) (map dropped ts)
effects_many ts = search (rules, the_lemmas)

-- the nodes below, each as it was
all_whole : (ts : List Node) → map (λ e. e.whole) (map dropped ts) ≡ ts
all_whole [] = refl
all_whole (t ∷ ts) = rw (whole t, all_whole ts) refl

dropped_items : (ts : List Node) → flat_map (λ e. e.effects) (map dropped ts) ≡ flat_map effects ts
dropped_items [] = refl
dropped_items (t ∷ ts) = ap (λ es. effects t ++ es) (dropped_items ts)

pub effects_of_list : (ts : List Node) → effects (Many ts) ≡ flat_map effects ts
effects_of_list ts = effects_many ts ∙ dropped_items ts

effects_tree : (k : Kind) (ts : List Node) → effects (Tree k ts) ≡ effects_in (Tree k (map (λ e. e.whole) (map dropped ts))) (Node-F.Tree k (map dropped ts))
effects_tree k ts = search (rules, the_lemmas)

pub effects_of_tree : (k : Kind) (ts : List Node) → effects (Tree k ts) ≡ effects_in (Tree k ts) (Node-F.Tree k (map dropped ts))
effects_of_tree k ts = effects_tree k ts ∙ ap (λ ws. effects_in (Tree k ws) (Node-F.Tree k (map dropped ts))) (all_whole ts)

pub effects_of_sequence : (span exprs : Node) → effects (Tree kind.SeqExpr (span ∷ exprs ∷ [])) ≡ effects exprs
effects_of_sequence span exprs = effects_of_tree kind.SeqExpr (span ∷ exprs ∷ [])

pub effects_of_void : (span op arg : Node) → is_void op ≡ true → effects (Tree kind.UnaryExpr (span ∷ op ∷ arg ∷ [])) ≡ effects arg
effects_of_void span op arg h = effects_of_tree kind.UnaryExpr (span ∷ op ∷ arg ∷ [])
    ∙ (rw (whole op, h) refl)

pub effects_of_identifier : (k : Kind) (i : Ident) → effects (Identifier k i) ≡ Identifier k i ∷ []
effects_of_identifier k i = search (rules, the_lemmas)

pub effects_of_absent : effects Absent ≡ Absent ∷ []
effects_of_absent = search (rules, the_lemmas)

pub effects_of_flag : (x : Bool) → effects (Flag x) ≡ Flag x ∷ []
effects_of_flag x = search (rules, the_lemmas)

pub effects_of_word : (w : Word') → effects (Word w) ≡ Word w ∷ []
effects_of_word w = search (rules, the_lemmas)

pub effects_of_text : (x : List ℕ) → effects (Text x) ≡ Text x ∷ []
effects_of_text x = search (rules, the_lemmas)

pub effects_of_span : (s : Range) → effects (Span s) ≡ Span s ∷ []
effects_of_span s = search (rules, the_lemmas)

pub stripped_of_list : (ts : List Node) → stripped (Many ts) ≡ Many (map stripped ts)
stripped_of_list ts = search (rules, the_lemmas)

pub stripped_of_tree : (k : Kind) (ts : List Node) → stripped (Tree k ts) ≡ strip_step (Node-F.Tree k (map stripped ts))
stripped_of_tree k ts = search (rules, the_lemmas)

pub effects_of_other : (span op arg : Node) → is_void op ≡ false → effects (Tree kind.UnaryExpr (span ∷ op ∷ arg ∷ [])) ≡ Tree kind.UnaryExpr (span ∷ op ∷ arg ∷ []) ∷ []
effects_of_other span op arg h = effects_of_tree kind.UnaryExpr (span ∷ op ∷ arg ∷ [])
    ∙ (rw (whole op, h) refl)

-- a kind on whose fields alone stripping works
abbrev pub is_other : Kind → Bool
is_other kind.ParenExpr = false
is_other kind.SeqExpr = false
is_other kind.AssignExpr = false
is_other kind.Class = false
is_other _ = true

strip_other : (k : Kind) (ts : List Node) → IsTrue (is_other k) → strip_step (Node-F.Tree k ts) ≡ Tree k ts
strip_other kind.ParenExpr ts o = absurd (cc)
strip_other kind.SeqExpr ts o = absurd (cc)
strip_other kind.AssignExpr ts o = absurd (cc)
strip_other kind.Class ts o = absurd (cc)
strip_other k ts o = rolls-Tree k ts

pub stripped_other : (k : Kind) (ts : List Node) → IsTrue (is_other k) → stripped (Tree k ts) ≡ Tree k (map stripped ts)
stripped_other k ts o = stripped_of_tree k ts ∙ strip_other k (map stripped ts) o
