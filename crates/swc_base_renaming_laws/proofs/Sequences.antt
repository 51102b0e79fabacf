-- No sequence of a tree that can be written down becomes the name `eval` where it is stripped.
use Rattle.std.proofs.Common.{◌≡◌, Bool, true, false, not, ◌&&◌, ◌||◌, IsTrue, List, [], ◌∷◌, map, refl, sym, ap, ◌∙◌, rules}
use Rattle.std.specs.List.{list_all}
use Rattle.swc_tree_marks.specs.declared.ident.Ident.{Ident}
use Rattle.swc_tree_node.specs.declared.kind.Kind.{Kind}
use Rattle.swc_tree_node.specs.declared.kind.Kind.TheVariants as kind
use Rattle.swc_tree_node.specs.declared.kind.Class.TheVariants as class
use Rattle.swc_tree_node.specs.declared.slot.Slot.{Slot}
use Rattle.swc_tree_node.specs.declared.node.Node.{Node, List as Many, Tree, fold-Node, map-Node, roll-Node, the_lemmas}
use Rattle.swc_tree_node.specs.declared.node.Node.TheOpen.{Node-F}
use Rattle.swc_tree_node.specs.declared.node.Node.TheVariants.{outs-List, outs-Tree}
use Rattle.swc_tree_node.specs.Table.{slots_of}
use Rattle.swc_tree_node.specs.Fits.{Fits, fits}
use Rattle.swc_tree_node.proofs.Fit.{tree_opens}
use Rattle.swc_tree_grammar.specs.Stripped.{stripped}
use Rattle.swc_tree_grammar.specs.Writable.{Round, Writable, in_head_in, sound_in}
use Rattle.swc_tree_grammar.proofs.Asked.{asked}
use Rattle.swc_tree_grammar.proofs.Induction.{Each, by_children}
use Rattle.swc_tree_grammar.proofs.Places.{one}
use Rattle.swc_tree_grammar_laws.proofs.Derived.{sound_tree}
use Rattle.swc_base_fixer_laws.proofs.Everywhere.{Everywhere, Parts, everywhere}
use Rattle.swc_base_fixer_laws.proofs.Quiet.{is_quiet}
use Rattle.swc_base_fixer_laws.proofs.Sequences.{has_two, left_of, sequence_stays, two_left}
use Rattle.swc_base_rename_units.specs.Eval.{eval_step, is_eval}
use Rattle.swc_base_renaming_laws.proofs.Calm.{eval_out}

-- a sequence that stands as an expression is not the name once it is stripped
abbrev pub own : Kind → List Node → Bool
own kind.SeqExpr ts = not (fits (Tree kind.SeqExpr ts) (one class.Expr)) || not (is_eval (stripped (Tree kind.SeqExpr ts)))
own _ ts = true

-- a node, and whether each sequence in it is such
abbrev Told : Type 0
Told = Node × Bool

abbrev told_in : Node-F Told → Bool
told_in (Node-F.List es) = list_all (λ (e : Told). e.1) es
told_in (Node-F.Tree k es) = own k (map (λ (e : Told). e.0) es) && list_all (λ (e : Told). e.1) es
told_in _ = true

abbrev told_step : Node-F Told → Told
told_step y = (roll-Node (map-Node Told Node (λ (e : Told). e.0) y), told_in y)

abbrev told : Node → Told
told = fold-Node Told told_step

abbrev pub safe : Node → Bool
safe t = (told t).1

abbrev Whole : Node → Type 0
Whole t = (told t).0 ≡ t

wholes : (ts : List Node) → Each Whole ts → map (λ (e : Told). e.0) (map told ts) ≡ ts
wholes [] h = refl
wholes (t ∷ ts) h = rw (h.0, wholes ts h.1) refl

whole_many : (ts : List Node) → (told (Many ts)).0 ≡ Many (map (λ (e : Told). e.0) (map told ts))
whole_many ts = search (rules, the_lemmas)

whole_tree : (k : Kind) (ts : List Node) → (told (Tree k ts)).0 ≡ Tree k (map (λ (e : Told). e.0) (map told ts))
whole_tree k ts = search (rules, the_lemmas)

whole : (t : Node) → Whole t
whole t = by_children Whole
    (search (rules, the_lemmas), λ x. search (rules, the_lemmas), λ w. search (rules, the_lemmas), λ x. search (rules, the_lemmas), λ s. search (rules, the_lemmas), λ k i. search (rules, the_lemmas))
    (λ ts h. whole_many ts ∙ ap Many (wholes ts h))
    (λ k ts h. whole_tree k ts ∙ ap (Tree k) (wholes ts h)) t

all_whole : (ts : List Node) → map (λ (e : Told). e.0) (map told ts) ≡ ts
all_whole [] = refl
all_whole (t ∷ ts) = rw (whole t, all_whole ts) refl

all_safe : (ts : List Node) → list_all (λ (e : Told). e.1) (map told ts) ≡ list_all safe ts
all_safe [] = refl
all_safe (t ∷ ts) = ap (λ b. safe t && b) (all_safe ts)

safe_list : (ts : List Node) → safe (Many ts) ≡ list_all (λ (e : Told). e.1) (map told ts)
safe_list ts = search (rules, the_lemmas)

safe_tree : (k : Kind) (ts : List Node) → safe (Tree k ts) ≡ (own k (map (λ (e : Told). e.0) (map told ts)) && list_all (λ (e : Told). e.1) (map told ts))
safe_tree k ts = search (rules, the_lemmas)

pub safe_of_list : (ts : List Node) → safe (Many ts) ≡ list_all safe ts
safe_of_list ts = safe_list ts ∙ all_safe ts

pub safe_of_tree : (k : Kind) (ts : List Node) → safe (Tree k ts) ≡ (own k ts && list_all safe ts)
safe_of_tree k ts = safe_tree k ts ∙ ap (λ us. own k us && list_all (λ (e : Told). e.1) (map told ts)) (all_whole ts) ∙ ap (λ b. own k ts && b) (all_safe ts)

-- ---- each sequence that can be written down is such

two_no_name : (span : Node) (ts : List Node) → has_two ts ≡ true → is_eval (Tree kind.SeqExpr (span ∷ Many ts ∷ [])) ≡ false
two_no_name span ts h = eval_out (Tree kind.SeqExpr (span ∷ Many ts ∷ [])) (Node-F.Tree kind.SeqExpr (span ∷ Many ts ∷ [])) (outs-Tree kind.SeqExpr (span ∷ Many ts ∷ [])) ∙ eval_out (Many ts) (Node-F.List ts) (outs-List ts) ∙ by ts h
  where
    by : (ts : List Node) → has_two ts ≡ true → eval_step (Node-F.List (map is_eval ts)) ≡ false
    by [] h = absurd (cc)
    by (t ∷ []) h = absurd (cc)
    by (t ∷ u ∷ ts) h = refl

sequence_safe : (ts : List Node) (r : Round) → sound_in (Node-F.Tree kind.SeqExpr (map asked ts)) r ≡ true → Fits (Tree kind.SeqExpr ts) (one class.Expr) → is_eval (stripped (Tree kind.SeqExpr ts)) ≡ false
sequence_safe [] r h f = absurd ((tree_opens kind.SeqExpr [] class.Expr f).2)
sequence_safe (a ∷ []) r h f = absurd ((tree_opens kind.SeqExpr (a ∷ []) class.Expr f).2.1)
sequence_safe (a ∷ b ∷ []) r h f =
    let fields = (tree_opens kind.SeqExpr (a ∷ b ∷ []) class.Expr f).2 in
    let sound = sound_tree kind.SeqExpr (a ∷ b ∷ []) r ∙ h in
    ap is_eval (sequence_stays a b r fields.1.0 sound) ∙ two_no_name (stripped a) (left_of b) (two_left a b r fields.1.0 sound)
sequence_safe (a ∷ b ∷ c ∷ ts) r h f = absurd ((tree_opens kind.SeqExpr (a ∷ b ∷ c ∷ ts) class.Expr f).2.1.1)

own_sequence : (ts : List Node) (r : Round) → sound_in (Node-F.Tree kind.SeqExpr (map asked ts)) r ≡ true → own kind.SeqExpr ts ≡ true
own_sequence ts r h = by (fits (Tree kind.SeqExpr ts) (one class.Expr)) refl
  where
    by : (b : Bool) → fits (Tree kind.SeqExpr ts) (one class.Expr) ≡ b → (not b || not (is_eval (stripped (Tree kind.SeqExpr ts)))) ≡ true
    by false e = refl
    by true e = ap not (sequence_safe ts r h e)

own_sound : (k : Kind) (ts : List Node) → Parts safe (slots_of k) ts → (r : Round) → sound_in (Node-F.Tree k (map asked ts)) r ≡ true → own k ts ≡ true
own_sound kind.SeqExpr ts x r h = own_sequence ts r h
own_sound k ts x r h = refl

own_quiet : (k : Kind) (ts : List Node) → list_all is_quiet (slots_of k) ≡ true → own k ts ≡ true
own_quiet kind.SeqExpr ts q = absurd (cc)
own_quiet k ts q = refl

own_head : (k : Kind) (ts : List Node) (r : Round) → in_head_in (Node-F.Tree k (map asked ts)) r ≡ true → own k ts ≡ true
own_head kind.SeqExpr ts r h = absurd (cc)
own_head k ts r h = refl

safely : Everywhere safe own
safely = record {
  of_leaves = (search (rules, the_lemmas), λ x. search (rules, the_lemmas), λ w. search (rules, the_lemmas), λ x. search (rules, the_lemmas), λ r. search (rules, the_lemmas), λ k i. search (rules, the_lemmas));
  of_list = safe_of_list;
  of_tree = safe_of_tree;
  own_quiet = own_quiet;
  own_sound = own_sound;
  own_head = own_head;
}

pub writable_safe : (t : Node) (s : Slot) → Fits t s → Writable t → safe t ≡ true
writable_safe t s f w = everywhere safely t s f (record { strict = false; assigned = false }) w
