-- After the first step no arrow that returns an expression begins it with an assignment to an object pattern.
use Rattle.std.proofs.Common.{◌≡◌, Bool, true, false, not, ◌||◌, List, [], ◌∷◌, map, refl, sym, ap, ◌∙◌, rules}
use Rattle.std.specs.List.{list_all}
use Rattle.swc_tree_node.specs.declared.kind.Kind.{Kind}
use Rattle.swc_tree_node.specs.declared.kind.Kind.TheVariants as kind
use Rattle.swc_tree_node.specs.declared.kind.Class.TheVariants as class
use Rattle.swc_tree_node.specs.declared.slot.Slot.{Slot}
use Rattle.swc_tree_node.specs.declared.node.Node.{Node, Absent, Flag, Word, Text, Span, Identifier, the_lemmas}
use Rattle.swc_tree_node.specs.declared.node.Node.TheOpen.{Node-F}
use Rattle.swc_tree_node.specs.Table.{slots_of}
use Rattle.swc_tree_node.specs.Fits.{Fits, FieldsFit, AllFit}
use Rattle.swc_tree_node.proofs.Fit.{fits-List}
use Rattle.swc_tree_grammar.specs.Kinds.{has_kind, is_block, is_destructuring}
use Rattle.swc_tree_grammar.specs.Demands.{meets}
use Rattle.swc_tree_grammar.specs.Demands.Demand.{Body}
use Rattle.swc_tree_grammar.specs.Blocks.{span_of}
use Rattle.swc_tree_grammar.specs.Due.{Places, pair as in_pair, pair_if, paired_in, level_step, paired_by_level, paired_in_heads}
use Rattle.swc_tree_grammar.specs.Readers.{assigns_to}
use Rattle.swc_tree_grammar.proofs.Induction.{Each, by_children}
use Rattle.swc_tree_grammar.proofs.Places.{one, stands}
use Rattle.swc_tree_grammar_laws.specs.Levelled.{levelled}
use Rattle.swc_tree_grammar_laws.proofs.Levelled.{also}
use Rattle.swc_tree_grammar_laws.proofs.Levels.{pairing, pairing_tree, pairing_list, by_level}
use Rattle.swc_base_fixer_laws.specs.Sets.{item}
use Rattle.swc_base_fixer_laws.proofs.FitsKept.{fits_kept}
use Rattle.swc_base_fixer_laws.proofs.SetsLevels.{fields_same}
use Rattle.swc_base_fixer_laws.proofs.SetsRows.{row, items_open, levels_set}
use Rattle.swc_base_fixer_laws.proofs.SetsHeads.{heads_set}
use Rattle.swc_base_fixer_needs.proofs.FirstRows.{led, led_tree}
use Rattle.swc_base_fixer_needs.proofs.StartNodes.{calm, calm_in, calm_tree, calm_list}
use Rattle.swc_base_fixer_needs.proofs.LevelSteps.{made}
use Rattle.swc_base_fixer_needs.proofs.Tight.{calm_body}
use Rattle.swc_base_fixer_needs.proofs.CalmSets.{calm_set, pair_calm}

abbrev IsCalm : Places → Node → Type 0
IsCalm p t = (s : Slot) → Fits t s → (b : Bool) → calm (pairing p t b) ≡ true

calm_fields : (p : Places) (ss : List Slot) (ts : List Node) → Each (IsCalm p) ts → FieldsFit ss ts → list_all calm (made p ts) ≡ true
calm_fields p [] [] l f = refl
calm_fields p [] (t ∷ ts) l f = absurd f
calm_fields p (s ∷ ss) [] l f = absurd f
calm_fields p (s ∷ ss) (t ∷ ts) l f = also (l.0 s f.0 false) (calm_fields p ss ts l.1 f.1)

calm_items : (p : Places) (s : Slot) (ts : List Node) → Each (IsCalm p) ts → AllFit s ts → list_all calm (made p ts) ≡ true
calm_items p s [] l f = refl
calm_items p s (t ∷ ts) l f = also (l.0 s f.0 false) (calm_items p s ts l.1 f.1)

made_fit : (p : Places) (ss : List Slot) (ts : List Node) → FieldsFit ss ts → FieldsFit ss (made p ts)
made_fit p [] [] f = f
made_fit p [] (t ∷ ts) f = absurd f
made_fit p (s ∷ ss) [] f = absurd f
made_fit p (s ∷ ss) (t ∷ ts) f = (fits_kept (levels_set p t s f.0) f.0, made_fit p ss ts f.1)

-- an arrow
bare : (n m : Bool) → (n || not m) ≡ false → (n ≡ false) × (m ≡ true)
bare true m h = absurd (cc)
bare false true h = (refl, refl)
bare false false h = absurd (cc)

or_true : (b : Bool) → (b || true) ≡ true
or_true true = refl
or_true false = refl

body_if : (b : Bool) (p : Places) (e : Node) → (assigns_to is_destructuring e || not (meets Body e)) ≡ b → Fits e (one class.BlockStmtOrExpr) → levelled e false ≡ true
    → (has_kind is_block (pair_if b p e) || not (led (pair_if b p e))) ≡ true
body_if true p e h f v = ap (λ x. has_kind is_block (in_pair p e) || not x) (led_tree kind.ParenExpr (Span (p (span_of e)) ∷ e ∷ [])) ∙ or_true (has_kind is_block (in_pair p e))
body_if false p e h f v = let q = bare (assigns_to is_destructuring e) (meets Body e) h in calm_body e f v q.1 q.0

pair_if_calm : (b : Bool) (p : Places) (e : Node) → calm e ≡ true → calm (pair_if b p e) ≡ true
pair_if_calm true p e h = pair_calm (Span (p (span_of e))) e (search (rules, the_lemmas)) h
pair_if_calm false p e h = h

arrow : (p : Places) (b : Bool) (s q e f : Node) → calm s ≡ true → calm q ≡ true → calm e ≡ true → calm f ≡ true → Fits e (one class.BlockStmtOrExpr) → levelled e false ≡ true → calm (paired_in p b (Node-F.Tree kind.ArrowExpr (s ∷ q ∷ e ∷ f ∷ []))) ≡ true
arrow p b s q e f cs cq ce cf w v =
    let x : Bool = assigns_to is_destructuring e || not (meets Body e) in
    calm_tree kind.ArrowExpr (s ∷ q ∷ pair_if x p e ∷ f ∷ []) ∙ rw (body_if x p e refl w v, cs, cq, pair_if_calm x p e ce, cf) refl

-- every node
abbrev is_arrow_kind : Kind → Bool
is_arrow_kind kind.ArrowExpr = true
is_arrow_kind k = false

calm_in_row : (k : Kind) (ts : List Node) → is_arrow_kind k ≡ false → calm_in (Node-F.Tree k ts) ≡ true
calm_in_row kind.ArrowExpr ts h = absurd (cc)
calm_in_row k ts h = refl

calm_step : (p : Places) (b : Bool) (k : Kind) (ts : List Node) → FieldsFit (slots_of k) ts → Each (IsCalm p) ts → calm (level_step p (Node-F.Tree k (map (pairing p) ts)) b) ≡ true
calm_step p b kind.ArrowExpr (s ∷ q ∷ e ∷ x ∷ []) f l =
    arrow p b (pairing p s false) (pairing p q false) (pairing p e false) (pairing p x false) (l.0 _ f.0 false) (l.1.0 _ f.1.0 false) (l.1.1.0 _ f.1.1.0 false) (l.1.1.1.0 _ f.1.1.1.0 false)
    (fits_kept (levels_set p e (one class.BlockStmtOrExpr) f.1.1.0) f.1.1.0) (by_level p e)
calm_step p b kind.ArrowExpr [] f l = absurd f
calm_step p b kind.ArrowExpr (s ∷ []) f l = absurd f.1
calm_step p b kind.ArrowExpr (s ∷ q ∷ []) f l = absurd f.1.1
calm_step p b kind.ArrowExpr (s ∷ q ∷ e ∷ []) f l = absurd f.1.1.1
calm_step p b kind.ArrowExpr (s ∷ q ∷ e ∷ x ∷ t ∷ ts) f l = absurd f.1.1.1.1
calm_step p b kind.OptChainExpr (s ∷ o ∷ e ∷ []) f l =
    calm_tree kind.OptChainExpr (pairing p s false ∷ pairing p o false ∷ pairing p e true ∷ []) ∙ rw (l.0 _ f.0 false, l.1.0 _ f.1.0 false, l.1.1.0 _ f.1.1.0 true) refl
calm_step p b kind.OptChainExpr [] f l = absurd f
calm_step p b kind.OptChainExpr (s ∷ []) f l = absurd f.1
calm_step p b kind.OptChainExpr (s ∷ o ∷ []) f l = absurd f.1.1
calm_step p b kind.OptChainExpr (s ∷ o ∷ e ∷ t ∷ ts) f l = absurd f.1.1.1
calm_step p b k ts f l =
    let us = made p ts in let g = made_fit p (slots_of k) ts f in
    calm_set (row p (one class.Expr) b k (fields_same (slots_of k) us g) g refl) (calm_tree k us ∙ also (calm_in_row k us refl) (calm_fields p (slots_of k) ts l f))

leaf : (p : Places) (t : Node) → ((b : Bool) → pairing p t b ≡ t) → calm t ≡ true → IsCalm p t
leaf p t e h s f b = ap calm (e b) ∙ h

calm_levels : (p : Places) (t : Node) → IsCalm p t
calm_levels p t = by_children (IsCalm p)
    (leaf p Absent (λ b. search (rules, the_lemmas)) (search (rules, the_lemmas)), λ x. leaf p (Flag x) (λ b. search (rules, the_lemmas)) (search (rules, the_lemmas)), λ w. leaf p (Word w) (λ b. search (rules, the_lemmas)) (search (rules, the_lemmas)), λ x. leaf p (Text x) (λ b. search (rules, the_lemmas)) (search (rules, the_lemmas)), λ s. leaf p (Span s) (λ b. search (rules, the_lemmas)) (search (rules, the_lemmas)), λ k i. leaf p (Identifier k i) (λ b. search (rules, the_lemmas)) (search (rules, the_lemmas)))
    (λ ts l s f b. rw (pairing_list p ts b) (calm_list (made p ts) ∙ calm_items p (item s) ts l (items_open s ts (sym (fits-List ts s) ∙ f))))
    (λ k ts l s f b. rw (pairing_tree p k ts b) (calm_step p b k ts (stands k ts s f).fields l)) t

pub calm_before_starts : (p : Places) (t : Node) (s : Slot) → Fits t s → calm (paired_in_heads p (paired_by_level p t)) ≡ true
calm_before_starts p t s f = calm_set (heads_set p (paired_by_level p t) s (fits_kept (levels_set p t s f) f)) (calm_levels p t s f false)
