-- Pairs that are set in a levelled tree leave it levelled.
use Rattle.std.proofs.Common.{◌≡◌, Bool, true, false, not, ◌&&◌, ◌||◌, IsTrue, List, [], ◌∷◌, refl, sym, ap, ◌∙◌, rules, true≢false}
use Rattle.std.specs.Prelude.{Option, Some, None}
use Rattle.std.specs.List.{list_all}
use Rattle.swc_tree_marks.specs.declared.span.Span.{Span as Range}
use Rattle.swc_tree_node.specs.declared.kind.Kind.{Kind}
use Rattle.swc_tree_node.specs.declared.kind.Kind.TheVariants as kind
use Rattle.swc_tree_node.specs.declared.kind.Word.{Word as Word'}
use Rattle.swc_tree_node.specs.declared.kind.Word.TheVariants as word
use Rattle.swc_tree_node.specs.declared.node.Node.{Node, Span, Identifier, Tree, the_lemmas}
use Rattle.swc_tree_node.specs.declared.node.Node.TheOpen.{Node-F}
use Rattle.swc_tree_grammar.specs.Kinds.{is_opt_chain}
use Rattle.swc_tree_grammar.specs.Levels.{word_of}
use Rattle.swc_tree_grammar.specs.Demands.{Demand, demands, meets, left_side, right_side}
use Rattle.swc_tree_grammar.specs.Demands.Demand.{Any, Key, NewCallee, Each as EachOf}
use Rattle.swc_tree_grammar_laws.specs.Levelled.{levelled, each_meets}
use Rattle.swc_tree_grammar_laws.proofs.Levelled.{levelled_tree, levelled_list, both, also_both}
use Rattle.swc_tree_grammar_laws.proofs.Settled.{is_met_by_pairs}
use Rattle.swc_base_fixer_laws.specs.Sets.{Sets, AllSet, FieldsSet, takes_pair}
use Rattle.swc_base_fixer_laws.specs.Sets.Sets.{same, after, around, named, items, tree}
use Rattle.swc_base_fixer_laws.specs.Sets.AllSet.{none, more}
use Rattle.swc_base_fixer_laws.specs.Sets.FieldsSet.{nil as no_field, field}
use Rattle.swc_tree_node.specs.declared.kind.Class.TheVariants as class
use Rattle.swc_tree_node.specs.declared.slot.Content.TheVariants as content
use Rattle.swc_tree_node.specs.declared.slot.Slot.{Slot}
use Rattle.swc_tree_node.specs.declared.slot.Slot.TheVariants as slot
use Rattle.swc_tree_node.specs.Table.{slots_of}
use Rattle.swc_base_fixer_laws.proofs.Up.{AllUp, fields_up}
use Rattle.swc_base_fixer_laws.proofs.Up.AllUp.{nil, cons}

pub both_up : (a b c d : Bool) → (a ≡ true → c ≡ true) → (b ≡ true → d ≡ true) → (a && b) ≡ true → (c && d) ≡ true
both_up a b c d f g h = let q = both a b h in also_both c d (f q.0) (g q.1)

pub not_false : (a : Bool) → not a ≡ true → a ≡ false
not_false true h = absurd (cc)
not_false false h = refl

pub not_up : (a c : Bool) → (a ≡ false → c ≡ false) → not a ≡ true → not c ≡ true
not_up a c f h = rw (f (not_false a h)) refl

pub or_both : (a b d : Bool) → (b ≡ true → d ≡ true) → (a || b) ≡ true → (a || d) ≡ true
or_both true b d f h = refl
or_both false b d f h = f h

-- a demand on one part, which a pair can meet
abbrev pub is_single : Demand → Bool
is_single (EachOf n) = false
is_single d = is_met_by_pairs d

-- where what is asked may not be met, a pair may stand
abbrev pub asks_pair : Demand → Slot → Bool
asks_pair Any s = true
asks_pair Key s = true
asks_pair d s = takes_pair s

abbrev pub all_ask : List Demand → List Slot → Bool
all_ask (d ∷ ds) (s ∷ ss) = asks_pair d s && all_ask ds ss
all_ask _ _ = true

abbrev an_operand : Slot
an_operand = slot.One (content.Node class.Expr)

sides : (op : Option Word') → (is_single (left_side op) ≡ true) × (is_single (right_side op) ≡ true) × (asks_pair (left_side op) an_operand ≡ true) × (asks_pair (right_side op) an_operand ≡ true)
sides (Some word.LogicalOr) = (refl, refl, refl, refl)
sides (Some word.LogicalAnd) = (refl, refl, refl, refl)
sides (Some word.NullishCoalescing) = (refl, refl, refl, refl)
sides (Some word.Exp) = (refl, refl, refl, refl)
sides (Some w) = (refl, refl, refl, refl)
sides None = (refl, refl, refl, refl)

-- the pairs change nothing that is asked, and what is asked can be met by pairs
abbrev pub Asks : Bool → Kind → List Node → List Node → Type 0
Asks b k ts us = (demands b (Node-F.Tree k us) ≡ demands b (Node-F.Tree k ts)) × (list_all is_single (demands b (Node-F.Tree k ts)) ≡ true) × (all_ask (demands b (Node-F.Tree k ts)) (slots_of k) ≡ true)

abbrev pub is_sequence : Kind → Bool
is_sequence kind.SeqExpr = true
is_sequence _ = false

pub asks : (b : Bool) (k : Kind) {ts us : List Node} → AllUp ts us → is_sequence k ≡ false → Asks b k ts us
asks b kind.SeqExpr d n = absurd (cc)
asks b kind.BinExpr (cons s (cons {t = x} o (cons l (cons r nil)))) n = let h = sides (word_of x) in (rw o.word_same refl, rw (h.0, h.1) refl, rw (h.2, h.3) refl)
asks true kind.MemberExpr (cons s (cons o (cons m nil))) n = (refl, refl, refl)
asks false kind.MemberExpr (cons s (cons o (cons m nil))) n = (refl, refl, refl)
asks b kind.AssignExpr (cons s (cons o (cons l (cons r nil)))) n = (refl, refl, refl)
asks b kind.CondExpr (cons s (cons t (cons c (cons a nil)))) n = (refl, refl, refl)
asks b kind.UnaryExpr (cons s (cons o (cons e nil))) n = (refl, refl, refl)
asks b kind.AwaitExpr (cons s (cons e nil)) n = (refl, refl, refl)
asks b kind.UpdateExpr (cons s (cons o (cons f (cons e nil)))) n = (refl, refl, refl)
asks b kind.YieldExpr (cons s (cons e (cons d nil))) n = (refl, refl, refl)
asks b kind.TaggedTpl (cons s (cons e (cons m nil))) n = (refl, refl, refl)
asks b kind.CallExpr (cons s (cons e (cons m nil))) n = (refl, refl, refl)
asks b kind.OptCall (cons s (cons e (cons m nil))) n = (refl, refl, refl)
asks b kind.NewExpr (cons s (cons e (cons a nil))) n = (ap (λ x. Any ∷ NewCallee x ∷ Any ∷ []) a.absent, refl, refl)
asks b kind.ExprOrSpread (cons s (cons e nil)) n = (refl, refl, refl)
asks b kind.SpreadElement (cons s (cons e nil)) n = (refl, refl, refl)
asks b kind.KeyValueProp (cons k (cons e nil)) n = (refl, refl, refl)
asks b kind.MethodProp (cons k (cons f nil)) n = (refl, refl, refl)
asks b kind.GetterProp (cons s (cons k (cons e nil))) n = (refl, refl, refl)
asks b kind.SetterProp (cons s (cons k (cons a (cons e nil)))) n = (refl, refl, refl)
asks b kind.Constructor (cons s (cons k (cons a (cons e nil)))) n = (refl, refl, refl)
asks b kind.ClassMethod (cons s (cons k (cons f (cons w (cons x nil))))) n = (refl, refl, refl)
asks b kind.ClassProp (cons s (cons k (cons e (cons x nil)))) n = (refl, refl, refl)
asks b kind.PrivateProp (cons s (cons k (cons e (cons x nil)))) n = (refl, refl, refl)
asks b kind.ArrowExpr (cons s (cons a (cons e (cons x nil)))) n = (refl, refl, refl)
asks b kind.Class (cons s (cons e (cons c nil))) n = (refl, refl, refl)
asks b kind.VarDeclarator (cons s (cons m (cons e nil))) n = (refl, refl, refl)
asks b kind.AssignPat (cons s (cons l (cons e nil))) n = (refl, refl, refl)
asks b kind.AssignPatProp (cons s (cons k (cons e nil))) n = (refl, refl, refl)
asks b kind.KeyValuePatProp (cons k (cons e nil)) n = (refl, refl, refl)
asks b kind.ExportDefaultExpr (cons s (cons e nil)) n = (refl, refl, refl)
asks b kind.ForOfStmt (cons s (cons w (cons l (cons r (cons e nil))))) n = (refl, refl, refl)
asks b k d n = (refl, refl, refl)

pub single_met : (d : Demand) → is_single d ≡ true → is_met_by_pairs d ≡ true
single_met (EachOf n) h = absurd (cc)
single_met d h = h

each_kept : (ds : List Demand) {ts us : List Node} → AllUp ts us → list_all is_single ds ≡ true → each_meets ds ts ≡ true → each_meets ds us ≡ true
each_kept [] nil m h = refl
each_kept [] (cons c x) m h = refl
each_kept (d ∷ ds) nil m h = refl
each_kept (d ∷ ds) (cons {t = t} {u = u} {ts = ts} {us = us} c x) m h =
    let q = both (is_single d) (list_all is_single ds) m in both_up (meets d t) (each_meets ds ts) (meets d u) (each_meets ds us) (c.met d (single_met d q.0)) (each_kept ds x q.1) h

sequence_kept : (b : Bool) {ts us : List Node} → AllUp ts us → each_meets (demands b (Node-F.Tree kind.SeqExpr ts)) ts ≡ true → each_meets (demands b (Node-F.Tree kind.SeqExpr us)) us ≡ true
sequence_kept b (cons s (cons {t = e} {u = e'} c nil)) h = let q = both (meets (EachOf 2) e) true h in also_both (meets (EachOf 2) e') true (c.met (EachOf 2) refl q.0) refl
sequence_kept b nil h = refl
sequence_kept b (cons s nil) h = refl
sequence_kept b (cons s (cons c (cons d x))) h = refl

fields_kept : (b : Bool) (k : Kind) (x : Bool) {ts us : List Node} → is_sequence k ≡ x → AllUp ts us → each_meets (demands b (Node-F.Tree k ts)) ts ≡ true → each_meets (demands b (Node-F.Tree k us)) us ≡ true
fields_kept b kind.SeqExpr x e d h = sequence_kept b d h
fields_kept b k true e d h = absurd (true≢false (sym e))
fields_kept b k false {ts = ts} {us = us} e d h = let a = asks b k d e in ap (λ ds. each_meets ds us) a.0 ∙ each_kept (demands b (Node-F.Tree k ts)) d a.1 h

span_fine : (s : Range) (c : Bool) → levelled (Span s) c ≡ true
span_fine s c = search (rules, the_lemmas)

around_levelled : (s : Range) (u : Node) → levelled u false ≡ true → levelled (Tree kind.ParenExpr (Span s ∷ u ∷ [])) false ≡ true
around_levelled s u h = levelled_tree kind.ParenExpr (Span s ∷ u ∷ []) false ∙ rw (span_fine s false, h) refl

-- the base of an optional chain stands where no pair may
abbrev Closed : Bool → Slot → Type 0
Closed c s = c ≡ true → takes_pair s ≡ false

abbrev AllClosed : Bool → List Slot → Type 0
AllClosed c ss = c ≡ true → list_all (λ s. not (takes_pair s)) ss ≡ true

chain_closed : (k : Kind) → AllClosed (is_opt_chain k) (slots_of k)
chain_closed kind.OptChainExpr e = refl
chain_closed k e = absurd (cc)

pub off : {A : Type 0} → false ≡ true → A
off e = absurd (cc)

around_kept : (c : Bool) (s : Slot) (r : Range) (t u : Node) → IsTrue (takes_pair s) → Closed c s → (levelled t false ≡ true → levelled u false ≡ true) → levelled t c ≡ true → levelled (Tree kind.ParenExpr (Span r ∷ u ∷ [])) c ≡ true
around_kept true s r t u p w f h = absurd (cc (sym (w refl) ∙ p))
around_kept false s r t u p w f h = around_levelled r u (f h)

first_closed : (c : Bool) (s : Slot) (ss : List Slot) → AllClosed c (s ∷ ss) → Closed c s × AllClosed c ss
first_closed c s ss w = (λ e. not_false (takes_pair s) ((both (not (takes_pair s)) (list_all (λ s. not (takes_pair s)) ss) (w e)).0), λ e. (both (not (takes_pair s)) (list_all (λ s. not (takes_pair s)) ss) (w e)).1)

mutual
  pub levelled_kept : {s : Slot} {t u : Node} → Sets s t u → (c : Bool) → Closed c s → levelled t c ≡ true → levelled u c ≡ true
  levelled_kept (same t) c w h = h
  levelled_kept (after x y) c w h = levelled_kept y c w (levelled_kept x c w h)
  levelled_kept {s = s} (around r t u p q d) c w h = around_kept c s r t u p w (levelled_kept d false (λ e. off e)) h
  levelled_kept (named r k i called) c w h = levelled_tree kind.ParenExpr (Span r ∷ Identifier kind.Ident i ∷ []) c ∙ search (rules, the_lemmas)
  levelled_kept (items ts us d) c w h = levelled_list us c ∙ all_kept d (sym (levelled_list ts c) ∙ h)
  levelled_kept (tree k ts us e d) c w h =
      levelled_tree k us c
      ∙ both_up (each_meets (demands c (Node-F.Tree k ts)) ts) (list_all (λ t. levelled t (is_opt_chain k)) ts) (each_meets (demands c (Node-F.Tree k us)) us) (list_all (λ t. levelled t (is_opt_chain k)) us)
      (fields_kept c k (is_sequence k) refl (fields_up d)) (fields_levelled d (is_opt_chain k) (chain_closed k)) (sym (levelled_tree k ts c) ∙ h)

  all_kept : {s : Slot} {ts us : List Node} → AllSet s ts us → list_all (λ t. levelled t false) ts ≡ true → list_all (λ t. levelled t false) us ≡ true
  all_kept none h = refl
  all_kept (more {t = t} {u = u} {ts = ts} {us = us} x d) h = both_up (levelled t false) (list_all (λ t. levelled t false) ts) (levelled u false) (list_all (λ t. levelled t false) us) (levelled_kept x false (λ e. off e)) (all_kept d) h

  fields_levelled : {ss : List Slot} {ts us : List Node} → FieldsSet ss ts us → (c : Bool) → AllClosed c ss → list_all (λ t. levelled t c) ts ≡ true → list_all (λ t. levelled t c) us ≡ true
  fields_levelled no_field c w h = refl
  fields_levelled (field {s = s} {ss = ss} {t = t} {u = u} {ts = ts} {us = us} x d) c w h =
      let q = first_closed c s ss w in both_up (levelled t c) (list_all (λ t. levelled t c) ts) (levelled u c) (list_all (λ t. levelled t c) us) (levelled_kept x c q.0) (fields_levelled d c q.1) h
