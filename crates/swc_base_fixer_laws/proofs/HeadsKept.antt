-- Pairs that are set in a tree bring no bare `in` into a head.
use Rattle.std.proofs.Common.{◌≡◌, Bool, true, false, not, ◌&&◌, ◌||◌, List, [], ◌∷◌, map, refl, sym, ◌∙◌, rules}
use Rattle.std.specs.List.{list_all}
use Rattle.swc_tree_marks.specs.declared.span.Span.{Span as Range}
use Rattle.swc_tree_node.specs.declared.kind.Kind.{Kind}
use Rattle.swc_tree_node.specs.declared.kind.Kind.TheVariants as kind
use Rattle.swc_tree_node.specs.declared.node.Node.{Node, Span, Identifier, Tree, the_lemmas}
use Rattle.swc_tree_node.specs.declared.node.Node.TheOpen.{Node-F}
use Rattle.swc_tree_grammar.specs.Levels.{word_of, is_in}
use Rattle.swc_tree_grammar.specs.Forms.{holds as is_set}
use Rattle.swc_tree_grammar.specs.Grammar.{is_async_name}
use Rattle.swc_tree_grammar.proofs.Induction.{Each, by_children}
use Rattle.swc_tree_grammar_laws.specs.Headed.{headed, heads_in}
use Rattle.swc_tree_grammar_laws.proofs.Levelled.{both}
use Rattle.swc_tree_grammar_laws.proofs.Heads.{judged, whole, headed_tree, headed_list}
use Rattle.swc_base_fixer_laws.specs.Sets.{Sets, AllSet, FieldsSet}
use Rattle.swc_base_fixer_laws.specs.Sets.Sets.{same, after, around, named, items, tree}
use Rattle.swc_base_fixer_laws.specs.Sets.AllSet.{none, more}
use Rattle.swc_base_fixer_laws.specs.Sets.FieldsSet.{nil as no_field, field}
use Rattle.swc_tree_node.specs.declared.slot.Slot.{Slot}
use Rattle.swc_base_fixer_laws.proofs.Kept.{both_up, or_both, not_up}
use Rattle.swc_base_fixer_laws.proofs.Up.{Up, up}

-- where `in` may stand, no more is asked
abbrev Mono : Node → Type 0
Mono t = headed t false ≡ true → headed t true ≡ true

mono_row : (k : Kind) (ts : List Node) → Each Mono ts → heads_in (Node-F.Tree k (map judged ts)) false ≡ true → heads_in (Node-F.Tree k (map judged ts)) true ≡ true
mono_row kind.BinExpr (s ∷ o ∷ f ∷ g ∷ []) l h = both_up (headed f false) (headed g false) (headed f true) (headed g true) l.1.1.0 l.1.1.1.0 ((both (false || not (is_in (word_of (judged o).whole))) (headed f false && headed g false) h).1)
mono_row kind.SeqExpr (s ∷ e ∷ []) l h = l.1.0 h
mono_row kind.AssignExpr (s ∷ o ∷ f ∷ g ∷ []) l h = both_up (headed f false) (headed g false) (headed f true) (headed g true) l.1.1.0 l.1.1.1.0 h
mono_row kind.CondExpr (s ∷ t ∷ e ∷ a ∷ []) l h = both_up (headed t false) (headed e true && headed a false) (headed t true) (headed e true && headed a true) l.1.0 (both_up (headed e true) (headed a false) (headed e true) (headed a true) (λ x. x) l.1.1.1.0) h
mono_row kind.UnaryExpr (s ∷ o ∷ a ∷ []) l h = l.1.1.0 h
mono_row kind.AwaitExpr (s ∷ a ∷ []) l h = l.1.0 h
mono_row kind.UpdateExpr (s ∷ o ∷ f ∷ a ∷ []) l h = l.1.1.1.0 h
mono_row kind.YieldExpr (s ∷ a ∷ d ∷ []) l h = l.1.0 h
mono_row kind.MemberExpr (s ∷ o ∷ m ∷ []) l h = both_up (headed o false) (headed m true) (headed o true) (headed m true) l.1.0 (λ x. x) h
mono_row kind.TaggedTpl (s ∷ o ∷ m ∷ []) l h = both_up (headed o false) (headed m true) (headed o true) (headed m true) l.1.0 (λ x. x) h
mono_row kind.CallExpr (s ∷ o ∷ m ∷ []) l h = both_up (headed o false) (headed m true) (headed o true) (headed m true) l.1.0 (λ x. x) h
mono_row kind.NewExpr (s ∷ o ∷ m ∷ []) l h = both_up (headed o false) (headed m true) (headed o true) (headed m true) l.1.0 (λ x. x) h
mono_row kind.OptCall (s ∷ o ∷ m ∷ []) l h = both_up (headed o false) (headed m true) (headed o true) (headed m true) l.1.0 (λ x. x) h
mono_row kind.OptChainExpr (s ∷ o ∷ m ∷ []) l h = l.1.1.0 h
mono_row kind.ArrowExpr (s ∷ a ∷ e ∷ f ∷ []) l h = both_up (headed a true) (headed e false) (headed a true) (headed e true) (λ x. x) l.1.1.0 h
mono_row kind.VarDecl (s ∷ w ∷ d ∷ []) l h = l.1.1.0 h
mono_row kind.VarDeclarator (s ∷ n ∷ i ∷ []) l h = both_up (headed n false) (headed i false) (headed n true) (headed i true) l.1.0 l.1.1.0 h
mono_row kind.AssignPat (s ∷ f ∷ a ∷ []) l h = both_up (headed f false) (headed a false) (headed f true) (headed a true) l.1.0 l.1.1.0 h
mono_row kind.RestPat (s ∷ a ∷ []) l h = l.1.0 h
mono_row kind.ForStmt (s ∷ i ∷ t ∷ u ∷ e ∷ []) l h = h
mono_row kind.ForInStmt (s ∷ i ∷ r ∷ e ∷ []) l h = h
mono_row kind.ForOfStmt (s ∷ w ∷ i ∷ r ∷ e ∷ []) l h = h
mono_row k ts l h = h

mono_each : (ts : List Node) → Each Mono ts → list_all (λ e. e.holds false) (map judged ts) ≡ true → list_all (λ e. e.holds true) (map judged ts) ≡ true
mono_each [] l h = refl
mono_each (t ∷ ts) l h = both_up (headed t false) (list_all (λ e. e.holds false) (map judged ts)) (headed t true) (list_all (λ e. e.holds true) (map judged ts)) l.0 (mono_each ts l.1) h

pub mono : (t : Node) → Mono t
mono t = by_children Mono
    (λ h. search (rules, the_lemmas), λ x h. search (rules, the_lemmas), λ w h. search (rules, the_lemmas), λ x h. search (rules, the_lemmas), λ s h. search (rules, the_lemmas), λ k i h. search (rules, the_lemmas))
    (λ ts l h. headed_list ts true ∙ mono_each ts l (sym (headed_list ts false) ∙ h))
    (λ k ts l h. headed_tree k ts true ∙ mono_row k ts l (sym (headed_tree k ts false) ∙ h)) t

more_free : (t : Node) (b : Bool) → headed t b ≡ true → headed t true ≡ true
more_free t true h = h
more_free t false h = mono t h

-- what is kept below is kept above
record Keeps (t u : Node) : Type 0 where
  keeps : (b : Bool) → headed t b ≡ true → headed u b ≡ true

data AllKeep : List Node → List Node → Type 0 where
  nil : AllKeep [] []
  cons : {t u : Node} {ts us : List Node} → Up t u → Keeps t u → AllKeep ts us → AllKeep (t ∷ ts) (u ∷ us)

two_keep : {f f' g g' : Node} (b d : Bool) → Keeps f f' → Keeps g g' → (headed f b && headed g d) ≡ true → (headed f' b && headed g' d) ≡ true
two_keep {f = f} {f' = f'} {g = g} {g' = g'} b d x y h = both_up (headed f b) (headed g d) (headed f' b) (headed g' d) (x.keeps b) (y.keeps d) h

three_keep : {t t' e e' a a' : Node} (b c d : Bool) → Keeps t t' → Keeps e e' → Keeps a a' → (headed t b && (headed e c && headed a d)) ≡ true → (headed t' b && (headed e' c && headed a' d)) ≡ true
three_keep {t = t} {t' = t'} {e = e} {e' = e'} {a = a} {a' = a'} b c d x y z h = both_up (headed t b) (headed e c && headed a d) (headed t' b) (headed e' c && headed a' d) (x.keeps b) (two_keep c d y z) h

each_keep : {ts us : List Node} (b : Bool) → AllKeep ts us → list_all (λ e. e.holds b) (map judged ts) ≡ true → list_all (λ e. e.holds b) (map judged us) ≡ true
each_keep b nil h = refl
each_keep b (cons {t = t} {u = u} {ts = ts} {us = us} w x d) h = both_up (headed t b) (list_all (λ e. e.holds b) (map judged ts)) (headed u b) (list_all (λ e. e.holds b) (map judged us)) (x.keeps b) (each_keep b d) h

binary_keep : {o o' f f' g g' : Node} (b : Bool) → Up o o' → Keeps f f' → Keeps g g' → ((b || not (is_in (word_of (judged o).whole))) && (headed f b && headed g b)) ≡ true
    → ((b || not (is_in (word_of (judged o').whole))) && (headed f' b && headed g' b)) ≡ true
binary_keep {o = o} {o' = o'} {f = f} {f' = f'} {g = g} {g' = g'} b w x y h =
    let h' = rw (whole o) at h in
    rw (whole o', w.word_same) (both_up (b || not (is_in (word_of o))) (headed f b && headed g b) (b || not (is_in (word_of o))) (headed f' b && headed g' b) (λ q. q) (two_keep b b x y) h')

of_keep : {w w' i i' r r' e e' : Node} → Up w w' → Up i i' → Keeps i i' → Keeps r r' → Keeps e e'
    → ((is_set (judged w).whole || not (is_async_name (judged i).whole)) && (headed i false && (headed r true && headed e true))) ≡ true
    → ((is_set (judged w').whole || not (is_async_name (judged i').whole)) && (headed i' false && (headed r' true && headed e' true))) ≡ true
of_keep {w = w} {w' = w'} {i = i} {i' = i'} {r = r} {r' = r'} {e = e} {e' = e'} a b x y z h =
    let h' = rw (whole w, whole i) at h in
    rw (whole w', whole i', a.flag) (both_up (is_set w || not (is_async_name i)) (headed i false && (headed r true && headed e true)) (is_set w || not (is_async_name i')) (headed i' false && (headed r' true && headed e' true))
    (or_both (is_set w) (not (is_async_name i)) (not (is_async_name i')) (not_up (is_async_name i) (is_async_name i') b.async)) (three_keep false true true x y z) h')

four_keep : {i i' t t' u u' e e' : Node} → Keeps i i' → Keeps t t' → Keeps u u' → Keeps e e' → (headed i false && (headed t true && (headed u true && headed e true))) ≡ true → (headed i' false && (headed t' true && (headed u' true && headed e' true))) ≡ true
four_keep {i = i} {i' = i'} {t = t} {t' = t'} {u = u} {u' = u'} {e = e} {e' = e'} x y z w h = both_up (headed i false) (headed t true && (headed u true && headed e true)) (headed i' false) (headed t' true && (headed u' true && headed e' true)) (x.keeps false) (three_keep true true true y z w) h

row : (k : Kind) {ts us : List Node} → AllKeep ts us → (b : Bool) → heads_in (Node-F.Tree k (map judged ts)) b ≡ true → heads_in (Node-F.Tree k (map judged us)) b ≡ true
row kind.BinExpr (cons _ _ (cons w _ (cons _ x (cons _ y nil)))) b h = binary_keep b w x y h
row kind.SeqExpr (cons _ _ (cons _ x nil)) b h = x.keeps b h
row kind.AssignExpr (cons _ _ (cons _ _ (cons _ x (cons _ y nil)))) b h = two_keep b b x y h
row kind.CondExpr (cons _ _ (cons _ x (cons _ y (cons _ z nil)))) b h = three_keep b true b x y z h
row kind.UnaryExpr (cons _ _ (cons _ _ (cons _ x nil))) b h = x.keeps b h
row kind.AwaitExpr (cons _ _ (cons _ x nil)) b h = x.keeps b h
row kind.UpdateExpr (cons _ _ (cons _ _ (cons _ _ (cons _ x nil)))) b h = x.keeps b h
row kind.YieldExpr (cons _ _ (cons _ x (cons _ _ nil))) b h = x.keeps b h
row kind.MemberExpr (cons _ _ (cons _ x (cons _ y nil))) b h = two_keep b true x y h
row kind.TaggedTpl (cons _ _ (cons _ x (cons _ y nil))) b h = two_keep b true x y h
row kind.CallExpr (cons _ _ (cons _ x (cons _ y nil))) b h = two_keep b true x y h
row kind.NewExpr (cons _ _ (cons _ x (cons _ y nil))) b h = two_keep b true x y h
row kind.OptCall (cons _ _ (cons _ x (cons _ y nil))) b h = two_keep b true x y h
row kind.OptChainExpr (cons _ _ (cons _ _ (cons _ x nil))) b h = x.keeps b h
row kind.ArrowExpr (cons _ _ (cons _ x (cons _ y (cons _ _ nil)))) b h = two_keep true b x y h
row kind.VarDecl (cons _ _ (cons _ _ (cons _ x nil))) b h = x.keeps b h
row kind.VarDeclarator (cons _ _ (cons _ x (cons _ y nil))) b h = two_keep b b x y h
row kind.AssignPat (cons _ _ (cons _ x (cons _ y nil))) b h = two_keep b b x y h
row kind.RestPat (cons _ _ (cons _ x nil)) b h = x.keeps b h
row kind.ForStmt (cons _ _ (cons _ x (cons _ y (cons _ z (cons _ w nil))))) b h = four_keep x y z w h
row kind.ForInStmt (cons _ _ (cons _ x (cons _ y (cons _ z nil)))) b h = three_keep false true true x y z h
row kind.ForOfStmt (cons _ _ (cons a _ (cons c x (cons _ y (cons _ z nil))))) b h = of_keep a c x y z h
row k d b h = each_keep true d h

around_headed : (s : Range) (u : Node) (b : Bool) → headed u true ≡ true → headed (Tree kind.ParenExpr (Span s ∷ u ∷ [])) b ≡ true
around_headed s u b h = let e : (r : Node) → headed (Tree kind.ParenExpr (Span s ∷ u ∷ [])) b ≡ (true && (headed u true && true)) = λ r. search (rules, the_lemmas) in e u ∙ rw h refl

mutual
  keep : {s : Slot} {t u : Node} → Sets s t u → Keeps t u
  keep (same t) = record { keeps = λ b h. h }
  keep (after c d) = let x = keep c in let y = keep d in record { keeps = λ b h. y.keeps b (x.keeps b h) }
  keep (around r t u p q d) = let x = keep d in record { keeps = λ b h. around_headed r u b (more_free u b (x.keeps b h)) }
  keep (named r k i called) = record { keeps = λ b h. around_headed r (Identifier kind.Ident i) b (search (rules, the_lemmas)) }
  keep (items ts us d) = let x = all_keep d in record { keeps = λ b h. headed_list us b ∙ each_keep b x (sym (headed_list ts b) ∙ h) }
  keep (tree k ts us e d) = let x = fields_keep d in record { keeps = λ b h. headed_tree k us b ∙ row k x b (sym (headed_tree k ts b) ∙ h) }

  all_keep : {s : Slot} {ts us : List Node} → AllSet s ts us → AllKeep ts us
  all_keep none = nil
  all_keep (more c d) = cons (up c) (keep c) (all_keep d)

  fields_keep : {ss : List Slot} {ts us : List Node} → FieldsSet ss ts us → AllKeep ts us
  fields_keep no_field = nil
  fields_keep (field c d) = cons (up c) (keep c) (fields_keep d)

pub headed_kept : {s : Slot} {t u : Node} → Sets s t u → (b : Bool) → headed t b ≡ true → headed u b ≡ true
headed_kept d b h = let x = keep d in x.keeps b h
