-- The pair round what comes first is one of the pairs that may be set.
use Rattle.std.proofs.Common.{◌≡◌, Bool, true, false, ◌&&◌, IsTrue, List, [], ◌∷◌, map, refl, sym, ap, ◌∙◌, rules, true≢false}
use Rattle.std.specs.Prelude.{if◌then◌else◌}
use Rattle.swc_tree_node.specs.declared.kind.Kind.{Kind}
use Rattle.swc_tree_node.specs.declared.kind.Kind.TheVariants as kind
use Rattle.swc_tree_node.specs.declared.node.Node.{Node, Absent, Flag, Word, Text, Span, List as Many, Identifier, Tree, fold-Node, the_lemmas}
use Rattle.swc_tree_node.specs.declared.node.Node.TheOpen.{Node-F}
use Rattle.swc_tree_grammar.specs.Kinds.{has_kind, is_paren, is_object_pattern}
use Rattle.swc_tree_grammar.specs.Starts.{Start, Begun, start, start_in, start_step, is_let_bracket}
use Rattle.swc_tree_grammar.specs.Starts.Start.{LetBracket, Other}
use Rattle.swc_tree_grammar.specs.Forms.{holds as is_set}
use Rattle.swc_tree_grammar.specs.Blocks.{span_of}
use Rattle.swc_tree_grammar.specs.Due.{Places, pair, first_in}
use Rattle.swc_tree_grammar.proofs.Induction.{Each, by_children}
use Rattle.swc_tree_grammar_laws.proofs.Begins.{spined, first_paired, spine_whole, first_of_tree, first_of_list, start_tree, start_list}
use Rattle.swc_base_fixer_laws.specs.Sets.{Sets, pairable, can_pair}
use Rattle.swc_base_fixer_laws.specs.Sets.Sets.{same, around, items, tree}
use Rattle.swc_base_fixer_laws.specs.Sets.AllSet.{more}
use Rattle.swc_base_fixer_laws.proofs.Up.{kind_of_tree}
use Rattle.swc_base_fixer_laws.proofs.ElseKept.{pairable_tree}
use Rattle.swc_base_fixer_laws.specs.Sets.FieldsSet.{nil, field}
use Rattle.swc_base_fixer_laws.proofs.Kept.{off}
use Rattle.swc_base_fixer_laws.proofs.SetsLevels.{all_same, expressions}
use Rattle.swc_tree_node.specs.declared.kind.Class.{Class}
use Rattle.swc_tree_node.specs.declared.kind.Class.TheVariants as class
use Rattle.swc_tree_node.specs.declared.slot.Content.TheVariants as content
use Rattle.swc_tree_node.specs.Table.{slots_of}
use Rattle.swc_tree_node.specs.Fits.{Fits, FieldsFit, belongs}
use Rattle.swc_tree_node.proofs.Fit.{fits-List, fits-Tree, tree_opens, list_opens}
use Rattle.swc_tree_grammar_laws.proofs.Blocked.{no}
use Rattle.swc_tree_grammar.proofs.Places.{one}

-- what some place refuses
abbrev pub blocked : Start → Bool
blocked Other = false
blocked _ = true

blocked_else : (b : Bool) (s : Start) → blocked (if b then Other else s) ≡ true → blocked s ≡ true
blocked_else true s h = absurd (cc)
blocked_else false s h = h

abbrev begun_of : Node → Begun
begun_of = fold-Node Begun start_step

-- where a pair may not stand, there is none
abbrev Bare : Class → Node → Type 0
Bare c u = belongs kind.ParenExpr c ≡ false → has_kind is_paren u ≡ false

-- a place that takes no function without a name of its own, and an object pattern only where none stands
abbrev Room : Class → Node → Type 0
Room c t = (belongs kind.Function c ≡ false) × (belongs kind.ObjectPat c ≡ true → has_kind is_object_pattern t ≡ false)

abbrev FirstOne : Places → Node → Type 0
FirstOne p t = (c : Class) → Fits t (one c) → Room c t → blocked (start t) ≡ true → Bare c (first_paired p t) → Sets (one c) t (first_paired p t)

abbrev FirstItem : Places → Node → Type 0
FirstItem p t = Fits t expressions → blocked (start t) ≡ true → Sets expressions t (first_paired p t)

abbrev First : Places → Node → Type 0
First p t = FirstOne p t × FirstItem p t

whole_if : (x : Bool) (p : Places) (c : Class) (t : Node) → belongs kind.ParenExpr c ≡ x → IsTrue (pairable t) → Bare c (pair p t) → Sets (one c) t (pair p t)
whole_if true p c t e h b = around (p (span_of t)) t t e h (same t)
whole_if false p c t e h b = absurd (cc (sym (kind_of_tree is_paren kind.ParenExpr (Span (p (span_of t)) ∷ t ∷ [])) ∙ b e))

whole : (p : Places) (c : Class) (t : Node) → IsTrue (pairable t) → Bare c (pair p t) → Sets (one c) t (pair p t)
whole p c t h b = whole_if (belongs kind.ParenExpr c) p c t refl h b

whole_tree : (p : Places) (c : Class) (k : Kind) (ts : List Node) → can_pair k ≡ true → Bare c (pair p (Tree k ts)) → Sets (one c) (Tree k ts) (pair p (Tree k ts))
whole_tree p c k ts h b = whole p c (Tree k ts) (pairable_tree k ts ∙ h) b

chosen : (x : Bool) (p : Places) (c : Class) (t u : Node) → IsTrue (pairable t) → Bare c (if x then pair p t else u) → (x ≡ false → Sets (one c) t u) → Sets (one c) t (if x then pair p t else u)
chosen true p c t u h b f = whole p c t h b
chosen false p c t u h b f = f refl

-- the fields that come first
pub in_expr : (p : Places) (t : Node) → First p t → Fits t (one class.Expr) → blocked (start t) ≡ true → Sets (one class.Expr) t (first_paired p t)
in_expr p t l f h = l.0 class.Expr f (refl, λ e. off e) h (λ e. off (sym e))

row : (p : Places) (q : Class) (k : Kind) (ts : List Node) → Each (First p) ts → Fits (Tree k ts) (one q) → Room q (Tree k ts) → FieldsFit (slots_of k) ts → blocked (start_in (Tree k ts) (Node-F.Tree k (map begun_of ts))) ≡ true
    → Bare q (first_in p (Tree k ts) (Node-F.Tree k (map (spined p) ts))) → Sets (one q) (Tree k ts) (first_in p (Tree k ts) (Node-F.Tree k (map (spined p) ts)))
row p q kind.SeqExpr (s ∷ e ∷ []) l x w a h b =
    rw (spine_whole p s) (tree kind.SeqExpr (s ∷ e ∷ []) (s ∷ first_paired p e ∷ []) refl (field (same s) (field (l.1.0.1 a.1.0 h) nil)))
row p q kind.AssignExpr (s ∷ o ∷ f ∷ r ∷ []) l x w a h b =
    chosen (has_kind is_object_pattern (spined p f).whole) p q (Tree kind.AssignExpr (s ∷ o ∷ f ∷ r ∷ [])) (Tree kind.AssignExpr ((spined p s).whole ∷ (spined p o).whole ∷ first_paired p f ∷ (spined p r).whole ∷ [])) (pairable_tree kind.AssignExpr (s ∷ o ∷ f ∷ r ∷ [])) b
    (λ y. rw (spine_whole p s, spine_whole p o, spine_whole p r) (tree kind.AssignExpr (s ∷ o ∷ f ∷ r ∷ []) (s ∷ o ∷ first_paired p f ∷ r ∷ []) refl (field (same s) (field (same o) (field (l.1.1.0.0 class.AssignTarget a.1.1.0 (refl, λ e. ap (has_kind is_object_pattern) (sym (spine_whole p f)) ∙ y) h (λ e. off (sym e))) (field (same r) nil))))))
row p q kind.CondExpr (s ∷ o ∷ f ∷ r ∷ []) l x w a h b =
    rw (spine_whole p s, spine_whole p f, spine_whole p r) (tree kind.CondExpr (s ∷ o ∷ f ∷ r ∷ []) (s ∷ first_paired p o ∷ f ∷ r ∷ []) refl (field (same s) (field (in_expr p o l.1.0 a.1.0 h) (field (same f) (field (same r) nil)))))
row p q kind.BinExpr (s ∷ o ∷ f ∷ r ∷ []) l x w a h b =
    rw (spine_whole p s, spine_whole p o, spine_whole p r) (tree kind.BinExpr (s ∷ o ∷ f ∷ r ∷ []) (s ∷ o ∷ first_paired p f ∷ r ∷ []) refl (field (same s) (field (same o) (field (in_expr p f l.1.1.0 a.1.1.0 h) (field (same r) nil)))))
row p q kind.UpdateExpr (s ∷ o ∷ f ∷ r ∷ []) l x w a h b =
    rw (spine_whole p s, spine_whole p o, spine_whole p f)
    (tree kind.UpdateExpr (s ∷ o ∷ f ∷ r ∷ []) (s ∷ o ∷ f ∷ first_paired p r ∷ []) refl (field (same s) (field (same o) (field (same f) (field (in_expr p r l.1.1.1.0 a.1.1.1.0 (blocked_else (is_set (begun_of f).whole) (start r) h)) nil)))))
row p q kind.MemberExpr (s ∷ o ∷ m ∷ []) l x w a h b =
    chosen (is_let_bracket (Tree kind.MemberExpr (s ∷ o ∷ m ∷ []))) p q (Tree kind.MemberExpr (s ∷ o ∷ m ∷ [])) (Tree kind.MemberExpr ((spined p s).whole ∷ first_paired p o ∷ (spined p m).whole ∷ [])) (pairable_tree kind.MemberExpr (s ∷ o ∷ m ∷ [])) b
    (λ x. rw (spine_whole p s, spine_whole p m) (tree kind.MemberExpr (s ∷ o ∷ m ∷ []) (s ∷ first_paired p o ∷ m ∷ []) refl (field (same s) (field (in_expr p o l.1.0 a.1.0 (ap (λ x. blocked (if x then LetBracket else start o)) (sym x) ∙ h)) (field (same m) nil)))))
row p q kind.TaggedTpl (s ∷ o ∷ m ∷ []) l x w a h b =
    rw (spine_whole p s, spine_whole p m) (tree kind.TaggedTpl (s ∷ o ∷ m ∷ []) (s ∷ first_paired p o ∷ m ∷ []) refl (field (same s) (field (in_expr p o l.1.0 a.1.0 h) (field (same m) nil))))
row p q kind.CallExpr (s ∷ o ∷ m ∷ []) l x w a h b =
    rw (spine_whole p s, spine_whole p m) (tree kind.CallExpr (s ∷ o ∷ m ∷ []) (s ∷ first_paired p o ∷ m ∷ []) refl (field (same s) (field (l.1.0.0 class.Callee a.1.0 (refl, λ e. off e) h (λ e. off (sym e))) (field (same m) nil))))
row p q kind.OptCall (s ∷ o ∷ m ∷ []) l x w a h b =
    rw (spine_whole p s, spine_whole p m) (tree kind.OptCall (s ∷ o ∷ m ∷ []) (s ∷ first_paired p o ∷ m ∷ []) refl (field (same s) (field (in_expr p o l.1.0 a.1.0 h) (field (same m) nil))))
row p q kind.OptChainExpr (s ∷ o ∷ m ∷ []) l x w a h b =
    chosen (has_kind is_paren (first_paired p m)) p q (Tree kind.OptChainExpr (s ∷ o ∷ m ∷ [])) (Tree kind.OptChainExpr ((spined p s).whole ∷ (spined p o).whole ∷ first_paired p m ∷ [])) (pairable_tree kind.OptChainExpr (s ∷ o ∷ m ∷ [])) b
    (λ x. rw (spine_whole p s, spine_whole p o) (tree kind.OptChainExpr (s ∷ o ∷ m ∷ []) (s ∷ o ∷ first_paired p m ∷ []) refl
    (field (same s) (field (same o) (field (l.1.1.0.0 class.OptChainBase a.1.1.0 (refl, λ e. off e) (blocked_else (is_set (begun_of o).whole && is_let_bracket (begun_of m).whole) (start m) h) (λ e. x)) nil)))))
row p q kind.ObjectLit ts l x w a h b = whole_tree p q kind.ObjectLit ts refl b
row p q kind.ObjectPat ts l x w a h b = absurd (cc (sym (kind_of_tree is_object_pattern kind.ObjectPat ts) ∙ w.1 ((tree_opens kind.ObjectPat ts q x).1)))
row p q kind.ClassExpr ts l x w a h b = whole_tree p q kind.ClassExpr ts refl b
row p q kind.FnExpr ts l x w a h b = whole_tree p q kind.FnExpr ts refl b
row p q kind.Function ts l x w a h b = absurd (cc (sym w.0 ∙ (tree_opens kind.Function ts q x).1))
row p q k ts l x w a h b = absurd (true≢false (sym h))

-- every node
no_one : (p : Places) (t : Node) → blocked (start t) ≡ false → First p t
no_one p t e = (λ c f w h b. absurd (cc), λ f h. absurd (cc))

first_items : (p : Places) (ts : List Node) → Each (First p) ts → FirstItem p (Many ts)
first_items p [] l f h = let e : blocked (start (Many [])) ≡ false = search (rules, the_lemmas) in absurd (cc (sym e ∙ h))
first_items p (t ∷ ts) l f h =
    let a = list_opens (t ∷ ts) (content.Node class.Expr) f in
    rw (first_of_list p t ts) (items (t ∷ ts) (first_paired p t ∷ ts) (more (in_expr p t l.0 a.0 (ap blocked (sym (start_list t ts)) ∙ h)) (all_same ts)))

pub first : (p : Places) (t : Node) → First p t
first p t = by_children (First p)
    (no_one p Absent (search (rules, the_lemmas)), λ x. no_one p (Flag x) (search (rules, the_lemmas)), λ w. no_one p (Word w) (search (rules, the_lemmas)), λ x. no_one p (Text x) (search (rules, the_lemmas)), λ s. no_one p (Span s) (search (rules, the_lemmas)), λ k i. no_one p (Identifier k i) (search (rules, the_lemmas)))
    (λ ts l. (λ c f w h b. absurd (no (sym (fits-List ts (one c)) ∙ f)), first_items p ts l))
    (λ k ts l. (
      λ c f w h b. rw (first_of_tree p k ts) (row p c k ts l f w (tree_opens k ts c f).2 (ap blocked (sym (start_tree k ts)) ∙ h) (λ x. ap (has_kind is_paren) (sym (first_of_tree p k ts)) ∙ b x)),
      λ f h. absurd (no (sym (fits-Tree k ts expressions) ∙ f)),
    )) t
