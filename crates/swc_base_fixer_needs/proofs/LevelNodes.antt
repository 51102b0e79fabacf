-- Each pair of the first step has a reason.
use Rattle.std.proofs.Common.{◌≡◌, Bool, true, false, List, [], ◌∷◌, map, refl, sym, ap, subst, ◌∙◌, rules}
use Rattle.swc_tree_node.specs.declared.kind.Kind.{Kind}
use Rattle.swc_tree_node.specs.declared.kind.Kind.TheVariants as kind
use Rattle.swc_tree_node.specs.declared.node.Node.{Node, List as Many, Tree, out-Node, the_lemmas}
use Rattle.swc_tree_node.specs.declared.node.Node.TheOpen.{Node-F}
use Rattle.swc_tree_grammar.specs.Shapes.{items_of}
use Rattle.swc_tree_grammar.specs.Kinds.{is_paren}
use Rattle.swc_tree_grammar.specs.Demands.{demands, meets}
use Rattle.swc_tree_grammar.specs.Demands.Demand.{Any, AtLeast, Each as EachOf, Key}
use Rattle.swc_tree_grammar.specs.Due.{Places, to_level, key_in, each_settled, sequence_statement, level_step}
use Rattle.swc_tree_grammar.specs.Readers.{none as unnamed, named_in}
use Rattle.swc_tree_grammar.proofs.Induction.{Each}
use Rattle.swc_tree_grammar_laws.proofs.Levels.{pairing}
use Rattle.swc_base_fixer_laws.proofs.SetsLevels.{unmet as unmet_pairs}
use Rattle.swc_base_fixer_needs.specs.Sites.{Site, clue, any, asks, leads, in_key, is_base}
use Rattle.swc_base_fixer_needs.specs.Sites.Mode.{Base}
use Rattle.swc_base_fixer_needs.specs.Sites.Opening.{OfStatement as AtStatement}
use Rattle.swc_base_fixer_needs.specs.Sites.Spot.{At}
use Rattle.swc_base_fixer_needs.specs.Reasons.{Label, Due, AllDue, field_labels}
use Rattle.swc_base_fixer_needs.specs.Reasons.Label.{Names, OfStatement, OfItems}
use Rattle.swc_base_fixer_needs.specs.Reasons.Extent.{ByLevel}
use Rattle.swc_base_fixer_needs.specs.Reasons.Due.{unseen, tree}
use Rattle.swc_base_fixer_needs.specs.Reasons.AllDue.{none, more}
use Rattle.swc_base_fixer_needs.proofs.Levels.{one, paired_blank, list_level}
use Rattle.swc_base_fixer_needs.proofs.LevelSteps.{Leveled, made, everywhere}
use Rattle.swc_base_fixer_needs.proofs.LevelTrees.{usual}

-- shapes of which nothing is asked
plain_fields : (p : Places) (ts : List Node) → Each (Leveled p) ts → AllDue ByLevel (field_labels [] (made p ts)) (map (λ c. any) (map clue (made p ts))) (made p ts)
plain_fields p [] q = none
plain_fields p (t ∷ ts) q = more (everywhere p t q.0 unnamed (asks Any true) refl) (plain_fields p ts q.1)

abbrev pub stepped : (p : Places) (k : Kind) (ts : List Node) (b : Bool) → Node
stepped p k ts b = level_step p (Node-F.Tree k (map (pairing p) ts)) b

-- a label that bears on the node
abbrev pub takes_label : Label → Node-F Node → Bool
takes_label OfStatement (Node-F.Tree kind.SeqExpr (s ∷ e ∷ [])) = false
takes_label _ t = true

pub of_tree : (p : Places) (k : Kind) (ts : List Node) (l : Label) (a : Site) → Each (Leveled p) ts → is_paren k ≡ false → takes_label l (Node-F.Tree k ts) ≡ true → Due ByLevel l (At a) (stepped p k ts (is_base a.mode))
of_tree p kind.ParenExpr ts l a q n m = absurd (cc)
of_tree p kind.OptChainExpr (s ∷ o ∷ e ∷ []) l a q n m =
    tree kind.OptChainExpr (pairing p s false ∷ pairing p o false ∷ pairing p e true ∷ []) refl (λ z. absurd (cc))
    (more (unseen (pairing p s false) (λ z. absurd (cc))) (more (unseen (pairing p o false) (λ z. absurd (cc))) (more (q.1.1.0.stands unnamed (record (asks Any a.with_in) { mode = Base; opening = a.opening; optional = (clue (pairing p o false)).flag })) none)))
of_tree p kind.ExprStmt (s ∷ e ∷ []) l a q n m =
    tree kind.ExprStmt (pairing p s false ∷ sequence_statement p (pairing p e false) (out-Node (pairing p e false)) ∷ []) refl (λ z. absurd (cc))
    (more (unseen (pairing p s false) (λ z. absurd (cc))) (more (q.1.0.as_statement (record (asks Any true) { opening = AtStatement }) refl) none))
of_tree p kind.SeqExpr (s ∷ e ∷ []) (Names f) a q n m =
    tree kind.SeqExpr (pairing p s false ∷ Many (map (to_level 2 p) (items_of (pairing p e false))) ∷ []) refl (λ z. absurd (cc))
    (more (unseen (pairing p s false) (λ z. absurd (cc))) (more (list_level 2 p unnamed (leads a (asks (EachOf 2) a.with_in)) (items_of (pairing p e false)) refl refl q.1.0.as_items) none))
of_tree p kind.SeqExpr (s ∷ e ∷ []) OfItems a q n m =
    tree kind.SeqExpr (pairing p s false ∷ Many (map (to_level 2 p) (items_of (pairing p e false))) ∷ []) refl (λ z. absurd (cc))
    (more (unseen (pairing p s false) (λ z. absurd (cc))) (more (list_level 2 p unnamed (leads a (asks (EachOf 2) a.with_in)) (items_of (pairing p e false)) refl refl q.1.0.as_items) none))
of_tree p kind.SeqExpr (s ∷ e ∷ []) OfStatement a q n m = absurd (cc)
of_tree p kind.OptChainExpr [] l a q n m = tree kind.OptChainExpr (made p []) refl (λ z. absurd (cc)) (plain_fields p [] q)
of_tree p kind.OptChainExpr (s ∷ []) l a q n m = tree kind.OptChainExpr (made p (s ∷ [])) refl (λ z. absurd (cc)) (plain_fields p (s ∷ []) q)
of_tree p kind.OptChainExpr (s ∷ t ∷ []) l a q n m = tree kind.OptChainExpr (made p (s ∷ t ∷ [])) refl (λ z. absurd (cc)) (plain_fields p (s ∷ t ∷ []) q)
of_tree p kind.OptChainExpr (s ∷ t ∷ u ∷ v ∷ ts) l a q n m = tree kind.OptChainExpr (made p (s ∷ t ∷ u ∷ v ∷ ts)) refl (λ z. absurd (cc)) (plain_fields p (s ∷ t ∷ u ∷ v ∷ ts) q)
of_tree p kind.ExprStmt [] l a q n m = tree kind.ExprStmt (made p []) refl (λ z. absurd (cc)) (plain_fields p [] q)
of_tree p kind.ExprStmt (s ∷ []) l a q n m = tree kind.ExprStmt (made p (s ∷ [])) refl (λ z. absurd (cc)) (plain_fields p (s ∷ []) q)
of_tree p kind.ExprStmt (s ∷ t ∷ u ∷ ts) l a q n m = tree kind.ExprStmt (made p (s ∷ t ∷ u ∷ ts)) refl (λ z. absurd (cc)) (plain_fields p (s ∷ t ∷ u ∷ ts) q)
of_tree p kind.SeqExpr [] (Names f) a q n m = tree kind.SeqExpr (made p []) refl (λ z. absurd (cc)) (plain_fields p [] q)
of_tree p kind.SeqExpr [] OfStatement a q n m = tree kind.SeqExpr (made p []) refl (λ z. absurd (cc)) (plain_fields p [] q)
of_tree p kind.SeqExpr [] OfItems a q n m = tree kind.SeqExpr (made p []) refl (λ z. absurd (cc)) (plain_fields p [] q)
of_tree p kind.SeqExpr (s ∷ []) (Names f) a q n m = tree kind.SeqExpr (made p (s ∷ [])) refl (λ z. absurd (cc)) (plain_fields p (s ∷ []) q)
of_tree p kind.SeqExpr (s ∷ []) OfStatement a q n m = tree kind.SeqExpr (made p (s ∷ [])) refl (λ z. absurd (cc)) (plain_fields p (s ∷ []) q)
of_tree p kind.SeqExpr (s ∷ []) OfItems a q n m = tree kind.SeqExpr (made p (s ∷ [])) refl (λ z. absurd (cc)) (plain_fields p (s ∷ []) q)
of_tree p kind.SeqExpr (s ∷ t ∷ u ∷ ts) (Names f) a q n m = tree kind.SeqExpr (made p (s ∷ t ∷ u ∷ ts)) refl (λ z. absurd (cc)) (plain_fields p (s ∷ t ∷ u ∷ ts) q)
of_tree p kind.SeqExpr (s ∷ t ∷ u ∷ ts) OfStatement a q n m = tree kind.SeqExpr (made p (s ∷ t ∷ u ∷ ts)) refl (λ z. absurd (cc)) (plain_fields p (s ∷ t ∷ u ∷ ts) q)
of_tree p kind.SeqExpr (s ∷ t ∷ u ∷ ts) OfItems a q n m = tree kind.SeqExpr (made p (s ∷ t ∷ u ∷ ts)) refl (λ z. absurd (cc)) (plain_fields p (s ∷ t ∷ u ∷ ts) q)
of_tree p k ts l a q n m = usual p l a k ts q refl

pub of_tree_at : (p : Places) (k : Kind) (ts : List Node) (l : Label) (a : Site) → Each (Leveled p) ts → is_paren k ≡ false → takes_label l (Node-F.Tree k ts) ≡ true → is_base a.mode ≡ false → Due ByLevel l (At a) (stepped p k ts false)
of_tree_at p k ts l a q n m b = subst (λ x. Due ByLevel l (At a) (stepped p k ts x)) b (of_tree p k ts l a q n m)

-- what is made of a tree is one of its kind
pub record OfKind (k : Kind) (t : Node) : Type 0 where
  pub fields : List Node
  pub same : t ≡ Tree k fields

abbrev pub made_of : (p : Places) (k : Kind) (ts : List Node) → OfKind k (stepped p k ts false)
made_of p kind.OptChainExpr (s ∷ o ∷ e ∷ []) = record { fields = pairing p s false ∷ pairing p o false ∷ pairing p e true ∷ []; same = refl }
made_of p kind.ExprStmt (s ∷ e ∷ []) = record { fields = pairing p s false ∷ sequence_statement p (pairing p e false) (out-Node (pairing p e false)) ∷ []; same = refl }
made_of p k ts = record { fields = each_settled p (demands false (Node-F.Tree k (made p ts))) (named_in (Node-F.Tree k (made p ts))) (made p ts); same = refl }

-- as a key
abbrev is_computed_kind : Kind → Bool
is_computed_kind kind.ComputedPropName = true
is_computed_kind k = false

key_same : (p : Places) (k : Kind) (ts : List Node) → is_computed_kind k ≡ false → key_in p (Tree k ts) (Node-F.Tree k ts) ≡ Tree k ts
key_same p kind.ComputedPropName ts h = absurd (cc)
key_same p k ts h = refl

key_of : (p : Places) (k : Kind) (ts : List Node) → key_in p (Tree k ts) (out-Node (Tree k ts)) ≡ key_in p (Tree k ts) (Node-F.Tree k ts)
key_of p k ts = search (rules, the_lemmas)

keyed : (p : Places) (k : Kind) (u : Node) → OfKind k u → is_computed_kind k ≡ false → key_in p u (out-Node u) ≡ u
keyed p k u x n = subst (λ t. key_in p t (out-Node t) ≡ t) (sym x.same) (key_of p k x.fields ∙ key_same p k x.fields n)

abbrev pub Keyed : Places → Kind → List Node → Type 0
Keyed p k ts = (f : Node → Bool) (a : Site) → is_base a.mode ≡ false → a.demand ≡ Key → Due ByLevel (Names f) (At a) (key_in p (stepped p k ts false) (out-Node (stepped p k ts false)))

pub key_tree : (p : Places) (k : Kind) (ts : List Node) → Each (Leveled p) ts → is_paren k ≡ false → Keyed p k ts
key_tree p kind.ComputedPropName (s ∷ e ∷ []) q n f a b d =
    let e' : Node = pairing p e false in
    let x = one false (meets (AtLeast 2) e') (AtLeast 2) p unnamed (asks (in_key a.demand) true) e' refl refl (λ h. absurd (cc)) (λ h. paired_blank e' (unmet_pairs (AtLeast 2) e' refl h)) (ap in_key d) refl (everywhere p e q.1.0) in
    rw (key_of p kind.ComputedPropName (pairing p s false ∷ e' ∷ []))
    (tree kind.ComputedPropName (pairing p s false ∷ to_level 2 p e' ∷ []) refl (λ z. absurd (cc)) (more (unseen (pairing p s false) (λ z. absurd (cc))) (more x none)))
key_tree p kind.ComputedPropName [] q n f a b d = rw (key_of p kind.ComputedPropName (made p [])) (of_tree_at p kind.ComputedPropName [] (Names f) a q n refl b)
key_tree p kind.ComputedPropName (s ∷ []) q n f a b d = rw (key_of p kind.ComputedPropName (made p (s ∷ []))) (of_tree_at p kind.ComputedPropName (s ∷ []) (Names f) a q n refl b)
key_tree p kind.ComputedPropName (s ∷ t ∷ u ∷ ts) q n f a b d = rw (key_of p kind.ComputedPropName (made p (s ∷ t ∷ u ∷ ts))) (of_tree_at p kind.ComputedPropName (s ∷ t ∷ u ∷ ts) (Names f) a q n refl b)
key_tree p k ts q n f a b d = rw (keyed p k (stepped p k ts false) (made_of p k ts) refl) (of_tree_at p k ts (Names f) a q n refl b)
