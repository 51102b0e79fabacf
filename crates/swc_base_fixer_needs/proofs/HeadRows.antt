-- Each pair has a reason after the second step: one node.
use Rattle.std.proofs.Common.{◌≡◌, Bool, true, false, List, [], ◌∷◌, map, refl, ap}
use Rattle.swc_tree_node.specs.declared.kind.Kind.{Kind}
use Rattle.swc_tree_node.specs.declared.kind.Kind.TheVariants as kind
use Rattle.swc_tree_node.specs.declared.node.Node.{Node}
use Rattle.swc_tree_node.specs.declared.node.Node.TheOpen.{Node-F}
use Rattle.swc_tree_grammar.specs.Due.{Places}
use Rattle.swc_tree_grammar_laws.proofs.Heads.{heading}
use Rattle.swc_base_fixer_needs.specs.Sites.{Opening, Site, Spot, clue, spots}
use Rattle.swc_base_fixer_needs.specs.Sites.Opening.{Anything}
use Rattle.swc_base_fixer_needs.specs.Sites.Spot.{Hidden, At}
use Rattle.swc_base_fixer_needs.specs.Reasons.{Label, labels, Due}
use Rattle.swc_base_fixer_needs.specs.Reasons.Extent.{Reasoned}
use Rattle.swc_base_fixer_needs.specs.Reasons.Due.{unseen, tree}
use Rattle.swc_base_fixer_needs.specs.Reasons.AllDue.{none, more}
use Rattle.swc_base_fixer_needs.proofs.HeadViews.{headed, heading_clue}

-- the same place where `in` may stand or not, with another start
abbrev pub move : Site → Bool → Bool → Opening → Bool → Site
move a w x o y = record a { with_in = w; before_of = x; opening = o; optional = y }

-- a node after the second step, wherever it stands but for its level
abbrev pub Family : Places → Label → Site → Node → Type 0
Family p l a t = (w x : Bool) (o : Opening) (y v : Bool) → (v ≡ false → w ≡ false) → Due Reasoned l (At (move a w x o y)) (heading p t v)

abbrev pub Ready : Places → Label → Spot → Node → Type 0
Ready p l Hidden t = Unit {0}
Ready p l (At a) t = Family p l a t

abbrev pub Readys : Places → List Label → List Spot → List Node → Type 0
Readys p [] [] [] = Unit {0}
Readys p (l ∷ ls) (s ∷ ss) (t ∷ ts) = Ready p l s t × Readys p ls ss ts
Readys p _ _ _ = ⊥

abbrev pub Family' : Places → Label → Site → Kind → List Node → Type 0
Family' p l a k ts = (w x : Bool) (o : Opening) (y v : Bool) → (v ≡ false → w ≡ false) → Due Reasoned l (At (move a w x o y)) (headed p k ts v)

abbrev pub Rows : Places → Label → Site → Kind → List Node → Type 0
Rows p l a k ts = Readys p (labels l (Node-F.Tree k ts)) (spots a (Node-F.Tree k (map clue ts))) ts → Family' p l a k ts

pub assign : (p : Places) (l : Label) (a : Site) (s q t u : Node) → Rows p l a kind.AssignExpr (s ∷ q ∷ t ∷ u ∷ [])
assign p l a s q t u f w x o y v h = tree kind.AssignExpr (heading p s true ∷ heading p q true ∷ heading p t v ∷ heading p u v ∷ []) refl (λ z. absurd (cc)) (more (unseen (heading p s true) (λ z. absurd (cc))) (more (unseen (heading p q true) (λ z. absurd (cc))) (more (f.1.1.0 w false o false v h) (more (f.1.1.1.0 w false Anything false v h) none))))

pub cond : (p : Places) (l : Label) (a : Site) (s t b c : Node) → Rows p l a kind.CondExpr (s ∷ t ∷ b ∷ c ∷ [])
cond p l a s t b c f w x o y v h = tree kind.CondExpr (heading p s true ∷ heading p t v ∷ heading p b true ∷ heading p c v ∷ []) refl (λ z. absurd (cc)) (more (unseen (heading p s true) (λ z. absurd (cc))) (more (f.1.0 w false o false v h) (more (f.1.1.0 true false Anything false true (λ z. absurd (cc))) (more (f.1.1.1.0 w false Anything false v h) none))))

pub unary : (p : Places) (l : Label) (a : Site) (s q t : Node) → Rows p l a kind.UnaryExpr (s ∷ q ∷ t ∷ [])
unary p l a s q t f w x o y v h = tree kind.UnaryExpr (heading p s true ∷ heading p q true ∷ heading p t v ∷ []) refl (λ z. absurd (cc)) (more (unseen (heading p s true) (λ z. absurd (cc))) (more (unseen (heading p q true) (λ z. absurd (cc))) (more (f.1.1.0 w false Anything false v h) none)))

pub await : (p : Places) (l : Label) (a : Site) (s t : Node) → Rows p l a kind.AwaitExpr (s ∷ t ∷ [])
await p l a s t f w x o y v h = tree kind.AwaitExpr (heading p s true ∷ heading p t v ∷ []) refl (λ z. absurd (cc)) (more (unseen (heading p s true) (λ z. absurd (cc))) (more (f.1.0 w false Anything false v h) none))

pub yield : (p : Places) (l : Label) (a : Site) (s t d : Node) → Rows p l a kind.YieldExpr (s ∷ t ∷ d ∷ [])
yield p l a s t d f w x o y v h = tree kind.YieldExpr (heading p s true ∷ heading p t v ∷ heading p d true ∷ []) refl (λ z. absurd (cc)) (more (unseen (heading p s true) (λ z. absurd (cc))) (more (f.1.0 w false Anything false v h) (more (unseen (heading p d true) (λ z. absurd (cc))) none)))

pub member : (p : Places) (l : Label) (a : Site) (s t m : Node) → Rows p l a kind.MemberExpr (s ∷ t ∷ m ∷ [])
member p l a s t m f w x o y v h = tree kind.MemberExpr (heading p s true ∷ heading p t v ∷ heading p m true ∷ []) refl (λ z. absurd (cc)) (more (unseen (heading p s true) (λ z. absurd (cc))) (more (f.1.0 w false o false v h) (more (f.1.1.0 true false Anything false true (λ z. absurd (cc))) none)))

pub tagged : (p : Places) (l : Label) (a : Site) (s t m : Node) → Rows p l a kind.TaggedTpl (s ∷ t ∷ m ∷ [])
tagged p l a s t m f w x o y v h = tree kind.TaggedTpl (heading p s true ∷ heading p t v ∷ heading p m true ∷ []) refl (λ z. absurd (cc)) (more (unseen (heading p s true) (λ z. absurd (cc))) (more (f.1.0 w false o false v h) (more (f.1.1.0 true false Anything false true (λ z. absurd (cc))) none)))

pub call : (p : Places) (l : Label) (a : Site) (s t m : Node) → Rows p l a kind.CallExpr (s ∷ t ∷ m ∷ [])
call p l a s t m f w x o y v h = tree kind.CallExpr (heading p s true ∷ heading p t v ∷ heading p m true ∷ []) refl (λ z. absurd (cc)) (more (unseen (heading p s true) (λ z. absurd (cc))) (more (f.1.0 w false o false v h) (more (f.1.1.0 true false Anything false true (λ z. absurd (cc))) none)))

pub opt_call : (p : Places) (l : Label) (a : Site) (s t m : Node) → Rows p l a kind.OptCall (s ∷ t ∷ m ∷ [])
opt_call p l a s t m f w x o y v h = tree kind.OptCall (heading p s true ∷ heading p t v ∷ heading p m true ∷ []) refl (λ z. absurd (cc)) (more (unseen (heading p s true) (λ z. absurd (cc))) (more (f.1.0 w false o false v h) (more (f.1.1.0 true false Anything false true (λ z. absurd (cc))) none)))

pub new : (p : Places) (l : Label) (a : Site) (s t m : Node) → Rows p l a kind.NewExpr (s ∷ t ∷ m ∷ [])
new p l a s t m f w x o y v h =
    tree kind.NewExpr (heading p s true ∷ heading p t v ∷ heading p m true ∷ []) refl (λ z. absurd (cc))
    (rw (ap (λ c. c.absent) (heading_clue p m true)) (more (unseen (heading p s true) (λ z. absurd (cc))) (more (f.1.0 w false Anything false v h) (more (f.1.1.0 true false Anything false true (λ z. absurd (cc))) none))))

pub chain : (p : Places) (l : Label) (a : Site) (s q t : Node) → Rows p l a kind.OptChainExpr (s ∷ q ∷ t ∷ [])
chain p l a s q t f w x o y v h = tree kind.OptChainExpr (heading p s true ∷ heading p q true ∷ heading p t v ∷ []) refl (λ z. absurd (cc)) (more (unseen (heading p s true) (λ z. absurd (cc))) (more (unseen (heading p q true) (λ z. absurd (cc))) (more (f.1.1.0 w false o (clue (heading p q true)).flag v h) none)))

pub var_decl : (p : Places) (l : Label) (a : Site) (s q d : Node) → Rows p l a kind.VarDecl (s ∷ q ∷ d ∷ [])
var_decl p l a s q d f w x o y v h = tree kind.VarDecl (heading p s true ∷ heading p q true ∷ heading p d v ∷ []) refl (λ z. absurd (cc)) (more (unseen (heading p s true) (λ z. absurd (cc))) (more (unseen (heading p q true) (λ z. absurd (cc))) (more (f.1.1.0 w false Anything false v h) none)))

pub assign_pat : (p : Places) (l : Label) (a : Site) (s t u : Node) → Rows p l a kind.AssignPat (s ∷ t ∷ u ∷ [])
assign_pat p l a s t u f w x o y v h = tree kind.AssignPat (heading p s true ∷ heading p t v ∷ heading p u v ∷ []) refl (λ z. absurd (cc)) (more (unseen (heading p s true) (λ z. absurd (cc))) (more (f.1.0 w false Anything false v h) (more (f.1.1.0 w false Anything false v h) none)))

pub rest_pat : (p : Places) (l : Label) (a : Site) (s t : Node) → Rows p l a kind.RestPat (s ∷ t ∷ [])
rest_pat p l a s t f w x o y v h = tree kind.RestPat (heading p s true ∷ heading p t v ∷ []) refl (λ z. absurd (cc)) (more (unseen (heading p s true) (λ z. absurd (cc))) (more (f.1.0 w false Anything false v h) none))

pub loop : (p : Places) (l : Label) (a : Site) (s i t u b : Node) → Rows p l a kind.ForStmt (s ∷ i ∷ t ∷ u ∷ b ∷ [])
loop p l a s i t u b f w x o y v h = tree kind.ForStmt (heading p s true ∷ heading p i false ∷ heading p t true ∷ heading p u true ∷ heading p b true ∷ []) refl (λ z. absurd (cc)) (more (unseen (heading p s true) (λ z. absurd (cc))) (more (f.1.0 false false Anything false false (λ z. refl)) (more (f.1.1.0 true false Anything false true (λ z. absurd (cc))) (more (f.1.1.1.0 true false Anything false true (λ z. absurd (cc))) (more (f.1.1.1.1.0 true false Anything false true (λ z. absurd (cc))) none)))))

pub for_in : (p : Places) (l : Label) (a : Site) (s t u b : Node) → Rows p l a kind.ForInStmt (s ∷ t ∷ u ∷ b ∷ [])
for_in p l a s t u b f w x o y v h = tree kind.ForInStmt (heading p s true ∷ heading p t false ∷ heading p u true ∷ heading p b true ∷ []) refl (λ z. absurd (cc)) (more (unseen (heading p s true) (λ z. absurd (cc))) (more (f.1.0 false false Anything false false (λ z. refl)) (more (f.1.1.0 true false Anything false true (λ z. absurd (cc))) (more (f.1.1.1.0 true false Anything false true (λ z. absurd (cc))) none))))
