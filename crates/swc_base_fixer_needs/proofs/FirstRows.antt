-- Each pair has a reason where a pair is set round the innermost expression that a node begins with: one node.
use Rattle.std.proofs.Common.{◌≡◌, Bool, true, false, ◌&&◌, ◌||◌, List, [], ◌∷◌, map, refl, sym, ap, subst, ◌∙◌, rules, true≢false}
use Rattle.std.specs.Prelude.{if◌then◌else◌}
use Rattle.swc_tree_node.specs.declared.kind.Kind.{Kind}
use Rattle.swc_tree_node.specs.declared.kind.Kind.TheVariants as kind
use Rattle.swc_tree_node.specs.declared.node.Node.{Node, Absent, Flag, Word, Text, Span, List as Many, Identifier, Tree, out-Node, roll-Node, fold-Node, map-Node, the_lemmas}
use Rattle.swc_tree_node.specs.declared.node.Node.TheOpen.{Node-F}
use Rattle.swc_tree_node.specs.Parts.{has_parts, has_parts_in}
use Rattle.swc_tree_grammar.specs.Shapes.{Seq, Assign, Cond, Bin, Update, Member, TaggedTpl, Call, OptChain, OptCall}
use Rattle.swc_tree_grammar.specs.Kinds.{has_kind, is_paren, is_object_pattern}
use Rattle.swc_tree_grammar.specs.Forms.{holds}
use Rattle.swc_tree_grammar.specs.Blocks.{span_of}
use Rattle.swc_tree_grammar.specs.Demands.Demand.{Any, AtLeast}
use Rattle.swc_tree_grammar.specs.Starts.{Start, Begun, start, start_in, start_step, is_let_in, is_computed_in, is_let_bracket}
use Rattle.swc_tree_grammar.specs.Starts.Start.{Other}
use Rattle.swc_tree_grammar.specs.Due.{Places, pair as in_pair, first_in}
use Rattle.swc_tree_grammar.proofs.Induction.{by_children}
use Rattle.swc_tree_grammar.proofs.Wholes.{carried}
use Rattle.swc_tree_grammar_laws.proofs.Levelled.{both}
use Rattle.swc_tree_grammar_laws.proofs.Begins.{spined, first_paired, spine_whole, first_of_tree}
use Rattle.swc_base_fixer_laws.proofs.Up.{kind_of_tree}
use Rattle.swc_base_fixer_needs.specs.Sites.{Opening, Site, Spot, clue, asks, leads, spots, may_open}
use Rattle.swc_base_fixer_needs.specs.Sites.Mode.{Base}
use Rattle.swc_base_fixer_needs.specs.Sites.Opening.{Anything, OfStatement as AtStatement, OfExport, OfBody}
use Rattle.swc_base_fixer_needs.specs.Sites.Spot.{Hidden, At}
use Rattle.swc_base_fixer_needs.specs.Reasons.{Label, nothing, labels, Due, AllDue}
use Rattle.swc_base_fixer_needs.specs.Reasons.Extent.{Reasoned}
use Rattle.swc_base_fixer_needs.specs.Reasons.Due.{leaf, unseen, tree}
use Rattle.swc_base_fixer_needs.specs.Reasons.AllDue.{none, more}

-- a node, and whether it begins with an assignment to an object pattern
pub record Lead : Type 0 where
  pub whole : Node
  pub led : Bool

abbrev pub led_in : Node-F Lead → Bool
led_in (Node-F.List (e ∷ es)) = e.led
led_in (Seq span exprs) = exprs.led
led_in (Assign span op left right) = has_kind is_object_pattern left.whole || left.led
led_in (Cond span test cons alt) = test.led
led_in (Bin span op left right) = left.led
led_in (Update span op prefix arg) = arg.led
led_in (Member span obj prop) = obj.led
led_in (TaggedTpl span tag tpl) = tag.led
led_in (Call span callee args) = callee.led
led_in (OptChain span optional base) = base.led
led_in (OptCall span callee args) = callee.led
led_in _ = false

abbrev pub lead_step : Node-F Lead → Lead
lead_step x = record { whole = roll-Node (map-Node Lead Node (λ e. e.whole) x); led = led_in x }

abbrev pub lead_of : Node → Lead
lead_of = fold-Node Lead lead_step

abbrev pub led : Node → Bool
led t = (lead_of t).led

pub lead_whole : (t : Node) → (lead_of t).whole ≡ t
lead_whole t = carried Lead lead_step (λ e. e.whole) (λ x. refl) t

pub led_tree : (k : Kind) (ts : List Node) → led (Tree k ts) ≡ led_in (Node-F.Tree k (map lead_of ts))
led_tree k ts = search (rules, the_lemmas)

pub led_list : (t : Node) (ts : List Node) → led (Many (t ∷ ts)) ≡ led t
led_list t ts = search (rules, the_lemmas)

-- what comes first
abbrev pub begun_of : Node → Begun
begun_of = fold-Node Begun start_step

pub begun_whole : (t : Node) → (begun_of t).whole ≡ t
begun_whole t = carried Begun start_step (λ e. e.whole) (λ x. refl) t

abbrev pub blocked : Start → Bool
blocked Other = false
blocked _ = true

pub other_opens : (o : Opening) → may_open o Other ≡ true
other_opens Anything = refl
other_opens AtStatement = refl
other_opens OfExport = refl
other_opens OfBody = refl

pub opening_blocks : (o : Opening) (s : Start) → may_open o s ≡ false → blocked s ≡ true
opening_blocks o Other h = absurd (cc (sym (other_opens o) ∙ h))
opening_blocks o s h = refl

-- `in` stands bare there, or no assignment to an object pattern comes first
abbrev pub Free : Bool → Bool → Type 0
Free w b = w ≡ false → b ≡ false

abbrev pub Anywhere : Node → Type 0
Anywhere t = (l : Label) (a : Site) → a.with_in ≡ true → Due Reasoned l (At a) t

-- where the pair goes round the node itself, it may stand anywhere
abbrev pub Inner : Places → Site → Node → Type 0
Inner p a t = Free a.with_in (led t) → blocked (start t) ≡ true → has_kind is_paren (first_paired p t) ≡ true → Anywhere t

abbrev pub First : Places → Label → Site → Node → Type 0
First p l a t = Free a.with_in (led t) → may_open a.opening (start t) ≡ false → (a.optional && is_let_bracket t) ≡ false → Due Reasoned l (At a) (first_paired p t)

pub record Leads (p : Places) (l : Label) (a : Site) (t : Node) : Type 0 where
  pub due : Due Reasoned l (At a) t
  pub inner : Inner p a t
  pub first : First p l a t

abbrev pub Ready : Places → Label → Spot → Node → Type 0
Ready p l Hidden t = Unit {0}
Ready p l (At a) t = Leads p l a t

abbrev pub Readys : Places → List Label → List Spot → List Node → Type 0
Readys p [] [] [] = Unit {0}
Readys p (l ∷ ls) (s ∷ ss) (t ∷ ts) = Ready p l s t × Readys p ls ss ts
Readys p _ _ _ = ⊥

abbrev pub Fields : Places → Label → Site → Kind → List Node → Type 0
Fields p l a k ts = Readys p (labels l (Node-F.Tree k ts)) (spots a (Node-F.Tree k (map clue ts))) ts

abbrev pub Dues : Label → Site → Kind → List Node → Type 0
Dues l a k ts = AllDue Reasoned (labels l (Node-F.Tree k ts)) (spots a (Node-F.Tree k (map clue ts))) ts

-- the node itself
not_paren : (k : Kind) (us : List Node) → is_paren k ≡ false → has_kind is_paren (Tree k us) ≡ true → ⊥
not_paren k us n h = absurd (cc (sym h ∙ kind_of_tree is_paren k us ∙ n))

pub is_pair : (p : Places) (t : Node) → has_kind is_paren (in_pair p t) ≡ true
is_pair p t = kind_of_tree is_paren kind.ParenExpr (Span (p (span_of t)) ∷ t ∷ [])

pattern_row : (p : Places) (k : Kind) (ts : List Node) → is_object_pattern k ≡ true → has_kind is_paren (first_in p (Tree k ts) (Node-F.Tree k (map (spined p) ts))) ≡ true
pattern_row p kind.ObjectPat ts h = is_pair p (Tree kind.ObjectPat ts)
pattern_row p k ts h = absurd (true≢false (sym h))

no_pattern : (p : Places) (t : Node) → has_kind is_object_pattern t ≡ false → has_kind is_object_pattern t ≡ true → has_kind is_paren (first_paired p t) ≡ true
no_pattern p t e h = absurd (cc)

pattern_paired : (p : Places) (t : Node) → has_kind is_object_pattern t ≡ true → has_kind is_paren (first_paired p t) ≡ true
pattern_paired p t = by_children (λ t. has_kind is_object_pattern t ≡ true → has_kind is_paren (first_paired p t) ≡ true)
    (no_pattern p Absent (search (rules, the_lemmas)), λ x. no_pattern p (Flag x) (search (rules, the_lemmas)), λ w. no_pattern p (Word w) (search (rules, the_lemmas)), λ x. no_pattern p (Text x) (search (rules, the_lemmas)), λ s. no_pattern p (Span s) (search (rules, the_lemmas)), λ k i. no_pattern p (Identifier k i) (search (rules, the_lemmas)))
    (λ ts l. no_pattern p (Many ts) (search (rules, the_lemmas)))
    (λ k ts l h. ap (has_kind is_paren) (first_of_tree p k ts) ∙ pattern_row p k ts (sym (kind_of_tree is_object_pattern k ts) ∙ h)) t

stands_bare : (w b : Bool) → Free w b → b ≡ true → w ≡ true
stands_bare true b f h = refl
stands_bare false b f h = absurd (cc (sym (f refl) ∙ h))

or_true : (b c : Bool) → b ≡ true → (b || c) ≡ true
or_true true c h = refl
or_true false c h = absurd (cc)

assigns : (s o f r : Node) → has_kind is_object_pattern f ≡ true → led (Tree kind.AssignExpr (s ∷ o ∷ f ∷ r ∷ [])) ≡ true
assigns s o f r h = led_tree kind.AssignExpr (s ∷ o ∷ f ∷ r ∷ []) ∙ or_true (has_kind is_object_pattern (lead_of f).whole) (led f) (ap (has_kind is_object_pattern) (lead_whole f) ∙ h)

pub assign_anywhere : (p : Places) (l : Label) (a : Site) (s o f r : Node) → Fields p l a kind.AssignExpr (s ∷ o ∷ f ∷ r ∷ []) → Free a.with_in (led (Tree kind.AssignExpr (s ∷ o ∷ f ∷ r ∷ []))) → blocked (start f) ≡ true → has_kind is_object_pattern f ≡ true
    → Anywhere (Tree kind.AssignExpr (s ∷ o ∷ f ∷ r ∷ []))
assign_anywhere p l a s o f r q g b e m c w =
    let x : a.with_in ≡ true = stands_bare a.with_in (led (Tree kind.AssignExpr (s ∷ o ∷ f ∷ r ∷ []))) g (assigns s o f r e) in
    tree kind.AssignExpr (s ∷ o ∷ f ∷ r ∷ []) refl (λ z. absurd (cc)) (more (unseen s (λ z. absurd (cc))) (more (unseen o (λ z. absurd (cc))) (more (q.1.1.0.inner (λ z. absurd (cc (sym x ∙ z))) b (pattern_paired p f e) nothing (leads c (asks Any c.with_in)) w) (more (subst (λ b. Due Reasoned nothing (At (asks (AtLeast 2) b)) r) (x ∙ sym w) q.1.1.1.0.due) none))))

let_partless : (y : Node-F Node) → is_let_in y ≡ true → has_parts_in y ≡ false
let_partless (Node-F.List ts) h = absurd (cc)
let_partless (Node-F.Tree k ts) h = absurd (cc)
let_partless y h = refl

let_leaf : (t : Node) → is_let_in (out-Node t) ≡ true → has_parts t ≡ false
let_leaf t h = let_partless (out-Node t) h

bracket_is : (s o m : Node) → is_let_bracket (Tree kind.MemberExpr (s ∷ o ∷ m ∷ [])) ≡ (is_let_in (out-Node o) && is_computed_in (out-Node m))
bracket_is s o m = search (rules, the_lemmas)

pub member_anywhere : (p : Places) (l : Label) (a : Site) (s o m : Node) → Fields p l a kind.MemberExpr (s ∷ o ∷ m ∷ []) → is_let_bracket (Tree kind.MemberExpr (s ∷ o ∷ m ∷ [])) ≡ true → Anywhere (Tree kind.MemberExpr (s ∷ o ∷ m ∷ []))
member_anywhere p l a s o m q e n c w =
    let x = both (is_let_in (out-Node o)) (is_computed_in (out-Node m)) (sym (bracket_is s o m) ∙ e) in
    tree kind.MemberExpr (s ∷ o ∷ m ∷ []) refl (λ z. absurd (cc)) (more (unseen s (λ z. absurd (cc))) (more (leaf o (let_leaf o x.0)) (more q.1.1.0.due none)))

pub chain_anywhere : (p : Places) (l : Label) (a : Site) (s o m : Node) → Fields p l a kind.OptChainExpr (s ∷ o ∷ m ∷ []) → Free a.with_in (led m) → blocked (start m) ≡ true → has_kind is_paren (first_paired p m) ≡ true → Anywhere (Tree kind.OptChainExpr (s ∷ o ∷ m ∷ []))
chain_anywhere p l a s o m q g b e n c w =
    tree kind.OptChainExpr (s ∷ o ∷ m ∷ []) refl (λ z. absurd (cc)) (more (unseen s (λ z. absurd (cc))) (more (unseen o (λ z. absurd (cc))) (more (q.1.1.0.inner g b e nothing (record (asks Any c.with_in) { mode = Base; opening = c.opening; optional = (clue o).flag }) w) none)))

-- by what it is decided where the pair goes
blocked_else : (b : Bool) (s : Start) → blocked (if b then Other else s) ≡ true → blocked s ≡ true
blocked_else true s h = absurd (cc)
blocked_else false s h = h

assign_if : (x : Bool) (p : Places) (l : Label) (a : Site) (s o f r u : Node) → has_kind is_object_pattern f ≡ x → Fields p l a kind.AssignExpr (s ∷ o ∷ f ∷ r ∷ []) → Free a.with_in (led (Tree kind.AssignExpr (s ∷ o ∷ f ∷ r ∷ []))) → blocked (start f) ≡ true
    → has_kind is_paren u ≡ false → has_kind is_paren (if x then in_pair p (Tree kind.AssignExpr (s ∷ o ∷ f ∷ r ∷ [])) else u) ≡ true → Anywhere (Tree kind.AssignExpr (s ∷ o ∷ f ∷ r ∷ []))
assign_if true p l a s o f r u e q g b n h = assign_anywhere p l a s o f r q g b e
assign_if false p l a s o f r u e q g b n h = absurd (cc (sym n ∙ h))

member_if : (x : Bool) (p : Places) (l : Label) (a : Site) (s o m u : Node) → is_let_bracket (Tree kind.MemberExpr (s ∷ o ∷ m ∷ [])) ≡ x → Fields p l a kind.MemberExpr (s ∷ o ∷ m ∷ [])
    → has_kind is_paren u ≡ false → has_kind is_paren (if x then in_pair p (Tree kind.MemberExpr (s ∷ o ∷ m ∷ [])) else u) ≡ true → Anywhere (Tree kind.MemberExpr (s ∷ o ∷ m ∷ []))
member_if true p l a s o m u e q n h = member_anywhere p l a s o m q e
member_if false p l a s o m u e q n h = absurd (cc (sym n ∙ h))

chain_if : (x : Bool) (p : Places) (l : Label) (a : Site) (s o m u : Node) → has_kind is_paren (first_paired p m) ≡ x → Fields p l a kind.OptChainExpr (s ∷ o ∷ m ∷ []) → Free a.with_in (led m) → blocked (start m) ≡ true
    → has_kind is_paren u ≡ false → has_kind is_paren (if x then in_pair p (Tree kind.OptChainExpr (s ∷ o ∷ m ∷ [])) else u) ≡ true → Anywhere (Tree kind.OptChainExpr (s ∷ o ∷ m ∷ []))
chain_if true p l a s o m u e q g b n h = chain_anywhere p l a s o m q g b e
chain_if false p l a s o m u e q g b n h = absurd (cc (sym n ∙ h))

pub inner_row : (p : Places) (l : Label) (a : Site) (k : Kind) (ts : List Node) → Fields p l a k ts → Dues l a k ts → Free a.with_in (led (Tree k ts)) → blocked (start_in (Tree k ts) (Node-F.Tree k (map begun_of ts))) ≡ true
    → has_kind is_paren (first_in p (Tree k ts) (Node-F.Tree k (map (spined p) ts))) ≡ true → Anywhere (Tree k ts)
inner_row p l a kind.SeqExpr (s ∷ e ∷ []) q d g b h = absurd (not_paren kind.SeqExpr _ refl h)
inner_row p l a kind.AssignExpr (s ∷ o ∷ f ∷ r ∷ []) q d g b h =
    let u : Node = Tree kind.AssignExpr ((spined p s).whole ∷ (spined p o).whole ∷ first_paired p f ∷ (spined p r).whole ∷ []) in
    assign_if (has_kind is_object_pattern (spined p f).whole) p l a s o f r u (ap (has_kind is_object_pattern) (sym (spine_whole p f))) q g b (kind_of_tree is_paren kind.AssignExpr _) h
inner_row p l a kind.CondExpr (s ∷ t ∷ c ∷ e ∷ []) q d g b h = absurd (not_paren kind.CondExpr _ refl h)
inner_row p l a kind.BinExpr (s ∷ o ∷ f ∷ r ∷ []) q d g b h = absurd (not_paren kind.BinExpr _ refl h)
inner_row p l a kind.UpdateExpr (s ∷ o ∷ f ∷ r ∷ []) q d g b h = absurd (not_paren kind.UpdateExpr _ refl h)
inner_row p l a kind.MemberExpr (s ∷ o ∷ m ∷ []) q d g b h =
    member_if (is_let_bracket (Tree kind.MemberExpr (s ∷ o ∷ m ∷ []))) p l a s o m (Tree kind.MemberExpr ((spined p s).whole ∷ first_paired p o ∷ (spined p m).whole ∷ [])) refl q (kind_of_tree is_paren kind.MemberExpr _) h
inner_row p l a kind.TaggedTpl (s ∷ o ∷ m ∷ []) q d g b h = absurd (not_paren kind.TaggedTpl _ refl h)
inner_row p l a kind.CallExpr (s ∷ o ∷ m ∷ []) q d g b h = absurd (not_paren kind.CallExpr _ refl h)
inner_row p l a kind.OptChainExpr (s ∷ o ∷ m ∷ []) q d g b h =
    chain_if (has_kind is_paren (first_paired p m)) p l a s o m (Tree kind.OptChainExpr ((spined p s).whole ∷ (spined p o).whole ∷ first_paired p m ∷ [])) refl q
    (λ z. sym (led_tree kind.OptChainExpr (s ∷ o ∷ m ∷ [])) ∙ g z) (blocked_else (holds (begun_of o).whole && is_let_bracket (begun_of m).whole) (start m) b) (kind_of_tree is_paren kind.OptChainExpr _) h
inner_row p l a kind.OptCall (s ∷ o ∷ m ∷ []) q d g b h = absurd (not_paren kind.OptCall _ refl h)
inner_row p l a kind.ObjectLit ts q d g b h = λ n c w. tree kind.ObjectLit ts refl (λ z. absurd (cc)) d
inner_row p l a kind.ObjectPat (s ∷ e ∷ []) q d g b h = λ n c w. tree kind.ObjectPat (s ∷ e ∷ []) refl (λ z. absurd (cc)) d
inner_row p l a kind.ObjectPat ts q d g b h = λ n c w. tree kind.ObjectPat ts refl (λ z. absurd (cc)) d
inner_row p l a kind.ClassExpr ts q d g b h = λ n c w. tree kind.ClassExpr ts refl (λ z. absurd (cc)) d
inner_row p l a kind.FnExpr (i ∷ e ∷ []) q d g b h = λ n c w. tree kind.FnExpr (i ∷ e ∷ []) refl (λ z. absurd (cc)) d
inner_row p l a kind.Function (s ∷ x ∷ y ∷ v ∷ z ∷ []) q d g b h = λ n c w. tree kind.Function (s ∷ x ∷ y ∷ v ∷ z ∷ []) refl (λ z. absurd (cc)) d
inner_row p l a k ts q d g b h = absurd (cc)
