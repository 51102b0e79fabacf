-- What stands where it is asked has its parts stand where they are asked: expressions, patterns, functions and classes.
use Rattle.std.proofs.Common.{◌≡◌, Bool, true, false, ◌&&◌, ◌||◌, List, [], ◌∷◌, map, refl, sym, ap, ◌∙◌, rules, true≢false}
use Rattle.std.specs.Prelude.{nat_le, Option, Some, if◌then◌else◌}
use Rattle.swc_tree_node.specs.declared.kind.Kind.{Kind}
use Rattle.swc_tree_node.specs.declared.kind.Kind.TheVariants as kind
use Rattle.swc_tree_node.specs.declared.kind.Word.{Word as Word'}
use Rattle.swc_tree_node.specs.declared.kind.Word.TheVariants as word
use Rattle.swc_tree_node.specs.declared.node.Node.{Node, List as Many, Tree, out-Node, fold-Node, the_lemmas}
use Rattle.swc_tree_node.specs.declared.node.Node.TheOpen.{Node-F}
use Rattle.swc_tree_grammar.specs.Kinds.{has_kind, is_private_name, is_block}
use Rattle.swc_tree_grammar.specs.Levels.{word_of, is_in, is_absent, is_called}
use Rattle.swc_tree_grammar.specs.Demands.{Demand, meets, at_least, left_side, right_side, object, is_bare_new}
use Rattle.swc_tree_grammar.specs.Demands.Demand.{Any, AtLeast, Each as EachOf, Key, Body, Operand, Link, NewCallee}
use Rattle.swc_tree_grammar.specs.Starts.{Begun, start_step, start, start_in, is_let_bracket, is_let_in, is_computed_in}
use Rattle.swc_tree_grammar.specs.Starts.Start.{Other}
use Rattle.swc_tree_grammar.specs.Forms.{holds, is_strict}
use Rattle.swc_tree_grammar.specs.Grammar.{derives, fits, left_fits, arrow_body, may_begin_body}
use Rattle.swc_tree_grammar.proofs.Induction.{by_children}
use Rattle.swc_tree_grammar.proofs.Wholes.{carried}
use Rattle.swc_tree_grammar_laws.proofs.Levelled.{both, half}
use Rattle.swc_tree_grammar_laws.proofs.Begins.{start_tree, or_right}
use Rattle.swc_tree_grammar_laws.proofs.Derived.{judged, whole}
use Rattle.swc_base_fixer_needs.specs.Sites.{Opening, may_open, Site, clue, asks, leads, spots, left_mode, first_unless, is_spine, is_base, asks_callee, in_key, Stands, AllStand}
use Rattle.swc_base_fixer_needs.specs.Sites.Opening.{Anything, OfStatement, OfExport, OfBody}
use Rattle.swc_base_fixer_needs.proofs.Standing.{context, code, asked, fit, bare_fit, piece, lead, opened, Row}

pub paren : (s e : Node) → Row kind.ParenExpr (s ∷ e ∷ [])
paren s e a g r h = (tt, (bare_fit e true r h, tt))

pub seq : (s es : Node) → Row kind.SeqExpr (s ∷ es ∷ [])
seq s es a g r h =
    let p = half h in let n : is_let_bracket (Tree kind.SeqExpr (s ∷ es ∷ [])) ≡ false = search (rules, the_lemmas) in
    let m = sym (ap (meets (EachOf 2)) (whole es)) ∙ p.0 in
    (tt, (lead a (EachOf 2) es a.with_in (ap (may_open a.opening) (sym (start_tree kind.SeqExpr (s ∷ es ∷ []))) ∙ opened a (Tree kind.SeqExpr (s ∷ es ∷ [])) n g) (asked (EachOf 2) es a.with_in r m (half p.1).1), tt))

-- the first part of a node that begins with it
first : (k : Kind) (ts : List Node) (t : Node) (a : Site) → start (Tree k ts) ≡ start t → is_let_bracket (Tree k ts) ≡ false → Stands a (Tree k ts) → may_open a.opening (start t) ≡ true
first k ts t a e n g = sym (ap (may_open a.opening) e) ∙ opened a (Tree k ts) n g

pub assign : (s o f x : Node) → Row kind.AssignExpr (s ∷ o ∷ f ∷ x ∷ [])
assign s o f x a g r h =
    let ts = s ∷ o ∷ f ∷ x ∷ [] in let p = half h in
    (tt, (tt, (lead a Any f a.with_in (first kind.AssignExpr ts f a (start_tree kind.AssignExpr ts) (search (rules, the_lemmas)) g) (code f a.with_in r p.0), (fit (AtLeast 2) x a.with_in r p.1, tt))))

pub cond : (s t x y : Node) → Row kind.CondExpr (s ∷ t ∷ x ∷ y ∷ [])
cond s t x y a g r h =
    let ts = s ∷ t ∷ x ∷ y ∷ [] in let p = half h in let q = half p.1 in
    (tt, (lead a (AtLeast 4) t a.with_in (first kind.CondExpr ts t a (start_tree kind.CondExpr ts) (search (rules, the_lemmas)) g) (fit (AtLeast 4) t a.with_in r p.0), (fit (AtLeast 2) x true r q.0, (fit (AtLeast 2) y a.with_in r q.1, tt))))

or_true : (b : Bool) → (b || true) ≡ true
or_true true = refl
or_true false = refl

or_false : (b : Bool) → (b || false) ≡ b
or_false true = refl
or_false false = refl

abbrev begun_of : Node → Begun
begun_of = fold-Node Begun start_step

-- sides of an operator
private_tree : (k : Kind) (ts : List Node) → is_private_name k ≡ true → meets (AtLeast 10) (Tree k ts) ≡ true
private_tree kind.PrivateName ts h = search (rules, the_lemmas)
private_tree k ts h = absurd (true≢false (sym h))

private_met : (t : Node) → has_kind is_private_name t ≡ true → meets (AtLeast 10) t ≡ true
private_met t = by_children (λ t. has_kind is_private_name t ≡ true → meets (AtLeast 10) t ≡ true)
    (λ h. search (rules, the_lemmas), λ x h. search (rules, the_lemmas), λ w h. search (rules, the_lemmas), λ x h. search (rules, the_lemmas), λ s h. search (rules, the_lemmas), λ k i h. search (rules, the_lemmas))
    (λ ts l h. search (rules, the_lemmas))
    (λ k ts l h. (let e : has_kind is_private_name (Tree k ts) ≡ is_private_name k = search (rules, the_lemmas) in private_tree k ts (sym e ∙ h))) t

or_else : (x y : Bool) → (x || y) ≡ true → (x ≡ false → y ≡ true)
or_else true y h e = absurd (cc)
or_else false y h e = h

abbrev LeftOf : Option Word' → Node → Bool → Type 0
LeftOf op f b = Stands (record (asks (left_side op) b) { mode = left_mode (is_in op) }) f

in_left : (x : Bool) (f : Node) (b s : Bool) → has_kind is_private_name f ≡ x → (x || fits (record (judged f) { demand = AtLeast 10 }) (context b s)) ≡ true → LeftOf (Some word.In) f b
in_left true f b s e h = record { is_met = private_met f e; leads_no_call = λ y. absurd (cc); no_async = λ y. absurd (cc); opens = refl; strict = s; derived = ap (λ y. y || derives f (context b s)) e }
in_left false f b s e h = let x = fit (AtLeast 10) f b s h in record { is_met = x.is_met; leads_no_call = λ y. absurd (cc); no_async = λ y. absurd (cc); opens = refl; strict = x.strict; derived = or_right (has_kind is_private_name f) (derives f (context b x.strict)) x.derived }

left_of : (op : Option Word') (f : Node) (b s : Bool) → left_fits op (record (judged f) { demand = left_side op }) (context b s) ≡ true → LeftOf op f b
left_of (Some word.In) f b s h = in_left (has_kind is_private_name f) f b s refl (sym (ap (λ t. has_kind is_private_name t || fits (record (judged f) { demand = AtLeast 10 }) (context b s)) (whole f)) ∙ h)
left_of op f b s h = fit (left_side op) f b s h

lead_left : (a : Site) (op : Option Word') (f : Node) (b : Bool) → may_open a.opening (start f) ≡ true → LeftOf op f b → Stands (leads a (record (asks (left_side op) b) { mode = left_mode (is_in op) })) f
lead_left a op f b o x = record { is_met = x.is_met; leads_no_call = λ y. absurd (cc); no_async = λ y. absurd (cc); opens = rw o refl; strict = x.strict; derived = x.derived }

pub bin : (s o f x : Node) → Row kind.BinExpr (s ∷ o ∷ f ∷ x ∷ [])
bin s o f x a g r h =
    let ts = s ∷ o ∷ f ∷ x ∷ [] in let p = half (half h).1 in
    let l = sym (ap (λ t. left_fits (word_of t) (record (judged f) { demand = left_side (word_of o) }) (context a.with_in r)) (whole o)) ∙ p.0 in
    (tt, (tt, (lead_left a (word_of o) f a.with_in (first kind.BinExpr ts f a (start_tree kind.BinExpr ts) (search (rules, the_lemmas)) g) (left_of (word_of o) f a.with_in r l), (fit (right_side (word_of o)) x a.with_in r p.1, tt))))

pub unary : (s o x : Node) → Row kind.UnaryExpr (s ∷ o ∷ x ∷ [])
unary s o x a g r h = (tt, (tt, (fit (AtLeast 15) x a.with_in r h, tt)))

pub await : (s x : Node) → Row kind.AwaitExpr (s ∷ x ∷ [])
await s x a g r h = (tt, (fit (AtLeast 15) x a.with_in r h, tt))

pub yield : (s x d : Node) → Row kind.YieldExpr (s ∷ x ∷ d ∷ [])
yield s x d a g r h = (tt, (fit (AtLeast 2) x a.with_in r h, (tt, tt)))

whole_begun : (t : Node) → (begun_of t).whole ≡ t
whole_begun t = carried Begun start_step (λ e. e.whole) (λ x. refl) t

first_arg : (x : Bool) (a : Site) (d : Demand) (t : Node) (b : Bool) → (x ≡ false → may_open a.opening (start t) ≡ true) → Stands (asks d b) t → Stands (first_unless x a (asks d b)) t
first_arg true a d t b o s = s
first_arg false a d t b o s = lead a d t b (o refl) s

pub update : (s o f x : Node) → Row kind.UpdateExpr (s ∷ o ∷ f ∷ x ∷ [])
update s o f x a g r h =
    let ts : List Node = s ∷ o ∷ f ∷ x ∷ [] in
    (tt, (tt, (tt, (first_arg (holds f) a (AtLeast 17) x a.with_in (λ e. first kind.UpdateExpr ts x a (start_tree kind.UpdateExpr ts ∙ rw (whole_begun f, e) refl) (search (rules, the_lemmas)) g) (fit (AtLeast 17) x a.with_in r h), tt))))

-- objects, tags and what is called
may_open_other : (o : Opening) → may_open o Other ≡ true
may_open_other Anything = refl
may_open_other OfStatement = refl
may_open_other OfExport = refl
may_open_other OfBody = refl

let_start : (t : Node) → is_let_in (out-Node t) ≡ true → start t ≡ Other
let_start t = by_children (λ t. is_let_in (out-Node t) ≡ true → start t ≡ Other)
    (λ h. search (rules, the_lemmas), λ x h. search (rules, the_lemmas), λ w h. search (rules, the_lemmas), λ x h. search (rules, the_lemmas), λ s h. search (rules, the_lemmas), λ k i h. search (rules, the_lemmas))
    (λ ts l h. (let e : is_let_in (out-Node (Many ts)) ≡ false = search (rules, the_lemmas) in absurd (cc)))
    (λ k ts l h. (let e : is_let_in (out-Node (Tree k ts)) ≡ false = search (rules, the_lemmas) in absurd (cc))) t

member_opens : (x : Bool) (s o m : Node) (a : Site) → is_let_bracket (Tree kind.MemberExpr (s ∷ o ∷ m ∷ [])) ≡ x → Stands a (Tree kind.MemberExpr (s ∷ o ∷ m ∷ [])) → may_open a.opening (start o) ≡ true
member_opens true s o m a e g =
    let b : is_let_bracket (Tree kind.MemberExpr (s ∷ o ∷ m ∷ [])) ≡ (is_let_in (out-Node o) && is_computed_in (out-Node m)) = search (rules, the_lemmas) in
    rw (let_start o (both (is_let_in (out-Node o)) (is_computed_in (out-Node m)) (sym b ∙ e)).0) (may_open_other a.opening)
member_opens false s o m a e g = first kind.MemberExpr (s ∷ o ∷ m ∷ []) o a (start_tree kind.MemberExpr (s ∷ o ∷ m ∷ []) ∙ rw e refl) e g

or_none : (x b y : Bool) → y ≡ false → (x || (b && y)) ≡ true → x ≡ true
or_none true b y e h = refl
or_none false true y e h = absurd (cc)
or_none false false y e h = absurd (cc)

spine : (x : Bool) (d : Demand) (t u : Node) → (x ≡ true → is_called t ≡ false) → meets d t ≡ true → is_bare_new t ≡ false → is_called t ≡ is_called u → (at_least 18 t ≡ true → is_called u ≡ false) → (x || asks_callee d) ≡ true → is_called u ≡ false
spine true d t u c m n e l h = sym e ∙ c refl
spine false (NewCallee b) t u c m n e l h = l (or_none (at_least 18 t) b (is_bare_new t) n m)
spine false d t u c m n e l h = absurd (cc)

not_called : (x : Bool) → (false || nat_le 18 (if x then 17 else 18)) ≡ true → x ≡ false
not_called true h = absurd (cc)
not_called false h = refl

spine_fits : (a : Site) (d : Demand) (t : Node) (s : Bool) → fits (record (judged t) { demand = d }) (context a.with_in s) ≡ true → may_open a.opening (start t) ≡ true → (is_spine a ≡ true → is_called t ≡ false)
    → Stands (leads a (record (asks d a.with_in) { uncalled = is_spine a })) t
spine_fits a d t s h o u = let x = fit d t a.with_in s h in record { is_met = x.is_met; leads_no_call = u; no_async = λ y. absurd (cc); opens = rw o refl; strict = x.strict; derived = x.derived }

pub member : (s o m : Node) (a : Site) → Stands a (Tree kind.MemberExpr (s ∷ o ∷ m ∷ [])) → (r : Bool)
    → (fits (record (judged o) { demand = object (is_base a.mode) }) (context a.with_in r) && derives m (context true r)) ≡ true → AllStand (spots a (Node-F.Tree kind.MemberExpr (map clue (s ∷ o ∷ m ∷ [])))) (s ∷ o ∷ m ∷ [])
member s o m a g r h =
    let t : Node = Tree kind.MemberExpr (s ∷ o ∷ m ∷ []) in let p = half h in
    let n : is_bare_new t ≡ false = search (rules, the_lemmas) in let e : is_called t ≡ is_called o = search (rules, the_lemmas) in
    let l : at_least 18 t ≡ (false || nat_le 18 (if is_called o then 17 else 18)) = search (rules, the_lemmas) in
    (tt, (spine_fits a (object (is_base a.mode)) o r p.0 (member_opens (is_let_bracket t) s o m a refl g) (spine a.uncalled a.demand t o g.leads_no_call g.is_met n e (λ h. not_called (is_called o) (sym l ∙ h))), (code m true r p.1, tt)))

pub tagged : (s o m : Node) → Row kind.TaggedTpl (s ∷ o ∷ m ∷ [])
tagged s o m a g r h =
    let ts : List Node = s ∷ o ∷ m ∷ [] in let t : Node = Tree kind.TaggedTpl ts in let p = half h in
    let n : is_bare_new t ≡ false = search (rules, the_lemmas) in let e : is_called t ≡ is_called o = search (rules, the_lemmas) in
    let l : at_least 18 t ≡ (false || nat_le 18 (if is_called o then 17 else 18)) = search (rules, the_lemmas) in
    (tt, (spine_fits a Operand o r p.0 (first kind.TaggedTpl ts o a (start_tree kind.TaggedTpl ts) (search (rules, the_lemmas)) g) (spine a.uncalled a.demand t o g.leads_no_call g.is_met n e (λ h. not_called (is_called o) (sym l ∙ h))), (code m true r p.1, tt)))

pub call : (s o m : Node) → Row kind.CallExpr (s ∷ o ∷ m ∷ [])
call s o m a g r h =
    let ts : List Node = s ∷ o ∷ m ∷ [] in let p = half h in
    (tt, (lead a Operand o a.with_in (first kind.CallExpr ts o a (start_tree kind.CallExpr ts) (search (rules, the_lemmas)) g) (fit Operand o a.with_in r p.0), (code m true r p.1, tt)))

pub new : (s o m : Node) → Row kind.NewExpr (s ∷ o ∷ m ∷ [])
new s o m a g r h = let p = half h in (tt, (fit (NewCallee (is_absent m)) o a.with_in r p.0, (code m true r p.1, tt)))

pub opt_call : (s o m : Node) (a : Site) → Stands a (Tree kind.OptCall (s ∷ o ∷ m ∷ [])) → (r : Bool)
    → (fits (record (judged o) { demand = Link }) (context a.with_in r) && derives m (context true r)) ≡ true → AllStand (spots a (Node-F.Tree kind.OptCall (map clue (s ∷ o ∷ m ∷ [])))) (s ∷ o ∷ m ∷ [])
opt_call s o m a g r h =
    let ts : List Node = s ∷ o ∷ m ∷ [] in let p = half h in
    (tt, (lead a Link o a.with_in (first kind.OptCall ts o a (start_tree kind.OptCall ts) (search (rules, the_lemmas)) g) (fit Link o a.with_in r p.0), (code m true r p.1, tt)))

chain_opens : (x : Bool) (s o b : Node) (a : Site) → (holds o && is_let_bracket b) ≡ x → Stands a (Tree kind.OptChainExpr (s ∷ o ∷ b ∷ [])) → (may_open a.opening (start b) || (holds o && is_let_bracket b)) ≡ true
chain_opens true s o b a e g = or_right (may_open a.opening (start b)) (holds o && is_let_bracket b) e
chain_opens false s o b a e g = let h = first kind.OptChainExpr (s ∷ o ∷ b ∷ []) b a (start_tree kind.OptChainExpr (s ∷ o ∷ b ∷ []) ∙ rw (whole_begun o, whole_begun b, e) refl) (search (rules, the_lemmas)) g in rw h refl

pub chain : (s o b : Node) → Row kind.OptChainExpr (s ∷ o ∷ b ∷ [])
chain s o b a g r h = (tt, (tt, (record { is_met = refl; leads_no_call = λ y. absurd (cc); no_async = λ y. absurd (cc); opens = chain_opens (holds o && is_let_bracket b) s o b a refl g; strict = r; derived = h }, tt)))

-- parts in which `in` may stand
pub super_prop : (s o m : Node) → Row kind.SuperPropExpr (s ∷ o ∷ m ∷ [])
super_prop s o m a g r h = (tt, (tt, (code m true r h, tt)))

pub tpl : (s es q : Node) → Row kind.Tpl (s ∷ es ∷ q ∷ [])
tpl s es q a g r h = (tt, (code es true r (half (half h).1).1, (tt, tt)))

pub argument : (s e : Node) → Row kind.ExprOrSpread (s ∷ e ∷ [])
argument s e a g r h = (tt, (fit (AtLeast 2) e true r h, tt))

pub spread : (s e : Node) → Row kind.SpreadElement (s ∷ e ∷ [])
spread s e a g r h = (tt, (fit (AtLeast 2) e true r h, tt))

pub key_value : (k e : Node) → Row kind.KeyValueProp (k ∷ e ∷ [])
key_value k e a g r h = let p = half h in (piece Key k a.with_in r p.0, (fit (AtLeast 2) e true r p.1, tt))

pub method : (k f : Node) → Row kind.MethodProp (k ∷ f ∷ [])
method k f a g r h = let p = half h in (piece Key k a.with_in r p.0, (piece Any f a.with_in r (half p.1).0, tt))

pub key_value_pat : (k f : Node) → Row kind.KeyValuePatProp (k ∷ f ∷ [])
key_value_pat k f a g r h = let p = half h in (piece Key k a.with_in r p.0, (piece Any f a.with_in r (half p.1).0, tt))

computed_met : (d : Demand) (s e : Node) → meets d (Tree kind.ComputedPropName (s ∷ e ∷ [])) ≡ true → meets (in_key d) e ≡ true
computed_met Key s e h = (let x : meets Key (Tree kind.ComputedPropName (s ∷ e ∷ [])) ≡ at_least 2 e = search (rules, the_lemmas) in sym x ∙ h)
computed_met d s e h = refl

pub computed : (s e : Node) → Row kind.ComputedPropName (s ∷ e ∷ [])
computed s e a g r h = (tt, (asked (in_key a.demand) e true r (computed_met a.demand s e g.is_met) (half (half h).1).1, tt))

pub class_prop : (s k e f : Node) → Row kind.ClassProp (s ∷ k ∷ e ∷ f ∷ [])
class_prop s k e f a g r h = let p = half h in (tt, (piece Key k a.with_in r p.0, (fit (AtLeast 2) e true r p.1, (tt, tt))))

pub private_prop : (s k e f : Node) → Row kind.PrivateProp (s ∷ k ∷ e ∷ f ∷ [])
private_prop s k e f a g r h = (tt, (tt, (fit (AtLeast 2) e true r h, (tt, tt))))

pub class_method : (s k f w x : Node) → Row kind.ClassMethod (s ∷ k ∷ f ∷ w ∷ x ∷ [])
class_method s k f w x a g r h = let p = half h in (tt, (piece Key k a.with_in r p.0, (code f true r p.1, (tt, (tt, tt)))))

pub private_method : (s k f w x : Node) → Row kind.PrivateMethod (s ∷ k ∷ f ∷ w ∷ x ∷ [])
private_method s k f w x a g r h = (tt, (tt, (code f true r h, (tt, (tt, tt)))))

pub constructor : (s k x b : Node) → Row kind.Constructor (s ∷ k ∷ x ∷ b ∷ [])
constructor s k x b a g r h = let p = half h in (tt, (tt, (code x true r p.0, (code b true r p.1, tt))))

pub getter : (s k b : Node) → Row kind.GetterProp (s ∷ k ∷ b ∷ [])
getter s k b a g r h = let p = half h in (tt, (piece Key k a.with_in r p.0, (code b true (r || is_strict (judged b).whole) p.1, tt)))

pub setter : (s k x b : Node) → Row kind.SetterProp (s ∷ k ∷ x ∷ b ∷ [])
setter s k x b a g r h =
    let p = half h in let q = half p.1 in
    (tt, (piece Key k a.with_in r p.0, (code x true (r || is_strict (judged b).whole) q.0, (code b true (r || is_strict (judged b).whole) q.1, tt))))

pub function : (s x b f w : Node) → Row kind.Function (s ∷ x ∷ b ∷ f ∷ w ∷ [])
function s x b f w a g r h = let p = half h in (tt, (code x true (r || is_strict (judged b).whole) p.0, (code b true (r || is_strict (judged b).whole) p.1, (tt, (tt, tt)))))

-- arrows
block_tree : (k : Kind) (ts : List Node) → is_block k ≡ true → start_in (Tree k ts) (Node-F.Tree k (map begun_of ts)) ≡ Other
block_tree kind.BlockStmt ts h = refl
block_tree k ts h = absurd (true≢false (sym h))

block_start : (t : Node) → has_kind is_block t ≡ true → start t ≡ Other
block_start t = by_children (λ t. has_kind is_block t ≡ true → start t ≡ Other)
    (λ h. search (rules, the_lemmas), λ x h. search (rules, the_lemmas), λ w h. search (rules, the_lemmas), λ x h. search (rules, the_lemmas), λ s h. search (rules, the_lemmas), λ k i h. search (rules, the_lemmas))
    (λ ts l h. (let e : has_kind is_block (Many ts) ≡ false = search (rules, the_lemmas) in absurd (cc)))
    (λ k ts l h. (let e : has_kind is_block (Tree k ts) ≡ is_block k = search (rules, the_lemmas) in start_tree k ts ∙ block_tree k ts (sym e ∙ h))) t

body_if : (x : Bool) (b : Node) (w r : Bool) → has_kind is_block b ≡ x → arrow_body (record (judged b) { demand = Body }) (context w r) ≡ true → Stands (record (asks Body (w || x)) { opening = OfBody }) b
body_if true b w r e h =
    let i : has_kind is_block (judged b).whole ≡ true = ap (has_kind is_block) (whole b) ∙ e in
    let c : derives b (context true (r || is_strict (judged b).whole)) ≡ true = sym (ap (λ z. if z then derives b (context true (r || is_strict (judged b).whole)) else (may_begin_body (start (judged b).whole) && fits (record (judged b) { demand = Body }) (context w r))) i) ∙ h in
    record { is_met = rw e refl; leads_no_call = λ y. absurd (cc); no_async = λ y. absurd (cc); opens = rw (block_start b e) refl; strict = r || is_strict (judged b).whole; derived = ap (λ z. derives b (context z (r || is_strict (judged b).whole))) (or_true w) ∙ c }
body_if false b w r e h =
    let i : has_kind is_block (judged b).whole ≡ false = ap (has_kind is_block) (whole b) ∙ e in
    let c : (may_begin_body (start (judged b).whole) && fits (record (judged b) { demand = Body }) (context w r)) ≡ true = sym (ap (λ z. if z then derives b (context true (r || is_strict (judged b).whole)) else (may_begin_body (start (judged b).whole) && fits (record (judged b) { demand = Body }) (context w r))) i) ∙ h in
    let p = half c in let x = fit Body b w r p.1 in let o = sym (ap (λ t. may_begin_body (start t)) (whole b)) ∙ p.0 in
    record { is_met = x.is_met; leads_no_call = λ y. absurd (cc); no_async = λ y. absurd (cc); opens = rw o refl; strict = x.strict; derived = ap (λ z. derives b (context z x.strict)) (or_false w) ∙ x.derived }

pub arrow : (s x b f : Node) → Row kind.ArrowExpr (s ∷ x ∷ b ∷ f ∷ [])
arrow s x b f a g r h = let p = half h in (tt, (code x true (r || is_strict (judged b).whole) p.0, (body_if (has_kind is_block b) b a.with_in r refl p.1, (tt, tt))))

pub class : (s e b : Node) → Row kind.Class (s ∷ e ∷ b ∷ [])
class s e b a g r h = let p = half h in (tt, (fit (AtLeast 17) e true (r || true) p.0, (code b true (r || true) p.1, tt)))

-- patterns
pub assign_pat : (s l e : Node) → Row kind.AssignPat (s ∷ l ∷ e ∷ [])
assign_pat s l e a g r h = let p = half h in (tt, (code l a.with_in r p.0, (fit (AtLeast 2) e a.with_in r p.1, tt)))

pub assign_pat_prop : (s l e : Node) → Row kind.AssignPatProp (s ∷ l ∷ e ∷ [])
assign_pat_prop s l e a g r h = (tt, (tt, (fit (AtLeast 2) e true r h, tt)))

pub array_pat : (s e : Node) → Row kind.ArrayPat (s ∷ e ∷ [])
array_pat s e a g r h = (tt, (code e true r h, tt))

pub object_pat : (s e : Node) → Row kind.ObjectPat (s ∷ e ∷ [])
object_pat s e a g r h = (tt, (code e true r h, tt))

pub rest_pat : (s e : Node) → Row kind.RestPat (s ∷ e ∷ [])
rest_pat s e a g r h = (tt, (code e a.with_in r h, tt))
