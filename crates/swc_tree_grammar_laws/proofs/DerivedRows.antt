-- The grammar derives what the tests ask together: expressions, patterns, functions and classes.
use Rattle.std.proofs.Common.{◌≡◌, Bool, true, false, not, ◌&&◌, ◌||◌, List, [], ◌∷◌, map, refl, sym, ap, ◌∙◌, rules}
use Rattle.std.specs.Prelude.{Option, if◌then◌else◌}
use Rattle.std.specs.List.{list_all}
use Rattle.swc_tree_node.specs.declared.kind.Kind.{Kind}
use Rattle.swc_tree_node.specs.declared.kind.Kind.TheVariants as kind
use Rattle.swc_tree_node.specs.declared.kind.Word.{Word as Word'}
use Rattle.swc_tree_node.specs.declared.node.Node.{Node, List as Many, Tree, out-Node, the_lemmas}
use Rattle.swc_tree_node.specs.declared.node.Node.TheOpen.{Node-F}
use Rattle.swc_tree_grammar.specs.Lower.swc_tree_scoping.specs.Places.{has_use_strict, block_in}
use Rattle.swc_tree_grammar.specs.Shapes.{items_of}
use Rattle.swc_tree_grammar.specs.Kinds.{has_kind, is_private_name, is_block}
use Rattle.swc_tree_grammar.specs.Levels.{word_of, is_in, is_absent}
use Rattle.swc_tree_grammar.specs.Demands.{Demand, meets, left_side, right_side}
use Rattle.swc_tree_grammar.specs.Demands.Demand.{Any, AtLeast, Each as EachOf, Key, Body, Operand, Link, NewCallee}
use Rattle.swc_tree_grammar.specs.Starts.{start}
use Rattle.swc_tree_grammar.specs.Forms.{is_strict}
use Rattle.swc_tree_grammar.specs.Grammar.{Context, derives, inside, strictly, fits, part, left_fits, may_stand, arrow_body, may_begin_body}
use Rattle.swc_tree_grammar.specs.Writable.{Round, all_sound, binding, assigning, strictly as strictly_sound, bound, name_is}
use Rattle.swc_tree_grammar.specs.Targets.{is_target, seen, target_in}
use Rattle.swc_tree_grammar.proofs.Asked.{asked, same, sound}
use Rattle.swc_tree_grammar.proofs.Induction.{Each, by_children}
use Rattle.swc_tree_grammar_laws.specs.Headed.{headed, heads_in}
use Rattle.swc_tree_grammar_laws.proofs.Levelled.{both, half, also}
use Rattle.swc_tree_grammar_laws.proofs.Heads.{headed_tree, headed_list, judged as headed_judged, whole as headed_whole}
use Rattle.swc_tree_grammar_laws.proofs.Begins.{or_right}
use Rattle.swc_tree_grammar_laws.proofs.Derived.{judged, whole, named, Heard, heard, Free, free, Good, Row, ChainRow, spot, part_is, bare_part, each_is, each_bare, sound_list}

-- operands at which `in` may stand bare where the whole may
pub await : (s a : Node) → Row kind.AwaitExpr (s ∷ a ∷ [])
await s a c r e m i w y q g = spot (AtLeast 15) a c (binding r) g.1.0 e (heard (s ∷ a ∷ []) (binding r) m).1.0 i w.1.0

pub unary : (s o a : Node) → Row kind.UnaryExpr (s ∷ o ∷ a ∷ [])
unary s o a c r e m i w y q g = spot (AtLeast 15) a c (binding r) g.1.1.0 e (heard (s ∷ o ∷ a ∷ []) (binding r) m).1.1.0 i w.1.1.0

pub yield : (s a d : Node) → Row kind.YieldExpr (s ∷ a ∷ d ∷ [])
yield s a d c r e m i w y q g = spot (AtLeast 2) a c (binding r) g.1.0 e (heard (s ∷ a ∷ d ∷ []) (binding r) m).1.0 i w.1.0

pub cond : (s t x a : Node) → Row kind.CondExpr (s ∷ t ∷ x ∷ a ∷ [])
cond s t x a c r e m i w y q g =
    let p = heard (s ∷ t ∷ x ∷ a ∷ []) (binding r) m in let j = half i in let k = half j.1 in
    also (spot (AtLeast 4) t c (binding r) g.1.0 e p.1.0 j.0 w.1.0)
    (also (spot (AtLeast 2) x (inside c) (binding r) g.1.1.0 e p.1.1.0 k.0 w.1.1.0) (spot (AtLeast 2) a c (binding r) g.1.1.1.0 e p.1.1.1.0 k.1 w.1.1.1.0))

pub assign : (s o f a : Node) → Row kind.AssignExpr (s ∷ o ∷ f ∷ a ∷ [])
assign s o f a c r e m i w y q g =
    let p = half (half m).1 in let j = half i in
    also (g.1.1.0 c (assigning r) e p.0 j.0) (spot (AtLeast 2) a c (binding r) g.1.1.1.0 e (heard (a ∷ []) (binding r) p.1).0 j.1 w.1.1.1.0)

-- what is called or has its member taken, and what stands behind it
callee_and_rest : (d : Demand) (o a : Node) (c : Context) (r : Round) → Good o → Good a → r.strict ≡ c.strict → Heard r o → sound a r ≡ true → (headed o c.with_in && headed a true) ≡ true → meets d o ≡ true
    → (fits (record (judged o) { demand = d }) c && derives a (inside c)) ≡ true
callee_and_rest d o a c r g h e m n i w = let j = half i in also (spot d o c r g e m j.0 w) (h (inside c) r e n j.1)

pub tagged : (s o a : Node) → Row kind.TaggedTpl (s ∷ o ∷ a ∷ [])
tagged s o a c r e m i w y q g = let p = heard (s ∷ o ∷ a ∷ []) (binding r) m in callee_and_rest Operand o a c (binding r) g.1.0 g.1.1.0 e p.1.0 p.1.1.0.1 i w.1.0

pub call : (s o a : Node) → Row kind.CallExpr (s ∷ o ∷ a ∷ [])
call s o a c r e m i w y q g = let p = heard (s ∷ o ∷ a ∷ []) (binding r) m in callee_and_rest Operand o a c (binding r) g.1.0 g.1.1.0 e p.1.0 p.1.1.0.1 i w.1.0

pub new : (s o a : Node) → Row kind.NewExpr (s ∷ o ∷ a ∷ [])
new s o a c r e m i w y q g = let p = heard (s ∷ o ∷ a ∷ []) (binding r) m in callee_and_rest (NewCallee (is_absent a)) o a c (binding r) g.1.0 g.1.1.0 e p.1.0 p.1.1.0.1 i w.1.0

pub opt_call : (s o a : Node) → Row kind.OptCall (s ∷ o ∷ a ∷ [])
opt_call s o a c r e m i w y q g = let p = heard (s ∷ o ∷ a ∷ []) (binding r) m in callee_and_rest Link o a c (binding r) g.1.0 g.1.1.0 e p.1.0 p.1.1.0.1 i w.1.0

pub chain_call : (s o a : Node) → ChainRow kind.OptCall (s ∷ o ∷ a ∷ [])
chain_call s o a c r e m i w y q g = let p = heard (s ∷ o ∷ a ∷ []) (binding r) m in callee_and_rest Link o a c (binding r) g.1.0 g.1.1.0 e p.1.0 p.1.1.0.1 i w.1.0

object : (o a : Node) (r : Round) → (not (has_kind is_private_name (asked o).whole) && (sound o (binding r) && sound a (binding r))) ≡ true → Heard (binding r) o × (sound a (binding r) ≡ true)
object o a r m = let p = half m in let n = half p.1 in ((sym (ap named (same o)) ∙ p.0, n.0), n.1)

pub member : (s o a : Node) → Row kind.MemberExpr (s ∷ o ∷ a ∷ [])
member s o a c r e m i w y q g = let p = object o a r m in callee_and_rest Operand o a c (binding r) g.1.0 g.1.1.0 e p.0 p.1 i w.1.0

pub chain_member : (s o a : Node) → ChainRow kind.MemberExpr (s ∷ o ∷ a ∷ [])
chain_member s o a c r e m i w y q g = let p = object o a r m in callee_and_rest Link o a c (binding r) g.1.0 g.1.1.0 e p.0 p.1 i w.1.0

-- what is assigned to is no private name
target_row : (k : Kind) (ts : List Node) → target_in (Node-F.Tree k (map seen ts)) ≡ true → not (is_private_name k) ≡ true
target_row kind.PrivateName ts h = absurd (cc)
target_row k ts h = refl

target_tree : (k : Kind) (ts : List Node) → is_target (Tree k ts) ≡ target_in (Node-F.Tree k (map seen ts))
target_tree k ts = search (rules, the_lemmas)

named_tree : (k : Kind) (ts : List Node) → named (Tree k ts) ≡ not (is_private_name k)
named_tree k ts = search (rules, the_lemmas)

target_named : (t : Node) → is_target t ≡ true → named t ≡ true
target_named t = by_children (λ t. is_target t ≡ true → named t ≡ true)
    (λ h. search (rules, the_lemmas), λ x h. search (rules, the_lemmas), λ w h. search (rules, the_lemmas), λ x h. search (rules, the_lemmas), λ s h. search (rules, the_lemmas), λ k i h. search (rules, the_lemmas))
    (λ ts l h. search (rules, the_lemmas))
    (λ k ts l h. named_tree k ts ∙ target_row k ts (sym (target_tree k ts) ∙ h)) t

pub update : (s o f a : Node) → Row kind.UpdateExpr (s ∷ o ∷ f ∷ a ∷ [])
update s o f a c r e m i w y q g = let p = half m in spot (AtLeast 17) a c (binding r) g.1.1.1.0 e (target_named a (sym (ap is_target (same a)) ∙ p.0), p.1) i w.1.1.1.0

or_false : (x : Bool) → (x || false) ≡ x
or_false true = refl
or_false false = refl

-- sides of an operator: on the left of `in` a private name may stand
left_if : (x : Bool) (op : Option Word') (d : Demand) (f : Node) (c : Context) → has_kind is_private_name f ≡ x → (is_in op || not x) ≡ true → meets d f ≡ true → derives f c ≡ true → left_fits op (record (judged f) { demand = d }) c ≡ true
left_if false op d f c x n w h = or_right (is_in op && has_kind is_private_name (judged f).whole) (fits (record (judged f) { demand = d }) c) (rw (whole f, w, x, h) refl)
left_if true op d f c x n w h = let i : is_in op ≡ true = sym (or_false (is_in op)) ∙ n in rw (i, whole f, x) refl

sides : (op : Option Word') (f a : Node) (c : Context) (r : Round) → Good f → Good a → r.strict ≡ c.strict → (is_in op || named f) ≡ true → sound f r ≡ true → Heard r a
    → (c.with_in || not (is_in op)) ≡ true → (headed f c.with_in && headed a c.with_in) ≡ true → meets (left_side op) f ≡ true → meets (right_side op) a ≡ true
    → (may_stand op c && (left_fits op (record (judged f) { demand = left_side op }) c && fits (record (judged a) { demand = right_side op }) c)) ≡ true
sides op f a c r g h e n m p s i v w =
    let j = half i in also s (also (left_if (has_kind is_private_name f) op (left_side op) f c refl n v (g c r e m j.0)) (spot (right_side op) a c r h e p j.1 w))

pub bin : (s o f a : Node) → Row kind.BinExpr (s ∷ o ∷ f ∷ a ∷ [])
bin s o f a c r e m i w y q g =
    let p = half (sym (ap (λ u. (is_in (word_of u) || not (has_kind is_private_name (asked f).whole)) && (sound f (binding r) && all_sound (asked a ∷ []) (binding r))) (same o)) ∙ m) in let n = half p.1 in
    let j = half (sym (ap (λ u. (c.with_in || not (is_in (word_of u))) && (headed f c.with_in && headed a c.with_in)) (headed_whole o)) ∙ i) in
    rw (whole o) (sides (word_of o) f a c (binding r) g.1.1.0 g.1.1.1.0 e (sym (ap (λ u. is_in (word_of o) || named u) (same f)) ∙ p.0) n.0 (heard (a ∷ []) (binding r) n.1).0 j.0 j.1 w.1.1.0 w.1.1.1.0)

-- lists of expressions
each_named : (ts : List Node) (r : Round) → all_sound (map asked ts) r ≡ true → list_all named ts ≡ true
each_named [] r h = refl
each_named (t ∷ ts) r h = let q = half h in also (sym (ap named (same t)) ∙ (half q.0).0) (each_named ts r q.1)

items_of_many : (ts : List Node) → items_of (Many ts) ≡ ts
items_of_many ts = search (rules, the_lemmas)

items_of_tree : (k : Kind) (ts : List Node) → items_of (Tree k ts) ≡ []
items_of_tree k ts = search (rules, the_lemmas)

items_named : (t : Node) (r : Round) → sound t r ≡ true → list_all named (items_of t) ≡ true
items_named t r = by_children (λ t. sound t r ≡ true → list_all named (items_of t) ≡ true)
    (λ h. search (rules, the_lemmas), λ x h. search (rules, the_lemmas), λ w h. search (rules, the_lemmas), λ x h. search (rules, the_lemmas), λ s h. search (rules, the_lemmas), λ k i h. search (rules, the_lemmas))
    (λ ts l h. rw (items_of_many ts) (each_named ts r (sym (sound_list ts r) ∙ h)))
    (λ k ts l h. rw (items_of_tree k ts) refl) t

pub seq : (s es : Node) → Row kind.SeqExpr (s ∷ es ∷ [])
seq s es c r e m i w y q g = let p = (half m).1 in each_is (EachOf 2) es c w.1.0 (items_named es r p) (g.1.0 c r e p i)

pub tpl : (s es u : Node) → Row kind.Tpl (s ∷ es ∷ u ∷ [])
tpl s es u c r e m i w y q g = let p = (half m).1 in each_bare es (inside c) (items_named es (binding r) p) (g.1.0 (inside c) (binding r) e p (free (s ∷ es ∷ u ∷ []) i).1.0)

pub private_prop : (s k a t : Node) → Row kind.PrivateProp (s ∷ k ∷ a ∷ t ∷ [])
private_prop s k a t c r e m i w y q g = spot (AtLeast 2) a (inside c) (binding r) g.1.1.0 e (heard (a ∷ []) (binding r) m).0 (free (s ∷ k ∷ a ∷ t ∷ []) i).1.1.0 w.1.1.0

-- bodies, which make their code strict
stricter : (b : Node) (ts : List Node) (r : Round) → all_sound (map asked ts) (strictly_sound (is_strict (asked b).whole) r) ≡ true → Each (Heard (strictly_sound (is_strict b) r)) ts
stricter b ts r h = heard ts (strictly_sound (is_strict b) r) (sym (ap (λ w. all_sound (map asked ts) (strictly_sound (is_strict w) r)) (same b)) ∙ h)

strict_good : (b t : Node) (c : Context) (r : Round) → Good t → r.strict ≡ c.strict → Heard (strictly_sound (is_strict b) r) t → Free t → derives t (strictly (is_strict (judged b).whole) c) ≡ true
strict_good b t c r g e h i = rw (whole b) (g (strictly (is_strict b) c) (strictly_sound (is_strict b) r) (ap (λ s. s || is_strict b) e) h.1 i)

pub getter : (s k b : Node) → Row kind.GetterProp (s ∷ k ∷ b ∷ [])
getter s k b c r e m i w y q g =
    let p = half m in let j = free (s ∷ k ∷ b ∷ []) i in
    also (part_is Key k c (binding r) g.1.0 e (heard (k ∷ []) (binding r) p.0).0.1 j.1.0 w.1.0) (strict_good b b c r g.1.1.0 e (stricter b (b ∷ []) r p.1).0 j.1.1.0)

pub setter : (s k a b : Node) → Row kind.SetterProp (s ∷ k ∷ a ∷ b ∷ [])
setter s k a b c r e m i w y q g =
    let p = half (half m).1 in let j = free (s ∷ k ∷ a ∷ b ∷ []) i in let z = stricter b (a ∷ b ∷ []) r p.1 in
    also (part_is Key k c (binding r) g.1.0 e (heard (k ∷ []) (binding r) p.0).0.1 j.1.0 w.1.0)
    (also (strict_good b a c r g.1.1.0 e z.0 j.1.1.0) (strict_good b b c r g.1.1.1.0 e z.1.0 j.1.1.1.0))

pub function : (s a b f h : Node) → Row kind.Function (s ∷ a ∷ b ∷ f ∷ h ∷ [])
function s a b f h c r e m i w y q g =
    let z = stricter b (a ∷ b ∷ []) r (half m).1 in let j = free (s ∷ a ∷ b ∷ f ∷ h ∷ []) i in
    also (strict_good b a c r g.1.0 e z.0 j.1.0) (strict_good b b c r g.1.1.0 e z.1.0 j.1.1.0)

-- where `in` may stand, no more is asked
abbrev Freer : Node → Type 0
Freer t = headed t false ≡ true → Free t

freer_one : (a b a' : Bool) → (a ≡ true → a' ≡ true) → (a && b) ≡ true → (a' && b) ≡ true
freer_one a b a' f h = let q = both a b h in also (f q.0) q.1

freer_two : (a b a' b' : Bool) → (a ≡ true → a' ≡ true) → (b ≡ true → b' ≡ true) → (a && b) ≡ true → (a' && b') ≡ true
freer_two a b a' b' f g h = let q = both a b h in also (f q.0) (g q.1)

freer_row : (k : Kind) (ts : List Node) → Each Freer ts → heads_in (Node-F.Tree k (map headed_judged ts)) false ≡ true → heads_in (Node-F.Tree k (map headed_judged ts)) true ≡ true
freer_row kind.BinExpr (s ∷ o ∷ f ∷ g ∷ []) l h = freer_two (headed f false) (headed g false) (headed f true) (headed g true) l.1.1.0 l.1.1.1.0 (both (not (is_in (word_of (headed_judged o).whole))) (headed f false && headed g false) h).1
freer_row kind.SeqExpr (s ∷ e ∷ []) l h = l.1.0 h
freer_row kind.AssignExpr (s ∷ o ∷ f ∷ g ∷ []) l h = freer_two (headed f false) (headed g false) (headed f true) (headed g true) l.1.1.0 l.1.1.1.0 h
freer_row kind.CondExpr (s ∷ t ∷ e ∷ a ∷ []) l h = freer_two (headed t false) (headed e true && headed a false) (headed t true) (headed e true && headed a true) l.1.0 (freer_two (headed e true) (headed a false) (headed e true) (headed a true) (λ x. x) l.1.1.1.0) h
freer_row kind.UnaryExpr (s ∷ o ∷ a ∷ []) l h = l.1.1.0 h
freer_row kind.AwaitExpr (s ∷ a ∷ []) l h = l.1.0 h
freer_row kind.UpdateExpr (s ∷ o ∷ f ∷ a ∷ []) l h = l.1.1.1.0 h
freer_row kind.YieldExpr (s ∷ a ∷ d ∷ []) l h = l.1.0 h
freer_row kind.MemberExpr (s ∷ o ∷ m ∷ []) l h = freer_one (headed o false) (headed m true) (headed o true) l.1.0 h
freer_row kind.TaggedTpl (s ∷ o ∷ m ∷ []) l h = freer_one (headed o false) (headed m true) (headed o true) l.1.0 h
freer_row kind.CallExpr (s ∷ o ∷ m ∷ []) l h = freer_one (headed o false) (headed m true) (headed o true) l.1.0 h
freer_row kind.NewExpr (s ∷ o ∷ m ∷ []) l h = freer_one (headed o false) (headed m true) (headed o true) l.1.0 h
freer_row kind.OptCall (s ∷ o ∷ m ∷ []) l h = freer_one (headed o false) (headed m true) (headed o true) l.1.0 h
freer_row kind.OptChainExpr (s ∷ o ∷ m ∷ []) l h = l.1.1.0 h
freer_row kind.ArrowExpr (s ∷ a ∷ e ∷ f ∷ []) l h = freer_two (headed a true) (headed e false) (headed a true) (headed e true) (λ x. x) l.1.1.0 h
freer_row kind.VarDecl (s ∷ w ∷ d ∷ []) l h = l.1.1.0 h
freer_row kind.VarDeclarator (s ∷ n ∷ i ∷ []) l h = freer_two (headed n false) (headed i false) (headed n true) (headed i true) l.1.0 l.1.1.0 h
freer_row kind.AssignPat (s ∷ f ∷ a ∷ []) l h = freer_two (headed f false) (headed a false) (headed f true) (headed a true) l.1.0 l.1.1.0 h
freer_row kind.RestPat (s ∷ a ∷ []) l h = l.1.0 h
freer_row kind.ForStmt (s ∷ i ∷ t ∷ u ∷ e ∷ []) l h = h
freer_row kind.ForInStmt (s ∷ i ∷ r ∷ e ∷ []) l h = h
freer_row kind.ForOfStmt (s ∷ w ∷ i ∷ r ∷ e ∷ []) l h = h
freer_row k ts l h = h

freer_each : (ts : List Node) → Each Freer ts → list_all (λ e. e.holds false) (map headed_judged ts) ≡ true → list_all (λ e. e.holds true) (map headed_judged ts) ≡ true
freer_each [] l h = refl
freer_each (t ∷ ts) l h = freer_two (headed t false) (list_all (λ e. e.holds false) (map headed_judged ts)) (headed t true) (list_all (λ e. e.holds true) (map headed_judged ts)) l.0 (freer_each ts l.1) h

freer : (t : Node) → Freer t
freer t = by_children Freer
    (λ h. search (rules, the_lemmas), λ x h. search (rules, the_lemmas), λ w h. search (rules, the_lemmas), λ x h. search (rules, the_lemmas), λ s h. search (rules, the_lemmas), λ k i h. search (rules, the_lemmas))
    (λ ts l h. headed_list ts true ∙ freer_each ts l (sym (headed_list ts false) ∙ h))
    (λ k ts l h. headed_tree k ts true ∙ freer_row k ts l (sym (headed_tree k ts false) ∙ h)) t

freer_if : (x : Bool) (t : Node) → headed t x ≡ true → Free t
freer_if true t h = h
freer_if false t h = freer t h

-- an arrow's body, of which a block alone makes its code strict
strict_row : (k : Kind) (ts : List Node) → is_block k ≡ false → has_use_strict (block_in (Node-F.Tree k ts)) ≡ false
strict_row kind.BlockStmt ts h = absurd (cc)
strict_row k ts h = refl

block_tree : (k : Kind) (ts : List Node) → has_kind is_block (Tree k ts) ≡ is_block k
block_tree k ts = search (rules, the_lemmas)

strict_tree : (k : Kind) (ts : List Node) → is_strict (Tree k ts) ≡ has_use_strict (block_in (Node-F.Tree k ts))
strict_tree k ts = search (rules, the_lemmas)

not_strict : (t : Node) → has_kind is_block t ≡ false → is_strict t ≡ false
not_strict t = by_children (λ t. has_kind is_block t ≡ false → is_strict t ≡ false)
    (λ h. search (rules, the_lemmas), λ x h. search (rules, the_lemmas), λ w h. search (rules, the_lemmas), λ x h. search (rules, the_lemmas), λ s h. search (rules, the_lemmas), λ k i h. search (rules, the_lemmas))
    (λ ts l h. search (rules, the_lemmas))
    (λ k ts l h. strict_tree k ts ∙ strict_row k ts (sym (block_tree k ts) ∙ h)) t

chosen : (x a b : Bool) → x ≡ false → b ≡ true → (if x then a else b) ≡ true
chosen true a b x h = absurd (cc)
chosen false a b x h = h

body_if : (x : Bool) (b : Node) (c : Context) (r : Round) → has_kind is_block b ≡ x → (x || may_begin_body (start b)) ≡ true → meets Body b ≡ true → Good b → r.strict ≡ c.strict → Heard (strictly_sound (is_strict b) r) b → headed b c.with_in ≡ true
    → arrow_body (record (judged b) { demand = Body }) c ≡ true
body_if true b c r x y w g e h i = let k : has_kind is_block (judged b).whole ≡ true = ap (has_kind is_block) (whole b) ∙ x in rw k (strict_good b b c r g e h (freer_if c.with_in b i))
body_if false b c r x y w g e h i =
    let k : has_kind is_block (judged b).whole ≡ false = ap (has_kind is_block) (whole b) ∙ x in
    let z : (strictly_sound (is_strict b) r).strict ≡ c.strict = ap (λ s. r.strict || s) (not_strict b x) ∙ or_false r.strict ∙ e in
    let f : fits (record (judged b) { demand = Body }) c ≡ true = spot Body b c (strictly_sound (is_strict b) r) g z h i w in
    let y' : may_begin_body (start (judged b).whole) ≡ true = ap (λ t. may_begin_body (start t)) (whole b) ∙ y in
    chosen (has_kind is_block (judged b).whole) (derives b (strictly (is_strict (judged b).whole) c)) (may_begin_body (start (judged b).whole) && fits (record (judged b) { demand = Body }) c) k (also y' f)

pub arrow : (s a b f : Node) → Row kind.ArrowExpr (s ∷ a ∷ b ∷ f ∷ [])
arrow s a b f c r e m i w y q g =
    let z = stricter b (a ∷ b ∷ []) r (half m).1 in let j = half i in
    also (strict_good b a c r g.1.0 e z.0 j.0) (body_if (has_kind is_block b) b c r refl y w.1.1.0 g.1.1.0 e z.1.0 j.1)

pub class : (s a b : Node) → Row kind.Class (s ∷ a ∷ b ∷ [])
class s a b c r e m i w y q g =
    let p = heard (a ∷ b ∷ []) (strictly_sound true r) m in let j = free (s ∷ a ∷ b ∷ []) i in let z = ap (λ s. s || true) e in
    also (spot (AtLeast 17) a (strictly true c) (strictly_sound true r) g.1.0 z p.0 j.1.0 w.1.0) (g.1.1.0 (strictly true c) (strictly_sound true r) z p.1.0.1 j.1.1.0)

-- patterns
pub declarator : (s n a : Node) → Row kind.VarDeclarator (s ∷ n ∷ a ∷ [])
declarator s n a c r e m i w y q g =
    let p = half (half m).1 in let j = half i in
    also (g.1.0 c (binding r) e p.0 j.0) (spot (AtLeast 2) a c (binding r) g.1.1.0 e (heard (a ∷ []) (binding r) p.1).0 j.1 w.1.1.0)

pub assign_pat : (s f a : Node) → Row kind.AssignPat (s ∷ f ∷ a ∷ [])
assign_pat s f a c r e m i w y q g =
    let p = half (half m).1 in let j = half i in
    also (g.1.0 c r e p.0 j.0) (spot (AtLeast 2) a c (binding r) g.1.1.0 e (heard (a ∷ []) (binding r) p.1).0 j.1 w.1.1.0)

pub assign_pat_prop : (s k a : Node) → Row kind.AssignPatProp (s ∷ k ∷ a ∷ [])
assign_pat_prop s k a c r e m i w y q g = spot (AtLeast 2) a (inside c) (binding r) g.1.1.0 e (heard (a ∷ []) (binding r) (half m).1).0 (free (s ∷ k ∷ a ∷ []) i).1.1.0 w.1.1.0

pub array_pat : (s a : Node) → Row kind.ArrayPat (s ∷ a ∷ [])
array_pat s a c r e m i w y q g = g.1.0 (inside c) r e (half m).1 (free (s ∷ a ∷ []) i).1.0

pub object_pat : (s a : Node) → Row kind.ObjectPat (s ∷ a ∷ [])
object_pat s a c r e m i w y q g = g.1.0 (inside c) r e (half m).1 (free (s ∷ a ∷ []) i).1.0

pub rest_pat : (s a : Node) → Row kind.RestPat (s ∷ a ∷ [])
rest_pat s a c r e m i w y q g = g.1.0 c r e (half m).1 i

pub key_value_pat : (k a : Node) → Row kind.KeyValuePatProp (k ∷ a ∷ [])
key_value_pat k a c r e m i w y q g =
    let p = half (half m).1 in let j = free (k ∷ a ∷ []) i in
    also (part_is Key k c (binding r) g.0 e p.0 j.0 w.0) (also (part_is Any a c r g.1.0 e p.1 j.1.0 refl) refl)

-- classes' members, functions and classes with their names
pub constructor : (s k a b : Node) → Row kind.Constructor (s ∷ k ∷ a ∷ b ∷ [])
constructor s k a b c r e m i w y q g =
    let p = heard (a ∷ b ∷ []) (binding r) (half (half m).1).1 in let j = free (s ∷ k ∷ a ∷ b ∷ []) i in
    also (g.1.1.0 (inside c) (binding r) e p.0.1 j.1.1.0) (g.1.1.1.0 (inside c) (binding r) e p.1.0.1 j.1.1.1.0)

pub class_method : (s k f t u : Node) → Row kind.ClassMethod (s ∷ k ∷ f ∷ t ∷ u ∷ [])
class_method s k f t u c r e m i w y q g =
    let p = half (half m).1 in let j = free (s ∷ k ∷ f ∷ t ∷ u ∷ []) i in also (part_is Key k c (binding r) g.1.0 e p.0 j.1.0 w.1.0) (g.1.1.0 (inside c) r e p.1 j.1.1.0)

pub private_method : (s k f t u : Node) → Row kind.PrivateMethod (s ∷ k ∷ f ∷ t ∷ u ∷ [])
private_method s k f t u c r e m i w y q g = g.1.1.0 (inside c) r e (half m).1 (free (s ∷ k ∷ f ∷ t ∷ u ∷ []) i).1.1.0

name_derived : (t : Node) (x : Bool) (c : Context) → name_is x (out-Node t) ≡ true → derives t c ≡ true
name_derived t x c = by_children (λ t. name_is x (out-Node t) ≡ true → derives t c ≡ true)
    (λ h. search (rules, the_lemmas), λ y h. search (rules, the_lemmas), λ w h. search (rules, the_lemmas), λ y h. search (rules, the_lemmas), λ s h. search (rules, the_lemmas), λ k i h. search (rules, the_lemmas))
    (λ ts l h. (let e : name_is x (out-Node (Many ts)) ≡ false = search (rules, the_lemmas) in absurd (cc)))
    (λ k ts l h. (let e : name_is x (out-Node (Tree k ts)) ≡ false = search (rules, the_lemmas) in absurd (cc))) t

named_row : (n f : Node) (c : Context) (r r' : Round) → r.strict ≡ c.strict → (bound (asked n) r' && sound f r) ≡ true → list_all (λ e. e.holds true) (map headed_judged (n ∷ f ∷ [])) ≡ true → Each Good (n ∷ f ∷ [])
    → list_all (part c) (map judged (n ∷ f ∷ [])) ≡ true
named_row n f c r r' e m i g =
    let p = half m in let b = sym (ap (λ t. name_is r'.strict (out-Node t)) (same n)) ∙ p.0 in
    also (bare_part n c (name_derived n r'.strict (inside c) b)) (also (bare_part f c (g.1.0 (inside c) r e p.1 (free (n ∷ f ∷ []) i).1.0)) refl)

pub fn_decl : (n f : Node) → Row kind.FnDecl (n ∷ f ∷ [])
fn_decl n f c r e m i w y q g = named_row n f c r r e m i g

pub fn_expr : (n f : Node) → Row kind.FnExpr (n ∷ f ∷ [])
fn_expr n f c r e m i w y q g = named_row n f c r r e m i g

pub class_decl : (n f : Node) → Row kind.ClassDecl (n ∷ f ∷ [])
class_decl n f c r e m i w y q g = named_row n f c r (strictly_sound true r) e m i g

pub class_expr : (n f : Node) → Row kind.ClassExpr (n ∷ f ∷ [])
class_expr n f c r e m i w y q g = named_row n f c r (strictly_sound true r) e m i g
