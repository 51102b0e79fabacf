-- The grammar derives what the tests ask together: statements, and every node.
use Rattle.std.proofs.Common.{◌≡◌, Bool, true, false, not, ◌&&◌, ◌||◌, List, [], ◌∷◌, map, refl, sym, ap, ◌∙◌, rules}
use Rattle.std.specs.Prelude.{if◌then◌else◌}
use Rattle.std.specs.List.{list_all}
use Rattle.swc_tree_node.specs.declared.kind.Kind.{Kind}
use Rattle.swc_tree_node.specs.declared.kind.Kind.TheVariants as kind
use Rattle.swc_tree_node.specs.declared.node.Node.{Node, Absent, Flag, Word, Text, Span, List as Many, Identifier, Tree, out-Node, the_lemmas}
use Rattle.swc_tree_node.specs.declared.node.Node.TheOpen.{Node-F}
use Rattle.swc_tree_grammar.specs.Lower.swc_tree_scoping.specs.Places.{has_use_strict}
use Rattle.swc_tree_grammar.specs.Shapes.{items_of}
use Rattle.swc_tree_grammar.specs.Kinds.{is_opt_chain}
use Rattle.swc_tree_grammar.specs.Levels.{is_absent}
use Rattle.swc_tree_grammar.specs.Blocks.{takes_else}
use Rattle.swc_tree_grammar.specs.Demands.{demands}
use Rattle.swc_tree_grammar.specs.Demands.Demand.{AtLeast}
use Rattle.swc_tree_grammar.specs.Starts.{start}
use Rattle.swc_tree_grammar.specs.Forms.{form, is_body, is_branch, is_using, are_named, holds}
use Rattle.swc_tree_grammar.specs.Grammar.{Context, derives, derives_in, FitsGrammar, inside, outside, strictly, fits as fits_in, may_begin_statement, may_begin_export, loop_body, branch, no_using, head, using_head_in, is_async_name}
use Rattle.swc_tree_grammar.specs.Writable.{Round, Writable, all_sound, in_head_in, binding, assigning, strictly as strictly_sound, pattern, declares_in, head as sound_head, loop_body as sound_body, branch as sound_branch, no_using as sound_no_using}
use Rattle.swc_tree_grammar.proofs.Asked.{asked, head_list, same, sound}
use Rattle.swc_tree_grammar.proofs.Induction.{Each, by_children}
use Rattle.swc_tree_grammar_laws.specs.Levelled.{levelled, each_meets}
use Rattle.swc_tree_grammar_laws.specs.Headed.{headed, heads_in}
use Rattle.swc_tree_grammar_laws.specs.Started.{started, starts_in}
use Rattle.swc_tree_grammar_laws.specs.Plain.{is_link, is_link_in, plain, plain_in}
use Rattle.swc_tree_grammar_laws.proofs.Levelled.{levelled_tree, levelled_list, fine, both, half, also}
use Rattle.swc_tree_grammar_laws.proofs.Heads.{headed_tree, headed_list, judged as headed_judged, whole as headed_whole}
use Rattle.swc_tree_grammar_laws.proofs.Begins.{started_tree, started_list, or_right}
use Rattle.swc_tree_grammar_laws.proofs.Every.{every_tree, every_list}
use Rattle.swc_tree_grammar_laws.proofs.Derived.{judged, whole, heard, Free, free, Derived, Good, good, Row, row, link_row, free_row, plain_row, spot, bare, fields, fields_of, no_link, derives_tree, derives_list, sound_tree, sound_list, in_head_tree}
use Rattle.swc_tree_grammar_laws.proofs.DerivedRows.{await, unary, yield, cond, assign, tagged, call, new, opt_call, chain_call, member, chain_member, update, bin, seq, tpl, private_prop, getter, setter, function, arrow, class, declarator, assign_pat, assign_pat_prop, array_pat, object_pat, rest_pat, key_value_pat, constructor, class_method, private_method, fn_decl, fn_expr, class_decl, class_expr}

-- statements
statement : (s a : Node) → Row kind.ExprStmt (s ∷ a ∷ [])
statement s a c r e m i w y q g = also (ap (λ t. may_begin_statement (start t)) (whole a) ∙ y) (bare a (inside c) (binding r) g.1.0 e (heard (a ∷ []) (binding r) (half m).1).0 (free (s ∷ a ∷ []) i).1.0)

var_decl : (s o d : Node) → Row kind.VarDecl (s ∷ o ∷ d ∷ [])
var_decl s o d c r e m i w y q g = g.1.1.0 c r e (half m).1 i

using_decl : (s o d : Node) → Row kind.UsingDecl (s ∷ o ∷ d ∷ [])
using_decl s o d c r e m i w y q g =
    let p = half m in also (ap (λ t. are_named true (items_of t)) (whole d ∙ sym (same d)) ∙ p.0) (g.1.1.0 (inside c) r e p.1 (free (s ∷ o ∷ d ∷ []) i).1.1.0)

export_decl : (s d : Node) → Row kind.ExportDecl (s ∷ d ∷ [])
export_decl s d c r e m i w y q g = g.1.0 (inside c) r e (half m).1 (free (s ∷ d ∷ []) i).1.0

catch : (s a b : Node) → Row kind.CatchClause (s ∷ a ∷ b ∷ [])
catch s a b c r e m i w y q g =
    let p = half (half m).1 in let j = free (s ∷ a ∷ b ∷ []) i in also (g.1.0 (inside c) (binding r) e p.0 j.1.0) (g.1.1.0 (inside c) r e p.1 j.1.1.0)

body_of : (b : Node) (c : Context) (r : Round) → Good b → r.strict ≡ c.strict → sound_body (asked b) r ≡ true → Free b → loop_body (judged b) c ≡ true
body_of b c r g e h i = let p = half h in also (ap (λ t. is_body (form t)) (whole b ∙ sym (same b)) ∙ p.0) (g (inside c) r e p.1 i)

same_branch : (b : Node) (c : Context) (r : Round) → r.strict ≡ c.strict → is_branch r.strict (form (asked b).whole) ≡ true → is_branch c.strict (form (judged b).whole) ≡ true
same_branch b c r e h = rw (whole b, sym e) (sym (ap (λ t. is_branch r.strict (form t)) (same b)) ∙ h)

branch_of : (b : Node) (c : Context) (r : Round) → Good b → r.strict ≡ c.strict → sound_branch (asked b) r ≡ true → Free b → branch (judged b) c ≡ true
branch_of b c r g e h i = let p = half h in also (same_branch b c r e p.0) (g (inside c) r e p.1 i)

first_of : (t : Node) (c : Context) (r : Round) → Good t → r.strict ≡ c.strict → all_sound (map asked (t ∷ [])) (binding r) ≡ true → Free t → fits_in (judged t) (inside c) ≡ true
first_of t c r g e h i = bare t (inside c) (binding r) g e (heard (t ∷ []) (binding r) h).0 i

with : (s a b : Node) → Row kind.WithStmt (s ∷ a ∷ b ∷ [])
with s a b c r e m i w y q g = let p = half m in let j = free (s ∷ a ∷ b ∷ []) i in also (first_of a c r g.1.0 e p.0 j.1.0) (body_of b c r g.1.1.0 e p.1 j.1.1.0)

labeled : (s a b : Node) → Row kind.LabeledStmt (s ∷ a ∷ b ∷ [])
labeled s a b c r e m i w y q g = branch_of b c r g.1.1.0 e (half m).1 (free (s ∷ a ∷ b ∷ []) i).1.1.0

alt_if : (x : Bool) (f a : Node) (c : Context) (r : Round) → is_absent a ≡ x → (x || not (takes_else f)) ≡ true → Good a → r.strict ≡ c.strict → (is_absent (asked a).whole || sound_branch (asked a) r) ≡ true → Free a
    → (is_absent (judged a).whole || (not (takes_else (judged f).whole) && branch (judged a) c)) ≡ true
alt_if true f a c r x q g e m i = rw (ap is_absent (whole a) ∙ x) refl
alt_if false f a c r x q g e m i =
    let n : is_absent (asked a).whole ≡ false = ap is_absent (same a) ∙ x in
    let p : sound_branch (asked a) r ≡ true = sym (ap (λ b. b || sound_branch (asked a) r) n) ∙ m in
    or_right (is_absent (judged a).whole) (not (takes_else (judged f).whole) && branch (judged a) c) (also (ap (λ t. not (takes_else t)) (whole f) ∙ q) (branch_of a c r g e p i))

choice : (s t f a : Node) → Row kind.IfStmt (s ∷ t ∷ f ∷ a ∷ [])
choice s t f a c r e m i w y q g =
    let p = half m in let n = half p.1 in let j = free (s ∷ t ∷ f ∷ a ∷ []) i in
    also (first_of t c r g.1.0 e p.0 j.1.0) (also (branch_of f c r g.1.1.0 e n.0 j.1.1.0) (alt_if (is_absent a) f a c r refl q g.1.1.1.0 e n.1 j.1.1.1.0))

same_using : (b : Node) → sound_no_using (asked b) ≡ true → no_using (judged b) ≡ true
same_using b h = ap (λ t. list_all (λ t. not (is_using t)) (items_of t)) (whole b ∙ sym (same b)) ∙ h

case : (s t b : Node) → Row kind.SwitchCase (s ∷ t ∷ b ∷ [])
case s t b c r e m i w y q g =
    let p = half m in let n = half p.1 in let j = free (s ∷ t ∷ b ∷ []) i in
    also (first_of t c r g.1.0 e p.0 j.1.0) (also (same_using b n.0) (g.1.1.0 (inside c) r e n.1 j.1.1.0))

while : (s t b : Node) → Row kind.WhileStmt (s ∷ t ∷ b ∷ [])
while s t b c r e m i w y q g = let p = half m in let j = free (s ∷ t ∷ b ∷ []) i in also (first_of t c r g.1.0 e p.0 j.1.0) (body_of b c r g.1.1.0 e p.1 j.1.1.0)

do_while : (s b t : Node) → Row kind.DoWhileStmt (s ∷ b ∷ t ∷ [])
do_while s b t c r e m i w y q g = let p = half m in let j = free (s ∷ b ∷ t ∷ []) i in also (first_of t c r g.1.1.0 e p.0 j.1.1.0) (body_of b c r g.1.0 e p.1 j.1.0)

loop : (s i t u b : Node) → Row kind.ForStmt (s ∷ i ∷ t ∷ u ∷ b ∷ [])
loop s i t u b c r e m h w y q g =
    let p = half m in let n = heard (i ∷ t ∷ u ∷ []) (binding r) p.0 in let j = half h in let k = half j.1 in let l = half k.1 in
    also (bare i (outside c) (binding r) g.1.0 e n.0 j.0) (also (bare t (inside c) (binding r) g.1.1.0 e n.1.0 k.0)
    (also (bare u (inside c) (binding r) g.1.1.1.0 e n.1.1.0 l.0) (body_of b c r g.1.1.1.1.0 e p.1 l.1)))

module_row : (s b h : Node) → Row kind.Module (s ∷ b ∷ h ∷ [])
module_row s b h c r e m i w y q g = g.1.0 (strictly true c) (strictly_sound true r) (ap (λ s. s || true) e) m (free (s ∷ b ∷ h ∷ []) i).1.0

script : (s b h : Node) → Row kind.Script (s ∷ b ∷ h ∷ [])
script s b h c r e m i w y q g =
    let p = half m in let x = has_use_strict (items_of b) in
    let n : sound b (strictly_sound x r) ≡ true = sym (ap (λ t. sound b (strictly_sound (has_use_strict (items_of t)) r)) (same b)) ∙ p.1 in
    let d : derives b (strictly (has_use_strict (items_of (judged b).whole)) c) ≡ derives b (strictly x c) = ap (λ t. derives b (strictly (has_use_strict (items_of t)) c)) (whole b) in
    also (same_using b p.0) (d ∙ g.1.0 (strictly x c) (strictly_sound x r) (ap (λ s. s || x) e) n (free (s ∷ b ∷ h ∷ []) i).1.0)

-- a declaration in the head of a `for` in or of, which has no initialiser
abbrev Lead : Node → Type 0
Lead t = (c : Context) (r : Round) → r.strict ≡ c.strict → (asked t).in_head r ≡ true → headed t c.with_in ≡ true → is_using t ≡ false → derives t c ≡ true

abbrev Leading : Node → Type 0
Leading t = started t ≡ true → plain t ≡ true → fine t ≡ true → Lead t

abbrev Both : Node → Type 0
Both t = Derived t × Leading t

firsts : (ts : List Node) → Each Both ts → Each Derived ts
firsts [] l = tt
firsts (t ∷ ts) l = (l.0.0, firsts ts l.1)

seconds : (ts : List Node) → Each Both ts → Each Leading ts
seconds [] l = tt
seconds (t ∷ ts) l = (l.0.1, seconds ts l.1)

using_is : (s o d : Node) → is_using (Tree kind.UsingDecl (s ∷ o ∷ d ∷ [])) ≡ true
using_is s o d = search (rules, the_lemmas)

lead_row : (k : Kind) (ts : List Node) → Each Derived ts → (c : Context) (r : Round) → r.strict ≡ c.strict → in_head_in (Node-F.Tree k (map asked ts)) r ≡ true → heads_in (Node-F.Tree k (map headed_judged ts)) c.with_in ≡ true
    → list_all started ts ≡ true → list_all plain ts ≡ true → list_all (λ t. levelled t (is_opt_chain k)) ts ≡ true → is_using (Tree k ts) ≡ false → derives_in (Node-F.Tree k (fields false k ts)) c ≡ true
lead_row kind.VarDecl (s ∷ o ∷ d ∷ []) l c r e h i b p w u = (good (s ∷ o ∷ d ∷ []) l b p w).1.1.0 c (binding r) e (half h).1 i
lead_row kind.UsingDecl (s ∷ o ∷ d ∷ []) l c r e h i b p w u = let x = using_is s o d in absurd (cc)
lead_row k ts l c r e h i b p w u = absurd (cc)

lead : (k : Kind) (ts : List Node) → Each Derived ts → Leading (Tree k ts)
lead k ts l b p w c r e h i u =
    derives_tree k ts c ∙ lead_row k ts l c r e (sym (in_head_tree k ts r) ∙ h) (sym (headed_tree k ts c.with_in) ∙ i)
    ((both (starts_in (Node-F.Tree k ts)) (list_all started ts) (sym (started_tree k ts) ∙ b)).1) ((both (plain_in (Node-F.Tree k ts)) (list_all plain ts) (sym (every_tree plain_in k ts) ∙ p)).1)
    ((both (each_meets (demands false (Node-F.Tree k ts)) ts) (list_all (λ t. levelled t (is_opt_chain k)) ts) (sym (levelled_tree k ts false) ∙ w)).1) u

-- the head itself
then_is : (b x y : Bool) → (if b then x else y) ≡ true → b ≡ true → x ≡ true
then_is true x y h e = h
then_is false x y h e = absurd (cc)

using_row : (k : Kind) (ts : List Node) (r : Round) → (declares_in (Node-F.Tree k ts) ≡ true → in_head_in (Node-F.Tree k (map asked ts)) r ≡ true) → using_head_in (Node-F.Tree k ts) ≡ true
using_row kind.UsingDecl (s ∷ o ∷ d ∷ []) r h = sym (ap (λ t. are_named false (items_of t)) (same d)) ∙ (half (half (h refl)).1).0
using_row k ts r h = refl

using_tree : (k : Kind) (ts : List Node) → using_head_in (out-Node (Tree k ts)) ≡ using_head_in (Node-F.Tree k ts)
using_tree k ts = search (rules, the_lemmas)

declares_tree : (k : Kind) (ts : List Node) → declares_in (out-Node (Tree k ts)) ≡ declares_in (Node-F.Tree k ts)
declares_tree k ts = search (rules, the_lemmas)

using_head : (t : Node) (r : Round) → (declares_in (out-Node t) ≡ true → (asked t).in_head r ≡ true) → using_head_in (out-Node t) ≡ true
using_head t r = by_children (λ t. (declares_in (out-Node t) ≡ true → (asked t).in_head r ≡ true) → using_head_in (out-Node t) ≡ true)
    (λ h. search (rules, the_lemmas), λ x h. search (rules, the_lemmas), λ w h. search (rules, the_lemmas), λ x h. search (rules, the_lemmas), λ s h. search (rules, the_lemmas), λ k i h. search (rules, the_lemmas))
    (λ ts l h. search (rules, the_lemmas))
    (λ k ts l h. using_tree k ts ∙ using_row k ts r (λ d. sym (in_head_tree k ts r) ∙ h (declares_tree k ts ∙ d))) t

bare_head : (y : Bool) (t : Node) (c : Context) (r : Round) → declares_in (out-Node t) ≡ y → Good t → Lead t → r.strict ≡ c.strict → (if y then (asked t).in_head r else (pattern t (assigning r) && sound t (assigning r))) ≡ true
    → headed t false ≡ true → is_using t ≡ false → derives t (outside c) ≡ true
bare_head true t c r y g d e h i u = d (outside c) r e h i u
bare_head false t c r y g d e h i u = g (outside c) (assigning r) e (half h).1 i

head_if : (x : Bool) (t : Node) (c : Context) (r : Round) → is_using t ≡ x → Good t → Lead t → r.strict ≡ c.strict → (if declares_in (out-Node t) then (asked t).in_head r else (pattern t (assigning r) && sound t (assigning r))) ≡ true
    → headed t false ≡ true → head (judged t) c ≡ true
head_if true t c r x g d e h i =
    let u : is_using (judged t).whole ≡ true = ap is_using (whole t) ∙ x in
    rw u (ap (λ t. using_head_in (out-Node t)) (whole t) ∙ using_head t r (then_is (declares_in (out-Node t)) ((asked t).in_head r) (pattern t (assigning r) && sound t (assigning r)) h))
head_if false t c r x g d e h i =
    let u : is_using (judged t).whole ≡ false = ap is_using (whole t) ∙ x in
    rw u (bare_head (declares_in (out-Node t)) t c r refl g d e h i x)

head_of : (t : Node) (c : Context) (r : Round) → Good t → Lead t → r.strict ≡ c.strict → sound_head (asked t) r ≡ true → headed t false ≡ true → head (judged t) c ≡ true
head_of t c r g d e h i =
    let m : (if declares_in (out-Node t) then (asked t).in_head r else (pattern t (assigning r) && sound t (assigning r))) ≡ true
    = sym (ap (λ w. if declares_in (out-Node w) then (asked t).in_head r else (pattern w (assigning r) && sound t (assigning r))) (same t)) ∙ h in
    head_if (is_using t) t c r refl g d e m i

-- a loop, whose head is known besides
abbrev HeadRow : Kind → List Node → Node → Type 0
HeadRow k ts t = Lead t → Row k ts

head_row : (k : Kind) (ts : List Node) (t : Node) → is_opt_chain k ≡ false → is_link_in (Node-F.Tree k ts) ≡ false → HeadRow k ts t → Each Derived ts → (list_all started ts ≡ true → list_all plain ts ≡ true → list_all fine ts ≡ true → Lead t) → Derived (Tree k ts)
head_row k ts t n x f l d c r e m i y q = (
  λ v. (
      let b = both (starts_in (Node-F.Tree k ts)) (list_all started ts) (sym (started_tree k ts) ∙ y) in
      let p = both (plain_in (Node-F.Tree k ts)) (list_all plain ts) (sym (every_tree plain_in k ts) ∙ q) in
      let w = fields_of false k ts n v in
      (row k ts n x (f (d b.1 p.1 w.1)) l c r e m i y q).0 v),
  λ v h. absurd (no_link k ts x h),
)

for_in : (s f a b : Node) → HeadRow kind.ForInStmt (s ∷ f ∷ a ∷ b ∷ []) f
for_in s f a b d c r e m i w y q g =
    let n = half m in let p = half n.1 in let x = half p.1 in let j = half i in let v = half j.1 in
    also (ap (λ t. not (is_using t)) (whole f ∙ sym (same f)) ∙ n.0) (also (head_of f c r g.1.0 d e p.0 j.0)
    (also (first_of a c r g.1.1.0 e x.0 v.0) (body_of b c r g.1.1.1.0 e x.1 v.1)))

awaited : (o f : Node) → (holds (headed_judged o).whole || not (is_async_name (headed_judged f).whole)) ≡ true → (holds (judged o).whole || not (is_async_name (judged f).whole)) ≡ true
awaited o f h = rw (whole o, whole f) (sym (ap (λ t. holds t || not (is_async_name f)) (headed_whole o)) ∙ sym (ap (λ t. holds (headed_judged o).whole || not (is_async_name t)) (headed_whole f)) ∙ h)

for_of : (s o f a b : Node) → HeadRow kind.ForOfStmt (s ∷ o ∷ f ∷ a ∷ b ∷ []) f
for_of s o f a b d c r e m i w y q g =
    let p = half m in let x = half p.1 in let j = half i in let u = half j.1 in let v = half u.1 in
    also (awaited o f j.0) (also (head_of f c r g.1.1.0 d e p.0 u.0)
    (also (spot (AtLeast 2) a (inside c) (binding r) g.1.1.1.0 e (heard (a ∷ []) (binding r) x.0).0 v.0 w.1.1.1.0) (body_of b c r g.1.1.1.1.0 e x.1 v.1)))

-- chains, whose base is a link
chain_sound : (s o b : Node) (r : Round) → sound (Tree kind.OptChainExpr (s ∷ o ∷ b ∷ [])) r ≡ true → sound b (binding r) ≡ true
chain_sound s o b r h = (half (sym (sound_tree kind.OptChainExpr (s ∷ o ∷ b ∷ []) r) ∙ h)).1

last_of : (p : Node → Bool) (a b c : Node) → list_all p (a ∷ b ∷ c ∷ []) ≡ true → p c ≡ true
last_of p a b c h = (half (half (half h).1).1).0

chain : (s o b : Node) → Each Derived (s ∷ o ∷ b ∷ []) → Derived (Tree kind.OptChainExpr (s ∷ o ∷ b ∷ []))
chain s o b l c r e m i y q =
    let ts : List Node = s ∷ o ∷ b ∷ [] in
    let p = both (is_link b) (list_all plain ts) (sym (every_tree plain_in kind.OptChainExpr ts) ∙ q) in
    let x = last_of plain s o b p.1 in let z = last_of started s o b (sym (started_tree kind.OptChainExpr ts) ∙ y) in (
      λ v. (
          let w = last_of (λ t. levelled t true) s o b (sym (levelled_tree kind.OptChainExpr ts false) ∙ v) in
          derives_tree kind.OptChainExpr ts c ∙ (l.1.1.0 c (binding r) e (chain_sound s o b r m) (sym (headed_tree kind.OptChainExpr ts c.with_in) ∙ i) z x).1 w p.0),
      λ v h. absurd (no_link kind.OptChainExpr ts refl h),
    )

-- what is not plain
not_plain : (k : Kind) (ts : List Node) → plain_in (Node-F.Tree k ts) ≡ false → Derived (Tree k ts)
not_plain k ts n c r e m i y q = let p = both (plain_in (Node-F.Tree k ts)) (list_all plain ts) (sym (every_tree plain_in k ts) ∙ q) in absurd (cc)

shape : (k : Kind) (ts : List Node) → Each Leading ts → Each Derived ts → Derived (Tree k ts)
shape kind.OptChainExpr (s ∷ o ∷ b ∷ []) d l = chain s o b l
shape kind.OptChainExpr ts d l = not_plain kind.OptChainExpr ts refl
shape kind.MemberExpr (s ∷ o ∷ m ∷ []) d l = link_row kind.MemberExpr (s ∷ o ∷ m ∷ []) refl (member s o m) (λ x. chain_member s o m) l
shape kind.OptCall (s ∷ o ∷ a ∷ []) d l = link_row kind.OptCall (s ∷ o ∷ a ∷ []) refl (opt_call s o a) (λ x. chain_call s o a) l
shape kind.ParenExpr (s ∷ a ∷ []) d l = free_row kind.ParenExpr (s ∷ a ∷ []) refl refl (λ r. refl) (λ b. refl) (λ c y f. f.1.0.0) l
shape kind.SuperPropExpr (s ∷ o ∷ a ∷ []) d l = free_row kind.SuperPropExpr (s ∷ o ∷ a ∷ []) refl refl (λ r. refl) (λ b. refl) (λ c y f. f.1.1.0.2) l
shape kind.ExprOrSpread (s ∷ a ∷ []) d l = free_row kind.ExprOrSpread (s ∷ a ∷ []) refl refl (λ r. refl) (λ b. refl) (λ c y f. f.1.0.0) l
shape kind.SpreadElement (s ∷ a ∷ []) d l = free_row kind.SpreadElement (s ∷ a ∷ []) refl refl (λ r. refl) (λ b. refl) (λ c y f. f.1.0.0) l
shape kind.KeyValueProp (k ∷ a ∷ []) d l = free_row kind.KeyValueProp (k ∷ a ∷ []) refl refl (λ r. refl) (λ b. refl) (λ c y f. also f.0.1 f.1.0.0) l
shape kind.ComputedPropName (s ∷ a ∷ []) d l = free_row kind.ComputedPropName (s ∷ a ∷ []) refl refl (λ r. refl) (λ b. refl) (λ c y f. f.1.0.0) l
shape kind.ClassProp (s ∷ k ∷ a ∷ t ∷ []) d l = free_row kind.ClassProp (s ∷ k ∷ a ∷ t ∷ []) refl refl (λ r. refl) (λ b. refl) (λ c y f. also f.1.0.1 f.1.1.0.0) l
shape kind.ExportDefaultExpr (s ∷ a ∷ []) d l = free_row kind.ExportDefaultExpr (s ∷ a ∷ []) refl refl (λ r. refl) (λ b. refl) (λ c y f. also (ap (λ t. may_begin_export (start t)) (whole a) ∙ y) f.1.0.0) l
shape kind.ReturnStmt (s ∷ a ∷ []) d l = free_row kind.ReturnStmt (s ∷ a ∷ []) refl refl (λ r. refl) (λ b. refl) (λ c y f. f.1.0.0) l
shape kind.ThrowStmt (s ∷ a ∷ []) d l = free_row kind.ThrowStmt (s ∷ a ∷ []) refl refl (λ r. refl) (λ b. refl) (λ c y f. f.1.0.0) l
shape kind.SwitchStmt (s ∷ a ∷ b ∷ []) d l = free_row kind.SwitchStmt (s ∷ a ∷ b ∷ []) refl refl (λ r. refl) (λ b. refl) (λ c y f. also f.1.0.0 f.1.1.0.2) l
shape kind.AwaitExpr (s ∷ a ∷ []) d l = row kind.AwaitExpr (s ∷ a ∷ []) refl refl (await s a) l
shape kind.UnaryExpr (s ∷ o ∷ a ∷ []) d l = row kind.UnaryExpr (s ∷ o ∷ a ∷ []) refl refl (unary s o a) l
shape kind.YieldExpr (s ∷ a ∷ x ∷ []) d l = row kind.YieldExpr (s ∷ a ∷ x ∷ []) refl refl (yield s a x) l
shape kind.CondExpr (s ∷ t ∷ e ∷ a ∷ []) d l = row kind.CondExpr (s ∷ t ∷ e ∷ a ∷ []) refl refl (cond s t e a) l
shape kind.AssignExpr (s ∷ o ∷ f ∷ a ∷ []) d l = row kind.AssignExpr (s ∷ o ∷ f ∷ a ∷ []) refl refl (assign s o f a) l
shape kind.BinExpr (s ∷ o ∷ f ∷ a ∷ []) d l = row kind.BinExpr (s ∷ o ∷ f ∷ a ∷ []) refl refl (bin s o f a) l
shape kind.TaggedTpl (s ∷ o ∷ a ∷ []) d l = row kind.TaggedTpl (s ∷ o ∷ a ∷ []) refl refl (tagged s o a) l
shape kind.CallExpr (s ∷ o ∷ a ∷ []) d l = row kind.CallExpr (s ∷ o ∷ a ∷ []) refl refl (call s o a) l
shape kind.NewExpr (s ∷ o ∷ a ∷ []) d l = row kind.NewExpr (s ∷ o ∷ a ∷ []) refl refl (new s o a) l
shape kind.UpdateExpr (s ∷ o ∷ f ∷ a ∷ []) d l = row kind.UpdateExpr (s ∷ o ∷ f ∷ a ∷ []) refl refl (update s o f a) l
shape kind.SeqExpr (s ∷ es ∷ []) d l = row kind.SeqExpr (s ∷ es ∷ []) refl refl (seq s es) l
shape kind.Tpl (s ∷ es ∷ u ∷ []) d l = row kind.Tpl (s ∷ es ∷ u ∷ []) refl refl (tpl s es u) l
shape kind.PrivateProp (s ∷ k ∷ a ∷ t ∷ []) d l = row kind.PrivateProp (s ∷ k ∷ a ∷ t ∷ []) refl refl (private_prop s k a t) l
shape kind.GetterProp (s ∷ k ∷ b ∷ []) d l = row kind.GetterProp (s ∷ k ∷ b ∷ []) refl refl (getter s k b) l
shape kind.SetterProp (s ∷ k ∷ a ∷ b ∷ []) d l = row kind.SetterProp (s ∷ k ∷ a ∷ b ∷ []) refl refl (setter s k a b) l
shape kind.Function (s ∷ a ∷ b ∷ f ∷ h ∷ []) d l = row kind.Function (s ∷ a ∷ b ∷ f ∷ h ∷ []) refl refl (function s a b f h) l
shape kind.ArrowExpr (s ∷ a ∷ b ∷ f ∷ []) d l = row kind.ArrowExpr (s ∷ a ∷ b ∷ f ∷ []) refl refl (arrow s a b f) l
shape kind.Class (s ∷ a ∷ b ∷ []) d l = row kind.Class (s ∷ a ∷ b ∷ []) refl refl (class s a b) l
shape kind.VarDeclarator (s ∷ n ∷ a ∷ []) d l = row kind.VarDeclarator (s ∷ n ∷ a ∷ []) refl refl (declarator s n a) l
shape kind.AssignPat (s ∷ f ∷ a ∷ []) d l = row kind.AssignPat (s ∷ f ∷ a ∷ []) refl refl (assign_pat s f a) l
shape kind.AssignPatProp (s ∷ k ∷ a ∷ []) d l = row kind.AssignPatProp (s ∷ k ∷ a ∷ []) refl refl (assign_pat_prop s k a) l
shape kind.ArrayPat (s ∷ a ∷ []) d l = row kind.ArrayPat (s ∷ a ∷ []) refl refl (array_pat s a) l
shape kind.ObjectPat (s ∷ a ∷ []) d l = row kind.ObjectPat (s ∷ a ∷ []) refl refl (object_pat s a) l
shape kind.RestPat (s ∷ a ∷ []) d l = row kind.RestPat (s ∷ a ∷ []) refl refl (rest_pat s a) l
shape kind.KeyValuePatProp (k ∷ a ∷ []) d l = row kind.KeyValuePatProp (k ∷ a ∷ []) refl refl (key_value_pat k a) l
shape kind.Constructor (s ∷ k ∷ a ∷ b ∷ []) d l = row kind.Constructor (s ∷ k ∷ a ∷ b ∷ []) refl refl (constructor s k a b) l
shape kind.ClassMethod (s ∷ k ∷ f ∷ t ∷ u ∷ []) d l = row kind.ClassMethod (s ∷ k ∷ f ∷ t ∷ u ∷ []) refl refl (class_method s k f t u) l
shape kind.PrivateMethod (s ∷ k ∷ f ∷ t ∷ u ∷ []) d l = row kind.PrivateMethod (s ∷ k ∷ f ∷ t ∷ u ∷ []) refl refl (private_method s k f t u) l
shape kind.FnDecl (n ∷ f ∷ []) d l = row kind.FnDecl (n ∷ f ∷ []) refl refl (fn_decl n f) l
shape kind.FnExpr (n ∷ f ∷ []) d l = row kind.FnExpr (n ∷ f ∷ []) refl refl (fn_expr n f) l
shape kind.ClassDecl (n ∷ f ∷ []) d l = row kind.ClassDecl (n ∷ f ∷ []) refl refl (class_decl n f) l
shape kind.ClassExpr (n ∷ f ∷ []) d l = row kind.ClassExpr (n ∷ f ∷ []) refl refl (class_expr n f) l
shape kind.VarDecl (s ∷ o ∷ x ∷ []) d l = row kind.VarDecl (s ∷ o ∷ x ∷ []) refl refl (var_decl s o x) l
shape kind.UsingDecl (s ∷ o ∷ x ∷ []) d l = row kind.UsingDecl (s ∷ o ∷ x ∷ []) refl refl (using_decl s o x) l
shape kind.ExprStmt (s ∷ a ∷ []) d l = row kind.ExprStmt (s ∷ a ∷ []) refl refl (statement s a) l
shape kind.ExportDecl (s ∷ x ∷ []) d l = row kind.ExportDecl (s ∷ x ∷ []) refl refl (export_decl s x) l
shape kind.CatchClause (s ∷ a ∷ b ∷ []) d l = row kind.CatchClause (s ∷ a ∷ b ∷ []) refl refl (catch s a b) l
shape kind.WithStmt (s ∷ a ∷ b ∷ []) d l = row kind.WithStmt (s ∷ a ∷ b ∷ []) refl refl (with s a b) l
shape kind.LabeledStmt (s ∷ a ∷ b ∷ []) d l = row kind.LabeledStmt (s ∷ a ∷ b ∷ []) refl refl (labeled s a b) l
shape kind.IfStmt (s ∷ t ∷ f ∷ a ∷ []) d l = row kind.IfStmt (s ∷ t ∷ f ∷ a ∷ []) refl refl (choice s t f a) l
shape kind.SwitchCase (s ∷ t ∷ b ∷ []) d l = row kind.SwitchCase (s ∷ t ∷ b ∷ []) refl refl (case s t b) l
shape kind.WhileStmt (s ∷ t ∷ b ∷ []) d l = row kind.WhileStmt (s ∷ t ∷ b ∷ []) refl refl (while s t b) l
shape kind.DoWhileStmt (s ∷ b ∷ t ∷ []) d l = row kind.DoWhileStmt (s ∷ b ∷ t ∷ []) refl refl (do_while s b t) l
shape kind.ForStmt (s ∷ i ∷ t ∷ u ∷ b ∷ []) d l = row kind.ForStmt (s ∷ i ∷ t ∷ u ∷ b ∷ []) refl refl (loop s i t u b) l
shape kind.ForInStmt (s ∷ f ∷ a ∷ b ∷ []) d l =
    head_row kind.ForInStmt (s ∷ f ∷ a ∷ b ∷ []) f refl refl (for_in s f a b) l (λ x p w. d.1.0 (half (half x).1).0 (half (half p).1).0 (half (half w).1).0)
shape kind.ForOfStmt (s ∷ o ∷ f ∷ a ∷ b ∷ []) d l =
    head_row kind.ForOfStmt (s ∷ o ∷ f ∷ a ∷ b ∷ []) f refl refl (for_of s o f a b) l (λ x p w. d.1.1.0 (half (half (half x).1).1).0 (half (half (half p).1).1).0 (half (half (half w).1).1).0)
shape kind.Module (s ∷ b ∷ h ∷ []) d l = row kind.Module (s ∷ b ∷ h ∷ []) refl refl (module_row s b h) l
shape kind.Script (s ∷ b ∷ h ∷ []) d l = row kind.Script (s ∷ b ∷ h ∷ []) refl refl (script s b h) l
shape kind.ImportNamedSpecifier ts d l = row kind.ImportNamedSpecifier ts refl refl (λ c r e m i w y q g. refl) l
shape kind.ImportDefaultSpecifier ts d l = row kind.ImportDefaultSpecifier ts refl refl (λ c r e m i w y q g. refl) l
shape kind.ImportStarAsSpecifier ts d l = row kind.ImportStarAsSpecifier ts refl refl (λ c r e m i w y q g. refl) l
shape kind.NamedExport ts d l = row kind.NamedExport ts refl refl (λ c r e m i w y q g. refl) l
shape kind.ExportNamedSpecifier ts d l = row kind.ExportNamedSpecifier ts refl refl (λ c r e m i w y q g. refl) l
shape kind.ExportNamespaceSpecifier ts d l = row kind.ExportNamespaceSpecifier ts refl refl (λ c r e m i w y q g. refl) l
shape kind.TsInterfaceDecl ts d l = row kind.TsInterfaceDecl ts refl refl (λ c r e m i w y q g. absurd (cc)) l
shape kind.TsTypeAliasDecl ts d l = row kind.TsTypeAliasDecl ts refl refl (λ c r e m i w y q g. absurd (cc)) l
shape kind.TsEnumDecl ts d l = row kind.TsEnumDecl ts refl refl (λ c r e m i w y q g. absurd (cc)) l
shape kind.TsModuleDecl ts d l = row kind.TsModuleDecl ts refl refl (λ c r e m i w y q g. absurd (cc)) l
shape k ts d l = plain_row k ts refl refl (λ r. refl) (λ b. refl) (λ c. refl) l

leaf : (t : Node) → ((c : Context) → derives t c ≡ true) → is_link t ≡ false → Both t
leaf t d x = (λ c r e m i y q. (λ v. d c, λ v h. absurd (cc)), λ y p w c r e h i u. d c)

each : (ts : List Node) (c : Context) (r : Round) → Each Good ts → r.strict ≡ c.strict → all_sound (map asked ts) r ≡ true → list_all (λ e. e.holds c.with_in) (map headed_judged ts) ≡ true → list_all (λ e. e.derives c) (map judged ts) ≡ true
each [] c r g e a b = refl
each (t ∷ ts) c r g e a b = let p = half a in let q = half b in also (g.0 c r e (half p.0).1 q.0) (each ts c r g.1 e p.1 q.1)

list : (ts : List Node) → Each Both ts → Both (Many ts)
list ts l = (
  λ c r e m i y q. (
    λ v. derives_list ts c ∙ each ts c r (good ts (firsts ts l) (sym (started_list ts) ∙ y) ((both (plain_in (Node-F.List ts)) (list_all plain ts) (sym (every_list plain_in ts) ∙ q)).1) (sym (levelled_list ts false) ∙ v))
        e (sym (sound_list ts r) ∙ m) (sym (headed_list ts c.with_in) ∙ i),
    λ v h. (let x : is_link (Many ts) ≡ false = search (rules, the_lemmas) in absurd (cc)),
  ),
  λ y p w c r e h i u. (let z = head_list ts r in absurd (cc)),
)

both_fit : (t : Node) → Both t
both_fit t = by_children Both
    (leaf Absent (λ c. search (rules, the_lemmas)) (search (rules, the_lemmas)), λ x. leaf (Flag x) (λ c. search (rules, the_lemmas)) (search (rules, the_lemmas)), λ w. leaf (Word w) (λ c. search (rules, the_lemmas)) (search (rules, the_lemmas)), λ x. leaf (Text x) (λ c. search (rules, the_lemmas)) (search (rules, the_lemmas)), λ s. leaf (Span s) (λ c. search (rules, the_lemmas)) (search (rules, the_lemmas)), λ k i. leaf (Identifier k i) (λ c. search (rules, the_lemmas)) (search (rules, the_lemmas)))
    list (λ k ts l. (shape k ts (seconds ts l) (firsts ts l), lead k ts (firsts ts l))) t

pub fits : (t : Node) → Derived t
fits t = (both_fit t).0

-- of programs
pub tests_add_up : (t : Node) → plain t ≡ true → Writable t → levelled t false ≡ true → headed t true ≡ true → started t ≡ true → FitsGrammar t
tests_add_up t p w l h s = (fits t (record { with_in = true; strict = false }) (record { strict = false; assigned = false }) refl w h s p).0 l
