-- What stands where it is asked has its parts stand where they are asked: statements, and every node.
use Rattle.std.proofs.Common.{◌≡◌, Bool, true, false, not, ◌&&◌, ◌||◌, ◌⊎◌, inl, inr, List, [], ◌∷◌, map, refl, sym, ap, ◌∙◌, rules}
use Rattle.std.specs.Prelude.{Option, Some, None, if◌then◌else◌}
use Rattle.swc_tree_node.specs.declared.kind.Kind.{Kind}
use Rattle.swc_tree_node.specs.declared.kind.Kind.TheVariants as kind
use Rattle.swc_tree_node.specs.declared.kind.Word.{Word as Word'}
use Rattle.swc_tree_node.specs.declared.kind.Word.TheVariants as word
use Rattle.swc_tree_node.specs.declared.node.Node.{Node, List as Many, Tree, out-Node, the_lemmas}
use Rattle.swc_tree_node.specs.declared.node.Node.TheOpen.{Node-F}
use Rattle.swc_tree_scoping.specs.Places.{has_use_strict}
use Rattle.swc_tree_grammar.specs.Shapes.{items_of}
use Rattle.swc_tree_grammar.specs.Kinds.{has_kind, is_private_name}
use Rattle.swc_tree_grammar.specs.Levels.{word_of, is_absent}
use Rattle.swc_tree_grammar.specs.Blocks.{takes_else}
use Rattle.swc_tree_grammar.specs.Demands.Demand.{AtLeast}
use Rattle.swc_tree_grammar.specs.Starts.{start}
use Rattle.swc_tree_grammar.specs.Forms.{holds, is_using, is_using_form, form_in, form_of_word, form_of_function, is_named_in, is_name_in}
use Rattle.swc_tree_scoping.specs.Places.{is_plain_function}
use Rattle.swc_tree_grammar.specs.Grammar.{derives, derives_in, in_chain_in, head, branch, using_head_in, is_async_name, may_begin_statement, may_begin_export, Context, Judged}
use Rattle.swc_tree_grammar.proofs.Induction.{by_children}
use Rattle.swc_tree_grammar_laws.proofs.Levelled.{half}
use Rattle.swc_base_fixer_laws.proofs.Up.{kind_of_tree}
use Rattle.swc_tree_grammar_laws.proofs.Derived.{judged, chained, whole, fields, derives_tree, chained_tree}
use Rattle.swc_base_fixer_needs.specs.Sites.{Mode, Site, clue, spots, head_site, is_base, derives_as, Stands, Stand, AllStand}
use Rattle.swc_base_fixer_needs.specs.Sites.Mode.{Plain, Base, BeforeIn, Head, Declarators, OneDeclarator, Name, Nothing}
use Rattle.swc_base_fixer_needs.specs.Reasons.{takes_tree}
use Rattle.swc_base_fixer_needs.proofs.Standing.{context, code, fit, bare_fit, Row}

pub var_decl : (s o d : Node) → Row kind.VarDecl (s ∷ o ∷ d ∷ [])
var_decl s o d a g r h = (tt, (tt, (code d a.with_in r h, tt)))

pub statement : (s e : Node) → Row kind.ExprStmt (s ∷ e ∷ [])
statement s e a g r h =
    let p = half h in let x = bare_fit e true r p.1 in let o = sym (ap (λ t. may_begin_statement (start t)) (whole e)) ∙ p.0 in
    (tt, (record { is_met = refl; leads_no_call = λ y. absurd (cc); no_async = λ y. absurd (cc); opens = rw o refl; strict = x.strict; derived = x.derived }, tt))

pub export_default : (s e : Node) → Row kind.ExportDefaultExpr (s ∷ e ∷ [])
export_default s e a g r h =
    let p = half h in let x = fit (AtLeast 2) e true r p.1 in let o = sym (ap (λ t. may_begin_export (start t)) (whole e)) ∙ p.0 in
    (tt, (record { is_met = x.is_met; leads_no_call = λ y. absurd (cc); no_async = λ y. absurd (cc); opens = rw o refl; strict = x.strict; derived = x.derived }, tt))

pub export_decl : (s d : Node) → Row kind.ExportDecl (s ∷ d ∷ [])
export_decl s d a g r h = (tt, (code d true r h, tt))

pub catch : (s x b : Node) → Row kind.CatchClause (s ∷ x ∷ b ∷ [])
catch s x b a g r h = let p = half h in (tt, (code x true r p.0, (code b true r p.1, tt)))

pub return_row : (s e : Node) → Row kind.ReturnStmt (s ∷ e ∷ [])
return_row s e a g r h = (tt, (bare_fit e true r h, tt))

pub throw : (s e : Node) → Row kind.ThrowStmt (s ∷ e ∷ [])
throw s e a g r h = (tt, (bare_fit e true r h, tt))

pub with : (s e b : Node) → Row kind.WithStmt (s ∷ e ∷ b ∷ [])
with s e b a g r h = let p = half h in (tt, (bare_fit e true r p.0, (code b true r (half p.1).1, tt)))

pub labeled : (s l b : Node) → Row kind.LabeledStmt (s ∷ l ∷ b ∷ [])
labeled s l b a g r h = (tt, (tt, (code b true r (half h).1, tt)))

absent_derives : (t : Node) (b s : Bool) → is_absent t ≡ true → derives t (context b s) ≡ true
absent_derives t b s = by_children (λ t. is_absent t ≡ true → derives t (context b s) ≡ true)
    (λ h. search (rules, the_lemmas), λ x h. search (rules, the_lemmas), λ w h. search (rules, the_lemmas), λ x h. search (rules, the_lemmas), λ s h. search (rules, the_lemmas), λ k i h. search (rules, the_lemmas))
    (λ ts l h. (let e : is_absent (Many ts) ≡ false = search (rules, the_lemmas) in absurd (cc)))
    (λ k ts l h. (let e : is_absent (Tree k ts) ≡ false = search (rules, the_lemmas) in absurd (cc))) t

alt_if : (x y : Bool) (t : Node) (w r : Bool) → is_absent t ≡ x → (x || (y && branch (judged t) (context w r))) ≡ true → derives t (context true r) ≡ true
alt_if true y t w r e h = absent_derives t true r e
alt_if false y t w r e h = (half (half h).1).1

pub choice : (s t x y : Node) → Row kind.IfStmt (s ∷ t ∷ x ∷ y ∷ [])
choice s t x y a g r h =
    let p = half h in let q = half p.1 in
    let k = sym (ap (λ z. is_absent z || (not (takes_else (judged x).whole) && branch (judged y) (context a.with_in r))) (whole y)) ∙ q.1 in
    (tt, (bare_fit t true r p.0, (code x true r (half q.0).1, (code y true r (alt_if (is_absent y) (not (takes_else (judged x).whole)) y a.with_in r refl k), tt))))

pub switch : (s e b : Node) → Row kind.SwitchStmt (s ∷ e ∷ b ∷ [])
switch s e b a g r h = let p = half h in (tt, (bare_fit e true r p.0, (code b true r p.1, tt)))

pub case : (s e b : Node) → Row kind.SwitchCase (s ∷ e ∷ b ∷ [])
case s e b a g r h = let p = half h in (tt, (bare_fit e true r p.0, (code b true r (half p.1).1, tt)))

pub while : (s e b : Node) → Row kind.WhileStmt (s ∷ e ∷ b ∷ [])
while s e b a g r h = let p = half h in (tt, (bare_fit e true r p.0, (code b true r (half p.1).1, tt)))

pub do_while : (s b e : Node) → Row kind.DoWhileStmt (s ∷ b ∷ e ∷ [])
do_while s b e a g r h = let p = half h in (tt, (code b true r (half p.1).1, (bare_fit e true r p.0, tt)))

pub loop : (s i t u b : Node) → Row kind.ForStmt (s ∷ i ∷ t ∷ u ∷ b ∷ [])
loop s i t u b a g r h =
    let p = half h in let q = half p.1 in let w = half q.1 in
    (tt, (bare_fit i false r p.0, (bare_fit t true r q.0, (bare_fit u true r w.0, (code b true r (half w.1).1, tt)))))

in_head : (f : Node) (w r b : Bool) → head (judged f) (context w r) ≡ true → (b ≡ true → is_async_name f ≡ false) → Stand (head_site b) f
in_head f w r b h n = record {
  is_met = refl;
  leads_no_call = λ y. absurd (cc);
  no_async = n;
  opens = refl;
  strict = r;
  derived = sym (ap (λ t. if is_using t then using_head_in (out-Node t) else derives f (context false r)) (whole f)) ∙ h;
}

pub for_in : (s f e b : Node) → Row kind.ForInStmt (s ∷ f ∷ e ∷ b ∷ [])
for_in s f e b a g r h =
    let p = half (half h).1 in let q = half p.1 in
    (tt, (in_head f a.with_in r false p.0 (λ y. absurd (cc)), (bare_fit e true r q.0, (code b true r (half q.1).1, tt))))

synchronous : (x y : Bool) → (x || not y) ≡ true → not x ≡ true → y ≡ false
synchronous true y h n = absurd (cc)
synchronous false true h n = absurd (cc)
synchronous false false h n = refl

pub for_of : (s o f e b : Node) → Row kind.ForOfStmt (s ∷ o ∷ f ∷ e ∷ b ∷ [])
for_of s o f e b a g r h =
    let p = half h in let q = half p.1 in let w = half q.1 in
    let x = sym (ap (λ t. holds o || not (is_async_name t)) (whole f)) ∙ sym (ap (λ t. holds t || not (is_async_name (judged f).whole)) (whole o)) ∙ p.0 in
    (tt, (tt, (in_head f a.with_in r (not (holds o)) q.0 (synchronous (holds o) (is_async_name f) x), (fit (AtLeast 2) e true r w.0, (code b true r (half w.1).1, tt)))))

pub module_row : (s b h : Node) → Row kind.Module (s ∷ b ∷ h ∷ [])
module_row s b x a g r h = (tt, (code b true (r || true) h, (tt, tt)))

pub script : (s b h : Node) → Row kind.Script (s ∷ b ∷ h ∷ [])
script s b x a g r h = (tt, (code b true (r || has_use_strict (items_of (judged b).whole)) (half h).1, (tt, tt)))

-- as what a tree stands
abbrev pub is_odd : Kind → Bool
is_odd kind.UsingDecl = true
is_odd kind.VarDeclarator = true
is_odd kind.PrivateName = true
is_odd _ = false

abbrev is_chained : Kind → Bool
is_chained kind.MemberExpr = true
is_chained kind.OptCall = true
is_chained _ = false

no_private : (k : Kind) → is_odd k ≡ false → is_private_name k ≡ false
no_private kind.PrivateName h = absurd (cc)
no_private k h = refl

no_using_word : (w : Option Word') → is_using_form (form_of_word w) ≡ false
no_using_word (Some word.Var) = refl
no_using_word (Some w) = refl
no_using_word None = refl

no_using_function : (b : Bool) → is_using_form (form_of_function b) ≡ false
no_using_function true = refl
no_using_function false = refl

no_using_form : (k : Kind) (ts : List Node) → is_odd k ≡ false → is_using_form (form_in (Node-F.Tree k ts)) ≡ false
no_using_form kind.UsingDecl ts h = absurd (cc)
no_using_form kind.VarDecl (s ∷ o ∷ d ∷ []) h = no_using_word (word_of o)
no_using_form kind.FnDecl (n ∷ f ∷ []) h = no_using_function (is_plain_function (Some f))
no_using_form k ts h = refl

no_using : (k : Kind) (ts : List Node) → is_odd k ≡ false → is_using (Tree k ts) ≡ false
no_using k ts h = let e : is_using (Tree k ts) ≡ is_using_form (form_in (Node-F.Tree k ts)) = search (rules, the_lemmas) in e ∙ no_using_form k ts h

no_declarator : (k : Kind) (ts : List Node) → is_odd k ≡ false → is_named_in false (Node-F.Tree k ts) ≡ false
no_declarator kind.VarDeclarator ts h = absurd (cc)
no_declarator k ts h = refl

abbrev pub Forms : Mode → Kind → List Node → Context → Type 0
Forms m k ts c = ((is_base m ≡ false) × (derives (Tree k ts) c ≡ true)) ⊎ ((is_base m ≡ true) × (chained (Tree k ts) c ≡ true))

pub or_second : (x y : Bool) → x ≡ false → (x || y) ≡ true → y ≡ true
or_second true y e h = absurd (cc)
or_second false y e h = h

pub otherwise : (x y z : Bool) → x ≡ false → (if x then y else z) ≡ true → z ≡ true
otherwise true y z e h = absurd (cc)
otherwise false y z e h = h

pub forms : (m : Mode) (k : Kind) (ts : List Node) (c : Context) → is_odd k ≡ false → takes_tree m ≡ true → derives_as m (Tree k ts) (judged (Tree k ts)) c ≡ true → Forms m k ts c
forms Plain k ts c n t h = inl (refl, h)
forms Base k ts c n t h = inr (refl, h)
forms BeforeIn k ts c n t h = inl (refl, or_second (has_kind is_private_name (Tree k ts)) (derives (Tree k ts) c) (kind_of_tree is_private_name k ts ∙ no_private k n) h)
forms Head k ts c n t h = inl (refl, otherwise (is_using (Tree k ts)) (using_head_in (out-Node (Tree k ts))) (derives (Tree k ts) c) (no_using k ts n) h)
forms Declarators k ts c n t h = absurd (cc)
forms OneDeclarator k ts c n t h = (let e : is_named_in false (out-Node (Tree k ts)) ≡ is_named_in false (Node-F.Tree k ts) = search (rules, the_lemmas) in let d = no_declarator k ts n in absurd (cc))
forms Name k ts c n t h = (let e : is_name_in (out-Node (Tree k ts)) ≡ false = search (rules, the_lemmas) in absurd (cc))
forms Nothing k ts c n t h = (let e : is_absent (Tree k ts) ≡ false = search (rules, the_lemmas) in absurd (cc))

no_chain : (k : Kind) (es : List Judged) (c : Context) → is_chained k ≡ false → in_chain_in (Node-F.Tree k es) c ≡ false
no_chain kind.MemberExpr es c h = absurd (cc)
no_chain kind.OptCall es c h = absurd (cc)
no_chain k es c h = refl

abbrev pub Parts : Kind → List Node → Type 0
Parts k ts = (a : Site) → takes_tree a.mode ≡ true → Stands a (Tree k ts) → AllStand (spots a (Node-F.Tree k (map clue ts))) ts

pub by_form : (k : Kind) (ts : List Node) (m : Mode) (c : Context) → is_chained k ≡ false → Forms m k ts c → derives_in (Node-F.Tree k (fields false k ts)) c ≡ true
by_form k ts m c n (inl f) = sym (derives_tree k ts c) ∙ f.1
by_form k ts m c n (inr f) = let e = chained_tree k ts c in let d = no_chain k (fields true k ts) c n in absurd (cc)

pub by_row : (k : Kind) (ts : List Node) → is_odd k ≡ false → is_chained k ≡ false → Row k ts → Parts k ts
by_row k ts n x f a t g = f a g g.strict (by_form k ts a.mode (context a.with_in g.strict) x (forms a.mode k ts (context a.with_in g.strict) n t g.derived))
