-- What stands where it is asked has its parts stand where they are asked: each kind of node.
use Rattle.std.proofs.Common.{◌≡◌, Bool, true, false, ◌&&◌, inl, inr, List, [], ◌∷◌, map, refl, sym, ap, ◌∙◌, rules}
use Rattle.std.specs.List.{list_all}
use Rattle.swc_tree_node.specs.declared.kind.Kind.{Kind}
use Rattle.swc_tree_node.specs.declared.kind.Kind.TheVariants as kind
use Rattle.swc_tree_node.specs.declared.node.Node.{Node, List as Many, Tree, out-Node, the_lemmas}
use Rattle.swc_tree_node.specs.declared.node.Node.TheOpen.{Node-F}
use Rattle.swc_tree_grammar.specs.Shapes.{items_of}
use Rattle.swc_tree_grammar.specs.Kinds.{has_kind, is_private_name}
use Rattle.swc_tree_grammar.specs.Levels.{is_absent}
use Rattle.swc_tree_grammar.specs.Demands.{Demand, meets, at_least, object}
use Rattle.swc_tree_grammar.specs.Demands.Demand.{Any, AtLeast, Each as EachOf, Link}
use Rattle.swc_tree_grammar.specs.Starts.{start}
use Rattle.swc_tree_grammar.specs.Forms.{is_using, is_named_in, is_name_in, are_named}
use Rattle.swc_tree_grammar.specs.Grammar.{derives, derives_in, in_chain_in, part, using_head_in, Context, inside, fits as fits_in}
use Rattle.swc_tree_grammar_laws.proofs.Levelled.{both, half}
use Rattle.swc_tree_grammar_laws.proofs.Begins.{start_list}
use Rattle.swc_tree_grammar_laws.proofs.Derived.{judged, chained, fields, derives_tree, chained_tree, derives_list}
use Rattle.swc_base_fixer_laws.proofs.Up.{kind_of_tree}
use Rattle.swc_base_fixer_needs.specs.Sites.{Mode, Opening, Site, clue, spots, any, hidden, item_site, other_items, item_demand, item_mode, declarator, using_spots, is_base, derives_as, may_open, Stands, AllStand}
use Rattle.swc_base_fixer_needs.specs.Sites.Mode.{Plain, Base, BeforeIn, Head, Declarators, OneDeclarator, Name, Nothing}
use Rattle.swc_base_fixer_needs.specs.Sites.Opening.{Anything}
use Rattle.swc_base_fixer_needs.specs.Reasons.{takes_tree}
use Rattle.swc_base_fixer_needs.proofs.Standing.{context, code, fit, opened, all_parts}
use Rattle.swc_base_fixer_needs.proofs.StandingRows as row
use Rattle.swc_base_fixer_needs.proofs.StandingNodes as node
use Rattle.swc_base_fixer_needs.proofs.StandingNodes.{Parts, Forms, forms, by_row, is_odd, or_second, otherwise}

-- members and calls, which may be the base of an optional chain
as_member : (s o m : Node) (d : Mode) (c : Context) → Forms d kind.MemberExpr (s ∷ o ∷ m ∷ []) c → (fits_in (record (judged o) { demand = object (is_base d) }) c && derives m (inside c)) ≡ true
as_member s o m d c (inl f) = rw f.0 (sym (derives_tree kind.MemberExpr (s ∷ o ∷ m ∷ []) c) ∙ f.1)
as_member s o m d c (inr f) = rw f.0 (sym (chained_tree kind.MemberExpr (s ∷ o ∷ m ∷ []) c) ∙ f.1)

member : (s o m : Node) → Parts kind.MemberExpr (s ∷ o ∷ m ∷ [])
member s o m a t g = row.member s o m a g g.strict (as_member s o m a.mode (context a.with_in g.strict) (forms a.mode kind.MemberExpr (s ∷ o ∷ m ∷ []) (context a.with_in g.strict) refl t g.derived))

as_call : (s o m : Node) (d : Mode) (c : Context) → Forms d kind.OptCall (s ∷ o ∷ m ∷ []) c → (fits_in (record (judged o) { demand = Link }) c && derives m (inside c)) ≡ true
as_call s o m d c (inl f) = sym (derives_tree kind.OptCall (s ∷ o ∷ m ∷ []) c) ∙ f.1
as_call s o m d c (inr f) = sym (chained_tree kind.OptCall (s ∷ o ∷ m ∷ []) c) ∙ f.1

opt_call : (s o m : Node) → Parts kind.OptCall (s ∷ o ∷ m ∷ [])
opt_call s o m a t g = row.opt_call s o m a g g.strict (as_call s o m a.mode (context a.with_in g.strict) (forms a.mode kind.OptCall (s ∷ o ∷ m ∷ []) (context a.with_in g.strict) refl t g.derived))

-- shapes of which nothing is said: each part is derived where `in` may stand
loose_form : (k : Kind) (ts : List Node) (m : Mode) (c : Context) → ((b : Bool) → in_chain_in (Node-F.Tree k (fields b k ts)) c ≡ false) → Forms m k ts c → derives_in (Node-F.Tree k (fields false k ts)) c ≡ true
loose_form k ts m c n (inl f) = sym (derives_tree k ts c) ∙ f.1
loose_form k ts m c n (inr f) = let e = chained_tree k ts c in let d = n true in absurd (cc)

loose : (k : Kind) (ts : List Node) → is_odd k ≡ false → ((b : Bool) (c : Context) → in_chain_in (Node-F.Tree k (fields b k ts)) c ≡ false) → ((c : Context) → derives_in (Node-F.Tree k (fields false k ts)) c ≡ list_all (part c) (map judged ts))
    → ((a : Site) → spots a (Node-F.Tree k (map clue ts)) ≡ map (λ c. any) (map clue ts)) → Parts k ts
loose k ts n x d e a t g =
    let c = context a.with_in g.strict in
    rw (e a) (all_parts ts a.with_in g.strict (sym (d c) ∙ loose_form k ts a.mode c (λ b. x b c) (forms a.mode k ts c n t g.derived)))

-- declarators
as_using : (s o d : Node) (m : Mode) (w r : Bool) → takes_tree m ≡ true → derives_as m (Tree kind.UsingDecl (s ∷ o ∷ d ∷ [])) (judged (Tree kind.UsingDecl (s ∷ o ∷ d ∷ []))) (context w r) ≡ true → AllStand (using_spots m) (s ∷ o ∷ d ∷ [])
as_using s o d Plain w r t h = (tt, (tt, (code d true r (half (sym (derives_tree kind.UsingDecl (s ∷ o ∷ d ∷ []) (context w r)) ∙ h)).1, tt)))
as_using s o d Base w r t h = (let e = chained_tree kind.UsingDecl (s ∷ o ∷ d ∷ []) (context w r) in absurd (cc))
as_using s o d BeforeIn w r t h =
    let ts : List Node = s ∷ o ∷ d ∷ [] in let e = or_second (has_kind is_private_name (Tree kind.UsingDecl ts)) (derives (Tree kind.UsingDecl ts) (context w r)) (kind_of_tree is_private_name kind.UsingDecl ts) h in
    (tt, (tt, (code d true r (half (sym (derives_tree kind.UsingDecl ts (context w r)) ∙ e)).1, tt)))
as_using s o d Head w r t h =
    let e : derives_as Head (Tree kind.UsingDecl (s ∷ o ∷ d ∷ [])) (judged (Tree kind.UsingDecl (s ∷ o ∷ d ∷ []))) (context w r) ≡ are_named false (items_of d) = search (rules, the_lemmas) in
    (tt, (tt, (record { is_met = refl; leads_no_call = λ y. absurd (cc); no_async = λ y. absurd (cc); opens = refl; strict = r; derived = sym e ∙ h }, tt)))
as_using s o d Declarators w r t h = absurd (cc)
as_using s o d OneDeclarator w r t h = (let e : is_named_in false (out-Node (Tree kind.UsingDecl (s ∷ o ∷ d ∷ []))) ≡ false = search (rules, the_lemmas) in absurd (cc))
as_using s o d Name w r t h = (let e : is_name_in (out-Node (Tree kind.UsingDecl (s ∷ o ∷ d ∷ []))) ≡ false = search (rules, the_lemmas) in absurd (cc))
as_using s o d Nothing w r t h = (let e : is_absent (Tree kind.UsingDecl (s ∷ o ∷ d ∷ [])) ≡ false = search (rules, the_lemmas) in absurd (cc))

using : (s o d : Node) → Parts kind.UsingDecl (s ∷ o ∷ d ∷ [])
using s o d a t g = as_using s o d a.mode a.with_in g.strict t g.derived

plain_declarator : (s n e : Node) (w r : Bool) → derives (Tree kind.VarDeclarator (s ∷ n ∷ e ∷ [])) (context w r) ≡ true → AllStand (declarator Plain w) (s ∷ n ∷ e ∷ [])
plain_declarator s n e w r h = let p = half (sym (derives_tree kind.VarDeclarator (s ∷ n ∷ e ∷ []) (context w r)) ∙ h) in (tt, (code n w r p.0, (fit (AtLeast 2) e w r p.1, tt)))

as_declarator : (s n e : Node) (m : Mode) (w r : Bool) → takes_tree m ≡ true → derives_as m (Tree kind.VarDeclarator (s ∷ n ∷ e ∷ [])) (judged (Tree kind.VarDeclarator (s ∷ n ∷ e ∷ []))) (context w r) ≡ true → AllStand (declarator m w) (s ∷ n ∷ e ∷ [])
as_declarator s n e Plain w r t h = plain_declarator s n e w r h
as_declarator s n e Base w r t h = (let x = chained_tree kind.VarDeclarator (s ∷ n ∷ e ∷ []) (context w r) in absurd (cc))
as_declarator s n e BeforeIn w r t h =
    let ts : List Node = s ∷ n ∷ e ∷ [] in plain_declarator s n e w r (or_second (has_kind is_private_name (Tree kind.VarDeclarator ts)) (derives (Tree kind.VarDeclarator ts) (context w r)) (kind_of_tree is_private_name kind.VarDeclarator ts) h)
as_declarator s n e Head w r t h =
    let ts : List Node = s ∷ n ∷ e ∷ [] in plain_declarator s n e w r (otherwise (is_using (Tree kind.VarDeclarator ts)) (using_head_in (out-Node (Tree kind.VarDeclarator ts))) (derives (Tree kind.VarDeclarator ts) (context w r)) (search (rules, the_lemmas)) h)
as_declarator s n e Declarators w r t h = absurd (cc)
as_declarator s n e OneDeclarator w r t h =
    let x : is_named_in false (out-Node (Tree kind.VarDeclarator (s ∷ n ∷ e ∷ []))) ≡ (is_name_in (out-Node n) && is_absent e) = search (rules, the_lemmas) in
    let p = both (is_name_in (out-Node n)) (is_absent e) (sym x ∙ h) in (
      tt,
      (
        record { is_met = refl; leads_no_call = λ y. absurd (cc); no_async = λ y. absurd (cc); opens = refl; strict = r; derived = p.0 },
        (record { is_met = rw p.1 refl; leads_no_call = λ y. absurd (cc); no_async = λ y. absurd (cc); opens = refl; strict = r; derived = p.1 }, tt),
      ),
    )
as_declarator s n e Name w r t h = (let x : is_name_in (out-Node (Tree kind.VarDeclarator (s ∷ n ∷ e ∷ []))) ≡ false = search (rules, the_lemmas) in absurd (cc))
as_declarator s n e Nothing w r t h = (let x : is_absent (Tree kind.VarDeclarator (s ∷ n ∷ e ∷ [])) ≡ false = search (rules, the_lemmas) in absurd (cc))

one_declarator : (s n e : Node) → Parts kind.VarDeclarator (s ∷ n ∷ e ∷ [])
one_declarator s n e a t g = as_declarator s n e a.mode a.with_in g.strict t g.derived

all_hidden : (ts : List Node) → AllStand (hidden (map clue ts)) ts
all_hidden [] = tt
all_hidden (t ∷ ts) = (tt, all_hidden ts)

-- lists
all_any : (ts : List Node) → list_all (meets Any) ts ≡ true
all_any [] = refl
all_any (t ∷ ts) = all_any ts

all_met : (d : Demand) (ts : List Node) → meets d (Many ts) ≡ true → list_all (meets (item_demand d)) ts ≡ true
all_met (EachOf n) ts h = (let e : items_of (Many ts) ≡ ts = search (rules, the_lemmas) in sym (ap (list_all (at_least n)) e) ∙ h)
all_met d ts h = all_any ts

mapped : (ts : List Node) (c : Context) → list_all (λ e. e.derives c) (map judged ts) ≡ list_all (λ t. derives t c) ts
mapped [] c = refl
mapped (t ∷ ts) c = ap (λ b. derives t c && b) (mapped ts c)

each_derived : (ts : List Node) (c : Context) → derives (Many ts) c ≡ true → list_all (λ t. derives t c) ts ≡ true
each_derived ts c h = sym (mapped ts c) ∙ sym (derives_list ts c) ∙ h

all_derived : (m : Mode) (ts : List Node) (c : Context) → derives_as m (Many ts) (judged (Many ts)) c ≡ true → list_all (λ t. derives_as (item_mode m) t (judged t) c) ts ≡ true
all_derived Plain ts c h = each_derived ts c h
all_derived Base ts c h = (let e : chained (Many ts) c ≡ false = search (rules, the_lemmas) in absurd (cc))
all_derived BeforeIn ts c h = each_derived ts c (or_second (has_kind is_private_name (Many ts)) (derives (Many ts) c) (search (rules, the_lemmas)) h)
all_derived Head ts c h = each_derived ts c (otherwise (is_using (Many ts)) (using_head_in (out-Node (Many ts))) (derives (Many ts) c) (search (rules, the_lemmas)) h)
all_derived Declarators ts c h = (let e : items_of (Many ts) ≡ ts = search (rules, the_lemmas) in sym (ap (are_named false) e) ∙ h)
all_derived OneDeclarator ts c h = (let e : is_named_in false (out-Node (Many ts)) ≡ false = search (rules, the_lemmas) in absurd (cc))
all_derived Name ts c h = (let e : is_name_in (out-Node (Many ts)) ≡ false = search (rules, the_lemmas) in absurd (cc))
all_derived Nothing ts c h = (let e : is_absent (Many ts) ≡ false = search (rules, the_lemmas) in absurd (cc))

item : (a : Site) (t : Node) (s : Bool) (o : Opening) → may_open o (start t) ≡ true → meets (item_demand a.demand) t ≡ true → derives_as (item_mode a.mode) t (judged t) (context a.with_in s) ≡ true → Stands (record (item_site a) { opening = o }) t
item a t s o x m d = record { is_met = m; leads_no_call = λ y. absurd (cc); no_async = λ y. absurd (cc); opens = rw x refl; strict = s; derived = d }

others : (a : Site) (ts : List Node) (s : Bool) → list_all (meets (item_demand a.demand)) ts ≡ true → list_all (λ t. derives_as (item_mode a.mode) t (judged t) (context a.with_in s)) ts ≡ true → AllStand (other_items a (map clue ts)) ts
others a [] s m d = tt
others a (t ∷ ts) s m d =
    let p = both (meets (item_demand a.demand) t) (list_all (meets (item_demand a.demand)) ts) m in
    let q = both (derives_as (item_mode a.mode) t (judged t) (context a.with_in s)) (list_all (λ t. derives_as (item_mode a.mode) t (judged t) (context a.with_in s)) ts) d in
    (item a t s Anything refl p.0 q.0, others a ts s p.1 q.1)

pub parts_of_list : (ts : List Node) (a : Site) → Stands a (Many ts) → AllStand (spots a (Node-F.List (map clue ts))) ts
parts_of_list [] a g = tt
parts_of_list (t ∷ ts) a g =
    let p = both (meets (item_demand a.demand) t) (list_all (meets (item_demand a.demand)) ts) (all_met a.demand (t ∷ ts) g.is_met) in
    let q = both (derives_as (item_mode a.mode) t (judged t) (context a.with_in g.strict)) (list_all (λ t. derives_as (item_mode a.mode) t (judged t) (context a.with_in g.strict)) ts) (all_derived a.mode (t ∷ ts) (context a.with_in g.strict) g.derived) in
    let o = sym (ap (may_open a.opening) (start_list t ts)) ∙ opened a (Many (t ∷ ts)) (search (rules, the_lemmas)) g in
    (item a t g.strict a.opening o p.0 q.0, others a ts g.strict p.1 q.1)

-- each shape
pub parts_of : (k : Kind) (ts : List Node) → Parts k ts
parts_of kind.ParenExpr (s ∷ e ∷ []) = by_row kind.ParenExpr (s ∷ e ∷ []) refl refl (row.paren s e)
parts_of kind.SeqExpr (s ∷ e ∷ []) = by_row kind.SeqExpr (s ∷ e ∷ []) refl refl (row.seq s e)
parts_of kind.AssignExpr (s ∷ o ∷ f ∷ x ∷ []) = by_row kind.AssignExpr (s ∷ o ∷ f ∷ x ∷ []) refl refl (row.assign s o f x)
parts_of kind.CondExpr (s ∷ t ∷ x ∷ y ∷ []) = by_row kind.CondExpr (s ∷ t ∷ x ∷ y ∷ []) refl refl (row.cond s t x y)
parts_of kind.BinExpr (s ∷ o ∷ f ∷ x ∷ []) = by_row kind.BinExpr (s ∷ o ∷ f ∷ x ∷ []) refl refl (row.bin s o f x)
parts_of kind.UnaryExpr (s ∷ o ∷ x ∷ []) = by_row kind.UnaryExpr (s ∷ o ∷ x ∷ []) refl refl (row.unary s o x)
parts_of kind.AwaitExpr (s ∷ x ∷ []) = by_row kind.AwaitExpr (s ∷ x ∷ []) refl refl (row.await s x)
parts_of kind.UpdateExpr (s ∷ o ∷ f ∷ x ∷ []) = by_row kind.UpdateExpr (s ∷ o ∷ f ∷ x ∷ []) refl refl (row.update s o f x)
parts_of kind.YieldExpr (s ∷ x ∷ d ∷ []) = by_row kind.YieldExpr (s ∷ x ∷ d ∷ []) refl refl (row.yield s x d)
parts_of kind.SuperPropExpr (s ∷ o ∷ m ∷ []) = by_row kind.SuperPropExpr (s ∷ o ∷ m ∷ []) refl refl (row.super_prop s o m)
parts_of kind.TaggedTpl (s ∷ o ∷ m ∷ []) = by_row kind.TaggedTpl (s ∷ o ∷ m ∷ []) refl refl (row.tagged s o m)
parts_of kind.Tpl (s ∷ e ∷ q ∷ []) = by_row kind.Tpl (s ∷ e ∷ q ∷ []) refl refl (row.tpl s e q)
parts_of kind.CallExpr (s ∷ o ∷ m ∷ []) = by_row kind.CallExpr (s ∷ o ∷ m ∷ []) refl refl (row.call s o m)
parts_of kind.NewExpr (s ∷ o ∷ m ∷ []) = by_row kind.NewExpr (s ∷ o ∷ m ∷ []) refl refl (row.new s o m)
parts_of kind.OptChainExpr (s ∷ o ∷ b ∷ []) = by_row kind.OptChainExpr (s ∷ o ∷ b ∷ []) refl refl (row.chain s o b)
parts_of kind.ExprOrSpread (s ∷ e ∷ []) = by_row kind.ExprOrSpread (s ∷ e ∷ []) refl refl (row.argument s e)
parts_of kind.SpreadElement (s ∷ e ∷ []) = by_row kind.SpreadElement (s ∷ e ∷ []) refl refl (row.spread s e)
parts_of kind.KeyValueProp (p ∷ e ∷ []) = by_row kind.KeyValueProp (p ∷ e ∷ []) refl refl (row.key_value p e)
parts_of kind.MethodProp (p ∷ e ∷ []) = by_row kind.MethodProp (p ∷ e ∷ []) refl refl (row.method p e)
parts_of kind.KeyValuePatProp (p ∷ e ∷ []) = by_row kind.KeyValuePatProp (p ∷ e ∷ []) refl refl (row.key_value_pat p e)
parts_of kind.ComputedPropName (s ∷ e ∷ []) = by_row kind.ComputedPropName (s ∷ e ∷ []) refl refl (row.computed s e)
parts_of kind.ClassProp (s ∷ p ∷ e ∷ f ∷ []) = by_row kind.ClassProp (s ∷ p ∷ e ∷ f ∷ []) refl refl (row.class_prop s p e f)
parts_of kind.PrivateProp (s ∷ p ∷ e ∷ f ∷ []) = by_row kind.PrivateProp (s ∷ p ∷ e ∷ f ∷ []) refl refl (row.private_prop s p e f)
parts_of kind.ClassMethod (s ∷ p ∷ f ∷ w ∷ x ∷ []) = by_row kind.ClassMethod (s ∷ p ∷ f ∷ w ∷ x ∷ []) refl refl (row.class_method s p f w x)
parts_of kind.PrivateMethod (s ∷ p ∷ f ∷ w ∷ x ∷ []) = by_row kind.PrivateMethod (s ∷ p ∷ f ∷ w ∷ x ∷ []) refl refl (row.private_method s p f w x)
parts_of kind.Constructor (s ∷ p ∷ x ∷ b ∷ []) = by_row kind.Constructor (s ∷ p ∷ x ∷ b ∷ []) refl refl (row.constructor s p x b)
parts_of kind.GetterProp (s ∷ p ∷ b ∷ []) = by_row kind.GetterProp (s ∷ p ∷ b ∷ []) refl refl (row.getter s p b)
parts_of kind.SetterProp (s ∷ p ∷ x ∷ b ∷ []) = by_row kind.SetterProp (s ∷ p ∷ x ∷ b ∷ []) refl refl (row.setter s p x b)
parts_of kind.ArrowExpr (s ∷ x ∷ b ∷ f ∷ []) = by_row kind.ArrowExpr (s ∷ x ∷ b ∷ f ∷ []) refl refl (row.arrow s x b f)
parts_of kind.Function (s ∷ x ∷ b ∷ f ∷ w ∷ []) = by_row kind.Function (s ∷ x ∷ b ∷ f ∷ w ∷ []) refl refl (row.function s x b f w)
parts_of kind.Class (s ∷ e ∷ b ∷ []) = by_row kind.Class (s ∷ e ∷ b ∷ []) refl refl (row.class s e b)
parts_of kind.AssignPat (s ∷ f ∷ e ∷ []) = by_row kind.AssignPat (s ∷ f ∷ e ∷ []) refl refl (row.assign_pat s f e)
parts_of kind.AssignPatProp (s ∷ f ∷ e ∷ []) = by_row kind.AssignPatProp (s ∷ f ∷ e ∷ []) refl refl (row.assign_pat_prop s f e)
parts_of kind.ArrayPat (s ∷ e ∷ []) = by_row kind.ArrayPat (s ∷ e ∷ []) refl refl (row.array_pat s e)
parts_of kind.ObjectPat (s ∷ e ∷ []) = by_row kind.ObjectPat (s ∷ e ∷ []) refl refl (row.object_pat s e)
parts_of kind.RestPat (s ∷ e ∷ []) = by_row kind.RestPat (s ∷ e ∷ []) refl refl (row.rest_pat s e)
parts_of kind.CatchClause (s ∷ x ∷ b ∷ []) = by_row kind.CatchClause (s ∷ x ∷ b ∷ []) refl refl (node.catch s x b)
parts_of kind.VarDecl (s ∷ o ∷ d ∷ []) = by_row kind.VarDecl (s ∷ o ∷ d ∷ []) refl refl (node.var_decl s o d)
parts_of kind.ExprStmt (s ∷ e ∷ []) = by_row kind.ExprStmt (s ∷ e ∷ []) refl refl (node.statement s e)
parts_of kind.ExportDecl (s ∷ d ∷ []) = by_row kind.ExportDecl (s ∷ d ∷ []) refl refl (node.export_decl s d)
parts_of kind.ExportDefaultExpr (s ∷ e ∷ []) = by_row kind.ExportDefaultExpr (s ∷ e ∷ []) refl refl (node.export_default s e)
parts_of kind.ReturnStmt (s ∷ e ∷ []) = by_row kind.ReturnStmt (s ∷ e ∷ []) refl refl (node.return_row s e)
parts_of kind.ThrowStmt (s ∷ e ∷ []) = by_row kind.ThrowStmt (s ∷ e ∷ []) refl refl (node.throw s e)
parts_of kind.WithStmt (s ∷ e ∷ b ∷ []) = by_row kind.WithStmt (s ∷ e ∷ b ∷ []) refl refl (node.with s e b)
parts_of kind.LabeledStmt (s ∷ l ∷ b ∷ []) = by_row kind.LabeledStmt (s ∷ l ∷ b ∷ []) refl refl (node.labeled s l b)
parts_of kind.IfStmt (s ∷ t ∷ x ∷ y ∷ []) = by_row kind.IfStmt (s ∷ t ∷ x ∷ y ∷ []) refl refl (node.choice s t x y)
parts_of kind.SwitchStmt (s ∷ e ∷ b ∷ []) = by_row kind.SwitchStmt (s ∷ e ∷ b ∷ []) refl refl (node.switch s e b)
parts_of kind.SwitchCase (s ∷ e ∷ b ∷ []) = by_row kind.SwitchCase (s ∷ e ∷ b ∷ []) refl refl (node.case s e b)
parts_of kind.WhileStmt (s ∷ e ∷ b ∷ []) = by_row kind.WhileStmt (s ∷ e ∷ b ∷ []) refl refl (node.while s e b)
parts_of kind.DoWhileStmt (s ∷ b ∷ e ∷ []) = by_row kind.DoWhileStmt (s ∷ b ∷ e ∷ []) refl refl (node.do_while s b e)
parts_of kind.ForStmt (s ∷ i ∷ t ∷ u ∷ b ∷ []) = by_row kind.ForStmt (s ∷ i ∷ t ∷ u ∷ b ∷ []) refl refl (node.loop s i t u b)
parts_of kind.ForInStmt (s ∷ f ∷ e ∷ b ∷ []) = by_row kind.ForInStmt (s ∷ f ∷ e ∷ b ∷ []) refl refl (node.for_in s f e b)
parts_of kind.ForOfStmt (s ∷ o ∷ f ∷ e ∷ b ∷ []) = by_row kind.ForOfStmt (s ∷ o ∷ f ∷ e ∷ b ∷ []) refl refl (node.for_of s o f e b)
parts_of kind.Module (s ∷ b ∷ h ∷ []) = by_row kind.Module (s ∷ b ∷ h ∷ []) refl refl (node.module_row s b h)
parts_of kind.Script (s ∷ b ∷ h ∷ []) = by_row kind.Script (s ∷ b ∷ h ∷ []) refl refl (node.script s b h)
parts_of kind.MemberExpr (s ∷ o ∷ m ∷ []) = member s o m
parts_of kind.OptCall (s ∷ o ∷ m ∷ []) = opt_call s o m
parts_of kind.UsingDecl (s ∷ o ∷ d ∷ []) = using s o d
parts_of kind.VarDeclarator (s ∷ n ∷ e ∷ []) = one_declarator s n e
parts_of kind.UsingDecl ts = λ a t g. all_hidden ts
parts_of kind.VarDeclarator ts = λ a t g. all_hidden ts
parts_of kind.PrivateName ts = λ a t g. all_hidden ts
parts_of kind.ImportNamedSpecifier ts = λ a t g. all_hidden ts
parts_of kind.ImportDefaultSpecifier ts = λ a t g. all_hidden ts
parts_of kind.ImportStarAsSpecifier ts = λ a t g. all_hidden ts
parts_of kind.NamedExport ts = λ a t g. all_hidden ts
parts_of kind.ExportNamedSpecifier ts = λ a t g. all_hidden ts
parts_of kind.ExportNamespaceSpecifier ts = λ a t g. all_hidden ts
parts_of k ts = loose k ts refl (λ b c. refl) (λ c. refl) (λ a. refl)
