-- What the rules say of a node's fields is what the grammar says of them, a kind a line.
use Rattle.std.proofs.Common.{◌≡◌, ℕ, zero, suc, Bool, true, false, not, ◌&&◌, ◌||◌, List, [], ◌∷◌, map, Option, Some, refl, sym, ap, ◌∙◌}
use Rattle.std.specs.Prelude.{if◌then◌else◌}
use Rattle.std.specs.List.{list_all}
use Rattle.swc_tree_node.specs.declared.kind.Kind.{Kind}
use Rattle.swc_tree_node.specs.declared.kind.Kind.TheVariants as kind
use Rattle.swc_tree_node.specs.declared.kind.Word.{Word}
use Rattle.swc_tree_node.specs.declared.kind.Word.TheVariants as word
use Rattle.swc_tree_node.specs.declared.node.Node.{Node, out-Node}
use Rattle.swc_tree_node.specs.declared.node.Node.TheOpen.{Node-F}
use Rattle.swc_tree_grammar.specs.Blocks.{takes_else}
use Rattle.swc_tree_grammar.specs.Demands.{demands, left_side, right_side, meets as is_met}
use Rattle.swc_tree_grammar.specs.Demands.Demand.{Any, AtLeast, Key}
use Rattle.swc_tree_grammar.specs.Forms.{form, holds, is_body, is_branch, is_strict, is_using}
use Rattle.swc_tree_grammar.specs.Grammar.{Judged, derives, derives_in, each_asked, in_chain_in, is_async_name, part, using_head_in}
use Rattle.swc_tree_grammar.specs.Kinds.{has_kind, is_private_name}
use Rattle.swc_tree_grammar.specs.Levels.{is_absent, is_in, word_of}
use Rattle.swc_tree_grammar_laws.proofs.Derived.{chained}
use Rattle.text_derives.specs.declared.context.Context.{Context}
use Rattle.text_derives.specs.declared.ask.Ask.{Ask}
use Rattle.text_derives.specs.declared.ask.Ask.TheVariants as ask
use Rattle.text_derives.specs.declared.ask.Row.TheVariants as row
use Rattle.text_derives.specs.declared.demand.Demand.{Demand}
use Rattle.text_derives.specs.declared.demand.Demand.TheVariants as demand
use Rattle.text_derives.specs.declared.rule.Rule.{Rule}
use Rattle.text_derives.specs.Asks.{Derives, ask_at, meets}
use Rattle.text_derives.specs.Contexts.{context_of, inside, outside, strictly}
use Rattle.text_derives.specs.Demanded.{demanded, left_demand, right_demand}
use Rattle.text_derives.specs.Rules.{any, chain_rule, no_using, plain, rule, rule_for}

-- what the grammar says of a node
abbrev pub want : Node → Derives
want t in_chain c = if in_chain then chained t (context_of c) else derives t (context_of c)

abbrev pub all_want : (ℕ → Ask) → List Node → Bool
all_want asks [] = true
all_want asks (t ∷ ts) = meets (asks zero) t (want t) && all_want (λ i. asks (suc i)) ts

-- what a rule says of the fields
abbrev pub says : Rule → List Node → Bool
says u ts = u.holds && all_want (ask_at u.row) ts

-- a node that is given, with what the grammar says of it, of which its place asks nothing
abbrev pub given : Node → Judged
given t = record { whole = t; demand = Any; derives = derives t; in_chain = chained t }

abbrev pub fields : Bool → Kind → List Node → List Judged
fields b k ts = each_asked (demands b (Node-F.Tree k ts)) (map given ts)

-- ---- tests one after another

end : (a : Bool) → (a && true) ≡ a
end true = refl
end false = refl

two : (a b : Bool) → (a && (b && true)) ≡ (a && b)
two a b = ap (λ x. a && x) (end b)

three : (a b c : Bool) → (a && (b && (c && true))) ≡ (a && (b && c))
three a b c = ap (λ x. a && x) (two b c)

four : (a b c d : Bool) → (a && (b && (c && (d && true)))) ≡ (a && (b && (c && d)))
four a b c d = ap (λ x. a && x) (three b c d)

turned : (a b : Bool) → (a && (b && true)) ≡ (b && a)
turned true true = refl
turned true false = refl
turned false true = refl
turned false false = refl

behind : (n t d : Bool) → (n && (t && (d && true))) ≡ (t && (n && d))
behind true t d = two t d
behind false true d = refl
behind false false d = refl

choice : (n t b e : Bool) → (n && (t && (b && (e && true)))) ≡ (t && (b && (n && e)))
choice true t b e = three t b e
choice false true true e = refl
choice false true false e = refl
choice false false b e = refl

-- ---- each child, and none looked at

parts_met : (asks : ℕ → Ask) (c : Context) → ((i : ℕ) → asks i ≡ plain c) → (ts : List Node) → all_want asks ts ≡ list_all (part (context_of c)) (map given ts)
parts_met asks c h [] = refl
parts_met asks c h (t ∷ ts) =
    ap (λ a. meets a t (want t) && all_want (λ i. asks (suc i)) ts) (h zero) ∙ ap (λ b. derives t (context_of (inside c)) && b) (parts_met (λ i. asks (suc i)) c (λ i. h (suc i)) ts)

nothing_met : (asks : ℕ → Ask) → ((i : ℕ) → asks i ≡ ask.Nothing) → (ts : List Node) → all_want asks ts ≡ true
nothing_met asks h [] = refl
nothing_met asks h (t ∷ ts) = ap (λ a. meets a t (want t) && all_want (λ i. asks (suc i)) ts) (h zero) ∙ nothing_met (λ i. asks (suc i)) (λ i. h (suc i)) ts

-- ---- the two sides of an operator

left_is : (o : Option Word) → demanded (left_demand o) ≡ left_side o
left_is (Some word.LogicalOr) = refl
left_is (Some word.NullishCoalescing) = refl
left_is (Some word.Exp) = refl
left_is o = refl

right_is : (o : Option Word) → demanded (right_demand o) ≡ right_side o
right_is (Some word.LogicalOr) = refl
right_is (Some word.LogicalAnd) = refl
right_is (Some word.NullishCoalescing) = refl
right_is (Some word.Exp) = refl
right_is o = refl

-- an expression in a context
abbrev named : Node → Context → Bool
named t c = not (has_kind is_private_name t) && derives t (context_of c)

sides : (o : Option Word) (c : Context) (l r : Node)
    → ((c.with_in || not (is_in o)) && (((is_in o && has_kind is_private_name l) || (is_met (demanded (left_demand o)) l && named l c)) && ((is_met (demanded (right_demand o)) r && named r c) && true)))
    ≡ ((c.with_in || not (is_in o)) && (((is_in o && has_kind is_private_name l) || (is_met (left_side o) l && named l c)) && (is_met (right_side o) r && named r c)))
sides o c l r =
    three (c.with_in || not (is_in o)) ((is_in o && has_kind is_private_name l) || (is_met (demanded (left_demand o)) l && named l c)) (is_met (demanded (right_demand o)) r && named r c)
    ∙ ap (λ d. (c.with_in || not (is_in o)) && (((is_in o && has_kind is_private_name l) || (is_met d l && named l c)) && (is_met (demanded (right_demand o)) r && named r c))) (left_is o)
    ∙ ap (λ d. (c.with_in || not (is_in o)) && (((is_in o && has_kind is_private_name l) || (is_met (left_side o) l && named l c)) && (is_met d r && named r c))) (right_is o)

-- ---- the branches of an `if`

abbrev branch : Node → Context → Bool
branch t c = is_branch c.strict (form t) && derives t (context_of (inside c))

branches : (z n : Bool) (c : Context) (a t b e : Node)
    → says (if z then rule true (row.Two 1 (any c) 2 (ask.Branch (inside c))) else rule n (row.Three 1 (any c) 2 (ask.Branch (inside c)) 3 (ask.Branch (inside c)))) (a ∷ t ∷ b ∷ e ∷ [])
    ≡ (named t (inside c) && (branch b c && (z || (n && branch e c))))
branches true n c a t b e = refl
branches false n c a t b e = choice n (named t (inside c)) (branch b c) (branch e c)

-- ---- loops

abbrev body : Node → Context → Bool
body t c = is_body (form t) && derives t (context_of (inside c))

abbrev head : Node → Context → Bool
head t c = if is_using t then using_head_in (out-Node t) else derives t (context_of (outside c))

-- ---- the rules of each kind

pub rows : (c : Context) (k : Kind) (ts : List Node) → says (rule_for c (Node-F.Tree k ts)) ts ≡ derives_in (Node-F.Tree k (fields false k ts)) (context_of c)
rows c kind.ParenExpr (x ∷ y ∷ []) = end _
rows c kind.SeqExpr (x ∷ y ∷ []) = end _
rows c kind.AssignExpr (x ∷ y ∷ z ∷ v ∷ []) = two _ _
rows c kind.CondExpr (x ∷ y ∷ z ∷ v ∷ []) = three (is_met (AtLeast 4) y && named y c) (is_met (AtLeast 2) z && named z (inside c)) (is_met (AtLeast 2) v && named v c)
rows c kind.BinExpr (x ∷ y ∷ z ∷ v ∷ []) = sides (word_of y) c z v
rows c kind.UnaryExpr (x ∷ y ∷ z ∷ []) = end _
rows c kind.AwaitExpr (x ∷ y ∷ []) = end _
rows c kind.UpdateExpr (x ∷ y ∷ z ∷ v ∷ []) = end _
rows c kind.YieldExpr (x ∷ y ∷ z ∷ []) = end _
rows c kind.MemberExpr (x ∷ y ∷ z ∷ []) = two _ _
rows c kind.SuperPropExpr (x ∷ y ∷ z ∷ []) = end _
rows c kind.TaggedTpl (x ∷ y ∷ z ∷ []) = two _ _
rows c kind.Tpl (x ∷ y ∷ z ∷ []) = end _
rows c kind.CallExpr (x ∷ y ∷ z ∷ []) = two _ _
rows c kind.NewExpr (x ∷ y ∷ z ∷ []) = two _ _
rows c kind.OptChainExpr (x ∷ y ∷ z ∷ []) = end _
rows c kind.OptCall (x ∷ y ∷ z ∷ []) = two _ _
rows c kind.ExprOrSpread (x ∷ y ∷ []) = end _
rows c kind.SpreadElement (x ∷ y ∷ []) = end _
rows c kind.KeyValueProp (x ∷ y ∷ []) = two _ _
rows c kind.MethodProp (x ∷ y ∷ []) = refl
rows c kind.ComputedPropName (x ∷ y ∷ []) = end _
rows c kind.ClassProp (x ∷ y ∷ z ∷ v ∷ []) = two _ _
rows c kind.PrivateProp (x ∷ y ∷ z ∷ v ∷ []) = end _
rows c kind.GetterProp (x ∷ y ∷ z ∷ []) = two _ _
rows c kind.SetterProp (x ∷ y ∷ z ∷ v ∷ []) = three (is_met Key y && derives y (context_of (inside c))) (derives z (context_of (strictly (is_strict v) c))) (derives v (context_of (strictly (is_strict v) c)))
rows c kind.ArrowExpr (x ∷ y ∷ z ∷ v ∷ []) = two _ _
rows c kind.Function (x ∷ y ∷ z ∷ v ∷ u ∷ []) = two _ _
rows c kind.Class (x ∷ y ∷ z ∷ []) = two _ _
rows c kind.Constructor (x ∷ y ∷ z ∷ v ∷ []) = two _ _
rows c kind.ClassMethod (x ∷ y ∷ z ∷ v ∷ u ∷ []) = two _ _
rows c kind.PrivateMethod (x ∷ y ∷ z ∷ v ∷ u ∷ []) = end _
rows c kind.VarDeclarator (x ∷ y ∷ z ∷ []) = two _ _
rows c kind.AssignPat (x ∷ y ∷ z ∷ []) = two _ _
rows c kind.AssignPatProp (x ∷ y ∷ z ∷ []) = end _
rows c kind.ArrayPat (x ∷ y ∷ []) = end _
rows c kind.ObjectPat (x ∷ y ∷ []) = end _
rows c kind.RestPat (x ∷ y ∷ []) = end _
rows c kind.KeyValuePatProp (x ∷ y ∷ []) = refl
rows c kind.CatchClause (x ∷ y ∷ z ∷ []) = two _ _
rows c kind.ExportDecl (x ∷ y ∷ []) = end _
rows c kind.VarDecl (x ∷ y ∷ z ∷ []) = end _
rows c kind.UsingDecl (x ∷ y ∷ z ∷ []) = two _ _
rows c kind.ExprStmt (x ∷ y ∷ []) = two _ _
rows c kind.ExportDefaultExpr (x ∷ y ∷ []) = two _ _
rows c kind.ReturnStmt (x ∷ y ∷ []) = end _
rows c kind.ThrowStmt (x ∷ y ∷ []) = end _
rows c kind.WithStmt (x ∷ y ∷ z ∷ []) = two _ _
rows c kind.LabeledStmt (x ∷ y ∷ z ∷ []) = end _
rows c kind.IfStmt (x ∷ y ∷ z ∷ v ∷ []) = branches (is_absent v) (not (takes_else z)) c x y z v
rows c kind.SwitchStmt (x ∷ y ∷ z ∷ []) = two _ _
rows c kind.SwitchCase (x ∷ y ∷ z ∷ []) = behind (no_using z) (named y (inside c)) (derives z (context_of (inside c)))
rows c kind.WhileStmt (x ∷ y ∷ z ∷ []) = two _ _
rows c kind.DoWhileStmt (x ∷ y ∷ z ∷ []) = turned (is_body (form y) && derives y (context_of (inside c))) (named z (inside c))
rows c kind.ForStmt (x ∷ y ∷ z ∷ v ∷ u ∷ []) = four (named y (outside c)) (named z (inside c)) (named v (inside c)) (body u c)
rows c kind.ForInStmt (x ∷ y ∷ z ∷ v ∷ []) = four (not (is_using y)) (head y c) (named z (inside c)) (body v c)
rows c kind.ForOfStmt (x ∷ y ∷ z ∷ v ∷ u ∷ []) = four (holds y || not (is_async_name z)) (head z c) (is_met (AtLeast 2) v && named v (inside c)) (body u c)
rows c kind.Module (x ∷ y ∷ z ∷ []) = end _
rows c kind.Script (x ∷ y ∷ z ∷ []) = two _ _
rows c kind.ImportNamedSpecifier ts = nothing_met (ask_at row.Nothing) (λ i. refl) ts
rows c kind.ImportDefaultSpecifier ts = nothing_met (ask_at row.Nothing) (λ i. refl) ts
rows c kind.ImportStarAsSpecifier ts = nothing_met (ask_at row.Nothing) (λ i. refl) ts
rows c kind.NamedExport ts = nothing_met (ask_at row.Nothing) (λ i. refl) ts
rows c kind.ExportNamedSpecifier ts = nothing_met (ask_at row.Nothing) (λ i. refl) ts
rows c kind.ExportNamespaceSpecifier ts = nothing_met (ask_at row.Nothing) (λ i. refl) ts
rows c k ts = parts_met (ask_at (row.Each (plain c))) c (λ i. refl) ts

pub chains : (c : Context) (k : Kind) (ts : List Node) → says (chain_rule c (Node-F.Tree k ts)) ts ≡ in_chain_in (Node-F.Tree k (fields true k ts)) (context_of c)
chains c kind.MemberExpr (x ∷ y ∷ z ∷ []) = two _ _
chains c kind.OptCall (x ∷ y ∷ z ∷ []) = two _ _
chains c k ts = refl
