-- Each pair of the first step has a reason: the fields of each kind.
use Rattle.std.proofs.Common.{◌≡◌, Bool, true, false, ◌&&◌, List, [], ◌∷◌, map, refl, sym, ap, ◌∙◌}
use Rattle.swc_tree_node.specs.declared.kind.Kind.{Kind}
use Rattle.swc_tree_node.specs.declared.kind.Kind.TheVariants as kind
use Rattle.swc_tree_node.specs.declared.node.Node.{Node}
use Rattle.swc_tree_node.specs.declared.node.Node.TheOpen.{Node-F}
use Rattle.swc_tree_grammar.specs.Levels.{word_of, is_in}
use Rattle.swc_tree_grammar.specs.Forms.{holds}
use Rattle.swc_tree_grammar.specs.Demands.{Demand, demands, left_side, right_side, object}
use Rattle.swc_tree_grammar.specs.Demands.Demand.{Any, AtLeast}
use Rattle.swc_tree_grammar.specs.Readers.{none as unnamed, named_in, is_odd_callee, is_odd_object, is_odd_left, assigns_to}
use Rattle.swc_tree_grammar.specs.Kinds.{has_kind, is_function, is_literal, is_yield, is_arrow, is_await, is_destructuring}
use Rattle.swc_base_fixer_laws.proofs.SetsNames.{names}
use Rattle.swc_base_fixer_needs.specs.Sites.{Mode, Site, Spot, Clue, clue, any, asks, spots, is_base, hidden, left_mode, first_unless, declarator, using_spots}
use Rattle.swc_base_fixer_needs.specs.Sites.Mode.{Plain, Base, BeforeIn, Head, Declarators, OneDeclarator, Name, Nothing}
use Rattle.swc_base_fixer_needs.specs.Sites.Spot.{Hidden, At}
use Rattle.swc_base_fixer_needs.specs.Reasons.{blank}
use Rattle.swc_base_fixer_needs.proofs.Levels.{Matches, matches, paired_blank}

-- a place asks what the first step sees to
abbrev pub Ok : Demand → Spot → Type 0
Ok d Hidden = Unit {0}
Ok d (At a) = (is_base a.mode ≡ false) × Matches d a.demand

abbrev pub AllOk : List Demand → List Spot → List Node → Type 0
AllOk (d ∷ ds) (s ∷ ss) (t ∷ ts) = Ok d s × AllOk ds ss ts
AllOk [] (s ∷ ss) (t ∷ ts) = Ok Any s × AllOk [] ss ts
AllOk ds [] [] = Unit {0}
AllOk _ _ _ = ⊥

left_plain : (x : Bool) → is_base (left_mode x) ≡ false
left_plain true = refl
left_plain false = refl

update_ok : (x : Bool) (a : Site) → Ok (AtLeast 17) (At (first_unless x a (asks (AtLeast 17) a.with_in)))
update_ok true a = (refl, refl)
update_ok false a = (refl, refl)

declarator_ok : (m : Mode) (b : Bool) (s n e : Node) → AllOk (Any ∷ Any ∷ AtLeast 2 ∷ []) (declarator m b) (s ∷ n ∷ e ∷ [])
declarator_ok Plain b s n e = (tt, ((refl, tt), ((refl, refl), tt)))
declarator_ok Base b s n e = (tt, ((refl, tt), ((refl, refl), tt)))
declarator_ok BeforeIn b s n e = (tt, ((refl, tt), ((refl, refl), tt)))
declarator_ok Head b s n e = (tt, ((refl, tt), ((refl, refl), tt)))
declarator_ok Declarators b s n e = (tt, ((refl, tt), ((refl, refl), tt)))
declarator_ok OneDeclarator b s n e = (tt, ((refl, tt), ((refl, refl), tt)))
declarator_ok Name b s n e = (tt, ((refl, tt), ((refl, refl), tt)))
declarator_ok Nothing b s n e = (tt, ((refl, tt), ((refl, refl), tt)))

using_ok : (m : Mode) (s o d : Node) → AllOk [] (using_spots m) (s ∷ o ∷ d ∷ [])
using_ok Plain s o d = (tt, (tt, ((refl, tt), tt)))
using_ok Base s o d = (tt, (tt, ((refl, tt), tt)))
using_ok BeforeIn s o d = (tt, (tt, ((refl, tt), tt)))
using_ok Head s o d = (tt, (tt, ((refl, tt), tt)))
using_ok Declarators s o d = (tt, (tt, ((refl, tt), tt)))
using_ok OneDeclarator s o d = (tt, (tt, ((refl, tt), tt)))
using_ok Name s o d = (tt, (tt, ((refl, tt), tt)))
using_ok Nothing s o d = (tt, (tt, ((refl, tt), tt)))

hidden_ok : (ts : List Node) → AllOk [] (hidden (map clue ts)) ts
hidden_ok [] = tt
hidden_ok (t ∷ ts) = (tt, hidden_ok ts)

any_ok : (ts : List Node) → AllOk [] (map (λ c. any) (map clue ts)) ts
any_ok [] = tt
any_ok (t ∷ ts) = ((refl, tt), any_ok ts)

-- an optional chain, whose base is told so
abbrev pub is_chain_shape : Node-F Node → Bool
is_chain_shape (Node-F.Tree kind.OptChainExpr (s ∷ o ∷ b ∷ [])) = true
is_chain_shape _ = false

pub all_ok : (k : Kind) (ts : List Node) (a : Site) → is_chain_shape (Node-F.Tree k ts) ≡ false → AllOk (demands (is_base a.mode) (Node-F.Tree k ts)) (spots a (Node-F.Tree k (map clue ts))) ts
all_ok kind.ParenExpr (s ∷ e ∷ []) a h = (tt, ((refl, tt), tt))
all_ok kind.SeqExpr (s ∷ e ∷ []) a h = (tt, ((refl, refl), tt))
all_ok kind.AssignExpr (s ∷ o ∷ f ∷ x ∷ []) a h = (tt, (tt, ((refl, tt), ((refl, refl), tt))))
all_ok kind.CondExpr (s ∷ t ∷ x ∷ y ∷ []) a h = (tt, ((refl, refl), ((refl, refl), ((refl, refl), tt))))
all_ok kind.BinExpr (s ∷ o ∷ f ∷ x ∷ []) a h = (tt, (tt, ((left_plain (is_in (word_of o)), matches (left_side (word_of o))), ((refl, matches (right_side (word_of o))), tt))))
all_ok kind.UnaryExpr (s ∷ o ∷ x ∷ []) a h = (tt, (tt, ((refl, refl), tt)))
all_ok kind.AwaitExpr (s ∷ x ∷ []) a h = (tt, ((refl, refl), tt))
all_ok kind.UpdateExpr (s ∷ o ∷ f ∷ x ∷ []) a h = (tt, (tt, (tt, (update_ok (holds f) a, tt))))
all_ok kind.YieldExpr (s ∷ x ∷ d ∷ []) a h = (tt, ((refl, refl), (tt, tt)))
all_ok kind.MemberExpr (s ∷ o ∷ m ∷ []) a h = (tt, ((refl, matches (object (is_base a.mode))), ((refl, tt), tt)))
all_ok kind.SuperPropExpr (s ∷ o ∷ m ∷ []) a h = (tt, (tt, ((refl, tt), tt)))
all_ok kind.TaggedTpl (s ∷ o ∷ m ∷ []) a h = (tt, ((refl, refl), ((refl, tt), tt)))
all_ok kind.Tpl (s ∷ e ∷ q ∷ []) a h = (tt, ((refl, tt), (tt, tt)))
all_ok kind.CallExpr (s ∷ o ∷ m ∷ []) a h = (tt, ((refl, refl), ((refl, tt), tt)))
all_ok kind.NewExpr (s ∷ o ∷ m ∷ []) a h = (tt, ((refl, refl), ((refl, tt), tt)))
all_ok kind.OptCall (s ∷ o ∷ m ∷ []) a h = (tt, ((refl, refl), ((refl, tt), tt)))
all_ok kind.ExprOrSpread (s ∷ e ∷ []) a h = (tt, ((refl, refl), tt))
all_ok kind.SpreadElement (s ∷ e ∷ []) a h = (tt, ((refl, refl), tt))
all_ok kind.KeyValueProp (p ∷ e ∷ []) a h = ((refl, refl), ((refl, refl), tt))
all_ok kind.MethodProp (p ∷ e ∷ []) a h = ((refl, refl), ((refl, tt), tt))
all_ok kind.KeyValuePatProp (p ∷ e ∷ []) a h = ((refl, refl), ((refl, tt), tt))
all_ok kind.ComputedPropName (s ∷ e ∷ []) a h = (tt, ((refl, tt), tt))
all_ok kind.ClassProp (s ∷ p ∷ e ∷ f ∷ []) a h = (tt, ((refl, refl), ((refl, refl), (tt, tt))))
all_ok kind.PrivateProp (s ∷ p ∷ e ∷ f ∷ []) a h = (tt, (tt, ((refl, refl), (tt, tt))))
all_ok kind.ClassMethod (s ∷ p ∷ f ∷ w ∷ x ∷ []) a h = (tt, ((refl, refl), ((refl, tt), (tt, (tt, tt)))))
all_ok kind.PrivateMethod (s ∷ p ∷ f ∷ w ∷ x ∷ []) a h = (tt, (tt, ((refl, tt), (tt, (tt, tt)))))
all_ok kind.Constructor (s ∷ p ∷ x ∷ b ∷ []) a h = (tt, (tt, ((refl, tt), ((refl, tt), tt))))
all_ok kind.GetterProp (s ∷ p ∷ b ∷ []) a h = (tt, ((refl, refl), ((refl, tt), tt)))
all_ok kind.SetterProp (s ∷ p ∷ x ∷ b ∷ []) a h = (tt, ((refl, refl), ((refl, tt), ((refl, tt), tt))))
all_ok kind.ArrowExpr (s ∷ x ∷ b ∷ f ∷ []) a h = (tt, ((refl, tt), ((refl, refl), (tt, tt))))
all_ok kind.Function (s ∷ x ∷ b ∷ f ∷ w ∷ []) a h = (tt, ((refl, tt), ((refl, tt), (tt, (tt, tt)))))
all_ok kind.Class (s ∷ e ∷ b ∷ []) a h = (tt, ((refl, refl), ((refl, tt), tt)))
all_ok kind.AssignPat (s ∷ f ∷ e ∷ []) a h = (tt, ((refl, tt), ((refl, refl), tt)))
all_ok kind.AssignPatProp (s ∷ f ∷ e ∷ []) a h = (tt, (tt, ((refl, refl), tt)))
all_ok kind.ArrayPat (s ∷ e ∷ []) a h = (tt, ((refl, tt), tt))
all_ok kind.ObjectPat (s ∷ e ∷ []) a h = (tt, ((refl, tt), tt))
all_ok kind.RestPat (s ∷ e ∷ []) a h = (tt, ((refl, tt), tt))
all_ok kind.CatchClause (s ∷ x ∷ b ∷ []) a h = (tt, ((refl, tt), ((refl, tt), tt)))
all_ok kind.VarDecl (s ∷ o ∷ d ∷ []) a h = (tt, (tt, ((refl, tt), tt)))
all_ok kind.ExprStmt (s ∷ e ∷ []) a h = (tt, ((refl, tt), tt))
all_ok kind.ExportDecl (s ∷ d ∷ []) a h = (tt, ((refl, tt), tt))
all_ok kind.ExportDefaultExpr (s ∷ e ∷ []) a h = (tt, ((refl, refl), tt))
all_ok kind.ReturnStmt (s ∷ e ∷ []) a h = (tt, ((refl, tt), tt))
all_ok kind.ThrowStmt (s ∷ e ∷ []) a h = (tt, ((refl, tt), tt))
all_ok kind.WithStmt (s ∷ e ∷ b ∷ []) a h = (tt, ((refl, tt), ((refl, tt), tt)))
all_ok kind.LabeledStmt (s ∷ l ∷ b ∷ []) a h = (tt, (tt, ((refl, tt), tt)))
all_ok kind.IfStmt (s ∷ t ∷ x ∷ y ∷ []) a h = (tt, ((refl, tt), ((refl, tt), ((refl, tt), tt))))
all_ok kind.SwitchStmt (s ∷ e ∷ b ∷ []) a h = (tt, ((refl, tt), ((refl, tt), tt)))
all_ok kind.SwitchCase (s ∷ e ∷ b ∷ []) a h = (tt, ((refl, tt), ((refl, tt), tt)))
all_ok kind.WhileStmt (s ∷ e ∷ b ∷ []) a h = (tt, ((refl, tt), ((refl, tt), tt)))
all_ok kind.DoWhileStmt (s ∷ b ∷ e ∷ []) a h = (tt, ((refl, tt), ((refl, tt), tt)))
all_ok kind.ForStmt (s ∷ i ∷ t ∷ u ∷ b ∷ []) a h = (tt, ((refl, tt), ((refl, tt), ((refl, tt), ((refl, tt), tt)))))
all_ok kind.ForInStmt (s ∷ f ∷ e ∷ b ∷ []) a h = (tt, ((refl, tt), ((refl, tt), ((refl, tt), tt))))
all_ok kind.ForOfStmt (s ∷ o ∷ f ∷ e ∷ b ∷ []) a h = (tt, (tt, ((refl, tt), ((refl, refl), ((refl, tt), tt)))))
all_ok kind.Module (s ∷ b ∷ z ∷ []) a h = (tt, ((refl, tt), (tt, tt)))
all_ok kind.Script (s ∷ b ∷ z ∷ []) a h = (tt, ((refl, tt), (tt, tt)))
all_ok kind.OptChainExpr (s ∷ o ∷ b ∷ []) a h = absurd (cc)
all_ok kind.VarDeclarator (s ∷ n ∷ e ∷ []) a h = declarator_ok a.mode a.with_in s n e
all_ok kind.UsingDecl (s ∷ o ∷ d ∷ []) a h = using_ok a.mode s o d
all_ok kind.UsingDecl ts a h = hidden_ok ts
all_ok kind.VarDeclarator ts a h = hidden_ok ts
all_ok kind.PrivateName ts a h = hidden_ok ts
all_ok kind.ImportNamedSpecifier ts a h = hidden_ok ts
all_ok kind.ImportDefaultSpecifier ts a h = hidden_ok ts
all_ok kind.ImportStarAsSpecifier ts a h = hidden_ok ts
all_ok kind.NamedExport ts a h = hidden_ok ts
all_ok kind.ExportNamedSpecifier ts a h = hidden_ok ts
all_ok kind.ExportNamespaceSpecifier ts a h = hidden_ok ts
all_ok k ts a h = any_ok ts

-- what the reader's table names looks like what gets a pair
abbrev pub AllBlank : List (Node → Bool) → List Node → Type 0
AllBlank (n ∷ ns) (t ∷ ts) = (n t ≡ true → clue t ≡ blank) × AllBlank ns ts
AllBlank _ _ = Unit {0}

nothing_named : (t : Node) → unnamed t ≡ true → clue t ≡ blank
nothing_named t h = absurd (cc)

pub all_blank : (k : Kind) (ts : List Node) → AllBlank (named_in (Node-F.Tree k ts)) ts
all_blank kind.CallExpr (s ∷ e ∷ a ∷ []) = let x = names kind.CallExpr (s ∷ e ∷ a ∷ []) in (nothing_named s, ((λ h. paired_blank e (x.1.0 h).1), (nothing_named a, tt)))
all_blank kind.OptCall (s ∷ e ∷ a ∷ []) = let x = names kind.OptCall (s ∷ e ∷ a ∷ []) in (nothing_named s, ((λ h. paired_blank e (x.1.0 h).1), (nothing_named a, tt)))
all_blank kind.MemberExpr (s ∷ e ∷ a ∷ []) = let x = names kind.MemberExpr (s ∷ e ∷ a ∷ []) in (nothing_named s, ((λ h. paired_blank e (x.1.0 h).1), (nothing_named a, tt)))
all_blank kind.TaggedTpl (s ∷ e ∷ a ∷ []) = let x = names kind.TaggedTpl (s ∷ e ∷ a ∷ []) in (nothing_named s, ((λ h. paired_blank e (x.1.0 h).1), (nothing_named a, tt)))
all_blank kind.NewExpr (s ∷ e ∷ a ∷ []) = let x = names kind.NewExpr (s ∷ e ∷ a ∷ []) in (nothing_named s, ((λ h. paired_blank e (x.1.0 h).1), (nothing_named a, tt)))
all_blank kind.BinExpr (s ∷ o ∷ e ∷ r ∷ []) = let x = names kind.BinExpr (s ∷ o ∷ e ∷ r ∷ []) in (nothing_named s, (nothing_named o, ((λ h. paired_blank e (x.1.1.0 h).1), (nothing_named r, tt))))
all_blank kind.ExprOrSpread (s ∷ e ∷ []) = let x = names kind.ExprOrSpread (s ∷ e ∷ []) in (nothing_named s, ((λ h. paired_blank e (x.1.0 h).1), tt))
all_blank kind.ArrowExpr (s ∷ a ∷ e ∷ f ∷ []) = let x = names kind.ArrowExpr (s ∷ a ∷ e ∷ f ∷ []) in (nothing_named s, (nothing_named a, ((λ h. paired_blank e (x.1.1.0 h).1), (nothing_named f, tt))))
all_blank kind.ExportDefaultExpr (s ∷ e ∷ []) = let x = names kind.ExportDefaultExpr (s ∷ e ∷ []) in (nothing_named s, ((λ h. paired_blank e (x.1.0 h).1), tt))
all_blank kind.ForOfStmt (s ∷ w ∷ l ∷ e ∷ b ∷ []) = let x = names kind.ForOfStmt (s ∷ w ∷ l ∷ e ∷ b ∷ []) in (nothing_named s, (nothing_named w, (nothing_named l, ((λ h. paired_blank e (x.1.1.1.0 h).1), (nothing_named b, tt)))))
all_blank k ts = tt

-- which tests there are goes by what is seen of the fields
abbrev named_by : Node-F Clue → List (Node → Bool)
named_by (Node-F.Tree kind.CallExpr (span ∷ callee ∷ args ∷ [])) = unnamed ∷ has_kind is_odd_callee ∷ unnamed ∷ []
named_by (Node-F.Tree kind.OptCall (span ∷ callee ∷ args ∷ [])) = unnamed ∷ has_kind is_odd_callee ∷ unnamed ∷ []
named_by (Node-F.Tree kind.MemberExpr (span ∷ obj ∷ prop ∷ [])) = unnamed ∷ has_kind is_odd_object ∷ unnamed ∷ []
named_by (Node-F.Tree kind.TaggedTpl (span ∷ tag ∷ tpl ∷ [])) = unnamed ∷ has_kind is_function ∷ unnamed ∷ []
named_by (Node-F.Tree kind.NewExpr (span ∷ callee ∷ args ∷ [])) = unnamed ∷ has_kind is_literal ∷ unnamed ∷ []
named_by (Node-F.Tree kind.BinExpr (span ∷ op ∷ left ∷ right ∷ [])) = unnamed ∷ unnamed ∷ is_odd_left op.word ∷ unnamed ∷ []
named_by (Node-F.Tree kind.ExprOrSpread (spread ∷ expr ∷ [])) = unnamed ∷ (λ e. spread.absent && has_kind is_yield e) ∷ []
named_by (Node-F.Tree kind.ArrowExpr (span ∷ params ∷ body ∷ is_async ∷ [])) = unnamed ∷ unnamed ∷ assigns_to is_destructuring ∷ unnamed ∷ []
named_by (Node-F.Tree kind.ExportDefaultExpr (span ∷ expr ∷ [])) = unnamed ∷ has_kind is_arrow ∷ []
named_by (Node-F.Tree kind.ForOfStmt (span ∷ is_await_loop ∷ left ∷ right ∷ body ∷ [])) = unnamed ∷ unnamed ∷ unnamed ∷ has_kind is_await ∷ unnamed ∷ []
named_by _ = []

by_clues : (k : Kind) (ts : List Node) → named_in (Node-F.Tree k ts) ≡ named_by (Node-F.Tree k (map clue ts))
by_clues kind.CallExpr (a ∷ b ∷ c ∷ []) = refl
by_clues kind.OptCall (a ∷ b ∷ c ∷ []) = refl
by_clues kind.MemberExpr (a ∷ b ∷ c ∷ []) = refl
by_clues kind.TaggedTpl (a ∷ b ∷ c ∷ []) = refl
by_clues kind.NewExpr (a ∷ b ∷ c ∷ []) = refl
by_clues kind.BinExpr (a ∷ b ∷ c ∷ d ∷ []) = refl
by_clues kind.ExprOrSpread (a ∷ b ∷ []) = refl
by_clues kind.ArrowExpr (a ∷ b ∷ c ∷ d ∷ []) = refl
by_clues kind.ExportDefaultExpr (a ∷ b ∷ []) = refl
by_clues kind.ForOfStmt (a ∷ b ∷ c ∷ d ∷ e ∷ []) = refl
by_clues k ts = refl

pub same_tests : (k : Kind) (ts us : List Node) → map clue us ≡ map clue ts → named_in (Node-F.Tree k us) ≡ named_in (Node-F.Tree k ts)
same_tests k ts us h = by_clues k us ∙ ap (λ cs. named_by (Node-F.Tree k cs)) h ∙ sym (by_clues k ts)
