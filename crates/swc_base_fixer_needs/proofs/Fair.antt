-- In a tree of the table no pair stands where the grammar does not look, and lists are lists.
use Rattle.std.proofs.Common.{◌≡◌, Bool, true, false, not, ◌&&◌, ◌||◌, ◌==◌, IsTrue, List, [], ◌∷◌, map, refl, sym, ◌∙◌, rules, true≢false}
use Rattle.std.specs.List.{list_any, list_all}
use Rattle.swc_tree_node.specs.declared.kind.Kind.{Kind}
use Rattle.swc_tree_node.specs.declared.kind.Kind.TheVariants as kind
use Rattle.swc_tree_node.specs.declared.kind.Class.TheVariants as class
use Rattle.swc_tree_node.specs.declared.slot.Content.TheVariants as content
use Rattle.swc_tree_node.specs.declared.slot.Slot.{Slot}
use Rattle.swc_tree_node.specs.declared.slot.Slot.TheVariants as slot
use Rattle.swc_tree_node.specs.declared.node.Node.{Node, Tree, the_lemmas}
use Rattle.swc_tree_node.specs.declared.node.Node.TheOpen.{Node-F}
use Rattle.swc_tree_node.specs.Table.{slots_of, kinds_of, kind_number}
use Rattle.swc_tree_node.specs.Fits.{Fits, FieldsFit}
use Rattle.swc_tree_node.proofs.Fit.{fits-List, tree_opens}
use Rattle.swc_tree_grammar.specs.Kinds.{has_kind}
use Rattle.swc_tree_grammar.specs.Levels.{word_of, is_in}
use Rattle.swc_tree_grammar.specs.Forms.{holds}
use Rattle.swc_tree_grammar.specs.Stripped.{is_pairless, pairless_step}
use Rattle.swc_tree_grammar.specs.Demands.Demand.{AtLeast}
use Rattle.swc_tree_grammar.proofs.Induction.{by_children}
use Rattle.swc_tree_grammar_laws.proofs.Levelled.{both}
use Rattle.swc_base_fixer_laws.proofs.Up.{kind_of_tree}
use Rattle.swc_base_fixer_laws.proofs.Quiet.{is_quiet}
use Rattle.swc_base_fixer_needs.specs.Sites.{Mode, Site, Spot, clue, any, asks, spots, hidden, left_mode, first_unless, declarator, using_spots}
use Rattle.swc_base_fixer_needs.specs.Sites.Mode.{Plain, Base, BeforeIn, Head, Declarators, OneDeclarator, Name, Nothing}
use Rattle.swc_base_fixer_needs.specs.Sites.Spot.{Hidden, At}
use Rattle.swc_base_fixer_needs.specs.Reasons.{takes_tree}
use Rattle.swc_base_fixer_needs.specs.Keys.{is_computed, is_named_in}
use Rattle.swc_base_fixer_needs.proofs.Quiet.{quiet_parts}

abbrev pub is_list : Slot → Bool
is_list (slot.One c) = false
is_list (slot.Optional c) = false
is_list _ = true

abbrev pub is_fair : Spot → Slot → Node → Bool
is_fair Hidden s t = is_quiet s || is_pairless t
is_fair (At a) s t = takes_tree a.mode || is_list s

abbrev pub all_fair : List Spot → List Slot → List Node → Bool
all_fair (p ∷ ps) (s ∷ ss) (t ∷ ts) = is_fair p s t && all_fair ps ss ts
all_fair _ _ _ = true

-- the key of a constructor
key_row : (k : Kind) (ts : List Node) → IsTrue (list_any (λ x. kind_number k == kind_number x) (kinds_of class.PropName)) → is_computed k ≡ false → FieldsFit (slots_of k) ts → pairless_step (Node-F.Tree k (map is_pairless ts)) ≡ true
key_row kind.IdentName ts b n f = quiet_parts (slots_of kind.IdentName) ts refl f
key_row kind.Str ts b n f = quiet_parts (slots_of kind.Str) ts refl f
key_row kind.Number ts b n f = quiet_parts (slots_of kind.Number) ts refl f
key_row kind.BigInt ts b n f = quiet_parts (slots_of kind.BigInt) ts refl f
key_row kind.ComputedPropName ts b n f = absurd (true≢false n)
key_row k ts b n f = absurd (true≢false (sym b))

not_true : (b : Bool) → not b ≡ true → b ≡ false
not_true true h = absurd (cc)
not_true false h = refl

key_pairless : (t : Node) → Fits t (slot.One (content.Node class.PropName)) → not (has_kind is_computed t) ≡ true → is_pairless t ≡ true
key_pairless t = by_children (λ t. Fits t (slot.One (content.Node class.PropName)) → not (has_kind is_computed t) ≡ true → is_pairless t ≡ true)
    (λ f n. search (rules, the_lemmas), λ x f n. search (rules, the_lemmas), λ w f n. search (rules, the_lemmas), λ x f n. search (rules, the_lemmas), λ r f n. search (rules, the_lemmas), λ k i f n. search (rules, the_lemmas))
    (λ ts l f n. (let e = fits-List ts (slot.One (content.Node class.PropName)) in absurd (cc)))
    (λ k ts l f n. (
    let w = tree_opens k ts class.PropName f in
    let e : is_pairless (Tree k ts) ≡ pairless_step (Node-F.Tree k (map is_pairless ts)) = search (rules, the_lemmas) in
    e ∙ key_row k ts w.1 (sym (kind_of_tree is_computed k ts) ∙ not_true (has_kind is_computed (Tree k ts)) n) w.2)) t

left_takes : (x : Bool) → takes_tree (left_mode x) ≡ true
left_takes true = refl
left_takes false = refl

arg_takes : (x : Bool) (a : Site) (s : Slot) (t : Node) → is_fair (At (first_unless x a (asks (AtLeast 17) a.with_in))) s t ≡ true
arg_takes true a s t = refl
arg_takes false a s t = refl

declarator_fair : (m : Mode) (b : Bool) (s n e : Node) → all_fair (declarator m b) (slots_of kind.VarDeclarator) (s ∷ n ∷ e ∷ []) ≡ true
declarator_fair Plain b s n e = refl
declarator_fair Base b s n e = refl
declarator_fair BeforeIn b s n e = refl
declarator_fair Head b s n e = refl
declarator_fair Declarators b s n e = refl
declarator_fair OneDeclarator b s n e = refl
declarator_fair Name b s n e = refl
declarator_fair Nothing b s n e = refl

using_fair : (m : Mode) (s o d : Node) → all_fair (using_spots m) (slots_of kind.UsingDecl) (s ∷ o ∷ d ∷ []) ≡ true
using_fair Plain s o d = refl
using_fair Base s o d = refl
using_fair BeforeIn s o d = refl
using_fair Head s o d = refl
using_fair Declarators s o d = refl
using_fair OneDeclarator s o d = refl
using_fair Name s o d = refl
using_fair Nothing s o d = refl

any_fair : (ts us : List Node) (ss : List Slot) → all_fair (map (λ c. any) (map clue ts)) ss us ≡ true
any_fair [] us ss = refl
any_fair (t ∷ ts) [] [] = refl
any_fair (t ∷ ts) [] (s ∷ ss) = refl
any_fair (t ∷ ts) (u ∷ us) [] = refl
any_fair (t ∷ ts) (u ∷ us) (s ∷ ss) = any_fair ts us ss

hidden_fair : (ts us : List Node) (ss : List Slot) → list_all is_quiet ss ≡ true → all_fair (hidden (map clue ts)) ss us ≡ true
hidden_fair [] us ss h = refl
hidden_fair (t ∷ ts) [] [] h = refl
hidden_fair (t ∷ ts) [] (s ∷ ss) h = refl
hidden_fair (t ∷ ts) (u ∷ us) [] h = refl
hidden_fair (t ∷ ts) (u ∷ us) (s ∷ ss) h = let w = both (is_quiet s) (list_all is_quiet ss) h in rw w.0 (hidden_fair ts us ss w.1)

pub fair : (k : Kind) (ts : List Node) (a : Site) → FieldsFit (slots_of k) ts → is_named_in (Node-F.Tree k ts) ≡ true → all_fair (spots a (Node-F.Tree k (map clue ts))) (slots_of k) ts ≡ true
fair kind.ParenExpr (s ∷ e ∷ []) a w n = refl
fair kind.SeqExpr (s ∷ e ∷ []) a w n = refl
fair kind.AssignExpr (s ∷ o ∷ f ∷ x ∷ []) a w n = refl
fair kind.CondExpr (s ∷ t ∷ x ∷ y ∷ []) a w n = refl
fair kind.UnaryExpr (s ∷ o ∷ x ∷ []) a w n = refl
fair kind.AwaitExpr (s ∷ x ∷ []) a w n = refl
fair kind.YieldExpr (s ∷ x ∷ d ∷ []) a w n = refl
fair kind.MemberExpr (s ∷ o ∷ m ∷ []) a w n = refl
fair kind.SuperPropExpr (s ∷ o ∷ m ∷ []) a w n = refl
fair kind.TaggedTpl (s ∷ o ∷ m ∷ []) a w n = refl
fair kind.Tpl (s ∷ e ∷ q ∷ []) a w n = refl
fair kind.CallExpr (s ∷ o ∷ m ∷ []) a w n = refl
fair kind.NewExpr (s ∷ o ∷ m ∷ []) a w n = refl
fair kind.OptChainExpr (s ∷ o ∷ b ∷ []) a w n = refl
fair kind.OptCall (s ∷ o ∷ m ∷ []) a w n = refl
fair kind.ExprOrSpread (s ∷ e ∷ []) a w n = refl
fair kind.SpreadElement (s ∷ e ∷ []) a w n = refl
fair kind.KeyValueProp (p ∷ e ∷ []) a w n = refl
fair kind.MethodProp (p ∷ e ∷ []) a w n = refl
fair kind.KeyValuePatProp (p ∷ e ∷ []) a w n = refl
fair kind.ComputedPropName (s ∷ e ∷ []) a w n = refl
fair kind.ClassProp (s ∷ p ∷ e ∷ f ∷ []) a w n = refl
fair kind.PrivateProp (s ∷ p ∷ e ∷ f ∷ []) a w n = refl
fair kind.ClassMethod (s ∷ p ∷ f ∷ w ∷ x ∷ []) a v n = refl
fair kind.PrivateMethod (s ∷ p ∷ f ∷ w ∷ x ∷ []) a v n = refl
fair kind.GetterProp (s ∷ p ∷ b ∷ []) a w n = refl
fair kind.SetterProp (s ∷ p ∷ x ∷ b ∷ []) a w n = refl
fair kind.ArrowExpr (s ∷ x ∷ b ∷ f ∷ []) a w n = refl
fair kind.Function (s ∷ x ∷ b ∷ f ∷ w ∷ []) a v n = refl
fair kind.Class (s ∷ e ∷ b ∷ []) a w n = refl
fair kind.AssignPat (s ∷ f ∷ e ∷ []) a w n = refl
fair kind.AssignPatProp (s ∷ f ∷ e ∷ []) a w n = refl
fair kind.ArrayPat (s ∷ e ∷ []) a w n = refl
fair kind.ObjectPat (s ∷ e ∷ []) a w n = refl
fair kind.RestPat (s ∷ e ∷ []) a w n = refl
fair kind.CatchClause (s ∷ x ∷ b ∷ []) a w n = refl
fair kind.VarDecl (s ∷ o ∷ d ∷ []) a w n = refl
fair kind.ExprStmt (s ∷ e ∷ []) a w n = refl
fair kind.ExportDecl (s ∷ d ∷ []) a w n = refl
fair kind.ExportDefaultExpr (s ∷ e ∷ []) a w n = refl
fair kind.ReturnStmt (s ∷ e ∷ []) a w n = refl
fair kind.ThrowStmt (s ∷ e ∷ []) a w n = refl
fair kind.WithStmt (s ∷ e ∷ b ∷ []) a w n = refl
fair kind.LabeledStmt (s ∷ l ∷ b ∷ []) a w n = refl
fair kind.IfStmt (s ∷ t ∷ x ∷ y ∷ []) a w n = refl
fair kind.SwitchStmt (s ∷ e ∷ b ∷ []) a w n = refl
fair kind.SwitchCase (s ∷ e ∷ b ∷ []) a w n = refl
fair kind.WhileStmt (s ∷ e ∷ b ∷ []) a w n = refl
fair kind.DoWhileStmt (s ∷ b ∷ e ∷ []) a w n = refl
fair kind.ForStmt (s ∷ i ∷ t ∷ u ∷ b ∷ []) a w n = refl
fair kind.ForInStmt (s ∷ f ∷ e ∷ b ∷ []) a w n = refl
fair kind.ForOfStmt (s ∷ o ∷ f ∷ e ∷ b ∷ []) a w n = refl
fair kind.Module (s ∷ b ∷ z ∷ []) a w n = refl
fair kind.Script (s ∷ b ∷ z ∷ []) a w n = refl
fair kind.BinExpr (s ∷ o ∷ f ∷ x ∷ []) a w n = rw (left_takes (is_in (word_of o))) refl
fair kind.UpdateExpr (s ∷ o ∷ f ∷ x ∷ []) a w n = rw (arg_takes (holds f) a (slot.One (content.Node class.Expr)) x) refl
fair kind.Constructor (s ∷ p ∷ x ∷ b ∷ []) a w n = rw (key_pairless p w.1.0 n) refl
fair kind.VarDeclarator (s ∷ n ∷ e ∷ []) a w h = declarator_fair a.mode a.with_in s n e
fair kind.UsingDecl (s ∷ o ∷ d ∷ []) a w n = using_fair a.mode s o d
fair kind.UsingDecl [] a w n = absurd w
fair kind.UsingDecl (s ∷ []) a w n = absurd w.1
fair kind.UsingDecl (s ∷ t ∷ []) a w n = absurd w.1.1
fair kind.UsingDecl (s ∷ t ∷ u ∷ v ∷ ts) a w n = absurd w.1.1.1
fair kind.VarDeclarator [] a w n = absurd w
fair kind.VarDeclarator (s ∷ []) a w n = absurd w.1
fair kind.VarDeclarator (s ∷ t ∷ []) a w n = absurd w.1.1
fair kind.VarDeclarator (s ∷ t ∷ u ∷ v ∷ ts) a w n = absurd w.1.1.1
fair kind.PrivateName ts a w n = hidden_fair ts ts (slots_of kind.PrivateName) refl
fair kind.ImportNamedSpecifier ts a w n = hidden_fair ts ts (slots_of kind.ImportNamedSpecifier) refl
fair kind.ImportDefaultSpecifier ts a w n = hidden_fair ts ts (slots_of kind.ImportDefaultSpecifier) refl
fair kind.ImportStarAsSpecifier ts a w n = hidden_fair ts ts (slots_of kind.ImportStarAsSpecifier) refl
fair kind.NamedExport ts a w n = hidden_fair ts ts (slots_of kind.NamedExport) refl
fair kind.ExportNamedSpecifier ts a w n = hidden_fair ts ts (slots_of kind.ExportNamedSpecifier) refl
fair kind.ExportNamespaceSpecifier ts a w n = hidden_fair ts ts (slots_of kind.ExportNamespaceSpecifier) refl
fair k ts a w n = any_fair ts ts (slots_of k)
