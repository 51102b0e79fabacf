-- What is asked of a node, and what of each of its fields. It differs from what "can be written down" says in two places alone, where
-- it takes off pairs of parentheses, and no more of what stripping takes off: in all that fits the grammar's places both say the same.
use Rattle.std.specs.Prelude.{suc, [], ◌∷◌, length, Bool, true, false, not, ◌&&◌, ◌||◌, nat_le, nat_eq, if◌then◌else◌}
use Rattle.std.specs.List.{list_all}
use Rattle.swc_tree_node.specs.declared.kind.Kind.TheVariants as kind
use Rattle.swc_tree_node.specs.declared.node.Node.{Node, out-Node, roll-Node, fold-Node, map-Node}
use Rattle.swc_tree_node.specs.declared.node.Node.TheOpen.{Node-F}
use Rattle.swc_tree_scoping.specs.Places.{has_use_strict}
use Rattle.swc_tree_grammar.specs.Shapes.{Paren, Seq, Assign, Bin, Update, Member, Tpl, OptChain, OptCall, ClassMethod, PrivateMethod, PrivateProp, Constructor, Getter, Setter, Arrow, Function, Class, FnExpr, ClassExpr, FnDecl, Declarator, AssignPat, AssignPatProp, ArrayPat, ObjectPat, RestPat, KeyValuePat, Catch, VarDecl, UsingDecl, Statement, ExportDecl, With, Labeled, If, Case, While, DoWhile, For, ForIn, ForOf, Module, Script, items_of}
use Rattle.swc_tree_grammar.specs.Levels.{word_of, is_in, is_absent}
use Rattle.swc_tree_grammar.specs.Forms.{is_using, is_strict, are_named, holds}
use Rattle.swc_tree_grammar.specs.Kinds.{has_kind, is_private_name}
use Rattle.swc_tree_grammar.specs.Targets.{is_target}
use Rattle.swc_tree_grammar.specs.Writable.{accessor, constructor_key_in, element, elements, initialised_in, is_const, is_string, left_side, local_specifier_in, name_is, one_bare, pattern}
use Rattle.swc_base_writable_rules.specs.declared.round.Round.{Round}
use Rattle.swc_base_writable_rules.specs.declared.ask.Ask.TheVariants as ask
use Rattle.swc_base_writable_rules.specs.declared.ask.Row.{Row}
use Rattle.swc_base_writable_rules.specs.declared.ask.Row.TheVariants as row
use Rattle.swc_base_writable_rules.specs.declared.rule.Rule.{Rule}
use Rattle.swc_base_writable_rules.specs.Rounds.{assigning, binding, round_of, strictly}

-- an optional chain, or a string, in pairs of parentheses or not
abbrev pub is_chain_step : Node-F Bool → Bool
is_chain_step (Paren span expr) = expr
is_chain_step (Node-F.Tree kind.OptChainExpr es) = true
is_chain_step _ = false

abbrev pub is_chain_inside : Node → Bool
is_chain_inside = fold-Node Bool is_chain_step

pub record Texts : Type 0 where
  pub whole : Node
  pub is_text : Bool

abbrev pub text_in_pair : Node → Node-F Texts → Bool
text_in_pair t (Paren span expr) = expr.is_text
text_in_pair t _ = is_string t

abbrev pub texts_step : Node-F Texts → Texts
texts_step x = record { whole = roll-Node (map-Node Texts Node (λ e. e.whole) x); is_text = text_in_pair (roll-Node (map-Node Texts Node (λ e. e.whole) x)) x }

abbrev pub is_string_inside : Node → Bool
is_string_inside t = (fold-Node Texts texts_step t).is_text

-- a part of an optional chain that goes on from one
abbrev pub goes_on_in : Node-F Node → Bool
goes_on_in (Member span obj prop) = is_chain_inside obj
goes_on_in (OptCall span callee args) = is_chain_inside callee
goes_on_in _ = false

-- a rule: what is asked of the node itself, and of its fields
abbrev pub rule : Bool → Row → Rule
rule holds row = record { holds = holds; row = row }

abbrev pub script_rule : Round → Node → Rule
script_rule q body = rule (list_all (λ t. not (is_using t)) (items_of body)) (row.One 1 (ask.Sound (strictly (has_use_strict (items_of body)) q)))

-- imports, exports and programs, and all kinds of which no more is asked than that their fields are sound and no private names
abbrev pub whole_rule : Round → Node-F Node → Rule
whole_rule q (Node-F.Tree kind.ImportNamedSpecifier (span ∷ local ∷ imported ∷ [])) = rule (name_is q.strict (out-Node local)) row.Nothing
whole_rule q (Node-F.Tree kind.ImportDefaultSpecifier (span ∷ local ∷ [])) = rule (name_is q.strict (out-Node local)) row.Nothing
whole_rule q (Node-F.Tree kind.ImportStarAsSpecifier (span ∷ local ∷ [])) = rule (name_is q.strict (out-Node local)) row.Nothing
whole_rule q (Node-F.Tree kind.NamedExport (span ∷ specifiers ∷ src ∷ attributes ∷ [])) =
    if is_absent src then rule (list_all (λ t. local_specifier_in (out-Node t)) (items_of specifiers)) (row.One 1 (ask.Sound q)) else rule true row.Nothing
whole_rule q (Node-F.Tree kind.ExportNamedSpecifier (span ∷ orig ∷ exported ∷ [])) = rule true (row.One 1 (ask.Sound q))
whole_rule q (Node-F.Tree kind.ExportNamespaceSpecifier es) = rule true row.Nothing
whole_rule q (ExportDecl span decl) = rule (not (is_using decl)) (row.One 1 (ask.Sound q))
whole_rule q (Module span body shebang) = rule true (row.One 1 (ask.Sound (strictly true q)))
whole_rule q (Script span body shebang) = script_rule q body
whole_rule q (Node-F.Tree kind.TsInterfaceDecl es) = rule false row.Nothing
whole_rule q (Node-F.Tree kind.TsTypeAliasDecl es) = rule false row.Nothing
whole_rule q (Node-F.Tree kind.TsEnumDecl es) = rule false row.Nothing
whole_rule q (Node-F.Tree kind.TsModuleDecl es) = rule false row.Nothing
whole_rule q _ = rule true (row.Each (ask.Part (binding q)))

-- the fields of a `for` with three parts in its head
abbrev pub for_row : Round → Row
for_row q = row.Four 1 (ask.Part (binding q)) 2 (ask.Part (binding q)) 3 (ask.Part (binding q)) 4 (ask.Body q)

-- loops
abbrev pub loop_rule : Round → Node-F Node → Rule
loop_rule q (While span test body) = rule true (row.Two 1 (ask.Part (binding q)) 2 (ask.Body q))
loop_rule q (DoWhile span body test) = rule true (row.Two 1 (ask.Body q) 2 (ask.Part (binding q)))
loop_rule q (For span init test update body) = rule true (for_row q)
loop_rule q (ForIn span left right body) = rule (not (is_using left)) (row.Three 1 (ask.Head q) 2 (ask.Part (binding q)) 3 (ask.Body q))
loop_rule q (ForOf span is_await left right body) = rule true (row.Three 2 (ask.Head q) 3 (ask.Part (binding q)) 4 (ask.Body q))
loop_rule q y = whole_rule q y

abbrev pub catch_rule : Round → Node → Rule
catch_rule q param = rule (is_absent param || pattern param (round_of (binding q))) (row.Two 1 (ask.Sound (binding q)) 2 (ask.Sound q))

abbrev pub branches : Round → Row
branches q = row.Three 1 (ask.Part (binding q)) 2 (ask.Branch q) 3 (ask.BranchIfThere q)

-- other statements
abbrev pub statement_rule : Round → Node-F Node → Rule
statement_rule q (Statement span expr) = rule (not (is_string_inside expr) || is_string expr) (row.One 1 (ask.Part (binding q)))
statement_rule q (Catch span param body) = catch_rule q param
statement_rule q (With span obj body) = rule true (row.Two 1 (ask.Part (binding q)) 2 (ask.Body q))
statement_rule q (Labeled span label body) = rule true (row.Two 1 (ask.Sound q) 2 (ask.Branch q))
statement_rule q (If span test cons alt) = rule true (branches q)
statement_rule q (Case span test cons) = rule true (row.Two 1 (ask.Part (binding q)) 2 (ask.Consequent q))
statement_rule q y = loop_rule q y

-- the parameters and the body of a function
abbrev pub body_row : Round → Node → Row
body_row q body = row.Two 1 (ask.Part (strictly (is_strict body) q)) 2 (ask.Part (strictly (is_strict body) q))

abbrev pub setter_rule : Round → Node → Node → Rule
setter_rule q param body = rule (element param (round_of (binding q))) (row.Three 1 (ask.Part (binding q)) 2 (ask.Part (strictly (is_strict body) q)) 3 (ask.Part (strictly (is_strict body) q)))

-- functions, and what has one's parameters and body
abbrev pub function_rule : Round → Node-F Node → Rule
function_rule q (Arrow span params body is_async) = rule (elements (round_of (binding q)) (items_of params)) (body_row q body)
function_rule q (Function span params body is_generator is_async) = rule (elements (round_of (binding q)) (items_of params)) (body_row q body)
function_rule q (Constructor span key params body) = rule (constructor_key_in (out-Node key) && elements (round_of (binding q)) (items_of params)) (row.Two 2 (ask.Part (binding q)) 3 (ask.Part (binding q)))
function_rule q (Getter span key body) = rule true (row.Two 1 (ask.Part (binding q)) 2 (ask.Part (strictly (is_strict body) q)))
function_rule q (Setter span key param body) = setter_rule q param body
function_rule q y = statement_rule q y

-- classes, their members, and what has a name of its own
abbrev pub member_rule : Round → Node-F Node → Rule
member_rule q (ClassMethod span key function keyword is_static) = rule (accessor function keyword) (row.Two 1 (ask.Sound (binding q)) 2 (ask.Sound q))
member_rule q (PrivateMethod span key function keyword is_static) = rule (accessor function keyword) (row.One 2 (ask.Sound q))
member_rule q (PrivateProp span key value is_static) = rule true (row.One 2 (ask.Part (binding q)))
member_rule q (Class span super_class body) = rule true (row.Two 1 (ask.Part (strictly true q)) 2 (ask.Part (strictly true q)))
member_rule q (FnDecl ident function) = rule (name_is q.strict (out-Node ident)) (row.One 1 (ask.Sound q))
member_rule q (FnExpr ident function) = rule (name_is q.strict (out-Node ident)) (row.One 1 (ask.Sound q))
member_rule q (Node-F.Tree kind.ClassDecl (ident ∷ class ∷ [])) = rule (name_is true (out-Node ident)) (row.One 1 (ask.Sound q))
member_rule q (ClassExpr ident class) = rule (name_is true (out-Node ident)) (row.One 1 (ask.Sound q))
member_rule q y = function_rule q y

-- declarations
abbrev pub declaration_rule : Round → Node-F Node → Rule
declaration_rule q (Declarator span name init) = rule (pattern name (round_of (binding q))) (row.Two 1 (ask.Sound (binding q)) 2 (ask.Part (binding q)))
declaration_rule q (VarDecl span keyword decls) = rule (list_all (λ d. initialised_in (is_const (word_of keyword)) (out-Node d)) (items_of decls)) (row.One 2 (ask.Sound q))
declaration_rule q (UsingDecl span is_await decls) = rule (are_named true (items_of decls)) (row.One 2 (ask.Sound q))
declaration_rule q y = member_rule q y

-- patterns
abbrev pub pattern_rule : Round → Node-F Node → Rule
pattern_rule q (ArrayPat span elems) = rule (elements (round_of q) (items_of elems)) (row.One 1 (ask.Sound q))
pattern_rule q (ObjectPat span props) = rule (elements (round_of q) (items_of props)) (row.One 1 (ask.Sound q))
pattern_rule q (RestPat span arg) = rule (pattern arg (round_of q)) (row.One 1 (ask.Sound q))
pattern_rule q (KeyValuePat key value) = rule (element value (round_of q)) (row.Two 0 (ask.Sound (binding q)) 1 (ask.Sound q))
pattern_rule q (AssignPat span left right) = rule (pattern left (round_of q)) (row.Two 1 (ask.Sound q) 2 (ask.Part (binding q)))
pattern_rule q (AssignPatProp span key value) = rule true (row.Two 1 (ask.Sound q) 2 (ask.Part (binding q)))
pattern_rule q y = declaration_rule q y

-- expressions, and all that is none
abbrev pub rule_for : Round → Node-F Node → Rule
rule_for q (Seq span exprs) = rule (nat_le 2 (length (items_of exprs))) (row.One 1 (ask.Sound q))
rule_for q (Assign span op left right) = rule (left_side (word_of op) left) (row.Two 2 (ask.Sound (assigning q)) 3 (ask.Part (binding q)))
rule_for q (Update span op prefix arg) = rule (is_target arg) (row.One 3 (ask.Sound (binding q)))
rule_for q (Bin span op left right) = rule (is_in (word_of op) || not (has_kind is_private_name left)) (row.Two 2 (ask.Sound (binding q)) 3 (ask.Part (binding q)))
rule_for q (Member span obj prop) = rule (not (has_kind is_private_name obj)) (row.Two 1 (ask.Sound (binding q)) 2 (ask.Sound (binding q)))
rule_for q (Tpl span exprs quasis) = rule (nat_eq (length (items_of quasis)) (suc (length (items_of exprs)))) (row.One 1 (ask.Sound (binding q)))
rule_for q (OptChain span optional base) = rule (holds optional || goes_on_in (out-Node base)) (row.One 2 (ask.Sound (binding q)))
rule_for q y = pattern_rule q y

-- declarations in the head of a `for` in or of
abbrev pub head_rule : Round → Node-F Node → Rule
head_rule q (VarDecl span keyword decls) = rule (one_bare (items_of decls)) (row.One 2 (ask.Sound (binding q)))
head_rule q (UsingDecl span is_await decls) = rule (one_bare (items_of decls) && are_named false (items_of decls)) (row.One 2 (ask.Sound (binding q)))
head_rule q _ = rule false row.Nothing

abbrev pub rule_of : Bool → Round → Node-F Node → Rule
rule_of in_head q y = if in_head then head_rule q y else rule_for q y
