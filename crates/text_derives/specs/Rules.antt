-- What is asked of a node, and what of each of its fields: the productions of ECMA-262 that ask something, a kind a line.
use Rattle.std.specs.Prelude.{Bool, true, false, not, ◌||◌, if◌then◌else◌}
use Rattle.std.specs.List.{list_all}
use Rattle.swc_tree_node.specs.declared.kind.Kind.TheVariants as kind
use Rattle.swc_tree_node.specs.declared.node.Node.{Node}
use Rattle.swc_tree_node.specs.declared.node.Node.TheOpen.{Node-F}
use Rattle.swc_tree_scoping.specs.Places.{has_use_strict}
use Rattle.swc_tree_grammar.specs.Shapes.{Paren, Seq, Assign, Cond, Bin, Unary, Await, Update, Yield, Member, SuperProp, TaggedTpl, Tpl, Call, New, OptChain, OptCall, Argument, Spread, KeyValue, Method, Computed, ClassProp, PrivateProp, ClassMethod, PrivateMethod, Constructor, Getter, Setter, Arrow, Function, Class, Declarator, AssignPat, AssignPatProp, ArrayPat, ObjectPat, RestPat, KeyValuePat, Catch, VarDecl, UsingDecl, Statement, ExportDecl, ExportDefault, Return, Throw, With, Labeled, If, Switch, Case, While, DoWhile, For, ForIn, ForOf, Module, Script, items_of}
use Rattle.swc_tree_grammar.specs.Blocks.{takes_else}
use Rattle.swc_tree_grammar.specs.Levels.{word_of, is_in, is_absent}
use Rattle.swc_tree_grammar.specs.Forms.{is_using, is_strict, are_named, holds}
use Rattle.swc_tree_grammar.specs.Grammar.{is_async_name, may_begin_export, may_begin_statement}
use Rattle.swc_tree_grammar.specs.Starts.{start}
use Rattle.text_derives.specs.declared.context.Context.{Context}
use Rattle.text_derives.specs.declared.demand.Demand.{Demand}
use Rattle.text_derives.specs.declared.demand.Demand.TheVariants as demand
use Rattle.text_derives.specs.declared.ask.Ask.{Ask}
use Rattle.text_derives.specs.declared.ask.Ask.TheVariants as ask
use Rattle.text_derives.specs.declared.ask.Row.{Row}
use Rattle.text_derives.specs.declared.ask.Row.TheVariants as row
use Rattle.text_derives.specs.declared.rule.Rule.{Rule}
use Rattle.text_derives.specs.Contexts.{inside, outside, strictly}
use Rattle.text_derives.specs.Demanded.{left_demand, right_demand}

-- a rule: what is asked of the node itself, and of its fields
abbrev pub rule : Bool → Row → Rule
rule holds row = record { holds = holds; row = row }

-- an expression of which nothing is asked, where `in` may stand
abbrev pub any : Context → Ask
any c = ask.Fits demand.Any (inside c)

-- one of at least level 2, as it is assigned, passed and listed
abbrev pub assigned : Context → Ask
assigned c = ask.Fits (demand.AtLeast 2) c

-- a key
abbrev pub key : Context → Ask
key c = ask.Part demand.Key (inside c)

-- all that is no expression and asks nothing else
abbrev pub plain : Context → Ask
plain c = ask.Derived (inside c)

abbrev pub no_using : Node → Bool
no_using stmts = list_all (λ t. not (is_using t)) (items_of stmts)

abbrev pub script_rule : Context → Node → Rule
script_rule c body = rule (no_using body) (row.One 1 (ask.Derived (strictly (has_use_strict (items_of body)) c)))

-- programs, specifiers, which name things of which nothing is asked, and all kinds of which nothing is asked but that their fields are derived
abbrev pub whole_rule : Context → Node-F Node → Rule
whole_rule c (Module span body shebang) = rule true (row.One 1 (ask.Derived (strictly true c)))
whole_rule c (Script span body shebang) = script_rule c body
whole_rule c (Node-F.Tree kind.ImportNamedSpecifier es) = rule true row.Nothing
whole_rule c (Node-F.Tree kind.ImportDefaultSpecifier es) = rule true row.Nothing
whole_rule c (Node-F.Tree kind.ImportStarAsSpecifier es) = rule true row.Nothing
whole_rule c (Node-F.Tree kind.NamedExport es) = rule true row.Nothing
whole_rule c (Node-F.Tree kind.ExportNamedSpecifier es) = rule true row.Nothing
whole_rule c (Node-F.Tree kind.ExportNamespaceSpecifier es) = rule true row.Nothing
whole_rule c _ = rule true (row.Each (plain c))

abbrev pub for_row : Context → Row
for_row c = row.Four 1 (ask.Fits demand.Any (outside c)) 2 (any c) 3 (any c) 4 (ask.Body (inside c))

abbrev pub for_in_rule : Context → Node → Rule
for_in_rule c left = rule (not (is_using left)) (row.Three 1 (ask.Head c) 2 (any c) 3 (ask.Body (inside c)))

abbrev pub for_of_rule : Context → Node → Node → Rule
for_of_rule c is_await left = rule (holds is_await || not (is_async_name left)) (row.Three 2 (ask.Head c) 3 (assigned (inside c)) 4 (ask.Body (inside c)))

-- loops
abbrev pub loop_rule : Context → Node-F Node → Rule
loop_rule c (While span test body) = rule true (row.Two 1 (any c) 2 (ask.Body (inside c)))
loop_rule c (DoWhile span body test) = rule true (row.Two 1 (ask.Body (inside c)) 2 (any c))
loop_rule c (For span init test update body) = rule true (for_row c)
loop_rule c (ForIn span left right body) = for_in_rule c left
loop_rule c (ForOf span is_await left right body) = for_of_rule c is_await left
loop_rule c y = whole_rule c y

-- an `else` goes to the nearest `if` (14.6)
abbrev pub if_rule : Context → Node → Node → Rule
if_rule c cons alt =
    if is_absent alt then rule true (row.Two 1 (any c) 2 (ask.Branch (inside c)))
    else rule (not (takes_else cons)) (row.Three 1 (any c) 2 (ask.Branch (inside c)) 3 (ask.Branch (inside c)))

-- other statements
abbrev pub statement_rule : Context → Node-F Node → Rule
statement_rule c (Statement span expr) = rule (may_begin_statement (start expr)) (row.One 1 (any c))
statement_rule c (Return span arg) = rule true (row.One 1 (any c))
statement_rule c (Throw span arg) = rule true (row.One 1 (any c))
statement_rule c (With span obj body) = rule true (row.Two 1 (any c) 2 (ask.Body (inside c)))
statement_rule c (Labeled span label body) = rule true (row.One 2 (ask.Branch (inside c)))
statement_rule c (If span test cons alt) = if_rule c cons alt
statement_rule c (Switch span discriminant cases) = rule true (row.Two 1 (any c) 2 (plain c))
statement_rule c (Case span test cons) = rule (no_using cons) (row.Two 1 (any c) 2 (plain c))
statement_rule c y = loop_rule c y

-- declarations
abbrev pub declaration_rule : Context → Node-F Node → Rule
declaration_rule c (Catch span param body) = rule true (row.Two 1 (plain c) 2 (plain c))
declaration_rule c (ExportDecl span decl) = rule true (row.One 1 (plain c))
declaration_rule c (ExportDefault span expr) = rule (may_begin_export (start expr)) (row.One 1 (assigned (inside c)))
declaration_rule c (VarDecl span keyword decls) = rule true (row.One 2 (ask.Derived c))
declaration_rule c (UsingDecl span is_await decls) = rule (are_named true (items_of decls)) (row.One 2 (plain c))
declaration_rule c y = statement_rule c y

-- patterns and declarators
abbrev pub pattern_rule : Context → Node-F Node → Rule
pattern_rule c (Declarator span name init) = rule true (row.Two 1 (ask.Derived c) 2 (assigned c))
pattern_rule c (AssignPat span left right) = rule true (row.Two 1 (ask.Derived c) 2 (assigned c))
pattern_rule c (AssignPatProp span key value) = rule true (row.One 2 (assigned (inside c)))
pattern_rule c (ArrayPat span elems) = rule true (row.One 1 (plain c))
pattern_rule c (ObjectPat span props) = rule true (row.One 1 (plain c))
pattern_rule c (RestPat span arg) = rule true (row.One 1 (ask.Derived c))
pattern_rule c (KeyValuePat name value) = rule true (row.Two 0 (key c) 1 (plain c))
pattern_rule c y = declaration_rule c y

-- what is asked of the parameters and the body of a function
abbrev pub body_row : Context → Node → Row
body_row c body = row.Two 1 (ask.Derived (strictly (is_strict body) c)) 2 (ask.Derived (strictly (is_strict body) c))

abbrev pub getter_row : Context → Node → Row
getter_row c body = row.Two 1 (key c) 2 (ask.Derived (strictly (is_strict body) c))

abbrev pub setter_row : Context → Node → Row
setter_row c body = row.Three 1 (key c) 2 (ask.Derived (strictly (is_strict body) c)) 3 (ask.Derived (strictly (is_strict body) c))

abbrev pub arrow_row : Context → Node → Row
arrow_row c body = row.Two 1 (ask.Derived (strictly (is_strict body) c)) 2 (ask.ArrowBody c)

abbrev pub class_row : Context → Row
class_row c = row.Two 1 (ask.Fits (demand.AtLeast 17) (strictly true c)) 2 (ask.Derived (strictly true c))

-- functions and classes
abbrev pub function_rule : Context → Node-F Node → Rule
function_rule c (Getter span name body) = rule true (getter_row c body)
function_rule c (Setter span name param body) = rule true (setter_row c body)
function_rule c (Arrow span params body is_async) = rule true (arrow_row c body)
function_rule c (Function span params body is_generator is_async) = rule true (body_row c body)
function_rule c (Class span super_class body) = rule true (class_row c)
function_rule c (Constructor span name params body) = rule true (row.Two 2 (plain c) 3 (plain c))
function_rule c (ClassMethod span name function keyword is_static) = rule true (row.Two 1 (key c) 2 (plain c))
function_rule c (PrivateMethod span name function keyword is_static) = rule true (row.One 2 (plain c))
function_rule c y = pattern_rule c y

-- parts of expressions
abbrev pub part_rule : Context → Node-F Node → Rule
part_rule c (Argument spread expr) = rule true (row.One 1 (assigned (inside c)))
part_rule c (Spread dot3_token expr) = rule true (row.One 1 (assigned (inside c)))
part_rule c (KeyValue name value) = rule true (row.Two 0 (key c) 1 (assigned (inside c)))
part_rule c (Method name function) = rule true (row.Two 0 (key c) 1 (plain c))
part_rule c (Computed span expr) = rule true (row.One 1 (any c))
part_rule c (ClassProp span name value is_static) = rule true (row.Two 1 (key c) 2 (assigned (inside c)))
part_rule c (PrivateProp span name value is_static) = rule true (row.One 2 (assigned (inside c)))
part_rule c y = function_rule c y

-- what is asked of what is called, tagged or has its member taken, and of what stands behind it
abbrev pub operand_row : Demand → Context → Row
operand_row d c = row.Two 1 (ask.Fits d c) 2 (plain c)

abbrev pub new_row : Context → Node → Row
new_row c args = operand_row (demand.NewCallee (is_absent args)) c

-- members and calls
abbrev pub call_rule : Context → Node-F Node → Rule
call_rule c (Member span obj prop) = rule true (operand_row demand.Operand c)
call_rule c (SuperProp span obj prop) = rule true (row.One 2 (plain c))
call_rule c (TaggedTpl span tag tpl) = rule true (operand_row demand.Operand c)
call_rule c (Tpl span exprs quasis) = rule true (row.One 1 (ask.Each demand.Any (inside c)))
call_rule c (Call span callee args) = rule true (operand_row demand.Operand c)
call_rule c (New span callee args) = rule true (new_row c args)
call_rule c (OptChain span optional base) = rule true (row.One 2 (ask.Chain c))
call_rule c (OptCall span callee args) = rule true (operand_row demand.Link c)
call_rule c y = part_rule c y

-- two operands; where `in` may not stand, none is the operator
abbrev pub bin_rule : Context → Node → Rule
bin_rule c op =
    rule (c.with_in || not (is_in (word_of op)))
    (row.Two 2 (ask.Left (is_in (word_of op)) (left_demand (word_of op)) c) 3 (ask.Fits (right_demand (word_of op)) c))

abbrev pub cond_row : Context → Row
cond_row c = row.Three 1 (ask.Fits (demand.AtLeast 4) c) 2 (assigned (inside c)) 3 (assigned c)

-- other expressions
abbrev pub rule_for : Context → Node-F Node → Rule
rule_for c (Paren span expr) = rule true (row.One 1 (any c))
rule_for c (Seq span exprs) = rule true (row.One 1 (ask.Each (demand.Each 2) c))
rule_for c (Assign span op left right) = rule true (row.Two 2 (ask.Derived c) 3 (assigned c))
rule_for c (Cond span test cons alt) = rule true (cond_row c)
rule_for c (Bin span op left right) = bin_rule c op
rule_for c (Unary span op arg) = rule true (row.One 2 (ask.Fits (demand.AtLeast 15) c))
rule_for c (Await span arg) = rule true (row.One 1 (ask.Fits (demand.AtLeast 15) c))
rule_for c (Update span op prefix arg) = rule true (row.One 3 (ask.Fits (demand.AtLeast 17) c))
rule_for c (Yield span arg delegate) = rule true (row.One 1 (assigned c))
rule_for c y = call_rule c y

-- of the base of an optional chain
abbrev pub chain_rule : Context → Node-F Node → Rule
chain_rule c (Member span obj prop) = rule true (operand_row demand.Link c)
chain_rule c (OptCall span callee args) = rule true (operand_row demand.Link c)
chain_rule c _ = rule false row.Nothing

abbrev pub rule_of : Bool → Context → Node-F Node → Rule
rule_of in_chain c y = if in_chain then chain_rule c y else rule_for c y
