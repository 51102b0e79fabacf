-- What is asked in each field of a node, and which expressions the reader's table names there.
use Rattle.std.specs.Prelude.{ℕ, Bool, true, false, ◌==◌, Option, if◌then◌else◌}
use Rattle.swc_tree_node.specs.declared.kind.Kind.{Kind}
use Rattle.swc_tree_node.specs.declared.kind.Kind.TheVariants as kind
use Rattle.swc_tree_node.specs.declared.kind.Word.{Word}
use Rattle.swc_tree_node.specs.declared.node.Node.{Node}
use Rattle.swc_tree_node.specs.declared.node.Node.TheOpen.{Node-F}
use Rattle.swc_tree_grammar.specs.Shapes.{Seq, Assign, Cond, Bin, Unary, Await, Update, Yield, Member, TaggedTpl, Call, New, OptCall, Argument, Spread, KeyValue, Method, ClassProp, PrivateProp, ClassMethod, Constructor, Getter, Setter, Arrow, Class, Declarator, AssignPat, AssignPatProp, KeyValuePat, ExportDefault, ForOf}
use Rattle.swc_tree_grammar.specs.Levels.{word_of, is_absent}
use Rattle.swc_base_fixer_demands.specs.declared.demand.Test.{Test}
use Rattle.swc_base_fixer_demands.specs.declared.demand.Test.TheVariants as test
use Rattle.swc_base_fixer_demands.specs.declared.family.Family.{Family}
use Rattle.swc_base_fixer_demands.specs.declared.family.Family.TheVariants as family
use Rattle.swc_base_fixer_due.specs.declared.reader.Naming.TheVariants as naming
use Rattle.swc_base_fixer_due.specs.declared.row.Ask.{Ask}
use Rattle.swc_base_fixer_due.specs.declared.row.Ask.TheVariants as ask
use Rattle.swc_base_fixer_due.specs.declared.row.Row.{Row}
use Rattle.swc_base_fixer_due.specs.declared.row.Row.TheVariants as row
use Rattle.swc_base_fixer_demands.specs.Test.{left_test, right_test, object_test, behind_operator}

-- what is asked in a field
abbrev pub ask_at : Row → ℕ → Ask
ask_at row.Nothing n = ask.Nothing
ask_at (row.One i a) n = if n == i then a else ask.Nothing
ask_at (row.Two i a j b) n = if n == i then a else (if n == j then b else ask.Nothing)
ask_at (row.Three i a j b k c) n = if n == i then a else (if n == j then b else (if n == k then c else ask.Nothing))

abbrev pub single : Test → Ask
single t = ask.Single t naming.Nothing

abbrev pub named : Test → Family → Ask
named t f = ask.Single t (naming.Of f)

abbrev pub sides : Option Word → Row
sides op = row.Two 2 (ask.Single (left_test op) (naming.OddLeft op)) 3 (single (right_test op))

-- an expression of at least a level
abbrev pub tight : ℕ → Ask
tight n = single (test.AtLeast n)

-- what is asked in the fields of a part of a statement, of a list, of a class or of a pattern
abbrev pub part_row : Node-F Node → Row
part_row (Argument spread expr) = row.One 1 (ask.Single (test.AtLeast 2) (naming.YieldIf (is_absent spread)))
part_row (Spread dot3_token expr) = row.One 1 (tight 2)
part_row (PrivateProp span key value is_static) = row.One 2 (tight 2)
part_row (Arrow span params body is_async) = row.One 2 (ask.Single test.Body (naming.AssignmentTo family.Destructuring))
part_row (Class span super_class body) = row.One 1 (tight 17)
part_row (Declarator span name init) = row.One 2 (tight 2)
part_row (AssignPat span left right) = row.One 2 (tight 2)
part_row (AssignPatProp span key value) = row.One 2 (tight 2)
part_row (ExportDefault span expr) = row.One 1 (named (test.AtLeast 2) family.Arrow)
part_row (ForOf span is_await left right body) = row.One 3 (named (test.AtLeast 2) family.Await)
part_row _ = row.Nothing

-- what is asked in the fields of a node that has a key
abbrev pub key_row : Node-F Node → Row
key_row (KeyValue key value) = row.Two 0 ask.Key 1 (tight 2)
key_row (Method key function) = row.One 0 ask.Key
key_row (Getter span key body) = row.One 1 ask.Key
key_row (Setter span key param body) = row.One 1 ask.Key
key_row (Constructor span key params body) = row.One 1 ask.Key
key_row (ClassMethod span key function keyword is_static) = row.One 1 ask.Key
key_row (ClassProp span key value is_static) = row.Two 1 ask.Key 2 (tight 2)
key_row (KeyValuePat key value) = row.One 0 ask.Key
key_row t = part_row t

-- what is asked in the fields of a node; the flag says that the node is the base of an optional chain
abbrev pub row_for : Bool → Node-F Node → Row
row_for in_chain (Seq span exprs) = row.One 1 (ask.Each 2)
row_for in_chain (Assign span op left right) = row.One 3 (tight 2)
row_for in_chain (Cond span test cons alt) = row.Three 1 (tight 4) 2 (tight 2) 3 (tight 2)
row_for in_chain (Bin span op left right) = sides (word_of op)
row_for in_chain (Unary span op arg) = row.One 2 (single behind_operator)
row_for in_chain (Await span arg) = row.One 1 (single behind_operator)
row_for in_chain (Update span op prefix arg) = row.One 3 (tight 17)
row_for in_chain (Yield span arg delegate) = row.One 1 (tight 2)
row_for in_chain (Member span obj prop) = row.One 1 (named (object_test in_chain) family.OddObject)
row_for in_chain (TaggedTpl span tag tpl) = row.One 1 (named test.Operand family.Function)
row_for in_chain (Call span callee args) = row.One 1 (named test.Operand family.OddCallee)
row_for in_chain (OptCall span callee args) = row.One 1 (named test.Link family.OddCallee)
row_for in_chain (New span callee args) = row.One 1 (ask.NewCallee (is_absent args))
row_for in_chain t = key_row t

-- the kinds of which `part_row` asks something
abbrev pub part_asks : Kind → Bool
part_asks kind.ExprOrSpread = true
part_asks kind.SpreadElement = true
part_asks kind.PrivateProp = true
part_asks kind.ArrowExpr = true
part_asks kind.Class = true
part_asks kind.VarDeclarator = true
part_asks kind.AssignPat = true
part_asks kind.AssignPatProp = true
part_asks kind.ExportDefaultExpr = true
part_asks kind.ForOfStmt = true
part_asks _ = false

-- those of which `key_row` does
abbrev pub key_asks : Kind → Bool
key_asks kind.KeyValueProp = true
key_asks kind.MethodProp = true
key_asks kind.GetterProp = true
key_asks kind.SetterProp = true
key_asks kind.Constructor = true
key_asks kind.ClassMethod = true
key_asks kind.ClassProp = true
key_asks kind.KeyValuePatProp = true
key_asks k = part_asks k

-- those of which `row_for` does
abbrev pub asks : Kind → Bool
asks kind.SeqExpr = true
asks kind.AssignExpr = true
asks kind.CondExpr = true
asks kind.BinExpr = true
asks kind.UnaryExpr = true
asks kind.AwaitExpr = true
asks kind.UpdateExpr = true
asks kind.YieldExpr = true
asks kind.MemberExpr = true
asks kind.TaggedTpl = true
asks kind.CallExpr = true
asks kind.OptCall = true
asks kind.NewExpr = true
asks k = key_asks k
