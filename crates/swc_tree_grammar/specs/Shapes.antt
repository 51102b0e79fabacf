-- Names for the shapes of nodes: a node of a kind with its fields in the table's order.
use Rattle.std.specs.Prelude.{List, [], ◌∷◌}
use Rattle.swc_tree_node.specs.declared.kind.Kind.TheVariants as kind
use Rattle.swc_tree_node.specs.declared.node.Node.{Node, out-Node}
use Rattle.swc_tree_node.specs.declared.node.Node.TheOpen.{Node-F}

module _ {X : Type 0} where
  pattern abbrev pub Paren : X → X → Node-F X
  Paren span expr = Node-F.Tree kind.ParenExpr (span ∷ expr ∷ [])

  pattern abbrev pub Seq : X → X → Node-F X
  Seq span exprs = Node-F.Tree kind.SeqExpr (span ∷ exprs ∷ [])

  pattern abbrev pub Unary : X → X → X → Node-F X
  Unary span op arg = Node-F.Tree kind.UnaryExpr (span ∷ op ∷ arg ∷ [])

  pattern abbrev pub Assign : X → X → X → X → Node-F X
  Assign span op left right = Node-F.Tree kind.AssignExpr (span ∷ op ∷ left ∷ right ∷ [])

  pattern abbrev pub Class : X → X → X → Node-F X
  Class span super_class body = Node-F.Tree kind.Class (span ∷ super_class ∷ body ∷ [])

  pattern abbrev pub FnExpr : X → X → Node-F X
  FnExpr ident function = Node-F.Tree kind.FnExpr (ident ∷ function ∷ [])

  pattern abbrev pub ClassExpr : X → X → Node-F X
  ClassExpr ident class = Node-F.Tree kind.ClassExpr (ident ∷ class ∷ [])

  pattern abbrev pub If : X → X → X → X → Node-F X
  If span test cons alt = Node-F.Tree kind.IfStmt (span ∷ test ∷ cons ∷ alt ∷ [])

  pattern abbrev pub Labeled : X → X → X → Node-F X
  Labeled span label body = Node-F.Tree kind.LabeledStmt (span ∷ label ∷ body ∷ [])

  pattern abbrev pub While : X → X → X → Node-F X
  While span test body = Node-F.Tree kind.WhileStmt (span ∷ test ∷ body ∷ [])

  pattern abbrev pub With : X → X → X → Node-F X
  With span obj body = Node-F.Tree kind.WithStmt (span ∷ obj ∷ body ∷ [])

  pattern abbrev pub For : X → X → X → X → X → Node-F X
  For span init test update body = Node-F.Tree kind.ForStmt (span ∷ init ∷ test ∷ update ∷ body ∷ [])

  pattern abbrev pub ForIn : X → X → X → X → Node-F X
  ForIn span left right body = Node-F.Tree kind.ForInStmt (span ∷ left ∷ right ∷ body ∷ [])

  pattern abbrev pub ForOf : X → X → X → X → X → Node-F X
  ForOf span is_await left right body = Node-F.Tree kind.ForOfStmt (span ∷ is_await ∷ left ∷ right ∷ body ∷ [])

  pattern abbrev pub Bin : X → X → X → X → Node-F X
  Bin span op left right = Node-F.Tree kind.BinExpr (span ∷ op ∷ left ∷ right ∷ [])

  pattern abbrev pub Update : X → X → X → X → Node-F X
  Update span op prefix arg = Node-F.Tree kind.UpdateExpr (span ∷ op ∷ prefix ∷ arg ∷ [])

  pattern abbrev pub Await : X → X → Node-F X
  Await span arg = Node-F.Tree kind.AwaitExpr (span ∷ arg ∷ [])

  pattern abbrev pub Yield : X → X → X → Node-F X
  Yield span arg delegate = Node-F.Tree kind.YieldExpr (span ∷ arg ∷ delegate ∷ [])

  pattern abbrev pub Member : X → X → X → Node-F X
  Member span obj prop = Node-F.Tree kind.MemberExpr (span ∷ obj ∷ prop ∷ [])

  pattern abbrev pub Cond : X → X → X → X → Node-F X
  Cond span test cons alt = Node-F.Tree kind.CondExpr (span ∷ test ∷ cons ∷ alt ∷ [])

  pattern abbrev pub Call : X → X → X → Node-F X
  Call span callee args = Node-F.Tree kind.CallExpr (span ∷ callee ∷ args ∷ [])

  pattern abbrev pub New : X → X → X → Node-F X
  New span callee args = Node-F.Tree kind.NewExpr (span ∷ callee ∷ args ∷ [])

  pattern abbrev pub TaggedTpl : X → X → X → Node-F X
  TaggedTpl span tag tpl = Node-F.Tree kind.TaggedTpl (span ∷ tag ∷ tpl ∷ [])

  pattern abbrev pub Tpl : X → X → X → Node-F X
  Tpl span exprs quasis = Node-F.Tree kind.Tpl (span ∷ exprs ∷ quasis ∷ [])

  pattern abbrev pub Arrow : X → X → X → X → Node-F X
  Arrow span params body is_async = Node-F.Tree kind.ArrowExpr (span ∷ params ∷ body ∷ is_async ∷ [])

  pattern abbrev pub OptChain : X → X → X → Node-F X
  OptChain span optional base = Node-F.Tree kind.OptChainExpr (span ∷ optional ∷ base ∷ [])

  pattern abbrev pub OptCall : X → X → X → Node-F X
  OptCall span callee args = Node-F.Tree kind.OptCall (span ∷ callee ∷ args ∷ [])

  pattern abbrev pub Argument : X → X → Node-F X
  Argument spread expr = Node-F.Tree kind.ExprOrSpread (spread ∷ expr ∷ [])

  pattern abbrev pub Spread : X → X → Node-F X
  Spread dot3_token expr = Node-F.Tree kind.SpreadElement (dot3_token ∷ expr ∷ [])

  pattern abbrev pub KeyValue : X → X → Node-F X
  KeyValue key value = Node-F.Tree kind.KeyValueProp (key ∷ value ∷ [])

  pattern abbrev pub Method : X → X → Node-F X
  Method key function = Node-F.Tree kind.MethodProp (key ∷ function ∷ [])

  pattern abbrev pub Computed : X → X → Node-F X
  Computed span expr = Node-F.Tree kind.ComputedPropName (span ∷ expr ∷ [])

  pattern abbrev pub Function : X → X → X → X → X → Node-F X
  Function span params body is_generator is_async = Node-F.Tree kind.Function (span ∷ params ∷ body ∷ is_generator ∷ is_async ∷ [])

  pattern abbrev pub Block : X → X → Node-F X
  Block span stmts = Node-F.Tree kind.BlockStmt (span ∷ stmts ∷ [])

  pattern abbrev pub Statement : X → X → Node-F X
  Statement span expr = Node-F.Tree kind.ExprStmt (span ∷ expr ∷ [])

  pattern abbrev pub Str : X → X → X → Node-F X
  Str span value raw = Node-F.Tree kind.Str (span ∷ value ∷ raw ∷ [])

  pattern abbrev pub VarDecl : X → X → X → Node-F X
  VarDecl span keyword decls = Node-F.Tree kind.VarDecl (span ∷ keyword ∷ decls ∷ [])

  pattern abbrev pub UsingDecl : X → X → X → Node-F X
  UsingDecl span is_await decls = Node-F.Tree kind.UsingDecl (span ∷ is_await ∷ decls ∷ [])

  pattern abbrev pub Declarator : X → X → X → Node-F X
  Declarator span name init = Node-F.Tree kind.VarDeclarator (span ∷ name ∷ init ∷ [])

  pattern abbrev pub FnDecl : X → X → Node-F X
  FnDecl ident function = Node-F.Tree kind.FnDecl (ident ∷ function ∷ [])

  pattern abbrev pub DoWhile : X → X → X → Node-F X
  DoWhile span body test = Node-F.Tree kind.DoWhileStmt (span ∷ body ∷ test ∷ [])

  pattern abbrev pub Module : X → X → X → Node-F X
  Module span body shebang = Node-F.Tree kind.Module (span ∷ body ∷ shebang ∷ [])

  pattern abbrev pub Script : X → X → X → Node-F X
  Script span body shebang = Node-F.Tree kind.Script (span ∷ body ∷ shebang ∷ [])

  pattern abbrev pub SuperProp : X → X → X → Node-F X
  SuperProp span obj prop = Node-F.Tree kind.SuperPropExpr (span ∷ obj ∷ prop ∷ [])

  pattern abbrev pub ClassProp : X → X → X → X → Node-F X
  ClassProp span key value is_static = Node-F.Tree kind.ClassProp (span ∷ key ∷ value ∷ is_static ∷ [])

  pattern abbrev pub PrivateProp : X → X → X → X → Node-F X
  PrivateProp span key value is_static = Node-F.Tree kind.PrivateProp (span ∷ key ∷ value ∷ is_static ∷ [])

  pattern abbrev pub ClassMethod : X → X → X → X → X → Node-F X
  ClassMethod span key function keyword is_static = Node-F.Tree kind.ClassMethod (span ∷ key ∷ function ∷ keyword ∷ is_static ∷ [])

  pattern abbrev pub PrivateMethod : X → X → X → X → X → Node-F X
  PrivateMethod span key function keyword is_static = Node-F.Tree kind.PrivateMethod (span ∷ key ∷ function ∷ keyword ∷ is_static ∷ [])

  pattern abbrev pub Constructor : X → X → X → X → Node-F X
  Constructor span key params body = Node-F.Tree kind.Constructor (span ∷ key ∷ params ∷ body ∷ [])

  pattern abbrev pub Getter : X → X → X → Node-F X
  Getter span key body = Node-F.Tree kind.GetterProp (span ∷ key ∷ body ∷ [])

  pattern abbrev pub Setter : X → X → X → X → Node-F X
  Setter span key param body = Node-F.Tree kind.SetterProp (span ∷ key ∷ param ∷ body ∷ [])

  pattern abbrev pub AssignPat : X → X → X → Node-F X
  AssignPat span left right = Node-F.Tree kind.AssignPat (span ∷ left ∷ right ∷ [])

  pattern abbrev pub AssignPatProp : X → X → X → Node-F X
  AssignPatProp span key value = Node-F.Tree kind.AssignPatProp (span ∷ key ∷ value ∷ [])

  pattern abbrev pub KeyValuePat : X → X → Node-F X
  KeyValuePat key value = Node-F.Tree kind.KeyValuePatProp (key ∷ value ∷ [])

  pattern abbrev pub ArrayPat : X → X → Node-F X
  ArrayPat span elems = Node-F.Tree kind.ArrayPat (span ∷ elems ∷ [])

  pattern abbrev pub ObjectPat : X → X → Node-F X
  ObjectPat span props = Node-F.Tree kind.ObjectPat (span ∷ props ∷ [])

  pattern abbrev pub RestPat : X → X → Node-F X
  RestPat span arg = Node-F.Tree kind.RestPat (span ∷ arg ∷ [])

  pattern abbrev pub Catch : X → X → X → Node-F X
  Catch span param body = Node-F.Tree kind.CatchClause (span ∷ param ∷ body ∷ [])

  pattern abbrev pub ExportDecl : X → X → Node-F X
  ExportDecl span decl = Node-F.Tree kind.ExportDecl (span ∷ decl ∷ [])

  pattern abbrev pub ExportDefault : X → X → Node-F X
  ExportDefault span expr = Node-F.Tree kind.ExportDefaultExpr (span ∷ expr ∷ [])

  pattern abbrev pub Return : X → X → Node-F X
  Return span arg = Node-F.Tree kind.ReturnStmt (span ∷ arg ∷ [])

  pattern abbrev pub Throw : X → X → Node-F X
  Throw span arg = Node-F.Tree kind.ThrowStmt (span ∷ arg ∷ [])

  pattern abbrev pub Switch : X → X → X → Node-F X
  Switch span discriminant cases = Node-F.Tree kind.SwitchStmt (span ∷ discriminant ∷ cases ∷ [])

  pattern abbrev pub Case : X → X → X → Node-F X
  Case span test cons = Node-F.Tree kind.SwitchCase (span ∷ test ∷ cons ∷ [])

-- what stands directly below a node: the fields of a tree, the items of a list
abbrev pub children_in : {X : Type 0} → Node-F X → List X
children_in (Node-F.List ts) = ts
children_in (Node-F.Tree k ts) = ts
children_in _ = []

-- the items of a list; no other node has any
abbrev pub items_in : {X : Type 0} → Node-F X → List X
items_in (Node-F.List ts) = ts
items_in _ = []

abbrev pub items_of : Node → List Node
items_of t = items_in (out-Node t)
