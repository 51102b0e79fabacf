-- The table: what each kind of node is called and holds.
--
-- Printed by tools/print_table.py from tools/tree.txt.
use Rattle.std.specs.Prelude.{ℕ, List, [], ◌∷◌, codes, Bool, true, false, map}
use Rattle.swc_tree_node.specs.declared.kind.Kind.{Kind}
use Rattle.swc_tree_node.specs.declared.kind.Kind.TheVariants as kind
use Rattle.swc_tree_node.specs.declared.kind.Class.{Class}
use Rattle.swc_tree_node.specs.declared.kind.Class.TheVariants as class
use Rattle.swc_tree_node.specs.declared.kind.Word.{Word}
use Rattle.swc_tree_node.specs.declared.kind.Word.TheVariants as word
use Rattle.swc_tree_node.specs.declared.kind.WordClass.{WordClass}
use Rattle.swc_tree_node.specs.declared.kind.WordClass.TheVariants as word_class
use Rattle.swc_tree_node.specs.declared.slot.Content.TheVariants as content
use Rattle.swc_tree_node.specs.declared.slot.Slot.{Slot}
use Rattle.swc_tree_node.specs.declared.slot.Slot.TheVariants as slot
use Rattle.swc_tree_node.specs.declared.slot.Role.{Role}
use Rattle.swc_tree_node.specs.declared.slot.Role.TheVariants as role

-- the name of the struct, as it stands in JSON
abbrev pub name_of : Kind → List ℕ
name_of kind.Module = codes "Module"
name_of kind.Script = codes "Script"
name_of kind.ImportDecl = codes "ImportDecl"
name_of kind.ImportNamedSpecifier = codes "ImportNamedSpecifier"
name_of kind.ImportDefaultSpecifier = codes "ImportDefaultSpecifier"
name_of kind.ImportStarAsSpecifier = codes "ImportStarAsSpecifier"
name_of kind.ExportDecl = codes "ExportDecl"
name_of kind.NamedExport = codes "NamedExport"
name_of kind.ExportNamespaceSpecifier = codes "ExportNamespaceSpecifier"
name_of kind.ExportNamedSpecifier = codes "ExportNamedSpecifier"
name_of kind.ExportDefaultDecl = codes "ExportDefaultDecl"
name_of kind.ExportDefaultExpr = codes "ExportDefaultExpr"
name_of kind.ExportAll = codes "ExportAll"
name_of kind.Ident = codes "Ident"
name_of kind.BindingIdent = codes "BindingIdent"
name_of kind.IdentName = codes "IdentName"
name_of kind.PrivateName = codes "PrivateName"
name_of kind.Str = codes "Str"
name_of kind.Bool = codes "Bool"
name_of kind.Null = codes "Null"
name_of kind.Number = codes "Number"
name_of kind.BigInt = codes "BigInt"
name_of kind.Regex = codes "Regex"
name_of kind.TplElement = codes "TplElement"
name_of kind.ThisExpr = codes "ThisExpr"
name_of kind.Super = codes "Super"
name_of kind.Import = codes "Import"
name_of kind.MetaPropExpr = codes "MetaPropExpr"
name_of kind.EmptyStmt = codes "EmptyStmt"
name_of kind.DebuggerStmt = codes "DebuggerStmt"
name_of kind.BreakStmt = codes "BreakStmt"
name_of kind.ContinueStmt = codes "ContinueStmt"
name_of kind.Function = codes "Function"
name_of kind.Param = codes "Param"
name_of kind.FnExpr = codes "FnExpr"
name_of kind.ArrowExpr = codes "ArrowExpr"
name_of kind.Class = codes "Class"
name_of kind.ClassExpr = codes "ClassExpr"
name_of kind.Constructor = codes "Constructor"
name_of kind.ClassMethod = codes "ClassMethod"
name_of kind.PrivateMethod = codes "PrivateMethod"
name_of kind.ClassProp = codes "ClassProp"
name_of kind.PrivateProp = codes "PrivateProp"
name_of kind.StaticBlock = codes "StaticBlock"
name_of kind.ComputedPropName = codes "ComputedPropName"
name_of kind.MethodProp = codes "MethodProp"
name_of kind.GetterProp = codes "GetterProp"
name_of kind.SetterProp = codes "SetterProp"
name_of kind.ArrayPat = codes "ArrayPat"
name_of kind.RestPat = codes "RestPat"
name_of kind.ObjectPat = codes "ObjectPat"
name_of kind.AssignPat = codes "AssignPat"
name_of kind.KeyValuePatProp = codes "KeyValuePatProp"
name_of kind.AssignPatProp = codes "AssignPatProp"
name_of kind.ArrayLit = codes "ArrayLit"
name_of kind.ExprOrSpread = codes "ExprOrSpread"
name_of kind.ObjectLit = codes "ObjectLit"
name_of kind.SpreadElement = codes "SpreadElement"
name_of kind.KeyValueProp = codes "KeyValueProp"
name_of kind.UnaryExpr = codes "UnaryExpr"
name_of kind.UpdateExpr = codes "UpdateExpr"
name_of kind.BinExpr = codes "BinExpr"
name_of kind.AssignExpr = codes "AssignExpr"
name_of kind.MemberExpr = codes "MemberExpr"
name_of kind.SuperPropExpr = codes "SuperPropExpr"
name_of kind.CondExpr = codes "CondExpr"
name_of kind.CallExpr = codes "CallExpr"
name_of kind.NewExpr = codes "NewExpr"
name_of kind.SeqExpr = codes "SeqExpr"
name_of kind.ParenExpr = codes "ParenExpr"
name_of kind.AwaitExpr = codes "AwaitExpr"
name_of kind.YieldExpr = codes "YieldExpr"
name_of kind.Tpl = codes "Tpl"
name_of kind.TaggedTpl = codes "TaggedTpl"
name_of kind.OptChainExpr = codes "OptChainExpr"
name_of kind.OptCall = codes "OptCall"
name_of kind.ClassDecl = codes "ClassDecl"
name_of kind.FnDecl = codes "FnDecl"
name_of kind.VarDecl = codes "VarDecl"
name_of kind.UsingDecl = codes "UsingDecl"
name_of kind.VarDeclarator = codes "VarDeclarator"
name_of kind.BlockStmt = codes "BlockStmt"
name_of kind.ExprStmt = codes "ExprStmt"
name_of kind.WithStmt = codes "WithStmt"
name_of kind.ReturnStmt = codes "ReturnStmt"
name_of kind.ThrowStmt = codes "ThrowStmt"
name_of kind.LabeledStmt = codes "LabeledStmt"
name_of kind.IfStmt = codes "IfStmt"
name_of kind.SwitchStmt = codes "SwitchStmt"
name_of kind.SwitchCase = codes "SwitchCase"
name_of kind.TryStmt = codes "TryStmt"
name_of kind.CatchClause = codes "CatchClause"
name_of kind.WhileStmt = codes "WhileStmt"
name_of kind.DoWhileStmt = codes "DoWhileStmt"
name_of kind.ForStmt = codes "ForStmt"
name_of kind.ForInStmt = codes "ForInStmt"
name_of kind.ForOfStmt = codes "ForOfStmt"
name_of kind.TsInterfaceDecl = codes "TsInterfaceDecl"
name_of kind.TsTypeAliasDecl = codes "TsTypeAliasDecl"
name_of kind.TsTypeParam = codes "TsTypeParam"
name_of kind.TsEnumDecl = codes "TsEnumDecl"
name_of kind.TsEnumMember = codes "TsEnumMember"
name_of kind.TsModuleDecl = codes "TsModuleDecl"
name_of kind.TsKeywordType = codes "TsKeywordType"
name_of kind.TsTypeRef = codes "TsTypeRef"
name_of kind.TsArrayType = codes "TsArrayType"
name_of kind.TsUnionType = codes "TsUnionType"
name_of kind.TsTypeLit = codes "TsTypeLit"
name_of kind.TsPropertySignature = codes "TsPropertySignature"
name_of kind.TsQualifiedName = codes "TsQualifiedName"

-- the kinds that may stand in a place of a class
abbrev pub kinds_of : Class → List Kind
kinds_of class.Module = kind.Module ∷ []
kinds_of class.Script = kind.Script ∷ []
kinds_of class.ImportDecl = kind.ImportDecl ∷ []
kinds_of class.ImportNamedSpecifier = kind.ImportNamedSpecifier ∷ []
kinds_of class.ImportDefaultSpecifier = kind.ImportDefaultSpecifier ∷ []
kinds_of class.ImportStarAsSpecifier = kind.ImportStarAsSpecifier ∷ []
kinds_of class.ExportDecl = kind.ExportDecl ∷ []
kinds_of class.NamedExport = kind.NamedExport ∷ []
kinds_of class.ExportNamespaceSpecifier = kind.ExportNamespaceSpecifier ∷ []
kinds_of class.ExportNamedSpecifier = kind.ExportNamedSpecifier ∷ []
kinds_of class.ExportDefaultDecl = kind.ExportDefaultDecl ∷ []
kinds_of class.ExportDefaultExpr = kind.ExportDefaultExpr ∷ []
kinds_of class.ExportAll = kind.ExportAll ∷ []
kinds_of class.Ident = kind.Ident ∷ []
kinds_of class.BindingIdent = kind.BindingIdent ∷ []
kinds_of class.IdentName = kind.IdentName ∷ []
kinds_of class.PrivateName = kind.PrivateName ∷ []
kinds_of class.Str = kind.Str ∷ []
kinds_of class.Bool = kind.Bool ∷ []
kinds_of class.Null = kind.Null ∷ []
kinds_of class.Number = kind.Number ∷ []
kinds_of class.BigInt = kind.BigInt ∷ []
kinds_of class.Regex = kind.Regex ∷ []
kinds_of class.TplElement = kind.TplElement ∷ []
kinds_of class.ThisExpr = kind.ThisExpr ∷ []
kinds_of class.Super = kind.Super ∷ []
kinds_of class.Import = kind.Import ∷ []
kinds_of class.MetaPropExpr = kind.MetaPropExpr ∷ []
kinds_of class.EmptyStmt = kind.EmptyStmt ∷ []
kinds_of class.DebuggerStmt = kind.DebuggerStmt ∷ []
kinds_of class.BreakStmt = kind.BreakStmt ∷ []
kinds_of class.ContinueStmt = kind.ContinueStmt ∷ []
kinds_of class.Function = kind.Function ∷ []
kinds_of class.Param = kind.Param ∷ []
kinds_of class.FnExpr = kind.FnExpr ∷ []
kinds_of class.ArrowExpr = kind.ArrowExpr ∷ []
kinds_of class.Class = kind.Class ∷ []
kinds_of class.ClassExpr = kind.ClassExpr ∷ []
kinds_of class.Constructor = kind.Constructor ∷ []
kinds_of class.ClassMethod = kind.ClassMethod ∷ []
kinds_of class.PrivateMethod = kind.PrivateMethod ∷ []
kinds_of class.ClassProp = kind.ClassProp ∷ []
kinds_of class.PrivateProp = kind.PrivateProp ∷ []
kinds_of class.StaticBlock = kind.StaticBlock ∷ []
kinds_of class.ComputedPropName = kind.ComputedPropName ∷ []
kinds_of class.MethodProp = kind.MethodProp ∷ []
kinds_of class.GetterProp = kind.GetterProp ∷ []
kinds_of class.SetterProp = kind.SetterProp ∷ []
kinds_of class.ArrayPat = kind.ArrayPat ∷ []
kinds_of class.RestPat = kind.RestPat ∷ []
kinds_of class.ObjectPat = kind.ObjectPat ∷ []
kinds_of class.AssignPat = kind.AssignPat ∷ []
kinds_of class.KeyValuePatProp = kind.KeyValuePatProp ∷ []
kinds_of class.AssignPatProp = kind.AssignPatProp ∷ []
kinds_of class.ArrayLit = kind.ArrayLit ∷ []
kinds_of class.ExprOrSpread = kind.ExprOrSpread ∷ []
kinds_of class.ObjectLit = kind.ObjectLit ∷ []
kinds_of class.SpreadElement = kind.SpreadElement ∷ []
kinds_of class.KeyValueProp = kind.KeyValueProp ∷ []
kinds_of class.UnaryExpr = kind.UnaryExpr ∷ []
kinds_of class.UpdateExpr = kind.UpdateExpr ∷ []
kinds_of class.BinExpr = kind.BinExpr ∷ []
kinds_of class.AssignExpr = kind.AssignExpr ∷ []
kinds_of class.MemberExpr = kind.MemberExpr ∷ []
kinds_of class.SuperPropExpr = kind.SuperPropExpr ∷ []
kinds_of class.CondExpr = kind.CondExpr ∷ []
kinds_of class.CallExpr = kind.CallExpr ∷ []
kinds_of class.NewExpr = kind.NewExpr ∷ []
kinds_of class.SeqExpr = kind.SeqExpr ∷ []
kinds_of class.ParenExpr = kind.ParenExpr ∷ []
kinds_of class.AwaitExpr = kind.AwaitExpr ∷ []
kinds_of class.YieldExpr = kind.YieldExpr ∷ []
kinds_of class.Tpl = kind.Tpl ∷ []
kinds_of class.TaggedTpl = kind.TaggedTpl ∷ []
kinds_of class.OptChainExpr = kind.OptChainExpr ∷ []
kinds_of class.OptCall = kind.OptCall ∷ []
kinds_of class.ClassDecl = kind.ClassDecl ∷ []
kinds_of class.FnDecl = kind.FnDecl ∷ []
kinds_of class.VarDecl = kind.VarDecl ∷ []
kinds_of class.UsingDecl = kind.UsingDecl ∷ []
kinds_of class.VarDeclarator = kind.VarDeclarator ∷ []
kinds_of class.BlockStmt = kind.BlockStmt ∷ []
kinds_of class.ExprStmt = kind.ExprStmt ∷ []
kinds_of class.WithStmt = kind.WithStmt ∷ []
kinds_of class.ReturnStmt = kind.ReturnStmt ∷ []
kinds_of class.ThrowStmt = kind.ThrowStmt ∷ []
kinds_of class.LabeledStmt = kind.LabeledStmt ∷ []
kinds_of class.IfStmt = kind.IfStmt ∷ []
kinds_of class.SwitchStmt = kind.SwitchStmt ∷ []
kinds_of class.SwitchCase = kind.SwitchCase ∷ []
kinds_of class.TryStmt = kind.TryStmt ∷ []
kinds_of class.CatchClause = kind.CatchClause ∷ []
kinds_of class.WhileStmt = kind.WhileStmt ∷ []
kinds_of class.DoWhileStmt = kind.DoWhileStmt ∷ []
kinds_of class.ForStmt = kind.ForStmt ∷ []
kinds_of class.ForInStmt = kind.ForInStmt ∷ []
kinds_of class.ForOfStmt = kind.ForOfStmt ∷ []
kinds_of class.TsInterfaceDecl = kind.TsInterfaceDecl ∷ []
kinds_of class.TsTypeAliasDecl = kind.TsTypeAliasDecl ∷ []
kinds_of class.TsTypeParam = kind.TsTypeParam ∷ []
kinds_of class.TsEnumDecl = kind.TsEnumDecl ∷ []
kinds_of class.TsEnumMember = kind.TsEnumMember ∷ []
kinds_of class.TsModuleDecl = kind.TsModuleDecl ∷ []
kinds_of class.TsKeywordType = kind.TsKeywordType ∷ []
kinds_of class.TsTypeRef = kind.TsTypeRef ∷ []
kinds_of class.TsArrayType = kind.TsArrayType ∷ []
kinds_of class.TsUnionType = kind.TsUnionType ∷ []
kinds_of class.TsTypeLit = kind.TsTypeLit ∷ []
kinds_of class.TsPropertySignature = kind.TsPropertySignature ∷ []
kinds_of class.TsQualifiedName = kind.TsQualifiedName ∷ []
kinds_of class.ModuleItem = kind.ImportDecl ∷ kind.ExportDecl ∷ kind.NamedExport ∷ kind.ExportDefaultDecl ∷ kind.ExportDefaultExpr ∷ kind.ExportAll ∷ kind.BlockStmt ∷ kind.EmptyStmt ∷ kind.DebuggerStmt ∷ kind.WithStmt ∷ kind.ReturnStmt ∷ kind.LabeledStmt ∷ kind.BreakStmt ∷ kind.ContinueStmt ∷ kind.IfStmt ∷ kind.SwitchStmt ∷ kind.ThrowStmt ∷ kind.TryStmt ∷ kind.WhileStmt ∷ kind.DoWhileStmt ∷ kind.ForStmt ∷ kind.ForInStmt ∷ kind.ForOfStmt ∷ kind.ClassDecl ∷ kind.FnDecl ∷ kind.VarDecl ∷ kind.UsingDecl ∷ kind.TsInterfaceDecl ∷ kind.TsTypeAliasDecl ∷ kind.TsEnumDecl ∷ kind.TsModuleDecl ∷ kind.ExprStmt ∷ []
kinds_of class.ModuleDecl = kind.ImportDecl ∷ kind.ExportDecl ∷ kind.NamedExport ∷ kind.ExportDefaultDecl ∷ kind.ExportDefaultExpr ∷ kind.ExportAll ∷ []
kinds_of class.ImportSpecifier = kind.ImportNamedSpecifier ∷ kind.ImportDefaultSpecifier ∷ kind.ImportStarAsSpecifier ∷ []
kinds_of class.ExportSpecifier = kind.ExportNamespaceSpecifier ∷ kind.ExportNamedSpecifier ∷ []
kinds_of class.DefaultDecl = kind.ClassExpr ∷ kind.FnExpr ∷ []
kinds_of class.ModuleExportName = kind.Ident ∷ kind.Str ∷ []
kinds_of class.Lit = kind.Str ∷ kind.Bool ∷ kind.Null ∷ kind.Number ∷ kind.BigInt ∷ kind.Regex ∷ []
kinds_of class.ClassMember = kind.Constructor ∷ kind.ClassMethod ∷ kind.PrivateMethod ∷ kind.ClassProp ∷ kind.PrivateProp ∷ kind.EmptyStmt ∷ kind.StaticBlock ∷ []
kinds_of class.PropName = kind.IdentName ∷ kind.Str ∷ kind.Number ∷ kind.ComputedPropName ∷ kind.BigInt ∷ []
kinds_of class.Pat = kind.BindingIdent ∷ kind.ArrayPat ∷ kind.RestPat ∷ kind.ObjectPat ∷ kind.AssignPat ∷ kind.ThisExpr ∷ kind.ArrayLit ∷ kind.ObjectLit ∷ kind.FnExpr ∷ kind.UnaryExpr ∷ kind.UpdateExpr ∷ kind.BinExpr ∷ kind.AssignExpr ∷ kind.MemberExpr ∷ kind.SuperPropExpr ∷ kind.CondExpr ∷ kind.CallExpr ∷ kind.NewExpr ∷ kind.SeqExpr ∷ kind.Ident ∷ kind.Str ∷ kind.Bool ∷ kind.Null ∷ kind.Number ∷ kind.BigInt ∷ kind.Regex ∷ kind.Tpl ∷ kind.TaggedTpl ∷ kind.ArrowExpr ∷ kind.ClassExpr ∷ kind.YieldExpr ∷ kind.MetaPropExpr ∷ kind.AwaitExpr ∷ kind.ParenExpr ∷ kind.PrivateName ∷ kind.OptChainExpr ∷ []
kinds_of class.ObjectPatProp = kind.KeyValuePatProp ∷ kind.AssignPatProp ∷ kind.RestPat ∷ []
kinds_of class.AssignTarget = kind.BindingIdent ∷ kind.MemberExpr ∷ kind.SuperPropExpr ∷ kind.ParenExpr ∷ kind.ArrayPat ∷ kind.ObjectPat ∷ []
kinds_of class.SimpleAssignTarget = kind.BindingIdent ∷ kind.MemberExpr ∷ kind.SuperPropExpr ∷ kind.ParenExpr ∷ []
kinds_of class.AssignTargetPat = kind.ArrayPat ∷ kind.ObjectPat ∷ []
kinds_of class.Expr = kind.ThisExpr ∷ kind.ArrayLit ∷ kind.ObjectLit ∷ kind.FnExpr ∷ kind.UnaryExpr ∷ kind.UpdateExpr ∷ kind.BinExpr ∷ kind.AssignExpr ∷ kind.MemberExpr ∷ kind.SuperPropExpr ∷ kind.CondExpr ∷ kind.CallExpr ∷ kind.NewExpr ∷ kind.SeqExpr ∷ kind.Ident ∷ kind.Str ∷ kind.Bool ∷ kind.Null ∷ kind.Number ∷ kind.BigInt ∷ kind.Regex ∷ kind.Tpl ∷ kind.TaggedTpl ∷ kind.ArrowExpr ∷ kind.ClassExpr ∷ kind.YieldExpr ∷ kind.MetaPropExpr ∷ kind.AwaitExpr ∷ kind.ParenExpr ∷ kind.PrivateName ∷ kind.OptChainExpr ∷ []
kinds_of class.PropOrSpread = kind.SpreadElement ∷ kind.Ident ∷ kind.KeyValueProp ∷ kind.GetterProp ∷ kind.SetterProp ∷ kind.MethodProp ∷ []
kinds_of class.Prop = kind.Ident ∷ kind.KeyValueProp ∷ kind.GetterProp ∷ kind.SetterProp ∷ kind.MethodProp ∷ []
kinds_of class.MemberProp = kind.IdentName ∷ kind.PrivateName ∷ kind.ComputedPropName ∷ []
kinds_of class.SuperProp = kind.IdentName ∷ kind.ComputedPropName ∷ []
kinds_of class.Callee = kind.Super ∷ kind.Import ∷ kind.ThisExpr ∷ kind.ArrayLit ∷ kind.ObjectLit ∷ kind.FnExpr ∷ kind.UnaryExpr ∷ kind.UpdateExpr ∷ kind.BinExpr ∷ kind.AssignExpr ∷ kind.MemberExpr ∷ kind.SuperPropExpr ∷ kind.CondExpr ∷ kind.CallExpr ∷ kind.NewExpr ∷ kind.SeqExpr ∷ kind.Ident ∷ kind.Str ∷ kind.Bool ∷ kind.Null ∷ kind.Number ∷ kind.BigInt ∷ kind.Regex ∷ kind.Tpl ∷ kind.TaggedTpl ∷ kind.ArrowExpr ∷ kind.ClassExpr ∷ kind.YieldExpr ∷ kind.MetaPropExpr ∷ kind.AwaitExpr ∷ kind.ParenExpr ∷ kind.PrivateName ∷ kind.OptChainExpr ∷ []
kinds_of class.OptChainBase = kind.MemberExpr ∷ kind.OptCall ∷ []
kinds_of class.Stmt = kind.BlockStmt ∷ kind.EmptyStmt ∷ kind.DebuggerStmt ∷ kind.WithStmt ∷ kind.ReturnStmt ∷ kind.LabeledStmt ∷ kind.BreakStmt ∷ kind.ContinueStmt ∷ kind.IfStmt ∷ kind.SwitchStmt ∷ kind.ThrowStmt ∷ kind.TryStmt ∷ kind.WhileStmt ∷ kind.DoWhileStmt ∷ kind.ForStmt ∷ kind.ForInStmt ∷ kind.ForOfStmt ∷ kind.ClassDecl ∷ kind.FnDecl ∷ kind.VarDecl ∷ kind.UsingDecl ∷ kind.TsInterfaceDecl ∷ kind.TsTypeAliasDecl ∷ kind.TsEnumDecl ∷ kind.TsModuleDecl ∷ kind.ExprStmt ∷ []
kinds_of class.Decl = kind.ClassDecl ∷ kind.FnDecl ∷ kind.VarDecl ∷ kind.UsingDecl ∷ kind.TsInterfaceDecl ∷ kind.TsTypeAliasDecl ∷ kind.TsEnumDecl ∷ kind.TsModuleDecl ∷ []
kinds_of class.BlockStmtOrExpr = kind.BlockStmt ∷ kind.ThisExpr ∷ kind.ArrayLit ∷ kind.ObjectLit ∷ kind.FnExpr ∷ kind.UnaryExpr ∷ kind.UpdateExpr ∷ kind.BinExpr ∷ kind.AssignExpr ∷ kind.MemberExpr ∷ kind.SuperPropExpr ∷ kind.CondExpr ∷ kind.CallExpr ∷ kind.NewExpr ∷ kind.SeqExpr ∷ kind.Ident ∷ kind.Str ∷ kind.Bool ∷ kind.Null ∷ kind.Number ∷ kind.BigInt ∷ kind.Regex ∷ kind.Tpl ∷ kind.TaggedTpl ∷ kind.ArrowExpr ∷ kind.ClassExpr ∷ kind.YieldExpr ∷ kind.MetaPropExpr ∷ kind.AwaitExpr ∷ kind.ParenExpr ∷ kind.PrivateName ∷ kind.OptChainExpr ∷ []
kinds_of class.VarDeclOrExpr = kind.VarDecl ∷ kind.ThisExpr ∷ kind.ArrayLit ∷ kind.ObjectLit ∷ kind.FnExpr ∷ kind.UnaryExpr ∷ kind.UpdateExpr ∷ kind.BinExpr ∷ kind.AssignExpr ∷ kind.MemberExpr ∷ kind.SuperPropExpr ∷ kind.CondExpr ∷ kind.CallExpr ∷ kind.NewExpr ∷ kind.SeqExpr ∷ kind.Ident ∷ kind.Str ∷ kind.Bool ∷ kind.Null ∷ kind.Number ∷ kind.BigInt ∷ kind.Regex ∷ kind.Tpl ∷ kind.TaggedTpl ∷ kind.ArrowExpr ∷ kind.ClassExpr ∷ kind.YieldExpr ∷ kind.MetaPropExpr ∷ kind.AwaitExpr ∷ kind.ParenExpr ∷ kind.PrivateName ∷ kind.OptChainExpr ∷ []
kinds_of class.ForHead = kind.VarDecl ∷ kind.UsingDecl ∷ kind.BindingIdent ∷ kind.ArrayPat ∷ kind.RestPat ∷ kind.ObjectPat ∷ kind.AssignPat ∷ kind.ThisExpr ∷ kind.ArrayLit ∷ kind.ObjectLit ∷ kind.FnExpr ∷ kind.UnaryExpr ∷ kind.UpdateExpr ∷ kind.BinExpr ∷ kind.AssignExpr ∷ kind.MemberExpr ∷ kind.SuperPropExpr ∷ kind.CondExpr ∷ kind.CallExpr ∷ kind.NewExpr ∷ kind.SeqExpr ∷ kind.Ident ∷ kind.Str ∷ kind.Bool ∷ kind.Null ∷ kind.Number ∷ kind.BigInt ∷ kind.Regex ∷ kind.Tpl ∷ kind.TaggedTpl ∷ kind.ArrowExpr ∷ kind.ClassExpr ∷ kind.YieldExpr ∷ kind.MetaPropExpr ∷ kind.AwaitExpr ∷ kind.ParenExpr ∷ kind.PrivateName ∷ kind.OptChainExpr ∷ []
kinds_of class.TsEnumMemberId = kind.IdentName ∷ kind.Str ∷ []
kinds_of class.TsType = kind.TsKeywordType ∷ kind.TsTypeRef ∷ kind.TsArrayType ∷ kind.TsUnionType ∷ kind.TsTypeLit ∷ []
kinds_of class.TsEntityName = kind.Ident ∷ kind.TsQualifiedName ∷ []

-- the fields of a kind, in the order in which they are read: key, what stands there, role of an identifier there
abbrev pub fields_of : Kind → List (List ℕ × Slot × Role)
fields_of kind.Module = (codes "span", slot.One content.Span, role.Plain) ∷ (codes "body", slot.List (content.Node class.ModuleItem), role.Plain) ∷ (codes "shebang", slot.Optional content.Text, role.Plain) ∷ []
fields_of kind.Script = (codes "span", slot.One content.Span, role.Plain) ∷ (codes "body", slot.List (content.Node class.Stmt), role.Plain) ∷ (codes "shebang", slot.Optional content.Text, role.Plain) ∷ []
fields_of kind.ImportDecl = (codes "span", slot.One content.Span, role.Plain) ∷ (codes "specifiers", slot.List (content.Node class.ImportSpecifier), role.Plain) ∷ (codes "src", slot.One (content.Node class.Str), role.Plain) ∷ (codes "with", slot.Pairs, role.Plain) ∷ []
fields_of kind.ImportNamedSpecifier = (codes "span", slot.One content.Span, role.Plain) ∷ (codes "local", slot.One (content.Node class.Ident), role.Import) ∷ (codes "imported", slot.Optional (content.Node class.ModuleExportName), role.Imported) ∷ []
fields_of kind.ImportDefaultSpecifier = (codes "span", slot.One content.Span, role.Plain) ∷ (codes "local", slot.One (content.Node class.Ident), role.Import) ∷ []
fields_of kind.ImportStarAsSpecifier = (codes "span", slot.One content.Span, role.Plain) ∷ (codes "local", slot.One (content.Node class.Ident), role.Import) ∷ []
fields_of kind.ExportDecl = (codes "span", slot.One content.Span, role.Plain) ∷ (codes "decl", slot.One (content.Node class.Decl), role.Plain) ∷ []
fields_of kind.NamedExport = (codes "span", slot.One content.Span, role.Plain) ∷ (codes "specifiers", slot.List (content.Node class.ExportSpecifier), role.ExportLocal) ∷ (codes "src", slot.Optional (content.Node class.Str), role.Plain) ∷ (codes "with", slot.Pairs, role.Plain) ∷ []
fields_of kind.ExportNamespaceSpecifier = (codes "span", slot.One content.Span, role.Plain) ∷ (codes "name", slot.One (content.Node class.ModuleExportName), role.Exported) ∷ []
fields_of kind.ExportNamedSpecifier = (codes "span", slot.One content.Span, role.Plain) ∷ (codes "orig", slot.One (content.Node class.ModuleExportName), role.Inherited) ∷ (codes "exported", slot.Optional (content.Node class.ModuleExportName), role.Exported) ∷ []
fields_of kind.ExportDefaultDecl = (codes "span", slot.One content.Span, role.Plain) ∷ (codes "decl", slot.One (content.Node class.DefaultDecl), role.Plain) ∷ []
fields_of kind.ExportDefaultExpr = (codes "span", slot.One content.Span, role.Plain) ∷ (codes "expr", slot.One (content.Node class.Expr), role.Reference) ∷ []
fields_of kind.ExportAll = (codes "span", slot.One content.Span, role.Plain) ∷ (codes "src", slot.One (content.Node class.Str), role.Plain) ∷ (codes "with", slot.Pairs, role.Plain) ∷ []
fields_of kind.Ident = []
fields_of kind.BindingIdent = []
fields_of kind.IdentName = (codes "span", slot.One content.Span, role.Plain) ∷ (codes "sym", slot.One content.Text, role.Plain) ∷ []
fields_of kind.PrivateName = (codes "span", slot.One content.Span, role.Plain) ∷ (codes "name", slot.One content.Text, role.Plain) ∷ []
fields_of kind.Str = (codes "span", slot.One content.Span, role.Plain) ∷ (codes "value", slot.One content.Text, role.Plain) ∷ (codes "raw", slot.Optional content.Text, role.Plain) ∷ []
fields_of kind.Bool = (codes "span", slot.One content.Span, role.Plain) ∷ (codes "value", slot.One content.Flag, role.Plain) ∷ []
fields_of kind.Null = (codes "span", slot.One content.Span, role.Plain) ∷ []
fields_of kind.Number = (codes "span", slot.One content.Span, role.Plain) ∷ (codes "text", slot.One content.Text, role.Plain) ∷ []
fields_of kind.BigInt = (codes "span", slot.One content.Span, role.Plain) ∷ (codes "text", slot.One content.Text, role.Plain) ∷ []
fields_of kind.Regex = (codes "span", slot.One content.Span, role.Plain) ∷ (codes "exp", slot.One content.Text, role.Plain) ∷ (codes "flags", slot.One content.Text, role.Plain) ∷ []
fields_of kind.TplElement = (codes "span", slot.One content.Span, role.Plain) ∷ (codes "tail", slot.One content.Flag, role.Plain) ∷ (codes "cooked", slot.Optional content.Text, role.Plain) ∷ (codes "raw", slot.One content.Text, role.Plain) ∷ []
fields_of kind.ThisExpr = (codes "span", slot.One content.Span, role.Plain) ∷ []
fields_of kind.Super = (codes "span", slot.One content.Span, role.Plain) ∷ []
fields_of kind.Import = (codes "span", slot.One content.Span, role.Plain) ∷ []
fields_of kind.MetaPropExpr = (codes "span", slot.One content.Span, role.Plain) ∷ (codes "kind", slot.One (content.Word word_class.MetaPropKind), role.Plain) ∷ []
fields_of kind.EmptyStmt = (codes "span", slot.One content.Span, role.Plain) ∷ []
fields_of kind.DebuggerStmt = (codes "span", slot.One content.Span, role.Plain) ∷ []
fields_of kind.BreakStmt = (codes "span", slot.One content.Span, role.Plain) ∷ (codes "label", slot.Optional (content.Node class.Ident), role.Label) ∷ []
fields_of kind.ContinueStmt = (codes "span", slot.One content.Span, role.Plain) ∷ (codes "label", slot.Optional (content.Node class.Ident), role.Label) ∷ []
fields_of kind.Function = (codes "span", slot.One content.Span, role.Plain) ∷ (codes "params", slot.List (content.Node class.Param), role.Plain) ∷ (codes "body", slot.One (content.Node class.BlockStmt), role.FunctionBody) ∷ (codes "is_generator", slot.One content.Flag, role.Plain) ∷ (codes "is_async", slot.One content.Flag, role.Plain) ∷ []
fields_of kind.Param = (codes "span", slot.One content.Span, role.Plain) ∷ (codes "pat", slot.One (content.Node class.Pat), role.Parameter) ∷ []
fields_of kind.FnExpr = (codes "ident", slot.Optional (content.Node class.Ident), role.OwnName) ∷ (codes "function", slot.One (content.Node class.Function), role.Plain) ∷ []
fields_of kind.ArrowExpr = (codes "span", slot.One content.Span, role.Plain) ∷ (codes "params", slot.List (content.Node class.Pat), role.Parameter) ∷ (codes "body", slot.One (content.Node class.BlockStmtOrExpr), role.FunctionBody) ∷ (codes "is_async", slot.One content.Flag, role.Plain) ∷ []
fields_of kind.Class = (codes "span", slot.One content.Span, role.Plain) ∷ (codes "super_class", slot.Optional (content.Node class.Expr), role.Reference) ∷ (codes "body", slot.List (content.Node class.ClassMember), role.Plain) ∷ []
fields_of kind.ClassExpr = (codes "ident", slot.Optional (content.Node class.Ident), role.OwnName) ∷ (codes "class", slot.One (content.Node class.Class), role.Plain) ∷ []
fields_of kind.Constructor = (codes "span", slot.One content.Span, role.Plain) ∷ (codes "key", slot.One (content.Node class.PropName), role.Plain) ∷ (codes "params", slot.List (content.Node class.Param), role.Plain) ∷ (codes "body", slot.One (content.Node class.BlockStmt), role.FunctionBody) ∷ []
fields_of kind.ClassMethod = (codes "span", slot.One content.Span, role.Plain) ∷ (codes "key", slot.One (content.Node class.PropName), role.Plain) ∷ (codes "function", slot.One (content.Node class.Function), role.Plain) ∷ (codes "kind", slot.One (content.Word word_class.MethodKind), role.Plain) ∷ (codes "is_static", slot.One content.Flag, role.Plain) ∷ []
fields_of kind.PrivateMethod = (codes "span", slot.One content.Span, role.Plain) ∷ (codes "key", slot.One (content.Node class.PrivateName), role.Plain) ∷ (codes "function", slot.One (content.Node class.Function), role.Plain) ∷ (codes "kind", slot.One (content.Word word_class.MethodKind), role.Plain) ∷ (codes "is_static", slot.One content.Flag, role.Plain) ∷ []
fields_of kind.ClassProp = (codes "span", slot.One content.Span, role.Plain) ∷ (codes "key", slot.One (content.Node class.PropName), role.Plain) ∷ (codes "value", slot.Optional (content.Node class.Expr), role.Reference) ∷ (codes "is_static", slot.One content.Flag, role.Plain) ∷ []
fields_of kind.PrivateProp = (codes "span", slot.One content.Span, role.Plain) ∷ (codes "key", slot.One (content.Node class.PrivateName), role.Plain) ∷ (codes "value", slot.Optional (content.Node class.Expr), role.Reference) ∷ (codes "is_static", slot.One content.Flag, role.Plain) ∷ []
fields_of kind.StaticBlock = (codes "span", slot.One content.Span, role.Plain) ∷ (codes "body", slot.One (content.Node class.BlockStmt), role.FunctionBody) ∷ []
fields_of kind.ComputedPropName = (codes "span", slot.One content.Span, role.Plain) ∷ (codes "expr", slot.One (content.Node class.Expr), role.Reference) ∷ []
fields_of kind.MethodProp = (codes "key", slot.One (content.Node class.PropName), role.Plain) ∷ (codes "function", slot.One (content.Node class.Function), role.Plain) ∷ []
fields_of kind.GetterProp = (codes "span", slot.One content.Span, role.Plain) ∷ (codes "key", slot.One (content.Node class.PropName), role.Plain) ∷ (codes "body", slot.One (content.Node class.BlockStmt), role.FunctionBody) ∷ []
fields_of kind.SetterProp = (codes "span", slot.One content.Span, role.Plain) ∷ (codes "key", slot.One (content.Node class.PropName), role.Plain) ∷ (codes "param", slot.One (content.Node class.Pat), role.Parameter) ∷ (codes "body", slot.One (content.Node class.BlockStmt), role.FunctionBody) ∷ []
fields_of kind.ArrayPat = (codes "span", slot.One content.Span, role.Plain) ∷ (codes "elems", slot.Holes (content.Node class.Pat), role.Inherited) ∷ []
fields_of kind.RestPat = (codes "span", slot.One content.Span, role.Plain) ∷ (codes "arg", slot.One (content.Node class.Pat), role.Inherited) ∷ []
fields_of kind.ObjectPat = (codes "span", slot.One content.Span, role.Plain) ∷ (codes "props", slot.List (content.Node class.ObjectPatProp), role.Inherited) ∷ []
fields_of kind.AssignPat = (codes "span", slot.One content.Span, role.Plain) ∷ (codes "left", slot.One (content.Node class.Pat), role.Inherited) ∷ (codes "right", slot.One (content.Node class.Expr), role.Reference) ∷ []
fields_of kind.KeyValuePatProp = (codes "key", slot.One (content.Node class.PropName), role.Plain) ∷ (codes "value", slot.One (content.Node class.Pat), role.Inherited) ∷ []
fields_of kind.AssignPatProp = (codes "span", slot.One content.Span, role.Plain) ∷ (codes "key", slot.One (content.Node class.BindingIdent), role.Inherited) ∷ (codes "value", slot.Optional (content.Node class.Expr), role.Reference) ∷ []
fields_of kind.ArrayLit = (codes "span", slot.One content.Span, role.Plain) ∷ (codes "elems", slot.Holes (content.Node class.ExprOrSpread), role.Plain) ∷ []
fields_of kind.ExprOrSpread = (codes "spread", slot.Optional content.Span, role.Plain) ∷ (codes "expr", slot.One (content.Node class.Expr), role.Reference) ∷ []
fields_of kind.ObjectLit = (codes "span", slot.One content.Span, role.Plain) ∷ (codes "props", slot.List (content.Node class.PropOrSpread), role.Reference) ∷ []
fields_of kind.SpreadElement = (codes "dot3_token", slot.One content.Span, role.Plain) ∷ (codes "expr", slot.One (content.Node class.Expr), role.Reference) ∷ []
fields_of kind.KeyValueProp = (codes "key", slot.One (content.Node class.PropName), role.Plain) ∷ (codes "value", slot.One (content.Node class.Expr), role.Reference) ∷ []
fields_of kind.UnaryExpr = (codes "span", slot.One content.Span, role.Plain) ∷ (codes "op", slot.One (content.Word word_class.UnaryOp), role.Plain) ∷ (codes "arg", slot.One (content.Node class.Expr), role.Reference) ∷ []
fields_of kind.UpdateExpr = (codes "span", slot.One content.Span, role.Plain) ∷ (codes "op", slot.One (content.Word word_class.UpdateOp), role.Plain) ∷ (codes "prefix", slot.One content.Flag, role.Plain) ∷ (codes "arg", slot.One (content.Node class.Expr), role.Reference) ∷ []
fields_of kind.BinExpr = (codes "span", slot.One content.Span, role.Plain) ∷ (codes "op", slot.One (content.Word word_class.BinaryOp), role.Plain) ∷ (codes "left", slot.One (content.Node class.Expr), role.Reference) ∷ (codes "right", slot.One (content.Node class.Expr), role.Reference) ∷ []
fields_of kind.AssignExpr = (codes "span", slot.One content.Span, role.Plain) ∷ (codes "op", slot.One (content.Word word_class.AssignOp), role.Plain) ∷ (codes "left", slot.One (content.Node class.AssignTarget), role.Reference) ∷ (codes "right", slot.One (content.Node class.Expr), role.Reference) ∷ []
fields_of kind.MemberExpr = (codes "span", slot.One content.Span, role.Plain) ∷ (codes "obj", slot.One (content.Node class.Expr), role.Reference) ∷ (codes "prop", slot.One (content.Node class.MemberProp), role.Plain) ∷ []
fields_of kind.SuperPropExpr = (codes "span", slot.One content.Span, role.Plain) ∷ (codes "obj", slot.One (content.Node class.Super), role.Plain) ∷ (codes "prop", slot.One (content.Node class.SuperProp), role.Plain) ∷ []
fields_of kind.CondExpr = (codes "span", slot.One content.Span, role.Plain) ∷ (codes "test", slot.One (content.Node class.Expr), role.Reference) ∷ (codes "cons", slot.One (content.Node class.Expr), role.Reference) ∷ (codes "alt", slot.One (content.Node class.Expr), role.Reference) ∷ []
fields_of kind.CallExpr = (codes "span", slot.One content.Span, role.Plain) ∷ (codes "callee", slot.One (content.Node class.Callee), role.Reference) ∷ (codes "args", slot.List (content.Node class.ExprOrSpread), role.Plain) ∷ []
fields_of kind.NewExpr = (codes "span", slot.One content.Span, role.Plain) ∷ (codes "callee", slot.One (content.Node class.Expr), role.Reference) ∷ (codes "args", slot.OptionalList (content.Node class.ExprOrSpread), role.Plain) ∷ []
fields_of kind.SeqExpr = (codes "span", slot.One content.Span, role.Plain) ∷ (codes "exprs", slot.List (content.Node class.Expr), role.Reference) ∷ []
fields_of kind.ParenExpr = (codes "span", slot.One content.Span, role.Plain) ∷ (codes "expr", slot.One (content.Node class.Expr), role.Reference) ∷ []
fields_of kind.AwaitExpr = (codes "span", slot.One content.Span, role.Plain) ∷ (codes "arg", slot.One (content.Node class.Expr), role.Reference) ∷ []
fields_of kind.YieldExpr = (codes "span", slot.One content.Span, role.Plain) ∷ (codes "arg", slot.Optional (content.Node class.Expr), role.Reference) ∷ (codes "delegate", slot.One content.Flag, role.Plain) ∷ []
fields_of kind.Tpl = (codes "span", slot.One content.Span, role.Plain) ∷ (codes "exprs", slot.List (content.Node class.Expr), role.Reference) ∷ (codes "quasis", slot.List (content.Node class.TplElement), role.Plain) ∷ []
fields_of kind.TaggedTpl = (codes "span", slot.One content.Span, role.Plain) ∷ (codes "tag", slot.One (content.Node class.Expr), role.Reference) ∷ (codes "tpl", slot.One (content.Node class.Tpl), role.Plain) ∷ []
fields_of kind.OptChainExpr = (codes "span", slot.One content.Span, role.Plain) ∷ (codes "optional", slot.One content.Flag, role.Plain) ∷ (codes "base", slot.One (content.Node class.OptChainBase), role.Plain) ∷ []
fields_of kind.OptCall = (codes "span", slot.One content.Span, role.Plain) ∷ (codes "callee", slot.One (content.Node class.Expr), role.Reference) ∷ (codes "args", slot.List (content.Node class.ExprOrSpread), role.Plain) ∷ []
fields_of kind.ClassDecl = (codes "ident", slot.One (content.Node class.Ident), role.Class) ∷ (codes "class", slot.One (content.Node class.Class), role.Plain) ∷ []
fields_of kind.FnDecl = (codes "ident", slot.One (content.Node class.Ident), role.Function) ∷ (codes "function", slot.One (content.Node class.Function), role.Plain) ∷ []
fields_of kind.VarDecl = (codes "span", slot.One content.Span, role.Plain) ∷ (codes "kind", slot.One (content.Word word_class.VarDeclKind), role.Plain) ∷ (codes "decls", slot.List (content.Node class.VarDeclarator), role.Declared) ∷ []
fields_of kind.UsingDecl = (codes "span", slot.One content.Span, role.Plain) ∷ (codes "is_await", slot.One content.Flag, role.Plain) ∷ (codes "decls", slot.List (content.Node class.VarDeclarator), role.Lexical) ∷ []
fields_of kind.VarDeclarator = (codes "span", slot.One content.Span, role.Plain) ∷ (codes "name", slot.One (content.Node class.Pat), role.Inherited) ∷ (codes "init", slot.Optional (content.Node class.Expr), role.Reference) ∷ []
fields_of kind.BlockStmt = (codes "span", slot.One content.Span, role.Plain) ∷ (codes "stmts", slot.List (content.Node class.Stmt), role.Plain) ∷ []
fields_of kind.ExprStmt = (codes "span", slot.One content.Span, role.Plain) ∷ (codes "expr", slot.One (content.Node class.Expr), role.Reference) ∷ []
fields_of kind.WithStmt = (codes "span", slot.One content.Span, role.Plain) ∷ (codes "obj", slot.One (content.Node class.Expr), role.Reference) ∷ (codes "body", slot.One (content.Node class.Stmt), role.Plain) ∷ []
fields_of kind.ReturnStmt = (codes "span", slot.One content.Span, role.Plain) ∷ (codes "arg", slot.Optional (content.Node class.Expr), role.Reference) ∷ []
fields_of kind.ThrowStmt = (codes "span", slot.One content.Span, role.Plain) ∷ (codes "arg", slot.One (content.Node class.Expr), role.Reference) ∷ []
fields_of kind.LabeledStmt = (codes "span", slot.One content.Span, role.Plain) ∷ (codes "label", slot.One (content.Node class.Ident), role.Label) ∷ (codes "body", slot.One (content.Node class.Stmt), role.Plain) ∷ []
fields_of kind.IfStmt = (codes "span", slot.One content.Span, role.Plain) ∷ (codes "test", slot.One (content.Node class.Expr), role.Reference) ∷ (codes "cons", slot.One (content.Node class.Stmt), role.Plain) ∷ (codes "alt", slot.Optional (content.Node class.Stmt), role.Plain) ∷ []
fields_of kind.SwitchStmt = (codes "span", slot.One content.Span, role.Plain) ∷ (codes "discriminant", slot.One (content.Node class.Expr), role.Reference) ∷ (codes "cases", slot.List (content.Node class.SwitchCase), role.Plain) ∷ []
fields_of kind.SwitchCase = (codes "span", slot.One content.Span, role.Plain) ∷ (codes "test", slot.Optional (content.Node class.Expr), role.Reference) ∷ (codes "cons", slot.List (content.Node class.Stmt), role.Plain) ∷ []
fields_of kind.TryStmt = (codes "span", slot.One content.Span, role.Plain) ∷ (codes "block", slot.One (content.Node class.BlockStmt), role.Plain) ∷ (codes "handler", slot.Optional (content.Node class.CatchClause), role.Plain) ∷ (codes "finalizer", slot.Optional (content.Node class.BlockStmt), role.Plain) ∷ []
fields_of kind.CatchClause = (codes "span", slot.One content.Span, role.Plain) ∷ (codes "param", slot.Optional (content.Node class.Pat), role.Catch) ∷ (codes "body", slot.One (content.Node class.BlockStmt), role.FunctionBody) ∷ []
fields_of kind.WhileStmt = (codes "span", slot.One content.Span, role.Plain) ∷ (codes "test", slot.One (content.Node class.Expr), role.Reference) ∷ (codes "body", slot.One (content.Node class.Stmt), role.Plain) ∷ []
fields_of kind.DoWhileStmt = (codes "span", slot.One content.Span, role.Plain) ∷ (codes "body", slot.One (content.Node class.Stmt), role.Plain) ∷ (codes "test", slot.One (content.Node class.Expr), role.Reference) ∷ []
fields_of kind.ForStmt = (codes "span", slot.One content.Span, role.Plain) ∷ (codes "init", slot.Optional (content.Node class.VarDeclOrExpr), role.Reference) ∷ (codes "test", slot.Optional (content.Node class.Expr), role.Reference) ∷ (codes "update", slot.Optional (content.Node class.Expr), role.Reference) ∷ (codes "body", slot.One (content.Node class.Stmt), role.Plain) ∷ []
fields_of kind.ForInStmt = (codes "span", slot.One content.Span, role.Plain) ∷ (codes "left", slot.One (content.Node class.ForHead), role.Reference) ∷ (codes "right", slot.One (content.Node class.Expr), role.Reference) ∷ (codes "body", slot.One (content.Node class.Stmt), role.Plain) ∷ []
fields_of kind.ForOfStmt = (codes "span", slot.One content.Span, role.Plain) ∷ (codes "is_await", slot.One content.Flag, role.Plain) ∷ (codes "left", slot.One (content.Node class.ForHead), role.Reference) ∷ (codes "right", slot.One (content.Node class.Expr), role.Reference) ∷ (codes "body", slot.One (content.Node class.Stmt), role.Plain) ∷ []
fields_of kind.TsInterfaceDecl = (codes "span", slot.One content.Span, role.Plain) ∷ (codes "id", slot.One (content.Node class.Ident), role.TypeName) ∷ (codes "type_params", slot.List (content.Node class.TsTypeParam), role.Plain) ∷ (codes "extends", slot.List (content.Node class.TsTypeRef), role.Plain) ∷ (codes "body", slot.List (content.Node class.TsPropertySignature), role.Plain) ∷ []
fields_of kind.TsTypeAliasDecl = (codes "span", slot.One content.Span, role.Plain) ∷ (codes "id", slot.One (content.Node class.Ident), role.TypeName) ∷ (codes "type_params", slot.List (content.Node class.TsTypeParam), role.Plain) ∷ (codes "type_ann", slot.One (content.Node class.TsType), role.Plain) ∷ []
fields_of kind.TsTypeParam = (codes "span", slot.One content.Span, role.Plain) ∷ (codes "name", slot.One (content.Node class.Ident), role.TypeName) ∷ (codes "constraint", slot.Optional (content.Node class.TsType), role.Plain) ∷ (codes "default", slot.Optional (content.Node class.TsType), role.Plain) ∷ []
fields_of kind.TsEnumDecl = (codes "span", slot.One content.Span, role.Plain) ∷ (codes "id", slot.One (content.Node class.Ident), role.Class) ∷ (codes "members", slot.List (content.Node class.TsEnumMember), role.Plain) ∷ []
fields_of kind.TsEnumMember = (codes "span", slot.One content.Span, role.Plain) ∷ (codes "id", slot.One (content.Node class.TsEnumMemberId), role.Plain) ∷ (codes "init", slot.Optional (content.Node class.Expr), role.Reference) ∷ []
fields_of kind.TsModuleDecl = (codes "span", slot.One content.Span, role.Plain) ∷ (codes "id", slot.One (content.Node class.Ident), role.Class) ∷ (codes "body", slot.List (content.Node class.ModuleItem), role.Plain) ∷ []
fields_of kind.TsKeywordType = (codes "span", slot.One content.Span, role.Plain) ∷ (codes "kind", slot.One content.Text, role.Plain) ∷ []
fields_of kind.TsTypeRef = (codes "span", slot.One content.Span, role.Plain) ∷ (codes "name", slot.One (content.Node class.TsEntityName), role.TypeReference) ∷ (codes "type_args", slot.List (content.Node class.TsType), role.Plain) ∷ []
fields_of kind.TsArrayType = (codes "span", slot.One content.Span, role.Plain) ∷ (codes "elem", slot.One (content.Node class.TsType), role.Plain) ∷ []
fields_of kind.TsUnionType = (codes "span", slot.One content.Span, role.Plain) ∷ (codes "types", slot.List (content.Node class.TsType), role.Plain) ∷ []
fields_of kind.TsTypeLit = (codes "span", slot.One content.Span, role.Plain) ∷ (codes "members", slot.List (content.Node class.TsPropertySignature), role.Plain) ∷ []
fields_of kind.TsPropertySignature = (codes "span", slot.One content.Span, role.Plain) ∷ (codes "key", slot.One (content.Node class.IdentName), role.Plain) ∷ (codes "optional", slot.One content.Flag, role.Plain) ∷ (codes "type_ann", slot.One (content.Node class.TsType), role.Plain) ∷ []
fields_of kind.TsQualifiedName = (codes "span", slot.One content.Span, role.Plain) ∷ (codes "left", slot.One (content.Node class.TsEntityName), role.TypeReference) ∷ (codes "right", slot.One (content.Node class.IdentName), role.Plain) ∷ []

-- the words of a place
abbrev pub words_of : WordClass → List Word
words_of word_class.MethodKind = word.Method ∷ word.Getter ∷ word.Setter ∷ []
words_of word_class.VarDeclKind = word.Var ∷ word.Let ∷ word.Const ∷ []
words_of word_class.UnaryOp = word.Minus ∷ word.Plus ∷ word.Bang ∷ word.Tilde ∷ word.TypeOf ∷ word.Void ∷ word.Delete ∷ []
words_of word_class.UpdateOp = word.PlusPlus ∷ word.MinusMinus ∷ []
words_of word_class.BinaryOp = word.EqEq ∷ word.NotEq ∷ word.EqEqEq ∷ word.NotEqEq ∷ word.Lt ∷ word.LtEq ∷ word.Gt ∷ word.GtEq ∷ word.LShift ∷ word.RShift ∷ word.ZeroFillRShift ∷ word.Plus ∷ word.Minus ∷ word.Mul ∷ word.Div ∷ word.Mod ∷ word.BitOr ∷ word.BitXor ∷ word.BitAnd ∷ word.LogicalOr ∷ word.LogicalAnd ∷ word.In ∷ word.InstanceOf ∷ word.Exp ∷ word.NullishCoalescing ∷ []
words_of word_class.AssignOp = word.Assign ∷ word.AddAssign ∷ word.SubAssign ∷ word.MulAssign ∷ word.DivAssign ∷ word.ModAssign ∷ word.LShiftAssign ∷ word.RShiftAssign ∷ word.ZeroFillRShiftAssign ∷ word.BitOrAssign ∷ word.BitXorAssign ∷ word.BitAndAssign ∷ word.ExpAssign ∷ word.AndAssign ∷ word.OrAssign ∷ word.NullishAssign ∷ []
words_of word_class.MetaPropKind = word.NewTarget ∷ word.ImportMeta ∷ []

-- a word as it is written
abbrev pub spelling_of : Word → List ℕ
spelling_of word.Method = codes "method"
spelling_of word.Getter = codes "getter"
spelling_of word.Setter = codes "setter"
spelling_of word.Var = codes "var"
spelling_of word.Let = codes "let"
spelling_of word.Const = codes "const"
spelling_of word.Minus = codes "-"
spelling_of word.Plus = codes "+"
spelling_of word.Bang = codes "!"
spelling_of word.Tilde = codes "~"
spelling_of word.TypeOf = codes "typeof"
spelling_of word.Void = codes "void"
spelling_of word.Delete = codes "delete"
spelling_of word.PlusPlus = codes "++"
spelling_of word.MinusMinus = codes "--"
spelling_of word.EqEq = codes "=="
spelling_of word.NotEq = codes "!="
spelling_of word.EqEqEq = codes "==="
spelling_of word.NotEqEq = codes "!=="
spelling_of word.Lt = codes "<"
spelling_of word.LtEq = codes "<="
spelling_of word.Gt = codes ">"
spelling_of word.GtEq = codes ">="
spelling_of word.LShift = codes "<<"
spelling_of word.RShift = codes ">>"
spelling_of word.ZeroFillRShift = codes ">>>"
spelling_of word.Mul = codes "*"
spelling_of word.Div = codes "/"
spelling_of word.Mod = codes "%"
spelling_of word.BitOr = codes "|"
spelling_of word.BitXor = codes "^"
spelling_of word.BitAnd = codes "&"
spelling_of word.LogicalOr = codes "||"
spelling_of word.LogicalAnd = codes "&&"
spelling_of word.In = codes "in"
spelling_of word.InstanceOf = codes "instanceof"
spelling_of word.Exp = codes "**"
spelling_of word.NullishCoalescing = codes "??"
spelling_of word.Assign = codes "="
spelling_of word.AddAssign = codes "+="
spelling_of word.SubAssign = codes "-="
spelling_of word.MulAssign = codes "*="
spelling_of word.DivAssign = codes "/="
spelling_of word.ModAssign = codes "%="
spelling_of word.LShiftAssign = codes "<<="
spelling_of word.RShiftAssign = codes ">>="
spelling_of word.ZeroFillRShiftAssign = codes ">>>="
spelling_of word.BitOrAssign = codes "|="
spelling_of word.BitXorAssign = codes "^="
spelling_of word.BitAndAssign = codes "&="
spelling_of word.ExpAssign = codes "**="
spelling_of word.AndAssign = codes "&&="
spelling_of word.OrAssign = codes "||="
spelling_of word.NullishAssign = codes "??="
spelling_of word.NewTarget = codes "new.target"
spelling_of word.ImportMeta = codes "import.meta"

-- whether the kind is that of an identifier
abbrev pub is_identifier : Kind → Bool
is_identifier kind.Ident = true
is_identifier kind.BindingIdent = true
is_identifier _ = false

-- kinds, numbered, so that two can be compared
abbrev pub kind_number : Kind → ℕ
kind_number kind.Module = 0
kind_number kind.Script = 1
kind_number kind.ImportDecl = 2
kind_number kind.ImportNamedSpecifier = 3
kind_number kind.ImportDefaultSpecifier = 4
kind_number kind.ImportStarAsSpecifier = 5
kind_number kind.ExportDecl = 6
kind_number kind.NamedExport = 7
kind_number kind.ExportNamespaceSpecifier = 8
kind_number kind.ExportNamedSpecifier = 9
kind_number kind.ExportDefaultDecl = 10
kind_number kind.ExportDefaultExpr = 11
kind_number kind.ExportAll = 12
kind_number kind.Ident = 13
kind_number kind.BindingIdent = 14
kind_number kind.IdentName = 15
kind_number kind.PrivateName = 16
kind_number kind.Str = 17
kind_number kind.Bool = 18
kind_number kind.Null = 19
kind_number kind.Number = 20
kind_number kind.BigInt = 21
kind_number kind.Regex = 22
kind_number kind.TplElement = 23
kind_number kind.ThisExpr = 24
kind_number kind.Super = 25
kind_number kind.Import = 26
kind_number kind.MetaPropExpr = 27
kind_number kind.EmptyStmt = 28
kind_number kind.DebuggerStmt = 29
kind_number kind.BreakStmt = 30
kind_number kind.ContinueStmt = 31
kind_number kind.Function = 32
kind_number kind.Param = 33
kind_number kind.FnExpr = 34
kind_number kind.ArrowExpr = 35
kind_number kind.Class = 36
kind_number kind.ClassExpr = 37
kind_number kind.Constructor = 38
kind_number kind.ClassMethod = 39
kind_number kind.PrivateMethod = 40
kind_number kind.ClassProp = 41
kind_number kind.PrivateProp = 42
kind_number kind.StaticBlock = 43
kind_number kind.ComputedPropName = 44
kind_number kind.MethodProp = 45
kind_number kind.GetterProp = 46
kind_number kind.SetterProp = 47
kind_number kind.ArrayPat = 48
kind_number kind.RestPat = 49
kind_number kind.ObjectPat = 50
kind_number kind.AssignPat = 51
kind_number kind.KeyValuePatProp = 52
kind_number kind.AssignPatProp = 53
kind_number kind.ArrayLit = 54
kind_number kind.ExprOrSpread = 55
kind_number kind.ObjectLit = 56
kind_number kind.SpreadElement = 57
kind_number kind.KeyValueProp = 58
kind_number kind.UnaryExpr = 59
kind_number kind.UpdateExpr = 60
kind_number kind.BinExpr = 61
kind_number kind.AssignExpr = 62
kind_number kind.MemberExpr = 63
kind_number kind.SuperPropExpr = 64
kind_number kind.CondExpr = 65
kind_number kind.CallExpr = 66
kind_number kind.NewExpr = 67
kind_number kind.SeqExpr = 68
kind_number kind.ParenExpr = 69
kind_number kind.AwaitExpr = 70
kind_number kind.YieldExpr = 71
kind_number kind.Tpl = 72
kind_number kind.TaggedTpl = 73
kind_number kind.OptChainExpr = 74
kind_number kind.OptCall = 75
kind_number kind.ClassDecl = 76
kind_number kind.FnDecl = 77
kind_number kind.VarDecl = 78
kind_number kind.UsingDecl = 79
kind_number kind.VarDeclarator = 80
kind_number kind.BlockStmt = 81
kind_number kind.ExprStmt = 82
kind_number kind.WithStmt = 83
kind_number kind.ReturnStmt = 84
kind_number kind.ThrowStmt = 85
kind_number kind.LabeledStmt = 86
kind_number kind.IfStmt = 87
kind_number kind.SwitchStmt = 88
kind_number kind.SwitchCase = 89
kind_number kind.TryStmt = 90
kind_number kind.CatchClause = 91
kind_number kind.WhileStmt = 92
kind_number kind.DoWhileStmt = 93
kind_number kind.ForStmt = 94
kind_number kind.ForInStmt = 95
kind_number kind.ForOfStmt = 96
kind_number kind.TsInterfaceDecl = 97
kind_number kind.TsTypeAliasDecl = 98
kind_number kind.TsTypeParam = 99
kind_number kind.TsEnumDecl = 100
kind_number kind.TsEnumMember = 101
kind_number kind.TsModuleDecl = 102
kind_number kind.TsKeywordType = 103
kind_number kind.TsTypeRef = 104
kind_number kind.TsArrayType = 105
kind_number kind.TsUnionType = 106
kind_number kind.TsTypeLit = 107
kind_number kind.TsPropertySignature = 108
kind_number kind.TsQualifiedName = 109

-- words, numbered
abbrev pub word_number : Word → ℕ
word_number word.Method = 0
word_number word.Getter = 1
word_number word.Setter = 2
word_number word.Var = 3
word_number word.Let = 4
word_number word.Const = 5
word_number word.Minus = 6
word_number word.Plus = 7
word_number word.Bang = 8
word_number word.Tilde = 9
word_number word.TypeOf = 10
word_number word.Void = 11
word_number word.Delete = 12
word_number word.PlusPlus = 13
word_number word.MinusMinus = 14
word_number word.EqEq = 15
word_number word.NotEq = 16
word_number word.EqEqEq = 17
word_number word.NotEqEq = 18
word_number word.Lt = 19
word_number word.LtEq = 20
word_number word.Gt = 21
word_number word.GtEq = 22
word_number word.LShift = 23
word_number word.RShift = 24
word_number word.ZeroFillRShift = 25
word_number word.Mul = 26
word_number word.Div = 27
word_number word.Mod = 28
word_number word.BitOr = 29
word_number word.BitXor = 30
word_number word.BitAnd = 31
word_number word.LogicalOr = 32
word_number word.LogicalAnd = 33
word_number word.In = 34
word_number word.InstanceOf = 35
word_number word.Exp = 36
word_number word.NullishCoalescing = 37
word_number word.Assign = 38
word_number word.AddAssign = 39
word_number word.SubAssign = 40
word_number word.MulAssign = 41
word_number word.DivAssign = 42
word_number word.ModAssign = 43
word_number word.LShiftAssign = 44
word_number word.RShiftAssign = 45
word_number word.ZeroFillRShiftAssign = 46
word_number word.BitOrAssign = 47
word_number word.BitXorAssign = 48
word_number word.BitAndAssign = 49
word_number word.ExpAssign = 50
word_number word.AndAssign = 51
word_number word.OrAssign = 52
word_number word.NullishAssign = 53
word_number word.NewTarget = 54
word_number word.ImportMeta = 55

-- what stands in each field
abbrev pub slots_of : Kind → List Slot
slots_of k = map (λ f. f.1) (fields_of k)
