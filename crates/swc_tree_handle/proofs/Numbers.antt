-- Two kinds of one number are one.
--
-- Printed by tools/print_table.py from tools/tree.txt.
use Rattle.std.proofs.Common.{◌≡◌, ℕ, List, [], ◌∷◌, slice_index_or, refl, ap}
use Rattle.swc_tree_node.specs.declared.kind.Kind.{Kind}
use Rattle.swc_tree_node.specs.declared.kind.Kind.TheVariants as kind
use Rattle.swc_tree_node.specs.Table.{kind_number}

kinds : List Kind
kinds = kind.Module ∷ kind.Script ∷ kind.ImportDecl ∷ kind.ImportNamedSpecifier ∷ kind.ImportDefaultSpecifier ∷ kind.ImportStarAsSpecifier ∷ kind.ExportDecl ∷ kind.NamedExport ∷ kind.ExportNamespaceSpecifier ∷ kind.ExportNamedSpecifier ∷ kind.ExportDefaultDecl ∷ kind.ExportDefaultExpr ∷ kind.ExportAll ∷ kind.Ident ∷ kind.BindingIdent ∷ kind.IdentName ∷ kind.PrivateName ∷ kind.Str ∷ kind.Bool ∷ kind.Null ∷ kind.Number ∷ kind.BigInt ∷ kind.Regex ∷ kind.TplElement ∷ kind.ThisExpr ∷ kind.Super ∷ kind.Import ∷ kind.MetaPropExpr ∷ kind.EmptyStmt ∷ kind.DebuggerStmt ∷ kind.BreakStmt ∷ kind.ContinueStmt ∷ kind.Function ∷ kind.Param ∷ kind.FnExpr ∷ kind.ArrowExpr ∷ kind.Class ∷ kind.ClassExpr ∷ kind.Constructor ∷ kind.ClassMethod ∷ kind.PrivateMethod ∷ kind.ClassProp ∷ kind.PrivateProp ∷ kind.StaticBlock ∷ kind.ComputedPropName ∷ kind.MethodProp ∷ kind.GetterProp ∷ kind.SetterProp ∷ kind.ArrayPat ∷ kind.RestPat ∷ kind.ObjectPat ∷ kind.AssignPat ∷ kind.KeyValuePatProp ∷ kind.AssignPatProp ∷ kind.ArrayLit ∷ kind.ExprOrSpread ∷ kind.ObjectLit ∷ kind.SpreadElement ∷ kind.KeyValueProp ∷ kind.UnaryExpr ∷ kind.UpdateExpr ∷ kind.BinExpr ∷ kind.AssignExpr ∷ kind.MemberExpr ∷ kind.SuperPropExpr ∷ kind.CondExpr ∷ kind.CallExpr ∷ kind.NewExpr ∷ kind.SeqExpr ∷ kind.ParenExpr ∷ kind.AwaitExpr ∷ kind.YieldExpr ∷ kind.Tpl ∷ kind.TaggedTpl ∷ kind.OptChainExpr ∷ kind.OptCall ∷ kind.ClassDecl ∷ kind.FnDecl ∷ kind.VarDecl ∷ kind.UsingDecl ∷ kind.VarDeclarator ∷ kind.BlockStmt ∷ kind.ExprStmt ∷ kind.WithStmt ∷ kind.ReturnStmt ∷ kind.ThrowStmt ∷ kind.LabeledStmt ∷ kind.IfStmt ∷ kind.SwitchStmt ∷ kind.SwitchCase ∷ kind.TryStmt ∷ kind.CatchClause ∷ kind.WhileStmt ∷ kind.DoWhileStmt ∷ kind.ForStmt ∷ kind.ForInStmt ∷ kind.ForOfStmt ∷ kind.TsInterfaceDecl ∷ kind.TsTypeAliasDecl ∷ kind.TsTypeParam ∷ kind.TsEnumDecl ∷ kind.TsEnumMember ∷ kind.TsModuleDecl ∷ kind.TsKeywordType ∷ kind.TsTypeRef ∷ kind.TsArrayType ∷ kind.TsUnionType ∷ kind.TsTypeLit ∷ kind.TsPropertySignature ∷ kind.TsQualifiedName ∷ []

kind_at : ℕ → Kind
kind_at n = slice_index_or kinds n kind.Module

kind_back : (k : Kind) → kind_at (kind_number k) ≡ k
unfolding kind_at kinds
kind_back kind.Module = refl
kind_back kind.Script = refl
kind_back kind.ImportDecl = refl
kind_back kind.ImportNamedSpecifier = refl
kind_back kind.ImportDefaultSpecifier = refl
kind_back kind.ImportStarAsSpecifier = refl
kind_back kind.ExportDecl = refl
kind_back kind.NamedExport = refl
kind_back kind.ExportNamespaceSpecifier = refl
kind_back kind.ExportNamedSpecifier = refl
kind_back kind.ExportDefaultDecl = refl
kind_back kind.ExportDefaultExpr = refl
kind_back kind.ExportAll = refl
kind_back kind.Ident = refl
kind_back kind.BindingIdent = refl
kind_back kind.IdentName = refl
kind_back kind.PrivateName = refl
kind_back kind.Str = refl
kind_back kind.Bool = refl
kind_back kind.Null = refl
kind_back kind.Number = refl
kind_back kind.BigInt = refl
kind_back kind.Regex = refl
kind_back kind.TplElement = refl
kind_back kind.ThisExpr = refl
kind_back kind.Super = refl
kind_back kind.Import = refl
kind_back kind.MetaPropExpr = refl
kind_back kind.EmptyStmt = refl
kind_back kind.DebuggerStmt = refl
kind_back kind.BreakStmt = refl
kind_back kind.ContinueStmt = refl
kind_back kind.Function = refl
kind_back kind.Param = refl
kind_back kind.FnExpr = refl
kind_back kind.ArrowExpr = refl
kind_back kind.Class = refl
kind_back kind.ClassExpr = refl
kind_back kind.Constructor = refl
kind_back kind.ClassMethod = refl
kind_back kind.PrivateMethod = refl
kind_back kind.ClassProp = refl
kind_back kind.PrivateProp = refl
kind_back kind.StaticBlock = refl
kind_back kind.ComputedPropName = refl
kind_back kind.MethodProp = refl
kind_back kind.GetterProp = refl
kind_back kind.SetterProp = refl
kind_back kind.ArrayPat = refl
kind_back kind.RestPat = refl
kind_back kind.ObjectPat = refl
kind_back kind.AssignPat = refl
kind_back kind.KeyValuePatProp = refl
kind_back kind.AssignPatProp = refl
kind_back kind.ArrayLit = refl
kind_back kind.ExprOrSpread = refl
kind_back kind.ObjectLit = refl
kind_back kind.SpreadElement = refl
kind_back kind.KeyValueProp = refl
kind_back kind.UnaryExpr = refl
kind_back kind.UpdateExpr = refl
kind_back kind.BinExpr = refl
kind_back kind.AssignExpr = refl
kind_back kind.MemberExpr = refl
kind_back kind.SuperPropExpr = refl
kind_back kind.CondExpr = refl
kind_back kind.CallExpr = refl
kind_back kind.NewExpr = refl
kind_back kind.SeqExpr = refl
kind_back kind.ParenExpr = refl
kind_back kind.AwaitExpr = refl
kind_back kind.YieldExpr = refl
kind_back kind.Tpl = refl
kind_back kind.TaggedTpl = refl
kind_back kind.OptChainExpr = refl
kind_back kind.OptCall = refl
kind_back kind.ClassDecl = refl
kind_back kind.FnDecl = refl
kind_back kind.VarDecl = refl
kind_back kind.UsingDecl = refl
kind_back kind.VarDeclarator = refl
kind_back kind.BlockStmt = refl
kind_back kind.ExprStmt = refl
kind_back kind.WithStmt = refl
kind_back kind.ReturnStmt = refl
kind_back kind.ThrowStmt = refl
kind_back kind.LabeledStmt = refl
kind_back kind.IfStmt = refl
kind_back kind.SwitchStmt = refl
kind_back kind.SwitchCase = refl
kind_back kind.TryStmt = refl
kind_back kind.CatchClause = refl
kind_back kind.WhileStmt = refl
kind_back kind.DoWhileStmt = refl
kind_back kind.ForStmt = refl
kind_back kind.ForInStmt = refl
kind_back kind.ForOfStmt = refl
kind_back kind.TsInterfaceDecl = refl
kind_back kind.TsTypeAliasDecl = refl
kind_back kind.TsTypeParam = refl
kind_back kind.TsEnumDecl = refl
kind_back kind.TsEnumMember = refl
kind_back kind.TsModuleDecl = refl
kind_back kind.TsKeywordType = refl
kind_back kind.TsTypeRef = refl
kind_back kind.TsArrayType = refl
kind_back kind.TsUnionType = refl
kind_back kind.TsTypeLit = refl
kind_back kind.TsPropertySignature = refl
kind_back kind.TsQualifiedName = refl

pub same_kind : (k l : Kind) → kind_number k ≡ kind_number l → k ≡ l
same_kind k l e = rw (← kind_back k) (rw (← kind_back l) (ap kind_at e))
