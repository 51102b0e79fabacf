-- Two kinds of one number are one, and so are two words.
use Rattle.std.proofs.Common.{◌≡◌, ◌==◌, true, List, [], ◌∷◌, slice_index_or, eqb-true, refl, sym, ap, ◌∙◌}
use Rattle.swc_tree_node.specs.declared.kind.Kind.{Kind}
use Rattle.swc_tree_node.specs.declared.kind.Kind.TheVariants as kind
use Rattle.swc_tree_node.specs.declared.kind.Word.{Word}
use Rattle.swc_tree_node.specs.declared.kind.Word.TheVariants as word
use Rattle.swc_tree_node.specs.Table.{kind_number, word_number}

kinds : List Kind
kinds =
    kind.Module ∷ kind.Script ∷ kind.ImportDecl ∷ kind.ImportNamedSpecifier ∷ kind.ImportDefaultSpecifier ∷ kind.ImportStarAsSpecifier ∷ kind.ExportDecl ∷ kind.NamedExport ∷ kind.ExportNamespaceSpecifier ∷ kind.ExportNamedSpecifier ∷ kind.ExportDefaultDecl ∷ kind.ExportDefaultExpr ∷ kind.ExportAll ∷ kind.Ident ∷ kind.BindingIdent ∷ kind.IdentName ∷ kind.PrivateName ∷ kind.Str ∷ kind.Bool ∷ kind.Null ∷ kind.Number ∷ kind.BigInt ∷ kind.Regex ∷ kind.TplElement ∷ kind.ThisExpr ∷ kind.Super ∷ kind.Import ∷ kind.MetaPropExpr ∷ kind.EmptyStmt ∷ kind.DebuggerStmt ∷ kind.BreakStmt ∷ kind.ContinueStmt ∷ kind.Function ∷ kind.Param ∷ kind.FnExpr ∷ kind.ArrowExpr ∷ kind.Class ∷ kind.ClassExpr ∷ kind.Constructor ∷ kind.ClassMethod ∷ kind.PrivateMethod ∷ kind.ClassProp ∷ kind.PrivateProp ∷ kind.StaticBlock ∷ kind.ComputedPropName ∷ kind.MethodProp ∷ kind.GetterProp ∷ kind.SetterProp ∷ kind.ArrayPat ∷ kind.RestPat ∷ kind.ObjectPat ∷ kind.AssignPat ∷ kind.KeyValuePatProp ∷ kind.AssignPatProp ∷ kind.ArrayLit ∷ kind.ExprOrSpread ∷ kind.ObjectLit ∷ kind.SpreadElement ∷ kind.KeyValueProp ∷ kind.UnaryExpr ∷ kind.UpdateExpr ∷ kind.BinExpr ∷ kind.AssignExpr ∷ kind.MemberExpr ∷ kind.SuperPropExpr ∷ kind.CondExpr ∷ kind.CallExpr ∷ kind.NewExpr ∷ kind.SeqExpr ∷ kind.ParenExpr ∷ kind.AwaitExpr ∷ kind.YieldExpr ∷ kind.Tpl ∷ kind.TaggedTpl ∷ kind.OptChainExpr ∷ kind.OptCall ∷ kind.ClassDecl ∷ kind.FnDecl ∷ kind.VarDecl ∷ kind.UsingDecl ∷ kind.VarDeclarator ∷ kind.BlockStmt ∷ kind.ExprStmt ∷ kind.WithStmt ∷ kind.ReturnStmt ∷ kind.ThrowStmt ∷ kind.LabeledStmt ∷ kind.IfStmt ∷ kind.SwitchStmt ∷ kind.SwitchCase ∷ kind.TryStmt ∷ kind.CatchClause ∷ kind.WhileStmt ∷ kind.DoWhileStmt ∷ kind.ForStmt ∷ kind.ForInStmt ∷ kind.ForOfStmt ∷ kind.TsInterfaceDecl ∷ kind.TsTypeAliasDecl ∷ kind.TsTypeParam ∷ kind.TsEnumDecl ∷ kind.TsEnumMember ∷ kind.TsModuleDecl ∷ kind.TsKeywordType ∷ kind.TsTypeRef ∷ kind.TsArrayType ∷ kind.TsUnionType ∷ kind.TsTypeLit ∷ kind.TsPropertySignature ∷ kind.TsQualifiedName ∷ []

kind_back : (k : Kind) → slice_index_or kinds (kind_number k) kind.Module ≡ k
unfolding kinds
kind_back kind.Module = refl
kind_back _ = refl

pub same_kind : (k l : Kind) → (kind_number k == kind_number l) ≡ true → k ≡ l
same_kind k l e = sym (kind_back k) ∙ ap (λ n. slice_index_or kinds n kind.Module) (eqb-true (kind_number k) (kind_number l) e) ∙ kind_back l

words : List Word
words =
    word.Method ∷ word.Getter ∷ word.Setter ∷ word.Var ∷ word.Let ∷ word.Const ∷ word.Minus ∷ word.Plus ∷ word.Bang ∷ word.Tilde ∷ word.TypeOf ∷ word.Void ∷ word.Delete ∷ word.PlusPlus ∷ word.MinusMinus ∷ word.EqEq ∷ word.NotEq ∷ word.EqEqEq ∷ word.NotEqEq ∷ word.Lt ∷ word.LtEq ∷ word.Gt ∷ word.GtEq ∷ word.LShift ∷ word.RShift ∷ word.ZeroFillRShift ∷ word.Mul ∷ word.Div ∷ word.Mod ∷ word.BitOr ∷ word.BitXor ∷ word.BitAnd ∷ word.LogicalOr ∷ word.LogicalAnd ∷ word.In ∷ word.InstanceOf ∷ word.Exp ∷ word.NullishCoalescing ∷ word.Assign ∷ word.AddAssign ∷ word.SubAssign ∷ word.MulAssign ∷ word.DivAssign ∷ word.ModAssign ∷ word.LShiftAssign ∷ word.RShiftAssign ∷ word.ZeroFillRShiftAssign ∷ word.BitOrAssign ∷ word.BitXorAssign ∷ word.BitAndAssign ∷ word.ExpAssign ∷ word.AndAssign ∷ word.OrAssign ∷ word.NullishAssign ∷ word.NewTarget ∷ word.ImportMeta ∷ []

word_back : (x : Word) → slice_index_or words (word_number x) word.Method ≡ x
unfolding words
word_back word.Method = refl
word_back _ = refl

pub same_word : (x y : Word) → (word_number x == word_number y) ≡ true → x ≡ y
same_word x y e = sym (word_back x) ∙ ap (λ n. slice_index_or words n word.Method) (eqb-true (word_number x) (word_number y) e) ∙ word_back y
