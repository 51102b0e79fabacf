-- Kinds and words are told apart by their numbers, and by how they are written.
--
-- Printed by tools/print_numbers.py from crates/swc_tree_node/specs/Table.antt.
use Rattle.std.proofs.Common.{◌≡◌, List, [], ◌∷◌, true, Some, slice_index_or, bytes_eq, refl, sym, ap, ◌∙◌}
use Rattle.std.specs.List.{find}
use Rattle.std.proofs.lemmas.Slice.Eq.{bytes_eq-Decides}
use Rattle.swc_tree_node.specs.declared.kind.Kind.{Kind}
use Rattle.swc_tree_node.specs.declared.kind.Kind.TheVariants as kind
use Rattle.swc_tree_node.specs.declared.kind.Word.{Word}
use Rattle.swc_tree_node.specs.declared.kind.Word.TheVariants as word
use Rattle.swc_tree_node.specs.Table.{kind_number, name_of, word_number, spelling_of}

kinds : List Kind
kinds = kind.Module ∷ kind.Script ∷ kind.ImportDecl ∷ kind.ImportNamedSpecifier ∷ kind.ImportDefaultSpecifier ∷ kind.ImportStarAsSpecifier ∷ kind.ExportDecl ∷ kind.NamedExport ∷ kind.ExportNamespaceSpecifier ∷ kind.ExportNamedSpecifier ∷ kind.ExportDefaultDecl ∷ kind.ExportDefaultExpr ∷ kind.ExportAll ∷ kind.Ident ∷ kind.BindingIdent ∷ kind.IdentName ∷ kind.PrivateName ∷ kind.Str ∷ kind.Bool ∷ kind.Null ∷ kind.Number ∷ kind.BigInt ∷ kind.Regex ∷ kind.TplElement ∷ kind.ThisExpr ∷ kind.Super ∷ kind.Import ∷ kind.MetaPropExpr ∷ kind.EmptyStmt ∷ kind.DebuggerStmt ∷ kind.BreakStmt ∷ kind.ContinueStmt ∷ kind.Function ∷ kind.Param ∷ kind.FnExpr ∷ kind.ArrowExpr ∷ kind.Class ∷ kind.ClassExpr ∷ kind.Constructor ∷ kind.ClassMethod ∷ kind.PrivateMethod ∷ kind.ClassProp ∷ kind.PrivateProp ∷ kind.StaticBlock ∷ kind.ComputedPropName ∷ kind.MethodProp ∷ kind.GetterProp ∷ kind.SetterProp ∷ kind.ArrayPat ∷ kind.RestPat ∷ kind.ObjectPat ∷ kind.AssignPat ∷ kind.KeyValuePatProp ∷ kind.AssignPatProp ∷ kind.ArrayLit ∷ kind.ExprOrSpread ∷ kind.ObjectLit ∷ kind.SpreadElement ∷ kind.KeyValueProp ∷ kind.UnaryExpr ∷ kind.UpdateExpr ∷ kind.BinExpr ∷ kind.AssignExpr ∷ kind.MemberExpr ∷ kind.SuperPropExpr ∷ kind.CondExpr ∷ kind.CallExpr ∷ kind.NewExpr ∷ kind.SeqExpr ∷ kind.ParenExpr ∷ kind.AwaitExpr ∷ kind.YieldExpr ∷ kind.Tpl ∷ kind.TaggedTpl ∷ kind.OptChainExpr ∷ kind.OptCall ∷ kind.ClassDecl ∷ kind.FnDecl ∷ kind.VarDecl ∷ kind.UsingDecl ∷ kind.VarDeclarator ∷ kind.BlockStmt ∷ kind.ExprStmt ∷ kind.WithStmt ∷ kind.ReturnStmt ∷ kind.ThrowStmt ∷ kind.LabeledStmt ∷ kind.IfStmt ∷ kind.SwitchStmt ∷ kind.SwitchCase ∷ kind.TryStmt ∷ kind.CatchClause ∷ kind.WhileStmt ∷ kind.DoWhileStmt ∷ kind.ForStmt ∷ kind.ForInStmt ∷ kind.ForOfStmt ∷ kind.TsInterfaceDecl ∷ kind.TsTypeAliasDecl ∷ kind.TsTypeParam ∷ kind.TsEnumDecl ∷ kind.TsEnumMember ∷ kind.TsModuleDecl ∷ kind.TsKeywordType ∷ kind.TsTypeRef ∷ kind.TsArrayType ∷ kind.TsUnionType ∷ kind.TsTypeLit ∷ kind.TsPropertySignature ∷ kind.TsQualifiedName ∷ []

kind_back : (x : Kind) → slice_index_or kinds (kind_number x) kind.Module ≡ x
unfolding kinds
kind_back kind.Module = refl
kind_back _ = refl

pub same_kind : (x y : Kind) → kind_number x ≡ kind_number y → x ≡ y
same_kind x y e = sym (kind_back x) ∙ ap (λ n. slice_index_or kinds n kind.Module) e ∙ kind_back y

kind_found : (x : Kind) → find (λ z. bytes_eq (name_of z) (name_of x)) kinds ≡ Some x
unfolding kinds
kind_found kind.Module = refl
kind_found _ = refl

pub kind_told : (x y : Kind) → bytes_eq (name_of x) (name_of y) ≡ true → x ≡ y
kind_told x y e =
    let same : name_of x ≡ name_of y = (bytes_eq-Decides (name_of x) (name_of y)).0 e in
    let both = sym (kind_found x) ∙ ap (λ t. find (λ z. bytes_eq (name_of z) t) kinds) same ∙ kind_found y in
    cc

words : List Word
words = word.Method ∷ word.Getter ∷ word.Setter ∷ word.Var ∷ word.Let ∷ word.Const ∷ word.Minus ∷ word.Plus ∷ word.Bang ∷ word.Tilde ∷ word.TypeOf ∷ word.Void ∷ word.Delete ∷ word.PlusPlus ∷ word.MinusMinus ∷ word.EqEq ∷ word.NotEq ∷ word.EqEqEq ∷ word.NotEqEq ∷ word.Lt ∷ word.LtEq ∷ word.Gt ∷ word.GtEq ∷ word.LShift ∷ word.RShift ∷ word.ZeroFillRShift ∷ word.Mul ∷ word.Div ∷ word.Mod ∷ word.BitOr ∷ word.BitXor ∷ word.BitAnd ∷ word.LogicalOr ∷ word.LogicalAnd ∷ word.In ∷ word.InstanceOf ∷ word.Exp ∷ word.NullishCoalescing ∷ word.Assign ∷ word.AddAssign ∷ word.SubAssign ∷ word.MulAssign ∷ word.DivAssign ∷ word.ModAssign ∷ word.LShiftAssign ∷ word.RShiftAssign ∷ word.ZeroFillRShiftAssign ∷ word.BitOrAssign ∷ word.BitXorAssign ∷ word.BitAndAssign ∷ word.ExpAssign ∷ word.AndAssign ∷ word.OrAssign ∷ word.NullishAssign ∷ word.NewTarget ∷ word.ImportMeta ∷ []

word_back : (x : Word) → slice_index_or words (word_number x) word.Method ≡ x
unfolding words
word_back word.Method = refl
word_back _ = refl

pub same_word : (x y : Word) → word_number x ≡ word_number y → x ≡ y
same_word x y e = sym (word_back x) ∙ ap (λ n. slice_index_or words n word.Method) e ∙ word_back y

word_found : (x : Word) → find (λ z. bytes_eq (spelling_of z) (spelling_of x)) words ≡ Some x
unfolding words
word_found word.Method = refl
word_found _ = refl

pub word_told : (x y : Word) → bytes_eq (spelling_of x) (spelling_of y) ≡ true → x ≡ y
word_told x y e =
    let same : spelling_of x ≡ spelling_of y = (bytes_eq-Decides (spelling_of x) (spelling_of y)).0 e in
    let both = sym (word_found x) ∙ ap (λ t. find (λ z. bytes_eq (spelling_of z) t) words) same ∙ word_found y in
    cc
