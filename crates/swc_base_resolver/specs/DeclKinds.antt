-- How the names of a declaration are declared, by its keyword.
use Rattle.swc_tree_statements.specs.declared.var_decl_kind.VarDeclKind.{VarDeclKind}
use Rattle.swc_tree_statements.specs.declared.var_decl_kind.VarDeclKind.TheVariants as keyword
use Rattle.swc_base_resolver.specs.declared.scope.DeclKind.{DeclKind}
use Rattle.swc_base_resolver.specs.declared.scope.DeclKind.TheVariants as kind

-- `var` declares variables, `let` and `const` lexical names (ECMA-262, 14.3)
abbrev pub declared_by : VarDeclKind → DeclKind
declared_by keyword.Var = kind.Var
declared_by keyword.Let = kind.Lexical
declared_by keyword.Const = kind.Lexical
