-- Forms of statements: which may stand where (ECMA-262, 14, and B.3.1, B.3.3), and what is strict (11.2.2).
use Rattle.std.specs.Prelude.{List, Bool, true, false, not, ◌&&◌, Option, Some, if◌then◌else◌}
use Rattle.std.specs.List.{list_all}
use Rattle.swc_tree_node.specs.declared.kind.Kind.TheVariants as kind
use Rattle.swc_tree_node.specs.declared.kind.Word.{Word}
use Rattle.swc_tree_node.specs.declared.kind.Word.TheVariants as word
use Rattle.swc_tree_node.specs.declared.node.Node.{Node, out-Node}
use Rattle.swc_tree_node.specs.declared.node.Node.TheOpen.{Node-F}
use Rattle.swc_tree_scoping.specs.Places.{has_use_strict, block_in, flag_in, is_plain_function}
use Rattle.swc_tree_grammar.specs.Shapes.{VarDecl, FnDecl, Declarator}
use Rattle.swc_tree_grammar.specs.Levels.{word_of, is_absent}

abbrev pub holds : Node → Bool
holds flag = flag_in (out-Node flag)

-- what kind of statement a node is
pub data Form : Type 0 where
  Ordinary : Form
  PlainFunction : Form
  Declaring : Form
  Using : Form

abbrev pub form_of_word : Option Word → Form
form_of_word (Some word.Var) = Ordinary
form_of_word _ = Declaring

abbrev pub form_of_function : Bool → Form
form_of_function true = PlainFunction
form_of_function false = Declaring

abbrev pub form_in : Node-F Node → Form
form_in (VarDecl span keyword decls) = form_of_word (word_of keyword)
form_in (FnDecl ident function) = form_of_function (is_plain_function (Some function))
form_in (Node-F.Tree kind.ClassDecl ts) = Declaring
form_in (Node-F.Tree kind.UsingDecl ts) = Using
form_in (Node-F.Tree kind.TsInterfaceDecl ts) = Declaring
form_in (Node-F.Tree kind.TsTypeAliasDecl ts) = Declaring
form_in (Node-F.Tree kind.TsEnumDecl ts) = Declaring
form_in (Node-F.Tree kind.TsModuleDecl ts) = Declaring
form_in _ = Ordinary

abbrev pub form : Node → Form
form t = form_in (out-Node t)

-- the body of a loop or of a `with`
abbrev pub is_body : Form → Bool
is_body Ordinary = true
is_body _ = false

-- a branch of an `if`, or what a label names: in sloppy code a plain function too
abbrev pub is_branch : Bool → Form → Bool
is_branch strict Ordinary = true
is_branch strict PlainFunction = not strict
is_branch strict _ = false

abbrev pub is_using_form : Form → Bool
is_using_form Using = true
is_using_form _ = false

abbrev pub is_using : Node → Bool
is_using t = is_using_form (form t)

-- a body makes its code strict
abbrev pub is_strict : Node → Bool
is_strict body = has_use_strict (block_in (out-Node body))

-- a declarator that names one identifier, with an initialiser or without
abbrev pub is_name_in : Node-F Node → Bool
is_name_in (Node-F.Identifier kind.BindingIdent i) = true
is_name_in _ = false

abbrev pub is_named_in : Bool → Node-F Node → Bool
is_named_in with_init (Declarator span name init) = is_name_in (out-Node name) && (if with_init then not (is_absent init) else is_absent init)
is_named_in with_init _ = false

-- the declarators of `using`: identifiers, with initialisers or, in the head of a `for`, without
abbrev pub are_named : Bool → List Node → Bool
are_named with_init ds = list_all (λ d. is_named_in with_init (out-Node d)) ds
