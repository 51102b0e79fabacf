-- Trees that can be written down once parentheses are set where they are due: what the grammar and its early
-- errors ask besides levels, first tokens and bare `in`.
use Rattle.std.specs.Prelude.{ℕ, suc, List, [], ◌∷◌, length, Bool, true, false, not, ◌&&◌, ◌||◌, IsTrue, nat_le, nat_eq, codes, Option, Some, is_some, unwrap_or, if◌then◌else◌}
use Rattle.std.specs.List.{list_all, list_any}
use Rattle.std.specs.Cmp.Lexicographic.{pointwise}
use Rattle.swc_tree_node.specs.declared.kind.Kind.{Kind}
use Rattle.swc_tree_node.specs.declared.kind.Kind.TheVariants as kind
use Rattle.swc_tree_node.specs.declared.kind.Word.{Word}
use Rattle.swc_tree_node.specs.declared.kind.Word.TheVariants as word
use Rattle.swc_tree_node.specs.declared.node.Node.{Node, out-Node, roll-Node, fold-Node, map-Node}
use Rattle.swc_tree_node.specs.declared.node.Node.TheOpen.{Node-F}
use Rattle.swc_tree_scoping.specs.Places.{has_use_strict, text_in, literal_in}
use Rattle.swc_tree_grammar.specs.Shapes.{Seq, Assign, Bin, Update, Member, Tpl, OptChain, OptCall, ClassMethod, PrivateMethod, PrivateProp, Constructor, Getter, Setter, Arrow, Function, Class, FnExpr, ClassExpr, FnDecl, Declarator, AssignPat, AssignPatProp, ArrayPat, ObjectPat, RestPat, KeyValuePat, Catch, VarDecl, UsingDecl, Statement, ExportDecl, Str, With, Labeled, If, Case, While, DoWhile, For, ForIn, ForOf, Module, Script, items_of}
use Rattle.swc_tree_grammar.specs.Levels.{word_of, is_in, is_absent}
use Rattle.swc_tree_grammar.specs.Forms.{form, is_body, is_branch, is_using, is_strict, are_named, holds}
use Rattle.swc_tree_grammar.specs.Kinds.{has_kind, is_private_name, is_chain, is_paren, is_rest}
use Rattle.swc_tree_grammar.specs.Targets.{is_target}
use Rattle.swc_tree_grammar.specs.Stripped.{stripped}

abbrev pub is_letter : ℕ → Bool
is_letter c = (nat_le 97 c && nat_le c 122) || ((nat_le 65 c && nat_le c 90) || (nat_eq c 36 || (nat_eq c 95 || nat_le 128 c)))

abbrev pub is_digit : ℕ → Bool
is_digit c = nat_le 48 c && nat_le c 57

abbrev pub reserved : List (List ℕ)
reserved = codes "await" ∷ codes "break" ∷ codes "case" ∷ codes "catch" ∷ codes "class" ∷ codes "const" ∷ codes "continue" ∷ codes "debugger" ∷ codes "default"
    ∷ codes "delete" ∷ codes "do" ∷ codes "else" ∷ codes "enum" ∷ codes "export" ∷ codes "extends" ∷ codes "false" ∷ codes "finally" ∷ codes "for" ∷ codes "function"
    ∷ codes "if" ∷ codes "import" ∷ codes "in" ∷ codes "instanceof" ∷ codes "new" ∷ codes "null" ∷ codes "return" ∷ codes "super" ∷ codes "switch" ∷ codes "this"
    ∷ codes "throw" ∷ codes "true" ∷ codes "try" ∷ codes "typeof" ∷ codes "var" ∷ codes "void" ∷ codes "while" ∷ codes "with" ∷ codes "yield" ∷ codes "let"
    ∷ codes "static" ∷ codes "implements" ∷ codes "interface" ∷ codes "package" ∷ codes "private" ∷ codes "protected" ∷ codes "public" ∷ []

abbrev pub begins_name : List ℕ → Bool
begins_name [] = false
begins_name (c ∷ cs) = is_letter c && list_all (λ c. is_letter c || is_digit c) cs

-- an identifier (ECMA-262, 12.7), with no character classes past ASCII
abbrev pub is_identifier_text : List ℕ → Bool
is_identifier_text text = begins_name text && not (list_any (pointwise nat_eq text) reserved)

-- a name that may be bound: in strict code neither `eval` nor `arguments` (13.1.1)
abbrev pub is_bindable : Bool → List ℕ → Bool
is_bindable strict text = is_identifier_text text && not (strict && (pointwise nat_eq text (codes "eval") || pointwise nat_eq text (codes "arguments")))

-- what stands round a node: whether the code is strict, and whether the names in a pattern are assigned to and not bound
pub record Round : Type 0 where
  pub strict : Bool
  pub assigned : Bool

abbrev pub Sound : Type 0
Sound = Round → Bool

pub record Asked : Type 0 where
  pub whole : Node
  pub sound : Sound
  -- the same of a declaration in the head of a `for` in or of
  pub in_head : Sound

abbrev pub strictly : Bool → Round → Round
strictly b r = record { strict = r.strict || b; assigned = false }

abbrev pub binding : Round → Round
binding r = record r { assigned = false }

abbrev pub assigning : Round → Round
assigning r = record r { assigned = true }

abbrev pub name_is : Bool → Node-F Node → Bool
name_is strict (Node-F.Identifier k i) = is_bindable strict i.sym
name_is strict Node-F.Absent = true
name_is strict _ = false

-- a name that is bound and is no pattern
abbrev pub bound : Asked → Round → Bool
bound e r = name_is r.strict (out-Node e.whole)

abbrev pub is_plain_pattern_in : Node-F Node → Bool
is_plain_pattern_in (Node-F.Identifier kind.BindingIdent i) = true
is_plain_pattern_in (Node-F.Tree kind.ArrayPat ts) = true
is_plain_pattern_in (Node-F.Tree kind.ObjectPat ts) = true
is_plain_pattern_in _ = false

-- a name or a pattern; where values are assigned also a member or a property of `super`
abbrev pub pattern : Node → Round → Bool
pattern t r = is_plain_pattern_in (out-Node t) || (r.assigned && is_target t)

abbrev pub default_in : Node-F Node → Bool
default_in (AssignPat span left right) = true
default_in _ = false

abbrev pub element : Node → Round → Bool
element t r = default_in (out-Node t) || pattern t r

abbrev pub property_in : Node-F Node → Bool
property_in (Node-F.Tree kind.KeyValuePatProp ts) = true
property_in (Node-F.Tree kind.AssignPatProp ts) = true
property_in _ = false

abbrev pub pattern_of_param_in : Node → Node-F Node → Node
pattern_of_param_in t (Node-F.Tree kind.Param (span ∷ pat ∷ [])) = pat
pattern_of_param_in t _ = t

-- what a parameter's pattern is; an element of an array or an object is itself
abbrev pub pattern_of : Node → Node
pattern_of t = pattern_of_param_in t (out-Node t)

abbrev pub is_element : Round → Node → Bool
is_element r t = is_absent t || (property_in (out-Node t) || element (pattern_of t) r)

-- elements, of which only the last may be a rest
abbrev pub elements : Round → List Node → Bool
elements r [] = true
elements r (t ∷ []) = has_kind is_rest (pattern_of t) || is_element r t
elements r (t ∷ u ∷ ts) = is_element r t && elements r (u ∷ ts)

abbrev pub is_pattern_target : Kind → Bool
is_pattern_target kind.ArrayPat = true
is_pattern_target kind.ObjectPat = true
is_pattern_target _ = false

abbrev pub is_plain_assignment : Option Word → Bool
is_plain_assignment (Some word.Assign) = true
is_plain_assignment _ = false

-- patterns are assigned to by `=` alone, and what stands in parentheses must be able to stand bare
abbrev pub left_side : Option Word → Node → Bool
left_side op t = (not (has_kind is_pattern_target t) || is_plain_assignment op) && (not (has_kind is_paren t) || is_target t)

abbrev pub no_private : Asked → Bool
no_private e = not (has_kind is_private_name e.whole)

-- a part of a chain that goes on from a chain, pairs taken off
abbrev pub base_goes_on_in : Node-F Node → Bool
base_goes_on_in (Member span obj prop) = is_chain (stripped obj)
base_goes_on_in (OptCall span callee args) = is_chain (stripped callee)
base_goes_on_in _ = false

abbrev pub is_const : Option Word → Bool
is_const (Some word.Const) = true
is_const _ = false

abbrev pub is_name_kind_in : Node-F Node → Bool
is_name_kind_in (Node-F.Identifier k i) = true
is_name_kind_in _ = false

-- a declarator with an initialiser where one must be
abbrev pub initialised_in : Bool → Node-F Node → Bool
initialised_in constant (Declarator span name init) = (not constant && is_name_kind_in (out-Node name)) || not (is_absent init)
initialised_in constant _ = false

-- the declaration in the head of a `for` in or of: one, without initialiser
abbrev pub one_bare : List Node → Bool
one_bare (d ∷ []) = not (initialised_in true (out-Node d))
one_bare _ = false

abbrev pub is_getter : Option Word → Bool
is_getter (Some word.Getter) = true
is_getter _ = false

abbrev pub is_setter : Option Word → Bool
is_setter (Some word.Setter) = true
is_setter _ = false

abbrev pub parameters_in : Node-F Node → List Node
parameters_in (Function span params body is_generator is_async) = items_of params
parameters_in _ = []

abbrev pub one_without_rest : List Node → Bool
one_without_rest (t ∷ []) = not (has_kind is_rest (pattern_of t))
one_without_rest _ = false

-- a getter has no parameter, a setter one, which is no rest
abbrev pub accessor : Node → Node → Bool
accessor function keyword =
    (not (is_getter (word_of keyword)) || nat_eq (length (parameters_in (out-Node function))) 0)
    && (not (is_setter (word_of keyword)) || one_without_rest (parameters_in (out-Node function)))

abbrev pub is_text : List ℕ → Node → Bool
is_text x t = pointwise nat_eq (unwrap_or (text_in (out-Node t)) []) x

abbrev pub constructor_key_in : Node-F Node → Bool
constructor_key_in (Node-F.Tree kind.IdentName (span ∷ sym ∷ [])) = is_text (codes "constructor") sym
constructor_key_in (Str span value raw) = is_text (codes "constructor") value
constructor_key_in _ = false

abbrev pub is_string : Node → Bool
is_string t = is_some (literal_in (out-Node t))

-- an export list without source holds names of the program
abbrev pub local_specifier_in : Node-F Node → Bool
local_specifier_in (Node-F.Tree kind.ExportNamedSpecifier (span ∷ orig ∷ exported ∷ [])) = is_name_kind_in (out-Node orig)
local_specifier_in _ = false

abbrev pub no_using : Asked → Bool
no_using es = list_all (λ t. not (is_using t)) (items_of es.whole)

abbrev pub loop_body : Asked → Round → Bool
loop_body body r = is_body (form body.whole) && body.sound r

abbrev pub branch : Asked → Round → Bool
branch b r = is_branch r.strict (form b.whole) && b.sound r

abbrev pub declares_in : Node-F Node → Bool
declares_in (VarDecl span keyword decls) = true
declares_in (UsingDecl span is_await decls) = true
declares_in _ = false

-- the head of a `for` in or of: a declaration, or what is assigned to
abbrev pub head : Asked → Round → Bool
head left r = if declares_in (out-Node left.whole) then left.in_head r else (pattern left.whole (assigning r) && left.sound (assigning r))

abbrev pub in_head_in : Node-F Asked → Sound
in_head_in (VarDecl span keyword decls) r = one_bare (items_of decls.whole) && decls.sound (binding r)
in_head_in (UsingDecl span is_await decls) r = one_bare (items_of decls.whole) && (are_named false (items_of decls.whole) && decls.sound (binding r))
in_head_in _ r = false

abbrev pub all_sound : List Asked → Round → Bool
all_sound es r = list_all (λ e. no_private e && e.sound r) es

abbrev pub sound_in : Node-F Asked → Sound
sound_in (Node-F.Identifier kind.BindingIdent i) r = if r.assigned then is_identifier_text i.sym else is_bindable r.strict i.sym
sound_in (Node-F.Identifier k i) r = is_identifier_text i.sym
sound_in (Node-F.List es) r = all_sound es r
sound_in (Seq span exprs) r = nat_le 2 (length (items_of exprs.whole)) && exprs.sound r
sound_in (Assign span op left right) r = left_side (word_of op.whole) left.whole && (left.sound (assigning r) && all_sound (right ∷ []) (binding r))
sound_in (Update span op prefix arg) r = is_target arg.whole && arg.sound (binding r)
sound_in (Bin span op left right) r = (is_in (word_of op.whole) || no_private left) && (left.sound (binding r) && all_sound (right ∷ []) (binding r))
sound_in (Member span obj prop) r = no_private obj && (obj.sound (binding r) && prop.sound (binding r))
sound_in (Tpl span exprs quasis) r = nat_eq (length (items_of quasis.whole)) (suc (length (items_of exprs.whole))) && exprs.sound (binding r)
sound_in (OptChain span optional base) r = (holds optional.whole || base_goes_on_in (out-Node base.whole)) && base.sound (binding r)
sound_in (ArrayPat span elems) r = elements r (items_of elems.whole) && elems.sound r
sound_in (ObjectPat span props) r = elements r (items_of props.whole) && props.sound r
sound_in (RestPat span arg) r = pattern arg.whole r && arg.sound r
sound_in (KeyValuePat key value) r = element value.whole r && (key.sound (binding r) && value.sound r)
sound_in (AssignPat span left right) r = pattern left.whole r && (left.sound r && all_sound (right ∷ []) (binding r))
sound_in (AssignPatProp span key value) r = key.sound r && all_sound (value ∷ []) (binding r)
sound_in (Arrow span params body is_async) r = elements (binding r) (items_of params.whole) && all_sound (params ∷ body ∷ []) (strictly (is_strict body.whole) r)
sound_in (Function span params body is_generator is_async) r = elements (binding r) (items_of params.whole) && all_sound (params ∷ body ∷ []) (strictly (is_strict body.whole) r)
sound_in (Constructor span key params body) r =
    constructor_key_in (out-Node key.whole) && (elements (binding r) (items_of params.whole) && all_sound (params ∷ body ∷ []) (binding r))
sound_in (Getter span key body) r = all_sound (key ∷ []) (binding r) && all_sound (body ∷ []) (strictly (is_strict body.whole) r)
sound_in (Setter span key param body) r = element param.whole (binding r) && (all_sound (key ∷ []) (binding r) && all_sound (param ∷ body ∷ []) (strictly (is_strict body.whole) r))
sound_in (ClassMethod span key function keyword is_static) r = accessor function.whole keyword.whole && (key.sound (binding r) && function.sound r)
sound_in (PrivateMethod span key function keyword is_static) r = accessor function.whole keyword.whole && function.sound r
sound_in (PrivateProp span key value is_static) r = all_sound (value ∷ []) (binding r)
sound_in (Class span super_class body) r = all_sound (super_class ∷ body ∷ []) (strictly true r)
sound_in (FnDecl ident function) r = bound ident r && function.sound r
sound_in (FnExpr ident function) r = bound ident r && function.sound r
sound_in (Node-F.Tree kind.ClassDecl (ident ∷ class ∷ [])) r = bound ident (strictly true r) && class.sound r
sound_in (ClassExpr ident class) r = bound ident (strictly true r) && class.sound r
sound_in (Declarator span name init) r = pattern name.whole (binding r) && (name.sound (binding r) && all_sound (init ∷ []) (binding r))
sound_in (VarDecl span keyword decls) r = list_all (λ d. initialised_in (is_const (word_of keyword.whole)) (out-Node d)) (items_of decls.whole) && decls.sound r
sound_in (UsingDecl span is_await decls) r = are_named true (items_of decls.whole) && decls.sound r
sound_in (Statement span expr) r = (not (is_string (stripped expr.whole)) || is_string expr.whole) && all_sound (expr ∷ []) (binding r)
sound_in (Catch span param body) r = (is_absent param.whole || pattern param.whole (binding r)) && (param.sound (binding r) && body.sound r)
sound_in (With span obj body) r = all_sound (obj ∷ []) (binding r) && loop_body body r
sound_in (Labeled span label body) r = label.sound r && branch body r
sound_in (If span test cons alt) r = all_sound (test ∷ []) (binding r) && (branch cons r && (is_absent alt.whole || branch alt r))
sound_in (Case span test cons) r = all_sound (test ∷ []) (binding r) && (no_using cons && cons.sound r)
sound_in (While span test body) r = all_sound (test ∷ []) (binding r) && loop_body body r
sound_in (DoWhile span body test) r = all_sound (test ∷ []) (binding r) && loop_body body r
sound_in (For span init test update body) r = all_sound (init ∷ test ∷ update ∷ []) (binding r) && loop_body body r
sound_in (ForIn span left right body) r = not (is_using left.whole) && (head left r && (all_sound (right ∷ []) (binding r) && loop_body body r))
sound_in (ForOf span is_await left right body) r = head left r && (all_sound (right ∷ []) (binding r) && loop_body body r)
sound_in (Node-F.Tree kind.ImportNamedSpecifier (span ∷ local ∷ imported ∷ [])) r = bound local r
sound_in (Node-F.Tree kind.ImportDefaultSpecifier (span ∷ local ∷ [])) r = bound local r
sound_in (Node-F.Tree kind.ImportStarAsSpecifier (span ∷ local ∷ [])) r = bound local r
sound_in (Node-F.Tree kind.NamedExport (span ∷ specifiers ∷ src ∷ attributes ∷ [])) r =
    not (is_absent src.whole) || (list_all (λ t. local_specifier_in (out-Node t)) (items_of specifiers.whole) && specifiers.sound r)
sound_in (Node-F.Tree kind.ExportNamedSpecifier (span ∷ orig ∷ exported ∷ [])) r = orig.sound r
sound_in (Node-F.Tree kind.ExportNamespaceSpecifier es) r = true
sound_in (ExportDecl span decl) r = not (is_using decl.whole) && decl.sound r
sound_in (Module span body shebang) r = body.sound (strictly true r)
sound_in (Script span body shebang) r = no_using body && body.sound (strictly (has_use_strict (items_of body.whole)) r)
sound_in (Node-F.Tree kind.TsInterfaceDecl es) r = false
sound_in (Node-F.Tree kind.TsTypeAliasDecl es) r = false
sound_in (Node-F.Tree kind.TsEnumDecl es) r = false
sound_in (Node-F.Tree kind.TsModuleDecl es) r = false
sound_in (Node-F.Tree k es) r = all_sound es (binding r)
sound_in _ r = true

abbrev pub asked_step : Node-F Asked → Asked
asked_step x = record { whole = roll-Node (map-Node Asked Node (λ e. e.whole) x); sound = sound_in x; in_head = in_head_in x }

abbrev pub is_writable : Node → Bool
is_writable t = (fold-Node Asked asked_step t).sound (record { strict = false; assigned = false })

-- the program can be written down
abbrev pub Writable : Node → Type 0
Writable t = IsTrue (is_writable t)
