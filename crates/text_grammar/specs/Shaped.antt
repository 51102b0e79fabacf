-- Lengths that the productions of ECMA-262 have, and what else they ask of nodes side by side that neither the table of the tree
-- nor how tightly expressions bind says.
use Rattle.std.specs.Prelude.{suc, ◌-◌, List, [], ◌∷◌, length, take, Bool, true, false, not, ◌&&◌, ◌||◌, nat_eq, nat_le, Option, Some, None, slice_get, if◌then◌else◌}
use Rattle.std.specs.List.{filter, list_all, list_any}
use Rattle.swc_tree_node.specs.declared.kind.Kind.{Kind}
use Rattle.swc_tree_node.specs.declared.kind.Kind.TheVariants as kind
use Rattle.swc_tree_node.specs.declared.node.Node.{Node, out-Node}
use Rattle.swc_tree_node.specs.declared.node.Node.TheOpen.{Node-F}
use Rattle.swc_tree_scoping.specs.Places.{is_plain_function}
use Rattle.swc_tree_grammar.specs.Shapes.{Argument, Call, Case, Class, ClassMethod, ObjectPat, PrivateMethod, RestPat, Seq, Switch, Tpl, UsingDecl, VarDecl, Yield, items_of}
use Rattle.swc_tree_grammar.specs.Kinds.{has_kind, is_destructuring}
use Rattle.swc_tree_grammar.specs.Levels.{is_absent, word_of}
use Rattle.swc_tree_grammar.specs.Forms.{holds}
use Rattle.swc_tree_grammar.specs.Writable.{constructor_key_in, is_getter, is_setter}
use Rattle.swc_tree_walk.specs.Nodes.{HasNode}

abbrev pub at_most_one : (Node → Bool) → List Node → Bool
at_most_one p ts = nat_le (length (filter p ts)) 1

-- the same, one after another; `found` says that one stands before them
abbrev pub no_second : (Node → Bool) → Bool → List Node → Bool
no_second p found [] = true
no_second p found (t ∷ ts) = if p t then (not found && no_second p true ts) else no_second p found ts

abbrev pub is_empty : List Node → Bool
is_empty [] = true
is_empty _ = false

-- ---- imports and exports (16.2.2, 16.2.3)

abbrev pub default_kind : Kind → Bool
default_kind kind.ImportDefaultSpecifier = true
default_kind _ = false

abbrev pub star_kind : Kind → Bool
star_kind kind.ImportStarAsSpecifier = true
star_kind kind.ExportNamespaceSpecifier = true
star_kind _ = false

abbrev pub named_kind : Kind → Bool
named_kind kind.ImportNamedSpecifier = true
named_kind kind.ExportNamedSpecifier = true
named_kind _ = false

-- one name for the whole of a module, or any number of names
abbrev pub are_names : List Node → Bool
are_names ts = list_all (has_kind named_kind) ts

abbrev pub star_or_names : List Node → Bool
star_or_names (t ∷ []) = has_kind star_kind t || has_kind named_kind t
star_or_names ts = are_names ts

-- what an import binds: the default first, if at all
abbrev pub is_clause : List Node → Bool
is_clause (t ∷ ts) = if has_kind default_kind t then star_or_names ts else star_or_names (t ∷ ts)
is_clause [] = true

-- what an export list has: without a source names alone, and no attributes
abbrev pub is_export : List Node → Node → Node → Bool
is_export specifiers src attributes = if is_absent src then are_names specifiers && is_absent attributes else star_or_names specifiers

-- ---- classes (15.7)

abbrev pub constructor_kind : Kind → Bool
constructor_kind kind.Constructor = true
constructor_kind _ = false

abbrev pub is_constructor : Node → Bool
is_constructor t = has_kind constructor_kind t

-- getters and setters are neither async nor generators
abbrev pub is_accessor : Node → Bool
is_accessor keyword = is_getter (word_of keyword) || is_setter (word_of keyword)

abbrev pub is_odd_accessor : Node → Node → Bool
is_odd_accessor function keyword = is_accessor keyword && not (is_plain_function (Some function))

-- a method of the name `constructor` that is not static is the constructor, and stands as such
abbrev pub is_odd_method : Node → Node → Bool
is_odd_method key is_static = constructor_key_in (out-Node key) && not (holds is_static)

-- ---- templates, calls and patterns

abbrev pub tail_in : Node-F Node → Bool
tail_in (Node-F.Tree kind.TplElement (span ∷ tail ∷ cooked ∷ raw ∷ [])) = holds tail
tail_in _ = false

abbrev pub is_tail : Node → Bool
is_tail t = tail_in (out-Node t)

abbrev pub tail_at : Option Node → Bool
tail_at (Some t) = is_tail t
tail_at None = false

-- the last of a template's texts is the tail, and none before it
abbrev pub ends_in_tail : List Node → Bool
ends_in_tail ts = tail_at (slice_get ts (length ts - 1)) && not (list_any is_tail (take (length ts - 1) ts))

-- one text more than parts (13.2.8)
abbrev pub is_template : List Node → List Node → Bool
is_template parts texts = nat_eq (length texts) (suc (length parts)) && ends_in_tail texts

abbrev pub import_kind : Kind → Bool
import_kind kind.Import = true
import_kind _ = false

abbrev pub spread_in : Node-F Node → Bool
spread_in (Argument spread expr) = not (is_absent spread)
spread_in _ = false

abbrev pub is_spread : Node → Bool
is_spread t = spread_in (out-Node t)

-- what `import` is called with: a module, and options or none (13.3.10)
abbrev pub are_imported : List Node → Bool
are_imported (m ∷ []) = not (is_spread m)
are_imported (m ∷ o ∷ []) = not (is_spread m) && not (is_spread o)
are_imported _ = false

-- `import` is called so
abbrev pub is_odd_call : Node → Node → Bool
is_odd_call callee args = has_kind import_kind callee && not (are_imported (items_of args))

-- `yield` with a star has an operand (15.5)
abbrev pub is_odd_yield : Node → Node → Bool
is_odd_yield arg delegate = holds delegate && is_absent arg

-- the rest of an object is no pattern that takes it apart (13.15.5, 14.3.3)
abbrev pub odd_rest_in : Node-F Node → Bool
odd_rest_in (RestPat span arg) = has_kind is_destructuring arg
odd_rest_in _ = false

abbrev pub is_odd_rest : Node → Bool
is_odd_rest t = odd_rest_in (out-Node t)

-- ---- statements

-- a case without a test: the default, of which there is at most one (14.12)
abbrev pub default_in : Node-F Node → Bool
default_in (Case span test cons) = is_absent test
default_in _ = false

abbrev pub is_default : Node → Bool
is_default t = default_in (out-Node t)

-- `try` has a handler or a finalizer (14.15)
abbrev pub is_bare_try : Node → Node → Bool
is_bare_try handler finalizer = is_absent handler && is_absent finalizer

-- ---- each node

-- a declaration, an import or an export whose lengths no production has
abbrev pub is_misshapen_item : Node-F Node → Bool
is_misshapen_item (VarDecl span keyword decls) = is_empty (items_of decls)
is_misshapen_item (UsingDecl span is_await decls) = is_empty (items_of decls)
is_misshapen_item (Node-F.Tree kind.ImportDecl (span ∷ specifiers ∷ src ∷ attributes ∷ [])) = not (is_clause (items_of specifiers))
is_misshapen_item (Node-F.Tree kind.NamedExport (span ∷ specifiers ∷ src ∷ attributes ∷ [])) = not (is_export (items_of specifiers) src attributes)
is_misshapen_item _ = false

-- a class or a member of one
abbrev pub is_misshapen_member : Node-F Node → Bool
is_misshapen_member (Class span super_class body) = not (at_most_one is_constructor (items_of body))
is_misshapen_member (ClassMethod span key function keyword is_static) = is_odd_accessor function keyword || is_odd_method key is_static
is_misshapen_member (PrivateMethod span key function keyword is_static) = is_odd_accessor function keyword
is_misshapen_member x = is_misshapen_item x

-- any node of which this holds
abbrev pub is_misshapen : Node-F Node → Bool
is_misshapen (Node-F.Tree kind.TryStmt (span ∷ block ∷ handler ∷ finalizer ∷ [])) = is_bare_try handler finalizer
is_misshapen (Switch span discriminant cases) = not (at_most_one is_default (items_of cases))
is_misshapen (Seq span exprs) = not (nat_le 2 (length (items_of exprs)))
is_misshapen (Yield span arg delegate) = is_odd_yield arg delegate
is_misshapen (Tpl span exprs quasis) = not (is_template (items_of exprs) (items_of quasis))
is_misshapen (Call span callee args) = is_odd_call callee args
is_misshapen (ObjectPat span props) = list_any is_odd_rest (items_of props)
is_misshapen x = is_misshapen_member x

-- each node has lengths that its production has
abbrev pub Shaped : Node → Type 0
Shaped t = HasNode is_misshapen t → ⊥
