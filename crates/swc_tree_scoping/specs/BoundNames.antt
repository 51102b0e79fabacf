-- The names that a pattern or a declaration binds (ECMA-262, 8.2.1 BoundNames), in the order of the source.
use Rattle.std.specs.Prelude.{◌≡◌, ℕ, zero, suc, nat_eq, Bool, ◌&&◌, Option, Some, None, List, [], ◌∷◌, ◌++◌, slice_get}
use Rattle.std.specs.List.{flat_map}
use Rattle.std.specs.Cmp.Lexicographic.{pointwise}
use Rattle.swc_tree_node.specs.Lower.swc_tree_marks.specs.declared.ident.Ident.{Ident}
use Rattle.swc_tree_node.specs.declared.kind.Kind.{Kind}
use Rattle.swc_tree_node.specs.declared.kind.Kind.TheVariants as kind
use Rattle.swc_tree_node.specs.declared.slot.Role.{Role}
use Rattle.swc_tree_node.specs.declared.slot.Role.TheVariants as role
use Rattle.swc_tree_node.specs.declared.fields.statements.class_decl.TheConstants as class_decl
use Rattle.swc_tree_node.specs.declared.fields.statements.fn_decl.TheConstants as fn_decl
use Rattle.swc_tree_node.specs.declared.node.Node.{Node, out-Node, fold-Node}
use Rattle.swc_tree_node.specs.declared.node.Node.TheOpen.{Node-F}
use Rattle.swc_tree_scoping.specs.Places.{field_role}

-- a text and a context
abbrev pub Id : Type 0
Id = List ℕ × List ℕ

-- ids are one where their texts and their contexts are
abbrev pub same_id : Id → Id → Bool
same_id x y = pointwise nat_eq x.0 y.0 && pointwise nat_eq x.1 y.1

-- patterns bind by identifiers of their own kind; an identifier expression binds nothing
abbrev pub own_id : Kind → Ident → List Id
own_id kind.BindingIdent x = (x.sym, x.ctxt) ∷ []
own_id _ x = []

-- what is bound in a declarator or a part of a pattern, and in no key, default or initializer
abbrev pub in_part : Role → List Id → List Id
in_part role.Declared ids = ids
in_part role.Lexical ids = ids
in_part role.Inherited ids = ids
in_part _ ids = []

-- what is bound in all parts, by their roles
abbrev pub in_parts : (ℕ → Role) → List (List Id) → List Id
in_parts roles [] = []
in_parts roles (ids ∷ rest) = in_part (roles zero) ids ++ in_parts (λ i. roles (suc i)) rest

abbrev pub bound_step : Node-F (List Id) → List Id
bound_step (Node-F.Identifier k x) = own_id k x
bound_step (Node-F.List items) = flat_map (λ ids. ids) items
bound_step (Node-F.Tree k fields) = in_parts (field_role k) fields
bound_step _ = []

-- the ids that a pattern binds, or the declarators of `var`, `let`, `const` and `using`
abbrev pub bound_ids : Node → List Id
bound_ids = fold-Node (List Id) bound_step

abbrev pub name_in : Node-F Node → Option Ident
name_in (Node-F.Identifier k x) = Some x
name_in _ = None

-- the name in a field
abbrev pub name_of : Option Node → Option Ident
name_of None = None
name_of (Some t) = name_in (out-Node t)

abbrev pub id_of : Option Ident → List Id
id_of None = []
id_of (Some x) = (x.sym, x.ctxt) ∷ []

abbrev pub declared_in : Node → Node-F Node → List Id
declared_in t (Node-F.Tree kind.FnDecl fields) = id_of (name_of (slice_get fields fn_decl.IDENT))
declared_in t (Node-F.Tree kind.ClassDecl fields) = id_of (name_of (slice_get fields class_decl.IDENT))
declared_in t _ = bound_ids t

-- the ids that a declaration binds: the name of a function or a class, or those of its declarators
abbrev pub declared_ids : Node → List Id
declared_ids t = declared_in t (out-Node t)

-- the list is what it was, followed by a beginning of the ids
pub record PartlyAdded (old ids new : List Id) : Type 0 where
  pub added : List Id
  pub left : List Id
  pub all : ids ≡ added ++ left
  pub list : new ≡ old ++ added
