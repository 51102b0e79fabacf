-- Exported declarations, whose names stay as they were for other modules.
use Rattle.std.specs.Prelude.{◌≡◌, ℕ, Bool, nat_eq, Option, Some, None, is_some, unwrap_or, List, [], ◌∷◌, ◌++◌, map, String, if◌then◌else◌}
use Rattle.std.specs.Global.{Global}
use Rattle.std.specs.List.{list_any}
use Rattle.std.specs.BTreeMap.{BTreeMap, get_by_text}
use Rattle.std.specs.Cmp.Lexicographic.{pointwise}
use Rattle.swc_tree_marks.specs.declared.ident.Ident.{Ident}
use Rattle.swc_tree_node.specs.declared.kind.Kind.TheVariants as kind
use Rattle.swc_tree_node.specs.declared.node.Node.{Node, Absent, Span, List as Many, Identifier, Tree, out-Node}
use Rattle.swc_tree_node.specs.declared.node.Node.TheOpen.{Node-F}
use Rattle.swc_base_rename_substitution.specs.Names.{Id, same_id}
use Rattle.swc_tree_scoping.specs.BoundNames.{declared_ids}
use Rattle.swc_base_rename_substitution.specs.Identifiers.{Changes}

abbrev pub without : Id → List Id → List Id
without x [] = []
without x (y ∷ ys) = if same_id y x then without x ys else y ∷ without x ys

-- each once, in the order in which they first stand
abbrev pub distinct : List Id → List Id
distinct [] = []
distinct (x ∷ xs) = x ∷ without x (distinct xs)

-- the contexts of each text
abbrev pub Seen : Type 0
Seen = BTreeMap (String Global) (List (List ℕ))

abbrev pub contexts_of : Seen → List ℕ → List (List ℕ)
contexts_of seen text = unwrap_or (get_by_text seen text) []

abbrev pub has_seen : Seen → Id → Bool
has_seen seen x = list_any (λ context. pointwise nat_eq context x.1) (contexts_of seen x.0)

-- just the ids of a list
abbrev pub AreSeen : List Id → Seen → Type 0
AreSeen ids seen = (x : Id) → has_seen seen x ≡ list_any (same_id x) ids

-- the ids with one more, unless it is among them
abbrev pub with_one_more : Id → List Id → List Id
with_one_more x xs = if list_any (same_id x) xs then xs else xs ++ x ∷ []

abbrev pub exported_in : Node-F Node → List Id
exported_in (Node-F.Tree kind.ExportDecl (span ∷ declaration ∷ [])) = distinct (declared_ids declaration)
exported_in y = []

-- the ids that an exported declaration binds, each once
abbrev pub exported_ids : Node → List Id
exported_ids t = exported_in (out-Node t)

-- an identifier that stands in no source text
abbrev pub made : Id → Ident
made x = record { span = record { lo = 0; hi = 0 }; ctxt = x.1; sym = x.0 }

abbrev pub nowhere : Node
nowhere = Span (record { lo = 0; hi = 0 })

abbrev pub specifier_to : Id → Option Id → Node
specifier_to x None = Tree kind.ExportNamedSpecifier (nowhere ∷ Identifier kind.Ident (made x) ∷ Absent ∷ [])
specifier_to x (Some y) = Tree kind.ExportNamedSpecifier (nowhere ∷ Identifier kind.Ident (made y) ∷ Identifier kind.Ident (made (x.0, [])) ∷ [])

-- `a1 as a` where `a` becomes `a1`, and else `a`
abbrev pub specifier : Changes → Id → Node
specifier m x = specifier_to x (m x)

-- `export { a1 as a, b };`
abbrev pub export_list : Changes → List Id → Node
export_list m xs = Tree kind.NamedExport (nowhere ∷ Many (map (specifier m) xs) ∷ Absent ∷ Absent ∷ [])

abbrev pub declaration_in : Node → Node-F Node → Node
declaration_in t (Node-F.Tree kind.ExportDecl (span ∷ declaration ∷ [])) = declaration
declaration_in t y = t

-- the declaration without its `export`
abbrev pub declaration_of : Node → Node
declaration_of t = declaration_in t (out-Node t)

-- the export list of the names of an exported declaration, where one of them changes
abbrev pub exports_of : Changes → List Id → Option Node
exports_of m xs = if list_any (λ x. is_some (m x)) xs then Some (export_list m xs) else None

abbrev pub with_exports : Node → Option Node → List Node
with_exports t None = t ∷ []
with_exports t (Some exports) = declaration_of t ∷ exports ∷ []

-- what stands for an item of a list, which was `before` and is now `t`: where a name of an exported
-- declaration changes, the declaration and right after it an export list of all its names
abbrev pub items_for : Changes → Node → Node → List Node
items_for m before t = with_exports t (exports_of m (exported_ids before))
