-- The texts of a program that names give way to: what other programs, objects and statements know it by.
use Rattle.std.specs.Prelude.{ℕ, Bool, true, false, ◌||◌, Option, Some, None, List, [], ◌∷◌, ◌++◌, map, slice_get, if◌then◌else◌}
use Rattle.std.specs.List.{flat_map}
use Rattle.swc_tree_marks.specs.declared.ident.Ident.{Ident}
use Rattle.swc_tree_node.specs.declared.kind.Kind.{Kind}
use Rattle.swc_tree_node.specs.declared.kind.Kind.TheVariants as kind
use Rattle.swc_tree_node.specs.declared.fields.modules.export_named_specifier.TheConstants as export_named_specifier
use Rattle.swc_tree_node.specs.declared.fields.modules.import_named_specifier.TheConstants as import_named_specifier
use Rattle.swc_tree_node.specs.declared.fields.patterns.assign_pat_prop.TheConstants as assign_pat_prop
use Rattle.swc_tree_node.specs.declared.node.Node.{Node, out-Node}
use Rattle.swc_tree_node.specs.declared.node.Node.TheOpen.{Node-F}
use Rattle.swc_tree_scoping.specs.declared.places.Standing.{Standing}
use Rattle.swc_tree_scoping.specs.declared.places.Standing.TheVariants as standing
use Rattle.swc_tree_scoping.specs.declared.places.Place.{Place}
use Rattle.swc_tree_scoping.specs.Places.{is_there, program_place}
use Rattle.swc_tree_scoping.specs.Folds.{fold_in_place}
use Rattle.swc_base_rename_substitution.specs.Identifiers.{identifier_at}
use Rattle.swc_base_rename_substitution.specs.Exports.{exported_ids}

-- an identifier that stands so is no name of the program's own
abbrev pub is_outer : Standing → Bool
is_outer standing.Label = true
is_outer standing.Imported = true
is_outer standing.Exported = true
is_outer _ = false

abbrev pub text_of : Option Ident → List (List ℕ)
text_of None = []
text_of (Some i) = i.sym ∷ []

-- the name in one field, where nothing stands in another
abbrev pub text_unless : ℕ → ℕ → List Node → List (List ℕ)
text_unless name other ts = if is_there (slice_get ts other) then [] else text_of (identifier_at ts name)

-- the key of `{ a }` in a pattern
abbrev pub key_text : Kind → List Node → List (List ℕ)
key_text kind.AssignPatProp ts = text_of (identifier_at ts assign_pat_prop.KEY)
key_text _ ts = []

-- what `import { a }` and `export { a }` name on the other side, and what an exported declaration exports
abbrev pub other_texts : Kind → List Node → Node → List (List ℕ)
other_texts kind.ImportNamedSpecifier ts t = text_unless import_named_specifier.LOCAL import_named_specifier.IMPORTED ts
other_texts kind.ExportNamedSpecifier ts t = text_unless export_named_specifier.ORIG export_named_specifier.EXPORTED ts
other_texts kind.ExportDecl ts t = map (λ x. x.0) (exported_ids t)
other_texts _ ts t = []

abbrev pub is_object : Kind → Bool
is_object kind.ObjectLit = true
is_object _ = false

-- `short`: an identifier is a shorthand property, and so a key
abbrev pub texts_in : Place → Bool → Node → Node-F Node → List (Bool → List (List ℕ)) → List (List ℕ)
texts_in w short t (Node-F.Text x) below = x ∷ []
texts_in w short t (Node-F.Identifier k i) below = if short || is_outer w.standing then i.sym ∷ [] else []
texts_in w short t (Node-F.List ts) below = flat_map (λ texts. texts short) below
texts_in w short t (Node-F.Tree k ts) below = key_text k ts ++ (flat_map (λ texts. texts (is_object k)) below ++ other_texts k ts t)
texts_in w short t _ below = []

abbrev pub texts_step : Place → Node → List (Bool → List (List ℕ)) → Bool → List (List ℕ)
texts_step w t below short = texts_in w short t (out-Node t) below

-- strings, keys, labels, imported and exported names, in the order of the source
abbrev pub outer_texts : Node → List (List ℕ)
outer_texts t = fold_in_place texts_step program_place t false
