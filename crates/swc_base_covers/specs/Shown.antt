-- Where a cause shows in a program.
use Rattle.std.specs.Prelude.{◌≡◌, ◌<◌, ◌⊎◌, ◌||◌, ◌&&◌, ℕ, Bool, true, false, IsTrue, Option, Some, None, List, [], ◌∷◌, Vec, codes, slice_get}
use Rattle.std.specs.Str.{bytes_eq}
use Rattle.swc_tree_marks.specs.declared.ident.Ident.{Ident}
use Rattle.swc_tree_node.specs.declared.fields.statements.labeled_stmt.TheConstants as labeled_stmt
use Rattle.swc_tree_node.specs.declared.kind.Kind.{Kind}
use Rattle.swc_tree_node.specs.declared.kind.Kind.TheVariants as kind
use Rattle.swc_tree_node.specs.declared.node.Node.{Node, out-Node}
use Rattle.swc_tree_node.specs.declared.node.Node.TheOpen.{Node-F}
use Rattle.swc_tree_scoping.specs.declared.places.Place.{Place}
use Rattle.swc_tree_scoping.specs.declared.places.Standing.{Standing}
use Rattle.swc_tree_scoping.specs.declared.places.Standing.TheVariants as standing
use Rattle.swc_tree_scoping.specs.Places.{Path, given, place_at, program_place}
use Rattle.swc_tree_scoping.specs.Scopes.{is_binding}
use Rattle.swc_base_rename_units.specs.Eval.{reads_names}
use Rattle.swc_base_covers.specs.declared.gap.Cause.{Cause}
use Rattle.swc_base_covers.specs.declared.gap.Cause.TheVariants as cause

-- at an identifier that has a context
abbrev pub has_marks : List ℕ → Bool
has_marks [] = false
has_marks _ = true

-- at a declaration of a type
abbrev pub declares_type : Kind → Bool
declares_type kind.TsInterfaceDecl = true
declares_type kind.TsTypeAliasDecl = true
declares_type kind.TsEnumDecl = true
declares_type kind.TsModuleDecl = true
declares_type _ = false

-- at a label before a declaration of a function
abbrev pub declares_function : Node-F Node → Bool
declares_function (Node-F.Tree kind.FnDecl ts) = true
declares_function _ = false

abbrev pub labels_function : Kind → List Node → Bool
labels_function kind.LabeledStmt ts = given (slice_get ts labeled_stmt.BODY) false (λ t. declares_function (out-Node t))
labels_function _ ts = false

-- at a plain function of a block of sloppy code
abbrev pub is_sloppy : Standing → Bool
is_sloppy standing.SloppyFunction = true
is_sloppy _ = false

-- at an identifier that binds `eval` or `arguments`
abbrev pub binds_reserved : Standing → List ℕ → Bool
binds_reserved s text = is_binding s && (bytes_eq text (codes "eval") || bytes_eq text (codes "arguments"))

-- the cause shows at a tree, at an identifier in its place
abbrev pub shows_tree : Cause → Kind → List Node → Bool
shows_tree cause.Types k ts = declares_type k
shows_tree cause.Reads k ts = reads_names (Node-F.Tree k ts)
shows_tree cause.Label k ts = labels_function k ts
shows_tree _ k ts = false

abbrev pub shows_name : Cause → Standing → Ident → Bool
shows_name cause.Context s i = has_marks i.ctxt
shows_name cause.Function s i = is_sloppy s
shows_name cause.Eval s i = binds_reserved s i.sym
shows_name _ s i = false

abbrev pub shows : Cause → Place → Node-F Node → Bool
shows c w (Node-F.Tree k ts) = shows_tree c k ts
shows c w (Node-F.Identifier k i) = shows_name c w.standing i
shows c w _ = false

-- it shows at a path of a tree, which stands in a place
abbrev pub ShownAt : Cause → Place → Node → Path → Type 0
ShownAt c w t p = (v : Place) × (n : Node) × (place_at w t p ≡ Some (v, n)) × IsTrue (shows c v (out-Node n))

-- the first path leads to a node further up than the second, or before it in the source
abbrev pub ComesBefore : Path → Path → Type 0
ComesBefore [] [] = ⊥
ComesBefore [] (n ∷ p) = Unit {0}
ComesBefore (m ∷ q) [] = ⊥
ComesBefore (m ∷ q) (n ∷ p) = (m < n) ⊎ ((m ≡ n) × ComesBefore q p)

-- it shows at the path, and nowhere before
pub record ShownFirst (c : Cause) (w : Place) (t : Node) (p : Path) : Type 0 where
  pub here : ShownAt c w t p
  pub first : (q : Path) → ComesBefore q p → ¬ ShownAt c w t q

-- it shows first there in a program; or nowhere
abbrev pub IsShown : {Z : Type 0} → Cause → Node → Option (Vec ℕ Z) → Type 0
IsShown c t None = (p : Path) → ¬ ShownAt c program_place t p
IsShown c t (Some p) = ShownFirst c program_place t p.items
