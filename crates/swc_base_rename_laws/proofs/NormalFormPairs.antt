-- A tree beside what it becomes where names are given anew, as the two stay beside one another while pairs of
-- parentheses go and what is short is written out.
use Rattle.std.proofs.Common.{◌≡◌, ◌⊎◌, ℕ, Bool, true, false, not, Option, Some, None, List, [], ◌∷◌, map}
use Rattle.std.specs.Prelude.{is_some}
use Rattle.std.specs.List.{list_any}
use Rattle.swc_tree_marks.specs.declared.span.Span.{Span as Range}
use Rattle.swc_tree_marks.specs.declared.ident.Ident.{Ident}
use Rattle.swc_tree_node.specs.declared.kind.Kind.{Kind}
use Rattle.swc_tree_node.specs.declared.kind.Kind.TheVariants as kind
use Rattle.swc_tree_node.specs.declared.kind.Word.{Word as Word'}
use Rattle.swc_tree_node.specs.declared.slot.Slot.{Slot}
use Rattle.swc_tree_node.specs.declared.slot.Slot.TheVariants as slot
use Rattle.swc_tree_node.specs.declared.slot.Role.{Role}
use Rattle.swc_tree_node.specs.declared.slot.Role.TheVariants as role
use Rattle.swc_tree_node.specs.declared.node.Node.{Node, Absent, Flag, Word, Text, Span, List as Many, Identifier, Tree}
use Rattle.swc_tree_node.specs.Table.{fields_of}
use Rattle.swc_tree_scoping.specs.BoundNames.{Id}
use Rattle.swc_tree_scoping.specs.Shorthands.{key_of, shorthand_key}
use Rattle.swc_base_rename_substitution.specs.Identifiers.{Changes, id_of, kept_name}
use Rattle.swc_base_rename_substitution.specs.Exports.{distinct, export_list}

-- ---- places

-- a place of names or of none; an item of an object literal; one of an export list without source
pub data Spot : Type 0 where
  part : Bool → Spot
  property : Spot
  specifier : Spot

abbrev pub flag : Spot → Bool
flag (part b) = b
flag property = true
flag specifier = true

-- whether a field holds names, in a node that does or does not
abbrev pub flag_below : Bool → Role → Bool
flag_below b role.Inherited = b
flag_below b role.Plain = false
flag_below b role.Label = false
flag_below b role.Imported = false
flag_below b role.Exported = false
flag_below b role.TypeName = false
flag_below b role.TypeReference = false
flag_below b r = true

-- whether something must stand there
abbrev pub needed : Slot → Bool
needed (slot.One c) = true
needed s = false

-- of each field whether something must stand there, and whether it holds names
abbrev pub spots : Bool → Kind → List (Bool × Bool)
spots b k = map (λ f. (needed f.1, flag_below b f.2)) (fields_of k)

abbrev pub flags : Bool → Kind → List Bool
flags b k = map (λ f. flag_below b f.2) (fields_of k)

-- kinds that become themselves, field by field
abbrev pub even_at : Bool → Kind → Bool
even_at b kind.ParenExpr = false
even_at b kind.SeqExpr = false
even_at b kind.ObjectLit = false
even_at b kind.AssignPatProp = false
even_at b kind.ImportNamedSpecifier = false
even_at b kind.NamedExport = false
even_at b kind.Module = false
even_at b kind.ExportDecl = false
even_at b kind.ExportNamedSpecifier = not b
even_at b k = true

abbrev pub even_property : Kind → Bool
even_property kind.SpreadElement = true
even_property kind.KeyValueProp = true
even_property kind.GetterProp = true
even_property kind.SetterProp = true
even_property kind.MethodProp = true
even_property k = false

abbrev pub even_specifier : Kind → Bool
even_specifier kind.ExportNamespaceSpecifier = true
even_specifier k = false

abbrev pub is_even : Spot → Kind → Bool
is_even (part b) k = even_at b k
is_even property k = even_property k
is_even specifier k = even_specifier k

-- kinds that are left when all is written out, but for export lists
abbrev pub is_left : Kind → Bool
is_left kind.NamedExport = false
is_left kind.ExportDecl = false
is_left k = true

-- specifiers, whose other name may be left out
abbrev pub import_at : Kind → Bool
import_at kind.ImportNamedSpecifier = true
import_at k = false

abbrev pub export_at : Kind → Bool
export_at kind.ExportNamedSpecifier = true
export_at k = false

abbrev pub is_double : Spot → Kind → Bool
is_double (part b) k = import_at k
is_double property k = false
is_double specifier k = export_at k

-- ---- nodes

-- the new id where names stand, and none elsewhere
abbrev pub new_if : Changes → Bool → Id → Option Id
new_if m true x = m x
new_if m false x = None

-- an identifier beside what it becomes: its id stays, or is the new one where names stand
abbrev pub AlikeIds : Changes → Bool → Ident → Ident → Type 0
AlikeIds m b i j = ((id_of j ≡ id_of i) × (new_if m b (id_of i) ≡ None)) ⊎ ((b ≡ true) × (m (id_of i) ≡ Some (id_of j)))

-- ... and it stands where it stood
abbrev pub Alike : Changes → Bool → Ident → Ident → Type 0
Alike m b i j = (j.span ≡ i.span) × AlikeIds m b i j

-- ... and stays a name alone: what changes in an object literal is written out
abbrev pub AlikeAt : Changes → Spot → Ident → Ident → Type 0
AlikeAt m (part b) i j = Alike m b i j
AlikeAt m property i j = (j.span ≡ i.span) × ((id_of j ≡ id_of i) × (m (id_of i) ≡ None))
AlikeAt m specifier i j = Alike m true i j

-- `declared` are the names that an exported declaration declares
mutual
  pub data Becomes (m : Changes) (declared : Node → List Id) : Bool → Spot → Node → Node → Type 0 where
    absent : (s : Spot) → Becomes m declared false s Absent Absent
    a_flag : (g : Bool) (s : Spot) (x : Bool) → Becomes m declared g s (Flag x) (Flag x)
    a_word : (g : Bool) (s : Spot) (x : Word') → Becomes m declared g s (Word x) (Word x)
    a_text : (g : Bool) (s : Spot) (x : List ℕ) → Becomes m declared g s (Text x) (Text x)
    a_span : (g : Bool) (s : Spot) (x : Range) → Becomes m declared g s (Span x) (Span x)
    name : (g : Bool) (s : Spot) (k : Kind) (i j : Ident) → AlikeAt m s i j → Becomes m declared g s (Identifier k i) (Identifier k j)
    -- `{ a }` becomes `{ a: a1 }`
    short : (g : Bool) (k : Kind) (i j : Ident) → Alike m true i j → Becomes m declared g property (Identifier k i) (Tree kind.KeyValueProp (shorthand_key i ∷ Identifier k j ∷ []))
    list : (h b : Bool) (ts us : List Node) → All m declared h (part b) ts us → Becomes m declared false (part b) (Many ts) (Many us)
    tree : (g : Bool) (s : Spot) (k l : Kind) (ts us : List Node) → Trees m declared s k ts l us → Becomes m declared g s (Tree k ts) (Tree l us)

  pub data Trees (m : Changes) (declared : Node → List Id) : Spot → Kind → List Node → Kind → List Node → Type 0 where
    even : (s : Spot) (k : Kind) (ts us : List Node) → is_even s k ≡ true → Fields m declared (spots (flag s) k) ts us → Trees m declared s k ts k us
    pair : (a b t u : Node) → Becomes m declared true (part false) a b → Becomes m declared true (part true) t u
        → Trees m declared (part true) kind.ParenExpr (a ∷ t ∷ []) kind.ParenExpr (b ∷ u ∷ [])
    sequence : (a b : Node) (ts us : List Node) → Becomes m declared true (part false) a b → All m declared true (part true) ts us
        → Trees m declared (part true) kind.SeqExpr (a ∷ Many ts ∷ []) kind.SeqExpr (b ∷ Many us ∷ [])
    object : (f : Bool) (a b : Node) (ts us : List Node) → Becomes m declared true (part false) a b → All m declared true property ts us
        → Trees m declared (part f) kind.ObjectLit (a ∷ Many ts ∷ []) kind.ObjectLit (b ∷ Many us ∷ [])
    -- `{ a }` in a pattern stays, or becomes `{ a: a1 }`, and `{ a = 1 }` becomes `{ a: a1 = 1 }`
    key_stays : (f : Bool) (a b : Node) (i : Ident) (t u : Node) → Alike m f i i → Becomes m declared true (part false) a b → Becomes m declared false (part true) t u
        → Trees m declared (part f) kind.AssignPatProp (a ∷ Identifier kind.BindingIdent i ∷ t ∷ []) kind.AssignPatProp (b ∷ Identifier kind.BindingIdent i ∷ u ∷ [])
    key_alone : (f : Bool) (a : Node) (i j : Ident) → Alike m f i j
        → Trees m declared (part f) kind.AssignPatProp (a ∷ Identifier kind.BindingIdent i ∷ Absent ∷ []) kind.KeyValuePatProp (key_of i ∷ Identifier kind.BindingIdent j ∷ [])
    key_default : (f : Bool) (a : Node) (i j : Ident) (t u : Node) → Alike m f i j → Becomes m declared true (part true) t u
        → Trees m declared (part f) kind.AssignPatProp (a ∷ Identifier kind.BindingIdent i ∷ t ∷ []) kind.KeyValuePatProp (key_of i ∷ Tree kind.AssignPat (Span i.span ∷ Identifier kind.BindingIdent j ∷ u ∷ []) ∷ [])
    -- a specifier with both names, with one that stays, and with one that changes
    both_names : (s : Spot) (k : Kind) (a b o p t u : Node) → is_double s k ≡ true → Becomes m declared true (part false) a b → Becomes m declared true (part true) o p
        → Becomes m declared true (part false) t u → Trees m declared s k (a ∷ o ∷ t ∷ []) k (b ∷ p ∷ u ∷ [])
    one_stays : (s : Spot) (k : Kind) (a b o p : Node) → is_double s k ≡ true → Becomes m declared true (part false) a b → Becomes m declared true (part true) o p → Becomes m declared true (part false) o p
        → Trees m declared s k (a ∷ o ∷ Absent ∷ []) k (b ∷ p ∷ Absent ∷ [])
    one_changes : (s : Spot) (k : Kind) (a b : Node) (l : Kind) (i j : Ident) → is_double s k ≡ true → Becomes m declared true (part false) a b → Alike m true i j
        → Trees m declared s k (a ∷ Identifier l i ∷ Absent ∷ []) k (b ∷ Identifier l j ∷ Identifier kind.Ident (kept_name i) ∷ [])
    exports : (f : Bool) (a b : Node) (ts us : List Node) (c d : Node) → Becomes m declared true (part false) a b → All m declared true specifier ts us → Becomes m declared false (part false) c d
        → Trees m declared (part f) kind.NamedExport (a ∷ Many ts ∷ Absent ∷ c ∷ []) kind.NamedExport (b ∷ Many us ∷ Absent ∷ d ∷ [])
    reexports : (f : Bool) (a b : Node) (ts us xs ys : List Node) (c d : Node) → Becomes m declared true (part false) a b → All m declared true (part false) ts us
        → Fields m declared (spots false kind.Str) xs ys → Becomes m declared false (part false) c d
        → Trees m declared (part f) kind.NamedExport (a ∷ Many ts ∷ Tree kind.Str xs ∷ c ∷ []) kind.NamedExport (b ∷ Many us ∷ Tree kind.Str ys ∷ d ∷ [])
    program : (f : Bool) (a b : Node) (ts us : List Node) (c d : Node) → Becomes m declared true (part false) a b → Items m declared ts us → Becomes m declared false (part false) c d
        → Trees m declared (part f) kind.Module (a ∷ Many ts ∷ c ∷ []) kind.Module (b ∷ Many us ∷ d ∷ [])

  pub data All (m : Changes) (declared : Node → List Id) : Bool → Spot → List Node → List Node → Type 0 where
    none : (g : Bool) (s : Spot) → All m declared g s [] []
    more : (g : Bool) (s : Spot) (t u : Node) (ts us : List Node) → Becomes m declared g s t u → All m declared g s ts us → All m declared g s (t ∷ ts) (u ∷ us)

  pub data Fields (m : Changes) (declared : Node → List Id) : List (Bool × Bool) → List Node → List Node → Type 0 where
    end : Fields m declared [] [] []
    next : (g b : Bool) (ss : List (Bool × Bool)) (t u : Node) (ts us : List Node) → Becomes m declared g (part b) t u → Fields m declared ss ts us
        → Fields m declared ((g, b) ∷ ss) (t ∷ ts) (u ∷ us)

  -- the items of a module; an exported declaration stays one, or gets an export list of its own
  pub data Items (m : Changes) (declared : Node → List Id) : List Node → List Node → Type 0 where
    nothing : Items m declared [] []
    item : (t u : Node) (ts us : List Node) → Becomes m declared true (part false) t u → Items m declared ts us → Items m declared (t ∷ ts) (u ∷ us)
    whole : (a b t u : Node) (ts us : List Node) → Becomes m declared true (part false) a b → Becomes m declared true (part false) t u
        → list_any (λ x. is_some (m x)) (declared t) ≡ false → Items m declared ts us
        → Items m declared (Tree kind.ExportDecl (a ∷ t ∷ []) ∷ ts) (Tree kind.ExportDecl (b ∷ u ∷ []) ∷ us)
    split : (a t u : Node) (ts us : List Node) → Becomes m declared true (part false) t u → Items m declared ts us
        → Items m declared (Tree kind.ExportDecl (a ∷ t ∷ []) ∷ ts) (u ∷ export_list m (distinct (declared t)) ∷ us)

-- ---- what is left when all is written out

mutual
  pub data Like (m : Changes) : Bool → Node → Node → Type 0 where
    absent : (b : Bool) → Like m b Absent Absent
    a_flag : (b : Bool) (x : Bool) → Like m b (Flag x) (Flag x)
    a_word : (b : Bool) (x : Word') → Like m b (Word x) (Word x)
    a_text : (b : Bool) (x : List ℕ) → Like m b (Text x) (Text x)
    a_span : (b : Bool) (x y : Range) → x ≡ y → Like m b (Span x) (Span y)
    name : (b : Bool) (k : Kind) (i j : Ident) → Alike m b i j → Like m b (Identifier k i) (Identifier k j)
    list : (b : Bool) (ts us : List Node) → Likes m b ts us → Like m b (Many ts) (Many us)
    tree : (b : Bool) (k : Kind) (ts us : List Node) → is_left k ≡ true → LikeFields m (flags b k) ts us → Like m b (Tree k ts) (Tree k us)
    exports : (b : Bool) (a c : Node) (ts us : List Node) (d e : Node) → Like m false a c → Likes m true ts us → Like m false d e
        → Like m b (Tree kind.NamedExport (a ∷ Many ts ∷ Absent ∷ d ∷ [])) (Tree kind.NamedExport (c ∷ Many us ∷ Absent ∷ e ∷ []))
    reexports : (b : Bool) (a c : Node) (ts us xs ys : List Node) (d e : Node) → Like m false a c → Likes m false ts us → LikeFields m (flags false kind.Str) xs ys → Like m false d e
        → Like m b (Tree kind.NamedExport (a ∷ Many ts ∷ Tree kind.Str xs ∷ d ∷ [])) (Tree kind.NamedExport (c ∷ Many us ∷ Tree kind.Str ys ∷ e ∷ []))

  pub data Likes (m : Changes) : Bool → List Node → List Node → Type 0 where
    none : (b : Bool) → Likes m b [] []
    more : (b : Bool) (t u : Node) (ts us : List Node) → Like m b t u → Likes m b ts us → Likes m b (t ∷ ts) (u ∷ us)

  pub data LikeFields (m : Changes) : List Bool → List Node → List Node → Type 0 where
    end : LikeFields m [] [] []
    next : (b : Bool) (bs : List Bool) (t u : Node) (ts us : List Node) → Like m b t u → LikeFields m bs ts us → LikeFields m (b ∷ bs) (t ∷ ts) (u ∷ us)
