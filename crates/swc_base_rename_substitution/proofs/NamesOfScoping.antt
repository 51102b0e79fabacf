-- What the map is asked for are the bindings and references of scoping.
use Rattle.std.proofs.Common.{◌≡◌, ◌⊎◌, ℕ, Bool, true, false, Option, Some, None, List, [], ◌∷◌, refl, sym, ap, ◌∙◌, inl, inr, cond}
use Rattle.std.specs.Prelude.{option_map, slice_get}
use Rattle.swc_tree_marks.specs.declared.ident.Ident.{Ident}
use Rattle.swc_tree_node.specs.declared.kind.Kind.{Kind}
use Rattle.swc_tree_node.specs.declared.kind.Kind.TheVariants as kind
use Rattle.swc_tree_node.specs.declared.kind.Word.TheVariants as word
use Rattle.swc_tree_node.specs.declared.slot.Role.{Role}
use Rattle.swc_tree_node.specs.declared.slot.Role.TheVariants as role
use Rattle.swc_tree_node.specs.declared.node.Node.{Node, Identifier, out-Node}
use Rattle.swc_tree_node.specs.declared.node.Node.TheOpen.{Node-F}
use Rattle.swc_tree_scoping.specs.declared.places.Place.{Place as ScopingPlace}
use Rattle.swc_tree_scoping.specs.declared.places.Standing.{Standing}
use Rattle.swc_tree_scoping.specs.declared.places.Standing.TheVariants as standing
use Rattle.swc_tree_scoping.specs.Places as scoping
use Rattle.swc_tree_scoping.specs.Places.{Path, by_keyword, by_word, child, default_name, expression_name, field_role, function_standing, given, keyword_in, is_identifier_expression, own_name, part_standing, place_below, plain_standing, program_place, standing_below}
use Rattle.swc_tree_scoping.specs.Scopes.{is_name as binds_or_refers}
use Rattle.swc_base_rename_substitution.specs.declared.place.Place.{Place}
use Rattle.swc_base_rename_substitution.specs.declared.place.Place.TheVariants as place
use Rattle.swc_base_rename_substitution.specs.Places.{by_role, child_place, has_source, in_kind, is_name, place_at, within}
use Rattle.swc_base_rename_substitution.specs.Identifiers.{Changes, changed, id_of, identifier_to, with_id}
use Rattle.swc_base_rename_substitution.specs.Substituted.{substituted}
use Rattle.swc_base_rename_substitution.proofs.Equations.{substituted_identifier}

-- ---- the place of a child

short : (b : Bool) → is_name (cond b place.ClassName place.Name) ≡ true
short true = refl
short false = refl

pub kind_is : (keeps : Bool) (k : Kind) (p : Place) → is_name (in_kind keeps k p) ≡ is_name p
kind_is keeps kind.ObjectLit place.Name = refl
kind_is keeps kind.ObjectLit p = refl
kind_is keeps kind.ExportDecl place.Other = refl
kind_is keeps kind.ExportDecl p = refl
kind_is keeps kind.ClassExpr place.Name = short keeps
kind_is keeps kind.ClassExpr p = refl
kind_is keeps k p = refl

within_is : (p : Place) → is_name (within p) ≡ is_name p
within_is place.Name = refl
within_is place.Shorthand = refl
within_is place.Exported = refl
within_is place.ClassName = refl
within_is place.Other = refl

-- fields that hold no names
plain_if : (b : Bool) (r : Standing) → binds_or_refers r ≡ false → false ≡ binds_or_refers (cond b r standing.Plain)
plain_if true r h = sym h
plain_if false r h = refl

plain_is : (k : Kind) (i : ℕ) → false ≡ binds_or_refers (plain_standing k i)
plain_is kind.IfStmt i = plain_if _ standing.Branch refl
plain_is kind.ExportDefaultDecl i = plain_if _ standing.DefaultExport refl
plain_is k i = refl

-- names of declarations
keyword_is : (ts : List Node) → true ≡ binds_or_refers (by_keyword ts)
keyword_is [] = refl
keyword_is (t ∷ ts) = at (out-Node t) (keyword_is ts)
  where
    at : (y : Node-F Node) → true ≡ binds_or_refers (by_keyword ts) → true ≡ binds_or_refers (keyword_in y (by_keyword ts))
    at (Node-F.Word word.Var) h = refl
    at (Node-F.Word w) h = refl
    at Node-F.Absent h = h
    at (Node-F.Flag x) h = h
    at (Node-F.Text x) h = h
    at (Node-F.Span x) h = h
    at (Node-F.List x) h = h
    at (Node-F.Identifier k i) h = h
    at (Node-F.Tree k us) h = h

chosen : (a b : Bool) → true ≡ binds_or_refers (cond a standing.Function (cond b standing.SloppyFunction standing.BlockFunction))
chosen true b = refl
chosen false true = refl
chosen false false = refl

function_is : (w : ScopingPlace) (plain : Bool) → true ≡ binds_or_refers (function_standing w plain)
function_is w plain = chosen _ _

local : (b : Bool) → is_name (cond b place.Other place.Name) ≡ binds_or_refers (cond b standing.Imported standing.Reference)
local true = refl
local false = refl

-- of the standings only a default export's makes a difference, and of the kinds only a function expression
default_is : (k : Kind) → true ≡ binds_or_refers (default_name k)
default_is kind.FnExpr = refl
default_is k = refl

expression_is : (k : Kind) → true ≡ binds_or_refers (expression_name k)
expression_is kind.FnExpr = refl
expression_is k = refl

own_name_is : (r : Standing) (k : Kind) → true ≡ binds_or_refers (own_name r k)
own_name_is standing.DefaultExport k = default_is k
own_name_is r k = expression_is k

-- parts of patterns: an identifier expression is a reference, and so a name as well
referred : (b : Bool) (r : Standing) → binds_or_refers r ≡ true → binds_or_refers r ≡ binds_or_refers (cond b standing.Reference r)
referred true r h = h
referred false r h = refl

pub part_is : (r : Standing) (o : Option Node) → binds_or_refers r ≡ binds_or_refers (part_standing r o)
part_is standing.Variable o = referred (is_identifier_expression o) standing.Variable refl
part_is standing.Lexical o = referred (is_identifier_expression o) standing.Lexical refl
part_is standing.Parameter o = referred (is_identifier_expression o) standing.Parameter refl
part_is standing.CatchParameter o = referred (is_identifier_expression o) standing.CatchParameter refl
part_is r o = refl

pub role_is : (p : Place) (w : ScopingPlace) (k : Kind) (ts : List Node) (i : ℕ) (r : Role) → is_name p ≡ binds_or_refers w.standing
    → is_name (by_role p (has_source ts) r) ≡ binds_or_refers (standing_below w k ts i r)
role_is p w k ts i role.Plain h = plain_is k i
role_is p w k ts i role.Inherited h = within_is p ∙ h ∙ part_is w.standing (slice_get ts i)
role_is p w k ts i role.Reference h = refl
role_is p w k ts i role.Declared h = keyword_is ts
role_is p w k ts i role.Function h = function_is w _
role_is p w k ts i role.Class h = refl
role_is p w k ts i role.OwnName h = own_name_is w.standing k
role_is p w k ts i role.Parameter h = part_is standing.Parameter (slice_get ts i)
role_is p w k ts i role.Catch h = part_is standing.CatchParameter (slice_get ts i)
role_is p w k ts i role.Import h = refl
role_is p w k ts i role.Lexical h = refl
role_is p w k ts i role.FunctionBody h = refl
role_is p w k ts i role.Label h = refl
role_is p w k ts i role.Imported h = refl
role_is p w k ts i role.Exported h = refl
role_is p w k ts i role.TypeName h = refl
role_is p w k ts i role.TypeReference h = refl
role_is p w k ts i role.ExportLocal h = local _

child_is : (keeps : Bool) (p : Place) (w : ScopingPlace) (y : Node-F Node) (i : ℕ) → is_name p ≡ binds_or_refers w.standing
    → is_name (child_place keeps p y i) ≡ binds_or_refers (scoping.place_in w y i).standing
child_is keeps p w (Node-F.Tree k ts) i h = kind_is keeps k (by_role p (has_source ts) (field_role k i)) ∙ role_is p w k ts i (field_role k i) h
child_is keeps p w (Node-F.List ts) i h = h ∙ part_is w.standing (slice_get ts i)
child_is keeps p w y i h = refl

-- ---- by paths

-- one node, and both call it a name or neither
abbrev AreAlike : Option (Place × Node) → Option (ScopingPlace × Node) → Type 0
AreAlike None None = Unit {0}
AreAlike (Some a) (Some b) = (a.1 ≡ b.1) × (is_name a.0 ≡ binds_or_refers b.0.standing)
AreAlike _ _ = ⊥

alike : (keeps : Bool) (q : Path) (p : Place) (w : ScopingPlace) (t : Node) → is_name p ≡ binds_or_refers w.standing → AreAlike (place_at keeps p t q) (scoping.place_at w t q)
alike keeps [] p w t h = (refl, h)
alike keeps (i ∷ q) p w t h = below (child t i) (λ c. alike keeps q (child_place keeps p (out-Node t) i) (place_below w t i) c (child_is keeps p w (out-Node t) i h))
  where
    below : (o : Option Node) → ((c : Node) → AreAlike (place_at keeps (child_place keeps p (out-Node t) i) c q) (scoping.place_at (place_below w t i) c q))
        → AreAlike (given o None (λ c. place_at keeps (child_place keeps p (out-Node t) i) c q)) (given o None (λ c. scoping.place_at (place_below w t i) c q))
    below None f = tt
    below (Some c) f = f c

found : (a : Option (Place × Node)) (b : Option (ScopingPlace × Node)) (w : ScopingPlace) (x : Node) → AreAlike a b → b ≡ Some (w, x) → (p : Place) × (a ≡ Some (p, x)) × (is_name p ≡ binds_or_refers w.standing)
found None None w x h e = absurd (cc)
found None (Some b) w x h e = absurd h
found (Some a) None w x h e = absurd h
found (Some a) (Some b) w x h e = let same : b ≡ (w, x) = cc in (a.0, ap (λ y. Some (a.0, y)) (h.0 ∙ ap (λ z. z.1) same), h.1 ∙ ap (λ z. binds_or_refers z.0.standing) same)

-- what stands at a path of a tree is a name here just if scoping calls it a binding or a reference
pub names_are_those_of_scoping : (keeps : Bool) (t : Node) (q : Path) (w : ScopingPlace) (x : Node) → scoping.place_at program_place t q ≡ Some (w, x)
    → (p : Place) × (place_at keeps place.Other t q ≡ Some (p, x)) × (is_name p ≡ binds_or_refers w.standing)
names_are_those_of_scoping keeps t q w x h = found (place_at keeps place.Other t q) (scoping.place_at program_place t q) w x (alike keeps q place.Other program_place t refl) h

stays : (m : Changes) (p : Place) (k : Kind) (i : Ident) → is_name p ≡ false → identifier_to p k i (changed m p i) ≡ Identifier k i
stays m place.Other k i h = refl
stays m place.Exported k i h = refl
stays m p k i h = absurd (cc)

-- where scoping calls an identifier neither, it stays, whatever the map has
pub others_stay : (m : Changes) (keeps : Bool) (t : Node) (q : Path) (w : ScopingPlace) (k : Kind) (i : Ident) → scoping.place_at program_place t q ≡ Some (w, Identifier k i)
    → binds_or_refers w.standing ≡ false → (p : Place) × (place_at keeps place.Other t q ≡ Some (p, Identifier k i)) × (substituted m keeps p (Identifier k i) ≡ Identifier k i)
others_stay m keeps t q w k i h b =
    let (p, e, n) = names_are_those_of_scoping keeps t q w (Identifier k i) h in
    (p, e, substituted_identifier m keeps p k i ∙ stays m p k i (n ∙ b))

asked : (m : Changes) (p : Place) (i : Ident) → is_name p ≡ true → (changed m p i ≡ option_map (with_id i) (m (id_of i))) ⊎ (p ≡ place.ClassName)
asked m place.Name i h = inl refl
asked m place.Shorthand i h = inl refl
asked m place.ClassName i h = inr refl
asked m p i h = absurd (cc)

-- where scoping calls it one, the map is asked, but for the names of classes that are kept
pub names_are_asked : (m : Changes) (keeps : Bool) (t : Node) (q : Path) (w : ScopingPlace) (k : Kind) (i : Ident) → scoping.place_at program_place t q ≡ Some (w, Identifier k i)
    → binds_or_refers w.standing ≡ true
    → (p : Place) × (place_at keeps place.Other t q ≡ Some (p, Identifier k i)) × ((changed m p i ≡ option_map (with_id i) (m (id_of i))) ⊎ (p ≡ place.ClassName))
names_are_asked m keeps t q w k i h b =
    let (p, e, n) = names_are_those_of_scoping keeps t q w (Identifier k i) h in
    (p, e, asked m p i (n ∙ b))
