-- What stands in the member or the property that an identifier becomes: the identifier alone, and trees of few kinds.
use Rattle.std.proofs.Common.{◌≡◌, ℕ, zero, suc, Bool, true, false, Option, Some, None, List, [], ◌∷◌, refl, sym, ap, ◌∙◌, subst, if◌then◌else◌}
use Rattle.std.specs.List.{slice_get}
use Rattle.std.specs.Prelude.{codes}
use Rattle.swc_tree_marks.specs.declared.ident.Ident.{Ident}
use Rattle.swc_tree_marks.specs.declared.span.Span.{Span as Span'}
use Rattle.swc_tree_node.specs.declared.kind.Kind.{Kind}
use Rattle.swc_tree_node.specs.declared.kind.Kind.TheVariants as kind
use Rattle.swc_tree_node.specs.declared.node.Node.{Node, Absent, Identifier, Span, Text, Tree, out-Node}
use Rattle.swc_tree_node.specs.declared.node.Node.TheOpen.{Node-F}
use Rattle.swc_tree_node.specs.declared.node.Node.TheVariants.{outs-Absent, outs-Identifier, outs-Span, outs-Text, outs-Tree}
use Rattle.swc_tree_scoping.specs.declared.places.Place.{Place}
use Rattle.swc_tree_scoping.specs.Places.{Path, child, children_in, place_at, place_below}
use Rattle.swc_tree_scoping.specs.Shorthands.{computed_key, key_of, shorthand_key}
use Rattle.swc_tree_scoping.proofs.Under.{no_place_under, place_under}
use Rattle.swc_base_tables_injection.specs.Members.{member_of}
use Rattle.swc_base_tables_laws.proofs.Declarers.{some_same}
use Rattle.swc_base_tables_laws.proofs.Membered.{member_fields, property_fields}
use Rattle.swc_base_tables_laws.proofs.Programs.{HasNoNames}
use Rattle.swc_base_tables_laws.proofs.Readings.{no_names, no_names_leaf}

-- the kinds of the trees that are made
abbrev pub is_made : Kind → Bool
is_made kind.MemberExpr = true
is_made kind.KeyValueProp = true
is_made kind.IdentName = true
is_made kind.ComputedPropName = true
is_made kind.Str = true
is_made _ = false

abbrev made_in : Node-F Node → Bool
made_in (Node-F.Tree k ts) = is_made k
made_in _ = true

-- each tree in the node is of such a kind
abbrev pub HasMade : Node → Type 0
HasMade t = (p : Path) (w v : Place) (k : Kind) (ts : List Node) → place_at w t p ≡ Some (v, Tree k ts) → is_made k ≡ true

has_made : (t : Node) (y : Node-F Node) → out-Node t ≡ y → made_in y ≡ true → ((i : ℕ) (c : Node) → slice_get (children_in y) i ≡ Some c → HasMade c) → HasMade t
has_made t y o h below [] w v k ts e =
    let same : y ≡ Node-F.Tree k ts = sym o ∙ ap (λ (q : Place × Node). out-Node q.1) (some_same (w, t) (v, Tree k ts) e) ∙ outs-Tree k ts in
    sym (ap made_in same) ∙ h
has_made t y o h below (n ∷ p) w v k ts e = at (child t n) refl
  where
    at : (z : Option Node) → child t n ≡ z → is_made k ≡ true
    at None z = let r : ◌≡◌ {A = Option (Place × Node)} (Some (v, Tree k ts)) None = sym e ∙ no_place_under w t n p z in absurd (cc)
    at (Some c) z = below n c (sym (ap (λ y. slice_get (children_in y) n) o) ∙ z) p (place_below w t n) v k ts (sym (place_under w t c n p z) ∙ e)

made_leaf : (t : Node) (y : Node-F Node) → out-Node t ≡ y → made_in y ≡ true → children_in y ≡ [] → HasMade t
made_leaf t y o h none = has_made t y o h (λ i c e. let z : ◌≡◌ {A = Option Node} (Some c) None = sym e ∙ ap (λ l. slice_get l i) none in absurd (cc))

moved : (P : Node → Type 0) (t c : Node) → P t → ◌≡◌ {A = Option Node} (Some t) (Some c) → P c
moved P t c h e = subst P (some_same t c e) h

-- leaves
span_plain : (x : Span') → HasNoNames (Span x)
span_plain x = no_names_leaf (Span x) (Node-F.Span x) (outs-Span x) refl refl

text_plain : (x : List ℕ) → HasNoNames (Text x)
text_plain x = no_names_leaf (Text x) (Node-F.Text x) (outs-Text x) refl refl

absent_plain : HasNoNames Absent
absent_plain = no_names_leaf Absent Node-F.Absent outs-Absent refl refl

span_made : (x : Span') → HasMade (Span x)
span_made x = made_leaf (Span x) (Node-F.Span x) (outs-Span x) refl refl

text_made : (x : List ℕ) → HasMade (Text x)
text_made x = made_leaf (Text x) (Node-F.Text x) (outs-Text x) refl refl

absent_made : HasMade Absent
absent_made = made_leaf Absent Node-F.Absent outs-Absent refl refl

pub identifier_made : (k : Kind) (i : Ident) → HasMade (Identifier k i)
identifier_made k i = made_leaf (Identifier k i) (Node-F.Identifier k i) (outs-Identifier k i) refl refl

-- a name as a key, and the same as a string
pub name_plain : (x : Span') (s : List ℕ) → HasNoNames (Tree kind.IdentName (Span x ∷ Text s ∷ []))
name_plain x s = no_names (Tree kind.IdentName ts) (Node-F.Tree kind.IdentName ts) (outs-Tree kind.IdentName ts) refl below
  where
    ts : List Node
    ts = Span x ∷ Text s ∷ []

    below : (i : ℕ) (c : Node) → slice_get ts i ≡ Some c → HasNoNames c
    below zero c e = moved HasNoNames (Span x) c (span_plain x) e
    below (suc zero) c e = moved HasNoNames (Text s) c (text_plain s) e
    below (suc (suc i)) c e = absurd (cc)

name_made : (x : Span') (s : List ℕ) → HasMade (Tree kind.IdentName (Span x ∷ Text s ∷ []))
name_made x s = has_made (Tree kind.IdentName ts) (Node-F.Tree kind.IdentName ts) (outs-Tree kind.IdentName ts) refl below
  where
    ts : List Node
    ts = Span x ∷ Text s ∷ []

    below : (i : ℕ) (c : Node) → slice_get ts i ≡ Some c → HasMade c
    below zero c e = moved HasMade (Span x) c (span_made x) e
    below (suc zero) c e = moved HasMade (Text s) c (text_made s) e
    below (suc (suc i)) c e = absurd (cc)

abbrev string_fields : Ident → List Node
string_fields i = Span i.span ∷ Text i.sym ∷ Absent ∷ []

string_plain : (i : Ident) → HasNoNames (Tree kind.Str (string_fields i))
string_plain i = no_names (Tree kind.Str (string_fields i)) (Node-F.Tree kind.Str (string_fields i)) (outs-Tree kind.Str (string_fields i)) refl below
  where
    below : (n : ℕ) (c : Node) → slice_get (string_fields i) n ≡ Some c → HasNoNames c
    below zero c e = moved HasNoNames (Span i.span) c (span_plain i.span) e
    below (suc zero) c e = moved HasNoNames (Text i.sym) c (text_plain i.sym) e
    below (suc (suc zero)) c e = moved HasNoNames Absent c absent_plain e
    below (suc (suc (suc n))) c e = absurd (cc)

string_made : (i : Ident) → HasMade (Tree kind.Str (string_fields i))
string_made i = has_made (Tree kind.Str (string_fields i)) (Node-F.Tree kind.Str (string_fields i)) (outs-Tree kind.Str (string_fields i)) refl below
  where
    below : (n : ℕ) (c : Node) → slice_get (string_fields i) n ≡ Some c → HasMade c
    below zero c e = moved HasMade (Span i.span) c (span_made i.span) e
    below (suc zero) c e = moved HasMade (Text i.sym) c (text_made i.sym) e
    below (suc (suc zero)) c e = moved HasMade Absent c absent_made e
    below (suc (suc (suc n))) c e = absurd (cc)

abbrev computed_fields : Ident → List Node
computed_fields i = Span i.span ∷ Tree kind.Str (string_fields i) ∷ []

computed_plain : (i : Ident) → HasNoNames (computed_key i)
computed_plain i = no_names (computed_key i) (Node-F.Tree kind.ComputedPropName (computed_fields i)) (outs-Tree kind.ComputedPropName (computed_fields i)) refl below
  where
    below : (n : ℕ) (c : Node) → slice_get (computed_fields i) n ≡ Some c → HasNoNames c
    below zero c e = moved HasNoNames (Span i.span) c (span_plain i.span) e
    below (suc zero) c e = moved HasNoNames (Tree kind.Str (string_fields i)) c (string_plain i) e
    below (suc (suc n)) c e = absurd (cc)

computed_made : (i : Ident) → HasMade (computed_key i)
computed_made i = has_made (computed_key i) (Node-F.Tree kind.ComputedPropName (computed_fields i)) (outs-Tree kind.ComputedPropName (computed_fields i)) refl below
  where
    below : (n : ℕ) (c : Node) → slice_get (computed_fields i) n ≡ Some c → HasMade c
    below zero c e = moved HasMade (Span i.span) c (span_made i.span) e
    below (suc zero) c e = moved HasMade (Tree kind.Str (string_fields i)) c (string_made i) e
    below (suc (suc n)) c e = absurd (cc)

either_of : (P : Node → Type 0) (b : Bool) (t u : Node) → P t → P u → P (if b then t else u)
either_of P true t u h g = h
either_of P false t u h g = g

pub shorthand_plain : (i : Ident) → HasNoNames (shorthand_key i)
shorthand_plain i = either_of HasNoNames _ (computed_key i) (key_of i) (computed_plain i) (name_plain i.span i.sym)

shorthand_made : (i : Ident) → HasMade (shorthand_key i)
shorthand_made i = either_of HasMade _ (computed_key i) (key_of i) (computed_made i) (name_made i.span i.sym)

-- the member and the property
pub member_made : (i : Ident) → HasMade (member_of i)
member_made i = has_made (member_of i) (Node-F.Tree kind.MemberExpr (member_fields i)) (outs-Tree kind.MemberExpr (member_fields i)) refl below
  where
    below : (n : ℕ) (c : Node) → slice_get (member_fields i) n ≡ Some c → HasMade c
    below zero c e = moved HasMade (Span i.span) c (span_made i.span) e
    below (suc zero) c e = moved HasMade (Identifier kind.Ident i) c (identifier_made kind.Ident i) e
    below (suc (suc zero)) c e = moved HasMade (Tree kind.IdentName (Span i.span ∷ Text (codes "_") ∷ [])) c (name_made i.span (codes "_")) e
    below (suc (suc (suc n))) c e = absurd (cc)

pub property_made : (i : Ident) → HasMade (Tree kind.KeyValueProp (property_fields i))
property_made i = has_made (Tree kind.KeyValueProp (property_fields i)) (Node-F.Tree kind.KeyValueProp (property_fields i)) (outs-Tree kind.KeyValueProp (property_fields i)) refl below
  where
    below : (n : ℕ) (c : Node) → slice_get (property_fields i) n ≡ Some c → HasMade c
    below zero c e = moved HasMade (shorthand_key i) c (shorthand_made i) e
    below (suc zero) c e = moved HasMade (member_of i) c (member_made i) e
    below (suc (suc n)) c e = absurd (cc)
