-- The field that stands outside of the scope that its tree opens has its turn before all others: a key, before the scope is
-- entered, or the identifier of a class that is the default export.
use Rattle.std.proofs.Common.{◌≡◌, ◌≢◌, ℕ, ◌+◌, ◌<◌, Bool, true, false, ◌&&◌, ◌==◌, Option, Some, None, is_some, List, [], ◌∷◌, refl, sym, ap, ◌∙◌, arith, cond, subst}
use Rattle.std.specs.Prelude.{if◌then◌else◌}
use Rattle.std.specs.List.{slice_get}
use Rattle.std.specs.Cmp.{unsigned_Decides}
use Rattle.std.specs.Option.{option_or}
use Rattle.swc_tree_marks.specs.declared.ident.Ident.{Ident}
use Rattle.swc_tree_node.specs.declared.fields.functions.class_expr.TheConstants as class_expr
use Rattle.swc_tree_node.specs.declared.fields.functions.constructor.TheConstants as constructor
use Rattle.swc_tree_node.specs.declared.fields.functions.getter_prop.TheConstants as getter_prop
use Rattle.swc_tree_node.specs.declared.fields.functions.setter_prop.TheConstants as setter_prop
use Rattle.swc_tree_node.specs.declared.fields.types.ts_module_decl.TheConstants as ts_module_decl
use Rattle.swc_tree_node.specs.declared.kind.Kind.{Kind}
use Rattle.swc_tree_node.specs.declared.kind.Kind.TheVariants as kind
use Rattle.swc_tree_node.specs.declared.node.Node.{Node, out-Node}
use Rattle.swc_tree_node.specs.declared.node.Node.TheOpen.{Node-F}
use Rattle.swc_tree_scoping.specs.declared.places.Place.{Place}
use Rattle.swc_tree_scoping.specs.Places.{is_at}
use Rattle.swc_tree_scoping.specs.BoundNames.{name_in, name_of}
use Rattle.swc_base_rename_analysis.specs.Analysis.{has_identifier, is_default_export, key_field}
use Rattle.swc_base_rename_analysis.specs.Order.{entry, turn_in}
use Rattle.swc_base_rename_analysis.specs.Walk.{child_at, name_outside}
use Rattle.swc_base_rename_analysis_laws.proofs.Turns.{turn_is_number}

abbrev pub outside_field : Place → Kind → Bool → Option ℕ
outside_field w k named = option_or (key_field k) (name_outside w k named)

impossible : {A : Type 0} → false ≡ true → A
impossible e = absurd (cc)

not_some : {A X : Type 0} {x : X} → None ≡ Some x → A
not_some e = absurd (cc)

-- at a key: its turn is 0, and that of the others is behind
key_turn : (f i j : ℕ) → (f == i) ≡ true → (f == j) ≡ false → cond (f == i) 0 (i + 2) < cond (f == j) 0 (j + 2)
key_turn f i j h g = rw h (rw g (omega arith))

number_turn : (f i j : ℕ) → f ≡ 0 → (f == i) ≡ true → (f == j) ≡ false → i < j
number_turn f i j e h g = omega (arith, e, (unsigned_Decides f i).0 h, other)
  where
    other : f ≢ j
    other same = impossible (sym g ∙ (unsigned_Decides f j).1 same)

pub outside_first : (w : Place) (k : Kind) (named : Bool) (i j : ℕ) → is_at (outside_field w k named) i ≡ true → is_at (outside_field w k named) j ≡ false → turn_in k i < turn_in k j
outside_first w kind.ClassExpr named i j h g = by (is_default_export w.standing) named h g
  where
    by : (a b : Bool) → is_at (if a && b then Some class_expr.IDENT else None) i ≡ true → is_at (if a && b then Some class_expr.IDENT else None) j ≡ false → i < j
    by true true h g = number_turn class_expr.IDENT i j refl h g
    by true false h g = impossible h
    by false b h g = impossible h
outside_first w kind.Constructor named i j h g = key_turn constructor.KEY i j h g
outside_first w kind.GetterProp named i j h g = key_turn getter_prop.KEY i j h g
outside_first w kind.SetterProp named i j h g = key_turn setter_prop.KEY i j h g
outside_first w kind.TsModuleDecl named i j h g = key_turn ts_module_decl.ID i j h g
outside_first w k named i j h g = impossible h

-- how far the turns of the other fields are from their numbers
abbrev pub shift : Kind → ℕ
shift k = if is_some (key_field k) then 2 else 0

behind : (f i : ℕ) → (f == i) ≡ false → cond (f == i) 0 (i + 2) ≡ i + 2
behind f i h = ap (λ b. cond b 0 (i + 2)) h

pub turn_shifted : (w : Place) (k : Kind) (named : Bool) (i : ℕ) → is_at (outside_field w k named) (child_at k i) ≡ false → turn_in k (child_at k i) ≡ i + shift k
turn_shifted w kind.Constructor named i h = behind constructor.KEY i h
turn_shifted w kind.GetterProp named i h = behind getter_prop.KEY i h
turn_shifted w kind.SetterProp named i h = behind setter_prop.KEY i h
turn_shifted w kind.TsModuleDecl named i h = behind ts_module_decl.ID i h
turn_shifted w kind.CatchClause named i h = turn_is_number kind.CatchClause i refl ∙ omega arith
turn_shifted w k named i h = omega arith

-- where there is a key, no identifier stands outside
pub keyed_alone : (w : Place) (k : Kind) (named : Bool) (f : ℕ) → key_field k ≡ Some f → name_outside w k named ≡ None
keyed_alone w kind.ClassExpr named f e = not_some e
keyed_alone w k named f e = refl

pub key_is_first : (k : Kind) (f : ℕ) → key_field k ≡ Some f → turn_in k f ≡ 0
key_is_first kind.Constructor f e = ap (λ b. cond b 0 (f + 2)) ((unsigned_Decides constructor.KEY f).1 (let same : Some constructor.KEY ≡ Some f = e in cc))
key_is_first kind.GetterProp f e = ap (λ b. cond b 0 (f + 2)) ((unsigned_Decides getter_prop.KEY f).1 (let same : Some getter_prop.KEY ≡ Some f = e in cc))
key_is_first kind.SetterProp f e = ap (λ b. cond b 0 (f + 2)) ((unsigned_Decides setter_prop.KEY f).1 (let same : Some setter_prop.KEY ≡ Some f = e in cc))
key_is_first kind.TsModuleDecl f e = ap (λ b. cond b 0 (f + 2)) ((unsigned_Decides ts_module_decl.ID f).1 (let same : Some ts_module_decl.ID ≡ Some f = e in cc))
key_is_first k f e = not_some e

pub entered_second : (k : Kind) (ts : List Node) (f : ℕ) → key_field k ≡ Some f → entry (Node-F.Tree k ts) ≡ 1 ∷ []
entered_second k ts f e = ap (λ (o : Option ℕ). cond (is_some o) (1 ∷ []) []) e

-- an identifier that stands outside is one
abbrev pub IsName : List Node → ℕ → Type 0
IsName ts i = (c : Node) × (x : Ident) × (slice_get ts i ≡ Some c) × (name_in (out-Node c) ≡ Some x)

named_there : (o : Option Node) → is_some (name_of o) ≡ true → (c : Node) × (x : Ident) × (o ≡ Some c) × (name_in (out-Node c) ≡ Some x)
named_there None h = impossible h
named_there (Some c) h = by (name_in (out-Node c)) refl h
  where
    by : (x : Option Ident) → name_in (out-Node c) ≡ x → is_some x ≡ true → (d : Node) × (y : Ident) × (Some c ≡ Some d) × (name_in (out-Node d) ≡ Some y)
    by None e h = impossible h
    by (Some x) e h = (c, x, refl, e)

pub outside_is_name : (w : Place) (k : Kind) (ts : List Node) (i : ℕ) → name_outside w k (has_identifier ts) ≡ Some i → IsName ts i
outside_is_name w kind.ClassExpr ts i e = by (is_default_export w.standing) (has_identifier ts) refl e
  where
    by : (a b : Bool) → has_identifier ts ≡ b → (if a && b then Some class_expr.IDENT else None) ≡ Some i → IsName ts i
    by true true h e = let same : class_expr.IDENT ≡ i = cc in subst (IsName ts) same (named_there (slice_get ts class_expr.IDENT) h)
    by true false h e = not_some e
    by false b h e = not_some e
outside_is_name w k ts i e = not_some e
