-- Of kinds: which scope a tree opens, which of its fields stands outside of it, and when each field has its turn.
use Rattle.std.proofs.Common.{◌≡◌, ℕ, Bool, true, false, Some, None, refl, sym}
use Rattle.swc_tree_node.specs.declared.kind.Kind.{Kind}
use Rattle.swc_tree_node.specs.declared.kind.Kind.TheVariants as kind
use Rattle.swc_tree_scoping.specs.declared.places.Place.{Place}
use Rattle.swc_tree_scoping.specs.Places.{opened_as}
use Rattle.swc_base_rename_analysis.proofs.Level.{body_first_twice}
use Rattle.swc_base_rename_analysis.specs.Analysis.{body_kind, key_field, own_kind}
use Rattle.swc_base_rename_analysis.specs.Order.{key_first, turn_in}
use Rattle.swc_base_rename_analysis.specs.Walk.{child_at, kind_opened}

impossible : {A X : Type 0} {x : X} → None ≡ Some x → A
impossible e = absurd (cc)

-- the scope that a tree opens, by the scope of the language that it does
pub own_is_opened : (w : Place) (k : Kind) (b : Bool) → own_kind w k b ≡ kind_opened k (opened_as w k b)
own_is_opened w kind.ClassExpr b = refl
own_is_opened w kind.FnDecl b = refl
own_is_opened w k b = refl

-- a tree with a key opens a scope
pub keyed_opens : (f : Bool) (w : Place) (k : Kind) (b : Bool) (i : ℕ) → key_field k ≡ Some i → body_kind f (kind_opened k (opened_as w k b)) ≡ None → ⊥
keyed_opens f w kind.Constructor b i e n = by f n
  where
    by : (f : Bool) → body_kind f (kind_opened kind.Constructor (opened_as w kind.Constructor b)) ≡ None → ⊥
    by true n = impossible (sym n)
    by false n = impossible (sym n)
keyed_opens f w kind.GetterProp b i e n = by f n
  where
    by : (f : Bool) → body_kind f (kind_opened kind.GetterProp (opened_as w kind.GetterProp b)) ≡ None → ⊥
    by true n = impossible (sym n)
    by false n = impossible (sym n)
keyed_opens f w kind.SetterProp b i e n = by f n
  where
    by : (f : Bool) → body_kind f (kind_opened kind.SetterProp (opened_as w kind.SetterProp b)) ≡ None → ⊥
    by true n = impossible (sym n)
    by false n = impossible (sym n)
keyed_opens f w kind.TsModuleDecl b i e n = by f n
  where
    by : (f : Bool) → body_kind f (kind_opened kind.TsModuleDecl (opened_as w kind.TsModuleDecl b)) ≡ None → ⊥
    by true n = impossible (sym n)
    by false n = impossible (sym n)
keyed_opens f w k b i e n = impossible e

-- the child whose turn it is has that turn, where there is no key
pub turn_is_number : (k : Kind) (i : ℕ) → key_field k ≡ None → turn_in k (child_at k i) ≡ i
turn_is_number kind.CatchClause i e = body_first_twice i
turn_is_number kind.Constructor i e = impossible (sym e)
turn_is_number kind.GetterProp i e = impossible (sym e)
turn_is_number kind.SetterProp i e = impossible (sym e)
turn_is_number kind.TsModuleDecl i e = impossible (sym e)
turn_is_number k i e = refl

-- where there is one, the key has the first turn, and the others come two later than their numbers
pub turn_behind_key : (k : Kind) (f i : ℕ) → key_field k ≡ Some f → turn_in k (child_at k i) ≡ key_first k i
turn_behind_key kind.Constructor f i e = refl
turn_behind_key kind.GetterProp f i e = refl
turn_behind_key kind.SetterProp f i e = refl
turn_behind_key kind.TsModuleDecl f i e = refl
turn_behind_key k f i e = impossible e
