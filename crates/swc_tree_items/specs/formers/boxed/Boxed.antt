-- How a `Boxed` stores its value, so that a type may lead back to itself through one.
--
-- Clauses see a `Boxed` as the value that it holds. In memory it is a struct with one field, a `Box`:
-- a pointer, the allocator that it came from, and the value, which lies where the pointer leads.
use base.Fml.{Fml, Lft, ftrue}
use base.Stored.{gnil}
use denote.Hole.Fix.{over}
use denote.HoleLaws.{Alike}
use denote.HolePlaces.{Recodes, laid, one_value, struct_places}
use denote.Memory.{part_of}
use denote.Model.Placed.{view_places}
use denote.Param.Weighed.{Weighed}
use denote.RattleType.{RattleType}
use denote.RawPtr.{Ptr}
use denote.Sharing.{nothing}
use mathlib.Core.Former.{Former, const, pair, this, via}
use mathlib.Core.List.{List}
use mathlib.Core.Path.{refl}
use mir.Syntax.{Ty}
use mir.Val.{Val}
use Prim.Native.Nat.{ℕ}
use Rattle.std.specs.contracts.alloc.Global as global
use Rattle.std.specs.contracts.boxed.Box as std_box
use Rattle.std.specs.contracts.impls.GlobalAllocator.TheImpl.{ghosts}
use Rattle.std.specs.declared.alloc.Global.{Global}
use Rattle.std.specs.declared.boxed.Box.{Box}
use Rattle.swc_tree_items.specs.contracts.boxed.Boxed.{the_row as row_of}
use Rattle.swc_tree_items.specs.contracts.boxed.Boxed.TheInside as inside
use Rattle.swc_tree_items.specs.declared.boxed.Boxed.TheInside.{Inside}
use Rattle.swc_tree_items.specs.declared.boxed.Boxed.TheView.{invariant, view}

-- the value

abbrev pub the_former : Former {0} → Former {0}
the_former value = value

abbrev pub the_weighed : {value : Former {0}} → Weighed value → Weighed (the_former value)
the_weighed weighed = weighed

-- the fields: the value, and the pointer and the allocator, which know nothing of it

abbrev Handle : Type 0
Handle = Ptr × Global

abbrev parts_of : (X : Type 0) → Inside X → X × Handle
parts_of X fields = (fields.inner.value, (fields.inner.ptr, fields.inner.alloc))

abbrev struct_of : (X : Type 0) → X × Handle → Inside X
struct_of X parts = record { inner = record { ptr = parts.1.0; alloc = parts.1.1; value = parts.0 } }

abbrev stored : Former {0}
stored = via (pair this (const Handle)) Inside parts_of struct_of (λ X fields. refl) (λ X parts. refl)

-- the same box round another value

abbrev refilled : {X Y : Type 0} → Box X Global → Y → Box Y Global
refilled held value = record { ptr = held.ptr; alloc = held.alloc; value = value }

abbrev box_row : RattleType → RattleType
box_row Value = std_box.the_row Value global.the_row ghosts

-- a change of the value's type that keeps how it lies, keeps how the box lies

module _ (Old New : RattleType) (change : Old.Denot → New.Denot) where
  -- the box of a value of which only this is known: its layout, what it owns and what it lends
  abbrev box_round : List Ty → (List Val → Fml) → (ℕ → ℕ → Lft → Fml) → RattleType
  box_round layout owned lent = box_row (one_value Old layout owned lent gnil)

  box_alike : Alike Old New change → Alike (box_row Old) (box_row New) (λ held. refilled held (change held.value))
  unfolding part_of
  box_alike same = record {
    mir_same = λ i. (box_round (same.mir_same i) (λ _. ftrue) (λ _ _. nothing)).mir;
    own_same = λ held i. (box_round (same.mir_same i) (same.own_same held.value i) (same.shr_same held.value i)).own_val (refilled held tt);
    shr_same = λ held i. (box_round (same.mir_same i) (same.own_same held.value i) (same.shr_same held.value i)).shr_at (refilled held tt);
  }

  stored_alike : Alike Old New change → Alike (inside.the_row Old) (inside.the_row New) (stored.map Old.Denot New.Denot change)
  stored_alike same = struct_places (inside.the_type Old) (inside.the_type New) ((λ held. refilled held (change held.value)), tt) _ (λ fields. refl) refl
      (laid _ _ _ (box_alike same), tt)

  pub the_places : Alike Old New change → Alike (row_of Old) (row_of New) ((the_former this).map Old.Denot New.Denot change)
  the_places same = view_places stored this view (λ X Y f fields. refl) (λ X fields. refl) Old.Denot New.Denot change
      (row_of Old).coded (row_of New).coded (invariant Old.Denot) (invariant New.Denot)
      (λ fields p q. refl) (λ fields p q. refl) (λ fields holds. tt) (λ fields holds. tt)
      (over (inside.the_row Old)) (over (inside.the_row New)) (stored_alike same)

  pub the_codes_placed : Recodes Old New change → Recodes (row_of Old) (row_of New) ((the_former this).map Old.Denot New.Denot change)
  the_codes_placed recoded value = recoded value
