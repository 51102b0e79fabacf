-- How an `Items` stores its elements, so that a type may lead back to itself through one.
--
-- Clauses see an `Items` as a list, and the elements of the list are what it holds. In memory it is a
-- struct with one field, a `Vec` of these elements, so where they lie is for the `Vec` to say.
use base.Stored.{code_map}
use denote.Hole.Carrier.{list-listed, listed}
use denote.Hole.Fix.{over}
use denote.HoleLaws.{Alike}
use denote.HolePlaces.{Recodes, laid, struct_places}
use denote.Model.Placed.{view_places}
use denote.Param.Weighed.{Weighed, w_list}
use denote.RattleType.{RattleType}
use mathlib.Core.Former.{Former, children, list, this, via}
use mathlib.Core.List.{List, []}
use mathlib.Core.Path.{◌≡◌, refl, sym}
use Rattle.std.specs.contracts.alloc.Global as global
use Rattle.std.specs.contracts.impls.GlobalAllocator.TheImpl.{ghosts}
use Rattle.std.specs.declared.alloc.Global.{Global}
use Rattle.std.specs.formers.vec.Vec as std_vec
use Rattle.swc_tree_items.specs.contracts.items.Items.{the_row as row_of}
use Rattle.swc_tree_items.specs.contracts.items.Items.TheInside as inside
use Rattle.swc_tree_items.specs.declared.items.Items.TheInside.{Inside}
use Rattle.swc_tree_items.specs.declared.items.Items.TheView.{invariant, view}

-- the value

abbrev pub the_former : Former {0} → Former {0}
the_former element = list element

pub the_empty : List ⊥
the_empty = []

abbrev pub the_items : (X : Type 0) → List X → List X
the_items X elements = elements

pub the_items_listed : (X : Type 0) (elements : List X) → listed _ (children (the_former this) X elements) ≡ the_items X elements
the_items_listed X elements = list-listed X elements

abbrev pub the_weighed : {element : Former {0}} → Weighed element → Weighed (the_former element)
the_weighed weighed = w_list weighed

-- the fields: the `Vec`, in the struct that holds it alone

abbrev vec_of : (X : Type 0) → Inside X → (std_vec.the_former this Global).Of X
vec_of X fields = fields.items

abbrev struct_of : (X : Type 0) → (std_vec.the_former this Global).Of X → Inside X
struct_of X vec = record { items = vec }

abbrev stored : Former {0}
stored = via (std_vec.the_former this Global) Inside vec_of struct_of (λ X fields. refl) (λ X vec. refl)

-- a change of the elements' type that keeps how each element lies, keeps how the list lies

module _ (Old New : RattleType) (change : Old.Denot → New.Denot) where
  stored_alike : Alike Old New change → Alike (inside.the_row Old) (inside.the_row New) (stored.map Old.Denot New.Denot change)
  stored_alike elements =
      let vecs = laid _ _ _ (std_vec.the_places global.the_row ghosts Old New change elements) in
      struct_places (inside.the_type Old) (inside.the_type New) (std_vec.mapped change, tt) _ (λ fields. refl) refl (vecs, tt)

  pub the_places : Alike Old New change → Alike (row_of Old) (row_of New) ((the_former this).map Old.Denot New.Denot change)
  the_places elements = view_places stored (the_former this) view (λ X Y f fields. refl) (λ X fields. refl) Old.Denot New.Denot change
      (row_of Old).coded (row_of New).coded (invariant Old.Denot) (invariant New.Denot)
      (λ fields p q. refl) (λ fields p q. refl) (λ fields holds. tt) (λ fields holds. tt)
      (over (inside.the_row Old)) (over (inside.the_row New)) (stored_alike elements)

  pub the_codes_placed : Recodes Old New change → Recodes (row_of Old) (row_of New) ((the_former this).map Old.Denot New.Denot change)
  the_codes_placed recoded elements = sym (code_map Old.coded.code New.coded.code change (λ element. sym (recoded element)) elements)
