-- What fits its place still does when each child fits as the one before it.
use Rattle.std.proofs.Common.{◌≡◌, ℕ, zero, suc, true, IsTrue, Some, List, [], ◌∷◌, length, map, refl, subst}
use Rattle.std.specs.List.{list_all, slice_get}
use Rattle.swc_tree_node.specs.declared.kind.Kind.{Kind}
use Rattle.swc_tree_node.specs.declared.slot.Content.TheVariants as content
use Rattle.swc_tree_node.specs.declared.slot.Slot.{Slot}
use Rattle.swc_tree_node.specs.declared.slot.Slot.TheVariants as slot
use Rattle.swc_tree_node.specs.declared.node.Node.{Node, List as Many, Tree}
use Rattle.swc_tree_node.specs.Table.{slots_of}
use Rattle.swc_tree_node.specs.Fits.{fits, Fits, AllFit, FieldsFit, list_fits}
use Rattle.swc_tree_node.proofs.Fit.{all_close, all_open, fields_close, fields_open, fits-List}
use Rattle.swc_base_rename_substitution.specs.Room.{FitsAs, has_room, takes_exports, takes_written}
use Rattle.swc_base_rename_substitution.proofs.Room.{left, right, table_has_room, tree_close, tree_open}
use Rattle.swc_base_rename_units.specs.declared.units.Above.{Above}
use Rattle.swc_base_rename_units.specs.declared.units.Above.TheVariants.{Items, Fields}
use Rattle.swc_base_rename_units.specs.Walk.{EachBecomes}

-- one after another
abbrev pub EachFitsAs : List Node → List Node → Type 0
EachFitsAs [] [] = Unit {0}
EachFitsAs (t ∷ ts) (u ∷ us) = FitsAs t u × EachFitsAs ts us
EachFitsAs _ _ = ⊥

by_number : (ts us : List Node) → length us ≡ length ts → ((i : ℕ) (c : Node) → slice_get ts i ≡ Some c → (d : Node) × (slice_get us i ≡ Some d) × FitsAs c d) → EachFitsAs ts us
by_number [] [] h each = tt
by_number [] (u ∷ us) h each = absurd (cc)
by_number (t ∷ ts) [] h each = absurd (cc)
by_number (t ∷ ts) (u ∷ us) h each =
    let d = each zero t refl in
    let same : d.0 ≡ u = let e = d.1 in cc in
    (subst (FitsAs t) same d.2, by_number ts us (cc) (λ i c e. each (suc i) c e))

each_fits_as : (becomes : Node → Node → Type 0) (above : Above) (ts us : List Node) → EachBecomes becomes above ts us → EachFitsAs ts us
each_fits_as becomes above ts us h = by_number ts us h.as_many (λ i c e. let d = h.each i c e in (d.0, d.1, d.2.fits))

all_as : (s : Slot) (ts us : List Node) → has_room s ≡ true → EachFitsAs ts us → AllFit s ts → AllFit s us
all_as s [] [] r h f = tt
all_as s [] (u ∷ us) r h f = absurd h
all_as s (t ∷ ts) [] r h f = absurd h
all_as s (t ∷ ts) (u ∷ us) r h f = (h.0 s r f.0, all_as s ts us r h.1 f.1)

fields_as : (ss : List Slot) (ts us : List Node) → list_all has_room ss ≡ true → EachFitsAs ts us → FieldsFit ss ts → FieldsFit ss us
fields_as [] [] [] r h f = tt
fields_as [] [] (u ∷ us) r h f = absurd h
fields_as [] (t ∷ ts) us r h f = absurd f
fields_as (s ∷ ss) [] us r h f = absurd f
fields_as (s ∷ ss) (t ∷ ts) [] r h f = absurd h
fields_as (s ∷ ss) (t ∷ ts) (u ∷ us) r h f = (h.0 s (left (has_room s) (list_all has_room ss) r) f.0, fields_as ss ts us (right (has_room s) (list_all has_room ss) r) h.1 f.1)

list_as : (s : Slot) (ts us : List Node) → has_room s ≡ true → EachFitsAs ts us → IsTrue (list_fits (map fits ts) s) → IsTrue (list_fits (map fits us) s)
list_as (slot.List c) ts us r h f = all_close (slot.One c) us (all_as (slot.One c) ts us (left (takes_written c) (takes_exports c) r) h (all_open (slot.One c) ts f))
list_as (slot.Holes c) ts us r h f = all_close (slot.Optional c) us (all_as (slot.Optional c) ts us (left (takes_written c) (takes_exports c) r) h (all_open (slot.Optional c) ts f))
list_as (slot.OptionalList c) ts us r h f = all_close (slot.One c) us (all_as (slot.One c) ts us (left (takes_written c) (takes_exports c) r) h (all_open (slot.One c) ts f))
list_as slot.Pair ts us r h f =
    let ss : List Slot = slot.One content.Text ∷ slot.One content.Text ∷ [] in
    fields_close ss us (fields_as ss ts us refl h (fields_open ss ts f))
list_as slot.Pairs ts us r h f = all_close slot.Pair us (all_as slot.Pair ts us refl h (all_open slot.Pair ts f))
list_as (slot.One c) ts us r h f = absurd (cc)
list_as (slot.Optional c) ts us r h f = absurd (cc)

pub list_fits_as : (becomes : Node → Node → Type 0) (t : Node) (ts us : List Node) → t ≡ Many ts → EachBecomes becomes Items ts us → FitsAs t (Many us)
list_fits_as becomes t ts us is h s r f = rw (fits-List us s) (list_as s ts us r (each_fits_as becomes Items ts us h) (rw (← fits-List ts s) (subst (λ t. Fits t s) is f)))

pub tree_fits_as : (becomes : Node → Node → Type 0) (t : Node) (k : Kind) (ts us : List Node) → t ≡ Tree k ts → EachBecomes becomes (Fields k) ts us → FitsAs t (Tree k us)
tree_fits_as becomes t k ts us is h s r f =
    let o = tree_open k ts s (subst (λ t. Fits t s) is f) in
    tree_close k us s o.0 o.1 o.2 o.3 (fields_as (slots_of k) ts us (table_has_room k) (each_fits_as becomes (Fields k) ts us h) o.4)
