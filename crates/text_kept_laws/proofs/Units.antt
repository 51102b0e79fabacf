-- A tree of which each outermost unit without a reader of names became another.
use Rattle.std.proofs.Common.{◌≡◌, ℕ, zero, suc, Bool, true, false, ◌⊎◌, inl, inr, IsTrue, Some, List, [], ◌∷◌, ◌++◌, length, map, refl, sym, ap, ◌∙◌, subst, arith}
use Rattle.std.specs.Prelude.{slice_get}
use Rattle.std.specs.List.{list_all}
use Rattle.swc_tree_node.specs.declared.kind.Kind.{Kind}
use Rattle.swc_tree_node.specs.declared.slot.Content.TheVariants as content
use Rattle.swc_tree_node.specs.declared.slot.Slot.{Slot}
use Rattle.swc_tree_node.specs.declared.slot.Slot.TheVariants as slot
use Rattle.swc_tree_node.specs.declared.node.Node.{Node, Absent, Flag, Word, Text, Span, List as Many, Identifier, Tree, out-Node, roll-Node, map-Node, roll-out-Node}
use Rattle.swc_tree_node.specs.declared.node.Node.TheOpen.{Node-F}
use Rattle.swc_tree_node.specs.declared.node.Node.TheVariants.{outs-Absent, outs-Flag, outs-Identifier, outs-List, outs-Span, outs-Text, outs-Tree, outs-Word}
use Rattle.swc_tree_node.specs.Table.{slots_of}
use Rattle.swc_tree_node.specs.Fits.{AllFit, FieldsFit, Fits, fits, list_fits}
use Rattle.swc_tree_node.proofs.Fit.{all_close, all_open, fields_close, fields_open, fits-List}
use Rattle.swc_tree_scoping.specs.Places.{Path, children_in}
use Rattle.swc_tree_scoping.proofs.Remarked.{list_is, tree_is}
use Rattle.swc_tree_grammar.proofs.Induction.{Each, by_children}
use Rattle.swc_base_rename_substitution.specs.Room.{FitsAs, has_room, takes_exports, takes_written}
use Rattle.swc_base_rename_substitution.proofs.Room.{left, right, table_has_room, tree_close, tree_open}
use Rattle.swc_base_rename_units.specs.Eval.{node_at}
use Rattle.swc_base_rename_units.specs.Units.{HasUnits, IsOutermost, LeadsOn, shape}
use Rattle.swc_base_fixer_laws.specs.Sets.{item}
use Rattle.swc_base_fixer_laws.proofs.SetsRows.{items_open}
use Rattle.text_kept_laws.proofs.Free.{at_each, some_same}
use Rattle.text_kept_laws.proofs.PairsSeen.{seen_never}
use Rattle.text_kept_laws.proofs.Kept.{AllKept, ItemsKept, Kept, kept_same, list_kept, tree_kept}
use Rattle.text_kept_laws.proofs.Paths.{May, either, further, may_then, not_nothing, one_further}

abbrev pub Both : Slot → Node → Node → Type 0
Both s t u = Kept s t u × FitsAs t u

-- ---- what fits still does

abbrev AllBoth : List Slot → List Node → List Node → Type 0
AllBoth [] [] [] = Unit {0}
AllBoth (s ∷ ss) (t ∷ ts) (u ∷ us) = Both s t u × AllBoth ss ts us
AllBoth _ _ _ = ⊥

abbrev ItemsBoth : Slot → List Node → List Node → Type 0
ItemsBoth s [] [] = Unit {0}
ItemsBoth s (t ∷ ts) (u ∷ us) = Both s t u × ItemsBoth s ts us
ItemsBoth s _ _ = ⊥

all_kept : (ss : List Slot) (ts us : List Node) → AllBoth ss ts us → AllKept ss ts us
all_kept [] [] [] l = tt
all_kept (s ∷ ss) (t ∷ ts) (u ∷ us) l = (l.0.0, all_kept ss ts us l.1)
all_kept [] [] (u ∷ us) l = absurd l
all_kept [] (t ∷ ts) us l = absurd l
all_kept (s ∷ ss) [] us l = absurd l
all_kept (s ∷ ss) (t ∷ ts) [] l = absurd l

items_kept : (s : Slot) (ts us : List Node) → ItemsBoth s ts us → ItemsKept s ts us
items_kept s [] [] l = tt
items_kept s (t ∷ ts) (u ∷ us) l = (l.0.0, items_kept s ts us l.1)
items_kept s [] (u ∷ us) l = absurd l
items_kept s (t ∷ ts) [] l = absurd l

abbrev Fitted : List Node → List Node → Type 0
Fitted [] [] = Unit {0}
Fitted (t ∷ ts) (u ∷ us) = FitsAs t u × Fitted ts us
Fitted _ _ = ⊥

all_fitted : (ss : List Slot) (ts us : List Node) → AllBoth ss ts us → Fitted ts us
all_fitted [] [] [] l = tt
all_fitted (s ∷ ss) (t ∷ ts) (u ∷ us) l = (l.0.1, all_fitted ss ts us l.1)
all_fitted [] [] (u ∷ us) l = absurd l
all_fitted [] (t ∷ ts) us l = absurd l
all_fitted (s ∷ ss) [] us l = absurd l
all_fitted (s ∷ ss) (t ∷ ts) [] l = absurd l

items_fitted : (s : Slot) (ts us : List Node) → ItemsBoth s ts us → Fitted ts us
items_fitted s [] [] l = tt
items_fitted s (t ∷ ts) (u ∷ us) l = (l.0.1, items_fitted s ts us l.1)
items_fitted s [] (u ∷ us) l = absurd l
items_fitted s (t ∷ ts) [] l = absurd l

all_as : (s : Slot) (ts us : List Node) → has_room s ≡ true → Fitted ts us → AllFit s ts → AllFit s us
all_as s [] [] r h f = tt
all_as s [] (u ∷ us) r h f = absurd h
all_as s (t ∷ ts) [] r h f = absurd h
all_as s (t ∷ ts) (u ∷ us) r h f = (h.0 s r f.0, all_as s ts us r h.1 f.1)

fields_as : (ss : List Slot) (ts us : List Node) → list_all has_room ss ≡ true → Fitted ts us → FieldsFit ss ts → FieldsFit ss us
fields_as [] [] [] r h f = tt
fields_as [] [] (u ∷ us) r h f = absurd h
fields_as [] (t ∷ ts) us r h f = absurd f
fields_as (s ∷ ss) [] us r h f = absurd f
fields_as (s ∷ ss) (t ∷ ts) [] r h f = absurd h
fields_as (s ∷ ss) (t ∷ ts) (u ∷ us) r h f = (h.0 s (left (has_room s) (list_all has_room ss) r) f.0, fields_as ss ts us (right (has_room s) (list_all has_room ss) r) h.1 f.1)

list_as : (s : Slot) (ts us : List Node) → has_room s ≡ true → Fitted ts us → IsTrue (list_fits (map fits ts) s) → IsTrue (list_fits (map fits us) s)
list_as (slot.List c) ts us r h f = all_close (slot.One c) us (all_as (slot.One c) ts us (left (takes_written c) (takes_exports c) r) h (all_open (slot.One c) ts f))
list_as (slot.Holes c) ts us r h f = all_close (slot.Optional c) us (all_as (slot.Optional c) ts us (left (takes_written c) (takes_exports c) r) h (all_open (slot.Optional c) ts f))
list_as (slot.OptionalList c) ts us r h f = all_close (slot.One c) us (all_as (slot.One c) ts us (left (takes_written c) (takes_exports c) r) h (all_open (slot.One c) ts f))
list_as slot.Pair ts us r h f =
    let ss : List Slot = slot.One content.Text ∷ slot.One content.Text ∷ [] in
    fields_close ss us (fields_as ss ts us refl h (fields_open ss ts f))
list_as slot.Pairs ts us r h f = all_close slot.Pair us (all_as slot.Pair ts us refl h (all_open slot.Pair ts f))
list_as (slot.One c) ts us r h f = absurd (cc)
list_as (slot.Optional c) ts us r h f = absurd (cc)

list_fits_as : (ts us : List Node) → Fitted ts us → FitsAs (Many ts) (Many us)
list_fits_as ts us h s r f = rw (fits-List us s) (list_as s ts us r h (rw (← fits-List ts s) f))

tree_fits_as : (k : Kind) (ts us : List Node) → Fitted ts us → FitsAs (Tree k ts) (Tree k us)
tree_fits_as k ts us h s r f = let o = tree_open k ts s f in tree_close k us s o.0 o.1 o.2 o.3 (fields_as (slots_of k) ts us (table_has_room k) h o.4)

-- ---- nodes of one shape

abbrev bare : Node-F Node → Node-F (Unit {0})
bare y = map-Node Node (Unit {0}) (λ c. tt) y

abbrev is_leaf : Node-F Node → Bool
is_leaf (Node-F.List ts) = false
is_leaf (Node-F.Tree k ts) = false
is_leaf _ = true

abbrev back : Node-F (Unit {0}) → Node-F Node
back Node-F.Absent = Node-F.Absent
back (Node-F.Flag x) = Node-F.Flag x
back (Node-F.Word x) = Node-F.Word x
back (Node-F.Text x) = Node-F.Text x
back (Node-F.Span x) = Node-F.Span x
back (Node-F.Identifier k i) = Node-F.Identifier k i
back (Node-F.List us) = Node-F.List []
back (Node-F.Tree k us) = Node-F.Tree k []

leaf_back : (z : Node-F Node) → is_leaf z ≡ true → back (bare z) ≡ z
leaf_back Node-F.Absent h = refl
leaf_back (Node-F.Flag x) h = refl
leaf_back (Node-F.Word x) h = refl
leaf_back (Node-F.Text x) h = refl
leaf_back (Node-F.Span x) h = refl
leaf_back (Node-F.Identifier k i) h = refl
leaf_back (Node-F.List us) h = seen_never (sym h)
leaf_back (Node-F.Tree k us) h = seen_never (sym h)

leaf_layer : (y z : Node-F Node) → is_leaf z ≡ true → bare y ≡ bare z → y ≡ z
leaf_layer Node-F.Absent z h e = ap back e ∙ leaf_back z h
leaf_layer (Node-F.Flag x) z h e = ap back e ∙ leaf_back z h
leaf_layer (Node-F.Word x) z h e = ap back e ∙ leaf_back z h
leaf_layer (Node-F.Text x) z h e = ap back e ∙ leaf_back z h
leaf_layer (Node-F.Span x) z h e = ap back e ∙ leaf_back z h
leaf_layer (Node-F.Identifier k i) z h e = ap back e ∙ leaf_back z h
leaf_layer (Node-F.List us) z h e = seen_never (sym (ap is_leaf (ap back e ∙ leaf_back z h) ∙ h))
leaf_layer (Node-F.Tree k us) z h e = seen_never (sym (ap is_leaf (ap back e ∙ leaf_back z h) ∙ h))

leaf_same : (m t : Node) (z : Node-F Node) → out-Node t ≡ z → is_leaf z ≡ true → shape m ≡ shape t → m ≡ t
leaf_same m t z o h e = sym (roll-out-Node m) ∙ ap roll-Node (leaf_layer (out-Node m) (out-Node t) (ap is_leaf o ∙ h) e) ∙ roll-out-Node t

abbrev count : Node-F (Unit {0}) → ℕ
count (Node-F.List us) = length us
count (Node-F.Tree k us) = length us
count _ = 0

abbrev nothing : Node → Unit {0}
nothing c = tt

mapped : (ts : List Node) → length (map nothing ts) ≡ length ts
mapped [] = refl
mapped (t ∷ ts) = ap suc (mapped ts)

record AsList (m : Node) (ts : List Node) : Type 0 where
  us : List Node
  is : m ≡ Many us
  as_many : length us ≡ length ts

list_layer : (m : Node) (ts : List Node) (y : Node-F Node) → out-Node m ≡ y → bare y ≡ bare (Node-F.List ts) → AsList m ts
list_layer m ts (Node-F.List us) o e = record { us = us; is = list_is m us o; as_many = sym (mapped us) ∙ ap count e ∙ mapped ts }
list_layer m ts (Node-F.Tree k us) o e = absurd (cc)
list_layer m ts (Node-F.Identifier k i) o e = absurd (cc)
list_layer m ts Node-F.Absent o e = absurd (cc)
list_layer m ts (Node-F.Flag x) o e = absurd (cc)
list_layer m ts (Node-F.Word x) o e = absurd (cc)
list_layer m ts (Node-F.Text x) o e = absurd (cc)
list_layer m ts (Node-F.Span x) o e = absurd (cc)

record AsTree (m : Node) (k : Kind) (ts : List Node) : Type 0 where
  us : List Node
  is : m ≡ Tree k us
  as_many : length us ≡ length ts

tree_layer : (m : Node) (k : Kind) (ts : List Node) (y : Node-F Node) → out-Node m ≡ y → bare y ≡ bare (Node-F.Tree k ts) → AsTree m k ts
tree_layer m k ts (Node-F.Tree l us) o e = let same : l ≡ k = cc in record { us = us; is = tree_is m l us o ∙ ap (λ k. Tree k us) same; as_many = sym (mapped us) ∙ ap count e ∙ mapped ts }
tree_layer m k ts (Node-F.List us) o e = absurd (cc)
tree_layer m k ts (Node-F.Identifier l i) o e = absurd (cc)
tree_layer m k ts Node-F.Absent o e = absurd (cc)
tree_layer m k ts (Node-F.Flag x) o e = absurd (cc)
tree_layer m k ts (Node-F.Word x) o e = absurd (cc)
tree_layer m k ts (Node-F.Text x) o e = absurd (cc)
tree_layer m k ts (Node-F.Span x) o e = absurd (cc)

-- ---- each of some nodes

abbrev Each' : List Node → List Node → Type 0
Each' ts us = (i : ℕ) (c : Node) (s : Slot) → slice_get ts i ≡ Some c → Fits c s → May ((u : Node) × (slice_get us i ≡ Some u) × Both s c u)

more_each : (t u : Node) (ts us : List Node) → Each' (t ∷ ts) (u ∷ us) → Each' ts us
more_each t u ts us h i c s e f = h (suc i) c s e f

first_each : (t u : Node) (ts us : List Node) (s : Slot) → Each' (t ∷ ts) (u ∷ us) → Fits t s → May (Both s t u)
first_each t u ts us s h f = may_then (h zero t s refl f) (λ w refute. refute (subst (Both s t) (sym (some_same w.1)) w.2))

-- lists that are as long are so behind their first items
lengths_behind : (t u : Node) (ts us : List Node) → length (u ∷ us) ≡ length (t ∷ ts) → length us ≡ length ts
lengths_behind t u ts us e = omega (arith, e)

none_longer : {A : Type 0} (u : Node) (us : List Node) → length (u ∷ us) ≡ 0 → A
none_longer u us e = absurd (omega (arith, e))

none_shorter : {A : Type 0} (t : Node) (ts : List Node) → 0 ≡ length (t ∷ ts) → A
none_shorter t ts e = absurd (omega (arith, e))

fields_may : (ss : List Slot) (ts us : List Node) → FieldsFit ss ts → length us ≡ length ts → Each' ts us → May (AllBoth ss ts us)
fields_may [] [] [] f e h refute = refute tt
fields_may [] [] (u ∷ us) f e h refute = none_longer u us e
fields_may [] (t ∷ ts) us f e h refute = absurd f
fields_may (s ∷ ss) [] us f e h refute = absurd f
fields_may (s ∷ ss) (t ∷ ts) [] f e h refute = none_shorter t ts e
fields_may (s ∷ ss) (t ∷ ts) (u ∷ us) f e h refute =
    first_each t u ts us s h f.0 (λ b. fields_may ss ts us f.1 (lengths_behind t u ts us e) (more_each t u ts us h) (λ l. refute (b, l)))

items_may : (s : Slot) (ts us : List Node) → AllFit s ts → length us ≡ length ts → Each' ts us → May (ItemsBoth s ts us)
items_may s [] [] f e h refute = refute tt
items_may s [] (u ∷ us) f e h refute = none_longer u us e
items_may s (t ∷ ts) [] f e h refute = none_shorter t ts e
items_may s (t ∷ ts) (u ∷ us) f e h refute = first_each t u ts us s h f.0 (λ b. items_may s ts us f.1 (lengths_behind t u ts us e) (more_each t u ts us h) (λ l. refute (b, l)))

-- ---- the whole

module _ (before between : Node) (becomes : Node → Node → Type 0) (h : HasUnits becomes before between)
    (named : (s : Slot) (p : Path) (u v : Node) → node_at before p ≡ Some u → Fits u s → IsOutermost before p u → becomes u v → May (Both s u v)) where
  abbrev NoneAbove : Path → Type 0
  NoneAbove q = (r : Path) (v : Node) → IsOutermost before r v → LeadsOn r q → ⊥

  abbrev Out : Slot → Node → Path → Type 0
  Out s t q = (u : Node) × (node_at between q ≡ Some u) × Both s t u

  abbrev P : Node → Type 0
  P t = (q : Path) (s : Slot) → node_at before q ≡ Some t → Fits t s → NoneAbove q → May (Out s t q)

  -- where an outermost unit stands
  unit_there : (q : Path) (v : Node) → IsOutermost before q v → node_at before q ≡ Some v
  unit_there q v o = ap (node_at before) o.unit.path ∙ further o.unit.above before o.unit.parent o.unit.index o.unit.parent_there ∙ o.unit.there

  not_here : (q : Path) (t : Node) → node_at before q ≡ Some t → NoneAbove q → (IsOutermost before q t → ⊥) → (r : Path) (v : Node) → IsOutermost before r v → ¬ ((r ≡ q) ⊎ LeadsOn r q)
  not_here q t at none other r v o (inl e) =
      let same : v ≡ t = some_same (sym (unit_there r v o) ∙ ap (node_at before) e ∙ at) in
      other (subst (λ v. IsOutermost before q v) same (subst (λ r. IsOutermost before r v) e o))
  not_here q t at none other r v o (inr l) = none r v o l

  none_below : (q : Path) (t : Node) (i : ℕ) → node_at before q ≡ Some t → NoneAbove q → (IsOutermost before q t → ⊥) → NoneAbove (q ++ i ∷ [])
  none_below q t i at none other r v o (j, below, e) = by (one_further r q i j below e)
    where
      by : (r ≡ q) ⊎ ((k : ℕ) × (more : Path) × (q ≡ r ++ k ∷ more)) → ⊥
      by (inl same) = not_here q t at none other r v o (inl same)
      by (inr l) = none r v o l

  abbrev Otherwise : Node → Type 0
  Otherwise t = (q : Path) (s : Slot) (m : Node) → node_at before q ≡ Some t → Fits t s → NoneAbove q → (IsOutermost before q t → ⊥) → node_at between q ≡ Some m → shape m ≡ shape t → May (Both s t m)

  -- an outermost unit became another, and any other node has its shape
  decided : (t : Node) → Otherwise t → P t
  decided t otherwise q s at f none = may_then (either (IsOutermost before q t)) by
    where
      by : IsOutermost before q t ⊎ (IsOutermost before q t → ⊥) → May (Out s t q)
      by (inl o) refute = let (v, there, b) = h.units q t o in named s q t v at f o b (λ k. refute (v, there, k))
      by (inr other) refute = let (m, there, e) = h.others q t at (not_here q t at none other) in otherwise q s m at f none other there e (λ k. refute (m, there, k))

  leaf_stays : (t : Node) (z : Node-F Node) → out-Node t ≡ z → is_leaf z ≡ true → P t
  leaf_stays t z o l = decided t (λ q s m at f none other there e refute. refute (subst (Both s t) (sym (leaf_same m t z o l e)) (kept_same s t, λ s r g. g)))

  -- the children of a node are those of the other
  children_become : (t m : Node) (ts us : List Node) (q : Path) → children_in (out-Node t) ≡ ts → children_in (out-Node m) ≡ us → node_at before q ≡ Some t → node_at between q ≡ Some m → NoneAbove q → (IsOutermost before q t → ⊥)
      → Each P ts → Each' ts us
  children_become t m ts us q a b at there none other l i c s e f =
      let here : node_at before (q ++ i ∷ []) ≡ Some c = further q before t i at ∙ ap (λ l. slice_get l i) a ∙ e in
      may_then (at_each P ts l i c e (q ++ i ∷ []) s here f (none_below q t i at none other)) (λ w refute. refute (w.0, sym (further q between m i there ∙ ap (λ l. slice_get l i) b) ∙ w.1, w.2))

  list_stays : (ts : List Node) → Each P ts → P (Many ts)
  list_stays ts l = decided (Many ts) by
    where
      children : (ts : List Node) → children_in (out-Node (Many ts)) ≡ ts
      children ts = ap children_in (outs-List ts)

      as_list : (q : Path) (s : Slot) (us : List Node) → node_at before q ≡ Some (Many ts) → Fits (Many ts) s → NoneAbove q → (IsOutermost before q (Many ts) → ⊥) → node_at between q ≡ Some (Many us) → length us ≡ length ts → May (Both s (Many ts) (Many us))
      as_list q s us at f none other there e =
          may_then (items_may (item s) ts us (items_open s ts (sym (fits-List ts s) ∙ f)) e (children_become (Many ts) (Many us) ts us q (children ts) (children us) at there none other l))
          (λ b refute. refute (list_kept s (item s) ts us (items_kept (item s) ts us b), list_fits_as ts us (items_fitted (item s) ts us b)))

      by : Otherwise (Many ts)
      by q s m at f none other there e =
          let w = list_layer m ts (out-Node m) refl (e ∙ ap bare (outs-List ts)) in
          subst (λ m. May (Both s (Many ts) m)) (sym w.is) (as_list q s w.us at f none other (there ∙ ap Some w.is) w.as_many)

  tree_stays : (k : Kind) (ts : List Node) → Each P ts → P (Tree k ts)
  tree_stays k ts l = decided (Tree k ts) by
    where
      children : (ts : List Node) → children_in (out-Node (Tree k ts)) ≡ ts
      children ts = ap children_in (outs-Tree k ts)

      as_tree : (q : Path) (s : Slot) (us : List Node) → node_at before q ≡ Some (Tree k ts) → Fits (Tree k ts) s → NoneAbove q → (IsOutermost before q (Tree k ts) → ⊥) → node_at between q ≡ Some (Tree k us) → length us ≡ length ts
          → May (Both s (Tree k ts) (Tree k us))
      as_tree q s us at f none other there e =
          may_then (fields_may (slots_of k) ts us (tree_open k ts s f).4 e (children_become (Tree k ts) (Tree k us) ts us q (children ts) (children us) at there none other l))
          (λ b refute. refute (tree_kept s k ts us (all_kept (slots_of k) ts us b), tree_fits_as k ts us (all_fitted (slots_of k) ts us b)))

      by : Otherwise (Tree k ts)
      by q s m at f none other there e =
          let w = tree_layer m k ts (out-Node m) refl (e ∙ ap bare (outs-Tree k ts)) in
          subst (λ m. May (Both s (Tree k ts) m)) (sym w.is) (as_tree q s w.us at f none other (there ∙ ap Some w.is) w.as_many)

  stays : (t : Node) → P t
  stays t = by_children P (
    leaf_stays Absent Node-F.Absent outs-Absent refl,
    λ x. leaf_stays (Flag x) (Node-F.Flag x) (outs-Flag x) refl,
    λ x. leaf_stays (Word x) (Node-F.Word x) (outs-Word x) refl,
    λ x. leaf_stays (Text x) (Node-F.Text x) (outs-Text x) refl,
    λ x. leaf_stays (Span x) (Node-F.Span x) (outs-Span x) refl,
    λ k i. leaf_stays (Identifier k i) (Node-F.Identifier k i) (outs-Identifier k i) refl,
  )
      list_stays tree_stays t

  nothing_above : (r : Path) → LeadsOn r [] → ⊥
  nothing_above r (i, below, e) = not_nothing r i below e

  pub units_kept : (s : Slot) → Fits before s → May (Both s before between)
  units_kept s f = may_then (stays before [] s refl f (λ r v o l. nothing_above r l)) (λ w refute. refute (subst (Both s before) (sym (some_same w.1)) w.2))
