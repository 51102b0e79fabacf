-- Which forms what fits a place may have, and that nodes keep theirs when names are given anew.
use Rattle.std.proofs.Common.{◌≡◌, ℕ, zero, suc, Bool, true, false, not, IsTrue, Option, Some, None, List, [], ◌∷◌, map, refl, sym, ap, ◌∙◌}
use Rattle.std.specs.Prelude.{if◌then◌else◌, is_some}
use Rattle.std.specs.List.{slice_get}
use Rattle.swc_tree_marks.specs.declared.span.Span.{Span as Span'}
use Rattle.swc_tree_marks.specs.declared.ident.Ident.{Ident}
use Rattle.swc_tree_node.specs.declared.kind.Kind.{Kind}
use Rattle.swc_tree_node.specs.declared.kind.Kind.TheVariants as kind
use Rattle.swc_tree_node.specs.declared.kind.Class.{Class}
use Rattle.swc_tree_node.specs.declared.slot.Content.{Content}
use Rattle.swc_tree_node.specs.declared.slot.Content.TheVariants as content
use Rattle.swc_tree_node.specs.declared.slot.Slot.{Slot}
use Rattle.swc_tree_node.specs.declared.slot.Slot.TheVariants as slot
use Rattle.swc_tree_node.specs.declared.node.Node.{Node, Absent, Flag, Word, Text, Span, List as Many, Identifier, Tree, out-Node}
use Rattle.swc_tree_node.specs.declared.node.Node.TheOpen.{Node-F}
use Rattle.swc_tree_node.specs.declared.node.Node.TheVariants.{outs-Absent, outs-Flag, outs-Word, outs-Text, outs-Span, outs-List, outs-Identifier, outs-Tree}
use Rattle.swc_tree_node.specs.Table.{slots_of, is_identifier}
use Rattle.swc_tree_node.specs.Fits.{fits, Fits, FieldsFit, AllFit, belongs, list_fits, single}
use Rattle.swc_tree_node.proofs.Fit.{fits-Absent, fits-Flag, fits-Word, fits-Text, fits-Span, fits-List, fits-Identifier, fits-Tree, all_open, fields_open}
use Rattle.swc_tree_scoping.specs.Places.{is_there, absent_in}
use Rattle.swc_tree_grammar.proofs.Induction.{by_children}
use Rattle.swc_base_rename_substitution.specs.declared.place.Place.{Place}
use Rattle.swc_base_rename_substitution.specs.declared.place.Place.TheVariants as place
use Rattle.swc_base_rename_substitution.specs.Identifiers.{Changes, changed, identifier_in, identifier_to, written_out, written_out_if}
use Rattle.swc_base_rename_substitution.specs.Classes.{kept_class, let_if}
use Rattle.swc_base_rename_substitution.specs.Exports.{exported_in, exported_ids, exports_of, items_for, with_exports}
use Rattle.swc_base_rename_substitution.specs.Substituted.{if_changed, keeps_name, substituted, tree_for}
use Rattle.swc_base_rename_substitution.specs.Walk.{each_substituted, is_exported_in, is_exported_declaration}
use Rattle.swc_base_rename_substitution.proofs.Equations.{substituted-Absent, substituted-Flag, substituted-Word, substituted-Text, substituted-Span, substituted_identifier, substituted_list, substituted_tree}
use Rattle.swc_base_rename_substitution.proofs.Room.{identifier_open, tree_open}

-- ---- what fits

pub never : {A : Type 0} (a b : Bool) → a ≡ b → b ≡ false → a ≡ true → A
never a b e f h = absurd (cc)

-- the place of a list's items
abbrev pub item_slot : Slot → Slot
item_slot (slot.List c) = slot.One c
item_slot (slot.Holes c) = slot.Optional c
item_slot (slot.OptionalList c) = slot.One c
item_slot slot.Pair = slot.One content.Text
item_slot slot.Pairs = slot.Pair
item_slot s = s

pair_opens : (ts : List Node) → FieldsFit (slot.One content.Text ∷ slot.One content.Text ∷ []) ts → AllFit (slot.One content.Text) ts
pair_opens [] h = tt
pair_opens (t ∷ []) h = absurd h.1
pair_opens (t ∷ u ∷ []) h = (h.0, (h.1.0, tt))
pair_opens (t ∷ u ∷ v ∷ ts) h = absurd h.1.1

items_in : (ts : List Node) (s : Slot) → IsTrue (list_fits (map fits ts) s) → AllFit (item_slot s) ts
items_in ts (slot.List c) h = all_open (slot.One c) ts h
items_in ts (slot.Holes c) h = all_open (slot.Optional c) ts h
items_in ts (slot.OptionalList c) h = all_open (slot.One c) ts h
items_in ts slot.Pair h = pair_opens ts (fields_open (slot.One content.Text ∷ slot.One content.Text ∷ []) ts h)
items_in ts slot.Pairs h = all_open slot.Pair ts h
items_in ts (slot.One c) h = absurd (cc)
items_in ts (slot.Optional c) h = absurd (cc)

pub items_open : (ts : List Node) (s : Slot) → Fits (Many ts) s → AllFit (item_slot s) ts
items_open ts s h = items_in ts s (sym (fits-List ts s) ∙ h)

abbrev IsSpan : Node → Type 0
IsSpan t = Fits t (slot.One content.Span) → (x : Span') × (t ≡ Span x)

pub span_here : (t : Node) → IsSpan t
span_here = by_children IsSpan (
  λ h. never _ _ (fits-Absent _) refl h,
  λ x h. never _ _ (fits-Flag x _) refl h,
  λ w h. never _ _ (fits-Word w _) refl h,
  λ x h. never _ _ (fits-Text x _) refl h,
  λ x h. (x, refl),
  λ k i h. never _ _ (fits-Identifier k i _) refl h,
)
    (λ ts below h. never _ _ (fits-List ts _) refl h)
    (λ k ts below h. never _ _ (fits-Tree k ts _) refl h)

abbrev IsIdentifier : Class → Node → Type 0
IsIdentifier c t = Fits t (slot.One (content.Node c)) → (k : Kind) × (i : Ident) × (t ≡ Identifier k i) × IsTrue (belongs k c)

-- what stands where only identifiers may
pub identifier_here : (c : Class) → ((k : Kind) → IsTrue (belongs k c) → IsTrue (is_identifier k)) → (t : Node) → IsIdentifier c t
identifier_here c only = by_children (IsIdentifier c) (
  λ h. never _ _ (fits-Absent _) refl h,
  λ x h. never _ _ (fits-Flag x _) refl h,
  λ w h. never _ _ (fits-Word w _) refl h,
  λ x h. never _ _ (fits-Text x _) refl h,
  λ x h. never _ _ (fits-Span x _) refl h,
  λ k i h. let o = identifier_open k i (slot.One (content.Node c)) h in let same : o.0 ≡ c = let q = o.1 in cc in (k, i, refl, ap (belongs k) (sym same) ∙ o.3),
)
    (λ ts below h. never _ _ (fits-List ts _) refl h)
    (λ k ts below h.
    let o = tree_open k ts (slot.One (content.Node c)) h in
    let same : o.0 ≡ c = let q = o.1 in cc in
    never _ _ refl (ap not (only k (ap (belongs k) (sym same) ∙ o.3))) o.2)

abbrev IsTree : Class → Node → Type 0
IsTree c t = Fits t (slot.One (content.Node c)) → (k : Kind) × (ts : List Node) × (t ≡ Tree k ts) × IsTrue (belongs k c) × FieldsFit (slots_of k) ts

-- what stands where no identifiers may
pub tree_here : (c : Class) → ((k : Kind) → IsTrue (belongs k c) → is_identifier k ≡ false) → (t : Node) → IsTree c t
tree_here c none = by_children (IsTree c) (
  λ h. never _ _ (fits-Absent _) refl h,
  λ x h. never _ _ (fits-Flag x _) refl h,
  λ w h. never _ _ (fits-Word w _) refl h,
  λ x h. never _ _ (fits-Text x _) refl h,
  λ x h. never _ _ (fits-Span x _) refl h,
  λ k i h.
      let o = identifier_open k i (slot.One (content.Node c)) h in
      let same : o.0 ≡ c = let q = o.1 in cc in
      never _ _ refl (none k (ap (belongs k) (sym same) ∙ o.3)) o.2,
)
    (λ ts below h. never _ _ (fits-List ts _) refl h)
    (λ k ts below h.
    let o = tree_open k ts (slot.One (content.Node c)) h in
    let same : o.0 ≡ c = let q = o.1 in cc in
    (k, ts, refl, ap (belongs k) (sym same) ∙ o.3, o.4))

-- an exported declaration stands only where one may
abbrev IsNone : Slot → Node → Type 0
IsNone s t = Fits t s → is_exported_declaration t ≡ false

abbrev pub takes_none : Option Content → Bool
takes_none (Some (content.Node c)) = not (belongs kind.ExportDecl c)
takes_none c = true

exported_tree : (k : Kind) (ts : List Node) (c : Class) → IsTrue (belongs k c) → not (belongs kind.ExportDecl c) ≡ true → is_exported_declaration (Tree k ts) ≡ false
exported_tree kind.ExportDecl ts c b h = never _ _ refl (ap not b) h
exported_tree k ts c b h = ap is_exported_in (outs-Tree k ts)

pub not_exported : (s : Slot) → takes_none (single s) ≡ true → (t : Node) → IsNone s t
not_exported s none = by_children (IsNone s) (
  λ h. ap is_exported_in outs-Absent,
  λ x h. ap is_exported_in (outs-Flag x),
  λ w h. ap is_exported_in (outs-Word w),
  λ x h. ap is_exported_in (outs-Text x),
  λ x h. ap is_exported_in (outs-Span x),
  λ k i h. ap is_exported_in (outs-Identifier k i),
)
    (λ ts below h. ap is_exported_in (outs-List ts))
    (λ k ts below h. let o = tree_open k ts s h in exported_tree k ts o.0 o.3 (ap takes_none (sym o.1) ∙ none))

exports_none : (y : Node-F Node) → is_exported_in y ≡ false → exported_in y ≡ []
exports_none (Node-F.Tree kind.ExportDecl ts) h = absurd (cc)
exports_none (Node-F.Tree k ts) h = refl
exports_none y h = refl

pub exports_nothing : (t : Node) → is_exported_declaration t ≡ false → exported_ids t ≡ []
exports_nothing t h = exports_none (out-Node t) h

-- another item than an exported declaration stays one item
pub one_item : (m : Changes) (t u : Node) → is_exported_declaration t ≡ false → items_for m t u ≡ u ∷ []
one_item m t u h = ap (λ xs. with_exports u (exports_of m xs)) (exports_nothing t h)

-- ---- what a tree becomes

abbrev pub IsSomeTree : Node → Type 0
IsSomeTree t = (k : Kind) × (ts : List Node) × (t ≡ Tree k ts)

written_tree : (k : Kind) (i : Ident) (ts : List Node) → IsSomeTree (written_out k i ts)
written_tree kind.AssignPatProp i (s ∷ target ∷ value ∷ []) = (_, _, refl)
written_tree kind.ImportNamedSpecifier i ts = (_, _, refl)
written_tree kind.ExportNamedSpecifier i ts = (_, _, refl)
written_tree k i ts = (_, _, refl)

written_if_tree : (k : Kind) (i : Option Ident) (ts : List Node) → IsSomeTree (written_out_if k i ts)
written_if_tree k None ts = (_, _, refl)
written_if_tree k (Some i) ts = written_tree k i ts

-- kinds that write nothing out
pub same_kind : (k : Kind) (i : Option Ident) (ts : List Node) → ((i : Ident) → written_out_if k (Some i) ts ≡ Tree k ts) → written_out_if k i ts ≡ Tree k ts
same_kind k None ts h = refl
same_kind k (Some i) ts h = h i

let_tree : (j : Option Ident) (s : Option Span') (i : Ident) (name class : Node) → IsSomeTree (let_if j s i name class)
let_tree (Some j) (Some s) i name class = (_, _, refl)
let_tree j s i name class = (_, _, refl)

class_tree : (i : Option Ident) (ts : List Node) → IsSomeTree (kept_class i ts)
class_tree (Some i) (name ∷ class ∷ []) = let_tree _ _ i name class
class_tree i ts = (_, _, refl)

either_tree : (b : Bool) (t u : Node) → IsSomeTree t → IsSomeTree u → IsSomeTree (if b then t else u)
either_tree true t u h g = h
either_tree false t u h g = g

pub is_tree : (m : Changes) (keeps : Bool) (p : Place) (k : Kind) (ts us : List Node) → IsSomeTree (tree_for m keeps p k ts us)
is_tree m keeps p k ts us = either_tree (keeps_name keeps p k) _ _ (class_tree _ us) (written_if_tree k _ us)

-- ---- what names become

abbrev pub named : Node → Option Ident
named t = identifier_in (out-Node t)

-- places at which an unchanged identifier is left as it is, and a changed one stays an identifier
abbrev pub is_plain : Place → Bool
is_plain place.ClassName = false
is_plain place.Shorthand = false
is_plain p = true

module _ (m : Changes) (keeps : Bool) where
  abbrev StaysThere : Node → Type 0
  StaysThere t = (p : Place) → is_there (Some (substituted m keeps p t)) ≡ is_there (Some t)

  same_there : (t : Node) → ((p : Place) → substituted m keeps p t ≡ t) → StaysThere t
  same_there t e p = ap (λ t. is_there (Some t)) (e p)

  identifier_there : (p : Place) (k : Kind) (i : Ident) (j : Option Ident) → is_there (Some (identifier_to p k i j)) ≡ true
  identifier_there place.ClassName k i j = ap (λ y. not (absent_in y)) (outs-Identifier k _)
  identifier_there place.Name k i None = ap (λ y. not (absent_in y)) (outs-Identifier k i)
  identifier_there place.Shorthand k i None = ap (λ y. not (absent_in y)) (outs-Identifier k i)
  identifier_there place.Exported k i None = ap (λ y. not (absent_in y)) (outs-Identifier k i)
  identifier_there place.Other k i None = ap (λ y. not (absent_in y)) (outs-Identifier k i)
  identifier_there place.Shorthand k i (Some j) = ap (λ y. not (absent_in y)) (outs-Tree _ _)
  identifier_there place.Name k i (Some j) = ap (λ y. not (absent_in y)) (outs-Identifier k j)
  identifier_there place.Exported k i (Some j) = ap (λ y. not (absent_in y)) (outs-Identifier k j)
  identifier_there place.Other k i (Some j) = ap (λ y. not (absent_in y)) (outs-Identifier k j)

  tree_there : (t : Node) → IsSomeTree t → is_there (Some t) ≡ true
  tree_there t (k, ts, e) = ap (λ t. is_there (Some t)) e ∙ ap (λ y. not (absent_in y)) (outs-Tree k ts)

  -- what is left out stays so, and nothing else does
  pub stays_there : (t : Node) → StaysThere t
  stays_there = by_children StaysThere (
    same_there Absent (substituted-Absent m keeps),
    λ x. same_there (Flag x) (λ p. substituted-Flag m keeps p x),
    λ w. same_there (Word w) (λ p. substituted-Word m keeps p w),
    λ x. same_there (Text x) (λ p. substituted-Text m keeps p x),
    λ x. same_there (Span x) (λ p. substituted-Span m keeps p x),
    λ k i p. ap (λ t. is_there (Some t)) (substituted_identifier m keeps p k i) ∙ identifier_there p k i _ ∙ sym (ap (λ y. not (absent_in y)) (outs-Identifier k i)),
  )
      (λ ts below p. ap (λ t. is_there (Some t)) (substituted_list m keeps p ts) ∙ ap (λ y. not (absent_in y)) (outs-List _) ∙ sym (ap (λ y. not (absent_in y)) (outs-List ts)))
      (λ k ts below p. ap (λ t. is_there (Some t)) (substituted_tree m keeps p k ts) ∙ tree_there _ (is_tree m keeps p k ts _) ∙ sym (ap (λ y. not (absent_in y)) (outs-Tree k ts)))

  -- so whatever stands in a field
  pub there_at : (ps : ℕ → Place) (ts : List Node) (i : ℕ) → is_there (slice_get (each_substituted m keeps ps ts) i) ≡ is_there (slice_get ts i)
  there_at ps [] i = refl
  there_at ps (t ∷ ts) zero = stays_there t (ps zero)
  there_at ps (t ∷ ts) (suc i) = there_at (λ i. ps (suc i)) ts i

  -- ---- names that do not change

  abbrev KeepsName : Node → Type 0
  KeepsName t = (p : Place) → is_plain p ≡ true → if_changed m p (named t) ≡ None → named (substituted m keeps p t) ≡ named t

  unchanged : (p : Place) (k : Kind) (i : Ident) (j : Option Ident) → is_plain p ≡ true → (if is_some j then Some i else None) ≡ None → identifier_to p k i j ≡ Identifier k i
  unchanged place.Name k i None h g = refl
  unchanged place.Exported k i None h g = refl
  unchanged place.Other k i None h g = refl
  unchanged p k i (Some j) h g = absurd (cc)
  unchanged place.ClassName k i j h g = absurd (cc)
  unchanged place.Shorthand k i j h g = absurd (cc)

  pub same_identifier : (p : Place) (k : Kind) (i : Ident) → is_plain p ≡ true → if_changed m p (Some i) ≡ None → substituted m keeps p (Identifier k i) ≡ Identifier k i
  same_identifier p k i h g = substituted_identifier m keeps p k i ∙ unchanged p k i (changed m p i) h g

  same_name : (t : Node) → ((p : Place) → substituted m keeps p t ≡ t) → KeepsName t
  same_name t e p h g = ap named (e p)

  tree_name : (t : Node) → IsSomeTree t → named t ≡ None
  tree_name t (k, ts, e) = ap named e ∙ ap identifier_in (outs-Tree k ts)

  pub keeps_name_of : (t : Node) → KeepsName t
  keeps_name_of = by_children KeepsName (
    same_name Absent (substituted-Absent m keeps),
    λ x. same_name (Flag x) (λ p. substituted-Flag m keeps p x),
    λ w. same_name (Word w) (λ p. substituted-Word m keeps p w),
    λ x. same_name (Text x) (λ p. substituted-Text m keeps p x),
    λ x. same_name (Span x) (λ p. substituted-Span m keeps p x),
    λ k i p h g. ap named (same_identifier p k i h (ap (if_changed m p) (sym (ap identifier_in (outs-Identifier k i))) ∙ g)),
  )
      (λ ts below p h g. ap named (substituted_list m keeps p ts) ∙ ap identifier_in (outs-List _) ∙ sym (ap identifier_in (outs-List ts)))
      (λ k ts below p h g. ap named (substituted_tree m keeps p k ts) ∙ tree_name _ (is_tree m keeps p k ts _) ∙ sym (ap identifier_in (outs-Tree k ts)))
