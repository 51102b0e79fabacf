-- Where pairs are set, a node is seen as it was, and lengths stay.
use Rattle.std.proofs.Common.{◌≡◌, ℕ, Bool, true, false, not, ◌&&◌, IsTrue, List, [], ◌∷◌, refl, sym, ap, ◌∙◌, subst}
use Rattle.std.specs.List.{list_all}
use Rattle.swc_tree_marks.specs.declared.span.Span.{Span as Range}
use Rattle.swc_tree_marks.specs.declared.ident.Ident.{Ident}
use Rattle.swc_tree_node.specs.declared.kind.Kind.{Kind}
use Rattle.swc_tree_node.specs.declared.kind.Kind.TheVariants as kind
use Rattle.swc_tree_node.specs.declared.slot.Slot.{Slot}
use Rattle.swc_tree_node.specs.declared.node.Node.{Node, Span, List as Many, Identifier, Tree, out-Node}
use Rattle.swc_tree_node.specs.declared.node.Node.TheOpen.{Node-F}
use Rattle.swc_tree_node.specs.declared.node.Node.TheVariants.{outs-Identifier, outs-List, outs-Tree}
use Rattle.swc_tree_node.specs.Table.{slots_of}
use Rattle.swc_tree_grammar.specs.Shapes.{items_in, items_of}
use Rattle.swc_tree_grammar.specs.Writable.{constructor_key_in}
use Rattle.swc_tree_grammar.proofs.Induction.{Each}
use Rattle.swc_base_fixer_laws.specs.Sets.{Sets, AllSet, FieldsSet, can_pair, pairable, pairable_in, takes_pair}
use Rattle.swc_base_fixer_laws.specs.Sets.Sets.{same, after, around, named, items, tree}
use Rattle.swc_base_fixer_laws.specs.Sets.AllSet.{none, more}
use Rattle.swc_base_fixer_laws.specs.Sets.FieldsSet.{nil, field}
use Rattle.text_grammar.specs.Shaped.{is_misshapen}
use Rattle.text_kept_laws.proofs.Free.{Free, free_list, free_tree, list_below, tree_below, tree_here}
use Rattle.text_kept_laws.proofs.RenamesLengths.{has_key}
use Rattle.text_kept_laws.proofs.Shape.{name_free, span_free}
use Rattle.text_kept_laws.proofs.PairsSeen.{Pairwise, Plain, Seen, is_seen, key_tree, no_items, pairwise_same, pairwise_then, plain_name, plain_tree, seen_list, seen_never, seen_plain, seen_same, seen_then, seen_tree}
use Rattle.text_kept_laws.proofs.PairsRows.{Keys, Lists, shape_row}

-- ---- what gets a pair

unseen_pair : (k : Kind) → can_pair k ≡ true → is_seen k ≡ false
unseen_pair kind.ImportDefaultSpecifier h = seen_never (sym h)
unseen_pair kind.ImportStarAsSpecifier h = seen_never (sym h)
unseen_pair kind.ExportNamespaceSpecifier h = seen_never (sym h)
unseen_pair kind.ImportNamedSpecifier h = seen_never (sym h)
unseen_pair kind.ExportNamedSpecifier h = seen_never (sym h)
unseen_pair kind.Constructor h = seen_never (sym h)
unseen_pair kind.Import h = seen_never (sym h)
unseen_pair kind.ArrayPat h = seen_never (sym h)
unseen_pair kind.ObjectPat h = seen_never (sym h)
unseen_pair kind.TplElement h = seen_never (sym h)
unseen_pair kind.ExprOrSpread h = seen_never (sym h)
unseen_pair kind.RestPat h = seen_never (sym h)
unseen_pair kind.SwitchCase h = seen_never (sym h)
unseen_pair kind.Function h = seen_never (sym h)
unseen_pair k h = refl

pub record Paired (t : Node) : Type 0 where
  pub kind : Kind
  pub fields : List Node
  pub out : out-Node t ≡ Node-F.Tree kind fields
  pub can : can_pair kind ≡ true

pub paired : (t : Node) → IsTrue (pairable t) → Paired t
paired t h = by (out-Node t) refl h
  where
    by : (y : Node-F Node) → out-Node t ≡ y → IsTrue (pairable_in y) → Paired t
    by (Node-F.Tree k ts) o h = record { kind = k; fields = ts; out = o; can = h }
    by (Node-F.List ts) o h = seen_never (sym h)
    by (Node-F.Identifier k i) o h = seen_never (sym h)
    by Node-F.Absent o h = seen_never (sym h)
    by (Node-F.Flag x) o h = seen_never (sym h)
    by (Node-F.Word x) o h = seen_never (sym h)
    by (Node-F.Text x) o h = seen_never (sym h)
    by (Node-F.Span x) o h = seen_never (sym h)

plain_pairable : (t : Node) → IsTrue (pairable t) → Plain t
plain_pairable t h = let p = paired t h in plain_tree t p.kind p.fields p.out (unseen_pair p.kind p.can)

plain_pair : (us : List Node) → Plain (Tree kind.ParenExpr us)
plain_pair us = plain_tree (Tree kind.ParenExpr us) kind.ParenExpr us (outs-Tree kind.ParenExpr us) refl

plain_identifier : (k : Kind) (i : Ident) → Plain (Identifier k i)
plain_identifier k i = plain_name (Identifier k i) k i (outs-Identifier k i)

-- ---- what is seen

mutual
  pub seen : {s : Slot} {t u : Node} → Sets s t u → Seen t u
  seen (same t) = seen_same t
  seen (after c d) = seen_then (seen c) (seen d)
  seen (around r t u p q d) = seen_plain t (Tree kind.ParenExpr (Span r ∷ u ∷ [])) (plain_pairable t q) (plain_pair (Span r ∷ u ∷ []))
  seen (named r k i c) = seen_plain (Identifier k i) (Tree kind.ParenExpr (Span r ∷ Identifier kind.Ident i ∷ [])) (plain_identifier k i) (plain_pair (Span r ∷ Identifier kind.Ident i ∷ []))
  seen (items ts us d) = seen_list ts us
  seen (tree k ts us e d) = seen_tree ts us (fields_seen d) k

  pub fields_seen : {ss : List Slot} {ts us : List Node} → FieldsSet ss ts us → Pairwise ts us
  fields_seen nil = tt
  fields_seen (field c d) = (seen c, fields_seen d)

all_seen : {s : Slot} {ts us : List Node} → AllSet s ts us → Pairwise ts us
all_seen none = tt
all_seen (more c d) = (seen c, all_seen d)

list_items : (ts : List Node) → items_of (Many ts) ≡ ts
list_items ts = ap items_in (outs-List ts)

listed : {s : Slot} {t u : Node} → Sets s t u → Pairwise (items_of t) (items_of u)
listed (same t) = pairwise_same (items_of t)
listed (after {s} {t} {u} {v} c d) = pairwise_then (items_of t) (items_of u) (items_of v) (listed c) (listed d)
listed (around r t u p q d) = no_items t (Tree kind.ParenExpr (Span r ∷ u ∷ [])) (plain_pairable t q).items (plain_pair (Span r ∷ u ∷ [])).items
listed (named r k i c) = no_items (Identifier k i) (Tree kind.ParenExpr (Span r ∷ Identifier kind.Ident i ∷ [])) (plain_identifier k i).items (plain_pair (Span r ∷ Identifier kind.Ident i ∷ [])).items
listed (items ts us d) = subst (λ l. Pairwise l (items_of (Many us))) (sym (list_items ts)) (subst (Pairwise ts) (sym (list_items us)) (all_seen d))
listed (tree k ts us e d) = no_items (Tree k ts) (Tree k us) (ap items_in (outs-Tree k ts)) (ap items_in (outs-Tree k us))

pub fields_listed : {ss : List Slot} {ts us : List Node} → FieldsSet ss ts us → Lists ts us
fields_listed nil = tt
fields_listed (field c d) = (listed c, fields_listed d)

abbrev SameKey : Node → Node → Type 0
SameKey t u = constructor_key_in (out-Node u) ≡ constructor_key_in (out-Node t)

-- what stands where no pair may is the key that it was
keyed : {s : Slot} {t u : Node} → takes_pair s ≡ false → Sets s t u → SameKey t u
keyed h (same t) = refl
keyed h (after c d) = keyed h d ∙ keyed h c
keyed h (around r t u p q d) = seen_never (sym p ∙ h)
keyed h (named r k i c) = seen_never h
keyed h (items ts us d) = ap constructor_key_in (outs-List us) ∙ sym (ap constructor_key_in (outs-List ts))
keyed h (tree k ts us e d) = key_tree ts us (fields_seen d) k

not_right : (b : Bool) → not b ≡ true → b ≡ false
not_right true h = seen_never (sym h)
not_right false h = refl

both_of : (a b : Bool) → (a && b) ≡ true → (a ≡ true) × (b ≡ true)
both_of true b h = (refl, h)
both_of false b h = seen_never (sym h)

fields_keyed : {ss : List Slot} {ts us : List Node} → list_all (λ s. not (takes_pair s)) ss ≡ true → FieldsSet ss ts us → Keys ts us
fields_keyed h nil = tt
fields_keyed h (field {s} {ss} c d) = let b = both_of (not (takes_pair s)) (list_all (λ s. not (takes_pair s)) ss) h in (keyed (not_right (takes_pair s) b.0) c, fields_keyed b.1 d)

-- where a key is looked at no field takes a pair
pub pairless_kind : (k : Kind) → has_key k ≡ true → list_all (λ s. not (takes_pair s)) (slots_of k) ≡ true
pairless_kind kind.ClassMethod h = refl
pairless_kind k h = seen_never (sym h)

-- ---- lengths

abbrev F : Node → Type 0
F t = Free is_misshapen t

mutual
  pub shaped : {s : Slot} {t u : Node} → Sets s t u → F t → F u
  shaped (same t) f = f
  shaped (after c d) f = shaped d (shaped c f)
  shaped (around r t u p q d) f = free_tree is_misshapen kind.ParenExpr (Span r ∷ u ∷ []) refl (span_free r, (shaped d f, tt))
  shaped (named r k i c) f = free_tree is_misshapen kind.ParenExpr (Span r ∷ Identifier kind.Ident i ∷ []) refl (span_free r, (name_free kind.Ident i, tt))
  shaped (items ts us d) f = free_list is_misshapen us refl (all_shaped d (list_below is_misshapen ts f))
  shaped (tree k ts us e d) f =
      free_tree is_misshapen k us (shape_row k ts us (fields_seen d) (λ h. fields_listed d) (λ h. fields_keyed (pairless_kind k h) d) ∙ tree_here is_misshapen k ts f) (fields_shaped d (tree_below is_misshapen k ts f))

  all_shaped : {s : Slot} {ts us : List Node} → AllSet s ts us → Each F ts → Each F us
  all_shaped none f = tt
  all_shaped (more c d) f = (shaped c f.0, all_shaped d f.1)

  fields_shaped : {ss : List Slot} {ts us : List Node} → FieldsSet ss ts us → Each F ts → Each F us
  fields_shaped nil f = tt
  fields_shaped (field c d) f = (shaped c f.0, fields_shaped d f.1)
