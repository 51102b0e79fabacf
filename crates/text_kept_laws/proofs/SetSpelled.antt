-- Where pairs are set, leaves and names stay.
use Rattle.std.proofs.Common.{◌≡◌, ℕ, Bool, true, false, not, ◌&&◌, ◌||◌, IsTrue, List, [], ◌∷◌, codes, nat_eq, refl, sym, ap, ◌∙◌, subst}
use Rattle.std.specs.List.{list_any}
use Rattle.std.specs.Cmp.Lexicographic.{pointwise}
use Rattle.std.proofs.lemmas.Slice.Eq.{bytes_eq-Decides}
use Rattle.swc_tree_marks.specs.declared.span.Span.{Span as Range}
use Rattle.swc_tree_marks.specs.declared.ident.Ident.{Ident}
use Rattle.swc_tree_node.specs.declared.kind.Kind.{Kind}
use Rattle.swc_tree_node.specs.declared.kind.Kind.TheVariants as kind
use Rattle.swc_tree_node.specs.declared.slot.Slot.{Slot}
use Rattle.swc_tree_node.specs.declared.node.Node.{Node, Span, List as Many, Identifier, Tree, out-Node}
use Rattle.swc_tree_node.specs.declared.node.Node.TheOpen.{Node-F}
use Rattle.swc_tree_node.specs.declared.node.Node.TheVariants.{outs-Identifier, outs-List, outs-Tree}
use Rattle.swc_tree_grammar.specs.Shapes.{items_in, items_of}
use Rattle.swc_tree_grammar.specs.Grammar.{async_in, is_async_name}
use Rattle.swc_tree_grammar.proofs.Induction.{Each}
use Rattle.swc_base_fixer_laws.specs.Sets.{Sets, AllSet, FieldsSet, can_pair, pairable}
use Rattle.swc_base_fixer_laws.specs.Sets.Sets.{same, after, around, named, items, tree}
use Rattle.swc_base_fixer_laws.specs.Sets.AllSet.{none, more}
use Rattle.swc_base_fixer_laws.specs.Sets.FieldsSet.{nil, field}
use Rattle.text_words.specs.Words.{is_reserved}
use Rattle.text_checks.specs.Spelled.{has_amiss, is_amiss, is_amiss_specifier, is_bad_leaf, is_misspelled, is_reserved_name, is_valueless}
use Rattle.text_kept_laws.proofs.Free.{list_below, list_here, tree_below, tree_here}
use Rattle.text_kept_laws.proofs.Calm.{all_fail, both_false, neither, none_passes}
use Rattle.text_kept_laws.proofs.SpellingBound.{S, named as name_of}
use Rattle.text_kept_laws.proofs.Made.{C, list_spelled, name_calm, name_spelled, span_calm, span_spelled, tree_calm, tree_spelled}
use Rattle.text_kept_laws.proofs.PairsSeen.{seen_never}
use Rattle.text_kept_laws.proofs.PairsRows.{Held, Lists, amiss_row, leaves_row, news, olds, valueless_row}
use Rattle.text_kept_laws.proofs.Sets.{Paired, fields_listed, fields_seen, paired, seen}

-- ---- what may stand anywhere

valued : (k : Kind) (ts : List Node) → can_pair k ≡ true → is_valueless (Node-F.Tree k ts) ≡ false
valued kind.Tpl ts h = seen_never (sym h)
valued k ts h = refl

pairable_calm : (t : Node) → IsTrue (pairable t) → C t
pairable_calm t h =
    let p = paired t h in
    ap (λ y. is_reserved_name y || is_valueless y) p.out ∙ valued p.kind p.fields p.can

pair_calm : (us : List Node) → C (Tree kind.ParenExpr us)
pair_calm us = tree_calm kind.ParenExpr us refl

pub trees_calm : (k : Kind) (ts us : List Node) → Lists ts us → C (Tree k ts) → C (Tree k us)
trees_calm k ts us l h = tree_calm k us (valueless_row k ts us l ∙ (neither false (is_valueless (Node-F.Tree k ts)) (sym (ap (λ y. is_reserved_name y || is_valueless y) (outs-Tree k ts)) ∙ h)).1)

calm : {s : Slot} {t u : Node} → Sets s t u → C t → C u
calm (same t) h = h
calm (after c d) h = calm d (calm c h)
calm (around r t u p q d) h = pair_calm (Span r ∷ u ∷ [])
calm (named r k i c) h = pair_calm (Span r ∷ Identifier kind.Ident i ∷ [])
calm (items ts us d) h = ap (λ y. is_reserved_name y || is_valueless y) (outs-List us)
calm (tree k ts us e d) h = trees_calm k ts us (fields_listed d) h

-- ---- specifiers

abbrev pub N : Node → Type 0
N t = is_amiss_specifier (out-Node t) ≡ false

specifier_row : (k : Kind) {ss : List Slot} {ts us : List Node} → FieldsSet ss ts us → is_amiss_specifier (Node-F.Tree k ts) ≡ false → is_amiss_specifier (Node-F.Tree k us) ≡ false
specifier_row kind.ExportNamedSpecifier (field a (field b (field c nil))) h = calm b h
specifier_row kind.ExportNamedSpecifier nil h = refl
specifier_row kind.ExportNamedSpecifier (field a nil) h = refl
specifier_row kind.ExportNamedSpecifier (field a (field b nil)) h = refl
specifier_row kind.ExportNamedSpecifier (field a (field b (field c (field d e)))) h = refl
specifier_row k d h = refl

specifier : {s : Slot} {t u : Node} → Sets s t u → N t → N u
specifier (same t) h = h
specifier (after c d) h = specifier d (specifier c h)
specifier (around r t u p q d) h = ap is_amiss_specifier (outs-Tree kind.ParenExpr (Span r ∷ u ∷ []))
specifier (named r k i c) h = ap is_amiss_specifier (outs-Tree kind.ParenExpr (Span r ∷ Identifier kind.Ident i ∷ []))
specifier (items ts us d) h = ap is_amiss_specifier (outs-List us)
specifier (tree k ts us e d) h = ap is_amiss_specifier (outs-Tree k us) ∙ specifier_row k d (sym (ap is_amiss_specifier (outs-Tree k ts)) ∙ h)

abbrev pub Ns : List Node → Type 0
Ns ts = list_any (λ t. is_amiss_specifier (out-Node t)) ts ≡ false

all_specifiers : {s : Slot} {ts us : List Node} → AllSet s ts us → Ns ts → Ns us
all_specifiers none h = refl
all_specifiers (more {s} {t} {u} {ts} {us} c d) h =
    let n = neither (is_amiss_specifier (out-Node t)) (list_any (λ t. is_amiss_specifier (out-Node t)) ts) h in
    both_false (is_amiss_specifier (out-Node u)) (list_any (λ t. is_amiss_specifier (out-Node t)) us) (specifier c n.0) (all_specifiers d n.1)

none_listed : (u : Node) → items_of u ≡ [] → Ns (items_of u)
none_listed u e = ap (list_any (λ t. is_amiss_specifier (out-Node t))) e

listed : {s : Slot} {t u : Node} → Sets s t u → Ns (items_of t) → Ns (items_of u)
listed (same t) h = h
listed (after c d) h = listed d (listed c h)
listed (around r t u p q d) h = none_listed (Tree kind.ParenExpr (Span r ∷ u ∷ [])) (ap items_in (outs-Tree kind.ParenExpr (Span r ∷ u ∷ [])))
listed (named r k i c) h = none_listed (Tree kind.ParenExpr (Span r ∷ Identifier kind.Ident i ∷ [])) (ap items_in (outs-Tree kind.ParenExpr (Span r ∷ Identifier kind.Ident i ∷ [])))
listed (items ts us d) h = subst Ns (sym (ap items_in (outs-List us))) (all_specifiers d (subst Ns (ap items_in (outs-List ts)) h))
listed (tree k ts us e d) h = none_listed (Tree k us) (ap items_in (outs-Tree k us))

-- ---- fields

record Helds (ts us : List Node) : Type 0 where
  all : List Held
  were : olds all ≡ ts
  are : news all ≡ us

more_held : (h : Held) (t u : Node) (ts us : List Node) → h.old ≡ t → h.new ≡ u → Helds ts us → Helds (t ∷ ts) (u ∷ us)
more_held h t u ts us e f hs = record {
  all = h ∷ hs.all;
  were = ap (λ x. x ∷ olds hs.all) e ∙ ap (λ l. t ∷ l) hs.were;
  are = ap (λ x. x ∷ news hs.all) f ∙ ap (λ l. u ∷ l) hs.are;
}

fields_held : {ss : List Slot} {ts us : List Node} → FieldsSet ss ts us → Helds ts us
fields_held nil = record { all = []; were = refl; are = refl }
fields_held (field {s} {ss} {t} {u} {ts} {us} c d) = more_held (record { old = t; new = u; absent = (seen c).leaf.absent; calm = calm c; listed = listed c }) t u ts us refl refl (fields_held d)

fields_calm : (k : Kind) (ts us : List Node) → Helds ts us → has_amiss (Node-F.Tree k ts) ≡ false → has_amiss (Node-F.Tree k us) ≡ false
fields_calm k ts us hs h = ap (λ l. has_amiss (Node-F.Tree k l)) (sym hs.are) ∙ amiss_row k hs.all (ap (λ l. has_amiss (Node-F.Tree k l)) hs.were ∙ h)

all_calm : {s : Slot} {ts us : List Node} → AllSet s ts us → Each C ts → Each C us
all_calm none h = tt
all_calm (more c d) h = (calm c h.0, all_calm d h.1)

-- ---- leaves and names

async_unreserved : (i : Ident) → IsTrue (is_async_name (Identifier kind.Ident i)) → is_reserved i.sym ≡ false
async_unreserved i h =
    let same : pointwise nat_eq i.sym (codes "async") ≡ true = sym (ap async_in (outs-Identifier kind.Ident i)) ∙ h in
    ap is_reserved ((bytes_eq-Decides i.sym (codes "async")).0 same)

in_pair : (r : Range) (u : Node) → C u → S u → S (Tree kind.ParenExpr (Span r ∷ u ∷ []))
in_pair r u c f = tree_spelled kind.ParenExpr (Span r ∷ u ∷ []) refl (all_fail is_amiss (Span r ∷ u ∷ []) (span_calm r, (c, tt))) (span_spelled r, (f, tt))

mutual
  pub spelled : {s : Slot} {t u : Node} → Sets s t u → S t → S u
  spelled (same t) f = f
  spelled (after c d) f = spelled d (spelled c f)
  spelled (around r t u p q d) f = in_pair r u (calm d (pairable_calm t q)) (spelled d f)
  spelled (named r k i c) f = in_pair r (Identifier kind.Ident i) (name_calm kind.Ident i (async_unreserved i c)) (name_spelled kind.Ident i (name_of k i f))
  spelled (items ts us d) f = list_spelled us (all_calm d (none_passes is_amiss ts (neither false _ (list_here is_misspelled ts f)).1)) (all_spelled d (list_below is_misspelled ts f))
  spelled (tree k ts us e d) f =
      let asked = neither (is_bad_leaf (Node-F.Tree k ts)) (has_amiss (Node-F.Tree k ts)) (tree_here is_misspelled k ts f) in
      tree_spelled k us (leaves_row k ts us (fields_seen d) ∙ asked.0) (fields_calm k ts us (fields_held d) asked.1) (fields_spelled d (tree_below is_misspelled k ts f))

  all_spelled : {s : Slot} {ts us : List Node} → AllSet s ts us → Each S ts → Each S us
  all_spelled none f = tt
  all_spelled (more c d) f = (spelled c f.0, all_spelled d f.1)

  fields_spelled : {ss : List Slot} {ts us : List Node} → FieldsSet ss ts us → Each S ts → Each S us
  fields_spelled nil f = tt
  fields_spelled (field c d) f = (spelled c f.0, fields_spelled d f.1)
