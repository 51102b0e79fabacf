-- Pairs leave constructors their names.
use Rattle.std.proofs.Common.{◌≡◌, Bool, true, false, not, List, [], ◌∷◌, refl, sym, ap, ◌∙◌, rules}
use Rattle.std.specs.List.{list_all}
use Rattle.swc_tree_node.specs.declared.kind.Kind.{Kind}
use Rattle.swc_tree_node.specs.declared.kind.Kind.TheVariants as kind
use Rattle.swc_tree_node.specs.declared.slot.Slot.{Slot}
use Rattle.swc_tree_node.specs.declared.node.Node.{Node, Span, Identifier, List as Many, Tree, the_lemmas}
use Rattle.swc_tree_node.specs.declared.node.Node.TheOpen.{Node-F}
use Rattle.swc_tree_node.specs.Table.{slots_of}
use Rattle.swc_tree_grammar.specs.Kinds.{has_kind}
use Rattle.swc_tree_grammar_laws.proofs.Levelled.{both, also_both}
use Rattle.swc_tree_grammar_laws.proofs.Every.{every_tree, every_list}
use Rattle.swc_base_fixer_laws.specs.Sets.{Sets, AllSet, FieldsSet, takes_pair}
use Rattle.swc_base_fixer_laws.specs.Sets.Sets.{same, after, around, named, items, tree}
use Rattle.swc_base_fixer_laws.specs.Sets.AllSet.{none, more}
use Rattle.swc_base_fixer_laws.specs.Sets.FieldsSet.{nil, field}
use Rattle.swc_base_fixer_laws.proofs.Up.{kind_of_tree}
use Rattle.swc_base_fixer_needs.specs.Keys.{is_computed, is_named_in, names_constructors}

-- where no pair is taken, a node stays of its kind
kind_still : {s : Slot} {t u : Node} → Sets s t u → takes_pair s ≡ false → (q : Kind → Bool) → has_kind q u ≡ has_kind q t
kind_still (same t) e q = refl
kind_still (after c d) e q = kind_still d e q ∙ kind_still c e q
kind_still (around r t u p h d) e q = absurd (cc)
kind_still (named r k i c) e q = absurd (cc)
kind_still (items ts us d) e q = (let x : (vs : List Node) → has_kind q (Many vs) ≡ false = λ vs. search (rules, the_lemmas) in x us ∙ sym (x ts))
kind_still (tree k ts us e' d) e q = kind_of_tree q k us ∙ sym (kind_of_tree q k ts)

key_kept : (k : Kind) {ts us : List Node} → FieldsSet (slots_of k) ts us → is_named_in (Node-F.Tree k ts) ≡ true → is_named_in (Node-F.Tree k us) ≡ true
key_kept kind.Constructor (field a (field c (field d (field e nil)))) h = ap not (kind_still c refl is_computed) ∙ h
key_kept k d h = refl

pair_named : (e u : Node) → names_constructors e ≡ true → names_constructors u ≡ true → names_constructors (Tree kind.ParenExpr (e ∷ u ∷ [])) ≡ true
pair_named e u g h = every_tree is_named_in kind.ParenExpr (e ∷ u ∷ []) ∙ rw (g, h) refl

mutual
  pub names_kept : {s : Slot} {t u : Node} → Sets s t u → names_constructors t ≡ true → names_constructors u ≡ true
  names_kept (same t) h = h
  names_kept (after c d) h = names_kept d (names_kept c h)
  names_kept (around r t u p q d) h = pair_named (Span r) u (search (rules, the_lemmas)) (names_kept d h)
  names_kept (named r k i c) h = pair_named (Span r) (Identifier kind.Ident i) (search (rules, the_lemmas)) (search (rules, the_lemmas))
  names_kept (items ts us d) h = every_list is_named_in us ∙ all_names_kept d (both (is_named_in (Node-F.List ts)) (list_all names_constructors ts) (sym (every_list is_named_in ts) ∙ h)).1
  names_kept (tree k ts us e d) h =
      let q = both (is_named_in (Node-F.Tree k ts)) (list_all names_constructors ts) (sym (every_tree is_named_in k ts) ∙ h) in
      every_tree is_named_in k us ∙ also_both (is_named_in (Node-F.Tree k us)) (list_all names_constructors us) (key_kept k d q.0) (fields_names_kept d q.1)

  all_names_kept : {s : Slot} {ts us : List Node} → AllSet s ts us → list_all names_constructors ts ≡ true → list_all names_constructors us ≡ true
  all_names_kept none h = refl
  all_names_kept (more {t = t} {u = u} {ts = ts} {us = us} c d) h = let q = both (names_constructors t) (list_all names_constructors ts) h in also_both (names_constructors u) (list_all names_constructors us) (names_kept c q.0) (all_names_kept d q.1)

  fields_names_kept : {ss : List Slot} {ts us : List Node} → FieldsSet ss ts us → list_all names_constructors ts ≡ true → list_all names_constructors us ≡ true
  fields_names_kept nil h = refl
  fields_names_kept (field {t = t} {u = u} {ts = ts} {us = us} c d) h = let q = both (names_constructors t) (list_all names_constructors ts) h in also_both (names_constructors u) (list_all names_constructors us) (names_kept c q.0) (fields_names_kept d q.1)
