-- Pairs that are set in a tree leave each `if` its `else`.
use Rattle.std.proofs.Common.{◌≡◌, true, List, [], ◌∷◌, refl, sym, ◌∙◌, rules}
use Rattle.std.specs.List.{list_all}
use Rattle.swc_tree_marks.specs.declared.span.Span.{Span as Range}
use Rattle.swc_tree_node.specs.declared.kind.Kind.{Kind}
use Rattle.swc_tree_node.specs.declared.kind.Kind.TheVariants as kind
use Rattle.swc_tree_node.specs.declared.slot.Slot.{Slot}
use Rattle.swc_tree_node.specs.declared.node.Node.{Node, Span, Identifier, Tree, the_lemmas}
use Rattle.swc_tree_node.specs.declared.node.Node.TheOpen.{Node-F}
use Rattle.swc_tree_node.specs.Table.{slots_of}
use Rattle.swc_tree_grammar_laws.specs.Plain.{keeps_else_in, keeps_elses}
use Rattle.swc_tree_grammar_laws.proofs.Levelled.{both}
use Rattle.swc_tree_grammar_laws.proofs.Every.{every_tree, every_list}
use Rattle.swc_base_fixer_laws.specs.Sets.{Sets, AllSet, FieldsSet}
use Rattle.swc_base_fixer_laws.specs.Sets.Sets.{same, after, around, named, items, tree}
use Rattle.swc_base_fixer_laws.specs.Sets.AllSet.{none, more}
use Rattle.swc_base_fixer_laws.specs.Sets.FieldsSet.{nil, field}
use Rattle.swc_base_fixer_laws.proofs.Up.{up}
use Rattle.swc_base_fixer_laws.proofs.Kept.{both_up}
use Rattle.swc_base_fixer_laws.proofs.ElseKept.{takes_else_kept}

row : (k : Kind) {ts us : List Node} → FieldsSet (slots_of k) ts us → keeps_else_in (Node-F.Tree k ts) ≡ true → keeps_else_in (Node-F.Tree k us) ≡ true
row kind.IfStmt (field s (field t (field c (field d nil)))) h = let w = up d in rw (w.absent, takes_else_kept c) h
row k d h = refl

around_keeps : (r : Range) (u : Node) → keeps_elses u ≡ true → keeps_elses (Tree kind.ParenExpr (Span r ∷ u ∷ [])) ≡ true
around_keeps r u h = let e : keeps_elses (Span r) ≡ true = search (rules, the_lemmas) in every_tree keeps_else_in kind.ParenExpr (Span r ∷ u ∷ []) ∙ rw (e, h) refl

mutual
  pub keeps_elses_kept : {s : Slot} {t u : Node} → Sets s t u → keeps_elses t ≡ true → keeps_elses u ≡ true
  keeps_elses_kept (same t) h = h
  keeps_elses_kept (after c d) h = keeps_elses_kept d (keeps_elses_kept c h)
  keeps_elses_kept (around r t u p q d) h = around_keeps r u (keeps_elses_kept d h)
  keeps_elses_kept (named r k i called) h = around_keeps r (Identifier kind.Ident i) (search (rules, the_lemmas))
  keeps_elses_kept (items ts us d) h = let q = both true (list_all keeps_elses ts) (sym (every_list keeps_else_in ts) ∙ h) in every_list keeps_else_in us ∙ all_kept d q.1
  keeps_elses_kept (tree k ts us e d) h =
      every_tree keeps_else_in k us ∙ both_up (keeps_else_in (Node-F.Tree k ts)) (list_all keeps_elses ts) (keeps_else_in (Node-F.Tree k us)) (list_all keeps_elses us) (row k d) (fields_kept d) (sym (every_tree keeps_else_in k ts) ∙ h)

  all_kept : {s : Slot} {ts us : List Node} → AllSet s ts us → list_all keeps_elses ts ≡ true → list_all keeps_elses us ≡ true
  all_kept none h = refl
  all_kept (more {t = t} {u = u} {ts = ts} {us = us} c d) h = both_up (keeps_elses t) (list_all keeps_elses ts) (keeps_elses u) (list_all keeps_elses us) (keeps_elses_kept c) (all_kept d) h

  fields_kept : {ss : List Slot} {ts us : List Node} → FieldsSet ss ts us → list_all keeps_elses ts ≡ true → list_all keeps_elses us ≡ true
  fields_kept nil h = refl
  fields_kept (field {t = t} {u = u} {ts = ts} {us = us} c d) h = both_up (keeps_elses t) (list_all keeps_elses ts) (keeps_elses u) (list_all keeps_elses us) (keeps_elses_kept c) (fields_kept d) h
