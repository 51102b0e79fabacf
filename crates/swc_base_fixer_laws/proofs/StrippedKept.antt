-- Stripping takes off the pairs that are set: what is left is what was left before, but for the kinds of the names `async`.
use Rattle.std.proofs.Common.{◌≡◌, List, [], ◌∷◌, map, rules}
use Rattle.swc_tree_marks.specs.declared.ident.Ident.{Ident}
use Rattle.swc_tree_marks.specs.declared.span.Span.{Span as Range}
use Rattle.swc_tree_node.specs.declared.kind.Kind.{Kind}
use Rattle.swc_tree_node.specs.declared.kind.Kind.TheVariants as kind
use Rattle.swc_tree_node.specs.declared.slot.Slot.{Slot}
use Rattle.swc_tree_node.specs.declared.node.Node.{Node, Span, Identifier, Tree, the_lemmas}
use Rattle.swc_tree_grammar.specs.Stripped.{stripped}
use Rattle.swc_tree_grammar.proofs.Stripped.{stripped_of_list, stripped_of_tree}
use Rattle.swc_base_fixer_laws.specs.Alike.{Alike, AllAlike}
use Rattle.swc_base_fixer_laws.specs.Alike.Alike.{same as alike, after as alike_after, name, list}
use Rattle.swc_base_fixer_laws.specs.Alike.AllAlike.{none as no_alike, more as more_alike}
use Rattle.swc_base_fixer_laws.specs.Sets.{Sets, AllSet, FieldsSet}
use Rattle.swc_base_fixer_laws.specs.Sets.Sets.{same, after, around, named, items, tree}
use Rattle.swc_base_fixer_laws.specs.Sets.AllSet.{none, more}
use Rattle.swc_base_fixer_laws.specs.Sets.FieldsSet.{nil, field}
use Rattle.swc_base_fixer_laws.proofs.Alike.{strip_alike}

pair_is : (r : Range) (u : Node) → stripped (Tree kind.ParenExpr (Span r ∷ u ∷ [])) ≡ stripped u
pair_is r u = stripped_of_tree kind.ParenExpr (Span r ∷ u ∷ [])

name_is : (k : Kind) (i : Ident) → stripped (Identifier k i) ≡ Identifier k i
name_is k i = search (rules, the_lemmas)

mutual
  pub stripped_kept : {s : Slot} {t u : Node} → Sets s t u → Alike (stripped t) (stripped u)
  stripped_kept (same t) = alike (stripped t)
  stripped_kept (after c d) = alike_after (stripped_kept c) (stripped_kept d)
  stripped_kept (around r t u p q d) = rw (pair_is r u) (stripped_kept d)
  stripped_kept (named r k i called) = rw (pair_is r (Identifier kind.Ident i), name_is k i, name_is kind.Ident i) (name k kind.Ident i called)
  stripped_kept (items ts us d) = rw (stripped_of_list ts, stripped_of_list us) (list (map stripped ts) (map stripped us) (all_kept d))
  stripped_kept (tree k ts us e d) = rw (stripped_of_tree k ts, stripped_of_tree k us) (strip_alike k (fields_kept d))

  all_kept : {s : Slot} {ts us : List Node} → AllSet s ts us → AllAlike (map stripped ts) (map stripped us)
  all_kept none = no_alike
  all_kept (more c d) = more_alike (stripped_kept c) (all_kept d)

  fields_kept : {ss : List Slot} {ts us : List Node} → FieldsSet ss ts us → AllAlike (map stripped ts) (map stripped us)
  fields_kept nil = no_alike
  fields_kept (field c d) = more_alike (stripped_kept c) (fields_kept d)
