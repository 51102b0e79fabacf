-- With some more pairs of parentheses a tree reads no more.
use Rattle.std.proofs.Common.{◌≡◌, Bool, true, false, ◌⊎◌, inl, inr, List, [], ◌∷◌, refl, sym, ap, ◌∙◌, subst}
use Rattle.std.specs.Prelude.{ℕ, codes, nat_eq}
use Rattle.std.specs.Cmp.Lexicographic.{pointwise, same_text}
use Rattle.std.specs.Str.{bytes_eq}
use Rattle.std.proofs.lemmas.Slice.Eq.{bytes_eq-Decides}
use Rattle.swc_tree_marks.specs.declared.ident.Ident.{Ident}
use Rattle.swc_tree_marks.specs.declared.span.Span.{Span as Range}
use Rattle.swc_tree_node.specs.declared.kind.Kind.{Kind}
use Rattle.swc_tree_node.specs.declared.kind.Kind.TheVariants as kind
use Rattle.swc_tree_node.specs.declared.slot.Slot.{Slot}
use Rattle.swc_tree_node.specs.declared.node.Node.{Node, Span, List as Many, Identifier, Tree}
use Rattle.swc_tree_node.specs.declared.node.Node.TheOpen.{Node-F}
use Rattle.swc_tree_node.specs.declared.node.Node.TheVariants.{outs-Identifier}
use Rattle.swc_tree_grammar.specs.Grammar.{async_in, is_async_name}
use Rattle.swc_base_fixer_laws.specs.Sets.{AllSet, FieldsSet, Sets}
use Rattle.swc_base_fixer_laws.specs.Sets.Sets.{same, after, around, named, items, tree}
use Rattle.swc_base_fixer_laws.specs.Sets.AllSet.{none, more}
use Rattle.swc_base_fixer_laws.specs.Sets.FieldsSet.{nil, field}
use Rattle.swc_base_fixer_laws.proofs.Answer.{due_set}
use Rattle.swc_base_renaming_laws.specs.Readers.{DuePairsAddNoReader}
use Rattle.swc_base_renaming_laws.proofs.Calm.{AllCalm, Calm, calm_is, calm_list, calm_through, calm_tree, eval_out, identifier_reads, pair_calm, span_reads}

-- the name `async` is another
no_eval : (x : List ℕ) → pointwise nat_eq x (codes "async") ≡ true → bytes_eq x (codes "eval") ≡ true → ⊥
no_eval x a e =
    let same : x ≡ codes "async" = same_text x (codes "async") (sym a) in
    let other : x ≡ codes "eval" = (bytes_eq-Decides x (codes "eval")).0 e in
    let z : codes "async" ≡ codes "eval" = sym same ∙ other in absurd (cc)

async_calm : (k : Kind) (i : Ident) → is_async_name (Identifier kind.Ident i) ≡ true → Calm (Identifier kind.Ident i) (Identifier k i)
async_calm k i a = record {
  named = λ h. absurd (no_eval i.sym (sym (ap async_in (outs-Identifier kind.Ident i)) ∙ a) (sym (eval_out (Identifier kind.Ident i) (Node-F.Identifier kind.Ident i) (outs-Identifier kind.Ident i)) ∙ h));
  reads = λ h. absurd (identifier_reads kind.Ident i h);
}

mutual
  set_calm : {s : Slot} {t u : Node} → Sets s t u → Calm u t
  set_calm (same t) = calm_is t t refl
  set_calm (after {t = t} {u = u} {v = v} x y) = calm_through v u t (set_calm y) (set_calm x)
  set_calm (around r t u p q x) = pair_calm (Span r) u t (span_reads r) (set_calm x)
  set_calm (named r k i a) = pair_calm (Span r) (Identifier kind.Ident i) (Identifier k i) (span_reads r) (async_calm k i a)
  set_calm (items ts us x) = calm_list us ts (each_calm x)
  set_calm (tree k ts us e x) = calm_tree k us ts (fields_calm x)

  each_calm : {s : Slot} {ts us : List Node} → AllSet s ts us → AllCalm us ts
  each_calm none = tt
  each_calm (more x d) = (set_calm x, each_calm d)

  fields_calm : {ss : List Slot} {ts us : List Node} → FieldsSet ss ts us → AllCalm us ts
  fields_calm nil = tt
  fields_calm (field x d) = (set_calm x, fields_calm d)

pub due_pairs_add_no_reader : DuePairsAddNoReader
due_pairs_add_no_reader place t s f h = (set_calm (due_set place t s f)).reads h
