-- Without its contexts a tree reads no more.
use Rattle.std.proofs.Common.{◌≡◌, true, List, [], ◌∷◌, map, refl, sym, ap, ◌∙◌, subst, rules}
use Rattle.swc_tree_marks.specs.declared.ident.Ident.{Ident}
use Rattle.swc_tree_node.specs.declared.kind.Kind.{Kind}
use Rattle.swc_tree_node.specs.declared.kind.Kind.TheVariants as kind
use Rattle.swc_tree_node.specs.declared.node.Node.{Node, Absent, Flag, Word, Text, Span, List as Many, Identifier, Tree, the_lemmas}
use Rattle.swc_tree_node.specs.declared.node.Node.TheOpen.{Node-F}
use Rattle.swc_tree_node.specs.declared.node.Node.TheVariants.{outs-Identifier}
use Rattle.swc_tree_scoping.specs.Readings.{by_texts}
use Rattle.swc_tree_grammar.proofs.Induction.{Each, by_children}
use Rattle.swc_base_rename_units.specs.Eval.{eval_step}
use Rattle.swc_base_renaming_laws.specs.Readers.{ContextsAddNoReader}
use Rattle.swc_base_renaming_laws.proofs.Calm.{AllCalm, Calm, calm_is, calm_list, calm_tree, eval_out, identifier_reads}

abbrev Answers : Node → Type 0
Answers t = Calm (by_texts t) t

identifier_calm : (k : Kind) (i : Ident) → Calm (Identifier k (record i { ctxt = [] })) (Identifier k i)
identifier_calm k i = record {
  named = λ h. eval_out (Identifier k i) (Node-F.Identifier k i) (outs-Identifier k i) ∙ by k (sym (eval_out (Identifier k (record i { ctxt = [] })) (Node-F.Identifier k (record i { ctxt = [] })) (outs-Identifier k (record i { ctxt = [] }))) ∙ h);
  reads = λ h. absurd (identifier_reads k (record i { ctxt = [] }) h);
}
  where
    by : (k : Kind) → eval_step (Node-F.Identifier k (record i { ctxt = [] })) ≡ true → eval_step (Node-F.Identifier k i) ≡ true
    by kind.Ident h = h
    by kind.BindingIdent h = h
    by _ h = h

each_calm : (ts : List Node) → Each Answers ts → AllCalm (map by_texts ts) ts
each_calm [] l = tt
each_calm (t ∷ ts) l = (l.0, each_calm ts l.1)

of_list : (ts : List Node) → by_texts (Many ts) ≡ Many (map by_texts ts)
of_list ts = search (rules, the_lemmas)

of_tree : (k : Kind) (ts : List Node) → by_texts (Tree k ts) ≡ Tree k (map by_texts ts)
of_tree k ts = search (rules, the_lemmas)

of_identifier : (k : Kind) (i : Ident) → by_texts (Identifier k i) ≡ Identifier k (record i { ctxt = [] })
of_identifier k i = search (rules, the_lemmas)

pub texts_calm : (t : Node) → Answers t
texts_calm t = by_children Answers (
  calm_is (by_texts Absent) Absent (search (rules, the_lemmas)),
  λ x. calm_is (by_texts (Flag x)) (Flag x) (search (rules, the_lemmas)),
  λ w. calm_is (by_texts (Word w)) (Word w) (search (rules, the_lemmas)),
  λ x. calm_is (by_texts (Text x)) (Text x) (search (rules, the_lemmas)),
  λ s. calm_is (by_texts (Span s)) (Span s) (search (rules, the_lemmas)),
  λ k i. subst (λ u. Calm u (Identifier k i)) (sym (of_identifier k i)) (identifier_calm k i),
)
    (λ ts l. subst (λ u. Calm u (Many ts)) (sym (of_list ts)) (calm_list (map by_texts ts) ts (each_calm ts l)))
    (λ k ts l. subst (λ u. Calm u (Tree k ts)) (sym (of_tree k ts)) (calm_tree k (map by_texts ts) ts (each_calm ts l))) t

pub contexts_add_no_reader : ContextsAddNoReader
contexts_add_no_reader t h = (texts_calm t).reads h
