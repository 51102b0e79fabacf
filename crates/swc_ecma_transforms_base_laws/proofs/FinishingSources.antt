-- A source is ready to be finished once it is resolved.
use Rattle.std.proofs.Common.{◌≡◌, IsTrue, [], refl, sym, ap, ◌∙◌, subst}
use Rattle.swc_tree_marks.specs.declared.ident.Ident.{Ident}
use Rattle.swc_tree_node.specs.declared.node.Node.{Node, fold-Node}
use Rattle.swc_tree_node.specs.declared.node.Node.TheOpen.{Node-F}
use Rattle.swc_tree_node.specs.Fits.{Fits, fits}
use Rattle.swc_tree_scoping.specs.Readings.{by_texts, rename_step, with_identifiers}
use Rattle.swc_tree_scoping.proofs.Remarked.{fits-remarked}
use Rattle.swc_tree_renaming.proofs.Shape.{twice}
use Rattle.swc_tree_grammar.specs.Normal.{normal_form}
use Rattle.swc_tree_grammar.specs.Same.{SameButForBoundNames}
use Rattle.swc_tree_grammar.specs.Writable.{is_writable}
use Rattle.swc_tree_grammar_texts.specs.Laws.{TextsAreAsWritable}
use Rattle.swc_base_renaming_laws.proofs.Exported.{normal_cleared, texts_again}
use Rattle.swc_base_rename_laws.specs.NewNames.{nameless, nameless_step}
use Rattle.swc_base_renaming_laws.specs.Source.{ReadersNeedNoContexts, SamenessNeedsNoContexts}
use Rattle.swc_base_rename_units.specs.Eval.{HasEval}
use Rattle.swc_base_fixer_laws.proofs.NoNamespaces.{writable_has_no_namespaces}
use Rattle.swc_base_resolver_laws.proofs.ExportLists.{lists_are_items}
use Rattle.swc_base_resolver_laws.specs.Laws.{CleanProgramsBecomeWellScoped, ResolvedNamesMeanTheirIds, ResolvedScriptsArePlain}
use Rattle.swc_ecma_transforms_base_laws.specs.Sources.{ResolvedSourcesAreReady, ResolvedSourcesHaveTheirForm}

-- a tree without texts and contexts, as one whose identifiers are changed
abbrev unnamed : Ident → Ident
unnamed i = record i { ctxt = []; sym = [] }

same_step : (y : Node-F Node) → nameless_step y ≡ rename_step unnamed y
same_step (Node-F.Identifier k i) = refl
same_step _ = refl

unnamed_same : (t : Node) → nameless t ≡ with_identifiers unnamed t
unnamed_same t j = fold-Node Node (λ y. same_step y j) t

-- it is one whether contexts are emptied first or not
nameless_texts : (t : Node) → nameless (by_texts t) ≡ nameless t
nameless_texts t = unnamed_same (by_texts t) ∙ twice (λ i. record i { ctxt = [] }) unnamed t ∙ sym (unnamed_same t)

pub sources_have_form : TextsAreAsWritable → SamenessNeedsNoContexts → ReadersNeedNoContexts → ResolvedSourcesHaveTheirForm
sources_have_form texts same readers config goal t u unresolved top old new is f s r =
    let clear : by_texts u ≡ t = texts_again t u r.contexts r.only_contexts s.clean in
    let fits_u : Fits u goal = ap (λ t. fits t goal) r.only_contexts ∙ fits-remarked r.contexts t goal ∙ f in
    let writable_u : IsTrue (is_writable u) = sym (texts u) ∙ ap is_writable clear ∙ s.writable in
    let normal : normal_form (by_texts u) ≡ by_texts (normal_form u) = ap normal_form clear ∙ normal_cleared goal is unresolved top old new t u s.clean f r fits_u writable_u in
    let read_too : HasEval u → HasEval t = λ read. subst HasEval clear (readers u read) in
    record {
      fits = fits_u;
      finishable = record {
        plain = record { renames_classes = s.plain.renames_classes; unread = λ read. s.plain.unread (read.0, read_too read.1) };
        writable = writable_u;
      };
      same = λ answer h. subst (λ t. SameButForBoundNames t answer) clear (same u answer normal h);
      placed = ap (λ t. nameless (normal_form t)) (sym clear) ∙ ap nameless normal ∙ nameless_texts (normal_form u);
      unread = λ none read. none (read_too read);
    }

pub sources_ready : ResolvedSourcesHaveTheirForm → CleanProgramsBecomeWellScoped → ResolvedNamesMeanTheirIds → ResolvedScriptsArePlain → ResolvedSourcesAreReady
sources_ready form becomes mean plain config goal t u unresolved top old new is f s plain_source known r = record {
  form = form config goal t u unresolved top old new is f s r;
  plain = plain t u unresolved top old new s.clean r plain_source;
  well_scoped = becomes goal t u unresolved top old new is f plain_source (lists_are_items goal t is f (writable_has_no_namespaces t goal f s.writable)) s.clean s.fair known r;
  found = mean goal t u unresolved top old new is f plain_source s.clean s.fair known r;
}
