-- What hygiene and then the fixer answer is a program without contexts, and of a plain script a plain script.
use Rattle.std.proofs.Common.{◌≡◌, refl, sym, ap, ◌∙◌, subst}
use Rattle.swc_tree_marks.specs.declared.ident.Ident.{Ident}
use Rattle.swc_tree_node.specs.declared.node.Node.{Node, Identifier}
use Rattle.swc_tree_node.specs.Fits.{Fits}
use Rattle.swc_tree_scoping.specs.declared.places.Place.{Place}
use Rattle.swc_tree_scoping.specs.Places.{place_at, program_place}
use Rattle.swc_tree_scoping.specs.Readings.{by_texts}
use Rattle.swc_tree_scoping.specs.WellScoped.{IsClean}
use Rattle.swc_tree_renaming.specs.Apart.{IsPlainIfScript}
use Rattle.swc_tree_renaming.proofs.Shape.{some_same, twice}
use Rattle.swc_tree_renaming.proofs.Whole.{identifier_same}
use Rattle.swc_tree_grammar.specs.Blocks.{with_blocks}
use Rattle.swc_tree_grammar.specs.Fixed.{fixed}
use Rattle.swc_tree_grammar.specs.Stripped.{stripped}
use Rattle.swc_tree_grammar.proofs.BlocksKept.{blocks_fit}
use Rattle.swc_tree_grammar.proofs.Kept.{stripped_fits}
use Rattle.swc_tree_grammar_texts.proofs.Cleared.{bare}
use Rattle.swc_base_fixer_laws.specs.Laws.{TargetsStandBare}
use Rattle.swc_base_fixer_laws.proofs.Answer.{due_fits}
use Rattle.swc_base_fixer_texts.specs.Laws.{FixingNeedsNoContexts}
use Rattle.swc_base_renaming_laws.proofs.Cleared.{bare_there}
use Rattle.swc_tree_spaces.specs.NoTypes.{ListsAreItems}
use Rattle.swc_base_fixer_laws.proofs.Fixed.{fixed_fits}
use Rattle.swc_base_fixer_laws.proofs.NoNamespaces.{writable_has_no_namespaces}
use Rattle.swc_base_resolver_laws.proofs.ExportLists.{lists_are_items}
use Rattle.swc_base_renaming_laws.proofs.Errors.{Laws, stays_plain}
use Rattle.swc_base_renaming_laws.proofs.ErrorsPrograms.{goal_open}
use Rattle.swc_base_renaming_laws.specs.Hygiene.{HygieneIsLawful}
use Rattle.swc_base_renaming_laws.specs.Renamers.{SparesGlobalValues}
use Rattle.swc_base_rename_program.specs.Renamed.{hygiene_renaming}
use Rattle.swc_base_rename_scoped_laws.proofs.Apart.{none_preserved}
use Rattle.swc_ecma_transforms_base_laws.specs.Settled.{AnswersAreCleanPrograms}

-- a tree that has no contexts to take off has none
clean : (t : Node) → by_texts t ≡ t → IsClean t
clean t e p w k i h =
    let node = some_same (w, Identifier k i) (w, Identifier k (bare i)) (sym h ∙ sym (ap (λ t. place_at program_place t p) e) ∙ bare_there p program_place w t k i h) in
    ap (λ (i : Ident). i.ctxt) (identifier_same k k i (bare i) (ap (λ (q : Place × Node). q.1) node))

pub answers_are_clean_programs : Laws → HygieneIsLawful → SparesGlobalValues hygiene_renaming → TargetsStandBare → FixingNeedsNoContexts → AnswersAreCleanPrograms
answers_are_clean_programs laws lawful spares targets texts answer a =
    let (given, renamed, cleared) = a.hygienic in
    let opens = goal_open a.goal a.program in
    let within = laws.fits hygiene_renaming a.table a.config a.goal a.before a.middle a.program a.finishable.plain a.stands a.hygienic in
    let writable = laws.writable hygiene_renaming a.table a.config a.goal a.before a.middle lawful a.finishable.plain a.stands a.finishable.writable a.hygienic in
    let inner = blocks_fit (stripped a.middle) a.goal (stripped_fits a.middle a.goal (targets a.middle a.goal within writable) opens within) in
    let once : by_texts a.middle ≡ a.middle = ap by_texts cleared ∙ twice bare bare given ∙ sym cleared in
    let whole : by_texts (fixed a.place a.middle) ≡ fixed a.place a.middle = sym (texts a.place a.middle) ∙ ap (fixed a.place) once in
    let fits_whole : Fits (fixed a.place a.middle) a.goal = due_fits a.place (with_blocks (stripped a.middle)) a.goal inner in
    let written = (fixed_fits a.place a.middle a.goal opens within writable).0 in
    record {
      fits = subst (λ t. Fits t a.goal) (sym a.paired) fits_whole;
      clean = subst IsClean (sym a.paired) (clean (fixed a.place a.middle) whole);
      lists = subst ListsAreItems (sym a.paired) (lists_are_items a.goal (fixed a.place a.middle) a.program fits_whole (writable_has_no_namespaces (fixed a.place a.middle) a.goal fits_whole written));
      plain = subst IsPlainIfScript (sym a.paired)
          (stays_plain laws hygiene_renaming a.table a.config a.place a.goal a.before a.middle lawful (none_preserved a.before hygiene_renaming (λ x. refl)) a.program a.stands a.finishable a.plain a.scoped a.hygienic (λ s. spares));
    }
