-- What chaining leads to, by what the resolver and finishing lead to.
use Rattle.std.proofs.Common.{◌≡◌, ◌≢◌, true, false, IsTrue, ℕ, ◌+◌, ◌<◌, Result, Ok, Err, IfErr, inl, inr, refl, ap, subst, sym, ◌∙◌}
use Rattle.swc_base_fixer_unparen.specs.Moves.{Moving}
use Rattle.swc_base_rename_analysis.specs.Named.{Renaming}
use Rattle.swc_base_rename_program.specs.Renamed.{hygiene_renaming}
use Rattle.swc_base_renaming_laws.specs.Renamers.{IsLawful, IsRenamedAndCleared, KeepsTopApart}
use Rattle.swc_tree_marks.specs.declared.error.PassError.{PassError}
use Rattle.swc_tree_marks.specs.declared.error.PassError.TheVariants as error
use Rattle.swc_tree_marks.specs.Globals.{Table, greatest}
use Rattle.swc_tree_node.specs.declared.node.Node.{Node}
use Rattle.swc_tree_node.specs.declared.slot.Slot.{Slot}
use Rattle.swc_tree_node.specs.Fits.{Fits, fits}
use Rattle.swc_tree_scoping.proofs.Remarked.{fits-remarked}
use Rattle.swc_tree_renaming.specs.Apart.{IsPlainIfScript, is_goal}
use Rattle.swc_tree_spaces.specs.NoTypes.{NoTypes}
use Rattle.swc_tree_spaces.specs.Spaces.{has_types}
use Rattle.swc_tree_has_types.proofs.Remarked.{types_of_remarked}
use Rattle.swc_tree_spaces_laws.specs.Laws.{TypesAreTold}
use Rattle.swc_tree.specs.Types.{IsDeclined}
use Rattle.swc_tree_scoping.specs.Resolved.{Resolved}
use Rattle.swc_tree_grammar.specs.Targets.{all_bare}
use Rattle.swc_tree_grammar.specs.Pairs.{pairs}
use Rattle.swc_tree_grammar.specs.Fixed.{recorded}
use Rattle.swc_base_fixer_program.specs.Answers.{answer_to}
use Rattle.swc_base_resolver.specs.Visits.{RefusesNode, ResolvesNode}
use Rattle.swc_base_resolver_program.specs.Marked.{IsRefusal, MarksOk}
use Rattle.swc_base_rename_substitution.specs.declared.config.Config.{Config}
use Rattle.swc_base_rename_units.specs.Eval.{HasEval}
use Rattle.swc_ecma_transforms_base_laws.specs.Sources.{IsSource, ResolvedSourcesAreReady}
use Rattle.swc_ecma_transforms_base_laws.specs.Headline.{ChainingKeepsForms, ChainingKeepsSources, KeepsItsForm, KeepsItsSource}
use Rattle.swc_ecma_transforms_base_laws.specs.Renamers.{LawfulRenamersKeepFormsOfSources, LawfulRenamersKeepSources, Suits}
use Rattle.swc_ecma_transforms_base_laws.specs.Settled.{ChainChangesNothing, IsAnswer}
use Rattle.swc_ecma_transforms_base_chains.specs.Chained.{ChainsBy, HasFreshMarks, IsChainRefusalBy, IsMarked, IsOnceRenamed, marks_for}
use Rattle.swc_ecma_transforms_base_chains.specs.Finished.{Finishes, FinishesBy, IsFinishRefusal, IsFinishRefusalBy}
use Rattle.swc_ecma_transforms_base_chains.specs.Lent.{MovesFor, MovesPartly}

pub marked : (unresolved top : ℕ) (pass kept : ℕ × ℕ) (old new : Table) (given before resolved : Node) → pass ≡ (unresolved, top) → given ≡ before → TypesAreTold → has_types before ≡ false
    → ResolvesNode pass old given kept new resolved → IsMarked unresolved top old before new resolved
marked unresolved top pass kept old new given before resolved h same told none r =
    let untyped : NoTypes given = (told given).0 (ap has_types same ∙ none) in
    subst (λ t. IsMarked unresolved top old t new resolved) same
    (subst (λ p. IsMarked p.0 p.1 old given new resolved) h (record { resolved = r.by_values untyped; contexts = r.contexts; table = r.table }))

resolver_blames_none : (e : PassError) → IsRefusal e → e ≢ error.NotAssignable
resolver_blames_none e (inl h) n = absurd (cc (sym h ∙ n))
resolver_blames_none e (inr h) n = absurd (cc (sym h ∙ n))

-- the resolver's causes are those of all, where no types stand
module _ (r : Node → Renaming) (unresolved top : ℕ) (config : Config) (pass kept : ℕ × ℕ) (old new : Table) (given before : Node) (by : pass ≡ (unresolved, top)) (same : given ≡ before) where
  abbrev pub ResolverDeclines : PassError → Type 0
  ResolverDeclines e = IsDeclined false pass old kept new e (RefusesNode pass old given kept new e)

  first : (e : PassError) → has_types before ≡ false → RefusesNode pass old given kept new e → IsRefusal e → IsChainRefusalBy r unresolved top config old before new e
  first e none h (inl short) = subst (IsChainRefusalBy r unresolved top config old before new) (sym short) (none, tt)
  first e none h (inr spent) = subst (IsChainRefusalBy r unresolved top config old before new) (sym spent) (none, subst (λ t. 4294967295 < greatest old + marks_for t) same (h.spent spent))

  pub refused_first : has_types before ≡ false → {T : Type 0} (result : Result T PassError) → IfErr result ResolverDeclines → IfErr result (IsChainRefusalBy r unresolved top config old before new)
  refused_first none (Ok t) h = tt
  refused_first none (Err e) h = first e none (h.cause refl) (h.cause refl).refusal

  pub fresh_first : (e : PassError) → ResolverDeclines e → HasFreshMarks top old before new
  fresh_first e h =
      subst (λ t. HasFreshMarks top old t new) same
      (subst (λ p. HasFreshMarks p.1 old given new) by (record { fresh = (h.cause refl).table.0; enough = (h.cause refl).table.1; table = (h.cause refl).table.2 }))

  pub no_target_first : {T : Type 0} (result : Result T PassError) → IfErr result ResolverDeclines → IfErr result (λ e. e ≢ error.NotAssignable)
  no_target_first (Ok t) h = tt
  no_target_first (Err e) h = resolver_blames_none e (h.cause refl).refusal

-- contexts alone changed
pub typeless_yet : (unresolved top : ℕ) (old : Table) (before : Node) (new : Table) (resolved : Node) → IsMarked unresolved top old before new resolved → has_types before ≡ false → has_types resolved ≡ false
typeless_yet unresolved top old before new resolved m none = ap has_types m.contexts.only_contexts ∙ types_of_remarked before m.contexts.contexts ∙ none

pub fits_marked : (unresolved top : ℕ) (old : Table) (before : Node) (new : Table) (resolved : Node) (goal : Slot) → IsMarked unresolved top old before new resolved → Fits before goal → Fits resolved goal
fits_marked unresolved top old before new resolved goal m f = ap (λ t. fits t goal) m.contexts.only_contexts ∙ fits-remarked m.contexts.contexts before goal ∙ f

module _ (r : Node → Renaming) (unresolved top : ℕ) (config : Config) (old : Table) (before : Node) (new : Table) (resolved : Node) (m : IsMarked unresolved top old before new resolved) where
  pub chained : has_types before ≡ false → (after : Node) → FinishesBy (r resolved) new config resolved after → ChainsBy r unresolved top config old before new after
  chained none after f = record { no_types = none; resolved = resolved; marked = m; finished = f }

  refused : has_types before ≡ false → (e : PassError) → IsFinishRefusalBy (r resolved) new config resolved e → IsChainRefusalBy r unresolved top config old before new e
  refused none error.NoMemory h = (none, tt)
  refused none error.CounterSpent h = (none, record { resolved = resolved; marked = m; is_so = h.1 })
  refused none error.NotAssignable h = (none, record { resolved = resolved; marked = m; is_so = h.1 })
  refused none error.MarksSpent h = absurd h.1
  refused none error.TypesLeft h = let yet = typeless_yet unresolved top old before new resolved m none in absurd (cc (h, yet))

  pub refused_later : has_types before ≡ false → {T : Type 0} (result : Result T PassError) → IfErr result (IsFinishRefusalBy (r resolved) new config resolved) → IfErr result (IsChainRefusalBy r unresolved top config old before new)
  refused_later none (Ok t) h = tt
  refused_later none (Err e) h = refused none e h

  pub form_kept_by : LawfulRenamersKeepFormsOfSources → IsLawful (r resolved) → KeepsTopApart (r resolved) resolved → (goal : Slot) → IsTrue (is_goal goal) → (after : Node) → FinishesBy (r resolved) new config resolved after → Fits before goal
      → IsSource config before → MarksOk old unresolved top → KeepsItsForm before after
  unfolding answer_to
  form_kept_by law lawful apart goal is after f fits s ok =
      subst (λ t. KeepsItsForm before t) (sym f.paired) ((law (r resolved) config (recorded (pairs f.between)) goal unresolved top old new before resolved f.between lawful is fits s (m.resolved ok) f.renamed).0 apart)

  pub source_kept_by : LawfulRenamersKeepSources → IsLawful (r resolved) → Suits (r resolved) resolved → (goal : Slot) → IsTrue (is_goal goal) → (after : Node) → FinishesBy (r resolved) new config resolved after → Fits before goal
      → IsPlainIfScript before → IsSource config before → MarksOk old unresolved top → KeepsItsSource unresolved top old new before after
  unfolding answer_to
  source_kept_by law lawful suits goal is after f fits plain s ok =
      subst (λ t. KeepsItsSource unresolved top old new before t) (sym f.paired)
      (law (r resolved) config (recorded (pairs f.between)) goal unresolved top old new before resolved f.between lawful suits is fits s plain ok.0.1 (m.resolved ok) f.renamed).0

  -- each parenthesised target takes a value, once the program is resolved and renamed
  abbrev pub TargetsTakeValues : Type 0
  TargetsTakeValues = (middle : Node) → Resolved unresolved top old new before resolved → IsRenamedAndCleared new config (r resolved) resolved middle → all_bare middle ≡ true

  not_target : TargetsTakeValues → MarksOk old unresolved top → (e : PassError) → IsFinishRefusalBy (r resolved) new config resolved e → e ≢ error.NotAssignable
  not_target law ok error.NotAssignable h n = let stands = law h.1.between (m.resolved ok) h.1.renamed in let fails = h.1.unassignable in absurd (cc)
  not_target law ok error.NoMemory h n = absurd (cc n)
  not_target law ok error.CounterSpent h n = absurd (cc n)
  not_target law ok error.MarksSpent h n = absurd (cc n)
  not_target law ok error.TypesLeft h n = absurd (cc n)

  pub no_target_later_by : {T : Type 0} (result : Result T PassError) → TargetsTakeValues → IfErr result (IsFinishRefusalBy (r resolved) new config resolved) → MarksOk old unresolved top → IfErr result (λ e. e ≢ error.NotAssignable)
  no_target_later_by (Ok t) law h ok = tt
  no_target_later_by (Err e) law h ok = not_target law ok e h

  once_renamed : (t : Node) → IsRenamedAndCleared new config (r resolved) resolved t → IsOnceRenamed r unresolved top config old before new t
  once_renamed t h = record { resolved = resolved; marked = m; is_so = h }

  pub moved_once : {C : Type 0} (R : Moving C) (after : Node) (c d : C) → MovesFor R (IsRenamedAndCleared new config (r resolved) resolved) after c d → MovesFor R (IsOnceRenamed r unresolved top config old before new) after c d
  moved_once R after c d h = record { given = h.given; is_given = once_renamed h.given h.is_given; paired = h.paired; moved = h.moved }

  pub moved_partly : {C : Type 0} (R : Moving C) (c d : C) → MovesPartly R (IsRenamedAndCleared new config (r resolved) resolved) c d → MovesPartly R (IsOnceRenamed r unresolved top config old before new) c d
  moved_partly R c d (inl h) = inl h
  moved_partly R c d (inr h) = inr (h.0, once_renamed h.0 h.1, h.2, h.3)

-- ---- hygiene

module _ (unresolved top : ℕ) (config : Config) (old : Table) (before : Node) (new : Table) (resolved : Node) (m : IsMarked unresolved top old before new resolved) where
  pub form_kept : ChainingKeepsForms → (goal : Slot) → IsTrue (is_goal goal) → (after : Node) → Finishes new config resolved after → Fits before goal → IsSource config before → MarksOk old unresolved top → KeepsItsForm before after
  unfolding answer_to
  form_kept law goal is after f fits s ok =
      subst (λ t. KeepsItsForm before t) (sym f.paired) (law config (recorded (pairs f.between)) goal unresolved top old new before resolved f.between is fits s (m.resolved ok) f.renamed).0

  pub source_kept : ChainingKeepsSources → (goal : Slot) → IsTrue (is_goal goal) → (after : Node) → Finishes new config resolved after → Fits before goal → IsPlainIfScript before → IsSource config before → MarksOk old unresolved top
      → KeepsItsSource unresolved top old new before after
  unfolding answer_to
  source_kept law goal is after f fits plain s ok =
      subst (λ t. KeepsItsSource unresolved top old new before t) (sym f.paired)
      (law config (recorded (pairs f.between)) goal unresolved top old new before resolved f.between is fits s plain ok.0.1 (m.resolved ok) f.renamed).0

  pub answered : ResolvedSourcesAreReady → (goal : Slot) → IsTrue (is_goal goal) → (after : Node) → Finishes new config resolved after → Fits before goal → IsPlainIfScript before → IsSource config before → ¬ HasEval before → MarksOk old unresolved top
      → IsAnswer after
  unfolding answer_to
  answered ready goal is after f fits plain s unread ok =
      let prepared = ready config goal before resolved unresolved top old new is fits s plain ok.0.1 (m.resolved ok) in
      record {
        table = new;
        config = config;
        place = recorded (pairs f.between);
        before = resolved;
        middle = f.between;
        goal = goal;
        program = is;
        stands = prepared.form.fits;
        finishable = prepared.form.finishable;
        plain = prepared.plain;
        unread = prepared.form.unread unread;
        scoped = prepared.well_scoped;
        hygienic = f.renamed;
        paired = f.paired;
      }

  pub stays : ChainChangesNothing → (after : Node) → Finishes new config resolved after → IsAnswer before → config.keep_class_names ≡ false → MarksOk old unresolved top → after ≡ before
  unfolding answer_to
  stays law after f answered keeps ok = f.paired ∙ law new config before resolved f.between unresolved top old new answered keeps ok.0.1 (m.resolved ok) f.renamed

  pub no_target_later : {T : Type 0} (result : Result T PassError) → ChainingKeepsForms → IfErr result (IsFinishRefusal new config resolved) → (goal : Slot) → IsTrue (is_goal goal) → Fits before goal → IsSource config before → MarksOk old unresolved top
      → IfErr result (λ e. e ≢ error.NotAssignable)
  no_target_later result law h goal is fits s ok =
      no_target_later_by (λ t. hygiene_renaming) unresolved top config old before new resolved m result
      (λ middle marks renamed. (law config (recorded (pairs middle)) goal unresolved top old new before resolved middle is fits s marks renamed).1) h ok
