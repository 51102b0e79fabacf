-- What finishing promises of a program that can be finished, by what its two passes lead to.
use Rattle.std.proofs.Common.{◌≡◌, ◌≢◌, ◌↔◌, ◌∙◌, Bool, true, false, IsTrue, List, ℕ, Result, Ok, Err, OnErr, IfErr, refl, sym, ap, subst, inl, inr}
use Rattle.swc_tree_marks.specs.declared.error.PassError.{PassError}
use Rattle.swc_tree_marks.specs.declared.error.PassError.TheVariants as error
use Rattle.swc_tree_marks.specs.Globals.{Table}
use Rattle.swc_tree_node.specs.declared.node.Node.{Node}
use Rattle.swc_tree_node.specs.declared.slot.Slot.{Slot}
use Rattle.swc_tree_node.specs.Fits.{Fits}
use Rattle.swc_tree_scoping.specs.BoundNames.{Id}
use Rattle.swc_tree_scoping.specs.WellScoped.{WellScoped}
use Rattle.swc_tree_renaming.specs.Apart.{IsPlainIfScript, is_goal}
use Rattle.swc_tree_renaming.proofs.Global.{fits_module, fits_script, no_module_is_script, plain_if_module}
use Rattle.swc_tree_spaces.specs.Spaces.{has_types}
use Rattle.swc_tree.specs.Types.{IsDeclined, IsMade}
use Rattle.swc_tree_grammar.specs.Targets.{all_bare}
use Rattle.swc_tree_grammar.specs.Pairs.{pairs}
use Rattle.swc_tree_grammar.specs.Fixed.{recorded}
use Rattle.swc_base_fixer_unparen.specs.Moves.{LeadPartlyTo, Moving}
use Rattle.swc_base_fixer_program.specs.Answers.{answer_to, moves_for}
use Rattle.swc_base_fixer.specs.Unparened.{IsRefusal}
use Rattle.swc_base_rename_substitution.specs.declared.config.Config.{Config}
use Rattle.swc_base_rename_units.specs.Eval.{HasEval}
use Rattle.swc_base_rename_program.specs.Renamed.{IsHygienic, IsRenameRefusal, hygiene_renaming}
use Rattle.swc_base_rename.specs.declared.hygienic.Hygiene.{Hygiene}
use Rattle.swc_base_rename.specs.Hygiene.{MakesHygienic, MakesScriptHygienic, RefusesHygiene}
use Rattle.swc_base_rename.specs.Renamers.{RefusesSettling, SettlesNames, renaming_in}
use Rattle.swc_ecma_transforms_base_laws.specs.Finished.{FinishingMeetsNoTarget}
use Rattle.swc_ecma_transforms_base_laws.specs.Headline.{FinishingKeepsForms, FinishingKeepsPromises, IsOfMemoryOrCounters, KeepsItsForm, KeepsItsPromises}
use Rattle.swc_ecma_transforms_base_laws.specs.Renamers.{LawfulRenamersKeepForms, LawfulRenamersKeepPromises, Suits}
use Rattle.swc_ecma_transforms_base_laws.specs.Settled.{IsAnswer}
use Rattle.swc_base_rename_analysis.specs.Named.{Renaming}
use Rattle.swc_base_renaming_laws.specs.Hygiene.{IsFinishable}
use Rattle.swc_base_renaming_laws.specs.Renamers.{IsLawful, IsRenamedAndCleared, KeepsTopApart}
use Rattle.swc_base_renaming_laws.proofs.IdsPrograms.{by_goal, module_place}
use Rattle.swc_tree_sites_kept.specs.Scripts.{script_place}
use Rattle.swc_ecma_transforms_base_chains.specs.Finished.{Finishes, FinishesBy, IsFinishRefusal, IsFinishRefusalBy}
use Rattle.swc_ecma_transforms_base_chains.specs.Lent.{MovesPartly}
use Rattle.swc_ecma_transforms_base_chains.proofs.WritableTypes.{is_untyped, writable_has_no_types}

hygienic_as : (table : Table) (config config' : Config) (given before middle : Node) → config' ≡ config → given ≡ before → IsHygienic table config' given middle → IsHygienic table config before middle
hygienic_as table config config' given before middle h same m =
    subst (λ t. IsHygienic table config t middle) same (subst (λ k. IsHygienic table k given middle) h m)

pub made_hygienic : (table new : Table) (config : Config) (pass kept : Hygiene) (given before middle : Node) → pass.config ≡ config → given ≡ before → MakesHygienic pass table given kept new middle
    → IsHygienic table config before middle
made_hygienic table new config pass kept given before middle h same m = hygienic_as table config pass.config given before middle h same m.hygienic

pub made_script_hygienic : (table new : Table) (config : Config) (pass kept : Hygiene) (given before middle : Node) → pass.config ≡ config → given ≡ before → MakesScriptHygienic pass table given kept new middle
    → IsHygienic table config before middle
made_script_hygienic table new config pass kept given before middle h same m = hygienic_as table config pass.config given before middle h same m.hygienic

-- what was not refused for its types has none
pub typeless : (given before : Node) (Made : Type 0) → given ≡ before → IsMade (has_types given) Made → has_types before ≡ false
typeless given before Made same m = ap has_types (sym same) ∙ m.taken

-- hygiene is asked first, and its cause is that of all
module _ (table new : Table) (config : Config) (pass kept : Hygiene) (given before : Node) (by : pass.config ≡ config) (same : given ≡ before) where
  abbrev pub HygieneDeclines : PassError → Type 0
  HygieneDeclines e = IsDeclined (has_types given) pass table kept new e (RefusesHygiene pass table given kept new e)

  cause_as : (e : PassError) → RefusesHygiene pass table given kept new e → IsRenameRefusal table config hygiene_renaming before e
  cause_as e h = subst (λ t. IsRenameRefusal table config hygiene_renaming t e) same (subst (λ k. IsRenameRefusal table k hygiene_renaming given e) by h.refusal)

  other : (e : PassError) → has_types before ≡ false → IsRenameRefusal table config hygiene_renaming before e → IsFinishRefusal table config before e
  other error.NoMemory none h = (none, tt)
  other error.CounterSpent none h = (none, h)
  other error.NotAssignable none h = absurd h
  other error.MarksSpent none h = absurd h
  other error.TypesLeft none h = absurd h

  first : (e : PassError) (b : Bool) → has_types before ≡ b → HygieneDeclines e → IsFinishRefusal table config before e
  first e true some h = subst (IsFinishRefusal table config before) (sym (h.types (ap has_types same ∙ some)).0) some
  first e false none h = other e none (cause_as e (h.cause (ap has_types same ∙ none)))

  pub refused_by_hygiene : {T : Type 0} (r : Result T PassError) → IfErr r HygieneDeclines → IfErr r (IsFinishRefusal table config before)
  refused_by_hygiene (Ok t) h = tt
  refused_by_hygiene (Err e) h = first e (has_types before) refl h

pub where_refused : {T P : Type 0} (r : Result T PassError) → P → OnErr r P
where_refused (Ok t) h = tt
where_refused (Err e) h = h

module _ (r : Renaming) (table : Table) (config : Config) (before middle : Node) (none : has_types before ≡ false) (renamed : IsRenamedAndCleared table config r before middle) where
  refused : (e : PassError) → IsRefusal e → (e ≡ error.NotAssignable → all_bare middle ≡ false) → IsFinishRefusalBy r table config before e
  refused error.NoMemory h bare = (none, tt)
  refused error.NotAssignable h bare = (none, record { between = middle; renamed = renamed; unassignable = bare refl })
  refused error.CounterSpent (inl q) bare = absurd (cc)
  refused error.CounterSpent (inr q) bare = absurd (cc)
  refused error.MarksSpent (inl q) bare = absurd (cc)
  refused error.TypesLeft (inl q) bare = absurd (cc)
  refused error.MarksSpent (inr q) bare = absurd (cc)
  refused error.TypesLeft (inr q) bare = absurd (cc)

  pub refused_by_fixer : {T : Type 0} (result : Result T PassError) → IfErr result IsRefusal → IfErr result (λ e. e ≡ error.NotAssignable → all_bare middle ≡ false) → IfErr result (IsFinishRefusalBy r table config before)
  refused_by_fixer (Ok t) h bare = tt
  refused_by_fixer (Err e) h bare = refused e h bare

-- the fixer refuses for want of memory where each target takes a value
pub bare_else : (e : PassError) (b : Bool) → ((e ≡ error.NotAssignable) ↔ (b ≡ false)) → e ≡ error.NoMemory → b ≡ true
bare_else e true h short = refl
bare_else e false h short = absurd (cc (sym (h.1 refl) ∙ short))

module _ {C : Type 0} (R : Moving C) (IsGiven : Node → Type 0) (middle : Node) (given : IsGiven middle) (c d : C) where
  partly : (e : PassError) → IsRefusal e → (e ≡ error.NoMemory → all_bare middle ≡ true) → (e ≡ error.NotAssignable → d ≡ c) → LeadPartlyTo R c (moves_for middle) d → MovesPartly R IsGiven c d
  partly e (inl target) bare unmoved some = inl (unmoved target)
  partly e (inr short) bare unmoved some = inr (middle, given, bare short, some)

  pub partly_by_fixer : {T : Type 0} (r : Result T PassError) → IfErr r IsRefusal → IfErr r (λ e. e ≡ error.NoMemory → all_bare middle ≡ true) → IfErr r (λ e. e ≡ error.NotAssignable → d ≡ c)
      → LeadPartlyTo R c (moves_for middle) d → OnErr r (MovesPartly R IsGiven c d)
  partly_by_fixer (Ok t) h bare unmoved some = tt
  partly_by_fixer (Err e) h bare unmoved some = partly e h bare unmoved some

-- a refusal but for want of memory moves no comment
module _ {C : Type 0} (c d : C) where
  kept : (e : PassError) → IsRefusal e → (e ≡ error.NotAssignable → d ≡ c) → e ≢ error.NoMemory → d ≡ c
  kept e (inl target) unmoved other = unmoved target
  kept e (inr short) unmoved other = absurd (other short)

  pub unmoved_by_fixer : {T : Type 0} (r : Result T PassError) → IfErr r IsRefusal → IfErr r (λ e. e ≡ error.NotAssignable → d ≡ c) → IfErr r (λ e. e ≢ error.NoMemory → d ≡ c)
  unmoved_by_fixer (Ok t) h unmoved = tt
  unmoved_by_fixer (Err e) h unmoved = kept e h unmoved

goal_untyped : (goal : Slot) → IsTrue (is_goal goal) → is_untyped goal ≡ true
goal_untyped = by_goal (λ goal. is_untyped goal ≡ true) refl refl

-- no types stand in a program that can be finished
pub no_types_left : (config : Config) (goal : Slot) (before : Node) → IsTrue (is_goal goal) → Fits before goal → IsFinishable config before → has_types before ≡ true → ⊥
no_types_left config goal before is fits finishable some = let none = writable_has_no_types before goal (goal_untyped goal is) fits finishable.writable in absurd (cc (some, none))

module _ (r : Renaming) (table : Table) (config : Config) (goal : Slot) (before : Node) (is : IsTrue (is_goal goal)) (fits : Fits before goal) (finishable : IsFinishable config before) where
  pub formed_by : LawfulRenamersKeepForms → IsLawful r → KeepsTopApart r before → (after : Node) → FinishesBy r table config before after → KeepsItsForm before after
  unfolding answer_to
  formed_by law lawful top after f = subst (λ t. KeepsItsForm before t) (sym f.paired) (law r table config (recorded (pairs f.between)) goal before f.between lawful top is fits finishable f.renamed)

  pub promised_by : LawfulRenamersKeepPromises → IsLawful r → Suits r before → (after : Node) → FinishesBy r table config before after → IsPlainIfScript before → KeepsItsPromises before after
  unfolding answer_to
  promised_by law lawful suits after f plain = subst (λ t. KeepsItsPromises before t) (sym f.paired) (law r table config (recorded (pairs f.between)) goal before f.between lawful suits is fits finishable plain f.renamed)

  -- each parenthesised target takes a value, once the program is renamed
  abbrev pub TargetsTakeValues : Type 0
  TargetsTakeValues = (middle : Node) → IsRenamedAndCleared table config r before middle → all_bare middle ≡ true

  no_target : TargetsTakeValues → (e : PassError) → IsFinishRefusalBy r table config before e → IsOfMemoryOrCounters e
  no_target law error.NoMemory h = inl refl
  no_target law error.CounterSpent h = inr refl
  no_target law error.MarksSpent h = absurd h.1
  no_target law error.TypesLeft h = let none = writable_has_no_types before goal (goal_untyped goal is) fits finishable.writable in absurd (cc (h, none))
  no_target law error.NotAssignable h = let stands = law h.1.between h.1.renamed in let fails = h.1.unassignable in absurd (cc)

  pub meets_none_by : {T : Type 0} (result : Result T PassError) → TargetsTakeValues → IfErr result (IsFinishRefusalBy r table config before) → IfErr result IsOfMemoryOrCounters
  meets_none_by (Ok t) law h = tt
  meets_none_by (Err e) law h = no_target law e h

module _ (table : Table) (config : Config) (goal : Slot) (before : Node) (is : IsTrue (is_goal goal)) (fits : Fits before goal) (finishable : IsFinishable config before) where
  pub formed : FinishingKeepsForms → (after : Node) → Finishes table config before after → KeepsItsForm before after
  unfolding answer_to
  formed law after f = subst (λ t. KeepsItsForm before t) (sym f.paired) (law table config (recorded (pairs f.between)) goal before f.between is fits finishable f.renamed)

  pub promised : FinishingKeepsPromises → (after : Node) → Finishes table config before after → IsPlainIfScript before → KeepsItsPromises before after
  unfolding answer_to
  promised law after f plain = subst (λ t. KeepsItsPromises before t) (sym f.paired) (law table config (recorded (pairs f.between)) goal before f.between is fits finishable plain f.renamed)

  pub meets_none : {T : Type 0} (result : Result T PassError) → FinishingMeetsNoTarget → IfErr result (IsFinishRefusal table config before) → IfErr result IsOfMemoryOrCounters
  meets_none result law h = meets_none_by hygiene_renaming table config goal before is fits finishable result (λ middle renamed. law table config goal before middle is fits finishable renamed) h

  pub answered : IsPlainIfScript before → ¬ HasEval before → WellScoped before → (after : Node) → Finishes table config before after → IsAnswer after
  unfolding answer_to
  answered plain unread scoped after f = record {
    table = table;
    config = config;
    place = recorded (pairs f.between);
    before = before;
    middle = f.between;
    goal = goal;
    program = is;
    stands = fits;
    finishable = finishable;
    plain = plain;
    unread = unread;
    scoped = scoped;
    hygienic = f.renamed;
    paired = f.paired;
  }

-- what is asked of a module alone
pub script_top_apart : (r : Renaming) (t : Node) → Fits t script_place → KeepsTopApart r t
script_top_apart r t f is = absurd (no_module_is_script t is (fits_script t f))

-- a module is asked nothing more
pub module_plain : (t : Node) → Fits t module_place → IsPlainIfScript t
module_plain t f = plain_if_module t (fits_module t f)

-- ---- a renamer of one's own

module _ {X : Type 0} (text : X → Id → ℕ → List ℕ) (preserved : X → Node → Id → Bool) (asked : X → Node → X → Type 0) (mangles resets : Bool) (config : Config) (table : Table) (was is : X) (given before : Node) (same : given ≡ before) where
  pub settled_as : (middle : Node) → SettlesNames text preserved asked mangles resets config table was given is middle → SettlesNames text preserved asked mangles resets config table was before is middle
  settled_as middle m = subst (λ t. SettlesNames text preserved asked mangles resets config table was t is middle) same m

  abbrev own : Renaming
  own = renaming_in text preserved asked mangles resets was is before

  renamer_refuses : has_types before ≡ false → (e : PassError) → IsRenameRefusal table config own before e → IsFinishRefusalBy own table config before e
  renamer_refuses none error.NoMemory h = (none, tt)
  renamer_refuses none error.CounterSpent h = (none, h)
  renamer_refuses none error.NotAssignable h = absurd h
  renamer_refuses none error.MarksSpent h = absurd h
  renamer_refuses none error.TypesLeft h = absurd h

  pub refused_by_renamer : has_types before ≡ false → {T : Type 0} (result : Result T PassError) → IfErr result (RefusesSettling text preserved asked mangles resets config table was given is) → IfErr result (IsFinishRefusalBy own table config before)
  refused_by_renamer none (Ok t) h = tt
  refused_by_renamer none (Err e) h = renamer_refuses none e (subst (λ t. IsRenameRefusal table config (renaming_in text preserved asked mangles resets was is t) t e) same h.refusal)

  blames : (e : PassError) → IsRenameRefusal table config (renaming_in text preserved asked mangles resets was is given) given e → IsOfMemoryOrCounters e
  blames error.NoMemory h = inl refl
  blames error.CounterSpent h = inr refl
  blames error.NotAssignable h = absurd h
  blames error.MarksSpent h = absurd h
  blames error.TypesLeft h = absurd h

  pub renamer_blames_no_target : {T : Type 0} (result : Result T PassError) → IfErr result (RefusesSettling text preserved asked mangles resets config table was given is) → IfErr result IsOfMemoryOrCounters
  renamer_blames_no_target (Ok t) h = tt
  renamer_blames_no_target (Err e) h = blames e h.refusal
