-- What is promised of an answer, by the laws of chaining and of the fixer.
use Rattle.std.proofs.Common.{◌≡◌, false, ℕ, List, Ok, IsTrue, inl, inr, refl, subst}
use Rattle.swc_tree_marks.specs.declared.error.PassError.{PassError}
use Rattle.swc_tree_marks.specs.declared.error.PassError.TheVariants as refusal
use Rattle.swc_tree_node.specs.declared.kind.Class.{Class}
use Rattle.swc_tree_node.specs.declared.kind.Class.TheVariants as class
use Rattle.swc_tree_node.specs.declared.slot.Content.TheVariants as content
use Rattle.swc_tree_node.specs.declared.slot.Slot.{Slot}
use Rattle.swc_tree_node.specs.declared.slot.Slot.TheVariants as slot
use Rattle.swc_tree_node.specs.declared.node.Node.{Node}
use Rattle.swc_tree_node.specs.Fits.{Fits}
use Rattle.swc_tree_marks.specs.Globals.{Table}
use Rattle.swc_tree_scoping.specs.Resolved.{Resolved}
use Rattle.swc_tree_renaming.specs.Apart.{IsPlainIfScript, is_goal}
use Rattle.swc_tree_renaming.proofs.Global.{fits_module, plain_if_module}
use Rattle.swc_tree_sites_kept.specs.Scripts.{script_place}
use Rattle.swc_tree_spaces.specs.Spaces.{has_types}
use Rattle.swc_tree_spaces_laws.specs.Laws.{ResolvedAlike, TypesAreTold}
use Rattle.swc_tree_grammar.specs.Fixed.{recorded}
use Rattle.swc_tree_grammar.specs.Pairs.{pairs}
use Rattle.swc_tree_grammar.specs.Places.{is_open}
use Rattle.swc_base_resolver_program.specs.Marked.{MarksOk}
use Rattle.swc_base_fixer_program.specs.Answers.{answer_to}
use Rattle.swc_base_fixer.specs.Promises.{AnswersKeepPromises}
use Rattle.swc_base_mangle_laws.specs.Lower.swc_ecma_transforms_base_laws.specs.Sources.{IsSource}
use Rattle.swc_base_mangle_laws.specs.Lower.swc_ecma_transforms_base_laws.specs.Headline.{ChainingKeepsForms, ChainingKeepsSources}
use Rattle.swc_base_rename_program.specs.Renamed.{IsHygienic}
use Rattle.swc_base_rename_substitution.specs.declared.config.Config.{Config}
use Rattle.swc_base_covers.specs.Covered.{IsCovered, Tells}
use Rattle.swc_base_mangle_laws.specs.Laws.{MangledSourcesAreKept, MangledSourcesKeepForms}
use Rattle.swc_ecma_transforms_base_laws.specs.Settled.{ChainChangesNothing, IsAnswer}
use Rattle.jsbase_form.proofs.Successes.{bound}
use Rattle.jsbase_reader.specs.declared.envelope.Envelope.{Envelope}
use Rattle.jsbase_reader.specs.Envelopes.{envelope_in, envelope_in_text, text_in}
use Rattle.jsbase_reader.proofs.Sound.{envelope_fits}
use Rattle.jsbase_programs.proofs.Marks.{envelope_marks}
use Rattle.jsbase_commands.specs.declared.arguments.Command.{Command}
use Rattle.jsbase_commands.specs.declared.arguments.Command.TheVariants as command
use Rattle.jsbase_commands.specs.declared.arguments.Kind.{Kind}
use Rattle.jsbase_commands.specs.declared.arguments.Kind.TheVariants as kind
use Rattle.jsbase_commands.specs.declared.fault.Fault.{Fault}
use Rattle.jsbase_commands.specs.declared.fault.Fault.TheVariants.{Usage, Refused, NotATree}
use Rattle.jsbase_commands.specs.Run.{Does, IsFaultOfOne, IsRefusalOf, MakesOfOne, ResolvesTo, class_of, config_of, keeps_top_of}
use Rattle.jsbase_engine.specs.Run.{AnswersOfOne, IsSparingFault, Keeps, SparesTargets}
use Rattle.jsbase_engine.specs.Laws.{PromisesAreKept, TargetsAreSpared}

-- what is covered is a source, and plain if it is a script
source_of : (config : Config) (t : Node) → IsCovered config t → IsSource config t × IsPlainIfScript t
source_of config t h = (record { clean = h.clean; fair = h.fair; writable = h.writable; plain = record { renames_classes = h.renames_classes; unread = h.unread } }, h.plain)

abbrev module_place : Slot
module_place = slot.One (content.Node class.Module)

is_program : (k : Kind) → IsTrue (is_goal (slot.One (content.Node (class_of k))))
is_program kind.Module = refl
is_program kind.Script = refl

takes_pairs : (k : Kind) → IsTrue (is_open (slot.One (content.Node (class_of k))))
takes_pairs kind.Module = refl
takes_pairs kind.Script = refl

-- the tree of an envelope that was read is of the class asked for
fits_its_class : (class : Class) (input : List ℕ) (envelope : Envelope) → envelope_in_text class input ≡ Ok envelope → Fits envelope.tree (slot.One (content.Node class))
fits_its_class class input envelope is = let read = bound (text_in input) (envelope_in class) envelope is in envelope_fits class read.0 envelope read.2

module _ (told : TypesAreTold) (alike : ResolvedAlike) (envelope : Envelope) (ok : MarksOk envelope.globals envelope.unresolved envelope.top) where
  -- where no types stand in the tree, it is resolved over values alone
  by_values : (table : Table) (t : Node) → has_types envelope.tree ≡ false → ResolvesTo envelope table t → Resolved envelope.unresolved envelope.top envelope.globals table envelope.tree t
  by_values table t none r = (alike envelope.unresolved envelope.top envelope.globals table envelope.tree t ((told envelope.tree).0 none)).1 r

  -- a program that the chain answered is answered again, of either goal
  unchanged : ChainChangesNothing → (table : Table) (between renamed : Node) → has_types envelope.tree ≡ false → ResolvesTo envelope table between → IsHygienic table (config_of envelope) between renamed
      → IsAnswer envelope.tree → envelope.keep_class_names ≡ false → answer_to renamed ≡ envelope.tree
  unfolding answer_to
  unchanged changing table between renamed none resolved hygienic answered keeps =
      changing table (config_of envelope) envelope.tree between renamed envelope.unresolved envelope.top envelope.globals table answered keeps ok.0.1 (by_values table between none resolved) hygienic

  -- a program that is mangled keeps its form, and what is promised of a source
  short : MangledSourcesKeepForms → MangledSourcesAreKept → (k : Kind) (output : List ℕ) → Fits envelope.tree (slot.One (content.Node (class_of k))) → (done : Does command.Mangle envelope output)
      → Keeps command.Mangle k envelope output done
  unfolding answer_to
  short forms sources k output fits done = record {
    form = λ source.
        (forms (config_of envelope) (keeps_top_of envelope) (recorded (pairs done.mangled)) (slot.One (content.Node (class_of k))) envelope.unresolved envelope.top envelope.globals done.table envelope.tree done.is_mangled.between done.mangled (is_program k) fits source
        (by_values done.table done.is_mangled.between done.no_types done.is_mangled.resolved) done.is_mangled.short).0;
    promises = λ source plain.
        sources (config_of envelope) (keeps_top_of envelope) (recorded (pairs done.mangled)) (slot.One (content.Node (class_of k))) envelope.unresolved envelope.globals done.table envelope.tree done.is_mangled.between done.mangled (is_program k) fits source plain ok.0.1
        (by_values done.table done.is_mangled.between done.no_types done.is_mangled.resolved) done.is_mangled.short;
  }

  kept : ChainingKeepsForms → ChainingKeepsSources → ChainChangesNothing → MangledSourcesKeepForms → MangledSourcesAreKept → AnswersKeepPromises → (c : Command) (k : Kind) (output : List ℕ) → Fits envelope.tree (slot.One (content.Node (class_of k)))
      → (done : Does c envelope output) → Keeps c k envelope output done
  unfolding answer_to
  kept forms chaining changing short_forms short_sources fixing command.Chain kind.Module output fits done = record {
    promises = λ source.
        (chaining (config_of envelope) (recorded (pairs done.renamed)) module_place envelope.unresolved envelope.top envelope.globals done.table envelope.tree done.is_renamed.between done.renamed refl fits source
        (plain_if_module envelope.tree (fits_module envelope.tree fits)) ok.0.1
        (by_values done.table done.is_renamed.between done.no_types done.is_renamed.resolved) done.is_renamed.hygienic).0;
    again = unchanged changing done.table done.is_renamed.between done.renamed done.no_types done.is_renamed.resolved done.is_renamed.hygienic;
  }
  kept forms chaining changing short_forms short_sources fixing command.Chain kind.Script output fits done = record {
    form = λ source.
        (forms (config_of envelope) (recorded (pairs done.renamed)) script_place envelope.unresolved envelope.top envelope.globals done.table envelope.tree done.is_renamed.between done.renamed refl fits source
        (by_values done.table done.is_renamed.between done.no_types done.is_renamed.resolved) done.is_renamed.hygienic).0;
    promises = λ source plain.
        (chaining (config_of envelope) (recorded (pairs done.renamed)) script_place envelope.unresolved envelope.top envelope.globals done.table envelope.tree done.is_renamed.between done.renamed refl fits source
        (λ s. plain) ok.0.1
        (by_values done.table done.is_renamed.between done.no_types done.is_renamed.resolved) done.is_renamed.hygienic).0;
    again = unchanged changing done.table done.is_renamed.between done.renamed done.no_types done.is_renamed.resolved done.is_renamed.hygienic;
  }
  kept forms chaining changing short_forms short_sources fixing command.Fix k output fits done = fixing envelope.tree (slot.One (content.Node (class_of k))) (takes_pairs k) fits
  kept forms chaining changing short_forms short_sources fixing command.Mangle k output fits done = short short_forms short_sources k output fits done
  kept forms chaining changing short_forms short_sources fixing command.Resolve k output fits done = tt
  kept forms chaining changing short_forms short_sources fixing command.Hygiene k output fits done = tt
  kept forms chaining changing short_forms short_sources fixing command.Unparen k output fits done = tt
  kept forms chaining changing short_forms short_sources fixing command.Judge k output fits done = tt
  kept forms chaining changing short_forms short_sources fixing command.Covers k output fits done = λ none. source_of (config_of envelope) envelope.tree (subst (Tells (config_of envelope) envelope.tree) none done.tells)

  no_target : ChainingKeepsForms → (k : Kind) → Fits envelope.tree (slot.One (content.Node (class_of k))) → (e : PassError) → IsRefusalOf command.Chain envelope e → SparesTargets command.Chain k envelope e
  no_target forms k fits refusal.NotAssignable (none, (table, renamed, is, bare)) source same =
      let stands = (forms (config_of envelope) (recorded (pairs renamed)) (slot.One (content.Node (class_of k))) envelope.unresolved envelope.top envelope.globals table envelope.tree is.between renamed (is_program k) fits source (by_values table is.between none is.resolved) is.hygienic).1 in
      absurd (cc)
  no_target forms k fits refusal.MarksSpent h source same = absurd (cc same)
  no_target forms k fits refusal.CounterSpent h source same = absurd (cc same)
  no_target forms k fits refusal.NoMemory h source same = absurd (cc same)
  no_target forms k fits refusal.TypesLeft h source same = absurd (cc same)

  no_target_short : MangledSourcesKeepForms → (k : Kind) → Fits envelope.tree (slot.One (content.Node (class_of k))) → (e : PassError) → IsRefusalOf command.Mangle envelope e → SparesTargets command.Mangle k envelope e
  no_target_short forms k fits refusal.NotAssignable (none, (table, mangled, is, bare)) source same =
      let stands = (forms (config_of envelope) (keeps_top_of envelope) (recorded (pairs mangled)) (slot.One (content.Node (class_of k))) envelope.unresolved envelope.top envelope.globals table envelope.tree is.between mangled (is_program k) fits source (by_values table is.between none is.resolved) is.short).1 in
      absurd (cc)
  no_target_short forms k fits refusal.MarksSpent h source same = absurd (cc same)
  no_target_short forms k fits refusal.CounterSpent h source same = absurd (cc same)
  no_target_short forms k fits refusal.NoMemory h source same = absurd (cc same)
  no_target_short forms k fits refusal.TypesLeft h source same = absurd (cc same)

  spared : ChainingKeepsForms → MangledSourcesKeepForms → (c : Command) (k : Kind) (e : PassError) → Fits envelope.tree (slot.One (content.Node (class_of k))) → IsRefusalOf c envelope e → SparesTargets c k envelope e
  spared forms short_forms command.Chain k e fits h = no_target forms k fits e h
  spared forms short_forms command.Mangle k e fits h = no_target_short short_forms k fits e h
  spared forms short_forms command.Fix k e fits h = tt
  spared forms short_forms command.Resolve k e fits h = tt
  spared forms short_forms command.Hygiene k e fits h = tt
  spared forms short_forms command.Unparen k e fits h = tt
  spared forms short_forms command.Judge k e fits h = tt
  spared forms short_forms command.Covers k e fits h = tt

module _ (told : TypesAreTold) (alike : ResolvedAlike) (forms : ChainingKeepsForms) (short_forms : MangledSourcesKeepForms) where
  module _ (chaining : ChainingKeepsSources) (changing : ChainChangesNothing) (short_sources : MangledSourcesAreKept) (fixing : AnswersKeepPromises) where
    one_kept : (c : Command) (k : Kind) (input output : List ℕ) → MakesOfOne c k input output → AnswersOfOne c k input output
    one_kept c k input output (envelope, is, done) =
        (envelope, is, done, kept told alike envelope (envelope_marks (class_of k) input envelope is) forms chaining changing short_forms short_sources fixing c k output (fits_its_class (class_of k) input envelope is) done)

  one_spared : (c : Command) (k : Kind) (input : List ℕ) (fault : Fault) → IsFaultOfOne c k input fault → IsSparingFault c k input fault
  one_spared c k input Usage h = h
  one_spared c k input (NotATree text) h = h
  one_spared c k input (Refused e) (inl memory) = inl memory
  one_spared c k input (Refused e) (inr (envelope, is, cause)) =
      inr (envelope, is, cause, spared told alike envelope (envelope_marks (class_of k) input envelope is) forms short_forms c k e (fits_its_class (class_of k) input envelope is) cause)

pub promises_are_kept : TypesAreTold → ResolvedAlike → ChainingKeepsForms → ChainingKeepsSources → ChainChangesNothing → MangledSourcesKeepForms → MangledSourcesAreKept → AnswersKeepPromises → PromisesAreKept
promises_are_kept told alike forms chaining changing short_forms short_sources fixing command.Chain k input output h = one_kept told alike forms short_forms chaining changing short_sources fixing command.Chain k input output h
promises_are_kept told alike forms chaining changing short_forms short_sources fixing command.Mangle k input output h = one_kept told alike forms short_forms chaining changing short_sources fixing command.Mangle k input output h
promises_are_kept told alike forms chaining changing short_forms short_sources fixing command.Fix k input output h = one_kept told alike forms short_forms chaining changing short_sources fixing command.Fix k input output h
promises_are_kept told alike forms chaining changing short_forms short_sources fixing command.Resolve k input output h = one_kept told alike forms short_forms chaining changing short_sources fixing command.Resolve k input output h
promises_are_kept told alike forms chaining changing short_forms short_sources fixing command.Hygiene k input output h = one_kept told alike forms short_forms chaining changing short_sources fixing command.Hygiene k input output h
promises_are_kept told alike forms chaining changing short_forms short_sources fixing command.Unparen k input output h = one_kept told alike forms short_forms chaining changing short_sources fixing command.Unparen k input output h
promises_are_kept told alike forms chaining changing short_forms short_sources fixing command.Covers k input output h = one_kept told alike forms short_forms chaining changing short_sources fixing command.Covers k input output h
promises_are_kept told alike forms chaining changing short_forms short_sources fixing command.Judge k input output h = h

pub targets_are_spared : TypesAreTold → ResolvedAlike → ChainingKeepsForms → MangledSourcesKeepForms → TargetsAreSpared
targets_are_spared told alike forms short_forms command.Chain k input fault h = one_spared told alike forms short_forms command.Chain k input fault h
targets_are_spared told alike forms short_forms command.Mangle k input fault h = one_spared told alike forms short_forms command.Mangle k input fault h
targets_are_spared told alike forms short_forms command.Fix k input fault h = one_spared told alike forms short_forms command.Fix k input fault h
targets_are_spared told alike forms short_forms command.Resolve k input fault h = one_spared told alike forms short_forms command.Resolve k input fault h
targets_are_spared told alike forms short_forms command.Hygiene k input fault h = one_spared told alike forms short_forms command.Hygiene k input fault h
targets_are_spared told alike forms short_forms command.Unparen k input fault h = one_spared told alike forms short_forms command.Unparen k input fault h
targets_are_spared told alike forms short_forms command.Covers k input fault h = one_spared told alike forms short_forms command.Covers k input fault h
targets_are_spared told alike forms short_forms command.Judge k input fault h = h
