-- What the laws say of what was read, made and written.
use Rattle.std.proofs.Common.{◌≡◌, ℕ, List, Option, Some, None, inl, inr, Result, Ok, Err, MatchResult}
use Rattle.std.specs.Prelude.{Vec}
use Rattle.swc_tree_node.specs.declared.node.Node.{Node}
use Rattle.swc_tree_node.specs.declared.slot.Content.TheVariants as content
use Rattle.swc_tree_node.specs.declared.slot.Slot.TheVariants as slot
use Rattle.swc_tree_renaming.specs.Apart.{IsPlainIfScript}
use Rattle.swc_base_covers.specs.Covered as covers
use Rattle.swc_base_rename_substitution.specs.declared.config.Config.{Config}
use Rattle.mucwathi_laws.specs.Lower.swc_ecma_transforms_base_laws.specs.Sources.{IsSource}
use Rattle.text_parser.specs.declared.programs.Goal.{Goal}
use Rattle.text_source.specs.Texts.{class_of, slot_of}
use Rattle.mucwathi_laws.specs.Lower.text_kept_laws.specs.Chain.{HasTexts}
use Rattle.mucwathi_settings.specs.declared.command.Settings.{Settings}
use Rattle.mucwathi_order.specs.declared.order.Order.{Order}
use Rattle.mucwathi_passes.specs.Passes.{Makes, config_of}
use Rattle.mucwathi_order.specs.declared.fault.RunFault.{RunFault}
use Rattle.mucwathi_order.specs.declared.fault.RunFault.TheVariants.{NotKept, NotWritten, Refused, Text}
use Rattle.mucwathi_order.proofs.Programs.{is_program}
use Rattle.mucwathi_laws.specs.Promises.{IsCovered, PromisesAreKept, TargetsAreSpared, TextsAreKept, TokensAreKept}
use Rattle.mucwathi_commands.specs.Comments.{IsRewrittenWith}
use Rattle.mucwathi_commands.specs.Faults.{IsRunFault, IsUnwritten}
use Rattle.mucwathi_commands.specs.Looks.{IsCoverTold, IsUncovered, TellsCause, cause_in}
use Rattle.mucwathi_commands.specs.Written.{IsReadAs, IsRewritten}
use Rattle.mucwathi_commands.specs.declared.cover.CoverGap.{CoverGap}
use Rattle.mucwathi_commands.specs.declared.write.RewrittenText.{RewrittenText}
use Rattle.mucwathi_engine.specs.Headline.{IsPromised, IsPromisedFault, IsPromisedWith, IsToldToBePromised, IsUnwrittenThough}

module _ (keeps : PromisesAreKept) (spares : TargetsAreSpared) (texts : TextsAreKept) (tokens : TokensAreKept) (order : Order) (text : List ℕ) where
  -- what is read has what is kept
  had : (t : Node) → IsReadAs order.goal t text → HasTexts (slot_of order.goal) t
  had t read = record { fits = read.1.fits; shaped = read.1.shaped; spelled = read.1.spelled }

  kept_texts : (t u : Node) → IsReadAs order.goal t text → Makes order.command order.settings t u → HasTexts (slot_of order.goal) u
  kept_texts t u read made = texts order.command order.settings (slot_of order.goal) t u (is_program order.goal) made (had t read)

  unwritten : IsUnwritten order text → IsUnwrittenThough order text
  unwritten h = record { unwritten = h; texts = kept_texts h.source h.answer h.read h.made }

  written : (out : List ℕ) → IsRewritten order text out → IsPromised order text out
  written out h = record {
    rewritten = h;
    kept = keeps order.command order.settings (slot.One (content.Node (class_of order.goal))) h.source h.answer (is_program order.goal) h.read.0.fits h.made;
    tokens = tokens order.command order.settings (slot_of order.goal) h.source h.answer (is_program order.goal) (had h.source h.read) h.made;
    texts = kept_texts h.source h.answer h.read h.made;
  }

  refused : (f : RunFault) → IsRunFault order text f → IsPromisedFault order text f
  refused (Refused e) (inl none) = inl none
  refused (Refused e) (inr h) = inr (h, spares order.command order.settings (slot.One (content.Node (class_of order.goal))) h.source e (is_program order.goal) h.read.0.fits h.refused)
  refused (Text f) h = h
  refused NotWritten h = unwritten h
  refused NotKept h = unwritten h

  pub promised : {Z : Type 0} → (r : Result (Vec ℕ Z) RunFault) → MatchResult r (λ out. IsRewritten order text out.items) (IsRunFault order text) → MatchResult r (λ out. IsPromised order text out.items) (IsPromisedFault order text)
  promised (Ok out) h = written out.items h
  promised (Err f) h = refused f h

  pub promised_too : (r : Result RewrittenText RunFault) → MatchResult r (λ made. IsRewrittenWith order text made.out.items made.lost.items) (IsRunFault order text)
      → MatchResult r (λ made. IsPromisedWith order text made.out.items made.lost.items) (IsPromisedFault order text)
  unfolding written
  promised_too (Ok made) h = record { promised = written made.out.items h.rewritten; tells = h.tells }
  promised_too (Err f) h = refused f h

source_of : (config : Config) (t : Node) → covers.IsCovered config t → IsSource config t × IsPlainIfScript t
source_of config t h = (record { clean = h.clean; fair = h.fair; writable = h.writable; plain = record { renames_classes = h.renames_classes; unread = h.unread } }, h.plain)

covered_so : (s : Settings) (t : Node) (gap : Option CoverGap) → TellsCause (config_of s) t (cause_in gap) → gap ≡ None → IsCovered s t
covered_so s t None h none = source_of (config_of s) t h
covered_so s t (Some gap) h none = absurd (cc)

pub told : (g : Goal) (s : Settings) (text : List ℕ) (r : Result (Option CoverGap) RunFault) → MatchResult r (IsCoverTold g s text) (IsUncovered text) → MatchResult r (IsToldToBePromised g s text) (IsUncovered text)
told g s text (Ok gap) h = record { told = h; promised = covered_so s h.source gap h.tells }
told g s text (Err f) h = h
