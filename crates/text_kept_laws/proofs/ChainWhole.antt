-- The laws.
use Rattle.std.proofs.Common.{ℕ, Bool, IsTrue, inl, inr, sym, subst}
use Rattle.swc_tree_marks.specs.Globals.{Table}
use Rattle.swc_tree_node.specs.declared.node.Node.{Node}
use Rattle.swc_tree_node.specs.declared.slot.Slot.{Slot}
use Rattle.swc_tree_node.specs.Fits.{Fits}
use Rattle.swc_tree_scoping.specs.Resolved.{Resolved}
use Rattle.swc_tree_grammar.specs.Blocks.{with_blocks}
use Rattle.swc_tree_grammar.specs.Stripped.{stripped}
use Rattle.swc_tree_grammar.proofs.BlocksKept.{blocks_fit}
use Rattle.swc_tree_grammar.proofs.Kept.{stripped_fits}
use Rattle.swc_base_fixer_laws.proofs.Answer.{due_fits}
use Rattle.swc_base_mangle.specs.Mangled.{IsShortened, mangling}
use Rattle.swc_base_rename_substitution.specs.declared.config.Config.{Config}
use Rattle.swc_base_rename_substitution.specs.Room.{has_room}
use Rattle.swc_base_rename_program.specs.Renamed.{hygiene_renaming}
use Rattle.swc_base_rename_program.proofs.Fitting.{by_texts_fits}
use Rattle.text_kept_laws.proofs.ResolvedWhole.{resolved_shaped, resolved_spelled}
use Rattle.text_kept_laws.proofs.NamingsWhole.{hygiene_words}
use Rattle.text_kept_laws.proofs.StrippingWhole.{fixer_shape, fixer_spelling, unparen_shape, unparen_spelling}
use Rattle.text_kept_laws.proofs.UnitsWhole.{any_hygiene, renaming_fits}
use Rattle.text_kept_laws.proofs.MangleWhole.{mangling_texts, short_words}
use Rattle.text_kept_laws.specs.Chain.{ChainKeepsTexts, FixerKeepsTexts, HasTexts, HygieneKeepsTexts, ShortChainKeepsTexts, ShortNamesKeepTexts, UnparenKeepsTexts}
use Rattle.text_kept_laws.proofs.Contexts.{remarked_fits}

-- a program that is resolved
resolved_texts : (unresolved top : ℕ) (old new : Table) (source resolved : Node) (s : Slot) → Resolved unresolved top old new source resolved → HasTexts s source → HasTexts s resolved
resolved_texts unresolved top old new source resolved s r h = record {
  fits = remarked_fits r.contexts source resolved s r.only_contexts h.fits;
  shaped = (resolved_shaped unresolved top old new source resolved r).1 h.shaped;
  spelled = (resolved_spelled unresolved top old new source resolved r).1 h.spelled;
}

pub hygiene_texts : HygieneKeepsTexts
hygiene_texts config s unresolved top old new source resolved middle room r (given, by, cleared) h =
    let n = resolved_texts unresolved top old new source resolved s r h in
    let given_fits : Fits given s = renaming_fits hygiene_renaming new config resolved given s room (hygiene_words resolved n.spelled) n.fits by n.shaped n.spelled in
    let texts = any_hygiene new config resolved middle s room n.fits (given, by, cleared) n.shaped n.spelled in
    record { fits = subst (λ t. Fits t s) (sym cleared) (by_texts_fits given given (λ s room h. h) s room given_fits); shaped = texts.0; spelled = texts.1 }

-- what is shortened stands in its place
shortened_fits : (table : Table) (config : Config) (keeps_top : Bool) (before given : Node) (s : Slot) → IsTrue (has_room s) → HasTexts s before → IsShortened table config keeps_top before given → Fits given s
shortened_fits table config keeps_top before given s room h (inl stays) = subst (λ t. Fits t s) (sym stays.1) h.fits
shortened_fits table config keeps_top before given s room h (inr (none, (texts, named))) =
    renaming_fits (mangling texts keeps_top config.top_level_mark before) table config before given s room (short_words texts keeps_top config.top_level_mark before) h.fits named h.shaped h.spelled

pub short_texts : ShortNamesKeepTexts
short_texts config keeps_top s unresolved top old new source resolved middle room r m h =
    let n = resolved_texts unresolved top old new source resolved s r h in
    let texts = mangling_texts new config keeps_top resolved middle s room n.fits m n.shaped n.spelled in
    record {
      fits = subst (λ t. Fits t s) (sym m.cleared) (by_texts_fits m.given m.given (λ s room h. h) s room (shortened_fits new config keeps_top resolved m.given s room n m.shortened));
      shaped = texts.0;
      spelled = texts.1;
    }

-- ---- pairs

pub bared_texts : UnparenKeepsTexts
bared_texts t s open_place bare h = record {
  fits = blocks_fit (stripped t) s (stripped_fits t s bare open_place h.fits);
  shaped = unparen_shape t s bare h.fits h.shaped;
  spelled = unparen_spelling t s bare h.fits h.spelled;
}

pub paired_texts : FixerKeepsTexts
paired_texts place t s open_place bare h = record {
  fits = due_fits place (with_blocks (stripped t)) s (bared_texts t s open_place bare h).fits;
  shaped = fixer_shape place t s bare open_place h.fits h.shaped;
  spelled = fixer_spelling place t s bare open_place h.fits h.spelled;
}

pub chain_texts : ChainKeepsTexts
chain_texts config place s unresolved top old new source resolved middle room open_place r hygienic bare h =
    paired_texts place middle s open_place bare (hygiene_texts config s unresolved top old new source resolved middle room r hygienic h)

pub short_chain_texts : ShortChainKeepsTexts
short_chain_texts config keeps_top place s unresolved top old new source resolved middle room open_place r m bare h =
    paired_texts place middle s open_place bare (short_texts config keeps_top s unresolved top old new source resolved middle room r m h)
