-- What a second run of the fixer finds, on what fits the table.
use Rattle.std.proofs.Common.{◌∙◌, ap, sym}
use Rattle.swc_tree_grammar.specs.Spanless.{spanless}
use Rattle.swc_tree_grammar.specs.Fixed.{fixed}
use Rattle.swc_base_fixer_laws.specs.Once.{paired_once}
use Rattle.swc_base_fixer_laws.specs.Laws.{StrippingUndoesFixer, NormalFormStays, NoPairInPair, AnswerAgain, PlacesChangeSpans, SecondRunChangesSpans, SecondRunKeepsSpans, FixerKeepsNormalForm, FixerPairsOnce, FixerStaysThere}
use Rattle.swc_base_fixer_laws.proofs.AgainStill.{fits_well}
use Rattle.swc_base_fixer_laws.proofs.AgainNormal.{stripped_fixed, normal_form_stays}
use Rattle.swc_base_fixer_laws.proofs.AgainTwice.{fixed_again}
use Rattle.swc_base_fixer_laws.proofs.AgainStarts.{places_change_spans}
use Rattle.swc_base_fixer_laws.proofs.AgainStripped.{fixed_same, once_spanless}
use Rattle.swc_base_fixer_laws.proofs.AgainWritten.{normal_same}
use Rattle.swc_base_fixer_laws.proofs.OnceStarts.{fixed_once}
use Rattle.swc_base_fixer_laws.proofs.PlacedAgain.{spans_stay}

pub all_stripping_undoes_fixer : StrippingUndoesFixer
all_stripping_undoes_fixer place t s f = stripped_fixed place t (fits_well t s f)

pub all_normal_form_stays : NormalFormStays
all_normal_form_stays place t s f = normal_form_stays place t (fits_well t s f)

pub all_no_pair_in_pair : NoPairInPair
all_no_pair_in_pair place t s f = fixed_once place t (fits_well t s f)

pub all_answer_again : AnswerAgain
all_answer_again first second t s f = fixed_again first second t (fits_well t s f)

pub all_places_same : PlacesChangeSpans
all_places_same = places_change_spans

pub all_second_run_changes_spans : SecondRunChangesSpans
all_second_run_changes_spans first second t s f = ap spanless (fixed_again first second t (fits_well t s f)) ∙ places_change_spans second first t

pub all_second_run_keeps_spans : SecondRunKeepsSpans
all_second_run_keeps_spans = spans_stay

-- what the fixer answers is the same but for spans
pub all_fixer_keeps_normal_form : FixerKeepsNormalForm
all_fixer_keeps_normal_form t u s f a = normal_same u (fixed (λ r. r) t) a.due ∙ ap spanless (normal_form_stays (λ r. r) t (fits_well t s f))

pub all_fixer_pairs_once : FixerPairsOnce
all_fixer_pairs_once t u s f a = sym (once_spanless u) ∙ ap paired_once a.due ∙ once_spanless (fixed (λ r. r) t) ∙ fixed_once (λ r. r) t (fits_well t s f)

pub all_fixer_stays_there : FixerStaysThere
all_fixer_stays_there t u v s f a b = b.due ∙ fixed_same (λ r. r) (λ r. r) u (fixed (λ r. r) t) a.due ∙ ap spanless (fixed_again (λ r. r) (λ r. r) t (fits_well t s f)) ∙ sym a.due
