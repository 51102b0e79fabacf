-- The laws.
use Rattle.std.proofs.Common.{◌≡◌, IsTrue, refl, sym, ◌∙◌, subst}
use Rattle.swc_tree_node.specs.declared.kind.Class.TheVariants as class
use Rattle.swc_tree_node.specs.declared.slot.Content.TheVariants as content
use Rattle.swc_tree_node.specs.declared.slot.Slot.{Slot}
use Rattle.swc_tree_node.specs.declared.slot.Slot.TheVariants as slot
use Rattle.swc_tree_node.specs.declared.node.Node.{Node}
use Rattle.swc_tree_node.specs.Fits.{Fits}
use Rattle.swc_tree_renaming.specs.Apart.{is_goal}
use Rattle.swc_tree_grammar.specs.Blocks.{with_blocks}
use Rattle.swc_tree_grammar.specs.Fixed.{fixed}
use Rattle.swc_tree_grammar.specs.Normal.{normal_form, written_out}
use Rattle.swc_tree_grammar.specs.Places.{is_open}
use Rattle.swc_tree_grammar.specs.Same.{declared_names}
use Rattle.swc_tree_grammar.specs.Stripped.{stripped}
use Rattle.swc_tree_grammar.proofs.BlocksKept.{blocks_fit}
use Rattle.swc_tree_grammar.proofs.Kept.{stripped_fits}
use Rattle.swc_base_fixer_laws.proofs.AgainLaws.{all_normal_form_stays}
use Rattle.swc_base_fixer_laws.proofs.NormalKeptBlocks.{written_blocks}
use Rattle.text_pieces.specs.Pieces.{pieces}
use Rattle.text_kept_laws.specs.Bound.{SameButBound}
use Rattle.text_kept_laws.proofs.PiecesBound.{bound_pieces}
use Rattle.text_kept_laws.proofs.PiecesWhole.{due_pieces}
use Rattle.text_kept_laws.specs.Tokens.{AnswersKeepTokens, ChainsKeepTokens, NormalFormsKeepTokens, StrippingKeepsTokens, UnpairingKeepsTokens, WritingOutKeepsTokens}
use Rattle.text_kept_laws.specs.Written.{AsWritten}
use Rattle.text_kept_laws.specs.Written.AsWritten.{after}
use Rattle.text_kept_laws.specs.Written.WithoutIdle.{after as further, written}
use Rattle.text_kept_laws.proofs.Steps.{bared}
use Rattle.text_kept_laws.proofs.Unpairing.{unpaired_kept}
use Rattle.text_kept_laws.proofs.Writing.{written_out_kept}
use Rattle.text_kept_laws.proofs.TokensStripping.{stripped_kept}

pub written_tokens : WritingOutKeepsTokens
written_tokens t s fits = (written_out_kept t s tt fits).stands.of_pieces

pub unpaired_tokens : UnpairingKeepsTokens
unpaired_tokens t s fits = (unpaired_kept t s tt fits).stands.of_pieces

open_goal : (goal : Slot) → IsTrue (is_goal goal) → IsTrue (is_open goal)
open_goal (slot.One (content.Node class.Module)) g = refl
open_goal (slot.One (content.Node class.Script)) g = refl
open_goal _ g = absurd (cc)

pub stripped_tokens : StrippingKeepsTokens
stripped_tokens t s bare fits = (stripped_kept t s bare fits).stands.of_pieces

pub normal_tokens : NormalFormsKeepTokens
normal_tokens t goal g fits bare =
    let left : Fits (stripped t) goal = stripped_fits t goal bare (open_goal goal g) fits in
    let out : AsWritten (pieces (stripped t)) (pieces (normal_form t)) = written_tokens (stripped t) goal left in (
      further (pieces t) (pieces (stripped t)) (pieces (normal_form t)) (stripped_tokens t goal bare fits) (written (pieces (stripped t)) (pieces (normal_form t)) out),
      λ alone. after (pieces t) (pieces (stripped t)) (pieces (normal_form t)) (subst (λ u. AsWritten (pieces t) (pieces u)) (sym alone) (unpaired_tokens t goal fits)) out,
    )

pub answer_tokens : AnswersKeepTokens
answer_tokens place t goal g fits bare =
    let left : Node = with_blocks (stripped t) in
    let there : Fits left goal = blocks_fit (stripped t) goal (stripped_fits t goal bare (open_goal goal g) fits) in
    let form : written_out left ≡ normal_form (fixed place t) = written_blocks (stripped t) ∙ sym (all_normal_form_stays place t goal fits) in
    after (pieces (fixed place t)) (pieces left) (pieces (normal_form (fixed place t))) (bared (due_pieces place left goal g there))
    (subst (λ u. AsWritten (pieces left) (pieces u)) form (written_tokens left goal there))

pub chain_tokens : ChainsKeepTokens
chain_tokens place source middle goal g fits fits_middle bare bare_middle same =
    let answer : Node = fixed place middle in
    let form = normal_tokens source goal g fits bare in
    let again : AsWritten (pieces answer) (pieces (normal_form answer)) = answer_tokens place middle goal g fits_middle bare_middle in
    let names : SameButBound (declared_names source) (pieces (normal_form source)) (pieces (normal_form answer)) = bound_pieces source answer same in
    record {
      without_idle = record { first = pieces (normal_form source); second = pieces (normal_form answer); of_first = form.0; of_second = again; but_bound = names };
      all = λ alone. record { first = pieces (normal_form source); second = pieces (normal_form answer); of_first = form.1 alone; of_second = again; but_bound = names };
    }
