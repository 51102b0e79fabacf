use Rattle.std.proofs.Common.{map, ap, subst, ◌∙◌}
use Rattle.text_pieces.specs.Tokens.{piece_view}
use Rattle.text_commented.specs.Chosen.{AreChosen}
use Rattle.text_commented.proofs.choose.remarks_of.Goals as goal

pub returns : goal.returns
returns c =
    subst (λ ps. AreChosen c.args.text.now ps c.args.comments.now c.in_ok-remarks.remarks.items)
    (ap (λ l. map piece_view l) c.as_slice-pieces.ensures.value ∙ c.in_ok-found.ensures.frames) c.in_ok-remarks.ensures
