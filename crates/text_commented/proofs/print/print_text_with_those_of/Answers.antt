use Rattle.std.proofs.Common.{map, ap, subst, ◌∙◌}
use Rattle.text_pieces.specs.Tokens.{piece_view}
use Rattle.text_commented.specs.Chosen.{AreChosen}
use Rattle.text_commented.proofs.Sets.{written_with}
use Rattle.text_commented.proofs.print.print_text_with_those_of.Goals as goal

pub returns : goal.returns
returns c =
    let rs = c.in_ok-chosen.chosen.items in
    let frames = ap (λ l. map piece_view l) c.as_slice-pieces.ensures.value ∙ c.in_ok-list.ensures.frames in (
      rs,
      subst (λ ps. AreChosen c.args.text.now ps c.args.found.now rs) frames c.in_ok-chosen.ensures,
      written_with c.args.comments c.args.tree.now rs c.as_slice-pieces.result.now c.in_ok-list.list.items c.in_ok-printed.printed.text.items c.in_ok-printed.printed.left.items c.as_slice-pieces.ensures.value
          c.in_ok-list.ensures.frames c.in_ok-list.ensures.tokens (rw c.as_slice-remarks.ensures.value at c.in_ok-printed.ensures),
    )
