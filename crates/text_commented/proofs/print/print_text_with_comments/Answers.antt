use Rattle.text_commented.proofs.Sets.{written_with}
use Rattle.text_commented.proofs.print.print_text_with_comments.Goals as goal

pub returns : goal.returns
returns c =
    written_with c.args.comments c.args.tree.now c.args.remarks.now c.as_slice-pieces.result.now c.in_ok-found.found.items c.in_ok-printed.printed.text.items c.in_ok-printed.printed.left.items c.as_slice-pieces.ensures.value
    c.in_ok-found.ensures.frames c.in_ok-found.ensures.tokens c.in_ok-printed.ensures
