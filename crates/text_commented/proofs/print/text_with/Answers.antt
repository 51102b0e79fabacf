use Rattle.text_commented.proofs.print.text_with.Goals as goal

pub returns : goal.returns
returns c = record { follows = rw c.as_slice-bytes.ensures.value at c.in_ok-check.ensures.follows; order = c.in_ok-check.ensures.order; last = c.in_ok-check.ensures.last; set = rw c.as_slice-bytes.ensures.value at c.in_ok-check.ensures.set }
