use Rattle.text_follow.proofs.follow.read_three.Goals as goal

pub returns : goal.returns
returns c = (c.in_ok-close.close.now, (c.in_ok-inner.inner.now, c.in_ok-inner.ensures, c.in_ok-close.ensures), c.in_ok-rest.ensures)
