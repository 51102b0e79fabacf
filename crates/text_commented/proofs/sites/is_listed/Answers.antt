use Rattle.text_commented.proofs.Listed.{found_among}
use Rattle.text_commented.proofs.sites.is_listed.Goals as goal

pub returns : goal.returns
returns c = λ rise. rw c.is_ok.ensures.value (found_among c.args.sorted.now c.args.place c.binary_search.result c.binary_search.ensures.position rise)
