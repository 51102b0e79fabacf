use Rattle.std.proofs.Common.{map}
use Rattle.text_pieces.specs.Tokens.{piece_view}
use Rattle.text_commented.proofs.choose.remarks_among.Goals as goal

pub returns : goal.returns
returns c = c.in_ok-remarks.ensures (map piece_view c.args.pieces.now) c.in_ok-sites.ensures.all c.in_ok-sites.ensures.tight
