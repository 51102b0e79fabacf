use Rattle.std.proofs.Common.{map}
use Rattle.text_pieces.specs.Tokens.{piece_view}
use Rattle.text_commented.proofs.left.left_of.Goals as goal

pub returns : goal.returns
returns c = record {
  each = c.in_ok-left.ensures.each;
  told = c.in_ok-left.ensures.told (map piece_view c.args.pieces.now) c.in_ok-sites.ensures.all c.in_ok-sites.ensures.tight;
}
