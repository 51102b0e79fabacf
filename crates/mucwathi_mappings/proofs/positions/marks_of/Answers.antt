use Rattle.std.proofs.Common.{[]}
use Rattle.std.proofs.lemmas.List.Elements.{All-nil, All-same}
use Rattle.mucwathi_mappings.specs.Positions.{IsMark}
use Rattle.mucwathi_mappings.proofs.Marking.{first_position}
use Rattle.mucwathi_mappings.proofs.positions.marks_of.Goals as goal

pub loop-at-init : goal.loop-at-init
loop-at-init c = (first_position c.args.text.now, All-same (IsMark c.args.text.now) c.new-marks.result.items [] c.new-marks.ensures.items (All-nil (IsMark c.args.text.now)))

pub loop-at-preserved : goal.loop-at-preserved
loop-at-preserved c = (c.step-position.ensures, c.in_ok-add_mark.ensures)
