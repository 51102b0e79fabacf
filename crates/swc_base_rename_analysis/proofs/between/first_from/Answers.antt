use Rattle.swc_base_rename_analysis.proofs.Betweens.{found_first, missed_first}
use Rattle.swc_base_rename_analysis.proofs.between.first_from.Goals as goal

pub returns-in-Ok : goal.returns-in-Ok
returns-in-Ok c = found_first c.args.positions.now c.args.start c.in-Ok.index c.requires c.in-Ok.ensures.position

pub returns-in-Err : goal.returns-in-Err
returns-in-Err c = missed_first c.args.positions.now c.args.start c.in-Err.index c.requires c.in-Err.ensures.position
