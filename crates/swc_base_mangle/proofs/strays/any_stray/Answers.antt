use Rattle.swc_base_mangle.proofs.Found.{strays_are}
use Rattle.swc_base_mangle.proofs.strays.any_stray.Goals as goal

pub returns : goal.returns
returns c = strays_are c.args.script.now c.requires.goal c.finds_stray.result c.finds_stray.ensures
