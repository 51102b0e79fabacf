use Rattle.json.specs.Value.{value_view}
use Rattle.jsbase_form.proofs.Seen.{seen_fits, seen_known}
use Rattle.jsbase_reader.proofs.nodes.read.Goals as goal

pub returns-clause-fits : goal.returns-clause-fits
returns-clause-fits c = seen_fits c.args.globals.now (value_view c.args.value.now) c.args.slot _ c.in_ok-tree.ensures

pub returns-clause-known : goal.returns-clause-known
returns-clause-known c = seen_known c.args.globals.now (value_view c.args.value.now) c.args.slot _ c.in_ok-tree.ensures
