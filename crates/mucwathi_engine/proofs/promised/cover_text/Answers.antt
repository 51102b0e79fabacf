use Rattle.mucwathi_engine.proofs.Keeping.{told}
use Rattle.mucwathi_engine.proofs.promised.cover_text.Goals as goal

pub returns : goal.returns
returns c = told c.args.goal c.args.settings.now c.args.text.now c.cover_text.result c.cover_text.ensures
