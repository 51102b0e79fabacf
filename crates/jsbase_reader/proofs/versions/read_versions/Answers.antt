use Rattle.jsbase_reader.proofs.Clean.{versions_sound}
use Rattle.jsbase_reader.proofs.versions.read_versions.Goals as goal

pub returns-clause-before : goal.returns-clause-before
returns-clause-before c = (versions_sound c.args.class c.args.bytes.now c.in_ok-versions.versions c.in_ok-versions.ensures).before.0

pub returns-clause-after : goal.returns-clause-after
returns-clause-after c = (versions_sound c.args.class c.args.bytes.now c.in_ok-versions.versions c.in_ok-versions.ensures).after.0

pub returns-clause-clean_before : goal.returns-clause-clean_before
returns-clause-clean_before c = (versions_sound c.args.class c.args.bytes.now c.in_ok-versions.versions c.in_ok-versions.ensures).before.1

pub returns-clause-clean_after : goal.returns-clause-clean_after
returns-clause-clean_after c = (versions_sound c.args.class c.args.bytes.now c.in_ok-versions.versions c.in_ok-versions.ensures).after.1
