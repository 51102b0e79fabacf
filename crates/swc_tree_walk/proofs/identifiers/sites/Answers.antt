use Rattle.std.proofs.Common.{◌≡◌, map, rules}
use Rattle.swc_tree_scoping.specs.Places.{program_place}
use Rattle.swc_tree_walk.specs.Sites.{site_of, sites}
use Rattle.swc_tree_walk.proofs.Paths.{sites_stand}
use Rattle.swc_tree_walk.proofs.identifiers.sites.Goals as goal

pub returns-clause-each : goal.returns-clause-each
returns-clause-each c = let all : map site_of c.add_sites.new.found.items ≡ sites program_place c.args.program.now = search rules in sites_stand c.args.program.now (map site_of c.add_sites.new.found.items) all
