-- The laws.
use Rattle.std.proofs.Common.{◌≡◌, sym, subst}
use Rattle.swc_tree_node.specs.declared.node.Node.{Node}
use Rattle.swc_base_rename_substitution.specs.declared.place.Place.TheVariants as place
use Rattle.text_checks.specs.Spelled.{Spelled}
use Rattle.text_kept_laws.specs.Spelling.{NewNamesKeepSpelling}
use Rattle.text_kept_laws.proofs.Spelling.{stays}

pub spelling_stays : NewNamesKeepSpelling
spelling_stays m keeps t answer s gives fits e f = subst Spelled (sym e) (stays m gives keeps t place.Other (s, fits) f)
