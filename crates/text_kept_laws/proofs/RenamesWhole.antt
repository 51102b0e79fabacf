-- The laws.
use Rattle.std.proofs.Common.{◌≡◌, sym, subst}
use Rattle.swc_tree_node.specs.declared.node.Node.{Node}
use Rattle.swc_base_rename_substitution.specs.declared.place.Place.TheVariants as place
use Rattle.text_grammar.specs.Shaped.{Shaped, is_misshapen}
use Rattle.text_kept_laws.specs.Renames.{NewNamesKeepShape}
use Rattle.text_kept_laws.proofs.Shape.{stays}

pub shape_stays : NewNamesKeepShape
shape_stays m keeps t answer s fits e f = subst Shaped (sym e) (stays m keeps t place.Other (s, fits) f)
