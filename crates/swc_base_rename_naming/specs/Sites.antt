-- Sites, as all that is said of the names of a program has them.
use Rattle.swc_base_rename_naming.specs.InOrder.{Site as Pair}
use Rattle.swc_base_rename_naming.specs.declared.site.Site.{Site}

-- the number of its scope, and that of its id
abbrev pub pair_of : Site → Pair
pair_of site = (site.scope, site.id)
