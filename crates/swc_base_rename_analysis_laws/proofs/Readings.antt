-- What is read off the layout of a tree means the definitions.
use Rattle.std.proofs.Common.{List, map}
use Rattle.swc_tree_node.specs.declared.node.Node.{Node}
use Rattle.swc_tree_scoping.specs.Places.{Path}
use Rattle.swc_base_rename_analysis.specs.declared.analysis.Analysis.{Analysis}
use Rattle.swc_base_rename_analysis.specs.Read.{IsRead}
use Rattle.swc_base_rename_analysis.specs.Walk.{laid_out}
use Rattle.swc_base_rename_analysis_laws.specs.Means.{Means}
use Rattle.swc_base_rename_analysis_laws.specs.Placed.{Use}
use Rattle.swc_base_rename_analysis_laws.proofs.Added.{uses_in}
use Rattle.swc_base_rename_analysis_laws.proofs.IdsRead.{ids_apart, occurs_so}
use Rattle.swc_base_rename_analysis_laws.proofs.LooseRead.{bound_so, loose_so}
use Rattle.swc_base_rename_analysis_laws.proofs.Marked.{marked_out}
use Rattle.swc_base_rename_analysis_laws.proofs.Placings.{placed}
use Rattle.swc_base_rename_analysis_laws.proofs.Scoped.{paths_of}
use Rattle.swc_base_rename_analysis_laws.proofs.SitesOrder.{in_order, in_preorder, round}
use Rattle.swc_base_rename_analysis_laws.proofs.SitesRead.{all_sites, each_site}

module _ (t : Node) (a : Analysis) (read : IsRead (laid_out t) a) where
  abbrev scopes : List Path
  scopes = paths_of (marked_out t)

  abbrev uses : List Use
  uses = uses_in (marked_out t)

  means : Means t a scopes (map (λ u. u.path) uses)
  means = record {
    each_site = each_site t a (laid_out t) scopes uses (placed t) read;
    all_sites = all_sites t a (laid_out t) scopes uses (placed t) read;
    in_order = in_order t a (laid_out t) scopes uses (placed t) read;
    apart = ids_apart (laid_out t) a read;
    occurs = occurs_so t a (laid_out t) scopes uses (placed t) read;
    loose = loose_so t a (laid_out t) scopes uses (placed t) read;
    bound = bound_so t a (laid_out t) scopes uses (placed t) read;
    round = round t a (laid_out t) scopes uses (placed t) read;
    in_preorder = in_preorder t a (laid_out t) scopes uses (placed t) read;
  }

  pub reading_means : (scopes places : List Path) × Means t a scopes places
  reading_means = (scopes, map (λ u. u.path) uses, means)
