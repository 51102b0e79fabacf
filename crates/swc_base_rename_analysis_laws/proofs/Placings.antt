-- The layout of each tree is placed.
use Rattle.std.proofs.Common.{◌≡◌, ℕ, map, sym, ap, ◌∙◌, subst, Some}
use Rattle.std.specs.List.{slice_get}
use Rattle.swc_tree_node.specs.declared.node.Node.{Node}
use Rattle.swc_base_rename_analysis.specs.Walk.{Met, laid_out}
use Rattle.swc_base_rename_analysis_laws.specs.Placed.{IsMetAs, IsPlaced, Use}
use Rattle.swc_base_rename_analysis_laws.proofs.Added.{uses_in}
use Rattle.swc_base_rename_analysis_laws.proofs.Covered.{all_met, all_used}
use Rattle.swc_base_rename_analysis_laws.proofs.Erased.{marked_erased}
use Rattle.swc_base_rename_analysis_laws.proofs.Found.{each_met}
use Rattle.swc_base_rename_analysis_laws.proofs.Items.{from_mapped, one_item}
use Rattle.swc_base_rename_analysis_laws.proofs.Marked.{erased, marked_out, regions_of}
use Rattle.swc_base_rename_analysis_laws.proofs.PlacedOut.{apart, as_many_scopes, as_many_uses, bounds, inside, names_rise, scopes_rise}
use Rattle.swc_base_rename_analysis_laws.proofs.Scoped.{paths_of}

met_there : (t : Node) (k : ℕ) (u : Use) (m : Met) → slice_get (uses_in (marked_out t)) k ≡ Some u → slice_get (map (λ n. n.met) (marked_out t).names) k ≡ Some m → IsMetAs t (paths_of (marked_out t)) (regions_of (marked_out t)) u.own u.path m
met_there t k u m e f =
    let (x, there, use_) = from_mapped (λ n. n.use_) (marked_out t).names k u e in
    let (y, here, met) = from_mapped (λ n. n.met) (marked_out t).names k m f in
    let one : x ≡ y = one_item (slice_get (marked_out t).names k) x y there here in
    subst (λ (z : Use × Met). IsMetAs t (paths_of (marked_out t)) (regions_of (marked_out t)) z.0.own z.0.path z.1) (λ i. (use_ i, (ap (λ n. n.met) one ∙ met) i)) (each_met t k x there)

placed_out : (t : Node) → IsPlaced t (erased (marked_out t)) (paths_of (marked_out t)) (uses_in (marked_out t))
placed_out t = record {
  as_many_scopes = as_many_scopes t;
  as_many_uses = as_many_uses t;
  met = met_there t;
  all_met = all_met t;
  all_used = all_used t;
  inside = inside t;
  names_rise = names_rise t;
  scopes_rise = scopes_rise t;
  bounds = bounds t;
  apart = apart t;
}

pub placed : (t : Node) → IsPlaced t (laid_out t) (paths_of (marked_out t)) (uses_in (marked_out t))
placed t = subst (λ l. IsPlaced t l (paths_of (marked_out t)) (uses_in (marked_out t))) (sym (marked_erased t)) (placed_out t)
