-- The normal form of a module is left of the module, where the stripped module is tame.
use Rattle.std.proofs.Common.{⊎_elim, inl, inr, IsTrue, false, refl}
use Rattle.swc_tree_node.specs.declared.kind.Class.TheVariants as class
use Rattle.swc_tree_node.specs.declared.node.Node.{Node}
use Rattle.swc_tree_node.specs.Fits.{Fits}
use Rattle.swc_tree_scoping.specs.Places.{program_place}
use Rattle.swc_tree_grammar.specs.Normal.{normal_form}
use Rattle.swc_tree_grammar.specs.Stripped.{stripped}
use Rattle.swc_tree_grammar.specs.Targets.{all_bare}
use Rattle.swc_tree_grammar.proofs.Kept.{stripped_fits}
use Rattle.swc_tree_grammar.proofs.Places.{one}
use Rattle.swc_tree_sites.specs.Smaller.{IsLeftOf}
use Rattle.swc_tree_sites.proofs.Kept.{S, sub_trans}
use Rattle.swc_tree_sites.proofs.Transport.{sub_in}
use Rattle.swc_tree_sites_laws.proofs.LeftStripped.{module_fewer}
use Rattle.swc_tree_sites_written.specs.Tame.{is_tame}
use Rattle.swc_tree_sites_written.proofs.Modules.{module_left}

pub normal_left : (t : Node) → Fits t (one class.Module) → IsTrue (all_bare t) → IsTrue (is_tame (stripped t) false) → IsLeftOf (normal_form t) t
normal_left t f b tame =
    let written = (module_left (stripped t) (stripped_fits t (one class.Module) b refl f) tame).0 in
    let fewer = module_fewer t f b in record {
      names = λ s i. ⊎_elim (λ h. inl (sub_in s (S program_place (stripped t)).sites (S program_place t).sites fewer.sites h)) inr (written.names s i);
      scopes = sub_trans (S program_place (normal_form t)).sets (S program_place (stripped t)).sets (S program_place t).sets written.scopes fewer.sets;
    }
