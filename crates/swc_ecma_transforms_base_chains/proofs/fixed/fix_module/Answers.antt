use Rattle.std.proofs.Common.{◌≡◌, Bool, true, false, refl}
use Rattle.swc_tree_grammar.specs.Targets.{all_bare}
use Rattle.swc_base_fixer.proofs.Fixed.{answer_fits}
use Rattle.swc_base_fixer.proofs.Open.{items_open}
use Rattle.swc_ecma_transforms_base_chains.proofs.fixed.fix_module.Goals as goal

true_unless : (b : Bool) → (b ≡ false → ⊥) → b ≡ true
true_unless true h = refl
true_unless false h = absurd (h refl)

pub from_node-requires : goal.from_node-requires
from_node-requires g c =
    answer_fits c.into_node.result c.in_ok-items.items _ (true_unless (all_bare c.into_node.result) c.in_ok-items.ensures.not_assignable.1) c.in_ok-items.ensures.answer items_open c.into_node.ensures.fits
