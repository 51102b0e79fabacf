-- Where a map is named by counters below a bound, the counters are not spent at it: the ids before that one took the same
-- counters, so its own is from the start and its text free.
use Rattle.std.proofs.Common.{◌≡◌, ℕ, ◌<◌, Option, List}
use Rattle.swc_tree_node.specs.declared.node.Node.{Node}
use Rattle.swc_tree_scoping.specs.BoundNames.{Id}
use Rattle.swc_base_rename_analysis.specs.Laws.{NamedIsNotSpent}
use Rattle.swc_base_rename_analysis.specs.Named.{Counting, IsNamedAt, IsSpent, Named, Renaming, all_count, outer_count}
use Rattle.swc_base_rename_analysis.specs.Order.{IsBefore, Site}
use Rattle.swc_base_rename_analysis.specs.Preserved.{IsPreserved}
use Rattle.swc_base_rename_analysis.proofs.InOrder.{by_earlier}
use Rattle.swc_base_rename_analysis.proofs.Level.{sites_total}
use Rattle.swc_base_rename_analysis.proofs.OneMap.{same_counter, same_free, same_start}

module _ (t : Node) (r : Renaming) (preserved : List ℕ → Type 0) (counts : Counting) (m : Id → Option (List ℕ)) (bound : ℕ) (named : Named t r preserved counts m) (s : IsSpent t r preserved counts bound) where
  -- each id before that one took the counter that it took there
  same_before : (b : Site) (y : Id) → IsNamedAt t r b y → IsBefore t b s.site → named.taken y ≡ s.taken y
  same_before = by_earlier t (λ b. (y : Id) → IsNamedAt t r b y → IsBefore t b s.site → named.taken y ≡ s.taken y)
      (λ b earlier y h before. same_counter t r preserved counts named.taken s.taken b y (λ c z e. earlier c e.before z e.named ((sites_total t).trans c b s.site e.before before)) (named.each b y h).0 (s.earlier b y (record { named = h; before = before })))

  not_spent : ((a : Site) (x : Id) → IsNamedAt t r a x → named.taken x < bound) → ⊥
  not_spent below =
      let least = (named.each s.site s.id s.named).0 in
      s.none_free (named.taken s.id) (below s.site s.id s.named)
      (same_start t r preserved counts named.taken s.taken s.site (λ b y e. same_before b y e.named e.before) (named.taken s.id) least.from_start)
      (same_free t r preserved counts named.taken s.taken s.site (λ b y e. same_before b y e.named e.before) (r.text s.id (named.taken s.id)) least.free)

pub named_is_not_spent : NamedIsNotSpent
named_is_not_spent t r = ((λ m bound n below s. not_spent t r (IsPreserved t r.preserves) all_count m bound n s below), (λ m bound n below s. not_spent t r (IsPreserved t r.preserves) (outer_count t) m bound n s below))
