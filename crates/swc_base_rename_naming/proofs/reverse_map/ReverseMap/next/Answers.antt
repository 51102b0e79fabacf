use Rattle.swc_base_rename_naming.proofs.Chains.{parents_chain}
use Rattle.swc_base_rename_naming.proofs.reverse_map.ReverseMap.next.Goals as goal

pub returns : goal.returns
returns c = record { own = c.new.ensures; outer = λ x. parents_chain _ _ x }
