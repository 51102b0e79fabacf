-- Laws of names in order.
use Rattle.std.specs.Prelude.{ℕ, Bool, Option, List}
use Rattle.swc_tree_node.specs.declared.node.Node.{Node}
use Rattle.swc_tree_scoping.specs.Places.{Path}
use Rattle.swc_tree_scoping.specs.BoundNames.{Id}
use Rattle.swc_base_rename_analysis.specs.declared.analysis.Analysis.{Analysis}
use Rattle.swc_base_rename_analysis.specs.Named.{IsSpent as IsSpentAt, Named, Renaming}
use Rattle.swc_base_rename_analysis_laws.specs.Means.{Means}
use Rattle.swc_base_rename_naming.specs.Counters.{greatest}
use Rattle.swc_base_rename_naming.specs.InOrder.{IsSpent, NamedInOrder}
use Rattle.swc_base_rename_naming_laws.specs.Rules.{IsAmong, IsByIds, counting, numbered_sites, rules_of}

-- where what is read off a tree means the definitions, the map that names in order make by numbers is the one that is named
abbrev pub NamesInOrderAreNamed : Type 0
NamesInOrderAreNamed = (t : Node) (r : Renaming) (a : Analysis) (scopes places : List Path) → Means t a scopes places → (preserved : List ℕ → Bool)
    → (texts : ℕ → Option (List ℕ)) → NamedInOrder (rules_of r a preserved) (numbered_sites a) texts → (new_texts : Id → Option (List ℕ)) → IsByIds a texts new_texts
    → Named t r (IsAmong preserved) (counting t r) new_texts

-- and where the counters are spent by numbers, they are spent
abbrev pub SpentInOrderIsSpent : Type 0
SpentInOrderIsSpent = (t : Node) (r : Renaming) (a : Analysis) (scopes places : List Path) → Means t a scopes places → (preserved : List ℕ → Bool)
    → IsSpent (rules_of r a preserved) (numbered_sites a) → IsSpentAt t r (IsAmong preserved) (counting t r) greatest
