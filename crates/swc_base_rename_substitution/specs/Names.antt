-- The new names of ids, as a map has them.
use Rattle.std.specs.Prelude.{ℕ, nat_eq, Bool, Option, Some, None, option_map, List, [], if◌then◌else◌}
use Rattle.std.specs.Cmp.Lexicographic.{pointwise, slice_cmp}
use Rattle.std.specs.BTreeMap.{BTreeMap, get_by}
use Rattle.std.specs.HashMap.{HashMap, get}
use Rattle.std.specs.Ordering.{nat_cmp, ordering_then}
pub use Rattle.swc_tree_scoping.specs.BoundNames.{Id, same_id}
use Rattle.swc_base_rename_substitution.specs.declared.names.Names.{Names}
use Rattle.swc_base_rename_substitution.specs.declared.names.Names.TheVariants.{Texts, Ordered, Ids}

abbrev pub same_text : Id → Id → Bool
same_text x y = pointwise nat_eq x.0 y.0

-- a new id counts where its text is another
abbrev pub if_other_text : Id → Option Id → Option Id
if_other_text x None = None
if_other_text x (Some y) = if same_text y x then None else Some y

-- the new id of an id, where a map has another text for it; a new text comes with the empty context
abbrev pub by_text : {S : Type 0} → HashMap Id (List ℕ) S → Id → Option Id
by_text m x = if_other_text x (option_map (λ text. (text, [])) (get same_id m x))

-- what a table that is in order has for an id
abbrev pub found_in : BTreeMap Id (List ℕ) → Id → Option (List ℕ)
found_in m x = get_by (λ k. ordering_then (slice_cmp nat_cmp x.0 k.0) (slice_cmp nat_cmp x.1 k.1)) m

-- the same by a table that is in order
abbrev pub by_order : BTreeMap Id (List ℕ) → Id → Option Id
by_order m x = if_other_text x (option_map (λ text. (text, [])) (found_in m x))

-- the same where the map has a new id for it
abbrev pub by_id : {S : Type 0} → HashMap Id Id S → Id → Option Id
by_id m x = if_other_text x (get same_id m x)

abbrev pub new_id : Names → Id → Option Id
new_id (Texts m) x = by_text m.now x
new_id (Ordered m) x = by_order m.now x
new_id (Ids m) x = by_id m.now x
