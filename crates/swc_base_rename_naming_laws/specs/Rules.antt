-- The rules by which the ids of a tree get their names, as they follow from what is read off the tree.
use Rattle.std.specs.Prelude.{◌≡◌, ℕ, Bool, true, false, IsTrue, ◌&&◌, nat_le, nat_lt, Option, Some, None, option_map, List, map, if◌then◌else◌}
use Rattle.std.specs.List.{list_any, slice_get}
use Rattle.swc_tree_node.specs.declared.node.Node.{Node}
use Rattle.swc_tree_scoping.specs.BoundNames.{Id}
use Rattle.swc_base_rename_analysis.specs.declared.analysis.Analysis.{Analysis}
use Rattle.swc_base_rename_analysis.specs.declared.layout.Region.{Region}
use Rattle.swc_base_rename_analysis.specs.declared.numbers.Entry.{Entry}
use Rattle.swc_base_rename_analysis.specs.Named.{Counting, Renaming, all_count, counts_on, outer_count}
use Rattle.swc_base_rename_analysis_laws.specs.Means.{IsIdOf, surrounds}
use Rattle.swc_base_rename_naming.specs.InOrder.{Rules, Site}
use Rattle.swc_base_rename_naming.specs.Steps.{id_or, stays}

abbrev pub occurs_between : Option Region → Option Entry → Bool
occurs_between (Some r) (Some e) = list_any (λ k. nat_le r.start k && nat_lt k r.end) e.positions.items
occurs_between _ _ = false

-- the id of a number occurs in the scope of a number
abbrev pub occurs_at : Analysis → ℕ → ℕ → Bool
occurs_at a n k = occurs_between (slice_get a.regions.items n) (slice_get a.ids.items k)

-- the id of a number
abbrev pub id_in : Analysis → ℕ → Option Id
id_in a k = option_map (λ e. e.id) (slice_get a.ids.items k)

abbrev pub text_of : Renaming → Option Entry → ℕ → List ℕ
text_of r o n = r.text (id_or (option_map (λ e. e.id) o)) n

-- it keeps its text; what has no id does too
abbrev pub stays_as : Renaming → Option Entry → Bool
stays_as r o = stays r.preserves (option_map (λ e. e.id) o)

-- whether names of one scope count at another: all do, or where scopes beside one another may share texts those of a scope
-- round it
abbrev pub counts_at : Renaming → Analysis → ℕ → ℕ → Bool
counts_at r a m n = if r.mangles then surrounds a m n else true

abbrev pub rules_of : Renaming → Analysis → (List ℕ → Bool) → Rules
rules_of r a preserved = record {
  text = λ k n. text_of r (slice_get a.ids.items k) n;
  counter_goes_on = counts_on r;
  stays = λ k. stays_as r (slice_get a.ids.items k);
  preserved = preserved;
  occurs = occurs_at a;
  counts = counts_at r a;
}

-- the scopes that declare, and the ids, by their numbers
abbrev pub numbered_sites : Analysis → List Site
numbered_sites a = map (λ s. (s.scope, s.id)) a.sites.items

-- no new name may be the text
abbrev pub IsAmong : (List ℕ → Bool) → List ℕ → Type 0
IsAmong preserved text = IsTrue (preserved text)

-- whose names count by the paths: those of a scope round it or of itself, where scopes beside one another may share texts,
-- else all
abbrev pub counting_by : Bool → Node → Counting
counting_by true t = outer_count t
counting_by false t = all_count

abbrev pub counting : Node → Renaming → Counting
counting t r = counting_by r.mangles t

-- the map has for an id what its number has, and nothing for ids that have none
pub record IsByIds (a : Analysis) (texts : ℕ → Option (List ℕ)) (new_texts : Id → Option (List ℕ)) : Type 0 where
  pub each : (k : ℕ) (x : Id) → IsIdOf a k x → new_texts x ≡ texts k
  pub no_other : (x : Id) → ((k : ℕ) → ¬ IsIdOf a k x) → new_texts x ≡ None
