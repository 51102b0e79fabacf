-- Partners: of each id, what stands beside the first name that has it.
use Rattle.std.specs.Prelude.{ℕ, ◌&&◌, Bool, IsTrue, Option, Some, None, IfSome, List, option_map, if◌then◌else◌, nat_eq}
use Rattle.std.specs.Ordering.{nat_cmp, ordering_then}
use Rattle.std.specs.Cmp.Lexicographic.{pointwise, slice_cmp}
use Rattle.std.specs.BTreeMap.{get_by}
use Rattle.swc_tree_marks.specs.declared.ident.Ident.{Ident}
use Rattle.swc_tree_scoping.specs.Scopes.{is_name}
use Rattle.swc_tree_renaming.specs.Apart.{SameId}
use Rattle.swc_base_alpha.specs.Side.{Seen}
use Rattle.swc_base_alpha.specs.declared.partners.Partners.{Partners}

-- a context and a text
abbrev pub Id : Type 0
Id = List ℕ × List ℕ

abbrev pub id_of : Ident → Id
id_of i = (i.ctxt, i.sym)

abbrev pub is_same : Id → Id → Bool
is_same x y = pointwise nat_eq x.0 y.0 && pointwise nat_eq x.1 y.1

abbrev pub Table : Type 0
Table = Id → Option Ident

-- as the code keeps them
abbrev pub table_of : Partners → Table
table_of t x = option_map (λ b. b.now) (get_by (λ k. ordering_then (slice_cmp nat_cmp x.0 k.0.now) (slice_cmp nat_cmp x.1 k.1.now)) t.by_id)

-- a name whose id has a partner stands beside one that has the partner's id
abbrev pub Agrees : Table → Seen → Seen → Type 0
Agrees table x y = IsTrue (is_name x.0) → IfSome (table (id_of x.1)) (λ b. SameId b y.1)

-- what is known once the two are seen
abbrev pub or_else : Option Ident → Option Ident → Option Ident
or_else None o = o
or_else (Some b) o = Some b

abbrev pub with_pair : Table → Seen → Seen → Table
with_pair table x y z = or_else (table z) (if is_name x.0 && is_same (id_of x.1) z then Some y.1 else None)
