-- What the walk over a node adds, with the children of a node in their turns and the scope that it opens.
use Rattle.std.proofs.Common.{◌≡◌, ℕ, zero, suc, ◌+◌, ◌<◌, Bool, true, false, Option, Some, None, List, length, refl, sym, ap, ◌∙◌, subst, arith}
use Rattle.std.specs.Prelude.{if◌then◌else◌}
use Rattle.std.specs.Option.{option_map}
use Rattle.swc_tree_node.specs.declared.kind.Kind.{Kind}
use Rattle.swc_tree_node.specs.declared.node.Node.{Node, out-Node}
use Rattle.swc_tree_node.specs.declared.node.Node.TheOpen.{Node-F}
use Rattle.swc_tree_scoping.specs.declared.places.Place.{Place}
use Rattle.swc_tree_scoping.specs.Places.{Path, child, children_in, is_at, place_below, program_place}
use Rattle.swc_base_rename_analysis.specs.Analysis.{is_for_body}
use Rattle.swc_base_rename_analysis.specs.Laws.{is_body_at}
use Rattle.swc_base_rename_analysis.specs.Order.{turn, turn_in}
use Rattle.swc_base_rename_analysis.specs.Walk.{Outside, child_at, round_field, round_item}
use Rattle.swc_base_rename_analysis_laws.proofs.Added.{Added, added_so, nothing_added, starts_so, starts_under, then_added, under_child}
use Rattle.swc_base_rename_analysis_laws.proofs.Contexts.{HasOwnName, own_below}
use Rattle.swc_base_rename_analysis_laws.proofs.Good.{IsUnder, StartsWith}
use Rattle.swc_base_rename_analysis_laws.proofs.Marked.{Marked, MarkedWalk, below, marked_but, marked_field, marked_fields, marked_goes, marked_in, marked_in_turn, marked_items, marked_walks_at}
use Rattle.swc_base_rename_analysis_laws.proofs.Paths.{IsAt, body_below, place_below_at}

-- where a walk over a node stands
pub record Standpoint (t : Node) (h : Path) (w : Place) (n : Node) (o : Outside) : Type 0 where
  pub there : IsAt program_place t h w n
  pub for_body : o.for_body ≡ is_body_at false t h
  pub own_name : HasOwnName t h o.own_name

abbrev pub Adds : Node → Node → Type 0
Adds t n = (h : Path) (w : Place) (o : Outside) (m : Marked) → Standpoint t h w n o → Added t (IsUnder h) m (marked_in w n h o m)

abbrev pub IsChildAt : Node → Path → Node → ℕ → Outside → Type 0
IsChildAt t h n i o = (o.for_body ≡ is_for_body (out-Node n) i) × HasOwnName t (below h i) o.own_name

-- how the walk over a child goes on
abbrev pub ChildAdds : Node → Path → Node → ℕ → Option MarkedWalk → Type 0
ChildAdds t h n i walk = (o : Outside) (m : Marked) → IsChildAt t h n i o → Added t (StartsWith (λ j. j ≡ i) h) m (marked_goes walk (below h i) o m)

pub each_child : (t : Node) (h : Path) (w : Place) (n : Node) → IsAt program_place t h w n → ((i : ℕ) (c : Node) → child n i ≡ Some c → Adds t c)
    → (i : ℕ) → ChildAdds t h n i (marked_walks_at (place_below w n) (children_in (out-Node n)) i)
each_child t h w n there adds i = at (child n i) refl
  where
    at : (c : Option Node) → child n i ≡ c → ChildAdds t h n i (option_map (marked_in (place_below w n i)) c)
    at None e o m s = nothing_added t (StartsWith (λ j. j ≡ i) h) m
    at (Some c) e o m (body, own) = added_so (under_child h i) (adds i c e (below h i) (place_below w n i) o m (record {
      there = place_below_at h i program_place t w n c there e;
      for_body = body ∙ sym (body_below h i false program_place t w n c there e);
      own_name = own;
    }))

-- children whose turn comes before a number
abbrev pub Before : Node → ℕ → ℕ → Type 0
Before n b j = turn (out-Node n) j < b

-- a child more
pub one_more : (t : Node) (h : Path) (w : Place) (n : Node) (there : IsAt program_place t h w n) (C : ℕ → Type 0) (b i : ℕ) → turn (out-Node n) i ≡ b → C i → (m k l : Marked)
    → Added t (StartsWith (λ j. Before n b j × C j) h) m k → Added t (StartsWith (λ j. j ≡ i) h) k l → Added t (StartsWith (λ j. Before n (suc b) j × C j) h) m l
one_more t h w n there C b i at c m k l a d = then_added t h w n there (λ j. Before n b j × C j) (λ j. j ≡ i) (λ j. Before n (suc b) j × C j)
    (λ p q f e. let less : turn (out-Node n) p < b = f.0 in omega (arith, less, ap (turn (out-Node n)) e, at))
    (λ j f. let less : turn (out-Node n) j < b = f.0 in (omega (arith, less), f.1))
    (λ j e. (omega (arith, ap (turn (out-Node n)) e, at), subst C (sym e) c))
    m k l a d

pub no_child : (t : Node) (h : Path) (n : Node) (C : ℕ → Type 0) (b : ℕ) (m k : Marked) → Added t (StartsWith (λ j. Before n b j × C j) h) m k → Added t (StartsWith (λ j. Before n (suc b) j × C j) h) m k
no_child t h n C b m k a = added_so (starts_so (λ j. Before n b j × C j) (λ j. Before n (suc b) j × C j) (λ j f. let less : turn (out-Node n) j < b = f.0 in (omega (arith, less), f.1)) h) a

-- the items of a list
module _ (t : Node) (h : Path) (w : Place) (n : Node) (there : IsAt program_place t h w n) (ts : List Node) (layer : out-Node n ≡ Node-F.List ts) (walks : ℕ → Option MarkedWalk) (each : (i : ℕ) → ChildAdds t h n i (walks i)) where
  item_place : (o : Outside) (i : ℕ) → HasOwnName t (below h i) None → IsChildAt t h n i (round_item o)
  item_place o i none = (sym (ap (λ y. is_for_body y i) layer), none)

  items_so_far : (o : Outside) (m : Marked) → ((i : ℕ) → HasOwnName t (below h i) None) → (i : ℕ) → Added t (StartsWith (λ j. Before n i j × Unit {0}) h) m (marked_in_turn (λ i. marked_goes (walks i) (below h i) (round_item o)) i m)
  items_so_far o m none zero = nothing_added t (StartsWith (λ j. Before n zero j × Unit {0}) h) m
  items_so_far o m none (suc i) = one_more t h w n there (λ j. Unit {0}) i i (ap (λ y. turn y i) layer) tt m _ _ (items_so_far o m none i) (each i (round_item o) _ (item_place o i (none i)))

  pub items_add : (o : Outside) (m : Marked) → ((i : ℕ) → HasOwnName t (below h i) None) → Added t (IsUnder h) m (marked_items walks (length ts) h o m)
  items_add o m none = added_so (starts_under (λ j. Before n (length ts) j × Unit {0}) h) (items_so_far o m none (length ts))

-- the fields of a tree, but one, where each has its turn by its number
module _ (t : Node) (h : Path) (w : Place) (n : Node) (there : IsAt program_place t h w n) (k : Kind) (ts : List Node) (layer : out-Node n ≡ Node-F.Tree k ts) (walks : ℕ → Option MarkedWalk)
    (each : (i : ℕ) → ChildAdds t h n i (walks i)) where
  pub field_adds : (o : Outside) (m : Marked) (i : ℕ) → Added t (StartsWith (λ j. j ≡ i) h) m (marked_field k ts walks i h o m)
  field_adds o m i = each i (round_field k ts o i) m (sym (ap (λ y. is_for_body y i) layer), own_below t h w n k ts there layer i)

  module _ (but : Option ℕ) (shift : ℕ) (numbered : (i : ℕ) → is_at but (child_at k i) ≡ false → turn_in k (child_at k i) ≡ i + shift) where
    abbrev pub Kept : ℕ → Type 0
    Kept j = is_at but j ≡ false

    fields_so_far : (o : Outside) (m : Marked) (i : ℕ) → Added t (StartsWith (λ j. Before n (i + shift) j × Kept j) h) m (marked_in_turn (λ i. marked_but k ts walks but (child_at k i) h o) i m)
    fields_so_far o m zero = nothing_added t (StartsWith (λ j. Before n (0 + shift) j × Kept j) h) m
    fields_so_far o m (suc i) = by (fields_so_far o m i) (is_at but (child_at k i)) refl
      where
        so_far : Marked
        so_far = marked_in_turn (λ i. marked_but k ts walks but (child_at k i) h o) i m

        wider : (l : Marked) → Added t (StartsWith (λ j. Before n (suc (i + shift)) j × Kept j) h) m l → Added t (StartsWith (λ j. Before n (suc i + shift) j × Kept j) h) m l
        wider l a = added_so (starts_so (λ j. Before n (suc (i + shift)) j × Kept j) (λ j. Before n (suc i + shift) j × Kept j) (λ j f. let less : turn (out-Node n) j < suc (i + shift) = f.0 in (omega (arith, less), f.1)) h) a

        by : Added t (StartsWith (λ j. Before n (i + shift) j × Kept j) h) m so_far → (b : Bool) → is_at but (child_at k i) ≡ b → Added t (StartsWith (λ j. Before n (suc i + shift) j × Kept j) h) m (if b then so_far else marked_field k ts walks (child_at k i) h o so_far)
        by a true e = wider so_far (no_child t h n Kept (i + shift) m so_far a)
        by a false e = wider _ (one_more t h w n there Kept (i + shift) (child_at k i) (ap (λ y. turn y (child_at k i)) layer ∙ numbered i e) e m so_far _ a (field_adds o so_far (child_at k i)))

    pub fields_add : (o : Outside) (m : Marked) → Added t (StartsWith Kept h) m (marked_fields k ts walks but h o m)
    fields_add o m = added_so (starts_so (λ j. Before n (length ts + 1 + shift) j × Kept j) Kept (λ j f. f.1) h) (fields_so_far o m (length ts + 1))
