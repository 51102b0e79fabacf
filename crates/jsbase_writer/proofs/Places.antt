-- Members that are put one after another, each at its place.
use Rattle.std.proofs.Common.{◌≡◌, ◌≢◌, ◌+◌, ◌<◌, ◌≤◌, ℕ, zero, suc, max, List, [], ◌∷◌, ◌++◌, length, get_or, take, drop, not, IsTrue, map, codes, bytes_eq, Ordering, Less, Equal, Greater, nat_cmp, is_eq, refl, sym, ap, ap₂, ◌∙◌, subst, arith, add-one}
use Rattle.std.specs.Bool.{⊤}
use Rattle.std.specs.List.{list_any}
use Rattle.std.specs.Ordering.{match_ordering}
use Rattle.std.specs.Cmp.Lexicographic.{slice_cmp}
use Rattle.std.proofs.lemmas.Map.Text.{is_eq-slice_cmp}
use Rattle.std.proofs.lemmas.Slice.Eq.{bytes_eq-Decides}
use Rattle.std.proofs.lemmas.List.{take-append-drop}
use Rattle.json.specs.Json.{Json, string, Members, no_members, member}
use Rattle.swc_tree_node.specs.declared.slot.Field.{Field}
use Rattle.swc_tree_node.specs.declared.slot.Slot.{Slot}
use Rattle.swc_tree_node.specs.declared.slot.Role.{Role}
use Rattle.swc_tree_node.specs.declared.node.Node.{Node}
use Rattle.swc_tree_node.specs.declared.kind.Kind.{Kind}
use Rattle.swc_tree_node.specs.Table.{fields_of, name_of}
use Rattle.swc_tree_node.proofs.Fit.{and_both}
use Rattle.jsbase_form.specs.Keys.{all_differ}
use Rattle.jsbase_form.specs.Known.{NumbersShort, numbers_short, all_keyed}
use Rattle.jsbase_form.specs.Writing.{json, put, typed, fields_put}
use Rattle.jsbase_form.proofs.Members.{apart, neither, split, table_differs}
use Rattle.jsbase_writer.specs.declared.members.Member.{Member}
use Rattle.jsbase_writer.specs.Members.{greatest, height, part_data, members_data, AllBelow, FirstNotBelow, IsPlace, IsNew, Inserts, part_height, tallest, PartShort, MembersShort}

-- ---- the place of a key

below_next : (k : List ℕ) (ms : List Member) (i : ℕ) (d : Member) → i < length ms → AllBelow k (take i ms) → slice_cmp nat_cmp k (get_or ms i d).key.now ≡ Greater → AllBelow k (take (suc i) ms)
below_next k [] i d h below next = absurd (omega arith)
below_next k (m ∷ ms) zero d h below next = (next, tt)
below_next k (m ∷ ms) (suc i) d h below next = (below.0, below_next k ms i d (omega arith) below.1 next)

pub below_more : (k : List ℕ) (ms : List Member) (i : ℕ) (d : Member) → i < length ms → AllBelow k (take i ms) → slice_cmp nat_cmp k (get_or ms i d).key.now ≡ Greater → AllBelow k (take (i + 1) ms)
below_more k ms i d h below next = rw (add-one i) (below_next k ms i d h below next)

same_key : (k l : List ℕ) → slice_cmp nat_cmp k l ≡ Equal → k ≡ l
same_key k l h = (bytes_eq-Decides k l).0 (sym (is_eq-slice_cmp k l) ∙ ap is_eq h)

put_first : (o : Ordering) (k l : List ℕ) (d e : Json) (ms rest : Members) → slice_cmp nat_cmp k l ≡ o → slice_cmp nat_cmp k l ≢ Greater → k ≢ l
    → match_ordering o (member k d (member l e ms)) (member l d ms) rest ≡ member k d (member l e ms)
put_first Less k l d e ms rest is below apart = refl
put_first Equal k l d e ms rest is below apart = absurd (apart (same_key k l is))
put_first Greater k l d e ms rest is below apart = absurd (below is)

put_placed : (m : Member) (front back : List Member) → AllBelow m.key.now front → FirstNotBelow m.key.now back → IsNew m.key.now (front ++ back)
    → members_data (front ++ m ∷ back) ≡ put m.key.now (part_data m.part) (members_data (front ++ back))
put_placed m [] [] below first new = refl
put_placed m [] (b ∷ bs) below first new = sym (put_first _ m.key.now b.key.now (part_data m.part) (part_data b.part) (members_data bs) _ refl first new.0)
put_placed m (x ∷ xs) back below first new = rw below.0 (ap (member x.key.now (part_data x.part)) (put_placed m xs back below.1 first new.1))

pub put_at_place : (m : Member) (ms : List Member) (i : ℕ) → IsPlace m.key.now ms i → IsNew m.key.now ms → members_data (take i ms ++ m ∷ drop i ms) ≡ put m.key.now (part_data m.part) (members_data ms)
put_at_place m ms i place new =
    put_placed m (take i ms) (drop i ms) place.1 place.2 (subst (IsNew m.key.now) (sym (take-append-drop i ms)) new) ∙ ap (λ l. put m.key.now (part_data m.part) (members_data l)) (take-append-drop i ms)

-- ---- one member more

-- no member has any of the keys
abbrev pub AllNew : List (List ℕ) → List Member → Type 0
AllNew [] ms = ⊤
AllNew (k ∷ ks) ms = IsNew k ms × AllNew ks ms

new_between : (k : List ℕ) (m : Member) (front back : List Member) → k ≢ m.key.now → IsNew k (front ++ back) → IsNew k (front ++ m ∷ back)
new_between k m [] back apart new = (apart, new)
new_between k m (x ∷ xs) back apart new = (new.0, new_between k m xs back apart new.1)

pub new_inserted : (ks : List (List ℕ)) (m : Member) (old new : List Member) → Inserts m old new → AllNew ks old → IsTrue (not (list_any (λ other. bytes_eq m.key.now other) ks)) → AllNew ks new
new_inserted [] m old new i all differ = tt
new_inserted (k ∷ ks) m old new i all differ =
    let both = neither (bytes_eq m.key.now k) (list_any (λ other. bytes_eq m.key.now other) ks) differ in
    let here = new_between k m i.0 i.1 (apart m.key.now k both.0) (subst (IsNew k) i.2 all.0) in
    (subst (IsNew k) (sym i.3) here, new_inserted ks m old new i all.1 both.1)

pub new_beside : (ks : List (List ℕ)) (m : Member) → IsTrue (not (list_any (λ other. bytes_eq m.key.now other) ks)) → AllNew ks (m ∷ [])
new_beside ks m = new_inserted ks m [] (m ∷ []) ([], [], refl, refl) (none ks)
  where
    none : (ks : List (List ℕ)) → AllNew ks []
    none [] = tt
    none (k ∷ ks) = (tt, none ks)

tallest_between : (m : Member) (front back : List Member) → tallest (front ++ m ∷ back) ≡ max (part_height m.part) (tallest (front ++ back))
tallest_between m [] back = refl
tallest_between m (x ∷ xs) back = let more = tallest_between m xs back in omega arith

pub tallest_inserted : (m : Member) (old new : List Member) (n : ℕ) → Inserts m old new → tallest old ≤ n → part_height m.part ≤ n → tallest new ≤ n
tallest_inserted m old new n i was part = let is = tallest_between m i.0 i.1 in let before = ap tallest i.2 in let after = ap tallest i.3 in omega arith

short_between : (m : Member) (front back : List Member) → MembersShort (front ++ m ∷ back) → PartShort m.part × MembersShort (front ++ back)
short_between m [] back short = short
short_between m (x ∷ xs) back short = let more = short_between m xs back short.1 in (more.0, (short.0, more.1))

pub short_inserted : (m : Member) (old new : List Member) → Inserts m old new → MembersShort new → PartShort m.part × MembersShort old
short_inserted m old new i short = let both = short_between m i.0 i.1 (subst MembersShort i.3 short) in (both.0, subst MembersShort (sym i.2) both.1)

-- ---- fields

-- a field as the table's definition has it
abbrev pub row : Field → List ℕ × Slot × Role
row f = (f.key.now, f.slot, f.role)

abbrev pub keys : List (List ℕ × Slot × Role) → List (List ℕ)
keys = map (λ f. f.0)

-- what is gathered, with some fields and nodes still to come
pub record Gathers (k : Kind) (all : List Node) (fields : List (List ℕ × Slot × Role)) (nodes : List Node) (members : List Member) : Type 0 where
  pub same : fields_put (fields_of k) (map json all) (typed k) ≡ fields_put fields (map json nodes) (members_data members)
  pub low : tallest members ≤ greatest (map height all)
  pub rest_low : greatest (map height nodes) ≤ greatest (map height all)
  pub short : MembersShort members → IsTrue (all_keyed fields (map numbers_short nodes)) → IsTrue (all_keyed (fields_of k) (map numbers_short all))
  pub new : AllNew (keys fields) members
  pub differ : IsTrue (all_differ (keys fields))

pub nothing_gathered : (k : Kind) (all ts : List Node) (fs : List Field) (m : Member) (none ms : List Member) → map row fs ≡ fields_of k → ts ≡ all → none ≡ [] → ms ≡ none ++ m ∷ []
    → m.key.now ≡ codes "type" → part_data m.part ≡ string (name_of k) → part_height m.part ≡ 0 → Gathers k all (map row fs) ts ms
nothing_gathered k all ts fs m none ms ef et en em at_type named flat =
    subst (λ rows. Gathers k all rows ts ms) (sym ef) (subst (λ ts. Gathers k all (fields_of k) ts ms) (sym et) (subst (Gathers k all (fields_of k) all) (sym (em ∙ ap (λ l. l ++ m ∷ []) en)) first))
  where
    both : IsTrue (not (list_any (λ other. bytes_eq (codes "type") other) (keys (fields_of k)))) × IsTrue (all_differ (keys (fields_of k)))
    both = split (not (list_any (λ other. bytes_eq (codes "type") other) (keys (fields_of k)))) (all_differ (keys (fields_of k))) (table_differs k)

    first : Gathers k all (fields_of k) all (m ∷ [])
    first = record {
      same = ap (λ ms. fields_put (fields_of k) (map json all) ms) (sym (ap₂ (λ l d. member l d no_members) at_type named));
      low = omega arith;
      rest_low = omega arith;
      short = λ members rest. rest;
      new = new_beside (keys (fields_of k)) m (subst (λ l. IsTrue (not (list_any (λ other. bytes_eq l other) (keys (fields_of k))))) (sym at_type) both.0);
      differ = both.1;
    }

pub one_gathered : (k : Kind) (all : List Node) (f : List ℕ × Slot × Role) (later : List (List ℕ × Slot × Role)) (t : Node) (rest : List Node) (m : Member) (old new : List Member)
    → Gathers k all (f ∷ later) (t ∷ rest) old → m.key.now ≡ f.0 → part_data m.part ≡ json t → part_height m.part ≡ height t → (PartShort m.part → NumbersShort t)
    → Inserts m old new → members_data new ≡ put m.key.now (part_data m.part) (members_data old) → Gathers k all later rest new
one_gathered k all f later t rest m old new g key is high short i put_in =
    let low = g.low in
    let rest_low = g.rest_low in
    let both = split (not (list_any (λ other. bytes_eq f.0 other) (keys later))) (all_differ (keys later)) g.differ in
    record {
      same = g.same ∙ ap (fields_put later (map json rest)) (sym (put_in ∙ ap₂ (λ l d. put l d (members_data old)) key is));
      low = tallest_inserted m old new _ i low (omega arith);
      rest_low = omega arith;
      short = λ members others. let parts = short_inserted m old new i members in g.short parts.1 (and_both (numbers_short t) (all_keyed later (map numbers_short rest)) (short parts.0) others);
      new = new_inserted (keys later) m old new i g.new.1 (subst (λ l. IsTrue (not (list_any (λ other. bytes_eq l other) (keys later)))) (sym key) both.0);
      differ = both.1;
    }

abbrev pub Gathered : Kind → List Node → List Member → Type 0
Gathered k all members =
    (members_data members ≡ fields_put (fields_of k) (map json all) (typed k)) × (tallest members ≤ greatest (map height all)) × (MembersShort members → IsTrue (all_keyed (fields_of k) (map numbers_short all)))

pub no_fields : (k : Kind) (all ts : List Node) (fs : List Field) (members : List Member) → length fs ≡ 0 → Gathers k all (map row fs) ts members → Gathered k all members
no_fields k all ts [] members none g = (sym g.same, g.low, λ short. g.short short refl)
no_fields k all ts (f ∷ fs) members none g = absurd (omega arith)

pub no_nodes : (k : Kind) (all ts : List Node) (fs : List Field) (members : List Member) → length ts ≡ 0 → Gathers k all (map row fs) ts members → Gathered k all members
no_nodes k all [] [] members none g = (sym g.same, g.low, λ short. g.short short refl)
no_nodes k all [] (f ∷ fs) members none g = (sym g.same, g.low, λ short. g.short short refl)
no_nodes k all (t ∷ ts) fs members none g = absurd (omega arith)

pub next_gathered : (k : Kind) (all : List Node) (fs later : List Field) (f : Field) (ts rest : List Node) (t : Node) (members : List Member)
    → Gathers k all (map row fs) ts members → fs ≡ f ∷ later → ts ≡ t ∷ rest → Gathers k all (row f ∷ map row later) (t ∷ rest) members
next_gathered k all fs later f ts rest t members g es et = subst (λ fs. Gathers k all (map row fs) (t ∷ rest) members) es (subst (λ ts. Gathers k all (map row fs) ts members) et g)
