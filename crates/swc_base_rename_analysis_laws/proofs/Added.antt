-- What a walk adds, by the places of its names: from one state of the walk to another.
use Rattle.std.proofs.Common.{◌≡◌, ℕ, ◌+◌, IsTrue, List, [], ◌∷◌, ◌++◌, length, length-append, map, refl, sym, ap, ◌∙◌, subst, arith, append_assoc, append-nil}
use Rattle.std.proofs.lemmas.List.{length-map, map-append}
use Rattle.swc_tree_marks.specs.declared.ident.Ident.{Ident}
use Rattle.swc_tree_node.specs.declared.node.Node.{Node}
use Rattle.swc_tree_scoping.specs.declared.places.Place.{Place}
use Rattle.swc_tree_scoping.specs.Places.{Path, program_place}
use Rattle.swc_base_rename_analysis.specs.Walk.{Met}
use Rattle.swc_base_rename_analysis_laws.specs.Placed.{Use}
use Rattle.swc_base_rename_analysis_laws.proofs.Contexts.{IsNamedFunction}
use Rattle.swc_base_rename_analysis_laws.proofs.Good.{IsUnder, Good, Home, StartsWith, good_name, good_none, use_of}
use Rattle.swc_base_rename_analysis_laws.proofs.Lists.{All, all_joined, all_so}
use Rattle.swc_base_rename_analysis_laws.proofs.Marked.{Marked, MarkedScope, below, marked_meet}
use Rattle.swc_base_rename_analysis_laws.proofs.Paths.{IsAt}
use Rattle.swc_base_rename_analysis_laws.proofs.Wrapped.{Sooner, children_joined}

abbrev pub uses_in : Marked → List Use
uses_in m = map (λ n. n.use_) m.names

-- a function that uses its own name has one
abbrev pub IsOwnHome : Node → Home → Type 0
IsOwnHome t x = IsTrue x.owned → (y : Ident) × IsNamedFunction t x.place y

pub record Added (t : Node) (P : Path → Type 0) (m n : Marked) : Type 0 where
  pub names : List Home
  pub scopes : List MarkedScope
  pub uses_come : uses_in n ≡ uses_in m ++ map use_of names
  pub scopes_come : n.scopes ≡ m.scopes ++ scopes
  pub good : Good t (length m.names) names scopes
  pub names_in : All (λ x. P x.place) names
  pub scopes_in : All (λ s. P s.path) scopes
  pub owned : All (IsOwnHome t) names

pub count_after : (m n : Marked) (xs : List Home) → uses_in n ≡ uses_in m ++ map use_of xs → length n.names ≡ length m.names + length xs
count_after m n xs e = omega (arith, length-map n.names (λ n. n.use_), length-map m.names (λ n. n.use_), ap length e, length-append (uses_in m) (map use_of xs), length-map xs use_of)

pub nothing_added : (t : Node) (P : Path → Type 0) (m : Marked) → Added t P m m
nothing_added t P m = record { names = []; scopes = []; uses_come = sym (append-nil (uses_in m)); scopes_come = sym (append-nil m.scopes); good = good_none t (length m.names); names_in = tt; scopes_in = tt; owned = tt }

pub added_so : {t : Node} {P Q : Path → Type 0} {m n : Marked} → ((p : Path) → P p → Q p) → Added t P m n → Added t Q m n
added_so {t} {P} {Q} {m} {n} f a = record {
  names = a.names;
  scopes = a.scopes;
  uses_come = a.uses_come;
  scopes_come = a.scopes_come;
  good = a.good;
  names_in = all_so (λ x p. f x.place p) a.names a.names_in;
  scopes_in = all_so (λ s p. f s.path p) a.scopes a.scopes_in;
  owned = a.owned;
}

pub uses_on : (us vs ws : List Use) (xs ys : List Home) → vs ≡ us ++ map use_of xs → ws ≡ vs ++ map use_of ys → ws ≡ us ++ map use_of (xs ++ ys)
uses_on us vs ws xs ys e f = f ∙ ap (λ l. l ++ map use_of ys) e ∙ append_assoc us (map use_of xs) (map use_of ys) ∙ ap (λ l. us ++ l) (sym (map-append use_of xs ys))

-- one name
pub name_added : (t : Node) (P : Path → Type 0) (x : Home) (y : Met) (m : Marked) → P x.place → IsOwnHome t x → Added t P m (marked_meet (use_of x) y m)
name_added t P x y m p o = record {
  names = x ∷ [];
  scopes = [];
  uses_come = map-append (λ n. n.use_) m.names (record { use_ = use_of x; met = y } ∷ []);
  scopes_come = sym (append-nil m.scopes);
  good = good_name t (length m.names) x;
  names_in = (p, tt);
  scopes_in = tt;
  owned = (o, tt);
}

-- what is below a child is below the node
pub under_child : (h : Path) (i : ℕ) (p : Path) → IsUnder (below h i) p → StartsWith (λ j. j ≡ i) h p
under_child h i p (q, e) = (i, q, e ∙ append_assoc h (i ∷ []) q, refl)

pub starts_under : (F : ℕ → Type 0) (h p : Path) → StartsWith F h p → IsUnder h p
starts_under F h p (j, q, e, f) = (j ∷ q, e)

pub starts_so : (F G : ℕ → Type 0) → ((j : ℕ) → F j → G j) → (h p : Path) → StartsWith F h p → StartsWith G h p
starts_so F G so h p (j, q, e, f) = (j, q, e, so j f)

-- one child after others
pub then_added : (t : Node) (h : Path) (w : Place) (n : Node) (there : IsAt program_place t h w n) (F G H : ℕ → Type 0) → Sooner t h w n there F G → ((j : ℕ) → F j → H j) → ((j : ℕ) → G j → H j)
    → (m k l : Marked) → Added t (StartsWith F h) m k → Added t (StartsWith G h) k l → Added t (StartsWith H h) m l
then_added t h w n there F G H sooner f_so g_so m k l a b = record {
  names = a.names ++ b.names;
  scopes = a.scopes ++ b.scopes;
  uses_come = uses_on (uses_in m) (uses_in k) (uses_in l) a.names b.names a.uses_come b.uses_come;
  scopes_come = b.scopes_come ∙ ap (λ s. s ++ b.scopes) a.scopes_come ∙ append_assoc m.scopes a.scopes b.scopes;
  good = children_joined t h w n there F G sooner (length m.names) a.names b.names a.scopes b.scopes a.good (subst (λ z. Good t z b.names b.scopes) (count_after m k a.names a.uses_come) b.good) a.names_in b.names_in a.scopes_in b.scopes_in;
  names_in = all_joined (λ x. StartsWith H h x.place) a.names b.names (all_so (λ x p. starts_so F H f_so h x.place p) a.names a.names_in) (all_so (λ x p. starts_so G H g_so h x.place p) b.names b.names_in);
  scopes_in = all_joined (λ s. StartsWith H h s.path) a.scopes b.scopes (all_so (λ s p. starts_so F H f_so h s.path p) a.scopes a.scopes_in) (all_so (λ s p. starts_so G H g_so h s.path p) b.scopes b.scopes_in);
  owned = all_joined (IsOwnHome t) a.names b.names a.owned b.owned;
}
