-- What meets, with other ids in place of those that are there: so it is of what stands together and of what a scope encloses.
use Rattle.std.proofs.Common.{◌≡◌, Bool, true, false, not, Option, Some, None, List, [], ◌∷◌, ◌++◌, map, append_assoc, append-nil, refl, sym, ap, ◌∙◌, subst, cond}
use Rattle.std.specs.List.{filter}
use Rattle.std.proofs.lemmas.List.{map-append}
use Rattle.swc_tree_marks.specs.declared.ident.Ident.{Ident}
use Rattle.swc_tree_scoping.specs.BoundNames.{Id}
use Rattle.swc_base_rename_analysis.specs.declared.scopes.ScopeKind.{ScopeKind}
use Rattle.swc_base_renaming_laws.specs.Meetings.{Bound, Met, beside, both, enclosed, in_scope, nothing, takes_so, used}
use Rattle.swc_base_renaming_laws.proofs.Within.{Within, both_twice, both_within, in_scope_within, within_same, within_through}
use Rattle.swc_base_renaming_laws.specs.NamedMeetings.{mapped, other_bound, other_pair}

-- ---- parts that stand together

pub both_nothing : (a : Met) → both a nothing ≡ a
both_nothing a = λ i. record { pending = append-nil a.pending i; names = append-nil a.names i; pairs = append-nil a.pairs i }

pub both_assoc : (a b c : Met) → both (both a b) c ≡ both a (both b c)
both_assoc a b c = λ i. record { pending = append_assoc a.pending b.pending c.pending i; names = append_assoc a.names b.names c.names i; pairs = append_assoc a.pairs b.pairs c.pairs i }

pub into : (a b c : Met) → Within a c → Within b c → Within (both a b) c
into a b c h g = within_through (both a b) (both c c) c (both_within a c b c h g) (both_twice c)

-- ---- other ids

abbrev pair : Id → Id → Id × Id
pair x y = (x, y)

module _ (g : Id → Id) where
  pub both_mapped : (a b : Met) → mapped g (both a b) ≡ both (mapped g a) (mapped g b)
  both_mapped a b = λ i. record { pending = map-append (other_bound g) a.pending b.pending i; names = map-append g a.names b.names i; pairs = map-append (other_pair g) a.pairs b.pairs i }

  filter_mapped : (p : Bool → Bool) (xs : List Bound) → filter (λ (b : Bound). p b.0) (map (other_bound g) xs) ≡ map (other_bound g) (filter (λ (b : Bound). p b.0) xs)
  filter_mapped p [] = refl
  filter_mapped p (x ∷ xs) = next (p x.0) (filter_mapped p xs)
    where
      next : (b : Bool) → filter (λ (b : Bound). p b.0) (map (other_bound g) xs) ≡ map (other_bound g) (filter (λ (b : Bound). p b.0) xs)
          → cond b (other_bound g x ∷ filter (λ (b : Bound). p b.0) (map (other_bound g) xs)) (filter (λ (b : Bound). p b.0) (map (other_bound g) xs)) ≡ map (other_bound g) (cond b (x ∷ filter (λ (b : Bound). p b.0) xs) (filter (λ (b : Bound). p b.0) xs))
      next true e = ap (λ l. other_bound g x ∷ l) e
      next false e = e

  pairs_mapped : (x : Id) (ns : List Id) → map (pair (g x)) (map g ns) ≡ map (other_pair g) (map (pair x) ns)
  pairs_mapped x [] = refl
  pairs_mapped x (n ∷ ns) = ap (λ l. pair (g x) (g n) ∷ l) (pairs_mapped x ns)

  beside_mapped : (bs : List Bound) (ns : List Id) → beside (map (other_bound g) bs) (map g ns) ≡ map (other_pair g) (beside bs ns)
  beside_mapped [] ns = refl
  beside_mapped (b ∷ bs) ns = (λ i. pairs_mapped b.1 ns i ++ beside_mapped bs ns i) ∙ sym (map-append (other_pair g) (map (pair b.1) ns) (beside bs ns))

  enclosed_mapped : (k : ScopeKind) (own now : Option Ident) (a : Met) → used now ≡ map g (used own) → mapped g (enclosed k own a) ≡ enclosed k now (mapped g a)
  enclosed_mapped k own now a e = λ i. record { pending = sym (filter_mapped (λ t. not (takes_so k t)) a.pending) i; names = map g a.names; pairs = met_pairs i }
    where
      taken : List Bound
      taken = filter (λ (b : Bound). takes_so k b.0) a.pending

      all_names : map g (used own ++ a.names) ≡ used now ++ map g a.names
      all_names = map-append g (used own) a.names ∙ ap (λ l. l ++ map g a.names) (sym e)

      met_pairs : map (other_pair g) (a.pairs ++ beside taken (used own ++ a.names))
          ≡ map (other_pair g) a.pairs ++ beside (filter (λ (b : Bound). takes_so k b.0) (map (other_bound g) a.pending)) (used now ++ map g a.names)
      met_pairs =
          map-append (other_pair g) a.pairs (beside taken (used own ++ a.names))
          ∙ ap (λ l. map (other_pair g) a.pairs ++ l) (sym (beside_mapped taken (used own ++ a.names)) ∙ (λ i. beside (sym (filter_mapped (takes_so k) a.pending) i) (all_names i)))

  scope_mapped : (o : Option ScopeKind) (own now : Option Ident) (a : Met) → used now ≡ map g (used own) → mapped g (in_scope o own a) ≡ in_scope o now (mapped g a)
  scope_mapped None own now a e = refl
  scope_mapped (Some k) own now a e = enclosed_mapped k own now a e

  -- ---- within what is so

  pub both_anew : (a b c d : Met) → Within a (mapped g b) → Within c (mapped g d) → Within (both a c) (mapped g (both b d))
  both_anew a b c d h k = subst (Within (both a c)) (sym (both_mapped b d)) (both_within a (mapped g b) c (mapped g d) h k)

  pub scope_anew : (o : Option ScopeKind) (own now : Option Ident) (a b : Met) → used now ≡ map g (used own) → Within a (mapped g b) → Within (in_scope o now a) (mapped g (in_scope o own b))
  scope_anew o own now a b e h = subst (Within (in_scope o now a)) (sym (scope_mapped o own now b e)) (in_scope_within o now a (mapped g b) h)

  pub chosen_anew : (b : Bool) (x y : Met) → Within x (mapped g y) → Within (cond b x nothing) (mapped g (cond b y nothing))
  chosen_anew true x y h = h
  chosen_anew false x y h = within_same nothing
