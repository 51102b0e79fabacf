-- What is read off the layout of a tree: the sites in order, the ids with their positions, and the texts of loose ids.
use Rattle.std.specs.Prelude.{◌≡◌, ℕ, zero, suc, Bool, true, false, not, ◌&&◌, Option, Some, None, unwrap_or, List, [], ◌∷◌, ◌++◌, map, length, slice_get, if◌then◌else◌}
use Rattle.std.specs.declared.cmp.Ordering.{Ordering}
use Rattle.std.specs.Ordering.{nat_cmp, ordering_then}
use Rattle.std.specs.List.{list_any}
use Rattle.std.specs.List.Sorted.{IsPermutation, IsSorted}
use Rattle.std.specs.Str.{bytes_eq}
use Rattle.std.specs.BTreeSet.{contains_text}
use Rattle.swc_tree_scoping.specs.declared.places.Standing.{Standing}
use Rattle.swc_tree_scoping.specs.Scopes.{is_binding}
use Rattle.swc_base_rename_analysis.specs.declared.analysis.Analysis.{Analysis}
use Rattle.swc_base_rename_analysis.specs.declared.analysis.Site.{Site}
use Rattle.swc_base_rename_analysis.specs.declared.layout.Region.{Region}
use Rattle.swc_base_rename_analysis.specs.declared.numbers.Entry.{Entry}
use Rattle.swc_base_rename_analysis.specs.Analysis.{takes}
use Rattle.swc_base_rename_analysis.specs.Between.{AreAscending, OneBetween}
use Rattle.swc_base_rename_analysis.specs.Numbers.{Known, id_met, is_analysed, known_by, known_of, number_in}
use Rattle.swc_base_rename_analysis.specs.Walk.{Laid, Met}

abbrev pub taken_at : Standing → ℕ → Option Region → Option ℕ
taken_at r n None = None
taken_at r n (Some region) = if takes region.kind r then Some n else region.function

-- the number of the first scope, at a scope or round it, that takes what stands so
abbrev pub taken_from : List Region → Standing → Option ℕ → Option ℕ
taken_from rs r None = None
taken_from rs r (Some n) = taken_at r n (slice_get rs n)

-- the number of the scope that declares the id of a name
abbrev pub taker : List Region → Met → Option ℕ
taker rs m = if is_binding m.standing && is_analysed (id_met m) then taken_from rs m.standing m.scope else None

-- the site, if there is one
abbrev pub site_of : ℕ → ℕ → Option ℕ → List Site
site_of position id None = []
site_of position id (Some n) = record { scope = n; position = position; id = id } ∷ []

abbrev pub sites_of : List Region → ℕ → Met → List Known → List Site
sites_of rs k m es = site_of k (unwrap_or (number_in es (id_met m)) 0) (taker rs m)

abbrev sites_next : List Region → ℕ → Option Met → List Known → List Site → List Site
sites_next rs k None es sites = sites
sites_next rs k (Some m) es sites = sites ++ sites_of rs k m es

-- the scopes that declare ids by the first of some names, with the positions of these
abbrev pub sites_by : List Region → List Met → ℕ → List Site
sites_by rs ms zero = []
sites_by rs ms (suc n) = sites_next rs n (slice_get ms n) (known_by ms (suc n)) (sites_by rs ms n)

-- by scopes, and in one scope by positions
abbrev pub site_order : Site → Site → Ordering
site_order a b = ordering_then (nat_cmp a.scope b.scope) (ordering_then (nat_cmp a.position b.position) (nat_cmp a.id b.id))

-- an id with a context that stands outside of export lists, and that nothing binds
abbrev has_context : List ℕ → Bool
has_context [] = false
has_context (m ∷ ms) = true

abbrev pub is_loose : Known → Bool
is_loose e = e.stands_outside && (not e.is_bound && has_context e.id.1)

-- the positions of each id rise
abbrev pub PositionsRise : Analysis → Type 0
PositionsRise a = (n : ℕ) (e : Entry) → slice_get a.ids.items n ≡ Some e → AreAscending e.positions.items

-- the id of a number occurs in the scope of a number
abbrev pub Occurs : Analysis → ℕ → ℕ → Type 0
Occurs a scope id = (r : Region) × (e : Entry) × (slice_get a.regions.items scope ≡ Some r) × (slice_get a.ids.items id ≡ Some e) × OneBetween e.positions.items r.start r.end

-- what is read off a layout
pub record IsRead (l : Laid) (a : Analysis) : Type 0 where
  pub regions : a.regions.items ≡ l.regions
  pub ids : map known_of a.ids.items ≡ known_by l.names (length l.names)
  pub rising : PositionsRise a
  pub sites : IsPermutation (sites_by l.regions l.names (length l.names)) a.sites.items
  pub in_order : IsSorted site_order a.sites.items
  pub loose : (x : List ℕ) → contains_text a.loose x ≡ list_any (λ e. is_loose e && bytes_eq e.id.0 x) (known_by l.names (length l.names))
