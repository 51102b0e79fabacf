-- Names by where they stand.
use Rattle.std.specs.Prelude.{if◌then◌else◌}
use Rattle.std.proofs.Common.{◌≡◌, ℕ, ◌+◌, ◌<◌, ◌≤◌, Bool, true, false, cond, List, [], ◌∷◌, ◌++◌, Option, Some, None, Bor, map, take, length, get_or, nat_eq, option_map, refl, sym, ap, ◌∙◌, subst, arith}
use Rattle.std.proofs.lemmas.Bool.Decides.{nat_tests}
use Rattle.std.proofs.lemmas.List.{map_more, take_all}
use Rattle.std.specs.BTreeMap.{BTreeMap, Updates, get, is_at}
use Rattle.std.specs.Map.{lookup}
use Rattle.std.specs.Option.{option_or}
use Rattle.std.specs.Ordering.{is_eq, nat_cmp}
use Rattle.std.specs.Str.{bytes_eq}
use Rattle.mucwathi_mappings.specs.Names.{text_of}
use Rattle.mucwathi_looks.specs.declared.spots.Spot.{Spot}
use Rattle.mucwathi_looks.specs.Spots.{HasNames, Notes, Stood, name_at, names_in, old_name, other_than, seen}

-- in the place of a spot that is not there
abbrev pub no_spot : Spot
no_spot = record { lo = 0; name = None }

same_number : (a b : ℕ) → is_eq (nat_cmp a b) ≡ nat_eq a b
same_number a b = grind (arith, nat_tests)

-- ---- a name more

or_none : (o : Option (List ℕ)) → option_or o None ≡ o
or_none None = refl
or_none (Some t) = refl

or_assoc : (a b c : Option (List ℕ)) → option_or (option_or a b) c ≡ option_or a (option_or b c)
or_assoc None b c = refl
or_assoc (Some t) b c = refl

abbrev here : Stood → ℕ → Option (List ℕ)
here s place = if nat_eq s.0 place then s.1 else None

name_push : (ss : List Stood) (s : Stood) (place : ℕ) → name_at (ss ++ s ∷ []) place ≡ option_or (here s place) (name_at ss place)
name_push [] s place = sym (or_none (here s place))
name_push (x ∷ ss) s place = ap (λ o. option_or o (here x place)) (name_push ss s place) ∙ or_assoc (here s place) (name_at ss place) (here x place)

pub notes_name : (s : Spot) (name : Bor (List ℕ)) (old new : BTreeMap ℕ (Bor (List ℕ))) → s.name ≡ Some name → Updates nat_cmp old new s.lo (Some name) → Notes (seen s) old new
notes_name s name old new is updates place =
    let found : names_in new place ≡ cond (nat_eq s.lo place) (Some name.now) (names_in old place) =
    ap (option_map text_of) (updates.0 place)
    ∙ elim (is_eq (nat_cmp s.lo place)) as (λ b. option_map text_of (cond b (Some name) (get nat_cmp old place)) ≡ cond b (Some name.now) (names_in old place)) [ true ↦ refl | false ↦ refl ]
    ∙ ap (λ b. cond b (Some name.now) (names_in old place)) (same_number s.lo place) in
    let told : cond (nat_eq s.lo place) (Some name.now) (names_in old place) ≡ option_or (if nat_eq s.lo place then Some name.now else None) (names_in old place) =
    elim (nat_eq s.lo place) as (λ b. cond b (Some name.now) (names_in old place) ≡ option_or (if b then Some name.now else None) (names_in old place)) [ true ↦ refl | false ↦ refl ] in
    found ∙ told ∙ ap (λ n. option_or (if nat_eq s.lo place then option_map text_of n else None) (names_in old place)) (sym is)

nothing_here : (b : Bool) (o : Option (List ℕ)) → o ≡ option_or (if b then None else None) o
nothing_here true o = refl
nothing_here false o = refl

pub notes_none : (s : Spot) (names : BTreeMap ℕ (Bor (List ℕ))) → s.name ≡ None → Notes (seen s) names names
notes_none s names is place =
    nothing_here (nat_eq s.lo place) (names_in names place) ∙ ap (λ n. option_or (if nat_eq s.lo place then option_map text_of n else None) (names_in names place)) (sym is)

pub no_names : (names : BTreeMap ℕ (Bor (List ℕ))) → names.entries ≡ [] → HasNames [] names
no_names names empty place = ap (λ es. option_map text_of (lookup (is_at (nat_cmp place)) es)) empty

pub names_step : (spots : List Spot) (i : ℕ) (d s : Spot) (old new : BTreeMap ℕ (Bor (List ℕ))) → i < length spots → s ≡ get_or spots i d → HasNames (map seen (take i spots)) old → Notes (seen s) old new → HasNames (map seen (take (i + 1) spots)) new
names_step spots i d s old new below is h notes place =
    let more : map seen (take (i + 1) spots) ≡ map seen (take i spots) ++ seen s ∷ [] =
    map_more seen spots i d below ∙ ap (λ (x : Spot). map seen (take i spots) ++ seen x ∷ []) (sym is) in
    notes place ∙ ap (λ o. option_or (here (seen s) place) o) (h place) ∙ sym (name_push (map seen (take i spots)) (seen s) place) ∙ ap (λ l. name_at l place) (sym more)

pub names_all : (spots : List Spot) (i : ℕ) (names : BTreeMap ℕ (Bor (List ℕ))) → length spots ≤ i → HasNames (map seen (take i spots)) names → HasNames (map seen spots) names
names_all spots i names ended h = subst (λ l. HasNames (map seen l) names) (take_all i spots ended) h

-- ---- old names

-- what a spot is called has been told
by_name : (names : ℕ → Option (List ℕ)) (s : Spot) (n : Option (Bor (List ℕ))) (o : Option (List ℕ)) → s.name ≡ n → o ≡ old_name names (s.lo, option_map text_of n) → o ≡ old_name names (seen s)
by_name names s n o is h = h ∙ ap (λ n. old_name names (s.lo, option_map text_of n)) (sym is)

pub no_name : (names : ℕ → Option (List ℕ)) (s : Spot) → s.name ≡ None → None ≡ old_name names (seen s)
no_name names s is = by_name names s None None is refl

pub no_old : (names : ℕ → Option (List ℕ)) (s : Spot) (new : Bor (List ℕ)) → s.name ≡ Some new → names s.lo ≡ None → None ≡ old_name names (seen s)
no_old names s new is none = by_name names s (Some new) None is (ap (other_than new.now) (sym none))

pub same_old : (names : ℕ → Option (List ℕ)) (s : Spot) (new : Bor (List ℕ)) (old : List ℕ) → s.name ≡ Some new → names s.lo ≡ Some old → bytes_eq old new.now ≡ true → None ≡ old_name names (seen s)
same_old names s new old is there same =
    by_name names s (Some new) None is (sym (ap (other_than new.now) there ∙ ap (λ b. if b then None else Some old) same))

pub other_old : (names : ℕ → Option (List ℕ)) (s : Spot) (new : Bor (List ℕ)) (old : List ℕ) → s.name ≡ Some new → names s.lo ≡ Some old → bytes_eq old new.now ≡ false → Some old ≡ old_name names (seen s)
other_old names s new old is there other =
    by_name names s (Some new) (Some old) is (sym (ap (other_than new.now) there ∙ ap (λ b. if b then None else Some old) other))
