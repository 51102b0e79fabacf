-- The closed sets of the code are the closures of the helpers.
use Rattle.std.proofs.Common.{◌≡◌, ℕ, ◌-◌, ◌^◌, ◌*◌, ◌%◌, ◌<◌, ◌≤◌, zero, suc, List, [], ◌∷◌, ◌⊎◌, inl, inr, ◌↔◌, ◌==◌, ◌&&◌, Bool, true, get_or, ◌∙◌, ap, refl, arith, nat_lt, Contains}
use Rattle.std.specs.List.{list_all}
use Rattle.std.specs.Int.{bit_at}
use Rattle.std.specs.Int.RustNames.{bit_or}
use Rattle.std.proofs.lemmas.Bool.{cases_eq, and_parts, eqb-true, eq-eqb, ltb-true}
use Rattle.std.proofs.lemmas.Nat.Bits.{bit_at-zero, bit_at-pow_same, bit_at-pow_other}
use Rattle.swc_base_tables_helpers.specs.Closure.{InClosure}
use Rattle.swc_base_tables_helpers.specs.Sets.{Holds}
use Rattle.swc_base_tables_helpers.proofs.Unions.{Holds-union_cases, Holds-union_left, Holds-union_right}
use Rattle.swc_base_tables_helpers.specs.Table.{table, IsHelper, depends_on, DependsOn}
use Rattle.std.proofs.Math.Pow.{pow-lt}
use Rattle.std.proofs.Math.Nat.{mod-eq_of_lt}

-- the closed sets, from number 1 on
unfoldable pub closed_sets : List ℕ
closed_sets = 2 ∷ 4 ∷ 8 ∷ 20 ∷ 32 ∷ 2112 ∷ 128 ∷ 256 ∷ 512 ∷ 3072 ∷ 2048 ∷ 4096 ∷ 8192 ∷ 16384 ∷ 32768 ∷ 65536 ∷ 131072 ∷ 262144 ∷ 524288 ∷ 1048576 ∷ 2637824 ∷ 4198400 ∷ 8388608 ∷ 16777216 ∷ 34111488 ∷ 67698688 ∷ 134217728 ∷ 268439552 ∷ 536870912 ∷ 154742504910672535436410880 ∷ 154742504910672536510169088 ∷ 154742504910672538657685504 ∷ 309485083608321372152922112 ∷ 17179869184 ∷ 2058951860840593524523020 ∷ 68719476736 ∷ 137438953472 ∷ 274877906944 ∷ 549755813888 ∷ 1099511627776 ∷ 1180591627314481070080 ∷ 4398046511104 ∷ 73786985090931228672 ∷ 17592186044416 ∷ 35184372088832 ∷ 70368744177664 ∷ 140737488355328 ∷ 281474976710656 ∷ 562949953421312 ∷ 1125899906842624 ∷ 2251799813685248 ∷ 4503599627370496 ∷ 9007199254740992 ∷ 18014398509481984 ∷ 36028797018963968 ∷ 72057594037927936 ∷ 144115188075855872 ∷ 288230376151711744 ∷ 576461027181330432 ∷ 1152921504606846976 ∷ 6917529027641081856 ∷ 4611686018427387904 ∷ 604472133179351442128928 ∷ 18446744073709551616 ∷ 1217485113537754824704 ∷ 73786976294838206464 ∷ 147573952589676412928 ∷ 1209221044081002192830476 ∷ 1209516196489781173026828 ∷ 1180591625115457814528 ∷ 2361183241434822606848 ∷ 4722366482869645213696 ∷ 9444732965739290427392 ∷ 1227815359855501607174156 ∷ 1246704897844574225956884 ∷ 680020773533228910772224 ∷ 831136500985057557610496 ∷ 303448940019394071756800 ∷ 604462909807314587353088 ∷ 1208925819614629174706180 ∷ 2417851639229258349414464 ∷ 314320786887910186805100544 ∷ 9671406556917033397649408 ∷ 19342813113834066795831296 ∷ 193428131138340667953520640 ∷ 232113757366008801543585792 ∷ 154742504910672534362390528 ∷ 309485009821345068724781056 ∷ 929059501597218955662983200 ∷ 1239148965104994904073830404 ∷ 2475880078570760549798248448 ∷ 4951760157141521099596496896 ∷ 9903520314283042199192993792 ∷ 19807040628566084398385987584 ∷ 39614081257132168796771975168 ∷ 79228162514264337593543950336 ∷ 158456325028528675187087900672 ∷ 316912650057057350374175801344 ∷ 633825300114114700748351602688 ∷ 1267650600228229401496703205376 ∷ []

-- how many steps lead from a helper down to those that depend on none
unfoldable ranks : List ℕ
ranks = 0 ∷ 0 ∷ 0 ∷ 1 ∷ 0 ∷ 1 ∷ 0 ∷ 0 ∷ 0 ∷ 1 ∷ 0 ∷ 0 ∷ 0 ∷ 0 ∷ 0 ∷ 0 ∷ 0 ∷ 0 ∷ 0 ∷ 0 ∷ 1 ∷ 1 ∷ 0 ∷ 0 ∷ 1 ∷ 1 ∷ 0 ∷ 1 ∷ 0 ∷ 1 ∷ 1 ∷ 1 ∷ 1 ∷ 0 ∷ 3 ∷ 0 ∷ 0 ∷ 0 ∷ 0 ∷ 0 ∷ 2 ∷ 0 ∷ 1 ∷ 0 ∷ 0 ∷ 0 ∷ 0 ∷ 0 ∷ 0 ∷ 0 ∷ 0 ∷ 0 ∷ 0 ∷ 0 ∷ 0 ∷ 0 ∷ 0 ∷ 0 ∷ 1 ∷ 0 ∷ 1 ∷ 0 ∷ 1 ∷ 0 ∷ 2 ∷ 0 ∷ 0 ∷ 2 ∷ 2 ∷ 1 ∷ 0 ∷ 0 ∷ 0 ∷ 2 ∷ 2 ∷ 1 ∷ 2 ∷ 3 ∷ 0 ∷ 1 ∷ 2 ∷ 2 ∷ 0 ∷ 1 ∷ 1 ∷ 1 ∷ 0 ∷ 0 ∷ 2 ∷ 2 ∷ 0 ∷ 0 ∷ 0 ∷ 0 ∷ 0 ∷ 0 ∷ 0 ∷ 0 ∷ 0 ∷ 0 ∷ []

abbrev pub closed : ℕ → ℕ
closed helper = get_or closed_sets (helper - 1) 0

abbrev rank : ℕ → ℕ
rank helper = get_or ranks (helper - 1) 0

-- what the closed sets of these helpers have
abbrev gathered : List ℕ → ℕ
gathered [] = 0
gathered (helper ∷ rest) = bit_or (closed helper) (gathered rest)

-- the other is a helper with a shorter way down
abbrev is_below : ℕ → ℕ → Bool
is_below helper other = nat_lt 0 other && nat_lt other 101 && nat_lt (rank other) (rank helper)

-- the closed set of a helper is the helper with the closed sets of those on which it depends, and these lie below it
abbrev is_step : ℕ → Bool
is_step helper = (closed helper == bit_or (2 ^ helper) (gathered (depends_on helper))) && list_all (is_below helper) (depends_on helper)

abbrev are_steps : ℕ → Bool
are_steps zero = true
are_steps (suc helper) = is_step (suc helper) && are_steps helper

table_steps : are_steps 100 ≡ true
unfolding table closed_sets ranks
table_steps = refl

step_at : (count helper : ℕ) → are_steps count ≡ true → 0 < helper → helper ≤ count → is_step helper ≡ true
step_at zero helper steps some within = absurd (omega arith)
step_at (suc count) helper steps some within =
    let (here, before) = and_parts (is_step (suc count)) (are_steps count) steps in
    elim (cases_eq helper (suc count)) [
      | inl last ↦ rw last here
      | inr other ↦ step_at count helper before some (omega arith)
    ]

Contains_cases : (first helper : ℕ) (rest : List ℕ) → Contains (first ∷ rest) helper → (first ≡ helper) ⊎ Contains rest helper
Contains_cases first helper rest (zero, within, is) = inl is
Contains_cases first helper rest (suc place, within, is) = inr (place, omega arith, is)

Contains-first : (first : ℕ) (rest : List ℕ) → Contains (first ∷ rest) first
Contains-first first rest = (0, omega arith, refl)

Contains-rest : (first helper : ℕ) (rest : List ℕ) → Contains rest helper → Contains (first ∷ rest) helper
Contains-rest first helper rest (place, within, is) = (suc place, omega arith, is)

gathered_cases : (helpers : List ℕ) (n : ℕ) → Holds (gathered helpers) n → (helper : ℕ) × Contains helpers helper × Holds (closed helper) n
gathered_cases [] n has = absurd (omega (arith, bit_at-zero n))
gathered_cases (helper ∷ rest) n has = elim (Holds-union_cases (closed helper) (gathered rest) n has) [
  | inl here ↦ (helper, Contains-first helper rest, here)
  | inr later ↦ let (other, among, there) = gathered_cases rest n later in (other, Contains-rest helper other rest among, there)
]

gathered_has : (helpers : List ℕ) (helper n : ℕ) → Contains helpers helper → Holds (closed helper) n → Holds (gathered helpers) n
gathered_has [] helper n (place, within, is) has = absurd (omega arith)
gathered_has (first ∷ rest) helper n among has = elim (Contains_cases first helper rest among) [
  | inl here ↦ Holds-union_left (closed first) (gathered rest) n (rw here has)
  | inr later ↦ Holds-union_right (closed first) (gathered rest) n (gathered_has rest helper n later has)
]

list_all-at : (test : ℕ → Bool) (helpers : List ℕ) (helper : ℕ) → list_all test helpers ≡ true → Contains helpers helper → test helper ≡ true
list_all-at test [] helper all (place, within, is) = absurd (omega arith)
list_all-at test (first ∷ rest) helper all among =
    let (here, later) = and_parts (test first) (list_all test rest) all in
    elim (Contains_cases first helper rest among) [
      | inl is ↦ rw (← is) here
      | inr there ↦ list_all-at test rest helper later there
    ]

closed_is : (helper : ℕ) → IsHelper helper → closed helper ≡ bit_or (2 ^ helper) (gathered (depends_on helper))
closed_is helper known =
    let step : is_step helper ≡ true = step_at 100 helper table_steps known.0 known.1 in
    let (same, below) = and_parts (closed helper == bit_or (2 ^ helper) (gathered (depends_on helper))) (list_all (is_below helper) (depends_on helper)) step in
    eqb-true _ _ same

record IsBelow (helper other : ℕ) : Type 0 where
  known : IsHelper other
  lower : rank other < rank helper

below_at : (helper other : ℕ) → IsHelper helper → DependsOn helper other → IsBelow helper other
below_at helper other known depends =
    let step : is_step helper ≡ true = step_at 100 helper table_steps known.0 known.1 in
    let (same, below) = and_parts (closed helper == bit_or (2 ^ helper) (gathered (depends_on helper))) (list_all (is_below helper) (depends_on helper)) step in
    let here : is_below helper other ≡ true = list_all-at (is_below helper) (depends_on helper) other below depends in
    let (inside, lower) = and_parts (nat_lt 0 other && nat_lt other 101) (nat_lt (rank other) (rank helper)) here in
    let (some, small) = and_parts (nat_lt 0 other) (nat_lt other 101) inside in
    let a : 0 < other = ltb-true _ _ some in
    let b : other < 101 = ltb-true _ _ small in
    record { known = (omega arith, omega arith); lower = ltb-true _ _ lower }

-- a closed set has its helper
closed_has_itself : (helper : ℕ) → IsHelper helper → Holds (closed helper) helper
closed_has_itself helper known = rw (closed_is helper known) (Holds-union_left (2 ^ helper) (gathered (depends_on helper)) helper (bit_at-pow_same helper))

-- what a closed set has is the helper, or in the closed set of one on which it depends
closed_cases : (helper n : ℕ) → IsHelper helper → Holds (closed helper) n → (n ≡ helper) ⊎ ((other : ℕ) × DependsOn helper other × Holds (closed other) n)
closed_cases helper n known has =
    elim (Holds-union_cases (2 ^ helper) (gathered (depends_on helper)) n (rw (closed_is helper known) at has)) [
      | inl itself ↦ elim (cases_eq n helper) [
        | inl same ↦ inl same
        | inr other ↦ absurd (omega (arith, bit_at-pow_other helper n other))
      ]
      | inr through ↦ inr (gathered_cases (depends_on helper) n through)
    ]

closed_has : (helper other n : ℕ) → IsHelper helper → DependsOn helper other → Holds (closed other) n → Holds (closed helper) n
closed_has helper other n known depends has =
    rw (closed_is helper known) (Holds-union_right (2 ^ helper) (gathered (depends_on helper)) n (gathered_has (depends_on helper) other n depends has))

-- each closed set with the helper has what its closed set has
in_closure : (fuel helper n : ℕ) → rank helper < fuel → IsHelper helper → Holds (closed helper) n → InClosure helper n
in_closure zero helper n within known has set is_closed has_helper = absurd (omega arith)
in_closure (suc fuel) helper n within known has set is_closed has_helper = elim (closed_cases helper n known has) [
  | inl itself ↦ rw itself has_helper
  | inr through ↦
      let (other, depends, there) = through in
      let below = below_at helper other known depends in
      let lower = below.lower in
      in_closure fuel other n (omega arith) below.known there set is_closed (is_closed helper other has_helper depends)
]

-- a closed set has with each helper those on which it depends
closed_is_closed : (fuel helper m d : ℕ) → rank helper < fuel → IsHelper helper → Holds (closed helper) m → DependsOn m d → Holds (closed helper) d
closed_is_closed zero helper m d within known has depends = absurd (omega arith)
closed_is_closed (suc fuel) helper m d within known has depends = elim (closed_cases helper m known has) [
  | inl itself ↦
      let from_helper : DependsOn helper d = rw (← itself) depends in
      let below = below_at helper d known from_helper in
      closed_has helper d d known from_helper (closed_has_itself d below.known)
  | inr through ↦
      let (other, leads, there) = through in
      let below = below_at helper other known leads in
      let lower = below.lower in
      closed_has helper other d known leads (closed_is_closed fuel other m d (omega arith) below.known there depends)
]

-- the closed set of a helper is its closure
pub closed_is_closure : (helper : ℕ) → IsHelper helper → (n : ℕ) → Holds (closed helper) n ↔ InClosure helper n
closed_is_closure helper known n = (
  in_closure (suc (rank helper)) helper n (omega arith) known,
  λ in_all. eqb-true _ _ (in_all (λ m. bit_at (closed helper) m == 1)
      (λ m d has depends. eq-eqb _ _ (closed_is_closed (suc (rank helper)) helper m d (omega arith) known (eqb-true _ _ has) depends))
      (eq-eqb _ _ (closed_has_itself helper known))),
)

two_powers : (helper n : ℕ) → Holds (2 ^ helper) n ↔ (n ≡ helper)
two_powers helper n = (
  λ has. elim (cases_eq n helper) [ inl same ↦ same | inr other ↦ absurd (omega (arith, bit_at-pow_other helper n other)) ],
  λ same. rw same (bit_at-pow_same helper),
)

fits : (helper : ℕ) → IsHelper helper → 1 * 2 ^ helper % 2 ^ 128 ≡ 2 ^ helper
fits helper known =
    let small : 2 ^ helper < 2 ^ 128 = pow-lt {i = helper} {j = 128} (omega arith) in
    let one : 1 * 2 ^ helper ≡ 2 ^ helper = omega arith in
    ap (λ n. n % 2 ^ 128) one ∙ mod-eq_of_lt small

-- the set of one helper, as a shift makes it
pub alone_has : (helper : ℕ) → IsHelper helper → (n : ℕ) → Holds (1 * 2 ^ helper % 2 ^ 128) n ↔ (n ≡ helper)
alone_has helper known n = rw (fits helper known) (two_powers helper n)
