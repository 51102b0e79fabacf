-- Lists that are made one element after another.
use Rattle.std.proofs.Common.{◌≡◌, ◌↔◌, ℕ, ◌+◌, ◌-◌, ◌<◌, ◌≤◌, List, [], ◌∷◌, ◌++◌, Contains, inl, inr, length, map, take, drop, get_or, sym, ap, subst, ◌∙◌, arith}
use Rattle.std.specs.List.{All, flat_map}
use Rattle.std.proofs.lemmas.Bool.{cases_lt}
use Rattle.std.proofs.lemmas.List.{append_assoc, append-nil, drop_all, drop_more, get_or_default, map-append, take_all, take_more}
use Rattle.std.proofs.lemmas.List.Elements.{Contains-append_left, Contains-push, Contains-push_cases}
use Rattle.std.proofs.lemmas.List.Sorted.{Contains-permutation, IsPermutation-sym}
use Rattle.std.specs.List.Sorted.{IsPermutation}
use Rattle.swc_tree_marks.specs.Globals.{IsTable, Table, numbers}
use Rattle.swc_tree_walk.specs.declared.identifiers.Site.{Site}
use Rattle.swc_tree_walk.specs.Sites.{site_of}
use Rattle.mucwathi_signs.specs.declared.sign.Sign.{Sign}
use Rattle.mucwathi_looks.specs.Given.{HasMarks, end_of}

-- one mark more
pub put_more : (old now new : List ℕ) (marks : List ℕ) (i m : ℕ) → i < length marks → now ≡ old ++ take i marks → m ≡ get_or marks i 0 → new ≡ now ++ m ∷ [] → new ≡ old ++ take (i + 1) marks
put_more old now new marks i m within was is made =
    made ∙ ap (λ l. l ++ m ∷ []) was ∙ append_assoc old (take i marks) (m ∷ []) ∙ ap (λ x. old ++ (take i marks ++ x ∷ [])) is ∙ ap (λ l. old ++ l) (sym (take_more marks i 0 within))

pub all_put : (old now marks : List ℕ) (i : ℕ) → length marks ≤ i → now ≡ old ++ take i marks → now ≡ old ++ marks
all_put old now marks i none was = was ∙ ap (λ l. old ++ l) (take_all i marks none)

-- one place more
pub end_more : (found : List Site) (i : ℕ) (d : Site) (places now : List ℕ) (place : ℕ) → i < length found → place ≡ end_of (site_of (get_or found i d)) → now ≡ places ++ place ∷ []
    → now ++ map end_of (map site_of (drop (i + 1) found)) ≡ places ++ map end_of (map site_of (drop i found))
end_more found i d places now place within is made =
    let rest = map end_of (map site_of (drop (i + 1) found)) in
    ap (λ l. l ++ rest) made ∙ append_assoc places (place ∷ []) rest ∙ ap (λ x. places ++ x ∷ rest) is ∙ ap (λ l. places ++ map end_of (map site_of l)) (sym (drop_more found i d within))

pub ends_done : (found : List Site) (i : ℕ) (places : List ℕ) → length found ≤ i → places ≡ places ++ map end_of (map site_of (drop i found))
ends_done found i places none = sym (append-nil places) ∙ ap (λ l. places ++ map end_of (map site_of l)) (sym (drop_all i found none))

-- one sign more behind the others
pub rise_more : (ss : List Sign) (i : ℕ) → 1 ≤ i → i < length ss → ((d : Sign) → (get_or ss (i - 1) d).at < (get_or ss i d).at) → ((a b : ℕ) (d : Sign) → a < b → b < i → (get_or ss a d).at < (get_or ss b d).at)
    → (a b : ℕ) (d : Sign) → a < b → b < i + 1 → (get_or ss a d).at < (get_or ss b d).at
rise_more ss i some within last before a b d less below =
    elim (cases_lt b i) [
      | inl front ↦ before a b d less front
      | inr back ↦
          let same : b ≡ i = omega arith in
          let at_last = last d in
          subst (λ n. (get_or ss a d).at < (get_or ss n d).at) (sym same)
          (elim (cases_lt a (i - 1)) [
            | inl far ↦ let on : (get_or ss a d).at < (get_or ss (i - 1) d).at = before a (i - 1) d far (omega arith) in omega arith
            | inr near ↦ let there : a ≡ i - 1 = omega arith in subst (λ n. (get_or ss n d).at < (get_or ss i d).at) (sym there) at_last
          ])
    ]

-- the marks of one sign more
pub marks_more : (ss : List Sign) (i : ℕ) (d : Sign) (old now new : List ℕ) → i < length ss → now ++ flat_map (λ s. s.marks.items) (drop i ss) ≡ old ++ flat_map (λ s. s.marks.items) ss → new ≡ now ++ (get_or ss i d).marks.items
    → new ++ flat_map (λ s. s.marks.items) (drop (i + 1) ss) ≡ old ++ flat_map (λ s. s.marks.items) ss
marks_more ss i d old now new within was made =
    let rest = flat_map (λ s. s.marks.items) (drop (i + 1) ss) in
    ap (λ l. l ++ rest) made ∙ append_assoc now (get_or ss i d).marks.items rest ∙ ap (λ l. now ++ flat_map (λ s. s.marks.items) l) (sym (drop_more ss i d within)) ∙ was

pub marks_done : (ss : List Sign) (i : ℕ) (old now : List ℕ) → length ss ≤ i → now ++ flat_map (λ s. s.marks.items) (drop i ss) ≡ old ++ flat_map (λ s. s.marks.items) ss → now ≡ old ++ flat_map (λ s. s.marks.items) ss
marks_done ss i old now none was = sym (append-nil now) ∙ ap (λ l. now ++ flat_map (λ s. s.marks.items) l) (sym (drop_all i ss none)) ∙ was

-- the same elements, one more on both sides
both_more : (xs ys : List ℕ) (x : ℕ) → ((m : ℕ) → Contains xs m ↔ Contains ys m) → (m : ℕ) → Contains (xs ++ x ∷ []) m ↔ Contains (ys ++ x ∷ []) m
both_more xs ys x same m = (
  λ here. elim (Contains-push_cases xs x m here) [ inl front ↦ Contains-append_left ys (x ∷ []) m ((same m).0 front) | inr is ↦ subst (λ n. Contains (ys ++ x ∷ []) n) is (Contains-push ys x) ],
  λ there. elim (Contains-push_cases ys x m there) [ inl front ↦ Contains-append_left xs (x ∷ []) m ((same m).1 front) | inr is ↦ subst (λ n. Contains (xs ++ x ∷ []) n) is (Contains-push xs x) ],
)

pub row_more : (rows made : Table) (marks : List ℕ) (i m : ℕ) → i < length marks → m ≡ get_or marks i 0 → made ≡ rows ++ (m, 0) ∷ [] → ((n : ℕ) → Contains (numbers rows) n ↔ Contains (take i marks) n)
    → (n : ℕ) → Contains (numbers made) n ↔ Contains (take (i + 1) marks) n
row_more rows made marks i m within is new same n =
    let added : numbers made ≡ numbers rows ++ get_or marks i 0 ∷ [] = ap numbers new ∙ map-append (λ row. row.0) rows ((m, 0) ∷ []) ∙ ap (λ x. numbers rows ++ x ∷ []) is in
    let more : Contains (numbers rows ++ get_or marks i 0 ∷ []) n ↔ Contains (take i marks ++ get_or marks i 0 ∷ []) n = both_more (numbers rows) (take i marks) (get_or marks i 0) same n in
    let so : Contains (numbers made) n ↔ Contains (take i marks ++ get_or marks i 0 ∷ []) n = subst (λ l. Contains l n ↔ Contains (take i marks ++ get_or marks i 0 ∷ []) n) (sym added) more in
    subst (λ l. Contains (numbers made) n ↔ Contains l n) (sym (take_more marks i 0 within)) so

-- one that is there already
taken_last : (marks : List ℕ) (i : ℕ) → 0 < i → i < length marks → get_or marks (i - 1) 0 ≡ get_or marks i 0 → Contains (take i marks) (get_or marks i 0)
taken_last marks i some within same =
    let on : i ≡ i - 1 + 1 = omega arith in
    subst (λ k. Contains (take k marks) (get_or marks i 0)) (sym on)
    (subst (λ l. Contains l (get_or marks i 0)) (sym (take_more marks (i - 1) 0 (omega arith))) (subst (λ x. Contains (take (i - 1) marks ++ get_or marks (i - 1) 0 ∷ []) x) same (Contains-push (take (i - 1) marks) (get_or marks (i - 1) 0))))

pub row_again : (rows : Table) (marks : List ℕ) (i : ℕ) → 0 < i → i < length marks → get_or marks (i - 1) 0 ≡ get_or marks i 0 → ((n : ℕ) → Contains (numbers rows) n ↔ Contains (take i marks) n)
    → (n : ℕ) → Contains (numbers rows) n ↔ Contains (take (i + 1) marks) n
row_again rows marks i some within again same n =
    let next = take_more marks i 0 within in (
      λ here. subst (λ l. Contains l n) (sym next) (Contains-append_left (take i marks) (get_or marks i 0 ∷ []) n ((same n).0 here)),
      λ there. elim (Contains-push_cases (take i marks) (get_or marks i 0) n (subst (λ l. Contains l n) next there)) [
        | inl front ↦ (same n).1 front
        | inr is ↦ (same n).1 (subst (λ x. Contains (take i marks) x) is (taken_last marks i some within again))
      ],
    )

-- a table of these rows has these marks
pub has_marks : (ms sorted : List ℕ) (rows table : Table) → IsPermutation ms sorted → All (λ row. row.1 ≡ 0) rows → ((m : ℕ) → Contains (numbers rows) m ↔ Contains sorted m) → table ≡ rows → IsTable rows → HasMarks ms table
has_marks ms sorted rows table moved below same is rises =
    subst (HasMarks ms) (sym is)
    (record {
      rising = rises;
      below_root = below;
      marks = λ m. (
        λ here. Contains-permutation sorted ms m (IsPermutation-sym ms sorted moved) ((same m).0 here),
        λ there. (same m).1 (Contains-permutation ms sorted m moved there),
      );
    })

-- the two marks that a text is resolved with
pub two_put : (a b : ℕ) (none one two : List ℕ) → none ≡ [] → one ≡ none ++ a ∷ [] → two ≡ one ++ b ∷ [] → a ≡ 1 → b ≡ 2 → two ≡ 1 ∷ 2 ∷ []
two_put a b none one two is first second x y = second ∙ ap (λ l. l ++ b ∷ []) (first ∙ ap (λ l. l ++ a ∷ []) is) ∙ ap (λ n. n ∷ b ∷ []) x ∙ ap (λ n. 1 ∷ n ∷ []) y

-- whatever stands where there is no sign
pub rise_by : (ss : List Sign) (i : ℕ) (d e : Sign) → 1 ≤ i → i < length ss → (get_or ss (i - 1) d).at < (get_or ss i e).at → (f : Sign) → (get_or ss (i - 1) f).at < (get_or ss i f).at
rise_by ss i d e some within less f =
    let one = ap (λ (s : Sign). s.at) (get_or_default ss (i - 1) d f (omega arith)) in
    let other = ap (λ (s : Sign). s.at) (get_or_default ss i e f within) in
    omega (arith, one, other, less)

pub behind_more : (places : List ℕ) (ss : List Sign) (i : ℕ) (e : Sign) → i < length ss → Contains places (get_or ss i e).at → ((k : ℕ) (d : Sign) → k < i → Contains places (get_or ss k d).at)
    → (k : ℕ) (d : Sign) → k < i + 1 → Contains places (get_or ss k d).at
behind_more places ss i e within here before k d below =
    elim (cases_lt k i) [
      | inl less ↦ before k d less
      | inr no_less ↦ let same : k ≡ i = omega arith in subst (λ n. Contains places (get_or ss n d).at) (sym same) (subst (λ (s : Sign). Contains places s.at) (get_or_default ss i e d within) here)
    ]
