-- Places in two lists.
use Rattle.std.proofs.Common.{◌≡◌, ◌↔◌, ℕ, zero, suc, ◌+◌, ◌^◌, ◌<◌, ◌≤◌, ◌&&◌, Bool, true, false, List, [], ◌∷◌, ◌++◌, Result, Ok, Err, IsTrue, Contains, inl, inr, length, map, drop, get_or, if◌then◌else◌, refl, sym, ap, ◌∙◌, arith}
use Rattle.std.proofs.lemmas.Bool.{cases_lt}
use Rattle.std.proofs.lemmas.List.{append_assoc, append-nil, drop_more, drop_all, get_or_default}
use Rattle.std.proofs.lemmas.List.Sorted.{Contains-permutation, IsPermutation-sym, searched}
use Rattle.std.specs.List.Sorted.{IsBinarySearchResult, IsNonDecreasing}
use Rattle.std.specs.Ordering.{nat_cmp}
use Rattle.std.specs.Result.{is_ok}
use Rattle.text_commented.specs.Places.{line_behind, places, places_from}
use Rattle.text_commented.specs.Sites.{IsFirst, IsFirstBegun, IsLast, IsLastBegun, IsLastStop, IsSites, leads_in, trails_in}
use Rattle.text_commented.specs.declared.remark.At.{At}
use Rattle.text_commented.specs.declared.remark.At.TheVariants as stand
use Rattle.text_commented.specs.declared.sites.Sites.{Sites}
use Rattle.text_pieces.specs.declared.piece.Piece as code
use Rattle.text_pieces.specs.Tokens.{Piece, piece_view}

-- what a binary search says
pub found_among : (xs : List ℕ) (x : ℕ) (r : Result ℕ ℕ) → IsBinarySearchResult (λ y. nat_cmp y x) xs r → IsNonDecreasing xs → IsTrue (is_ok r) ↔ Contains xs x
found_among xs x (Ok i) position rise =
    let here = searched xs x (Ok i) position (λ i j le within. rise i j 0 le within) in
    (λ found. (i, here.0, get_or_default xs i x 0 here.0 ∙ here.1), λ among. refl)
found_among xs x (Err i) position rise = (
  λ found. cc,
  λ among.
      let (k, within, is) = among in
      let same : get_or xs k 0 ≡ x = get_or_default xs k 0 x within ∙ is in
      let around = searched xs x (Err i) position (λ i j le within. rise i j 0 le within) in
      elim (cases_lt k i) [
        | inl before ↦ let below = around.1 k before in absurd (omega arith)
        | inr after ↦ let above = around.2 k after within in absurd (omega arith)
      ],
)

-- the number that is looked for is the last, and the first
pub last_found : (xs : List ℕ) (limit i : ℕ) → IsBinarySearchResult (λ y. nat_cmp y limit) xs (Ok i) → IsNonDecreasing xs → IsLast xs limit limit
last_found xs limit i position rise = (omega arith, (found_among xs limit (Ok i) position rise).0 refl, λ m above within among. absurd (omega arith))

pub first_found : (xs : List ℕ) (limit i : ℕ) → IsBinarySearchResult (λ y. nat_cmp y limit) xs (Ok i) → IsNonDecreasing xs → IsFirst xs limit limit
first_found xs limit i position rise = (omega arith, (found_among xs limit (Ok i) position rise).0 refl, λ m above within among. absurd (omega arith))

-- the one before the place where it would be, and the one there
pub last_before : (xs : List ℕ) (limit i j n : ℕ) → IsBinarySearchResult (λ y. nat_cmp y limit) xs (Err i) → i ≡ j + 1 → i ≤ length xs → n ≡ get_or xs j 0 → IsNonDecreasing xs → IsLast xs limit n
last_before xs limit i j n position next within is rise =
    let around = searched xs limit (Err i) position (λ a b le inside. rise a b 0 le inside) in
    let below : get_or xs j 0 < limit = around.1 j (omega arith) in (
      omega arith,
      (j, omega arith, get_or_default xs j n 0 (omega arith) ∙ sym is),
      λ m above no_more among.
          let (k, inside, same) = among in
          let there : get_or xs k 0 ≡ m = get_or_default xs k 0 m inside ∙ same in
          elim (cases_lt k i) [
            | inl before ↦ let up : get_or xs k 0 ≤ get_or xs j 0 = rise k j 0 (omega arith) (omega arith) in absurd (omega arith)
            | inr after ↦ let over : limit < get_or xs k 0 = around.2 k after inside in absurd (omega arith)
          ],
    )

pub first_behind : (xs : List ℕ) (limit i n : ℕ) → IsBinarySearchResult (λ y. nat_cmp y limit) xs (Err i) → i < length xs → n ≡ get_or xs i 0 → IsNonDecreasing xs → IsFirst xs limit n
first_behind xs limit i n position within is rise =
    let around = searched xs limit (Err i) position (λ a b le inside. rise a b 0 le inside) in
    let above : limit < get_or xs i 0 = around.2 i (omega arith) within in (
      omega arith,
      (i, within, get_or_default xs i n 0 within ∙ sym is),
      λ m no_less below among.
          let (k, inside, same) = among in
          let there : get_or xs k 0 ≡ m = get_or_default xs k 0 m inside ∙ same in
          elim (cases_lt k i) [
            | inl before ↦ let under : get_or xs k 0 < limit = around.1 k before in absurd (omega arith)
            | inr after ↦ let up : get_or xs i 0 ≤ get_or xs k 0 = rise i k 0 after inside in absurd (omega arith)
          ],
    )

-- none is before the first place, and none behind the last
pub none_before : (xs : List ℕ) (limit i : ℕ) → IsBinarySearchResult (λ y. nat_cmp y limit) xs (Err i) → i ≡ 0 → IsNonDecreasing xs → (m : ℕ) → m ≤ limit → ¬ Contains xs m
none_before xs limit i position first rise m low among =
    let around = searched xs limit (Err i) position (λ a b le inside. rise a b 0 le inside) in
    let (k, inside, same) = among in
    let there : get_or xs k 0 ≡ m = get_or_default xs k 0 m inside ∙ same in
    let over : limit < get_or xs k 0 = around.2 k (omega arith) inside in
    absurd (omega arith)

pub none_behind : (xs : List ℕ) (limit i : ℕ) → IsBinarySearchResult (λ y. nat_cmp y limit) xs (Err i) → length xs ≤ i → IsNonDecreasing xs → (m : ℕ) → limit ≤ m → ¬ Contains xs m
none_behind xs limit i position last rise m high among =
    let around = searched xs limit (Err i) position (λ a b le inside. rise a b 0 le inside) in
    let (k, inside, same) = among in
    let there : get_or xs k 0 ≡ m = get_or_default xs k 0 m inside ∙ same in
    let under : get_or xs k 0 < limit = around.1 k (omega arith) in
    absurd (omega arith)

pub never : (b : Bool) → b ≡ true → b ≡ false → ⊥
never b holds fails = cc

-- nothing more
pub nothing_added : (xs : List ℕ) → xs ≡ xs ++ []
nothing_added xs = sym (append-nil xs)

-- the places of each list
not_both : (a b : ℕ) → stand.Trails a ≡ stand.Leads b → ⊥
not_both a b is = cc

leads_same : (a b : ℕ) → stand.Leads a ≡ stand.Leads b → a ≡ b
leads_same a b is = cc

trails_same : (a b : ℕ) → stand.Trails a ≡ stand.Trails b → a ≡ b
trails_same a b is = cc

leads_from : (all : List At) (p : ℕ) → Contains (leads_in all) p → Contains all (stand.Leads p)
leads_from [] p (k, within, is) = absurd (omega arith)
leads_from (stand.Leads q ∷ more) p (zero, within, is) = (zero, omega arith, ap stand.Leads is)
leads_from (stand.Leads q ∷ more) p (suc k, within, is) = let (j, inside, same) = leads_from more p (k, omega arith, is) in (suc j, omega arith, same)
leads_from (stand.Trails q ∷ more) p h = let (j, inside, same) = leads_from more p h in (suc j, omega arith, same)

leads_to : (all : List At) (p : ℕ) → Contains all (stand.Leads p) → Contains (leads_in all) p
leads_to [] p (k, within, is) = absurd (omega arith)
leads_to (stand.Leads q ∷ more) p (zero, within, is) = (zero, omega arith, leads_same q p is)
leads_to (stand.Leads q ∷ more) p (suc k, within, is) = let (j, inside, same) = leads_to more p (k, omega arith, is) in (suc j, omega arith, same)
leads_to (stand.Trails q ∷ more) p (zero, within, is) = absurd (not_both q p is)
leads_to (stand.Trails q ∷ more) p (suc k, within, is) = leads_to more p (k, omega arith, is)

trails_from : (all : List At) (p : ℕ) → Contains (trails_in all) p → Contains all (stand.Trails p)
trails_from [] p (k, within, is) = absurd (omega arith)
trails_from (stand.Trails q ∷ more) p (zero, within, is) = (zero, omega arith, ap stand.Trails is)
trails_from (stand.Trails q ∷ more) p (suc k, within, is) = let (j, inside, same) = trails_from more p (k, omega arith, is) in (suc j, omega arith, same)
trails_from (stand.Leads q ∷ more) p h = let (j, inside, same) = trails_from more p h in (suc j, omega arith, same)

trails_to : (all : List At) (p : ℕ) → Contains all (stand.Trails p) → Contains (trails_in all) p
trails_to [] p (k, within, is) = absurd (omega arith)
trails_to (stand.Trails q ∷ more) p (zero, within, is) = (zero, omega arith, trails_same q p is)
trails_to (stand.Trails q ∷ more) p (suc k, within, is) = let (j, inside, same) = trails_to more p (k, omega arith, is) in (suc j, omega arith, same)
trails_to (stand.Leads q ∷ more) p (zero, within, is) = absurd (not_both p q (sym is))
trails_to (stand.Leads q ∷ more) p (suc k, within, is) = trails_to more p (k, omega arith, is)

-- whether a place is in its list says whether it is one of them
pub has_leads : (s : Sites) (all : List At) (p : ℕ) (b : Bool) → IsSites s all → (IsNonDecreasing s.begun.items → IsTrue b ↔ Contains s.begun.items p) → IsTrue b ↔ Contains all (stand.Leads p)
has_leads s all p b are listed =
    let so = listed are.begun_rise in (
      λ yes. leads_from all p (Contains-permutation s.begun.items (leads_in all) p (IsPermutation-sym (leads_in all) s.begun.items are.begun) (so.0 yes)),
      λ among. so.1 (Contains-permutation (leads_in all) s.begun.items p are.begun (leads_to all p among)),
    )

pub has_trails : (s : Sites) (all : List At) (p : ℕ) (b : Bool) → IsSites s all → (IsNonDecreasing s.stopped.items → IsTrue b ↔ Contains s.stopped.items p) → IsTrue b ↔ Contains all (stand.Trails p)
has_trails s all p b are listed =
    let so = listed are.stopped_rise in (
      λ yes. trails_from all p (Contains-permutation s.stopped.items (trails_in all) p (IsPermutation-sym (trails_in all) s.stopped.items are.stopped) (so.0 yes)),
      λ among. so.1 (Contains-permutation (trails_in all) s.stopped.items p are.stopped (trails_to all p among)),
    )

pub last_stops : (s : Sites) (all : List At) (limit n : ℕ) → IsSites s all → (IsNonDecreasing s.stopped.items → IsLast s.stopped.items limit n) → 0 < n → IsLastStop all limit n
last_stops s all limit n are last some =
    let (within, here, none) = last are.stopped_rise in (
      some,
      within,
      trails_from all n (Contains-permutation s.stopped.items (trails_in all) n (IsPermutation-sym (trails_in all) s.stopped.items are.stopped) here),
      λ m above no_more among. none m above no_more (Contains-permutation (trails_in all) s.stopped.items m are.stopped (trails_to all m among)),
    )

pub last_begins : (s : Sites) (all : List At) (limit n : ℕ) → IsSites s all → (IsNonDecreasing s.begun.items → IsLast s.begun.items limit n) → 0 < n → IsLastBegun all limit n
last_begins s all limit n are last some =
    let (within, here, none) = last are.begun_rise in (
      some,
      within,
      leads_from all n (Contains-permutation s.begun.items (leads_in all) n (IsPermutation-sym (leads_in all) s.begun.items are.begun) here),
      λ m above no_more among. none m above no_more (Contains-permutation (leads_in all) s.begun.items m are.begun (leads_to all m among)),
    )

pub first_begins : (s : Sites) (all : List At) (limit n : ℕ) → IsSites s all → (IsNonDecreasing s.begun.items → IsFirst s.begun.items limit n) → n < 2 ^ 32 → IsFirstBegun all limit n
first_begins s all limit n are first fits =
    let (within, here, none) = first are.begun_rise in (
      within,
      fits,
      leads_from all n (Contains-permutation s.begun.items (leads_in all) n (IsPermutation-sym (leads_in all) s.begun.items are.begun) here),
      λ m no_less below among. none m no_less below (Contains-permutation (leads_in all) s.begun.items m are.begun (leads_to all m among)),
    )

-- where the lists have none, no node stops or begins
pub none_stops : (s : Sites) (all : List At) (limit : ℕ) → IsSites s all → (IsNonDecreasing s.stopped.items → (m : ℕ) → m ≤ limit → ¬ Contains s.stopped.items m) → (n : ℕ) → ¬ IsLastStop all limit n
none_stops s all limit are none n is = none are.stopped_rise n is.1 (Contains-permutation (trails_in all) s.stopped.items n are.stopped (trails_to all n is.2))

pub none_begins : (s : Sites) (all : List At) (limit : ℕ) → IsSites s all → (IsNonDecreasing s.begun.items → (m : ℕ) → m ≤ limit → ¬ Contains s.begun.items m) → (n : ℕ) → ¬ IsLastBegun all limit n
none_begins s all limit are none n is = none are.begun_rise n is.1 (Contains-permutation (leads_in all) s.begun.items n are.begun (leads_to all n is.2))

pub none_follows : (s : Sites) (all : List At) (limit : ℕ) → IsSites s all → (IsNonDecreasing s.begun.items → (m : ℕ) → limit ≤ m → ¬ Contains s.begun.items m) → (n : ℕ) → ¬ IsFirstBegun all limit n
none_follows s all limit are none n is = none are.begun_rise n is.0 (Contains-permutation (leads_in all) s.begun.items n are.begun (leads_to all n is.2))

-- nor where the one that they have is no place
pub stops_nowhere : (s : Sites) (all : List At) (limit place : ℕ) → IsSites s all → (IsNonDecreasing s.stopped.items → IsLast s.stopped.items limit place) → place ≡ 0 → (n : ℕ) → ¬ IsLastStop all limit n
stops_nowhere s all limit place are last nowhere n is =
    let some : 0 < n = is.0 in
    (last are.stopped_rise).2 n (omega arith) is.1 (Contains-permutation (trails_in all) s.stopped.items n are.stopped (trails_to all n is.2))

pub begins_nowhere : (s : Sites) (all : List At) (limit place : ℕ) → IsSites s all → (IsNonDecreasing s.begun.items → IsLast s.begun.items limit place) → place ≡ 0 → (n : ℕ) → ¬ IsLastBegun all limit n
begins_nowhere s all limit place are last nowhere n is =
    let some : 0 < n = is.0 in
    (last are.begun_rise).2 n (omega arith) is.1 (Contains-permutation (leads_in all) s.begun.items n are.begun (leads_to all n is.2))

pub follows_nowhere : (s : Sites) (all : List At) (limit place : ℕ) → IsSites s all → (IsNonDecreasing s.begun.items → IsFirst s.begun.items limit place) → 2 ^ 32 ≤ place → (n : ℕ) → ¬ IsFirstBegun all limit n
follows_nowhere s all limit place are first far n is =
    let fits : n < 2 ^ 32 = is.1 in
    (first are.begun_rise).2 n is.0 (omega arith) (Contains-permutation (leads_in all) s.begun.items n are.begun (leads_to all n is.2))

-- one piece more
leads_append : (xs ys : List At) → leads_in (xs ++ ys) ≡ leads_in xs ++ leads_in ys
leads_append [] ys = refl
leads_append (stand.Leads n ∷ xs) ys = ap (λ l. n ∷ l) (leads_append xs ys)
leads_append (stand.Trails n ∷ xs) ys = leads_append xs ys

trails_append : (xs ys : List At) → trails_in (xs ++ ys) ≡ trails_in xs ++ trails_in ys
trails_append [] ys = refl
trails_append (stand.Trails n ∷ xs) ys = ap (λ l. n ∷ l) (trails_append xs ys)
trails_append (stand.Leads n ∷ xs) ys = trails_append xs ys

places_cons : (tight line : Bool) (p : Piece) (ps all : List Piece) → all ≡ p ∷ ps
    → places_from tight line all ≡ (if tight && line_behind line p ps then [] else places p) ++ places_from tight (line_behind line p ps) ps
unfolding places_from
places_cons tight line p ps all e = rw e refl

places_drop : (tight line next over : Bool) (ps : List code.Piece) (i : ℕ) (d : code.Piece) → i < length ps → next ≡ line_behind line (piece_view (get_or ps i d)) (map piece_view (drop (i + 1) ps)) → over ≡ (tight && next)
    → places_from tight line (map piece_view (drop i ps)) ≡ (if over then [] else places (piece_view (get_or ps i d))) ++ places_from tight next (map piece_view (drop (i + 1) ps))
places_drop tight line next over ps i d within is so =
    let p = piece_view (get_or ps i d) in
    let rest = map piece_view (drop (i + 1) ps) in
    places_cons tight line p rest (map piece_view (drop i ps)) (ap (λ l. map piece_view l) (drop_more ps i d within))
    ∙ ap (λ b. (if tight && b then [] else places p) ++ places_from tight b rest) (sym is)
    ∙ ap (λ b. (if b then [] else places p) ++ places_from tight next rest) (sym so)

pub leads_more : (tight line next over : Bool) (ps after : List code.Piece) (i : ℕ) (d : code.Piece) (old new : List ℕ) → i < length ps → after ≡ drop (i + 1) ps → next ≡ line_behind line (piece_view (get_or ps i d)) (map piece_view after) → over ≡ (tight && next)
    → new ≡ old ++ leads_in (if over then [] else places (piece_view (get_or ps i d)))
    → new ++ leads_in (places_from tight next (map piece_view (drop (i + 1) ps))) ≡ old ++ leads_in (places_from tight line (map piece_view (drop i ps)))
leads_more tight line next over ps after i d old new within slice is so added =
    let here = if over then [] else places (piece_view (get_or ps i d)) in
    let rest = places_from tight next (map piece_view (drop (i + 1) ps)) in
    let behind : next ≡ line_behind line (piece_view (get_or ps i d)) (map piece_view (drop (i + 1) ps)) = is ∙ ap (λ l. line_behind line (piece_view (get_or ps i d)) (map piece_view l)) slice in
    ap (λ l. l ++ leads_in rest) added ∙ append_assoc old (leads_in here) (leads_in rest)
    ∙ ap (λ l. old ++ l) (sym (leads_append here rest) ∙ ap leads_in (sym (places_drop tight line next over ps i d within behind so)))

pub trails_more : (tight line next over : Bool) (ps after : List code.Piece) (i : ℕ) (d : code.Piece) (old new : List ℕ) → i < length ps → after ≡ drop (i + 1) ps → next ≡ line_behind line (piece_view (get_or ps i d)) (map piece_view after) → over ≡ (tight && next)
    → new ≡ old ++ trails_in (if over then [] else places (piece_view (get_or ps i d)))
    → new ++ trails_in (places_from tight next (map piece_view (drop (i + 1) ps))) ≡ old ++ trails_in (places_from tight line (map piece_view (drop i ps)))
trails_more tight line next over ps after i d old new within slice is so added =
    let here = if over then [] else places (piece_view (get_or ps i d)) in
    let rest = places_from tight next (map piece_view (drop (i + 1) ps)) in
    let behind : next ≡ line_behind line (piece_view (get_or ps i d)) (map piece_view (drop (i + 1) ps)) = is ∙ ap (λ l. line_behind line (piece_view (get_or ps i d)) (map piece_view l)) slice in
    ap (λ l. l ++ trails_in rest) added ∙ append_assoc old (trails_in here) (trails_in rest)
    ∙ ap (λ l. old ++ l) (sym (trails_append here rest) ∙ ap trails_in (sym (places_drop tight line next over ps i d within behind so)))

-- no piece is left
none_among : (tight line : Bool) (ps : List code.Piece) (i : ℕ) → length ps ≤ i → places_from tight line (map piece_view (drop i ps)) ≡ []
unfolding places_from
none_among tight line ps i none = rw (drop_all i ps none) refl

pub leads_all : (tight line : Bool) (ps : List code.Piece) (i : ℕ) (made whole : List ℕ) → length ps ≤ i → made ++ leads_in (places_from tight line (map piece_view (drop i ps))) ≡ whole → made ≡ whole
leads_all tight line ps i made whole none is = sym (append-nil made) ∙ ap (λ l. made ++ leads_in l) (sym (none_among tight line ps i none)) ∙ is

pub trails_all : (tight line : Bool) (ps : List code.Piece) (i : ℕ) (made whole : List ℕ) → length ps ≤ i → made ++ trails_in (places_from tight line (map piece_view (drop i ps))) ≡ whole → made ≡ whole
trails_all tight line ps i made whole none is = sym (append-nil made) ∙ ap (λ l. made ++ trails_in l) (sym (none_among tight line ps i none)) ∙ is
