-- Ids, each once.
use Rattle.std.proofs.Common.{◌≡◌, ℕ, Bool, true, false, ◌&&◌, ◌||◌, Some, None, List, [], ◌∷◌, ◌++◌, bytes_eq, refl, sym, ap, ◌∙◌, append-nil}
use Rattle.std.specs.Prelude.{nat_eq, unwrap_or, if◌then◌else◌}
use Rattle.std.specs.BTreeMap.{get_by_text}
use Rattle.std.proofs.lemmas.Slice.Eq.{bytes_eq-Decides}
use Rattle.std.specs.Cmp.Lexicographic.{pointwise}
use Rattle.std.proofs.lemmas.Cmp.{nat_list_eq_equiv}
use Rattle.std.specs.List.{list_any}
use Rattle.swc_base_rename_substitution.specs.Names.{Id, same_id}
use Rattle.swc_base_rename_substitution.specs.Exports.{Seen, contexts_of, has_seen, without, distinct, with_one_more}

both_left : (a b : Bool) → (a && b) ≡ true → a ≡ true
both_left true b h = refl
both_left false b h = h

both_right : (a b : Bool) → (a && b) ≡ true → b ≡ true
both_right true b h = h
both_right false b h = absurd (cc)

same_symm : (x y : Id) → same_id x y ≡ same_id y x
same_symm x y =
    ap (λ b. b && pointwise nat_eq x.1 y.1) (nat_list_eq_equiv.symm x.0 y.0)
    ∙ ap (λ b. pointwise nat_eq y.0 x.0 && b) (nat_list_eq_equiv.symm x.1 y.1)

same_congr : (x y z : Id) → same_id x y ≡ true → same_id x z ≡ same_id y z
same_congr x y z h =
    ap (λ b. b && pointwise nat_eq x.1 z.1) (nat_list_eq_equiv.congr x.0 y.0 z.0 (both_left _ _ h))
    ∙ ap (λ b. pointwise nat_eq y.0 z.0 && b) (nat_list_eq_equiv.congr x.1 y.1 z.1 (both_right _ _ h))

any_step : (x y z : Id) (l : List Id) (b : Bool) → same_id z y ≡ b → same_id x y ≡ false → list_any (same_id x) (without y l) ≡ list_any (same_id x) l
    → list_any (same_id x) (if b then without y l else z ∷ without y l) ≡ (same_id x z || list_any (same_id x) l)
any_step x y z l true e h r =
    let apart : same_id x z ≡ false = same_symm x z ∙ same_congr z y x e ∙ same_symm y x ∙ h in
    r ∙ ap (λ b. b || list_any (same_id x) l) (sym apart)
any_step x y z l false e h r = ap (λ b. same_id x z || b) r

any_without : (x y : Id) (l : List Id) → same_id x y ≡ false → list_any (same_id x) (without y l) ≡ list_any (same_id x) l
any_without x y [] h = refl
any_without x y (z ∷ l) h = any_step x y z l (same_id z y) refl h (any_without x y l h)

without_end : (x y : Id) (l : List Id) → without y (l ++ x ∷ []) ≡ without y l ++ (if same_id x y then [] else x ∷ [])
without_end x y [] = refl
without_end x y (z ∷ l) = without_step (same_id z y) (without_end x y l)
  where
    without_step : (b : Bool) → without y (l ++ x ∷ []) ≡ without y l ++ (if same_id x y then [] else x ∷ [])
        → (if b then without y (l ++ x ∷ []) else z ∷ without y (l ++ x ∷ [])) ≡ (if b then without y l else z ∷ without y l) ++ (if same_id x y then [] else x ∷ [])
    without_step true r = r
    without_step false r = ap (λ l. z ∷ l) r

choice : Id → Id → List Id → Bool → List Id
choice x y l b = if b then y ∷ without y l else y ∷ (without y l ++ x ∷ [])

added_is : (x y : Id) (l : List Id) (b c : Bool) → list_any (same_id x) (without y l) ≡ b → same_id x y ≡ c → with_one_more x (y ∷ without y l) ≡ choice x y l (c || b)
unfolding choice
added_is x y l b c g h = ap (λ d. choice x y l (d || list_any (same_id x) (without y l))) h ∙ ap (λ d. choice x y l (c || d)) g

added_under : (x y : Id) (l : List Id) (b c : Bool) → list_any (same_id x) l ≡ b → same_id x y ≡ c → y ∷ without y (if b then l else l ++ x ∷ []) ≡ with_one_more x (y ∷ without y l)
unfolding choice
added_under x y l true true g h = sym (added_is x y l _ true refl h)
added_under x y l false true g h =
    ap (λ l. y ∷ l) (without_end x y l ∙ ap (λ b. without y l ++ (if b then [] else x ∷ [])) h ∙ append-nil (without y l)) ∙ sym (added_is x y l _ true refl h)
added_under x y l true false g h = sym (added_is x y l true false (any_without x y l h ∙ g) h)
added_under x y l false false g h =
    ap (λ l. y ∷ l) (without_end x y l ∙ ap (λ b. without y l ++ (if b then [] else x ∷ [])) h) ∙ sym (added_is x y l false false (any_without x y l h ∙ g) h)

distinct_end : (x : Id) (xs : List Id) → distinct (xs ++ x ∷ []) ≡ with_one_more x (distinct xs)
distinct_end x [] = refl
distinct_end x (y ∷ xs) = ap (λ l. y ∷ without y l) (distinct_end x xs) ∙ added_under x y (distinct xs) _ _ refl refl

pub one_more : (kept now xs : List Id) (x : Id) → kept ≡ distinct xs → now ≡ with_one_more x kept → now ≡ distinct (xs ++ x ∷ [])
one_more kept now xs x e n = n ∙ ap (with_one_more x) e ∙ sym (distinct_end x xs)

more_in : (b : Bool) (x y : Id) (xs : List Id) → same_id x y ≡ b → (if b then true else list_any (same_id x) xs) ≡ list_any (same_id x) (xs ++ y ∷ [])
more_in true x y [] e = sym (ap (λ b. b || false) e)
more_in false x y [] e = sym (ap (λ b. b || false) e)
more_in b x y (z ∷ xs) e = more_step b (same_id x z) (more_in b x y xs e)
  where
    more_step : (b c : Bool) → (if b then true else list_any (same_id x) xs) ≡ list_any (same_id x) (xs ++ y ∷ []) → (if b then true else (c || list_any (same_id x) xs)) ≡ (c || list_any (same_id x) (xs ++ y ∷ []))
    more_step true true r = refl
    more_step true false r = r
    more_step false true r = refl
    more_step false false r = r

-- a hashed set of the ids has one more
pub one_more_seen : (before after : Id → Bool) (xs now : List Id) (y copy : Id) → copy ≡ y → now ≡ xs ++ y ∷ [] → ((x : Id) → before x ≡ list_any (same_id x) xs) → ((x : Id) → after x ≡ (if same_id copy x then true else before x))
    → (x : Id) → after x ≡ list_any (same_id x) now
one_more_seen before after xs now y copy e n h g x =
    g x ∙ ap (λ b. if same_id copy x then true else b) (h x) ∙ ap (λ b. if b then true else list_any (same_id x) xs) (ap (λ c. same_id c x) e ∙ same_symm y x) ∙ more_in (same_id x y) x y xs refl ∙ ap (list_any (same_id x)) (sym n)

any_end : (p : List ℕ → Bool) (xs : List (List ℕ)) (y : List ℕ) → list_any p (xs ++ y ∷ []) ≡ (if p y then true else list_any p xs)
any_end p [] y = last (p y)
  where
    last : (b : Bool) → (b || false) ≡ (if b then true else false)
    last true = refl
    last false = refl
any_end p (x ∷ xs) y = ap (λ b. p x || b) (any_end p xs y) ∙ moved (p x) (p y)
  where
    moved : (a b : Bool) → (a || (if b then true else list_any p xs)) ≡ (if b then true else (a || list_any p xs))
    moved true true = refl
    moved true false = refl
    moved false b = refl

-- a table of the contexts of each text has one id more
pub one_seen : (before left after : Seen) (y : Id) (contexts more : List (List ℕ)) (x : Id) → contexts ≡ contexts_of before y.0 → more ≡ contexts ++ y.1 ∷ []
    → get_by_text left x.0 ≡ (if bytes_eq y.0 x.0 then None else get_by_text before x.0) → get_by_text after x.0 ≡ (if bytes_eq y.0 x.0 then Some more else get_by_text left x.0)
    → has_seen after x ≡ (if same_id y x then true else has_seen before x)
one_seen before left after y contexts more x taken pushed removed put = at (bytes_eq y.0 x.0) refl
  where
    at : (b : Bool) → bytes_eq y.0 x.0 ≡ b → has_seen after x ≡ (if same_id y x then true else has_seen before x)
    at true e =
        let same : y.0 ≡ x.0 = (bytes_eq-Decides y.0 x.0).0 e in
        let there : get_by_text after x.0 ≡ Some more = put ∙ ap (λ b. if b then Some more else get_by_text left x.0) e in
        let all : more ≡ contexts_of before x.0 ++ y.1 ∷ [] = pushed ∙ ap (λ l. l ++ y.1 ∷ []) (taken ∙ ap (contexts_of before) same) in
        ap (λ o. list_any (λ context. pointwise nat_eq context x.1) (unwrap_or o [])) there
        ∙ ap (list_any (λ context. pointwise nat_eq context x.1)) all
        ∙ any_end (λ context. pointwise nat_eq context x.1) (contexts_of before x.0) y.1
        ∙ ap (λ b. if b && pointwise nat_eq y.1 x.1 then true else has_seen before x) (sym e)
    at false e =
        let gone : get_by_text after x.0 ≡ get_by_text before x.0 = put ∙ ap (λ b. if b then Some more else get_by_text left x.0) e ∙ removed ∙ ap (λ b. if b then None else get_by_text before x.0) e in
        ap (λ o. list_any (λ context. pointwise nat_eq context x.1) (unwrap_or o [])) gone ∙ ap (λ b. if b && pointwise nat_eq y.1 x.1 then true else has_seen before x) (sym e)
