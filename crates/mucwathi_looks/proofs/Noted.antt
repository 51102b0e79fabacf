-- One identifier more.
use Rattle.std.proofs.Common.{◌≡◌, ℕ, ◌+◌, ◌-◌, ◌<◌, ◌≤◌, Bool, true, false, IsTrue, ◌⊎◌, inl, inr, ⊎_elim, List, [], ◌∷◌, ◌++◌, Contains, map, take, length, get_or, refl, sym, ap, ◌∙◌, subst, Result, Ok, Err, OnOk}
use Rattle.std.proofs.lemmas.List.{append_assoc, map-append, take_all, take_more}
use Rattle.std.proofs.lemmas.List.Elements.{Contains-append_left, Contains-push, Contains-push_cases}
use Rattle.swc_tree_walk.specs.Sites.{site_of}
use Rattle.swc_tree_walk.specs.declared.identifiers.Site.{Site}
use Rattle.swc_tree_renaming.proofs.Core.{head_in, none_in, tail_in}
use Rattle.mucwathi_lists.specs.declared.lists.FreeName.{FreeName}
use Rattle.mucwathi_looks.specs.Names.{AddsName, AddsText, AreNamesOf, EachOnce, IsFirstUse, IsFreeAmong, Notes, Seen, Texts, has_text, is_free, name_text}

each_once_push : (xs : List (List ℕ)) (y : List ℕ) → EachOnce xs → ¬ Contains xs y → EachOnce (xs ++ y ∷ [])
each_once_push [] y once none = (none_in y, tt)
each_once_push (x ∷ xs) y once none = (again, each_once_push xs y once.1 (λ there. none (tail_in x y xs there)))
  where
    again : ¬ Contains (xs ++ y ∷ []) x
    again there = ⊎_elim (λ earlier. once.0 earlier) (λ same. none (subst (λ z. Contains (x ∷ xs) z) (sym same) (head_in x xs))) (Contains-push_cases xs y x there)

-- the names are those of the identifiers, and just their texts were seen
pub record HasSeen (ss : List Seen) (seen : Texts) (names : List FreeName) : Type 0 where
  pub are : AreNamesOf ss names
  pub kept : (x : List ℕ) → IsTrue (has_text seen x) → Contains (map name_text names) x
  pub listed : (x : List ℕ) → Contains (map name_text names) x → IsTrue (has_text seen x)

pub nothing_seen : (seen : Texts) → ((x : List ℕ) → IsTrue (has_text seen x) → ⊥) → HasSeen [] seen []
nothing_seen seen empty = record {
  are = record { sound = λ x there. absurd (none_in x there); complete = λ x h. absurd (none_in h.0 h.1); once = tt; first = λ n there. absurd (none_in n there) };
  kept = λ x h. absurd (empty x h);
  listed = λ x there. absurd (none_in x there);
}

before : (ss : List Seen) (y : Seen) (x : List ℕ) → IsFreeAmong ss x → IsFreeAmong (ss ++ y ∷ []) x
before ss y x h = (h.0, Contains-append_left ss (y ∷ []) h.0 h.1, h.2, h.3)

-- a first use stays one
later : (ss : List Seen) (y : Seen) (n : FreeName) → IsFirstUse ss n → IsFirstUse (ss ++ y ∷ []) n
later ss y n h = record {
  before = h.before;
  it = h.it;
  after = h.after ++ y ∷ [];
  whole = ap (λ (l : List Seen). l ++ y ∷ []) h.whole ∙ append_assoc h.before (h.it ∷ h.after) (y ∷ []);
  free = h.free;
  named = h.named;
  placed = h.placed;
  none_before = h.none_before;
}

-- one that is not free
skipped : (ss : List Seen) (y : Seen) (seen : Texts) (names : List FreeName) → is_free y ≡ false → HasSeen ss seen names → HasSeen (ss ++ y ∷ []) seen names
skipped ss y seen names bound h = record {
  are = record { sound = λ x there. before ss y x (h.are.sound x there); complete = complete; once = h.are.once; first = λ n there. later ss y n (h.are.first n there) };
  kept = h.kept;
  listed = h.listed;
}
  where
    complete : (x : List ℕ) → IsFreeAmong (ss ++ y ∷ []) x → Contains (map name_text names) x
    complete x (s, there, free, is) = ⊎_elim (λ earlier. h.are.complete x (s, earlier, free, is)) (λ same. absurd (not_free s same free)) (Contains-push_cases ss y s there)
      where
        not_free : (s : Seen) → y ≡ s → IsTrue (is_free s) → ⊥
        not_free s same free = never (is_free s) (ap is_free (sym same) ∙ bound) free
          where
            never : (b : Bool) → b ≡ false → IsTrue b → ⊥
            never true e f = absurd (cc)
            never false e f = absurd (cc)

added : (names : List FreeName) (n : FreeName) → map name_text (names ++ n ∷ []) ≡ map name_text names ++ name_text n ∷ []
added names n = map-append name_text names (n ∷ [])

-- one that is, whose text was seen
seen_again : (ss : List Seen) (y : Seen) (old new : Texts) (names : List FreeName) → IsTrue (has_text old y.1.sym) → AddsText y.1.sym old new → HasSeen ss old names → HasSeen (ss ++ y ∷ []) new names
seen_again ss y old new names has texts h = record {
  are = record { sound = λ x there. before ss y x (h.are.sound x there); complete = complete; once = h.are.once; first = λ n there. later ss y n (h.are.first n there) };
  kept = λ x is. ⊎_elim (λ earlier. h.kept x earlier) (λ same. subst (λ x. Contains (map name_text names) x) (sym same) (h.kept y.1.sym has)) ((texts x).0 is);
  listed = λ x there. (texts x).1 (inl (h.listed x there));
}
  where
    complete : (x : List ℕ) → IsFreeAmong (ss ++ y ∷ []) x → Contains (map name_text names) x
    complete x (s, there, f, is) = ⊎_elim (λ earlier. h.are.complete x (s, earlier, f, is)) (λ same. subst (λ x. Contains (map name_text names) x) (ap (λ (s : Seen). s.1.sym) same ∙ is) (h.kept y.1.sym has)) (Contains-push_cases ss y s there)

abbrev HasName : List FreeName → List ℕ → Type 0
HasName names x = Contains (map name_text names) x

unseen : (b : Bool) → b ≡ false → IsTrue b → ⊥
unseen true e has = absurd (cc)
unseen false e has = absurd (cc)

-- one that is, whose text is new
module _ (ss : List Seen) (y : Seen) (old new : Texts) (names : List FreeName) (n : FreeName) (free : IsTrue (is_free y)) (none : has_text old y.1.sym ≡ false) (text : name_text n ≡ y.1.sym) (placed : n.at ≡ y.1.span.lo - 1) (texts : AddsText y.1.sym old new) (h : HasSeen ss old names) where
  within : (x : List ℕ) → HasName names x → HasName (names ++ n ∷ []) x
  within x there = subst (λ l. Contains l x) (sym (added names n)) (Contains-append_left (map name_text names) (name_text n ∷ []) x there)

  last : HasName (names ++ n ∷ []) (name_text n)
  last = subst (λ l. Contains l (name_text n)) (sym (added names n)) (Contains-push (map name_text names) (name_text n))

  is_new : ¬ HasName names (name_text n)
  is_new there = unseen (has_text old y.1.sym) none (subst (λ x. IsTrue (has_text old x)) text (h.listed (name_text n) there))

  either : (x : List ℕ) → HasName (names ++ n ∷ []) x → HasName names x ⊎ (name_text n ≡ x)
  either x there = Contains-push_cases (map name_text names) (name_text n) x (subst (λ l. Contains l x) (added names n) there)

  sound : (x : List ℕ) → HasName (names ++ n ∷ []) x → IsFreeAmong (ss ++ y ∷ []) x
  sound x there = ⊎_elim (λ earlier. before ss y x (h.are.sound x earlier)) (λ same. (y, Contains-push ss y, free, sym text ∙ same)) (either x there)

  complete : (x : List ℕ) → IsFreeAmong (ss ++ y ∷ []) x → HasName (names ++ n ∷ []) x
  complete x (s, there, f, is) = ⊎_elim (λ earlier. within x (h.are.complete x (s, earlier, f, is))) (λ same. subst (HasName (names ++ n ∷ [])) (text ∙ ap (λ (s : Seen). s.1.sym) same ∙ is) last) (Contains-push_cases ss y s there)

  its_use : IsFirstUse (ss ++ y ∷ []) n
  its_use = record {
    before = ss;
    it = y;
    after = [];
    whole = refl;
    free = free;
    named = sym text;
    placed = placed;
    none_before = λ used. is_new (h.are.complete (name_text n) used);
  }

  first : (m : FreeName) → Contains (names ++ n ∷ []) m → IsFirstUse (ss ++ y ∷ []) m
  first m there = ⊎_elim (λ earlier. later ss y m (h.are.first m earlier)) (λ same. subst (IsFirstUse (ss ++ y ∷ [])) same its_use) (Contains-push_cases names n m there)

  seen_first : HasSeen (ss ++ y ∷ []) new (names ++ n ∷ [])
  seen_first = record {
    are = record { sound = sound; complete = complete; once = subst EachOnce (sym (added names n)) (each_once_push (map name_text names) (name_text n) h.are.once is_new); first = first };
    kept = λ x is. ⊎_elim (λ earlier. within x (h.kept x earlier)) (λ same. subst (HasName (names ++ n ∷ [])) (text ∙ sym same) last) ((texts x).0 is);
    listed = λ x there. ⊎_elim (λ earlier. (texts x).1 (inl (h.listed x earlier))) (λ same. (texts x).1 (inr (sym same ∙ text))) (either x there);
  }

pub seen_one : (ss : List Seen) (y : Seen) (old new : Texts) (names others : List FreeName) → IsTrue (is_free y) → AddsName y old names others → AddsText y.1.sym old new → HasSeen ss old names → HasSeen (ss ++ y ∷ []) new others
seen_one ss y old new names others free (inl (has, same)) texts h = subst (λ (l : List FreeName). HasSeen (ss ++ y ∷ []) new l) (sym same) (seen_again ss y old new names has texts h)
seen_one ss y old new names others free (inr (none, n, text, placed, is)) texts h = subst (λ (l : List FreeName). HasSeen (ss ++ y ∷ []) new l) (sym is) (seen_first ss y old new names n free none text placed texts h)

-- what is free is noted, whatever is answered
pub noted_free : {A : Type 0} {E : Type 0} (y : Seen) (old new : Texts) (names others : List FreeName) (r : Result A E) → IsTrue (is_free y) → OnOk r (AddsName y old names others) → OnOk r (AddsText y.1.sym old new) → OnOk r (Notes y old new names others)
noted_free y old new names others (Ok u) free n t = inl (free, n, t)
noted_free y old new names others (Err e) free n t = tt

-- ---- in a loop

more : (ss : List Site) (i : ℕ) (x : Site) → i < length ss → x ≡ get_or ss i x → map site_of (take (i + 1) ss) ≡ map site_of (take i ss) ++ site_of x ∷ []
more ss i x within is = ap (map site_of) (take_more ss i x within) ∙ map-append site_of (take i ss) (get_or ss i x ∷ []) ∙ ap (λ z. map site_of (take i ss) ++ site_of z ∷ []) (sym is)

noted : (ss : List Seen) (y : Seen) (old new : Texts) (names others : List FreeName) → Notes y old new names others → HasSeen ss old names → HasSeen (ss ++ y ∷ []) new others
noted ss y old new names others (inl (free, adds, texts)) h = seen_one ss y old new names others free adds texts h
noted ss y old new names others (inr (bound, same, alike)) h =
    subst (λ (t : Texts). HasSeen (ss ++ y ∷ []) t others) (sym same) (subst (λ (l : List FreeName). HasSeen (ss ++ y ∷ []) old l) (sym alike) (skipped ss y old names bound h))

pub one_noted : (ss : List Site) (i : ℕ) (x : Site) (old new : Texts) (names others : List FreeName) → i < length ss → x ≡ get_or ss i x → Notes (site_of x) old new names others → HasSeen (map site_of (take i ss)) old names
    → HasSeen (map site_of (take (i + 1) ss)) new others
one_noted ss i x old new names others within is notes h = subst (λ l. HasSeen l new others) (sym (more ss i x within is)) (noted (map site_of (take i ss)) (site_of x) old new names others notes h)

pub all_noted : (ss : List Site) (i : ℕ) (seen : Texts) (names : List FreeName) → length ss ≤ i → HasSeen (map site_of (take i ss)) seen names → AreNamesOf (map site_of ss) names
all_noted ss i seen names ended h = subst (λ l. AreNamesOf (map site_of l) names) (take_all i ss ended) h.are
