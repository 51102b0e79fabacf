-- Names, each with its number.
use Rattle.std.proofs.Common.{◌≡◌, ℕ, zero, suc, Bool, true, false, ◌||◌, cond, List, [], ◌∷◌, ◌++◌, Option, Some, None, Bor, length, map, option_map, refl, sym, ap, ◌∙◌, subst}
use Rattle.std.proofs.lemmas.Bool.{cond-false, cond-true, or_right}
use Rattle.std.proofs.lemmas.List.{append-nil, length-map, map_push}
use Rattle.std.proofs.lemmas.List.Elements.{filter_map-append}
use Rattle.std.proofs.lemmas.Map.Text.{btree_map_updates_str}
use Rattle.std.proofs.lemmas.Slice.Eq.{bytes_eq-Decides}
use Rattle.std.specs.BTreeMap.{Updates, is_at}
use Rattle.std.specs.Cmp.Lexicographic.{slice_cmp}
use Rattle.std.specs.List.{filter_map, list_any}
use Rattle.std.specs.Map.{lookup}
use Rattle.std.specs.Ordering.{nat_cmp}
use Rattle.std.specs.Prelude.{slice_get}
use Rattle.std.specs.Str.{bytes_eq}
use Rattle.mucwathi_mappings.specs.declared.names.Names.{Names}
use Rattle.mucwathi_mappings.specs.declared.nodes.Mapped.{Mapped}
use Rattle.mucwathi_mappings.specs.Mappings.{HasNumber}
use Rattle.mucwathi_mappings.specs.Names.{AreNumbered, GetsNumber, number_in, number_of, once, text_of, texts_of}
use Rattle.mucwathi_mappings.specs.Nodes.{IsNumberOf, old_names, with_old}
use Rattle.mucwathi_mappings.proofs.Once.{once_more}

abbrev Texts : Type 0
Texts = List (List ℕ)

same_text : (t x : List ℕ) → bytes_eq t x ≡ true → t ≡ x
same_text t x h = (bytes_eq-Decides t x).0 h

is_itself : (t : List ℕ) → bytes_eq t t ≡ true
is_itself t = (bytes_eq-Decides t t).1 refl

-- ---- numbers in a list

number_stands : (xs : Texts) (t : List ℕ) (n : ℕ) → number_of xs t ≡ Some n → (slice_get xs n ≡ Some t) × (list_any (bytes_eq t) xs ≡ true)
number_stands [] t n h = absurd (cc)
number_stands (x ∷ xs) t n h = at (bytes_eq t x) refl h (λ m g. number_stands xs t m g)
  where
    Stands : ℕ → Type 0
    Stands m = (slice_get xs m ≡ Some t) × (list_any (bytes_eq t) xs ≡ true)

    later : (o : Option ℕ) → number_of xs t ≡ o → option_map suc o ≡ Some n → ((m : ℕ) → number_of xs t ≡ Some m → Stands m) → (slice_get (x ∷ xs) n ≡ Some t) × ((bytes_eq t x || list_any (bytes_eq t) xs) ≡ true)
    later None e g more = absurd (cc)
    later (Some m) e g more =
        let next : suc m ≡ n = cc in
        let there : Stands m = more m e in
        (subst (λ n. slice_get (x ∷ xs) n ≡ Some t) next there.0, or_right (bytes_eq t x) (list_any (bytes_eq t) xs) there.1)

    at : (b : Bool) → bytes_eq t x ≡ b → cond b (Some 0) (option_map suc (number_of xs t)) ≡ Some n → ((m : ℕ) → number_of xs t ≡ Some m → Stands m)
        → (slice_get (x ∷ xs) n ≡ Some t) × ((bytes_eq t x || list_any (bytes_eq t) xs) ≡ true)
    at true e g more =
        let first : 0 ≡ n = cc in
        (subst (λ n. slice_get (x ∷ xs) n ≡ Some t) first (ap (λ (l : List ℕ). Some l) (sym (same_text t x e))), ap (λ b. b || list_any (bytes_eq t) xs) e)
    at false e g more = later (number_of xs t) refl g more

number_none : (xs : Texts) (t : List ℕ) → number_of xs t ≡ None → list_any (bytes_eq t) xs ≡ false
number_none [] t h = refl
number_none (x ∷ xs) t h = at (bytes_eq t x) h (λ g. number_none xs t g)
  where
    later : (o : Option ℕ) → number_of xs t ≡ o → option_map suc o ≡ None → (number_of xs t ≡ None → list_any (bytes_eq t) xs ≡ false) → list_any (bytes_eq t) xs ≡ false
    later None e g more = more e
    later (Some m) e g more = absurd (cc)

    at : (b : Bool) → cond b (Some 0) (option_map suc (number_of xs t)) ≡ None → (number_of xs t ≡ None → list_any (bytes_eq t) xs ≡ false) → (b || list_any (bytes_eq t) xs) ≡ false
    at true g more = absurd (cc)
    at false g more = later (number_of xs t) refl g more

-- one text more, which is none of them
number_push : (xs : Texts) (y t : List ℕ) → list_any (bytes_eq y) xs ≡ false → number_of (xs ++ y ∷ []) t ≡ cond (bytes_eq y t) (Some (length xs)) (number_of xs t)
number_push [] y t h = at (bytes_eq t y) (bytes_eq y t) refl refl
  where
    at : (b c : Bool) → bytes_eq t y ≡ b → bytes_eq y t ≡ c → cond {A = Option ℕ} b (Some 0) None ≡ cond c (Some 0) None
    at true true e f = refl
    at false false e f = refl
    at true false e f = absurd (let same : t ≡ y = same_text t y e in let is = (bytes_eq-Decides y t).1 (sym same) in cc)
    at false true e f = absurd (let same : y ≡ t = same_text y t f in let is = (bytes_eq-Decides t y).1 (sym same) in cc)
number_push (x ∷ xs) y t h = at (bytes_eq y x) (bytes_eq t x) refl refl h (λ g. number_push xs y t g)
  where
    Goal : Bool → Type 0
    Goal b = cond b (Some 0) (option_map suc (number_of (xs ++ y ∷ []) t)) ≡ cond (bytes_eq y t) (Some (suc (length xs))) (cond b (Some 0) (option_map suc (number_of xs t)))

    first : (c : Bool) → bytes_eq y x ≡ false → bytes_eq t x ≡ true → bytes_eq y t ≡ c → Some 0 ≡ cond c (Some (suc (length xs))) (Some 0)
    first false other e f = refl
    first true other e f = absurd (let same : y ≡ x = same_text y t f ∙ same_text t x e in let is = (bytes_eq-Decides y x).1 same in cc)

    later : (c : Bool) → number_of (xs ++ y ∷ []) t ≡ cond c (Some (length xs)) (number_of xs t) → option_map suc (number_of (xs ++ y ∷ []) t) ≡ cond c (Some (suc (length xs))) (option_map suc (number_of xs t))
    later true g = ap (option_map suc) g
    later false g = ap (option_map suc) g

    at : (a b : Bool) → bytes_eq y x ≡ a → bytes_eq t x ≡ b → (a || list_any (bytes_eq y) xs) ≡ false
        → (list_any (bytes_eq y) xs ≡ false → number_of (xs ++ y ∷ []) t ≡ cond (bytes_eq y t) (Some (length xs)) (number_of xs t)) → Goal b
    at true b d e g more = absurd (cc)
    at false true d e g more = first (bytes_eq y t) d e refl
    at false false d e g more = later (bytes_eq y t) (more g)

get_last : (xs : Texts) (t : List ℕ) → slice_get (xs ++ t ∷ []) (length xs) ≡ Some t
get_last [] t = refl
get_last (x ∷ xs) t = get_last xs t

-- ---- names

pub no_names : (names : Names) → names.texts.items ≡ [] → names.numbers.entries ≡ [] → AreNumbered names
no_names names none empty t = ap (λ es. lookup (is_at (λ k. slice_cmp nat_cmp t k.now)) es) empty ∙ ap (λ l. number_of (map text_of l) t) (sym none)

pub name_known : (names : Names) (name : List ℕ) (n : ℕ) → AreNumbered names → number_in names name ≡ Some n → GetsNumber names names name n
name_known names name n numbered is =
    let (there, among) = number_stands (texts_of names) name n (sym (numbered name) ∙ is) in
    record {
      texts_are = sym (cond-true (list_any (bytes_eq name) (texts_of names)) (texts_of names) (texts_of names ++ name ∷ []) among);
      numbered = numbered;
      stands = there;
    }

pub name_added : (old new : Names) (name : Bor (List ℕ)) (n : ℕ) → AreNumbered old → number_in old name.now ≡ None → n ≡ length old.texts.items → new.texts.items ≡ old.texts.items ++ name ∷ []
    → Updates (λ x y. slice_cmp nat_cmp x.now y.now) old.numbers new.numbers name (Some n) → GetsNumber old new name.now n
name_added old new name n numbered none is added_behind updates =
    let xs : Texts = texts_of old in
    let other : list_any (bytes_eq name.now) xs ≡ false = number_none xs name.now (sym (numbered name.now) ∙ none) in
    let texts : texts_of new ≡ xs ++ name.now ∷ [] = ap (map text_of) added_behind ∙ map_push text_of old.texts.items name in
    let count : n ≡ length xs = is ∙ sym (length-map old.texts.items text_of) in
    record {
      texts_are = texts ∙ sym (cond-false (list_any (bytes_eq name.now) xs) xs (xs ++ name.now ∷ []) other);
      numbered = λ t. btree_map_updates_str name.now old.numbers new.numbers (Some n) updates t
          ∙ ap (λ o. cond (bytes_eq name.now t) (Some n) o) (numbered t)
          ∙ ap (λ n. cond (bytes_eq name.now t) (Some n) (number_of xs t)) count
          ∙ sym (number_push xs name.now t other)
          ∙ ap (λ l. number_of l t) (sym texts);
      stands = ap (λ l. slice_get l n) texts ∙ ap (λ n. slice_get (xs ++ name.now ∷ []) n) count ∙ get_last xs name.now;
    }

-- ---- old names

pub old_number : (old new : Names) (name : Option (Bor (List ℕ))) (given : Bor (List ℕ)) (n : ℕ) → name ≡ Some given → GetsNumber old new given.now n → HasNumber old new name (Some n)
old_number old new name given n is h = subst (λ o. HasNumber old new o (Some n)) (sym is) (record { texts_are = h.texts_are; numbered = h.numbered; is = h.stands })

pub no_number : (names : Names) (name : Option (Bor (List ℕ))) → AreNumbered names → name ≡ None → HasNumber names names name None
no_number names name numbered is = subst (λ o. HasNumber names names o None) (sym is) (record { texts_are = refl; numbered = numbered; is = refl })

-- names go on
pub more_names : (name : Option (Bor (List ℕ))) (xs : Texts) → (more : Texts) × (with_old name xs ≡ xs ++ more)
more_names None xs = ([], sym (append-nil xs))
more_names (Some name) xs = at (list_any (bytes_eq name.now) xs)
  where
    at : (b : Bool) → (more : Texts) × (cond b xs (xs ++ name.now ∷ []) ≡ xs ++ more)
    at true = ([], sym (append-nil xs))
    at false = (name.now ∷ [], refl)

get_kept : (xs ys : Texts) (n : ℕ) (t : List ℕ) → slice_get xs n ≡ Some t → slice_get (xs ++ ys) n ≡ Some t
get_kept [] ys n t h = absurd (cc)
get_kept (x ∷ xs) ys zero t h = h
get_kept (x ∷ xs) ys (suc n) t h = get_kept xs ys n t h

pub number_kept : (xs ys : Texts) (old : Option (Bor (List ℕ))) (n : Option ℕ) → IsNumberOf xs old n → IsNumberOf (xs ++ ys) old n
number_kept xs ys None n h = h
number_kept xs ys (Some old) None h = h
number_kept xs ys (Some old) (Some n) h = get_kept xs ys n old.now h

-- the old name at a place
abbrev old_at : ℕ × Mapped → Option (List ℕ)
old_at p = option_map text_of p.1.old

pub names_more : (ps : List (ℕ × Mapped)) (p : ℕ × Mapped) → old_names (ps ++ p ∷ []) ≡ with_old p.1.old (old_names ps)
names_more ps p = ap once (filter_map-append old_at ps (p ∷ [])) ∙ at p.1.old
  where
    at : (o : Option (Bor (List ℕ))) → once (filter_map old_at ps ++ filter_map (λ (o : Option (Bor (List ℕ))). option_map text_of o) (o ∷ [])) ≡ with_old o (old_names ps)
    at None = ap once (append-nil (filter_map old_at ps))
    at (Some t) = once_more (filter_map old_at ps) t.now
