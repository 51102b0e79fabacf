-- What is once in a list, one element after another.
use Rattle.std.proofs.Common.{◌≡◌, ℕ, zero, suc, ◌+◌, ◌<◌, Bool, true, false, ◌||◌, List, [], ◌∷◌, ◌++◌, take, map, get_or, length, refl, sym, ap, ◌∙◌, cond, append_assoc, arith}
use Rattle.std.specs.List.{list_any}
use Rattle.std.specs.Str.{bytes_eq}
use Rattle.std.proofs.lemmas.Bool.{cond-false, cond-true, cond_both, or_left}
use Rattle.std.proofs.lemmas.List.{map_push, take_more}
use Rattle.std.proofs.lemmas.Slice.Eq.{bytes_eq-Decides}
use Rattle.swc_tree_marks.specs.declared.ident.Ident.{Ident}
use Rattle.swc_tree_scoping.specs.declared.places.Standing.{Standing}
use Rattle.example_free_names.specs.Answers.{lines}
use Rattle.example_free_names.specs.Free.{added, free_texts, is_free, noted, once, without}

abbrev Texts : Type 0
Texts = List (List ℕ)

or_false : (b c : Bool) → b ≡ false → (b || c) ≡ c
or_false true c h = absurd (cc)
or_false false c h = refl

without_same : (x : List ℕ) (l : Texts) → without x (l ++ x ∷ []) ≡ without x l
without_same x [] = cond-true (bytes_eq x x) [] (x ∷ []) ((bytes_eq-Decides x x).1 refl)
without_same x (y ∷ l) = at (bytes_eq x y) (without_same x l)
  where
    at : (b : Bool) → without x (l ++ x ∷ []) ≡ without x l → cond b (without x (l ++ x ∷ [])) (y ∷ without x (l ++ x ∷ [])) ≡ cond b (without x l) (y ∷ without x l)
    at true h = h
    at false h = ap (λ l. y ∷ l) h

without_other : (x z : List ℕ) (l : Texts) → bytes_eq x z ≡ false → without x (l ++ z ∷ []) ≡ without x l ++ z ∷ []
without_other x z [] h = cond-false (bytes_eq x z) [] (z ∷ []) h
without_other x z (y ∷ l) h = at (bytes_eq x y) (without_other x z l h)
  where
    at : (b : Bool) → without x (l ++ z ∷ []) ≡ without x l ++ z ∷ [] → cond b (without x (l ++ z ∷ [])) (y ∷ without x (l ++ z ∷ [])) ≡ cond b (without x l) (y ∷ without x l) ++ z ∷ []
    at true h = h
    at false h = ap (λ l. y ∷ l) h

any_without : (x z : List ℕ) (l : Texts) → bytes_eq x z ≡ false → list_any (bytes_eq z) (without x l) ≡ list_any (bytes_eq z) l
any_without x z [] h = refl
any_without x z (y ∷ l) h = at (bytes_eq x y) refl (any_without x z l h)
  where
    none : bytes_eq x y ≡ true → bytes_eq z y ≡ false
    none e = by (bytes_eq z y) refl
      where
        by : (b : Bool) → bytes_eq z y ≡ b → b ≡ false
        by false f = refl
        by true f = let same : x ≡ z = (bytes_eq-Decides x y).0 e ∙ sym ((bytes_eq-Decides z y).0 f) in sym ((bytes_eq-Decides x z).1 same) ∙ h

    at : (b : Bool) → bytes_eq x y ≡ b → list_any (bytes_eq z) (without x l) ≡ list_any (bytes_eq z) l
        → list_any (bytes_eq z) (cond b (without x l) (y ∷ without x l)) ≡ (bytes_eq z y || list_any (bytes_eq z) l)
    at true e g = g ∙ sym (or_false (bytes_eq z y) (list_any (bytes_eq z) l) (none e))
    at false e g = ap (λ b. bytes_eq z y || b) g

-- one element more
pub once_more : (xs : Texts) (z : List ℕ) → once (xs ++ z ∷ []) ≡ added z (once xs)
once_more [] z = refl
once_more (x ∷ xs) z = ap (λ l. x ∷ without x l) (once_more xs z) ∙ at (bytes_eq x z) refl
  where
    same : bytes_eq x z ≡ true → x ∷ without x (added z (once xs)) ≡ added z (x ∷ without x (once xs))
    same e = let is : x ≡ z = (bytes_eq-Decides x z).0 e in
        ap (λ z. x ∷ without x (added z (once xs))) (sym is)
        ∙ ap (λ l. x ∷ l) (cond_both (list_any (bytes_eq x) (once xs)) (once xs) (once xs ++ x ∷ []) (λ l. without x l ≡ without x (once xs)) (λ g. refl) (λ g. without_same x (once xs)))
        ∙ sym (cond-true (bytes_eq x x || list_any (bytes_eq x) (without x (once xs))) (x ∷ without x (once xs)) ((x ∷ without x (once xs)) ++ x ∷ [])
        (or_left (bytes_eq x x) (list_any (bytes_eq x) (without x (once xs))) ((bytes_eq-Decides x x).1 refl)))
        ∙ ap (λ z. added z (x ∷ without x (once xs))) is

    other : bytes_eq x z ≡ false → x ∷ without x (added z (once xs)) ≡ added z (x ∷ without x (once xs))
    other e =
        let apart : bytes_eq z x ≡ false = turned (bytes_eq z x) refl in
        let test : (bytes_eq z x || list_any (bytes_eq z) (without x (once xs))) ≡ list_any (bytes_eq z) (once xs) = or_false (bytes_eq z x) (list_any (bytes_eq z) (without x (once xs))) apart ∙ any_without x z (once xs) e in
        by (list_any (bytes_eq z) (once xs)) refl
        ∙ sym (ap (λ b. cond b (x ∷ without x (once xs)) ((x ∷ without x (once xs)) ++ z ∷ [])) test)
      where
        turned : (b : Bool) → bytes_eq z x ≡ b → b ≡ false
        turned false f = refl
        turned true f = sym ((bytes_eq-Decides x z).1 (sym ((bytes_eq-Decides z x).0 f))) ∙ e

        by : (b : Bool) → list_any (bytes_eq z) (once xs) ≡ b → x ∷ without x (cond b (once xs) (once xs ++ z ∷ [])) ≡ cond b (x ∷ without x (once xs)) ((x ∷ without x (once xs)) ++ z ∷ [])
        by true f = refl
        by false f = ap (λ l. x ∷ l) (without_other x z (once xs) e)

    at : (b : Bool) → bytes_eq x z ≡ b → x ∷ without x (added z (once xs)) ≡ added z (x ∷ without x (once xs))
    at true e = same e
    at false e = other e

free_append : (u : ℕ) (ss : List (Standing × Ident)) (s : Standing × Ident) → free_texts u (ss ++ s ∷ []) ≡ cond (is_free u s) (free_texts u ss ++ s.1.sym ∷ []) (free_texts u ss)
free_append u [] s = refl
free_append u (r ∷ ss) s = at (is_free u r) (is_free u s) (free_append u ss s)
  where
    at : (b c : Bool) → free_texts u (ss ++ s ∷ []) ≡ cond c (free_texts u ss ++ s.1.sym ∷ []) (free_texts u ss)
        → cond b (r.1.sym ∷ free_texts u (ss ++ s ∷ [])) (free_texts u (ss ++ s ∷ [])) ≡ cond c (cond b (r.1.sym ∷ free_texts u ss) (free_texts u ss) ++ s.1.sym ∷ []) (cond b (r.1.sym ∷ free_texts u ss) (free_texts u ss))
    at true true h = ap (λ l. r.1.sym ∷ l) h
    at true false h = ap (λ l. r.1.sym ∷ l) h
    at false true h = h
    at false false h = h

free_more : (u : ℕ) (ss : List (Standing × Ident)) (s : Standing × Ident) → once (free_texts u (ss ++ s ∷ [])) ≡ noted u (once (free_texts u ss)) s
free_more u ss s = ap once (free_append u ss s) ∙ at (is_free u s)
  where
    at : (b : Bool) → once (cond b (free_texts u ss ++ s.1.sym ∷ []) (free_texts u ss)) ≡ cond b (added s.1.sym (once (free_texts u ss))) (once (free_texts u ss))
    at true = once_more (free_texts u ss) s.1.sym
    at false = refl

-- one identifier more
pub one_more : {S : Type 0} (u : ℕ) (f : S → Standing × Ident) (found : List S) (i : ℕ) (d x : S) (names next : Texts) → i < length found → x ≡ get_or found i d
    → names ≡ once (free_texts u (map f (take i found))) → next ≡ noted u names (f x) → next ≡ once (free_texts u (map f (take (i + 1) found)))
one_more u f found i d x names next h e was is =
    is ∙ ap (λ names. noted u names (f x)) was ∙ sym (free_more u (map f (take i found)) (f x))
    ∙ ap (λ ss. once (free_texts u ss)) (sym (map_push f (take i found) x) ∙ ap (map f) (ap (λ x. take i found ++ x ∷ []) e ∙ sym (take_more found i d h)))

-- a name of a list, and one line more
pub found_among : {S : Type 0} (p : List ℕ → Bool) (f : S → List ℕ) (names : List S) (i : ℕ) (d x : S) → i < length names → x ≡ get_or names i d → p (f x) ≡ true → list_any p (map f names) ≡ true
found_among p f [] i d x h e g = absurd (omega arith)
found_among p f (y ∷ names) zero d x h e g = or_left (p (f y)) (list_any p (map f names)) (ap (λ x. p (f x)) (sym e) ∙ g)
found_among p f (y ∷ names) (suc i) d x h e g = at (p (f y)) (found_among p f names i d x (omega arith) e g)
  where
    at : (b : Bool) → list_any p (map f names) ≡ true → (b || list_any p (map f names)) ≡ true
    at true h = refl
    at false h = h

lines_append : (xs : Texts) (x : List ℕ) → lines (xs ++ x ∷ []) ≡ lines xs ++ (x ++ 10 ∷ [])
lines_append [] x = refl
lines_append (y ∷ xs) x = ap (λ l. y ++ 10 ∷ l) (lines_append xs x) ∙ sym (append_assoc y (10 ∷ lines xs) (x ++ 10 ∷ []))

pub line_more : {S : Type 0} (f : S → List ℕ) (names : List S) (i : ℕ) (d x : S) (text some next : List ℕ) → i < length names → x ≡ get_or names i d
    → text ≡ lines (map f (take i names)) → some ≡ text ++ f x → next ≡ some ++ 10 ∷ [] → next ≡ lines (map f (take (i + 1) names))
line_more f names i d x text some next h e was more is =
    is ∙ ap (λ l. l ++ 10 ∷ []) (more ∙ ap (λ l. l ++ f x) was) ∙ append_assoc (lines (map f (take i names))) (f x) (10 ∷ [])
    ∙ sym (lines_append (map f (take i names)) (f x)) ∙ ap lines (sym (map_push f (take i names) x) ∙ ap (map f) (ap (λ x. take i names ++ x ∷ []) e ∙ sym (take_more names i d h)))
