-- A loop that makes the parts of a node plain: those that it is past, and those that are left.
use Rattle.std.proofs.Common.{◌≡◌, ℕ, zero, suc, ◌+◌, ◌<◌, ◌≤◌, Bool, true, false, ◌&&◌, Some, List, [], ◌∷◌, ◌++◌, length, map, get_or, slice_set, refl, sym, ap, subst, ◌∙◌, arith, append_assoc, append-nil, length-append}
use Rattle.std.specs.Prelude.{if◌then◌else◌}
use Rattle.std.specs.List.{slice_get}
use Rattle.swc_tree_node.specs.declared.node.Node.{Node}
use Rattle.swc_base_plain_form.specs.PlainForm.{forms, is_string, parts}
use Rattle.swc_base_plain_form.proofs.Forms.{parts_of_other, parts_of_string}

pub record Past (lead leads within : Bool) (xs ys : List Node) (i : ℕ) : Type 0 where
  pub front : List Node
  pub rest : List Node
  pub is : ys ≡ front ++ rest
  pub count : length front ≡ i
  pub long : length ys ≡ length xs
  pub done : front ++ parts leads within (map forms rest) ≡ parts lead within (map forms xs)

pub none_past : (lead within : Bool) (xs : List Node) → Past lead lead within xs xs 0
none_past lead within xs = record { front = []; rest = xs; is = refl; count = refl; long = refl; done = refl }

none_left : (rest : List Node) → length rest ≡ 0 → rest ≡ []
none_left [] h = refl
none_left (t ∷ ts) h = absurd (omega arith)

pub all_past : (lead leads within : Bool) (xs ys : List Node) (i : ℕ) → Past lead leads within xs ys i → length xs ≤ i → ys ≡ parts lead within (map forms xs)
all_past lead leads within xs ys i p all =
    let n : length p.front + length p.rest ≡ length ys = sym (ap length p.is ∙ length-append p.front p.rest) in
    let none : p.rest ≡ [] = none_left p.rest (omega (arith, n, p.count, p.long, all)) in
    p.is ∙ ap (λ r. p.front ++ r) none ∙ sym (ap (λ r. p.front ++ parts leads within (map forms r)) none) ∙ p.done

at_front : (front rest : List Node) (t : Node) → slice_get (front ++ rest) (length front) ≡ Some t → (r : List Node) × (rest ≡ t ∷ r)
at_front [] [] t h = absurd (cc)
at_front [] (u ∷ r) t h = let same : u ≡ t = cc in (r, ap (λ v. v ∷ r) same)
at_front (f ∷ front) rest t h = at_front front rest t h

set_front : (front r : List Node) (t u : Node) → slice_set (front ++ t ∷ r) (length front) u ≡ front ++ u ∷ r
set_front [] r t u = refl
set_front (f ∷ front) r t u = ap (λ l. f ∷ l) (set_front front r t u)

set_length : (front r : List Node) (t u : Node) → length (front ++ u ∷ r) ≡ length (front ++ t ∷ r)
set_length [] r t u = refl
set_length (f ∷ front) r t u = ap suc (set_length front r t u)

next : (lead leads within : Bool) (xs ys : List Node) (i : ℕ) (t : Node) → (p : Past lead leads within xs ys i) → slice_get ys i ≡ Some t → (r : List Node) × (p.rest ≡ t ∷ r)
next lead leads within xs ys i t p there = at_front p.front p.rest t (ap (λ l. slice_get l (length p.front)) (sym p.is) ∙ ap (slice_get ys) p.count ∙ there)

pub string_past : (lead leads within : Bool) (xs ys : List Node) (i : ℕ) (t : Node) → Past lead leads within xs ys i → slice_get ys i ≡ Some t → (leads && is_string t) ≡ true → Past lead true within xs ys (i + 1)
string_past lead leads within xs ys i t p there h =
    let r = next lead leads within xs ys i t p there in
    record {
      front = p.front ++ t ∷ [];
      rest = r.0;
      is = p.is ∙ ap (λ l. p.front ++ l) r.1 ∙ sym (append_assoc p.front (t ∷ []) r.0);
      count = length-append p.front (t ∷ []) ∙ ap (λ n. n + 1) p.count;
      long = p.long;
      done = append_assoc p.front (t ∷ []) _ ∙ ap (λ l. p.front ++ l) (sym (parts_of_string leads within t (map forms r.0) h)) ∙ ap (λ l. p.front ++ parts leads within (map forms l)) (sym r.1) ∙ p.done;
    }

pub other_past : (lead leads within : Bool) (xs ys zs : List Node) (i : ℕ) (t u : Node) → Past lead leads within xs ys i → slice_get ys i ≡ Some t → (leads && is_string t) ≡ false → u ≡ (forms t).plain within → zs ≡ slice_set ys i u
    → Past lead false within xs zs (i + 1)
other_past lead leads within xs ys zs i t u p there h new is =
    let r = next lead leads within xs ys i t p there in
    let was : ys ≡ p.front ++ t ∷ r.0 = p.is ∙ ap (λ l. p.front ++ l) r.1 in
    let now : zs ≡ p.front ++ u ∷ r.0 = is ∙ ap (λ l. slice_set l i u) was ∙ ap (λ n. slice_set (p.front ++ t ∷ r.0) n u) (sym p.count) ∙ set_front p.front r.0 t u in
    record {
      front = p.front ++ u ∷ [];
      rest = r.0;
      is = now ∙ sym (append_assoc p.front (u ∷ []) r.0);
      count = length-append p.front (u ∷ []) ∙ ap (λ n. n + 1) p.count;
      long = ap length now ∙ set_length p.front r.0 t u ∙ sym (ap length was) ∙ p.long;
      done = append_assoc p.front (u ∷ []) _ ∙ ap (λ v. p.front ++ v ∷ parts false within (map forms r.0)) new ∙ ap (λ l. p.front ++ l) (sym (parts_of_other leads within t (map forms r.0) h))
          ∙ ap (λ l. p.front ++ parts leads within (map forms l)) (sym r.1) ∙ p.done;
    }

set_itself : (ys : List Node) (i : ℕ) (t : Node) → slice_get ys i ≡ Some t → slice_set ys i t ≡ ys
set_itself [] i t h = absurd (cc)
set_itself (y ∷ ys) zero t h = let same : y ≡ t = cc in ap (λ x. x ∷ ys) (sym same)
set_itself (y ∷ ys) (suc i) t h = ap (λ l. y ∷ l) (set_itself ys i t h)

pub next_past : (lead leads b within : Bool) (xs ys zs : List Node) (i : ℕ) (t u : Node) → Past lead leads within xs ys i → slice_get ys i ≡ Some t → b ≡ (leads && is_string t)
    → u ≡ (if leads && is_string t then t else (forms t).plain within) → zs ≡ slice_set ys i u → Past lead b within xs zs (i + 1)
next_past lead leads b within xs ys zs i t u p there is new set = by (leads && is_string t) refl
  where
    by : (a : Bool) → (leads && is_string t) ≡ a → Past lead b within xs zs (i + 1)
    by true h =
        let same : u ≡ t = new ∙ ap (λ (a : Bool). if a then t else (forms t).plain within) h in
        let whole : zs ≡ ys = set ∙ ap (slice_set ys i) same ∙ set_itself ys i t there in
        subst (λ c. Past lead c within xs zs (i + 1)) (sym (is ∙ h)) (subst (λ l. Past lead true within xs l (i + 1)) (sym whole) (string_past lead leads within xs ys i t p there h))
    by false h =
        let plain : u ≡ (forms t).plain within = new ∙ ap (λ (a : Bool). if a then t else (forms t).plain within) h in
        subst (λ c. Past lead c within xs zs (i + 1)) (sym (is ∙ h)) (other_past lead leads within xs ys zs i t u p there h plain set)

-- what stands behind a place that is set anew stays
pub set_other : (ys : List Node) (i k : ℕ) (u d : Node) → i < k → get_or (slice_set ys i u) k d ≡ get_or ys k d
set_other [] zero k u d h = refl
set_other [] (suc i) k u d h = refl
set_other (y ∷ ys) zero zero u d h = absurd (omega arith)
set_other (y ∷ ys) zero (suc k) u d h = refl
set_other (y ∷ ys) (suc i) zero u d h = absurd (omega arith)
set_other (y ∷ ys) (suc i) (suc k) u d h = set_other ys i k u d (omega (arith, h))
