-- Texts of ids: where they are by number, and in a table that is in order.
use Rattle.std.proofs.Common.{◌≡◌, ℕ, zero, suc, ◌<◌, ◌≤◌, ◌==◌, ◌⊎◌, inl, inr, nat_eq, Bool, true, false, not, ◌&&◌, ◌||◌, Option, Some, None, is_some, List, cond, refl, sym, ap, ◌∙◌, arith, eq-eqb, eqb-true}
use Rattle.std.specs.Cmp.{IsTotalOrder}
use Rattle.std.specs.Cmp.Lexicographic.{pointwise, slice_cmp, texts_ties}
use Rattle.std.specs.Ordering.{is_eq, nat_cmp, ordering_then}
use Rattle.std.specs.declared.cmp.Ordering.{Ordering}
use Rattle.std.specs.declared.cmp.Ordering.TheVariants.{Less, Equal, Greater}
use Rattle.std.specs.Map.{AreApart as AreKeysApart, IsKeyTest, KeepsOthers, lookup}
use Rattle.std.specs.BTreeMap as tree
use Rattle.std.specs.BTreeMap.{BTreeMap, is_at}
use Rattle.std.proofs.lemmas.Bool.{cases_lt}
use Rattle.std.proofs.lemmas.Cmp.{eq_by_cmp_equiv, nat_list_cmp_total, nat_list_eq_equiv, on_total, then_total}
use Rattle.std.proofs.lemmas.Slice.Eq.{bytes_eq-Decides}
use Rattle.swc_base_rename_substitution.specs.Names.{Id, found_in, same_id}
use Rattle.swc_base_rename_naming.specs.ByIds.{AreApart, AreTexts, any_below, if_other, text_below, with_text}

-- equal ids
abbrev pub id_cmp : Id → Id → Ordering
id_cmp x y = ordering_then (slice_cmp nat_cmp x.0 y.0) (slice_cmp nat_cmp x.1 y.1)

both_equal : (o p : Ordering) → is_eq (ordering_then o p) ≡ (is_eq o && is_eq p)
both_equal Less p = refl
both_equal Equal p = refl
both_equal Greater p = refl

is_same : (x y : Id) → is_eq (id_cmp x y) ≡ same_id x y
is_same x y = both_equal (slice_cmp nat_cmp x.0 y.0) (slice_cmp nat_cmp x.1 y.1) ∙ (λ j. sym (texts_ties x.0 y.0) j && sym (texts_ties x.1 y.1) j)

both_so : (a b : Bool) → (a && b) ≡ true → (a ≡ true) × (b ≡ true)
both_so true b h = (refl, h)
both_so false b h = absurd (cc)

pub one_id : (x y : Id) → same_id x y ≡ true → x ≡ y
one_id x y h = let (e, f) = both_so (pointwise nat_eq x.0 y.0) (pointwise nat_eq x.1 y.1) h in λ j. ((bytes_eq-Decides x.0 y.0).0 e j, (bytes_eq-Decides x.1 y.1).0 f j)

pub itself : (x : Id) → same_id x x ≡ true
itself x = λ j. nat_list_eq_equiv.refl x.0 j && nat_list_eq_equiv.refl x.1 j

ids_total : IsTotalOrder id_cmp
ids_total = then_total (on_total (λ (x : Id). x.0) nat_list_cmp_total) (on_total (λ (x : Id). x.1) nat_list_cmp_total)

impossible : {A : Type 0} → false ≡ true → A
impossible h = absurd (cc)

not_same : (x y z : Id) → same_id x y ≡ false → same_id x z ≡ true → same_id y z ≡ true → false ≡ true
not_same x y z n e f = sym n ∙ ap (λ z. same_id z y) (one_id x z e) ∙ ap (λ w. same_id w y) (sym (one_id y z f)) ∙ itself y

module _ {X : Type 0} (eq : Id → Id → Bool) (test : Id → Bool) where
  other_entries : (old new : List (Id × X)) → KeepsOthers eq test old new → (other : Id → Bool) → IsKeyTest eq other → AreKeysApart test other → lookup other new ≡ lookup other old
  unfolding KeepsOthers
  other_entries old new h = h

-- a table into which a text was put has it, and of other ids what it had
pub text_put : (m n : BTreeMap Id (List ℕ)) (k : Id) (v : List ℕ) → tree.Updates id_cmp m n k (Some v) → (x : Id) → found_in n x ≡ cond (same_id k x) (Some v) (found_in m x)
text_put m n k v h x = by (same_id k x) refl
  where
    no_other : same_id k x ≡ false → (a : Id) → is_at (id_cmp k) a ≡ true → (b : Bool) → is_at (id_cmp x) a ≡ b → b ≡ false
    no_other apart a e false f = refl
    no_other apart a e true f = impossible (not_same k x a apart (sym (is_same k a) ∙ e) (sym (is_same x a) ∙ f))

    by : (b : Bool) → same_id k x ≡ b → found_in n x ≡ cond b (Some v) (found_in m x)
    by true e = ap (found_in n) (sym (one_id k x e)) ∙ h.1
    by false e = other_entries _ _ _ _ h.3 (is_at (id_cmp x)) (λ a b. (eq_by_cmp_equiv ids_total).congr x a b) (λ a f. ap (λ z. z) (no_other e a f (is_at (id_cmp x) a) refl))

module _ (id_of : ℕ → Option Id) (texts : ℕ → Option (List ℕ)) where
  -- an id that no number below the count has gets no text
  pub none_below : (count : ℕ) (x : Id) → ((k : ℕ) (y : Id) → k < count → id_of k ≡ Some y → same_id y x ≡ false) → text_below id_of texts count x ≡ None
  none_below zero x none = refl
  none_below (suc n) x none = by (none_below n x (λ k y less at. none k y (omega (arith, less)) at)) (id_of n) refl (texts n)
    where
      by : text_below id_of texts n x ≡ None → (o : Option Id) → id_of n ≡ o → (text : Option (List ℕ)) → with_text o text (text_below id_of texts n x) x ≡ None
      by before None at text = before
      by before (Some y) at None = before
      by before (Some y) at (Some text) = ap (λ b. cond b (Some text) (text_below id_of texts n x)) (none n y (omega arith) at) ∙ before

  -- nor does one that another number has, where no two numbers are of one id
  pub none_before : AreApart id_of → (count k : ℕ) (x : Id) → count ≤ k → id_of k ≡ Some x → text_below id_of texts count x ≡ None
  none_before apart count k x less at = none_below count x (λ j y smaller there. apart j k y x (λ e. absurd (omega (arith, less, smaller, e))) there at)

  -- an id has the text of its number
  pub each_below : AreApart id_of → (count k : ℕ) (x : Id) → k < count → id_of k ≡ Some x → text_below id_of texts count x ≡ texts k
  each_below apart zero k x less at = absurd (omega (arith, less))
  each_below apart (suc n) k x less at = by (λ h. each_below apart n k x h at) (n == k) refl
    where
      before : Option (List ℕ)
      before = text_below id_of texts n x

      own : id_of n ≡ Some x → (text : Option (List ℕ)) → with_text (Some x) text before x ≡ text
      own there None = none_before apart n n x (omega arith) there
      own there (Some text) = ap (λ b. cond b (Some text) before) (itself x)

      other : (n ≡ k → ⊥) → before ≡ texts k → (o : Option Id) → id_of n ≡ o → (text : Option (List ℕ)) → with_text o text before x ≡ texts k
      other differ is None there text = is
      other differ is (Some y) there None = is
      other differ is (Some y) there (Some text) = ap (λ b. cond b (Some text) before) (apart n k y x differ there at) ∙ is

      smaller : (n ≡ k → ⊥) → ((k < n) ⊎ (n ≤ k)) → k < n
      smaller differ (inl h) = h
      smaller differ (inr h) = absurd (differ (omega (arith, less, h)))

      by : (k < n → before ≡ texts k) → (b : Bool) → (n == k) ≡ b → with_text (id_of n) (texts n) before x ≡ texts k
      by is true e = let same = eqb-true n k e in ap (λ o. with_text o (texts n) before x) (ap id_of same ∙ at) ∙ own (ap id_of same ∙ at) (texts n) ∙ ap texts same
      by is false e =
          let differ : n ≡ k → ⊥ = λ h. impossible (sym e ∙ eq-eqb n k h) in
          other differ (is (smaller differ (cases_lt k n))) (id_of n) refl (texts n)

  -- so the texts below a count are those of the numbers
  pub are_below : AreApart id_of → (count : ℕ) → AreTexts id_of count texts (text_below id_of texts count)
  are_below apart count = record {
    each = each_below apart count;
    no_other = none_below count;
  }

  -- where none has a text no id has one, and where one has some id has it
  pub none_has : (count : ℕ) → any_below id_of texts count ≡ false → (x : Id) → text_below id_of texts count x ≡ None
  none_has zero e x = refl
  none_has (suc n) e x = by (λ f. none_has n f x) (id_of n) (texts n) (any_below id_of texts n) refl e
    where
      by : (any_below id_of texts n ≡ false → text_below id_of texts n x ≡ None) → (o : Option Id) (text : Option (List ℕ)) (b : Bool) → any_below id_of texts n ≡ b → (b || is_some o && is_some text) ≡ false → with_text o text (text_below id_of texts n x) x ≡ None
      by before o text true f e = absurd (cc)
      by before None text false f e = before f
      by before (Some y) None false f e = before f
      by before (Some y) (Some text) false f e = absurd (cc)

  pub some_has : (count : ℕ) → any_below id_of texts count ≡ true → ((x : Id) → text_below id_of texts count x ≡ None) → ⊥
  some_has zero e none = impossible e
  some_has (suc n) e none = by (some_has n) (id_of n) refl (texts n) refl (any_below id_of texts n) refl e
    where
      still : (o : Option Id) (text : Option (List ℕ)) (x : Id) → with_text o text (text_below id_of texts n x) x ≡ None → text_below id_of texts n x ≡ None
      still None text x h = h
      still (Some y) None x h = h
      still (Some y) (Some text) x h = here (same_id y x) h
        where
          here : (b : Bool) → cond b (Some text) (text_below id_of texts n x) ≡ None → text_below id_of texts n x ≡ None
          here true h = absurd (cc)
          here false h = h

      by : (any_below id_of texts n ≡ true → ((x : Id) → text_below id_of texts n x ≡ None) → ⊥) → (o : Option Id) → id_of n ≡ o → (text : Option (List ℕ)) → texts n ≡ text → (b : Bool) → any_below id_of texts n ≡ b → (b || is_some o && is_some text) ≡ true → ⊥
      by before o at text there true f e = before f (λ x. still (id_of n) (texts n) x (none x))
      by before None at text there false f e = impossible e
      by before (Some y) at None there false f e = impossible e
      by before (Some y) at (Some text) there false f e = absurd (cc (sym (ap (λ b. cond b (Some text) (text_below id_of texts n y)) (itself y)) ∙ (λ j. with_text (sym at j) (sym there j) (text_below id_of texts n y) y) ∙ none y))

-- the ids that were looked at, one more: its text, which is another, is put into the table
pub other_put : (id_of : ℕ → Option Id) (texts : ℕ → Option (List ℕ)) (n : ℕ) (m o : BTreeMap Id (List ℕ)) (y : Id) (text : List ℕ)
    → ((x : Id) → found_in m x ≡ if_other x (text_below id_of texts n x)) → id_of n ≡ Some y → texts n ≡ Some text → pointwise nat_eq text y.0 ≡ false
    → ((x : Id) → found_in o x ≡ cond (same_id y x) (Some text) (found_in m x)) → (x : Id) → found_in o x ≡ if_other x (text_below id_of texts (suc n) x)
other_put id_of texts n m o y text before at there differ put x = put x ∙ by (same_id y x) refl ∙ sym (λ j. if_other x (with_text (at j) (there j) (text_below id_of texts n x) x))
  where
    by : (b : Bool) → same_id y x ≡ b → cond b (Some text) (found_in m x) ≡ if_other x (cond (same_id y x) (Some text) (text_below id_of texts n x))
    by true e = sym (ap (λ b. if_other x (cond b (Some text) (text_below id_of texts n x))) e ∙ ap (λ b. cond b None (Some text)) (ap (λ z. pointwise nat_eq text z.0) (sym (one_id y x e)) ∙ differ))
    by false e = before x ∙ sym (ap (λ b. if_other x (cond b (Some text) (text_below id_of texts n x))) e)

-- or is left out, where it is its own
pub own_left : (id_of : ℕ → Option Id) (texts : ℕ → Option (List ℕ)) (n : ℕ) (m : BTreeMap Id (List ℕ)) (y : Id) (text : List ℕ)
    → AreApart id_of → ((x : Id) → found_in m x ≡ if_other x (text_below id_of texts n x)) → id_of n ≡ Some y → texts n ≡ Some text → pointwise nat_eq text y.0 ≡ true
    → (x : Id) → found_in m x ≡ if_other x (text_below id_of texts (suc n) x)
own_left id_of texts n m y text apart before at there same x = before x ∙ by (same_id y x) refl ∙ sym (λ j. if_other x (with_text (at j) (there j) (text_below id_of texts n x) x))
  where
    by : (b : Bool) → same_id y x ≡ b → if_other x (text_below id_of texts n x) ≡ if_other x (cond (same_id y x) (Some text) (text_below id_of texts n x))
    by true e =
        ap (if_other x) (none_before id_of texts apart n n x (omega arith) (at ∙ ap Some (one_id y x e)))
        ∙ sym (ap (λ b. if_other x (cond b (Some text) (text_below id_of texts n x))) e ∙ ap (λ b. cond b None (Some text)) (ap (λ z. pointwise nat_eq text z.0) (sym (one_id y x e)) ∙ same))
    by false e = sym (ap (λ b. if_other x (cond b (Some text) (text_below id_of texts n x))) e)

-- what is made of the numbers below a count
pub record IsMade (id_of : ℕ → Option Id) (texts : ℕ → Option (List ℕ)) (count : ℕ) (any : Bool) (m : BTreeMap Id (List ℕ)) : Type 0 where
  pub any_is : any ≡ any_below id_of texts count
  pub table : (x : Id) → found_in m x ≡ if_other x (text_below id_of texts count x)

either_true : (b : Bool) → true ≡ (b || true)
either_true true = refl
either_true false = refl

differs : (b : Bool) → not b ≡ true → b ≡ false
differs true e = absurd (cc)
differs false e = refl

agrees : (b : Bool) → not b ≡ false → b ≡ true
agrees true e = refl
agrees false e = absurd (cc)

module _ (id_of : ℕ → Option Id) (texts : ℕ → Option (List ℕ)) (n : ℕ) (any : Bool) (m : BTreeMap Id (List ℕ)) (y : Id) (text : List ℕ)
    (made : IsMade id_of texts n any m) (at : id_of n ≡ Some y) (there : texts n ≡ Some text) where
  any_here : true ≡ any_below id_of texts (suc n)
  any_here = either_true (any_below id_of texts n) ∙ (λ j. any_below id_of texts n || is_some (sym at j) && is_some (sym there j))

  -- the table after a number: with its text, or as it was
  pub made_with : (o : BTreeMap Id (List ℕ)) → not (pointwise nat_eq text y.0) ≡ true → ((x : Id) → found_in o x ≡ cond (same_id y x) (Some text) (found_in m x)) → IsMade id_of texts (suc n) true o
  made_with o differ put = record {
    any_is = any_here;
    table = other_put id_of texts n m o y text made.table at there (differs (pointwise nat_eq text y.0) differ) put;
  }

  pub made_without : AreApart id_of → not (pointwise nat_eq text y.0) ≡ false → IsMade id_of texts (suc n) true m
  made_without apart same = record {
    any_is = any_here;
    table = own_left id_of texts n m y text apart made.table at there (agrees (pointwise nat_eq text y.0) same);
  }
