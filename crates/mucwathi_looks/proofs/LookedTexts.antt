-- A set of texts, and one more.
use Rattle.std.proofs.Common.{◌≡◌, ℕ, Bool, true, false, IsTrue, ◌⊎◌, inl, inr, ⊎_elim, List, [], Bor, cond, arith, refl, sym, ◌∙◌, subst}
use Rattle.std.proofs.lemmas.Cmp.{same_from_slice_cmp}
use Rattle.std.proofs.lemmas.Bool.Decides.{nat_tests}
use Rattle.std.proofs.lemmas.Slice.Eq.{bytes_eq-Decides}
use Rattle.std.specs.BTreeMap.{is_at}
use Rattle.std.specs.BTreeSet as set
use Rattle.std.specs.Cmp.Lexicographic.{slice_cmp}
use Rattle.std.specs.List.{list_any}
use Rattle.std.specs.Ordering.{is_eq, nat_cmp}
use Rattle.std.specs.Str.{bytes_eq}
use Rattle.std.specs.declared.cmp.Ordering.{Ordering}
use Rattle.mucwathi_looks.specs.Names.{AddsText, Texts, has_text}

abbrev text_cmp : Bor (List ℕ) → Bor (List ℕ) → Ordering
text_cmp a b = slice_cmp nat_cmp a.now b.now

same_text : (x y : List ℕ) → is_eq (slice_cmp nat_cmp x y) ≡ bytes_eq x y
same_text x y = same_from_slice_cmp nat_cmp is_eq bytes_eq refl (λ _ _. refl) (λ _ _. refl) (λ x y xs ys o h. grind (arith, nat_tests)) x y (slice_cmp nat_cmp x y) refl

pub adds_text : (x : List ℕ) (old new : Texts) → set.UpdatesBy text_cmp (λ b. slice_cmp nat_cmp x b.now) old new true → AddsText x old new
adds_text x old new updates y =
    let q : Bor (List ℕ) = record { ref_ptr = (0, 0); now = y } in
    (λ has. by (is_eq (slice_cmp nat_cmp x y)) refl (sym (updates.0 q) ∙ has), λ h. updates.0 q ∙ back (is_eq (slice_cmp nat_cmp x y)) refl h)
  where
    by : (b : Bool) → is_eq (slice_cmp nat_cmp x y) ≡ b → cond b true (has_text old y) ≡ true → IsTrue (has_text old y) ⊎ (y ≡ x)
    by true e h = inr (sym ((bytes_eq-Decides x y).0 (sym (same_text x y) ∙ e)))
    by false e h = inl h

    back : (b : Bool) → is_eq (slice_cmp nat_cmp x y) ≡ b → IsTrue (has_text old y) ⊎ (y ≡ x) → cond b true (has_text old y) ≡ true
    back true e h = refl
    back false e (inl h) = h
    back false e (inr same) =
        let told = same_text x y ∙ (bytes_eq-Decides x y).1 (sym same) in
        absurd (cc)

-- one that was seen is added to no set
pub adds_seen : (x : List ℕ) (old : Texts) → IsTrue (has_text old x) → AddsText x old old
adds_seen x old has y = (λ there. inl there, λ h. ⊎_elim (λ there. there) (λ same. subst (λ y. IsTrue (has_text old y)) (sym same) has) h)

pub no_text : (seen : Texts) → seen.keys ≡ [] → (x : List ℕ) → IsTrue (has_text seen x) → ⊥
no_text seen empty x has = never (subst (λ ks. IsTrue (list_any (is_at (λ (k : Bor (List ℕ)). slice_cmp nat_cmp x k.now)) ks)) empty has)
  where
    never : IsTrue false → ⊥
    never h = absurd (cc)
