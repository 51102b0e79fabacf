-- Members that are put in by the order of their keys.
use Rattle.std.proofs.Common.{◌≡◌, ◌≢◌, ℕ, List, Bool, true, false, cond, Option, Some, None, Ordering, Less, Equal, Greater, nat_cmp, bytes_eq, refl, sym, ap, ◌∙◌}
use Rattle.std.specs.Ordering.{match_ordering}
use Rattle.std.specs.Cmp.Lexicographic.{slice_cmp}
use Rattle.std.proofs.lemmas.Map.Text.{is_eq-slice_cmp}
use Rattle.std.proofs.lemmas.Slice.Eq.{bytes_eq-Decides}
use Rattle.json.specs.Json.{Json, Members, no_members, member}
use Rattle.json.specs.Find.{get_member, later_or}
use Rattle.jsbase_form.specs.Writing.{put}

differ : (k q : List ℕ) → q ≢ k → bytes_eq k q ≡ false
differ k q apart = at (bytes_eq k q) refl
  where
    at : (b : Bool) → bytes_eq k q ≡ b → bytes_eq k q ≡ false
    at true h = absurd (apart (sym ((bytes_eq-Decides k q).0 h)))
    at false h = h

equal : (k l : List ℕ) → slice_cmp nat_cmp k l ≡ Equal → k ≡ l
equal k l h = (bytes_eq-Decides k l).0 (sym (is_eq-slice_cmp k l) ∙ rw h refl)

same : (k : List ℕ) → bytes_eq k k ≡ true
same k = (bytes_eq-Decides k k).1 refl

nothing_earlier : (o : Option Json) → later_or o None ≡ o
nothing_earlier (Some d) = refl
nothing_earlier None = refl

none_later : (o e : Option Json) → later_or o e ≡ None → o ≡ None
none_later None e h = refl
none_later (Some d) e h = absurd (cc)

-- another key's value stays
pub put_other : (q k : List ℕ) (d : Json) (ms : Members) → q ≢ k → get_member q (put k d ms) ≡ get_member q ms
put_other q k d no_members apart = rw (differ k q apart) refl
put_other q k d (member l e ms) apart = at (slice_cmp nat_cmp k l) refl (put_other q k d ms apart)
  where
    at : (o : Ordering) → slice_cmp nat_cmp k l ≡ o → get_member q (put k d ms) ≡ get_member q ms → get_member q (match_ordering o (member k d (member l e ms)) (member l d ms) (member l e (put k d ms))) ≡ get_member q (member l e ms)
    at Less h rest = rw (differ k q apart) (nothing_earlier (get_member q (member l e ms)))
    at Equal h rest = let other = differ l q (λ is. apart (is ∙ sym (equal k l h))) in rw other refl
    at Greater h rest = ap (λ o. later_or o (cond (bytes_eq l q) (Some e) None)) rest

-- a new key has the value that was put in
pub put_new : (k : List ℕ) (d : Json) (ms : Members) → get_member k ms ≡ None → get_member k (put k d ms) ≡ Some d
put_new k d no_members new = rw (same k) refl
put_new k d (member l e ms) new = let later = none_later (get_member k ms) (cond (bytes_eq l k) (Some e) None) new in at (slice_cmp nat_cmp k l) refl later (put_new k d ms later)
  where
    at : (o : Ordering) → slice_cmp nat_cmp k l ≡ o → get_member k ms ≡ None → get_member k (put k d ms) ≡ Some d → get_member k (match_ordering o (member k d (member l e ms)) (member l d ms) (member l e (put k d ms))) ≡ Some d
    at Less h later rest = rw (new, same k) refl
    at Equal h later rest = let is : bytes_eq l k ≡ true = (bytes_eq-Decides l k).1 (sym (equal k l h)) in rw (later, is) refl
    at Greater h later rest = ap (λ o. later_or o (cond (bytes_eq l k) (Some e) None)) rest
