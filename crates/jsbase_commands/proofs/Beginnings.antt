-- Texts that are written one behind the other.
use Rattle.std.proofs.Common.{ℕ, ◌+◌, Option, Some, None, List, ◌++◌, length, take, sym, subst, ap, ◌∙◌, arith, append_assoc}
use Rattle.std.proofs.lemmas.List.{take-append-le}
use Rattle.std.proofs.Math.Seq.{take-append-add, take-length}
use Rattle.std.specs.Io.KnownBytes.{Appends}
use Rattle.jsbase_stream.specs.Bytes.{TakesBeginning}
use Rattle.jsbase_commands.specs.Faults.{IsBeginning}

both : (old mid new : Option (List ℕ)) (xs ys : List ℕ) → Appends old mid xs → Appends mid new ys → Appends old new (xs ++ ys)
both None mid new xs ys a b = tt
both (Some o) None new xs ys a b = elim a [ ]
both (Some o) (Some m) None xs ys a b = elim b [ ]
both (Some o) (Some m) (Some n) xs ys a b = b ∙ ap (λ zs. zs ++ ys) a ∙ append_assoc o xs ys

-- a beginning of what is written last is one of all
behind : (old mid new : Option (List ℕ)) (xs ys : List ℕ) → Appends old mid xs → IsBeginning mid new ys → IsBeginning old new (xs ++ ys)
behind old mid new xs ys a (n, b) = (length xs + n, subst (λ zs. Appends old new zs) (sym (take-append-add xs ys n)) (both old mid new xs (take n ys) a b))

-- a beginning of the first text is one of all
cut : (old new : Option (List ℕ)) (xs ys : List ℕ) (n : ℕ) → TakesBeginning old new xs n → IsBeginning old new (xs ++ ys)
cut old new xs ys n (less, a) = (n, subst (λ zs. Appends old new zs) (sym (take-append-le n xs ys (omega arith))) a)

-- all of a text is a beginning of it
whole : (old new : Option (List ℕ)) (xs : List ℕ) → Appends old new xs → IsBeginning old new xs
whole old new xs a = (length xs, subst (λ zs. Appends old new zs) (sym (take-length xs)) a)

part : (old new : Option (List ℕ)) (xs : List ℕ) (n : ℕ) → TakesBeginning old new xs n → IsBeginning old new xs
part old new xs n (less, a) = (n, a)

module _ (old mid late new : Option (List ℕ)) (xs ys zs : List ℕ) where
  -- three texts, of which the first, the second or the third was cut off, or none
  pub first_is_cut : (n : ℕ) → TakesBeginning old mid xs n → IsBeginning old mid (xs ++ ys ++ zs)
  first_is_cut n t = subst (λ all. IsBeginning old mid all) (sym (append_assoc xs ys zs)) (cut old mid xs (ys ++ zs) n t)

  pub second_is_cut : (n : ℕ) → Appends old mid xs → TakesBeginning mid late ys n → IsBeginning old late (xs ++ ys ++ zs)
  second_is_cut n a t = subst (λ all. IsBeginning old late all) (sym (append_assoc xs ys zs)) (behind old mid late xs (ys ++ zs) a (cut mid late ys zs n t))

  third : Appends old mid xs → Appends mid late ys → IsBeginning late new zs → IsBeginning old new (xs ++ ys ++ zs)
  third a b c = subst (λ all. IsBeginning old new all) (sym (append_assoc xs ys zs)) (behind old mid new xs (ys ++ zs) a (behind mid late new ys zs b c))

  pub third_is_cut : (n : ℕ) → Appends old mid xs → Appends mid late ys → TakesBeginning late new zs n → IsBeginning old new (xs ++ ys ++ zs)
  third_is_cut n a b t = third a b (part late new zs n t)

  pub none_is_cut : Appends old mid xs → Appends mid late ys → Appends late new zs → IsBeginning old new (xs ++ ys ++ zs)
  none_is_cut a b c = third a b (whole late new zs c)
