-- Bytes of a reader and of a writer over two calls.
use Rattle.std.proofs.Common.{◌≡◌, ◌+◌, ◌-◌, ◌≤◌, ℕ, Option, Some, None, List, ◌++◌, drop, length, take, sym, subst, ap, ◌∙◌, arith}
use Rattle.std.proofs.Math.Seq.{take-add, take-length}
use Rattle.std.proofs.lemmas.List.{append_assoc, length-drop}
use Rattle.std.specs.Io.KnownBytes.{Appends, Consumes}

appends_both : (old mid new : Option (List ℕ)) (xs ys : List ℕ) → Appends old mid xs → Appends mid new ys → Appends old new (xs ++ ys)
appends_both None mid new xs ys a b = tt
appends_both (Some o) None new xs ys a b = elim a [ ]
appends_both (Some o) (Some m) None xs ys a b = elim b [ ]
appends_both (Some o) (Some m) (Some n) xs ys a b = b ∙ ap (λ zs. zs ++ ys) a ∙ append_assoc o xs ys

consumes_both : (old mid new : Option (List ℕ)) (xs ys : List ℕ) → Consumes old mid xs → Consumes mid new ys → Consumes old new (xs ++ ys)
consumes_both None mid new xs ys a b = tt
consumes_both (Some o) None new xs ys a b = elim a [ ]
consumes_both (Some o) (Some m) None xs ys a b = elim b [ ]
consumes_both (Some o) (Some m) (Some n) xs ys a b = a ∙ ap (λ zs. xs ++ zs) b ∙ sym (append_assoc xs ys n)

-- all that stands behind the first m
rest_of : (m : ℕ) (bytes : List ℕ) → take (length bytes - m) (drop m bytes) ≡ drop m bytes
rest_of m bytes = ap (λ n. take n (drop m bytes)) (sym (length-drop m bytes)) ∙ take-length (drop m bytes)

-- and it stands within the bytes
pub within_more : (bytes : List ℕ) (m n : ℕ) → m ≤ length bytes → n ≤ length (take (length bytes - m) (drop m bytes)) → m + n ≤ length bytes
within_more bytes m n p q =
    let left : n ≤ length bytes - m = subst (λ k. n ≤ k) (ap length (rest_of m bytes) ∙ length-drop m bytes) q in
    omega arith

-- what a further write takes stands behind what was taken
pub appends_more : (old mid new : Option (List ℕ)) (bytes : List ℕ) (m n : ℕ) → Appends old mid (take m bytes) → Appends mid new (take n (take (length bytes - m) (drop m bytes))) → Appends old new (take (m + n) bytes)
appends_more old mid new bytes m n a b =
    let more = subst (λ xs. Appends mid new (take n xs)) (rest_of m bytes) b in
    subst (λ xs. Appends old new xs) (sym (take-add m n bytes)) (appends_both old mid new (take m bytes) (take n (drop m bytes)) a more)

-- what a further read gives stands behind what was given
pub consumes_more : (old mid new : Option (List ℕ)) (before after : List ℕ) (m n : ℕ) → Consumes old mid (take m before) → take m after ≡ take m before → Consumes mid new (take n (drop m after)) → Consumes old new (take (m + n) after)
consumes_more old mid new before after m n a same b =
    subst (λ xs. Consumes old new xs) (ap (λ xs. xs ++ take n (drop m after)) (sym same) ∙ sym (take-add m n after)) (consumes_both old mid new (take m before) (take n (drop m after)) a b)
