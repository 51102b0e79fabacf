-- One sign more.
use Rattle.std.proofs.Common.{◌≡◌, ℕ, suc, ◌+◌, ◌-◌, ◌<◌, ◌≤◌, List, [], ◌∷◌, ◌++◌, length, drop, take, get_or, arith, refl, sym, ap, ◌∙◌, subst, decimal, add-one, length-drop, length-take}
use Rattle.std.proofs.lemmas.List.{append-nil, append_assoc, drop-drop, take-append-drop, take_more, take_rest}
use Rattle.std.proofs.Math.ListN.{drop_of_length-le}
use Rattle.std.proofs.Math.Seq.{drop-cons}
use Rattle.mucwathi_signs.specs.declared.sign.Sign.{Sign}
use Rattle.mucwathi_signs.specs.Signed.{IsPut, IsSigned, more_marks, sign_text}

-- whatever follows a beginning, if it is what is left with its signs, makes the whole with its signs
abbrev pub Begins : List Sign → List ℕ → ℕ → ℕ → List ℕ → Type 0
Begins ss text i from out = (rest : List ℕ) → IsSigned from (drop i ss) (drop from text) rest → IsSigned 0 ss text (out ++ rest)

left_length : (text before : List ℕ) (from to : ℕ) → from ≤ length text → drop from text ≡ before ++ drop to text → from + length (before ++ drop to text) ≡ length text
left_length text before from to within left = rw (← left) (rw length-drop (omega arith))

pub begins_more : (ss : List Sign) (text : List ℕ) (i from to : ℕ) (s : Sign) (old new : List ℕ) → i < length ss → s ≡ get_or ss i s → from ≤ length text → IsPut text from s old new to → Begins ss text i from old → Begins ss text (i + 1) to new
begins_more ss text i from to s old new below is within put begins rest h =
    let there : IsSigned (from + length put.before) (drop (i + 1) ss) (drop to text) rest = subst (λ n. IsSigned n (drop (i + 1) ss) (drop to text) rest) put.moved h in
    let placed = λ (low : from ≤ s.at) (high : s.at ≤ from + length (put.before ++ drop to text)).
    let high : s.at ≤ length text = subst (λ n. s.at ≤ n) (left_length text put.before from to within put.left) high in
    put.placed low high ∙ put.moved in
    let one = IsSigned.signed from s (drop (i + 1) ss) put.before (drop to text) rest placed there in
    let cons : drop i ss ≡ s ∷ drop (i + 1) ss = drop-cons ss i s below ∙ ap (λ z. z ∷ drop (suc i) ss) (sym is) ∙ ap (λ n. s ∷ drop n ss) (sym (add-one i)) in
    let whole : IsSigned from (drop i ss) (drop from text) (put.before ++ sign_text s.marks.items ++ rest) =
    subst (λ l. IsSigned from l (drop from text) (put.before ++ sign_text s.marks.items ++ rest)) (sym cons)
    (subst (λ t. IsSigned from (s ∷ drop (i + 1) ss) t (put.before ++ sign_text s.marks.items ++ rest)) (sym put.left) one) in
    let same : old ++ (put.before ++ sign_text s.marks.items ++ rest) ≡ new ++ rest = rw put.added (simp append_assoc) in
    subst (IsSigned 0 ss text) same (begins (put.before ++ sign_text s.marks.items ++ rest) whole)

pub begins_all : (ss : List Sign) (text out : List ℕ) (i from : ℕ) → length ss ≤ i → Begins ss text i from out → IsSigned 0 ss text (out ++ drop from text)
begins_all ss text out i from ended begins =
    begins (drop from text) (subst (λ l. IsSigned from l (drop from text) (drop from text)) (sym (drop_of_length-le ss ended)) (IsSigned.plain from (drop from text)))

pub begins_none : (ss : List Sign) (text : List ℕ) → Begins ss text 0 0 []
begins_none ss text rest h = h

more_append : (a b : List ℕ) → more_marks (a ++ b) ≡ more_marks a ++ more_marks b
more_append [] b = refl
more_append (m ∷ ms) b = ap (λ (l : List ℕ). (46 ∷ decimal m) ++ l) (more_append ms b) ∙ sym (append_assoc (46 ∷ decimal m) (more_marks ms) (more_marks b))

pub one_more : (ms : List ℕ) (i : ℕ) (old mid new text : List ℕ) → i < length ms → text ≡ 46 ∷ decimal (get_or ms i 0) → mid ≡ old ++ more_marks (take i ms) → new ≡ mid ++ text → new ≡ old ++ more_marks (take (i + 1) ms)
one_more ms i old mid new text below told h k =
    let mark : List ℕ = 46 ∷ decimal (get_or ms i 0) in
    let more : more_marks (take (i + 1) ms) ≡ more_marks (take i ms) ++ mark =
    ap more_marks (take_more ms i 0 below) ∙ more_append (take i ms) (get_or ms i 0 ∷ []) ∙ ap (λ (z : List ℕ). more_marks (take i ms) ++ z) (append-nil mark) in
    k ∙ ap (λ (l : List ℕ). l ++ text) h ∙ ap (λ (t : List ℕ). old ++ more_marks (take i ms) ++ t) told ∙ append_assoc old (more_marks (take i ms)) mark ∙ ap (λ (l : List ℕ). old ++ l) (sym more)

sign_split : (ms : List ℕ) → 1 ≤ length ms → sign_text ms ≡ (35 ∷ decimal (get_or ms 0 0)) ++ more_marks (drop 1 ms)
sign_split [] h = absurd (omega arith)
sign_split (m ∷ ms) h = refl

pub sign_added : (ms old mid new text : List ℕ) → 1 ≤ length ms → text ≡ 35 ∷ decimal (get_or ms 0 0) → mid ≡ old ++ text → new ≡ mid ++ more_marks (take (length ms - 1) (drop 1 ms)) → new ≡ old ++ sign_text ms
sign_added ms old mid new text some told h k =
    let mark : List ℕ = 35 ∷ decimal (get_or ms 0 0) in
    k ∙ ap (λ (l : List ℕ). mid ++ more_marks l) (take_rest ms 1) ∙ ap (λ (l : List ℕ). l ++ more_marks (drop 1 ms)) (h ∙ ap (λ (t : List ℕ). old ++ t) told) ∙ append_assoc old mark (more_marks (drop 1 ms)) ∙ ap (λ (l : List ℕ). old ++ l) (sym (sign_split ms some))

dropped : (t : List ℕ) (a b : ℕ) → a ≤ b → drop (b - a) (drop a t) ≡ drop b t
dropped t a b h = drop-drop (b - a) a t ∙ ap (λ n. drop n t) (omega arith)

pub sign_put : (text : List ℕ) (from to : ℕ) (s : Sign) (old mid new marks : List ℕ) → from ≤ to → to ≤ length text → (from ≤ s.at → s.at ≤ length text → to ≡ s.at) → marks ≡ s.marks.items → mid ≡ old ++ take (to - from) (drop from text)
    → new ≡ mid ++ sign_text marks → IsPut text from s old new to
sign_put text from to s old mid new marks low high same are h k = record {
  before = take (to - from) (drop from text);
  left = sym (take-append-drop (to - from) (drop from text)) ∙ ap (λ (l : List ℕ). take (to - from) (drop from text) ++ l) (dropped text from to low);
  moved = rw (length-take, length-drop) (omega arith);
  within = high;
  placed = λ a b. sym (same a b);
  added = k ∙ ap (λ (l : List ℕ). l ++ sign_text marks) h ∙ ap (λ (ms : List ℕ). old ++ take (to - from) (drop from text) ++ sign_text ms) are;
}
