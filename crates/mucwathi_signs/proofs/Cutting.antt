-- One sign less.
use Rattle.std.proofs.Common.{◌≡◌, ℕ, ◌+◌, ◌-◌, ◌≤◌, Bool, IsTrue, nat_eq, List, [], ◌∷◌, ◌++◌, length, drop, take, arith, refl, sym, ap, ◌∙◌, subst, length-append}
use Rattle.std.proofs.lemmas.Bool.Decides.{Decides-eqb}
use Rattle.std.proofs.lemmas.List.{append-nil, append_assoc, take-append-drop}
use Rattle.std.proofs.lemmas.Slice.Eq.{slice_eq-Decides}
use Rattle.std.proofs.Math.Seq.{take-add}
use Rattle.std.specs.Cmp.Lexicographic.{pointwise}
use Rattle.mucwathi_signs.specs.declared.sign.Sign.{Sign}
use Rattle.mucwathi_signs.specs.Cut.{IsWrittenAt}
use Rattle.mucwathi_signs.specs.Signed.{IsMarked, sign_text}

-- a text before both
behind : {n : ℕ} {ss : List Sign} {a b : List ℕ} (from : ℕ) (t : List ℕ) → n ≡ from + length t → IsMarked n ss a b → IsMarked from ss (t ++ a) (t ++ b)
behind from t e (IsMarked.plain n text) = IsMarked.plain from (t ++ text)
behind from t e (IsMarked.marked n s ss before text out at h) =
    let reach : n + length before ≡ from + length (t ++ before) = rw length-append (omega arith) in
    let one : IsMarked from (s ∷ ss) ((t ++ before) ++ text) ((t ++ before) ++ sign_text s.marks.items ++ out) =
    IsMarked.marked from s ss (t ++ before) text out (at ∙ reach) (subst (λ m. IsMarked m ss text out) reach h) in
    subst (λ l. IsMarked from (s ∷ ss) l (t ++ (before ++ sign_text s.marks.items ++ out))) (append_assoc t before text)
    (subst (λ l. IsMarked from (s ∷ ss) ((t ++ before) ++ text) l) (simp append_assoc) one)

pub joined : {n : ℕ} {ss : List Sign} {a b : List ℕ} (us : List Sign) (c d : List ℕ) → IsMarked n ss a b → IsMarked (n + length a) us c d → IsMarked n (ss ++ us) (a ++ c) (b ++ d)
joined us c d (IsMarked.plain n text) k = behind n text refl k
joined us c d (IsMarked.marked n s ss before text out at h) k =
    let reach : n + length (before ++ text) ≡ n + length before + length text = rw length-append (omega arith) in
    let rest : IsMarked (n + length before) (ss ++ us) (text ++ c) (out ++ d) = joined us c d h (subst (λ m. IsMarked m us c d) reach k) in
    let one : IsMarked n (s ∷ (ss ++ us)) (before ++ (text ++ c)) (before ++ sign_text s.marks.items ++ (out ++ d)) =
    IsMarked.marked n s (ss ++ us) before (text ++ c) (out ++ d) at rest in
    subst (λ l. IsMarked n (s ∷ (ss ++ us)) l ((before ++ sign_text s.marks.items ++ out) ++ d)) (sym (append_assoc before text c))
    (subst (λ l. IsMarked n (s ∷ (ss ++ us)) (before ++ (text ++ c)) l) (simp append_assoc) one)

pub cut_none : (text plain : List ℕ) (ss : List Sign) → plain ≡ [] → ss ≡ [] → IsMarked 0 ss plain (take 0 text)
cut_none text plain ss empty none = subst (λ l. IsMarked 0 l plain (take 0 text)) (sym none) (subst (λ l. IsMarked 0 [] l (take 0 text)) (sym empty) (IsMarked.plain 0 []))

-- what is just what is written for marks
pub written_at : (text : List ℕ) (from to : ℕ) (marks part old written : List ℕ) (same : Bool) → (from ≤ to) × (to ≤ length text) → part ≡ take (to - from) (drop from text) → old ≡ [] → written ≡ old ++ sign_text marks → same ≡ pointwise nat_eq part written
    → IsTrue same → IsWrittenAt text from to marks
written_at text from to marks part old written same within is empty added test h = record {
  low = within.0;
  high = within.1;
  written = sym is ∙ (slice_eq-Decides Decides-eqb part written same test).0 h ∙ added ∙ ap (λ (l : List ℕ). l ++ sign_text marks) empty;
}

-- what is before a sign, and the sign
pub cut_more : (text : List ℕ) (from at to : ℕ) (s : Sign) (ss : List Sign) (plain : List ℕ) → from ≤ at → IsWrittenAt text at to s.marks.items → s.at ≡ length (plain ++ take (at - from) (drop from text)) → IsMarked 0 ss plain (take from text)
    → IsMarked 0 (ss ++ s ∷ []) (plain ++ take (at - from) (drop from text)) (take to text)
cut_more text from at to s ss plain low written is h =
    let before : List ℕ = take (at - from) (drop from text) in
    let sign : List ℕ = sign_text s.marks.items in
    let place : s.at ≡ 0 + length plain + length before = is ∙ rw length-append (omega arith) in
    let one : IsMarked (0 + length plain) (s ∷ []) (before ++ []) (before ++ sign ++ []) =
    IsMarked.marked (0 + length plain) s [] before [] [] place (IsMarked.plain (0 + length plain + length before) []) in
    let two : IsMarked (0 + length plain) (s ∷ []) before (before ++ sign) =
    subst (λ l. IsMarked (0 + length plain) (s ∷ []) l (before ++ sign)) (append-nil before) (subst (λ l. IsMarked (0 + length plain) (s ∷ []) (before ++ []) l) (append-nil (before ++ sign)) one) in
    let first : take at text ≡ take from text ++ before = let sum : from + (at - from) ≡ at = omega arith in ap (λ n. take n text) (sym sum) ∙ take-add from (at - from) text in
    let second : take to text ≡ take at text ++ sign = let sum : at + (to - at) ≡ to = omega arith in ap (λ n. take n text) (sym sum) ∙ take-add at (to - at) text ∙ ap (λ l. take at text ++ l) written.written in
    let whole : take from text ++ (before ++ sign) ≡ take to text = sym (second ∙ ap (λ l. l ++ sign) first ∙ append_assoc (take from text) before sign) in
    subst (λ l. IsMarked 0 (ss ++ s ∷ []) (plain ++ before) l) whole (joined (s ∷ []) before (before ++ sign) h two)

pub cut_all : (text : List ℕ) (from : ℕ) (ss : List Sign) (plain : List ℕ) → IsMarked 0 ss plain (take from text) → IsMarked 0 ss (plain ++ drop from text) text
cut_all text from ss plain h =
    subst (λ l. IsMarked 0 l (plain ++ drop from text) text) (append-nil ss)
    (subst (λ l. IsMarked 0 (ss ++ []) (plain ++ drop from text) l) (take-append-drop from text)
    (joined [] (drop from text) (drop from text) h (IsMarked.plain (0 + length plain) (drop from text))))

-- the same as it is noted
pub cut_step : (text : List ℕ) (from at to : ℕ) (s : Sign) (ss all : List Sign) (plain new : List ℕ) → from ≤ at → IsWrittenAt text at to s.marks.items → s.at ≡ length new → new ≡ plain ++ take (at - from) (drop from text) → all ≡ ss ++ s ∷ []
    → IsMarked 0 ss plain (take from text) → IsMarked 0 all new (take to text)
cut_step text from at to s ss all plain new low written is added noted h =
    let done : IsMarked 0 (ss ++ s ∷ []) (plain ++ take (at - from) (drop from text)) (take to text) = cut_more text from at to s ss plain low written (is ∙ ap length added) h in
    subst (λ l. IsMarked 0 l new (take to text)) (sym noted) (subst (λ l. IsMarked 0 (ss ++ s ∷ []) l (take to text)) (sym added) done)
