-- One byte more, and one text more.
use Rattle.std.specs.Prelude.{if◌then◌else◌}
use Rattle.std.proofs.Common.{◌≡◌, ℕ, ◌+◌, ◌-◌, ◌/◌, ◌%◌, ◌<◌, ◌≤◌, true, false, List, [], ◌∷◌, ◌++◌, Bor, nat_lt, length, map, drop, take, get_or, refl, sym, ap, ◌∙◌, arith}
use Rattle.std.proofs.lemmas.Bool.Decides.{nat_tests}
use Rattle.std.proofs.lemmas.List.{append-nil, append_assoc, map_more, take_all, take_more, take_rest}
use Rattle.mucwathi_mappings.specs.Quoted.{escaped, escaped_all, hex, quoted, quoted_all, quoted_more, takes_backslash}
use Rattle.mucwathi_mappings.specs.Names.{text_of}

-- ---- bytes

-- what is written for a byte with no backslash before it
abbrev in_full : ℕ → List ℕ
in_full b = 92 ∷ 117 ∷ 48 ∷ 48 ∷ hex (b / 16) ∷ hex (b % 16) ∷ []

pub backslash_added : (b : ℕ) (old new : List ℕ) → takes_backslash b ≡ true → new ≡ old ++ 92 ∷ b ∷ [] → new ≡ old ++ escaped b
backslash_added b old new is k = k ∙ ap (λ (l : List ℕ). old ++ l) (sym (ap (λ t. if t then 92 ∷ b ∷ [] else if nat_lt b 32 then in_full b else (b ∷ [])) is))

pub control_added : (b high low : ℕ) (old new : List ℕ) → takes_backslash b ≡ false → b < 32 → high ≡ hex (b / 16) → low ≡ hex (b % 16) → new ≡ old ++ 92 ∷ 117 ∷ 48 ∷ 48 ∷ high ∷ low ∷ [] → new ≡ old ++ escaped b
control_added b high low old new is small first second k =
    let test : nat_lt b 32 ≡ true = grind (arith, nat_tests) in
    let whole : escaped b ≡ in_full b =
    ap (λ t. if t then 92 ∷ b ∷ [] else if nat_lt b 32 then in_full b else (b ∷ [])) is ∙ ap (λ t. if t then in_full b else (b ∷ [])) test in
    k ∙ ap (λ d. old ++ 92 ∷ 117 ∷ 48 ∷ 48 ∷ d ∷ low ∷ []) first ∙ ap (λ d. old ++ 92 ∷ 117 ∷ 48 ∷ 48 ∷ hex (b / 16) ∷ d ∷ []) second ∙ ap (λ (l : List ℕ). old ++ l) (sym whole)

pub byte_added : (b : ℕ) (old new : List ℕ) → takes_backslash b ≡ false → 32 ≤ b → new ≡ old ++ b ∷ [] → new ≡ old ++ escaped b
byte_added b old new is great k =
    let test : nat_lt b 32 ≡ false = grind (arith, nat_tests) in
    let whole : escaped b ≡ b ∷ [] =
    ap (λ t. if t then 92 ∷ b ∷ [] else if nat_lt b 32 then in_full b else (b ∷ [])) is ∙ ap (λ t. if t then in_full b else (b ∷ [])) test in
    k ∙ ap (λ (l : List ℕ). old ++ l) (sym whole)

escaped_append : (a b : List ℕ) → escaped_all (a ++ b) ≡ escaped_all a ++ escaped_all b
escaped_append [] b = refl
escaped_append (x ∷ xs) b = ap (λ (l : List ℕ). escaped x ++ l) (escaped_append xs b) ∙ sym (append_assoc (escaped x) (escaped_all xs) (escaped_all b))

pub escaped_push : (text : List ℕ) (i : ℕ) (old mid new : List ℕ) → i < length text → mid ≡ old ++ escaped_all (take i text) → new ≡ mid ++ escaped (get_or text i 0) → new ≡ old ++ escaped_all (take (i + 1) text)
escaped_push text i old mid new below h k =
    let one : List ℕ = escaped (get_or text i 0) in
    let more : escaped_all (take (i + 1) text) ≡ escaped_all (take i text) ++ one =
    ap escaped_all (take_more text i 0 below) ∙ escaped_append (take i text) (get_or text i 0 ∷ []) ∙ ap (λ (l : List ℕ). escaped_all (take i text) ++ l) (append-nil one) in
    k ∙ ap (λ (l : List ℕ). l ++ one) h ∙ append_assoc old (escaped_all (take i text)) one ∙ ap (λ (l : List ℕ). old ++ l) (sym more)

pub escaped_end : (text : List ℕ) (i : ℕ) (old new : List ℕ) → length text ≤ i → new ≡ old ++ escaped_all (take i text) → new ≡ old ++ escaped_all text
escaped_end text i old new ended h = h ∙ ap (λ (l : List ℕ). old ++ escaped_all l) (take_all i text ended)

-- ---- texts

pub quoted_added : (text bytes old a b new : List ℕ) → bytes ≡ text → a ≡ old ++ 34 ∷ [] → b ≡ a ++ escaped_all bytes → new ≡ b ++ 34 ∷ [] → new ≡ old ++ quoted text
quoted_added text bytes old a b new are first second third =
    third
    ∙ ap (λ (l : List ℕ). l ++ 34 ∷ []) (second ∙ ap (λ (l : List ℕ). l ++ escaped_all bytes) first ∙ ap (λ (l : List ℕ). old ++ 34 ∷ [] ++ escaped_all l) are ∙ append_assoc old (34 ∷ []) (escaped_all text))
    ∙ append_assoc old (34 ∷ escaped_all text) (34 ∷ [])

more_append : (a b : List (List ℕ)) → quoted_more (a ++ b) ≡ quoted_more a ++ quoted_more b
more_append [] b = refl
more_append (x ∷ xs) b = ap (λ (l : List ℕ). 44 ∷ quoted x ++ l) (more_append xs b) ∙ sym (append_assoc (44 ∷ quoted x) (quoted_more xs) (quoted_more b))

pub more_push : (ts : List (Bor (List ℕ))) (i : ℕ) (d : Bor (List ℕ)) (old mid comma new : List ℕ) → i < length ts → mid ≡ old ++ quoted_more (map text_of (take i ts)) → comma ≡ mid ++ 44 ∷ [] → new ≡ comma ++ quoted (text_of (get_or ts i d))
    → new ≡ old ++ quoted_more (map text_of (take (i + 1) ts))
more_push ts i d old mid comma new below h j k =
    let one : List ℕ = quoted (text_of (get_or ts i d)) in
    let before : List ℕ = quoted_more (map text_of (take i ts)) in
    let more : quoted_more (map text_of (take (i + 1) ts)) ≡ before ++ 44 ∷ one =
    ap quoted_more (map_more text_of ts i d below) ∙ more_append (map text_of (take i ts)) (text_of (get_or ts i d) ∷ []) ∙ ap (λ (l : List ℕ). before ++ l) (append-nil (44 ∷ one)) in
    k ∙ ap (λ (l : List ℕ). l ++ one) (j ∙ ap (λ (l : List ℕ). l ++ 44 ∷ []) h)
    ∙ append_assoc (old ++ before) (44 ∷ []) one
    ∙ append_assoc old before (44 ∷ one)
    ∙ ap (λ (l : List ℕ). old ++ l) (sym more)

pub more_end : (ts : List (Bor (List ℕ))) (i : ℕ) (old new : List ℕ) → length ts ≤ i → new ≡ old ++ quoted_more (map text_of (take i ts)) → new ≡ old ++ quoted_more (map text_of ts)
more_end ts i old new ended h = h ∙ ap (λ (l : List (Bor (List ℕ))). old ++ quoted_more (map text_of l)) (take_all i ts ended)

texts_split : (ts : List (Bor (List ℕ))) (d : Bor (List ℕ)) → 1 ≤ length ts → quoted_all (map text_of ts) ≡ quoted (text_of (get_or ts 0 d)) ++ quoted_more (map text_of (drop 1 ts))
texts_split [] d some = absurd (omega arith)
texts_split (t ∷ ts) d some = refl

pub texts_added : (ts : List (Bor (List ℕ))) (d : Bor (List ℕ)) (old mid new : List ℕ) → 1 ≤ length ts → mid ≡ old ++ quoted (text_of (get_or ts 0 d)) → new ≡ mid ++ quoted_more (map text_of (take (length ts - 1) (drop 1 ts)))
    → new ≡ old ++ quoted_all (map text_of ts)
texts_added ts d old mid new some h k =
    let one : List ℕ = quoted (text_of (get_or ts 0 d)) in
    k ∙ ap (λ (l : List (Bor (List ℕ))). mid ++ quoted_more (map text_of l)) (take_rest ts 1)
    ∙ ap (λ (l : List ℕ). l ++ quoted_more (map text_of (drop 1 ts))) h
    ∙ append_assoc old one (quoted_more (map text_of (drop 1 ts)))
    ∙ ap (λ (l : List ℕ). old ++ l) (sym (texts_split ts d some))
