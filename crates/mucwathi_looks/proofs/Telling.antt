-- Nodes told of, one beside another.
use Rattle.std.specs.Prelude.{if◌then◌else◌}
use Rattle.std.proofs.Common.{◌≡◌, ℕ, zero, suc, ◌+◌, ◌-◌, ◌<◌, ◌≤◌, ◌||◌, true, false, List, [], ◌∷◌, ◌++◌, Option, Some, None, map, take, length, get_or, nat_eq, option_map, refl, sym, ap, ◌∙◌, subst, arith, length-take}
use Rattle.std.proofs.lemmas.List.{append-nil, append_assoc, length-map, map_more, map_push, take_all}
use Rattle.mucwathi_mappings.specs.declared.nodes.Mapped.{Mapped}
use Rattle.mucwathi_mappings.specs.Names.{text_of}
use Rattle.mucwathi_looks.specs.declared.spots.Spot.{Spot}
use Rattle.mucwathi_looks.specs.Spots.{Stood, ToldNode, all_told, old_name, other_than, seen, told, told_of}

pub nowhere_told : (names : ℕ → Option (List ℕ)) (new out : Stood) (old : List ToldNode) → (nat_eq new.0 0 || nat_eq out.0 0) ≡ true → old ≡ old ++ told_of names new out
nowhere_told names new out old is =
    sym (append-nil old) ∙ ap (λ (l : List ToldNode). old ++ l) (sym (ap (λ b. if b then [] else ((new.0 - 1, out.0 - 1, old_name names new) ∷ [])) is))

node_told : (names : ℕ → Option (List ℕ)) (new out : Stood) (old all : List ToldNode) → (nat_eq new.0 0 || nat_eq out.0 0) ≡ false → all ≡ old ++ (new.0 - 1, out.0 - 1, old_name names new) ∷ [] → all ≡ old ++ told_of names new out
node_told names new out old all is added =
    added ∙ ap (λ (l : List ToldNode). old ++ l) (sym (ap (λ b. if b then [] else ((new.0 - 1, out.0 - 1, old_name names new) ∷ [])) is))

pub node_added : (names : ℕ → Option (List ℕ)) (new out : Spot) (m : Mapped) (old all : List Mapped) → (nat_eq new.lo 0 || nat_eq out.lo 0) ≡ false → m.read ≡ new.lo - 1 → m.written ≡ out.lo - 1
    → option_map text_of m.old ≡ old_name names (seen new) → all ≡ old ++ m ∷ [] → map told all ≡ map told old ++ told_of names (seen new) (seen out)
node_added names new out m old all is first second third added =
    let row : told m ≡ (new.lo - 1, out.lo - 1, old_name names (seen new)) =
    ap (λ (n : ℕ). (n, m.written, option_map text_of m.old)) first ∙ ap (λ (n : ℕ). (new.lo - 1, n, option_map text_of m.old)) second ∙ ap (λ (o : Option (List ℕ)). (new.lo - 1, out.lo - 1, o)) third in
    node_told names (seen new) (seen out) (map told old) (map told all) is (ap (map told) added ∙ map_push told old m ∙ ap (λ (n : ToldNode). map told old ++ n ∷ []) row)

all_push : (names : ℕ → Option (List ℕ)) (ns os : List Stood) (n o : Stood) → length ns ≡ length os → all_told names (ns ++ n ∷ []) (os ++ o ∷ []) ≡ all_told names ns os ++ told_of names n o
all_push names [] [] n o same = append-nil (told_of names n o)
all_push names [] (y ∷ os) n o same = absurd (omega arith)
all_push names (x ∷ ns) [] n o same = absurd (omega arith)
all_push names (x ∷ ns) (y ∷ os) n o same =
    let tails : length ns ≡ length os = omega arith in
    ap (λ (l : List ToldNode). told_of names x y ++ l) (all_push names ns os n o tails) ∙ sym (append_assoc (told_of names x y) (all_told names ns os) (told_of names n o))

pub told_step : (names : ℕ → Option (List ℕ)) (news outs : List Spot) (i : ℕ) (d n o : Spot) (mid new : List ToldNode) → length news ≡ length outs → i < length news → i < length outs → n ≡ get_or news i d → o ≡ get_or outs i d
    → mid ≡ all_told names (map seen (take i news)) (map seen (take i outs)) → new ≡ mid ++ told_of names (seen n) (seen o) → new ≡ all_told names (map seen (take (i + 1) news)) (map seen (take (i + 1) outs))
told_step names news outs i d n o mid new same below within first second h k =
    let more_news : map seen (take (i + 1) news) ≡ map seen (take i news) ++ seen n ∷ [] = map_more seen news i d below ∙ ap (λ (x : Spot). map seen (take i news) ++ seen x ∷ []) (sym first) in
    let more_outs : map seen (take (i + 1) outs) ≡ map seen (take i outs) ++ seen o ∷ [] = map_more seen outs i d within ∙ ap (λ (x : Spot). map seen (take i outs) ++ seen x ∷ []) (sym second) in
    let lengths : length (map seen (take i news)) ≡ length (map seen (take i outs)) = rw (length-map, length-take, length-map, length-take) (omega arith) in
    k ∙ ap (λ (l : List ToldNode). l ++ told_of names (seen n) (seen o)) h
    ∙ sym (all_push names (map seen (take i news)) (map seen (take i outs)) (seen n) (seen o) lengths)
    ∙ ap (λ (l : List Stood). all_told names l (map seen (take i outs) ++ seen o ∷ [])) (sym more_news)
    ∙ ap (λ (l : List Stood). all_told names (map seen (take (i + 1) news)) l) (sym more_outs)

pub told_all : (names : ℕ → Option (List ℕ)) (news outs : List Spot) (i : ℕ) (all : List ToldNode) → length news ≡ length outs → length news ≤ i → all ≡ all_told names (map seen (take i news)) (map seen (take i outs)) → all ≡ all_told names (map seen news) (map seen outs)
told_all names news outs i all same ended h =
    let other : length outs ≤ i = omega arith in
    h ∙ ap (λ (l : List Spot). all_told names (map seen l) (map seen (take i outs))) (take_all i news ended) ∙ ap (λ (l : List Spot). all_told names (map seen news) (map seen l)) (take_all i outs other)

names_same : (n o : Stood) (f g : ℕ → Option (List ℕ)) → ((place : ℕ) → f place ≡ g place) → told_of f n o ≡ told_of g n o
names_same (place, None) o f g same = refl
names_same (place, Some name) o f g same =
    ap (λ (t : Option (List ℕ)). if nat_eq place 0 || nat_eq o.0 0 then [] else ((place - 1, o.0 - 1, other_than name t) ∷ [])) (same place)

pub told_by : (f g : ℕ → Option (List ℕ)) (ns os : List Stood) → ((place : ℕ) → f place ≡ g place) → all_told f ns os ≡ all_told g ns os
told_by f g [] os same = refl
told_by f g (n ∷ ns) [] same = refl
told_by f g (n ∷ ns) (o ∷ os) same = ap (λ (l : List ToldNode). l ++ all_told f ns os) (names_same n o f g same) ∙ ap (λ (l : List ToldNode). told_of g n o ++ l) (told_by f g ns os same)
