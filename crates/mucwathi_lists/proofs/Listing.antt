-- One line more.
use Rattle.std.proofs.Common.{◌≡◌, ℕ, ◌+◌, ◌<◌, List, [], ◌∷◌, ◌++◌, length, map, take, get_or, refl, sym, ap, ◌∙◌}
use Rattle.std.proofs.lemmas.List.{append-nil, append_assoc, map-append, take_more}
use Rattle.mucwathi_lists.specs.declared.changes.Change.{Change}
use Rattle.mucwathi_lists.specs.declared.changes.Occurrence.{Occurrence}
use Rattle.mucwathi_lists.specs.declared.lists.FreeName.{FreeName}
use Rattle.mucwathi_lists.specs.Changed.{Placed, Renamed, all_changed, changed, seen}
use Rattle.mucwathi_lists.specs.Listed.{change_line, changes_listed, lost_line, lost_listed, name_line, names_listed}

names_append : (text : List ℕ) (a b : List FreeName) → names_listed text (a ++ b) ≡ names_listed text a ++ names_listed text b
names_append text [] b = refl
names_append text (n ∷ ns) b = ap (λ (l : List ℕ). name_line text n ++ l) (names_append text ns b) ∙ sym (append_assoc (name_line text n) (names_listed text ns) (names_listed text b))

pub names_push : (text : List ℕ) (ns : List FreeName) (n : FreeName) (old new : List ℕ) → old ≡ names_listed text ns → new ≡ old ++ name_line text n → new ≡ names_listed text (ns ++ n ∷ [])
names_push text ns n old new h k =
    k ∙ ap (λ (l : List ℕ). l ++ name_line text n) h ∙ sym (names_append text ns (n ∷ []) ∙ ap (λ (l : List ℕ). names_listed text ns ++ l) (append-nil (name_line text n)))

changes_append : (prefix text : List ℕ) (a b : List Change) → changes_listed prefix text (a ++ b) ≡ changes_listed prefix text a ++ changes_listed prefix text b
changes_append prefix text [] b = refl
changes_append prefix text (c ∷ cs) b =
    ap (λ (l : List ℕ). change_line prefix text c ++ l) (changes_append prefix text cs b) ∙ sym (append_assoc (change_line prefix text c) (changes_listed prefix text cs) (changes_listed prefix text b))

pub changes_push : (prefix text : List ℕ) (cs : List Change) (c : Change) (old new : List ℕ) → old ≡ changes_listed prefix text cs → new ≡ old ++ change_line prefix text c → new ≡ changes_listed prefix text (cs ++ c ∷ [])
changes_push prefix text cs c old new h k =
    k ∙ ap (λ (l : List ℕ). l ++ change_line prefix text c) h ∙ sym (changes_append prefix text cs (c ∷ []) ∙ ap (λ (l : List ℕ). changes_listed prefix text cs ++ l) (append-nil (change_line prefix text c)))

-- lines are joined to the left
pub name_joined : (old place name a b c new : List ℕ) → a ≡ old ++ place → b ≡ a ++ 32 ∷ [] → c ≡ b ++ name → new ≡ c ++ 10 ∷ [] → new ≡ old ++ (place ++ 32 ∷ name ++ 10 ∷ [])
name_joined old place name a b c new one two three four = four ∙ ap (λ (l : List ℕ). l ++ 10 ∷ []) (three ∙ ap (λ (l : List ℕ). l ++ name) (two ∙ ap (λ (l : List ℕ). l ++ 32 ∷ []) one)) ∙ simp append_assoc

pub all_append : (olds a b : List Placed) → all_changed olds (a ++ b) ≡ all_changed olds a ++ all_changed olds b
all_append olds [] b = refl
all_append olds (s ∷ ss) b = ap (λ l. changed olds s ++ l) (all_append olds ss b) ∙ sym (append_assoc (changed olds s) (all_changed olds ss) (all_changed olds b))

pub all_push : (olds ss : List Placed) (s : Placed) → all_changed olds (ss ++ s ∷ []) ≡ all_changed olds ss ++ changed olds s
all_push olds ss s = all_append olds ss (s ∷ []) ∙ ap (λ l. all_changed olds ss ++ l) (append-nil (changed olds s))

pub names_step : (text : List ℕ) (ns : List FreeName) (i : ℕ) (n : FreeName) (old new : List ℕ) → i < length ns → n ≡ get_or ns i n → new ≡ old ++ name_line text n → old ≡ names_listed text (take i ns) → new ≡ names_listed text (take (i + 1) ns)
names_step text ns i n old new below is added h =
    names_push text (take i ns) n old new h added ∙ ap (names_listed text) (ap (λ (x : FreeName). take i ns ++ x ∷ []) is ∙ sym (take_more ns i n below))

pub changes_step : (prefix text : List ℕ) (cs : List Change) (i : ℕ) (c : Change) (old new : List ℕ) → i < length cs → c ≡ get_or cs i c → new ≡ old ++ change_line prefix text c → old ≡ changes_listed prefix text (take i cs)
    → new ≡ changes_listed prefix text (take (i + 1) cs)
changes_step prefix text cs i c old new below is added h =
    changes_push prefix text (take i cs) c old new h added ∙ ap (changes_listed prefix text) (ap (λ (x : Change). take i cs ++ x ∷ []) is ∙ sym (take_more cs i c below))

pub told_step : (olds : List Placed) (news : List Occurrence) (i : ℕ) (d o : Occurrence) (old new : List Renamed) → i < length news → o ≡ get_or news i d → new ≡ old ++ changed olds (seen o) → old ≡ all_changed olds (map seen (take i news))
    → new ≡ all_changed olds (map seen (take (i + 1) news))
told_step olds news i d o old new below is added h =
    let more : map seen (take (i + 1) news) ≡ map seen (take i news) ++ seen o ∷ [] =
    ap (map seen) (take_more news i d below) ∙ map-append seen (take i news) (get_or news i d ∷ []) ∙ ap (λ (x : Occurrence). map seen (take i news) ++ seen x ∷ []) (sym is) in
    added ∙ ap (λ l. l ++ changed olds (seen o)) h ∙ sym (ap (all_changed olds) more ∙ all_push olds (map seen (take i news)) (seen o))

-- what is told of one name more
pub change_joined : (old prefix place a b c x y d e new : List ℕ) → a ≡ old ++ prefix → b ≡ a ++ place → c ≡ b ++ 32 ∷ [] → d ≡ c ++ x → e ≡ d ++ 32 ∷ [] → (f : List ℕ) → f ≡ e ++ y → new ≡ f ++ 10 ∷ []
    → new ≡ old ++ (prefix ++ place ++ 32 ∷ x ++ 32 ∷ y ++ 10 ∷ [])
change_joined old prefix place a b c x y d e new one two three four five f six seven =
    seven ∙ ap (λ (l : List ℕ). l ++ 10 ∷ []) (six ∙ ap (λ (l : List ℕ). l ++ y) (five ∙ ap (λ (l : List ℕ). l ++ 32 ∷ []) (four ∙ ap (λ (l : List ℕ). l ++ x) (three ∙ ap (λ (l : List ℕ). l ++ 32 ∷ []) (two ∙ ap (λ (l : List ℕ). l ++ place) one))))) ∙ simp append_assoc

lost_append : (name text a b : List ℕ) → lost_listed name text (a ++ b) ≡ lost_listed name text a ++ lost_listed name text b
lost_append name text [] b = refl
lost_append name text (at ∷ more) b =
    ap (λ (l : List ℕ). lost_line name text at ++ l) (lost_append name text more b) ∙ sym (append_assoc (lost_line name text at) (lost_listed name text more) (lost_listed name text b))

lost_push : (name text ats : List ℕ) (at : ℕ) (old new : List ℕ) → old ≡ lost_listed name text ats → new ≡ old ++ lost_line name text at → new ≡ lost_listed name text (ats ++ at ∷ [])
lost_push name text ats at old new h k =
    k ∙ ap (λ (l : List ℕ). l ++ lost_line name text at) h ∙ sym (lost_append name text ats (at ∷ []) ∙ ap (λ (l : List ℕ). lost_listed name text ats ++ l) (append-nil (lost_line name text at)))

pub lost_step : (name text ats : List ℕ) (i d at : ℕ) (old new : List ℕ) → i < length ats → at ≡ get_or ats i d → new ≡ old ++ lost_line name text at → old ≡ lost_listed name text (take i ats) → new ≡ lost_listed name text (take (i + 1) ats)
lost_step name text ats i d at old new below is added h =
    lost_push name text (take i ats) at old new h added ∙ ap (lost_listed name text) (ap (λ (x : ℕ). take i ats ++ x ∷ []) is ∙ sym (take_more ats i d below))

pub lost_joined : (old name place tail a b c d new : List ℕ) → a ≡ old ++ name → b ≡ a ++ 58 ∷ [] → c ≡ b ++ place → d ≡ c ++ tail → new ≡ d ++ 10 ∷ [] → new ≡ old ++ (name ++ 58 ∷ place ++ tail ++ 10 ∷ [])
lost_joined old name place tail a b c d new one two three four five =
    five ∙ ap (λ (l : List ℕ). l ++ 10 ∷ []) (four ∙ ap (λ (l : List ℕ). l ++ tail) (three ∙ ap (λ (l : List ℕ). l ++ place) (two ∙ ap (λ (l : List ℕ). l ++ 58 ∷ []) one))) ∙ simp append_assoc
