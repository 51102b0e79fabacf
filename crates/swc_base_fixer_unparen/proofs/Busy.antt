-- Lists of which the same is busy.
use Rattle.std.proofs.Common.{◌≡◌, Bool, true, false, not, ◌&&◌, List, [], ◌∷◌, ◌++◌, take, refl, sym, ap, ◌∙◌}
use Rattle.std.specs.Prelude.{if◌then◌else◌}
use Rattle.std.specs.List.{filter, list_all}
use Rattle.std.proofs.lemmas.List.Elements.{filter-append}
use Rattle.std.proofs.lemmas.List.Folds.{list_all-append}
use Rattle.swc_tree_node.specs.declared.node.Node.{Node}
use Rattle.swc_tree_node.proofs.Fit.{both, and_both}
use Rattle.swc_tree_grammar.specs.Stripped.{busy, is_idle}
use Rattle.swc_tree_grammar.proofs.Induction.{Each}
use Rattle.swc_base_fixer_unparen.specs.Gathered.{Same}

abbrev is_busy : Node → Bool
is_busy e = not (is_idle e)

pub same_itself : (es : List Node) → Same es es
same_itself es = (refl, refl, λ h. refl)

pub same_through : (a b c : List Node) → Same a b → Same b c → Same a c
same_through a b c h g = (h.0 ∙ g.0, h.1 ∙ g.1, λ i. h.2 i ∙ g.2 (sym h.1 ∙ i))

first_of_both : (a b c d : List Node) → take 1 a ≡ take 1 b → take 1 c ≡ take 1 d → take 1 (a ++ c) ≡ take 1 (b ++ d)
first_of_both [] [] c d h g = g
first_of_both [] (y ∷ b) c d h g = absurd (cc)
first_of_both (x ∷ a) [] c d h g = absurd (cc)
first_of_both (x ∷ a) (y ∷ b) c d h g = h

pub same_behind : (a b c d : List Node) → Same a b → Same c d → Same (a ++ c) (b ++ d)
same_behind a b c d h g = (
  filter-append is_busy a c ∙ ap (λ l. l ++ filter is_busy c) h.0 ∙ ap (λ l. filter is_busy b ++ l) g.0 ∙ sym (filter-append is_busy b d),
  list_all-append is_idle a c ∙ ap (λ x. x && list_all is_idle c) h.1 ∙ ap (λ x. list_all is_idle b && x) g.1 ∙ sym (list_all-append is_idle b d),
  λ i. (let p = both (list_all is_idle a) (list_all is_idle c) (sym (list_all-append is_idle a c) ∙ i) in first_of_both a b c d (h.2 p.0) (g.2 p.1)),
)

either : (x y : Bool) (es fs : List Node) → x ≡ y → (x ≡ true → take 1 es ≡ take 1 fs) → filter is_busy es ≡ filter is_busy fs
    → (if x then take 1 es else filter is_busy es) ≡ (if y then take 1 fs else filter is_busy fs)
either true true es fs e t f = t refl
either false false es fs e t f = f
either true false es fs e t f = absurd (cc)
either false true es fs e t f = absurd (cc)

pub busy_of_same : (es fs : List Node) → Same es fs → busy es ≡ busy fs
busy_of_same es fs s = either (list_all is_idle es) (list_all is_idle fs) es fs s.1 s.2 s.0

none_if : (b : Bool) (e : Node) (es : List Node) → b ≡ true → es ≡ [] → (if not b then e ∷ es else es) ≡ []
none_if true e es h g = g
none_if false e es h g = absurd (cc)

none_left : (es : List Node) → list_all is_idle es ≡ true → filter is_busy es ≡ []
none_left [] h = refl
none_left (e ∷ es) h = let p = both (is_idle e) (list_all is_idle es) h in none_if (is_idle e) e (filter is_busy es) p.0 (none_left es p.1)

twice_if : (b : Bool) (e : Node) (es : List Node) → is_idle e ≡ b → filter is_busy es ≡ es → filter is_busy (if not b then e ∷ es else es) ≡ (if not b then e ∷ es else es)
twice_if true e es h g = g
twice_if false e es h g = ap (λ x. if not x then e ∷ filter is_busy es else filter is_busy es) h ∙ ap (λ l. e ∷ l) g

twice : (es : List Node) → filter is_busy (filter is_busy es) ≡ filter is_busy es
twice [] = refl
twice (e ∷ es) = twice_if (is_idle e) e (filter is_busy es) refl (twice es)

some_if : (b : Bool) (e : Node) (es : List Node) → is_idle e ≡ b → (b && list_all is_idle es) ≡ false → (list_all is_idle es ≡ false → list_all is_idle (filter is_busy es) ≡ false)
    → list_all is_idle (if not b then e ∷ filter is_busy es else filter is_busy es) ≡ false
some_if true e es h g k = k g
some_if false e es h g k = ap (λ x. x && list_all is_idle (filter is_busy es)) h

some_left : (es : List Node) → list_all is_idle es ≡ false → list_all is_idle (filter is_busy es) ≡ false
some_left [] h = absurd (cc)
some_left (e ∷ es) h = some_if (is_idle e) e es refl h (some_left es)

same_if : (b : Bool) (es : List Node) → list_all is_idle es ≡ b → Same es (if b then take 1 es else filter is_busy es)
same_if true [] i = same_itself []
same_if true (e ∷ es) i =
    let one : list_all is_idle (e ∷ []) ≡ true = and_both (is_idle e) true ((both (is_idle e) (list_all is_idle es) i).0) refl in
    (none_left (e ∷ es) i ∙ sym (none_left (e ∷ []) one), i ∙ sym one, λ h. refl)
same_if false es i = (sym (twice es), i ∙ sym (some_left es i), λ h. absurd (cc))

pub same_as_busy : (es : List Node) → Same es (busy es)
same_as_busy es = same_if (list_all is_idle es) es refl

-- ---- what holds of each

pub each_behind : (P : Node → Type 0) (ts us : List Node) → Each P ts → Each P us → Each P (ts ++ us)
each_behind P [] us h g = g
each_behind P (t ∷ ts) us h g = (h.0, each_behind P ts us h.1 g)

chosen_if : (P : Node → Type 0) (b : Bool) (t : Node) (ts : List Node) → P t → Each P ts → Each P (if b then t ∷ ts else ts)
chosen_if P true t ts h g = (h, g)
chosen_if P false t ts h g = g

each_chosen : (P : Node → Type 0) (p : Node → Bool) (ts : List Node) → Each P ts → Each P (filter p ts)
each_chosen P p [] h = tt
each_chosen P p (t ∷ ts) h = chosen_if P (p t) t (filter p ts) h.0 (each_chosen P p ts h.1)

each_first : (P : Node → Type 0) (ts : List Node) → Each P ts → Each P (take 1 ts)
each_first P [] h = tt
each_first P (t ∷ ts) h = (h.0, tt)

each_if : (P : Node → Type 0) (b : Bool) (ts : List Node) → Each P ts → Each P (if b then take 1 ts else filter is_busy ts)
each_if P true ts h = each_first P ts h
each_if P false ts h = each_chosen P is_busy ts h

pub each_busy : (P : Node → Type 0) (ts : List Node) → Each P ts → Each P (busy ts)
each_busy P ts h = each_if P (list_all is_idle ts) ts h
