-- One part more of a page.
use Rattle.std.proofs.Common.{◌≡◌, ℕ, suc, ◌+◌, ◌<◌, ◌≤◌, List, [], ◌∷◌, ◌++◌, None, length, All, drop, take, get_or, sym, ap, ap₂, add-one, ◌∙◌, subst}
use Rattle.std.proofs.lemmas.List.{append-nil, append_assoc, take_all, take_more}
use Rattle.std.proofs.Math.Seq.{drop-cons}
use Rattle.std.proofs.lemmas.List.Elements.{All-append, All-cons, All-nil}
use Rattle.mucwathi_page.specs.declared.drawn.Use.{Use}
use Rattle.mucwathi_page.specs.Drawn.{EndsNoTag, as_html, drawn, end_of, escaped, up_to}

-- a byte more
html_push : (part : List ℕ) (b : ℕ) → as_html (part ++ b ∷ []) ≡ as_html part ++ escaped b
html_push [] b = append-nil (escaped b)
html_push (x ∷ part) b = ap (λ (l : List ℕ). escaped x ++ l) (html_push part b) ∙ sym (append_assoc (escaped x) (as_html part) (escaped b))

pub html_step : (part : List ℕ) (i : ℕ) (old mid new : List ℕ) → i < length part → mid ≡ old ++ as_html (take i part) → new ≡ mid ++ escaped (get_or part i 0) → new ≡ old ++ as_html (take (i + 1) part)
html_step part i old mid new below h k =
    k ∙ ap (λ (l : List ℕ). l ++ escaped (get_or part i 0)) h ∙ append_assoc old (as_html (take i part)) (escaped (get_or part i 0))
    ∙ ap (λ (l : List ℕ). old ++ l) (sym (html_push (take i part) (get_or part i 0)) ∙ ap as_html (sym (take_more part i 0 below)))

pub html_none : (old : List ℕ) → old ≡ old ++ as_html []
html_none old = sym (append-nil old)

pub html_all : (part : List ℕ) (i : ℕ) (old new : List ℕ) → length part ≤ i → new ≡ old ++ as_html (take i part) → new ≡ old ++ as_html part
html_all part i old new ended h = h ∙ ap (λ (l : List ℕ). old ++ as_html l) (take_all i part ended)

-- in the place of a name that is not there
abbrev pub no_use : Use
no_use = record { from = 0; to = 0; variable = 0; mark = 0; new = None }

-- what is drawn up to a name, and then from it on
drawn_step : (text : List ℕ) (from : ℕ) (u : Use) (us : List Use) (old new : List ℕ) → new ≡ old ++ up_to text from u → new ++ drawn text (end_of text from u) us ≡ old ++ drawn text from (u ∷ us)
drawn_step text from u us old new h = ap (λ (l : List ℕ). l ++ drawn text (end_of text from u) us) h ∙ append_assoc old (up_to text from u) (drawn text (end_of text from u) us)

pub rest_step : (text : List ℕ) (us : List Use) (i from to : ℕ) (old new all : List ℕ) → i < length us → old ++ drawn text from (drop i us) ≡ all → to ≡ end_of text from (get_or us i no_use) → new ≡ old ++ up_to text from (get_or us i no_use)
    → new ++ drawn text to (drop (i + 1) us) ≡ all
rest_step text us i from to old new all below h is added =
    ap₂ (λ place rest. new ++ drawn text place rest) is (ap (λ n. drop n us) (add-one i)) ∙ drawn_step text from (get_or us i no_use) (drop (suc i) us) old new added
    ∙ ap (λ rest. old ++ drawn text from rest) (sym (drop-cons us i no_use below)) ∙ h

-- what holds of the names so far, and of one more
pub inside_step : (us : List Use) (i : ℕ) (u d : Use) → i < length us → u ≡ get_or us i d → All EndsNoTag (take i us) → EndsNoTag u → All EndsNoTag (take (i + 1) us)
inside_step us i u d below is h k = subst (All EndsNoTag) (sym (take_more us i d below)) (All-append EndsNoTag (take i us) (get_or us i d ∷ []) h (All-cons EndsNoTag (get_or us i d) [] (subst EndsNoTag is k) (All-nil EndsNoTag)))

pub inside_all : (us : List Use) (i : ℕ) → length us ≤ i → All EndsNoTag (take i us) → All EndsNoTag us
inside_all us i ended h = subst (All EndsNoTag) (take_all i us ended) h
