-- One name more, and one id more.
use Rattle.std.proofs.Common.{◌≡◌, ℕ, zero, suc, ◌+◌, add-one, Bool, true, false, ◌||◌, Option, Some, List, [], ◌∷◌, ◌++◌, length, map, take, cond, refl, sym, ap, ◌∙◌}
use Rattle.std.specs.List.{list_any, slice_get}
use Rattle.std.specs.Option.{unwrap_or}
use Rattle.swc_base_rename_analysis.specs.declared.analysis.Site.{Site}
use Rattle.swc_base_rename_analysis.specs.declared.layout.Name.{Name}
use Rattle.swc_base_rename_analysis.specs.declared.layout.Region.{Region}
use Rattle.swc_base_rename_analysis.specs.declared.numbers.Entry.{Entry}
use Rattle.swc_base_rename_analysis.specs.Numbers.{Known, id_met, known_by, known_of, number_in, with_met}
use Rattle.swc_base_rename_analysis.specs.Read.{site_of, sites_by, taker}
use Rattle.swc_base_rename_analysis.specs.Walk.{Met, met_of}

met_at : (ns : List Name) (i : ℕ) (n : Name) → slice_get ns i ≡ Some n → slice_get (map met_of ns) i ≡ Some (met_of n)
met_at [] i n h = absurd (cc)
met_at (a ∷ ns) zero n h = let same : a ≡ n = cc in ap (λ a. Some (met_of a)) same
met_at (a ∷ ns) (suc i) n h = met_at ns i n h

pub met_length : (ns : List Name) → length (map met_of ns) ≡ length ns
met_length [] = refl
met_length (n ∷ ns) = ap (λ k. suc k) (met_length ns)

known_step : (i : ℕ) (ms : List Met) (m : Met) → slice_get ms i ≡ Some m → with_met i m (known_by ms i) ≡ known_by ms (suc i)
known_step i ms m h = rw h refl

pub known_next : (ns : List Name) (i : ℕ) (n : Name) (es fs : List Known) → slice_get ns i ≡ Some n → es ≡ known_by (map met_of ns) i → fs ≡ with_met i (met_of n) es → fs ≡ known_by (map met_of ns) (i + 1)
known_next ns i n es fs h was new = new ∙ ap (with_met i (met_of n)) was ∙ known_step i (map met_of ns) (met_of n) (met_at ns i n h) ∙ next
  where
    next : known_by (map met_of ns) (suc i) ≡ known_by (map met_of ns) (i + 1)
    next = rw add-one refl

sites_step : (rs : List Region) (i : ℕ) (ms : List Met) (m : Met) → slice_get ms i ≡ Some m
    → sites_by rs ms i ++ site_of i (unwrap_or (number_in (known_by ms (suc i)) (id_met m)) 0) (taker rs m) ≡ sites_by rs ms (suc i)
sites_step rs i ms m h = rw h refl

pub sites_next : (rs : List Region) (ns : List Name) (i : ℕ) (n : Name) (fs : List Known) (id : ℕ) (scope : Option ℕ) (old new : List Site) → slice_get ns i ≡ Some n
    → fs ≡ known_by (map met_of ns) (i + 1) → Some id ≡ number_in fs (id_met (met_of n)) → scope ≡ taker rs (met_of n)
    → old ≡ sites_by rs (map met_of ns) i → new ≡ old ++ site_of i id scope → new ≡ sites_by rs (map met_of ns) (i + 1)
sites_next rs ns i n fs id scope old new h known numbered is_taker was is =
    is
    ∙ (λ j. was j ++ site_of i (number j) (is_taker j))
    ∙ sites_step rs i (map met_of ns) (met_of n) (met_at ns i n h)
    ∙ next
  where
    known_one : known_by (map met_of ns) (i + 1) ≡ known_by (map met_of ns) (suc i)
    known_one = rw add-one refl

    number : id ≡ unwrap_or (number_in (known_by (map met_of ns) (suc i)) (id_met (met_of n))) 0
    number = ap (λ o. unwrap_or o 0) (numbered ∙ ap (λ fs. number_in fs (id_met (met_of n))) (known ∙ known_one))

    next : sites_by rs (map met_of ns) (suc i) ≡ sites_by rs (map met_of ns) (i + 1)
    next = rw add-one refl

either : (a b : Bool) → cond a true b ≡ (b || a)
either true true = refl
either true false = refl
either false true = refl
either false false = refl

or_next : (f : Known → Bool) (es : List Entry) (i : ℕ) (e : Entry) → slice_get es i ≡ Some e → list_any f (map known_of (take (suc i) es)) ≡ (list_any f (map known_of (take i es)) || f (known_of e))
or_next f [] i e h = absurd (cc)
or_next f (a ∷ es) zero e h = let same : a ≡ e = cc in ap (λ a. list_any f (known_of a ∷ [])) same ∙ alone (f (known_of e))
  where
    alone : (b : Bool) → (b || false) ≡ b
    alone true = refl
    alone false = refl
or_next f (a ∷ es) (suc i) e h = ap (λ b. f (known_of a) || b) (or_next f es i e h) ∙ again (f (known_of a)) (list_any f (map known_of (take i es))) (f (known_of e))
  where
    again : (a b c : Bool) → (a || (b || c)) ≡ ((a || b) || c)
    again true b c = refl
    again false b c = refl

-- one id more
pub any_next : (f : Known → Bool) (es : List Entry) (i : ℕ) (e : Entry) (was is : Bool) → slice_get es i ≡ Some e → was ≡ list_any f (map known_of (take i es)) → is ≡ cond (f (known_of e)) true was
    → is ≡ list_any f (map known_of (take (i + 1) es))
any_next f es i e was is h before now = now ∙ ap (cond (f (known_of e)) true) before ∙ either (f (known_of e)) (list_any f (map known_of (take i es))) ∙ sym (or_next f es i e h) ∙ next
  where
    next : list_any f (map known_of (take (suc i) es)) ≡ list_any f (map known_of (take (i + 1) es))
    next = rw add-one refl
