-- Values, a unit at a time.
use Rattle.std.proofs.Common.{◌≡◌, ap, sym, ◌∙◌, ℕ, suc, ◌&&◌, ◌==◌, nat_eq, true, false, Bool, Option, Some, None, Result, Ok, Err, cond, List, [], ◌∷◌, ◌++◌, length, drop, refl, is_some, append_assoc}
use lib.Dec.{eqb-suc-zero}
use Rattle.std.proofs.lemmas.List.{append-nil}
use Rattle.std.specs.Prelude.{option_map, bytes_eq, IfOk, Decides}
use Rattle.std.proofs.lemmas.Slice.Eq.{bytes_eq-Decides}
use Rattle.std.specs.List.{starts_with}
use Rattle.text_strings.specs.declared.escape.Reading.{Reading}
use Rattle.text_strings.specs.declared.escape.Unit.{Unit}
use Rattle.text_values.specs.declared.value.CookError.{CookError}
use Rattle.text_values.specs.declared.value.CookError.TheVariants.{Flawed}
use Rattle.text_values.specs.declared.value.Flaw.{Flaw}
use Rattle.text_values.specs.declared.value.Flaw.TheVariants.{BadEscape, HalfSurrogate}
use Rattle.text_strings.specs.Escapes.{next_unit}
use Rattle.text_values.specs.Values.{units_in, units_behind, joined, bytes_behind, encoded, of_bytes, of_units, is_value}
use Rattle.text_values.specs.Steps.{bytes_before, bytes_of, bytes_taken, next_bytes, past_unit}
use Rattle.text_values.proofs.Units.{units_in_step, some_mapped}

and_false : (a : Bool) → false ≡ (a && false)
and_false true = refl
and_false false = refl

and_more : (a b c d : Bool) → b ≡ (c && d) → (a && b) ≡ ((a && c) && d)
and_more true b c d h = h
and_more false b c d h = refl

append_eq : (bytes more w : List ℕ) → bytes_eq (bytes ++ more) w ≡ (starts_with nat_eq w bytes && bytes_eq more (drop (length bytes) w))
append_eq [] more w = refl
append_eq (b ∷ bytes) more [] = refl
append_eq (b ∷ bytes) more (x ∷ w) = and_more (nat_eq b x) _ _ _ (append_eq bytes more w)

-- whether what is left of a literal stands for what is left of a value
pub is_bytes : Option (List ℕ) → List ℕ → Bool
is_bytes None w = false
is_bytes (Some bytes) w = bytes_eq bytes w

pub matches : ℕ → Option (List Unit) → List ℕ → Bool
matches half None w = false
matches half (Some us) w = is_bytes (encoded half us) w

pub matches_joined : Option (List ℕ × ℕ) → Option (List Unit) → List ℕ → Bool
matches_joined None o w = false
matches_joined (Some (bytes, left)) o w = starts_with nat_eq w bytes && matches left o (drop (length bytes) w)

value_bytes : (o : Option (List ℕ)) (w : List ℕ) → is_value (of_bytes o) w ≡ is_bytes o w
unfolding is_bytes
value_bytes None w = refl
value_bytes (Some bytes) w = refl

pub value_matches : (o : Option (List Unit)) (w : List ℕ) → is_value (of_units o) w ≡ matches 0 o w
unfolding matches
value_matches None w = refl
value_matches (Some us) w = value_bytes (encoded 0 us) w

done_by : (b : Bool) (w : List ℕ) → is_bytes (cond b (Some []) None) w ≡ (b && length w == 0)
unfolding is_bytes
done_by true [] = refl
done_by true (x ∷ w) = sym (eqb-suc-zero (length w))
done_by false w = refl

done : (half : ℕ) (w : List ℕ) → matches half (Some []) w ≡ (half == 0 && length w == 0)
unfolding encoded matches is_bytes
done half w = done_by (half == 0) w

pub matches_end : (n half : ℕ) (reading : Reading) (rest w : List ℕ) → n ≡ 0 → matches half (units_in n reading rest) w ≡ (half == 0 && length w == 0)
unfolding units_in
matches_end n half reading rest w e = rw e (done half w)

pub matches_empty : (n m half : ℕ) (reading : Reading) (rest w : List ℕ) → n ≡ suc m → (length rest == 0) ≡ true
    → matches half (units_in n reading rest) w ≡ (half == 0 && length w == 0)
matches_empty n m half reading rest w e empty = rw (units_in_step n m reading rest e, empty) (done half w)

mapped : (bytes : List ℕ) (o : Option (List ℕ)) (w : List ℕ)
    → is_bytes (option_map (λ more. bytes ++ more) o) w ≡ (starts_with nat_eq w bytes && is_bytes o (drop (length bytes) w))
unfolding is_bytes
mapped bytes None w = and_false (starts_with nat_eq w bytes)
mapped bytes (Some more) w = append_eq bytes more w

joined_by : (j : Option (List ℕ × ℕ)) (us : List Unit) (w : List ℕ)
    → is_bytes (bytes_behind (λ left. encoded left us) j) w ≡ matches_joined j (Some us) w
unfolding matches_joined is_bytes matches encoded
joined_by None us w = refl
joined_by (Some (bytes, left)) us w = mapped bytes (encoded left us) w

joined_none : (j : Option (List ℕ × ℕ)) (w : List ℕ) → false ≡ matches_joined j None w
unfolding matches_joined matches
joined_none None w = refl
joined_none (Some (bytes, left)) w = and_false (starts_with nat_eq w bytes)

behind_unit : (half : ℕ) (u : Unit) (o : Option (List Unit)) (w : List ℕ)
    → matches half (option_map (λ us. u ∷ us) o) w ≡ matches_joined (joined half u) o w
unfolding encoded matches
behind_unit half u None w = joined_none (joined half u) w
behind_unit half u (Some us) w = joined_by (joined half u) us w

cond_by : (O : List ℕ → Option (List Unit)) (b : Bool) (h : ℕ) (l d : List ℕ) (half' : ℕ) (left w' : List ℕ) → cond {A = Option (ℕ × (List ℕ × List ℕ))} b (Some (h, (l, d))) None ≡ Some (half', (left, w'))
    → (b && matches h (O l) d) ≡ matches half' (O left) w'
cond_by O true h l d half' left w' is =
    let e : ◌≡◌ {A = ℕ × (List ℕ × List ℕ)} (h, (l, d)) (half', (left, w')) = cc in
    ap (λ (p : ℕ × (List ℕ × List ℕ)). matches p.0 (O p.1.0) p.1.1) e
cond_by O false h l d half' left w' is = absurd (cc)

taken_by : (O : List ℕ → Option (List Unit)) (j : Option (List ℕ × ℕ)) (l w : List ℕ) (half' : ℕ) (left w' : List ℕ) → bytes_taken w (bytes_before l j) ≡ Some (half', (left, w'))
    → matches_joined j (O l) w ≡ matches half' (O left) w'
unfolding matches_joined
taken_by O None l w half' left w' is = absurd (cc)
taken_by O (Some (bytes, h)) l w half' left w' is = cond_by O (starts_with nat_eq w bytes) h l (drop (length bytes) w) half' left w' is

more_by : (m half : ℕ) (reading : Reading) (o : Option (Unit × List ℕ)) (w : List ℕ) (half' : ℕ) (left w' : List ℕ) → bytes_taken w (bytes_of half o) ≡ Some (half', (left, w'))
    → matches half (units_behind (units_in m reading) o) w ≡ matches half' (units_in m reading left) w'
more_by m half reading None w half' left w' is = absurd (cc)
more_by m half reading (Some (u, l)) w half' left w' is =
    behind_unit half u (units_in m reading l) w ∙ taken_by (units_in m reading) (joined half u) l w half' left w' is

pub matches_more : (n m half : ℕ) (reading : Reading) (rest w : List ℕ) (half' : ℕ) (left w' : List ℕ) → n ≡ suc m → (length rest == 0) ≡ false
    → past_unit reading half rest w ≡ Some (half', (left, w')) → matches half (units_in n reading rest) w ≡ matches half' (units_in m reading left) w'
matches_more n m half reading rest w half' left w' e some is =
    rw (units_in_step n m reading rest e, some) (more_by m half reading (next_unit reading rest) w half' left w' is)

none_if : (b t : Bool) (x : ℕ × (List ℕ × List ℕ)) → cond b (Some x) None ≡ None → (b && t) ≡ false
none_if true t x is = absurd (cc)
none_if false t x is = refl

not_taken : (j : Option (List ℕ × ℕ)) (l : List ℕ) (o : Option (List Unit)) (w : List ℕ) → bytes_taken w (bytes_before l j) ≡ None → matches_joined j o w ≡ false
unfolding matches_joined
not_taken None l o w is = refl
not_taken (Some (bytes, h)) l o w is = none_if (starts_with nat_eq w bytes) _ (h, (l, drop (length bytes) w)) is

stop_by : (m half : ℕ) (reading : Reading) (o : Option (Unit × List ℕ)) (w : List ℕ) → bytes_taken w (bytes_of half o) ≡ None
    → matches half (units_behind (units_in m reading) o) w ≡ false
unfolding matches
stop_by m half reading None w is = refl
stop_by m half reading (Some (u, l)) w is = behind_unit half u (units_in m reading l) w ∙ not_taken (joined half u) l (units_in m reading l) w is

pub matches_stop : (n m half : ℕ) (reading : Reading) (rest w : List ℕ) → n ≡ suc m → (length rest == 0) ≡ false → past_unit reading half rest w ≡ None
    → matches half (units_in n reading rest) w ≡ false
matches_stop n m half reading rest w e some is =
    rw (units_in_step n m reading rest e, some) (stop_by m half reading (next_unit reading rest) w is)

-- what a literal stands for, of which some bytes are made
put : List ℕ → Option (List ℕ) → Result (List ℕ) Flaw
put out None = Err HalfSurrogate
put out (Some bytes) = Ok (out ++ bytes)

pub finish : List ℕ → ℕ → Option (List Unit) → Result (List ℕ) Flaw
finish out half None = Err BadEscape
finish out half (Some us) = put out (encoded half us)

put_none : (o : Option (List ℕ)) → of_bytes o ≡ put [] o
unfolding put
put_none None = refl
put_none (Some bytes) = refl

pub finish_start : (o : Option (List Unit)) → finish [] 0 o ≡ of_units o
unfolding finish
finish_start None = refl
finish_start (Some us) = sym (put_none (encoded 0 us))

put_more : (out bytes : List ℕ) (o : Option (List ℕ)) → put out (option_map (λ more. bytes ++ more) o) ≡ put (out ++ bytes) o
unfolding put
put_more out bytes None = refl
put_more out bytes (Some more) = ap Ok (sym (append_assoc out bytes more))

finish_behind : (out bytes : List ℕ) (half half' : ℕ) (u : Unit) (o : Option (List Unit)) → joined half u ≡ Some (bytes, half')
    → finish out half (option_map (λ us. u ∷ us) o) ≡ finish (out ++ bytes) half' o
unfolding encoded finish
finish_behind out bytes half half' u None adds = refl
finish_behind out bytes half half' u (Some us) adds = ap (λ j. put out (bytes_behind (λ left. encoded left us) j)) adds ∙ put_more out bytes (encoded half' us)

finish_alone : (out : List ℕ) (half : ℕ) (u : Unit) (o : Option (List Unit)) → joined half u ≡ None → is_some o ≡ true
    → finish out half (option_map (λ us. u ∷ us) o) ≡ Err HalfSurrogate
unfolding encoded finish put
finish_alone out half u None alone good = absurd (cc)
finish_alone out half u (Some us) alone good = ap (λ j. put out (bytes_behind (λ left. encoded left us) j)) alone

before_is : (l : List ℕ) (j : Option (List ℕ × ℕ)) (bytes left : List ℕ) (half' : ℕ) → bytes_before l j ≡ Some (bytes, (half', left)) → (j ≡ Some (bytes, half')) × (l ≡ left)
before_is l None bytes left half' is = absurd (cc)
before_is l (Some (b, h)) bytes left half' is =
    let e : ◌≡◌ {A = List ℕ × (ℕ × List ℕ)} (b, (h, l)) (bytes, (half', left)) = cc in
    (ap (λ (p : List ℕ × (ℕ × List ℕ)). Some (p.0, p.1.0)) e, ap (λ (p : List ℕ × (ℕ × List ℕ)). p.1.1) e)

before_none : (l : List ℕ) (j : Option (List ℕ × ℕ)) → bytes_before l j ≡ None → j ≡ None
before_none l None is = refl
before_none l (Some (b, h)) is = absurd (cc)

finish_by : (m half : ℕ) (reading : Reading) (o : Option (Unit × List ℕ)) (out bytes left : List ℕ) (half' : ℕ) → bytes_of half o ≡ Some (bytes, (half', left))
    → finish out half (units_behind (units_in m reading) o) ≡ finish (out ++ bytes) half' (units_in m reading left)
finish_by m half reading None out bytes left half' is = absurd (cc)
finish_by m half reading (Some (u, l)) out bytes left half' is =
    let both : (joined half u ≡ Some (bytes, half')) × (l ≡ left) = before_is l (joined half u) bytes left half' is in
    finish_behind out bytes half half' u (units_in m reading l) both.0 ∙ ap (λ t. finish (out ++ bytes) half' (units_in m reading t)) both.1

pub finish_more : (n m half : ℕ) (reading : Reading) (rest out bytes left : List ℕ) (half' : ℕ) → n ≡ suc m → (length rest == 0) ≡ false
    → next_bytes reading half rest ≡ Some (bytes, (half', left)) → finish out half (units_in n reading rest) ≡ finish (out ++ bytes) half' (units_in m reading left)
finish_more n m half reading rest out bytes left half' e some is =
    rw (units_in_step n m reading rest e, some) (finish_by m half reading (next_unit reading rest) out bytes left half' is)

good_by : (m half : ℕ) (reading : Reading) (o : Option (Unit × List ℕ)) (bytes left : List ℕ) (half' : ℕ) → bytes_of half o ≡ Some (bytes, (half', left))
    → is_some (units_behind (units_in m reading) o) ≡ is_some (units_in m reading left)
good_by m half reading None bytes left half' is = absurd (cc)
good_by m half reading (Some (u, l)) bytes left half' is =
    let both : (joined half u ≡ Some (bytes, half')) × (l ≡ left) = before_is l (joined half u) bytes left half' is in
    some_mapped (λ us. u ∷ us) (units_in m reading l) ∙ ap (λ t. is_some (units_in m reading t)) both.1

pub good_more : (n m half : ℕ) (reading : Reading) (rest bytes left : List ℕ) (half' : ℕ) → n ≡ suc m → (length rest == 0) ≡ false
    → next_bytes reading half rest ≡ Some (bytes, (half', left)) → is_some (units_in n reading rest) ≡ is_some (units_in m reading left)
good_more n m half reading rest bytes left half' e some is =
    rw (units_in_step n m reading rest e, some) (good_by m half reading (next_unit reading rest) bytes left half' is)

half_by : (m half : ℕ) (reading : Reading) (o : Option (Unit × List ℕ)) (out : List ℕ) → bytes_of half o ≡ None → is_some (units_behind (units_in m reading) o) ≡ true
    → finish out half (units_behind (units_in m reading) o) ≡ Err HalfSurrogate
half_by m half reading None out is good = absurd (cc)
half_by m half reading (Some (u, l)) out is good =
    finish_alone out half u (units_in m reading l) (before_none l (joined half u) is) (sym (some_mapped (λ us. u ∷ us) (units_in m reading l)) ∙ good)

pub finish_half : (n m half : ℕ) (reading : Reading) (rest out : List ℕ) → n ≡ suc m → (length rest == 0) ≡ false → next_bytes reading half rest ≡ None
    → is_some (units_in n reading rest) ≡ true → finish out half (units_in n reading rest) ≡ Err HalfSurrogate
finish_half n m half reading rest out e some is good =
    let step : units_in n reading rest ≡ units_behind (units_in m reading) (next_unit reading rest) = rw (units_in_step n m reading rest e, some) refl in
    rw step (half_by m half reading (next_unit reading rest) out is (rw step at good))

finished_by : (b : Bool) (out : List ℕ) → put out (cond b (Some []) None) ≡ cond b (Ok out) (Err HalfSurrogate)
unfolding put
finished_by true out = ap Ok (append-nil out)
finished_by false out = refl

finish_nothing : (out : List ℕ) (half : ℕ) → finish out half (Some []) ≡ cond (half == 0) (Ok out) (Err HalfSurrogate)
unfolding encoded finish put
finish_nothing out half = finished_by (half == 0) out

pub finish_end : (n half : ℕ) (reading : Reading) (rest out : List ℕ) → n ≡ 0 → finish out half (units_in n reading rest) ≡ cond (half == 0) (Ok out) (Err HalfSurrogate)
unfolding units_in
finish_end n half reading rest out e = rw e (finish_nothing out half)

pub finish_empty : (n m half : ℕ) (reading : Reading) (rest out : List ℕ) → n ≡ suc m → (length rest == 0) ≡ true
    → finish out half (units_in n reading rest) ≡ cond (half == 0) (Ok out) (Err HalfSurrogate)
finish_empty n m half reading rest out e empty = rw (units_in_step n m reading rest e, empty) (finish_nothing out half)

pub read_if : {A E : Type 0} (r : Result A E) (items : A → List ℕ) (b : Bool) (v : A) (e : E) (x : Result (List ℕ) Flaw) → r ≡ cond b (Ok v) (Err e)
    → x ≡ cond b (Ok (items v)) (Err HalfSurrogate) → IfOk r (λ w. x ≡ Ok (items w))
read_if r items true v e x is was = rw is was
read_if r items false v e x is was = rw is tt

pub flawed_if : {A : Type 0} (r : Result A CookError) (b : Bool) (v : A) (out : List ℕ) (x : Result (List ℕ) Flaw) (flaw : Flaw) → r ≡ cond b (Ok v) (Err (Flawed HalfSurrogate))
    → x ≡ cond b (Ok out) (Err HalfSurrogate) → r ≡ Err (Flawed flaw) → x ≡ Err flaw
flawed_if r true v out x flaw is was err = absurd (cc)
flawed_if r false v out x flaw is was err = cc

pub bad_cooked : (o : Option (List Unit)) → is_some o ≡ false → of_units o ≡ Err BadEscape
bad_cooked None bad = refl
bad_cooked (Some us) bad = absurd (cc)

-- what the answer of `cooks_to` says
pub value_Decides : (r : Result (List ℕ) Flaw) (w : List ℕ) → Decides (is_value r w) (r ≡ Ok w)
value_Decides (Ok bytes) w =
    let same : ◌≡◌ {A = Result (List ℕ) Flaw} (Ok bytes) (Ok w) → bytes ≡ w = λ (e : ◌≡◌ {A = Result (List ℕ) Flaw} (Ok bytes) (Ok w)). cc in
    (λ h. ap Ok ((bytes_eq-Decides bytes w).0 h), λ e. (bytes_eq-Decides bytes w).1 (same e))
value_Decides (Err flaw) w = (λ (h : false ≡ true). absurd (cc), λ (e : ◌≡◌ {A = Result (List ℕ) Flaw} (Err flaw) (Ok w)). absurd (cc))
