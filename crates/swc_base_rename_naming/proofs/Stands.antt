-- What stands while ids are named site by site.
use Rattle.std.proofs.Common.{◌≡◌, ℕ, ◌+◌, ◌==◌, ◌⊎◌, Bool, true, false, not, ◌&&◌, ◌||◌, Some, None, List, [], ◌∷◌, ◌++◌, refl, sym, ◌∙◌, ap, inl, inr, suc, ◌<◌, length, take, drop, get_or, arith, append_assoc, nat_cmp}
use Rattle.std.specs.Prelude.{is_some, if◌then◌else◌}
use Rattle.std.specs.BTreeMap.{is_at}
use Rattle.std.specs.BTreeSet.{BTreeSet, IsEmpty, contains}
use Rattle.std.specs.List.{list_any, last_or}
use Rattle.std.specs.Str.{bytes_eq}
use Rattle.std.proofs.Math.Seq.{take-suc}
use Rattle.std.proofs.lemmas.List.{append-nil, take-append-drop}
use Rattle.std.proofs.lemmas.List.Folds.{list_any-append}
use Rattle.swc_tree_marks.specs.declared.error.PassError.{PassError}
use Rattle.swc_tree_marks.specs.declared.error.PassError.TheVariants as pass
use Rattle.swc_base_rename_substitution.specs.Names.{Id}
use Rattle.swc_base_rename_naming.specs.Chained.{IsPushed, ids_of, outer_ids, own_ids}
use Rattle.swc_base_rename_naming.specs.Counters.{greatest}
use Rattle.swc_base_rename_naming.specs.Free.{AllTaken, IsLeastFree, IsSearchRefusal, Test, Texts}
use Rattle.swc_base_rename_naming.specs.InOrder.{Choice, IsRefused, Rules, Site, chosen_text, is_taken, name_in, past, start}
use Rattle.swc_base_rename_naming.specs.Steps.{AreHeld, HasAlso, Holds, IsDone, IsNameGiven, IsTextRecorded, Maps, Naming, Stands, id_or, is_held, keeps_text, next_at, rules, stays, taken_at, text_at}
use Rattle.swc_base_rename_naming.specs.declared.reverse_map.ReverseMap.{ReverseMap}
use Rattle.swc_base_rename_naming.specs.declared.in_order.GivenTexts.{GivenTexts}
use Rattle.swc_base_rename_naming.proofs.Choices.{is_next, is_passed, last-append, no_room, one_chosen, one_name, one_passed}

if_zero : (b : Bool) (n : ℕ) → n ≡ 0 → (if b then n else 0) ≡ 0
if_zero true n e = e
if_zero false n e = refl

pub stands_first : (n : Naming) (names : GivenTexts) → ((x : ℕ) → text_at names.texts x ≡ None) → names.next ≡ 0 → Stands n [] [] names
stands_first n names empty zero = record {
  chosen = record { their_sites = refl; each = λ before after c e. absurd (no_room before c after e) };
  texts = empty;
  counter = λ u. if_zero (names.scope == u) names.next zero;
}

-- an empty set has no scope
pub none_leaks : (leaks : BTreeSet ℕ) → IsEmpty leaks → (u : ℕ) → contains nat_cmp leaks u ≡ false
none_leaks leaks empty u = ap (list_any (is_at (nat_cmp u))) empty

pub holds_first : (n : Naming) (scopes : ℕ → Bool) (map : ReverseMap) → ((x : List ℕ) → ids_of map x ≡ []) → Holds n scopes [] map
holds_first n scopes map empty x f = ap (list_any f) (empty x)

-- of two maps the one has the ids of some choices, and the other those of others
any_either : {A : Type 0} (p q r : A → Bool) (xs : List A) → ((x : A) → (p x || q x) ≡ r x) → (list_any p xs || list_any q xs) ≡ list_any r xs
any_either p q r [] h = refl
any_either p q r (x ∷ xs) h = across (p x) (q x) (list_any p xs) (list_any q xs) ∙ ap (λ b. b || (list_any p xs || list_any q xs)) (h x) ∙ ap (λ b. r x || b) (any_either p q r xs h)
  where
    across : (a b c d : Bool) → ((a || c) || (b || d)) ≡ ((a || b) || (c || d))
    across true b c d = refl
    across false true true d = refl
    across false true false d = refl
    across false false c d = refl

either_counts : (a b k z : Bool) → (a || b) ≡ k → ((a && z) || (b && z)) ≡ (k && z)
either_counts a b k true e = both a b ∙ e ∙ and_true k
  where
    both : (a b : Bool) → ((a && true) || (b && true)) ≡ (a || b)
    both true b = refl
    both false true = refl
    both false false = refl

    and_true : (k : Bool) → k ≡ (k && true)
    and_true true = refl
    and_true false = refl
either_counts a b k false e = none a b ∙ none_of k
  where
    none : (a b : Bool) → ((a && false) || (b && false)) ≡ false
    none true true = refl
    none true false = refl
    none false true = refl
    none false false = refl

    none_of : (k : Bool) → false ≡ (k && false)
    none_of true = refl
    none_of false = refl

pub held_of : (n : Naming) (s : ℕ) (first second : ℕ → Bool) (choices : List Choice) (maps : Maps) → ((u : ℕ) → (first u || second u) ≡ n.counts u s) → Holds n first choices maps.0 → Holds n second choices maps.1 → AreHeld n s choices maps
held_of n s first second choices maps counts holds also x f =
    ap (λ b. b || list_any f (ids_of maps.1 x)) (holds x f)
    ∙ ap (λ b. list_any (is_held n first x f) choices || b) (also x f)
    ∙ any_either (is_held n first x f) (is_held n second x f) (is_held n (λ u. n.counts u s) x f) choices
    (λ c. either_counts (first c.0.0) (second c.0.0) (n.counts c.0.0 s) (bytes_eq (chosen_text (rules n) c) x && f c.0.1) (counts c.0.0))

-- behind what a map has stands one id more, where the text is its
swap_or : (a f o : Bool) → ((a || (f || false)) || o) ≡ ((a || o) || f)
swap_or true f o = refl
swap_or false true true = refl
swap_or false true false = refl
swap_or false false true = refl
swap_or false false false = refl

or_none : (b : Bool) → b ≡ (b || false)
or_none true = refl
or_none false = refl

pub any_pushed : (f : ℕ → Bool) (b : Bool) (own outer : List ℕ) (id : ℕ) → list_any f ((if b then own ++ id ∷ [] else own) ++ outer) ≡ (list_any f (own ++ outer) || (b && f id))
any_pushed f true own outer id =
    list_any-append f (own ++ id ∷ []) outer
    ∙ ap (λ b. b || list_any f outer) (list_any-append f own (id ∷ []))
    ∙ swap_or (list_any f own) (f id) (list_any f outer)
    ∙ ap (λ b. b || f id) (sym (list_any-append f own outer))
any_pushed f false own outer id = or_none (list_any f (own ++ outer))

pub has_also : (text : List ℕ) (id : ℕ) (was is : ReverseMap) → IsPushed text id was is → HasAlso true text id was is
has_also text id was is pushed x f =
    ap (λ own. list_any f (own ++ outer_ids is x)) (pushed.own x)
    ∙ ap (λ outer. list_any f ((if bytes_eq text x then own_ids was x ++ id ∷ [] else own_ids was x) ++ outer)) (pushed.outer x)
    ∙ any_pushed f (bytes_eq text x) (own_ids was x) (outer_ids was x) id

pub has_no_more : (text : List ℕ) (id : ℕ) (map : ReverseMap) → HasAlso false text id map map
has_no_more text id map x f = or_none (list_any f (ids_of map x))

pub recorded_leaked : (leaks : Bool) (text : List ℕ) (id : ℕ) (holders was is : ReverseMap) → leaks ≡ true → HasAlso true text id was is → IsTextRecorded leaks text id (holders, was) (holders, is)
recorded_leaked true text id holders was is e also = record { holders = has_no_more text id holders; leaked = also }
recorded_leaked false text id holders was is e also = absurd (cc)

pub recorded_in_scope : (leaks : Bool) (text : List ℕ) (id : ℕ) (was is leaked : ReverseMap) → leaks ≡ false → IsPushed text id was is → IsTextRecorded leaks text id (was, leaked) (is, leaked)
recorded_in_scope true text id was is leaked e pushed = absurd (cc)
recorded_in_scope false text id was is leaked e pushed = record { holders = has_also text id was is pushed; leaked = has_no_more text id leaked }

-- one id more
pub holds_more : (n : Naming) (scopes : ℕ → Bool) (choices : List Choice) (c : Choice) (was is : ReverseMap) (more : Bool) (text : List ℕ) (id : ℕ)
    → Holds n scopes choices was → scopes c.0.0 ≡ more → text ≡ chosen_text (rules n) c → id ≡ c.0.1 → HasAlso more text id was is → Holds n scopes (choices ++ c ∷ []) is
holds_more n scopes choices c was is more text id before counts texts ids also x f =
    let those = list_any (is_held n scopes x f) choices in
    also x f
    ∙ ap (λ b. b || (more && (bytes_eq text x && f id))) (before x f)
    ∙ ap (λ t. those || (more && (bytes_eq t x && f id))) texts
    ∙ ap (λ y. those || (more && (bytes_eq (chosen_text (rules n) c) x && f y))) ids
    ∙ ap (λ b. those || (b && (bytes_eq (chosen_text (rules n) c) x && f c.0.1))) (sym counts)
    ∙ ap (λ b. those || b) (or_none _)
    ∙ sym (list_any-append (is_held n scopes x f) choices (c ∷ []))

same_start : (r : Rules) (counter_goes_on : Bool) (names : GivenTexts) (choices : List Choice) (s : ℕ) → (if names.scope == s then names.next else 0) ≡ past s (last_or None choices) → next_at counter_goes_on names s ≡ (if counter_goes_on then past s (last_or None choices) else 0)
same_start r true names choices s e = e
same_start r false names choices s e = refl

-- a search by what stands is one by the choices
same_search : (P : Texts → Test → ℕ → Type 0) (text text' : Texts) (taken taken' : Test) (n n' : ℕ) → text ≡ text' → ((x : List ℕ) → taken x ≡ taken' x) → n ≡ n' → P text taken n → P text' taken' n'
same_search P text text' taken taken' n n' e f g h =
    let same : taken ≡ taken' = λ i x. f x i in
    rw (sym e, sym same, sym g) h

pub by_choices : (n : Naming) (P : Texts → Test → ℕ → Type 0) (done : List Site) (choices : List Choice) (names : GivenTexts) (maps : Maps) (site : Site) (id : Id)
    → Stands n done choices names → AreHeld n site.0 choices maps → n.id_of site.1 ≡ Some id
    → P (n.text id) (taken_at n.preserved n.occurs maps site.0) (next_at n.counter_goes_on names site.0)
    → P (Rules.text (rules n) site.1) (is_taken (rules n) choices site.0) (start (rules n) choices site.0)
by_choices n P done choices names maps site id stands holds found h =
    same_search P _ _ _ _ _ _
    (ap (λ o k. n.text (id_or o) k) (sym found))
    (λ x. ap (λ b. n.preserved x || b) (holds x (n.occurs site.0)))
    (same_start (rules n) n.counter_goes_on names choices site.0 (stands.counter site.0))
    h

pub stays_not : (n : Naming) (x : ℕ) (id : Id) → n.id_of x ≡ Some id → keeps_text n.keeps id ≡ false → Rules.stays (rules n) x ≡ false
stays_not n x id found changes = ap (stays n.keeps) found ∙ changes

-- a site at which an id got its name
one_more : (n : Naming) (done : List Site) (choices : List Choice) (site : Site) (id : Id) (leaks : Bool) (was is : GivenTexts) (maps_were maps_are : Maps)
    → Stands n done choices was → AreHeld n site.0 choices maps_were
    → n.id_of site.1 ≡ Some id → keeps_text n.keeps id ≡ false → text_at was.texts site.1 ≡ None
    → (g : IsNameGiven (n.text id) (taken_at n.preserved n.occurs maps_were site.0) (next_at n.counter_goes_on was site.0) leaks site was is maps_were maps_are)
    → Stands n (done ++ site ∷ []) (choices ++ (site, g.counter) ∷ []) is
one_more n done choices site id leaks was is maps_were maps_are stands holds found changes none g =
    let r = rules n in
    let no_name = sym (stands.texts site.1) ∙ none in
    let named = is_next r done choices site stands.chosen (stays_not n site.1 id found changes) no_name in
    let chosen = by_choices n (λ text taken start. IsLeastFree text taken start g.counter) done choices was maps_were site id stands holds found g.least in
    record {
      chosen = one_chosen r done choices site g.counter stands.chosen named chosen;
      texts = λ x. g.choice_recorded.texts x
          ∙ ap (λ o. if site.1 == x then Some (n.text id g.counter) else o) (stands.texts x)
          ∙ ap (λ o. if site.1 == x then Some (n.text (id_or o) g.counter) else name_in r choices x) (sym found)
          ∙ sym (one_name r choices (site, g.counter) no_name x);
      counter = λ u. ap (λ p. if p == u then is.next else 0) g.choice_recorded.scope
          ∙ ap (λ p. if site.0 == u then p else 0) g.choice_recorded.next
          ∙ ap (past u) (sym (last-append None choices (site, g.counter)));
    }

pub done_named : (n : Naming) (done : List Site) (choices : List Choice) (site : Site) (id : Id) (leaks : Bool) (was is : GivenTexts) (maps_were maps_are : Maps)
    → n.id_of site.1 ≡ Some id → keeps_text n.keeps id ≡ false → text_at was.texts site.1 ≡ None
    → IsNameGiven (n.text id) (taken_at n.preserved n.occurs maps_were site.0) (next_at n.counter_goes_on was site.0) leaks site was is maps_were maps_are
    → Stands n done choices was → AreHeld n site.0 choices maps_were
    → IsDone n leaks done choices site is maps_were maps_are
done_named n done choices site id leaks was is maps_were maps_are found changes none g stands holds = record {
  more = (site, g.counter) ∷ [];
  own = (refl, tt);
  stands = one_more n done choices site id leaks was is maps_were maps_are stands holds found changes none g;
  holders = λ scopes same held. holds_more n scopes choices (site, g.counter) maps_were.0 maps_are.0 (not leaks) (n.text id g.counter) site.1 held same (ap (λ o. n.text (id_or o) g.counter) (sym found)) refl g.text_recorded.holders;
  leaked = λ scopes same held. holds_more n scopes choices (site, g.counter) maps_were.1 maps_are.1 leaks (n.text id g.counter) site.1 held same (ap (λ o. n.text (id_or o) g.counter) (sym found)) refl g.text_recorded.leaked;
}

-- a site at which none did
pub done_passed : (n : Naming) (leaks : Bool) (done : List Site) (choices : List Choice) (site : Site) (names : GivenTexts) (maps : Maps)
    → (stays n.keeps (n.id_of site.1) ≡ true) ⊎ (is_some (text_at names.texts site.1) ≡ true)
    → Stands n done choices names → AreHeld n site.0 choices maps → IsDone n leaks done choices site names maps maps
done_passed n leaks done choices site names maps why stands holds =
    let r = rules n in
    let passed = is_passed r done choices site stands.chosen (elim why [ inl e ↦ inl e | inr e ↦ inr (ap is_some (sym (stands.texts site.1)) ∙ e) ]) in
    let same = append-nil choices in
    record {
      more = [];
      own = tt;
      stands = rw same (record { chosen = one_passed r done choices site stands.chosen passed; texts = stands.texts; counter = stands.counter });
      holders = λ scopes e held. rw same held;
      leaked = λ scopes e held. rw same held;
    }

-- the sites up to the next
pub next_taken : (sites : List Site) (i : ℕ) → i < length sites → take (i + 1) sites ≡ take i sites ++ get_or sites i (0, 0) ∷ []
next_taken sites i within =
    let e : i + 1 ≡ suc i = omega arith in
    ap (λ k. take k sites) e ∙ take-suc sites i (0, 0) within

pub split_at : (sites : List Site) (i : ℕ) → i < length sites → sites ≡ take i sites ++ get_or sites i (0, 0) ∷ drop (i + 1) sites
split_at sites i within =
    sym (take-append-drop (i + 1) sites)
    ∙ ap (λ l. l ++ drop (i + 1) sites) (next_taken sites i within)
    ∙ append_assoc (take i sites) (get_or sites i (0, 0) ∷ []) (drop (i + 1) sites)

-- why names are refused
pub refused_at : (n : Naming) (done after : List Site) (choices : List Choice) (site : Site) (id : Id) (names : GivenTexts) (maps : Maps) (e : PassError)
    → n.id_of site.1 ≡ Some id → keeps_text n.keeps id ≡ false → text_at names.texts site.1 ≡ None
    → IsSearchRefusal (n.text id) (taken_at n.preserved n.occurs maps site.0) (next_at n.counter_goes_on names site.0) e
    → Stands n done choices names → AreHeld n site.0 choices maps
    → IsRefused (rules n) (done ++ site ∷ after) e
refused_at n done after choices site id names maps pass.NoMemory found changes none h stands holds = tt
refused_at n done after choices site id names maps pass.CounterSpent found changes none h stands holds = record {
  before = done;
  site = site;
  after = after;
  stands = refl;
  named = is_next (rules n) done choices site stands.chosen (stays_not n site.1 id found changes) (sym (stands.texts site.1) ∙ none);
  choices = choices;
  chosen = stands.chosen;
  none_free = by_choices n (λ text taken start. AllTaken text taken start greatest) done choices names maps site id stands holds found h;
}
refused_at n done after choices site id names maps pass.MarksSpent found changes none h stands holds = absurd h
refused_at n done after choices site id names maps pass.NotAssignable found changes none h stands holds = absurd h
refused_at n done after choices site id names maps pass.TypesLeft found changes none h stands holds = absurd h
