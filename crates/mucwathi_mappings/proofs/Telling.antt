-- What is told of one place after another.
use Rattle.std.proofs.Common.{◌≡◌, ℕ, ◌+◌, ◌-◌, ◌*◌, ◌/◌, ◌%◌, ◌<◌, ◌≤◌, Bool, true, false, List, [], ◌∷◌, ◌++◌, Option, Some, None, Bor, length, map, min, unwrap_or, refl, sym, ap, ◌∙◌, subst, arith}
use Rattle.std.proofs.lemmas.Bool.Decides.{nat_tests}
use Rattle.std.proofs.lemmas.List.{append-nil, append_assoc, map_push}
use Rattle.std.specs.BTreeMap.{BTreeMap, IsOrdered}
use Rattle.std.specs.List.{AllZip}
use Rattle.std.specs.Map.Iter.{deref_pair}
use Rattle.std.specs.Ordering.{nat_cmp}
use Rattle.std.specs.Prelude.{if◌then◌else◌, nat_lt}
use Rattle.mucwathi_mappings.specs.declared.encode.Entry.{Entry}
use Rattle.mucwathi_mappings.specs.declared.encode.Told.{Told}
use Rattle.mucwathi_mappings.specs.declared.positions.Position.{Position}
use Rattle.mucwathi_mappings.specs.declared.names.Names.{Names}
use Rattle.mucwathi_mappings.specs.declared.nodes.Mapped.{Mapped}
use Rattle.mucwathi_mappings.specs.Mappings.{AddsMappings, AddsName, AreMappings, Continues, GoesToLine, HasNumber, IsEntry, TellsOf, comma, entry_of, start}
use Rattle.mucwathi_mappings.specs.Names.{AreNumbered, texts_of}
use Rattle.mucwathi_mappings.specs.Nodes.{IsNumberOf, old_names, with_old}
use Rattle.mucwathi_mappings.specs.Numbers.{AddsNumber, AddsWay, IsNumber, digit, way}
use Rattle.mucwathi_mappings.specs.Positions.{IsPosition, column, line}
use Rattle.mucwathi_mappings.proofs.Numbering.{more_names, names_more, number_kept}

pub number_last : (n : ℕ) (old new : List ℕ) → n < 32 → new ≡ old ++ digit n ∷ [] → AddsNumber n old new
number_last n old new small whole = record { digits = digit n ∷ []; whole = whole; are = IsNumber.last n small }

pub number_more : (n : ℕ) (old mid new : List ℕ) → 32 ≤ n → mid ≡ old ++ digit (n % 32 + 32) ∷ [] → AddsNumber (n / 32) mid new → AddsNumber n old new
number_more n old mid new great whole rest = record {
  digits = digit (n % 32 + 32) ∷ rest.digits;
  whole = rest.whole ∙ ap (λ (l : List ℕ). l ++ rest.digits) whole ∙ append_assoc old (digit (n % 32 + 32) ∷ []) rest.digits;
  are = IsNumber.more n rest.digits great rest.are;
}

pub far_last : (far back n : ℕ) (old new : List ℕ) → far < 16 → back < 2 → n ≡ far * 2 + back → new ≡ old ++ digit n ∷ [] → AddsNumber (2 * far + back) old new
far_last far back n old new small low is whole =
    let same : n ≡ 2 * far + back = omega arith in
    let fits : n < 32 = omega arith in
    subst (λ m. AddsNumber m old new) same (number_last n old new fits whole)

pub far_more : (far back n : ℕ) (old mid new : List ℕ) → 16 ≤ far → back < 2 → n ≡ far % 16 * 2 + back + 32 → mid ≡ old ++ digit n ∷ [] → AddsNumber (far / 16) mid new → AddsNumber (2 * far + back) old new
far_more far back n old mid new great low is whole rest =
    let first : n ≡ (2 * far + back) % 32 + 32 = omega arith in
    let others : far / 16 ≡ (2 * far + back) / 32 = omega arith in
    let much : 32 ≤ 2 * far + back = omega arith in
    number_more (2 * far + back) old mid new much (whole ∙ ap (λ m. old ++ digit m ∷ []) first) (subst (λ m. AddsNumber m mid new) others rest)

-- ---- ways

pub way_back : (from to : ℕ) (old new : List ℕ) → to < from → AddsNumber (2 * (from - to) + 1) old new → AddsWay from to old new
way_back from to old new back h =
    let test : nat_lt to from ≡ true = grind (arith, nat_tests) in
    subst (λ b. AddsNumber (if b then 2 * (from - to) + 1 else 2 * (to - from)) old new) (sym test) h

pub way_forth : (from to : ℕ) (old new : List ℕ) → from ≤ to → AddsNumber (2 * (to - from) + 0) old new → AddsWay from to old new
way_forth from to old new forth h =
    let test : nat_lt to from ≡ false = grind (arith, nat_tests) in
    let same : 2 * (to - from) + 0 ≡ 2 * (to - from) = omega arith in
    subst (λ b. AddsNumber (if b then 2 * (from - to) + 1 else 2 * (to - from)) old new) (sym test) (subst (λ n. AddsNumber n old new) same h)

-- ---- lines

pub continues_none : (t : Told) (old : List ℕ) → Continues t [] old old t
continues_none t old = record { text = []; whole = sym (append-nil old); goes_on = λ us rest h. h }

pub continues_both : (t there far : Told) (es us : List Entry) (old mid new : List ℕ) → Continues t es old mid there → Continues there us mid new far → Continues t (es ++ us) old new far
continues_both t there far es us old mid new one other = record {
  text = one.text ++ other.text;
  whole = other.whole ∙ ap (λ (l : List ℕ). l ++ other.text) one.whole ∙ append_assoc old one.text other.text;
  goes_on = λ vs rest h.
      let all : AreMappings t (es ++ (us ++ vs)) (one.text ++ (other.text ++ rest)) = one.goes_on (us ++ vs) (other.text ++ rest) (other.goes_on vs rest h) in
      subst (λ l. AreMappings t l ((one.text ++ other.text) ++ rest)) (sym (append_assoc es us vs))
      (subst (λ l. AreMappings t (es ++ (us ++ vs)) l) (sym (append_assoc one.text other.text rest)) all);
}

-- behind a line end
abbrev pub line_told : Told → ℕ → Told
line_told t n = record { line = n; column = 0; source_line = t.source_line; source_column = t.source_column; name = t.name; begun = false }

pub goes_nowhere : (t : Told) (old : List ℕ) → GoesToLine t old old t
goes_nowhere t old = record { text = []; whole = sym (append-nil old); goes_on = λ e us rest h. h }

-- one line more
pub goes_further : (t here : Told) (n : ℕ) (old mid new : List ℕ) → GoesToLine t old mid here → here.line ≡ n → new ≡ mid ++ 59 ∷ [] → GoesToLine t old new (line_told here (n + 1))
goes_further t here n old mid new before is whole = record {
  text = before.text ++ 59 ∷ [];
  whole = whole ∙ ap (λ (l : List ℕ). l ++ 59 ∷ []) before.whole ∙ append_assoc old before.text (59 ∷ []);
  goes_on = λ e us rest h.
      let next : AreMappings here (e ∷ us) (59 ∷ rest) = AreMappings.next_line here e us rest (subst (λ k. AreMappings (line_told here (k + 1)) (e ∷ us) rest) (sym is) h) in
      subst (λ l. AreMappings t (e ∷ us) l) (sym (append_assoc before.text (59 ∷ []) rest)) (before.goes_on e us (59 ∷ rest) next);
}

-- an entry of that line
pub continues_there : (t here there : Told) (e : Entry) (old mid new : List ℕ) → GoesToLine t old mid here → Continues here (e ∷ []) mid new there → Continues t (e ∷ []) old new there
continues_there t here there e old mid new before one = record {
  text = before.text ++ one.text;
  whole = one.whole ∙ ap (λ (l : List ℕ). l ++ one.text) before.whole ∙ append_assoc old before.text one.text;
  goes_on = λ us rest h. subst (λ l. AreMappings t (e ∷ us) l) (sym (append_assoc before.text one.text rest)) (before.goes_on e us (one.text ++ rest) (one.goes_on us rest h));
}

-- ---- entries

pub comma_added : (begun : Bool) (old new : List ℕ) → begun ≡ true → new ≡ old ++ 44 ∷ [] → new ≡ old ++ comma begun
comma_added begun old new is whole = whole ∙ ap (λ b. old ++ comma b) (sym is)

pub no_comma : (begun : Bool) (old : List ℕ) → begun ≡ false → old ≡ old ++ comma begun
no_comma begun old is = sym (append-nil old) ∙ ap (λ b. old ++ comma b) (sym is)

pub name_told : (last : ℕ) (name : Option ℕ) (n : ℕ) (old new : List ℕ) → name ≡ Some n → AddsWay last n old new → AddsName last name old new × (n ≡ unwrap_or name last)
name_told last name n old new is way =
    let one : AddsName last (Some n) old new × (n ≡ unwrap_or (Some n) last) = (record { text = way.digits; whole = way.whole; is = way.are }, refl) in
    subst (λ (o : Option ℕ). AddsName last o old new × (n ≡ unwrap_or o last)) (sym is) one

pub no_name_told : (last : ℕ) (name : Option ℕ) (old : List ℕ) → name ≡ None → AddsName last name old old × (last ≡ unwrap_or name last)
no_name_told last name old is =
    let none : AddsName last None old old × (last ≡ unwrap_or None last) = (record { text = []; whole = sym (append-nil old); is = refl }, refl) in
    subst (λ (o : Option ℕ). AddsName last o old old × (last ≡ unwrap_or o last)) (sym is) none

-- behind an entry whose name, or the last, has that number
abbrev pub entry_told : Told → Entry → ℕ → Told
entry_told t e n = record { line = t.line; column = e.column; source_line = e.source_line; source_column = e.source_column; name = n; begun = true }

pub continues_entry : (t : Told) (e : Entry) (n : ℕ) (old a b c d f new : List ℕ) → t.line ≡ e.line → a ≡ old ++ comma t.begun → AddsWay t.column e.column a b → c ≡ b ++ 65 ∷ [] → AddsWay t.source_line e.source_line c d
    → AddsWay t.source_column e.source_column d f → AddsName t.name e.name f new → n ≡ unwrap_or e.name t.name → Continues t (e ∷ []) old new (entry_told t e n)
continues_entry t e n old a b c d f new line begun column source line_way column_way name number =
    let one : List ℕ = column.digits ++ 65 ∷ line_way.digits ++ column_way.digits ++ name.text in
    let entry : IsEntry t e one = record {
      column_way = column.digits;
      line_way = line_way.digits;
      source_way = column_way.digits;
      name_way = name.text;
      column_is = column.are;
      line_is = line_way.are;
      source_is = column_way.are;
      name_is = name.is;
      whole = refl;
    } in
    record {
      text = comma t.begun ++ one;
      whole = name.whole ∙ ap (λ (l : List ℕ). l ++ name.text) (column_way.whole ∙ ap (λ (l : List ℕ). l ++ column_way.digits) (line_way.whole ∙ ap (λ (l : List ℕ). l ++ line_way.digits) (source ∙ ap (λ (l : List ℕ). l ++ 65 ∷ []) (column.whole ∙ ap (λ (l : List ℕ). l ++ column.digits) begun)))) ∙ simp append_assoc;
      goes_on = λ us rest h. AreMappings.entry t e us one rest (sym line) entry (subst (λ k. AreMappings (entry_told t e k) us rest) number h);
    }

-- ---- places

pub entry_is : (read written : List ℕ) (place : ℕ) (m : Mapped) (p q : Position) (n : Option ℕ) → IsPosition written (min place (length written)) p → IsPosition read (min m.read (length read)) q
    → record { line = p.line; column = p.column; source_line = q.line; source_column = q.column; name = n } ≡ entry_of read written (place, m) n
entry_is read written place m p q n there source =
    let by : ℕ → ℕ → ℕ → ℕ → Entry = λ (a : ℕ) (b : ℕ) (c : ℕ) (d : ℕ). record { line = a; column = b; source_line = c; source_column = d; name = n } in
    let a : ℕ = line written (min place (length written)) in
    let b : ℕ = column written (min place (length written)) in
    let c : ℕ = line read (min m.read (length read)) in
    ap (λ l. by l p.column q.line q.column) there.line_is ∙ ap (λ k. by a k q.line q.column) there.column_is ∙ ap (λ l. by a b l q.column) source.line_is ∙ ap (λ k. by a b c k) source.column_is

tells_kept : (read written : List ℕ) (xs ys : List (List ℕ)) (ps : List (ℕ × Mapped)) (es : List Entry) → AllZip (TellsOf read written xs) ps es → AllZip (TellsOf read written (xs ++ ys)) ps es
tells_kept read written xs ys [] [] h = tt
tells_kept read written xs ys [] (e ∷ es) h = h
tells_kept read written xs ys (p ∷ ps) [] h = h
tells_kept read written xs ys (p ∷ ps) (e ∷ es) h = (record { is = h.0.is; named = number_kept xs ys p.1.old e.name h.0.named }, tells_kept read written xs ys ps es h.1)

tells_push : (read written : List ℕ) (names : List (List ℕ)) (ps : List (ℕ × Mapped)) (es : List Entry) (p : ℕ × Mapped) (e : Entry) → AllZip (TellsOf read written names) ps es → TellsOf read written names p e
    → AllZip (TellsOf read written names) (ps ++ p ∷ []) (es ++ e ∷ [])
tells_push read written names [] [] p e h one = (one, tt)
tells_push read written names [] (f ∷ es) p e h one = absurd h
tells_push read written names (q ∷ ps) [] p e h one = absurd h
tells_push read written names (q ∷ ps) (f ∷ es) p e h one = (h.0, tells_push read written names ps es p e h.1 one)

-- what places are told so far, and their names
pub record Tells (read written : List ℕ) (ps : List (ℕ × Mapped)) (names : Names) (old new : List ℕ) (told : Told) : Type 0 where
  pub entries : List Entry
  pub numbered : AreNumbered names
  pub named : texts_of names ≡ old_names ps
  pub tell : AllZip (TellsOf read written (texts_of names)) ps entries
  pub continues : Continues start entries old new told

pub tells_none : (read written : List ℕ) (names : Names) (old : List ℕ) → AreNumbered names → texts_of names ≡ [] → Tells read written [] names old old start
tells_none read written names old numbered none = record { entries = []; numbered = numbered; named = none; tell = tt; continues = continues_none start old }

tells_more : (read written : List ℕ) (ps : List (ℕ × Mapped)) (p : ℕ × Mapped) (names news : Names) (n : Option ℕ) (e : Entry) (told there : Told) (old mid new : List ℕ) → Tells read written ps names old mid told
    → HasNumber names news p.1.old n → e ≡ entry_of read written p n → Continues told (e ∷ []) mid new there → Tells read written (ps ++ p ∷ []) news old new there
tells_more read written ps p names news n e told there old mid new before number is one =
    let more = more_names p.1.old (texts_of names) in
    let texts : texts_of news ≡ texts_of names ++ more.0 = number.texts_are ∙ more.1 in
    let name : n ≡ e.name = sym (ap (λ (e : Entry). e.name) is) in
    record {
      entries = before.entries ++ e ∷ [];
      numbered = number.numbered;
      named = number.texts_are ∙ ap (with_old p.1.old) before.named ∙ sym (names_more ps p);
      tell = tells_push read written (texts_of news) ps before.entries p e
          (subst (λ l. AllZip (TellsOf read written l) ps before.entries) (sym texts) (tells_kept read written (texts_of names) more.0 ps before.entries before.tell))
          (record { is = is ∙ ap (entry_of read written p) name; named = subst (IsNumberOf (texts_of news) p.1.old) name number.is });
      continues = continues_both start told there before.entries (e ∷ []) old mid new before.continues one;
    }

pub tells_step : (read written : List ℕ) (xs : List (Bor ℕ × Bor Mapped)) (x : Bor ℕ × Bor Mapped) (names news : Names) (n : Option ℕ) (e : Entry) (told there : Told) (old mid new : List ℕ)
    → Tells read written (map deref_pair xs) names old mid told → HasNumber names news x.1.now.old n → e ≡ entry_of read written (deref_pair x) n → Continues told (e ∷ []) mid new there
    → Tells read written (map deref_pair (xs ++ x ∷ [])) news old new there
tells_step read written xs x names news n e told there old mid new before number is one =
    subst (λ l. Tells read written l news old new there) (sym (map_push deref_pair xs x)) (tells_more read written (map deref_pair xs) (deref_pair x) names news n e told there old mid new before number is one)

pub tells_all : (read written : List ℕ) (xs : List (Bor ℕ × Bor Mapped)) (places : BTreeMap ℕ Mapped) (names : Names) (there : Told) (old new : List ℕ) → map deref_pair xs ≡ places.entries → IsOrdered nat_cmp places
    → Tells read written (map deref_pair xs) names old new there → AddsMappings read written places old new names
tells_all read written xs places names there old new all rise told =
    let whole : Tells read written places.entries names old new there = subst (λ l. Tells read written l names old new there) all told in
    let es : List Entry = whole.entries in
    record {
      entries = es;
      mappings = whole.continues.text;
      whole = whole.continues.whole;
      rise = rise;
      named = whole.named;
      told = whole.tell;
      are = subst (λ l. AreMappings start es l) (append-nil whole.continues.text)
          (subst (λ l. AreMappings start l (whole.continues.text ++ [])) (append-nil es) (whole.continues.goes_on [] [] (AreMappings.ended there)));
    }

-- ---- the whole

pub whole_map : (old a b c d e f new first name second names third mappings last : List ℕ) → old ≡ [] → a ≡ old ++ first → b ≡ a ++ name → c ≡ b ++ second → d ≡ c ++ names → e ≡ d ++ third → f ≡ e ++ mappings → new ≡ f ++ last
    → new ≡ first ++ name ++ second ++ names ++ third ++ mappings ++ last
whole_map old a b c d e f new first name second names third mappings last empty one two three four five six seven =
    seven ∙ ap (λ (l : List ℕ). l ++ last) (six ∙ ap (λ (l : List ℕ). l ++ mappings) (five ∙ ap (λ (l : List ℕ). l ++ third) (four ∙ ap (λ (l : List ℕ). l ++ names) (three ∙ ap (λ (l : List ℕ). l ++ second) (two ∙ ap (λ (l : List ℕ). l ++ name) (one ∙ ap (λ (l : List ℕ). l ++ first) empty))))))
