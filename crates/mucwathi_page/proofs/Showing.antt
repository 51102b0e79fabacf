-- A page shows its text.
use Rattle.std.proofs.Common.{◌≡◌, ◌≢◌, ℕ, ◌+◌, ◌-◌, ◌^◌, ◌<◌, ◌≤◌, ◌==◌, ◌||◌, Bool, cond, true, false, List, [], ◌∷◌, ◌++◌, Some, None, Option, Bor, codes, decimal, drop, drop-drop, get_or, All, length, refl, sym, ap, ◌∙◌, subst, arith}
use Rattle.std.proofs.lemmas.Bool.Decides.{nat_tests}
use Rattle.std.proofs.lemmas.List.{append-nil, append_assoc, take-append-drop}
use Rattle.std.proofs.lemmas.Fmt.{decimal_is_IsNumeral}
use Rattle.std.proofs.lemmas.List.Elements.{All-from_get_or, All-head, All-tail}
use Rattle.std.proofs.lemmas.List.Folds.{list_any_none}
use Rattle.std.proofs.lemmas.Str.Parse.{digit_at}
use Rattle.std.specs.Int.{IsInRange}
use Rattle.mucwathi_page.specs.declared.drawn.Use.{Use}
use Rattle.mucwathi_page.specs.Drawn.{EndsNoTag, as_html, before_tag, begin_of, behind_tag, class_text, drawn, end_of, escaped, foot_text, hue, named, near, new_text, page_text, part, tag_text, up_to}
use Rattle.mucwathi_page.specs.Shown.{IsPage, Shows, has_end}

joined : {a t : List ℕ} (b u : List ℕ) → Shows a t → Shows b u → Shows (a ++ b) (t ++ u)
joined b u Shows.nothing k = k
joined b u (Shows.byte c html text x y h) k = Shows.byte c (html ++ b) (text ++ u) x y (joined b u h k)
joined b u (Shows.and_sign html text h) k = Shows.and_sign (html ++ b) (text ++ u) (joined b u h k)
joined b u (Shows.less html text h) k = Shows.less (html ++ b) (text ++ u) (joined b u h k)
joined b u (Shows.greater html text h) k = Shows.greater (html ++ b) (text ++ u) (joined b u h k)
joined b u (Shows.quote html text h) k = Shows.quote (html ++ b) (text ++ u) (joined b u h k)
joined b u (Shows.tag inside html text e h) k =
    subst (λ (rest : List ℕ). Shows (60 ∷ rest) (text ++ u)) (sym (append_assoc inside (62 ∷ html) b)) (Shows.tag inside (html ++ b) (text ++ u) e (joined b u h k))

same : (b k : ℕ) → (b == k) ≡ true → b ≡ k
same b k h = grind (arith, nat_tests)

other : (b k : ℕ) → (b == k) ≡ false → b ≢ k
other b k h = grind (arith, nat_tests)

-- a byte is shown, and ends no tag
record IsByteOf (b : ℕ) (html : List ℕ) : Type 0 where
  shown : Shows html (b ∷ [])
  inside : has_end html ≡ false

of_and : (b : ℕ) → (b == 38) ≡ true → IsByteOf b (codes "&amp;")
of_and b e = subst (λ n. IsByteOf n (codes "&amp;")) (sym (same b 38 e)) record { shown = Shows.and_sign [] [] Shows.nothing; inside = refl }

of_less : (b : ℕ) → (b == 60) ≡ true → IsByteOf b (codes "&lt;")
of_less b e = subst (λ n. IsByteOf n (codes "&lt;")) (sym (same b 60 e)) record { shown = Shows.less [] [] Shows.nothing; inside = refl }

of_greater : (b : ℕ) → (b == 62) ≡ true → IsByteOf b (codes "&gt;")
of_greater b e = subst (λ n. IsByteOf n (codes "&gt;")) (sym (same b 62 e)) record { shown = Shows.greater [] [] Shows.nothing; inside = refl }

of_quote : (b : ℕ) → (b == 34) ≡ true → IsByteOf b (codes "&quot;")
of_quote b e = subst (λ n. IsByteOf n (codes "&quot;")) (sym (same b 34 e)) record { shown = Shows.quote [] [] Shows.nothing; inside = refl }

of_plain : (b : ℕ) → (b == 38) ≡ false → (b == 60) ≡ false → (b == 62) ≡ false → IsByteOf b (b ∷ [])
of_plain b x y z = record { shown = Shows.byte b [] [] (other b 38 x) (other b 60 y) Shows.nothing; inside = ap (λ (t : Bool). t || false) z }

of_this : (b : ℕ) → (b == 38) ≡ false → (b == 60) ≡ false → (b == 62) ≡ false → IsByteOf b (cond (b == 34) (codes "&quot;") (b ∷ []))
of_this b x y z = elim (b == 34) as (λ t. (b == 34) ≡ t → IsByteOf b (cond t (codes "&quot;") (b ∷ []))) [ true ↦ of_quote b | false ↦ λ w. of_plain b x y z ] refl

of_other : (b : ℕ) → (b == 38) ≡ false → (b == 60) ≡ false → IsByteOf b (cond (b == 62) (codes "&gt;") (cond (b == 34) (codes "&quot;") (b ∷ [])))
of_other b x y = elim (b == 62) as (λ t. (b == 62) ≡ t → IsByteOf b (cond t (codes "&gt;") (cond (b == 34) (codes "&quot;") (b ∷ [])))) [ true ↦ of_greater b | false ↦ of_this b x y ] refl

of_next : (b : ℕ) → (b == 38) ≡ false → IsByteOf b (cond (b == 60) (codes "&lt;") (cond (b == 62) (codes "&gt;") (cond (b == 34) (codes "&quot;") (b ∷ []))))
of_next b x = elim (b == 60) as (λ t. (b == 60) ≡ t → IsByteOf b (cond t (codes "&lt;") (cond (b == 62) (codes "&gt;") (cond (b == 34) (codes "&quot;") (b ∷ []))))) [ true ↦ of_less b | false ↦ of_other b x ] refl

is_byte : (b : ℕ) → IsByteOf b (escaped b)
is_byte b = elim (b == 38) as (λ t. (b == 38) ≡ t → IsByteOf b (cond t (codes "&amp;") (cond (b == 60) (codes "&lt;") (cond (b == 62) (codes "&gt;") (cond (b == 34) (codes "&quot;") (b ∷ [])))))) [ true ↦ of_and b | false ↦ of_next b ] refl

shown_html : (text : List ℕ) → Shows (as_html text) text
shown_html [] = Shows.nothing
shown_html (b ∷ text) = joined (as_html text) text (is_byte b).shown (shown_html text)

-- bytes that end no tag, one behind another
first_inside : (t r s : Bool) → (t || r) ≡ false → (r ≡ false → s ≡ false) → (t || s) ≡ false
first_inside true r s h k = h
first_inside false r s h k = k h

both_inside : (a b : List ℕ) → has_end a ≡ false → has_end b ≡ false → has_end (a ++ b) ≡ false
both_inside [] b h k = k
both_inside (x ∷ a) b h k = first_inside (x == 62) (has_end a) (has_end (a ++ b)) h (λ rest. both_inside a b rest k)

html_inside : (text : List ℕ) → has_end (as_html text) ≡ false
html_inside [] = refl
html_inside (b ∷ text) = both_inside (escaped b) (as_html text) (is_byte b).inside (html_inside text)

-- digits end none
not_end : (b : ℕ) → IsInRange 48 57 b → (b == 62) ≡ false
not_end b h = grind (arith, nat_tests, h.0, h.1)

decimal_inside : (n : ℕ) → n < 2 ^ 64 → has_end (decimal n) ≡ false
decimal_inside n fits = list_any_none (λ b. b == 62) (decimal n) (All-from_get_or (λ b. (b == 62) ≡ false) (decimal n) 0 (λ i h. not_end (get_or (decimal n) i 0) (digit_at (decimal n) i (decimal_is_IsNumeral n fits).0.1 h)))

class_inside : (mark : ℕ) → has_end (class_text mark) ≡ false
class_inside mark = elim (mark == 1) as (λ t. has_end (cond t (codes " class=free") []) ≡ false) [ true ↦ refl | false ↦ refl ]

new_inside : (new : Option (Bor (List ℕ))) → has_end (new_text new) ≡ false
new_inside None = refl
new_inside (Some name) = both_inside (codes " data-new=\"") (as_html name.now ++ 34 ∷ []) refl (both_inside (as_html name.now) (34 ∷ []) (html_inside name.now) refl)

pub tag_inside : (u : Use) → u.variable < 2 ^ 64 → u.mark < 2 ^ 32 → EndsNoTag u
tag_inside u fits low =
    let colour : List ℕ = codes " style=\"--hue:" ++ (decimal (hue u.variable) ++ codes "\"") in
    let scope : List ℕ = codes " data-scope=" ++ (decimal u.mark ++ colour) in
    let whose : List ℕ = codes " data-of=" ++ (decimal u.variable ++ scope) in
    let coloured : has_end colour ≡ false = both_inside (codes " style=\"--hue:") (decimal (hue u.variable) ++ codes "\"") refl (both_inside (decimal (hue u.variable)) (codes "\"") (decimal_inside (hue u.variable) (omega arith)) refl) in
    let scoped : has_end scope ≡ false = both_inside (codes " data-scope=") (decimal u.mark ++ colour) refl (both_inside (decimal u.mark) colour (decimal_inside u.mark (omega arith)) coloured) in
    let owned : has_end whose ≡ false = both_inside (codes " data-of=") (decimal u.variable ++ scope) refl (both_inside (decimal u.variable) scope (decimal_inside u.variable fits) scoped) in
    both_inside (codes "b" ++ (class_text u.mark ++ whose)) (new_text u.new) (both_inside (class_text u.mark) whose (class_inside u.mark) owned) (new_inside u.new)

-- a name in its tags shows the name
shown_named : (u : Use) (name : List ℕ) → EndsNoTag u → Shows (named u name) name
shown_named u name inside = Shows.tag (tag_text u) (as_html name ++ codes "</b>") name inside (subst (Shows (as_html name ++ codes "</b>")) (append-nil name) (joined (codes "</b>") [] (shown_html name) (Shows.tag (codes "/b") [] [] refl Shows.nothing)))

-- a text from a place on is what is before another, and then from that on
reach : (a b : ℕ) → a ≤ b → b ≡ a + (b - a)
reach a b low = omega arith

split : (text : List ℕ) (a b : ℕ) → a ≤ b → part text a b ++ drop b text ≡ drop a text
split text a b low = ap (λ (l : List ℕ). part text a b ++ l) (ap (λ n. drop n text) (reach a b low) ∙ sym (drop-drop (b - a) a text)) ∙ take-append-drop (b - a) (drop a text)

near_low : (at low high : ℕ) → low ≤ near at low high
near_low at low high = omega arith

near_high : (at low high : ℕ) → low ≤ high → near at low high ≤ high
near_high at low high h = omega arith

shown_drawn : (text : List ℕ) (from : ℕ) (us : List Use) → All EndsNoTag us → from ≤ length text → Shows (drawn text from us) (drop from text)
shown_drawn text from [] inside within = shown_html (drop from text)
shown_drawn text from (u ∷ us) inside within =
    let begin : ℕ = begin_of text from u in
    let end : ℕ = end_of text from u in
    let before : List ℕ = part text from begin in
    let name : List ℕ = part text begin end in
    let begins : begin ≤ length text = near_high u.from from (length text) within in
    let here : Shows (up_to text from u) (before ++ name) = joined (named u name) name (shown_html before) (shown_named u name (All-head EndsNoTag u us inside)) in
    let all : Shows (up_to text from u ++ drawn text end us) ((before ++ name) ++ drop end text) = joined (drawn text end us) (drop end text) here (shown_drawn text end us (All-tail EndsNoTag u us inside) (near_high u.to begin (length text) begins)) in
    subst (Shows (drawn text from (u ∷ us)))
    (append_assoc before name (drop end text) ∙ ap (λ (l : List ℕ). before ++ l) (split text begin end (near_low u.to begin (length text))) ∙ split text from begin (near_low u.from from (length text))) all

pub is_page : (name text : List ℕ) (us : List Use) (page : List ℕ) → page ≡ page_text name text us → All EndsNoTag us → IsPage text page
is_page name text us page h inside = record {
  before = before_tag name;
  html = drawn text 0 us;
  after = behind_tag;
  whole = subst (λ (l : List ℕ). page ≡ l) (append_assoc (before_tag name) (codes "<pre>" ++ 10 ∷ []) (drawn text 0 us ++ foot_text)) h;
  shown = shown_drawn text 0 us inside (omega arith);
}
