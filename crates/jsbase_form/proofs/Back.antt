-- Leaves, identifiers and fields that are read back as they were written.
use Rattle.std.proofs.Common.{◌≡◌, ◌<◌, ◌^◌, ℕ, suc, List, [], ◌∷◌, Bool, true, false, not, ◌||◌, ◌==◌, cond, IsTrue, map, codes, Some, None, Ok, nat_lt, bytes_eq, unwrap_or, refl, sym, ap, ◌∙◌, arith}
use Rattle.std.specs.Prelude.{decimal, length}
use Rattle.std.specs.Str.{all_ascii_digits}
use Rattle.std.specs.Str.Parse.{digits_value}
use Rattle.std.specs.List.{find, list_any, list_all}
use Rattle.std.proofs.lemmas.Bool.Decides.{nat_tests}
use Rattle.std.proofs.lemmas.Fmt.{decimal_nonempty, digits_decimal, digits_value-decimal}
use Rattle.std.proofs.lemmas.Str.Parse.{IsNumeralModel, numerals_by_value, tells_all_ascii_digits}
use Rattle.std.proofs.lemmas.Slice.Eq.{bytes_eq-Decides}
use Rattle.json.specs.Json.{Json, null, string, Members}
use Rattle.json.specs.Find.{get_member}
use Rattle.json.specs.Value.{items_of}
use Rattle.swc_tree_marks.specs.Globals.{Table}
use Rattle.swc_tree_marks.specs.declared.span.Span.{Span}
use Rattle.swc_tree_marks.specs.declared.ident.Ident.{Ident}
use Rattle.swc_tree_node.specs.declared.kind.Kind.{Kind}
use Rattle.swc_tree_node.specs.declared.kind.Class.{Class}
use Rattle.swc_tree_node.specs.declared.kind.Word.{Word}
use Rattle.swc_tree_node.specs.declared.kind.WordClass.{WordClass}
use Rattle.swc_tree_node.specs.declared.slot.Slot.{Slot}
use Rattle.swc_tree_node.specs.declared.slot.Role.{Role}
use Rattle.swc_tree_node.specs.Table.{kinds_of, name_of, words_of, spelling_of, kind_number, word_number}
use Rattle.swc_tree_node.specs.Fits.{belongs, is_among}
use Rattle.jsbase_form.specs.Reads.{found}
use Rattle.jsbase_form.specs.Leaves.{whole, is_marked, number_at, span_at, mark_at, marks_of, context_at, text_at, word_at}
use Rattle.jsbase_form.specs.Trees.{ident_at, kind_at, value_of}
use Rattle.jsbase_form.specs.Known.{span_short}
use Rattle.jsbase_form.specs.Writing.{put, natural, numbers_json, span_json, typed, fields_put}
use Rattle.jsbase_form.proofs.Members.{apart, neither, split}
use Rattle.jsbase_form.proofs.Puts.{put_new, put_other}
use Rattle.jsbase_form.proofs.Numbers.{same_kind, kind_told, same_word, word_told}

-- ---- searches

number_same : (m n : ℕ) → (m == n) ≡ true → m ≡ n
number_same m n e = grind arith

found_at : {X : Type 0} (test : X → Bool) (number : X → ℕ) (b : Bool) (y : X) (ys : List X) (x : X) → test y ≡ b → (test y ≡ true → y ≡ x) → (number x ≡ number y → x ≡ y) → test x ≡ true
    → (number x == number y) || list_any (λ z. number x == number z) ys ≡ true → (list_any (λ z. number x == number z) ys ≡ true → find test ys ≡ Some x) → cond b (Some y) (find test ys) ≡ Some x
found_at test number true y ys x is same told passes h later = ap Some (same is)
found_at test number false y ys x is same told passes h later = later (other (number x == number y) refl h)
  where
    other : (c : Bool) → (number x == number y) ≡ c → c || list_any (λ z. number x == number z) ys ≡ true → list_any (λ z. number x == number z) ys ≡ true
    other true e h = let eq : x ≡ y = told (number_same (number x) (number y) e) in let t = ap test eq in cc
    other false e h = h

-- an element of a list is the first that its own test takes
found_first : {X : Type 0} (text : X → List ℕ) (number : X → ℕ) → ((x y : X) → number x ≡ number y → x ≡ y) → ((x y : X) → bytes_eq (text x) (text y) ≡ true → x ≡ y) → (xs : List X) (x : X)
    → list_any (λ z. number x == number z) xs ≡ true → find (λ z. bytes_eq (text z) (text x)) xs ≡ Some x
found_first text number same told [] x h = absurd (cc)
found_first text number same told (y ∷ ys) x h =
    found_at (λ z. bytes_eq (text z) (text x)) number _ y ys x refl (told y x) (same x y) ((bytes_eq-Decides (text x) (text x)).1 refl) h (found_first text number same told ys x)

pub word_back : (ws : WordClass) (w : Word) → is_among w ws ≡ true → word_at ws (string (spelling_of w)) ≡ Ok w
unfolding word_at
word_back ws w h = ap found (found_first spelling_of word_number same_word word_told (words_of ws) w h)

pub kind_back : (c : Class) (k : Kind) (ms : Members) → belongs k c ≡ true → get_member (codes "type") ms ≡ Some (string (name_of k)) → kind_at c ms ≡ Ok k
unfolding kind_at
kind_back c k ms h e = rw e (ap found (found_first name_of kind_number same_kind kind_told (kinds_of c) k h))

-- ---- leaves

pub numerals : IsNumeralModel (λ ds. all_ascii_digits ds ≡ true) (digits_value 10)
numerals = numerals_by_value (λ ds. all_ascii_digits ds ≡ true) tells_all_ascii_digits

whole_decimal : (n : ℕ) → nat_lt n (2 ^ 32) ≡ true → n < 2 ^ 64 → whole (decimal n) ≡ Some n
whole_decimal n short h =
    let digits : all_ascii_digits (decimal n) ≡ true = digits_decimal numerals n h in
    let some : nat_lt 0 (length (decimal n)) ≡ true = grind (arith, nat_tests, decimal_nonempty n h) in
    rw (some, digits, digits_value-decimal numerals n h, short) refl

pub number_back : (n : ℕ) → nat_lt n (2 ^ 32) ≡ true → number_at (natural n) ≡ Ok n
unfolding number_at
number_back n h = let below : n < 2 ^ 64 = grind (arith, nat_tests) in rw (whole_decimal n h below) refl

pub span_back : (s : Span) → span_short s ≡ true → span_at (span_json s) ≡ Ok s
unfolding span_at
span_back s h =
    let both = split (nat_lt s.lo (2 ^ 32)) (nat_lt s.hi (2 ^ 32)) h in
    rw (number_back s.lo both.0, number_back s.hi both.1) refl

pub mark_back : (table : Table) (n : ℕ) → is_marked table n ≡ true → nat_lt n (2 ^ 32) ≡ true → mark_at table (natural n) ≡ Ok n
unfolding mark_at
mark_back table n known short = rw (number_back n short, known) refl

marks_back : (table : Table) (ns : List ℕ) (i : ℕ) → list_all (is_marked table) ns ≡ true → list_all (λ n. nat_lt n (2 ^ 32)) ns ≡ true → marks_of table i (items_of (map natural ns)) ≡ Ok ns
marks_back table [] i known short = refl
marks_back table (n ∷ ns) i known short =
    let k = split (is_marked table n) (list_all (is_marked table) ns) known in
    let s = split (nat_lt n (2 ^ 32)) (list_all (λ n. nat_lt n (2 ^ 32)) ns) short in
    rw (mark_back table n k.0 s.0, marks_back table ns (suc i) k.1 s.1) refl

pub context_back : (table : Table) (ns : List ℕ) → list_all (is_marked table) ns ≡ true → list_all (λ n. nat_lt n (2 ^ 32)) ns ≡ true → context_at table (numbers_json ns) ≡ Ok ns
unfolding context_at
context_back table ns known short = marks_back table ns 0 known short

pub text_back : (x : List ℕ) → text_at (string x) ≡ Ok x
unfolding text_at
text_back x = refl

abbrev pub ident_members : Kind → Ident → Members
ident_members k i = put (codes "sym") (string i.sym) (put (codes "ctxt") (numbers_json i.ctxt) (put (codes "span") (span_json i.span) (typed k)))

pub ident_type : (k : Kind) (i : Ident) → get_member (codes "type") (ident_members k i) ≡ Some (string (name_of k))
ident_type k i = refl

pub ident_back : (table : Table) (k : Kind) (i : Ident) → list_all (is_marked table) i.ctxt ≡ true → span_short i.span ≡ true → list_all (λ n. nat_lt n (2 ^ 32)) i.ctxt ≡ true → ident_at table (ident_members k i) ≡ Ok i
unfolding ident_at
ident_back table k i known span short = rw (span_back i.span span, context_back table i.ctxt known short, text_back i.sym) refl

-- ---- fields

-- the other keys keep their values
pub fields_put_other : (q : List ℕ) (fs : List (List ℕ × Slot × Role)) (ds : List Json) (ms : Members) → IsTrue (not (list_any (λ other. bytes_eq q other) (map (λ f. f.0) fs))) → get_member q (fields_put fs ds ms) ≡ get_member q ms
fields_put_other q [] ds ms h = refl
fields_put_other q (f ∷ fs) [] ms h = refl
fields_put_other q (f ∷ fs) (d ∷ ds) ms h =
    let both = neither (bytes_eq q f.0) (list_any (λ other. bytes_eq q other) (map (λ f. f.0) fs)) h in
    fields_put_other q fs ds (put f.0 d ms) both.1 ∙ put_other q f.0 d ms (λ e. apart q f.0 both.0 (sym e))

pub first_put : (f : List ℕ × Slot × Role) (fs : List (List ℕ × Slot × Role)) (d : Json) (ds : List Json) (ms : Members) → IsTrue (not (list_any (λ other. bytes_eq f.0 other) (map (λ f. f.0) fs))) → get_member f.0 ms ≡ None
    → value_of f.0 (fields_put (f ∷ fs) (d ∷ ds) ms) ≡ d
first_put f fs d ds ms h new = ap (λ o. unwrap_or o null) (fields_put_other f.0 fs ds (put f.0 d ms) h ∙ put_new f.0 d ms new)
