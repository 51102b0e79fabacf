-- What is read fits its place, and the table knows its marks.
use Rattle.std.proofs.Common.{◌≡◌, ℕ, suc, List, [], ◌∷◌, Bool, true, false, cond, map, length, IsTrue, Some, option_and_then, Ok, Err, codes, bytes_eq, refl, sym, ap, ◌∙◌, subst}
use Rattle.std.specs.List.{list_all}
use Rattle.std.specs.Prelude.{is_some}
use Rattle.json.specs.Json.{Json, null, boolean, number, string, array, object, Items, no_items, item, Members, no_members, member}
use Rattle.json.specs.Find.{as_array, as_str, get_member}
use Rattle.swc_tree_marks.specs.Globals.{Table}
use Rattle.swc_tree_marks.specs.declared.ident.Ident.{Ident}
use Rattle.swc_tree_node.specs.declared.kind.Kind.{Kind}
use Rattle.swc_tree_node.specs.declared.kind.Class.{Class}
use Rattle.swc_tree_node.specs.declared.kind.WordClass.{WordClass}
use Rattle.swc_tree_node.specs.declared.kind.Word.{Word as Word'}
use Rattle.swc_tree_node.specs.declared.slot.Content.{Content}
use Rattle.swc_tree_node.specs.declared.slot.Content.TheVariants as content
use Rattle.swc_tree_node.specs.declared.slot.Slot.{Slot}
use Rattle.swc_tree_node.specs.declared.slot.Slot.TheVariants as slot
use Rattle.swc_tree_node.specs.declared.slot.Role.{Role}
use Rattle.swc_tree_node.specs.declared.node.Node.{Node, Absent, Flag, Word, Text, Span, List as Many, Identifier, Tree}
use Rattle.swc_tree_node.specs.Table.{kinds_of, name_of, fields_of, slots_of, words_of, spelling_of, is_identifier, kind_number, word_number}
use Rattle.swc_tree_node.specs.Fits.{Fits, FieldsFit, AllFit, fits, single, belongs, is_among, absent_fits, list_fits}
use Rattle.swc_tree_node.proofs.Fit.{fits-Absent, fits-Flag, fits-Word, fits-Text, fits-Span, fits-List, fits-Identifier, fits-Tree, and_both, fields_close, all_close}
use Rattle.jsbase_form.specs.Reads.{Read, ◌>>=◌, at, found, key, index}
use Rattle.jsbase_form.specs.Leaves.{is_marked, marked, mark_at, marks_of, number_at, span_at, context_at, text_at, flag_at, word_at, spelled}
use Rattle.jsbase_form.specs.Trees.{Keys, leaf_at, ident_at, kind_at, named, fields_at, body_at, node_at, null_as, single_as, listed, are_two, array_as, object_of, object_as, seen, items_seen, members_seen, value_of}
use Rattle.jsbase_form.specs.Known.{MarksKnown, marks_known, all_of}
use Rattle.jsbase_form.proofs.Successes.{bound, at_ok, found_ok, ok_same, chosen, find_among, some_then}
use Rattle.jsbase_form.proofs.Folds.{known-Absent, known-Flag, known-Word, known-Text, known-Span, known-List, known-Identifier, known-Tree}

-- a tree that fits the place, with marks of the table
abbrev pub Sound : Table → Slot → Node → Type 0
Sound table s t = Fits t s × MarksKnown table t

abbrev pub FieldsSound : Table → List Slot → List Node → Type 0
FieldsSound table ss ts = FieldsFit ss ts × IsTrue (all_of (map (marks_known table) ts))

abbrev pub AllSound : Table → Slot → List Node → Type 0
AllSound table s ts = AllFit s ts × IsTrue (all_of (map (marks_known table) ts))

-- ---- leaves

word_among : (ws : WordClass) (d : Json) (w : Word') → word_at ws d ≡ Ok w → is_among w ws ≡ true
unfolding word_at
word_among ws d w h =
    let text = bound (found (as_str d)) (λ text. found (spelled text (words_of ws))) w h in
    find_among (λ w. bytes_eq (spelling_of w) text.0) word_number (words_of ws) w (found_ok _ w text.2)

leaf_sound : (table : Table) (c : Content) (d : Json) (t : Node) → leaf_at c d ≡ Ok t → (s : Slot) → single s ≡ Some c → Sound table s t
leaf_sound table content.Span d t h s one =
    let x = bound (span_at d) (λ x. Ok (Span x)) t h in
    subst (Sound table s) (ok_same (Span x.0) t x.2) (rw (fits-Span x.0 s, one) refl, known-Span table x.0)
leaf_sound table content.Text d t h s one =
    let x = bound (text_at d) (λ x. Ok (Text x)) t h in
    subst (Sound table s) (ok_same (Text x.0) t x.2) (rw (fits-Text x.0 s, one) refl, known-Text table x.0)
leaf_sound table content.Flag d t h s one =
    let x = bound (flag_at d) (λ x. Ok (Flag x)) t h in
    subst (Sound table s) (ok_same (Flag x.0) t x.2) (rw (fits-Flag x.0 s, one) refl, known-Flag table x.0)
leaf_sound table (content.Word ws) d t h s one =
    let x = bound (word_at ws d) (λ x. Ok (Word x)) t h in
    subst (Sound table s) (ok_same (Word x.0) t x.2) (rw (fits-Word x.0 s, one) (word_among ws d x.0 x.1), known-Word table x.0)
leaf_sound table (content.Node c) d t h s one = absurd (cc)

absent_sound : (table : Table) (s : Slot) (t : Node) → absent_fits s ≡ true → Absent ≡ t → Sound table s t
absent_sound table s t there e = subst (Sound table s) e (rw (fits-Absent s) there, known-Absent table)

null_sound : (table : Table) (s : Slot) (t : Node) → null_as s ≡ Ok t → Sound table s t
null_sound table (slot.Optional c) t h = absent_sound table (slot.Optional c) t refl (ok_same Absent t h)
null_sound table (slot.OptionalList c) t h = absent_sound table (slot.OptionalList c) t refl (ok_same Absent t h)
null_sound table slot.Pairs t h = absent_sound table slot.Pairs t refl (ok_same Absent t h)
null_sound table _ t h = absurd (cc)

single_sound : (table : Table) (d : Json) (s : Slot) (t : Node) → single_as d s ≡ Ok t → Sound table s t
single_sound table d (slot.One c) t h = leaf_sound table c d t h (slot.One c) refl
single_sound table d (slot.Optional c) t h = leaf_sound table c d t h (slot.Optional c) refl
single_sound table d _ t h = absurd (cc)

-- ---- identifiers

mark_known : (table : Table) (d : Json) (n : ℕ) → mark_at table d ≡ Ok n → is_marked table n ≡ true
unfolding mark_at
mark_known table d n h =
    let number = bound (number_at d) (marked table) n h in
    let is = chosen (is_marked table number.0) number.0 n number.2 in
    sym (ap (is_marked table) is.1) ∙ is.0

marks_all_known : (table : Table) (i : ℕ) (ds : Items) (ns : List ℕ) → marks_of table i ds ≡ Ok ns → list_all (is_marked table) ns ≡ true
marks_all_known table i no_items ns h = ap (list_all (is_marked table)) (sym (ok_same [] ns h))
marks_all_known table i (item d ds) ns h =
    let first = bound (at (index i) (mark_at table d)) (λ n. marks_of table (suc i) ds >>= (λ ns. Ok (n ∷ ns))) ns h in
    let rest = bound (marks_of table (suc i) ds) (λ ns. Ok (first.0 ∷ ns)) ns first.2 in
    ap (list_all (is_marked table)) (sym (ok_same (first.0 ∷ rest.0) ns rest.2))
    ∙ rw (mark_known table d first.0 (at_ok (index i) (mark_at table d) first.0 first.1)) (marks_all_known table (suc i) ds rest.0 rest.1)

context_known : (table : Table) (d : Json) (ns : List ℕ) → context_at table d ≡ Ok ns → list_all (is_marked table) ns ≡ true
unfolding context_at
context_known table d ns h = let ds = bound (found (as_array d)) (marks_of table 0) ns h in marks_all_known table 0 ds.0 ns ds.2

ident_known : (table : Table) (ms : Members) (i : Ident) → ident_at table ms ≡ Ok i → list_all (is_marked table) i.ctxt ≡ true
unfolding ident_at
ident_known table ms i h =
    let span = bound (at (key (codes "span")) (span_at (value_of (codes "span") ms))) _ i h in
    let ctxt = bound (at (key (codes "ctxt")) (context_at table (value_of (codes "ctxt") ms))) _ i span.2 in
    let sym_read = bound (at (key (codes "sym")) (text_at (value_of (codes "sym") ms))) _ i ctxt.2 in
    let same = ok_same (record { span = span.0; ctxt = ctxt.0; sym = sym_read.0 }) i sym_read.2 in
    ap (λ x. list_all (is_marked table) x.ctxt) (sym same) ∙ context_known table (value_of (codes "ctxt") ms) ctxt.0 (at_ok (key (codes "ctxt")) _ ctxt.0 ctxt.1)

-- ---- nodes

kind_belongs : (c : Class) (ms : Members) (k : Kind) → kind_at c ms ≡ Ok k → belongs k c ≡ true
unfolding kind_at
kind_belongs c ms k h =
    let name = some_then (λ name. named name (kinds_of c)) (option_and_then as_str (get_member (codes "type") ms)) k (found_ok _ k h) in
    find_among (λ k. bytes_eq (name_of k) name.0) kind_number (kinds_of c) k name.2

fields_sound : (table : Table) (keys : Keys) → ((k : List ℕ) (s : Slot) (t : Node) → keys k s ≡ Ok t → Sound table s t) → (fs : List (List ℕ × Slot × Role)) (ts : List Node) → fields_at keys fs ≡ Ok ts
    → FieldsSound table (map (λ f. f.1) fs) ts
fields_sound table keys each [] ts h = subst (FieldsSound table []) (ok_same [] ts h) (tt, refl)
fields_sound table keys each (f ∷ fs) ts h =
    let first = bound (at (key f.0) (keys f.0 f.1)) (λ t. fields_at keys fs >>= (λ ts. Ok (t ∷ ts))) ts h in
    let rest = bound (fields_at keys fs) (λ ts. Ok (first.0 ∷ ts)) ts first.2 in
    let one = each f.0 f.1 first.0 (at_ok (key f.0) (keys f.0 f.1) first.0 first.1) in
    let others = fields_sound table keys each fs rest.0 rest.1 in
    subst (FieldsSound table (f.1 ∷ map (λ f. f.1) fs)) (ok_same (first.0 ∷ rest.0) ts rest.2)
    ((one.0, others.0), and_both (marks_known table first.0) (all_of (map (marks_known table) rest.0)) one.1 others.1)

body_sound : (b : Bool) (table : Table) (ms : Members) (keys : Keys) → ((k : List ℕ) (s : Slot) (t : Node) → keys k s ≡ Ok t → Sound table s t) → (k : Kind) (t : Node) → is_identifier k ≡ b
    → cond b (ident_at table ms >>= (λ i. Ok (Identifier k i))) (fields_at keys (fields_of k) >>= (λ ts. Ok (Tree k ts))) ≡ Ok t → (c : Class) → belongs k c ≡ true → (s : Slot) → single s ≡ Some (content.Node c) → Sound table s t
body_sound true table ms keys each k t is h c in_class s one =
    let i = bound (ident_at table ms) (λ i. Ok (Identifier k i)) t h in
    subst (Sound table s) (ok_same (Identifier k i.0) t i.2) (rw (fits-Identifier k i.0 s, one, is, in_class) refl, known-Identifier table k i.0 ∙ ident_known table ms i.0 i.1)
body_sound false table ms keys each k t is h c in_class s one =
    let ts = bound (fields_at keys (fields_of k)) (λ ts. Ok (Tree k ts)) t h in
    let fields = fields_sound table keys each (fields_of k) ts.0 ts.1 in
    subst (Sound table s) (ok_same (Tree k ts.0) t ts.2)
    (rw (fits-Tree k ts.0 s, one, is, in_class) (fields_close (slots_of k) ts.0 fields.0), known-Tree table k ts.0 ∙ fields.1)

node_sound : (table : Table) (ms : Members) (keys : Keys) → ((k : List ℕ) (s : Slot) (t : Node) → keys k s ≡ Ok t → Sound table s t) → (c : Class) (t : Node) → node_at table ms keys c ≡ Ok t
    → (s : Slot) → single s ≡ Some (content.Node c) → Sound table s t
unfolding body_at
node_sound table ms keys each c t h s one =
    let k = bound (kind_at c ms) (body_at table ms keys) t h in
    body_sound (is_identifier k.0) table ms keys each k.0 t refl k.2 c (kind_belongs c ms k.0 k.1) s one

object_sound : (table : Table) (ms : Members) (keys : Keys) → ((k : List ℕ) (s : Slot) (t : Node) → keys k s ≡ Ok t → Sound table s t) → (c : Content) (t : Node) → object_of table ms keys c ≡ Ok t
    → (s : Slot) → single s ≡ Some c → Sound table s t
object_sound table ms keys each (content.Node c) t h s one = node_sound table ms keys each c t h s one
object_sound table ms keys each content.Span t h s one = absurd (cc)
object_sound table ms keys each content.Text t h s one = absurd (cc)
object_sound table ms keys each content.Flag t h s one = absurd (cc)
object_sound table ms keys each (content.Word ws) t h s one = absurd (cc)

objects_sound : (table : Table) (ms : Members) (keys : Keys) → ((k : List ℕ) (s : Slot) (t : Node) → keys k s ≡ Ok t → Sound table s t) → (s : Slot) (t : Node) → object_as table ms keys s ≡ Ok t → Sound table s t
objects_sound table ms keys each (slot.One c) t h = object_sound table ms keys each c t h (slot.One c) refl
objects_sound table ms keys each (slot.Optional c) t h = object_sound table ms keys each c t h (slot.Optional c) refl
objects_sound table ms keys each _ t h = absurd (cc)

abbrev count : Items → ℕ
count no_items = 0
count (item d ds) = suc (count ds)

two_counted : (ds : Items) → are_two ds ≡ true → count ds ≡ 2
two_counted (item a (item b no_items)) h = refl
two_counted _ h = absurd (cc)

-- as many nodes are read as there are items
items_counted : (table : Table) (i : ℕ) (ds : Items) (s : Slot) (ts : List Node) → items_seen table i ds s ≡ Ok ts → length ts ≡ count ds
items_counted table i no_items s ts h = ap length (sym (ok_same [] ts h))
items_counted table i (item d ds) s ts h =
    let first = bound (at (index i) (seen table d s)) (λ t. items_seen table (suc i) ds s >>= (λ ts. Ok (t ∷ ts))) ts h in
    let rest = bound (items_seen table (suc i) ds s) (λ ts. Ok (first.0 ∷ ts)) ts first.2 in
    ap length (sym (ok_same (first.0 ∷ rest.0) ts rest.2)) ∙ ap suc (items_counted table (suc i) ds s rest.0 rest.1)

-- a list whose items are sound in their place, in a place that takes such lists
listed_sound : (table : Table) (s inner : Slot) (r : Read (List Node)) → ((ts : List Node) → r ≡ Ok ts → AllSound table inner ts) → ((ts : List Node) → r ≡ Ok ts → AllFit inner ts → IsTrue (list_fits (map fits ts) s))
    → (t : Node) → listed r ≡ Ok t → Sound table s t
listed_sound table s inner r sound close t h =
    let ts = bound r (λ ts. Ok (Many ts)) t h in
    let all = sound ts.0 ts.1 in
    subst (Sound table s) (ok_same (Many ts.0) t ts.2) (rw (fits-List ts.0 s) (close ts.0 ts.1 all.0), known-List table ts.0 ∙ all.1)

pair_close : (ts : List Node) → length ts ≡ 2 → AllFit (slot.One content.Text) ts → IsTrue (list_fits (map fits ts) slot.Pair)
pair_close (t ∷ u ∷ []) two fit = fields_close (slot.One content.Text ∷ slot.One content.Text ∷ []) (t ∷ u ∷ []) fit
pair_close [] two fit = absurd (cc)
pair_close (t ∷ []) two fit = absurd (cc)
pair_close (t ∷ u ∷ v ∷ ts) two fit = absurd (cc)

pair_sound : (b : Bool) (table : Table) (ds : Items) (r : Read (List Node)) → ((ts : List Node) → r ≡ Ok ts → AllSound table (slot.One content.Text) ts) → ((ts : List Node) → r ≡ Ok ts → length ts ≡ count ds) → are_two ds ≡ b
    → (t : Node) → cond b (listed r) (Err []) ≡ Ok t → Sound table slot.Pair t
pair_sound true table ds r sound counted is t h = listed_sound table slot.Pair (slot.One content.Text) r sound (λ ts e fit. pair_close ts (counted ts e ∙ two_counted ds is) fit) t h
pair_sound false table ds r sound counted is t h = absurd (cc)

arrays_sound : (table : Table) (ds : Items) (each : Slot → Read (List Node)) → ((s : Slot) (ts : List Node) → each s ≡ Ok ts → AllSound table s ts) → ((s : Slot) (ts : List Node) → each s ≡ Ok ts → length ts ≡ count ds)
    → (s : Slot) (t : Node) → array_as ds each s ≡ Ok t → Sound table s t
arrays_sound table ds each sound counted (slot.One c) t h = leaf_sound table c (array ds) t h (slot.One c) refl
arrays_sound table ds each sound counted (slot.Optional c) t h = leaf_sound table c (array ds) t h (slot.Optional c) refl
arrays_sound table ds each sound counted (slot.List c) t h = listed_sound table (slot.List c) (slot.One c) (each (slot.One c)) (sound (slot.One c)) (λ ts e. all_close (slot.One c) ts) t h
arrays_sound table ds each sound counted (slot.Holes c) t h = listed_sound table (slot.Holes c) (slot.Optional c) (each (slot.Optional c)) (sound (slot.Optional c)) (λ ts e. all_close (slot.Optional c) ts) t h
arrays_sound table ds each sound counted (slot.OptionalList c) t h = listed_sound table (slot.OptionalList c) (slot.One c) (each (slot.One c)) (sound (slot.One c)) (λ ts e. all_close (slot.One c) ts) t h
arrays_sound table ds each sound counted slot.Pair t h = pair_sound (are_two ds) table ds (each (slot.One content.Text)) (sound (slot.One content.Text)) (counted (slot.One content.Text)) refl t h
arrays_sound table ds each sound counted slot.Pairs t h = listed_sound table slot.Pairs slot.Pair (each slot.Pair) (sound slot.Pair) (λ ts e. all_close slot.Pair ts) t h

-- one of three readings
one_sound : (b c : Bool) (table : Table) (s : Slot) (later this none : Read Node) (t : Node) → (later ≡ Ok t → Sound table s t) → (this ≡ Ok t → Sound table s t) → (none ≡ Ok t → Sound table s t) → cond b later (cond c this none) ≡ Ok t → Sound table s t
one_sound true c table s later this none t f g n h = f h
one_sound false true table s later this none t f g n h = g h
one_sound false false table s later this none t f g n h = n h

mutual
  -- what is read fits its place, and the table knows its marks
  pub seen_sound : (table : Table) (d : Json) (s : Slot) (t : Node) → seen table d s ≡ Ok t → Sound table s t
  seen_sound table null s t h = null_sound table s t h
  seen_sound table (boolean b) s t h = single_sound table (boolean b) s t h
  seen_sound table (number n) s t h = single_sound table (number n) s t h
  seen_sound table (string x) s t h = single_sound table (string x) s t h
  seen_sound table (array ds) s t h = arrays_sound table ds (items_seen table 0 ds) (items_sound table 0 ds) (items_counted table 0 ds) s t h
  seen_sound table (object ms) s t h = objects_sound table ms (members_seen table ms) (members_sound table ms) s t h

  items_sound : (table : Table) (i : ℕ) (ds : Items) (s : Slot) (ts : List Node) → items_seen table i ds s ≡ Ok ts → AllSound table s ts
  items_sound table i no_items s ts h = subst (AllSound table s) (ok_same [] ts h) (tt, refl)
  items_sound table i (item d ds) s ts h =
      let first = bound (at (index i) (seen table d s)) (λ t. items_seen table (suc i) ds s >>= (λ ts. Ok (t ∷ ts))) ts h in
      let rest = bound (items_seen table (suc i) ds s) (λ ts. Ok (first.0 ∷ ts)) ts first.2 in
      let one = seen_sound table d s first.0 (at_ok (index i) (seen table d s) first.0 first.1) in
      let others = items_sound table (suc i) ds s rest.0 rest.1 in
      subst (AllSound table s) (ok_same (first.0 ∷ rest.0) ts rest.2)
      ((one.0, others.0), and_both (marks_known table first.0) (all_of (map (marks_known table) rest.0)) one.1 others.1)

  members_sound : (table : Table) (ms : Members) (k : List ℕ) (s : Slot) (t : Node) → members_seen table ms k s ≡ Ok t → Sound table s t
  members_sound table no_members k s t h = null_sound table s t h
  members_sound table (member l d ms) k s t h =
      one_sound (is_some (get_member k ms)) (bytes_eq l k) table s (members_seen table ms k s) (seen table d s) (null_as s) t (members_sound table ms k s t) (seen_sound table d s t) (null_sound table s t) h

pub seen_fits : (table : Table) (d : Json) (s : Slot) (t : Node) → seen table d s ≡ Ok t → Fits t s
seen_fits table d s t h = (seen_sound table d s t h).0

pub seen_known : (table : Table) (d : Json) (s : Slot) (t : Node) → seen table d s ≡ Ok t → MarksKnown table t
seen_known table d s t h = (seen_sound table d s t h).1
