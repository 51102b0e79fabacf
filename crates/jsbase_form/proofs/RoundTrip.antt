-- Reading what was written gives the tree back.
use Rattle.std.proofs.Common.{◌≡◌, ℕ, suc, List, [], ◌∷◌, Bool, true, false, not, ◌&&◌, IsTrue, map, codes, Option, Some, None, Ok, bytes_eq, refl, ap, ◌∙◌, rules}
use Rattle.std.specs.List.{list_any}
use Rattle.json.specs.Json.{Json, null, boolean, string, array, object, Members, no_members}
use Rattle.json.specs.Find.{get_member}
use Rattle.json.specs.Value.{items_of}
use Rattle.swc_tree_marks.specs.Globals.{Table}
use Rattle.swc_tree_marks.specs.declared.span.Span.{Span as Span'}
use Rattle.swc_tree_marks.specs.declared.ident.Ident.{Ident}
use Rattle.swc_tree_node.specs.declared.kind.Kind.{Kind}
use Rattle.swc_tree_node.specs.declared.kind.Class.{Class}
use Rattle.swc_tree_node.specs.declared.kind.Word.{Word as Word'}
use Rattle.swc_tree_node.specs.declared.kind.WordClass.{WordClass}
use Rattle.swc_tree_node.specs.declared.slot.Content.{Content}
use Rattle.swc_tree_node.specs.declared.slot.Content.TheVariants as content
use Rattle.swc_tree_node.specs.declared.slot.Slot.{Slot}
use Rattle.swc_tree_node.specs.declared.slot.Slot.TheVariants as slot
use Rattle.swc_tree_node.specs.declared.slot.Role.{Role}
use Rattle.swc_tree_node.specs.declared.node.Node.{Node, Absent, Flag, Word, Text, Span, List as Many, Identifier, Tree, the_lemmas}
use Rattle.swc_tree_node.specs.Table.{name_of, fields_of, slots_of, spelling_of, is_identifier}
use Rattle.swc_tree_node.specs.Fits.{Fits, FieldsFit, AllFit, fits, single, belongs, is_among, absent_fits, flag_fits, word_fits, text_fits, span_fits, list_fits, identifier_fits, tree_fits, each_fits}
use Rattle.swc_tree_node.proofs.Fit.{fits-Absent, fits-Flag, fits-Word, fits-Text, fits-Span, fits-List, fits-Identifier, fits-Tree, fields_open, all_open}
use Rattle.jsbase_form.specs.Reads.{◌>>=◌}
use Rattle.jsbase_form.specs.Keys.{all_differ}
use Rattle.jsbase_form.specs.Leaves.{flag_at}
use Rattle.jsbase_form.specs.Trees.{Keys, leaf_at, fields_at, body_at, node_at, null_as, single_as, listed, object_of, seen, items_seen, members_seen, ident_at, value_of}
use Rattle.jsbase_form.specs.Known.{ReadsAs, all_of, all_keyed, marks_short, MarksKnown, marks_known, NumbersShort, numbers_short, span_short}
use Rattle.jsbase_form.specs.Writing.{put, json, span_json, typed, ident_json, fields_put}
use Rattle.jsbase_form.proofs.Members.{member_seen, table_differs, split, apart, neither}
use Rattle.jsbase_form.proofs.Puts.{put_other}
use Rattle.jsbase_form.proofs.Folds.{known-List, known-Identifier, known-Tree, short-Span, short-List, short-Identifier, short-Tree}
use Rattle.jsbase_form.proofs.Induction.{AllOf, by_parts}
use Rattle.jsbase_form.proofs.Back.{word_back, kind_back, span_back, text_back, ident_members, ident_type, ident_back, fields_put_other, first_put}

pub json-Absent : json Absent ≡ null
json-Absent = search (rules, the_lemmas)

pub json-Flag : (b : Bool) → json (Flag b) ≡ boolean b
json-Flag b = search (rules, the_lemmas)

pub json-Word : (w : Word') → json (Word w) ≡ string (spelling_of w)
json-Word w = search (rules, the_lemmas)

pub json-Text : (x : List ℕ) → json (Text x) ≡ string x
json-Text x = search (rules, the_lemmas)

pub json-Span : (s : Span') → json (Span s) ≡ span_json s
json-Span s = search (rules, the_lemmas)

pub json-List : (ts : List Node) → json (Many ts) ≡ array (items_of (map json ts))
json-List ts = search (rules, the_lemmas)

pub json-Identifier : (k : Kind) (i : Ident) → json (Identifier k i) ≡ ident_json k i
json-Identifier k i = search (rules, the_lemmas)

pub json-Tree : (k : Kind) (ts : List Node) → json (Tree k ts) ≡ object (fields_put (fields_of k) (map json ts) (typed k))
json-Tree k ts = search (rules, the_lemmas)

-- what is written of the tree reads as the tree, wherever it fits
abbrev pub ReadsBack : Table → Node → Type 0
ReadsBack table t = (s : Slot) → Fits t s → MarksKnown table t → NumbersShort t → seen table (json t) s ≡ Ok t

-- ---- where each form may stand

absent_place : (s : Slot) → IsTrue (absent_fits s) → null_as s ≡ Ok Absent
absent_place (slot.Optional c) h = refl
absent_place (slot.OptionalList c) h = refl
absent_place slot.Pairs h = refl
absent_place _ h = absurd (cc)

flag_place : (o : Option Content) → IsTrue (flag_fits o) → o ≡ Some content.Flag
flag_place (Some content.Flag) h = refl
flag_place _ h = absurd (cc)

text_place : (o : Option Content) → IsTrue (text_fits o) → o ≡ Some content.Text
text_place (Some content.Text) h = refl
text_place _ h = absurd (cc)

span_place : (o : Option Content) → IsTrue (span_fits o) → o ≡ Some content.Span
span_place (Some content.Span) h = refl
span_place _ h = absurd (cc)

word_place : (w : Word') (o : Option Content) → IsTrue (word_fits w o) → (ws : WordClass) × (o ≡ Some (content.Word ws)) × IsTrue (is_among w ws)
word_place w (Some (content.Word ws)) h = (ws, refl, h)
word_place w _ h = absurd (cc)

ident_place : (k : Kind) (o : Option Content) → IsTrue (identifier_fits k o) → (c : Class) × (o ≡ Some (content.Node c)) × IsTrue (is_identifier k && belongs k c)
ident_place k (Some (content.Node c)) h = (c, refl, h)
ident_place k _ h = absurd (cc)

tree_place : (k : Kind) (fs : List (Slot → Bool)) (o : Option Content) → IsTrue (tree_fits k fs o) → (c : Class) × (o ≡ Some (content.Node c)) × IsTrue (not (is_identifier k) && (belongs k c && each_fits (slots_of k) fs))
tree_place k fs (Some (content.Node c)) h = (c, refl, h)
tree_place k fs _ h = absurd (cc)

single_back : (d : Json) (s : Slot) (c : Content) (t : Node) → single s ≡ Some c → leaf_at c d ≡ Ok t → single_as d s ≡ Ok t
single_back d (slot.One x) c t one h = let same : x ≡ c = cc in ap (λ c. leaf_at c d) same ∙ h
single_back d (slot.Optional x) c t one h = let same : x ≡ c = cc in ap (λ c. leaf_at c d) same ∙ h
single_back d _ c t one h = absurd (cc)

array_back : (table : Table) (ds : _) (s : Slot) (c : Content) (t : Node) → single s ≡ Some c → leaf_at c (array ds) ≡ Ok t → seen table (array ds) s ≡ Ok t
array_back table ds (slot.One x) c t one h = let same : x ≡ c = cc in ap (λ c. leaf_at c (array ds)) same ∙ h
array_back table ds (slot.Optional x) c t one h = let same : x ≡ c = cc in ap (λ c. leaf_at c (array ds)) same ∙ h
array_back table ds _ c t one h = absurd (cc)

object_back : (table : Table) (ms : Members) (s : Slot) (c : Class) (t : Node) → single s ≡ Some (content.Node c) → node_at table ms (members_seen table ms) c ≡ Ok t → seen table (object ms) s ≡ Ok t
object_back table ms (slot.One x) c t one h = let same : x ≡ content.Node c = cc in ap (object_of table ms (members_seen table ms)) same ∙ h
object_back table ms (slot.Optional x) c t one h = let same : x ≡ content.Node c = cc in ap (object_of table ms (members_seen table ms)) same ∙ h
object_back table ms _ c t one h = absurd (cc)

-- ---- leaves

absent_back : (table : Table) → ReadsBack table Absent
absent_back table s f k n = ap (λ d. seen table d s) json-Absent ∙ absent_place s (rw (← fits-Absent s) f)

flag_back : (table : Table) (b : Bool) → ReadsBack table (Flag b)
unfolding flag_at
flag_back table b s f k n = ap (λ d. seen table d s) (json-Flag b) ∙ single_back (boolean b) s content.Flag (Flag b) (flag_place (single s) (rw (← fits-Flag b s) f)) refl

written_back : (table : Table) (w : Word') → ReadsBack table (Word w)
written_back table w s f k n =
    let place = word_place w (single s) (rw (← fits-Word w s) f) in
    ap (λ d. seen table d s) (json-Word w) ∙ single_back (string (spelling_of w)) s (content.Word place.0) (Word w) place.1 (rw (word_back place.0 w place.2) refl)

texts_back : (table : Table) (x : List ℕ) → ReadsBack table (Text x)
texts_back table x s f k n = ap (λ d. seen table d s) (json-Text x) ∙ single_back (string x) s content.Text (Text x) (text_place (single s) (rw (← fits-Text x s) f)) (rw (text_back x) refl)

spans_back : (table : Table) (x : Span') → ReadsBack table (Span x)
spans_back table x s f k n =
    ap (λ d. seen table d s) (json-Span x)
    ∙ array_back table _ s content.Span (Span x) (span_place (single s) (rw (← fits-Span x s) f)) (rw (span_back x (rw (← short-Span x) n)) refl)

-- ---- identifiers, lists and trees

body_identifier : (table : Table) (ms : Members) (keys : Keys) (k : Kind) → is_identifier k ≡ true → body_at table ms keys k ≡ (ident_at table ms >>= (λ i. Ok (Identifier k i)))
unfolding body_at
body_identifier table ms keys k is = rw is refl

body_tree : (table : Table) (ms : Members) (keys : Keys) (k : Kind) → is_identifier k ≡ false → body_at table ms keys k ≡ (fields_at keys (fields_of k) >>= (λ ts. Ok (Tree k ts)))
unfolding body_at
body_tree table ms keys k is = rw is refl

node_back : (table : Table) (ms : Members) (keys : Keys) (c : Class) (k : Kind) (t : Node) → belongs k c ≡ true → get_member (codes "type") ms ≡ Some (string (name_of k)) → body_at table ms keys k ≡ Ok t → node_at table ms keys c ≡ Ok t
node_back table ms keys c k t in_class named body = ap (λ r. r >>= body_at table ms keys) (kind_back c k ms in_class named) ∙ body

identifiers_back : (table : Table) (k : Kind) (i : Ident) → ReadsBack table (Identifier k i)
identifiers_back table k i s f known short =
    let place = ident_place k (single s) (rw (← fits-Identifier k i s) f) in
    let both = split (is_identifier k) (belongs k place.0) place.2 in
    let numbers = split (span_short i.span) (marks_short i.ctxt) (rw (← short-Identifier k i) short) in
    let ms = ident_members k i in
    let read = ident_back table k i (rw (← known-Identifier table k i) known) numbers.0 numbers.1 in
    ap (λ d. seen table d s) (json-Identifier k i)
    ∙ object_back table ms s place.0 (Identifier k i) place.1
    (node_back table ms (members_seen table ms) place.0 k (Identifier k i) both.1 (ident_type k i)
    (body_identifier table ms (members_seen table ms) k both.0 ∙ ap (λ r. r >>= (λ i. Ok (Identifier k i))) read))

items_back : (table : Table) (s : Slot) (ts : List Node) (i : ℕ) → AllOf (ReadsBack table) ts → AllFit s ts → IsTrue (all_of (map (marks_known table) ts)) → IsTrue (all_of (map numbers_short ts)) → items_seen table i (items_of (map json ts)) s ≡ Ok ts
items_back table s [] i back fit known short = refl
items_back table s (t ∷ ts) i back fit known short =
    let k = split (marks_known table t) (all_of (map (marks_known table) ts)) known in
    let n = split (numbers_short t) (all_of (map numbers_short ts)) short in
    rw (back.0 s fit.0 k.0 n.0, items_back table s ts (suc i) back.1 fit.1 k.1 n.1) refl

-- what was written of a list, in each place that takes one
array_places : (table : Table) (ts : List Node) → AllOf (ReadsBack table) ts → IsTrue (all_of (map (marks_known table) ts)) → IsTrue (all_of (map numbers_short ts))
    → (s : Slot) → IsTrue (list_fits (map fits ts) s) → seen table (array (items_of (map json ts))) s ≡ Ok (Many ts)
array_places table ts back known short (slot.List c) fit = ap listed (items_back table (slot.One c) ts 0 back (all_open (slot.One c) ts fit) known short)
array_places table ts back known short (slot.Holes c) fit = ap listed (items_back table (slot.Optional c) ts 0 back (all_open (slot.Optional c) ts fit) known short)
array_places table ts back known short (slot.OptionalList c) fit = ap listed (items_back table (slot.One c) ts 0 back (all_open (slot.One c) ts fit) known short)
array_places table ts back known short slot.Pair fit = at_pair ts back known short (fields_open (slot.One content.Text ∷ slot.One content.Text ∷ []) ts fit)
  where
    at_pair : (ts : List Node) → AllOf (ReadsBack table) ts → IsTrue (all_of (map (marks_known table) ts)) → IsTrue (all_of (map numbers_short ts))
        → FieldsFit (slot.One content.Text ∷ slot.One content.Text ∷ []) ts → seen table (array (items_of (map json ts))) slot.Pair ≡ Ok (Many ts)
    at_pair (t ∷ u ∷ []) back known short fit = ap listed (items_back table (slot.One content.Text) (t ∷ u ∷ []) 0 back fit known short)
    at_pair [] back known short fit = absurd fit
    at_pair (t ∷ []) back known short fit = absurd fit.1
    at_pair (t ∷ u ∷ v ∷ ts) back known short fit = absurd fit.1.1
array_places table ts back known short slot.Pairs fit = ap listed (items_back table slot.Pair ts 0 back (all_open slot.Pair ts fit) known short)
array_places table ts back known short _ fit = absurd (cc)

lists_back : (table : Table) (ts : List Node) → AllOf (ReadsBack table) ts → ReadsBack table (Many ts)
lists_back table ts back s f known short =
    ap (λ d. seen table d s) (json-List ts) ∙ array_places table ts back (rw (← known-List table ts) known) (rw (← short-List ts) short) s (rw (← fits-List ts s) f)

-- no member has the key of one of the fields
abbrev AllNew : List (List ℕ × Slot × Role) → Members → Type 0
AllNew [] ms = Unit {0}
AllNew (f ∷ fs) ms = (get_member f.0 ms ≡ None) × AllNew fs ms

all_new : (k : List ℕ) (d : Json) (ms : Members) (fs : List (List ℕ × Slot × Role)) → IsTrue (not (list_any (λ other. bytes_eq k other) (map (λ f. f.0) fs))) → AllNew fs ms → AllNew fs (put k d ms)
all_new k d ms [] h new = tt
all_new k d ms (f ∷ fs) h new =
    let both = neither (bytes_eq k f.0) (list_any (λ other. bytes_eq k other) (map (λ f. f.0) fs)) h in
    (put_other f.0 k d ms (apart k f.0 both.0) ∙ new.0, all_new k d ms fs both.1 new.1)

all_new_first : (k : Kind) (fs : List (List ℕ × Slot × Role)) → IsTrue (not (list_any (λ other. bytes_eq (codes "type") other) (map (λ f. f.0) fs))) → AllNew fs (typed k)
all_new_first k fs h = all_new (codes "type") (string (name_of k)) no_members fs h (none fs)
  where
    none : (fs : List (List ℕ × Slot × Role)) → AllNew fs no_members
    none [] = tt
    none (f ∷ fs) = (refl, none fs)

fields_back : (table : Table) (final : Members) (fs : List (List ℕ × Slot × Role)) (ts : List Node) (ms : Members) → final ≡ fields_put fs (map json ts) ms → AllOf (ReadsBack table) ts → FieldsFit (map (λ f. f.1) fs) ts
    → IsTrue (all_of (map (marks_known table) ts)) → IsTrue (all_keyed fs (map numbers_short ts)) → IsTrue (all_differ (map (λ f. f.0) fs)) → AllNew fs ms → fields_at (members_seen table final) fs ≡ Ok ts
fields_back table final [] [] ms is back fit known short differ new = refl
fields_back table final [] (t ∷ ts) ms is back fit known short differ new = absurd fit
fields_back table final (f ∷ fs) [] ms is back fit known short differ new = absurd fit
fields_back table final (f ∷ fs) (t ∷ ts) ms is back fit known short differ new =
    let k = split (marks_known table t) (all_of (map (marks_known table) ts)) known in
    let n = split (numbers_short t) (all_keyed fs (map numbers_short ts)) short in
    let d = split (not (list_any (λ other. bytes_eq f.0 other) (map (λ f. f.0) fs))) (all_differ (map (λ f. f.0) fs)) differ in
    let value : value_of f.0 final ≡ json t = ap (value_of f.0) is ∙ first_put f fs (json t) (map json ts) ms d.0 new.0 in
    let first : members_seen table final f.0 f.1 ≡ Ok t = member_seen table final f.0 f.1 ∙ ap (λ d. seen table d f.1) value ∙ back.0 f.1 fit.0 k.0 n.0 in
    rw (first, fields_back table final fs ts (put f.0 (json t) ms) is back.1 fit.1 k.1 n.1 d.1 (all_new f.0 (json t) ms fs d.0 new.1)) refl

trees_back : (table : Table) (k : Kind) (ts : List Node) → AllOf (ReadsBack table) ts → ReadsBack table (Tree k ts)
trees_back table k ts back s f known short =
    let place = tree_place k (map fits ts) (single s) (rw (← fits-Tree k ts s) f) in
    let both = split (not (is_identifier k)) (belongs k place.0 && each_fits (slots_of k) (map fits ts)) place.2 in
    let inside = split (belongs k place.0) (each_fits (slots_of k) (map fits ts)) both.1 in
    let ms = fields_put (fields_of k) (map json ts) (typed k) in
    let keys = split (not (list_any (λ other. bytes_eq (codes "type") other) (map (λ f. f.0) (fields_of k)))) (all_differ (map (λ f. f.0) (fields_of k))) (table_differs k) in
    let named : get_member (codes "type") ms ≡ Some (string (name_of k)) = fields_put_other (codes "type") (fields_of k) (map json ts) (typed k) keys.0 in
    let fields = fields_back table ms (fields_of k) ts (typed k) refl back (fields_open (slots_of k) ts inside.1) (rw (← known-Tree table k ts) known) (rw (← short-Tree k ts) short) keys.1 (all_new_first k (fields_of k) keys.0) in
    ap (λ d. seen table d s) (json-Tree k ts)
    ∙ object_back table ms s place.0 (Tree k ts) place.1
    (node_back table ms (members_seen table ms) place.0 k (Tree k ts) inside.0 named
    (body_tree table ms (members_seen table ms) k (no_identifier (is_identifier k) refl both.0) ∙ ap (λ r. r >>= (λ ts. Ok (Tree k ts))) fields))
  where
    no_identifier : (b : Bool) → is_identifier k ≡ b → IsTrue (not b) → is_identifier k ≡ false
    no_identifier true is h = absurd (cc)
    no_identifier false is h = is

-- what is written of a tree that fits, with marks of the table, reads as the tree
pub seen_json : (table : Table) (t : Node) (s : Slot) → Fits t s → MarksKnown table t → NumbersShort t → seen table (json t) s ≡ Ok t
seen_json table t = by_parts (ReadsBack table) (record {
  absent = absent_back table;
  flag = flag_back table;
  word = written_back table;
  text = texts_back table;
  span = spans_back table;
  many = lists_back table;
  identifier = identifiers_back table;
  tree = trees_back table;
}) t

pub reads_as : (d : Json) (t : Node) → d ≡ json t → NumbersShort t → ReadsAs d t
reads_as d t e short table s fit known = ap (λ d. seen table d s) e ∙ seen_json table t s fit known short
