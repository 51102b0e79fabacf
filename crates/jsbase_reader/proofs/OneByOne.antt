-- Members and items that are read one by one.
use Rattle.std.proofs.Common.{◌≡◌, ◌-◌, ◌<◌, ◌≤◌, ℕ, zero, suc, List, [], ◌∷◌, ◌++◌, length, Option, Some, None, option_and_then, option_map, unwrap_or, codes, ◌||◌, Ok, Err, bytes_eq, true, false, Bool, cond, refl, sym, ap, ◌∙◌, arith}
use Rattle.std.specs.Borrow.{Bor}
use Rattle.std.proofs.Common.{Global, Vec}
use Rattle.std.specs.Bool.{MatchBool}
use Rattle.std.specs.List.{list_any}
use Rattle.std.specs.Option.{option_eq}
use Rattle.std.proofs.lemmas.List.{length-append}
use Rattle.std.proofs.lemmas.Slice.Eq.{bytes_eq-Decides}
use Rattle.json.specs.Token.{Token}
use Rattle.json.specs.Json.{Json, null, array, object, Members, no_members, member, Items, no_items, item, after_end_array, if_last, read_key, members, members_step, items, value, parse_map}
use Rattle.json.specs.Lex.{tokens}
use Rattle.json.specs.Find.{as_str, get_member, later_or}
use Rattle.json.specs.Value.{members_view, value_view}
use Rattle.json.specs.declared.value.Value.{Value, Object}
use Rattle.json.proofs.Trees.{view-Object}
use Rattle.json.proofs.Grammar.{items_end, items_fail, items_more, members_end, members_more, members_no_key, read_key-shorter, skip_value-shorter, value-begin_array, value-begin_object}
use Rattle.swc_tree_marks.specs.Globals.{Table}
use Rattle.swc_tree_node.specs.declared.kind.Class.{Class}
use Rattle.swc_tree_node.specs.declared.kind.Class.TheVariants as class
use Rattle.swc_tree_node.specs.declared.kind.Kind.{Kind}
use Rattle.swc_tree_node.specs.declared.kind.Kind.TheVariants as kind
use Rattle.swc_tree_node.specs.declared.node.Node.{Node, List as Many, Tree}
use Rattle.swc_tree_node.specs.declared.slot.Content.TheVariants as content
use Rattle.swc_tree_node.specs.declared.slot.Slot.TheVariants as slot
use Rattle.swc_tree_node.specs.declared.slot.Role.TheVariants as role
use Rattle.swc_tree_node.specs.Table.{fields_of, is_identifier, kinds_of, name_of}
use Rattle.swc_tree_node.specs.declared.slot.Content.{Content}
use Rattle.swc_tree_node.specs.declared.slot.Slot.{Slot}
use Rattle.jsbase_form.specs.Reads.{Read, ◌>>=◌, at, found, index, key as key_part}
use Rattle.jsbase_form.specs.Tables.{table_at}
use Rattle.jsbase_form.specs.Trees.{body_at, fields_at, items_seen, kind_at, value_of, listed, members_seen, named, seen}
use Rattle.jsbase_form.proofs.Members.{member_seen}
use Rattle.jsbase_reader.specs.Parts.{members_in}
use Rattle.jsbase_reader.specs.Streamed.{Ends, HasStatements, IsMade, Leads, LeadsIfAsked, NoMembers, envelope_in_document, envelope_in_tokens, joined, table_among}
use Rattle.jsbase_reader.specs.declared.envelope.Envelope.{Envelope}
use Rattle.jsbase_reader.specs.Envelopes.{envelope_around, envelope_in, envelope_of, max_depth}
use Rattle.jsbase_reader.proofs.Loops.{after, after-all, after-cons, after-none}

-- the members that were read, and then what is left
abbrev pub Reading : ℕ → ℕ → List Token → Members → List Token → Type 0
Reading d n0 old before new = (n : ℕ) × (length new ≤ n) × (members (value d) n0 old ≡ parse_map (joined before) (members (value d) n new))

none_joined : (o : Option (Members × List Token)) → o ≡ parse_map (joined no_members) o
none_joined None = refl
none_joined (Some p) = refl

pub reading_first : (d n0 : ℕ) (old : List Token) → length old ≤ n0 → Reading d n0 old no_members old
reading_first d n0 old le = (n0, le, none_joined (members (value d) n0 old))

joined_push : {A : Type 0} (vs : List (Bor (List ℕ) × Value A)) (m : Bor (List ℕ) × Value A) (ms : Members) → joined (members_view vs) (member m.0.now (value_view m.1) ms) ≡ joined (members_view (vs ++ m ∷ [])) ms
joined_push [] m ms = refl
joined_push (v ∷ vs) m ms = ap (member v.0.now (value_view v.1)) (joined_push vs m ms)

parsed_push : {A : Type 0} (vs : List (Bor (List ℕ) × Value A)) (m : Bor (List ℕ) × Value A) (o : Option (Members × List Token))
    → parse_map (joined (members_view vs)) (parse_map (member m.0.now (value_view m.1)) o) ≡ parse_map (joined (members_view (vs ++ m ∷ []))) o
parsed_push vs m None = refl
parsed_push vs m (Some p) = ap (λ ms. Some (ms, p.1)) (joined_push vs m p.0)

-- one member more
pub reading_more : {A : Type 0} (d n0 : ℕ) (old ts s r : List Token) (vs ws : List (Bor (List ℕ) × Value A)) (m : Bor (List ℕ) × Value A) → Reading d n0 old (members_view vs) ts → read_key ts ≡ Some (Some m.0.now, s)
    → value d s ≡ Some (value_view m.1, r) → length r < length s → ws ≡ vs ++ m ∷ [] → Reading d n0 old (members_view ws) r
reading_more d n0 old ts s r vs ws m h key read shorter pushed =
    let less = read_key-shorter ts (Some m.0.now) s key in (
      h.0 - 1,
      omega (arith, h.1, less, shorter),
      h.2 ∙ ap (parse_map (joined (members_view vs))) (members_more (value d) h.0 m.0.now ts s r (value_view m.1) (omega (arith, h.1, less)) key read) ∙ parsed_push vs m _
          ∙ ap (λ l. parse_map (joined (members_view l)) (members (value d) (h.0 - 1) r)) (sym pushed),
    )

-- the value of a key, and what is left behind it
led : (d n : ℕ) (key : List ℕ) (ts s : List Token) → length ts ≤ n → read_key ts ≡ Some (Some key, s)
    → (m : ℕ) × (length s ≤ m) × (members (value d) n ts ≡ option_and_then (λ p. parse_map (member key p.0) (members (value d) m p.1)) (value d s))
unfolding members
led d zero key ts s le there = let less = read_key-shorter ts (Some key) s there in absurd (omega (arith, le, less))
led d (suc n) key ts s le there =
    let less = read_key-shorter ts (Some key) s there in
    (n, omega (arith, le, less), ap (option_and_then (λ q. members_step (value d) (members (value d) n) q.0 q.1)) there)

parsed_and : {A : Type 0} (f : Members → Members) (g : A → Option (Members × List Token)) (o : Option A) → parse_map f (option_and_then g o) ≡ option_and_then (λ p. parse_map f (g p)) o
parsed_and f g None = refl
parsed_and f g (Some p) = refl

-- the key that was looked for
pub reading_leads : (d : ℕ) (old ts s : List Token) (before : Members) (key : List ℕ) → Reading d (length old) old before ts → read_key ts ≡ Some (Some key, s) → Leads d key before old s
reading_leads d old ts s before key h there =
    let l = led d h.0 key ts s h.1 there in
    (l.0, l.1, h.2 ∙ ap (parse_map (joined before)) l.2 ∙ parsed_and (joined before) (λ p. parse_map (member key p.0) (members (value d) l.0 p.1)) (value d s))

-- the same, where a key may be looked for
pub reading_asked : (d : ℕ) (old ts s : List Token) (before : Members) (key : Option (Bor (List ℕ))) (next : Bor (List ℕ)) → option_eq (λ x y. bytes_eq x.now y.now) key (Some next) ≡ true → Reading d (length old) old before ts
    → read_key ts ≡ Some (Some next.now, s) → LeadsIfAsked d key before old s
reading_asked d old ts s before None next same h there = absurd (cc)
reading_asked d old ts s before (Some key) next same h there = reading_leads d old ts s before key.now h (there ∙ ap (λ k. Some (Some k, s)) (sym ((bytes_eq-Decides key.now next.now).0 same)))

-- no key follows, and no end of the object
pub reading_stops : (d n0 : ℕ) (old ts : List Token) (before : Members) → Reading d n0 old before ts → read_key ts ≡ None → members (value d) n0 old ≡ None
reading_stops d n0 old ts before h none = h.2 ∙ ap (parse_map (joined before)) (members_no_key (value d) h.0 ts none)

-- a key follows, and no value of it
pub reading_fails : (d n0 : ℕ) (old ts s : List Token) (before : Members) (key : List ℕ) → Reading d n0 old before ts → read_key ts ≡ Some (Some key, s) → value d s ≡ None → members (value d) n0 old ≡ None
reading_fails d n0 old ts s before key h there none =
    let l = led d h.0 key ts s h.1 there in
    h.2 ∙ ap (parse_map (joined before)) (l.2 ∙ ap (option_and_then (λ p. parse_map (member key p.0) (members (value d) l.0 p.1))) none)

-- no key was looked for, so the end of the object was reached
pub all_left : {Stops : Type 0} (is_there : Bool) → MatchBool is_there ⊥ Stops → Stops
all_left true there = absurd (there)
all_left false ends = ends

joined_none : (ms : Members) → joined ms no_members ≡ ms
joined_none no_members = refl
joined_none (member k j ms) = ap (member k j) (joined_none ms)

-- the end of an object
pub reading_ends : (d n0 : ℕ) (old ts r : List Token) (ms : Members) → Reading d n0 old ms ts → read_key ts ≡ Some (None, r) → members (value d) n0 old ≡ Some (ms, r)
reading_ends d n0 old ts r ms h there = h.2 ∙ ap (parse_map (joined ms)) (members_end (value d) h.0 ts r h.1 there) ∙ ap (λ l. Some (l, r)) (joined_none ms)

-- an object by its members
object_is : (d : ℕ) (old s : List Token) → old ≡ Token.begin_object ∷ s → value (suc d) old ≡ parse_map object (members (value d) (length s) s)
object_is d old s opens =
    let less : suc d - 1 ≡ d = omega arith in
    ap (value (suc d)) opens ∙ value-begin_object (suc d) s (omega arith) ∙ ap (λ e. parse_map object (members (value e) (length s) s)) less

-- the whole object
pub object_read : (d : ℕ) (old s t new rest : List Token) (before behind : Members) (key : List ℕ) (j : Json) → old ≡ Token.begin_object ∷ s → Leads d key before s t → value d t ≡ Some (j, rest) → Ends d behind rest new
    → value (suc d) old ≡ Some (object (joined before (member key j behind)), new)
object_read d old s t new rest before behind key j opens leads read ends =
    let lesser = skip_value-shorter d t rest (ap (option_map (λ p. p.1)) read) in
    object_is d old s opens ∙ ap (parse_map object) (leads.2 ∙ ap (option_and_then (λ p. parse_map (joined before) (parse_map (member key p.0) (members (value d) leads.0 p.1)))) read
    ∙ ap (λ o. parse_map (joined before) (parse_map (member key j) o)) (ends leads.0 (omega (arith, leads.1, lesser))))

-- an object of which no member was read by itself
pub object_ended : (d : ℕ) (old s new : List Token) (ms : Members) → old ≡ Token.begin_object ∷ s → Ends d ms s new → value (suc d) old ≡ Some (object ms, new)
object_ended d old s new ms opens ends = object_is d old s opens ∙ ap (parse_map object) (ends (length s) (omega arith))

-- no object, since its first members are none
pub object_unread : (d : ℕ) (old s : List Token) → old ≡ Token.begin_object ∷ s → NoMembers d s → value (suc d) old ≡ None
object_unread d old s opens none = object_is d old s opens ∙ ap (parse_map object) (none (length s) (omega arith))

-- no object, since the value of the key is none
pub object_without : (d : ℕ) (old s t : List Token) (before : Members) (key : List ℕ) → old ≡ Token.begin_object ∷ s → Leads d key before s t → value d t ≡ None → value (suc d) old ≡ None
object_without d old s t before key opens leads none =
    object_is d old s opens ∙ ap (parse_map object) (leads.2 ∙ ap (option_and_then (λ p. parse_map (joined before) (parse_map (member key p.0) (members (value d) leads.0 p.1)))) none)

-- no object, since what stands behind the value of the key is no members
pub object_cut : (d : ℕ) (old s t rest : List Token) (before : Members) (key : List ℕ) (j : Json) → old ≡ Token.begin_object ∷ s → Leads d key before s t → value d t ≡ Some (j, rest) → NoMembers d rest → value (suc d) old ≡ None
object_cut d old s t rest before key j opens leads read none =
    let lesser = skip_value-shorter d t rest (ap (option_map (λ p. p.1)) read) in
    object_is d old s opens ∙ ap (parse_map object) (leads.2 ∙ ap (option_and_then (λ p. parse_map (joined before) (parse_map (member key p.0) (members (value d) leads.0 p.1)))) read
    ∙ ap (λ o. parse_map (joined before) (parse_map (member key j) o)) (none leads.0 (omega (arith, leads.1, lesser))))

-- ---- looking up

found_later : (o : Option Json) (b : Bool) (d : Json) → b ≡ false → later_or o (cond b (Some d) None) ≡ o
found_later None b d e = ap (λ b. cond b (Some d) None) e
found_later (Some x) b d e = refl

-- another key is looked up without the one that was read by itself
pub look_other : (k key : List ℕ) (j : Json) (ms os : Members) → bytes_eq key k ≡ false → get_member k (joined ms (member key j os)) ≡ get_member k (joined ms os)
look_other k key j no_members os other = found_later (get_member k os) (bytes_eq key k) j other
look_other k key j (member l i ms) os other = ap (λ o. later_or o (cond (bytes_eq l k) (Some i) None)) (look_other k key j ms os other)

later_some : (o : Option Json) (b : Bool) (x d : Json) → o ≡ Some x → later_or o (cond b (Some d) None) ≡ Some x
later_some None b x d h = absurd (cc)
later_some (Some y) b x d h = h

-- the one that was read by itself
pub look_special : (key : List ℕ) (j : Json) (ms os : Members) → bytes_eq key key ≡ true → get_member key os ≡ None → get_member key (joined ms (member key j os)) ≡ Some j
look_special key j no_members os same none = rw (none, same) refl
look_special key j (member l i ms) os same none = later_some _ (bytes_eq l key) j i (look_special key j ms os same none)

-- what stands before, where nothing behind has the key
pub look_before : (k : List ℕ) (ms os : Members) → get_member k os ≡ None → get_member k (joined ms os) ≡ get_member k ms
look_before k no_members os none = none
look_before k (member l i ms) os none = ap (λ o. later_or o (cond (bytes_eq l k) (Some i) None)) (look_before k ms os none)

-- the members of an object
pub members_are : (v : Vec (Bor (List ℕ) × Value Global) Global) → members_in (value_view (Object v)) ≡ members_view v.items
members_are v = ap members_in (view-Object v)

-- members behind others
pub views_joined : {A : Type 0} (vs ws : List (Bor (List ℕ) × Value A)) → members_view (vs ++ ws) ≡ joined (members_view vs) (members_view ws)
views_joined [] ws = refl
views_joined (v ∷ vs) ws = ap (member v.0.now (value_view v.1)) (views_joined vs ws)

-- ---- items

abbrev pub items_after : List Json → Items → Items
items_after [] ds = ds
items_after (j ∷ js) ds = item j (items_after js ds)

after_push : (js : List Json) (j : Json) (ds : Items) → items_after js (item j ds) ≡ items_after (js ++ j ∷ []) ds
after_push [] j ds = refl
after_push (x ∷ js) j ds = ap (item x) (after_push js j ds)

parsed_after : (js : List Json) (j : Json) (o : Option (Items × List Token)) → parse_map (items_after js) (parse_map (item j) o) ≡ parse_map (items_after (js ++ j ∷ [])) o
parsed_after js j None = refl
parsed_after js j (Some p) = ap (λ ds. Some (ds, p.1)) (after_push js j p.0)

first_after : (o : Option (Items × List Token)) → o ≡ parse_map (items_after []) o
first_after None = refl
first_after (Some p) = refl

-- the items that were read, and the nodes that they are
pub record Taking (d : ℕ) (table : Table) (s : Slot) (old ts : List Token) (nodes : List Node) : Type 0 where
  pub n : ℕ
  pub long : length ts ≤ n
  pub before : List Json
  pub read : items (value d) (length old) old ≡ parse_map (items_after before) (items (value d) n ts)
  pub seen : (ds : Items) → items_seen table 0 (items_after before ds) s ≡ after nodes (items_seen table (length nodes) ds s)

pub taking_first : (d : ℕ) (table : Table) (s : Slot) (old : List Token) (nodes : List Node) → nodes ≡ [] → Taking d table s old old nodes
taking_first d table s old nodes none = rw none (record { n = length old; long = omega arith; before = []; read = first_after (items (value d) (length old) old); seen = λ ds. after-none (items_seen table 0 ds s) })

one_longer : (done : List Node) (t : Node) → suc (length done) ≡ length (done ++ t ∷ [])
one_longer done t = omega (arith, length-append done (t ∷ []))

pub taking_more : (d : ℕ) (table : Table) (s : Slot) (old ts r : List Token) (nodes more : List Node) (j : Json) (t : Node) → Taking d table s old ts nodes → after_end_array ts ≡ None → value d ts ≡ Some (j, r) → length r < length ts
    → Rattle.jsbase_form.specs.Trees.seen table j s ≡ Ok t → more ≡ nodes ++ t ∷ [] → Taking d table s old r more
taking_more d table s old ts r nodes more j t h going read shorter is pushed =
    let long = h.long in
    rw pushed (record {
      n = h.n - 1;
      long = omega (arith, long, shorter);
      before = h.before ++ j ∷ [];
      read = h.read ∙ ap (parse_map (items_after h.before)) (items_more (value d) h.n ts r j (omega (arith, long, shorter)) going read) ∙ parsed_after h.before j _;
      seen = λ ds.
          ap (λ l. items_seen table 0 l s) (sym (after_push h.before j ds)) ∙ h.seen (item j ds)
          ∙ ap (λ r. after nodes (at (index (length nodes)) r >>= (λ t. items_seen table (suc (length nodes)) ds s >>= (λ ts. Ok (t ∷ ts))))) is
          ∙ after-cons nodes t (items_seen table (suc (length nodes)) ds s) ∙ ap (λ n. after (nodes ++ t ∷ []) (items_seen table n ds s)) (one_longer nodes t);
    })

pub taking_ends : (d : ℕ) (table : Table) (c : Content) (s : Slot) (old ts r : List Token) (nodes : List Node) → Taking d table s old ts nodes → after_end_array ts ≡ Some r
    → (ds : Items) × (items (value d) (length old) old ≡ Some (ds, r)) × (items_seen table 0 ds s ≡ Ok nodes)
taking_ends d table c s old ts r nodes h ends =
    (items_after h.before no_items, h.read ∙ ap (parse_map (items_after h.before)) (items_end (value d) h.n ts r h.long ends), h.seen no_items ∙ after-all nodes)

-- an item that is none
pub taking_fails : (d : ℕ) (table : Table) (s : Slot) (old ts : List Token) (nodes : List Node) → Taking d table s old ts nodes → after_end_array ts ≡ None → value d ts ≡ None → items (value d) (length old) old ≡ None
taking_fails d table s old ts nodes h going none = h.read ∙ ap (parse_map (items_after h.before)) (items_fail (value d) h.n ts going none)

later_none : (o : Option Json) (d : Json) → later_or o (cond false (Some d) None) ≡ o
later_none None d = refl
later_none (Some x) d = refl

first_false : (a b : Bool) → (a || b) ≡ false → (a ≡ false) × (b ≡ false)
first_false true b h = absurd (cc)
first_false false b h = (refl, h)

-- no member has a key
pub none_has : {A : Type 0} (k : List ℕ) (vs : List (Bor (List ℕ) × Value A)) → list_any (λ m. bytes_eq m.0.now k) vs ≡ false → get_member k (members_view vs) ≡ None
none_has k [] h = refl
none_has k (v ∷ vs) h =
    let both = first_false (bytes_eq v.0.now k) (list_any (λ m. bytes_eq m.0.now k) vs) h in
    ap (λ b. later_or (get_member k (members_view vs)) (cond b (Some (value_view v.1)) None)) both.0 ∙ later_none _ (value_view v.1) ∙ none_has k vs both.1

-- ---- programs

same_member : (table : Table) (k : List ℕ) (s : Slot) (ms os : Members) → get_member k ms ≡ get_member k os → members_seen table ms k s ≡ members_seen table os k s
same_member table k s ms os h = member_seen table ms k s ∙ ap (λ o. seen table (unwrap_or o null) s) h ∙ sym (member_seen table os k s)

-- the fields of a program
program_fields : (table : Table) (ms os : Members) (k : Kind) (c : Content) (ds : Items) (body : List Node) (span shebang : Node) → fields_of k ≡ (codes "span", slot.One content.Span, role.Plain) ∷ (codes "body", slot.List c, role.Plain) ∷ (codes "shebang", slot.Optional content.Text, role.Plain) ∷ []
    → ((k : List ℕ) → bytes_eq (codes "body") k ≡ false → get_member k ms ≡ get_member k os) → get_member (codes "body") ms ≡ Some (array ds) → items_seen table 0 ds (slot.One c) ≡ Ok body
    → members_seen table os (codes "span") (slot.One content.Span) ≡ Ok span → members_seen table os (codes "shebang") (slot.Optional content.Text) ≡ Ok shebang
    → fields_at (members_seen table ms) (fields_of k) ≡ Ok (span ∷ Many body ∷ shebang ∷ [])
program_fields table ms os k c ds body span shebang fields other here items is_span is_shebang =
    let first : members_seen table ms (codes "span") (slot.One content.Span) ≡ Ok span = same_member table (codes "span") (slot.One content.Span) ms os (other (codes "span") refl) ∙ is_span in
    let second : members_seen table ms (codes "body") (slot.List c) ≡ Ok (Many body) = member_seen table ms (codes "body") (slot.List c) ∙ ap (λ o. seen table (unwrap_or o null) (slot.List c)) here ∙ ap listed items in
    let third : members_seen table ms (codes "shebang") (slot.Optional content.Text) ≡ Ok shebang = same_member table (codes "shebang") (slot.Optional content.Text) ms os (other (codes "shebang") refl) ∙ is_shebang in
    ap (fields_at (members_seen table ms)) fields ∙ rw (first, second, third) refl

named_one : (name : List ℕ) (k j : Kind) → named name (k ∷ []) ≡ Some j → j ≡ k
named_one name k j h = told (bytes_eq (name_of k) name) h
  where
    told : (b : Bool) → cond b (Some k) None ≡ Some j → j ≡ k
    told true e = cc
    told false e = absurd (cc)

kind_one : (k j : Kind) (o : Option (List ℕ)) → found (option_and_then (λ name. named name (k ∷ [])) o) ≡ Ok j → j ≡ k
kind_one k j None h = absurd (cc)
kind_one k j (Some name) h = told (named name (k ∷ [])) refl h
  where
    told : (o : Option Kind) → named name (k ∷ []) ≡ o → found o ≡ Ok j → j ≡ k
    told None e g = absurd (cc)
    told (Some i) e g = let same : i ≡ j = cc in named_one name k j (e ∙ ap Some same)

-- the kind by the text of another object
kind_same : (c : Class) (ms os : Members) → get_member (codes "type") ms ≡ get_member (codes "type") os → kind_at c ms ≡ kind_at c os
unfolding kind_at
kind_same c ms os h = ap (λ o. found (option_and_then (λ name. named name (kinds_of c)) (option_and_then as_str o))) h

kind_is : (c : Class) (k j : Kind) (os : Members) → kinds_of c ≡ k ∷ [] → kind_at c os ≡ Ok j → j ≡ k
unfolding kind_at
kind_is c k j os one h = kind_one k j (option_and_then as_str (get_member (codes "type") os)) (ap (λ ks. found (option_and_then (λ name. named name ks) (option_and_then as_str (get_member (codes "type") os)))) (sym one) ∙ h)

body_is : (table : Table) (ms : Members) (k : Kind) (fields : List Node) → is_identifier k ≡ false → fields_at (members_seen table ms) (fields_of k) ≡ Ok fields → body_at table ms (members_seen table ms) k ≡ Ok (Tree k fields)
unfolding body_at
body_is table ms k fields plain h = rw (plain, h) refl

one_kind : (table : Table) (c : Class) (k : Kind) (st : Content) (ms os : Members) (ds : Items) (body : List Node) (tree : Node) → kinds_of c ≡ k ∷ [] → is_identifier k ≡ false
    → fields_of k ≡ (codes "span", slot.One content.Span, role.Plain) ∷ (codes "body", slot.List st, role.Plain) ∷ (codes "shebang", slot.Optional content.Text, role.Plain) ∷ []
    → ((k : List ℕ) → bytes_eq (codes "body") k ≡ false → get_member k ms ≡ get_member k os) → get_member (codes "body") ms ≡ Some (array ds) → items_seen table 0 ds (slot.One st) ≡ Ok body
    → IsMade table c os body tree → seen table (object ms) (slot.One (content.Node c)) ≡ Ok tree
one_kind table c k st ms os ds body tree one plain fields other here items made =
    let is = kind_is c k made.kind os one made.named in
    let named : kind_at c ms ≡ Ok k = kind_same c ms os (other (codes "type") refl) ∙ made.named ∙ ap Ok is in
    ap (λ r. r >>= body_at table ms (members_seen table ms)) named
    ∙ body_is table ms k _ plain (program_fields table ms os k st ds body made.span made.shebang fields other here items made.spanned made.begun)
    ∙ ap Ok (ap (λ k. Tree k (made.span ∷ Many body ∷ made.shebang ∷ [])) (sym is) ∙ sym made.is)

pub program_made : (table : Table) (c : Class) (st : Content) (ms os : Members) (ds : Items) (body : List Node) (tree : Node) → HasStatements c st → ((k : List ℕ) → bytes_eq (codes "body") k ≡ false → get_member k ms ≡ get_member k os)
    → get_member (codes "body") ms ≡ Some (array ds) → items_seen table 0 ds (slot.One st) ≡ Ok body → IsMade table c os body tree → seen table (object ms) (slot.One (content.Node c)) ≡ Ok tree
program_made table class.Module st ms os ds body tree has other here items made = one_kind table class.Module kind.Module st ms os ds body tree refl refl (rw has refl) other here items made
program_made table class.Script st ms os ds body tree has other here items made = one_kind table class.Script kind.Script st ms os ds body tree refl refl (rw has refl) other here items made
program_made table _ st ms os ds body tree has other here items made = absurd (has)

-- an array whose items were read
pub array_read : (d : ℕ) (old s new : List Token) (ds : Items) → old ≡ Token.begin_array ∷ s → items (value d) (length s) s ≡ Some (ds, new) → value (suc d) old ≡ Some (array ds, new)
array_read d old s new ds opens read =
    let less : suc d - 1 ≡ d = omega arith in
    ap (value (suc d)) opens ∙ value-begin_array (suc d) s (omega arith) ∙ ap (λ e. parse_map array (items (value e) (length s) s)) less ∙ ap (parse_map array) read

-- no array, since its items are none
pub array_unread : (d : ℕ) (old s : List Token) → old ≡ Token.begin_array ∷ s → items (value d) (length s) s ≡ None → value (suc d) old ≡ None
array_unread d old s opens none =
    let less : suc d - 1 ≡ d = omega arith in
    ap (value (suc d)) opens ∙ value-begin_array (suc d) s (omega arith) ∙ ap (λ e. parse_map array (items (value e) (length s) s)) less ∙ ap (parse_map array) none

-- ---- envelopes

same_value : (k : List ℕ) (ms os : Members) → get_member k ms ≡ get_member k os → value_of k ms ≡ value_of k os
same_value k ms os h = ap (λ o. unwrap_or o null) h

-- the envelope of an object, by its table, its tree and its other members
pub envelope_made : (c : Class) (ms os : Members) (g : Table) (d : Json) (tree : Node) → ((k : List ℕ) → bytes_eq (codes "tree") k ≡ false → get_member k ms ≡ get_member k os)
    → table_among os ≡ Ok g → get_member (codes "tree") ms ≡ Some d → seen g d (slot.One (content.Node c)) ≡ Ok tree → envelope_of c ms ≡ envelope_around g os tree
unfolding envelope_of
envelope_made c ms os g d tree other marks here is_tree =
    let marks_are : at (key_part (codes "marks")) (table_at (value_of (codes "marks") ms)) ≡ Ok g = ap (λ v. at (key_part (codes "marks")) (table_at v)) (same_value (codes "marks") ms os (other (codes "marks") refl)) ∙ marks in
    let first = same_value (codes "unresolved") ms os (other (codes "unresolved") refl) in
    let second = same_value (codes "top") ms os (other (codes "top") refl) in
    let third = same_value (codes "keepClassNames") ms os (other (codes "keepClassNames") refl) in
    let fourth = same_value (codes "ignoreEval") ms os (other (codes "ignoreEval") refl) in
    let fifth = same_value (codes "keepTop") ms os (other (codes "keepTop") refl) in
    let treed : at (key_part (codes "tree")) (seen g (value_of (codes "tree") ms) (slot.One (content.Node c))) ≡ Ok tree = ap (λ o. at (key_part (codes "tree")) (seen g (unwrap_or o null) (slot.One (content.Node c)))) here ∙ ap (at (key_part (codes "tree"))) is_tree in
    rw marks_are (simp (first, second, third, fourth, fifth, treed))

-- the tokens of a text
pub tokens_streamed : (c : Class) (text : List ℕ) (ts : List Token) (read : Read Envelope) → ts ≡ tokens text → envelope_in_tokens c ts ≡ read → envelope_in_document c text ≡ read
tokens_streamed c text ts read lexed is = ap (envelope_in_tokens c) (sym lexed) ∙ is

-- a value to the end
pub tokens_whole : (c : Class) (ts rest : List Token) (whole : Json) → value max_depth ts ≡ Some (whole, rest) → rest ≡ [] → envelope_in_tokens c ts ≡ envelope_in c whole
tokens_whole c ts rest whole read end =
    ap (λ o. found (option_and_then (λ p. if_last p.0 p.1) o) >>= envelope_in c) (read ∙ ap (λ l. Some (whole, l)) end)

-- a value, and more behind it
pub tokens_behind : (c : Class) (ts rest : List Token) (t : Token) (whole : Json) → value max_depth ts ≡ Some (whole, rest) → (more : List Token) → rest ≡ t ∷ more → envelope_in_tokens c ts ≡ Err []
tokens_behind c ts rest t whole read more end =
    ap (λ o. found (option_and_then (λ p. if_last p.0 p.1) o) >>= envelope_in c) (read ∙ ap (λ l. Some (whole, l)) end)

-- no value
pub tokens_none : (c : Class) (ts : List Token) → value max_depth ts ≡ None → envelope_in_tokens c ts ≡ Err []
tokens_none c ts none = ap (λ o. found (option_and_then (λ p. if_last p.0 p.1) o) >>= envelope_in c) none
