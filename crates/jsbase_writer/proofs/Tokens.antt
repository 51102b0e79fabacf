-- The tokens of values, piece by piece.
use Rattle.std.proofs.Common.{◌≡◌, ◌≤◌, Some, ℕ, List, [], ◌∷◌, ◌++◌, Bool, codes, decimal, map, option_and_then, refl, sym, ap, ap₂, ◌∙◌, append_assoc, append-nil}
use Rattle.json.specs.Token as token
use Rattle.json.specs.Token.{Token}
use Rattle.json.specs.Lex.{tokens}
use Rattle.json.specs.Print.{print}
use Rattle.json.specs.Json.{Json, null, boolean, string, array, object, Items, no_items, item, Members, no_members, member, value, if_last}
use Rattle.json.specs.Tree.{depth}
use Rattle.json.proofs.Printed.Trees.{value-json_tokens}
use Rattle.jsbase_reader.specs.Envelopes.{document, max_depth}
use Rattle.json.specs.Value.{items_of}
use Rattle.swc_tree_marks.specs.Globals.{Table}
use Rattle.swc_tree_marks.specs.declared.ident.Ident.{Ident}
use Rattle.swc_tree_node.specs.declared.kind.Kind.{Kind}
use Rattle.swc_tree_marks.specs.declared.span.Span.{Span as Span'}
use Rattle.swc_tree_node.specs.declared.kind.Word.{Word as Word'}
use Rattle.swc_tree_node.specs.declared.node.Node.{Node, Absent, Flag, Word, Text, Span, List as Many, Identifier, Tree}
use Rattle.swc_tree_node.specs.Table.{name_of, spelling_of, fields_of}
use Rattle.jsbase_form.specs.Writing.{json, natural, numbers_json, span_json, ident_json, typed, fields_put}
use Rattle.jsbase_form.proofs.RoundTrip.{json-Absent, json-Flag, json-Word, json-Text, json-Span, json-List, json-Identifier, json-Tree}
use Rattle.jsbase_writer.specs.declared.members.Part.{Part}
use Rattle.jsbase_writer.specs.declared.members.Part.TheVariants as part
use Rattle.jsbase_writer.specs.declared.members.Member.{Member}
use Rattle.jsbase_writer.specs.Members.{part_data, members_data}
use Rattle.jsbase_writer.specs.Envelopes.{table_json, envelope_json, text_of}
use Rattle.jsbase_writer.specs.Tokens.{tokens_of, tokens_of_items, tokens_of_members}

pub of_null : tokens_of null ≡ token.null ∷ []
unfolding tokens_of
of_null = refl

pub of_boolean : (b : Bool) → tokens_of (boolean b) ≡ token.boolean b ∷ []
unfolding tokens_of
of_boolean b = refl

pub of_string : (s : List ℕ) → tokens_of (string s) ≡ token.string s ∷ []
unfolding tokens_of
of_string s = refl

pub of_natural : (n : ℕ) → tokens_of (natural n) ≡ token.number (decimal n) ∷ []
unfolding tokens_of
of_natural n = refl

pub of_array : (ds : Items) → tokens_of (array ds) ≡ token.begin_array ∷ tokens_of_items ds
unfolding tokens_of tokens_of_items
of_array ds = refl

pub of_object : (ms : Members) → tokens_of (object ms) ≡ token.begin_object ∷ tokens_of_members ms
unfolding tokens_of tokens_of_members
of_object ms = refl

pub of_no_items : tokens_of_items no_items ≡ token.end_array ∷ []
unfolding tokens_of_items
of_no_items = refl

pub of_item : (d : Json) (ds : Items) → tokens_of_items (item d ds) ≡ tokens_of d ++ tokens_of_items ds
unfolding tokens_of tokens_of_items
of_item d ds = refl

pub of_no_members : tokens_of_members no_members ≡ token.end_object ∷ []
unfolding tokens_of_members
of_no_members = refl

pub of_member : (k : List ℕ) (d : Json) (ms : Members) → tokens_of_members (member k d ms) ≡ token.key k ∷ (tokens_of d ++ tokens_of_members ms)
unfolding tokens_of tokens_of_members
of_member k d ms = refl

pub of_pair : (m n : ℕ) → tokens_of (numbers_json (m ∷ n ∷ [])) ≡ token.begin_array ∷ token.number (decimal m) ∷ token.number (decimal n) ∷ token.end_array ∷ []
unfolding tokens_of
of_pair m n = refl

-- what is written after what was written
then : (a b e us ts : List Token) → b ≡ a ++ us → e ≡ b ++ ts → e ≡ a ++ (us ++ ts)
then a b e us ts first rest = rest ∙ ap (λ x. x ++ ts) first ∙ append_assoc a us ts

-- ---- the items of an array, one after another

pub array_opened : (ds : List Json) (old new : List Token) → new ≡ old ++ token.begin_array ∷ [] → old ++ tokens_of (array (items_of ds)) ≡ new ++ tokens_of_items (items_of ds)
array_opened ds old new opened = rw (opened, of_array (items_of ds)) (sym (append_assoc old (token.begin_array ∷ []) (tokens_of_items (items_of ds))))

pub item_written : (ds later : List Json) (d : Json) (all old new : List Token) → all ≡ old ++ tokens_of_items (items_of ds) → ds ≡ d ∷ later → new ≡ old ++ tokens_of d → all ≡ new ++ tokens_of_items (items_of later)
item_written ds later d all old new was is more =
    was ∙ ap (λ l. old ++ tokens_of_items (items_of l)) is ∙ ap (λ ts. old ++ ts) (of_item d (items_of later)) ∙ sym (append_assoc old (tokens_of d) (tokens_of_items (items_of later)))
    ∙ ap (λ ts. ts ++ tokens_of_items (items_of later)) (sym more)

pub array_closed : (ds : List Json) (all old new : List Token) → all ≡ old ++ tokens_of_items (items_of ds) → ds ≡ [] → new ≡ old ++ token.end_array ∷ [] → new ≡ all
array_closed ds all old new was is closed = closed ∙ ap (λ ts. old ++ ts) (sym of_no_items) ∙ ap (λ l. old ++ tokens_of_items (items_of l)) (sym is) ∙ sym was

pub number_written : (n n' : ℕ) (old new : List Token) → new ≡ old ++ token.number (decimal n') ∷ [] → n' ≡ n → new ≡ old ++ tokens_of (natural n)
number_written n n' old new is same = is ∙ ap (λ x. old ++ token.number (decimal x) ∷ []) same ∙ ap (λ ts. old ++ ts) (sym (of_natural n))

-- ---- what a chain of calls writes

pub pair_written : (o a b c d : List Token) (m m' n n' : ℕ) → a ≡ o ++ token.begin_array ∷ [] → b ≡ a ++ token.number (decimal m') ∷ [] → m' ≡ m → c ≡ b ++ token.number (decimal n') ∷ [] → n' ≡ n
    → d ≡ c ++ token.end_array ∷ [] → d ≡ o ++ tokens_of (numbers_json (m ∷ n ∷ []))
pair_written o a b c d m m' n n' opened first em second en closed = rw (closed, second, first, opened, of_pair m n, em, en) (simp append_assoc)

of_ident : (k : Kind) (i : Ident)
    → tokens_of (ident_json k i) ≡ token.begin_object ∷ token.key (codes "ctxt") ∷ (tokens_of (numbers_json i.ctxt) ++ token.key (codes "span") ∷ (tokens_of (span_json i.span)
    ++ token.key (codes "sym") ∷ token.string i.sym ∷ token.key (codes "type") ∷ token.string (name_of k) ∷ token.end_object ∷ []))
unfolding tokens_of
of_ident k i = refl

pub ident_written : (o a b c d e f g h i z : List Token) (k : Kind) (x : Ident) → a ≡ o ++ token.begin_object ∷ [] → b ≡ a ++ token.key (codes "ctxt") ∷ [] → c ≡ b ++ tokens_of (numbers_json x.ctxt)
    → d ≡ c ++ token.key (codes "span") ∷ [] → e ≡ d ++ tokens_of (span_json x.span) → f ≡ e ++ token.key (codes "sym") ∷ [] → g ≡ f ++ token.string x.sym ∷ []
    → h ≡ g ++ token.key (codes "type") ∷ [] → i ≡ h ++ token.string (name_of k) ∷ [] → z ≡ i ++ token.end_object ∷ [] → z ≡ o ++ tokens_of (ident_json k x)
ident_written o a b c d e f g h i z k x ea eb ec ed ee ef eg eh ei ez = rw (ez, ei, eh, eg, ef, ee, ed, ec, eb, ea, of_ident k x) (simp append_assoc)

of_envelope : (table : Table) (top : ℕ) (t : Node) (unresolved : ℕ)
    → tokens_of (envelope_json table top t unresolved) ≡ token.begin_object ∷ token.key (codes "marks") ∷ (tokens_of (table_json table) ++ token.key (codes "top") ∷ (tokens_of (natural top)
    ++ token.key (codes "tree") ∷ (tokens_of (json t) ++ token.key (codes "unresolved") ∷ (tokens_of (natural unresolved) ++ token.end_object ∷ []))))
unfolding tokens_of
of_envelope table top t unresolved = refl

pub envelope_written : (o a b c d e f g h i z : List Token) (table : Table) (top : ℕ) (t : Node) (unresolved : ℕ) → a ≡ o ++ token.begin_object ∷ [] → b ≡ a ++ token.key (codes "marks") ∷ [] → c ≡ b ++ tokens_of (table_json table)
    → d ≡ c ++ token.key (codes "top") ∷ [] → e ≡ d ++ tokens_of (natural top) → f ≡ e ++ token.key (codes "tree") ∷ [] → g ≡ f ++ tokens_of (json t)
    → h ≡ g ++ token.key (codes "unresolved") ∷ [] → i ≡ h ++ tokens_of (natural unresolved) → z ≡ i ++ token.end_object ∷ [] → z ≡ o ++ tokens_of (envelope_json table top t unresolved)
envelope_written o a b c d e f g h i z table top t unresolved ea eb ec ed ee ef eg eh ei ez = rw (ez, ei, eh, eg, ef, ee, ed, ec, eb, ea, of_envelope table top t unresolved) (simp append_assoc)

-- ---- whole texts

pub whole_text : (d : Json) (none ts : List Token) (text : List ℕ) → none ≡ [] → ts ≡ none ++ tokens_of d → text ≡ print ts → text ≡ text_of d
unfolding tokens_of
whole_text d none ts text en is printed = printed ∙ ap print (is ∙ ap (λ l. l ++ tokens_of d) en)

pub whole_read : (d : Json) (none ts : List Token) (text : List ℕ) → none ≡ [] → ts ≡ none ++ tokens_of d → tokens text ≡ ts → depth d ≤ max_depth → document text ≡ Some d
unfolding tokens_of
whole_read d none ts text en is lexed shallow =
    let same : tokens text ≡ tokens_of d ++ [] = lexed ∙ is ∙ ap (λ l. l ++ tokens_of d) en ∙ sym (append-nil (tokens_of d)) in
    ap (λ l. option_and_then (λ p. if_last p.0 p.1) (value max_depth l)) same ∙ ap (option_and_then (λ p. if_last p.0 p.1)) (value-json_tokens d max_depth [] shallow)

-- ---- nodes

pub absent_written : (t : Node) → t ≡ Absent → tokens_of (json t) ≡ token.null ∷ []
absent_written t e = ap (λ t. tokens_of (json t)) e ∙ ap tokens_of json-Absent ∙ of_null

pub flag_written : (t : Node) (b : Bool) → t ≡ Flag b → tokens_of (json t) ≡ token.boolean b ∷ []
flag_written t b e = ap (λ t. tokens_of (json t)) e ∙ ap tokens_of (json-Flag b) ∙ of_boolean b

pub word_written : (t : Node) (w : Word') → t ≡ Word w → tokens_of (json t) ≡ token.string (spelling_of w) ∷ []
word_written t w e = ap (λ t. tokens_of (json t)) e ∙ ap tokens_of (json-Word w) ∙ of_string (spelling_of w)

pub text_written : (t : Node) (x : List ℕ) → t ≡ Text x → tokens_of (json t) ≡ token.string x ∷ []
text_written t x e = ap (λ t. tokens_of (json t)) e ∙ ap tokens_of (json-Text x) ∙ of_string x

pub span_written : (t : Node) (x : Span') → t ≡ Span x → tokens_of (json t) ≡ tokens_of (span_json x)
span_written t x e = ap (λ t. tokens_of (json t)) e ∙ ap tokens_of (json-Span x)

pub identifier_written : (t : Node) (k : Kind) (x : Ident) → t ≡ Identifier k x → tokens_of (json t) ≡ tokens_of (ident_json k x)
identifier_written t k x e = ap (λ t. tokens_of (json t)) e ∙ ap tokens_of (json-Identifier k x)

pub list_written : (t : Node) (ts : List Node) (a b e : List Token) → t ≡ Many ts → b ≡ a ++ token.begin_array ∷ [] → e ≡ b ++ tokens_of_items (items_of (map json ts)) → e ≡ a ++ tokens_of (json t)
list_written t ts a b e is opened items =
    then a b e (token.begin_array ∷ []) (tokens_of_items (items_of (map json ts))) opened items ∙ ap (λ us. a ++ us) (sym (ap (λ t. tokens_of (json t)) is ∙ ap tokens_of (json-List ts) ∙ of_array (items_of (map json ts))))

pub tree_written : (t : Node) (k : Kind) (ts : List Node) (ms : Members) (a b e : List Token) → t ≡ Tree k ts → ms ≡ fields_put (fields_of k) (map json ts) (typed k) → b ≡ a ++ token.begin_object ∷ []
    → e ≡ b ++ tokens_of_members ms → e ≡ a ++ tokens_of (json t)
tree_written t k ts ms a b e is members opened written =
    then a b e (token.begin_object ∷ []) (tokens_of_members ms) opened written
    ∙ ap (λ us. a ++ us) (sym (ap (λ t. tokens_of (json t)) is ∙ ap tokens_of (json-Tree k ts) ∙ ap (λ ms. tokens_of (object ms)) (sym members) ∙ of_object ms))

-- ---- members

abbrev members_rest : List Member → List Token
members_rest ms = tokens_of_members (members_data ms)

pub name_written : (p : Part) (k : Kind) → p ≡ part.Name k → tokens_of (part_data p) ≡ token.string (name_of k) ∷ []
name_written p k e = ap (λ p. tokens_of (part_data p)) e ∙ of_string (name_of k)

pub member_more : (ms later : List Member) (m : Member) (all old named new : List Token) → all ≡ old ++ members_rest ms → ms ≡ m ∷ later → named ≡ old ++ token.key m.key.now ∷ []
    → new ≡ named ++ tokens_of (part_data m.part) → all ≡ new ++ members_rest later
member_more ms later m all old named new was is at_key more =
    was ∙ ap (λ l. old ++ members_rest l) is ∙ ap (λ us. old ++ us) (of_member m.key.now (part_data m.part) (members_data later))
    ∙ sym (append_assoc old (token.key m.key.now ∷ []) (tokens_of (part_data m.part) ++ members_rest later))
    ∙ ap (λ us. us ++ (tokens_of (part_data m.part) ++ members_rest later)) (sym at_key)
    ∙ sym (append_assoc named (tokens_of (part_data m.part)) (members_rest later)) ∙ ap (λ us. us ++ members_rest later) (sym more)

pub no_member : (ms : List Member) (all old new : List Token) → all ≡ old ++ members_rest ms → ms ≡ [] → new ≡ old ++ token.end_object ∷ [] → new ≡ all
no_member ms all old new was is closed = closed ∙ ap (λ us. old ++ us) (sym of_no_members) ∙ ap (λ l. old ++ members_rest l) (sym is) ∙ sym was

-- ---- members by their numbers

pub member_before : (k l : List ℕ) (d e : Json) (old named new : List Token) → named ≡ old ++ token.key k ∷ [] → new ≡ named ++ tokens_of d → k ≡ l → d ≡ e
    → (rest : Members) → new ++ tokens_of_members rest ≡ old ++ tokens_of_members (member l e rest)
member_before k l d e old named new at_key more key value rest =
    sym (ap₂ (λ l e. old ++ tokens_of_members (member l e rest)) (sym key) (sym value)
    ∙ ap (λ us. old ++ us) (of_member k d rest)
    ∙ sym (append_assoc old (token.key k ∷ []) (tokens_of d ++ tokens_of_members rest))
    ∙ ap (λ us. us ++ (tokens_of d ++ tokens_of_members rest)) (sym at_key)
    ∙ sym (append_assoc named (tokens_of d) (tokens_of_members rest)) ∙ ap (λ us. us ++ tokens_of_members rest) (sym more))

pub object_closed : (ms : Members) (all old new : List Token) → all ≡ old ++ tokens_of_members ms → ms ≡ no_members → new ≡ old ++ token.end_object ∷ [] → new ≡ all
object_closed ms all old new was is closed = closed ∙ ap (λ us. old ++ us) (sym of_no_members) ∙ ap (λ ms. old ++ tokens_of_members ms) (sym is) ∙ sym was
