-- Lists of JSON values.
use Rattle.std.proofs.Common.{◌≡◌, ◌≤◌, ◌<◌, ℕ, zero, suc, drop, get_or, ◌+◌, List, [], ◌∷◌, ◌++◌, length, Bool, true, false, ◌==◌, Option, Some, None, Result, Ok, Err, refl, sym, ap, subst, ◌∙◌, add-one, arith}
use Rattle.std.specs.Prelude.{if◌then◌else◌}
use Rattle.std.proofs.Math.Seq.{drop-cons}
use Rattle.json.specs.Json.{Json, array, Items, no_items, item, Members}
use Rattle.json.specs.Find.{as_array}
use Rattle.json.specs.Tree.{depth, items_depth}
use Rattle.json.specs.Value.{value_view, items_view}
use Rattle.json.specs.declared.value.Value.{Value}
use Rattle.swc_tree_marks.specs.Globals.{Table}
use Rattle.swc_tree_marks.specs.declared.span.Span.{Span}
use Rattle.swc_tree_node.specs.declared.kind.Class.{Class}
use Rattle.swc_tree_node.specs.declared.slot.Content.TheVariants as content
use Rattle.swc_tree_node.specs.declared.slot.Slot.{Slot}
use Rattle.swc_tree_node.specs.declared.slot.Slot.TheVariants as slot
use Rattle.swc_tree_node.specs.declared.node.Node.{Node}
use Rattle.jsbase_form.specs.Reads.{Path, Read, ◌>>=◌, at, found, index}
use Rattle.jsbase_form.specs.Leaves.{number_at, span_of, span_at}
use Rattle.jsbase_form.specs.Tables.{pair_of, pair_at}
use Rattle.jsbase_form.specs.Trees.{Keys, seen, items_seen, are_two, array_as, listed, node_at, object_as, single_as}
use Rattle.jsbase_reader.specs.declared.error.ReadError.{ReadError}
use Rattle.jsbase_reader.specs.Answers.{Gives}
use Rattle.jsbase_reader.specs.Parts.{class_in, item_slot}
use Rattle.jsbase_reader.proofs.Loops.{after, after-cons}

abbrev pub spanned : ℕ × ℕ → Read Span
spanned ends = Ok (record { lo = ends.0; hi = ends.1 })

two_numbers : (first second : Read ℕ) → (first >>= (λ lo. second >>= (λ hi. Ok (record { lo = lo; hi = hi })))) ≡ ((first >>= (λ lo. second >>= (λ hi. Ok (lo, hi)))) >>= spanned)
two_numbers (Ok lo) (Ok hi) = refl
two_numbers (Ok lo) (Err p) = refl
two_numbers (Err p) second = refl

numbers_span : (ds : Items) → span_of ds ≡ (pair_of ds >>= spanned)
numbers_span no_items = refl
numbers_span (item lo no_items) = refl
numbers_span (item lo (item hi no_items)) = two_numbers (at (index 0) (number_at lo)) (at (index 1) (number_at hi))
numbers_span (item lo (item hi (item d ds))) = refl

array_span : (r : Read Items) → (r >>= span_of) ≡ ((r >>= pair_of) >>= spanned)
array_span (Ok ds) = numbers_span ds
array_span (Err p) = refl

-- a span is two numbers
pub span_of_pair : (d : Json) → span_at d ≡ (pair_at d >>= spanned)
unfolding span_at pair_at
span_of_pair d = array_span (found (as_array d))

no_two : (n : ℕ) → false ≡ (suc (suc (suc n)) == 2)
no_two n = grind arith

are_two_by : {A : Type 0} (vs : List (Value A)) → are_two (items_view vs) ≡ (length vs == 2)
are_two_by [] = refl
are_two_by (a ∷ []) = refl
are_two_by (a ∷ b ∷ []) = refl
are_two_by (a ∷ b ∷ c ∷ vs) = no_two (length vs)

pair_by : (b : Bool) (ds : Items) (each : Slot → Read (List Node)) (i : Slot) → are_two ds ≡ b → (if b then Some (slot.One content.Text) else None) ≡ Some i → array_as ds each slot.Pair ≡ listed (each i)
pair_by true ds each i two h = let same : slot.One content.Text ≡ i = cc in rw (two, ← same) refl
pair_by false ds each i two h = absurd (cc)

no_pair_by : (b : Bool) (ds : Items) (each : Slot → Read (List Node)) → are_two ds ≡ b → if◌then◌else◌ {A = Option Slot} b (Some (slot.One content.Text)) None ≡ None → array_as ds each slot.Pair ≡ Err []
no_pair_by true ds each two h = absurd (cc)
no_pair_by false ds each two h = rw two refl

-- a list whose items stand in a place
list_there : {A : Type 0} (vs : List (Value A)) (each : Slot → Read (List Node)) (s i : Slot) → item_slot s (length vs) ≡ Some i → array_as (items_view vs) each s ≡ listed (each i)
list_there vs each (slot.List c) i h = let same : slot.One c ≡ i = cc in rw (← same) refl
list_there vs each (slot.OptionalList c) i h = let same : slot.One c ≡ i = cc in rw (← same) refl
list_there vs each (slot.Holes c) i h = let same : slot.Optional c ≡ i = cc in rw (← same) refl
list_there vs each slot.Pairs i h = let same : slot.Pair ≡ i = cc in rw (← same) refl
list_there vs each slot.Pair i h = pair_by (length vs == 2) (items_view vs) each i (are_two_by vs) h
list_there vs each (slot.One c) i h = absurd (cc)
list_there vs each (slot.Optional c) i h = absurd (cc)

-- an array that is no list there
no_list_there : {A : Type 0} (vs : List (Value A)) (each : Slot → Read (List Node)) (s : Slot) → item_slot s (length vs) ≡ None → array_as (items_view vs) each s ≡ single_as (array (items_view vs)) s
no_list_there vs each (slot.One c) h = refl
no_list_there vs each (slot.Optional c) h = refl
no_list_there vs each slot.Pair h = no_pair_by (length vs == 2) (items_view vs) each (are_two_by vs) h
no_list_there vs each (slot.List c) h = absurd (cc)
no_list_there vs each (slot.OptionalList c) h = absurd (cc)
no_list_there vs each (slot.Holes c) h = absurd (cc)
no_list_there vs each slot.Pairs h = absurd (cc)

pub list_read : (table : Table) {A : Type 0} (vs : List (Value A)) (s i : Slot) (n : ℕ) (r : Result Node ReadError) → n ≡ length vs → Some i ≡ item_slot s n → Gives r (listed (items_seen table 0 (items_view vs) i)) → Gives r (seen table (array (items_view vs)) s)
list_read table vs s i n r long place h = subst (Gives r) (sym (list_there vs (items_seen table 0 (items_view vs)) s i (ap (item_slot s) (sym long) ∙ sym place))) h

pub single_read : (table : Table) {A : Type 0} (vs : List (Value A)) (s : Slot) (n : ℕ) (r : Result Node ReadError) → n ≡ length vs → None ≡ item_slot s n → Gives r (single_as (array (items_view vs)) s) → Gives r (seen table (array (items_view vs)) s)
single_read table vs s n r long place h = subst (Gives r) (sym (no_list_there vs (items_seen table 0 (items_view vs)) s (ap (item_slot s) (sym long) ∙ sym place))) h

pub node_there : (table : Table) (ms : Members) (keys : Keys) (s : Slot) (c : Class) → class_in s ≡ Some c → object_as table ms keys s ≡ node_at table ms keys c
node_there table ms keys (slot.One (content.Node d)) c h = let same : d ≡ c = cc in ap (node_at table ms keys) same
node_there table ms keys (slot.Optional (content.Node d)) c h = let same : d ≡ c = cc in ap (node_at table ms keys) same
node_there table ms keys _ c h = absurd (cc)

pub no_node_there : (table : Table) (ms : Members) (keys : Keys) (s : Slot) → class_in s ≡ None → object_as table ms keys s ≡ Err []
no_node_there table ms keys (slot.One (content.Node d)) h = absurd (cc)
no_node_there table ms keys (slot.Optional (content.Node d)) h = absurd (cc)
no_node_there table ms keys (slot.One content.Span) h = refl
no_node_there table ms keys (slot.One content.Text) h = refl
no_node_there table ms keys (slot.One content.Flag) h = refl
no_node_there table ms keys (slot.One (content.Word w)) h = refl
no_node_there table ms keys (slot.Optional content.Span) h = refl
no_node_there table ms keys (slot.Optional content.Text) h = refl
no_node_there table ms keys (slot.Optional content.Flag) h = refl
no_node_there table ms keys (slot.Optional (content.Word w)) h = refl
no_node_there table ms keys _ h = refl

-- an item nests no deeper than all of them
pub item_within : {A : Type 0} (vs : List (Value A)) (i : ℕ) (d : Value A) → i < length vs → depth (value_view (get_or vs i d)) ≤ items_depth (items_view vs)
item_within [] i d h = absurd (omega arith)
item_within (v ∷ vs) zero d h = omega arith
item_within (v ∷ vs) (suc i) d h = let rest = item_within vs i d (omega arith) in omega arith

pub item_read : {A : Type 0} (table : Table) (s : Slot) (i : ℕ) (vs : List (Value A)) (d : Value A) (done : List Node) (all : Read (List Node)) (t : Node) → i < length vs
    → all ≡ after done (items_seen table i (items_view (drop i vs)) s) → at (index i) (seen table (value_view (get_or vs i d)) s) ≡ Ok t → all ≡ after (done ++ t ∷ []) (items_seen table (i + 1) (items_view (drop (i + 1) vs)) s)
item_read table s i vs d done all t h was here =
    was ∙ ap (λ l. after done (items_seen table i (items_view l) s)) (drop-cons vs i d h)
    ∙ ap (λ r. after done (r >>= (λ t. items_seen table (suc i) (items_view (drop (suc i) vs)) s >>= (λ ts. Ok (t ∷ ts))))) here
    ∙ after-cons done t (items_seen table (suc i) (items_view (drop (suc i) vs)) s) ∙ ap (λ n. after (done ++ t ∷ []) (items_seen table n (items_view (drop n vs)) s)) (sym (add-one i))

pub item_fails : {A : Type 0} (table : Table) (s : Slot) (i : ℕ) (vs : List (Value A)) (d : Value A) (done : List Node) (all : Read (List Node)) (p : Path) → i < length vs
    → all ≡ after done (items_seen table i (items_view (drop i vs)) s) → at (index i) (seen table (value_view (get_or vs i d)) s) ≡ Err p → all ≡ Err p
item_fails table s i vs d done all p h was here =
    was ∙ ap (λ l. after done (items_seen table i (items_view l) s)) (drop-cons vs i d h)
    ∙ ap (λ r. after done (r >>= (λ t. items_seen table (suc i) (items_view (drop (suc i) vs)) s >>= (λ ts. Ok (t ∷ ts))))) here
