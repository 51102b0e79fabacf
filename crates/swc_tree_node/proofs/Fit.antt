-- What fitting says at each form of a node.
use Rattle.std.proofs.Common.{◌≡◌, List, [], ◌∷◌, ℕ, Bool, true, false, not, ◌&&◌, IsTrue, map, length, ◌++◌, rules, refl, ap, arith}
use Rattle.swc_tree_marks.specs.declared.span.Span.{Span as Span'}
use Rattle.swc_tree_marks.specs.declared.ident.Ident.{Ident}
use Rattle.swc_tree_node.specs.declared.kind.Kind.{Kind}
use Rattle.swc_tree_node.specs.declared.kind.Class.{Class}
use Rattle.swc_tree_node.specs.declared.kind.Word.{Word as Word'}
use Rattle.swc_tree_node.specs.declared.slot.Content.{Content}
use Rattle.swc_tree_node.specs.declared.slot.Content.TheVariants as content
use Rattle.swc_tree_node.specs.declared.slot.Slot.{Slot}
use Rattle.swc_tree_node.specs.declared.slot.Slot.TheVariants as slot
use Rattle.swc_tree_node.specs.declared.node.Node.{Node, Absent, Flag, Word, Text, Span, List as Many, Identifier, Tree, the_lemmas}
use Rattle.swc_tree_node.specs.declared.node.Node.TheOpen.{Node-F}
use Rattle.swc_tree_node.specs.Table.{slots_of, is_identifier}
use Rattle.swc_tree_node.specs.Fits.{fits, Fits, fit_step, single, absent_fits, flag_fits, word_fits, text_fits, span_fits, list_fits, identifier_fits, tree_fits, all_fit, each_fits, belongs, FieldsFit, AllFit}

absent_step : fits Absent ≡ fit_step Node-F.Absent
absent_step = search (rules, the_lemmas)

flag_step : (x : Bool) → fits (Flag x) ≡ fit_step (Node-F.Flag x)
flag_step x = search (rules, the_lemmas)

word_step : (w : Word') → fits (Word w) ≡ fit_step (Node-F.Word w)
word_step w = search (rules, the_lemmas)

text_step : (x : List ℕ) → fits (Text x) ≡ fit_step (Node-F.Text x)
text_step x = search (rules, the_lemmas)

span_step : (x : Span') → fits (Span x) ≡ fit_step (Node-F.Span x)
span_step x = search (rules, the_lemmas)

list_step : (ts : List Node) → fits (Many ts) ≡ fit_step (Node-F.List (map fits ts))
list_step ts = search (rules, the_lemmas)

identifier_step : (k : Kind) (i : Ident) → fits (Identifier k i) ≡ fit_step (Node-F.Identifier k i)
identifier_step k i = search (rules, the_lemmas)

tree_step : (k : Kind) (ts : List Node) → fits (Tree k ts) ≡ fit_step (Node-F.Tree k (map fits ts))
tree_step k ts = search (rules, the_lemmas)

pub fits-Absent : (s : Slot) → fits Absent s ≡ absent_fits s
fits-Absent s = ap (λ f. f s) absent_step

pub fits-Flag : (x : Bool) (s : Slot) → fits (Flag x) s ≡ flag_fits (single s)
fits-Flag x s = ap (λ f. f s) (flag_step x)

pub fits-Word : (w : Word') (s : Slot) → fits (Word w) s ≡ word_fits w (single s)
fits-Word w s = ap (λ f. f s) (word_step w)

pub fits-Text : (x : List ℕ) (s : Slot) → fits (Text x) s ≡ text_fits (single s)
fits-Text x s = ap (λ f. f s) (text_step x)

pub fits-Span : (x : Span') (s : Slot) → fits (Span x) s ≡ span_fits (single s)
fits-Span x s = ap (λ f. f s) (span_step x)

pub fits-List : (ts : List Node) (s : Slot) → fits (Many ts) s ≡ list_fits (map fits ts) s
fits-List ts s = ap (λ f. f s) (list_step ts)

pub fits-Identifier : (k : Kind) (i : Ident) (s : Slot) → fits (Identifier k i) s ≡ identifier_fits k (single s)
fits-Identifier k i s = ap (λ f. f s) (identifier_step k i)

pub fits-Tree : (k : Kind) (ts : List Node) (s : Slot) → fits (Tree k ts) s ≡ tree_fits k (map fits ts) (single s)
fits-Tree k ts s = ap (λ f. f s) (tree_step k ts)

-- one equation for each form of a node
pub ruleset fitting = (fits-Absent, fits-Flag, fits-Word, fits-Text, fits-Span, fits-List, fits-Identifier, fits-Tree)

pub both : (a b : Bool) → IsTrue (a && b) → IsTrue a × IsTrue b
both true true h = (h, h)
both true false h = absurd (grind arith)
both false b h = absurd (grind arith)

pub and_both : (a b : Bool) → IsTrue a → IsTrue b → IsTrue (a && b)
and_both true b h g = g
and_both false b h g = h

pub fields_open : (ss : List Slot) (ts : List Node) → IsTrue (each_fits ss (map fits ts)) → FieldsFit ss ts
fields_open [] [] h = tt
fields_open [] (t ∷ ts) h = absurd (grind arith)
fields_open (s ∷ ss) [] h = absurd (grind arith)
fields_open (s ∷ ss) (t ∷ ts) h = let p = both (fits t s) (each_fits ss (map fits ts)) h in (p.0, fields_open ss ts p.1)

pub fields_close : (ss : List Slot) (ts : List Node) → FieldsFit ss ts → IsTrue (each_fits ss (map fits ts))
fields_close [] [] h = grind rules
fields_close [] (t ∷ ts) h = absurd h
fields_close (s ∷ ss) [] h = absurd h
fields_close (s ∷ ss) (t ∷ ts) h = and_both (fits t s) (each_fits ss (map fits ts)) h.0 (fields_close ss ts h.1)

pub all_open : (s : Slot) (ts : List Node) → IsTrue (all_fit (map fits ts) s) → AllFit s ts
all_open s [] h = tt
all_open s (t ∷ ts) h = let p = both (fits t s) (all_fit (map fits ts) s) h in (p.0, all_open s ts p.1)

pub all_close : (s : Slot) (ts : List Node) → AllFit s ts → IsTrue (all_fit (map fits ts) s)
all_close s [] h = grind rules
all_close s (t ∷ ts) h = and_both (fits t s) (all_fit (map fits ts) s) h.0 (all_close s ts h.1)

-- a node that fits a class is of one of its kinds, and its fields fit
pub tree_opens : (k : Kind) (ts : List Node) (c : Class) → Fits (Tree k ts) (slot.One (content.Node c)) → IsTrue (not (is_identifier k)) × IsTrue (belongs k c) × FieldsFit (slots_of k) ts
tree_opens k ts c h =
    let p = both (not (is_identifier k)) (belongs k c && each_fits (slots_of k) (map fits ts)) (rw (← fits-Tree k ts (slot.One (content.Node c))) h) in
    let q = both (belongs k c) (each_fits (slots_of k) (map fits ts)) p.1 in
    (p.0, q.0, fields_open (slots_of k) ts q.1)

pub tree_closes : (k : Kind) (ts : List Node) (c : Class) → IsTrue (not (is_identifier k)) → IsTrue (belongs k c) → FieldsFit (slots_of k) ts → Fits (Tree k ts) (slot.One (content.Node c))
tree_closes k ts c i b f =
    rw (fits-Tree k ts (slot.One (content.Node c))) (and_both (not (is_identifier k)) (belongs k c && each_fits (slots_of k) (map fits ts)) i
    (and_both (belongs k c) (each_fits (slots_of k) (map fits ts)) b (fields_close (slots_of k) ts f)))

pub list_opens : (ts : List Node) (c : Content) → Fits (Many ts) (slot.List c) → AllFit (slot.One c) ts
list_opens ts c h = all_open (slot.One c) ts (rw (← fits-List ts (slot.List c)) h)

pub list_closes : (ts : List Node) (c : Content) → AllFit (slot.One c) ts → Fits (Many ts) (slot.List c)
list_closes ts c h = rw (fits-List ts (slot.List c)) (all_close (slot.One c) ts h)

pub lengths : (ss : List Slot) (ts : List Node) → FieldsFit ss ts → length ts ≡ length ss
lengths [] [] h = refl
lengths [] (t ∷ ts) h = absurd h
lengths (s ∷ ss) [] h = absurd h
lengths (s ∷ ss) (t ∷ ts) h = simp (lengths ss ts h.1)

pub all_push : (s : Slot) (ts : List Node) (t : Node) → AllFit s ts → Fits t s → AllFit s (ts ++ t ∷ [])
all_push s [] t h f = (f, tt)
all_push s (x ∷ ts) t h f = (h.0, all_push s ts t h.1 f)

pub all_last : (s : Slot) (ts : List Node) (t : Node) → AllFit s (ts ++ t ∷ []) → Fits t s
all_last s [] t h = h.0
all_last s (x ∷ ts) t h = all_last s ts t h.1

pub all_before : (s : Slot) (ts : List Node) (t : Node) → AllFit s (ts ++ t ∷ []) → AllFit s ts
all_before s [] t h = tt
all_before s (x ∷ ts) t h = (h.0, all_before s ts t h.1)

pub holes_open : (ts : List Node) (c : Content) → Fits (Many ts) (slot.Holes c) → AllFit (slot.Optional c) ts
holes_open ts c h = all_open (slot.Optional c) ts (rw (← fits-List ts (slot.Holes c)) h)

pub holes_close : (ts : List Node) (c : Content) → AllFit (slot.Optional c) ts → Fits (Many ts) (slot.Holes c)
holes_close ts c h = rw (fits-List ts (slot.Holes c)) (all_close (slot.Optional c) ts h)

pub optional_list_opens : (ts : List Node) (c : Content) → Fits (Many ts) (slot.OptionalList c) → AllFit (slot.One c) ts
optional_list_opens ts c h = all_open (slot.One c) ts (rw (← fits-List ts (slot.OptionalList c)) h)

pub optional_list_closes : (ts : List Node) (c : Content) → AllFit (slot.One c) ts → Fits (Many ts) (slot.OptionalList c)
optional_list_closes ts c h = rw (fits-List ts (slot.OptionalList c)) (all_close (slot.One c) ts h)

pub pairs_open : (ts : List Node) → Fits (Many ts) slot.Pairs → AllFit slot.Pair ts
pairs_open ts h = all_open slot.Pair ts (rw (← fits-List ts slot.Pairs) h)

pub pairs_close : (ts : List Node) → AllFit slot.Pair ts → Fits (Many ts) slot.Pairs
pairs_close ts h = rw (fits-List ts slot.Pairs) (all_close slot.Pair ts h)

-- a pair is a list of two texts
pub pair_opens : (ts : List Node) → Fits (Many ts) slot.Pair → FieldsFit (slot.One content.Text ∷ slot.One content.Text ∷ []) ts
pair_opens ts h = fields_open (slot.One content.Text ∷ slot.One content.Text ∷ []) ts (rw (← fits-List ts slot.Pair) h)

pub pair_closes : (key value : List ℕ) → Fits (Many (Text key ∷ Text value ∷ [])) slot.Pair
pair_closes key value = rw (fits-List (Text key ∷ Text value ∷ []) slot.Pair)
    (fields_close (slot.One content.Text ∷ slot.One content.Text ∷ []) (Text key ∷ Text value ∷ [])
    (rw (fits-Text key (slot.One content.Text)) refl, (rw (fits-Text value (slot.One content.Text)) refl, tt)))
