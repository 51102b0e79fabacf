-- Each pair of the first step has a reason: one place.
use Rattle.std.proofs.Common.{◌≡◌, ℕ, Bool, true, false, not, ◌||◌, IsTrue, List, [], ◌∷◌, map, refl, sym, ap, subst, ◌∙◌, rules, true≢false}
use Rattle.std.specs.Prelude.{nat_le, None}
use Rattle.swc_tree_node.specs.declared.kind.Kind.{Kind}
use Rattle.swc_tree_node.specs.declared.kind.Kind.TheVariants as kind
use Rattle.swc_tree_node.specs.declared.node.Node.{Node, Absent, Flag, Word, Text, Span, List as Many, Identifier, Tree, the_lemmas}
use Rattle.swc_tree_node.specs.declared.node.Node.TheOpen.{Node-F}
use Rattle.swc_tree_grammar.specs.Kinds.{is_block, is_object, is_class, is_object_pattern}
use Rattle.swc_tree_grammar.specs.Blocks.{span_of}
use Rattle.swc_tree_grammar.specs.Demands.{Demand, meets, at_least}
use Rattle.swc_tree_grammar.specs.Demands.Demand.{Any, AtLeast, Each as EachOf, Key, Body, Operand, Link, NewCallee, OrSide, NullishSide}
use Rattle.swc_tree_grammar.specs.Due.{Places, pair as in_pair, pair_if, to_level, odd_items}
use Rattle.swc_tree_grammar.specs.Readers.{is_odd_item, assigns_in}
use Rattle.swc_tree_grammar.proofs.Induction.{by_children}
use Rattle.swc_base_fixer_laws.specs.Sets.{pairable, can_pair}
use Rattle.swc_base_fixer_laws.proofs.ElseKept.{pairable_tree}
use Rattle.swc_base_fixer_laws.proofs.SetsLevels.{unmet as unmet_pairs}
use Rattle.swc_base_fixer_needs.specs.Sites.{Mode, Opening, Site, Spot, clue, asks, item_site, item_mode, item_demand, other_items, spots, is_base}
use Rattle.swc_base_fixer_needs.specs.Sites.Mode.{Plain, Base, BeforeIn, Head, Declarators, OneDeclarator, Name, Nothing}
use Rattle.swc_base_fixer_needs.specs.Sites.Opening.{Anything}
use Rattle.swc_base_fixer_needs.specs.Sites.Spot.{At}
use Rattle.swc_base_fixer_needs.specs.Reasons.{Label, Reason, is_of_level, Due, AllDue, blank, field_labels, item_labels}
use Rattle.swc_base_fixer_needs.specs.Reasons.Label.{Names, OfItems}
use Rattle.swc_base_fixer_needs.specs.Reasons.Reason.{for_reader, unmet}
use Rattle.swc_base_fixer_needs.specs.Reasons.Extent.{ByLevel}
use Rattle.swc_base_fixer_needs.specs.Reasons.Due.{pair, many}
use Rattle.swc_base_fixer_needs.specs.Reasons.AllDue.{none, more}
use Rattle.swc_base_fixer_needs.proofs.Paths.{clue_of_tree}

-- what gets a pair looks like one
no_block : (k : Kind) → can_pair k ≡ true → is_block k ≡ false
no_block kind.BlockStmt h = absurd (true≢false (sym h))
no_block k h = refl

not_paired : (t : Node) → pairable t ≡ false → IsTrue (pairable t) → clue t ≡ blank
not_paired t e h = absurd (cc)

pub paired_blank : (t : Node) → IsTrue (pairable t) → clue t ≡ blank
paired_blank t = by_children (λ t. IsTrue (pairable t) → clue t ≡ blank)
    (not_paired Absent (search (rules, the_lemmas)), λ x. not_paired (Flag x) (search (rules, the_lemmas)), λ w. not_paired (Word w) (search (rules, the_lemmas)), λ x. not_paired (Text x) (search (rules, the_lemmas)), λ s. not_paired (Span s) (search (rules, the_lemmas)), λ k i. not_paired (Identifier k i) (search (rules, the_lemmas)))
    (λ ts l. not_paired (Many ts) (search (rules, the_lemmas)))
    (λ k ts l h. clue_of_tree k ts ∙ ap (λ b. record { word = None; absent = false; flag = false; block = b }) (no_block k (sym (pairable_tree k ts) ∙ h))) t

-- a node whose pairs have reasons wherever it stands, but for the base of a chain
abbrev pub Everywhere : Node → Type 0
Everywhere t = (f : Node → Bool) (a : Site) → is_base a.mode ≡ false → Due ByLevel (Names f) (At a) t

pub put : (l : Label) (a : Site) (p : Places) (e : Node) → clue e ≡ blank → (r : Reason l a e) → is_of_level r ≡ true → Everywhere e → Due ByLevel l (At a) (in_pair p e)
put l a p e h r y d = pair (Span (p (span_of e))) e (λ z. absurd (cc)) (λ z. absurd (cc)) h r (λ z. y) (d (λ t. false) (asks Any true) refl)

-- what a place asks is what is asked for it, or nothing
abbrev pub Matches : Demand → Demand → Type 0
Matches Any c = Unit {0}
Matches d c = c ≡ d

pub matches : (d : Demand) → Matches d d
matches Any = tt
matches (AtLeast n) = refl
matches (EachOf n) = refl
matches Key = refl
matches Body = refl
matches Operand = refl
matches Link = refl
matches (NewCallee b) = refl
matches OrSide = refl
matches NullishSide = refl

same_unmet : (d c : Demand) (e : Node) → c ≡ d → meets d e ≡ false → meets c e ≡ false
same_unmet d c e h m = ap (λ x. meets x e) h ∙ m

unmet_there : (d c : Demand) (e : Node) → Matches d c → meets d e ≡ false → meets c e ≡ false
unmet_there Any c e h m = absurd (cc)
unmet_there (AtLeast n) c e h m = same_unmet (AtLeast n) c e h m
unmet_there (EachOf n) c e h m = same_unmet (EachOf n) c e h m
unmet_there Key c e h m = same_unmet Key c e h m
unmet_there Body c e h m = same_unmet Body c e h m
unmet_there Operand c e h m = same_unmet Operand c e h m
unmet_there Link c e h m = same_unmet Link c e h m
unmet_there (NewCallee b) c e h m = same_unmet (NewCallee b) c e h m
unmet_there OrSide c e h m = same_unmet OrSide c e h m
unmet_there NullishSide c e h m = same_unmet NullishSide c e h m

pub one : (x y : Bool) (d : Demand) (p : Places) (n : Node → Bool) (a : Site) (e : Node) → n e ≡ x → meets d e ≡ y → (n e ≡ true → clue e ≡ blank) → (meets d e ≡ false → clue e ≡ blank) → Matches d a.demand → is_base a.mode ≡ false
    → Everywhere e → Due ByLevel (Names n) (At a) (pair_if (x || not y) p e)
one true y d p n a e h m f g c b u = put (Names n) a p e (f h) (for_reader h) refl u
one false false d p n a e h m f g c b u = put (Names n) a p e (g m) (unmet (unmet_there d a.demand e c m)) refl u
one false true d p n a e h m f g c b u = u n a b

-- items
abbrev pub AllEverywhere : List Node → Type 0
AllEverywhere [] = Unit {0}
AllEverywhere (t ∷ ts) = Everywhere t × AllEverywhere ts

pub item_mode_plain : (m : Mode) → is_base (item_mode m) ≡ false
item_mode_plain Plain = refl
item_mode_plain Base = refl
item_mode_plain BeforeIn = refl
item_mode_plain Head = refl
item_mode_plain Declarators = refl
item_mode_plain OneDeclarator = refl
item_mode_plain Name = refl
item_mode_plain Nothing = refl

abbrev pub item_at : Opening → Site → Site
item_at o a = record (item_site a) { opening = o }

low_blank : (n : ℕ) (e : Node) → nat_le n 19 ≡ true → at_least n e ≡ false → clue e ≡ blank
low_blank n e h m = paired_blank e (unmet_pairs (AtLeast n) e h m)

to_item : (y : Bool) (n : ℕ) (p : Places) (f : Node → Bool) (a : Site) (o : Opening) (e : Node) → nat_le n 19 ≡ true → a.demand ≡ EachOf n → at_least n e ≡ y → Everywhere e → Due ByLevel (Names f) (At (item_at o a)) (pair_if (not y) p e)
to_item true n p f a o e h d m u = u f (item_at o a) (item_mode_plain a.mode)
to_item false n p f a o e h d m u = put (Names f) (item_at o a) p e (low_blank n e h m) (unmet (unmet_there (AtLeast n) (item_demand a.demand) e (ap item_demand d) m)) refl u

others_level : (n : ℕ) (p : Places) (a : Site) (ts : List Node) → nat_le n 19 ≡ true → a.demand ≡ EachOf n → AllEverywhere ts → AllDue ByLevel (field_labels [] (map (to_level n p) ts)) (other_items a (map clue (map (to_level n p) ts))) (map (to_level n p) ts)
others_level n p a [] h d u = none
others_level n p a (t ∷ ts) h d u = more (to_item (at_least n t) n p (λ e. false) a Anything t h d refl u.0) (others_level n p a ts h d u.1)

all_level : (n : ℕ) (p : Places) (a : Site) (ts : List Node) → nat_le n 19 ≡ true → a.demand ≡ EachOf n → AllEverywhere ts → AllDue ByLevel (field_labels [] (map (to_level n p) ts)) (spots a (Node-F.List (map clue (map (to_level n p) ts)))) (map (to_level n p) ts)
all_level n p a [] h d u = none
all_level n p a (t ∷ ts) h d u = more (to_item (at_least n t) n p (λ e. false) a a.opening t h d refl u.0) (others_level n p a ts h d u.1)

pub list_level : (n : ℕ) (p : Places) (f : Node → Bool) (a : Site) (ts : List Node) → nat_le n 19 ≡ true → a.demand ≡ EachOf n → AllEverywhere ts → Due ByLevel (Names f) (At a) (Many (map (to_level n p) ts))
list_level n p f a ts h d u = many (map (to_level n p) ts) (all_level n p a ts h d u)

-- the items of a sequence that is a statement
odd_tree : (k : Kind) (ts : List Node) → (is_object k || (is_class k || assigns_in is_object_pattern (Node-F.Tree k ts))) ≡ true → is_block k ≡ false
odd_tree kind.BlockStmt ts h = absurd (true≢false (sym h))
odd_tree k ts h = refl

not_odd : (t : Node) → is_odd_item t ≡ false → is_odd_item t ≡ true → clue t ≡ blank
not_odd t e h = absurd (cc)

odd_blank : (t : Node) → is_odd_item t ≡ true → clue t ≡ blank
odd_blank t = by_children (λ t. is_odd_item t ≡ true → clue t ≡ blank)
    (not_odd Absent (search (rules, the_lemmas)), λ x. not_odd (Flag x) (search (rules, the_lemmas)), λ w. not_odd (Word w) (search (rules, the_lemmas)), λ x. not_odd (Text x) (search (rules, the_lemmas)), λ s. not_odd (Span s) (search (rules, the_lemmas)), λ k i. not_odd (Identifier k i) (search (rules, the_lemmas)))
    (λ ts l. not_odd (Many ts) (search (rules, the_lemmas)))
    (λ k ts l h. (let e : is_odd_item (Tree k ts) ≡ (is_object k || (is_class k || assigns_in is_object_pattern (Node-F.Tree k ts))) = search (rules, the_lemmas) in clue_of_tree k ts ∙ ap (λ b. record { word = None; absent = false; flag = false; block = b }) (odd_tree k ts (sym e ∙ h)))) t

odd_if : (x : Bool) (p : Places) (a : Site) (o : Opening) (e : Node) → is_odd_item e ≡ x → Everywhere e → Due ByLevel (Names is_odd_item) (At (item_at o a)) (pair_if x p e)
odd_if true p a o e h u = put (Names is_odd_item) (item_at o a) p e (odd_blank e h) (for_reader h) refl u
odd_if false p a o e h u = u is_odd_item (item_at o a) (item_mode_plain a.mode)

odd_one : (y : Bool) (p : Places) (a : Site) (o : Opening) (e : Node) → a.demand ≡ EachOf 2 → at_least 2 e ≡ y → Everywhere e → Due ByLevel (Names is_odd_item) (At (item_at o a)) (pair_if (is_odd_item (pair_if (not y) p e)) p (pair_if (not y) p e))
odd_one true p a o e d m u = odd_if (is_odd_item e) p a o e refl u
odd_one false p a o e d m u =
    let n : is_odd_item (in_pair p e) ≡ false = search (rules, the_lemmas) in
    rw n (put (Names is_odd_item) (item_at o a) p e (low_blank 2 e refl m) (unmet (unmet_there (AtLeast 2) (item_demand a.demand) e (ap item_demand d) m)) refl u)

abbrev odd : Places → List Node → List Node
odd p ts = odd_items p (map (to_level 2 p) ts)

abbrev item_spots : Opening → Site → List Node → List Spot
item_spots o a [] = []
item_spots o a (t ∷ ts) = At (item_at o a) ∷ other_items a (map clue ts)

all_odd : (o : Opening) (p : Places) (a : Site) (ts : List Node) → a.demand ≡ EachOf 2 → AllEverywhere ts → AllDue ByLevel (item_labels (odd p ts)) (item_spots o a (odd p ts)) (odd p ts)
all_odd o p a [] d u = none
all_odd o p a (t ∷ []) d u = more (to_item (at_least 2 t) 2 p (λ e. false) a o t refl d refl u.0) none
all_odd o p a (t ∷ v ∷ []) d u = more (odd_one (at_least 2 t) p a o t d refl u.0) (all_odd Anything p a (v ∷ []) d u.1)
all_odd o p a (t ∷ v ∷ w ∷ ts) d u = more (odd_one (at_least 2 t) p a o t d refl u.0) (all_odd Anything p a (v ∷ w ∷ ts) d u.1)

spots_of_items : (a : Site) (ts : List Node) → item_spots a.opening a ts ≡ spots a (Node-F.List (map clue ts))
spots_of_items a [] = refl
spots_of_items a (t ∷ ts) = refl

pub list_odd : (p : Places) (a : Site) (ts : List Node) → a.demand ≡ EachOf 2 → AllEverywhere ts → Due ByLevel OfItems (At a) (Many (odd p ts))
list_odd p a ts d u = many (odd p ts) (subst (λ ss. AllDue ByLevel (item_labels (odd p ts)) ss (odd p ts)) (spots_of_items a (odd p ts)) (all_odd a.opening p a ts d u))
