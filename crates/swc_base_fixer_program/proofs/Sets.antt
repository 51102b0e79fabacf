-- The answer by the record of the program's pairs, and the pairs that are not set again.
use Rattle.std.proofs.Common.{◌≡◌, ℕ, ◌+◌, ◌<◌, ◌≤◌, length, take, get_or, take_all, add-one, Bool, true, false, not, List, [], ◌∷◌, ◌++◌, reverse, refl, sym, ap, ◌∙◌}
use Rattle.std.specs.List.{filter, flat_map, list_any}
use Rattle.std.specs.Prelude.{if◌then◌else◌}
use Rattle.std.proofs.Math.Seq.{take-suc}
use Rattle.std.proofs.lemmas.List.{append-nil, reverse-append}
use Rattle.std.proofs.lemmas.List.Elements.{filter-append}
use Rattle.swc_tree_node.specs.declared.node.Node.{Node}
use Rattle.swc_tree_grammar.specs.declared.pairs.Pair.{Pair}
use Rattle.swc_tree_grammar.specs.Pairs.{pairs, moves_of}
use Rattle.swc_tree_grammar.specs.Stripped.{stripped}
use Rattle.swc_tree_grammar.specs.Blocks.{with_blocks}
use Rattle.swc_tree_grammar.specs.Due.{with_due_pairs}
use Rattle.swc_tree_grammar.specs.Fixed.{fixed, recorded, same_span, is_set_in, moves_to}
use Rattle.swc_base_fixer_due.specs.declared.record.Record.{Record}
use Rattle.swc_base_fixer_due.specs.Record.{place_in, has_in, Records}
use Rattle.swc_base_fixer_program.specs.Answers.{answer_to, moves_for}

abbrev at_each : {X Y : Type 0} {f g : X → Y} → ((x : X) → f x ≡ g x) → f ≡ g
at_each h = λ i s. h s i

turned : {X : Type 0} (xs : List X) → reverse (reverse xs) ≡ xs
turned [] = refl
turned (x ∷ xs) = ap (λ ys. reverse ys) (reverse-append (x ∷ []) xs) ∙ reverse-append (reverse xs) (x ∷ []) ∙ ap (λ ys. x ∷ ys) (turned xs)

last_turned : {X : Type 0} (b : Bool) (x : X) (xs : List X) → reverse xs ++ (if b then x ∷ [] else []) ≡ reverse (if b then x ∷ xs else xs)
last_turned true x xs = sym (reverse-append (x ∷ []) xs)
last_turned false x xs = append-nil (reverse xs)

filter_turned : {X : Type 0} (f : X → Bool) (xs : List X) → filter f (reverse xs) ≡ reverse (filter f xs)
filter_turned f [] = refl
filter_turned f (x ∷ xs) =
    ap (λ ys. filter f ys) (reverse-append (x ∷ []) xs) ∙ filter-append f (reverse xs) (x ∷ []) ∙ ap (λ ys. ys ++ filter f (x ∷ [])) (filter_turned f xs)
    ∙ last_turned (f x) x (filter f xs)

-- the record's places are those that the definition asks
pub by_record : (ps : List Pair) (r : Record) (t u v w : Node) → Records ps r → u ≡ stripped t → v ≡ with_blocks u → w ≡ with_due_pairs (place_in r) v
    → w ≡ fixed (recorded (reverse ps)) t
by_record ps r t u v w h a b c = c ∙ rw (b, a) (ap (λ place. with_due_pairs place (with_blocks (stripped t))) (at_each h.places))

pub own_record : (ps : List Pair) (t u : Node) → ps ≡ reverse (pairs t) → u ≡ fixed (recorded (reverse ps)) t → u ≡ answer_to t
unfolding answer_to
own_record ps t u h g = g ∙ ap (λ ps. fixed (recorded ps) t) (ap (λ ps. reverse ps) h ∙ turned (pairs t))

-- what the record says of the answer's pairs
is_set : (ps : List Pair) (r : Record) (u : Node) (p : Pair) → Records ps r → ps ≡ reverse (pairs u) → has_in r p.content ≡ is_set_in u p
is_set ps r u p h g = h.contents p.content ∙ ap (λ ps. list_any (λ q. same_span p.content q.content) ps) (ap (λ ps. reverse ps) g ∙ turned (pairs u))

-- the moves, by the list of what is left
pub moves_left : (t u : Node) (ps qs : List Pair) → ps ≡ reverse (pairs t) → u ≡ answer_to t → qs ≡ filter (λ p. not (is_set_in u p)) ps → flat_map moves_of qs ≡ moves_for t
unfolding answer_to moves_for
moves_left t u ps qs h g e =
    ap (λ qs. flat_map moves_of qs) (e ∙ ap (λ ps. filter (λ p. not (is_set_in u p)) ps) h ∙ filter_turned (λ p. not (is_set_in u p)) (pairs t)) ∙ ap (λ u. moves_to t u) g

left_of : (ps qs : List Pair) (r : Record) (u : Node) → Records ps r → ps ≡ reverse (pairs u) → filter (λ p. not (has_in r p.content)) qs ≡ filter (λ p. not (is_set_in u p)) qs
left_of ps qs r u h g = ap (λ f. filter f qs) (at_each (λ p. ap (λ b. not b) (is_set ps r u p h g)))

-- one more pair is looked at
one_asked : (r : Record) (qs ls ms : List Pair) (p o : Pair) (i : ℕ) → i < length qs → p ≡ get_or qs i o → ls ≡ filter (λ p. not (has_in r p.content)) (take i qs)
    → ms ≡ ls ++ filter (λ p. not (has_in r p.content)) (p ∷ []) → ms ≡ filter (λ p. not (has_in r p.content)) (take (i + 1) qs)
one_asked r qs ls ms p o i h e l m = (
    let last : take (i + 1) qs ≡ take i qs ++ p ∷ [] = rw add-one (take-suc qs i o h) ∙ ap (λ x. take i qs ++ x ∷ []) (sym e) in
    rw (m, l, last) (sym (filter-append (λ p. not (has_in r p.content)) (take i qs) (p ∷ []))))

pub one_kept : (r : Record) (qs ls ms : List Pair) (p o : Pair) (i : ℕ) → i < length qs → p ≡ get_or qs i o → ls ≡ filter (λ p. not (has_in r p.content)) (take i qs)
    → has_in r p.content ≡ false → ms ≡ ls ++ p ∷ [] → ms ≡ filter (λ p. not (has_in r p.content)) (take (i + 1) qs)
one_kept r qs ls ms p o i h e l b m = one_asked r qs ls ms p o i h e l (m ∙ ap (λ b. ls ++ (if not b then p ∷ [] else [])) (sym b))

pub one_dropped : (r : Record) (qs ls ms : List Pair) (p o : Pair) (i : ℕ) → i < length qs → p ≡ get_or qs i o → ls ≡ filter (λ p. not (has_in r p.content)) (take i qs)
    → has_in r p.content ≡ true → ms ≡ ls → ms ≡ filter (λ p. not (has_in r p.content)) (take (i + 1) qs)
one_dropped r qs ls ms p o i h e l b m = one_asked r qs ls ms p o i h e l (m ∙ sym (append-nil ls) ∙ ap (λ b. ls ++ (if not b then p ∷ [] else [])) (sym b))

pub all_asked : (r : Record) (u : Node) (ps qs ls : List Pair) (i : ℕ) → length qs ≤ i → Records ps r → ps ≡ reverse (pairs u) → ls ≡ filter (λ p. not (has_in r p.content)) (take i qs)
    → ls ≡ filter (λ p. not (is_set_in u p)) qs
all_asked r u ps qs ls i h a b l = l ∙ ap (λ qs. filter (λ p. not (has_in r p.content)) qs) (take_all i qs h) ∙ left_of ps qs r u a b
