-- A second run of the fixer sets each pair where the first one did.
use Rattle.std.proofs.Common.{◌≡◌, ℕ, Bool, true, false, not, ◌&&◌, ◌||◌, ◌==◌, IsTrue, List, [], ◌∷◌, ◌++◌, map, refl, sym, ap, subst, ◌∙◌, rules, true≢false}
use Rattle.std.specs.Prelude.{if◌then◌else◌}
use Rattle.std.specs.List.{list_all, list_any, flat_map}
use Rattle.swc_tree_marks.specs.declared.span.Span.{Span as Range}
use Rattle.swc_tree_node.specs.declared.kind.Kind.{Kind}
use Rattle.swc_tree_node.specs.declared.kind.Kind.TheVariants as kind
use Rattle.swc_tree_node.specs.declared.slot.Content.TheVariants as content
use Rattle.swc_tree_node.specs.declared.slot.Slot.{Slot}
use Rattle.swc_tree_node.specs.declared.slot.Slot.TheVariants as slot
use Rattle.swc_tree_node.specs.declared.node.Node.{Node, Absent, Flag, Word, Text, Span, List as Many, Identifier, Tree, the_lemmas}
use Rattle.swc_tree_node.specs.declared.node.Node.TheOpen.{Node-F}
use Rattle.swc_tree_node.specs.Table.{slots_of}
use Rattle.swc_tree_node.specs.Fits.{Fits, FieldsFit}
use Rattle.swc_tree_node.proofs.Fit.{fits-Absent, fits-Flag, fits-Word, fits-Text, fits-List, fits-Identifier, fits-Tree}
use Rattle.swc_tree_grammar.specs.declared.pairs.Pair.{Pair}
use Rattle.swc_tree_grammar.specs.Kinds.{has_kind, is_paren}
use Rattle.swc_tree_grammar.specs.Blocks.{span_of, with_blocks}
use Rattle.swc_tree_grammar.specs.Stripped.{stripped, is_pairless}
use Rattle.swc_tree_grammar.specs.Targets.{all_bare}
use Rattle.swc_tree_grammar.specs.Places.{is_open}
use Rattle.swc_tree_grammar.proofs.BlocksKept.{unparened_fits}
use Rattle.swc_tree_grammar.specs.Pairs.{found, all_of, own_of, inside_of, pairs, pairs_inside}
use Rattle.swc_tree_grammar.specs.Due.{Places, with_due_pairs}
use Rattle.swc_tree_grammar.specs.Fixed.{fixed, recorded, same_span}
use Rattle.swc_tree_grammar.proofs.Induction.{Each, by_children}
use Rattle.swc_tree_grammar.proofs.Pairless.{unparened_pairless}
use Rattle.swc_tree_grammar.proofs.Places.{stands}
use Rattle.swc_tree_grammar.proofs.Spans.{found_span}
use Rattle.swc_tree_grammar.proofs.Walks.{pairs_of_tree, pairs_of_list, pairs_each}
use Rattle.swc_tree_grammar_laws.proofs.Blocked.{Somewhere, fields_fit, items_fit, no}
use Rattle.swc_tree_grammar_laws.proofs.Every.{every_tree, every_list}
use Rattle.swc_tree_grammar_laws.proofs.Levelled.{both}
use Rattle.swc_base_fixer_laws.specs.Targets.{bare_target_in, has_bare_targets}
use Rattle.swc_base_fixer_laws.proofs.AgainStill.{fits_well}
use Rattle.swc_base_fixer_laws.proofs.AgainTwice.{fixed_again}
use Rattle.swc_base_fixer_laws.proofs.Answer.{due_fits}
use Rattle.swc_base_fixer_laws.proofs.Quiet.{is_quiet, is_quiet_kind, quiet}
use Rattle.swc_base_fixer_laws.proofs.Placed.{placed, placed_fields, is_span, put, is_pair, placed_other, span_is, placed_of_tree, placed_of_list, placed_of_absent, placed_of_flag, placed_of_word, placed_of_text, placed_of_span, placed_of_name}
use Rattle.swc_base_fixer_laws.proofs.PlacedStarts.{due_placed}

-- what stands in no pair and has none stays
abbrev Stays : Places → Node → Type 0
Stays q t = placed q t ≡ t

all_stay : (q : Places) (ts : List Node) → Each (Stays q) ts → map (placed q) ts ≡ ts
all_stay q [] l = refl
all_stay q (t ∷ ts) l = rw (l.0, all_stay q ts l.1) refl

quiet_other : (k : Kind) → is_quiet_kind k ≡ true → is_pair k ≡ false
quiet_other kind.ParenExpr h = absurd (true≢false (sym h))
quiet_other k h = refl

quiet_stays : (q : Places) (t : Node) (s : Slot) → is_quiet s ≡ true → Fits t s → placed q t ≡ t
quiet_stays q t = quiet (Stays q)
    (placed_of_absent q, placed_of_flag q, placed_of_word q, placed_of_text q, placed_of_span q, placed_of_name q)
    (λ ts l. placed_of_list q ts ∙ ap Many (all_stay q ts l))
    (λ k ts h l. placed_other q k ts (quiet_other k h) ∙ ap (Tree k) (all_stay q ts l)) t

-- where a pair says that it stands
span_slot : (t : Node) → Fits t (slot.One content.Span) → is_span t ≡ true
span_slot t = by_children (λ t. Fits t (slot.One content.Span) → is_span t ≡ true)
    (λ f. absurd (no (sym (fits-Absent (slot.One content.Span)) ∙ f)), λ x f. absurd (no (sym (fits-Flag x (slot.One content.Span)) ∙ f)), λ w f. absurd (no (sym (fits-Word w (slot.One content.Span)) ∙ f)), λ x f. absurd (no (sym (fits-Text x (slot.One content.Span)) ∙ f)), λ r f. span_is r, λ k i f. absurd (no (sym (fits-Identifier k i (slot.One content.Span)) ∙ f)))
    (λ ts l f. absurd (no (sym (fits-List ts (slot.One content.Span)) ∙ f)))
    (λ k ts l f. absurd (no (sym (fits-Tree k ts (slot.One content.Span)) ∙ f))) t

put_is : (b : Bool) (r : Range) (t : Node) → b ≡ true → (if b then Span r else t) ≡ Span r
put_is true r t e = refl
put_is false r t e = absurd (cc)

span_found : (r : Range) → (found (Span r)).span ≡ r
span_found r = search (rules, the_lemmas)

span_pairs : (r : Range) → pairs (Span r) ≡ []
span_pairs r = search (rules, the_lemmas)

-- each of some pairs
abbrev Of : (Pair → Type 0) → List Pair → Type 0
Of P [] = Unit {0}
Of P (x ∷ xs) = P x × Of P xs

of_left : (P : Pair → Type 0) (xs ys : List Pair) → Of P (xs ++ ys) → Of P xs
of_left P [] ys h = tt
of_left P (x ∷ xs) ys h = (h.0, of_left P xs ys h.1)

of_right : (P : Pair → Type 0) (xs ys : List Pair) → Of P (xs ++ ys) → Of P ys
of_right P [] ys h = h
of_right P (x ∷ xs) ys h = of_right P xs ys h.1

of_both : (P : Pair → Type 0) (xs ys : List Pair) → Of P xs → Of P ys → Of P (xs ++ ys)
of_both P [] ys h g = g
of_both P (x ∷ xs) ys h g = (h.0, of_both P xs ys h.1 g)

-- those below a node are those of the node, but for a pair that it is
split : (t : Node) → pairs t ≡ (found t).own ++ pairs_inside t
split t = refl

own_tree : (k : Kind) (ts : List Node) → (found (Tree k ts)).own ≡ own_of (Node-F.Tree k (map found ts))
own_tree k ts = search (rules, the_lemmas)

own_row : (k : Kind) (ts : List Node) → is_paren k ≡ false → own_of (Node-F.Tree k (map found ts)) ≡ []
own_row kind.ParenExpr ts h = absurd (cc)
own_row k ts h = refl

paren_tree : (k : Kind) (ts : List Node) → has_kind is_paren (Tree k ts) ≡ is_paren k
paren_tree k ts = search (rules, the_lemmas)

no_own : (t : Node) → has_kind is_paren t ≡ false → (found t).own ≡ []
no_own t = by_children (λ t. has_kind is_paren t ≡ false → (found t).own ≡ [])
    (λ h. search (rules, the_lemmas), λ x h. search (rules, the_lemmas), λ w h. search (rules, the_lemmas), λ x h. search (rules, the_lemmas), λ r h. search (rules, the_lemmas), λ k i h. search (rules, the_lemmas))
    (λ ts l h. search (rules, the_lemmas))
    (λ k ts l h. own_tree k ts ∙ own_row k ts (sym (paren_tree k ts) ∙ h)) t

module _ (p : Places) where
  -- a pair that stands where the places have it
  abbrev AtHome : Pair → Type 0
  AtHome x = x.whole ≡ p x.content

  abbrev Home : Node → Type 0
  Home t = (s : Slot) → Fits t s → Of AtHome (pairs (placed p t))

  all_home : (ts : List Node) → Each Home ts → Each Somewhere ts → Of AtHome (flat_map pairs (map (placed p) ts))
  all_home [] l f = tt
  all_home (t ∷ ts) l f = of_both AtHome (pairs (placed p t)) (flat_map pairs (map (placed p) ts)) (l.0 f.0.0 f.0.1) (all_home ts l.1 f.1)

  abbrev pairs_in : Kind → List Node → List Pair
  pairs_in k us = own_of (Node-F.Tree k (map found us)) ++ inside_of (Node-F.Tree k (map found us))

  plain_home : (us : List Node) → Of AtHome (flat_map pairs us) → Of AtHome (flat_map all_of (map found us))
  plain_home us h = subst (Of AtHome) (sym (pairs_each us)) h

  home_row : (k : Kind) (ts : List Node) → FieldsFit (slots_of k) ts → Each Home ts → Each Somewhere ts → Of AtHome (pairs_in k (placed_fields p k (map (placed p) ts)))
  home_row kind.ParenExpr (s ∷ e ∷ []) f l g =
      let e' = placed p e in let r = p (span_of e') in
      let z : put r (placed p s) ≡ Span r = put_is (is_span (placed p s)) r (placed p s) (ap is_span (quiet_stays p s (slot.One content.Span) refl f.0) ∙ span_slot s f.0) in (
        ap (λ t. (found t).span) z ∙ span_found r ∙ ap p (sym (found_span e')),
        of_both AtHome (pairs (put r (placed p s))) (pairs e' ++ []) (subst (Of AtHome) (sym (ap pairs z ∙ span_pairs r)) tt) (of_both AtHome (pairs e') [] (l.1.0 g.1.0.0 g.1.0.1) tt),
      )
  home_row kind.AssignExpr (s ∷ o ∷ i ∷ r ∷ []) f l g =
      of_both AtHome (pairs_inside (placed p i)) (pairs (placed p r)) (of_right AtHome (found (placed p i)).own (pairs_inside (placed p i)) (l.1.1.0 g.1.1.0.0 g.1.1.0.1)) (l.1.1.1.0 g.1.1.1.0.0 g.1.1.1.0.1)
  home_row k ts f l g = plain_home (map (placed p) ts) (all_home ts l g)

  none_home : (t u : Node) → placed p t ≡ u → pairs u ≡ [] → Of AtHome (pairs (placed p t))
  none_home t u e g = subst (Of AtHome) (sym (ap pairs e ∙ g)) tt

  pub home : (t : Node) → Home t
  home t = by_children Home (
    λ s f. none_home Absent Absent (placed_of_absent p) (search (rules, the_lemmas)),
    λ x s f. none_home (Flag x) (Flag x) (placed_of_flag p x) (search (rules, the_lemmas)),
    λ w s f. none_home (Word w) (Word w) (placed_of_word p w) (search (rules, the_lemmas)),
    λ x s f. none_home (Text x) (Text x) (placed_of_text p x) (search (rules, the_lemmas)),
    λ r s f. none_home (Span r) (Span r) (placed_of_span p r) (search (rules, the_lemmas)),
    λ k i s f. none_home (Identifier k i) (Identifier k i) (placed_of_name p k i) (search (rules, the_lemmas)),
  )
      (λ ts l s f. subst (Of AtHome) (sym (ap pairs (placed_of_list p ts) ∙ pairs_of_list (map (placed p) ts))) (all_home ts l (items_fit s ts (sym (fits-List ts s) ∙ f))))
      (λ k ts l s f. (
      let w = stands k ts s f in
      subst (Of AtHome) (sym (ap pairs (placed_of_tree p k ts) ∙ pairs_of_tree k (placed_fields p k (map (placed p) ts)))) (home_row k ts w.fields l (fields_fit (slots_of k) ts w.fields))
      )) t

  -- a record of pairs that stand so has each of them so
  equal_numbers : (a b : ℕ) → (a == b) ≡ true → a ≡ b
  equal_numbers a b h = search rules

  equal_spans : (r s : Range) → same_span r s ≡ true → r ≡ s
  equal_spans r s h = let g = both (r.lo == s.lo) (r.hi == s.hi) h in let x = equal_numbers r.lo s.lo g.0 in let y = equal_numbers r.hi s.hi g.1 in λ i. record { lo = x i; hi = y i }

  chosen : (b : Bool) (x : Pair) (s : Range) (w : Range) → same_span x.content s ≡ b → AtHome x → (b ≡ false → w ≡ p s) → (if b then x.whole else w) ≡ p s
  chosen true x s w e h g = h ∙ ap p (equal_spans x.content s e)
  chosen false x s w e h g = g refl

  other_one : (a b : Bool) → (a || b) ≡ true → a ≡ false → b ≡ true
  other_one true b h e = absurd (cc)
  other_one false b h e = h

  recorded_home : (ps : List Pair) → Of AtHome ps → (s : Range) → list_any (λ x. same_span x.content s) ps ≡ true → recorded ps s ≡ p s
  recorded_home [] h s a = absurd (cc)
  recorded_home (x ∷ ps) h s a = chosen (same_span x.content s) x s (recorded ps s) refl h.0 (λ e. recorded_home ps h.1 s (other_one (same_span x.content s) (list_any (λ x. same_span x.content s) ps) a e))

  -- each pair is one of them
  abbrev Among : List Pair → Pair → Type 0
  Among ps y = list_any (λ x. same_span x.content y.content) ps ≡ true

  or_right : (a b : Bool) → b ≡ true → (a || b) ≡ true
  or_right true b h = refl
  or_right false b h = h

  among_more : (x : Pair) (ps ys : List Pair) → Of (Among ps) ys → Of (Among (x ∷ ps)) ys
  among_more x ps [] h = tt
  among_more x ps (y ∷ ys) h = (or_right (same_span x.content y.content) (list_any (λ x. same_span x.content y.content) ps) h.0, among_more x ps ys h.1)

  same_number : (a : ℕ) → (a == a) ≡ true
  same_number a = search rules

  or_left : (a b : Bool) → a ≡ true → (a || b) ≡ true
  or_left true b h = refl
  or_left false b h = absurd (cc)

  span_self : (r : Range) → same_span r r ≡ true
  span_self r = rw (same_number r.lo, same_number r.hi) refl

  each_among : (ps : List Pair) → Of (Among ps) ps
  each_among [] = tt
  each_among (x ∷ ps) = (or_left (same_span x.content x.content) (list_any (λ y. same_span y.content x.content) ps) (span_self x.content), among_more x ps ps (each_among ps))

  -- two places that have one span for a content
  abbrev Agrees : Places → Pair → Type 0
  Agrees q x = q x.content ≡ p x.content

  among_agree : (ps : List Pair) → Of AtHome ps → (ys : List Pair) → Of (Among ps) ys → Of (Agrees (recorded ps)) ys
  among_agree ps h [] g = tt
  among_agree ps h (y ∷ ys) g = (recorded_home ps h y.content g.0, among_agree ps h ys g.1)

  pub agree : (ps : List Pair) → Of AtHome ps → Of (Agrees (recorded ps)) ps
  agree ps h = among_agree ps h ps (each_among ps)

  -- places that agree on the contents of a tree's pairs have them alike, where no target stands in a pair
  module _ (q : Places) where
    abbrev Alike : Node → Type 0
    Alike t = (s : Slot) → Fits t s → Of (Agrees q) (pairs (placed p t)) → has_bare_targets (placed p t) ≡ true → placed q t ≡ placed p t

    all_alike : (ts : List Node) → Each Alike ts → Each Somewhere ts → Of (Agrees q) (flat_map pairs (map (placed p) ts)) → list_all has_bare_targets (map (placed p) ts) ≡ true → map (placed q) ts ≡ map (placed p) ts
    all_alike [] l f a h = refl
    all_alike (t ∷ ts) l f a h =
        let g = both (has_bare_targets (placed p t)) (list_all has_bare_targets (map (placed p) ts)) h in
        rw (l.0 f.0.0 f.0.1 (of_left (Agrees q) (pairs (placed p t)) (flat_map pairs (map (placed p) ts)) a) g.0, all_alike ts l.1 f.1 (of_right (Agrees q) (pairs (placed p t)) (flat_map pairs (map (placed p) ts)) a) g.1) refl

    plain_agree : (us : List Node) → Of (Agrees q) (flat_map all_of (map found us)) → Of (Agrees q) (flat_map pairs us)
    plain_agree us h = subst (Of (Agrees q)) (pairs_each us) h

    not_false : (b : Bool) → not b ≡ true → b ≡ false
    not_false true h = absurd (cc)
    not_false false h = refl

    target_agree : (t : Node) → has_kind is_paren t ≡ false → Of (Agrees q) (pairs_inside t) → Of (Agrees q) (pairs t)
    target_agree t n h = subst (λ xs. Of (Agrees q) (xs ++ pairs_inside t)) (sym (no_own t n)) h

    alike_row : (k : Kind) (ts : List Node) → FieldsFit (slots_of k) ts → Each Alike ts → Each Somewhere ts → Of (Agrees q) (pairs_in k (placed_fields p k (map (placed p) ts)))
        → bare_target_in (Node-F.Tree k (placed_fields p k (map (placed p) ts))) ≡ true → list_all has_bare_targets (placed_fields p k (map (placed p) ts)) ≡ true
        → placed_fields q k (map (placed q) ts) ≡ placed_fields p k (map (placed p) ts)
    alike_row kind.ParenExpr (s ∷ e ∷ []) f l g a b h = (
        let s' = placed p s in let e' = placed p e in let r = p (span_of e') in
        let x = both (has_bare_targets (put r s')) (has_bare_targets e' && true) h in let y = both (has_bare_targets e') true x.1 in
        let i : placed q e ≡ e' = l.1.0 g.1.0.0 g.1.0.1 (of_left (Agrees q) (pairs e') [] (of_right (Agrees q) (pairs (put r s')) (pairs e' ++ []) a.1)) y.0 in
        let z : placed q s ≡ s' = quiet_stays q s (slot.One content.Span) refl f.0 ∙ sym (quiet_stays p s (slot.One content.Span) refl f.0) in
        let c : q (span_of e') ≡ r = ap q (sym (found_span e')) ∙ a.0 ∙ ap p (found_span e') in
        ap (λ s. put (q (span_of (placed q e))) s ∷ placed q e ∷ []) z ∙ ap (λ e. put (q (span_of e)) s' ∷ e ∷ []) i ∙ ap (λ r. put r s' ∷ e' ∷ []) c)
    alike_row kind.AssignExpr (s ∷ o ∷ i ∷ r ∷ []) f l g a b h = (
        let i' = placed p i in let r' = placed p r in
        let x = both (has_bare_targets (placed p s)) (has_bare_targets (placed p o) && (has_bare_targets i' && (has_bare_targets r' && true))) h in
        let y = both (has_bare_targets (placed p o)) (has_bare_targets i' && (has_bare_targets r' && true)) x.1 in
        let z = both (has_bare_targets i') (has_bare_targets r' && true) y.1 in let w = both (has_bare_targets r') true z.1 in
        let n = not_false (has_kind is_paren i') b in
        let c : placed q s ≡ placed p s = quiet_stays q s (slot.One content.Span) refl f.0 ∙ sym (quiet_stays p s (slot.One content.Span) refl f.0) in
        let d : placed q o ≡ placed p o = quiet_stays q o _ refl f.1.0 ∙ sym (quiet_stays p o _ refl f.1.0) in
        let j : placed q i ≡ i' = l.1.1.0 g.1.1.0.0 g.1.1.0.1 (target_agree i' n (of_left (Agrees q) (pairs_inside i') (pairs r') a)) z.0 in
        let m : placed q r ≡ r' = l.1.1.1.0 g.1.1.1.0.0 g.1.1.1.0.1 (of_right (Agrees q) (pairs_inside i') (pairs r') a) w.0 in
        rw (c, d, j, m) refl)
    alike_row k ts f l g a b h = all_alike ts l g (plain_agree (map (placed p) ts) a) h

    pub alike : (t : Node) → Alike t
    alike t = by_children Alike (
      λ s f a h. placed_of_absent q ∙ sym (placed_of_absent p),
      λ x s f a h. placed_of_flag q x ∙ sym (placed_of_flag p x),
      λ w s f a h. placed_of_word q w ∙ sym (placed_of_word p w),
      λ x s f a h. placed_of_text q x ∙ sym (placed_of_text p x),
      λ r s f a h. placed_of_span q r ∙ sym (placed_of_span p r),
      λ k i s f a h. placed_of_name q k i ∙ sym (placed_of_name p k i),
    )
        (λ ts l s f a h. (
        let us = map (placed p) ts in
        placed_of_list q ts ∙ ap Many (all_alike ts l (items_fit s ts (sym (fits-List ts s) ∙ f)) (subst (Of (Agrees q)) (ap pairs (placed_of_list p ts) ∙ pairs_of_list us) a) (sym (ap has_bare_targets (placed_of_list p ts) ∙ every_list bare_target_in us) ∙ h)) ∙ sym (placed_of_list p ts)
        ))
        (λ k ts l s f a h. (
        let us = placed_fields p k (map (placed p) ts) in let w = stands k ts s f in
        let x = both (bare_target_in (Node-F.Tree k us)) (list_all has_bare_targets us) (sym (ap has_bare_targets (placed_of_tree p k ts) ∙ every_tree bare_target_in k us) ∙ h) in
        placed_of_tree q k ts ∙ ap (Tree k) (alike_row k ts w.fields l (fields_fit (slots_of k) ts w.fields) (subst (Of (Agrees q)) (ap pairs (placed_of_tree p k ts) ∙ pairs_of_tree k us) a) x.0 x.1) ∙ sym (placed_of_tree p k ts)
        )) t

-- the answer
pub spans_stay : (place : Places) (t : Node) (s : Slot) → IsTrue (is_open s) → Fits t s → IsTrue (all_bare t) → IsTrue (has_bare_targets (fixed place t)) → fixed (recorded (pairs (fixed place t))) (fixed place t) ≡ fixed place t
spans_stay p t s o f b h = (
    let x = with_blocks (stripped t) in let u = with_due_pairs p x in let q = recorded (pairs u) in
    let n : is_pairless x ≡ true = unparened_pairless t x s refl f in
    let e : u ≡ placed p u = due_placed p p x n in
    let g : Fits u s = due_fits p x s (unparened_fits t x s b refl o f) in
    let a : Of (Agrees p q) (pairs (placed p u)) = subst (λ v. Of (Agrees p (recorded (pairs v))) (pairs (placed p u))) (sym e) (agree p (pairs (placed p u)) (home p u s g)) in
    let c : placed q u ≡ placed p u = alike p q u s g a (ap has_bare_targets (sym e) ∙ h) in
    fixed_again p q t (fits_well t s f) ∙ due_placed p q x n ∙ c ∙ sym e)
