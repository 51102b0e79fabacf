-- What a record says before it has all pairs.
use Rattle.std.proofs.Common.{◌≡◌, Bool, true, false, ◌||◌, List, [], ◌∷◌, ◌++◌, length, reverse, Option, Some, None, is_some, cond, refl, sym, ap, ◌∙◌, rules, arith}
use Rattle.std.specs.Prelude.{if◌then◌else◌}
use Rattle.std.specs.List.{list_any}
use Rattle.std.proofs.lemmas.List.{reverse-append}
use Rattle.std.specs.Map.{lookup}
use Rattle.indexmap.specs.IndexMap.{get}
use Rattle.swc_tree_marks.specs.declared.span.Span.{Span as Range}
use Rattle.swc_tree_grammar.specs.declared.pairs.Pair.{Pair}
use Rattle.swc_tree_grammar.specs.Fixed.{recorded, same_span}
use Rattle.swc_base_fixer_due.specs.Record.{same, content_at, place_or, Noted, Notes, Records}

-- the map has the pairs behind those that are left, which come first in the list
pub record Left (pairs left : List Pair) (m : Noted) : Type 0 where
  pub places : (s : Range) → place_or (recorded (reverse left) s) (get same m (content_at s)) ≡ recorded (reverse pairs) s
  pub contents : (s : Range) → (is_some (get same m (content_at s)) || list_any (λ p. same_span s p.content) (reverse left)) ≡ list_any (λ p. same_span s p.content) (reverse pairs)

one_span : (a b : Range) → same_span a b ≡ true → a ≡ b
one_span a b h = search rules

either_way : (a b : Range) → same_span a b ≡ same_span b a
either_way a b = search rules

place_noted : (b : Bool) (k m : Option Range) (w r : Range) → (b ≡ true → k ≡ m) → place_or r (cond b (Some (place_or w k)) m) ≡ place_or (if b then w else r) m
place_noted true k None w r e = ap (place_or w) (e refl)
place_noted true k (Some v) w r e = ap (place_or w) (e refl)
place_noted false k m w r e = refl

content_noted : (b : Bool) (v : Range) (m : Option Range) (x : Bool) → (is_some (cond b (Some v) m) || x) ≡ (is_some m || (b || x))
content_noted true v None x = refl
content_noted true v (Some w) x = refl
content_noted false v m x = refl

module _ (pairs before left : List Pair) (p : Pair) (m n : Noted) (split : before ≡ left ++ p ∷ []) (noted : Notes m p n) (was : Left pairs before m) where
  last_first : reverse before ≡ p ∷ reverse left
  last_first = ap reverse split ∙ reverse-append left (p ∷ [])

  places : (s : Range) → place_or (recorded (reverse left) s) (get same n (content_at s)) ≡ recorded (reverse pairs) s
  places s =
      ap (place_or (recorded (reverse left) s)) (noted (content_at s))
      ∙ place_noted (same_span p.content s) (get same m (content_at p.content)) (get same m (content_at s)) p.whole (recorded (reverse left) s) (λ h. ap (λ r. get same m (content_at r)) (one_span p.content s h))
      ∙ ap (λ ps. place_or (recorded ps s) (get same m (content_at s))) (sym last_first) ∙ was.places s

  contents : (s : Range) → (is_some (get same n (content_at s)) || list_any (λ p. same_span s p.content) (reverse left)) ≡ list_any (λ p. same_span s p.content) (reverse pairs)
  contents s =
      let rest = list_any (λ p. same_span s p.content) (reverse left) in
      ap (λ o. is_some o || rest) (noted (content_at s))
      ∙ content_noted (same_span p.content s) (place_or p.whole (get same m (content_at p.content))) (get same m (content_at s)) rest
      ∙ ap (λ b. is_some (get same m (content_at s)) || (b || rest)) (either_way p.content s)
      ∙ ap (λ ps. is_some (get same m (content_at s)) || list_any (λ p. same_span s p.content) ps) (sym last_first) ∙ was.contents s

  pub one_noted : Left pairs left n
  one_noted = record { places = places; contents = contents }

pub none_noted : (pairs left : List Pair) (m : Noted) → left ≡ pairs → m.entries ≡ [] → Left pairs left m
none_noted pairs left m l e = record {
  places = λ s. ap (λ es. place_or (recorded (reverse left) s) (lookup (same (content_at s)) es)) e ∙ ap (λ ps. recorded (reverse ps) s) l;
  contents = λ s. ap (λ es. is_some (lookup (same (content_at s)) es) || list_any (λ p. same_span s p.content) (reverse left)) e ∙ ap (λ ps. list_any (λ p. same_span s p.content) (reverse ps)) l;
}

or_nothing : (b : Bool) → b ≡ (b || false)
or_nothing true = refl
or_nothing false = refl

pub all_noted : (pairs left : List Pair) (m : Noted) → length left ≡ 0 → Left pairs left m → Records pairs (record { places = m })
all_noted pairs [] m h was = record { places = was.places; contents = λ s. or_nothing (is_some (get same m (content_at s))) ∙ was.contents s }
all_noted pairs (p ∷ left) m h was = absurd (omega arith)
