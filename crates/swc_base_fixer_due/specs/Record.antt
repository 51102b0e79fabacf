-- Where the pair round a content is set.
use Rattle.std.specs.Prelude.{◌≡◌, Bool, cond, List, reverse, Option, Some, None, is_some}
use Rattle.std.specs.List.{list_any}
use Rattle.indexmap.specs.IndexMap.{IndexMap, get}
use Rattle.swc_tree_marks.specs.declared.span.Span.{Span as Range}
use Rattle.swc_tree_grammar.specs.declared.pairs.Pair.{Pair}
use Rattle.swc_base_fixer_due.specs.declared.keyed.Content.{Content}
use Rattle.swc_base_fixer_due.specs.declared.keyed.Keyed.{Keyed}
use Rattle.swc_base_fixer_due.specs.declared.record.Record.{Record}
use Rattle.swc_tree_grammar.specs.Fixed.{recorded, same_span}

-- two contents of one span
abbrev pub same : Content → Content → Bool
same c d = same_span c.span d.span

abbrev pub content_at : Range → Content
content_at s = record { span = s }

abbrev pub place_or : Range → Option Range → Range
place_or s (Some place) = place
place_or s None = s

abbrev pub Noted : Type 0
Noted = IndexMap Content Range Keyed

-- n has what m has, and the place of the pair where m has none for its content
abbrev pub Notes : Noted → Pair → Noted → Type 0
Notes m p n = (q : Content) → get same n q ≡ cond (same (content_at p.content) q) (Some (place_or p.whole (get same m (content_at p.content)))) (get same m q)

-- where the pair round a content is set: where the record has it, or where the content stands
abbrev pub place_in : Record → Range → Range
place_in r s = place_or s (get same r.places (content_at s))

-- a pair stood round the content
abbrev pub has_in : Record → Range → Bool
has_in r s = is_some (get same r.places (content_at s))

-- the record has the pairs, the last of the program first
pub record Records (pairs : List Pair) (r : Record) : Type 0 where
  pub places : (s : Range) → place_in r s ≡ recorded (reverse pairs) s
  pub contents : (s : Range) → has_in r s ≡ list_any (λ p. same_span s p.content) (reverse pairs)
