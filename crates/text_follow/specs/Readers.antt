-- How a text is read on, past one piece after another.
use Rattle.std.specs.Prelude.{◌≡◌, ℕ, Bool, true, List, [], ◌++◌, Some, length, IfSome}
use Rattle.text_follow.specs.declared.stand.Place.{Place}
use Rattle.text_follow.specs.declared.stand.Reader.{Reader}
use Rattle.text_follow.specs.Stands.{StandsFrom}
use Rattle.text_lexer.specs.Blanks.{blank}
use Rattle.text_lexer.specs.declared.blank.Comments.{Comments}
use Rattle.text_pieces.specs.declared.item.Ending.TheVariants as ending
use Rattle.text_pieces.specs.Tokens.{Piece}

-- this is left behind the blanks that a text begins with
abbrev pub IsNext : Comments → Bool → List ℕ → List ℕ → Type 0
IsNext c fresh text next = (ended : Bool) × (blank c fresh text ≡ Some (ended, next))

-- what is known of what is left behind the blanks is so
abbrev pub IsKnown : Comments → Place → Type 0
IsKnown c p = IfSome p.next (λ next. IsNext c p.fresh p.rest.now next.now)

-- what stands from the other place on stands from this one on behind these pieces
abbrev pub Leads : ℕ → Comments → Bool → Place → List Piece → Place → Type 0
Leads n c soft p ps q = (qs : List Piece) → StandsFrom n c soft q.fresh q.ending qs q.rest.now → StandsFrom n c soft p.fresh p.ending (ps ++ qs) p.rest.now

-- nothing of the text is read
pub record IsFront (c : Comments) (may : Bool) (text : List ℕ) (r : Reader) : Type 0 where
  pub whole : r.whole ≡ length text
  pub comments : r.comments ≡ c
  pub soft : r.soft ≡ may
  pub rest : r.place.rest.now ≡ text
  pub fresh : r.place.fresh ≡ true
  pub ending : r.place.ending ≡ ending.Closed
  pub known : IsKnown c r.place

-- it is read on, past these pieces
pub record ReadsOn (old : Reader) (ps : List Piece) (new : Reader) : Type 0 where
  pub whole : new.whole ≡ old.whole
  pub comments : new.comments ≡ old.comments
  pub soft : new.soft ≡ old.soft
  pub known : IsKnown old.comments old.place → IsKnown old.comments new.place
  pub leads : IsKnown old.comments old.place → Leads old.whole old.comments old.soft old.place ps new.place

-- no token is left
abbrev pub IsOver : Reader → Type 0
IsOver r = StandsFrom r.whole r.comments r.soft r.place.fresh r.place.ending [] r.place.rest.now
