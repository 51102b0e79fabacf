-- One piece more, where frames are looked at.
use Rattle.std.proofs.Common.{◌≡◌, ◌∷◌, ℕ, Bool, true, List, [], length, subst}
use Rattle.text_follow.specs.Endings.{ending_behind}
use Rattle.text_follow.specs.Follows.{Follows, FollowsFrom, Takes, fresh_behind}
use Rattle.text_follow.specs.Readers.{Leads}
use Rattle.text_follow.specs.Stands.{IsSo, Stands, StandsFrom}
use Rattle.text_follow.specs.declared.stand.Place.{Place}
use Rattle.text_lexer.specs.declared.blank.Comments.{Comments}
use Rattle.text_pieces.specs.declared.item.Ending.{Ending}
use Rattle.text_pieces.specs.declared.item.Ending.TheVariants as ending
use Rattle.text_pieces.specs.Frames.{without_frames}
use Rattle.text_pieces.specs.Tokens.{Piece, attribute, big_integer, closes, ends, frame, gap, hashbang, here, may_braces, may_comma, may_from, name, never, number, parameter, private_name, punctuator, quoted, regex, template, word}

pub leads_past : (n : ℕ) (c : Comments) (soft : Bool) (p q : Place) (x : Piece) → IsSo n c p.fresh x p.rest.now → Takes c soft p.fresh p.ending x p.rest.now q.rest.now
    → q.fresh ≡ fresh_behind p.fresh x → q.ending ≡ ending_behind p.ending x → Leads n c soft p (x ∷ []) q
leads_past n c soft p q x so takes fresh_is e_is qs after =
    let later : StandsFrom n c soft (fresh_behind p.fresh x) (ending_behind p.ending x) qs q.rest.now =
    subst (λ f. StandsFrom n c soft f (ending_behind p.ending x) qs q.rest.now) fresh_is
    (subst (λ g. StandsFrom n c soft q.fresh g qs q.rest.now) e_is after) in
    (so, q.rest.now, takes, later)

-- the tokens between frames are those that a text follows
tokens_from : (n : ℕ) (c : Comments) (soft fresh : Bool) (e : Ending) (ps : List Piece) (text : List ℕ) → StandsFrom n c soft fresh e ps text → FollowsFrom c soft fresh e (without_frames ps) text
tokens_from n c soft fresh e [] text h = h
tokens_from n c soft fresh e (frame f ∷ ps) text h = subst (FollowsFrom c soft fresh e (without_frames ps)) h.2 (tokens_from n c soft fresh e ps h.1 h.3)
tokens_from n c soft fresh e (word a ∷ ps) text h = (h.1, h.2, tokens_from n c soft (fresh_behind fresh (word a)) (ending_behind e (word a)) ps h.1 h.3)
tokens_from n c soft fresh e (name a ∷ ps) text h = (h.1, h.2, tokens_from n c soft (fresh_behind fresh (name a)) (ending_behind e (name a)) ps h.1 h.3)
tokens_from n c soft fresh e (private_name a ∷ ps) text h = (h.1, h.2, tokens_from n c soft (fresh_behind fresh (private_name a)) (ending_behind e (private_name a)) ps h.1 h.3)
tokens_from n c soft fresh e (punctuator m ∷ ps) text h = (h.1, h.2, tokens_from n c soft (fresh_behind fresh (punctuator m)) (ending_behind e (punctuator m)) ps h.1 h.3)
tokens_from n c soft fresh e (number a ∷ ps) text h = (h.1, h.2, tokens_from n c soft (fresh_behind fresh (number a)) (ending_behind e (number a)) ps h.1 h.3)
tokens_from n c soft fresh e (big_integer a ∷ ps) text h = (h.1, h.2, tokens_from n c soft (fresh_behind fresh (big_integer a)) (ending_behind e (big_integer a)) ps h.1 h.3)
tokens_from n c soft fresh e (quoted a raw ∷ ps) text h = (h.1, h.2, tokens_from n c soft (fresh_behind fresh (quoted a raw)) (ending_behind e (quoted a raw)) ps h.1 h.3)
tokens_from n c soft fresh e (template p a raw ∷ ps) text h = (h.1, h.2, tokens_from n c soft (fresh_behind fresh (template p a raw)) (ending_behind e (template p a raw)) ps h.1 h.3)
tokens_from n c soft fresh e (regex a flags ∷ ps) text h = (h.1, h.2, tokens_from n c soft (fresh_behind fresh (regex a flags)) (ending_behind e (regex a flags)) ps h.1 h.3)
tokens_from n c soft fresh e (hashbang a ∷ ps) text h = (h.1, h.2, tokens_from n c soft (fresh_behind fresh (hashbang a)) (ending_behind e (hashbang a)) ps h.1 h.3)
tokens_from n c soft fresh e (attribute key value ∷ ps) text h = (h.1, h.2, tokens_from n c soft (fresh_behind fresh (attribute key value)) (ending_behind e (attribute key value)) ps h.1 h.3)
tokens_from n c soft fresh e (may_comma ∷ ps) text h = (h.1, h.2, tokens_from n c soft (fresh_behind fresh may_comma) (ending_behind e may_comma) ps h.1 h.3)
tokens_from n c soft fresh e (may_from ∷ ps) text h = (h.1, h.2, tokens_from n c soft (fresh_behind fresh may_from) (ending_behind e may_from) ps h.1 h.3)
tokens_from n c soft fresh e (may_braces ∷ ps) text h = (h.1, h.2, tokens_from n c soft (fresh_behind fresh may_braces) (ending_behind e may_braces) ps h.1 h.3)
tokens_from n c soft fresh e (parameter a ∷ ps) text h = (h.1, h.2, tokens_from n c soft (fresh_behind fresh (parameter a)) (ending_behind e (parameter a)) ps h.1 h.3)
tokens_from n c soft fresh e (here ∷ ps) text h = (h.1, h.2, tokens_from n c soft (fresh_behind fresh here) (ending_behind e here) ps h.1 h.3)
tokens_from n c soft fresh e (closes f ∷ ps) text h = (h.1, h.2, tokens_from n c soft (fresh_behind fresh (closes f)) (ending_behind e (closes f)) ps h.1 h.3)
tokens_from n c soft fresh e (ends ∷ ps) text h = (h.1, h.2, tokens_from n c soft (fresh_behind fresh ends) (ending_behind e ends) ps h.1 h.3)
tokens_from n c soft fresh e (gap g ∷ ps) text h = (h.1, h.2, tokens_from n c soft (fresh_behind fresh (gap g)) (ending_behind e (gap g)) ps h.1 h.3)
tokens_from n c soft fresh e (never ∷ ps) text h = (h.1, h.2, tokens_from n c soft (fresh_behind fresh never) (ending_behind e never) ps h.1 h.3)

pub tokens_follow : (c : Comments) (soft : Bool) (ps : List Piece) (text : List ℕ) → Stands c soft ps text → Follows c soft (without_frames ps) text
tokens_follow c soft ps text h = tokens_from (length text) c soft true ending.Closed ps text h
