-- One step of an edit after another.
use Rattle.std.proofs.Common.{◌≡◌, ℕ, Bool, true, false, Option, List, [], ◌∷◌, ◌++◌, map, take, drop, length, refl, sym, ap, subst, ◌∙◌, append_assoc}
use Rattle.std.proofs.lemmas.List.{take-append-drop}
use Rattle.text_lexer.specs.declared.blank.Comments.{Comments}
use Rattle.text_pieces.specs.declared.item.Ending.{Ending}
use Rattle.text_pieces.specs.declared.item.Ending.TheVariants as ending
use Rattle.text_pieces.specs.Tokens.{Piece, piece_view}
use Rattle.text_follow.specs.Endings.{ending_behind}
use Rattle.text_follow.specs.Follows.{Takes, fresh_behind}
use Rattle.text_edit.specs.declared.align.Step.{Step}
use Rattle.text_edit.specs.declared.align.Step.TheVariants as step
use Rattle.text_edit.specs.declared.walk.Cursor.{Cursor}
use Rattle.text_edit.specs.Alike.{new_name}
use Rattle.text_edit.specs.Edits.{Allowed, EditedFrom, IsEditedBySteps, Stays, stands, still_changed}
use Rattle.text_edit.specs.Moves.{Advances, Extends, Leads}

extended : (made out : List ℕ) → Extends made out → out ≡ made ++ drop (length made) out
extended made out h = sym (take-append-drop (length made) out) ∙ ap (λ l. l ++ drop (length made) out) h

joined : (c : Comments) (bs cs : List Piece) (text made out new more : List ℕ) → out ≡ made ++ new → IsEditedBySteps c bs cs text (made ++ (new ++ more)) → IsEditedBySteps c bs cs text (out ++ more)
joined c bs cs text made out new more is h =
    subst (λ l. IsEditedBySteps c bs cs text l) (sym (ap (λ l. l ++ more) is ∙ append_assoc made new more)) h

pub both_advances : (c : Comments) (s t : Cursor) (made out : List ℕ) (p q : Piece) (ps qs : List Piece)
    → map piece_view s.olds.now ≡ p ∷ ps → map piece_view s.news.now ≡ q ∷ qs → map piece_view t.olds.now ≡ ps → map piece_view t.news.now ≡ qs
    → Allowed step.Both (map piece_view s.olds.now) (map piece_view s.news.now)
    → Takes c true s.place.fresh s.place.ending p s.place.rest.now t.place.rest.now
    → Extends made out
    → Stays s.place.changed (stands c s.place.fresh (new_name p q) s.place.rest.now t.place.rest.now) (drop (length made) out)
    → t.place.fresh ≡ fresh_behind s.place.fresh p → t.place.ending ≡ ending_behind s.place.ending p
    → t.place.changed ≡ still_changed s.place.changed s.place.rest.now t.place.rest.now
    → Advances c s made t out
unfolding Advances Leads
both_advances c s t made out p q ps qs old_is new_is olds_are news_are allowed takes extends stays fresh_is ending_is changed_is bs cs text before ss more h =
    let new : List ℕ = drop (length made) out in
    let there : Allowed step.Both (p ∷ ps) (q ∷ qs) = rw (old_is, new_is) at allowed in
    let behind = rw (fresh_is, ending_is, changed_is, olds_are, news_are) at h in
    let edited : EditedFrom c s.place.fresh s.place.ending s.place.changed (step.Both ∷ ss) (map piece_view s.olds.now) (map piece_view s.news.now) s.place.rest.now (new ++ more)
    = rw (old_is, new_is) (there, t.place.rest.now, new, more, takes, stays, refl, behind) in
    joined c bs cs text made out new more (extended made out extends) (before (step.Both ∷ ss) (new ++ more) edited)

pub insert_advances : (c : Comments) (s t : Cursor) (made out : List ℕ) (q : Piece) (qs : List Piece)
    → map piece_view s.news.now ≡ q ∷ qs → map piece_view t.olds.now ≡ map piece_view s.olds.now → map piece_view t.news.now ≡ qs
    → Allowed step.Insert (map piece_view s.olds.now) (map piece_view s.news.now)
    → t.place.rest.now ≡ s.place.rest.now → Extends made out
    → t.place.fresh ≡ s.place.fresh → t.place.ending ≡ s.place.ending → t.place.changed ≡ true
    → Advances c s made t out
unfolding Advances Leads
insert_advances c s t made out q qs new_is olds_are news_are allowed rest_is extends fresh_is ending_is changed_is bs cs text before ss more h =
    let new : List ℕ = drop (length made) out in
    let there : Allowed step.Insert (map piece_view s.olds.now) (q ∷ qs) = rw new_is at allowed in
    let behind = rw (fresh_is, ending_is, changed_is, olds_are, news_are, rest_is) at h in
    let edited : EditedFrom c s.place.fresh s.place.ending s.place.changed (step.Insert ∷ ss) (map piece_view s.olds.now) (map piece_view s.news.now) s.place.rest.now (new ++ more)
    = rw new_is (there, new, more, refl, behind) in
    joined c bs cs text made out new more (extended made out extends) (before (step.Insert ∷ ss) (new ++ more) edited)

pub remove_advances : (c : Comments) (s t : Cursor) (made out : List ℕ) (p : Piece) (ps : List Piece)
    → map piece_view s.olds.now ≡ p ∷ ps → map piece_view t.olds.now ≡ ps → map piece_view t.news.now ≡ map piece_view s.news.now
    → Allowed step.Remove (map piece_view s.olds.now) (map piece_view s.news.now)
    → Takes c true s.place.fresh s.place.ending p s.place.rest.now t.place.rest.now
    → Extends made out
    → t.place.fresh ≡ fresh_behind s.place.fresh p → t.place.ending ≡ ending_behind s.place.ending p → t.place.changed ≡ true
    → Advances c s made t out
unfolding Advances Leads
remove_advances c s t made out p ps old_is olds_are news_are allowed takes extends fresh_is ending_is changed_is bs cs text before ss more h =
    let new : List ℕ = drop (length made) out in
    let there : Allowed step.Remove (p ∷ ps) (map piece_view s.news.now) = rw old_is at allowed in
    let behind = rw (fresh_is, ending_is, changed_is, olds_are, news_are) at h in
    let edited : EditedFrom c s.place.fresh s.place.ending s.place.changed (step.Remove ∷ ss) (map piece_view s.olds.now) (map piece_view s.news.now) s.place.rest.now (new ++ more)
    = rw old_is (there, t.place.rest.now, new, more, takes, refl, behind) in
    joined c bs cs text made out new more (extended made out extends) (before (step.Remove ∷ ss) (new ++ more) edited)

-- the same of what the calls of a step tell
pub kept : (c : Comments) (s t : Cursor) (made out : List ℕ) (p q : Piece) (ps qs : List Piece) (rest : List ℕ) (name : Option (List ℕ)) (fresh : Bool) (e : Ending) (changed : Bool)
    → map piece_view s.olds.now ≡ p ∷ ps → map piece_view s.news.now ≡ q ∷ qs → map piece_view t.olds.now ≡ ps → map piece_view t.news.now ≡ qs
    → t.place.rest.now ≡ rest → t.place.fresh ≡ fresh → t.place.ending ≡ e → t.place.changed ≡ changed → name ≡ new_name p q
    → Allowed step.Both (map piece_view s.olds.now) (map piece_view s.news.now)
    → Takes c true s.place.fresh s.place.ending p s.place.rest.now rest
    → Extends made out
    → Stays s.place.changed (stands c s.place.fresh name s.place.rest.now rest) (drop (length made) out)
    → fresh ≡ fresh_behind s.place.fresh p → e ≡ ending_behind s.place.ending p → changed ≡ still_changed s.place.changed s.place.rest.now rest
    → Advances c s made t out
kept c s t made out p q ps qs rest name fresh e changed old_is new_is olds_are news_are rest_is fresh_is ending_is changed_is name_is allowed takes extends stays fresh_by ending_by changed_by =
    both_advances c s t made out p q ps qs old_is new_is olds_are news_are allowed
    (subst (λ r. Takes c true s.place.fresh s.place.ending p s.place.rest.now r) (sym rest_is) takes)
    extends
    (subst (λ r. Stays s.place.changed (stands c s.place.fresh (new_name p q) s.place.rest.now r) (drop (length made) out)) (sym rest_is)
    (subst (λ n. Stays s.place.changed (stands c s.place.fresh n s.place.rest.now rest) (drop (length made) out)) name_is stays))
    (fresh_is ∙ fresh_by) (ending_is ∙ ending_by)
    (changed_is ∙ changed_by ∙ ap (λ r. still_changed s.place.changed s.place.rest.now r) (sym rest_is))

pub removed : (c : Comments) (s t : Cursor) (made out : List ℕ) (p : Piece) (ps : List Piece) (rest : List ℕ) (fresh : Bool) (e : Ending) (changed : Bool)
    → map piece_view s.olds.now ≡ p ∷ ps → map piece_view t.olds.now ≡ ps → map piece_view t.news.now ≡ map piece_view s.news.now
    → t.place.rest.now ≡ rest → t.place.fresh ≡ fresh → t.place.ending ≡ e → t.place.changed ≡ changed
    → Allowed step.Remove (map piece_view s.olds.now) (map piece_view s.news.now)
    → Takes c true s.place.fresh s.place.ending p s.place.rest.now rest
    → Extends made out
    → fresh ≡ fresh_behind s.place.fresh p → e ≡ ending_behind s.place.ending p → changed ≡ true
    → Advances c s made t out
removed c s t made out p ps rest fresh e changed old_is olds_are news_are rest_is fresh_is ending_is changed_is allowed takes extends fresh_by ending_by changed_by =
    remove_advances c s t made out p ps old_is olds_are news_are allowed
    (subst (λ r. Takes c true s.place.fresh s.place.ending p s.place.rest.now r) (sym rest_is) takes)
    extends (fresh_is ∙ fresh_by) (ending_is ∙ ending_by) (changed_is ∙ changed_by)

-- an edit that begins leads to itself
pub start_leads : (c : Comments) (ps qs : List Piece) (text : List ℕ) (s : Cursor) (made : List ℕ) → made ≡ [] → map piece_view s.olds.now ≡ ps → map piece_view s.news.now ≡ qs
    → s.place.rest.now ≡ text → s.place.fresh ≡ true → s.place.ending ≡ ending.Closed → s.place.changed ≡ false → Leads c ps qs text s made
unfolding Leads
start_leads c ps qs text s made empty old_is new_is rest_is fresh_is ending_is changed_is ss more h =
    let edited = rw (fresh_is, ending_is, changed_is, old_is, new_is, rest_is) at h in
    subst (λ l. IsEditedBySteps c ps qs text (l ++ more)) (sym empty) (ss, edited)

pub led : (c : Comments) (ps qs : List Piece) (text : List ℕ) (s t : Cursor) (made out : List ℕ) → Advances c s made t out → Leads c ps qs text s made → Leads c ps qs text t out
unfolding Advances
led c ps qs text s t made out advances leads = advances ps qs text leads

pub stays_put : (c : Comments) (s : Cursor) (made : List ℕ) → Advances c s made s made
unfolding Advances
stays_put c s made ps qs text leads = leads

-- what is left behind the last piece stays
pub done_edited : (c : Comments) (ps qs : List Piece) (text out : List ℕ) (s : Cursor) (made : List ℕ) → Leads c ps qs text s made → map piece_view s.olds.now ≡ [] → map piece_view s.news.now ≡ []
    → out ≡ made ++ s.place.rest.now → IsEditedBySteps c ps qs text out
unfolding Leads
done_edited c ps qs text out s made leads old_is new_is is =
    let last : EditedFrom c s.place.fresh s.place.ending s.place.changed [] (map piece_view s.olds.now) (map piece_view s.news.now) s.place.rest.now s.place.rest.now
    = rw (old_is, new_is) refl in
    subst (λ l. IsEditedBySteps c ps qs text l) (sym is) (leads [] s.place.rest.now last)
