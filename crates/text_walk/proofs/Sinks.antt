-- What has been taken by some, and then by others.
use Rattle.std.proofs.Common.{◌≡◌, ℕ, Bool, List, [], ◌++◌, Global, Vec, Result, Ok, Err, OnOk, map, refl, sym, ap, subst, ◌∙◌, append_assoc, append-nil}
use Rattle.text_follow.specs.declared.stand.Reader.{Reader}
use Rattle.text_follow.specs.Readers.{IsFront, IsOver, ReadsOn}
use Rattle.text_follow.specs.Stands.{Stands}
use Rattle.text_follow.proofs.Readers.{read_whole, reads_on_nowhere, reads_on_twice}
use Rattle.text_lexer.specs.declared.blank.Comments.{Comments}
use Rattle.text_pieces.specs.declared.piece.Piece as code
use Rattle.text_pieces.specs.Tokens.{Piece, piece_view}
use Rattle.text_walk.specs.declared.sink.Refusal.{Refusal}
use Rattle.text_walk.specs.declared.sink.Sink.{Sink}
use Rattle.text_walk.specs.declared.sink.Sink.TheVariants as sink
use Rattle.text_walk.specs.Sinks.{Gains, IsReadOut}

pub stays : (s : Sink) → Gains s [] s
stays s = record {
  list = λ had is. (had, is, sym (append-nil (map piece_view had.items)));
  text = λ at is. (at, is, reads_on_nowhere at);
}

pub goes_on : (s t u : Sink) (ps qs : List Piece) → Gains s ps t → Gains t qs u → Gains s (ps ++ qs) u
goes_on s t u ps qs one other = record {
  list = λ had is.
      let first = one.list had is in
      let last = other.list first.0 first.1 in
      (last.0, last.1, last.2 ∙ ap (λ l. l ++ qs) first.2 ∙ append_assoc (map piece_view had.items) ps qs);
  text = λ at is.
      let first = one.text at is in
      let last = other.text first.0 first.1 in
      (last.0, last.1, reads_on_twice at first.0 last.0 ps qs first.2 last.2);
}

pub three : (s t u v : Sink) (ps qs rs : List Piece) → Gains s ps t → Gains t qs u → Gains u rs v → Gains s (ps ++ qs ++ rs) v
three s t u v ps qs rs one two last = goes_on s u v (ps ++ qs) rs (goes_on s t u ps qs one two) last

one_text : (a b : Reader) → sink.Text a ≡ sink.Text b → a ≡ b
one_text a b h = cc

-- a text that is read out from its front by these pieces has them
pub held : (c : Comments) (soft : Bool) (text : List ℕ) (at : Reader) (old new : Sink) (ps : List Piece) → old ≡ sink.Text at → IsFront c soft text at → Gains old ps new → IsReadOut new → Stands c soft ps text
held c soft text at old new ps is front gained out =
    let read = gained.text at is in
    let same : read.0 ≡ out.0 = one_text read.0 out.0 (sym read.1 ∙ out.1) in
    read_whole c soft text at read.0 ps front read.2 (subst IsOver (sym same) out.2)

one_list : (a b : Vec code.Piece Global) → sink.List a ≡ sink.List b → a ≡ b
one_list a b h = cc

-- the list that is kept has them
pub listed : (old new : Sink) (had has : Vec code.Piece Global) (ps : List Piece) → old ≡ sink.List had → map piece_view had.items ≡ [] → new ≡ sink.List has → Gains old ps new → map piece_view has.items ≡ ps
listed old new had has ps is none now gained =
    let kept = gained.list had is in
    ap (λ v. map piece_view v.items) (one_list has kept.0 (sym now ∙ kept.1)) ∙ kept.2 ∙ ap (λ l. l ++ ps) none

no_text : (a : Vec code.Piece Global) (b : Reader) → sink.List a ≡ sink.Text b → ⊥
no_text a b h = cc

-- a list that has more has gained that
pub kept_more : (old : Sink) (list more : Vec code.Piece Global) (ps : List Piece) → old ≡ sink.List list → map piece_view more.items ≡ map piece_view list.items ++ ps → Gains old ps (sink.List more)
kept_more old list more ps is gained = record {
  list = λ had h. (more, refl, gained ∙ ap (λ v. map piece_view v.items ++ ps) (one_list list had (sym is ∙ h)));
  text = λ at h. absurd (no_text list at (sym is ∙ h));
}

-- the text that is read on past more has gained that
pub read_more : (old : Sink) (at behind : Reader) (ps : List Piece) → old ≡ sink.Text at → ReadsOn at ps behind → Gains old ps (sink.Text behind)
read_more old at behind ps is read = record {
  list = λ had h. absurd (no_text had at (sym h ∙ is));
  text = λ other h. (behind, refl, subst (λ r. ReadsOn r ps behind) (one_text at other (sym is ∙ h)) read);
}

-- what follows where a call went well
pub then : {P Q : Type 0} (r : Result (Unit {0}) Refusal) → (P → Q) → OnOk r P → OnOk r Q
then (Ok x) f h = f h
then (Err e) f h = h
