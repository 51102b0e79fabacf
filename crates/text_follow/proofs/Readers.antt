-- What is read past some pieces, and then past others.
use Rattle.std.proofs.Common.{◌≡◌, ℕ, Bool, true, List, [], ◌++◌, length, refl, sym, subst, ◌∙◌, append_assoc, append-nil}
use Rattle.text_follow.specs.declared.stand.Place.{Place}
use Rattle.text_follow.specs.declared.stand.Reader.{Reader}
use Rattle.text_follow.specs.Readers.{IsFront, IsKnown, IsOver, Leads, ReadsOn}
use Rattle.text_follow.specs.Stands.{Stands, StandsFrom}
use Rattle.text_lexer.specs.declared.blank.Comments.{Comments}
use Rattle.text_pieces.specs.declared.item.Ending.{Ending}
use Rattle.text_pieces.specs.declared.item.Ending.TheVariants as ending
use Rattle.text_pieces.specs.Tokens.{Piece}

pub reads_on_nowhere : (s : Reader) → ReadsOn s [] s
reads_on_nowhere s = record { whole = refl; comments = refl; soft = refl; known = λ k. k; leads = λ k qs h. h }

leads_twice : (n : ℕ) (c : Comments) (soft : Bool) (p q r : Place) (ps qs : List Piece) → Leads n c soft p ps q → Leads n c soft q qs r → Leads n c soft p (ps ++ qs) r
leads_twice n c soft p q r ps qs one other rs h =
    subst (λ l. StandsFrom n c soft p.fresh p.ending l p.rest.now) (sym (append_assoc ps qs rs)) (one (qs ++ rs) (other rs h))

-- the same with the numbers of another reader
known_by : (c d : Comments) (p : Place) → c ≡ d → IsKnown c p → IsKnown d p
known_by c d p alike k = subst (λ d. IsKnown d p) alike k

leads_by : (n m : ℕ) (c d : Comments) (soft hard : Bool) (p : Place) (ps : List Piece) (q : Place) → n ≡ m → c ≡ d → soft ≡ hard → Leads n c soft p ps q → Leads m d hard p ps q
leads_by n m c d soft hard p ps q same alike both h =
    subst (λ b. Leads m d b p ps q) both (subst (λ d. Leads m d soft p ps q) alike (subst (λ m. Leads m c soft p ps q) same h))

pub reads_on_twice : (s t u : Reader) (ps qs : List Piece) → ReadsOn s ps t → ReadsOn t qs u → ReadsOn s (ps ++ qs) u
reads_on_twice s t u ps qs one other = record {
  whole = other.whole ∙ one.whole;
  comments = other.comments ∙ one.comments;
  soft = other.soft ∙ one.soft;
  known = λ k. known_by t.comments s.comments u.place one.comments (other.known (known_by s.comments t.comments t.place (sym one.comments) (one.known k)));
  leads = λ k. leads_twice s.whole s.comments s.soft s.place t.place u.place ps qs (one.leads k)
      (leads_by t.whole s.whole t.comments s.comments t.soft s.soft t.place qs u.place one.whole one.comments one.soft (other.leads (known_by s.comments t.comments t.place (sym one.comments) (one.known k))));
}

end_by : (n m : ℕ) (c d : Comments) (soft hard fresh : Bool) (e : Ending) (text : List ℕ) → n ≡ m → c ≡ d → soft ≡ hard → StandsFrom n c soft fresh e [] text → StandsFrom m d hard fresh e [] text
end_by n m c d soft hard fresh e text same alike both h =
    subst (λ b. StandsFrom m d b fresh e [] text) both (subst (λ d. StandsFrom m d soft fresh e [] text) alike (subst (λ m. StandsFrom m c soft fresh e [] text) same h))

stands_from : (old new : Reader) (ps : List Piece) → ReadsOn old ps new → IsKnown old.comments old.place → IsOver new
    → StandsFrom old.whole old.comments old.soft old.place.fresh old.place.ending ps old.place.rest.now
stands_from old new ps read known end =
    subst (λ l. StandsFrom old.whole old.comments old.soft old.place.fresh old.place.ending l old.place.rest.now) (append-nil ps)
    (read.leads known [] (end_by new.whole old.whole new.comments old.comments new.soft old.soft new.place.fresh new.place.ending new.place.rest.now read.whole read.comments read.soft end))

-- a text that is read from its front past these pieces, with no token left, has them, and their frames say what is so
pub read_whole : (c : Comments) (soft : Bool) (text : List ℕ) (old new : Reader) (ps : List Piece) → IsFront c soft text old → ReadsOn old ps new → IsOver new → Stands c soft ps text
read_whole c soft text old new ps front read end =
    let known : IsKnown old.comments old.place = known_by c old.comments old.place (sym front.comments) front.known in
    let stood : StandsFrom old.whole old.comments old.soft old.place.fresh old.place.ending ps old.place.rest.now = stands_from old new ps read known end in
    let at : StandsFrom old.whole old.comments old.soft old.place.fresh old.place.ending ps text = subst (λ l. StandsFrom old.whole old.comments old.soft old.place.fresh old.place.ending ps l) front.rest stood in
    let closed : StandsFrom old.whole old.comments old.soft old.place.fresh ending.Closed ps text = subst (λ e. StandsFrom old.whole old.comments old.soft old.place.fresh e ps text) front.ending at in
    let begun : StandsFrom old.whole old.comments old.soft true ending.Closed ps text = subst (λ f. StandsFrom old.whole old.comments old.soft f ending.Closed ps text) front.fresh closed in
    subst (λ n. StandsFrom n c soft true ending.Closed ps text) front.whole
    (subst (λ d. StandsFrom old.whole d soft true ending.Closed ps text) front.comments
    (subst (λ b. StandsFrom old.whole old.comments b true ending.Closed ps text) front.soft begun))
