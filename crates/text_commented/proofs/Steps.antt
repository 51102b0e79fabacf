-- One more of a list.
use Rattle.std.proofs.Common.{◌≡◌, ℕ, ◌+◌, ◌<◌, ◌≤◌, Bool, true, false, List, [], ◌∷◌, ◌++◌, length, map, drop, get_or, refl, sym, ap, subst, ◌∙◌, arith}
use Rattle.std.proofs.lemmas.List.{append_assoc, drop_more, drop_all, map-append}
use Rattle.std.specs.Prelude.{if◌then◌else◌}
use Rattle.text_comments.specs.declared.comment.Comment.{Comment}
use Rattle.text_pieces.specs.Tokens.{Piece}
use Rattle.text_commented.specs.Chosen.{AreChosen, IsChosen}
use Rattle.text_commented.specs.Commented.{not_put, written}
use Rattle.text_commented.specs.declared.left.Left.{Left}
use Rattle.text_commented.specs.Places.{all_places, tight_places}
use Rattle.text_commented.specs.declared.remark.Remark.{Remark}

pub not_put_more : (us : List Bool) (i : ℕ) (d : Bool) → i < length us
    → not_put i (drop i us) ≡ (if get_or us i d then not_put (i + 1) (drop (i + 1) us) else i ∷ not_put (i + 1) (drop (i + 1) us))
not_put_more us i d within = rw (drop_more us i d within) refl

pub not_put_end : (us : List Bool) (i : ℕ) → length us ≤ i → not_put i (drop i us) ≡ []
not_put_end us i none = rw (drop_all i us none) refl

pub put_more : (us : List Bool) (i : ℕ) (d : Bool) → i < length us → get_or us i d ≡ true → not_put i (drop i us) ≡ not_put (i + 1) (drop (i + 1) us)
put_more us i d within is =
    not_put_more us i d within ∙ ap (λ b. if b then not_put (i + 1) (drop (i + 1) us) else i ∷ not_put (i + 1) (drop (i + 1) us)) is

-- one that was not put more
pub number_more : (numbers now : List ℕ) (us : List Bool) (i : ℕ) (d : Bool) → i < length us → get_or us i d ≡ false → now ≡ numbers ++ i ∷ []
    → now ++ not_put (i + 1) (drop (i + 1) us) ≡ numbers ++ not_put i (drop i us)
number_more numbers now us i d within is added =
    let rest = not_put (i + 1) (drop (i + 1) us) in
    ap (λ l. l ++ rest) added ∙ append_assoc numbers (i ∷ []) rest
    ∙ ap (λ l. numbers ++ l) (sym (not_put_more us i d within ∙ ap (λ b. if b then rest else i ∷ rest) is))

pub none_left : (ns : List ℕ) → length ns ≡ 0 → [] ≡ ns
none_left [] none = refl
none_left (n ∷ ns) none = absurd (omega arith)

-- one that is left more
pub left_more : (ls now : List Left) (l : Left) (ns : List ℕ) (i d : ℕ) → i < length ns → l.number ≡ get_or ns i d → now ≡ ls ++ l ∷ []
    → map (λ x. x.number) now ++ drop (i + 1) ns ≡ map (λ x. x.number) ls ++ drop i ns
left_more ls now l ns i d within is added =
    ap (λ m. map (λ x. x.number) m ++ drop (i + 1) ns) added
    ∙ ap (λ m. m ++ drop (i + 1) ns) (map-append (λ x. x.number) ls (l ∷ [])) ∙ append_assoc (map (λ x. x.number) ls) (l.number ∷ []) (drop (i + 1) ns)
    ∙ ap (λ n. map (λ x. x.number) ls ++ n ∷ drop (i + 1) ns) is ∙ ap (λ m. map (λ x. x.number) ls ++ m) (sym (drop_more ns i d within))

-- one comment more that is chosen a place
pub chosen_more : (text : List ℕ) (ps : List Piece) (ks : List Comment) (i : ℕ) (d : Comment) (r : Remark) (more : List Remark) → i < length ks → r.text.now ≡ written text (get_or ks i d)
    → IsChosen text (all_places ps) (tight_places ps) (get_or ks i d) r.at → AreChosen text ps (drop (i + 1) ks) more → AreChosen text ps (drop i ks) (r ∷ more)
chosen_more text ps ks i d r more within is chosen after = subst (λ l. AreChosen text ps l (r ∷ more)) (sym (drop_more ks i d within)) (is, chosen, after)

pub chosen_end : (text : List ℕ) (ps : List Piece) (ks : List Comment) (i : ℕ) → length ks ≤ i → AreChosen text ps (drop i ks) []
chosen_end text ps ks i none = subst (λ l. AreChosen text ps l []) (sym (drop_all i ks none)) tt

pub remark_more : (text : List ℕ) (ps : List Piece) (ks : List Comment) (i : ℕ) (d : Comment) (made now : List Remark) (r : Remark) (more : List Remark) → i < length ks → now ≡ made ++ r ∷ []
    → r.text.now ≡ written text (get_or ks i d) → IsChosen text (all_places ps) (tight_places ps) (get_or ks i d) r.at → ((m : List Remark) → AreChosen text ps (drop i ks) m → AreChosen text ps ks (made ++ m))
    → AreChosen text ps (drop (i + 1) ks) more → AreChosen text ps ks (now ++ more)
remark_more text ps ks i d made now r more within added is chosen step after =
    subst (λ x. AreChosen text ps ks x) (sym (ap (λ l. l ++ more) added ∙ append_assoc made (r ∷ []) more)) (step (r ∷ more) (chosen_more text ps ks i d r more within is chosen after))
