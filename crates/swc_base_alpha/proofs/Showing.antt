-- Where a word shows in two normal forms.
use Rattle.std.proofs.Common.{◌≡◌, ◌||◌, false, inl, inr, Result, Ok, Err, Option, Some, None, List, [], ◌∷◌, map, length, sym, ◌∙◌, subst}
use Rattle.std.specs.Option.{IfSome}
use Rattle.std.specs.Result.{IfOk}
use Rattle.swc_tree_marks.specs.declared.error.PassError.{PassError}
use Rattle.swc_tree_marks.specs.declared.span.Span.{Span}
use Rattle.swc_tree_node.specs.declared.node.Node.{Node}
use Rattle.swc_tree_scoping.specs.Places.{program_place}
use Rattle.swc_tree_spaces.specs.Spaces.{has_types}
use Rattle.swc_tree_spaces_laws.specs.Laws.{TypesAreTold}
use Rattle.swc_tree_walk.specs.Sites.{site_of, sites}
use Rattle.swc_tree_walk.specs.declared.identifiers.Site.{Site}
use Rattle.swc_tree_grammar.specs.Normal.{normal_form}
use Rattle.swc_base_normal_form_laws.specs.Laws.{NormalFormAddsNoTypes, NormalFormIsClean, NormalFormIsProgram}
use Rattle.swc_base_rename_laws.specs.NewNames.{outline}
use Rattle.swc_base_alpha.specs.Judged.{Decides, IsOrdinary, IsOwnAnswer}
use Rattle.swc_base_alpha.specs.Pairs.{ListAsks, StaysOne, pairs}
use Rattle.swc_base_alpha.specs.Shown.{PairsAsk, Shows, ShowsIn}
use Rattle.swc_base_alpha.specs.Side.{Seen, side}
use Rattle.swc_base_alpha.specs.Verdict.{IsCleanProgram, IsFirstToFail, words}
use Rattle.swc_base_alpha.specs.declared.differs.Rules.{Rules}
use Rattle.swc_base_alpha.specs.declared.spans.Unplaced.{Unplaced}
use Rattle.swc_base_alpha.specs.declared.verdict.Cause.{Cause}
use Rattle.swc_base_alpha.specs.declared.verdict.Why.{Why}
use Rattle.swc_base_alpha.specs.declared.verdict.Why.TheVariants as why
use Rattle.swc_base_alpha.proofs.Judged.{none_of_both, one_length, ordinary}
use Rattle.swc_base_alpha.proofs.Passed.{side_turned}

-- the first that fails does
failing : (asks : Why → Type 0) (ws : List Why) (w : Why) → IsFirstToFail asks ws w → ¬ asks w
failing asks [] w h = absurd h
failing asks (v ∷ ws) w (inl (none, is)) = subst (λ v. ¬ asks v) (sym is) none
failing asks (v ∷ ws) w (inr (here, h)) = failing asks ws w h

-- what all are asked is asked of the pairs
asked : (rules : Rules) (xs ys : List Seen) (w : Why) → PairsAsk w (side xs ys) → ListAsks rules xs ys w
asked rules xs ys why.Shape h = tt
asked rules xs ys why.Name h = h
asked rules xs ys why.Free h = λ free. h
asked rules xs ys why.Split h = λ free. h
asked rules xs ys why.Joined h = λ free. subst StaysOne (sym (side_turned xs ys)) h
asked rules xs ys why.Top h = λ free keeps. h
asked rules xs ys why.Reads h = λ reads. h
asked rules xs ys why.Caught h = λ caught. h

not_asked : (rules : Rules) (xs ys : List Seen) (found : Option Why) → Decides (ListAsks rules xs ys) words found → IfSome found (λ w. ¬ PairsAsk w (side xs ys))
not_asked rules xs ys None h = tt
not_asked rules xs ys (Some w) h = λ all. failing (ListAsks rules xs ys) words w h (asked rules xs ys w all)

-- two identifiers show it, so that it is not the outline
module _ (unplaced : Unplaced) (t u first second : Node) (own : IsOwnAnswer t first) (own_too : IsOwnAnswer u second) where
  abbrev Shown : Why → Span → Span → Type 0
  Shown w before after = ShowsIn unplaced w (sites program_place first) (sites program_place second) before after

  by_word : (w : Why) (before after : Span) → Shown w before after → Shows unplaced t u w before after
  by_word why.Shape before after h = absurd (h.first.fails tt)
  by_word why.Name before after h = record { first = first; second = second; own = own; own_too = own_too; shows = h }
  by_word why.Free before after h = record { first = first; second = second; own = own; own_too = own_too; shows = h }
  by_word why.Split before after h = record { first = first; second = second; own = own; own_too = own_too; shows = h }
  by_word why.Joined before after h = record { first = first; second = second; own = own; own_too = own_too; shows = h }
  by_word why.Top before after h = record { first = first; second = second; own = own; own_too = own_too; shows = h }
  by_word why.Reads before after h = record { first = first; second = second; own = own; own_too = own_too; shows = h }
  by_word why.Caught before after h = record { first = first; second = second; own = own; own_too = own_too; shows = h }

  by_cause : (xs ys : List Seen) → xs ≡ sites program_place first → ys ≡ sites program_place second → (cause : Option Cause) → IfSome cause (λ c. ShowsIn unplaced c.why xs ys c.before c.after) → IfSome cause (λ c. Shows unplaced t u c.why c.before c.after)
  by_cause xs ys e f None h = tt
  by_cause xs ys e f (Some c) h = by_word c.why c.before c.after (subst (λ xs. ShowsIn unplaced c.why xs (sites program_place second) c.before c.after) e (subst (λ ys. ShowsIn unplaced c.why xs ys c.before c.after) f h))

  pub names_show : (rules : Rules) (a b ones others : List Site) (found : Option Why) (cause : Option Cause) → outline first ≡ outline second
      → map site_of a ≡ sites program_place first → map site_of b ≡ sites program_place second → map site_of ones ≡ sites program_place first → map site_of others ≡ sites program_place second
      → Decides (ListAsks rules (map site_of a) (map site_of b)) words found
      → (length ones ≡ length others → IfSome found (λ w. ¬ PairsAsk w (pairs ones others)) → IfSome cause (λ c. ShowsIn unplaced c.why (map site_of ones) (map site_of others) c.before c.after))
      → IfSome cause (λ c. Shows unplaced t u c.why c.before c.after)
  names_show rules a b ones others found cause shape one other too also decides told =
      let again : Decides (ListAsks rules (map site_of ones) (map site_of others)) words found
      = subst (λ xs. Decides (ListAsks rules xs (map site_of others)) words found) (one ∙ sym too) (subst (λ ys. Decides (ListAsks rules (map site_of a) ys) words found) (other ∙ sym also) decides) in
      by_cause (map site_of ones) (map site_of others) too also cause (told (one_length first second ones others shape too also) (not_asked rules (map site_of ones) (map site_of others) found again))

-- of the normal forms of two programs
pub first_shown : NormalFormIsClean → NormalFormAddsNoTypes → NormalFormIsProgram → TypesAreTold → (unplaced : Unplaced) (before after first second : Node) → first ≡ normal_form before → second ≡ normal_form after
    → (has_types before || has_types after) ≡ false → IsCleanProgram before → IsCleanProgram after → (r : Result (Option Cause) PassError)
    → (IsOrdinary first → IsOrdinary second → IfOk r (λ cause. IfSome cause (λ c. Shows unplaced first second c.why c.before c.after))) → IfOk r (λ cause. IfSome cause (λ c. Shows unplaced (normal_form before) (normal_form after) c.why c.before c.after))
first_shown cleans untyped opens told unplaced before after first second e f none here there (Err x) h = tt
first_shown cleans untyped opens told unplaced before after first second e f none here there (Ok cause) h =
    let (one, other) = none_of_both (has_types before) (has_types after) none in
    subst (λ u. IfSome cause (λ c. Shows unplaced (normal_form before) u c.why c.before c.after)) f
    (subst (λ t. IfSome cause (λ c. Shows unplaced t second c.why c.before c.after)) e
    (h (ordinary cleans untyped opens told before first e here one) (ordinary cleans untyped opens told after second f there other)))
