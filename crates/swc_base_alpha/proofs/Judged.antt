-- The judge's own marks, and what is said of programs by their normal forms.
use Rattle.std.proofs.Common.{Result, Ok, Err, not, List, IsTrue, ◌∙◌, map, length, ◌≡◌, ℕ, ◌+◌, ◌-◌, ◌<◌, Bool, true, false, ◌||◌, ◌⊎◌, inl, inr, Option, Some, None, [], ◌∷◌, ◌↔◌, refl, sym, ap, subst, arith}
use Rattle.std.proofs.lemmas.List.{length-map}
use Rattle.std.specs.Result.{IfErr, IfOk, IsErrOf}
use Rattle.swc_tree_marks.specs.declared.error.PassError.{PassError}
use Rattle.swc_tree_marks.specs.declared.error.PassError.TheVariants as error
use Rattle.swc_tree_marks.specs.Globals.{Table, greatest}
use Rattle.swc_tree_node.specs.declared.node.Node.{Node}
use Rattle.swc_tree_scoping.specs.Places.{program_place}
use Rattle.swc_tree_scoping.specs.Resolved.{Resolved}
use Rattle.swc_tree_scoping.specs.Scopes.{scope_count}
use Rattle.swc_tree_spaces.specs.Spaces.{has_types}
use Rattle.swc_tree_spaces_laws.specs.Laws.{TypesAreTold}
use Rattle.swc_tree_renaming.proofs.Core.{head_in, tail_in}
use Rattle.swc_tree_grammar.specs.Normal.{normal_form}
use Rattle.swc_base_normal_form_laws.specs.Laws.{NormalFormAddsNoTypes, NormalFormIsClean, NormalFormIsProgram}
use Rattle.swc_tree_walk.specs.Sites.{site_of, sites}
use Rattle.swc_tree_walk.specs.declared.identifiers.Site.{Site}
use Rattle.swc_base_rename_laws.specs.NewNames.{outline}
use Rattle.swc_base_resolver_program.specs.Marked.{IsRefusal, MarksOk, OnlyContexts}
use Rattle.swc_base_scope_checks.specs.Caught.{NoCaughtName}
use Rattle.swc_base_alpha.specs.declared.verdict.Cause.{Cause}
use Rattle.swc_base_alpha.specs.declared.verdict.Why.{Why}
use Rattle.swc_base_alpha.specs.declared.verdict.Why.TheVariants as why
use Rattle.swc_base_alpha.specs.Judged.{Concludes, IsOrdinary, IsOwnAnswer, IsRefused, own_table}
use Rattle.swc_base_alpha.specs.Verdict.{Asks, HasTooManyScopes, IsCleanProgram, IsJudgeRefusal, IsRead, IsUncaught, TellsWhy, word_in, words}
use Rattle.swc_base_alpha.proofs.Aligned.{sites_are_aligned}
use Rattle.swc_base_alpha.proofs.Remarked.{outline_remarked}
use Rattle.swc_base_alpha.proofs.Words.{not_same, turned}

-- ---- its marks

own_marks_ok : MarksOk own_table 1 2
own_marks_ok = (
  (λ e. absurd (omega (arith, e)), head_in {X = ℕ} 1 (2 ∷ [])),
  (λ e. absurd (omega (arith, e)), tail_in {X = ℕ} 1 2 (2 ∷ []) (head_in {X = ℕ} 2 [])),
)

pub own_answer : (n : Node) (old new : Table) (a b : ℕ) (r : Result Node PassError) → old ≡ own_table → a ≡ 1 → b ≡ 2 → (MarksOk old a b → IfOk r (λ answer. Resolved a b old new n answer)) → IfOk r (IsOwnAnswer n)
own_answer n old new a b (Err e) is one two h = tt
own_answer n old new a b (Ok u) is one two h =
    let given : MarksOk old a b = subst (λ old. MarksOk old a b) (sym is) (subst (λ a. MarksOk own_table a b) (sym one) (subst (λ b. MarksOk own_table 1 b) (sym two) own_marks_ok)) in
    (new, subst (λ old. Resolved 1 2 old new n u) is (subst (λ b. Resolved 1 b old new n u) two (subst (λ a. Resolved a b old new n u) one (h given))))

pub own_outline : (n : Node) (r : Result Node PassError) → IfOk r (OnlyContexts n) → IfOk r (λ answer. outline answer ≡ outline n)
own_outline n (Err e) h = tt
own_outline n (Ok u) h = ap outline h.only_contexts ∙ outline_remarked h.contexts n

-- lists of identifiers of trees of one outline are of one length
pub one_length : (u v : Node) (ones others : List Site) → outline u ≡ outline v → map site_of ones ≡ sites program_place u → map site_of others ≡ sites program_place v → length ones ≡ length others
one_length u v ones others shape first second = sym (length-map ones site_of) ∙ ap length first ∙ (sites_are_aligned u v shape).0 ∙ sym (ap length second) ∙ length-map others site_of

-- ---- caught names

not_true : {A : Type 0} → IsTrue (not true) → A
not_true h = absurd (cc)

pub first_caught : (t u : Node) (b : Bool) → b ≡ true → IsTrue (not b) ↔ NoCaughtName t → (true ≡ false) ↔ IsUncaught t u
first_caught t u b e told = ((λ h. absurd (cc)), λ (first, second). not_true (subst (λ b. IsTrue (not b)) e (told.1 first)))

pub second_caught : {E : Type 0} (t u : Node) (b : Bool) (r : Result Bool E) → b ≡ false → IsTrue (not b) ↔ NoCaughtName t → IfOk r (λ b. IsTrue (not b) ↔ NoCaughtName u) → IfOk r (λ b. (b ≡ false) ↔ IsUncaught t u)
second_caught t u b (Err e) f told then = tt
second_caught t u b (Ok true) f told then = ((λ h. absurd (cc)), λ (first, second). not_true (then.1 second))
second_caught t u b (Ok false) f told then = ((λ h. (told.0 (subst (λ b. IsTrue (not b)) (sym f) refl), then.0 refl)), λ h. refl)

-- ---- refusals

abbrev pub IsSpent : Node → PassError → Type 0
IsSpent n e = (e ≡ error.NoMemory) ⊎ ((e ≡ error.MarksSpent) × HasTooManyScopes n)

pub own_refusal : (n : Node) (old : Table) (r : Result Node PassError) → old ≡ own_table → IfErr r IsRefusal → (IsErrOf r error.MarksSpent → 4294967295 < greatest old + (scope_count program_place n - 1)) → IfErr r (IsSpent n)
own_refusal n old (Ok u) is refused spent = tt
own_refusal n old (Err e) is (inl none) spent = inl none
own_refusal n old (Err e) is (inr marks) spent =
    inr (marks, subst (λ old. 4294967295 < greatest old + (scope_count program_place n - 1)) is (spent (ap (λ e. Err e) marks)))

pub first_refused : (t s : Node) (e : PassError) → IsSpent t e → IsRefused t s e
first_refused t s e (inl none) = inl none
first_refused t s e (inr (marks, many)) = inr (marks, inl many)

pub second_refused : (t s : Node) (e : PassError) → IsSpent s e → IsRefused t s e
second_refused t s e (inl none) = inl none
second_refused t s e (inr (marks, many)) = inr (marks, inr many)

pub judge_refused : (before after : Node) (e : PassError) → (has_types before || has_types after) ≡ false → IsRefused (normal_form before) (normal_form after) e → IsJudgeRefusal before after e
judge_refused before after e none (inl is) = subst (IsJudgeRefusal before after) (sym is) none
judge_refused before after e none (inr (is, many)) = subst (IsJudgeRefusal before after) (sym is) (none, many)

-- ---- programs

pub none_of_both : (a b : Bool) → (a || b) ≡ false → (a ≡ false) × (b ≡ false)
none_of_both true b h = absurd (cc)
none_of_both false b h = (refl, h)

pub ordinary : NormalFormIsClean → NormalFormAddsNoTypes → NormalFormIsProgram → TypesAreTold → (t n : Node) → n ≡ normal_form t → IsCleanProgram t → has_types t ≡ false → IsOrdinary n
ordinary cleans untyped opens told t n is p none = subst IsOrdinary (sym is) (record {
  clean = cleans t p.clean;
  no_types = (told (normal_form t)).0 (untyped t none);
  opens = opens p.goal t p.is_goal p.fits;
})

-- one condition for reading in place of another that says the same
module _ (keep_top : Bool) (one other : Type 0) (same : one ↔ other) (t s : Node) where
  forth : (w : Why) → Asks keep_top one t s w → Asks keep_top other t s w
  forth why.Shape h = h
  forth why.Name h = h
  forth why.Free h = h
  forth why.Split h = h
  forth why.Joined h = h
  forth why.Top h = h
  forth why.Reads h = λ reads. h (same.1 reads)
  forth why.Caught h = h

  back : (w : Why) → Asks keep_top other t s w → Asks keep_top one t s w
  back why.Shape h = h
  back why.Name h = h
  back why.Free h = h
  back why.Split h = h
  back why.Joined h = h
  back why.Top h = h
  back why.Reads h = λ reads. h (same.0 reads)
  back why.Caught h = h

  pub read_alike : (o : Option Why) → Concludes keep_top one t s o → Concludes keep_top other t s o
  read_alike None h = record { alpha = h.alpha; top = h.top; read = λ reads. h.read (same.1 reads); caught = h.caught }
  read_alike (Some w) h = turned (Asks keep_top one t s) (Asks keep_top other t s) forth back words (Some w) h

-- what is concluded of the normal forms, in terms of the programs
pub first_concluded : NormalFormIsClean → NormalFormAddsNoTypes → NormalFormIsProgram → TypesAreTold → (keep_top reads : Bool) (before after first second : Node) → first ≡ normal_form before → second ≡ normal_form after
    → (has_types before || has_types after) ≡ false → IsCleanProgram before → IsCleanProgram after → IsTrue reads ↔ IsRead before after → (r : Result (Option Cause) PassError) → (IsOrdinary first → IsOrdinary second → IfOk r (λ cause. Concludes keep_top (IsTrue reads) first second (word_in cause)))
    → IfOk r (λ cause. Concludes keep_top (IsRead before after) (normal_form before) (normal_form after) (word_in cause))
first_concluded cleans untyped opens told keep_top reads before after first second e f none here there read (Err x) h = tt
first_concluded cleans untyped opens told keep_top reads before after first second e f none here there read (Ok cause) h =
    let o = word_in cause in
    let (one, other) = none_of_both (has_types before) (has_types after) none in
    subst (λ u. Concludes keep_top (IsRead before after) (normal_form before) u o) f
    (subst (λ t. Concludes keep_top (IsRead before after) t second o) e
    (read_alike keep_top (IsTrue reads) (IsRead before after) read first second o (h (ordinary cleans untyped opens told before first e here one) (ordinary cleans untyped opens told after second f there other))))

pub first_spent : (before after first second : Node) → first ≡ normal_form before → second ≡ normal_form after → (r : Result (Option Cause) PassError) → IfErr r (IsRefused first second) → IfErr r (IsRefused (normal_form before) (normal_form after))
first_spent before after first second e f (Ok o) h = tt
first_spent before after first second e f (Err x) h = subst (λ u. IsRefused (normal_form before) u x) f (subst (λ t. IsRefused t second x) e h)

-- what is found of two programs
abbrev pub Finds : Bool → Node → Node → Option Why → Type 0
Finds keep_top t s o = (has_types t || has_types s) ≡ false → IsCleanProgram t → IsCleanProgram s → Concludes keep_top (IsRead t s) (normal_form t) (normal_form s) o

pub word_told : (keep_top : Bool) (before after : Node) (o : Option Why) → Concludes keep_top (IsRead before after) (normal_form before) (normal_form after) o → TellsWhy keep_top before after o
word_told keep_top before after None h = h
word_told keep_top before after (Some w) h = (not_same keep_top (IsRead before after) (normal_form before) (normal_form after) w h, h)

-- and so of those of which they are copies
pub copies_told : (keep_top : Bool) (before after first second : Node) (o : Option Why) → first ≡ before → second ≡ after → (has_types before || has_types after) ≡ false → Finds keep_top first second o → IsCleanProgram before → IsCleanProgram after → TellsWhy keep_top before after o
copies_told keep_top before after first second o e f none h here there =
    let found : Finds keep_top before after o = subst (λ s. Finds keep_top before s o) f (subst (λ t. Finds keep_top t second o) e h) in
    word_told keep_top before after o (found none here there)
