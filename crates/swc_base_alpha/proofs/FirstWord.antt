-- The first word of a row of conditions, as the code finds it.
use Rattle.std.proofs.Common.{◌≡◌, Bool, true, false, IsTrue, inl, inr, Option, Some, None, List, [], ◌∷◌, ◌++◌, ◌↔◌, refl}
use Rattle.swc_base_alpha.specs.declared.differs.Rules.{Rules}
use Rattle.swc_base_alpha.specs.declared.pairs.Question.TheVariants as question
use Rattle.swc_base_alpha.specs.declared.verdict.Why.{Why}
use Rattle.swc_base_alpha.specs.declared.verdict.Why.TheVariants as why
use Rattle.swc_base_alpha.specs.Judged.{AllHold, Decides}
use Rattle.swc_base_alpha.specs.Pairs.{EachPair, ListAsks, Meets, StaysOne}
use Rattle.swc_base_alpha.specs.Side.{Seen, side}
use Rattle.swc_base_alpha.specs.Verdict.{IsFirstToFail, words}

not_both : {A : Type 0} (b : Bool) → b ≡ true → b ≡ false → A
not_both true h k = absurd (cc)
not_both false h k = absurd (cc)

-- what a test refuses is not so
pub refuted : (r : Bool) (P : Type 0) → IsTrue r ↔ P → r ≡ false → ¬ P
refuted r P told failed h = not_both r (told.1 h) failed

module _ (asks : Why → Type 0) where
  joined : (cs bs : List Why) (o : Option Why) → AllHold asks cs → Decides asks bs o → Decides asks (cs ++ bs) o
  joined [] bs o h k = k
  joined (a ∷ cs) bs None (h, hs) k = (h, joined cs bs None hs k)
  joined (a ∷ cs) bs (Some w) (h, hs) k = inr (h, joined cs bs (Some w) hs k)

  earlier : (cs bs : List Why) (w : Why) → IsFirstToFail asks cs w → IsFirstToFail asks (cs ++ bs) w
  earlier [] bs w h = absurd h
  earlier (a ∷ cs) bs w (inl h) = inl h
  earlier (a ∷ cs) bs w (inr (h, k)) = inr (h, earlier cs bs w k)

abbrev pub of_ids : List Why
of_ids = why.Free ∷ why.Split ∷ why.Joined ∷ why.Top ∷ []

abbrev pub of_texts : List Why
of_texts = why.Reads ∷ why.Caught ∷ []

module _ (rules : Rules) (xs ys : List Seen) where
  abbrev A : Why → Type 0
  A = ListAsks rules xs ys

  -- ---- by ids

  module _ (a b c d : Bool) (free : rules.caught ≡ false) (one : IsTrue a ↔ EachPair (Meets question.Free) (side xs ys)) where
    pub free_fails : a ≡ false → IsFirstToFail A of_ids why.Free
    free_fails failed = inl ((λ h. refuted a _ one failed (h free)), refl)

    module _ (held : a ≡ true) (two : IsTrue b ↔ StaysOne (side xs ys)) where
      pub split_fails : b ≡ false → IsFirstToFail A of_ids why.Split
      split_fails failed = inr ((λ f. one.0 held), inl ((λ h. refuted b _ two failed (h free)), refl))

      module _ (too : b ≡ true) (three : IsTrue c ↔ StaysOne (side ys xs)) where
        pub joined_fails : c ≡ false → IsFirstToFail A of_ids why.Joined
        joined_fails failed = inr ((λ f. one.0 held), inr ((λ f. two.0 too), inl ((λ h. refuted c _ three failed (h free)), refl)))

        pub no_top_asked : c ≡ true → rules.keep_top ≡ false → AllHold A of_ids
        no_top_asked so failed = ((λ f. one.0 held), ((λ f. two.0 too), ((λ f. three.0 so), ((λ f keep. not_both rules.keep_top keep failed), tt))))

        module _ (so : c ≡ true) (four : IsTrue d ↔ EachPair (Meets question.Top) (side xs ys)) where
          pub all_pass : d ≡ true → AllHold A of_ids
          all_pass last = ((λ f. one.0 held), ((λ f. two.0 too), ((λ f. three.0 so), ((λ f keep. four.0 last), tt))))

          pub top_fails : rules.keep_top ≡ true → d ≡ false → IsFirstToFail A of_ids why.Top
          top_fails keep failed = inr ((λ f. one.0 held), inr ((λ f. two.0 too), inr ((λ f. three.0 so), inl ((λ h. refuted d _ four failed (h free keep)), refl))))

  -- ---- by texts

  module _ (r : Bool) (told : IsTrue r ↔ EachPair (Meets question.Names) (side xs ys)) where
    pub texts_stay : r ≡ true → AllHold A of_texts
    texts_stay held = ((λ f. told.0 held), ((λ f. told.0 held), tt))

    pub reads_fails : r ≡ false → rules.reads ≡ true → IsFirstToFail A of_texts why.Reads
    reads_fails failed reads = inl ((λ h. refuted r _ told failed (h reads)), refl)

    pub caught_fails : r ≡ false → rules.reads ≡ false → rules.caught ≡ true → IsFirstToFail A of_texts why.Caught
    caught_fails failed unread caught = inr ((λ f. not_both rules.reads f unread), inl ((λ h. refuted r _ told failed (h caught)), refl))

  -- ---- all of them

  module _ (r : Bool) (told : IsTrue r ↔ EachPair (Meets question.Others) (side xs ys)) where
    pub id_fails : r ≡ true → (w : Why) → IsFirstToFail A of_ids w → IsFirstToFail A words w
    id_fails held w h = inr (tt, inr (told.0 held, earlier A of_ids of_texts w h))

    pub text_decides : r ≡ true → (o : Option Why) → AllHold A of_ids → Decides A of_texts o → Decides A words o
    text_decides held None h k = (tt, (told.0 held, joined A of_ids of_texts None h k))
    text_decides held (Some w) h k = inr (tt, inr (told.0 held, joined A of_ids of_texts (Some w) h k))
