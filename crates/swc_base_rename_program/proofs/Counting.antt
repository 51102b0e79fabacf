-- Names that count only at some scopes are those that count at all, where no id occurs at a scope at which its name does not count.
use Rattle.std.proofs.Common.{◌≡◌, ℕ, Bool, true, false, ◌&&◌, ◌||◌, Option, Some, List, [], ◌∷◌, ◌++◌, map, refl, sym, ap, ◌∙◌, subst}
use Rattle.std.specs.Prelude.{if◌then◌else◌, ◌==◌}
use Rattle.std.specs.List.{AllByRecursion, list_any}
use Rattle.std.proofs.lemmas.List.{map-append}
use Rattle.swc_tree_marks.specs.declared.error.PassError.{PassError}
use Rattle.swc_tree_marks.specs.declared.error.PassError.TheVariants as pass
use Rattle.swc_base_rename_naming.specs.Counters.{greatest}
use Rattle.swc_base_rename_naming.specs.Free.{AllTaken, IsLeastFree}
use Rattle.swc_base_rename_naming.specs.InOrder.{AreChosen, Choice, IsRefused, IsSpent, NamedInOrder, Rules, Site, chosen_text, holds, is_named, is_taken, name_in, named_sites, start}

pub all_map : {A : Type 0} (P Q : A → Type 0) (xs : List A) → ((x : A) → P x → Q x) → AllByRecursion P xs → AllByRecursion Q xs
all_map P Q [] f p = tt
all_map P Q (x ∷ xs) f (p, ps) = (f x p, all_map P Q xs f ps)

all_mapped : {A B : Type 0} (f : A → B) (P : B → Type 0) (xs : List A) → AllByRecursion P (map f xs) → AllByRecursion (λ x. P (f x)) xs
all_mapped f P [] h = tt
all_mapped f P (x ∷ xs) (h, hs) = (h, all_mapped f P xs hs)

all_front : {A : Type 0} (P : A → Type 0) (xs ys : List A) → AllByRecursion P (xs ++ ys) → AllByRecursion P xs
all_front P [] ys h = tt
all_front P (x ∷ xs) ys (h, hs) = (h, all_front P xs ys hs)

all_at : {A : Type 0} (P : A → Type 0) (xs : List A) (y : A) (ys : List A) → AllByRecursion P (xs ++ y ∷ ys) → P y
all_at P [] y ys (h, hs) = h
all_at P (x ∷ xs) y ys (h, hs) = all_at P xs y ys hs

any_same : {A : Type 0} (p q : A → Bool) (xs : List A) → AllByRecursion (λ x. p x ≡ q x) xs → list_any p xs ≡ list_any q xs
any_same p q [] h = refl
any_same p q (x ∷ xs) (h, hs) = ap (λ b. b || list_any p xs) h ∙ ap (λ b. q x || b) (any_same p q xs hs)

-- each element stands so to each behind it
abbrev pub AllPairs : {A : Type 0} → (A → A → Type 0) → List A → Type 0
AllPairs R [] = Unit {0}
AllPairs R (x ∷ xs) = AllByRecursion (R x) xs × AllPairs R xs

pairs_front : {A : Type 0} (R : A → A → Type 0) (xs ys : List A) → AllPairs R (xs ++ ys) → AllPairs R xs
pairs_front R [] ys h = tt
pairs_front R (x ∷ xs) ys (h, hs) = (all_front (R x) xs ys h, pairs_front R xs ys hs)

pairs_at : {A : Type 0} (R : A → A → Type 0) (xs : List A) (y : A) (ys : List A) → AllPairs R (xs ++ y ∷ ys) → AllByRecursion (λ x. R x y) xs
pairs_at R [] y ys h = tt
pairs_at R (x ∷ xs) y ys (h, hs) = (all_at (R x) xs y ys h, pairs_at R xs y ys hs)

-- where an id occurs, names of its site's scope count
abbrev pub Reaches : Rules → Site → Site → Type 0
Reaches r a b = r.occurs b.0 a.1 ≡ true → r.counts a.0 b.0 ≡ true

-- the rules by which names of each scope count at each
abbrev pub all_counting : Rules → Rules
all_counting r = record r { counts = λ m n. true }

same_held : (c e o : Bool) → (o ≡ true → c ≡ true) → (c && (e && o)) ≡ (true && (e && o))
same_held true e o h = refl
same_held false false o h = refl
same_held false true false h = refl
same_held false true true h = let no : false ≡ true = h refl in absurd (cc)

all_if : {A : Type 0} (P : A → Type 0) (b : Bool) (x : A) (xs : List A) → P x → AllByRecursion P xs → AllByRecursion P (if b then x ∷ xs else xs)
all_if P true x xs p ps = (p, ps)
all_if P false x xs p ps = ps

pairs_if : {A : Type 0} (R : A → A → Type 0) (b : Bool) (x : A) (xs : List A) → AllByRecursion (R x) xs → AllPairs R xs → AllPairs R (if b then x ∷ xs else xs)
pairs_if R true x xs p ps = (p, ps)
pairs_if R false x xs p ps = ps

module _ (r : Rules) where
  all_named : (P : Site → Type 0) (before sites : List Site) → AllByRecursion P sites → AllByRecursion P (named_sites r before sites)
  all_named P before [] h = tt
  all_named P before (a ∷ later) (h, hs) = all_if P (is_named r before a) a (named_sites r (before ++ a ∷ []) later) h (all_named P (before ++ a ∷ []) later hs)

  pairs_named : (R : Site → Site → Type 0) (before sites : List Site) → AllPairs R sites → AllPairs R (named_sites r before sites)
  pairs_named R before [] h = tt
  pairs_named R before (a ∷ later) (h, hs) =
      pairs_if R (is_named r before a) a (named_sites r (before ++ a ∷ []) later) (all_named (R a) (before ++ a ∷ []) later h) (pairs_named R (before ++ a ∷ []) later hs)

  same_sites : (before sites : List Site) → named_sites r before sites ≡ named_sites (all_counting r) before sites
  same_sites before [] = refl
  same_sites before (a ∷ later) = ap (λ l. if is_named r before a then a ∷ l else l) (same_sites (before ++ a ∷ []) later)

  same_name : (choices : List Choice) (x : ℕ) → name_in r choices x ≡ name_in (all_counting r) choices x
  same_name [] x = refl
  same_name (c ∷ choices) x = ap (λ o. if c.0.1 == x then Some (chosen_text r c) else o) (same_name choices x)

  -- the same texts are taken at a scope
  abbrev ReachesScope : ℕ → Site → Type 0
  ReachesScope s a = r.occurs s a.1 ≡ true → r.counts a.0 s ≡ true

  same_taken : (choices : List Choice) (s : ℕ) → AllByRecursion (λ c. ReachesScope s c.0) choices → is_taken r choices s ≡ is_taken (all_counting r) choices s
  same_taken choices s h i = λ x. ap (λ b. r.preserved x || b) (any_same (holds r s x) (holds (all_counting r) s x) choices
      (all_map (λ c. ReachesScope s c.0) (λ c. holds r s x c ≡ holds (all_counting r) s x c) choices (λ c. same_held _ _ (r.occurs s c.0.1)) h)) i

  -- of the ids that were named before, those that occur at a scope have names that count there
  earlier : (sites : List Site) (choices before after : List Choice) (c : Choice) → AllPairs (Reaches r) sites → map (λ c. c.0) choices ≡ named_sites r [] sites → choices ≡ before ++ c ∷ after
      → AllByRecursion (λ d. ReachesScope c.0.0 d.0) before
  earlier sites choices before after c h theirs e =
      let all = subst (AllPairs (Reaches r)) (sym theirs ∙ ap (map (λ c. c.0)) e ∙ map-append (λ c. c.0) before (c ∷ after)) (pairs_named (Reaches r) [] sites h) in
      all_mapped (λ c. c.0) (ReachesScope c.0.0) before (pairs_at (Reaches r) (map (λ c. c.0) before) c.0 (map (λ c. c.0) after) all)

  all_chosen : (sites : List Site) (choices : List Choice) → AllPairs (Reaches r) sites → AreChosen r sites choices → AreChosen (all_counting r) sites choices
  all_chosen sites choices h chosen = record {
    their_sites = chosen.their_sites ∙ same_sites [] sites;
    each = λ before after c e. subst (λ taken. IsLeastFree (r.text c.0.1) taken (start r before c.0.0) c.1) (same_taken before c.0.0 (earlier sites choices before after c h chosen.their_sites e)) (chosen.each before after c e);
  }

  pub all_named_in_order : (sites : List Site) (new_texts : ℕ → Option (List ℕ)) → AllPairs (Reaches r) sites → NamedInOrder r sites new_texts → NamedInOrder (all_counting r) sites new_texts
  all_named_in_order sites new_texts h named = record {
    choices = named.choices;
    chosen = all_chosen sites named.choices h named.chosen;
    names = λ x. named.names x ∙ same_name named.choices x;
  }

  all_spent : (sites : List Site) → AllPairs (Reaches r) sites → IsSpent r sites → IsSpent (all_counting r) sites
  all_spent sites h spent =
      let there = subst (AllPairs (Reaches r)) spent.stands h in
      let front = pairs_front (Reaches r) spent.before (spent.site ∷ spent.after) there in
      let reach = subst (AllByRecursion (ReachesScope spent.site.0)) (sym spent.chosen.their_sites) (all_named (ReachesScope spent.site.0) [] spent.before (pairs_at (Reaches r) spent.before spent.site spent.after there)) in
      record {
        before = spent.before;
        site = spent.site;
        after = spent.after;
        stands = spent.stands;
        named = spent.named;
        choices = spent.choices;
        chosen = all_chosen spent.before spent.choices front spent.chosen;
        none_free = subst (λ taken. AllTaken (r.text spent.site.1) taken (start r spent.choices spent.site.0) greatest)
            (same_taken spent.choices spent.site.0 (all_mapped (λ c. c.0) (ReachesScope spent.site.0) spent.choices reach)) spent.none_free;
      }

  pub all_refused : (sites : List Site) → AllPairs (Reaches r) sites → (e : PassError) → IsRefused r sites e → IsRefused (all_counting r) sites e
  all_refused sites h pass.NoMemory refused = tt
  all_refused sites h pass.CounterSpent refused = all_spent sites h refused
  all_refused sites h pass.MarksSpent refused = refused
  all_refused sites h pass.NotAssignable refused = refused
  all_refused sites h pass.TypesLeft refused = refused
