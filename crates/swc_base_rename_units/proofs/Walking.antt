-- The walk that tells where a reader of names stands: from child to child, and from the children of a node to the node.
use Rattle.std.proofs.Common.{◌≡◌, ◌↔◌, ℕ, zero, suc, ◌+◌, ◌<◌, ◌≤◌, Bool, true, false, not, ◌||◌, IsTrue, ◌⊎◌, inl, inr, Some, Result, Ok, Err, IfErr, List, [], ◌∷◌, length, refl, sym, ap, ◌∙◌, subst, arith}
use Rattle.std.specs.List.{slice_get, slice_set}
use Rattle.std.proofs.lemmas.Option.{slice_get_within}
use Rattle.swc_tree_marks.specs.declared.error.PassError.{PassError}
use Rattle.swc_tree_node.specs.declared.kind.Kind.{Kind}
use Rattle.swc_tree_node.specs.declared.node.Node.{Node, List as Many, Tree, out-Node}
use Rattle.swc_tree_node.specs.declared.node.Node.TheOpen.{Node-F}
use Rattle.swc_tree_node.specs.declared.node.Node.TheVariants.{outs-List, outs-Tree}
use Rattle.swc_base_rename_units.specs.declared.units.Above.{Above}
use Rattle.swc_base_rename_units.specs.declared.units.Above.TheVariants.{Items, Fields}
use Rattle.swc_base_rename_units.specs.Eval.{HasEval, reads_names}
use Rattle.swc_base_rename_units.specs.Units.{RefusesUnit}
use Rattle.swc_base_rename_units.specs.Walk.{AreFreeTo, AreNamedTo, AreWalked, EachBecomes, IsChildNamed, IsNextWalked, IsWalked, ReadsAny, RefusesBefore, RefusesChild, RefusesEachWhereRead, RefusesNext, RefusesWhereRead, is_unit_at, waiting_to}
use Rattle.swc_base_rename_units.proofs.Fitting.{list_fits_as, tree_fits_as}
use Rattle.swc_base_rename_units.proofs.Lifted.{list_named, list_refused, tree_named, tree_refused}
use Rattle.swc_base_rename_units.proofs.Readers.{at_leaf, reads_in, reads_out, some_same}
use Rattle.swc_base_rename_units.proofs.Steps.{DoneTo, SameFrom, each_named, named_below, one_done, parted, put_elsewhere, put_here, put_length, whole_refused}

not_true : (b : Bool) → (IsTrue b → ⊥) → b ≡ false
not_true true n = absurd (n refl)
not_true false n = refl

same_or_not : (k i : ℕ) → (k ≡ i) ⊎ (k ≡ i → ⊥)
same_or_not zero zero = inl refl
same_or_not zero (suc i) = inr (λ e. absurd (cc))
same_or_not (suc k) zero = inr (λ e. absurd (cc))
same_or_not (suc k) (suc i) = by (same_or_not k i)
  where
    by : (k ≡ i) ⊎ (k ≡ i → ⊥) → (suc k ≡ suc i) ⊎ (suc k ≡ suc i → ⊥)
    by (inl e) = inl (ap suc e)
    by (inr n) = inr (λ e. n (cc))

same_lists : (ts us : List Node) → ((k : ℕ) → slice_get us k ≡ slice_get ts k) → us ≡ ts
same_lists [] [] h = refl
same_lists [] (u ∷ us) h = let e = h zero in absurd (cc)
same_lists (t ∷ ts) [] h = let e = h zero in absurd (cc)
same_lists (t ∷ ts) (u ∷ us) h = let one : u ≡ t = some_same (h zero) in ap (λ x. x ∷ us) one ∙ ap (λ l. t ∷ l) (same_lists ts us (λ k. h (suc k)))

-- ---- one child more

-- what was found when the first children were looked at
abbrev pub SoundFor : Bool → List Node → Bool → Type 0
SoundFor reads ts found = IsTrue found → ReadsAny reads ts

abbrev pub NoneTo : Bool → List Node → ℕ → Bool → Type 0
NoneTo reads ts i found = found ≡ false → (reads ≡ false) × AreFreeTo ts i

abbrev pub KeptWhere : List Node → List Node → Bool → Type 0
KeptWhere ts us found = found ≡ false → (k : ℕ) → slice_get us k ≡ slice_get ts k

waiting_within : (found read : Bool) (i : ℕ) → waiting_to found read i ≤ i
waiting_within true true i = omega arith
waiting_within true false i = omega arith
waiting_within false true i = omega arith
waiting_within false false i = omega arith

module _ (reads : Bool) (ts ys zs vs : List Node) (i : ℕ) (off x y : Node) (taken : slice_get ys i ≡ Some x) (out : zs ≡ slice_set ys i off) (back : vs ≡ slice_set zs i y) where
  else_there : (k : ℕ) → (k ≡ i → ⊥) → slice_get vs k ≡ slice_get ys k
  else_there = put_elsewhere ts ys zs vs i off x y taken out back

  here : slice_get vs i ≡ Some y
  here = put_here ts ys zs vs i off x y taken out back

  pub waiting_there : (found read : Bool) → waiting_to found read i ≤ length vs
  waiting_there found read =
      let l : i < length ys = slice_get_within ys i x taken in
      let w = waiting_within found read i in
      let n = put_length ts ys zs vs i off x y taken out back in omega (arith, l, w, n)

  pub waiting_free : (found read : Bool) → NoneTo reads ts i found → KeptWhere ts ys found → AreFreeTo vs (waiting_to found read i)
  waiting_free true true none kept k c l there = absurd (omega (arith, l))
  waiting_free true false none kept k c l there = absurd (omega (arith, l))
  waiting_free false false none kept k c l there = absurd (omega (arith, l))
  waiting_free false true none kept k c l there = (none refl).1 k c l (sym (else_there k (λ e. omega (arith, e, l)) ∙ kept refl k) ∙ there)

  pub more_sound : (found read : Bool) → SameFrom ts ys i → (IsTrue read ↔ HasEval x) → SoundFor reads ts found → SoundFor reads ts (found || read)
  more_sound true read same h sound f = sound refl
  more_sound false read same h sound f = inr (i, x, sym (same i (omega arith)) ∙ taken, h.0 f)

  pub more_none : (found read : Bool) → SameFrom ts ys i → (IsTrue read ↔ HasEval x) → NoneTo reads ts i found → NoneTo reads ts (i + 1) (found || read)
  more_none true read same h none f = absurd (cc)
  more_none false read same h none f = ((none refl).0, λ k c l there r. by k c there r (parted k i (omega (arith, l))))
    where
      by : (k : ℕ) (c : Node) → slice_get ts k ≡ Some c → HasEval c → (k < i) ⊎ (k ≡ i) → ⊥
      by k c there r (inl l) = (none refl).1 k c l there r
      by k c there r (inr e) =
          let one : x ≡ c = some_same (sym taken ∙ same i (omega arith) ∙ subst (λ k. slice_get ts k ≡ Some c) e there) in
          let shown : read ≡ true = h.1 (subst HasEval (sym one) r) in absurd (cc)

  -- where none was found, all is as it was
  module _ (becomes : Node → Node → Type 0) (above : Above) (ws : List Node) where
    pub more_kept : (found read : Bool) → AreNamedTo becomes above (waiting_to found read i) vs ws → KeptWhere ts ys found → (found ≡ false → read ≡ false → y ≡ x) → KeptWhere ts ws (found || read)
    more_kept true read named kept stays f k = absurd (cc)
    more_kept false true named kept stays f k = absurd (cc)
    more_kept false false named kept stays f k = named.rest k (omega arith) ∙ by (same_or_not k i)
      where
        by : (k ≡ i) ⊎ (k ≡ i → ⊥) → slice_get vs k ≡ slice_get ts k
        by (inl e) = ap (slice_get vs) e ∙ here ∙ ap Some (stays refl refl) ∙ sym taken ∙ kept refl i ∙ ap (slice_get ts) (sym e)
        by (inr n) = else_there k n ∙ kept refl k

    pub more_same : (found read : Bool) → AreNamedTo becomes above (waiting_to found read i) vs ws → SameFrom ts ys i → SameFrom ts ws (i + 1)
    more_same found read named same k l =
        let w = waiting_within found read i in
        named.rest k (omega (arith, l, w)) ∙ else_there k (λ e. omega (arith, e, l)) ∙ same k (omega (arith, l))

    pub more_done : (found read is_unit : Bool) → AreNamedTo becomes above (waiting_to found read i) vs ws → is_unit ≡ is_unit_at above i (out-Node x)
        → (IsTrue read ↔ HasEval x) → (IsTrue found ⊎ HasEval x → IsChildNamed becomes is_unit x y) → SameFrom ts ys i → KeptWhere ts ys found
        → (IsTrue found → DoneTo becomes above ts ys i) → IsTrue (found || read) → DoneTo becomes above ts ws (i + 1)
    more_done true read is_unit named test h next same kept done f k c l there =
        let d = one_done ts ys zs vs i off x y taken out back becomes above (done refl) same is_unit test (next (inl refl)) k c l there in
        (d.0, named.rest k (at_none read) ∙ d.1, d.2)
      where
        at_none : (read : Bool) → waiting_to true read i ≤ k
        at_none true = omega arith
        at_none false = omega arith
    more_done false false is_unit named test h next same kept done f k c l there = absurd (cc)
    more_done false true is_unit named test h next same kept done f k c l there = by (parted k i (omega (arith, l)))
      where
        by : (k < i) ⊎ (k ≡ i) → (d : Node) × (slice_get ws k ≡ Some d) × IsChildNamed becomes (is_unit_at above k (out-Node c)) c d
        by (inl before) = named.done k c before (else_there k (λ e. omega (arith, e, before)) ∙ kept refl k ∙ there)
        by (inr e) =
            let one : x ≡ c = some_same (sym taken ∙ same i (omega arith) ∙ subst (λ k. slice_get ts k ≡ Some c) e there) in
            let now : IsChildNamed becomes (is_unit_at above i (out-Node x)) x y = subst (λ b. IsChildNamed becomes b x y) test (next (inr (h.0 refl))) in (
              y,
              named.rest k (omega (arith, e)) ∙ ap (slice_get vs) e ∙ here,
              subst (λ k. IsChildNamed becomes (is_unit_at above k (out-Node c)) c y) (sym e) (subst (λ c. IsChildNamed becomes (is_unit_at above i (out-Node c)) c y) one now),
            )

  -- what is refused
  pub next_refused : (refuses : Node → PassError → Type 0) (above : Above) (found is_unit : Bool) (e : PassError) → is_unit ≡ is_unit_at above i (out-Node x) → SameFrom ts ys i → SoundFor reads ts found
      → RefusesNext refuses found is_unit x e → RefusesEachWhereRead refuses above reads ts e
  next_refused refuses above found is_unit e test same sound h = (by h.0, (i, x, there, subst (λ b. RefusesChild refuses b x e) test h.1))
    where
      there : slice_get ts i ≡ Some x
      there = sym (same i (omega arith)) ∙ taken

      by : IsTrue found ⊎ HasEval x → ReadsAny reads ts
      by (inl f) = sound f
      by (inr r) = inr (i, x, there, r)

  pub waiting_refused : (refuses : Node → PassError → Type 0) (above : Above) (found read : Bool) (e : PassError) → SameFrom ts ys i → KeptWhere ts ys found → (IsTrue read ↔ HasEval x)
      → RefusesBefore refuses above (waiting_to found read i) vs e → RefusesEachWhereRead refuses above reads ts e
  waiting_refused refuses above true true e same kept h (k, c, l, there, why) = absurd (omega (arith, l))
  waiting_refused refuses above true false e same kept h (k, c, l, there, why) = absurd (omega (arith, l))
  waiting_refused refuses above false false e same kept h (k, c, l, there, why) = absurd (omega (arith, l))
  waiting_refused refuses above false true e same kept h (k, c, l, there, why) =
      (inr (i, x, sym (same i (omega arith)) ∙ taken, h.0 refl), (k, c, sym (else_there k (λ e. omega (arith, e, l)) ∙ kept refl k) ∙ there, why))

-- before the first child
pub start_sound : (reads : Bool) (ts : List Node) → SoundFor reads ts reads
start_sound reads ts f = inl f

pub start_none : (reads : Bool) (ts : List Node) → NoneTo reads ts 0 reads
start_none reads ts f = (f, λ k c l there. absurd (omega (arith, l)))

-- after the last one
pub each_walked : (becomes : Node → Node → Type 0) (above : Above) (reads : Bool) (ts us : List Node) (i : ℕ) (found : Bool) → length ts ≤ i → length us ≡ length ts → SoundFor reads ts found → NoneTo reads ts i found
    → KeptWhere ts us found → (IsTrue found → DoneTo becomes above ts us i) → AreWalked becomes above reads ts found us
each_walked becomes above reads ts us i found end as_many sound none kept done = record {
  reads = (sound, λ r. by found refl r);
  named = λ f. record { as_many = as_many; each = λ k c there. done f k c (before k c there) there };
  kept = λ f. same_lists ts us (kept f);
}
  where
    before : (k : ℕ) (c : Node) → slice_get ts k ≡ Some c → k < i
    before k c there = let l : k < length ts = slice_get_within ts k c there in omega (arith, l, end)

    by : (f : Bool) → found ≡ f → ReadsAny reads ts → IsTrue found
    by true e r = e
    by false e (inl r) = let never = (none e).0 in absurd (cc)
    by false e (inr (k, c, there, r)) = absurd ((none e).1 k c (before k c there) there r)

-- ---- from the children to the node

pub list_walked : (becomes : Node → Node → Type 0) (t : Node) (ts us : List Node) (found : Bool) → t ≡ Many ts → AreWalked becomes Items false ts found us → IsWalked becomes t found (Many us)
list_walked becomes t ts us found is h = record {
  reads = (λ f. reads_in t (Node-F.List ts) out (h.reads.0 f), back);
  named = λ r. list_named becomes t ts us is (h.named (back r));
  fits = λ r. list_fits_as becomes t ts us is (h.named (back r));
  kept = λ n. ap Many (h.kept (not_true found (λ f. n (reads_in t (Node-F.List ts) out (h.reads.0 f))))) ∙ sym is;
}
  where
    out : out-Node t ≡ Node-F.List ts
    out = ap out-Node is ∙ outs-List ts

    back : HasEval t → IsTrue found
    back r = h.reads.1 (reads_out t (Node-F.List ts) out r)

pub tree_walked : (becomes : Node → Node → Type 0) (t : Node) (k : Kind) (ts ss us : List Node) (reads found : Bool) → t ≡ Tree k ts → ss ≡ ts → reads ≡ reads_names (Node-F.Tree k ss)
    → AreWalked becomes (Fields k) reads ts found us → IsWalked becomes t found (Tree k us)
tree_walked becomes t k ts ss us reads found is same test h = record {
  reads = (on, back);
  named = λ r. tree_named becomes t k ts us is (h.named (back r));
  fits = λ r. tree_fits_as becomes t k ts us is (h.named (back r));
  kept = λ n. ap (Tree k) (h.kept (not_true found (λ f. n (on f)))) ∙ sym is;
}
  where
    out : out-Node t ≡ Node-F.Tree k ts
    out = ap out-Node is ∙ outs-Tree k ts

    tested : reads ≡ reads_names (Node-F.Tree k ts)
    tested = test ∙ ap (λ ss. reads_names (Node-F.Tree k ss)) same

    on : IsTrue found → HasEval t
    on f = reads_in t (Node-F.Tree k ts) out (subst (λ b. ReadsAny b ts) tested (h.reads.0 f))

    back : HasEval t → IsTrue found
    back r = h.reads.1 (subst (λ b. ReadsAny b ts) (sym tested) (reads_out t (Node-F.Tree k ts) out r))

pub leaf_walked : (becomes : Node → Node → Type 0) (t : Node) → ((ts : List Node) → t ≡ Many ts → ⊥) → ((k : Kind) (ts : List Node) → t ≡ Tree k ts → ⊥) → IsWalked becomes t false t
leaf_walked becomes t no_list no_tree = record {
  reads = at_leaf t no_list no_tree;
  named = λ r. absurd (free r);
  fits = λ r. absurd (free r);
  kept = λ n. refl;
}
  where
    free : HasEval t → ⊥
    free r = let shown : false ≡ true = (at_leaf t no_list no_tree).1 r in absurd (cc)

pub list_walk_refused : (refuses : Node → PassError → Type 0) (t : Node) (ts : List Node) (e : PassError) → t ≡ Many ts → RefusesEachWhereRead refuses Items false ts e → RefusesWhereRead refuses t e
list_walk_refused refuses t ts e is h = (reads_in t (Node-F.List ts) (ap out-Node is ∙ outs-List ts) h.0, list_refused refuses t ts e is h.1)

pub tree_walk_refused : (refuses : Node → PassError → Type 0) (t : Node) (k : Kind) (ts ss : List Node) (reads : Bool) (e : PassError) → t ≡ Tree k ts → ss ≡ ts → reads ≡ reads_names (Node-F.Tree k ss)
    → RefusesEachWhereRead refuses (Fields k) reads ts e → RefusesWhereRead refuses t e
tree_walk_refused refuses t k ts ss reads e is same test h =
    let tested : reads ≡ reads_names (Node-F.Tree k ts) = test ∙ ap (λ ss. reads_names (Node-F.Tree k ss)) same in
    (reads_in t (Node-F.Tree k ts) (ap out-Node is ∙ outs-Tree k ts) (subst (λ b. ReadsAny b ts) tested h.0), tree_refused refuses t k ts e is h.1)

-- ---- a node without a reader

pub list_free : (t : Node) (ts : List Node) → t ≡ Many ts → (HasEval t → ⊥) → (n : ℕ) → AreFreeTo ts n
list_free t ts is free n i c l there r = free (reads_in t (Node-F.List ts) (ap out-Node is ∙ outs-List ts) (inr (i, c, there, r)))

pub tree_free : (t : Node) (k : Kind) (ts : List Node) → t ≡ Tree k ts → (HasEval t → ⊥) → (n : ℕ) → AreFreeTo ts n
tree_free t k ts is free n i c l there r = free (reads_in t (Node-F.Tree k ts) (ap out-Node is ∙ outs-Tree k ts) (inr (i, c, there, r)))

pub free_list_named : (becomes : Node → Node → Type 0) (is_unit : Bool) (t : Node) (ts us : List Node) (len : ℕ) → t ≡ Many ts → is_unit ≡ false → len ≡ length ts → AreNamedTo becomes Items len ts us
    → IsChildNamed becomes is_unit t (Many us)
free_list_named becomes is_unit t ts us len is none all h =
    let each : EachBecomes becomes Items ts us = each_named becomes Items ts us len (omega (arith, all)) h in
    named_below becomes is_unit t (Many us) none (list_named becomes t ts us is each) (list_fits_as becomes t ts us is each)

pub free_tree_named : (becomes : Node → Node → Type 0) (is_unit : Bool) (t : Node) (k : Kind) (ts us : List Node) (len : ℕ) → t ≡ Tree k ts → is_unit ≡ false → len ≡ length ts → AreNamedTo becomes (Fields k) len ts us
    → IsChildNamed becomes is_unit t (Tree k us)
free_tree_named becomes is_unit t k ts us len is none all h =
    let each : EachBecomes becomes (Fields k) ts us = each_named becomes (Fields k) ts us len (omega (arith, all)) h in
    named_below becomes is_unit t (Tree k us) none (tree_named becomes t k ts us is each) (tree_fits_as becomes t k ts us is each)

-- ---- the next child

pub either_first : (a b x : Bool) → a ≡ true → x ≡ a → x ≡ (a || b)
either_first true b x h e = e
either_first false b x h e = absurd (cc)

pub either_second : (a b x : Bool) → a ≡ false → x ≡ b → x ≡ (a || b)
either_second true b x h e = absurd (cc)
either_second false b x h e = e

pub with_reader : (r f : Bool) → r ≡ true → (r || not f) ≡ true
with_reader true f h = refl
with_reader false f h = absurd (cc)

pub before_reader : (r f : Bool) → f ≡ false → (r || not f) ≡ true
before_reader true f h = refl
before_reader false true h = absurd (cc)
before_reader false false h = refl

-- one that has a reader, or where none was found before
pub next_walked : (becomes : Node → Node → Type 0) (found is_unit : Bool) (before after : Node) (read : Bool) → (read || not found) ≡ true → IsWalked becomes before read after → IsNextWalked becomes found is_unit before read after
next_walked becomes found is_unit before after read test w = record {
  reads = w.reads;
  named = λ h. named (has h);
  kept = λ n m. w.kept (λ h. let shown : read ≡ true = w.reads.1 h in absurd (cc));
}
  where
    has : IsTrue found ⊎ HasEval before → HasEval before
    has (inr h) = h
    has (inl f) = w.reads.0 (by read found test f)
      where
        by : (r f : Bool) → (r || not f) ≡ true → f ≡ true → r ≡ true
        by true f t e = refl
        by false true t e = t
        by false false t e = e

    named : HasEval before → IsChildNamed becomes is_unit before after
    named h = record { alone = λ u n. absurd (n h); below = λ b. w.named h; fits = w.fits h }

pub next_free : (becomes : Node → Node → Type 0) (before after : Node) (read : Bool) → read ≡ false → IsWalked becomes before read after → HasEval after → ⊥
next_free becomes before after read none w h = free (subst HasEval (w.kept free) h)
  where
    free : HasEval before → ⊥
    free h = let shown : read ≡ true = w.reads.1 h in absurd (cc)

pub next_kept : (becomes : Node → Node → Type 0) (before after : Node) (read : Bool) → read ≡ false → IsWalked becomes before read after → after ≡ before
next_kept becomes before after read none w = w.kept (λ h. let shown : read ≡ true = w.reads.1 h in absurd (cc))

pub next_named : (becomes : Node → Node → Type 0) (found is_unit : Bool) (before after : Node) (read : Bool) → read ≡ false → found ≡ true → IsWalked becomes before read after
    → (last : Node) → IsChildNamed becomes is_unit after last → IsNextWalked becomes found is_unit before false last
next_named becomes found is_unit before after read none some w last h = record {
  reads = (λ f. absurd (cc), λ h. let now : read ≡ true = w.reads.1 h in absurd (cc));
  named = λ any. subst (λ n. IsChildNamed becomes is_unit n last) (next_kept becomes before after read none w) h;
  kept = λ n m. absurd (cc);
}

-- what is refused, of the whole
pub whole_refusal : (refuses : Node → PassError → Type 0) (before after : Node) (r : Result Node PassError) → after ≡ before → IfErr r (RefusesChild refuses false after) → IfErr r (RefusesUnit refuses before)
whole_refusal refuses before after (Ok t) same h = tt
whole_refusal refuses before after (Err e) same h = subst (λ n. RefusesUnit refuses n e) same (whole_refused refuses after e h)
