-- A search for a cause: at a node, below it, and among the children of one.
use Rattle.std.proofs.Common.{◌≡◌, ℕ, zero, suc, ◌+◌, ◌-◌, ◌<◌, ◌≤◌, ◌⊎◌, inl, inr, Bool, true, false, IsTrue, Option, Some, None, List, [], ◌∷◌, ◌++◌, length, take, get_or, refl, sym, ap, ◌∙◌, subst, arith, append-nil, append_assoc, Result, Ok, Err}
use Rattle.std.specs.List.{slice_get}
use Rattle.std.specs.Result.{IfOk}
use Rattle.std.proofs.lemmas.Option.{slice_get_read}
use Rattle.swc_tree_marks.specs.declared.ident.Ident.{Ident}
use Rattle.swc_tree_node.specs.declared.kind.Kind.{Kind}
use Rattle.swc_tree_node.specs.declared.node.Node.{Node, List as Many, Identifier, Tree, out-Node, roll-Node, roll-out-Node}
use Rattle.swc_tree_node.specs.declared.node.Node.TheOpen.{Node-F}
use Rattle.swc_tree_node.specs.declared.node.Node.TheVariants.{outs-Identifier, outs-List, outs-Tree, rolls-Identifier, rolls-List, rolls-Tree}
use Rattle.swc_tree_node.specs.Parts.{may_hold_names, may_hold_names_in}
use Rattle.swc_tree_scoping.specs.declared.below.PlacesBelow.{PlacesBelow}
use Rattle.swc_tree_scoping.specs.declared.below.PlacesBelow.TheVariants as below
use Rattle.swc_tree_scoping.specs.declared.places.Place.{Place}
use Rattle.swc_tree_scoping.specs.Below.{fields_are, place_of, places_of}
use Rattle.swc_tree_scoping.specs.Places.{Path, child, children_in, given, place_at, place_below}
use Rattle.swc_tree_scoping.proofs.Children.{fields_below, items_below}
use Rattle.swc_base_covers.specs.Shown.{ComesBefore, ShownAt, shows, shows_name, shows_tree}
use Rattle.swc_base_covers.specs.Sought.{IsSought, IsSoughtBelow, ShownBelow}
use Rattle.swc_base_covers.specs.declared.gap.Cause.{Cause}

some_same : {A : Type 0} (a b : A) → Some a ≡ Some b → a ≡ b
some_same a b e = cc

-- ---- at a node, by its layer

module _ (c : Cause) (w : Place) (t : Node) where
  at_top : ShownAt c w t [] → IsTrue (shows c w (out-Node t))
  at_top (v, n, is, h) = let e = some_same (w, t) (v, n) is in subst (λ x. IsTrue (shows c x.0 (out-Node x.1))) (sym e) h

  here : IsTrue (shows c w (out-Node t)) → ShownAt c w t []
  here h = (w, t, refl, h)

  in_child : (i : ℕ) (p : Path) → ShownAt c w t (i ∷ p) → (d : Node) × (child t i ≡ Some d) × ShownAt c (place_below w t i) d p
  in_child i p (v, n, is, h) = by (child t i) refl
    where
      by : (o : Option Node) → child t i ≡ o → (d : Node) × (child t i ≡ Some d) × ShownAt c (place_below w t i) d p
      by None e = let none : given None None (λ d. place_at (place_below w t i) d p) ≡ Some (v, n) = ap (λ o. given o None (λ d. place_at (place_below w t i) d p)) (sym e) ∙ is in absurd (cc)
      by (Some d) e = (d, e, (v, n, ap (λ o. given o None (λ d. place_at (place_below w t i) d p)) (sym e) ∙ is, h))

  of_child : (i : ℕ) (p : Path) (d : Node) → child t i ≡ Some d → ShownAt c (place_below w t i) d p → ShownAt c w t (i ∷ p)
  of_child i p d e (v, n, is, h) = (v, n, ap (λ o. given o None (λ d. place_at (place_below w t i) d p)) e ∙ is, h)

  nothing_before : (q : Path) → ComesBefore q [] → ¬ ShownAt c w t q
  nothing_before [] h = absurd h
  nothing_before (m ∷ q) h = absurd h

  first_here : (old : List ℕ) → IsTrue (shows c w (out-Node t)) → IsSought c w t old old true
  first_here old h = ([], sym (append-nil old), record { here = here h; first = nothing_before })

  -- where nothing stands below
  childless : (old : List ℕ) (r : Bool) → r ≡ shows c w (out-Node t) → children_in (out-Node t) ≡ [] → IsSought c w t old old r
  childless old true e none = first_here old (sym e)
  childless old false e none = (refl, nowhere)
    where
      no : {A : Type 0} → true ≡ false → A
      no h = absurd (cc)

      nowhere : (p : Path) → ShownAt c w t p → ⊥
      nowhere [] h = no (sym (at_top h) ∙ sym e)
      nowhere (i ∷ p) h =
          let (d, is, _) = in_child i p h in
          let gone : slice_get [] i ≡ Some d = ap (λ ts. slice_get ts i) (sym none) ∙ is in
          absurd (cc)

  -- where something does
  module _ (pl : PlacesBelow) (ts : List Node) (are : ts ≡ children_in (out-Node t)) (stand : places_of pl ts ≡ place_below w t) (silent : shows c w (out-Node t) ≡ false) where
    not_here : IsTrue (shows c w (out-Node t)) → ⊥
    not_here h = let wrong : true ≡ false = sym h ∙ silent in absurd (cc)

    from_below : (i : ℕ) (p : Path) → ShownBelow c pl ts i p → ShownAt c w t (i ∷ p)
    from_below i p (d, is, h) = of_child i p d (ap (λ ts. slice_get ts i) (sym are) ∙ is) (subst (λ places. ShownAt c (places i) d p) stand h)

    to_below : (i : ℕ) (p : Path) → ShownAt c w t (i ∷ p) → ShownBelow c pl ts i p
    to_below i p h = let (d, is, k) = in_child i p h in (d, ap (λ ts. slice_get ts i) are ∙ is, subst (λ places. ShownAt c (places i) d p) (sym stand) k)

    above : (old new : List ℕ) (r : Bool) → IsSoughtBelow c pl ts old new r → IsSought c w t old new r
    above old new true (i, p, is, f) = (i ∷ p, is, record { here = from_below i p f.here; first = earlier })
      where
        earlier : (q : Path) → ComesBefore q (i ∷ p) → ShownAt c w t q → ⊥
        earlier [] h k = not_here (at_top k)
        earlier (j ∷ q) h k = f.first j q h (to_below j q k)
    above old new false (is, none) = (is, nowhere)
      where
        nowhere : (p : Path) → ShownAt c w t p → ⊥
        nowhere [] k = not_here (at_top k)
        nowhere (i ∷ p) k = none i p (to_below i p k)

    pub above_all : {E : Type 0} (old new : List ℕ) (r : Result Bool E) → IfOk r (IsSoughtBelow c pl ts old new) → IfOk r (IsSought c w t old new)
    above_all old new (Err e) h = tt
    above_all old new (Ok r) h = above old new r h

-- ---- at a node, by what the code finds

pub tree_here : (c : Cause) (w : Place) (t : Node) (k : Kind) (ts fields : List Node) (old : List ℕ) (b : Bool) → t ≡ Tree k ts → fields ≡ ts → b ≡ shows_tree c k fields → b ≡ true → IsSought c w t old old true
tree_here c w t k ts fields old b is same told so = first_here c w t old (ap (λ t. shows c w (out-Node t)) is ∙ ap (shows c w) (outs-Tree k ts) ∙ ap (shows_tree c k) (sym same) ∙ sym told ∙ so)

pub tree_below : {E : Type 0} (c : Cause) (w : Place) (t : Node) (k : Kind) (ts fields below_too : List Node) (pl : PlacesBelow) (old new : List ℕ) (b : Bool) (r : Result Bool E) → t ≡ Tree k ts → fields ≡ ts → below_too ≡ ts
    → b ≡ shows_tree c k fields → b ≡ false → pl ≡ below.Fields (fields_are w k below_too) → IfOk r (IsSoughtBelow c pl below_too old new) → IfOk r (IsSought c w t old new)
tree_below c w t k ts fields below_too pl old new b r is same too told so stood h =
    above_all c w t pl below_too
    (too ∙ sym (ap (λ t. children_in (out-Node t)) is ∙ ap children_in (outs-Tree k ts)))
    (ap (λ pl. places_of pl below_too) stood ∙ fields_below w k below_too ∙ ap (λ ts. place_below w (Tree k ts)) too ∙ sym (ap (place_below w) is))
    (ap (λ t. shows c w (out-Node t)) is ∙ ap (shows c w) (outs-Tree k ts) ∙ ap (shows_tree c k) (sym same) ∙ sym told ∙ so)
    old new r h

pub list_below : {E : Type 0} (c : Cause) (w : Place) (t : Node) (ts items : List Node) (pl : PlacesBelow) (old new : List ℕ) (r : Result Bool E) → t ≡ Many ts → items ≡ ts → pl ≡ below.Items w
    → IfOk r (IsSoughtBelow c pl items old new) → IfOk r (IsSought c w t old new)
list_below c w t ts items pl old new r is same stood h =
    above_all c w t pl items
    (same ∙ sym (ap (λ t. children_in (out-Node t)) is ∙ ap children_in (outs-List ts)))
    (ap (λ pl. places_of pl items) stood ∙ items_below w items ∙ ap (λ ts. place_below w (Many ts)) same ∙ sym (ap (place_below w) is))
    (ap (λ t. shows c w (out-Node t)) is ∙ ap (shows c w) (outs-List ts))
    old new r h

pub name_here : (c : Cause) (w : Place) (t : Node) (k : Kind) (i j : Ident) (old : List ℕ) (b : Bool) → t ≡ Identifier k i → j ≡ i → b ≡ shows_name c w.standing j → IsSought c w t old old b
name_here c w t k i j old b is same told =
    childless c w t old b (told ∙ ap (shows_name c w.standing) same ∙ sym (ap (λ t. shows c w (out-Node t)) is ∙ ap (shows c w) (outs-Identifier k i))) (ap (λ t. children_in (out-Node t)) is ∙ ap children_in (outs-Identifier k i))

-- what may hold no name shows nothing, and nothing is below it
leaf_shows : (c : Cause) (w : Place) (t : Node) → may_hold_names t ≡ false → (p : Path) → ¬ ShownAt c w t p
leaf_shows c w t leaf = (childless c w t [] false (quiet (out-Node t) leaf) (bare (out-Node t) leaf)).1
  where
    quiet : (y : Node-F Node) → may_hold_names_in y ≡ false → false ≡ shows c w y
    quiet (Node-F.List ts) h = absurd (cc)
    quiet (Node-F.Tree k ts) h = absurd (cc)
    quiet (Node-F.Identifier k i) h = absurd (cc)
    quiet y h = refl

    bare : (y : Node-F Node) → may_hold_names_in y ≡ false → children_in y ≡ []
    bare (Node-F.List ts) h = absurd (cc)
    bare (Node-F.Tree k ts) h = absurd (cc)
    bare (Node-F.Identifier k i) h = absurd (cc)
    bare y h = refl

pub leaf_here : (c : Cause) (w : Place) (t : Node) (old : List ℕ) → ((ts : List Node) → t ≡ Many ts → ⊥) → ((k : Kind) (i : Ident) → t ≡ Identifier k i → ⊥) → ((k : Kind) (ts : List Node) → t ≡ Tree k ts → ⊥) → IsSought c w t old old false
leaf_here c w t old no_list no_name no_tree = (refl, leaf_shows c w t (leaf (out-Node t) refl))
  where
    rolled : (y : Node-F Node) → out-Node t ≡ y → t ≡ roll-Node y
    rolled y e = sym (roll-out-Node t) ∙ ap roll-Node e

    leaf : (y : Node-F Node) → out-Node t ≡ y → may_hold_names_in y ≡ false
    leaf (Node-F.List ts) e = absurd (no_list ts (rolled _ e ∙ rolls-List ts))
    leaf (Node-F.Tree k ts) e = absurd (no_tree k ts (rolled _ e ∙ rolls-Tree k ts))
    leaf (Node-F.Identifier k i) e = absurd (no_name k i (rolled _ e ∙ rolls-Identifier k i))
    leaf Node-F.Absent e = refl
    leaf (Node-F.Flag x) e = refl
    leaf (Node-F.Word x) e = refl
    leaf (Node-F.Text x) e = refl
    leaf (Node-F.Span x) e = refl

-- ---- among the children of one

abbrev pub NoneBefore : Cause → PlacesBelow → List Node → ℕ → Type 0
NoneBefore c pl ts n = (j : ℕ) (p : Path) → j < n → ShownBelow c pl ts j p → ⊥

module _ (c : Cause) (pl : PlacesBelow) (ts : List Node) (i : ℕ) (t : Node) (within : i < length ts) (is : t ≡ get_or ts i t) where
  there : slice_get ts i ≡ Some t
  there = slice_get_read ts (length ts) i t refl within is

  this_one : (w : Place) → w ≡ place_of pl i (Some t) → (p : Path) → ShownBelow c pl ts i p → ShownAt c w t p
  this_one w stood p (d, e, h) =
      let same : d ≡ t = some_same d t (sym e ∙ there) in
      subst (λ w. ShownAt c w t p) (sym (stood ∙ ap (place_of pl i) (sym there))) (subst (λ d. ShownAt c (places_of pl ts i) d p) same h)

  pub no_more : (w : Place) → w ≡ place_of pl i (Some t) → NoneBefore c pl ts i → ((p : Path) → ¬ ShownAt c w t p) → NoneBefore c pl ts (i + 1)
  no_more w stood before none j p l h = by (split j i (omega (arith, l)))
    where
      split : (j i : ℕ) → j < suc i → (j < i) ⊎ (j ≡ i)
      split zero zero l = inr refl
      split zero (suc i) l = inl (omega arith)
      split (suc j) zero l = absurd (omega (arith, l))
      split (suc j) (suc i) l = next (split j i (omega (arith, l)))
        where
          next : (j < i) ⊎ (j ≡ i) → (suc j < suc i) ⊎ (suc j ≡ suc i)
          next (inl m) = inl (omega (arith, m))
          next (inr e) = inr (ap suc e)

      by : (j < i) ⊎ (j ≡ i) → ⊥
      by (inl m) = before j p m h
      by (inr e) = none p (this_one w stood p (subst (λ j. ShownBelow c pl ts j p) e h))

  pub leaf_more : NoneBefore c pl ts i → may_hold_names t ≡ false → NoneBefore c pl ts (i + 1)
  leaf_more before leaf = no_more (place_of pl i (Some t)) refl before (leaf_shows c (place_of pl i (Some t)) t leaf)

  pub found_there : (w : Place) (old mid pushed new : List ℕ) (r : Bool) → w ≡ place_of pl i (Some t) → NoneBefore c pl ts i → mid ≡ old → pushed ≡ mid ++ i ∷ [] → IsSought c w t pushed new r → r ≡ true → IsSoughtBelow c pl ts old new true
  found_there w old mid pushed new false stood before e f h so = absurd (cc)
  found_there w old mid pushed new true stood before e f (p, goes, first) so = (
    i,
    p,
    goes ∙ ap (λ l. l ++ p) (f ∙ ap (λ l. l ++ i ∷ []) e) ∙ append_assoc old (i ∷ []) p,
    record { here = (t, there, subst (λ w. ShownAt c w t p) (stood ∙ ap (place_of pl i) (sym there)) first.here); first = earlier },
  )
    where
      earlier : (j : ℕ) (q : Path) → (j < i) ⊎ ((j ≡ i) × ComesBefore q p) → ShownBelow c pl ts j q → ⊥
      earlier j q (inl l) h = before j q l h
      earlier j q (inr (same, l)) h = first.first q l (this_one w stood q (subst (λ j. ShownBelow c pl ts j q) same h))

  pub passed_by : (w : Place) (pushed new : List ℕ) (r : Bool) → w ≡ place_of pl i (Some t) → NoneBefore c pl ts i → IsSought c w t pushed new r → r ≡ false → (new ≡ pushed) × NoneBefore c pl ts (i + 1)
  passed_by w pushed new true stood before h so = absurd (cc)
  passed_by w pushed new false stood before (same, none) so = (same, no_more w stood before none)

pub none_of_all : (c : Cause) (pl : PlacesBelow) (ts : List Node) (n : ℕ) → length ts ≤ n → NoneBefore c pl ts n → (i : ℕ) (p : Path) → ¬ ShownBelow c pl ts i p
none_of_all c pl ts n l none i p (d, is, h) = none i p (within ts i d is n l) (d, is, h)
  where
    within : (ts : List Node) (i : ℕ) (d : Node) → slice_get ts i ≡ Some d → (n : ℕ) → length ts ≤ n → i < n
    within [] i d e n l = absurd (cc)
    within (t ∷ ts) zero d e n l = omega (arith, l)
    within (t ∷ ts) (suc i) d e zero l = absurd (omega (arith, l))
    within (t ∷ ts) (suc i) d e (suc n) l = let m = within ts i d e n (omega (arith, l)) in omega (arith, m)

-- the last number is taken off again
pub popped : (old mid new : List ℕ) (n i : ℕ) → old ≡ mid ++ i ∷ [] → n ≡ length old → new ≡ take (n - 1) old → new ≡ mid
popped old mid new n i is long taken =
    let less : n - 1 ≡ length mid = omega (arith, long, ap length is, one_longer mid) in
    taken ∙ ap (λ m. take m old) less ∙ ap (λ l. take (length mid) l) is ∙ again mid
  where
    one_longer : (l : List ℕ) → length (l ++ i ∷ []) ≡ suc (length l)
    one_longer [] = refl
    one_longer (x ∷ l) = ap suc (one_longer l)

    again : (l : List ℕ) → take (length l) (l ++ i ∷ []) ≡ l
    again [] = refl
    again (x ∷ l) = ap (λ r. x ∷ r) (again l)
