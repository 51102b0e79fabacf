-- What stands below a node that fits its place, where a test of kinds goes down through the table.
use Rattle.std.proofs.Common.{◌≡◌, ℕ, zero, suc, Bool, true, false, not, ◌&&◌, ◌||◌, ◌==◌, IsTrue, Option, Some, None, List, [], ◌∷◌, map, refl, sym, ap, ◌∙◌, subst}
use Rattle.std.proofs.lemmas.Bool.{eqb-true}
use Rattle.std.specs.List.{list_all, list_any, slice_get}
use Rattle.swc_tree_node.specs.declared.kind.Kind.{Kind}
use Rattle.swc_tree_node.specs.declared.kind.Kind.TheVariants as kind
use Rattle.swc_tree_node.specs.declared.kind.Class.{Class}
use Rattle.swc_tree_node.specs.declared.kind.Class.TheVariants as class
use Rattle.swc_tree_node.specs.declared.slot.Content.{Content}
use Rattle.swc_tree_node.specs.declared.slot.Content.TheVariants as content
use Rattle.swc_tree_node.specs.declared.slot.Slot.{Slot}
use Rattle.swc_tree_node.specs.declared.slot.Slot.TheVariants as slot
use Rattle.swc_tree_node.specs.declared.node.Node.{Node, out-Node, map-Node, fold_out-Node}
use Rattle.swc_tree_node.specs.declared.node.Node.TheOpen.{Node-F}
use Rattle.swc_tree_node.specs.Table.{slots_of, is_identifier, kind_number, kinds_of}
use Rattle.swc_tree_node.specs.Fits.{AllFit, FieldsFit, Fits, Test, belongs, each_fits, fit_step, fits, single, tree_fits, list_fits}
use Rattle.swc_tree_node.proofs.Fit.{all_open, both, fields_open}
use Rattle.swc_tree_scoping.specs.declared.places.Place.{Place}
use Rattle.swc_tree_scoping.specs.Places.{Path, children_in, child, place_below, place_at}
use Rattle.swc_tree_scoping.proofs.Under.{no_place_under, place_under}
use Rattle.swc_base_resolver_laws.proofs.Same.{impossible, some_same}

-- a node that fits, by its layer
pub layer_fits : (t : Node) (y : Node-F Node) (s : Slot) → out-Node t ≡ y → Fits t s → IsTrue (fit_step (map-Node Node Test fits y) s)
layer_fits t y s o h = subst (λ (f : Test). IsTrue (f s)) (fold_out-Node Test fit_step t ∙ ap (λ y. fit_step (map-Node Node Test fits y)) o) h

-- the children of a node that fits, each in its place
pub all_at : (s : Slot) (ts : List Node) (i : ℕ) (c : Node) → AllFit s ts → slice_get ts i ≡ Some c → Fits c s
all_at s [] i c h e = absurd (cc)
all_at s (t ∷ ts) zero c h e = subst (λ c. Fits c s) (some_same t c e) h.0
all_at s (t ∷ ts) (suc i) c h e = all_at s ts i c h.1 e

pub field_at : (ss : List Slot) (ts : List Node) (i : ℕ) (c : Node) → FieldsFit ss ts → slice_get ts i ≡ Some c → (s : Slot) × (slice_get ss i ≡ Some s) × Fits c s
field_at [] [] i c h e = absurd (cc)
field_at [] (t ∷ ts) i c h e = absurd h
field_at (s ∷ ss) [] i c h e = absurd h
field_at (s ∷ ss) (t ∷ ts) zero c h e = (s, refl, subst (λ c. Fits c s) (some_same t c e) h.0)
field_at (s ∷ ss) (t ∷ ts) (suc i) c h e = field_at ss ts i c h.1 e

pub all_true : (f : Slot → Bool) (ss : List Slot) (i : ℕ) (s : Slot) → list_all f ss ≡ true → slice_get ss i ≡ Some s → f s ≡ true
all_true f [] i s h e = absurd (cc)
all_true f (u ∷ us) zero s h e = subst (λ s. f s ≡ true) (some_same u s e) (both (f u) (list_all f us) h).0
all_true f (u ∷ us) (suc i) s h e = all_true f us i s (both (f u) (list_all f us) h).1 e

-- a kind of a class passes a test that all of the class pass
among_first : (p : ℕ → Bool) (n i : ℕ) (b rest every : Bool) → (n == i) ≡ b → IsTrue (b || rest) → (p i && every) ≡ true → (IsTrue rest → every ≡ true → p n ≡ true) → p n ≡ true
among_first p n i true rest every e h g next = let same : n ≡ i = eqb-true n i e in rw same (both (p i) every g).0
among_first p n i false rest every e h g next = next h (both (p i) every g).1

pub among : (p : ℕ → Bool) (n : ℕ) (ks : List Kind) → IsTrue (list_any (λ x. n == kind_number x) ks) → list_all (λ k. p (kind_number k)) ks ≡ true → p n ≡ true
among p n [] h g = impossible h
among p n (k ∷ ks) h g = among_first p n (kind_number k) (n == kind_number k) _ _ refl h g (among p n ks)

-- a test of kinds, of what a place takes
abbrev pub content_passes : (ℕ → Bool) → Content → Bool
content_passes p (content.Node c) = list_all (λ k. p (kind_number k)) (kinds_of c)
content_passes p _ = true

abbrev pub passes : (ℕ → Bool) → Slot → Bool
passes p (slot.One c) = content_passes p c
passes p (slot.Optional c) = content_passes p c
passes p (slot.List c) = content_passes p c
passes p (slot.Holes c) = content_passes p c
passes p (slot.OptionalList c) = content_passes p c
passes p slot.Pair = true
passes p slot.Pairs = true

-- a tree that fits, with its fields
pub of_tree : (k : Kind) (fs : List Test) (s : Slot) → IsTrue (tree_fits k fs (single s)) → (c : Class) × ((p : ℕ → Bool) → passes p s ≡ content_passes p (content.Node c)) × IsTrue (belongs k c) × IsTrue (each_fits (slots_of k) fs)
of_tree k fs (slot.One (content.Node c)) h = let p = both (not (is_identifier k)) (belongs k c && each_fits (slots_of k) fs) h in let q = both (belongs k c) (each_fits (slots_of k) fs) p.1 in (c, (λ p. refl), q.0, q.1)
of_tree k fs (slot.Optional (content.Node c)) h = let p = both (not (is_identifier k)) (belongs k c && each_fits (slots_of k) fs) h in let q = both (belongs k c) (each_fits (slots_of k) fs) p.1 in (c, (λ p. refl), q.0, q.1)
of_tree k fs (slot.One _) h = impossible h
of_tree k fs (slot.Optional _) h = impossible h
of_tree k fs _ h = impossible h

-- the items of a list
pair_passes : (p : ℕ → Bool) (i : ℕ) (s : Slot) → slice_get (slot.One content.Text ∷ slot.One content.Text ∷ []) i ≡ Some s → passes p s ≡ true
pair_passes p zero s e = ap (passes p) (sym (some_same (slot.One content.Text) s e))
pair_passes p (suc zero) s e = ap (passes p) (sym (some_same (slot.One content.Text) s e))
pair_passes p (suc (suc i)) s e = absurd (cc)

pub item_at : (p : ℕ → Bool) (s : Slot) (ts : List Node) (i : ℕ) (c : Node) → IsTrue (list_fits (map fits ts) s) → passes p s ≡ true → slice_get ts i ≡ Some c → (u : Slot) × Fits c u × (passes p u ≡ true)
item_at p (slot.List x) ts i c h g e = (slot.One x, all_at (slot.One x) ts i c (all_open (slot.One x) ts h) e, g)
item_at p (slot.Holes x) ts i c h g e = (slot.Optional x, all_at (slot.Optional x) ts i c (all_open (slot.Optional x) ts h) e, g)
item_at p (slot.OptionalList x) ts i c h g e = (slot.One x, all_at (slot.One x) ts i c (all_open (slot.One x) ts h) e, g)
item_at p slot.Pair ts i c h g e =
    let (u, z, f) = field_at (slot.One content.Text ∷ slot.One content.Text ∷ []) ts i c (fields_open (slot.One content.Text ∷ slot.One content.Text ∷ []) ts h) e in (u, f, pair_passes p i u z)
item_at p slot.Pairs ts i c h g e = (slot.Pair, all_at slot.Pair ts i c (all_open slot.Pair ts h) e, refl)
item_at p (slot.One x) ts i c h g e = impossible h
item_at p (slot.Optional x) ts i c h g e = impossible h

module _ (p : ℕ → Bool) (rows : (k : Kind) → p (kind_number k) ≡ true → list_all (passes p) (slots_of k) ≡ true) where
  -- a node that fits where the test passes has a kind that passes
  pub kind_passes : (t : Node) (k : Kind) (ts : List Node) (s : Slot) → out-Node t ≡ Node-F.Tree k ts → Fits t s → passes p s ≡ true → p (kind_number k) ≡ true
  kind_passes t k ts s o h g =
      let (c, content, belong, fields) = of_tree k (map fits ts) s (layer_fits t (Node-F.Tree k ts) s o h) in
      among p (kind_number k) (kinds_of c) belong (sym (content p) ∙ g)

  -- a child of what fits where the test passes does so too
  pub child_passes : (t c : Node) (i : ℕ) (s : Slot) (y : Node-F Node) → out-Node t ≡ y → Fits t s → passes p s ≡ true → child t i ≡ Some c → (u : Slot) × Fits c u × (passes p u ≡ true)
  child_passes t c i s (Node-F.List ts) o h g e = item_at p s ts i c (layer_fits t (Node-F.List ts) s o h) g (sym (ap (λ y. slice_get (children_in y) i) o) ∙ e)
  child_passes t c i s (Node-F.Tree k ts) o h g e =
      let (cl, content, belong, fields) = of_tree k (map fits ts) s (layer_fits t (Node-F.Tree k ts) s o h) in
      let (u, at, f) = field_at (slots_of k) ts i c (fields_open (slots_of k) ts fields) (sym (ap (λ y. slice_get (children_in y) i) o) ∙ e) in
      (u, f, all_true (passes p) (slots_of k) i u (rows k (kind_passes t k ts s o h g)) at)
  child_passes t c i s Node-F.Absent o h g e = let z : Some c ≡ None = sym e ∙ ap (λ y. slice_get (children_in y) i) o in absurd (cc)
  child_passes t c i s (Node-F.Flag x) o h g e = let z : Some c ≡ None = sym e ∙ ap (λ y. slice_get (children_in y) i) o in absurd (cc)
  child_passes t c i s (Node-F.Word x) o h g e = let z : Some c ≡ None = sym e ∙ ap (λ y. slice_get (children_in y) i) o in absurd (cc)
  child_passes t c i s (Node-F.Text x) o h g e = let z : Some c ≡ None = sym e ∙ ap (λ y. slice_get (children_in y) i) o in absurd (cc)
  child_passes t c i s (Node-F.Span x) o h g e = let z : Some c ≡ None = sym e ∙ ap (λ y. slice_get (children_in y) i) o in absurd (cc)
  child_passes t c i s (Node-F.Identifier k x) o h g e = let z : Some c ≡ None = sym e ∙ ap (λ y. slice_get (children_in y) i) o in absurd (cc)

  -- and so does all that stands below it
  pub below_passes : (q : Path) (w v : Place) (t n : Node) (s : Slot) → Fits t s → passes p s ≡ true → place_at w t q ≡ Some (v, n) → (u : Slot) × Fits n u × (passes p u ≡ true)
  below_passes [] w v t n s h g e = let is : t ≡ n = ap (λ (z : Place × Node). z.1) (some_same (w, t) (v, n) e) in (s, subst (λ n. Fits n s) is h, g)
  below_passes (i ∷ q) w v t n s h g e = at (child t i) refl (λ x c u f z. below_passes q x v c n u f z)
    where
      at : (o : Option Node) → child t i ≡ o → ((x : Place) (c : Node) (u : Slot) → Fits c u → passes p u ≡ true → place_at x c q ≡ Some (v, n) → (u : Slot) × Fits n u × (passes p u ≡ true)) → (u : Slot) × Fits n u × (passes p u ≡ true)
      at None o below = let z : ◌≡◌ {A = Option (Place × Node)} (Some (v, n)) None = sym e ∙ no_place_under w t i q o in absurd (cc)
      at (Some c) o below =
          let (u, f, z) = child_passes t c i s (out-Node t) refl h g o in
          below (place_below w t i) c u f z (sym (place_under w t c i q o) ∙ e)

-- the fields of a module
pub module_fields : (t : Node) (ts : List Node) → out-Node t ≡ Node-F.Tree kind.Module ts → Fits t (slot.One (content.Node class.Module)) → FieldsFit (slots_of kind.Module) ts
module_fields t ts o h = fields_open (slots_of kind.Module) ts (both (belongs kind.Module class.Module) (each_fits (slots_of kind.Module) (map fits ts)) (layer_fits t (Node-F.Tree kind.Module ts) (slot.One (content.Node class.Module)) o h)).1
