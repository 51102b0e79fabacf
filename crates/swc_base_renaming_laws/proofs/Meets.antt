-- What meets by the paths, the fold says so.
use Rattle.std.proofs.Common.{◌≡◌, ℕ, zero, suc, Bool, true, false, not, ◌&&◌, IsTrue, ◌⊎◌, inl, inr, ⊎_elim, Option, Some, None, List, [], ◌∷◌, ◌++◌, map, Contains, refl, sym, ap, ◌∙◌, subst, cond}
use Rattle.std.specs.List.{filter, slice_get}
use Rattle.std.specs.Prelude.{if◌then◌else◌}
use Rattle.swc_tree_marks.specs.declared.ident.Ident.{Ident}
use Rattle.swc_tree_node.specs.declared.kind.Kind.{Kind}
use Rattle.swc_tree_node.specs.declared.node.Node.{Node, Identifier, out-Node}
use Rattle.swc_tree_node.specs.declared.node.Node.TheOpen.{Node-F}
use Rattle.swc_tree_node.specs.declared.node.Node.TheVariants.{outs-Identifier}
use Rattle.swc_tree_scoping.specs.declared.places.Standing.{Standing}
use Rattle.swc_tree_scoping.specs.declared.places.Place.{Place}
use Rattle.swc_tree_scoping.specs.Folds.{each_in}
use Rattle.swc_tree_scoping.specs.Places.{Path, child, children_in, has_own_name, place_at, place_below, place_in}
use Rattle.swc_tree_scoping.specs.Scopes.{is_binding, is_name}
use Rattle.swc_tree_scoping.specs.BoundNames.{Id}
use Rattle.swc_tree_scoping.proofs.Under.{each_in-at, fold_in_place_out, no_place_under, place_under}
use Rattle.swc_tree_sites.specs.Smaller.{In}
use Rattle.swc_tree_sites.proofs.Loose.{AtMostHere, in_left, in_right, lowered, or_else, some_same}
use Rattle.swc_base_rename_analysis.specs.declared.scopes.ScopeKind.{ScopeKind}
use Rattle.swc_base_rename_analysis.specs.declared.scopes.ScopeKind.TheVariants.{Block, Fn}
use Rattle.swc_base_rename_analysis.specs.Analysis.{body_kind, first_taking, has_identifier, is_for_body, is_outside, opened_here, opened_round, own_kind, takes}
use Rattle.swc_base_rename_analysis.specs.Walk.{own_name_below}
use Rattle.swc_base_rename_analysis.proofs.Kept.{none_there}
use Rattle.swc_base_rename_analysis_laws.proofs.Rounds.{IsRoundIn}
use Rattle.swc_base_rename_scoped_laws.proofs.Takers.{analysed_in, analysed_under, here_taken, taken_here_only}
use Rattle.swc_base_renaming_laws.specs.Meetings.{Bound, Meeting, Met, beside, both, enclosed, field_met, fields_where, id_of, in_scope, items_met, met_in, met_of, met_step, name_met, nothing, takes_so, tree_met, used}
use Rattle.swc_base_renaming_laws.proofs.Within.{beside_in, filter_in}

abbrev root : Option Path
root = Some []

abbrev no_root : Option Path
no_root = None

abbrev pub M : Place → Node → Meeting
M = met_of

pub out_is : (w : Place) (t : Node) (y : Node-F Node) (f : Bool) (own : Option Ident) → out-Node t ≡ y → M w t f own ≡ met_in w y (each_in M (place_in w y) (children_in y)) f own
out_is w t y f own o = ap (λ (m : Meeting). m f own) (fold_in_place_out met_step w t) ∙ ap (λ y. met_in w y (each_in M (place_in w y) (children_in y)) f own) o

-- the name that a child counts as using
abbrev pub own_of : Node-F Node → ℕ → Option Ident
own_of (Node-F.Tree k ts) i = own_name_below k ts i
own_of _ i = None

-- one of the three lists
module _ {A : Type 0} (sel : Met → List A) (sum : (a b : Met) → sel (both a b) ≡ sel a ++ sel b) where
  to_field : (f : ℕ → Bool) (g : ℕ → Meeting → Met) (ms : List Meeting) (j : ℕ) (m : Meeting) (z : A) → slice_get ms j ≡ Some m → f j ≡ true → In z (sel (g j m)) → In z (sel (fields_where f g ms))
  to_field f g [] j m z e t h = absurd (cc)
  to_field f g (n ∷ ms) zero m z e t h =
      let same : n ≡ m = cc in
      subst (In z) (sym (sum (cond (f zero) (g zero n) nothing) (fields_where (λ i. f (suc i)) (λ i. g (suc i)) ms)))
      (in_left z (sel (cond (f zero) (g zero n) nothing)) (sel (fields_where (λ i. f (suc i)) (λ i. g (suc i)) ms))
      (subst (λ b. In z (sel (cond b (g zero n) nothing))) (sym t) (subst (λ m. In z (sel (g zero m))) (sym same) h)))
  to_field f g (n ∷ ms) (suc j) m z e t h =
      subst (In z) (sym (sum (cond (f zero) (g zero n) nothing) (fields_where (λ i. f (suc i)) (λ i. g (suc i)) ms)))
      (in_right z (sel (cond (f zero) (g zero n) nothing)) (sel (fields_where (λ i. f (suc i)) (λ i. g (suc i)) ms)) (to_field (λ i. f (suc i)) (λ i. g (suc i)) ms j m z e t h))

  to_item : (ms : List Meeting) (j : ℕ) (m : Meeting) (z : A) → slice_get ms j ≡ Some m → In z (sel (m false None)) → In z (sel (items_met ms))
  to_item [] j m z e h = absurd (cc)
  to_item (n ∷ ms) zero m z e h =
      let same : n ≡ m = cc in
      subst (In z) (sym (sum (n false None) (items_met ms))) (in_left z (sel (n false None)) (sel (items_met ms)) (subst (λ (m : Meeting). In z (sel (m false None))) (sym same) h))
  to_item (n ∷ ms) (suc j) m z e h = subst (In z) (sym (sum (n false None) (items_met ms))) (in_right z (sel (n false None)) (sel (items_met ms)) (to_item ms j m z e h))

-- ---- the parts of a node: outside of its scope, and inside

module _ (w : Place) (k : Kind) (ts : List Node) where
  abbrev pub is_out : ℕ → Bool
  is_out i = is_outside w k (has_identifier ts) i

  abbrev pub kids : List Meeting
  kids = each_in M (place_in w (Node-F.Tree k ts)) ts

  abbrev pub outs : Met
  outs = fields_where is_out (field_met k ts) kids

  abbrev pub ins : Met
  ins = fields_where (λ i. not (is_out i)) (field_met k ts) kids

abbrev pub Child : Place → Node → ℕ → Node → Met
Child w t j c = M (place_below w t j) c (is_for_body (out-Node t) j) (own_of (out-Node t) j)

child_at : (t c : Node) (y : Node-F Node) (j : ℕ) → out-Node t ≡ y → child t j ≡ Some c → slice_get (children_in y) j ≡ Some c
child_at t c y j o e = sym (ap (λ y. slice_get (children_in y) j) o) ∙ e

module _ {A : Type 0} (sel : Met → List A) (sum : (a b : Met) → sel (both a b) ≡ sel a ++ sel b) (z : A) where
  abbrev at_child : Place → Node-F Node → ℕ → Node → Met
  at_child w y j c = M (place_in w y j) c (is_for_body y j) (own_of y j)

  to_outs : (w : Place) (k : Kind) (ts : List Node) (j : ℕ) (c : Node) → slice_get ts j ≡ Some c → is_outside w k (has_identifier ts) j ≡ true → In z (sel (at_child w (Node-F.Tree k ts) j c)) → In z (sel (outs w k ts))
  to_outs w k ts j c e o h = to_field sel sum (is_out w k ts) (field_met k ts) (kids w k ts) j (M (place_in w (Node-F.Tree k ts) j) c) z (each_in-at M (place_in w (Node-F.Tree k ts)) ts j c e) o h

  to_ins : (w : Place) (k : Kind) (ts : List Node) (j : ℕ) (c : Node) → slice_get ts j ≡ Some c → is_outside w k (has_identifier ts) j ≡ false → In z (sel (at_child w (Node-F.Tree k ts) j c)) → In z (sel (ins w k ts))
  to_ins w k ts j c e o h =
      to_field sel sum (λ i. not (is_out w k ts i)) (field_met k ts) (kids w k ts) j (M (place_in w (Node-F.Tree k ts) j) c) z (each_in-at M (place_in w (Node-F.Tree k ts)) ts j c e) (ap not o) h

  -- what a scope keeps of what is in it, as it does of names and of what meets
  module _ (kept : (o : Option ScopeKind) (own : Option Ident) (a : Met) → In z (sel a) → In z (sel (in_scope o own a))) where
    to_tree : (w : Place) (k : Kind) (ts : List Node) (f : Bool) (own : Option Ident) (j : ℕ) (c : Node) → slice_get ts j ≡ Some c → In z (sel (at_child w (Node-F.Tree k ts) j c)) → In z (sel (tree_met w k ts (kids w k ts) f own))
    to_tree w k ts f own j c e h = by (is_outside w k (has_identifier ts) j) refl
      where
        inner : Met
        inner = in_scope (body_kind f (own_kind w k (has_own_name ts))) own (ins w k ts)

        by : (b : Bool) → is_outside w k (has_identifier ts) j ≡ b → In z (sel (tree_met w k ts (kids w k ts) f own))
        by true o = subst (In z) (sym (sum (outs w k ts) inner)) (in_left z (sel (outs w k ts)) (sel inner) (to_outs w k ts j c e o h))
        by false o = subst (In z) (sym (sum (outs w k ts) inner))
            (in_right z (sel (outs w k ts)) (sel inner) (kept (body_kind f (own_kind w k (has_own_name ts))) own (ins w k ts) (to_ins w k ts j c e o h)))

    lifted : (w : Place) (t : Node) (f : Bool) (own : Option Ident) (j : ℕ) (c : Node) → child t j ≡ Some c → In z (sel (Child w t j c)) → In z (sel (M w t f own))
    lifted w t f own j c e h = forms (out-Node t) refl
      where
        forms : (y : Node-F Node) → out-Node t ≡ y → In z (sel (M w t f own))
        forms (Node-F.Tree k ts) o =
            subst (λ (a : Met). In z (sel a)) (sym (out_is w t (Node-F.Tree k ts) f own o))
            (to_tree w k ts f own j c (child_at t c (Node-F.Tree k ts) j o e) (subst (λ y. In z (sel (at_child w y j c))) o h))
        forms (Node-F.List ts) o =
            subst (λ (a : Met). In z (sel a)) (sym (out_is w t (Node-F.List ts) f own o))
            (to_item sel sum (each_in M (place_in w (Node-F.List ts)) ts) j (M (place_in w (Node-F.List ts) j) c) z (each_in-at M (place_in w (Node-F.List ts)) ts j c (child_at t c (Node-F.List ts) j o e)) (subst (λ y. In z (sel (at_child w y j c))) o h))
        forms Node-F.Absent o = let x = child_at t c _ j o e in absurd (cc)
        forms (Node-F.Flag x) o = let x = child_at t c _ j o e in absurd (cc)
        forms (Node-F.Word x) o = let x = child_at t c _ j o e in absurd (cc)
        forms (Node-F.Text x) o = let x = child_at t c _ j o e in absurd (cc)
        forms (Node-F.Span x) o = let x = child_at t c _ j o e in absurd (cc)
        forms (Node-F.Identifier l x) o = let x = child_at t c _ j o e in absurd (cc)

-- ---- names

names_kept : (x : Id) (o : Option ScopeKind) (own : Option Ident) (a : Met) → In x a.names → In x (in_scope o own a).names
names_kept x None own a h = h
names_kept x (Some k) own a h = h

pairs_kept : (z : Id × Id) (o : Option ScopeKind) (own : Option Ident) (a : Met) → In z a.pairs → In z (in_scope o own a).pairs
pairs_kept z None own a h = h
pairs_kept z (Some k) own a h = in_left z a.pairs (beside (filter (λ b. takes_so k b.0) a.pending) (used own ++ a.names)) h

name_here : (w : Place) (t : Node) (f : Bool) (own : Option Ident) (k : Kind) (i : Ident) → t ≡ Identifier k i → M w t f own ≡ name_met w.standing i
name_here w t f own k i e = out_is w t (Node-F.Identifier k i) f own (ap out-Node e ∙ outs-Identifier k i)

alone : {A : Type 0} (b : Bool) (x : A) → b ≡ true → In x (cond b (x ∷ []) [])
alone b x e = subst (λ b. In x (cond b (x ∷ []) [])) (sym e) (inl refl)

pub names_to : (p : Path) (w v : Place) (t : Node) (f : Bool) (own : Option Ident) (k : Kind) (i : Ident) → place_at w t p ≡ Some (v, Identifier k i) → is_name v.standing ≡ true → In (id_of i) (M w t f own).names
names_to [] w v t f own k i h n =
    let pair = some_same (w, t) (v, Identifier k i) h in
    subst (λ (a : Met). In (id_of i) a.names) (sym (name_here w t f own k i (ap (λ (q : Place × Node). q.1) pair)))
    (alone (is_name w.standing) (id_of i) (ap (λ (q : Place × Node). is_name q.0.standing) pair ∙ n))
names_to (j ∷ p) w v t f own k i h n = by (child t j) refl (λ c. names_to p (place_below w t j) v c (is_for_body (out-Node t) j) (own_of (out-Node t) j) k i)
  where
    by : (o : Option Node) → child t j ≡ o → ((c : Node) → place_at (place_below w t j) c p ≡ Some (v, Identifier k i) → is_name v.standing ≡ true → In (id_of i) (Child w t j c).names) → In (id_of i) (M w t f own).names
    by None e more = let z = sym h ∙ no_place_under w t j p e in absurd (cc)
    by (Some c) e more = lifted (λ (a : Met). a.names) (λ a b. refl) (id_of i) (names_kept (id_of i)) w t f own j c e (more c (sym (place_under w t c j p e) ∙ h) n)

-- ---- what no scope takes

none_both : (j : ℕ) (x y : Option Path) → or_else (lowered j x) y ≡ None → (x ≡ None) × (y ≡ None)
none_both j None y e = (refl, e)
none_both j (Some s) y e = absurd (cc)

not_taken : (o : Option ScopeKind) (r : Standing) → first_taking r (opened_here o) ≡ None → (k : ScopeKind) → o ≡ Some k → takes k r ≡ false
not_taken None r h k e = absurd (cc)
not_taken (Some a) r h k e = let same : a ≡ k = cc in by (takes a r) refl h same
  where
    by : (b : Bool) → takes a r ≡ b → cond b root no_root ≡ None → a ≡ k → takes k r ≡ false
    by true t h s = absurd (cc)
    by false t h s = ap (λ a. takes a r) (sym s) ∙ t

-- a scope takes what stands so just if it takes what a block takes, or does not
pub takes_is : (k : ScopeKind) (r : Standing) → takes_so k (takes Block r) ≡ takes k r
takes_is Fn r = refl
takes_is Block r = refl

still_pending : (o : Option ScopeKind) (own : Option Ident) (a : Met) (r : Standing) (x : Id) → first_taking r (opened_here o) ≡ None → In {X = Bound} (takes Block r, x) a.pending → In {X = Bound} (takes Block r, x) (in_scope o own a).pending
still_pending None own a r x n h = h
still_pending (Some k) own a r x n h = filter_in {X = Bound} (λ c. not (takes_so k c.0)) (takes Block r, x) a.pending h (ap not (takes_is k r ∙ not_taken (Some k) r n k refl))

pub pending_to : (p : Path) (w v : Place) (t : Node) (f : Bool) (own : Option Ident) (k : Kind) (i : Ident) → place_at w t p ≡ Some (v, Identifier k i) → is_binding v.standing ≡ true → analysed_in f w t v.standing p ≡ None
    → In {X = Bound} (takes Block v.standing, id_of i) (M w t f own).pending
pending_to [] w v t f own k i h n none =
    let pair = some_same (w, t) (v, Identifier k i) h in
    subst (λ (r : Standing). In {X = Bound} (takes Block r, id_of i) (M w t f own).pending) (ap (λ (q : Place × Node). q.0.standing) pair)
    (subst (λ (a : Met). In {X = Bound} (takes Block w.standing, id_of i) a.pending) (sym (name_here w t f own k i (ap (λ (q : Place × Node). q.1) pair)))
    (alone {A = Bound} (is_binding w.standing) (takes Block w.standing, id_of i) (ap (λ (q : Place × Node). is_binding q.0.standing) pair ∙ n)))
pending_to (j ∷ p) w v t f own k i h n none = by (child t j) refl (λ c. pending_to p (place_below w t j) v c (is_for_body (out-Node t) j) (own_of (out-Node t) j) k i)
  where
    by : (o : Option Node) → child t j ≡ o
        → ((c : Node) → place_at (place_below w t j) c p ≡ Some (v, Identifier k i) → is_binding v.standing ≡ true → analysed_in (is_for_body (out-Node t) j) (place_below w t j) c v.standing p ≡ None → In {X = Bound} (takes Block v.standing, id_of i) (Child w t j c).pending)
        → In {X = Bound} (takes Block v.standing, id_of i) (M w t f own).pending
    by None e more = let z = sym h ∙ no_place_under w t j p e in absurd (cc)
    by (Some c) e more = forms (out-Node t) refl
      where
        parts : (analysed_in (is_for_body (out-Node t) j) (place_below w t j) c v.standing p ≡ None) × (first_taking v.standing (opened_round f w (out-Node t) j) ≡ None)
        parts = none_both j _ _ (sym (analysed_under f w t c v.standing j p e) ∙ none)

        below : In {X = Bound} (takes Block v.standing, id_of i) (Child w t j c).pending
        below = more c (sym (place_under w t c j p e) ∙ h) n parts.0

        forms : (y : Node-F Node) → out-Node t ≡ y → In {X = Bound} (takes Block v.standing, id_of i) (M w t f own).pending
        forms (Node-F.Tree l ts) o = subst (λ (a : Met). In {X = Bound} (takes Block v.standing, id_of i) a.pending) (sym (out_is w t (Node-F.Tree l ts) f own o)) (at (is_outside w l (has_identifier ts) j) refl)
          where
            inner : Met
            inner = in_scope (body_kind f (own_kind w l (has_own_name ts))) own (ins w l ts)

            there : slice_get ts j ≡ Some c
            there = child_at t c (Node-F.Tree l ts) j o e

            it : In {X = Bound} (takes Block v.standing, id_of i) (M (place_in w (Node-F.Tree l ts) j) c (is_for_body (Node-F.Tree l ts) j) (own_of (Node-F.Tree l ts) j)).pending
            it = subst (λ y. In {X = Bound} (takes Block v.standing, id_of i) (M (place_in w y j) c (is_for_body y j) (own_of y j)).pending) o below

            at : (x : Bool) → is_outside w l (has_identifier ts) j ≡ x → In {X = Bound} (takes Block v.standing, id_of i) (tree_met w l ts (kids w l ts) f own).pending
            at true out = in_left {X = Bound} (takes Block v.standing, id_of i) (outs w l ts).pending inner.pending (to_outs (λ (a : Met). a.pending) (λ a b. refl) (takes Block v.standing, id_of i) w l ts j c there out it)
            at false out = in_right {X = Bound} (takes Block v.standing, id_of i) (outs w l ts).pending inner.pending
                (still_pending (body_kind f (own_kind w l (has_own_name ts))) own (ins w l ts) v.standing (id_of i)
                (sym (ap (λ x. first_taking v.standing (cond x [] (opened_here (body_kind f (own_kind w l (has_own_name ts)))))) out) ∙ sym (ap (λ y. first_taking v.standing (opened_round f w y j)) o) ∙ parts.1)
                (to_ins (λ (a : Met). a.pending) (λ a b. refl) (takes Block v.standing, id_of i) w l ts j c there out it))
        forms (Node-F.List ts) o =
            subst (λ (a : Met). In {X = Bound} (takes Block v.standing, id_of i) a.pending) (sym (out_is w t (Node-F.List ts) f own o))
            (to_item (λ (a : Met). a.pending) (λ a b. refl) (each_in M (place_in w (Node-F.List ts)) ts) j (M (place_in w (Node-F.List ts) j) c) (takes Block v.standing, id_of i)
            (each_in-at M (place_in w (Node-F.List ts)) ts j c (child_at t c (Node-F.List ts) j o e)) (subst (λ y. In {X = Bound} (takes Block v.standing, id_of i) (M (place_in w y j) c (is_for_body y j) (own_of y j)).pending) o below))
        forms Node-F.Absent o = let x = child_at t c _ j o e in absurd (cc)
        forms (Node-F.Flag x) o = let x = child_at t c _ j o e in absurd (cc)
        forms (Node-F.Word x) o = let x = child_at t c _ j o e in absurd (cc)
        forms (Node-F.Text x) o = let x = child_at t c _ j o e in absurd (cc)
        forms (Node-F.Span x) o = let x = child_at t c _ j o e in absurd (cc)
        forms (Node-F.Identifier l x) o = let x = child_at t c _ j o e in absurd (cc)

-- ---- what meets

-- a function in the node counts as using a name
abbrev pub OwnUse : Place → Node → Path → Id → Type 0
OwnUse w t [] y = ⊥
OwnUse w t (j ∷ s) y = (c : Node) × (child t j ≡ Some c) × (((s ≡ []) × In y (used (own_of (out-Node t) j))) ⊎ OwnUse (place_below w t j) c s y)

-- a name of the id stands in the scope
pub record NameIn (f : Bool) (w : Place) (t : Node) (s : Path) (y : Id) : Type 0 where
  pub path : Path
  pub place : Place
  pub kind : Kind
  pub name : Ident
  pub stands : place_at w t path ≡ Some (place, Identifier kind name)
  pub names : is_name place.standing ≡ true
  pub same : id_of name ≡ y
  pub inside : IsRoundIn f w t s path

-- the id occurs in the scope
abbrev pub Uses : Bool → Option Ident → Place → Node → Path → Id → Type 0
Uses f own w t s y = NameIn f w t s y ⊎ (OwnUse w t s y ⊎ ((s ≡ []) × In y (used own)))

some_both : (j : ℕ) (x y : Option Path) (s : Path) → AtMostHere y → or_else (lowered j x) y ≡ Some s → ((r : Path) × (x ≡ Some r) × (s ≡ j ∷ r)) ⊎ ((x ≡ None) × (y ≡ Some []) × (s ≡ []))
some_both j (Some r) y s m e = let same : (j ∷ r) ≡ s = cc in inl (r, refl, sym same)
some_both j None (Some []) s m e = let same : [] ≡ s = cc in inr (refl, refl, sym same)
some_both j None (Some (i ∷ q)) s m e = absurd m
some_both j None None s m e = absurd (cc)

one_node : {c d : Node} → Some c ≡ Some d → c ≡ d
one_node e = cc

no_path : {A : Type 0} (j : ℕ) (s : Path) → j ∷ s ≡ [] → A
no_path j s e = absurd (cc)

module _ (f : Bool) (own : Option Ident) (w : Place) (t c : Node) (j : ℕ) (s : Path) (y : Id) (at_c : child t j ≡ Some c) where
  name_below : (q : Path) (v : Place) (k : Kind) (i : Ident) → place_at w t q ≡ Some (v, Identifier k i) → is_name v.standing ≡ true → id_of i ≡ y → IsRoundIn f w t (j ∷ s) q → NameIn (is_for_body (out-Node t) j) (place_below w t j) c s y
  name_below [] v k i h n same r = absurd r
  name_below (l ∷ q) v k i h n same (e, (d, there, r)) =
      let one : d ≡ c = one_node (sym there ∙ ap (child t) (sym e) ∙ at_c) in
      record {
        path = q;
        place = v;
        kind = k;
        name = i;
        stands = sym (place_under w t c j q at_c) ∙ ap (λ l. place_at w t (l ∷ q)) e ∙ h;
        names = n;
        same = same;
        inside = subst (λ d. IsRoundIn (is_for_body (out-Node t) j) (place_below w t j) d s q) one (subst (λ l. IsRoundIn (is_for_body (out-Node t) l) (place_below w t l) d s q) (sym e) r);
      }

  uses_below : Uses f own w t (j ∷ s) y → Uses (is_for_body (out-Node t) j) (own_of (out-Node t) j) (place_below w t j) c s y
  uses_below (inl n) = inl (name_below n.path n.place n.kind n.name n.stands n.names n.same n.inside)
  uses_below (inr (inl (d, there, inl (e, u)))) = inr (inr (e, u))
  uses_below (inr (inl (d, there, inr o))) = inr (inl (subst (λ d. OwnUse (place_below w t j) d s y) (one_node (sym there ∙ at_c)) o))
  uses_below (inr (inr (e, u))) = no_path j s e

no_opened : (o : Bool) (m : Option ScopeKind) (k : ScopeKind) → Contains (cond o [] (opened_here m)) ([], k) → o ≡ false
no_opened true m k c = none_there c
no_opened false m k c = refl

module _ (w : Place) (t : Node) (f : Bool) (own : Option Ident) (l : Kind) (ts : List Node) (o : out-Node t ≡ Node-F.Tree l ts) where
  -- a name that stands in the scope of a node is among those inside
  name_ins : (q : Path) (v : Place) (k : Kind) (i : Ident) → place_at w t q ≡ Some (v, Identifier k i) → is_name v.standing ≡ true → IsRoundIn f w t [] q → In (id_of i) (ins w l ts).names
  name_ins [] v k i h n r = absurd r
  name_ins (j ∷ q) v k i h n (a, r) = by (child t j) refl
    where
      by : (x : Option Node) → child t j ≡ x → In (id_of i) (ins w l ts).names
      by None e = let z = sym h ∙ no_place_under w t j q e in absurd (cc)
      by (Some c) e =
          to_ins (λ (a : Met). a.names) (λ a b. refl) (id_of i) w l ts j c (child_at t c (Node-F.Tree l ts) j o e)
          (no_opened (is_outside w l (has_identifier ts) j) (body_kind f (own_kind w l (has_own_name ts))) a (subst (λ y. Contains (opened_round f w y j) ([], a)) o r))
          (subst (λ y. In (id_of i) (M (place_in w y j) c (is_for_body y j) (own_of y j)).names) o
          (names_to q (place_below w t j) v c (is_for_body (out-Node t) j) (own_of (out-Node t) j) k i (sym (place_under w t c j q e) ∙ h) n))

  used_there : (y : Id) → Uses f own w t [] y → In y (used own ++ (ins w l ts).names)
  used_there y (inl n) = in_right y (used own) (ins w l ts).names (subst (λ y. In y (ins w l ts).names) n.same (name_ins n.path n.place n.kind n.name n.stands n.names n.inside))
  used_there y (inr (inl u)) = absurd u
  used_there y (inr (inr (e, u))) = in_left y (used own) (ins w l ts).names u

  enclosed_pair : (b : Bound) (y : Id) (a : ScopeKind) → body_kind f (own_kind w l (has_own_name ts)) ≡ Some a → takes_so a b.0 ≡ true → In b (ins w l ts).pending → In y (used own ++ (ins w l ts).names) → In {X = Id × Id} (b.1, y) (M w t f own).pairs
  enclosed_pair b y a e taken i n =
      subst (λ (m : Met). In {X = Id × Id} (b.1, y) m.pairs) (sym (out_is w t (Node-F.Tree l ts) f own o))
      (in_right {X = Id × Id} (b.1, y) (outs w l ts).pairs (in_scope (body_kind f (own_kind w l (has_own_name ts))) own (ins w l ts)).pairs
      (subst (λ m. In {X = Id × Id} (b.1, y) (in_scope m own (ins w l ts)).pairs) (sym e)
      (in_right {X = Id × Id} (b.1, y) (ins w l ts).pairs (beside (filter (λ b. takes_so a b.0) (ins w l ts).pending) (used own ++ (ins w l ts).names))
      (beside_in b y (filter (λ b. takes_so a b.0) (ins w l ts).pending) (used own ++ (ins w l ts).names) (filter_in (λ b. takes_so a b.0) b (ins w l ts).pending i taken) n))))

pub pairs_to : (p s : Path) (f : Bool) (own : Option Ident) (w v : Place) (t : Node) (k : Kind) (i : Ident) (y : Id) → place_at w t p ≡ Some (v, Identifier k i) → is_binding v.standing ≡ true → analysed_in f w t v.standing p ≡ Some s
    → Uses f own w t s y → In {X = Id × Id} (id_of i, y) (M w t f own).pairs
pairs_to [] s f own w v t k i y h b e u = absurd (cc)
pairs_to (j ∷ p) s f own w v t k i y h b e u = by (child t j) refl (λ c r. pairs_to p r (is_for_body (out-Node t) j) (own_of (out-Node t) j) (place_below w t j) v c k i y)
  where
    by : (o : Option Node) → child t j ≡ o
        → ((c : Node) (r : Path) → place_at (place_below w t j) c p ≡ Some (v, Identifier k i) → is_binding v.standing ≡ true → analysed_in (is_for_body (out-Node t) j) (place_below w t j) c v.standing p ≡ Some r
        → Uses (is_for_body (out-Node t) j) (own_of (out-Node t) j) (place_below w t j) c r y → In {X = Id × Id} (id_of i, y) (Child w t j c).pairs)
        → In {X = Id × Id} (id_of i, y) (M w t f own).pairs
    by None z more = let x = sym h ∙ no_place_under w t j p z in absurd (cc)
    by (Some c) z more = ⊎_elim inner here
        (some_both j (analysed_in (is_for_body (out-Node t) j) (place_below w t j) c v.standing p) (first_taking v.standing (opened_round f w (out-Node t) j)) s (taken_here_only f w (out-Node t) j v.standing)
        (sym (analysed_under f w t c v.standing j p z) ∙ e))
      where
        there : place_at (place_below w t j) c p ≡ Some (v, Identifier k i)
        there = sym (place_under w t c j p z) ∙ h

        inner : (r : Path) × (analysed_in (is_for_body (out-Node t) j) (place_below w t j) c v.standing p ≡ Some r) × (s ≡ j ∷ r) → In {X = Id × Id} (id_of i, y) (M w t f own).pairs
        inner (r, taken, same) =
            lifted (λ (a : Met). a.pairs) (λ a b. refl) (id_of i, y) (pairs_kept (id_of i, y)) w t f own j c z
            (more c r there b taken (uses_below f own w t c j r y z (subst (λ s. Uses f own w t s y) same u)))

        here : (analysed_in (is_for_body (out-Node t) j) (place_below w t j) c v.standing p ≡ None) × (first_taking v.standing (opened_round f w (out-Node t) j) ≡ Some []) × (s ≡ []) → In {X = Id × Id} (id_of i, y) (M w t f own).pairs
        here (none, taken, same) = forms (out-Node t) refl
          where
            below : In {X = Bound} (takes Block v.standing, id_of i) (Child w t j c).pending
            below = pending_to p (place_below w t j) v c (is_for_body (out-Node t) j) (own_of (out-Node t) j) k i there b none

            forms : (x : Node-F Node) → out-Node t ≡ x → In {X = Id × Id} (id_of i, y) (M w t f own).pairs
            forms (Node-F.Tree l ts) o =
                let (a, out, opens, takes_it) = here_taken (is_outside w l (has_identifier ts) j) (body_kind f (own_kind w l (has_own_name ts))) v.standing (sym (ap (λ y. first_taking v.standing (opened_round f w y j)) o) ∙ taken) in
                enclosed_pair w t f own l ts o (takes Block v.standing, id_of i) y a opens (takes_is a v.standing ∙ takes_it)
                (to_ins (λ (a : Met). a.pending) (λ a b. refl) (takes Block v.standing, id_of i) w l ts j c (child_at t c (Node-F.Tree l ts) j o z) out
                (subst (λ x. In {X = Bound} (takes Block v.standing, id_of i) (M (place_in w x j) c (is_for_body x j) (own_of x j)).pending) o below))
                (used_there w t f own l ts o y (subst (λ s. Uses f own w t s y) same u))
            forms (Node-F.List ts) o = let z = sym (ap (λ y. first_taking v.standing (opened_round f w y j)) o) ∙ taken in absurd (cc)
            forms Node-F.Absent o = let z = sym (ap (λ y. first_taking v.standing (opened_round f w y j)) o) ∙ taken in absurd (cc)
            forms (Node-F.Flag x) o = let z = sym (ap (λ y. first_taking v.standing (opened_round f w y j)) o) ∙ taken in absurd (cc)
            forms (Node-F.Word x) o = let z = sym (ap (λ y. first_taking v.standing (opened_round f w y j)) o) ∙ taken in absurd (cc)
            forms (Node-F.Text x) o = let z = sym (ap (λ y. first_taking v.standing (opened_round f w y j)) o) ∙ taken in absurd (cc)
            forms (Node-F.Span x) o = let z = sym (ap (λ y. first_taking v.standing (opened_round f w y j)) o) ∙ taken in absurd (cc)
            forms (Node-F.Identifier l x) o = let z = sym (ap (λ y. first_taking v.standing (opened_round f w y j)) o) ∙ taken in absurd (cc)
