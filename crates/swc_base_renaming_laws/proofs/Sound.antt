-- What meets by the fold, meets by the paths.
use Rattle.std.proofs.Common.{◌≡◌, ℕ, zero, suc, Bool, true, false, not, ◌&&◌, ◌==◌, IsTrue, ◌⊎◌, inl, inr, ⊎_elim, Option, Some, None, List, [], ◌∷◌, ◌++◌, map, Contains, refl, sym, ap, ◌∙◌, subst, cond, arith}
use Rattle.std.specs.List.{filter, slice_get}
use Rattle.swc_tree_marks.specs.declared.ident.Ident.{Ident}
use Rattle.swc_tree_node.specs.declared.kind.Kind.{Kind}
use Rattle.swc_tree_node.specs.declared.node.Node.{Node, Identifier, out-Node}
use Rattle.swc_tree_node.specs.declared.node.Node.TheOpen.{Node-F}
use Rattle.swc_tree_scoping.specs.declared.places.Standing.{Standing}
use Rattle.swc_tree_scoping.specs.declared.places.Place.{Place}
use Rattle.swc_tree_scoping.specs.Folds.{each_in}
use Rattle.swc_tree_scoping.specs.Places.{Path, child, children_in, has_own_name, place_at, place_below, place_in}
use Rattle.swc_tree_scoping.specs.Scopes.{is_binding, is_name}
use Rattle.swc_tree_scoping.specs.BoundNames.{Id}
use Rattle.swc_tree_scoping.proofs.Remarked.{identifier_is}
use Rattle.swc_tree_scoping.proofs.Under.{by_children, place_under}
use Rattle.swc_tree_sites.specs.Smaller.{In}
use Rattle.swc_tree_sites.proofs.Loose.{in_cases, lowered, or_else}
use Rattle.swc_base_rename_analysis.specs.declared.scopes.ScopeKind.{ScopeKind}
use Rattle.swc_base_rename_analysis.specs.declared.scopes.ScopeKind.TheVariants.{Block}
use Rattle.swc_base_rename_analysis.specs.Analysis.{body_kind, first_taking, has_identifier, is_for_body, is_outside, opened_here, opened_round, own_kind, takes}
use Rattle.swc_base_rename_analysis_laws.proofs.Rounds.{IsRoundIn}
use Rattle.swc_base_rename_scoped_laws.proofs.Takers.{analysed_in, analysed_under}
use Rattle.swc_base_renaming_laws.specs.Meetings.{Bound, Meeting, Met, beside, both, field_met, fields_where, id_of, in_scope, items_met, met_in, name_met, nothing, takes_so, tree_met, used}
use Rattle.swc_base_renaming_laws.proofs.Within.{in_beside, in_filter}
use Rattle.swc_base_renaming_laws.proofs.Meets.{M, NameIn, OwnUse, Uses, ins, is_out, kids, out_is, outs, own_of, takes_is}

abbrev root : Option Path
root = Some []

abbrev no_root : Option Path
no_root = None

kid_from : (places : ℕ → Place) (ts : List Node) (j : ℕ) (m : Meeting) → slice_get (each_in M places ts) j ≡ Some m → (c : Node) × (slice_get ts j ≡ Some c) × (m ≡ M (places j) c)
kid_from places [] j m h = absurd (cc)
kid_from places (t ∷ ts) zero m h = let same : M (places zero) t ≡ m = cc in (t, refl, sym same)
kid_from places (t ∷ ts) (suc j) m h = kid_from (λ i. places (suc i)) ts j m h

-- one of the three lists
module _ {A : Type 0} (sel : Met → List A) (none : sel nothing ≡ []) (sum : (a b : Met) → sel (both a b) ≡ sel a ++ sel b) where
  from_field : (f : ℕ → Bool) (g : ℕ → Meeting → Met) (ms : List Meeting) (z : A) → In z (sel (fields_where f g ms)) → (j : ℕ) × (m : Meeting) × (slice_get ms j ≡ Some m) × (f j ≡ true) × In z (sel (g j m))
  from_field f g [] z h = absurd (subst (In z) none h)
  from_field f g (n ∷ ms) z h = ⊎_elim (here (f zero) refl) (λ i. let (j, m, e, t, k) = from_field (λ i. f (suc i)) (λ i. g (suc i)) ms z i in (suc j, m, e, t, k))
      (in_cases z (sel (cond (f zero) (g zero n) nothing)) (sel (fields_where (λ i. f (suc i)) (λ i. g (suc i)) ms)) (subst (In z) (sum (cond (f zero) (g zero n) nothing) (fields_where (λ i. f (suc i)) (λ i. g (suc i)) ms)) h))
    where
      here : (b : Bool) → f zero ≡ b → In z (sel (cond (f zero) (g zero n) nothing)) → (j : ℕ) × (m : Meeting) × (slice_get (n ∷ ms) j ≡ Some m) × (f j ≡ true) × In z (sel (g j m))
      here true e i = (zero, n, refl, e, subst (λ b. In z (sel (cond b (g zero n) nothing))) e i)
      here false e i = absurd (subst (In z) none (subst (λ b. In z (sel (cond b (g zero n) nothing))) e i))

  from_item : (ms : List Meeting) (z : A) → In z (sel (items_met ms)) → (j : ℕ) × (m : Meeting) × (slice_get ms j ≡ Some m) × In z (sel (m false None))
  from_item [] z h = absurd (subst (In z) none h)
  from_item (n ∷ ms) z h = ⊎_elim (λ i. (zero, n, refl, i)) (λ i. let (j, m, e, k) = from_item ms z i in (suc j, m, e, k))
      (in_cases z (sel (n false None)) (sel (items_met ms)) (subst (In z) (sum (n false None) (items_met ms)) h))

  -- from which child
  abbrev FromChild : Place → Node-F Node → A → Type 0
  FromChild w y z = (j : ℕ) × (c : Node) × (slice_get (children_in y) j ≡ Some c) × In z (sel (M (place_in w y j) c (is_for_body y j) (own_of y j)))

  abbrev Inside : Place → Kind → List Node → ℕ → Type 0
  Inside w k ts j = is_outside w k (has_identifier ts) j ≡ false

  not_out : (b : Bool) → not b ≡ true → b ≡ false
  not_out true h = absurd (cc)
  not_out false h = refl

  from_ins : (w : Place) (k : Kind) (ts : List Node) (z : A) → In z (sel (ins w k ts)) → (h : FromChild w (Node-F.Tree k ts) z) × Inside w k ts h.0
  from_ins w k ts z h =
      let (j, m, e, t, i) = from_field (λ i. not (is_out w k ts i)) (field_met k ts) (kids w k ts) z h in
      let (c, there, is) = kid_from (place_in w (Node-F.Tree k ts)) ts j m e in
      ((j, c, there, subst (λ (m : Meeting). In z (sel (m (is_for_body (Node-F.Tree k ts) j) (own_of (Node-F.Tree k ts) j)))) is i), not_out (is_out w k ts j) t)

  from_outs : (w : Place) (k : Kind) (ts : List Node) (z : A) → In z (sel (outs w k ts)) → (h : FromChild w (Node-F.Tree k ts) z) × (is_outside w k (has_identifier ts) h.0 ≡ true)
  from_outs w k ts z h =
      let (j, m, e, t, i) = from_field (is_out w k ts) (field_met k ts) (kids w k ts) z h in
      let (c, there, is) = kid_from (place_in w (Node-F.Tree k ts)) ts j m e in
      ((j, c, there, subst (λ (m : Meeting). In z (sel (m (is_for_body (Node-F.Tree k ts) j) (own_of (Node-F.Tree k ts) j)))) is i), t)

  from_items : (w : Place) (ts : List Node) (z : A) → In z (sel (items_met (each_in M (place_in w (Node-F.List ts)) ts))) → FromChild w (Node-F.List ts) z
  from_items w ts z h =
      let (j, m, e, i) = from_item (each_in M (place_in w (Node-F.List ts)) ts) z h in
      let (c, there, is) = kid_from (place_in w (Node-F.List ts)) ts j m e in
      (j, c, there, subst (λ (m : Meeting). In z (sel (m false None))) is i)

-- ---- names

record Named (w : Place) (t : Node) (y : Id) : Type 0 where
  pub path : Path
  pub place : Place
  pub kind : Kind
  pub name : Ident
  pub stands : place_at w t path ≡ Some (place, Identifier kind name)
  pub names : is_name place.standing ≡ true
  pub same : id_of name ≡ y

there_is : (t c : Node) (y : Node-F Node) (j : ℕ) → out-Node t ≡ y → slice_get (children_in y) j ≡ Some c → child t j ≡ Some c
there_is t c y j o e = ap (λ y. slice_get (children_in y) j) o ∙ e

named_under : (w : Place) (t c : Node) (j : ℕ) (y : Id) → child t j ≡ Some c → Named (place_below w t j) c y → Named w t y
named_under w t c j y e n = record { path = j ∷ n.path; place = n.place; kind = n.kind; name = n.name; stands = place_under w t c j n.path e ∙ n.stands; names = n.names; same = n.same }

abbrev Names : Node → Type 0
Names t = (w : Place) (f : Bool) (own : Option Ident) (y : Id) → In y (M w t f own).names → Named w t y

only : {A : Type 0} (b : Bool) (x y : A) → In y (cond b (x ∷ []) []) → (b ≡ true) × (x ≡ y)
only true x y (inl e) = (refl, e)
only true x y (inr h) = absurd h
only false x y h = absurd h

scope_names : (y : Id) (o : Option ScopeKind) (own : Option Ident) (a : Met) → In y (in_scope o own a).names → In y a.names
scope_names y None own a h = h
scope_names y (Some k) own a h = h

names_from : (t : Node) → Names t
names_from = by_children Names (λ t below w f own y h. at t below w f own y h (out-Node t) refl)
  where
    at : (t : Node) → ((i : ℕ) (c : Node) → child t i ≡ Some c → Names c) → (w : Place) (f : Bool) (own : Option Ident) (y : Id) → In y (M w t f own).names → (x : Node-F Node) → out-Node t ≡ x → Named w t y
    at t below w f own y h x o = forms x o (subst (λ (a : Met). In y a.names) (out_is w t x f own o) h)
      where
        child_named : (x : Node-F Node) → out-Node t ≡ x → FromChild (λ (a : Met). a.names) refl (λ a b. refl) w x y → Named w t y
        child_named x o (j, c, there, i) =
            let e = there_is t c x j o there in
            named_under w t c j y e (below j c e (place_below w t j) (is_for_body (out-Node t) j) (own_of (out-Node t) j) y (subst (λ x. In y (M (place_in w x j) c (is_for_body x j) (own_of x j)).names) (sym o) i))

        forms : (x : Node-F Node) → out-Node t ≡ x → In y (met_in w x (each_in M (place_in w x) (children_in x)) f own).names → Named w t y
        forms (Node-F.Identifier k i) o h =
            let (n, same) = only (is_name w.standing) (id_of i) y h in
            record { path = []; place = w; kind = k; name = i; stands = ap (λ t. Some (w, t)) (identifier_is t k i o); names = n; same = same }
        forms (Node-F.Tree k ts) o h = ⊎_elim (λ i. child_named (Node-F.Tree k ts) o (from_outs (λ (a : Met). a.names) refl (λ a b. refl) w k ts y i).0)
            (λ i. child_named (Node-F.Tree k ts) o (from_ins (λ (a : Met). a.names) refl (λ a b. refl) w k ts y (scope_names y (body_kind f (own_kind w k (has_own_name ts))) own (ins w k ts) i)).0)
            (in_cases y (outs w k ts).names (in_scope (body_kind f (own_kind w k (has_own_name ts))) own (ins w k ts)).names h)
        forms (Node-F.List ts) o h = child_named (Node-F.List ts) o (from_items (λ (a : Met). a.names) refl (λ a b. refl) w ts y h)
        forms Node-F.Absent o h = absurd h
        forms (Node-F.Flag v) o h = absurd h
        forms (Node-F.Word v) o h = absurd h
        forms (Node-F.Text v) o h = absurd h
        forms (Node-F.Span v) o h = absurd h

-- ---- what no scope takes

record Pending (f : Bool) (w : Place) (t : Node) (b : Bound) : Type 0 where
  pub path : Path
  pub place : Place
  pub kind : Kind
  pub name : Ident
  pub stands : place_at w t path ≡ Some (place, Identifier kind name)
  pub binds : is_binding place.standing ≡ true
  pub so : takes Block place.standing ≡ b.0
  pub same : id_of name ≡ b.1
  pub taken : analysed_in f w t place.standing path ≡ None

-- what the scope of a node takes of a child
outside_none : (r : Standing) (o : Option ScopeKind) (x : Bool) → x ≡ true → first_taking r (cond x [] (opened_here o)) ≡ None
outside_none r o x e = ap (λ x. first_taking r (cond x [] (opened_here o))) e

inside_by : (r : Standing) (o p : Option ScopeKind) (x : Bool) → x ≡ false → o ≡ p → first_taking r (cond x [] (opened_here o)) ≡ first_taking r (opened_here p)
inside_by r o p x e g = ap (λ x. first_taking r (cond x [] (opened_here o))) e ∙ ap (λ o. first_taking r (opened_here o)) g

takes_none : (r : Standing) (k : ScopeKind) → takes k r ≡ false → first_taking r (opened_here (Some k)) ≡ None
takes_none r k e = ap (λ b. cond b root no_root) e

takes_here : (r : Standing) (k : ScopeKind) → takes k r ≡ true → first_taking r (opened_here (Some k)) ≡ Some []
takes_here r k e = ap (λ b. cond b root no_root) e

-- no scope there takes it
abbrev NotTaken : Option ScopeKind → Bool → Type 0
NotTaken None x = Unit {0}
NotTaken (Some k) x = takes_so k x ≡ false

none_taken : (r : Standing) (o : Option ScopeKind) (x : Bool) → takes Block r ≡ x → NotTaken o x → first_taking r (opened_here o) ≡ None
none_taken r None x e n = refl
none_taken r (Some k) x e n = takes_none r k (sym (takes_is k r) ∙ ap (takes_so k) e ∙ n)

pending_under : (f : Bool) (w : Place) (t c : Node) (j : ℕ) (b : Bound) → child t j ≡ Some c → Pending (is_for_body (out-Node t) j) (place_below w t j) c b
    → ((r : Standing) → takes Block r ≡ b.0 → first_taking r (opened_round f w (out-Node t) j) ≡ None) → Pending f w t b
pending_under f w t c j b e n none = record {
  path = j ∷ n.path;
  place = n.place;
  kind = n.kind;
  name = n.name;
  stands = place_under w t c j n.path e ∙ n.stands;
  binds = n.binds;
  so = n.so;
  same = n.same;
  taken = analysed_under f w t c n.place.standing j n.path e ∙ ap (λ x. or_else (lowered j x) (first_taking n.place.standing (opened_round f w (out-Node t) j))) n.taken ∙ none n.place.standing n.so;
}

abbrev Pends : Node → Type 0
Pends t = (w : Place) (f : Bool) (own : Option Ident) (b : Bound) → In b (M w t f own).pending → Pending f w t b

not_true : (b : Bool) → not b ≡ true → b ≡ false
not_true true h = absurd (cc)
not_true false h = refl

-- what is pending at a node is pending inside, and its scope does not take it
scope_pending : (b : Bound) (o : Option ScopeKind) (own : Option Ident) (a : Met) → In b (in_scope o own a).pending → In b a.pending × NotTaken o b.0
scope_pending b None own a h = (h, tt)
scope_pending b (Some k) own a h = let (i, e) = in_filter (λ c. not (takes_so k c.0)) b a.pending h in (i, not_true (takes_so k b.0) e)

pending_from : (t : Node) → Pends t
pending_from = by_children Pends (λ t below w f own b h. at t below w f own b h (out-Node t) refl)
  where
    at : (t : Node) → ((i : ℕ) (c : Node) → child t i ≡ Some c → Pends c) → (w : Place) (f : Bool) (own : Option Ident) (b : Bound) → In b (M w t f own).pending → (x : Node-F Node) → out-Node t ≡ x → Pending f w t b
    at t below w f own b h x o = forms x o (subst (λ (a : Met). In b a.pending) (out_is w t x f own o) h)
      where
        child_pends : (x : Node-F Node) → out-Node t ≡ x → (g : FromChild (λ (a : Met). a.pending) refl (λ a b. refl) w x b) → ((r : Standing) → takes Block r ≡ b.0 → first_taking r (opened_round f w x g.0) ≡ None) → Pending f w t b
        child_pends x o (j, c, there, i) none =
            let e = there_is t c x j o there in
            pending_under f w t c j b e
            (below j c e (place_below w t j) (is_for_body (out-Node t) j) (own_of (out-Node t) j) b (subst (λ x. In b (M (place_in w x j) c (is_for_body x j) (own_of x j)).pending) (sym o) i))
            (λ r so. ap (λ x. first_taking r (opened_round f w x j)) o ∙ none r so)

        forms : (x : Node-F Node) → out-Node t ≡ x → In b (met_in w x (each_in M (place_in w x) (children_in x)) f own).pending → Pending f w t b
        forms (Node-F.Identifier k i) o h =
            let (n, same) = only {A = Bound} (is_binding w.standing) (takes Block w.standing, id_of i) b h in
            record {
              path = [];
              place = w;
              kind = k;
              name = i;
              stands = ap (λ t. Some (w, t)) (identifier_is t k i o);
              binds = n;
              so = ap (λ (b : Bound). b.0) same;
              same = ap (λ (b : Bound). b.1) same;
              taken = refl;
            }
        forms (Node-F.Tree k ts) o h = ⊎_elim
            (λ i. let (g, out) = from_outs (λ (a : Met). a.pending) refl (λ a b. refl) w k ts b i in
            child_pends (Node-F.Tree k ts) o g (λ r so. outside_none r (body_kind f (own_kind w k (has_own_name ts))) (is_outside w k (has_identifier ts) g.0) out))
            (λ i.
            let (n, none) = scope_pending b (body_kind f (own_kind w k (has_own_name ts))) own (ins w k ts) i in
            let (g, out) = from_ins (λ (a : Met). a.pending) refl (λ a b. refl) w k ts b n in
            child_pends (Node-F.Tree k ts) o g
            (λ r so. inside_by r (body_kind f (own_kind w k (has_own_name ts))) (body_kind f (own_kind w k (has_own_name ts))) (is_outside w k (has_identifier ts) g.0) out refl ∙ none_taken r (body_kind f (own_kind w k (has_own_name ts))) b.0 so none))
            (in_cases b (outs w k ts).pending (in_scope (body_kind f (own_kind w k (has_own_name ts))) own (ins w k ts)).pending h)
        forms (Node-F.List ts) o h = child_pends (Node-F.List ts) o (from_items (λ (a : Met). a.pending) refl (λ a b. refl) w ts b h) (λ r so. refl)
        forms Node-F.Absent o h = absurd h
        forms (Node-F.Flag v) o h = absurd h
        forms (Node-F.Word v) o h = absurd h
        forms (Node-F.Text v) o h = absurd h
        forms (Node-F.Span v) o h = absurd h

-- ---- what meets

pub record PairAt (f : Bool) (own : Option Ident) (w : Place) (t : Node) (z : Id × Id) : Type 0 where
  pub path : Path
  pub place : Place
  pub kind : Kind
  pub name : Ident
  pub stands : place_at w t path ≡ Some (place, Identifier kind name)
  pub binds : is_binding place.standing ≡ true
  pub same : id_of name ≡ z.0
  pub scope : Path
  pub taken : analysed_in f w t place.standing path ≡ Some scope
  pub uses : Uses f own w t scope z.1

uses_above : (f : Bool) (own : Option Ident) (w : Place) (t c : Node) (j : ℕ) (s : Path) (y : Id) → child t j ≡ Some c → Uses (is_for_body (out-Node t) j) (own_of (out-Node t) j) (place_below w t j) c s y → Uses f own w t (j ∷ s) y
uses_above f own w t c j s y e (inl n) =
    inl (record { path = j ∷ n.path; place = n.place; kind = n.kind; name = n.name; stands = place_under w t c j n.path e ∙ n.stands; names = n.names; same = n.same; inside = (refl, (c, e, n.inside)) })
uses_above f own w t c j s y e (inr (inl u)) = inr (inl (c, e, inr u))
uses_above f own w t c j s y e (inr (inr u)) = inr (inl (c, e, inl u))

pair_under : (f : Bool) (own : Option Ident) (w : Place) (t c : Node) (j : ℕ) (z : Id × Id) → child t j ≡ Some c → PairAt (is_for_body (out-Node t) j) (own_of (out-Node t) j) (place_below w t j) c z → PairAt f own w t z
pair_under f own w t c j z e n = record {
  path = j ∷ n.path;
  place = n.place;
  kind = n.kind;
  name = n.name;
  stands = place_under w t c j n.path e ∙ n.stands;
  binds = n.binds;
  same = n.same;
  scope = j ∷ n.scope;
  taken = analysed_under f w t c n.place.standing j n.path e ∙ ap (λ x. or_else (lowered j x) (first_taking n.place.standing (opened_round f w (out-Node t) j))) n.taken;
  uses = uses_above f own w t c j n.scope z.1 e n.uses;
}

abbrev Pairs : Node → Type 0
Pairs t = (w : Place) (f : Bool) (own : Option Ident) (z : Id × Id) → In z (M w t f own).pairs → PairAt f own w t z

opened_to : (o : Bool) (m : Option ScopeKind) (k : ScopeKind) → o ≡ false → m ≡ Some k → (a : ScopeKind) × Contains (cond o [] (opened_here m)) ([], a)
opened_to o m k e g = (k, subst (λ o. Contains (cond o [] (opened_here m)) ([], k)) (sym e) (subst (λ m. Contains (opened_here m) ([], k)) (sym g) (0, omega arith, refl)))

module _ (t : Node) (w : Place) (f : Bool) (own : Option Ident) (k : Kind) (ts : List Node) (o : out-Node t ≡ Node-F.Tree k ts) (a : ScopeKind) (opens : body_kind f (own_kind w k (has_own_name ts)) ≡ Some a) where
  -- a binding inside that the scope takes, and what occurs in the scope
  used_so : (y : Id) → In y (used own ++ (ins w k ts).names) → Uses f own w t [] y
  used_so y h = ⊎_elim (λ u. inr (inr (refl, u))) inner (in_cases y (used own) (ins w k ts).names h)
    where
      inner : In y (ins w k ts).names → Uses f own w t [] y
      inner i =
          let ((j, c, there, n), out) = from_ins (λ (a : Met). a.names) refl (λ a b. refl) w k ts y i in
          let e = there_is t c (Node-F.Tree k ts) j o there in
          let m = names_from c (place_below w t j) (is_for_body (out-Node t) j) (own_of (out-Node t) j) y (subst (λ x. In y (M (place_in w x j) c (is_for_body x j) (own_of x j)).names) (sym o) n) in
          inl (record {
            path = j ∷ m.path;
            place = m.place;
            kind = m.kind;
            name = m.name;
            stands = place_under w t c j m.path e ∙ m.stands;
            names = m.names;
            same = m.same;
            inside = subst (λ x. (a : ScopeKind) × Contains (opened_round f w x j) ([], a)) (sym o) (opened_to (is_outside w k (has_identifier ts) j) (body_kind f (own_kind w k (has_own_name ts))) a out opens);
          })

  taken_pair : (z : Id × Id) (b : Bound) → In b (ins w k ts).pending → takes_so a b.0 ≡ true → b.1 ≡ z.0 → In z.1 (used own ++ (ins w k ts).names) → PairAt f own w t z
  taken_pair z b i taken e n =
      let ((j, c, there, p), out) = from_ins (λ (a : Met). a.pending) refl (λ a b. refl) w k ts b i in
      let at_c = there_is t c (Node-F.Tree k ts) j o there in
      let m = pending_from c (place_below w t j) (is_for_body (out-Node t) j) (own_of (out-Node t) j) b (subst (λ x. In b (M (place_in w x j) c (is_for_body x j) (own_of x j)).pending) (sym o) p) in
      record {
        path = j ∷ m.path;
        place = m.place;
        kind = m.kind;
        name = m.name;
        stands = place_under w t c j m.path at_c ∙ m.stands;
        binds = m.binds;
        same = m.same ∙ e;
        scope = [];
        taken = analysed_under f w t c m.place.standing j m.path at_c
            ∙ ap (λ x. or_else (lowered j x) (first_taking m.place.standing (opened_round f w (out-Node t) j))) m.taken
            ∙ ap (λ x. first_taking m.place.standing (opened_round f w x j)) o
            ∙ inside_by m.place.standing (body_kind f (own_kind w k (has_own_name ts))) (Some a) (is_outside w k (has_identifier ts) j) out opens
            ∙ takes_here m.place.standing a (sym (takes_is a m.place.standing) ∙ ap (takes_so a) m.so ∙ taken);
        uses = used_so z.1 n;
      }

pub pairs_from : (t : Node) → Pairs t
pairs_from = by_children Pairs (λ t below w f own z h. at t below w f own z h (out-Node t) refl)
  where
    at : (t : Node) → ((i : ℕ) (c : Node) → child t i ≡ Some c → Pairs c) → (w : Place) (f : Bool) (own : Option Ident) (z : Id × Id) → In z (M w t f own).pairs → (x : Node-F Node) → out-Node t ≡ x → PairAt f own w t z
    at t below w f own z h x o = forms x o (subst (λ (a : Met). In z a.pairs) (out_is w t x f own o) h)
      where
        child_pair : (x : Node-F Node) → out-Node t ≡ x → FromChild (λ (a : Met). a.pairs) refl (λ a b. refl) w x z → PairAt f own w t z
        child_pair x o (j, c, there, i) =
            let e = there_is t c x j o there in
            pair_under f own w t c j z e (below j c e (place_below w t j) (is_for_body (out-Node t) j) (own_of (out-Node t) j) z (subst (λ x. In z (M (place_in w x j) c (is_for_body x j) (own_of x j)).pairs) (sym o) i))

        scoped : (k : Kind) (ts : List Node) → out-Node t ≡ Node-F.Tree k ts → (m : Option ScopeKind) → body_kind f (own_kind w k (has_own_name ts)) ≡ m → In z (in_scope m own (ins w k ts)).pairs → PairAt f own w t z
        scoped k ts o None e h = child_pair (Node-F.Tree k ts) o (from_ins (λ (a : Met). a.pairs) refl (λ a b. refl) w k ts z h).0
        scoped k ts o (Some a) e h = ⊎_elim
            (λ i. child_pair (Node-F.Tree k ts) o (from_ins (λ (a : Met). a.pairs) refl (λ a b. refl) w k ts z i).0)
            (λ i.
            let (b, taken, same, n) = in_beside z (filter (λ b. takes_so a b.0) (ins w k ts).pending) (used own ++ (ins w k ts).names) i in
            let (p, agreed) = in_filter (λ b. takes_so a b.0) b (ins w k ts).pending taken in
            taken_pair t w f own k ts o a e z b p agreed same n)
            (in_cases z (ins w k ts).pairs (beside (filter (λ b. takes_so a b.0) (ins w k ts).pending) (used own ++ (ins w k ts).names)) h)

        forms : (x : Node-F Node) → out-Node t ≡ x → In z (met_in w x (each_in M (place_in w x) (children_in x)) f own).pairs → PairAt f own w t z
        forms (Node-F.Identifier k i) o h = absurd h
        forms (Node-F.Tree k ts) o h = ⊎_elim (λ i. child_pair (Node-F.Tree k ts) o (from_outs (λ (a : Met). a.pairs) refl (λ a b. refl) w k ts z i).0)
            (scoped k ts o (body_kind f (own_kind w k (has_own_name ts))) refl)
            (in_cases z (outs w k ts).pairs (in_scope (body_kind f (own_kind w k (has_own_name ts))) own (ins w k ts)).pairs h)
        forms (Node-F.List ts) o h = child_pair (Node-F.List ts) o (from_items (λ (a : Met). a.pairs) refl (λ a b. refl) w ts z h)
        forms Node-F.Absent o h = absurd h
        forms (Node-F.Flag v) o h = absurd h
        forms (Node-F.Word v) o h = absurd h
        forms (Node-F.Text v) o h = absurd h
        forms (Node-F.Span v) o h = absurd h
