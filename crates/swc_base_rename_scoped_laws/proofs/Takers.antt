-- The scope of the analysis that declares a name is that of the language, or stands round it; but for a lexical name that
-- stands directly in the body of a `for` statement.
use Rattle.std.proofs.Common.{◌≡◌, ◌≢◌, ℕ, Bool, true, false, ◌⊎◌, inl, inr, Option, Some, None, List, [], ◌∷◌, ◌++◌, map, refl, sym, ap, ◌∙◌, subst, cond, true≢false}
use Rattle.std.specs.List.{slice_get}
use Rattle.std.specs.Prelude.{if◌then◌else◌}
use Rattle.swc_tree_node.specs.declared.kind.Kind.{Kind}
use Rattle.swc_tree_node.specs.declared.kind.Kind.TheVariants as kind
use Rattle.swc_tree_node.specs.declared.kind.Class.TheVariants as class
use Rattle.swc_tree_node.specs.declared.slot.Content.TheVariants as content
use Rattle.swc_tree_node.specs.declared.slot.Slot.{Slot}
use Rattle.swc_tree_node.specs.declared.slot.Slot.TheVariants as slot
use Rattle.swc_tree_node.specs.declared.node.Node.{Node, Identifier, out-Node}
use Rattle.swc_tree_node.specs.declared.node.Node.TheOpen.{Node-F}
use Rattle.swc_tree_node.specs.Table.{fields_of}
use Rattle.swc_tree_node.specs.Fits.{Fits}
use Rattle.swc_tree_scoping.specs.declared.places.Standing.{Standing}
use Rattle.swc_tree_scoping.specs.declared.places.Standing.TheVariants as standing
use Rattle.swc_tree_scoping.specs.declared.places.Place.{Place}
use Rattle.swc_tree_scoping.specs.Places.{Path, child, children_in, given, has_own_name, is_at, opened, opened_in, place_at, place_below, standing_below}
use Rattle.swc_tree_scoping.specs.Scopes.{is_binding, view_in}
use Rattle.swc_tree_scoping.proofs.Under.{no_place_under, place_under}
use Rattle.swc_tree_sites.specs.Sites.{Binding}
use Rattle.swc_tree_sites.proofs.Loose.{AtMostHere, Below, from_child, lowered, or_else, own, pends, taker_in, taker_under}
use Rattle.swc_tree_sites.proofs.Leaves.{Field, leaves_slot, may, same}
use Rattle.swc_tree_sites.proofs.Pending.{left_fits}
use Rattle.swc_base_rename_analysis.specs.declared.scopes.ScopeKind.{ScopeKind}
use Rattle.swc_base_rename_analysis.specs.declared.scopes.ScopeKind.TheVariants.{Block}
use Rattle.swc_base_rename_analysis.specs.Analysis.{Around, body_field, body_kind, first_taking, has_identifier, is_for_body, is_outside, opened_here, opened_round, own_kind, scopes_below, takes}
use Rattle.swc_base_rename_analysis.specs.Laws.{is_body_at}
use Rattle.swc_base_rename_analysis.proofs.Kept.{lower}
use Rattle.swc_base_rename_scoped_laws.proofs.Fields.{field_at, item_at, same_number}
use Rattle.swc_base_rename_scoped_laws.proofs.Openings.{field_stands, held}

-- the nearest scope of the analysis in a node that takes what stands so
abbrev pub analysed_in : Bool → Place → Node → Standing → Path → Option Path
analysed_in f w t r p = first_taking r (scopes_below f w t p)

taking_append : (r : Standing) (ss us : List Around) → first_taking r (ss ++ us) ≡ or_else (first_taking r ss) (first_taking r us)
taking_append r [] us = refl
taking_append r (s ∷ ss) us = next (takes s.1 r) (taking_append r ss us)
  where
    next : (b : Bool) → first_taking r (ss ++ us) ≡ or_else (first_taking r ss) (first_taking r us) → (if b then Some s.0 else first_taking r (ss ++ us)) ≡ or_else (if b then Some s.0 else first_taking r ss) (first_taking r us)
    next true e = refl
    next false e = e

taking_lowered : (r : Standing) (j : ℕ) (ss : List Around) → first_taking r (map (lower j) ss) ≡ lowered j (first_taking r ss)
taking_lowered r j [] = refl
taking_lowered r j (s ∷ ss) = next (takes s.1 r) (taking_lowered r j ss)
  where
    next : (b : Bool) → first_taking r (map (lower j) ss) ≡ lowered j (first_taking r ss) → (if b then Some (j ∷ s.0) else first_taking r (map (lower j) ss)) ≡ lowered j (if b then Some s.0 else first_taking r ss)
    next true e = refl
    next false e = e

pub analysed_under : (f : Bool) (w : Place) (t c : Node) (r : Standing) (j : ℕ) (p : Path) → child t j ≡ Some c
    → analysed_in f w t r (j ∷ p) ≡ or_else (lowered j (analysed_in (is_for_body (out-Node t) j) (place_below w t j) c r p)) (first_taking r (opened_round f w (out-Node t) j))
analysed_under f w t c r j p h =
    ap (λ o. first_taking r (map (lower j) (given o [] (λ c. scopes_below (is_for_body (out-Node t) j) (place_below w t j) c p)) ++ opened_round f w (out-Node t) j)) h
    ∙ taking_append r (map (lower j) (scopes_below (is_for_body (out-Node t) j) (place_below w t j) c p)) (opened_round f w (out-Node t) j)
    ∙ ap (λ o. or_else o (first_taking r (opened_round f w (out-Node t) j))) (taking_lowered r j (scopes_below (is_for_body (out-Node t) j) (place_below w t j) c p))

-- the second scope is the body of a `for` statement, which is the first, and the name is lexical
abbrev pub IsBodyOf : Node → Bool → Standing → Path → Path → Type 0
IsBodyOf t f r s u = (i : ℕ) × (u ≡ s ++ (i ∷ [])) × (is_body_at f t u ≡ true) × (r ≡ standing.Lexical)

-- of the language's scope and that of the analysis that take a name
abbrev pub IsHeld : Node → Bool → Standing → Option Path → Option Path → Type 0
IsHeld t f r None None = Unit {0}
IsHeld t f r (Some s) None = Unit {0}
IsHeld t f r None (Some u) = (f ≡ true) × (u ≡ []) × (r ≡ standing.Lexical)
IsHeld t f r (Some s) (Some u) = ((rest : Path) × (s ≡ u ++ rest)) ⊎ IsBodyOf t f r s u

-- the body of a `for` statement
abbrev IsStatement : Slot → Place → Type 0
IsStatement s w = (s ≡ slot.One (content.Node class.Stmt)) × (w.standing ≡ standing.Plain)

plain_apart : standing.Plain ≢ standing.DefaultExport
plain_apart e = absurd (cc)

some_field : {f g : Field} → Some f ≡ Some g → f ≡ g
some_field e = cc

pub body_number : (k : Kind) (j : ℕ) (f : Field) (w : Place) (ts : List Node) → is_at (body_field k) j ≡ true → slice_get (fields_of k) j ≡ Some f → (f.1 ≡ slot.One (content.Node class.Stmt)) × (standing_below w k ts j f.2 ≡ standing.Plain)
body_number kind.ForStmt j f w ts h e = let n : j ≡ 4 = sym (same_number 4 j h) in at (sym (ap (slice_get (fields_of kind.ForStmt)) n) ∙ e)
  where
    at : slice_get (fields_of kind.ForStmt) 4 ≡ Some f → (f.1 ≡ slot.One (content.Node class.Stmt)) × (standing_below w kind.ForStmt ts j f.2 ≡ standing.Plain)
    at e = (sym (ap (λ (f : Field). f.1) (some_field e)), sym (ap (λ (f : Field). standing_below w kind.ForStmt ts j f.2) (some_field e)))
body_number kind.ForInStmt j f w ts h e = let n : j ≡ 3 = sym (same_number 3 j h) in at (sym (ap (slice_get (fields_of kind.ForInStmt)) n) ∙ e)
  where
    at : slice_get (fields_of kind.ForInStmt) 3 ≡ Some f → (f.1 ≡ slot.One (content.Node class.Stmt)) × (standing_below w kind.ForInStmt ts j f.2 ≡ standing.Plain)
    at e = (sym (ap (λ (f : Field). f.1) (some_field e)), sym (ap (λ (f : Field). standing_below w kind.ForInStmt ts j f.2) (some_field e)))
body_number kind.ForOfStmt j f w ts h e = let n : j ≡ 4 = sym (same_number 4 j h) in at (sym (ap (slice_get (fields_of kind.ForOfStmt)) n) ∙ e)
  where
    at : slice_get (fields_of kind.ForOfStmt) 4 ≡ Some f → (f.1 ≡ slot.One (content.Node class.Stmt)) × (standing_below w kind.ForOfStmt ts j f.2 ≡ standing.Plain)
    at e = (sym (ap (λ (f : Field). f.1) (some_field e)), sym (ap (λ (f : Field). standing_below w kind.ForOfStmt ts j f.2) (some_field e)))
body_number _ j f w ts h e = absurd (true≢false (sym h))

body_taken : (w : Place) (k : Kind) (ts : List Node) (j : ℕ) → is_at (body_field k) j ≡ true → own (opened_in w (Node-F.Tree k ts)) (view_in (Node-F.Tree k ts) j) standing.Lexical ≡ Some []
body_taken w kind.ForStmt ts j h = refl
body_taken w kind.ForInStmt ts j h = refl
body_taken w kind.ForOfStmt ts j h = refl
body_taken w _ ts j h = absurd (true≢false (sym h))

body_taken_in : (w : Place) (t : Node) (j : ℕ) (y : Node-F Node) → out-Node t ≡ y → is_for_body y j ≡ true → own (opened w t) (view_in (out-Node t) j) standing.Lexical ≡ Some []
body_taken_in w t j (Node-F.Tree k ts) o h = ap (λ y. own (opened_in w y) (view_in y j) standing.Lexical) o ∙ body_taken w k ts j h
body_taken_in w t j Node-F.Absent o h = absurd (cc)
body_taken_in w t j _ o h = absurd (cc)

abbrev root : Option Path
root = Some []

-- what a node's own scopes take
pub here_taken : (o : Bool) (m : Option ScopeKind) (r : Standing) → first_taking r (if o then [] else opened_here m) ≡ Some [] → (a : ScopeKind) × (o ≡ false) × (m ≡ Some a) × (takes a r ≡ true)
here_taken true m r h = absurd (cc)
here_taken false None r h = absurd (cc)
here_taken false (Some a) r h = (a, refl, refl, by (takes a r) h)
  where
    by : (b : Bool) → (if b then root else None) ≡ root → b ≡ true
    by true h = refl
    by false h = absurd (cc)

here_only : (o : Bool) (m : Option ScopeKind) (r : Standing) → AtMostHere (first_taking r (if o then [] else opened_here m))
here_only true m r = tt
here_only false None r = tt
here_only false (Some a) r = by (takes a r)
  where
    by : (b : Bool) → AtMostHere (if b then Some [] else None)
    by true = tt
    by false = tt

pub taken_here_only : (f : Bool) (w : Place) (y : Node-F Node) (j : ℕ) (r : Standing) → AtMostHere (first_taking r (opened_round f w y j))
taken_here_only f w (Node-F.Tree k ts) j r = here_only (is_outside w k (has_identifier ts) j) (body_kind f (own_kind w k (has_own_name ts))) r
taken_here_only f w Node-F.Absent j r = tt
taken_here_only f w _ j r = tt

block_takes : (r : Standing) → takes Block r ≡ true → (r ≡ standing.Lexical) ⊎ (r ≡ standing.CatchParameter)
block_takes standing.Lexical h = inl refl
block_takes standing.CatchParameter h = inr refl
block_takes _ h = absurd (cc)

stmt_leaves : (own : Bool) (r : Standing) → r ≡ standing.CatchParameter → own ≡ false → may (leaves_slot (slot.One (content.Node class.Stmt))) own r ≡ true → ⊥
stmt_leaves own r e n h = let z : false ≡ true = (λ i. may (leaves_slot (slot.One (content.Node class.Stmt))) (sym n i) (sym e i)) ∙ h in absurd (cc)

own_only : (o : Option Path) → AtMostHere o → (o ≡ Some []) ⊎ (o ≡ None)
own_only None h = inr refl
own_only (Some []) h = inl refl
own_only (Some (i ∷ p)) h = absurd h

pub own_here : (b : Bool) → AtMostHere (cond b (Some []) None)
own_here true = tt
own_here false = tt

-- what the scope of the analysis at a node takes, that of the language does too
same_place : (f : Bool) (w : Place) (t c : Node) (s : Slot) (j : ℕ) (b : Binding) (y : Node-F Node) → out-Node t ≡ y → Fits t s → (f ≡ true → IsStatement s w) → child t j ≡ Some c → Below (place_below w t j) c b None
    → first_taking b.0 (opened_round f w y j) ≡ Some [] → (own (opened w t) (view_in (out-Node t) j) b.0 ≡ Some []) ⊎ ((f ≡ true) × (b.0 ≡ standing.Lexical))
same_place f w t c s j b (Node-F.Tree k ts) o fit body there g h = by (here_taken (is_outside w k (has_identifier ts) j) (body_kind f (own_kind w k (has_own_name ts))) b.0 h)
  where
    by : (a : ScopeKind) × (is_outside w k (has_identifier ts) j ≡ false) × (body_kind f (own_kind w k (has_own_name ts)) ≡ Some a) × (takes a b.0 ≡ true)
        → (own (opened w t) (view_in (out-Node t) j) b.0 ≡ Some []) ⊎ ((f ≡ true) × (b.0 ≡ standing.Lexical))
    by (a, n, e, tk) = next f (own_kind w k (has_own_name ts)) refl refl e
      where
        itself : own_kind w k (has_own_name ts) ≡ Some a → own (opened w t) (view_in (out-Node t) j) b.0 ≡ Some []
        itself e = held w t c k ts s j b a o fit there g e tk n

        next : (x : Bool) (m : Option ScopeKind) → f ≡ x → own_kind w k (has_own_name ts) ≡ m → body_kind x m ≡ Some a → (own (opened w t) (view_in (out-Node t) j) b.0 ≡ Some []) ⊎ ((f ≡ true) × (b.0 ≡ standing.Lexical))
        next false m z e h = inl (itself (e ∙ h))
        next true (Some d) z e h = inl (itself (e ∙ h))
        next true None z e h = kinds (block_takes b.0 (let same : Block ≡ a = cc in ap (λ a. takes a b.0) same ∙ tk))
          where
            kinds : (b.0 ≡ standing.Lexical) ⊎ (b.0 ≡ standing.CatchParameter) → (own (opened w t) (view_in (out-Node t) j) b.0 ≡ Some []) ⊎ ((f ≡ true) × (b.0 ≡ standing.Lexical))
            kinds (inl l) = inr (z, l)
            kinds (inr l) = at (own_only (own (opened w t) (view_in (out-Node t) j) b.0) (own_here _))
              where
                at : (own (opened w t) (view_in (out-Node t) j) b.0 ≡ Some []) ⊎ (own (opened w t) (view_in (out-Node t) j) b.0 ≡ None) → (own (opened w t) (view_in (out-Node t) j) b.0 ≡ Some []) ⊎ ((f ≡ true) × (b.0 ≡ standing.Lexical))
                at (inl e) = inl e
                at (inr e) =
                    let (slot_is, plain) = body z in
                    let left = left_fits t w s b fit (λ d. plain_apart (sym plain ∙ d)) ((pends t w b).1 (from_child w t c b j None there g e)) in
                    absurd (stmt_leaves (same w.standing b.0) b.0 l (λ i. same (plain i) (l i)) (subst (λ s. may (leaves_slot s) (same w.standing b.0) b.0 ≡ true) slot_is left))
same_place f w t c s j b Node-F.Absent o fit body there g h = absurd (cc)
same_place f w t c s j b _ o fit body there g h = absurd (cc)

-- the scopes of a child and those of the node itself
pub combine : (t c : Node) (f : Bool) (r : Standing) (j : ℕ) (x y o q : Option Path) → child t j ≡ Some c → IsHeld c (is_for_body (out-Node t) j) r x y → AtMostHere q → AtMostHere o
    → (x ≡ None → q ≡ Some [] → (o ≡ Some []) ⊎ ((f ≡ true) × (r ≡ standing.Lexical))) → (is_for_body (out-Node t) j ≡ true → r ≡ standing.Lexical → o ≡ Some [])
    → IsHeld t f r (or_else (lowered j x) o) (or_else (lowered j y) q)
combine t c f r j (Some s) (Some u) o q there (inl (rest, e)) m n here body = inl (rest, ap (λ s. j ∷ s) e)
combine t c f r j (Some s) (Some u) o q there (inr (i, e, is, l)) m n here body = inr (i, ap (λ s. j ∷ s) e, ap (λ o. given o false (λ c. is_body_at (is_for_body (out-Node t) j) c u)) there ∙ is, l)
combine t c f r j (Some s) None o None there h m n here body = tt
combine t c f r j (Some s) None o (Some []) there h m n here body = inl (j ∷ s, refl)
combine t c f r j (Some s) None o (Some (i ∷ p)) there h m n here body = absurd m
combine t c f r j None (Some u) o q there (fe, ue, le) m n here body = subst (λ o. IsHeld t f r o (Some (j ∷ u))) (sym (body fe le))
    (inr (j, ap (λ u. j ∷ u) ue, ap (λ o. given o false (λ c. is_body_at (is_for_body (out-Node t) j) c u)) there ∙ ap (is_body_at (is_for_body (out-Node t) j) c) ue ∙ fe, le))
combine t c f r j None None None None there h m n here body = tt
combine t c f r j None None (Some s) None there h m n here body = tt
combine t c f r j None None o (Some []) there h m n here body = by o n (here refl refl)
  where
    by : (o : Option Path) → AtMostHere o → (o ≡ Some []) ⊎ ((f ≡ true) × (r ≡ standing.Lexical)) → IsHeld t f r o (Some [])
    by None n (inl e) = absurd (cc)
    by None n (inr (fe, le)) = (fe, refl, le)
    by (Some []) n h = inl ([], refl)
    by (Some (i ∷ p)) n h = absurd n
combine t c f r j None None o (Some (i ∷ p)) there h m n here body = absurd m

no_body : false ≡ true → ⊥
no_body h = absurd (cc)

pub no_child : {A : Type 0} (t c : Node) (j : ℕ) (y : Node-F Node) → out-Node t ≡ y → slice_get (children_in y) j ≡ None → child t j ≡ Some c → A
no_child t c j y o n e = let z : Some c ≡ None = sym e ∙ ap (λ y. slice_get (children_in y) j) o ∙ n in absurd (cc)

pub takers_held : (p : Path) (f : Bool) (w : Place) (t : Node) (s : Slot) (b : Binding) (v : Place) (k : Kind) → Fits t s → (f ≡ true → IsStatement s w) → place_at w t p ≡ Some (v, Identifier k b.1) → v.standing ≡ b.0 → is_binding b.0 ≡ true
    → IsHeld t f b.0 (taker_in w t b.0 p) (analysed_in f w t b.0 p)
takers_held [] f w t s b v k fit body h so binds = tt
takers_held (j ∷ p) f w t s b v k fit body h so binds = at (child t j) refl (λ c u fit body h. takers_held p (is_for_body (out-Node t) j) (place_below w t j) c u b v k fit body h so binds)
  where
    at : (o : Option Node) → child t j ≡ o
        → ((c : Node) (u : Slot) → Fits c u → (is_for_body (out-Node t) j ≡ true → IsStatement u (place_below w t j)) → place_at (place_below w t j) c p ≡ Some (v, Identifier k b.1)
        → IsHeld c (is_for_body (out-Node t) j) b.0 (taker_in (place_below w t j) c b.0 p) (analysed_in (is_for_body (out-Node t) j) (place_below w t j) c b.0 p))
        → IsHeld t f b.0 (taker_in w t b.0 (j ∷ p)) (analysed_in f w t b.0 (j ∷ p))
    at None e more = let z = sym h ∙ no_place_under w t j p e in absurd (cc)
    at (Some c) e more = forms (out-Node t) refl
      where
        below : place_at (place_below w t j) c p ≡ Some (v, Identifier k b.1)
        below = sym (place_under w t c j p e) ∙ h

        joined : IsHeld c (is_for_body (out-Node t) j) b.0 (taker_in (place_below w t j) c b.0 p) (analysed_in (is_for_body (out-Node t) j) (place_below w t j) c b.0 p) → IsHeld t f b.0 (taker_in w t b.0 (j ∷ p)) (analysed_in f w t b.0 (j ∷ p))
        joined inner =
            subst (λ x. IsHeld t f b.0 x (analysed_in f w t b.0 (j ∷ p))) (sym (taker_under w t c b.0 j p e))
            (subst (λ y. IsHeld t f b.0 (or_else (lowered j (taker_in (place_below w t j) c b.0 p)) (own (opened w t) (view_in (out-Node t) j) b.0)) y) (sym (analysed_under f w t c b.0 j p e))
            (combine t c f b.0 j (taker_in (place_below w t j) c b.0 p) (analysed_in (is_for_body (out-Node t) j) (place_below w t j) c b.0 p) (own (opened w t) (view_in (out-Node t) j) b.0)
            (first_taking b.0 (opened_round f w (out-Node t) j)) e inner (taken_here_only f w (out-Node t) j b.0) (own_here _)
            (λ none taken. same_place f w t c s j b (out-Node t) refl fit body e (record { path = p; place = v; kind = k; stands = below; stands_so = so; binds = binds; taken = none }) taken)
            (λ is l. ap (own (opened w t) (view_in (out-Node t) j)) l ∙ body_taken_in w t j (out-Node t) refl is)))

        forms : (y : Node-F Node) → out-Node t ≡ y → IsHeld t f b.0 (taker_in w t b.0 (j ∷ p)) (analysed_in f w t b.0 (j ∷ p))
        forms (Node-F.Tree l ts) o =
            let (fd, number, fits_it) = field_at t c l ts s j o fit e in
            joined (more c fd.1 fits_it
            (λ is. let (slot_is, plain) = body_number l j fd w ts (sym (ap (λ y. is_for_body y j) o) ∙ is) number in (slot_is, field_stands w t l ts j fd o number ∙ plain)) below)
        forms (Node-F.List ts) o = let (u, fits_it, one) = item_at t c ts s j o fit e in joined (more c u fits_it (λ is. absurd (no_body (sym (ap (λ y. is_for_body y j) o) ∙ is))) below)
        forms Node-F.Absent o = no_child t c j Node-F.Absent o refl e
        forms (Node-F.Flag x) o = no_child t c j (Node-F.Flag x) o refl e
        forms (Node-F.Word x) o = no_child t c j (Node-F.Word x) o refl e
        forms (Node-F.Text x) o = no_child t c j (Node-F.Text x) o refl e
        forms (Node-F.Span x) o = no_child t c j (Node-F.Span x) o refl e
        forms (Node-F.Identifier l i) o = no_child t c j (Node-F.Identifier l i) o refl e
