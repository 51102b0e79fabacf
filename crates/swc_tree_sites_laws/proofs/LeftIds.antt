-- What is left of a program, of its answer and of the answer resolved has the same ids.
use Rattle.std.proofs.Common.{◌≡◌, ◌≢◌, ℕ, false, IsTrue, Some, List, [], ◌∷◌, Contains, refl, sym, ap, ◌∙◌, subst}
use Rattle.swc_tree_marks.specs.declared.ident.Ident.{Ident}
use Rattle.swc_tree_node.specs.declared.kind.Kind.{Kind}
use Rattle.swc_tree_node.specs.declared.node.Node.{Node, Identifier}
use Rattle.swc_tree_scoping.specs.declared.places.Standing.{Standing}
use Rattle.swc_tree_scoping.specs.declared.places.Standing.TheVariants as standing
use Rattle.swc_tree_scoping.specs.Declares.{IsUncaught}
use Rattle.swc_tree_scoping.specs.declared.places.Place.{Place}
use Rattle.swc_tree_scoping.specs.Places.{Path, place_at, program_place}
use Rattle.swc_tree_scoping.specs.Scopes.{IsScope, is_binding, taker}
use Rattle.swc_tree_scoping.specs.Readings.{by_ids, id_name}
use Rattle.swc_tree_scoping.specs.Resolved.{HasContext, Resolved}
use Rattle.swc_tree_scoping.specs.WellScoped.{Binds, EachInOneScope, IsClean, Stands}
use Rattle.swc_tree_scoping.proofs.First.{has_taker}
use Rattle.swc_tree_renaming.specs.Apart.{CapturesNone, DeclaredIn, HasNoSloppy, HasTexts, IsPlainProgram, Knows, MeansNoGlobalValue, NameAt, SameIds, SameScopes, nameless}
use Rattle.swc_tree_renaming.proofs.Core.{HasOwner, declared_taker, same_ids, taken_same}
use Rattle.swc_tree_renaming.proofs.Shape.{nameless_by_ids, nameless_remarked, same_scopes, some_same}
use Rattle.swc_tree_renaming.proofs.Whole.{by_id, from_ids, id_name_apart, id_name_same, identifier_same, ProgramLayer, in_program, program_layer, program_opens, program_too, stands_by_id, stands_there}
use Rattle.swc_tree_sites_laws.specs.Laws.{LeftKeepsIds}
use Rattle.swc_tree_sites.specs.Sites.{Binding, taken_at}
use Rattle.swc_tree_sites.specs.Smaller.{In, IsLeftOf, IsPlain}
use Rattle.swc_tree_sites.proofs.Captures.{captures_none}
use Rattle.swc_tree_sites.proofs.Marked.{taker_same}
use Rattle.swc_tree_sites.proofs.Marks.{IsMarked, marks_of}
use Rattle.swc_tree_sites.proofs.Owned.{has_owner, met}
use Rattle.swc_tree_sites.proofs.Owners.{marks_apart, others_resolved}
use Rattle.swc_tree_sites.proofs.Round.{taken_by, taken_is}
use Rattle.swc_tree_sites.proofs.Whole.{one_taker, one_taker_of_fewer, scopes_of_kept}

-- a clean plain program is plain
no_root : (t : Node) (r : Standing) (x : List ℕ) → Binds t [] r x → (s : Path) × (taker r t [] ≡ Some s)
no_root t r x b =
    let here : program_place ≡ b.at.place = ap (λ (q : Place × Node). q.0) (some_same (program_place, t) (b.at.place, Identifier b.at.kind b.at.identifier) b.at.stands) in
    let plain = subst (λ r. IsTrue (is_binding r)) (sym b.at.stands_so ∙ ap (λ (w : Place). w.standing) (sym here)) b.binds in
    absurd (cc)

plain_program : (t : Node) → ProgramLayer t → HasNoSloppy t → IsClean t → IsPlain t
plain_program t l none clean = record { unmarked = clean; settled = none; takes = takes }
  where
    takes : (p : Path) (r : Standing) (x : List ℕ) → Binds t p r x → (s : Path) × (taker r t p ≡ Some s)
    takes [] r x b = no_root t r x b
    takes (i ∷ p) r x b = has_taker t p i r (program_opens t l) b.binds

pub clean_ids : (t : Node) → IsClean (by_ids t)
clean_ids t p w k i h = let (l, j, e, is) = from_ids t p w k i h in ap (λ (i : Ident). i.ctxt) is

is_marked : (unresolved top : ℕ) (old new : List (ℕ × ℕ)) (v u : Node) → IsPlain v → (r : Resolved unresolved top old new v u) → IsMarked v u r.marks unresolved
is_marked unresolved top old new v u plain r = record {
  plain = plain;
  same = same;
  texts = λ p w z k l i j e g names. ap (λ (i : Ident). i.sym) (there p w z k l i j e g);
  one_to_one = r.one_to_one;
  resolved = λ p w k i h names.
      let (l, j, e) = same.back p w k i h in
      let is = there p w w l k j i e h in
      subst (λ c. HasContext r.marks unresolved v p i.sym w.standing c) (sym (ap (λ (i : Ident). i.ctxt) is))
      (subst (λ x. HasContext r.marks unresolved v p x w.standing (r.contexts p)) (sym (ap (λ (i : Ident). i.sym) is)) (r.resolved p w l j e (plain.unmarked p w l j e)));
}
  where
    same : SameScopes v u
    same = same_scopes v u (sym (nameless_remarked r.contexts v) ∙ ap nameless (sym r.only_contexts))

    there : (p : Path) (w z : Place) (k l : Kind) (i j : Ident) → place_at program_place v p ≡ Some (w, Identifier k i) → place_at program_place u p ≡ Some (z, Identifier l j) → j ≡ record i { ctxt = r.contexts p }
    there p w z k l i j e g =
        let node : Identifier l j ≡ Identifier k (record i { ctxt = r.contexts p })
        = ap (λ (q : Place × Node). q.1) (some_same (z, Identifier l j) (w, Identifier k (record i { ctxt = r.contexts p })) (sym g ∙ stands_there v u r.contexts r.only_contexts p w k i e)) in
        identifier_same l k j (record i { ctxt = r.contexts p }) node

ids_layer : (b : Node) → IsPlainProgram b → ProgramLayer (by_ids b)
ids_layer b h = program_too b (by_ids b) (sym (nameless_by_ids b)) (program_layer b h.0)

none_by_ids : (b : Node) → HasNoSloppy b → HasNoSloppy (by_ids b)
none_by_ids b none p w k i h = let (l, j, e, is) = from_ids b p w k i h in none p w l j e

plain_ids : (b : Node) → IsPlainProgram b → IsPlain (by_ids b)
plain_ids b h = plain_program (by_ids b) (ids_layer b h) (none_by_ids b h.1) (clean_ids b)

pub plain_clean : (b : Node) → IsPlainProgram b → IsClean b → IsPlain b
plain_clean b h clean = plain_program b (program_layer b h.0) h.1 clean

-- what is left of a program, read by ids
module _ (t a : Node) (text : List ℕ → List ℕ) (module_t : IsPlainProgram t) (module_a : IsPlainProgram a) (each : EachInOneScope (by_ids t)) (none : CapturesNone (by_ids t) text) (left : IsLeftOf (by_ids a) (by_ids t)) where
  pub one_scope : EachInOneScope (by_ids a)
  one_scope = scopes_of_kept (by_ids t) (by_ids a) (plain_ids t module_t) (plain_ids a module_a) left.names left.scopes each

  pub captures : CapturesNone (by_ids a) text
  captures = captures_none (by_ids t) (by_ids a) text (plain_ids t module_t) (plain_ids a module_a) left.names (one_taker_of_fewer (by_ids t) (by_ids a) left.scopes (one_taker (by_ids t) (plain_ids t module_t) each)) each none

pub settled : (a : Node) → IsPlainProgram a → HasNoSloppy (by_ids a)
settled a h = (plain_ids a h).settled

module _ (t a answer n u m : Node) (text : List ℕ → List ℕ) (unresolved top : ℕ) (old new : List (ℕ × ℕ)) (module_t : IsPlainProgram t) (module_a : IsPlainProgram a) (module_answer : IsPlainProgram answer) (module_n : IsPlainProgram n)
    (each : EachInOneScope (by_ids t)) (none : CapturesNone (by_ids t) text) (left : IsLeftOf (by_ids a) (by_ids t)) (shape : SameScopes (by_ids a) n) (cleared : IsClean n) (texts : HasTexts (by_ids a) text n)
    (clean : IsClean answer) (knows : Knows old unresolved) (r : Resolved unresolved top old new answer u) (left_there : IsLeftOf m u) (program : taken_at program_place m ≡ taken_at program_place u)
    (same : SameScopes n m) (kept_texts : HasTexts n (λ x. x) m) (none_answer : MeansNoGlobalValue answer) (none_n : MeansNoGlobalValue n) where
  abbrev A : Node
  A = by_ids a

  plain_n : IsPlain n
  plain_n = plain_clean n module_n cleared

  marked : IsMarked answer u r.marks unresolved
  marked = is_marked unresolved top old new answer u (plain_clean answer module_answer clean) r

  each_a : EachInOneScope A
  each_a = one_scope t a text module_t module_a each none left

  none_a : CapturesNone A text
  none_a = captures t a text module_t module_a each none left

  settled_a : HasNoSloppy A
  settled_a = settled a module_a

  abbrev Owns : List ℕ → List ℕ → Type 0
  Owns = HasOwner A n text shape (clean_ids a) cleared texts settled_a each_a none_a (marks_of m) unresolved none_n

  -- what the scope takes that declares a name
  taken : (s : Path) (x : List ℕ) → DeclaredIn A s x → (b : Binding) × In b (taken_by program_place m s)
  taken s x d =
      let at = d.binds.at in
      let here : taker d.standing A d.path ≡ Some s = declared_taker A d.standing d.path s x (λ e. settled_a d.path at.place at.kind at.identifier at.stands (at.stands_so ∙ e)) d.declared in
      let there : taker d.standing m d.path ≡ Some s
      = sym (taker_same n m plain_n same kept_texts d.standing d.path) ∙ sym (taken_same A n text shape (clean_ids a) cleared texts settled_a d.standing d.path) ∙ here in
      let (l, j, e) = shape.forth d.path at.place at.kind at.identifier at.stands in
      let (k, i, g) = same.forth d.path at.place l j e in
      ((d.standing, i), (taken_is s program_place m (d.standing, i)).1 (record { path = d.path; place = at.place; kind = k; stands = g; stands_so = at.stands_so; binds = d.binds.binds; taken = there }))

  others : (s : Path) → IsScope answer s → s ≢ [] → r.marks s ≢ unresolved
  others s h ne e = r.fresh s h ne knows.0 (subst (λ m. Contains old (m, knows.0)) (sym e) knows.1)

  uncaught_n : (p : Path) (x : List ℕ) → Stands n p standing.Variable x → IsUncaught n p x
  uncaught_n = met A n text shape (clean_ids a) cleared texts settled_a each_a none_a answer u m r.marks unresolved marked plain_n same kept_texts left_there.names none_answer none_n

  one_to_one : (s g : Path) (x y : List ℕ) → DeclaredIn A s x → DeclaredIn A g y → marks_of m s ≡ marks_of m g → s ≡ g
  one_to_one s g x y d e h =
      let (b, i) = taken s x d in
      let (c, j) = taken g y e in
      marks_apart answer u n m r.marks unresolved marked plain_n same kept_texts left_there.names uncaught_n left_there.scopes s g b c i j h

  apart_from_unresolved : (s : Path) (x : List ℕ) → DeclaredIn A s x → s ≢ [] → marks_of m s ≢ unresolved
  apart_from_unresolved s x d ne =
      let (b, i) = taken s x d in
      others_resolved answer u n m r.marks unresolved marked plain_n same kept_texts left_there.names uncaught_n left_there.scopes program others s b i ne

  read : (p : Path) (i b : Ident) → NameAt a p i → NameAt m p b → (b.sym ≡ text (id_name i)) × Owns (id_name i) b.ctxt
  read p i b (w, k, h, names) (v, l, g, z) =
      let at : Stands A p w.standing (id_name i) = record { place = w; kind = k; identifier = by_id i; stands = stands_by_id a p w k i h; stands_so = refl; named = refl } in
      let (c, j, e) = shape.forth p w k (by_id i) at.stands in
      let (d, y, f) = same.forth p w c j e in
      let place : v ≡ w = ap (λ (q : Place × Node). q.0) (some_same (v, Identifier l b) (w, Identifier d y) (sym g ∙ f)) in
      let g_w : place_at program_place m p ≡ Some (w, Identifier l b) = g ∙ ap (λ (v : Place). Some (v, Identifier l b)) place in (
        kept_texts p w w c l j b e g_w names ∙ texts p w w k c (by_id i) j at.stands e names,
        has_owner A n text shape (clean_ids a) cleared texts settled_a each_a none_a answer u m r.marks unresolved marked plain_n same kept_texts left_there.names none_answer none_n p w l b (id_name i) g_w names at,
      )

  pub ids_same : SameIds a m
  ids_same p q i j b c ni nj nb nc =
      let (tb, ob) = read p i b ni nb in
      let (tc, oc) = read q j c nj nc in
      let both = same_ids A n text shape (clean_ids a) cleared texts settled_a each_a none_a (marks_of m) unresolved none_n one_to_one apart_from_unresolved (in_program A (ids_layer a module_a)) (id_name i) (id_name j) b.ctxt c.ctxt ob oc in (
        (λ h. id_name_apart i j (both.0 (sym tb ∙ h.0 ∙ tc, h.1))),
        (λ h. let e = both.1 (id_name_same i j h) in (tb ∙ e.0 ∙ sym tc, e.1)),
      )

pub left_keeps_ids : LeftKeepsIds
left_keeps_ids t a answer n u m text unresolved top old new mt ma mv mn each none left shape cleared texts clean knows r left_there program same kept_texts none_answer none_n =
    ids_same t a answer n u m text unresolved top old new mt ma mv mn each none left shape cleared texts clean knows r left_there program same kept_texts none_answer none_n
