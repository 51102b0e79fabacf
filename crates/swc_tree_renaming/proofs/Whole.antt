-- A well-scoped module whose ids got texts apart is resolved to the same ids.
use Rattle.std.proofs.Common.{inl, inr, ◌≡◌, ◌≢◌, ◌⊎◌, ℕ, Bool, true, false, IsTrue, Some, List, [], ◌∷◌, ◌++◌, map, length, drop, take, Contains, refl, sym, ap, ◌∙◌, subst, arith, true≢false}
use Rattle.std.specs.Option.{option_map}
use Rattle.std.proofs.lemmas.List.Elements.{Contains-append_right}
use Rattle.std.proofs.lemmas.List.{append-nil}
use Rattle.std.proofs.Math.Seq.{drop-append_seam, take-append_seam}
use Rattle.swc_tree_node.specs.Lower.swc_tree_marks.specs.declared.ident.Ident.{Ident}
use Rattle.swc_tree_node.specs.declared.kind.Kind.{Kind}
use Rattle.swc_tree_node.specs.declared.kind.Kind.TheVariants as kind
use Rattle.swc_tree_node.specs.declared.node.Node.{Node, Identifier, Tree, out-Node}
use Rattle.swc_tree_node.specs.declared.node.Node.TheOpen.{Node-F}
use Rattle.swc_tree_node.specs.declared.node.Node.TheVariants.{outs-Identifier, outs-Tree}
use Rattle.swc_tree_scoping.specs.declared.places.Standing.{Standing}
use Rattle.swc_tree_scoping.specs.declared.places.Place.{Place}
use Rattle.swc_tree_scoping.specs.declared.places.Scope.TheVariants as scope
use Rattle.swc_tree_scoping.specs.declared.places.View.TheVariants as view
use Rattle.swc_tree_scoping.specs.Places.{Path, program_place, place_at, opened, opened_in}
use Rattle.swc_tree_scoping.specs.Scopes.{IsScope, is_reference, rounds, seen_as, view_in, is_name}
use Rattle.swc_tree_scoping.specs.Readings.{by_ids, id_name, with_identifiers}
use Rattle.swc_tree_scoping.specs.Resolved.{Contexts, HasContext, Resolved, is_script, remarked}
use Rattle.swc_tree_scoping.specs.WellScoped.{Stands, IsDeclared, IsFree, WellScoped, is_module, IsClean}
use Rattle.swc_tree_scoping.proofs.First.{last_round}
use Rattle.swc_tree_scoping.proofs.Remarked.{remarked-Identifier, tree_is, identifier_is}
use Rattle.swc_tree_renaming.specs.Apart.{HasNoSloppy, HasTexts, IsPlainProgram, MeansNoGlobalValue, IsFreeName, IsRound, Knows, NameAt, NamesApart, Renamed, RenamingKeepsIds, SameId, SameIds, SameScopes, CapturesNone, DeclaredIn, OccursIn, nameless, no_name}
use Rattle.swc_tree_renaming.proofs.Blank.{layer, out_is, place_at_same}
use Rattle.swc_tree_renaming.proofs.Shape.{nameless_by_ids, out_nameless, place_at_remarked, same_scopes, some_same}
use Rattle.swc_tree_renaming.proofs.Core.{is_scope, occurs_where_declared, HasOwner, has_owner, same_ids}

-- ids and their names
pub id_name_apart : (i j : Ident) → id_name i ≡ id_name j → SameId i j
id_name_apart i j e =
    let long : length i.sym ≡ length j.sym = cc in
    let rest : i.sym ++ i.ctxt ≡ j.sym ++ j.ctxt = cc in (
      sym (take-append_seam i.sym i.ctxt) ∙ ap (λ n. take n (i.sym ++ i.ctxt)) long ∙ ap (take (length j.sym)) rest ∙ take-append_seam j.sym j.ctxt,
      sym (drop-append_seam i.sym i.ctxt) ∙ ap (λ n. drop n (i.sym ++ i.ctxt)) long ∙ ap (drop (length j.sym)) rest ∙ drop-append_seam j.sym j.ctxt,
    )

pub id_name_same : (i j : Ident) → SameId i j → id_name i ≡ id_name j
id_name_same i j (e, f) = ap (λ x. length x ∷ (x ++ i.ctxt)) e ∙ ap (λ c. length j.sym ∷ (j.sym ++ c)) f

-- a test of a tree by its kind: the step that opens the tree comes before the cases, since it takes long and they are many
stepped : (one test inner : Kind → Bool) → ((k : Kind) → IsTrue (test k) → IsTrue (inner k)) → ((k : Kind) → inner k ≡ one k) → (k : Kind) → IsTrue (test k) → IsTrue (one k)
stepped one test inner step same k h = sym (same k) ∙ step k h

abbrev is_module_kind : Kind → Bool
is_module_kind kind.Module = true
is_module_kind _ = false

abbrev is_script_kind : Kind → Bool
is_script_kind kind.Script = true
is_script_kind _ = false

module_alone : (k : Kind) → IsTrue (is_module_kind k) → k ≡ kind.Module
module_alone kind.Module h = refl
module_alone _ h = absurd (true≢false (sym h))

script_alone : (k : Kind) → IsTrue (is_script_kind k) → k ≡ kind.Script
script_alone kind.Script h = refl
script_alone _ h = absurd (true≢false (sym h))

-- a module's root
module_kind : (k : Kind) (ts : List Node) → IsTrue (is_module (Tree k ts)) → k ≡ kind.Module
module_kind k ts h = module_alone k (stepped is_module_kind (λ k. is_module (Tree k ts)) _ (λ k h. rw (outs-Tree k ts) at h) (elim [ kind.Module ↦ refl | _ ↦ refl ]) k h)

pub module_layer : (t : Node) → IsTrue (is_module t) → (ts : List Node) × (out-Node t ≡ Node-F.Tree kind.Module ts)
module_layer t h = at (out-Node t) refl
  where
    at : (y : Node-F Node) → out-Node t ≡ y → (ts : List Node) × (out-Node t ≡ Node-F.Tree kind.Module ts)
    at (Node-F.Tree k ts) o = (ts, o ∙ ap (λ k. Node-F.Tree k ts) (module_kind k ts (subst (λ t. IsTrue (is_module t)) (tree_is t k ts o) h)))
    at Node-F.Absent o = let g = rw o at h in absurd (cc)
    at (Node-F.Flag x) o = let g = rw o at h in absurd (cc)
    at (Node-F.Word x) o = let g = rw o at h in absurd (cc)
    at (Node-F.Text x) o = let g = rw o at h in absurd (cc)
    at (Node-F.Span x) o = let g = rw o at h in absurd (cc)
    at (Node-F.List x) o = let g = rw o at h in absurd (cc)
    at (Node-F.Identifier k x) o = let g = rw o at h in absurd (cc)

-- a script's root
script_kind : (k : Kind) (ts : List Node) → IsTrue (is_script (Tree k ts)) → k ≡ kind.Script
script_kind k ts h = script_alone k (stepped is_script_kind (λ k. is_script (Tree k ts)) _ (λ k h. rw (outs-Tree k ts) at h) (elim [ kind.Script ↦ refl | _ ↦ refl ]) k h)

pub script_layer : (t : Node) → IsTrue (is_script t) → (ts : List Node) × (out-Node t ≡ Node-F.Tree kind.Script ts)
script_layer t h = at (out-Node t) refl
  where
    at : (y : Node-F Node) → out-Node t ≡ y → (ts : List Node) × (out-Node t ≡ Node-F.Tree kind.Script ts)
    at (Node-F.Tree k ts) o = (ts, o ∙ ap (λ k. Node-F.Tree k ts) (script_kind k ts (subst (λ t. IsTrue (is_script t)) (tree_is t k ts o) h)))
    at Node-F.Absent o = let g = rw o at h in absurd (cc)
    at (Node-F.Flag x) o = let g = rw o at h in absurd (cc)
    at (Node-F.Word x) o = let g = rw o at h in absurd (cc)
    at (Node-F.Text x) o = let g = rw o at h in absurd (cc)
    at (Node-F.Span x) o = let g = rw o at h in absurd (cc)
    at (Node-F.List x) o = let g = rw o at h in absurd (cc)
    at (Node-F.Identifier k x) o = let g = rw o at h in absurd (cc)

-- a module's or a script's root
abbrev is_program_kind : Kind → Bool
is_program_kind kind.Module = true
is_program_kind kind.Script = true
is_program_kind _ = false

abbrev pub ProgramLayer : Node → Type 0
ProgramLayer t = (k : Kind) × (ts : List Node) × (out-Node t ≡ Node-F.Tree k ts) × IsTrue (is_program_kind k)

pub program_layer : (t : Node) → IsTrue (is_module t) ⊎ IsTrue (is_script t) → ProgramLayer t
program_layer t (inl h) = let (ts, o) = module_layer t h in (kind.Module, ts, o, refl)
program_layer t (inr h) = let (ts, o) = script_layer t h in (kind.Script, ts, o, refl)

pub no_script : (t : Node) (ts : List Node) → out-Node t ≡ Node-F.Tree kind.Module ts → is_script t ≡ false
no_script t ts o = rw o refl

kind_opens : (k : Kind) (ts : List Node) → IsTrue (is_program_kind k) → opened_in program_place (Node-F.Tree k ts) ≡ Some scope.Program
kind_opens kind.Module ts h = refl
kind_opens kind.Script ts h = refl
kind_opens _ ts h = absurd (cc)

kind_whole : (k : Kind) (ts : List Node) (i : ℕ) → IsTrue (is_program_kind k) → view_in (Node-F.Tree k ts) i ≡ view.Whole
kind_whole kind.Module ts i h = refl
kind_whole kind.Script ts i h = refl
kind_whole _ ts i h = absurd (cc)

pub program_opens : (t : Node) (l : ProgramLayer t) → opened program_place t ≡ Some scope.Program
program_opens t (k, ts, o, h) = ap (opened_in program_place) o ∙ kind_opens k ts h

-- what has the shape of a tree is one of its kind
pub tree_too : (t u : Node) (k : Kind) (ts : List Node) → nameless t ≡ nameless u → out-Node t ≡ Node-F.Tree k ts → (us : List Node) × (out-Node u ≡ Node-F.Tree k us)
tree_too t u k ts shape o = at (out-Node u) refl
  where
    same : layer (λ i. no_name) (out-Node u) ≡ Node-F.Tree k (map nameless ts)
    same = sym (out_is (λ i. no_name) u) ∙ ap out-Node (sym shape) ∙ out_nameless t _ o

    layers : (y : Node-F Node) → out-Node u ≡ y → layer (λ i. no_name) y ≡ Node-F.Tree k (map nameless ts)
    layers y e = ap (layer (λ i. no_name)) (sym e) ∙ same

    at : (y : Node-F Node) → out-Node u ≡ y → (us : List Node) × (out-Node u ≡ Node-F.Tree k us)
    at (Node-F.Tree l us) e = let is = layers _ e in let one : l ≡ k = cc in (us, e ∙ ap (λ k. Node-F.Tree k us) one)
    at Node-F.Absent e = let is = layers _ e in absurd (cc)
    at (Node-F.Flag x) e = let is = layers _ e in absurd (cc)
    at (Node-F.Word x) e = let is = layers _ e in absurd (cc)
    at (Node-F.Text x) e = let is = layers _ e in absurd (cc)
    at (Node-F.Span x) e = let is = layers _ e in absurd (cc)
    at (Node-F.List x) e = let is = layers _ e in absurd (cc)
    at (Node-F.Identifier k x) e = let is = layers _ e in absurd (cc)

pub program_too : (t u : Node) → nameless t ≡ nameless u → ProgramLayer t → ProgramLayer u
program_too t u shape (k, ts, o, h) = let (us, e) = tree_too t u k ts shape o in (k, us, e, h)

pub module_too : (t u : Node) → nameless t ≡ nameless u → IsTrue (is_module t) → IsTrue (is_module u)
module_too t u shape h = let (ts, o) = module_layer t h in rw (tree_too t u kind.Module ts shape o).1 refl

pub script_too : (t u : Node) → nameless t ≡ nameless u → IsTrue (is_script t) → IsTrue (is_script u)
script_too t u shape h = let (ts, o) = script_layer t h in rw (tree_too t u kind.Script ts shape o).1 refl

-- the program stands round all that stands below it
pub stands_round : (t : Node) → ProgramLayer t → (i : ℕ) (p : Path) → Contains (rounds program_place t (i ∷ p)) ([], true)
stands_round t (k, ts, o, h) i p =
    let (front, e) = last_round t p i (program_opens t (k, ts, o, h)) in
    let whole : view_in (out-Node t) i ≡ view.Whole = ap (λ y. view_in y i) o ∙ kind_whole k ts i h in
    subst (λ l. Contains l ([], true)) (sym (e ∙ ap (λ v. front ++ seen_as (Some scope.Program) v) whole)) (Contains-append_right front (([], true) ∷ []) ([], true) (0, omega arith, refl))

program_round : (t : Node) → ProgramLayer t → (i : ℕ) (p : Path) → IsRound t [] (i ∷ p)
program_round t l i p = (true, stands_round t l i p)

not_root : (t : Node) (r : Standing) (x : List ℕ) → Stands t [] r x → IsTrue (is_name r) → ⊥
not_root t r x s n =
    let here : program_place ≡ s.place = ap (λ (q : Place × Node). q.0) (some_same (program_place, t) (s.place, Identifier s.kind s.identifier) s.stands) in
    let plain = subst (λ r. IsTrue (is_name r)) (sym s.stands_so ∙ ap (λ (w : Place). w.standing) (sym here)) n in
    absurd (cc)

pub in_program : (t : Node) → ProgramLayer t → (p : Path) (r : Standing) (x : List ℕ) → Stands t p r x → IsTrue (is_name r) → IsRound t [] p
in_program t l [] r x s n = absurd (not_root t r x s n)
in_program t l (i ∷ p) r x s n = program_round t l i p

-- an identifier, as it is read by ids
abbrev pub by_id : Ident → Ident
by_id i = record i { sym = id_name i; ctxt = [] }

pub with_identifier : (f : Ident → Ident) (k : Kind) (i : Ident) → with_identifiers f (Identifier k i) ≡ Identifier k (f i)
with_identifier f k i =
    let o = out_is f (Identifier k i) ∙ ap (layer f) (outs-Identifier k i) in
    identifier_is (with_identifiers f (Identifier k i)) k (f i) o

pub stands_by_id : (t : Node) (p : Path) (w : Place) (k : Kind) (i : Ident) → place_at program_place t p ≡ Some (w, Identifier k i) → place_at program_place (by_ids t) p ≡ Some (w, Identifier k (by_id i))
stands_by_id t p w k i h = place_at_same by_id p program_place t ∙ ap (option_map {U = Place × Node} (λ (q : Place × Node). (q.0, by_ids q.1))) h ∙ ap (λ c. Some (w, c)) (with_identifier by_id k i)

pub identifier_same : (k l : Kind) (i j : Ident) → Identifier k i ≡ Identifier l j → i ≡ j
identifier_same k l i j e = let o = sym (outs-Identifier k i) ∙ ap out-Node e ∙ outs-Identifier l j in cc

-- what is read by ids stands there
pub from_ids : (t : Node) (p : Path) (w : Place) (k : Kind) (i : Ident) → place_at program_place (by_ids t) p ≡ Some (w, Identifier k i) → (l : Kind) × (j : Ident) × (place_at program_place t p ≡ Some (w, Identifier l j)) × (i ≡ by_id j)
from_ids t p w k i h =
    let same = same_scopes t (by_ids t) (sym (nameless_by_ids t)) in
    let (l, j, e) = same.back p w k i h in
    let node : Identifier k i ≡ Identifier l (by_id j)
    = ap (λ (q : Place × Node). q.1) (some_same (w, Identifier k i) (w, Identifier l (by_id j)) (sym h ∙ stands_by_id t p w l j e)) in
    (l, j, e, identifier_same k l i (by_id j) node)

-- what stands in a tree with contexts given anew
pub stands_there : (v u : Node) (c : Contexts) → u ≡ remarked c v → (p : Path) (w : Place) (l : Kind) (j : Ident) → place_at program_place v p ≡ Some (w, Identifier l j) → place_at program_place u p ≡ Some (w, Identifier l (record j { ctxt = c p }))
stands_there v u c only p w l j h =
    ap (λ u. place_at program_place u p) only ∙ place_at_remarked p c program_place v
    ∙ ap (option_map {U = Place × Node} (λ (q : Place × Node). (q.0, remarked (λ r. c (p ++ r)) q.1))) h
    ∙ ap (λ d. Some (w, d)) (remarked-Identifier (λ r. c (p ++ r)) l j) ∙ ap (λ x. Some (w, Identifier l (record j { ctxt = c x }))) (append-nil p)

-- the texts of ids that are apart in a well-scoped module capture none
module _ (t : Node) (text : List ℕ → List ℕ) (scoped : WellScoped t) (plain : IsPlainProgram t) (apart : NamesApart t text) where
  abbrev T : Node
  T = by_ids t

  clean_ids : IsClean T
  clean_ids p w k i h = let (l, j, e, is) = from_ids t p w k i h in ap (λ (i : Ident). i.ctxt) is

  settled_ids : HasNoSloppy T
  settled_ids p w k i h =
      let (l, j, e, is) = from_ids t p w k i h in
      plain.1 p w l j e

  own_texts : HasTexts T (λ x. x) T
  own_texts p w v k l i j e g n =
      let node : Identifier l j ≡ Identifier k i = ap (λ (q : Place × Node). q.1) (some_same (v, Identifier l j) (w, Identifier k i) (sym g ∙ e)) in
      ap (λ (i : Ident). i.sym) (identifier_same l k j i node)

  occurs : (s : Path) (x : List ℕ) → DeclaredIn T s x → OccursIn T s x
  occurs s x d = occurs_where_declared T T (λ x. x) (same_scopes T T refl) clean_ids clean_ids own_texts settled_ids s x d

  -- a free name is that of a free id
  free_id : (x : List ℕ) → IsFreeName T x → (i : Ident) × IsFree t i × (id_name i ≡ x)
  free_id x f =
      let (l, i, e, is) = from_ids t f.path f.at.place f.at.kind f.at.identifier f.at.stands in
      let name : id_name i ≡ x = sym (ap (λ (i : Ident). i.sym) is) ∙ f.at.named in (
        i,
        record {
          path = f.path;
          place = f.at.place;
          kind = l;
          stands = e;
          refers = subst (λ r. IsTrue (is_reference r)) (sym f.at.stands_so) f.refers;
          undeclared = subst (λ x. ¬ IsDeclared T x) (sym name) f.undeclared;
        },
        name,
      )

  frees_apart : (x y : List ℕ) → IsFreeName T x → IsFreeName T y → text x ≡ text y → x ≡ y
  frees_apart x y f g e =
      let (i, a, is) = free_id x f in
      let (j, b, one) = free_id y g in
      let texts : i.sym ≡ j.sym = sym (apart.free_kept i a) ∙ ap text is ∙ e ∙ ap text (sym one) ∙ apart.free_kept j b in
      sym is ∙ id_name_same i j (texts, scoped.free_apart.apart i j a b texts) ∙ one

  pub captures_none : CapturesNone T text
  captures_none = record {
    declared = λ p r x y s u at names d round above e. apart.declared_apart s u s x y (record { path = p; standing = r; at = at; names = names; inside = round }) (occurs s y e) d e above (inl refl);
    free = λ p r x y s at names undeclared round e. apart.free_apart s x y (record { path = p; standing = r; at = at; names = names; inside = round }) undeclared e;
    frees = frees_apart;
  }

module _ (t answer u : Node) (text : List ℕ → List ℕ) (unresolved top : ℕ) (old new : List (ℕ × ℕ)) (scoped : WellScoped t) (plain : IsPlainProgram t) (apart : NamesApart t text)
    (renamed : Renamed (by_ids t) text answer) (no_global : MeansNoGlobalValue answer) (knows : Knows old unresolved) (resolved : Resolved unresolved top old new answer u) where
  abbrev A : Node
  A = by_ids t

  same : SameScopes A answer
  same = same_scopes A answer renamed.shape

  clear : IsClean A
  clear = clean_ids t text scoped plain apart

  settled : HasNoSloppy A
  settled = settled_ids t text scoped plain apart

  none : CapturesNone A text
  none = captures_none t text scoped plain apart

  layer_ids : ProgramLayer A
  layer_ids = program_too t A (sym (nameless_by_ids t)) (program_layer t plain.0)

  scoped_there : (s : Path) (x : List ℕ) → DeclaredIn A s x → IsScope answer s
  scoped_there s x d = is_scope A answer text same clear renamed.cleared renamed.texts settled s x d

  others : (s : Path) → IsScope answer s → s ≢ [] → resolved.marks s ≢ unresolved
  others s h ne e = resolved.fresh s h ne knows.0 (subst (λ m. Contains old (m, knows.0)) (sym e) knows.1)

  abbrev Owns : List ℕ → List ℕ → Type 0
  Owns = HasOwner A answer text same clear renamed.cleared renamed.texts settled scoped.each_in_one_scope none resolved.marks unresolved no_global

  read : (p : Path) (i a : Ident) → NameAt t p i → NameAt u p a → (a.sym ≡ text (id_name i)) × Owns (id_name i) a.ctxt
  read p i a (w, k, h, n) (v, l, g, z) =
      let (m, j, e) = same.forth p w k (by_id i) (stands_by_id t p w k i h) in
      let node : Identifier l a ≡ Identifier m (record j { ctxt = resolved.contexts p })
      = ap (λ (q : Place × Node). q.1) (some_same (v, Identifier l a) (w, Identifier m (record j { ctxt = resolved.contexts p })) (sym g ∙ stands_there answer u resolved.contexts resolved.only_contexts p w m j e)) in
      let is : a ≡ record j { ctxt = resolved.contexts p } = identifier_same l m a (record j { ctxt = resolved.contexts p }) node in
      let name : j.sym ≡ text (id_name i) = renamed.texts p w w k m (by_id i) j (stands_by_id t p w k i h) e n in
      let context : HasContext resolved.marks unresolved answer p (text (id_name i)) w.standing (resolved.contexts p)
      = subst (λ x. HasContext resolved.marks unresolved answer p x w.standing (resolved.contexts p)) name (resolved.resolved p w m j e (renamed.cleared p w m j e)) in
      let st : Stands A p w.standing (id_name i) = record { place = w; kind = k; identifier = by_id i; stands = stands_by_id t p w k i h; stands_so = refl; named = refl } in
      let owner : Owns (id_name i) (resolved.contexts p)
      = has_owner A answer text same clear renamed.cleared renamed.texts settled scoped.each_in_one_scope none resolved.marks unresolved no_global p w.standing (id_name i) (resolved.contexts p) st n context in
      (ap (λ (i : Ident). i.sym) is ∙ name, subst (Owns (id_name i)) (ap (λ (i : Ident). i.ctxt) (sym is)) owner)

  pub ids_same : SameIds t u
  ids_same p q i j a b ni nj na nb =
      let (ta, oa) = read p i a ni na in
      let (tb, ob) = read q j b nj nb in
      let both = same_ids A answer text same clear renamed.cleared renamed.texts settled scoped.each_in_one_scope none resolved.marks unresolved no_global (λ s u x y d e h. resolved.one_to_one s u (scoped_there s x d) (scoped_there u y e) h) (λ s x d. others s (scoped_there s x d))
      (in_program A layer_ids) (id_name i) (id_name j) a.ctxt b.ctxt oa ob in (
        (λ h. id_name_apart i j (both.0 (sym ta ∙ h.0 ∙ tb, h.1))),
        (λ h. let e = both.1 (id_name_same i j h) in (ta ∙ e.0 ∙ sym tb, e.1)),
      )

pub renaming_keeps_ids : RenamingKeepsIds
renaming_keeps_ids t answer u text unresolved top old new scoped plain apart renamed no_global knows resolved = ids_same t answer u text unresolved top old new scoped plain apart renamed no_global knows resolved
