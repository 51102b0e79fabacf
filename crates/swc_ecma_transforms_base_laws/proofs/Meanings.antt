-- The names of a source's normal form mean the ids that the resolver found.
use Rattle.std.proofs.Common.{◌≡◌, ◌≢◌, ℕ, true, IsTrue, Option, Some, None, List, [], ◌∷◌, Contains, refl, sym, ap, ◌∙◌, subst}
use Rattle.swc_tree_marks.specs.declared.ident.Ident.{Ident}
use Rattle.swc_tree_node.specs.declared.kind.Kind.{Kind}
use Rattle.swc_tree_node.specs.declared.node.Node.{Node, Identifier}
use Rattle.swc_tree_scoping.specs.declared.places.Standing.{Standing}
use Rattle.swc_tree_scoping.specs.declared.places.Standing.TheVariants as standing
use Rattle.swc_tree_scoping.specs.declared.places.Place.{Place}
use Rattle.swc_tree_scoping.specs.Places.{Path, place_at, program_place}
use Rattle.swc_tree_scoping.specs.Scopes.{IsScope, is_binding, is_reference, rounds, variable_scope}
use Rattle.swc_tree_scoping.specs.Declares.{DeclaresFor, IsUncaught, Means}
use Rattle.swc_tree_scoping.specs.Resolved.{HasContext, mark_in}
use Rattle.swc_tree_scoping.specs.WellScoped.{NoCaughtVariable, Stands}
use Rattle.swc_tree_renaming.specs.Apart.{Belongs, MeanOne, MeanTheirIds, NameAt, SameId}
use Rattle.swc_tree_renaming.proofs.Core.{binds_or_refers, name_has, own_meaning_is, taker_declares}
use Rattle.swc_tree_renaming.proofs.Shape.{some_same}
use Rattle.swc_tree_renaming.proofs.Whole.{program_layer, stands_round, stands_there}
use Rattle.swc_tree_grammar.specs.Normal.{normal_form}
use Rattle.swc_tree_sites.specs.Sites.{Binding}
use Rattle.swc_tree_sites.specs.Smaller.{In, IsPlain}
use Rattle.swc_tree_sites.proofs.Marked.{from_marked, taker_same}
use Rattle.swc_tree_sites.proofs.Marks.{IsMarked, binding_mark, marks_of}
use Rattle.swc_tree_sites.proofs.Owners.{marks_apart, others_resolved, reference_mark}
use Rattle.swc_tree_sites.proofs.Round.{taken_by, taken_is}
use Rattle.swc_tree_sites.proofs.Transport.{binding_names, bound_binds, not_sloppy, settled_way, way_declares}
use Rattle.swc_tree_sites_laws.proofs.LeftIds.{plain_clean}
use Rattle.swc_base_resolver_laws.proofs.Lists.{found_none, row_of}
use Rattle.swc_base_alpha_laws.proofs.Equivalence.{one_there}
use Rattle.swc_base_alpha_laws.proofs.Ids.{first_meets}
use Rattle.swc_ecma_transforms_base_laws.proofs.Caught.{none_caught}
use Rattle.swc_ecma_transforms_base_laws.proofs.SourceNamesSources.{Laws, Origin, bare_there, clean_normal, kept_texts, left_program, left_source, means_none, normal_means_none, plain_normal, plain_source, same_normal, same_source, settled_program, takes}
use Rattle.swc_ecma_transforms_base_laws.proofs.Variants.{binder, one_belonging, stood}

head_same : (m n : ℕ) → m ∷ [] ≡ n ∷ [] → m ≡ n
head_same m n e = cc

module _ (laws : Laws) (source program : Node) (o : Origin source program) where
  abbrev N : Node
  N = normal_form source

  abbrev M : Node
  M = normal_form program

  abbrev marks : Path → ℕ
  marks = o.from.resolved.marks

  pub plain_clean_source : IsPlain source
  plain_clean_source = plain_clean source (plain_source laws source program o) o.from.clean

  pub plain : IsPlain N
  plain = plain_clean N (plain_normal laws source program o) (clean_normal laws source program o)

  pub uncaught : NoCaughtVariable N
  uncaught = none_caught source N plain_clean_source plain (left_source laws source program o).names o.from.uncaught

  met : (p : Path) (x : List ℕ) → Stands N p standing.Variable x → IsUncaught N p x
  met p x at = first_meets N x (rounds program_place N p) (variable_scope N p) (uncaught p x at) refl

  -- an identifier of the program is that of the source with its context
  answered : (p : Path) (w v : Place) (k l : Kind) (i j : Ident) → place_at program_place source p ≡ Some (w, Identifier k i) → place_at program_place program p ≡ Some (v, Identifier l j) → j ≡ record i { ctxt = o.from.resolved.contexts p }
  answered p w v k l i j e h = (one_there program p v w l k j (record i { ctxt = o.from.resolved.contexts p }) h (stands_there source program o.from.resolved.contexts o.from.resolved.only_contexts p w k i e)).1

  marked : IsMarked source program marks o.from.unresolved
  marked = record {
    plain = plain_clean_source;
    same = same_source laws source program o;
    texts = λ p w v k l i j e h names. ap (λ (i : Ident). i.sym) (answered p w v k l i j e h);
    one_to_one = o.from.resolved.one_to_one;
    resolved = λ p w k i h names.
        let (l, j, e) = (same_source laws source program o).back p w k i h in
        let is = answered p w w l k j i e h in
        subst (λ c. HasContext marks o.from.unresolved source p i.sym w.standing c) (sym (ap (λ (i : Ident). i.ctxt) is))
        (subst (λ x. HasContext marks o.from.unresolved source p x w.standing (o.from.resolved.contexts p)) (sym (ap (λ (i : Ident). i.sym) is)) (o.from.resolved.resolved p w l j e (o.from.clean p w l j e)));
  }

  abbrev MarkOf : Option Path → List ℕ
  MarkOf s = mark_in (marks_of M) o.from.unresolved s ∷ []

  -- the same name of the program's normal form, in the same place
  there : (p : Path) (i a : Ident) (m : NameAt N p i) → NameAt M p a → (l : Kind) × (place_at program_place M p ≡ Some (m.0, Identifier l a)) × (a.sym ≡ i.sym)
  there p i a (w, k, h, n) (v, l, e, z) =
      let (c, j, f) = (same_normal laws source program o).forth p w k i h in
      let is = (one_there M p w v c l j a f e).1 in
      (c, f ∙ ap (λ (j : Ident). Some (w, Identifier c j)) is, ap (λ (i : Ident). i.sym) (sym (bare_there laws source program o p w v k l i a h e)))

  -- a name belongs to the scope whose mark it got
  record Owned (p : Path) (r : Standing) (x c : List ℕ) : Type 0 where
    owner : Option Path
    belongs : Belongs N p r x owner
    marked : c ≡ MarkOf owner

  owned : (p : Path) (i a : Ident) (m : NameAt N p i) → NameAt M p a → Owned p m.0.standing i.sym a.ctxt
  owned p i a m x = name_has m.0.standing m.3 binding reference
    where
      at : Stands N p m.0.standing i.sym
      at = stood N p i m

      binding : IsTrue (is_binding m.0.standing) → Owned p m.0.standing i.sym a.ctxt
      binding b =
          let (l, e, text) = there p i a m x in
          let (s, taken, c) = binding_mark source program N M marks o.from.unresolved marked plain (same_normal laws source program o) (kept_texts laws source program o) (left_program laws source program o).names met p m.0 l a e b in
          record {
            owner = Some s;
            belongs = record { binding = λ z. (s, taker_declares N m.0.standing p s i.sym (not_sloppy N plain p m.0.standing i.sym at) taken, refl); reference = λ f. absurd (binds_or_refers m.0.standing b f) };
            marked = c;
          }

      reference : IsTrue (is_reference m.0.standing) → Owned p m.0.standing i.sym a.ctxt
      reference f =
          let (l, e, text) = there p i a m x in
          let (s, means, c) = reference_mark source program N M marks o.from.unresolved marked plain (same_normal laws source program o) (kept_texts laws source program o) (left_program laws source program o).names met (means_none laws source program o)
          (normal_means_none laws source program o) p m.0 l a e f in
          record {
            owner = s;
            belongs = record { binding = λ b. absurd (binds_or_refers m.0.standing b f); reference = λ z. subst (λ x. Means N p x s) text means };
            marked = c ∙ ap MarkOf (own_meaning_is N (normal_means_none laws source program o) p m.0.standing a.sym (subst (Stands N p m.0.standing) (sym text) at) f s means);
          }

  -- the scope that a name belongs to takes a binding of its text
  holds : (p : Path) (i : Ident) (m : NameAt N p i) (s : Path) → Belongs N p m.0.standing i.sym (Some s) → (b : Binding) × In b (taken_by program_place M s) × (b.1.sym ≡ i.sym)
  holds p i m s h =
      let (v, b) = binder N plain p m.0.standing i.sym s (stood N p i m) m.3 h in
      let (l, j, e) = (same_normal laws source program o).forth b.path b.place b.kind b.identifier b.stands in
      let binds : is_binding v ≡ true = bound_binds N s v i.sym b in (
        (v, j),
        (taken_is s program_place M (v, j)).1
            (record { path = b.path; place = b.place; kind = l; stands = e; stands_so = b.stands_so; binds = binds; taken = sym (taker_same N M plain (same_normal laws source program o) (kept_texts laws source program o) v b.path) ∙ b.taken }),
        kept_texts laws source program o b.path b.place b.place b.kind l b.identifier j b.stands e (binding_names b.place.standing (ap is_binding b.stands_so ∙ binds)) ∙ b.named,
      )

  others : (s : Path) → IsScope source s → s ≢ [] → marks s ≢ o.from.unresolved
  others s h other e =
      let (parent, there) = row_of o.from.old o.from.unresolved o.from.known in
      o.from.resolved.fresh s h other parent (subst (λ m. Contains o.from.old (m, parent)) (sym e) there)

  -- the program stands round each name
  in_program : (p : Path) (r : Standing) (x : List ℕ) → Stands N p r x → IsTrue (is_reference r) → Contains (rounds program_place N p) ([], true)
  in_program [] r x at f =
      let root : program_place ≡ at.place = ap (λ (q : Place × Node). q.0) (some_same (program_place, N) (at.place, Identifier at.kind at.identifier) at.stands) in
      let none = subst (λ r. IsTrue (is_reference r)) (sym at.stands_so ∙ ap (λ (w : Place). w.standing) (sym root)) f in
      absurd (cc)
  in_program (i ∷ p) r x at f = stands_round N (program_layer N (plain_normal laws source program o).0) i p

  -- what is free has not the mark of a scope that takes its text
  never : (p : Path) (x : List ℕ) (r : Standing) → Stands N p r x → IsTrue (is_reference r) → Means N p x None → (s : Path) (b : Binding) → In b (taken_by program_place M s) → b.1.sym ≡ x → marks_of M s ≡ o.from.unresolved → ⊥
  never p x r at f means [] b h named e =
      let bound = from_marked N M plain (same_normal laws source program o) (kept_texts laws source program o) [] b h in
      let way = settled_way b.0 (λ z. plain.settled bound.path bound.place bound.kind bound.identifier bound.stands (bound.stands_so ∙ z)) in
      found_none (DeclaresFor N x) (rounds program_place N p) ([], true) means (in_program p r x at f) (subst (λ x. DeclaresFor N x ([], true)) named (way_declares N plain b.1.sym [] true b.0 bound way))
  never p x r at f means (j ∷ s) b h named e =
      others_resolved source program N M marks o.from.unresolved marked plain (same_normal laws source program o) (kept_texts laws source program o) (left_program laws source program o).names met (left_program laws source program o).scopes
      (takes laws o.goal o.is program o.fits_program o.writable_program (settled_program laws source program o)) others (j ∷ s) b h (λ z. absurd (cc)) e

  -- a name that belongs to no scope refers
  pub refers : (p : Path) (i : Ident) (m : NameAt N p i) → Belongs N p m.0.standing i.sym None → IsTrue (is_reference m.0.standing)
  refers p i m h = name_has m.0.standing m.3 (λ b. let (s, d, e) = h.binding b in absurd (cc)) (λ f. f)

  -- names of one text whose scopes have one mark belong to one scope
  one_owner : (p q : Path) (i j : Ident) (m : NameAt N p i) (n : NameAt N q j) (s z : Option Path) → i.sym ≡ j.sym → Belongs N p m.0.standing i.sym s → Belongs N q n.0.standing j.sym z → MarkOf s ≡ MarkOf z → s ≡ z
  one_owner p q i j m n None None text h k e = refl
  one_owner p q i j m n None (Some z) text h k e =
      let (b, inside, named) = holds q j n z k in
      let f = refers p i m h in
      absurd (never p i.sym m.0.standing (stood N p i m) f (h.reference f) z b inside (named ∙ sym text) (sym (head_same o.from.unresolved (marks_of M z) e)))
  one_owner p q i j m n (Some s) None text h k e =
      let (b, inside, named) = holds p i m s h in
      let f = refers q j n k in
      absurd (never q j.sym n.0.standing (stood N q j n) f (k.reference f) s b inside (named ∙ text) (head_same (marks_of M s) o.from.unresolved e))
  one_owner p q i j m n (Some s) (Some z) text h k e =
      let (b, inside, named) = holds p i m s h in
      let (c, within, called) = holds q j n z k in
      ap (λ s. Some s) (marks_apart source program N M marks o.from.unresolved marked plain (same_normal laws source program o) (kept_texts laws source program o) (left_program laws source program o).names met
      (left_program laws source program o).scopes s z b c inside within (head_same (marks_of M s) (marks_of M z) e))

  pub names_mean_their_ids : MeanTheirIds N M
  names_mean_their_ids p q i j a b m n x y = (forth, back)
    where
      first : Owned p m.0.standing i.sym a.ctxt
      first = owned p i a m x

      second : Owned q n.0.standing j.sym b.ctxt
      second = owned q j b n y

      text_a : a.sym ≡ i.sym
      text_a = (there p i a m x).2

      text_b : b.sym ≡ j.sym
      text_b = (there q j b n y).2

      forth : MeanOne N p q i j m n → SameId a b
      forth (text, (s, h, k)) =
          let here : first.owner ≡ s = one_belonging N plain p m.0.standing i.sym first.owner s (stood N p i m) m.3 first.belongs h in
          let there : s ≡ second.owner = one_belonging N plain q n.0.standing j.sym s second.owner (stood N q j n) n.3 k second.belongs in
          (text_a ∙ text ∙ sym text_b, first.marked ∙ ap MarkOf (here ∙ there) ∙ sym second.marked)

      back : SameId a b → MeanOne N p q i j m n
      back (text, context) =
          let texts : i.sym ≡ j.sym = sym text_a ∙ text ∙ text_b in
          let one : second.owner ≡ first.owner = sym (one_owner p q i j m n first.owner second.owner texts first.belongs second.belongs (sym first.marked ∙ context ∙ second.marked)) in
          (texts, (first.owner, first.belongs, subst (Belongs N q n.0.standing j.sym) one second.belongs))
