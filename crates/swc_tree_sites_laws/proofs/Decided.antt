-- Whether a scope of a plain tree declares a name is decided, and so each name of it belongs somewhere.
use Rattle.std.proofs.Common.{◌≡◌, ℕ, Bool, true, false, ◌⊎◌, inl, inr, ⊎_elim, IsTrue, Option, Some, None, List, [], ◌∷◌, refl, sym, ap, ◌∙◌, subst}
use Rattle.std.specs.Cmp.Lexicographic.{pointwise, same_text, other_text}
use Rattle.std.specs.Prelude.{nat_eq}
use Rattle.swc_tree_node.specs.declared.node.Node.{Node}
use Rattle.swc_tree_scoping.specs.declared.places.Standing.{Standing}
use Rattle.swc_tree_scoping.specs.declared.places.Standing.TheVariants as standing
use Rattle.swc_tree_scoping.specs.Places.{Path, program_place}
use Rattle.swc_tree_scoping.specs.Scopes.{Round, is_binding, is_name, is_reference, is_taken, rounds, scope_at, taker}
use Rattle.swc_tree_scoping.specs.Declares.{Bound, BoundAs, DeclaresFor, First, is_parameter, is_settled}
use Rattle.swc_tree_scoping.specs.WellScoped.{Stands}
use Rattle.swc_tree_renaming.specs.Apart.{Belongs}
use Rattle.swc_tree_renaming.proofs.Core.{binds_or_refers, first_in, name_has, taken_binds, taker_declares}
use Rattle.swc_tree_sites.specs.Sites.{Binding}
use Rattle.swc_tree_sites.specs.Smaller.{In, IsPlain}
use Rattle.swc_tree_sites.proofs.Round.{taken_by, taken_is}

abbrev Either : Type 0 → Type 0
Either P = P ⊎ (P → ⊥)

-- one of some bindings has the text, and stands in one of some ways
abbrev Among : (Standing → Bool) → List ℕ → List Binding → Type 0
Among f x bs = (b : Binding) × In b bs × (b.1.sym ≡ x) × IsTrue (f b.0)

among : (f : Standing → Bool) (x : List ℕ) (bs : List Binding) → Either (Among f x bs)
among f x [] = inr (λ (b, h, e, g). absurd h)
among f x (b ∷ bs) = by (pointwise nat_eq b.1.sym x) refl (f b.0) refl (among f x bs)
  where
    later : ((b.1.sym ≡ x) → IsTrue (f b.0) → ⊥) → Either (Among f x bs) → Either (Among f x (b ∷ bs))
    later none (inl (c, h, e, g)) = inl (c, inr h, e, g)
    later none (inr nor) = inr neither
      where
        neither : Among f x (b ∷ bs) → ⊥
        neither (c, inl h, e, g) = none (ap (λ (b : Binding). b.1.sym) h ∙ e) (subst (λ (b : Binding). IsTrue (f b.0)) (sym h) g)
        neither (c, inr h, e, g) = nor (c, h, e, g)

    by : (c : Bool) → pointwise nat_eq b.1.sym x ≡ c → (d : Bool) → f b.0 ≡ d → Either (Among f x bs) → Either (Among f x (b ∷ bs))
    by true e true g rest = inl (b, inl refl, same_text b.1.sym x (sym e), g)
    by true e false g rest = later (λ s w. let z = sym g ∙ w in absurd (cc)) rest
    by false e d g rest = later (λ s w. other_text b.1.sym x (sym e) s) rest

binding_at : (t : Node) (r : Standing) (p s : Path) → taker r t p ≡ Some s → IsTrue (is_binding r)
binding_at t r p s e = let (whole, there, f) = first_in (λ s. is_taken r (scope_at program_place t s.0)) (rounds program_place t p) s e in taken_binds r (scope_at program_place t s) f

module _ (t : Node) (plain : IsPlain t) where
  bound_among : (f : Standing → Bool) (s : Path) (x : List ℕ) → BoundAs f t s x → Among f x (taken_by program_place t s)
  bound_among f s x (r, way, b) = (
    (r, b.identifier),
    (taken_is s program_place t (r, b.identifier)).1
        (record { path = b.path; place = b.place; kind = b.kind; stands = b.stands; stands_so = b.stands_so; binds = binding_at t r b.path s b.taken; taken = b.taken }),
    b.named,
    way,
  )

  among_bound : (f : Standing → Bool) (s : Path) (x : List ℕ) → Among f x (taken_by program_place t s) → BoundAs f t s x
  among_bound f s x (b, h, e, way) =
      let z = (taken_is s program_place t b).0 h in (
        b.0,
        way,
        record {
          path = z.path;
          place = z.place;
          kind = z.kind;
          identifier = b.1;
          stands = z.stands;
          stands_so = z.stands_so;
          named = e;
          unmarked = plain.unmarked z.path z.place z.kind b.1 z.stands;
          taken = z.taken;
        },
      )

  bound_or_not : (f : Standing → Bool) (s : Path) (x : List ℕ) → Either (BoundAs f t s x)
  bound_or_not f s x = ⊎_elim (λ a. inl (among_bound f s x a)) (λ n. inr (λ b. n (bound_among f s x b))) (among f x (taken_by program_place t s))

  none_sloppy : (s : Path) (x : List ℕ) → Bound t s standing.SloppyFunction x → ⊥
  none_sloppy s x b = plain.settled b.path b.place b.kind b.identifier b.stands b.stands_so

  declares_or_not : (x : List ℕ) (s : Round) → Either (DeclaresFor t x s)
  declares_or_not x (s, false) = bound_or_not is_parameter s x
  declares_or_not x (s, true) = by (bound_or_not is_settled s x)
    where
      by : Either (BoundAs is_settled t s x) → Either (DeclaresFor t x (s, true))
      by (inl b) = inl (inl b)
      by (inr n) = inr neither
        where
          neither : DeclaresFor t x (s, true) → ⊥
          neither (inl b) = n b
          neither (inr (inl (b, h))) = none_sloppy s x b
          neither (inr (inr h)) = none_sloppy h.block x h.bound

  first_is : (P : Round → Type 0) → ((s : Round) → Either (P s)) → (ss : List Round) → (m : Option Path) × First P ss m
  first_is P d [] = (None, refl)
  first_is P d (s ∷ ss) = ⊎_elim (λ h. (Some s.0, inl (h, refl))) (λ n. let (m, f) = first_is P d ss in (m, inr (n, f))) (d s)

  -- each binding and reference belongs to a scope, or is free
  pub belongs_somewhere : (p : Path) (r : Standing) (x : List ℕ) → Stands t p r x → IsTrue (is_name r) → (o : Option Path) × Belongs t p r x o
  belongs_somewhere p r x at names = name_has r names binding reference
    where
      binding : IsTrue (is_binding r) → (o : Option Path) × Belongs t p r x o
      binding b =
          let (s, taken) = plain.takes p r x (record { at = at; binds = b }) in
          let declared = taker_declares t r p s x (λ e. plain.settled p at.place at.kind at.identifier at.stands (at.stands_so ∙ e)) taken in
          (Some s, record { binding = λ c. (s, declared, refl); reference = λ f. absurd (binds_or_refers r b f) })

      reference : IsTrue (is_reference r) → (o : Option Path) × Belongs t p r x o
      reference f =
          let (m, means) = first_is (DeclaresFor t x) (declares_or_not x) (rounds program_place t p) in
          (m, record { binding = λ b. absurd (binds_or_refers r b f); reference = λ h. means })
