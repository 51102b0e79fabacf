-- A program that is one with another but for names has its normal form but for bound names.
use Rattle.std.proofs.Common.{◌≡◌, ◌⊎◌, Bool, true, false, ◌||◌, IsTrue, inl, inr, ⊎_elim, Option, Some, None, [], nat_eq, refl, sym, ap, ◌∙◌}
use Rattle.std.specs.List.{list_any}
use Rattle.std.specs.Cmp.Lexicographic.{pointwise}
use Rattle.std.proofs.lemmas.Cmp.{nat_list_eq_equiv}
use Rattle.swc_tree_marks.specs.declared.ident.Ident.{Ident}
use Rattle.swc_tree_node.specs.declared.kind.Kind.{Kind}
use Rattle.swc_tree_node.specs.declared.slot.Slot.{Slot}
use Rattle.swc_tree_node.specs.declared.node.Node.{Node, Identifier}
use Rattle.swc_tree_node.specs.Fits.{Fits}
use Rattle.swc_tree_scoping.specs.declared.places.Standing.{Standing}
use Rattle.swc_tree_scoping.specs.declared.places.Place.{Place}
use Rattle.swc_tree_scoping.specs.Places.{Path, place_at, program_place}
use Rattle.swc_tree_scoping.specs.Scopes.{is_binding, is_name}
use Rattle.swc_tree_scoping.specs.Declares.{Bound}
use Rattle.swc_tree_scoping.specs.WellScoped.{IsClean}
use Rattle.swc_tree_renaming.specs.Apart.{Belongs, NameAt, is_goal}
use Rattle.swc_tree_grammar.specs.Normal.{normal_form, same_id}
use Rattle.swc_tree_grammar.specs.Same.{declared_names}
use Rattle.swc_tree_grammar.specs.Writable.{Writable}
use Rattle.swc_tree_sites.specs.Sites.{Site, counted}
use Rattle.swc_tree_sites.specs.Smaller.{IsPlain}
use Rattle.swc_tree_sites.proofs.Found.{env_at, finds}
use Rattle.swc_tree_sites.proofs.Transport.{binding_names, bound_binds, counted_binds, counted_refers, not_both}
use Rattle.swc_tree_sites_laws.proofs.Decided.{belongs_somewhere}
use Rattle.swc_tree_sites_laws.proofs.LeftIds.{plain_clean}
use Rattle.swc_base_renaming_laws.specs.Ids.{IsSettledIfScript}
use Rattle.swc_base_alpha_laws.specs.Alpha.{AlphaEquivalent, IsFreeThere}
use Rattle.swc_base_alpha_laws.proofs.Equivalence.{named_there, one_there}
use Rattle.swc_ecma_transforms_base_laws.proofs.SourceNamesSources.{Laws, left, normal_plain}
use Rattle.swc_ecma_transforms_base_laws.proofs.Variants.{binder, stood}
use Rattle.swc_base_normal_form_laws.specs.Laws.{NormalFormIsClean}
use Rattle.swc_ecma_transforms_base_laws.specs.KeptForms.{AlphaKeepsForms}
use Rattle.swc_ecma_transforms_base_laws.proofs.Declared.{declared_at}
use Rattle.swc_ecma_transforms_base_laws.proofs.Same.{MayStand, and_both, same_where_each_may}

or_left : (a b : Bool) → a ≡ true → (a || b) ≡ true
or_left true b h = refl
or_left false b h = absurd (cc)

or_right : (a b : Bool) → b ≡ true → (a || b) ≡ true
or_right true b h = refl
or_right false b h = h

false_is : (b : Bool) → b ≡ false → ¬ IsTrue b
false_is true e h = absurd (cc)
false_is false e h = absurd (cc)

module _ (laws : Laws) (clean_law : NormalFormIsClean) (goal : Slot) (t u : Node) (is : IsTrue (is_goal goal)) (f : Fits t goal) (w : Writable t) (s : IsSettledIfScript t) (clean : IsClean t) (alpha : AlphaEquivalent t u) where
  abbrev N : Node
  N = normal_form t

  clean_n : IsClean N
  clean_n = clean_law t clean

  plain : IsPlain N
  plain = plain_clean N (normal_plain laws goal is t f w s) clean_n

  -- what is bound in the normal form is declared in the program
  declared : (z : Path) (r : Standing) (i : Ident) → i.ctxt ≡ [] → Bound N z r i.sym → list_any (same_id i) (declared_names t) ≡ true
  declared z r i none b = ⊎_elim
      (λ y.
      let g = (finds t program_place site).0 y in
      declared_at i g.path program_place g.place t g.kind b.identifier g.stands
      (and_both _ _ (ap (pointwise nat_eq i.sym) b.named ∙ nat_list_eq_equiv.refl i.sym) (ap (pointwise nat_eq i.ctxt) (b.unmarked ∙ sym none) ∙ nat_list_eq_equiv.refl i.ctxt))
      (counted_binds g.place.standing b.place.standing g.stands_so binds))
      (λ y. absurd (not_both b.place.standing binds (counted_refers b.place.standing y.refers)))
      ((left laws goal is t f w s).names site ((finds N program_place site).1 (record { path = b.path; place = b.place; kind = b.kind; stands = b.stands; stands_so = refl; names = binding_names b.place.standing binds; env = refl })))
    where
      site : Site
      site = (counted b.place.standing, b.identifier, env_at program_place N b.path)

      binds : is_binding b.place.standing ≡ true
      binds = ap is_binding b.stands_so ∙ bound_binds N z r i.sym b

  -- a name is free, or the program declares it
  free_or_declared : (p : Path) (i : Ident) (m : NameAt N p i) → IsFreeThere N p i m ⊎ (list_any (same_id i) (declared_names t) ≡ true)
  free_or_declared p i m = by (belongs_somewhere N plain p m.0.standing i.sym (stood N p i m) m.3)
    where
      by : (o : Option Path) × Belongs N p m.0.standing i.sym o → IsFreeThere N p i m ⊎ (list_any (same_id i) (declared_names t) ≡ true)
      by (Some z, h) = let (v, b) = binder N plain p m.0.standing i.sym z (stood N p i m) m.3 h in inr (declared z v i (clean_n p m.0 m.1 i m.2) b)
      by (None, h) = inl (record {
        binding = λ b. let (z, d, e) = h.binding b in absurd (cc);
        reference = λ r. (None, h.reference r, refl);
      })

  named : (p : Path) (v z : Place) (k l : Kind) (i j : Ident) → place_at program_place N p ≡ Some (v, Identifier k i) → place_at program_place (normal_form u) p ≡ Some (z, Identifier l j) → IsTrue (is_name v.standing) → MayStand (declared_names t) v.standing i j
  named p v z k l i j e h n =
      let (a, x) = named_there N (normal_form u) alpha.shape p i (v, k, e, n) in
      let one : a ≡ j = (one_there (normal_form u) p x.0 z x.1 l a j x.2 h).1 in
      ⊎_elim
      (λ free. or_left _ _ (ap (pointwise nat_eq i.sym) (sym ((alpha.free p i a (v, k, e, n) x).1 free ∙ ap (λ (i : Ident). i.sym) one)) ∙ nat_list_eq_equiv.refl i.sym))
      (λ d. or_right _ _ (and_both _ _ n d))
      (free_or_declared p i (v, k, e, n))

  each_may : (p : Path) (v z : Place) (k l : Kind) (i j : Ident) → place_at program_place N p ≡ Some (v, Identifier k i) → place_at program_place (normal_form u) p ≡ Some (z, Identifier l j) → MayStand (declared_names t) v.standing i j
  each_may p v z k l i j e h = by (is_name v.standing) refl
    where
      by : (b : Bool) → is_name v.standing ≡ b → MayStand (declared_names t) v.standing i j
      by true n = named p v z k l i j e h n
      by false n = or_left _ _ (ap (pointwise nat_eq i.sym) (sym (alpha.others p v z k l i j e h (false_is (is_name v.standing) n))) ∙ nat_list_eq_equiv.refl i.sym)

pub alpha_keeps_forms : Laws → NormalFormIsClean → AlphaKeepsForms
alpha_keeps_forms laws clean_law goal t u is f w s clean alpha =
    same_where_each_may (declared_names t) (normal_form t) program_place (normal_form u) alpha.shape (each_may laws clean_law goal t u is f w s clean alpha)
