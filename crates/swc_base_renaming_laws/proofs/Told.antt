-- The texts that hygiene gives the ids of a well-scoped plain program are apart where ids meet.
use Rattle.std.proofs.Common.{◌≡◌, ◌≢◌, ℕ, Bool, true, false, IsTrue, inl, Option, Some, None, List, [], ◌∷◌, refl, sym, ap, ◌∙◌, subst, codes, Less, Equal, Greater, Ordering}
use Rattle.std.specs.Option.{option_map, unwrap_or}
use Rattle.std.specs.Ordering.{ordering_reverse}
use Rattle.swc_tree_marks.specs.declared.ident.Ident.{Ident}
use Rattle.swc_tree_node.specs.declared.node.Node.{Node, Identifier}
use Rattle.swc_tree_scoping.specs.declared.places.Standing.{Standing}
use Rattle.swc_tree_scoping.specs.declared.places.Place.{Place}
use Rattle.swc_tree_scoping.specs.Places.{Path, program_place}
use Rattle.swc_tree_scoping.specs.Scopes.{is_binding}
use Rattle.swc_tree_scoping.specs.BoundNames.{Id}
use Rattle.swc_tree_scoping.specs.Readings.{by_texts}
use Rattle.swc_tree_scoping.specs.WellScoped.{IsDeclared, WellScoped}
use Rattle.swc_tree_renaming.proofs.Blank.{place_at_same}
use Rattle.swc_tree_renaming.proofs.Whole.{with_identifier}
use Rattle.swc_base_rename_analysis.specs.Analysis.{Declares, OccursIn}
use Rattle.swc_base_rename_analysis.specs.Ids.{id_at}
use Rattle.swc_base_rename_analysis.specs.Named.{IsNamedAt}
use Rattle.swc_base_rename_analysis.specs.Order.{IsBefore, Site, site_cmp}
use Rattle.swc_base_rename_analysis.specs.Preserved.{IsLoose}
use Rattle.swc_base_rename_analysis.proofs.InOrder.{by_earlier}
use Rattle.swc_base_rename_analysis.proofs.Level.{each_in_order}
use Rattle.swc_base_rename_scoped_laws.proofs.ByIds.{IsAt, from_id, id_of}
use Rattle.swc_base_rename_naming.specs.Texts.{numbered}
use Rattle.swc_base_rename_program.specs.Renamed.{hygiene_renaming}
use Rattle.swc_base_renaming_laws.specs.Settled.{ApartWhereMet, HygieneTellsMetApart, IsHygieneMap, given_text}
use Rattle.swc_base_renaming_laws.proofs.Once.{one_scope_declares}

-- what is bound is declared, read by texts too
text_declared : (t : Node) (p : Path) (r : Standing) (i : Ident) → IsAt t p r i → IsTrue (is_binding r) → IsDeclared (by_texts t) i.sym
text_declared t p r i a b = (
  p,
  r,
  record {
    at = record {
      place = a.place;
      kind = a.kind;
      identifier = record i { ctxt = [] };
      stands = place_at_same (λ i. record i { ctxt = [] }) p program_place t
          ∙ ap (option_map {U = Place × Node} (λ (q : Place × Node). (q.0, by_texts q.1))) a.stands
          ∙ ap (λ c. Some (a.place, c)) (with_identifier (λ i. record i { ctxt = [] }) a.kind i);
      stands_so = a.stands_so;
      named = refl;
    };
    binds = b;
  },
)

some_id : {a b : Standing × Id} → Some a ≡ Some b → a.1 ≡ b.1
some_id e = cc

module _ (t : Node) (one : (s p u q : Path) (x : Id) → Declares t s p x → Declares t u q x → s ≡ u) (scoped : WellScoped t) (new_texts : Id → Option (List ℕ)) (named : IsHygieneMap t new_texts) where
  abbrev taken_text : Id → List ℕ
  taken_text x = numbered x.0 (named.taken x)

  -- each id that is declared gets a name
  bound_text : (s p : Path) (x : Id) → Declares t s p x → x.0 ≢ codes "eval"
  bound_text s p x d e =
      let (i, at, same) = from_id t p d.standing x d.stands in
      scoped.no_eval_or_arguments.0 (subst (IsDeclared (by_texts t)) (ap (λ (x : Id). x.0) same ∙ e) (text_declared t p d.standing i at d.binds))

  no_name : (x : Id) → new_texts x ≡ None → (a : Site) → Declares t a.0 a.1 x → ⊥
  no_name x e = by_earlier t (λ a. Declares t a.0 a.1 x → ⊥)
      (λ a before d.
      let n : IsNamedAt t hygiene_renaming a x = record {
        declared = d;
        first = λ b f less. before b less f;
        not_preserved = λ p. absurd (cc);
        not_eval = bound_text a.0 a.1 x d;
      } in
      let z : None ≡ Some (taken_text x) = sym e ∙ (named.each a x n).1 in
      absurd (cc))

  abbrev HasName : Id → Type 0
  HasName x = (a : Site) × IsNamedAt t hygiene_renaming a x × (given_text new_texts x ≡ taken_text x)

  has_name : (s p : Path) (x : Id) → Declares t s p x → HasName x
  has_name s p x d = by (new_texts x) refl
    where
      by : (o : Option (List ℕ)) → new_texts x ≡ o → HasName x
      by None e = absurd (no_name x e (s, p) d)
      by (Some y) e = let (a, n) = named.no_other x y e in (a, n, ap (λ o. unwrap_or o x.0) (named.each a x n).1)

  held_apart : (a b : Site) (x y : Id) → IsNamedAt t hygiene_renaming a x → IsNamedAt t hygiene_renaming b y → IsBefore t a b → OccursIn t b.0 x → taken_text x ≡ taken_text y → ⊥
  held_apart a b x y n m less o e = (named.each b y m).0.free.not_held a x (record { named = n; before = less }) tt o e

  declared_apart : (s p u q : Path) (x y : Id) → Declares t s p x → Declares t u q y → OccursIn t s y → OccursIn t u x → given_text new_texts x ≡ given_text new_texts y → x ≡ y
  declared_apart s p u q x y d f o w e = both (has_name s p x d) (has_name u q y f)
    where
      both : HasName x → HasName y → x ≡ y
      both (a, n, tx) (b, m, ty) = compared (site_cmp t a b) refl
        where
          same_text : taken_text x ≡ taken_text y
          same_text = sym tx ∙ e ∙ ty

          at_a : s ≡ a.0
          at_a = one s p a.0 a.1 x d n.declared

          at_b : u ≡ b.0
          at_b = one u q b.0 b.1 y f m.declared

          compared : (c : Ordering) → site_cmp t a b ≡ c → x ≡ y
          compared Less c = absurd (held_apart a b x y n m c (subst (λ u. OccursIn t u x) at_b w) same_text)
          compared Greater c = absurd (held_apart b a y x m n ((each_in_order t).total.antisymm b a ∙ ap ordering_reverse c) (subst (λ s. OccursIn t s y) at_a o) (sym same_text))
          compared Equal c =
              let level : a ≡ b = (each_in_order t).none_level a b x y n.declared m.declared c in
              some_id (sym n.declared.stands ∙ ap (λ (z : Site). id_at t z.1) level ∙ m.declared.stands)

  loose_apart : (s p : Path) (x y : Id) → Declares t s p x → IsLoose t y → given_text new_texts x ≢ y.0
  loose_apart s p x y d l e = has (has_name s p x d)
    where
      has : HasName x → ⊥
      has (a, n, tx) = (named.each a x n).0.free.not_preserved (y, sym e ∙ tx, inl l)

  pub met_apart : ApartWhereMet t (given_text new_texts)
  met_apart = record { declared = declared_apart; loose = loose_apart }

pub hygiene_tells_met_apart : HygieneTellsMetApart
hygiene_tells_met_apart t place new_texts fit plain scoped named = met_apart t (one_scope_declares t place fit plain scoped) scoped new_texts named
