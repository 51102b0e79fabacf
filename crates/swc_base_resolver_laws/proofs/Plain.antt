-- What is asked of a script beyond what is asked of a module stays where it is resolved.
use Rattle.std.proofs.Common.{◌≡◌, ℕ, IsTrue, Some, List, [], refl, sym, ap, ◌∙◌, subst}
use Rattle.swc_tree_marks.specs.declared.ident.Ident.{Ident}
use Rattle.swc_tree_node.specs.declared.kind.Kind.{Kind}
use Rattle.swc_tree_node.specs.declared.node.Node.{Node, Identifier}
use Rattle.swc_tree_scoping.specs.declared.places.Standing.TheVariants as standing
use Rattle.swc_tree_scoping.specs.declared.places.Place.{Place}
use Rattle.swc_tree_scoping.specs.Places.{Path, place_at, program_place}
use Rattle.swc_tree_scoping.specs.Readings.{by_ids, id_name}
use Rattle.swc_tree_scoping.specs.Resolved.{Contexts, is_global_value, remarked}
use Rattle.swc_tree_scoping.specs.WellScoped.{IsClean, Stands}
use Rattle.swc_tree_renaming.specs.Apart.{DeclaresNoGlobalValue, HasNoSloppy, IsPlainScript, NoParameterRepeated, SameScopes, nameless}
use Rattle.swc_tree_renaming.proofs.Core.{takers_same}
use Rattle.swc_tree_renaming.proofs.Labels.{same_labels}
use Rattle.swc_tree_renaming.proofs.Shape.{nameless_by_ids, nameless_remarked, same_scopes}
use Rattle.swc_tree_renaming.proofs.Whole.{by_id, from_ids, id_name_apart, id_name_same, identifier_same, script_too, stands_by_id, stands_there}
use Rattle.swc_base_resolver_laws.specs.Laws.{ResolvedScriptsArePlain}
use Rattle.swc_base_resolver_laws.proofs.Same.{some_same}

module _ (t u : Node) (c : Contexts) (only : u ≡ remarked c t) (clean : IsClean t) where
  shape : nameless u ≡ nameless t
  shape = ap nameless only ∙ nameless_remarked c t

  same : SameScopes t u
  same = same_scopes t u (sym shape)

  same_by_ids : SameScopes (by_ids t) (by_ids u)
  same_by_ids = same_scopes (by_ids t) (by_ids u) (nameless_by_ids t ∙ sym shape ∙ sym (nameless_by_ids u))

  -- an identifier of the answer is one of the script with its new context
  from : (p : Path) (w : Place) (l : Kind) (j : Ident) → place_at program_place u p ≡ Some (w, Identifier l j) → (k : Kind) × (i : Ident) × (place_at program_place t p ≡ Some (w, Identifier k i)) × (j ≡ record i { ctxt = c p })
  from p w l j h =
      let (k, i, e) = same.back p w l j h in
      (k, i, e, identifier_same l k j (record i { ctxt = c p }) (ap (λ (q : Place × Node). q.1) (some_same (w, Identifier l j) (w, Identifier k (record i { ctxt = c p })) (sym h ∙ stands_there t u c only p w k i e))))

  settled : HasNoSloppy t → HasNoSloppy u
  settled h p w l j e = let (k, i, there, is) = from p w l j e in h p w k i there

  no_global_value : DeclaresNoGlobalValue t → DeclaresNoGlobalValue u
  no_global_value h p w l j script e binds global taken =
      let (k, i, there, is) = from p w l j e in
      h p w k i (script_too u t shape script) there binds (subst (λ x. IsTrue (is_global_value x)) (ap (λ (i : Ident). i.sym) is) global) (takers_same t u same w.standing p ∙ taken)

  -- a parameter of the answer, as it stands in the script
  record Parameter (p : Path) (name : List ℕ) : Type 0 where
    identifier : Ident
    clear : identifier.ctxt ≡ []
    stands : Stands (by_ids t) p standing.Parameter (id_name identifier)
    named : id_name (record identifier { ctxt = c p }) ≡ name

  parameter : (p : Path) (name : List ℕ) → Stands (by_ids u) p standing.Parameter name → Parameter p name
  parameter p name a =
      let (l, j, e, is) = from_ids u p a.place a.kind a.identifier a.stands in
      let (k, i, there, one) = from p a.place l j e in
      record {
        identifier = i;
        clear = clean p a.place k i there;
        stands = record { place = a.place; kind = k; identifier = by_id i; stands = stands_by_id t p a.place k i there; stands_so = a.stands_so; named = refl };
        named = sym (ap id_name one) ∙ sym (ap (λ (i : Ident). i.sym) is) ∙ a.named;
      }

  no_parameter_repeated : NoParameterRepeated (by_ids t) → NoParameterRepeated (by_ids u)
  no_parameter_repeated h name f p q a b ta tb =
      let x = parameter p name a in
      let y = parameter q name b in
      let (text, context) = id_name_apart (record (x.identifier) { ctxt = c p }) (record (y.identifier) { ctxt = c q }) (x.named ∙ sym y.named) in
      let one : id_name y.identifier ≡ id_name x.identifier = id_name_same y.identifier x.identifier (sym text, y.clear ∙ sym x.clear) in
      h (id_name x.identifier) f p q x.stands (subst (Stands (by_ids t) q standing.Parameter) one y.stands) (takers_same (by_ids t) (by_ids u) same_by_ids standing.Parameter p ∙ ta)
      (takers_same (by_ids t) (by_ids u) same_by_ids standing.Parameter q ∙ tb)

  plain_stays : IsPlainScript t → IsPlainScript u
  plain_stays h = record { settled = settled h.settled; unlabelled = same_labels u t shape ∙ h.unlabelled; no_global_value = no_global_value h.no_global_value; no_parameter_repeated = no_parameter_repeated h.no_parameter_repeated }

pub resolved_scripts_are_plain : ResolvedScriptsArePlain
resolved_scripts_are_plain t u unresolved top old new clean r plain script =
    plain_stays t u r.contexts r.only_contexts clean (plain (script_too u t (shape t u r.contexts r.only_contexts clean) script))
