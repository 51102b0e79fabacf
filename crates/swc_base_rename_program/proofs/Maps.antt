-- Sets and maps of ids.
use Rattle.std.proofs.Common.{◌≡◌, ℕ, ◌≤◌, Bool, true, false, ◌&&◌, nat_eq, Option, Some, None, option_map, List, [], length, cond, refl, sym, ap, ◌∙◌, subst, arith}
use Rattle.std.specs.List.{slice_get}
use Rattle.std.specs.Cmp.{IsEquivalence}
use Rattle.std.specs.BTreeMap.{BTreeMap}
use Rattle.std.proofs.lemmas.Bool.{and_from, false_from_ne_true}
use Rattle.std.proofs.lemmas.Cmp.{nat_list_eq_equiv}
use Rattle.std.specs.Cmp.Lexicographic.{pointwise}
use Rattle.std.proofs.lemmas.Option.{slice_get_within}
use Rattle.swc_tree_scoping.specs.BoundNames.{Id}
use Rattle.swc_base_rename_analysis.specs.declared.analysis.Analysis.{Analysis}
use Rattle.swc_base_rename_naming.specs.ByIds.{AreChanged, AreTexts, if_other, text_below}
use Rattle.swc_base_rename_naming.proofs.ByIds.{none_has, some_has}
use Rattle.swc_base_rename_naming_laws.proofs.Surrounds.{numbered_at, one_id}
use Rattle.swc_base_rename_naming_laws.specs.Rules.{IsByIds, id_in}
use Rattle.swc_base_rename_substitution.specs.Names.{by_order, if_other_text, same_id}
use Rattle.swc_base_rename_substitution.specs.Substituted.{Substituted}
use Rattle.swc_tree_node.specs.declared.node.Node.{Node}
use Rattle.swc_base_rename_program.specs.NewTexts.{IsTableOf}
use Rattle.swc_base_rename_program.specs.Renamed.{IsGiven}

itself : (x : Id) → same_id x x ≡ true
itself x = and_from (pointwise nat_eq x.0 x.0) (pointwise nat_eq x.1 x.1) (nat_list_eq_equiv.refl x.0) (nat_list_eq_equiv.refl x.1)

pub ids_equivalent : IsEquivalence same_id
ids_equivalent = record {
  refl = itself;
  symm = λ x y j. nat_list_eq_equiv.symm x.0 y.0 j && nat_list_eq_equiv.symm x.1 y.1 j;
  congr = λ x y z h. ap (λ w. same_id w z) (one_id x y h);
}

-- the texts of ids, where they were by number
pub texts_are_by_ids : (a : Analysis) (count : ℕ) (texts : ℕ → Option (List ℕ)) (new_texts : Id → Option (List ℕ)) → length a.ids.items ≤ count → AreTexts (id_in a) count texts new_texts
    → IsByIds a texts new_texts
texts_are_by_ids a count texts new_texts enough are = record {
  each = λ k x is. let (e, at, same) = is in let within = slice_get_within a.ids.items k e at in are.each k x (omega (arith, within, enough)) (ap (option_map (λ e. e.id)) at ∙ ap Some same);
  no_other = λ x none. are.no_other x (λ k y less at. false_from_ne_true (same_id y x) (λ h. none k (numbered_at (slice_get a.ids.items k) x (at ∙ ap Some (one_id y x h)))));
}

-- the table that is made of texts by number is that of the texts by id
pub table_is_of : (id_of : ℕ → Option Id) (count : ℕ) (texts : ℕ → Option (List ℕ)) (table : Option (BTreeMap Id (List ℕ))) → AreChanged id_of count texts table → IsTableOf (text_below id_of texts count) table
table_is_of id_of count texts None h = none_has id_of texts count h
table_is_of id_of count texts (Some m) h = (some_has id_of texts count h.0, h.1)

none_is_text : {A : Type 0} {x : List ℕ} → None ≡ Some x → A
none_is_text e = absurd (cc)

-- where no id has a new text, a tree stays as it is
pub given_none : (new_texts : Id → Option (List ℕ)) (keeps : Bool) (t : Node) → ((x : Id) → new_texts x ≡ None) → IsGiven new_texts keeps t t
given_none new_texts keeps t none = record {
  none = λ h. refl;
  some = λ x text h. none_is_text (sym (none x) ∙ h);
}

-- what is no change of a text gives no new id
other_twice : (x : Id) (o : Option (List ℕ)) → if_other_text x (option_map (λ text. (text, [])) (if_other x o)) ≡ if_other_text x (option_map (λ text. (text, [])) o)
other_twice x None = refl
other_twice x (Some text) = by (pointwise nat_eq text x.0) refl
  where
    by : (b : Bool) → pointwise nat_eq text x.0 ≡ b → if_other_text x (option_map (λ text. (text, [])) (cond b None (Some text))) ≡ if_other_text x (Some (text, []))
    by true e = sym (ap (λ b. cond b None (Some (text, []))) e)
    by false e = refl

-- where one has, the names are put in by the table
pub given_table : (m : BTreeMap Id (List ℕ)) (new_texts : Id → Option (List ℕ)) (keeps : Bool) (t answer : Node) → IsTableOf new_texts (Some m) → Substituted (by_order m) keeps t answer → IsGiven new_texts keeps t answer
given_table m new_texts keeps t answer table h = record {
  none = λ none. absurd (table.0 none);
  some = λ x text e. subst (λ f. Substituted f keeps t answer) (λ j x. (ap (λ o. if_other_text x (option_map (λ text. (text, [])) o)) (table.1 x) ∙ other_twice x (new_texts x)) j) h;
}
