-- The normal form of a program that a renamer named has the texts that the renamer gives.
use Rattle.std.proofs.Common.{◌≡◌, ◌⊎◌, ℕ, Bool, true, false, Option, Some, None, List, [], refl, sym, ap, ◌∙◌, subst, inl, inr}
use Rattle.std.specs.Prelude.{is_some, option_and_then, option_map, unwrap_or, if◌then◌else◌}
use Rattle.std.proofs.lemmas.Slice.Eq.{bytes_eq-Decides}
use Rattle.swc_tree_marks.specs.declared.ident.Ident.{Ident}
use Rattle.swc_tree_node.specs.declared.kind.Kind.{Kind}
use Rattle.swc_tree_node.specs.declared.node.Node.{Node, Identifier, out-Node, roll-Node, roll-out-Node}
use Rattle.swc_tree_node.specs.declared.node.Node.TheVariants.{rolls-Identifier}
use Rattle.swc_tree_node.specs.declared.node.Node.TheOpen.{Node-F}
use Rattle.swc_tree_scoping.specs.declared.places.Standing.{Standing}
use Rattle.swc_tree_scoping.specs.declared.places.Place.{Place}
use Rattle.swc_tree_scoping.specs.BoundNames.{Id, name_in}
use Rattle.swc_tree_scoping.specs.Places.{place_at, program_place}
use Rattle.swc_tree_scoping.specs.Readings.{by_texts}
use Rattle.swc_tree_scoping.specs.Scopes.{is_name}
use Rattle.swc_tree_grammar.specs.Normal.{normal_form}
use Rattle.swc_tree_grammar_texts.proofs.Cleared.{bare}
use Rattle.swc_base_rename_substitution.specs.declared.place.Place.TheVariants as place
use Rattle.swc_base_rename_substitution.specs.Identifiers.{Changes, id_of}
use Rattle.swc_base_rename_substitution.specs.Names.{if_other_text, same_text}
use Rattle.swc_base_rename_substitution.specs.Substituted.{Substituted, substituted}
use Rattle.swc_base_rename_analysis.specs.Named.{Renaming}
use Rattle.swc_base_rename_program.specs.Renamed.{hygiene_renaming, new_id_by}
use Rattle.swc_base_rename_laws.specs.NewNames.{HasNewNames}
use Rattle.swc_base_rename_laws.proofs.NormalFormNames.{normal_form_has_new_names}
use Rattle.swc_base_rename_laws.proofs.Unchanged.{stays}
use Rattle.swc_base_renaming_laws.proofs.Hygienic.{none_kept}
use Rattle.swc_base_renaming_laws.proofs.KeepsNormal.{is_program, program_goal}
use Rattle.swc_base_renaming_laws.proofs.StaysWritable.{Given, plain_names}
use Rattle.swc_base_renaming_laws.specs.NewTexts.{HasNewTexts, HygieneGivesNormalFormNewTexts, RenamingGivesNormalFormNewTexts}
use Rattle.swc_base_renaming_laws.proofs.Cleared.{bare_there, outline_texts}
use Rattle.swc_base_renaming_laws.proofs.Decided.{NoneIn, decided}

-- ---- where an id stands

record Site (o : Option (Place × Node)) (x : Id) : Type 0 where
  pub place : Place
  pub kind : Kind
  pub name : Ident
  pub is : o ≡ Some (place, Identifier kind name)
  pub id : id_of name ≡ x

abbrev seen_in : Place → Node-F Node → Option (Standing × Id)
seen_in w y = option_map (λ i. (w.standing, (i.sym, i.ctxt))) (name_in y)

second : (q r : Standing × Id) → Some q ≡ Some r → q.1 ≡ r.1
second q r h = let same : q ≡ r = cc in ap (λ (x : Standing × Id). x.1) same

site_of : (w : Place) (t : Node) (r : Standing) (x : Id) (y : Node-F Node) → out-Node t ≡ y → seen_in w y ≡ Some (r, x) → Site (Some (w, t)) x
site_of w t r x (Node-F.Identifier k i) e h =
    record { place = w; kind = k; name = i; is = ap (λ t. Some (w, t)) (sym (roll-out-Node t) ∙ ap roll-Node e ∙ rolls-Identifier k i); id = second (w.standing, id_of i) (r, x) h }
site_of w t r x Node-F.Absent e h = absurd (cc)
site_of w t r x (Node-F.Flag v) e h = absurd (cc)
site_of w t r x (Node-F.Word v) e h = absurd (cc)
site_of w t r x (Node-F.Text v) e h = absurd (cc)
site_of w t r x (Node-F.Span v) e h = absurd (cc)
site_of w t r x (Node-F.List v) e h = absurd (cc)
site_of w t r x (Node-F.Tree k v) e h = absurd (cc)

site : (o : Option (Place × Node)) (r : Standing) (x : Id) → option_and_then (λ (q : Place × Node). seen_in q.0 (out-Node q.1)) o ≡ Some (r, x) → Site o x
site None r x h = absurd (cc)
site (Some (w, t)) r x h = site_of w t r x (out-Node t) refl h

-- ---- the tree with its names, where the map may be empty

some_text : (o : Option (List ℕ)) → is_some o ≡ true → (text : List ℕ) × (o ≡ Some text)
some_text None e = absurd (cc)
some_text (Some text) e = (text, refl)

module _ (r : Renaming) (before given : Node) (h : Given r before given) where
  abbrev m : Changes
  m = new_id_by h.new_texts

  abbrev has : Id → Bool
  has x = is_some (h.new_texts x)

  empty : NoneIn has before → (x : Id) (o : Option (List ℕ)) → h.new_texts x ≡ o → h.new_texts x ≡ None
  empty none x None e = e
  empty none x (Some text) e =
      let (a, n) = h.named.no_other x text e in
      let s = site (place_at program_place before a.1) n.declared.standing x n.declared.stands in
      let no : is_some (h.new_texts x) ≡ false = ap has (sym s.id) ∙ none a.1 program_place s.place s.kind s.name s.is in
      let yes : is_some (h.new_texts x) ≡ true = ap is_some e in absurd (cc)

  no_change : ((x : Id) → h.new_texts x ≡ None) → (x : Id) → m x ≡ None
  no_change e x = ap (λ o. if_other_text x (option_map (λ text. (text, [])) o)) (e x)

  by_map : ((x : Id) × (has x ≡ true)) ⊎ NoneIn has before → Substituted m false before given
  by_map (inl x) = let text = some_text (h.new_texts x.0) x.1 in h.given.some x.0 text.0 text.1
  by_map (inr none) =
      let all : (x : Id) → h.new_texts x ≡ None = λ x. empty none x (h.new_texts x) refl in
      h.given.none all ∙ sym (stays m (no_change all) before place.Other refl)

  pub substituted_given : Substituted m false before given
  substituted_given = by_map (decided has before)

-- ---- texts

abbrev new_of : Id → Option (List ℕ) → Option Id
new_of x o = if_other_text x (option_map (λ text. (text, [])) o)

abbrev chosen : Bool → List ℕ → Option Id
chosen b text = if b then None else Some (text, [])

text_given : (x : Id) (o : Option (List ℕ)) → (unwrap_or (new_of x o) x).0 ≡ unwrap_or o x.0
text_given x None = refl
text_given x (Some text) = by (same_text (text, []) x) refl
  where
    by : (b : Bool) → same_text (text, []) x ≡ b → (unwrap_or (chosen b text) x).0 ≡ text
    by true e = sym ((bytes_eq-Decides text x.0).0 e)
    by false e = refl

text_is : (b : Bool) (x : Id) (o : Option (List ℕ)) → (if b then unwrap_or (new_of x o) x else x).0 ≡ (if b then unwrap_or o x.0 else x.0)
text_is true x o = text_given x o
text_is false x o = refl

new_texts_of : (new_texts : Id → Option (List ℕ)) (t u : Node) → HasNewNames (new_id_by new_texts) t u → HasNewTexts new_texts t (by_texts u)
new_texts_of new_texts t u n = record {
  shape = n.shape ∙ sym (outline_texts u);
  texts = λ p w k i h.
      let x = n.names p w k i h in
      (bare x.0, bare_there p program_place w u k x.0 x.1, ap (λ (y : Id). y.0) x.2 ∙ text_is (is_name w.standing) (id_of i) (new_texts (id_of i)), refl);
}

pub renaming_gives_normal_form_new_texts : RenamingGivesNormalFormNewTexts
renaming_gives_normal_form_new_texts r table config goal before after apart g plain fits writable (given, renamed, cleared) =
    let names = plain_names r table config before given plain renamed in
    let answer = substituted (new_id_by names.new_texts) false place.Other before in
    let same : normal_form after ≡ by_texts (normal_form answer)
    = ap normal_form cleared ∙ ap (λ t. normal_form (by_texts t)) (substituted_given r before given names) ∙ program_goal r goal before apart names.new_texts g names.named fits writable in
    record {
      new_texts = names.new_texts;
      named = names.named;
      normal = subst (HasNewTexts names.new_texts (normal_form before)) (sym same)
          (new_texts_of names.new_texts (normal_form before) (normal_form answer) (normal_form_has_new_names (new_id_by names.new_texts) before answer (is_program goal before g fits) writable refl));
    }

pub hygiene_gives_normal_form_new_texts : HygieneGivesNormalFormNewTexts
hygiene_gives_normal_form_new_texts table config goal before after = renaming_gives_normal_form_new_texts hygiene_renaming table config goal before after (none_kept before)
