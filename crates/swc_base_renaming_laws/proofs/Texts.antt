-- Each name of what the fixer makes of a program with labels has the text of its label.
use Rattle.std.proofs.Common.{◌≡◌, ⊎_elim, inl, ℕ, Bool, true, false, IsTrue, Option, Some, None, List, refl, sym, ap, ◌∙◌, subst}
use Rattle.std.specs.Prelude.{option_map, unwrap_or, if◌then◌else◌}
use Rattle.std.proofs.lemmas.Slice.Eq.{bytes_eq-Decides}
use Rattle.std.proofs.Math.Seq.{drop-append_seam, take-append_seam}
use Rattle.swc_tree_marks.specs.declared.ident.Ident.{Ident}
use Rattle.swc_tree_node.specs.declared.kind.Kind.{Kind}
use Rattle.swc_tree_node.specs.declared.slot.Slot.{Slot}
use Rattle.swc_tree_node.specs.declared.node.Node.{Node, Identifier}
use Rattle.swc_tree_node.specs.Fits.{Fits}
use Rattle.swc_tree_scoping.specs.declared.places.Place.{Place}
use Rattle.swc_tree_scoping.specs.Places.{Path, place_at, program_place}
use Rattle.swc_tree_scoping.specs.Readings.{id_name}
use Rattle.swc_tree_scoping.specs.Scopes.{is_binding, rounds}
use Rattle.swc_tree_renaming.specs.Apart.{SameId}
use Rattle.swc_tree_renaming.proofs.Shape.{twice}
use Rattle.swc_tree_grammar.specs.Writable.{is_writable}
use Rattle.swc_tree_grammar_texts.specs.Laws.{TextsAreAsWritable}
use Rattle.swc_tree_grammar_texts.proofs.Cleared.{bare}
use Rattle.swc_tree_sites.specs.Sites.{Site, counted}
use Rattle.swc_tree_sites.specs.Smaller.{In, IsCopy, IsLeftOf}
use Rattle.swc_tree_sites.proofs.Found.{env_at, finds}
use Rattle.swc_tree_sites.proofs.Kept.{S}
use Rattle.swc_tree_sites.proofs.Round.{entry_of, env_is, taken_by, taken_is}
use Rattle.swc_tree_sites.proofs.Transport.{binding_names, counted_refers, entry_from, flat_from, not_both}
use Rattle.swc_base_rename_substitution.specs.Names.{Id, if_other_text, same_text}
use Rattle.swc_base_rename_substitution.specs.Identifiers.{id_of}
use Rattle.swc_base_rename_laws.specs.NewNames.{HasNewNames}
use Rattle.swc_base_rename_laws.proofs.Outline.{identifiers_alike}
use Rattle.swc_base_renaming_laws.specs.Contexts.{id_of_label, labelled_changes}
use Rattle.swc_base_renaming_laws.specs.LabelledLabels.{label, labelled, text_of_label}
use Rattle.swc_base_renaming_laws.proofs.LabelledChanged.{fits_changed, from_changed, one_name}

-- ---- trees with labels

pub fits_labelled : (t : Node) (s : Slot) → Fits t s → Fits (labelled t) s
fits_labelled t s f = fits_changed label t s ∙ f

pub writable_labelled : TextsAreAsWritable → (t : Node) → IsTrue (is_writable t) → IsTrue (is_writable (labelled t))
writable_labelled texts t w = sym (texts (labelled t)) ∙ ap is_writable (twice label bare t) ∙ texts t ∙ w

-- the label of an identifier stands for its id
pub label_means : (i : Ident) → id_of_label (id_name i) ≡ (i.sym, i.ctxt)
label_means i = λ n. (take-append_seam i.sym i.ctxt n, drop-append_seam i.sym i.ctxt n)

-- an identifier with the text of its label's id
abbrev pub IsOwn : Ident → Type 0
IsOwn i = i.sym ≡ (id_of_label i.ctxt).0

own_label : (i : Ident) → IsOwn (label i)
own_label i = sym (take-append_seam i.sym i.ctxt)

own_same : (i j : Ident) → SameId i j → IsOwn i → IsOwn j
own_same i j same own = sym same.0 ∙ own ∙ ap (λ c. (id_of_label c).0) same.1

-- ---- what is left of a tree whose identifiers are such has such ones

abbrev pub EachName : (Ident → Type 0) → Node → Type 0
EachName P t = (s : Site) → In s (S program_place t).sites → P s.1

pub labelled_own : (t : Node) → EachName IsOwn (labelled t)
labelled_own t s i =
    let g = (finds (labelled t) program_place s).0 i in
    let (l, j, e, is) = from_changed label t g.path g.place g.kind s.1 g.stands in
    subst IsOwn (sym is) (own_label j)

-- what a copy says again is a binding of the tree
pub copied : (n : Node) (s : Site) → In s (S program_place n).sites → (c : IsCopy s) → (q : Path) × (w : Place) × (k : Kind) × (place_at program_place n q ≡ Some (w, Identifier k c.bound)) × (is_binding w.standing ≡ true)
copied n s i c =
    let g = (finds n program_place s).0 i in
    let (u, k, e) = flat_from (entry_of program_place n) (c.taken, true) (rounds program_place n g.path) (subst (In (c.taken, true)) (sym (g.env ∙ c.env) ∙ env_is g.path program_place n) (inl refl)) in
    let (sets, views) = entry_from (taken_by program_place n u.0) c.taken u.1 true e in
    let b = (taken_is u.0 program_place n (c.way, c.bound)).0 (subst (In (c.way, c.bound)) (sym sets) c.within) in
    (b.path, b.place, b.kind, b.stands, ap is_binding b.stands_so ∙ b.binds)

pub left_own : (n t : Node) → IsLeftOf n t → EachName IsOwn t → EachName IsOwn n
left_own n t left own s i = ⊎_elim (own s) (λ c.
    let (q, w, k, there, binds) = copied n s i c in
    let site : Site = (counted w.standing, c.bound, env_at program_place n q) in
    let found : In site (S program_place n).sites = (finds n program_place site).1 (record { path = q; place = w; kind = k; stands = there; stands_so = refl; names = binding_names w.standing binds; env = refl }) in
    own_same c.bound s.1 c.same (⊎_elim (own site) (λ d. absurd (not_both w.standing binds (counted_refers w.standing d.refers))) (left.names site found))) (left.names s i)

-- ---- new texts

module _ (new_texts : Id → Option (List ℕ)) where
  -- what an id with the text of its label becomes
  module _ (x : Id) (own : x.0 ≡ (id_of_label x.1).0) where
    chosen : (text : List ℕ) (b : Bool) → same_text (text, x.1) x ≡ b → unwrap_or (if b then None else Some (text, x.1)) x ≡ (text, x.1)
    chosen text true e = λ n. (sym ((bytes_eq-Decides text x.0).0 e) n, x.1)
    chosen text false e = refl

    given : (o : Option (List ℕ)) → unwrap_or (if_other_text x (option_map (λ text. (text, x.1)) o)) x ≡ (unwrap_or o (id_of_label x.1).0, x.1)
    given None = λ n. (own n, x.1)
    given (Some text) = chosen text (same_text (text, x.1) x) refl

    renewed : unwrap_or (labelled_changes new_texts x) x ≡ (text_of_label new_texts x.1, x.1)
    renewed = given (new_texts (x.0, (id_of_label x.1).1)) ∙ (λ n. (unwrap_or (new_texts (own n, (id_of_label x.1).1)) (id_of_label x.1).0, x.1))

  abbrev pub HasText : Ident → Type 0
  HasText i = i.sym ≡ text_of_label new_texts i.ctxt

  -- what has new names where those of a tree are its own has the texts of its labels
  pub told : (n v : Node) → HasNewNames (labelled_changes new_texts) n v → EachName IsOwn n → EachName HasText v
  told n v names own s i =
      let g = (finds v program_place s).0 i in
      let (j, there) = identifiers_alike v n (sym names.shape) g.path program_place g.place g.kind s.1 g.stands in
      let (x, here, is) = names.names g.path g.place g.kind j there in
      let site : Site = (counted g.place.standing, j, env_at program_place n g.path) in
      let mine : IsOwn j = own site ((finds n program_place site).1 (record { path = g.path; place = g.place; kind = g.kind; stands = there; stands_so = refl; names = g.names; env = refl })) in
      let same : x ≡ s.1 = one_name (place_at program_place v g.path) g.place g.place g.kind g.kind x s.1 here g.stands in
      let id : id_of s.1 ≡ (text_of_label new_texts j.ctxt, j.ctxt)
      = ap id_of (sym same) ∙ is ∙ ap (λ b. if b then unwrap_or (labelled_changes new_texts (id_of j)) (id_of j) else id_of j) g.names ∙ renewed (id_of j) mine in
      ap (λ (x : Id). x.0) id ∙ ap (text_of_label new_texts) (sym (ap (λ (x : Id). x.1) id))
