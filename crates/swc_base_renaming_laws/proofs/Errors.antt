-- What a lawful renamer and then the fixer answer declares no name against the rules, and neither `eval` nor `arguments`.
use Rattle.std.proofs.Common.{◌≡◌, ℕ, true, false, IsTrue, Option, Some, List, [], codes, refl, sym, ap, ◌∙◌, subst, map, ⊎_elim, None, true≢false}
use Rattle.std.specs.Prelude.{if◌then◌else◌}
use Rattle.std.specs.Option.{option_map}
use Rattle.swc_tree_marks.specs.Globals.{Table}
use Rattle.swc_tree_marks.specs.declared.ident.Ident.{Ident}
use Rattle.swc_tree_node.specs.declared.kind.Kind.{Kind}
use Rattle.swc_tree_node.specs.declared.kind.Class.TheVariants as class
use Rattle.swc_tree_node.specs.declared.slot.Content.TheVariants as content
use Rattle.swc_tree_node.specs.declared.slot.Slot.{Slot}
use Rattle.swc_tree_node.specs.declared.slot.Slot.TheVariants as slot
use Rattle.swc_tree_node.specs.declared.node.Node.{Node, Identifier, Tree, out-Node}
use Rattle.swc_tree_node.specs.declared.node.Node.TheOpen.{Node-F}
use Rattle.swc_tree_node.specs.declared.node.Node.TheVariants.{outs-Tree}
use Rattle.swc_tree_node.specs.Fits.{Fits}
use Rattle.swc_tree_scoping.specs.declared.places.Place.{Place}
use Rattle.swc_tree_scoping.specs.declared.places.Standing.TheVariants as standing
use Rattle.swc_tree_scoping.specs.Places.{Path, place_at, program_place}
use Rattle.swc_tree_scoping.specs.Resolved.{is_global_value, is_script}
use Rattle.swc_tree_scoping.specs.Scopes.{first_that, is_binding, is_name, is_taken, rounds, scope_at, taker}
use Rattle.swc_tree_scoping.specs.Readings.{by_ids, by_texts, id_name, with_identifiers}
use Rattle.swc_tree_scoping.specs.WellScoped.{ExportsDeclared, InExportList, IsClean, IsDeclared, NoEarlyErrorOfNames, Stands, WellScoped}
use Rattle.swc_tree_renaming.specs.Apart.{DeclaresNoGlobalValue, HasTexts, IsPlainIfScript, NoParameterRepeated, SameScopes, is_goal, labels_no_function, nameless, no_name}
use Rattle.swc_tree_renaming.proofs.Core.{takers_same}
use Rattle.swc_tree_renaming.proofs.Global.{fits_module, no_module_is_script}
use Rattle.swc_tree_renaming.proofs.Shape.{nameless_by_ids, same_scopes, some_same, twice}
use Rattle.swc_tree_renaming.proofs.Blank.{layer, out_is, place_at_same}
use Rattle.swc_tree_renaming.proofs.Whole.{by_id, captures_none, from_ids, id_name_apart, id_name_same, identifier_same, with_identifier}
use Rattle.swc_tree_grammar.specs.Due.{Places}
use Rattle.swc_tree_grammar.specs.Fixed.{fixed}
use Rattle.swc_tree_grammar.specs.Normal.{normal_form}
use Rattle.swc_tree_grammar.specs.Stripped.{stripped}
use Rattle.swc_tree_grammar.specs.Writable.{Writable}
use Rattle.swc_tree_grammar.proofs.Kept.{stripped_fits}
use Rattle.swc_tree_sites.specs.Sites.{Binding, taken_at}
use Rattle.swc_tree_sites.specs.Smaller.{In, IsPlain}
use Rattle.swc_tree_sites.proofs.Transport.{binding_names, settled_way, way_declares}
use Rattle.swc_tree_sites_laws.proofs.LeftByIds.{ids_are_left}
use Rattle.swc_tree_sites_laws.proofs.LeftIds.{plain_clean}
use Rattle.swc_tree_sites_laws.proofs.LeftStripped.{stripped_takes}
use Rattle.swc_tree_sites_kept.specs.Errors.{Answers, KeepsScopes}
use Rattle.swc_tree_sites_kept.proofs.ErrorsLeft.{answer_declares, answer_redeclares_none, declared_stays, fair_answer, left_keeps}
use Rattle.swc_tree_sites_kept.proofs.Named.{keeps_by}
use Rattle.swc_tree_sites_kept.proofs.TameModules.{modules_tame}
use Rattle.swc_tree_sites_kept.specs.Scripts.{FixedScriptsLoseNoName, PlainScriptsAreLeft, script_place}
use Rattle.swc_base_fixer_laws.proofs.AgainNormal.{normal_form_stays}
use Rattle.swc_base_fixer_laws.proofs.AgainStill.{fits_well}
use Rattle.swc_base_fixer_laws.proofs.Answer.{answer_fits_table}
use Rattle.swc_base_fixer_laws.proofs.Fixed.{fixed_fits, targets_stand_bare}
use Rattle.swc_base_fixer_laws.proofs.NoNamespaces.{writable_has_no_namespaces}
use Rattle.swc_base_rename_substitution.specs.declared.config.Config.{Config}
use Rattle.swc_base_rename_analysis.specs.Named.{Renaming}
use Rattle.swc_base_rename_program.specs.Renamed.{hygiene_renaming}
use Rattle.swc_base_rename_laws.proofs.Outline.{identifiers_alike, rounds_alike, scopes_alike}
use Rattle.swc_base_rename_scoped_laws.specs.Laws.{ChainedIsFlat, KeepsApart, NamesAreApart, new_text}
use Rattle.swc_base_rename_scoped_laws.proofs.Apart.{none_preserved}
use Rattle.swc_base_renaming_laws.specs.Hygiene.{HygieneIsLawful, IsFinishable, RenamingStaysFitting, RenamingStaysSettled, RenamingStaysWritable}
use Rattle.swc_base_renaming_laws.specs.Renamers.{IsLawful, IsRenamedAndCleared, SparesIfScript}
use Rattle.swc_base_renaming_laws.proofs.Kept.{all_named, top_apart}
use Rattle.swc_base_rename_scoped_laws.proofs.TextsByName.{text_by, text_of_id}
use Rattle.swc_base_renaming_laws.specs.NewTexts.{HasRenamedTexts, RenamingGivesNormalFormNewTexts}
use Rattle.swc_base_renaming_laws.specs.Errors.{AnswerDeclaresByTheRules, AnswerHasNoEarlyErrorOfNames, DeclaresByTheRules, RenamedAnswerDeclaresByTheRules, RenamedAnswerHasNoEarlyErrorOfNames}
use Rattle.swc_base_renaming_laws.proofs.Listing.{Local, found}
use Rattle.swc_base_renaming_laws.proofs.ErrorsPrograms.{Answered, Formed, IsOf, IsSettledIn, answered, bare, formed, goal_open, module_place, one_goal, plain_of, script_too, settled_before, shaped}
use Rattle.swc_tree_sites_kept.specs.Exported.{exported_locals}
use Rattle.swc_tree_sites_kept.specs.Exports.{ProgramTakes}
use Rattle.swc_base_resolver_laws.proofs.ExportLists.{lists_are_items, no_list_in_scripts}
use Rattle.swc_tree_sites_kept.proofs.Paths.{export_lists_are_listed}
use Rattle.swc_tree_sites_kept.proofs.Written.{stripped_exports_the_same, written_out_exports}
use Rattle.swc_tree_scoping.specs.declared.places.Scope.{Scope}
use Rattle.swc_tree_scoping.specs.Declares.{Bound, Declares}
use Rattle.swc_tree_scoping.proofs.Remarked.{tree_is}
use Rattle.swc_tree_sites.proofs.Round.{taken_is}
use Rattle.swc_base_renaming_laws.proofs.Words.{FromItself, same_word, spared}

abbrev PP : Place
PP = program_place

nameless_renamed : (f : Ident → Ident) (t : Node) → nameless (with_identifiers f t) ≡ nameless t
nameless_renamed f t = twice f (λ i. no_name) t

-- ---- trees of one shape

through : (t u v : Node) → SameScopes t u → SameScopes u v → SameScopes t v
through t u v a b = record {
  rounds_same = λ p. a.rounds_same p ∙ b.rounds_same p;
  scopes_same = λ s. a.scopes_same s ∙ b.scopes_same s;
  forth = λ p w k i h. let (l, j, e) = a.forth p w k i h in b.forth p w l j e;
  back = λ p w l j h. let (k, i, e) = b.back p w l j h in a.back p w k i e;
}

one_name : (w v : Place) (k l : Kind) (i j : Ident) (o : Option (Place × Node)) → o ≡ Some (w, Identifier k i) → o ≡ Some (v, Identifier l j) → i ≡ j
one_name w v k l i j o e g = identifier_same k l i j (ap (λ (q : Place × Node). q.1) (some_same (w, Identifier k i) (v, Identifier l j) (sym e ∙ g)))

-- an identifier without its context, read by texts
abbrev by_text : Ident → Ident
by_text i = record i { ctxt = [] }

clean_ids : (t : Node) → IsClean (by_ids t)
clean_ids t p w k i h = let (l, j, e, is) = from_ids t p w k i h in ap (λ (i : Ident). i.ctxt) is

-- ---- trees that are read by other names

stands_named : (f : Ident → Ident) (t : Node) (p : Path) (w : Place) (k : Kind) (i : Ident) → place_at PP t p ≡ Some (w, Identifier k i) → place_at PP (with_identifiers f t) p ≡ Some (w, Identifier k (f i))
stands_named f t p w k i h = place_at_same f p PP t ∙ ap (option_map {U = Place × Node} (λ (q : Place × Node). (q.0, with_identifiers f q.1))) h ∙ ap (λ c. Some (w, c)) (with_identifier f k i)

from_named : (f : Ident → Ident) (t : Node) (p : Path) (w : Place) (k : Kind) (i : Ident) → place_at PP (with_identifiers f t) p ≡ Some (w, Identifier k i) → (l : Kind) × (j : Ident) × (place_at PP t p ≡ Some (w, Identifier l j)) × (i ≡ f j)
from_named f t p w k i h =
    let same = same_scopes t (with_identifiers f t) (sym (nameless_renamed f t)) in
    let (l, j, e) = same.back p w k i h in
    (l, j, e, one_name w w k l i (f j) (place_at PP (with_identifiers f t) p) h (stands_named f t p w l j e))

clean_texts : (t : Node) → IsClean (by_texts t)
clean_texts t p w k i h = let (l, j, e, is) = from_named by_text t p w k i h in ap (λ (i : Ident). i.ctxt) is

-- a program of the goal is one
named_of : (f : Ident → Ident) (goal : Slot) (t : Node) → IsOf goal t → IsOf goal (with_identifiers f t)
named_of f goal t is = shaped goal t (with_identifiers f t) (sym (nameless_renamed f t)) is (λ p w k i h. let (l, j, e, n) = from_named f t p w k i h in is.settled p w l j e)

-- export lists stand there too
tree_back : (f : Ident → Ident) (c : Node) (l : Kind) (ts : List Node) → with_identifiers f c ≡ Tree l ts → (us : List Node) × (c ≡ Tree l us)
tree_back f c l ts e = at (out-Node c) refl
  where
    layers : (y : Node-F Node) → out-Node c ≡ y → layer f y ≡ Node-F.Tree l ts
    layers y o = ap (layer f) (sym o) ∙ sym (out_is f c) ∙ ap out-Node e ∙ outs-Tree l ts

    at : (y : Node-F Node) → out-Node c ≡ y → (us : List Node) × (c ≡ Tree l us)
    at (Node-F.Tree k us) o = let z = layers _ o in let one : k ≡ l = cc in (us, tree_is c l us (o ∙ ap (λ k. Node-F.Tree k us) one))
    at Node-F.Absent o = let z = layers _ o in absurd (cc)
    at (Node-F.Flag x) o = let z = layers _ o in absurd (cc)
    at (Node-F.Word x) o = let z = layers _ o in absurd (cc)
    at (Node-F.Text x) o = let z = layers _ o in absurd (cc)
    at (Node-F.Span x) o = let z = layers _ o in absurd (cc)
    at (Node-F.List x) o = let z = layers _ o in absurd (cc)
    at (Node-F.Identifier k x) o = let z = layers _ o in absurd (cc)

none_there : (d : Place × Node) → ◌≡◌ {A = Option (Place × Node)} None (Some d) → ⊥
none_there d e = absurd (cc)

list_back : (f : Ident → Ident) (t : Node) (p : Path) → InExportList (with_identifiers f t) p → InExportList t p
list_back f t p (q, below, j, v, l, ts, path, there, role_is) = at (place_at PP t q) refl
  where
    at : (o : Option (Place × Node)) → place_at PP t q ≡ o → InExportList t p
    at None z =
        absurd (none_there (v, Tree l ts) (ap (option_map {U = Place × Node} (λ (q : Place × Node). (q.0, with_identifiers f q.1))) (sym z) ∙ sym (place_at_same f q PP t) ∙ there))
    at (Some d) z =
        let pair = some_same (d.0, with_identifiers f d.1) (v, Tree l ts) (ap (option_map {U = Place × Node} (λ (q : Place × Node). (q.0, with_identifiers f q.1))) (sym z) ∙ sym (place_at_same f q PP t) ∙ there) in
        let (us, is) = tree_back f d.1 l ts (ap (λ (q : Place × Node). q.1) pair) in
        (q, below, j, d.0, l, us, path, z ∙ ap (λ c. Some (d.0, c)) is, role_is)

tree_forth : (f : Ident → Ident) (k : Kind) (ts : List Node) → with_identifiers f (Tree k ts) ≡ Tree k (map (with_identifiers f) ts)
tree_forth f k ts = tree_is (with_identifiers f (Tree k ts)) k (map (with_identifiers f) ts) (out_is f (Tree k ts) ∙ ap (layer f) (outs-Tree k ts))

list_forth : (f : Ident → Ident) (t : Node) (p : Path) → InExportList t p → InExportList (with_identifiers f t) p
list_forth f t p (q, below, j, v, l, ts, path, there, role_is) = (
  q,
  below,
  j,
  v,
  l,
  map (with_identifiers f) ts,
  path,
  place_at_same f q PP t ∙ ap (option_map {U = Place × Node} (λ (q : Place × Node). (q.0, with_identifiers f q.1))) there ∙ ap (λ c. Some (v, c)) (tree_forth f l ts),
  role_is,
)

-- what the program of a module takes, it declares by its id
program_declares : (t : Node) → IsPlain (by_ids t) → (b : Binding) → In b (taken_at PP t) → Declares (by_ids t) [] (id_name b.1)
program_declares t plain b h =
    let d = (taken_is [] PP t b).0 h in
    let same = same_scopes t (by_ids t) (sym (nameless_by_ids t)) in
    let there = stands_named by_id t d.path d.place d.kind b.1 d.stands in
    let takers : taker b.0 t d.path ≡ taker b.0 (by_ids t) d.path
    = ap (first_that (λ s. is_taken b.0 (scope_at PP t s.0))) (same.rounds_same d.path) ∙ ap (λ (f : Path → Option Scope). first_that (λ s. is_taken b.0 (f s.0)) (rounds PP (by_ids t) d.path)) (λ i s. same.scopes_same s i) in
    let bound : Bound (by_ids t) [] b.0 (id_name b.1) = record { path = d.path; place = d.place; kind = d.kind; identifier = by_id b.1; stands = there; stands_so = d.stands_so; named = refl; unmarked = refl; taken = sym takers ∙ d.taken } in
    way_declares (by_ids t) plain (id_name b.1) [] true b.0 bound (settled_way b.0 (λ e. plain.settled d.path d.place d.kind (by_id b.1) there (d.stands_so ∙ e)))

-- ---- the laws that it rests on

pub record Laws : Type 0 where
  pub apart : NamesAreApart
  pub flat : ChainedIsFlat
  pub texts : RenamingGivesNormalFormNewTexts
  pub writable : RenamingStaysWritable
  pub fits : RenamingStaysFitting
  pub settled : RenamingStaysSettled
  pub left : PlainScriptsAreLeft
  pub whole : FixedScriptsLoseNoName

module _ (laws : Laws) (renamer : Renaming) (table : Table) (config : Config) (place : Places) (goal : Slot) (before middle : Node) (lawful : IsLawful renamer) (keeps : KeepsApart renamer before)
    (is : IsTrue (is_goal goal)) (fits_before : Fits before goal) (first : IsFinishable config before) (plain : IsPlainIfScript before) (scoped : WellScoped before) (renamed : IsRenamedAndCleared table config renamer before middle) where
  abbrev after : Node
  after = fixed place middle

  abbrev N : Node
  N = normal_form before

  abbrev K : Node
  K = normal_form middle

  given : HasRenamedTexts renamer before middle
  given = laws.texts renamer table config goal before middle (top_apart before scoped renamer keeps) is first.plain fits_before first.writable renamed

  abbrev text : List ℕ → List ℕ
  text = text_by given.new_texts

  fits_middle : Fits middle goal
  fits_middle = laws.fits renamer table config goal before middle is first.plain fits_before renamed

  writable_middle : Writable middle
  writable_middle = laws.writable renamer table config goal before middle lawful first.plain fits_before first.writable renamed

  fits_after : Fits after goal
  fits_after = answer_fits_table place (stripped middle) goal (stripped_fits middle goal (targets_stand_bare middle goal fits_middle writable_middle) (goal_open goal is) fits_middle)

  writable_after : Writable after
  writable_after = (fixed_fits place middle goal (goal_open goal is) fits_middle writable_middle).0

  same_form : normal_form after ≡ K
  same_form = normal_form_stays place middle (fits_well middle goal fits_middle)

  -- ---- the three are plain programs

  form_before : Formed goal before
  form_before = formed laws.left goal before is fits_before first.writable (settled_before goal before fits_before plain)

  settled_middle : IsSettledIn goal middle
  settled_middle e = laws.settled renamer table config goal before middle lawful is first.plain fits_before renamed (settled_before goal before fits_before plain e)

  form_middle : Formed goal middle
  form_middle = formed laws.left goal middle is fits_middle writable_middle settled_middle

  answer : Answered goal after
  answer = answered laws.left laws.whole place middle goal is fits_middle writable_middle settled_middle fits_after writable_after

  -- ---- the normal forms have one shape

  same_shape : SameScopes N K
  same_shape = record {
    rounds_same = λ p. rounds_alike N K given.normal.shape PP p;
    scopes_same = λ s. scopes_alike N K given.normal.shape PP s;
    forth = λ p w k i h. let (j, e) = identifiers_alike N K given.normal.shape p PP w k i h in (k, j, e);
    back = λ p w k i h. let (j, e) = identifiers_alike K N (sym given.normal.shape) p PP w k i h in (k, j, e);
  }

  -- the answer's, read by texts
  abbrev F : Node
  F = by_texts K

  same_by_ids : SameScopes (by_ids N) F
  same_by_ids = through (by_ids N) N F (same_scopes (by_ids N) N (nameless_by_ids N)) (through N K F same_shape (same_scopes K F (sym (nameless_renamed by_text K))))

  -- what stands there got its text
  named : (p : Path) (w v : Place) (k l : Kind) (i j : Ident) → place_at PP N p ≡ Some (w, Identifier k i) → place_at PP F p ≡ Some (v, Identifier l j) → IsTrue (is_name w.standing) → j.sym ≡ new_text given.new_texts i
  named p w v k l i j e g n =
      let (x, h, sym_is, ctxt_is) = given.normal.texts p w k i e in
      let (m, y, there, is) = from_named by_text K p v l j g in
      let same : y ≡ x = one_name v w m k y x (place_at PP K p) there h in
      ap (λ (i : Ident). i.sym) is ∙ ap (λ (i : Ident). i.sym) same ∙ sym_is ∙ ap (λ b. if b then new_text given.new_texts i else i.sym) n

  new_texts : HasTexts (by_ids N) text F
  new_texts p w v k l i j e g n =
      let (c, x, h, is) = from_ids N p w k i e in
      named p w v c l x j h g n ∙ sym (text_of_id given.new_texts x) ∙ ap (λ (i : Ident). text i.sym) (sym is)

  -- ---- together

  keeps_before : KeepsScopes N before
  keeps_before = left_keeps before N form_before.left form_before.takes

  keeps_texts : KeepsScopes (by_texts after) F
  keeps_texts = keeps_by by_text K after (subst (KeepsScopes after) same_form answer.keeps)

  of_before : IsOf goal (by_ids before)
  of_before = named_of by_id goal before form_before.own

  of_normal : IsOf goal (by_ids N)
  of_normal = named_of by_id goal N form_before.normal

  of_texts : IsOf goal F
  of_texts = named_of by_text goal K form_middle.normal

  of_after : IsOf goal (by_texts after)
  of_after = named_of by_text goal after answer.form.own

  answers : Answers (by_ids before) (by_ids N) F (by_texts after) text
  answers = record {
    fair = (plain_of goal (by_ids before) of_before, λ s. (plain (script_too goal (by_ids before) before of_before form_before.own s)).no_parameter_repeated);
    plain = (plain_of goal (by_ids N) of_normal, plain_of goal F of_texts, plain_of goal (by_texts after) of_after);
    goals = (one_goal goal (by_ids before) (by_ids N) of_before of_normal, one_goal goal (by_ids before) F of_before of_texts, one_goal goal (by_ids before) (by_texts after) of_before of_after);
    clean = (clean_ids before, clean_ids N, clean_texts K, clean_texts after);
    left = ids_are_left N before form_before.left;
    program = (keeps_by by_id before N keeps_before).program;
    one = scoped.each_in_one_scope;
    apart = captures_none before text scoped (plain_of goal before form_before.own)
        (laws.apart before goal fits_before (plain_of goal before form_before.own) scoped first.writable renamer given.new_texts text keeps (all_named laws.flat before goal renamer given.new_texts fits_before scoped given.named) (text_of_id given.new_texts));
    shape = same_by_ids;
    texts = new_texts;
    keeps = keeps_texts;
  }

  -- a word that an id gets from itself alone is declared in the answer only where the program declares it
  declared_word : (word : List ℕ) → FromItself renamer word → IsDeclared (by_texts after) word → IsDeclared (by_texts before) word
  declared_word word alone d =
      let (p, r, b) = declared_stays F (by_texts after) answers.plain.1 answers.plain.2 (clean_texts K) (clean_texts after) keeps_texts word d in
      let at = b.at in
      let (m, y, there, is) = from_named by_text K p at.place at.kind at.identifier at.stands in
      let (l, i, e) = same_shape.back p at.place m y there in
      let names : IsTrue (is_name at.place.standing) = subst (λ r. IsTrue (is_name r)) (sym at.stands_so) (binding_names r b.binds) in
      let own : i.sym ≡ word = same_word before renamer _ _ given.new_texts given.named i word alone (sym (named p at.place at.place l at.kind i at.identifier e at.stands names) ∙ at.named) in
      declared_stays (by_texts before) (by_texts N) (plain_of goal (by_texts before) (named_of by_text goal before form_before.own)) (plain_of goal (by_texts N) (named_of by_text goal N form_before.normal))
      (clean_texts before) (clean_texts N) (keeps_by by_text before N keeps_before) word
      (p, r, record { at = record { place = at.place; kind = l; identifier = by_text i; stands = stands_named by_text N p at.place l i e; stands_so = at.stands_so; named = own }; binds = b.binds })

  pub by_the_rules : DeclaresByTheRules after
  by_the_rules = record {
    no_redeclaration = answer_redeclares_none (by_ids before) (by_ids N) F (by_texts after) text answers scoped.no_redeclaration;
    no_eval_or_arguments = ((λ d. scoped.no_eval_or_arguments.0 (declared_word (codes "eval") lawful.no_eval d)), (λ d. scoped.no_eval_or_arguments.1 (declared_word (codes "arguments") lawful.no_arguments d)));
  }

  -- ---- what is asked of a script alone: the answer to a plain script is one

  script_before : IsTrue (is_script after) → IsTrue (is_script before)
  script_before s = script_too goal after before answer.form.own form_before.own s

  unlabelled : IsTrue (is_script after) → IsTrue (labels_no_function after)
  unlabelled s = by_goal goal is fits_middle settled_middle fits_after
    where
      by_goal : (goal : Slot) → IsTrue (is_goal goal) → Fits middle goal → IsSettledIn goal middle → Fits after goal → IsTrue (labels_no_function after)
      by_goal (slot.One (content.Node class.Module)) is f settled g = absurd (no_module_is_script after (fits_module after g) s)
      by_goal (slot.One (content.Node class.Script)) is f settled g = (laws.whole place middle f writable_middle (settled refl)).settled.1
      by_goal _ is f settled g = absurd (true≢false (sym is))

  -- a name of a global value is nobody's new text: where the answer's program takes it, the script's does
  no_global_value : SparesIfScript renamer before → DeclaresNoGlobalValue after
  no_global_value spares p w k i s e binds global taken =
      let keeps : KeepsScopes after K = subst (KeepsScopes after) same_form answer.keeps in
      let x : Binding = (w.standing, i) in
      let d = (taken_is [] PP K x).0 (subst (In x) keeps.program ((taken_is [] PP after x).1 (record { path = p; place = w; kind = k; stands = e; stands_so = refl; binds = binds; taken = taken }))) in
      let (l, j, there) = same_shape.back d.path d.place d.kind i d.stands in
      let names : IsTrue (is_name d.place.standing) = subst (λ r. IsTrue (is_name r)) (sym d.stands_so) (binding_names w.standing binds) in
      let word : j.sym ≡ i.sym
      = same_word before renamer _ _ given.new_texts given.named j i.sym (spared renamer (spares (script_before s)) i.sym global) (sym (named d.path d.place d.place l d.kind j (by_text i) there (stands_named by_text K d.path d.place d.kind i d.stands) names)) in
      let y : Binding = (w.standing, j) in
      let b = (taken_is [] PP before y).0 (subst (In y) form_before.takes ((taken_is [] PP N y).1
      (record { path = d.path; place = d.place; kind = l; stands = there; stands_so = d.stands_so; binds = binds; taken = takers_same N K same_shape w.standing d.path ∙ d.taken }))) in
      (plain (script_before s)).no_global_value b.path b.place b.kind j (script_before s) b.stands (subst (λ r. IsTrue (is_binding r)) (sym b.stands_so) binds)
      (subst (λ x. IsTrue (is_global_value x)) (sym word) global) (subst (λ r. taker r before b.path ≡ Some []) (sym b.stands_so) b.taken)

  none_repeated : IsTrue (is_script after) → NoParameterRepeated (by_ids after)
  none_repeated s name f p q a b ta tb =
      let fair = (fair_answer (by_ids before) (by_ids N) F (by_texts after) text answers scoped.no_redeclaration).0 in
      let same : SameScopes (by_texts after) (by_ids after) = same_scopes (by_texts after) (by_ids after) (nameless_renamed by_text after ∙ sym (nameless_by_ids after)) in
      let (k, i, here, one) = from_ids after p a.place a.kind a.identifier a.stands in
      let (l, j, there, other) = from_ids after q b.place b.kind b.identifier b.stands in
      let own : id_name i ≡ name = ap (λ (i : Ident). i.sym) (sym one) ∙ a.named in
      let too : id_name j ≡ name = ap (λ (i : Ident). i.sym) (sym other) ∙ b.named in
      let word : j.sym ≡ i.sym = (id_name_apart j i (too ∙ sym own)).0 in
      let stands_p : Stands (by_texts after) p standing.Parameter i.sym
      = record { place = a.place; kind = k; identifier = by_text i; stands = stands_named by_text after p a.place k i here; stands_so = a.stands_so; named = refl } in
      let stands_q : Stands (by_texts after) q standing.Parameter i.sym
      = record { place = b.place; kind = l; identifier = by_text j; stands = stands_named by_text after q b.place l j there; stands_so = b.stands_so; named = word } in
      fair.1 (script_too goal after (by_texts after) answer.form.own of_after s) i.sym f p q stands_p stands_q (takers_same (by_texts after) (by_ids after) same standing.Parameter p ∙ ta) (takers_same (by_texts after) (by_ids after) same standing.Parameter q ∙ tb)

  pub stays_plain : SparesIfScript renamer before → IsPlainIfScript after
  stays_plain spares s = record { settled = answer.form.own.settled; unlabelled = unlabelled s; no_global_value = no_global_value spares; no_parameter_repeated = none_repeated s }

  -- ---- what export lists name: no script has one

  -- what the module exports its program declares
  exported_before : Fits before module_place → (j : Ident) → In j (exported_locals N) → Declares (by_ids before) [] (id_name j)
  exported_before fits j h =
      let b = bare before fits first.writable in
      ⊎_elim
      (λ g.
      let f = found before before j refl (subst (In j) (stripped_exports_the_same before fits b) g) in
      scoped.exports_declared f.path (id_name j) (list_forth by_id before f.path f.listed)
      (record { place = Local; kind = f.kind; identifier = by_id j; stands = stands_named by_id before f.path Local f.kind j f.stands; stands_so = refl; named = refl }))
      (λ (g : ProgramTakes (stripped before) j).
      subst (Declares (by_ids before) []) (id_name_same g.0.1 j g.2)
      (program_declares before (plain_clean (by_ids before) (plain_of goal (by_ids before) of_before) (clean_ids before)) g.0 (subst (In g.0) (stripped_takes before fits b) g.1)))
      ((written_out_exports (stripped before) (stripped_fits before module_place b refl fits) (modules_tame before fits first.writable)).gained j h)

  module_declares : Fits before module_place → Fits after module_place → ExportsDeclared (by_texts after)
  module_declares fits fits_too p name inside at =
      let b = bare after fits_too writable_after in
      let (l, y, e, is) = from_named by_text after p at.place at.kind at.identifier at.stands in
      let own = export_lists_are_listed after fits_too (lists_are_items module_place after refl fits_too (writable_has_no_namespaces after module_place fits_too writable_after)) p at.place l y (list_back by_text after p inside) e at.stands_so in
      let left_there = subst (In y) (sym (stripped_exports_the_same after fits_too b)) own in
      let written = (written_out_exports (stripped after) (stripped_fits after module_place b refl fits_too) (modules_tame after fits_too writable_after)).kept y left_there in
      let f = found K N y (sym given.normal.shape) (subst (λ t. In y (exported_locals t)) same_form written) in
      let new : y.sym ≡ new_text given.new_texts f.other = named f.path Local Local f.kind f.kind f.other (by_text y) f.there (stands_named by_text K f.path Local f.kind y f.stands) refl in
      subst (Declares (by_texts after) []) (text_of_id given.new_texts f.other ∙ sym new ∙ ap (λ (i : Ident). i.sym) (sym is) ∙ at.named)
      (answer_declares (by_ids before) (by_ids N) F (by_texts after) text answers (id_name f.other) (exported_before fits f.other f.own))

  exports_declared : ExportsDeclared (by_texts after)
  exports_declared = by_goal goal is fits_before fits_after
    where
      by_goal : (goal : Slot) → IsTrue (is_goal goal) → Fits before goal → Fits after goal → ExportsDeclared (by_texts after)
      by_goal (slot.One (content.Node class.Module)) is f g = module_declares f g
      by_goal (slot.One (content.Node class.Script)) is f g = λ p name inside at. absurd (no_list_in_scripts after p g (writable_has_no_namespaces after script_place g writable_after) (list_back by_text after p inside))
      by_goal _ is f g = absurd (true≢false (sym is))

  pub no_early_error : NoEarlyErrorOfNames after
  no_early_error = record { exports_declared = exports_declared; no_redeclaration = by_the_rules.no_redeclaration; no_eval_or_arguments = by_the_rules.no_eval_or_arguments }

pub renamed_answer_declares_by_the_rules : Laws → RenamedAnswerDeclaresByTheRules
renamed_answer_declares_by_the_rules laws r table config place goal before middle lawful keeps is fits first plain scoped renamed =
    by_the_rules laws r table config place goal before middle lawful keeps is fits first plain scoped renamed

pub renamed_answer_has_no_early_error_of_names : Laws → RenamedAnswerHasNoEarlyErrorOfNames
renamed_answer_has_no_early_error_of_names laws r table config place goal before middle lawful keeps is fits first plain scoped renamed =
    no_early_error laws r table config place goal before middle lawful keeps is fits first plain scoped renamed

-- ---- hygiene

pub answer_declares_by_the_rules : RenamedAnswerDeclaresByTheRules → HygieneIsLawful → AnswerDeclaresByTheRules
answer_declares_by_the_rules law lawful table config place goal before middle = law hygiene_renaming table config place goal before middle lawful (none_preserved before hygiene_renaming (λ x. refl))

pub answer_has_no_early_error_of_names : RenamedAnswerHasNoEarlyErrorOfNames → HygieneIsLawful → AnswerHasNoEarlyErrorOfNames
answer_has_no_early_error_of_names law lawful table config place goal before middle = law hygiene_renaming table config place goal before middle lawful (none_preserved before hygiene_renaming (λ x. refl))
