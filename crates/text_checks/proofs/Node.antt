-- What is asked of a node holds, by its form; and what follows of a whole program.
use Rattle.std.proofs.Common.{◌≡◌, ℕ, ◌+◌, Bool, true, false, not, ◌&&◌, ◌||◌, List, Some, take, rules, refl, sym, ap, ◌∙◌}
use Rattle.std.specs.List.{slice_get}
use Rattle.swc_tree_marks.specs.declared.ident.Ident.{Ident}
use Rattle.swc_tree_node.specs.declared.kind.Kind.{Kind}
use Rattle.swc_tree_node.specs.declared.node.Node.{Node, Identifier, the_lemmas}
use Rattle.swc_tree_node.specs.declared.slot.Slot.{Slot}
use Rattle.swc_tree_node.specs.Fits.{Fits}
use Rattle.swc_tree_grammar.specs.Grammar.{FitsGrammar}
use Rattle.swc_tree_grammar.specs.Writable.{Writable}
use Rattle.swc_base_writable.proofs.Law.{agrees}
use Rattle.swc_base_writable_rules.specs.declared.round.Round.{Round}
use Rattle.swc_base_writable_rules.specs.Judged.{all_meet as all_sound, sounds}
use Rattle.swc_base_writable_rules.specs.Rounds.{sloppy}
use Rattle.swc_base_writable_rules.specs.Asks.{ask_at as sound_at, seen as seen_sound}
use Rattle.swc_base_writable_rules.proofs.Judged.{met_next as sound_next, sounds_of_name}
use Rattle.text_derives.specs.declared.context.Context.{Context}
use Rattle.text_derives.specs.Asks.{ask_at as derived_at, seen as seen_derived}
use Rattle.text_derives.specs.Contexts.{whole}
use Rattle.text_derives.specs.Judged.{all_meet as all_derived, derived}
use Rattle.text_derives.proofs.Judged.{met_next as derived_next}
use Rattle.text_derives.proofs.Law.{decides}
use Rattle.text_checks.specs.declared.words.Words.{Words}
use Rattle.text_checks.specs.Words.{Worded, all_meet as all_worded, ask_at as worded_at, fits, is_name, meets as meets_words}
use Rattle.text_checks.proofs.Read.{fits_of_name, met_next as worded_next}
use Rattle.text_checks.specs.declared.asked.Asked.{Asked}
use Rattle.text_checks.specs.declared.asked.Rules.{Rules}
use Rattle.text_checks.specs.Asked.{AreKept, Holds, IsAsAsked, IsMet, leaf_derives, leaf_sounds, name_sounds, of_program}

-- ---- leaves

pub leaf_holds : (a : Asked) (t : Node) → ((h : Bool) (q : Round) → sounds t h q ≡ not h) → ((h : Bool) (c : Context) → derived t h c ≡ not h) → ((w : Words) → fits t w ≡ true)
    → Holds a leaf_sounds leaf_derives (λ w. true) → IsAsAsked a t
leaf_holds a t s d f e = record {
  writing = ap (λ b. a.writing.met && (not a.writing.goes_on || b)) (s a.writing.in_head a.writing.round) ∙ e.writing;
  grammar = ap (λ b. a.grammar.met && (not a.grammar.goes_on || b)) (d a.grammar.in_chain a.grammar.context) ∙ e.grammar;
  words = ap (λ b. not a.words.asks || b) (f a.words.words) ∙ e.words;
}

derived_of_name : (k : Kind) (i : Ident) (h : Bool) (c : Context) → derived (Identifier k i) h c ≡ not h
derived_of_name k i h c = search (rules, the_lemmas)

pub name_holds : (a : Asked) (t : Node) (k : Kind) (i : Ident) (x : List ℕ) → t ≡ Identifier k i → x ≡ i.sym → Holds a (name_sounds k x) leaf_derives (is_name x) → IsAsAsked a t
name_holds a t k i x is same e = record {
  writing =
      ap (λ t. seen_sound a.writing (sounds t)) is ∙ ap (λ b. a.writing.met && (not a.writing.goes_on || b)) (sounds_of_name k i a.writing.in_head a.writing.round)
      ∙ ap (λ x. seen_sound a.writing (name_sounds k x)) (sym same) ∙ e.writing;
  grammar = ap (λ t. seen_derived a.grammar (derived t)) is ∙ ap (λ b. a.grammar.met && (not a.grammar.goes_on || b)) (derived_of_name k i a.grammar.in_chain a.grammar.context) ∙ e.grammar;
  words =
      ap (λ t. meets_words a.words (fits t)) is ∙ ap (λ b. not a.words.asks || b) (fits_of_name k i a.words.words)
      ∙ ap (λ x. meets_words a.words (is_name x)) (sym same) ∙ e.words;
}

-- ---- several nodes

pub record AllMet (rules : Rules) (ts : List Node) : Type 0 where
  pub writing : all_sound (sound_at rules.writing.now.row) ts ≡ true
  pub grammar : all_derived (derived_at rules.grammar.now.row) ts ≡ true
  pub words : all_worded (worded_at rules.words.now) ts ≡ true

pub none_yet : (rules : Rules) (ts : List Node) → AllMet rules (take 0 ts)
none_yet rules ts = record { writing = refl; grammar = refl; words = refl }

pub one_more : (rules : Rules) (ts : List Node) (i : ℕ) (c : Node) → slice_get ts i ≡ Some c → AllMet rules (take i ts) → IsMet rules i c → AllMet rules (take (i + 1) ts)
one_more rules ts i c here before now = record {
  writing = sound_next (sound_at rules.writing.now.row) ts i c here before.writing now.writing;
  grammar = derived_next (derived_at rules.grammar.now.row) ts i c here before.grammar now.grammar;
  words = worded_next (worded_at rules.words.now) ts i c here before.words now.words;
}

pub all_kept : (rules : Rules) (ts us : List Node) → us ≡ ts → rules.writing.now.holds ≡ true → rules.grammar.now.holds ≡ true → rules.words.now.holds ≡ true → AllMet rules us → AreKept rules ts
all_kept rules ts us is s d f e = record {
  writing = ap (λ b. b && all_sound (sound_at rules.writing.now.row) ts) s ∙ ap (all_sound (sound_at rules.writing.now.row)) (sym is) ∙ e.writing;
  grammar = ap (λ b. b && all_derived (derived_at rules.grammar.now.row) ts) d ∙ ap (all_derived (derived_at rules.grammar.now.row)) (sym is) ∙ e.grammar;
  words = ap (λ b. b && all_worded (worded_at rules.words.now) ts) f ∙ ap (all_worded (worded_at rules.words.now)) (sym is) ∙ e.words;
}

-- ---- a program

module _ (a : Asked) (t : Node) (is : a ≡ of_program) (e : IsAsAsked a t) where
  pub is_derived_so : FitsGrammar t
  is_derived_so = (decides t (derived t false whole) refl).0 (ap (λ (a : Asked). seen_derived a.grammar (derived t)) (sym is) ∙ e.grammar)

  pub is_worded_so : Worded t
  is_worded_so = ap (λ (a : Asked). meets_words a.words (fits t)) (sym is) ∙ e.words

  sounds_so : sounds t false sloppy ≡ true
  sounds_so = ap (λ (a : Asked). seen_sound a.writing (sounds t)) (sym is) ∙ e.writing

  pub is_writable_so : (s : Slot) → Fits t s → Writable t
  is_writable_so s f = sym (ap (λ g. g false sloppy) (agrees t s f)) ∙ sounds_so
