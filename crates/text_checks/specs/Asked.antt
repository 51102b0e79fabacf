-- What is asked of a node, and of its children, by the three kinds of rules, and when it holds.
use Rattle.std.specs.Prelude.{◌≡◌, ℕ, Bool, true, false, not, ◌&&◌, List}
use Rattle.swc_tree_node.specs.declared.kind.Kind.{Kind}
use Rattle.swc_tree_node.specs.declared.node.Node.{Node}
use Rattle.swc_base_writable_rules.specs.declared.ask.Row.TheVariants as sound_row
use Rattle.swc_base_writable_rules.specs.declared.rule.Rule.{Rule as SoundRule}
use Rattle.swc_base_writable_rules.specs.Asks.{Sounds, ask_at as sound_at, meets as meets_sound, seen as seen_sound}
use Rattle.swc_base_writable_rules.specs.Judged.{all_meet as all_sound, sounds}
use Rattle.swc_base_writable_rules.specs.Rounds.{name_sound, sloppy}
use Rattle.text_derives.specs.declared.ask.Row.TheVariants as derived_row
use Rattle.text_derives.specs.declared.rule.Rule.{Rule as DerivedRule}
use Rattle.text_derives.specs.Asks.{Derives, ask_at as derived_at, meets as meets_derived, seen as seen_derived}
use Rattle.text_derives.specs.Contexts.{whole}
use Rattle.text_derives.specs.Judged.{all_meet as all_derived, derived}
use Rattle.text_checks.specs.declared.words.Rule.{Rule as WordsRule}
use Rattle.text_checks.specs.declared.words.Words.{Words}
use Rattle.text_checks.specs.Words.{all_meet as all_worded, ask_at as worded_at, asked, fits, meets as meets_words, neither}
use Rattle.text_checks.specs.declared.asked.Asked.{Asked}
use Rattle.text_checks.specs.declared.asked.Rules.{Rules}

-- what is sound of a leaf, and of an identifier, and what is derived of both
abbrev pub leaf_sounds : Sounds
leaf_sounds in_head q = not in_head

abbrev pub name_sounds : Kind → List ℕ → Sounds
name_sounds k x in_head q = not in_head && name_sound k x q

abbrev pub leaf_derives : Derives
leaf_derives in_chain c = not in_chain

-- rules that ask nothing
abbrev pub nothing_sound : SoundRule
nothing_sound = record { holds = true; row = sound_row.Nothing }

abbrev pub nothing_derived : DerivedRule
nothing_derived = record { holds = true; row = derived_row.Nothing }

-- a node is as found, so that more may be asked of it
pub record IsFound (a : Asked) : Type 0 where
  pub writing : a.writing.met ≡ true
  pub grammar : a.grammar.met ≡ true

-- what is asked of a node holds, by what the three kinds of rules say of it
pub record Holds (a : Asked) (sounds : Sounds) (derives : Derives) (fits : Words → Bool) : Type 0 where
  pub writing : seen_sound a.writing sounds ≡ true
  pub grammar : seen_derived a.grammar derives ≡ true
  pub words : meets_words a.words fits ≡ true

-- a node is as asked
abbrev pub IsAsAsked : Asked → Node → Type 0
IsAsAsked a t = Holds a (sounds t) (derived t) (fits t)

-- the child of a number is as the rules ask
pub record IsMet (rules : Rules) (i : ℕ) (t : Node) : Type 0 where
  pub writing : meets_sound (sound_at rules.writing.now.row i) t (sounds t) ≡ true
  pub grammar : meets_derived (derived_at rules.grammar.now.row i) t (derived t) ≡ true
  pub words : meets_words (worded_at rules.words.now i) (fits t) ≡ true

-- a rule holds, and each child is as it asks
abbrev pub is_sound : SoundRule → List Node → Bool
is_sound rule ts = rule.holds && all_sound (sound_at rule.row) ts

abbrev pub is_derived : DerivedRule → List Node → Bool
is_derived rule ts = rule.holds && all_derived (derived_at rule.row) ts

abbrev pub is_worded : WordsRule → List Node → Bool
is_worded rule ts = rule.holds && all_worded (worded_at rule) ts

-- all three do
pub record AreKept (rules : Rules) (ts : List Node) : Type 0 where
  pub writing : is_sound rules.writing.now ts ≡ true
  pub grammar : is_derived rules.grammar.now ts ≡ true
  pub words : is_worded rules.words.now ts ≡ true

-- what is asked of a whole program
abbrev pub of_program : Asked
of_program = record {
  writing = record { met = true; goes_on = true; round = sloppy; in_head = false };
  grammar = record { met = true; goes_on = true; context = whole; in_chain = false };
  words = asked neither;
}
