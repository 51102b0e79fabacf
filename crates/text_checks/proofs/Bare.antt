-- Trees that are one token keep all rules.
use Rattle.std.proofs.Common.{◌≡◌, ℕ, zero, suc, Bool, true, false, not, ◌&&◌, ◌||◌, List, [], ◌∷◌, rules, refl, sym, ap, ◌∙◌, subst}
use Rattle.std.specs.List.{list_all}
use Rattle.swc_tree_marks.specs.declared.span.Span.{Span as Range}
use Rattle.swc_tree_node.specs.declared.kind.Kind.{Kind}
use Rattle.swc_tree_node.specs.declared.kind.Kind.TheVariants as kind
use Rattle.swc_tree_node.specs.declared.kind.Word.{Word as Spelling}
use Rattle.swc_tree_node.specs.declared.node.Node.{Node, Absent, Flag, Word, Text, Span, Tree, out-Node, roll-Node, roll-out-Node, the_lemmas}
use Rattle.swc_tree_node.specs.declared.node.Node.TheOpen.{Node-F}
use Rattle.swc_tree_node.specs.declared.node.Node.TheVariants.{rolls-Absent, rolls-Flag, rolls-Word, rolls-Text, rolls-Span}
use Rattle.swc_tree_grammar.specs.Kinds.{has_kind, is_private_name}
use Rattle.swc_base_writable_rules.specs.declared.ask.Ask.{Ask as SoundAsk}
use Rattle.swc_base_writable_rules.specs.declared.ask.Ask.TheVariants as sound_ask
use Rattle.swc_base_writable_rules.specs.declared.ask.Row.TheVariants as sound_row
use Rattle.swc_base_writable_rules.specs.declared.round.Round.{Round}
use Rattle.swc_base_writable_rules.specs.Asks.{ask_at as sound_at, meets as meets_sound}
use Rattle.swc_base_writable_rules.specs.Judged.{all_meet as all_sound, sounds}
use Rattle.swc_base_writable_rules.specs.Rounds.{binding}
use Rattle.swc_base_writable_rules.proofs.Judged.{sounds_of_tree}
use Rattle.text_derives.specs.declared.ask.Ask.{Ask as DerivedAsk}
use Rattle.text_derives.specs.declared.ask.Ask.TheVariants as derived_ask
use Rattle.text_derives.specs.declared.ask.Row.TheVariants as derived_row
use Rattle.text_derives.specs.declared.context.Context.{Context}
use Rattle.text_derives.specs.Asks.{ask_at as derived_at, meets as meets_derived}
use Rattle.text_derives.specs.Contexts.{inside}
use Rattle.text_derives.specs.Judged.{all_meet as all_derived, derived}
use Rattle.text_derives.proofs.Judged.{derived_of_tree}
use Rattle.text_checks.specs.declared.words.Ask.{Ask as WordsAsk}
use Rattle.text_checks.specs.declared.words.Words.{Words}
use Rattle.text_checks.specs.Words.{all_meet as all_worded, ask_at as worded_at, fits, meets as meets_words, throughout}
use Rattle.text_checks.proofs.Read.{fits_of_tree}
use Rattle.text_checks.specs.declared.asked.Asked.{Asked}
use Rattle.text_checks.specs.declared.asked.Rules.{Rules}
use Rattle.text_checks.specs.Asked.{IsAsAsked, IsFound, IsMet}
use Rattle.text_checks.specs.Bare.{is_bare, is_leaf}

-- ---- leaves

pub record IsLeaf (t : Node) : Type 0 where
  shown : has_kind is_private_name t ≡ false
  sound : (h : Bool) (q : Round) → sounds t h q ≡ not h
  made : (h : Bool) (c : Context) → derived t h c ≡ not h
  pub worded : (w : Words) → fits t w ≡ true

absent_shown : has_kind is_private_name Absent ≡ false
absent_shown = search (rules, the_lemmas)

absent_sound : (h : Bool) (q : Round) → sounds Absent h q ≡ not h
absent_sound h q = search (rules, the_lemmas)

absent_made : (h : Bool) (c : Context) → derived Absent h c ≡ not h
absent_made h c = search (rules, the_lemmas)

absent_worded : (w : Words) → fits Absent w ≡ true
absent_worded w = search (rules, the_lemmas)

flag_shown : (x : Bool) → has_kind is_private_name (Flag x) ≡ false
flag_shown x = search (rules, the_lemmas)

flag_sound : (x : Bool) (h : Bool) (q : Round) → sounds (Flag x) h q ≡ not h
flag_sound x h q = search (rules, the_lemmas)

flag_made : (x : Bool) (h : Bool) (c : Context) → derived (Flag x) h c ≡ not h
flag_made x h c = search (rules, the_lemmas)

flag_worded : (x : Bool) (w : Words) → fits (Flag x) w ≡ true
flag_worded x w = search (rules, the_lemmas)

word_shown : (x : Spelling) → has_kind is_private_name (Word x) ≡ false
word_shown x = search (rules, the_lemmas)

word_sound : (x : Spelling) (h : Bool) (q : Round) → sounds (Word x) h q ≡ not h
word_sound x h q = search (rules, the_lemmas)

word_made : (x : Spelling) (h : Bool) (c : Context) → derived (Word x) h c ≡ not h
word_made x h c = search (rules, the_lemmas)

word_worded : (x : Spelling) (w : Words) → fits (Word x) w ≡ true
word_worded x w = search (rules, the_lemmas)

text_shown : (x : List ℕ) → has_kind is_private_name (Text x) ≡ false
text_shown x = search (rules, the_lemmas)

text_sound : (x : List ℕ) (h : Bool) (q : Round) → sounds (Text x) h q ≡ not h
text_sound x h q = search (rules, the_lemmas)

text_made : (x : List ℕ) (h : Bool) (c : Context) → derived (Text x) h c ≡ not h
text_made x h c = search (rules, the_lemmas)

text_worded : (x : List ℕ) (w : Words) → fits (Text x) w ≡ true
text_worded x w = search (rules, the_lemmas)

span_shown : (x : Range) → has_kind is_private_name (Span x) ≡ false
span_shown x = search (rules, the_lemmas)

span_sound : (x : Range) (h : Bool) (q : Round) → sounds (Span x) h q ≡ not h
span_sound x h q = search (rules, the_lemmas)

span_made : (x : Range) (h : Bool) (c : Context) → derived (Span x) h c ≡ not h
span_made x h c = search (rules, the_lemmas)

span_worded : (x : Range) (w : Words) → fits (Span x) w ≡ true
span_worded x w = search (rules, the_lemmas)

-- a node of which the layer is known
rolled : (t : Node) (y : Node-F Node) → out-Node t ≡ y → t ≡ roll-Node y
rolled t y e = sym (roll-out-Node t) ∙ ap roll-Node e

pub leaf : (t : Node) → is_leaf (out-Node t) ≡ true → IsLeaf t
leaf t e = by (out-Node t) refl e
  where
    by : (y : Node-F Node) → out-Node t ≡ y → is_leaf y ≡ true → IsLeaf t
    by Node-F.Absent o h = subst IsLeaf (sym (rolled t _ o ∙ rolls-Absent)) (record { shown = absent_shown; sound = absent_sound; made = absent_made; worded = absent_worded })
    by (Node-F.Flag x) o h = subst IsLeaf (sym (rolled t _ o ∙ rolls-Flag x)) (record { shown = flag_shown x; sound = flag_sound x; made = flag_made x; worded = flag_worded x })
    by (Node-F.Word x) o h = subst IsLeaf (sym (rolled t _ o ∙ rolls-Word x)) (record { shown = word_shown x; sound = word_sound x; made = word_made x; worded = word_worded x })
    by (Node-F.Text x) o h = subst IsLeaf (sym (rolled t _ o ∙ rolls-Text x)) (record { shown = text_shown x; sound = text_sound x; made = text_made x; worded = text_worded x })
    by (Node-F.Span x) o h = subst IsLeaf (sym (rolled t _ o ∙ rolls-Span x)) (record { shown = span_shown x; sound = span_sound x; made = span_made x; worded = span_worded x })
    by (Node-F.List x) o h = absurd (cc)
    by (Node-F.Identifier k x) o h = absurd (cc)
    by (Node-F.Tree k x) o h = absurd (cc)

-- ---- several

both : (a b : Bool) → (a && b) ≡ true → (a ≡ true) × (b ≡ true)
both true b h = (refl, h)
both false b h = absurd (cc)

or_true : (a : Bool) → (a || true) ≡ true
or_true true = refl
or_true false = refl

abbrev are_leaves : List Node → Bool
are_leaves ts = list_all (λ t. is_leaf (out-Node t)) ts

leaves_sound : (asks : ℕ → SoundAsk) (q : Round) → ((i : ℕ) → asks i ≡ sound_ask.Part q) → (ts : List Node) → are_leaves ts ≡ true → all_sound asks ts ≡ true
leaves_sound asks q are [] e = refl
leaves_sound asks q are (t ∷ ts) e =
    let (one, others) = both (is_leaf (out-Node t)) (are_leaves ts) e in
    let l = leaf t one in
    let now : meets_sound (asks zero) t (sounds t) ≡ true
    = ap (λ a. meets_sound a t (sounds t)) (are zero) ∙ ap (λ b. not b && sounds t false q) l.shown ∙ l.sound false q in
    ap (λ b. b && all_sound (λ i. asks (suc i)) ts) now ∙ leaves_sound (λ i. asks (suc i)) q (λ i. are (suc i)) ts others

leaves_made : (asks : ℕ → DerivedAsk) (c : Context) → ((i : ℕ) → asks i ≡ derived_ask.Derived c) → (ts : List Node) → are_leaves ts ≡ true → all_derived asks ts ≡ true
leaves_made asks c are [] e = refl
leaves_made asks c are (t ∷ ts) e =
    let (one, others) = both (is_leaf (out-Node t)) (are_leaves ts) e in
    let l = leaf t one in
    let now : meets_derived (asks zero) t (derived t) ≡ true = ap (λ a. meets_derived a t (derived t)) (are zero) ∙ l.made false c in
    ap (λ b. b && all_derived (λ i. asks (suc i)) ts) now ∙ leaves_made (λ i. asks (suc i)) c (λ i. are (suc i)) ts others

leaves_worded : (asks : ℕ → WordsAsk) (ts : List Node) → are_leaves ts ≡ true → all_worded asks ts ≡ true
leaves_worded asks [] e = refl
leaves_worded asks (t ∷ ts) e =
    let (one, others) = both (is_leaf (out-Node t)) (are_leaves ts) e in
    let l = leaf t one in
    let now : meets_words (asks zero) (fits t) ≡ true = ap (λ b. not (asks zero).asks || b) (l.worded (asks zero).words) ∙ or_true (not (asks zero).asks) in
    ap (λ b. b && all_worded (λ i. asks (suc i)) ts) now ∙ leaves_worded (λ i. asks (suc i)) ts others

-- one of which nothing is asked is as asked
pub idle_met : (r : Rules) (i : ℕ) (t : Node) → is_leaf (out-Node t) ≡ true → sound_at r.writing.now.row i ≡ sound_ask.Nothing → derived_at r.grammar.now.row i ≡ derived_ask.Nothing → IsMet r i t
idle_met r i t e s d = record {
  writing = ap (λ a. meets_sound a t (sounds t)) s;
  grammar = ap (λ a. meets_derived a t (derived t)) d;
  words = ap (λ b. not (worded_at r.words.now i).asks || b) ((leaf t e).worded (worded_at r.words.now i).words) ∙ or_true (not (worded_at r.words.now i).asks);
}

-- ---- a tree

module _ (ts : List Node) (e : are_leaves ts ≡ true) where
  sound_fields : (q : Round) → all_sound (sound_at (sound_row.Each (sound_ask.Part (binding q)))) ts ≡ true
  sound_fields q = leaves_sound (sound_at (sound_row.Each (sound_ask.Part (binding q)))) (binding q) (λ i. refl) ts e

  made_fields : (c : Context) → all_derived (derived_at (derived_row.Each (derived_ask.Derived (inside c)))) ts ≡ true
  made_fields c = leaves_made (derived_at (derived_row.Each (derived_ask.Derived (inside c)))) (inside c) (λ i. refl) ts e

  bare_sound : (k : Kind) → is_bare k ≡ true → (q : Round) → sounds (Tree k ts) false q ≡ true
  bare_sound kind.IdentName b q = sounds_of_tree kind.IdentName ts false q ∙ sound_fields q
  bare_sound kind.PrivateName b q = sounds_of_tree kind.PrivateName ts false q ∙ sound_fields q
  bare_sound kind.Str b q = sounds_of_tree kind.Str ts false q ∙ sound_fields q
  bare_sound kind.Bool b q = sounds_of_tree kind.Bool ts false q ∙ sound_fields q
  bare_sound kind.Null b q = sounds_of_tree kind.Null ts false q ∙ sound_fields q
  bare_sound kind.Number b q = sounds_of_tree kind.Number ts false q ∙ sound_fields q
  bare_sound kind.BigInt b q = sounds_of_tree kind.BigInt ts false q ∙ sound_fields q
  bare_sound kind.Regex b q = sounds_of_tree kind.Regex ts false q ∙ sound_fields q
  bare_sound kind.TplElement b q = sounds_of_tree kind.TplElement ts false q ∙ sound_fields q
  bare_sound kind.ThisExpr b q = sounds_of_tree kind.ThisExpr ts false q ∙ sound_fields q
  bare_sound kind.Super b q = sounds_of_tree kind.Super ts false q ∙ sound_fields q
  bare_sound kind.EmptyStmt b q = sounds_of_tree kind.EmptyStmt ts false q ∙ sound_fields q
  bare_sound _ b q = absurd (cc)

  bare_made : (k : Kind) → is_bare k ≡ true → (c : Context) → derived (Tree k ts) false c ≡ true
  bare_made kind.IdentName b c = derived_of_tree kind.IdentName ts false c ∙ made_fields c
  bare_made kind.PrivateName b c = derived_of_tree kind.PrivateName ts false c ∙ made_fields c
  bare_made kind.Str b c = derived_of_tree kind.Str ts false c ∙ made_fields c
  bare_made kind.Bool b c = derived_of_tree kind.Bool ts false c ∙ made_fields c
  bare_made kind.Null b c = derived_of_tree kind.Null ts false c ∙ made_fields c
  bare_made kind.Number b c = derived_of_tree kind.Number ts false c ∙ made_fields c
  bare_made kind.BigInt b c = derived_of_tree kind.BigInt ts false c ∙ made_fields c
  bare_made kind.Regex b c = derived_of_tree kind.Regex ts false c ∙ made_fields c
  bare_made kind.TplElement b c = derived_of_tree kind.TplElement ts false c ∙ made_fields c
  bare_made kind.ThisExpr b c = derived_of_tree kind.ThisExpr ts false c ∙ made_fields c
  bare_made kind.Super b c = derived_of_tree kind.Super ts false c ∙ made_fields c
  bare_made kind.EmptyStmt b c = derived_of_tree kind.EmptyStmt ts false c ∙ made_fields c
  bare_made _ b c = absurd (cc)

  bare_worded : (k : Kind) → is_bare k ≡ true → (w : Words) → fits (Tree k ts) w ≡ true
  bare_worded kind.IdentName b w = fits_of_tree kind.IdentName ts w ∙ leaves_worded (worded_at (throughout w)) ts e
  bare_worded kind.PrivateName b w = fits_of_tree kind.PrivateName ts w ∙ leaves_worded (worded_at (throughout w)) ts e
  bare_worded kind.Str b w = fits_of_tree kind.Str ts w ∙ leaves_worded (worded_at (throughout w)) ts e
  bare_worded kind.Bool b w = fits_of_tree kind.Bool ts w ∙ leaves_worded (worded_at (throughout w)) ts e
  bare_worded kind.Null b w = fits_of_tree kind.Null ts w ∙ leaves_worded (worded_at (throughout w)) ts e
  bare_worded kind.Number b w = fits_of_tree kind.Number ts w ∙ leaves_worded (worded_at (throughout w)) ts e
  bare_worded kind.BigInt b w = fits_of_tree kind.BigInt ts w ∙ leaves_worded (worded_at (throughout w)) ts e
  bare_worded kind.Regex b w = fits_of_tree kind.Regex ts w ∙ leaves_worded (worded_at (throughout w)) ts e
  bare_worded kind.TplElement b w = fits_of_tree kind.TplElement ts w ∙ leaves_worded (worded_at (throughout w)) ts e
  bare_worded kind.ThisExpr b w = fits_of_tree kind.ThisExpr ts w ∙ leaves_worded (worded_at (throughout w)) ts e
  bare_worded kind.Super b w = fits_of_tree kind.Super ts w ∙ leaves_worded (worded_at (throughout w)) ts e
  bare_worded kind.EmptyStmt b w = fits_of_tree kind.EmptyStmt ts w ∙ leaves_worded (worded_at (throughout w)) ts e
  bare_worded _ b w = absurd (cc)

  pub bare_holds : (a : Asked) (k : Kind) → IsFound a → a.writing.in_head ≡ false → a.grammar.in_chain ≡ false → is_bare k ≡ true → IsAsAsked a (Tree k ts)
  bare_holds a k found head chain b = record {
    writing =
        ap (λ m. m && (not a.writing.goes_on || sounds (Tree k ts) a.writing.in_head a.writing.round)) found.writing
        ∙ ap (λ h. not a.writing.goes_on || sounds (Tree k ts) h a.writing.round) head
        ∙ ap (λ s. not a.writing.goes_on || s) (bare_sound k b a.writing.round) ∙ or_true (not a.writing.goes_on);
    grammar =
        ap (λ m. m && (not a.grammar.goes_on || derived (Tree k ts) a.grammar.in_chain a.grammar.context)) found.grammar
        ∙ ap (λ h. not a.grammar.goes_on || derived (Tree k ts) h a.grammar.context) chain
        ∙ ap (λ s. not a.grammar.goes_on || s) (bare_made k b a.grammar.context) ∙ or_true (not a.grammar.goes_on);
    words = ap (λ s. not a.words.asks || s) (bare_worded k b a.words.words) ∙ or_true (not a.words.asks);
  }
