-- The laws.
use Rattle.std.proofs.Common.{◌≡◌, Bool, true, false, IsTrue, List, [], ◌∷◌, ◌++◌, rules, refl, sym, ap, ◌∙◌}
use Rattle.swc_tree_marks.specs.declared.ident.Ident.{Ident}
use Rattle.swc_tree_node.specs.declared.kind.Class.TheVariants as class
use Rattle.swc_tree_node.specs.declared.node.Node.{Node, the_lemmas}
use Rattle.swc_tree_node.specs.declared.slot.Content.TheVariants as content
use Rattle.swc_tree_node.specs.declared.slot.Slot.{Slot}
use Rattle.swc_tree_node.specs.declared.slot.Slot.TheVariants as slot
use Rattle.swc_tree_scoping.specs.Readings.{by_texts}
use Rattle.swc_tree_renaming.specs.Apart.{is_goal}
use Rattle.swc_base_fixer_laws.proofs.Answer.{due_set}
use Rattle.swc_base_rename_laws.specs.NewNames.{nameless}
use Rattle.text_kept_laws.proofs.Cleared.{texts_stay}
use Rattle.text_pieces.specs.declared.item.Ending.TheVariants as ending
use Rattle.text_pieces.specs.Forms.{when}
use Rattle.text_pieces.specs.Leaves.{is_let}
use Rattle.text_pieces.specs.Pieces.{pieces}
use Rattle.text_pieces.specs.Tokens.{Piece, closes}
use Rattle.swc_tree_node.specs.declared.node.Node.TheOpen.{Node-F}
use Rattle.text_kept_laws.specs.Pieces.{NamesAloneDiffer, PairsAloneAreSet, ResolverKeepsPieces}
use Rattle.text_kept_laws.specs.Unnamed.{SameButNames, is_ending, unnamed, unnamed_piece}
use Rattle.text_kept_laws.proofs.Anew.{IsAnew, anew_kept}
use Rattle.text_kept_laws.proofs.Pairs.{is_fair, set_kept}
use Rattle.std.specs.Prelude.{if◌then◌else◌}

-- ---- one text for all names

nameless_is : IsAnew (λ (i : Ident). record i { ctxt = []; sym = [] }) nameless
nameless_is = record {
  absent = search (rules, the_lemmas);
  flag = λ x. search (rules, the_lemmas);
  word = λ w. search (rules, the_lemmas);
  text = λ x. search (rules, the_lemmas);
  span = λ s. search (rules, the_lemmas);
  ident = λ k i. search (rules, the_lemmas);
  list = λ ts. search (rules, the_lemmas);
  tree = λ k ts. search (rules, the_lemmas);
}

split : (b : Bool) (p : Piece) (ps qs : List Piece) → (if b then ps ++ qs else p ∷ ps ++ qs) ≡ (if b then ps else p ∷ ps) ++ qs
split true p ps qs = refl
split false p ps qs = refl

appended : (ps qs : List Piece) → unnamed (ps ++ qs) ≡ unnamed ps ++ unnamed qs
appended [] qs = refl
appended (p ∷ ps) qs = ap (λ l. if is_ending p then l else unnamed_piece p ∷ l) (appended ps qs) ∙ split (is_ending p) (unnamed_piece p) (unnamed ps) (unnamed qs)

joined : (ps qs rs ss : List Piece) → SameButNames ps qs → SameButNames rs ss → SameButNames (ps ++ rs) (qs ++ ss)
joined ps qs rs ss e f = appended ps rs ∙ ap (λ l. l ++ unnamed rs) e ∙ ap (λ l. unnamed qs ++ l) f ∙ sym (appended qs ss)

-- `let` alone ends otherwise than another name
let_ends : (b c : Bool) → SameButNames (when b (closes ending.Let)) (when c (closes ending.Let))
let_ends true true = refl
let_ends true false = refl
let_ends false true = refl
let_ends false false = refl

unnamed_same : (t : Node) → unnamed (pieces t) ≡ unnamed (pieces (nameless t))
unnamed_same t =
    (anew_kept SameButNames (λ ps. refl) joined (λ (i : Ident). record i { ctxt = []; sym = [] }) (λ i. refl) (λ i. refl)
    (λ k i. let_ends (is_let (Node-F.Identifier k i)) (is_let (Node-F.Identifier k (record i { ctxt = []; sym = [] })))) nameless nameless_is t false).stands.of_pieces

pub one_form : NamesAloneDiffer
one_form t u e = unnamed_same t ∙ ap (λ t. unnamed (pieces t)) e ∙ sym (unnamed_same u)

-- ---- contexts

texts_are : IsAnew (λ (i : Ident). record i { ctxt = [] }) by_texts
texts_are = record {
  absent = search (rules, the_lemmas);
  flag = λ x. search (rules, the_lemmas);
  word = λ w. search (rules, the_lemmas);
  text = λ x. search (rules, the_lemmas);
  span = λ s. search (rules, the_lemmas);
  ident = λ k i. search (rules, the_lemmas);
  list = λ ts. search (rules, the_lemmas);
  tree = λ k ts. search (rules, the_lemmas);
}

both : (ps qs rs ss : List Piece) → ps ≡ qs → rs ≡ ss → (ps ++ rs) ≡ (qs ++ ss)
both ps qs rs ss e f = ap (λ l. l ++ rs) e ∙ ap (λ l. qs ++ l) f

texts_same : (t : Node) → pieces t ≡ pieces (by_texts t)
texts_same t = (anew_kept (λ (ps qs : List Piece). ps ≡ qs) (λ ps. refl) both (λ (i : Ident). record i { ctxt = [] }) (λ i. refl) (λ i. refl) (λ k i. refl) by_texts texts_are t false).stands.of_pieces

pub resolved_pieces : ResolverKeepsPieces
resolved_pieces unresolved top old new source answer r =
    texts_same answer ∙ ap (λ t. pieces (by_texts t)) r.only_contexts ∙ ap pieces (texts_stay source r.contexts) ∙ sym (texts_same source)

-- ---- pairs

goal_fair : (goal : Slot) → IsTrue (is_goal goal) → is_fair goal ≡ true
goal_fair (slot.One (content.Node class.Module)) g = refl
goal_fair (slot.One (content.Node class.Script)) g = refl
goal_fair _ g = absurd (cc)

pub due_pieces : PairsAloneAreSet
due_pieces place t goal g fits = (set_kept (due_set place t goal fits) (goal_fair goal g)).stands.of_pieces
