-- The plain form of what may stand in a place may stand there.
use Rattle.std.proofs.Common.{◌≡◌, ℕ, Bool, true, false, not, ◌&&◌, IsTrue, Option, Some, None, List, [], ◌∷◌, map, refl, sym, ap, subst, ◌∙◌, rules}
use Rattle.swc_tree_node.specs.declared.kind.Kind.{Kind}
use Rattle.swc_tree_node.specs.declared.kind.Kind.TheVariants as kind
use Rattle.swc_tree_node.specs.declared.slot.Content.{Content}
use Rattle.swc_tree_node.specs.declared.slot.Content.TheVariants as content
use Rattle.swc_tree_node.specs.declared.slot.Slot.{Slot}
use Rattle.swc_tree_node.specs.declared.slot.Slot.TheVariants as slot
use Rattle.swc_tree_node.specs.declared.node.Node.{Node, Absent, Text, List as Many, Tree, out-Node, roll-out-Node, roll-Node, the_lemmas}
use Rattle.swc_tree_node.specs.declared.node.Node.TheVariants.{rolls-Text}
use Rattle.swc_tree_node.specs.declared.node.Node.TheOpen.{Node-F}
use Rattle.swc_tree_node.specs.Fits.{Fits, all_fit, each_fits, fits, list_fits, single, tree_fits, belongs}
use Rattle.swc_tree_node.specs.Parts.{has_parts}
use Rattle.swc_tree_node.specs.Table.{is_identifier, slots_of}
use Rattle.swc_tree_node.proofs.Fit.{and_both, both, fits-Absent, fits-List, fits-Text, fits-Tree}
use Rattle.swc_tree_grammar.proofs.Induction.{Each, by_children}
use Rattle.swc_base_plain_numbers.specs.Numbers.{plain_big, plain_number}
use Rattle.swc_base_plain_form.specs.PlainForm.{Forms, forms, holds_statements, is_string, literal, parts, respelled, respelled_in}
use Rattle.swc_base_plain_form.specs.Laws.{PlainFormFits}
use Rattle.swc_base_plain_form.proofs.Forms.{parts_of_other, parts_of_string, plain_leaves, plain_of_list, plain_of_tree}

-- it may stand wherever the other may
abbrev Wider : Node → Node → Type 0
Wider t u = (s : Slot) → Fits t s → Fits u s

abbrev AllWider : List Node → List Node → Type 0
AllWider [] [] = Unit {0}
AllWider (t ∷ ts) (u ∷ us) = Wider t u × AllWider ts us
AllWider _ _ = ⊥

all_wider : (s : Slot) (ts us : List Node) → AllWider ts us → IsTrue (all_fit (map fits ts) s) → IsTrue (all_fit (map fits us) s)
all_wider s [] [] w h = h
all_wider s (t ∷ ts) (u ∷ us) w h = let (first, rest) = both (fits t s) (all_fit (map fits ts) s) h in and_both (fits u s) (all_fit (map fits us) s) (w.0 s first) (all_wider s ts us w.1 rest)
all_wider s [] (u ∷ us) w h = absurd w
all_wider s (t ∷ ts) [] w h = absurd w

each_wider : (ss : List Slot) (ts us : List Node) → AllWider ts us → IsTrue (each_fits ss (map fits ts)) → IsTrue (each_fits ss (map fits us))
each_wider [] [] [] w h = h
each_wider (s ∷ ss) (t ∷ ts) (u ∷ us) w h = let (first, rest) = both (fits t s) (each_fits ss (map fits ts)) h in and_both (fits u s) (each_fits ss (map fits us)) (w.0 s first) (each_wider ss ts us w.1 rest)
each_wider (s ∷ ss) [] [] w h = h
each_wider [] (t ∷ ts) (u ∷ us) w h = absurd (cc)
each_wider ss [] (u ∷ us) w h = absurd w
each_wider ss (t ∷ ts) [] w h = absurd w

list_wider : (s : Slot) (ts us : List Node) → AllWider ts us → IsTrue (list_fits (map fits ts) s) → IsTrue (list_fits (map fits us) s)
list_wider (slot.List c) ts us w h = all_wider (slot.One c) ts us w h
list_wider (slot.Holes c) ts us w h = all_wider (slot.Optional c) ts us w h
list_wider (slot.OptionalList c) ts us w h = all_wider (slot.One c) ts us w h
list_wider slot.Pair ts us w h = each_wider (slot.One content.Text ∷ slot.One content.Text ∷ []) ts us w h
list_wider slot.Pairs ts us w h = all_wider slot.Pair ts us w h
list_wider (slot.One c) ts us w h = h
list_wider (slot.Optional c) ts us w h = h

pub many_wider : (ts us : List Node) → AllWider ts us → Wider (Many ts) (Many us)
many_wider ts us w s h = subst IsTrue (sym (fits-List us s)) (list_wider s ts us w (subst IsTrue (fits-List ts s) h))

-- a text stands where a text stood
text_wider : (spell : List ℕ → List ℕ) (y : Node-F Node) (t : Node) → t ≡ roll-Node y → Wider t (respelled_in spell t y)
text_wider spell (Node-F.Text x) t e s h = subst IsTrue (ap (λ u. fits u s) (e ∙ rolls-Text x) ∙ fits-Text x s ∙ sym (fits-Text (spell x) s)) h
text_wider spell y t e s h = h

respelled_wider : (spell : List ℕ → List ℕ) (t : Node) → Wider t (respelled spell t)
respelled_wider spell t = text_wider spell (out-Node t) t (sym (roll-out-Node t))

absent_fits_text : Fits Absent (slot.Optional content.Text)
absent_fits_text = subst IsTrue (sym (fits-Absent (slot.Optional content.Text))) refl

string_fits : (a b c : Node) → IsTrue (each_fits (slots_of kind.Str) (map fits (a ∷ b ∷ c ∷ []))) → IsTrue (each_fits (slots_of kind.Str) (map fits (a ∷ b ∷ Absent ∷ [])))
string_fits a b c h =
    let (first, rest) = both (fits a (slot.One content.Span)) (fits b (slot.One content.Text) && (fits c (slot.Optional content.Text) && true)) h in
    let (second, last) = both (fits b (slot.One content.Text)) (fits c (slot.Optional content.Text) && true) rest in
    and_both (fits a (slot.One content.Span)) (fits b (slot.One content.Text) && (fits Absent (slot.Optional content.Text) && true)) first
    (and_both (fits b (slot.One content.Text)) (fits Absent (slot.Optional content.Text) && true) second (and_both (fits Absent (slot.Optional content.Text)) true absent_fits_text refl))

literal_fits : (k : Kind) (ts : List Node) → IsTrue (each_fits (slots_of k) (map fits ts)) → IsTrue (each_fits (slots_of k) (map fits (literal k ts)))
literal_fits kind.Str (a ∷ b ∷ c ∷ []) h = string_fits a b c h
literal_fits kind.Number (a ∷ b ∷ []) h = each_wider (slots_of kind.Number) (a ∷ b ∷ []) (a ∷ respelled plain_number b ∷ []) (λ s f. f, (respelled_wider plain_number b, tt)) h
literal_fits kind.BigInt (a ∷ b ∷ []) h = each_wider (slots_of kind.BigInt) (a ∷ b ∷ []) (a ∷ respelled plain_big b ∷ []) (λ s f. f, (respelled_wider plain_big b, tt)) h
literal_fits k ts h = h

tree_at : (k : Kind) (ts us : List Node) → (IsTrue (each_fits (slots_of k) (map fits ts)) → IsTrue (each_fits (slots_of k) (map fits us))) → (o : Option Content) → IsTrue (tree_fits k (map fits ts) o) → IsTrue (tree_fits k (map fits us) o)
tree_at k ts us w (Some (content.Node c)) h =
    let (named, rest) = both (not (is_identifier k)) (belongs k c && each_fits (slots_of k) (map fits ts)) h in
    let (here, fields) = both (belongs k c) (each_fits (slots_of k) (map fits ts)) rest in
    and_both (not (is_identifier k)) (belongs k c && each_fits (slots_of k) (map fits us)) named (and_both (belongs k c) (each_fits (slots_of k) (map fits us)) here (w fields))
tree_at k ts us w o h = absurd (cc)

tree_wider : (k : Kind) (ts us : List Node) → (IsTrue (each_fits (slots_of k) (map fits ts)) → IsTrue (each_fits (slots_of k) (map fits us))) → Wider (Tree k ts) (Tree k us)
tree_wider k ts us w s h = subst IsTrue (sym (fits-Tree k us s)) (tree_at k ts us w (single s) (subst IsTrue (fits-Tree k ts s) h))

abbrev Keeps : Node → Type 0
Keeps t = (b : Bool) → Wider t ((forms t).plain b)

parts_wider : (lead within : Bool) (ts : List Node) → Each Keeps ts → AllWider ts (parts lead within (map forms ts))
parts_wider lead within [] e = tt
parts_wider lead within (t ∷ ts) e = at (lead && is_string t) refl (parts_wider true within ts e.1) (parts_wider false within ts e.1)
  where
    at : (b : Bool) → (lead && is_string t) ≡ b → AllWider ts (parts true within (map forms ts)) → AllWider ts (parts false within (map forms ts)) → AllWider (t ∷ ts) (parts lead within (forms t ∷ map forms ts))
    at true h one other = subst (AllWider (t ∷ ts)) (sym (parts_of_string lead within t (map forms ts) h)) (λ s f. f, one)
    at false h one other = subst (AllWider (t ∷ ts)) (sym (parts_of_other lead within t (map forms ts) h)) (e.0 within, other)

leaf_keeps : (t : Node) → has_parts t ≡ false → Keeps t
leaf_keeps t h b s f = subst (λ u. Fits u s) (sym (plain_leaves b t h)) f

keeps : (t : Node) → Keeps t
keeps = by_children Keeps
    (leaf_keeps _ (search (rules, the_lemmas)), (λ x. leaf_keeps _ (search (rules, the_lemmas))), (λ w. leaf_keeps _ (search (rules, the_lemmas))), (λ x. leaf_keeps _ (search (rules, the_lemmas))), (λ s. leaf_keeps _ (search (rules, the_lemmas))), (λ k i. leaf_keeps _ (search (rules, the_lemmas))))
    (λ ts e b s h. subst (λ u. Fits u s) (sym (plain_of_list b ts)) (many_wider ts (parts b false (map forms ts)) (parts_wider b false ts e) s h))
    (λ k ts e b s h. subst (λ u. Fits u s) (sym (plain_of_tree b k ts))
    (tree_wider k ts (literal k (parts false (holds_statements b k) (map forms ts)))
    (λ f. literal_fits k (parts false (holds_statements b k) (map forms ts)) (each_wider (slots_of k) ts (parts false (holds_statements b k) (map forms ts)) (parts_wider false (holds_statements b k) ts e) f)) s h))

pub plain_fits : PlainFormFits
plain_fits t s h = keeps t false s h
