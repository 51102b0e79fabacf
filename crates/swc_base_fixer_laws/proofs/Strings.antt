-- A string that is a statement stays one.
use Rattle.std.proofs.Common.{◌≡◌, Bool, true, false, List, [], ◌∷◌, refl, sym, ap, ◌∙◌, rules, true≢false}
use Rattle.std.specs.Prelude.{is_some}
use Rattle.swc_tree_marks.specs.declared.ident.Ident.{Ident}
use Rattle.swc_tree_node.specs.declared.kind.Kind.{Kind}
use Rattle.swc_tree_node.specs.declared.kind.Kind.TheVariants as kind
use Rattle.swc_tree_node.specs.declared.slot.Content.TheVariants as content
use Rattle.swc_tree_node.specs.declared.slot.Slot.{Slot}
use Rattle.swc_tree_node.specs.declared.slot.Slot.TheVariants as slot
use Rattle.swc_tree_node.specs.declared.node.Node.{Node, Absent, Flag, Word, Text, Span, List as Many, Identifier, Tree, the_lemmas}
use Rattle.swc_tree_node.specs.declared.node.Node.TheOpen.{Node-F}
use Rattle.swc_tree_node.specs.Table.{slots_of}
use Rattle.swc_tree_node.specs.Fits.{Fits, FieldsFit}
use Rattle.swc_tree_node.proofs.Fit.{fits-List, fits-Tree}
use Rattle.swc_tree_scoping.specs.Places.{literal_in}
use Rattle.swc_tree_grammar.specs.Kinds.{has_kind, is_paren}
use Rattle.swc_tree_grammar.specs.Writable.{is_string}
use Rattle.swc_tree_grammar.proofs.Induction.{by_children}
use Rattle.swc_tree_grammar.proofs.Places.{stands}
use Rattle.swc_tree_grammar_laws.proofs.Blocked.{no}
use Rattle.swc_base_fixer_laws.specs.Sets.{Sets, FieldsSet}
use Rattle.swc_base_fixer_laws.specs.Sets.Sets.{same, after, around, named, items, tree}
use Rattle.swc_base_fixer_laws.specs.Sets.FieldsSet.{nil, field}
use Rattle.swc_base_fixer_laws.proofs.Up.{kind_of_tree}
use Rattle.swc_base_fixer_laws.proofs.FitsKept.{fits_kept}

abbrev a_text : Slot
a_text = slot.One content.Text

-- a text stays as it is
pub same_text : {t u : Node} → Sets a_text t u → Fits t a_text → u ≡ t
same_text (same t) f = refl
same_text (after c d) f = same_text d (fits_kept c f) ∙ same_text c f
same_text (around r t u p q d) f = absurd (cc)
same_text (items ts us d) f = absurd (no (sym (fits-List ts a_text) ∙ f))
same_text (tree k ts us e d) f = absurd (no (sym (fits-Tree k ts a_text) ∙ f))

pub string_of_tree : (k : Kind) (ts : List Node) → is_string (Tree k ts) ≡ is_some (literal_in (Node-F.Tree k ts))
string_of_tree k ts = search (rules, the_lemmas)

no_string : (k : Kind) (i : Ident) → is_string (Identifier k i) ≡ false
no_string k i = search (rules, the_lemmas)

list_string : (ts : List Node) → is_string (Many ts) ≡ false
list_string ts = search (rules, the_lemmas)

string_row : (k : Kind) {ts us : List Node} → FieldsSet (slots_of k) ts us → FieldsFit (slots_of k) ts → literal_in (Node-F.Tree k us) ≡ literal_in (Node-F.Tree k ts)
string_row kind.Str (field a (field b (field c nil))) f = let e = same_text b f.1.0 in rw e refl
string_row k d f = refl

paren_stays : {s : Slot} {t u : Node} → Sets s t u → has_kind is_paren t ≡ true → has_kind is_paren u ≡ true
paren_stays (same t) h = h
paren_stays (after c d) h = paren_stays d (paren_stays c h)
paren_stays (around r t u p q d) h = kind_of_tree is_paren kind.ParenExpr (Span r ∷ u ∷ [])
paren_stays (named r k i called) h = kind_of_tree is_paren kind.ParenExpr (Span r ∷ Identifier kind.Ident i ∷ [])
paren_stays (items ts us d) h = let e : has_kind is_paren (Many ts) ≡ false = search (rules, the_lemmas) in absurd (cc)
paren_stays (tree k ts us e d) h = kind_of_tree is_paren k us ∙ sym (kind_of_tree is_paren k ts) ∙ h

then_bare : (b : Bool) (t u : Node) → has_kind is_paren t ≡ b → (has_kind is_paren t ≡ true → has_kind is_paren u ≡ true) → has_kind is_paren u ≡ false → has_kind is_paren t ≡ false
then_bare true t u e f h = absurd (cc (sym (f e) ∙ h))
then_bare false t u e f h = e

pub string_kept : {s : Slot} {t u : Node} → Sets s t u → Fits t s → has_kind is_paren u ≡ false → is_string u ≡ is_string t
string_kept (same t) f h = refl
string_kept (after {t = t} {u = u} {v = v} c d) f h = string_kept d (fits_kept c f) h ∙ string_kept c f (then_bare (has_kind is_paren u) u v refl (paren_stays d) h)
string_kept (around r t u p q d) f h = absurd (cc (sym (kind_of_tree is_paren kind.ParenExpr (Span r ∷ u ∷ [])) ∙ h))
string_kept (named r k i called) f h = absurd (cc (sym (kind_of_tree is_paren kind.ParenExpr (Span r ∷ Identifier kind.Ident i ∷ [])) ∙ h))
string_kept (items ts us d) f h = list_string us ∙ sym (list_string ts)
string_kept {s = s} (tree k ts us e d) f h = string_of_tree k us ∙ ap is_some (string_row k d (stands k ts s f).fields) ∙ sym (string_of_tree k ts)

-- a pair is no string
paren_row : (k : Kind) (ts : List Node) → is_paren k ≡ true → is_some (literal_in (Node-F.Tree k ts)) ≡ false
paren_row kind.ParenExpr ts h = refl
paren_row k ts h = absurd (true≢false (sym h))

no_paren : (t : Node) → has_kind is_paren t ≡ false → has_kind is_paren t ≡ true → is_string t ≡ false
no_paren t e h = absurd (cc)

paren_string : (t : Node) → has_kind is_paren t ≡ true → is_string t ≡ false
paren_string t = by_children (λ t. has_kind is_paren t ≡ true → is_string t ≡ false)
    (no_paren Absent (search (rules, the_lemmas)), λ x. no_paren (Flag x) (search (rules, the_lemmas)), λ w. no_paren (Word w) (search (rules, the_lemmas)), λ x. no_paren (Text x) (search (rules, the_lemmas)), λ s. no_paren (Span s) (search (rules, the_lemmas)), λ k i. no_paren (Identifier k i) (search (rules, the_lemmas)))
    (λ ts l. no_paren (Many ts) (search (rules, the_lemmas)))
    (λ k ts l h. string_of_tree k ts ∙ paren_row k ts (sym (kind_of_tree is_paren k ts) ∙ h)) t

not_string : (x : Bool) (t u : Node) → is_string t ≡ x → (is_string t ≡ true → has_kind is_paren u ≡ false) → has_kind is_paren u ≡ true → is_string t ≡ false
not_string true t u e f h = absurd (cc (sym (f e) ∙ h))
not_string false t u e f h = e

same_if : (y : Bool) (t u : Node) → has_kind is_paren u ≡ y → (has_kind is_paren u ≡ false → is_string u ≡ is_string t) → (is_string t ≡ true → has_kind is_paren u ≡ false) → is_string u ≡ is_string t
same_if true t u e k f = paren_string u e ∙ sym (not_string (is_string t) t u refl f e)
same_if false t u e k f = k e

-- where a string gets no pair, what is a string stays one
pub same_string : {s : Slot} (t u : Node) → Sets s t u → Fits t s → (is_string t ≡ true → has_kind is_paren u ≡ false) → is_string u ≡ is_string t
same_string t u d f g = same_if (has_kind is_paren u) t u refl (string_kept d f) g
