-- Pairs stand where the table takes them.
use Rattle.std.proofs.Common.{◌≡◌, Bool, true, false, not, ◌&&◌, ◌||◌, IsTrue, List, [], ◌∷◌, map, refl, sym, ap, ◌∙◌, rules}
use Rattle.std.specs.Prelude.{length, suc}
use Rattle.swc_tree_marks.specs.declared.span.Span.{Span as Range}
use Rattle.swc_tree_node.specs.declared.kind.Kind.{Kind}
use Rattle.swc_tree_node.specs.declared.kind.Kind.TheVariants as kind
use Rattle.swc_tree_node.specs.declared.kind.Class.TheVariants as class
use Rattle.swc_tree_node.specs.declared.slot.Content.TheVariants as content
use Rattle.swc_tree_node.specs.declared.slot.Slot.{Slot}
use Rattle.swc_tree_node.specs.declared.slot.Slot.TheVariants as slot
use Rattle.swc_tree_node.specs.declared.node.Node.{Node, Absent, Flag, Word, Text, Span, List as Many, Identifier, Tree, the_lemmas}
use Rattle.swc_tree_node.specs.Table.{slots_of, is_identifier}
use Rattle.swc_tree_node.specs.Fits.{fits, Fits, FieldsFit, AllFit, belongs, list_fits}
use Rattle.swc_tree_node.proofs.Fit.{fits-Span, fits-Identifier, fits-List, fields_open, fields_close, all_open, all_close, tree_closes}
use Rattle.swc_tree_grammar.proofs.Induction.{by_children}
use Rattle.swc_tree_grammar.proofs.Places.{one, stands, stands_there}
use Rattle.swc_base_fixer_laws.specs.Sets.{Sets, AllSet, FieldsSet, takes_pair, pairable, can_pair, item}
use Rattle.swc_base_fixer_laws.specs.Sets.Sets.{same, after, around, named, items, tree}
use Rattle.swc_base_fixer_laws.specs.Sets.AllSet.{none, more}
use Rattle.swc_base_fixer_laws.specs.Sets.FieldsSet.{nil, field}
use Rattle.swc_base_fixer_laws.proofs.Up.{no_pair}
use Rattle.swc_base_fixer_laws.proofs.ElseKept.{pairable_tree}

abbrev pub an_expression : Slot
an_expression = one class.Expr

-- what may get a pair is an expression
pairs_are : (k : Kind) → (not (can_pair k) || (belongs k class.Expr && not (is_identifier k))) ≡ true
pairs_are kind.Module = refl
pairs_are k = refl

by_pair : (a b c : Bool) → (not a || (b && c)) ≡ true → a ≡ true → (b ≡ true) × (c ≡ true)
by_pair true true true h g = (refl, refl)
by_pair true true false h g = absurd (cc)
by_pair true false c h g = absurd (cc)
by_pair false b c h g = absurd (cc)

pub expression_fits : (t : Node) (s : Slot) → IsTrue (pairable t) → Fits t s → Fits t an_expression
expression_fits t s = by_children (λ t. IsTrue (pairable t) → Fits t s → Fits t an_expression)
    (no_pair Absent (search (rules, the_lemmas)), λ x. no_pair (Flag x) (search (rules, the_lemmas)), λ w. no_pair (Word w) (search (rules, the_lemmas)), λ x. no_pair (Text x) (search (rules, the_lemmas)), λ r. no_pair (Span r) (search (rules, the_lemmas)), λ k i. no_pair (Identifier k i) (search (rules, the_lemmas)))
    (λ ts l. no_pair (Many ts) (search (rules, the_lemmas)))
    (λ k ts l h f. (let w = stands k ts s f in let q = by_pair (can_pair k) (belongs k class.Expr) (not (is_identifier k)) (pairs_are k) (sym (pairable_tree k ts) ∙ h) in tree_closes k ts class.Expr q.1 q.0 w.fields)) t

-- a pair in its place
pair_fields : (r : Range) (u : Node) → Fits u an_expression → FieldsFit (slots_of kind.ParenExpr) (Span r ∷ u ∷ [])
pair_fields r u f = (fits-Span r (slot.One content.Span), (f, tt))

pair_fits : (s : Slot) (r : Range) (u : Node) → IsTrue (takes_pair s) → Fits u an_expression → Fits (Tree kind.ParenExpr (Span r ∷ u ∷ [])) s
pair_fits (slot.One (content.Node c)) r u p f =
    stands_there kind.ParenExpr (Span r ∷ u ∷ []) (slot.One (content.Node c)) (record { in_class = c; place = refl; no_identifier = refl; belonging = p; fields = pair_fields r u f })
pair_fits (slot.Optional (content.Node c)) r u p f =
    stands_there kind.ParenExpr (Span r ∷ u ∷ []) (slot.Optional (content.Node c)) (record { in_class = c; place = refl; no_identifier = refl; belonging = p; fields = pair_fields r u f })
pair_fits s r u p f = absurd (cc)

name_fits : (r : Range) (i : _) → Fits (Tree kind.ParenExpr (Span r ∷ Identifier kind.Ident i ∷ [])) (one class.ForHead)
name_fits r i = pair_fits (one class.ForHead) r (Identifier kind.Ident i) refl (fits-Identifier kind.Ident i an_expression)

-- lists
pub same_length : {s : Slot} {ts us : List Node} → AllSet s ts us → length us ≡ length ts
same_length none = refl
same_length (more c d) = ap suc (same_length d)

abbrev texts : List Slot
texts = slot.One content.Text ∷ slot.One content.Text ∷ []

texts_open : (ts : List Node) → FieldsFit texts ts → AllFit (slot.One content.Text) ts × (length ts ≡ 2)
texts_open [] f = absurd f
texts_open (a ∷ []) f = absurd f.1
texts_open (a ∷ b ∷ []) f = ((f.0, (f.1.0, tt)), refl)
texts_open (a ∷ b ∷ c ∷ ts) f = absurd f.1.1

texts_close : (ts : List Node) → AllFit (slot.One content.Text) ts → length ts ≡ 2 → FieldsFit texts ts
texts_close [] f e = absurd (cc)
texts_close (a ∷ []) f e = absurd (cc)
texts_close (a ∷ b ∷ []) f e = (f.0, (f.1.0, tt))
texts_close (a ∷ b ∷ c ∷ ts) f e = absurd (cc)

items_kept : (s : Slot) (ts us : List Node) → length us ≡ length ts → (AllFit (item s) ts → AllFit (item s) us) → IsTrue (list_fits (map fits ts) s) → IsTrue (list_fits (map fits us) s)
items_kept (slot.List c) ts us e k f = all_close (slot.One c) us (k (all_open (slot.One c) ts f))
items_kept (slot.OptionalList c) ts us e k f = all_close (slot.One c) us (k (all_open (slot.One c) ts f))
items_kept (slot.Holes c) ts us e k f = all_close (slot.Optional c) us (k (all_open (slot.Optional c) ts f))
items_kept slot.Pairs ts us e k f = all_close slot.Pair us (k (all_open slot.Pair ts f))
items_kept slot.Pair ts us e k f = let q = texts_open ts (fields_open texts ts f) in fields_close texts us (texts_close us (k q.0) (e ∙ q.1))
items_kept (slot.One c) ts us e k f = absurd (cc)
items_kept (slot.Optional c) ts us e k f = absurd (cc)

mutual
  pub fits_kept : {s : Slot} {t u : Node} → Sets s t u → Fits t s → Fits u s
  fits_kept (same t) f = f
  fits_kept (after c d) f = fits_kept d (fits_kept c f)
  fits_kept {s = s} (around r t u p q d) f = pair_fits s r u p (fits_kept d (expression_fits t s q f))
  fits_kept (named r k i called) f = name_fits r i
  fits_kept {s = s} (items ts us d) f = fits-List us s ∙ items_kept s ts us (same_length d) (λ f. all_kept d f) (sym (fits-List ts s) ∙ f)
  fits_kept {s = s} (tree k ts us e d) f =
      let w = stands k ts s f in stands_there k us s (record { in_class = w.in_class; place = w.place; no_identifier = w.no_identifier; belonging = w.belonging; fields = fields_kept d w.fields })

  pub fields_kept : {ss : List Slot} {ts us : List Node} → FieldsSet ss ts us → FieldsFit ss ts → FieldsFit ss us
  fields_kept nil f = tt
  fields_kept (field c d) f = (fits_kept c f.0, fields_kept d f.1)

  pub all_kept : {s : Slot} {ts us : List Node} → AllSet s ts us → AllFit s ts → AllFit s us
  all_kept none f = tt
  all_kept (more c d) f = (fits_kept c f.0, all_kept d f.1)
