-- What fits the table stands beside what it becomes.
use Rattle.std.proofs.Common.{◌≡◌, ◌⊎◌, ℕ, zero, suc, Bool, true, false, not, IsTrue, Option, Some, None, List, [], ◌∷◌, ◌++◌, map, refl, sym, ap, ◌∙◌, subst, inl, inr}
use Rattle.std.specs.Prelude.{if◌then◌else◌, is_some, option_map, slice_get}
use Rattle.std.specs.List.{list_all}
use Rattle.swc_tree_marks.specs.declared.ident.Ident.{Ident}
use Rattle.swc_tree_node.specs.declared.kind.Kind.{Kind}
use Rattle.swc_tree_node.specs.declared.kind.Kind.TheVariants as kind
use Rattle.swc_tree_node.specs.declared.kind.Class.{Class}
use Rattle.swc_tree_node.specs.declared.kind.Class.TheVariants as class
use Rattle.swc_tree_node.specs.declared.slot.Content.{Content}
use Rattle.swc_tree_node.specs.declared.slot.Content.TheVariants as content
use Rattle.swc_tree_node.specs.declared.slot.Slot.{Slot}
use Rattle.swc_tree_node.specs.declared.slot.Slot.TheVariants as slot
use Rattle.swc_tree_node.specs.declared.node.Node.{Node, Absent, Flag, Word, Text, Span, List as Many, Identifier, Tree, out-Node, roll-Node, roll-out-Node}
use Rattle.swc_tree_node.specs.declared.node.Node.TheVariants.{outs-Absent, outs-Flag, outs-Word, outs-Text, outs-Span, outs-Identifier, outs-Tree, rolls-Tree}
use Rattle.swc_tree_node.specs.declared.node.Node.TheOpen.{Node-F}
use Rattle.swc_tree_node.specs.Table.{fields_of, is_identifier, slots_of}
use Rattle.swc_tree_node.specs.Fits.{AllFit, belongs, FieldsFit, Fits, single}
use Rattle.swc_tree_node.proofs.Fit.{both, fits-Absent, fits-Flag, fits-Identifier, fits-List, fits-Span, fits-Text, fits-Tree, fits-Word, holes_open, list_opens, optional_list_opens, pair_opens, pairs_open}
use Rattle.swc_tree_scoping.specs.BoundNames.{Id}
use Rattle.swc_tree_scoping.specs.Shorthands.{key_of}
use Rattle.swc_tree_grammar.specs.Levels.{is_absent_in}
use Rattle.swc_tree_grammar.specs.Shapes.{items_in, items_of}
use Rattle.swc_tree_grammar.proofs.Induction.{Each, by_children}
use Rattle.swc_tree_grammar.proofs.Items.{items_of_list, listed}
use Rattle.swc_tree_grammar.proofs.Places.{stands}
use Rattle.swc_base_rename_substitution.specs.declared.place.Place.{Place}
use Rattle.swc_base_rename_substitution.specs.declared.place.Place.TheVariants as place
use Rattle.swc_base_rename_substitution.specs.Places.{is_name, places, within}
use Rattle.swc_base_rename_substitution.specs.Identifiers.{Changes, changed, default_in, id_of, identifier_at, identifier_in, identifier_to, kept_in, with_id, with_other, writes_out, written_out, written_out_if}
use Rattle.swc_base_rename_substitution.specs.Exports.{exported_ids, exported_in, exports_of, items_for, with_exports}
use Rattle.swc_base_rename_substitution.specs.Substituted.{if_changed, substituted}
use Rattle.swc_base_rename_substitution.specs.Walk.{each_substituted, items_substituted}
use Rattle.swc_base_rename_substitution.proofs.Equations.{substituted-Absent, substituted-Flag, substituted-Word, substituted-Text, substituted-Span, substituted_identifier, substituted_list}
use Rattle.swc_base_fixer_laws.specs.Lower.swc_tree_grammar_laws.proofs.Every.{every_list, every_tree}
use Rattle.swc_base_fixer_laws.proofs.NoNamespaces.{is_free, is_other_in}
use Rattle.swc_base_rename_laws.proofs.NormalFormPairs.{All, Alike, Becomes, Fields, Spot, Trees, even_property, flag_below, is_double, needed, part, spots, property}
use Rattle.swc_base_rename_laws.proofs.NormalFormSame.{within_is}
use Rattle.swc_base_rename_laws.proofs.NormalFormViews.{weaken}
use Rattle.swc_base_rename_laws.proofs.NormalFormTable.{Row, allowed, allowed_there, fair, fair_content, fair_row, fields, is_plain, left, no_object, no_space, place_of_row, plain_tree, plain_within, right, rows_fair, tree_is}
use Rattle.swc_base_rename_laws.proofs.Impossible.{impossible}

-- ---- what fits

absent_needed : (s : Slot) → Fits Absent s → needed s ≡ false
absent_needed (slot.One c) h = absurd (cc (sym (fits-Absent (slot.One c)) ∙ h))
absent_needed s h = refl

fair_single : (b : Bool) (s : Slot) (c : Content) → single s ≡ Some c → fair b s ≡ true → fair_content b c ≡ true
fair_single b (slot.One d) c e h = let same : d ≡ c = cc in ap (fair_content b) (sym same) ∙ h
fair_single b (slot.Optional d) c e h = let same : d ≡ c = cc in ap (fair_content b) (sym same) ∙ h
fair_single b s c e h = absurd (cc)

pub absent_or : (c : Content) (t : Node) → Fits t (slot.Optional c) → (t ≡ Absent) ⊎ Fits t (slot.One c)
absent_or c t = by_children (λ t. Fits t (slot.Optional c) → (t ≡ Absent) ⊎ Fits t (slot.One c)) (
  λ h. inl refl,
  λ x h. inr (rw (fits-Flag x (slot.One c)) (rw (← fits-Flag x (slot.Optional c)) h)),
  λ x h. inr (rw (fits-Word x (slot.One c)) (rw (← fits-Word x (slot.Optional c)) h)),
  λ x h. inr (rw (fits-Text x (slot.One c)) (rw (← fits-Text x (slot.Optional c)) h)),
  λ x h. inr (rw (fits-Span x (slot.One c)) (rw (← fits-Span x (slot.Optional c)) h)),
  λ k i h. inr (rw (fits-Identifier k i (slot.One c)) (rw (← fits-Identifier k i (slot.Optional c)) h)),
)
    (λ ts l h. absurd (cc (sym (fits-List ts (slot.Optional c)) ∙ h)))
    (λ k ts l h. inr (rw (fits-Tree k ts (slot.One c)) (rw (← fits-Tree k ts (slot.Optional c)) h))) t

-- an identifier, where a class takes no tree
abbrev pub Named : Node → Class → Type 0
Named t c = (k : Kind) × (i : Ident) × (t ≡ Identifier k i) × IsTrue (belongs k c)

named_only : (c : Class) → ((k : Kind) → IsTrue (not (is_identifier k)) → IsTrue (belongs k c) → ⊥) → (t : Node) → Fits t (slot.One (content.Node c)) → Named t c
named_only c none t = by_children (λ t. Fits t (slot.One (content.Node c)) → Named t c) (
  λ h. absurd (cc (sym (fits-Absent (slot.One (content.Node c))) ∙ h)),
  λ x h. absurd (cc (sym (fits-Flag x (slot.One (content.Node c))) ∙ h)),
  λ x h. absurd (cc (sym (fits-Word x (slot.One (content.Node c))) ∙ h)),
  λ x h. absurd (cc (sym (fits-Text x (slot.One (content.Node c))) ∙ h)),
  λ x h. absurd (cc (sym (fits-Span x (slot.One (content.Node c))) ∙ h)),
  λ k i h. (k, i, refl, (both (is_identifier k) (belongs k c) (rw (← fits-Identifier k i (slot.One (content.Node c))) h)).1),
)
    (λ ts l h. absurd (cc (sym (fits-List ts (slot.One (content.Node c))) ∙ h)))
    (λ k ts l h. absurd (no_tree k ts h)) t
  where
    no_tree : (k : Kind) (ts : List Node) → Fits (Tree k ts) (slot.One (content.Node c)) → ⊥
    no_tree k ts h =
        let w = stands k ts (slot.One (content.Node c)) h in
        let same : c ≡ w.in_class = let p = w.place in cc in
        none k w.no_identifier (subst (λ c. IsTrue (belongs k c)) (sym same) w.belonging)

no_binding : (k : Kind) → IsTrue (not (is_identifier k)) → IsTrue (belongs k class.BindingIdent) → ⊥
no_binding kind.BindingIdent h g = impossible h
no_binding k h g = impossible g

no_ident : (k : Kind) → IsTrue (not (is_identifier k)) → IsTrue (belongs k class.Ident) → ⊥
no_ident kind.Ident h g = impossible h
no_ident k h g = impossible g

is_binding : (k : Kind) → IsTrue (belongs k class.BindingIdent) → k ≡ kind.BindingIdent
is_binding kind.BindingIdent h = refl
is_binding k h = impossible h

pub binding_name : (t : Node) → Fits t (slot.One (content.Node class.BindingIdent)) → (i : Ident) × (t ≡ Identifier kind.BindingIdent i)
binding_name t h = let (k, i, e, b) = named_only class.BindingIdent no_binding t h in (i, e ∙ ap (λ k. Identifier k i) (is_binding k b))

pub ident_name : (t : Node) → Fits t (slot.One (content.Node class.Ident)) → Named t class.Ident
ident_name t h = named_only class.Ident no_ident t h

not_exported : (b : Bool) → allowed b kind.ExportDecl ≡ false
not_exported true = refl
not_exported false = refl

unexported_in : (b : Bool) (s : Slot) (t : Node) (y : Node-F Node) → t ≡ roll-Node y → fair b s ≡ true → Fits t s → exported_in y ≡ []
unexported_in b s t (Node-F.Tree kind.ExportDecl ts) e f h =
    let w = stands kind.ExportDecl ts s (subst (λ t. Fits t s) (e ∙ rolls-Tree kind.ExportDecl ts) h) in
    let yes = allowed_there b kind.ExportDecl w.in_class (fair_single b s (content.Node w.in_class) w.place f) w.belonging in
    let no = not_exported b in absurd (cc)
unexported_in b s t y e f h = refl

pub unexported : (b : Bool) (s : Slot) (t : Node) → fair b s ≡ true → Fits t s → exported_ids t ≡ []
unexported b s t f h = unexported_in b s t (out-Node t) (sym (roll-out-Node t)) f h

pub item_alone : (m : Changes) (t u : Node) → exported_ids t ≡ [] → items_for m t u ≡ u ∷ []
item_alone m t u e = ap (λ xs. with_exports u (exports_of m xs)) e

all_kept : (ts : List Node) → items_of (Many ts) ≡ ts
all_kept ts = items_of_list ts

-- ---- names

kept_at : (q : Place) (k : Kind) (i : Ident) → is_plain q ≡ true → identifier_to q k i None ≡ Identifier k i
kept_at place.Name k i h = refl
kept_at place.Exported k i h = refl
kept_at place.Other k i h = refl
kept_at q k i h = absurd (cc)

changed_at : (q : Place) (k : Kind) (i j : Ident) → is_plain q ≡ true → identifier_to q k i (Some j) ≡ Identifier k j
changed_at place.Name k i j h = refl
changed_at place.Exported k i j h = refl
changed_at place.Other k i j h = refl
changed_at q k i j h = absurd (cc)

default_by : (i : Ident) (t v : Node) (y : Node-F Node) → is_absent_in y ≡ false → default_in i t v y ≡ Tree kind.AssignPat (Span i.span ∷ t ∷ v ∷ [])
default_by i t v Node-F.Absent h = absurd (cc)
default_by i t v y h = refl

kept_by : (i : Ident) (t : Node) (y : Node-F Node) → is_absent_in y ≡ false → kept_in i t y ≡ t
kept_by i t Node-F.Absent h = absurd (cc)
kept_by i t y h = refl

module _ (m : Changes) (declared : Node → List Id) where
  abbrev pub B : Bool → Spot → Node → Node → Type 0
  B = Becomes m declared

  pub to : (g : Bool) (s : Spot) (t u u' : Node) → u ≡ u' → B g s t u' → B g s t u
  to g s t u u' e h = subst (λ u. B g s t u) (sym e) h

  alike_by : (i j : Ident) (o : Option Id) → m (id_of i) ≡ o → option_map (with_id i) o ≡ Some j → Alike m true i j
  alike_by i j None e h = absurd (cc)
  alike_by i j (Some y) e h = let is : with_id i y ≡ j = cc in (sym (ap (λ (j : Ident). j.span) is), inr (refl, e ∙ ap (option_map id_of) h))

  changed_alike : (p : Place) (b : Bool) (i j : Ident) → is_plain p ≡ true → is_name p ≡ b → changed m p i ≡ Some j → Alike m b i j
  changed_alike place.Name b i j h n e = subst (λ b. Alike m b i j) n (alike_by i j (m (id_of i)) refl e)
  changed_alike place.Other b i j h n e = absurd (cc)
  changed_alike place.Exported b i j h n e = absurd (cc)
  changed_alike place.ClassName b i j h n e = absurd (cc)
  changed_alike place.Shorthand b i j h n e = absurd (cc)

  none_by : (i : Ident) (o : Option Id) → option_map (with_id i) o ≡ None → o ≡ None
  none_by i None h = refl
  none_by i (Some y) h = absurd (cc)

  -- a name that doesn't change there
  stays_alike : (p : Place) (b : Bool) (i : Ident) → is_plain p ≡ true → is_name p ≡ b → changed m p i ≡ None → Alike m b i i
  stays_alike place.Name b i h n e = subst (λ b. Alike m b i i) n (refl, inl (refl, none_by i (m (id_of i)) e))
  stays_alike place.Other b i h n e = subst (λ b. Alike m b i i) n (refl, inl (refl, refl))
  stays_alike place.Exported b i h n e = subst (λ b. Alike m b i i) n (refl, inl (refl, refl))
  stays_alike place.ClassName b i h n e = absurd (cc)
  stays_alike place.Shorthand b i h n e = absurd (cc)

  name_by : (g : Bool) (p : Place) (b : Bool) (k : Kind) (i : Ident) (o : Option Ident) → is_plain p ≡ true → is_name p ≡ b → changed m p i ≡ o → B g (part b) (Identifier k i) (identifier_to p k i o)
  name_by g p b k i None h n e = to g (part b) _ _ _ (kept_at p k i h) (Becomes.name g (part b) k i i (stays_alike p b i h n e))
  name_by g p b k i (Some j) h n e = to g (part b) _ _ _ (changed_at p k i j h) (Becomes.name g (part b) k i j (changed_alike p b i j h n e))

  short_by : (k : Kind) (i : Ident) (o : Option Id) → m (id_of i) ≡ o → B true property (Identifier k i) (identifier_to place.Shorthand k i (option_map (with_id i) o))
  short_by k i None e = Becomes.name true property k i i (refl, (refl, e))
  short_by k i (Some y) e = Becomes.short true k i (with_id i y) (refl, inr (refl, e))

  here : (g : Bool) (s : Spot) (t u : Node) → B g s t u → g ≡ true → is_absent_in (out-Node u) ≡ false
  here g s t u (Becomes.absent _) e = absurd (cc)
  here g s t u (Becomes.a_flag _ _ x) e = ap is_absent_in (outs-Flag x)
  here g s t u (Becomes.a_word _ _ x) e = ap is_absent_in (outs-Word x)
  here g s t u (Becomes.a_text _ _ x) e = ap is_absent_in (outs-Text x)
  here g s t u (Becomes.a_span _ _ x) e = ap is_absent_in (outs-Span x)
  here g s t u (Becomes.name _ _ k i j a) e = ap is_absent_in (outs-Identifier k j)
  here g s t u (Becomes.short _ k i j a) e = ap is_absent_in (outs-Tree kind.KeyValueProp _)
  here g s t u (Becomes.list _ _ _ _ _) e = absurd (cc)
  here g s t u (Becomes.tree _ _ k l ts us h) e = ap is_absent_in (outs-Tree l us)

  -- ---- what is shown

  abbrev pub Part : Node → Type 0
  Part t = (s : Slot) (p : Place) (b : Bool) → is_plain p ≡ true → is_name p ≡ b → fair b s ≡ true → Fits t s → Becomes m declared (needed s) (part b) t (substituted m false p t)

  abbrev pub props : Slot
  props = slot.One (content.Node class.PropOrSpread)

  abbrev pub Prop : Node → Type 0
  Prop t = Fits t props → B true property t (substituted m false place.Shorthand t)

  abbrev pub One : Node → Type 0
  One t = Part t × Prop t

  abbrev pub Whole : Node → Type 0
  Whole t = One t × Each One (items_of t)

  no_items : (t : Node) (y : Node-F Node) → out-Node t ≡ y → items_in y ≡ [] → Each One (items_of t)
  no_items t y e f = subst (Each One) (sym (ap items_in e ∙ f)) tt

  -- ---- lists

  pub item_begins : (s : Slot) (p : Place) (b g : Bool) (t : Node) (ts us : List Node) (spot : Spot) → fair b s ≡ true → Fits t s → B g spot t (substituted m false p t) → All m declared g spot ts us
      → All m declared g spot (t ∷ ts) (items_for m t (substituted m false p t) ++ us)
  item_begins s p b g t ts us spot f h k l =
      subst (λ x. All m declared g spot (t ∷ ts) (x ++ us)) (sym (item_alone m t (substituted m false p t) (unexported b s t f h))) (All.more g spot t _ ts us k l)

  pub all_begin : (s : Slot) (p : Place) (b : Bool) (ts : List Node) → is_plain p ≡ true → is_name p ≡ b → fair b s ≡ true → Each One ts → AllFit s ts
      → All m declared (needed s) (part b) ts (items_substituted m false p ts)
  all_begin s p b [] h n f e a = All.none (needed s) (part b)
  all_begin s p b (t ∷ ts) h n f e a = item_begins s p b (needed s) t ts _ (part b) f a.0 (e.0.0 s p b h n f a.0) (all_begin s p b ts h n f e.1 a.1)

  all_props : (ts : List Node) → Each One ts → AllFit props ts → All m declared true property ts (items_substituted m false place.Shorthand ts)
  all_props [] e a = All.none true property
  all_props (t ∷ ts) e a = item_begins props place.Shorthand true true t ts _ property refl a.0 (e.0.1 a.0) (all_props ts e.1 a.1)

  two_texts : (ts : List Node) → FieldsFit (slot.One content.Text ∷ slot.One content.Text ∷ []) ts → AllFit (slot.One content.Text) ts
  two_texts [] h = absurd h
  two_texts (a ∷ []) h = absurd h.1
  two_texts (a ∷ b ∷ []) h = (h.0, (h.1.0, tt))
  two_texts (a ∷ b ∷ c ∷ ts) h = absurd h.1.1

  list_begins : (s : Slot) (p : Place) (b : Bool) (ts : List Node) → is_plain p ≡ true → is_name p ≡ b → fair b s ≡ true → Each One ts → Fits (Many ts) s
      → B (needed s) (part b) (Many ts) (Many (items_substituted m false p ts))
  list_begins (slot.One c) p b ts h n f e a = absurd (cc (sym (fits-List ts (slot.One c)) ∙ a))
  list_begins (slot.Optional c) p b ts h n f e a = absurd (cc (sym (fits-List ts (slot.Optional c)) ∙ a))
  list_begins (slot.List c) p b ts h n f e a = Becomes.list true b ts _ (all_begin (slot.One c) p b ts h n f e (list_opens ts c a))
  list_begins (slot.Holes c) p b ts h n f e a = Becomes.list false b ts _ (all_begin (slot.Optional c) p b ts h n f e (holes_open ts c a))
  list_begins (slot.OptionalList c) p b ts h n f e a = Becomes.list true b ts _ (all_begin (slot.One c) p b ts h n f e (optional_list_opens ts c a))
  list_begins slot.Pair p b ts h n f e a = Becomes.list true b ts _ (all_begin (slot.One content.Text) p b ts h n refl e (two_texts ts (pair_opens ts a)))
  list_begins slot.Pairs p b ts h n f e a = Becomes.list false b ts _ (all_begin slot.Pair p b ts h n refl e (pairs_open ts a))

  -- ---- trees, field by field

  fields_begin : (fs : List Row) (ps : ℕ → Place) (b : Bool) (ts : List Node) → ((i : ℕ) (f : Row) → slice_get fs i ≡ Some f → (is_plain (ps i) ≡ true) × (is_name (ps i) ≡ flag_below b f.2))
      → list_all (fair_row b) fs ≡ true → FieldsFit (map (λ (f : Row). f.1) fs) ts → Each Whole ts
      → Fields m declared (map (λ (f : Row). (needed f.1, flag_below b f.2)) fs) ts (each_substituted m false ps ts)
  fields_begin [] ps b [] q r h e = Fields.end
  fields_begin [] ps b (t ∷ ts) q r h e = absurd h
  fields_begin (f ∷ fs) ps b [] q r h e = absurd h
  fields_begin (f ∷ fs) ps b (t ∷ ts) q r h e =
      Fields.next (needed f.1) (flag_below b f.2) _ t _ ts _
      (e.0.0.0 f.1 (ps zero) (flag_below b f.2) (q zero f refl).0 (q zero f refl).1 (left (fair (flag_below b f.2) f.1) _ (left (fair_row b f) _ r)) h.0)
      (fields_begin fs (λ i. ps (suc i)) b ts (λ i. q (suc i)) (right (fair_row b f) _ r) h.1 e.1)

  pub fields_at : (p : Place) (b : Bool) (k : Kind) (ts : List Node) → is_name p ≡ b → allowed b k ≡ true → no_object k ≡ true → no_space k ≡ true → FieldsFit (slots_of k) ts → Each Whole ts
      → Fields m declared (spots b k) ts (fields m p k ts)
  fields_at p b k ts n a o v h e = fields_begin (fields_of k) (places false p k ts) b ts (λ i f g. place_of_row p b k ts i f n a o v g) (rows_fair b k a v) h e

  pub plain_one : (g : Bool) (s : Spot) (p : Place) (k : Kind) (ts us : List Node) → writes_out k ≡ false → fields m p k ts ≡ us → Trees m declared s k ts k us → B g s (Tree k ts) (substituted m false p (Tree k ts))
  plain_one g s p k ts us w e h = to g s _ _ _ (plain_tree m p k ts w ∙ ap (Tree k) e) (Becomes.tree g s k k ts us h)

  -- ---- pairs and sequences

  pair_fields : (ts us : List Node) → Fields m declared (spots true kind.ParenExpr) ts us → Trees m declared (part true) kind.ParenExpr ts kind.ParenExpr us
  pair_fields ts us (Fields.next _ _ _ a b _ _ h (Fields.next _ _ _ t u _ _ k Fields.end)) = Trees.pair a b t u h k

  pair_begins : (g b : Bool) (p : Place) (ts : List Node) → is_name p ≡ b → allowed b kind.ParenExpr ≡ true → FieldsFit (slots_of kind.ParenExpr) ts → Each Whole ts
      → B g (part b) (Tree kind.ParenExpr ts) (substituted m false p (Tree kind.ParenExpr ts))
  pair_begins g true p ts n a f e = plain_one g (part true) p kind.ParenExpr ts _ refl refl (pair_fields ts _ (fields_at p true kind.ParenExpr ts n a refl refl f e))
  pair_begins g false p ts n a f e = absurd (cc)

  pub span_at : (p : Place) (a : Node) → is_plain p ≡ true → is_name p ≡ false → Part a → Fits a (slot.One content.Span) → B true (part false) a (substituted m false p a)
  span_at p a h n e f = e (slot.One content.Span) p false h n refl f

  several : (g : Bool) (p : Place) (a : Node) (ts : List Node) → One a → Each One ts → Fits a (slot.One content.Span) → AllFit (slot.One (content.Node class.Expr)) ts
      → B g (part true) (Tree kind.SeqExpr (a ∷ Many ts ∷ [])) (substituted m false p (Tree kind.SeqExpr (a ∷ Many ts ∷ [])))
  several g p a ts e l f h =
      plain_one g (part true) p kind.SeqExpr (a ∷ Many ts ∷ []) _ refl (ap (λ x. substituted m false place.Other a ∷ x ∷ []) (substituted_list m false place.Name ts))
      (Trees.sequence a _ ts _ (span_at place.Other a refl refl e.0 f) (all_begin (slot.One (content.Node class.Expr)) place.Name true ts refl refl refl l h))

  each_of : (t : Node) (ts : List Node) → t ≡ Many ts → Whole t → Each One ts
  each_of t ts e w = subst (Each One) (ap items_of e ∙ all_kept ts) w.1

  sequence_begins : (g b : Bool) (p : Place) (ts : List Node) → allowed b kind.SeqExpr ≡ true → FieldsFit (slots_of kind.SeqExpr) ts → Each Whole ts
      → B g (part b) (Tree kind.SeqExpr ts) (substituted m false p (Tree kind.SeqExpr ts))
  sequence_begins g false p ts a f e = absurd (cc)
  sequence_begins g true p [] a f e = absurd f
  sequence_begins g true p (x ∷ []) a f e = absurd f.1
  sequence_begins g true p (x ∷ y ∷ z ∷ ts) a f e = absurd f.1.1
  sequence_begins g true p (x ∷ y ∷ []) a f e =
      let l = listed y (content.Node class.Expr) f.1.0 in
      subst (λ y. B g (part true) (Tree kind.SeqExpr (x ∷ y ∷ [])) (substituted m false p (Tree kind.SeqExpr (x ∷ y ∷ [])))) (sym l.is)
      (several g p x l.items e.0.0 (each_of y l.items l.is e.1.0) f.0 l.fit)

  -- ---- object literals

  object_of : (g b : Bool) (p : Place) (a : Node) (ts : List Node) → One a → Each One ts → Fits a (slot.One content.Span) → AllFit props ts
      → B g (part b) (Tree kind.ObjectLit (a ∷ Many ts ∷ [])) (substituted m false p (Tree kind.ObjectLit (a ∷ Many ts ∷ [])))
  object_of g b p a ts e l f h =
      plain_one g (part b) p kind.ObjectLit (a ∷ Many ts ∷ []) _ refl (ap (λ x. substituted m false place.Other a ∷ x ∷ []) (substituted_list m false place.Shorthand ts))
      (Trees.object b a _ ts _ (span_at place.Other a refl refl e.0 f) (all_props ts l h))

  object_begins : (g b : Bool) (p : Place) (ts : List Node) → FieldsFit (slots_of kind.ObjectLit) ts → Each Whole ts → B g (part b) (Tree kind.ObjectLit ts) (substituted m false p (Tree kind.ObjectLit ts))
  object_begins g b p [] f e = absurd f
  object_begins g b p (x ∷ []) f e = absurd f.1
  object_begins g b p (x ∷ y ∷ z ∷ ts) f e = absurd f.1.1
  object_begins g b p (x ∷ y ∷ []) f e =
      let l = listed y (content.Node class.PropOrSpread) f.1.0 in
      subst (λ y. B g (part b) (Tree kind.ObjectLit (x ∷ y ∷ [])) (substituted m false p (Tree kind.ObjectLit (x ∷ y ∷ [])))) (sym l.is)
      (object_of g b p x l.items e.0.0 (each_of y l.items l.is e.1.0) f.0 l.fit)

  -- ---- `{ a }` in patterns

  -- a value that is left out, or one that is there
  abbrev pub Given : Bool → Node → Node → Type 0
  Given b t u = ((t ≡ Absent) × (u ≡ Absent)) ⊎ B true (part b) t u

  pub given : (p : Place) (b : Bool) (c : Class) (t : Node) → is_plain p ≡ true → is_name p ≡ b → fair_content b (content.Node c) ≡ true → Part t → Fits t (slot.Optional (content.Node c)) → Given b t (substituted m false p t)
  given p b c t h n f e g = by (absent_or (content.Node c) t g)
    where
      by : (t ≡ Absent) ⊎ Fits t (slot.One (content.Node c)) → Given b t (substituted m false p t)
      by (inl x) = inl (x, ap (substituted m false p) x ∙ substituted-Absent m false p)
      by (inr x) = inr (e (slot.One (content.Node c)) p b h n f x)

  key_changes : (g b : Bool) (a : Node) (i j : Ident) (v u : Node) → Alike m b i j → Given true v u
      → B g (part b) (Tree kind.AssignPatProp (a ∷ Identifier kind.BindingIdent i ∷ v ∷ [])) (Tree kind.KeyValuePatProp (key_of i ∷ default_in i (Identifier kind.BindingIdent j) u (out-Node u) ∷ []))
  key_changes g b a i j v u l (inl x) =
      subst (λ v. B g (part b) (Tree kind.AssignPatProp (a ∷ Identifier kind.BindingIdent i ∷ v ∷ [])) (Tree kind.KeyValuePatProp (key_of i ∷ default_in i (Identifier kind.BindingIdent j) u (out-Node u) ∷ []))) (sym x.0)
      (to g (part b) _ _ _ (ap (λ u. Tree kind.KeyValuePatProp (key_of i ∷ default_in i (Identifier kind.BindingIdent j) u (out-Node u) ∷ [])) x.1
      ∙ ap (λ y. Tree kind.KeyValuePatProp (key_of i ∷ default_in i (Identifier kind.BindingIdent j) Absent y ∷ [])) outs-Absent)
      (Becomes.tree g (part b) _ _ _ _ (Trees.key_alone b a i j l)))
  key_changes g b a i j v u l (inr x) =
      to g (part b) _ _ _ (ap (λ t. Tree kind.KeyValuePatProp (key_of i ∷ t ∷ [])) (default_by i (Identifier kind.BindingIdent j) u (out-Node u) (here true (part true) v u x refl)))
      (Becomes.tree g (part b) _ _ _ _ (Trees.key_default b a i j v u l x))

  whole_value : (v u : Node) → Given true v u → B false (part true) v u
  whole_value v u (inl x) = subst (λ u. B false (part true) v u) (sym x.1) (subst (λ v. B false (part true) v Absent) (sym x.0) (Becomes.absent (part true)))
  whole_value v u (inr x) = weaken m declared false (part true) v u x

  key_by : (g b : Bool) (q : Place) (a c : Node) (i : Ident) (v u : Node) (o : Option Ident) → is_plain q ≡ true → is_name q ≡ b → changed m q i ≡ o → B true (part false) a c → Given true v u
      → B g (part b) (Tree kind.AssignPatProp (a ∷ Identifier kind.BindingIdent i ∷ v ∷ []))
      (written_out_if kind.AssignPatProp (if is_some o then Some i else None) (c ∷ identifier_to q kind.BindingIdent i o ∷ u ∷ []))
  key_by g b q a c i v u None h n e l k =
      to g (part b) _ _ _ (ap (λ t. Tree kind.AssignPatProp (c ∷ t ∷ u ∷ [])) (kept_at q kind.BindingIdent i h)) (Becomes.tree g (part b) _ _ _ _ (Trees.key_stays b a c i v u (stays_alike q b i h n e) l (whole_value v u k)))
  key_by g b q a c i v u (Some j) h n e l k =
      to g (part b) _ _ _ (ap (λ t. Tree kind.KeyValuePatProp (key_of i ∷ default_in i t u (out-Node u) ∷ [])) (changed_at q kind.BindingIdent i j h))
      (key_changes g b a i j v u (changed_alike q b i j h n e) k)

  pub name_there : (k : Kind) (i : Ident) (a : Node) (ts : List Node) → identifier_at (a ∷ Identifier k i ∷ ts) 1 ≡ Some i
  name_there k i a ts = ap identifier_in (outs-Identifier k i)

  key_of_name : (g b : Bool) (p : Place) (a : Node) (i : Ident) (v : Node) → is_plain (within p) ≡ true → is_name (within p) ≡ b → B true (part false) a (substituted m false place.Other a)
      → Given true v (substituted m false place.Name v)
      → B g (part b) (Tree kind.AssignPatProp (a ∷ Identifier kind.BindingIdent i ∷ v ∷ [])) (substituted m false p (Tree kind.AssignPatProp (a ∷ Identifier kind.BindingIdent i ∷ v ∷ [])))
  key_of_name g b p a i v h n l k =
      to g (part b) _ _ _
      (tree_is m p kind.AssignPatProp (a ∷ Identifier kind.BindingIdent i ∷ v ∷ [])
      ∙ (λ x. written_out_if kind.AssignPatProp (if_changed m (within p) (name_there kind.BindingIdent i a (v ∷ []) x))
      (substituted m false place.Other a ∷ substituted_identifier m false (within p) kind.BindingIdent i x ∷ substituted m false place.Name v ∷ [])))
      (key_by g b (within p) a _ i v _ (changed m (within p) i) h n refl l k)

  key_begins : (g b : Bool) (p : Place) (ts : List Node) → is_name p ≡ b → FieldsFit (slots_of kind.AssignPatProp) ts → Each Whole ts
      → B g (part b) (Tree kind.AssignPatProp ts) (substituted m false p (Tree kind.AssignPatProp ts))
  key_begins g b p [] n f e = absurd f
  key_begins g b p (x ∷ []) n f e = absurd f.1
  key_begins g b p (x ∷ y ∷ []) n f e = absurd f.1.1
  key_begins g b p (x ∷ y ∷ z ∷ t ∷ ts) n f e = absurd f.1.1.1
  key_begins g b p (x ∷ y ∷ z ∷ []) n f e =
      let (i, is) = binding_name y f.1.0 in
      subst (λ y. B g (part b) (Tree kind.AssignPatProp (x ∷ y ∷ z ∷ [])) (substituted m false p (Tree kind.AssignPatProp (x ∷ y ∷ z ∷ [])))) (sym is)
      (key_of_name g b p x i z (plain_within p) (within_is p ∙ n) (span_at place.Other x refl refl e.0.0.0 f.0) (given place.Name true class.Expr z refl refl refl e.1.1.0.0.0 f.1.1.0))

  -- ---- specifiers

  abbrev pub Others : Kind → Type 0
  Others k = (j : Ident) (us : List Node) → written_out k j us ≡ Tree k (with_other j us)

  same_text : (g : Bool) (l : Kind) (i : Ident) → B g (part false) (Identifier l i) (Identifier l i)
  same_text g l i = Becomes.name g (part false) l i i (refl, inl (refl, refl))

  same_name : (g : Bool) (l : Kind) (i : Ident) → changed m place.Name i ≡ None → B g (part true) (Identifier l i) (Identifier l i)
  same_name g l i e = Becomes.name g (part true) l i i (stays_alike place.Name true i refl refl e)

  both_absent : (g : Bool) (s : Spot) (F G : Node → Node) (v u : Node) → v ≡ Absent → u ≡ Absent → B g s (F Absent) (G Absent) → B g s (F v) (G u)
  both_absent g s F G v u e f h = subst (λ u. B g s (F v) (G u)) (sym f) (subst (λ v. B g s (F v) (G Absent)) (sym e) h)

  pub double_by : (g : Bool) (s : Spot) (k l : Kind) (a c : Node) (i : Ident) (v u : Node) (o : Option Ident) → is_double s k ≡ true → Others k → changed m place.Name i ≡ o → B true (part false) a c → Given false v u
      → B g s (Tree k (a ∷ Identifier l i ∷ v ∷ [])) (written_out_if k (if is_some o then Some i else None) (c ∷ identifier_to place.Name l i o ∷ u ∷ []))
  double_by g s k l a c i v u None d w e h (inl x) =
      both_absent g s (λ v. Tree k (a ∷ Identifier l i ∷ v ∷ [])) (λ u. Tree k (c ∷ Identifier l i ∷ u ∷ [])) v u x.0 x.1
      (Becomes.tree g s _ _ _ _ (Trees.one_stays s k a c _ _ d h (same_name true l i e) (same_text true l i)))
  double_by g s k l a c i v u None d w e h (inr x) = Becomes.tree g s _ _ _ _ (Trees.both_names s k a c _ _ v u d h (same_name true l i e) x)
  double_by g s k l a c i v u (Some j) d w e h (inl x) =
      both_absent g s (λ v. Tree k (a ∷ Identifier l i ∷ v ∷ [])) (λ u. written_out k i (c ∷ Identifier l j ∷ u ∷ [])) v u x.0 x.1
      (to g s _ _ _ (w i (c ∷ Identifier l j ∷ Absent ∷ []) ∙ ap (λ y. Tree k (c ∷ Identifier l j ∷ kept_in i Absent y ∷ [])) outs-Absent)
      (Becomes.tree g s _ _ _ _ (Trees.one_changes s k a c l i j d h (changed_alike place.Name true i j refl refl e))))
  double_by g s k l a c i v u (Some j) d w e h (inr x) =
      to g s _ _ _ (w i (c ∷ Identifier l j ∷ u ∷ []) ∙ ap (λ t. Tree k (c ∷ Identifier l j ∷ t ∷ [])) (kept_by i u (out-Node u) (here true (part false) v u x refl)))
      (Becomes.tree g s _ _ _ _ (Trees.both_names s k a c _ _ v u d h (Becomes.name true (part true) l i j (changed_alike place.Name true i j refl refl e)) x))

  import_of : (g b : Bool) (p : Place) (a : Node) (l : Kind) (i : Ident) (v : Node) → B true (part false) a (substituted m false place.Other a) → Given false v (substituted m false place.Other v)
      → B g (part b) (Tree kind.ImportNamedSpecifier (a ∷ Identifier l i ∷ v ∷ [])) (substituted m false p (Tree kind.ImportNamedSpecifier (a ∷ Identifier l i ∷ v ∷ [])))
  import_of g b p a l i v h k =
      to g (part b) _ _ _
      (tree_is m p kind.ImportNamedSpecifier (a ∷ Identifier l i ∷ v ∷ [])
      ∙ (λ x. written_out_if kind.ImportNamedSpecifier (if_changed m place.Name (name_there l i a (v ∷ []) x))
      (substituted m false place.Other a ∷ substituted_identifier m false place.Name l i x ∷ substituted m false place.Other v ∷ [])))
      (double_by g (part b) kind.ImportNamedSpecifier l a _ i v _ (changed m place.Name i) refl (λ j us. refl) refl h k)

  import_begins : (g b : Bool) (p : Place) (ts : List Node) → FieldsFit (slots_of kind.ImportNamedSpecifier) ts → Each Whole ts
      → B g (part b) (Tree kind.ImportNamedSpecifier ts) (substituted m false p (Tree kind.ImportNamedSpecifier ts))
  import_begins g b p [] f e = absurd f
  import_begins g b p (x ∷ []) f e = absurd f.1
  import_begins g b p (x ∷ y ∷ []) f e = absurd f.1.1
  import_begins g b p (x ∷ y ∷ z ∷ t ∷ ts) f e = absurd f.1.1.1
  import_begins g b p (x ∷ y ∷ z ∷ []) f e =
      let (l, i, is, r) = ident_name y f.1.0 in
      subst (λ y. B g (part b) (Tree kind.ImportNamedSpecifier (x ∷ y ∷ z ∷ [])) (substituted m false p (Tree kind.ImportNamedSpecifier (x ∷ y ∷ z ∷ [])))) (sym is)
      (import_of g b p x l i z (span_at place.Other x refl refl e.0.0.0 f.0) (given place.Other false class.ModuleExportName z refl refl refl e.1.1.0.0.0 f.1.1.0))

  -- in an export list with a source no name is one of the program's
  no_change : (p : Place) (o : Option Ident) → is_name p ≡ false → if_changed m (within p) o ≡ None
  no_change p None n = refl
  no_change p (Some i) n = ap (λ b. if_changed m (if b then place.Name else place.Other) (Some i)) n

  export_begins : (g b : Bool) (p : Place) (ts : List Node) → is_name p ≡ b → allowed b kind.ExportNamedSpecifier ≡ true → FieldsFit (slots_of kind.ExportNamedSpecifier) ts → Each Whole ts
      → B g (part b) (Tree kind.ExportNamedSpecifier ts) (substituted m false p (Tree kind.ExportNamedSpecifier ts))
  export_begins g true p ts n a f e = absurd (cc)
  export_begins g false p ts n a f e =
      to g (part false) _ _ _ (tree_is m p kind.ExportNamedSpecifier ts ∙ ap (λ o. written_out_if kind.ExportNamedSpecifier o (fields m p kind.ExportNamedSpecifier ts)) (no_change p (identifier_at ts 1) n))
      (Becomes.tree g (part false) _ _ _ _ (Trees.even (part false) kind.ExportNamedSpecifier ts _ refl (fields_at p false kind.ExportNamedSpecifier ts n a refl refl f e)))

  -- ---- the whole

  no_list : (b : Bool) → allowed b kind.NamedExport ≡ false
  no_list true = refl
  no_list false = refl

  no_module : (b : Bool) → allowed b kind.Module ≡ false
  no_module true = refl
  no_module false = refl

  pub tree_of : (g b : Bool) (p : Place) (k : Kind) (ts : List Node) → is_name p ≡ b → allowed b k ≡ true → no_space k ≡ true → FieldsFit (slots_of k) ts → Each Whole ts → B g (part b) (Tree k ts) (substituted m false p (Tree k ts))
  tree_of g b p kind.ParenExpr ts n a v f e = pair_begins g b p ts n a f e
  tree_of g b p kind.SeqExpr ts n a v f e = sequence_begins g b p ts a f e
  tree_of g b p kind.ObjectLit ts n a v f e = object_begins g b p ts f e
  tree_of g b p kind.AssignPatProp ts n a v f e = key_begins g b p ts n f e
  tree_of g b p kind.ImportNamedSpecifier ts n a v f e = import_begins g b p ts f e
  tree_of g b p kind.ExportNamedSpecifier ts n a v f e = export_begins g b p ts n a f e
  tree_of g b p kind.NamedExport ts n a v f e = let no = no_list b in absurd (cc)
  tree_of g b p kind.Module ts n a v f e = let no = no_module b in absurd (cc)
  tree_of g b p kind.ExportDecl ts n a v f e = let no = not_exported b in absurd (cc)
  tree_of g b p k ts n a v f e = plain_one g (part b) p k ts _ refl refl (Trees.even (part b) k ts _ refl (fields_at p b k ts n a refl v f e))

  prop_kind : (k : Kind) → IsTrue (not (is_identifier k)) → IsTrue (belongs k class.PropOrSpread) → even_property k ≡ true
  prop_kind kind.SpreadElement h g = refl
  prop_kind kind.KeyValueProp h g = refl
  prop_kind kind.GetterProp h g = refl
  prop_kind kind.SetterProp h g = refl
  prop_kind kind.MethodProp h g = refl
  prop_kind kind.Ident h g = impossible h
  prop_kind k h g = impossible g

  prop_plain : (k : Kind) → even_property k ≡ true → (writes_out k ≡ false) × (no_object k ≡ true) × (no_space k ≡ true)
  prop_plain kind.SpreadElement h = (refl, refl, refl)
  prop_plain kind.KeyValueProp h = (refl, refl, refl)
  prop_plain kind.GetterProp h = (refl, refl, refl)
  prop_plain kind.SetterProp h = (refl, refl, refl)
  prop_plain kind.MethodProp h = (refl, refl, refl)
  prop_plain k h = impossible h

  tree_part : (k : Kind) (ts : List Node) → no_space k ≡ true → Each Whole ts → Part (Tree k ts)
  tree_part k ts v e s p b h n f a =
      let w = stands k ts s a in
      tree_of (needed s) b p k ts n (allowed_there b k w.in_class (fair_single b s (content.Node w.in_class) w.place f) w.belonging) v w.fields e

  tree_prop : (k : Kind) (ts : List Node) → Each Whole ts → Prop (Tree k ts)
  tree_prop k ts e a =
      let w = stands k ts props a in
      let same : class.PropOrSpread ≡ w.in_class = let q = w.place in cc in
      let belongs' : IsTrue (belongs k class.PropOrSpread) = subst (λ c. IsTrue (belongs k c)) (sym same) w.belonging in
      let even' = prop_kind k w.no_identifier belongs' in
      let plain' = prop_plain k even' in
      plain_one true property place.Shorthand k ts _ plain'.0 refl
      (Trees.even property k ts _ even' (fields_at place.Shorthand true k ts refl (allowed_there true k class.PropOrSpread refl belongs') plain'.1 plain'.2 w.fields e))

  pub first_of : (ts : List Node) → Each Whole ts → Each One ts
  first_of [] e = tt
  first_of (t ∷ ts) e = (e.0.0, first_of ts e.1)

  absent_part : Part Absent
  absent_part s p b h n f a = subst (λ g. B g (part b) Absent (substituted m false p Absent)) (sym (absent_needed s a)) (to false (part b) _ _ _ (substituted-Absent m false p) (Becomes.absent (part b)))

  list_part : (ts : List Node) → Each One ts → Part (Many ts)
  list_part ts e s p b h n f a = to (needed s) (part b) _ _ _ (substituted_list m false p ts) (list_begins s p b ts h n f e a)

  -- what no namespace stands in
  abbrev Begins : Node → Type 0
  Begins t = is_free t ≡ true → Whole t

  all_whole : (ts : List Node) → Each Begins ts → list_all is_free ts ≡ true → Each Whole ts
  all_whole [] e v = tt
  all_whole (t ∷ ts) e v = (e.0 (left (is_free t) _ v), all_whole ts e.1 (right (is_free t) _ v))

  pub spaceless : (k : Kind) (ts : List Node) → is_other_in (Node-F.Tree k ts) ≡ true → no_space k ≡ true
  spaceless kind.TsModuleDecl ts v = v
  spaceless k ts v = refl

  list_whole : (ts : List Node) → Each Begins ts → Begins (Many ts)
  list_whole ts e v =
      let l = all_whole ts e (sym (every_list is_other_in ts) ∙ v) in
      ((list_part ts (first_of ts l), λ h. absurd (cc (sym (fits-List ts props) ∙ h))), subst (Each One) (sym (all_kept ts)) (first_of ts l))

  tree_whole : (k : Kind) (ts : List Node) → Each Begins ts → Begins (Tree k ts)
  tree_whole k ts e v =
      let free = sym (every_tree is_other_in k ts) ∙ v in
      let l = all_whole ts e (right (is_other_in (Node-F.Tree k ts)) _ free) in
      ((tree_part k ts (spaceless k ts (left (is_other_in (Node-F.Tree k ts)) _ free)) l, tree_prop k ts l), no_items (Tree k ts) _ (outs-Tree k ts) refl)

  -- a node stands beside what it becomes at its place
  pub begins : (t : Node) → Begins t
  begins t = by_children Begins (
    λ v. ((absent_part, λ h. absurd (cc (sym (fits-Absent props) ∙ h))), no_items Absent _ outs-Absent refl),
    λ x v. (
      (
        λ s p b h n f a. to (needed s) (part b) _ _ _ (substituted-Flag m false p x) (Becomes.a_flag (needed s) (part b) x),
        λ h. to true property _ _ _ (substituted-Flag m false place.Shorthand x) (Becomes.a_flag true property x),
      ),
      no_items (Flag x) _ (outs-Flag x) refl,
    ),
    λ x v. (
      (
        λ s p b h n f a. to (needed s) (part b) _ _ _ (substituted-Word m false p x) (Becomes.a_word (needed s) (part b) x),
        λ h. to true property _ _ _ (substituted-Word m false place.Shorthand x) (Becomes.a_word true property x),
      ),
      no_items (Word x) _ (outs-Word x) refl,
    ),
    λ x v. (
      (
        λ s p b h n f a. to (needed s) (part b) _ _ _ (substituted-Text m false p x) (Becomes.a_text (needed s) (part b) x),
        λ h. to true property _ _ _ (substituted-Text m false place.Shorthand x) (Becomes.a_text true property x),
      ),
      no_items (Text x) _ (outs-Text x) refl,
    ),
    λ x v. (
      (
        λ s p b h n f a. to (needed s) (part b) _ _ _ (substituted-Span m false p x) (Becomes.a_span (needed s) (part b) x),
        λ h. to true property _ _ _ (substituted-Span m false place.Shorthand x) (Becomes.a_span true property x),
      ),
      no_items (Span x) _ (outs-Span x) refl,
    ),
    λ k i v. (
      (
        λ s p b h n f a. to (needed s) (part b) _ _ _ (substituted_identifier m false p k i) (name_by (needed s) p b k i (changed m p i) h n refl),
        λ h. to true property _ _ _ (substituted_identifier m false place.Shorthand k i) (short_by k i (m (id_of i)) refl),
      ),
      no_items (Identifier k i) _ (outs-Identifier k i) refl,
    ),
  )
      list_whole tree_whole t
