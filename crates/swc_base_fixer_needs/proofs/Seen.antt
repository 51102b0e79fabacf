-- In a tree of the table whose pairs have reasons, they are seen.
use Rattle.std.proofs.Common.{◌≡◌, Bool, true, false, ◌&&◌, ◌||◌, List, [], ◌∷◌, map, refl, sym, ◌∙◌}
use Rattle.std.specs.List.{list_all}
use Rattle.std.specs.Prelude.{Some}
use Rattle.swc_tree_node.specs.declared.kind.Kind.{Kind}
use Rattle.swc_tree_node.specs.declared.kind.Kind.TheVariants as kind
use Rattle.swc_tree_node.specs.declared.kind.Class.{Class}
use Rattle.swc_tree_node.specs.declared.kind.Class.TheVariants as class
use Rattle.swc_tree_node.specs.declared.slot.Content.TheVariants as content
use Rattle.swc_tree_node.specs.declared.slot.Slot.{Slot}
use Rattle.swc_tree_node.specs.declared.slot.Slot.TheVariants as slot
use Rattle.swc_tree_node.specs.declared.node.Node.{Node, Tree}
use Rattle.swc_tree_node.specs.declared.node.Node.TheOpen.{Node-F}
use Rattle.swc_tree_node.specs.Table.{slots_of}
use Rattle.swc_tree_node.specs.Fits.{Fits, FieldsFit, AllFit, single}
use Rattle.swc_tree_grammar.specs.Stripped.{is_pairless}
use Rattle.swc_tree_grammar.specs.Due.{Places, paired_by_level}
use Rattle.swc_tree_grammar.specs.Needed.{NoIdlePair}
use Rattle.swc_tree_grammar.proofs.Places.{stands}
use Rattle.swc_tree_grammar_laws.proofs.Levelled.{both}
use Rattle.swc_tree_grammar_laws.proofs.Every.{every_tree, every_list}
use Rattle.swc_base_fixer_laws.specs.Sets.{item}
use Rattle.swc_base_fixer_laws.proofs.FitsKept.{fits_kept}
use Rattle.swc_base_fixer_laws.proofs.SetsRows.{levels_set}
use Rattle.swc_base_fixer_laws.proofs.Quiet.{is_quiet, items_fit}
use Rattle.swc_base_fixer_needs.specs.Sites.{Mode, Site, Spot, Clue, clue, any, spots, item_mode, other_items}
use Rattle.swc_base_fixer_needs.specs.Sites.Mode.{Declarators}
use Rattle.swc_base_fixer_needs.specs.Sites.Spot.{Hidden, At}
use Rattle.swc_base_fixer_needs.specs.Reasons.{Label, nothing, Extent, Due, AllDue, takes_tree}
use Rattle.swc_base_fixer_needs.specs.Reasons.Extent.{Seen}
use Rattle.swc_base_fixer_needs.specs.Reasons.Due.{leaf, unseen, pair, many, tree}
use Rattle.swc_base_fixer_needs.specs.Reasons.AllDue.{none, more}
use Rattle.swc_base_fixer_needs.specs.Keys.{is_named_in, names_constructors}
use Rattle.swc_base_fixer_needs.proofs.KeysKept.{names_kept}
use Rattle.swc_base_fixer_needs.proofs.Quiet.{quiet_fits}
use Rattle.swc_base_fixer_needs.proofs.Fair.{is_list, is_fair, all_fair, fair}
use Rattle.swc_base_fixer_needs.proofs.Reasoned.{reasons_are_needs}
use Rattle.swc_base_fixer_needs.proofs.LevelParts.{levels_have_reasons}

hidden_if : (b : Bool) (s : Slot) (t : Node) → is_quiet s ≡ b → Fits t s → (b || is_pairless t) ≡ true → is_pairless t ≡ true
hidden_if true s t e f g = quiet_fits t s e f
hidden_if false s t e f g = g

no_list : (s : Slot) (c : Class) → single s ≡ Some (content.Node c) → is_list s ≡ false
no_list (slot.One d) c e = refl
no_list (slot.Optional d) c e = refl
no_list s c e = absurd (cc)

takes_if : (b : Bool) (m : Mode) → b ≡ false → (takes_tree m || b) ≡ true → takes_tree m ≡ true
takes_if b Declarators e h = absurd (cc)
takes_if b m e h = refl

takes : (a : Site) (k : Kind) (ts : List Node) (s : Slot) (t : Node) → Fits (Tree k ts) s → is_fair (At a) s t ≡ true → takes_tree a.mode ≡ true
takes a k ts s t f g = let w = stands k ts s f in takes_if (is_list s) a.mode (no_list s w.in_class w.place) g

item_takes : (m : Mode) → takes_tree (item_mode m) ≡ true
item_takes Declarators = refl
item_takes m = refl

abbrev takes_spot : Spot → Bool
takes_spot Hidden = false
takes_spot (At a) = takes_tree a.mode

others_take : (a : Site) (cs : List Clue) → list_all takes_spot (other_items a cs) ≡ true
others_take a [] = refl
others_take a (c ∷ cs) = rw (item_takes a.mode) (others_take a cs)

items_take : (a : Site) (cs : List Clue) → list_all takes_spot (spots a (Node-F.List cs)) ≡ true
items_take a [] = refl
items_take a (c ∷ cs) = rw (item_takes a.mode) (others_take a cs)

fair_item : (p : Spot) (s : Slot) (t : Node) → takes_spot p ≡ true → is_fair p s t ≡ true
fair_item Hidden s t h = absurd (cc)
fair_item (At a) s t h = rw h refl

mutual
  seen : {x : Extent} {l : Label} {p : Spot} {t : Node} → Due x l p t → (s : Slot) → Fits t s → is_fair p s t ≡ true → names_constructors t ≡ true → Due Seen l p t
  seen (leaf t n) s f g k = leaf t n
  seen (unseen t n) s f g k = unseen t (λ z. hidden_if (is_quiet s) s t refl f g)
  seen (pair {a = a} e u m n c r y d) s f g k =
      let w = stands kind.ParenExpr (e ∷ u ∷ []) s f in let q = both (names_constructors e) (names_constructors u && true) (sym (every_tree is_named_in kind.ParenExpr (e ∷ u ∷ [])) ∙ k) in
      pair e u (λ z. takes a kind.ParenExpr (e ∷ u ∷ []) s (Tree kind.ParenExpr (e ∷ u ∷ [])) f g) (λ z. quiet_fits e (slot.One content.Span) refl w.fields.0) c r (λ z. absurd (cc))
      (seen d (slot.One (content.Node class.Expr)) w.fields.1.0 refl (both (names_constructors u) true q.1).0)
  seen (many {a = a} ts d) s f g k = many ts (seen_items d (item s) (items_fit s ts f) (items_take a (map clue ts)) (both (is_named_in (Node-F.List ts)) (list_all names_constructors ts) (sym (every_list is_named_in ts) ∙ k)).1)
  seen (tree {a = a} k ts n m d) s f g c =
      let w = stands k ts s f in let q = both (is_named_in (Node-F.Tree k ts)) (list_all names_constructors ts) (sym (every_tree is_named_in k ts) ∙ c) in
      tree k ts n (λ z. takes a k ts s (Tree k ts) f g) (seen_fields d (slots_of k) w.fields (fair k ts a w.fields q.0) q.1)

  seen_items : {x : Extent} {ls : List Label} {ps : List Spot} {ts : List Node} → AllDue x ls ps ts → (s : Slot) → AllFit s ts → list_all takes_spot ps ≡ true → list_all names_constructors ts ≡ true → AllDue Seen ls ps ts
  seen_items none s f g k = none
  seen_items (more {s = p} {ss = ps} {t = t} {ts = ts} c d) s f g k =
      let q = both (names_constructors t) (list_all names_constructors ts) k in let w = both (takes_spot p) (list_all takes_spot ps) g in
      more (seen c s f.0 (fair_item p s t w.0) q.0) (seen_items d s f.1 w.1 q.1)

  seen_fields : {x : Extent} {ls : List Label} {ps : List Spot} {ts : List Node} → AllDue x ls ps ts → (ss : List Slot) → FieldsFit ss ts → all_fair ps ss ts ≡ true → list_all names_constructors ts ≡ true → AllDue Seen ls ps ts
  seen_fields none ss f g k = none
  seen_fields (more c d) [] f g k = absurd f
  seen_fields (more {s = p} {ss = ps} {t = t} {ts = ts} c d) (s ∷ ss) f g k =
      let q = both (names_constructors t) (list_all names_constructors ts) k in let w = both (is_fair p s t) (all_fair ps ss ts) g in
      more (seen c s f.0 w.0 q.0) (seen_fields d ss f.1 w.1 q.1)

pub seen_needs : {x : Extent} (t : Node) (s : Slot) → Fits t s → names_constructors t ≡ true → Due x nothing any t → NoIdlePair t
seen_needs t s f k d = reasons_are_needs t (seen d s f refl k)

pub levels_are_needed : (p : Places) (t : Node) (s : Slot) → Fits t s → is_pairless t ≡ true → names_constructors t ≡ true → NoIdlePair (paired_by_level p t)
levels_are_needed p t s f n k = let d = levels_set p t s f in seen_needs (paired_by_level p t) s (fits_kept d f) (names_kept d k) (levels_have_reasons p t n)
