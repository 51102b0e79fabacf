-- Pairs keep a tree calm: no arrow that returns an expression comes to begin it with an assignment to an object pattern.
use Rattle.std.proofs.Common.{◌≡◌, Bool, true, false, not, ◌||◌, IsTrue, List, [], ◌∷◌, map, refl, sym, ap, ◌∙◌, rules, true≢false}
use Rattle.std.specs.List.{list_all}
use Rattle.swc_tree_node.specs.declared.kind.Kind.{Kind}
use Rattle.swc_tree_node.specs.declared.kind.Kind.TheVariants as kind
use Rattle.swc_tree_node.specs.declared.slot.Slot.{Slot}
use Rattle.swc_tree_node.specs.declared.node.Node.{Node, Absent, Flag, Word, Text, Span, List as Many, Identifier, Tree, the_lemmas}
use Rattle.swc_tree_node.specs.declared.node.Node.TheOpen.{Node-F}
use Rattle.swc_tree_node.specs.Table.{slots_of}
use Rattle.swc_tree_grammar.specs.Kinds.{has_kind, is_block, is_object_pattern}
use Rattle.swc_tree_grammar.proofs.Induction.{by_children}
use Rattle.swc_tree_grammar_laws.proofs.Levelled.{both, also_both}
use Rattle.swc_base_fixer_laws.specs.Sets.{Sets, AllSet, FieldsSet, can_pair, pairable}
use Rattle.swc_base_fixer_laws.specs.Sets.Sets.{same, after, around, named, items, tree}
use Rattle.swc_base_fixer_laws.specs.Sets.AllSet.{none, more}
use Rattle.swc_base_fixer_laws.specs.Sets.FieldsSet.{nil, field}
use Rattle.swc_base_fixer_laws.proofs.Up.{no_pair, kind_of_tree}
use Rattle.swc_base_fixer_laws.proofs.ElseKept.{pairable_tree}
use Rattle.swc_base_fixer_needs.proofs.FirstRows.{led, led_in, led_tree, led_list, lead_of, lead_whole}
use Rattle.swc_base_fixer_needs.proofs.StartNodes.{calm, calm_in, calm_tree, calm_list}

-- a block stays one, and no node becomes an object pattern or begins with an assignment to one
pub record Calmer (t u : Node) : Type 0 where
  pub block : has_kind is_block t ≡ true → has_kind is_block u ≡ true
  pub pattern : has_kind is_object_pattern t ≡ false → has_kind is_object_pattern u ≡ false
  pub lead : led t ≡ false → led u ≡ false

data Calmers : List Node → List Node → Type 0 where
  empty : Calmers [] []
  cons : {t u : Node} {ts us : List Node} → Calmer t u → Calmers ts us → Calmers (t ∷ ts) (u ∷ us)

calmer_then : {t u v : Node} → Calmer t u → Calmer u v → Calmer t v
calmer_then c d = record { block = λ h. d.block (c.block h); pattern = λ h. d.pattern (c.pattern h); lead = λ h. d.lead (c.lead h) }

-- a pair
no_block_row : (k : Kind) → can_pair k ≡ true → is_block k ≡ false
no_block_row kind.BlockStmt h = absurd (true≢false (sym h))
no_block_row k h = refl

no_block : (t : Node) → IsTrue (pairable t) → has_kind is_block t ≡ false
no_block t = by_children (λ t. IsTrue (pairable t) → has_kind is_block t ≡ false)
    (no_pair Absent (search (rules, the_lemmas)), λ x. no_pair (Flag x) (search (rules, the_lemmas)), λ w. no_pair (Word w) (search (rules, the_lemmas)), λ x. no_pair (Text x) (search (rules, the_lemmas)), λ s. no_pair (Span s) (search (rules, the_lemmas)), λ k i. no_pair (Identifier k i) (search (rules, the_lemmas)))
    (λ ts l. no_pair (Many ts) (search (rules, the_lemmas)))
    (λ k ts l h. kind_of_tree is_block k ts ∙ no_block_row k (sym (pairable_tree k ts) ∙ h)) t

in_pair : (t s u : Node) → has_kind is_block t ≡ false → Calmer t (Tree kind.ParenExpr (s ∷ u ∷ []))
in_pair t s u h = record {
  block = λ g. absurd (cc);
  pattern = λ g. kind_of_tree is_object_pattern kind.ParenExpr (s ∷ u ∷ []);
  lead = λ g. led_tree kind.ParenExpr (s ∷ u ∷ []);
}

-- a list
calmer_list : (ts us : List Node) → Calmers ts us → led (Many ts) ≡ false → led (Many us) ≡ false
calmer_list ts us empty h = h
calmer_list ts us (cons {t = t} {u = u} {ts = ts'} {us = us'} c d) h = led_list u us' ∙ c.lead (sym (led_list t ts') ∙ h)

-- a tree
neither : (b c : Bool) → (b || c) ≡ false → (b ≡ false) × (c ≡ false)
neither true c h = absurd (cc)
neither false c h = (refl, h)

lead_row : (k : Kind) {ts us : List Node} → Calmers ts us → led_in (Node-F.Tree k (map lead_of ts)) ≡ false → led_in (Node-F.Tree k (map lead_of us)) ≡ false
lead_row kind.SeqExpr (cons s (cons e empty)) h = e.lead h
lead_row kind.AssignExpr (cons s (cons o (cons {t = f} {u = g} c (cons r empty)))) h =
    let q = neither (has_kind is_object_pattern (lead_of f).whole) (led f) h in
    rw (lead_whole g, c.pattern (sym (ap (has_kind is_object_pattern) (lead_whole f)) ∙ q.0), c.lead q.1) refl
lead_row kind.CondExpr (cons s (cons t (cons c (cons e empty)))) h = t.lead h
lead_row kind.BinExpr (cons s (cons o (cons f (cons r empty)))) h = f.lead h
lead_row kind.UpdateExpr (cons s (cons o (cons f (cons r empty)))) h = r.lead h
lead_row kind.MemberExpr (cons s (cons o (cons m empty))) h = o.lead h
lead_row kind.TaggedTpl (cons s (cons o (cons m empty))) h = o.lead h
lead_row kind.CallExpr (cons s (cons o (cons m empty))) h = o.lead h
lead_row kind.OptChainExpr (cons s (cons o (cons m empty))) h = m.lead h
lead_row kind.OptCall (cons s (cons o (cons m empty))) h = o.lead h
lead_row k d h = refl

mutual
  calmer : {s : Slot} {t u : Node} → Sets s t u → Calmer t u
  calmer (same t) = record { block = λ h. h; pattern = λ h. h; lead = λ h. h }
  calmer (after c d) = calmer_then (calmer c) (calmer d)
  calmer (around r t u p q d) = in_pair t (Span r) u (no_block t q)
  calmer (named r k i c) = in_pair (Identifier k i) (Span r) (Identifier kind.Ident i) (search (rules, the_lemmas))
  calmer (items ts us d) = record {
    block = λ h. (let e : has_kind is_block (Many ts) ≡ false = search (rules, the_lemmas) in absurd (cc));
    pattern = λ h. search (rules, the_lemmas);
    lead = calmer_list ts us (all_calmer d);
  }
  calmer (tree k ts us e d) = record {
    block = λ h. kind_of_tree is_block k us ∙ sym (kind_of_tree is_block k ts) ∙ h;
    pattern = λ h. kind_of_tree is_object_pattern k us ∙ sym (kind_of_tree is_object_pattern k ts) ∙ h;
    lead = λ h. led_tree k us ∙ lead_row k (fields_calmer d) (sym (led_tree k ts) ∙ h);
  }

  all_calmer : {s : Slot} {ts us : List Node} → AllSet s ts us → Calmers ts us
  all_calmer none = empty
  all_calmer (more c d) = cons (calmer c) (all_calmer d)

  fields_calmer : {ss : List Slot} {ts us : List Node} → FieldsSet ss ts us → Calmers ts us
  fields_calmer nil = empty
  fields_calmer (field c d) = cons (calmer c) (fields_calmer d)

-- arrows
body_kept : (b l c m : Bool) → (b ≡ true → c ≡ true) → (l ≡ false → m ≡ false) → (b || not l) ≡ true → (c || not m) ≡ true
body_kept true l c m f g h = ap (λ x. x || not m) (f refl)
body_kept false true c m f g h = absurd (cc)
body_kept false false c true f g h = absurd (cc (g refl))
body_kept false false true false f g h = refl
body_kept false false false false f g h = refl

calm_row : (k : Kind) {ts us : List Node} → FieldsSet (slots_of k) ts us → calm_in (Node-F.Tree k ts) ≡ true → calm_in (Node-F.Tree k us) ≡ true
calm_row kind.ArrowExpr (field a (field b (field {t = e} {u = g} c (field d nil)))) h = let q = calmer c in body_kept (has_kind is_block e) (led e) (has_kind is_block g) (led g) q.block q.lead h
calm_row k d h = refl

pub pair_calm : (s u : Node) → calm s ≡ true → calm u ≡ true → calm (Tree kind.ParenExpr (s ∷ u ∷ [])) ≡ true
pair_calm s u g h = calm_tree kind.ParenExpr (s ∷ u ∷ []) ∙ rw (g, h) refl

mutual
  pub calm_set : {s : Slot} {t u : Node} → Sets s t u → calm t ≡ true → calm u ≡ true
  calm_set (same t) h = h
  calm_set (after c d) h = calm_set d (calm_set c h)
  calm_set (around r t u p q d) h = pair_calm (Span r) u (search (rules, the_lemmas)) (calm_set d h)
  calm_set (named r k i c) h = pair_calm (Span r) (Identifier kind.Ident i) (search (rules, the_lemmas)) (search (rules, the_lemmas))
  calm_set (items ts us d) h = calm_list us ∙ all_calm_set d (sym (calm_list ts) ∙ h)
  calm_set (tree k ts us e d) h =
      let q = both (calm_in (Node-F.Tree k ts)) (list_all calm ts) (sym (calm_tree k ts) ∙ h) in
      calm_tree k us ∙ also_both (calm_in (Node-F.Tree k us)) (list_all calm us) (calm_row k d q.0) (fields_calm_set d q.1)

  all_calm_set : {s : Slot} {ts us : List Node} → AllSet s ts us → list_all calm ts ≡ true → list_all calm us ≡ true
  all_calm_set none h = refl
  all_calm_set (more {t = t} {u = u} {ts = ts} {us = us} c d) h = let q = both (calm t) (list_all calm ts) h in also_both (calm u) (list_all calm us) (calm_set c q.0) (all_calm_set d q.1)

  fields_calm_set : {ss : List Slot} {ts us : List Node} → FieldsSet ss ts us → list_all calm ts ≡ true → list_all calm us ≡ true
  fields_calm_set nil h = refl
  fields_calm_set (field {t = t} {u = u} {ts = ts} {us = us} c d) h = let q = both (calm t) (list_all calm ts) h in also_both (calm u) (list_all calm us) (calm_set c q.0) (fields_calm_set d q.1)
