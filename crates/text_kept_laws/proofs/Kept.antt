-- What holds of a node that stands for another in one place, and of nodes whose fields do.
use Rattle.std.proofs.Common.{◌≡◌, ℕ, Bool, true, false, not, ◌&&◌, ◌||◌, List, [], ◌∷◌, map, refl, sym, ap, ◌∙◌, subst}
use Rattle.std.specs.List.{list_all, list_any}
use Rattle.swc_tree_node.specs.declared.kind.Kind.{Kind}
use Rattle.swc_tree_node.specs.declared.kind.Kind.TheVariants as kind
use Rattle.swc_tree_node.specs.declared.slot.Content.TheVariants as content
use Rattle.swc_tree_node.specs.declared.slot.Slot.{Slot}
use Rattle.swc_tree_node.specs.declared.slot.Slot.TheVariants as slot
use Rattle.swc_tree_node.specs.declared.node.Node.{Node, List as Many, Tree, out-Node}
use Rattle.swc_tree_node.specs.declared.node.Node.TheOpen.{Node-F}
use Rattle.swc_tree_node.specs.declared.node.Node.TheVariants.{outs-List, outs-Tree}
use Rattle.swc_tree_node.specs.Table.{slots_of}
use Rattle.swc_tree_node.specs.Fits.{belongs}
use Rattle.swc_tree_grammar.specs.Shapes.{items_in, items_of}
use Rattle.swc_tree_grammar.specs.Writable.{constructor_key_in}
use Rattle.swc_tree_grammar.proofs.Induction.{Each}
use Rattle.text_grammar.specs.Shaped.{is_misshapen}
use Rattle.text_checks.specs.Spelled.{has_amiss, is_amiss, is_amiss_specifier, is_bad_leaf, is_misspelled}
use Rattle.text_kept_laws.proofs.Free.{Free, free_list, free_tree, list_below, list_here, tree_below, tree_here}
use Rattle.text_kept_laws.proofs.RenamesLengths.{has_key}
use Rattle.text_kept_laws.proofs.Calm.{both_false, neither, none_passes}
use Rattle.text_kept_laws.proofs.SpellingBound.{S}
use Rattle.text_kept_laws.proofs.Made.{C, list_calm, list_spelled, tree_spelled}
use Rattle.text_kept_laws.proofs.PairsSeen.{Pairwise, Seen, key_tree, no_items, pairwise_same, seen_list, seen_never, seen_same, seen_tree}
use Rattle.text_kept_laws.proofs.PairsRows.{Held, Keys, Lists, amiss_row, leaves_row, news, olds, shape_row}
use Rattle.text_kept_laws.proofs.SetSpelled.{N, Ns, trees_calm}

-- a place that takes a pair or a sequence
abbrev pub takes : Slot → Bool
takes (slot.One (content.Node c)) = belongs kind.ParenExpr c || belongs kind.SeqExpr c
takes (slot.Optional (content.Node c)) = belongs kind.ParenExpr c || belongs kind.SeqExpr c
takes _ = false

-- where a key is looked at no field does
bare_kind : (k : Kind) → has_key k ≡ true → list_all (λ s. not (takes s)) (slots_of k) ≡ true
bare_kind kind.ClassMethod h = refl
bare_kind k h = seen_never (sym h)

abbrev pub F : Node → Type 0
F t = Free is_misshapen t

pub record Kept (s : Slot) (t u : Node) : Type 0 where
  pub seen : Seen t u
  pub listed : Pairwise (items_of t) (items_of u)
  pub key : takes s ≡ false → constructor_key_in (out-Node u) ≡ constructor_key_in (out-Node t)
  pub calm : S t → C t → C u
  pub specifier : S t → N t → N u
  pub specifiers : S t → Ns (items_of t) → Ns (items_of u)
  pub shaped : F t → F u
  pub spelled : S t → S u

pub kept_same : (s : Slot) (t : Node) → Kept s t t
kept_same s t = record { seen = seen_same t; listed = pairwise_same (items_of t); key = λ h. refl; calm = λ f h. h; specifier = λ f h. h; specifiers = λ f h. h; shaped = λ f. f; spelled = λ f. f }

-- ---- fields, each in its place

abbrev pub AllKept : List Slot → List Node → List Node → Type 0
AllKept [] [] [] = Unit {0}
AllKept (s ∷ ss) (t ∷ ts) (u ∷ us) = Kept s t u × AllKept ss ts us
AllKept _ _ _ = ⊥

-- the same of lists: each in one place
abbrev pub ItemsKept : Slot → List Node → List Node → Type 0
ItemsKept s [] [] = Unit {0}
ItemsKept s (t ∷ ts) (u ∷ us) = Kept s t u × ItemsKept s ts us
ItemsKept s _ _ = ⊥

-- as many places as there are nodes
abbrev places : Slot → List Node → List Slot
places s ts = map (λ t. s) ts

as_fields : (s : Slot) (ts us : List Node) → ItemsKept s ts us → AllKept (places s ts) ts us
as_fields s [] [] l = tt
as_fields s (t ∷ ts) (u ∷ us) l = (l.0, as_fields s ts us l.1)
as_fields s [] (u ∷ us) l = absurd l
as_fields s (t ∷ ts) [] l = absurd l

pairwise : (ss : List Slot) (ts us : List Node) → AllKept ss ts us → Pairwise ts us
pairwise [] [] [] l = tt
pairwise (s ∷ ss) (t ∷ ts) (u ∷ us) l = (l.0.seen, pairwise ss ts us l.1)
pairwise [] [] (u ∷ us) l = absurd l
pairwise [] (t ∷ ts) us l = absurd l
pairwise (s ∷ ss) [] us l = absurd l
pairwise (s ∷ ss) (t ∷ ts) [] l = absurd l

lists : (ss : List Slot) (ts us : List Node) → AllKept ss ts us → Lists ts us
lists [] [] [] l = tt
lists (s ∷ ss) (t ∷ ts) (u ∷ us) l = (l.0.listed, lists ss ts us l.1)
lists [] [] (u ∷ us) l = absurd l
lists [] (t ∷ ts) us l = absurd l
lists (s ∷ ss) [] us l = absurd l
lists (s ∷ ss) (t ∷ ts) [] l = absurd l

not_right : (b : Bool) → not b ≡ true → b ≡ false
not_right true h = seen_never (sym h)
not_right false h = refl

both_of : (a b : Bool) → (a && b) ≡ true → (a ≡ true) × (b ≡ true)
both_of true b h = (refl, h)
both_of false b h = seen_never (sym h)

keys : (ss : List Slot) (ts us : List Node) → list_all (λ s. not (takes s)) ss ≡ true → AllKept ss ts us → Keys ts us
keys [] [] [] h l = tt
keys (s ∷ ss) (t ∷ ts) (u ∷ us) h l = let b = both_of (not (takes s)) (list_all (λ s. not (takes s)) ss) h in (l.0.key (not_right (takes s) b.0), keys ss ts us b.1 l.1)
keys [] [] (u ∷ us) h l = absurd l
keys [] (t ∷ ts) us h l = absurd l
keys (s ∷ ss) [] us h l = absurd l
keys (s ∷ ss) (t ∷ ts) [] h l = absurd l

pub all_shaped : (ss : List Slot) (ts us : List Node) → AllKept ss ts us → Each F ts → Each F us
all_shaped [] [] [] l f = tt
all_shaped (s ∷ ss) (t ∷ ts) (u ∷ us) l f = (l.0.shaped f.0, all_shaped ss ts us l.1 f.1)
all_shaped [] [] (u ∷ us) l f = absurd l
all_shaped [] (t ∷ ts) us l f = absurd l
all_shaped (s ∷ ss) [] us l f = absurd l
all_shaped (s ∷ ss) (t ∷ ts) [] l f = absurd l

pub all_spelled : (ss : List Slot) (ts us : List Node) → AllKept ss ts us → Each S ts → Each S us
all_spelled [] [] [] l f = tt
all_spelled (s ∷ ss) (t ∷ ts) (u ∷ us) l f = (l.0.spelled f.0, all_spelled ss ts us l.1 f.1)
all_spelled [] [] (u ∷ us) l f = absurd l
all_spelled [] (t ∷ ts) us l f = absurd l
all_spelled (s ∷ ss) [] us l f = absurd l
all_spelled (s ∷ ss) (t ∷ ts) [] l f = absurd l

pub all_calm : (ss : List Slot) (ts us : List Node) → AllKept ss ts us → Each S ts → Each C ts → Each C us
all_calm [] [] [] l f c = tt
all_calm (s ∷ ss) (t ∷ ts) (u ∷ us) l f c = (l.0.calm f.0 c.0, all_calm ss ts us l.1 f.1 c.1)
all_calm [] [] (u ∷ us) l f c = absurd l
all_calm [] (t ∷ ts) us l f c = absurd l
all_calm (s ∷ ss) [] us l f c = absurd l
all_calm (s ∷ ss) (t ∷ ts) [] l f c = absurd l

all_specifiers : (ss : List Slot) (ts us : List Node) → AllKept ss ts us → Each S ts → Ns ts → Ns us
all_specifiers [] [] [] l f h = refl
all_specifiers (s ∷ ss) (t ∷ ts) (u ∷ us) l f h =
    let n = neither (is_amiss_specifier (out-Node t)) (list_any (λ t. is_amiss_specifier (out-Node t)) ts) h in
    both_false (is_amiss_specifier (out-Node u)) (list_any (λ t. is_amiss_specifier (out-Node t)) us) (l.0.specifier f.0 n.0) (all_specifiers ss ts us l.1 f.1 n.1)
all_specifiers [] [] (u ∷ us) l f h = absurd l
all_specifiers [] (t ∷ ts) us l f h = absurd l
all_specifiers (s ∷ ss) [] us l f h = absurd l
all_specifiers (s ∷ ss) (t ∷ ts) [] l f h = absurd l

record Helds (ts us : List Node) : Type 0 where
  all : List Held
  were : olds all ≡ ts
  are : news all ≡ us

helds : (ss : List Slot) (ts us : List Node) → AllKept ss ts us → Each S ts → Helds ts us
helds [] [] [] l f = record { all = []; were = refl; are = refl }
helds (s ∷ ss) (t ∷ ts) (u ∷ us) l f =
    let hs = helds ss ts us l.1 f.1 in
    record {
      all = record { old = t; new = u; absent = l.0.seen.leaf.absent; calm = l.0.calm f.0; listed = l.0.specifiers f.0 } ∷ hs.all;
      were = ap (λ l. t ∷ l) hs.were;
      are = ap (λ l. u ∷ l) hs.are;
    }
helds [] [] (u ∷ us) l f = absurd l
helds [] (t ∷ ts) us l f = absurd l
helds (s ∷ ss) [] us l f = absurd l
helds (s ∷ ss) (t ∷ ts) [] l f = absurd l

-- ---- lists

list_items : (ts : List Node) → items_of (Many ts) ≡ ts
list_items ts = ap items_in (outs-List ts)

pub list_kept : (s : Slot) (i : Slot) (ts us : List Node) → ItemsKept i ts us → Kept s (Many ts) (Many us)
list_kept s i ts us items = record {
  seen = seen_list ts us;
  listed = subst (λ l. Pairwise l (items_of (Many us))) (sym (list_items ts)) (subst (Pairwise ts) (sym (list_items us)) (pairwise ss ts us l));
  key = λ h. ap constructor_key_in (outs-List us) ∙ sym (ap constructor_key_in (outs-List ts));
  calm = λ f h. list_calm us;
  specifier = λ f h. ap is_amiss_specifier (outs-List us);
  specifiers = λ f h. subst Ns (sym (list_items us)) (all_specifiers ss ts us l (list_below is_misspelled ts f) (subst Ns (list_items ts) h));
  shaped = λ f. free_list is_misshapen us refl (all_shaped ss ts us l (list_below is_misshapen ts f));
  spelled = λ f. list_spelled us (all_calm ss ts us l (list_below is_misspelled ts f) (none_passes is_amiss ts (neither false _ (list_here is_misspelled ts f)).1)) (all_spelled ss ts us l (list_below is_misspelled ts f));
}
  where
    ss : List Slot
    ss = places i ts

    l : AllKept (places i ts) ts us
    l = as_fields i ts us items

-- ---- trees of one kind

pub trees_listed : (k : Kind) (ts us : List Node) → Pairwise (items_of (Tree k ts)) (items_of (Tree k us))
trees_listed k ts us = no_items (Tree k ts) (Tree k us) (ap items_in (outs-Tree k ts)) (ap items_in (outs-Tree k us))

pub trees_specifiers : (k : Kind) (us : List Node) → Ns (items_of (Tree k us))
trees_specifiers k us = ap (λ y. list_any (λ t. is_amiss_specifier (out-Node t)) (items_in y)) (outs-Tree k us)

specifier_row : (k : Kind) (ss : List Slot) (ts us : List Node) → AllKept ss ts us → Each S ts → is_amiss_specifier (Node-F.Tree k ts) ≡ false → is_amiss_specifier (Node-F.Tree k us) ≡ false
specifier_row kind.ExportNamedSpecifier (r ∷ s ∷ q ∷ []) (a ∷ b ∷ c ∷ []) (x ∷ y ∷ z ∷ []) l f h = l.1.0.calm f.1.0 h
specifier_row kind.ExportNamedSpecifier ss ts [] l f h = refl
specifier_row kind.ExportNamedSpecifier ss ts (x ∷ []) l f h = refl
specifier_row kind.ExportNamedSpecifier ss ts (x ∷ y ∷ []) l f h = refl
specifier_row kind.ExportNamedSpecifier ss ts (x ∷ y ∷ z ∷ w ∷ us) l f h = refl
specifier_row kind.ExportNamedSpecifier [] [] (x ∷ y ∷ z ∷ []) l f h = absurd l
specifier_row kind.ExportNamedSpecifier [] (a ∷ ts) (x ∷ y ∷ z ∷ []) l f h = absurd l
specifier_row kind.ExportNamedSpecifier (r ∷ ss) [] (x ∷ y ∷ z ∷ []) l f h = absurd l
specifier_row kind.ExportNamedSpecifier (r ∷ []) (a ∷ []) (x ∷ y ∷ z ∷ []) l f h = absurd l.1
specifier_row kind.ExportNamedSpecifier (r ∷ []) (a ∷ b ∷ ts) (x ∷ y ∷ z ∷ []) l f h = absurd l.1
specifier_row kind.ExportNamedSpecifier (r ∷ s ∷ ss) (a ∷ []) (x ∷ y ∷ z ∷ []) l f h = absurd l.1
specifier_row kind.ExportNamedSpecifier (r ∷ s ∷ []) (a ∷ b ∷ []) (x ∷ y ∷ z ∷ []) l f h = absurd l.1.1
specifier_row kind.ExportNamedSpecifier (r ∷ s ∷ []) (a ∷ b ∷ c ∷ ts) (x ∷ y ∷ z ∷ []) l f h = absurd l.1.1
specifier_row kind.ExportNamedSpecifier (r ∷ s ∷ q ∷ ss) (a ∷ b ∷ []) (x ∷ y ∷ z ∷ []) l f h = absurd l.1.1
specifier_row kind.ExportNamedSpecifier (r ∷ s ∷ q ∷ []) (a ∷ b ∷ c ∷ d ∷ ts) (x ∷ y ∷ z ∷ []) l f h = absurd l.1.1.1
specifier_row kind.ExportNamedSpecifier (r ∷ s ∷ q ∷ p ∷ ss) (a ∷ b ∷ c ∷ []) (x ∷ y ∷ z ∷ []) l f h = absurd l.1.1.1
specifier_row kind.ExportNamedSpecifier (r ∷ s ∷ q ∷ p ∷ ss) (a ∷ b ∷ c ∷ d ∷ ts) (x ∷ y ∷ z ∷ []) l f h = absurd l.1.1.1
specifier_row k ss ts us l f h = refl

pub tree_kept : (s : Slot) (k : Kind) (ts us : List Node) → AllKept (slots_of k) ts us → Kept s (Tree k ts) (Tree k us)
tree_kept s k ts us l = record {
  seen = seen_tree ts us (pairwise ss ts us l) k;
  listed = trees_listed k ts us;
  key = λ h. key_tree ts us (pairwise ss ts us l) k;
  calm = λ f h. trees_calm k ts us (lists ss ts us l) h;
  specifier = λ f h. ap is_amiss_specifier (outs-Tree k us) ∙ specifier_row k ss ts us l (tree_below is_misspelled k ts f) (sym (ap is_amiss_specifier (outs-Tree k ts)) ∙ h);
  specifiers = λ f h. trees_specifiers k us;
  shaped = λ f. free_tree is_misshapen k us (shape_row k ts us (pairwise ss ts us l) (λ h. lists ss ts us l) (λ h. keys ss ts us (bare_kind k h) l) ∙ tree_here is_misshapen k ts f) (all_shaped ss ts us l (tree_below is_misshapen k ts f));
  spelled = λ f. (
      let below : Each S ts = tree_below is_misspelled k ts f in
      let asked = neither (is_bad_leaf (Node-F.Tree k ts)) (has_amiss (Node-F.Tree k ts)) (tree_here is_misspelled k ts f) in
      let hs = helds ss ts us l below in
      let calm : has_amiss (Node-F.Tree k us) ≡ false = ap (λ l. has_amiss (Node-F.Tree k l)) (sym hs.are) ∙ amiss_row k hs.all (ap (λ l. has_amiss (Node-F.Tree k l)) hs.were ∙ asked.1) in
      tree_spelled k us (leaves_row k ts us (pairwise ss ts us l) ∙ asked.0) calm (all_spelled ss ts us l below)
      );
}
  where
    ss : List Slot
    ss = slots_of k
