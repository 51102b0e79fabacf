-- Each pair of the first step has a reason: every node.
use Rattle.std.proofs.Common.{◌≡◌, Bool, true, false, ◌&&◌, ◌||◌, List, [], ◌∷◌, map, refl, ap, subst, ◌∙◌, rules}
use Rattle.std.specs.Prelude.{if◌then◌else◌}
use Rattle.std.specs.List.{list_all}
use Rattle.swc_tree_node.specs.declared.node.Node.{Node, out-Node}
use Rattle.swc_tree_grammar.specs.Shapes.{items_of}
use Rattle.swc_tree_grammar.specs.Demands.{Demand, meets, at_least, is_bare_new}
use Rattle.swc_tree_grammar.specs.Demands.Demand.{Any, AtLeast, Each as EachOf, Key, Body, Operand, Link, NewCallee, OrSide, NullishSide}
use Rattle.swc_tree_grammar.specs.Due.{Places, call_paired, pair as in_pair, key_in, settled, each_settled, sequence_statement, alone}
use Rattle.swc_tree_grammar.specs.Readers.{none as unnamed}
use Rattle.swc_tree_grammar.proofs.Induction.{Each}
use Rattle.swc_tree_grammar_laws.proofs.Levelled.{half}
use Rattle.swc_tree_grammar_laws.proofs.Levels.{pairing}
use Rattle.swc_tree_grammar_laws.proofs.Settled.{is_met_by_pairs}
use Rattle.swc_base_fixer_laws.proofs.SetsLevels.{unmet as unmet_pairs}
use Rattle.swc_base_fixer_needs.specs.Sites.{Site, Spot, clue, is_base, is_spine}
use Rattle.swc_base_fixer_needs.specs.Sites.Spot.{Hidden, At}
use Rattle.swc_base_fixer_needs.specs.Reasons.{Label, Reason, is_of_level, Due, AllDue, blank, field_labels}
use Rattle.swc_base_fixer_needs.specs.Reasons.Label.{Names, OfStatement}
use Rattle.swc_base_fixer_needs.specs.Reasons.Reason.{for_reader, unmet}
use Rattle.swc_base_fixer_needs.specs.Reasons.Extent.{ByLevel}
use Rattle.swc_base_fixer_needs.specs.Reasons.Due.{unseen}
use Rattle.swc_base_fixer_needs.specs.Reasons.AllDue.{none, more}
use Rattle.swc_base_fixer_needs.proofs.Levels.{Everywhere, AllEverywhere, Matches, one, put, paired_blank, list_level}
use Rattle.swc_base_fixer_needs.proofs.LevelFields.{Ok, AllOk, AllBlank}

-- reasons to pair a node wherever it stands in a spine
abbrev pub Anyway : Site → Node → Type 0
Anyway a t = (l : Label) → (r : Reason l a t) × (is_of_level r ≡ true)

-- what the first step makes of a node, where it stands and in each of the ways that its place may see to it
pub record Leveled (p : Places) (t : Node) : Type 0 where
  pub stands : (f : Node → Bool) (a : Site) → Due ByLevel (Names f) (At a) (pairing p t (is_base a.mode))
  pub as_key : (f : Node → Bool) (a : Site) → is_base a.mode ≡ false → a.demand ≡ Key → Due ByLevel (Names f) (At a) (key_in p (pairing p t false) (out-Node (pairing p t false)))
  pub as_callee : (f : Node → Bool) (a : Site) → is_base a.mode ≡ false → is_spine a ≡ true → at_least 18 (pairing p t false) ≡ false → Anyway a (pairing p t false) → Due ByLevel (Names f) (At a) (call_paired p (pairing p t false))
  pub as_items : AllEverywhere (items_of (pairing p t false))
  pub as_statement : (a : Site) → is_base a.mode ≡ false → Due ByLevel OfStatement (At a) (sequence_statement p (pairing p t false) (out-Node (pairing p t false)))

pub everywhere : (p : Places) (t : Node) → Leveled p t → Everywhere (pairing p t false)
everywhere p t q f a b = subst (λ x. Due ByLevel (Names f) (At a) (pairing p t x)) b (q.stands f a)

-- one place
low : (b x : Bool) → (b || x) ≡ false → b ≡ false
low true x h = absurd (cc)
low false x h = refl

unmet_callee : (p : Places) (b : Bool) (n : Node → Bool) (a : Site) (t : Node) → Leveled p t → is_base a.mode ≡ false → a.demand ≡ NewCallee b → (y : Bool) → meets (NewCallee b) (pairing p t false) ≡ y
    → Due ByLevel (Names n) (At a) (if y then pairing p t false else call_paired p (pairing p t false))
unmet_callee p b n a t q s e true m = everywhere p t q n a s
unmet_callee p b n a t q s e false m =
    let u : Node = pairing p t false in
    q.as_callee n a s (rw e (search rules)) (low (at_least 18 u) (b && is_bare_new u) m) (λ l. (unmet (ap (λ d. meets d u) e ∙ m), refl))

callee_if : (p : Places) (b : Bool) (n : Node → Bool) (a : Site) (t : Node) → Leveled p t → is_base a.mode ≡ false → a.demand ≡ NewCallee b → (x : Bool) → n (pairing p t false) ≡ x → (n (pairing p t false) ≡ true → clue (pairing p t false) ≡ blank)
    → Due ByLevel (Names n) (At a) (if x then in_pair p (pairing p t false) else (if meets (NewCallee b) (pairing p t false) then pairing p t false else call_paired p (pairing p t false)))
callee_if p b n a t q s e true h f = put (Names n) a p (pairing p t false) (f h) (for_reader h) refl (everywhere p t q)
callee_if p b n a t q s e false h f = unmet_callee p b n a t q s e (meets (NewCallee b) (pairing p t false)) refl

settle : (d : Demand) (p : Places) (n : Node → Bool) (a : Site) (t : Node) → Leveled p t → is_met_by_pairs d ≡ true → is_base a.mode ≡ false → Matches d a.demand → (n (pairing p t false) ≡ true → clue (pairing p t false) ≡ blank)
    → Due ByLevel (Names n) (At a) (settled p d n (pairing p t false))
settle Key p n a t q w s m f = q.as_key n a s m
settle (EachOf k) p n a t q w s m f = list_level k p n a (items_of (pairing p t false)) w m q.as_items
settle (NewCallee b) p n a t q w s m f = callee_if p b n a t q s m (n (pairing p t false)) refl f
settle Any p n a t q w s m f = let u : Node = pairing p t false in one (n u) true Any p n a u refl refl f (λ h. absurd (cc)) m s (everywhere p t q)
settle (AtLeast k) p n a t q w s m f = let u : Node = pairing p t false in one (n u) (meets (AtLeast k) u) (AtLeast k) p n a u refl refl f (λ h. paired_blank u (unmet_pairs (AtLeast k) u w h)) m s (everywhere p t q)
settle Body p n a t q w s m f = let u : Node = pairing p t false in one (n u) (meets Body u) Body p n a u refl refl f (λ h. paired_blank u (unmet_pairs Body u w h)) m s (everywhere p t q)
settle Operand p n a t q w s m f = let u : Node = pairing p t false in one (n u) (meets Operand u) Operand p n a u refl refl f (λ h. paired_blank u (unmet_pairs Operand u w h)) m s (everywhere p t q)
settle Link p n a t q w s m f = let u : Node = pairing p t false in one (n u) (meets Link u) Link p n a u refl refl f (λ h. paired_blank u (unmet_pairs Link u w h)) m s (everywhere p t q)
settle OrSide p n a t q w s m f = let u : Node = pairing p t false in one (n u) (meets OrSide u) OrSide p n a u refl refl f (λ h. paired_blank u (unmet_pairs OrSide u w h)) m s (everywhere p t q)
settle NullishSide p n a t q w s m f = let u : Node = pairing p t false in one (n u) (meets NullishSide u) NullishSide p n a u refl refl f (λ h. paired_blank u (unmet_pairs NullishSide u w h)) m s (everywhere p t q)

-- all fields
settle_spot : (d : Demand) (p : Places) (n : Node → Bool) (s : Spot) (t : Node) → Leveled p t → is_met_by_pairs d ≡ true → Ok d s → (n (pairing p t false) ≡ true → clue (pairing p t false) ≡ blank)
    → Due ByLevel (Names n) s (settled p d n (pairing p t false))
settle_spot d p n Hidden t q w k f = unseen (settled p d n (pairing p t false)) (λ z. absurd (cc))
settle_spot d p n (At a) t q w k f = settle d p n a t q w k.0 k.1 f

plain_spot : (p : Places) (n : Node → Bool) (s : Spot) (t : Node) → Leveled p t → Ok Any s → Due ByLevel (Names n) s (pairing p t false)
plain_spot p n Hidden t q k = unseen (pairing p t false) (λ z. absurd (cc))
plain_spot p n (At a) t q k = everywhere p t q n a k.0

abbrev pub made : Places → List Node → List Node
made p ts = map alone (map (pairing p) ts)

pub settle_all : (p : Places) (ds : List Demand) (ns : List (Node → Bool)) (ss : List Spot) (ts : List Node) → Each (Leveled p) ts → list_all is_met_by_pairs ds ≡ true → AllOk ds ss (made p ts) → AllBlank ns (made p ts)
    → AllDue ByLevel (field_labels ns (each_settled p ds ns (made p ts))) ss (each_settled p ds ns (made p ts))
settle_all p [] ns [] [] q w k f = none
settle_all p (d ∷ ds) [] [] [] q w k f = none
settle_all p (d ∷ ds) (n ∷ ns) [] [] q w k f = none
settle_all p [] ns (s ∷ ss) [] q w k f = absurd k
settle_all p (d ∷ ds) ns (s ∷ ss) [] q w k f = absurd k
settle_all p [] ns [] (t ∷ ts) q w k f = absurd k
settle_all p (d ∷ ds) ns [] (t ∷ ts) q w k f = absurd k
settle_all p [] [] (s ∷ ss) (t ∷ ts) q w k f = more (plain_spot p unnamed s t q.0 k.0) (settle_all p [] [] ss ts q.1 w k.1 tt)
settle_all p [] (n ∷ ns) (s ∷ ss) (t ∷ ts) q w k f = more (plain_spot p n s t q.0 k.0) (settle_all p [] ns ss ts q.1 w k.1 f.1)
settle_all p (d ∷ ds) [] (s ∷ ss) (t ∷ ts) q w k f = let v = half w in more (settle_spot d p unnamed s t q.0 v.0 k.0 (λ h. absurd (cc))) (settle_all p ds [] ss ts q.1 v.1 k.1 tt)
settle_all p (d ∷ ds) (n ∷ ns) (s ∷ ss) (t ∷ ts) q w k f = let v = half w in more (settle_spot d p n s t q.0 v.0 k.0 f.0) (settle_all p ds ns ss ts q.1 v.1 k.1 f.1)
