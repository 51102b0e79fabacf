-- Rules of nodes of which two fields are looked at.
use Rattle.std.proofs.Common.{◌≡◌, Bool, true, false, not, List, [], ◌∷◌, get_or, length, refl, ap, ◌∙◌, arith}
use Rattle.std.specs.List.{list_all}
use Rattle.swc_tree_node.specs.declared.kind.Kind.TheVariants as kind
use Rattle.swc_tree_node.specs.declared.node.Node.{Node, out-Node}
use Rattle.swc_tree_node.specs.declared.node.Node.TheOpen.{Node-F}
use Rattle.swc_tree_grammar.specs.Levels.{word_of}
use Rattle.swc_tree_grammar.specs.Shapes.{items_of}
use Rattle.swc_tree_grammar.specs.Writable.{accessor, element, initialised_in, is_const}
use Rattle.swc_base_writable_rules.specs.declared.round.Round.{Round}
use Rattle.swc_base_writable_rules.specs.declared.ask.Ask.TheVariants as ask
use Rattle.swc_base_writable_rules.specs.declared.ask.Row.TheVariants as row
use Rattle.swc_base_writable_rules.specs.Rounds.{binding, round_of}
use Rattle.swc_base_writable_rules.specs.Rules.{declaration_rule, function_rule, member_rule, pattern_rule, rule, setter_rule}

pub not_met : (b : Bool) → not b ≡ true → b ≡ false
not_met true h = absurd (cc)
not_met false h = refl

pub met : (b : Bool) → not b ≡ false → b ≡ true
met true h = refl
met false h = absurd (cc)

pub method_rule : (q : Round) (ts : List Node) (f w : Node) (b : Bool) → length ts ≡ 5 → f ≡ get_or ts 2 f → w ≡ get_or ts 3 w → b ≡ accessor f w
    → rule b (row.Two 1 (ask.Sound (binding q)) 2 (ask.Sound q)) ≡ member_rule q (Node-F.Tree kind.ClassMethod ts)
method_rule q (x ∷ y ∷ z ∷ v ∷ u ∷ []) f w b l g h e = ap (λ b. rule b (row.Two 1 (ask.Sound (binding q)) 2 (ask.Sound q))) (e ∙ ap (λ f. accessor f w) g ∙ ap (accessor z) h)
method_rule q [] f w b l g h e = absurd (omega (arith, l))
method_rule q (x ∷ []) f w b l g h e = absurd (omega (arith, l))
method_rule q (x ∷ y ∷ []) f w b l g h e = absurd (omega (arith, l))
method_rule q (x ∷ y ∷ z ∷ []) f w b l g h e = absurd (omega (arith, l))
method_rule q (x ∷ y ∷ z ∷ v ∷ []) f w b l g h e = absurd (omega (arith, l))
method_rule q (x ∷ y ∷ z ∷ v ∷ u ∷ t ∷ ts) f w b l g h e = absurd (omega (arith, l))

pub private_rule : (q : Round) (ts : List Node) (f w : Node) (b : Bool) → length ts ≡ 5 → f ≡ get_or ts 2 f → w ≡ get_or ts 3 w → b ≡ accessor f w → rule b (row.One 2 (ask.Sound q)) ≡ member_rule q (Node-F.Tree kind.PrivateMethod ts)
private_rule q (x ∷ y ∷ z ∷ v ∷ u ∷ []) f w b l g h e = ap (λ b. rule b (row.One 2 (ask.Sound q))) (e ∙ ap (λ f. accessor f w) g ∙ ap (accessor z) h)
private_rule q [] f w b l g h e = absurd (omega (arith, l))
private_rule q (x ∷ []) f w b l g h e = absurd (omega (arith, l))
private_rule q (x ∷ y ∷ []) f w b l g h e = absurd (omega (arith, l))
private_rule q (x ∷ y ∷ z ∷ []) f w b l g h e = absurd (omega (arith, l))
private_rule q (x ∷ y ∷ z ∷ v ∷ []) f w b l g h e = absurd (omega (arith, l))
private_rule q (x ∷ y ∷ z ∷ v ∷ u ∷ t ∷ ts) f w b l g h e = absurd (omega (arith, l))

pub setter_fields : (q : Round) (ts : List Node) (p b : Node) → length ts ≡ 4 → p ≡ get_or ts 2 p → b ≡ get_or ts 3 b → setter_rule q p b ≡ function_rule q (Node-F.Tree kind.SetterProp ts)
setter_fields q (x ∷ y ∷ z ∷ v ∷ []) p b l g h = ap (λ p. setter_rule q p b) g ∙ ap (setter_rule q z) h
setter_fields q [] p b l g h = absurd (omega (arith, l))
setter_fields q (x ∷ []) p b l g h = absurd (omega (arith, l))
setter_fields q (x ∷ y ∷ []) p b l g h = absurd (omega (arith, l))
setter_fields q (x ∷ y ∷ z ∷ []) p b l g h = absurd (omega (arith, l))
setter_fields q (x ∷ y ∷ z ∷ v ∷ u ∷ ts) p b l g h = absurd (omega (arith, l))

-- each declarator has an initialiser where one must be
abbrev pub initialised : Node → Node → Bool
initialised w ds = list_all (λ d. initialised_in (is_const (word_of w)) (out-Node d)) (items_of ds)

pub variables_rule : (q : Round) (ts : List Node) (w ds : Node) (b : Bool) → length ts ≡ 3 → w ≡ get_or ts 1 w → ds ≡ get_or ts 2 ds → b ≡ initialised w ds → rule b (row.One 2 (ask.Sound q)) ≡ declaration_rule q (Node-F.Tree kind.VarDecl ts)
variables_rule q (x ∷ y ∷ z ∷ []) w ds b l g h e = ap (λ b. rule b (row.One 2 (ask.Sound q))) (e ∙ ap (λ w. initialised w ds) g ∙ ap (initialised y) h)
variables_rule q [] w ds b l g h e = absurd (omega (arith, l))
variables_rule q (x ∷ []) w ds b l g h e = absurd (omega (arith, l))
variables_rule q (x ∷ y ∷ []) w ds b l g h e = absurd (omega (arith, l))
variables_rule q (x ∷ y ∷ z ∷ v ∷ ts) w ds b l g h e = absurd (omega (arith, l))

pub property_rule : (q : Round) (ts : List Node) (v : Node) (b : Bool) → length ts ≡ 2 → v ≡ get_or ts 1 v → b ≡ element v (round_of q) → rule b (row.Two 0 (ask.Sound (binding q)) 1 (ask.Sound q)) ≡ pattern_rule q (Node-F.Tree kind.KeyValuePatProp ts)
property_rule q (x ∷ y ∷ []) v b l g e = ap (λ b. rule b (row.Two 0 (ask.Sound (binding q)) 1 (ask.Sound q))) (e ∙ ap (λ v. element v (round_of q)) g)
property_rule q [] v b l g e = absurd (omega (arith, l))
property_rule q (x ∷ []) v b l g e = absurd (omega (arith, l))
property_rule q (x ∷ y ∷ z ∷ ts) v b l g e = absurd (omega (arith, l))
