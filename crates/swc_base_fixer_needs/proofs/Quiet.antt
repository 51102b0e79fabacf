-- In quiet places no pair stands, whatever fits there.
use Rattle.std.proofs.Common.{◌≡◌, Bool, true, List, [], ◌∷◌, map, refl, ◌∙◌, rules, sym, true≢false}
use Rattle.std.specs.List.{list_all}
use Rattle.swc_tree_node.specs.declared.kind.Kind.{Kind}
use Rattle.swc_tree_node.specs.declared.kind.Kind.TheVariants as kind
use Rattle.swc_tree_node.specs.declared.slot.Slot.{Slot}
use Rattle.swc_tree_node.specs.declared.node.Node.{Node, List as Many, Tree, the_lemmas}
use Rattle.swc_tree_node.specs.declared.node.Node.TheOpen.{Node-F}
use Rattle.swc_tree_node.specs.Fits.{Fits, FieldsFit}
use Rattle.swc_tree_grammar.specs.Stripped.{is_pairless, pairless_step}
use Rattle.swc_tree_grammar.proofs.Induction.{Each}
use Rattle.swc_tree_grammar_laws.proofs.Levelled.{also}
use Rattle.swc_base_fixer_laws.proofs.Quiet.{is_quiet, is_quiet_kind, quiet, quiet_fields}

no_pair : (k : Kind) (bs : List Bool) → is_quiet_kind k ≡ true → pairless_step (Node-F.Tree k bs) ≡ list_all (λ b. b) bs
no_pair kind.ParenExpr bs q = absurd (true≢false (sym q))
no_pair k bs q = refl

abbrev Pairless : Node → Type 0
Pairless t = is_pairless t ≡ true

all_pairless : (ts : List Node) → Each Pairless ts → list_all (λ b. b) (map is_pairless ts) ≡ true
all_pairless [] l = refl
all_pairless (t ∷ ts) l = also l.0 (all_pairless ts l.1)

pub quiet_fits : (t : Node) (s : Slot) → is_quiet s ≡ true → Fits t s → is_pairless t ≡ true
quiet_fits t = quiet Pairless
    (search (rules, the_lemmas), λ x. search (rules, the_lemmas), λ w. search (rules, the_lemmas), λ x. search (rules, the_lemmas), λ r. search (rules, the_lemmas), λ k i. search (rules, the_lemmas))
    (λ ts l. (let e : is_pairless (Many ts) ≡ list_all (λ b. b) (map is_pairless ts) = search (rules, the_lemmas) in e ∙ all_pairless ts l))
    (λ k ts q l. (let e : is_pairless (Tree k ts) ≡ pairless_step (Node-F.Tree k (map is_pairless ts)) = search (rules, the_lemmas) in e ∙ no_pair k (map is_pairless ts) q ∙ all_pairless ts l)) t

pub quiet_parts : (ss : List Slot) (ts : List Node) → list_all is_quiet ss ≡ true → FieldsFit ss ts → list_all (λ b. b) (map is_pairless ts) ≡ true
quiet_parts ss ts q f = all_pairless ts (quiet_fields Pairless quiet_fits ss ts q f)
