-- What fits the table is plain once its branches have their blocks.
use Rattle.std.proofs.Common.{◌≡◌, Bool, true, false, not, ◌&&◌, ◌||◌, IsTrue, List, [], ◌∷◌, map, refl, sym, ◌∙◌, rules}
use Rattle.std.specs.Prelude.{Option, Some, if◌then◌else◌}
use Rattle.std.specs.List.{list_all}
use Rattle.swc_tree_node.specs.declared.kind.Kind.{Kind}
use Rattle.swc_tree_node.specs.declared.kind.Kind.TheVariants as kind
use Rattle.swc_tree_node.specs.declared.kind.Class.TheVariants as class
use Rattle.swc_tree_node.specs.declared.slot.Content.{Content}
use Rattle.swc_tree_node.specs.declared.slot.Content.TheVariants as content
use Rattle.swc_tree_node.specs.declared.slot.Slot.{Slot}
use Rattle.swc_tree_node.specs.declared.slot.Slot.TheVariants as slot
use Rattle.swc_tree_node.specs.declared.node.Node.{Node, List as Many, Tree, the_lemmas}
use Rattle.swc_tree_node.specs.declared.node.Node.TheVariants.{rolls-Tree}
use Rattle.swc_tree_node.specs.declared.node.Node.TheOpen.{Node-F}
use Rattle.swc_tree_node.specs.Table.{slots_of, is_identifier}
use Rattle.swc_tree_node.specs.Fits.{fits, Fits, belongs, single, tree_fits, each_fits, list_fits, FieldsFit, AllFit}
use Rattle.swc_tree_node.proofs.Fit.{fits-Absent, fits-Flag, fits-Word, fits-Text, fits-Span, fits-List, fits-Identifier, fits-Tree, fields_open, all_open, tree_opens}
use Rattle.swc_tree_grammar.specs.Levels.{is_absent}
use Rattle.swc_tree_grammar.specs.Blocks.{with_blocks, block_step, branch, block, takes_else}
use Rattle.swc_tree_grammar.proofs.Induction.{Each, by_children}
use Rattle.swc_tree_grammar.proofs.Walks.{blocks_of_tree, blocks_of_list}
use Rattle.swc_tree_grammar.proofs.BlocksKept.{blocks_fit}
use Rattle.swc_tree_grammar_laws.specs.Plain.{is_link, is_link_in, keeps_else_in, keeps_elses, plain_in, plain}
use Rattle.swc_tree_grammar_laws.proofs.Levelled.{both, also_both}
use Rattle.swc_tree_grammar_laws.proofs.Begins.{or_right}
use Rattle.swc_tree_grammar_laws.proofs.Every.{every_tree, every_list}

-- what stands below what fits, fits somewhere
abbrev pub Somewhere : Node → Type 0
Somewhere t = (s : Slot) × Fits t s

pub fields_fit : (ss : List Slot) (ts : List Node) → FieldsFit ss ts → Each Somewhere ts
fields_fit [] [] f = tt
fields_fit [] (t ∷ ts) f = absurd f
fields_fit (s ∷ ss) [] f = absurd f
fields_fit (s ∷ ss) (t ∷ ts) f = ((s, f.0), fields_fit ss ts f.1)

all_fit : (s : Slot) (ts : List Node) → AllFit s ts → Each Somewhere ts
all_fit s [] f = tt
all_fit s (t ∷ ts) f = ((s, f.0), all_fit s ts f.1)

pub items_fit : (s : Slot) (ts : List Node) → IsTrue (list_fits (map fits ts) s) → Each Somewhere ts
items_fit (slot.List c) ts f = all_fit (slot.One c) ts (all_open (slot.One c) ts f)
items_fit (slot.OptionalList c) ts f = all_fit (slot.One c) ts (all_open (slot.One c) ts f)
items_fit (slot.Holes c) ts f = all_fit (slot.Optional c) ts (all_open (slot.Optional c) ts f)
items_fit slot.Pairs ts f = all_fit slot.Pair ts (all_open slot.Pair ts f)
items_fit slot.Pair ts f = let texts : List Slot = slot.One content.Text ∷ slot.One content.Text ∷ [] in fields_fit texts ts (fields_open texts ts f)
items_fit (slot.One c) ts f = absurd (cc)
items_fit (slot.Optional c) ts f = absurd (cc)

pub fields_at : (k : Kind) (ts : List Node) (o : Option Content) → IsTrue (tree_fits k (map fits ts) o) → FieldsFit (slots_of k) ts
fields_at k ts (Some (content.Node c)) h =
    fields_open (slots_of k) ts (both (belongs k c) (each_fits (slots_of k) (map fits ts)) (both (not (is_identifier k)) (belongs k c && each_fits (slots_of k) (map fits ts)) h).1).1
fields_at k ts o h = absurd (cc)

-- chains
pub of_three : (P : List Node → Type 0) (x y z : Slot) → ((a b c : Node) → Fits c z → P (a ∷ b ∷ c ∷ [])) → (ts : List Node) → FieldsFit (x ∷ y ∷ z ∷ []) ts → P ts
of_three P x y z p [] f = absurd f
of_three P x y z p (a ∷ []) f = absurd f.1
of_three P x y z p (a ∷ b ∷ []) f = absurd f.1.1
of_three P x y z p (a ∷ b ∷ c ∷ []) f = p a b c f.1.1.0
of_three P x y z p (a ∷ b ∷ c ∷ d ∷ ts) f = absurd f.1.1.1

link_kind : (k : Kind) (ts : List Node) → IsTrue (belongs k class.OptChainBase) → FieldsFit (slots_of k) ts → is_link_in (Node-F.Tree k ts) ≡ true
link_kind kind.MemberExpr ts b f =
    of_three (λ ts. is_link_in (Node-F.Tree kind.MemberExpr ts) ≡ true) (slot.One content.Span) (slot.One (content.Node class.Expr)) (slot.One (content.Node class.MemberProp)) (λ x y z h. refl) ts f
link_kind kind.OptCall ts b f =
    of_three (λ ts. is_link_in (Node-F.Tree kind.OptCall ts) ≡ true) (slot.One content.Span) (slot.One (content.Node class.Expr)) (slot.List (content.Node class.ExprOrSpread)) (λ x y z h. refl) ts f
link_kind k ts b f = absurd (cc)

no_identifier : (k : Kind) → (is_identifier k && belongs k class.OptChainBase) ≡ false
no_identifier kind.Ident = refl
no_identifier k = refl

abbrev a_base : Slot
a_base = slot.One (content.Node class.OptChainBase)

pub no : false ≡ true → ⊥
no h = cc

pub base_is : (t : Node) → Fits t a_base → is_link t ≡ true
base_is t = by_children (λ t. Fits t a_base → is_link t ≡ true)
    (λ h. absurd (no (sym (fits-Absent a_base) ∙ h)), λ x h. absurd (no (sym (fits-Flag x a_base) ∙ h)), λ w h. absurd (no (sym (fits-Word w a_base) ∙ h)), λ x h. absurd (no (sym (fits-Text x a_base) ∙ h)), λ x h. absurd (no (sym (fits-Span x a_base) ∙ h)), λ k i h. absurd (no (sym (no_identifier k) ∙ sym (fits-Identifier k i a_base) ∙ h)))
    (λ ts l h. absurd (no (sym (fits-List ts a_base) ∙ h)))
    (λ k ts l h. (let f = tree_opens k ts class.OptChainBase h in let e : is_link (Tree k ts) ≡ is_link_in (Node-F.Tree k ts) = search (rules, the_lemmas) in e ∙ link_kind k ts f.1 f.2)) t

plain_kind : (k : Kind) (ts : List Node) → FieldsFit (slots_of k) ts → keeps_else_in (Node-F.Tree k ts) ≡ true → plain_in (Node-F.Tree k ts) ≡ true
plain_kind kind.OptChainExpr ts f h =
    of_three (λ ts. plain_in (Node-F.Tree kind.OptChainExpr ts) ≡ true) (slot.One content.Span) (slot.One content.Flag) a_base (λ x y z b. base_is z b) ts f
plain_kind k ts f h = h

-- what fits, and in which each `if` keeps its `else`
abbrev IsPlain : Node → Type 0
IsPlain t = (s : Slot) → Fits t s → keeps_elses t ≡ true → plain t ≡ true

all_plain : (ts : List Node) → Each IsPlain ts → Each Somewhere ts → list_all keeps_elses ts ≡ true → list_all plain ts ≡ true
all_plain [] l f h = refl
all_plain (t ∷ ts) l f h = let q = both (keeps_elses t) (list_all keeps_elses ts) h in also_both (plain t) (list_all plain ts) (l.0 f.0.0 f.0.1 q.0) (all_plain ts l.1 f.1 q.1)

plain_tree : (k : Kind) (ts : List Node) → Each IsPlain ts → IsPlain (Tree k ts)
plain_tree k ts l s f h =
    let q = both (keeps_else_in (Node-F.Tree k ts)) (list_all keeps_elses ts) (sym (every_tree keeps_else_in k ts) ∙ h) in
    let g = fields_at k ts (single s) (sym (fits-Tree k ts s) ∙ f) in
    every_tree plain_in k ts ∙ also_both (plain_in (Node-F.Tree k ts)) (list_all plain ts) (plain_kind k ts g q.0) (all_plain ts l (fields_fit (slots_of k) ts g) q.1)

plain_list : (ts : List Node) → Each IsPlain ts → IsPlain (Many ts)
plain_list ts l s f h =
    let q = both true (list_all keeps_elses ts) (sym (every_list keeps_else_in ts) ∙ h) in
    every_list plain_in ts ∙ all_plain ts l (items_fit s ts (sym (fits-List ts s) ∙ f)) q.1

pub table_is_plain : (t : Node) → IsPlain t
table_is_plain t = by_children IsPlain
    (λ s f h. search (rules, the_lemmas), λ x s f h. search (rules, the_lemmas), λ w s f h. search (rules, the_lemmas), λ x s f h. search (rules, the_lemmas), λ x s f h. search (rules, the_lemmas), λ k i s f h. search (rules, the_lemmas))
    plain_list plain_tree t

-- blocks
branch_if : (b : Bool) (t : Node) → takes_else t ≡ b → keeps_elses t ≡ true → (takes_else (if b then block t else t) ≡ false) × (keeps_elses (if b then block t else t) ≡ true)
branch_if true t e h = (search (rules, the_lemmas), let g : keeps_elses (block t) ≡ (true && (true && ((true && (keeps_elses t && true)) && true))) = search (rules, the_lemmas) in g ∙ rw h refl)
branch_if false t e h = (e, h)

block_row : (k : Kind) (us : List Node) → list_all keeps_elses us ≡ true → keeps_elses (block_step (Node-F.Tree k us)) ≡ true
block_row kind.IfStmt (s ∷ t ∷ f ∷ a ∷ []) h =
    let p = both (keeps_elses s) (keeps_elses t && (keeps_elses f && (keeps_elses a && true))) h in let q = both (keeps_elses t) (keeps_elses f && (keeps_elses a && true)) p.1 in
    let r = both (keeps_elses f) (keeps_elses a && true) q.1 in let b = branch_if (takes_else f) f refl r.0 in
    every_tree keeps_else_in kind.IfStmt (s ∷ t ∷ branch f ∷ a ∷ [])
    ∙ also_both (is_absent a || not (takes_else (branch f))) (keeps_elses s && (keeps_elses t && (keeps_elses (branch f) && (keeps_elses a && true)))) (or_right (is_absent a) (not (takes_else (branch f))) (rw b.0 refl)) (rw (p.0, q.0, b.1) r.1)
block_row k us h = rw (rolls-Tree k us) (every_tree keeps_else_in k us ∙ h)

abbrev Blocked : Node → Type 0
Blocked t = keeps_elses (with_blocks t) ≡ true

all_blocked : (ts : List Node) → Each Blocked ts → list_all keeps_elses (map with_blocks ts) ≡ true
all_blocked [] l = refl
all_blocked (t ∷ ts) l = also_both (keeps_elses (with_blocks t)) (list_all keeps_elses (map with_blocks ts)) l.0 (all_blocked ts l.1)

pub blocks_keep_elses : (t : Node) → Blocked t
blocks_keep_elses t = by_children Blocked
    (search (rules, the_lemmas), λ x. search (rules, the_lemmas), λ w. search (rules, the_lemmas), λ x. search (rules, the_lemmas), λ s. search (rules, the_lemmas), λ k i. search (rules, the_lemmas))
    (λ ts l. rw (blocks_of_list ts) (every_list keeps_else_in (map with_blocks ts) ∙ all_blocked ts l))
    (λ k ts l. rw (blocks_of_tree k ts) (block_row k (map with_blocks ts) (all_blocked ts l))) t

pub blocked_is_plain : (t : Node) (s : Slot) → Fits t s → plain (with_blocks t) ≡ true
blocked_is_plain t s f = table_is_plain (with_blocks t) s (blocks_fit t s f) (blocks_keep_elses t)
