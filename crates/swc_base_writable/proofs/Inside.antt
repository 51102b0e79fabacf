-- Stripping takes off pairs of parentheses, and no more, where it leaves an optional chain or a string of what can be written down.
use Rattle.std.proofs.Common.{◌≡◌, Bool, true, false, ◌&&◌, List, [], ◌∷◌, map, rules, refl, sym, ap, ◌∙◌}
use Rattle.std.specs.Option.{is_some}
use Rattle.swc_tree_node.specs.declared.kind.Kind.{Kind}
use Rattle.swc_tree_node.specs.declared.kind.Kind.TheVariants as kind
use Rattle.swc_tree_node.specs.declared.kind.Class.TheVariants as class
use Rattle.swc_tree_node.specs.declared.slot.Content.TheVariants as content
use Rattle.swc_tree_node.specs.declared.slot.Slot.TheVariants as slot
use Rattle.swc_tree_node.specs.declared.node.Node.{Node, Text, List as Many, Tree, out-Node, the_lemmas}
use Rattle.swc_tree_node.specs.declared.node.Node.TheOpen.{Node-F}
use Rattle.swc_tree_node.specs.declared.node.Node.TheVariants.{outs-Tree}
use Rattle.swc_tree_node.specs.Table.{slots_of}
use Rattle.swc_tree_node.specs.Fits.{FieldsFit, Fits}
use Rattle.swc_tree_node.proofs.Fit.{fits-Absent, fits-Flag, fits-Identifier, fits-List, fits-Span, fits-Tree, fits-Word, tree_opens}
use Rattle.swc_tree_scoping.specs.Places.{literal_in, text_in}
use Rattle.swc_tree_grammar.specs.Kinds.{has_kind_in, is_chain, is_opt_chain}
use Rattle.swc_tree_grammar.specs.Shapes.{OptCall}
use Rattle.swc_tree_grammar.specs.Stripped.{stripped, target}
use Rattle.swc_tree_grammar.specs.Writable.{Asked, Round, all_sound, base_goes_on_in, binding, is_string, sound_in}
use Rattle.swc_tree_grammar.proofs.Asked.{of, sound, sound_tree}
use Rattle.swc_tree_grammar.proofs.Induction.{Each, by_children}
use Rattle.swc_tree_grammar.proofs.Places.{one}
use Rattle.swc_tree_grammar.proofs.Stripped.{stripped_of_tree, stripped_other}
use Rattle.swc_base_fixer_laws.proofs.Sequences.{left_of, sequence_stays}
use Rattle.swc_base_writable_rules.specs.Rules.{goes_on_in, is_chain_inside, is_chain_step, is_string_inside, text_in_pair}
use Rattle.swc_base_writable_rules.proofs.Strings.{string_inside, texts}

left : (a b : Bool) → (a && b) ≡ true → a ≡ true
left true b h = refl
left false b h = h

pub right : (a b : Bool) → (a && b) ≡ true → b ≡ true
right true b h = h
right false b h = absurd (cc)

-- the second of parts that are sound
pub second_sound : (a b : Node) (es : List Asked) (r : Round) → all_sound (of a ∷ of b ∷ es) r ≡ true → sound b r ≡ true
second_sound a b es r h = right _ _ (left _ _ (right _ _ h))

chain_inside : (k : Kind) (ts : List Node) → is_chain_inside (Tree k ts) ≡ is_chain_step (Node-F.Tree k (map is_chain_inside ts))
chain_inside k ts = search (rules, the_lemmas)

never : {X : Type 0} → false ≡ true → X
never h = absurd (cc)

tree_kind : (k : Kind) (ts : List Node) → is_chain (Tree k ts) ≡ is_opt_chain k
tree_kind k ts = ap (has_kind_in is_opt_chain) (outs-Tree k ts)

abbrev Chained : Node → Type 0
Chained t = Fits t (one class.Expr) → (r : Round) → sound t r ≡ true → is_chain_inside t ≡ is_chain (stripped t)

chain_row : (k : Kind) (ts : List Node) → Each Chained ts → FieldsFit (slots_of k) ts → (r : Round) → sound_in (Node-F.Tree k (map of ts)) r ≡ true → is_chain_step (Node-F.Tree k (map is_chain_inside ts)) ≡ is_chain (stripped (Tree k ts))
chain_row kind.ParenExpr (a ∷ b ∷ []) l f r h = l.1.0 f.1.0 (binding r) (second_sound a b [] (binding r) h) ∙ sym (ap is_chain (stripped_of_tree kind.ParenExpr (a ∷ b ∷ [])))
chain_row kind.ParenExpr [] l f r h = absurd f
chain_row kind.ParenExpr (a ∷ []) l f r h = absurd f.1
chain_row kind.ParenExpr (a ∷ b ∷ c ∷ ts) l f r h = absurd f.1.1
chain_row kind.SeqExpr (a ∷ b ∷ []) l f r h =
    let us : List Node = stripped a ∷ Many (left_of b) ∷ [] in
    sym (ap is_chain (sequence_stays a b r f.1.0 (sound_tree kind.SeqExpr (a ∷ b ∷ []) r ∙ h)) ∙ tree_kind kind.SeqExpr us)
chain_row kind.SeqExpr [] l f r h = absurd f
chain_row kind.SeqExpr (a ∷ []) l f r h = absurd f.1
chain_row kind.SeqExpr (a ∷ b ∷ c ∷ ts) l f r h = absurd f.1.1
chain_row kind.AssignExpr (a ∷ b ∷ c ∷ d ∷ []) l f r h =
    let us : List Node = stripped a ∷ stripped b ∷ target (stripped c) ∷ stripped d ∷ [] in
    sym (ap is_chain (stripped_of_tree kind.AssignExpr (a ∷ b ∷ c ∷ d ∷ [])) ∙ tree_kind kind.AssignExpr us)
chain_row kind.AssignExpr [] l f r h = absurd f
chain_row kind.AssignExpr (a ∷ []) l f r h = absurd f.1
chain_row kind.AssignExpr (a ∷ b ∷ []) l f r h = absurd f.1.1
chain_row kind.AssignExpr (a ∷ b ∷ c ∷ []) l f r h = absurd f.1.1.1
chain_row kind.AssignExpr (a ∷ b ∷ c ∷ d ∷ e ∷ ts) l f r h = absurd f.1.1.1.1
chain_row kind.Class (a ∷ b ∷ c ∷ []) l f r h = sym (ap is_chain (stripped_of_tree kind.Class (a ∷ b ∷ c ∷ [])) ∙ tree_kind kind.Class _)
chain_row kind.Class [] l f r h = absurd f
chain_row kind.Class (a ∷ []) l f r h = absurd f.1
chain_row kind.Class (a ∷ b ∷ []) l f r h = absurd f.1.1
chain_row kind.Class (a ∷ b ∷ c ∷ d ∷ ts) l f r h = absurd f.1.1.1
chain_row kind.OptChainExpr ts l f r h = sym (ap is_chain (stripped_other kind.OptChainExpr ts refl) ∙ tree_kind kind.OptChainExpr (map stripped ts))
chain_row k ts l f r h = sym (ap is_chain (stripped_other k ts refl) ∙ tree_kind k (map stripped ts))

-- of an expression that can be written down stripping leaves an optional chain exactly if there is one in its pairs
pub chain_is : (t : Node) → Chained t
chain_is t = by_children Chained
    (λ f r h. search (rules, the_lemmas), λ x f r h. search (rules, the_lemmas), λ w f r h. search (rules, the_lemmas), λ x f r h. search (rules, the_lemmas), λ s f r h. search (rules, the_lemmas), λ k i f r h. search (rules, the_lemmas))
    (λ ts l f r h. never (sym (fits-List ts (one class.Expr)) ∙ f))
    (λ k ts l f r h. chain_inside k ts ∙ chain_row k ts l ((tree_opens k ts class.Expr f).2) r (sym (sound_tree k ts r) ∙ h)) t

-- a text stays
abbrev Stays : Node → Type 0
Stays t = Fits t (slot.One content.Text) → stripped t ≡ t

text_stays : (t : Node) → Stays t
text_stays t = by_children Stays (
  λ f. never (sym (fits-Absent (slot.One content.Text)) ∙ f),
  λ x f. never (sym (fits-Flag x (slot.One content.Text)) ∙ f),
  λ w f. never (sym (fits-Word w (slot.One content.Text)) ∙ f),
  λ x f. search (rules, the_lemmas),
  λ s f. never (sym (fits-Span s (slot.One content.Text)) ∙ f),
  λ k i f. never (sym (fits-Identifier k i (slot.One content.Text)) ∙ f),
)
    (λ ts l f. never (sym (fits-List ts (slot.One content.Text)) ∙ f))
    (λ k ts l f. never (sym (fits-Tree k ts (slot.One content.Text)) ∙ f)) t

string_kind : (k : Kind) (ts : List Node) → is_string (Tree k ts) ≡ is_some (literal_in (Node-F.Tree k ts))
string_kind k ts = ap (λ y. is_some (literal_in y)) (outs-Tree k ts)

abbrev Worded : Node → Type 0
Worded t = Fits t (one class.Expr) → (r : Round) → sound t r ≡ true → is_string_inside t ≡ is_string (stripped t)

-- a kind that is no string
string_other : (k : Kind) (ts us : List Node) → stripped (Tree k ts) ≡ Tree k us → is_some (literal_in (Node-F.Tree k ts)) ≡ is_some (literal_in (Node-F.Tree k us)) → is_string (Tree k ts) ≡ is_string (stripped (Tree k ts))
string_other k ts us e s = string_kind k ts ∙ s ∙ sym (ap is_string e ∙ string_kind k us)

string_row : (k : Kind) (ts : List Node) → Each Worded ts → FieldsFit (slots_of k) ts → (r : Round) → sound_in (Node-F.Tree k (map of ts)) r ≡ true
    → text_in_pair (Tree k ts) (Node-F.Tree k (map texts ts)) ≡ is_string (stripped (Tree k ts))
string_row kind.ParenExpr (a ∷ b ∷ []) l f r h = l.1.0 f.1.0 (binding r) (second_sound a b [] (binding r) h) ∙ sym (ap is_string (stripped_of_tree kind.ParenExpr (a ∷ b ∷ [])))
string_row kind.ParenExpr [] l f r h = absurd f
string_row kind.ParenExpr (a ∷ []) l f r h = absurd f.1
string_row kind.ParenExpr (a ∷ b ∷ c ∷ ts) l f r h = absurd f.1.1
string_row kind.SeqExpr (a ∷ b ∷ []) l f r h =
    let us : List Node = stripped a ∷ Many (left_of b) ∷ [] in
    string_other kind.SeqExpr (a ∷ b ∷ []) us (sequence_stays a b r f.1.0 (sound_tree kind.SeqExpr (a ∷ b ∷ []) r ∙ h)) refl
string_row kind.SeqExpr [] l f r h = absurd f
string_row kind.SeqExpr (a ∷ []) l f r h = absurd f.1
string_row kind.SeqExpr (a ∷ b ∷ c ∷ ts) l f r h = absurd f.1.1
string_row kind.AssignExpr (a ∷ b ∷ c ∷ d ∷ []) l f r h = string_other kind.AssignExpr (a ∷ b ∷ c ∷ d ∷ []) (stripped a ∷ stripped b ∷ target (stripped c) ∷ stripped d ∷ []) (stripped_of_tree kind.AssignExpr (a ∷ b ∷ c ∷ d ∷ [])) refl
string_row kind.AssignExpr [] l f r h = absurd f
string_row kind.AssignExpr (a ∷ []) l f r h = absurd f.1
string_row kind.AssignExpr (a ∷ b ∷ []) l f r h = absurd f.1.1
string_row kind.AssignExpr (a ∷ b ∷ c ∷ []) l f r h = absurd f.1.1.1
string_row kind.AssignExpr (a ∷ b ∷ c ∷ d ∷ e ∷ ts) l f r h = absurd f.1.1.1.1
string_row kind.Class (a ∷ b ∷ c ∷ []) l f r h = string_other kind.Class (a ∷ b ∷ c ∷ []) _ (stripped_of_tree kind.Class (a ∷ b ∷ c ∷ [])) refl
string_row kind.Class [] l f r h = absurd f
string_row kind.Class (a ∷ []) l f r h = absurd f.1
string_row kind.Class (a ∷ b ∷ []) l f r h = absurd f.1.1
string_row kind.Class (a ∷ b ∷ c ∷ d ∷ ts) l f r h = absurd f.1.1.1
string_row kind.Str (a ∷ b ∷ c ∷ []) l f r h =
    string_other kind.Str (a ∷ b ∷ c ∷ []) (map stripped (a ∷ b ∷ c ∷ [])) (stripped_other kind.Str (a ∷ b ∷ c ∷ []) refl) (ap (λ b. is_some (text_in (out-Node b))) (sym (text_stays b f.1.0)))
string_row kind.Str [] l f r h = absurd f
string_row kind.Str (a ∷ []) l f r h = absurd f.1
string_row kind.Str (a ∷ b ∷ []) l f r h = absurd f.1.1
string_row kind.Str (a ∷ b ∷ c ∷ d ∷ ts) l f r h = absurd f.1.1.1
string_row k ts l f r h = string_other k ts (map stripped ts) (stripped_other k ts refl) refl

-- ... and a string exactly if there is one in its pairs
pub string_is : (t : Node) → Worded t
string_is t = by_children Worded
    (λ f r h. search (rules, the_lemmas), λ x f r h. search (rules, the_lemmas), λ w f r h. search (rules, the_lemmas), λ x f r h. search (rules, the_lemmas), λ s f r h. search (rules, the_lemmas), λ k i f r h. search (rules, the_lemmas))
    (λ ts l f r h. never (sym (fits-List ts (one class.Expr)) ∙ f))
    (λ k ts l f r h. string_inside k ts ∙ string_row k ts l ((tree_opens k ts class.Expr f).2) r (sym (sound_tree k ts r) ∙ h)) t

-- a part of an optional chain goes on from one
abbrev GoesOn : Node → Type 0
GoesOn t = Fits t (one class.OptChainBase) → (r : Round) → sound t r ≡ true → goes_on_in (out-Node t) ≡ base_goes_on_in (out-Node t)

goes_row : (k : Kind) (ts : List Node) → FieldsFit (slots_of k) ts → (r : Round) → sound_in (Node-F.Tree k (map of ts)) r ≡ true → goes_on_in (Node-F.Tree k ts) ≡ base_goes_on_in (Node-F.Tree k ts)
goes_row kind.MemberExpr (a ∷ b ∷ c ∷ []) f r h = chain_is b f.1.0 (binding r) (left _ _ (right _ _ h))
goes_row kind.OptCall (a ∷ b ∷ c ∷ []) f r h = chain_is b f.1.0 (binding r) (second_sound a b (of c ∷ []) (binding r) h)
goes_row k ts f r h = refl

pub goes_on_is : (t : Node) → GoesOn t
goes_on_is t = by_children GoesOn
    (λ f r h. search (rules, the_lemmas), λ x f r h. search (rules, the_lemmas), λ w f r h. search (rules, the_lemmas), λ x f r h. search (rules, the_lemmas), λ s f r h. search (rules, the_lemmas), λ k i f r h. search (rules, the_lemmas))
    (λ ts l f r h. search (rules, the_lemmas))
    (λ k ts l f r h. ap goes_on_in (outs-Tree k ts) ∙ goes_row k ts ((tree_opens k ts class.OptChainBase f).2) r (sym (sound_tree k ts r) ∙ h) ∙ sym (ap base_goes_on_in (outs-Tree k ts))) t
