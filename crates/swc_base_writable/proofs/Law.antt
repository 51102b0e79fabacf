-- In all that fits the table, what the rules say is what "can be written down" says.
use Rattle.std.proofs.Common.{◌≡◌, ℕ, zero, suc, Bool, true, false, not, ◌&&◌, ◌||◌, IsTrue, List, [], ◌∷◌, map, Option, Some, refl, sym, ap, ◌∙◌, rules}
use Rattle.std.specs.Prelude.{if◌then◌else◌}
use Rattle.swc_tree_marks.specs.declared.ident.Ident.{Ident}
use Rattle.swc_tree_node.specs.declared.kind.Kind.{Kind}
use Rattle.swc_tree_node.specs.declared.kind.Kind.TheVariants as kind
use Rattle.swc_tree_node.specs.declared.slot.Content.{Content}
use Rattle.swc_tree_node.specs.declared.slot.Content.TheVariants as content
use Rattle.swc_tree_node.specs.declared.slot.Slot.{Slot}
use Rattle.swc_tree_node.specs.declared.slot.Slot.TheVariants as slot
use Rattle.swc_tree_node.specs.declared.node.Node.{Node, Absent, Flag, Word, Text, Span, List as Many, Identifier, Tree, out-Node, the_lemmas}
use Rattle.swc_tree_node.specs.declared.node.Node.TheOpen.{Node-F}
use Rattle.swc_tree_node.specs.Table.{slots_of}
use Rattle.swc_tree_node.specs.Fits.{AllFit, FieldsFit, Fits, fits, list_fits, single, tree_fits}
use Rattle.swc_tree_node.proofs.Fit.{all_open, both, fields_open, fits-List, fits-Tree}
use Rattle.swc_tree_grammar.specs.Kinds.{has_kind, is_private_name}
use Rattle.swc_tree_grammar.specs.Levels.{is_absent}
use Rattle.swc_tree_grammar.specs.Forms.{are_named, form, holds, is_body, is_strict, is_using}
use Rattle.swc_tree_grammar.specs.Shapes.{items_of}
use Rattle.swc_tree_grammar.specs.Stripped.{stripped}
use Rattle.swc_tree_grammar.specs.Writable.{Round as Round', accessor, all_sound, base_goes_on_in, branch, constructor_key_in, element, elements, head, in_head_in, is_string, name_is, one_bare, pattern, sound_in}
use Rattle.swc_tree_grammar.proofs.Asked.{head_list, head_name, head_tree, in_head, of, sound, sound_list, sound_name, sound_tree}
use Rattle.swc_tree_grammar.proofs.Induction.{Each, by_children}
use Rattle.swc_base_writable_rules.specs.declared.round.Round.{Round}
use Rattle.swc_base_writable_rules.specs.declared.ask.Ask.{Ask}
use Rattle.swc_base_writable_rules.specs.declared.ask.Ask.TheVariants as ask
use Rattle.swc_base_writable_rules.specs.declared.ask.Row.TheVariants as row
use Rattle.swc_base_writable_rules.specs.declared.rule.Rule.{Rule}
use Rattle.swc_base_writable_rules.specs.Rounds.{binding, name_sound, round_of, strictly}
use Rattle.swc_base_writable_rules.specs.Asks.{Sounds, ask_at, meets}
use Rattle.swc_base_writable_rules.specs.Rules.{goes_on_in, head_rule, is_string_inside, rule, rule_for, rule_of}
use Rattle.swc_base_writable_rules.specs.Judged.{all_meet, sounds}
use Rattle.swc_base_writable.proofs.Inside.{goes_on_is, right, string_is}
use Rattle.swc_base_writable_rules.proofs.Judged.{sounds_of_list, sounds_of_name, sounds_of_tree}

-- what "can be written down" says of a node
abbrev pub want : Node → Sounds
want t h q = if h then in_head t (round_of q) else sound t (round_of q)

abbrev all_want : (ℕ → Ask) → List Node → Bool
all_want asks [] = true
all_want asks (t ∷ ts) = meets (asks zero) t (want t) && all_want (λ i. asks (suc i)) ts

abbrev Same : Node → Type 0
Same t = sounds t ≡ want t

same_all : (asks : ℕ → Ask) (ts : List Node) → Each Same ts → all_meet asks ts ≡ all_want asks ts
same_all asks [] l = refl
same_all asks (t ∷ ts) l = ap (λ f. meets (asks zero) t f && all_meet (λ i. asks (suc i)) ts) l.0 ∙ ap (λ b. meets (asks zero) t (want t) && b) (same_all (λ i. asks (suc i)) ts l.1)

-- ---- tests one after another

end : (a : Bool) → (a && true) ≡ a
end true = refl
end false = refl

assoc : (a b c : Bool) → ((a && b) && c) ≡ (a && (b && c))
assoc true b c = refl
assoc false b c = refl

comm : (a b : Bool) → (a && b) ≡ (b && a)
comm true true = refl
comm true false = refl
comm false true = refl
comm false false = refl

or_true : (a : Bool) → (a || true) ≡ true
or_true true = refl
or_true false = refl

one : (n s : Bool) → (n && (s && true)) ≡ (n && s)
one n s = ap (λ x. n && x) (end s)

two : (n s u : Bool) → (n && (s && (u && true))) ≡ (n && (s && u))
two n s u = ap (λ x. n && (s && x)) (end u)

turned : (p b : Bool) → (p && (b && true)) ≡ ((p && true) && b)
turned p b = ap (λ x. p && x) (end b) ∙ ap (λ x. x && b) (sym (end p))

four : (p q r b : Bool) → (p && (q && (r && (b && true)))) ≡ ((p && (q && (r && true))) && b)
four true true true b = end b
four true true false b = refl
four true false r b = refl
four false q r b = refl

first : (p s : Bool) → (p && (s && true)) ≡ ((p && true) && (s && true))
first p s = ap (λ x. x && (s && true)) (sym (end p))

second : (n p s u : Bool) → (n && (p && (s && (u && true)))) ≡ (n && ((p && true) && (s && (u && true))))
second n p s u = ap (λ x. n && (x && (s && (u && true)))) (sym (end p))

choice : (p s u : Bool) → (p && (s && (u && true))) ≡ ((p && true) && (s && u))
choice p s u = ap (λ x. p && (s && x)) (end u) ∙ ap (λ x. x && (s && u)) (sym (end p))

headed : (h p b : Bool) → (h && (p && (b && true))) ≡ (h && ((p && true) && b))
headed h p b = ap (λ x. h && x) (turned p b)

barred : (n h p b : Bool) → (n && (h && (p && (b && true)))) ≡ (n && (h && ((p && true) && b)))
barred n h p b = ap (λ x. n && x) (headed h p b)

and_false : (a : Bool) → (a && false) ≡ false
and_false true = refl
and_false false = refl

-- a test that is the other's where the next holds
guarded : (x y s : Bool) → (s ≡ true → x ≡ y) → (x && (s && true)) ≡ (y && s)
guarded x y true e = ap (λ b. b && true) (e refl)
guarded x y false e = and_false x ∙ sym (and_false y)

guarded_part : (x y s : Bool) → (s ≡ true → x ≡ y) → (x && (s && true)) ≡ (y && (s && true))
guarded_part x y true e = ap (λ b. b && true) (e refl)
guarded_part x y false e = and_false x ∙ sym (and_false y)

-- ---- each child as a part, and none looked at

parts_met : (asks : ℕ → Ask) (p : Round) → ((i : ℕ) → asks i ≡ ask.Part p) → (ts : List Node) → all_want asks ts ≡ all_sound (map of ts) (round_of p)
parts_met asks p h [] = refl
parts_met asks p h (t ∷ ts) =
    ap (λ a. meets a t (want t) && all_want (λ i. asks (suc i)) ts) (h zero) ∙ ap (λ b. (not (has_kind is_private_name t) && sound t (round_of p)) && b) (parts_met (λ i. asks (suc i)) p (λ i. h (suc i)) ts)

nothing_met : (asks : ℕ → Ask) → ((i : ℕ) → asks i ≡ ask.Nothing) → (ts : List Node) → all_want asks ts ≡ true
nothing_met asks h [] = refl
nothing_met asks h (t ∷ ts) = ap (λ a. meets a t (want t) && all_want (λ i. asks (suc i)) ts) (h zero) ∙ nothing_met (λ i. asks (suc i)) (λ i. h (suc i)) ts

-- ---- the rules of each kind

-- a part, and the body of a loop
abbrev part : Node → Round → Bool
part t p = not (has_kind is_private_name t) && sound t (round_of p)

abbrev body : Node → Round → Bool
body t q = is_body (form t) && sound t (round_of q)

-- what a rule says of the fields
abbrev says : Rule → List Node → Bool
says u ts = u.holds && all_want (ask_at u.row) ts

named : (z l : Bool) (q : Round) (a b c d : Node) → says (if z then rule l (row.One 1 (ask.Sound q)) else rule true row.Nothing) (a ∷ b ∷ c ∷ d ∷ []) ≡ (not z || (l && sound b (round_of q)))
named true l q a b c d = one l (sound b (round_of q))
named false l q a b c d = refl

rows : (q : Round) (k : Kind) (ts : List Node) → FieldsFit (slots_of k) ts → says (rule_for q (Node-F.Tree k ts)) ts ≡ sound_in (Node-F.Tree k (map of ts)) (round_of q)
rows q kind.SeqExpr (a ∷ b ∷ []) f = one _ _
rows q kind.AssignExpr (a ∷ b ∷ c ∷ d ∷ []) f = refl
rows q kind.UpdateExpr (a ∷ b ∷ c ∷ d ∷ []) f = one _ _
rows q kind.BinExpr (a ∷ b ∷ c ∷ d ∷ []) f = refl
rows q kind.MemberExpr (a ∷ b ∷ c ∷ []) f = two (not (has_kind is_private_name b)) (sound b (round_of (binding q))) (sound c (round_of (binding q)))
rows q kind.Tpl (a ∷ b ∷ c ∷ []) f = one _ _
rows q kind.OptChainExpr (a ∷ b ∷ c ∷ []) f =
    guarded (holds b || goes_on_in (out-Node c)) (holds b || base_goes_on_in (out-Node c)) (sound c (round_of (binding q))) (λ e. ap (λ x. holds b || x) (goes_on_is c f.1.1.0 (round_of (binding q)) e))
rows q kind.ArrayPat (a ∷ b ∷ []) f = one _ _
rows q kind.ObjectPat (a ∷ b ∷ []) f = one _ _
rows q kind.RestPat (a ∷ b ∷ []) f = one _ _
rows q kind.KeyValuePatProp (a ∷ b ∷ []) f = two (element b (round_of q)) (sound a (round_of (binding q))) (sound b (round_of q))
rows q kind.AssignPat (a ∷ b ∷ c ∷ []) f = refl
rows q kind.AssignPatProp (a ∷ b ∷ c ∷ []) f = refl
rows q kind.VarDeclarator (a ∷ b ∷ c ∷ []) f = refl
rows q kind.VarDecl (a ∷ b ∷ c ∷ []) f = one _ _
rows q kind.UsingDecl (a ∷ b ∷ c ∷ []) f = one _ _
rows q kind.ClassMethod (a ∷ b ∷ c ∷ d ∷ e ∷ []) f = two (accessor c d) (sound b (round_of (binding q))) (sound c (round_of q))
rows q kind.PrivateMethod (a ∷ b ∷ c ∷ d ∷ e ∷ []) f = one _ _
rows q kind.PrivateProp (a ∷ b ∷ c ∷ d ∷ []) f = refl
rows q kind.Class (a ∷ b ∷ c ∷ []) f = refl
rows q kind.FnDecl (a ∷ b ∷ []) f = one _ _
rows q kind.FnExpr (a ∷ b ∷ []) f = one _ _
rows q kind.ClassDecl (a ∷ b ∷ []) f = one _ _ ∙ ap (λ s. name_is s (out-Node a) && sound b (round_of q)) (sym (or_true q.strict))
rows q kind.ClassExpr (a ∷ b ∷ []) f = one _ _ ∙ ap (λ s. name_is s (out-Node a) && sound b (round_of q)) (sym (or_true q.strict))
rows q kind.ArrowExpr (a ∷ b ∷ c ∷ d ∷ []) f = refl
rows q kind.Function (a ∷ b ∷ c ∷ d ∷ e ∷ []) f = refl
rows q kind.Constructor (a ∷ b ∷ c ∷ d ∷ []) f = assoc (constructor_key_in (out-Node b)) (elements (round_of (binding q)) (items_of c)) (part c (binding q) && (part d (binding q) && true))
rows q kind.GetterProp (a ∷ b ∷ c ∷ []) f = first (part b (binding q)) (part c (strictly (is_strict c) q))
rows q kind.SetterProp (a ∷ b ∷ c ∷ d ∷ []) f = second (element c (round_of (binding q))) (part b (binding q)) (part c (strictly (is_strict d) q)) (part d (strictly (is_strict d) q))
rows q kind.ExprStmt (a ∷ b ∷ []) f =
    guarded_part (not (is_string_inside b) || is_string b) (not (is_string (stripped b)) || is_string b) (not (has_kind is_private_name b) && sound b (round_of (binding q)))
    (λ e. ap (λ x. not x || is_string b) (string_is b f.1.0 (round_of (binding q)) (right _ _ e)))
rows q kind.CatchClause (a ∷ b ∷ c ∷ []) f = two (is_absent b || pattern b (round_of (binding q))) (sound b (round_of (binding q))) (sound c (round_of q))
rows q kind.WithStmt (a ∷ b ∷ c ∷ []) f = turned _ _
rows q kind.LabeledStmt (a ∷ b ∷ c ∷ []) f = one _ _
rows q kind.IfStmt (a ∷ b ∷ c ∷ d ∷ []) f = choice (part b (binding q)) (branch (of c) (round_of q)) (is_absent d || branch (of d) (round_of q))
rows q kind.SwitchCase (a ∷ b ∷ c ∷ []) f = turned _ _
rows q kind.WhileStmt (a ∷ b ∷ c ∷ []) f = turned _ _
rows q kind.DoWhileStmt (a ∷ b ∷ c ∷ []) f = comm (body b q) (part c (binding q) && true)
rows q kind.ForStmt (a ∷ b ∷ c ∷ d ∷ e ∷ []) f = four (part b (binding q)) (part c (binding q)) (part d (binding q)) (body e q)
rows q kind.ForInStmt (a ∷ b ∷ c ∷ d ∷ []) f = barred (not (is_using b)) (head (of b) (round_of q)) (part c (binding q)) (body d q)
rows q kind.ForOfStmt (a ∷ b ∷ c ∷ d ∷ e ∷ []) f = headed (head (of c) (round_of q)) (part d (binding q)) (body e q)
rows q kind.ImportNamedSpecifier (a ∷ b ∷ c ∷ []) f = end _
rows q kind.ImportDefaultSpecifier (a ∷ b ∷ []) f = end _
rows q kind.ImportStarAsSpecifier (a ∷ b ∷ []) f = end _
rows q kind.NamedExport (a ∷ b ∷ c ∷ d ∷ []) f = named (is_absent c) _ q a b c d
rows q kind.ExportNamedSpecifier (a ∷ b ∷ c ∷ []) f = end _
rows q kind.ExportNamespaceSpecifier ts f = nothing_met (ask_at row.Nothing) (λ i. refl) ts
rows q kind.ExportDecl (a ∷ b ∷ []) f = one _ _
rows q kind.Module (a ∷ b ∷ c ∷ []) f = end _
rows q kind.Script (a ∷ b ∷ c ∷ []) f = one _ _
rows q kind.TsInterfaceDecl ts f = refl
rows q kind.TsTypeAliasDecl ts f = refl
rows q kind.TsEnumDecl ts f = refl
rows q kind.TsModuleDecl ts f = refl
rows q k ts f = parts_met (ask_at (row.Each (ask.Part (binding q)))) (binding q) (λ i. refl) ts

heads : (q : Round) (k : Kind) (ts : List Node) → says (head_rule q (Node-F.Tree k ts)) ts ≡ in_head_in (Node-F.Tree k (map of ts)) (round_of q)
heads q kind.VarDecl (a ∷ b ∷ c ∷ []) = one _ _
heads q kind.UsingDecl (a ∷ b ∷ c ∷ []) =
    assoc (one_bare (items_of c)) (are_named false (items_of c)) (sound c (round_of (binding q)) && true) ∙ two (one_bare (items_of c)) (are_named false (items_of c)) (sound c (round_of (binding q)))
heads q k ts = refl

-- ---- every node

abbrev Agrees : Node → Type 0
Agrees t = (s : Slot) → Fits t s → Same t

fields_same : (ss : List Slot) (ts : List Node) → Each Agrees ts → FieldsFit ss ts → Each Same ts
fields_same [] [] l f = tt
fields_same [] (t ∷ ts) l f = absurd f
fields_same (s ∷ ss) [] l f = absurd f
fields_same (s ∷ ss) (t ∷ ts) l f = (l.0 s f.0, fields_same ss ts l.1 f.1)

all_same : (s : Slot) (ts : List Node) → Each Agrees ts → AllFit s ts → Each Same ts
all_same s [] l f = tt
all_same s (t ∷ ts) l f = (l.0 s f.0, all_same s ts l.1 f.1)

list_same : (s : Slot) (ts : List Node) → Each Agrees ts → IsTrue (list_fits (map fits ts) s) → Each Same ts
list_same (slot.List c) ts l h = all_same (slot.One c) ts l (all_open (slot.One c) ts h)
list_same (slot.Holes c) ts l h = all_same (slot.Optional c) ts l (all_open (slot.Optional c) ts h)
list_same (slot.OptionalList c) ts l h = all_same (slot.One c) ts l (all_open (slot.One c) ts h)
list_same slot.Pair ts l h = fields_same (slot.One content.Text ∷ slot.One content.Text ∷ []) ts l (fields_open (slot.One content.Text ∷ slot.One content.Text ∷ []) ts h)
list_same slot.Pairs ts l h = all_same slot.Pair ts l (all_open slot.Pair ts h)
list_same (slot.One c) ts l h = absurd (cc)
list_same (slot.Optional c) ts l h = absurd (cc)

tree_fields : (k : Kind) (ts : List Node) (o : Option Content) → IsTrue (tree_fits k (map fits ts) o) → FieldsFit (slots_of k) ts
tree_fields k ts (Some (content.Node c)) h = fields_open (slots_of k) ts (both _ _ (both _ _ h).1).1
tree_fields k ts _ h = absurd (cc)

name_same : (k : Kind) (i : Ident) (q : Round) → name_sound k i.sym q ≡ sound_in (Node-F.Identifier k i) (round_of q)
name_same kind.BindingIdent i q = refl
name_same _ i q = refl

leaf_same : (t : Node) → ((h : Bool) (q : Round) → sounds t h q ≡ not h) → ((r : Round') → sound t r ≡ true) → ((r : Round') → in_head t r ≡ false) → Same t
leaf_same t a b c = λ j h q. (a h q ∙ by h q) j
  where
    by : (h : Bool) (q : Round) → not h ≡ want t h q
    by true q = sym (c (round_of q))
    by false q = sym (b (round_of q))

agrees_name : (k : Kind) (i : Ident) → Same (Identifier k i)
agrees_name k i = λ j h q. (sounds_of_name k i h q ∙ by h q) j
  where
    by : (h : Bool) (q : Round) → (not h && name_sound k i.sym q) ≡ want (Identifier k i) h q
    by true q = sym (head_name k i (round_of q))
    by false q = name_same k i q ∙ sym (sound_name k i (round_of q))

agrees_list : (ts : List Node) → Each Agrees ts → Agrees (Many ts)
agrees_list ts l s f = λ j h q. (sounds_of_list ts h q ∙ by h q) j
  where
    inside : Each Same ts
    inside = list_same s ts l (let e : IsTrue (list_fits (map fits ts) s) = sym (fits-List ts s) ∙ f in e)

    by : (h : Bool) (q : Round) → (not h && all_meet (ask_at (row.Each (ask.Part q))) ts) ≡ want (Many ts) h q
    by true q = sym (head_list ts (round_of q))
    by false q = same_all (ask_at (row.Each (ask.Part q))) ts inside ∙ parts_met (ask_at (row.Each (ask.Part q))) q (λ i. refl) ts ∙ sym (sound_list ts (round_of q))

agrees_tree : (k : Kind) (ts : List Node) → Each Agrees ts → Agrees (Tree k ts)
agrees_tree k ts l s f = λ j h q. (sounds_of_tree k ts h q ∙ ap (λ b. (rule_of h q (Node-F.Tree k ts)).holds && b) (same_all (ask_at (rule_of h q (Node-F.Tree k ts)).row) ts inside) ∙ by h q) j
  where
    fields : FieldsFit (slots_of k) ts
    fields = tree_fields k ts (single s) (let e : IsTrue (tree_fits k (map fits ts) (single s)) = sym (fits-Tree k ts s) ∙ f in e)

    inside : Each Same ts
    inside = fields_same (slots_of k) ts l fields

    by : (h : Bool) (q : Round) → says (rule_of h q (Node-F.Tree k ts)) ts ≡ want (Tree k ts) h q
    by true q = heads q k ts ∙ sym (head_tree k ts (round_of q))
    by false q = rows q k ts fields ∙ sym (sound_tree k ts (round_of q))

pub agrees : (t : Node) → Agrees t
agrees t = by_children Agrees (
  λ s f. leaf_same Absent (λ h q. search (rules, the_lemmas)) (λ r. search (rules, the_lemmas)) (λ r. search (rules, the_lemmas)),
  λ x s f. leaf_same (Flag x) (λ h q. search (rules, the_lemmas)) (λ r. search (rules, the_lemmas)) (λ r. search (rules, the_lemmas)),
  λ w s f. leaf_same (Word w) (λ h q. search (rules, the_lemmas)) (λ r. search (rules, the_lemmas)) (λ r. search (rules, the_lemmas)),
  λ x s f. leaf_same (Text x) (λ h q. search (rules, the_lemmas)) (λ r. search (rules, the_lemmas)) (λ r. search (rules, the_lemmas)),
  λ x s f. leaf_same (Span x) (λ h q. search (rules, the_lemmas)) (λ r. search (rules, the_lemmas)) (λ r. search (rules, the_lemmas)),
  λ k i s f. agrees_name k i,
)
    agrees_list agrees_tree t
