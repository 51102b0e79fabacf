-- Forms of statements, directives, and what else is asked of parts by their looks, stay where pairs are set.
use Rattle.std.proofs.Common.{◌≡◌, ℕ, Bool, true, false, List, [], ◌∷◌, refl, sym, ap, ◌∙◌, rules, true≢false}
use Rattle.std.specs.Prelude.{Option, Some, None, nat_eq, is_some, codes, unwrap_or}
use Rattle.std.specs.Cmp.Lexicographic.{pointwise}
use Rattle.std.specs.List.{list_all}
use Rattle.swc_tree_marks.specs.declared.span.Span.{Span as Range}
use Rattle.swc_tree_node.specs.declared.kind.Kind.{Kind}
use Rattle.swc_tree_node.specs.declared.kind.Kind.TheVariants as kind
use Rattle.swc_tree_node.specs.declared.kind.Class.TheVariants as class
use Rattle.swc_tree_node.specs.declared.slot.Content.TheVariants as content
use Rattle.swc_tree_node.specs.declared.slot.Slot.{Slot}
use Rattle.swc_tree_node.specs.declared.slot.Slot.TheVariants as slot
use Rattle.swc_tree_node.specs.declared.node.Node.{Node, Span, List as Many, Identifier, Tree, out-Node, the_lemmas}
use Rattle.swc_tree_node.specs.declared.node.Node.TheOpen.{Node-F}
use Rattle.swc_tree_node.specs.Table.{slots_of}
use Rattle.swc_tree_scoping.specs.Places.{has_use_strict, string_of, statement_in, literal_in, text_in, block_in, items_in as items_in', plain_in as plain_function_in}
use Rattle.swc_tree_grammar.specs.Shapes.{items_of}
use Rattle.swc_tree_grammar.specs.Forms.{Form, form, form_in, form_of_word, form_of_function, is_strict}
use Rattle.swc_tree_grammar.specs.Forms.Form.{Ordinary}
use Rattle.swc_tree_grammar.specs.Writable.{is_string, declares_in, constructor_key_in}
use Rattle.swc_tree_grammar.proofs.Induction.{by_children}
use Rattle.swc_base_fixer_laws.specs.Sets.{Sets, AllSet, FieldsSet, takes_pair, can_pair}
use Rattle.swc_base_fixer_laws.specs.Sets.Sets.{same, after, around, named, items, tree}
use Rattle.swc_base_fixer_laws.specs.Sets.AllSet.{none, more}
use Rattle.swc_base_fixer_laws.specs.Sets.FieldsSet.{nil, field}
use Rattle.swc_base_fixer_laws.proofs.Up.{up}
use Rattle.swc_base_fixer_laws.proofs.Looks.{seen_closed, seen_anywhere}
use Rattle.swc_base_fixer_laws.proofs.Elements.{of_items}
use Rattle.swc_base_fixer_laws.proofs.Strings.{string_of_tree}

-- forms of statements
plain_hidden : (k : Kind) (ts : List Node) → can_pair k ≡ true → plain_function_in (Node-F.Tree k ts) ≡ false
plain_hidden kind.Function ts h = absurd (true≢false (sym h))
plain_hidden k ts h = refl

plain_rows : (k : Kind) (ts us : List Node) → FieldsSet (slots_of k) ts us → plain_function_in (Node-F.Tree k us) ≡ plain_function_in (Node-F.Tree k ts)
plain_rows kind.Function ts us (field s (field p (field b (field {t = g} {u = g'} x (field {t = a} {u = a'} y nil))))) = let v = up x in let w = up y in rw (v.flag, w.flag) refl
plain_rows k ts us d = refl

plain_function_kept : {s : Slot} {t u : Node} → Sets s t u → plain_function_in (out-Node u) ≡ plain_function_in (out-Node t)
plain_function_kept d = seen_anywhere Bool plain_function_in false plain_hidden (λ us. refl) (λ k i. refl) (λ ts us. refl) plain_rows d

form_hidden : (k : Kind) (ts : List Node) → can_pair k ≡ true → form_in (Node-F.Tree k ts) ≡ Ordinary
form_hidden kind.VarDecl ts h = absurd (true≢false (sym h))
form_hidden kind.FnDecl ts h = absurd (true≢false (sym h))
form_hidden kind.ClassDecl ts h = absurd (true≢false (sym h))
form_hidden kind.UsingDecl ts h = absurd (true≢false (sym h))
form_hidden kind.TsInterfaceDecl ts h = absurd (true≢false (sym h))
form_hidden kind.TsTypeAliasDecl ts h = absurd (true≢false (sym h))
form_hidden kind.TsEnumDecl ts h = absurd (true≢false (sym h))
form_hidden kind.TsModuleDecl ts h = absurd (true≢false (sym h))
form_hidden k ts h = refl

form_rows : (k : Kind) (ts us : List Node) → FieldsSet (slots_of k) ts us → form_in (Node-F.Tree k us) ≡ form_in (Node-F.Tree k ts)
form_rows kind.VarDecl ts us (field s (field w (field d nil))) = let v = up w in ap form_of_word v.word_same
form_rows kind.FnDecl ts us (field i (field f nil)) = ap form_of_function (plain_function_kept f)
form_rows kind.ClassDecl ts us d = refl
form_rows kind.UsingDecl ts us d = refl
form_rows k ts us d = refl

pub form_kept : {s : Slot} {t u : Node} → Sets s t u → form u ≡ form t
form_kept d = seen_anywhere Form form_in Ordinary form_hidden (λ us. refl) (λ k i. refl) (λ ts us. refl) form_rows d

declares_hidden : (k : Kind) (ts : List Node) → can_pair k ≡ true → declares_in (Node-F.Tree k ts) ≡ false
declares_hidden kind.VarDecl ts h = absurd (true≢false (sym h))
declares_hidden kind.UsingDecl ts h = absurd (true≢false (sym h))
declares_hidden k ts h = refl

declares_rows : (k : Kind) (ts us : List Node) → FieldsSet (slots_of k) ts us → declares_in (Node-F.Tree k us) ≡ declares_in (Node-F.Tree k ts)
declares_rows kind.VarDecl ts us (field a (field b (field c nil))) = refl
declares_rows kind.UsingDecl ts us (field a (field b (field c nil))) = refl
declares_rows k ts us d = refl

pub declares_kept : {s : Slot} {t u : Node} → Sets s t u → declares_in (out-Node u) ≡ declares_in (out-Node t)
declares_kept d = seen_anywhere Bool declares_in false declares_hidden (λ us. refl) (λ k i. refl) (λ ts us. refl) declares_rows d

-- tests of the items of a list
pub all_items : {s : Slot} {ts us : List Node} (q : Node → Bool) → ((t u : Node) → Sets s t u → q u ≡ q t) → AllSet s ts us → list_all q us ≡ list_all q ts
all_items q f none = refl
all_items q f (more {t = t} {u = u} c d) = rw (f t u c, all_items q f d) refl

-- texts
text_kept : {s : Slot} {t u : Node} → Sets s t u → text_in (out-Node u) ≡ text_in (out-Node t)
text_kept d = seen_anywhere (Option (List ℕ)) text_in None (λ k ts h. refl) (λ us. refl) (λ k i. refl) (λ ts us. refl) (λ k ts us d. refl) d

key_rows : (k : Kind) (ts us : List Node) → FieldsSet (slots_of k) ts us → constructor_key_in (Node-F.Tree k us) ≡ constructor_key_in (Node-F.Tree k ts)
key_rows kind.IdentName ts us (field a (field b nil)) = ap (λ x. pointwise nat_eq (unwrap_or x []) (codes "constructor")) (text_kept b)
key_rows kind.Str ts us (field a (field b (field c nil))) = ap (λ x. pointwise nat_eq (unwrap_or x []) (codes "constructor")) (text_kept b)
key_rows k ts us d = refl

pub key_kept : {s : Slot} {t u : Node} → Sets s t u → takes_pair s ≡ false → constructor_key_in (out-Node u) ≡ constructor_key_in (out-Node t)
key_kept d h = seen_closed Bool constructor_key_in (λ ts us. refl) key_rows d h

-- directives
literal_rows : (k : Kind) (ts us : List Node) → FieldsSet (slots_of k) ts us → literal_in (Node-F.Tree k us) ≡ literal_in (Node-F.Tree k ts)
literal_rows kind.Str ts us (field a (field b (field c nil))) = text_kept b
literal_rows k ts us d = refl

literal_tree : (k : Kind) (ts : List Node) → literal_in (out-Node (Tree k ts)) ≡ literal_in (Node-F.Tree k ts)
literal_tree k ts = search (rules, the_lemmas)

no_literal : (ts : List Node) → is_string (Many ts) ≡ false
no_literal ts = search (rules, the_lemmas)

paren_literal : (r : Range) (u : Node) → is_string (Tree kind.ParenExpr (Span r ∷ u ∷ [])) ≡ false
paren_literal r u = string_of_tree kind.ParenExpr (Span r ∷ u ∷ [])

literal_back : {s : Slot} {t u : Node} → Sets s t u → is_string u ≡ true → literal_in (out-Node u) ≡ literal_in (out-Node t)
literal_back (same t) h = refl
literal_back (after c d) h = let e = literal_back d h in e ∙ literal_back c (ap is_some (sym e) ∙ h)
literal_back (around r t u p q d) h = absurd (cc (sym (paren_literal r u) ∙ h))
literal_back (named r k i called) h = absurd (cc (sym (paren_literal r (Identifier kind.Ident i)) ∙ h))
literal_back (items ts us d) h = absurd (cc (sym (no_literal us) ∙ h))
literal_back (tree k ts us e d) h = literal_tree k us ∙ literal_rows k ts us d ∙ sym (literal_tree k ts)

is_none : {A : Type 0} (x : Option A) → is_some x ≡ false → x ≡ None
is_none None h = refl
is_none (Some a) h = absurd (cc)

literal_if : (b : Bool) (t u : Node) → is_string u ≡ b → (is_string u ≡ true → literal_in (out-Node u) ≡ literal_in (out-Node t)) → is_string u ≡ is_string t → literal_in (out-Node u) ≡ literal_in (out-Node t)
literal_if true t u e f h = f e
literal_if false t u e f h = is_none (literal_in (out-Node u)) e ∙ sym (is_none (literal_in (out-Node t)) (sym h ∙ e))

literal_kept : {s : Slot} (t u : Node) → Sets s t u → is_string u ≡ is_string t → literal_in (out-Node u) ≡ literal_in (out-Node t)
literal_kept t u d h = literal_if (is_string u) t u refl (literal_back d) h

statement_tree : (k : Kind) (ts : List Node) → string_of (Tree k ts) ≡ statement_in (Node-F.Tree k ts)
statement_tree k ts = search (rules, the_lemmas)

no_statement : (ts : List Node) → string_of (Many ts) ≡ None
no_statement ts = search (rules, the_lemmas)

string_kept : {s : Slot} {t u : Node} → Sets s t u → takes_pair s ≡ false → string_of u ≡ string_of t
string_kept (same t) h = refl
string_kept (after c d) h = string_kept d h ∙ string_kept c h
string_kept (around r t u p q d) h = absurd (cc (sym h ∙ p))
string_kept (named r k i called) h = absurd (cc)
string_kept (items ts us d) h = no_statement us ∙ sym (no_statement ts)
string_kept (tree kind.ExprStmt ts us e (field a (field {t = t} {u = u} b nil))) h = statement_tree kind.ExprStmt us ∙ literal_kept t u b e ∙ sym (statement_tree kind.ExprStmt ts)
string_kept (tree k ts us e d) h = statement_tree k us ∙ sym (statement_tree k ts)

strict_items : {s : Slot} {ts us : List Node} → takes_pair s ≡ false → AllSet s ts us → has_use_strict us ≡ has_use_strict ts
strict_items h none = refl
strict_items h (more c d) = rw (string_kept c h, strict_items h d) refl

pub strict_list : {t u : Node} → Sets (slot.List (content.Node class.Stmt)) t u → has_use_strict (items_of u) ≡ has_use_strict (items_of t)
strict_list d = of_items Bool has_use_strict (λ ts us x. strict_items refl x) refl refl d

same_items : (t : Node) → items_in' (out-Node t) ≡ items_of t
same_items t = by_children (λ t. items_in' (out-Node t) ≡ items_of t)
    (search (rules, the_lemmas), λ x. search (rules, the_lemmas), λ w. search (rules, the_lemmas), λ x. search (rules, the_lemmas), λ s. search (rules, the_lemmas), λ k i. search (rules, the_lemmas))
    (λ ts l. search (rules, the_lemmas)) (λ k ts l. search (rules, the_lemmas)) t

abbrev strict_in : Node-F Node → Bool
strict_in x = has_use_strict (block_in x)

strict_hidden : (k : Kind) (ts : List Node) → can_pair k ≡ true → strict_in (Node-F.Tree k ts) ≡ false
strict_hidden kind.BlockStmt ts h = absurd (true≢false (sym h))
strict_hidden k ts h = refl

strict_rows : (k : Kind) (ts us : List Node) → FieldsSet (slots_of k) ts us → strict_in (Node-F.Tree k us) ≡ strict_in (Node-F.Tree k ts)
strict_rows kind.BlockStmt ts us (field a (field {t = t} {u = u} b nil)) = ap has_use_strict (same_items u) ∙ strict_list b ∙ sym (ap has_use_strict (same_items t))
strict_rows k ts us d = refl

pub strict_kept : {s : Slot} {t u : Node} → Sets s t u → is_strict u ≡ is_strict t
strict_kept d = seen_anywhere Bool strict_in false strict_hidden (λ us. refl) (λ k i. refl) (λ ts us. refl) strict_rows d
