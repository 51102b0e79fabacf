-- The texts of what is written out.
use Rattle.std.proofs.Common.{◌≡◌, ℕ, Bool, true, false, not, ◌||◌, Option, Some, None, List, [], ◌∷◌, ◌++◌, map, append_assoc, append-nil, refl, sym, ap, ◌∙◌}
use Rattle.std.specs.Prelude.{if◌then◌else◌}
use Rattle.swc_tree_marks.specs.declared.span.Span.{Span as Span'}
use Rattle.swc_tree_marks.specs.declared.ident.Ident.{Ident}
use Rattle.swc_tree_node.specs.declared.kind.Kind.{Kind}
use Rattle.swc_tree_node.specs.declared.kind.Kind.TheVariants as kind
use Rattle.swc_tree_node.specs.declared.kind.Word.TheVariants as word
use Rattle.swc_tree_node.specs.declared.node.Node.{Node, Absent, Word, Text, Span, List as Many, Identifier, Tree, out-Node, roll-Node, roll-out-Node}
use Rattle.swc_tree_node.specs.declared.node.Node.TheOpen.{Node-F}
use Rattle.swc_tree_node.specs.declared.node.Node.TheVariants.{outs-Absent, outs-Flag, outs-Word, outs-Text, outs-Span, outs-List, outs-Identifier, outs-Tree, rolls-Absent}
use Rattle.swc_tree_scoping.specs.Places.{absent_in, is_there}
use Rattle.swc_tree_scoping.specs.Shorthands.{computed_key, key_of, shorthand_key}
use Rattle.swc_tree_grammar.proofs.Induction.{by_children}
use Rattle.swc_base_rename_substitution.specs.Names.{Id}
use Rattle.swc_base_rename_substitution.specs.Identifiers.{Changes, default_in, identifier_in, kept_in, kept_name, or_kept, with_default}
use Rattle.swc_base_rename_substitution.specs.Classes.{class_span, kept_class, let_if, let_of_class}
use Rattle.swc_base_rename_substitution.specs.Exports.{export_list, made, nowhere, specifier, specifier_to}
use Rattle.swc_base_rename_laws.specs.Texts.{text_of}
use Rattle.swc_base_rename_laws.proofs.OuterTexts.{all_texts, texts, texts-Absent, texts-Span, texts-Text, texts-Word, texts_identifier, texts_list, texts_tree}
use Rattle.swc_base_rename_laws.proofs.OuterTextsForms.{named}

-- ---- keys

pub key_texts : (o short : Bool) (i : Ident) → texts o short (key_of i) ≡ i.sym ∷ []
key_texts o short i =
    texts_tree o short kind.IdentName (Span i.span ∷ Text i.sym ∷ [])
    ∙ ap (λ l. (l ++ (texts false false (Text i.sym) ++ [])) ++ []) (texts-Span false false i.span)
    ∙ ap (λ l. (l ++ []) ++ []) (texts-Text false false i.sym)

string_texts : (o short : Bool) (s : Span') (x : List ℕ) → texts o short (Tree kind.Str (Span s ∷ Text x ∷ Absent ∷ [])) ≡ x ∷ []
string_texts o short s x =
    texts_tree o short kind.Str (Span s ∷ Text x ∷ Absent ∷ [])
    ∙ ap (λ l. (l ++ (texts false false (Text x) ++ (texts false false Absent ++ []))) ++ []) (texts-Span false false s)
    ∙ ap (λ l. (l ++ (texts false false Absent ++ [])) ++ []) (texts-Text false false x)
    ∙ ap (λ l. ((x ∷ []) ++ (l ++ [])) ++ []) (texts-Absent false false)

computed_texts : (o short : Bool) (i : Ident) → texts o short (computed_key i) ≡ i.sym ∷ []
computed_texts o short i =
    let string : Node = Tree kind.Str (Span i.span ∷ Text i.sym ∷ Absent ∷ []) in
    texts_tree o short kind.ComputedPropName (Span i.span ∷ string ∷ [])
    ∙ ap (λ l. (l ++ (texts false false string ++ [])) ++ []) (texts-Span false false i.span)
    ∙ ap (λ l. (l ++ []) ++ []) (string_texts false false i.span i.sym)

pub either : (o short b : Bool) (t u : Node) (x : List (List ℕ)) → texts o short t ≡ x → texts o short u ≡ x → texts o short (if b then t else u) ≡ x
either o short true t u x h g = h
either o short false t u x h g = g

pub shorthand_texts : (o short : Bool) (i : Ident) → texts o short (shorthand_key i) ≡ i.sym ∷ []
shorthand_texts o short i = either o short _ (computed_key i) (key_of i) _ (computed_texts o short i) (key_texts o short i)

-- ---- identifiers

pub quiet : (o short : Bool) (k : Kind) (i : Ident) → o ≡ false → short ≡ false → texts o short (Identifier k i) ≡ []
quiet o short k i e f = texts_identifier o short k i ∙ ap (λ o. if short || o then i.sym ∷ [] else []) e ∙ ap (λ short. if short || false then i.sym ∷ [] else []) f

or_true : (b : Bool) → (b || true) ≡ true
or_true true = refl
or_true false = refl

pub loud : (short : Bool) (k : Kind) (i : Ident) → texts true short (Identifier k i) ≡ i.sym ∷ []
loud short k i = texts_identifier true short k i ∙ ap (λ b. if b then i.sym ∷ [] else []) (or_true short)

abbrev NameIsQuiet : Node → Type 0
NameIsQuiet t = (j : Ident) → named t ≡ Some j → texts false false t ≡ []

none_named : {A : Type 0} (o : Option Ident) (j : Ident) → o ≡ None → o ≡ Some j → A
none_named o j e h = absurd (cc)

-- a name that is no outer one has no text
pub name_quiet : (t : Node) → NameIsQuiet t
name_quiet = by_children NameIsQuiet (
  λ j h. none_named _ j (ap identifier_in outs-Absent) h,
  λ x j h. none_named _ j (ap identifier_in (outs-Flag x)) h,
  λ w j h. none_named _ j (ap identifier_in (outs-Word w)) h,
  λ x j h. none_named _ j (ap identifier_in (outs-Text x)) h,
  λ x j h. none_named _ j (ap identifier_in (outs-Span x)) h,
  λ k i j h. quiet false false k i refl refl,
)
    (λ ts below j h. none_named _ j (ap identifier_in (outs-List ts)) h)
    (λ k ts below j h. none_named _ j (ap identifier_in (outs-Tree k ts)) h)

-- ---- patterns with a default

is_absent : (t : Node) → out-Node t ≡ Node-F.Absent → t ≡ Absent
is_absent t e = sym (roll-out-Node t) ∙ ap roll-Node e ∙ rolls-Absent

assigned : (o : Bool) (i : Ident) (target value : Node) → texts o false (Tree kind.AssignPat (Span i.span ∷ target ∷ value ∷ [])) ≡ texts o false target ++ texts false false value
assigned o i target value =
    texts_tree o false kind.AssignPat (Span i.span ∷ target ∷ value ∷ [])
    ∙ ap (λ l. (l ++ (texts o false target ++ (texts false false value ++ []))) ++ []) (texts-Span false false i.span)
    ∙ append-nil (texts o false target ++ (texts false false value ++ []))
    ∙ ap (λ l. texts o false target ++ l) (append-nil (texts false false value))

default_texts_in : (o : Bool) (i : Ident) (target value : Node) (y : Node-F Node) → out-Node value ≡ y → texts o false (default_in i target value y) ≡ texts o false target ++ texts false false value
default_texts_in o i target value Node-F.Absent e =
    sym (append-nil (texts o false target)) ∙ ap (λ l. texts o false target ++ l) (sym (ap (texts false false) (is_absent value e) ∙ texts-Absent false false))
default_texts_in o i target value y e = assigned o i target value

pub default_texts : (o : Bool) (i : Ident) (target value : Node) → texts o false (with_default i target value) ≡ texts o false target ++ texts false false value
default_texts o i target value = default_texts_in o i target value (out-Node value) refl

-- ---- the other name of a specifier

-- its text, and that of its first name where it has no other
abbrev pub other_side : Node → Option Ident → List (List ℕ)
other_side t i = texts true false t ++ (if is_there (Some t) then [] else text_of i)

identifier_side : (k : Kind) (i : Ident) (n : Option Ident) → other_side (Identifier k i) n ≡ i.sym ∷ []
identifier_side k i n =
    ap (λ l. l ++ (if is_there (Some (Identifier k i)) then [] else text_of n)) (loud false k i)
    ∙ ap (λ y. (i.sym ∷ []) ++ (if not (absent_in y) then [] else text_of n)) (outs-Identifier k i)

gone_side : (t : Node) (n : Option Ident) → texts true false t ≡ [] → is_there (Some t) ≡ false → other_side t n ≡ text_of n
gone_side t n e f = ap (λ l. l ++ (if is_there (Some t) then [] else text_of n)) e ∙ ap (λ b. if b then [] else text_of n) f

present_side : (t other : Node) (n o : Option Ident) → is_there (Some t) ≡ true → is_there (Some t) ≡ is_there (Some other) → texts true false t ≡ texts true false other → other_side t n ≡ other_side other o
present_side t other n o e there same =
    ap (λ l. l ++ (if is_there (Some t) then [] else text_of n)) same
    ∙ ap (λ b. texts true false other ++ (if b then [] else text_of n)) e
    ∙ sym (ap (λ b. texts true false other ++ (if b then [] else text_of o)) (sym there ∙ e))

side_in : (i : Ident) (n : Option Ident) (t other : Node) (y : Node-F Node) → out-Node t ≡ y → is_there (Some t) ≡ is_there (Some other) → texts true false t ≡ texts true false other
    → other_side (kept_in i t y) n ≡ other_side other (Some i)
side_in i n t other Node-F.Absent e there same =
    identifier_side kind.Ident (kept_name i) n
    ∙ sym (gone_side other (Some i) (sym same ∙ ap (texts true false) (is_absent t e) ∙ texts-Absent true false) (sym there ∙ ap (λ y. not (absent_in y)) e))
side_in i n t other y e there same = present_side t other n (Some i) (ap (λ y. not (absent_in y)) e) there same

pub kept_other : (i : Ident) (n : Option Ident) (t other : Node) → is_there (Some t) ≡ is_there (Some other) → texts true false t ≡ texts true false other → other_side (or_kept i t) n ≡ other_side other (Some i)
kept_other i n t other there same = side_in i n t other (out-Node t) refl there same

-- ---- classes that keep their names

let_texts : (o short : Bool) (s : Span') (i j : Ident) (class : Node) → texts o short (let_of_class s i j class) ≡ texts false false class
let_texts o short s i j class =
    let expression : Node = Tree kind.ClassExpr (Identifier kind.Ident (kept_name i) ∷ class ∷ []) in
    let declarator : Node = Tree kind.VarDeclarator (Span s ∷ Identifier kind.BindingIdent j ∷ expression ∷ []) in
    let all : List (List ℕ) = texts false false class in
    let third : texts false false expression ≡ all
    = texts_tree false false kind.ClassExpr (Identifier kind.Ident (kept_name i) ∷ class ∷ [])
    ∙ ap (λ l. (l ++ (all ++ [])) ++ []) (quiet false false kind.Ident (kept_name i) refl refl)
    ∙ append-nil (all ++ []) ∙ append-nil all in
    let second : texts false false declarator ≡ all
    = texts_tree false false kind.VarDeclarator (Span s ∷ Identifier kind.BindingIdent j ∷ expression ∷ [])
    ∙ ap (λ l. (l ++ (texts false false (Identifier kind.BindingIdent j) ++ (texts false false expression ++ []))) ++ []) (texts-Span false false s)
    ∙ ap (λ l. (l ++ (texts false false expression ++ [])) ++ []) (quiet false false kind.BindingIdent j refl refl)
    ∙ append-nil (texts false false expression ++ []) ∙ append-nil (texts false false expression) ∙ third in
    let first : texts false false (Many (declarator ∷ [])) ≡ all = texts_list false false (declarator ∷ []) ∙ append-nil (texts false false declarator) ∙ second in
    texts_tree o short kind.VarDecl (Span s ∷ Word word.Let ∷ Many (declarator ∷ []) ∷ [])
    ∙ ap (λ l. (l ++ (texts false false (Word word.Let) ++ (texts false false (Many (declarator ∷ [])) ++ []))) ++ []) (texts-Span false false s)
    ∙ ap (λ l. (l ++ (texts false false (Many (declarator ∷ [])) ++ [])) ++ []) (texts-Word false false word.Let)
    ∙ append-nil (texts false false (Many (declarator ∷ [])) ++ []) ∙ append-nil (texts false false (Many (declarator ∷ []))) ∙ first

class_texts : (o short : Bool) (name class : Node) → texts false false name ≡ [] → texts o short (Tree kind.ClassDecl (name ∷ class ∷ [])) ≡ texts false false class
class_texts o short name class e =
    texts_tree o short kind.ClassDecl (name ∷ class ∷ []) ∙ ap (λ l. (l ++ (texts false false class ++ [])) ++ []) e ∙ append-nil (texts false false class ++ []) ∙ append-nil (texts false false class)

let_same : (o short : Bool) (j : Option Ident) (s : Option Span') (i : Ident) (name class : Node) → named name ≡ j → texts o short (let_if j s i name class) ≡ texts o short (Tree kind.ClassDecl (name ∷ class ∷ []))
let_same o short (Some j) (Some s) i name class e = let_texts o short s i j class ∙ sym (class_texts o short name class (name_quiet name j e))
let_same o short (Some j) None i name class e = refl
let_same o short None s i name class e = refl

pub kept_class_texts : (o short : Bool) (i : Option Ident) (us : List Node) → texts o short (kept_class i us) ≡ texts o short (Tree kind.ClassDecl us)
kept_class_texts o short (Some i) (name ∷ class ∷ []) = let_same o short (named name) (class_span class) i name class refl
kept_class_texts o short i us = refl

-- ---- specifiers and export lists

regroup : (a b c d : List (List ℕ)) → (a ++ (b ++ (c ++ []))) ++ d ≡ a ++ (b ++ (c ++ d))
regroup a b c d = simp append_assoc

pub import_texts : (o short : Bool) (a local other : Node) → texts o short (Tree kind.ImportNamedSpecifier (a ∷ local ∷ other ∷ [])) ≡ texts false false a ++ (texts false false local ++ other_side other (named local))
import_texts o short a local other = texts_tree o short kind.ImportNamedSpecifier (a ∷ local ∷ other ∷ []) ∙ regroup (texts false false a) (texts false false local) (texts true false other) _

pub export_texts : (o short : Bool) (a local other : Node) → texts o short (Tree kind.ExportNamedSpecifier (a ∷ local ∷ other ∷ [])) ≡ texts false false a ++ (texts o false local ++ other_side other (named local))
export_texts o short a local other = texts_tree o short kind.ExportNamedSpecifier (a ∷ local ∷ other ∷ []) ∙ regroup (texts false false a) (texts o false local) (texts true false other) _

made_texts : (x : Id) (other : Node) → texts false false (Tree kind.ExportNamedSpecifier (nowhere ∷ Identifier kind.Ident (made x) ∷ other ∷ [])) ≡ other_side other (Some (made x))
made_texts x other =
    export_texts false false nowhere (Identifier kind.Ident (made x)) other
    ∙ ap (λ l. l ++ (texts false false (Identifier kind.Ident (made x)) ++ other_side other (named (Identifier kind.Ident (made x))))) (texts-Span false false _)
    ∙ ap (λ l. l ++ other_side other (named (Identifier kind.Ident (made x)))) (quiet false false kind.Ident (made x) refl refl)
    ∙ ap (λ y. other_side other (identifier_in y)) (outs-Identifier kind.Ident (made x))

specifier_texts : (x : Id) (n : Option Id) → texts false false (specifier_to x n) ≡ x.0 ∷ []
specifier_texts x None = made_texts x Absent ∙ gone_side Absent (Some (made x)) (texts-Absent true false) (ap (λ y. not (absent_in y)) outs-Absent)
specifier_texts x (Some y) = made_texts y (Identifier kind.Ident (made (x.0, []))) ∙ identifier_side kind.Ident (made (x.0, [])) (Some (made y))

specifiers_texts : (m : Changes) (xs : List Id) → all_texts (λ i. false) false (map (specifier m) xs) ≡ map (λ x. x.0) xs
specifiers_texts m [] = refl
specifiers_texts m (x ∷ xs) = ap (λ l. l ++ all_texts (λ i. false) false (map (specifier m) xs)) (specifier_texts x (m x)) ∙ ap (λ l. x.0 ∷ l) (specifiers_texts m xs)

-- a list of exports has the texts of its names
pub exports_texts : (o short : Bool) (m : Changes) (xs : List Id) → texts o short (export_list m xs) ≡ map (λ x. x.0) xs
exports_texts o short m xs =
    let all : Node = Many (map (specifier m) xs) in
    let source : List (List ℕ) = texts false false Absent in
    texts_tree o short kind.NamedExport (nowhere ∷ all ∷ Absent ∷ Absent ∷ [])
    ∙ ap (λ y. (texts false false nowhere ++ (texts (not (absent_in y)) false all ++ (source ++ (source ++ [])))) ++ []) outs-Absent
    ∙ ap (λ l. (l ++ (texts false false all ++ (source ++ (source ++ [])))) ++ []) (texts-Span false false _)
    ∙ ap (λ l. (texts false false all ++ (l ++ (l ++ []))) ++ []) (texts-Absent false false)
    ∙ append-nil (texts false false all ++ []) ∙ append-nil (texts false false all)
    ∙ texts_list false false (map (specifier m) xs) ∙ specifiers_texts m xs
