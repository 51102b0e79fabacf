-- What substitution writes out, without contexts.
use Rattle.std.proofs.Common.{◌≡◌, ℕ, Bool, true, false, Option, Some, None, List, [], ◌∷◌, ◌++◌, map, refl, sym, ap, ◌∙◌}
use Rattle.std.specs.Prelude.{option_map, if◌then◌else◌}
use Rattle.swc_tree_marks.specs.declared.span.Span.{Span as Range}
use Rattle.swc_tree_marks.specs.declared.ident.Ident.{Ident}
use Rattle.swc_tree_node.specs.declared.kind.Kind.{Kind}
use Rattle.swc_tree_node.specs.declared.kind.Kind.TheVariants as kind
use Rattle.swc_tree_node.specs.declared.kind.Word.TheVariants as word
use Rattle.swc_tree_node.specs.declared.node.Node.{Node, Word, Text, Span, List as Many, Identifier, Tree, out-Node}
use Rattle.swc_tree_node.specs.declared.node.Node.TheOpen.{Node-F}
use Rattle.swc_tree_scoping.specs.Readings.{by_texts}
use Rattle.swc_tree_scoping.specs.Shorthands.{key_of}
use Rattle.swc_tree_renaming.proofs.Blank.{layer, out_is}
use Rattle.swc_tree_grammar_texts.proofs.Cleared.{bare, text_list, text_name, text_span, text_text, text_tree, text_word}
use Rattle.swc_base_rename_substitution.specs.Identifiers.{default_in, identifier_in, kept_in, kept_name, or_kept, with_default, with_other, written_out, written_out_if}
use Rattle.swc_base_rename_substitution.specs.Exports.{declaration_in, declaration_of}
use Rattle.swc_base_rename_substitution.specs.Classes.{class_span, class_span_in, kept_class, let_if, let_of_class, span_in}
use Rattle.swc_base_renaming_laws.proofs.Relabelled.{identifier_is}

-- nodes that are the same but for contexts
pub name_alike : (k : Kind) (i j : Ident) → bare i ≡ bare j → by_texts (Identifier k i) ≡ by_texts (Identifier k j)
name_alike k i j e = text_name k i ∙ ap (Identifier k) e ∙ sym (text_name k j)

pub tree_alike : (k : Kind) (us vs : List Node) → map by_texts us ≡ map by_texts vs → by_texts (Tree k us) ≡ by_texts (Tree k vs)
tree_alike k us vs e = text_tree k us ∙ ap (Tree k) e ∙ sym (text_tree k vs)

pub list_alike : (us vs : List Node) → map by_texts us ≡ map by_texts vs → by_texts (Many us) ≡ by_texts (Many vs)
list_alike us vs e = text_list us ∙ ap Many e ∙ sym (text_list vs)

pub append_texts : (us vs : List Node) → map by_texts (us ++ vs) ≡ map by_texts us ++ map by_texts vs
append_texts [] vs = refl
append_texts (u ∷ us) vs = ap (λ ws. by_texts u ∷ ws) (append_texts us vs)

-- the declaration of an exported one
declaration_row : (u : Node) (y : Node-F Node) → by_texts (declaration_in u y) ≡ declaration_in (by_texts u) (layer bare y)
declaration_row u (Node-F.Tree kind.ExportDecl (s ∷ d ∷ [])) = refl
declaration_row u (Node-F.Tree k ts) = refl
declaration_row u _ = refl

declaration_texts : (u : Node) → by_texts (declaration_of u) ≡ declaration_of (by_texts u)
declaration_texts u = declaration_row u (out-Node u) ∙ ap (declaration_in (by_texts u)) (sym (out_is bare u))

pub declaration_alike : (u v : Node) → by_texts u ≡ by_texts v → by_texts (declaration_of u) ≡ by_texts (declaration_of v)
declaration_alike u v e = declaration_texts u ∙ ap declaration_of e ∙ sym (declaration_texts v)

-- a name that is written out
key_texts : (i : Ident) → by_texts (key_of i) ≡ key_of (bare i)
key_texts i =
    text_tree kind.IdentName (Span i.span ∷ Text i.sym ∷ []) ∙ ap (λ a. Tree kind.IdentName (a ∷ by_texts (Text i.sym) ∷ [])) (text_span i.span)
    ∙ ap (λ b. Tree kind.IdentName (Span i.span ∷ b ∷ [])) (text_text i.sym)

pattern_texts : (i : Ident) (target value : Node) → by_texts (Tree kind.AssignPat (Span i.span ∷ target ∷ value ∷ [])) ≡ Tree kind.AssignPat (Span i.span ∷ by_texts target ∷ by_texts value ∷ [])
pattern_texts i target value =
    text_tree kind.AssignPat (Span i.span ∷ target ∷ value ∷ []) ∙ ap (λ a. Tree kind.AssignPat (a ∷ by_texts target ∷ by_texts value ∷ [])) (text_span i.span)

default_row : (i : Ident) (target value : Node) (y : Node-F Node) → by_texts (default_in i target value y) ≡ default_in (bare i) (by_texts target) (by_texts value) (layer bare y)
default_row i target value Node-F.Absent = refl
default_row i target value _ = pattern_texts i target value

default_texts : (i : Ident) (target value : Node) → by_texts (with_default i target value) ≡ with_default (bare i) (by_texts target) (by_texts value)
default_texts i target value = default_row i target value (out-Node value) ∙ ap (default_in (bare i) (by_texts target) (by_texts value)) (sym (out_is bare value))

kept_row : (i : Ident) (t : Node) (y : Node-F Node) → by_texts (kept_in i t y) ≡ kept_in (bare i) (by_texts t) (layer bare y)
kept_row i t Node-F.Absent = text_name kind.Ident (kept_name i)
kept_row i t _ = refl

kept_texts : (i : Ident) (t : Node) → by_texts (or_kept i t) ≡ or_kept (bare i) (by_texts t)
kept_texts i t = kept_row i t (out-Node t) ∙ ap (kept_in (bare i) (by_texts t)) (sym (out_is bare t))

other_texts : (i : Ident) (us : List Node) → map by_texts (with_other i us) ≡ with_other (bare i) (map by_texts us)
other_texts i (s ∷ local ∷ other ∷ []) = ap (λ u. by_texts s ∷ by_texts local ∷ u ∷ []) (kept_texts i other)
other_texts i us = refl

written_texts : (k : Kind) (i : Ident) (us : List Node) → by_texts (written_out k i us) ≡ written_out k (bare i) (map by_texts us)
written_texts kind.AssignPatProp i (s ∷ target ∷ value ∷ []) =
    text_tree kind.KeyValuePatProp (key_of i ∷ with_default i target value ∷ []) ∙ ap (λ a. Tree kind.KeyValuePatProp (a ∷ by_texts (with_default i target value) ∷ [])) (key_texts i)
    ∙ ap (λ b. Tree kind.KeyValuePatProp (key_of i ∷ b ∷ [])) (default_texts i target value)
written_texts kind.ImportNamedSpecifier i us = text_tree kind.ImportNamedSpecifier (with_other i us) ∙ ap (Tree kind.ImportNamedSpecifier) (other_texts i us)
written_texts kind.ExportNamedSpecifier i us = text_tree kind.ExportNamedSpecifier (with_other i us) ∙ ap (Tree kind.ExportNamedSpecifier) (other_texts i us)
written_texts k i us = text_tree k us

written_if_texts : (k : Kind) (o : Option Ident) (us : List Node) → by_texts (written_out_if k o us) ≡ written_out_if k (option_map bare o) (map by_texts us)
written_if_texts k None us = text_tree k us
written_if_texts k (Some i) us = written_texts k i us

-- a class that keeps its name
span_row : (y : Node-F Node) → span_in (layer bare y) ≡ span_in y
span_row (Node-F.Span s) = refl
span_row _ = refl

class_row : (y : Node-F Node) → class_span_in (layer bare y) ≡ class_span_in y
class_row (Node-F.Tree kind.Class (s ∷ ts)) = ap span_in (out_is bare s) ∙ span_row (out-Node s)
class_row (Node-F.Tree k ts) = refl
class_row _ = refl

class_span_same : (t : Node) → class_span (by_texts t) ≡ class_span t
class_span_same t = ap class_span_in (out_is bare t) ∙ class_row (out-Node t)

expression_texts : (i : Ident) (class : Node) → by_texts (Tree kind.ClassExpr (Identifier kind.Ident (kept_name i) ∷ class ∷ [])) ≡ Tree kind.ClassExpr (Identifier kind.Ident (kept_name i) ∷ by_texts class ∷ [])
expression_texts i class =
    text_tree kind.ClassExpr (Identifier kind.Ident (kept_name i) ∷ class ∷ []) ∙ ap (λ a. Tree kind.ClassExpr (a ∷ by_texts class ∷ [])) (text_name kind.Ident (kept_name i))

declarator_texts : (s : Range) (j : Ident) (e f : Node) → by_texts e ≡ f → by_texts (Tree kind.VarDeclarator (Span s ∷ Identifier kind.BindingIdent j ∷ e ∷ [])) ≡ Tree kind.VarDeclarator (Span s ∷ Identifier kind.BindingIdent (bare j) ∷ f ∷ [])
declarator_texts s j e f h =
    text_tree kind.VarDeclarator (Span s ∷ Identifier kind.BindingIdent j ∷ e ∷ []) ∙ ap (λ a. Tree kind.VarDeclarator (a ∷ by_texts (Identifier kind.BindingIdent j) ∷ by_texts e ∷ [])) (text_span s)
    ∙ ap (λ a. Tree kind.VarDeclarator (Span s ∷ a ∷ by_texts e ∷ [])) (text_name kind.BindingIdent j) ∙ ap (λ a. Tree kind.VarDeclarator (Span s ∷ Identifier kind.BindingIdent (bare j) ∷ a ∷ [])) h

let_texts : (s : Range) (i j : Ident) (class : Node) → by_texts (let_of_class s i j class) ≡ let_of_class s (bare i) (bare j) (by_texts class)
let_texts s i j class =
    let e : Node = Tree kind.ClassExpr (Identifier kind.Ident (kept_name i) ∷ class ∷ []) in
    let f : Node = Tree kind.ClassExpr (Identifier kind.Ident (kept_name i) ∷ by_texts class ∷ []) in
    let d : Node = Tree kind.VarDeclarator (Span s ∷ Identifier kind.BindingIdent j ∷ e ∷ []) in
    text_tree kind.VarDecl (Span s ∷ Word word.Let ∷ Many (d ∷ []) ∷ []) ∙ ap (λ a. Tree kind.VarDecl (a ∷ by_texts (Word word.Let) ∷ by_texts (Many (d ∷ [])) ∷ [])) (text_span s)
    ∙ ap (λ a. Tree kind.VarDecl (Span s ∷ a ∷ by_texts (Many (d ∷ [])) ∷ [])) (text_word word.Let) ∙ ap (λ a. Tree kind.VarDecl (Span s ∷ Word word.Let ∷ a ∷ [])) (text_list (d ∷ []))
    ∙ ap (λ a. Tree kind.VarDecl (Span s ∷ Word word.Let ∷ Many (a ∷ []) ∷ [])) (declarator_texts s j e f (expression_texts i class))

let_row : (o : Option Ident) (s : Option Range) (i : Ident) (name class : Node) → by_texts (let_if o s i name class) ≡ let_if (option_map bare o) s (bare i) (by_texts name) (by_texts class)
let_row (Some j) (Some s) i name class = let_texts s i j class
let_row (Some j) None i name class = text_tree kind.ClassDecl (name ∷ class ∷ [])
let_row None s i name class = text_tree kind.ClassDecl (name ∷ class ∷ [])

class_texts : (o : Option Ident) (us : List Node) → by_texts (kept_class o us) ≡ kept_class (option_map bare o) (map by_texts us)
class_texts (Some i) (name ∷ class ∷ []) =
    let_row (identifier_in (out-Node name)) (class_span class) i name class
    ∙ ap (λ o. let_if o (class_span class) (bare i) (by_texts name) (by_texts class)) (sym (identifier_is bare name))
    ∙ ap (λ s. let_if (identifier_in (out-Node (by_texts name))) s (bare i) (by_texts name) (by_texts class)) (sym (class_span_same class))
class_texts (Some i) us = text_tree kind.ClassDecl us
class_texts None us = text_tree kind.ClassDecl us

-- what a node becomes, by its fields without contexts
pub node_texts : (b : Bool) (k : Kind) (o q : Option Ident) (us : List Node)
    → by_texts (if b then kept_class o us else written_out_if k q us) ≡ (if b then kept_class (option_map bare o) (map by_texts us) else written_out_if k (option_map bare q) (map by_texts us))
node_texts true k o q us = class_texts o us
node_texts false k o q us = written_if_texts k q us
