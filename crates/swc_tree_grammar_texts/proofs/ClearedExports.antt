-- The normal form of a module is that of the module without contexts, with its contexts emptied, where no exported
-- declaration has two ids of one text.
use Rattle.std.proofs.Common.{◌≡◌, ℕ, zero, suc, Bool, true, false, not, ◌&&◌, IsTrue, List, [], ◌∷◌, ◌++◌, map, refl, sym, ap, ◌∙◌, subst, rules}
use Rattle.std.specs.Prelude.{slice_get, if◌then◌else◌}
use Rattle.std.specs.List.{flat_map, filter, list_all}
use Rattle.swc_tree_marks.specs.declared.ident.Ident.{Ident}
use Rattle.swc_tree_node.specs.declared.kind.Kind.{Kind}
use Rattle.swc_tree_node.specs.declared.kind.Kind.TheVariants as kind
use Rattle.swc_tree_node.specs.declared.slot.Role.{Role}
use Rattle.swc_tree_node.specs.declared.slot.Role.TheVariants as role
use Rattle.swc_tree_node.specs.declared.node.Node.{Node, Absent, Flag, Word, Text, Span, List as Many, Identifier, Tree, out-Node, the_lemmas}
use Rattle.swc_tree_node.specs.declared.node.Node.TheOpen.{Node-F}
use Rattle.swc_tree_node.specs.declared.fields.statements.class_decl.TheConstants as class_decl
use Rattle.swc_tree_node.specs.declared.fields.statements.fn_decl.TheConstants as fn_decl
use Rattle.swc_tree_node.proofs.Fit.{both}
use Rattle.swc_tree_scoping.specs.Places.{field_role}
use Rattle.swc_tree_scoping.specs.Readings.{by_texts}
use Rattle.swc_tree_scoping.specs.BoundNames.{Id, bound_ids, own_id, in_part, in_parts, declared_ids, declared_in, name_in, name_of, id_of}
use Rattle.swc_tree_grammar.specs.Shapes.{items_of}
use Rattle.swc_tree_grammar.specs.Blocks.{no_span}
use Rattle.swc_tree_grammar.specs.Normal.{normal_form, written_out, written_step, each_once, made, exported_as_itself, export_list, same_id, split, split_in}
use Rattle.swc_tree_grammar.specs.Stripped.{stripped}
use Rattle.swc_tree_grammar.proofs.Induction.{Each, by_children}
use Rattle.swc_tree_grammar.proofs.Items.{items_of_list}
use Rattle.swc_tree_grammar.proofs.Stripped.{stripped_of_list, stripped_other}
use Rattle.swc_tree_grammar_texts.proofs.Cleared.{bare, text_absent, text_flag, text_word, text_text, text_span, text_name, text_list, text_tree, items_same}
use Rattle.swc_tree_grammar_texts.proofs.ClearedStripped.{stripped_texts}
use Rattle.swc_tree_grammar_texts.proofs.ClearedWritten.{written_of_tree, written_of_list, all_written}
use Rattle.swc_tree_grammar_texts.proofs.Inner.{is_inner, stripped_inner}

-- ---- declared ids

abbrev cleared : Id → Id
cleared x = (x.0, [])

abbrev all_cleared : List Id → List Id
all_cleared ids = map cleared ids

append_cleared : (xs ys : List Id) → all_cleared (xs ++ ys) ≡ all_cleared xs ++ all_cleared ys
append_cleared [] ys = refl
append_cleared (x ∷ xs) ys = ap (λ zs. cleared x ∷ zs) (append_cleared xs ys)

bound_of_tree : (k : Kind) (ts : List Node) → bound_ids (Tree k ts) ≡ in_parts (field_role k) (map bound_ids ts)
bound_of_tree k ts = search (rules, the_lemmas)

bound_of_list : (ts : List Node) → bound_ids (Many ts) ≡ flat_map (λ ids. ids) (map bound_ids ts)
bound_of_list ts = search (rules, the_lemmas)

bound_of_name : (k : Kind) (i : Ident) → bound_ids (Identifier k i) ≡ own_id k i
bound_of_name k i = search (rules, the_lemmas)

own_row : (k : Kind) (i : Ident) → own_id k (bare i) ≡ all_cleared (own_id k i)
own_row kind.BindingIdent i = refl
own_row k i = refl

part_row : (r : Role) (ids : List Id) → in_part r (all_cleared ids) ≡ all_cleared (in_part r ids)
part_row role.Declared ids = refl
part_row role.Lexical ids = refl
part_row role.Inherited ids = refl
part_row r ids = refl

parts_row : (roles : ℕ → Role) (lists : List (List Id)) → in_parts roles (map all_cleared lists) ≡ all_cleared (in_parts roles lists)
parts_row roles [] = refl
parts_row roles (ids ∷ lists) = rw (part_row (roles zero) ids, parts_row (λ i. roles (suc i)) lists) (sym (append_cleared (in_part (roles zero) ids) (in_parts (λ i. roles (suc i)) lists)))

flat_row : (lists : List (List Id)) → flat_map (λ ids. ids) (map all_cleared lists) ≡ all_cleared (flat_map (λ ids. ids) lists)
flat_row [] = refl
flat_row (ids ∷ lists) = rw (flat_row lists) (sym (append_cleared ids (flat_map (λ ids. ids) lists)))

abbrev Bound : Node → Type 0
Bound t = bound_ids (by_texts t) ≡ all_cleared (bound_ids t)

each_bound : (ts : List Node) → Each Bound ts → map bound_ids (map by_texts ts) ≡ map all_cleared (map bound_ids ts)
each_bound [] l = refl
each_bound (t ∷ ts) l = rw (l.0, each_bound ts l.1) refl

bound_same : (t : Node) → Bound t
bound_same t = by_children Bound
    (search (rules, the_lemmas), λ x. search (rules, the_lemmas), λ w. search (rules, the_lemmas), λ x. search (rules, the_lemmas), λ s. search (rules, the_lemmas), λ k i. ap bound_ids (text_name k i) ∙ bound_of_name k (bare i) ∙ own_row k i ∙ ap all_cleared (sym (bound_of_name k i)))
    (λ ts l. ap bound_ids (text_list ts) ∙ bound_of_list (map by_texts ts) ∙ ap (flat_map (λ ids. ids)) (each_bound ts l) ∙ flat_row (map bound_ids ts) ∙ ap all_cleared (sym (bound_of_list ts)))
    (λ k ts l. ap bound_ids (text_tree k ts) ∙ bound_of_tree k (map by_texts ts) ∙ ap (in_parts (field_role k)) (each_bound ts l) ∙ parts_row (field_role k) (map bound_ids ts) ∙ ap all_cleared (sym (bound_of_tree k ts))) t

name_same : (t : Node) → id_of (name_in (out-Node (by_texts t))) ≡ all_cleared (id_of (name_in (out-Node t)))
name_same t = by_children (λ t. id_of (name_in (out-Node (by_texts t))) ≡ all_cleared (id_of (name_in (out-Node t))))
    (search (rules, the_lemmas), λ x. search (rules, the_lemmas), λ w. search (rules, the_lemmas), λ x. search (rules, the_lemmas), λ s. search (rules, the_lemmas), λ k i. search (rules, the_lemmas))
    (λ ts l. search (rules, the_lemmas)) (λ k ts l. search (rules, the_lemmas)) t

field_same : (n : ℕ) (ts : List Node) → id_of (name_of (slice_get (map by_texts ts) n)) ≡ all_cleared (id_of (name_of (slice_get ts n)))
field_same n [] = refl
field_same zero (t ∷ ts) = name_same t
field_same (suc n) (t ∷ ts) = field_same n ts

declared_of_tree : (k : Kind) (ts : List Node) → declared_ids (Tree k ts) ≡ declared_in (Tree k ts) (Node-F.Tree k ts)
declared_of_tree k ts = search (rules, the_lemmas)

declared_row : (k : Kind) (ts : List Node) → declared_in (Tree k (map by_texts ts)) (Node-F.Tree k (map by_texts ts)) ≡ all_cleared (declared_in (Tree k ts) (Node-F.Tree k ts))
declared_row kind.FnDecl ts = field_same fn_decl.IDENT ts
declared_row kind.ClassDecl ts = field_same class_decl.IDENT ts
declared_row k ts = ap bound_ids (sym (text_tree k ts)) ∙ bound_same (Tree k ts)

declared_leaf : (t u : Node) → by_texts t ≡ u → declared_ids u ≡ bound_ids u → declared_ids t ≡ bound_ids t → declared_ids (by_texts t) ≡ all_cleared (declared_ids t)
declared_leaf t u e g h = ap declared_ids e ∙ g ∙ ap bound_ids (sym e) ∙ bound_same t ∙ ap all_cleared (sym h)

pub declared_same : (t : Node) → declared_ids (by_texts t) ≡ all_cleared (declared_ids t)
declared_same t = by_children (λ t. declared_ids (by_texts t) ≡ all_cleared (declared_ids t)) (
  declared_leaf Absent Absent text_absent (search (rules, the_lemmas)) (search (rules, the_lemmas)),
  λ x. declared_leaf (Flag x) (Flag x) (text_flag x) (search (rules, the_lemmas)) (search (rules, the_lemmas)),
  λ w. declared_leaf (Word w) (Word w) (text_word w) (search (rules, the_lemmas)) (search (rules, the_lemmas)),
  λ x. declared_leaf (Text x) (Text x) (text_text x) (search (rules, the_lemmas)) (search (rules, the_lemmas)),
  λ s. declared_leaf (Span s) (Span s) (text_span s) (search (rules, the_lemmas)) (search (rules, the_lemmas)),
  λ k i. declared_leaf (Identifier k i) (Identifier k (bare i)) (text_name k i) (search (rules, the_lemmas)) (search (rules, the_lemmas)),
)
    (λ ts l. declared_leaf (Many ts) (Many (map by_texts ts)) (text_list ts) (search (rules, the_lemmas)) (search (rules, the_lemmas)))
    (λ k ts l. ap declared_ids (text_tree k ts) ∙ declared_of_tree k (map by_texts ts) ∙ declared_row k ts ∙ ap all_cleared (sym (declared_of_tree k ts))) t

-- ---- ids of one text are one

abbrev pub Agrees : Ident → List Ident → Type 0
Agrees i [] = Unit {0}
Agrees i (j ∷ js) = (same_id (bare i) (bare j) ≡ same_id i j) × Agrees i js

-- texts alone tell some ids apart
abbrev pub AreApart : List Ident → Type 0
AreApart [] = Unit {0}
AreApart (i ∷ is) = Agrees i is × AreApart is

abbrev other_than : Ident → Ident → Bool
other_than i j = not (same_id i j)

kept_if : (b : Bool) (i j : Ident) (js : List Ident) → same_id (bare i) (bare j) ≡ same_id i j → Agrees i js → Agrees i (if b then j ∷ js else js)
kept_if true i j js h l = (h, l)
kept_if false i j js h l = l

filter_agrees : (p : Ident → Bool) (i : Ident) (js : List Ident) → Agrees i js → Agrees i (filter p js)
filter_agrees p i [] l = tt
filter_agrees p i (j ∷ js) l = kept_if (p j) i j (filter p js) l.0 (filter_agrees p i js l.1)

once_agrees : (i : Ident) (js : List Ident) → Agrees i js → Agrees i (each_once js)
once_agrees i [] l = tt
once_agrees i (j ∷ js) l = (l.0, filter_agrees (other_than j) i (each_once js) (once_agrees i js l.1))

filter_if : (b : Bool) (j : Ident) (js us : List Ident) → us ≡ map bare js → (if b then bare j ∷ us else us) ≡ map bare (if b then j ∷ js else js)
filter_if true j js us e = ap (λ us. bare j ∷ us) e
filter_if false j js us e = e

filter_bare : (i : Ident) (js : List Ident) → Agrees i js → filter (other_than (bare i)) (map bare js) ≡ map bare (filter (other_than i) js)
filter_bare i [] l = refl
filter_bare i (j ∷ js) l =
    ap (λ b. if not b then bare j ∷ filter (other_than (bare i)) (map bare js) else filter (other_than (bare i)) (map bare js)) l.0
    ∙ filter_if (other_than i j) j (filter (other_than i) js) (filter (other_than (bare i)) (map bare js)) (filter_bare i js l.1)

once_bare : (is : List Ident) → AreApart is → each_once (map bare is) ≡ map bare (each_once is)
once_bare [] l = refl
once_bare (i ∷ is) l =
    ap (λ us. bare i ∷ filter (other_than (bare i)) us) (once_bare is l.1)
    ∙ ap (λ us. bare i ∷ us) (filter_bare i (each_once is) (once_agrees i is l.0))

-- ---- exported declarations

made_bare : (ids : List Id) → map made (all_cleared ids) ≡ map bare (map made ids)
made_bare [] = refl
made_bare (x ∷ ids) = ap (λ us. bare (made x) ∷ us) (made_bare ids)

itself_bare : (i : Ident) → by_texts (exported_as_itself i) ≡ exported_as_itself (bare i)
itself_bare i = search (rules, the_lemmas)

each_itself : (is : List Ident) → map by_texts (map exported_as_itself is) ≡ map exported_as_itself (map bare is)
each_itself [] = refl
each_itself (i ∷ is) = rw (itself_bare i, each_itself is) refl

list_bare : (ts : List Node) → by_texts (Tree kind.NamedExport (Span no_span ∷ Many ts ∷ Absent ∷ Absent ∷ [])) ≡ Tree kind.NamedExport (Span no_span ∷ Many (map by_texts ts) ∷ Absent ∷ Absent ∷ [])
list_bare ts = text_tree kind.NamedExport (Span no_span ∷ Many ts ∷ Absent ∷ Absent ∷ []) ∙ rw (text_span no_span, text_list ts, text_absent) refl

export_bare : (is : List Ident) → by_texts (export_list is) ≡ export_list (map bare is)
export_bare is = list_bare (map exported_as_itself is) ∙ ap (λ us. Tree kind.NamedExport (Span no_span ∷ Many us ∷ Absent ∷ Absent ∷ [])) (each_itself is)

abbrev exported : Node → Node
exported t = export_list (each_once (map made (declared_ids t)))

exported_same : (t : Node) → AreApart (map made (declared_ids t)) → exported (by_texts t) ≡ by_texts (exported t)
exported_same t l =
    let is = map made (declared_ids t) in
    ap (λ ids. export_list (each_once (map made ids))) (declared_same t) ∙ ap (λ is. export_list (each_once is)) (made_bare (declared_ids t)) ∙ ap export_list (once_bare is l) ∙ sym (export_bare (each_once is))

-- where the node is an exported declaration, texts alone tell apart what it declares
abbrev pub Exports : Node → Type 0
Exports t = (s d : Node) → t ≡ Tree kind.ExportDecl (s ∷ d ∷ []) → AreApart (map made (declared_ids d))

split_of_tree : (k : Kind) (ts : List Node) → split (Tree k ts) ≡ split_in (Tree k ts) (Node-F.Tree k ts)
split_of_tree k ts = search (rules, the_lemmas)

split_row : (k : Kind) (ts : List Node) → Exports (Tree k ts) → split_in (Tree k (map by_texts ts)) (Node-F.Tree k (map by_texts ts)) ≡ map by_texts (split_in (Tree k ts) (Node-F.Tree k ts))
split_row kind.ExportDecl (s ∷ d ∷ []) l = ap (λ u. by_texts d ∷ u ∷ []) (exported_same d (l s d refl))
split_row k ts l = ap (λ t. t ∷ []) (sym (text_tree k ts))

split_leaf : (t u : Node) → by_texts t ≡ u → split u ≡ u ∷ [] → split t ≡ t ∷ [] → split (by_texts t) ≡ map by_texts (split t)
split_leaf t u e g h = ap split e ∙ g ∙ ap (λ u. u ∷ []) (sym e) ∙ sym (ap (map by_texts) h)

abbrev Splits : Node → Type 0
Splits t = Exports t → split (by_texts t) ≡ map by_texts (split t)

split_same : (t : Node) → Splits t
split_same t = by_children Splits (
  λ l. split_leaf Absent Absent text_absent (search (rules, the_lemmas)) (search (rules, the_lemmas)),
  λ x l. split_leaf (Flag x) (Flag x) (text_flag x) (search (rules, the_lemmas)) (search (rules, the_lemmas)),
  λ w l. split_leaf (Word w) (Word w) (text_word w) (search (rules, the_lemmas)) (search (rules, the_lemmas)),
  λ x l. split_leaf (Text x) (Text x) (text_text x) (search (rules, the_lemmas)) (search (rules, the_lemmas)),
  λ s l. split_leaf (Span s) (Span s) (text_span s) (search (rules, the_lemmas)) (search (rules, the_lemmas)),
  λ k i l. split_leaf (Identifier k i) (Identifier k (bare i)) (text_name k i) (search (rules, the_lemmas)) (search (rules, the_lemmas)),
)
    (λ ts h l. split_leaf (Many ts) (Many (map by_texts ts)) (text_list ts) (search (rules, the_lemmas)) (search (rules, the_lemmas)))
    (λ k ts h l. ap split (text_tree k ts) ∙ split_of_tree k (map by_texts ts) ∙ split_row k ts l ∙ sym (ap (map by_texts) (split_of_tree k ts))) t

append_texts : (ts us : List Node) → map by_texts (ts ++ us) ≡ map by_texts ts ++ map by_texts us
append_texts [] us = refl
append_texts (t ∷ ts) us = ap (λ vs. by_texts t ∷ vs) (append_texts ts us)

all_split : (ts : List Node) → Each Exports ts → flat_map split (map by_texts ts) ≡ map by_texts (flat_map split ts)
all_split [] l = refl
all_split (t ∷ ts) l = rw (split_same t l.0, all_split ts l.1) (sym (append_texts (split t) (flat_map split ts)))

-- ---- modules

abbrev pub normals : List Node → List Node
normals ts = map written_out (map stripped ts)

module_step : (a b c : Node) → Each Exports (items_of b) → written_step (Node-F.Tree kind.Module (by_texts a ∷ by_texts b ∷ by_texts c ∷ [])) ≡ by_texts (written_step (Node-F.Tree kind.Module (a ∷ b ∷ c ∷ [])))
module_step a b c l =
    ap (λ us. Tree kind.Module (by_texts a ∷ Many (flat_map split us) ∷ by_texts c ∷ [])) (items_same b)
    ∙ ap (λ us. Tree kind.Module (by_texts a ∷ Many us ∷ by_texts c ∷ [])) (all_split (items_of b) l)
    ∙ ap (λ u. Tree kind.Module (by_texts a ∷ u ∷ by_texts c ∷ [])) (sym (text_list (flat_map split (items_of b))))
    ∙ sym (text_tree kind.Module (a ∷ Many (flat_map split (items_of b)) ∷ c ∷ []))

strips : (ts : List Node) → IsTrue (list_all is_inner ts) → IsTrue (list_all is_inner (map stripped ts))
strips [] h = refl
strips (t ∷ ts) h = let p = both (is_inner t) (list_all is_inner ts) h in ap (λ b. b && list_all is_inner (map stripped ts)) (stripped_inner t p.0) ∙ strips ts p.1

of_module : (a b c : Node) → normal_form (Tree kind.Module (a ∷ b ∷ c ∷ [])) ≡ written_step (Node-F.Tree kind.Module (normals (a ∷ b ∷ c ∷ [])))
of_module a b c = ap written_out (stripped_other kind.Module (a ∷ b ∷ c ∷ []) refl) ∙ written_of_tree kind.Module (map stripped (a ∷ b ∷ c ∷ []))

items_are : (ts : List Node) → written_out (stripped (Many ts)) ≡ Many (normals ts)
items_are ts = ap written_out (stripped_of_list ts) ∙ written_of_list (map stripped ts)

pub normal_texts : (a : Node) (ts : List Node) (c : Node) → IsTrue (list_all is_inner (a ∷ Many ts ∷ c ∷ [])) → Each Exports (normals ts)
    → normal_form (by_texts (Tree kind.Module (a ∷ Many ts ∷ c ∷ []))) ≡ by_texts (normal_form (Tree kind.Module (a ∷ Many ts ∷ c ∷ [])))
normal_texts a ts c h l =
    let fields : List Node = a ∷ Many ts ∷ c ∷ [] in
    let items : items_of (written_out (stripped (Many ts))) ≡ normals ts = ap items_of (items_are ts) ∙ items_of_list (normals ts) in
    ap written_out (stripped_texts (Tree kind.Module fields) ∙ ap by_texts (stripped_other kind.Module fields refl) ∙ text_tree kind.Module (map stripped fields))
    ∙ written_of_tree kind.Module (map by_texts (map stripped fields))
    ∙ ap (λ us. written_step (Node-F.Tree kind.Module us)) (all_written (map stripped fields) (strips fields h))
    ∙ module_step (written_out (stripped a)) (written_out (stripped (Many ts))) (written_out (stripped c)) (subst (Each Exports) (sym items) l)
    ∙ ap by_texts (sym (of_module a (Many ts) c))
