-- In a program that can be written down no types stand.
use Rattle.std.proofs.Common.{◌≡◌, ◌==◌, ◌||◌, ℕ, Bool, true, false, not, Some, List, [], ◌∷◌, map, refl, sym, ap, ◌∙◌, rules}
use Rattle.std.specs.List.{list_all, list_any}
use Rattle.swc_tree_node.specs.declared.kind.Kind.{Kind}
use Rattle.swc_tree_node.specs.declared.kind.Kind.TheVariants as kind
use Rattle.swc_tree_node.specs.declared.kind.Class.{Class}
use Rattle.swc_tree_node.specs.declared.slot.Content.{Content}
use Rattle.swc_tree_node.specs.declared.slot.Content.TheVariants as content
use Rattle.swc_tree_node.specs.declared.slot.Slot.{Slot}
use Rattle.swc_tree_node.specs.declared.slot.Slot.TheVariants as slot
use Rattle.swc_tree_node.specs.declared.node.Node.{Node, List as Many, Tree, the_lemmas}
use Rattle.swc_tree_node.specs.declared.node.Node.TheOpen.{Node-F}
use Rattle.swc_tree_node.specs.Table.{kind_number, kinds_of, slots_of}
use Rattle.swc_tree_node.specs.Fits.{AllFit, FieldsFit, Fits, single}
use Rattle.swc_tree_spaces.specs.Spaces.{has_types, is_of_types}
use Rattle.swc_tree_has_types.proofs.Told.{types_of_list, types_of_tree}
use Rattle.swc_tree_grammar.specs.Writable.{Round, Writable, in_head_in, sound_in}
use Rattle.swc_tree_grammar.proofs.Asked.{asked}
use Rattle.swc_tree_grammar.proofs.Induction.{Each, by_children}
use Rattle.swc_tree_grammar.proofs.Places.{among, stands}
use Rattle.swc_tree_grammar_laws.specs.Every.{every}
use Rattle.swc_tree_grammar_laws.proofs.Every.{every_list, every_tree}
use Rattle.swc_tree_grammar_laws.proofs.Levelled.{half}
use Rattle.swc_base_fixer_laws.specs.Sets.{item}
use Rattle.swc_base_fixer_laws.proofs.Quiet.{is_quiet, items_fit}
use Rattle.swc_base_fixer_laws.proofs.Everywhere.{Everywhere, Parts, everywhere}

-- ---- no declaration of a type stands in what is sound

abbrev is_other_in : Node-F Node → Bool
is_other_in (Node-F.Tree kind.TsInterfaceDecl ts) = false
is_other_in (Node-F.Tree kind.TsTypeAliasDecl ts) = false
is_other_in (Node-F.Tree kind.TsEnumDecl ts) = false
is_other_in (Node-F.Tree kind.TsModuleDecl ts) = false
is_other_in _ = true

abbrev is_free : Node → Bool
is_free = every is_other_in

no_quiet : (k : Kind) (ts : List Node) → list_all is_quiet (slots_of k) ≡ true → is_other_in (Node-F.Tree k ts) ≡ true
no_quiet kind.TsInterfaceDecl ts q = absurd (cc)
no_quiet kind.TsTypeAliasDecl ts q = absurd (cc)
no_quiet kind.TsEnumDecl ts q = absurd (cc)
no_quiet kind.TsModuleDecl ts q = absurd (cc)
no_quiet k ts q = refl

no_sound : (k : Kind) (ts : List Node) → Parts is_free (slots_of k) ts → (r : Round) → sound_in (Node-F.Tree k (map asked ts)) r ≡ true → is_other_in (Node-F.Tree k ts) ≡ true
no_sound kind.TsInterfaceDecl ts x r h = absurd (cc)
no_sound kind.TsTypeAliasDecl ts x r h = absurd (cc)
no_sound kind.TsEnumDecl ts x r h = absurd (cc)
no_sound kind.TsModuleDecl ts x r h = absurd (cc)
no_sound k ts x r h = refl

no_head : (k : Kind) (ts : List Node) (r : Round) → in_head_in (Node-F.Tree k (map asked ts)) r ≡ true → is_other_in (Node-F.Tree k ts) ≡ true
no_head kind.TsInterfaceDecl ts r h = absurd (cc)
no_head kind.TsTypeAliasDecl ts r h = absurd (cc)
no_head kind.TsEnumDecl ts r h = absurd (cc)
no_head kind.TsModuleDecl ts r h = absurd (cc)
no_head k ts r h = refl

freeing : Everywhere is_free (λ k ts. is_other_in (Node-F.Tree k ts))
freeing = record {
  of_leaves = (search (rules, the_lemmas), λ x. search (rules, the_lemmas), λ w. search (rules, the_lemmas), λ x. search (rules, the_lemmas), λ r. search (rules, the_lemmas), λ k i. search (rules, the_lemmas));
  of_list = every_list is_other_in;
  of_tree = every_tree is_other_in;
  own_quiet = no_quiet;
  own_sound = no_sound;
  own_head = no_head;
}

-- ---- and the other nodes of types stand only below one

abbrev inner_kinds : List Kind
inner_kinds = kind.TsTypeParam ∷ kind.TsEnumMember ∷ kind.TsKeywordType ∷ kind.TsTypeRef ∷ kind.TsArrayType ∷ kind.TsUnionType ∷ kind.TsTypeLit ∷ kind.TsPropertySignature ∷ kind.TsQualifiedName ∷ []

abbrev is_outer : ℕ → Bool
is_outer n = not (list_any (λ x. n == kind_number x) inner_kinds)

abbrev is_outer_content : Content → Bool
is_outer_content (content.Node c) = list_all (λ k. is_outer (kind_number k)) (kinds_of c)
is_outer_content _ = true

-- none of them may stand in the place
abbrev pub is_untyped : Slot → Bool
is_untyped (slot.One c) = is_outer_content c
is_untyped (slot.Optional c) = is_outer_content c
is_untyped (slot.List c) = is_outer_content c
is_untyped (slot.Holes c) = is_outer_content c
is_untyped (slot.OptionalList c) = is_outer_content c
is_untyped _ = true

untyped_class : (s : Slot) (c : Class) → single s ≡ Some (content.Node c) → is_untyped s ≡ true → is_outer_content (content.Node c) ≡ true
untyped_class (slot.One (content.Node d)) c e q = let x : d ≡ c = cc in ap (λ c. is_outer_content (content.Node c)) (sym x) ∙ q
untyped_class (slot.One d) c e q = absurd (cc)
untyped_class (slot.Optional (content.Node d)) c e q = let x : d ≡ c = cc in ap (λ c. is_outer_content (content.Node c)) (sym x) ∙ q
untyped_class (slot.Optional d) c e q = absurd (cc)
untyped_class s c e q = absurd (cc)

untyped_item : (s : Slot) → is_untyped s ≡ true → is_untyped (item s) ≡ true
untyped_item (slot.List c) q = q
untyped_item (slot.OptionalList c) q = q
untyped_item (slot.Holes c) q = q
untyped_item s q = refl

untyped_fields : (k : Kind) → is_of_types k ≡ false → list_all is_untyped (slots_of k) ≡ true
untyped_fields kind.TsInterfaceDecl h = absurd (cc)
untyped_fields kind.TsTypeAliasDecl h = absurd (cc)
untyped_fields kind.TsTypeParam h = absurd (cc)
untyped_fields kind.TsEnumDecl h = absurd (cc)
untyped_fields kind.TsEnumMember h = absurd (cc)
untyped_fields kind.TsModuleDecl h = absurd (cc)
untyped_fields kind.TsKeywordType h = absurd (cc)
untyped_fields kind.TsTypeRef h = absurd (cc)
untyped_fields kind.TsArrayType h = absurd (cc)
untyped_fields kind.TsUnionType h = absurd (cc)
untyped_fields kind.TsTypeLit h = absurd (cc)
untyped_fields kind.TsPropertySignature h = absurd (cc)
untyped_fields kind.TsQualifiedName h = absurd (cc)
untyped_fields k h = refl

not_of_types : (k : Kind) (ts : List Node) → is_outer (kind_number k) ≡ true → is_other_in (Node-F.Tree k ts) ≡ true → is_of_types k ≡ false
not_of_types kind.TsInterfaceDecl ts o f = absurd (cc)
not_of_types kind.TsTypeAliasDecl ts o f = absurd (cc)
not_of_types kind.TsTypeParam ts o f = absurd (cc)
not_of_types kind.TsEnumDecl ts o f = absurd (cc)
not_of_types kind.TsEnumMember ts o f = absurd (cc)
not_of_types kind.TsModuleDecl ts o f = absurd (cc)
not_of_types kind.TsKeywordType ts o f = absurd (cc)
not_of_types kind.TsTypeRef ts o f = absurd (cc)
not_of_types kind.TsArrayType ts o f = absurd (cc)
not_of_types kind.TsUnionType ts o f = absurd (cc)
not_of_types kind.TsTypeLit ts o f = absurd (cc)
not_of_types kind.TsPropertySignature ts o f = absurd (cc)
not_of_types kind.TsQualifiedName ts o f = absurd (cc)
not_of_types k ts o f = refl

abbrev Untyped : Node → Type 0
Untyped t = (s : Slot) → is_untyped s ≡ true → Fits t s → is_free t ≡ true → has_types t ≡ false

none_of : (s : Slot) (ts : List Node) → Each Untyped ts → is_untyped s ≡ true → AllFit s ts → list_all is_free ts ≡ true → list_any has_types ts ≡ false
none_of s [] l q f h = refl
none_of s (t ∷ ts) l q f h = let p = half h in ap (λ b. b || list_any has_types ts) (l.0 s q f.0 p.0) ∙ none_of s ts l.1 q f.1 p.1

none_in : (ss : List Slot) (ts : List Node) → Each Untyped ts → list_all is_untyped ss ≡ true → FieldsFit ss ts → list_all is_free ts ≡ true → list_any has_types ts ≡ false
none_in [] [] l q f h = refl
none_in [] (t ∷ ts) l q f h = absurd f
none_in (s ∷ ss) [] l q f h = absurd f
none_in (s ∷ ss) (t ∷ ts) l q f h = let p = half h in let r = half q in ap (λ b. b || list_any has_types ts) (l.0 s r.0 f.0 p.0) ∙ none_in ss ts l.1 r.1 f.1 p.1

untyped_list : (ts : List Node) → Each Untyped ts → Untyped (Many ts)
untyped_list ts l s q f h = types_of_list ts ∙ none_of (item s) ts l (untyped_item s q) (items_fit s ts f) (sym (every_list is_other_in ts) ∙ h)

untyped_tree : (k : Kind) (ts : List Node) → Each Untyped ts → Untyped (Tree k ts)
untyped_tree k ts l s q f h =
    let w = stands k ts s f in
    let p = half (sym (every_tree is_other_in k ts) ∙ h) in
    let own : is_of_types k ≡ false = not_of_types k ts (among is_outer (kind_number k) (kinds_of w.in_class) w.belonging (untyped_class s w.in_class w.place q)) p.0 in
    types_of_tree k ts ∙ ap (λ b. b || list_any has_types ts) own ∙ none_in (slots_of k) ts l (untyped_fields k own) w.fields p.1

untyped : (t : Node) → Untyped t
untyped = by_children Untyped
    (λ s q f h. search (rules, the_lemmas), λ x s q f h. search (rules, the_lemmas), λ w s q f h. search (rules, the_lemmas), λ x s q f h. search (rules, the_lemmas), λ r s q f h. search (rules, the_lemmas), λ k i s q f h. search (rules, the_lemmas))
    untyped_list untyped_tree

pub writable_has_no_types : (t : Node) (s : Slot) → is_untyped s ≡ true → Fits t s → Writable t → has_types t ≡ false
writable_has_no_types t s q f w = untyped t s q f (everywhere freeing t s f (record { strict = false; assigned = false }) w)
