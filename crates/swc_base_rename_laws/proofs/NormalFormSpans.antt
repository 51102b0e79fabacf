-- The normal form of a program that gets new names has the spans that it had.
use Rattle.std.proofs.Common.{◌≡◌, Bool, true, false, List, [], ◌∷◌, map, refl, sym, ap, ◌∙◌, rules}
use Rattle.swc_tree_marks.specs.declared.span.Span.{Span as Range}
use Rattle.swc_tree_marks.specs.declared.ident.Ident.{Ident}
use Rattle.swc_tree_node.specs.declared.kind.Kind.{Kind}
use Rattle.swc_tree_node.specs.declared.kind.Kind.TheVariants as kind
use Rattle.swc_tree_node.specs.declared.node.Node.{Node, Absent, Span, List as Many, Identifier, Tree, the_lemmas}
use Rattle.swc_base_rename_substitution.specs.Identifiers.{Changes}
use Rattle.swc_base_rename_laws.specs.NewNames.{nameless}
use Rattle.swc_base_rename_laws.specs.Laws.{NormalFormKeepsSpans}
use Rattle.swc_base_rename_laws.proofs.NormalFormPairs.{Like, Likes, LikeFields, flags}
use Rattle.swc_base_rename_laws.proofs.NormalFormStays.{normal_forms_like}

-- an identifier that stands there, with no text and no context
abbrev pub at : Range → Ident
at r = record { span = r; ctxt = []; sym = [] }

pub nameless_identifier : (k : Kind) (i : Ident) → nameless (Identifier k i) ≡ Identifier k (at i.span)
nameless_identifier k i = search (rules, the_lemmas)

pub nameless_list : (ts : List Node) → nameless (Many ts) ≡ Many (map nameless ts)
nameless_list ts = search (rules, the_lemmas)

pub nameless_tree : (k : Kind) (ts : List Node) → nameless (Tree k ts) ≡ Tree k (map nameless ts)
nameless_tree k ts = search (rules, the_lemmas)

list_same : (ts us : List Node) → map nameless ts ≡ map nameless us → nameless (Many ts) ≡ nameless (Many us)
list_same ts us h = nameless_list ts ∙ ap Many h ∙ sym (nameless_list us)

tree_same : (k : Kind) (ts us : List Node) → map nameless ts ≡ map nameless us → nameless (Tree k ts) ≡ nameless (Tree k us)
tree_same k ts us h = nameless_tree k ts ∙ ap (Tree k) h ∙ sym (nameless_tree k us)

module _ (m : Changes) where
  mutual
    like_same : (b : Bool) (t u : Node) → Like m b t u → nameless t ≡ nameless u
    like_same b t u (Like.absent _) = refl
    like_same b t u (Like.a_flag _ x) = refl
    like_same b t u (Like.a_word _ x) = refl
    like_same b t u (Like.a_text _ x) = refl
    like_same b t u (Like.a_span _ x y e) = ap (λ s. nameless (Span s)) e
    like_same b t u (Like.name _ k i j a) = nameless_identifier k i ∙ ap (λ s. Identifier k (at s)) (sym a.0) ∙ sym (nameless_identifier k j)
    like_same b t u (Like.list c ts us l) = list_same ts us (likes_same c ts us l)
    like_same b t u (Like.tree c k ts us e l) = tree_same k ts us (fields_same (flags c k) ts us l)
    like_same b t u (Like.exports _ a c ts us d e h l j) =
        nameless_tree kind.NamedExport (a ∷ Many ts ∷ Absent ∷ d ∷ [])
        ∙ (λ i. Tree kind.NamedExport (like_same false a c h i ∷ list_same ts us (likes_same true ts us l) i ∷ nameless Absent ∷ like_same false d e j i ∷ []))
        ∙ sym (nameless_tree kind.NamedExport (c ∷ Many us ∷ Absent ∷ e ∷ []))
    like_same b t u (Like.reexports _ a c ts us xs ys d e h l f j) =
        nameless_tree kind.NamedExport (a ∷ Many ts ∷ Tree kind.Str xs ∷ d ∷ [])
        ∙ (λ i. Tree kind.NamedExport (like_same false a c h i ∷ list_same ts us (likes_same false ts us l) i ∷ tree_same kind.Str xs ys (fields_same (flags false kind.Str) xs ys f) i ∷ like_same false d e j i ∷ []))
        ∙ sym (nameless_tree kind.NamedExport (c ∷ Many us ∷ Tree kind.Str ys ∷ e ∷ []))

    likes_same : (b : Bool) (ts us : List Node) → Likes m b ts us → map nameless ts ≡ map nameless us
    likes_same b ts us (Likes.none _) = refl
    likes_same b ts us (Likes.more c t u ts0 us0 h l) = λ i. like_same c t u h i ∷ likes_same c ts0 us0 l i

    fields_same : (bs : List Bool) (ts us : List Node) → LikeFields m bs ts us → map nameless ts ≡ map nameless us
    fields_same bs ts us LikeFields.end = refl
    fields_same bs ts us (LikeFields.next b bs0 t u ts0 us0 h l) = λ i. like_same b t u h i ∷ fields_same bs0 ts0 us0 l i

pub normal_form_keeps_spans : NormalFormKeepsSpans
normal_form_keeps_spans m tree answer f w e = like_same m false _ _ (normal_forms_like m tree answer f w e)
