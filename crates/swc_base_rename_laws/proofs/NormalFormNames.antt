-- The normal form of a program that gets new names is the one that it had, with the new ids at names.
use Rattle.std.proofs.Common.{◌≡◌, ℕ, zero, suc, Bool, true, false, Option, Some, None, List, [], ◌∷◌, map, refl, sym, ap, ◌∙◌, subst, inl, inr}
use Rattle.std.specs.Prelude.{slice_get, unwrap_or, if◌then◌else◌}
use Rattle.swc_tree_marks.specs.declared.ident.Ident.{Ident}
use Rattle.swc_tree_node.specs.declared.kind.Kind.{Kind}
use Rattle.swc_tree_node.specs.declared.kind.Kind.TheVariants as kind
use Rattle.swc_tree_node.specs.declared.node.Node.{Node, Absent, Flag, Word, Text, Span, List as Many, Identifier, Tree, out-Node}
use Rattle.swc_tree_node.specs.declared.node.Node.TheVariants.{outs-Absent, outs-Flag, outs-Word, outs-Text, outs-Span, outs-List, outs-Identifier, outs-Tree}
use Rattle.swc_tree_node.specs.declared.node.Node.TheOpen.{Node-F}
use Rattle.swc_tree_scoping.specs.declared.places.Place.{Place}
use Rattle.swc_tree_scoping.specs.Places.{Path, child, children_in, given, place_at, place_below, place_in, program_place}
use Rattle.swc_tree_scoping.specs.Scopes.{is_name}
use Rattle.swc_base_rename_substitution.specs.Identifiers.{Changes, id_of}
use Rattle.swc_base_rename_laws.specs.NewNames.{HasNewNames, id_anew, outline}
use Rattle.swc_base_rename_laws.specs.Laws.{NormalFormHasNewNames}
use Rattle.swc_base_rename_laws.proofs.NormalFormPairs.{Alike, AlikeIds, Like, Likes, LikeFields, flags}
use Rattle.swc_base_rename_laws.proofs.NormalFormSame.{a_source, field_is, item_is, local_is, no_source}
use Rattle.swc_base_rename_laws.proofs.NormalFormStays.{normal_forms_like}
use Rattle.swc_base_rename_laws.proofs.Outline.{outline_identifier, outline_list, outline_span, outline_tree, pair_same, places_alike}

list_outline : (ts us : List Node) → map outline ts ≡ map outline us → outline (Many ts) ≡ outline (Many us)
list_outline ts us h = outline_list ts ∙ ap Many h ∙ sym (outline_list us)

tree_outline : (k : Kind) (ts us : List Node) → map outline ts ≡ map outline us → outline (Tree k ts) ≡ outline (Tree k us)
tree_outline k ts us h = outline_tree k ts ∙ ap (Tree k) h ∙ sym (outline_tree k us)

-- ---- the one identifier of a node that is one

not_tree : (A : Type 0) (k l : Kind) (ts : List Node) (i : Ident) → Tree k ts ≡ Identifier l i → A
not_tree A k l ts i h = let no : Node-F.Tree k ts ≡ Node-F.Identifier l i = sym (outs-Tree k ts) ∙ ap out-Node h ∙ outs-Identifier l i in absurd (cc)

other : (A : Type 0) (t : Node) (y : Node-F Node) (l : Kind) (i : Ident) → out-Node t ≡ y → ((y ≡ Node-F.Identifier l i) → A) → t ≡ Identifier l i → A
other A t y l i e f h = f (sym e ∙ ap out-Node h ∙ outs-Identifier l i)

abbrev Same : Node-F Node → Node-F Node → Type 0
Same y z = y ≡ z

module _ (m : Changes) where
  -- ---- shapes

  mutual
    outline_like : (b : Bool) (t u : Node) → Like m b t u → outline t ≡ outline u
    outline_like b t u (Like.absent _) = refl
    outline_like b t u (Like.a_flag _ x) = refl
    outline_like b t u (Like.a_word _ x) = refl
    outline_like b t u (Like.a_text _ x) = refl
    outline_like b t u (Like.a_span _ x y same_span) = outline_span x ∙ sym (outline_span y)
    outline_like b t u (Like.name _ k i j a) = outline_identifier k i ∙ sym (outline_identifier k j)
    outline_like b t u (Like.list c ts us l) = list_outline ts us (outlines_like c ts us l)
    outline_like b t u (Like.tree c k ts us e l) = tree_outline k ts us (fields_like (flags c k) ts us l)
    outline_like b t u (Like.exports _ a c ts us d e h l j) =
        outline_tree kind.NamedExport (a ∷ Many ts ∷ Absent ∷ d ∷ [])
        ∙ (λ i. Tree kind.NamedExport (outline_like false a c h i ∷ list_outline ts us (outlines_like true ts us l) i ∷ outline Absent ∷ outline_like false d e j i ∷ []))
        ∙ sym (outline_tree kind.NamedExport (c ∷ Many us ∷ Absent ∷ e ∷ []))
    outline_like b t u (Like.reexports _ a c ts us xs ys d e h l f j) =
        outline_tree kind.NamedExport (a ∷ Many ts ∷ Tree kind.Str xs ∷ d ∷ [])
        ∙ (λ i. Tree kind.NamedExport (outline_like false a c h i ∷ list_outline ts us (outlines_like false ts us l) i ∷ tree_outline kind.Str xs ys (fields_like (flags false kind.Str) xs ys f) i ∷ outline_like false d e j i ∷ []))
        ∙ sym (outline_tree kind.NamedExport (c ∷ Many us ∷ Tree kind.Str ys ∷ e ∷ []))

    outlines_like : (b : Bool) (ts us : List Node) → Likes m b ts us → map outline ts ≡ map outline us
    outlines_like b ts us (Likes.none _) = refl
    outlines_like b ts us (Likes.more c t u ts0 us0 h l) = λ i. outline_like c t u h i ∷ outlines_like c ts0 us0 l i

    fields_like : (bs : List Bool) (ts us : List Node) → LikeFields m bs ts us → map outline ts ≡ map outline us
    fields_like bs ts us LikeFields.end = refl
    fields_like bs ts us (LikeFields.next b bs0 t u ts0 us0 h l) = λ i. outline_like b t u h i ∷ fields_like bs0 ts0 us0 l i

  -- ---- what stands beside a child

  item_at : (b : Bool) (ts us : List Node) → Likes m b ts us → (i : ℕ) (c : Node) → slice_get ts i ≡ Some c → (d : Node) × (slice_get us i ≡ Some d) × Like m b c d
  item_at b ts us (Likes.none _) i c e = absurd (cc)
  item_at b ts us (Likes.more _ t u ts0 us0 h l) zero c e = let same : t ≡ c = cc in (u, refl, subst (λ t. Like m b t u) same h)
  item_at b ts us (Likes.more _ t u ts0 us0 h l) (suc i) c e = item_at b ts0 us0 l i c e

  field_at : (bs : List Bool) (ts us : List Node) → LikeFields m bs ts us → (i : ℕ) (c : Node) → slice_get ts i ≡ Some c
      → (d : Node) × (f : Bool) × (slice_get us i ≡ Some d) × (slice_get bs i ≡ Some f) × Like m f c d
  field_at bs ts us LikeFields.end i c e = absurd (cc)
  field_at bs ts us (LikeFields.next b bs0 t u ts0 us0 h l) zero c e = let same : t ≡ c = cc in (u, b, refl, refl, subst (λ t. Like m b t u) same h)
  field_at bs ts us (LikeFields.next b bs0 t u ts0 us0 h l) (suc i) c e = field_at bs0 ts0 us0 l i c e

  -- a child of the one tree, and what stands there in the other
  record Beside (w : Place) (y z : Node-F Node) (i : ℕ) (c : Node) : Type 0 where
    pub node : Node
    pub is : slice_get (children_in z) i ≡ Some node
    pub flag : Bool
    pub like : Like m flag c node
    pub stands : is_name (place_in w y i).standing ≡ flag

  abbrev Children : Node-F Node → Node-F Node → Bool → Type 0
  Children y z b = (w : Place) → is_name w.standing ≡ b → (i : ℕ) (c : Node) → slice_get (children_in y) i ≡ Some c → Beside w y z i c

  seen : (t u : Node) (y z : Node-F Node) (b : Bool) → out-Node t ≡ y → out-Node u ≡ z → Children y z b → Children (out-Node t) (out-Node u) b
  seen t u y z b e f h = subst (λ y. Children y (out-Node u) b) (sym e) (subst (λ z. Children y z b) (sym f) h)

  of_fields : (k : Kind) (bs : List Bool) (ts us : List Node) (b : Bool) → LikeFields m bs ts us
      → ((w : Place) → is_name w.standing ≡ b → (i : ℕ) (f : Bool) → slice_get bs i ≡ Some f → is_name (place_in w (Node-F.Tree k ts) i).standing ≡ f)
      → Children (Node-F.Tree k ts) (Node-F.Tree k us) b
  of_fields k bs ts us b l s w e i c h =
      let x = field_at bs ts us l i c h in
      record { node = x.0; is = x.2; flag = x.1; like = x.4; stands = s w e i x.1 x.3 }

  of_items : (ts us : List Node) (b : Bool) → Likes m b ts us → Children (Node-F.List ts) (Node-F.List us) b
  of_items ts us b l w e i c h =
      let x = item_at b ts us l i c h in
      record { node = x.0; is = x.1; flag = b; like = x.2; stands = item_is w ts b i e }

  export_is : (ts : List Node) (n f : Bool) (w : Place) → is_name (place_in w (Node-F.Tree kind.NamedExport ts) 1).standing ≡ n → (i : ℕ) → slice_get (false ∷ n ∷ false ∷ false ∷ []) i ≡ Some f
      → is_name (place_in w (Node-F.Tree kind.NamedExport ts) i).standing ≡ f
  export_is ts n f w e zero h = let same : false ≡ f = cc in same
  export_is ts n f w e (suc zero) h = let same : n ≡ f = cc in e ∙ same
  export_is ts n f w e (suc (suc zero)) h = let same : false ≡ f = cc in same
  export_is ts n f w e (suc (suc (suc zero))) h = let same : false ≡ f = cc in same
  export_is ts n f w e (suc (suc (suc (suc i)))) h = absurd (cc)

  children_like : (b : Bool) (t u : Node) → Like m b t u → Children (out-Node t) (out-Node u) b
  children_like b t u (Like.absent _) = seen Absent Absent _ _ b outs-Absent outs-Absent (λ w e i c h. absurd (cc))
  children_like b t u (Like.a_flag _ x) = seen (Flag x) (Flag x) _ _ b (outs-Flag x) (outs-Flag x) (λ w e i c h. absurd (cc))
  children_like b t u (Like.a_word _ x) = seen (Word x) (Word x) _ _ b (outs-Word x) (outs-Word x) (λ w e i c h. absurd (cc))
  children_like b t u (Like.a_text _ x) = seen (Text x) (Text x) _ _ b (outs-Text x) (outs-Text x) (λ w e i c h. absurd (cc))
  children_like b t u (Like.a_span _ x y same_span) = seen (Span x) (Span y) _ _ b (outs-Span x) (outs-Span y) (λ w e i c h. absurd (cc))
  children_like b t u (Like.name _ k i j a) = seen (Identifier k i) (Identifier k j) _ _ b (outs-Identifier k i) (outs-Identifier k j) (λ w e i c h. absurd (cc))
  children_like b t u (Like.list _ ts us l) = seen (Many ts) (Many us) _ _ b (outs-List ts) (outs-List us) (of_items ts us b l)
  children_like b t u (Like.tree _ k ts us n l) =
      seen (Tree k ts) (Tree k us) _ _ b (outs-Tree k ts) (outs-Tree k us) (of_fields k (flags b k) ts us b l (λ w e i f h. field_is w k ts b f i n e h))
  children_like b t u (Like.exports _ a c ts us d e h l j) =
      let all = a ∷ Many ts ∷ Absent ∷ d ∷ [] in
      let others = c ∷ Many us ∷ Absent ∷ e ∷ [] in
      let below = LikeFields.next false _ _ _ _ _ h (LikeFields.next true _ _ _ _ _ (Like.list true ts us l) (LikeFields.next false _ _ _ _ _ (Like.absent false) (LikeFields.next false _ _ _ _ _ j LikeFields.end))) in
      seen (Tree kind.NamedExport all) (Tree kind.NamedExport others) _ _ b (outs-Tree kind.NamedExport all) (outs-Tree kind.NamedExport others)
      (of_fields kind.NamedExport (false ∷ true ∷ false ∷ false ∷ []) all others b below (λ w g i f. export_is all true f w (local_is w all false no_source) i))
  children_like b t u (Like.reexports _ a c ts us xs ys d e h l s j) =
      let all = a ∷ Many ts ∷ Tree kind.Str xs ∷ d ∷ [] in
      let others = c ∷ Many us ∷ Tree kind.Str ys ∷ e ∷ [] in
      let below = LikeFields.next false _ _ _ _ _ h (LikeFields.next false _ _ _ _ _ (Like.list false ts us l) (LikeFields.next false _ _ _ _ _ (Like.tree false kind.Str xs ys refl s) (LikeFields.next false _ _ _ _ _ j LikeFields.end))) in
      seen (Tree kind.NamedExport all) (Tree kind.NamedExport others) _ _ b (outs-Tree kind.NamedExport all) (outs-Tree kind.NamedExport others)
      (of_fields kind.NamedExport (false ∷ false ∷ false ∷ false ∷ []) all others b below (λ w g i f. export_is all false f w (local_is w all true (a_source xs)) i))

  -- ---- names

  abbrev One : Bool → Node → Kind → Ident → Type 0
  One b u k i = (j : Ident) × (u ≡ Identifier k j) × Alike m b i j

  itself : (b : Bool) (k l : Kind) (i j n : Ident) → Alike m b i j → Same (Node-F.Identifier k i) (Node-F.Identifier l n) → One b (Identifier k j) l n
  itself b k l i j n a h =
      let kinds : k ≡ l = cc in
      let idents : i ≡ n = cc in
      (j, ap (λ k. Identifier k j) kinds, subst (λ i. Alike m b i j) idents a)

  one_like : (b : Bool) (t u : Node) (k : Kind) (i : Ident) → Like m b t u → t ≡ Identifier k i → One b u k i
  one_like b t u k i (Like.absent _) h = other _ Absent _ k i outs-Absent (λ e. absurd (cc)) h
  one_like b t u k i (Like.a_flag _ x) h = other _ (Flag x) _ k i (outs-Flag x) (λ e. absurd (cc)) h
  one_like b t u k i (Like.a_word _ x) h = other _ (Word x) _ k i (outs-Word x) (λ e. absurd (cc)) h
  one_like b t u k i (Like.a_text _ x) h = other _ (Text x) _ k i (outs-Text x) (λ e. absurd (cc)) h
  one_like b t u k i (Like.a_span _ x y same_span) h = other _ (Span x) _ k i (outs-Span x) (λ e. absurd (cc)) h
  one_like b t u k i (Like.name _ l n j a) h = other _ (Identifier l n) _ k i (outs-Identifier l n) (itself b l k n j i a) h
  one_like b t u k i (Like.list _ ts us l) h = other _ (Many ts) _ k i (outs-List ts) (λ e. absurd (cc)) h
  one_like b t u k i (Like.tree _ l ts us _ _) h = not_tree _ l k ts i h
  one_like b t u k i (Like.exports _ a c ts us d e _ _ _) h = not_tree _ kind.NamedExport k (a ∷ Many ts ∷ Absent ∷ d ∷ []) i h
  one_like b t u k i (Like.reexports _ a c ts us xs ys d e _ _ _ _) h = not_tree _ kind.NamedExport k (a ∷ Many ts ∷ Tree kind.Str xs ∷ d ∷ []) i h

  anew : (b : Bool) (i j : Ident) → AlikeIds m b i j → id_of j ≡ (if b then unwrap_or (m (id_of i)) (id_of i) else id_of i)
  anew true i j (inl x) = x.0 ∙ sym (ap (λ o. unwrap_or o (id_of i)) x.1)
  anew true i j (inr x) = sym (ap (λ o. unwrap_or o (id_of i)) x.1)
  anew false i j (inl x) = x.0
  anew false i j (inr x) = absurd (cc (x.0))

  abbrev There : Place → Node → Path → Place → Kind → Ident → Type 0
  There w u p v k i = (j : Ident) × (place_at w u p ≡ Some (v, Identifier k j)) × (id_of j ≡ id_anew m v.standing (id_of i))

  at_end : (b : Bool) (t u : Node) → Like m b t u → (w : Place) → is_name w.standing ≡ b → (v : Place) (k : Kind) (i : Ident) → w ≡ v → t ≡ Identifier k i → There w u [] v k i
  at_end b t u l w e v k i same is =
      let x = one_like b t u k i l is in
      (x.0, (λ n. Some (same n, x.1 n)), anew b i x.0 x.2.1 ∙ ap (λ b. if b then unwrap_or (m (id_of i)) (id_of i) else id_of i) (sym e ∙ ap (λ w. is_name w.standing) same))

  names_like : (p : Path) (b : Bool) (t u : Node) → Like m b t u → (w : Place) → is_name w.standing ≡ b → (v : Place) (k : Kind) (i : Ident) → place_at w t p ≡ Some (v, Identifier k i) → There w u p v k i
  names_like [] b t u l w e v k i h = let x = pair_same (w, t) (v, Identifier k i) h in at_end b t u l w e v k i (ap (λ (q : Place × Node). q.0) x) (ap (λ (q : Place × Node). q.1) x)
  names_like (n ∷ p) b t u l w e v k i h = by (λ f c d y x g. names_like p f c d y x g v k i) (child t n) refl h
    where
      by : ((f : Bool) (c d : Node) → Like m f c d → (x : Place) → is_name x.standing ≡ f → place_at x c p ≡ Some (v, Identifier k i) → There x d p v k i)
          → (o : Option Node) → child t n ≡ o → given o None (λ c. place_at (place_below w t n) c p) ≡ Some (v, Identifier k i) → There w u (n ∷ p) v k i
      by below None q h = absurd (cc)
      by below (Some c) q h =
          let x = children_like b t u l w e n c q in
          let y = below x.flag c x.node x.like (place_below w t n) x.stands h in
          (y.0, ap (λ o. given o None (λ c. place_at (place_below w u n) c p)) x.is ∙ ap (λ w. place_at w x.node p) (sym (places_alike t u (outline_like b t u l) w n)) ∙ y.1, y.2)

  new_names : (t u : Node) → Like m false t u → HasNewNames m t u
  new_names t u l = record { shape = outline_like false t u l; names = λ p w k i h. names_like p false t u l program_place refl w k i h }

pub normal_form_has_new_names : NormalFormHasNewNames
normal_form_has_new_names m tree answer f w e = new_names m _ _ (normal_forms_like m tree answer f w e)
