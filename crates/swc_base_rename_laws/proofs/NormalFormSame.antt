-- What is like a tree is the same but for names.
use Rattle.std.proofs.Common.{◌≡◌, ℕ, zero, suc, Bool, true, false, not, ◌&&◌, ◌||◌, ◌==◌, IsTrue, Some, List, [], ◌∷◌, map, refl, sym, ap, ◌∙◌, inl, inr, nat_eq, true≢false}
use Rattle.std.specs.Prelude.{if◌then◌else◌, is_some, option_map, slice_get, unwrap_or}
use Rattle.std.specs.List.{list_all, list_any}
use Rattle.std.specs.Cmp.{unsigned_Decides}
use Rattle.std.specs.Cmp.Lexicographic.{pointwise}
use Rattle.std.proofs.lemmas.Cmp.{nat_list_eq_equiv}
use Rattle.swc_tree_marks.specs.declared.ident.Ident.{Ident}
use Rattle.swc_tree_node.specs.declared.kind.Kind.{Kind}
use Rattle.swc_tree_node.specs.declared.kind.Kind.TheVariants as kind
use Rattle.swc_tree_node.specs.declared.slot.Slot.{Slot}
use Rattle.swc_tree_node.specs.declared.slot.Role.{Role}
use Rattle.swc_tree_node.specs.declared.slot.Role.TheVariants as role
use Rattle.swc_tree_node.specs.declared.node.Node.{Node, Absent, Flag, Word, Text, Span, List as Many, Identifier, Tree, out-Node}
use Rattle.swc_tree_node.specs.declared.node.Node.TheVariants.{outs-Absent, outs-Flag, outs-Word, outs-Text, outs-Span, outs-List, outs-Identifier, outs-Tree}
use Rattle.swc_tree_node.specs.declared.node.Node.TheOpen.{Node-F}
use Rattle.swc_tree_node.specs.Table.{fields_of, kind_number, word_number}
use Rattle.swc_tree_scoping.specs.declared.places.Place.{Place as ScopingPlace}
use Rattle.swc_tree_scoping.specs.declared.places.Standing.TheVariants as standing
use Rattle.swc_tree_scoping.specs.Places.{absent_in, children_in, field_role, place_in}
use Rattle.swc_tree_scoping.specs.Folds.{each_in, fold_in_place}
use Rattle.swc_tree_scoping.proofs.Under.{fold_in_place_out}
use Rattle.swc_tree_grammar.specs.Normal.{same_id}
use Rattle.swc_tree_scoping.specs.Scopes.{is_name}
use Rattle.swc_tree_grammar.specs.Same.{each_same, same_flag, same_in, same_step}
use Rattle.swc_base_rename_substitution.specs.declared.place.Place.{Place}
use Rattle.swc_base_rename_substitution.specs.declared.place.Place.TheVariants as place
use Rattle.swc_base_rename_substitution.specs.Places as spot
use Rattle.swc_base_rename_substitution.specs.Places.{by_role, has_source, within}
use Rattle.swc_base_rename_substitution.specs.Identifiers.{Changes, id_of}
use Rattle.swc_base_rename_substitution.proofs.NamesOfScoping.{role_is, part_is}
use Rattle.swc_base_rename_laws.proofs.NormalFormPairs.{Alike, AlikeIds, Like, Likes, LikeFields, flag_below, flags, is_left}

-- ---- fields that hold names

abbrev pub not_local : Role → Bool
not_local role.ExportLocal = false
not_local r = true

pub no_locals : (k : Kind) → is_left k ≡ true → list_all (λ (f : List ℕ × Slot × Role). not_local f.2) (fields_of k) ≡ true
no_locals kind.NamedExport h = absurd (true≢false (sym h))
no_locals k h = refl

pub within_is : (p : Place) → spot.is_name (within p) ≡ spot.is_name p
within_is place.Name = refl
within_is place.Shorthand = refl
within_is place.Exported = refl
within_is place.ClassName = refl
within_is place.Other = refl

pub below_is : (p : Place) (source : Bool) (r : Role) → not_local r ≡ true → spot.is_name (by_role p source r) ≡ flag_below (spot.is_name p) r
below_is p source role.Inherited h = within_is p
below_is p source role.ExportLocal h = absurd (cc)
below_is p source r h = refl

abbrev pub role_at : List (List ℕ × Slot × Role) → ℕ → Role
role_at fs i = unwrap_or (option_map (λ (f : List ℕ × Slot × Role). f.2) (slice_get fs i)) role.Plain

both_left : (a b : Bool) → (a && b) ≡ true → a ≡ true
both_left true b h = refl
both_left false b h = h

both_right : (a b : Bool) → (a && b) ≡ true → b ≡ true
both_right true b h = h
both_right false b h = absurd (cc)

and_both : (a b : Bool) → a ≡ true → b ≡ true → (a && b) ≡ true
and_both true b h g = g
and_both false b h g = absurd (cc)

flag_at : (b c : Bool) (fs : List (List ℕ × Slot × Role)) (i : ℕ) → list_all (λ (f : List ℕ × Slot × Role). not_local f.2) fs ≡ true → slice_get (map (λ (f : List ℕ × Slot × Role). flag_below b f.2) fs) i ≡ Some c
    → (not_local (role_at fs i) ≡ true) × (flag_below b (role_at fs i) ≡ c)
flag_at b c [] i l h = absurd (cc)
flag_at b c (f ∷ fs) zero l h = let same : flag_below b f.2 ≡ c = cc in (both_left (not_local f.2) _ l, same)
flag_at b c (f ∷ fs) (suc i) l h = flag_at b c fs i (both_right (not_local f.2) _ l) h

-- ---- the places of scoping

abbrev held : Bool → Place
held true = place.Name
held false = place.Other

held_is : (b : Bool) → spot.is_name (held b) ≡ b
held_is true = refl
held_is false = refl

pub no_source : not (absent_in (out-Node Absent)) ≡ false
no_source = ap (λ y. not (absent_in y)) outs-Absent

pub a_source : (xs : List Node) → not (absent_in (out-Node (Tree kind.Str xs))) ≡ true
a_source xs = ap (λ y. not (absent_in y)) (outs-Tree kind.Str xs)

pub local_is : (w : ScopingPlace) (ts : List Node) (b : Bool) → has_source ts ≡ b → is_name (place_in w (Node-F.Tree kind.NamedExport ts) 1).standing ≡ not b
local_is w ts true e = ap (λ b. is_name (if b then standing.Imported else standing.Reference)) e
local_is w ts false e = ap (λ b. is_name (if b then standing.Imported else standing.Reference)) e

-- the standing of a field
pub field_is : (w : ScopingPlace) (k : Kind) (ts : List Node) (b c : Bool) (i : ℕ) → is_left k ≡ true → is_name w.standing ≡ b → slice_get (flags b k) i ≡ Some c
    → is_name (place_in w (Node-F.Tree k ts) i).standing ≡ c
field_is w k ts b c i l e h = by_flag b e h
  where
    by_flag : (b : Bool) → is_name w.standing ≡ b → slice_get (flags b k) i ≡ Some c → is_name (place_in w (Node-F.Tree k ts) i).standing ≡ c
    by_flag b e h =
        let f = flag_at b c (fields_of k) i (no_locals k l) h in
        sym (role_is (held b) w k ts i (field_role k i) (held_is b ∙ sym e))
        ∙ below_is (held b) (has_source ts) (field_role k i) f.0
        ∙ ap (λ b. flag_below b (field_role k i)) (held_is b) ∙ f.1

pub item_is : (w : ScopingPlace) (ts : List Node) (b : Bool) (i : ℕ) → is_name w.standing ≡ b → is_name (place_in w (Node-F.List ts) i).standing ≡ b
item_is w ts b i e = sym (part_is w.standing (slice_get ts i)) ∙ e

module _ (m : Changes) (changing : List Ident) (named : (i : Ident) → IsTrue (is_some (m (id_of i))) → IsTrue (list_any (same_id i) changing)) where
  abbrev same_at : ScopingPlace → Node → Node → Bool
  same_at = fold_in_place (same_step changing)

  abbrev layered : ScopingPlace → Node-F Node → Node-F Node → Bool
  layered w y z = same_in changing w.standing (each_in same_at (place_in w y) (children_in y)) y z

  opens : (w : ScopingPlace) (t u : Node) (y z : Node-F Node) → out-Node t ≡ y → out-Node u ≡ z → layered w y z ≡ true → same_at w t u ≡ true
  opens w t u y z e f h =
      ap (λ g. g u) (fold_in_place_out (same_step changing) w t)
      ∙ ap (λ y. layered w y (out-Node u)) e ∙ ap (layered w y) f ∙ h

  numbers : (k : Kind) → (kind_number k == kind_number k) ≡ true
  numbers k = (unsigned_Decides (kind_number k) (kind_number k)).1 refl

  flags_same : (x : Bool) → same_flag x x ≡ true
  flags_same true = refl
  flags_same false = refl

  or_right : (a b : Bool) → b ≡ true → (a || b) ≡ true
  or_right true b h = refl
  or_right false b h = h

  or_left : (a b : Bool) → a ≡ true → (a || b) ≡ true
  or_left true b h = refl
  or_left false b h = absurd (cc)

  texts_same : (i j : Ident) (b : Bool) → AlikeIds m b i j → (pointwise nat_eq i.sym j.sym || (b && list_any (same_id i) changing)) ≡ true
  texts_same i j b (inl e) = or_left _ _ (ap (pointwise nat_eq i.sym) (ap (λ x. x.0) e.0) ∙ nat_list_eq_equiv.refl i.sym)
  texts_same i j b (inr h) = or_right _ _ (and_both b _ h.0 (named i (ap is_some h.1)))

  of_list : (w : ScopingPlace) (ts us : List Node) → each_same (each_in same_at (place_in w (Node-F.List ts)) ts) us ≡ true → same_at w (Many ts) (Many us) ≡ true
  of_list w ts us h = opens w (Many ts) (Many us) _ _ (outs-List ts) (outs-List us) h

  of_tree : (w : ScopingPlace) (k : Kind) (ts us : List Node) → each_same (each_in same_at (place_in w (Node-F.Tree k ts)) ts) us ≡ true → same_at w (Tree k ts) (Tree k us) ≡ true
  of_tree w k ts us h = opens w (Tree k ts) (Tree k us) _ _ (outs-Tree k ts) (outs-Tree k us) (and_both _ _ (numbers k) h)

  mutual
    pub same_like : (b : Bool) (t u : Node) → Like m b t u → (w : ScopingPlace) → is_name w.standing ≡ b → same_at w t u ≡ true
    same_like b t u (Like.absent c) w e = opens w Absent Absent _ _ outs-Absent outs-Absent refl
    same_like b t u (Like.a_flag c x) w e = opens w (Flag x) (Flag x) _ _ (outs-Flag x) (outs-Flag x) (flags_same x)
    same_like b t u (Like.a_word c x) w e = opens w (Word x) (Word x) _ _ (outs-Word x) (outs-Word x) ((unsigned_Decides (word_number x) (word_number x)).1 refl)
    same_like b t u (Like.a_text c x) w e = opens w (Text x) (Text x) _ _ (outs-Text x) (outs-Text x) (nat_list_eq_equiv.refl x)
    same_like b t u (Like.a_span c x y same_span) w e = opens w (Span x) (Span y) _ _ (outs-Span x) (outs-Span y) refl
    same_like b t u (Like.name c k i j a) w e =
        opens w (Identifier k i) (Identifier k j) _ _ (outs-Identifier k i) (outs-Identifier k j)
        (and_both _ _ (numbers k) (ap (λ c. pointwise nat_eq i.sym j.sym || (c && list_any (same_id i) changing)) e ∙ texts_same i j c a.1))
    same_like b t u (Like.list c ts us l) w e = of_list w ts us (same_likes c ts us l (place_in w (Node-F.List ts)) (λ i. item_is w ts c i e))
    same_like b t u (Like.tree c k ts us n l) w e = of_tree w k ts us (same_fields (flags c k) ts us l (place_in w (Node-F.Tree k ts)) (λ i d h. field_is w k ts c d i n e h))
    same_like b t u (Like.exports c a0 c0 ts us d0 e0 a l d) w e =
        let all = a0 ∷ Many ts ∷ Absent ∷ d0 ∷ [] in
        let here = place_in w (Node-F.Tree kind.NamedExport all) in
        of_tree w kind.NamedExport all (c0 ∷ Many us ∷ Absent ∷ e0 ∷ [])
        (and_both _ _ (same_like false a0 c0 a (here 0) refl)
        (and_both _ _ (of_list (here 1) ts us (same_likes true ts us l (place_in (here 1) (Node-F.List ts)) (λ i. item_is (here 1) ts true i (local_is w all false no_source))))
        (and_both _ _ (opens (here 2) Absent Absent _ _ outs-Absent outs-Absent refl)
        (and_both _ _ (same_like false d0 e0 d (here 3) refl) refl))))
    same_like b t u (Like.reexports c a0 c0 ts us xs ys d0 e0 a l f d) w e =
        let all = a0 ∷ Many ts ∷ Tree kind.Str xs ∷ d0 ∷ [] in
        let here = place_in w (Node-F.Tree kind.NamedExport all) in
        of_tree w kind.NamedExport all (c0 ∷ Many us ∷ Tree kind.Str ys ∷ e0 ∷ [])
        (and_both _ _ (same_like false a0 c0 a (here 0) refl)
        (and_both _ _ (of_list (here 1) ts us (same_likes false ts us l (place_in (here 1) (Node-F.List ts)) (λ i. item_is (here 1) ts false i (local_is w all true (a_source xs)))))
        (and_both _ _ (of_tree (here 2) kind.Str xs ys (same_fields (flags false kind.Str) xs ys f (place_in (here 2) (Node-F.Tree kind.Str xs)) (λ i d h. field_is (here 2) kind.Str xs false d i refl refl h)))
        (and_both _ _ (same_like false d0 e0 d (here 3) refl) refl))))

    same_likes : (b : Bool) (ts us : List Node) → Likes m b ts us → (ws : ℕ → ScopingPlace) → ((i : ℕ) → is_name (ws i).standing ≡ b) → each_same (each_in same_at ws ts) us ≡ true
    same_likes b ts us (Likes.none c) ws e = refl
    same_likes b ts us (Likes.more c t0 u0 ts0 us0 h l) ws e = and_both _ _ (same_like c t0 u0 h (ws zero) (e zero)) (same_likes c ts0 us0 l (λ i. ws (suc i)) (λ i. e (suc i)))

    same_fields : (bs : List Bool) (ts us : List Node) → LikeFields m bs ts us → (ws : ℕ → ScopingPlace) → ((i : ℕ) (b : Bool) → slice_get bs i ≡ Some b → is_name (ws i).standing ≡ b)
        → each_same (each_in same_at ws ts) us ≡ true
    same_fields bs ts us LikeFields.end ws e = refl
    same_fields bs ts us (LikeFields.next b0 bs0 t0 u0 ts0 us0 h l) ws e =
        and_both _ _ (same_like b0 t0 u0 h (ws zero) (e zero b0 refl)) (same_fields bs0 ts0 us0 l (λ i. ws (suc i)) (λ i b g. e (suc i) b g))
