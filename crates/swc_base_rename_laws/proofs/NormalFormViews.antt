-- What is seen alike of a tree and of what it becomes.
use Rattle.std.proofs.Common.{◌≡◌, Bool, true, false, not, ◌&&◌, List, [], ◌∷◌, ◌++◌, take, refl, sym, ap, ◌∙◌, subst, true≢false}
use Rattle.std.specs.Prelude.{if◌then◌else◌}
use Rattle.std.specs.List.{filter, list_all}
use Rattle.swc_tree_marks.specs.declared.ident.Ident.{Ident}
use Rattle.swc_tree_node.specs.declared.kind.Kind.{Kind}
use Rattle.swc_tree_node.specs.declared.kind.Kind.TheVariants as kind
use Rattle.swc_tree_node.specs.declared.node.Node.{Node, Absent, Flag, Word, Text, Span, List as Many, Identifier, Tree, out-Node}
use Rattle.swc_tree_node.specs.declared.node.Node.TheVariants.{outs-Absent, outs-Flag, outs-Word, outs-Text, outs-Span, outs-List, outs-Identifier, outs-Tree}
use Rattle.swc_tree_node.specs.declared.node.Node.TheOpen.{Node-F}
use Rattle.swc_tree_scoping.specs.BoundNames.{Id}
use Rattle.swc_tree_grammar.specs.Shapes.{items_in, items_of}
use Rattle.swc_tree_grammar.specs.Stripped.{busy, effects, end as last_of, front, is_empty_in, is_idle, is_idle_in, is_idle_kind, is_member, is_void, is_void_in, parts, parts_in, target, target_in}
use Rattle.swc_tree_grammar.proofs.Stripped.{effects_of_tree}
use Rattle.swc_base_rename_substitution.specs.Identifiers.{Changes}
use Rattle.swc_base_rename_laws.proofs.NormalFormPairs.{All, Alike, Becomes, Spot, Trees, part}

-- ---- kinds that are no sequence, and drop no value

abbrev pub is_bare : Kind → Bool
is_bare kind.SeqExpr = false
is_bare kind.UnaryExpr = false
is_bare k = true

abbrev pub not_sequence : Kind → Bool
not_sequence kind.SeqExpr = false
not_sequence k = true

pub parts_single : (k : Kind) (ts : List Node) → not_sequence k ≡ true → parts (Tree k ts) ≡ Tree k ts ∷ []
parts_single kind.SeqExpr ts h = absurd (true≢false (sym h))
parts_single k ts h = ap (parts_in (Tree k ts)) (outs-Tree k ts)

pub effects_bare : (k : Kind) (ts : List Node) → is_bare k ≡ true → effects (Tree k ts) ≡ Tree k ts ∷ []
effects_bare kind.SeqExpr ts h = absurd (true≢false (sym h))
effects_bare kind.UnaryExpr ts h = absurd (true≢false (sym h))
effects_bare k ts h = effects_of_tree k ts

module _ (m : Changes) (declared : Node → List Id) where
  abbrev B : Bool → Spot → Node → Node → Type 0
  B = Becomes m declared

  abbrev A : Bool → Spot → List Node → List Node → Type 0
  A = All m declared

  pub moved : (g : Bool) (s : Spot) (t t' u u' : Node) → t ≡ t' → u ≡ u' → Becomes m declared g s t' u' → Becomes m declared g s t u
  moved g s t t' u u' e f h = subst (λ u. B g s t u) (sym f) (subst (λ t. B g s t u') (sym e) h)

  pub moved_all : (g : Bool) (s : Spot) (t t' u u' : List Node) → t ≡ t' → u ≡ u' → All m declared g s t' u' → All m declared g s t u
  moved_all g s t t' u u' e f h = subst (λ u. A g s t u) (sym f) (subst (λ t. A g s t u') (sym e) h)

  pub weaken : (g : Bool) (s : Spot) (t u : Node) → Becomes m declared true s t u → Becomes m declared g s t u
  weaken g s t u (Becomes.a_flag _ s0 x) = Becomes.a_flag g s0 x
  weaken g s t u (Becomes.a_word _ s0 x) = Becomes.a_word g s0 x
  weaken g s t u (Becomes.a_text _ s0 x) = Becomes.a_text g s0 x
  weaken g s t u (Becomes.a_span _ s0 x) = Becomes.a_span g s0 x
  weaken g s t u (Becomes.name _ s0 k i j a) = Becomes.name g s0 k i j a
  weaken g s t u (Becomes.short _ k i j a) = Becomes.short g k i j a
  weaken g s t u (Becomes.tree _ s0 k l ts us h) = Becomes.tree g s0 k l ts us h

  -- ---- kinds

  pub kinds_same : (P : Kind → Bool) → P kind.AssignPatProp ≡ P kind.KeyValuePatProp → (s : Spot) (k : Kind) (ts : List Node) (l : Kind) (us : List Node) → Trees m declared s k ts l us → P k ≡ P l
  kinds_same P e s k ts l us (Trees.even _ _ _ _ _ _) = refl
  kinds_same P e s k ts l us (Trees.pair _ _ _ _ _ _) = refl
  kinds_same P e s k ts l us (Trees.sequence _ _ _ _ _ _) = refl
  kinds_same P e s k ts l us (Trees.object _ _ _ _ _ _ _) = refl
  kinds_same P e s k ts l us (Trees.key_stays _ _ _ _ _ _ _ _ _) = refl
  kinds_same P e s k ts l us (Trees.key_alone _ _ _ _ _) = e
  kinds_same P e s k ts l us (Trees.key_default _ _ _ _ _ _ _ _) = e
  kinds_same P e s k ts l us (Trees.both_names _ _ _ _ _ _ _ _ _ _ _ _) = refl
  kinds_same P e s k ts l us (Trees.one_stays _ _ _ _ _ _ _ _ _ _) = refl
  kinds_same P e s k ts l us (Trees.one_changes _ _ _ _ _ _ _ _ _ _) = refl
  kinds_same P e s k ts l us (Trees.exports _ _ _ _ _ _ _ _ _ _) = refl
  kinds_same P e s k ts l us (Trees.reexports _ _ _ _ _ _ _ _ _ _ _ _ _) = refl
  kinds_same P e s k ts l us (Trees.program _ _ _ _ _ _ _ _ _ _) = refl

  -- what is seen of a layer by its form and kind
  pub seen : (V : Node-F Node → Bool) → ((k : Kind) (i j : Ident) → V (Node-F.Identifier k i) ≡ V (Node-F.Identifier k j)) → ((ts us : List Node) → V (Node-F.List ts) ≡ V (Node-F.List us))
      → ((s : Spot) (k : Kind) (ts : List Node) (l : Kind) (us : List Node) → Trees m declared s k ts l us → V (Node-F.Tree k ts) ≡ V (Node-F.Tree l us))
      → (g b : Bool) (t u : Node) → Becomes m declared g (part b) t u → V (out-Node t) ≡ V (out-Node u)
  seen V names lists trees g b t u (Becomes.absent _) = refl
  seen V names lists trees g b t u (Becomes.a_flag _ _ x) = refl
  seen V names lists trees g b t u (Becomes.a_word _ _ x) = refl
  seen V names lists trees g b t u (Becomes.a_text _ _ x) = refl
  seen V names lists trees g b t u (Becomes.a_span _ _ x) = refl
  seen V names lists trees g b t u (Becomes.name _ _ k i j a) = ap V (outs-Identifier k i) ∙ names k i j ∙ sym (ap V (outs-Identifier k j))
  seen V names lists trees g b t u (Becomes.list _ _ ts us h) = ap V (outs-List ts) ∙ lists ts us ∙ sym (ap V (outs-List us))
  seen V names lists trees g b t u (Becomes.tree _ s k l ts us h) = ap V (outs-Tree k ts) ∙ trees s k ts l us h ∙ sym (ap V (outs-Tree l us))

  idle_kind : (k : Kind) (ts : List Node) → is_idle_in (Node-F.Tree k ts) ≡ is_idle_kind k
  idle_kind k ts = refl

  pub idle_same : (g b : Bool) (t u : Node) → Becomes m declared g (part b) t u → is_idle t ≡ is_idle u
  idle_same g b t u h = seen is_idle_in (λ k i j. refl) (λ ts us. refl) (λ s k ts l us h. kinds_same is_idle_kind refl s k ts l us h) g b t u h

  abbrev is_empty_kind : Kind → Bool
  is_empty_kind kind.EmptyStmt = true
  is_empty_kind k = false

  empty_kind : (k : Kind) (ts : List Node) → is_empty_in (Node-F.Tree k ts) ≡ is_empty_kind k
  empty_kind kind.EmptyStmt ts = refl
  empty_kind k ts = refl

  pub member_same : (g b : Bool) (t u : Node) → Becomes m declared g (part b) t u → is_member t ≡ is_member u
  member_same g b t u h = ap not (seen is_empty_in (λ k i j. refl) (λ ts us. refl)
      (λ s k ts l us h. empty_kind k ts ∙ kinds_same is_empty_kind refl s k ts l us h ∙ sym (empty_kind l us)) g b t u h)

  pub void_same : (g b : Bool) (t u : Node) → Becomes m declared g (part b) t u → is_void t ≡ is_void u
  void_same g b t u h = seen is_void_in (λ k i j. refl) (λ ts us. refl) (λ s k ts l us h. refl) g b t u h

  -- ---- lists

  pub all_append : (g : Bool) (s : Spot) (ts us vs ws : List Node) → All m declared g s ts us → All m declared g s vs ws → All m declared g s (ts ++ vs) (us ++ ws)
  all_append g s ts us vs ws (All.none _ _) k = k
  all_append g s ts us vs ws (All.more _ _ t u ts0 us0 h l) k = All.more g s t u (ts0 ++ vs) (us0 ++ ws) h (all_append g s ts0 us0 vs ws l k)

  chosen_all : (g b : Bool) (x y : Bool) (t u : Node) (ts us : List Node) → x ≡ y → B g (part b) t u → A g (part b) ts us → A g (part b) (if x then t ∷ ts else ts) (if y then u ∷ us else us)
  chosen_all g b true true t u ts us e h l = All.more g (part b) t u ts us h l
  chosen_all g b false false t u ts us e h l = l
  chosen_all g b true false t u ts us e h l = absurd (cc)
  chosen_all g b false true t u ts us e h l = absurd (cc)

  pub all_filter : (g b : Bool) (P : Node → Bool) → ((t u : Node) → Becomes m declared g (part b) t u → P t ≡ P u) → (ts us : List Node) → All m declared g (part b) ts us
      → All m declared g (part b) (filter P ts) (filter P us)
  all_filter g b P same ts us (All.none _ _) = All.none g (part b)
  all_filter g b P same ts us (All.more _ _ t u ts0 us0 h l) = chosen_all g b (P t) (P u) t u (filter P ts0) (filter P us0) (same t u h) h (all_filter g b P same ts0 us0 l)

  all_idle : (g b : Bool) (ts us : List Node) → A g (part b) ts us → list_all is_idle ts ≡ list_all is_idle us
  all_idle g b ts us (All.none _ _) = refl
  all_idle g b ts us (All.more _ _ t u ts0 us0 h l) = ap (λ x. x && list_all is_idle ts0) (idle_same g b t u h) ∙ ap (λ x. is_idle u && x) (all_idle g b ts0 us0 l)

  first_one : (g b : Bool) (ts us : List Node) → A g (part b) ts us → A g (part b) (take 1 ts) (take 1 us)
  first_one g b ts us (All.none _ _) = All.none g (part b)
  first_one g b ts us (All.more _ _ t u ts0 us0 h l) = All.more g (part b) t u [] [] h (All.none g (part b))

  either_all : (g b : Bool) (x y : Bool) (ts us vs ws : List Node) → x ≡ y → A g (part b) ts us → A g (part b) vs ws → A g (part b) (if x then ts else vs) (if y then us else ws)
  either_all g b true true ts us vs ws e h l = h
  either_all g b false false ts us vs ws e h l = l
  either_all g b true false ts us vs ws e h l = absurd (cc)
  either_all g b false true ts us vs ws e h l = absurd (cc)

  pub all_busy : (g b : Bool) (ts us : List Node) → A g (part b) ts us → A g (part b) (busy ts) (busy us)
  all_busy g b ts us l = either_all g b (list_all is_idle ts) (list_all is_idle us) _ _ _ _ (all_idle g b ts us l) (first_one g b ts us l)
      (all_filter g b (λ e. not (is_idle e)) (λ t u h. ap not (idle_same g b t u h)) ts us l)

  pub all_front : (g b : Bool) (ts us : List Node) → A g (part b) ts us → A g (part b) (front ts) (front us)
  all_front g b ts us (All.none _ _) = All.none g (part b)
  all_front g b ts us (All.more _ _ t u _ _ h (All.none _ _)) = All.none g (part b)
  all_front g b ts us (All.more _ _ t u _ _ h (All.more _ _ v w ts0 us0 k l)) =
      All.more g (part b) t u (front (v ∷ ts0)) (front (w ∷ us0)) h (all_front g b (v ∷ ts0) (w ∷ us0) (All.more g (part b) v w ts0 us0 k l))

  pub all_end : (g b : Bool) (ts us : List Node) → A g (part b) ts us → A g (part b) (last_of ts) (last_of us)
  all_end g b ts us (All.none _ _) = All.none g (part b)
  all_end g b ts us (All.more _ _ t u _ _ h (All.none _ _)) = All.more g (part b) t u [] [] h (All.none g (part b))
  all_end g b ts us (All.more _ _ t u _ _ h (All.more _ _ v w ts0 us0 k l)) = all_end g b (v ∷ ts0) (w ∷ us0) (All.more g (part b) v w ts0 us0 k l)

  -- ---- items

  pub items_same : (g b : Bool) (t u : Node) → Becomes m declared g (part b) t u → (h : Bool) × All m declared h (part b) (items_of t) (items_of u)
  items_same g b t u (Becomes.list h b0 ts us l) = (h, moved_all h (part b0) _ ts _ us (ap items_in (outs-List ts)) (ap items_in (outs-List us)) l)
  items_same g b t u (Becomes.absent _) = (true, moved_all true (part b) _ [] _ [] (ap items_in outs-Absent) (ap items_in outs-Absent) (All.none true (part b)))
  items_same g b t u (Becomes.a_flag _ _ x) = (true, moved_all true (part b) _ [] _ [] (ap items_in (outs-Flag x)) (ap items_in (outs-Flag x)) (All.none true (part b)))
  items_same g b t u (Becomes.a_word _ _ x) = (true, moved_all true (part b) _ [] _ [] (ap items_in (outs-Word x)) (ap items_in (outs-Word x)) (All.none true (part b)))
  items_same g b t u (Becomes.a_text _ _ x) = (true, moved_all true (part b) _ [] _ [] (ap items_in (outs-Text x)) (ap items_in (outs-Text x)) (All.none true (part b)))
  items_same g b t u (Becomes.a_span _ _ x) = (true, moved_all true (part b) _ [] _ [] (ap items_in (outs-Span x)) (ap items_in (outs-Span x)) (All.none true (part b)))
  items_same g b t u (Becomes.name _ _ k i j a) = (true, moved_all true (part b) _ [] _ [] (ap items_in (outs-Identifier k i)) (ap items_in (outs-Identifier k j)) (All.none true (part b)))
  items_same g b t u (Becomes.tree _ _ k l ts us h) = (true, moved_all true (part b) _ [] _ [] (ap items_in (outs-Tree k ts)) (ap items_in (outs-Tree l us)) (All.none true (part b)))

  -- ---- targets

  target_name : (g b : Bool) (k : Kind) (i j : Ident) → Alike m b i j → B g (part b) (target_in (Identifier k i) (Node-F.Identifier k i)) (target_in (Identifier k j) (Node-F.Identifier k j))
  target_name g b kind.Ident i j a = Becomes.name g (part b) kind.BindingIdent i j a
  target_name g b k i j a = Becomes.name g (part b) k i j a

  pub target_same : (g b : Bool) (t u : Node) → Becomes m declared g (part b) t u → Becomes m declared g (part b) (target t) (target u)
  target_same g b t u (Becomes.absent _) = moved false (part b) _ _ _ _ (ap (target_in Absent) outs-Absent) (ap (target_in Absent) outs-Absent) (Becomes.absent (part b))
  target_same g b t u (Becomes.a_flag _ _ x) = moved g (part b) _ _ _ _ (ap (target_in (Flag x)) (outs-Flag x)) (ap (target_in (Flag x)) (outs-Flag x)) (Becomes.a_flag g (part b) x)
  target_same g b t u (Becomes.a_word _ _ x) = moved g (part b) _ _ _ _ (ap (target_in (Word x)) (outs-Word x)) (ap (target_in (Word x)) (outs-Word x)) (Becomes.a_word g (part b) x)
  target_same g b t u (Becomes.a_text _ _ x) = moved g (part b) _ _ _ _ (ap (target_in (Text x)) (outs-Text x)) (ap (target_in (Text x)) (outs-Text x)) (Becomes.a_text g (part b) x)
  target_same g b t u (Becomes.a_span _ _ x) = moved g (part b) _ _ _ _ (ap (target_in (Span x)) (outs-Span x)) (ap (target_in (Span x)) (outs-Span x)) (Becomes.a_span g (part b) x)
  target_same g b t u (Becomes.name _ _ k i j a) = moved g (part b) _ _ _ _ (ap (target_in (Identifier k i)) (outs-Identifier k i)) (ap (target_in (Identifier k j)) (outs-Identifier k j)) (target_name g b k i j a)
  target_same g b t u (Becomes.list h b0 ts us l) = moved false (part b0) _ _ _ _ (ap (target_in (Many ts)) (outs-List ts)) (ap (target_in (Many us)) (outs-List us)) (Becomes.list h b0 ts us l)
  target_same g b t u (Becomes.tree _ s k l ts us h) = moved g (part b) _ _ _ _ (ap (target_in (Tree k ts)) (outs-Tree k ts)) (ap (target_in (Tree l us)) (outs-Tree l us)) (Becomes.tree g (part b) k l ts us h)

  -- ---- sequences

  pub alone : (t u : Node) → Becomes m declared true (part true) t u → All m declared true (part true) (t ∷ []) (u ∷ [])
  alone t u h = All.more true (part true) t u [] [] h (All.none true (part true))
