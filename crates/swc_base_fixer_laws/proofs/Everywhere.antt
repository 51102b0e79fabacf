-- What holds of each node of a tree that can be written down, if what it asks of one node is met by each such node.
use Rattle.std.proofs.Common.{◌≡◌, Bool, true, false, ◌&&◌, ◌||◌, List, [], ◌∷◌, map, refl, sym, ap, ◌∙◌, rules, true≢false}
use Rattle.std.specs.Prelude.{if◌then◌else◌}
use Rattle.std.specs.List.{list_all}
use Rattle.swc_tree_node.specs.declared.kind.Kind.{Kind}
use Rattle.swc_tree_node.specs.declared.kind.Kind.TheVariants as kind
use Rattle.swc_tree_node.specs.declared.slot.Slot.{Slot}
use Rattle.swc_tree_node.specs.declared.node.Node.{Node, Absent, Flag, Word, Text, Span, List as Many, Identifier, Tree, out-Node, the_lemmas}
use Rattle.swc_tree_node.specs.declared.node.Node.TheOpen.{Node-F}
use Rattle.swc_tree_node.specs.Table.{slots_of}
use Rattle.swc_tree_node.specs.Fits.{Fits, FieldsFit, AllFit}
use Rattle.swc_tree_grammar.specs.Levels.{is_absent}
use Rattle.swc_tree_grammar.specs.Writable.{Round, sound_in, in_head_in, all_sound, binding, assigning, strictly, branch, head, declares_in, pattern, constructor_key_in}
use Rattle.swc_tree_grammar.proofs.Asked.{asked, head_list, same, sound}
use Rattle.swc_tree_grammar.proofs.Induction.{Each, Leaves, by_children}
use Rattle.swc_tree_grammar.proofs.Places.{stands}
use Rattle.swc_tree_grammar_laws.proofs.Levelled.{both, half, also}
use Rattle.swc_tree_grammar_laws.proofs.Blocked.{no}
use Rattle.swc_tree_grammar_laws.proofs.Derived.{sound_tree, sound_list, in_head_tree}
use Rattle.swc_base_fixer_laws.specs.Sets.{item}
use Rattle.swc_base_fixer_laws.proofs.Quiet.{is_quiet, items_fit, quiet, quiet_fields, quiet_slots}
use Rattle.swc_base_fixer_laws.proofs.Recasts.{tree_looks, list_looks}

-- a node that can be written down, as itself, as the declaration in the head of a `for`, as the key of a constructor
pub record Written (p : Node → Bool) (t : Node) : Type 0 where
  pub by_sound : (r : Round) → sound t r ≡ true → p t ≡ true
  pub by_head : (r : Round) → (asked t).in_head r ≡ true → p t ≡ true
  pub by_key : constructor_key_in (out-Node t) ≡ true → p t ≡ true

-- the fields of a node
pub data Parts (p : Node → Bool) : List Slot → List Node → Type 0 where
  none : Parts p [] []
  more : {s : Slot} {ss : List Slot} {t : Node} {ts : List Node} → (is_quiet s ≡ true → p t ≡ true) → Written p t → Parts p ss ts → Parts p (s ∷ ss) (t ∷ ts)

-- what holds of a node if `own` does and it holds of all that stands directly below, where `own` is met by each node that can be written down
pub record Everywhere (p : Node → Bool) (own : Kind → List Node → Bool) : Type 0 where
  pub of_leaves : Leaves (λ t. p t ≡ true)
  pub of_list : (ts : List Node) → p (Many ts) ≡ list_all p ts
  pub of_tree : (k : Kind) (ts : List Node) → p (Tree k ts) ≡ (own k ts && list_all p ts)
  pub own_quiet : (k : Kind) (ts : List Node) → list_all is_quiet (slots_of k) ≡ true → own k ts ≡ true
  pub own_sound : (k : Kind) (ts : List Node) → Parts p (slots_of k) ts → (r : Round) → sound_in (Node-F.Tree k (map asked ts)) r ≡ true → own k ts ≡ true
  pub own_head : (k : Kind) (ts : List Node) → (r : Round) → in_head_in (Node-F.Tree k (map asked ts)) r ≡ true → own k ts ≡ true

each_holds : (p : Node → Bool) (ts : List Node) → Each (λ t. p t ≡ true) ts → list_all p ts ≡ true
each_holds p [] l = refl
each_holds p (t ∷ ts) l = also l.0 (each_holds p ts l.1)

either : (a b c : Bool) → (a ≡ true → c ≡ true) → (b ≡ true → c ≡ true) → (a || b) ≡ true → c ≡ true
either true b c f g h = f refl
either false b c f g h = g h

module _ {holds : Node → Bool} {own : Kind → List Node → Bool} (test : Everywhere holds own) where
  quiet_tree : (k : Kind) (ts : List Node) → list_all is_quiet (slots_of k) ≡ true → Each (λ t. holds t ≡ true) ts → holds (Tree k ts) ≡ true
  quiet_tree k ts q l = test.of_tree k ts ∙ also (test.own_quiet k ts q) (each_holds holds ts l)

  quiet_holds : (t : Node) (s : Slot) → is_quiet s ≡ true → Fits t s → holds t ≡ true
  quiet_holds t = quiet (λ t. holds t ≡ true) test.of_leaves (λ ts l. test.of_list ts ∙ each_holds holds ts l) (λ k ts q l. quiet_tree k ts (quiet_slots k q) l) t

  all : {ss : List Slot} {ts : List Node} → Parts holds ss ts → (r : Round) → all_sound (map asked ts) r ≡ true → list_all holds ts ≡ true
  all none r h = refl
  all (more a x d) r h = let m = half h in let q = half m.0 in also (x.by_sound r q.1) (all d r m.1)

  alone : {t : Node} → Written holds t → (r : Round) → all_sound (asked t ∷ []) r ≡ true → holds t ≡ true
  alone x r h = let m = half h in let q = half m.0 in x.by_sound r q.1

  absent_holds : (t : Node) → is_absent t ≡ true → holds t ≡ true
  absent_holds t = by_children (λ t. is_absent t ≡ true → holds t ≡ true)
      (λ h. test.of_leaves.0, λ x h. test.of_leaves.1 x, λ v h. test.of_leaves.2 v, λ x h. test.of_leaves.3 x, λ r h. test.of_leaves.4 r, λ k i h. test.of_leaves.5 k i)
      (λ ts l h. (let e : is_absent (Many ts) ≡ false = search (rules, the_lemmas) in absurd (no (sym e ∙ h))))
      (λ k ts l h. (let e : is_absent (Tree k ts) ≡ false = search (rules, the_lemmas) in absurd (no (sym e ∙ h)))) t

  maybe_branch : {t : Node} → Written holds t → (r : Round) → (is_absent (asked t).whole || branch (asked t) r) ≡ true → holds t ≡ true
  maybe_branch {t = t} x r h = either (is_absent (asked t).whole) (branch (asked t) r) (holds t) (λ e. absent_holds t (sym (ap is_absent (same t)) ∙ e)) (λ e. (let p = half e in x.by_sound r p.1)) h

  head_if : (b : Bool) {t : Node} → Written holds t → (r : Round) → declares_in (out-Node (asked t).whole) ≡ b → head (asked t) r ≡ true → holds t ≡ true
  head_if true {t = t} x r e h = x.by_head r (sym (ap (λ b. if b then (asked t).in_head r else (pattern (asked t).whole (assigning r) && sound t (assigning r))) e) ∙ h)
  head_if false {t = t} x r e h =
      let p = both (pattern (asked t).whole (assigning r)) (sound t (assigning r)) (sym (ap (λ b. if b then (asked t).in_head r else (pattern (asked t).whole (assigning r) && sound t (assigning r))) e) ∙ h) in x.by_sound (assigning r) p.1

  head_holds : {t : Node} → Written holds t → (r : Round) → head (asked t) r ≡ true → holds t ≡ true
  head_holds {t = t} x r h = head_if (declares_in (out-Node (asked t).whole)) x r refl h

  -- two that are sound
  two : {t u : Node} → Written holds t → Written holds u → (r : Round) → all_sound (asked t ∷ asked u ∷ []) r ≡ true → (holds t ≡ true) × (holds u ≡ true)
  two x y r h = let p = half h in let q = half p.0 in (x.by_sound r q.1, alone y r p.1)

  three : {t u v : Node} → Written holds t → Written holds u → Written holds v → (r : Round) → all_sound (asked t ∷ asked u ∷ asked v ∷ []) r ≡ true → (holds t ≡ true) × ((holds u ≡ true) × (holds v ≡ true))
  three x y z r h = let p = half h in let q = half p.0 in (x.by_sound r q.1, two y z r p.1)

  -- the parts of each kind of node
  row : (k : Kind) {ts : List Node} → Parts holds (slots_of k) ts → (r : Round) → sound_in (Node-F.Tree k (map asked ts)) r ≡ true → list_all holds ts ≡ true
  row kind.SeqExpr (more a _ (more _ x none)) r h = let p = half h in also (a refl) (also (x.by_sound r p.1) refl)
  row kind.AssignExpr (more a _ (more b _ (more _ x (more _ y none)))) r h = let p = half h in let q = half p.1 in also (a refl) (also (b refl) (also (x.by_sound (assigning r) q.0) (also (alone y (binding r) q.1) refl)))
  row kind.UpdateExpr (more a _ (more b _ (more c _ (more _ x none)))) r h = let p = half h in also (a refl) (also (b refl) (also (c refl) (also (x.by_sound (binding r) p.1) refl)))
  row kind.BinExpr (more a _ (more b _ (more _ x (more _ y none)))) r h = let p = half h in let q = half p.1 in also (a refl) (also (b refl) (also (x.by_sound (binding r) q.0) (also (alone y (binding r) q.1) refl)))
  row kind.MemberExpr (more a _ (more _ x (more _ y none))) r h = let p = half h in let q = half p.1 in also (a refl) (also (x.by_sound (binding r) q.0) (also (y.by_sound (binding r) q.1) refl))
  row kind.Tpl (more a _ (more _ x (more b _ none))) r h = let p = half h in also (a refl) (also (x.by_sound (binding r) p.1) (also (b refl) refl))
  row kind.OptChainExpr (more a _ (more b _ (more _ x none))) r h = let p = half h in also (a refl) (also (b refl) (also (x.by_sound (binding r) p.1) refl))
  row kind.ArrayPat (more a _ (more _ x none)) r h = let p = half h in also (a refl) (also (x.by_sound r p.1) refl)
  row kind.ObjectPat (more a _ (more _ x none)) r h = let p = half h in also (a refl) (also (x.by_sound r p.1) refl)
  row kind.RestPat (more a _ (more _ x none)) r h = let p = half h in also (a refl) (also (x.by_sound r p.1) refl)
  row kind.KeyValuePatProp (more _ x (more _ y none)) r h = let p = half h in let q = half p.1 in also (x.by_sound (binding r) q.0) (also (y.by_sound r q.1) refl)
  row kind.AssignPat (more a _ (more _ x (more _ y none))) r h = let p = half h in let q = half p.1 in also (a refl) (also (x.by_sound r q.0) (also (alone y (binding r) q.1) refl))
  row kind.AssignPatProp (more a _ (more _ x (more _ y none))) r h = let p = half h in also (a refl) (also (x.by_sound r p.0) (also (alone y (binding r) p.1) refl))
  row kind.ArrowExpr (more a _ (more _ x (more _ y (more b _ none)))) r h = let p = half h in let q = two x y _ p.1 in also (a refl) (also q.0 (also q.1 (also (b refl) refl)))
  row kind.Function (more a _ (more _ x (more _ y (more b _ (more c _ none))))) r h = let p = half h in let q = two x y _ p.1 in also (a refl) (also q.0 (also q.1 (also (b refl) (also (c refl) refl))))
  row kind.Constructor (more a _ (more {t = t} _ z (more _ x (more _ y none)))) r h =
      let p = half h in let m = half p.1 in let q = two x y (binding r) m.1 in also (a refl) (also (z.by_key (sym (ap (λ t. constructor_key_in (out-Node t)) (same t)) ∙ p.0)) (also q.0 (also q.1 refl)))
  row kind.GetterProp (more a _ (more _ x (more _ y none))) r h = let p = half h in also (a refl) (also (alone x (binding r) p.0) (also (alone y _ p.1) refl))
  row kind.SetterProp (more a _ (more _ z (more _ x (more _ y none)))) r h = let p = half h in let m = half p.1 in let q = two x y _ m.1 in also (a refl) (also (alone z (binding r) m.0) (also q.0 (also q.1 refl)))
  row kind.ClassMethod (more a _ (more _ x (more _ y (more b _ (more c _ none))))) r h = let p = half h in let q = half p.1 in also (a refl) (also (x.by_sound (binding r) q.0) (also (y.by_sound r q.1) (also (b refl) (also (c refl) refl))))
  row kind.PrivateMethod (more a _ (more b _ (more _ y (more c _ (more d _ none))))) r h = let p = half h in also (a refl) (also (b refl) (also (y.by_sound r p.1) (also (c refl) (also (d refl) refl))))
  row kind.PrivateProp (more a _ (more b _ (more _ y (more c _ none)))) r h = also (a refl) (also (b refl) (also (alone y (binding r) h) (also (c refl) refl)))
  row kind.Class (more a _ (more _ x (more _ y none))) r h = let q = two x y (strictly true r) h in also (a refl) (also q.0 (also q.1 refl))
  row kind.FnDecl (more a _ (more _ y none)) r h = let p = half h in also (a refl) (also (y.by_sound r p.1) refl)
  row kind.FnExpr (more a _ (more _ y none)) r h = let p = half h in also (a refl) (also (y.by_sound r p.1) refl)
  row kind.ClassDecl (more a _ (more _ y none)) r h = let p = half h in also (a refl) (also (y.by_sound r p.1) refl)
  row kind.ClassExpr (more a _ (more _ y none)) r h = let p = half h in also (a refl) (also (y.by_sound r p.1) refl)
  row kind.VarDeclarator (more a _ (more _ x (more _ y none))) r h = let p = half h in let q = half p.1 in also (a refl) (also (x.by_sound (binding r) q.0) (also (alone y (binding r) q.1) refl))
  row kind.VarDecl (more a _ (more b _ (more _ y none))) r h = let p = half h in also (a refl) (also (b refl) (also (y.by_sound r p.1) refl))
  row kind.UsingDecl (more a _ (more b _ (more _ y none))) r h = let p = half h in also (a refl) (also (b refl) (also (y.by_sound r p.1) refl))
  row kind.ExprStmt (more a _ (more _ x none)) r h = let p = half h in also (a refl) (also (alone x (binding r) p.1) refl)
  row kind.CatchClause (more a _ (more _ x (more _ y none))) r h = let p = half h in let q = half p.1 in also (a refl) (also (x.by_sound (binding r) q.0) (also (y.by_sound r q.1) refl))
  row kind.WithStmt (more a _ (more _ x (more _ y none))) r h = let p = half h in let q = half p.1 in also (a refl) (also (alone x (binding r) p.0) (also (y.by_sound r q.1) refl))
  row kind.LabeledStmt (more a _ (more _ x (more _ y none))) r h = let p = half h in let q = half p.1 in also (a refl) (also (x.by_sound r p.0) (also (y.by_sound r q.1) refl))
  row kind.IfStmt (more a _ (more _ x (more _ y (more _ z none)))) r h =
      let p = half h in let q = half p.1 in let m = half q.0 in also (a refl) (also (alone x (binding r) p.0) (also (y.by_sound r m.1) (also (maybe_branch z r q.1) refl)))
  row kind.SwitchCase (more a _ (more _ x (more _ y none))) r h = let p = half h in let q = half p.1 in also (a refl) (also (alone x (binding r) p.0) (also (y.by_sound r q.1) refl))
  row kind.WhileStmt (more a _ (more _ x (more _ y none))) r h = let p = half h in let q = half p.1 in also (a refl) (also (alone x (binding r) p.0) (also (y.by_sound r q.1) refl))
  row kind.DoWhileStmt (more a _ (more _ y (more _ x none))) r h = let p = half h in let q = half p.1 in also (a refl) (also (y.by_sound r q.1) (also (alone x (binding r) p.0) refl))
  row kind.ForStmt (more a _ (more _ x (more _ y (more _ z (more _ w none))))) r h =
      let p = half h in let q = half p.1 in let m = three x y z (binding r) p.0 in also (a refl) (also m.0 (also m.1.0 (also m.1.1 (also (w.by_sound r q.1) refl))))
  row kind.ForInStmt (more a _ (more _ x (more _ y (more _ z none)))) r h = let p = half h in let q = half p.1 in let m = half q.1 in let n = half m.1 in also (a refl) (also (head_holds x r q.0) (also (alone y (binding r) m.0) (also (z.by_sound r n.1) refl)))
  row kind.ForOfStmt (more a _ (more b _ (more _ x (more _ y (more _ z none))))) r h = let q = half h in let m = half q.1 in let n = half m.1 in also (a refl) (also (b refl) (also (head_holds x r q.0) (also (alone y (binding r) m.0) (also (z.by_sound r n.1) refl))))
  row kind.ImportNamedSpecifier (more a _ (more b _ (more c _ none))) r h = also (a refl) (also (b refl) (also (c refl) refl))
  row kind.ImportDefaultSpecifier (more a _ (more b _ none)) r h = also (a refl) (also (b refl) refl)
  row kind.ImportStarAsSpecifier (more a _ (more b _ none)) r h = also (a refl) (also (b refl) refl)
  row kind.NamedExport (more a _ (more b _ (more c _ (more d _ none)))) r h = also (a refl) (also (b refl) (also (c refl) (also (d refl) refl)))
  row kind.ExportNamedSpecifier (more a _ (more b _ (more c _ none))) r h = also (a refl) (also (b refl) (also (c refl) refl))
  row kind.ExportNamespaceSpecifier (more a _ (more b _ none)) r h = also (a refl) (also (b refl) refl)
  row kind.ExportDecl (more a _ (more _ x none)) r h = let p = half h in also (a refl) (also (x.by_sound r p.1) refl)
  row kind.Module (more a _ (more _ x (more b _ none))) r h = also (a refl) (also (x.by_sound (strictly true r) h) (also (b refl) refl))
  row kind.Script (more a _ (more _ x (more b _ none))) r h = let p = half h in also (a refl) (also (x.by_sound _ p.1) (also (b refl) refl))
  row kind.TsInterfaceDecl d r h = absurd (true≢false (sym h))
  row kind.TsTypeAliasDecl d r h = absurd (true≢false (sym h))
  row kind.TsEnumDecl d r h = absurd (true≢false (sym h))
  row kind.TsModuleDecl d r h = absurd (true≢false (sym h))
  row k d r h = all d (binding r) h

  head_row : (k : Kind) {ts : List Node} → Parts holds (slots_of k) ts → (r : Round) → in_head_in (Node-F.Tree k (map asked ts)) r ≡ true → list_all holds ts ≡ true
  head_row kind.VarDecl (more a _ (more b _ (more _ x none))) r h = let p = half h in also (a refl) (also (b refl) (also (x.by_sound (binding r) p.1) refl))
  head_row kind.UsingDecl (more a _ (more b _ (more _ x none))) r h = let p = half h in let q = half p.1 in also (a refl) (also (b refl) (also (x.by_sound (binding r) q.1) refl))
  head_row k d r h = absurd (true≢false (sym h))

  key_row : (k : Kind) (ts : List Node) → FieldsFit (slots_of k) ts → constructor_key_in (Node-F.Tree k ts) ≡ true → holds (Tree k ts) ≡ true
  key_row kind.IdentName ts f h = quiet_tree kind.IdentName ts refl (quiet_fields (λ t. holds t ≡ true) quiet_holds (slots_of kind.IdentName) ts refl f)
  key_row kind.Str ts f h = quiet_tree kind.Str ts refl (quiet_fields (λ t. holds t ≡ true) quiet_holds (slots_of kind.Str) ts refl f)
  key_row k ts f h = absurd (true≢false (sym h))

  -- every node
  abbrev Holding : Node → Type 0
  Holding t = (s : Slot) → Fits t s → Written holds t

  parts : (ss : List Slot) (ts : List Node) → Each Holding ts → FieldsFit ss ts → Parts holds ss ts
  parts [] [] l f = none
  parts [] (t ∷ ts) l f = absurd f
  parts (s ∷ ss) [] l f = absurd f
  parts (s ∷ ss) (t ∷ ts) l f = more (λ q. quiet_holds t s q f.0) (l.0 s f.0) (parts ss ts l.1 f.1)

  items : (s : Slot) (ts : List Node) → Each Holding ts → AllFit s ts → (r : Round) → all_sound (map asked ts) r ≡ true → list_all holds ts ≡ true
  items s [] l f r h = refl
  items s (t ∷ ts) l f r h = let m = half h in let q = half m.0 in let x = l.0 s f.0 in also (x.by_sound r q.1) (items s ts l.1 f.1 r m.1)

  list_holds : (ts : List Node) → Each Holding ts → Holding (Many ts)
  list_holds ts l s f = record {
    by_sound = λ r h. test.of_list ts ∙ items (item s) ts l (items_fit s ts f) r (sym (sound_list ts r) ∙ h);
    by_head = λ r h. absurd (no (sym (head_list ts r) ∙ h));
    by_key = λ h. absurd (no (sym (list_looks Bool constructor_key_in ts) ∙ h));
  }

  tree_holds : (k : Kind) (ts : List Node) → Each Holding ts → Holding (Tree k ts)
  tree_holds k ts l s f = (
      let w = stands k ts s f in let x = parts (slots_of k) ts l w.fields in
      record {
        by_sound = λ r h. (let m = sym (sound_tree k ts r) ∙ h in test.of_tree k ts ∙ also (test.own_sound k ts x r m) (row k x r m));
        by_head = λ r h. (let m = sym (in_head_tree k ts r) ∙ h in test.of_tree k ts ∙ also (test.own_head k ts r m) (head_row k x r m));
        by_key = λ h. key_row k ts w.fields (sym (tree_looks Bool constructor_key_in k ts) ∙ h);
      })

  leaf_holds : (t : Node) → holds t ≡ true → Holding t
  leaf_holds t e s f = record { by_sound = λ r h. e; by_head = λ r h. e; by_key = λ h. e }

  holding : (t : Node) → Holding t
  holding t = by_children Holding (
    leaf_holds Absent test.of_leaves.0,
    λ x. leaf_holds (Flag x) (test.of_leaves.1 x),
    λ w. leaf_holds (Word w) (test.of_leaves.2 w),
    λ x. leaf_holds (Text x) (test.of_leaves.3 x),
    λ r. leaf_holds (Span r) (test.of_leaves.4 r),
    λ k i. leaf_holds (Identifier k i) (test.of_leaves.5 k i),
  )
      list_holds tree_holds t

  pub everywhere : (t : Node) (s : Slot) → Fits t s → (r : Round) → sound t r ≡ true → holds t ≡ true
  everywhere t s f r h = let x = holding t s f in x.by_sound r h
