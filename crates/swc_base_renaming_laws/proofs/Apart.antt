-- Ids that a module declares at its top and that keep their texts have different texts.
use Rattle.std.proofs.Common.{◌≡◌, ◌≢◌, ℕ, Bool, true, false, ◌||◌, IsTrue, Option, Some, List, [], ◌∷◌, refl, sym, ap, ◌∙◌, subst, inl, inr, arith, Less, Equal, Greater, Ordering}
use Rattle.std.specs.Prelude.{codes, Contains}
use Rattle.std.specs.Ordering.{nat_cmp, ordering_then, ordering_reverse}
use Rattle.std.specs.Cmp.Lexicographic.{slice_cmp}
use Rattle.swc_tree_node.specs.declared.node.Node.{Node, out-Node}
use Rattle.swc_tree_scoping.specs.declared.places.Standing.{Standing}
use Rattle.swc_tree_scoping.specs.Places.{Path, program_place}
use Rattle.swc_tree_scoping.specs.Scopes.{is_binding, is_name, is_reference, rounds}
use Rattle.swc_tree_scoping.specs.BoundNames.{Id}
use Rattle.swc_base_rename_analysis.specs.declared.scopes.ScopeKind.TheVariants.{Fn}
use Rattle.swc_base_rename_analysis.specs.Analysis.{Declares, IsAnalysed, OccursIn, first_taking, scopes_round}
use Rattle.swc_base_rename_analysis.specs.Ids.{id_at}
use Rattle.swc_base_rename_analysis.specs.Laws.{SitesAreInOrder}
use Rattle.swc_base_rename_analysis.specs.Named.{IsNamedAt, Named, Renaming}
use Rattle.swc_base_rename_analysis.specs.Order.{IsBefore, Site, entry, site_cmp, turns}
use Rattle.swc_base_rename_analysis.proofs.InOrder.{by_earlier}
use Rattle.swc_base_rename_analysis.specs.Preserved.{IsPreserved}
use Rattle.swc_base_rename_program.specs.Lower.swc_base_rename_naming_laws.specs.Rules.{counting, counting_by}
use Rattle.swc_base_renaming_laws.specs.Renamers.{IsBoundAtTop, TopTextsDiffer}

-- an id that is bound at a path, round which the module is the only scope
pub record AtTop (t : Node) (x : Id) : Type 0 where
  pub path : Path
  pub standing : Standing
  pub stands : id_at t path ≡ Some (standing, x)
  pub binds : IsTrue (is_binding standing)
  pub analysed : IsAnalysed x
  pub not_eval : x.0 ≢ codes "eval"
  pub alone : scopes_round t path ≡ ([], Fn) ∷ []
  pub inside : rounds program_place t path ≡ ([], true) ∷ []

bound_top : (t : Node) (x : Id) → AtTop t x → IsBoundAtTop t x
bound_top t x a = record { path = a.path; standing = a.standing; stands = a.stands; binds = a.binds; inside = a.inside }

pub declared_top : (t : Node) (x : Id) (a : AtTop t x) → Declares t [] a.path x
declared_top t x a = record { standing = a.standing; stands = a.stands; binds = a.binds; analysed = a.analysed; taken = ap (first_taking a.standing) a.alone }

-- some site names what the top declares, if it is not preserved
module _ (r : Renaming) (t : Node) (x : Id) where
  abbrev Nowhere : Type 0
  Nowhere = (b : Site) → IsNamedAt t r b x → ⊥

  somewhere : x.0 ≢ codes "eval" → ¬ IsTrue (r.preserves x) → Nowhere → (a : Site) → Declares t a.0 a.1 x → ⊥
  somewhere not_eval not_preserved nowhere = by_earlier t (λ a. Declares t a.0 a.1 x → ⊥) (λ a before d.
      nowhere a (record { declared = d; first = λ b e is_before. before b is_before e; not_preserved = not_preserved; not_eval = not_eval }))

-- the scopes that are entered before the program: none
first_turns : (t : Node) → entry (out-Node t) ≡ [] → turns entry t [] ≡ []
first_turns t e = e

no_turns : (t : Node) (s : Path) → turns entry t s ≡ [] → s ≡ []
no_turns t [] e = refl
no_turns t (i ∷ s) e = absurd (cc)

module _ (r : Renaming) (t : Node) (top : entry (out-Node t) ≡ []) (order : SitesAreInOrder t) where
  -- a scope that is not entered after the program is the program
  is_top : (s : Path) → (slice_cmp nat_cmp (turns entry t s) (turns entry t []) ≡ Greater → ⊥) → s ≡ []
  is_top s h = no_turns t s (empty (turns entry t s) (λ e. h (ap (λ l. slice_cmp nat_cmp (turns entry t s) l) (first_turns t top) ∙ e)))
    where
      empty : (xs : List ℕ) → (slice_cmp nat_cmp xs [] ≡ Greater → ⊥) → xs ≡ []
      empty [] h = refl
      empty (x ∷ xs) h = absurd (h refl)

  abbrev flipped : (a b : Site) → site_cmp t a b ≡ ordering_reverse (site_cmp t b a)
  flipped a b = order.total.antisymm a b

  -- what the top declares is named there
  named_at_top : (x : Id) (d : AtTop t x) (a : Site) → IsNamedAt t r a x → a.0 ≡ []
  named_at_top x d a n = is_top a.0 (λ later.
      n.first ([], d.path) (declared_top t x d) (flipped ([], d.path) a ∙ ap (λ o. ordering_reverse (ordering_then o (slice_cmp nat_cmp (turns (λ _. []) t a.1) (turns (λ _. []) t d.path)))) later))

  is_name_of : (s : Standing) → is_binding s ≡ true → is_name s ≡ true
  is_name_of s h = ap (λ b. b || is_reference s) h

  occurs : (x : Id) (d : AtTop t x) (s : Path) → s ≡ [] → OccursIn t s x
  occurs x d s e = record {
    path = d.path;
    standing = d.standing;
    stands = d.stands;
    names = is_name_of d.standing d.binds;
    analysed = d.analysed;
    inside = inl (Fn, subst (λ s. Contains (scopes_round t d.path) (s, Fn)) (sym e) (subst (λ l. Contains l ([], Fn)) (sym d.alone) (0, (omega arith), refl)));
  }

  -- names of the program's scope count there
  top_counts : (b : Bool) (s u : Path) → s ≡ [] → u ≡ [] → counting_by b t s u
  top_counts true s u e f = inl (e ∙ sym f)
  top_counts false s u e f = tt

  module _ (new_texts : Id → Option (List ℕ)) (named : Named t r (IsPreserved t r.preserves) (counting t r) new_texts) where
    abbrev text : Id → List ℕ
    text x = r.text x (named.taken x)

    -- of two ids the one that is named later has another text
    later_differs : (x y : Id) (d : AtTop t x) (e : AtTop t y) (a b : Site) → IsNamedAt t r a x → IsNamedAt t r b y → IsBefore t a b → text x ≡ text y → ⊥
    later_differs x y d e a b n m before same =
        (named.each b y m).0.free.not_held a x (record { named = n; before = before }) (top_counts r.mangles a.0 b.0 (named_at_top x d a n) (named_at_top y e b m)) (occurs x d b.0 (named_at_top y e b m)) same

    one_site : (x y : Id) (a : Site) → IsNamedAt t r a x → IsNamedAt t r a y → x ≡ y
    one_site x y a n m = let pair : (n.declared.standing, x) ≡ (m.declared.standing, y) = (let p = n.declared.stands in let q = m.declared.stands in cc) in ap (λ (p : Standing × Id). p.1) pair

    texts_differ : (x y : Id) (d : AtTop t x) (e : AtTop t y) (a b : Site) → IsNamedAt t r a x → IsNamedAt t r b y → x ≢ y → text x ≡ text y → ⊥
    texts_differ x y d e a b n m other same = by (site_cmp t a b) refl
      where
        by : (o : Ordering) → site_cmp t a b ≡ o → ⊥
        by Less h = later_differs x y d e a b n m h same
        by Equal h = other (one_site x y a n (subst (λ b. IsNamedAt t r b y) (sym (order.none_level a b x y n.declared m.declared h)) m))
        by Greater h = later_differs y x e d b a m n (flipped b a ∙ ap ordering_reverse h) (sym same)

    abbrev pub KeepsText : Id → Type 0
    KeepsText x = (l : List ℕ) → new_texts x ≡ Some l → l ≡ x.0

    abbrev Preserves : Id → Type 0
    Preserves x = IsTrue (r.preserves x)

    -- an id that is not preserved gets a name, which is none of the preserved texts
    gets_other : (x y : Id) → AtTop t x → ¬ Preserves x → Preserves y → KeepsText x → x.0 ≡ y.0 → ⊥
    gets_other x y d changes stays keeps_x same = somewhere r t x d.not_eval changes (λ a n.
        (named.each a x n).0.free.not_preserved (y, sym same ∙ sym (keeps_x (text x) (named.each a x n).1), inr stays)) ([], d.path) (declared_top t x d)

    both_named : (x y : Id) (d : AtTop t x) (e : AtTop t y) → ¬ Preserves x → ¬ Preserves y → x ≢ y → KeepsText x → KeepsText y → x.0 ≡ y.0 → ⊥
    both_named x y d e not_x not_y other keeps_x keeps_y same =
        somewhere r t x d.not_eval not_x (λ a n. somewhere r t y e.not_eval not_y (λ b m.
        texts_differ x y d e a b n m other (keeps_x (text x) (named.each a x n).1 ∙ same ∙ sym (keeps_y (text y) (named.each b y m).1))) ([], e.path) (declared_top t y e)) ([], d.path) (declared_top t x d)

    -- two ids that the top declares and that keep their texts have two, where preserved ones have
    pub top_texts_differ : TopTextsDiffer r t → (x y : Id) (d : AtTop t x) (e : AtTop t y) → x ≢ y → KeepsText x → KeepsText y → x.0 ≡ y.0 → ⊥
    top_texts_differ apart x y d e other keeps_x keeps_y same = by (r.preserves x) refl (r.preserves y) refl
      where
        not_so : (z : Id) → r.preserves z ≡ false → ¬ Preserves z
        not_so z f h = let never : true ≡ false = sym h ∙ f in absurd (cc)

        by : (b : Bool) → r.preserves x ≡ b → (c : Bool) → r.preserves y ≡ c → ⊥
        by true f true g = other (apart x y (bound_top t x d) (bound_top t y e) f g same)
        by true f false g = gets_other y x e (not_so y g) f keeps_y (sym same)
        by false f true g = gets_other x y d (not_so x f) g keeps_x same
        by false f false g = both_named x y d e (not_so x f) (not_so y g) other keeps_x keeps_y same
