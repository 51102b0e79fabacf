-- From lists of identifiers to the word of a verdict.
use Rattle.std.proofs.Common.{◌≡◌, ℕ, Bool, true, false, IsTrue, inl, inr, Option, Some, None, List, [], ◌∷◌, ◌↔◌, refl, sym, ap, subst, arith}
use Rattle.std.specs.Option.{is_some}
use Rattle.swc_tree_node.specs.declared.node.Node.{Node}
use Rattle.swc_tree_scoping.specs.declared.places.Scope.{Scope}
use Rattle.swc_tree_scoping.specs.Places.{program_place}
use Rattle.swc_tree_scoping.specs.Scopes.{IsScope}
use Rattle.swc_tree_walk.specs.Sites.{sites}
use Rattle.swc_base_rename_laws.specs.NewNames.{outline}
use Rattle.swc_base_alpha_laws.proofs.Alike.{one_text_is_enough}
use Rattle.swc_base_alpha_laws.proofs.Ids.{Resolver}
use Rattle.swc_base_alpha.specs.declared.differs.Rules.{Rules}
use Rattle.swc_base_alpha.specs.declared.verdict.Why.{Why}
use Rattle.swc_base_alpha.specs.declared.verdict.Why.TheVariants as why
use Rattle.swc_base_alpha.specs.Judged.{AllHold, Concludes, Decides, IsOrdinary, IsOwnAnswer, own_table}
use Rattle.swc_base_alpha.specs.Pairs.{ListAsks}
use Rattle.swc_base_alpha.specs.Side.{Seen}
use Rattle.swc_base_alpha.specs.Verdict.{AreSame, Asks, IsFirstToFail, IsUncaught, words}
use Rattle.swc_base_alpha.proofs.Told.{free_told, names_told, others_told, split_told, top_told, variants}
use Rattle.swc_tree_renaming.proofs.Core.{head_in}

-- ---- conditions in a row

pub fails : (asks : Why → Type 0) (ws : List Why) (w : Why) → IsFirstToFail asks ws w → ¬ asks w
fails asks [] w h a = h
fails asks (v ∷ vs) w (inl (none, is)) a = none (subst asks is a)
fails asks (v ∷ vs) w (inr (here, rest)) a = fails asks vs w rest a

module _ (asks others : Why → Type 0) (forth : (w : Why) → asks w → others w) (back : (w : Why) → others w → asks w) where
  first_turned : (ws : List Why) (w : Why) → IsFirstToFail asks ws w → IsFirstToFail others ws w
  first_turned [] w h = h
  first_turned (v ∷ vs) w (inl (none, is)) = inl (λ a. none (back v a), is)
  first_turned (v ∷ vs) w (inr (here, rest)) = inr (forth v here, first_turned vs w rest)

  all_turned : (ws : List Why) → AllHold asks ws → AllHold others ws
  all_turned [] h = h
  all_turned (v ∷ vs) (here, rest) = (forth v here, all_turned vs rest)

  pub turned : (ws : List Why) (o : Option Why) → Decides asks ws o → Decides others ws o
  turned ws None h = all_turned ws h
  turned ws (Some w) h = first_turned ws w h

-- ---- two normal forms and the answers to them

each_asked : (keep_top : Bool) (reading : Type 0) (t s : Node) → AreSame keep_top reading t s → (w : Why) → Asks keep_top reading t s w
each_asked keep_top reading t s same why.Shape = same.alpha.shape
each_asked keep_top reading t s same why.Name = same.alpha.others
each_asked keep_top reading t s same why.Free = λ uncaught. same.alpha.free
each_asked keep_top reading t s same why.Split = λ uncaught p q i j a b m n x y. (same.alpha.meanings p q i j a b m n x y).0
each_asked keep_top reading t s same why.Joined = λ uncaught p q i j a b m n x y. (same.alpha.meanings p q a b i j x y m n).1
each_asked keep_top reading t s same why.Top = λ uncaught keep. same.top keep
each_asked keep_top reading t s same why.Reads = same.read
each_asked keep_top reading t s same why.Caught = same.caught

pub not_same : (keep_top : Bool) (reading : Type 0) (t s : Node) (w : Why) → IsFirstToFail (Asks keep_top reading t s) words w → ¬ AreSame keep_top reading t s
not_same keep_top reading t s w h same = fails (Asks keep_top reading t s) words w h (each_asked keep_top reading t s same w)

program_opens : (t : Node) → IsOrdinary t → IsScope t []
program_opens t h = ap (λ (o : Option Scope). is_some o) h.opens

abbrev pub own_resolver : (t u : Node) → IsOrdinary t → IsOwnAnswer t u → Resolver t u
own_resolver t u h (new, resolved) = record {
  unresolved = 1;
  top = 2;
  old = own_table;
  new = new;
  clean = h.clean;
  known = (0, head_in {X = ℕ × ℕ} (1, 0) ((2, 0) ∷ []));
  apart = λ e. absurd (omega (arith, e));
  resolved = resolved;
}

abbrev Caught : Bool → Node → Node → Type 0
Caught caught t s = (caught ≡ false) ↔ IsUncaught t s

is_caught : (b : Bool) (t s : Node) → Caught b t s → ¬ IsUncaught t s → b ≡ true
is_caught true t s k none = refl
is_caught false t s k none = absurd (none (k.0 refl))

not_both : {A : Type 0} (b : Bool) → b ≡ true → b ≡ false → A
not_both true h k = absurd (cc)
not_both false h k = absurd (cc)

module _ (t s u v : Node) (rules : Rules) (here : IsOrdinary t) (there : IsOrdinary s) (shape : outline t ≡ outline s) (first : IsOwnAnswer t u) (second : IsOwnAnswer s v) (known : Caught rules.caught t s) where
  abbrev g : Resolver t u
  g = own_resolver t u here first

  abbrev z : Resolver s v
  z = own_resolver s v there second

  abbrev xs : List Seen
  xs = sites program_place u

  abbrev ys : List Seen
  ys = sites program_place v

  abbrev A : Why → Type 0
  A = Asks rules.keep_top (IsTrue rules.reads) t s

  forth : (w : Why) → ListAsks rules xs ys w → A w
  forth why.Shape h = shape
  forth why.Name h = (others_told t s u v g z shape).1 h
  forth why.Free h = λ (a, b). (free_told t s u v g z shape a.0 b.0).1 (h (known.1 (a, b)))
  forth why.Split h = λ (a, b). (split_told t s u v g z shape a.0 b.0).1 (h (known.1 (a, b)))
  forth why.Joined h = λ (a, b). (split_told s t v u z g (sym shape) b.0 a.0).1 (h (known.1 (a, b)))
  forth why.Top h = λ (a, b) keep. (top_told t s u v g z shape a.0 b.0 (program_opens t here) (program_opens s there)).1 (h (known.1 (a, b)) keep)
  forth why.Reads h = λ reads. (names_told t s u v g z shape).1 (h reads)
  forth why.Caught h = λ none. (names_told t s u v g z shape).1 (h (is_caught rules.caught t s known none))

  back : (w : Why) → A w → ListAsks rules xs ys w
  back why.Shape h = tt
  back why.Name h = (others_told t s u v g z shape).0 h
  back why.Free h = λ free. let (a, b) = known.0 free in (free_told t s u v g z shape a.0 b.0).0 (h (a, b))
  back why.Split h = λ free. let (a, b) = known.0 free in (split_told t s u v g z shape a.0 b.0).0 (h (a, b))
  back why.Joined h = λ free. let (a, b) = known.0 free in (split_told s t v u z g (sym shape) b.0 a.0).0 (h (a, b))
  back why.Top h = λ free keep. let (a, b) = known.0 free in (top_told t s u v g z shape a.0 b.0 (program_opens t here) (program_opens s there)).0 (h (a, b) keep)
  back why.Reads h = λ reads. (names_told t s u v g z shape).0 (h reads)
  back why.Caught h = λ caught. (names_told t s u v g z shape).0 (h (λ none. not_both rules.caught caught (known.1 none)))

  all_same : AllHold A words → AreSame rules.keep_top (IsTrue rules.reads) t s
  all_same (_, (others, (free, (split, (joined, (top, (read, (caught, _)))))))) = by rules.caught refl
    where
      by : (b : Bool) → rules.caught ≡ b → AreSame rules.keep_top (IsTrue rules.reads) t s
      by false e =
          let (a, b) = known.0 e in
          record { alpha = variants t s shape a.0 b.0 others (free (a, b)) (split (a, b)) (joined (a, b)); top = λ keep. top (a, b) keep; read = read; caught = caught }
      by true e =
          let none : ¬ IsUncaught t s = λ un. not_both rules.caught e (known.1 un) in
          let names = caught none in
          record { alpha = one_text_is_enough t s here.clean there.clean shape others names; top = λ keep p i a m x _. names p i a m x; read = read; caught = caught }

  concluded_by : (o : Option Why) → Decides A words o → Concludes rules.keep_top (IsTrue rules.reads) t s o
  concluded_by None h = all_same h
  concluded_by (Some w) h = h

  pub concluded : (cs bs : List Seen) → cs ≡ xs → bs ≡ ys → (o : Option Why) → Decides (ListAsks rules cs bs) words o → Concludes rules.keep_top (IsTrue rules.reads) t s o
  concluded cs bs e f o h =
      concluded_by o (turned (ListAsks rules xs ys) A forth back words o (subst (λ cs. Decides (ListAsks rules cs ys) words o) e (subst (λ bs. Decides (ListAsks rules cs bs) words o) f h)))
