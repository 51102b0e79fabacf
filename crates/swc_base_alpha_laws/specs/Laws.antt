-- The laws of it.
use Rattle.std.specs.Prelude.{◌≡◌, ◌≢◌, ℕ, ◌↔◌}
use Rattle.swc_tree_marks.specs.declared.ident.Ident.{Ident}
use Rattle.swc_tree_marks.specs.Globals.{Table}
use Rattle.swc_tree_node.specs.declared.node.Node.{Node}
use Rattle.swc_tree_scoping.specs.Places.{Path}
use Rattle.swc_tree_scoping.specs.Resolved.{Resolved}
use Rattle.swc_tree_scoping.specs.WellScoped.{IsClean, NoCaughtVariable}
use Rattle.swc_tree_renaming.specs.Apart.{Knows, NameAt, SameId, SameIds}
use Rattle.swc_base_rename_laws.specs.NewNames.{outline}
use Rattle.swc_base_alpha_laws.specs.Alpha.{AlphaEquivalent, AlphaVariants, IdsCorrespond, NamesStay, OtherTextsStay, StandForOne}

abbrev pub AlphaIsReflexive : Type 0
AlphaIsReflexive = (t : Node) → AlphaEquivalent t t

abbrev pub AlphaIsSymmetric : Type 0
AlphaIsSymmetric = (t u : Node) → AlphaEquivalent t u → AlphaEquivalent u t

abbrev pub AlphaIsTransitive : Type 0
AlphaIsTransitive = (t u v : Node) → AlphaEquivalent t u → AlphaEquivalent u v → AlphaEquivalent t v

-- Two names of a program without contexts, in which no `var` declares a catch parameter's name again, stand for one thing exactly if a
-- resolver gives them one id; of the resolver that the mark of free names is known to the table, and is not the program's.
abbrev pub NamesStandForTheirIds : Type 0
NamesStandForTheirIds = (t u : Node) (unresolved top : ℕ) (old new : Table) → IsClean t → NoCaughtVariable t → Knows old unresolved → unresolved ≢ top → Resolved unresolved top old new t u
    → (p q : Path) (i j a b : Ident) (m : NameAt t p i) (n : NameAt t q j) → NameAt u p a → NameAt u q b → StandForOne t p q i j m n ↔ SameId a b

-- ... and of all its programs: two resolvers give the same names one id
abbrev pub ResolversAgree : Type 0
ResolversAgree = (t u v : Node) (unresolved top free whole : ℕ) (old new before after : Table) → IsClean t → Knows old unresolved → unresolved ≢ top → Resolved unresolved top old new t u
    → Knows before free → free ≢ whole → Resolved free whole before after t v → SameIds u v

-- Two programs without contexts in which no `var` declares a catch parameter's name again are one but for names exactly if their
-- outlines are one and the ids that resolvers find in them correspond.
abbrev pub IdsDecide : Type 0
IdsDecide = (t s u v : Node) (unresolved top free whole : ℕ) (old new before after : Table) → IsClean t → IsClean s → NoCaughtVariable t → NoCaughtVariable s
    → Knows old unresolved → unresolved ≢ top → Resolved unresolved top old new t u → Knows before free → free ≢ whole → Resolved free whole before after s v
    → AlphaVariants t s ↔ ((outline t ≡ outline s) × IdsCorrespond unresolved free u v)

-- Two programs without contexts that have one outline and one text for each identifier are one, whatever their spans.
abbrev pub OneTextIsEnough : Type 0
OneTextIsEnough = (t u : Node) → IsClean t → IsClean u → outline t ≡ outline u → OtherTextsStay t u → NamesStay t u → AlphaVariants t u
