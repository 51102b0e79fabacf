-- What texts tell of names that may meet a catch parameter.
use Rattle.std.specs.Prelude.{◌≡◌, ℕ, Bool, true, IsTrue, List, Contains}
use Rattle.std.specs.Borrow.{Bor}
use Rattle.std.specs.BTreeSet.{BTreeSet, contains_by}
use Rattle.std.specs.Cmp.Lexicographic.{slice_cmp}
use Rattle.std.specs.Ordering.{nat_cmp}
use Rattle.swc_tree_scoping.specs.WellScoped.{is_catch_parameter}
use Rattle.swc_base_scope_checks.specs.Caught.{is_asked}
use Rattle.swc_base_alpha.specs.Side.{Seen}

-- as the code keeps them
abbrev pub Texts : Type 0
Texts = BTreeSet (Bor (List ℕ))

abbrev pub has_text : Texts → List ℕ → Bool
has_text texts name = contains_by (λ k. slice_cmp nat_cmp name k.now) texts

-- each of the first is one of the second
abbrev pub AreKept : Texts → Texts → Type 0
AreKept old new = (name : List ℕ) → IsTrue (has_text old name) → IsTrue (has_text new name)

-- the text of each catch parameter is one of them
abbrev pub HasTexts : List Seen → Texts → Type 0
HasTexts xs texts = (x : Seen) → Contains xs x → IsTrue (is_catch_parameter x.0) → IsTrue (has_text texts x.1.sym)

-- no variable, and no plain function in a block of sloppy code, has the text of a catch parameter
abbrev pub NoneMeet : List Seen → Type 0
NoneMeet xs = (x y : Seen) → Contains xs x → Contains xs y → IsTrue (is_catch_parameter x.0) → IsTrue (is_asked true y.0) → ¬ (x.1.sym ≡ y.1.sym)
