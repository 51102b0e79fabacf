-- At which node a comment stands.
use Rattle.std.proofs.Common.{◌≡◌, ◌↔◌, ℕ, ◌-◌, ◌<◌, ◌≤◌, Bool, true, false, List, Option, Some, None, IsTrue, MatchOption, inl, inr, if◌then◌else◌, refl, arith}
use Rattle.std.proofs.lemmas.Bool.{cases_lt}
use Rattle.text_comments.specs.declared.comment.Comment.{Comment}
use Rattle.text_commented.specs.Chosen.{BeginsBehind, ClosesBehind, IsAlone, IsFound, IsNearest, StopsBefore, before, begins_line, behind, near, within}
use Rattle.text_commented.specs.Sites.{IsFirstBegun, IsLastStop}
use Rattle.text_commented.specs.declared.remark.At.{At}
use Rattle.text_commented.specs.declared.remark.At.TheVariants as stand
use Rattle.text_commented.proofs.Listed.{never}

-- a test that fails says that it is not so
pub refuted : (b : Bool) (P : Type 0) → IsTrue b ↔ P → b ≡ false → ¬ P
refuted b P so fails p = never b (so.1 p) fails

-- there is one last that stops, and one first that begins
stops_last : (all : List At) (limit m n : ℕ) → IsLastStop all limit m → IsLastStop all limit n → m ≡ n
stops_last all limit m n one other =
    elim (cases_lt m n) [
      | inl less ↦ absurd (one.3 n less other.1 other.2)
      | inr no_less ↦ elim (cases_lt n m) [
        | inl more ↦ absurd (other.3 m more one.1 one.2)
        | inr no_more ↦ omega arith
      ]
    ]

begins_first : (all : List At) (limit m n : ℕ) → IsFirstBegun all limit m → IsFirstBegun all limit n → m ≡ n
begins_first all limit m n one other =
    elim (cases_lt m n) [
      | inl less ↦ absurd (other.3 m one.0 less one.2)
      | inr no_less ↦ elim (cases_lt n m) [
        | inl more ↦ absurd (one.3 n other.0 more other.2)
        | inr no_more ↦ omega arith
      ]
    ]

-- the nearer of both
pub stops_nearest : (all : List At) (k : Comment) (stopped begun : ℕ) → IsLastStop all k.trails stopped → IsFirstBegun all k.leads begun → k.trails - stopped ≤ begun - k.leads → IsNearest all k (stand.Trails stopped)
stops_nearest all k stopped begun last first nearer = (last, λ m other. let same : begun ≡ m = begins_first all k.leads begun m first other in omega arith)

pub begins_nearest : (all : List At) (k : Comment) (stopped begun : ℕ) → IsLastStop all k.trails stopped → IsFirstBegun all k.leads begun → begun - k.leads < k.trails - stopped → IsNearest all k (stand.Leads begun)
begins_nearest all k stopped begun last first nearer = (first, λ m other. let same : stopped ≡ m = stops_last all k.trails stopped m last other in omega arith)

-- no node is near
pub none_nearest : (all : List At) (k : Comment) → ((n : ℕ) → ¬ IsLastStop all k.trails n) → ((n : ℕ) → ¬ IsFirstBegun all k.leads n) → (a : At) → ¬ IsNearest all k a
none_nearest all k stops begins (stand.Trails n) is = stops n is.0
none_nearest all k stops begins (stand.Leads n) is = begins n is.0

not_found : (text : List ℕ) (all : List At) (k : Comment) (a : At) → IsAlone all k → ¬ ClosesBehind all k → ¬ IsNearest all k a → IsFound text all k a → ⊥
not_found text all k a alone unclosed far (behind stops apart is) = alone.0 stops
not_found text all k a alone unclosed far (before begins so is) = alone.1 begins
not_found text all k a alone unclosed far (within apart closes is) = unclosed closes
not_found text all k a alone unclosed far (near apart other is) = far is

pub nearest_found : (text : List ℕ) (all : List At) (k : Comment) (r : Option At) → IsAlone all k → ¬ ClosesBehind all k → MatchOption r ((a : At) → ¬ IsNearest all k a) (IsNearest all k)
    → MatchOption r ((a : At) → ¬ IsFound text all k a) (IsFound text all k)
nearest_found text all k (Some a) alone unclosed is = near alone unclosed is
nearest_found text all k None alone unclosed none = λ a. not_found text all k a alone unclosed (none a)

-- between a node that stops and one that begins
between_by : (text : List ℕ) (all : List At) (k : Comment) (a : At) (b : Bool) → StopsBefore all k → BeginsBehind all k → begins_line text k ≡ b
    → a ≡ (if b then stand.Leads k.leads else stand.Trails k.trails) → IsFound text all k a
between_by text all k a true stops begins line is = before begins (λ so. line) is
between_by text all k a false stops begins line is = behind stops (λ both. never (begins_line text k) both.1 line) is

pub between_found : (text : List ℕ) (all : List At) (k : Comment) (a : At) → StopsBefore all k → BeginsBehind all k
    → a ≡ (if begins_line text k then stand.Leads k.leads else stand.Trails k.trails) → IsFound text all k a
between_found text all k a stops begins is = between_by text all k a (begins_line text k) stops begins refl is
