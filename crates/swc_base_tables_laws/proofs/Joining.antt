-- Three programs of one kind and strictness: the statements of the second stand in the third between those of the first.
use Rattle.std.proofs.Common.{◌≡◌, ℕ, zero, suc, IsTrue, ◌⊎◌, inl, inr, ⊎_elim, Some, List, ◌∷◌, ◌++◌, refl, ap, ◌∙◌}
use Rattle.std.specs.List.{slice_get}
use Rattle.swc_tree_node.specs.declared.kind.Kind.{Kind}
use Rattle.swc_tree_node.specs.declared.node.Node.{Node}
use Rattle.swc_tree_scoping.specs.Places.{place_at}
use Rattle.swc_base_tables_laws.proofs.Declarers.{some_same}
use Rattle.swc_base_tables_laws.proofs.Between.{behind, between_at, between_one, origin, past, past_at, past_one}
use Rattle.swc_base_tables_laws.proofs.Joined.{Covered, Joined}
use Rattle.swc_base_tables_laws.proofs.Programs.{HasNoNames, In, Kept, code_of, is_goal_kind, item_place, name_in, one_goal, place_of_item, program_layer_is, program_of, shifted}
use Rattle.swc_base_tables_laws.proofs.Within.{inside_program}

-- all but the first statement
abbrev pub NotFirst : ℕ → Type 0
NotFirst zero = ⊥
NotFirst (suc j) = Unit {0}

abbrev pub from_second : List Node → ℕ → ℕ
from_second front zero = zero
from_second front (suc j) = behind front j

module _ (k : Kind) (goal : IsTrue (is_goal_kind k)) (a z b y o : Node) (na : HasNoNames a) (nz : HasNoNames z) (nb : HasNoNames b) (ny : HasNoNames y) (no : HasNoNames o) (front more back : List Node)
    (code : code_of k (front ++ back) ≡ code_of k (front ++ (more ++ back))) (code_too : code_of k (o ∷ more) ≡ code_of k (front ++ (more ++ back))) where
  abbrev First : List Node
  First = front ++ back

  abbrev Whole : List Node
  Whole = front ++ (more ++ back)

  kept_first : Kept First Whole (past front more) (λ j. Unit {0})
  kept_first = record {
    same = λ j c real e. past_at front more back j ∙ e;
    named = λ j c e. inl tt;
    apart = λ i j real too e. past_one front more i j e;
  }

  same_second : (j : ℕ) (c : Node) → NotFirst j → slice_get (o ∷ more) j ≡ Some c → slice_get Whole (from_second front j) ≡ Some c
  same_second zero c real e = absurd real
  same_second (suc j) c real e = between_at front more back j c e

  named_second : (j : ℕ) (c : Node) → slice_get (o ∷ more) j ≡ Some c → NotFirst j ⊎ HasNoNames c
  named_second zero c e = inr (λ p w v k i h. no p w v k i (ap (λ c. place_at w c p) (some_same o c e) ∙ h))
  named_second (suc j) c e = inl tt

  apart_second : (i j : ℕ) → NotFirst i → NotFirst j → from_second front i ≡ from_second front j → i ≡ j
  apart_second zero j real too e = absurd real
  apart_second (suc i) zero real too e = absurd too
  apart_second (suc i) (suc j) real too e = ap suc (between_one front i j e)

  kept_second : Kept (o ∷ more) Whole (from_second front) NotFirst
  kept_second = record { same = same_second; named = named_second; apart = apart_second }

  covered : Covered (program_of k a First z) (program_of k b (o ∷ more) y) (program_of k a Whole z) (shifted (past front more)) (shifted (from_second front))
  covered p w l i e =
      let (j, q, c, is, at, there) = name_in k goal a z Whole na nz p w l i e in
      ⊎_elim
      (λ (m : (n : ℕ) × (j ≡ past front more n) × (slice_get (front ++ back) n ≡ Some c)).
      inl (1 ∷ m.0 ∷ q, w, is ∙ ap (λ j. 1 ∷ j ∷ q) m.1, place_of_item k goal a z First m.0 c q m.2 ∙ ap (λ s. place_at (item_place s) c q) code ∙ there, inl refl))
      (λ (m : (n : ℕ) × (j ≡ behind front n) × (slice_get more n ≡ Some c)).
      inr (1 ∷ suc m.0 ∷ q, w, is ∙ ap (λ j. 1 ∷ j ∷ q) m.1, place_of_item k goal b y (o ∷ more) (suc m.0) c q m.2 ∙ ap (λ s. place_at (item_place s) c q) code_too ∙ there, inl refl))
      (origin front more back j c at)

  pub joined : Joined (program_of k a First z) (program_of k b (o ∷ more) y) (program_of k a Whole z)
  joined = record {
    f = shifted (past front more);
    g = shifted (from_second front);
    Here = In First (λ j. Unit {0});
    There = In (o ∷ more) NotFirst;
    first = inside_program k goal a z a z First Whole (past front more) (λ j. Unit {0}) na nz code kept_first;
    second = inside_program k goal b y a z (o ∷ more) Whole (from_second front) NotFirst nb ny code_too kept_second;
    covered = covered;
    whole = program_layer_is k goal a z Whole;
    first_goal = one_goal k a z a z Whole First;
    second_goal = one_goal k a z b y Whole (o ∷ more);
  }
