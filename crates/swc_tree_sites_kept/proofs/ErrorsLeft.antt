-- What is left of a program, with new texts: what it declares, and that it declares none against the rules.
use Rattle.std.proofs.Common.{◌≡◌, ℕ, true, false, IsTrue, ⊎_elim, List, [], sym, ap, ◌∙◌, subst}
use Rattle.swc_tree_node.specs.declared.node.Node.{Node}
use Rattle.swc_tree_scoping.specs.declared.places.Place.{Place}
use Rattle.swc_tree_scoping.specs.declared.places.Standing.TheVariants as standing
use Rattle.swc_tree_scoping.specs.Places.{Path, program_place}
use Rattle.swc_tree_scoping.specs.Scopes.{is_name}
use Rattle.swc_tree_scoping.specs.Declares.{Bound, Declares}
use Rattle.swc_tree_scoping.specs.WellScoped.{NoRedeclaration}
use Rattle.swc_tree_renaming.specs.Apart.{CapturesNone}
use Rattle.swc_tree_renaming.proofs.Core.{taken_same}
use Rattle.swc_tree_sites.specs.Sites.{Binding, taken_at}
use Rattle.swc_tree_sites.specs.Smaller.{In, IsLeftOf, IsPlain}
use Rattle.swc_tree_sites.proofs.Laws.{no_capture_stays}
use Rattle.swc_tree_sites.proofs.Loose.{S}
use Rattle.swc_tree_sites.proofs.Round.{taken_by, taken_is}
use Rattle.swc_tree_sites.proofs.Transport.{binding_names, bound_binds, bound_in, declares_way, in_bound, sub_in, way_declares}
use Rattle.swc_tree_sites_laws.proofs.LeftIds.{plain_clean}
use Rattle.swc_tree_sites_kept.specs.Errors.{AnswerDeclares, AnswerRedeclaresNone, Answers, AreOfOneGoal, DeclaredStays, IsFair, KeepsScopes}
use Rattle.swc_tree_sites_kept.proofs.NewTexts.{new_texts_redeclare_none, stays_fair as fair_named}
use Rattle.swc_tree_sites_kept.proofs.Stays.{no_redeclaration_stays, scope_there, set_there, stays_fair as fair_kept}

abbrev PP : Place
PP = program_place

-- what is left of a tree keeps its scopes
pub left_keeps : (t n : Node) → IsLeftOf n t → taken_at PP n ≡ taken_at PP t → KeepsScopes n t
left_keeps t n left program = record {
  variables = λ i env h. ⊎_elim (λ g. g) (λ c. absurd (no_reference c.refers)) (left.names (standing.Variable, i, env) h);
  sets = λ bs h. sub_in bs (S PP n).sets (S PP t).sets left.scopes h;
  program = program;
}
  where
    no_reference : IsTrue false → ⊥
    no_reference e = absurd (cc)

-- a scope of the one takes what a scope of the other does
there : (t n : Node) → KeepsScopes n t → (s : Path) (b : Binding) → In b (taken_by PP n s) → (f : Path) × In b (taken_by PP t f)
there t n keeps s b h = let (f, e) = scope_there t (taken_by PP n s) (keeps.sets (taken_by PP n s) (set_there n s b h)) in (f, subst (In b) (sym e) h)

pub declared_stays : DeclaredStays
declared_stays t n pt pn ct cn keeps x (p, r, b) =
    let plain_t = plain_clean t pt ct in
    let (s, taken) = (plain_clean n pn cn).takes p r x b in
    let own = (taken_is s PP n (r, b.at.identifier)).1 (record { path = p; place = b.at.place; kind = b.at.kind; stands = b.at.stands; stands_so = b.at.stands_so; binds = b.binds; taken = taken }) in
    let (f, h) = there t n keeps s (r, b.at.identifier) own in
    let g = in_bound t plain_t f (r, b.at.identifier) h in
    (g.path, r, record { at = record { place = g.place; kind = g.kind; identifier = g.identifier; stands = g.stands; stands_so = g.stands_so; named = g.named ∙ b.at.named }; binds = b.binds })

-- what the program takes is declared by the program of the other
program_declares : (t n : Node) → IsPlain t → IsPlain n → taken_at PP n ≡ taken_at PP t → (x : List ℕ) → Declares t [] x → Declares n [] x
program_declares t n plain_t plain_n program x d =
    let (r, b, ways) = declares_way t plain_t x ([], true) d in
    let own = subst (In (r, b.identifier)) (sym program) (bound_in t plain_t [] r x b (bound_binds t [] r x b)) in
    way_declares n plain_n x [] true r (subst (Bound n [] r) b.named (in_bound n plain_n [] (r, b.identifier) own)) ways

module _ (t a n answer : Node) (text : List ℕ → List ℕ) (is : Answers t a n answer text) where
  plain_t : IsPlain t
  plain_t = plain_clean t is.fair.0 is.clean.0

  plain_a : IsPlain a
  plain_a = plain_clean a is.plain.0 is.clean.1

  plain_n : IsPlain n
  plain_n = plain_clean n is.plain.1 is.clean.2

  apart : CapturesNone a text
  apart = no_capture_stays t a text plain_t plain_a is.left is.one is.apart

  keeps : KeepsScopes a t
  keeps = left_keeps t a is.left is.program

  to_n : AreOfOneGoal a n
  to_n = sym is.goals.0 ∙ is.goals.1

  to_answer : AreOfOneGoal n answer
  to_answer = sym is.goals.1 ∙ is.goals.2

  -- the answer is such a program, and declares none against the rules
  pub fair_answer : NoRedeclaration t → IsFair answer × NoRedeclaration answer
  fair_answer fine =
      let fair_a = fair_kept t a is.fair is.plain.0 is.goals.0 is.clean.0 is.clean.1 keeps fine in
      let fine_a = no_redeclaration_stays t a is.fair is.plain.0 is.goals.0 is.clean.0 is.clean.1 keeps fine in
      let fair_n = fair_named a n text fair_a is.plain.1 to_n is.clean.1 is.clean.2 is.shape is.texts apart fine_a in
      let fine_n = new_texts_redeclare_none a n text fair_a is.plain.1 to_n is.clean.1 is.clean.2 is.shape is.texts apart fine_a in
      (fair_kept n answer fair_n is.plain.2 to_answer is.clean.2 is.clean.3 is.keeps fine_n, no_redeclaration_stays n answer fair_n is.plain.2 to_answer is.clean.2 is.clean.3 is.keeps fine_n)

  -- by the new text
  anew : (x : List ℕ) → Declares a [] x → Declares n [] (text x)
  anew x d =
      let (r, b, ways) = declares_way a plain_a x ([], true) d in
      let (l, j, e) = is.shape.forth b.path b.place b.kind b.identifier b.stands in
      let names = subst (λ r. IsTrue (is_name r)) (sym b.stands_so) (binding_names r (bound_binds a [] r x b)) in
      let bound : Bound n [] r (text x) = record {
        path = b.path;
        place = b.place;
        kind = l;
        identifier = j;
        stands = e;
        stands_so = b.stands_so;
        named = is.texts b.path b.place b.place b.kind l b.identifier j b.stands e names ∙ ap text b.named;
        unmarked = is.clean.2 b.path b.place l j e;
        taken = sym (taken_same a n text is.shape is.clean.1 is.clean.2 is.texts plain_a.settled r b.path) ∙ b.taken;
      } in
      way_declares n plain_n (text x) [] true r bound ways

  pub declares : (x : List ℕ) → Declares t [] x → Declares answer [] (text x)
  declares x d = program_declares n answer plain_n (plain_clean answer is.plain.2 is.clean.3) is.keeps.program (text x) (anew x (program_declares t a plain_t plain_a is.program x d))

pub answer_redeclares_none : AnswerRedeclaresNone
answer_redeclares_none t a n answer text is fine = (fair_answer t a n answer text is fine).1

pub answer_declares : AnswerDeclares
answer_declares t a n answer text is x d = declares t a n answer text is x d
