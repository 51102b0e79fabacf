-- A program that two others make up is well-scoped, where both are scoped, what each binds is its own, and all that is free has the
-- global mark alone.
use Rattle.std.proofs.Common.{◌≡◌, ◌⊎◌, ℕ, inl, inr, ⊎_elim, List, [], ◌∷◌, sym, ap, ◌∙◌}
use Rattle.std.specs.Prelude.{codes}
use Rattle.swc_tree_marks.specs.declared.ident.Ident.{Ident}
use Rattle.swc_tree_node.specs.declared.node.Node.{Node}
use Rattle.swc_tree_scoping.specs.Readings.{by_ids, by_texts, id_name}
use Rattle.swc_tree_scoping.specs.WellScoped.{IsClean, IsDeclared, IsFree, NoEvalOrArguments, WellScoped}
use Rattle.swc_tree_renaming.proofs.Whole.{from_ids}
use Rattle.swc_base_tables_laws.proofs.Inside.{stands_forth}
use Rattle.swc_base_tables_laws.proofs.Joined.{BoundApart, BoundIn, IsFrom, Joined, NamesScoped, Offered, bound_at, names_scoped, still_refers}
use Rattle.swc_base_tables_laws.proofs.Lifted.{joined_changed}

pub clean_ids : (t : Node) → IsClean (by_ids t)
clean_ids t p w k i h = let (l, j, e, is) = from_ids t p w k i h in ap (λ (i : Ident). i.ctxt) is

pub scoped_of : (t : Node) → WellScoped t → NamesScoped (by_ids t)
scoped_of t w = record {
  each_in_one_scope = w.each_in_one_scope;
  exports_declared = w.exports_declared;
  no_redeclaration = w.no_redeclaration;
  no_caught_variable = w.no_caught_variable;
}

-- what is declared in a whole is declared in one of the two, and the other way
declared_in : (t v u : Node) → Joined t v u → (x : List ℕ) → IsDeclared u x → IsDeclared t x ⊎ IsDeclared v x
declared_in t v u j x (p, r, b) = ⊎_elim
    (λ (a : BoundIn t j.f p r x). inl (a.0, r, record { at = a.2; binds = b.binds }))
    (λ (a : BoundIn v j.g p r x). inr (a.0, r, record { at = a.2; binds = b.binds }))
    (bound_at t v u j.f j.g j.covered p r x b)

-- and what is declared in one of them is declared in the whole
first_declared : (t v u : Node) → Joined t v u → IsClean t → IsClean u → (x : List ℕ) → IsDeclared t x → IsDeclared u x
first_declared t v u j ct cu x (p, r, b) = (j.f p, r, record { at = stands_forth t u j.f j.Here j.first ct cu p r x b.binds b.at; binds = b.binds })

second_declared : (t v u : Node) → Joined t v u → IsClean v → IsClean u → (x : List ℕ) → IsDeclared v x → IsDeclared u x
second_declared t v u j cv cu x (p, r, b) = (j.g p, r, record { at = stands_forth v u j.g j.There j.second cv cu p r x b.binds b.at; binds = b.binds })

module _ (T V U : Node) (j : Joined T V U) where
  joined_ids : Joined (by_ids T) (by_ids V) (by_ids U)
  joined_ids = joined_changed (λ i. record i { sym = id_name i; ctxt = [] }) T V U j

  joined_texts : Joined (by_texts T) (by_texts V) (by_texts U)
  joined_texts = joined_changed (λ i. record i { ctxt = [] }) T V U j

  no_eval : NoEvalOrArguments T → NoEvalOrArguments V → NoEvalOrArguments U
  no_eval t v = (
    (λ d. ⊎_elim t.0 v.0 (declared_in (by_texts T) (by_texts V) (by_texts U) joined_texts (codes "eval") d)),
    (λ d. ⊎_elim t.1 v.1 (declared_in (by_texts T) (by_texts V) (by_texts U) joined_texts (codes "arguments") d)),
  )

  free_of : (i : Ident) → IsFree U i → (IsFree T i × ¬ IsDeclared (by_ids V) (id_name i)) ⊎ IsFree V i
  free_of i h = ⊎_elim
      (λ (m : IsFrom T j.f h.path h.place h.kind i). inl (record { path = m.0; place = m.1; kind = h.kind; stands = m.3; refers = still_refers m.1 h.place m.4 h.refers; undeclared = not_first }, not_second))
      (λ (m : IsFrom V j.g h.path h.place h.kind i). inr (record { path = m.0; place = m.1; kind = h.kind; stands = m.3; refers = still_refers m.1 h.place m.4 h.refers; undeclared = not_second }))
      (j.covered h.path h.place h.kind i h.stands)
    where
      not_first : ¬ IsDeclared (by_ids T) (id_name i)
      not_first d = h.undeclared (first_declared (by_ids T) (by_ids V) (by_ids U) joined_ids (clean_ids T) (clean_ids U) (id_name i) d)

      not_second : ¬ IsDeclared (by_ids V) (id_name i)
      not_second d = h.undeclared (second_declared (by_ids T) (by_ids V) (by_ids U) joined_ids (clean_ids V) (clean_ids U) (id_name i) d)

  pub injected : NamesScoped (by_ids T) → NamesScoped (by_ids V) → NoEvalOrArguments T → NoEvalOrArguments V → BoundApart (by_ids T) (by_ids V) → Offered (by_ids T) (by_ids V)
      → (global : ℕ) → ((i : Ident) → IsFree T i → ¬ IsDeclared (by_ids V) (id_name i) → i.ctxt ≡ global ∷ []) → ((i : Ident) → IsFree V i → i.ctxt ≡ global ∷ []) → WellScoped U
  injected st sv et ev apart offered global frees frees_too =
      let names = names_scoped (by_ids T) (by_ids V) (by_ids U) joined_ids (clean_ids T) (clean_ids V) (clean_ids U) st sv apart offered in
      record {
        each_in_one_scope = names.each_in_one_scope;
        free_apart = record { apart = λ i k h g e. context i h ∙ sym (context k g); marked = λ i h e. let z : ◌≡◌ {A = List ℕ} (global ∷ []) [] = sym (context i h) ∙ e in absurd (cc) };
        exports_declared = names.exports_declared;
        no_redeclaration = names.no_redeclaration;
        no_caught_variable = names.no_caught_variable;
        no_eval_or_arguments = no_eval et ev;
      }
    where
      context : (i : Ident) → IsFree U i → i.ctxt ≡ global ∷ []
      context i h = ⊎_elim (λ (m : IsFree T i × ¬ IsDeclared (by_ids V) (id_name i)). frees i m.0 m.1) (frees_too i) (free_of i h)
