-- What the map of a renamer gives: a text of an id that is declared, which may be bound.
use Rattle.std.proofs.Common.{◌≡◌, ◌≢◌, ◌<◌, ◌^◌, ℕ, Bool, true, false, not, ◌&&◌, ◌||◌, codes, Option, Some, None, List, [], nat_eq, refl, sym, ap, ◌∙◌}
use Rattle.std.specs.Prelude.{option_map, if◌then◌else◌}
use Rattle.std.specs.Cmp.Lexicographic.{pointwise}
use Rattle.std.proofs.lemmas.Bool.{false_from_ne_true}
use Rattle.std.proofs.lemmas.Slice.Eq.{bytes_eq-Decides}
use Rattle.swc_tree_node.specs.declared.node.Node.{Node}
use Rattle.swc_tree_scoping.specs.BoundNames.{Id}
use Rattle.swc_tree_grammar.specs.Writable.{is_identifier_text}
use Rattle.swc_base_rename_substitution.specs.Identifiers.{id_of}
use Rattle.swc_base_rename_substitution.specs.Names.{if_other_text, same_text}
use Rattle.swc_base_rename_analysis.specs.Named.{Counting, Named, Renaming}
use Rattle.swc_base_rename_program.specs.Renamed.{new_id_by}
use Rattle.swc_base_rename_laws.specs.Laws.{GivesNames}
use Rattle.swc_base_renaming_laws.specs.Renamers.{IsLawful}

-- a text that counts is the map's, and is another
pub record Other (x : Id) (found : Option (List ℕ)) (y : Id) : Type 0 where
  pub found_is : found ≡ Some y.0
  pub empty : y.1 ≡ []
  pub other : same_text y x ≡ false

pub other_text : (x y : Id) (o : Option (List ℕ)) → if_other_text x (option_map (λ text. (text, [])) o) ≡ Some y → Other x o y
other_text x y None e = absurd (cc)
other_text x y (Some text) e = by (same_text (text, []) x) refl e
  where
    by : (b : Bool) → same_text (text, []) x ≡ b → (if b then None else Some (text, [])) ≡ Some y → Other x (Some text) y
    by true h e = absurd (cc)
    by false h e = (let same : (text, []) ≡ y = cc in record { found_is = ap (λ (y : Id). Some y.0) same; empty = ap (λ (y : Id). y.1) (sym same); other = ap (λ y. same_text y x) (sym same) ∙ h })

both_true : (a b : Bool) → a ≡ true → b ≡ true → (a && b) ≡ true
both_true a b p q = ap (λ x. x && b) p ∙ q

both_false : (a b : Bool) → a ≡ false → b ≡ false → (a || b) ≡ false
both_false a b p q = ap (λ x. x || b) p ∙ q

other_word : (text word : List ℕ) → text ≢ word → pointwise nat_eq text word ≡ false
other_word text word h = false_from_ne_true (pointwise nat_eq text word) (λ same. h ((bytes_eq-Decides text word).0 same))

-- a text of an id that is declared, under some counter
pub record Counted (r : Renaming) (x : Id) (text : List ℕ) : Type 0 where
  pub counter : ℕ
  pub within : counter < 2 ^ 64
  pub is : text ≡ r.text x counter
  pub analysed : x.0 ≢ codes "arguments"
  pub not_eval : x.0 ≢ codes "eval"

module _ (t : Node) (r : Renaming) (preserved : List ℕ → Type 0) (counts : Counting) (new_texts : Id → Option (List ℕ)) (named : Named t r preserved counts new_texts) where
  -- a text is that of the counter that the id took
  pub counted : (x : Id) (text : List ℕ) → new_texts x ≡ Some text → Counted r x text
  counted x text e =
      let (a, h) = named.no_other x text e in
      let same : Some text ≡ Some (r.text x (named.taken x)) = sym e ∙ (named.each a x h).1 in
      record { counter = named.taken x; within = (named.each a x h).0.within; is = cc; analysed = h.declared.analysed; not_eval = h.not_eval }

  pub gives_names : IsLawful r → GivesNames (new_id_by new_texts)
  gives_names lawful i text context e h =
      let o = other_text (id_of i) (text, context) (new_texts (id_of i)) e in
      let c = counted (id_of i) text o.found_is in
      both_true _ _ (ap is_identifier_text c.is ∙ lawful.identifiers (id_of i) c.counter c.within h)
      (ap not (both_false _ _ (other_word text (codes "eval") (λ z. c.not_eval (lawful.no_eval (id_of i) c.counter c.within (sym c.is ∙ z))))
      (other_word text (codes "arguments") (λ z. c.analysed (lawful.no_arguments (id_of i) c.counter c.within (sym c.is ∙ z))))))
