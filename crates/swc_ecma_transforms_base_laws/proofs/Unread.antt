-- Nothing reads names in what hygiene and then the fixer answer, where nothing reads them in the program.
use Rattle.std.proofs.Common.{◌≡◌, ◌≢◌, ◌⊎◌, inl, inr, ℕ, zero, suc, ◌/◌, ◌%◌, Bool, true, false, ◌||◌, ◌==◌, Option, Some, None, List, [], ◌∷◌, ◌++◌, codes, decimal, nat_eq, refl, sym, ap, ◌∙◌, subst, arith}
use Rattle.std.specs.Prelude.{if◌then◌else◌, option_map}
use Rattle.std.specs.Fmt.{digits, digits_onto, digit_glyph}
use Rattle.std.specs.List.{list_any}
use Rattle.std.specs.Cmp.Lexicographic.{pointwise}
use Rattle.std.proofs.lemmas.Bool.Decides.{nat_tests}
use Rattle.std.proofs.lemmas.List.Folds.{list_any-append}
use Rattle.std.proofs.lemmas.Slice.Eq.{bytes_eq-Decides}
use Rattle.std.proofs.Math.Bool.{or-true}
use Rattle.swc_tree_node.specs.declared.node.Node.{Node}
use Rattle.swc_tree_scoping.specs.BoundNames.{Id}
use Rattle.swc_tree_grammar.specs.Blocks.{with_blocks}
use Rattle.swc_tree_grammar.specs.Stripped.{stripped}
use Rattle.swc_tree_grammar.specs.Writable.{is_digit}
use Rattle.swc_tree_grammar.proofs.BlocksKept.{blocks_fit}
use Rattle.swc_tree_grammar.proofs.Kept.{stripped_fits}
use Rattle.swc_base_fixer_laws.specs.Laws.{TargetsStandBare}
use Rattle.swc_base_rename_naming.specs.Texts.{numbered}
use Rattle.swc_base_rename_substitution.specs.declared.place.Place.TheVariants as place
use Rattle.swc_base_rename_substitution.specs.Names.{if_other_text, same_text}
use Rattle.swc_base_rename_units.specs.Eval.{HasEval}
use Rattle.swc_base_rename_units.proofs.Readers.{Decided, reads_decided, some_same}
use Rattle.swc_base_rename_program.specs.Renamed.{hygiene_renaming, new_id_by}
use Rattle.swc_base_renaming_laws.proofs.ErrorsPrograms.{goal_open}
use Rattle.swc_base_renaming_laws.specs.Hygiene.{HygieneStaysFitting, HygieneStaysWritable}
use Rattle.swc_base_renaming_laws.proofs.StaysWritable.{Given, plain_names}
use Rattle.swc_base_renaming_laws.specs.Readers.{BlocksAddNoReader, ContextsAddNoReader, DuePairsAddNoReader, NewNamesAddNoReader, StrippingAddsNoReader}
use Rattle.swc_ecma_transforms_base_laws.specs.Settled.{AnswersReadNoNames}

-- ---- a text with a number behind it is not `eval`

digit : (n : ℕ) → is_digit (digit_glyph false (n % 10)) ≡ true
digit n = grind (arith, nat_tests)

with_digit : (n : ℕ) (ds : List ℕ) → list_any is_digit (digit_glyph false (n % 10) ∷ ds) ≡ true
with_digit n ds = ap (λ b. b || list_any is_digit ds) (digit n)

either : (b : Bool) (xs ys : List ℕ) → list_any is_digit xs ≡ true → list_any is_digit ys ≡ true → list_any is_digit (if b then xs else ys) ≡ true
either true xs ys h g = h
either false xs ys h g = g

more : (k n : ℕ) (ds : List ℕ) → list_any is_digit ds ≡ true → list_any is_digit (digits_onto k 10 false n ds) ≡ true
more zero n ds h = h
more (suc k) n ds h = either (n / 10 == 0) _ _ (with_digit n ds) (more k (n / 10) (digit_glyph false (n % 10) ∷ ds) (with_digit n ds))

first : (k n : ℕ) → list_any is_digit (digits_onto (suc k) 10 false n []) ≡ true
first k n = either (n / 10 == 0) _ _ (with_digit n []) (more k (n / 10) (digit_glyph false (n % 10) ∷ []) (with_digit n []))

number : (n : ℕ) → list_any is_digit (decimal n) ≡ true
unfolding digits
number n = first 63 n

no_eval : (text : List ℕ) (n : ℕ) → text ++ decimal n ≢ codes "eval"
no_eval text n e =
    let has : list_any is_digit (text ++ decimal n) ≡ true = list_any-append is_digit text (decimal n) ∙ ap (λ b. list_any is_digit text || b) (number n) ∙ or-true (list_any is_digit text) in
    let never : true ≡ false = sym has ∙ ap (list_any is_digit) e in absurd (cc)

numbered_apart : (text new : List ℕ) (n : ℕ) → new ≡ numbered text n → pointwise nat_eq new text ≡ false → new ≢ codes "eval"
numbered_apart text new n e other same = by (n == 0) e
  where
    by : (b : Bool) → new ≡ (if b then text else text ++ decimal n) → ⊥
    by true e = let equal : pointwise nat_eq new text ≡ true = (bytes_eq-Decides new text).1 e in let z : true ≡ false = sym equal ∙ other in absurd (cc)
    by false e = no_eval text n (sym e ∙ same)

-- ---- new names

-- a text that counts is the map's, and is another
found_text : (x y : Id) (o : Option (List ℕ)) → if_other_text x (option_map (λ text. (text, [])) o) ≡ Some y → (o ≡ Some y.0) × (same_text y x ≡ false)
found_text x y None e = absurd (cc)
found_text x y (Some text) e = by (same_text (text, []) x) refl e
  where
    by : (b : Bool) → same_text (text, []) x ≡ b → (if b then None else Some (text, [])) ≡ Some y → (Some text ≡ Some y.0) × (same_text y x ≡ false)
    by true h e = absurd (cc)
    by false h e = let same : (text, []) ≡ y = cc in (ap (λ (y : Id). Some y.0) same, ap (λ y. same_text y x) (sym same) ∙ h)

module _ (before given : Node) (names : Given hygiene_renaming before given) (renaming : NewNamesAddNoReader) where
  apart : (x y : Id) → new_id_by names.new_texts x ≡ Some y → y.0 ≢ codes "eval"
  apart x y e =
      let (found, other) = found_text x y (names.new_texts x) e in
      let (a, h) = names.named.no_other x y.0 found in
      let text : y.0 ≡ numbered x.0 (names.named.taken x) = some_same (sym found ∙ (names.named.each a x h).1) in
      numbered_apart x.0 y.0 (names.named.taken x) text other

  given_reads : HasEval given → HasEval before
  given_reads h = by (reads_decided before)
    where
      by : Decided (HasEval before) → HasEval before
      by (inl r) = r
      by (inr none) = absurd (none (subst HasEval (names.given.none no_text) h))
        where
          no_text : (x : Id) → names.new_texts x ≡ None
          no_text x = found (names.new_texts x) refl
            where
              found : (o : Option (List ℕ)) → names.new_texts x ≡ o → names.new_texts x ≡ None
              found None e = e
              found (Some text) e = absurd (none (renaming (new_id_by names.new_texts) place.Other before apart (subst HasEval (names.given.some x text e) h)))

pub answers_read_no_names : HygieneStaysFitting → HygieneStaysWritable → TargetsStandBare → NewNamesAddNoReader → ContextsAddNoReader → StrippingAddsNoReader → BlocksAddNoReader → DuePairsAddNoReader → AnswersReadNoNames
answers_read_no_names fitting stays bare renaming contexts stripping blocks pairs answer a h =
    let (given, renamed, cleared) = a.hygienic in
    let within = fitting a.table a.config a.goal a.before a.middle a.program a.finishable.plain a.stands a.hygienic in
    let writable = stays a.table a.config a.goal a.before a.middle a.finishable.plain a.stands a.finishable.writable a.hygienic in
    let inner = blocks_fit (stripped a.middle) a.goal (stripped_fits a.middle a.goal (bare a.middle a.goal within writable) (goal_open a.goal a.program) within) in
    let read = stripping a.middle a.goal within writable (blocks (stripped a.middle) (pairs a.place (with_blocks (stripped a.middle)) a.goal inner (subst HasEval a.paired h))) in
    a.unread (given_reads a.before given (plain_names hygiene_renaming a.table a.config a.before given a.finishable.plain renamed) renaming (contexts given (subst HasEval cleared read)))
