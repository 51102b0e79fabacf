-- Statements among others: whether their code is strict.
use Rattle.std.proofs.Common.{◌≡◌, ℕ, suc, ◌+◌, Bool, true, false, Option, Some, None, List, [], ◌∷◌, ◌++◌, drop, is_some, take, refl, sym, ap, ◌∙◌, cond, arith}
use Rattle.std.specs.List.{prefix_len}
use Rattle.std.specs.Option.{option_map}
use Rattle.std.proofs.lemmas.List.{take-append-drop}
use Rattle.swc_tree_node.specs.declared.kind.Kind.{Kind}
use Rattle.swc_tree_node.specs.declared.kind.Kind.TheVariants as kind
use Rattle.swc_tree_node.specs.declared.node.Node.{Node}
use Rattle.swc_tree_scoping.specs.Places.{directive_of, directive_or, has_use_strict, says, string_of}
use Rattle.swc_base_tables_injection.specs.Alone.{opening}
use Rattle.swc_base_tables_injection.specs.Bodies.{is_string}
use Rattle.swc_base_tables_injection.proofs.Strictness.{first_says}
use Rattle.swc_base_tables_laws.proofs.Programs.{code_of}

impossible : {A : Type 0} → false ≡ true → A
impossible h = absurd (cc)

one_more : (n : ℕ) → 1 + n ≡ suc n
one_more n = omega arith

-- what comes behind the leading strings makes nothing strict
behind_none : (body : List Node) → has_use_strict (drop (prefix_len is_string body) body) ≡ false
behind_none [] = refl
behind_none (t ∷ body) = by (string_of t) refl (behind_none body)
  where
    by : (o : Option (List ℕ)) → string_of t ≡ o → has_use_strict (drop (prefix_len is_string body) body) ≡ false → has_use_strict (drop (prefix_len is_string (t ∷ body)) (t ∷ body)) ≡ false
    by None e rest = ap (λ o. has_use_strict (drop (cond (is_some o) (1 + prefix_len is_string body) 0) (t ∷ body))) e ∙ ap (λ o. directive_or (option_map says o) (has_use_strict body)) e
    by (Some x) e rest =
        ap (λ o. has_use_strict (drop (cond (is_some o) (1 + prefix_len is_string body) 0) (t ∷ body))) e ∙ ap (λ k. has_use_strict (drop k (t ∷ body))) (one_more (prefix_len is_string body)) ∙ rest

before_plain : (more back : List Node) → has_use_strict back ≡ false → has_use_strict (more ++ back) ≡ has_use_strict more
before_plain [] back e = e
before_plain (t ∷ more) back e = ap (directive_or (directive_of t)) (before_plain more back e)

behind_same : (front xs ys : List Node) → has_use_strict xs ≡ has_use_strict ys → has_use_strict (front ++ xs) ≡ has_use_strict (front ++ ys)
behind_same [] xs ys e = e
behind_same (t ∷ front) xs ys e = ap (directive_or (directive_of t)) (behind_same front xs ys e)

or_else : (o : Option Bool) (b c : Bool) → directive_or o b ≡ true → (b ≡ true → c ≡ true) → directive_or o c ≡ true
or_else None b c h f = impossible h
or_else (Some true) b c h f = refl
or_else (Some false) b c h f = f h

behind_strict : (front xs ys : List Node) → has_use_strict xs ≡ false → has_use_strict (front ++ xs) ≡ true → has_use_strict (front ++ ys) ≡ true
behind_strict [] xs ys none h = impossible (sym none ∙ h)
behind_strict (t ∷ front) xs ys none h = or_else (directive_of t) (has_use_strict (front ++ xs)) (has_use_strict (front ++ ys)) h (behind_strict front xs ys none)

more_strict : (front back more : List Node) → has_use_strict back ≡ false → (has_use_strict more ≡ true → has_use_strict (front ++ back) ≡ true) → has_use_strict (front ++ back) ≡ has_use_strict (front ++ (more ++ back))
more_strict front back more none h = by (has_use_strict more) refl
  where
    by : (b : Bool) → has_use_strict more ≡ b → has_use_strict (front ++ back) ≡ has_use_strict (front ++ (more ++ back))
    by false e = behind_same front back (more ++ back) (none ∙ sym (before_plain more back none ∙ e))
    by true e = h e ∙ sym (behind_strict front back (more ++ back) none (h e))

-- with more statements behind its leading strings, a program's code is as strict as it was
pub code_stays : (k : Kind) (body more : List Node) → (has_use_strict more ≡ true → code_of k body ≡ true)
    → code_of k (take (prefix_len is_string body) body ++ drop (prefix_len is_string body) body) ≡ code_of k (take (prefix_len is_string body) body ++ (more ++ drop (prefix_len is_string body) body))
code_stays kind.Script body more h =
    more_strict (take (prefix_len is_string body) body) (drop (prefix_len is_string body) body) more (behind_none body) (λ e. ap has_use_strict (take-append-drop (prefix_len is_string body) body) ∙ h e)
code_stays k body more h = refl

-- so are these alone
pub code_alone : (k : Kind) (body more : List Node) → code_of k (opening (code_of k body) ∷ more) ≡ code_of k body
code_alone kind.Script body more = first_says (has_use_strict body) more
code_alone k body more = refl
