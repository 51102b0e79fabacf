use Rattle.std.proofs.Common.{rules, ◌≡◌, ◌||◌, false, Bool, true, ◌∷◌, [], List, map, refl, sym, ap, ◌∙◌}
use Rattle.std.specs.List.{list_any}
use Rattle.std.specs.BTreeSet.{contains_text}
use Rattle.std.specs.Str.{bytes_eq}
use Rattle.std.proofs.lemmas.List.Folds.{list_any-append}
use Rattle.std.proofs.lemmas.Map.Iter.{iter_end}
use Rattle.std.specs.Map.Iter.{deref}
use Rattle.std.specs.HashSet.{keys}
use Rattle.swc_base_rename_program.proofs.left.texts_of.Goals as goal

behind : (b c : Bool) → (b || c) ≡ (b || (c || false))
behind true c = refl
behind false true = refl
behind false false = refl

pub loop-id-preserved : goal.loop-id-preserved
loop-id-preserved c = λ x.
    c.in_ok-add_text.ensures x
    ∙ behind (contains_text c.loop-id.texts x) (bytes_eq c.in-Some.id.now.0 x)
    ∙ ap (λ b. b || (bytes_eq c.in-Some.id.now.0 x || false)) (c.loop-id.invariant x)
    ∙ sym (list_any-append (λ id. bytes_eq id.now.0 x) c.loop-id.yielded (c.in-Some.id ∷ []))

any_shown : {A B : Type 0} (f : A → B) (p : B → Bool) (xs : List A) → list_any (λ x. p (f x)) xs ≡ list_any p (map f xs)
any_shown f p [] = refl
any_shown f p (x ∷ xs) = ap (λ b. p (f x) || b) (any_shown f p xs)

pub returns : goal.returns
returns c = λ x.
    let all : map deref c.loop-id.yielded ≡ keys c.args.ids.now = search (rules, iter_end) in
    c.loop-id.invariant x ∙ any_shown deref (λ id. bytes_eq id.0 x) c.loop-id.yielded ∙ ap (list_any (λ id. bytes_eq id.0 x)) all
