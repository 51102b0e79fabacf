-- As what a text is read, by how the name of its file ends.
use Rattle.std.proofs.Common.{◌≡◌, Bool, ℕ, List, refl, subst}
use Rattle.std.specs.List.{ends_with}
use Rattle.std.specs.Prelude.{codes, nat_eq}
use Rattle.mucwathi_answers.specs.Answers.{goal_by, goal_named}

pub named : (name bytes : List ℕ) (is_module is_script : Bool) → bytes ≡ name → is_module ≡ ends_with nat_eq bytes (codes ".mjs") → is_script ≡ ends_with nat_eq bytes (codes ".cjs")
    → goal_by is_module is_script ≡ goal_named name
named name bytes is_module is_script same is also =
    let by_bytes : goal_by is_module is_script ≡ goal_named bytes = subst (λ m. goal_by is_module is_script ≡ goal_by m (ends_with nat_eq bytes (codes ".cjs"))) is (subst (λ s. goal_by is_module is_script ≡ goal_by is_module s) also refl) in
    subst (λ name. goal_by is_module is_script ≡ goal_named name) same by_bytes
